-- A real call: one that a program makes of a function, with the contract that the toolchain makes of the function's source.
-- Assumes nothing.
use mathlib.Core.Path.{◌≡◌}
use mathlib.Core.List.{List, []}
use Prim.Native.Nat.{ℕ}
use base.Logic.{ent, emp}
use contract.Lifetimes
use contract.Monad
use borrow.Fn.World
use denote.Triple.Clauses

-- a function's contract, in every model of the logic
abbrev pub Contract : Clauses.Ended → Type 2
Contract T = (w : World.World) → Clauses.Clauses w.𝓤 T

module _ (T : Clauses.Ended) where
  -- its lifetimes, its arguments, its result, and its lent parts as it returns
  pub record RealCall : Type 0 where
    pub κs : Lifetimes.Lfts T.signature.lifetimes
    pub args : World.ArgsD T.signature κs
    pub result : World.ResD T.signature κs
    pub exit : Clauses.AtExit T κs

  module _ (c : Contract T) where
    -- A call met the contract: every plain fact that its `ensures` tells, in every model, holds of it.
    abbrev pub Met : RealCall → Type 2
    Met k =
        (told : Type 0) → ((w : World.World) (g : (c w k.κs k.args).ghost) → ent w.𝓤 ((c w k.κs k.args).ensures g k.result k.exit) (Monad.fact w.𝓤 told)) → told

    -- It asks of a caller nothing but the arguments: in every model its `requires` is had from nothing; and no lifetime is to outlive another but by `bounds`, which
    -- the types of the arguments have, as pairs of lifetimes' numbers.
    pub record AsksOnly (bounds : List (ℕ × ℕ)) : Type 2 where
      pub outlives : Lifetimes.bounds_of T.signature.lifetimes T.signature.outlives ≡ bounds
      pub requires : (κs : Lifetimes.Lfts T.signature.lifetimes) (a : World.ArgsD T.signature κs) (w : World.World)
          → (g : (c w κs a).ghost) × ent w.𝓤 (emp w.𝓤) ((c w κs a).requires g)

    abbrev pub AsksNothing : Type 2
    AsksNothing = AsksOnly []
