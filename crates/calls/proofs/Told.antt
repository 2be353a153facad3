-- A contract with several `ensures` clauses tells what each of them says.
-- Assumes nothing.
use base.Logic.{ent, sep, via, fst∗, snd∗}
use contract.Monad.{fact, fact_i, fact_use}
use borrow.Fn.World.{World}

module _ (w : World) (A B : Type 0) where
  pub two-told : ent w.𝓤 (sep w.𝓤 (fact w.𝓤 A) (fact w.𝓤 B)) (fact w.𝓤 (A × B))
  two-told =
      fact_use w.𝓤 A (fst∗ w.𝓤 (fact w.𝓤 A) (fact w.𝓤 B)) (λ a.
      fact_use w.𝓤 B (snd∗ w.𝓤 (fact w.𝓤 A) (fact w.𝓤 B)) (λ b. fact_i w.𝓤 (A × B) _ (a, b)))

module _ (w : World) (A B C : Type 0) where
  pub three-told : ent w.𝓤 (sep w.𝓤 (fact w.𝓤 A) (sep w.𝓤 (fact w.𝓤 B) (fact w.𝓤 C))) (fact w.𝓤 (A × B × C))
  three-told =
      fact_use w.𝓤 A (fst∗ w.𝓤 (fact w.𝓤 A) (sep w.𝓤 (fact w.𝓤 B) (fact w.𝓤 C))) (λ a.
      fact_use w.𝓤 (B × C) (via w.𝓤 (sep w.𝓤 (fact w.𝓤 B) (fact w.𝓤 C)) (snd∗ w.𝓤 (fact w.𝓤 A) (sep w.𝓤 (fact w.𝓤 B) (fact w.𝓤 C))) (two-told w B C))
      (λ r. fact_i w.𝓤 (A × B × C) _ (a, r.0, r.1)))
