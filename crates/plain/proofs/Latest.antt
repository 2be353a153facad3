-- Loading reads one by one leaves the first of the latest-stamped.
-- Assumes nothing.
use mathlib.Core.Bool.{Bool, true, false, cond, ◌||◌}
use mathlib.Core.List.{List, [], ◌∷◌, ◌++◌, append_assoc, append-nil}
use mathlib.Core.Path.{◌≡◌, refl}
use Rattle.reads.proofs.Stamps.{later_trans, later_chain}
use Rattle.cell.specs.Layout.{Words}
use Rattle.reads.specs.Load.{holds_none, is_later, merge}
use Rattle.cell.specs.Read.{stamp_in}
use Rattle.plain.specs.Table.{candidates, Later, NotLater, Each, FirstLatest, SettledBy, Settled}
use Rattle.plain.proofs.Loads.{merge_all}

pub each_map : (P Q : Words → Type 0) → ((x : Words) → P x → Q x) → (l : List Words) → Each P l → Each Q l
unfolding Each
each_map P Q f [] h = tt
each_map P Q f (x ∷ l) h = (f x h.0, each_map P Q f l h.1)

pub each_append : (P : Words → Type 0) (k l : List Words) → Each P k → Each P l → Each P (k ++ l)
unfolding Each
each_append P [] l h g = g
each_append P (x ∷ k) l h g = (h.0, each_append P k l h.1 g)

-- one read more
more : (l : List Words) (h r : Words) → holds_none h ≡ false → FirstLatest l h → FirstLatest (l ++ (r ∷ [])) (merge h r)
unfolding merge Each
more l h r e f = go (is_later (stamp_in r) (stamp_in h)) refl
  where
    go : (c : Bool) → is_later (stamp_in r) (stamp_in h) ≡ c → FirstLatest (l ++ (r ∷ [])) (cond (holds_none h || is_later (stamp_in r) (stamp_in h)) r h)
    go true q = rw (e, q)
        record {
          before = l;
          after = [];
          split = refl;
          above = rw f.split (each_append (λ x. Later x r) f.before (h ∷ f.after) (each_map _ _ (λ x p. later_trans (stamp_in x) (stamp_in h) (stamp_in r) p q) f.before f.above) (q, each_map _ _ (λ x p. later_chain (stamp_in x) (stamp_in h) (stamp_in r) p q) f.after f.not_below));
          not_below = tt;
        }
    go false q = rw (e, q)
        record {
          before = f.before;
          after = f.after ++ (r ∷ []);
          split = rw f.split (append_assoc f.before (h ∷ f.after) (r ∷ []));
          above = f.above;
          not_below = each_append (λ x. NotLater h x) f.after (r ∷ []) f.not_below (q, tt);
        }

abbrev pub Held : Words → Type 0
Held w = holds_none w ≡ false

merge-held : (h r : Words) → Held h → Held r → Held (merge h r)
unfolding merge
merge-held h r p q = go (holds_none h || is_later (stamp_in r) (stamp_in h))
  where
    go : (c : Bool) → Held (cond c r h)
    go true = q
    go false = p

merge-empty : (h r : Words) → holds_none h ≡ true → merge h r ≡ r
unfolding merge
merge-empty h r p = rw p

all_latest : (l : List Words) (h : Words) (rs : List Words) → Held h → Each Held rs → FirstLatest l h → FirstLatest (l ++ rs) (merge_all h rs)
unfolding Each merge_all
all_latest l h [] p q f = rw append-nil f
all_latest l h (r ∷ rs) p q f =
    rw append_assoc at (all_latest (l ++ (r ∷ [])) (merge h r) rs (merge-held h r p q.0) q.1 (more l h r p f))

only : (h : Words) → FirstLatest (h ∷ []) h
unfolding Each
only h = record { before = []; after = []; split = refl; above = tt; not_below = tt }

pub settles : (held : Words) (reads : List Words) → Each Held reads → Settled held reads (merge_all held reads)
unfolding Settled candidates merge_all Each
settles held reads q = go (holds_none held) refl reads q
  where
    go : (c : Bool) → holds_none held ≡ c → (rs : List Words) → Each Held rs → SettledBy (cond c rs (held ∷ rs)) held (merge_all held rs)
    go true e [] g = refl
    go true e (r ∷ rs) g = rw (merge-empty held r e) (all_latest (r ∷ []) r rs g.0 g.1 (only r))
    go false e rs g = all_latest (held ∷ []) held rs e g (only held)
