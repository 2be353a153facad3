-- What a type names has to outlive what is lent. Of a type that names nothing this asks nothing.
-- Assumes nothing.
use mathlib.Core.List.{[]}
use base.Logic.{ent, emp, sep, via, id⊢, emp∗, mono∗}
use base.Fml.{Lft}
use contract.BorrowLft.{◌⊑◌, ⊑_static}
use contract.Monad.{fact, fact_i}
use borrow.Fn.World.{World}

pub names_none : (w : World) (κ : Lft) → ent w.𝓤 (emp w.𝓤) (sep w.𝓤 (fact w.𝓤 (κ ⊑ [])) (emp w.𝓤))
names_none w κ = via w.𝓤 (sep w.𝓤 (emp w.𝓤) (emp w.𝓤)) (emp∗ w.𝓤 (emp w.𝓤)) (mono∗ w.𝓤 (fact_i w.𝓤 (κ ⊑ []) (emp w.𝓤) (⊑_static κ)) (id⊢ w.𝓤 (emp w.𝓤)))
