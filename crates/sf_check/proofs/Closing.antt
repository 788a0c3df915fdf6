-- The laws of the crate, under the names of their functions in src/laws.rt.
use Rattle.std.proofs.Common.{inl, inr}
use Rattle.sf_check.proofs.Finishing.{proves-finishes, finishes-proves}
use Rattle.sf_check.proofs.Refusing.{finishes-or_refused, refused-never, refused-once}
use Rattle.sf_check.specs.Checked.Laws.{ProvesNotRefused, ProvesOrRefused, RefusedOnce}

pub proves_or_refused : ProvesOrRefused
unfolding ProvesOrRefused
proves_or_refused =
    λ d tags. elim (finishes-or_refused d tags) [
      | inl h ↦ inl (finishes-proves d tags h)
      | inr r ↦ inr r
    ]

pub proves_not_refused : ProvesNotRefused
unfolding ProvesNotRefused
proves_not_refused = λ d tags n why p r. refused-never d tags n why (proves-finishes d tags p) r

pub refused_once : RefusedOnce
unfolding RefusedOnce
refused_once = λ d tags n m why other r q. refused-once d tags n m why other r q
