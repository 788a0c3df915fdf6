-- What a look at the tasks in a view asks: that the rule holds after it, and what it tells.
-- Names: `KIND-word` of that kind of step.
use Rattle.std.specs.Prelude.{◌≡◌, ℕ, true}
use Rattle.std.proofs.Common.{refl}
use Rattle.atomic_table.specs.Table.{Allows, Me}
use Rattle.sf_region.specs.Checked.PartLaws.{PartLaws}
use Rattle.sf_region.proofs.Asks.{loads}
use Rattle.sf_region.proofs.Used.{drained-running, drained-waiting}
use Rattle.sf_region.specs.declared.views.Begun.{Begun}
use Rattle.sf_region.specs.declared.views.View.{View}
use Rattle.sf_region.specs.Plays.{drains}
use Rattle.sf_region.specs.Rule.{Slot, Law}

-- a load of word 0, at which a seat learns that its task has used what it was given
pub drains-word : PartLaws → (about : Begun) (slots id : ℕ) (me : Me Slot View) → me.0.live ≡ true
    → Allows (Law about) slots id me 0 (λ n. n) (λ _ n. drains me n)
drains-word laws b slots id me live = loads b slots id me (λ _ n. drains me n) (λ s law at. (
  refl,
  λ spent. drained-running laws b s law id me.0 at live spent,
  λ one two kids spent. drained-waiting laws b s law id me.0 at live one two kids spent,
))
