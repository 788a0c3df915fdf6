-- Whoever holds no more than that tags prove a program, by some function that puts annotations in order, has that
-- they do: one function does, and whether they prove the program by it is decided by taking them.
use Rattle.std.proofs.Common.{◌≡◌, ◌⊎◌, inl, inr, List, subst}
use Rattle.std.proofs.Math.Logic.{∥∥₁_elim}
use Rattle.sf_core.specs.Program.ProgramView.{program_of}
use Rattle.sf_core.specs.Program.Syntax.{Assertion}
use Rattle.sf_precise.specs.declared.arranged.Arranged.{Arranged}
use Rattle.sf_precise.specs.Checked.Laws.{OrderingExists}
use Rattle.sf_precise.specs.Order.{IsOrdering}
use Rattle.sf_rules.specs.Checked.LawsOfSettings.{ArrangedHasSetting, SettingIsUnique}
use Rattle.sf_rules.specs.Proving.{Proves}
use Rattle.sf_rules.specs.Setting.{Setting, setting_of}
use Rattle.sf_sym.specs.declared.tag.Tag.{Tag}
use Rattle.sf_check.specs.Proven.{Proven}
use Rattle.sf_check.specs.Stand.{start}
use Rattle.sf_check.proofs.Finishing.{Finishes, finishes-proves, proves-finishes}
use Rattle.sf_check.proofs.Refusing.{IsRefused, finishes-or_refused, refused-never}

-- what the code has arranged has one setting, by whatever function puts annotations in order
setting-one : SettingIsUnique → ArrangedHasSetting → (arranged : Arranged) (f g : Assertion → Assertion)
    → IsOrdering f → IsOrdering g → setting_of f arranged ≡ setting_of g arranged
unfolding SettingIsUnique ArrangedHasSetting
setting-one unique has arranged f g one two =
    unique (program_of arranged.program) (setting_of f arranged) (setting_of g arranged) (has f arranged one)
    (has g arranged two)

-- that tags prove a program follows from its truncation
pub proven-had : OrderingExists → SettingIsUnique → ArrangedHasSetting → (arranged : Arranged)
    → (tags : List Tag) → ∥ Proven arranged tags ∥₁ → Proven arranged tags
unfolding OrderingExists
proven-had exists unique has arranged tags h =
    go (finishes-or_refused (setting_of exists.0 arranged) tags)
  where
    contradicts : IsRefused (setting_of exists.0 arranged) tags → Proven arranged tags → ⊥
    contradicts r p =
        let same = setting-one unique has arranged p.0 exists.0 p.1 exists.1 in
        refused-never (setting_of exists.0 arranged) tags r.0 r.1
        (proves-finishes (setting_of exists.0 arranged) tags (subst (λ (d : Setting). Proves d tags) same p.2)) r.2

    go : Finishes (setting_of exists.0 arranged) start tags ⊎ IsRefused (setting_of exists.0 arranged) tags
        → Proven arranged tags
    go (inl f) = (exists.0, exists.1, finishes-proves (setting_of exists.0 arranged) tags f)
    go (inr r) = absurd (∥∥₁_elim h (hlevel) (contradicts r))
