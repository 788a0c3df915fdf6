use Rattle.std.specs.Prelude.{false}
use Rattle.sf_core.specs.Assertions.Sat.{value}
use Rattle.sf_precise.specs.Checked.Lemmas.OrderMeaning.{level-sat, sat-level}
use Rattle.sf_precise.proofs.laws.order_keeps_meaning.Goals as goal

pub returns : goal.returns
returns c =
    λ a o vars some heap i. (
      λ d. level-sat (value vars) (λ n. false) a o some heap i d,
      λ d. sat-level (value vars)
          (λ n. false) a o some heap i d,
    )
