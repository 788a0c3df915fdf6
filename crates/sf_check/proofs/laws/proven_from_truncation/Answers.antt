use Rattle.sf_check.specs.Checked.Laws.{ProvenFromTruncation}
use Rattle.sf_check.proofs.ProvenHad.{proven-had}
use Rattle.sf_check.proofs.laws.proven_from_truncation.Goals as goal

pub returns : goal.returns
unfolding ProvenFromTruncation
returns c =
    proven-had c.ordering_exists.ensures c.setting_is_unique.ensures c.arranged_has_setting.ensures
