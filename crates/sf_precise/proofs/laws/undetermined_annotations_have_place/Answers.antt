use Rattle.sf_precise.proofs.Closing.{undetermined_annotations_have_place}
use Rattle.sf_precise.proofs.laws.undetermined_annotations_have_place.Goals as goal

pub returns : goal.returns
returns c = undetermined_annotations_have_place
