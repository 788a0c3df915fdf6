-- The law of equal weights, under the name of its function in src/laws.rt.
use Rattle.sf_trace.specs.Checked.Laws.{EqualWeightsPermute}
use Rattle.sf_trace.specs.Checked.Lemmas.Weights.{weights-permute}

pub equal_weights_permute : EqualWeightsPermute
unfolding EqualWeightsPermute
equal_weights_permute xs ys h = weights-permute xs ys h
