use Rattle.std.proofs.Common.{◌≡◌, []}
use Rattle.std.specs.Bool.{one_answer}
use Rattle.std.proofs.lemmas.Option.{get_or_from_slice_get}
use Rattle.sf_vars.specs.Checked.Search.{is_in, free_of}
use Rattle.sf_vars.proofs.Meets.{is_in_is}
use Rattle.sf_vars.proofs.at_calls.is_free.Goals as goal

pub returns : goal.returns
returns c =
    let set : free_of c.args.calls.now c.args.g
    ≡ c.free.result.now = get_or_from_slice_get c.args.calls.now.free c.args.g.0 c.free.result.now []
    c.free.ensures in
    rw set (one_answer c.contains.result (is_in c.free.result.now c.args.x) c.contains.ensures
    (is_in_is c.free.result.now c.args.x))
