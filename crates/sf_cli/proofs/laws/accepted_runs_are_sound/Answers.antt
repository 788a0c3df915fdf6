use Rattle.sf_cli.proofs.Accepted.{accepted-run}
use Rattle.sf_cli.proofs.laws.accepted_runs_are_sound.Goals as goal

pub returns : goal.returns
returns c = accepted-run c.each_file_is_shallow.ensures c.elaborated_is_formed.ensures c.taken_tags_prove.ensures
    c.proofs_are_sound.ensures
