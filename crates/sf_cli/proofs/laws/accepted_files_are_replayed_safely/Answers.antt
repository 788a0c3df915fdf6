use Rattle.sf_cli.proofs.AReplay.{clean-accepted}
use Rattle.sf_cli.proofs.laws.accepted_files_are_replayed_safely.Goals as goal

pub returns : goal.returns
returns c = clean-accepted c.sound_runs_are_clean.ensures c.beginnings_are_starts.ensures
    c.each_file_is_decided.ensures c.accepted_files_are_sound.ensures
