use Rattle.sf_cli.proofs.AReplay.{clean-proved}
use Rattle.sf_cli.proofs.laws.proved_programs_are_replayed_safely.Goals as goal

pub returns : goal.returns
returns c = clean-proved c.sound_runs_are_clean.ensures c.beginnings_are_starts.ensures c.each_file_is_shallow.ensures
    c.elaborated_is_formed.ensures c.proofs_are_sound.ensures
