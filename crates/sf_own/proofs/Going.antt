-- A task that goes on keeps its part safe, whatever it does.
-- Names: that of the law's function.
use Rattle.std.proofs.Common.{sym, subst}
use Rattle.sf_core.specs.Program.Syntax.{Program}
use Rattle.sf_own.specs.Checked.Accepted.{IsAccepted}
use Rattle.sf_own.specs.Checked.Laws.{EntriesKeepSafe, ExitsKeepSafe, ForksKeepSafe, GoingKeepsSafe, JoinsKeepSafe, PrivateEventsKeepSafe}
use Rattle.sf_own.specs.Checked.Safe.{IsSafe}
use Rattle.sf_part.specs.Going.{GoesTo, stays, steps, enters, leaves, forks}
use Rattle.sf_part.specs.Timed.{TimedPart}
use Rattle.sf_safe.specs.Checked.Contract.{Known}

module _ (private_law : PrivateEventsKeepSafe) (entry_law : EntriesKeepSafe)
    (exit_law : ExitsKeepSafe) (fork_law : ForksKeepSafe) (join_law : JoinsKeepSafe) (p : Program)
    (accepted : IsAccepted p) where
  keeps-safe : (owed : Known) (a b : TimedPart) → GoesTo p a b → IsSafe p owed a.part
      → IsSafe p owed b.part
  unfolding PrivateEventsKeepSafe EntriesKeepSafe ExitsKeepSafe ForksKeepSafe JoinsKeepSafe
  keeps-safe owed a b (stays same) h =
      subst (λ (z : TimedPart). IsSafe p owed z.part) (sym same) h
  keeps-safe owed a c (steps {b = b} event before keeps of e) h =
      private_law p accepted owed event b c keeps e (keeps-safe owed a b before h)
  keeps-safe owed a c (enters {b = b} event content before e of) h =
      entry_law p accepted owed event b content c e of (keeps-safe owed a b before h)
  keeps-safe owed a c (leaves {b = b} event content before e) h =
      exit_law p accepted owed event b content c e (keeps-safe owed a b before h)
  keeps-safe owed a c
      (forks {b = b} event later waits one two left right before keeps of e go_left go_right j) h =
      let all = fork_law p accepted owed event b waits one two keeps e of
      (keeps-safe owed a b before h) in
      join_law p accepted owed all.left all.right later waits left right c j all.waits
      (keeps-safe all.left one left go_left all.first)
      (keeps-safe all.right two right go_right all.second)

pub going_keeps_safe : PrivateEventsKeepSafe → EntriesKeepSafe → ExitsKeepSafe → ForksKeepSafe
    → JoinsKeepSafe → GoingKeepsSafe
unfolding GoingKeepsSafe
going_keeps_safe private_law entry_law exit_law fork_law join_law p accepted owed a b go h =
    keeps-safe private_law entry_law exit_law fork_law join_law p accepted owed a b go h
