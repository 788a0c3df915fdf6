use Rattle.std.proofs.Common.{◌≡◌, ◌∙◌, [], List, MatchOption, Option, ap, map, refl, subst, sym}
use Rattle.sf_core.specs.Machine.Bad.{Bad}
use Rattle.sf_core.specs.Program.ProgramView.{program_of}
use Rattle.sf_machine.specs.Configs.{config_of}
use Rattle.sf_replay.proofs.Firsts.{bad-first}
use Rattle.sf_replay.proofs.Going.{going-bad}
use Rattle.sf_replay.specs.Checked.Going.{IsBadAt}
use Rattle.sf_replay.specs.Checked.Looks.{found_in, seen_of}
use Rattle.sf_replay.specs.declared.found.Found.{Found}
use Rattle.sf_replay.specs.declared.look.Look.{Look}
use Rattle.sf_replay.proofs.replaying.replay_from.Goals as goal

pub replay_on-requires-clause-fine : goal.replay_on-requires-clause-fine
replay_on-requires-clause-fine c =
    let now = config_of c.args.c.now in
    let is : c.found_in.result ≡ found_in 0 (map seen_of c.in_ok-known.known.items) =
    c.found_in.ensures ∙ ap (λ (z : List Look). found_in 0 (map seen_of z)) c.deref.ensures.value in
    subst (λ (o : Option Found). MatchOption o (Bad now → ⊥) (IsBadAt 0 now)) (sym is ∙ c.in-None.is)
    (bad-first now 0 (map seen_of c.in_ok-known.known.items) c.in_ok-known.ensures)

pub returns-in-Some : goal.returns-in-Some
returns-in-Some c =
    let now = config_of c.args.c.now in
    let is : c.found_in.result ≡ found_in 0 (map seen_of c.in_ok-known.known.items) =
    c.found_in.ensures ∙ ap (λ (z : List Look). found_in 0 (map seen_of z)) c.deref.ensures.value in
    going-bad (program_of c.args.p.now) now now c.args.events.now c.args.events.now 0 c.in-Some.found
    (record { done = []; split = refl; count = refl; leads = refl })
    (subst (λ (o : Option Found). MatchOption o (Bad now → ⊥) (IsBadAt 0 now)) (sym is ∙ c.in-Some.is)
    (bad-first now 0 (map seen_of c.in_ok-known.known.items) c.in_ok-known.ensures))
