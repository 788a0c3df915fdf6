use Rattle.std.proofs.Common.{◌∙◌, ◌+◌, MatchOption, Option, inr, length, subst, sym, true≢false}
use Rattle.std.specs.List.{All}
use Rattle.std.proofs.lemmas.List.Elements.{All-tail}
use Rattle.sf_core.specs.Machine.Bad.{Bad}
use Rattle.sf_core.specs.Program.ProgramView.{program_of}
use Rattle.sf_machine.specs.Configs.{config_of}
use Rattle.sf_replay.specs.Checked.Going.{IsBadAt}
use Rattle.sf_replay.specs.Checked.Taking.{IsWide}
use Rattle.sf_replay.specs.declared.found.Found.{Found}
use Rattle.sf_replay.proofs.Going.{going-bad, going-clean, going-next, going-stop, none-left}
use Rattle.sf_replay.proofs.replaying.replay_on.Goals as goal

pub returns-then-not-is_moved : goal.returns-then-not-is_moved
returns-then-not-is_moved c =
    inr (going-stop (program_of c.args.p.now) (config_of c.args.c.now) (config_of c.events.c) c.args.events.now
    c.events.left.now c.in-Some.rest.now c.in-Some.next.now c.events.number c.in_ok-stepped.stepped
    c.in-Some.ensures.cases.0 c.events.invariant.3 c.events.invariant.5
    (λ moved. true≢false (sym (c.is_moved.ensures.1 moved) ∙ c.if-not-is_moved.true))
    c.in_ok-stepped.ensures.answers)

pub returns-in-Some-2 : goal.returns-in-Some-2
returns-in-Some-2 c =
    let now = config_of c.events.c in
    let after = config_of c.step.new.c in
    going-bad (program_of c.args.p.now) (config_of c.args.c.now) after c.args.events.now c.in-Some.rest.now
    (c.events.number + 1) c.in-Some-2.found
    (going-next (program_of c.args.p.now) (config_of c.args.c.now) now after c.args.events.now c.events.left.now
    c.in-Some.rest.now c.in-Some.next.now c.events.number c.in-Some.ensures.cases.0 c.events.invariant.3
    c.events.invariant.5 (c.in_ok-stepped.ensures.moved (c.is_moved.ensures.0 c.if-not-is_moved.false)))
    (subst (λ (o : Option Found). MatchOption o (Bad after → ⊥) (IsBadAt (c.events.number + 1) after)) c.in-Some-2.is
    (c.in_ok-found.ensures.found now c.events.invariant.4 c.events.invariant.5))

pub events-preserved : goal.events-preserved
events-preserved c =
    let now = config_of c.events.c in
    let after = config_of c.step.new.c in
    let count = length c.args.p.now.fields.items in (
      c.in_ok-stepped.ensures.reached,
      c.in_ok-stepped.ensures.wide,
      All-tail (IsWide count) c.in-Some.next.now c.in-Some.rest.now
          (subst (All (IsWide count)) c.in-Some.ensures.cases.0 c.events.invariant.2),
      going-next (program_of c.args.p.now) (config_of c.args.c.now) now after c.args.events.now c.events.left.now
          c.in-Some.rest.now c.in-Some.next.now c.events.number c.in-Some.ensures.cases.0 c.events.invariant.3
          c.events.invariant.5 (c.in_ok-stepped.ensures.moved (c.is_moved.ensures.0 c.if-not-is_moved.false)),
      c.in_ok-found.ensures.known,
      subst (λ (o : Option Found). MatchOption o (Bad after → ⊥) (IsBadAt (c.events.number + 1) after))
          c.in_default-2.is (c.in_ok-found.ensures.found now c.events.invariant.4 c.events.invariant.5),
    )

pub returns : goal.returns
returns c =
    going-clean (program_of c.args.p.now) (config_of c.args.c.now) (config_of c.events.c) c.args.events.now
    c.events.left.now c.events.number (none-left c.events.left.now c.in_default.ensures.cases) c.events.invariant.3
    c.events.invariant.5
