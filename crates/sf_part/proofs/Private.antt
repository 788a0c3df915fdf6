-- Private events are steps.
-- Names: `private-LAW`.
use Rattle.std.specs.Prelude.{List, [], ◌∷◌, ◌++◌, map}
use Rattle.std.proofs.Common.{true≢false, sym, ◌∙◌, subst}
use Rattle.sf_base.specs.declared.ids.ResId.{ResId}
use Rattle.sf_core.specs.Checked.Machine.Laws.{Moves}
use Rattle.sf_core.specs.Machine.Config.{runs, Config}
use Rattle.sf_core.specs.Machine.Next.{Next, does, leaves, returns, joins, nothing, next}
use Rattle.sf_core.specs.Machine.Step.{Event}
use Rattle.sf_core.specs.Machine.Supplies.{has}
use Rattle.sf_core.specs.Machine.Whole.{Part, Content, numbers, own_stand, Whole}
use Rattle.sf_core.specs.Program.Syntax.{fork, with, Program}
use Rattle.sf_part.specs.Steps.{IsPrivate, Private, Privates}
use Rattle.sf_part.specs.Timed.{TimedPart}
use Rattle.sf_part.proofs.Beside.{beside-step, free-after, next-step, next_config, spent-number, spent-once, spent-one, spent-unused, takes-at, takes-one}
use Rattle.sf_part.proofs.Leads.{Single, leads-along, leads-compose, leads-none, leads-one, supplied-focus, supplied-unfocus}
use Rattle.sf_part.proofs.Shares.{shares-run}
use Rattle.sf_part.specs.Checked.Laws.{Leads}
use Rattle.sf_part.proofs.Order.{whole-focus, whole-unfocus}
use Rattle.sf_part.proofs.Tasks.{own-task}

-- a private event moves no resource
private-still : (p : Program) (what : Next) (r : ResId) → IsPrivate p what → Moves p what r → ⊥
private-still p (does f below (fork place c d) rest) r h m = h
private-still p (does f below (with place q test body) rest) r h m = h
private-still p (does f below _ rest) r h m = m
private-still p (leaves f below q rest) r h m = h
private-still p (returns f below) r h m = true≢false (sym m ∙ h)
private-still p (joins frames one two) r h m = h
private-still p nothing r h m = h

-- a private event of the first part is a step
pub private-step : (p : Program) (ev : Event) (a b : TimedPart) (others : List Part)
    (contents : List Content)
    (c : Config) → Private p ev a b → Whole (a.part ∷ others) contents c
    → Single p ev c (a.part ∷ others) (b.part ∷ others) contents
private-step p ev a b others contents c e w =
    let units = takes-one ev (next (runs e.frames)) (numbers a.part.supply) (numbers b.part.supply)
    e.spends in
    let spent = spent-one ev a.part b.part others units in
    let number = spent-number ev (a.part ∷ others) (b.part ∷ others) c spent w.unused in
    let still = λ (r : ResId) (m : Moves p (next (runs e.frames)) r). private-still p
    (next (runs e.frames)) r e.private m in
    let s = beside-step p ev a.part b.part (runs e.frames) (runs e.kept) others contents c e.acts
    (record { heap = w.heap; store = w.store; held = w.held }) number
    (takes-at p ev (next (runs e.frames)) (has (numbers a.part.supply))
    (has (numbers b.part.supply)) e.spends)
    (λ r m. absurd (still r m)) in
    let here = own-task c.tasks a.part (map own_stand others) e.frames e.acts.own w.tasks
    e.acts.from_is in
    record {
      config = next_config c ev s.after (runs e.kept);
      step = next-step p ev c (runs e.frames) (runs e.kept) s.after number.used here.0 s.steps;
      whole = record {
        tasks = here.1 b.part e.kept e.acts.task e.acts.to_is;
        heap = s.beside.heap;
        store = s.beside.store;
        held = s.beside.held;
        free = free-after p (next (runs e.frames)) c.common s.after contents s.kept
            (λ r m. absurd (still r m)) w.free;
        different = w.different;
        once = spent-once ev (a.part ∷ others) (b.part ∷ others) spent w.once;
        unused = spent-unused ev (a.part ∷ others) (b.part ∷ others) c s.after (runs e.kept) spent
            w.once w.unused
            s.unused;
      };
      takes = shares-run ev c a.part b.part others e.frames e.kept e.acts.own here.0 e.spends
          e.acts.from_is e.acts.task
          e.acts.to_is;
    }

-- private events of the first part, one after the other, lead on
private-leads : (p : Program) (events : List Event) (a b : TimedPart) (others : List Part)
    (contents : List Content)
    (c : Config) → Privates p a events b → Whole (a.part ∷ others) contents c
    → Leads p events c (a.part ∷ others) (b.part ∷ others) contents
private-leads p [] a b others contents c e w =
    subst (λ (z : TimedPart). Leads p [] c (a.part ∷ others) (z.part ∷ others) contents) (sym e)
    (leads-none p c (a.part ∷ others) contents w)
private-leads p (ev ∷ events) a b others contents c (m, e, es) w =
    let first = leads-one p ev c (a.part ∷ others) (m.part ∷ others) contents
    (private-step p ev a m others contents c e w) in
    leads-compose p (ev ∷ []) events c (a.part ∷ others) (m.part ∷ others) (b.part ∷ others)
    contents contents first
    (private-leads p events m b others contents first.config es first.whole)

-- so do those of a part in the middle
pub privates-lead : (p : Program) (events : List Event) (a b : TimedPart) (before after : List Part)
    (contents : List Content) (c : Config) → Privates p a events b
    → Whole (before ++ a.part ∷ after) contents c
    → Leads p events c (before ++ a.part ∷ after) (before ++ b.part ∷ after) contents
privates-lead p events a b before after contents c e w =
    leads-along p events c (a.part ∷ before ++ after) (before ++ a.part ∷ after)
    (b.part ∷ before ++ after)
    (before ++ b.part ∷ after) contents contents (λ s h. supplied-focus s before after a.part h)
    (λ s h. supplied-unfocus s before after b.part h)
    (λ d h. whole-unfocus before after b.part contents d h)
    (private-leads p events a b (before ++ after) contents c e
    (whole-focus before after a.part contents c w))
