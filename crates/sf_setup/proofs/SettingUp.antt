-- What is so where the procedure that sets the resources up has run.
-- Names: `out-LAW` of the contents that are handed out, `returns-LAW` of the return that does so;
-- the lemma of the law has the name of its function.
use Rattle.std.specs.Prelude.{◌≡◌, Bool, true, false, cond, List, [], ◌∷◌, ◌++◌, Contains, Some, None}
use Rattle.std.proofs.Common.{true≢false, sym, ap, ◌∙◌, refl, subst, inl, inr}
use Rattle.std.proofs.lemmas.List.{append-nil}
use Rattle.std.proofs.lemmas.Option.{none-some}
use Rattle.sf_base.proofs.Elements.{contains-nil, contains-single}
use Rattle.sf_base.specs.declared.ids.ResId.{ResId}
use Rattle.sf_core.proofs.HeadsWithin.{calls-within, sites-within}
use Rattle.sf_core.specs.Machine.Config.{Item, command, leave, Fixed, Frame, runs}
use Rattle.sf_core.specs.Machine.Next.{next}
use Rattle.sf_core.specs.Machine.Step.{Event, TaskStep}
use Rattle.sf_core.specs.Machine.Supplies.{has, units}
use Rattle.sf_core.specs.Machine.Whole.{Part, Whole, holders, running}
use Rattle.sf_core.specs.Program.Formed.{IsFormed}
use Rattle.sf_core.specs.Program.Init.{sets_up}
use Rattle.sf_core.specs.Program.Syntax.{Program}
use Rattle.sf_frame.specs.Checked.Nexts.{frames_with}
use Rattle.sf_own.specs.Checked.Laws.{FirstPartsAreSafe, GoingKeepsSafe, SettlingKeepsSafe}
use Rattle.sf_part.specs.Checked.Laws.{FirstPartsAreWhole, LeadsCompose, SettlingIsAStep}
use Rattle.sf_part.specs.Checked.LawsOfGoing.{IsPastSetup}
use Rattle.sf_part.specs.Checked.LawsOfTime.{SettlingStaysInTime}
use Rattle.sf_part.specs.Checked.LawsOfWhole.{HeldAreOfTheProgram}
use Rattle.sf_part.specs.Keeps.{IsWaiting}
use Rattle.sf_part.specs.Of.{AreInOrder, HasCalled, IsAbove, IsOf, frames_in}
use Rattle.sf_part.specs.Steps.{HandsOut, IsSettling, Settles, common_of}
use Rattle.sf_part.specs.Timed.{TimedPart, TimedContent, contents_of}
use Rattle.sf_setup.proofs.Goes.{forget, keeps-given, keeps-path}
use Rattle.sf_setup.specs.Checked.Laws.{EventsAloneAreSteps, ResourcesAreSetUp}

-- a part that hands contents out keeps all but cells and slots
pub out-task : (all rest : Part) (ks : List TimedContent) → HandsOut all ks rest
    → rest.task ≡ all.task
out-task all rest [] e = ap (λ (z : Part). z.task) e
out-task all rest (k ∷ ks) (less, hand, more) = out-task less rest ks more ∙ sym hand.task

pub out-stand : (all rest : Part) (ks : List TimedContent) → HandsOut all ks rest
    → rest.stand ≡ all.stand
out-stand all rest [] e = ap (λ (z : Part). z.stand) e
out-stand all rest (k ∷ ks) (less, hand, more) = out-stand less rest ks more ∙ sym hand.stand

pub out-holds : (all rest : Part) (ks : List TimedContent) → HandsOut all ks rest
    → rest.holds ≡ all.holds
out-holds all rest [] e = ap (λ (z : Part). z.holds) e
out-holds all rest (k ∷ ks) (less, hand, more) = out-holds less rest ks more ∙ sym hand.holds

-- the frames of a task that returns so
record Returning (p : Program) (frames : List Frame) : Type 0 where
  fixed : Fixed
  below : List Frame
  is : frames ≡ frames_with fixed [] below
  up : sets_up p fixed.procedure ≡ true

returns-shape : (p : Program) (frames : List Frame) → IsSettling p (next (runs frames))
    → Returning p frames
returns-shape p [] k = absurd k
returns-shape p (f ∷ below) k = go f.todo refl
  where
    go : (todo : List Item) → f.todo ≡ todo → Returning p (f ∷ below)
    go [] e = record {
      fixed = f.fixed;
      below = below;
      is = λ i. record { fixed = f.fixed; todo = e i } ∷ below;
      up = subst (λ z. IsSettling p (next (runs (frames_with f.fixed z below)))) e k;
    }
    go (command c ∷ todo) e =
        absurd (subst (λ z. IsSettling p (next (runs (frames_with f.fixed z below)))) e k)
    go (leave r ∷ todo) e =
        absurd (subst (λ z. IsSettling p (next (runs (frames_with f.fixed z below)))) e k)

-- nothing calls that procedure
no-call : (p : Program) → IsFormed p → (g : Frame) (f : _) → HasCalled p g f
    → sets_up p f ≡ true → ⊥
no-call p formed g f (h, there, (s, m, (around, (d, k, e)))) up =
    let command_there = sites-within p h [] h.body
    (formed.procedures (g.fixed.procedure).0 h there).body s m in
    true≢false (sym up ∙ (ap (sets_up p) (sym e)
    ∙ (calls-within p h s.command command_there d k).no_init))

-- so below it is one frame, of another procedure
returns-below : (p : Program) → IsFormed p → (fixed : Fixed) (below : List Frame)
    → sets_up p fixed.procedure ≡ true → AreInOrder p (frames_with fixed [] below)
    → (f : Frame) → Contains below f → sets_up p f.fixed.procedure ≡ false
returns-below p formed fixed [] up order f m = absurd (contains-nil f m)
returns-below p formed fixed (g ∷ more) up (entered, inl called, order) f m =
    absurd (no-call p formed g fixed.procedure called up)
returns-below p formed fixed (g ∷ more) up (entered, inr (so, nothing, none), order) f m =
    let alone : sets_up p g.fixed.procedure ≡ false =
    subst (IsAbove p g.fixed.procedure) none order.1 in
    let at : Contains (g ∷ []) f = subst (λ z. Contains (g ∷ z) f) none m in
    ap (λ (z : Frame). sets_up p z.fixed.procedure) (sym (contains-single g f at)) ∙ alone

holds-none : (a : Part) (r : ResId) → holders a r ≡ None → a.holds r ≡ false
holds-none a r e = go (a.holds r) refl
  where
    go : (b : Bool) → a.holds r ≡ b → a.holds r ≡ false
    go false i = i
    go true i = absurd (none-some a.task (sym e
        ∙ ap (λ b. cond b (Some a.task) None) i))

-- the part after that return
module _ (p : Program) (formed : IsFormed p) (event : Event) (a b : TimedPart)
    (contents : List TimedContent) (s : Settles p event a contents b) (of : IsOf p a.part) where
  shape : Returning p s.frames
  shape = returns-shape p s.frames s.settling

  step : TaskStep p event (common_of a.part)
      (runs (frames_with shape.fixed [] shape.below)) (common_of s.all) (runs s.kept)
  step = subst (λ z. TaskStep p event (common_of a.part) (runs z) (common_of s.all) (runs s.kept))
      shape.is (s.acts).steps

  kept : s.kept ≡ shape.below
  kept = let k : runs s.kept ≡ runs shape.below = step.2 in cc

  after : b.part.stand ≡ running shape.below
  after = out-stand s.all b.part contents s.out ∙ ((s.acts).to_is ∙ ap running kept)

  pub settled-runs : IsWaiting b.part.stand → ⊥
  settled-runs w = subst IsWaiting after w

  pub settled-task : b.part.task ≡ a.part.task
  settled-task = out-task s.all b.part contents s.out ∙ (s.acts).task

  pub settled-idle : (r : ResId) → b.part.holds r ≡ false
  settled-idle r =
      let held : holders s.all r ≡ None =
      ap (λ z. z.held r) step.1
      ∙ ap (λ c. cond c None ((common_of a.part).held r)) shape.up in
      ap (λ z. z r) (out-holds s.all b.part contents s.out) ∙ holds-none s.all r held

  pub settled-past : IsPastSetup p b.part
  settled-past =
      let order : AreInOrder p (frames_with shape.fixed [] shape.below) =
      subst (λ z. AreInOrder p z) shape.is
      (subst (λ z. AreInOrder p (frames_in z)) (s.acts).from_is of.order) in
      subst (λ z. (f : Frame) → Contains (frames_in z) f → sets_up p f.fixed.procedure ≡ false)
      (sym after) (returns-below p formed shape.fixed shape.below shape.up order)

pub resources_are_set_up : EventsAloneAreSteps → SettlingIsAStep → LeadsCompose
    → FirstPartsAreWhole → HeldAreOfTheProgram → FirstPartsAreSafe → GoingKeepsSafe
    → SettlingKeepsSafe → SettlingStaysInTime → ResourcesAreSetUp
unfolding ResourcesAreSetUp EventsAloneAreSteps SettlingIsAStep LeadsCompose FirstPartsAreWhole HeldAreOfTheProgram FirstPartsAreSafe GoingKeepsSafe SettlingKeepsSafe SettlingStaysInTime
resources_are_set_up steps_law settle_law compose_law first_law held_law safe_law going_law kept_law time_law p accepted o a b contents x h =
    let start = x.start in
    let g = h.gives in
    let s = g.settles in
    let m = h.between in
    let whole = first_law p o.entry o.store o.heap o.config o.base o.count a [] start x.first in
    let l = steps_law p a m h.events [] [] [] o.config h.goes whole.0 in
    let k = settle_law p h.event m b contents [] [] [] l.config s
    (held_law p o.entry o.store o.heap o.config l.config h.events accepted.formed start l.reaches)
    l.whole in
    let all = compose_law p h.events (h.event ∷ []) o.config (a.part ∷ []) (m.part ∷ [])
    (b.part ∷ []) [] (contents_of contents ++ []) l k in
    let run = all.numbered (has (units o.base o.count)) whole.1 in
    let path : m.part.task ≡ [] = keeps-path p a m h.events h.goes ∙ (x.first).task in
    let owed = safe_law p accepted o.entry o.store o.heap o.config o.base o.count a [] start x.first
    tt in
    let time = time_law p h.event m b contents s (h.keeps).time in
    record {
      events = h.events ++ h.event ∷ [];
      config = all.config;
      rest = run.0;
      run = run.1;
      whole = subst (λ z. Whole (b.part ∷ []) z all.config) (append-nil (contents_of contents))
          all.whole;
      supplied = run.2;
      in_order = s.in_order;
      each = s.each;
      exactly = g.exactly;
      stamps = s.stamps;
      task = settled-task p accepted.formed h.event m b contents s h.of ∙ path;
      runs = settled-runs p accepted.formed h.event m b contents s h.of;
      idle = settled-idle p accepted.formed h.event m b contents s h.of;
      past = settled-past p accepted.formed h.event m b contents s h.of;
      procedure = start.procedure;
      there = start.there;
      safe = kept_law p accepted _ h.event m contents b g
          (going_law p accepted _ a m (forget p a m h.events h.goes) owed);
      given = (s.notes).given ∙ (keeps-given p a m h.events h.goes ∙ (x.first).given);
      within = time.within;
    }
