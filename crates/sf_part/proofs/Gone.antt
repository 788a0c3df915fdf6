-- What a task keeps that goes on, whatever it does, and that it can go on after a fork.
-- Names: those of the laws' functions.
use Rattle.std.specs.Prelude.{◌≡◌, ℕ, Bool, true, false, cond, List, [], ◌∷◌, ◌++◌}
use Rattle.std.proofs.Common.{sym, ap, ◌∙◌, refl, subst, arith}
use Rattle.sf_base.specs.declared.ids.ResId.{ResId}
use Rattle.sf_base.specs.HeapStore.{Slot}
use Rattle.sf_base.specs.declared.path.Turn.{Turn}
use Rattle.sf_base.specs.declared.path.Turn.TheVariants.{Left as left_turn, Right as right_turn}
use Rattle.sf_core.specs.Machine.Config.{Frame, Path, runs}
use Rattle.sf_core.specs.Machine.Enabled.{HasEnded}
use Rattle.sf_core.specs.Machine.Whole.{Stand, Content, Part, running}
use Rattle.sf_core.specs.Program.Formed.{variable_count}
use Rattle.sf_core.specs.Program.Syntax.{Program}
use Rattle.sf_part.proofs.Borrowed.{entries_keep_lent, exits_keep_lent, forks_lend, joins_bring_back, parents_go_on, private_events_keep_lent}
use Rattle.sf_part.specs.Borrowed.{HasJustVariables, StillHas}
use Rattle.sf_part.specs.Checked.LawsOfLending.{EntriesKeepLent, ExitsKeepLent, ForksLend, JoinsBringBack, ParentsGoOn, PrivateEventsKeepLent}
use Rattle.sf_part.specs.Checked.LawsOfGoing.{ChildrenGoOn, EndedChildrenMayBeTakenBack, GoingComposes, GoingKeepsLent, GoingKeepsPath, GoingKeepsRunning, IsOver, JoinsGoOn}
use Rattle.sf_part.specs.Given.{IsContentOf, is_variable_of}
use Rattle.sf_part.specs.Going.{GoesTo, stays, steps, enters, leaves, forks}
use Rattle.sf_part.specs.Keeps.{IsWaiting}
use Rattle.sf_part.specs.Of.{IsOf, frames_in, times_held}
use Rattle.sf_part.specs.Timed.{TimedPart}

-- a content that is just its resource's has just its variables
just-variables : (p : Program) (k : Content) → IsContentOf p k → HasJustVariables p k
just-variables p k of slot = of.variables slot
    ∙ ap (λ z. is_variable_of k.resource (variable_count z) slot) (sym of.there)

keeps-lent : (p : Program) (lent : Slot → Bool) (a b : TimedPart) → GoesTo p a b
    → StillHas p lent a.part → StillHas p lent b.part
unfolding EntriesKeepLent ExitsKeepLent ForksLend JoinsBringBack PrivateEventsKeepLent
keeps-lent p lent a b (stays same) h = subst (λ (z : TimedPart). StillHas p lent z.part) (sym same) h
keeps-lent p lent a c (steps {b = b} event before keeps of e) h =
    private_events_keep_lent p event b c lent e keeps (keeps-lent p lent a b before h)
keeps-lent p lent a c (enters {b = b} event k before e of) h =
    entries_keep_lent p event b c k lent e (just-variables p k.content of)
    (keeps-lent p lent a b before h)
keeps-lent p lent a c (leaves {b = b} event k before e) h =
    exits_keep_lent p event b c k lent e (keeps-lent p lent a b before h)
keeps-lent p lent a c (forks {b = b} event later waits one two left right before keeps of e go_left go_right j) h =
    let given = forks_lend p event b waits one two e.forks keeps in
    joins_bring_back p event later b waits one two left right c lent e.forks keeps
    (keeps-lent p lent a b before h) (keeps-lent p _ one left go_left given.0)
    (keeps-lent p _ two right go_right given.1) j

pub going_keeps_lent : GoingKeepsLent
unfolding GoingKeepsLent
going_keeps_lent p a b lent go h = keeps-lent p lent a b go h

keeps-path : (p : Program) (a b : TimedPart) → GoesTo p a b → b.part.task ≡ a.part.task
keeps-path p a b (stays same) = ap (λ (z : TimedPart). z.part.task) same
keeps-path p a c (steps {b = b} event before keeps of e) = (e.acts).task ∙ keeps-path p a b before
keeps-path p a c (enters {b = b} event k before e of) =
    (e.acts).task ∙ ((e.hand).task ∙ keeps-path p a b before)
keeps-path p a c (leaves {b = b} event k before e) =
    sym ((e.exits).hand).task ∙ (((e.exits).acts).task ∙ keeps-path p a b before)
keeps-path p a c (forks {b = b} event later waits one two left right before keeps of e go_left go_right j) =
    (j.acts).task ∙ ((j.children).task ∙ (sym (((e.forks).children).task)
    ∙ (((e.forks).acts).task ∙ keeps-path p a b before)))

pub going_keeps_path : GoingKeepsPath
unfolding GoingKeepsPath
going_keeps_path p a b go = keeps-path p a b go

runs-on : (s : Stand) (frames : List Frame) → s ≡ running frames → IsWaiting s → ⊥
runs-on s frames e w = subst IsWaiting e w

keeps-running : (p : Program) (a b : TimedPart) → GoesTo p a b → (IsWaiting a.part.stand → ⊥)
    → IsWaiting b.part.stand → ⊥
keeps-running p a b (stays same) h =
    subst (λ (z : TimedPart). IsWaiting z.part.stand → ⊥) (sym same) h
keeps-running p a c (steps event before keeps of e) h = runs-on c.part.stand e.kept (e.acts).to_is
keeps-running p a c (enters event k before e of) h = runs-on c.part.stand e.kept (e.acts).to_is
keeps-running p a c (leaves event k before e) h = runs-on c.part.stand (e.exits).kept
    (sym ((e.exits).hand).stand ∙ ((e.exits).acts).to_is)
keeps-running p a c (forks event later waits one two left right before keeps of e go_left go_right j) h =
    runs-on c.part.stand j.kept (j.acts).to_is

pub going_keeps_running : GoingKeepsRunning
unfolding GoingKeepsRunning
going_keeps_running p a b go h = keeps-running p a b go h

composes : (p : Program) (a b c : TimedPart) → GoesTo p a b → GoesTo p b c → GoesTo p a c
composes p a b c first (stays same) = subst (GoesTo p a) (sym same) first
composes p a b d first (steps {b = c} event before keeps of e) =
    steps event (composes p a b c first before) keeps of e
composes p a b d first (enters {b = c} event k before e of) =
    enters event k (composes p a b c first before) e of
composes p a b d first (leaves {b = c} event k before e) =
    leaves event k (composes p a b c first before) e
composes p a b d first
    (forks {b = c} event later waits one two left right before keeps of e go_left go_right j) =
    forks event later waits one two left right (composes p a b c first before) keeps of e go_left
    go_right j

pub going_composes : GoingComposes
unfolding GoingComposes
going_composes p a b c first second = composes p a b c first second

pub children_go_on : ChildrenGoOn
unfolding ChildrenGoOn
children_go_on p before waits left right one two h go_left go_right = record {
  event = h.event;
  one = h.one;
  two = h.two;
  keeps = h.keeps;
  of = h.of;
  lends = h.lends;
  left_goes = composes p h.one left one h.left_goes go_left;
  right_goes = composes p h.two right two h.right_goes go_right;
}

pub joins_go_on : JoinsGoOn
unfolding JoinsGoOn
joins_go_on p event before waits left right after h j =
    forks h.event event waits h.one h.two left right (stays refl) h.keeps h.of h.lends h.left_goes
    h.right_goes j

-- a task that has ended holds nothing
ended-holds_none : (p : Program) (a : Part) → IsOf p a → a.stand ≡ running [] → (r : ResId)
    → a.holds r ≡ false
ended-holds_none p a of ended r = go (a.holds r) refl
  where
    go : (b : Bool) → a.holds r ≡ b → a.holds r ≡ false
    go false e = e
    go true e =
        let none : times_held p r (frames_in a.stand) ≡ 0 =
        ap (λ z. times_held p r (frames_in z)) ended in
        let one : times_held p r (frames_in a.stand) ≡ 1 =
        of.inside r ∙ ap (λ b. cond {A = ℕ} b 1 0) e in
        absurd (omega (arith, none, one))

-- of a child that has ended no frame is left: only the entry isn't returned from
none-left : (path : Path) (turn : Turn) (frames : List Frame)
    → HasEnded (path ++ turn ∷ []) (runs frames) → frames ≡ []
none-left path turn [] h = refl
none-left [] turn (f ∷ below) h = absurd h
none-left (other ∷ path) turn (f ∷ below) h = absurd h

child-over : (a : Part) (path : Path) (turn : Turn) → a.task ≡ path ++ turn ∷ [] → IsOver a
    → a.stand ≡ running []
child-over a path turn at (frames, stand, ended) =
    stand ∙ ap running (none-left path turn frames (subst (λ z. HasEnded z (runs frames)) at ended))

pub ended_children_may_be_taken_back : EndedChildrenMayBeTakenBack
unfolding EndedChildrenMayBeTakenBack ForksLend ParentsGoOn
ended_children_may_be_taken_back p before waits left right h left_of right_of left_ended right_ended =
    let f = (h.lends).forks in
    let given = forks_lend p h.event before waits h.one h.two f h.keeps in
    let to_left = keeps-path p h.one left h.left_goes ∙ ((f.children).left_one).task in
    let to_right = keeps-path p h.two right h.right_goes ∙ ((f.children).right_one).task in
    let left_over = child-over left.part waits.part.task left_turn to_left left_ended in
    let right_over = child-over right.part waits.part.task right_turn to_right right_ended in
    record {
      waiting = subst IsWaiting (sym (sym ((f.children).stand) ∙ (f.acts).to_is)) tt;
      left_child = record {
        task = to_left;
        holds = λ i r. ended-holds_none p left.part left_of left_over r i;
      };
      right_child = record {
        task = to_right;
        holds = λ i r. ended-holds_none p right.part right_of right_over r i;
      };
      left_over = left_over;
      right_over = right_over;
      goes_on = parents_go_on p h.event before waits h.one h.two left right f h.keeps h.of
          (keeps-lent p _ h.one left h.left_goes given.0)
          (keeps-lent p _ h.two right h.right_goes given.1);
    }
