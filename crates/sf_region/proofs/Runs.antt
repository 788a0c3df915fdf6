-- What marked events lead to, and one event more.
-- Names: `makes-LAW`, `numbered-LAW`; `history-LAW` makes a history longer; `task-LAW` speaks of
-- the
-- tasks of parts.
use Rattle.std.specs.Prelude.{◌≡◌, List, [], ◌∷◌, ◌++◌, map, Some, None, Contains}
use Rattle.std.specs.Option.{option_map}
use Rattle.std.proofs.Common.{sym, ap, ◌∙◌, refl, subst, ⊎_elim}
use Rattle.std.proofs.lemmas.List.{map-append}
use Rattle.std.proofs.lemmas.Option.{none-some, same_Some}
use Rattle.sf_base.proofs.MapSplits.{splits-has_left, splits-has_right, splits-lacks_right}
use Rattle.sf_base.specs.declared.path.Turn.{Turn}
use Rattle.sf_base.specs.declared.path.Turn.TheVariants.{Left as left, Right as right}
use Rattle.sf_base.specs.HeapStore.{Map}
use Rattle.sf_core.specs.Machine.Config.{Frame, Task, runs, waits, Path, Config, task_at}
use Rattle.sf_core.specs.Machine.Next.{next}
use Rattle.sf_core.specs.Machine.Numbered.{NumberedFrom}
use Rattle.sf_core.specs.Machine.Step.{Event, Step}
use Rattle.sf_core.specs.Machine.Supplies.{Supply}
use Rattle.sf_core.specs.Machine.Whole.{Part, Content, Whole, IsUnion, own_stand, stand_of, stands, running}
use Rattle.sf_core.specs.Program.Syntax.{Program}
use Rattle.sf_part.proofs.Trees.{entry-here}
use Rattle.sf_part.specs.Checked.Laws.{Leads}
use Rattle.sf_part.specs.Checked.LawsOfWhole.{RunningPartsRun}
use Rattle.sf_region.specs.Checked.PartLaws.{PartLaws}
use Rattle.sf_region.proofs.Lists.{has-cases}
use Rattle.sf_region.specs.Marks.{Mark, events_of, IsKind, Makes, Arrives, History}

pub makes-join : (p : Program) (marks more : List Mark) (c d f : Config) → Makes p c marks d
    → Makes p d more f → Makes p c (marks ++ more) f
makes-join p [] more c d f e n = subst (λ z. Makes p z more f) e n
makes-join p (m ∷ marks) more c d f (b, s, k, h) n =
    (b, s, k, makes-join p marks more b d f h n)

numbered-join : (p : Program) (events more : List Event) (c d f : Config) (s t u : Supply)
    → NumberedFrom p c s events d t → NumberedFrom p d t more f u
    → NumberedFrom p c s (events ++ more) f u
numbered-join p [] more c d f s t u (e, h) n =
    subst (λ z. NumberedFrom p z s more f u) e (subst (λ z. NumberedFrom p d z more f u) h n)
numbered-join p (ev ∷ events) more c d f s t u (m, r, step, takes, rest) n =
    (m, r, step, takes, numbered-join p events more m d f r t u rest n)

-- one event more, of the kind that its mark says
pub history-more : (p : Program) (first : List Part) (c : Config) (marks : List Mark) (m : Mark)
    (parts news : List Part) (contents others : List Content)
    → (h : History p first c marks parts contents)
    → Leads p (m.event ∷ []) h.config parts news others
    → ((d : Config) (s : Step p m.event h.config d) → IsKind p m.kind (next s.from))
    → History p first c (marks ++ m ∷ []) news others
history-more p first c marks m parts news contents others h l kind =
    let (between, step, rest) = l.reaches in
    record {
      config = l.config;
      makes = makes-join p marks (m ∷ []) c h.config l.config h.makes
          (between, step, kind between step, rest);
      whole = l.whole;
      numbered = λ s k.
          let (t, n, i) = h.numbered s k in
          let (u, o, j) = l.numbered t i in (
            u,
            subst (λ z. NumberedFrom p c s z l.config u)
                (sym (map-append (λ (x : Mark). x.event) marks (m ∷ [])))
                (numbered-join p (events_of marks) (m.event ∷ []) c h.config l.config s t u n o),
            j,
          );
    }

-- a run without events
pub history-none : (p : Program) (c : Config) (parts : List Part) (contents : List Content)
    → Whole parts contents c → History p parts c [] parts contents
history-none p c parts contents w =
    record { config = c; makes = refl; whole = w; numbered = λ s k. (s, (refl, refl), k) }

abbrev pub history-arrives : (p : Program) (first : List Part) (c : Config) (marks : List Mark)
    (parts : List Part) (contents : List Content) → History p first c marks parts contents
    → Arrives p first c marks
history-arrives p first c marks parts contents h = record {
  config = h.config;
  makes = h.makes;
  numbered = λ s k. let (t, n, i) = h.numbered s k in (t, n);
}

-- the task of an event of a part that runs runs the part's frames
pub task-from : PartLaws → (p : Program) (before after : List Part) (a : Part) (contents : List Content)
    (c d : Config) (event : Event) (frames : List Frame)
    → Whole (before ++ a ∷ after) contents c → event.task ≡ a.task
    → a.stand ≡ running frames → (s : Step p event c d) → s.from ≡ runs frames
unfolding RunningPartsRun
task-from laws p before after a contents c d event frames w own stand s =
    same_Some s.from (runs frames)
    (sym s.there ∙ (ap (λ z. task_at z c.tasks) own
    ∙ laws.run before after a contents c frames w stand))

-- what one of the maps has, their union has
pub union-has : {A K X : Type 0} (f : A → Map K X) (xs : List A) (w : Map K X) (a : A) (key : K)
    (x : X)
    → IsUnion w (map f xs) → Contains xs a → f a key ≡ Some x → w key ≡ Some x
union-has f [] w a key x u (k, less, e) h = absurd (omega Rattle.std.proofs.Common.arith)
union-has {A} f (b ∷ xs) w a key x (others, s, u) c h = ⊎_elim
    (λ (e : b ≡ a). splits-has_left key x s (ap (λ (z : A). f z key) e ∙ h))
    (λ k. splits-has_right key x s (union-has f xs others a key x u k h)) (has-cases b a xs c)

-- two parts are of two tasks
pub task-apart : (a : Part) (others : List Part) (contents : List Content) (c : Config) (q : Part)
    → Whole (a ∷ others) contents c → Contains others q → q.task ≡ a.task → ⊥
task-apart a others contents c q w h e =
    let (x, s, u) = w.tasks in
    let there = union-has own_stand others x q q.task q.stand u h (entry-here q.task q.stand) in
    let gone : x a.task ≡ None = splits-lacks_right a.task a.stand s (entry-here a.task a.stand) in
    none-some q.stand (sym gone ∙ (ap x (sym e) ∙ there))

-- below a task that runs there is none
below-none : (path : Path) (turn : Turn) (tree : Task) (frames : List Frame)
    → task_at path tree ≡ Some (runs frames) → task_at (path ++ turn ∷ []) tree ≡ None
below-none [] left (runs fs) frames e = refl
below-none [] right (runs fs) frames e = refl
below-none [] turn (waits fs one two) frames e = absurd (cc)
below-none (left ∷ path) turn (waits fs one two) frames e = below-none path turn one frames e
below-none (right ∷ path) turn (waits fs one two) frames e = below-none path turn two frames e
below-none (left ∷ path) turn (runs fs) frames e = absurd (none-some (runs frames) e)
below-none (right ∷ path) turn (runs fs) frames e = absurd (none-some (runs frames) e)

-- a part that runs has no children
pub task-childless : PartLaws → (a : Part) (others : List Part) (contents : List Content) (c : Config)
    (q : Part) (frames : List Frame) (turn : Turn) → Whole (a ∷ others) contents c
    → a.stand ≡ running frames → Contains others q → q.task ≡ a.task ++ turn ∷ [] → ⊥
unfolding RunningPartsRun
task-childless laws a others contents c q frames turn w stand h e =
    let (x, s, u) = w.tasks in
    let there = union-has own_stand others x q q.task q.stand u h (entry-here q.task q.stand) in
    let seen : stands c.tasks q.task ≡ Some q.stand = splits-has_right q.task q.stand s there in
    let runs-there = laws.run [] others a contents c frames w stand in
    none-some q.stand (sym (ap (option_map stand_of)
    (below-none a.task turn c.tasks frames runs-there)) ∙ (ap (stands c.tasks) (sym e) ∙ seen))
