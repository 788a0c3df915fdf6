-- Two tasks that are about to write one thing are bad, and their program isn't sound. And how a
-- procedure of one variable starts; and that what the theorem asks of a program makes it sound.
-- Names: `race-LAW` speaks of two tasks that race, `one-LAW` of the store with one variable.
use Rattle.std.specs.Prelude.{◌≡◌, ◌<◌, ◌==◌, ◌&&◌, [], ◌∷◌, codes, Contains, List, None, Some, length, slice_get}
use Rattle.std.specs.List.{All}
use Rattle.std.proofs.Common.{ap₂, arith, inr, refl, subst, sym}
use Rattle.std.proofs.lemmas.Bool.{and_parts}
use Rattle.std.proofs.lemmas.List.Elements.{All-contains}
use Rattle.std.proofs.lemmas.Option.{none-some}
use Rattle.sf_base.proofs.HeapSplits.{at-same}
use Rattle.sf_base.proofs.Options.{cond-some}
use Rattle.sf_base.specs.declared.ids.ProcId.{ProcId}
use Rattle.sf_base.specs.declared.path.Turn.TheVariants.{Left as left, Right as right}
use Rattle.sf_base.specs.declared.value.Value.{Value}
use Rattle.sf_base.specs.HeapStore.{Heap, IsEmpty, Slot, Store, shared, own}
use Rattle.sf_calls.specs.FirstBreach.{Conditions}
use Rattle.sf_calls.specs.Sets.{AreSetsOf}
use Rattle.sf_core.specs.Assertions.Determined.{Determined}
use Rattle.sf_core.specs.Machine.Config.{Config, Task}
use Rattle.sf_core.specs.Machine.Enabled.{IsEnabled, Thing, Writes}
use Rattle.sf_core.specs.Checked.Machine.Examples.{event, one_in}
use Rattle.sf_core.specs.Machine.Next.{next}
use Rattle.sf_core.specs.Machine.Start.{IsKept, Start, settled}
use Rattle.sf_core.specs.Machine.Step.{Step}
use Rattle.sf_core.specs.Program.Formed.{IsFormed}
use Rattle.sf_core.specs.Program.Syntax.{Assertion, Procedure, Program}
use Rattle.sf_precise.specs.Annotations.{annotations_in}
use Rattle.sf_precise.specs.Checked.Laws.{OrderingExists}
use Rattle.sf_precise.specs.Order.{IsOrdering}
use Rattle.sf_rules.specs.Proving.{Proves}
use Rattle.sf_rules.specs.Setting.{IsSettingOf, Setting}
use Rattle.sf_core.specs.Machine.Sound.{IsSound}
use Rattle.sf_sound.specs.Checked.Examples.{ExampleIsSound}
use Rattle.sf_sound.specs.Checked.ExamplesOfRaces.{RacesAtFork}
use Rattle.sf_sound.specs.Proofs.{ProofsAreSound}
use Rattle.sf_sym.specs.declared.tag.Tag.{Tag}

turns-differ : left ∷ [] ≡ right ∷ [] → ⊥
turns-differ e = absurd (cc)

-- two tasks that are about to write one thing are bad
pub race-of : (p : Program) (f : ProcId) (store : Store) (heap : Heap) (thing : Thing) (start forked : Config)
    (one other : Task) → Start p f store heap start → Step p (event [] 1) start forked
    → IsEnabled forked (left ∷ []) one → IsEnabled forked (right ∷ []) other
    → Writes forked.common.store (next one) thing → Writes forked.common.store (next other) thing
    → RacesAtFork p f store heap thing
race-of p f store heap thing start forked one other starts step e d w v = record {
  start = start;
  starts = starts;
  forked = forked;
  forks = (forked, step, refl);
  one = one;
  one_enabled = e;
  one_writes = w;
  other = other;
  other_enabled = d;
  other_writes = v;
  bad = inr (record {
    path = left ∷ [];
    task = one;
    enabled = e;
    other_path = right ∷ [];
    other = other;
    other_enabled = d;
    different = turns-differ;
    thing = thing;
    writes = w;
    meets = inr v;
  });
}

-- so a program that comes to it isn't sound
pub race-unsound : (p : Program) (f : ProcId) (store : Store) (heap : Heap) (thing : Thing)
    → RacesAtFork p f store heap thing → IsSound p → ⊥
race-unsound p f store heap thing r sound =
    (sound f store heap r.start r.forked (event [] 1 ∷ []) r.starts r.forks).never_bad r.bad

-- a task that isn't deep may fork
pub forks-deep : 0 < 63
forks-deep = omega arith

-- nothing is anywhere in the map without keys
pub none-there : {K X : Type 0} → IsEmpty {K = K} {X = X} (λ key. None)
none-there = record { none = λ a. refl }

-- the variable that is there, at the start of a procedure of one variable in a program without
-- resources
pub one-kept : (p : Program) (g : Procedure) (v : Value) → g.names ≡ codes "x" ∷ [] → p.resources ≡ []
    → (slot : Slot) → IsKept settled p g slot → (w : Value) × (one_in v slot ≡ Some w)
one-kept p g v e n (shared r i) q = absurd (none-some q.0 (subst (λ z. slice_get z r.0 ≡ Some q.0) n q.1))
one-kept p g v e n (own f i) q =
    let first : i ≡ 0 = omega (arith, subst (λ z. i < length z) e q.1) in
    (v, ap₂ (λ a b. one_in v (own a b)) q.0 first)

pub one-no_more : (p : Program) (g : Procedure) (v : Value) → g.names ≡ codes "x" ∷ [] → (slot : Slot) (w : Value)
    → one_in v slot ≡ Some w → IsKept settled p g slot
one-no_more p g v n (shared r i) w e = absurd (none-some w e)
one-no_more p g v n (own f i) w e =
    let b = and_parts (f == 0) (i == 0) (cond-some ((f == 0) && (i == 0)) v w e) in
    let first : i ≡ 0 = at-same 0 i b.1 in
    let below : i < 1 = omega arith in
    (at-same 0 f b.0, subst (λ z. i < length z) (sym n) below)

-- what the theorem asks, of a program and of a setting of it
pub sound-by : ProofsAreSound → (p : Program) → IsFormed p → Conditions p
    → All (λ (a : Assertion). Determined a.level) (annotations_in p) → (d : Setting) (tags : List Tag)
    → IsSettingOf p d → Proves d tags → IsSound p
unfolding ProofsAreSound
sound-by law p formed conditions determined d tags suits proves =
    let back = sym suits.program in
    subst IsSound suits.program
    (law d tags (subst IsFormed back formed) (subst Conditions back conditions)
    (subst (λ q. AreSetsOf q d.sets) back suits.sets)
    (subst (λ q. (a : Assertion) → Contains (annotations_in q) a → Determined a.level) back
    (λ a among. All-contains (λ (b : Assertion). Determined b.level) (annotations_in p) a determined among))
    suits.ordering proves)

-- so an example is, where it has a proof in each order of annotations
pub example-is-sound : ProofsAreSound → OrderingExists → (p : Program) (tags : List Tag) → IsFormed p → Conditions p
    → All (λ (a : Assertion). Determined a.level) (annotations_in p)
    → (setting : (in_order : Assertion → Assertion) → IsOrdering in_order → Setting)
    →
    ((in_order : Assertion → Assertion) (ordering : IsOrdering in_order) → IsSettingOf p (setting in_order ordering))
    → ((in_order : Assertion → Assertion) (ordering : IsOrdering in_order) → Proves (setting in_order ordering) tags)
    → ExampleIsSound p tags
unfolding OrderingExists
example-is-sound law (in_order, ordering, good) p tags formed conditions determined setting suits proves =
    let d = setting in_order ordering in
    record {
      formed = formed;
      conditions = conditions;
      determined = determined;
      setting = d;
      own_setting = suits in_order ordering;
      proves = proves in_order ordering;
      sound =
          sound-by law p formed conditions determined d tags (suits in_order ordering) (proves in_order ordering);
    }
