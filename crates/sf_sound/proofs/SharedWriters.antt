-- Two tasks that write one variable: the conditions on variables refuse what tags would prove.
-- Names: `p-LAW` speaks of the procedure that forks.
use Rattle.sf_core.specs.Program.Init.{is_init, sets_up}
use Rattle.std.specs.Prelude.{◌≡◌, ◌≤◌, ◌<◌, ◌⊎◌, ◌++◌, ℕ, codes, Contains, [], ◌∷◌, List, None, Some, slice_get, false}
use Rattle.std.specs.List.{All}
use Rattle.std.proofs.Common.{arith, inl, inr, refl}
use Rattle.std.proofs.lemmas.List.Elements.{All-cons, All-nil}
use Rattle.std.proofs.lemmas.Option.{none-some}
use Rattle.sf_base.proofs.Elements.{contains-nil}
use Rattle.sf_base.proofs.MapSplits.{splits-empty_right}
use Rattle.sf_base.specs.declared.ids.ProcId.{ProcId}
use Rattle.sf_base.specs.declared.ids.ResId.{ResId}
use Rattle.sf_base.specs.declared.ids.Var.{Var}
use Rattle.sf_base.specs.declared.ids.Var.TheVariants.{Own, Shared}
use Rattle.sf_base.specs.declared.value.Value.{Value}
use Rattle.sf_base.specs.declared.value.Value.TheVariants.{Nil as nil}
use Rattle.sf_base.specs.HeapStore.{own}
use Rattle.sf_calls.specs.Conditions.{Enters, Free, Mentions, Takes}
use Rattle.sf_calls.specs.declared.breach.Breach.TheVariants.{ParallelShares}
use Rattle.sf_calls.specs.FirstBreach.{Conditions, FirstBreach}
use Rattle.sf_calls.specs.Checked.Lemmas.Sites.{at_one}
use Rattle.sf_calls.specs.Outside.{EntersIn, IsAmong, IsOutside, OccursOutside, owner}
use Rattle.sf_calls.specs.Sets.{AreSetsOf, IsEarlier, IsEarlierResource, Sets}
use Rattle.sf_core.specs.Assertions.Determined.{Determined}
use Rattle.sf_core.specs.Assertions.Occurs.{VarOccursIn}
use Rattle.sf_core.specs.declared.command.Occurrence.{Occurrence}
use Rattle.sf_core.specs.Machine.Enabled.{variable}
use Rattle.sf_core.specs.Checked.Machine.Examples.{at_own, emp, here, one_in}
use Rattle.sf_core.specs.Machine.HasThroughout.{HasThroughout}
use Rattle.sf_core.specs.Machine.Start.{Start, initial_config, settled}
use Rattle.sf_core.specs.Program.Formed.{CallWithin, ExprWithin, HasCounts, IsFormed, IsInBody, IsSettable, ProcedureWithin}
use Rattle.sf_core.specs.Program.Heads.{Site, head_regions, occurrences_at, sites}
use Rattle.sf_core.specs.Program.Syntax.{Assertion, Procedure}
use Rattle.sf_precise.specs.Annotations.{annotations_in}
use Rattle.sf_precise.specs.Checked.Laws.{OrderingExists}
use Rattle.sf_precise.specs.Order.{IsOrdering}
use Rattle.sf_sound.proofs.AsWritten.{IsAsWritten, procedure-proved}
use Rattle.sf_sound.proofs.SmallPrograms.{emp-determined, emp-no_var, emp-ordered, emp-within, everywhere, of-three, set-nothing, set-of_each, bare-formed, small-within}
use Rattle.sf_sound.proofs.Races.{forks-deep, none-there, one-kept, one-no_more, race-of, race-unsound}
use Rattle.sf_sound.specs.Checked.ExamplesOfRaces.{RacesAtFork, SharedWritersRace, passes_x, sets, sets_too, sets_twice, shared_writers, shared_writers_tags}
use Rattle.sf_rules.specs.Proving.{Proves}
use Rattle.sf_rules.specs.Setting.{IsSettingOf, Setting}
use Rattle.sf_sym.specs.declared.tag.Tag.TheVariants as t

-- it is formed
sets-within : (name : List ℕ) → is_init (record sets { name = name }) ≡ false
    → ProcedureWithin shared_writers (record sets { name = name })
sets-within name other =
    let first : 0 < 1 = omega arith in
    small-within shared_writers (record sets { name = name }) refl refl refl refl other (emp-within _ _)
    (emp-within _ _) (((first, λ l. first), tt), tt)

passes-within : (f : ProcId) → HasCounts (slice_get shared_writers.procedures f.0) (passes_x f)
    → sets_up shared_writers f ≡ false → CallWithin shared_writers sets_twice (passes_x f)
passes-within f counts other =
    let first : 0 < 1 = omega arith in record {
      callee = counts;
      no_init = other;
      references = All-cons (λ (x : Occurrence). IsSettable shared_writers sets_twice x.var) (at_own 0) []
          (first, λ l. first) (All-nil (λ (x : Occurrence). IsSettable shared_writers sets_twice x.var));
      values = All-nil (ExprWithin (IsInBody shared_writers sets_twice));
    }

twice-within : ProcedureWithin shared_writers sets_twice
twice-within =
    small-within shared_writers sets_twice refl refl refl refl refl (emp-within _ _) (emp-within _ _)
    ((passes-within (record { 0 = 0 }) (refl, refl) refl, passes-within (record { 0 = 1 }) (refl, refl) refl), tt)

others : (k : ℕ) (g : Procedure) → slice_get shared_writers.procedures k ≡ Some g → is_init g ≡ false
others = of-three (λ g. is_init g ≡ false) sets sets_too sets_twice refl refl refl

formed : IsFormed shared_writers
formed =
    bare-formed shared_writers refl (of-three (ProcedureWithin shared_writers) sets sets_too sets_twice
    (sets-within (codes "f") refl) (sets-within (codes "g") refl) twice-within) refl refl others

determined : All (λ (a : Assertion). Determined a.level) (annotations_in shared_writers)
determined =
    one (emp ∷ emp ∷ emp ∷ emp ∷ emp ∷ []) (one (emp ∷ emp ∷ emp ∷ emp ∷ []) (one (emp ∷ emp ∷ emp ∷ [])
    (one (emp ∷ emp ∷ []) (one (emp ∷ []) (one [] (All-nil D))))))
  where
    D : Assertion → Type 0
    D a = Determined a.level

    one : (rest : List Assertion) → All D rest → All D (emp ∷ rest)
    one rest all = All-cons D emp rest emp-determined all

-- the answer to a question is no, and a later one is the first that isn't
later : {A B C : Type 0} → (A → ⊥) → C → B ⊎ ((A → ⊥) × C)
later a c = inr (a, c)

-- what is broken first: the calls share x
breach : FirstBreach shared_writers (Some (record { 0 = 2 }, ParallelShares here (Own 0)))
breach =
    later (λ b. b) (later (λ b. b) (later (λ b. b) (later (λ b. b) (later (λ b. b) (later (λ b. b)
    (later (λ b. b.0) (later (λ b. b.0) (inl (inl (inl (inl refl), inl (inl (inl refl))), refl)))))))))

refused : Conditions shared_writers → ⊥
refused c = c.1.1.1.1.1.1.1.1.0 (inl (inl (inl refl), inl (inl (inl refl))))

-- its sets are empty
enters-none : (r : ResId) (f : ProcId) → Enters shared_writers r f → ⊥
enters-none r f (h, e, w) =
    of-three (λ (g : Procedure). EntersIn r g.body → ⊥) sets sets_too sets_twice
    (λ w. elim (at_one P (sites [] sets.body) w) [ inl c ↦ contains-nil r c | inr n ↦ n ])
    (λ w. elim (at_one P (sites [] sets_too.body) w) [ inl c ↦ contains-nil r c | inr n ↦ n ])
    (λ w. elim (at_one P (sites [] sets_twice.body) w) [ inl c ↦ contains-nil r c | inr n ↦ n ])
    f.0 h e w
  where
    P : Site → Type 0
    P s = Contains (head_regions s.command) r

no-resource : (f : ProcId) (r : ResId) → HasThroughout shared_writers f r → ⊥
no-resource f r (inr s) = absurd (let less = s.1 in omega (arith, less))
no-resource f r (inl h) =
    of-three (λ (g : Procedure). VarOccursIn g.pre.level (Shared r h.variable)
    ⊎ VarOccursIn g.post.level (Shared r h.variable) → ⊥)
    sets sets_too sets_twice none none none f.0 h.procedure h.there h.occurs
  where
    none : VarOccursIn emp.level (Shared r h.variable) ⊎ VarOccursIn emp.level (Shared r h.variable) → ⊥
    none (inl o) = emp-no_var (Shared r h.variable) o
    none (inr o) = emp-no_var (Shared r h.variable) o

-- x is no variable of a resource
x-shared : (r : ResId) (i : ℕ) → IsAmong (Shared r i) (at_own 0 ∷ []) → ⊥
x-shared r i (inl e) = absurd (cc)
x-shared r i (inr n) = n

mentions-none : (r : ResId) (i : ℕ) (f : ProcId) → Mentions shared_writers (Shared r i) f → ⊥
mentions-none r i f (h, e, m) =
    of-three (λ (g : Procedure). VarOccursIn g.pre.level (Shared r i)
    ⊎ (VarOccursIn g.post.level (Shared r i) ⊎ OccursOutside (Shared r i) g.body) → ⊥)
    sets sets_too sets_twice
    (λ m. in-contract (OccursOutside (Shared r i) sets.body)
    (λ w. elim (at_one P (sites [] sets.body) w) [ inl c ↦ x-shared r i c.1 | inr n ↦ n ]) m)
    (λ m. in-contract (OccursOutside (Shared r i) sets_too.body)
    (λ w. elim (at_one P (sites [] sets_too.body) w) [ inl c ↦ x-shared r i c.1 | inr n ↦ n ]) m)
    (λ m. in-contract (OccursOutside (Shared r i) sets_twice.body)
    (λ w. elim (at_one P (sites [] sets_twice.body) w) [
      | inl c ↦ elim c.1 [ inl e ↦ x-shared r i (inl e) | inr a ↦ x-shared r i a ]
      | inr n ↦ n
    ]) m)
    f.0 h e m
  where
    P : Site → Type 0
    P s = IsOutside (owner (Shared r i)) (head_regions s.command ++ s.entered)
        × IsAmong (Shared r i) (occurrences_at s.command)

    in-contract : (O : Type 0) → (O → ⊥)
        → VarOccursIn emp.level (Shared r i) ⊎ (VarOccursIn emp.level (Shared r i) ⊎ O) → ⊥
    in-contract O never (inl o) = emp-no_var (Shared r i) o
    in-contract O never (inr (inl o)) = emp-no_var (Shared r i) o
    in-contract O never (inr (inr o)) = never o

takes-none : (f : ProcId) (r : ResId) → Takes shared_writers f r → ⊥
takes-none f r w = everywhere (enters-none r) f w

free-none : (f : ProcId) (z : Var) → Free shared_writers f z → ⊥
free-none f (Own n) w = w.0
free-none f (Shared r i) w = everywhere (mentions-none r i) f w.1

abbrev no_sets : Sets
no_sets = record { takes = [] ∷ [] ∷ [] ∷ []; holds = [] ∷ [] ∷ [] ∷ []; free = [] ∷ [] ∷ [] ∷ [] }

are-sets : AreSetsOf shared_writers no_sets
are-sets = record {
  takes = set-of_each IsEarlierResource (Takes shared_writers) 3 []
      (λ f l. set-nothing IsEarlierResource (Takes shared_writers f) (takes-none f));
  holds = set-of_each IsEarlierResource (HasThroughout shared_writers) 3 []
      (λ f l. set-nothing IsEarlierResource (HasThroughout shared_writers f) (no-resource f));
  free = set-of_each IsEarlier (Free shared_writers) 3 []
      (λ f l. set-nothing IsEarlier (Free shared_writers f) (free-none f));
}

-- tags prove it
module _ (in_order : Assertion → Assertion) (ordering : IsOrdering in_order) where
  abbrev own_setting : Setting
  own_setting = record { program = shared_writers; sets = no_sets; ordered = in_order }

  emp-same : in_order emp ≡ emp
  emp-same = ordering.ordered emp emp emp-ordered

  as-written : IsAsWritten own_setting
  as-written = record {
    procedures = of-three (λ (g : Procedure). (in_order g.pre ≡ g.pre) × (in_order g.post ≡ g.post)) sets sets_too
        sets_twice (emp-same, emp-same) (emp-same, emp-same) (emp-same, emp-same);
    resources = λ k r e. absurd (none-some r e);
  }

  proves : Proves own_setting shared_writers_tags
  proves =
      procedure-proved own_setting as-written 0 sets (sets_too ∷ sets_twice ∷ []) (t.Assign ∷ t.Return ∷ t.End ∷ []) _
      refl refl refl
      (procedure-proved own_setting as-written 1 sets_too (sets_twice ∷ []) (t.Assign ∷ t.Return ∷ t.End ∷ []) _
      refl refl refl
      (procedure-proved own_setting as-written 2 sets_twice [] (t.Fork ∷ t.Give ∷ t.Return ∷ t.End ∷ []) []
      refl refl refl refl))

  is-own : IsSettingOf shared_writers own_setting
  is-own = record { program = refl; sets = are-sets; ordering = ordering }

-- p starts with any value of x and no cell
p-starts : (v : Value) → Start shared_writers (record { 0 = 2 }) (one_in v) (λ location. None)
    (initial_config settled shared_writers (record { 0 = 2 }) sets_twice (one_in v) (λ location. None))
p-starts v = record {
  procedure = sets_twice;
  there = refl;
  beginning = settled;
  is = refl;
  holds_none = no-resource (record { 0 = 2 });
  no_init = refl;
  kept = one-kept shared_writers sets_twice v refl refl;
  no_more = one-no_more shared_writers sets_twice v refl;
  locals = λ i l m. absurd (omega (arith, l, m));
  begins = record {
    left = λ location. None;
    right = λ location. None;
    splits = splits-empty_right none-there;
    first = (λ n. nil, λ n h. refl, none-there);
    second = none-there;
  };
}

-- its fork, and what the children are about to do
p-races : (v : Value)
    → RacesAtFork shared_writers (record { 0 = 2 }) (one_in v) (λ location. None) (variable (own 0 0))
p-races v =
    race-of shared_writers (record { 0 = 2 }) (one_in v) (λ location. None) (variable (own 0 0)) _ _ _ _ (p-starts v)
    (record {
      fresh = refl;
      used = refl;
      from = _;
      to = _;
      there = refl;
      steps = (forks-deep, sets, sets_too, refl, refl, refl, refl);
      tasks = refl;
    })
    (record { there = refl; going = λ h. h; free = λ h. h }) (record { there = refl; going = λ h. h; free = λ h. h })
    refl refl

pub shared_writers_race : OrderingExists → SharedWritersRace
unfolding OrderingExists
shared_writers_race (in_order, ordering, good) = record {
  formed = formed;
  determined = determined;
  setting = own_setting in_order ordering;
  own_setting = is-own in_order ordering;
  proves = proves in_order ordering;
  breach = breach;
  refused = refused;
  races = p-races;
  unsound = race-unsound shared_writers (record { 0 = 2 }) (one_in nil) (λ location. None) (variable (own 0 0))
      (p-races nil);
}
