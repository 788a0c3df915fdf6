-- The examples of two tasks side by side: what races and what doesn't.
-- Names: each example has the name of its function; `side-WHAT` speaks of two tasks side by side.
use Rattle.std.specs.Prelude.{◌≡◌, ◌≢◌, ℕ, List, [], ◌∷◌, Some, None, ◌⊎◌}
use Rattle.std.proofs.Common.{sym, ◌∙◌, refl, subst, inl, inr, arith}
use Rattle.sf_base.proofs.Options.{some-none}
use Rattle.sf_base.specs.declared.path.Turn.TheVariants.{Left as left, Right as right}
use Rattle.sf_core.specs.Machine.Bad.{Bad, IsAtNoCell}
use Rattle.sf_core.specs.Machine.Next.{Next, frame_next, next}
use Rattle.sf_core.specs.Machine.Config.{Item, Task, runs, Path, Common, task_at}
use Rattle.sf_core.specs.Machine.Enabled.{IsBlocked, IsEnabled, Thing, variable, cell, Reads, Writes}
use Rattle.sf_base.specs.HeapStore.{shared, own}
use Rattle.sf_core.specs.Checked.Machine.Examples.{lock, child, side_by_side, at_one_cell, mutates, looks_up, enters, TwoMutationsRace, MutationAndLookUpRace, TwoLookUpsDoNotRace, TwoEntriesDoNotRace, HeldRegionsWait, sets_shared, enters_by_shared, passes_shared, makes_one, AssignmentAndTestRace, AssignmentAndConditionRace, AssignmentAndReferenceDoNotRace, NewAndLookUpDoNotRace}
use Rattle.sf_core.proofs.Machine.Tasks.{MayGo, enabled-may_go}

-- the tasks of such a configuration that may go on
side-tasks : (this that : List Item) (s : Common) (path : Path) (one : Task)
    → task_at path (side_by_side this that s).tasks ≡ Some one → MayGo one
    → ((path ≡ left ∷ []) × (runs (record { fixed = child 0; todo = this } ∷ []) ≡ one))
    ⊎ ((path ≡ right ∷ []) × (runs (record { fixed = child 2; todo = that } ∷ []) ≡ one))
side-tasks this that s [] one e m =
    let same : (side_by_side this that s).tasks ≡ one = cc in
    let both : ⊥ × ⊥ = subst MayGo (sym same) m in
    absurd both.0
side-tasks this that s (left ∷ []) one e m = inl (refl, cc)
side-tasks this that s (left ∷ left ∷ path) one e m = absurd (cc)
side-tasks this that s (left ∷ right ∷ path) one e m = absurd (cc)
side-tasks this that s (right ∷ []) one e m = inr (refl, cc)
side-tasks this that s (right ∷ left ∷ path) one e m = absurd (cc)
side-tasks this that s (right ∷ right ∷ path) one e m = absurd (cc)

-- the enabled ones
side-enabled : (this that : List Item) (s : Common) (path : Path) (one : Task)
    → IsEnabled (side_by_side this that s) path one
    → ((path ≡ left ∷ []) × (runs (record { fixed = child 0; todo = this } ∷ []) ≡ one))
    ⊎ ((path ≡ right ∷ []) × (runs (record { fixed = child 2; todo = that } ∷ []) ≡ one))
side-enabled this that s path one e =
    side-tasks this that s path one e.there (enabled-may_go (side_by_side this that s) path one e)

-- what a child with that to do does next, its slots from that index on
abbrev pub child_next : ℕ → List Item → Next
child_next first todo = frame_next (child first) [] todo

-- a child with that to do doesn't touch an absent cell
abbrev pub Finds : ℕ → List Item → Common → Type 0
Finds first todo s = IsAtNoCell s (child_next first todo) → ⊥

-- what the one writes the other neither reads nor writes
abbrev pub Minds : (first : ℕ) (todo : List Item) (other : ℕ) (others : List Item) → Common → Type 0
Minds first todo other others s =
    (thing : Thing) → Writes s.store (child_next first todo) thing
    → Reads s.store (child_next other others) thing ⊎ Writes s.store (child_next other others) thing → ⊥

-- two tasks side by side aren't bad where both find their cells and neither minds the other
pub side-good : (this that : List Item) (s : Common) → Finds 0 this s → Finds 2 that s → Minds 0 this 2 that s
    → Minds 2 that 0 this s → Bad (side_by_side this that s) → ⊥
side-good this that s f g m n (inl b) =
    elim (side-enabled this that s b.path b.task b.enabled) [
      | inl k ↦ f (subst (λ z. IsAtNoCell s (next z)) (sym k.1) b.absent)
      | inr k ↦ g (subst (λ z. IsAtNoCell s (next z)) (sym k.1) b.absent)
    ]
side-good this that s f g m n (inr r) = elim (side-enabled this that s r.path r.task r.enabled) [
  | inl a ↦ elim (side-enabled this that s r.other_path r.other r.other_enabled) [
    | inl b ↦ r.different (a.0 ∙ sym b.0)
    | inr b ↦ m r.thing (subst (λ z. Writes s.store (next z) r.thing) (sym a.1) r.writes)
        (subst (λ z. Reads s.store (next z) r.thing ⊎ Writes s.store (next z) r.thing) (sym b.1) r.meets)
  ]
  | inr a ↦ elim (side-enabled this that s r.other_path r.other r.other_enabled) [
    | inl b ↦ n r.thing (subst (λ z. Writes s.store (next z) r.thing) (sym a.1) r.writes)
        (subst (λ z. Reads s.store (next z) r.thing ⊎ Writes s.store (next z) r.thing) (sym b.1) r.meets)
    | inr b ↦ r.different (a.0 ∙ sym b.0)
  ]
]

-- nor where the one at the left finds its cells and the other isn't enabled
side-waits : (this that : List Item) (s : Common) → Finds 0 this s
    → ((task : Task) → IsEnabled (side_by_side this that s) (right ∷ []) task → ⊥)
    → Bad (side_by_side this that s) → ⊥
side-waits this that s f n (inl b) =
    elim (side-enabled this that s b.path b.task b.enabled) [
      | inl k ↦ f (subst (λ z. IsAtNoCell s (next z)) (sym k.1) b.absent)
      | inr k ↦ n b.task (subst (λ z. IsEnabled (side_by_side this that s) z b.task) k.0 b.enabled)
    ]
side-waits this that s f n (inr r) = elim (side-enabled this that s r.path r.task r.enabled) [
  | inr a ↦ n r.task (subst (λ z. IsEnabled (side_by_side this that s) z r.task) a.0 r.enabled)
  | inl a ↦ elim (side-enabled this that s r.other_path r.other r.other_enabled) [
    | inl b ↦ r.different (a.0 ∙ sym b.0)
    | inr b ↦ n r.other (subst (λ z. IsEnabled (side_by_side this that s) z r.other) b.0 r.other_enabled)
  ]
]

-- the one at the right isn't enabled where its resource is held
right-waits : (this : List Item) (i : Item) (rest : List Item) (s : Common)
    → IsBlocked s.held (child_next 2 (i ∷ rest))
    → (task : Task) → IsEnabled (side_by_side this (i ∷ rest) s) (right ∷ []) task → ⊥
right-waits this i rest s shut one e =
    let same : runs (record { fixed = child 2; todo = i ∷ rest } ∷ []) ≡ one = cc (e.there) in
    e.free (subst (λ z. IsBlocked s.held (next z)) same shut)

-- the one at the left is enabled where it has something to do, and that is no region whose resource is held
left-enabled : (i : Item) (rest that : List Item) (s : Common)
    → (IsBlocked s.held (child_next 0 (i ∷ rest)) → ⊥)
    → IsEnabled (side_by_side (i ∷ rest) that s) (left ∷ [])
    (runs (record { fixed = child 0; todo = i ∷ rest } ∷ []))
left-enabled i rest that s n = record { there = refl; going = λ h. h; free = n }

right-enabled : (this : List Item) (i : Item) (rest : List Item) (s : Common)
    → (IsBlocked s.held (child_next 2 (i ∷ rest)) → ⊥)
    → IsEnabled (side_by_side this (i ∷ rest) s) (right ∷ [])
    (runs (record { fixed = child 2; todo = i ∷ rest } ∷ []))
right-enabled this i rest s n = record { there = refl; going = λ h. h; free = n }

turns-differ : left ∷ [] ≡ right ∷ [] → ⊥
turns-differ e = absurd (cc)

-- two enabled tasks race where the one at the left writes what the other reads or writes
left-races : (i j : Item) (rest others : List Item) (s : Common)
    → (IsBlocked s.held (child_next 0 (i ∷ rest)) → ⊥) → (IsBlocked s.held (child_next 2 (j ∷ others)) → ⊥)
    → (thing : Thing) → Writes s.store (child_next 0 (i ∷ rest)) thing
    → Reads s.store (child_next 2 (j ∷ others)) thing ⊎ Writes s.store (child_next 2 (j ∷ others)) thing
    → Bad (side_by_side (i ∷ rest) (j ∷ others) s)
left-races i j rest others s m n thing w r = inr (record {
  path = left ∷ [];
  task = _;
  enabled = left-enabled i rest (j ∷ others) s m;
  other_path = right ∷ [];
  other = _;
  other_enabled = right-enabled (i ∷ rest) j others s n;
  different = turns-differ;
  thing = thing;
  writes = w;
  meets = r;
})

-- so do they where the one at the right writes it
right-races : (i j : Item) (rest others : List Item) (s : Common)
    → (IsBlocked s.held (child_next 0 (i ∷ rest)) → ⊥) → (IsBlocked s.held (child_next 2 (j ∷ others)) → ⊥)
    → (thing : Thing) → Writes s.store (child_next 2 (j ∷ others)) thing
    → Reads s.store (child_next 0 (i ∷ rest)) thing ⊎ Writes s.store (child_next 0 (i ∷ rest)) thing
    → Bad (side_by_side (i ∷ rest) (j ∷ others) s)
right-races i j rest others s m n thing w r = inr (record {
  path = right ∷ [];
  task = _;
  enabled = right-enabled (i ∷ rest) j others s n;
  other_path = left ∷ [];
  other = _;
  other_enabled = left-enabled i rest (j ∷ others) s m;
  different = λ e. turns-differ (sym e);
  thing = thing;
  writes = w;
  meets = r;
})

-- both write the cell
pub two_mutations_race : TwoMutationsRace
unfolding TwoMutationsRace
two_mutations_race k = left-races _ _ [] [] (at_one_cell k None) (λ h. h) (λ h. h) (cell 1) refl (inr refl)

-- the one writes the cell that the other reads
pub mutation_and_look_up_race : MutationAndLookUpRace
unfolding MutationAndLookUpRace
mutation_and_look_up_race k = (
  left-races _ _ [] [] (at_one_cell k None) (λ h. h) (λ h. h) (cell 1) refl (inl (inr refl)),
  right-races _ _ [] [] (at_one_cell k None) (λ h. h) (λ h. h) (cell 1) refl (inl (inr refl)),
)

-- things of different kinds, or slots of different indices, differ
things-differ : (thing : Thing) (i j : ℕ) → thing ≡ variable (own 1 i)
    → (thing ≡ variable (own 1 j)) ⊎ (thing ≡ cell 1) → i ≢ j → ⊥
things-differ thing i j e (inl f) n = n (cc)
things-differ thing i j e (inr f) n = absurd (cc)

look_ups-mind : (thing : Thing) (i j k : ℕ) → thing ≡ variable (own 1 i)
    → ((thing ≡ variable (own 1 j)) ⊎ (thing ≡ cell 1)) ⊎ (thing ≡ variable (own 1 k)) → i ≢ j → i ≢ k → ⊥
look_ups-mind thing i j k e (inl f) n m = things-differ thing i j e f n
look_ups-mind thing i j k e (inr f) n m = things-differ thing i k e (inl f) m

-- they read one cell and write different slots
pub two_look_ups_do_not_race : TwoLookUpsDoNotRace
unfolding TwoLookUpsDoNotRace
two_look_ups_do_not_race k =
    side-good looks_up looks_up (at_one_cell k None) (some-none k) (some-none k)
    (λ thing w m. look_ups-mind thing 1 2 3 w m (omega arith) (omega arith))
    (λ thing w m. look_ups-mind thing 3 0 1 w m (omega arith) (omega arith))

-- they write nothing
pub two_entries_do_not_race : TwoEntriesDoNotRace
unfolding TwoEntriesDoNotRace
two_entries_do_not_race k =
    side-good enters enters (at_one_cell k None) (λ a. a) (λ a. a)
    (λ thing w m. w) (λ thing w m. w)

nothing-met : ⊥ ⊎ ⊥ → ⊥
nothing-met (inl x) = x
nothing-met (inr x) = x

-- the task at the held region isn't enabled, and the other finds its cell
pub held_regions_wait : HeldRegionsWait
unfolding HeldRegionsWait
held_regions_wait k =
    let waiting = right-waits mutates _ [] (at_one_cell k (Some (left ∷ []))) (some-none (left ∷ [])) in (
      waiting,
      side-waits mutates enters (at_one_cell k (Some (left ∷ []))) (some-none k)
          waiting,
    )

-- the one writes the variable that the other reads
pub assignment_and_test_race : AssignmentAndTestRace
unfolding AssignmentAndTestRace
assignment_and_test_race s =
    left-races _ _ [] [] s (λ h. h) (λ h. h) (variable (shared lock 0)) refl (inl (inl refl))

-- the one writes what the condition reads, but a region of a held resource waits
pub assignment_and_condition_race : AssignmentAndConditionRace
unfolding AssignmentAndConditionRace
assignment_and_condition_race s = (
  λ free. left-races _ _ [] [] s (λ h. h) (λ h. h free) (variable (shared lock 0)) refl (inl (inl refl)),
  λ path held. side-waits sets_shared enters_by_shared s (λ a. a)
      (right-waits sets_shared _ [] s (λ free. some-none path (sym held ∙ free))),
)

-- a call doesn't read a reference
pub assignment_and_reference_do_not_race : AssignmentAndReferenceDoNotRace
unfolding AssignmentAndReferenceDoNotRace
assignment_and_reference_do_not_race s =
    side-good sets_shared passes_shared s (λ a. a) (λ a. a)
    (λ thing w m. nothing-met m) (λ thing w m. w)

-- the cell of a `new` isn't one that is there
pub new_and_look_up_do_not_race : NewAndLookUpDoNotRace
unfolding NewAndLookUpDoNotRace
new_and_look_up_do_not_race k =
    side-good makes_one looks_up (at_one_cell k None) (λ a. a) (some-none k)
    (λ thing w m. look_ups-mind thing 0 2 3 w m (omega arith) (omega arith))
    (λ thing w m. new-minds thing 3 0 w m (omega arith))
  where
    new-minds : (thing : Thing) (i j : ℕ) → thing ≡ variable (own 1 i) → ⊥ ⊎ (thing ≡ variable (own 1 j))
        → i ≢ j → ⊥
    new-minds thing i j e (inl f) n = f
    new-minds thing i j e (inr f) n = things-differ thing i j e (inl f) n
