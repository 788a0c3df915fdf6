-- The examples of steps that commute.
-- Names: each example has the name of its function.
use Rattle.std.specs.Prelude.{◌≡◌, ℕ, ltb, ◌==◌, true, [], ◌∷◌, Some, None}
use Rattle.std.proofs.Common.{true≢false, sym, refl, inl, inr, arith}
use Rattle.std.proofs.lemmas.Bool.{and_parts}
use Rattle.std.proofs.lemmas.Bool.Decides.{nat_tests}
use Rattle.sf_base.specs.declared.path.Turn.TheVariants.{Left as left, Right as right}
use Rattle.sf_base.specs.HeapStore.{shared, own}
use Rattle.sf_core.specs.Machine.Config.{Task, Config, task_at}
use Rattle.sf_core.specs.Machine.Next.{next}
use Rattle.sf_core.specs.Machine.Enabled.{Thing, variable, cell, IsInRoom}
use Rattle.sf_core.specs.Checked.Machine.Examples.{skip, event, forking, forking_start, side_by_side, at_one_cell, mutates, enters, ReturnsCommute, MutationAndEntryCommute}
use Rattle.sf_core.specs.Checked.Machine.Laws.{Diverge, AreIndependent}
use Rattle.sf_core.specs.Machine.Reach.{Reach}
use Rattle.sf_core.specs.Machine.Step.{Event, Step}
use Rattle.sf_core.specs.Program.Syntax.{Program}
use Rattle.sf_core.proofs.Machine.Commute.{step-commute}
use Rattle.sf_core.proofs.Machine.Examples.Runs.{to, forks-deep}

-- both orders of two independent events lead to one configuration
both-orders : (p : Program) (one two : Event) (c d e : Config) (this that : Task)
    → task_at one.task c.tasks ≡ Some this → task_at two.task c.tasks ≡ Some that → Diverge one.task two.task
    → AreIndependent p one two c.common.store (next this) (next that) → Step p one c d → Step p two d e
    → Reach p c (one ∷ two ∷ []) e × Reach p c (two ∷ one ∷ []) e
both-orders p one two c d e this that there also apart i s r =
    let m = step-commute p one two c d e this that there also apart i s r in
    ((d, s, (e, r, refl)), (m.0, m.1, (e, m.2, refl)))

-- no variable is in a room of no slots
none-in_room : (event first : ℕ) (thing : Thing)
    → IsInRoom (record { event = event; first = 0; count = 0 }) thing → ⊥
none-in_room event first (variable (shared r i)) h = true≢false (sym h)
none-in_room event first (variable (own e i)) h =
    let b = and_parts (e == event) _ h in
    let below : ltb i 0 ≡ true = (and_parts _ (ltb i 0) b.1).1 in
    absurd (grind (arith, nat_tests))
none-in_room event first (cell a) h = h

-- the rooms that vanish have no slots
pub returns_commute : ReturnsCommute
unfolding ReturnsCommute
returns_commute =
    let forked = to forking (event [] 1) forking_start _ _ _ refl refl
    (forks-deep, skip, skip, refl, refl, refl, refl) in
    let both = both-orders forking (event (left ∷ []) 2) (event (right ∷ []) 3) _ _ _ _ _ refl refl tt
    (record {
      first = λ thing x y. elim x [ inl i ↦ none-in_room 1 0 thing i | inr m ↦ m ];
      second = λ thing x r. r;
      hands = λ r m q. true≢false (sym m);
    })
    (to forking (event (left ∷ []) 2) _ _ _ _ refl refl (tt, refl, refl))
    (to forking (event (right ∷ []) 3) _ _ _ _ refl refl (tt, refl, refl)) in
    (_, (_, forked, both.0), (_, forked, both.1))

-- the entry reads no variable, and the mutation moves no resource
pub mutation_and_entry_commute : MutationAndEntryCommute
unfolding MutationAndEntryCommute
mutation_and_entry_commute p k =
    let both = both-orders p (event (left ∷ []) 2) (event (right ∷ []) 3)
    (side_by_side mutates enters (at_one_cell k None)) _ _ _ _ refl refl tt
    (record {
      first = λ thing x y. elim y [ inl r ↦ r | inr z ↦ elim z [ inl w ↦ w | inr m ↦ m ] ];
      second = λ thing x r. elim x [ inl w ↦ w | inr m ↦ m ];
      hands = λ r m q. m;
    })
    (to p (event (left ∷ []) 2) _ _ _ _ refl refl (1, k, record { is = refl; there = refl }, refl, refl))
    (to p (event (right ∷ []) 3) _ _ _ _ refl refl (refl, tt, refl, refl)) in
    (_, both.0, both.1)
