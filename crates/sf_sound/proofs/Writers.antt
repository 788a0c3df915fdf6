-- Two tasks that write one cell: no tags prove their program.
-- Names: `w-LAW` speaks of the procedure that writes, `m-LAW` of the one that forks.
use Rattle.sf_core.specs.Program.Init.{is_init}
use Rattle.std.specs.Prelude.{◌≡◌, ◌≤◌, ◌<◌, [], ◌∷◌, None, ℕ, false, Some, slice_get}
use Rattle.std.specs.List.{All}
use Rattle.std.proofs.Common.{arith, inl, inr, refl, subst, sym}
use Rattle.std.proofs.lemmas.List.Elements.{All-cons, All-nil}
use Rattle.sf_base.proofs.HeapSplits.{one-single}
use Rattle.sf_base.proofs.MapSplits.{splits-empty_right}
use Rattle.sf_base.specs.declared.ids.ResId.{ResId}
use Rattle.sf_base.specs.declared.ids.Var.TheVariants.{Own, Shared}
use Rattle.sf_base.specs.declared.value.Value.TheVariants.{Nil as nil, Loc as loc}
use Rattle.sf_base.specs.HeapStore.{Cell}
use Rattle.sf_calls.specs.Around.{Shares}
use Rattle.sf_calls.specs.FirstBreach.{Conditions}
use Rattle.sf_calls.specs.Checked.Laws.{SetsExist}
use Rattle.sf_core.specs.Assertions.Determined.{Determined}
use Rattle.sf_core.specs.Assertions.Occurs.{VarOccursIn}
use Rattle.sf_core.specs.Machine.Enabled.{cell}
use Rattle.sf_core.specs.Checked.Machine.Examples.{emp, one_at, one_cell, one_in, own_one}
use Rattle.sf_core.specs.Machine.HasThroughout.{HasThroughout}
use Rattle.sf_core.specs.Machine.Start.{Start, initial_config, settled}
use Rattle.sf_core.specs.Program.Formed.{CallWithin, ExprWithin, IsFormed, IsInBody, ProcedureWithin}
use Rattle.sf_core.specs.Program.Syntax.{Assertion, Procedure}
use Rattle.sf_precise.specs.Annotations.{annotations_in}
use Rattle.sf_precise.specs.Checked.Laws.{OrderingExists}
use Rattle.sf_sound.proofs.SmallPrograms.{cell-determined, cell-no_shared, cell-within, emp-determined, emp-within, of-two, bare-formed, by_value-unshared, small-within}
use Rattle.sf_sound.proofs.Races.{forks-deep, none-there, one-kept, one-no_more, race-of, race-unsound, sound-by}
use Rattle.sf_sound.specs.Checked.ExamplesOfRaces.{RacesAtFork, WritersHaveNoProof, write_x, writers, writes, writes_twice}
use Rattle.sf_core.specs.Machine.Sound.{IsSound}
use Rattle.sf_sound.specs.Proofs.{ProofsAreSound}

-- it is formed
w-within : ProcedureWithin writers writes
w-within =
    let first : 0 < 1 = omega arith in
    small-within writers writes refl refl refl refl refl (emp-within _ _) (emp-within _ _) ((first, first, tt), tt)

call-within : CallWithin writers writes_twice write_x
call-within =
    let first : 0 < 1 = omega arith in record {
      callee = (refl, refl);
      no_init = refl;
      references = All-nil _;
      values = All-cons (ExprWithin (IsInBody writers writes_twice)) (own_one 0) [] first (All-nil _);
    }

m-within : ProcedureWithin writers writes_twice
m-within =
    let first : 0 < 1 = omega arith in
    small-within writers writes_twice refl refl refl refl refl (cell-within _ _ (own_one 0) first)
    (cell-within _ _ (own_one 0) first) ((call-within, call-within), tt)

others : (k : ℕ) (g : Procedure) → slice_get writers.procedures k ≡ Some g → is_init g ≡ false
others = of-two (λ g. is_init g ≡ false) writes writes_twice refl refl

formed : IsFormed writers
formed =
    bare-formed writers refl (of-two (ProcedureWithin writers) writes writes_twice w-within m-within) refl refl others

-- the conditions on variables: the calls have no references
unshared : Shares writers write_x write_x (Own 0) → ⊥
unshared = by_value-unshared writers write_x write_x refl refl 0

conditions : Conditions writers
conditions = ((λ b. b), ((λ b. b), ((λ b. b), (unshared, (unshared, tt)))))

determined : All (λ (a : Assertion). Determined a.level) (annotations_in writers)
determined =
    All-cons D emp (emp ∷ one_cell ∷ one_cell ∷ []) emp-determined
    (All-cons D emp (one_cell ∷ one_cell ∷ []) emp-determined
    (All-cons D one_cell (one_cell ∷ []) (cell-determined (own_one 0))
    (All-cons D one_cell [] (cell-determined (own_one 0)) (All-nil D))))
  where
    D : Assertion → Type 0
    D a = Determined a.level

-- m starts with a cell
m-holds_none : (r : ResId) → HasThroughout writers (record { 0 = 1 }) r → ⊥
m-holds_none r (inr s) = absurd (let less = s.1 in omega (arith, less))
m-holds_none r (inl h) =
    let same : writes_twice ≡ h.procedure = cc (h.there) in
    elim h.occurs [
      | inl o ↦ cell-no_shared 0 r h.variable
          (subst (λ (z : Procedure). VarOccursIn z.pre.level (Shared r h.variable)) (sym same) o)
      | inr o ↦ cell-no_shared 0 r h.variable
          (subst (λ (z : Procedure). VarOccursIn z.post.level (Shared r h.variable)) (sym same) o)
    ]

m-starts : (k : Cell) → Start writers (record { 0 = 1 }) (one_in (loc 1)) (one_at k)
    (initial_config settled writers (record { 0 = 1 }) writes_twice (one_in (loc 1)) (one_at k))
m-starts k = record {
  procedure = writes_twice;
  there = refl;
  beginning = settled;
  is = refl;
  holds_none = m-holds_none;
  no_init = refl;
  kept = one-kept writers writes_twice (loc 1) refl refl;
  no_more = one-no_more writers writes_twice (loc 1) refl;
  locals = λ i l m. absurd (omega (arith, l, m));
  begins = record {
    left = one_at k;
    right = λ location. None;
    splits = splits-empty_right none-there;
    first = (
      λ n. nil,
      λ n h. refl,
      record {
        left = one_at k;
        right = λ location. None;
        splits = splits-empty_right none-there;
        first = (1, k, refl, one-single 1 k, tt);
        second = none-there;
      },
    );
    second = none-there;
  };
}

-- its fork, and what the children are about to do
m-races : (k : Cell) → RacesAtFork writers (record { 0 = 1 }) (one_in (loc 1)) (one_at k) (cell 1)
m-races k =
    race-of writers (record { 0 = 1 }) (one_in (loc 1)) (one_at k) (cell 1) _ _ _ _ (m-starts k)
    (record {
      fresh = refl;
      used = refl;
      from = _;
      to = _;
      there = refl;
      steps = (forks-deep, writes, writes, refl, refl, refl, refl);
      tasks = refl;
    })
    (record { there = refl; going = λ h. h; free = λ h. h }) (record { there = refl; going = λ h. h; free = λ h. h })
    refl refl

unsound : IsSound writers → ⊥
unsound = race-unsound writers (record { 0 = 1 }) (one_in (loc 1)) (one_at (λ field. nil)) (cell 1) (m-races (λ field. nil))

pub writers_have_no_proof : ProofsAreSound → OrderingExists → SetsExist → WritersHaveNoProof
unfolding OrderingExists
writers_have_no_proof law (in_order, ordering, good) sets = record {
  formed = formed;
  conditions = conditions;
  determined = determined;
  setting = record { program = writers; sets = (sets writers formed).0; ordered = in_order };
  own_setting = record { program = refl; sets = (sets writers formed).1; ordering = ordering };
  races = m-races;
  unsound = unsound;
  unproved = λ d tags own proves. unsound (sound-by law writers formed conditions determined d tags own proves);
}
