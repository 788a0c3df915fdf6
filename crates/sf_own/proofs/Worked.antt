-- The worked examples.
-- Names: those of their functions.
use Rattle.std.specs.Prelude.{◌≡◌, ◌<◌, ◌&&◌, Bool, true, false, cond, ltb, length, [], Option, Some, None}
use Rattle.std.proofs.Common.{true≢false, sym, ap, ◌∙◌, refl, subst, arith, inl, inr}
use Rattle.std.proofs.lemmas.Option.{same_Some}
use Rattle.sf_base.proofs.Elements.{contains-nil}
use Rattle.sf_base.proofs.MapSplits.{empty-holds, map-same, splits-empty_right, splits-empty_whole}
use Rattle.sf_base.specs.declared.ids.ResId.{ResId}
use Rattle.sf_base.specs.declared.ids.Var.{Var}
use Rattle.sf_base.specs.declared.ids.Var.TheVariants.{Own as OwnVar, Shared}
use Rattle.sf_base.specs.declared.value.Value.{Value}
use Rattle.sf_base.specs.HeapStore.{IsEmpty}
use Rattle.sf_calls.specs.Conditions.{Free, FreeIn}
use Rattle.sf_calls.specs.Outside.{CallsIn, OccursOutside, owner}
use Rattle.sf_core.specs.Assertions.Occurs.{VarOccursIn}
use Rattle.sf_calls.specs.Reaches.{directly, through}
use Rattle.sf_core.specs.Checked.GoodParts.{SatEach}
use Rattle.sf_core.specs.Checked.Machine.Examples.{guarded, lock, skip}
use Rattle.sf_core.specs.Checked.Machine.WholeExamples.{nils}
use Rattle.sf_core.specs.Machine.Config.{in_room}
use Rattle.sf_core.specs.Machine.Good.{owed_by}
use Rattle.sf_core.specs.Machine.Step.{procedure_at}
use Rattle.sf_core.specs.Program.Init.{is_init}
use Rattle.sf_core.specs.Program.Syntax.{Procedure}
use Rattle.sf_own.proofs.Having.{cells_are_there}
use Rattle.sf_own.proofs.Standing.{running-safe}
use Rattle.sf_own.specs.Checked.Examples.{AbsentCellsAreNotSafe, EndedChildrenAreSafe, HeldResourcesAreNotSafe, LeftCellsAreNotSafe, over, skips}
use Rattle.sf_own.specs.Checked.LawsOfNeeds.{CellsAreThere}
use Rattle.sf_own.specs.Checked.Safe.{own_of}
use Rattle.sf_safe.specs.Checked.Contract.{Ended, IsVariableOf, Returned, given_back, see}
use Rattle.sf_safe.specs.Checked.Own.{Own, nothing}
use Rattle.sf_safe.specs.Checked.Owns.{own-same}

-- the procedure that is owed for
the-procedure : (g : Procedure) → procedure_at guarded skips.fixed.procedure ≡ Some g → g ≡ skip
the-procedure g e = same_Some g skip (sym e)

plain : is_init skip ≡ false
plain = refl

-- what an ended call of `skip` gives back is all that it had but its room
given-back : (w : Own) → (r : Returned guarded skips w)
    → w ≡ given_back false skips.fixed.room r.full
given-back w r = r.is ∙ ap (λ b. given_back b skips.fixed.room r.full)
    (ap is_init (the-procedure r.ended.procedure r.ended.owns.frame.there) ∙ plain)

-- no cells are left
cells-none : (w : Own) (e : Ended guarded skips w) → IsEmpty w.cells
cells-none w e =
    let same = the-procedure e.procedure e.owns.frame.there in
    let posts = subst (λ (g : Procedure). SatEach (owed_by guarded g) (see skips w) w.cells) same
    e.posts in
    splits-empty_whole posts.first.2 posts.second posts.splits

tokens-none : (w : Own) (e : Ended guarded skips w) (r : ResId) → w.tokens r ≡ None
tokens-none w e r = e.owns.tokens r
    ∙ ap (λ b. cond {A = Option (Unit {0})} (b && ltb r.0 (length guarded.resources)) (Some tt)
    None) (ap is_init (the-procedure e.procedure e.owns.frame.there) ∙ plain)

pub left_cells_are_not_safe : LeftCellsAreNotSafe
unfolding LeftCellsAreNotSafe
left_cells_are_not_safe s =
    let back = running-safe guarded skips _ [] s refl 0 in
    let none = (cells-none back.full back.ended).none 1 in
    let here : Some nils ≡ None = ap (λ (z : Own). z.cells 1) (given-back _ back) ∙ none in
    absurd (cc)

pub held_resources_are_not_safe : HeldResourcesAreNotSafe
unfolding HeldResourcesAreNotSafe
held_resources_are_not_safe s =
    let back = running-safe guarded skips _ [] s refl 0 in
    let none = tokens-none back.full back.ended lock in
    let here : Some tt ≡ None = ap (λ (z : Own). z.tokens lock) (given-back _ back) ∙ none in
    absurd (cc)

pub absent_cells_are_not_safe : AbsentCellsAreNotSafe
unfolding AbsentCellsAreNotSafe CellsAreThere
absent_cells_are_not_safe p owed s = cells_are_there p owed _ _ s refl refl

-- no variable of a resource is free in `skip`
not-free : (x : Var) → Free guarded skips.fixed.procedure x → ⊥
not-free x (shared_, m) = go m
  where
    go : FreeIn guarded skips.fixed.procedure x → ⊥
    go (directly (h, there, inl o)) =
        (subst (λ (g : Procedure). VarOccursIn g.pre.level x) (the-procedure h there) o).2.0
    go (directly (h, there, inr (inl o))) =
        (subst (λ (g : Procedure). VarOccursIn g.post.level x) (the-procedure h there) o).2.0
    go (directly (h, there, inr (inr o))) =
        let s = subst (λ (g : Procedure). OccursOutside x g.body) (the-procedure h there) o in
        contains-nil s.0 s.1
    go (through g (h, there, c) m) =
        let s = subst (λ (k : Procedure). CallsIn (owner x) g k.body) (the-procedure h there) c in
        contains-nil s.0 s.1

pub ended_children_are_safe : EndedChildrenAreSafe
unfolding EndedChildrenAreSafe
ended_children_are_safe = record {
  within = λ r e. absurd (cc);
  frames = [];
  runs = refl;
  safe = λ n. record {
    full = nothing;
    ended = ended;
    is = own-same (own_of over) (given_back false skips.fixed.room nothing) refl
        (map-same (own_of over).slots (given_back false skips.fixed.room nothing).slots
        (λ slot. same (in_room skips.fixed.room slot))) refl;
  };
}
  where
    same : (b : Bool) → None ≡ cond {A = Option Value} b None None
    same true = refl
    same false = refl

    none-of : (x : Var) → IsVariableOf guarded skips.fixed.procedure skip x → ⊥
    none-of (OwnVar i) l = let k : i < 0 = l in absurd (omega (arith, k))
    none-of (Shared r i) (inl free) = not-free (Shared r i) free
    none-of (Shared r i) (inr a) = absurd (true≢false (sym a.0 ∙ plain))

    ended : Ended guarded skips nothing
    ended = record {
      procedure = skip;
      owns = record {
        frame = record {
          there = refl;
          count = refl;
          own_slots = λ i l h. let k : i < 0 = h in absurd (omega (arith, k));
          shared_slots = λ r i. refl;
          apart = λ x y a b e. absurd (none-of x a);
        };
        variables = record {
          each = λ x a. absurd (none-of x a);
          only = λ slot v e. absurd (cc);
        };
        tokens = λ r. refl;
        values = λ i l. let k : i < 0 = l in absurd (omega (arith, k));
      };
      posts = record {
        left = λ a. None;
        right = λ a. None;
        splits = splits-empty_right empty-holds;
        first = (λ n. _, λ n i. refl, empty-holds);
        second = empty-holds;
      };
    }
