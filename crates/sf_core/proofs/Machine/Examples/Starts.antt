-- The examples of starts with a resource.
-- Names: each example has the name of its function.
use Rattle.std.specs.Prelude.{◌≡◌, ℕ, zero, suc, true, cond, ◌==◌, ◌&&◌, [], ◌∷◌, length, Some, None, ◌<◌}
use Rattle.std.specs.List.{slice_get}
use Rattle.std.proofs.Common.{sym, ap, ap₂, ◌∙◌, true≢false, refl, subst, inl, inr, arith}
use Rattle.std.proofs.lemmas.Bool.{and_parts}
use Rattle.std.proofs.lemmas.Option.{none-some, same_Some}
use Rattle.sf_base.proofs.Lookup.{get-single}
use Rattle.sf_base.specs.declared.ids.ResId.{ResId}
use Rattle.sf_base.specs.declared.ids.Var.{Var}
use Rattle.sf_base.specs.declared.ids.Var.TheVariants.{Shared}
use Rattle.sf_base.specs.declared.value.Value.{Value}
use Rattle.sf_base.specs.declared.value.Value.TheVariants.{Nil as nil, Loc as loc}
use Rattle.sf_core.proofs.Machine.Examples.Good.{at-location}
use Rattle.sf_base.proofs.HeapSplits.{one-not_empty, one-single, at-same, star-drop_left, star-drop_right, star-empty_left, star-empty_right, star-map_left}
use Rattle.sf_core.proofs.Machine.Examples.Runs.{one-sat, sat-one}
use Rattle.sf_base.proofs.Options.{cond-some}
use Rattle.sf_core.specs.Machine.Config.{evaluate}
use Rattle.sf_base.specs.HeapStore.{Heap, Slot, Store, shared, own, ◌⋆◌}
use Rattle.sf_core.specs.Machine.HasThroughout.{ContractMentions}
use Rattle.sf_core.specs.Checked.Machine.Examples.{lock, at_shared, shared_one, emp, guarding, skip, takes, guarded, one_at, one_cell_at, shared_in, SkipStartsWithTheInvariant, SkipStartsWithNothingElse, SkipDoesNotStartWithNothing, HoldersDoNotStart}
use Rattle.sf_core.specs.Assertions.Occurs.{VarOccursIn}
use Rattle.sf_core.specs.Assertions.Sat.{Sat}
use Rattle.sf_core.specs.Machine.Start.{Beginning, settled, fresh, BeginsWith, IsKept, Invariants, entry_slot}
use Rattle.sf_core.specs.Program.Init.{is_init}
use Rattle.sf_core.specs.Program.Syntax.{Procedure, Resource}
use Rattle.sf_core.proofs.Inits.{has_throughout-mentions}

-- the variable of the resource occurs in its invariant
shared-occurs : VarOccursIn (one_cell_at shared_one).level (Shared lock 0)
shared-occurs = (at_shared, refl, (inl (inl refl), tt))

-- the start of `skip` at the invariant's cell
pub skip_starts_with_the_invariant : SkipStartsWithTheInvariant
unfolding SkipStartsWithTheInvariant
skip_starts_with_the_invariant k = record {
  procedure = skip;
  there = refl;
  beginning = settled;
  is = refl;
  holds_none = λ r h. held r (has_throughout-mentions guarded (record { 0 = 0 }) r refl h);
  no_init = refl;
  kept = kept;
  no_more = no_more;
  locals = λ i l m. absurd (omega (arith, l, m));
  begins = star-map_left (λ part e. (λ n. nil, λ n h. refl, e))
      (star-empty_left (star-empty_right
      (one-sat shared_one (evaluate entry_slot (shared_in (loc 1))) (one_at k) 1 k refl (one-single 1 k))));
}
  where
    nothing-occurs : (x : Var) → VarOccursIn emp.level x → ⊥
    nothing-occurs x o = o.2.0

    held : (r : ResId) → ContractMentions guarded (record { 0 = 0 }) r → ⊥
    held r h =
        let same : skip ≡ h.procedure = cc (h.there) in
        elim h.occurs [
          | inl o ↦ nothing-occurs (Shared r h.variable)
              (subst (λ (z : Procedure). VarOccursIn z.pre.level (Shared r h.variable)) (sym same) o)
          | inr o ↦ nothing-occurs (Shared r h.variable)
              (subst (λ (z : Procedure). VarOccursIn z.post.level (Shared r h.variable)) (sym same) o)
        ]

    kept : (slot : Slot) → IsKept settled guarded skip slot → (v : Value) × (shared_in (loc 1) slot ≡ Some v)
    kept (shared r i) q =
        let one = get-single guarding q.0 r.0 q.1 in
        let below : i < 1 = subst (λ (z : Resource). i < length z.variables) (sym one.1) q.2 in
        let first : i ≡ 0 = omega arith in
        (loc 1, ap₂ (λ a b. cond ((a == 0) && (b == 0)) (Some (loc 1)) None) one.0 first)
    kept (own e i) q = absurd (omega (arith, q.1))

    no_more : (slot : Slot) (v : Value) → shared_in (loc 1) slot ≡ Some v → IsKept settled guarded skip slot
    no_more (shared r i) v e =
        let b = and_parts (r.0 == 0) (i == 0) (cond-some ((r.0 == 0) && (i == 0)) (loc 1) v e) in
        let first : i ≡ 0 = at-same 0 i b.1 in
        let below : i < 1 = omega arith in
        (guarding, ap (slice_get (guarding ∷ [])) (at-same 0 r.0 b.0), below)
    no_more (own f i) v e = absurd (none-some v e)

-- no procedure of that program sets the resource up
guarded-no_init : (n : ℕ) (h : Procedure) → slice_get guarded.procedures n ≡ Some h → is_init h ≡ true → ⊥
guarded-no_init zero h e i = absurd (true≢false (sym i ∙ ap is_init (sym (same_Some skip h e))))
guarded-no_init (suc zero) h e i = absurd (true≢false (sym i ∙ ap is_init (sym (same_Some takes h e))))
guarded-no_init (suc (suc n)) h e i = absurd (none-some h e)

-- so its starts are settled
guarded-settled : (b : Beginning) (g : Procedure) (store : Store) (heap : Heap) → BeginsWith b guarded g store heap
    → BeginsWith settled guarded g store heap
guarded-settled settled g store heap w = w
guarded-settled (fresh n h) g store heap w = absurd (guarded-no_init n.0 h w.0 w.1)

-- whatever heap it starts with is that cell
pub skip_starts_with_nothing_else : SkipStartsWithNothingElse
unfolding SkipStartsWithNothingElse
skip_starts_with_nothing_else store heap c s =
    let same : skip ≡ s.procedure = cc (s.there) in
    let pre : (Sat emp.level (evaluate entry_slot store) (λ n. nil) ⋆ Invariants guarded.resources store) heap
    =
    subst (λ (z : Procedure). (Sat z.pre.level (evaluate entry_slot store) (λ n. nil)
    ⋆ Invariants guarded.resources store) heap) (sym same)
    (guarded-settled s.beginning s.procedure store heap s.begins) in
    let d = sat-one shared_one (evaluate entry_slot store) heap
    (star-drop_right (star-drop_left (star-map_left (λ part e. e.2) pre))) in
    (d.0, d.1, at-location (store (shared lock 0)) d.0 d.2, d.3)

-- which the empty heap isn't
pub skip_does_not_start_with_nothing : SkipDoesNotStartWithNothing
unfolding SkipDoesNotStartWithNothing SkipStartsWithNothingElse
skip_does_not_start_with_nothing store heap c none s = let d =
    skip_starts_with_nothing_else store heap c s in one-not_empty d.3 none

-- it holds the resource through its precondition
pub holders_do_not_start : HoldersDoNotStart
unfolding HoldersDoNotStart
holders_do_not_start store heap c s =
    s.holds_none lock (inl (record { procedure = takes; there = refl; variable = 0; occurs = inl shared-occurs }))
