-- A program whose resource is set up first: it is formed, meets the conditions, and its bodies are safe; and one that leaves
-- the invariant unmet isn't sound.
-- Names: `formed-WHAT`, `conditions-WHAT`, `safe-WHAT`; the law's.
use Rattle.std.specs.Prelude.{◌≡◌, ◌⊎◌, ℕ, zero, suc, Bool, slice_get, true, false, cond, [], ◌∷◌, Contains, Some, codes, ◌<◌, ◌≤◌}
use Rattle.std.specs.Option.{unwrap_or}
use Rattle.std.proofs.Common.{true≢false, sym, ap, ◌∙◌, refl, subst, inl, inr, arith}
use Rattle.std.proofs.lemmas.Option.{none-some, same_Some}
use Rattle.sf_base.specs.declared.ids.ProcId.{ProcId}
use Rattle.sf_base.specs.declared.ids.ResId.{ResId}
use Rattle.sf_base.specs.declared.ids.Var.{Var}
use Rattle.sf_base.specs.declared.ids.Var.TheVariants.{Own as OwnVar, Shared}
use Rattle.sf_base.specs.declared.value.Value.{Value}
use Rattle.sf_base.specs.declared.value.Value.TheVariants.{Loc as loc, Nil as nil}
use Rattle.sf_base.specs.HeapStore.{Cell, IsEmpty, IsOne, Slot, same_slot}
use Rattle.sf_base.proofs.Elements.{contains-nil, contains-single}
use Rattle.sf_base.proofs.HeapSplits.{put-elsewhere, put-here, star-empty_right}
use Rattle.sf_base.proofs.StoreSplits.{slot-self, slot-which}
use Rattle.sf_calls.specs.declared.breach.Breach.{Breach}
use Rattle.sf_calls.specs.declared.breach.Breach.TheVariants.{NotHeld, ParallelShares, Reentered, ReferenceIsFree, SameReference}
use Rattle.sf_calls.specs.Breaks.{Breaks, BreaksAt}
use Rattle.sf_calls.specs.FirstBreach.{Conditions}
use Rattle.sf_calls.specs.Checked.Lemmas.Broken.{first_broken}
use Rattle.sf_core.specs.Assertions.Sat.{Sat}
use Rattle.sf_core.specs.Checked.GoodParts.{SatEach}
use Rattle.sf_core.specs.Checked.Machine.Examples.{at_shared, emp, here, lock, shared_in, shared_one, skip}
use Rattle.sf_core.specs.Checked.Machine.SettingUp.{FreshSkipStarts, UnmetInvariantsAreNotGood, first, fresh_start, makes_its_cell, makes_nothing, no_cells, set_up_by}
use Rattle.sf_core.specs.declared.assertion.Scope.{Scope}
use Rattle.sf_core.specs.declared.command.Occurrence.{Occurrence}
use Rattle.sf_core.specs.Machine.Config.{items}
use Rattle.sf_core.specs.Machine.Good.{owed_by}
use Rattle.sf_core.specs.Machine.Step.{procedure_at}
use Rattle.sf_core.specs.Program.Formed.{AssertionWithin, IsFormed, ProcedureWithin}
use Rattle.sf_core.specs.Program.Heads.{Site, sites}
use Rattle.sf_core.specs.Program.Init.{is_init}
use Rattle.sf_core.specs.Program.Syntax.{new, done, Procedure, Program}
use Rattle.sf_core.proofs.Assertions.Scopes.{below-single, disjoint-single}
use Rattle.sf_core.proofs.Inits.{sets_up-is}
use Rattle.sf_core.proofs.Machine.Examples.Runs.{one-sat}
use Rattle.sf_core.proofs.Machine.Examples.SettingUp.{fresh_skip_starts, unmet_invariants_are_not_good}
use Rattle.sf_safe.specs.Checked.Own.{Own, HasSlot, put_cell, put_slot}
use Rattle.sf_safe.specs.Checked.Contract.{Ended, Entered, IsVariableOf, Known, see}
use Rattle.sf_safe.specs.Checked.Examples.{SettingUpIsSound, UnmetInvariantsAreNotSound}
use Rattle.sf_safe.specs.Checked.Law.{BodiesAreSafe, SafeProgramsAreSound}
use Rattle.sf_safe.specs.Checked.Safe.{Safe}
use Rattle.sf_safe.proofs.FillingTwice.{formed-two}
use Rattle.sf_safe.proofs.Sound.{safe_programs_are_sound}

-- a run that begins fresh with an unmet invariant isn't good
pub unmet_invariants_are_not_sound : UnmetInvariantsAreNotSound
unfolding UnmetInvariantsAreNotSound FreshSkipStarts UnmetInvariantsAreNotGood
unmet_invariants_are_not_sound sound = unmet_invariants_are_not_good
    (sound first (shared_in nil) no_cells (fresh_start makes_nothing) (fresh_start makes_nothing) []
    (fresh_skip_starts done) refl)

abbrev p : Program
p = set_up_by makes_its_cell

-- the program's two procedures
which : (k : ℕ) (g : Procedure) → slice_get p.procedures k ≡ Some g
    → ((k ≡ 0) × (skip ≡ g)) ⊎ ((k ≡ 1) × (makes_its_cell ≡ g))
which zero g e = inl (refl, same_Some skip g e)
which (suc zero) g e = inr (refl, same_Some makes_its_cell g e)
which (suc (suc k)) g e = absurd (none-some g e)

-- FORMED

abbrev no_scope : Scope
no_scope = record { first = 0; count = 0 }

formed-emp : (V : Var → Type 0) → AssertionWithin (codes "hd" ∷ []) V emp
formed-emp V = record {
  annotation = record {
    within = tt;
    disjoint = disjoint-single no_scope;
    depth = let e : 1 ≤ 64 = omega arith in e;
  };
  named = below-single no_scope 0 (omega arith);
  names = refl;
}

formed-skip : ProcedureWithin p skip
formed-skip = record {
  declared_count = let e : 0 ≤ 256 = omega arith in e;
  declared = let e : 0 ≤ 0 = omega arith in e;
  primed = let e : 0 ≤ 0 = omega arith in e;
  pre = formed-emp _;
  post = formed-emp _;
  body = tt;
  depth = let e : 0 ≤ 64 = omega arith in e;
  init = λ e. absurd (true≢false (sym e));
}

formed-makes : ProcedureWithin p makes_its_cell
formed-makes = record {
  declared_count = let e : 0 ≤ 256 = omega arith in e;
  declared = let e : 0 ≤ 0 = omega arith in e;
  primed = let e : 0 ≤ 0 = omega arith in e;
  pre = formed-emp _;
  post = formed-emp _;
  body = let e : 0 < 1 = omega arith in (e, tt);
  depth = let e : 1 ≤ 64 = omega arith in e;
  init = λ e. record { references = refl; values = refl; pre = tt; post = tt };
}

formed-procedures : (k : ℕ) (g : Procedure) → slice_get p.procedures k ≡ Some g → ProcedureWithin p g
formed-procedures k g e = elim (which k g e) [
  | inl i ↦ subst (ProcedureWithin p) i.1 formed-skip
  | inr i ↦ subst (ProcedureWithin p) i.1 formed-makes
]

-- the one that sets the resource up is the second
formed-number : (k : ℕ) (g : Procedure) → slice_get p.procedures k ≡ Some g → is_init g ≡ true → k ≡ 1
formed-number k g e n = elim (which k g e) [
  | inl i ↦ absurd (true≢false (sym n ∙ ap is_init (sym i.1)))
  | inr i ↦ i.0
]

formed : IsFormed p
formed = formed-two skip makes_its_cell formed-procedures
    (λ j k f g a b i n. formed-number j f a i ∙ sym (formed-number k g b n))

-- CONDITIONS

abbrev making : Site
making = record { entered = []; command = new here at_shared }

conditions-make : (f : ProcId) → procedure_at p f ≡ Some makes_its_cell → (b : Breach) → BreaksAt p f b making → ⊥
conditions-make f there (NotHeld place (OwnVar i)) (u, o) = u
conditions-make f there (NotHeld place (Shared r i)) (u, inl (inl c)) =
    u (inl (inr (sets_up-is p f makes_its_cell there, number)))
  where
    same : lock ≡ r
    same =
        let e = contains-single at_shared (record { var = Shared r i; place = place }) c in
        let v : Shared lock 0 ≡ Shared r i = ap (λ (z : Occurrence). z.var) e in cc

    number : r.0 < 1
    number = let e : 0 < 1 = omega arith in subst (λ (z : ResId). z.0 < 1) same e
conditions-make f there (NotHeld place (Shared r i)) (u, inl (inr o)) = contains-nil o.0 o.1
conditions-make f there (NotHeld place (Shared r i)) (u, inr o) = contains-nil o.0 o.1
conditions-make f there (Reentered place r) (h, inl o) = contains-nil r o.1
conditions-make f there (Reentered place r) (h, inr o) = contains-nil o.0 o.1
conditions-make f there (SameReference place x) o = contains-nil o.0 o.1
conditions-make f there (ReferenceIsFree place x) o = contains-nil o.0 o.1
conditions-make f there (ParallelShares place x) o = contains-nil o.0 o.1

conditions : Conditions p
conditions = (first_broken p formed).unbroken (λ f b breaks. go f b breaks)
  where
    go : (f : ProcId) (b : Breach) → Breaks p f b → ⊥
    go f b (h, there, (s, m, k)) = elim (which f.0 h there) [
      | inl e ↦ contains-nil s (subst (λ (z : Procedure). Contains (sites [] z.body) s) (sym e.1) m)
      | inr e ↦
          let at = subst (λ (z : Procedure). Contains (sites [] z.body) s) (sym e.1) m in
          conditions-make f (there ∙ ap Some (sym e.1)) b
          (subst (BreaksAt p f b) (sym (contains-single making s at)) k)
    ]

-- SAFE

safe-skip : (n : ℕ) (k : Known) (w : Own) → Entered p k w → procedure_at p k.fixed.procedure ≡ Some skip
    → Safe p n k [] w
safe-skip zero k w e there = tt
safe-skip (suc n) k w e there =
    let same : e.procedure ≡ skip = same_Some e.procedure skip (sym e.owns.frame.there ∙ there) in
    record {
      procedure = e.procedure;
      owns = e.owns;
      posts = subst (λ (z : Procedure). SatEach (owed_by p z) (see k w) w.cells) (sym same)
          (star-empty_right (subst (λ (z : Procedure). Sat z.pre.level (see k w) (λ n. nil) w.cells) same e.pre));
    }

-- a slot that is owned is owned still
put-has : (slot other : Slot) (v : Value) (w : Own) → HasSlot w other → HasSlot (put_slot slot v w) other
put-has slot other v w h = go (same_slot other slot) refl
  where
    go : (b : Bool) → same_slot other slot ≡ b → HasSlot (put_slot slot v w) other
    go true e = (v, ap (λ b. cond b (Some v) (w.slots other)) e)
    go false e = (h.0, ap (λ b. cond b (Some v) (w.slots other)) e ∙ h.1)

safe-makes : (n : ℕ) (k : Known) (w : Own) → Entered p k w → procedure_at p k.fixed.procedure ≡ Some makes_its_cell
    → Safe p n k (items makes_its_cell.body) w
safe-makes zero k w e there = tt
safe-makes (suc n) k w e there = (has, λ location cell i none. ends n location cell)
  where
    same : e.procedure ≡ makes_its_cell
    same = same_Some e.procedure makes_its_cell (sym e.owns.frame.there ∙ there)

    -- the variable of the resource
    slot : Slot
    slot = k.fixed.slots (Shared lock 0)

    has : HasSlot w slot
    has =
        let one : 0 < 1 = omega arith in
        e.owns.variables.each (Shared lock 0)
        (subst (λ (z : Procedure). IsVariableOf p k.fixed.procedure z (Shared lock 0)) (sym same) (inr (refl, one)))

    empty : IsEmpty w.cells
    empty = (subst (λ (z : Procedure). Sat z.pre.level (see k w) (λ n. nil) w.cells) same e.pre).2

    after : ℕ → Cell → Own
    after location cell = put_slot slot (loc location) (put_cell location (Some cell) w)

    only : (location : ℕ) (cell : Cell) (other : Slot) (v : Value) → (after location cell).slots other ≡ Some v
        → (x : Var) × IsVariableOf p k.fixed.procedure e.procedure x × (k.fixed.slots x ≡ other)
    only location cell other v h = elim (slot-which slot other) [
      | inl i ↦ let m = e.owns.variables.only slot has.0 has.1 in (m.0, m.1, m.2 ∙ sym i)
      | inr i ↦ e.owns.variables.only other v
          (sym (ap (λ b. cond b (Some (loc location)) (w.slots other)) i.1) ∙ h)
    ]

    value : (location : ℕ) (cell : Cell) → see k (after location cell) shared_one ≡ loc location
    value location cell = ap (λ b. unwrap_or (cond b (Some (loc location)) (w.slots slot)) nil) (slot-self slot)

    one : (location : ℕ) (cell : Cell) → IsOne location cell (after location cell).cells
    one location cell = record {
      here = put-here location (Some cell) w.cells;
      elsewhere = λ b n. put-elsewhere location b (Some cell) w.cells n ∙ empty.none b;
    }

    done_ : (location : ℕ) (cell : Cell) → Ended p k (after location cell)
    done_ location cell = record {
      procedure = e.procedure;
      owns = record {
        frame = e.owns.frame;
        variables = record {
          each = λ x a. put-has slot (k.fixed.slots x) (loc location) (put_cell location (Some cell) w)
              (e.owns.variables.each x a);
          only = only location cell;
        };
        tokens = e.owns.tokens;
        values = λ i l. let none : i < 0 = subst (λ (z : Procedure). i < z.values) same l in
            absurd (omega (arith, none));
      };
      posts = subst (λ (z : Procedure). SatEach (owed_by p z) (see k (after location cell)) (after location cell).cells)
          (sym same)
          (star-empty_right (one-sat shared_one (see k (after location cell)) (after location cell).cells location cell
          (value location cell) (one location cell)));
    }

    ends : (n location : ℕ) (cell : Cell) → Safe p n k [] (after location cell)
    ends zero location cell = tt
    ends (suc n) location cell = done_ location cell

bodies : BodiesAreSafe p
bodies k g there n w e = elim (which k.fixed.procedure.0 g there) [
  | inl i ↦ subst (λ (z : Procedure). Safe p n k (items z.body) w) i.1 (safe-skip n k w e (there ∙ ap Some (sym i.1)))
  | inr i ↦ subst (λ (z : Procedure). Safe p n k (items z.body) w) i.1 (safe-makes n k w e (there ∙ ap Some (sym i.1)))
]

pub setting_up_is_sound : SettingUpIsSound
unfolding SettingUpIsSound SafeProgramsAreSound
setting_up_is_sound = safe_programs_are_sound p formed conditions bodies
