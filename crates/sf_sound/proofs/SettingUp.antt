-- The program of `skip` and a procedure that sets one resource up: with what it makes the program is sound or isn't.
-- Names: `FACT-of` says a fact of the program with any body of that procedure.
use Rattle.std.specs.Prelude.{◌≡◌, ◌≤◌, ◌<◌, ℕ, zero, suc, ◌⊎◌, true, Contains, List, [], ◌∷◌, ◌++◌, length, Option, Some, slice_get}
use Rattle.std.specs.List.{All}
use Rattle.std.proofs.Common.{arith, inl, inr, refl, subst, sym, ◌∙◌, true≢false}
use Rattle.std.proofs.lemmas.List.Elements.{All-cons, All-nil}
use Rattle.std.proofs.lemmas.Option.{none-some, same_Some}
use Rattle.sf_base.proofs.Elements.{contains-nil, contains-single_of}
use Rattle.sf_base.specs.declared.ids.ProcId.{ProcId}
use Rattle.sf_base.specs.declared.ids.ResId.{ResId}
use Rattle.sf_base.specs.declared.ids.Var.{Var}
use Rattle.sf_base.specs.declared.ids.Var.TheVariants.{Own, Shared}
use Rattle.sf_base.specs.declared.value.Value.TheVariants.{Nil as nil}
use Rattle.sf_calls.specs.Checked.Laws.{SetsExist}
use Rattle.sf_calls.specs.Checked.Lemmas.Sites.{at_one}
use Rattle.sf_calls.specs.Conditions.{Calls, Enters, Free, Mentions, Takes}
use Rattle.sf_calls.specs.FirstBreach.{Conditions}
use Rattle.sf_calls.specs.Outside.{CallsIn, EntersIn, IsAmong, IsOutside, Makes, OccursOutside, owner}
use Rattle.sf_calls.specs.Reaches.{directly, through}
use Rattle.sf_calls.specs.Sets.{AreSetsOf, IsEarlier, IsEarlierResource, IsFamily, IsSetOf, Sets}
use Rattle.sf_core.proofs.Machine.Examples.SettingUp.{fresh_skip_starts, unmet_invariants_are_not_good}
use Rattle.sf_core.specs.Assertions.Determined.{Determined}
use Rattle.sf_core.specs.Assertions.Occurs.{VarOccursIn}
use Rattle.sf_core.specs.Checked.Machine.Examples.{at_shared, emp, guarding, here, lock, one_cell_at, shared_in, shared_one, skip}
use Rattle.sf_core.specs.Checked.Machine.SettingUp.{FreshSkipStarts, UnmetInvariantsAreNotGood, first, fresh_start, init_with, makes_its_cell, makes_nothing, no_cells, set_up_by}
use Rattle.sf_core.specs.Machine.HasThroughout.{ContractMentions, HasThroughout}
use Rattle.sf_core.specs.Machine.Sound.{IsSound}
use Rattle.sf_core.specs.Program.Formed.{AssertionWithin, BlockWithin, IsFormed, IsOfResource, ProcedureWithin, block_depth}
use Rattle.sf_core.specs.Program.Heads.{Site, head_regions, occurrences_at, sites}
use Rattle.sf_core.specs.Program.Init.{is_init, sets_up}
use Rattle.sf_core.specs.Program.Syntax.{Assertion, Block, done, new, Procedure, Program, Resource}
use Rattle.sf_precise.specs.Annotations.{annotations_in}
use Rattle.sf_precise.specs.Checked.Laws.{OrderingExists}
use Rattle.sf_precise.specs.Order.{IsOrdering}
use Rattle.sf_rules.specs.Proving.{Proves}
use Rattle.sf_rules.specs.Setting.{IsSettingOf, Setting}
use Rattle.sf_sound.proofs.AsWritten.{IsAsWritten, procedure-proved}
use Rattle.sf_sound.proofs.Races.{example-is-sound, sound-by}
use Rattle.sf_sound.proofs.SmallPrograms.{cell-determined, cell-ordered, cell-within, emp-determined, emp-no_var, emp-ordered, emp-within, everywhere, of-two, set-nothing, set-of_each, set-single, small-within}
use Rattle.sf_sound.specs.Checked.ExamplesOfInit.{SetUpIsSound, UnmetInvariantsHaveNoProof, set_up_tags}
use Rattle.sf_sound.specs.Proofs.{ProofsAreSound}
use Rattle.sf_sym.specs.declared.tag.Tag.TheVariants as t

-- WITH ANY BODY its form
skip-within : (body : Block) → ProcedureWithin (set_up_by (init_with body)) skip
skip-within body =
    small-within (set_up_by (init_with body)) skip refl refl refl refl refl (emp-within _ _) (emp-within _ _) tt

init-within : (body : Block) → BlockWithin (set_up_by (init_with body)) (init_with body) body
    → block_depth body ≤ 64 → ProcedureWithin (set_up_by (init_with body)) (init_with body)
init-within body within nesting =
    let few : 0 ≤ 256 = omega arith in
    let named : 0 ≤ 0 = omega arith in record {
      declared_count = few;
      declared = named;
      primed = named;
      pre = emp-within _ _;
      post = emp-within _ _;
      body = within;
      depth = nesting;
      init = λ e. record { references = refl; values = refl; pre = tt; post = tt };
    }

resources-within : (body : Block) (k : ℕ) (r : Resource) → slice_get (set_up_by (init_with body)).resources k ≡ Some r
    → AssertionWithin (set_up_by (init_with body)).fields (IsOfResource k (length r.variables)) r.invariant
resources-within body zero r e =
    let below : 0 < 1 = omega arith in
    subst (λ (z : Resource). AssertionWithin (set_up_by (init_with body)).fields (IsOfResource 0 (length z.variables))
    z.invariant)
    (same_Some guarding r e) (cell-within _ _ shared_one (refl, below))
resources-within body (suc k) r e = absurd (none-some r e)

second-alone : (body : Block) (j : ℕ) (g : Procedure) → slice_get (set_up_by (init_with body)).procedures j ≡ Some g
    → is_init g ≡ true → j ≡ 1
second-alone body zero g e i =
    absurd (true≢false (sym (subst (λ z. is_init z ≡ true) (sym (same_Some skip g e)) i)))
second-alone body (suc zero) g e i = refl
second-alone body (suc (suc j)) g e i = absurd (none-some g e)

formed-of : (body : Block) → BlockWithin (set_up_by (init_with body)) (init_with body) body → block_depth body ≤ 64
    → IsFormed (set_up_by (init_with body))
formed-of body within nesting = record {
  procedures = of-two (ProcedureWithin (set_up_by (init_with body))) skip (init_with body) (skip-within body)
      (init-within body within nesting);
  resources = resources-within body;
  procedure_count = let e : 2 ≤ 1000 = omega arith in e;
  resource_count = let e : 1 ≤ 64 = omega arith in e;
  field_count = let e : 1 ≤ 16 = omega arith in e;
  variables = let e : 1 ≤ 256 = omega arith in e;
  one_init = λ j k f g a b e i. second-alone body j f a e ∙ sym (second-alone body k g b i);
}

-- WITH THE BODY THAT MAKES A CELL
abbrev p : Program
p = set_up_by makes_its_cell

abbrev v : Var
v = Shared lock 0

formed : IsFormed p
formed =
    let below : 0 < 1 = omega arith in
    let nesting : 1 ≤ 64 = omega arith in
    formed-of makes_its_cell.body (below, tt) nesting

abbrev D : Assertion → Type 0
D a = Determined a.level

determined : All D (annotations_in p)
determined =
    All-cons D (one_cell_at shared_one) (emp ∷ emp ∷ emp ∷ emp ∷ []) (cell-determined shared_one)
    (All-cons D emp (emp ∷ emp ∷ emp ∷ []) emp-determined
    (All-cons D emp (emp ∷ emp ∷ []) emp-determined
    (All-cons D emp (emp ∷ []) emp-determined
    (All-cons D emp [] emp-determined (All-nil D)))))

-- no body has a region or a call
no-region : (r : ResId) (f : ProcId) → Enters p r f → ⊥
no-region r f (h, e, w) =
    of-two (λ (g : Procedure). EntersIn r g.body → ⊥) skip makes_its_cell
    (λ w. at_one P (sites [] skip.body) w)
    (λ w. elim (at_one P (sites [] makes_its_cell.body) w) [ inl c ↦ contains-nil r c | inr n ↦ n ])
    f.0 h e w
  where
    P : Site → Type 0
    P s = Contains (head_regions s.command) r

no-call : (but : Option ResId) (f g : ProcId) → Calls p but f g → ⊥
no-call but f g (h, e, w) =
    of-two (λ (k : Procedure). CallsIn but g k.body → ⊥) skip makes_its_cell
    (λ w. at_one P (sites [] skip.body) w)
    (λ w. elim (at_one P (sites [] makes_its_cell.body) w) [ inl c ↦ contains-nil _ c.1.1 | inr n ↦ n ])
    f.0 h e w
  where
    P : Site → Type 0
    P s = IsOutside but s.entered × Makes s.command (λ d. d.callee ≡ g)

takes-none : (f : ProcId) (r : ResId) → Takes p f r → ⊥
takes-none f r t = everywhere (no-region r) f t

-- no contract mentions anything
no-mention : (f : ProcId) (r : ResId) → ContractMentions p f r → ⊥
no-mention f r h =
    of-two (λ (g : Procedure). VarOccursIn g.pre.level (Shared r h.variable)
    ⊎ VarOccursIn g.post.level (Shared r h.variable) → ⊥) skip makes_its_cell none none f.0 h.procedure h.there h.occurs
  where
    none : VarOccursIn emp.level (Shared r h.variable) ⊎ VarOccursIn emp.level (Shared r h.variable) → ⊥
    none (inl o) = emp-no_var (Shared r h.variable) o
    none (inr o) = emp-no_var (Shared r h.variable) o

-- what is used is the resource's variable, in the second body
abbrev Uses : ResId → ℕ → Site → Type 0
Uses r i s = IsOutside (owner (Shared r i)) (head_regions s.command ++ s.entered)
    × IsAmong (Shared r i) (occurrences_at s.command)

used-at : (r : ResId) (i k : ℕ) (h : Procedure) → slice_get p.procedures k ≡ Some h
    → VarOccursIn h.pre.level (Shared r i)
    ⊎ (VarOccursIn h.post.level (Shared r i) ⊎ OccursOutside (Shared r i) h.body)
    → (k ≡ 1) × (v ≡ Shared r i)
used-at r i zero h e (inl o) =
    absurd (emp-no_var (Shared r i) (subst (λ z. VarOccursIn z.pre.level (Shared r i)) (sym (same_Some skip h e)) o))
used-at r i zero h e (inr (inl o)) =
    absurd (emp-no_var (Shared r i) (subst (λ z. VarOccursIn z.post.level (Shared r i)) (sym (same_Some skip h e)) o))
used-at r i zero h e (inr (inr o)) =
    absurd (at_one (Uses r i) (sites [] skip.body)
    (subst (λ z. OccursOutside (Shared r i) z.body) (sym (same_Some skip h e)) o))
used-at r i (suc zero) h e (inl o) =
    absurd (emp-no_var (Shared r i)
    (subst (λ z. VarOccursIn z.pre.level (Shared r i)) (sym (same_Some makes_its_cell h e)) o))
used-at r i (suc zero) h e (inr (inl o)) =
    absurd (emp-no_var (Shared r i)
    (subst (λ z. VarOccursIn z.post.level (Shared r i)) (sym (same_Some makes_its_cell h e)) o))
used-at r i (suc zero) h e (inr (inr o)) =
    elim (at_one (Uses r i) (sites [] makes_its_cell.body)
    (subst (λ z. OccursOutside (Shared r i) z.body) (sym (same_Some makes_its_cell h e)) o)) [
      | inl (out, inl same) ↦ (refl, same)
      | inl (out, inr n) ↦ absurd n
      | inr n ↦ absurd n
    ]
used-at r i (suc (suc k)) h e m = absurd (none-some h e)

used : (f : ProcId) (r : ResId) (i : ℕ) → Mentions p (Shared r i) f → (f.0 ≡ 1) × (v ≡ Shared r i)
used f r i (h, e, m) = used-at r i f.0 h e m

-- so these are its sets
free-used : (f : ProcId) (x : Var) → Free p f x → (f.0 ≡ 1) × (v ≡ x)
free-used f (Own n) w = absurd w.0
free-used f (Shared r i) (u, directly m) = used f r i m
free-used f (Shared r i) (u, through g c m) = absurd (no-call (owner (Shared r i)) f g c)

held-there : (f : ProcId) (r : ResId) → HasThroughout p f r → (sets_up p f ≡ true) × (r.0 < 1)
held-there f r (inl m) = absurd (no-mention f r m)
held-there f r (inr s) = s

abbrev own_sets : Sets
own_sets = record { takes = [] ∷ [] ∷ []; holds = [] ∷ (lock ∷ []) ∷ []; free = [] ∷ (v ∷ []) ∷ [] }

holds-family : IsFamily (IsSetOf IsEarlierResource) (HasThroughout p) 2 own_sets.holds
holds-family = record { each = refl; is = λ f xs e. at f.0 xs e }
  where
    at : (k : ℕ) (xs : List ResId) → slice_get own_sets.holds k ≡ Some xs
        → IsSetOf IsEarlierResource (HasThroughout p (record { 0 = k })) xs
    at zero xs e =
        subst (IsSetOf IsEarlierResource (HasThroughout p (record { 0 = 0 }))) (same_Some [] xs e)
        (set-nothing IsEarlierResource (HasThroughout p (record { 0 = 0 })) (λ r h.
        true≢false (sym (held-there (record { 0 = 0 }) r h).0)))
    at (suc zero) xs e =
        let below : 0 < 1 = omega arith in
        subst (IsSetOf IsEarlierResource (HasThroughout p (record { 0 = 1 }))) (same_Some (lock ∷ []) xs e)
        (set-single IsEarlierResource (HasThroughout p (record { 0 = 1 })) lock (inr (refl, below)) (λ r h.
        let less = (held-there (record { 0 = 1 }) r h).1 in
        let same : 0 ≡ r.0 = omega (arith, less) in λ i. record { 0 = same i }))
    at (suc (suc k)) xs e = absurd (none-some xs e)

free-family : IsFamily (IsSetOf IsEarlier) (Free p) 2 own_sets.free
free-family = record { each = refl; is = λ f xs e. at f.0 xs e }
  where
    at : (k : ℕ) (xs : List Var) → slice_get own_sets.free k ≡ Some xs
        → IsSetOf IsEarlier (Free p (record { 0 = k })) xs
    at zero xs e =
        subst (IsSetOf IsEarlier (Free p (record { 0 = 0 }))) (same_Some [] xs e)
        (set-nothing IsEarlier (Free p (record { 0 = 0 })) (λ x h.
        let same : 0 ≡ 1 = (free-used (record { 0 = 0 }) x h).0 in absurd (omega (arith, same))))
    at (suc zero) xs e =
        subst (IsSetOf IsEarlier (Free p (record { 0 = 1 }))) (same_Some (v ∷ []) xs e)
        (set-single IsEarlier (Free p (record { 0 = 1 })) v
        (tt, directly (makes_its_cell, refl, inr (inr (makes, is-there, (contains-nil lock, inl refl)))))
        (λ x h. (free-used (record { 0 = 1 }) x h).1))
      where
        makes : Site
        makes = record { entered = []; command = new here at_shared }

        is-there : Contains (sites [] makes_its_cell.body) makes
        is-there = contains-single_of makes makes refl
    at (suc (suc k)) xs e = absurd (none-some xs e)

are-sets : AreSetsOf p own_sets
are-sets = record {
  takes = set-of_each IsEarlierResource (Takes p) 2 []
      (λ f l. set-nothing IsEarlierResource (Takes p f) (takes-none f));
  holds = holds-family;
  free = free-family;
}

-- the variable that the body sets is held, since it sets the resource up
conditions : Conditions p
conditions = let below : 0 < 1 = omega arith in ((λ never. never (inl (inr (refl, below)))), tt)

-- its proof
module _ (in_order : Assertion → Assertion) (ordering : IsOrdering in_order) where
  abbrev own_setting : Setting
  own_setting = record { program = p; sets = own_sets; ordered = in_order }

  emp-same : in_order emp ≡ emp
  emp-same = ordering.ordered emp emp emp-ordered

  resources-same : (k : ℕ) (r : Resource) → slice_get p.resources k ≡ Some r → in_order r.invariant ≡ r.invariant
  resources-same zero r e =
      subst (λ (z : Resource). in_order z.invariant ≡ z.invariant) (same_Some guarding r e)
      (ordering.ordered (one_cell_at shared_one) (one_cell_at shared_one) (cell-ordered shared_one))
  resources-same (suc k) r e = absurd (none-some r e)

  as-written : IsAsWritten own_setting
  as-written = record {
    procedures = of-two (λ (g : Procedure). (in_order g.pre ≡ g.pre) × (in_order g.post ≡ g.post)) skip makes_its_cell
        (emp-same, emp-same) (emp-same, emp-same);
    resources = resources-same;
  }

  proves : Proves own_setting set_up_tags
  proves =
      procedure-proved own_setting as-written 0 skip (makes_its_cell ∷ []) (t.Return ∷ t.End ∷ []) _ refl refl refl
      (procedure-proved own_setting as-written 1 makes_its_cell [] (t.New ∷ t.Return ∷ t.Cell 1 ∷ t.End ∷ []) []
      refl refl refl refl)

  is-own : IsSettingOf p own_setting
  is-own = record { program = refl; sets = are-sets; ordering = ordering }

pub set_up_is_sound : ProofsAreSound → OrderingExists → SetUpIsSound
set_up_is_sound law exists =
    example-is-sound law exists p set_up_tags formed conditions determined own_setting is-own proves

-- WITH THE BODY THAT MAKES NOTHING
abbrev q : Program
q = set_up_by makes_nothing

q-formed : IsFormed q
q-formed = let nesting : 0 ≤ 64 = omega arith in formed-of makes_nothing.body tt nesting

unsound : IsSound q → ⊥
unfolding FreshSkipStarts UnmetInvariantsAreNotGood
unsound sound =
    unmet_invariants_are_not_good
    (sound first (shared_in nil) no_cells (fresh_start makes_nothing) (fresh_start makes_nothing) []
    (fresh_skip_starts done) refl)

pub unmet_invariants_have_no_proof : ProofsAreSound → OrderingExists → SetsExist → UnmetInvariantsHaveNoProof
unfolding OrderingExists
unmet_invariants_have_no_proof law (in_order, ordering, good) sets = record {
  formed = q-formed;
  conditions = tt;
  determined = determined;
  setting = record { program = q; sets = (sets q q-formed).0; ordered = in_order };
  own_setting = record { program = refl; sets = (sets q q-formed).1; ordering = ordering };
  unsound = unsound;
  unproved = λ d tags own proves. unsound (sound-by law q q-formed tt determined d tags own proves);
}
