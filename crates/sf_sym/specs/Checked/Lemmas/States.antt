-- The laws of a state's tests, where a goal with that state holds.
-- Names: `holds-LAW` speaks of a goal that holds; the laws themselves have the names of the functions
-- whose contracts they are.
use Rattle.std.specs.List.{list_any}
use Rattle.std.proofs.Common.{◌≡◌, ◌≢◌, ℕ, ◌==◌, true, ◌&&◌, ◌||◌, not, Option, Some, None, refl, sym, ◌∙◌, inl, inr}
use Rattle.std.proofs.lemmas.Bool.Decides.{Decides-eqb}
use Rattle.std.proofs.lemmas.Bool.{or_cases, and_from}
use Rattle.sf_base.specs.declared.ids.Var.{Var}
use Rattle.sf_base.specs.declared.value.Value.{Value}
use Rattle.sf_base.specs.HeapStore.{Heap, ◌⋆◌}
use Rattle.sf_sym.specs.declared.term.Term.{Term}
use Rattle.sf_sym.specs.Goal.{Goal}
use Rattle.sf_sym.specs.Holds.{term_value, AtomsHold, AddsHold, HoldsAt}
use Rattle.sf_sym.specs.Checked.Laws.{DifferingTermsDiffer, AllocatedTermsAreLocations, HeldStatesAreNotAbsurd}
use Rattle.sf_sym.specs.Tests.{is_constant, same_term, differs_at_once, allocates, is_left_out, parts, allocated, are_both_allocated, is_impossible, has_repeat}
use Rattle.sf_base.proofs.HeapSplits.{star-assoc_left, star-map_left}
use Rattle.sf_base.proofs.Bools.{not-both, and-left, and-right}
use Rattle.sf_base.proofs.Elements.{any-some}
use Rattle.sf_sym.specs.Checked.Lemmas.Terms.{term-constant_no_location, direct-differs, pairs-irreflexive}
use Rattle.sf_sym.specs.Checked.Lemmas.{atoms-append}
use Rattle.sf_sym.specs.Checked.Lemmas.Parts.{located-left, atoms-located, atoms-differ, atoms-possible, atoms-no_repeat}

-- the atoms and the taken atoms hold on one part of the heap
pub holds-parts : (w : ℕ → Value) (goal : Goal) (e : Var → Option Value) (heap : Heap) → HoldsAt w goal e heap
    → (AtomsHold w goal.state.links (parts goal.state) ⋆ AddsHold w goal.todo) heap
holds-parts w goal e heap h =
    star-map_left (λ part d. atoms-append w goal.state.links goal.state.atoms goal.state.taken part d)
    (star-assoc_left h.heaps)

-- an allocated term is a location of the heap
pub allocated_terms_are_locations : AllocatedTermsAreLocations
unfolding AllocatedTermsAreLocations
allocated_terms_are_locations w goal e heap h t except a =
    let p = holds-parts w goal e heap h in
    located-left p.splits (atoms-located w goal.state.links goal.state.apart h.apart t
    (λ b. not (is_left_out except b.number) && allocates goal.state.apart t b.atom)
    (λ b y. (and-right (not (is_left_out except b.number)) (allocates goal.state.apart t b.atom) y))
    (parts goal.state) p.left a p.first)

-- two terms that different atoms allocate have different values
allocated-differ : (w : ℕ → Value) (goal : Goal) (e : Var → Option Value) (heap : Heap)
    → HoldsAt w goal e heap
    → (t u : Term) → are_both_allocated goal.state t u ≡ true → term_value w t ≢ term_value w u
allocated-differ w goal e heap h t u b =
    let p = holds-parts w goal e heap h in
    let s = goal.state in
    let a = any-some (λ a. allocates s.apart t a.atom && allocated s u (Some a.number)) (parts s) b in
    let one = (and-left (allocates s.apart t a.0.atom) (allocated s u (Some a.0.number)) a.1) in
    let other = (and-right (allocates s.apart t a.0.atom) (allocated s u (Some a.0.number)) a.1) in
    atoms-differ w s.links s.apart h.apart t u
    (λ x. (x.number == a.0.number) && allocates s.apart t x.atom)
    (λ x. not (x.number == a.0.number) && allocates s.apart u x.atom)
    (λ x y. (and-right (x.number == a.0.number) (allocates s.apart t x.atom) y))
    (λ x y. (and-right (not (x.number == a.0.number)) (allocates s.apart u x.atom) y))
    (λ x y z. not-both (x.number == a.0.number)
    (and-left (x.number == a.0.number) (allocates s.apart t x.atom) y)
    (and-left (not (x.number == a.0.number)) (allocates s.apart u x.atom) z))
    (parts s) p.left
    (a.2 (λ x. (x.number == a.0.number) && allocates s.apart t x.atom)
    (and_from (a.0.number == a.0.number) (allocates s.apart t a.0.atom)
    ((Decides-eqb a.0.number a.0.number).1 refl) one))
    other p.first

-- a constant and an allocated term have different values
constant-differs : (w : ℕ → Value) (goal : Goal) (e : Var → Option Value) (heap : Heap)
    → HoldsAt w goal e heap
    → (t u : Term) → is_constant t && allocated goal.state u None ≡ true → term_value w t ≢ term_value w u
unfolding AllocatedTermsAreLocations
constant-differs w goal e heap h t u c i =
    let l = allocated_terms_are_locations w goal e heap h u None
    (and-right (is_constant t) (allocated goal.state u None) c) in
    term-constant_no_location w t l.location (and-left (is_constant t) (allocated goal.state u None) c)
    (i ∙ l.is)

-- terms that differ have different values
pub differing_terms_differ : DifferingTermsDiffer
unfolding DifferingTermsDiffer
differing_terms_differ w goal e heap h t u d =
    let s = goal.state in
    elim
    (or_cases (differs_at_once s.apart t u || is_constant t && allocated s u None || is_constant u
    && allocated s t None) (are_both_allocated s t u) d) [
      | inl y ↦
          elim (or_cases (differs_at_once s.apart t u || is_constant t && allocated s u None)
          (is_constant u && allocated s t None) y) [
            | inl z ↦ elim (or_cases (differs_at_once s.apart t u) (is_constant t && allocated s u None) z) [
              | inl x ↦ direct-differs w s.apart t u h.apart x
              | inr x ↦ constant-differs w goal e heap h t u x
            ]
            | inr z ↦ λ i. constant-differs w goal e heap h u t z (sym i)
          ]
      | inr y ↦ allocated-differ w goal e heap h t u y
    ]

-- the state isn't absurd
pub held_states_are_not_absurd : HeldStatesAreNotAbsurd
unfolding HeldStatesAreNotAbsurd
held_states_are_not_absurd w goal e heap h a =
    let s = goal.state in
    let p = holds-parts w goal e heap h in
    elim
    (or_cases (list_any (λ p. same_term p.0 p.1) s.apart || list_any (λ a. is_impossible s.apart a.atom)
    (parts s)) (has_repeat s.apart (parts s)) a) [
      | inl y ↦
          elim
          (or_cases (list_any (λ p. same_term p.0 p.1) s.apart)
          (list_any (λ a. is_impossible s.apart a.atom) (parts s)) y) [
            | inl z ↦ pairs-irreflexive w s.apart h.apart z
            | inr z ↦ atoms-possible w s.links s.apart h.apart (parts s) p.left z p.first
          ]
      | inr y ↦ atoms-no_repeat w s.links s.apart h.apart (parts s) p.left y p.first
    ]
