-- Force: a segment or tree whose root is a constant, or a cell of another atom, has no cell, so its ends are the same;
-- a doubly linked segment that ends where it begins has its last cell before it.
use Rattle.std.specs.Option.{option_and_then}
use Rattle.std.specs.Prelude.{◌⊎◌}
use Rattle.std.proofs.Common.{◌≡◌, ◌≢◌, ℕ, ◌==◌, Bool, true, false, ◌&&◌, cond, not, List, [], ◌∷◌, Option, Some, None, refl, sym, ap, subst, inl, inr}
use Rattle.std.proofs.lemmas.Bool.{or_cases}
use Rattle.std.proofs.lemmas.Option.{cond_some, option_and_then_some, same_Some}
use Rattle.sf_base.proofs.Bools.{and-right}
use Rattle.sf_base.proofs.MapSplits.{union, splits-union}
use Rattle.sf_base.proofs.Options.{option_map-some}
use Rattle.sf_base.specs.declared.ids.Var.{Var}
use Rattle.sf_base.specs.declared.value.Value.{Value}
use Rattle.sf_base.specs.HeapStore.{Heap}
use Rattle.sf_core.proofs.Assertions.Values.{value-which}
use Rattle.sf_core.specs.declared.fields.Links.{Links}
use Rattle.sf_sym.specs.Checked.Lemmas.Keeping.{before-equal, follows-equal, kept-one}
use Rattle.sf_sym.specs.Known.{forced_by, forced_pair, is_elsewhere}
use Rattle.sf_normal.proofs.Dropping.{dseg_along-empty}
use Rattle.sf_normal.specs.Checked.Laws.{ForceKeepsGoals}
use Rattle.sf_sym.specs.Checked.Lemmas.{same_term_is}
use Rattle.sf_sym.specs.Checked.Lemmas.Below.{forced-below}
use Rattle.sf_sym.specs.Checked.Lemmas.AtomLists.{at-all, at-append, atoms-out, without-any}
use Rattle.sf_sym.specs.Checked.Lemmas.Parts.{atoms-located, dseg_along-located, located-apart, seg_along-located, tree_along-located}
use Rattle.sf_sym.specs.Checked.Lemmas.States.{holds-parts}
use Rattle.sf_sym.specs.Checked.Lemmas.Terms.{term-constant_no_location}
use Rattle.sf_sym.specs.Checked.Lemmas.TwoHeaps.{in-at}
use Rattle.sf_sym.specs.Below.{AllInAtom, IsBelow}
use Rattle.sf_sym.specs.Cells.{atom_at, without}
use Rattle.sf_sym.specs.declared.atom.Atom.{Atom}
use Rattle.sf_sym.specs.declared.atom.Atom.TheVariants.{Points, Ls, Tree, Dll}
use Rattle.sf_sym.specs.declared.atom.Numbered.{Numbered}
use Rattle.sf_sym.specs.declared.term.Term.{Term}
use Rattle.sf_sym.specs.declared.term.Term.TheVariants.{Nil}
use Rattle.sf_sym.specs.Equalities.{assumed_equal}
use Rattle.sf_sym.specs.Goal.{Goal}
use Rattle.sf_sym.specs.Holds.{term_value, AtomHolds}
use Rattle.sf_sym.specs.HoldsIn.{HoldsIn}
use Rattle.sf_sym.specs.Checked.Laws.{HoldsAsBefore, IsLocationIn}
use Rattle.sf_sym.specs.Tests.{allocated, allocates, is_constant, is_left_out, parts, root, same_term}

-- the ends of what has a cell at its first one, unless they are the same
forced-ends : (w : ℕ → Value) (t u : Term) (elsewhere : Bool) (both : Term × Term) (heap : Heap)
    → (term_value w t ≢ term_value w u → IsLocationIn heap (term_value w t))
    → cond (not (same_term t u) && elsewhere) (Some (t, u)) None ≡ Some both
    → (elsewhere ≡ true → IsLocationIn heap (term_value w t) → ⊥) → term_value w both.0 ≡ term_value w both.1
forced-ends w t u elsewhere both heap located e none =
    let (so, is) = cond_some (not (same_term t u) && elsewhere) (t, u) both e in
    subst (λ z. term_value w z.0 ≡ term_value w z.1) is (go (value-which (term_value w t) (term_value w u)) so)
  where
    go : (term_value w t ≡ term_value w u) ⊎ (term_value w t ≢ term_value w u)
        → not (same_term t u) && elsewhere ≡ true → term_value w t ≡ term_value w u
    go (inl same) i = same
    go (inr n) i = absurd (none (and-right (not (same_term t u)) elsewhere i) (located n))

-- two terms that are forced have one value, where the atom has no cell at its root if that is elsewhere
pub forced-value : (w : ℕ → Value) (links : Links) (x : Atom) (elsewhere : Bool) (both : Term × Term) (heap : Heap)
    → forced_by elsewhere x ≡ Some both → AtomHolds w links x heap
    → (elsewhere ≡ true → IsLocationIn heap (term_value w (root x)) → ⊥)
    → term_value w both.0 ≡ term_value w both.1
forced-value w links (Points t fields) elsewhere both heap e s none = absurd (cc)
forced-value w links (Ls t u) elsewhere both heap e s none =
    forced-ends w t u elsewhere both heap (λ n. seg_along-located links.tl (term_value w t) (term_value w u) heap n s)
    e none
forced-value w links (Tree t) elsewhere both heap e s none =
    forced-ends w t Nil elsewhere both heap (λ n. tree_along-located links.l links.r (term_value w t) heap n s) e none
forced-value w links (Dll v p l u) elsewhere both heap e s none =
    go (same_term v u) refl (same_term p l) elsewhere e none
  where
    -- where its root is elsewhere, it ends where it begins
    ends-same : (term_value w v ≡ term_value w u) ⊎ (term_value w v ≢ term_value w u)
        → (IsLocationIn heap (term_value w v) → ⊥) → term_value w v ≡ term_value w u
    ends-same (inl same) never = same
    ends-same (inr n) never =
        absurd (never
        (dseg_along-located links.tl links.pv (term_value w v) (term_value w p) (term_value w l) (term_value w u) heap
        n s).0)

    go : (x : Bool) → same_term v u ≡ x → (y z : Bool)
        → cond {A = Option (Term × Term)} x (cond y None (Some (p, l))) (cond z (Some (v, u)) None) ≡ Some both
        → (z ≡ true → IsLocationIn heap (term_value w v) → ⊥) → term_value w both.0 ≡ term_value w both.1
    go true i true z f never = absurd (cc)
    go true i false z f never =
        let is : (p, l) ≡ both = same_Some (p, l) both f in
        subst (λ (k : Term × Term). term_value w k.0 ≡ term_value w k.1) is
        (dseg_along-empty links.tl links.pv (term_value w v) (term_value w p) (term_value w l) (term_value w u) heap
        (ap (term_value w) (same_term_is v u i)) s).0
    go false i y true f never =
        let is : (v, u) ≡ both = same_Some (v, u) both f in
        subst (λ (k : Term × Term). term_value w k.0 ≡ term_value w k.1) is
        (ends-same (value-which (term_value w v) (term_value w u)) (never refl))
    go false i y false f never = absurd (cc)

-- the atom of that number is left out
is-left_out : (a : ℕ) (t : Term) (apart : List (Term × Term)) (x : Numbered) → x.number == a ≡ true
    → not (is_left_out (Some a) x.number) && allocates apart t x.atom ≡ false
is-left_out a t apart x i = ap (λ b. not b && allocates apart t x.atom) i

-- what another atom allocates is no location of the heap of that one
pub other-allocated : (w : ℕ → Value) (goal : Goal) (e : Var → Option Value) (free taken : Heap) (a : ℕ)
    (x : Atom) (t : Term)
    → HoldsIn w goal e free taken → atom_at goal.state.atoms a ≡ Some x
    → allocated goal.state t (Some a) ≡ true
    → (part : Heap) × AtomHolds w goal.state.links x part × (IsLocationIn part (term_value w t) → ⊥)
other-allocated w goal e free taken a x t h at other =
    let s = goal.state in
    let p = holds-parts w goal e (union free taken)
    (in-at w goal e (union free taken) free taken (splits-union h.disjoint) h) in
    let o = atoms-out w s.links (parts s) a x p.left (at-append s.atoms s.taken a x at) p.first in
    let p_other = λ (b : Numbered). not (is_left_out (Some a) b.number) && allocates s.apart t b.atom in
    let there = atoms-located w s.links s.apart h.apart t p_other
    (λ b y. and-right (not (is_left_out (Some a) b.number)) (allocates s.apart t b.atom) y)
    (without (parts s) a) o.right (without-any p_other (parts s) a (is-left_out a t s.apart) other) o.second in
    (o.left, o.first, λ here. located-apart o.splits here there refl)

-- a constant is no location
constant-nowhere : (w : ℕ → Value) (t : Term) (heap : Heap) → is_constant t ≡ true
    → IsLocationIn heap (term_value w t) → ⊥
constant-nowhere w t heap c l = term-constant_no_location w t l.location c l.is

-- where the root of an atom is elsewhere, its heap has no cell there
at-elsewhere : (w : ℕ → Value) (goal : Goal) (e : Var → Option Value) (free taken : Heap) (a : ℕ) (x : Atom) (t : Term)
    (b : Bool)
    → HoldsIn w goal e free taken → atom_at goal.state.atoms a ≡ Some x → is_elsewhere goal.state a t ≡ b
    → (part : Heap) × AtomHolds w goal.state.links x part × (b ≡ true → IsLocationIn part (term_value w t) → ⊥)
at-elsewhere w goal e free taken a x t false h at is =
    let o = atoms-out w goal.state.links goal.state.atoms a x h.there.left at h.there.first in
    (o.left, o.first, λ i. absurd (cc))
at-elsewhere w goal e free taken a x t true h at is =
    elim (or_cases (is_constant t) (allocated goal.state t (Some a)) is) [
      | inl c ↦
          let o = atoms-out w goal.state.links goal.state.atoms a x h.there.left at h.there.first in
          (o.left, o.first, λ i. constant-nowhere w t o.left c)
      | inr other ↦
          let (part, here, never) = other-allocated w goal e free taken a x t h at other in
          (part, here, λ i. never)
    ]

pub force_keeps_goals : ForceKeepsGoals
unfolding ForceKeepsGoals
force_keeps_goals a goal left shape row =
    let (both, found, is) = option_map-some (λ (e : Term × Term). assumed_equal e.0 e.1 goal ∷ [])
    (option_and_then (forced_pair goal.state a) (atom_at goal.state.atoms a)) left row in
    option_and_then_some (forced_pair goal.state a) (atom_at goal.state.atoms a) both found
    (λ x at forced.
    let elsewhere = is_elsewhere goal.state a (root x) in
    let b = forced-below goal.state.next_sym x elsewhere both forced
    (at-all (AllInAtom (IsBelow goal.state.next_sym)) goal.state.atoms a x at shape.below.state.atoms) in
    kept-one HoldsAsBefore goal (assumed_equal both.0 both.1 goal) left (ap Some (sym is))
    (follows-equal both.0 both.1 goal shape.below b.0 b.1)
    (λ w f free taken h. before-equal w both.0 both.1 goal f free taken
    (let (part, here, none) = at-elsewhere w goal f free taken a x (root x) elsewhere h at refl in
    forced-value w goal.state.links x elsewhere both part forced here none) h))
