-- A tag that the strategy takes has a row.
-- Names: `good-LAW` of choices whose tag has a row.
use Rattle.std.proofs.Common.{◌≡◌, ℕ, Bool, true, false, ◌&&◌, ◌||◌, not, cond, Option, Some, None, List, is_some, refl, sym, ap, ap₂, ◌∙◌, subst}
use Rattle.std.proofs.lemmas.Bool.{or_parts}
use Rattle.std.proofs.lemmas.Option.{same_Some}
use Rattle.std.specs.List.{slice_get}
use Rattle.std.specs.Option.{option_and_then, option_map}
use Rattle.sf_base.specs.declared.ids.FieldId.{FieldId}
use Rattle.sf_core.specs.declared.assertion.Test.{Test}
use Rattle.sf_core.specs.declared.assertion.Test.TheVariants.{True, Equal, Differ}
use Rattle.sf_core.specs.Program.Formed.{TestWithin}
use Rattle.sf_normal.specs.Knowledge.{back_one, split_row, unroll_one, unrolled_double, unrolled_last, unrolled_segment, unrolled_tree}
use Rattle.sf_rules.specs.Checked.Rows.Whole.{row_of}
use Rattle.sf_rules.specs.Setting.{Setting}
use Rattle.sf_rules.specs.Shape.{HasLinks}
use Rattle.sf_search.proofs.Found.{all-append, all-at, cell-of_atom, found-among, found-at, found-none, none-forced}
use Rattle.sf_search.specs.declared.choices.choice.Choice.{Choice}
use Rattle.sf_search.specs.declared.choices.choice.Choice.TheVariants.{Stays as stays, Takes as takes}
use Rattle.sf_search.specs.Strategy.{double_at, last_at, lowest, lowest_forced, or_else, segment_at, tree_at, undecided_ends, which}
use Rattle.sf_sym.specs.declared.stuck.Stuck.{Stuck}
use Rattle.sf_search.specs.Checked.Chooses.{at_cell, at_test, found_or, opened, opened_back, opened_by, opened_double, opened_either, opened_first, split_by, split_found, split_or, takes_if}
use Rattle.sf_search.proofs.GoalShapes.{IsReady}
use Rattle.sf_sym.specs.Below.{AllInAtom, AllInAtoms, IsBelow, is_below}
use Rattle.sf_sym.specs.Cells.{atom_at, cell_at, fields_at}
use Rattle.sf_sym.specs.declared.atom.Atom.{Atom}
use Rattle.sf_sym.specs.declared.atom.Atom.TheVariants.{Points, Ls, Tree, Dll}
use Rattle.sf_sym.specs.declared.atom.Numbered.{Numbered}
use Rattle.sf_sym.specs.declared.tag.Tag.{Tag}
use Rattle.sf_sym.specs.declared.tag.Tag.TheVariants as t
use Rattle.sf_sym.specs.declared.term.Term.{Term}
use Rattle.sf_sym.specs.declared.term.Term.TheVariants.{Nil}
use Rattle.sf_sym.specs.Decided.{is_false, is_true}
use Rattle.sf_sym.specs.Goal.{Goal}
use Rattle.sf_sym.specs.Known.{ends, forced_double, forced_pair, is_nothing}
use Rattle.sf_sym.specs.Checked.Lemmas.{same_term_is}
use Rattle.sf_sym.specs.State.{State}
use Rattle.sf_sym.specs.Tests.{differs, parts, same_term}

-- a choice whose tag has a row among these
abbrev pub Good : (Tag → Option (List Goal)) → Choice → Type 0
Good R (takes tag) = is_some (R tag) ≡ true
Good R (stays kind) = Unit {0}

-- a choice that may be there
abbrev pub GoodIf : (Tag → Option (List Goal)) → Option Choice → Type 0
GoodIf R None = Unit {0}
GoodIf R (Some c) = Good R c

module _ (R : Tag → Option (List Goal)) where
  pub good-or : (o : Option Choice) (c : Choice) → GoodIf R o → (o ≡ None → Good R c) → Good R (or_else o c)
  good-or None c a b = b refl
  good-or (Some x) c a b = a

  pub good-if : (b : Bool) (tag : Tag) → (b ≡ true → is_some (R tag) ≡ true) → GoodIf R (takes_if b tag)
  good-if true tag h = h refl
  good-if false tag h = tt

  pub good-map : {X : Type 0} (make : X → Tag) (o : Option X) → ((x : X) → o ≡ Some x → is_some (R (make x)) ≡ true)
      → GoodIf R (option_map (λ x. takes (make x)) o)
  good-map make None h = tt
  good-map make (Some x) h = h x refl

  pub good-found : {X : Type 0} (found : ℕ → Choice) (c : Choice) (o : Option (ℕ × X))
      → ((p : ℕ × X) → o ≡ Some p → Good R (found p.0)) → Good R c → Good R (found_or found c o)
  good-found found c None h k = k
  good-found found c (Some p) h k = h p refl

some-if : {X : Type 0} (b : Bool) (x : X) → b ≡ true → is_some (cond b (Some x) None) ≡ true
some-if true x e = refl
some-if false x e = absurd (cc)

if-some : {X : Type 0} (b : Bool) (x y : X) → cond b (Some x) None ≡ Some y → (b ≡ true) × (x ≡ y)
if-some true x y e = (refl, same_Some x y e)
if-some false x y e = absurd (cc)

if-none : {X : Type 0} (b : Bool) (x : X) → cond b (Some x) None ≡ None → b ≡ false
if-none true x e = absurd (cc)
if-none false x e = refl

else-some : {X : Type 0} (b : Bool) (x y : X) → cond b None (Some x) ≡ Some y → (b ≡ false) × (x ≡ y)
else-some true x y e = absurd (cc)
else-some false x y e = (refl, same_Some x y e)

three : (a b c : Bool) → a ≡ false → b ≡ true → c ≡ true → not a && (b && c) ≡ true
three true b c e f h = absurd (cc)
three false true true e f h = refl
three false true false e f h = absurd (cc)
three false false c e f h = absurd (cc)

is-true : (b : Bool) → (b ≡ false → ⊥) → b ≡ true
is-true true h = refl
is-true false h = absurd (h refl)

-- the ends of an atom have what each of its terms has, and nil
ends-all : (P : Term → Type 0) (x : Atom) (e : Term × Term) → P Nil → AllInAtom P x → ends x ≡ Some e
    → P e.0 × P e.1
ends-all P (Points t fields) e n a i = absurd (cc)
ends-all P (Ls t u) e n a i = subst (λ (p : Term × Term). P p.0 × P p.1) (same_Some (t, u) e i) a
ends-all P (Tree t) e n a i = subst (λ (p : Term × Term). P p.0 × P p.1) (same_Some (t, Nil) e i) (a, n)
ends-all P (Dll v p l u) e n a i =
    subst (λ (q : Term × Term). P q.0 × P q.1) (same_Some (v, u) e i) (a.0, a.3)

undecided-is : (s : State) (x : Atom) (e : Term × Term) → undecided_ends s x ≡ Some e
    → (ends x ≡ Some e) × (same_term e.0 e.1 ≡ false)
undecided-is s x e i = go (ends x) i
  where
    go : (o : Option (Term × Term))
        → option_and_then (λ p. cond (same_term p.0 p.1 || differs s p.0 p.1) None (Some p)) o ≡ Some e
        → (o ≡ Some e) × (same_term e.0 e.1 ≡ false)
    go None j = absurd (cc)
    go (Some p) j =
        let w = else-some (same_term p.0 p.1 || differs s p.0 p.1) p e j in (
          ap Some w.1,
          subst (λ (q : Term × Term). same_term q.0 q.1 ≡ false) w.1
              (or_parts (same_term p.0 p.1) (differs s p.0 p.1) w.0).0,
        )

pub segment-is : (u : Term) (x : Atom) (w : Term) → segment_at u x ≡ Some w → x ≡ Ls u w
segment-is u (Points v fields) w e = absurd (cc)
segment-is u (Ls v y) w e =
    let c = if-some (same_term v u) y w e in
    ap₂ (λ (a b : Term). Ls a b) (same_term_is v u c.0) c.1
segment-is u (Tree v) w e = absurd (cc)
segment-is u (Dll v p l y) w e = absurd (cc)

tree-is : (u : Term) (x y : Atom) → tree_at u x ≡ Some y → x ≡ Tree u
tree-is u (Points v fields) y e = absurd (cc)
tree-is u (Ls v w) y e = absurd (cc)
tree-is u (Tree v) y e = ap Tree (same_term_is v u (if-some (same_term v u) (Tree v) y e).0)
tree-is u (Dll v p l w) y e = absurd (cc)

pub double-is : (u : Term) (x : Atom) (e : Term × Term × Term) → double_at u x ≡ Some e → x ≡ Dll u e.0 e.1 e.2
double-is u (Points v fields) e i = absurd (cc)
double-is u (Ls v w) e i = absurd (cc)
double-is u (Tree v) e i = absurd (cc)
double-is u (Dll v p l w) e i =
    let c = if-some (same_term v u) (p, l, w) e i in
    ap₂ (λ (a : Term) (b : Term × Term × Term). Dll a b.0 b.1 b.2) (same_term_is v u c.0) c.1

last-is : (u : Term) (x : Atom) (e : Term × Term) → last_at u x ≡ Some e → (p : Term) × (x ≡ Dll e.0 p u e.1)
last-is u (Points v fields) e i = absurd (cc)
last-is u (Ls v w) e i = absurd (cc)
last-is u (Tree v) e i = absurd (cc)
last-is u (Dll v p l w) e i =
    let c = if-some (same_term l u) (v, w) e i in
    (p, ap₂ (λ (a : Term) (b : Term × Term). Dll b.0 p a b.1) (same_term_is l u c.0) c.1)

both-some : {X Y : Type 0} (f : X → Y) (b : Bool) (o : Option X) → b ≡ true → is_some o ≡ true
    → is_some (cond b (option_map f o) None) ≡ true
both-some f true None e h = absurd (cc)
both-some f true (Some x) e h = refl
both-some f false o e h = absurd (cc)

segment-unrolls : (o : Option FieldId) (t u : Term) (s : State) → is_some o ≡ true
    → is_some (unrolled_segment o t u s) ≡ true
segment-unrolls None t u s e = absurd (cc)
segment-unrolls (Some f) t u s e = refl

tree-unrolls : (o p : Option FieldId) (t : Term) (s : State) → is_some o ≡ true → is_some p ≡ true
    → is_some (unrolled_tree o p t s) ≡ true
tree-unrolls None p t s e h = absurd (cc)
tree-unrolls (Some f) None t s e h = absurd (cc)
tree-unrolls (Some f) (Some k) t s e h = refl

double-unrolls : (o p : Option FieldId) (v q l u : Term) (s : State) → is_some o ≡ true → is_some p ≡ true
    → is_some (unrolled_double o p v q l u s) ≡ true
double-unrolls None p v q l u s e h = absurd (cc)
double-unrolls (Some f) None v q l u s e h = absurd (cc)
double-unrolls (Some f) (Some k) v q l u s e h = refl

last-unrolls : (o p : Option FieldId) (v q l u : Term) (s : State) → is_some o ≡ true → is_some p ≡ true
    → is_some (unrolled_last o p v q l u s) ≡ true
last-unrolls None p v q l u s e h = absurd (cc)
last-unrolls (Some f) None v q l u s e h = absurd (cc)
last-unrolls (Some f) (Some k) v q l u s e h = refl

-- a doubly linked segment whose ends differ is unrolled from its last cell
atom-unrolls-back : (g : Goal) (a : ℕ) (v p l u : Term) → differs g.state v u ≡ true
    → HasLinks g.state.links (Dll v p l u) → is_some (back_one g a (Dll v p l u)) ≡ true
atom-unrolls-back g a v p l u d h =
    both-some _ (differs g.state v u) _ d (last-unrolls g.state.links.tl g.state.links.pv v p l u _ h.0 h.1)

-- an atom whose ends differ is unrolled
atom-unrolls : (g : Goal) (a : ℕ) (x : Atom) (u w : Term) → ends x ≡ Some (u, w) → differs g.state u w ≡ true
    → HasLinks g.state.links x → is_some (unroll_one g a x) ≡ true
atom-unrolls g a (Points t fields) u w e d h = absurd (cc)
atom-unrolls g a (Ls t v) u w e d h =
    let p = same_Some (t, v) (u, w) e in
    both-some _ (differs g.state t v) _ (ap (λ (q : Term × Term). differs g.state q.0 q.1) p ∙ d)
    (segment-unrolls g.state.links.tl t v _ h)
atom-unrolls g a (Tree t) u w e d h =
    let p = same_Some (t, Nil) (u, w) e in
    both-some _ (differs g.state t Nil) _ (ap (λ (q : Term × Term). differs g.state q.0 q.1) p ∙ d)
    (tree-unrolls g.state.links.l g.state.links.r t _ h.0 h.1)
atom-unrolls g a (Dll v p l z) u w e d h =
    let q = same_Some (v, z) (u, w) e in
    both-some _ (differs g.state v z) _ (ap (λ (r : Term × Term). differs g.state r.0 r.1) q ∙ d)
    (double-unrolls g.state.links.tl g.state.links.pv v p l z _ h.0 h.1)

-- no atom of the goal is nothing, and none can only be empty
abbrev pub NothingIsKnown : Goal → Type 0
NothingIsKnown g =
    (lowest (which is_nothing) g.state.atoms ≡ None) × (lowest_forced g.state g.state.atoms ≡ None)

-- a doubly linked segment that isn't nothing, and of which no two terms are the same since it is empty, doesn't end
-- where it begins
double-open : (e : Bool) (v p l u : Term) → is_nothing (Dll v p l u) ≡ false → forced_double e v p l u ≡ None
    → same_term v u ≡ false
double-open e v p l u n f = go (same_term v u) (same_term p l) n f
  where
    go : (b c : Bool) → b && c ≡ false → cond {A = Option (Term × Term)} b (cond c None (Some (p, l))) (cond e (Some (v, u)) None) ≡ None
        → b ≡ false
    go true true n f = absurd (cc)
    go true false n f = absurd (cc)
    go false c n f = refl

-- nor does another segment or a tree
atom-open : (s : State) (a : ℕ) (x : Atom) (e : Term × Term) → is_nothing x ≡ false → forced_pair s a x ≡ None
    → ends x ≡ Some e → same_term e.0 e.1 ≡ false
atom-open s a (Points t fields) e n f i = absurd (cc)
atom-open s a (Ls t u) e n f i = ap (λ (p : Term × Term). same_term p.0 p.1) (sym (same_Some (t, u) e i)) ∙ n
atom-open s a (Tree t) e n f i = ap (λ (p : Term × Term). same_term p.0 p.1) (sym (same_Some (t, Nil) e i)) ∙ n
atom-open s a (Dll v p l u) e n f i =
    ap (λ (q : Term × Term). same_term q.0 q.1) (sym (same_Some (v, u) e i)) ∙ double-open _ v p l u n f

module _ (d : Setting) (g : Goal) (shape : IsReady d g) where
  pub good-split : (t u : Term) → same_term t u ≡ false → IsBelow g.state.next_sym t → IsBelow g.state.next_sym u
      → is_some (split_row g t u) ≡ true
  good-split t u e a b =
      some-if (not (same_term t u) && (is_below g.state.next_sym t && is_below g.state.next_sym u)) _
      (three (same_term t u) (is_below g.state.next_sym t) (is_below g.state.next_sym u) e a b)

  atoms-below : AllInAtoms (IsBelow g.state.next_sym) (parts g.state)
  atoms-below =
      all-append (λ (a : Numbered). AllInAtom (IsBelow g.state.next_sym) a.atom) g.state.atoms g.state.taken
      shape.below.state.atoms shape.below.state.taken

  pub good-split_or : (kind : Stuck) → Good (row_of d g) (split_or g.state kind)
  good-split_or kind = go (lowest (undecided_ends g.state) (parts g.state)) refl
    where
      go : (o : Option (ℕ × (Term × Term))) → lowest (undecided_ends g.state) (parts g.state) ≡ o
          → Good (row_of d g) (split_found kind o)
      go None i = tt
      go (Some p) i =
          let w = found-among (undecided_ends g.state) (parts g.state) p i in
          let u = undecided-is g.state w.1.atom p.1 w.3 in
          let b = ends-all (IsBelow g.state.next_sym) w.1.atom p.1 refl
          (all-at (λ (a : Numbered). AllInAtom (IsBelow g.state.next_sym) a.atom) (parts g.state) w.0 w.1
          atoms-below w.2)
          u.0 in
          good-split p.1.0 p.1.1 u.1 b.0 b.1

  -- the ends of an atom may be split
  ends-split : NothingIsKnown g → (a : ℕ) (x : Atom) (k : ℕ) (u w : Term)
      → slice_get g.state.atoms k ≡ Some (record { number = a; atom = x }) → ends x ≡ Some (u, w)
      → is_some (split_row g u w) ≡ true
  ends-split none a x k u w there e =
      good-split u w (atom-open g.state a x (u, w) nothing
      (none-forced g.state g.state.atoms k (record { number = a; atom = x }) none.1 there) e) below.0 below.1
    where
      nothing : is_nothing x ≡ false
      nothing =
          if-none (is_nothing x) x
          (found-none (which is_nothing) g.state.atoms k (record { number = a; atom = x }) none.0 there)

      below : IsBelow g.state.next_sym u × IsBelow g.state.next_sym w
      below =
          ends-all (IsBelow g.state.next_sym) x (u, w) refl
          (all-at (λ (y : Numbered). AllInAtom (IsBelow g.state.next_sym) y.atom) g.state.atoms k
          (record { number = a; atom = x }) shape.below.state.atoms there) e

  -- an atom has fields to go along
  links-there : (a : ℕ) (x : Atom) (k : ℕ)
      → slice_get g.state.atoms k ≡ Some (record { number = a; atom = x }) → HasLinks g.state.links x
  links-there a x k there =
      all-at (λ (y : Numbered). HasLinks g.state.links y.atom) g.state.atoms k (record { number = a; atom = x })
      shape.links there

  -- what a found atom is opened by
  opened-good : (none : NothingIsKnown g) (a : ℕ) (x : Atom) (k : ℕ) (u w : Term)
      → atom_at g.state.atoms a ≡ Some x
      → slice_get g.state.atoms k ≡ Some (record { number = a; atom = x }) → ends x ≡ Some (u, w)
      → Good (row_of d g) (opened_by g.state u w a)
  opened-good none a x k u w at there e = go (differs g.state u w) refl
    where
      go : (b : Bool) → differs g.state u w ≡ b → Good (row_of d g) (cond b (takes (t.Unroll a)) (takes (t.Split u
          w)))
      go true h =
          ap (λ o. is_some (option_and_then (unroll_one g a) o)) at
          ∙ atom-unrolls g a x u w e h (links-there a x k there)
      go false h = ends-split none a x k u w there e

  -- and from its last cell
  opened-back-good : (none : NothingIsKnown g) (a k : ℕ) (v p l u : Term)
      → atom_at g.state.atoms a ≡ Some (Dll v p l u)
      → slice_get g.state.atoms k ≡ Some (record { number = a; atom = Dll v p l u })
      → Good (row_of d g) (opened_back g.state (a, (v, u)))
  opened-back-good none a k v p l u at there = go (differs g.state v u) refl
    where
      go : (b : Bool) → differs g.state v u ≡ b
          → Good (row_of d g) (cond b (takes (t.Back a)) (takes (t.Split v u)))
      go true h =
          ap (λ o. is_some (option_and_then (back_one g a) o)) at
          ∙ atom-unrolls-back g a v p l u h (links-there a (Dll v p l u) k there)
      go false h = ends-split none a (Dll v p l u) k v u there refl

  good-doubles : NothingIsKnown g → (u : Term) → GoodIf (row_of d g) (opened_double g.state u)
  good-doubles none u =
      go (lowest (double_at u) g.state.atoms) (lowest (last_at u) g.state.atoms) refl refl
    where
      go : (o : Option (ℕ × (Term × Term × Term))) (p : Option (ℕ × (Term × Term)))
          → lowest (double_at u) g.state.atoms ≡ o
          → lowest (last_at u) g.state.atoms ≡ p → GoodIf (row_of d g) (opened_either g.state u o p)
      go (Some q) p i j =
          let w = found-at (double_at u) g.state.atoms shape.rising q.0 q.1 i in
          opened-good none q.0 w.atom w.place u q.1.2 w.at w.there (ap ends (double-is u w.atom q.1 w.is))
      go None (Some q) i j =
          let w = found-at (last_at u) g.state.atoms shape.rising q.0 q.1 j in
          let is = last-is u w.atom q.1 w.is in
          opened-back-good none q.0 w.place q.1.0 is.0 u q.1.1 (w.at ∙ ap Some is.1)
          (w.there ∙ ap (λ x. Some (record { number = q.0; atom = x })) is.1)
      go None None i j = tt

  good-opened : NothingIsKnown g → (u : Term) → GoodIf (row_of d g) (opened g.state u)
  good-opened none u =
      go (lowest (segment_at u) g.state.atoms) (lowest (tree_at u) g.state.atoms) refl refl
    where
      go : (o : Option (ℕ × Term)) (p : Option (ℕ × Atom)) → lowest (segment_at u) g.state.atoms ≡ o
          → lowest (tree_at u) g.state.atoms ≡ p
          → GoodIf (row_of d g) (opened_first g.state u o p (opened_double g.state u))
      go (Some q) p i j =
          let w = found-at (segment_at u) g.state.atoms shape.rising q.0 q.1 i in
          opened-good none q.0 w.atom w.place u q.1 w.at w.there (ap ends (segment-is u w.atom q.1 w.is))
      go None (Some q) i j =
          let w = found-at (tree_at u) g.state.atoms shape.rising q.0 q.1 j in
          opened-good none q.0 w.atom w.place u Nil w.at w.there (ap ends (tree-is u w.atom q.1 w.is))
      go None None i j = good-doubles none u

  -- the lowest cell is the atom of its number
  pub cell-found : (u : Term) (q : ℕ × List (FieldId × Term)) → lowest (λ x. fields_at x u) g.state.atoms ≡ Some q
      → cell_at g.state.atoms q.0 u ≡ Some q.1
  cell-found u q i =
      let w = found-at (λ x. fields_at x u) g.state.atoms shape.rising q.0 q.1 i in
      cell-of_atom g.state.atoms q.0 w.atom u w.at ∙ w.is

  pub good-at_cell : NothingIsKnown g → (u : Term) (found : ℕ → Choice) (kind : Stuck)
      → ((a : ℕ) (fields : List (FieldId × Term)) → cell_at g.state.atoms a u ≡ Some fields
      → Good (row_of d g) (found a))
      → Good (row_of d g) (at_cell g.state u found kind)
  good-at_cell none u found kind h =
      good-found (row_of d g) found (or_else (opened g.state u) (split_or g.state kind))
      (lowest (λ x. fields_at x u) g.state.atoms) (λ q i. h q.0 q.1 (cell-found u q i))
      (good-or (row_of d g) (opened g.state u) (split_or g.state kind) (good-opened none u)
      (λ e. good-split_or kind))

  -- by a test, where each branch has a row that is there when the test is decided so
  pub good-at_test : (test : Test Term) → TestWithin (IsBelow g.state.next_sym) test
      → (is_true g.state test ≡ true → is_some (row_of d g t.Then) ≡ true)
      → (is_false g.state test ≡ true → is_some (row_of d g t.Else) ≡ true)
      → Good (row_of d g) (at_test g.state test)
  good-at_test test below this that = go (is_true g.state test) (is_false g.state test) refl refl
    where
      split : (x : Test Term) → TestWithin (IsBelow g.state.next_sym) x → is_true g.state x ≡ false
          → is_false g.state x ≡ false → Good (row_of d g) (split_by x)
      split True b i j = absurd (cc)
      split (Equal u v) b i j = good-split u v i b.0 b.1
      split (Differ u v) b i j = good-split u v j b.0 b.1

      go : (b c : Bool) → is_true g.state test ≡ b → is_false g.state test ≡ c
          → Good (row_of d g) (cond b (takes t.Then) (cond c (takes t.Else) (split_by test)))
      go true c i j = this i
      go false true i j = that j
      go false false i j = split test below i j
