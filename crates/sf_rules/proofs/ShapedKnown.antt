-- The rows that work out what is known keep the shape of goals: absurd, drop, force, split, unroll, back.
-- Names: `ROW-keeps`.
use Rattle.std.specs.Option.{option_and_then, option_map}
use Rattle.std.specs.Prelude.{◌&&◌, not}
use Rattle.std.proofs.Common.{◌≡◌, ◌∙◌, ℕ, ◌+◌, ◌≤◌, Bool, true, false, cond, is_some, Option, Some, None, List, [], ◌∷◌, refl, subst, arith, sym}
use Rattle.std.proofs.lemmas.Option.{same_Some, none-some}
use Rattle.sf_base.proofs.Bools.{and-left, and-right}
use Rattle.sf_base.specs.declared.ids.FieldId.{FieldId}
use Rattle.sf_core.specs.declared.fields.Links.{Links}
use Rattle.sf_normal.specs.Knowledge.{absurd_row, back_one, back_row, drop_row, force_row, split_row, unroll_row, unrolled, unrolled_double, unrolled_last, unrolled_segment, unrolled_tree}
use Rattle.sf_rules.specs.Checked.Lemmas.RowParts.{cond-then}
use Rattle.sf_rules.specs.First.{links_of}
use Rattle.sf_rules.specs.Setting.{Setting}
use Rattle.sf_rules.proofs.FittingStates.{StateShaped, atom-shaped, cell-shaped, symbols-shaped, without-shaped}
use Rattle.sf_rules.proofs.ShapedGoals.{AllKeep, Rises, apart-keeps, equal-keeps, keeps-state, none-keep, one-keeps, rises-none, state-shaped, two-keep}
use Rattle.sf_rules.specs.Shape.{HasLinks}
use Rattle.sf_rules.proofs.Fits.{IsFitting}
use Rattle.sf_sym.specs.Below.{AllInAtom, AllPaired, IsBelow, is_below}
use Rattle.sf_sym.specs.Cells.{atom_at, with_atom, with_cell, without}
use Rattle.sf_sym.specs.declared.atom.Atom.{Atom}
use Rattle.sf_sym.specs.declared.atom.Atom.TheVariants.{Points, Ls, Tree, Dll}
use Rattle.sf_sym.specs.declared.term.Term.{Term}
use Rattle.sf_sym.specs.declared.term.Term.TheVariants.{Sym}
use Rattle.sf_sym.specs.Equalities.{assumed_apart, assumed_equal}
use Rattle.sf_sym.specs.Fields.{put_term}
use Rattle.sf_sym.specs.Goal.{Goal, at_state}
use Rattle.sf_sym.specs.Known.{ends, forced_pair, is_elsewhere, is_nothing}
use Rattle.sf_sym.specs.Checked.Lemmas.AtomLists.{at-all}
use Rattle.sf_sym.specs.Checked.Lemmas.Below.{below-more, below-symbol, forced-below, put-all}
use Rattle.sf_sym.specs.State.{State, with_symbols}
use Rattle.sf_sym.specs.Tests.{differs, is_absurd, root, same_term}

-- a segment or tree that isn't empty
module _ (d : Setting) (s : State) (h : StateShaped d s) where
  abbrev Unrolls : State → Type 0
  Unrolls s2 = StateShaped d s2 × Rises s s2

  symbol : (n k : ℕ) → n + 1 ≤ k → IsBelow k (Sym n)
  symbol n k l = below-symbol k n (omega arith)

  later : (k : ℕ) (t : Term) → IsBelow s.next_sym t → IsBelow (s.next_sym + k) t
  later k t b = below-more s.next_sym (s.next_sym + k) (omega arith) t b

  segment-unrolls : (next : Option FieldId) (t u : Term) (s2 : State) → IsBelow s.next_sym t → IsBelow s.next_sym u
      → is_some (links_of d.program).tl ≡ true → unrolled_segment next t u s ≡ Some s2 → Unrolls s2
  segment-unrolls None t u s2 b c l e = absurd (cc)
  segment-unrolls (Some next) t u s2 b c l e =
      let rest = Sym s.next_sym in
      let here = symbol s.next_sym (s.next_sym + 1) (omega arith) in
      let one = symbols-shaped d s h 1 in
      let two = cell-shaped d (with_symbols 1 s) one t ((next, rest) ∷ []) (later 1 t b) (here, tt) in
      let three = atom-shaped d (with_cell (with_symbols 1 s) t ((next, rest) ∷ [])) two (Ls rest u)
      (here, later 1 u c) l in
      subst Unrolls (same_Some (with_atom (Ls rest u) (with_cell (with_symbols 1 s) t ((next, rest) ∷ []))) s2 e)
      (three, record { kept = omega arith; symbols = omega arith; atoms = omega arith })

  -- what unrolls by two links has both
  both-links : (unrolled : Option FieldId → Option FieldId → Option State) → ((q : Option FieldId) → unrolled None q ≡ None)
      → ((one : FieldId) → unrolled (Some one) None ≡ None) → (s2 : State)
      → ((one two : FieldId) → unrolled (Some one) (Some two) ≡ Some s2 → Unrolls s2)
      → (o q : Option FieldId) → unrolled o q ≡ Some s2 → Unrolls s2
  both-links unrolled no_one no_two s2 then None q e = absurd (none-some s2 (sym (no_one q) ∙ e))
  both-links unrolled no_one no_two s2 then (Some one) None e = absurd (none-some s2 (sym (no_two one) ∙ e))
  both-links unrolled no_one no_two s2 then (Some one) (Some two) e = then one two e

  tree-unrolls : (left right : FieldId) (t : Term) (s2 : State) → IsBelow s.next_sym t
      → HasLinks (links_of d.program) (Tree t) → unrolled_tree (Some left) (Some right) t s ≡ Some s2 → Unrolls s2
  tree-unrolls left right t s2 b l e =
      let first = Sym s.next_sym in
      let second = Sym (s.next_sym + 1) in
      let here = symbol s.next_sym (s.next_sym + 2) (omega arith) in
      let there = symbol (s.next_sym + 1) (s.next_sym + 2) (omega arith) in
      let fields = put_term left first (put_term right second []) in
      let cell = with_cell (with_symbols 2 s) t fields in
      let one = symbols-shaped d s h 2 in
      let two = cell-shaped d (with_symbols 2 s) one t fields (later 2 t b)
      (put-all (IsBelow (s.next_sym + 2)) left first (put_term right second []) here
      (put-all (IsBelow (s.next_sym + 2)) right second [] there tt)) in
      let three = atom-shaped d cell two (Tree first) here l in
      let four = atom-shaped d (with_atom (Tree first) cell) three (Tree second) there l in
      subst Unrolls (same_Some (with_atom (Tree second) (with_atom (Tree first) cell)) s2 e)
      (four, record { kept = omega arith; symbols = omega arith; atoms = omega arith })

  -- the two fields of a cell of a doubly linked segment are below
  double_fields : (next back : FieldId) (t u : Term) → IsBelow (s.next_sym + 1) t → IsBelow (s.next_sym + 1) u
      → AllPaired (IsBelow (s.next_sym + 1)) (put_term next t (put_term back u []))
  double_fields next back t u b c =
      put-all (IsBelow (s.next_sym + 1)) next t (put_term back u []) b
      (put-all (IsBelow (s.next_sym + 1)) back u [] c tt)

  double-unrolls : (next back : FieldId) (t p l u : Term) (s2 : State)
      → AllInAtom (IsBelow s.next_sym) (Dll t p l u) → HasLinks (links_of d.program) (Dll t p l u)
      → unrolled_double (Some next) (Some back) t p l u s ≡ Some s2 → Unrolls s2
  double-unrolls next back t p l u s2 b k e =
      let rest = Sym s.next_sym in
      let here = symbol s.next_sym (s.next_sym + 1) (omega arith) in
      let fields = put_term next rest (put_term back p []) in
      let cell = with_cell (with_symbols 1 s) t fields in
      let one = symbols-shaped d s h 1 in
      let two = cell-shaped d (with_symbols 1 s) one t fields (later 1 t b.0)
      (double_fields next back rest p here (later 1 p b.1)) in
      let three = atom-shaped d cell two (Dll rest t l u) (here, later 1 t b.0, later 1 l b.2, later 1 u b.3) k in
      subst Unrolls (same_Some (with_atom (Dll rest t l u) cell) s2 e)
      (three, record { kept = omega arith; symbols = omega arith; atoms = omega arith })

  -- from behind
  last-unrolls_by : (next back : FieldId) (t p l u : Term) (s2 : State)
      → AllInAtom (IsBelow s.next_sym) (Dll t p l u) → HasLinks (links_of d.program) (Dll t p l u)
      → unrolled_last (Some next) (Some back) t p l u s ≡ Some s2 → Unrolls s2
  last-unrolls_by next back t p l u s2 b k e =
      let before = Sym s.next_sym in
      let here = symbol s.next_sym (s.next_sym + 1) (omega arith) in
      let fields = put_term next u (put_term back before []) in
      let rest = with_atom (Dll t p before l) (with_symbols 1 s) in
      let one = symbols-shaped d s h 1 in
      let two = atom-shaped d (with_symbols 1 s) one (Dll t p before l)
      (later 1 t b.0, later 1 p b.1, here, later 1 l b.2) k in
      let three = cell-shaped d rest two l fields (later 1 l b.2)
      (double_fields next back u before (later 1 u b.3) here) in
      subst Unrolls (same_Some (with_cell rest l fields) s2 e)
      (three, record { kept = omega arith; symbols = omega arith; atoms = omega arith })

  pub last-unrolls : (next back : Option FieldId) (t p l u : Term) (s2 : State)
      → AllInAtom (IsBelow s.next_sym) (Dll t p l u) → HasLinks (links_of d.program) (Dll t p l u)
      → unrolled_last next back t p l u s ≡ Some s2 → Unrolls s2
  last-unrolls next back t p l u s2 b k e =
      both-links (λ o q. unrolled_last o q t p l u s) (λ q. refl) (λ one. refl) s2
      (λ one two i. last-unrolls_by one two t p l u s2 b k i) next back e

  unrolls : (links : Links) (x : Atom) (s2 : State) → AllInAtom (IsBelow s.next_sym) x
      → HasLinks (links_of d.program) x → unrolled links x s ≡ Some s2 → Unrolls s2
  unrolls links (Points t fields) s2 b l e = absurd (cc)
  unrolls links (Ls t u) s2 b l e = segment-unrolls links.tl t u s2 b.0 b.1 l e
  unrolls links (Tree t) s2 b l e =
      both-links (λ o q. unrolled_tree o q t s) (λ q. refl) (λ one. refl) s2
      (λ one two i. tree-unrolls one two t s2 b l i) links.l links.r e
  unrolls links (Dll t p m u) s2 b l e =
      both-links (λ o q. unrolled_double o q t p m u s) (λ q. refl) (λ one. refl) s2
      (λ one two i. double-unrolls one two t p m u s2 b l i) links.tl links.pv e

module _ (d : Setting) (goal : Goal) (left : List Goal) (h : IsFitting d goal) where
  abbrev s : State
  s = goal.state

  self-rises : Rises s s
  self-rises = rises-none s s refl refl

  pub absurd-keeps : absurd_row goal ≡ Some left → AllKeep d s left
  absurd-keeps row = go (is_absurd s) row
    where
      go : (b : Bool) → cond b (Some []) None ≡ Some left → AllKeep d s left
      go true e = none-keep d s left e
      go false e = absurd (cc)

  pub drop-keeps : (a : ℕ) → drop_row goal a ≡ Some left → AllKeep d s left
  drop-keeps a row = go (atom_at s.atoms a) row
    where
      step : (b : Bool)
          → cond b (Some (at_state goal (record s { atoms = without s.atoms a }) ∷ [])) None ≡ Some left
          → AllKeep d s left
      step true e =
          one-keeps d s _ left e (keeps-state d goal (record s { atoms = without s.atoms a }) h
          (without-shaped d s (state-shaped d goal h) a)
          (record { kept = omega arith; symbols = omega arith; atoms = omega arith }))
      step false e = absurd (cc)

      go : (x : Option Atom)
          → option_and_then (λ x. cond (is_nothing x)
          (Some (at_state goal (record s { atoms = without s.atoms a }) ∷ [])) None) x ≡ Some left
          → AllKeep d s left
      go None e = absurd (cc)
      go (Some x) e = step (is_nothing x) e

  -- an atom that is there is below
  atom-below : (a : ℕ) (x : Atom) → atom_at s.atoms a ≡ Some x → AllInAtom (IsBelow s.next_sym) x
  atom-below a x e = at-all (AllInAtom (IsBelow s.next_sym)) s.atoms a x e h.below.state.atoms

  pub force-keeps : (a : ℕ) → force_row goal a ≡ Some left → AllKeep d s left
  force-keeps a row = go (atom_at s.atoms a) refl row
    where
      found : (x : Option (Term × Term))
          → ((e : Term × Term) → x ≡ Some e → IsBelow s.next_sym e.0 × IsBelow s.next_sym e.1)
          → option_map (λ e. assumed_equal e.0 e.1 goal ∷ []) x ≡ Some left → AllKeep d s left
      found None b i = absurd (cc)
      found (Some e) b i =
          let (one, two) = b e refl in
          one-keeps d s (assumed_equal e.0 e.1 goal) left i (equal-keeps d e.0 e.1 goal h s one two self-rises)

      go : (x : Option Atom) → atom_at s.atoms a ≡ x
          → option_map (λ e. assumed_equal e.0 e.1 goal ∷ []) (option_and_then (forced_pair s a) x) ≡ Some left
          → AllKeep d s left
      go None there i = absurd (cc)
      go (Some x) there i =
          found (forced_pair s a x)
          (λ e j. forced-below s.next_sym x (is_elsewhere s a (root x)) e j (atom-below a x there)) i

  pub split-keeps : (t u : Term) → split_row goal t u ≡ Some left → AllKeep d s left
  split-keeps t u row = go (not (same_term t u) && (is_below s.next_sym t && is_below s.next_sym u)) refl row
    where
      go : (b : Bool) → not (same_term t u) && (is_below s.next_sym t && is_below s.next_sym u) ≡ b
          → cond b (Some (assumed_equal t u goal ∷ assumed_apart t u goal ∷ [])) None ≡ Some left
          → AllKeep d s left
      go true i e =
          let both = and-right (not (same_term t u)) (is_below s.next_sym t && is_below s.next_sym u) i in
          let one = and-left (is_below s.next_sym t) (is_below s.next_sym u) both in
          let two = and-right (is_below s.next_sym t) (is_below s.next_sym u) both in
          two-keep d s (assumed_equal t u goal) (assumed_apart t u goal) left e
          (equal-keeps d t u goal h s one two self-rises) (apart-keeps d t u goal h s one two self-rises)
      go false i e = absurd (cc)

  pub unroll-keeps : (a : ℕ) → unroll_row goal a ≡ Some left → AllKeep d s left
  unroll-keeps a row = go (atom_at s.atoms a) refl row
    where
      made : (x : Atom) (m : Option State) → AllInAtom (IsBelow s.next_sym) x → HasLinks (links_of d.program) x
          → unrolled s.links x (record s { atoms = without s.atoms a }) ≡ m
          → option_map (λ s2. at_state goal s2 ∷ []) m ≡ Some left → AllKeep d s left
      made x None b l i e = absurd (cc)
      made x (Some s2) b l i e =
          let u = unrolls d (record s { atoms = without s.atoms a })
          (without-shaped d s (state-shaped d goal h) a) s.links x s2 b l i in
          one-keeps d s (at_state goal s2) left e (keeps-state d goal s2 h u.0
          (record { kept = u.1.kept; symbols = u.1.symbols; atoms = u.1.atoms }))

      step : (x : Atom) (e : Term × Term) (b : Bool) → AllInAtom (IsBelow s.next_sym) x
          → HasLinks (links_of d.program) x
          → cond b (option_map (λ s2. at_state goal s2 ∷ []) (unrolled s.links x
          (record s { atoms = without s.atoms a }))) None ≡ Some left
          → AllKeep d s left
      step x e true b l i = made x (unrolled s.links x (record s { atoms = without s.atoms a })) b l refl i
      step x e false b l i = absurd (cc)

      both : (x : Atom) (m : Option (Term × Term)) → AllInAtom (IsBelow s.next_sym) x
          → HasLinks (links_of d.program) x
          → option_and_then (λ e. cond (differs s e.0 e.1) (option_map (λ s2. at_state goal s2 ∷ [])
          (unrolled s.links x (record s { atoms = without s.atoms a }))) None) m ≡ Some left
          → AllKeep d s left
      both x None b l i = absurd (cc)
      both x (Some e) b l i = step x e (differs s e.0 e.1) b l i

      go : (m : Option Atom) → atom_at s.atoms a ≡ m
          → option_and_then (λ x. option_and_then (λ e. cond (differs s e.0 e.1) (option_map (λ s2. at_state goal s2 ∷ [])
          (unrolled s.links x (record s { atoms = without s.atoms a }))) None) (ends x)) m ≡ Some left
          → AllKeep d s left
      go None there i = absurd (cc)
      go (Some x) there i =
          both x (ends x) (atom-below a x there)
          (at-all (HasLinks (links_of d.program)) s.atoms a x there h.state.atoms) i

  pub back-keeps : (a : ℕ) → back_row goal a ≡ Some left → AllKeep d s left
  back-keeps a row = go (atom_at s.atoms a) refl row
    where
      made : (t p l u : Term) (m : Option State) → AllInAtom (IsBelow s.next_sym) (Dll t p l u)
          → HasLinks (links_of d.program) (Dll t p l u) → unrolled_last s.links.tl s.links.pv t p l u (record s { atoms = without s.atoms a }) ≡ m
          → option_map (λ s2. at_state goal s2 ∷ []) m ≡ Some left → AllKeep d s left
      made t p l u None b k i e = absurd (cc)
      made t p l u (Some s2) b k i e =
          let z = last-unrolls d (record s { atoms = without s.atoms a }) (without-shaped d s (state-shaped d goal h) a) s.links.tl s.links.pv
          t p l u s2 b k i in
          one-keeps d s (at_state goal s2) left e (keeps-state d goal s2 h z.0
          (record { kept = z.1.kept; symbols = z.1.symbols; atoms = z.1.atoms }))

      step : (x : Atom) → AllInAtom (IsBelow s.next_sym) x → HasLinks (links_of d.program) x
          → back_one goal a x ≡ Some left → AllKeep d s left
      step (Points t fields) b k i = absurd (cc)
      step (Ls t u) b k i = absurd (cc)
      step (Tree t) b k i = absurd (cc)
      step (Dll t p l u) b k i =
          made t p l u (unrolled_last s.links.tl s.links.pv t p l u (record s { atoms = without s.atoms a })) b k refl
          (cond-then (differs s t u) _ left i).1

      go : (m : Option Atom) → atom_at s.atoms a ≡ m → option_and_then (back_one goal a) m ≡ Some left
          → AllKeep d s left
      go None there i = absurd (cc)
      go (Some x) there i =
          step x (atom-below a x there) (at-all (HasLinks (links_of d.program)) s.atoms a x there h.state.atoms) i
