-- The rows of subtraction keep the shape of goals: bind, same, apart, cell, empty, exact, head, join, node.
-- Names: `WHAT-all` of what there is in an option, `link-fits` and `WHAT-fit` of how far a cell fits, `STEP-shaped`.
use Rattle.std.specs.Option.{option_and_then, option_map}
use Rattle.std.specs.Prelude.{IfSome, set}
use Rattle.std.proofs.Common.{◌≡◌, ℕ, ◌+◌, ◌≤◌, Bool, true, false, cond, get_or, is_some, Option, Some, None, List, [], ◌∷◌, ◌++◌, length, refl, sym, subst, arith, inl, inr}
use Rattle.sf_base.proofs.Options.{some-holds}
use Rattle.sf_base.specs.declared.ids.FieldId.{FieldId}
use Rattle.sf_base.specs.declared.limits.TheConstants.{FIELDS}
use Rattle.sf_base.specs.declared.place.Place.{Place}
use Rattle.sf_consume.specs.declared.wanted.WantedDouble.{WantedDouble}
use Rattle.sf_consume.specs.declared.wanted.WantedList.{WantedList}
use Rattle.sf_consume.specs.declared.wanted.WantedTree.{WantedTree}
use Rattle.sf_consume.specs.Subtract.{Fit, Step, Want, apart_step, bind_step, binding, both, cell_step, double_cell, double_from, double_head_step, double_head_there, double_join_step, double_join_there, double_joined, empty_step, equality, exact_step, exact_there, first_by, first_fit, first_of, fit_existential, fit_field, fit_fields, fit_known, fit_new, fitting, four, handed_cell, head_step, head_there, inequality, is_same_shape, join_step, join_there, joined, link, linked, list_from, list_head_step, list_join_step, new_symbols, node_step, one_binding, removed, removed_if, same_step, subtracted, tree_from, unbound, wanted_cell, wanted_double, wanted_list, wanted_shape, wanted_tree}
use Rattle.sf_consume.specs.Wants.{still_wanted, wanting}
use Rattle.sf_core.specs.Assertions.Occurs.{OccursInAll, OccursInOne}
use Rattle.sf_core.specs.declared.assertion.Operand.{Operand}
use Rattle.sf_core.specs.declared.assertion.Operand.TheVariants.{Known, Exists}
use Rattle.sf_core.specs.declared.assertion.Test.TheVariants.{Equal, Differ}
use Rattle.sf_core.specs.Program.Syntax.{Conjunct, holds, points, segment, doubly, tree, Conjuncts, none, also}
use Rattle.sf_rules.specs.First.{links_of}
use Rattle.sf_rules.specs.Checked.Lemmas.{few-left}
use Rattle.sf_rules.specs.Checked.Rows.Take.{subtract_row}
use Rattle.sf_rules.specs.Setting.{Setting}
use Rattle.sf_rules.proofs.Fitting.{taking-below, taking-fits}
use Rattle.sf_rules.proofs.FittingStates.{StateShaped, handed-shaped, raised-shaped}
use Rattle.sf_rules.proofs.OperandsBelow.{Bound, OperandBelow, bound-more, bound-set, operand-one}
use Rattle.sf_rules.proofs.ShapedChoices.{and_then-left}
use Rattle.sf_rules.proofs.ShapedGoals.{AllKeep, Rises, keeps-goal, one-keeps, rest-below, rises-none, state-shaped}
use Rattle.sf_rules.proofs.Fits.{ConjunctFits, ConjunctsFit, IsFitting}
use Rattle.sf_sym.specs.Below.{AllInAtom, AllPaired, IsBelow}
use Rattle.sf_sym.specs.Cells.{atom_at, cell_at, handed}
use Rattle.sf_sym.specs.Decided.{term_of}
use Rattle.sf_sym.specs.declared.atom.Atom.{Atom}
use Rattle.sf_sym.specs.declared.atom.Atom.TheVariants.{Points, Ls, Tree, Dll}
use Rattle.sf_sym.specs.declared.tag.Tag.{Tag}
use Rattle.sf_sym.specs.declared.tag.Tag.TheVariants as t
use Rattle.sf_sym.specs.declared.term.Term.{Term}
use Rattle.sf_sym.specs.declared.term.Term.TheVariants.{Sym}
use Rattle.sf_sym.specs.Fields.{field_term}
use Rattle.sf_sym.specs.Goal.{Item, take, Goal, one_goal, taking}
use Rattle.sf_sym.specs.Checked.Lemmas.AtomLists.{at-all, at-cell}
use Rattle.sf_sym.specs.Checked.Lemmas.Below.{below-more, below-symbol, paired-weaker, put-all}
use Rattle.sf_sym.specs.Checked.Lemmas.CellFields.{field-all}
use Rattle.sf_sym.specs.Known.{is_nothing}
use Rattle.sf_sym.specs.Pending.{Pending}
use Rattle.sf_sym.specs.State.{State}
use Rattle.sf_sym.specs.Tests.{differs, same_term}

-- WHAT THERE IS IN AN OPTION
then-all : {X Y : Type 0} (P : Y → Type 0) (Q : X → Type 0) (f : X → Option Y) (o : Option X) → IfSome o Q
    → ((x : X) → Q x → IfSome (f x) P) → IfSome (option_and_then f o) P
then-all P Q f None h g = tt
then-all P Q f (Some x) h g = g x h

map-all : {X Y : Type 0} (P : Y → Type 0) (Q : X → Type 0) (f : X → Y) (o : Option X) → IfSome o Q
    → ((x : X) → Q x → P (f x)) → IfSome (option_map f o) P
map-all P Q f None h g = tt
map-all P Q f (Some x) h g = g x h

cond-all : {X : Type 0} (P : X → Type 0) (b : Bool) (o : Option X) → IfSome o P → IfSome (cond b o None) P
cond-all P true o h = h
cond-all P false o h = tt

first-all : {X : Type 0} (P : X → Type 0) (o q : Option X) → IfSome o P → IfSome q P → IfSome (first_of o q) P
first-all P None q h g = g
first-all P (Some x) q h g = h

-- OPERANDS
abbrev FourBelow : ℕ → Term × Term × Term × Term → Type 0
FourBelow n e = IsBelow n e.0 × IsBelow n e.1 × IsBelow n e.2 × IsBelow n e.3

module _ (n : ℕ) (bindings : List (Option Term)) (bound : Bound n bindings) where
  term-all : (x : Operand Term) → OperandBelow n x → IfSome (term_of bindings x) (IsBelow n)
  term-all (Known t) o = o
  term-all (Exists m) o = go (get_or bindings m None) refl
    where
      go : (o : Option Term) → get_or bindings m None ≡ o → IfSome o (IsBelow n)
      go None e = tt
      go (Some t) e = bound m t e

  both-all : (x y : Operand Term) → OperandBelow n x → OperandBelow n y
      → IfSome (both bindings x y) (λ e. IsBelow n e.0 × IsBelow n e.1)
  both-all x y o p =
      then-all (λ (e : Term × Term). IsBelow n e.0 × IsBelow n e.1) (IsBelow n)
      (λ t. option_map (λ u. (t, u)) (term_of bindings y)) (term_of bindings x) (term-all x o)
      (λ t b. map-all (λ (e : Term × Term). IsBelow n e.0 × IsBelow n e.1) (IsBelow n) (λ u. (t, u))
      (term_of bindings y) (term-all y p) (λ u c. (b, c)))

  four-all : (x b l y : Operand Term) → OperandBelow n x → OperandBelow n b → OperandBelow n l → OperandBelow n y
      → IfSome (four bindings x b l y) (FourBelow n)
  four-all x b l y o p q r =
      then-all (FourBelow n) (λ (e : Term × Term). IsBelow n e.0 × IsBelow n e.1)
      (λ e. option_map (λ f. (e.0, e.1, f.0, f.1)) (both bindings l y)) (both bindings x b) (both-all x b o p)
      (λ e k. map-all (FourBelow n) (λ (f : Term × Term). IsBelow n f.0 × IsBelow n f.1) (λ f. (e.0, e.1, f.0, f.1))
      (both bindings l y) (both-all l y q r) (λ f m. (k.0, k.1, m.0, m.1)))

  one_binding-all : (x y : Operand Term) → OperandBelow n y → IfSome (one_binding bindings x y) (λ b. IsBelow n b.1)
  one_binding-all x y o =
      then-all (λ (b : ℕ × Term). IsBelow n b.1) (λ m. Unit {0}) (λ m. option_map (λ t. (m, t)) (term_of bindings y))
      (unbound bindings x) (any (unbound bindings x))
      (λ m i. map-all (λ (b : ℕ × Term). IsBelow n b.1) (IsBelow n) (λ t. (m, t)) (term_of bindings y)
      (term-all y o) (λ t c. c))
    where
      any : (o : Option ℕ) → IfSome o (λ m. Unit {0})
      any None = tt
      any (Some m) = tt

  binding-all : (x y : Operand Term) → OperandBelow n x → OperandBelow n y
      → IfSome (binding bindings x y) (λ b. IsBelow n b.1)
  binding-all x y o p =
      first-all (λ (b : ℕ × Term). IsBelow n b.1) (one_binding bindings x y) (one_binding bindings y x)
      (one_binding-all x y p) (one_binding-all y x o)

-- WHAT IS WANTED FIRST
abbrev AreFirst : ℕ → Conjunct Term → Type 0
AreFirst n c = (t : Term) → OccursInOne c (Known t) → IsBelow n t

equality-all : (n : ℕ) (c : Conjunct Term) → AreFirst n c
    → IfSome (equality c) (λ e. OperandBelow n e.0 × OperandBelow n e.1)
equality-all n (holds q (Equal x y)) h =
    (operand-one n x (λ t i. h t (inl i)), operand-one n y (λ t i. h t (inr i)))
equality-all n _ h = tt

inequality-all : (n : ℕ) (c : Conjunct Term) → AreFirst n c
    → IfSome (inequality c) (λ e. OperandBelow n e.0 × OperandBelow n e.1)
inequality-all n (holds q (Differ x y)) h =
    (operand-one n x (λ t i. h t (inl i)), operand-one n y (λ t i. h t (inr i)))
inequality-all n _ h = tt

cell-all : (d : Setting) (n : ℕ) (c : Conjunct Term) → AreFirst n c → ConjunctFits (links_of d.program) c
    → IfSome (wanted_cell c) (λ w. OperandBelow n w.0 × (length w.1 ≤ FIELDS))
cell-all d n (points q x fs) h f = (operand-one n x (λ t i. h t (inl i)), f)
cell-all d n _ h f = tt

list-all : (d : Setting) (n : ℕ) (c : Conjunct Term) → AreFirst n c → ConjunctFits (links_of d.program) c
    → IfSome (wanted_list c) (λ w. OperandBelow n w.from × OperandBelow n w.to
    × (is_some (links_of d.program).tl ≡ true))
list-all d n (segment q next x y) h f =
    (operand-one n x (λ t i. h t (inl i)), operand-one n y (λ t i. h t (inr i)), f)
list-all d n _ h f = tt

double-all : (d : Setting) (n : ℕ) (c : Conjunct Term) → AreFirst n c → ConjunctFits (links_of d.program) c
    → IfSome (wanted_double c) (λ w. OperandBelow n w.from × OperandBelow n w.before × OperandBelow n w.last
    × OperandBelow n w.to × (is_some (links_of d.program).tl ≡ true) × (is_some (links_of d.program).pv ≡ true))
double-all d n (doubly q next back x b l y) h f = (
  operand-one n x (λ t i. h t (inl i)),
  operand-one n b (λ t i. h t (inr (inl i))),
  operand-one n l (λ t i. h t (inr (inr (inl i)))),
  operand-one n y (λ t i. h t (inr (inr (inr i)))),
  f.0,
  f.1,
)
double-all d n _ h f = tt

tree-all : (d : Setting) (n : ℕ) (c : Conjunct Term) → AreFirst n c → ConjunctFits (links_of d.program) c
    → IfSome (wanted_tree c) (λ w. OperandBelow n w.root
    × (is_some (links_of d.program).l ≡ true) × (is_some (links_of d.program).r ≡ true))
tree-all d n (tree q left right x) h f = (operand-one n x (λ t i. h t i), f.0, f.1)
tree-all d n _ h f = tt

-- HOW FAR A CELL FITS
-- the symbols are from one number up to another, and terms are below the next
pub record FitShaped (n most : ℕ) (f : Fit) : Type 0 where
  pub kept : n ≤ f.next_sym
  pub symbols : f.next_sym ≤ most
  pub fields : AllPaired (IsBelow f.next_sym) f.fields
  pub bound : Bound f.next_sym f.bindings

fit-more : (n most more : ℕ) (f : Fit) → most ≤ more → FitShaped n most f → FitShaped n more f
fit-more n most more f l h =
    record { kept = h.kept; symbols = omega (arith, h.symbols); fields = h.fields; bound = h.bound }

module _ (n most : ℕ) (f : Fit) (h : FitShaped n most f) where
  one-more : FitShaped n (most + 1) f
  one-more = fit-more n most (most + 1) f (omega arith) h

  link-fits : (field : FieldId)
      → FitShaped n (most + 1) (link f field).0 × IsBelow (link f field).0.next_sym (link f field).1
  link-fits field = go (field_term f.fields field) refl
    where
      go : (o : Option Term) → field_term f.fields field ≡ o
          → FitShaped n (most + 1) (linked f field o).0 × IsBelow (linked f field o).0.next_sym (linked f field o).1
      go (Some t) e = (one-more, field-all (IsBelow f.next_sym) f.fields field t e h.fields)
      go None e =
          let fresh = below-symbol (f.next_sym + 1) f.next_sym (omega arith) in (
            record {
              kept = omega (arith, h.kept);
              symbols = omega (arith, h.symbols);
              fields = put-all (IsBelow (f.next_sym + 1)) field (Sym f.next_sym) f.fields fresh
                  (paired-weaker (IsBelow f.next_sym) (IsBelow (f.next_sym + 1))
                  (below-more f.next_sym (f.next_sym + 1) (omega arith)) f.fields h.fields);
              bound = bound-more f.next_sym (f.next_sym + 1) f.bindings (omega arith) h.bound;
            },
            fresh,
          )

  known-fit : (o : Option Term) (u : Term) → IfSome (fit_known f o u) (FitShaped n (most + 1))
  known-fit None u = tt
  known-fit (Some v) u = cond-all (FitShaped n (most + 1)) (same_term v u) (Some f) one-more

  new-fit : (field : FieldId) (m : ℕ) → FitShaped n (most + 1) (fit_new f field m)
  new-fit field m =
      let l = link f field in
      let k = link-fits field in
      record {
        kept = k.0.kept;
        symbols = k.0.symbols;
        fields = k.0.fields;
        bound = bound-set l.0.next_sym l.0.bindings m l.1 k.0.bound k.1;
      }

  field-fit : (w : FieldId × Operand Term) → IfSome (fit_field f w) (FitShaped n (most + 1))
  field-fit (field, Known u) = known-fit (field_term f.fields field) u
  field-fit (field, Exists m) = go (get_or f.bindings m None)
    where
      go : (o : Option Term) → IfSome (fit_existential f field m o) (FitShaped n (most + 1))
      go None = new-fit field m
      go (Some u) = known-fit (field_term f.fields field) u

fields-fit : (n most : ℕ) (f : Fit) (ws : List (FieldId × Operand Term)) → FitShaped n most f
    → IfSome (fit_fields f ws) (FitShaped n (most + length ws))
fields-fit n most f [] h = fit-more n most (most + 0) f (omega arith) h
fields-fit n most f (w ∷ ws) h =
    then-all (FitShaped n (most + length (w ∷ ws))) (FitShaped n (most + 1)) (λ after. fit_fields after ws)
    (fit_field f w) (field-fit n most f h w)
    (λ after k. subst (λ m. IfSome (fit_fields after ws) (FitShaped n m))
    (let e : most + 1 + length ws ≡ most + length (w ∷ ws) = omega arith in e)
    (fields-fit n (most + 1) after ws k))

-- WHAT IS LEFT
-- a subtraction under way from that state
pub record WantShaped (d : Setting) (s : State) (w : Want) : Type 0 where
  pub shaped : StateShaped d w.state
  pub bound : Bound w.state.next_sym w.bindings
  pub terms : (t : Term) → OccursInAll w.conjuncts (Known t) → IsBelow w.state.next_sym t
  pub fits : ConjunctsFit (links_of d.program) w.conjuncts
  pub rises : Rises s w.state

-- what is wanted first, and then
pub record Wanting (d : Setting) (s : State) (bindings : List (Option Term)) (c : Conjunct Term)
    (cs : Conjuncts Term) : Type 0 where
  pub shaped : StateShaped d s
  pub bound : Bound s.next_sym bindings
  pub first : AreFirst s.next_sym c
  pub others : (t : Term) → OccursInAll cs (Known t) → IsBelow s.next_sym t
  pub fits : ConjunctFits (links_of d.program) c
  pub others_fit : ConjunctsFit (links_of d.program) cs

module _ (d : Setting) (s : State) (bindings : List (Option Term)) (c : Conjunct Term) (cs : Conjuncts Term)
    (h : Wanting d s bindings c cs) where
  abbrev P : Want → Type 0
  P = WantShaped d s

  abbrev n : ℕ
  n = s.next_sym

  self-rises : Rises s s
  self-rises = rises-none s s refl refl

  removed-shaped : (s2 : State) (bindings2 : List (Option Term)) → StateShaped d s2 → Bound s2.next_sym bindings2
      → Rises s s2 → P (removed s2 bindings2 cs)
  removed-shaped s2 bindings2 k b r = record {
    shaped = k;
    bound = b;
    terms = λ t o. below-more n s2.next_sym r.kept t (h.others t o);
    fits = h.others_fit;
    rises = r;
  }

  -- with another conjunct first
  replaced-shaped : (w : Want) (e : Conjunct Term) → P w → AreFirst w.state.next_sym e
      → ConjunctFits (links_of d.program) e
      → P (removed w.state w.bindings (also e w.conjuncts))
  replaced-shaped w e k f g = record {
    shaped = k.shaped;
    bound = k.bound;
    terms = λ t o. elim o [ inl here ↦ f t here | inr there ↦ k.terms t there ];
    fits = (g, k.fits);
    rises = k.rises;
  }

  same-shaped : P (removed s bindings cs)
  same-shaped = removed-shaped s bindings h.shaped h.bound self-rises

  handed-keeps : (a : ℕ) (x : Atom) → AllInAtom (IsBelow n) x → P (removed (handed s a x) bindings cs)
  handed-keeps a x b =
      removed-shaped (handed s a x) bindings (handed-shaped d s h.shaped a x b) h.bound
      (rises-none s (handed s a x) refl refl)

  cell_handed-keeps : (most : ℕ) (a : ℕ) (root : Term) (f : Fit) (bindings2 : List (Option Term))
      → IsBelow n root → FitShaped n most f → most ≤ n + 1000 → Bound f.next_sym bindings2
      → P (removed (handed_cell s root a f) bindings2 cs)
  cell_handed-keeps most a root f bindings2 b k l bound =
      removed-shaped (handed_cell s root a f) bindings2
      (handed-shaped d (record s { next_sym = f.next_sym }) (raised-shaped d s h.shaped f.next_sym k.kept) a
      (Points root f.fields) (below-more n f.next_sym k.kept root b, k.fields)) bound
      (record { kept = k.kept; symbols = omega (arith, k.symbols, l); atoms = omega arith })

  first-fits : (root : Term) (fields : List (FieldId × Term)) → AllInAtom (IsBelow n) (Points root fields)
      → FitShaped n n (first_fit s fields bindings)
  first-fits root fields b = record { kept = omega arith; symbols = omega arith; fields = b.1; bound = h.bound }

  -- ATOMS THAT ARE THERE
  atom-there : (a : ℕ) → IfSome (atom_at s.atoms a) (AllInAtom (IsBelow n))
  atom-there a = go (atom_at s.atoms a) refl
    where
      go : (o : Option Atom) → atom_at s.atoms a ≡ o → IfSome o (AllInAtom (IsBelow n))
      go None e = tt
      go (Some x) e = at-all (AllInAtom (IsBelow n)) s.atoms a x e h.shaped.below.atoms

  cell-there : (a : ℕ) (root : Term)
      → IfSome (cell_at s.atoms a root) (λ fields. AllInAtom (IsBelow n) (Points root fields))
  cell-there a root = go (cell_at s.atoms a root) refl
    where
      go : (o : Option (List (FieldId × Term))) → cell_at s.atoms a root ≡ o
          → IfSome o (λ fields. AllInAtom (IsBelow n) (Points root fields))
      go None e = tt
      go (Some fields) e =
          at-all (AllInAtom (IsBelow n)) s.atoms a (Points root fields) (at-cell s.atoms a root fields e)
          h.shaped.below.atoms

  -- THE STEPS
  removed_if-shaped : (holds_of : Term → Term → Bool) (o : Option (Term × Term))
      → IfSome (option_and_then (removed_if holds_of s bindings cs) o) P
  removed_if-shaped holds_of None = tt
  removed_if-shaped holds_of (Some e) = cond-all P (holds_of e.0 e.1) (Some (removed s bindings cs)) same-shaped

  bind-shaped : IfSome (bind_step s bindings c cs) P
  bind-shaped =
      then-all P (λ e. OperandBelow n e.0 × OperandBelow n e.1) _ (equality c) (equality-all n c h.first)
      (λ e q. map-all P (λ (b : ℕ × Term). IsBelow n b.1) _ (binding bindings e.0 e.1)
      (binding-all n bindings h.bound e.0 e.1 q.0 q.1)
      (λ b k. removed-shaped s (set bindings b.0 (Some b.1)) h.shaped (bound-set n bindings b.0 b.1 h.bound k) self-rises))

  cell-shaped : (a : ℕ) → IfSome (cell_step a s bindings c cs) P
  cell-shaped a =
      map-all P (λ (r : Term × Fit). IsBelow n r.0 × FitShaped n (n + 1000) r.1)
      (λ r. removed (handed_cell s r.0 a r.1) r.1.bindings cs)
      (option_and_then (fitting a s bindings) (wanted_cell c))
      (then-all (λ (r : Term × Fit). IsBelow n r.0 × FitShaped n (n + 1000) r.1)
      (λ w. OperandBelow n w.0 × (length w.1 ≤ FIELDS)) (fitting a s bindings) (wanted_cell c)
      (cell-all d n c h.first h.fits) fitting-all)
      (λ r k. cell_handed-keeps (n + 1000) a r.0 r.1 r.1.bindings k.0 k.1 (omega arith) k.1.bound)
    where
      fitting-all : (w : Operand Term × List (FieldId × Operand Term)) → OperandBelow n w.0 × (length w.1 ≤ FIELDS)
          → IfSome (fitting a s bindings w) (λ r. IsBelow n r.0 × FitShaped n (n + 1000) r.1)
      fitting-all w o =
          then-all (λ (r : Term × Fit). IsBelow n r.0 × FitShaped n (n + 1000) r.1) (IsBelow n) _
          (term_of bindings w.0) (term-all n bindings h.bound w.0 o.0)
          (λ root b. then-all (λ (r : Term × Fit). IsBelow n r.0 × FitShaped n (n + 1000) r.1)
          (λ fields. AllInAtom (IsBelow n) (Points root fields)) _ (cell_at s.atoms a root) (cell-there a root)
          (λ fields k. map-all (λ (r : Term × Fit). IsBelow n r.0 × FitShaped n (n + 1000) r.1)
          (FitShaped n (n + length w.1)) (λ f. (root, f)) (fit_fields (first_fit s fields bindings) w.1)
          (fields-fit n n (first_fit s fields bindings) w.1 (first-fits root fields k))
          (λ f m. (b, fit-more n (n + length w.1) (n + 1000) f (few w.1 o.1) m))))
        where
          few : (ws : List (FieldId × Operand Term)) → length ws ≤ FIELDS → n + length ws ≤ n + 1000
          few ws l = omega arith

  empty-shaped : IfSome (empty_step s bindings c cs) P
  empty-shaped = go (wanted_shape bindings c)
    where
      go : (o : Option Atom)
          → IfSome (option_and_then (λ x. cond (is_nothing x) (Some (removed s bindings cs)) None) o) P
      go None = tt
      go (Some x) = cond-all P (is_nothing x) (Some (removed s bindings cs)) same-shaped

  exact-shaped : (a : ℕ) → IfSome (exact_step a s bindings c cs) P
  exact-shaped a = go (wanted_shape bindings c)
    where
      go : (o : Option Atom) → IfSome (option_and_then (exact_there a s bindings cs) o) P
      go None = tt
      go (Some wanted) =
          then-all P (AllInAtom (IsBelow n)) _ (atom_at s.atoms a) (atom-there a)
          (λ x b. cond-all P (is_same_shape x wanted) (Some (removed (handed s a x) bindings cs)) (handed-keeps a x b))

  -- a list's rest
  list_from-first : (m : ℕ) (w : WantedList) (v u : Term) → IsBelow m v → IsBelow m u → AreFirst m (list_from w v u)
  list_from-first m w v u b c t (inl i) = let same : v ≡ t = cc in subst (IsBelow m) same b
  list_from-first m w v u b c t (inr i) = let same : u ≡ t = cc in subst (IsBelow m) same c

  tree_from-first : (m : ℕ) (w : WantedTree) (v : Term) → IsBelow m v → AreFirst m (tree_from w v)
  tree_from-first m w v b t i = let same : v ≡ t = cc in subst (IsBelow m) same b

  list_step-all : (there : WantedList → Term × Term → Option Want)
      → ((w : WantedList) (e : Term × Term) → is_some (links_of d.program).tl ≡ true → IsBelow n e.0 → IsBelow n e.1
      → IfSome (there w e) P)
      → IfSome (option_and_then (λ w. option_and_then (there w) (both bindings w.from w.to)) (wanted_list c)) P
  list_step-all there g =
      then-all P (λ w. OperandBelow n w.from × OperandBelow n w.to × (is_some (links_of d.program).tl ≡ true)) _
      (wanted_list c) (list-all d n c h.first h.fits)
      (λ w o. then-all P (λ (e : Term × Term). IsBelow n e.0 × IsBelow n e.1) (there w) (both bindings w.from w.to)
      (both-all n bindings h.bound w.from w.to o.0 o.1) (λ e b. g w e o.2 b.0 b.1))

  list_head-shaped : (a : ℕ) → IfSome (list_head_step a s bindings c cs) P
  list_head-shaped a = list_step-all (λ w e. head_there a s bindings w cs e)
      (λ w e l one two. cond-all P (differs s e.0 e.1) _
      (map-all P (λ fields. AllInAtom (IsBelow n) (Points e.0 fields)) _ (cell_at s.atoms a e.0) (cell-there a e.0)
      (λ fields b.
      let f = link (first_fit s fields bindings) w.next in
      let k = link-fits n n (first_fit s fields bindings) (first-fits e.0 fields b) w.next in
      replaced-shaped (removed (handed_cell s e.0 a f.0) bindings cs) (list_from w f.1 e.1)
      (cell_handed-keeps (n + 1) a e.0 f.0 bindings one k.0 (omega arith)
      (bound-more n f.0.next_sym bindings k.0.kept h.bound))
      (list_from-first f.0.next_sym w f.1 e.1 k.1 (below-more n f.0.next_sym k.0.kept e.1 two)) l)))

  list_join-shaped : (a : ℕ) → IfSome (list_join_step a s bindings c cs) P
  list_join-shaped a = list_step-all (λ w e. join_there a s bindings w cs e)
      (λ w e l one two. then-all P (AllInAtom (IsBelow n)) _ (atom_at s.atoms a) (atom-there a)
      (λ x b. map-all P (IsBelow n) _ (joined s a e.0 e.1 x) (joined-all x e.0 e.1 b)
      (λ v k. replaced-shaped (removed (handed s a x) bindings cs) (list_from w v e.1) (handed-keeps a x b)
      (list_from-first n w v e.1 k two) l)))
    where
      joined-all : (x : Atom) (v u : Term) → AllInAtom (IsBelow n) x → IfSome (joined s a v u x) (IsBelow n)
      joined-all (Ls z y) v u b =
          cond-all (IsBelow n) _ (Some y) b.1
      joined-all (Points root fields) v u b = tt
      joined-all (Tree root) v u b = tt
      joined-all (Dll v p l u) t w b = tt

  -- a doubly linked segment's rest
  double_from-first : (m : ℕ) (w : WantedDouble) (v p l u : Term) → IsBelow m v → IsBelow m p → IsBelow m l
      → IsBelow m u → AreFirst m (double_from w v p l u)
  double_from-first m w v p l u b c e f t (inl i) = let same : v ≡ t = cc in subst (IsBelow m) same b
  double_from-first m w v p l u b c e f t (inr (inl i)) = let same : p ≡ t = cc in subst (IsBelow m) same c
  double_from-first m w v p l u b c e f t (inr (inr (inl i))) = let same : l ≡ t = cc in subst (IsBelow m) same e
  double_from-first m w v p l u b c e f t (inr (inr (inr i))) = let same : u ≡ t = cc in subst (IsBelow m) same f

  double_step-all : (there : WantedDouble → Term × Term × Term × Term → Option Want)
      → ((w : WantedDouble) (e : Term × Term × Term × Term)
      → (is_some (links_of d.program).tl ≡ true) × (is_some (links_of d.program).pv ≡ true) → FourBelow n e
      → IfSome (there w e) P)
      → IfSome (option_and_then (λ w. option_and_then (there w) (four bindings w.from w.before w.last w.to))
      (wanted_double c)) P
  double_step-all there g =
      then-all P (λ w. OperandBelow n w.from × OperandBelow n w.before × OperandBelow n w.last × OperandBelow n w.to
      × (is_some (links_of d.program).tl ≡ true) × (is_some (links_of d.program).pv ≡ true)) _
      (wanted_double c) (double-all d n c h.first h.fits)
      (λ w o. then-all P (FourBelow n) (there w) (four bindings w.from w.before w.last w.to)
      (four-all n bindings h.bound w.from w.before w.last w.to o.0 o.1 o.2 o.3) (λ e b. g w e (o.4, o.5) b))

  -- a cell that fits, and the term of its link
  abbrev Linked : Fit × Term → Type 0
  Linked r = FitShaped n (n + 1 + 1) r.0 × IsBelow r.0.next_sym r.1

  double_head-shaped : (a : ℕ) → IfSome (double_head_step a s bindings c cs) P
  double_head-shaped a = double_step-all (λ w e. double_head_there a s bindings w cs e)
      (λ w e l b. cond-all P (differs s e.0 e.3) _
      (map-all P Linked _ (double_cell a s bindings w e.0 e.1) (double_cell-all w e.0 e.1)
      (λ r k.
      let more = below-more n r.0.next_sym k.0.kept in
      replaced-shaped (removed (handed_cell s e.0 a r.0) bindings cs) (double_from w r.1 e.0 e.2 e.3)
      (cell_handed-keeps (n + 1 + 1) a e.0 r.0 bindings b.0 k.0 (omega arith)
      (bound-more n r.0.next_sym bindings k.0.kept h.bound))
      (double_from-first r.0.next_sym w r.1 e.0 e.2 e.3 k.1 (more e.0 b.0) (more e.2 b.2) (more e.3 b.3)) l)))
    where
      double_cell-all : (w : WantedDouble) (v p : Term) → IfSome (double_cell a s bindings w v p) Linked
      double_cell-all w v p =
          then-all Linked (λ fields. AllInAtom (IsBelow n) (Points v fields)) _ (cell_at s.atoms a v) (cell-there a v)
          (λ fields k.
          let first = first_fit s fields bindings in
          map-all Linked (FitShaped n (n + 1)) (λ f. link f w.next)
          (fit_known first (field_term fields w.back) p)
          (known-fit n n first (first-fits v fields k) (field_term fields w.back) p)
          (λ f m. link-fits n (n + 1) f m w.next))

  double_join-shaped : (a : ℕ) → IfSome (double_join_step a s bindings c cs) P
  double_join-shaped a = double_step-all (λ w e. double_join_there a s bindings w cs e)
      (λ w e l b. then-all P (AllInAtom (IsBelow n)) _ (atom_at s.atoms a) (atom-there a)
      (λ x k. map-all P (λ (v : Term × Term). IsBelow n v.0 × IsBelow n v.1) _ (double_joined s a e.0 e.1 e.3 x)
      (joined-all x e.0 e.1 e.3 k)
      (λ v m. replaced-shaped (removed (handed s a x) bindings cs) (double_from w v.0 v.1 e.2 e.3)
      (handed-keeps a x k) (double_from-first n w v.0 v.1 e.2 e.3 m.0 m.1 b.2 b.3) l)))
    where
      joined-all : (x : Atom) (v p u : Term) → AllInAtom (IsBelow n) x
          → IfSome (double_joined s a v p u x) (λ (e : Term × Term). IsBelow n e.0 × IsBelow n e.1)
      joined-all (Dll t q m w) v p u b =
          cond-all (λ (e : Term × Term). IsBelow n e.0 × IsBelow n e.1) _ (Some (w, m)) (b.3, b.2)
      joined-all (Ls z y) v p u b = tt
      joined-all (Points root fields) v p u b = tt
      joined-all (Tree root) v p u b = tt

  head-shaped : (a : ℕ) → IfSome (head_step a s bindings c cs) P
  head-shaped a =
      first-all P (list_head_step a s bindings c cs) (double_head_step a s bindings c cs) (list_head-shaped a)
      (double_head-shaped a)

  join-shaped : (a : ℕ) → IfSome (join_step a s bindings c cs) P
  join-shaped a =
      first-all P (list_join_step a s bindings c cs) (double_join_step a s bindings c cs) (list_join-shaped a)
      (double_join-shaped a)

  node-shaped : (a : ℕ) → IfSome (node_step a s bindings c cs) P
  node-shaped a =
      then-all P (λ w. OperandBelow n w.root × (is_some (links_of d.program).l ≡ true)
      × (is_some (links_of d.program).r ≡ true)) _ (wanted_tree c) (tree-all d n c h.first h.fits)
      (λ w o. then-all P (IsBelow n) _ (term_of bindings w.root) (term-all n bindings h.bound w.root o.0)
      (λ root b. map-all P (λ fields. AllInAtom (IsBelow n) (Points root fields)) _ (cell_at s.atoms a root)
      (cell-there a root)
      (λ fields k.
      let first = link (first_fit s fields bindings) w.left in
      let one = link-fits n n (first_fit s fields bindings) (first-fits root fields k) w.left in
      let second = link first.0 w.right in
      let two = link-fits n (n + 1) first.0 one.0 w.right in
      let here : FitShaped first.0.next_sym (n + 1) first.0 = record {
        kept = omega arith;
        symbols = one.0.symbols;
        fields = one.0.fields;
        bound = one.0.bound;
      } in
      let later = (link-fits first.0.next_sym (n + 1) first.0 here w.right).0.kept in
      let rest = removed (handed_cell s root a second.0) bindings cs in
      let kept = cell_handed-keeps (n + 1 + 1) a root second.0 bindings b two.0 (omega arith)
      (bound-more n second.0.next_sym bindings two.0.kept h.bound) in
      let right = replaced-shaped rest (tree_from w second.1) kept
      (tree_from-first second.0.next_sym w second.1 two.1) (o.1, o.2) in
      replaced-shaped (removed rest.state bindings (also (tree_from w second.1) cs)) (tree_from w first.1) right
      (tree_from-first second.0.next_sym w first.1
      (below-more first.0.next_sym second.0.next_sym later first.1 one.1)) (o.1, o.2))))

-- THE ROWS
module _ (d : Setting) (s : State) (p : Place) (want : Pending) (names : List (List ℕ)) (rest : List Item)
    (h : IsFitting d (record { state = s; todo = take p want names ∷ rest })) where
  wanting-first : (c : Conjunct Term) (cs : Conjuncts Term) → want.conjuncts ≡ also c cs
      → Wanting d s want.bindings c cs
  wanting-first c cs e =
      let b = h.below.todo.0 in
      let fits = subst (ConjunctsFit (links_of d.program)) e h.todo.0 in
      record {
        shaped = state-shaped d (record { state = s; todo = take p want names ∷ rest }) h;
        bound = b.bindings;
        first = λ u o. b.conjuncts u (subst (λ z. OccursInAll z (Known u)) (sym e) (inl o));
        others = λ u o. b.conjuncts u (subst (λ z. OccursInAll z (Known u)) (sym e) (inr o));
        fits = fits.0;
        others_fit = fits.1;
      }

  by : (step : Step)
      → ((c : Conjunct Term) (cs : Conjuncts Term) → Wanting d s want.bindings c cs
      → IfSome (step s want.bindings c cs) (WantShaped d s))
      → IfSome (first_by step s want.bindings want.conjuncts) (WantShaped d s)
  by step g = go want.conjuncts refl
    where
      go : (cs : Conjuncts Term) → want.conjuncts ≡ cs → IfSome (first_by step s want.bindings cs) (WantShaped d s)
      go none e = tt
      go (also c cs) e = g c cs (wanting-first c cs e)

  subtracted-shaped : (tag : Tag) → IfSome (subtracted tag (wanting s want)) (WantShaped d s)
  subtracted-shaped t.Bind = by bind_step (λ c cs w. bind-shaped d s want.bindings c cs w)
  subtracted-shaped t.Same =
      by same_step (λ c cs w. removed_if-shaped d s want.bindings c cs w same_term
      (option_and_then (λ e. both want.bindings e.0 e.1) (equality c)))
  subtracted-shaped t.Apart =
      by apart_step (λ c cs w. removed_if-shaped d s want.bindings c cs w (differs s)
      (option_and_then (λ e. both want.bindings e.0 e.1) (inequality c)))
  subtracted-shaped (t.Cell a) = by (cell_step a) (λ c cs w. cell-shaped d s want.bindings c cs w a)
  subtracted-shaped t.Empty =
      by empty_step (λ c cs w. empty-shaped d s want.bindings c cs w)
  subtracted-shaped (t.Exact a) = by (exact_step a) (λ c cs w. exact-shaped d s want.bindings c cs w a)
  subtracted-shaped (t.Head a) = by (head_step a) (λ c cs w. head-shaped d s want.bindings c cs w a)
  subtracted-shaped (t.Join a) = by (join_step a) (λ c cs w. join-shaped d s want.bindings c cs w a)
  subtracted-shaped (t.Node a) = by (node_step a) (λ c cs w. node-shaped d s want.bindings c cs w a)
  subtracted-shaped _ = tt

  pub step-keeps : (tag : Tag) (left : List Goal) → subtract_row tag s p want names rest ≡ Some left → AllKeep d s left
  step-keeps tag left row =
      let m = and_then-left (subtracted tag (wanting s want))
      (λ w. one_goal w.state (taking p (still_wanted w) names ++ rest)) left
      (few-left (new_symbols want.conjuncts) _ left row) in
      let k = some-holds (WantShaped d s) (subtracted tag (wanting s want)) m.0 m.1 (subtracted-shaped tag) in
      one-keeps d s _ left m.2
      (keeps-goal d s m.0.state (taking p (still_wanted m.0) names ++ rest) k.shaped k.rises
      (taking-below (IsBelow m.0.state.next_sym) p (still_wanted m.0) names rest
      (record { conjuncts = k.terms; bindings = k.bound }) (rest-below s m.0.state rest k.rises h.below.todo.1))
      (taking-fits d p (still_wanted m.0) names rest k.fits h.todo.1))
