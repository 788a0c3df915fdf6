-- Parts of rows as the rules say them: atoms, fields, operands, existentials without a term.
-- Names: `WORD-FACT` of a word of the rules.
use Rattle.std.proofs.Common.{◌≡◌, ◌≢◌, ◌⊎◌, inl, inr, ℕ, ◌==◌, ◌&&◌, not, Bool, true, false, cond, get_or, is_some, Option, Some, None, List, [], ◌∷◌, refl, sym, ap, ◌∙◌, subst}
use Rattle.std.specs.Prelude.{set}
use Rattle.std.specs.Option.{option_map}
use Rattle.std.proofs.lemmas.Option.{cond_some, option_and_then_some, same_Some}
use Rattle.sf_base.specs.declared.ids.FieldId.{FieldId}
use Rattle.sf_base.specs.declared.place.Place.{Place}
use Rattle.sf_consume.specs.Subtract.{Fit, both, first_of, four, fit_existential, fit_field, fit_fields, fit_known, is_same_shape, link, linked, unbound, wanted_shape}
use Rattle.sf_core.specs.declared.assertion.Operand.{Operand}
use Rattle.sf_core.specs.declared.assertion.Operand.TheVariants.{Known, Exists}
use Rattle.sf_core.specs.Program.Syntax.{Conjunct, segment, doubly, tree}
use Rattle.sf_produce.specs.Add.{Met, met, met_existential, met_fields}
use Rattle.sf_rules.specs.Checked.Lemmas.RuleRows.{fit, term-self}
use Rattle.sf_rules.specs.Rules.{IsElsewhere, IsNothing, no_list, no_tree, no_double, Spans, list_spans, tree_spans, double_spans, Meets, has, met_first, MeetsAll, all_met, one_met, FieldIs, known, missing, Fits, all_fit, fits_known, fits_new, Wanted, list_wanted, double_wanted, tree_wanted, next_at}
use Rattle.sf_sym.specs.Cells.{atom_at, cell_at, fields_at}
use Rattle.sf_sym.specs.Checked.Lemmas.{same_term_is}
use Rattle.sf_sym.specs.Decided.{term_of}
use Rattle.sf_sym.specs.declared.atom.Atom.{Atom}
use Rattle.sf_sym.specs.declared.atom.Atom.TheVariants.{Points, Ls, Tree, Dll}
use Rattle.sf_sym.specs.declared.atom.Numbered.{Numbered}
use Rattle.sf_sym.specs.declared.term.Term.{Term}
use Rattle.sf_sym.specs.declared.term.Term.TheVariants.{Nil}
use Rattle.sf_sym.specs.Fields.{field_term, put_term}
use Rattle.sf_sym.specs.Known.{forced_pair, is_elsewhere, is_nothing}
use Rattle.sf_sym.specs.State.{State}
use Rattle.sf_sym.specs.Tests.{same_term}

-- BOOLEANS
pub and-both : (a b : Bool) → (a && b) ≡ true → (a ≡ true) × (b ≡ true)
and-both true b e = (refl, e)
and-both false b e = absurd (cc)

pub not-true : (b : Bool) → not b ≡ true → b ≡ false
not-true true e = absurd (cc)
not-true false e = refl

-- OPTIONS
pub cond-then : {A : Type 0} (b : Bool) (o : Option A) (y : A) → cond b o None ≡ Some y
    → (b ≡ true) × (o ≡ Some y)
cond-then true o y e = (refl, e)
cond-then false o y e = absurd (cc)

pub mapped : {A B P : Type 0} (f : A → B) (o : Option A) (y : B) → option_map f o ≡ Some y
    → ((x : A) → o ≡ Some x → f x ≡ y → P) → P
mapped f None y e then = absurd (cc)
mapped f (Some x) y e then = then x refl (same_Some (f x) y e)

-- TERMS AND ATOMS
pub tests-apart : (t u : Term) → same_term t u ≡ false → t ≢ u
tests-apart t u f e = let s : same_term t u ≡ true =
    subst (λ v. same_term t v ≡ true) e (term-self t) in absurd (cc)

-- what is forced is so by its ends, or by what stands before a doubly linked segment and its last cell
abbrev pub IsForced : State → ℕ → Atom → Term × Term → Type 0
IsForced s a x v = Spans x v.0 v.1 × (same_term v.0 v.1 ≡ false) × IsElsewhere s a v.0

abbrev pub IsForcedBack : Atom → Term × Term → Type 0
IsForcedBack x v = (t : Term) × (x ≡ Dll t v.0 v.1 t) × (same_term v.0 v.1 ≡ false)

double-forced : (s : State) (a : ℕ) (t p l u : Term) (v : Term × Term)
    → forced_pair s a (Dll t p l u) ≡ Some v → IsForced s a (Dll t p l u) v ⊎ IsForcedBack (Dll t p l u) v
double-forced s a t p l u v e = go (same_term t u) refl e
  where
    beside : (b : Bool) → same_term p l ≡ b → same_term t u ≡ true → cond b None (Some (p, l)) ≡ Some v
        → IsForcedBack (Dll t p l u) v
    beside true i same e = absurd (cc)
    beside false i same e =
        subst (IsForcedBack (Dll t p l u)) (same_Some (p, l) v e)
        (t, ap (Dll t p l) (sym (same_term_is t u same)), i)

    go : (b : Bool) → same_term t u ≡ b
        → cond b (cond (same_term p l) None (Some (p, l))) (cond (is_elsewhere s a t) (Some (t, u)) None) ≡ Some v
        → IsForced s a (Dll t p l u) v ⊎ IsForcedBack (Dll t p l u) v
    go true i e = inr (beside (same_term p l) refl i e)
    go false i e =
        let k = cond_some (is_elsewhere s a t) (t, u) v e in
        inl (subst (IsForced s a (Dll t p l u)) k.1 (double_spans {t = t} {p = p} {l = l} {u = u}, i, k.0))

pub forced-spans : (s : State) (a : ℕ) (x : Atom) (v : Term × Term) → forced_pair s a x ≡ Some v
    → IsForced s a x v ⊎ IsForcedBack x v
forced-spans s a (Points t fs) v e = absurd (cc)
forced-spans s a (Ls t u) v e =
    let k = cond_some (not (same_term t u) && is_elsewhere s a t) (t, u) v e in
    let both = and-both (not (same_term t u)) (is_elsewhere s a t) k.0 in
    inl (subst (IsForced s a (Ls t u)) k.1
    (list_spans {t = t} {u = u}, not-true (same_term t u) both.0, both.1))
forced-spans s a (Tree t) v e =
    let k = cond_some (not (same_term t Nil) && is_elsewhere s a t) (t, Nil) v e in
    let both = and-both (not (same_term t Nil)) (is_elsewhere s a t) k.0 in
    inl (subst (IsForced s a (Tree t)) k.1
    (tree_spans {t = t}, not-true (same_term t Nil) both.0, both.1))
forced-spans s a (Dll t p l u) v e = double-forced s a t p l u v e

pub is-nothing : (x : Atom) → is_nothing x ≡ true → IsNothing x
is-nothing (Points v fs) e = absurd (cc)
is-nothing (Ls v w) e = subst (λ z. IsNothing (Ls v z)) (same_term_is v w e) (no_list {t = v})
is-nothing (Tree v) e = subst (λ z. IsNothing (Tree z)) (sym (same_term_is v Nil e)) no_tree
is-nothing (Dll v p l u) e =
    let both = and-both (same_term v u) (same_term p l) e in
    subst (λ z. IsNothing (Dll v p l z)) (same_term_is v u both.0)
    (subst (λ z. IsNothing (Dll v p z v)) (same_term_is p l both.1) (no_double {t = v} {p = p}))

pub shape-same : (x y : Atom) → is_same_shape x y ≡ true → x ≡ y
shape-same (Ls t u) (Ls v w) e =
    let parts = and-both (same_term t v) (same_term u w) e in
    ap (λ z. Ls z u) (same_term_is t v parts.0) ∙ ap (λ z. Ls v z) (same_term_is u w parts.1)
shape-same (Tree t) (Tree v) e = ap Tree (same_term_is t v e)
shape-same (Dll t p l u) (Dll v q m w) e =
    let one = and-both (same_term t v) _ e in
    let two = and-both (same_term p q) _ one.1 in
    let last = and-both (same_term l m) (same_term u w) two.1 in
    ap (λ z. Dll z p l u) (same_term_is t v one.0) ∙ ap (λ z. Dll v z l u) (same_term_is p q two.0)
    ∙ ap (λ z. Dll v q z u) (same_term_is l m last.0) ∙ ap (λ z. Dll v q m z) (same_term_is u w last.1)
shape-same _ _ e = absurd (cc)

pub cell-atom : (xs : List Numbered) (a : ℕ) (t : Term) (fs : List (FieldId × Term))
    → cell_at xs a t ≡ Some fs → atom_at xs a ≡ Some (Points t fs)
cell-atom [] a t fs e = absurd (cc)
cell-atom (x ∷ xs) a t fs e = go (x.number == a) (cell-atom xs a t fs) e
  where
    points-at : (y : Atom) → fields_at y t ≡ Some fs → y ≡ Points t fs
    points-at (Points r gs) e =
        let k = cond_some (same_term r t) gs fs e in
        let one : r ≡ t = same_term_is r t k.0 in
        let two : gs ≡ fs = k.1 in
        cc
    points-at _ e = absurd (cc)

    go : (b : Bool) → (cell_at xs a t ≡ Some fs → atom_at xs a ≡ Some (Points t fs))
        → cond b (fields_at x.atom t) (cell_at xs a t) ≡ Some fs
        → cond b (Some x.atom) (atom_at xs a) ≡ Some (Points t fs)
    go true others e = ap Some (points-at x.atom e)
    go false others e = others e

pub both-terms : (terms : List (Option Term)) (x y : Operand Term) (e : Term × Term)
    → both terms x y ≡ Some e
    → (term_of terms x ≡ Some e.0) × (term_of terms y ≡ Some e.1)
both-terms terms x y e k = option_and_then_some _ (term_of terms x) e k (λ t at j.
    mapped _ (term_of terms y) e j (λ u also_at is.
    (at ∙ ap (λ (z : Term × Term). Some z.0) is, also_at ∙ ap (λ (z : Term × Term). Some z.1) is)))

pub four-wanted : (terms : List (Option Term)) (q : Place) (next back : FieldId) (x b l y : Operand Term)
    (e : Term × Term × Term × Term) → four terms x b l y ≡ Some e
    → Wanted terms (doubly q next back x b l y) (Dll e.0 e.1 e.2 e.3)
four-wanted terms q next back x b l y e k = option_and_then_some _ (both terms x b) e k (λ f at j.
    mapped _ (both terms l y) e j (λ g also_at is.
    let first = both-terms terms x b f at in
    let second = both-terms terms l y g also_at in
    subst (λ (z : Term × Term × Term × Term). Wanted terms (doubly q next back x b l y) (Dll z.0 z.1 z.2 z.3)) is
    (double_wanted first.0 first.1 second.0 second.1)))

-- what is wanted, as an atom
pub shape-wanted : (terms : List (Option Term)) (c : Conjunct Term) (z : Atom)
    → wanted_shape terms c ≡ Some z → Wanted terms c z
shape-wanted terms (segment q next x y) z e = mapped _ (both terms x y) z e (λ v are made.
    let ends = both-terms terms x y v are in
    subst (Wanted terms (segment q next x y)) made (list_wanted ends.0 ends.1))
shape-wanted terms (doubly q next back x b l y) z e = mapped _ (four terms x b l y) z e (λ v are made.
    subst (Wanted terms (doubly q next back x b l y)) made (four-wanted terms q next back x b l y v are))
shape-wanted terms (tree q left right x) z e = mapped _ (term_of terms x) z e (λ t one made.
    subst (Wanted terms (tree q left right x)) made (tree_wanted one))
shape-wanted terms _ z e = absurd (cc)

-- FIELDS
-- a field that is known has the wanted term
pub known-is : (f to : Fit) (o : Option Term) (u : Term) → fit_known f o u ≡ Some to
    → (o ≡ Some u) × (f ≡ to)
known-is f to None u e = absurd (cc)
known-is f to (Some t) u e =
    let b = cond_some (same_term t u) f to e in (ap Some (same_term_is t u b.0), b.1)

pub link-field : (n : ℕ) (fs : List (FieldId × Term)) (f : FieldId) (terms : List (Option Term))
    → (let l = link (fit n fs terms) f in
    FieldIs n fs f l.1 l.0.next_sym l.0.fields × (l.0.bindings ≡ terms))
link-field n fs f terms = go (field_term fs f) refl
  where
    go : (o : Option Term) → field_term fs f ≡ o
        → (let l = linked (fit n fs terms) f o in
        FieldIs n fs f l.1 l.0.next_sym l.0.fields × (l.0.bindings ≡ terms))
    go None e = (missing e, refl)
    go (Some t) e = (known e, refl)

module _ (n m : ℕ) (fs gs : List (FieldId × Term)) (terms ends : List (Option Term)) (f : FieldId)
    (ws : List (FieldId × Operand Term)) (to : Fit)
    (rest : Fits to.next_sym to.fields to.bindings ws m gs ends) where
  fit-same : (x : Operand Term) (u : Term) → term_of terms x ≡ Some u → (o : Option Term)
      → field_term fs f ≡ o
      → fit_known (fit n fs terms) o u ≡ Some to → Fits n fs terms ((f, x) ∷ ws) m gs ends
  fit-same x u wanted None at e = absurd (cc)
  fit-same x u wanted (Some t) at e =
      let b = cond_some (same_term t u) _ to e in
      fits_known wanted (at ∙ ap Some (same_term_is t u b.0))
      (subst (λ z. Fits z.next_sym z.fields z.bindings ws m gs ends) (sym b.1) rest)

  fit-one : (x : Operand Term) → fit_field (fit n fs terms) (f, x) ≡ Some to
      → Fits n fs terms ((f, x) ∷ ws) m gs ends
  fit-one (Known u) e = fit-same (Known u) u refl (field_term fs f) refl e
  fit-one (Exists k) e = go (get_or terms k None) refl e
    where
      go : (o : Option Term) → get_or terms k None ≡ o
          → fit_existential (fit n fs terms) f k o ≡ Some to
          → Fits n fs terms ((f, Exists k) ∷ ws) m gs ends
      go (Some u) at e = fit-same (Exists k) u at (field_term fs f) refl e
      go None at e =
          let l = link (fit n fs terms) f in
          let field = link-field n fs f terms in
          let is : to ≡ fit l.0.next_sym l.0.fields (set terms k (Some l.1)) =
          sym (same_Some _ to e)
          ∙ ap (λ b. fit l.0.next_sym l.0.fields (set b k (Some l.1))) field.1 in
          fits_new at field.0
          (subst (λ z. Fits z.next_sym z.fields z.bindings ws m gs ends) is rest)

pub fit-fits : (n : ℕ) (fs : List (FieldId × Term)) (terms : List (Option Term))
    (ws : List (FieldId × Operand Term)) (to : Fit)
    → fit_fields (fit n fs terms) ws ≡ Some to
    → Fits n fs terms ws to.next_sym to.fields to.bindings
fit-fits n fs terms [] to e =
    subst (λ z. Fits n fs terms [] z.next_sym z.fields z.bindings) (same_Some _ to e)
    (all_fit {n = n} {fs = fs} {terms = terms})
fit-fits n fs terms ((f, x) ∷ ws) to e =
    option_and_then_some (λ z. fit_fields z ws) (fit_field (fit n fs terms) (f, x)) to e
    (λ one here more.
    fit-one n to.next_sym fs to.fields terms to.bindings f ws one
    (fit-fits one.next_sym one.fields one.bindings ws to more) x here)

-- OPERANDS THAT ARE ASSUMED
-- a met operand, and that its state is the one before with another next symbol
abbrev pub MeetsAs : State → List (Option Term) → Operand Term → Met → Type 0
MeetsAs s terms x m =
    Meets s.next_sym terms x m.term m.state.next_sym m.bindings
    × (next_at m.state.next_sym s ≡ m.state)

pub met-meets : (s : State) (terms : List (Option Term)) (x : Operand Term)
    → MeetsAs s terms x (met s terms x)
met-meets s terms (Known t) = (has refl, refl)
met-meets s terms (Exists k) = go (get_or terms k None) refl
  where
    go : (o : Option Term) → get_or terms k None ≡ o
        → MeetsAs s terms (Exists k) (met_existential s terms k o)
    go None e = (met_first e, refl)
    go (Some t) e = (has e, refl)

-- two states in turn
pub states-then : (s t u : State) → next_at t.next_sym s ≡ t → next_at u.next_sym t ≡ u
    → next_at u.next_sym s ≡ u
states-then s t u one two = ap (next_at u.next_sym) one ∙ two

pub fields-meet : (s : State) (terms : List (Option Term)) (ws : List (FieldId × Operand Term))
    (made : List (FieldId × Term))
    → (let m = met_fields s terms ws made in
    MeetsAll s.next_sym terms made ws m.state.next_sym m.bindings m.fields
    × (next_at m.state.next_sym s ≡ m.state))
fields-meet s terms [] made = (all_met, refl)
fields-meet s terms ((f, x) ∷ ws) made =
    let one = met s terms x in
    let here = met-meets s terms x in
    let last = met_fields one.state one.bindings ws (put_term f one.term made) in
    let others = fields-meet one.state one.bindings ws (put_term f one.term made) in
    (one_met here.0 others.0, states-then s one.state last.state here.1 others.1)

-- EXISTENTIALS WITHOUT A TERM
pub unbound-is : (terms : List (Option Term)) (x : Operand Term) (n : ℕ) → unbound terms x ≡ Some n
    → (x ≡ Exists n) × (get_or terms n None ≡ None)
unbound-is terms (Known u) n e = absurd (cc)
unbound-is terms (Exists k) n e = go (get_or terms k None) refl e
  where
    go : (o : Option Term) → get_or terms k None ≡ o → cond (is_some o) None (Some k) ≡ Some n
        → (◌≡◌ {A = Operand Term} (Exists k) (Exists n)) × (get_or terms n None ≡ None)
    go (Some u) at e = absurd (cc)
    go None at e =
        let i : k ≡ n = same_Some k n e in
        (ap (λ z. Exists z) i, subst (λ z. get_or terms z None ≡ None) i at)

pub first-left : {X : Type 0} (o : Option X) (x : X) → first_of o None ≡ Some x → o ≡ Some x
first-left (Some y) x e = e
first-left None x e = absurd (cc)

pub first-one : {X : Type 0} (o p : Option X) (x : X) → first_of o p ≡ Some x
    → (o ≡ Some x) ⊎ (p ≡ Some x)
first-one (Some y) p x e = inl e
first-one None p x e = inr e
