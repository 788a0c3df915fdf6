-- Each rule is a row of the table.
-- Names: `WORD-row` that the function says what the rule says of it.
use Rattle.std.proofs.Common.{◌≡◌, ◌≢◌, ℕ, ◌+◌, ◌==◌, ◌++◌, Bool, true, false, cond, length, length-append, nat_lt, Option, Some, List, [], ◌∷◌, refl, sym, ap, subst}
use Rattle.std.proofs.lemmas.Bool.Decides.{Decides-int_eq, Decides-eqb, Decides-ltb}
use Rattle.std.proofs.lemmas.Option.{same_Some}
use Rattle.sf_base.specs.declared.ids.FieldId.{FieldId}
use Rattle.sf_base.specs.declared.ids.Var.{Var}
use Rattle.sf_calls.specs.Changes.{changed}
use Rattle.sf_consume.specs.Subtract.{Fit, fit_fields, link}
use Rattle.sf_core.specs.declared.assertion.Operand.{Operand}
use Rattle.sf_core.specs.declared.assertion.Operand.TheVariants.{Known, Exists}
use Rattle.sf_produce.specs.Add.{Met, MetFields, met, met_fields}
use Rattle.sf_rules.specs.Checked.Lemmas.FreshVariables.{fresh-length}
use Rattle.sf_rules.specs.declared.few.TheConstants.{TOO_MANY}
use Rattle.sf_rules.specs.Checked.Rows.Branches.{branch_row}
use Rattle.sf_rules.specs.Checked.Rows.Whole.{row, row_of}
use Rattle.sf_rules.specs.Rules as rule
use Rattle.sf_rules.specs.Rules.{Leaves, Rule, IsNothing, no_list, no_tree, no_double, Spans, list_spans, tree_spans, double_spans, Goes, command_goes, assumed_goes, shown_goes, Meets, has, met_first, MeetsAll, all_met, one_met, FieldIs, known, missing, Fits, all_fit, fits_known, fits_new, list_wanted, double_wanted, tree_wanted, needed, next_at, ◌⊢◌}
use Rattle.sf_rules.specs.Setting.{Setting}
use Rattle.sf_sym.specs.Cells.{atom_at, cell_at, fields_at, with_fields}
use Rattle.sf_sym.specs.Checked.Lemmas.{same_term_is}
use Rattle.sf_sym.specs.Known.{forced_pair, is_elsewhere, is_nothing}
use Rattle.sf_sym.specs.Tests.{same_term}
use Rattle.sf_sym.specs.Goal.{Goal, Item}
use Rattle.sf_sym.specs.State.{State}
use Rattle.sf_sym.specs.Variables.{fresh_for}
use Rattle.sf_sym.specs.declared.atom.Atom.{Atom}
use Rattle.sf_sym.specs.declared.atom.Atom.TheVariants.{Points, Dll}
use Rattle.sf_sym.specs.declared.atom.Numbered.{Numbered}
use Rattle.sf_sym.specs.declared.tag.Tag.{Tag}
use Rattle.sf_sym.specs.declared.term.Term.{Term}
use Rattle.sf_sym.specs.declared.term.Term.TheVariants.{Nil, Int, Sym}

-- TERMS
pub term-self : (u : Term) → same_term u u ≡ true
term-self Nil = refl
term-self (Int i) = (Decides-int_eq i i).1 refl
term-self (Sym n) = (Decides-eqb n n).1 refl

terms-same : (t u : Term) → t ≡ u → same_term t u ≡ true
terms-same t u e = subst (λ v. same_term t v ≡ true) e (term-self t)

terms-differ : (t u : Term) → t ≢ u → same_term t u ≡ false
terms-differ t u n = go (same_term t u) refl
  where
    go : (b : Bool) → same_term t u ≡ b → b ≡ false
    go true e = absurd (n (same_term_is t u e))
    go false e = refl

-- ATOMS
spans-forced : (s : State) (a : ℕ) (x : Atom) (t u : Term) → Spans x t u → same_term t u ≡ false
    → is_elsewhere s a t ≡ true → forced_pair s a x ≡ Some (t, u)
spans-forced s a _ _ _ list_spans e f = rw (e, f) refl
spans-forced s a _ _ _ tree_spans e f = rw (e, f) refl
spans-forced s a _ _ _ double_spans e f = rw (e, f) refl

ends-forced : (s : State) (a : ℕ) (t p l : Term) → same_term p l ≡ false
    → forced_pair s a (Dll t p l t) ≡ Some (p, l)
ends-forced s a t p l e = rw (term-self t, e) refl

nothing-is : (x : Atom) → IsNothing x → is_nothing x ≡ true
nothing-is _ (no_list {t = t}) = term-self t
nothing-is _ no_tree = refl
nothing-is _ (no_double {t = t} {p = p}) = rw (term-self t, term-self p) refl

pub atom-cell : (xs : List Numbered) (a : ℕ) (t : Term) (fs : List (FieldId × Term))
    → atom_at xs a ≡ Some (Points t fs) → cell_at xs a t ≡ Some fs
atom-cell [] a t fs e = absurd (cc)
atom-cell (x ∷ xs) a t fs e = go (x.number == a) (atom-cell xs a t fs) e
  where
    at-one : (y : Atom) → y ≡ Points t fs → fields_at y t ≡ Some fs
    at-one y e = subst (λ z. fields_at z t ≡ Some fs) (sym e) (rw (term-self t) refl)

    go : (b : Bool) → (atom_at xs a ≡ Some (Points t fs) → cell_at xs a t ≡ Some fs)
        → cond b (Some x.atom) (atom_at xs a) ≡ Some (Points t fs)
        → cond b (fields_at x.atom t) (cell_at xs a t) ≡ Some fs
    go true others e = at-one x.atom (cc)
    go false others e = others e

-- a cell with the fields that it has is the cell that it is
pub fields-same : (xs : List Numbered) (a : ℕ) (t : Term) (fs : List (FieldId × Term))
    → atom_at xs a ≡ Some (Points t fs) → with_fields xs a t fs ≡ xs
fields-same [] a t fs e = absurd (cc)
fields-same (x ∷ xs) a t fs e = go (x.number == a) refl (fields-same xs a t fs) e
  where
    go : (b : Bool) → (x.number == a) ≡ b
        → (atom_at xs a ≡ Some (Points t fs) → with_fields xs a t fs ≡ xs)
        → cond b (Some x.atom) (atom_at xs a) ≡ Some (Points t fs)
        → cond b (record { number = a; atom = Points t fs } ∷ xs) (x ∷ with_fields xs a t fs) ≡ x
        ∷ xs
    go true here others e =
        let n : x.number ≡ a = (Decides-eqb x.number a).0 here in
        let y : x.atom ≡ Points t fs = same_Some x.atom (Points t fs) e in
        subst (λ k. record { number = k; atom = Points t fs } ∷ xs ≡ x ∷ xs) n
        (subst (λ z. record { number = x.number; atom = z } ∷ xs ≡ x ∷ xs) y refl)
    go false here others e = ap (λ ys. x ∷ ys) (others e)

-- FIELDS
-- how far fields fit
abbrev pub fit : ℕ → List (FieldId × Term) → List (Option Term) → Fit
fit n fs terms = record { next_sym = n; fields = fs; bindings = terms }

field-row : (n m : ℕ) (fs gs : List (FieldId × Term)) (f : FieldId) (t : Term)
    (terms : List (Option Term))
    → FieldIs n fs f t m gs → link (fit n fs terms) f ≡ (fit m gs terms, t)
field-row _ _ _ _ _ _ terms (known e) = rw e refl
field-row _ _ _ _ _ _ terms (missing e) = rw e refl

fits-row : (n m : ℕ) (fs gs : List (FieldId × Term)) (terms ends : List (Option Term))
    (ws : List (FieldId × Operand Term)) → Fits n fs terms ws m gs ends
    → fit_fields (fit n fs terms) ws ≡ Some (fit m gs ends)
fits-row _ _ _ _ _ _ _ all_fit = refl
fits-row _ _ _ _ _ _ _ (fits_known {x = Known u} {t = t} wanted at fits) =
    rw (at, terms-same t u cc) (fits-row _ _ _ _ _ _ _ fits)
fits-row _ _ _ _ _ _ _ (fits_known {x = Exists k} {t = t} wanted at fits) =
    rw (wanted, at, term-self t) (fits-row _ _ _ _ _ _ _ fits)
fits-row _ _ _ _ _ _ _ (fits_new {terms = terms} none field fits) =
    rw (none, field-row _ _ _ _ _ _ terms field) (fits-row _ _ _ _ _ _ _ fits)

-- OPERANDS THAT ARE ASSUMED
-- what meeting them leaves
abbrev pub met_as : State → Term → ℕ → List (Option Term) → Met
met_as s t m ends = record { term = t; state = next_at m s; bindings = ends }

meets-row : (s : State) (n m : ℕ) (terms ends : List (Option Term)) (x : Operand Term) (t : Term)
    → Meets n terms x t m ends → met (next_at n s) terms x ≡ met_as s t m ends
meets-row s _ _ _ _ _ _ (has {n = n} {terms = terms} {x = Known u} {t = t} e) =
    ap (λ z. met_as s z n terms) (same_Some u t e)
meets-row s _ _ _ _ _ _ (has {x = Exists k} e) = rw e refl
meets-row s _ _ _ _ _ _ (met_first e) = rw e refl

-- two of them, one after the other
both-row : (s : State) {n m : ℕ} {terms between ends : List (Option Term)} {x y : Operand Term} {t u : Term}
    → Meets s.next_sym terms x t n between → Meets n between y u m ends
    → (met s terms x ≡ met_as s t n between) × (met (next_at n s) between y ≡ met_as s u m ends)
both-row s {n} {m} {terms} {between} {ends} {x} {y} {t} {u} one two =
    (meets-row s s.next_sym n terms between x t one, meets-row s n m between ends y u two)

abbrev pub met_fields_as : State → List (FieldId × Term) → ℕ → List (Option Term) → MetFields
met_fields_as s gs m ends = record { fields = gs; state = next_at m s; bindings = ends }

meets_all-row : (s : State) (n m : ℕ) (terms ends : List (Option Term))
    (fs gs : List (FieldId × Term))
    (ws : List (FieldId × Operand Term)) → MeetsAll n terms fs ws m ends gs
    → met_fields (next_at n s) terms ws fs ≡ met_fields_as s gs m ends
meets_all-row s _ _ _ _ _ _ _ all_met = refl
meets_all-row s _ _ _ _ _ _ _ (one_met one others) =
    rw (meets-row s _ _ _ _ _ _ one) (meets_all-row s _ _ _ _ _ _ _ others)

-- CHOICES
goes-row : (so : Bool) (s : State) (choice : Item) (branch rest : List Item)
    → Goes so s choice branch
    → branch_row so s (choice ∷ rest) ≡ Some ((s ⊢ branch ++ rest) ∷ [])
goes-row so s _ _ rest (command_goes decided) = rw decided refl
goes-row so s _ _ rest (assumed_goes terms decided) = rw (terms, decided) refl
goes-row so s _ _ rest (shown_goes terms decided) = rw (terms, decided) refl

-- NUMBERS
few-one : (n : ℕ) (xs : List Var) → nat_lt (length xs) TOO_MANY ≡ true
    → nat_lt (length (fresh_for n xs)) TOO_MANY ≡ true
few-one n xs few = rw (fresh-length n xs) few

few-both : (n m : ℕ) (xs ys : List Var) → nat_lt (length xs + length ys) TOO_MANY ≡ true
    → nat_lt (length (fresh_for n xs ++ fresh_for m ys)) TOO_MANY ≡ true
few-both n m xs ys few =
    rw (length-append (fresh_for n xs) (fresh_for m ys), fresh-length n xs, fresh-length m ys) few

-- EACH RULE
pub rule-row : (d : Setting) (s : State) (todo : List Item) (tag : Tag) (left : List Goal)
    → nat_lt (needed d s tag todo) TOO_MANY ≡ true → Rule d s todo tag left
    → row_of d (s ⊢ todo) tag ≡ Some left
rule-row d s _ _ _ few (rule.absurd_state e) = rw e refl
rule-row d s _ _ _ few (rule.drop there nothing) = rw (there, nothing-is _ nothing) refl
rule-row d s _ _ _ few (rule.force there spans differ elsewhere) =
    rw (there, spans-forced s _ _ _ _ spans (terms-differ _ _ differ) elsewhere) refl
rule-row d s _ _ _ few (rule.force_ends {t = t} there differ) =
    rw (there, ends-forced s _ t _ _ (terms-differ _ _ differ)) refl
rule-row d s _ _ _ few (rule.split differ one two) = rw (terms-differ _ _ differ, one, two) refl
rule-row d s _ _ _ few (rule.unroll_list there differ tl) = rw (there, differ, tl) refl
rule-row d s _ _ _ few (rule.unroll_tree there differ l r) = rw (there, differ, l, r) refl
rule-row d s _ _ _ few (rule.unroll_double there differ tl pv) = rw (there, differ, tl, pv) refl
rule-row d s _ _ _ few (rule.back there differ tl pv) = rw (there, differ, tl, pv) refl
rule-row d s _ _ _ few rule.assign = refl
rule-row d s _ _ _ few (rule.look {a = a} {fs = fs} there (known at)) =
    let found = atom-cell s.atoms a _ fs there in
    let kept = fields-same s.atoms a _ fs there in
    rw (found, at, kept) refl
rule-row d s _ _ _ few (rule.look {a = a} {fs = fs} there (missing at)) =
    let found = atom-cell s.atoms a _ fs there in rw (found, at, found) refl
rule-row d s _ _ _ few (rule.mutate {a = a} {fs = fs} there) =
    let found = atom-cell s.atoms a _ fs there in rw found refl
rule-row d s _ _ _ few rule.new = refl
rule-row d s _ _ _ few (rule.dispose {a = a} {fs = fs} there) =
    let found = atom-cell s.atoms a _ fs there in rw found refl
rule-row d s _ _ _ few (rule.then {rest = rest} goes) = goes-row true s _ _ rest goes
rule-row d s _ _ _ few (rule.else {rest = rest} goes) = goes-row false s _ _ rest goes
rule-row d s _ _ _ few rule.loop = refl
rule-row d s _ _ _ few rule.around = rw few refl
rule-row d s _ _ _ few rule.again = refl
rule-row d s _ _ _ few (rule.call {c = c} there) =
    let fewer = few-one s.next_sym (changed d.sets c) few in rw (there, fewer) refl
rule-row d s _ _ _ few (rule.fork {c = c} {e = e} there also_there) =
    let fewer = few-both s.next_sym (s.next_sym + length (fresh_for s.next_sym (changed d.sets c)))
    (changed d.sets c) (changed d.sets e) few in
    rw (there, also_there, fewer) refl
rule-row d s _ _ _ few (rule.enter there) = rw (there, (rw there at few)) refl
rule-row d s _ _ _ few (rule.exit there) = rw there refl
rule-row d s _ _ _ few rule.return = refl
rule-row d s _ _ _ few rule.give = refl
rule-row d s _ _ _ few (rule.end none) = rw none refl
rule-row d s _ _ _ few rule.add_true = refl
rule-row d s _ _ _ few (rule.add_equal one two) = let both = both-row s one two in rw (both.0, both.1) refl
rule-row d s _ _ _ few (rule.add_differ one two) = let both = both-row s one two in rw (both.0, both.1) refl
rule-row d s _ _ _ few
    (rule.add_cell {x = x} {t = t} {fs = fs} {gs = gs} {terms = terms} {between = between}
    {ends = ends} {n = n} {m = m} one all) =
    let first : met s terms x ≡ met_as s t n between =
    meets-row s s.next_sym n terms between x t one in
    let others = meets_all-row s n m between ends [] gs fs all in
    rw (few, first, others) refl
rule-row d s _ _ _ few (rule.add_list one two) = let both = both-row s one two in rw (both.0, both.1) refl
rule-row d s _ _ _ few
    (rule.add_double {x = x} {b = b} {l = l} {y = y} {t = t} {r = r} {m = m} {u = u} {terms = terms}
    {one = one} {two = two} {three = three} {ends = ends} {i = i} {j = j} {k = k} {n = n} from before
    last to) =
    let first : met s terms x ≡ met_as s t i one = meets-row s s.next_sym i terms one x t from in
    let second = meets-row s i j one two b r before in
    let third = meets-row s j k two three l m last in
    let fourth = meets-row s k n three ends y u to in
    rw (first, second, third, fourth) refl
rule-row d s _ _ _ few (rule.add_tree {x = x} {t = t} {terms = terms} {ends = ends} {n = n} one) =
    let first : met s terms x ≡ met_as s t n ends = meets-row s s.next_sym n terms ends x t one in
    rw first refl
rule-row d s _ _ _ few (rule.bind none other) = rw (none, other) refl
rule-row d s _ _ _ few (rule.bind_too {x = Known u} {t = t} other none) =
    let e : u ≡ t = same_Some u t other in rw (none, sym e) refl
rule-row d s _ _ _ few (rule.bind_too {x = Exists j} other none) = rw (other, none) refl
rule-row d s _ _ _ few (rule.same {t = t} one two) = rw (one, two, term-self t) refl
rule-row d s _ _ _ few (rule.apart one two differ) = rw (one, two, differ) refl
rule-row d s _ _ _ few
    (rule.cell {a = a} {fs = fs} {gs = gs} {others = ws} {terms = terms} {ends = ends}
    {n = n} one there fits) =
    let found = atom-cell s.atoms a _ fs there in
    let all = fits-row s.next_sym n fs gs terms ends ws fits in
    rw (few, one, found, all) refl
rule-row d s _ _ _ few (rule.empty (list_wanted {t = t} one two) no_list) =
    rw (one, two, term-self t) refl
rule-row d s _ _ _ few (rule.empty (double_wanted {t = t} {r = r} one two three four) no_double) =
    rw (one, two, three, four, term-self t, term-self r) refl
rule-row d s _ _ _ few (rule.empty (tree_wanted one) no_tree) = rw one refl
rule-row d s _ _ _ few (rule.exact (list_wanted {t = t} {u = u} one two) there) =
    rw (one, two, there, term-self t, term-self u) refl
rule-row d s _ _ _ few
    (rule.exact (double_wanted {t = t} {r = r} {m = m} {u = u} one two three four) there) =
    rw (one, two, three, four, there, term-self t, term-self r, term-self m, term-self u) refl
rule-row d s _ _ _ few (rule.exact (tree_wanted {t = t} one) there) =
    rw (one, there, term-self t) refl
rule-row d s _ _ _ few
    (rule.head {a = a} {next = f} {v = v} {fs = fs} {gs = gs} {terms = terms}
    {n = n} one two there differ field) =
    let found = atom-cell s.atoms a _ fs there in
    let linked = field-row s.next_sym n fs gs f v terms field in
    rw (one, two, differ, found, linked) refl
rule-row d s _ _ _ few (rule.join {t = t} one two there elsewhere) =
    rw (one, two, there, term-self t, elsewhere) refl
rule-row d s _ _ _ few
    (rule.head_double {a = a} {next = f} {r = r} {v = v} {fs = fs} {gs = gs} {terms = terms}
    {n = n} (double_wanted one two three four) there differ back field) =
    let found = atom-cell s.atoms a _ fs there in
    let linked = field-row s.next_sym n fs gs f v terms field in
    rw (one, two, three, four, differ, found, back, term-self r, linked) refl
rule-row d s _ _ _ few
    (rule.join_double {t = t} {r = r} (double_wanted one two three four) there elsewhere) =
    rw (one, two, three, four, there, term-self t, term-self r, elsewhere) refl
rule-row d s _ _ _ few
    (rule.node {a = a} {left = l} {right = r} {v = v} {w = w} {fs = fs} {gs = gs} {hs = hs}
    {terms = terms} {n = n} {m = m} one there field field_too) =
    let found = atom-cell s.atoms a _ fs there in
    let linked = field-row s.next_sym n fs gs l v terms field in
    let linked_too = field-row n m gs hs r w terms field_too in
    rw (one, found, linked, linked_too) refl

pub leaves-row : (d : Setting) (g : Goal) (tag : Tag) (left : List Goal) → Leaves d g tag left
    → row d g tag ≡ Some left
leaves-row d g tag left l =
    rw l.numbers
    (rule-row d g.state g.todo tag left
    ((Decides-ltb (needed d g.state tag g.todo) TOO_MANY).1 l.few) l.rule)
