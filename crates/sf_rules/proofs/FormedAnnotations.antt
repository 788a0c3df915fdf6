-- Well-formed assertions may stand in goals: their existentials are their own and counted, their segments and trees
-- go along the program's links, and no existential is made twice. So may annotations in their order.
-- Names: `PART-formed` of conjuncts, `may-stand`, `annotation-fits`.
use Rattle.std.specs.List.{AllByRecursion, IsDistinct, list_any}
use Rattle.std.specs.Prelude.{All, ◌≢◌, ◌==◌, ◌<◌, ◌≤◌, ◌||◌, ◌&&◌, Contains, length, nat_le, nat_lt, replicate}
use Rattle.std.specs.Str.{bytes_eq}
use Rattle.std.proofs.Common.{◌≡◌, ℕ, zero, suc, ◌+◌, Bool, true, false, cond, get_or, map, Option, Some, None, List, [], ◌∷◌, refl, sym, ap, ap₂, ◌∙◌, subst, inl, inr, arith}
use Rattle.std.proofs.lemmas.Bool.{or_cases}
use Rattle.std.proofs.lemmas.Bool.Decides.{Decides-eqb, nat_tests}
use Rattle.std.proofs.lemmas.List.{length-map, length-replicate}
use Rattle.std.proofs.lemmas.List.Elements.{All-contains, All-head, All-tail}
use Rattle.std.proofs.lemmas.Map.Keys.{IsDistinct-head, IsDistinct-tail}
use Rattle.std.proofs.lemmas.Map.Steps.{length-le_from_distinct_below}
use Rattle.std.proofs.lemmas.Option.{none-some, same_Some}
use Rattle.sf_base.proofs.Elements.{contains-cons}
use Rattle.sf_base.proofs.Equality.{bytes_eq-same, bytes_eq-self}
use Rattle.sf_base.proofs.Lists.{replicate-default}
use Rattle.sf_base.specs.declared.ids.FieldId.{FieldId}
use Rattle.sf_base.specs.declared.ids.Var.{Var}
use Rattle.sf_base.specs.declared.limits.TheConstants.{FIELDS}
use Rattle.sf_core.specs.Assertions.Scopes.{is_made_by, overlap}
use Rattle.sf_core.specs.declared.assertion.Operand.{Operand}
use Rattle.sf_core.specs.declared.assertion.Operand.TheVariants.{Known, Exists}
use Rattle.sf_core.specs.declared.assertion.Scope.{Scope}
use Rattle.sf_core.specs.declared.assertion.Test.{Test}
use Rattle.sf_core.specs.declared.assertion.Test.TheVariants.{True, Equal, Differ}
use Rattle.sf_core.specs.declared.command.Expr.{Expr}
use Rattle.sf_core.specs.declared.fields.Links.{Links}
use Rattle.sf_core.specs.Program.Formed.{AssertionWithin, ConjunctWithin, ConjunctsWithin, FieldsWithin, LevelWithin, OperandWithin, TestWithin, conjunct_scopes, conjuncts_scopes, is_made, level_scopes}
use Rattle.sf_core.specs.Program.Links.{back_name, left_name, next_name, right_name}
use Rattle.sf_core.specs.Program.Named.{IsFirstNamed}
use Rattle.sf_core.specs.Program.Syntax.{Assertion, Conjunct, holds, points, segment, doubly, tree, choose, Conjuncts, none, also, Level, level, Program}
use Rattle.sf_precise.specs.Checked.Laws.{DeterminedHasOrder, NeverTakenIsUndetermined, UndeterminedHasPlace}
use Rattle.sf_precise.specs.Order.{IsOrderOf, IsOrdering}
use Rattle.sf_rules.specs.Checked.Lemmas.Existentials.{conjuncts-exist}
use Rattle.sf_rules.specs.Shape.{AnnotationFits, MayStand}
use Rattle.sf_rules.specs.Setting.{Setting}
use Rattle.sf_rules.specs.First.{links_of, number_of}
use Rattle.sf_sym.specs.Formed.{AllFormed, IsCounted, IsScoped, LevelFormed, OneFormed}
use Rattle.sf_sym.specs.declared.term.Term.{Term}
use Rattle.sf_sym.specs.Checked.Lemmas.Formed.{exists-with_all, scopes-with_all}
use Rattle.sf_sym.specs.Mapped.{conjunct_with, conjuncts_with, level_with, operand_with, test_with}
use Rattle.sf_sym.specs.Pending.{conjuncts_of}

-- THE FIELD OF A NAME
number-named : (names : List (List ℕ)) (name : List ℕ) (from k : ℕ) → IsFirstNamed names name (Some k)
    → number_of names name from ≡ Some (record { 0 = from + k })
number-named [] name from k h = absurd (none-some name h.0)
number-named (x ∷ xs) name from zero h =
    ap (λ b. cond b (Some (record { 0 = from })) (number_of xs name (suc from)))
    (subst (λ z. bytes_eq x z ≡ true) (same_Some x name h.0) (bytes_eq-self x))
    ∙ ap (λ n. Some (record { 0 = n })) (let z : from ≡ from + 0 = omega arith in z)
number-named (x ∷ xs) name from (suc k) h =
    go (bytes_eq x name) refl (number-named xs name (suc from) k (h.0, λ j l. h.1 (suc j) (omega (arith, l))))
  where
    go : (b : Bool) → bytes_eq x name ≡ b → number_of xs name (suc from) ≡ Some (record { 0 = suc from + k })
        → cond b (Some (record { 0 = from })) (number_of xs name (suc from)) ≡ Some (record { 0 = from + suc k })
    go true e r = absurd (h.1 0 (omega arith) (ap Some (bytes_eq-same x name e)))
    go false e r = r ∙ ap (λ n. Some (record { 0 = n })) (let z : suc from + k ≡ from + suc k = omega arith in z)

field-named : (names : List (List ℕ)) (name : List ℕ) (f : FieldId) → IsFirstNamed names name (Some f.0)
    → number_of names name 0 ≡ Some f
field-named names name f h =
    number-named names name 0 f.0 h ∙ ap (λ n. Some (record { 0 = n })) (let z : 0 + f.0 ≡ f.0 = omega arith in z)

-- FIELDS OF A CELL, each at most once, are no more than there are
fields-distinct : (fields : List (List ℕ)) (P : Operand Expr → Type 0) (fs : List (FieldId × Operand Expr))
    → FieldsWithin fields P fs → IsDistinct ◌==◌ (map (λ (f : FieldId × Operand Expr). f.0.0) fs)
unfolding IsDistinct
fields-distinct fields P [] w = tt
fields-distinct fields P (f ∷ fs) w = (others fs w.2, fields-distinct fields P fs w.3)
  where
    others : (gs : List (FieldId × Operand Expr)) → All (λ (g : FieldId × Operand Expr). g.0.0 ≢ f.0.0) gs
        → AllByRecursion (λ k. f.0.0 == k ≡ false) (map (λ (f : FieldId × Operand Expr). f.0.0) gs)
    others [] a = tt
    others (g ∷ gs) a = (
      go (f.0.0 == g.0.0) refl,
      others gs (All-tail (λ (g : FieldId × Operand Expr). g.0.0 ≢ f.0.0) g gs a),
    )
      where
        go : (b : Bool) → f.0.0 == g.0.0 ≡ b → f.0.0 == g.0.0 ≡ false
        go true e = absurd (All-head (λ (g : FieldId × Operand Expr). g.0.0 ≢ f.0.0) g gs a
            (sym ((Decides-eqb f.0.0 g.0.0).0 e)))
        go false e = e

fields-within : (fields : List (List ℕ)) (P : Operand Expr → Type 0) (fs : List (FieldId × Operand Expr)) (k : ℕ)
    → FieldsWithin fields P fs
    → list_any (◌==◌ k) (map (λ (f : FieldId × Operand Expr). f.0.0) fs) ≡ true
    → k < length fields
fields-within fields P [] k w e = absurd (cc)
fields-within fields P (f ∷ fs) k w e =
    elim (or_cases (k == f.0.0) (list_any (◌==◌ k) (map (λ (f : FieldId × Operand Expr). f.0.0) fs)) e) [
      | inl here ↦ subst (λ i. i < length fields) (sym ((Decides-eqb k f.0.0).0 here)) w.0
      | inr there ↦ fields-within fields P fs k w.3 there
    ]

fields-few : (fields : List (List ℕ)) (P : Operand Expr → Type 0) (fs : List (FieldId × Operand Expr))
    → FieldsWithin fields P fs → length fs ≤ length fields
fields-few fields P fs w =
    subst (λ k. k ≤ length fields) (length-map fs (λ (f : FieldId × Operand Expr). f.0.0))
    (length-le_from_distinct_below (map (λ (f : FieldId × Operand Expr). f.0.0) fs) (length fields)
    (fields-distinct fields P fs w) (λ k e. fields-within fields P fs k w e))

-- SCOPES that come after others are among all
mutual
  level-more : {E : Type 0} (a : Level E) (rest : List Scope) (s : Scope) → Contains rest s
      → Contains (level_scopes a rest) s
  level-more (level here cs) rest s c =
      (contains-cons here (conjuncts_scopes cs rest) s).1 (inr (conjuncts-more cs rest s c))

  conjuncts-more : {E : Type 0} (cs : Conjuncts E) (rest : List Scope) (s : Scope) → Contains rest s
      → Contains (conjuncts_scopes cs rest) s
  conjuncts-more none rest s c = c
  conjuncts-more (also d ds) rest s c = conjunct-more d (conjuncts_scopes ds rest) s (conjuncts-more ds rest s c)

  conjunct-more : {E : Type 0} (d : Conjunct E) (rest : List Scope) (s : Scope) → Contains rest s
      → Contains (conjunct_scopes d rest) s
  conjunct-more (holds q t) rest s c = c
  conjunct-more (points q x fs) rest s c = c
  conjunct-more (segment q next x y) rest s c = c
  conjunct-more (doubly q next back x b l y) rest s c = c
  conjunct-more (tree q left right x) rest s c = c
  conjunct-more (choose q t this that) rest s c =
      level-more this (level_scopes that rest) s (level-more that rest s c)

-- CONJUNCTS THAT MAY STAND IN A GOAL
module _ (fields : List (List ℕ)) (V : Var → Type 0) (to : Expr → Term) (links : Links) (count : ℕ)
    (next_is : (f : FieldId) → IsFirstNamed fields next_name (Some f.0) → links.tl ≡ Some f)
    (back_is : (f : FieldId) → IsFirstNamed fields back_name (Some f.0) → links.pv ≡ Some f)
    (left_is : (f : FieldId) → IsFirstNamed fields left_name (Some f.0) → links.l ≡ Some f)
    (right_is : (f : FieldId) → IsFirstNamed fields right_name (Some f.0) → links.r ≡ Some f)
    (few : length fields ≤ FIELDS) where
  -- all existentials that these scopes make are counted
  abbrev Counts : List Scope → Type 0
  Counts made = (n : ℕ) → is_made made n ≡ true → n < count

  abbrev Within : List Scope → Type 0
  Within scopes = (s : Scope) → Contains scopes s → s.first + s.count ≤ count

  counts-more : (here : Scope) (made : List Scope) → here.first + here.count ≤ count → Counts made
      → Counts (here ∷ made)
  counts-more here made h c n e = elim (or_cases (is_made_by here n) (is_made made n) e) [
    | inl i ↦ within here n h i
    | inr i ↦ c n i
  ]
    where
      within : (s : Scope) (n : ℕ) → s.first + s.count ≤ count
          → nat_le s.first n && nat_lt n (s.first + s.count) ≡ true
          → n < count
      within s n h i = grind (arith, nat_tests)

  operand-counted : (made : List Scope) (x : Operand Expr) → Counts made → OperandWithin V made x
      → IsCounted count (operand_with to x)
  operand-counted made (Known e) c w = tt
  operand-counted made (Exists n) c w = c n w

  test-counted : (made : List Scope) (t : Test (Operand Expr)) → Counts made → TestWithin (OperandWithin V made) t
      → TestWithin (IsCounted count) (test_with to t)
  test-counted made True c w = tt
  test-counted made (Equal x y) c w = (operand-counted made x c w.0, operand-counted made y c w.1)
  test-counted made (Differ x y) c w = (operand-counted made x c w.0, operand-counted made y c w.1)

  fields-counted : (made : List Scope) (fs : List (FieldId × Operand Expr)) → Counts made
      → FieldsWithin fields (OperandWithin V made) fs
      → AllByRecursion (λ (f : FieldId × Operand Term). IsCounted count f.1) (map (λ f.
      (f.0, operand_with to f.1)) fs)
  fields-counted made [] c w = tt
  fields-counted made (f ∷ fs) c w = (operand-counted made f.1 c w.1, fields-counted made fs c w.3)

  mutual
    level-formed : (made : List Scope) (a : Level Expr) (rest : List Scope) → Counts made
        → Within (level_scopes a rest) → LevelWithin fields V made a → LevelFormed links count (level_with to a)
    level-formed made (level here cs) rest c h w =
        conjuncts-formed (here ∷ made) cs rest
        (counts-more here made (h here ((contains-cons here (conjuncts_scopes cs rest) here).1 (inl refl))) c)
        (λ s i. h s ((contains-cons here (conjuncts_scopes cs rest) s).1 (inr i))) w

    conjuncts-formed : (made : List Scope) (cs : Conjuncts Expr) (rest : List Scope) → Counts made
        → Within (conjuncts_scopes cs rest) → ConjunctsWithin fields V made cs
        → AllFormed links count (conjuncts_with to cs)
    conjuncts-formed made none rest c h w = tt
    conjuncts-formed made (also d ds) rest c h w = (
      conjunct-formed made d (conjuncts_scopes ds rest) c h w.0,
      conjuncts-formed made ds rest c (λ s i. h s (conjunct-more d (conjuncts_scopes ds rest) s i)) w.1,
    )

    conjunct-formed : (made : List Scope) (d : Conjunct Expr) (rest : List Scope) → Counts made
        → Within (conjunct_scopes d rest) → ConjunctWithin fields V made d
        → OneFormed links count (conjunct_with to d)
    conjunct-formed made (holds q t) rest c h w = test-counted made t c w
    conjunct-formed made (points q x fs) rest c h w = (
      operand-counted made x c w.0,
      fields-counted made fs c w.1,
      subst (λ n. n ≤ FIELDS) (sym (length-map fs (λ (f : FieldId × Operand Expr). (f.0, operand_with to f.1))))
          (let most = fields-few fields (OperandWithin V made) fs w.1 in omega (arith, most, few)),
    )
    conjunct-formed made (segment q next x y) rest c h w =
        (next_is next w.0, operand-counted made x c w.1, operand-counted made y c w.2)
    conjunct-formed made (doubly q next back x b l y) rest c h w = (
      next_is next w.0,
      back_is back w.1,
      operand-counted made x c w.2,
      operand-counted made b c w.3,
      operand-counted made l c w.4,
      operand-counted made y c w.5,
    )
    conjunct-formed made (tree q left right x) rest c h w =
        (left_is left w.0, right_is right w.1, operand-counted made x c w.2)
    conjunct-formed made (choose q t this that) rest c h w = (
      test-counted made t c w.0,
      level-formed made this (level_scopes that rest) c h w.1,
      level-formed made that rest c (λ s i. h s (level-more this (level_scopes that rest) s i)) w.2,
    )

-- two scopes that don't overlap make no existential both
apart-one : (s t : Scope) (n : ℕ) → overlap s t ≡ false → is_made_by s n ≡ true → is_made_by t n ≡ false
apart-one s t n e i = grind (arith, nat_tests)

apart-all : (s : Scope) (ss : List Scope) (n : ℕ) → AllByRecursion (λ t. overlap s t ≡ false) ss
    → is_made_by s n ≡ true → is_made ss n ≡ false
apart-all s [] n a i = refl
apart-all s (t ∷ ts) n a i =
    ap₂ ◌||◌ (apart-one s t n a.0 i) (apart-all s ts n a.1 i)

-- A WELL-FORMED ASSERTION
abbrev no_term : Option Term
no_term = None

module _ (p : Program) (few : length p.fields ≤ FIELDS) (V : Var → Type 0) (a : Assertion)
    (w : AssertionWithin p.fields V a) where
  -- none of its existentials has a term
  abbrev unbound : List (Option Term)
  unbound = replicate (length a.names) None

  bindings-none : (n : ℕ) (t : Term) → get_or unbound n None ≡ Some t → ⊥
  bindings-none n t e = none-some t (sym (replicate-default None (length a.names) n) ∙ e)

  module _ (to : Expr → Term) where
    scoped-level : (l : Level Expr) → LevelWithin p.fields V [] l → IsDistinct overlap (level_scopes l [])
        → IsScoped (record { conjuncts = conjuncts_with to (conjuncts_of l); bindings = unbound })
    scoped-level (level here cs) within distinct =
        let same = scopes-with_all to cs [] in
        record {
          distinct = subst (IsDistinct overlap) (sym same) (IsDistinct-tail overlap here
              (conjuncts_scopes cs []) distinct);
          occurring = λ n o.
              ap (λ ss. is_made ss n) same
              ∙ apart-all here (conjuncts_scopes cs []) n
              (IsDistinct-head overlap here (conjuncts_scopes cs []) distinct)
              (elim (or_cases (is_made_by here n) (is_made [] n)
              (conjuncts-exist p.fields V n (here ∷ []) cs within (exists-with_all to n cs o)))
              [ inl i ↦ i | inr i ↦ absurd (cc) ]);
          bound = λ n t e. absurd (bindings-none n t e);
        }

    formed-level : (l : Level Expr) → LevelWithin p.fields V [] l
        → ((s : Scope) → Contains (level_scopes l []) s → s.first + s.count ≤ length a.names)
        → AllFormed (links_of p) (length unbound)
        (conjuncts_with to (conjuncts_of l))
    formed-level (level here cs) within named =
        level-formed p.fields V to (links_of p) (length unbound)
        (λ f i. field-named p.fields next_name f i) (λ f i. field-named p.fields back_name f i)
        (λ f i. field-named p.fields left_name f i)
        (λ f i. field-named p.fields right_name f i) few [] (level here cs) [] (λ n e. absurd (cc))
        (λ s i. subst (λ k. s.first + s.count ≤ k) (sym (length-replicate (length a.names) no_term))
        (named s i)) within

  -- it may stand in a goal, whatever the terms of its expressions are
  pub may-stand : MayStand (links_of p) a
  may-stand to = (
    formed-level to a.level w.annotation.within
        (λ s i. All-contains (λ (s : Scope). s.first + s.count ≤ length a.names)
        (level_scopes a.level []) s w.named i),
    scoped-level to a.level w.annotation.within w.annotation.disjoint,
  )

-- an annotation that is well formed, and is so in its order, fits
pub annotation-fits : UndeterminedHasPlace → NeverTakenIsUndetermined → DeterminedHasOrder → (d : Setting)
    → IsOrdering d.ordered → length d.program.fields ≤ FIELDS → (V : Var → Type 0) (a : Assertion)
    → AssertionWithin d.program.fields V a
    → ((o : Assertion) → IsOrderOf a o → AssertionWithin d.program.fields V o) → AnnotationFits d a
annotation-fits decided never has d ordering few V a w keeps = elim (decided a.level) [
  | inl determined ↦
      let o = has a.level determined in
      let ordered : Assertion = record { names = a.names; level = o.0 } in
      let order : IsOrderOf a ordered = record { names = refl; level = o.1 } in
      subst (MayStand (links_of d.program)) (sym (ordering.ordered a ordered order))
      (may-stand d.program few V ordered (keeps ordered order))
  | inr q ↦
      subst (MayStand (links_of d.program)) (sym (ordering.kept a (never a.level q.0 q.1)))
      (may-stand d.program few V a w)
]
