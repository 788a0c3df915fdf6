-- The names of a program that has names: they are spelled so that they are read back, and stand at their numbers.
-- Names: `spelled-LAW`, `differ-LAW`, `placed-LAW`.
use Rattle.std.proofs.Common.{◌≡◌, ◌+◌, ◌++◌, ◌==◌, ◌&&◌, ◌||◌, ℕ, suc, Bool, true, false, cond, not, nat_lt, List, [], ◌∷◌, length, map, Contains, Some, None, refl, ap, ap₂, sym, ◌∙◌, arith, subst, append_assoc, codes, slice_get, inl, inr}
use Rattle.std.specs.List.{flat_map, list_all, position_or_len}
use Rattle.std.specs.Str.{bytes_eq}
use Rattle.std.proofs.lemmas.Bool.{and_parts, false≢true, lt-ltb}
use Rattle.std.proofs.lemmas.Bool.Decides.{nat_tests}
use Rattle.std.proofs.lemmas.List.{length-append}
use Rattle.std.proofs.lemmas.List.Elements.{Contains-append_cases}
use Rattle.std.proofs.lemmas.List.Folds.{list_all-append}
use Rattle.std.proofs.lemmas.Option.{same_Some}
use Rattle.sf_base.proofs.Elements.{contains-cons, contains-nil, contains-rest}
use Rattle.sf_base.proofs.Equality.{bytes_eq-same, bytes_eq-self}
use Rattle.sf_base.proofs.Members.{contains-flat_map_from, contains-map, contains-map_from}
use Rattle.sf_base.proofs.Prefixes.{prefix-more, prefix-none}
use Rattle.sf_lex.specs.Lexeme.{is_word_byte}
use Rattle.sf_lex.specs.Whole.{is_name}
use Rattle.sf_lines.specs.Checked.Lemmas.Tokens.{name-bytes, name-plain}
use Rattle.sf_lines.specs.Checked.Lemmas.Written.{IsPlain, all-append, all-more, plain-append, split-sign}
use Rattle.sf_lines.specs.Lines.{Text, split_once}
use Rattle.sf_core.specs.Program.Syntax.{Procedure, Program, Resource}
use Rattle.sf_state.specs.Names.{are_names, is_target, names_of, names_of_resource, parameters, place_of, qualified}
use Rattle.sf_state.specs.Words.{begins}
use Rattle.sf_state.specs.Checked.Written.{AreNames, HasNames}
use Rattle.sf_state.proofs.WrittenLines.{ArePlaced, IsSpelled}

word-other : (b : ℕ) → is_word_byte b ≡ true → ((b == 35) ≡ false) × ((b == 64) ≡ false)
word-other b e = (grind (arith, nat_tests), grind (arith, nat_tests))

word-sign : (b : ℕ) → is_word_byte b ≡ true → (not (b == 61)) ≡ true
word-sign b e = grind (arith, nat_tests)

word-dot : (b : ℕ) → is_word_byte b ≡ true → (not (b == 46)) ≡ true
word-dot b e = grind (arith, nat_tests)

-- what a name has: visible bytes, none of them a sign
record HasForm (name : Text) : Type 0 where
  plain : IsPlain name
  no_sign : list_all (λ b. not (b == 61)) name ≡ true
  no_dot : list_all (λ b. not (b == 46)) name ≡ true
  no_comment : begins 35 name ≡ false
  no_cell : begins 64 name ≡ false

name-form : (name : Text) → is_name name ≡ true → HasForm name
name-form [] h = absurd cc
name-form (b ∷ bs) h =
    let each = name-bytes (b ∷ bs) h in
    let first = word-other b (and_parts (is_word_byte b) (list_all is_word_byte bs) each).0 in
    record {
      plain = name-plain (b ∷ bs) h;
      no_sign = all-more is_word_byte (λ c. not (c == 61)) word-sign (b ∷ bs) each;
      no_dot = all-more is_word_byte (λ c. not (c == 46)) word-dot (b ∷ bs) each;
      no_comment = first.0;
      no_cell = first.1;
    }

-- a name is spelled as a field's name and as a variable's
spelled-field : (name : Text) → is_name name ≡ true → IsSpelled is_name name
spelled-field name h = let f = name-form name h in record {
  plain = f.plain;
  formed = h;
  no_sign = f.no_sign;
  no_comment = f.no_comment;
  no_cell = f.no_cell;
}

spelled-own : (name : Text) → is_name name ≡ true → IsSpelled is_target name
spelled-own name h = let f = name-form name h in record {
  plain = f.plain;
  formed = ap (λ b. b || are_names (split_once 46 name)) h;
  no_sign = f.no_sign;
  no_comment = f.no_comment;
  no_cell = f.no_cell;
}

-- the parts of a name with a dot
parts-qualified : (r v : Text) → is_name r ≡ true → split_once 46 (qualified r v) ≡ Some (r, v)
parts-qualified r v h = ap (split_once 46) (append_assoc r (codes ".") v) ∙ split-sign 46 r v (name-form r h).no_dot

or-true : (a : Bool) → a || true ≡ true
or-true true = refl
or-true false = refl

begins-append : (b : ℕ) (r rest : Text) → IsPlain r → begins b r ≡ false → begins b (r ++ rest) ≡ false
begins-append b [] rest p h = let wrong = p.some in absurd cc
begins-append b (x ∷ r) rest p h = h

spelled-qualified : (r v : Text) → is_name r ≡ true → is_name v ≡ true → IsSpelled is_target (qualified r v)
spelled-qualified r v h k =
    let f = name-form r h in
    let g = name-form v k in
    record {
      plain = plain-append (r ++ codes ".") v (plain-append r (codes ".") f.plain refl) g.plain.visible;
      formed = ap (λ o. is_name (qualified r v) || are_names o) (parts-qualified r v h)
          ∙ ap₂ (λ a b. is_name (qualified r v) || (a && b)) h k ∙ or-true (is_name (qualified r v));
      no_sign = all-append (λ b. not (b == 61)) (r ++ codes ".") v
          (all-append (λ b. not (b == 61)) r (codes ".") f.no_sign refl) g.no_sign;
      no_comment = begins-append 35 (r ++ codes ".") v (plain-append r (codes ".") f.plain refl)
          (begins-append 35 r (codes ".") f.plain f.no_comment);
      no_cell = begins-append 64 (r ++ codes ".") v (plain-append r (codes ".") f.plain refl)
          (begins-append 64 r (codes ".") f.plain f.no_cell);
    }

-- no two of these are one
abbrev Differ : List Text → Type 0
Differ [] = Unit {0}
Differ (x ∷ xs) = (Contains xs x → ⊥) × Differ xs

contains-place : {X : Type 0} (xs : List X) (x : X) → Contains xs x → (k : ℕ) × (slice_get xs k ≡ Some x)
contains-place [] x c = absurd (contains-nil x c)
contains-place (y ∷ xs) x c = elim ((contains-cons y xs x).0 c) [
  | inl e ↦ (0, ap Some e)
  | inr d ↦ let h = contains-place xs x d in (suc h.0, h.1)
]

differ-names : (names : List Text) → AreNames names → Differ names
differ-names [] a = tt
differ-names (x ∷ xs) a = (
  λ c. let h = contains-place xs x c in let wrong : 0 ≡ suc h.0 = a.differ 0 (suc h.0) x refl h.1 in absurd (omega arith),
  differ-names xs (record {
    named = λ k name e. a.named (suc k) name e;
    differ = λ j k name e f. let same : suc j ≡ suc k = a.differ (suc j) (suc k) name e f in omega arith;
  }),
)

differ-append : (xs ys : List Text) → Differ xs → Differ ys → ((x : Text) → Contains xs x → Contains ys x → ⊥)
    → Differ (xs ++ ys)
differ-append [] ys d e apart = e
differ-append (x ∷ xs) ys d e apart = (
  λ c. elim (Contains-append_cases xs ys x c) [
    | inl k ↦ d.0 k
    | inr k ↦ apart x ((contains-cons x xs x).1 (inl refl)) k
  ],
  differ-append xs ys d.1 e (λ y i j. apart y (contains-rest x xs y i) j),
)

-- a name among names is one
named-of : (names : List Text) → AreNames names → (name : Text) → Contains names name → is_name name ≡ true
named-of names a name c = let h = contains-place names name c in a.named h.0 name h.1

same-parts : (r v s w : Text) → is_name r ≡ true → is_name s ≡ true → qualified r v ≡ qualified s w → (r ≡ s) × (v ≡ w)
same-parts r v s w h k e =
    let same : (r, v) ≡ (s, w) =
    same_Some (r, v) (s, w) (sym (parts-qualified r v h) ∙ ap (split_once 46) e ∙ parts-qualified s w k) in
    (ap (λ (x : Text × Text). x.0) same, ap (λ (x : Text × Text). x.1) same)

differ-qualified : (r : Text) → is_name r ≡ true → (vs : List Text) → Differ vs → Differ (map (qualified r) vs)
differ-qualified r h [] d = tt
differ-qualified r h (v ∷ vs) d = (
  λ c. let m = contains-map_from (qualified r) vs (qualified r v) c in
      d.0 (subst (Contains vs) (same-parts r m.0 r v h h m.2).1 m.1),
  differ-qualified r h vs d.1,
)

-- names of resources and their variables, all of which are names
record AreResources (rs : List Resource) : Type 0 where
  named : (r : Resource) → Contains rs r → is_name r.name ≡ true
  differ : Differ (map (λ r. r.name) rs)
  variables : (r : Resource) → Contains rs r → AreNames r.variables

resources-rest : (r : Resource) (rs : List Resource) → AreResources (r ∷ rs) → AreResources rs
resources-rest r rs a = record {
  named = λ s c. a.named s (contains-rest r rs s c);
  differ = a.differ.1;
  variables = λ s c. a.variables s (contains-rest r rs s c);
}

differ-resources : (rs : List Resource) → AreResources rs → Differ (flat_map names_of_resource rs)
differ-resources [] a = tt
differ-resources (r ∷ rs) a =
    let here : Contains (r ∷ rs) r = (contains-cons r rs r).1 (inl refl) in
    differ-append (names_of_resource r) (flat_map names_of_resource rs)
    (differ-qualified r.name (a.named r here) r.variables (differ-names r.variables (a.variables r here)))
    (differ-resources rs (resources-rest r rs a)) apart
  where
    apart : (x : Text) → Contains (map (qualified r.name) r.variables) x
        → Contains (flat_map names_of_resource rs) x → ⊥
    apart x c d =
        let m = contains-map_from (qualified r.name) r.variables x c in
        let f = contains-flat_map_from names_of_resource rs x d in
        let n = contains-map_from (qualified f.0.name) f.0.variables x f.2 in
        let same = same-parts r.name m.0 f.0.name n.0 (a.named r ((contains-cons r rs r).1 (inl refl)))
        (a.named f.0 (contains-rest r rs f.0 f.1)) (m.2 ∙ sym n.2) in
        a.differ.0 (subst (Contains (map (λ (s : Resource). s.name) rs)) (sym same.0)
        (contains-map (λ (s : Resource). s.name) rs f.0 f.1))

spelled-resources : (rs : List Resource) → AreResources rs → (x : Text) → Contains (flat_map names_of_resource rs) x
    → IsSpelled is_target x
spelled-resources rs a x d =
    let f = contains-flat_map_from names_of_resource rs x d in
    let n = contains-map_from (qualified f.0.name) f.0.variables x f.2 in
    subst (IsSpelled is_target) n.2 (spelled-qualified f.0.name n.0 (a.named f.0 f.1)
    (named-of f.0.variables (a.variables f.0 f.1) n.0 n.1))

has_dot : (r v : Text) → list_all (λ b. not (b == 46)) (qualified r v) ≡ false
has_dot r v = list_all-append (λ b. not (b == 46)) (r ++ codes ".") v
    ∙ ap (λ b. b && list_all (λ b. not (b == 46)) v)
    (list_all-append (λ b. not (b == 46)) r (codes ".") ∙ and-false (list_all (λ b. not (b == 46)) r))
  where
    and-false : (a : Bool) → a && false ≡ false
    and-false true = refl
    and-false false = refl

-- names that differ stand at their numbers
placed-from : (form : Text → Bool) (all before names : List Text) → all ≡ before ++ names
    → ((x : Text) → Contains before x → Contains names x → ⊥) → Differ names
    → ((x : Text) → Contains names x → IsSpelled form x) → ArePlaced form all (length before) names
placed-from form all before [] e apart d s = tt
placed-from form all before (x ∷ names) e apart d s = (
  s x ((contains-cons x names x).1 (inl refl)),
  ap (λ xs. place_of xs x) e ∙ place before (λ c. apart x c ((contains-cons x names x).1 (inl refl))),
  subst (λ n. ArePlaced form all n names) (size before)
      (placed-from form all (before ++ x ∷ []) names (e ∙ sym (append_assoc before (x ∷ []) names))
      (λ y i j. elim (Contains-append_cases before (x ∷ []) y i) [
        | inl k ↦ apart y k (contains-rest x names y j)
        | inr k ↦ elim ((contains-cons x [] y).0 k) [
          | inl same ↦ d.0 (subst (Contains names) (sym same) j)
          | inr c ↦ contains-nil y c
        ]
      ]) d.1 (λ y c. s y (contains-rest x names y c))),
)
  where
    size : (bs : List Text) → length (bs ++ x ∷ []) ≡ suc (length bs)
    size bs = let n : length (bs ++ x ∷ []) ≡ length bs + length (x ∷ []) = length-append bs (x ∷ []) in
        omega (arith, n)

    first : (bs : List Text) → (Contains bs x → ⊥) → position_or_len (λ n. bytes_eq n x) (bs ++ x ∷ names) ≡ length bs
    first [] out = prefix-none (λ n. not (bytes_eq n x)) x names (ap not (bytes_eq-self x))
    first (b ∷ bs) out = prefix-more (λ n. not (bytes_eq n x)) b (bs ++ x ∷ names) (ap not (other (bytes_eq b x) refl))
        ∙ ap suc (first bs (λ c. out (contains-rest b bs x c)))
      where
        other : (t : Bool) → bytes_eq b x ≡ t → bytes_eq b x ≡ false
        other false f = f
        other true f = absurd (out ((contains-cons b bs x).1 (inl (bytes_eq-same b x f))))

    place : (bs : List Text) → (Contains bs x → ⊥) → place_of (bs ++ x ∷ names) x ≡ Some (length bs)
    place bs out =
        let n = first bs out in
        let longer : length (bs ++ x ∷ names) ≡ length bs + length (x ∷ names) = length-append bs (x ∷ names) in
        let within : nat_lt (length bs) (length (bs ++ x ∷ names)) ≡ true =
        lt-ltb (length bs) (length (bs ++ x ∷ names)) (omega arith) in
        ap (λ k. cond (nat_lt k (length (bs ++ x ∷ names))) (Some k) None) n
        ∙ ap (λ b. cond b (Some (length bs)) None) within

-- the names of fields, and of all variables
pub placed-fields : (p : Program) → HasNames p → ArePlaced is_name p.fields 0 p.fields
placed-fields p h = placed-from is_name p.fields [] p.fields refl (λ x c d. contains-nil x c)
    (differ-names p.fields h.fields) (λ x c. spelled-field x (named-of p.fields h.fields x c))

pub placed-names : (p : Program) (k : ℕ) (g : Procedure) → HasNames p → slice_get p.procedures k ≡ Some g
    → ArePlaced is_target (names_of p g) 0 (names_of p g)
placed-names p k g h there = placed-from is_target (names_of p g) [] (names_of p g) refl (λ x c d. contains-nil x c)
    (differ-append (parameters g) (flat_map names_of_resource p.resources) (differ-names (parameters g) own)
    (differ-resources p.resources resources) apart) spelled
  where
    own : AreNames (parameters g)
    own = h.own k g there

    resources : AreResources p.resources
    resources = record {
      named = λ r c. named-of (map (λ (s : Resource). s.name) p.resources) h.resources r.name
          (contains-map (λ (s : Resource). s.name) p.resources r c);
      differ = differ-names (map (λ (s : Resource). s.name) p.resources) h.resources;
      variables = λ r c. let at = contains-place p.resources r c in h.variables at.0 r at.1;
    }

    apart : (x : Text) → Contains (parameters g) x → Contains (flat_map names_of_resource p.resources) x → ⊥
    apart x c d =
        let f = contains-flat_map_from names_of_resource p.resources x d in
        let n = contains-map_from (qualified f.0.name) f.0.variables x f.2 in
        false≢true (sym (has_dot f.0.name n.0) ∙ ap (list_all (λ b. not (b == 46))) n.2
        ∙ (name-form x (named-of (parameters g) own x c)).no_dot)

    spelled : (x : Text) → Contains (names_of p g) x → IsSpelled is_target x
    spelled x c = elim (Contains-append_cases (parameters g) (flat_map names_of_resource p.resources) x c) [
      | inl k ↦ spelled-own x (named-of (parameters g) own x k)
      | inr d ↦ spelled-resources p.resources resources x d
    ]
