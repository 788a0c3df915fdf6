-- The first of faults is one of them, and none of them is earlier; a file has a program or a first fault.
use Rattle.std.proofs.Common.{◌≡◌, ◌⊎◌, inl, inr, ◌&&◌, ◌||◌, ◌==◌, ℕ, Bool, true, false, nat_lt, List, [], ◌∷◌, ◌++◌, Option, Some, None, refl, sym, ◌∙◌, ap, subst, arith}
use Rattle.std.proofs.lemmas.Bool.Decides.{nat_tests}
use Rattle.sf_base.specs.First.{IsFirstAmong, IsFirstOf}
use Rattle.sf_base.proofs.First.{IsOrder, first-contained, first-exists, first-first, first-kept, first-nothing, first-replaced, first-single, first-unique}
use Rattle.sf_ast.specs.Surface.{Item}
use Rattle.sf_core.specs.Program.Syntax.{Program}
use Rattle.sf_elab.specs.declared.fault.Fault.{Fault}
use Rattle.sf_elab.specs.declared.fault.NameFault.{NameFault}
use Rattle.sf_elab.specs.Files.Elaborated.{elaborated, faults, Elaborates, FirstFault}
use Rattle.sf_elab.specs.Files.Faults.{place_of, kind_of, is_earlier, named_fault}
use Rattle.sf_elab.specs.Checked.Laws.{EachFileIsOne, FirstIsFirst}

-- the order of three numbers
abbrev by_numbers : (l c k m d j : ℕ) → Bool
by_numbers l c k m d j = (nat_lt l m || ((l == m) && nat_lt c d)) || (((l == m) && (c == d)) && nat_lt k j)

not_back : (l c k m d j : ℕ) → by_numbers l c k m d j ≡ true → by_numbers m d j l c k ≡ false
not_back l c k m d j p = grind (arith, nat_tests)

before_others : (l c k m d j n e i : ℕ) → by_numbers l c k m d j ≡ true → by_numbers n e i m d j ≡ false
    → by_numbers l c k n e i ≡ true
before_others l c k m d j n e i p q = grind (arith, nat_tests)

-- faults come in an order
pub in_order : IsOrder is_earlier
in_order = record {
  asymmetric = λ a b p. not_back (place_of a).line (place_of a).column (kind_of a) (place_of b).line
      (place_of b).column (kind_of b) p;
  before_others = λ a b c p q. before_others (place_of a).line (place_of a).column (kind_of a) (place_of b).line
      (place_of b).column (kind_of b) (place_of c).line (place_of c).column (kind_of c) p q;
}

-- the first of faults is one of them, and none is earlier
pub first_among : FirstIsFirst
first_among all fault f =
    (first-contained is_earlier all fault f, λ other m. first-first is_earlier in_order all fault other f m)

-- a file has a program or a first fault
one_or_other : (bytes : List ℕ) (is : List Item)
    → ((p : Program) × Elaborates bytes is p) ⊎ ((e : NameFault) × FirstFault bytes is e)
one_or_other bytes is = go (first-exists is_earlier in_order (faults bytes is))
  where
    go : (found : Option Fault) × IsFirstOf is_earlier (faults bytes is) found
        → ((p : Program) × Elaborates bytes is p) ⊎ ((e : NameFault) × FirstFault bytes is e)
    go (None, f) = inl (elaborated bytes is, record { sound = f; same = refl })
    go (Some fault, f) = inr (named_fault bytes fault, record { fault = fault; first = f; named = refl })

-- and not both
pub never_both : (bytes : List ℕ) (is : List Item) (p : Program) (e : NameFault) → Elaborates bytes is p
    → FirstFault bytes is e → ⊥
never_both bytes is p e h f =
    first-nothing is_earlier f.fault (subst (λ all. IsFirstAmong is_earlier all f.fault) h.sound f.first)

-- it has one first fault at most
pub same_faults : (bytes : List ℕ) (is : List Item) (e g : NameFault) → FirstFault bytes is e
    → FirstFault bytes is g → e ≡ g
same_faults bytes is e g f h =
    f.named ∙ ap (named_fault bytes) (first-unique is_earlier (faults bytes is) f.fault h.fault f.first h.first)
    ∙ sym h.named

pub each_file_is_one : EachFileIsOne
each_file_is_one = record {
  some = one_or_other;
  not_both = never_both;
  one_program = λ bytes is p q f g. f.same ∙ sym g.same;
  one_fault = λ bytes is e g f h. same_faults bytes is e g f h;
}

-- one more fault, after those of which the first is known
pub earlier_found : (found : Option Fault) (first fault result : Fault) → found ≡ Some first
    → ((is_earlier fault first ≡ true) × (result ≡ fault)) ⊎ ((is_earlier fault first ≡ false) × (result ≡ first))
    → (before : List Fault) → IsFirstOf is_earlier before found → IsFirstAmong is_earlier (before ++ fault ∷ []) result
earlier_found found first fault result s (inl h) before f =
    subst (IsFirstAmong is_earlier (before ++ fault ∷ [])) (sym h.1)
    (first-replaced is_earlier in_order before first fault (subst (IsFirstOf is_earlier before) s f) h.0)
earlier_found found first fault result s (inr h) before f =
    subst (IsFirstAmong is_earlier (before ++ fault ∷ [])) (sym h.1)
    (first-kept is_earlier before first fault (subst (IsFirstOf is_earlier before) s f) h.0)

-- the first fault alone
pub earlier_alone : (found : Option Fault) (fault : Fault) → found ≡ None
    → (before : List Fault) → IsFirstOf is_earlier before found → IsFirstAmong is_earlier (before ++ fault ∷ []) fault
earlier_alone found fault s before f =
    subst (λ (fs : List Fault). IsFirstAmong is_earlier (fs ++ fault ∷ []) fault)
    (sym (subst (IsFirstOf is_earlier before) s f)) (first-single is_earlier fault)
