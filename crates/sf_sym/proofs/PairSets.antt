-- A list of pairs and the set of them: what is listed in either order, and one pair more.
use Rattle.std.proofs.Common.{◌≡◌, Bool, true, false, ◌&&◌, ◌||◌, if◌then◌else◌, List, [], ◌∷◌, ◌++◌, refl, sym, ap, ap₂, ◌∙◌}
use Rattle.std.specs.List.{list_any}
use Rattle.std.proofs.lemmas.List.Folds.{list_any-append}
use Rattle.sf_base.proofs.Bools.{and-left, and-right}
use Rattle.sf_sym.specs.declared.term.Term.{Term}
use Rattle.sf_sym.specs.Tests.{is_pair, same_term}
use Rattle.sf_sym.specs.Checked.Lemmas.{same_term_is}
use Rattle.sf_sym.specs.Checked.Sets.{AreSame, is_ordered}
use Rattle.sf_sym.proofs.SameTerms.{derived, same_turned}
use Rattle.sf_sym.specs.contracts.term.TermPartialEq.TheImpl.{eq-value}

-- the pair by the derived equality, as the set compares
abbrev pub is_key : Term → Term → Term × Term → Bool
is_key t u p = eq-value.it t p.0 && eq-value.it u p.1

key : (t u : Term) (p : Term × Term) → is_key t u p ≡ is_ordered t u p
key t u p = ap₂ (λ a b. a && b) (derived t p.0 ∙ same_turned t p.0) (derived u p.1 ∙ same_turned u p.1)

keys : (t u : Term) (ps : List (Term × Term)) → list_any (is_key t u) ps ≡ list_any (is_ordered t u) ps
keys t u [] = refl
keys t u (p ∷ ps) = ap₂ (λ a b. a || b) (key t u p) (keys t u ps)

two-orders : (t u : Term) (ps : List (Term × Term))
    → (list_any (is_ordered t u) ps || list_any (is_ordered u t) ps) ≡ list_any (is_pair t u) ps
two-orders t u [] = refl
two-orders t u (p ∷ ps) =
    turn (is_ordered t u p) (list_any (is_ordered t u) ps) (is_ordered u t p) (list_any (is_ordered u t) ps)
    ∙ ap (λ b. (is_ordered t u p || is_ordered u t p) || b) (two-orders t u ps)
  where
    turn : (a b c d : Bool) → ((a || b) || (c || d)) ≡ ((a || c) || (b || d))
    turn true b c d = refl
    turn false true true d = refl
    turn false true false d = refl
    turn false false true d = refl
    turn false false false d = refl

-- what the set has in either order the list has
pub listed : (t u : Term) (list set : List (Term × Term)) → AreSame list set
    → (list_any (is_key t u) set || list_any (is_key u t) set) ≡ list_any (is_pair t u) list
listed t u list set same =
    ap₂ (λ a b. a || b) (keys t u set ∙ same t u) (keys u t set ∙ same u t) ∙ two-orders t u list

-- a pair that is there needn't come again
again : (t u a b : Term) (ps : List (Term × Term)) → list_any (is_ordered t u) ps ≡ true
    → list_any (is_ordered a b) ps ≡ (list_any (is_ordered a b) ps || (is_ordered a b (t, u) || false))
again t u a b ps e = go (is_ordered a b (t, u)) refl
  where
    shorter : (x : Bool) → x ≡ (x || (false || false))
    shorter true = refl
    shorter false = refl

    go : (c : Bool) → is_ordered a b (t, u) ≡ c
        → list_any (is_ordered a b) ps ≡ (list_any (is_ordered a b) ps || (c || false))
    go true f =
        let one = same_term_is t a (and-left (same_term t a) (same_term u b) f) in
        let two = same_term_is u b (and-right (same_term t a) (same_term u b) f) in
        let there : list_any (is_ordered a b) ps ≡ true =
        ap₂ (λ x y. list_any (is_ordered x y) ps) (sym one) (sym two) ∙ e in
        there ∙ sym (ap (λ x. x || (true || false)) there)
    go false f = shorter (list_any (is_ordered a b) ps)

-- one pair more in both
pub same-more : (t u : Term) (list set : List (Term × Term)) → AreSame list set
    → AreSame (list ++ (t, u) ∷ []) (if list_any (is_key t u) set then set else set ++ (t, u) ∷ [])
same-more t u list set same a b = go (list_any (is_key t u) set) refl ∙ sym (list_any-append (is_ordered a b) list ((t, u) ∷ []))
  where
    go : (c : Bool) → list_any (is_key t u) set ≡ c
        → list_any (is_ordered a b) (if c then set else set ++ (t, u) ∷ [])
        ≡ (list_any (is_ordered a b) list || (is_ordered a b (t, u) || false))
    go true e = same a b ∙ again t u a b list (sym (same t u) ∙ sym (keys t u set) ∙ e)
    go false e =
        list_any-append (is_ordered a b) set ((t, u) ∷ [])
        ∙ ap (λ x. x || (is_ordered a b (t, u) || false)) (same a b)

-- a pair put into the set is one less to put
pub one-put : (t u : Term) (list set rest : List (Term × Term)) → AreSame list (set ++ (t, u) ∷ rest)
    → AreSame list ((if list_any (is_key t u) set then set else set ++ (t, u) ∷ []) ++ rest)
one-put t u list set rest same a b =
    list_any-append (is_ordered a b) (if list_any (is_key t u) set then set else set ++ (t, u) ∷ []) rest
    ∙ ap (λ x. x || list_any (is_ordered a b) rest)
    (same-more t u set set (λ c d. refl) a b ∙ list_any-append (is_ordered a b) set ((t, u) ∷ []))
    ∙ shift (list_any (is_ordered a b) set) (is_ordered a b (t, u)) (list_any (is_ordered a b) rest)
    ∙ sym (list_any-append (is_ordered a b) set ((t, u) ∷ rest))
    ∙ same a b
  where
    shift : (x y z : Bool) → ((x || (y || false)) || z) ≡ (x || (y || z))
    shift true y z = refl
    shift false true z = refl
    shift false false z = refl

-- once all are in the set it is that of the list
pub all-put : (list set rest : List (Term × Term)) → rest ≡ [] → AreSame list (set ++ rest) → AreSame list set
all-put list set rest e same a b =
    sym (shorter (list_any (is_ordered a b) set))
    ∙ sym (list_any-append (is_ordered a b) set [])
    ∙ ap (λ xs. list_any (is_ordered a b) (set ++ xs)) (sym e)
    ∙ same a b
  where
    shorter : (x : Bool) → (x || false) ≡ x
    shorter true = refl
    shorter false = refl

-- whether a pair of one term is among them, once there is one more
pub reflexive-more : (r c : Bool) (ps : List (Term × Term)) (t u : Term)
    → r ≡ list_any (λ p. same_term p.0 p.1) ps → c ≡ same_term t u
    → (r || c) ≡ list_any (λ p. same_term p.0 p.1) (ps ++ (t, u) ∷ [])
reflexive-more r c ps t u e f =
    ap₂ (λ x y. x || y) e f ∙ shorter (list_any (λ p. same_term p.0 p.1) ps) (same_term t u)
    ∙ sym (list_any-append (λ p. same_term p.0 p.1) ps ((t, u) ∷ []))
  where
    shorter : (x y : Bool) → (x || y) ≡ (x || (y || false))
    shorter true y = refl
    shorter false true = refl
    shorter false false = refl
