-- Changes of what existentials stand for, one after the other.
use Rattle.std.proofs.Common.{◌≡◌, ◌<◌, ◌≤◌, ℕ, ◌==◌, Bool, true, false, cond, Option, Some, None, List, [], ◌∷◌, ◌++◌, length, set, get_or, refl, sym, ap, ◌∙◌, subst}
use Rattle.std.proofs.lemmas.Bool.Decides.{Decides-eqb}
use Rattle.std.proofs.lemmas.Grind.{get_or-set_at}
use Rattle.std.proofs.lemmas.List.{get_or-set_other, get_or_past, length-set}
use Rattle.sf_sym.specs.declared.term.Term.{Term}
use Rattle.sf_consume.specs.Checked.Fits.{after_changes, latest}

-- one more change at the end
pub after_more : (xs : List (ℕ × Term)) (n : ℕ) (t : Term) (bindings : List (Option Term))
    → after_changes (xs ++ (n, t) ∷ []) bindings ≡ set (after_changes xs bindings) n (Some t)
after_more [] n t bindings = refl
after_more (x ∷ xs) n t bindings = after_more xs n t (set bindings x.0 (Some x.1))

-- a change by its number
pub set-at : (bindings : List (Option Term)) (m n : ℕ) (t : Term) (b : Bool) → m == n ≡ b → n < length bindings
    → get_or (set bindings m (Some t)) n None ≡ cond b (Some t) (get_or bindings n None)
set-at bindings m n t true e within =
    get_or-set_at bindings m n (Some t) None (sym ((Decides-eqb m n).0 e)) (subst (λ k. k < length bindings)
    (sym ((Decides-eqb m n).0 e)) within)
set-at bindings m n t false e within =
    get_or-set_other bindings m n (Some t) None (λ same. let other : m == n ≡ true = (Decides-eqb m n).1 (sym same) in absurd (cc))

-- what an existential stands for after changes is what its last change says
pub latest_is : (xs : List (ℕ × Term)) (n : ℕ) (bindings : List (Option Term)) → n < length bindings
    → get_or (after_changes xs bindings) n None ≡ latest xs n (get_or bindings n None)
latest_is [] n bindings within = refl
latest_is (x ∷ xs) n bindings within =
    latest_is xs n (set bindings x.0 (Some x.1))
    (subst (λ k. n < k) (sym (length-set bindings x.0 (Some x.1))) within)
    ∙ ap (latest xs n) (set-at bindings x.0 n x.1 (x.0 == n) refl within)

-- there is none of a greater number
pub none_past_end : (xs : List (ℕ × Term)) (n : ℕ) (bindings : List (Option Term)) → length bindings ≤ n
    → get_or (after_changes xs bindings) n None ≡ None
none_past_end [] n bindings e = get_or_past bindings n None e
none_past_end (x ∷ xs) n bindings e =
    none_past_end xs n (set bindings x.0 (Some x.1))
    (subst (λ k. k ≤ n) (sym (length-set bindings x.0 (Some x.1))) e)
