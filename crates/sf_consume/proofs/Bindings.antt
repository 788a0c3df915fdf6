-- Which existentials have no term yet, and which term one gets.
-- Names: `unbound-LAW` of an operand that is an existential without a term, `binds-LAW` of an equality that gives it one.
use Rattle.std.specs.Option.{option_and_then, option_map}
use Rattle.std.specs.Prelude.{◌⊎◌}
use Rattle.std.proofs.Common.{◌≡◌, ℕ, cond, List, Option, Some, None, get_or, is_some, refl, ap, ◌∙◌, subst, inl, inr}
use Rattle.std.proofs.lemmas.Option.{same_Some}
use Rattle.sf_core.specs.declared.assertion.Operand.{Operand}
use Rattle.sf_core.specs.declared.assertion.Operand.TheVariants.{Known, Exists}
use Rattle.sf_consume.specs.Subtract.{binding, first_of, one_binding, unbound}
use Rattle.sf_sym.specs.Decided.{term_of}
use Rattle.sf_sym.specs.declared.term.Term.{Term}

-- an operand that is an existential without a term
pub unbound-is : (bindings : List (Option Term)) (x : Operand Term) (n : ℕ) → unbound bindings x ≡ Some n
    → (x ≡ Exists n) × (get_or bindings n None ≡ None)
unbound-is bindings (Known t) n e = absurd (cc)
unbound-is bindings (Exists m) n e = go (get_or bindings m None) refl e
  where
    go : (o : Option Term) → get_or bindings m None ≡ o → cond (is_some o) None (Some m) ≡ Some n
        → ◌≡◌ {A = Operand Term} (Exists m) (Exists n) × (get_or bindings n None ≡ None)
    go (Some t) i e = absurd (cc)
    go None i e =
        let same : m ≡ n = same_Some m n e in (ap Exists same, subst (λ k. get_or bindings k None ≡ None) same i)

-- an existential without a term, and what it gets: the term of the other operand
pub record Binds (bindings : List (Option Term)) (x y : Operand Term) (n : ℕ) (t : Term) : Type 0 where
  pub is : x ≡ Exists n
  pub free : get_or bindings n None ≡ None
  pub term : term_of bindings y ≡ Some t

pub binds-one : (bindings : List (Option Term)) (x y : Operand Term) (b : ℕ × Term)
    → one_binding bindings x y ≡ Some b → Binds bindings x y b.0 b.1
binds-one bindings x y b e = go (unbound bindings x) (term_of bindings y) refl refl e
  where
    go : (o : Option ℕ) (p : Option Term) → unbound bindings x ≡ o → term_of bindings y ≡ p
        → option_and_then (λ n. option_map (λ t. (n, t)) p) o ≡ Some b → Binds bindings x y b.0 b.1
    go None p i j e = absurd (cc)
    go (Some n) None i j e = absurd (cc)
    go (Some n) (Some t) i j e =
        let same = same_Some (n, t) b e in
        let free = unbound-is bindings x n i in
        subst (λ z. Binds bindings x y z.0 z.1) same (record { is = free.0; free = free.1; term = j })

-- one side of an equality binds the other
pub binds-either : (bindings : List (Option Term)) (x y : Operand Term) (b : ℕ × Term)
    → binding bindings x y ≡ Some b → Binds bindings x y b.0 b.1 ⊎ Binds bindings y x b.0 b.1
binds-either bindings x y b e = go (one_binding bindings x y) refl e
  where
    go : (o : Option (ℕ × Term)) → one_binding bindings x y ≡ o
        → first_of o (one_binding bindings y x) ≡ Some b
        → Binds bindings x y b.0 b.1 ⊎ Binds bindings y x b.0 b.1
    go (Some a) i e = inl (binds-one bindings x y b (i ∙ e))
    go None i e = inr (binds-one bindings y x b e)
