-- Tables: what is found among names that were declared.
use Rattle.std.proofs.Common.{◌≡◌, ◌⊎◌, inl, inr, ◌≤◌, ◌<◌, ◌+◌, ◌||◌, ℕ, Bool, true, false, cond, List, [], ◌∷◌, ◌++◌, length, Option, Some, None, is_some, refl, sym, ◌∙◌, ap, subst, arith}
use Rattle.std.proofs.lemmas.Bool.{or_right}
use Rattle.std.specs.Option.{option_or}
use Rattle.std.specs.Str.{bytes_eq}
use Rattle.sf_base.proofs.Equality.{bytes_eq-same, bytes_eq-self}
use Rattle.sf_ast.specs.declared.word.Word.{Word}
use Rattle.sf_elab.specs.Names.Declarations.{numbered}
use Rattle.sf_elab.specs.Names.Table.{Table, find, has, declare}
use Rattle.sf_elab.specs.Names.Texts.{text}

find_pushed : {A : Type 0} (name n : List ℕ) (a : A) (t : Table A) → find name (t ++ (n, a) ∷ []) ≡ option_or (find name t) (cond (bytes_eq name n) (Some a) None)
find_pushed {A} name n a [] = refl
find_pushed {A} name n a (e ∷ t) = go (bytes_eq name e.0) (find_pushed name n a t)
  where
    more : Option A
    more = cond (bytes_eq name n) (Some a) None

    go : (b : Bool) → find name (t ++ (n, a) ∷ []) ≡ option_or (find name t) more → cond b (Some e.1) (find name (t ++ (n, a) ∷ [])) ≡ option_or (cond b (Some e.1) (find name t)) more
    go true rest = refl
    go false rest = rest

-- what a name stands for once one more is declared: what it stood for, and else the new one where it is that name
pub find_declared : {A : Type 0} (name n : List ℕ) (a : A) (t : Table A) → find name (declare n a t) ≡ option_or (find name t) (cond (bytes_eq name n) (Some a) None)
find_declared {A} name n a t = go (has n t) refl
  where
    there : has n t ≡ true → (o : Option A) (b : Bool) → find name t ≡ o → bytes_eq name n ≡ b → o ≡ option_or o (cond b (Some a) None)
    there h (Some v) b e q = refl
    there h None false e q = refl
    there h None true e q = let own : has name t ≡ true = subst (λ m. has m t ≡ true) (sym (bytes_eq-same name n q)) h in absurd (cc (ap is_some e))

    go : (c : Bool) → has n t ≡ c → find name (cond c t (t ++ (n, a) ∷ [])) ≡ option_or (find name t) (cond (bytes_eq name n) (Some a) None)
    go true h = there h (find name t) (bytes_eq name n) refl refl
    go false h = find_pushed name n a t

pub found_declared : {A : Type 0} (name n : List ℕ) (a : A) (t : Table A) (v : A) → find name (declare n a t) ≡ Some v → (find name t ≡ Some v) ⊎ ((name ≡ n) × (a ≡ v))
found_declared {A} name n a t v h = go (find name t) (bytes_eq name n) refl refl (sym (find_declared name n a t) ∙ h)
  where
    go : (o : Option A) (b : Bool) → find name t ≡ o → bytes_eq name n ≡ b → option_or o (cond b (Some a) None) ≡ Some v → (find name t ≡ Some v) ⊎ ((name ≡ n) × (a ≡ v))
    go (Some x) b e q k = inl (e ∙ k)
    go None true e q k = inr (bytes_eq-same name n q, cc)
    go None false e q k = absurd cc

-- what was found is found, and what has a name keeps it
pub found_still : {A : Type 0} (name n : List ℕ) (a : A) (t : Table A) (v : A) → find name t ≡ Some v → find name (declare n a t) ≡ Some v
found_still name n a t v h = find_declared name n a t ∙ ap (λ o. option_or o (cond (bytes_eq name n) (Some a) None)) h

pub has_declared : {A : Type 0} (name n : List ℕ) (a : A) (t : Table A) → has name (declare n a t) ≡ (has name t || bytes_eq name n)
has_declared {A} name n a t = ap is_some (find_declared name n a t) ∙ go (find name t) (bytes_eq name n)
  where
    go : (o : Option A) (b : Bool) → is_some (option_or o (cond b (Some a) None)) ≡ (is_some o || b)
    go (Some x) b = refl
    go None true = refl
    go None false = refl

pub kept_declared : {A : Type 0} (name n : List ℕ) (a : A) (t : Table A) → has name t ≡ true → has name (declare n a t) ≡ true
kept_declared name n a t h = has_declared name n a t ∙ ap (λ b. b || bytes_eq name n) h

pub there_declared : {A : Type 0} (n : List ℕ) (a : A) (t : Table A) → has n (declare n a t) ≡ true
there_declared n a t = has_declared n n a t ∙ or_right (has n t) (bytes_eq n n) (bytes_eq-self n)

-- each name stands for something of that kind
abbrev pub Finds : {A : Type 0} → (List ℕ → A → Type 0) → Table A → Type 0
Finds {A} P t = (name : List ℕ) (a : A) → find name t ≡ Some a → P name a

pub finds_none : {A : Type 0} (P : List ℕ → A → Type 0) → Finds P []
finds_none P name a h = absurd cc

pub finds_declared : {A : Type 0} (P : List ℕ → A → Type 0) (n : List ℕ) (a : A) (t : Table A) → P n a → Finds P t → Finds P (declare n a t)
finds_declared P n a t p f name v h = elim (found_declared name n a t v h) [
  | inl e ↦ f name v e
  | inr e ↦ subst (λ m. P m v) (sym e.0) (subst (P n) e.1 p)
]

-- so do names that are declared one after the other
pub finds_numbered : {A : Type 0} (P : List ℕ → A → Type 0) (bytes : List ℕ) (stands : ℕ → A) (k : ℕ) (ws : List Word) (t : Table A)
    → ((name : List ℕ) (i : ℕ) → k ≤ i → i < k + length ws → P name (stands i)) → Finds P t → Finds P (numbered bytes stands k ws t)
finds_numbered P bytes stands k [] t p f = f
finds_numbered P bytes stands k (w ∷ ws) t p f =
    finds_numbered P bytes stands (k + 1) ws (declare (text bytes w) (stands k) t) (λ name i l m. p name i (omega arith) (omega arith))
    (finds_declared P (text bytes w) (stands k) t (p (text bytes w) k (omega arith) (omega arith)) f)
