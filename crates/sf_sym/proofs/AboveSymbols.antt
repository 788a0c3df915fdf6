-- Numbers above the symbols of conjuncts, and what replacing a symbol does that isn't below such a number: nothing.
-- Names: `same-PART` of parts in which each term stays as it is, `above-LAW` of larger numbers.
use Rattle.std.specs.List.{AllByRecursion}
use Rattle.std.specs.Option.{option_map}
use Rattle.std.specs.Prelude.{◌⊎◌}
use Rattle.std.proofs.Common.{◌≡◌, ◌≢◌, ℕ, zero, suc, ◌≤◌, ◌==◌, Bool, true, false, cond, Option, Some, None, List, [], ◌∷◌, ◌++◌, map, get_or, length, set, Vec, Global, refl, sym, ap, ap₂, ◌∙◌, subst, inl, inr, arith}
use Rattle.std.proofs.lemmas.Bool.Decides.{Decides-eqb, nat_tests}
use Rattle.std.proofs.lemmas.List.{get_or-set_other}
use Rattle.sf_base.specs.declared.ids.FieldId.{FieldId}
use Rattle.sf_base.specs.declared.place.Place.{Place}
use Rattle.sf_core.specs.Assertions.Occurs.{OccursIn, OccursInAll, OccursInFields, OccursInOne, OccursInTest}
use Rattle.sf_core.specs.declared.assertion.Conjunct.{Conjunct as CodeConjunct, Points}
use Rattle.sf_core.specs.declared.assertion.Level.{Level as CodeLevel, out-Level}
use Rattle.sf_core.specs.declared.assertion.Operand.{Operand}
use Rattle.sf_core.specs.declared.assertion.Operand.TheVariants.{Known, Exists}
use Rattle.sf_core.specs.declared.assertion.Test.{Test}
use Rattle.sf_core.specs.declared.assertion.Test.TheVariants.{True, Equal, Differ}
use Rattle.sf_core.specs.Program.Syntax.{Conjunct, holds, points, segment, doubly, tree, choose, Level, level, Conjuncts, none, also}
use Rattle.sf_core.specs.Program.View.{conjunct_of, conjuncts, level_of}
use Rattle.sf_sym.specs.declared.term.Term.{Term}
use Rattle.sf_sym.specs.declared.term.Term.TheVariants.{Nil, Int, Sym}
use Rattle.sf_sym.specs.Below.{IsBelow}
use Rattle.sf_sym.specs.Checked.Above.{BindingsBelow, ConjunctsBelow, OccurBelow}
use Rattle.sf_sym.specs.Checked.Lemmas.Below.{below-more}
use Rattle.sf_sym.specs.Checked.Lemmas.OtherTerms.{bindings-made, occurs-with}
use Rattle.sf_sym.specs.Equalities.{put_for}
use Rattle.sf_sym.proofs.Conjuncts.{conjunct_of-points, level_of-out}
use Rattle.sf_sym.specs.Mapped.{operand_with, test_with, level_with, conjuncts_with, conjunct_with}

-- a symbol that isn't below a number is no term that is
pub put-other : (n : ℕ) (by t : Term) → IsBelow n t → put_for n by t ≡ t
put-other n by Nil b = refl
put-other n by (Int i) b = refl
put-other n by (Sym m) b = go (m == n) refl
  where
    go : (c : Bool) → m == n ≡ c → cond c by (Sym m) ≡ Sym m
    go true e = let never : ⊥ = grind (arith, nat_tests) in absurd never
    go false e = refl

-- what is below a number is below a larger one
pub above-more : (m n : ℕ) (occurs : Operand Term → Type 0) → m ≤ n → OccurBelow m occurs → OccurBelow n occurs
above-more m n occurs h b t o = below-more m n h t (b t o)

pub above-all_more : (m n : ℕ) (cs : List (CodeConjunct Term)) → m ≤ n → ConjunctsBelow m cs → ConjunctsBelow n cs
above-all_more m n [] h b = tt
above-all_more m n (c ∷ cs) h b =
    (above-more m n (OccursInOne (conjunct_of {E = Term} c)) h b.0, above-all_more m n cs h b.1)

pub above-test : (n : ℕ) (x y : Operand Term) → OccurBelow n (λ z. z ≡ x) → OccurBelow n (λ z. z ≡ y)
    → (t : Term) → ((Known t ≡ x) ⊎ (Known t ≡ y)) → IsBelow n t
above-test n x y f g t (inl e) = f t e
above-test n x y f g t (inr e) = g t e

pub above-fields : (n : ℕ) (f : FieldId × Operand Term) (fs : List (FieldId × Operand Term)) (t : Term)
    → OccurBelow n (λ z. z ≡ f.1) → OccursInFields (f ∷ fs) (Known t)
    → IsBelow n t ⊎ OccursInFields fs (Known t)
above-fields n f fs t b (inl e) = inl (b t e)
above-fields n f fs t b (inr o) = inr o

pub above-bindings : (m n : ℕ) (first : Option Term) (left rest : List (Option Term)) (t : Term) → m ≤ n
    → left ≡ first ∷ rest → ((u : Term) → first ≡ Some u → IsBelow n u)
    → (IsBelow m t ⊎ ((k : ℕ) × (get_or left k None ≡ Some t)))
    → IsBelow n t ⊎ ((k : ℕ) × (get_or rest k None ≡ Some t))
above-bindings m n first left rest t h is b (inl g) = inl (below-more m n h t g)
above-bindings m n first left rest t h is b (inr (zero, e)) =
    inl (b t (sym (ap (λ xs. get_or xs 0 None) is) ∙ e))
above-bindings m n first left rest t h is b (inr (suc k, e)) =
    inr (k, sym (ap (λ xs. get_or xs (suc k) None) is) ∙ e)

-- of conjuncts, one after the other
pub above-push : (m n : ℕ) (cs : List (CodeConjunct Term)) (c : CodeConjunct Term) → m ≤ n
    → ConjunctsBelow m cs → OccurBelow n (OccursInOne (conjunct_of {E = Term} c)) → ConjunctsBelow n (cs ++ c ∷ [])
above-push m n [] c h b d = (d, tt)
above-push m n (x ∷ xs) c h b d =
    (above-more m n (OccursInOne (conjunct_of {E = Term} x)) h b.0, above-push m n xs c h b.1 d)

pub above-pushed : (m n : ℕ) (cs : List (CodeConjunct Term)) (c d : CodeConjunct Term) → c ≡ d → m ≤ n
    → ConjunctsBelow m cs → OccurBelow n (OccursInOne (conjunct_of {E = Term} c)) → ConjunctsBelow n (cs ++ d ∷ [])
above-pushed m n cs c d e h b o = subst (λ x. ConjunctsBelow n (cs ++ x ∷ [])) e (above-push m n cs c h b o)

pub above-append : (n : ℕ) (cs ds : List (CodeConjunct Term)) → ConjunctsBelow n cs → ConjunctsBelow n ds
    → ConjunctsBelow n (cs ++ ds)
above-append n [] ds b d = d
above-append n (c ∷ cs) ds b d = (b.0, above-append n cs ds b.1 d)

pub above-before : (n : ℕ) (cs ds : List (CodeConjunct Term)) → ConjunctsBelow n (cs ++ ds) → ConjunctsBelow n cs
above-before n [] ds b = tt
above-before n (c ∷ cs) ds b = (b.0, above-before n cs ds b.1)

pub above-popped : (n : ℕ) (cs ds es : List (CodeConjunct Term)) → cs ≡ ds ++ es → ConjunctsBelow n cs
    → ConjunctsBelow n ds
above-popped n cs ds es is b = above-before n ds es (subst (ConjunctsBelow n) is b)

pub above-one_more : (m n : ℕ) (cs ds : List (CodeConjunct Term)) (c : CodeConjunct Term) → ds ≡ cs ++ c ∷ []
    → m ≤ n → ConjunctsBelow m cs → OccurBelow n (OccursInOne (conjunct_of {E = Term} c)) → ConjunctsBelow n ds
above-one_more m n cs ds c is h b o = subst (ConjunctsBelow n) (sym is) (above-push m n cs c h b o)

-- of conjuncts with other terms in place of terms
pub above-replaced : (n : ℕ) (to : Term → Term) → ((t : Term) → IsBelow n t → IsBelow n (to t))
    → (cs ds : List (CodeConjunct Term))
    → map (conjunct_of {E = Term}) ds ≡ map (conjunct_with to) (map (conjunct_of {E = Term}) cs)
    → ConjunctsBelow n cs → ConjunctsBelow n ds
above-replaced n to keeps cs ds e b =
    subst (AllByRecursion (λ (c : Conjunct Term). OccurBelow n (OccursInOne c))) (sym e)
    (go (map (conjunct_of {E = Term}) cs) b)
  where
    one : (c : Conjunct Term) → OccurBelow n (OccursInOne c) → OccurBelow n (OccursInOne (conjunct_with to c))
    one c f t o =
        let (u, p, i) = occurs-with to t (also c none) (inl o) in
        subst (IsBelow n) (sym i) (keeps u (f u (just (Known u) p)))
      where
        just : (x : Operand Term) → (OccursInOne c x ⊎ ⊥) → OccursInOne c x
        just x (inl h) = h
        just x (inr h) = absurd h

    go : (xs : List (Conjunct Term)) → AllByRecursion (λ (c : Conjunct Term). OccurBelow n (OccursInOne c)) xs
        → AllByRecursion (λ (c : Conjunct Term). OccurBelow n (OccursInOne c)) (map (conjunct_with to) xs)
    go [] a = tt
    go (x ∷ xs) a = (one x a.0, go xs a.1)

pub above-put : (n symbol : ℕ) (by : Term) → IsBelow n by → (t : Term) → IsBelow n t → IsBelow n (put_for symbol by t)
above-put n symbol by b Nil h = refl
above-put n symbol by b (Int i) h = refl
above-put n symbol by b (Sym m) h = go (m == symbol)
  where
    go : (c : Bool) → IsBelow n (cond c by (Sym m))
    go true = b
    go false = h

-- of what existentials stand for
pub above-bindings_more : (m n latest : ℕ) (bs : List (Option Term)) → m ≤ n → BindingsBelow m latest bs
    → BindingsBelow n latest bs
above-bindings_more m n latest bs h b k t differ e = below-more m n h t (b k t differ e)

pub above-bindings_all : (m n latest : ℕ) (bs : List (Option Term)) → m ≤ n → BindingsBelow m latest bs
    → ((t : Term) → get_or bs latest None ≡ Some t → IsBelow n t)
    → (k : ℕ) (t : Term) → get_or bs k None ≡ Some t → IsBelow n t
above-bindings_all m n latest bs h b one k t e = go (k == latest) refl
  where
    go : (c : Bool) → k == latest ≡ c → IsBelow n t
    go true i =
        let same : k ≡ latest = (Decides-eqb k latest).0 i in
        one t (sym (ap (λ j. get_or bs j None) same) ∙ e)
    go false i =
        let differ : k ≢ latest =
        λ same. (let both : k == latest ≡ true = (Decides-eqb k latest).1 same in absurd (cc)) in
        below-more m n h t (b k t differ e)

pub above-bound : (m n latest at : ℕ) (bs : List (Option Term)) (o : Option Term) → m ≤ n → BindingsBelow m latest bs
    → ((t : Term) → get_or bs latest None ≡ Some t → IsBelow n t) → BindingsBelow n at (set bs at o)
above-bound m n latest at bs o h b one k t differ e =
    above-bindings_all m n latest bs h b one k t (sym (get_or-set_other bs at k o None differ) ∙ e)

pub above-bindings_with : (m n latest symbol : ℕ) (by : Term) (bs cs : List (Option Term)) → m ≤ n
    → BindingsBelow m latest bs → ((t : Term) → get_or bs latest None ≡ Some t → IsBelow n t) → IsBelow n by
    → cs ≡ map (option_map (put_for symbol by)) bs → BindingsBelow n latest cs
above-bindings_with m n latest symbol by bs cs h b one below is k t differ e =
    let (u, i, j) = bindings-made (put_for symbol by) bs k t (sym (ap (λ xs. get_or xs k None) is) ∙ e) in
    subst (IsBelow n) (sym j)
    (above-put n symbol by below u (above-bindings_all m n latest bs h b one k u i))

pub above-bindings_other : (n latest symbol : ℕ) (by : Term) (bs cs : List (Option Term)) → n ≤ symbol
    → BindingsBelow n latest bs → cs ≡ map (option_map (put_for symbol by)) bs → BindingsBelow n latest cs
above-bindings_other n latest symbol by bs cs h b is k t differ e =
    let (u, i, j) = bindings-made (put_for symbol by) bs k t (sym (ap (λ xs. get_or xs k None) is) ∙ e) in
    let below : IsBelow n u = b k u differ i in
    subst (IsBelow n) (sym (j ∙ put-other symbol by u (below-more n symbol h u below))) below

above-all : (n : ℕ) (cs : List (CodeConjunct Term)) → ConjunctsBelow n cs
    → OccurBelow n (OccursInAll (conjuncts (map (conjunct_of {E = Term}) cs)))
above-all n [] b t o = absurd o
above-all n (c ∷ cs) b t (inl o) = b.0 t o
above-all n (c ∷ cs) b t (inr o) = above-all n cs b.1 t o

pub above-level : (n : ℕ) (l : CodeLevel Term) (cs : List (CodeConjunct Term))
    → cs ≡ (out-Level Term l).conjuncts.items → ConjunctsBelow n cs → OccurBelow n (OccursIn (level_of {E = Term} l))
above-level n l cs is b t o =
    let list : List (CodeConjunct Term) = (out-Level Term l).conjuncts.items in
    let inside : OccursIn (level (out-Level Term l).made (conjuncts (map (conjunct_of {E = Term}) list))) (Known t)
    = subst (λ a. OccursIn a (Known t)) (level_of-out l) o in
    above-all n (out-Level Term l).conjuncts.items (subst (ConjunctsBelow n) is b) t inside.0

-- of a cell that is assumed or wanted
pub above-points : (n : ℕ) (c : CodeConjunct Term) (p : Place) (x : Operand Term)
    (v : Vec (FieldId × Operand Term) Global) → c ≡ Points p x v → OccurBelow n (λ z. z ≡ x)
    → OccurBelow n (OccursInFields v.items) → OccurBelow n (OccursInOne (conjunct_of {E = Term} c))
above-points n c p x v is f g =
    subst (λ d. OccurBelow n (OccursInOne d)) (sym (ap (conjunct_of {E = Term}) is ∙ conjunct_of-points p x v)) both
  where
    both : OccurBelow n (OccursInOne (points p x v.items))
    both t (inl e) = f t e
    both t (inr o) = g t o

-- Parts in which each term stays
module _ (to : Term → Term) where
  abbrev Stays : (Operand Term → Type 0) → Type 0
  Stays occurs = (t : Term) → occurs (Known t) → to t ≡ t

  same-operand : (x : Operand Term) → Stays (λ z. z ≡ x) → operand_with to x ≡ x
  same-operand (Known t) f = ap Known (f t refl)
  same-operand (Exists n) f = refl

  same-test : (t : Test (Operand Term)) → Stays (OccursInTest t) → test_with to t ≡ t
  same-test True f = refl
  same-test (Equal x y) f =
      ap₂ Equal (same-operand x (λ t e. f t (inl e))) (same-operand y (λ t e. f t (inr e)))
  same-test (Differ x y) f =
      ap₂ Differ (same-operand x (λ t e. f t (inl e))) (same-operand y (λ t e. f t (inr e)))

  same-fields : (fs : List (FieldId × Operand Term)) → Stays (OccursInFields fs)
      → map (λ f. (f.0, operand_with to f.1)) fs ≡ fs
  same-fields [] f = refl
  same-fields (g ∷ gs) f =
      ap₂ (λ y ys. (g.0, y) ∷ ys) (same-operand g.1 (λ t e. f t (inl e))) (same-fields gs (λ t o. f t (inr o)))

  mutual
    same-level : (a : Level Term) → Stays (OccursIn a) → level_with to a ≡ a
    same-level (level made cs) f = ap (level made) (same-all cs (λ t o. f t (o, tt)))

    same-all : (cs : Conjuncts Term) → Stays (OccursInAll cs) → conjuncts_with to cs ≡ cs
    same-all none f = refl
    same-all (also c cs) f =
        ap₂ also (same-one c (λ t o. f t (inl o))) (same-all cs (λ t o. f t (inr o)))

    pub same-one : (c : Conjunct Term) → Stays (OccursInOne c) → conjunct_with to c ≡ c
    same-one (holds p t) f = ap (holds p) (same-test t f)
    same-one (points p x fs) f =
        ap₂ (points p) (same-operand x (λ t e. f t (inl e))) (same-fields fs (λ t o. f t (inr o)))
    same-one (segment p next x y) f =
        ap₂ (segment p next) (same-operand x (λ t e. f t (inl e))) (same-operand y (λ t e. f t (inr e)))
    same-one (doubly p next back x b l y) f =
        let one = same-operand x (λ t e. f t (inl e)) in
        let two = same-operand b (λ t e. f t (inr (inl e))) in
        let three = same-operand l (λ t e. f t (inr (inr (inl e)))) in
        let four = same-operand y (λ t e. f t (inr (inr (inr e)))) in
        λ i. doubly p next back (one i) (two i) (three i) (four i)
    same-one (tree p left right x) f = ap (tree p left right) (same-operand x f)
    same-one (choose p t this that) f =
        ap₂ (λ u (both : Level Term × Level Term). choose p u both.0 both.1) (same-test t (λ x o. f x (inl o)))
        (ap₂ (λ (a : Level Term) (b : Level Term). (a, b)) (same-level this (λ x o. f x (inr (inl o))))
        (same-level that (λ x o. f x (inr (inr o)))))

-- Where a symbol isn't below the number, conjuncts stay as they are
module _ (n : ℕ) (by : Term) where
  pub put-none : (k : ℕ) (cs : List (CodeConjunct Term)) → k ≤ n → ConjunctsBelow k cs
      → map (conjunct_of {E = Term}) cs ≡ map (conjunct_with (put_for n by)) (map (conjunct_of {E = Term}) cs)
  put-none k [] h b = refl
  put-none k (c ∷ cs) h b =
      ap₂ (λ x xs. x ∷ xs)
      (sym (same-one (put_for n by) (conjunct_of {E = Term} c)
      (λ t o. put-other n by t (below-more k n h t (b.0 t o)))))
      (put-none k cs h b.1)

  put-binding : (k : ℕ) (x : Option Term) → k ≤ n → ((t : Term) → x ≡ Some t → IsBelow k t)
      → x ≡ option_map (put_for n by) x
  put-binding k None h f = refl
  put-binding k (Some t) h f = ap Some (sym (put-other n by t (below-more k n h t (f t refl))))

  put-bindings : (k : ℕ) (ys : List (Option Term)) → k ≤ n
      → ((m : ℕ) (t : Term) → get_or ys m None ≡ Some t → IsBelow k t) → ys ≡ map (option_map (put_for n by)) ys
  put-bindings k [] h f = refl
  put-bindings k (y ∷ ys) h f =
      ap₂ (λ z zs. z ∷ zs) (put-binding k y h (λ t i. f 0 t i)) (put-bindings k ys h (λ m t i. f (suc m) t i))

  -- and what existentials stand for, but for one of them
  pub put-latest : (k latest : ℕ) (bs : List (Option Term)) (o : Option Term) → k ≤ n → BindingsBelow k latest bs
      → o ≡ option_map (put_for n by) (get_or bs latest None)
      → set bs latest o ≡ map (option_map (put_for n by)) bs
  put-latest k latest [] o h b e = refl
  put-latest k zero (x ∷ xs) o h b e =
      ap₂ (λ y ys. y ∷ ys) e (put-bindings k xs h (λ m t i. b (suc m) t (λ j. absurd (cc)) i))
  put-latest k (suc at) (x ∷ xs) o h b e =
      ap₂ (λ y ys. y ∷ ys) (put-binding k x h (λ t i. b 0 t (λ j. absurd (cc)) i))
      (put-latest k at xs o h (λ m t differ i. b (suc m) t (λ j. differ (let same : m ≡ at = cc in same)) i) e)

  -- all of them, where that one isn't there
  pub put-others : (k latest : ℕ) (bs : List (Option Term)) → k ≤ n → length bs ≤ latest
      → BindingsBelow k latest bs → bs ≡ map (option_map (put_for n by)) bs
  put-others k latest [] h out b = refl
  put-others k zero (x ∷ xs) h out b = let never : ⊥ = omega (arith, out) in absurd never
  put-others k (suc at) (x ∷ xs) h out b =
      ap₂ (λ y ys. y ∷ ys) (put-binding k x h (λ t i. b 0 t (λ j. absurd (cc)) i))
      (put-others k at xs h (omega (arith, out))
      (λ m t differ i. b (suc m) t (λ j. differ (let same : m ≡ at = cc in same)) i))
