-- An assertion in order is well-formed where the assertion is: its scopes are the same ones, in another order.
-- Names: `LEVEL-rest` of scopes that come after, `leaves-LAW` of a list without one conjunct; `order-LAW`,
-- `within-LAW`, `inside-LAW`, `level-LAW` of conjuncts, of one conjunct, of a branch, and of a whole level.
use Rattle.std.specs.Prelude.{◌≡◌, ◌≤◌, ℕ, suc, ◌+◌, Bool, max, nat_lt, List, [], ◌∷◌, ◌++◌, length, IsPermutation}
use Rattle.std.specs.List.{All}
use Rattle.std.proofs.Common.{sym, ap, ap₂, ◌∙◌, refl, subst, subst₂, inl, inr, append_assoc, arith}
use Rattle.std.proofs.Math.Nat.{max_comm, min_comm}
use Rattle.std.proofs.lemmas.List.Sorted.{All-permutation, IsPermutation-append, IsPermutation-append_comm, IsPermutation-append_left, IsPermutation-append_right, IsPermutation-cons, IsPermutation-refl, IsPermutation-trans, sum_by-IsPermutation}
use Rattle.std.proofs.lemmas.Map.Keys.{IsDistinct-IsPermutation}
use Rattle.sf_base.specs.declared.ids.Var.{Var}
use Rattle.sf_core.specs.declared.assertion.Scope.{Scope}
use Rattle.sf_core.specs.declared.command.Expr.{Expr}
use Rattle.sf_core.specs.Assertions.Determined.{Leaves, known_after, known_inside}
use Rattle.sf_core.specs.Assertions.Scopes.{overlap}
use Rattle.sf_core.specs.Program.Formed.{AssertionWithin, ConjunctWithin, ConjunctsWithin, LevelWithin, conjunct_depth, conjunct_scopes, conjuncts_depth, conjuncts_scopes, level_depth, level_scopes}
use Rattle.sf_core.specs.Program.Syntax.{Assertion, Conjunct, holds, points, segment, doubly, tree, choose, Level, level, Conjuncts, none, also}
use Rattle.sf_precise.specs.Order.{IsOrder, IsOrderFrom, IsOrderInside, IsOrderWithin}
use Rattle.sf_precise.specs.Checked.Lemmas.Agree.{first-leaves}

-- of three lists the first two change places
swap_first : {X : Type 0} (xs ys zs : List X) → IsPermutation (xs ++ (ys ++ zs)) (ys ++ (xs ++ zs))
swap_first xs ys zs =
    subst₂ IsPermutation (append_assoc xs ys zs) (append_assoc ys xs zs)
    (IsPermutation-append_left zs (xs ++ ys) (ys ++ xs) (IsPermutation-append_comm xs ys))

-- two scopes overlap in either order
overlap-comm : (s t : Scope) → overlap s t ≡ overlap t s
overlap-comm s t =
    ap₂ nat_lt (max_comm s.first t.first) (min_comm (s.first + s.count) (t.first + t.count))

module _ {E : Type 0} where
  mutual
    -- the scopes of a level, and those after them
    level-rest : (a : Level E) (rest : List Scope) → level_scopes a rest ≡ level_scopes a [] ++ rest
    level-rest (level here cs) rest = ap (λ ss. here ∷ ss) (conjuncts-rest cs rest)

    -- of conjuncts
    conjuncts-rest : (cs : Conjuncts E) (rest : List Scope)
        → conjuncts_scopes cs rest ≡ conjuncts_scopes cs [] ++ rest
    conjuncts-rest none rest = refl
    conjuncts-rest (also c cs) rest =
        conjunct-rest c (conjuncts_scopes cs rest)
        ∙ ap (λ ss. conjunct_scopes c [] ++ ss) (conjuncts-rest cs rest)
        ∙ sym (append_assoc (conjunct_scopes c []) (conjuncts_scopes cs []) rest)
        ∙ ap (λ ss. ss ++ rest) (sym (conjunct-rest c (conjuncts_scopes cs [])))

    -- of one conjunct
    conjunct-rest : (c : Conjunct E) (rest : List Scope)
        → conjunct_scopes c rest ≡ conjunct_scopes c [] ++ rest
    conjunct-rest (holds p t) rest = refl
    conjunct-rest (points p x fs) rest = refl
    conjunct-rest (segment p next x y) rest = refl
    conjunct-rest (doubly p next back x b z y) rest = refl
    conjunct-rest (tree p left right x) rest = refl
    conjunct-rest (choose p t this that) rest =
        level-rest this (level_scopes that rest)
        ∙ ap (λ ss. level_scopes this [] ++ ss) (level-rest that rest)
        ∙ sym (append_assoc (level_scopes this []) (level_scopes that []) rest)
        ∙ ap (λ ss. ss ++ rest) (sym (level-rest this (level_scopes that [])))

  -- the scopes of a conjunct may come first
  leaves-scopes : (cs : Conjuncts E) (c : Conjunct E) (rest : Conjuncts E) → Leaves cs c rest
      → IsPermutation (conjuncts_scopes cs []) (conjunct_scopes c [] ++ conjuncts_scopes rest [])
  leaves-scopes none c rest l = absurd l
  leaves-scopes (also d ds) c rest (inl l) =
      subst₂ (λ x y. IsPermutation (conjunct_scopes d (conjuncts_scopes ds []))
      (conjunct_scopes x [] ++ conjuncts_scopes y [])) l.0 l.1
      (subst (IsPermutation (conjunct_scopes d (conjuncts_scopes ds [])))
      (conjunct-rest d (conjuncts_scopes ds [])) (IsPermutation-refl _))
  leaves-scopes (also d ds) c rest (inr l) =
      let one : List Scope = conjunct_scopes c [] in
      let other : List Scope = conjunct_scopes d [] in
      let others : List Scope = conjuncts_scopes l.0 [] in
      subst₂ (λ xs ys. IsPermutation xs (one ++ ys)) (sym (conjunct-rest d (conjuncts_scopes ds [])))
      (sym (ap (λ z. conjuncts_scopes z []) l.2 ∙ conjunct-rest d others))
      (IsPermutation-trans _ _ _
      (IsPermutation-append_right other (conjuncts_scopes ds []) (one ++ others) (leaves-scopes ds c l.0 l.1))
      (swap_first other one others))

  -- as deep as the deepest of the one and the rest
  leaves-depth : (cs : Conjuncts E) (c : Conjunct E) (rest : Conjuncts E) → Leaves cs c rest
      → conjuncts_depth cs ≡ max (conjunct_depth c) (conjuncts_depth rest)
  leaves-depth none c rest l = absurd l
  leaves-depth (also d ds) c rest (inl l) =
      ap₂ (λ x y. max (conjunct_depth x) (conjuncts_depth y)) l.0 l.1
  leaves-depth (also d ds) c rest (inr l) =
      omega (arith, leaves-depth ds c l.0 l.1, ap (λ z. conjuncts_depth z) l.2)

  mutual
    -- conjuncts in order have the same scopes
    order-scopes : (known : ℕ → Bool) (cs os : Conjuncts E) → IsOrder known cs os
        → IsPermutation (conjuncts_scopes cs []) (conjuncts_scopes os [])
    order-scopes known cs none o =
        subst (λ z. IsPermutation (conjuncts_scopes z []) []) (sym o) (IsPermutation-refl [])
    order-scopes known cs (also c os) o =
        subst (IsPermutation (conjuncts_scopes cs [])) (sym (conjunct-rest c (conjuncts_scopes os [])))
        (IsPermutation-trans _ _ _ (leaves-scopes cs o.0 o.1 (first-leaves known cs o.0 o.1 o.2).0)
        (IsPermutation-append _ _ _ _ (within-scopes known o.0 c o.3)
        (order-scopes (known_after o.0 known) o.1 os o.4)))

    within-scopes : (known : ℕ → Bool) (c o : Conjunct E) → IsOrderWithin known c o
        → IsPermutation (conjunct_scopes c []) (conjunct_scopes o [])
    within-scopes known c (holds p t) w =
        subst (λ z. IsPermutation (conjunct_scopes z []) []) (sym w) (IsPermutation-refl [])
    within-scopes known c (points p x fs) w =
        subst (λ z. IsPermutation (conjunct_scopes z []) []) (sym w) (IsPermutation-refl [])
    within-scopes known c (segment p next x y) w =
        subst (λ z. IsPermutation (conjunct_scopes z []) []) (sym w) (IsPermutation-refl [])
    within-scopes known c (doubly p next back x b z y) w =
        subst (λ z. IsPermutation (conjunct_scopes z []) []) (sym w) (IsPermutation-refl [])
    within-scopes known c (tree p left right x) w =
        subst (λ z. IsPermutation (conjunct_scopes z []) []) (sym w) (IsPermutation-refl [])
    within-scopes known c (choose p t this that) w =
        subst (λ z. IsPermutation (conjunct_scopes z []) (level_scopes this (level_scopes that []))) (sym w.2)
        (subst₂ IsPermutation (sym (level-rest w.0 (level_scopes w.1 [])))
        (sym (level-rest this (level_scopes that [])))
        (IsPermutation-append _ _ _ _ (inside-scopes known w.0 this w.3) (inside-scopes known w.1 that w.4)))

    inside-scopes : (known : ℕ → Bool) (a o : Level E) → IsOrderInside known a o
        → IsPermutation (level_scopes a []) (level_scopes o [])
    inside-scopes known a (level made os) w =
        subst (λ z. IsPermutation (level_scopes z []) (made ∷ conjuncts_scopes os [])) (sym w.1)
        (IsPermutation-cons made _ _ (order-scopes (known_inside made known) w.0 os w.2))

  level-scopes : (known : ℕ → Bool) (a o : Level E) → IsOrderFrom known a o
      → IsPermutation (level_scopes a []) (level_scopes o [])
  level-scopes known a (level made os) w =
      subst (λ z. IsPermutation (level_scopes z []) (made ∷ conjuncts_scopes os [])) (sym w.1)
      (IsPermutation-cons made _ _ (order-scopes known w.0 os w.2))

  mutual
    -- conjuncts in order are as deep
    order-depth : (known : ℕ → Bool) (cs os : Conjuncts E) → IsOrder known cs os
        → conjuncts_depth cs ≡ conjuncts_depth os
    order-depth known cs none o = ap (λ z. conjuncts_depth z) o
    order-depth known cs (also c os) o =
        leaves-depth cs o.0 o.1 (first-leaves known cs o.0 o.1 o.2).0
        ∙ ap₂ max (within-depth known o.0 c o.3) (order-depth (known_after o.0 known) o.1 os o.4)

    within-depth : (known : ℕ → Bool) (c o : Conjunct E) → IsOrderWithin known c o
        → conjunct_depth c ≡ conjunct_depth o
    within-depth known c (holds p t) w = ap (λ z. conjunct_depth z) w
    within-depth known c (points p x fs) w = ap (λ z. conjunct_depth z) w
    within-depth known c (segment p next x y) w = ap (λ z. conjunct_depth z) w
    within-depth known c (doubly p next back x b z y) w = ap (λ z. conjunct_depth z) w
    within-depth known c (tree p left right x) w = ap (λ z. conjunct_depth z) w
    within-depth known c (choose p t this that) w =
        ap (λ z. conjunct_depth z) w.2
        ∙ ap₂ max (inside-depth known w.0 this w.3) (inside-depth known w.1 that w.4)

    inside-depth : (known : ℕ → Bool) (a o : Level E) → IsOrderInside known a o
        → level_depth a ≡ level_depth o
    inside-depth known a (level made os) w =
        ap (λ z. level_depth z) w.1 ∙ ap (λ n. suc n) (order-depth (known_inside made known) w.0 os w.2)

  level-depth : (known : ℕ → Bool) (a o : Level E) → IsOrderFrom known a o → level_depth a ≡ level_depth o
  level-depth known a (level made os) w =
      ap (λ z. level_depth z) w.1 ∙ ap (λ n. suc n) (order-depth known w.0 os w.2)

module _ (fields : List (List ℕ)) (V : Var → Type 0) where
  -- one of well-formed conjuncts is well-formed, and so are the others
  leaves-within : (made : List Scope) (cs : Conjuncts Expr) (c : Conjunct Expr) (rest : Conjuncts Expr)
      → Leaves cs c rest → ConjunctsWithin fields V made cs
      → ConjunctWithin fields V made c × ConjunctsWithin fields V made rest
  leaves-within made none c rest l w = absurd l
  leaves-within made (also d ds) c rest (inl l) w =
      (subst (ConjunctWithin fields V made) l.0 w.0, subst (ConjunctsWithin fields V made) l.1 w.1)
  leaves-within made (also d ds) c rest (inr l) w =
      let more = leaves-within made ds c l.0 l.1 w.1 in
      (more.0, subst (ConjunctsWithin fields V made) (sym l.2) (w.0, more.1))

  mutual
    -- conjuncts in order mention what they may
    order-within : (known : ℕ → Bool) (made : List Scope) (cs os : Conjuncts Expr) → IsOrder known cs os
        → ConjunctsWithin fields V made cs → ConjunctsWithin fields V made os
    order-within known made cs none o w = tt
    order-within known made cs (also c os) o w =
        let parts = leaves-within made cs o.0 o.1 (first-leaves known cs o.0 o.1 o.2).0 w in (
          within-within known made o.0 c o.3 parts.0,
          order-within (known_after o.0 known) made o.1 os o.4 parts.1,
        )

    within-within : (known : ℕ → Bool) (made : List Scope) (c o : Conjunct Expr) → IsOrderWithin known c o
        → ConjunctWithin fields V made c → ConjunctWithin fields V made o
    within-within known made c (holds p t) e w = subst (ConjunctWithin fields V made) e w
    within-within known made c (points p x fs) e w = subst (ConjunctWithin fields V made) e w
    within-within known made c (segment p next x y) e w = subst (ConjunctWithin fields V made) e w
    within-within known made c (doubly p next back x b z y) e w = subst (ConjunctWithin fields V made) e w
    within-within known made c (tree p left right x) e w = subst (ConjunctWithin fields V made) e w
    within-within known made c (choose p t this that) e w =
        let parts : ConjunctWithin fields V made (choose p t e.0 e.1) =
        subst (ConjunctWithin fields V made) e.2 w in (
          parts.0,
          inside-within known made e.0 this e.3 parts.1,
          inside-within known made e.1 that e.4 parts.2,
        )

    inside-within : (known : ℕ → Bool) (made : List Scope) (a o : Level Expr) → IsOrderInside known a o
        → LevelWithin fields V made a → LevelWithin fields V made o
    inside-within known made a (level here os) e w =
        order-within (known_inside here known) (here ∷ made) e.0 os e.2
        (subst (LevelWithin fields V made) e.1 w)

  level-within : (known : ℕ → Bool) (made : List Scope) (a o : Level Expr) → IsOrderFrom known a o
      → LevelWithin fields V made a → LevelWithin fields V made o
  level-within known made a (level here os) e w =
      order-within known (here ∷ made) e.0 os e.2 (subst (LevelWithin fields V made) e.1 w)

  -- an assertion in order is well-formed
  pub assertion-within : (known : ℕ → Bool) (a o : Assertion) → o.names ≡ a.names
      → IsOrderFrom known a.level o.level → AssertionWithin fields V a → AssertionWithin fields V o
  assertion-within known a o names i w =
      let same = level-scopes known a.level o.level i in
      let count : length o.names ≡ length a.names = ap length names in
      record {
        annotation = record {
          within = level-within known [] a.level o.level i w.annotation.within;
          disjoint = IsDistinct-IsPermutation overlap overlap-comm (level_scopes a.level [])
              (level_scopes o.level []) same w.annotation.disjoint;
          depth = omega (arith, level-depth known a.level o.level i, w.annotation.depth);
        };
        named = subst (λ n. All (λ (s : Scope). s.first + s.count ≤ n) (level_scopes o.level [])) (sym count)
            (All-permutation (λ (s : Scope). s.first + s.count ≤ length a.names) (level_scopes a.level [])
            (level_scopes o.level []) same w.named);
        names = count ∙ w.names ∙ sym (sum_by-IsPermutation (λ (s : Scope). s.count) (level_scopes a.level [])
            (level_scopes o.level []) same);
      }
