-- Whoever holds no more than that assertions are others in order has that they are.
-- Names: `PART-had` says that what is built of PART follows from its truncation.
use Rattle.std.proofs.Common.{◌≡◌, ℕ, Bool, false, List, [], ◌∷◌, refl, ap, subst, inl, inr}
use Rattle.std.proofs.Math.Logic.{∥∥₁_elim, ∥∥₁_map}
use Rattle.std.specs.Coded.{Coded-set, coded_ℕ, coded_list, codes}
use Rattle.sf_base.specs.declared.ids.FieldId.{FieldId}
use Rattle.sf_base.specs.declared.place.Place.{Place}
use Rattle.sf_core.specs.declared.assertion.Operand.{Operand}
use Rattle.sf_core.specs.declared.assertion.Scope.{Scope}
use Rattle.sf_core.specs.declared.assertion.Test.{Test}
use Rattle.sf_core.specs.declared.command.Expr.{Expr}
use Rattle.sf_core.specs.Assertions.Determined.{known_after, known_inside}
use Rattle.sf_core.specs.Program.Syntax.{Conjunct, holds, points, segment, doubly, tree, choose, Level, level, Conjuncts, none, also, Assertion}
use Rattle.sf_calls.specs.Checked.Lemmas.Had.{IsHad, had_never, had_once}
use Rattle.sf_precise.specs.Checked.Laws.{OrdersFromTruncation}
use Rattle.sf_precise.specs.Order.{IsFirstReady, IsOrder, IsOrderFrom, IsOrderInside, IsOrderOf, IsOrderWithin}
use Rattle.sf_precise.specs.Checked.Lemmas.Agree.{first-leaves}
use Rattle.sf_precise.specs.Checked.Lemmas.OrderMeaning.{first-one}
use Rattle.sf_precise.specs.Checked.Lemmas.TakenDecided.{first-decided}

-- two equations between parts of conjuncts are the same
place-set : IsSet Place
place-set = hlevel codes

field-set : IsSet FieldId
field-set = hlevel codes

scope-set : IsSet Scope
scope-set = hlevel codes

operand-set : IsSet (Operand Expr)
operand-set = hlevel codes

test-set : IsSet (Test (Operand Expr))
test-set = hlevel codes

fields-set : IsSet (List (FieldId × Operand Expr))
fields-set = hlevel codes

-- that a conjunct is that test
holds-had : (c : Conjunct Expr) (p : Place) (t : Test (Operand Expr)) → IsHad (c ≡ holds p t)
holds-had (holds q u) p t h =
    let place : q ≡ p = ∥∥₁_elim h (place-set q p) (λ e. cc) in
    let test : u ≡ t = ∥∥₁_elim h (test-set u t) (λ e. cc) in
    cc
holds-had c p t h = had_never (λ e. cc) h

-- that it is that cell
points-had : (c : Conjunct Expr) (p : Place) (x : Operand Expr) (fs : List (FieldId × Operand Expr))
    → IsHad (c ≡ points p x fs)
points-had (points q y gs) p x fs h =
    let place : q ≡ p = ∥∥₁_elim h (place-set q p) (λ e. cc) in
    let root : y ≡ x = ∥∥₁_elim h (operand-set y x) (λ e. cc) in
    let values : gs ≡ fs = ∥∥₁_elim h (fields-set gs fs) (λ e. cc) in
    cc
points-had c p x fs h = had_never (λ e. cc) h

-- that it is that segment
segment-had : (c : Conjunct Expr) (p : Place) (next : FieldId) (x y : Operand Expr)
    → IsHad (c ≡ segment p next x y)
segment-had (segment q other z u) p next x y h =
    let place : q ≡ p = ∥∥₁_elim h (place-set q p) (λ e. cc) in
    let field : other ≡ next = ∥∥₁_elim h (field-set other next) (λ e. cc) in
    let from : z ≡ x = ∥∥₁_elim h (operand-set z x) (λ e. cc) in
    let to : u ≡ y = ∥∥₁_elim h (operand-set u y) (λ e. cc) in
    cc
segment-had c p next x y h = had_never (λ e. cc) h

-- that it is that doubly linked segment
doubly-had : (c : Conjunct Expr) (p : Place) (next back : FieldId) (x b z y : Operand Expr)
    → IsHad (c ≡ doubly p next back x b z y)
doubly-had (doubly q one two v d w u) p next back x b z y h =
    let place : q ≡ p = ∥∥₁_elim h (place-set q p) (λ e. cc) in
    let first : one ≡ next = ∥∥₁_elim h (field-set one next) (λ e. cc) in
    let second : two ≡ back = ∥∥₁_elim h (field-set two back) (λ e. cc) in
    let from : v ≡ x = ∥∥₁_elim h (operand-set v x) (λ e. cc) in
    let before : d ≡ b = ∥∥₁_elim h (operand-set d b) (λ e. cc) in
    let last : w ≡ z = ∥∥₁_elim h (operand-set w z) (λ e. cc) in
    let to : u ≡ y = ∥∥₁_elim h (operand-set u y) (λ e. cc) in
    cc
doubly-had c p next back x b z y h = had_never (λ e. cc) h

-- that it is that tree
tree-had : (c : Conjunct Expr) (p : Place) (left right : FieldId) (x : Operand Expr)
    → IsHad (c ≡ tree p left right x)
tree-had (tree q one two y) p left right x h =
    let place : q ≡ p = ∥∥₁_elim h (place-set q p) (λ e. cc) in
    let first : one ≡ left = ∥∥₁_elim h (field-set one left) (λ e. cc) in
    let second : two ≡ right = ∥∥₁_elim h (field-set two right) (λ e. cc) in
    let root : y ≡ x = ∥∥₁_elim h (operand-set y x) (λ e. cc) in
    cc
tree-had c p left right x h = had_never (λ e. cc) h

-- that there are no conjuncts
none-had : (cs : Conjuncts Expr) → IsHad (cs ≡ none)
none-had none h = refl
none-had (also c cs) h = had_never (λ e. cc) h

-- conjuncts in order begin with the one that is ready first
order-begins : (known : ℕ → Bool) (cs : Conjuncts Expr) (c : Conjunct Expr) (rest : Conjuncts Expr)
    (o : Conjunct Expr) (os : Conjuncts Expr)
    → IsFirstReady known cs c rest → IsOrder known cs (also o os)
    → IsOrderWithin known c o × IsOrder (known_after c known) rest os
order-begins known cs c rest o os f i =
    let same = first-one known cs i.0 c i.1 rest i.2 f in (
      subst (λ z. IsOrderWithin known z o) same.0 i.3,
      subst (λ z. IsOrder (known_after c known) z os) same.1
          (subst (λ z. IsOrder (known_after z known) i.1 os) same.0 i.4),
    )

mutual
  -- that conjuncts are others in order
  order-had : (known : ℕ → Bool) (cs os : Conjuncts Expr) → IsHad (IsOrder known cs os)
  order-had known cs none h = none-had cs h
  order-had known cs (also o os) h = elim (first-decided known cs) [
    | inl f ↦
        let begins = ∥∥₁_map h (order-begins known cs f.0 f.1 o os f.2) in (
          f.0,
          f.1,
          f.2,
          within-had known f.0 o (∥∥₁_map begins (λ b. b.0)),
          order-had
              (known_after f.0 known) f.1 os (∥∥₁_map begins (λ b. b.1)),
        )
    | inr stuck ↦ had_never (λ i. let l = first-leaves known cs i.0 i.1 i.2 in stuck i.0 i.1 l.0 l.1) h
  ]

  -- that a conjunct is another, its branches in order
  within-had : (known : ℕ → Bool) (c o : Conjunct Expr) → IsHad (IsOrderWithin known c o)
  within-had known c (holds p t) h = holds-had c p t h
  within-had known c (points p x fs) h = points-had c p x fs h
  within-had known c (segment p next x y) h = segment-had c p next x y h
  within-had known c (doubly p next back x b z y) h = doubly-had c p next back x b z y h
  within-had known c (tree p left right x) h = tree-had c p left right x h
  within-had known (choose q u a b) (choose p t (level made os) (level other us)) h =
      let place : q
      ≡ p = ∥∥₁_elim h (place-set q p) (λ w. let e : choose q u a b ≡ choose p t w.0 w.1 = w.2 in cc) in
      let test : u
      ≡ t = ∥∥₁_elim h (test-set u t) (λ w. let e : choose q u a b ≡ choose p t w.0 w.1 = w.2 in cc) in
      let one = ∥∥₁_map h (λ w. let e : choose q u a b ≡ choose p t w.0 w.1 = w.2 in
      let s : w.0 ≡ a = cc in subst (λ z. IsOrderInside known z (level made os)) s w.3) in
      let two = ∥∥₁_map h (λ w. let e : choose q u a b ≡ choose p t w.0 w.1 = w.2 in
      let s : w.1 ≡ b = cc in subst (λ z. IsOrderInside known z (level other us)) s w.4) in (
        a,
        b,
        (let e : choose q u a b ≡ choose p t a b = cc in e),
        level-had (known_inside made known) a
            (level made os) one,
        level-had (known_inside other known) b (level other us) two,
      )
  within-had known c (choose p t this that) h = had_never (λ w. let e : c ≡ choose p t w.0 w.1 = w.2 in cc) h

  -- that a level is another in order
  level-had : (known : ℕ → Bool) (a o : Level Expr) → IsHad (IsOrderFrom known a o)
  level-had known (level m cs) (level made os) h =
      let same : m ≡ made = ∥∥₁_elim h (scope-set m made) (λ i. let e : level m cs ≡ level made i.0 = i.1 in
      cc) in (
        cs,
        ap (λ z. level z cs) same,
        order-had known cs os
            (∥∥₁_map h (λ i. let e : level m cs ≡ level made i.0 = i.1 in
            let s : i.0 ≡ cs = cc in subst (λ z. IsOrder known z os) s i.2)),
      )

-- that an assertion is another in order
assertion-had : (a o : Assertion) → IsHad (IsOrderOf a o)
assertion-had a o h = record {
  names = had_once (Coded-set (coded_list (coded_list coded_ℕ)) o.names a.names) (∥∥₁_map h (λ i. i.names));
  level = level-had (λ n. false) a.level o.level (∥∥₁_map h (λ i. i.level));
}

-- that assertions are others in order
pub orders-had : OrdersFromTruncation
orders-had [] [] h = tt
orders-had [] (o ∷ os) h = had_never (λ i. i) h
orders-had (a ∷ notes) [] h = had_never (λ i. i) h
orders-had (a ∷ notes) (o ∷ os) h =
    (assertion-had a o (∥∥₁_map h (λ i. i.0)), orders-had notes os (∥∥₁_map h (λ i. i.1)))
