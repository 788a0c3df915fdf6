-- The order of paths, and that the paths of a tree are listed in it.
-- Names: `before-LAW` of the order, `rises-WHAT` of lists in it, `paths-LAW` of the paths of a tree.
use Rattle.std.specs.Prelude.{◌≡◌, ◌⊎◌, true, List, [], ◌∷◌, ◌++◌, Some, map}
use Rattle.std.proofs.Common.{true≢false, sym, ap, refl, subst, inl, inr}
use Rattle.sf_base.specs.declared.path.Turn.TheVariants.{Left as left, Right as right}
use Rattle.sf_core.specs.Machine.Config.{Task, runs, waits, Path, task_at}
use Rattle.sf_machine.specs.Paths.{paths_of}
use Rattle.sf_replay.specs.Order.{path_before}

-- no path comes before itself
pub before-self : (p : Path) → path_before p p ≡ true → ⊥
before-self [] h = true≢false (sym h)
before-self (left ∷ p) h = before-self p h
before-self (right ∷ p) h = before-self p h

-- nor two before each other
pub before-once : (p q : Path) → path_before p q ≡ true → path_before q p ≡ true → ⊥
before-once [] [] h k = true≢false (sym h)
before-once [] (turn ∷ q) h k = true≢false (sym k)
before-once (turn ∷ p) [] h k = true≢false (sym h)
before-once (left ∷ p) (left ∷ q) h k = before-once p q h k
before-once (left ∷ p) (right ∷ q) h k = true≢false (sym k)
before-once (right ∷ p) (left ∷ q) h k = true≢false (sym h)
before-once (right ∷ p) (right ∷ q) h k = before-once p q h k

-- of two paths one comes before the other, where they aren't one
pub before-either : (p q : Path) → (p ≡ q) ⊎ ((path_before p q ≡ true) ⊎ (path_before q p ≡ true))
before-either [] [] = inl refl
before-either [] (turn ∷ q) = inr (inl refl)
before-either (turn ∷ p) [] = inr (inr refl)
before-either (left ∷ p) (left ∷ q) =
    elim (before-either p q) [ inl e ↦ inl (ap (λ (z : Path). left ∷ z) e) | inr h ↦ inr h ]
before-either (left ∷ p) (right ∷ q) = inr (inl refl)
before-either (right ∷ p) (left ∷ q) = inr (inr refl)
before-either (right ∷ p) (right ∷ q) =
    elim (before-either p q) [ inl e ↦ inl (ap (λ (z : Path). right ∷ z) e) | inr h ↦ inr h ]

-- the path comes before all of these
abbrev pub IsBeforeAll : Path → List Path → Type 0
IsBeforeAll p [] = Unit {0}
IsBeforeAll p (q ∷ qs) = (path_before p q ≡ true) × IsBeforeAll p qs

-- each of these comes before those after it
abbrev pub Rises : List Path → Type 0
Rises [] = Unit {0}
Rises (p ∷ ps) = IsBeforeAll p ps × Rises ps

-- the path is one of these
abbrev pub IsIn : List Path → Path → Type 0
IsIn [] p = ⊥
IsIn (q ∷ qs) p = (p ≡ q) ⊎ IsIn qs p

pub before-in : (p q : Path) (qs : List Path) → IsBeforeAll p qs → IsIn qs q → path_before p q ≡ true
before-in p q [] a i = absurd i
before-in p q (r ∷ rs) a i = elim i [
  | inl e ↦ subst (λ (z : Path). path_before p z ≡ true) (sym e) a.0
  | inr k ↦ before-in p q rs a.1 k
]

before-append : (p : Path) (qs rs : List Path) → IsBeforeAll p qs → IsBeforeAll p rs → IsBeforeAll p (qs ++ rs)
before-append p [] rs a b = b
before-append p (q ∷ qs) rs a b = (a.0, before-append p qs rs a.1 b)

rises-append : (ps qs : List Path) → Rises ps → Rises qs → ((p : Path) → IsIn ps p → IsBeforeAll p qs)
    → Rises (ps ++ qs)
rises-append [] qs a b f = b
rises-append (p ∷ ps) qs a b f =
    (before-append p ps qs a.0 (f p (inl refl)), rises-append ps qs a.1 b (λ q i. f q (inr i)))

before-left : (p : Path) (qs : List Path) → IsBeforeAll p qs → IsBeforeAll (left ∷ p) (map (λ q. left ∷ q) qs)
before-left p [] a = tt
before-left p (q ∷ qs) a = (a.0, before-left p qs a.1)

before-right : (p : Path) (qs : List Path) → IsBeforeAll p qs → IsBeforeAll (right ∷ p) (map (λ q. right ∷ q) qs)
before-right p [] a = tt
before-right p (q ∷ qs) a = (a.0, before-right p qs a.1)

rises-left : (ps : List Path) → Rises ps → Rises (map (λ q. left ∷ q) ps)
rises-left [] a = tt
rises-left (p ∷ ps) a = (before-left p ps a.0, rises-left ps a.1)

rises-right : (ps : List Path) → Rises ps → Rises (map (λ q. right ∷ q) ps)
rises-right [] a = tt
rises-right (p ∷ ps) a = (before-right p ps a.0, rises-right ps a.1)

-- what is left comes before what is right
before-across : (p : Path) (qs : List Path) → IsBeforeAll (left ∷ p) (map (λ q. right ∷ q) qs)
before-across p [] = tt
before-across p (q ∷ qs) = (refl, before-across p qs)

before-top_left : (qs : List Path) → IsBeforeAll [] (map (λ q. left ∷ q) qs)
before-top_left [] = tt
before-top_left (q ∷ qs) = (refl, before-top_left qs)

before-top_right : (qs : List Path) → IsBeforeAll [] (map (λ q. right ∷ q) qs)
before-top_right [] = tt
before-top_right (q ∷ qs) = (refl, before-top_right qs)

in-left : (x : Path) (qs : List Path) → IsIn (map (λ q. left ∷ q) qs) x → (p : Path) × (x ≡ left ∷ p)
in-left x [] i = absurd i
in-left x (q ∷ qs) i = elim i [ inl e ↦ (q, e) | inr k ↦ in-left x qs k ]

in-map : (f : Path → Path) (qs : List Path) (q : Path) → IsIn qs q → IsIn (map f qs) (f q)
in-map f [] q i = absurd i
in-map f (r ∷ rs) q i = elim i [ inl e ↦ inl (ap f e) | inr k ↦ inr (in-map f rs q k) ]

in-first : (ps qs : List Path) (p : Path) → IsIn ps p → IsIn (ps ++ qs) p
in-first [] qs p i = absurd i
in-first (r ∷ rs) qs p i = elim i [ inl e ↦ inl e | inr k ↦ inr (in-first rs qs p k) ]

in-second : (ps qs : List Path) (p : Path) → IsIn qs p → IsIn (ps ++ qs) p
in-second [] qs p i = i
in-second (r ∷ rs) qs p i = inr (in-second rs qs p i)

-- the paths of a tree are listed in order
pub paths-rise : (t : Task) → Rises (paths_of t)
paths-rise (runs frames) = (tt, tt)
paths-rise (waits frames one two) = (
  before-append [] (map (λ q. left ∷ q) (paths_of one)) (map (λ q. right ∷ q) (paths_of two))
      (before-top_left (paths_of one)) (before-top_right (paths_of two)),
  rises-append (map (λ q. left ∷ q) (paths_of one)) (map (λ q. right ∷ q) (paths_of two))
      (rises-left (paths_of one) (paths-rise one)) (rises-right (paths_of two) (paths-rise two))
      (λ x i.
      let p = in-left x (paths_of one) i in
      subst (λ (z : Path). IsBeforeAll z (map (λ q. right ∷ q) (paths_of two))) (sym p.1)
      (before-across p.0 (paths_of two))),
)

-- each task is among them
pub paths-all : (p : Path) (t u : Task) → task_at p t ≡ Some u → IsIn (paths_of t) p
paths-all [] (runs frames) u e = inl refl
paths-all [] (waits frames one two) u e = inl refl
paths-all (left ∷ p) (runs frames) u e = absurd (cc)
paths-all (right ∷ p) (runs frames) u e = absurd (cc)
paths-all (left ∷ p) (waits frames one two) u e = inr (in-first (map (λ q. left ∷ q) (paths_of one))
    (map (λ q. right ∷ q) (paths_of two)) (left ∷ p)
    (in-map (λ q. left ∷ q) (paths_of one) p (paths-all p one u e)))
paths-all (right ∷ p) (waits frames one two) u e = inr (in-second (map (λ q. left ∷ q) (paths_of one))
    (map (λ q. right ∷ q) (paths_of two)) (right ∷ p)
    (in-map (λ q. right ∷ q) (paths_of two) p (paths-all p two u e)))
