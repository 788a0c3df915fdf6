-- What is found first: a search by tests finds the first of a list, and a search of an ordered set finds
-- what one of all that is there does.
-- Names: `first-LAW`.
use Rattle.std.proofs.Common.{◌≡◌, ◌↔◌, Bool, true, false, List, [], ◌∷◌, ◌++◌, map, Option, Some, None, Contains, refl, sym, ap, inl, inr, ◌∙◌, subst}
use Rattle.std.specs.Bool.{Decides}
use Rattle.std.specs.List.{flat_map}
use Rattle.std.specs.Option.{option_or}
use Rattle.std.proofs.lemmas.List.Elements.{Contains-append_cases, Contains-append_left, Contains-append_right}
use Rattle.sf_base.proofs.Elements.{contains-nil, contains-single, contains-single_of, contains-cons}
use Rattle.sf_calls.specs.First.{IsFirst}
use Rattle.sf_calls.specs.Checked.Lemmas.InOrder.{Ordered}
use Rattle.sf_vars.specs.Checked.Search.{found, search_in}

-- what comes first in two lists, the second of which is asked only where the first one has nothing
pub first-append : {A X : Type 0} (P : X → Type 0) (f : X → A) (xs ys : List X) (o q : Option A)
    → IsFirst P f xs o → (IsFirst P f xs None → IsFirst P f ys q) → IsFirst P f (xs ++ ys) (option_or o q)
first-append P f [] ys None q p h = h tt
first-append P f [] ys (Some a) q p h = absurd p
first-append P f (x ∷ xs) ys None None p h = (p.0, first-append P f xs ys None None p.1 (λ n. h (p.0, n)))
first-append P f (x ∷ xs) ys None (Some b) p h =
    inr (p.0, first-append P f xs ys None (Some b) p.1 (λ n. h (p.0, n)))
first-append P f (x ∷ xs) ys (Some a) q (inl p) h = inl p
first-append P f (x ∷ xs) ys (Some a) q (inr p) h =
    inr (p.0, first-append P f xs ys (Some a) q p.1 (λ n. h (p.0, n)))

-- in lists that are made of each element
pub first-flat_map : {A X Y : Type 0} (P : Y → Type 0) (f : Y → A) (g : X → List Y) (s : X → Option A)
    (xs : List X)
    → ((x : X) → Contains xs x → IsFirst P f (g x) (s x)) → IsFirst P f (flat_map g xs) (search_in s xs)
first-flat_map P f g s [] each = tt
first-flat_map P f g s (x ∷ xs) each =
    first-append P f (g x) (flat_map g xs) (s x) (search_in s xs)
    (each x ((contains-cons x xs x).1 (inl refl)))
    (λ n. first-flat_map P f g s xs (λ y c. each y ((contains-cons x xs y).1 (inr c))))

-- of what is made of each element
pub first-map : {A X Y : Type 0} (P : Y → Type 0) (f : Y → A) (g : X → Y) (xs : List X) (o : Option A)
    → IsFirst (λ x. P (g x)) (λ x. f (g x)) xs o → IsFirst P f (map g xs) o
first-map P f g [] o h = h
first-map P f g (x ∷ xs) None h = (h.0, first-map P f g xs None h.1)
first-map P f g (x ∷ xs) (Some a) (inl h) = inl h
first-map P f g (x ∷ xs) (Some a) (inr h) = inr (h.0, first-map P f g xs (Some a) h.1)

-- a search by a test
pub first-search : {A X : Type 0} (P : X → Type 0) (f : X → A) (test : X → Bool) (xs : List X)
    → ((x : X) → Contains xs x → Decides (test x) (P x))
    → IsFirst P f xs (search_in (λ x. found (test x) (f x)) xs)
first-search P f test [] decides = tt
first-search {A} {X} P f test (x ∷ xs) decides =
    go (test x) (search_in (λ x. found (test x) (f x)) xs)
    (decides x ((contains-cons x xs x).1 (inl refl)))
    (first-search P f test xs (λ y c. decides y ((contains-cons x xs y).1 (inr c))))
  where
    go : (b : Bool) (o : Option A) → Decides b (P x) → IsFirst P f xs o
        → IsFirst P f (x ∷ xs) (option_or (found b (f x)) o)
    go true o d h = inl (d.0 refl, refl)
    go false None d h = ((λ p. absurd (let e : false ≡ true = d.1 p in cc)), h)
    go false (Some a) d h = inr ((λ p. absurd (let e : false ≡ true = d.1 p in cc)), h)

-- two conditions of which the one holds where the other does are first at the same
pub first-same : {A X : Type 0} (P Q : X → Type 0) (f : X → A) (xs : List X) (o : Option A)
    → ((x : X) → P x → Q x) → ((x : X) → Q x → P x) → IsFirst P f xs o → IsFirst Q f xs o
first-same P Q f [] o to from h = h
first-same P Q f (x ∷ xs) None to from h = ((λ q. h.0 (from x q)), first-same P Q f xs None to from h.1)
first-same P Q f (x ∷ xs) (Some a) to from (inl h) = inl (to x h.0, h.1)
first-same P Q f (x ∷ xs) (Some a) to from (inr h) =
    inr ((λ q. h.0 (from x q)), first-same P Q f xs (Some a) to from h.1)

-- the first of those in order of which it holds, as b tells; or there is none
abbrev pub IsLeast : {A X : Type 0} → (X → X → Type 0) → (X → Type 0) → (X → A) → List X → Option A → Type 0
IsLeast {X = X} B D f xs None = (x : X) → Contains xs x → D x → ⊥
IsLeast {X = X} B D f xs (Some b) =
    (x : X) × Contains xs x × D x × (b ≡ f x) × ((y : X) → Contains xs y → B y x → D y → ⊥)

-- a search of an ordered list finds the first
pub least_found : {A X : Type 0} (B : X → X → Type 0) (D : X → Type 0) (f : X → A) (test : X → Bool)
    → ((x y : X) → B x y → B y x → ⊥) → ((x : X) → Decides (test x) (D x)) → (xs : List X) → Ordered B xs
    → IsLeast B D f xs (search_in (λ x. found (test x) (f x)) xs)
least_found B D f test apart decides [] ordered = λ x c h. contains-nil x c
least_found {A} {X} B D f test apart decides (z ∷ zs) ordered =
    go (test z) (search_in (λ x. found (test x) (f x)) zs) (decides z)
    (least_found B D f test apart decides zs ordered.1)
  where
    later : (x y : X) → Contains (z ∷ zs) y → (z ≡ y → ⊥) → Contains zs y
    later x y c other =
        elim (Contains-append_cases (z ∷ []) zs y c) [
          | inl k ↦ absurd (other (contains-single z y k))
          | inr k ↦ k
        ]

    go : (b : Bool) (o : Option A) → Decides b (D z) → IsLeast B D f zs o
        → IsLeast B D f (z ∷ zs) (option_or (found b (f z)) o)
    go true o d l = (
      z,
      Contains-append_left (z ∷ []) zs z (contains-single_of z z refl),
      d.0 refl,
      refl,
      λ y c before h. elim (Contains-append_cases (z ∷ []) zs y c) [
        | inl k ↦
            apart z y
            (subst (λ (w : X). B w y) (sym (contains-single z y k))
            (subst (λ (w : X). B y w) (contains-single z y k) before)) before
        | inr k ↦ apart z y (ordered.0 y k) before
      ],
    )
    go false None d l = λ x c h. elim (Contains-append_cases (z ∷ []) zs x c) [
      | inl k ↦ absurd (let e : false ≡ true = d.1 (subst D (sym (contains-single z x k)) h) in cc)
      | inr k ↦ l x k h
    ]
    go false (Some b) d (x, c, h, e, before) = (
      x,
      Contains-append_right (z ∷ []) zs x c,
      h,
      e,
      λ y k less g. elim (Contains-append_cases (z ∷ []) zs y k) [
        | inl m ↦ absurd (let f : false ≡ true = d.1 (subst D (sym (contains-single z y m)) g) in cc)
        | inr m ↦ before y m less g
      ],
    )

-- what is first in an ordered list is found first
pub least_first : {A X : Type 0} (B : X → X → Type 0) (D : X → Type 0) (f : X → A) (xs : List X)
    → Ordered B xs → (o : Option A) → IsLeast B D f xs o → IsFirst D f xs o
least_first B D f [] ordered None l = tt
least_first B D f [] ordered (Some b) l = absurd (contains-nil l.0 l.1)
least_first B D f (z ∷ zs) ordered None l = (
  l z (Contains-append_left (z ∷ []) zs z (contains-single_of z z refl)),
  least_first B D f zs ordered.1
      None (λ x c. l x (Contains-append_right (z ∷ []) zs x c)),
)
least_first {A} {X} B D f (z ∷ zs) ordered (Some b) (x, c, h, e, before) =
    elim (Contains-append_cases (z ∷ []) zs x c) [
      | inl k ↦ inl (subst D (sym (contains-single z x k)) h, e ∙ ap f (sym (contains-single z x k)))
      | inr k ↦ inr (
        before z (Contains-append_left (z ∷ []) zs z (contains-single_of z z refl)) (ordered.0 x k),
        least_first B D f zs ordered.1 (Some b)
            (x, k, h, e, λ y m. before y (Contains-append_right (z ∷ []) zs y m)),
      )
    ]

-- an ordered set is searched in place of all that there is
pub first-set : {A X : Type 0} (B : X → X → Type 0) (C D : X → Type 0) (f : X → A) (test : X → Bool)
    (all some : List X)
    → ((x y : X) → B x y → B y x → ⊥) → ((x : X) → Decides (test x) (D x)) → Ordered B all → Ordered B some
    → ((x : X) → Contains some x ↔ C x) → ((x : X) → C x → Contains all x)
    → IsFirst (λ x. C x × D x) f all (search_in (λ x. found (test x) (f x)) some)
first-set {A} {X} B C D f test all some apart decides ordered_all ordered_some members inside =
    least_first B (λ x. C x × D x) f all ordered_all _
    (go (search_in (λ x. found (test x) (f x)) some) (least_found B D f test apart decides some ordered_some))
  where
    go : (o : Option A) → IsLeast B D f some o → IsLeast B (λ x. C x × D x) f all o
    go None l = λ x c h. l x ((members x).1 h.0) h.1
    go (Some b) (x, c, h, e, before) = (
      x,
      inside x ((members x).0 c),
      ((members x).0 c, h),
      e,
      λ y k less g. before y
          ((members y).1 g.0) less g.1,
    )
