-- What reaches to a member along steps within a list is decidable.
-- After Warshall, "A theorem on Boolean matrices" (1962): paths by way of one element more, and one more
-- again.
use Rattle.std.proofs.Common.{◌≡◌, ◌⊎◌, List, [], ◌∷◌, Contains, refl, sym, inl, inr, subst}
use Rattle.sf_base.proofs.Elements.{contains-nil, contains-cons}
use Rattle.sf_calls.specs.Reaches.{Reaches, directly, through}
use Rattle.sf_calls.specs.Checked.Lemmas.Decidable.{IsDecidable, decidable_like, decidable_both, decidable_one, decidable_some}

-- from the one to the other by one step at most, or by way of those elements
abbrev Path : {A : Type 0} → (A → A → Type 0) → List A → A → A → Type 0
Path S [] a b = (a ≡ b) ⊎ S a b
Path S (x ∷ xs) a b = Path S xs a b ⊎ (Path S xs a x × Path S xs x b)

-- one step is a path
path-short : {A : Type 0} (S : A → A → Type 0) (xs : List A) (a b : A) → (a ≡ b) ⊎ S a b → Path S xs a b
path-short S [] a b h = h
path-short S (x ∷ xs) a b h = inl (path-short S xs a b h)

-- two paths that meet in one of the elements are one
path-joined : {A : Type 0} (S : A → A → Type 0) (xs : List A) (a b c : A) → Contains xs b → Path S xs a b
    → Path S xs b c → Path S xs a c
path-joined S [] a b c k p q = absurd (contains-nil b k)
path-joined {A} S (x ∷ xs) a b c k p q = elim ((contains-cons x xs b).0 k) [
  | inl e ↦
      inr (
        to_it (subst (Path S (x ∷ xs) a) (sym e) p),
        from_it
            (subst (λ (y : A). Path S (x ∷ xs) y c) (sym e) q),
      )
  | inr l ↦ past (λ d e g h. path-joined S xs d b e l g h) p q
]
  where
    to_it : Path S (x ∷ xs) a x → Path S xs a x
    to_it (inl h) = h
    to_it (inr h) = h.0

    from_it : Path S (x ∷ xs) x c → Path S xs x c
    from_it (inl h) = h
    from_it (inr h) = h.1

    past : ((d e : A) → Path S xs d b → Path S xs b e → Path S xs d e) → Path S (x ∷ xs) a b
        → Path S (x ∷ xs) b c → Path S (x ∷ xs) a c
    past join (inl g) (inl h) = inl (join a c g h)
    past join (inl g) (inr h) = inr (join a x g h.0, h.1)
    past join (inr g) (inl h) = inr (g.0, join x c g.1 h)
    past join (inr g) (inr h) = inr (g.0, h.1)

-- a path to what reaches there reaches there
path-reaches : {A : Type 0} (D : A → Type 0) (S : A → A → Type 0) (xs : List A) (a b : A) → Path S xs a b
    → Reaches D S b → Reaches D S a
path-reaches D S [] a b (inl e) l = subst (Reaches D S) (sym e) l
path-reaches D S [] a b (inr s) l = through b s l
path-reaches D S (x ∷ xs) a b (inl p) l = path-reaches D S xs a b p l
path-reaches D S (x ∷ xs) a b (inr p) l = path-reaches D S xs a x p.0 (path-reaches D S xs x b p.1 l)

path-decidable : {A : Type 0} (S : A → A → Type 0) → ((a b : A) → IsDecidable (a ≡ b))
    → ((a b : A) → IsDecidable (S a b)) → (xs : List A) (a b : A) → IsDecidable (Path S xs a b)
path-decidable S same step [] a b = decidable_one (same a b) (step a b)
path-decidable S same step (x ∷ xs) a b =
    decidable_one (path-decidable S same step xs a b)
    (decidable_both (path-decidable S same step xs a x) (path-decidable S same step xs x b))

-- what has it directly and what steps is in the list
module _ {A : Type 0} (D : A → Type 0) (S : A → A → Type 0) (xs : List A)
    (member : (a : A) → D a → Contains xs a) (stepping : (a b : A) → S a b → Contains xs a) where
  -- what reaches there is in the list
  leading : (a : A) → Reaches D S a → Contains xs a
  leading a (directly d) = member a d
  leading a (through b s l) = stepping a b s

  -- and has a path to one that has it directly
  reaches-path : (a : A) → Reaches D S a → (b : A) × Contains xs b × (Path S xs a b × D b)
  reaches-path a (directly d) = (a, member a d, (path-short S xs a a (inl refl), d))
  reaches-path a (through b s l) =
      let rest = reaches-path b l in (
        rest.0,
        rest.1,
        (
          path-joined S xs a b rest.0 (leading b l)
              (path-short S xs a b (inr s)) rest.2.0,
          rest.2.1,
        ),
      )

  -- so it is decidable whether something reaches there
  pub decidable_reaches : ((a b : A) → IsDecidable (a ≡ b)) → ((a : A) → IsDecidable (D a))
      → ((a b : A) → IsDecidable (S a b)) → (a : A) → IsDecidable (Reaches D S a)
  decidable_reaches same direct step a =
      decidable_like (λ h. path-reaches D S xs a h.0 h.2.0 (directly h.2.1)) (reaches-path a)
      (decidable_some (λ b. Path S xs a b × D b)
      (λ b. decidable_both (path-decidable S same step xs a b) (direct b)) xs)
