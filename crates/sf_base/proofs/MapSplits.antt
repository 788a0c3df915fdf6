-- Partial maps that split in two disjoint parts, for any keys and values.
-- Names: `splits-LAW` speaks of `Splits whole left right`, `empty-LAW` of an empty map, `part-LAW` of a
-- part of a map; `_left` and `_right` say on which side.
use Rattle.std.specs.Prelude.{◌≡◌, Bool, true, false, cond, Option, Some, None, ◌⊎◌}
use Rattle.std.specs.Option.{option_or}
use Rattle.std.proofs.Common.{sym, ap, ap₂, ◌∙◌, refl, subst, inl, inr}
use Rattle.sf_base.specs.HeapStore.{Map, Apart, Splits, IsEmpty}
use Rattle.sf_base.proofs.Options.{option_or-assoc}

-- Laws of what is at one key
module _ {X : Type 0} where
  apart-comm : (x y : Option X) → Apart x y → Apart y x
  apart-comm None None e = tt
  apart-comm None (Some y) e = tt
  apart-comm (Some x) None e = tt
  apart-comm (Some x) (Some y) e = absurd e

  or-comm : (x y : Option X) → Apart x y → option_or x y ≡ option_or y x
  or-comm None None e = refl
  or-comm None (Some y) e = refl
  or-comm (Some x) None e = refl
  or-comm (Some x) (Some y) e = absurd e

  apart-second : (x y z : Option X) → Apart (option_or x y) z → Apart y z
  apart-second None y z e = e
  apart-second (Some x) None z e = tt
  apart-second (Some x) (Some y) None e = tt
  apart-second (Some x) (Some y) (Some z) e = absurd e

  apart-first : (x y z : Option X) → Apart x y → Apart (option_or x y) z → Apart x (option_or y z)
  apart-first None y z e f = tt
  apart-first (Some x) None z e f = f
  apart-first (Some x) (Some y) z e f = absurd e

  or-none : (x : Option X) → option_or x None ≡ x
  or-none None = refl
  or-none (Some x) = refl

  -- nothing is apart from anything
  pub apart-none : (x : Option X) → Apart x None
  apart-none None = tt
  apart-none (Some x) = tt

  or-cancel : (x y z : Option X) → Apart x y → Apart x z → option_or x y ≡ option_or x z → y ≡ z
  or-cancel None y z d e p = p
  or-cancel (Some x) None None d e p = refl
  or-cancel (Some x) None (Some z) d e p = absurd e
  or-cancel (Some x) (Some y) z d e p = absurd d

  or-none_both : (x y : Option X) → option_or x y ≡ None → (x ≡ None) × (y ≡ None)
  or-none_both None y e = (refl, e)
  or-none_both (Some x) y e = absurd (cc)

  none-of_apart : (x y : Option X) (v : X) → x ≡ Some v → Apart x y → y ≡ None
  none-of_apart None y v e d = absurd (cc)
  none-of_apart (Some x) None v e d = refl
  none-of_apart (Some x) (Some y) v e d = absurd d

  or-some : (x y : Option X) (v : X) → x ≡ Some v → option_or x y ≡ Some v
  or-some None y v e = absurd (cc)
  or-some (Some x) y v e = e

  or-which : (x y : Option X) (v : X) → Apart x y → option_or x y ≡ Some v
      → ((x ≡ Some v) × (y ≡ None)) ⊎ ((y ≡ Some v) × (x ≡ None))
  or-which None y v d e = inr (e, refl)
  or-which (Some x) None v d e = inl (e, refl)
  or-which (Some x) (Some y) v d e = absurd d

  apart-put : (b : Bool) (x y v : Option X) → Apart x y → (b ≡ true → y ≡ None) → Apart (cond b v x) y
  apart-put true x y v d n = subst (Apart v) (sym (n refl)) (apart-none v)
  apart-put false x y v d n = d

  or-put : (b : Bool) (x y v : Option X) → (b ≡ true → y ≡ None)
      → cond b v (option_or x y) ≡ option_or (cond b v x) y
  or-put true x y v n = sym (or-none v) ∙ ap (option_or v) (sym (n refl))
  or-put false x y v n = refl

  apart-by_test : (b : Bool) (x : Option X) → Apart (cond b x None) (cond b None x)
  apart-by_test true x = apart-none x
  apart-by_test false x = tt

  or-by_test : (b : Bool) (x : Option X) → x ≡ option_or (cond b x None) (cond b None x)
  or-by_test true x = sym (or-none x)
  or-by_test false x = refl

  -- what is left of the second where the first has nothing
  abbrev left_over : Option X → Option X → Option X
  left_over None y = y
  left_over (Some x) y = None

  apart-left_over : (x y : Option X) → Apart x (left_over x y)
  apart-left_over None y = tt
  apart-left_over (Some x) y = tt

  or-left_over : (x y : Option X) → ((v : X) → x ≡ Some v → y ≡ Some v) → y ≡ option_or x (left_over x y)
  or-left_over None y e = refl
  or-left_over (Some x) y e = e x refl

  same-at_none : (x y z : Option X) → (x ≡ None) × (y ≡ None) → x ≡ y
  same-at_none x y z e = e.0 ∙ sym e.1

-- Maps
module _ {K X : Type 0} where
  -- what is in the first, and else what is in the second
  abbrev pub union : Map K X → Map K X → Map K X
  union left right = λ key. option_or (left key) (right key)

  -- the map with nothing in it
  abbrev pub empty_map : Map K X
  empty_map = λ key. None

  -- the map with that entry at each key that passes a test: put an entry, or remove what is there
  abbrev pub changed : (K → Bool) → Option X → Map K X → Map K X
  changed test entry map = λ key. cond (test key) entry (map key)

  -- what is at the keys that pass a test
  abbrev pub only : (K → Bool) → Map K X → Map K X
  only test map = λ key. cond (test key) (map key) None

  -- what the second has where the first has nothing
  abbrev pub rest_of : Map K X → Map K X → Map K X
  rest_of part whole = λ key. left_over (part key) (whole key)

  -- maps with the same at each key are the same
  pub map-same : (one two : Map K X) → ((key : K) → one key ≡ two key) → one ≡ two
  map-same one two e = λ i key. e key i

  -- the parts may be exchanged
  pub splits-comm : {whole left right : Map K X} → Splits whole left right → Splits whole right left
  splits-comm s =
      record { apart = λ a. apart-comm _ _ (s.apart a); is = λ a. s.is a ∙ or-comm _ _ (s.apart a) }

  -- the whole is the union
  pub splits-is : {whole left right : Map K X} → Splits whole left right → whole ≡ union left right
  splits-is {whole} {left} {right} s = map-same whole (union left right) s.is

  -- maps that are apart are the parts of their union
  pub splits-union : {left right : Map K X} → ((key : K) → Apart (left key) (right key))
      → Splits (union left right) left right
  splits-union d = record { apart = d; is = λ key. refl }

  -- two parts have one whole
  pub splits-same_whole : {whole other left right : Map K X} → Splits whole left right
      → Splits other left right → whole ≡ other
  splits-same_whole s t = splits-is s ∙ sym (splits-is t)

  -- (a b) c becomes a (b c)
  pub splits-assoc_right : {whole ab a b c : Map K X} → Splits ab a b → Splits whole ab c
      → Splits (union b c) b c × Splits whole a (union b c)
  splits-assoc_right {whole} {ab} {a} {b} {c} i j =
      let d : (p : K) → Apart (option_or (a p) (b p)) (c p) =
      λ p. subst (λ x. Apart x (c p)) (i.is p) (j.apart p) in (
        record { apart = λ p. apart-second (a p) (b p) (c p) (d p); is = λ p. refl },
        record {
          apart = λ p. apart-first (a p) (b p) (c p) (i.apart p) (d p);
          is = λ p. j.is p ∙ ap (λ x. option_or x (c p)) (i.is p) ∙ option_or-assoc (a p) (b p) (c p);
        },
      )

  -- a (b c) becomes (a b) c
  pub splits-assoc_left : {whole bc a b c : Map K X} → Splits bc b c → Splits whole a bc
      → Splits (union a b) a b × Splits whole (union a b) c
  splits-assoc_left {whole} {c = c} i j =
      let m = splits-assoc_right (splits-comm i) (splits-comm j) in
      let n = splits-comm m.0 in
      (splits-union n.apart, subst (λ z. Splits whole z c) (splits-is n) (splits-comm m.1))

  -- a (b c) becomes b (a c)
  pub splits-swap : {whole bc a b c : Map K X} → Splits bc b c → Splits whole a bc
      → Splits (union a c) a c × Splits whole b (union a c)
  splits-swap i j = let m = splits-assoc_left i j in splits-assoc_right (splits-comm m.0) m.1

  -- (a b) (c d) becomes (a c) (b d)
  pub splits-cross : {whole ab cd a b c d : Map K X} → Splits ab a b → Splits cd c d → Splits whole ab cd
      → Splits (union a c) a c × Splits (union b d) b d × Splits whole (union a c) (union b d)
  splits-cross i j k =
      let m = splits-assoc_right i k in
      let n = splits-swap j m.0 in
      let o = splits-assoc_left n.1 m.1 in
      (o.0, n.0, o.1)

  -- the right part is determined by the whole and the left part
  pub splits-cancel_left : {whole left one two : Map K X} → Splits whole left one → Splits whole left two
      → one ≡ two
  splits-cancel_left {whole} {left} {one} {two} s t =
      map-same one two
      (λ a. or-cancel (left a) (one a) (two a) (s.apart a) (t.apart a) (sym (s.is a) ∙ t.is a))

  -- the left part is determined by the whole and the right part
  pub splits-cancel_right : {whole right one two : Map K X} → Splits whole one right
      → Splits whole two right → one ≡ two
  splits-cancel_right s t = splits-cancel_left (splits-comm s) (splits-comm t)

  -- an empty map is the one with nothing in it
  pub empty-is : {map : Map K X} → IsEmpty map → map ≡ empty_map
  empty-is {map} e = map-same map empty_map e.none

  -- there is one empty map
  pub empty-same : {one two : Map K X} → IsEmpty one → IsEmpty two → one ≡ two
  empty-same a b = empty-is a ∙ sym (empty-is b)

  -- the map with nothing in it is empty
  pub empty-holds : IsEmpty empty_map
  empty-holds = record { none = λ key. refl }

  -- everything is itself and nothing
  pub splits-empty_right : {map empty : Map K X} → IsEmpty empty → Splits map map empty
  splits-empty_right {map} {empty} e =
      record {
        apart = λ a. subst (Apart (map a)) (sym (e.none a)) (apart-none (map a));
        is = λ a. sym (or-none (map a)) ∙ ap (option_or (map a)) (sym (e.none a));
      }

  -- everything is nothing and itself
  pub splits-empty_left : {map empty : Map K X} → IsEmpty empty → Splits map empty map
  splits-empty_left e = splits-comm (splits-empty_right e)

  -- with nothing on the right the left part is the whole
  pub splits-of_empty_right : {whole left right : Map K X} → IsEmpty right → Splits whole left right
      → whole ≡ left
  splits-of_empty_right {whole} {left} {right} e s =
      map-same whole left (λ a. s.is a ∙ ap (option_or (left a)) (e.none a) ∙ or-none (left a))

  -- with nothing on the left the right part is the whole
  pub splits-of_empty_left : {whole left right : Map K X} → IsEmpty left → Splits whole left right
      → whole ≡ right
  splits-of_empty_left e s = splits-of_empty_right e (splits-comm s)

  -- the parts of an empty map are empty
  pub splits-empty_parts : {whole left right : Map K X} → IsEmpty whole → Splits whole left right
      → IsEmpty left × IsEmpty right
  splits-empty_parts e s = (
    record { none = λ a. (or-none_both _ _ (sym (s.is a) ∙ e.none a)).0 },
    record { none = λ a. (or-none_both _ _ (sym (s.is a) ∙ e.none a)).1 },
  )

  -- the union of empty parts is empty
  pub splits-empty_whole : {whole left right : Map K X} → IsEmpty left → IsEmpty right
      → Splits whole left right → IsEmpty whole
  splits-empty_whole e f s = record { none = λ a. s.is a ∙ ap₂ option_or (e.none a) (f.none a) }

  -- what the left part has, the whole has
  pub splits-has_left : {whole left right : Map K X} (key : K) (entry : X) → Splits whole left right
      → left key ≡ Some entry → whole key ≡ Some entry
  splits-has_left a v s e = s.is a ∙ or-some _ _ v e

  -- what the right part has, the whole has
  pub splits-has_right : {whole left right : Map K X} (key : K) (entry : X) → Splits whole left right
      → right key ≡ Some entry → whole key ≡ Some entry
  splits-has_right a v s e = splits-has_left a v (splits-comm s) e

  -- what the left part has, the right part lacks
  pub splits-lacks_right : {whole left right : Map K X} (key : K) (entry : X) → Splits whole left right
      → left key ≡ Some entry → right key ≡ None
  splits-lacks_right a v s e = none-of_apart _ _ v e (s.apart a)

  -- what the right part has, the left part lacks
  pub splits-lacks_left : {whole left right : Map K X} (key : K) (entry : X) → Splits whole left right
      → right key ≡ Some entry → left key ≡ None
  splits-lacks_left a v s e = splits-lacks_right a v (splits-comm s) e

  -- what the whole lacks, both parts lack
  pub splits-lacks_both : {whole left right : Map K X} (key : K) → Splits whole left right
      → whole key ≡ None → (left key ≡ None) × (right key ≡ None)
  splits-lacks_both a s e = or-none_both _ _ (sym (s.is a) ∙ e)

  -- what both parts lack, the whole lacks
  pub splits-lacks_whole : {whole left right : Map K X} (key : K) → Splits whole left right
      → left key ≡ None → right key ≡ None → whole key ≡ None
  splits-lacks_whole a s e f = s.is a ∙ ap₂ option_or e f

  -- what the whole has is in just one of the parts
  pub splits-which : {whole left right : Map K X} (key : K) (entry : X) → Splits whole left right
      → whole key ≡ Some entry
      → ((left key ≡ Some entry) × (right key ≡ None)) ⊎ ((right key ≡ Some entry) × (left key ≡ None))
  splits-which a v s e = or-which _ _ v (s.apart a) (sym (s.is a) ∙ e)

  -- where the right part has nothing, the whole is as the left part
  pub splits-at_left : {whole left right : Map K X} (key : K) → Splits whole left right → right key ≡ None
      → whole key ≡ left key
  splits-at_left {left = left} a s e = s.is a ∙ ap (option_or (left a)) e ∙ or-none (left a)

  -- where the left part has nothing, the whole is as the right part
  pub splits-at_right : {whole left right : Map K X} (key : K) → Splits whole left right → left key ≡ None
      → whole key ≡ right key
  splits-at_right a s e = splits-at_left a (splits-comm s) e

  -- a change at keys that the right part lacks is one of the left part
  pub splits-changed_left : {whole left right : Map K X} (test : K → Bool) (entry : Option X)
      → ((key : K) → test key ≡ true → right key ≡ None) → Splits whole left right
      → Splits (changed test entry whole) (changed test entry left) right
  splits-changed_left {whole} {left} {right} test v n s = record {
    apart = λ a. apart-put (test a) (left a) (right a) v (s.apart a) (n a);
    is = λ a. ap (cond (test a) v) (s.is a) ∙ or-put (test a) (left a) (right a) v (n a);
  }

  -- a change at keys that the left part lacks is one of the right part
  pub splits-changed_right : {whole left right : Map K X} (test : K → Bool) (entry : Option X)
      → ((key : K) → test key ≡ true → left key ≡ None) → Splits whole left right
      → Splits (changed test entry whole) left (changed test entry right)
  splits-changed_right test v n s = splits-comm (splits-changed_left test v n (splits-comm s))

  -- a change at one key that the right part lacks is one of the left part; the test is true of that key alone
  pub splits-put_left : {whole left right : Map K X} (test : K → Bool) (here : K) (entry : Option X)
      → ((key : K) → test key ≡ true → key ≡ here) → right here ≡ None → Splits whole left right
      → Splits (changed test entry whole) (changed test entry left) right
  splits-put_left {right = right} test here v only_here n s =
      splits-changed_left test v (λ a t. subst (λ z. right z ≡ None) (sym (only_here a t)) n) s

  -- a change at one key that the left part lacks is one of the right part
  pub splits-put_right : {whole left right : Map K X} (test : K → Bool) (here : K) (entry : Option X)
      → ((key : K) → test key ≡ true → key ≡ here) → left here ≡ None → Splits whole left right
      → Splits (changed test entry whole) left (changed test entry right)
  splits-put_right test here v only_here n s =
      splits-comm (splits-put_left test here v only_here n (splits-comm s))

  -- a map splits by any test of its keys
  pub splits-by_test : (test : K → Bool) (map : Map K X) → Splits map (only test map) (changed test None map)
  splits-by_test test map =
      record { apart = λ a. apart-by_test (test a) (map a); is = λ a. or-by_test (test a) (map a) }

  -- a map of which everything is in another is a part of that one
  pub splits-rest : {part whole : Map K X}
      → ((key : K) (entry : X) → part key ≡ Some entry → whole key ≡ Some entry)
      → Splits whole part (rest_of part whole)
  splits-rest {part} {whole} e =
      record {
        apart = λ a. apart-left_over (part a) (whole a);
        is = λ a. or-left_over (part a) (whole a) (e a);
      }

-- one map is a part of another
pub record IsPart {K X : Type 0} (part whole : Map K X) : Type 0 where
  pub rest : Map K X
  pub splits : Splits whole part rest

module _ {K X : Type 0} where
  -- the left part is a part
  pub part-left : {whole left right : Map K X} → Splits whole left right → IsPart left whole
  part-left s = record { rest = _; splits = s }

  -- the right part is a part
  pub part-right : {whole left right : Map K X} → Splits whole left right → IsPart right whole
  part-right s = record { rest = _; splits = splits-comm s }

  -- a map is a part of itself
  pub part-refl : (map : Map K X) → IsPart map map
  part-refl map = part-left (splits-empty_right empty-holds)

  -- a part of a part is a part
  pub part-trans : {small middle whole : Map K X} → IsPart small middle → IsPart middle whole
      → IsPart small whole
  part-trans p q = part-left (splits-assoc_right p.splits q.splits).1

  -- what a part has, the whole has
  pub part-has : {part whole : Map K X} (key : K) (entry : X) → IsPart part whole → part key ≡ Some entry
      → whole key ≡ Some entry
  part-has a v p e = splits-has_left a v p.splits e

  -- a map of which everything is in another is a part of that one
  pub part-of_has : {part whole : Map K X}
      → ((key : K) (entry : X) → part key ≡ Some entry → whole key ≡ Some entry) → IsPart part whole
  part-of_has e = part-left (splits-rest e)

  -- parts of each other are the same
  pub part-antisym : {one two : Map K X} → IsPart one two → IsPart two one → one ≡ two
  part-antisym {one} {two} p q = map-same one two (λ a. go a (one a) (two a) refl refl)
    where
      go : (a : K) (x y : Option X) → one a ≡ x → two a ≡ y → one a ≡ two a
      go a None None e f = e ∙ sym f
      go a (Some x) y e f = e ∙ sym (part-has a x p e)
      go a None (Some y) e f = part-has a y q f ∙ sym f
