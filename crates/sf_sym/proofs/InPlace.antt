-- Lists whose elements are changed in place, one after the other.
-- Names: `map_next` is the step of such a loop, `viewed_next` that of elements as definitions see them.
use Rattle.std.proofs.Common.{◌≡◌, ℕ, ◌+◌, ◌<◌, List, [], ◌∷◌, ◌++◌, length, get_or, map, take, drop, slice_set, Vec, Global, sym, ap, ◌∙◌, arith}
use Rattle.std.proofs.lemmas.List.{map-set, get_or-map, get_or_default, length-map}
use Rattle.std.proofs.lemmas.List.Edits.{map_over_more}
use Rattle.std.specs.Vec.{with_items}
use Rattle.sf_base.specs.declared.ids.FieldId.{FieldId}
use Rattle.sf_sym.specs.declared.term.Term.{Term}
use Rattle.sf_sym.specs.Fields.{AreOrdered}
use Rattle.sf_sym.proofs.PutTerms.{refill-whole}
use Rattle.std.specs.List.{AllByRecursion, refill}

-- one more element is what f makes of it
pub map_next : {X : Type 0} (f : X → X) (xs ys : List X) (i : ℕ) (d y : X) → i < length xs
    → length ys ≡ length xs → ys ≡ map f (take i xs) ++ drop i xs → y ≡ f (get_or ys i d)
    → slice_set ys i y ≡ map f (take (i + 1) xs) ++ drop (i + 1) xs
map_next f xs ys i d y lt n e v =
    ap (slice_set ys i) v
    ∙ map_over_more f xs ys i (get_or ys i d) lt e (get_or_default ys i d (get_or ys i d) (omega arith))

module _ {X Y : Type 0} (view : X → Y) (f : Y → Y) (xs : List X) where
  -- the same of elements as definitions see them
  pub viewed_next : (ys : List X) (i : ℕ) (d y : X) → i < length xs → length ys ≡ length xs
      → map view ys ≡ map f (take i (map view xs)) ++ drop i (map view xs)
      → view y ≡ f (view (get_or ys i d))
      → map view (slice_set ys i y) ≡ map f (take (i + 1) (map view xs)) ++ drop (i + 1) (map view xs)
  viewed_next ys i d y lt n e v =
      let within : i < length ys = omega arith in
      map-set view ys i y
      ∙ map_next f (map view xs) (map view ys) i (view d) (view y) (omega (arith, length-map xs view))
      (length-map ys view ∙ n ∙ sym (length-map xs view)) e
      (v ∙ ap f (sym (get_or-map view ys i d (view d) within)))

-- a vector that was lent whole comes back whole
pub vec-whole : {X : Type 0} (v : Vec X Global) (ws : List X) → length ws ≡ length v.items
    → (with_items v ws).items ≡ ws
vec-whole v ws e =
    ap (λ n. refill n v.items ws) v.ok.0 ∙ refill-whole v.items ws e

-- its elements as definitions see them, where each was changed
pub vec-viewed : {X Y : Type 0} (view : X → Y) (f : Y → Y) (v : Vec X Global) (ws now : List X)
    → length ws ≡ length now → now ≡ v.items → map view ws ≡ map f (map view now)
    → map view (with_items v ws).items ≡ map f (map view v.items)
vec-viewed view f v ws now n is e =
    ap (map view) (vec-whole v ws (n ∙ ap length is)) ∙ e ∙ ap (λ xs. map f (map view xs)) is

pub vec-mapped : {X : Type 0} (f : X → X) (v : Vec X Global) (ws now : List X) → length ws ≡ length now
    → now ≡ v.items → ws ≡ map f now → (with_items v ws).items ≡ map f v.items
vec-mapped f v ws now n is e = vec-whole v ws (n ∙ ap length is) ∙ e ∙ ap (map f) is

-- what holds of each element's image holds of each element of the image
pub all-image : {X Y : Type 0} (P : Y → Type 0) (f : X → Y) (xs : List X) → AllByRecursion (λ x. P (f x)) xs
    → AllByRecursion P (map f xs)
all-image P f [] a = tt
all-image P f (x ∷ xs) a = (a.0, all-image P f xs a.1)

-- fields with other terms are in the same order
pub ordered-map : (to : Term → Term) (fs : List (FieldId × Term)) → AreOrdered fs
    → AreOrdered (map (λ f. (f.0, to f.1)) fs)
ordered-map to [] o = tt
ordered-map to (f ∷ fs) o =
    (all-image (λ g. f.0.0 < g.0.0) (λ (g : FieldId × Term). (g.0, to g.1)) fs o.0, ordered-map to fs o.1)
