-- List segments: precise, finite, composed, and with no cell at the end.
-- Names: `seg-LAW` speaks of `Seg next to from heap`.
use Rattle.std.specs.Prelude.{◌≡◌, ◌≢◌, ℕ, Some, None}
use Rattle.std.proofs.Common.{sym, ap, ◌∙◌, refl, subst, subst₂}
use Rattle.std.proofs.lemmas.Option.{none-some, same_Some}
use Rattle.sf_base.specs.declared.ids.FieldId.{FieldId}
use Rattle.sf_base.specs.declared.value.Value.{Value}
use Rattle.sf_base.specs.declared.value.Value.TheVariants.{Nil as nil, Loc as loc}
use Rattle.sf_core.proofs.Assertions.Finite.{finite-empty, finite-one, finite-splits}
use Rattle.sf_base.proofs.HeapSplits.{one-in, one-same}
use Rattle.sf_base.proofs.MapSplits.{splits-comm, splits-assoc_right, splits-empty_right, splits-lacks_both, splits-lacks_whole, splits-lacks_right, splits-of_empty_left, splits-same_whole, splits-has_left, empty-same}
use Rattle.sf_base.specs.HeapStore.{Cell, Heap, IsEmpty, IsOne, Splits}
use Rattle.sf_core.specs.Checked.Assertions.Precise.{IsPrecise}
use Rattle.sf_core.specs.Assertions.Sat.{Seg, end, cell}
use Rattle.sf_core.specs.Checked.Assertions.Shape.{IsFinite}

-- one location, one number
pub loc-same : (one two : ℕ) → loc one ≡ loc two → one ≡ two
loc-same a b e = cc

-- nil is no location
pub nil-not_loc : (location : ℕ) → nil ≡ loc location → ⊥
nil-not_loc a e = cc

-- segments from one value to one value in one heap are the same
pub seg-same : {next : FieldId} {to from also : Value} {heap one two other another : Heap}
    → Seg next to from one → Seg next to also two → from ≡ also → Splits heap one other
    → Splits heap two another → one ≡ two
seg-same (end e m) (end f n) i s t = empty-same m n
seg-same (end e m) (cell n a c g r p o u d) i s t = absurd (n (sym i ∙ e))
seg-same (cell n a c g r p o u d) (end f m) i s t = absurd (n (i ∙ f))
seg-same {next} {heap = heap} {one = one} {two = two} (cell n a c g r p o u d)
    (cell n2 a2 c2 g2 r2 p2 o2 u2 d2) i s t =
    let place : a ≡ a2 = loc-same a a2 (sym p ∙ i ∙ p2) in
    let here : heap a ≡ Some c = splits-has_left a c s (one-in o u) in
    let there : heap a2 ≡ Some c2 = splits-has_left a2 c2 t (one-in o2 u2) in
    let same : c ≡ c2 = same_Some c c2 (sym here ∙ ap heap place ∙ there) in
    let cells : g ≡ g2 = one-same o (subst₂ (λ x y. IsOne x y g2) (sym place) (sym same) o2) in
    let rests : r ≡ r2 = seg-same d d2 (ap (λ z. z next.0) same) (splits-assoc_right (splits-comm u) s).1
    (splits-assoc_right (splits-comm u2) t).1 in
    splits-same_whole (subst₂ (Splits one) cells rests u) u2

-- a segment is precise
pub seg-precise : (next : FieldId) (from to : Value) → IsPrecise (Seg next to from)
seg-precise next from to h g k r q s t d e = seg-same d e refl s t

-- a segment is finite
pub seg-finite : {next : FieldId} {to from : Value} {heap : Heap} → Seg next to from heap → IsFinite heap
seg-finite (end e m) = finite-empty m
seg-finite (cell n a c g r p o u d) = finite-splits u (finite-one o) (seg-finite d)

-- a segment that ends where it begins is empty
pub seg-empty : {next : FieldId} {to from : Value} {heap : Heap} → from ≡ to → Seg next to from heap
    → IsEmpty heap
seg-empty i (end e m) = m
seg-empty i (cell n a c g r p o u d) = absurd (n i)

-- a segment from no location is empty and ends where it begins
pub seg-no_location : {next : FieldId} {to from : Value} {heap : Heap}
    → ((location : ℕ) → from ≡ loc location → ⊥) → Seg next to from heap → (from ≡ to) × IsEmpty heap
seg-no_location i (end e m) = (e, m)
seg-no_location i (cell n a c g r p o u d) = absurd (i a p)

-- a segment from nil is empty and ends there
pub seg-from_nil : {next : FieldId} {to : Value} {heap : Heap} → Seg next to nil heap
    → (nil ≡ to) × IsEmpty heap
seg-from_nil d = seg-no_location nil-not_loc d

-- the first cell of a segment, and the segment after it
pub record Head (next : FieldId) (to from : Value) (heap : Heap) : Type 0 where
  pub location : ℕ
  pub here : Cell
  pub one : Heap
  pub rest : Heap
  pub is : from ≡ loc location
  pub cell : IsOne location here one
  pub splits : Splits heap one rest
  pub behind : Seg next to (here next.0) rest

-- a segment whose ends differ has a first cell
pub seg-head : {next : FieldId} {to from : Value} {heap : Heap} → from ≢ to → Seg next to from heap
    → Head next to from heap
seg-head i (end e m) = absurd (i e)
seg-head i (cell n a c g r p o u d) =
    record { location = a; here = c; one = g; rest = r; is = p; cell = o; splits = u; behind = d }

-- a segment whose ends differ has a cell at its first location
pub seg-first : {next : FieldId} {to from : Value} {heap : Heap} → from ≢ to → Seg next to from heap
    → (location : ℕ) × (here : Cell) × (from ≡ loc location) × (heap location ≡ Some here)
seg-first i d = let h = seg-head i d in (h.location, h.here, h.is, one-in h.cell h.splits)

-- one cell that leads to the end is a segment
pub seg-one : {next : FieldId} {to from : Value} {heap : Heap} (location : ℕ) (here : Cell) → from ≢ to
    → from ≡ loc location → IsOne location here heap → here next.0 ≡ to → Seg next to from heap
seg-one a c n p o e = cell n a c _ _ p o (splits-empty_right (record { none = λ b. refl }))
    (end e (record { none = λ b. refl }))

-- a segment has no cell at its end
pub seg-no_end : {next : FieldId} {to from : Value} {heap : Heap} (location : ℕ) → to ≡ loc location
    → Seg next to from heap → heap location ≡ None
seg-no_end a i (end e m) = m.none a
seg-no_end a i (cell n b c g r p o u d) =
    splits-lacks_whole a u (o.elsewhere a (λ e. n (p ∙ ap loc (sym e) ∙ sym i))) (seg-no_end a i d)

-- a segment and one after it are one, where the first has no cell at the end of the second
pub seg-append : {next : FieldId} {to middle from : Value} {heap first second : Heap}
    → ((location : ℕ) → to ≡ loc location → first location ≡ None) → Splits heap first second
    → Seg next middle from first → Seg next to middle second → Seg next to from heap
seg-append {next} {to} {from = from} {second = second} i s (end e m) d =
    subst₂ (Seg next to) (sym e) (sym (splits-of_empty_left m s)) d
seg-append {to = to} {from = from} {first = first} i s (cell n a c g r p o u d) e =
    let m = splits-assoc_right u s in
    cell (λ j. none-some c (sym (i a (sym j ∙ p)) ∙ one-in o u)) a c g _ p o m.1
    (seg-append (λ b j. (splits-lacks_both b u (i b j)).1) m.0 d e)

-- a segment and one after it to nil are one
pub seg-append_nil : {next : FieldId} {middle from : Value} {heap first second : Heap}
    → Splits heap first second → Seg next middle from first → Seg next nil middle second
    → Seg next nil from heap
seg-append_nil s d e = seg-append (λ a i. absurd (nil-not_loc a i)) s d e

-- a segment and one after it are one, where the end has a cell elsewhere
pub seg-append_beside : {next : FieldId} {to middle from : Value} {whole heap rest first second : Heap}
    (location : ℕ) (here : Cell) → to ≡ loc location → rest location ≡ Some here → Splits whole heap rest
    → Splits heap first second → Seg next middle from first → Seg next to middle second
    → Seg next to from heap
seg-append_beside {rest = rest} a c i h w s d e =
    seg-append (λ b j. (splits-lacks_both b s
    (splits-lacks_right b c (splits-comm w)
    (subst (λ z. rest z ≡ Some c) (loc-same a b (sym i ∙ j)) h))).0) s d e

-- a segment and one more cell at its end are a segment, where the first has no cell at the new end, which is
-- another value than the old one
pub seg-snoc : {next : FieldId} {to from : Value} {heap first one : Heap} (location : ℕ) (here : Cell)
    → loc location ≢ to → ((other : ℕ) → to ≡ loc other → first other ≡ None) → Splits heap first one
    → Seg next (loc location) from first → IsOne location here one → here next.0 ≡ to → Seg next to from heap
seg-snoc a c n i s d o e = seg-append i s d (seg-one a c n refl o e)
