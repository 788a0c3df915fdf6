-- Doubly linked segments: precise, finite, composed, with no cell at the end, read from either end.
-- Names: `dseg-LAW` speaks of `Dseg next back last to before from heap`.
use Rattle.std.specs.Prelude.{◌≡◌, ◌≢◌, ℕ, Some, None}
use Rattle.std.proofs.Common.{sym, ap, ◌∙◌, refl, subst, subst₂}
use Rattle.std.proofs.lemmas.Option.{none-some, same_Some}
use Rattle.sf_base.specs.declared.ids.FieldId.{FieldId}
use Rattle.sf_base.specs.declared.value.Value.{Value}
use Rattle.sf_base.specs.declared.value.Value.TheVariants.{Nil as nil, Loc as loc}
use Rattle.sf_base.proofs.Sums.{either}
use Rattle.sf_core.proofs.Assertions.Finite.{finite-empty, finite-one, finite-splits}
use Rattle.sf_core.proofs.Assertions.Segments.{loc-same, nil-not_loc}
use Rattle.sf_core.proofs.Assertions.Values.{value-which}
use Rattle.sf_base.proofs.HeapSplits.{one-in, one-same}
use Rattle.sf_base.proofs.MapSplits.{splits-comm, splits-assoc_left, splits-assoc_right, splits-empty_right, splits-lacks_both, splits-lacks_whole, splits-lacks_right, splits-of_empty_left, splits-same_whole, splits-has_left, empty-same}
use Rattle.sf_base.specs.HeapStore.{Cell, Heap, IsEmpty, IsOne, Splits}
use Rattle.sf_core.specs.Checked.Assertions.Precise.{IsPrecise}
use Rattle.sf_core.specs.Assertions.Sat.{Dseg, empty, linked}
use Rattle.sf_core.specs.Checked.Assertions.Shape.{IsFinite}

-- doubly linked segments from one value to one value in one heap are the same
pub dseg-same : {next back : FieldId} {last final to from also before previous : Value}
    {heap one two other another : Heap}
    → Dseg next back last to before from one → Dseg next back final to previous also two → from ≡ also
    → Splits heap one other → Splits heap two another → one ≡ two
dseg-same (empty e b m) (empty f c n) i s t = empty-same m n
dseg-same (empty e b m) (linked n a c g r p o u k d) i s t = absurd (n (sym i ∙ e))
dseg-same (linked n a c g r p o u k d) (empty f b m) i s t = absurd (n (i ∙ f))
dseg-same {next} {heap = heap} {one = one} {two = two} (linked n a c g r p o u k d)
    (linked n2 a2 c2 g2 r2 p2 o2 u2 k2 d2) i s t =
    let place : a ≡ a2 = loc-same a a2 (sym p ∙ i ∙ p2) in
    let here : heap a ≡ Some c = splits-has_left a c s (one-in o u) in
    let there : heap a2 ≡ Some c2 = splits-has_left a2 c2 t (one-in o2 u2) in
    let same : c ≡ c2 = same_Some c c2 (sym here ∙ ap heap place ∙ there) in
    let cells : g ≡ g2 = one-same o (subst₂ (λ x y. IsOne x y g2) (sym place) (sym same) o2) in
    let rests : r ≡ r2 = dseg-same d d2 (ap (λ z. z next.0) same) (splits-assoc_right (splits-comm u) s).1
    (splits-assoc_right (splits-comm u2) t).1 in
    splits-same_whole (subst₂ (Splits one) cells rests u) u2

-- a doubly linked segment is precise
pub dseg-precise : (next back : FieldId) (from before last to : Value)
    → IsPrecise (Dseg next back last to before from)
dseg-precise next back from before last to h g k r q s t d e = dseg-same d e refl s t

-- a doubly linked segment between other values that are the same
pub dseg-agree : {next back : FieldId} {last to before from last2 to2 before2 from2 : Value} {heap : Heap}
    → from ≡ from2 → before ≡ before2 → last ≡ last2 → to ≡ to2 → Dseg next back last to before from heap
    → Dseg next back last2 to2 before2 from2 heap
dseg-agree {next} {back} {last} {to} {before2 = before2} {from2 = from2} {heap = heap} f b l t d =
    subst₂ (λ x y. Dseg next back x y before2 from2 heap) l t
    (subst₂ (λ x y. Dseg next back last to x y heap) b f d)

-- a doubly linked segment is finite
pub dseg-finite : {next back : FieldId} {last to before from : Value} {heap : Heap}
    → Dseg next back last to before from heap → IsFinite heap
dseg-finite (empty e b m) = finite-empty m
dseg-finite (linked n a c g r p o u k d) = finite-splits u (finite-one o) (dseg-finite d)

-- a doubly linked segment that ends where it begins is empty, and its last cell is what stands before it
pub dseg-empty : {next back : FieldId} {last to before from : Value} {heap : Heap} → from ≡ to
    → Dseg next back last to before from heap → (before ≡ last) × IsEmpty heap
dseg-empty i (empty e b m) = (b, m)
dseg-empty i (linked n a c g r p o u k d) = absurd (n i)

-- one from no location is empty and ends where it begins
pub dseg-no_location : {next back : FieldId} {last to before from : Value} {heap : Heap}
    → ((location : ℕ) → from ≡ loc location → ⊥) → Dseg next back last to before from heap
    → (from ≡ to) × (before ≡ last) × IsEmpty heap
dseg-no_location i (empty e b m) = (e, b, m)
dseg-no_location i (linked n a c g r p o u k d) = absurd (i a p)

-- the first cell of a doubly linked segment, and the segment after it
pub record First (next back : FieldId) (last to before from : Value) (heap : Heap) : Type 0 where
  pub location : ℕ
  pub here : Cell
  pub one : Heap
  pub rest : Heap
  pub is : from ≡ loc location
  pub cell : IsOne location here one
  pub splits : Splits heap one rest
  pub back_to : here back.0 ≡ before
  pub behind : Dseg next back last to from (here next.0) rest

-- one whose ends differ has a first cell
pub dseg-first : {next back : FieldId} {last to before from : Value} {heap : Heap} → from ≢ to
    → Dseg next back last to before from heap → First next back last to before from heap
dseg-first i (empty e b m) = absurd (i e)
dseg-first i (linked n a c g r p o u k d) =
    record { location = a; here = c; one = g; rest = r; is = p; cell = o; splits = u; back_to = k; behind = d }

-- one whose ends differ has a cell at its first location
pub dseg-first_cell : {next back : FieldId} {last to before from : Value} {heap : Heap} → from ≢ to
    → Dseg next back last to before from heap
    → (location : ℕ) × (here : Cell) × (from ≡ loc location) × (heap location ≡ Some here)
dseg-first_cell i d = let h = dseg-first i d in (h.location, h.here, h.is, one-in h.cell h.splits)

-- one cell that leads to the end and back is a doubly linked segment
pub dseg-one : {next back : FieldId} {last to before from : Value} {heap : Heap} (location : ℕ) (here : Cell)
    → from ≢ to → from ≡ loc location → from ≡ last → IsOne location here heap → here back.0 ≡ before
    → here next.0 ≡ to → Dseg next back last to before from heap
dseg-one a c n p l o k e = linked n a c _ _ p o (splits-empty_right (record { none = λ b. refl })) k
    (empty e l (record { none = λ b. refl }))

-- a doubly linked segment has no cell at its end
pub dseg-no_end : {next back : FieldId} {last to before from : Value} {heap : Heap} (location : ℕ)
    → to ≡ loc location → Dseg next back last to before from heap → heap location ≡ None
dseg-no_end a i (empty e b m) = m.none a
dseg-no_end a i (linked n b c g r p o u k d) =
    splits-lacks_whole a u (o.elsewhere a (λ e. n (p ∙ ap loc (sym e) ∙ sym i))) (dseg-no_end a i d)

-- one and another after it are one, where the first has no cell at the end of the second
pub dseg-append : {next back : FieldId} {middle last to far before from : Value} {heap first second : Heap}
    → ((location : ℕ) → to ≡ loc location → first location ≡ None) → Splits heap first second
    → Dseg next back middle far before from first → Dseg next back last to middle far second
    → Dseg next back last to before from heap
dseg-append {next} {back} {middle} {last} {to} {far} {heap = heap} i s (empty e b m) d =
    subst₂ (λ x y. Dseg next back last to x y heap) (sym b) (sym e)
    (subst (Dseg next back last to middle far) (sym (splits-of_empty_left m s)) d)
dseg-append i s (linked n a c g r p o u k d) e =
    let m = splits-assoc_right u s in
    linked (λ j. none-some c (sym (i a (sym j ∙ p)) ∙ one-in o u)) a c g _ p o m.1 k
    (dseg-append (λ b j. (splits-lacks_both b u (i b j)).1) m.0 d e)

-- one and another after it to nil are one
pub dseg-append_nil : {next back : FieldId} {middle last far before from : Value} {heap first second : Heap}
    → Splits heap first second → Dseg next back middle far before from first
    → Dseg next back last nil middle far second → Dseg next back last nil before from heap
dseg-append_nil s d e = dseg-append (λ a i. absurd (nil-not_loc a i)) s d e

-- one and another after it are one, where the end has a cell elsewhere
pub dseg-append_beside : {next back : FieldId} {middle last to far before from : Value}
    {whole heap rest first second : Heap} (location : ℕ) (here : Cell)
    → to ≡ loc location → rest location ≡ Some here → Splits whole heap rest → Splits heap first second
    → Dseg next back middle far before from first → Dseg next back last to middle far second
    → Dseg next back last to before from heap
dseg-append_beside {rest = rest} a c i h w s d e =
    dseg-append (λ b j. (splits-lacks_both b s
    (splits-lacks_right b c (splits-comm w)
    (subst (λ z. rest z ≡ Some c) (loc-same a b (sym i ∙ j)) h))).0) s d e

-- a doubly linked segment and one more cell at its end are one, where the first has no cell at the new end,
-- which is another value than the old one
pub dseg-snoc : {next back : FieldId} {middle to before from : Value} {heap first one : Heap} (location : ℕ)
    (here : Cell) → loc location ≢ to → ((other : ℕ) → to ≡ loc other → first other ≡ None)
    → Splits heap first one → Dseg next back middle (loc location) before from first
    → IsOne location here one → here back.0 ≡ middle → here next.0 ≡ to
    → Dseg next back (loc location) to before from heap
dseg-snoc a c n i s d o k e = dseg-append i s d (dseg-one a c n refl refl o k e)

-- the last cell of a doubly linked segment, and the segment up to it
pub record Last (next back : FieldId) (last to before from : Value) (heap : Heap) : Type 0 where
  pub location : ℕ
  pub here : Cell
  pub one : Heap
  pub rest : Heap
  pub is : last ≡ loc location
  pub cell : IsOne location here one
  pub splits : Splits heap rest one
  pub next_to : here next.0 ≡ to
  pub front : Dseg next back (here back.0) last before from rest

-- one that is a single cell has that as its last
last-single : {next back : FieldId} {last to before from : Value} {heap one rest : Heap} (location : ℕ)
    (here : Cell) → from ≡ loc location → IsOne location here one → Splits heap one rest
    → here back.0 ≡ before → here next.0 ≡ to → from ≡ last → IsEmpty rest
    → Last next back last to before from heap
last-single a c p o u k e l m = record {
  location = a;
  here = c;
  one = _;
  rest = _;
  is = sym l ∙ p;
  cell = o;
  splits = splits-comm u;
  next_to = e;
  front = empty l (sym k) m;
}

-- a cell before a doubly linked segment that has a last cell
last-further : {next back : FieldId} {last to before from : Value} {heap one rest : Heap} (location : ℕ)
    (here : Cell) → from ≡ loc location → IsOne location here one → Splits heap one rest
    → here back.0 ≡ before → Last next back last to from (here next.0) rest
    → Last next back last to before from heap
last-further {next} {back} {last} {from = from} {one = one} {rest = rest} a c p o u k l =
    let m = splits-assoc_left l.splits u in
    record {
      location = l.location;
      here = l.here;
      one = l.one;
      rest = _;
      is = l.is;
      cell = l.cell;
      splits = m.1;
      next_to = l.next_to;
      front = linked differ a c one l.rest p o m.0 k l.front;
    }
  where
    -- the last cell is apart from the first
    differ : from ≢ last
    differ e =
        let same : a ≡ l.location = loc-same a l.location (sym p ∙ e ∙ l.is) in
        none-some l.here
        (sym (ap rest (sym same) ∙ splits-lacks_right a c u o.here)
        ∙ splits-has_left l.location l.here (splits-comm l.splits) l.cell.here)

-- one whose ends differ has a last cell
pub dseg-last : {next back : FieldId} {last to before from : Value} {heap : Heap} → from ≢ to
    → Dseg next back last to before from heap → Last next back last to before from heap
dseg-last i (empty e b m) = absurd (i e)
dseg-last {next} {to = to} i (linked n a c g r p o u k d) = either (value-which (c next.0) to)
    (λ e. let m = dseg-empty e d in last-single a c p o u k e m.0 m.1)
    (λ e. last-further a c p o u k (dseg-last e d))

-- one whose ends differ has a cell at its last location
pub dseg-last_cell : {next back : FieldId} {last to before from : Value} {heap : Heap} → from ≢ to
    → Dseg next back last to before from heap
    → (location : ℕ) × (here : Cell) × (last ≡ loc location) × (heap location ≡ Some here)
dseg-last_cell i d =
    let l = dseg-last i d in
    (l.location, l.here, l.is, splits-has_left l.location l.here (splits-comm l.splits) l.cell.here)
