-- The entries of a fork: their order, what is found among them, and what one entry more or less on one side makes of them.
-- Names: `Rises-LAW`, `AllAbove-LAW` and `AllBelow-LAW` for order, `found-SIDE`, `more-SIDE` and `taken-SIDE`.
use Rattle.std.proofs.Common.{◌≡◌, ◌≢◌, ℕ, ◌+◌, ◌<◌, cond, List, [], ◌∷◌, ◌++◌, length, Option, Some, None, IfNone, refl, sym, ap, ◌∙◌, subst, arith, append_assoc, length-append}
use Rattle.std.specs.FinMap.{insert, remove}
use Rattle.std.specs.Option.{is_some, option_or}
use Rattle.std.specs.Ordering.{nat_cmp, eq_by_cmp}
use Rattle.std.proofs.lemmas.Bool.{false≢true}
use Rattle.std.proofs.lemmas.List.{append-nil}
use Rattle.std.specs.Global.{Box}
use Rattle.sf_heap.specs.declared.tree.Entry.{Entry}
use Rattle.sf_heap.specs.declared.tree.Node.{Node}
use Rattle.sf_heap.specs.Checked.Entries.{found, map_of, AllAbove, AllBelow, Rises}
use Rattle.sf_heap.specs.Checked.Trees.{ComesBack, IsMore, IsTaken, Puts}
use Rattle.sf_heap.proofs.Keys.{at-same, at-other}
use Rattle.sf_heap.proofs.Entries.{found-above, found-below, found-one_more, Rises-less, Rises-more, map-more, map-less}
use Rattle.sf_heap.proofs.Splits.{found-append}

-- each side of a fork has fewer entries
pub shorter : (all below : List Entry) (e : Entry) (above : List Entry) → all ≡ below ++ e ∷ above
    → (length below < length all) × (length above < length all)
shorter all below e above is = omega (arith, ap length is, length-append below (e ∷ above))

-- what follows where there is nothing
pub none_then : {X A B : Type 0} (o : Option X) → IfNone o A → (A → B) → IfNone o B
none_then None h f = f h
none_then (Some x) h f = tt

-- above a location, and so above a lower one
pub AllAbove-weaker : (a b : ℕ) (es : List Entry) → a < b → AllAbove b es → AllAbove a es
AllAbove-weaker a b [] h above = tt
AllAbove-weaker a b (e ∷ es) h above = (omega (arith, above.0), AllAbove-weaker a b es h above.1)

-- below a location, and so below a greater one
pub AllBelow-weaker : (a b : ℕ) (es : List Entry) → a < b → AllBelow a es → AllBelow b es
AllBelow-weaker a b [] h below = tt
AllBelow-weaker a b (e ∷ es) h below = (omega (arith, below.0), AllBelow-weaker a b es h below.1)

AllAbove-append : (a : ℕ) (xs ys : List Entry) → AllAbove a xs → AllAbove a ys → AllAbove a (xs ++ ys)
AllAbove-append a [] ys h k = k
AllAbove-append a (x ∷ xs) ys h k = (h.0, AllAbove-append a xs ys h.1 k)

AllBelow-append : (a : ℕ) (xs ys : List Entry) → AllBelow a xs → AllBelow a ys → AllBelow a (xs ++ ys)
AllBelow-append a [] ys h k = k
AllBelow-append a (x ∷ xs) ys h k = (h.0, AllBelow-append a xs ys h.1 k)

-- the front of entries in order is in order, and so is the back
Rises-front : (xs ys : List Entry) → Rises (xs ++ ys) → Rises xs
Rises-front xs [] h = subst Rises (append-nil xs) h
Rises-front xs (y ∷ ys) h = Rises-front xs ys (Rises-less xs y ys h).0

Rises-back : (xs ys : List Entry) → Rises (xs ++ ys) → Rises ys
Rises-back [] ys h = h
Rises-back (x ∷ xs) ys h = Rises-back xs ys h.1

module _ (below : List Entry) (e : Entry) (above : List Entry) (rises : Rises (below ++ e ∷ above)) where
  -- both sides are in order, the one below the entry, the other above it
  pub Rises-left : Rises below
  Rises-left = Rises-front below (e ∷ above) rises

  pub Rises-right : Rises above
  Rises-right = (Rises-back below (e ∷ above) rises).1

  pub left-below : AllBelow e.at below
  left-below = (Rises-less below e above rises).1

  pub right-above : AllAbove e.at above
  right-above = (Rises-less below e above rises).2

  -- what is looked for is on one side alone, or is the entry
  pub found-left : (at : ℕ) → at < e.at → found at (below ++ e ∷ above) ≡ found at below
  found-left at h =
      found-append at below (e ∷ above)
      ∙ ap (option_or (found at below))
      (found-above at (e ∷ above) (h, AllAbove-weaker at e.at above h right-above))
      ∙ or_none (found at below)
    where
      or_none : {A : Type 0} (x : Option A) → option_or x None ≡ x
      or_none None = refl
      or_none (Some x) = refl

  pub found-right : (at : ℕ) → e.at < at → found at (below ++ e ∷ above) ≡ found at above
  found-right at h =
      found-below at below (e ∷ above) (AllBelow-weaker e.at at below h left-below)
      ∙ at-other at e.at _ _ (λ s. omega (arith, h))

  pub found-here : (at : ℕ) → at ≡ e.at → found at (below ++ e ∷ above) ≡ Some e.cell
  found-here at h = found-one_more at below e above left-below ∙ at-same at e.at _ _ h

  -- where nothing is found at a location, the entry has another one
  pub other_absent : (at : ℕ) → found at (below ++ e ∷ above) ≡ None → at ≢ e.at
  other_absent at none same = some≢none (sym (found-here at same) ∙ none)
    where
      some≢none : {A : Type 0} {x : A} → Some x ≡ None → ⊥
      some≢none is = false≢true (sym (ap is_some is))

module _ (old : List Entry) (x : Entry) (new : List Entry) (m : IsMore old x new) where
  -- an entry more in order
  pub Rises-put : Rises old → Rises new
  Rises-put h = subst Rises (sym m.is) (Rises-more m.before x m.after (subst Rises m.was h) m.below m.above)

  -- and without it
  pub Rises-taken : Rises new → Rises old
  Rises-taken h = subst Rises (sym m.was) (Rises-less m.before x m.after (subst Rises m.is h)).0

  -- what is found then
  pub found-more : (q : ℕ) → found q new ≡ cond (eq_by_cmp nat_cmp q x.at) (Some x.cell) (found q old)
  found-more q = ap (found q) m.is ∙ found-one_more q m.before x m.after m.below
      ∙ ap (λ es. cond (eq_by_cmp nat_cmp q x.at) (Some x.cell) (found q es)) (sym m.was)

  -- it wasn't there before
  pub found-none : found x.at old ≡ None
  found-none = ap (found x.at) m.was ∙ found-below x.at m.before m.after m.below ∙ found-above x.at m.after m.above

  -- how many there are then
  pub length-more : length new ≡ length old + 1
  length-more = omega (arith, ap length m.is, ap length m.was, length-append m.before (x ∷ m.after), length-append m.before m.after)

  -- the map has its cell more
  pub map-put : map_of new ≡ insert (map_of old) x.at x.cell
  map-put = ap map_of m.is ∙ map-more m.before x m.after m.below
      ∙ ap (λ es. insert (map_of es) x.at x.cell) (sym m.was)

  -- or less
  pub map-taken : map_of old ≡ remove (map_of new) x.at
  map-taken = ap map_of m.was ∙ map-less m.before x m.after m.below m.above
      ∙ ap (λ es. remove (map_of es) x.at) (sym m.is)

-- an entry more on the side below
pub more-left : (below : List Entry) (e : Entry) (above : List Entry) (x : Entry) (new : List Entry) → x.at < e.at
    → AllAbove e.at above → IsMore below x new → IsMore (below ++ e ∷ above) x (new ++ e ∷ above)
more-left below e above x new h over m = record {
  before = m.before;
  after = m.after ++ e ∷ above;
  was = ap (λ es. es ++ e ∷ above) m.was ∙ append_assoc m.before m.after (e ∷ above);
  is = ap (λ es. es ++ e ∷ above) m.is ∙ append_assoc m.before (x ∷ m.after) (e ∷ above);
  below = m.below;
  above = AllAbove-append x.at m.after (e ∷ above) m.above (h, AllAbove-weaker x.at e.at above h over);
}

-- an entry more on the side above
pub more-right : (below : List Entry) (e : Entry) (above : List Entry) (x : Entry) (new : List Entry) → e.at < x.at
    → AllBelow e.at below → IsMore above x new → IsMore (below ++ e ∷ above) x (below ++ e ∷ new)
more-right below e above x new h under m = record {
  before = below ++ e ∷ m.before;
  after = m.after;
  was = ap (λ es. below ++ e ∷ es) m.was ∙ sym (append_assoc below (e ∷ m.before) m.after);
  is = ap (λ es. below ++ e ∷ es) m.is ∙ sym (append_assoc below (e ∷ m.before) (x ∷ m.after));
  below = AllBelow-append x.at below (e ∷ m.before) (AllBelow-weaker e.at x.at below h under) (h, m.below);
  above = m.above;
}

-- an entry taken from the side below, from the side above, and the one between
pub taken-left : (below : List Entry) (e : Entry) (above : List Entry) (at : ℕ) (x : Entry) (left : List Entry) → at < e.at
    → Rises (below ++ e ∷ above) → IsTaken below at x left → IsTaken (below ++ e ∷ above) at x (left ++ e ∷ above)
taken-left below e above at x left h rises t = record {
  more = more-left left e above x below (subst (λ k. k < e.at) (sym t.at_is) h) (right-above below e above rises) t.more;
  at_is = t.at_is;
}

pub taken-right : (below : List Entry) (e : Entry) (above : List Entry) (at : ℕ) (x : Entry) (left : List Entry) → e.at < at
    → Rises (below ++ e ∷ above) → IsTaken above at x left → IsTaken (below ++ e ∷ above) at x (below ++ e ∷ left)
taken-right below e above at x left h rises t = record {
  more = more-right below e left x above (subst (λ k. e.at < k) (sym t.at_is) h) (left-below below e above rises) t.more;
  at_is = t.at_is;
}

pub taken-here : (below : List Entry) (e : Entry) (above : List Entry) (at : ℕ) → at ≡ e.at
    → Rises (below ++ e ∷ above) → IsTaken (below ++ e ∷ above) at e (below ++ above)
taken-here below e above at same rises = record {
  more = record {
    before = below;
    after = above;
    was = refl;
    is = refl;
    below = left-below below e above rises;
    above = right-above below e above rises;
  };
  at_is = sym same;
}

-- an entry put into the side below, into the side above, or where the one between has its location
pub puts-left : (below : List Entry) (e : Entry) (above : List Entry) (x : Entry) (back : Option (Box Node)) (new : List Entry)
    → x.at < e.at → Rises (below ++ e ∷ above) → Puts below x back new → Puts (below ++ e ∷ above) x back (new ++ e ∷ above)
puts-left below e above x None new h rises m = more-left below e above x new h (right-above below e above rises) m
puts-left below e above x (Some b) new h rises k = record {
  there = ap is_some (found-left below e above rises x.at h) ∙ k.there;
  same = ap (λ es. es ++ e ∷ above) k.same;
  is = k.is;
}

pub puts-right : (below : List Entry) (e : Entry) (above : List Entry) (x : Entry) (back : Option (Box Node)) (new : List Entry)
    → e.at < x.at → Rises (below ++ e ∷ above) → Puts above x back new → Puts (below ++ e ∷ above) x back (below ++ e ∷ new)
puts-right below e above x None new h rises m = more-right below e above x new h (left-below below e above rises) m
puts-right below e above x (Some b) new h rises k = record {
  there = ap is_some (found-right below e above rises x.at h) ∙ k.there;
  same = ap (λ es. below ++ e ∷ es) k.same;
  is = k.is;
}

pub comes_back : (below : List Entry) (e : Entry) (above : List Entry) (x : Entry) → x.at ≡ e.at
    → Rises (below ++ e ∷ above) → ComesBack (below ++ e ∷ above) x x (below ++ e ∷ above)
comes_back below e above x same rises = record {
  there = ap is_some (found-here below e above rises x.at same);
  same = refl;
  is = refl;
}

-- where there is none at its location, an entry doesn't come back
pub puts-absent : (old : List Entry) (x : Entry) (back : Option (Box Node)) (new : List Entry)
    → found x.at old ≡ None → Puts old x back new → IsMore old x new
puts-absent old x None new none m = m
puts-absent old x (Some b) new none k = absurd (false≢true (sym (ap is_some none) ∙ k.there))
