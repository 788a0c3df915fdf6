-- The steps of a walk along a field.
-- Names: `walking-LAW`.
use Rattle.std.proofs.Common.{◌≡◌, ◌≢◌, ◌+◌, ◌<◌, ◌≤◌, ℕ, List, [], ◌∷◌, ◌++◌, Some, None, length, refl, sym, ap, ◌∙◌, subst, subst₂, append_assoc, length-append, arith}
use Rattle.std.specs.Prelude.{slice_index_or}
use Rattle.std.specs.FinMap.{get}
use Rattle.std.proofs.lemmas.List.{append-nil}
use Rattle.std.proofs.lemmas.Option.{none-some, same_Some}
use Rattle.sf_base.specs.declared.ids.FieldId.{FieldId}
use Rattle.sf_base.specs.declared.value.Value.{Value}
use Rattle.sf_base.specs.declared.value.Value.TheVariants.{Nil as nil, Loc as loc}
use Rattle.sf_heap.specs.Cells.{Cells, FieldValues}
use Rattle.sf_foot.specs.Checked.Walks.{DoubleWalk, empty, linked, SegmentWalk, end, cell, TreesWalk, none, leaf, node, Walking, WalksOn}

-- nothing was walked yet
pub walking-start : (whole : List ℕ → Type 0) (old : List ℕ) → Walking whole whole old old
walking-start whole old = record { locations = []; grew = sym (append-nil old); ends = λ ls w. w; follows = λ ls w. (ls, refl, w) }

-- one cell further
pub walking-step : (heap : Cells) (next : FieldId) (to at : Value) (whole : List ℕ → Type 0) (old new : List ℕ)
    (location : ℕ) (here : FieldValues) → at ≢ to → at ≡ loc location → get heap location ≡ Some here
    → Walking whole (SegmentWalk heap next to at) old new
    → Walking whole (SegmentWalk heap next to (slice_index_or here next.0 nil)) old (new ++ location ∷ [])
walking-step heap next to at whole old new location here other is there w = record {
  locations = w.locations ++ location ∷ [];
  grew = ap (λ l. l ++ location ∷ []) w.grew ∙ append_assoc old w.locations (location ∷ []);
  ends = λ ls walk. subst whole (sym (append_assoc w.locations (location ∷ []) ls))
      (w.ends (location ∷ ls) (cell other location here ls is there walk refl));
  follows = λ ls walk. let before = w.follows ls walk in let more = after before.0 before.2 in
      (more.0, before.1 ∙ ap (λ l. w.locations ++ l) more.1 ∙ sym (append_assoc w.locations (location ∷ []) more.0), more.2);
}
  where
    after : (ls : List ℕ) → SegmentWalk heap next to at ls
        → (rest : List ℕ) × (ls ≡ location ∷ rest) × SegmentWalk heap next to (slice_index_or here next.0 nil) rest
    after ls (end e n) = absurd (other e)
    after ls (cell n a h rest p g d e) =
        let same : a ≡ location = let q : loc a ≡ loc location = sym p ∙ is in cc in
        let also : h ≡ here = same_Some h here (sym g ∙ ap (get heap) same ∙ there) in
        (rest, e ∙ ap (λ b. b ∷ rest) same, subst (λ c. SegmentWalk heap next to (slice_index_or c next.0 nil) rest) also d)

-- at the end the walk is whole
pub walking-end : (heap : Cells) (next : FieldId) (to at : Value) (whole : List ℕ → Type 0) (old new : List ℕ) → at ≡ to
    → Walking whole (SegmentWalk heap next to at) old new → WalksOn whole old new
walking-end heap next to at whole old new is w = record {
  locations = w.locations;
  grew = w.grew;
  walked = subst whole (append-nil w.locations) (w.ends [] (end is refl));
}

-- a cell of a walk that leads back: the walk goes on from it
pub double-after : (heap : Cells) (next back : FieldId) (last to before at : Value) (location : ℕ)
    (here : FieldValues) (ls : List ℕ) → at ≢ to → at ≡ loc location → get heap location ≡ Some here
    → DoubleWalk heap next back last to before at ls
    → (slice_index_or here back.0 nil ≡ before)
    × ((rest : List ℕ) × (ls ≡ location ∷ rest)
    × DoubleWalk heap next back last to at (slice_index_or here next.0 nil) rest)
double-after heap next back last to before at location here ls other is there (empty e b n) = absurd (other e)
double-after heap next back last to before at location here ls other is there (linked n a h rest p g k d e) =
    let same : a ≡ location = let q : loc a ≡ loc location = sym p ∙ is in cc in
    let also : h ≡ here = same_Some h here (sym g ∙ ap (get heap) same ∙ there) in (
      ap (λ c. slice_index_or c back.0 nil) (sym also) ∙ k,
      (
        rest,
        e ∙ ap (λ b. b ∷ rest) same,
        subst (λ c. DoubleWalk heap next back last to at (slice_index_or c next.0 nil) rest) also d,
      ),
    )

-- one doubly linked cell further
pub walking-double : (heap : Cells) (next back : FieldId) (last to before at : Value) (whole : List ℕ → Type 0)
    (old new : List ℕ) (location : ℕ) (here : FieldValues) → at ≢ to → at ≡ loc location
    → get heap location ≡ Some here → slice_index_or here back.0 nil ≡ before
    → Walking whole (DoubleWalk heap next back last to before at) old new
    → Walking whole (DoubleWalk heap next back last to at (slice_index_or here next.0 nil)) old (new ++ location ∷ [])
walking-double heap next back last to before at whole old new location here other is there leads w = record {
  locations = w.locations ++ location ∷ [];
  grew = ap (λ l. l ++ location ∷ []) w.grew ∙ append_assoc old w.locations (location ∷ []);
  ends = λ ls walk. subst whole (sym (append_assoc w.locations (location ∷ []) ls))
      (w.ends (location ∷ ls) (linked other location here ls is there leads walk refl));
  follows = λ ls walk.
      let begun = w.follows ls walk in
      let more = (double-after heap next back last to before at location here begun.0 other is there begun.2).1 in
      (more.0, begun.1 ∙ ap (λ l. w.locations ++ l) more.1 ∙ sym (append_assoc w.locations (location ∷ []) more.0), more.2);
}

-- the walk can't go on: there is none
pub walking-stuck : (whole left : List ℕ → Type 0) (old new : List ℕ) → Walking whole left old new
    → ((rest : List ℕ) → left rest → ⊥) → (ls : List ℕ) → whole ls → ⊥
walking-stuck whole left old new w out ls walk = let begun = w.follows ls walk in out begun.0 begun.2

-- there is no doubly linked segment from another value than a location
pub double-no_location : (heap : Cells) (next back : FieldId) (last to before at : Value) → at ≢ to
    → ((location : ℕ) → at ≡ loc location → ⊥) → (ls : List ℕ)
    → DoubleWalk heap next back last to before at ls → ⊥
double-no_location heap next back last to before at other out ls (empty e b n) = other e
double-no_location heap next back last to before at other out ls (linked n a h rest p g k d e) = out a p

-- nor from one that has no cell
pub double-no_cell : (heap : Cells) (next back : FieldId) (last to before at : Value) (location : ℕ) → at ≢ to
    → at ≡ loc location → get heap location ≡ None → (ls : List ℕ)
    → DoubleWalk heap next back last to before at ls → ⊥
double-no_cell heap next back last to before at location other is lacks ls (empty e b n) = other e
double-no_cell heap next back last to before at location other is lacks ls (linked n a h rest p g k d e) =
    let same : a ≡ location = let q : loc a ≡ loc location = sym p ∙ is in cc in
    none-some h (sym lacks ∙ ap (get heap) (sym same) ∙ g)

-- nor from a cell that leads back to another value than that before it
pub double-elsewhere : (heap : Cells) (next back : FieldId) (last to before at : Value) (location : ℕ)
    (here : FieldValues) → at ≢ to → at ≡ loc location → get heap location ≡ Some here
    → slice_index_or here back.0 nil ≢ before → (ls : List ℕ)
    → DoubleWalk heap next back last to before at ls → ⊥
double-elsewhere heap next back last to before at location here other is there apart ls walk =
    apart (double-after heap next back last to before at location here ls other is there walk).0

-- nor, at its end, one whose last cell is elsewhere
pub double-ends_elsewhere : (heap : Cells) (next back : FieldId) (last to before at : Value) → at ≡ to
    → before ≢ last → (ls : List ℕ) → DoubleWalk heap next back last to before at ls → ⊥
double-ends_elsewhere heap next back last to before at is apart ls (empty e b n) = apart b
double-ends_elsewhere heap next back last to before at is apart ls (linked n a h rest p g k d e) = n is

-- a doubly linked walk that goes on has one location more
pub double-longer : (heap : Cells) (next back : FieldId) (last to before at : Value) (ls : List ℕ) → at ≢ to
    → DoubleWalk heap next back last to before at ls → 1 ≤ length ls
double-longer heap next back last to before at ls other (empty e b n) = absurd (other e)
double-longer heap next back last to before at ls other (linked n a h rest p g k d e) =
    subst (λ l. 1 ≤ length l) (sym e) (omega arith)

-- so a walk that goes on is longer than what it walked
pub walking-longer : (heap : Cells) (next back : FieldId) (last to before at : Value) (whole : List ℕ → Type 0)
    (old new : List ℕ) (most : ℕ) → at ≢ to → most ≤ length new
    → Walking whole (DoubleWalk heap next back last to before at) old new → (ls : List ℕ) → whole ls
    → most < length (old ++ ls)
walking-longer heap next back last to before at whole old new most other full w ls walk =
    let begun = w.follows ls walk in
    let one : 1 ≤ length begun.0 = double-longer heap next back last to before at begun.0 other begun.2 in
    let parts : length (old ++ ls) ≡ length new + length begun.0 =
    ap (λ l. length (old ++ l)) begun.1 ∙ ap length (sym (append_assoc old w.locations begun.0))
    ∙ ap (λ l. length (l ++ begun.0)) (sym w.grew) ∙ length-append new begun.0 in
    subst (λ n. most < n) (sym parts) (omega (arith, one, full))

-- at the end of doubly linked cells the walk is whole, where the last one is there
pub walking-double_end : (heap : Cells) (next back : FieldId) (last to before at : Value) (whole : List ℕ → Type 0)
    (old new : List ℕ) → at ≡ to → before ≡ last → Walking whole (DoubleWalk heap next back last to before at) old new
    → WalksOn whole old new
walking-double_end heap next back last to before at whole old new is ends w = record {
  locations = w.locations;
  grew = w.grew;
  walked = subst whole (append-nil w.locations) (w.ends [] (empty is ends refl));
}

-- nothing to walk at nil
pub walking-leaf : (heap : Cells) (left right : FieldId) (others : List Value) (whole : List ℕ → Type 0) (old new : List ℕ)
    → Walking whole (TreesWalk heap left right (nil ∷ others)) old new
    → Walking whole (TreesWalk heap left right others) old new
walking-leaf heap left right others whole old new w = record {
  locations = w.locations;
  grew = w.grew;
  ends = λ ls walk. w.ends ls (leaf others refl walk);
  follows = λ ls walk. let before = w.follows ls walk in (before.0, before.1, after before.0 before.2);
}
  where
    after : (ls : List ℕ) → TreesWalk heap left right (nil ∷ others) ls → TreesWalk heap left right others ls
    after ls (none e n) = absurd cc
    after ls (leaf more e walk) = let same : more ≡ others = cc in subst (λ r. TreesWalk heap left right r ls) same walk
    after ls (node a more h rest e g walk n) = absurd cc

-- one node further
pub walking-node : (heap : Cells) (left right : FieldId) (others : List Value) (whole : List ℕ → Type 0) (old new : List ℕ)
    (location : ℕ) (here : FieldValues) → get heap location ≡ Some here
    → Walking whole (TreesWalk heap left right (loc location ∷ others)) old new
    → Walking whole (TreesWalk heap left right (slice_index_or here left.0 nil ∷ slice_index_or here right.0 nil ∷ others)) old (new ++ location ∷ [])
walking-node heap left right others whole old new location here there w = record {
  locations = w.locations ++ location ∷ [];
  grew = ap (λ l. l ++ location ∷ []) w.grew ∙ append_assoc old w.locations (location ∷ []);
  ends = λ ls walk. subst whole (sym (append_assoc w.locations (location ∷ []) ls))
      (w.ends (location ∷ ls) (node location others here ls refl there walk refl));
  follows = λ ls walk. let before = w.follows ls walk in let more = after before.0 before.2 in
      (more.0, before.1 ∙ ap (λ l. w.locations ++ l) more.1 ∙ sym (append_assoc w.locations (location ∷ []) more.0), more.2);
}
  where
    after : (ls : List ℕ) → TreesWalk heap left right (loc location ∷ others) ls
        → (rest : List ℕ) × (ls ≡ location ∷ rest)
        × TreesWalk heap left right (slice_index_or here left.0 nil ∷ slice_index_or here right.0 nil ∷ others) rest
    after ls (none e n) = absurd cc
    after ls (leaf more e walk) = absurd cc
    after ls (node a more h rest e g walk n) =
        let same : a ≡ location = cc in
        let same_others : more ≡ others = cc in
        let also : h ≡ here = same_Some h here (sym g ∙ ap (get heap) same ∙ there) in (
          rest,
          n ∙ ap (λ b. b ∷ rest) same,
          subst₂ (λ c r. TreesWalk heap left right (slice_index_or c left.0 nil ∷ slice_index_or c right.0 nil ∷ r) rest) also same_others walk,
        )

-- at the end no root is left
pub walking-trees_end : (heap : Cells) (left right : FieldId) (whole : List ℕ → Type 0) (old new : List ℕ)
    → Walking whole (TreesWalk heap left right []) old new → WalksOn whole old new
walking-trees_end heap left right whole old new w = record {
  locations = w.locations;
  grew = w.grew;
  walked = subst whole (append-nil w.locations) (w.ends [] (none refl refl));
}
