-- When no entry of a list has a location at which a map has something, piece by piece.
-- Names: `clear-PIECE`.
use Rattle.std.proofs.Common.{◌≡◌, ◌∙◌, ℕ, List, ◌∷◌, ◌++◌, Option, Some, None, IsTrue, is_some, refl, sym, ap, subst, inl, inr}
use Rattle.std.proofs.lemmas.Bool.{cases_eq, false≢true}
use Rattle.std.specs.FinMap.{get}
use Rattle.std.specs.Option.{option_or}
use Rattle.sf_base.specs.HeapStore.{Apart}
use Rattle.sf_heap.specs.Cells.{AreDisjoint, Cells, FieldValues}
use Rattle.sf_heap.specs.declared.tree.Entry.{Entry}
use Rattle.sf_heap.specs.Checked.Entries.{found, map_of}
use Rattle.sf_heap.specs.Checked.Moves.{AreClear}
use Rattle.sf_heap.proofs.Keys.{at-same, at-other}
use Rattle.sf_heap.proofs.Entries.{get-map_of}
use Rattle.sf_heap.proofs.Splits.{Apart-front_right, found-append}

-- what is apart from one of two is apart from the one, and from the other
back : {X : Type 0} (x y z : Option X) → Apart x (option_or y z) → Apart x z
back None y z h = tt
back (Some x) None z h = h
back (Some x) (Some y) z h = absurd h

both : {X : Type 0} (x y z : Option X) → Apart x y → Apart x z → Apart x (option_or y z)
both x None z h k = k
both x (Some y) z h k = h

-- what is apart from something isn't there
none_apart : {X : Type 0} (x : Option X) (v : X) → Apart x (Some v) → x ≡ None
none_apart None v h = refl
none_apart (Some x) v h = absurd h

nothing : {X : Type 0} (x y : Option X) → x ≡ None → Apart x y
nothing None y h = tt
nothing (Some x) None h = tt
nothing (Some x) (Some y) h = false≢true (sym (ap is_some h))

module _ (f : ℕ → Option FieldValues) where
  pub clear-front : (xs ys : List Entry) → AreClear f (xs ++ ys) → AreClear f xs
  clear-front xs ys h q = Apart-front_right (f q) (found q xs) (found q ys) (subst (Apart (f q)) (found-append q xs ys) (h q))

  pub clear-back : (xs ys : List Entry) → AreClear f (xs ++ ys) → AreClear f ys
  clear-back xs ys h q = back (f q) (found q xs) (found q ys) (subst (Apart (f q)) (found-append q xs ys) (h q))

  pub clear-append : (xs ys : List Entry) → AreClear f xs → AreClear f ys → AreClear f (xs ++ ys)
  clear-append xs ys h k q = subst (Apart (f q)) (sym (found-append q xs ys)) (both (f q) (found q xs) (found q ys) (h q) (k q))

  -- of entries with a first one: it is at no such location, and nor is one of the others
  pub clear-first : (e : Entry) (es : List Entry) → AreClear f (e ∷ es) → f e.at ≡ None
  clear-first e es h = none_apart (f e.at) e.cell (subst (Apart (f e.at)) (at-same e.at e.at _ _ refl) (h e.at))

  pub clear-rest : (e : Entry) (es : List Entry) → AreClear f (e ∷ es) → AreClear f es
  clear-rest e es h q = elim (cases_eq q e.at) [
    | inl same ↦ nothing (f q) (found q es) (ap f same ∙ clear-first e es h)
    | inr other ↦ subst (Apart (f q)) (at-other q e.at _ _ other) (h q)
  ]

  pub clear-more : (e : Entry) (es : List Entry) → f e.at ≡ None → AreClear f es → AreClear f (e ∷ es)
  clear-more e es none h q = elim (cases_eq q e.at) [
    | inl same ↦ nothing (f q) (found q (e ∷ es)) (ap f same ∙ none)
    | inr other ↦ subst (Apart (f q)) (sym (at-other q e.at _ _ other)) (h q)
  ]

  -- nothing is there unless something is
  pub clear-none : (q : ℕ) → (IsTrue (is_some (f q)) → ⊥) → f q ≡ None
  clear-none q h = unless (f q) h
    where
      unless : (o : Option FieldValues) → (IsTrue (is_some o) → ⊥) → o ≡ None
      unless None h = refl
      unless (Some x) h = absurd (h refl)

-- two maps are disjoint where that is so of the entries of the one
pub disjoint-clear : (m n : Cells) (es : List Entry) → map_of es ≡ n → AreClear (get m) es → AreDisjoint m n
disjoint-clear m n es e h q = subst (Apart (get m q)) (sym (get-map_of es q) ∙ ap (λ l. get l q) e) (h q)

pub clear-disjoint : (m n : Cells) (es : List Entry) → map_of es ≡ n → AreDisjoint m n → AreClear (get m) es
clear-disjoint m n es e h q = subst (Apart (get m q)) (ap (λ l. get l q) (sym e) ∙ get-map_of es q) (h q)
