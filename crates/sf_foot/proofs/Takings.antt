-- What conjuncts take, one after the other.
-- Names: `takes-LAW` of locations that were appended, `overflows-LAW` of refusals, `left-LAW` of the middle of a loop.
use Rattle.std.proofs.Common.{◌≡◌, ◌<◌, ℕ, Bool, true, false, cond, ◌||◌, List, [], ◌∷◌, ◌++◌, length, reverse, Some, None, is_some, slice_index_or, refl, sym, ap, ap₂, ◌∙◌, subst, subst₂, append_assoc, arith}
use Rattle.std.proofs.lemmas.Bool.{false≢true}
use Rattle.std.proofs.lemmas.List.{append-nil, length-append}
use Rattle.std.proofs.lemmas.Option.{same_Some, none-some}
use Rattle.std.specs.FinMap.{get, len}
use Rattle.std.specs.BTreeMap.{get as tree_get}
use Rattle.std.specs.Ordering.{nat_cmp}
use Rattle.std.proofs.Math.Bool.{or-false}
use Rattle.std.specs.Option.{unwrap_or}
use Rattle.sf_base.specs.declared.ids.FieldId.{FieldId}
use Rattle.sf_base.specs.declared.place.Place.{Place}
use Rattle.sf_base.specs.declared.value.Value.{Value}
use Rattle.sf_base.specs.declared.value.Value.TheVariants.{Nil as nil, Loc as loc}
use Rattle.sf_core.specs.declared.assertion.Operand.{Operand}
use Rattle.sf_core.specs.declared.assertion.Scope.{Scope}
use Rattle.sf_core.specs.declared.assertion.Test.{Test}
use Rattle.sf_core.specs.Assertions.Determined.{is_in_fields, is_learned, is_learned_in}
use Rattle.sf_core.specs.Assertions.Sat.{HasFields, IsTrueOf, SameOutside, operand}
use Rattle.sf_core.specs.Assertions.Scopes.{is_made_by}
use Rattle.sf_core.specs.Program.Syntax.{Conjunct, holds, points, segment, doubly, tree, choose, Level, level, Conjuncts, none, also}
use Rattle.sf_heap.specs.Cells.{Cells, FieldValues, cell_of}
use Rattle.sf_foot.specs.declared.known.Known.{Known}
use Rattle.sf_foot.specs.declared.known.Layer.{Layer}
use Rattle.sf_foot.specs.Checked.Known.{Agrees, Grows, Learns, found_in, found_within, is_told, told, told_of}
use Rattle.sf_foot.specs.Checked.Taking.{AllTake, ConjunctsLeft, LevelTakes, OneTakes, Overflows, Takes}
use Rattle.sf_foot.specs.Checked.Walks.{DoubleWalk, SegmentWalk, TreesWalk, WalksOn, empty, linked, end, cell, none as no_roots, leaf, node}
use Rattle.sf_foot.proofs.Knowing.{agrees-before, grows-none, grows-then, told-operand}
use Rattle.sf_foot.proofs.Ready.{ready-rest}
use Rattle.sf_foot.proofs.Walked.{double-agree}

-- what is taken by the one and then by the other
abbrev Both : ((ℕ → Value) → List ℕ → Type 0) → ((ℕ → Value) → List ℕ → Type 0) → (ℕ → Value) → List ℕ → Type 0
Both V W some ls = (one : List ℕ) × (rest : List ℕ) × (ls ≡ one ++ rest) × V some one × W some rest

-- one taking after the other
takes-then : (V W : (ℕ → Value) → List ℕ → Type 0) (p q : ℕ → Bool) (a b c : Known) (old mid new : List ℕ)
    → Takes V p a b old mid → Takes W q b c mid new → Takes (Both V W) (λ n. p n || q n) a c old new
takes-then V W p q a b c old mid new g h = record {
  locations = g.locations ++ h.locations;
  grew = h.grew ∙ ap (λ ls. ls ++ h.locations) g.grew ∙ append_assoc old g.locations h.locations;
  grows = grows-then p q a b c g.grows h.grows;
  all = λ s e. (g.locations, h.locations, refl, g.all s (agrees-before q b c s h.grows e), h.all s e);
  only = λ s ls e k. let first = g.only s k.0 e k.3 in let second = h.only s k.1 first.1 k.4 in
      (k.2 ∙ ap₂ ◌++◌ first.0 second.0, second.1);
}

overflows-then : (V W : (ℕ → Value) → List ℕ → Type 0) (p : ℕ → Bool) (heap : Cells) (a b : Known) (old mid : List ℕ)
    → Takes V p a b old mid → Overflows W heap b mid → Overflows (Both V W) heap a old
overflows-then V W p heap a b old mid g h = λ s ls e k. let first = g.only s k.0 e k.3 in
    subst (λ ks. len heap < length ks)
    (ap (λ ks. ks ++ k.1) (g.grew ∙ ap (λ ks. old ++ ks) (sym first.0)) ∙ append_assoc old k.0 k.1
    ∙ ap (λ ks. old ++ ks) (sym k.2))
    (h s k.1 first.1 k.4)

overflows-first : (V W : (ℕ → Value) → List ℕ → Type 0) (heap : Cells) (a : Known) (old : List ℕ)
    → Overflows V heap a old → Overflows (Both V W) heap a old
overflows-first V W heap a old h = λ s ls e k.
    let long : len heap < length (old ++ k.0) = h s k.0 e k.3 in
    let more = length-append (old ++ k.0) k.1 in
    subst (λ ks. len heap < length ks) (append_assoc old k.0 k.1 ∙ ap (λ ks. old ++ ks) (sym k.2))
    (omega (arith, long, more))

loc-is : (m n : ℕ) → loc m ≡ loc n → m ≡ n
loc-is m n e = cc

not-loc : (m : ℕ) → nil ≡ loc m → ⊥
not-loc m e = cc

nil≢cons : {v : Value} {vs : List Value} → [] ≡ v ∷ vs → ⊥
nil≢cons e = cc

head-is : (v w : Value) (vs ws : List Value) → v ∷ vs ≡ w ∷ ws → v ≡ w
head-is v w vs ws e = cc

tail-is : (v w : Value) (vs ws : List Value) → v ∷ vs ≡ w ∷ ws → vs ≡ ws
tail-is v w vs ws e = cc

-- there is one walk at most
segment-unique : (heap : Cells) (next : FieldId) (to from : Value) (xs ys : List ℕ) → SegmentWalk heap next to from xs
    → SegmentWalk heap next to from ys → xs ≡ ys
segment-unique heap next to from xs ys (end e i) (end f j) = i ∙ sym j
segment-unique heap next to from xs ys (end e i) (cell o a here rest p g w k) = absurd (o e)
segment-unique heap next to from xs ys (cell o a here rest p g w k) (end e i) = absurd (o e)
segment-unique heap next to from xs ys (cell o a here rest p g w k) (cell u b there others q h d l) =
    let same = loc-is a b (sym p ∙ q) in
    let also : here ≡ there = same_Some here there (sym g ∙ ap (get heap) same ∙ h) in
    k ∙ ap₂ ◌∷◌ same (segment-unique heap next to (slice_index_or there next.0 nil) rest others
    (subst (λ c. SegmentWalk heap next to (slice_index_or c next.0 nil) rest) also w) d) ∙ sym l

double-unique : (heap : Cells) (next back : FieldId) (last to before from : Value) (xs ys : List ℕ)
    → DoubleWalk heap next back last to before from xs → DoubleWalk heap next back last to before from ys → xs ≡ ys
double-unique heap next back last to before from xs ys (empty e b i) (empty f c j) = i ∙ sym j
double-unique heap next back last to before from xs ys (empty e b i) (linked o a here rest p g m w k) = absurd (o e)
double-unique heap next back last to before from xs ys (linked o a here rest p g m w k) (empty e b i) = absurd (o e)
double-unique heap next back last to before from xs ys (linked o a here rest p g m w k)
    (linked u b there others q h n d l) =
    let same = loc-is a b (sym p ∙ q) in
    let also : here ≡ there = same_Some here there (sym g ∙ ap (get heap) same ∙ h) in
    k ∙ ap₂ ◌∷◌ same (double-unique heap next back last to from (slice_index_or there next.0 nil) rest others
    (subst (λ c. DoubleWalk heap next back last to from (slice_index_or c next.0 nil) rest) also w) d) ∙ sym l

trees-unique : (heap : Cells) (left right : FieldId) (roots : List Value) (xs ys : List ℕ)
    → TreesWalk heap left right roots xs → TreesWalk heap left right roots ys → xs ≡ ys
trees-unique heap left right roots xs ys (no_roots e i) (no_roots f j) = i ∙ sym j
trees-unique heap left right roots xs ys (no_roots e i) (leaf others f w) = absurd (nil≢cons (sym e ∙ f))
trees-unique heap left right roots xs ys (no_roots e i) (node b others there rest f h w k) = absurd (nil≢cons (sym e ∙ f))
trees-unique heap left right roots xs ys (leaf others f w) (no_roots e i) = absurd (nil≢cons (sym e ∙ f))
trees-unique heap left right roots xs ys (leaf others f w) (leaf more e d) =
    trees-unique heap left right others xs ys w
    (subst (λ r. TreesWalk heap left right r ys) (sym (tail-is nil nil others more (sym f ∙ e))) d)
trees-unique heap left right roots xs ys (leaf others f w) (node b more there rest e h d k) =
    absurd (not-loc b (head-is nil (loc b) others more (sym f ∙ e)))
trees-unique heap left right roots xs ys (node b more there rest e h d k) (no_roots f i) = absurd (nil≢cons (sym f ∙ e))
trees-unique heap left right roots xs ys (node b more there rest e h d k) (leaf others f w) =
    absurd (not-loc b (head-is nil (loc b) others more (sym f ∙ e)))
trees-unique heap left right roots xs ys (node a others here rest e g w k) (node b more there left_over f h d l) =
    let same = loc-is a b (head-is (loc a) (loc b) others more (sym e ∙ f)) in
    let also : here ≡ there = same_Some here there (sym g ∙ ap (get heap) same ∙ h) in
    let later = tail-is (loc a) (loc b) others more (sym e ∙ f) in
    k ∙ ap₂ ◌∷◌ same (trees-unique heap left right
    (slice_index_or here left.0 nil ∷ slice_index_or here right.0 nil ∷ others) rest left_over w
    (subst₂ (λ c r. TreesWalk heap left right (slice_index_or c left.0 nil ∷ slice_index_or c right.0 nil ∷ r) left_over)
    (sym also) (sym later) d)) ∙ sym l

-- Conjuncts over values of what isn't an existential
module _ {E : Type 0} (heap : Cells) (val : E → Value) where
  -- a test takes nothing
  pub takes-test : (p : Place) (t : Test (Operand E)) (a b : Known) (old : List ℕ)
      → Learns (λ s. IsTrueOf (operand val s) t) (is_learned (holds p t)) a b
      → Takes (OneTakes heap (holds p t) val) (is_learned (holds p t)) a b old old
  takes-test p t a b old h = record {
    locations = [];
    grew = sym (append-nil old);
    grows = h.grows;
    all = λ s e. (refl, h.holds s e);
    only = λ s ls e k. (k.0, h.only s e k.1);
  }

  -- one cell
  pub takes-cell : (p : Place) (x : Operand E) (fs : List (FieldId × Operand E)) (l : ℕ) (here : FieldValues)
      (a b : Known) (old new : List ℕ) → told_of val a x ≡ Some (loc l) → get heap l ≡ Some here
      → Learns (λ s. HasFields (operand val s) fs (cell_of here)) (λ n. is_in_fields n fs) a b → new ≡ old ++ l ∷ []
      → Takes (OneTakes heap (points p x fs) val) (λ n. is_in_fields n fs) a b old new
  takes-cell p x fs l here a b old new root there h grew = record {
    locations = l ∷ [];
    grew = grew;
    grows = h.grows;
    all = λ s e. (l, here, told-operand val a x (loc l) s (agrees-before _ a b s h.grows e) root, there, h.holds s e, refl);
    only = λ s ls e k.
        let same : k.0 ≡ l = same_place k.0 l (sym k.2 ∙ told-operand val a x (loc l) s e root) in
        let cell : k.1 ≡ here = same_Some k.1 here (sym k.3 ∙ ap (get heap) same ∙ there) in
        (k.5 ∙ ap (λ m. m ∷ []) same, h.only s e (subst (λ c. HasFields (operand val s) fs (cell_of c)) cell k.4));
  }
    where
      same_place : (m n : ℕ) → loc m ≡ loc n → m ≡ n
      same_place m n e = cc

  -- a choice takes what its branch takes
  pub takes-this : (p : Place) (t : Test (Operand E)) (this that : Level E) (a b : Known) (old new : List ℕ)
      → ((s : ℕ → Value) → Agrees a s → IsTrueOf (operand val s) t)
      → Takes (LevelTakes heap this val) (λ n. false) a b old new
      → Takes (OneTakes heap (choose p t this that) val) (is_learned (choose p t this that)) a b old new
  takes-this p t this that a b old new t_holds h = record {
    locations = h.locations;
    grew = h.grew;
    grows = h.grows;
    all = λ s e. (λ i. h.all s e, λ n. absurd (n (t_holds s (agrees-before _ a b s h.grows e))));
    only = λ s ls e k. h.only s ls e (k.0 (t_holds s e));
  }

  pub takes-that : (p : Place) (t : Test (Operand E)) (this that : Level E) (a b : Known) (old new : List ℕ)
      → ((s : ℕ → Value) → Agrees a s → IsTrueOf (operand val s) t → ⊥)
      → Takes (LevelTakes heap that val) (λ n. false) a b old new
      → Takes (OneTakes heap (choose p t this that) val) (is_learned (choose p t this that)) a b old new
  takes-that p t this that a b old new t_fails h = record {
    locations = h.locations;
    grew = h.grew;
    grows = h.grows;
    all = λ s e. (λ i. absurd (t_fails s (agrees-before _ a b s h.grows e) i), λ n. h.all s e);
    only = λ s ls e k. h.only s ls e (k.1 (t_fails s e));
  }

  pub overflows-this : (p : Place) (t : Test (Operand E)) (this that : Level E) (a : Known) (old : List ℕ)
      → ((s : ℕ → Value) → Agrees a s → IsTrueOf (operand val s) t) → Overflows (LevelTakes heap this val) heap a old
      → Overflows (OneTakes heap (choose p t this that) val) heap a old
  overflows-this p t this that a old t_holds h = λ s ls e k. h s ls e (k.0 (t_holds s e))

  pub overflows-that : (p : Place) (t : Test (Operand E)) (this that : Level E) (a : Known) (old : List ℕ)
      → ((s : ℕ → Value) → Agrees a s → IsTrueOf (operand val s) t → ⊥)
      → Overflows (LevelTakes heap that val) heap a old
      → Overflows (OneTakes heap (choose p t this that) val) heap a old
  overflows-that p t this that a old t_fails h = λ s ls e k. h s ls e (k.1 (t_fails s e))

  -- segments and trees take what their walks meet
  pub takes-segment : (p : Place) (next : FieldId) (x y : Operand E) (v w : Value) (a : Known) (old new : List ℕ)
      → told_of val a x ≡ Some v → told_of val a y ≡ Some w → WalksOn (SegmentWalk heap next w v) old new
      → Takes (OneTakes heap (segment p next x y) val) (λ n. false) a a old new
  takes-segment p next x y v w a old new from to h = record {
    locations = h.locations;
    grew = h.grew;
    grows = grows-none a (λ n. false) (λ n e. absurd (false≢true e));
    all = λ s e. subst₂ (λ m n. SegmentWalk heap next m n h.locations) (sym (told-operand val a y w s e to))
        (sym (told-operand val a x v s e from)) h.walked;
    only = λ s ls e k. (
      segment-unique heap next w v ls h.locations
          (subst₂ (λ m n. SegmentWalk heap next m n ls) (told-operand val a y w s e to)
          (told-operand val a x v s e from) k) h.walked,
      e,
    );
  }

  pub takes-double : (p : Place) (next back : FieldId) (x b l y : Operand E) (v before last w : Value) (a : Known)
      (old new : List ℕ)
      → told_of val a x ≡ Some v → told_of val a b ≡ Some before → told_of val a l ≡ Some last → told_of val a y ≡ Some w
      → WalksOn (DoubleWalk heap next back last w before v) old new
      → Takes (OneTakes heap (doubly p next back x b l y) val) (λ n. false) a a old new
  takes-double p next back x b l y v before last w a old new from previous ends to h = record {
    locations = h.locations;
    grew = h.grew;
    grows = grows-none a (λ n. false) (λ n e. absurd (false≢true e));
    all = λ s e. double-agree (sym (told-operand val a x v s e from)) (sym (told-operand val a b before s e previous))
        (sym (told-operand val a l last s e ends)) (sym (told-operand val a y w s e to)) h.walked;
    only = λ s ls e k. (
      double-unique heap next back last w before v ls h.locations
          (double-agree (told-operand val a x v s e from) (told-operand val a b before s e previous)
          (told-operand val a l last s e ends) (told-operand val a y w s e to) k) h.walked,
      e,
    );
  }

  pub overflows-double : (p : Place) (next back : FieldId) (x b l y : Operand E) (v before last w : Value)
      (a : Known) (old : List ℕ)
      → told_of val a x ≡ Some v → told_of val a b ≡ Some before → told_of val a l ≡ Some last → told_of val a y ≡ Some w
      → ((ls : List ℕ) → DoubleWalk heap next back last w before v ls → len heap < length (old ++ ls))
      → Overflows (OneTakes heap (doubly p next back x b l y) val) heap a old
  overflows-double p next back x b l y v before last w a old from previous ends to h = λ s ls e k. h ls
      (double-agree (told-operand val a x v s e from) (told-operand val a b before s e previous)
      (told-operand val a l last s e ends) (told-operand val a y w s e to) k)

  pub takes-tree : (p : Place) (left right : FieldId) (x : Operand E) (v : Value) (a : Known) (old new : List ℕ)
      → told_of val a x ≡ Some v → WalksOn (TreesWalk heap left right (v ∷ [])) old new
      → Takes (OneTakes heap (tree p left right x) val) (λ n. false) a a old new
  takes-tree p left right x v a old new root h = record {
    locations = h.locations;
    grew = h.grew;
    grows = grows-none a (λ n. false) (λ n e. absurd (false≢true e));
    all = λ s e. subst (λ m. TreesWalk heap left right (m ∷ []) h.locations) (sym (told-operand val a x v s e root)) h.walked;
    only = λ s ls e k. (
      trees-unique heap left right (v ∷ []) ls h.locations
          (subst (λ m. TreesWalk heap left right (m ∷ []) ls) (told-operand val a x v s e root) k) h.walked,
      e,
    );
  }

  pub left-more : (before : Known) (old : List ℕ) (all : Conjuncts E) (a b : Known) (mid new : List ℕ)
      (c : Conjunct E) (cs : Conjuncts E) → ConjunctsLeft heap val before old all a mid (also c cs)
      → Takes (OneTakes heap c val) (is_learned c) a b mid new → ConjunctsLeft heap val before old all b new cs
  left-more before old all a b mid new c cs h g = record {
    ends = λ after last k. h.ends after last (takes-then (OneTakes heap c val) (AllTake heap cs val) (is_learned c)
        (is_learned_in cs) a b after mid new last g k);
    fails = λ k. h.fails (overflows-then (OneTakes heap c val) (AllTake heap cs val) (is_learned c) heap a b mid new g k);
    ready = ready-rest a b c cs h.ready g.grows;
  }

  pub left-stop : (before : Known) (old : List ℕ) (all : Conjuncts E) (a : Known) (mid : List ℕ)
      (c : Conjunct E) (cs : Conjuncts E) → ConjunctsLeft heap val before old all a mid (also c cs)
      → Overflows (OneTakes heap c val) heap a mid → Overflows (AllTake heap all val) heap before old
  left-stop before old all a mid c cs h g =
      h.fails (overflows-first (OneTakes heap c val) (AllTake heap cs val) heap a mid g)

  pub left-end : (before : Known) (old : List ℕ) (all : Conjuncts E) (a : Known) (mid : List ℕ)
      → ConjunctsLeft heap val before old all a mid none
      → Takes (AllTake heap all val) (is_learned_in all) before a old mid
  left-end before old all a mid h = h.ends a mid (record {
    locations = [];
    grew = sym (append-nil mid);
    grows = grows-none a (λ n. false) (λ n e. absurd (false≢true e));
    all = λ s e. refl;
    only = λ s ls e k. (k, e);
  })

  -- A level: inside it nothing is known of what it makes
  module _ (made : Scope) (cs : Conjuncts E) (a b c d : Known)
      (entered : (n : ℕ) → told b n ≡ cond (is_made_by made n) None (told a n)) (own : b.inner.made ≡ made)
      (grew : Grows (is_learned_in cs) b c) (left : d.outer.items ≡ a.outer.items) (back : d.inner ≡ a.inner) where
    same_told : (n : ℕ) → told d n ≡ told a n
    same_told n = ap₂ (λ (l : Layer) (ls : List Layer). found_in l (found_within (reverse ls)) n) back left

    grows-back : Grows (λ n. false) a d
    grows-back = record {
      outer = left;
      made = ap (λ (l : Layer). l.made) back;
      more = λ n. ap is_some (same_told n) ∙ sym (or-false (is_told a n));
      stays = λ n v e. same_told n ∙ e;
    }

    -- what is known inside at the end
    abbrev inside : (ℕ → Value) → ℕ → Value
    inside s n = cond (is_made_by made n) (unwrap_or (told c n) nil) (s n)

    inside-agrees : (s : ℕ → Value) → Agrees a s → Agrees c (inside s)
    inside-agrees s h n v e = go (is_made_by made n) refl
      where
        outside : is_made_by made n ≡ false → told c n ≡ told b n
        outside i =
            ap (λ (t : Scope). cond (is_made_by t n) (tree_get nat_cmp c.inner.values n) (found_within (reverse c.outer.items) n)) (grew.made ∙ own)
            ∙ ap (λ (t : Bool). cond t (tree_get nat_cmp c.inner.values n) (found_within (reverse c.outer.items) n)) i
            ∙ ap (λ (ls : List Layer). found_within (reverse ls) n) grew.outer
            ∙ sym (ap (λ (t : Scope). cond (is_made_by t n) (tree_get nat_cmp b.inner.values n) (found_within (reverse b.outer.items) n)) own
            ∙ ap (λ (t : Bool). cond t (tree_get nat_cmp b.inner.values n) (found_within (reverse b.outer.items) n)) i)

        go : (t : Bool) → is_made_by made n ≡ t → inside s n ≡ v
        go true i = ap (λ (t : Bool). cond t (unwrap_or (told c n) nil) (s n)) i ∙ ap (λ o. unwrap_or o nil) e
        go false i = ap (λ (t : Bool). cond t (unwrap_or (told c n) nil) (s n)) i
            ∙ h n v (sym (entered n ∙ ap (λ (t : Bool). cond t None (told a n)) i) ∙ sym (outside i) ∙ e)

    -- values that are the same outside agree with what is known at the beginning
    enters : (s here : ℕ → Value) → Agrees a s → SameOutside made s here → Agrees b here
    enters s here h o n v e = go (is_made_by made n) refl
      where
        go : (t : Bool) → is_made_by made n ≡ t → here n ≡ v
        go true i = absurd (none-some v (sym (entered n ∙ ap (λ (t : Bool). cond t None (told a n)) i) ∙ e))
        go false i = o n i ∙ h n v (sym (entered n ∙ ap (λ (t : Bool). cond t None (told a n)) i) ∙ e)

    pub takes-level : (old new : List ℕ) → Takes (AllTake heap cs val) (is_learned_in cs) b c old new
        → Takes (LevelTakes heap (level made cs) val) (λ n. false) a d old new
    takes-level old new h = record {
      locations = h.locations;
      grew = h.grew;
      grows = grows-back;
      all = λ s e. (
        inside s,
        λ n i. ap (λ (t : Bool). cond t (unwrap_or (told c n) nil) (s n)) i,
        h.all (inside s) (inside-agrees s (agrees-before (λ n. false) a d s grows-back e)),
      );
      only = λ s ls e k. (
        (h.only k.0 ls (enters s k.0 e k.1) k.2).0,
        λ n v i. e n v (sym (same_told n) ∙ i),
      );
    }

  pub overflows-level : (made : Scope) (cs : Conjuncts E) (a b : Known) (old : List ℕ)
      → ((n : ℕ) → told b n ≡ cond (is_made_by made n) None (told a n))
      → Overflows (AllTake heap cs val) heap b old → Overflows (LevelTakes heap (level made cs) val) heap a old
  overflows-level made cs a b old entered h = λ s ls e k. h k.0 ls (inner s k.0 e k.1) k.2
    where
      inner : (s here : ℕ → Value) → Agrees a s → SameOutside made s here → Agrees b here
      inner s here h o n v e = go (is_made_by made n) refl
        where
          go : (t : Bool) → is_made_by made n ≡ t → here n ≡ v
          go true i = absurd (none-some v (sym (entered n ∙ ap (λ (t : Bool). cond t None (told a n)) i) ∙ e))
          go false i = o n i ∙ h n v (sym (entered n ∙ ap (λ (t : Bool). cond t None (told a n)) i) ∙ e)
