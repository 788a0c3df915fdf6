-- What a frame still has when it has done what it was to do: the variables that it had, but those of the resources
-- that it left, with the values that they had, where nothing may change them.
-- Names: `some-LAW` whether something is there, `kept-LAW` of how one frame is kept in another, `keep`.
use Rattle.std.specs.Prelude.{◌≡◌, ◌⊎◌, ℕ, zero, suc, ◌==◌, Bool, true, false, ◌&&◌, ◌||◌, not, cond, is_some, List, [], ◌∷◌, ◌++◌, Option, Some, None, length, nat_lt}
use Rattle.std.specs.List.{slice_get}
use Rattle.std.specs.Option.{option_or}
use Rattle.std.proofs.Common.{refl, sym, ap, ap₂, ◌∙◌, subst, subst₂, inl, inr}
use Rattle.std.proofs.lemmas.Bool.{false≢true}
use Rattle.std.proofs.lemmas.Bool.Decides.{Decides-and, Decides-eqb, Decides-ltb}
use Rattle.sf_base.proofs.Variables.{same_var-decides}
use Rattle.sf_base.specs.declared.ids.ResId.{ResId}
use Rattle.sf_base.specs.declared.ids.Var.{Var}
use Rattle.sf_base.specs.declared.ids.Var.TheVariants.{Own, Shared}
use Rattle.sf_base.specs.declared.value.Value.{Value}
use Rattle.sf_base.specs.declared.value.Value.TheVariants.{Loc as loc}
use Rattle.sf_base.proofs.Options.{is_some-false}
use Rattle.sf_base.proofs.MapSplits.{splits-at_left, splits-at_right, splits-comm, splits-lacks_whole}
use Rattle.sf_base.specs.HeapStore.{Apart, Cell, Map, Splits}
use Rattle.sf_base.specs.Variables.{same_var}
use Rattle.sf_calls.specs.Assigned.{MayChange}
use Rattle.sf_core.specs.Machine.Config.{Item, command, items, leave}
use Rattle.sf_core.specs.Program.Formed.{IsOfResource, variable_count}
use Rattle.sf_core.specs.Program.Syntax.{Block, done, then, Command, assign, look_up, mutate, new, dispose, if, while, call, fork, with, Program}
use Rattle.sf_safe.specs.Checked.Lemmas.{calls-weaker, forks-weaker, local-weaken}
use Rattle.sf_safe.specs.Checked.Local.{HasJustVars, HasVar, IsShare, Local, LocalParts, look, put_local, put_variable}
use Rattle.sf_safe.specs.Checked.LocalSafe.{LocalSafe}
use Rattle.sf_sound.specs.Checked.Suits.{is_of}

-- WHAT STEPS MAY CHANGE
abbrev mutual
  -- one command, and those inside it
  pub CommandTouches : Program → Command → Var → Type 0
  CommandTouches p (assign q y e) x = y.var ≡ x
  CommandTouches p (look_up q y e field) x = y.var ≡ x
  CommandTouches p (mutate q e field v) x = ⊥
  CommandTouches p (new q y) x = y.var ≡ x
  CommandTouches p (dispose q e) x = ⊥
  CommandTouches p (if q test this that) x = BlockTouches p this x ⊎ BlockTouches p that x
  CommandTouches p (while q test invariant body) x = BlockTouches p body x
  CommandTouches p (call q c) x = MayChange p c x
  CommandTouches p (fork q c d) x = MayChange p c x ⊎ MayChange p d x
  CommandTouches p (with q r test body) x = BlockTouches p body x

  pub BlockTouches : Program → Block → Var → Type 0
  BlockTouches p done x = ⊥
  BlockTouches p (then c b) x = CommandTouches p c x ⊎ BlockTouches p b x

abbrev pub Touches : Program → List Item → Var → Type 0
Touches p [] x = ⊥
Touches p (command c ∷ rest) x = CommandTouches p c x ⊎ Touches p rest x
Touches p (leave r ∷ rest) x = Touches p rest x

pub touches-items : (p : Program) (b : Block) (rest : List Item) (x : Var) → Touches p (items b ++ rest) x
    → BlockTouches p b x ⊎ Touches p rest x
touches-items p done rest x t = inr t
touches-items p (then c b) rest x (inl t) = inl (inl t)
touches-items p (then c b) rest x (inr t) = elim (touches-items p b rest x t) [ inl y ↦ inl (inr y) | inr y ↦ inr y ]

-- THE RESOURCES THAT ARE LEFT
abbrev pub size : Program → ResId → ℕ
size p r = variable_count (slice_get p.resources r.0)

abbrev pub left_variables : Program → List Item → Var → Bool
left_variables p [] x = false
left_variables p (command c ∷ rest) x = left_variables p rest x
left_variables p (leave r ∷ rest) x = is_of r (size p r) x || left_variables p rest x

abbrev pub left_tokens : List Item → ResId → Bool
left_tokens [] q = false
left_tokens (command c ∷ rest) q = left_tokens rest q
left_tokens (leave r ∷ rest) q = (q.0 == r.0) || left_tokens rest q

pub left-variables_items : (p : Program) (b : Block) (rest : List Item)
    → left_variables p (items b ++ rest) ≡ left_variables p rest
left-variables_items p done rest = refl
left-variables_items p (then c b) rest = left-variables_items p b rest

pub left-tokens_items : (b : Block) (rest : List Item) → left_tokens (items b ++ rest) ≡ left_tokens rest
left-tokens_items done rest = refl
left-tokens_items (then c b) rest = left-tokens_items b rest

-- KEPT
pub record Kept (A : Var → Type 0) (gone : Var → Bool) (lost : ResId → Bool) (before after : Local) : Type 0 where
  pub domain : (x : Var) → is_some (after.values x) ≡ not (gone x) && is_some (before.values x)
  pub same : (x : Var) → gone x ≡ false → (A x → ⊥) → after.values x ≡ before.values x
  pub tokens : (r : ResId) → is_some (after.tokens r) ≡ not (lost r) && is_some (before.tokens r)

abbrev pub nothing_gone : Var → Bool
nothing_gone x = false

abbrev pub nothing_lost : ResId → Bool
nothing_lost r = false

kept-then : (A : Var → Type 0) (gone : Var → Bool) (lost : ResId → Bool) (one two three : Local)
    → Kept A nothing_gone nothing_lost one two → Kept A gone lost two three → Kept A gone lost one three
kept-then A gone lost one two three k m = record {
  domain = λ x. m.domain x ∙ ap (λ b. not (gone x) && b) (k.domain x);
  same = λ x g a. m.same x g a ∙ k.same x refl a;
  tokens = λ r. m.tokens r ∙ ap (λ b. not (lost r) && b) (k.tokens r);
}

kept-self : (A : Var → Type 0) (l : Local) → Kept A nothing_gone nothing_lost l l
kept-self A l = record { domain = λ x. refl; same = λ x g a. refl; tokens = λ r. refl }

-- whether something is there
pub some-or : {X : Type 0} (a b : Option X) → is_some (option_or a b) ≡ is_some a || is_some b
some-or None b = refl
some-or (Some x) b = refl

pub some-splits : {K X : Type 0} {whole left right : Map K X} → Splits whole left right → (key : K)
    → is_some (whole key) ≡ is_some (left key) || is_some (right key)
some-splits {left = left} {right} s key = ap is_some (s.is key) ∙ some-or (left key) (right key)

pub some-has : (l : Local) (x : Var) → is_some (l.values x) ≡ true → HasVar l x
some-has l x e = go (l.values x) e
  where
    go : (o : Option Value) → is_some o ≡ true → (v : Value) × (o ≡ Some v)
    go None e = absurd (cc)
    go (Some v) e = (v, refl)

pub has-some : (l : Local) (x : Var) → HasVar l x → is_some (l.values x) ≡ true
has-some l x h = ap is_some h.1

bool-same : (a b : Bool) → (a ≡ true → b ≡ true) → (b ≡ true → a ≡ true) → a ≡ b
bool-same true b f g = sym (f refl)
bool-same false true f g = g refl
bool-same false false f g = refl

pub just-same : (V : Var → Type 0) (a b : Local) → HasJustVars V a → HasJustVars V b → (x : Var)
    → is_some (a.values x) ≡ is_some (b.values x)
just-same V a b i j x =
    bool-same (is_some (a.values x)) (is_some (b.values x))
    (λ e. has-some b x (j.each x (i.only x (some-has a x e))))
    (λ e. has-some a x (i.each x (j.only x (some-has b x e))))

pub just-none : (V : Var → Type 0) (a : Local) → HasJustVars V a → (x : Var) → (V x → ⊥) → a.values x ≡ None
just-none V a i x n = go (is_some (a.values x)) refl
  where
    go : (b : Bool) → is_some (a.values x) ≡ b → a.values x ≡ None
    go true e = absurd (n (i.only x (some-has a x e)))
    go false e = is_some-false (a.values x) e

-- cells are nothing to it
kept-cells : (A : Var → Type 0) (l m : Local) (location : ℕ) (c : Option Cell)
    → Kept A nothing_gone nothing_lost l m → Kept A nothing_gone nothing_lost l (put_local location c m)
kept-cells A l m location c k = record { domain = k.domain; same = k.same; tokens = k.tokens }

-- a variable that is there gets another value
kept-put : (A : Var → Type 0) (l : Local) (x : Var) (v : Value) → HasVar l x → A x
    → Kept A nothing_gone nothing_lost l (put_variable x v l)
kept-put A l x v h a = record { domain = domain; same = λ y g n. same y n; tokens = λ r. refl }
  where
    domain : (y : Var) → is_some (cond (same_var y x) (Some v) (l.values y)) ≡ is_some (l.values y)
    domain y = go (same_var y x) refl
      where
        go : (b : Bool) → same_var y x ≡ b → is_some (cond b (Some v) (l.values y)) ≡ is_some (l.values y)
        go true e = sym (ap (λ z. is_some (l.values z)) ((same_var-decides y x).0 e) ∙ has-some l x h)
        go false e = refl

    same : (y : Var) → (A y → ⊥) → cond (same_var y x) (Some v) (l.values y) ≡ l.values y
    same y n = go (same_var y x) refl
      where
        go : (b : Bool) → same_var y x ≡ b → cond b (Some v) (l.values y) ≡ l.values y
        go true e = absurd (n (subst A (sym ((same_var-decides y x).0 e)) a))
        go false e = refl

-- THE SHARE OF A RESOURCE it has the variables of the resource
pub of-decides : (r : ResId) (count : ℕ) (x : Var) → is_of r count x ≡ true → IsOfResource r.0 count x
of-decides r count (Own n) e = absurd (cc)
of-decides r count (Shared q i) e = (Decides-and (q.0 == r.0) (nat_lt i count) (Decides-eqb q.0 r.0)
    (Decides-ltb i count)).0 e

pub of-is : (r : ResId) (count : ℕ) (x : Var) → IsOfResource r.0 count x → is_of r count x ≡ true
of-is r count (Own n) e = absurd e
of-is r count (Shared q i) e = (Decides-and (q.0 == r.0) (nat_lt i count) (Decides-eqb q.0 r.0)
    (Decides-ltb i count)).1 e

pub share-size : (p : Program) (r : ResId) (share : Local) (s : IsShare p r share)
    → size p r ≡ length s.resource.variables
share-size p r share s = ap variable_count s.there

pub share-some : (p : Program) (r : ResId) (share : Local) → IsShare p r share → (x : Var)
    → is_some (share.values x) ≡ is_of r (size p r) x
share-some p r share s x =
    bool-same (is_some (share.values x)) (is_of r (length s.resource.variables) x)
    (λ e. of-is r (length s.resource.variables) x (s.variables.only x (some-has share x e)))
    (λ e. has-some share x (s.variables.each x (of-decides r (length s.resource.variables) x e)))
    ∙ ap (λ k. is_of r k x) (sym (share-size p r share s))

pub share-token : (p : Program) (r : ResId) (share : Local) → IsShare p r share → (q : ResId)
    → is_some (share.tokens q) ≡ (q.0 == r.0)
share-token p r share s q = ap (λ t. is_some (t q)) s.tokens ∙ go (q.0 == r.0) (Some tt) refl
  where
    go : (b : Bool) (o : Option (Unit {0})) → is_some o ≡ true → is_some (cond b o None) ≡ b
    go true o e = e
    go false o e = refl

-- what is on the right isn't on the left
apart-not_both : {X : Type 0} (a b : Option X) → Apart a b → is_some b ≡ true → is_some a ≡ false
apart-not_both None b d e = refl
apart-not_both (Some x) None d e = absurd (false≢true e)
apart-not_both (Some x) (Some y) d e = absurd d

pub some-apart : {K X : Type 0} {whole left right : Map K X} (key : K) → Splits whole left right
    → is_some (right key) ≡ true → is_some (left key) ≡ false
some-apart {left = left} {right} key s e = apart-not_both (left key) (right key) (s.apart key) e

enter-bool : (o g a b : Bool) → (o ≡ true → a ≡ false) → b ≡ not (o || g) && (a || o) → b ≡ not g && a
enter-bool true true a b h e = e
enter-bool true false a b h e = e ∙ sym (h refl)
enter-bool false g true b h e = e
enter-bool false g false b h e = e

leave-bool : (o g a b : Bool) → (o ≡ true → a ≡ false) → b ≡ not g && a → b ≡ not (o || g) && (o || a)
leave-bool true true a b h e = e
leave-bool true false a b h e = e ∙ h refl
leave-bool false g a b h e = e

pub or-false : (a b : Bool) → a || b ≡ false → (a ≡ false) × (b ≡ false)
or-false true b e = absurd (cc)
or-false false b e = (refl, e)

module _ (p : Program) (A : Var → Type 0) (gone : Var → Bool) (lost : ResId → Bool) (r : ResId) where
  -- what is entered and left again is no more there than before
  kept-enter : (l share both after : Local) → IsShare p r share → LocalParts both l share
      → Kept A (λ x. is_of r (size p r) x || gone x) (λ q. (q.0 == r.0) || lost q) both after
      → Kept A gone lost l after
  kept-enter l share both after s q k = record {
    domain = λ x. enter-bool (is_of r (size p r) x) (gone x) (is_some (l.values x)) (is_some (after.values x))
        (λ o. some-apart x q.values (share-some p r share s x ∙ o))
        (k.domain x ∙ ap (λ b. not (is_of r (size p r) x || gone x) && b) (some x));
    same = λ x g a. go x g a (is_of r (size p r) x) refl;
    tokens = λ t. enter-bool (t.0 == r.0) (lost t) (is_some (l.tokens t)) (is_some (after.tokens t))
        (λ o. some-apart t q.tokens (share-token p r share s t ∙ o))
        (k.tokens t ∙ ap (λ b. not ((t.0 == r.0) || lost t) && b)
        (some-splits q.tokens t ∙ ap (λ b. is_some (l.tokens t) || b) (share-token p r share s t)));
  }
    where
      some : (x : Var) → is_some (both.values x) ≡ is_some (l.values x) || is_of r (size p r) x
      some x = some-splits q.values x ∙ ap (λ b. is_some (l.values x) || b) (share-some p r share s x)

      go : (x : Var) → gone x ≡ false → (A x → ⊥) → (o : Bool) → is_of r (size p r) x ≡ o
          → after.values x ≡ l.values x
      go x g a true e =
          is_some-false (after.values x)
          (k.domain x ∙ ap (λ b. not (b || gone x) && is_some (both.values x)) e)
          ∙ sym (is_some-false (l.values x) (some-apart x q.values (share-some p r share s x ∙ e)))
      go x g a false e =
          k.same x (ap (λ b. b || gone x) e ∙ g) a
          ∙ splits-at_left x q.values (is_some-false (share.values x) (share-some p r share s x ∙ e))

  -- what is left isn't there any more
  kept-leave : (l share kept after : Local) → IsShare p r share → LocalParts l share kept
      → Kept A gone lost kept after
      → Kept A (λ x. is_of r (size p r) x || gone x) (λ q. (q.0 == r.0) || lost q) l after
  kept-leave l share kept after s q k = record {
    domain = λ x.
        leave-bool (is_of r (size p r) x) (gone x) (is_some (kept.values x)) (is_some (after.values x))
        (λ o. some-apart x (splits-comm q.values) (share-some p r share s x ∙ o)) (k.domain x)
        ∙ ap (λ b. not (is_of r (size p r) x || gone x) && b)
        (sym (some-splits q.values x ∙ ap (λ b. b || is_some (kept.values x)) (share-some p r share s x)));
    same = λ x g a. let e = or-false (is_of r (size p r) x) (gone x) g in
        k.same x e.1 a
        ∙ sym (splits-at_right x q.values (is_some-false (share.values x) (share-some p r share s x ∙ e.0)));
    tokens = λ t.
        leave-bool (t.0 == r.0) (lost t) (is_some (kept.tokens t)) (is_some (after.tokens t))
        (λ o. some-apart t (splits-comm q.tokens) (share-token p r share s t ∙ o)) (k.tokens t)
        ∙ ap (λ b. not ((t.0 == r.0) || lost t) && b)
        (sym (some-splits q.tokens t ∙ ap (λ b. b || is_some (kept.tokens t)) (share-token p r share s t)));
  }

-- what is lent comes back
kept-back : (A : Var → Type 0) (l lent kept after back : Local) → LocalParts l lent kept → LocalParts after back kept
    → ((x : Var) → is_some (back.values x) ≡ is_some (lent.values x))
    → ((x : Var) → (A x → ⊥) → (lent.values x ≡ None) × (back.values x ≡ None))
    → ((r : ResId) → (lent.tokens r ≡ None) × (back.tokens r ≡ None))
    → Kept A nothing_gone nothing_lost l after
kept-back A l lent kept after back q k domain out outside = record {
  domain = λ x. some-splits k.values x ∙ ap (λ b. b || is_some (kept.values x)) (domain x)
      ∙ sym (some-splits q.values x);
  same = λ x g a. splits-at_right x k.values (out x a).1 ∙ sym (splits-at_right x q.values (out x a).0);
  tokens = λ r. ap is_some
      (splits-at_right r k.tokens (outside r).1 ∙ sym (splits-at_right r q.tokens (outside r).0));
}

-- KEEP
module _ (p : Program) (A : Var → Type 0) where
  -- what holds at the end, and what is kept there
  abbrev pub Keeping : (End : Local → Type 0) → List Item → (before after : Local) → Type 0
  Keeping End todo before after = End after × Kept A (left_variables p todo) (left_tokens todo) before after

  -- of something that is done first
  after-step : (n : ℕ) (End : Local → Type 0) (rest : List Item) (before between : Local)
      → Kept A nothing_gone nothing_lost before between → LocalSafe p n (Keeping End rest between) rest between
      → LocalSafe p n (Keeping End rest before) rest between
  after-step n End rest before between k s =
      local-weaken p n (Keeping End rest between) (Keeping End rest before) rest between
      (λ m (e, j). (e, kept-then A (left_variables p rest) (left_tokens rest) before between m k j)) s

  -- of a block before the rest
  block-kept : (n : ℕ) (End : Local → Type 0) (b : Block) (rest : List Item) (before l : Local)
      → LocalSafe p n (Keeping End (items b ++ rest) before) (items b ++ rest) l
      → LocalSafe p n (Keeping End rest before) (items b ++ rest) l
  block-kept n End b rest before l s =
      subst₂ (λ g t. LocalSafe p n (λ m. End m × Kept A g t before m) (items b ++ rest) l)
      (left-variables_items p b rest) (left-tokens_items b rest) s

  within : (b : Block) (rest : List Item) → ((x : Var) → BlockTouches p b x → A x)
      → ((x : Var) → Touches p rest x → A x) → (x : Var) → Touches p (items b ++ rest) x → A x
  within b rest f g x t = elim (touches-items p b rest x t) [ inl y ↦ f x y | inr y ↦ g x y ]

  pub keep : (n : ℕ) (End : Local → Type 0) (todo : List Item) (l : Local)
      → ((x : Var) → Touches p todo x → A x) → LocalSafe p n End todo l
      → LocalSafe p n (Keeping End todo l) todo l
  keep zero End todo l a s = tt
  keep (suc n) End [] l a s = (s, kept-self A l)
  keep (suc n) End (command (assign q x e) ∷ rest) l a s = (
    s.0,
    s.1,
    after-step n End rest l _ (kept-put A l x.var (look l e) s.0 (a x.var (inl refl)))
        (keep n End rest _ (λ y t. a y (inr t)) s.2),
  )
  keep (suc n) End (command (look_up q x e field) ∷ rest) l a s = (
    s.0,
    s.1,
    after-step n End rest l _ (kept-put A l x.var (s.1.cell field.0) s.0 (a x.var (inl refl)))
        (keep n End rest _ (λ y t. a y (inr t)) s.2),
  )
  keep (suc n) End (command (mutate q e field v) ∷ rest) l a s = (
    s.0,
    s.1,
    after-step n End rest l _ (record { domain = λ x. refl; same = λ x g i. refl; tokens = λ r. refl })
        (keep n End rest _ (λ y t. a y (inr t)) s.2),
  )
  keep (suc n) End (command (new q x) ∷ rest) l a s = (
    s.0,
    λ location cell i e.
        after-step n End rest l _
        (kept-cells A l (put_variable x.var (loc location) l) location (Some cell)
        (kept-put A l x.var (loc location) s.0 (a x.var (inl refl))))
        (keep n End rest _ (λ y t. a y (inr t)) (s.1 location cell i e)),
  )
  keep (suc n) End (command (dispose q e) ∷ rest) l a s = (
    s.0,
    after-step n End rest l _ (record { domain = λ x. refl; same = λ x g i. refl; tokens = λ r. refl })
        (keep n End rest _ (λ y t. a y (inr t)) s.1),
  )
  keep (suc n) End (command (if q test this that) ∷ rest) l a s = record {
    reads = s.reads;
    this = λ t. block-kept n End this rest l l (keep n End (items this ++ rest) l
        (within this rest (λ x y. a x (inl (inl y))) (λ x y. a x (inr y))) (s.this t));
    that = λ t. block-kept n End that rest l l (keep n End (items that ++ rest) l
        (within that rest (λ x y. a x (inl (inr y))) (λ x y. a x (inr y))) (s.that t));
  }
  keep (suc n) End (command (while q test invariant body) ∷ rest) l a s = record {
    reads = s.reads;
    this = λ t. block-kept n End body (command (while q test invariant body) ∷ rest) l l
        (keep n End (items body ++ (command (while q test invariant body) ∷ rest)) l
        (within body (command (while q test invariant body) ∷ rest) (λ x y. a x (inl y)) a) (s.this t));
    that = λ t. keep n End rest l (λ x y. a x (inr y)) (s.that t);
  }
  keep (suc n) End (command (call q c) ∷ rest) l a s = (
    s.0,
    λ g i. let m = s.1 g i in
        calls-weaker p m (λ back after b k safe.
        after-step n End rest l after
        (kept-back A l m.lent m.kept after back m.parts k
        (just-same (MayChange p c) back m.lent b.variables m.lends.variables)
        (λ x z. (
          just-none (MayChange p c) m.lent m.lends.variables x (λ y. z (a x (inl y))),
          just-none (MayChange p c) back b.variables x (λ y. z (a x (inl y))),
        )) (λ r. (m.lends.outside r, b.outside r)))
        (keep n End rest after (λ x y. a x (inr y)) safe)),
  )
  keep (suc n) End (command (fork q c d) ∷ rest) l a s = (
    s.0,
    s.1,
    λ g h i j. let m = s.2 g h i j in
        forks-weaker p m (λ one two back after b o both k safe.
        after-step n End rest l after
        (kept-back A l m.lent m.kept after back m.parts k
        (λ x. some-splits both.values x
        ∙ ap₂ ◌||◌ (just-same (MayChange p c) one m.left b.variables m.lends_left.variables x)
        (just-same (MayChange p d) two m.right o.variables m.lends_right.variables x)
        ∙ sym (some-splits m.apart.values x))
        (λ x z. (
          splits-lacks_whole x m.apart.values
              (just-none (MayChange p c) m.left m.lends_left.variables x (λ y. z (a x (inl (inl y)))))
              (just-none (MayChange p d) m.right m.lends_right.variables x (λ y. z (a x (inl (inr y))))),
          splits-lacks_whole x both.values
              (just-none (MayChange p c) one b.variables x (λ y. z (a x (inl (inl y)))))
              (just-none (MayChange p d) two o.variables x (λ y. z (a x (inl (inr y))))),
        ))
        (λ r. (
          splits-lacks_whole r m.apart.tokens (m.lends_left.outside r) (m.lends_right.outside r),
          splits-lacks_whole r both.tokens (b.outside r) (o.outside r),
        )))
        (keep n End rest after (λ x y. a x (inr y)) safe)),
  )
  keep (suc n) End (command (with q r test body) ∷ rest) l a s = record {
    there = s.there;
    reads = s.reads;
    goes_on = λ share both f k t.
        local-weaken p n (Keeping End (leave r ∷ rest) both) (Keeping End rest l) (items body ++ (leave r ∷ rest))
        both
        (λ m (e, j). (e, kept-enter p A (left_variables p rest) (left_tokens rest) r l share both m f k j))
        (block-kept n End body (leave r ∷ rest) both both
        (keep n End (items body ++ (leave r ∷ rest)) both
        (within body (leave r ∷ rest) (λ x y. a x (inl y)) (λ x y. a x (inr y))) (s.goes_on share both f k t)));
  }
  keep (suc n) End (leave r ∷ rest) l a s = record {
    share = s.share;
    kept = s.kept;
    parts = s.parts;
    free = s.free;
    goes_on = local-weaken p n (Keeping End rest s.kept) (Keeping End (leave r ∷ rest) l) rest s.kept
        (λ m (e, j). (
          e,
          kept-leave p A (left_variables p rest) (left_tokens rest) r l s.share s.kept m s.free s.parts j,
        )) (keep n End rest s.kept a s.goes_on);
  }
