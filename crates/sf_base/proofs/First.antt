-- The first among the things of a list.
-- Names: `first-LAW`. Where the order matters, what is before a thing is before whatever is not before that thing.
use Rattle.std.specs.Prelude.{◌≡◌, Bool, true, false, List, [], ◌∷◌, ◌++◌, Contains, Option, Some, None}
use Rattle.std.specs.List.{All}
use Rattle.std.proofs.Common.{sym, ap, ◌∙◌, refl, subst, inl, append_assoc, append-nil}
use Rattle.std.proofs.lemmas.List.Elements.{All-append, All-cons, All-contains, All-head, All-nil, All-push, All-tail, All-weaker, Contains-append_right}
use Rattle.sf_base.specs.First.{IsFirstAmong, IsFirstOf}
use Rattle.sf_base.proofs.Elements.{contains-cons}

-- an order: nothing is before what is before it, and what is before a thing is before whatever is not before that
pub record IsOrder {A : Type 0} (e : A → A → Bool) : Type 0 where
  pub asymmetric : (x y : A) → e x y ≡ true → e y x ≡ false
  pub before_others : (x y z : A) → e x y ≡ true → e z y ≡ false → e x z ≡ true

module _ {A : Type 0} (e : A → A → Bool) where
  contains-middle : (before : List A) (x : A) (after : List A) → Contains (before ++ x ∷ after) x
  contains-middle before x after =
      Contains-append_right before (x ∷ after) x ((contains-cons x after x).1 (inl refl))

  -- what is first after a first part is not before it
  never-after : (x y : A) (c d f : List A) → c ≡ d ++ y ∷ f → All (λ z. e z x ≡ false) c → e y x ≡ false
  never-after x y c d f q cx =
      All-contains (λ z. e z x ≡ false) c y cx
      (subst (λ zs. Contains zs y) (sym q) (contains-middle d y f))

  same : (x y : A) (b c d f : List A) → b ++ x ∷ c ≡ d ++ y ∷ f → All (λ z. e x z ≡ true) b
      → All (λ z. e z x ≡ false) c → All (λ z. e y z ≡ true) d → All (λ z. e z y ≡ false) f → x ≡ y
  same x y [] c [] f q bx cx dy fy = cc
  same x y [] c (z ∷ d) f q bx cx dy fy =
      let here : z ≡ x = cc in
      let rest : c ≡ d ++ y ∷ f = cc in
      let one : e y x ≡ true = subst (λ (w : A). e y w ≡ true) here (All-head (λ w. e y w ≡ true) z d dy) in
      let other : e y x ≡ false = never-after x y c d f rest cx in
      absurd cc
  same x y (z ∷ b) c [] f q bx cx dy fy =
      let here : z ≡ y = cc in
      let rest : f ≡ b ++ x ∷ c = cc in
      let one : e x y ≡ true = subst (λ (w : A). e x w ≡ true) here (All-head (λ w. e x w ≡ true) z b bx) in
      let other : e x y ≡ false = never-after y x f b c rest fy in
      absurd cc
  same x y (z ∷ b) c (w ∷ d) f q bx cx dy fy =
      let rest : b ++ x ∷ c ≡ d ++ y ∷ f = cc in
      same x y b c d f rest (All-tail (λ v. e x v ≡ true) z b bx) cx (All-tail (λ v. e y v ≡ true) w d dy) fy

  -- there is one at most
  pub first-unique : (all : List A) (x y : A) → IsFirstAmong e all x → IsFirstAmong e all y → x ≡ y
  first-unique all x y f g =
      same x y f.before f.after g.before g.after (sym f.among ∙ g.among) f.later f.not_earlier g.later
      g.not_earlier

  -- there is none among none
  pub first-nothing : (x : A) → IsFirstAmong e [] x → ⊥
  first-nothing x f = go f.before f.among
    where
      go : (before : List A) → [] ≡ before ++ x ∷ f.after → ⊥
      go [] q = absurd cc
      go (y ∷ before) q = absurd cc

  -- it is one of them
  pub first-contained : (all : List A) (x : A) → IsFirstAmong e all x → Contains all x
  first-contained all x f =
      subst (λ zs. Contains zs x) (sym f.among) (contains-middle f.before x f.after)

  -- one alone is the first
  pub first-single : (x : A) → IsFirstAmong e (x ∷ []) x
  first-single x = record {
    before = [];
    after = [];
    among = refl;
    later = All-nil (λ y. e x y ≡ true);
    not_earlier = All-nil (λ y. e y x ≡ false);
  }

  -- one more that is not before it leaves it the first
  pub first-kept : (all : List A) (x y : A) → IsFirstAmong e all x → e y x ≡ false
      → IsFirstAmong e (all ++ y ∷ []) x
  first-kept all x y f h = record {
    before = f.before;
    after = f.after ++ y ∷ [];
    among = ap (λ zs. zs ++ y ∷ []) f.among ∙ append_assoc f.before (x ∷ f.after) (y ∷ []);
    later = f.later;
    not_earlier = All-push (λ z. e z x ≡ false) f.after y f.not_earlier h;
  }

  -- one more that is before it is the first
  pub first-replaced : IsOrder e → (all : List A) (x y : A) → IsFirstAmong e all x → e y x ≡ true
      → IsFirstAmong e (all ++ y ∷ []) y
  first-replaced o all x y f h = record {
    before = all;
    after = [];
    among = refl;
    later = subst (All (λ z. e y z ≡ true)) (sym f.among)
        (All-append (λ z. e y z ≡ true) f.before (x ∷ f.after)
        (All-weaker (λ z. e x z ≡ true) (λ z. e y z ≡ true)
        (λ z k. o.before_others y x z h (o.asymmetric x z k)) f.before f.later)
        (All-cons (λ z. e y z ≡ true) x f.after h
        (All-weaker (λ z. e z x ≡ false) (λ z. e y z ≡ true) (λ z k. o.before_others y x z h k) f.after
        f.not_earlier)));
    not_earlier = All-nil (λ z. e z y ≡ false);
  }

  -- none of them is before it
  pub first-first : IsOrder e → (all : List A) (x y : A) → IsFirstAmong e all x → Contains all y → e y x ≡ false
  first-first o all x y f c =
      let itself : e x x ≡ false = go (e x x) refl in
      All-contains (λ z. e z x ≡ false) all y
      (subst (All (λ z. e z x ≡ false)) (sym f.among)
      (All-append (λ z. e z x ≡ false) f.before (x ∷ f.after)
      (All-weaker (λ z. e x z ≡ true) (λ z. e z x ≡ false) (λ z k. o.asymmetric x z k) f.before f.later)
      (All-cons (λ z. e z x ≡ false) x f.after itself f.not_earlier))) c
    where
      go : (b : Bool) → e x x ≡ b → e x x ≡ false
      go true q = o.asymmetric x x q
      go false q = q

  -- one more, after those of which the first is known
  pub first-more : IsOrder e → (all : List A) (found : Option A) (y : A) → IsFirstOf e all found
      → (x : A) × IsFirstAmong e (all ++ y ∷ []) x
  first-more o all None y f = (y, subst (λ zs. IsFirstAmong e (zs ++ y ∷ []) y) (sym f) (first-single y))
  first-more o all (Some x) y f = go (e y x) refl
    where
      go : (b : Bool) → e y x ≡ b → (z : A) × IsFirstAmong e (all ++ y ∷ []) z
      go true q = (y, first-replaced o all x y f q)
      go false q = (x, first-kept all x y f q)

  found-among : IsOrder e → (done : List A) (found : Option A) (more : List A) → IsFirstOf e done found
      → (answer : Option A) × IsFirstOf e (done ++ more) answer
  found-among o done found [] f = (found, subst (λ zs. IsFirstOf e zs found) (sym (append-nil done)) f)
  found-among o done found (y ∷ more) f =
      let next = first-more o done found y f in
      subst (λ zs. (answer : Option A) × IsFirstOf e zs answer) (append_assoc done (y ∷ []) more)
      (found-among o (done ++ y ∷ []) (Some next.0) more next.1)

  -- a list has a first one, or nothing
  pub first-exists : IsOrder e → (all : List A) → (answer : Option A) × IsFirstOf e all answer
  first-exists o all = found-among o [] None all refl
