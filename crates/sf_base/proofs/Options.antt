-- Options: that something is there or not, and what it is.
-- Names: `WORD-LAW`, where WORD is `some`, `none`, `cond`, `is_some`, `unwrap`, `option_map` or `option_or`.
-- Std has `none-some`, `same_Some`, `cond_some`, `IfSome_then` in lemmas.Option.
use Rattle.std.specs.Prelude.{◌≡◌, ◌⊎◌, Bool, true, false, cond, Option, Some, None, is_some, IfSome, IfNone}
use Rattle.std.specs.Option.{option_map, option_or, unwrap_or}
use Rattle.std.proofs.Common.{ap, refl, subst, inl, inr}

-- what is there is not absent
pub some-none : {X : Type 0} (x : X) → Some x ≡ None → ⊥
some-none x e = cc

-- what is there is one thing
pub some-once : {X : Type 0} (o : Option X) (x y : X) → o ≡ Some x → o ≡ Some y → x ≡ y
some-once o x y e f = cc

-- something is there, or nothing is
pub some-or_none : {X : Type 0} (o : Option X) → ((x : X) × (o ≡ Some x)) ⊎ (o ≡ None)
some-or_none None = inr refl
some-or_none (Some x) = inl (x, refl)

-- what holds of whatever is there holds of what is there
pub some-holds : {X : Type 0} (P : X → Type 0) (o : Option X) (x : X) → o ≡ Some x → IfSome o P → P x
some-holds P o x e h = subst (λ z. IfSome z P) e h

-- what holds where nothing is there holds where nothing is there
pub none-holds : {X A : Type 0} (o : Option X) → o ≡ None → IfNone o A → A
none-holds {A = A} o e h = subst (λ z. IfNone z A) e h

-- a choice between something and nothing that gives something has a true test
pub cond-some : {X : Type 0} (b : Bool) (x y : X) → cond b (Some x) None ≡ Some y → b ≡ true
cond-some true x y e = refl
cond-some false x y e = absurd (cc)

-- a choice between something and nothing is something exactly where its test is true
pub is_some-cond : {X : Type 0} (x : X) (b : Bool) → is_some (cond b (Some x) None) ≡ b
is_some-cond x true = refl
is_some-cond x false = refl

-- what isn't there is absent
pub is_some-false : {X : Type 0} (o : Option X) → is_some o ≡ false → o ≡ None
is_some-false None h = refl
is_some-false (Some x) h = cc

-- what a function makes of an option is there exactly where the option is
pub is_some-map : {X Y : Type 0} (f : X → Y) (o : Option X) → is_some (option_map f o) ≡ is_some o
is_some-map f None = refl
is_some-map f (Some x) = refl

-- what is there is what `unwrap_or` gives
pub unwrap-some : {X : Type 0} (o : Option X) (x d : X) → o ≡ Some x → unwrap_or o d ≡ x
unwrap-some o x d h = ap (λ p. unwrap_or p d) h

-- what a function made of an option, it made of what is there
pub option_map-some : {X Y : Type 0} (f : X → Y) (o : Option X) (y : Y) → option_map f o ≡ Some y
    → (x : X) × (o ≡ Some x) × (y ≡ f x)
option_map-some f None y e = absurd cc
option_map-some f (Some x) y e = (x, refl, cc)

-- of nothing it makes nothing
pub option_map-none : {X Y : Type 0} (f : X → Y) (o : Option X) → option_map f o ≡ None → o ≡ None
option_map-none f None e = refl
option_map-none f (Some x) e = absurd cc

-- the first that is there of three options, either way
pub option_or-assoc : {X : Type 0} (o q r : Option X)
    → option_or (option_or o q) r ≡ option_or o (option_or q r)
option_or-assoc None q r = refl
option_or-assoc (Some x) q r = refl
