-- The tokens of a part, before and after an event.
-- Names: `held-LAW` of who holds a resource, `token-LAW` of the tokens.
use Rattle.std.specs.Prelude.{◌≡◌, ◌==◌, Bool, true, false, cond, Option, Some, None}
use Rattle.std.specs.Option.{option_or}
use Rattle.std.proofs.Common.{sym, ap, ◌∙◌, refl}
use Rattle.sf_base.proofs.HeapSplits.{at-self}
use Rattle.sf_base.proofs.StoreSplits.{resource-same}
use Rattle.sf_base.specs.declared.ids.ResId.{ResId}
use Rattle.sf_base.specs.HeapStore.{Apart, Map, Splits}
use Rattle.sf_core.specs.Machine.Config.{Path}
use Rattle.sf_core.specs.Machine.Step.{set_holder}
use Rattle.sf_core.specs.Machine.Whole.{Part, holders}
use Rattle.sf_own.specs.Checked.Safe.{own_of}
use Rattle.sf_part.specs.Steps.{common_of}

-- the token of one resource alone
abbrev pub token_of : ResId → Map ResId (Unit {0})
token_of r = λ q. cond (q.0 == r.0) (Some tt) None

-- a choice between a holder and none tells whether there is one
pub held-same : (x y : Bool) (s t : Path)
    → cond x (Some s) None ≡ cond {A = Option Path} y (Some t) None → x ≡ y
held-same true true s t e = refl
held-same false false s t e = refl
held-same true false s t e = absurd (let k : Some s ≡ None = e in cc)
held-same false true s t e = absurd (let k : None ≡ Some t = e in cc)

-- parts of which the same is held hold the same
pub holds-same : (a b : Part) → holders b ≡ holders a → b.holds ≡ a.holds
holds-same a b e = λ i r. held-same (b.holds r) (a.holds r) b.task a.task (ap (λ h. h r) e) i

-- the one part holds what the other does, and that resource beside it
pub record HoldsMore (less more : Part) (r : ResId) : Type 0 where
  pub lacks : less.holds r ≡ false
  pub others : (q : ResId) → more.holds q ≡ cond (q.0 == r.0) true (less.holds q)

held-entered : (b x y : Bool) (s t u : Path)
    → cond y (Some s) None ≡ cond {A = Option Path} b (Some t) (cond x (Some u) None)
    → y ≡ cond b true x
held-entered true x true s t u e = refl
held-entered true x false s t u e = absurd (let k : None ≡ Some t = e in cc)
held-entered false x y s t u e = held-same y x s u e

-- where nobody holds it the part doesn't
pub held-none : (x : Bool) (s : Path) → cond {A = Option Path} x (Some s) None ≡ None → x ≡ false
held-none true s e = absurd (cc)
held-none false s e = refl

held-some : (x : Bool) (s t : Path) → cond {A = Option Path} x (Some s) None ≡ Some t → x ≡ true
held-some true s t e = refl
held-some false s t e = absurd (cc)

-- after an entry the part holds the resource beside what it held
pub holds-entered : (a b : Part) (r : ResId) (path : Path) → holders a r ≡ None
    → holders b ≡ (set_holder r (Some path) (common_of a)).held → HoldsMore a b r
holds-entered a b r path none e = record {
  lacks = held-none (a.holds r) a.task none;
  others = λ q. held-entered (q.0 == r.0) (a.holds q) (b.holds q) b.task path a.task
      (ap (λ h. h q) e);
}

held-left : (b x y : Bool) (s u : Path)
    → cond y (Some s) None ≡ cond {A = Option Path} b None (cond x (Some u) None)
    → y ≡ cond b false x
held-left true x true s u e = absurd (let k : Some s ≡ None = e in cc)
held-left true x false s u e = refl
held-left false x y s u e = held-same y x s u e

back : (b x y : Bool) → y ≡ cond b false x → (b ≡ true → x ≡ true) → x ≡ cond b true y
back true x y e h = h refl
back false x y e h = sym e

-- after an exit the part held the resource beside what it holds
pub holds-left : (a b : Part) (r : ResId) (path : Path) → holders a r ≡ Some path
    → holders b ≡ (set_holder r None (common_of a)).held → HoldsMore b a r
holds-left a b r path some e = record {
  lacks = after r ∙ ap (λ t. cond t false (a.holds r)) (at-self r.0);
  others = λ q. back (q.0 == r.0) (a.holds q) (b.holds q) (after q)
      (λ i. ap a.holds (resource-same q r i) ∙ held-some (a.holds r) a.task path some);
}
  where
    after : (q : ResId) → b.holds q ≡ cond (q.0 == r.0) false (a.holds q)
    after q = held-left (q.0 == r.0) (a.holds q) (b.holds q) b.task a.task (ap (λ h. h q) e)

token-apart : (b x : Bool) → (b ≡ true → x ≡ false)
    → Apart (cond {A = Option (Unit {0})} x (Some tt) None) (cond b (Some tt) None)
token-apart true true h = absurd (let k = h refl in cc)
token-apart false true h = tt
token-apart b false h = tt

token-or : (b x y : Bool) → y ≡ cond b true x
    → cond {A = Option (Unit {0})} y (Some tt) None
    ≡ option_or (cond x (Some tt) None) (cond b (Some tt) None)
token-or true true y e = ap (λ z. cond z (Some tt) None) e
token-or true false y e = ap (λ z. cond z (Some tt) None) e
token-or false true y e = ap (λ z. cond z (Some tt) None) e
token-or false false y e = ap (λ z. cond z (Some tt) None) e

-- then it has the token beside those that it had
pub token-more : (less more : Part) (r : ResId) → HoldsMore less more r
    → Splits (own_of more).tokens (own_of less).tokens (token_of r)
token-more less more r h = record {
  apart = λ q. token-apart (q.0 == r.0) (less.holds q)
      (λ i. ap less.holds (resource-same q r i) ∙ h.lacks);
  is = λ q. token-or (q.0 == r.0) (less.holds q) (more.holds q) (h.others q);
}
