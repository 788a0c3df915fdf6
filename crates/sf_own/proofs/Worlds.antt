-- A part alone as all that there is, where another task holds each resource that it doesn't hold.
-- Names: `world-LAW` of what there is, `held-LAW` of resources that all are held.
use Rattle.std.specs.Prelude.{◌≡◌, ◌<◌, ℕ, suc, Bool, true, false, cond, ltb, length, List, [], ◌∷◌, Option, Some, None}
use Rattle.std.specs.Option.{option_or}
use Rattle.std.proofs.Common.{ap, ◌∙◌, refl, subst, arith}
use Rattle.std.proofs.lemmas.Bool.Decides.{nat_tests}
use Rattle.sf_base.proofs.MapSplits.{empty-holds, splits-empty_right}
use Rattle.sf_base.specs.declared.ids.ResId.{ResId}
use Rattle.sf_base.specs.HeapStore.{Apart}
use Rattle.sf_core.specs.Machine.Config.{Path, Common}
use Rattle.sf_core.specs.Machine.Whole.{Part}
use Rattle.sf_core.specs.Program.Syntax.{Program, Resource}
use Rattle.sf_own.specs.Checked.Safe.{HoldsWithin, own_of}
use Rattle.sf_safe.specs.Checked.Invariant.{Resources}
use Rattle.sf_safe.specs.Checked.Own.{Own, Parts, everything, nothing}
use Rattle.sf_safe.specs.Checked.Owns.{Sums, owns, parts-comm, parts-nothing, parts-of_nothing}

-- what is shared, with these holders
abbrev pub with_held : (ResId → Option Path) → Common → Common
with_held held s = record s { held = held }

-- the cells and slots of the part, where all resources are held
abbrev pub alone : Path → Part → Common
alone path a = record { heap = a.heap; store = a.store; held = λ r. Some path }

-- the tokens of the program's resources that the part doesn't hold
abbrev pub others_of : Program → (ResId → Bool) → Own
others_of p holds = record {
  cells = λ location. None;
  slots = λ slot. None;
  tokens = λ r. cond (holds r) None (cond (ltb r.0 (length p.resources)) (Some tt) None);
}

others-apart : (x : Bool) (y : Option (Unit {0}))
    → Apart (cond {A = Option (Unit {0})} x (Some tt) None) (cond x None y)
others-apart true y = tt
others-apart false y = tt

others-or : (x y : Bool) → (x ≡ true → y ≡ true)
    → cond {A = Option (Unit {0})} y (Some tt) None
    ≡ option_or (cond {A = Option (Unit {0})} x (Some tt) None)
    (cond x None (cond y (Some tt) None))
others-or true y h = ap (λ z. cond {A = Option (Unit {0})} z (Some tt) None) (h refl)
others-or false y h = refl

-- a number below another is so by the test
pub less-is : (i n : ℕ) → i < n → ltb i n ≡ true
less-is i n l = grind (arith, nat_tests)

-- all that there is, in two
pub world-parts : (p : Program) (path : Path) (a : Part) → HoldsWithin p a
    → Parts (everything p (alone path a)) (own_of a) (others_of p a.holds)
world-parts p path a within = record {
  cells = splits-empty_right empty-holds;
  slots = splits-empty_right empty-holds;
  tokens = record {
    apart = λ r. others-apart (a.holds r) (cond (ltb r.0 (length p.resources)) (Some tt) None);
    is = λ r. others-or (a.holds r) (ltb r.0 (length p.resources))
        (λ e. less-is r.0 (length p.resources) (within r e));
  };
}

-- two parts and nothing more
pub world-sums : {w u v : Own} → Parts w u v → Sums w (u ∷ v ∷ nothing ∷ [])
world-sums {v = v} p = (v, p, (nothing, parts-nothing v, (nothing, parts-nothing nothing, refl)))

-- the way back
pub world-pair : {w u v x : Own} → x ≡ nothing → Sums w (u ∷ v ∷ x ∷ []) → Parts w u v
world-pair {w} {u} {v} {x} none (y, p, (z, q, (o, r, e))) =
    let last : z ≡ x = parts-of_nothing (subst (Parts z x) e r) in
    let rest : y ≡ v = parts-of_nothing (subst (Parts y v) (last ∙ none) q) in
    subst (Parts w u) rest p

-- what is beside the same in one whole is the same
pub parts-same : {w u v r : Own} → Parts w u r → Parts w v r → u ≡ v
parts-same p q = owns.cancel (parts-comm p) (parts-comm q)

module _ (p : Program) (path : Path) where
  -- where all resources are held none has a share
  pub held-all : (m : ℕ) (rs : List Resource) → Resources p (λ r. Some path) m rs nothing
  held-all m [] = refl
  held-all m (q ∷ rs) = record {
    left = nothing;
    right = nothing;
    parts = parts-nothing nothing;
    first = refl;
    second = held-all (suc m) rs;
  }

  pub held-none : (m : ℕ) (rs : List Resource) (w : Own) → Resources p (λ r. Some path) m rs w
      → w ≡ nothing
  held-none m [] w s = s
  held-none m (q ∷ rs) w s =
      let right = held-none (suc m) rs s.right s.second in
      parts-of_nothing (subst (λ z. Parts w s.left z) right s.parts) ∙ s.first
