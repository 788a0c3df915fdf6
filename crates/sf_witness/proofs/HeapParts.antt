-- A part of a heap that satisfies one conjunct, as a footprint of an assertion of it alone.
-- Names: `foot-part`, `part-foot`.
use Rattle.std.proofs.Common.{◌≡◌, ℕ, Bool, false, ◌&&◌, nat_le, nat_lt, [], ◌∷◌, map, List, Option, Some, None, IfSome, IfNone, IsTrue, is_some, ◌↔◌, Vec, Global, refl, sym, ap, ◌∙◌, subst, arith}
use Rattle.std.proofs.lemmas.Bool.Decides.{nat_tests}
use Rattle.sf_core.specs.Assertions.Scopes.{is_made_by}
use Rattle.sf_base.specs.declared.ids.Var.{Var}
use Rattle.sf_base.specs.declared.value.Value.{Value}
use Rattle.sf_base.specs.declared.value.Value.TheVariants.{Nil as nil}
use Rattle.sf_base.specs.HeapStore.{Heap}
use Rattle.sf_base.proofs.MapSplits.{empty_map, empty-holds, splits-empty_right, splits-of_empty_right}
use Rattle.sf_core.specs.Assertions.InOrder.{IsInOrder, IsNext}
use Rattle.sf_core.specs.Assertions.Sat.{Foot, SatOne, value}
use Rattle.sf_core.specs.declared.assertion.Conjunct.{Conjunct as CodeConjunct}
use Rattle.sf_core.specs.declared.assertion.Conjunct.TheFolds.{fold-roll-Level}
use Rattle.sf_core.specs.declared.assertion.Level.{roll-Level}
use Rattle.sf_core.specs.declared.command.Expr.{Expr}
use Rattle.sf_core.specs.Program.View.{conjuncts, conjunct_of, level_of, conjunct_step, level_step}
use Rattle.sf_core.specs.declared.assertion.Scope.{Scope}
use Rattle.sf_core.specs.Program.Syntax.{Conjunct, Level, level, none, also}
use Rattle.sf_foot.specs.Footprint.{HasNoFootprint, IsFootprint}
use Rattle.sf_witness.specs.Checked.Shapes.{HasPart}

-- no existentials
abbrev pub nothing_made : Scope
nothing_made = record { first = 0; count = 0 }

-- the code's level of one conjunct
pub level-one : (c : CodeConjunct Expr) (cs : Vec (CodeConjunct Expr) Global) → cs.items ≡ c ∷ []
    → level_of {E = Expr} (roll-Level Expr (record { made = nothing_made; conjuncts = cs }))
    ≡ level nothing_made (also (conjunct_of c) none)
level-one c cs e =
    fold-roll-Level Expr (Conjunct Expr) (Level Expr) conjunct_step level_step _
    ∙ ap (λ xs. level nothing_made (conjuncts (map conjunct_of xs))) e

-- an assertion of a conjunct that can be taken is in order
pub one-in_order : (c : CodeConjunct Expr) (cs : Vec (CodeConjunct Expr) Global) → cs.items ≡ c ∷ []
    → IsNext (λ n. false) (conjunct_of c)
    → IsInOrder (level_of {E = Expr} (roll-Level Expr (record { made = nothing_made; conjuncts = cs })))
one-in_order c cs e n = subst IsInOrder (sym (level-one c cs e)) (n, tt)

-- it makes none
none-made : (n : ℕ) → is_made_by nothing_made n ≡ false
none-made n = go n (nat_lt n 0) refl
  where
    go : (m : ℕ) (b : Bool) → nat_lt m 0 ≡ b → nat_le 0 m && nat_lt m 0 ≡ false
    go m b e = grind (arith, nat_tests)

module _ {E : Type 0} (c : Conjunct E) (val : E → Value) (heap : Heap) where
  -- a footprint of the assertion is a part that satisfies the conjunct
  pub foot-part : (part : Heap) → Foot (level nothing_made (also c none)) val heap part
      → HasPart (SatOne c val (λ n. nil)) heap
  foot-part part f = record {
    part = part;
    rest = f.rest;
    splits = f.splits;
    is =
        subst (λ (p : Heap). SatOne c val (λ n. nil) p) (sym (splits-of_empty_right f.sat.2.second f.sat.2.splits))
        (subst (λ (some : ℕ → Value). SatOne c val some f.sat.2.left) (λ i n. f.sat.1 n (none-made n) i) f.sat.2.first);
  }

  -- and the other way round
  pub part-foot : (h : HasPart (SatOne c val (λ n. nil)) heap)
      → Foot (level nothing_made (also c none)) val heap h.part
  part-foot h = record {
    rest = h.rest;
    splits = h.splits;
    sat = (
      λ n. nil,
      λ n e. refl,
      record {
        left = h.part;
        right = empty_map;
        splits = splits-empty_right empty-holds;
        first = h.is;
        second = empty-holds;
      },
    );
  }

-- a part that is a footprint by the code's level is one that satisfies the conjunct, and without one there is none
pub found-part : (c : CodeConjunct Expr) (cs : Vec (CodeConjunct Expr) Global) (e : cs.items ≡ c ∷ []) (vars : Var → Value)
    (heap : Heap) (o : Option (List ℕ))
    → IfSome o (IsFootprint (level_of {E = Expr} (roll-Level Expr (record { made = nothing_made; conjuncts = cs }))) vars heap)
    → IfNone o (HasNoFootprint (level_of {E = Expr} (roll-Level Expr (record { made = nothing_made; conjuncts = cs }))) vars heap)
    → IsTrue (is_some o) ↔ HasPart (SatOne (conjunct_of c) (value vars) (λ n. nil)) heap
found-part c cs e vars heap (Some ls) there lacks = (
  λ i. foot-part (conjunct_of c) (value vars) heap there.part
      (subst (λ (a : Level Expr). Foot a (value vars) heap there.part) (level-one c cs e) there.foot),
  λ h. refl,
)
found-part c cs e vars heap None there lacks = (
  λ i. absurd (cc),
  λ h. absurd (lacks h.part (subst (λ (a : Level Expr). Foot a (value vars) heap h.part) (sym (level-one c cs e))
      (part-foot (conjunct_of c) (value vars) heap h))),
)
