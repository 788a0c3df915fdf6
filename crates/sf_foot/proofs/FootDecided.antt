-- Whether an assertion in order has a footprint in a heap with finitely many cells.
-- Names: `foot-LAW` of what a level takes; `decided-CASE`.
use Rattle.std.proofs.Common.{◌≡◌, ◌⊎◌, ◌==◌, ℕ, Bool, true, false, not, List, [], ◌∷◌, refl, sym, ap, ◌∙◌, subst, inl, inr}
use Rattle.std.specs.List.{list_any}
use Rattle.std.proofs.lemmas.Bool.{false≢true}
use Rattle.sf_base.specs.declared.ids.Var.{Var}
use Rattle.sf_base.specs.declared.value.Value.{Value}
use Rattle.sf_base.specs.declared.value.Value.TheVariants.{Nil as nil}
use Rattle.sf_core.specs.declared.command.Expr.{Expr}
use Rattle.sf_core.specs.Assertions.Determined.{known_inside}
use Rattle.sf_core.specs.Assertions.Sat.{value}
use Rattle.sf_core.specs.Assertions.Scopes.{is_made_by}
use Rattle.sf_core.specs.Program.Syntax.{Level, level}
use Rattle.sf_heap.specs.Cells.{Cells, heap_of}
use Rattle.sf_foot.specs.Footprint.{HasNoFootprint}
use Rattle.sf_foot.specs.Checked.Taking.{LevelTakes}
use Rattle.sf_foot.specs.Checked.Laws.{FootprintIsDecided, HasFootprintOrNone}
use Rattle.sf_foot.proofs.Feet.{distinct-to, foot-taken}
use Rattle.sf_foot.proofs.Learning.{plus}
use Rattle.sf_foot.proofs.Meaning.{have-level, level-from_sat}
use Rattle.sf_foot.proofs.Outcomes.{Outcome, nothing, plus-nothing, take-all, take-inside}
use Rattle.sf_foot.proofs.Parts.{Distinct}
use Rattle.sf_foot.proofs.Pigeons.{too-long}
use Rattle.sf_foot.proofs.Ready.{order-more}

-- locations differ, or one comes twice
distinct-decided : (ls : List ℕ) → Distinct ls ⊎ (Distinct ls → ⊥)
distinct-decided [] = inl tt
distinct-decided (l ∷ ls) = go (list_any (λ m. l == m) ls) refl (distinct-decided ls)
  where
    go : (b : Bool) → list_any (λ m. l == m) ls ≡ b → Distinct ls ⊎ (Distinct ls → ⊥)
        → Distinct (l ∷ ls) ⊎ (Distinct (l ∷ ls) → ⊥)
    go true e d = inr (λ both. false≢true (sym both.0 ∙ e))
    go false e (inl d) = inl (e, d)
    go false e (inr n) = inr (λ both. n both.1)

-- what a level takes, and whether it has a footprint
module _ (heap : Cells) (vars : Var → Value) (a : Level Expr) where
  -- what is taken is a footprint where its locations differ
  foot-differ : (ls : List ℕ) → LevelTakes heap a (value vars) (λ n. nil) ls → Distinct ls
      → HasFootprintOrNone a vars (heap_of heap)
  foot-differ ls t d = inl (ls, foot-taken heap vars a ls ls t d (λ l. (λ c. c, λ c. c)), distinct-to ls d)

  -- where all that is taken would be more than there is, or comes twice, there is none
  foot-longer : ((ls : List ℕ) → LevelTakes heap a (value vars) (λ n. nil) ls → Distinct ls → ⊥)
      → HasNoFootprint a vars (heap_of heap)
  foot-longer h part f =
      let w = level-from_sat heap (value vars) a (λ n. nil) part f.rest f.splits f.sat in
      h w.locations w.walked w.distinct

-- an assertion in order has a footprint or has none
pub footprint_is_decided : FootprintIsDecided
unfolding FootprintIsDecided
footprint_is_decided (level made cs) vars heap o =
    go (take-inside heap (value vars) made cs (λ n. not (is_made_by made n)) (λ n. nil) (λ n s. ap not s.1)
    (take-all heap (value vars) cs (known_inside made (λ n. not (is_made_by made n))) (λ n. nil)
    (order-more (λ n. false) (known_inside made (λ n. not (is_made_by made n))) (λ n e. absurd (false≢true e)) cs o)))
  where
    go : Outcome heap (value vars) (LevelTakes heap (level made cs) (value vars)) (λ n. not (is_made_by made n))
        (plus (λ n. not (is_made_by made n)) (nothing heap (value vars))) (λ n. nil)
        → HasFootprintOrNone (level made cs) vars (heap_of heap)
    go (inr h) = inr (foot-longer heap vars (level made cs) (λ ls t d.
        too-long heap [] ls tt (have-level heap (value vars) (level made cs) (λ n. nil) ls t)
        (h (λ n. nil) ls (λ n e. refl) t) d))
    go (inl g) = elim (distinct-decided g.locations) [
      | inl d ↦ foot-differ heap vars (level made cs) g.locations
          (g.all (λ n. nil) (λ n e. sym (g.keeps n (plus-nothing heap (value vars) (λ n. not (is_made_by made n)) n e)))) d
      | inr repeats ↦ inr (foot-longer heap vars (level made cs) (λ ls t d.
          repeats (subst Distinct (g.only (λ n. nil) ls (λ n e. refl) t).0 d)))
    ]
