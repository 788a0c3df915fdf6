-- The text of a witness, as the code puts it together.
-- Names: `cells_written`; `text-CASE`.
use Rattle.std.proofs.Common.{◌≡◌, ◌≢◌, ◌↔◌, ℕ, suc, ◌++◌, Bool, false, IsTrue, is_some, List, [], ◌∷◌, Contains, Option, Some, None, codes, get_or, refl, ap, ◌∙◌, subst}
use Rattle.std.specs.FinMap.{get}
use Rattle.std.specs.List.{flat_map}
use Rattle.std.specs.List.Sorted.{IsStrictlyIncreasing}
use Rattle.std.specs.Option.{option_map}
use Rattle.sf_base.specs.declared.ids.ProcId.{ProcId}
use Rattle.sf_base.specs.declared.ids.Var.{Var}
use Rattle.sf_base.specs.declared.value.Value.{Value}
use Rattle.sf_base.specs.declared.value.Value.TheVariants.{Nil as nil}
use Rattle.sf_base.specs.HeapStore.{Heap}
use Rattle.sf_base.proofs.Options.{some-none}
use Rattle.sf_core.specs.Program.Syntax.{Program}
use Rattle.sf_heap.specs.Cells.{AreAt, Cells, FieldValues, cell_of, heap_of}
use Rattle.sf_proof.specs.ProofText.{Text}
use Rattle.sf_state.specs.Refused.{cell_name}
use Rattle.sf_state.specs.StateText.{cell_lines, field_text, field_texts, values_or_none}
use Rattle.sf_sym.specs.declared.stuck.Stuck.{Stuck}
use Rattle.sf_sym.specs.Goal.{Goal}
use Rattle.sf_witness.specs.Normal.{Normal}
use Rattle.sf_witness.specs.Wanted.{WantHolds, whole_heap}
use Rattle.sf_witness.specs.WitnessState.{values}
use Rattle.sf_witness.specs.WitnessText.{WitnessText, cell_fields, cell_line, cell_or_nil, first_line, has_none, has_witness, value_line, want_line}

-- the fields of a cell
fields-same : (names : List Text) (n : ℕ) (o : Option FieldValues)
    → field_texts names n (values_or_none o) ≡ cell_fields names n (cell_or_nil (option_map cell_of o))
fields-same [] n o = refl
fields-same (name ∷ more) n None = ap (λ t. field_text name nil ++ t) (fields-same more (suc n) None)
fields-same (name ∷ more) n (Some k) = ap (λ t. field_text name (get_or k n nil) ++ t) (fields-same more (suc n) (Some k))

-- the lines of cells
pub cells_written : (names : List Text) (cells : Cells) (ls : List ℕ)
    → cell_lines names (get cells) ls ≡ flat_map (cell_line names (heap_of cells)) ls
cells_written names cells [] = refl
cells_written names cells (l ∷ ls) =
    (λ i. (cell_name l ++ fields-same names 0 (get cells l) i ++ codes "\n") ++ cells_written names cells ls i)

-- a cell is there where the heap has one
there-is : (o : Option FieldValues) → (option_map cell_of o ≢ None) ↔ IsTrue (is_some o)
there-is None = (λ n. absurd (n refl), λ i. absurd (cc))
there-is (Some k) = (λ n. refl, λ i e. some-none (cell_of k) e)

-- the cells are at the locations of a map
pub heap-at : (cells : Cells) (heap : Heap) (at : List ℕ) → AreAt at cells → heap_of cells ≡ heap
    → (l : ℕ) → heap l ≢ None ↔ Contains at l
heap-at cells heap at is e l =
    subst (λ (h : Heap). h l ≢ None ↔ Contains at l) e
    (λ n. (is l).0 ((there-is (get cells l)).0 n), λ c. (there-is (get cells l)).1 ((is l).1 c))

module _ (p : Program) (f : ProcId) (goal : Goal) (kind : Stuck) (empty line text : Text)
    (begins : empty ≡ []) (first : line ≡ empty ++ first_line p f goal kind) where
  -- the first line as it is written
  first-is : line ≡ first_line p f goal kind
  first-is = first ∙ ap (λ (t : Text). t ++ first_line p f goal kind) begins

  -- without a witness
  pub text-none : text ≡ line ++ codes "no witness\n" → (Normal goal.state → ⊥)
      → WitnessText p f goal kind text
  text-none e n = has_none n (e ∙ ap (λ (t : Text). t ++ codes "no witness\n") first-is)

  -- with one
  pub text-some : (at also : List ℕ) (vars : List (Var × Value)) (cells : Cells) (fails : Bool)
      → text ≡ line ++ (flat_map (value_line p f) vars
      ++ flat_map (cell_line p.fields (heap_of cells)) also ++ want_line fails)
      → also ≡ at → IsStrictlyIncreasing at → AreAt at cells → vars ≡ values goal.state.vars
      → heap_of cells ≡ whole_heap goal.state → ((fails ≡ false) ↔ WantHolds goal kind)
      → Normal goal.state → WitnessText p f goal kind text
  text-some at also vars cells fails e same rising is v h w n =
      has_witness (flat_map (value_line p f) vars
      ++ flat_map (cell_line p.fields (heap_of cells)) also ++ want_line fails) n
      (record {
        locations = at;
        rising = rising;
        all = heap-at cells (whole_heap goal.state) at is h;
        fails = fails;
        want = w;
        is = λ i. flat_map (value_line p f) (v i)
            ++ flat_map (cell_line p.fields (h i)) (same i) ++ want_line fails;
      })
      (e ∙ ap (λ (t : Text). t ++ (flat_map (value_line p f) vars
      ++ flat_map (cell_line p.fields (heap_of cells)) also ++ want_line fails)) first-is)
