-- A wanted tree that begins with a cell.
use Rattle.std.proofs.Common.{◌≡◌, ℕ, Option, Some, List, ◌∷◌, map, refl, sym, ap, ◌∙◌}
use Rattle.sf_base.specs.declared.ids.FieldId.{FieldId}
use Rattle.sf_core.specs.declared.assertion.Conjunct.{Conjunct as CodeConjunct}
use Rattle.sf_core.specs.Program.Syntax.{Conjunct, Conjuncts, also}
use Rattle.sf_core.specs.Program.View.{conjunct_of, conjuncts}
use Rattle.sf_sym.specs.Cells.{cell_at}
use Rattle.sf_sym.specs.Decided.{term_of}
use Rattle.sf_sym.specs.Pending.{Given}
use Rattle.sf_sym.specs.State.{State}
use Rattle.sf_sym.specs.declared.term.Term.{Term}
use Rattle.sf_consume.specs.declared.wanted.WantedTree.{WantedTree}
use Rattle.sf_consume.specs.Checked.Fits.{want_of}
use Rattle.sf_consume.specs.Subtract.{Fit, first_fit, handed_cell, link, node_step, node_there, removed, stepped, tree_from, wanted_tree}

module _ (a : ℕ) (s new : State) (bindings : List (Option Term)) (w : WantedTree) (t : Term)
    (fields : List (FieldId × Term)) (l r : Fit × Term) (cs : Conjuncts Term) where
  -- what is left, where the cell is there
  there : cell_at s.atoms a t ≡ Some fields → link (first_fit s fields bindings) w.left ≡ l
      → link l.0 w.right ≡ r → new ≡ handed_cell s t a r.0
      → node_there a s bindings w cs t
      ≡ Some (removed new bindings (also (tree_from w l.1) (also (tree_from w r.1) cs)))
  there c el er n = rw c (rw el (rw er (rw n refl)))

  step : (c : Conjunct Term) (all : Conjuncts Term) → all ≡ also c cs → wanted_tree c ≡ Some w
      → term_of bindings w.root ≡ Some t
      → cell_at s.atoms a t ≡ Some fields → link (first_fit s fields bindings) w.left ≡ l
      → link l.0 w.right ≡ r → new ≡ handed_cell s t a r.0
      → stepped (node_step a) (record { state = s; bindings = bindings; conjuncts = all })
      ≡ Some (removed new bindings (also (tree_from w l.1) (also (tree_from w r.1) cs)))
  step c all e wc tw ce el er n = rw e (rw wc (rw tw (there ce el er n)))

-- what the code leaves: two subtrees in place of the tree
pub node_is : (a : ℕ) (s new : State) (want after : Given) (w : WantedTree) (t : Term)
    (fields : List (FieldId × Term)) (l r : Fit × Term) (c one two : CodeConjunct Term) (rest : List (CodeConjunct Term))
    → want.conjuncts ≡ c ∷ rest → after.conjuncts ≡ one ∷ two ∷ rest → after.bindings ≡ want.bindings
    → conjunct_of one ≡ tree_from w l.1 → conjunct_of two ≡ tree_from w r.1
    → wanted_tree (conjunct_of c) ≡ Some w → term_of want.bindings w.root ≡ Some t
    → cell_at s.atoms a t ≡ Some fields → link (first_fit s fields want.bindings) w.left ≡ l
    → link l.0 w.right ≡ r → new ≡ handed_cell s t a r.0
    → stepped (node_step a) (want_of s want) ≡ Some (want_of new after)
node_is a s new want after w t fields l r c one two rest e f b o p wc tw ce el er n =
    step a s new want.bindings w t fields l r (conjuncts (map conjunct_of rest)) (conjunct_of c)
    (conjuncts (map conjunct_of want.conjuncts)) (ap (λ xs. conjuncts (map conjunct_of xs)) e) wc tw ce el er n
    ∙ sym (λ i. Some (record {
      state = new;
      bindings = b i;
      conjuncts = (ap (λ xs. conjuncts (map conjunct_of xs)) f
          ∙ (λ j. also (o j) (also (p j) (conjuncts (map conjunct_of rest))))) i;
    }))
