-- Examples of subtraction: where a row refuses what is wanted, and that what it would leave is wrong.
-- Berdine, Calcagno, O'Hearn, "Symbolic Execution with Separation Logic" (2005), section 5.
use Rattle.std.specs.Prelude.{◌≡◌, List, [], ◌∷◌, Some, None}
use Rattle.sf_consume.specs.Checked.Laws.{Subtracts}
use Rattle.sf_consume.specs.Subtract.{Step, Want, cell_step, empty_step, head_step, join_step, removed, stepped}
use Rattle.sf_core.specs.Checked.Assertions.Examples.{place, tl, l, r}
use Rattle.sf_core.specs.declared.assertion.Operand.TheVariants.{Known}
use Rattle.sf_core.specs.Program.Syntax.{Conjunct, none, also, points, segment}
use Rattle.sf_sym.specs.Cells.{handed}
use Rattle.sf_sym.specs.declared.atom.Atom.{Atom}
use Rattle.sf_sym.specs.declared.atom.Atom.TheVariants.{Points, Ls}
use Rattle.sf_sym.specs.declared.atom.Numbered.{Numbered}
use Rattle.sf_sym.specs.declared.term.Term.{Term}
use Rattle.sf_sym.specs.declared.term.Term.TheVariants.{Nil, Sym}
use Rattle.sf_sym.specs.State.{State}

-- nothing is known of s0, s1 and s2, and these atoms are there
abbrev pub holding : List Numbered → State
holding atoms = record {
  links = record { tl = Some tl; pv = None; l = Some l; r = Some r };
  vars = [];
  apart = [];
  atoms = atoms;
  taken = [];
  next_sym = 3;
  next_atom = 1;
}

-- that atom alone, with the number 0
abbrev pub one : Atom → State
one x = holding (record { number = 0; atom = x } ∷ [])

-- that conjunct alone is wanted
abbrev pub wanting_one : State → Conjunct Term → Want
wanting_one s c = removed s [] (also c none)

-- a list from one term to another
abbrev pub list : (t u : Term) → Conjunct Term
list t u = segment place tl (Known t) (Known u)

-- a cell with that term in its field tl
abbrev pub cell_to : (t u : Term) → Conjunct Term
cell_to t u = points place (Known t) ((tl, Known u) ∷ [])

-- the row refuses what is wanted, and what it would leave there isn't what is left of a subtraction
pub record RefusesWrong (step : Step) (want after : Want) : Type 0 where
  pub refused : stepped step want ≡ None
  pub wrong : Subtracts want after → ⊥

-- join: ls(s0,s1) doesn't begin ls(s0,s2), with ls(s1,s2) still wanted, since s2 may be inside it
unfoldable pub EndMayBeInsideAJoinedList : Type 0
EndMayBeInsideAJoinedList =
    RefusesWrong (join_step 0) (wanting_one (one (Ls (Sym 0) (Sym 1))) (list (Sym 0) (Sym 2)))
    (wanting_one (handed (one (Ls (Sym 0) (Sym 1))) 0 (Ls (Sym 0) (Sym 1))) (list (Sym 1) (Sym 2)))

-- head: s0|->tl:s2 doesn't begin ls(s0,s1), with ls(s2,s1) still wanted, since s0 and s1 may be one
unfoldable pub ListWithACellMayBeEmpty : Type 0
ListWithACellMayBeEmpty =
    RefusesWrong (head_step 0)
    (wanting_one (one (Points (Sym 0) ((tl, Sym 2) ∷ []))) (list (Sym 0) (Sym 1)))
    (wanting_one (handed (one (Points (Sym 0) ((tl, Sym 2) ∷ []))) 0 (Points (Sym 0) ((tl, Sym 2) ∷ [])))
    (list (Sym 2) (Sym 1)))

-- cell: s0|->tl:s1 isn't s0|->tl:nil, since s1 needn't be nil
unfoldable pub FieldMayBeAnother : Type 0
FieldMayBeAnother =
    RefusesWrong (cell_step 0)
    (wanting_one (one (Points (Sym 0) ((tl, Sym 1) ∷ []))) (cell_to (Sym 0) Nil))
    (removed (handed (one (Points (Sym 0) ((tl, Sym 1) ∷ []))) 0 (Points (Sym 0) ((tl, Sym 1) ∷ []))) []
    none)

-- empty: ls(s0,s1) isn't there where nothing is, since s0 and s1 may differ
unfoldable pub ListMayHaveACell : Type 0
ListMayHaveACell =
    RefusesWrong empty_step (wanting_one (holding []) (list (Sym 0) (Sym 1))) (removed (holding []) [] none)
