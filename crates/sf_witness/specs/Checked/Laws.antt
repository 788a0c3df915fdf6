-- Laws of witnesses.
-- Berdine, Calcagno, O'Hearn, "Symbolic Execution with Separation Logic" (2005), section 4: a normal
-- form has a model.
use Rattle.std.specs.Prelude.{◌≡◌}
use Rattle.sf_base.specs.declared.ids.ProcId.{ProcId}
use Rattle.sf_core.specs.Program.Syntax.{Program}
use Rattle.sf_proof.specs.ProofText.{Text}
use Rattle.sf_sym.specs.declared.stuck.Stuck.{Stuck}
use Rattle.sf_sym.specs.Goal.{Goal}
use Rattle.sf_sym.specs.State.{State}
use Rattle.sf_witness.specs.Normal.{Normal}
use Rattle.sf_witness.specs.Satisfied.{HasCells, Satisfied}
use Rattle.sf_witness.specs.Wanted.{whole_heap}
use Rattle.sf_witness.specs.WitnessState.{values}
use Rattle.sf_witness.specs.WitnessText.{WitnessText}

-- the witness of a normal state satisfies what the state knows
unfoldable pub WitnessesSatisfy : Type 0
WitnessesSatisfy = (s : State) → Normal s → HasCells s → Satisfied s (values s.vars) (whole_heap s)

-- each goal has a text of its witness
unfoldable pub EachGoalHasAText : Type 0
EachGoalHasAText =
    (p : Program) (f : ProcId) (goal : Goal) (kind : Stuck)
    → (text : Text) × WitnessText p f goal kind text

-- and one alone
unfoldable pub EachGoalHasOneText : Type 0
EachGoalHasOneText =
    (p : Program) (f : ProcId) (goal : Goal) (kind : Stuck) (text other : Text)
    → WitnessText p f goal kind text → WitnessText p f goal kind other → text ≡ other
