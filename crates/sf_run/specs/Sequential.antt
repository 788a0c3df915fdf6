-- Sequential: the procedures from which no parallel call can be reached.
-- Ordinary: reachability along calls, after Tarski, "A lattice-theoretical fixpoint theorem"
-- (1955).
use Rattle.std.specs.Prelude.{◌≡◌, Bool, true, None, Contains}
use Rattle.sf_base.specs.declared.ids.ProcId.{ProcId}
use Rattle.sf_core.specs.Machine.Start.{Beginning, settled, fresh}
use Rattle.sf_core.specs.Program.Heads.{Somewhere, head_forks}
use Rattle.sf_core.specs.Program.Init.{sets_up}
use Rattle.sf_core.specs.Program.Syntax.{Block, Call, Program}
use Rattle.sf_calls.specs.Conditions.{Has, Calls}
use Rattle.sf_calls.specs.Reaches.{Reaches}

-- one of the commands is a parallel call
abbrev pub ForksIn : Block → Type 0
ForksIn = Somewhere (λ s. (e : Call × Call) × Contains (head_forks s.command) e)

-- f's body has a parallel call
abbrev pub Forks : Program → ProcId → Type 0
Forks p f = Has p (λ h. ForksIn h.body) f

-- f's body has a parallel call, or f calls a procedure from which one is reached
abbrev pub ReachesFork : Program → ProcId → Type 0
ReachesFork p f = Reaches (Forks p) (Calls p None) f

-- IsSequential: no parallel call can be reached from f
abbrev pub IsSequential : Program → ProcId → Type 0
IsSequential p f = ReachesFork p f → ⊥

-- InitIsSequential: nor from the procedure that sets the resources up, if there is one
abbrev pub InitIsSequential : Program → Type 0
InitIsSequential p = (n : ProcId) → sets_up p n ≡ true → IsSequential p n

-- IsSequentialStart: no parallel call can be reached from f, nor, where the start is fresh, from the procedure that
-- sets the resources up
abbrev pub IsSequentialStart : Program → ProcId → (is_fresh : Bool) → Type 0
IsSequentialStart p f is_fresh = IsSequential p f × (is_fresh ≡ true → InitIsSequential p)

-- nor from the procedures that run so from the beginning
abbrev pub BeginsSequentially : Program → ProcId → Beginning → Type 0
BeginsSequentially p f settled = IsSequential p f
BeginsSequentially p f (fresh n h) = IsSequential p f × IsSequential p n
