-- What a run ends with can be written so that it is read back, where it is within the limits.
-- Names: the law's; `ends-WHAT` of what a run ends with.
use Rattle.std.specs.Prelude.{◌≡◌, ◌+◌, ℕ, suc, List, [], ◌∷◌, Some, Vec, length, map, slice_get}
use Rattle.std.specs.declared.alloc.Global.{Global}
use Rattle.std.proofs.Common.{ap₂, ◌∙◌, refl, ap, arith}
use Rattle.sf_base.proofs.Options.{some-once}
use Rattle.sf_base.specs.declared.ids.ProcId.{ProcId}
use Rattle.sf_base.specs.declared.value.Value.{Value}
use Rattle.sf_core.specs.Machine.Config.{Config}
use Rattle.sf_core.specs.Program.Syntax.{Procedure, Program, Resource}
use Rattle.sf_foot.specs.declared.vars.Vars.{Vars}
use Rattle.sf_foot.specs.Variables.{values_or_none}
use Rattle.sf_heap.specs.Cells.{Cells}
use Rattle.sf_machine.specs.Ending.{Ends}
use Rattle.sf_state.specs.Checked.Written.{AreWritable}
use Rattle.sf_running_tests.specs.Checked.Laws.{AreWithinLimits, FinishesOfFilesReadBack, WrittenStatesOfFilesReadBack}

-- as many values for each resource as it has variables
shared-same : (vs : List (Vec Value Global)) (rs : List Resource) → length vs ≡ length rs
    → ((k : ℕ) (of : Resource) → slice_get rs k ≡ Some of
    → length (values_or_none (slice_get vs k)) ≡ length of.variables)
    → map (λ (v : Vec Value Global). length v.items) vs ≡ map (λ (r : Resource). length r.variables) rs
shared-same [] [] e h = refl
shared-same [] (r ∷ rs) e h = absurd (omega (arith, e))
shared-same (v ∷ vs) [] e h = absurd (omega (arith, e))
shared-same (v ∷ vs) (r ∷ rs) e h =
    ap₂ (λ (n : ℕ) (ns : List ℕ). n ∷ ns) (h 0 r refl)
    (shared-same vs rs (omega (arith, e)) (λ k of there. h (suc k) of there))

-- what a run ends with, within the limits, is variables and cells that a text can have
ends-writable : (p : Program) (f : ProcId) (g : Procedure) (c : Config) (vars : Vars) (heap : Cells)
    → slice_get p.procedures f.0 ≡ Some g → Ends p f c vars heap → AreWithinLimits vars heap
    → AreWritable p g vars heap
ends-writable p f g c vars heap there e limits =
    let same : e.procedure ≡ g = some-once (slice_get p.procedures f.0) e.procedure g e.there there in
    record {
      own = e.parameters ∙ ap (λ (h : Procedure). h.references + h.values) same;
      shared = shared-same vars.shared.items p.resources e.resources
          (λ k of at. e.variables (record { 0 = k }) of at);
      values = limits.values;
      cells = λ location values at. record {
        location = limits.locations location values at;
        size = e.width location values at;
        each = limits.fields location values at;
      };
      few = limits.few;
    }

pub finishes_of_files_read_back : WrittenStatesOfFilesReadBack → FinishesOfFilesReadBack
unfolding WrittenStatesOfFilesReadBack FinishesOfFilesReadBack
finishes_of_files_read_back back bytes ts tree p f g fresh vars heap base count finish text read file e there ends
    limits t =
    back bytes ts tree p f g finish.vars finish.heap text read file e there
    (ends-writable p f g ends.last finish.vars finish.heap there ends.ends limits) t
