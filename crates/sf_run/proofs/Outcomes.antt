-- That a run of one task comes to one outcome at most.
-- Names: `WHAT-one`.
use Rattle.std.specs.Prelude.{◌≡◌, ℕ, List, [], ◌∷◌, Some}
use Rattle.std.proofs.Common.{sym, ap, ◌∙◌, subst, inl, inr}
use Rattle.sf_base.specs.declared.ids.ResId.{ResId}
use Rattle.sf_core.specs.Machine.Alone.{Outcome, waiting, WaitsAlone, event_alone, AloneFrom}
use Rattle.sf_core.specs.Machine.Config.{Item, command, Task, runs, Config}
use Rattle.sf_core.specs.Machine.Step.{task_with, Step}
use Rattle.sf_core.specs.Program.Syntax.{with, Program}
use Rattle.sf_core.proofs.Machine.Determinism.{step-unique}
use Rattle.sf_core.proofs.Machine.Progress.{step-stopped}

-- the resource of the region that is first to do, or that one where none is
abbrev entered : ResId → List Item → ResId
entered other (command (with place r test body) ∷ rest) = r
entered other _ = other

abbrev entered_by : ResId → Task → ResId
entered_by other (runs (f ∷ below)) = entered other f.todo
entered_by other _ = other

-- a task waits for one resource
waits-one : (c : Config) (r q : ResId) → WaitsAlone c r → WaitsAlone c q → r ≡ q
waits-one c r q (a, shut) (b, also) =
    let both : Some (task_with a.frame (command (with a.place r a.test a.body) ∷ a.rest) a.below)
    ≡ Some (task_with b.frame (command (with b.place q b.test b.body) ∷ b.rest) b.below) =
    sym a.there ∙ b.there in
    let same : task_with a.frame (command (with a.place r a.test a.body) ∷ a.rest) a.below
    ≡ task_with b.frame (command (with b.place q b.test b.body) ∷ b.rest) b.below = cc in
    ap (entered_by r) same

-- and where it waits it has no step
pub waits-no_step : (p : Program) (unit : ℕ) (c d : Config) (r : ResId) → WaitsAlone c r
    → Step p (event_alone unit) c d → ⊥
waits-no_step p unit c d r (a, shut) s = step-stopped p (event_alone unit) c d _ a.there shut s

-- what comes of it is one thing
pub from-one : (p : Program) (c : Config) (units : List ℕ) (one other : Outcome) → AloneFrom p c units one
    → AloneFrom p c units other → one ≡ other
from-one p c [] one other (inl a) (inl b) = a.1 ∙ sym b.1
from-one p c [] one other (inl a) (inr b) = absurd (b.0 a.0)
from-one p c [] one other (inr a) (inl b) = absurd (a.0 b.0)
from-one p c [] one other (inr a) (inr b) = a.1 ∙ sym b.1
from-one p c (unit ∷ units) one other (inl a) (inl b) = a.1 ∙ sym b.1
from-one p c (unit ∷ units) one other (inl a) (inr b) = absurd (b.0 a.0)
from-one p c (unit ∷ units) one other (inr a) (inl b) = absurd (a.0 b.0)
from-one p c (unit ∷ units) one other (inr (n, inl (r, w, e))) (inr (m, inl (q, v, f))) =
    e ∙ ap waiting (waits-one c r q w v) ∙ sym f
from-one p c (unit ∷ units) one other (inr (n, inl (r, w, e))) (inr (m, inr (d, s, k))) =
    absurd (waits-no_step p unit c d r w s)
from-one p c (unit ∷ units) one other (inr (n, inr (d, s, k))) (inr (m, inl (r, w, e))) =
    absurd (waits-no_step p unit c d r w s)
from-one p c (unit ∷ units) one other (inr (n, inr (d, s, k))) (inr (m, inr (e, t, j))) =
    from-one p d units one other k
    (subst (λ z. AloneFrom p z units other) (step-unique p (event_alone unit) c e d t s) j)
