-- The region at which a task stands is one.
-- Names: `region-LAW`.
use Rattle.std.specs.Prelude.{◌≡◌, List}
use Rattle.std.proofs.Common.{sym, ap, ◌∙◌}
use Rattle.sf_base.specs.declared.ids.ResId.{ResId}
use Rattle.sf_core.specs.Machine.Config.{Frame, runs}
use Rattle.sf_core.specs.Machine.Next.{does, next}
use Rattle.sf_core.specs.Machine.Whole.{Part, Stand, running, waiting}
use Rattle.sf_core.specs.Program.Syntax.{with}
use Rattle.sf_part.specs.Guards.{IsAtRegion}

abbrev frames_or : Stand → List Frame
frames_or (running frames) = frames
frames_or (waiting frames) = frames

pub region-one : (a : Part) (q r : ResId) → IsAtRegion a q → IsAtRegion a r → q ≡ r
region-one a q r (f, test, (frames, stand, guard)) (g, other, (more, also, also_guard)) =
    let same : frames ≡ more = ap frames_or (sym stand ∙ also) in
    let n : does f guard.below (with guard.place q test guard.body) guard.rest
    ≡ does g also_guard.below (with also_guard.place r other also_guard.body) also_guard.rest =
    sym guard.is ∙ (ap (λ z. next (runs z)) same ∙ also_guard.is) in
    let one : with guard.place q test guard.body
    ≡ with also_guard.place r other also_guard.body = cc in
    cc
