-- What a part holds, as it is told of a part and as the machine's laws tell it of a task.
-- Names: `times-LAW` of how often a resource is held.
use Rattle.std.proofs.Common.{◌≡◌, ◌+◌, ◌==◌, cond, List, [], ◌∷◌, refl, ap}
use Rattle.sf_base.specs.declared.ids.ResId.{ResId}
use Rattle.sf_core.specs.Checked.Machine.InOrder.{exits, regions, throughout}
use Rattle.sf_core.specs.Machine.Config.{Item, command, leave, Frame}
use Rattle.sf_core.specs.Program.Syntax.{Program}
use Rattle.sf_part.specs.Of.{times_held, times_left}

times-left : (r : ResId) (todo : List Item) → times_left r todo ≡ exits r todo
times-left r [] = refl
times-left r (command c ∷ todo) = times-left r todo
times-left r (leave q ∷ todo) = ap (λ n. cond (q.0 == r.0) 1 0 + n) (times-left r todo)

pub times-regions : (p : Program) (r : ResId) (frames : List Frame) → times_held p r frames ≡ regions p r frames
times-regions p r [] = refl
times-regions p r (f ∷ frames) =
    λ i. (throughout p r f.fixed + times-left r f.todo i) + times-regions p r frames i
