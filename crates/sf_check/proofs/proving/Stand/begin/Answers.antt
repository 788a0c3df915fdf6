use Rattle.std.proofs.Common.{◌≡◌, ◌<◌, ◌∙◌, true, length, ap, rules, arith}
use Rattle.std.proofs.lemmas.List.{length-map}
use Rattle.sf_core.specs.Program.View.{procedure_of}
use Rattle.sf_rules.specs.Setting.{Setting}
use Rattle.sf_sym.specs.Goal.{goal_of}
use Rattle.sf_check.specs.Checked.Stands.{stand_of}
use Rattle.sf_check.specs.Checked.Taken.{is_begin}
use Rattle.sf_check.proofs.Begun.{begun}
use Rattle.sf_check.proofs.proving.Stand.begin.Goals as goal

pub returns : goal.returns
returns g c =
    let f = c.args.self.now.begun in
    let items = c.args.arranged.now.program.procedures.items in
    let many : length g.d.program.procedures ≡ length items =
    ap (λ (d : Setting). length d.program.procedures) c.requires.1.0 ∙ length-map items procedure_of in
    let below : f < length g.d.program.procedures = omega (arith, many, c.len.ensures, c.if-self-len.false) in
    let is : is_begin f c.args.tag ≡ true = search rules in
    begun g.d f c.args.tag (goal_of c.in_ok-goal.goal) (stand_of c.open.new.self) below is c.in_ok-goal.ensures
    c.in_ok-open.ensures
