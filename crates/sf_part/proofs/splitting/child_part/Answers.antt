use Rattle.std.proofs.Common.{◌≡◌, ap, ◌∙◌, sym, subst, [], Some, None}
use Rattle.std.specs.Prelude.{List}
use Rattle.sf_base.specs.declared.ids.ResId.{ResId}
use Rattle.std.specs.Prelude.{Option}
use Rattle.sf_core.specs.Machine.Config.{Path}
use Rattle.sf_part.specs.declared.log.Stamped.{Stamped}
use Rattle.sf_part.specs.declared.stand.Stand.TheVariants.{Runs}
use Rattle.sf_part.specs.Keeps.{Keeps}
use Rattle.sf_part.specs.Parts.{part_with}
use Rattle.sf_part.proofs.splitting.child_part.Goals as goal

pub invariant_of-result : goal.invariant_of-result
invariant_of-result c = record {
  kept = subst (λ (z : List Stamped). Keeps (part_with c.args.task (Runs c.args.begun.stack)
      c.args.begun.shared c.args.kit.supply c.args.clock c.args.keeps z c.len-given.result))
      (sym c.new.ensures.items)
      (subst (λ n. Keeps (part_with c.args.task (Runs c.args.begun.stack)
      c.args.begun.shared c.args.kit.supply c.args.clock c.args.keeps [] n))
      (sym c.len-given.ensures) c.requires.kept);
  own = λ r holder e. absurd (let k : None ≡ Some holder =
      sym (ap (λ (f : ResId → Option Path). f (record { 0 = r })) c.requires.none) ∙ e in cc);
}
