use Rattle.std.proofs.Common.{◌≡◌, drop, map, ◌++◌}
use Rattle.sf_elab.specs.Bodies.Commands.{all_faults}
use Rattle.sf_elab.specs.Names.InEnv.{env_of, expr_of, expr_faults}
use Rattle.sf_elab.proofs.commands.values.Given as goal

-- those so far and those of what is left are all
abbrev pub invariant-loop-e : goal.invariant-loop-e
invariant-loop-e l = record {
  same : l.done.items ++ map (expr_of (env_of l.env)) (drop l.e-index l.exprs) ≡ map (expr_of (env_of l.env)) l.exprs;
  faults : l.found.items ++ all_faults (expr_faults (env_of l.env)) (drop l.e-index l.exprs) ≡ l.fn.found.items ++ all_faults (expr_faults (env_of l.env)) l.exprs;
}
