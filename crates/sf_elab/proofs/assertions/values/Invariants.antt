use Rattle.std.proofs.Common.{◌≡◌, drop, ◌++◌, []}
use Rattle.sf_elab.specs.Annotations.Assertions.{values_of, values_faults}
use Rattle.sf_elab.specs.Names.InEnv.{env_of}
use Rattle.sf_elab.proofs.assertions.values.Given as goal

-- those so far and those of what is left are all
abbrev pub invariant-loop-one : goal.invariant-loop-one
invariant-loop-one l = record {
  same : l.done.items ++ values_of (env_of l.env) l.levels (drop l.one-index l.fields) ≡ values_of (env_of l.env) l.levels l.fields;
  faults : l.found.items ++ values_faults (env_of l.env) l.given (drop l.one-index l.fields) ≡ l.fn.found.items ++ values_faults (env_of l.env) [] l.fields;
}
