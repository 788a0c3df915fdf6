use Rattle.std.proofs.Common.{◌≡◌, drop, map, ◌++◌}
use Rattle.sf_core.specs.Program.View.{conjunct_of}
use Rattle.sf_elab.specs.Annotations.Assertions.{conjuncts_of, level_faults}
use Rattle.sf_elab.specs.Annotations.Existentials.{taking, names_after_all}
use Rattle.sf_elab.specs.Annotations.Flat.{flats, flat_of}
use Rattle.sf_elab.specs.Names.InEnv.{env_of}
use Rattle.sf_elab.proofs.assertions.+levels.Given as goal

-- those so far and those of what is left are all
abbrev pub invariant-conjuncts-loop-c : goal.invariant-conjuncts-loop-c
invariant-conjuncts-loop-c l = record {
  same : map conjunct_of l.done.items ++ conjuncts_of (env_of l.env) l.levels (flats (map flat_of (drop l.c-index l.all))) ≡ conjuncts_of (env_of l.env) l.fn.levels (flats (map flat_of l.all));
  levels : taking l.levels (names_after_all l.env.bytes.now l.levels (flats (map flat_of (drop l.c-index l.all)))) ≡ taking l.fn.levels (names_after_all l.env.bytes.now l.fn.levels (flats (map flat_of l.all)));
  faults : l.found.items ++ level_faults (env_of l.env) (flats (map flat_of (drop l.c-index l.all))) ≡ l.fn.found.items ++ level_faults (env_of l.env) (flats (map flat_of l.all));
}
