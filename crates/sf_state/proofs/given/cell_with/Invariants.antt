use Rattle.std.proofs.Common.{◌≡◌, drop, length}
use Rattle.sf_state.specs.Refused.{cell_values, values_after}
use Rattle.sf_state.proofs.given.cell_with.Given as goal

abbrev pub invariant-loop-setting : goal.invariant-loop-setting
invariant-loop-setting l = record {
  width : length l.cell ≡ l.count;
  rest : cell_values l.count l.settings ≡ values_after l.cell (drop l.setting-index l.settings);
}
