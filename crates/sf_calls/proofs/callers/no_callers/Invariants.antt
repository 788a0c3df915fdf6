use Rattle.std.proofs.Common.{◌≡◌, [], length, All}
use Rattle.sf_calls.proofs.callers.no_callers.Given as goal

-- as many empty rows as turns so far
abbrev pub invariant-loop : goal.invariant-loop
invariant-loop l = record {
  size : length l.callers.items ≡ l.counter;
  empty : All (λ v. v.items ≡ []) l.callers.items;
}
