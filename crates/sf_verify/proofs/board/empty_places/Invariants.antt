use Rattle.std.proofs.Common.{◌≡◌, All, None, length}
use Rattle.sf_verify.proofs.board.empty_places.Given as goal

abbrev pub invariant-loop : goal.invariant-loop
invariant-loop l = (length l.places.items ≡ l.counter) × All (λ place. place ≡ None) l.places.items
