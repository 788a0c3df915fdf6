use Rattle.std.proofs.Common.{◌≡◌, ◌+◌, drop}
use Rattle.std.specs.Option.{option_map}
use Rattle.sf_lex.specs.Checked.Lexing.{close_length}
use Rattle.sf_lex.proofs.lexeme.close_length.Given as goal

-- what the bytes that are left tell, with the bytes before them, is what all tell
abbrev pub invariant-loop-i : goal.invariant-loop-i
invariant-loop-i l = option_map (λ n. n + l.i) (close_length (drop l.i l.inside)) ≡ close_length l.inside
