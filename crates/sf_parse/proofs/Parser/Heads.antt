-- Which way the machine goes after the first tokens of a command or an item.
use Rattle.std.proofs.Common.{◌≡◌, List, [], ◌∷◌, length, refl}
use Rattle.sf_ast.specs.declared.word.SurfaceOperand.TheVariants as v
use Rattle.sf_parse.specs.Leaf.{Leaf, leaves}
use Rattle.sf_lex.specs.declared.token.Kind.TheVariants as tk
use Rattle.sf_parse.specs.Leaf as k
use Rattle.sf_lex.specs.declared.token.Token.{Token}
use Rattle.sf_parse.specs.Checked.Machine as m
use Rattle.sf_parse.specs.Checked.Machine.{Predicted, verdict, unexpected}
use Rattle.sf_parse.specs.Checked.Parser.{NotNext}
use Rattle.sf_parse.proofs.Parser.Fronts.{left_of}

look_up_fails : (ts : List Leaf) (st : List Predicted) → NotNext tk.Semicolon ts → NotNext tk.Arrow ts → verdict 0 ts (m.look_up_or_end ∷ st) ≡ unexpected (length ts)
look_up_fails [] st h i = refl
look_up_fails (k.Semicolon ∷ r) st h i = absurd (h refl)
look_up_fails (k.Arrow ∷ r) st h i = absurd (i refl)
look_up_fails (t ∷ r) st h i = refl

pub no_look_up : (ts : List Token) (st : List Predicted) → NotNext tk.Semicolon (leaves ts) → NotNext tk.Arrow (leaves ts) → verdict 0 (leaves ts) (m.look_up_or_end ∷ st) ≡ unexpected (length ts)
no_look_up ts st h i = left_of ts (m.look_up_or_end ∷ st) (look_up_fails (leaves ts) st h i)

call_fails : (ts : List Leaf) (st : List Predicted) → NotNext tk.Semicolon ts → NotNext tk.Bars ts → verdict 0 ts (m.after_call ∷ st) ≡ unexpected (length ts)
call_fails [] st h i = refl
call_fails (k.Semicolon ∷ r) st h i = absurd (h refl)
call_fails (k.Bars ∷ r) st h i = absurd (i refl)
call_fails (t ∷ r) st h i = refl

pub no_after_call : (ts : List Token) (st : List Predicted) → NotNext tk.Semicolon (leaves ts) → NotNext tk.Bars (leaves ts) → verdict 0 (leaves ts) (m.after_call ∷ st) ≡ unexpected (length ts)
no_after_call ts st h i = left_of ts (m.after_call ∷ st) (call_fails (leaves ts) st h i)

named_fails : (ts : List Leaf) (st : List Predicted) → NotNext tk.Equals ts → NotNext tk.Arrow ts → NotNext tk.OpenRound ts → verdict 0 ts (m.named ∷ st) ≡ unexpected (length ts)
named_fails [] st h i j = refl
named_fails (k.Equals ∷ r) st h i j = absurd (h refl)
named_fails (k.Arrow ∷ r) st h i j = absurd (i refl)
named_fails (k.OpenRound ∷ r) st h i j = absurd (j refl)
named_fails (t ∷ r) st h i j = refl

pub no_named : (ts : List Token) (st : List Predicted) → NotNext tk.Equals (leaves ts) → NotNext tk.Arrow (leaves ts) → NotNext tk.OpenRound (leaves ts) → verdict 0 (leaves ts) (m.named ∷ st) ≡ unexpected (length ts)
no_named ts st h i j = left_of ts (m.named ∷ st) (named_fails (leaves ts) st h i j)

pub no_new : (ts : List Leaf) (st : List Predicted) → NotNext tk.New ts → verdict 0 ts (m.assigned ∷ st) ≡ verdict 0 ts (m.expression ∷ m.look_up_or_end ∷ st)
no_new [] st h = refl
no_new (k.New ∷ r) st h = absurd (h refl)
no_new (k.Operand (v.Known _) ∷ r) st h = refl
no_new (t ∷ r) st h = refl

pub no_round : (ts : List Leaf) (st : List Predicted) → NotNext tk.OpenRound ts → verdict 0 ts (m.disposed ∷ st) ≡ verdict 0 ts (m.expression ∷ m.exact m.semicolon ∷ st)
no_round [] st h = refl
no_round (k.OpenRound ∷ r) st h = absurd (h refl)
no_round (k.Operand (v.Known _) ∷ r) st h = refl
no_round (t ∷ r) st h = refl

pub ruleset heads = (no_look_up, no_after_call, no_named, no_new, no_round)
