-- Which way the machine goes at a `local` and at an item.
use Rattle.std.proofs.Common.{◌≡◌, ◌<◌, List, [], ◌∷◌, length, refl, arith}
use Rattle.std.proofs.lemmas.List.{length-map}
use Rattle.sf_ast.specs.declared.word.SurfaceExpr.TheVariants as e
use Rattle.sf_ast.specs.declared.word.SurfaceOperand.TheVariants as v
use Rattle.sf_parse.specs.Leaf.{Leaf, leaf, leaves}
use Rattle.sf_lex.specs.declared.token.Kind.TheVariants as tk
use Rattle.sf_parse.specs.Leaf as k
use Rattle.sf_lex.specs.declared.token.Token.{Token}
use Rattle.sf_parse.specs.Checked.Machine as m
use Rattle.sf_parse.specs.Checked.Machine.{Predicted, verdict, unexpected}
use Rattle.sf_parse.specs.Checked.Parser.{NotNext}
use Rattle.sf_parse.proofs.Parser.Fronts.{left_of}

pub no_locals : (ts : List Leaf) (st : List Predicted) → NotNext tk.Local ts → verdict 0 ts (m.locals ∷ st) ≡ verdict 0 ts st
no_locals [] st h = refl
no_locals (k.Local ∷ r) st h = absurd (h refl)
no_locals (t ∷ r) st h = refl

pub no_open : (ts : List Leaf) (st : List Predicted) → NotNext tk.OpenRound ts → verdict 0 ts (m.item_named ∷ st) ≡ verdict 0 ts (m.more_names ∷ m.exact m.semicolon ∷ st)
no_open [] st h = refl
no_open (k.OpenRound ∷ r) st h = absurd (h refl)
no_open (t ∷ r) st h = refl

items_stop : (ts : List Leaf) (st : List Predicted) → 0 < length ts → NotNext tk.Name ts → NotNext tk.Resource ts → verdict 0 ts (m.items ∷ st) ≡ unexpected (length ts)
items_stop [] st some h i = absurd (omega arith)
items_stop (k.Operand (v.Known (e.Name _)) ∷ r) st some h i = absurd (h refl)
items_stop (k.Resource _ ∷ r) st some h i = absurd (i refl)
items_stop (t ∷ r) st some h i = refl

pub no_item : (ts : List Token) (st : List Predicted) → 0 < length ts → NotNext tk.Name (leaves ts) → NotNext tk.Resource (leaves ts) → verdict 0 (leaves ts) (m.items ∷ st) ≡ unexpected (length ts)
no_item ts st some h i = left_of ts (m.items ∷ st) (items_stop (leaves ts) st (omega (arith, length-map ts leaf)) h i)

pub ruleset item_heads = (no_locals, no_open, no_item)
