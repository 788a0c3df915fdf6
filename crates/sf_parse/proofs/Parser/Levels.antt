-- Which way the machine goes at a command, and what levels commands have.
use Rattle.std.proofs.Common.{◌≡◌, ◌<◌, ◌-◌, ℕ, zero, suc, List, [], ◌∷◌, ◌++◌, length, true, false, refl, ap, sym, subst, ◌∙◌, arith, append_assoc}
use Rattle.std.proofs.lemmas.List.{length-map}
use Rattle.sf_ast.specs.declared.word.SurfaceExpr.{SurfaceExpr}
use Rattle.sf_ast.specs.declared.word.SurfaceTest.{SurfaceTest}
use Rattle.sf_ast.specs.Surface as s
use Rattle.sf_ast.specs.View.{commands}
use Rattle.sf_base.specs.declared.place.Place.{Place}
use Rattle.sf_parse.specs.Leaf.{Leaf, leaf, leaves}
use Rattle.sf_lex.specs.declared.token.Kind.TheVariants as tk
use Rattle.sf_parse.specs.Leaf as k
use Rattle.sf_lex.specs.declared.token.Token.{Token}
use Rattle.sf_parse.specs.Grammar as g
use Rattle.sf_parse.specs.Checked.Heads.{command_next}
use Rattle.sf_parse.specs.Checked.Machine as m
use Rattle.sf_parse.specs.Checked.Machine.{Predicted, Choice, take, skip, refuse, takes, on_command, step, chosen, after, leveled, verdict, unexpected, too_deep}
use Rattle.sf_parse.specs.Nearest.{Follows, CommandNearest, CommandsNearest}
use Rattle.sf_parse.specs.Nesting.{has_level, CommandWithin, CommandsWithin}
use Rattle.sf_parse.specs.Checked.Parser.{NotNext}
use Rattle.sf_parse.proofs.Machine.Decided.{command_decided, refused, taken}
use Rattle.sf_parse.proofs.Machine.Back.{flat_nearest, follows_else}
use Rattle.sf_parse.proofs.Parser.Fronts.{left_of}
use Rattle.sf_parse.proofs.Machine.HasLevel.{no_level, some_level}

-- where no level is left
level_fails : (ts : List Leaf) (st : List Predicted) → command_next ts ≡ true → verdict 0 ts (m.command 0 ∷ st) ≡ too_deep (length ts)
level_fails [] st h = absurd cc
level_fails (t ∷ r) st h = rw ((taken (command_decided 0 t r) h).1, no_level (length r)) refl

pub fails_at_level : (ts : List Token) (st : List Predicted) → command_next (leaves ts) ≡ true → verdict 0 (leaves ts) (m.command 0 ∷ st) ≡ too_deep (length ts)
fails_at_level ts st h = level_fails (leaves ts) st h ∙ ap too_deep (length-map ts leaf)

command_fails : (d : ℕ) (ts : List Leaf) (st : List Predicted) → command_next ts ≡ false → verdict 0 ts (m.command d ∷ st) ≡ unexpected (length ts)
command_fails d [] st h = refl
command_fails d (t ∷ r) st h = rw (refused (command_decided d t r) h) refl

-- where no command begins
pub fails_at_command : (d : ℕ) (ts : List Token) (st : List Predicted) → command_next (leaves ts) ≡ false → verdict 0 (leaves ts) (m.command d ∷ st) ≡ unexpected (length ts)
fails_at_command d ts st h = left_of ts (m.command d ∷ st) (command_fails d (leaves ts) st h)

-- where one does, with a level left: what is owed then
abbrev owed : Choice → List Predicted
owed (take ss) = ss
owed _ = []

pub accepts_command : (d : ℕ) (t : Leaf) (ts r : List Token) (st : List Predicted) → 0 < d → leaves ts ≡ t ∷ leaves r → takes (on_command d t) ≡ true → verdict 0 (leaves ts) (m.command d ∷ st) ≡ verdict 0 (leaves r) (owed (on_command d t) ++ st)
accepts_command zero t ts r st lv h b = absurd (omega arith)
accepts_command (suc d) t ts r st lv h b = rw h (go (on_command (suc d) t) b)
  where
    go : (c : Choice) → takes c ≡ true → after 0 (suc (length (leaves r))) (λ s. verdict 0 (leaves r) s) (chosen c (m.command (suc d)) st (step st t)) ≡ verdict 0 (leaves r) (owed c ++ st)
    go (take ss) b = refl
    go skip b = absurd cc
    go refuse b = absurd cc

-- what need not come
commands_over : (d : ℕ) (ts : List Leaf) (st : List Predicted) → command_next ts ≡ false → verdict 0 ts (m.commands d ∷ st) ≡ verdict 0 ts st
commands_over d [] st h = refl
commands_over d (t ∷ r) st h = rw (refused (command_decided d t r) h) refl

pub no_commands : (d : ℕ) (ts : List Token) (st : List Predicted) → command_next (leaves ts) ≡ false → verdict 0 (leaves ts) (m.commands d ∷ st) ≡ verdict 0 (leaves ts) st
no_commands d ts st h = commands_over d (leaves ts) st h

commands_go_on : (d : ℕ) (ts : List Leaf) (st : List Predicted) → command_next ts ≡ true → verdict 0 ts (m.commands d ∷ st) ≡ verdict 0 ts (m.command d ∷ m.commands d ∷ st)
commands_go_on d [] st h = absurd cc
commands_go_on d (t ∷ r) st h =
    let o = taken (command_decided d t r) h in
    rw o.1 (ap (λ (z : List Predicted). leveled (has_level 0 (suc (length r)) d) (suc (length r)) (verdict 0 r z)) (append_assoc o.0 (m.commands d ∷ []) st))

pub another_command : (d : ℕ) (ts : List Token) (st : List Predicted) → command_next (leaves ts) ≡ true → verdict 0 (leaves ts) (m.commands d ∷ st) ≡ verdict 0 (leaves ts) (m.command d ∷ m.commands d ∷ st)
another_command d ts st h = commands_go_on d (leaves ts) st h

branch_over : (d : ℕ) (ts : List Leaf) (st : List Predicted) → NotNext tk.Else ts → verdict 0 ts (m.branch d ∷ st) ≡ verdict 0 ts st
branch_over d [] st h = refl
branch_over d (k.Else ∷ r) st h = absurd (h refl)
branch_over d (t ∷ r) st h = refl

pub no_branch : (d : ℕ) (ts : List Token) (st : List Predicted) → NotNext tk.Else (leaves ts) → verdict 0 (leaves ts) (m.branch d ∷ st) ≡ verdict 0 (leaves ts) st
no_branch d ts st h = branch_over d (leaves ts) st h

pub ruleset levels = (
  fails_at_level,
  fails_at_command,
  accepts_command,
  no_commands,
  another_command,
  no_branch,
  flat_nearest,
)

-- an `if` with an `else`
pub if_within : (p : Place) (b : SurfaceTest SurfaceExpr) (c x : s.Command) (d : ℕ) (us vs r : List Leaf) → 0 < d → us ≡ k.Else ∷ vs → vs ≡ g.command x r → CommandWithin c 0 (d - 1) us → CommandWithin x 0 (d - 1) r → CommandWithin (s.if p b c x) 0 d r
if_within p b c x d us vs r lv h i w v =
    let whole : us ≡ k.Else ∷ g.command x r = h ∙ ap (λ (z : List Leaf). k.Else ∷ z) i in
    (some_level 0 _ d lv, subst (λ (z : List Leaf). CommandWithin c 0 (d - 1) z) whole w, v)

pub if_nearest : (p : Place) (b : SurfaceTest SurfaceExpr) (c x : s.Command) (us vs : List Leaf) → us ≡ k.Else ∷ vs → CommandNearest c → Follows c us → CommandNearest x → CommandNearest (s.if p b c x)
if_nearest p b c x us vs h m f o = (m, o, follows_else c vs [] (subst (λ (z : List Leaf). Follows c z) h f))

-- one more at the end
pub commands_push : (cs : List s.Command) (c : s.Command) (r : List Leaf) → g.commands (commands (cs ++ c ∷ [])) r ≡ g.commands (commands cs) (g.command c r)
commands_push [] c r = refl
commands_push (x ∷ xs) c r = ap (g.command x) (commands_push xs c r)

pub within_push : (cs : List s.Command) (c : s.Command) (d : ℕ) (r : List Leaf) → CommandsWithin (commands cs) 0 d (g.command c r) → CommandWithin c 0 d r → CommandsWithin (commands (cs ++ c ∷ [])) 0 d r
within_push [] c d r all one = (one, tt)
within_push (x ∷ xs) c d r all one = (subst (λ (z : List Leaf). CommandWithin x 0 d z) (sym (commands_push xs c r)) all.0, within_push xs c d r all.1 one)

pub nearest_push : (cs : List s.Command) (c : s.Command) → CommandsNearest (commands cs) → CommandNearest c → CommandsNearest (commands (cs ++ c ∷ []))
nearest_push [] c all one = (one, tt)
nearest_push (x ∷ xs) c all one = (all.0, nearest_push xs c all.1 one)
