-- What the machine chooses at a token that may begin a conjunct or a command: it takes what is there where one begins, and else
-- refuses, at any number of levels.
use Rattle.std.proofs.Common.{◌≡◌, ℕ, List, ◌∷◌, Bool, true, false, refl}
use Rattle.sf_ast.specs.declared.word.SurfaceExpr.TheVariants as e
use Rattle.sf_ast.specs.declared.word.SurfaceOperand.TheVariants as v
use Rattle.sf_parse.specs.Leaf.{Leaf}
use Rattle.sf_parse.specs.Leaf as k
use Rattle.sf_parse.specs.Checked.Heads.{command_next, conjunct_next}
use Rattle.sf_parse.specs.Checked.Machine.{Predicted, Choice, take, refuse, on_command, on_conjunct}

-- it takes where the test is true, and refuses where it is false
pub data Decided (begins : Bool) (choice : Choice) : Type 0 where
  takes : (xs : List Predicted) → begins ≡ true → choice ≡ take xs → Decided begins choice
  refuses : begins ≡ false → choice ≡ refuse → Decided begins choice

-- the test agrees with the choice
abbrev Agrees : Bool → Choice → Type 0
Agrees true (take xs) = Unit {0}
Agrees false refuse = Unit {0}
Agrees _ _ = ⊥

decided : (b : Bool) (c : Choice) → Agrees b c → Decided b c
decided true (take xs) h = takes xs refl refl
decided false refuse h = refuses refl refl
decided _ _ h = absurd h

conjunct_agrees : (d : ℕ) (t : Leaf) (r : List Leaf) → Agrees (conjunct_next (t ∷ r)) (on_conjunct d t)
conjunct_agrees d k.OpenRound r = tt
conjunct_agrees d _ r = tt

pub conjunct_decided : (d : ℕ) (t : Leaf) (r : List Leaf) → Decided (conjunct_next (t ∷ r)) (on_conjunct d t)
conjunct_decided d t r = decided (conjunct_next (t ∷ r)) (on_conjunct d t) (conjunct_agrees d t r)

command_agrees : (d : ℕ) (t : Leaf) (r : List Leaf) → Agrees (command_next (t ∷ r)) (on_command d t)
command_agrees d (k.Operand (v.Known (e.Name _))) r = tt
command_agrees d _ r = tt

pub command_decided : (d : ℕ) (t : Leaf) (r : List Leaf) → Decided (command_next (t ∷ r)) (on_command d t)
command_decided d t r = decided (command_next (t ∷ r)) (on_command d t) (command_agrees d t r)

-- so it refuses where nothing begins
pub refused : {begins : Bool} {choice : Choice} → Decided begins choice → begins ≡ false → choice ≡ refuse
refused (takes xs t e) f = absurd (cc (t, f))
refused (refuses n e) f = e

-- and takes where something does
pub taken : {begins : Bool} {choice : Choice} → Decided begins choice → begins ≡ true → (xs : List Predicted) × (choice ≡ take xs)
taken (takes xs t e) f = (xs, e)
taken (refuses n e) f = absurd (cc (n, f))
