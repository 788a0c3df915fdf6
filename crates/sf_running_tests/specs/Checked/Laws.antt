-- Laws that join what files are read as with what is written of their runs and of their proofs.
-- Ordinary: what is printed of what was read is read again, as of any printer and its parser.
use Rattle.std.specs.Prelude.{◌≡◌, ◌≤◌, ℕ, Bool, true, List, Some, Contains, length, slice_get}
use Rattle.std.specs.FinMap.{get, len}
use Rattle.std.specs.List.{AllByRecursion, range_with_len}
use Rattle.sf_ast.specs.Surface.{Item}
use Rattle.sf_base.specs.declared.ids.ProcId.{ProcId}
use Rattle.sf_base.specs.declared.limits.TheConstants.{PROOF_BYTES, STATE_CELLS}
use Rattle.sf_base.specs.declared.value.Value.{Value}
use Rattle.sf_core.specs.Program.Syntax.{Procedure, Program}
use Rattle.sf_elab.specs.Files.Elaborated.{Elaborates}
use Rattle.sf_foot.specs.declared.vars.Vars.{Vars}
use Rattle.sf_foot.specs.declared.start.Finish.{Finish}
use Rattle.sf_heap.specs.Cells.{Cells, FieldValues}
use Rattle.sf_lex.specs.declared.token.Token.{Token}
use Rattle.sf_lex.specs.Reading.{AreTokens}
use Rattle.sf_parse.specs.Parsing.{IsFile}
use Rattle.sf_proof.specs.Checked.Laws.{IsWritable as IsWritableTag}
use Rattle.sf_proof.specs.ProofText.{proof_text}
use Rattle.sf_proof.specs.Reading.{IsLined}
use Rattle.sf_run.specs.Running.{EndsWith}
use Rattle.sf_state.specs.Finishing.{IsFinishText, values_of}
use Rattle.sf_state.specs.Values.{is_location}
use Rattle.sf_state.specs.Checked.Laws.{ReadsBack}
use Rattle.sf_state.specs.Checked.Written.{AreWritable, HasNames, IsWritable}
use Rattle.sf_sym.specs.declared.tag.Tag.{Tag}
use Rattle.sf_sym.specs.declared.tag.Tag.TheVariants.{Procedure as begin}

-- the names of each program that bytes are read as are names, and those of one kind differ
unfoldable pub ProgramsThatAreReadHaveNames : Type 0
ProgramsThatAreReadHaveNames = (bytes : List ℕ) (tokens : List Token) (tree : List Item) (p : Program)
    → AreTokens bytes tokens → IsFile tokens tree → Elaborates bytes tree p → HasNames p

-- variables and cells within the limits of a text: values that it can have, cells at locations that it
-- can have, and not too many
pub record AreWithinLimits (vars : Vars) (heap : Cells) : Type 0 where
  pub values : (v : Value) → Contains (values_of vars) v → IsWritable v
  pub locations : (location : ℕ) (values : FieldValues) → get heap location ≡ Some values
      → is_location location ≡ true
  pub fields : (location : ℕ) (values : FieldValues) → get heap location ≡ Some values → (v : Value)
      → Contains values v → IsWritable v
  pub few : len heap ≤ STATE_CELLS

-- in each such program the text of variables and cells that can have one reads as these
unfoldable pub WrittenStatesOfFilesReadBack : Type 0
WrittenStatesOfFilesReadBack = (bytes : List ℕ) (tokens : List Token) (tree : List Item) (p : Program) (f : ProcId)
    (g : Procedure) (vars : Vars) (heap : Cells) (text : List ℕ) → AreTokens bytes tokens → IsFile tokens tree
    → Elaborates bytes tree p → slice_get p.procedures f.0 ≡ Some g → AreWritable p g vars heap
    → IsFinishText p g vars heap text → ReadsBack p g vars heap text

-- so what a run of such a program ends with reads back from its text, where it is within the limits:
-- it has a value for each variable, and its cells have one for each field
unfoldable pub FinishesOfFilesReadBack : Type 0
FinishesOfFilesReadBack = (bytes : List ℕ) (tokens : List Token) (tree : List Item) (p : Program) (f : ProcId)
    (g : Procedure) (fresh : Bool) (vars : Vars) (heap : Cells) (base count : ℕ) (finish : Finish)
    (text : List ℕ) → AreTokens bytes tokens → IsFile tokens tree → Elaborates bytes tree p
    → slice_get p.procedures f.0 ≡ Some g → EndsWith p f fresh vars heap base count finish
    → AreWithinLimits finish.vars finish.heap → IsFinishText p g finish.vars finish.heap text
    → ReadsBack p g finish.vars finish.heap text

-- a tag of the code: its numbers have their bits; and its procedure is one of the program's
abbrev pub IsTagOf : Program → Tag → Type 0
IsTagOf p (begin f) = (g : Procedure) × (slice_get p.procedures f.0 ≡ Some g)
IsTagOf p tag = IsWritableTag p tag

-- in each such program what is written of tags reads as these, where it is within the limit
unfoldable pub WrittenProofsOfFilesReadBack : Type 0
WrittenProofsOfFilesReadBack = (bytes : List ℕ) (tokens : List Token) (tree : List Item) (p : Program)
    (tags : List Tag) → AreTokens bytes tokens → IsFile tokens tree → Elaborates bytes tree p
    → AllByRecursion (IsTagOf p) tags → length (proof_text p tags) ≤ PROOF_BYTES
    → IsLined p (proof_text p tags) (record { tags = tags; lines = range_with_len 2 (length tags) })
