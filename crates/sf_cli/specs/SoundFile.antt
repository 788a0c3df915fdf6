-- SoundFile: what an accepting status promises, in few words: the words name a program's file, or
-- have one made, and its bytes are those of a sound program.
-- Soundness against all runs: Brookes, "A semantics for concurrent separation logic" (2007).
use Rattle.std.specs.Prelude.{◌≡◌, ℕ, ◌⊎◌, Option, Some, None, List}
use Rattle.sf_core.specs.Program.Syntax.{Program}
use Rattle.sf_io.specs.Shelf.{Files}
use Rattle.sf_core.specs.Machine.Sound.{IsSound}
use Rattle.sf_cli.specs.Reads.{Reads}
use Rattle.sf_gen.specs.Made.{made_text}
use Rattle.sf_words.specs.Words.{Text, Order, demo, journal, order_of, ranking, recheck, replay, run, verify, witness}

-- what has this status only comes where the program is proved: 0, and of runs and their journals 5 and 6
abbrev pub IsAccepting : (status : ℕ) → Type 0
IsAccepting status = (status ≡ 0) ⊎ ((status ≡ 5) ⊎ (status ≡ 6))

-- the order asks for a proof of its program: all do but `order`, `replay` and `witness`
abbrev pub AsksForProof : Option Order → Type 0
AsksForProof (Some (ranking file)) = ⊥
AsksForProof (Some (replay file entry state schedule)) = ⊥
AsksForProof (Some (witness file)) = ⊥
AsksForProof _ = Unit {0}

-- the file of that name may have these bytes: where the shelf tells its files it has just them, and
-- else any
abbrev pub MayHave : Option Files → (name bytes : Text) → Type 0
MayHave None name bytes = Unit {0}
MayHave (Some files) name bytes = files name ≡ Some bytes

-- these may be the bytes of the program that the order is about: those of the file that it names, or
-- those that `demo` makes
abbrev pub AreProgram : Option Files → Option Order → (bytes : Text) → Type 0
AreProgram told (Some (verify file workers)) bytes = MayHave told file bytes
AreProgram told (Some (recheck file proof_name)) bytes = MayHave told file bytes
AreProgram told (Some (run file entry state steps waits)) bytes = MayHave told file bytes
AreProgram told (Some (demo procedures)) bytes = bytes ≡ made_text procedures
AreProgram told (Some (ranking file)) bytes = MayHave told file bytes
AreProgram told (Some (replay file entry state schedule)) bytes = MayHave told file bytes
AreProgram told (Some (witness file)) bytes = MayHave told file bytes
AreProgram told (Some (journal file entry state steps waits)) bytes = MayHave told file bytes
AreProgram told None bytes = ⊥

-- NamesSound: the words are an order about a program, whose bytes read as a program that is sound
pub record NamesSound (told : Option Files) (words : List Text) : Type 0 where
  pub bytes : Text
  pub are : AreProgram told (order_of words) bytes
  pub program : Program
  pub reads : Reads bytes program
  pub sound : IsSound program
