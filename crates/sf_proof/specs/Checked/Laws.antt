-- Laws of a proof's text, in words of their own.
-- Ordinary: a format has one reading, and what is written is read back, as of any printer and its
-- parser.
use Rattle.std.specs.Prelude.{◌≡◌, ◌<◌, ◌≤◌, ◌^◌, ◌⊎◌, true, List, [], ◌∷◌, length}
use Rattle.std.specs.List.{range_with_len}
use Rattle.sf_base.specs.declared.limits.TheConstants.{PROOF_BYTES}
use Rattle.sf_base.specs.declared.ids.ProcId.{ProcId}
use Rattle.sf_lex.specs.Piece.{fits}
use Rattle.sf_lex.specs.Whole.{is_name}
use Rattle.sf_core.specs.Program.Named.{name_of}
use Rattle.sf_core.specs.Program.Syntax.{Program}
use Rattle.sf_sym.specs.declared.tag.Tag.{Tag}
use Rattle.sf_sym.specs.declared.tag.Tag.TheVariants as t
use Rattle.sf_sym.specs.declared.term.Term.{Term}
use Rattle.sf_sym.specs.declared.term.Term.TheVariants.{Nil, Int, Sym}
use Rattle.sf_proof.specs.declared.lined.Lined.{Lined}
use Rattle.sf_proof.specs.declared.fault.ProofFault.{ProofFault}
use Rattle.sf_proof.specs.ProofText.{Text, proof_text}
use Rattle.sf_proof.specs.Reading.{IsFault, IsLined}
use Rattle.sf_proof.specs.Words.{procedure_named}

-- the text reads in exactly one way: as tags on lines, or with one fault
pub record ReadsOnce (p : Program) (text : Text) : Type 0 where
  pub some : ((lined : Lined) × IsLined p text lined) ⊎ ((fault : ProofFault) × IsFault p text fault)
  pub lined : (l m : Lined) → IsLined p text l → IsLined p text m → l ≡ m
  pub faults : (e f : ProofFault) → IsFault p text e → IsFault p text f → e ≡ f
  pub apart : (l : Lined) (e : ProofFault) → IsLined p text l → IsFault p text e → ⊥

-- each byte string does, whatever the program
unfoldable pub EachTextReadsOnce : Type 0
EachTextReadsOnce = (p : Program) (text : Text) → ReadsOnce p text

-- a term of the code: an integer has 64 bits, and a symbol's number has 32
abbrev pub IsTermOfCode : Term → Type 0
IsTermOfCode Nil = Unit {0}
IsTermOfCode (Int i) = fits i ≡ true
IsTermOfCode (Sym n) = n < 2 ^ 32

-- the procedure has a name that can be read, and is the first of that name
pub record IsFirstOfItsName (p : Program) (f : ProcId) : Type 0 where
  pub name : is_name (name_of p f) ≡ true
  pub first : procedure_named p (name_of p f) ≡ f

-- a tag of the code: an atom's number has 32 bits; and its procedure is the first of its name
abbrev pub IsWritable : Program → Tag → Type 0
IsWritable p (t.Procedure f) = IsFirstOfItsName p f
IsWritable p (t.Split x y) = IsTermOfCode x × IsTermOfCode y
IsWritable p (t.Drop a) = a < 2 ^ 32
IsWritable p (t.Force a) = a < 2 ^ 32
IsWritable p (t.Unroll a) = a < 2 ^ 32
IsWritable p (t.Back a) = a < 2 ^ 32
IsWritable p (t.Look a) = a < 2 ^ 32
IsWritable p (t.Mutate a) = a < 2 ^ 32
IsWritable p (t.Dispose a) = a < 2 ^ 32
IsWritable p (t.Cell a) = a < 2 ^ 32
IsWritable p (t.Exact a) = a < 2 ^ 32
IsWritable p (t.Head a) = a < 2 ^ 32
IsWritable p (t.Join a) = a < 2 ^ 32
IsWritable p (t.Node a) = a < 2 ^ 32
IsWritable p _ = Unit {0}

-- each of the tags is
abbrev pub AreWritable : Program → List Tag → Type 0
AreWritable p [] = Unit {0}
AreWritable p (tag ∷ tags) = IsWritable p tag × AreWritable p tags

-- what is written of tags reads as these tags, from line 2 on, where it is within the limit
unfoldable pub WrittenTagsReadBack : Type 0
WrittenTagsReadBack = (p : Program) (tags : List Tag) → AreWritable p tags → length (proof_text p tags) ≤ PROOF_BYTES
    → IsLined p (proof_text p tags) (record { tags = tags; lines = range_with_len 2 (length tags) })
