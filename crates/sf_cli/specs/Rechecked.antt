-- Rechecked: what is said of the text of a proof, for a program with which nothing is wrong.
-- Necula, "Proof-carrying code" (1997): a proof is checked whoever made it, and nothing else is
-- asked of it.
use Rattle.std.specs.Prelude.{◌≡◌, ℕ, codes}
use Rattle.sf_check.specs.declared.refusal.Refusal.{Refusal as TagRefusal}
use Rattle.sf_check.specs.Refusal.{Refused}
use Rattle.sf_core.specs.Program.Syntax.{Program}
use Rattle.sf_proof.specs.declared.fault.ProofFault.{ProofFault as TextFault}
use Rattle.sf_proof.specs.declared.lined.Lined.{Lined}
use Rattle.sf_proof.specs.Reading.{IsFault, IsLined}
use Rattle.sf_rules.specs.Proving.{Proves}
use Rattle.sf_rules.specs.Setting.{IsSettingOf, Setting}
use Rattle.sf_cli.specs.declared.rejection.Rejection.{Rejection}
use Rattle.sf_cli.specs.Rejections.{of_tags, of_text, rejection_text}
use Rattle.sf_words.specs.Words.{Text}

-- the text reads as tags that prove the program, by the least sets of its calls and with its
-- annotations in order
pub record IsProof (p : Program) (proof : Text) : Type 0 where
  pub setting : Setting
  pub own : IsSettingOf p setting
  pub lined : Lined
  pub reads : IsLined p proof lined
  pub proves : Proves setting lined.tags

-- ProofFault: why the text is refused: it doesn't read as tags, which comes first, or its tags
-- don't prove the program
pub data ProofFault (p : Program) (proof : Text) (r : Rejection) : Type 0 where
  in_text : (fault : TextFault) → IsFault p proof fault → r ≡ of_text fault → ProofFault p proof r
  in_tags : (setting : Setting) (lined : Lined) (number : ℕ) (why : TagRefusal) → IsSettingOf p setting
      → IsLined p proof lined → Refused setting lined.tags number why → r ≡ of_tags lined.lines number why
      → ProofFault p proof r

-- the answer to the text of a proof of the program: it is accepted, or refused for a cause
pub data ProofAnswer (p : Program) (proof text : Text) (status : ℕ) : Type 0 where
  accepted : IsProof p proof → text ≡ codes "accepted\n" → status ≡ 0 → ProofAnswer p proof text status
  rejected : (r : Rejection) → ProofFault p proof r → text ≡ rejection_text r → status ≡ 4
      → ProofAnswer p proof text status
