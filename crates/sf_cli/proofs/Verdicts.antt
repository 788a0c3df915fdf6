-- The answer to a program by the verdict on it.
use Rattle.std.proofs.Common.{◌≡◌, ℕ, Option, Some, None, refl}
use Rattle.sf_base.specs.declared.ids.ProcId.{ProcId}
use Rattle.sf_core.specs.Program.Syntax.{Program}
use Rattle.sf_rules.specs.Setting.{IsSettingOf, Setting}
use Rattle.sf_search.specs.Ends.{FailsFor}
use Rattle.sf_search.specs.Judge.{Cause, Judge, Verdict, fails}
use Rattle.sf_cli.specs.Answer.{cause_text, ProgramAnswer, VerdictAnswer}
use Rattle.sf_words.specs.Words.{Text}

pub judged-answer : (p : Program) (d : Setting) (v : Verdict) (text : Text) (status : ℕ) → IsSettingOf p d → Judge d v
    → VerdictAnswer p v text status → ProgramAnswer p text status
judged-answer p d v text status own judged said =
    record { setting = d; own = own; verdict = v; judged = judged; said = said }

pub failed-answer : (p : Program) (d : Setting) (f : ProcId) (cause : Option Cause) (text : Text) (status : ℕ)
    → IsSettingOf p d → FailsFor d f cause
    → ((why : Cause) → cause ≡ Some why → (text ≡ cause_text p f why) × (status ≡ 1)) → ProgramAnswer p text status
failed-answer p d f None text status own fault said = absurd fault
failed-answer p d f (Some why) text status own fault said =
    judged-answer p d (fails f why) text status own fault (said why refl)

-- a failure has status 1
pub failed-status : (p : Program) (d : Setting) (f : ProcId) (cause : Option Cause) (text : Text) (status : ℕ)
    → FailsFor d f cause
    → ((why : Cause) → cause ≡ Some why → (text ≡ cause_text p f why) × (status ≡ 1)) → status ≡ 1
failed-status p d f None text status fault said = absurd fault
failed-status p d f (Some why) text status fault said = (said why refl).1
