-- The answer to a file of which a witness is asked for: what is fetched of it, that there is one, and
-- only one.
-- Names: witness-*.
use Rattle.std.proofs.Common.{◌≡◌, ◌∙◌, inl, inr, ℕ, Option, Some, None, ap, codes, refl, sym, subst, arith}
use Rattle.sf_base.specs.declared.ids.ProcId.{ProcId}
use Rattle.sf_base.specs.declared.limits.TheConstants.{FILE_BYTES}
use Rattle.sf_core.specs.Program.Syntax.{Program}
use Rattle.sf_io.specs.Shelf.{Files}
use Rattle.std.proofs.lemmas.Option.{same_Some}
use Rattle.sf_sym.specs.declared.stuck.Stuck.{Stuck}
use Rattle.sf_report.specs.Failure.{too_large_text}
use Rattle.sf_rules.specs.Checked.LawsOfSettings.{SettingIsUnique}
use Rattle.sf_rules.specs.Setting.{IsSettingOf, Setting}
use Rattle.sf_search.specs.Checked.Laws.{VerdictsAreUnique}
use Rattle.sf_search.specs.declared.verdicts.SearchFault.{SearchFault}
use Rattle.sf_search.specs.declared.verdicts.SearchFault.TheVariants.{Stuck as StuckAt}
use Rattle.sf_search.specs.Ends.{FailsFor, cause_of}
use Rattle.sf_search.specs.Judge.{Cause, Judge, Verdict, fails, proof, stuck_at, too_large}
use Rattle.sf_sym.specs.declared.goal.Goal.{Goal as CodeGoal}
use Rattle.sf_sym.specs.Goal.{goal_of}
use Rattle.sf_witness.specs.Checked.Laws.{EachGoalHasAText, EachGoalHasOneText}
use Rattle.sf_witness.specs.WitnessText.{WitnessText}
use Rattle.sf_cli.proofs.OneAnswer.{VerdictLayers}
use Rattle.sf_cli.proofs.Replies.{long-fault, long-reads}
use Rattle.sf_cli.specs.Answer.{FileAnswer, IsAnswering, ProgramAnswer, Reply, WitnessAnswer, WitnessFileAnswer, WitnessVerdict, admitted, admitted_witness, answer, refused, refused_witness}
use Rattle.sf_cli.specs.Checked.Fetched.{Fetched, IsUpTo}
use Rattle.sf_cli.specs.Checked.Laws.{EachFileHasAnAnswer, EachWitnessHasAnAnswer, EachWitnessHasOneAnswer}
use Rattle.sf_cli.specs.Refusals.{refusal_text}
use Rattle.sf_words.specs.Words.{Text, witness}

-- by the verdict on the program
pub witness-judged : (p : Program) (d : Setting) (v : Verdict) (text : Text) (status : ℕ) → IsSettingOf p d → Judge d v
    → WitnessVerdict p v text status → WitnessAnswer p text status
witness-judged p d v text status own judged said =
    record { setting = d; own = own; verdict = v; judged = judged; said = said }

pub witness-failed : (p : Program) (d : Setting) (f : ProcId) (cause : Option Cause) (text : Text) (status : ℕ)
    → IsSettingOf p d → FailsFor d f cause
    → ((why : Cause) → cause ≡ Some why → WitnessVerdict p (fails f why) text status) → WitnessAnswer p text status
witness-failed p d f None text status own fault said = absurd fault
witness-failed p d f (Some why) text status own fault said =
    witness-judged p d (fails f why) text status own fault (said why refl)

-- the answer to what was fetched is that to the file
witness-fetched : (out bytes text : Text) (status : ℕ) → IsUpTo FILE_BYTES bytes out
    → WitnessFileAnswer out text status → WitnessFileAnswer bytes text status
witness-fetched out bytes text status (inl e) a = subst (λ (z : Text). WitnessFileAnswer z text status) e a
witness-fetched out bytes text status (inr m) (refused_witness r f t s) =
    refused_witness r (long-fault out bytes r f m.0 m.1) t s
witness-fetched out bytes text status (inr m) (admitted_witness p a k) = absurd (long-reads out p a.reads m.0)

-- its status is one of an answer
verdict-status : (p : Program) (v : Verdict) (text : Text) (status : ℕ) → WitnessVerdict p v text status
    → IsAnswering status
verdict-status p (proof tags) text status w = let s = w.1 in inl (omega (arith, s))
verdict-status p (fails f (stuck_at goal kind before)) text status w = let s = w.1 in inl (omega (arith, s))
verdict-status p (fails f too_large) text status w = let s = w.1 in inl (omega (arith, s))

pub witness-status : (bytes text : Text) (status : ℕ) → WitnessFileAnswer bytes text status → IsAnswering status
witness-status bytes text status (refused_witness r f t s) = inl (omega (arith, s))
witness-status bytes text status (admitted_witness p a k) = verdict-status p k.verdict text status k.said

pub witness-reply : (told : Option Files) (before after : Text → ℕ) (file out text : Text) (status : ℕ)
    → Fetched FILE_BYTES told file out → WitnessFileAnswer out text status
    → Reply told before after (Some (witness file)) text status
witness-reply told before after file out text status f a =
    answer (witness-status out text status a)
    (f.bytes, f.may_have, witness-fetched out f.bytes text status f.is a)

-- a verdict has an answer
verdict-some : EachGoalHasAText → (p : Program) (v : Verdict) → (text : Text) × (status : ℕ) × WitnessVerdict p v text status
unfolding EachGoalHasAText
verdict-some texts p (proof tags) = (codes "accepted\n", 0, (refl, refl))
verdict-some texts p (fails f (stuck_at goal kind before)) =
    let w = texts p f goal kind in (w.0, 1, (w.1, refl))
verdict-some texts p (fails f too_large) = (too_large_text p f, 1, (refl, refl))

-- so has a program, and so a file
pub witness-some : EachFileHasAnAnswer → EachGoalHasAText → EachWitnessHasAnAnswer
witness-some each texts bytes = go (each bytes).0 (each bytes).1 (each bytes).2
  where
    program : (p : Program) (text : Text) (status : ℕ) → ProgramAnswer p text status
        → (said : Text) × (code : ℕ) × WitnessAnswer p said code
    program p text status a =
        let w = verdict-some texts p a.verdict in
        (w.0, w.1, witness-judged p a.setting a.verdict w.0 w.1 a.own a.judged w.2)

    go : (text : Text) (status : ℕ) → FileAnswer bytes text status
        → (said : Text) × (code : ℕ) × WitnessFileAnswer bytes said code
    go text status (refused r f t s) = (refusal_text r, 3, refused_witness r f refl refl)
    go text status (admitted p a k) =
        let w = program p text status k in (w.0, w.1, admitted_witness p a w.2)

-- a verdict has one answer
verdict-one : EachGoalHasOneText → (p : Program) (v : Verdict) (text other : Text) (status code : ℕ)
    → WitnessVerdict p v text status → WitnessVerdict p v other code → (text ≡ other) × (status ≡ code)
unfolding EachGoalHasOneText
verdict-one texts p (proof tags) text other status code a b = (a.0 ∙ sym b.0, a.1 ∙ sym b.1)
verdict-one texts p (fails f (stuck_at goal kind before)) text other status code a b =
    (texts p f goal kind text other a.0 b.0, a.1 ∙ sym b.1)
verdict-one texts p (fails f too_large) text other status code a b = (a.0 ∙ sym b.0, a.1 ∙ sym b.1)

-- so has a program
program-one : VerdictLayers → EachGoalHasOneText → (p : Program) (text other : Text) (status code : ℕ)
    → WitnessAnswer p text status → WitnessAnswer p other code → (text ≡ other) × (status ≡ code)
unfolding SettingIsUnique VerdictsAreUnique
program-one l texts p text other status code a b =
    let same : a.setting ≡ b.setting = l.settings p a.setting b.setting a.own b.own in
    let verdicts : a.verdict ≡ b.verdict = l.verdicts a.setting a.verdict b.verdict a.judged
    (subst (λ (d : Setting). Judge d b.verdict) (sym same) b.judged) in
    verdict-one texts p a.verdict text other status code a.said
    (subst (λ (v : Verdict). WitnessVerdict p v other code) (sym verdicts) b.said)

-- and so a file
pub witness-one : VerdictLayers → EachGoalHasOneText → EachWitnessHasOneAnswer
witness-one l texts bytes text other status code (refused_witness r f t s) (refused_witness q g u v) =
    (t ∙ ap refusal_text ((l.files bytes).causes r q f g) ∙ sym u, s ∙ sym v)
witness-one l texts bytes text other status code (refused_witness r f t s) (admitted_witness p a k) =
    absurd ((l.files bytes).apart p r a f)
witness-one l texts bytes text other status code (admitted_witness p a k) (refused_witness r f t s) =
    absurd ((l.files bytes).apart p r a f)
witness-one l texts bytes text other status code (admitted_witness p a k) (admitted_witness q b m) =
    program-one l texts p text other status code k
    (subst (λ (z : Program). WitnessAnswer z other code) (sym ((l.files bytes).programs p q a b)) m)

-- a goal at which the search is stuck
pub witness-stuck : (p : Program) (f : ProcId) (fault : SearchFault) (goal : CodeGoal) (kind : Stuck) (before : ℕ)
    (text : Text) → fault ≡ StuckAt goal kind before → WitnessText p f (goal_of goal) kind text
    → (why : Cause) → cause_of fault ≡ Some why → WitnessVerdict p (fails f why) text 1
witness-stuck p f fault goal kind before text is w why e =
    subst (λ (c : Cause). WitnessVerdict p (fails f c) text 1)
    (same_Some (stuck_at (goal_of goal) kind before) why (sym (ap cause_of is) ∙ e)) (w, refl)
