-- The answer to `demo`: it is one, there is one, and an accepting one is that of a sound program.
-- Names: demo-*.
use Rattle.std.proofs.Common.{◌≡◌, ◌≤◌, ◌∙◌, ℕ, List, Option, Some, ap, arith, inl, refl, subst, sym}
use Rattle.sf_base.specs.declared.ids.ProcId.{ProcId}
use Rattle.sf_core.specs.Program.Syntax.{Program}
use Rattle.sf_gen.specs.Made.{made_text}
use Rattle.sf_proof.specs.ProofText.{proof_text}
use Rattle.sf_rules.specs.Checked.LawsOfSettings.{SettingIsUnique}
use Rattle.sf_rules.specs.Setting.{IsSettingOf, Setting}
use Rattle.sf_search.specs.Checked.Laws.{VerdictsAreUnique}
use Rattle.sf_search.specs.Ends.{FailsFor}
use Rattle.sf_search.specs.Judge.{Cause, Judge, Verdict, fails, proof}
use Rattle.sf_sym.specs.declared.tag.Tag.{Tag}
use Rattle.sf_cli.proofs.OneAnswer.{VerdictLayers}
use Rattle.sf_cli.specs.Answer.{AcceptedBytes, DemoAnswer, FileAnswer, IsAnswering, IsProved, VerdictAnswer, admitted, cause_text, demonstrated, refused, unproved_demo}
use Rattle.sf_cli.specs.Checked.Laws.{AcceptedFilesAreSound, EachDemoHasAnAnswer, EachDemoHasOneAnswer, EachFileHasAnAnswer, EachFileHasOneAnswer}
use Rattle.sf_cli.specs.DemoText.{demo_text}
use Rattle.sf_cli.proofs.Verdicts.{failed-answer, failed-status}
use Rattle.sf_cli.specs.declared.refusal.Refusal.{Refusal}
use Rattle.sf_cli.specs.FileFault.{Admits, FileFault}
use Rattle.sf_cli.specs.Refusals.{refusal_text}
use Rattle.sf_words.specs.Words.{Text}

-- a program with a proof is answered, as a file, with that proof
demo-file : (bytes : Text) (p : Program) → Admits bytes p → (i : IsProved p) → FileAnswer bytes (proof_text p i.tags) 0
demo-file bytes p a i =
    admitted p a (record {
      setting = i.setting;
      own = i.own;
      verdict = proof i.tags;
      judged = i.judged;
      said = (refl, refl);
    })

-- the tags that prove a program are one list
demo-tags : VerdictLayers → (p : Program) (i j : IsProved p) → i.tags ≡ j.tags
unfolding SettingIsUnique VerdictsAreUnique
demo-tags l p i j =
    let same : i.setting ≡ j.setting = l.settings p i.setting j.setting i.own j.own in
    tags_once i.tags j.tags
    (l.verdicts i.setting (proof i.tags) (proof j.tags) i.judged
    (subst (λ (d : Setting). Judge d (proof j.tags)) (sym same) j.judged))
  where
    tags_once : (one two : List Tag) → proof one ≡ proof two → one ≡ two
    tags_once one two e = cc

-- `demo` has one answer
pub demo-once : VerdictLayers → EachFileHasOneAnswer → EachDemoHasOneAnswer
demo-once l one n text other status code (demonstrated p a i t s) (demonstrated q b j u v) =
    let same : q ≡ p = (l.files (made_text n)).programs q p b a in
    let tags : i.tags ≡ j.tags = subst (λ (z : Program). (k : IsProved z) → i.tags ≡ k.tags) (sym same)
    (demo-tags l p i) j in
    (t ∙ ap (demo_text n) tags ∙ sym u, s ∙ sym v)
demo-once l one n text other status code (demonstrated p a i t s) (unproved_demo k m) =
    let e = (one (made_text n) (proof_text p i.tags) other 0 code (demo-file (made_text n) p a i) k).1 in
    absurd (m (sym e))
demo-once l one n text other status code (unproved_demo k m) (demonstrated p a i t s) =
    let e = (one (made_text n) (proof_text p i.tags) text 0 status (demo-file (made_text n) p a i) k).1 in
    absurd (m (sym e))
demo-once l one n text other status code (unproved_demo k m) (unproved_demo h r) =
    one (made_text n) text other status code k h

-- what is answered to the file that is made, by its verdict
demo-verdict : (n : ℕ) (p : Program) → Admits (made_text n) p → (d : Setting) → IsSettingOf p d → (v : Verdict)
    → Judge d v → (text : Text) × (status : ℕ) × DemoAnswer n text status
demo-verdict n p a d own (proof tags) j = (
  demo_text n tags,
  0,
  demonstrated p a (record { setting = d; own = own; tags = tags; judged = j }) refl refl,
)
demo-verdict n p a d own (fails f why) j = (
  cause_text p f why,
  1,
  unproved_demo
      (admitted p a (record { setting = d; own = own; verdict = fails f why; judged = j; said = (refl, refl) }))
      (λ e. absurd (omega (arith, e))),
)

-- a program that is made and has a proof is answered with how large both are
pub demo-proved : (n : ℕ) (p : Program) (made : Text) → made ≡ made_text n → Admits made p → (d : Setting)
    → IsSettingOf p d → (tags : List Tag) → Judge d (proof tags) → (text : Text) (status : ℕ)
    → (text ≡ demo_text n tags) × (status ≡ 0) → DemoAnswer n text status
demo-proved n p made e a d own tags j text status said =
    demonstrated p (subst (λ (z : Text). Admits z p) e a)
    (record { setting = d; own = own; tags = tags; judged = j }) said.0 said.1

-- one that has none is answered as its file would be
pub demo-failed : (n : ℕ) (p : Program) (made : Text) → made ≡ made_text n → Admits made p → (d : Setting)
    → IsSettingOf p d → (f : ProcId) (cause : Option Cause) → FailsFor d f cause → (text : Text) (status : ℕ)
    → ((why : Cause) → cause ≡ Some why → (text ≡ cause_text p f why) × (status ≡ 1)) → DemoAnswer n text status
demo-failed n p made e a d own f cause fault text status said =
    let one = failed-status p d f cause text status fault said in
    unproved_demo (admitted p (subst (λ (z : Text). Admits z p) e a)
    (failed-answer p d f cause text status own fault said)) (λ z. absurd (omega (arith, z, one)))

-- one that is refused is answered as its file would be
pub demo-refused : (n : ℕ) (r : Refusal) (made : Text) → made ≡ made_text n → FileFault made r → (text : Text)
    (status : ℕ) → (text ≡ refusal_text r) × (status ≡ 3) → DemoAnswer n text status
demo-refused n r made e f text status said =
    let three = said.1 in
    unproved_demo (refused r (subst (λ (z : Text). FileFault z r) e f) said.0 said.1)
    (λ z. absurd (omega (arith, z, three)))

-- `demo` has an answer
pub demo-some : EachFileHasAnAnswer → EachDemoHasAnAnswer
demo-some each n = go (each (made_text n)).0 (each (made_text n)).1 (each (made_text n)).2
  where
    go : (text : Text) (status : ℕ) → FileAnswer (made_text n) text status
        → (said : Text) × (code : ℕ) × DemoAnswer n said code
    go text status (refused r f t s) =
        (text, status, unproved_demo (refused r f t s) (λ e. absurd (omega (arith, e, s))))
    go text status (admitted p a k) = demo-verdict n p a k.setting k.own k.verdict k.judged

-- the program of the file that is made is sound where it is answered with status 0
pub demo-sound : AcceptedFilesAreSound → (n : ℕ) (text : Text) (status : ℕ) → status ≡ 0 → DemoAnswer n text status
    → AcceptedBytes (made_text n)
demo-sound law n text status z (demonstrated p a i t s) =
    law (made_text n) (proof_text p i.tags) (demo-file (made_text n) p a i)
demo-sound law n text status z (unproved_demo k m) = absurd (m z)

-- no answer of it is that a run is refused or spent
pub demo-status : (n : ℕ) (text : Text) (status : ℕ) → DemoAnswer n text status → status ≤ 4
demo-status n text status (demonstrated p a i t s) = omega (arith, s)
demo-status n text status (unproved_demo (refused r f t s) m) = omega (arith, s)
demo-status n text status (unproved_demo (admitted p a k) m) = go k.verdict k.said
  where
    go : (v : Verdict) → VerdictAnswer p v text status → status ≤ 4
    go (proof tags) said = let is = said.1 in omega (arith, is)
    go (fails f why) said = let is = said.1 in omega (arith, is)

-- such a status goes with an answer
pub demo-answering : (n : ℕ) (text : Text) (status : ℕ) → DemoAnswer n text status → IsAnswering status
demo-answering n text status a =
    let small : status ≤ 4 = demo-status n text status a in
    inl (omega (arith, small))
