-- A file has an answer: each layer has one of its own, and with them one of the cases of an answer is there.
-- Names: some-*, what is found at each step of the way.
use Rattle.std.proofs.Common.{◌≡◌, ℕ, List, Option, Some, None, codes, inl, inr, refl, sym, subst}
use Rattle.sf_ast.specs.Surface.{Item}
use Rattle.sf_calls.specs.FirstBreach.{Conditions}
use Rattle.sf_core.specs.Program.Formed.{IsFormed}
use Rattle.sf_core.specs.Program.Syntax.{Program}
use Rattle.sf_elab.specs.Checked.Laws.{ElaboratedIsFormed, EachFileIsOne as EachTreeIsOne}
use Rattle.sf_io.specs.Shelf.{Files}
use Rattle.sf_lex.specs.declared.token.Token.{Token}
use Rattle.sf_lex.specs.Checked.Laws.{EachFileReadsOnce}
use Rattle.sf_lex.specs.Reading.{AreTokens, end_place}
use Rattle.sf_parse.specs.Checked.Laws.{EachFileIsShallow, AnswerIsUnique}
use Rattle.sf_parse.specs.Parsing.{IsFile}
use Rattle.sf_precise.specs.Checked.Laws.{UndeterminedAnnotationsHavePlace}
use Rattle.sf_precise.specs.Annotations.{annotations_in}
use Rattle.sf_proof.specs.ProofText.{proof_text}
use Rattle.sf_rules.specs.Checked.LawsOfSettings.{SettingExists}
use Rattle.sf_rules.specs.Setting.{IsSettingOf, Setting}
use Rattle.sf_search.specs.Judge.{Verdict, proof, fails, Judge}
use Rattle.sf_search.specs.Checked.Laws.{ProgramsHaveVerdicts}
use Rattle.sf_rules.specs.Checked.LawsOfShape.{IsSetUp}
use Rattle.sf_vars.specs.Checked.Laws.{EachProgramHasAnAnswer}
use Rattle.sf_cli.proofs.Accepted.{accepted-formed}
use Rattle.sf_check.specs.Checked.Laws.{ProvesOrRefused}
use Rattle.sf_proof.specs.declared.lined.Lined.{Lined}
use Rattle.sf_proof.specs.Checked.Laws.{EachTextReadsOnce}
use Rattle.sf_proof.specs.Reading.{IsLined}
use Rattle.sf_cli.specs.Answer.{Answer, FileAnswer, Names, OrderAnswer, ProgramAnswer, RecheckAnswer, admitted, cause_text, file_refused, rechecked, refused}
use Rattle.sf_cli.specs.declared.refusal.Refusal.{Refusal}
use Rattle.sf_cli.specs.declared.refusal.Refusal.TheVariants.{At}
use Rattle.sf_cli.specs.declared.refusal.RefusalKind.TheVariants.{Undetermined}
use Rattle.sf_cli.specs.FileFault.{FileFault, in_grammar, in_names, in_order, in_tokens, in_variables, unfit, unread}
use Rattle.sf_cli.specs.Checked.Laws.{IsAlone, EachCommandHasAnAnswer, EachDemoHasAnAnswer, EachFileHasAnAnswer, EachJournalHasAnAnswer, EachProofHasAnAnswer, EachRunHasAnAnswer, EachRankingHasAnAnswer, EachReplayHasAnAnswer, EachWitnessHasAnAnswer}
use Rattle.sf_cli.specs.Reads.{Reads}
use Rattle.sf_cli.specs.Refusals.{of_grammar, of_names, of_tokens, of_variables, refusal_text}
use Rattle.sf_cli.specs.Rechecked.{ProofAnswer, accepted, in_tags, in_text, rejected}
use Rattle.sf_cli.specs.Rejections.{of_tags, of_text, rejection_text}
use Rattle.sf_words.specs.Words.{Text, Order, demo, journal, order_of, ranking, recheck, replay, run, verify, witness}
use Rattle.sf_cli.specs.Usage.{usage_text}

-- what the layers below say: that each has an answer, and that what is read is in order
pub record Answers : Type 0 where
  pub tokens : EachFileReadsOnce
  pub grammar : AnswerIsUnique
  pub shallow : EachFileIsShallow
  pub names : EachTreeIsOne
  pub formed : ElaboratedIsFormed
  pub variables : EachProgramHasAnAnswer
  pub orders : UndeterminedAnnotationsHavePlace
  pub settings : SettingExists
  pub verdicts : ProgramsHaveVerdicts

-- the answer to a program of which there is a verdict
some-verdict : (p : Program) (d : Setting) → IsSettingOf p d → (v : Verdict) → Judge d v
    → (text : Text) × (status : ℕ) × ProgramAnswer p text status
some-verdict p d own (proof tags) j = (
  proof_text p tags,
  0,
  record { setting = d; own = own; verdict = proof tags; judged = j; said = (refl, refl) },
)
some-verdict p d own (fails f why) j = (
  cause_text p f why,
  1,
  record { setting = d; own = own; verdict = fails f why; judged = j; said = (refl, refl) },
)

-- the answer to a program with which nothing is wrong
some-program : Answers → (p : Program) → IsFormed p → Conditions p → (text : Text) × (status : ℕ) × ProgramAnswer p text status
unfolding SettingExists ProgramsHaveVerdicts
some-program l p f c =
    let own = l.settings p f in
    let is : p ≡ own.0.program = sym own.1.program in
    let up : IsSetUp own.0 = record {
      formed = subst IsFormed is f;
      conditions = subst Conditions is c;
      setting = subst (λ (q : Program). IsSettingOf q own.0) is own.1;
    } in
    let v = l.verdicts own.0 up in
    some-verdict p own.0 own.1 v.0 v.1

-- the answer to a file that is refused
some-refusal : (bytes : Text) (r : Refusal) → FileFault bytes r → (text : Text) × (status : ℕ) × FileAnswer bytes text status
some-refusal bytes r f = (refusal_text r, 3, refused r f refl refl)

-- the answer to a file that reads as a program which keeps the conditions on variables
some-kept : Answers → (bytes : Text) (p : Program) → Reads bytes p → Conditions p → IsFormed p → (text : Text) × (status : ℕ) × FileAnswer bytes text status
some-kept l bytes p r c f = elim (l.orders (annotations_in p)) [
  | inl d ↦ let a = some-program l p f c in (a.0, a.1, admitted p (record { reads = r; conditions = c; determined = d }) a.2)
  | inr q ↦ some-refusal bytes (At Undetermined q.0) (unfit p r (in_order q.0 c q.1 refl))
]

-- the answer to a file that reads as a program
some-read : Answers → (bytes : Text) (p : Program) → Reads bytes p → (text : Text) × (status : ℕ) × FileAnswer bytes text status
some-read l bytes p r = elim (l.variables p (accepted-formed l.shallow l.formed bytes p r)) [
  | inl c ↦ some-kept l bytes p r c (accepted-formed l.shallow l.formed bytes p r)
  | inr e ↦ some-refusal bytes (of_variables e.0) (unfit p r (in_variables e.0 e.1 refl))
]

-- the answer to a file whose tokens are a tree
some-tree : Answers → (bytes : Text) (ts : List Token) (tree : List Item) → AreTokens bytes ts → IsFile ts tree → (text : Text) × (status : ℕ) × FileAnswer bytes text status
some-tree l bytes ts tree t f = elim (l.names.some bytes tree) [
  | inl p ↦ some-read l bytes p.0 (record { tokens = ts; tree = tree; spelled = t; parsed = f; elaborated = p.1 })
  | inr e ↦ some-refusal bytes (of_names e.0) (unread (in_names ts tree e.0 t f e.1 refl))
]

-- the answer to a file that has tokens
some-tokens : Answers → (bytes : Text) (ts : List Token) → AreTokens bytes ts → (text : Text) × (status : ℕ) × FileAnswer bytes text status
some-tokens l bytes ts t = elim ((l.grammar (end_place bytes) ts).some) [
  | inl f ↦ some-tree l bytes ts f.0 t f.1
  | inr e ↦ some-refusal bytes (of_grammar e.0) (unread (in_grammar ts e.0 t e.1 refl))
]

-- a file has an answer
pub some-answer : Answers → EachFileHasAnAnswer
some-answer l bytes = elim ((l.tokens bytes).some) [
  | inl t ↦ some-tokens l bytes t.0 t.1
  | inr e ↦ some-refusal bytes (of_tokens e.0) (unread (in_tokens e.0 e.1 refl))
]

-- what the layers below say of proofs
pub record ProofAnswers : Type 0 where
  pub shallow : EachFileIsShallow
  pub formed : ElaboratedIsFormed
  pub settings : SettingExists
  pub texts : EachTextReadsOnce
  pub refusals : ProvesOrRefused

-- the text of a proof has an answer, where it reads as tags
some-tags : ProofAnswers → (p : Program) (d : Setting) → IsSettingOf p d → (given : Text) (lined : Lined)
    → IsLined p given lined → (text : Text) × (status : ℕ) × ProofAnswer p given text status
unfolding ProvesOrRefused
some-tags l p d own given lined reads = elim (l.refusals d lined.tags) [
  | inl h ↦ (
    codes "accepted\n",
    0,
    accepted (record { setting = d; own = own; lined = lined; reads = reads; proves = h }) refl refl,
  )
  | inr h ↦ (
    rejection_text (of_tags lined.lines h.0 h.1),
    4,
    rejected (of_tags lined.lines h.0 h.1) (in_tags d lined h.0 h.1 own reads h.2 refl) refl refl,
  )
]

-- the text of a proof has an answer
pub some-proof : ProofAnswers → EachProofHasAnAnswer
unfolding SettingExists EachTextReadsOnce
some-proof l bytes p a given =
    let own = l.settings p (accepted-formed l.shallow l.formed bytes p a.reads) in
    elim ((l.texts p given).some) [
      | inl h ↦ some-tags l p own.0 own.1 given h.0 h.1
      | inr h ↦ (rejection_text (of_text h.0), 4, rejected (of_text h.0) (in_text h.0 h.1 refl) refl refl)
    ]

-- so has a file with it, where that is there
some-recheck : EachProofHasAnAnswer → (files : Files) (bytes name given : Text) → files name ≡ Some given
    → (text : Text) (status : ℕ) → FileAnswer bytes text status
    → (said : Text) × (code : ℕ) × RecheckAnswer (Some files) bytes name said code
some-recheck each files bytes name given there text status (refused r f t s) =
    (refusal_text r, 3, file_refused r f refl refl)
some-recheck each files bytes name given there text status (admitted p a k) =
    let found = each bytes p a given in (found.0, found.1, rechecked p a (given, there, found.2))

-- so has a command, where the files that it names are there
pub some-command : EachFileHasAnAnswer → EachProofHasAnAnswer → EachRunHasAnAnswer → EachDemoHasAnAnswer
    → EachRankingHasAnAnswer → EachReplayHasAnAnswer → EachWitnessHasAnAnswer → EachJournalHasAnAnswer
    → EachCommandHasAnAnswer
some-command each proofs runs demos rankings replays witnesses journals files words one there = go (order_of words) refl
  where
    answered : (o : Option Order) → order_of words ≡ o → (text : Text) (status : ℕ) → OrderAnswer (Some files) o text status
        → (text : Text) × (status : ℕ) × Answer files words text status
    answered o e text status a =
        (text, status, subst (λ (o : Option Order). OrderAnswer (Some files) o text status) (sym e) a)

    go : (o : Option Order) → order_of words ≡ o → (text : Text) × (status : ℕ) × Answer files words text status
    go None e = answered None e usage_text 2 (refl, refl)
    go (Some (demo procedures)) e =
        let a = demos procedures in
        answered _ e a.0 a.1 a.2
    go (Some (verify file workers)) e =
        let found = there file (subst (λ (o : Option Order). Names o file) (sym e) refl) in
        let a = each found.0 in
        answered _ e a.0 a.1 (found.0, found.1, a.2)
    go (Some (recheck file name)) e =
        let found = there file (subst (λ (o : Option Order). Names o file) (sym e) (inl refl)) in
        let given = there name (subst (λ (o : Option Order). Names o name) (sym e) (inr refl)) in
        let b = each found.0 in
        let a = some-recheck proofs files found.0 name given.0 given.1 b.0 b.1 b.2 in
        answered _ e a.0 a.1 (found.0, found.1, a.2)
    go (Some (run file entry state steps waits)) e =
        let found = there file (subst (λ (o : Option Order). Names o file) (sym e) (inl refl)) in
        let given = there state (subst (λ (o : Option Order). Names o state) (sym e) (inr refl)) in
        let alone = subst (λ (o : Option Order). IsAlone files o) e one in
        let a = runs files found.0 entry state given.0 steps waits given.1 (alone found.0 given.0 found.1 given.1) in
        answered _ e a.0 a.1 (found.0, found.1, a.2)
    go (Some (journal file entry state steps waits)) e =
        let found = there file (subst (λ (o : Option Order). Names o file) (sym e) (inl refl)) in
        let given = there state (subst (λ (o : Option Order). Names o state) (sym e) (inr refl)) in
        let alone = subst (λ (o : Option Order). IsAlone files o) e one in
        let a = journals files found.0 entry state given.0 steps waits given.1 (alone found.0 given.0 found.1 given.1) in
        answered _ e a.0 a.1 (found.0, found.1, a.2)
    go (Some (ranking file)) e =
        let found = there file (subst (λ (o : Option Order). Names o file) (sym e) refl) in
        let a = rankings found.0 in
        answered _ e a.0 a.1 (found.0, found.1, a.2)
    go (Some (witness file)) e =
        let found = there file (subst (λ (o : Option Order). Names o file) (sym e) refl) in
        let a = witnesses found.0 in
        answered _ e a.0 a.1 (found.0, found.1, a.2)
    go (Some (replay file entry state schedule)) e =
        let found = there file (subst (λ (o : Option Order). Names o file) (sym e) (inl refl)) in
        let given = there state (subst (λ (o : Option Order). Names o state) (sym e) (inr (inl refl))) in
        let events = there schedule (subst (λ (o : Option Order). Names o schedule) (sym e) (inr (inr refl))) in
        let a = replays files found.0 entry state schedule given.0 events.0 given.1 events.1 in
        answered _ e a.0 a.1 (found.0, found.1, a.2)
