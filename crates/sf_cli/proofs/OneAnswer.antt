-- A file has at most one answer: its reading, its faults and the verdict are each determined, and no two of them meet.
-- Names: reads-*, fault-*, answer-*, proof-*.
use Rattle.std.proofs.Common.{◌≡◌, ℕ, List, Option, Some, None, sym, ap, ◌∙◌, subst}
use Rattle.std.proofs.lemmas.List.Elements.{All-contains}
use Rattle.std.specs.List.{All}
use Rattle.sf_base.proofs.Places.{is_before-neither}
use Rattle.sf_base.proofs.Options.{some-once}
use Rattle.sf_ast.specs.Surface.{Item}
use Rattle.sf_base.specs.declared.place.Place.{Place}
use Rattle.sf_calls.specs.FirstBreach.{Conditions}
use Rattle.sf_core.specs.Assertions.Determined.{Determined}
use Rattle.sf_core.specs.Program.Syntax.{Program}
use Rattle.sf_elab.specs.Files.Elaborated.{Elaborates, FirstFault}
use Rattle.sf_elab.specs.Checked.Laws.{EachFileIsOne as EachTreeIsOne}
use Rattle.sf_lex.specs.declared.token.Token.{Token}
use Rattle.sf_lex.specs.Checked.Laws.{EachFileReadsOnce}
use Rattle.sf_lex.specs.Reading.{end_place}
use Rattle.sf_parse.specs.Checked.Laws.{EachFileIsOne, AnswerIsUnique}
use Rattle.sf_parse.specs.Parsing.{IsFile, IsFault as IsGrammarFault}
use Rattle.sf_precise.specs.Checked.Laws.{NeverTakenIsUndetermined}
use Rattle.sf_precise.specs.Annotations.{annotations_in, IsFirstPlace, NeverTakenIn}
use Rattle.sf_rules.specs.Checked.LawsOfSettings.{SettingIsUnique}
use Rattle.sf_rules.specs.Setting.{Setting}
use Rattle.sf_search.specs.Judge.{Judge, Verdict, proof, fails}
use Rattle.sf_search.specs.Checked.Laws.{VerdictsAreUnique}
use Rattle.sf_vars.specs.Checked.Laws.{EachProgramHasOneAnswer}
use Rattle.sf_check.specs.Checked.Laws.{ProvesNotRefused, RefusedOnce}
use Rattle.sf_check.specs.Refusal.{Refused}
use Rattle.sf_io.specs.Shelf.{Files}
use Rattle.sf_proof.specs.declared.lined.Lined.{Lined}
use Rattle.sf_proof.specs.Checked.Laws.{EachTextReadsOnce}
use Rattle.sf_cli.specs.Answer.{FileAnswer, JournalAnswer, OrderAnswer, ProgramAnswer, RankingFileAnswer, RecheckAnswer, RunAnswer, VerdictAnswer, WitnessFileAnswer, admitted, file_refused, rechecked, refused}
use Rattle.sf_cli.specs.Replayed.{ReplayAnswer}
use Rattle.sf_cli.specs.declared.rejection.Rejection.{Rejection}
use Rattle.sf_cli.specs.declared.refusal.Refusal.{Refusal}
use Rattle.sf_cli.specs.declared.refusal.Refusal.TheVariants.{At}
use Rattle.sf_cli.specs.declared.refusal.RefusalKind.TheVariants.{Undetermined}
use Rattle.sf_cli.specs.FileFault.{ReadFault, in_tokens, in_grammar, in_names, ProgramFault, in_variables, in_order, FileFault, unread, unfit, Admits}
use Rattle.sf_cli.specs.Checked.Laws.{IsAlone, IsOfTasks, EachCommandHasOneAnswer, EachJournalHasOneAnswer, EachDemoHasOneAnswer, EachFileHasOneAnswer, EachFileIsDecided, EachFileIsOneProgram, EachProofHasOneAnswer, EachRunHasOneAnswer, EachRankingHasOneAnswer, EachReplayHasOneAnswer, EachWitnessHasOneAnswer}
use Rattle.sf_cli.specs.Reads.{Reads}
use Rattle.sf_cli.specs.Refusals.{of_tokens, of_grammar, of_names, of_variables, refusal_text}
use Rattle.sf_cli.specs.Rechecked.{IsProof, ProofAnswer, ProofFault, accepted, in_tags, in_text, rejected}
use Rattle.sf_cli.specs.Rejections.{of_tags, of_text, rejection_text}
use Rattle.sf_words.specs.Words.{Text, Order, demo, journal, order_of, ranking, recheck, replay, run, verify, witness}

-- what the layers below say of their own answers
pub record Layers : Type 0 where
  pub tokens : EachFileReadsOnce
  pub trees : EachFileIsOne
  pub grammar : AnswerIsUnique
  pub names : EachTreeIsOne
  pub breaches : EachProgramHasOneAnswer
  pub orders : NeverTakenIsUndetermined

-- what they say of verdicts
pub record VerdictLayers : Type 0 where
  pub files : EachFileIsDecided
  pub settings : SettingIsUnique
  pub verdicts : VerdictsAreUnique

-- what the layers below say of proofs
pub record ProofLayers : Type 0 where
  pub settings : SettingIsUnique
  pub texts : EachTextReadsOnce
  pub refusals : RefusedOnce
  pub apart : ProvesNotRefused

-- the same tokens are the same tree
reads-tree : EachFileIsOne → (bytes : Text) (ts us : List Token) (one two : List Item) → ts ≡ us → IsFile ts one → IsFile us two → one ≡ two
reads-tree l bytes ts us one two e f g = l ts one two f (subst (λ (z : List Token). IsFile z two) (sym e) g)

-- bytes read as one program at most
pub reads-program : EachFileReadsOnce → EachFileIsOne → EachTreeIsOne → EachFileIsOneProgram
reads-program tokens trees names bytes p q r s =
    let same : r.tree ≡ s.tree = reads-tree trees bytes r.tokens s.tokens r.tree s.tree ((tokens bytes).tokens r.tokens s.tokens r.spelled s.spelled) r.parsed s.parsed in
    names.one_program bytes r.tree p q r.elaborated (subst (λ (z : List Item). Elaborates bytes z q) (sym same) s.elaborated)

pub reads-once : Layers → EachFileIsOneProgram
reads-once l = reads-program l.tokens l.trees l.names

-- a fault of the grammar is that of the file's own tokens
fault-moved : Layers → (bytes : Text) (ts us : List Token) (e : _) → ts ≡ us → IsGrammarFault (end_place bytes) us e → IsGrammarFault (end_place bytes) ts e
fault-moved l bytes ts us e same h = subst (λ (z : List Token). IsGrammarFault (end_place bytes) z e) (sym same) h

-- bytes that read as a program have no fault of reading
pub reads-apart : Layers → (bytes : Text) (p : Program) (r : Refusal) → Reads bytes p → ReadFault bytes r → ⊥
reads-apart l bytes p r s (in_tokens e h k) = (l.tokens bytes).apart s.tokens e s.spelled h
reads-apart l bytes p r s (in_grammar ts e t h k) =
    (l.grammar (end_place bytes) s.tokens).apart s.tree e s.parsed (fault-moved l bytes s.tokens ts e ((l.tokens bytes).tokens s.tokens ts s.spelled t) h)
reads-apart l bytes p r s (in_names ts tree e t f h k) =
    let same : s.tree ≡ tree = reads-tree l.trees bytes s.tokens ts s.tree tree ((l.tokens bytes).tokens s.tokens ts s.spelled t) s.parsed f in
    l.names.not_both bytes tree p e (subst (λ (z : List Item). Elaborates bytes z p) same s.elaborated) h

-- bytes have one fault of reading at most
pub fault-once : Layers → (bytes : Text) (r s : Refusal) → ReadFault bytes r → ReadFault bytes s → r ≡ s
fault-once l bytes r s (in_tokens e h k) (in_tokens f i m) = k ∙ ap of_tokens ((l.tokens bytes).faults e f h i) ∙ sym m
fault-once l bytes r s (in_tokens e h k) (in_grammar ts f t i m) = absurd ((l.tokens bytes).apart ts e t h)
fault-once l bytes r s (in_tokens e h k) (in_names ts tree f t g i m) = absurd ((l.tokens bytes).apart ts e t h)
fault-once l bytes r s (in_grammar ts e t h k) (in_tokens f i m) = absurd ((l.tokens bytes).apart ts f t i)
fault-once l bytes r s (in_grammar ts e t h k) (in_grammar us f u i m) =
    k ∙ ap of_grammar ((l.grammar (end_place bytes) ts).faults e f h (fault-moved l bytes ts us f ((l.tokens bytes).tokens ts us t u) i)) ∙ sym m
fault-once l bytes r s (in_grammar ts e t h k) (in_names us tree f u g i m) =
    absurd ((l.grammar (end_place bytes) us).apart tree e g (fault-moved l bytes us ts e ((l.tokens bytes).tokens us ts u t) h))
fault-once l bytes r s (in_names ts tree e t g h k) (in_tokens f i m) = absurd ((l.tokens bytes).apart ts f t i)
fault-once l bytes r s (in_names ts tree e t g h k) (in_grammar us f u i m) =
    absurd ((l.grammar (end_place bytes) ts).apart tree f g (fault-moved l bytes ts us f ((l.tokens bytes).tokens ts us t u) i))
fault-once l bytes r s (in_names ts tree e t g h k) (in_names us other f u j i m) =
    let same : other ≡ tree = reads-tree l.trees bytes us ts other tree ((l.tokens bytes).tokens us ts u t) j g in
    k ∙ ap of_names (l.names.one_fault bytes tree e f h (subst (λ (z : List Item). FirstFault bytes z f) same i)) ∙ sym m

-- the first place at which an annotation is stuck is one
fault-place : (P : Place → Type 0) (p q : Place) → IsFirstPlace P (Some p) → IsFirstPlace P (Some q) → p ≡ q
fault-place P p q h i = is_before-neither p q (i.1 p h.0) (h.1 q i.0)

-- a program has one fault at most
pub fault-program : Layers → (p : Program) (r s : Refusal) → ProgramFault p r → ProgramFault p s → r ≡ s
fault-program l p r s (in_variables e h k) (in_variables f i m) = k ∙ ap of_variables (l.breaches.one_fault p e f h i) ∙ sym m
fault-program l p r s (in_variables e h k) (in_order at c i m) = absurd (l.breaches.not_both p e c h)
fault-program l p r s (in_order at c h k) (in_variables f i m) = absurd (l.breaches.not_both p f c i)
fault-program l p r s (in_order at c h k) (in_order on d i m) =
    let same : at ≡ on = fault-place (NeverTakenIn (annotations_in p)) at on h i in
    k ∙ ap (λ (z : Place). At Undetermined z) same ∙ sym m

-- a program with which nothing is wrong has no fault
fault-apart : Layers → (p : Program) (r : Refusal) → Conditions p → All (λ a. Determined a.level) (annotations_in p) → ProgramFault p r → ⊥
fault-apart l p r c d (in_variables e h k) = l.breaches.not_both p e c h
fault-apart l p r c d (in_order at e h k) = l.orders h.0.0.level at h.0.2 (All-contains (λ a. Determined a.level) (annotations_in p) h.0.0 d h.0.1)

-- a file that is admitted isn't refused
answer-apart : Layers → (bytes : Text) (p : Program) (r : Refusal) → Admits bytes p → FileFault bytes r → ⊥
answer-apart l bytes p r a (unread h) = reads-apart l bytes p r a.reads h
answer-apart l bytes p r a (unfit q s h) =
    let same : p ≡ q = reads-once l bytes p q a.reads s in
    fault-apart l p r a.conditions a.determined (subst (λ (z : Program). ProgramFault z r) (sym same) h)

-- a file is refused for one cause
answer-fault : Layers → (bytes : Text) (r s : Refusal) → FileFault bytes r → FileFault bytes s → r ≡ s
answer-fault l bytes r s (unread h) (unread i) = fault-once l bytes r s h i
answer-fault l bytes r s (unread h) (unfit q u i) = absurd (reads-apart l bytes q r u h)
answer-fault l bytes r s (unfit p t h) (unread i) = absurd (reads-apart l bytes p s t i)
answer-fault l bytes r s (unfit p t h) (unfit q u i) =
    fault-program l p r s h (subst (λ (z : Program). ProgramFault z s) (sym (reads-once l bytes p q t u)) i)

-- so a file is one program with which nothing is wrong, or is refused for one cause, and not both
pub answer-decided : Layers → EachFileIsDecided
answer-decided l bytes = record {
  programs = λ p q a b. reads-once l bytes p q a.reads b.reads;
  causes = answer-fault l bytes;
  apart = answer-apart l bytes;
}

-- one verdict is printed in one way
answer-printed : (p : Program) (v w : Verdict) (text other : Text) (status code : ℕ) → v ≡ w → VerdictAnswer p v text status → VerdictAnswer p w other code → (text ≡ other) × (status ≡ code)
answer-printed p v w text other status code e a b = go v (subst (λ (z : Verdict). VerdictAnswer p z other code) (sym e) b) a
  where
    go : (u : Verdict) → VerdictAnswer p u other code → VerdictAnswer p u text status → (text ≡ other) × (status ≡ code)
    go (proof tags) y x = (x.0 ∙ sym y.0, x.1 ∙ sym y.1)
    go (fails f why) y x = (x.0 ∙ sym y.0, x.1 ∙ sym y.1)

-- a program has one answer
pub answer-program : VerdictLayers → (p : Program) (text other : Text) (status code : ℕ) → ProgramAnswer p text status
    → ProgramAnswer p other code → (text ≡ other) × (status ≡ code)
unfolding SettingIsUnique VerdictsAreUnique
answer-program l p text other status code a b =
    let same : a.setting ≡ b.setting = l.settings p a.setting b.setting a.own b.own in
    answer-printed p a.verdict b.verdict text other status code
    (l.verdicts a.setting a.verdict b.verdict a.judged
    (subst (λ (d : Setting). Judge d b.verdict) (sym same) b.judged)) a.said b.said

-- a file has one answer
pub answer-once : VerdictLayers → EachFileHasOneAnswer
answer-once l bytes text other status code (refused r f t s) (refused q g u v) =
    (t ∙ ap refusal_text ((l.files bytes).causes r q f g) ∙ sym u, s ∙ sym v)
answer-once l bytes text other status code (refused r f t s) (admitted p a k) = absurd ((l.files bytes).apart p r a f)
answer-once l bytes text other status code (admitted p a k) (refused r f t s) = absurd ((l.files bytes).apart p r a f)
answer-once l bytes text other status code (admitted p a k) (admitted q b m) =
    answer-program l p text other status code k
    (subst (λ (z : Program). ProgramAnswer z other code) (sym ((l.files bytes).programs p q a b)) m)

-- tags that are refused aren't a proof, whatever text they were read from
proof-apart : ProofLayers → (p : Program) (given : Text) (r : Rejection) → IsProof p given → ProofFault p given r → ⊥
unfolding EachTextReadsOnce SettingIsUnique ProvesNotRefused
proof-apart l p given r i (in_text fault h k) = (l.texts p given).apart i.lined fault i.reads h
proof-apart l p given r i (in_tags d lined number why own reads h k) =
    let same : d ≡ i.setting = l.settings p d i.setting own i.own in
    let read : lined ≡ i.lined = (l.texts p given).lined lined i.lined reads i.reads in
    l.apart i.setting i.lined.tags number why i.proves
    (subst (λ (z : Lined). Refused i.setting z.tags number why) read
    (subst (λ (z : Setting). Refused z lined.tags number why) same h))

-- the text of a proof is refused for one cause
proof-fault : ProofLayers → (p : Program) (given : Text) (r s : Rejection) → ProofFault p given r
    → ProofFault p given s → r ≡ s
unfolding EachTextReadsOnce SettingIsUnique RefusedOnce
proof-fault l p given r s (in_text e h k) (in_text f i m) =
    k ∙ ap of_text ((l.texts p given).faults e f h i) ∙ sym m
proof-fault l p given r s (in_text e h k) (in_tags d lined n why own reads i m) =
    absurd ((l.texts p given).apart lined e reads h)
proof-fault l p given r s (in_tags d lined n why own reads h k) (in_text e i m) =
    absurd ((l.texts p given).apart lined e reads i)
proof-fault l p given r s (in_tags d lined n why own reads h k) (in_tags c other m because its read i j) =
    let same : c ≡ d = l.settings p c d its own in
    let texts : other ≡ lined = (l.texts p given).lined other lined read reads in
    let moved : Refused d lined.tags m because = subst (λ (z : Lined). Refused d z.tags m because) texts
    (subst (λ (z : Setting). Refused z other.tags m because) same i) in
    let one = l.refusals d lined.tags n m why because h moved in
    k ∙ ap (λ (z : ℕ). of_tags lined.lines z why) one.0 ∙ ap (of_tags lined.lines m) one.1
    ∙ sym (j ∙ ap (λ (z : Lined). of_tags z.lines m because) texts)

-- the text of a proof has one answer
pub proof-once : ProofLayers → EachProofHasOneAnswer
proof-once l p given text other status code (accepted i t s) (accepted j u v) = (t ∙ sym u, s ∙ sym v)
proof-once l p given text other status code (accepted i t s) (rejected r h u v) = absurd (proof-apart l p given r i h)
proof-once l p given text other status code (rejected r h t s) (accepted i u v) = absurd (proof-apart l p given r i h)
proof-once l p given text other status code (rejected r h t s) (rejected q i u v) =
    (t ∙ ap rejection_text (proof-fault l p given r q h i) ∙ sym u, s ∙ sym v)

-- so has what is said of it for a file's bytes, over the same files
recheck-once : EachFileIsDecided → EachProofHasOneAnswer → (files : Files) (bytes name text other : Text) (status code : ℕ)
    → RecheckAnswer (Some files) bytes name text status → RecheckAnswer (Some files) bytes name other code
    → (text ≡ other) × (status ≡ code)
recheck-once l one files bytes name text other status code (file_refused r f t s) (file_refused q g u v) =
    (t ∙ ap refusal_text ((l bytes).causes r q f g) ∙ sym u, s ∙ sym v)
recheck-once l one files bytes name text other status code (file_refused r f t s) (rechecked p a k) =
    absurd ((l bytes).apart p r a f)
recheck-once l one files bytes name text other status code (rechecked p a k) (file_refused r f t s) =
    absurd ((l bytes).apart p r a f)
recheck-once l one files bytes name text other status code (rechecked p a (given, may, k))
    (rechecked q b (found, has, m)) =
    let same : found ≡ given = some-once (files name) found given has may in
    let program : q ≡ p = (l bytes).programs q p b a in
    one p given text other status code k
    (subst (λ (z : Program). ProofAnswer z given other code) program
    (subst (λ (z : Text). ProofAnswer q z other code) same m))

-- a command has one answer over the same files
pub answer-command : EachFileIsDecided → EachFileHasOneAnswer → EachProofHasOneAnswer → EachRunHasOneAnswer
    → EachDemoHasOneAnswer → EachRankingHasOneAnswer → EachReplayHasOneAnswer
    → EachWitnessHasOneAnswer → EachJournalHasOneAnswer → EachCommandHasOneAnswer
answer-command l one proofs runs demos rankings replays witnesses journals files words text other status code alone a b =
    go (order_of words) alone a b
  where
    go : (o : Option Order) → (IsOfTasks status → IsAlone files o) → OrderAnswer (Some files) o text status
        → OrderAnswer (Some files) o other code → (text ≡ other) × (status ≡ code)
    go None n x y = (x.0 ∙ sym y.0, x.1 ∙ sym y.1)
    go (Some (verify file workers)) n (bytes, may, x) (found, has, y) =
        let same : found ≡ bytes = some-once (files file) found bytes has may in
        one bytes text other status code x (subst (λ (z : Text). FileAnswer z other code) same y)
    go (Some (recheck file name)) n (bytes, may, x) (found, has, y) =
        let same : found ≡ bytes = some-once (files file) found bytes has may in
        recheck-once l proofs files bytes name text other status code x
        (subst (λ (z : Text). RecheckAnswer (Some files) z name other code) same y)
    go (Some (run file entry state steps waits)) n (bytes, may, x) (found, has, y) =
        let same : found ≡ bytes = some-once (files file) found bytes has may in
        runs files bytes entry state text other steps waits status code (λ of given there. n of bytes given may there) x
        (subst (λ (z : Text). RunAnswer (Some files) z entry state steps waits other code) same y)
    go (Some (demo procedures)) n x y = demos procedures text other status code x y
    go (Some (ranking file)) n (bytes, may, x) (found, has, y) =
        let same : found ≡ bytes = some-once (files file) found bytes has may in
        rankings bytes text other status code x (subst (λ (z : Text). RankingFileAnswer z other code) same y)
    go (Some (replay file entry state schedule)) n (bytes, may, x) (found, has, y) =
        let same : found ≡ bytes = some-once (files file) found bytes has may in
        replays files bytes entry state schedule text other status code x
        (subst (λ (z : Text). ReplayAnswer (Some files) z entry state schedule other code) same y)
    go (Some (witness file)) n (bytes, may, x) (found, has, y) =
        let same : found ≡ bytes = some-once (files file) found bytes has may in
        witnesses bytes text other status code x (subst (λ (z : Text). WitnessFileAnswer z other code) same y)
    go (Some (journal file entry state steps waits)) n (bytes, may, x) (found, has, y) =
        let same : found ≡ bytes = some-once (files file) found bytes has may in
        journals files bytes entry state text other steps waits status code
        (λ of given there. n of bytes given may there) x
        (subst (λ (z : Text). JournalAnswer (Some files) z entry state steps waits other code) same y)
