-- What an answer of status 0 promises: the program that the bytes read as is sound.
-- Names: accepted-*.
use Rattle.std.proofs.Common.{◌≡◌, ◌<◌, ◌≤◌, ℕ, Contains, List, Option, Some, None, arith, inl, inr, refl, subst, sym}
use Rattle.std.proofs.lemmas.List.Elements.{All-contains}
use Rattle.std.specs.List.{All}
use Rattle.sf_calls.specs.FirstBreach.{Conditions}
use Rattle.sf_calls.specs.Sets.{AreSetsOf}
use Rattle.sf_core.specs.Assertions.Determined.{Determined}
use Rattle.sf_core.specs.Program.Formed.{IsFormed}
use Rattle.sf_core.specs.Program.Syntax.{Assertion, Program}
use Rattle.sf_elab.specs.Checked.Laws.{ElaboratedIsFormed}
use Rattle.sf_gen.specs.Made.{made_text}
use Rattle.sf_io.specs.Shelf.{Files}
use Rattle.sf_parse.specs.Checked.Laws.{EachFileIsShallow}
use Rattle.sf_precise.specs.Annotations.{annotations_in}
use Rattle.sf_rules.specs.Proving.{Proves}
use Rattle.sf_rules.specs.Setting.{IsSettingOf, Setting}
use Rattle.sf_core.specs.Machine.Sound.{IsSound}
use Rattle.sf_search.specs.Judge.{Verdict, proof, fails, Judge}
use Rattle.sf_search.specs.Checked.Laws.{TakenTagsProve}
use Rattle.sf_sound.specs.Proofs.{ProofsAreSound}
use Rattle.sf_sym.specs.declared.tag.Tag.{Tag}
use Rattle.sf_cli.proofs.DemoAnswers.{demo-sound, demo-status}
use Rattle.sf_cli.proofs.Kept.{kept-shown}
use Rattle.sf_cli.specs.Answer.{Accepted, AcceptedBytes, FileAnswer, IsProved, IsSaid, OrderAnswer, RecheckAnswer, Reply, RunAnswer, RunFileAnswer, RunJournal, VerdictAnswer, admitted, admitted_run, answer, by_demo, by_journal, by_proof, by_run, by_search, entered, file_refused, no_entry, rechecked, refused, refused_run, unproved, unread}
use Rattle.sf_cli.specs.SoundFile.{AreProgram, AsksForProof, IsAccepting, NamesSound}
use Rattle.sf_cli.specs.FileFault.{Admits}
use Rattle.sf_cli.specs.Checked.Laws.{AcceptedFilesAreSound, AcceptedProofsAreSound, AcceptedRunsAreSound}
use Rattle.sf_cli.specs.Reads.{Reads}
use Rattle.sf_cli.specs.Rechecked.{accepted, rejected}
use Rattle.sf_words.specs.Words.{Text, Order, demo, journal, order_of, ranking, recheck, replay, run, verify, witness}

-- a program that is read is in order
pub accepted-formed : EachFileIsShallow → ElaboratedIsFormed → (bytes : Text) (p : Program) → Reads bytes p → IsFormed p
accepted-formed shallow formed bytes p r =
    subst IsFormed (sym r.elaborated.same) (formed bytes r.tree (shallow r.tokens r.tree r.parsed) r.elaborated.sound)

-- a program that is proved is sound
pub accepted-program : ProofsAreSound → (p : Program) (tags : List Tag) (d : Setting) → IsSettingOf p d → IsFormed p
    → Conditions p → All (λ a. Determined a.level) (annotations_in p) → Proves d tags → IsSound p
unfolding ProofsAreSound
accepted-program law p tags d own formed conditions determined proves =
    let back : p ≡ d.program = sym own.program in
    subst IsSound own.program
    (law d tags (subst IsFormed back formed) (subst Conditions back conditions)
    (subst (λ (q : Program). AreSetsOf q d.sets) back own.sets)
    (λ a among. All-contains (λ (b : Assertion). Determined b.level) (annotations_in p) a determined
    (subst (λ (q : Program). Contains (annotations_in q) a) own.program among)) own.ordering proves)

-- so is one with which nothing is wrong, and whose verdict is a proof
pub accepted-judged : EachFileIsShallow → ElaboratedIsFormed → TakenTagsProve → ProofsAreSound → (bytes : Text)
    (p : Program) → Admits bytes p → IsProved p → IsSound p
unfolding TakenTagsProve
accepted-judged shallow formed prove law bytes p a i =
    accepted-program law p i.tags i.setting i.own (accepted-formed shallow formed bytes p a.reads) a.conditions
    a.determined (prove i.setting i.tags i.judged)

-- so is one with which nothing is wrong, of which these tags are a proof
accepted-bytes : EachFileIsShallow → ElaboratedIsFormed → ProofsAreSound → (bytes : Text) (p : Program)
    → Admits bytes p → (d : Setting) → IsSettingOf p d → (tags : List Tag) → Proves d tags → AcceptedBytes bytes
accepted-bytes shallow formed law bytes p a d own tags proves = record {
  program = p;
  admits = a;
  sound = accepted-program law p tags d own (accepted-formed shallow formed bytes p a.reads) a.conditions
      a.determined proves;
}

-- a file whose answer has status 0 reads as a program that is sound
pub accepted-sound : EachFileIsShallow → ElaboratedIsFormed → TakenTagsProve → ProofsAreSound → AcceptedFilesAreSound
unfolding TakenTagsProve
accepted-sound shallow formed prove law bytes text (refused r f t s) = absurd (omega (arith, s))
accepted-sound shallow formed prove law bytes text (admitted p a k) = go k.verdict k.judged k.said
  where
    go : (v : Verdict) → Judge k.setting v → VerdictAnswer p v text 0 → AcceptedBytes bytes
    go (fails f why) j said = absurd (omega (arith, said.1))
    go (proof tags) j said =
        accepted-bytes shallow formed law bytes p a k.setting k.own tags (prove k.setting tags j)

-- a file for which the text of a proof is answered with status 0 does too
pub accepted-proof : EachFileIsShallow → ElaboratedIsFormed → ProofsAreSound → AcceptedProofsAreSound
accepted-proof shallow formed law bytes p a given text (rejected r f t s) = absurd (omega (arith, s))
accepted-proof shallow formed law bytes p a given text (accepted i t s) =
    accepted-bytes shallow formed law bytes p a i.setting i.own i.lined.tags i.proves

-- what is answered to the text of a proof with status 0 promises the same of the program's file
accepted-recheck : AcceptedProofsAreSound → (told : Option Files) (bytes name text : Text)
    → RecheckAnswer told bytes name text 0 → AcceptedBytes bytes
accepted-recheck law told bytes name text (file_refused r f t s) = absurd (omega (arith, s))
accepted-recheck law told bytes name text (rechecked p a (given, may, k)) = law bytes p a given text k

-- a run that is answered with a status that only comes where the program is proved promises it too
accepted-run_file : (told : Option Files) (p : Program) (entry state_name text : Text) (steps waits status : ℕ)
    → IsAccepting status → RunFileAnswer told p entry state_name steps waits text status → IsProved p
accepted-run_file told p entry state_name text steps waits status s (unproved a one) = absurd (never s)
  where
    never : IsAccepting status → ⊥
    never (inl z) = omega (arith, z, one)
    never (inr (inl z)) = omega (arith, z, one)
    never (inr (inr z)) = omega (arith, z, one)
accepted-run_file told p entry state_name text steps waits status s (no_entry e i x t five) = i
accepted-run_file told p entry state_name text steps waits status s (entered f given i may k) = i.proved

pub accepted-run : EachFileIsShallow → ElaboratedIsFormed → TakenTagsProve → ProofsAreSound → AcceptedRunsAreSound
accepted-run shallow formed prove law told bytes entry state_name text steps waits status s (refused_run r f t three) =
    absurd (never s)
  where
    never : IsAccepting status → ⊥
    never (inl z) = omega (arith, z, three)
    never (inr (inl z)) = omega (arith, z, three)
    never (inr (inr z)) = omega (arith, z, three)
accepted-run shallow formed prove law told bytes entry state_name text steps waits status s (admitted_run p a k) =
    record {
      program = p;
      admits = a;
      sound = accepted-judged shallow formed prove law bytes p a
          (accepted-run_file told p entry state_name text steps waits status s k);
    }

-- such a status is that of an answer
pub accepting-said : (status : ℕ) → IsAccepting status → IsSaid status
accepting-said status (inl z) = inl (inl (omega (arith, z)))
accepting-said status (inr (inl z)) = inl (inl (omega (arith, z)))
accepting-said status (inr (inr z)) = inl (inl (omega (arith, z)))

-- only a run, with its events or without, is answered with 5 or 6
accepted-zero : (status most : ℕ) → status ≤ most → most < 5 → IsAccepting status → status ≡ 0
accepted-zero status most l m (inl z) = z
accepted-zero status most l m (inr (inl z)) = absurd (omega (arith, l, m, z))
accepted-zero status most l m (inr (inr z)) = absurd (omega (arith, l, m, z))

accepted-verdict : (p : Program) (v : Verdict) (text : Text) (status : ℕ) → VerdictAnswer p v text status → status ≤ 4
accepted-verdict p (proof tags) text status a = let is = a.1 in omega (arith, is)
accepted-verdict p (fails f why) text status a = let is = a.1 in omega (arith, is)

accepted-file : (bytes text : Text) (status : ℕ) → FileAnswer bytes text status → status ≤ 4
accepted-file bytes text status (refused r f t s) = omega (arith, s)
accepted-file bytes text status (admitted p a k) = accepted-verdict p k.verdict text status k.said

accepted-checked : (told : Option Files) (bytes name text : Text) (status : ℕ)
    → RecheckAnswer told bytes name text status → status ≤ 4
accepted-checked told bytes name text status (file_refused r f t s) = omega (arith, s)
accepted-checked told bytes name text status (rechecked p a (given, may, accepted i t s)) = omega (arith, s)
accepted-checked told bytes name text status (rechecked p a (given, may, rejected r f t s)) = omega (arith, s)

-- what the words' answer of such a status promises
accepted-order : AcceptedFilesAreSound → AcceptedProofsAreSound → AcceptedRunsAreSound → (told : Option Files)
    (words : List Text) (text : Text) (status : ℕ) → AsksForProof (order_of words) → IsAccepting status
    → OrderAnswer told (order_of words) text status → Accepted told words text status
accepted-order files proofs runs told words text status asks s a = go (order_of words) refl asks a
  where
    zero-at : status ≤ 4 → status ≡ 0
    zero-at l = accepted-zero status 4 l (omega arith) s

    go : (o : Option Order) → order_of words ≡ o → AsksForProof o → OrderAnswer told o text status
        → Accepted told words text status
    go None e q x = let two = x.1 in let z = zero-at (omega (arith, two)) in absurd (omega (arith, two, z))
    go (Some (verify file workers)) e q (bytes, may, k) =
        let z = zero-at (accepted-file bytes text status k) in
        by_search file workers e bytes may k (files bytes text (subst (λ (n : ℕ). FileAnswer bytes text n) z k))
    go (Some (recheck file name)) e q (bytes, may, k) =
        let z = zero-at (accepted-checked told bytes name text status k) in
        by_proof file name e bytes may k
        (accepted-recheck proofs told bytes name text (subst (λ (n : ℕ). RecheckAnswer told bytes name text n) z k))
    go (Some (run file entry state steps waits)) e q (bytes, may, k) =
        by_run file entry state steps waits e bytes may k (runs told bytes entry state text steps waits status s k)
    go (Some (demo procedures)) e q k =
        let z = zero-at (demo-status procedures text status k) in
        by_demo procedures e k (demo-sound files procedures text status z k)
    go (Some (ranking file)) e q x = absurd q
    go (Some (replay file entry state schedule)) e q x = absurd q
    go (Some (witness file)) e q x = absurd q
    go (Some (journal file entry state steps waits)) e q (bytes, may, k) =
        let shown = kept-shown (RunAnswer told bytes entry state steps waits) (RunJournal told bytes entry state steps) text
        status k in
        by_journal file entry state steps waits e bytes may k
        (runs told bytes entry state shown.0 steps waits status s shown.1)

-- what is said with such a status promises it
pub accepted-reply : AcceptedFilesAreSound → AcceptedProofsAreSound → AcceptedRunsAreSound → (told : Option Files)
    (before after : Text → ℕ) (words : List Text) (text : Text) (status : ℕ) → AsksForProof (order_of words)
    → IsAccepting status → Reply told before after (order_of words) text status → Accepted told words text status
accepted-reply files proofs runs told before after words text status asks s (unread seven u) = absurd (never s)
  where
    never : IsAccepting status → ⊥
    never (inl z) = omega (arith, z, seven)
    never (inr (inl z)) = omega (arith, z, seven)
    never (inr (inr z)) = omega (arith, z, seven)
accepted-reply files proofs runs told before after words text status asks s (answer l a) =
    accepted-order files proofs runs told words text status asks s a

-- words are about a sound program where these are its bytes
names : (told : Option Files) (words : List Text) (bytes : Text) → AreProgram told (order_of words) bytes
    → AcceptedBytes bytes → NamesSound told words
names told words bytes are a = record {
  bytes = bytes;
  are = are;
  program = a.program;
  reads = a.admits.reads;
  sound = a.sound;
}

-- the words of what is accepted are about a sound program
pub accepted-names : (told : Option Files) (words : List Text) (text : Text) (status : ℕ)
    → Accepted told words text status → NamesSound told words
accepted-names told words text status (by_search file workers e bytes may k a) =
    names told words bytes (subst (λ (o : Option Order). AreProgram told o bytes) (sym e) may) a
accepted-names told words text status (by_proof file name e bytes may k a) =
    names told words bytes (subst (λ (o : Option Order). AreProgram told o bytes) (sym e) may) a
accepted-names told words text status (by_run file entry state steps waits e bytes may k a) =
    names told words bytes (subst (λ (o : Option Order). AreProgram told o bytes) (sym e) may) a
accepted-names told words text status (by_journal file entry state steps waits e bytes may k a) =
    names told words bytes (subst (λ (o : Option Order). AreProgram told o bytes) (sym e) may) a
accepted-names told words text status (by_demo procedures e k a) =
    names told words (made_text procedures)
    (subst (λ (o : Option Order). AreProgram told o (made_text procedures)) (sym e) refl) a
