-- From the bytes that were fetched to the answer over the files of a shelf.
-- Names: fetched-*, reply-*.
use Rattle.std.proofs.Common.{◌≡◌, ◌≤◌, ◌<◌, inl, inr, ℕ, nat_lt, Bool, true, false, List, [], ◌++◌, length, take, Option, Some, None, refl, sym, subst, arith, length-take}
use Rattle.std.proofs.lemmas.Bool.{ltb-true, ltb-false}
use Rattle.std.proofs.lemmas.List.{take_all}
use Rattle.std.specs.declared.result.Result.{Result}
use Rattle.std.specs.declared.result.Result.TheVariants.{Ok, Err}
use Rattle.std.specs.Prelude.{IfOk, IfSome, IsSomeAnd}
use Rattle.sf_cli.specs.declared.reply.Said.{Said}
use Rattle.sf_base.specs.declared.limits.TheConstants.{FILE_BYTES, PROOF_BYTES}
use Rattle.sf_io.specs.Increased.{Increased}
use Rattle.sf_io.specs.Shelf.{Files}
use Rattle.sf_core.specs.Program.Syntax.{Program}
use Rattle.sf_lex.specs.declared.fault.LexFault.{LexFault}
use Rattle.sf_lex.specs.declared.fault.LexFault.TheVariants as l
use Rattle.sf_lex.specs.declared.token.Token.{Token}
use Rattle.sf_lex.specs.Reading.{AreTokens, IsFault as IsTokenFault}
use Rattle.sf_cli.specs.Answer.{AreAdmitted, FileAnswer, OrderAnswer, ProofFileAnswer, Reaches, RecheckAnswer, Reply, VerdictAnswer, admitted, answer, file_refused, read_fault_text, rechecked, refused}
use Rattle.sf_cli.specs.Answer.{unread as unread_file}
use Rattle.sf_cli.specs.declared.refusal.Refusal.{Refusal}
use Rattle.sf_cli.specs.FileFault.{FileFault, unread, unfit, in_tokens, in_grammar, in_names}
use Rattle.sf_cli.specs.Reads.{Reads}
use Rattle.sf_cli.specs.Checked.Fetched.{IsUpTo, Fetched}
use Rattle.sf_cli.specs.Rechecked.{ProofAnswer, accepted, in_tags, in_text, rejected}
use Rattle.sf_words.specs.Words.{Text, Order, recheck, verify}
use Rattle.sf_cli.specs.Usage.{usage_text}
use Rattle.sf_proof.specs.declared.fault.ProofFault.TheVariants as f
use Rattle.sf_search.specs.Judge.{Verdict, fails, proof}

all_of : (most : ℕ) (out : Text) → length out ≤ most → take most out ≡ out
all_of most out h = take_all most out h

-- the first bytes of a file, more of them than it may have, are all of it, or it has more than that
pub fetched-prefix : (limit most : ℕ) → limit < most → (file : Text) → IsUpTo limit file (take most file)
fetched-prefix limit most m file = go (nat_lt limit (length file)) refl
  where
    go : (b : Bool) → nat_lt limit (length file) ≡ b → IsUpTo limit file (take most file)
    go true e =
        let more : limit < length file = ltb-true limit (length file) e in
        inr (omega (arith, length-take most file), more)
    go false e = inl (all_of most file (omega (arith, ltb-false limit (length file) e)))

told_file : (limit most : ℕ) → limit < most → (all : Files) (name out : Text) (o : Option Text) → all name ≡ o → IsSomeAnd o (λ bytes. out ≡ [] ++ take most bytes) → Fetched limit (Some all) name out
told_file limit most m all name out None e h = absurd h
told_file limit most m all name out (Some bytes) e h =
    record { bytes = bytes; may_have = e; is = subst (λ (z : Text). IsUpTo limit bytes z) (sym h) (fetched-prefix limit most m bytes) }

-- what an Ok of a fetch of more bytes than the limit tells
pub fetched-ok : (limit most : ℕ) → limit < most → (told : Option Files) (name old out : Text) → old ≡ []
    → IfSome told (λ all. IsSomeAnd (all name) (λ bytes. out ≡ old ++ take most bytes)) → Fetched limit told name out
fetched-ok limit most m None name old out n t = record { bytes = out; may_have = tt; is = inl refl }
fetched-ok limit most m (Some all) name old out n t =
    told_file limit most m all name out (all name) refl (subst (λ (z : Text). IsSomeAnd (all name) (λ bytes. out ≡ z ++ take most bytes)) n t)

-- what reads of bytes reads of no longer file than one may have
pub long-reads : (bytes : Text) (p : Program) → Reads bytes p → FILE_BYTES < length bytes → ⊥
long-reads bytes p r l = let short : length bytes ≤ FILE_BYTES = r.spelled.short in absurd (omega arith)

-- a file that is too long has that fault and no other
long-token_fault : (bytes file : Text) (e : LexFault) → IsTokenFault bytes e → FILE_BYTES < length bytes → FILE_BYTES < length file → IsTokenFault file e
long-token_fault bytes file (l.BadByte p) h m n = let short : length bytes ≤ FILE_BYTES = h.short in absurd (omega arith)
long-token_fault bytes file (l.LongWord p) h m n = let short : length bytes ≤ FILE_BYTES = h.short in absurd (omega arith)
long-token_fault bytes file (l.OpenComment p) h m n = let short : length bytes ≤ FILE_BYTES = h.short in absurd (omega arith)
long-token_fault bytes file (l.BadNumber p) h m n = let short : length bytes ≤ FILE_BYTES = h.short in absurd (omega arith)
long-token_fault bytes file l.LongFile h m n = n
long-token_fault bytes file l.OutOfMemory h m n = absurd h

long-tokens : (bytes : Text) (ts : List Token) → AreTokens bytes ts → FILE_BYTES < length bytes → ⊥
long-tokens bytes ts t m = let short : length bytes ≤ FILE_BYTES = t.short in absurd (omega arith)

pub long-fault : (bytes file : Text) (r : Refusal) → FileFault bytes r → FILE_BYTES < length bytes → FILE_BYTES < length file → FileFault file r
long-fault bytes file r (unread (in_tokens e h k)) m n = unread (in_tokens e (long-token_fault bytes file e h m n) k)
long-fault bytes file r (unread (in_grammar ts e t h k)) m n = absurd (long-tokens bytes ts t m)
long-fault bytes file r (unread (in_names ts tree e t f h k)) m n = absurd (long-tokens bytes ts t m)
long-fault bytes file r (unfit p h k) m n = absurd (long-reads bytes p h m)

-- the answer to what was fetched is that to the file
pub fetched-answer : (out bytes text : Text) (status : ℕ) → IsUpTo FILE_BYTES bytes out → FileAnswer out text status → FileAnswer bytes text status
fetched-answer out bytes text status (inl e) a = subst (λ (z : Text). FileAnswer z text status) e a
fetched-answer out bytes text status (inr m) (refused r f t s) = refused r (long-fault out bytes r f m.0 m.1) t s
fetched-answer out bytes text status (inr m) (admitted p a k) = absurd (long-reads out p a.reads m.0)

-- what is admitted of what was fetched is admitted of the file
fetched-admits : (out bytes : Text) → IsUpTo FILE_BYTES bytes out → AreAdmitted out → AreAdmitted bytes
fetched-admits out bytes (inl e) a = subst AreAdmitted e a
fetched-admits out bytes (inr m) a = absurd (long-reads out a.0 a.1.reads m.0)

-- the text of a proof that is too long has that fault and no other
long-proof : (p : Program) (out given text : Text) (status : ℕ) → PROOF_BYTES < length out → PROOF_BYTES < length given
    → ProofAnswer p out text status → ProofAnswer p given text status
long-proof p out given text status m n (accepted i t s) =
    let short : length out ≤ PROOF_BYTES = i.reads.short in absurd (omega arith)
long-proof p out given text status m n (rejected r (in_text (f.BadLine line) h k) t s) =
    let short : length out ≤ PROOF_BYTES = h.short in absurd (omega arith)
long-proof p out given text status m n (rejected r (in_text f.TooLong h k) t s) =
    rejected r (in_text f.TooLong n k) t s
long-proof p out given text status m n (rejected r (in_text f.OutOfMemory h k) t s) = absurd h
long-proof p out given text status m n (rejected r (in_tags d lined number why own h i k) t s) =
    let short : length out ≤ PROOF_BYTES = h.short in absurd (omega arith)

-- the answer to what was fetched of a proof's text is that to the text
fetched-proof : (p : Program) (out given text : Text) (status : ℕ) → IsUpTo PROOF_BYTES given out
    → ProofAnswer p out text status → ProofAnswer p given text status
fetched-proof p out given text status (inl e) a = subst (λ (z : Text). ProofAnswer p z text status) e a
fetched-proof p out given text status (inr m) a = long-proof p out given text status m.0 m.1 a

pub fetched-proof_file : (told : Option Files) (p : Program) (name out text : Text) (status : ℕ)
    → Fetched PROOF_BYTES told name out → ProofAnswer p out text status → ProofFileAnswer told p name text status
fetched-proof_file told p name out text status f a =
    (f.bytes, f.may_have, fetched-proof p out f.bytes text status f.is a)

-- the same of what is said of a proof for what was fetched of the program's file
fetched-recheck : (told : Option Files) (out bytes name text : Text) (status : ℕ) → IsUpTo FILE_BYTES bytes out
    → RecheckAnswer told out name text status → RecheckAnswer told bytes name text status
fetched-recheck told out bytes name text status (inl e) a =
    subst (λ (z : Text). RecheckAnswer told z name text status) e a
fetched-recheck told out bytes name text status (inr m) (file_refused r f t s) =
    file_refused r (long-fault out bytes r f m.0 m.1) t s
fetched-recheck told out bytes name text status (inr m) (rechecked p a k) = absurd (long-reads out p a.reads m.0)

-- the statuses of a verdict, of a file's answer, and of a proof's
verdict-status : (p : Program) (v : Verdict) (text : Text) (status : ℕ) → VerdictAnswer p v text status → status < 7
verdict-status p (proof tags) text status a = let is = a.1 in omega (arith, is)
verdict-status p (fails g why) text status a = let is = a.1 in omega (arith, is)

pub file-status : (bytes text : Text) (status : ℕ) → FileAnswer bytes text status → status < 7
file-status bytes text status (refused r h t s) = omega (arith, s)
file-status bytes text status (admitted p a k) = verdict-status p k.verdict text status k.said

pub proof-status : (p : Program) (given text : Text) (status : ℕ) → ProofAnswer p given text status
    → status < 7
proof-status p given text status (accepted i t s) = omega (arith, s)
proof-status p given text status (rejected r h t s) = omega (arith, s)

-- words that are no command, or one that isn't followed yet, are answered with the usage
pub reply-usage : (told : Option Files) (before after : Text → ℕ) (order : Option Order) (text : Text) (status : ℕ)
    → order ≡ None → text ≡ usage_text → status ≡ 2 → Reply told before after order text status
reply-usage told before after order text status n t s = answer (inl (omega (arith, s))) (usage order n)
  where
    usage : (o : Option Order) → o ≡ None → OrderAnswer told o text status
    usage None e = (t, s)
    usage (Some o) e = absurd (cc)

pub reply-later : (told : Option Files) (before after : Text → ℕ) (order : Order) (text : Text) (status : ℕ)
    → OrderAnswer told (Some order) text 2 → status ≡ 2 → Reply told before after (Some order) text status
reply-later told before after order text status a s =
    answer (inl (omega (arith, s))) (subst (λ (n : ℕ). OrderAnswer told (Some order) text n) (sym s) a)

-- a file that is verified is answered with what is due to it
pub reply-verify : (told : Option Files) (before after : Text → ℕ) (file out text : Text) (workers status : ℕ)
    → Fetched FILE_BYTES told file out → FileAnswer out text status
    → Reply told before after (Some (verify file workers)) text status
reply-verify told before after file out text workers status f a =
    answer (inl (file-status out text status a)) (f.bytes, f.may_have, fetched-answer out f.bytes text status f.is a)

-- a file that the work came to can't be read
pub reply-unread : (told : Option Files) (before after : Text → ℕ) (order : Option Order) (name text : Text)
    (status : ℕ) → Reaches told order name → Increased (before name) (after name) → text ≡ read_fault_text name
    → status ≡ 7 → Reply told before after order text status
reply-unread told before after order name text status reached increased is seven =
    unread_file seven (record { name = name; reached = reached; increased = increased; text_is = is })

-- a count that increased in a later call increased in both together
pub increased-later : (before mid after : ℕ) → before ≤ mid → Increased mid after → Increased before after
increased-later before mid after l (inl m) = inl (omega (arith, l, m))
increased-later before mid after l (inr m) = inr m

-- a proof that is checked is answered with what is due to it, or its text can't be read
pub reply-recheck : (told : Option Files) (before mid after : Text → ℕ) (file name out text : Text) (status : ℕ)
    → Fetched FILE_BYTES told file out → ((any : Text) → before any ≤ mid any) → status < 8
    → (status < 7 → RecheckAnswer told out name text status)
    → (status ≡ 7 → AreAdmitted out × Increased (mid name) (after name) × (text ≡ read_fault_text name))
    → Reply told before after (Some (recheck file name)) text status
reply-recheck told before mid after file name out text status f counts l a u = go (nat_lt status 7) refl
  where
    go : (b : Bool) → nat_lt status 7 ≡ b → Reply told before after (Some (recheck file name)) text status
    go true h =
        let less : status < 7 = ltb-true status 7 h in
        answer (inl less) (f.bytes, f.may_have, fetched-recheck told out f.bytes name text status f.is (a less))
    go false h =
        let more : 7 ≤ status = ltb-false status 7 h in
        let is : status ≡ 7 = omega (arith, l, more) in
        let (admits, increased, said) = u is in
        reply-unread told before after (Some (recheck file name)) name text status
        (inr (refl, (f.bytes, f.may_have, fetched-admits out f.bytes f.is admits)))
        (increased-later (before name) (mid name) (after name) (counts name) increased) said is

-- the work comes to a proof's file where what was fetched of the program's is admitted
pub reaches-proof : (told : Option Files) (file name out other : Text) → Fetched FILE_BYTES told file out
    → (other ≡ name) × AreAdmitted out → Reaches told (Some (recheck file name)) other
reaches-proof told file name out other f (e, a) =
    inr (e, (f.bytes, f.may_have, fetched-admits out f.bytes f.is a))

-- the same of an answer that may be that memory ran out; the shelf's files are those before
pub ok-reply : {E : Type 0} (r : Result Said E) (told now : Option Files) → now ≡ told
    → (before mid after : Text → ℕ) (file name out : Text) → Fetched FILE_BYTES told file out
    → ((any : Text) → before any ≤ mid any) → IfOk r (λ said. said.status < 8)
    → IfOk r (λ said. said.status < 7 → RecheckAnswer now out name said.text.items said.status)
    → IfOk r (λ said. said.status ≡ 7 → AreAdmitted out × Increased (mid name) (after name)
    × (said.text.items ≡ read_fault_text name))
    → IfOk r (λ said. Reply told before after (Some (recheck file name)) said.text.items said.status)
ok-reply (Err e) told now same before mid after file name out f counts l a u = tt
ok-reply (Ok said) told now same before mid after file name out f counts l a u =
    reply-recheck told before mid after file name out said.text.items said.status f counts l
    (λ less. subst (λ (z : Option Files). RecheckAnswer z out name said.text.items said.status) same (a less)) u
