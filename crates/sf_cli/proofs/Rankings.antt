-- The answer to a file whose resources are ranked: what is fetched of it, that there is one, and only one.
-- Names: ranking-*.
use Rattle.std.proofs.Common.{◌≡◌, ◌∙◌, inl, inr, ℕ, List, Option, Some, ap, refl, sym, subst, arith, length}
use Rattle.sf_base.specs.declared.limits.TheConstants.{FILE_BYTES}
use Rattle.sf_core.specs.Program.Formed.{IsFormed}
use Rattle.sf_core.specs.Program.Syntax.{Program}
use Rattle.sf_elab.specs.Checked.Laws.{ElaboratedIsFormed}
use Rattle.sf_io.specs.Shelf.{Files}
use Rattle.sf_order.specs.Checked.Laws.{EachProgramIsOrdered, ResourcesAreListedOnce}
use Rattle.sf_order.specs.Rank.{AreByRank}
use Rattle.sf_parse.specs.Checked.Laws.{EachFileIsShallow}
use Rattle.sf_cli.proofs.Accepted.{accepted-formed}
use Rattle.sf_cli.proofs.Replies.{long-fault, long-reads}
use Rattle.sf_cli.specs.Answer.{FileAnswer, IsAnswering, RankingFileAnswer, Reply, admitted, admitted_ranking, answer, refused, refused_ranking}
use Rattle.sf_cli.specs.Checked.Fetched.{Fetched, IsUpTo}
use Rattle.sf_cli.specs.Checked.Laws.{EachFileHasAnAnswer, EachFileIsDecided, EachRankingHasAnAnswer, EachRankingHasOneAnswer}
use Rattle.sf_cli.specs.Ranked.{RankingAnswer, cycle_text, in_cycle, ranked, ranks_text}
use Rattle.sf_cli.specs.Refusals.{refusal_text}
use Rattle.sf_words.specs.Words.{Text, ranking}

-- the answer to what was fetched is that to the file
ranking-fetched : (out bytes text : Text) (status : ℕ) → IsUpTo FILE_BYTES bytes out
    → RankingFileAnswer out text status → RankingFileAnswer bytes text status
ranking-fetched out bytes text status (inl e) a = subst (λ (z : Text). RankingFileAnswer z text status) e a
ranking-fetched out bytes text status (inr m) (refused_ranking r f t s) =
    refused_ranking r (long-fault out bytes r f m.0 m.1) t s
ranking-fetched out bytes text status (inr m) (admitted_ranking p a k) = absurd (long-reads out p a.reads m.0)

-- its status is one of an answer
pub ranking-status : (bytes text : Text) (status : ℕ) → RankingFileAnswer bytes text status → IsAnswering status
ranking-status bytes text status (refused_ranking r f t s) = inl (omega (arith, s))
ranking-status bytes text status (admitted_ranking p a (ranked ranks rs k l t s)) = inl (omega (arith, s))
ranking-status bytes text status (admitted_ranking p a (in_cycle xs k t s)) =
    inr (omega (arith, s), omega (arith, s))

pub ranking-reply : (told : Option Files) (before after : Text → ℕ) (file out text : Text) (status : ℕ)
    → Fetched FILE_BYTES told file out → RankingFileAnswer out text status
    → Reply told before after (Some (ranking file)) text status
ranking-reply told before after file out text status f a =
    answer (ranking-status out text status a)
    (f.bytes, f.may_have, ranking-fetched out f.bytes text status f.is a)

-- a program has an answer
ranking-program : ResourcesAreListedOnce → EachProgramIsOrdered → (p : Program) → IsFormed p
    → (text : Text) × (status : ℕ) × RankingAnswer p text status
ranking-program lists orders p formed = elim ((orders p formed).some) [
  | inl f ↦
      let rs = (lists (length p.resources) f.0).some f.1.each f.2 in
      (ranks_text p f.0 rs.0, 0, ranked f.0 rs.0 f.1 rs.1 refl refl)
  | inr f ↦ (cycle_text p f.0, 12, in_cycle f.0 f.1 refl refl)
]

-- so has a file
pub ranking-some : EachFileHasAnAnswer → EachFileIsShallow → ElaboratedIsFormed → EachProgramIsOrdered
    → ResourcesAreListedOnce → EachRankingHasAnAnswer
ranking-some each shallow formed orders lists bytes = go (each bytes).0 (each bytes).1 (each bytes).2
  where
    go : (text : Text) (status : ℕ) → FileAnswer bytes text status
        → (said : Text) × (code : ℕ) × RankingFileAnswer bytes said code
    go text status (refused r f t s) = (refusal_text r, 3, refused_ranking r f refl refl)
    go text status (admitted p a k) =
        let found = ranking-program lists orders p (accepted-formed shallow formed bytes p a.reads) in
        (found.0, found.1, admitted_ranking p a found.2)

-- a program has one answer
ranking-one_program : ResourcesAreListedOnce → EachProgramIsOrdered → (p : Program) → IsFormed p
    → (text other : Text) (status code : ℕ) → RankingAnswer p text status → RankingAnswer p other code
    → (text ≡ other) × (status ≡ code)
ranking-one_program lists orders p formed text other status code (ranked ranks rs k l t s) (ranked others qs h m u v) =
    let same : others ≡ ranks = (orders p formed).ranks others ranks h k in
    let lines : qs ≡ rs = (lists (length p.resources) ranks).one qs rs
    (subst (λ (z : List ℕ). AreByRank (length p.resources) z qs) same m) l in (
      t ∙ sym (u ∙ ap (λ (z : List ℕ). ranks_text p z qs) same ∙ ap (ranks_text p ranks) lines),
      s ∙ sym v,
    )
ranking-one_program lists orders p formed text other status code (ranked ranks rs k l t s) (in_cycle xs h u v) =
    absurd ((orders p formed).apart ranks xs k h)
ranking-one_program lists orders p formed text other status code (in_cycle xs h t s) (ranked ranks rs k l u v) =
    absurd ((orders p formed).apart ranks xs k h)
ranking-one_program lists orders p formed text other status code (in_cycle xs h t s) (in_cycle ys k u v) =
    (t ∙ ap (cycle_text p) ((orders p formed).cycles xs ys h k) ∙ sym u, s ∙ sym v)

-- so has a file
pub ranking-one : EachFileIsDecided → EachFileIsShallow → ElaboratedIsFormed → EachProgramIsOrdered
    → ResourcesAreListedOnce → EachRankingHasOneAnswer
ranking-one decided shallow formed orders lists bytes text other status code (refused_ranking r f t s)
    (refused_ranking q g u v) =
    (t ∙ ap refusal_text ((decided bytes).causes r q f g) ∙ sym u, s ∙ sym v)
ranking-one decided shallow formed orders lists bytes text other status code (refused_ranking r f t s)
    (admitted_ranking p a k) =
    absurd ((decided bytes).apart p r a f)
ranking-one decided shallow formed orders lists bytes text other status code (admitted_ranking p a k)
    (refused_ranking r f t s) =
    absurd ((decided bytes).apart p r a f)
ranking-one decided shallow formed orders lists bytes text other status code (admitted_ranking p a k)
    (admitted_ranking q b h) =
    let same : q ≡ p = (decided bytes).programs q p b a in
    ranking-one_program lists orders p (accepted-formed shallow formed bytes p a.reads) text other status code k
    (subst (λ (z : Program). RankingAnswer z other code) same h)
