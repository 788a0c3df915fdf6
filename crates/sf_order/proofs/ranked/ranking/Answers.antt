use Rattle.std.proofs.Common.{◌≡◌, ◌<◌, ◌∙◌, ℕ, All, length, sym, subst, rules}
use Rattle.std.proofs.lemmas.List.{length-map}
use Rattle.std.proofs.lemmas.List.Elements.{All-contains}
use Rattle.sf_core.specs.Program.ProgramView.{program_of}
use Rattle.sf_core.specs.Program.View.{resource_of}
use Rattle.sf_order.specs.Answers.{AreBelow}
use Rattle.sf_order.specs.Nests.{IsPair, Nests}
use Rattle.sf_order.specs.Rank.{IsRanking, Rises}
use Rattle.sf_order.proofs.Rising.{level-pair, ranking-rises}
use Rattle.sf_order.proofs.Rows.{pairs-below}
use Rattle.sf_order.proofs.Walks.{cause-same, ranking-same}
use Rattle.sf_order.proofs.ranked.ranking.Goals as goal

pub rank-requires : goal.rank-requires
rank-requires c =
    let len : length c.args.p.now.resources.items ≡ c.len.result = search rules in
    let size : length (program_of c.args.p.now).resources ≡ c.len.result =
    length-map c.args.p.now.resources.items resource_of ∙ len in
    subst (λ (n : ℕ). AreBelow n c.in_ok-pairs.pairs) size
    (pairs-below (program_of c.args.p.now) c.args.p.now.formed c.in_ok-pairs.pairs c.in_ok-pairs.ensures)

pub check_ranks-requires : goal.check_ranks-requires
check_ranks-requires c =
    let len : length c.args.p.now.resources.items ≡ c.len.result = search rules in
    let size : length (program_of c.args.p.now).resources ≡ length c.in-Ok.ranks =
    length-map c.args.p.now.resources.items resource_of ∙ len ∙ sym (c.in-Ok.ensures.answer).each in
    subst (λ (n : ℕ). AreBelow n c.in_ok-pairs.pairs) size
    (pairs-below (program_of c.args.p.now) c.args.p.now.formed c.in_ok-pairs.pairs c.in_ok-pairs.ensures)

pub returns-in-Ok-check_ranks-clause-answer : goal.returns-in-Ok-check_ranks-clause-answer
returns-in-Ok-check_ranks-clause-answer c =
    let len : c.len.result ≡ length c.args.p.now.resources.items = search rules in
    subst (λ (n : ℕ). IsRanking (Nests (program_of c.args.p.now)) n c.in-Ok.ranks) len
    (ranking-same (IsPair c.in_ok-pairs.pairs) (Nests (program_of c.args.p.now))
    (λ r s. (c.in_ok-pairs.ensures).members (r, s)) c.len.result c.in-Ok.ranks c.in-Ok.ensures.answer)

pub returns-in-Ok-check_ranks-clause-low : goal.returns-in-Ok-check_ranks-clause-low
returns-in-Ok-check_ranks-clause-low c =
    let len : c.len.result ≡ length c.args.p.now.resources.items = search rules in
    subst (λ (n : ℕ). All (λ rank. rank < n) c.in-Ok.ranks) len c.in-Ok.ensures.low

pub unreachable-requires : goal.unreachable-requires
unreachable-requires c =
    let len : length c.args.p.now.resources.items ≡ c.len.result = search rules in
    let size : length (program_of c.args.p.now).resources ≡ c.len.result =
    length-map c.args.p.now.resources.items resource_of ∙ len in
    let below = subst (λ (n : ℕ). AreBelow n c.in_ok-pairs.pairs) size
    (pairs-below (program_of c.args.p.now) c.args.p.now.formed c.in_ok-pairs.pairs c.in_ok-pairs.ensures) in
    let rises = ranking-rises c.in_ok-pairs.pairs c.len.result c.in-Ok.ranks below c.in-Ok.ensures.answer in
    (c.in-Err-check_ranks.ensures).level
    (All-contains (Rises c.in-Ok.ranks) c.in_ok-pairs.pairs c.in-Err-check_ranks.field-0 rises
    (level-pair c.in-Ok.ranks c.in_ok-pairs.pairs c.in-Err-check_ranks.field-0 c.in-Err-check_ranks.ensures))

pub returns-clause-answer : goal.returns-clause-answer
returns-clause-answer c =
    cause-same (IsPair c.in_ok-pairs.pairs) (Nests (program_of c.args.p.now))
    (λ r s. (c.in_ok-pairs.ensures).members (r, s)) c.in-Err.fault c.in-Err.ensures.answer
