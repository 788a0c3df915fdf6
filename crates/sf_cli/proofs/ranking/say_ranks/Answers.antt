use Rattle.std.proofs.Common.{◌≡◌, ◌<◌, ◌∙◌, ℕ, get_or, length, refl, subst, sym, rules, arith}
use Rattle.std.proofs.lemmas.List.{length-map}
use Rattle.std.proofs.lemmas.List.Elements.{All-contains_itself}
use Rattle.sf_core.specs.Program.ProgramView.{program_of}
use Rattle.sf_core.specs.Program.View.{resource_of}
use Rattle.sf_order.specs.Nests.{Nests}
use Rattle.sf_order.specs.Rank.{AreByRank, IsRanking}
use Rattle.sf_cli.specs.Ranked.{ranked}
use Rattle.sf_cli.proofs.ranking.say_ranks.Goals as goal

pub put_ranks-requires : goal.put_ranks-requires
put_ranks-requires c =
    let len : c.len.result ≡ length c.args.p.now.resources.items = search rules in
    rw c.deref.ensures.value (λ k d l.
    let few : (get_or c.in_ok-rs.rs.items k d).0 < c.len.result =
    ((c.in_ok-rs.ensures).members (get_or c.in_ok-rs.rs.items k d)).0 (All-contains_itself c.in_ok-rs.rs.items k d l) in
    omega (arith, few, len, c.requires.ranks.each))

pub returns : goal.returns
returns c =
    let size : length c.args.p.now.resources.items ≡ length (program_of c.args.p.now).resources =
    sym (length-map c.args.p.now.resources.items resource_of) in
    let len : c.len.result ≡ length c.args.p.now.resources.items = search rules in
    ranked c.args.ranks.now c.in_ok-rs.rs.items
    (subst (λ (n : ℕ). IsRanking (Nests (program_of c.args.p.now)) n c.args.ranks.now) size c.requires.ranks)
    (subst (λ (n : ℕ). AreByRank n c.args.ranks.now c.in_ok-rs.rs.items) (len ∙ size) c.in_ok-rs.ensures)
    (rw (c.in_ok-put_ranks.ensures, c.in_ok-text.ensures.items, c.deref.ensures.value) refl) refl
