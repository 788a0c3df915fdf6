use Rattle.std.proofs.Common.{◌≡◌, ◌<◌, ◌≤◌, ◌∙◌, length, get_or, rules, arith}
use Rattle.std.proofs.lemmas.List.Elements.{Contains-get_or}
use Rattle.std.proofs.lemmas.List.Sorted.{IsPartitionPoint-from_clause}
use Rattle.std.proofs.lemmas.Bool.Decides.{Decides-ltb}
use Rattle.sf_calls.specs.Sets.{is_earlier}
use Rattle.sf_base.proofs.Variables.{same_var-decides}
use Rattle.sf_calls.specs.Checked.Lemmas.Gathered.{earlier_first, at_point}
use Rattle.sf_calls.proofs.set.VarSet.contains.Goals as goal

pub returns-then-at-len : goal.returns-then-at-len
returns-then-at-len c =
    let same : c.args.self.now ≡ c.deref.result.now = search rules in
    let point = IsPartitionPoint-from_clause (λ y. is_earlier y c.args.x) c.deref.result.now _
    c.partition_point-at.ensures.partitioned
    (earlier_first c.deref.result.now c.args.x (rw (same) at c.requires)) (λ a r q k. search rules) in
    let below : c.partition_point-at.result < length c.deref.result.now = omega
    (arith, c.if-at-len.true, c.len.ensures, c.deref.ensures.len) in
    let is : c.index.result.now
    ≡ get_or c.deref.result.now c.partition_point-at.result c.index.result.now = rw
    c.deref.ensures.value c.index.ensures in
    rw (same, c.is_same.ensures) (
      λ e. rw (← (same_var-decides c.index.result.now c.args.x).0 e, is)
          (Contains-get_or c.deref.result.now c.partition_point-at.result c.index.result.now below),
      λ h. (same_var-decides c.index.result.now c.args.x).1
          (is ∙ (at_point c.deref.result.now c.partition_point-at.result c.args.x
          (rw (same) at c.requires) point h).1 c.index.result.now),
    )

pub returns-else-at-len : goal.returns-else-at-len
returns-else-at-len c =
    let same : c.args.self.now ≡ c.deref.result.now = search rules in
    let point = IsPartitionPoint-from_clause (λ y. is_earlier y c.args.x) c.deref.result.now _
    c.partition_point-at.ensures.partitioned
    (earlier_first c.deref.result.now c.args.x (rw (same) at c.requires)) (λ a r q k. search rules) in
    let past : length c.deref.result.now ≤ c.partition_point-at.result =
    omega (arith, c.if-at-len.false, c.len.ensures, c.deref.ensures.len) in (
      λ e. absurd (let below = (Decides-ltb c.partition_point-at.result c.len.result).0 e in
          omega (arith, below, c.if-at-len.false)),
      λ h. absurd
          (let below = (at_point c.deref.result.now c.partition_point-at.result c.args.x
          (rw (same) at c.requires) point (rw (same) at h)).0 in omega (arith, below, past)),
    )
