use Rattle.std.proofs.Common.{◌∙◌, nat_lt, sym, ap, rules, arith}
use Rattle.std.proofs.lemmas.List.{get_or_default}
use Rattle.std.proofs.lemmas.List.Sorted.{IsPartitionedBy-ltb, IsPartitionPoint-from_clause}
use Rattle.sf_sym.proofs.Searched.{index-found, index-none, rising-ordered}
use Rattle.sf_sym.specs.declared.atom.Numbered.{Numbered}
use Rattle.sf_sym.proofs.parts.index_of.Goals as goal
use Rattle.sf_sym.proofs.parts.index_of.Goals.{else-i-parts-via-then-i-parts+else-parts-i, else-i-parts-via-else-i-parts}

pub returns-then-parts-i-clause-place : goal.returns-then-parts-i-clause-place
returns-then-parts-i-clause-place c =
    let xs = c.args.parts.now in
    let point = IsPartitionPoint-from_clause (λ (y : Numbered). nat_lt y.number c.args.a) xs _
    c.partition_point-i.ensures.partitioned
    (IsPartitionedBy-ltb (λ (y : Numbered). y.number) xs c.args.a (rising-ordered xs c.requires))
    (λ a r q k. search rules) in
    index-found c.args.a xs c.partition_point-i.result point c.index-parts-i.result c.if-i-parts.true
    c.index-parts-i.is (search rules)

pub returns-else-i-parts-clause-place : goal.returns-else-i-parts-clause-place
returns-else-i-parts-clause-place c =
    let xs = c.args.parts.now in
    let point = IsPartitionPoint-from_clause (λ (y : Numbered). nat_lt y.number c.args.a) xs _
    c.partition_point-i.ensures.partitioned
    (IsPartitionedBy-ltb (λ (y : Numbered). y.number) xs c.args.a (rising-ordered xs c.requires))
    (λ a r q k. search rules) in
    index-none c.args.a xs c.partition_point-i.result point c.requires (λ x lt is e. elim c.else-i-parts.branch [
      | else-i-parts-via-then-i-parts+else-parts-i w ↦
          w.if-parts-i.false (ap (λ (y : Numbered). y.number)
          (get_or_default xs c.partition_point-i.result w.index-parts-i.result x lt ∙ sym is) ∙ e)
      | else-i-parts-via-else-i-parts w ↦ absurd (omega (arith, lt, w.if-i-parts.false))
    ])
