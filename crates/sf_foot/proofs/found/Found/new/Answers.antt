use Rattle.std.proofs.Common.{ap, nat_cmp}
use Rattle.std.specs.BTreeMap.{is_at}
use Rattle.std.specs.List.{list_any}
use Rattle.sf_foot.proofs.Founds.{next_nothing}
use Rattle.sf_foot.proofs.found.Found.new.Goals as goal

pub returns-clause-apart : goal.returns-clause-apart
returns-clause-apart c = next_nothing (record { parts = c.new.result; taken = c.new-2.result })
    c.new.ensures.items
    (λ l. ap (λ ks. list_any (is_at (nat_cmp l)) ks) c.new-2.ensures.empty)
