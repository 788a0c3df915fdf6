use Rattle.std.proofs.Common.{rules, arith, subst, ◌+◌}
use mathlib.Core.Option.{none}
use Rattle.atomic_table.specs.Table.{step}
use Rattle.sf_region.proofs.Asks.{tries-at}
use Rattle.sf_region.specs.Plays.{aimed, tries}
use Rattle.sf_region.proofs.steps.try_word.Goals as goal

pub compare_exchange-requires : goal.compare_exchange-requires
compare_exchange-requires g c = (
  search rules,
  (let w = c.requires.wide in let i = c.requires.index in omega arith),
  tries-at c.part_laws.ensures _ _ _ c.args.seat.now.me c.args.part.now g.N.Aim.parts c.args.r _ (omega arith)
      c.requires.aim c.requires.index c.requires.live c.requires.stands c.requires.outside
      c.requires.unit c.requires.near,
)

pub returns-clause-tries : goal.returns-clause-tries
returns-clause-tries g c = subst (λ z. aimed z (λ a kids.
    tries a (step c.args.shared.now.table_id.slots (c.args.r.0 + 1) 0 1 none) c.args.seat.now.me
    c.compare_exchange.result c.compare_exchange.new.seat.me)) c.requires.aim
    c.compare_exchange.ensures.2
