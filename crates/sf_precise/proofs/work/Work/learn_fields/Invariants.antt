use Rattle.std.proofs.Common.{take}
use Rattle.sf_precise.specs.Checked.Outer.{field_existentials}
use Rattle.sf_precise.specs.Checked.Work.{Learns}
use Rattle.sf_precise.proofs.work.Work.learn_fields.Given as goal

-- those so far became known
abbrev pub invariant-loop-f : goal.invariant-loop-f
invariant-loop-f l = Learns (field_existentials (take l.f-index l.fields)) l.initial.self l.self
