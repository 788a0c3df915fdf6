-- What a task spends that goes on, and that a fork halves what it has.
-- Names: those of the laws' functions.
use Rattle.std.specs.Prelude.{◌≤◌, ℕ, [], length}
use Rattle.std.proofs.Common.{ap, arith, length-append}
use Rattle.sf_core.specs.Machine.Config.{runs, waits}
use Rattle.sf_core.specs.Machine.Next.{next}
use Rattle.sf_core.specs.Machine.Whole.{numbers}
use Rattle.sf_core.specs.Program.Syntax.{Program}
use Rattle.sf_part.proofs.Beside.{takes-fork, takes-join, takes-one, takes-halves}
use Rattle.sf_part.specs.Checked.LawsOfGoing.{ForksHalve, GoingSpends}
use Rattle.sf_part.specs.Going.{GoesTo, stays, steps, enters, leaves, forks}
use Rattle.sf_part.specs.Timed.{TimedPart}

-- how many units a part has
abbrev left : TimedPart → ℕ
left a = length (numbers a.part.supply)

spends : (p : Program) (a b : TimedPart) → GoesTo p a b → left b ≤ left a
spends p a b (stays same) = let e = ap left same in omega (arith, e)
spends p a c (steps {b = b} event before keeps of e) =
    let h = spends p a b before in
    let u = ap length (takes-one event (next (runs e.frames)) (numbers b.part.supply)
    (numbers c.part.supply) e.spends) in
    omega (arith, h, u)
spends p a c (enters {b = b} event k before e of) =
    let h = spends p a b before in
    let u = ap length (takes-one event (next (runs e.frames)) (numbers b.part.supply)
    (numbers c.part.supply) e.spends) in
    omega (arith, h, u)
spends p a c (leaves {b = b} event k before e) =
    let h = spends p a b before in
    let x = e.exits in
    let u = ap length (takes-one event (next (runs x.frames)) (numbers b.part.supply)
    (numbers (x.both).supply) x.spends) in
    let same = ap (λ z. length (numbers z)) (x.hand).supply in
    omega (arith, h, u, same)
spends p a c (forks {b = b} event later waiting one two left_one right_one before keeps of e go_left go_right j) =
    let h = spends p a b before in
    let x = e.forks in
    let u = ap length (takes-fork event (next (runs x.frames)) (numbers b.part.supply)
    (numbers one.part.supply) (numbers two.part.supply) x.fork x.spends) in
    let v = length-append (numbers one.part.supply) (numbers two.part.supply) in
    let l = spends p one left_one go_left in
    let r = spends p two right_one go_right in
    let w = ap length (takes-join later (next (waits j.frames (runs []) (runs [])))
    (numbers left_one.part.supply) (numbers right_one.part.supply) (numbers c.part.supply)
    j.spends) in
    let m = length-append (numbers left_one.part.supply) (numbers right_one.part.supply) in
    omega (arith, h, u, v, l, r, w, m)

pub going_spends : GoingSpends
unfolding GoingSpends
going_spends p a b go = spends p a b go

pub forks_halve : ForksHalve
unfolding ForksHalve
forks_halve p event a b one two e = takes-halves event (next (runs e.frames))
    (numbers a.part.supply) (numbers one.part.supply) (numbers two.part.supply) e.fork e.spends
