-- A part of the code as the part of the definitions, and that it is a program's.
-- Apart from the views of its pieces, since what the part keeps cites those.
use Rattle.std.specs.Prelude.{◌≡◌, ◌+◌, ◌≤◌, true, length, replicate, vec_len, vec_capacity}
use Rattle.sf_base.specs.declared.value.Value.TheVariants.{Nil as nil}
use Rattle.sf_core.specs.Program.Syntax.{Program}
use Rattle.sf_foot.specs.Starting.{HasWidth}
use Rattle.sf_part.specs.declared.part.Part.{Part}
use Rattle.sf_part.specs.Of.{IsOf}
use Rattle.sf_part.specs.Parts.{part_with}
use Rattle.sf_part.specs.Timed.{TimedPart}

-- the part
abbrev pub part_of : Part → TimedPart
part_of a = part_with a.task a.stand a.shared a.supply a.clock a.keeps a.log.items a.given

-- a part of the code is a program's: its cells have the program's fields too, and so has the cell
-- that the next `new` makes, which are nil
pub record IsPartOf (p : Program) (a : Part) : Type 0 where
  pub is : IsOf p (part_of a).part
  pub wide : HasWidth (length p.fields) a.shared.heap
  pub blank : a.blank ≡ replicate (length p.fields) nil

-- where the part keeps a log, there is room in it for one event more
abbrev pub HasLogRoom : Part → Type 0
HasLogRoom a = a.keeps ≡ true → vec_len a.log + 1 ≤ vec_capacity a.log
