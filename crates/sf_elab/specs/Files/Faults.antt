-- What can be wrong with names, and which fault is the first: by line, by column, and at one place by its kind.
-- This project's own kinds of faults.
use Rattle.std.specs.Prelude.{ℕ, Bool, ◌&&◌, ◌||◌, ◌==◌, nat_lt, if◌then◌else◌, List, [], ◌∷◌}
use Rattle.sf_base.specs.declared.place.Place.{Place}
use Rattle.sf_base.specs.First.{is_before}
use Rattle.sf_core.specs.Program.Init.{init_name}
use Rattle.sf_core.specs.Program.Links.{next_name, back_name, left_name, right_name}
use Rattle.sf_elab.specs.declared.fault.Fault.{Fault}
use Rattle.sf_elab.specs.declared.fault.Fault.TheVariants as f
use Rattle.sf_elab.specs.declared.fault.Link.{Link}
use Rattle.sf_elab.specs.declared.fault.Link.TheVariants.{Next, Back, Left, Right}
use Rattle.sf_elab.specs.declared.fault.NameFault.{NameFault}
use Rattle.sf_elab.specs.declared.fault.NameFault.TheVariants as n
use Rattle.sf_elab.specs.Names.Texts.{text}

-- the name of a field that predicates follow
abbrev pub link_name : Link → List ℕ
link_name Next = next_name
link_name Back = back_name
link_name Left = left_name
link_name Right = right_name

-- where a fault is
abbrev pub place_of : Fault → Place
place_of (f.Unknown w) = w.place
place_of (f.Twice w) = w.place
place_of (f.Arity w) = w.place
place_of (f.OwnedTwice w) = w.place
place_of (f.Foreign w) = w.place
place_of (f.Missing p l) = p
place_of (f.TooMany p) = p
place_of (f.InitShape p) = p
place_of (f.InitCalled w) = w.place

-- the number of its kind
abbrev pub kind_of : Fault → ℕ
kind_of (f.Unknown w) = 20
kind_of (f.Twice w) = 21
kind_of (f.Arity w) = 22
kind_of (f.OwnedTwice w) = 23
kind_of (f.Foreign w) = 24
kind_of (f.Missing p l) = 25
kind_of (f.TooMany p) = 26
kind_of (f.InitShape p) = 28
kind_of (f.InitCalled w) = 29

-- whether it is the same place
abbrev pub is_same_place : Place → Place → Bool
is_same_place p q = (p.line == q.line) && (p.column == q.column)

-- whether a fault comes before another: it is earlier, or at the same place and is of a lower kind
abbrev pub is_earlier : Fault → Fault → Bool
is_earlier a b = is_before (place_of a) (place_of b)
    || (is_same_place (place_of a) (place_of b) && nat_lt (kind_of a) (kind_of b))

-- the fault with its name, as it is answered
abbrev pub named_fault : List ℕ → Fault → NameFault
named_fault bytes (f.Unknown w) = n.UnknownName w.place (text bytes w)
named_fault bytes (f.Twice w) = n.Twice w.place (text bytes w)
named_fault bytes (f.Arity w) = n.Arity w.place (text bytes w)
named_fault bytes (f.OwnedTwice w) = n.OwnedTwice w.place (text bytes w)
named_fault bytes (f.Foreign w) = n.ForeignVariable w.place (text bytes w)
named_fault bytes (f.Missing p l) = n.MissingField p (link_name l)
named_fault bytes (f.TooMany p) = n.TooMany p
named_fault bytes (f.InitShape p) = n.InitShape p init_name
named_fault bytes (f.InitCalled w) = n.InitCalled w.place (text bytes w)

-- one fault where the test is true, and else none
abbrev pub where_ : Bool → Fault → List Fault
where_ test fault = if test then fault ∷ [] else []
