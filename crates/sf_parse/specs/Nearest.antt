-- Which of several readings is meant: each `else` belongs to the nearest `if`, and what comes after the `if` of an assertion
-- reaches as far to the right as it can.
-- Ordinary: the nearest `if` takes an `else`, as in Aho, Sethi, Ullman, "Compilers" (1986), section 4.3.
use Rattle.std.specs.Prelude.{List, [], ◌∷◌, Option, Some, None}
use Rattle.sf_ast.specs.Surface as s
use Rattle.sf_parse.specs.Leaf.{Leaf}
use Rattle.sf_parse.specs.Leaf as k

-- no `else` comes next
abbrev pub NotElse : List Leaf → Type 0
NotElse (k.Else ∷ r) = ⊥
NotElse _ = Unit {0}

-- an `else` after a command belongs to the nearest `if` in it that has none
abbrev pub Follows : s.Command → List Leaf → Type 0
Follows (s.if_alone p b c) r = NotElse r
Follows (s.if p b c d) r = Follows d r
Follows (s.while p b n c) r = Follows c r
Follows (s.with p x b c) r = Follows c r
Follows _ r = Unit {0}

-- a conjunct that reaches as far to the right as it can has no other one after it
abbrev pub IsClosed : s.Conjunct → Type 0
IsClosed (s.choose p round b x y) = ⊥
IsClosed _ = Unit {0}

abbrev mutual
  -- a conjunct whose assertions are read so
  pub ConjunctNearest : s.Conjunct → Type 0
  ConjunctNearest (s.group a) = AssertionNearest a
  ConjunctNearest (s.choose p round b x y) = AssertionNearest x × AssertionNearest y
  ConjunctNearest _ = Unit {0}

  -- an assertion: an `if` in it is the last conjunct, since what comes after would belong to its branch
  pub AssertionNearest : s.Assertion → Type 0
  AssertionNearest (s.only c) = ConjunctNearest c
  AssertionNearest (s.star c a) = ConjunctNearest c × IsClosed c × AssertionNearest a

-- what occurs in square brackets
abbrev pub NoteNearest : s.Note → Type 0
NoteNearest s.blank = Unit {0}
NoteNearest (s.filled a) = AssertionNearest a

-- a note that may be left out
abbrev pub MaybeNearest : Option s.Note → Type 0
MaybeNearest None = Unit {0}
MaybeNearest (Some x) = NoteNearest x

abbrev mutual
  -- a command: no `if` before an `else` ends with one that lacks its own
  pub CommandNearest : s.Command → Type 0
  CommandNearest (s.if_alone p b c) = CommandNearest c
  CommandNearest (s.if p b c e) = CommandNearest c × CommandNearest e × Follows c (k.Else ∷ [])
  CommandNearest (s.while p b x c) = MaybeNearest x × CommandNearest c
  CommandNearest (s.with p x b c) = CommandNearest c
  CommandNearest (s.block p cs q) = CommandsNearest cs
  CommandNearest _ = Unit {0}

  -- each of these commands
  pub CommandsNearest : s.Commands → Type 0
  CommandsNearest s.done = Unit {0}
  CommandsNearest (s.then c cs) = CommandNearest c × CommandsNearest cs

-- the notes and the body of an item
abbrev pub ItemNearest : s.Item → Type 0
ItemNearest (s.fields ns) = Unit {0}
ItemNearest (s.resource x) = NoteNearest x.invariant
ItemNearest (s.procedure f) = MaybeNearest f.pre × CommandsNearest f.body × MaybeNearest f.post

-- all items of a file
abbrev pub IsNearest : List s.Item → Type 0
IsNearest [] = Unit {0}
IsNearest (i ∷ is) = ItemNearest i × IsNearest is
