-- How deep the commands and assertions of a file are nested.
-- Ordinary: the height of a syntax tree, as in Aho, Sethi, Ullman, "Compilers" (1986), chapter 2.
use Rattle.std.specs.Prelude.{ℕ, ◌+◌, max, List, [], ◌∷◌, Option, Some, None}
use Rattle.sf_ast.specs.Surface.{Conjunct, group, choose, Assertion, only, star, Note, blank, filled, Command, if_alone, if, while, with, block, Commands, done, then, Item, fields, resource, procedure}

abbrev mutual
  -- the levels below the assertion that a conjunct occurs in
  pub conjunct_depth : Conjunct → ℕ
  conjunct_depth (group a) = assertion_depth a
  conjunct_depth (choose p k t a b) = max (assertion_depth a) (assertion_depth b)
  conjunct_depth _ = 0

  -- the levels of an assertion: its own, and those below it
  pub assertion_depth : Assertion → ℕ
  assertion_depth (only c) = 1 + conjunct_depth c
  assertion_depth (star c a) = max (1 + conjunct_depth c) (assertion_depth a)

-- those of what occurs in square brackets
abbrev pub annotation_depth : Note → ℕ
annotation_depth blank = 0
annotation_depth (filled a) = assertion_depth a

-- those of a note that may be left out
abbrev pub maybe_depth : Option Note → ℕ
maybe_depth None = 0
maybe_depth (Some n) = annotation_depth n

abbrev mutual
  -- the levels of a command, its own the first
  pub command_depth : Command → ℕ
  command_depth (if_alone p t c) = 1 + command_depth c
  command_depth (if p t c d) = 1 + max (command_depth c) (command_depth d)
  command_depth (while p t n c) = 1 + command_depth c
  command_depth (with p r t c) = 1 + command_depth c
  command_depth (block p cs q) = 1 + commands_depth cs
  command_depth _ = 1

  -- those of the deepest command
  pub commands_depth : Commands → ℕ
  commands_depth done = 0
  commands_depth (then c cs) = max (command_depth c) (commands_depth cs)

abbrev mutual
  -- the levels of the deepest invariant in a command
  pub invariant_depth : Command → ℕ
  invariant_depth (if_alone p t c) = invariant_depth c
  invariant_depth (if p t c d) = max (invariant_depth c) (invariant_depth d)
  invariant_depth (while p t n c) = max (maybe_depth n) (invariant_depth c)
  invariant_depth (with p r t c) = invariant_depth c
  invariant_depth (block p cs q) = invariants_depth cs
  invariant_depth _ = 0

  -- those of the deepest invariant in commands
  pub invariants_depth : Commands → ℕ
  invariants_depth done = 0
  invariants_depth (then c cs) = max (invariant_depth c) (invariants_depth cs)

-- those of the deepest command or assertion of an item
abbrev pub item_depth : Item → ℕ
item_depth (fields ns) = 0
item_depth (resource r) = annotation_depth r.invariant
item_depth (procedure f) = max (max (commands_depth f.body) (invariants_depth f.body)) (max (maybe_depth f.pre) (maybe_depth f.post))

-- those of the deepest command or assertion of a file
abbrev pub items_depth : List Item → ℕ
items_depth [] = 0
items_depth (i ∷ is) = max (item_depth i) (items_depth is)
