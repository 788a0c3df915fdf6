-- Which existentials a level makes, and their numbers.
-- A level is an assertion without the insides of its branches, or a branch without the insides of its own. It makes the existentials that occur in it, anywhere, and are in reach from no level around it.
-- This project's own scopes of existentials.
use Rattle.std.specs.Prelude.{ℕ, ◌-◌, if◌then◌else◌, List, [], ◌∷◌, ◌++◌, length}
use Rattle.sf_ast.specs.declared.word.Word.{Word}
use Rattle.sf_core.specs.declared.assertion.Scope.{Scope}
use Rattle.sf_elab.specs.declared.levels.Levels.{Levels}
use Rattle.sf_elab.specs.Annotations.Flat.{Flat, choose, Flats, none, also, words_in}
use Rattle.sf_elab.specs.Names.Table.{has, declare}
use Rattle.sf_elab.specs.Names.Texts.{text}

-- before anything is read no existential is there
abbrev pub no_levels : Levels
no_levels = record { reach = []; names = [] }

-- an existential is met: where none of its name is in reach, one is made, with the next number
abbrev pub meet : List ℕ → Levels → Word → Levels
meet bytes l w = record {
  reach = declare (text bytes w) (length l.names) l.reach;
  names = if has (text bytes w) l.reach then l.names else l.names ++ text bytes w ∷ [];
}

-- those are met one after the other
abbrev pub meet_all : List ℕ → Levels → List Word → Levels
meet_all bytes l [] = l
meet_all bytes l (w ∷ ws) = meet_all bytes (meet bytes l w) ws

-- a level is entered: all that it makes is in reach from its beginning
abbrev pub opened : List ℕ → Levels → Flats → Levels
opened bytes l cs = meet_all bytes l (words_in cs)

-- the numbers of what the level makes
abbrev pub made_by : List ℕ → Levels → Flats → Scope
made_by bytes l cs = record { first = length l.names; count = length (opened bytes l cs).names - length l.names }

-- further in the level: nothing else is in reach, and those names are taken
abbrev pub taking : Levels → List (List ℕ) → Levels
taking l names = record { reach = l.reach; names = names }

abbrev mutual
  -- the names that are taken once a conjunct was read: its branches make some, each with those inside it
  pub names_after : List ℕ → Levels → Flat → List (List ℕ)
  names_after bytes l (choose p t a b) =
      let m = taking l (names_after_all bytes (opened bytes l a) a) in
      names_after_all bytes (opened bytes m b) b
  names_after bytes l _ = l.names

  -- once several were
  pub names_after_all : List ℕ → Levels → Flats → List (List ℕ)
  names_after_all bytes l none = l.names
  names_after_all bytes l (also c cs) = names_after_all bytes (taking l (names_after bytes l c)) cs

-- once a whole level was read
abbrev pub names_after_level : List ℕ → Levels → Flats → List (List ℕ)
names_after_level bytes l cs = names_after_all bytes (opened bytes l cs) cs
