-- Laws of elaboration, stated.
-- What a definition that computes owes its reader: that its answers are what its words say.
use Rattle.std.specs.Prelude.{◌≡◌, ◌↔◌, ◌≤◌, ◌⊎◌, ◌||◌, ◌+◌, ℕ, true, false, List, [], ◌++◌, map, take, length, slice_get, Contains, Some}
use Rattle.std.specs.List.{flat_map}
use Rattle.sf_base.specs.First.{IsFirstAmong}
use Rattle.sf_base.specs.declared.limits.TheConstants.{NESTING}
use Rattle.sf_ast.specs.Depth.{items_depth}
use Rattle.sf_ast.specs.Surface as Surface
use Rattle.sf_ast.specs.Surface.{Command, assign, look_up, new, if_alone, if, while, with, call, fork, block, Commands, done, then, Item}
use Rattle.sf_ast.specs.declared.word.Word.{Word}
use Rattle.sf_core.specs.Program.Formed.{IsFormed}
use Rattle.sf_core.specs.Program.Syntax.{Procedure, Resource, Program}
use Rattle.sf_elab.specs.declared.fault.Fault.{Fault}
use Rattle.sf_elab.specs.declared.fault.NameFault.{NameFault}
use Rattle.sf_elab.specs.Files.Elaborated.{elaborated, faults, Elaborates, FirstFault}
use Rattle.sf_elab.specs.declared.levels.Levels.{Levels}
use Rattle.sf_elab.specs.Annotations.Existentials.{opened, names_after_level}
use Rattle.sf_elab.specs.Annotations.Flat.{Flats, words_in}
use Rattle.sf_elab.specs.Files.Faults.{is_earlier}
use Rattle.sf_elab.specs.Bodies.Commands.{references_in}
use Rattle.sf_elab.specs.Bodies.Procedures.{is_among, is_primed}
use Rattle.sf_elab.specs.Names.Table.{find, has}
use Rattle.sf_elab.specs.Names.Texts.{text}

-- what a file without faults elaborates to is a program in order
abbrev pub ElaboratedIsFormed : Type 0
ElaboratedIsFormed = (bytes : List ℕ) (is : List Item) → items_depth is ≤ NESTING → faults bytes is ≡ [] → IsFormed (elaborated bytes is)

-- the first of faults is one of them, and none of them is earlier
abbrev pub FirstIsFirst : Type 0
FirstIsFirst = (all : List Fault) (fault : Fault) → IsFirstAmong is_earlier all fault
    → Contains all fault × ((other : Fault) → Contains all other → is_earlier other fault ≡ false)

-- a file is one program or has one first fault, and not both
pub record EachFileIsOne : Type 0 where
  pub some : (bytes : List ℕ) (is : List Item) → ((p : Program) × Elaborates bytes is p) ⊎ ((e : NameFault) × FirstFault bytes is e)
  pub not_both : (bytes : List ℕ) (is : List Item) (p : Program) (e : NameFault) → Elaborates bytes is p → FirstFault bytes is e → ⊥
  pub one_program : (bytes : List ℕ) (is : List Item) (p q : Program) → Elaborates bytes is p → Elaborates bytes is q → p ≡ q
  pub one_fault : (bytes : List ℕ) (is : List Item) (e g : NameFault) → FirstFault bytes is e → FirstFault bytes is g → e ≡ g

-- no two numbers have one name
abbrev pub AreDistinct : List (List ℕ) → Type 0
AreDistinct names = (i j : ℕ) (name : List ℕ) → slice_get names i ≡ Some name → slice_get names j ≡ Some name → i ≡ j

-- in a program that a file is, a name stands for one thing of its kind
pub record NamesAreUnique : Type 0 where
  pub fields : (bytes : List ℕ) (is : List Item) (p : Program) → Elaborates bytes is p → AreDistinct p.fields
  pub resources : (bytes : List ℕ) (is : List Item) (p : Program) → Elaborates bytes is p → AreDistinct (map (λ (r : Resource). r.name) p.resources)
  -- of the variables of all resources together
  pub variables : (bytes : List ℕ) (is : List Item) (p : Program) → Elaborates bytes is p → AreDistinct (flat_map (λ (r : Resource). r.variables) p.resources)
  pub procedures : (bytes : List ℕ) (is : List Item) (p : Program) → Elaborates bytes is p → AreDistinct (map (λ (f : Procedure). f.name) p.procedures)
  -- of a procedure's parameters and declared locals
  pub own : (bytes : List ℕ) (is : List Item) (p : Program) (k : ℕ) (f : Procedure) → Elaborates bytes is p → slice_get p.procedures k ≡ Some f
      → AreDistinct (take (f.references + f.values + f.locals) f.names)

-- levels are scopes of existentials
pub record LevelsAreScopes : Type 0 where
  -- in reach inside a level is what was in reach before it or occurs in that level itself
  pub in_reach : (bytes : List ℕ) (l : Levels) (a : Flats) (name : List ℕ) → has name (opened bytes l a).reach ≡ (has name l.reach || is_among bytes (words_in a) name)
  -- what was in reach keeps its number
  pub kept : (bytes : List ℕ) (l : Levels) (a : Flats) (name : List ℕ) (n : ℕ) → find name l.reach ≡ Some n → find name (opened bytes l a).reach ≡ Some n
  -- what is new has a number that was not taken, and its name is at that place of all names, so no two have one number
  pub new : (bytes : List ℕ) (l : Levels) (a : Flats) (name : List ℕ) (n : ℕ) → has name l.reach ≡ false → find name (opened bytes l a).reach ≡ Some n
      → (length l.names ≤ n) × (slice_get (opened bytes l a).names n ≡ Some name)
  -- once the level was read, its numbers stay taken, each by its name
  pub taken : (bytes : List ℕ) (l : Levels) (a : Flats) → (more : List (List ℕ)) × (names_after_level bytes l a ≡ (opened bytes l a).names ++ more)

-- the command itself sets the word, or passes it as a reference, whatever is inside it
abbrev pub Sets : Command → Word → Type 0
Sets (assign x e) w = x ≡ w
Sets (look_up x e field) w = x ≡ w
Sets (new x) w = x ≡ w
Sets (call one) w = Contains (references_in one.arguments) w
Sets (fork one other) w = Contains (references_in one.arguments) w ⊎ Contains (references_in other.arguments) w
Sets _ w = ⊥

abbrev mutual
  -- it is that command, or one inside it
  pub IsPartOf : Command → Command → Type 0
  IsPartOf d (if_alone p t c) = (d ≡ if_alone p t c) ⊎ IsPartOf d c
  IsPartOf d (if p t c b) = (d ≡ if p t c b) ⊎ (IsPartOf d c ⊎ IsPartOf d b)
  IsPartOf d (while p t n c) = (d ≡ while p t n c) ⊎ IsPartOf d c
  IsPartOf d (with p r t c) = (d ≡ with p r t c) ⊎ IsPartOf d c
  IsPartOf d (block p cs q) = (d ≡ block p cs q) ⊎ IsPartOfAll d cs
  IsPartOf d c = d ≡ c

  -- it is one of those commands, or inside one
  pub IsPartOfAll : Command → Commands → Type 0
  IsPartOfAll d done = ⊥
  IsPartOfAll d (then c cs) = IsPartOf d c ⊎ IsPartOfAll d cs

-- a procedure's value parameter is primed exactly where a command of the body, at any depth, sets a variable of
-- its name or passes one as a reference
abbrev pub PrimedValuesAreSet : Type 0
PrimedValuesAreSet = (bytes : List ℕ) (f : Surface.Procedure) (w : Word)
    → is_primed bytes f w ≡ true
    ↔ ((v : Word) × (d : Command) × IsPartOfAll d f.body × Sets d v × (text bytes v ≡ text bytes w))
