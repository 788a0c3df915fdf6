-- How the code's programs are read as the programs of the definitions: each vector as its list.
-- Nothing is lost and nothing is computed here.
use Rattle.std.specs.Prelude.{ℕ, List, [], ◌∷◌, map}
use Rattle.sf_core.specs.declared.assertion.Assertion.{Assertion as CodeAssertion}
use Rattle.sf_core.specs.declared.assertion.Conjunct.{Conjunct as CodeConjunct}
use Rattle.sf_core.specs.declared.assertion.Conjunct.TheFolds.{fold-Conjunct, fold-Level}
use Rattle.sf_core.specs.declared.assertion.Conjunct.TheOpen.{Conjunct-F, Level-F, Holds, Points, Segment, Doubly, Tree, If}
use Rattle.sf_core.specs.declared.assertion.Level.{Level as CodeLevel}
use Rattle.sf_core.specs.declared.command.Call.{Call as CodeCall}
use Rattle.sf_core.specs.declared.command.Command.{Command as CodeCommand}
use Rattle.sf_core.specs.declared.command.Command.TheFolds.{fold-Command}
use Rattle.sf_core.specs.declared.command.Command.TheOpen.{Command-F, Assign, LookUp, Mutate, New, Dispose, If as Cond, While, Call as CallOne, Fork, With}
use Rattle.sf_core.specs.declared.program.Proc.{Proc}
use Rattle.sf_core.specs.declared.program.Resource.{Resource as CodeResource}
use Rattle.sf_core.specs.Program.Syntax.{Conjunct, holds, points, segment, doubly, tree, choose, Level, level, Conjuncts, none, also, Call, Command, assign, look_up, mutate, new, dispose, if, while, call, fork, with, Block, done, then, Assertion, Procedure, Resource, Program}

-- a list as conjuncts
abbrev pub conjuncts : {E : Type 0} → List (Conjunct E) → Conjuncts E
conjuncts [] = none
conjuncts (c ∷ cs) = also c (conjuncts cs)

-- one conjunct, its branches being read already
abbrev pub conjunct_step : {E : Type 0} → Conjunct-F E (Conjunct E) (Level E) → Conjunct E
conjunct_step (Holds p t) = holds p t
conjunct_step (Points p x fs) = points p x fs.items
conjunct_step (Segment p f x y) = segment p f x y
conjunct_step (Doubly p f g x b y z) = doubly p f g x b y z
conjunct_step (Tree p l r x) = tree p l r x
conjunct_step (If p t x y) = choose p t x y

-- one level, its conjuncts being read already
abbrev pub level_step : {E : Type 0} → Level-F E (Conjunct E) (Level E) → Level E
level_step l = level l.made (conjuncts l.conjuncts.items)

-- a conjunct of the code
abbrev pub conjunct_of : {E : Type 0} → CodeConjunct E → Conjunct E
conjunct_of {E} = fold-Conjunct E (Conjunct E) (Level E) conjunct_step level_step

-- a level of the code
abbrev pub level_of : {E : Type 0} → CodeLevel E → Level E
level_of {E} = fold-Level E (Conjunct E) (Level E) conjunct_step level_step

-- an assertion of the code
abbrev pub assertion_of : CodeAssertion → Assertion
assertion_of a = record { names = a.names.items; level = level_of a.level }

-- a call of the code
abbrev pub call_of : CodeCall → Call
call_of c = record {
  callee = c.callee;
  place = c.place;
  references = c.references.items;
  values =
      c.values.items;
}

-- a list as a block
abbrev pub block : List Command → Block
block [] = done
block (c ∷ cs) = then c (block cs)

-- one command, those inside it being read already
abbrev pub command_step : Command-F Command → Command
command_step (Assign p x e) = assign p x e
command_step (LookUp p x e f) = look_up p x e f
command_step (Mutate p e f g) = mutate p e f g
command_step (New p x) = new p x
command_step (Dispose p e) = dispose p e
command_step (Cond p t c d) = if p t (block c.items) (block d.items)
command_step (While p t i c) = while p t (assertion_of i) (block c.items)
command_step (CallOne p c) = call p (call_of c)
command_step (Fork p c d) = fork p (call_of c) (call_of d)
command_step (With p r t c) = with p r t (block c.items)

-- a command of the code
abbrev pub command_of : CodeCommand → Command
command_of = fold-Command Command command_step

-- commands of the code
abbrev pub block_of : List CodeCommand → Block
block_of cs = block (map command_of cs)

-- a procedure of the code
abbrev pub procedure_of : Proc → Procedure
procedure_of f = record {
  name = f.name;
  place = f.place;
  names = f.names.items;
  references = f.references;
  values = f.values;
  locals = f.locals;
  pre = assertion_of f.pre;
  post = assertion_of f.post;
  body = block_of f.body.items;
  end = f.end;
}

-- a resource of the code
abbrev pub resource_of : CodeResource → Resource
resource_of r = record { name = r.name; variables = r.variables.items; invariant = assertion_of r.invariant }

-- a program of these parts
abbrev pub program_with : List (List ℕ) → List CodeResource → List Proc → Program
program_with fields resources procedures = record {
  fields = fields;
  resources =
      map resource_of resources;
  procedures = map procedure_of procedures;
}
