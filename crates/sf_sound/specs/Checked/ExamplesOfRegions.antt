-- An example of regions that hand a cell from one task to another: the buffer with one place.
-- It is that of O'Hearn, "Resources, Concurrency and Local Reasoning" (2007).
use Rattle.std.specs.Prelude.{pos, List, [], ◌∷◌, codes}
use Rattle.sf_base.specs.declared.ids.Var.TheVariants.{Shared}
use Rattle.sf_core.specs.declared.assertion.Operand.TheVariants.{Known}
use Rattle.sf_core.specs.declared.assertion.Scope.{Scope}
use Rattle.sf_core.specs.declared.assertion.Test.TheVariants.{Equal, Differ}
use Rattle.sf_core.specs.declared.command.Expr.TheVariants.{Var as Variable, Int}
use Rattle.sf_core.specs.declared.command.Occurrence.{Occurrence}
use Rattle.sf_core.specs.Checked.Machine.Examples.{at_own, calls, emp, here, lock, one_cell, own_one, procedure}
use Rattle.sf_core.specs.Program.Syntax.{choose, level, none, also, points, assign, dispose, done, fork, new, then, with, Assertion, Call, Procedure, Program, Resource}
use Rattle.sf_sound.specs.Checked.Examples.{ExampleIsSound}
use Rattle.sf_sym.specs.declared.tag.Tag.{Tag}
use Rattle.sf_sym.specs.declared.tag.Tag.TheVariants as t
use Rattle.sf_sym.specs.declared.term.Term.TheVariants.{Int as number, Sym}

-- the resource's variable c
abbrev pub c : Occurrence
c = record { var = Shared lock 0; place = here }

-- its variable full
abbrev pub full : Occurrence
full = record { var = Shared lock 1; place = here }

-- no existential is made
abbrev pub no_scope : Scope
no_scope = record { first = 0; count = 0 }

-- if full == 0 then emp else c |->
abbrev pub buffered : Assertion
buffered = record {
  names = [];
  level = level no_scope (also (choose here (Equal (Known (Variable full)) (Known (Int (pos 0))))
      (level no_scope none)
      (level no_scope (also (points here (Known (Variable c)) []) none))) none);
}

-- resource buf (c, full) [if full == 0 then emp else c |->]
abbrev pub buf : Resource
buf = record { name = codes "buf"; variables = codes "c" ∷ codes "full" ∷ []; invariant = buffered }

-- put(x) [x |->] { with buf when (full == 0) { c = x; full = 1; } } []
abbrev pub put : Procedure
put = record (procedure (codes "x" ∷ []) 0 1 one_cell
    (then (with here lock (Equal (Variable full) (Int (pos 0)))
    (then (assign here c (own_one 0)) (then (assign here full (Int (pos 1))) done))) done)) {
      name = codes "put";
      post = emp;
    }

-- get(y;) [] { with buf when (full != 0) { y = c; full = 0; } } [y |->]
abbrev pub get : Procedure
get = record (procedure (codes "y" ∷ []) 1 0 emp
    (then (with here lock (Differ (Variable full) (Int (pos 0)))
    (then (assign here (at_own 0) (Variable c)) (then (assign here full (Int (pos 0))) done))) done)) {
      name = codes "get";
      post = one_cell;
    }

-- put(x), where x is the first variable
abbrev pub puts_x : Call
puts_x = calls 0 (own_one 0 ∷ [])

-- get(y;), where y is the second one
abbrev pub gets_y : Call
gets_y = record { callee = record { 0 = 1 }; place = here; references = at_own 1 ∷ []; values = [] }

-- main() [] { local x, y; x = new(); put(x) || get(y;); dispose(y); } []
abbrev pub passes_on : Procedure
passes_on = record (procedure (codes "x" ∷ codes "y" ∷ []) 0 0 emp
    (then (new here (at_own 0)) (then (fork here puts_x gets_y) (then (dispose here (own_one 1)) done)))) {
      name = codes "main";
    }

-- the three, with the resource
abbrev pub buffer : Program
buffer = record { fields = []; resources = buf ∷ []; procedures = put ∷ get ∷ passes_on ∷ [] }

-- the tags of its proof
abbrev pub buffer_tags : List Tag
buffer_tags =
    t.Procedure (record { 0 = 0 }) ∷ t.Add ∷ t.Enter ∷ t.Split (Sym 2) (number (pos 0)) ∷ t.Then
    ∷ t.Add ∷ t.Assign ∷ t.Assign ∷ t.Exit ∷ t.Else ∷ t.Cell 1 ∷ t.Give ∷ t.Return ∷ t.End
    ∷ t.Else ∷ t.Add ∷ t.Add ∷ t.Absurd
    ∷ t.Procedure (record { 0 = 1 }) ∷ t.Enter ∷ t.Split (Sym 2) (number (pos 0)) ∷ t.Then
    ∷ t.Add ∷ t.Absurd ∷ t.Else ∷ t.Add ∷ t.Add ∷ t.Assign ∷ t.Assign ∷ t.Exit ∷ t.Then ∷ t.Give
    ∷ t.Return ∷ t.Cell 1 ∷ t.End
    ∷ t.Procedure (record { 0 = 2 }) ∷ t.New ∷ t.Fork ∷ t.Cell 1 ∷ t.Give ∷ t.Add ∷ t.Dispose 2
    ∷ t.Return ∷ t.End ∷ []

-- it keeps what the theorem asks of a program, the tags prove it by the rows of the whole table,
-- and it is sound: the task that gets the cell may dispose of it, though another one made it
abbrev pub BufferIsSound : Type 0
BufferIsSound = ExampleIsSound buffer buffer_tags
