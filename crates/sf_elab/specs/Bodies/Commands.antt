-- The commands of a file, numbered, and what is wrong with names in them.
-- Blocks vanish: their commands are in their place. A command is where its first token is.
-- The commands of Berdine, Calcagno and O'Hearn, "Smallfoot" (2005), with this project's own numbering.
use Rattle.std.specs.Prelude.{◌==◌, ◌&&◌, Bool, not, cond, List, [], ◌∷◌, ◌++◌, map, length}
use Rattle.sf_ast.specs.declared.word.SurfaceExpr.{SurfaceExpr}
use Rattle.sf_ast.specs.declared.word.Word.{Word}
use Rattle.sf_ast.specs.Surface.{Arguments, values, both, Call, Command, assign, look_up, new, mutate, dispose, if_alone, if, while, with, call, fork, block, Commands, done, then}
use Rattle.sf_core.specs.Program.Syntax as c
use Rattle.sf_core.specs.Program.View as v
use Rattle.sf_elab.specs.declared.fault.Fault.{Fault}
use Rattle.sf_elab.specs.declared.fault.Fault.TheVariants.{Unknown, Arity}
use Rattle.sf_elab.specs.Annotations.Assertions.{maybe_of, maybe_faults}
use Rattle.sf_elab.specs.Bodies.Shape.{name_faults}
use Rattle.sf_elab.specs.Files.Faults.{where_}
use Rattle.sf_elab.specs.Names.InEnv.{Env, occurrence, variable_faults, expr_of, expr_faults, expr_place, test_of, test_faults, field_of, field_faults, resource_named, resource_faults, header_named}
use Rattle.sf_elab.specs.Names.Table.{has}
use Rattle.sf_elab.specs.Names.Texts.{text}

-- the references of a call; without a `;` there are none
abbrev pub references_in : Arguments → List Word
references_in (values es) = []
references_in (both ws es) = ws

-- its values
abbrev pub values_in : Arguments → List SurfaceExpr
values_in (values es) = es
values_in (both ws es) = es

-- a call
abbrev pub call_of : Env → Call → c.Call
call_of s d = record {
  callee = (header_named s d.name).id;
  place = d.name.place;
  references = map (occurrence s) (references_in d.arguments);
  values = map (expr_of s) (values_in d.arguments);
}

-- whether it has its procedure's counts
abbrev pub fits : Env → Call → Bool
fits s d = (length (references_in d.arguments) == (header_named s d.name).references) && (length (values_in d.arguments) == (header_named s d.name).values)

-- what is wrong with each of those
abbrev pub all_faults : {A : Type 0} → (A → List Fault) → List A → List Fault
all_faults faults [] = []
all_faults faults (x ∷ xs) = faults x ++ all_faults faults xs

-- what is wrong with the procedure that a call names: there is none, or it has other counts
abbrev pub callee_faults : Env → Call → List Fault
callee_faults s d =
    cond (has (text s.bytes d.name) s.declared.procedures) (where_ (not (fits s d)) (Arity d.name)) (Unknown d.name ∷ [])

-- what is wrong with a call
abbrev pub call_faults : Env → Call → List Fault
call_faults s d = callee_faults s d ++ name_faults s.bytes d.name ++ all_faults (variable_faults s) (references_in d.arguments) ++ all_faults (expr_faults s) (values_in d.arguments)

-- the commands
abbrev mutual
  -- a command: one, or those of a block
  pub command_of : Env → Command → List c.Command
  command_of s (assign x e) = c.assign x.place (occurrence s x) (expr_of s e) ∷ []
  command_of s (look_up x e f) = c.look_up x.place (occurrence s x) (expr_of s e) (field_of s f) ∷ []
  command_of s (new x) = c.new x.place (occurrence s x) ∷ []
  command_of s (mutate e f d) = c.mutate (expr_place e) (expr_of s e) (field_of s f) (expr_of s d) ∷ []
  command_of s (dispose p k e) = c.dispose p (expr_of s e) ∷ []
  command_of s (if_alone p t d) = c.if p (test_of (expr_of s) t) (v.block (command_of s d)) c.done ∷ []
  command_of s (if p t d b) = c.if p (test_of (expr_of s) t) (v.block (command_of s d)) (v.block (command_of s b)) ∷ []
  command_of s (while p t n d) = c.while p (test_of (expr_of s) t) (maybe_of s n) (v.block (command_of s d)) ∷ []
  command_of s (with p r t d) = c.with p (resource_named s r) (test_of (expr_of s) t) (v.block (command_of s d)) ∷ []
  command_of s (call d) = c.call d.name.place (call_of s d) ∷ []
  command_of s (fork d b) = c.fork d.name.place (call_of s d) (call_of s b) ∷ []
  command_of s (block p ds q) = commands_of s ds

  -- several, one after the other
  pub commands_of : Env → Commands → List c.Command
  commands_of s done = []
  commands_of s (then d ds) = command_of s d ++ commands_of s ds

-- what is wrong with names in commands
abbrev mutual
  -- in a command, in text order
  pub command_faults : Env → Command → List Fault
  command_faults s (assign x e) = variable_faults s x ++ expr_faults s e
  command_faults s (look_up x e f) = variable_faults s x ++ expr_faults s e ++ field_faults s f
  command_faults s (new x) = variable_faults s x
  command_faults s (mutate e f d) = expr_faults s e ++ field_faults s f ++ expr_faults s d
  command_faults s (dispose p k e) = expr_faults s e
  command_faults s (if_alone p t d) = test_faults (expr_faults s) t ++ command_faults s d
  command_faults s (if p t d b) = test_faults (expr_faults s) t ++ command_faults s d ++ command_faults s b
  command_faults s (while p t n d) = test_faults (expr_faults s) t ++ maybe_faults s n ++ command_faults s d
  command_faults s (with p r t d) = resource_faults s r ++ test_faults (expr_faults s) t ++ command_faults s d
  command_faults s (call d) = call_faults s d
  command_faults s (fork d b) = call_faults s d ++ call_faults s b
  command_faults s (block p ds q) = commands_faults s ds

  -- in each of several
  pub commands_faults : Env → Commands → List Fault
  commands_faults s done = []
  commands_faults s (then d ds) = command_faults s d ++ commands_faults s ds

-- the words that assignments, look-ups and `new`s set, and that calls pass as references, in text order
abbrev mutual
  -- in a command
  pub set_in : Command → List Word
  set_in (assign x e) = x ∷ []
  set_in (look_up x e f) = x ∷ []
  set_in (new x) = x ∷ []
  set_in (if_alone p t d) = set_in d
  set_in (if p t d b) = set_in d ++ set_in b
  set_in (while p t n d) = set_in d
  set_in (with p r t d) = set_in d
  set_in (call d) = references_in d.arguments
  set_in (fork d b) = references_in d.arguments ++ references_in b.arguments
  set_in (block p ds q) = set_in_all ds
  set_in _ = []

  -- in each of several
  pub set_in_all : Commands → List Word
  set_in_all done = []
  set_in_all (then d ds) = set_in d ++ set_in_all ds
