-- How the code's surface trees are read as those of the definitions: each vector as its list, each box as what is in it.
-- Nothing is lost and nothing is computed here.
use Rattle.std.specs.Prelude.{List, [], ◌∷◌, map, Option, Some, None}
use Rattle.std.specs.Option.{option_map}
use Rattle.sf_ast.specs.declared.assertion.SurfaceAssertion.{SurfaceAssertion}
use Rattle.sf_ast.specs.declared.assertion.SurfaceConjunct.{SurfaceConjunct}
use Rattle.sf_ast.specs.declared.assertion.SurfaceConjunct.TheFolds.{fold-SurfaceConjunct, fold-SurfaceAssertion}
use Rattle.sf_ast.specs.declared.assertion.SurfaceConjunct.TheOpen.{SurfaceConjunct-F, SurfaceAssertion-F}
use Rattle.sf_ast.specs.declared.assertion.SurfaceConjunct.TheOpen as o
use Rattle.sf_ast.specs.declared.assertion.SurfaceNote.{SurfaceNote}
use Rattle.sf_ast.specs.declared.command.SurfaceArguments.{SurfaceArguments}
use Rattle.sf_ast.specs.declared.command.SurfaceArguments.TheVariants as a
use Rattle.sf_ast.specs.declared.command.SurfaceCall.{SurfaceCall}
use Rattle.sf_ast.specs.declared.command.SurfaceCommand.{SurfaceCommand}
use Rattle.sf_ast.specs.declared.command.SurfaceCommand.TheFolds.{fold-SurfaceCommand}
use Rattle.sf_ast.specs.declared.command.SurfaceCommand.TheOpen.{SurfaceCommand-F}
use Rattle.sf_ast.specs.declared.command.SurfaceCommand.TheOpen as c
use Rattle.sf_ast.specs.declared.file.Item.{Item as CodeItem}
use Rattle.sf_ast.specs.declared.file.Item.TheVariants as i
use Rattle.sf_ast.specs.declared.file.SurfaceParameters.{SurfaceParameters}
use Rattle.sf_ast.specs.declared.file.SurfaceParameters.TheVariants as p
use Rattle.sf_ast.specs.declared.file.SurfaceProcedure.{SurfaceProcedure}
use Rattle.sf_ast.specs.declared.file.SurfaceResource.{SurfaceResource}
use Rattle.sf_ast.specs.declared.word.SurfaceNames.{SurfaceNames}
use Rattle.sf_ast.specs.Surface as s

-- one name or more
abbrev pub names_of : SurfaceNames → s.Names
names_of ns = record { first = ns.first; more = ns.more.items }

-- a conjunct and those after it
abbrev pub conjuncts : s.Conjunct → List s.Conjunct → s.Assertion
conjuncts x [] = s.only x
conjuncts x (y ∷ ys) = s.star x (conjuncts y ys)

-- one conjunct, the assertions in it being read already
abbrev pub conjunct_step : SurfaceConjunct-F s.Conjunct s.Assertion → s.Conjunct
conjunct_step (o.Emp p) = s.emp p
conjunct_step (o.Group x) = s.group x
conjunct_step (o.If p b t x y) = s.choose p b t x y
conjunct_step (o.Equal x y) = s.equal x y
conjunct_step (o.Differ x y) = s.differ x y
conjunct_step (o.Points x fs) = s.points x fs.items
conjunct_step (o.Ls p b x y) = s.ls p b x y
conjunct_step (o.List p x) = s.list p x
conjunct_step (o.Dll p x b l y) = s.dll p x b l y
conjunct_step (o.Tree p x) = s.tree p x

-- an assertion, its conjuncts being read already
abbrev pub assertion_step : SurfaceAssertion-F s.Conjunct s.Assertion → s.Assertion
assertion_step x = conjuncts x.first.value x.more.items

-- a conjunct of the code
abbrev pub conjunct_of : SurfaceConjunct → s.Conjunct
conjunct_of = fold-SurfaceConjunct s.Conjunct s.Assertion conjunct_step assertion_step

-- an assertion of the code
abbrev pub assertion_of : SurfaceAssertion → s.Assertion
assertion_of = fold-SurfaceAssertion s.Conjunct s.Assertion conjunct_step assertion_step

-- what occurs in square brackets
abbrev pub annotation_with : Option SurfaceAssertion → s.Note
annotation_with None = s.blank
annotation_with (Some x) = s.filled (assertion_of x)

-- a note of the code
abbrev pub annotation_of : SurfaceNote → s.Note
annotation_of n = annotation_with n.assertion

-- what a call of the code is given
abbrev pub arguments_of : SurfaceArguments → s.Arguments
arguments_of (a.Values xs) = s.values xs.items
arguments_of (a.Both ns xs) = s.both ns.items xs.items

-- a call of the code
abbrev pub call_of : SurfaceCall → s.Call
call_of x = record { name = x.name; arguments = arguments_of x.arguments }

-- a list as commands
abbrev pub commands : List s.Command → s.Commands
commands [] = s.done
commands (x ∷ xs) = s.then x (commands xs)

-- one command, those in it being read already
abbrev pub command_step : SurfaceCommand-F s.Command → s.Command
command_step (c.Assign x e) = s.assign x e
command_step (c.LookUp x e f) = s.look_up x e f
command_step (c.New x) = s.new x
command_step (c.Mutate e f g) = s.mutate e f g
command_step (c.Dispose p b e) = s.dispose p b e
command_step (c.IfAlone p t x) = s.if_alone p t x.value
command_step (c.If p t x y) = s.if p t x.value y.value
command_step (c.While p t n x) = s.while p t (option_map annotation_of n) x.value
command_step (c.With p r t x) = s.with p r t x.value
command_step (c.Call x) = s.call (call_of x)
command_step (c.Fork x y) = s.fork (call_of x) (call_of y)
command_step (c.Block p xs q) = s.block p (commands xs.items) q

-- a command of the code
abbrev pub command_of : SurfaceCommand → s.Command
command_of = fold-SurfaceCommand s.Command command_step

-- parameters of the code
abbrev pub parameters_of : SurfaceParameters → s.Parameters
parameters_of (p.Values xs) = s.only_values xs.items
parameters_of (p.Both xs ys) = s.references_and_values xs.items ys.items

-- a resource of the code
abbrev pub resource_of : SurfaceResource → s.Resource
resource_of r = record { place = r.place; name = r.name; variables = r.variables.items; invariant = annotation_of r.invariant }

-- a procedure of the code
abbrev pub procedure_of : SurfaceProcedure → s.Procedure
procedure_of f = record {
  name = f.name;
  parameters = parameters_of f.parameters;
  pre = option_map annotation_of f.pre;
  opens = f.open;
  locals = map names_of f.locals.items;
  body = commands (map command_of f.body.items);
  closes = f.close;
  post = option_map annotation_of f.post;
}

-- an item of the code
abbrev pub item_of : CodeItem → s.Item
item_of (i.Fields ns) = s.fields (names_of ns)
item_of (i.Resource r) = s.resource (resource_of r)
item_of (i.Procedure f) = s.procedure (procedure_of f)
