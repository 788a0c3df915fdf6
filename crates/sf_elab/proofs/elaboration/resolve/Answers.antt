use Rattle.std.proofs.Common.{◌≡◌, ◌∙◌, List, [], map, rules, subst, sym}
use Rattle.sf_ast.specs.View.{item_of}
use Rattle.sf_core.specs.Program.Formed.{IsFormed}
use Rattle.sf_core.specs.Program.View.{program_with}
use Rattle.sf_core.specs.Program.ProgramView.{program_of}
use Rattle.sf_elab.specs.declared.fault.Fault.{Fault}
use Rattle.sf_elab.specs.Files.Elaborated.{elaborated, faults}
use Rattle.sf_elab.proofs.Files.FormedPrograms.{program_formed}
use Rattle.sf_elab.proofs.elaboration.resolve.Goals as goal

pub program-requires : goal.program-requires
program-requires c =
    let g = c.in_ok-parts.parts in
    let found : List Fault = c.parts.new.found.items in
    let items = map item_of c.args.file.items.items in
    let all : found ≡ faults c.args.bytes.now items = search rules in
    let whole : program_with g.fields.items g.resources.items g.procedures.items ≡ elaborated c.args.bytes.now items = search rules in
    let none : found ≡ [] = search rules in
    subst IsFormed (sym whole) (program_formed c.args.bytes.now items c.args.file.shallow (sym all ∙ none))

pub returns-clause-found : goal.returns-clause-found
returns-clause-found c =
    let found : List Fault = c.parts.new.found.items in
    let items = map item_of c.args.file.items.items in
    let all : found ≡ faults c.args.bytes.now items = search rules in
    let whole : program_of c.program.result ≡ elaborated c.args.bytes.now items = search rules in
    let none : found ≡ [] = search rules in
    record { sound = sym all ∙ none; same = whole }
