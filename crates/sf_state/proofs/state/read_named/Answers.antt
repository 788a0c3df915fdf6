use Rattle.std.proofs.Common.{◌≡◌, ◌∙◌, ◌+◌, ◌≤◌, arith, ap, length, refl, subst, sym, List, [], None}
use Rattle.std.proofs.lemmas.List.{length-append}
use Rattle.std.specs.List.{flat_map}
use Rattle.sf_core.specs.Program.ProgramView.{program_of}
use Rattle.sf_core.specs.Program.View.{procedure_of}
use Rattle.sf_lines.specs.Lines.{Text}
use Rattle.sf_state.specs.Checked.Keeping.{Keeps}
use Rattle.sf_state.specs.Names.{format_of, names_of, names_of_resource, parameters}
use Rattle.sf_state.specs.Refused.{first_refusal}
use Rattle.sf_state.specs.Says.{entries_of}
use Rattle.sf_state.proofs.AllValues.{said-state}
use Rattle.sf_state.proofs.FirstNamed.{code-has_init}
use Rattle.sf_state.proofs.state.read_named.Goals as goal

pub state_of-requires : goal.state_of-requires
state_of-requires c =
    let p = program_of c.args.p.now in
    let g = procedure_of c.args.g.now in
    let size = c.in_ok-given.ensures.1.size in
    let whole = length-append (parameters g) (flat_map names_of_resource p.resources) in
    let own = ap length c.parameters.ensures in
    let all : length c.args.names.now ≡ length (names_of p g) = ap length c.requires.names in
    omega (arith, size, whole, own, all)

pub returns : goal.returns
returns c =
    let p = program_of c.args.p.now in
    let g = procedure_of c.args.g.now in
    said-state (format_of p g) c.args.text.now c.in_ok-given.given c.state_of.result c.requires.short
    (subst (λ (ns : List Text). (first_refusal p.fields ns [] (entries_of p.fields ns c.args.text.now) ≡ None)
    × Keeps p.fields ns c.in_ok-given.given (entries_of p.fields ns c.args.text.now)) c.requires.names
    c.in_ok-given.ensures)
    (c.state_of.ensures (format_of p g) (sym c.requires.names)
    (sym (ap length c.parameters.ensures))
    (sym (c.is_some.ensures ∙ code-has_init c.args.p.now.procedures.items c.args.p.now.init c.args.p.now.set_up)))
