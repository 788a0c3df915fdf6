use Rattle.std.proofs.Common.{◌++◌, ◌∙◌, ap, append_assoc, length, map}
use Rattle.sf_ast.specs.View.{names_of, procedure_of}
use Rattle.sf_core.specs.Program.View.{block}
use Rattle.sf_elab.specs.Bodies.Commands.{commands_faults, commands_of}
use Rattle.sf_elab.specs.Bodies.Procedures.{inside_of, local_faults, local_words}
use Rattle.sf_elab.proofs.Bodies.Beginnings.{local_faults_are}
use Rattle.sf_elab.proofs.procedures.inside.Goals as goal

pub returns-clause-locals : goal.returns-clause-locals
returns-clause-locals c =
    c.in_ok-locals.ensures.count ∙ ap length (c.deref-2.ensures.value ∙ c.in_ok-words.ensures ∙ ap (λ xs. local_words (map names_of xs)) c.deref.ensures.value)

pub returns-clause-body : goal.returns-clause-body
returns-clause-body c =
    let f = procedure_of c.args.f.now in
    ap block (c.in_ok-add_body.ensures.commands ∙ ap (λ xs. xs ++ commands_of (inside_of c.args.bytes.now c.args.declared.now f) f.body) c.in_ok-prologue.ensures.first)

pub returns-clause-names : goal.returns-clause-names
returns-clause-names c = c.into_vec.ensures ∙ c.in_ok-add_body.ensures.names ∙ c.in_ok-prologue.ensures.names

pub returns-clause-faults : goal.returns-clause-faults
returns-clause-faults c =
    let bytes = c.args.bytes.now in
    let f = procedure_of c.args.f.now in
    let found = c.args.found.now.items in
    let others = commands_faults (inside_of bytes c.args.declared.now f) f.body in
    let own = local_faults_are bytes f c.args.parameters.words c.deref-2.result.now c.args.parameters.own c.requires.words
    (c.deref-2.ensures.value ∙ c.in_ok-words.ensures ∙ ap (λ xs. local_words (map names_of xs)) c.deref.ensures.value) c.requires.own in
    c.in_ok-add_body.ensures.faults ∙ ap (λ xs. xs ++ others) (c.in_ok-locals.ensures.faults ∙ ap (λ xs. found ++ xs) own)
    ∙ append_assoc found (local_faults bytes f) others
