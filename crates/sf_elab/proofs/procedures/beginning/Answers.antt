use Rattle.std.proofs.Common.{◌++◌, ◌∙◌, Bool, ap, length, map}
use Rattle.sf_ast.specs.View.{procedure_of}
use Rattle.sf_ast.specs.declared.word.Word.{Word}
use Rattle.sf_base.specs.declared.ids.Var.TheVariants.{Own}
use Rattle.sf_core.specs.Program.View.{command_of}
use Rattle.sf_elab.specs.Names.Declarations.{numbered}
use Rattle.sf_elab.specs.Names.Table.{has}
use Rattle.sf_elab.specs.Names.Texts.{text}
use Rattle.sf_elab.proofs.Bodies.Beginnings.{body_sees_all, first_are_all, names_are_all}
use Rattle.sf_elab.proofs.procedures.beginning.Goals as goal

pub returns-clause-own : goal.returns-clause-own
returns-clause-own c =
    let bytes = c.args.bytes.now in
    let primed : Word → Bool = λ w. has (text bytes w) c.args.set.now in
    let references = c.references_of.result.now in
    let one = c.in_ok-declare_unprimed.ensures in
    body_sees_all bytes (procedure_of c.args.f.now) primed references c.values_of-values.result.now c.args.locals.now
    c.declare_unprimed.new.body.declared c.declare_values.new.body.declared c.declare_unprimed.new.body.names c.declare_unprimed.new.body.own c.declare_values.new.body.own c.declare_unprimed-2.new.body.own
    (λ w. c.requires.set (text bytes w)) c.references_of.ensures c.values_of-values.ensures c.requires.locals (ap length one.names ∙ c.in_ok-names.ensures.count)
    (one.declared ∙ ap (λ ws. ws ++ references) c.new.ensures)
    (one.own ∙ ap (λ ws. numbered bytes Own (length ws) references c.new-2.result) c.new.ensures ∙ ap (numbered bytes Own 0 references) c.new-2.ensures)
    c.in_ok-declare_values.ensures.declared c.in_ok-declare_values.ensures.own c.in_ok-declare_unprimed-2.ensures.own

pub returns-clause-names : goal.returns-clause-names
returns-clause-names c =
    let bytes = c.args.bytes.now in
    let primed : Word → Bool = λ w. has (text bytes w) c.args.set.now in
    c.in_ok-declare_unprimed-2.ensures.names
    ∙ names_are_all bytes (procedure_of c.args.f.now) primed c.values_of-values.result.now c.declare_unprimed.new.body.names c.declare_values.new.body.names
    (λ w. c.requires.set (text bytes w)) c.values_of-values.ensures (c.in_ok-declare_unprimed.ensures.names ∙ c.in_ok-names.ensures.same) c.in_ok-declare_values.ensures.names

pub returns-clause-first : goal.returns-clause-first
returns-clause-first c =
    let bytes = c.args.bytes.now in
    let primed : Word → Bool = λ w. has (text bytes w) c.args.set.now in
    let references = c.references_of.result.now in
    let one = c.in_ok-declare_unprimed.ensures in
    ap (λ v. map command_of v.items) c.in_ok-declare_unprimed-2.ensures.first
    ∙ first_are_all bytes (procedure_of c.args.f.now) primed c.args.f.now.open references c.values_of-values.result.now
    c.declare_unprimed.new.body.declared c.declare_unprimed.new.body.names (map command_of c.declare_unprimed.new.body.first.items) (map command_of c.declare_values.new.body.first.items)
    (λ w. c.requires.set (text bytes w)) c.references_of.ensures c.values_of-values.ensures (ap length one.names ∙ c.in_ok-names.ensures.count)
    (one.declared ∙ ap (λ ws. ws ++ references) c.new.ensures) (ap (λ v. map command_of v.items) one.first ∙ ap (map command_of) c.new-3.ensures.items) c.in_ok-declare_values.ensures.first
