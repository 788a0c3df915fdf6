use Rattle.std.proofs.Common.{◌-◌, ◌∙◌, sym, length}
use Rattle.sf_sym.specs.State.{term_at}
use Rattle.sf_rules.proofs.OwnTerms.{after_references, found_at, none_at, of_none, of_reference, of_value}
use Rattle.sf_rules.proofs.words.own_term.Goals as goal

pub returns-in-Some : goal.returns-in-Some
returns-in-Some c =
    c.term_at.ensures
    ∙ sym (of_reference (term_at c.args.vars.now) c.args.references.now c.args.values.now c.args.i c.in-Some.x.now (found_at c.args.references.now c.args.i c.in-Some.x.now c.in-Some.ensures.lookup.0 c.in-Some.ensures.lookup.1))

pub returns-in-Some-get : goal.returns-in-Some-get
returns-in-Some-get c =
    sym (after_references (term_at c.args.vars.now) c.args.references.now c.args.values.now c.args.i (none_at c.args.references.now c.args.i c.in_default.ensures.lookup.0)
    ∙ of_value (term_at c.args.vars.now) c.args.values.now (c.args.i - length c.args.references.now) c.in-Some-get.t.now (found_at c.args.values.now (c.args.i - length c.args.references.now) c.in-Some-get.t.now c.in-Some-get.ensures.lookup.0 c.in-Some-get.ensures.lookup.1))

pub returns-in-None : goal.returns-in-None
returns-in-None c =
    sym (after_references (term_at c.args.vars.now) c.args.references.now c.args.values.now c.args.i (none_at c.args.references.now c.args.i c.in_default.ensures.lookup.0)
    ∙ of_none (term_at c.args.vars.now) c.args.values.now (c.args.i - length c.args.references.now) (none_at c.args.values.now (c.args.i - length c.args.references.now) c.in-None.ensures.lookup.0))
