use Rattle.std.proofs.Common.{rules, sym, subst, ap, ◌∙◌}
use Rattle.sf_sym.specs.Fields.{AreOrdered, put_term}
use Rattle.sf_sym.proofs.PutTerms.{put-lent, put-in}
use Rattle.sf_sym.specs.Checked.Lemmas.Updates.{put-order}
use Rattle.sf_sym.proofs.fields.FieldTerms.put.Goals as goal

pub invariant_of-self : goal.invariant_of-self
invariant_of-self c =
    subst AreOrdered (sym (put-lent c.args.f c.args.u c.self.inside.items.items c.as_mut_slice.result.now
    c.place_of-at.result c.self.invariant (search rules) (search rules) (search rules)))
    (put-order c.args.f c.args.u c.self.inside.items.items c.self.invariant)

pub invariant_of-self-in-Continue-1 : goal.invariant_of-self-in-Continue-1
invariant_of-self-in-Continue-1 c =
    subst AreOrdered (sym (put-in c.args.f c.args.u c.self.inside.items.items c.insert.new.self.items
    c.place_of-at.result c.self.invariant (search rules) (search rules) (search rules)))
    (put-order c.args.f c.args.u c.self.inside.items.items c.self.invariant)

pub returns-then-is_at-clause-ok : goal.returns-then-is_at-clause-ok
returns-then-is_at-clause-ok c =
    put-lent c.args.f c.args.u c.self.inside.items.items c.as_mut_slice.result.now
    c.place_of-at.result c.self.invariant (search rules) (search rules) (search rules)
    ∙ ap (put_term c.args.f c.args.u) (search rules)

pub returns-in_ok-insert-clause-ok : goal.returns-in_ok-insert-clause-ok
returns-in_ok-insert-clause-ok c =
    put-in c.args.f c.args.u c.self.inside.items.items c.insert.new.self.items
    c.place_of-at.result c.self.invariant (search rules) (search rules) (search rules)
    ∙ ap (put_term c.args.f c.args.u) (search rules)
