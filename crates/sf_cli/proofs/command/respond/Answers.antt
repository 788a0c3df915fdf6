use Rattle.std.proofs.Common.{Option, subst, sym}
use Rattle.std.proofs.lemmas.Result.{IfOk-weaker}
use Rattle.sf_cli.specs.Answer.{Reaches, Reply}
use Rattle.sf_words.specs.Words.{Order}
use Rattle.sf_cli.proofs.command.respond.Goals as goal

pub returns-in-Ok-clause-said : goal.returns-in-Ok-clause-said
returns-in-Ok-clause-said g c =
    IfOk-weaker c.follow.result _ _
    (λ said k. subst (λ (o : Option Order). Reply (g.S.Shelf.files c.args.shelf.now) (g.S.Shelf.faults c.args.shelf.now)
    (g.S.Shelf.faults c.follow.new.shelf) o said.text.items said.status) (sym c.in-Ok.ensures.order) k) c.follow.ensures.said

pub returns-in-Ok-clause-others : goal.returns-in-Ok-clause-others
returns-in-Ok-clause-others g c = λ other h.
    c.follow.ensures.others other
    (λ r. h (subst (λ (o : Option Order). Reaches (g.S.Shelf.files c.args.shelf.now) o other) (sym c.in-Ok.ensures.order) r))

pub follow-requires-after_bounds : goal.follow-requires-after_bounds
follow-requires-after_bounds g c κs within = c.in-Ok.ensures.numbers
