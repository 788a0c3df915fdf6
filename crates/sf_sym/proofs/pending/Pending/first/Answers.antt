use Rattle.std.proofs.Common.{◌∷◌, [], reverse, sym, ap, ◌∙◌}
use Rattle.std.proofs.lemmas.List.{reverse-append}
use Rattle.sf_sym.proofs.pending.Pending.first.Goals as goal

pub returns-clause-some : goal.returns-clause-some
returns-clause-some c = (
  reverse c.in_ok-first.field-0-1.now,
  sym (ap (λ g. g.conjuncts) c.self.view_is)
      ∙ ap reverse (sym c.deref.ensures.value ∙ c.in_ok-first.ensures.cases.0)
      ∙ reverse-append c.in_ok-first.field-0-1.now (c.in_ok-first.first.now ∷ []),
)
