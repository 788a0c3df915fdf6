use Rattle.std.proofs.Common.{[], ◌∷◌, ◌++◌, refl, sym, ap, ◌∙◌, subst, arith}
use Rattle.std.proofs.lemmas.List.{append-nil, append_assoc}
use Rattle.sf_base.proofs.Elements.{all_by-append}
use Rattle.sf_base.specs.declared.ids.FieldId.{FieldId}
use Rattle.sf_sym.specs.Below.{AllPaired, IsBelow}
use Rattle.sf_sym.specs.declared.term.Term.{Term}
use Rattle.sf_sym.proofs.Bounds.{fields-more}
use Rattle.sf_sym.proofs.Making.{no_more}
use Rattle.sf_sym.proofs.above.above_known.Goals as goal

pub loop-first-init : goal.loop-first-init
loop-first-init c = (omega arith, ([], refl, tt))

pub loop-first-preserved : goal.loop-first-preserved
loop-first-preserved c =
    let inv = c.loop-first.invariant in
    let first = c.in-Some.first.now in
    let more = c.above_term-above.result in (
      omega (arith, inv.0, c.above_term-above.ensures.least),
      (
        inv.1.0 ++ first ∷ [],
        append_assoc inv.1.0 (first ∷ []) c.in-Some.rest.now
            ∙ ap (λ xs. inv.1.0 ++ xs) (sym c.in-Some.ensures.cases.0) ∙ inv.1.1,
        all_by-append (λ (f : FieldId × Term). IsBelow more f.1) inv.1.0 (first ∷ [])
            (fields-more c.loop-first.above more c.above_term-above.ensures.least inv.1.0 inv.1.2)
            (c.above_term-above.ensures.below, tt),
      ),
    )

pub returns-clause-below : goal.returns-clause-below
returns-clause-below c =
    let inv = c.loop-first.invariant in
    subst (AllPaired (IsBelow c.loop-first.above))
    (sym (append-nil inv.1.0) ∙ ap (λ xs. inv.1.0 ++ xs) (sym (no_more c.loop-first.left.now c.in_default.ensures.cases)) ∙ inv.1.1)
    inv.1.2
