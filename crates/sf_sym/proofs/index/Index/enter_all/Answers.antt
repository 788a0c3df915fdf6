use Rattle.std.proofs.Common.{[], ◌∷◌, ◌++◌, map, refl, sym, ap, ◌∙◌, subst}
use Rattle.std.proofs.lemmas.List.{append-nil, append_assoc}
use Rattle.sf_sym.specs.declared.outline.Row.{Row}
use Rattle.sf_sym.specs.Checked.Keeping.{rows_of}
use Rattle.sf_sym.specs.Checked.Rows.{row_of}
use Rattle.sf_sym.specs.Checked.Stores.{IsMade, MakesOf}
use Rattle.sf_sym.specs.Equalities.{numbered_with, put_for}
use Rattle.sf_sym.proofs.Making.{makes-more, makes-none, no_more}
use Rattle.sf_sym.proofs.index.Index.enter_all.Goals as goal

pub loop-a-init : goal.loop-a-init
loop-a-init c =
    let s = c.args.self.now in
    (refl, ([], makes-none c.args.apart.now s.roots s.cells, refl))

pub loop-a-preserved : goal.loop-a-preserved
loop-a-preserved c =
    let s = c.args.self.now in
    let inv = c.loop-a.invariant.1 in
    let one = c.loop-a.self in
    let two = c.enter_one.new.self in
    let to = numbered_with (put_for c.args.r.symbol c.args.r.by) in
    let row : Row = row_of (to c.in-Some.a.now) in (
      c.enter_one.ensures.marks ∙ c.loop-a.invariant.0,
      (
        inv.0 ++ row ∷ [],
        makes-more c.args.apart.now s.roots s.cells one.roots one.cells two.roots two.cells inv.0 row inv.1
            (subst (λ (z : Row). MakesOf c.args.apart.now (z ∷ []) one.roots one.cells two.roots two.cells) c.row_with.ensures
            c.in_ok-enter_one.ensures.made),
        append_assoc inv.0 (row ∷ []) (rows_of (map to c.in-Some.rest.now))
            ∙ ap (λ xs. inv.0 ++ rows_of (map to xs)) (sym c.in-Some.ensures.cases.0) ∙ inv.2,
      ),
    )

pub returns-clause-made : goal.returns-clause-made
returns-clause-made c =
    let inv = c.loop-a.invariant.1 in
    let to = numbered_with (put_for c.args.r.symbol c.args.r.by) in
    let none = no_more c.loop-a.left.now c.in_default.ensures.cases in
    let all = sym (append-nil inv.0) ∙ ap (λ xs. inv.0 ++ rows_of (map to xs)) (sym none) ∙ inv.2 in
    λ had made. subst
    (λ rows. IsMade c.args.apart.now (had ++ rows) c.loop-a.self.roots c.loop-a.self.cells) all (inv.1 had made)
