use Rattle.std.proofs.Common.{◌≡◌, ◌+◌, ◌<◌, ◌∙◌, length, drop, sym, ap, subst, arith, rules}
use Rattle.std.specs.List.{remove}
use Rattle.std.proofs.lemmas.List.{length-drop}
use Rattle.sf_sym.proofs.Searched.{drop-remove}
use Rattle.sf_sym.specs.declared.atom.Atom.TheVariants.{Tree}
use Rattle.sf_sym.specs.declared.atom.Numbered.{Numbered}
use Rattle.sf_sym.specs.declared.term.Term.TheVariants.{Nil}
use Rattle.sf_sym.proofs.parts.Parts.remove.Goals as goal

pub take_first-requires : goal.take_first-requires
take_first-requires c =
    let d : Numbered = record { number = 0; atom = Tree Nil } in
    let front = ap length (c.bring_to_front.ensures d) in
    omega (arith, front)

pub returns-then-i-len-clause-others : goal.returns-then-i-len-clause-others
returns-then-i-len-clause-others c =
    ap (drop 1) (sym c.take_first.ensures ∙ c.bring_to_front.ensures c.take_first.result)

pub returns-else-i-len-clause-others : goal.returns-else-i-len-clause-others
returns-else-i-len-clause-others c =
    let inside = c.self.inside in
    let items : c.remove.new.self.items ≡ remove inside.places.items (inside.left + c.args.i) = search rules in
    let below : c.args.i < length (drop inside.left inside.places.items) =
    subst (λ xs. c.args.i < length xs) (sym c.self.view_is) c.requires in
    let within : inside.left + c.args.i < length inside.places.items =
    omega (arith, below, length-drop inside.left inside.places.items) in
    ap (drop inside.left) items ∙ drop-remove inside.left c.args.i inside.places.items within
    ∙ ap (λ xs. remove xs c.args.i) c.self.view_is
