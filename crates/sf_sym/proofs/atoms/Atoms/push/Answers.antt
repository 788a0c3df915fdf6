use Rattle.std.proofs.Common.{◌<◌, ◌++◌, ◌∷◌, [], sym, ap, ap₂, ◌∙◌, subst}
use Rattle.std.specs.BTreeMap.{is_at}
use Rattle.std.specs.List.{AllByRecursion}
use Rattle.std.specs.Ordering.{nat_cmp}
use Rattle.std.specs.Set.{remove_key}
use Rattle.sf_sym.specs.declared.outline.Row.{Row}
use Rattle.sf_sym.specs.Checked.Empties.{empties, empty_numbers}
use Rattle.sf_sym.specs.Numbers.{numbers}
use Rattle.sf_sym.proofs.EmptyNumbers.{empty-all, empty-push, key-back}
use Rattle.sf_sym.proofs.atoms.Atoms.push.Goals as goal

pub note-requires : goal.note-requires
note-requires c =
    let n = c.args.part.number in
    let parts = c.self.inside.parts in
    subst (AllByRecursion (λ m. m < n)) (sym c.self.invariant)
    (empty-all (λ m. m < n) parts
    (subst (λ xs. AllByRecursion (λ m. m < n) (numbers xs)) (sym c.self.view_is) c.requires))

pub invariant_of-self-in-Err : goal.invariant_of-self-in-Err
invariant_of-self-in-Err c =
    let n = c.args.part.number in
    let inside = c.self.inside in
    let row : Row = record { number = n; outline = c.of-outline.result } in
    let below = subst (AllByRecursion (λ m. m < n)) (sym c.self.invariant)
    (empty-all (λ m. m < n) inside.parts
    (subst (λ xs. AllByRecursion (λ m. m < n) (numbers xs)) (sym c.self.view_is) c.requires)) in
    c.remove.ensures.keys ∙ ap (remove_key (is_at (nat_cmp n))) c.in_ok-note.ensures.ok
    ∙ key-back inside.empty.keys row below ∙ c.self.invariant ∙ ap empties (sym c.in-Err.ensures.err)

pub invariant_of-self-in_default : goal.invariant_of-self-in_default
invariant_of-self-in_default c =
    let n = c.args.part.number in
    c.in_ok-note.ensures.ok
    ∙ ap₂ (λ ks o. ks ++ empty_numbers (record { number = n; outline = o } ∷ [])) c.self.invariant c.of-outline.ensures
    ∙ sym (empty-push c.self.inside.parts c.args.part) ∙ ap empties (sym c.in_default.ensures.ok)
