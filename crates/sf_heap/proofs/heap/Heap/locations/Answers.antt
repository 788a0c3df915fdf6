use Rattle.std.proofs.Common.{◌∙◌, ◌++◌, Contains, is_some, sym, ap, subst}
use Rattle.std.proofs.lemmas.List.{map-append}
use Rattle.std.specs.FinMap.{contains_key, get}
use Rattle.sf_heap.specs.Checked.Entries.{places}
use Rattle.sf_heap.specs.Checked.Trees.{entries_of, kept, tops}
use Rattle.sf_heap.specs.declared.tree.Entry.{Entry}
use Rattle.sf_heap.proofs.Entries.{get-map_of}
use Rattle.sf_heap.proofs.Merges.{found-places, places-found}
use Rattle.sf_heap.proofs.heap.Heap.locations.Goals as goal

-- the numbers are the locations of all entries
pub returns : goal.returns
returns c =
    let hand = c.self.inside.hand in
    let cells = c.self.inside.cells in
    let es = kept hand cells in
    let first = c.in_ok-note_top.ensures ∙ ap (λ xs. xs ++ places (tops hand)) c.in_ok-numbers.ensures.items in
    let noted = c.in_ok-note.ensures ∙ ap (λ xs. xs ++ places (entries_of cells)) first
    ∙ sym (map-append (λ (e : Entry). e.at) (tops hand) (entries_of cells)) in
    λ l. (
      (λ has. (c.from_vec.ensures.same l).1 (subst (λ xs. Contains xs l) (sym noted) (found-places l es
          (ap is_some (sym (get-map_of es l) ∙ ap (λ m. get m l) c.self.view_is) ∙ has)))),
      (λ there. ap (λ m. contains_key m l) (sym c.self.view_is) ∙ ap is_some (get-map_of es l)
          ∙ places-found l es (subst (λ xs. Contains xs l) noted ((c.from_vec.ensures.same l).0 there))),
    )
