use Rattle.std.proofs.Common.{◌∙◌, ap, ap₂, inr, is_some, sym}
use Rattle.std.proofs.lemmas.Bool.{false≢true}
use Rattle.std.specs.FinMap.{get, insert}
use Rattle.std.specs.Option.{ghost_name_of}
use borrow.Follows.Closed.{read_of}
use Rattle.sf_base.proofs.Options.{is_some-map}
use Rattle.sf_heap.specs.Cells.{FieldValues}
use Rattle.sf_heap.specs.Checked.Entries.{found, map_of}
use Rattle.sf_heap.specs.Checked.Trees.{kept, tops}
use Rattle.sf_heap.specs.declared.tree.Tree.{Tree}
use Rattle.sf_heap.proofs.Clears.{clear-none}
use Rattle.sf_heap.proofs.Entries.{get-map_of}
use Rattle.sf_heap.proofs.Hands.{kept-set, top_found}
use Rattle.sf_heap.proofs.heap.Heap.get_mut.Goals as goal

-- the map ends with that cell there
pub returns-then-is_some : goal.returns-then-is_some
returns-then-is_some c =
    let hand = c.brought-hand.result.0 in
    let same = c.brought-hand.ensures.same
    ∙ ap₂ (λ (h : Tree) (t : Tree). map_of (kept h t)) c.replace-hand.ensures.value c.replace-cells.ensures.value ∙ c.self.view_is in
    let here = c.brought-hand.ensures.in_hand
    ∙ ap₂ (λ (h : Tree) (t : Tree). found c.args.at (kept h t)) c.replace-hand.ensures.value c.replace-cells.ensures.value
    ∙ sym (get-map_of (kept c.self.inside.hand c.self.inside.cells) c.args.at) ∙ ap (λ m. get m c.args.at) c.self.view_is in
    let there = ap is_some (sym c.top_at.ensures) ∙ is_some-map _ c.top_at.result ∙ sym c.is_some.ensures ∙ c.if-is_some.true in
    let ends = λ (w : FieldValues). kept-set hand c.brought-hand.result.1 c.args.at w there ∙ ap (λ m. insert m c.args.at w) same in (
      (λ i. read_of (ghost_name_of c.top_mut.result) (λ w. ends w i) (same i)),
      record { writes_back = tt; value = c.top_mut.ensures.value ∙ top_found hand c.args.at there ∙ here },
    )

-- there is none, and nothing changes
pub returns : goal.returns
returns c =
    let hand = c.brought-hand.result.0 in
    let same = c.brought-hand.ensures.same
    ∙ ap₂ (λ (h : Tree) (t : Tree). map_of (kept h t)) c.replace-hand.ensures.value c.replace-cells.ensures.value ∙ c.self.view_is in
    let here = c.brought-hand.ensures.in_hand
    ∙ ap₂ (λ (h : Tree) (t : Tree). found c.args.at (kept h t)) c.replace-hand.ensures.value c.replace-cells.ensures.value
    ∙ sym (get-map_of (kept c.self.inside.hand c.self.inside.cells) c.args.at) ∙ ap (λ m. get m c.args.at) c.self.view_is in
    let none = clear-none (λ q. found q (tops hand)) c.args.at (λ has. false≢true (sym c.if-is_some.false ∙ c.is_some.ensures
    ∙ sym (is_some-map _ c.top_at.result) ∙ ap is_some c.top_at.ensures ∙ has)) in
    (ap inr same, record { writes_back = tt; value = sym none ∙ here })
