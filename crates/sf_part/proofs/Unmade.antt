-- Numbers that are no location and no number of a slot stay so, unless they are the event's.
-- Names: `unmade-LAW`.
use Rattle.std.specs.Prelude.{◌≡◌, ◌≢◌, ◌⊎◌, ℕ, Some, None, is_some}
use Rattle.std.proofs.Common.{true≢false, sym, ap, ◌∙◌, inr}
use Rattle.sf_base.specs.declared.value.Value.{Value}
use Rattle.sf_base.specs.HeapStore.{Heap, Slot, Store, own}
use Rattle.sf_base.proofs.Options.{is_some-false}
use Rattle.sf_core.specs.Checked.Machine.Laws.{IsLeft, Makes}
use Rattle.sf_core.specs.Machine.Config.{Task, Common}
use Rattle.sf_core.specs.Machine.Enabled.{variable, cell, Reads, Writes}
use Rattle.sf_core.specs.Machine.Next.{Next}
use Rattle.sf_core.specs.Machine.Step.{Event, Goes}
use Rattle.sf_core.specs.Program.Syntax.{Program}
use Rattle.sf_core.proofs.Machine.Frames.{goes-not_at_no_cell, next-finds}
use Rattle.sf_core.proofs.Machine.Steps.{heap-by_next, store-by_next}
use Rattle.sf_part.specs.Keeps.{IsUnmade}
use Rattle.sf_part.proofs.Acts.{makes-number}

-- an unmade number has no cell, and no slot
pub unmade-heap : (cells : Heap) (slots : Store) (n : ℕ) → IsUnmade cells slots n → cells n ≡ None
unmade-heap cells slots n u = is_some-false (cells n) u.heap

pub unmade-store : (cells : Heap) (slots : Store) (n : ℕ) → IsUnmade cells slots n → (i : ℕ)
    → slots (own n i) ≡ None
unmade-store cells slots n u i = is_some-false (slots (own n i)) (u.store i)

module _ (p : Program) (ev : Event) (s t : Common) (what : Next) (u : Task)
    (goes : Goes p ev s what t u)
    (slots : (slot : Slot) → Reads s.store what (variable slot)
    ⊎ Writes s.store what (variable slot)
    → (v : Value) × (s.store slot ≡ Some v))
    (at : (location : ℕ) → Makes p ev what (cell location) → location ≡ ev.number) where
  -- another number stays unmade
  pub unmade-after : (n : ℕ) → n ≢ ev.number → IsUnmade s.heap s.store n → IsUnmade t.heap t.store n
  unmade-after n other m = record {
    positive = m.positive;
    heap = ap is_some (heap-by_next p ev s t what u goes n cell_left) ∙ m.heap;
    store = λ i. ap is_some (store-by_next p ev s t what u goes (own n i) (slot_left i))
        ∙ m.store i;
  }
    where
      cell_left : IsLeft p ev s.store what (cell n)
      cell_left = record {
        unwritten = λ x.
            let (k, e) = next-finds s what n (goes-not_at_no_cell p ev s t what u goes) (inr x) in
            true≢false (sym (ap is_some e) ∙ m.heap);
        not_made = λ x. other (at n x);
      }

      slot_left : (i : ℕ) → IsLeft p ev s.store what (variable (own n i))
      slot_left i = record {
        unwritten = λ x. let (v, e) = slots (own n i) (inr x) in
            true≢false (sym (ap is_some e) ∙ m.store i);
        not_made = λ x.
            let (j, e) = makes-number p ev what (own n i) x in
            let same : n ≡ ev.number = cc in other same;
      }
