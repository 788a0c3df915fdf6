-- The part with which a procedure starts from a fresh start.
-- Names: the lemma of the law has the name of its function.
use Rattle.std.specs.Prelude.{◌≡◌, ◌≢◌, ◌<◌, ℕ, true, List, [], ◌∷◌, map, length, Some}
use Rattle.std.specs.List.{slice_get}
use Rattle.std.proofs.Common.{sym, ap, ◌∙◌, refl, subst, inl, inr, arith}
use Rattle.std.proofs.lemmas.Bool.{cases_lt}
use Rattle.std.proofs.lemmas.Option.{same_Some}
use Rattle.sf_core.specs.Machine.Start.{Beginning, settled, fresh}
use Rattle.sf_core.specs.Program.Init.{init_name}
use Rattle.sf_core.specs.Program.Syntax.{Procedure, Program}
use Rattle.sf_foot.specs.Starting.{IsBeginning, store_of}
use Rattle.sf_heap.specs.Cells.{heap_of}
use Rattle.sf_part.specs.Checked.LawsOfSettingUp.{IsFresh}
use Rattle.sf_part.specs.First.{First, first_count}
use Rattle.sf_part.specs.Timed.{TimedContent}
use Rattle.sf_setup.specs.Checked.Laws.{FirstPartsBeginFresh}

is-fresh : (p : Program) (b : Beginning) → IsBeginning p true b → IsFresh b
is-fresh p settled k = absurd k
is-fresh p (fresh n h) k = tt

-- there is one fresh beginning of a program
same-fresh : (p : Program) (a b : Beginning) → IsBeginning p true a → IsBeginning p true b → a ≡ b
same-fresh p settled b k l = absurd k
same-fresh p (fresh n h) settled k l = absurd l
same-fresh p (fresh n h) (fresh m g) k l =
    let number : n.0 ≡ m.0 = first-number n.0 m.0 (k.1.0) (k.1.1) (l.1.0) (l.1.1) in
    let same : n ≡ m = λ i. record { 0 = number i } in
    let procedure : h ≡ g = same_Some h g
    (sym k.0 ∙ ap (λ z. slice_get p.procedures z) number ∙ l.0) in
    λ i. fresh (same i) (procedure i)
  where
    names : List (List ℕ)
    names = map (λ (g : Procedure). g.name) p.procedures

    first-number : (a b : ℕ) → slice_get names a ≡ Some init_name
        → ((j : ℕ) → j < a → slice_get names j ≢ Some init_name)
        → slice_get names b ≡ Some init_name
        → ((j : ℕ) → j < b → slice_get names j ≢ Some init_name) → a ≡ b
    first-number a b x u y v = elim (cases_lt a b) [
      | inl t ↦ absurd (v a t x)
      | inr t ↦ elim (cases_lt b a) [ inl q ↦ absurd (u b q y) | inr q ↦ omega (arith, t, q) ]
    ]

none-yet : (p : Program) (b : Beginning) (contents : List TimedContent) → IsFresh b
    → length contents ≡ first_count b p → contents ≡ []
none-yet p settled contents k e = absurd k
none-yet p (fresh n h) [] k e = refl
none-yet p (fresh n h) (x ∷ contents) k e = absurd (omega (arith, e))

pub first_parts_begin_fresh : FirstPartsBeginFresh
unfolding FirstPartsBeginFresh
first_parts_begin_fresh p f vars heap parts base count a contents with_ starts =
    let kind = starts.kind in
    let none = none-yet p starts.beginning contents (is-fresh p starts.beginning kind)
    (starts.is).each in
    let same_beginning : starts.beginning ≡ with_.beginning =
    same-fresh p starts.beginning with_.beginning kind with_.kind in
    let same_procedure : starts.procedure ≡ with_.procedure =
    same_Some starts.procedure with_.procedure (sym starts.there ∙ with_.there) in
    let store = store_of with_.beginning with_.procedure vars in
    let first : First p f with_.starts.procedure with_.starts.beginning store (heap_of heap) base
    count a [] =
    subst (λ z. First p f z with_.starts.beginning store (heap_of heap) base count a [])
    (same_Some starts.procedure with_.starts.procedure (sym starts.there ∙ with_.starts.there))
    (subst (λ z. First p f starts.procedure z store (heap_of heap) base count a [])
    (same_beginning ∙ sym with_.begins)
    (subst (λ z. First p f starts.procedure starts.beginning z (heap_of heap) base count a [])
    (λ i. store_of (same_beginning i) (same_procedure i) vars)
    (subst (λ z. First p f starts.procedure starts.beginning
    (store_of starts.beginning starts.procedure vars) (heap_of heap) base count a z) none
    starts.is))) in (
      none,
      record {
        entry = f;
        store = store;
        heap = heap_of heap;
        config = with_.config;
        base = base;
        count = count;
      },
      record {
        start = with_.starts;
        fresh = subst IsFresh (sym with_.begins) (is-fresh p with_.beginning with_.kind);
        first = first;
      },
      record {
        entry = refl;
        store = refl;
        cells = refl;
        config = refl;
        base_is = refl;
        count_is = refl;
      },
    )
