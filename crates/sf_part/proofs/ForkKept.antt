-- What the parts keep after a fork.
-- Names: `forked-LAW`.
use Rattle.std.specs.Prelude.{◌≡◌, ◌≤◌, ◌+◌, ℕ, [], ◌∷◌, ◌++◌, Contains, is_some}
use Rattle.std.proofs.Common.{sym, ap, ◌∙◌, subst, arith}
use Rattle.std.proofs.lemmas.List.Elements.{Contains-append_left, Contains-append_right}
use Rattle.sf_base.proofs.Elements.{contains-nil, contains-rest}
use Rattle.sf_base.proofs.MapSplits.{splits-lacks_both}
use Rattle.sf_base.proofs.Options.{is_some-false}
use Rattle.sf_base.specs.HeapStore.{Heap, Splits, Store, own}
use Rattle.sf_core.specs.Machine.Config.{runs, waits}
use Rattle.sf_core.specs.Machine.Next.{Next, next}
use Rattle.sf_core.specs.Machine.Step.{Event}
use Rattle.sf_core.specs.Machine.Supplies.{has, lent}
use Rattle.sf_core.specs.Machine.Whole.{numbers}
use Rattle.sf_core.specs.Program.Syntax.{Program}
use Rattle.sf_part.specs.Checked.LawsOfTime.{ForksStayInTime}
use Rattle.sf_part.specs.Keeps.{IsUnmade, IsWaiting, Keeps}
use Rattle.sf_part.specs.Steps.{Forks, common_of}
use Rattle.sf_part.specs.Timed.{IsInTime, TimedPart}
use Rattle.sf_part.proofs.Beside.{takes-at, takes-fork}
use Rattle.sf_part.proofs.Performed.{spent-other}
use Rattle.sf_part.proofs.Supplies.{count-append, count-cons, times}
use Rattle.sf_part.proofs.Times.{forks_stay_in_time}
use Rattle.sf_part.proofs.Unions.{union-focus, union-swap}
use Rattle.sf_part.proofs.Unmade.{unmade-after}

-- what is unmade stays so in a part of what is there
unmade-part : (heap cells others : Heap) (store slots rest : Store) (n : ℕ)
    → Splits heap cells others → Splits store slots rest → IsUnmade heap store n
    → IsUnmade cells slots n
unmade-part heap cells others store slots rest n s t m = record {
  positive = m.positive;
  heap = ap is_some (splits-lacks_both n s (is_some-false (heap n) m.heap)).0;
  store = λ i. ap is_some
      (splits-lacks_both (own n i) t (is_some-false (store (own n i)) (m.store i))).0;
}

module _ (p : Program) (ev : Event) (a b one two : TimedPart) (e : Forks p ev a b one two)
    (k : Keeps a) where
  abbrev what : Next
  what = next (runs e.frames)

  units : numbers a.part.supply ≡ ev.number ∷ (numbers one.part.supply ++ numbers two.part.supply)
  units = takes-fork ev what (numbers a.part.supply) (numbers one.part.supply)
      (numbers two.part.supply) e.fork e.spends

  in_time : IsInTime b × IsInTime one × IsInTime two
  unfolding ForksStayInTime
  in_time = forks_stay_in_time p ev a b one two e k.time

  -- the units that are left are unmade once the slots of both are there
  left : (n : ℕ) → Contains (numbers one.part.supply ++ numbers two.part.supply) n
      → IsUnmade e.all.heap e.all.store n
  left n h = unmade-after p ev (common_of a.part) (common_of e.all) what
      (waits e.kept (runs e.left_frames) (runs e.right_frames)) e.acts.steps e.acts.slots
      (takes-at p ev what (has (numbers a.part.supply))
      (lent (has (numbers one.part.supply)) (has (numbers two.part.supply))) e.spends) n
      (spent-other ev.number (numbers a.part.supply)
      (numbers one.part.supply ++ numbers two.part.supply) n units (k.once ev.number) h)
      (k.unmade n (subst (λ z. Contains z n) (sym units)
      (contains-rest ev.number (numbers one.part.supply ++ numbers two.part.supply) n h)))

  both : (m : ℕ) → times m (numbers one.part.supply) + times m (numbers two.part.supply) ≤ 1
  both m =
      let q = ap (times m) units
      ∙ count-cons m ev.number (numbers one.part.supply ++ numbers two.part.supply) in
      let r = count-append m (numbers one.part.supply) (numbers two.part.supply) in
      let h = k.once m in
      omega arith

  pub forked-parent : Keeps b
  forked-parent = record {
    once = λ m. let z : times m (numbers b.part.supply) ≡ 0 = ap (times m) e.none_left in
        omega arith;
    unmade = λ n h. absurd (contains-nil n (subst (λ z. Contains z n) e.none_left h));
    waiting = λ h. e.none_left;
    time = in_time.0;
  }

  pub forked-left : Keeps one
  forked-left = record {
    once = λ m. let h = both m in omega arith;
    unmade = λ n h.
        let cells = union-swap e.all.heap b.part.heap one.part.heap (two.part.heap ∷ [])
        e.children.heap in
        let slots = union-swap e.all.store b.part.store one.part.store (two.part.store ∷ [])
        e.children.store in
        unmade-part e.all.heap one.part.heap cells.0 e.all.store one.part.store slots.0 n cells.1
        slots.1
        (left n (Contains-append_left (numbers one.part.supply) (numbers two.part.supply) n h));
    waiting = λ h. absurd (subst IsWaiting e.left_begins.stand h);
    time = in_time.1;
  }

  pub forked-right : Keeps two
  forked-right = record {
    once = λ m. let h = both m in omega arith;
    unmade = λ n h.
        let cells = union-focus (b.part.heap ∷ one.part.heap ∷ []) two.part.heap [] e.all.heap
        e.children.heap in
        let slots = union-focus (b.part.store ∷ one.part.store ∷ []) two.part.store []
        e.all.store e.children.store in
        unmade-part e.all.heap two.part.heap cells.0 e.all.store two.part.store slots.0 n cells.1
        slots.1
        (left n (Contains-append_right (numbers one.part.supply) (numbers two.part.supply) n h));
    waiting = λ h. absurd (subst IsWaiting e.right_begins.stand h);
    time = in_time.2;
  }
