-- What a part keeps that takes back what its two children hold, and that this is a join.
-- Names: `joined-LAW`.
use Rattle.std.specs.Prelude.{◌≡◌, ◌+◌, ◌≤◌, ◌<◌, ℕ, zero, suc, cond, List, [], ◌∷◌, ◌++◌, drop, length, map, max, Option, Some, None, is_some, Contains}
use Rattle.std.specs.FinMap.{empty, get-empty}
use Rattle.std.specs.Option.{option_map}
use Rattle.std.specs.Ordering.{nat_cmp}
use Rattle.std.proofs.Common.{sym, ap, ap₂, ◌∙◌, refl, subst, inl, inr, arith, length-append}
use Rattle.std.proofs.lemmas.List.{map-append}
use Rattle.std.proofs.lemmas.List.Elements.{Contains-append_cases}
use Rattle.sf_base.proofs.Elements.{all_by-append}
use Rattle.sf_base.specs.declared.ids.ResId.{ResId}
use Rattle.sf_base.specs.HeapStore.{Heap, Store, own}
use Rattle.sf_core.specs.Machine.Config.{Frame, Path, runs, waits}
use Rattle.sf_core.specs.Machine.Next.{next}
use Rattle.sf_core.specs.Machine.Step.{Event}
use Rattle.sf_core.specs.Machine.Supplies.{has, lent, NextTakes, TakesNext}
use Rattle.sf_core.specs.Machine.Whole.{Part, Range, Stand, running, waiting, numbers}
use Rattle.sf_core.specs.Program.Syntax.{Program}
use Rattle.sf_foot.specs.Starting.{HasWidth}
use Rattle.sf_frame.specs.Commons.{common_of}
use Rattle.sf_frame.specs.declared.shared.Shared.{Shared}
use Rattle.sf_heap.specs.Cells.{cell_of}
use Rattle.sf_part.specs.Checked.Joined.{IsJoined}
use Rattle.sf_part.specs.Checked.KeepsIsProp.{AreOwn, AreOwn-prop, Keeps-prop}
use Rattle.sf_part.specs.Checked.Stepping.{own_event}
use Rattle.sf_part.specs.declared.log.Stamped.{Stamped as CodeStamped}
use Rattle.sf_part.specs.declared.part.Part.{Part as CodePart}
use Rattle.sf_part.specs.Joining.{GoesOnIn, MayJoin}
use Rattle.sf_part.specs.Keeps.{IsWaiting, Keeps}
use Rattle.sf_part.specs.Of.{AreInOrder, StandIsOf, frames_in, times_held}
use Rattle.sf_part.specs.Parts.{entry_of, part_with}
use Rattle.sf_part.specs.PartView.{IsPartOf, part_of}
use Rattle.sf_part.specs.Stands.{stand_in}
use Rattle.sf_part.specs.Steps.{HasChildren, Joins, common_of as part_common}
use Rattle.sf_part.specs.Timed.{IsInTime, Notes, Stamped, TimedPart}
use Rattle.sf_part.proofs.Performed.{performed-keeps}
use Rattle.sf_part.proofs.Ranges.{numbers_append}
use Rattle.sf_part.proofs.Supplies.{contains-count, count-append, times}
use Rattle.sf_part.proofs.Times.{logged-later}

few : (x y : ℕ) → x ≤ 1 → y ≤ 1 → (1 ≤ x → 1 ≤ y → ⊥) → x + y ≤ 1
few zero y a b never = omega arith
few (suc x) zero a b never = omega arith
few (suc x) (suc y) a b never = absurd (never (omega arith) (omega arith))

-- a number that is at most once in two lists, and not in both
once-both : (n : ℕ) (us ws : List ℕ) → times n us ≤ 1 → times n ws ≤ 1
    → (Contains us n → Contains ws n → ⊥) → times n (us ++ ws) ≤ 1
once-both n us ws a b never =
    let e = count-append n us ws in
    let s = few (times n us) (times n ws) a b
    (λ x y. never (contains-count n us x) (contains-count n ws y)) in
    omega arith

module _ (a one two : TimedPart) (may : MayJoin a one two) (k : Keeps a) (l : Keeps one)
    (r : Keeps two) where
  abbrev us : List ℕ
  us = numbers one.part.supply

  abbrev ws : List ℕ
  ws = numbers two.part.supply

  abbrev latest : ℕ
  latest = max a.clock (max one.clock two.clock)

  -- the part just before the event, with all that its children have
  abbrev merged : TimedPart
  merged = record {
    part = record may.all {
      stand = running (frames_in a.part.stand);
      supply = one.part.supply ++ two.part.supply;
    };
    clock = latest;
    keeps = a.keeps;
    log = a.log ++ (one.log ++ two.log);
    given = a.given;
  }

  both : numbers (one.part.supply ++ two.part.supply) ≡ us ++ ws
  both = numbers_append one.part.supply two.part.supply

  positive : (n : ℕ) → Contains (us ++ ws) n → 0 < n
  positive n h = elim (Contains-append_cases us ws n h) [
    | inl i ↦ (l.unmade n i).positive
    | inr i ↦ (r.unmade n i).positive
  ]

  merged-time : IsInTime merged
  merged-time =
      let P = λ (x : Stamped). x.stamp ≤ latest in
      let count : length (numbers (one.part.supply ++ two.part.supply)) ≡ length us + length ws =
      ap length both ∙ length-append us ws in
      let room = may.time in
      record {
        logged = all_by-append P a.log (one.log ++ two.log)
            (logged-later a.clock latest a.log (omega arith) (k.time).logged)
            (all_by-append P one.log two.log
            (logged-later one.clock latest one.log (omega arith) (l.time).logged)
            (logged-later two.clock latest two.log (omega arith) (r.time).logged));
        within = omega arith;
        unlogged = λ h. ap₂ (λ x y. x ++ y) ((k.time).unlogged h)
            (ap₂ (λ x y. x ++ y) ((l.time).unlogged (may.left_keeps ∙ h))
            ((r.time).unlogged (may.right_keeps ∙ h)));
      }

  merged-keeps : Keeps merged
  merged-keeps = record {
    once = λ n. subst (λ z. times n z ≤ 1) (sym both)
        (once-both n us ws (l.once n) (r.once n) (may.units n));
    unmade = λ n h.
        let there : Contains (us ++ ws) n = subst (λ z. Contains z n) both h in
        let none = may.unmade n there in
        record {
          positive = positive n there;
          heap = ap is_some none.0;
          store = λ i. ap is_some (none.1 i);
        };
    waiting = λ h. absurd h;
    time = merged-time;
  }

  -- what the part keeps after the event
  pub joined-keeps : (event : Event) (b : TimedPart)
      → us ++ ws ≡ event.number ∷ numbers b.part.supply → b.part.heap ≡ may.all.heap
      → b.part.store ≡ may.all.store → (IsWaiting b.part.stand → ⊥)
      → Notes latest (a.log ++ (one.log ++ two.log)) event a b → Keeps b
  joined-keeps event b spent heap store goes notes =
      performed-keeps event latest merged b merged-keeps (both ∙ spent)
      (λ n there other m. record {
        positive = m.positive;
        heap = ap (λ (h : Heap). is_some (h n)) heap ∙ m.heap;
        store = λ i. ap (λ (s : Store). is_some (s (own n i))) store ∙ m.store i;
      }) goes (omega arith) merged-time.within
      (record {
        keeps = notes.keeps;
        given = notes.given;
        clock_is = notes.clock_is;
        log_is = notes.log_is;
      })

-- the units that are left
pub joined-units : (one two supply rest : List Range) (n : ℕ) → supply ≡ one ++ two
    → numbers supply ≡ n ∷ drop 1 (numbers supply) → numbers rest ≡ drop 1 (numbers supply)
    → numbers one ++ numbers two ≡ n ∷ numbers rest
joined-units one two supply rest n all first others =
    sym (numbers_append one two) ∙ ap numbers (sym all) ∙ first ∙ ap (λ z. n ∷ z) (sym others)

-- the entries of the three logs, and what the event adds
pub joined-log : (first one two all after : List CodeStamped) (more : List Stamped)
    → all ≡ first ++ (one ++ two) → map entry_of after ≡ map entry_of all ++ more
    → map entry_of after
    ≡ (map entry_of first ++ (map entry_of one ++ map entry_of two)) ++ more
joined-log first one two all after more e f = f
    ∙ ap (λ z. z ++ more) (ap (map entry_of) e ∙ map-append entry_of first (one ++ two)
    ∙ ap (λ z. map entry_of first ++ z) (map-append entry_of one two))

-- a task that waits waits with its frames
waiting-is : (s : Stand) → IsWaiting s → s ≡ waiting (frames_in s)
waiting-is (running frames) h = absurd h
waiting-is (waiting frames) h = refl

module _ (a one two b : CodePart) (number : ℕ)
    (may : MayJoin (part_of a) (part_of one) (part_of two)) (made : IsJoined number one two a b)
  where
    abbrev frames : List Frame
    frames = frames_in (stand_in a.stand)

    -- the part with all that its children have
    abbrev all : Part
    all = record (part_of a).part {
      heap = (common_of b.shared).heap;
      store = (common_of b.shared).store;
    }

    children : HasChildren (part_of a).part (part_of one).part (part_of two).part all
    children = record {
      task = refl;
      stand = refl;
      holds = refl;
      heap = made.heap;
      store = made.store;
      left_one = may.children.left_one;
      right_one = may.children.right_one;
    }

    common-after : part_common (part_of b).part ≡ part_common all
    common-after = λ i. record {
      heap = (common_of b.shared).heap;
      store = (common_of b.shared).store;
      held = λ q. cond (is_some (made.held i q)) (Some (made.task i)) None;
    }

    takes : NextTakes (own_event a number) (next (waits frames (runs []) (runs [])))
        (lent (has (numbers one.supply)) (has (numbers two.supply))) (has (numbers b.supply))
    takes = (
      numbers b.supply,
      subst (λ z. TakesNext number z (numbers b.supply)) (sym made.units) (refl, refl),
      refl,
    )

    -- it is a join
    pub made-joins : (p : Program) → Joins p (own_event a number) (part_of a) (part_of one)
        (part_of two) (part_of b)
    made-joins p = record {
      all = all;
      frames = frames;
      kept = frames;
      children = children;
      left_keeps = may.left_keeps;
      right_keeps = may.right_keeps;
      left_ended = may.left_ended;
      right_ended = may.right_ended;
      acts = record {
        own = refl;
        task = made.task;
        from_is = waiting-is (stand_in a.stand) may.waits;
        to_is = made.stand;
        steps = (tt, tt, common-after, refl);
        slots = λ slot h. elim h [ inl x ↦ absurd x | inr y ↦ absurd y ];
      };
      spends = takes;
      notes = record {
        keeps = made.keeps;
        given = made.given;
        clock_is = let c = made.clock in omega arith;
        log_is = made.log;
      };
    }

    -- and the part is still the program's
    pub made-whole : (p : Program) → IsPartOf p a
        → GoesOnIn p (part_of a).part (part_of one).part (part_of two).part
        → HasWidth (length p.fields) b.shared.heap → b.blank ≡ a.blank → IsPartOf p b
    made-whole p of goes wide blank = record {
      is = record {
        stands = subst (StandIsOf p (common_of b.shared).store) (sym made.stand)
            (goes all children);
        inside = λ q. ap (λ z. times_held p q (frames_in z)) made.stand ∙ of.is.inside q
            ∙ ap (λ (f : ResId → Option Path). cond (is_some (f q)) 1 0) (sym made.held);
        order = subst (λ z. AreInOrder p (frames_in z)) (sym made.stand) of.is.order;
      };
      wide = wide;
      blank = blank ∙ of.blank;
    }

-- a part with other cells and slots
abbrev with_shared : (a : CodePart) (shared : Shared)
    → Keeps (part_with a.task a.stand shared a.supply a.clock a.keeps a.log.items a.given)
    → AreOwn shared.held a.task → CodePart
with_shared a shared kept owns = record {
  task = a.task;
  stand = a.stand;
  shared = shared;
  supply = a.supply;
  clock = a.clock;
  keeps = a.keeps;
  log = a.log;
  given = a.given;
  blank = a.blank;
  kept = kept;
  own = owns;
}

-- a part whose pieces are those of another is that one
pub same-whole : (a : CodePart) (shared : Shared) → shared ≡ a.shared
    → (kept : Keeps (part_with a.task a.stand shared a.supply a.clock a.keeps a.log.items a.given))
    → (owns : AreOwn shared.held a.task) → with_shared a shared kept owns ≡ a
same-whole a shared e =
    let P : Shared → Type 0 = λ s.
    (kept : Keeps (part_with a.task a.stand s a.supply a.clock a.keeps a.log.items a.given))
    → (owns : AreOwn s.held a.task) → with_shared a s kept owns ≡ a in
    subst P (sym e) (λ kept owns. λ i. with_shared a a.shared
    (Keeps-prop (part_of a) kept a.kept i) (AreOwn-prop a.shared.held a.task owns a.own i))

-- a part whose cells and log entries were taken
pub emptied-keeps : (a : CodePart) (shared : Shared) (log : List CodeStamped)
    → shared ≡ record a.shared { heap = empty } → log ≡ []
    → Keeps (part_with a.task a.stand shared a.supply a.clock a.keeps log a.given)
emptied-keeps a shared log e none =
    let P : Shared → Type 0 = λ s.
    Keeps (part_with a.task a.stand s a.supply a.clock a.keeps log a.given) in
    let Q : List CodeStamped → Type 0 = λ z. Keeps
    (part_with a.task a.stand (record a.shared { heap = empty }) a.supply a.clock a.keeps z
    a.given) in
    subst P (sym e) (subst Q (sym none) (record {
      once = a.kept.once;
      unmade = λ n h.
          let m = a.kept.unmade n h in
          record {
            positive = m.positive;
            heap = ap (λ o. is_some (option_map cell_of o)) (get-empty nat_cmp n);
            store = m.store;
          };
      waiting = a.kept.waiting;
      time = record {
        logged = tt;
        within = a.kept.time.within;
        unlogged = λ h. refl;
      };
    }))

pub emptied-own : (a : CodePart) (shared : Shared) → shared ≡ record a.shared { heap = empty }
    → AreOwn shared.held a.task
emptied-own a shared e =
    let P : Shared → Type 0 = λ s. AreOwn s.held a.task in
    subst P (sym e) a.own

-- room that is taken in the log changes nothing
pub same-log : (a : CodePart) (log : List CodeStamped) → log ≡ a.log.items
    → part_with a.task a.stand a.shared a.supply a.clock a.keeps log a.given ≡ part_of a
same-log a log e = ap (λ items.
    part_with a.task a.stand a.shared a.supply a.clock a.keeps items a.given) e

pub may-still : (a : CodePart) (one two : TimedPart) (log : List CodeStamped)
    → log ≡ a.log.items → MayJoin (part_of a) one two
    → MayJoin (part_with a.task a.stand a.shared a.supply a.clock a.keeps log a.given) one two
may-still a one two log e may =
    subst (λ (z : TimedPart). MayJoin z one two) (sym (same-log a log e)) may
