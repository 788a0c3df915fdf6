-- The worked examples of the events of parts.
-- Names: each lemma has the name of the example's function.
use Rattle.sf_base.specs.declared.value.Value.{Value}
use Rattle.sf_base.proofs.HeapSplits.{one-single}
use Rattle.sf_part.specs.Given.{is_variable_of, IsContentOf}
use Rattle.sf_core.specs.Program.Syntax.{Resource}
use Rattle.sf_core.specs.Machine.Start.{entry_slot}
use Rattle.sf_core.specs.Assertions.Sat.{Sat}
use Rattle.sf_core.proofs.Machine.Examples.Runs.{one-sat, sat-one}
use Rattle.sf_core.specs.Checked.Machine.WholeExamples.{nils, cell_at}
use Rattle.std.proofs.lemmas.Bool.Decides.{nat_tests}
use Rattle.std.specs.Prelude.{◌≡◌, ℕ, Bool, true, false, cond, List, [], ◌∷◌, ◌++◌, ◌==◌, ◌/◌, map, max, suc, take, drop, length, Some, None, is_some, ◌&&◌, ltb}
use Rattle.std.specs.Option.{unwrap_or}
use Rattle.std.proofs.Common.{sym, ap, ap₂, ◌∙◌, refl, subst, inl, inr, arith, true≢false}
use Rattle.std.proofs.lemmas.Option.{none-some, same_Some}
use Rattle.sf_base.proofs.MapSplits.{empty_map, empty-holds, map-same, splits-empty_left, splits-empty_right, splits-has_right}
use Rattle.sf_base.specs.declared.path.Turn.TheVariants.{Left as left}
use Rattle.sf_base.specs.declared.value.Value.TheVariants.{Nil as nil, Loc as loc}
use Rattle.sf_base.specs.HeapStore.{Slot, Map, shared, own, Cell, Heap, IsOne, Store}
use Rattle.sf_core.specs.Checked.Machine.Examples.{event, forking, lock, one_in, skip, guarding, guarded, shared_one}
use Rattle.sf_core.specs.Machine.Config.{leave, Frame, Path, runs, waits, evaluate}
use Rattle.sf_core.specs.Machine.Enabled.{variable, Writes}
use Rattle.sf_core.specs.Machine.Next.{next}
use Rattle.sf_core.specs.Machine.Step.{Event, TaskStep, set_holder}
use Rattle.sf_core.specs.Machine.Supplies.{has, lent, NextTakes}
use Rattle.sf_core.specs.Machine.Whole.{running, numbers, IsUnion}
use Rattle.sf_part.specs.Checked.Examples.{frame, assigns, assigning, no_slots, enters, entering, shared_slot, inside, outside, forks, forker, noted_at, opened, forked, AssigningIsPrivate, OtherNumbersAreNotTaken, SpentPartsHaveNoEvent, OthersVariablesAreNotWritten, EventsAreLogged, EntersWithContent, FalseConditionsAreNotEntered, EntriesComeAfterContents, ExitsWithContent, ContentsGetTheExitsStamp, ForksInHalves, HalvesAreExact, LeftHalvesAreRoundedDown, JoinsKeepLogsInOrder, JoinsTakeTheLeftUnitsFirst, of_lock, JustTheContentIsGiven, MissingCellsAreNotGiven, MoreCellsAreNotGiven, KeptVariablesAreNotGiven}
use Rattle.sf_part.specs.Steps.{common_of, HasSlots, Forks}
use Rattle.sf_part.specs.Timed.{Stamped, TimedPart, noted}
use Rattle.sf_part.proofs.Beside.{takes-join, takes-next, takes-one}

-- the one slot that is written is the part's
assigning-slots : HasSlots assigning.part (next (runs (frame assigns ∷ [])))
assigning-slots slot (inl h) = absurd h
assigning-slots slot (inr h) = let same : slot ≡ own 0 0 = cc in (loc 1, ap (one_in (loc 1)) same)

pub assigning_is_private : AssigningIsPrivate
unfolding AssigningIsPrivate
assigning_is_private = record {
  frames = frame assigns ∷ [];
  kept = frame [] ∷ [];
  private = tt;
  acts = record {
    own = refl;
    task = refl;
    from_is = refl;
    to_is = refl;
    steps = (refl, refl);
    slots = assigning-slots;
  };
  spends = (6 ∷ [], (refl, refl), refl);
  notes = record { keeps = refl; given = refl; clock_is = refl; log_is = refl };
}

pub other_numbers_are_not_taken : OtherNumbersAreNotTaken
unfolding OtherNumbersAreNotTaken
other_numbers_are_not_taken path b e =
    let t = takes-one (event path 6) (next (runs e.frames)) (5 ∷ 6 ∷ []) (numbers b.part.supply)
    e.spends in
    let h : ◌≡◌ {A = ℕ} 5 6 = cc in
    absurd (omega arith)

pub spent_parts_have_no_event : SpentPartsHaveNoEvent
unfolding SpentPartsHaveNoEvent
spent_parts_have_no_event ev b e =
    let t : [] ≡ ev.number ∷ numbers b.part.supply =
    takes-one ev (next (runs e.frames)) [] (numbers b.part.supply) e.spends in absurd (cc)

-- the frames that run are these
frames-are : (fs gs : List Frame) → running fs ≡ running gs → fs ≡ gs
frames-are fs gs e = cc

pub others_variables_are_not_written : OthersVariablesAreNotWritten
unfolding OthersVariablesAreNotWritten
others_variables_are_not_written ev b e =
    let same = frames-are (frame assigns ∷ []) e.frames e.acts.from_is in
    let (v, h) = e.acts.slots (own 0 0)
    (inr (subst (λ z. Writes no_slots (next (runs z)) (variable (own 0 0))) same refl)) in
    none-some v h

pub events_are_logged : EventsAreLogged
unfolding EventsAreLogged
events_are_logged ev b none e = let h = sym none ∙ e.notes.log_is in absurd (cc)

-- the frames inside of the region
abbrev inside_frames : List Frame
inside_frames = frame (leave lock ∷ []) ∷ []

-- the condition's variable is the content's
entering-slots : HasSlots (record (entering.part) { store = shared_slot nil })
    (next (runs (frame enters ∷ [])))
entering-slots slot (inl (inl h)) = let same : slot ≡ shared lock 0 = cc in
    (nil, ap (shared_slot nil) same)
entering-slots slot (inl (inr h)) = absurd h
entering-slots slot (inr h) = absurd h

pub enters_with_content : EntersWithContent
unfolding EntersWithContent
enters_with_content = record {
  both = record (entering.part) { store = shared_slot nil };
  hand = record {
    task = refl;
    stand = refl;
    holds = refl;
    supply = refl;
    heap = splits-empty_left empty-holds;
    store = splits-empty_left empty-holds;
  };
  frames = frame enters ∷ [];
  kept = inside_frames;
  entry = (_, _, _, _, _, _, refl);
  acts = record {
    own = refl;
    task = refl;
    from_is = refl;
    to_is = refl;
    steps = (refl, refl, refl, refl);
    slots = entering-slots;
  };
  spends = (6 ∷ [], (refl, refl), refl);
  notes = record { keeps = refl; given = refl; clock_is = refl; log_is = refl };
}

pub false_conditions_are_not_entered : FalseConditionsAreNotEntered
unfolding FalseConditionsAreNotEntered
false_conditions_are_not_entered ev b e =
    let same = frames-are (frame enters ∷ []) e.frames (sym e.hand.stand ∙ e.acts.from_is) in
    let step = subst (λ z. TaskStep forking ev (common_of e.both) (runs z) (common_of b.part)
    (runs e.kept)) (sym same)
    e.acts.steps in
    let there : e.both.store (shared lock 0) ≡ Some (loc 1) = splits-has_right (shared lock 0)
    (loc 1) e.hand.store refl in
    let h : loc 1 ≡ nil = sym (ap (λ o. unwrap_or o nil) there) ∙ step.1 in
    absurd (cc)

pub entries_come_after_contents : EntriesComeAfterContents
unfolding EntriesComeAfterContents
entries_come_after_contents ev b early e =
    let h : b.clock ≡ 10 = e.notes.clock_is in
    absurd (omega arith)

-- after the exit nobody holds the resource
freed : (b : Bool) (x : Path) → None ≡ cond b None (cond b (Some x) None)
freed true x = refl
freed false x = refl

pub exits_with_content : ExitsWithContent
unfolding ExitsWithContent
exits_with_content = record {
  both = record (outside.part) { store = shared_slot nil; supply = [] };
  hand = record {
    task = refl;
    stand = refl;
    holds = refl;
    supply = refl;
    heap = splits-empty_left empty-holds;
    store = splits-empty_left empty-holds;
  };
  frames = inside_frames;
  kept = frame [] ∷ [];
  exit = (_, _, _, refl);
  acts = record {
    own = refl;
    task = refl;
    from_is = refl;
    to_is = refl;
    steps = (
      refl,
      ap (λ h. record (common_of (record (outside.part) { store = shared_slot nil })) { held = h })
          (map-same _ (set_holder lock None (common_of inside.part)).held
          (λ r. freed (r.0 == 0) (left ∷ []))),
      refl,
    );
    slots = λ slot h. elim h [ inl r ↦ absurd r | inr w ↦ absurd w ];
  };
  spends = ([], (refl, refl), refl);
  notes = record { keeps = refl; given = refl; clock_is = refl; log_is = refl };
  stamp = refl;
}

pub contents_get_the_exits_stamp : ContentsGetTheExitsStamp
unfolding ContentsGetTheExitsStamp
contents_get_the_exits_stamp ev b e =
    let h : b.clock ≡ 11 = e.notes.clock_is in
    let k : 10 ≡ b.clock = e.stamp in
    absurd (omega arith)

-- a map is the union of itself and two that are empty
nothing-else : {K X : Type 0} (w : Map K X) → IsUnion w (w ∷ empty_map ∷ empty_map ∷ [])
nothing-else w = (
  empty_map,
  splits-empty_right empty-holds,
  (
    empty_map,
    splits-empty_left empty-holds,
    (empty_map, splits-empty_left empty-holds, empty-holds),
  ),
)

-- no argument reads a variable
forking-slots : HasSlots (forker 5).part (next (runs (frame forks ∷ [])))
forking-slots slot (inl (inl h)) = absurd h
forking-slots slot (inl (inr h)) = absurd h
forking-slots slot (inr h) = absurd h

pub forks_in_halves : ForksInHalves
unfolding ForksInHalves
forks_in_halves = record {
  all = record (forked.part) { store = opened.store };
  frames = frame forks ∷ [];
  kept = frame [] ∷ [];
  left_frames = _;
  right_frames = _;
  fork = (_, _, _, _, _, _, refl);
  acts = record {
    own = refl;
    task = refl;
    from_is = refl;
    to_is = refl;
    steps = (omega arith, skip, skip, refl, refl, refl, refl);
    slots = forking-slots;
  };
  children = record {
    task = refl;
    stand = refl;
    holds = refl;
    heap = nothing-else empty_map;
    store = nothing-else opened.store;
    left_one = record { task = refl; holds = refl };
    right_one = record { task = refl; holds = refl };
  };
  left_begins = record { stand = refl; clock = refl; keeps = refl; log = refl; given = refl };
  right_begins = record { stand = refl; clock = refl; keeps = refl; log = refl; given = refl };
  spends = (6 ∷ 7 ∷ 8 ∷ 9 ∷ [], (refl, refl), refl);
  none_left = refl;
  notes = record { keeps = refl; given = refl; clock_is = refl; log_is = refl };
}

-- the units of a fork, by those that it leaves
halves : (ev : Event) (us rest ones twos : List ℕ) (b one two : TimedPart) (a : TimedPart)
    → (e : Forks forking ev a b one two) → numbers a.part.supply ≡ us → (n : ℕ) → us ≡ n ∷ rest
    → take (length rest / 2) rest ≡ ones → drop (length rest / 2) rest ≡ twos
    → (numbers one.part.supply ≡ ones) × (numbers two.part.supply ≡ twos)
halves ev us rest ones twos b one two a e is n first t d =
    let (f, below, place, c, g, todo, what) = e.fork in
    let (left_over, s, h) = subst (λ z. NextTakes ev z (has (numbers a.part.supply))
    (lent (has (numbers one.part.supply)) (has (numbers two.part.supply)))) what e.spends in
    let k = takes-next ev.number (numbers a.part.supply) left_over s in
    let q : n ∷ rest ≡ ev.number ∷ left_over = sym first ∙ sym is ∙ k in
    let r : left_over ≡ rest = cc in
    let x : numbers one.part.supply ≡ take (length left_over / 2) left_over = cc in
    let y : numbers two.part.supply ≡ drop (length left_over / 2) left_over = cc in
    (x ∙ ap (λ z. take (length z / 2) z) r ∙ t, y ∙ ap (λ z. drop (length z / 2) z) r ∙ d)

pub halves_are_exact : HalvesAreExact
unfolding HalvesAreExact
halves_are_exact ev b one two e =
    halves ev (5 ∷ 6 ∷ 7 ∷ 8 ∷ 9 ∷ []) (6 ∷ 7 ∷ 8 ∷ 9 ∷ []) (6 ∷ 7 ∷ []) (8 ∷ 9 ∷ []) b one two
    (forker 5) e refl 5 refl
    refl refl

pub left_halves_are_rounded_down : LeftHalvesAreRoundedDown
unfolding LeftHalvesAreRoundedDown
left_halves_are_rounded_down ev b one two e =
    halves ev (5 ∷ 6 ∷ 7 ∷ 8 ∷ []) (6 ∷ 7 ∷ 8 ∷ []) (6 ∷ []) (7 ∷ 8 ∷ []) b one two (forker 4) e
    refl 5 refl refl refl

pub joins_take_the_left_units_first : JoinsTakeTheLeftUnitsFirst
unfolding JoinsTakeTheLeftUnitsFirst
joins_take_the_left_units_first ev a one two b e l r =
    let t = takes-join ev (next (waits e.frames (runs []) (runs []))) (numbers one.part.supply)
    (numbers two.part.supply) (numbers b.part.supply) e.spends in
    let h : 6 ∷ 7 ∷ 9 ∷ [] ≡ ev.number ∷ numbers b.part.supply =
    sym (ap₂ (λ x y. x ++ y) l r) ∙ t in
    let n : 6 ≡ ev.number = cc in
    let m : 7 ∷ 9 ∷ [] ≡ numbers b.part.supply = cc in
    (sym n, sym m)

pub joins_keep_logs_in_order : JoinsKeepLogsInOrder
unfolding JoinsKeepLogsInOrder
joins_keep_logs_in_order ev a one two b e x y z keeps log left_log right_log =
    let clock : b.clock ≡ 10 = e.notes.clock_is
    ∙ ap (λ n. suc (max n (max one.clock two.clock))) x
    ∙ ap (λ n. suc (max 4 (max n two.clock))) y ∙ ap (λ n. suc (max 4 (max 6 n))) z in
    let entry : Stamped = record { stamp = b.clock; task = ev.task; number = ev.number } in
    let stamps : List Stamped → List ℕ = map (λ (s : Stamped). s.stamp) in (
      clock,
      ap stamps e.notes.log_is
          ∙ ap (λ l. stamps ((l ++ (one.log ++ two.log)) ++ noted a.keeps entry)) log
          ∙ ap (λ l. stamps ((noted_at 4 5 ∷ [] ++ (l ++ two.log)) ++ noted a.keeps entry))
          left_log
          ∙ ap (λ l. stamps ((noted_at 4 5 ∷ [] ++ (noted_at 6 6 ∷ [] ++ l))
          ++ noted a.keeps entry)) right_log
          ∙ ap (λ k. stamps ((noted_at 4 5 ∷ [] ++ (noted_at 6 6 ∷ [] ++ noted_at 9 8 ∷ []))
          ++ noted k entry)) keeps
          ∙ ap (λ n. 4 ∷ 6 ∷ 9 ∷ n ∷ []) clock,
    )

-- What is just a content
some-if : (b : Bool) (v : Value) → is_some (cond b (Some v) None) ≡ b
some-if true v = refl
some-if false v = refl

lock-slots : (v : Value) (slot : Slot) → is_some (shared_slot v slot) ≡ is_variable_of lock 1 slot
lock-slots v (shared q i) =
    let e : (i == 0) ≡ ltb i 1 = grind (arith, nat_tests) in
    some-if ((q.0 == 0) && (i == 0)) v ∙ ap (λ z. (q.0 == 0) && z) e
lock-slots v (own n i) = refl

pub just_the_content_is_given : JustTheContentIsGiven
unfolding JustTheContentIsGiven
just_the_content_is_given = record {
  resource = guarding;
  there = refl;
  variables = lock-slots (loc 1);
  invariant = one-sat shared_one (evaluate entry_slot (shared_slot (loc 1))) (cell_at 1) 1 nils refl
      (one-single 1 nils);
}

-- what satisfies the invariant has the cell at the variable
lock-cell : (store : Store) (heap : Heap) (c : IsContentOf guarded (of_lock store heap))
    → (location : ℕ) × (here : Cell) × (evaluate entry_slot store shared_one ≡ loc location)
    × IsOne location here heap
lock-cell store heap c =
    let same : guarding ≡ c.resource = same_Some guarding c.resource c.there in
    sat-one shared_one (evaluate entry_slot store) heap
    (subst (λ (r : Resource). Sat r.invariant.level (evaluate entry_slot store) (λ n. nil) heap)
    (sym same)
    c.invariant)

pub missing_cells_are_not_given : MissingCellsAreNotGiven
unfolding MissingCellsAreNotGiven
missing_cells_are_not_given c =
    let (location, here, is, one) = lock-cell (shared_slot (loc 1)) (λ location. None) c in
    none-some here one.here

pub more_cells_are_not_given : MoreCellsAreNotGiven
unfolding MoreCellsAreNotGiven
more_cells_are_not_given c =
    let (location, here, is, one) = lock-cell (shared_slot (loc 1))
    (λ l. cond (l == 1) (Some nils) (cell_at 2 l)) c in
    let at : 1 ≡ location = cc in
    none-some nils (sym (one.elsewhere 2 (λ e. let f : ◌≡◌ {A = ℕ} 2 1 = e
    ∙ sym at in absurd (omega arith))))

pub kept_variables_are_not_given : KeptVariablesAreNotGiven
unfolding KeptVariablesAreNotGiven
kept_variables_are_not_given c =
    let same : guarding ≡ c.resource = same_Some guarding c.resource c.there in
    true≢false (sym (c.variables (shared lock 0)
    ∙ ap (λ (r : Resource). is_variable_of lock (length r.variables) (shared lock 0)) (sym same)))
