-- A fork that was planned and made lends just the shares of the two children.
-- Names: `split-LAW`.
use Rattle.std.specs.Prelude.{◌≡◌, ◌↔◌, ◌+◌, ℕ, Bool, true, false, cond, List, [], ◌∷◌, ◌++◌, drop, map, Option, Some, None, Contains, is_some, length}
use Rattle.std.specs.FinMap.{get}
use Rattle.std.proofs.Common.{true≢false, sym, ap, ◌∙◌, refl, subst, inl, inr, arith}
use Rattle.std.proofs.lemmas.Option.{same_Some}
use Rattle.sf_base.proofs.MapSplits.{empty-holds, empty_map, map-same, splits-empty_right, splits-has_left, splits-has_right}
use Rattle.sf_base.proofs.Options.{is_some-map, some-or_none}
use Rattle.sf_base.specs.declared.ids.ResId.{ResId}
use Rattle.sf_base.specs.declared.path.Turn.TheVariants.{Left as left_turn, Right as right_turn}
use Rattle.sf_base.specs.declared.value.Value.TheVariants.{Nil as nil}
use Rattle.sf_base.specs.HeapStore.{Apart, Heap, Map, Slot, Splits, Store}
use Rattle.sf_core.specs.Assertions.Sat.{Foot, Sat, value}
use Rattle.sf_core.specs.Machine.Config.{command, in_room, Frame, runs, waits, Path, Common, evaluate}
use Rattle.sf_core.specs.Machine.Next.{next}
use Rattle.sf_core.specs.Machine.Step.{Event, TaskStep, arguments, callee_frame, open_room, procedure_at, room_count, room_for}
use Rattle.sf_core.specs.Machine.Supplies.{has, lent, NextTakes}
use Rattle.sf_core.specs.Machine.Whole.{IsUnion, Part, Range, running, waiting, numbers}
use Rattle.sf_core.specs.Program.Formed.{IsFormed}
use Rattle.sf_core.specs.Program.Syntax.{fork, Procedure, Program}
use Rattle.sf_foot.specs.Footprint.{IsFootprint}
use Rattle.sf_foot.specs.Starting.{HasWidth}
use Rattle.sf_frame.specs.Checked.Frames.{moved}
use Rattle.sf_frame.specs.Checked.Nexts.{frames_with}
use Rattle.sf_frame.specs.Commons.{common_of, held_of}
use Rattle.sf_frame.specs.declared.frame.Way.TheVariants.{Past}
use Rattle.sf_frame.specs.declared.shared.Shared.{Shared}
use Rattle.sf_frame.specs.declared.stack.Change.TheVariants.{GoOn}
use Rattle.sf_frame.specs.Frames.{frame_of}
use Rattle.sf_frame.specs.Stores.{store_of}
use Rattle.sf_heap.specs.Cells.{AreAt, Cells, cell_of, heap_of}
use Rattle.sf_part.specs.Checked.Children.{AreLent, HasJust, HasNoneLent, seen_by}
use Rattle.sf_part.specs.Checked.Halving.{AreHalves}
use Rattle.sf_part.specs.Checked.Splitting.{IsForked, IsLent, begun_of, forked_of}
use Rattle.sf_part.specs.Checked.Stepping.{own_event}
use Rattle.sf_part.specs.declared.log.Stamped.{Stamped as CodeStamped}
use Rattle.sf_part.specs.declared.part.Part.{Part as CodePart}
use Rattle.sf_part.specs.declared.splitting.Begun.{Begun}
use Rattle.sf_part.specs.declared.splitting.Forked.{Forked}
use Rattle.sf_part.specs.declared.stand.Stand.{Stand as CodeStand}
use Rattle.sf_part.specs.Forking.{HasNoShares}
use Rattle.sf_part.specs.Keeps.{Keeps}
use Rattle.sf_part.specs.Lent.{IsNamed, IsShareOf, Lends}
use Rattle.sf_part.specs.Of.{AreInOrder, IsOf, StandIsOf, frames_in, times_held, without}
use Rattle.sf_part.specs.Parts.{entry_of, part_with}
use Rattle.sf_part.specs.PartView.{IsPartOf, part_of}
use Rattle.sf_part.specs.Stands.{stand_in}
use Rattle.sf_part.specs.Steps.{Forks, common_of as part_common}
use Rattle.sf_part.specs.Timed.{TimedPart, noted}
use Rattle.sf_part.proofs.Beside.{takes-fork}
use Rattle.sf_part.proofs.Callees.{fork-first, fork-frames, fork-grows, fork-left, fork-left_of, fork-order, fork-right, fork-right_of}
use Rattle.sf_part.proofs.Exits.{same-there}
use Rattle.sf_part.proofs.ForkKept.{forked-left, forked-parent, forked-right}
use Rattle.sf_part.proofs.Giving.{given-same}
use Rattle.sf_part.proofs.Made.{part-common}
use Rattle.sf_part.proofs.Orders.{order-on}
use Rattle.sf_part.proofs.Owned.{command-there, frames-grow, goes-frame, grows-cond}
use Rattle.sf_part.proofs.Sites.{sites-rest}
use Rattle.sf_part.proofs.Unions.{union-focus, union-swap}

-- what is beside a map in another is apart from each part of that one
module _ {K X : Type 0} where
  apart-in : (whole one rest two others : Map K X) → Splits whole one rest → Splits rest two others
      → (key : K) → Apart (one key) (two key)
  apart-in whole one rest two others s t key =
      go (one key) (two key) (rest key) (s.apart key) (λ v e. splits-has_left key v t e)
    where
      go : (x y z : Option X) → Apart x z → ((v : X) → y ≡ Some v → z ≡ Some v) → Apart x y
      go None y z a h = tt
      go (Some x) None z a h = tt
      go (Some x) (Some y) z a h = subst (Apart (Some x)) (h y refl) a

  -- two maps that are taken out of a third, one after the other
  taken-out : (whole one less two rest : Map K X) → Splits whole one less → Splits less two rest
      → IsUnion whole (rest ∷ one ∷ two ∷ [])
  taken-out whole one less two rest s t = union-focus (one ∷ two ∷ []) rest [] whole (
    less,
    s,
    (rest, t, (empty_map, splits-empty_right empty-holds, empty-holds)),
  )

-- what is there in a part is there in the whole
sub-there : (whole part rest : Store) → Splits whole part rest → (slot : Slot)
    → is_some (part slot) ≡ true → is_some (whole slot) ≡ true
sub-there whole part rest s slot h = elim (some-or_none (part slot)) [
  | inl v ↦ ap is_some (splits-has_left slot v.0 s v.1)
  | inr n ↦ absurd (true≢false (sym h ∙ ap is_some n))
]

-- cells at the locations of a footprint are the footprint
cells-same : (whole : Heap) (at : List ℕ) (cells : Cells) (part others : Heap)
    → Splits whole part others → ((l : ℕ) → (part l ≡ None → ⊥) ↔ Contains at l)
    → AreAt at cells
    → ((l : ℕ) (v : _) → heap_of cells l ≡ Some v → whole l ≡ Some v) → part ≡ heap_of cells
cells-same whole at cells part others s is are sub = map-same part (heap_of cells) (λ l.
    given-same (part l) (heap_of cells l) (whole l)
    (same-there (part l) (get cells l) _ (is l) (are l) ∙ sym (is_some-map cell_of (get cells l)))
    (λ v e. splits-has_left l v s e) (sub l))

-- what a fork comes to that was made: the shares are lent, its three parts keep what parts keep and are
-- the program's, and their cells keep their fields
pub record Made (p : Program) (event : Event) (a : CodePart) (now : Shared) (one two : Begun)
    (after first second : TimedPart) : Type 0 where
  pub lends : Lends p event (part_of a) after first second
  pub kept : Keeps after
  pub left_kept : Keeps first
  pub right_kept : Keeps second
  pub held : (common_of now).held ≡ (common_of a.shared).held
  pub of : IsOf p after.part
  pub left_of : IsOf p first.part
  pub right_of : IsOf p second.part
  pub left_wide : HasWidth (length p.fields) one.shared.heap
  pub right_wide : HasWidth (length p.fields) two.shared.heap
  pub wide : HasWidth (length p.fields) now.heap

module _ (p : Program) (formed : IsFormed p) (a : CodePart) (of : IsPartOf p a) (number : ℕ)
    (units : numbers a.supply ≡ number ∷ drop 1 (numbers a.supply)) (x : Forked)
    (s : IsForked p a number x) where
  abbrev before : Common
  before = common_of a.shared

  abbrev opened : Common
  opened = forked_of x before

  abbrev old : List Frame
  old = frames_with s.fixed (command (fork s.place s.one s.two) ∷ s.rest) s.below

  abbrev kept : List Frame
  kept = frames_with s.fixed s.rest s.below

  abbrev one_frame : Frame
  one_frame = frame_of x.left.frame

  abbrev two_frame : Frame
  two_frame = frame_of x.right.frame

  abbrev one_proc : Procedure
  one_proc = s.does.1

  abbrev two_proc : Procedure
  two_proc = s.does.2

  one_callee : procedure_at p x.callees.0 ≡ Some one_proc
  one_callee = ap (procedure_at p) s.left_is ∙ s.does.3

  two_callee : procedure_at p x.callees.1 ≡ Some two_proc
  two_callee = ap (procedure_at p) s.right_is ∙ s.does.4

  one_there : procedure_at p one_frame.fixed.procedure ≡ Some one_proc
  one_there = ap (procedure_at p) (fork-first p formed a of number x s).left_first.callee_is
      ∙ one_callee

  two_there : procedure_at p two_frame.fixed.procedure ≡ Some two_proc
  two_there = ap (procedure_at p) (fork-first p formed a of number x s).right_first.callee_is
      ∙ two_callee

  -- Where no two shares are there
  module _ (none : HasNoneLent p one_frame two_frame one_proc two_proc opened) (event : Event)
      (b one two : TimedPart) (e : Lends p event (part_of a) b one two) where
    abbrev f : Forks p event (part_of a) b one two
    f = e.forks

    frames : f.frames ≡ old
    frames =
        let same : running f.frames ≡ running old = sym f.acts.from_is ∙ s.stand in cc

    steps : TaskStep p event before (runs old) (part_common f.all)
        (waits f.kept (runs f.left_frames) (runs f.right_frames))
    steps = subst (λ z. TaskStep p event z (runs old) (part_common f.all)
        (waits f.kept (runs f.left_frames) (runs f.right_frames))) (part-common a)
        (subst (λ z. TaskStep p event (part_common (part_of a).part) (runs z) (part_common f.all)
        (waits f.kept (runs f.left_frames) (runs f.right_frames))) frames f.acts.steps)

    same_number : event.number ≡ number
    same_number =
        let q : event.number ∷ (numbers one.part.supply ++ numbers two.part.supply)
        ≡ number ∷ drop 1 (numbers a.supply) =
        sym (takes-fork event (next (runs f.frames)) (numbers a.supply)
        (numbers one.part.supply) (numbers two.part.supply) f.fork f.spends) ∙ units in
        cc

    same_one : steps.1 ≡ one_proc
    same_one = same_Some steps.1 one_proc (sym steps.3 ∙ s.does.3)

    same_two : steps.2 ≡ two_proc
    same_two = same_Some steps.2 two_proc (sym steps.4 ∙ s.does.4)

    all_is : part_common f.all ≡ opened
    all_is = steps.5
        ∙ (λ i. open_room (room_for (same_two i) (same_number i) (room_count (same_one i)))
        (arguments s.fixed.slots before.store s.two)
        (open_room (room_for (same_one i) (same_number i) 0)
        (arguments s.fixed.slots before.store s.one) before))
        ∙ sym s.does.5

    tasks : waits f.kept (runs f.left_frames) (runs f.right_frames)
        ≡ waits kept
        (runs (callee_frame s.fixed.slots s.one steps.1 (room_for steps.1 event.number 0) ∷ []))
        (runs (callee_frame s.fixed.slots s.two steps.2
        (room_for steps.2 event.number (room_count steps.1)) ∷ []))
    tasks = steps.6

    one_is : e.left ≡ one_frame
    one_is =
        let t = tasks in
        let runs_left : running f.left_frames ≡ running (e.left ∷ []) =
        sym f.left_begins.stand ∙ e.left_runs in
        let now : e.left ≡ callee_frame s.fixed.slots s.one steps.1
        (room_for steps.1 event.number 0) = cc in
        now
        ∙ (λ i. callee_frame s.fixed.slots s.one (same_one i)
        (room_for (same_one i) (same_number i) 0))
        ∙ sym (fork-left p formed a of number x s)

    two_is : e.right ≡ two_frame
    two_is =
        let t = tasks in
        let runs_right : running f.right_frames ≡ running (e.right ∷ []) =
        sym f.right_begins.stand ∙ e.right_runs in
        let now : e.right ≡ callee_frame s.fixed.slots s.two steps.2
        (room_for steps.2 event.number (room_count steps.1)) = cc in
        now
        ∙ (λ i. callee_frame s.fixed.slots s.two (same_two i)
        (room_for (same_two i) (same_number i) (room_count (same_one i))))
        ∙ sym (fork-right p formed a of number x s)

    -- each share is one of what is there then
    just : (frame : Frame) (g : Procedure) (kid : Part) (rest : Store)
        → Splits f.all.store kid.store rest
        → ((slot : Slot) → (is_some (kid.store slot) ≡ true) ↔ IsNamed p frame g slot)
        → HasJust p frame g opened.store kid.store
    just frame g kid rest t named = record {
      variables = named;
      values = λ slot v q. sym (ap (λ (z : Common). z.store slot) all_is)
          ∙ splits-has_left slot v t q;
    }

    foot : (frame : Frame) (g : Procedure) (kid : Part) (rest : Heap)
        → Splits f.all.heap kid.heap rest
        → Sat g.pre.level (evaluate frame.fixed.slots kid.store) (λ n. nil) kid.heap
        → Foot g.pre.level (value (seen_by frame kid.store)) opened.heap kid.heap
    foot frame g kid rest t sat = record {
      rest = rest;
      splits = subst (λ (z : Common). Splits z.heap kid.heap rest) all_is t;
      sat = sat;
    }

    pub split-nothing : ⊥
    split-nothing =
        let one_share = subst (λ z. IsShareOf p z one.part) one_is e.left_exactly in
        let two_share = subst (λ z. IsShareOf p z two.part) two_is e.right_exactly in
        let one_same : one_share.procedure ≡ one_proc =
        same_Some one_share.procedure one_proc (sym one_share.there ∙ one_there) in
        let two_same : two_share.procedure ≡ two_proc =
        same_Some two_share.procedure two_proc (sym two_share.there ∙ two_there) in
        let one_slots = union-swap f.all.store b.part.store one.part.store (two.part.store ∷ [])
        f.children.store in
        let two_slots = union-focus (b.part.store ∷ one.part.store ∷ []) two.part.store []
        f.all.store f.children.store in
        let one_cells = union-swap f.all.heap b.part.heap one.part.heap (two.part.heap ∷ [])
        f.children.heap in
        let two_cells = union-focus (b.part.heap ∷ one.part.heap ∷ []) two.part.heap []
        f.all.heap f.children.heap in
        let (u, h, (v, i, (w, j, k))) = f.children.store in
        let (u', h', (v', i', (w', j', k'))) = f.children.heap in
        none one.part.store two.part.store one.part.heap two.part.heap
        (just one_frame one_proc one.part one_slots.0 one_slots.1
        (λ slot. subst (λ (z : Procedure). (is_some (one.part.store slot) ≡ true)
        ↔ IsNamed p one_frame z slot) one_same (one_share.variables slot)))
        (just two_frame two_proc two.part two_slots.0 two_slots.1
        (λ slot. subst (λ (z : Procedure). (is_some (two.part.store slot) ≡ true)
        ↔ IsNamed p two_frame z slot) two_same (two_share.variables slot)))
        (apart-in u one.part.store v two.part.store w i j)
        (foot one_frame one_proc one.part one_cells.0 one_cells.1
        (subst (λ (z : Procedure). Sat z.pre.level
        (evaluate one_frame.fixed.slots one.part.store) (λ n. nil) one.part.heap) one_same
        one_share.precondition))
        (foot two_frame two_proc two.part two_cells.0 two_cells.1
        (subst (λ (z : Procedure). Sat z.pre.level
        (evaluate two_frame.fixed.slots two.part.store) (λ n. nil) two.part.heap) two_same
        two_share.precondition))
        (apart-in u' one.part.heap v' two.part.heap w' i' j')

  pub split-none : ((g k : Procedure) → procedure_at p x.callees.0 ≡ Some g
      → procedure_at p x.callees.1 ≡ Some k → HasNoneLent p one_frame two_frame g k opened)
      → HasNoShares p (part_of a)
  split-none none event b one two e =
      split-nothing (none one_proc two_proc one_callee two_callee) event b one two e

  -- Where they are out
  module _ (fields : ℕ) (now : Shared) (one two : Begun)
      (made : IsLent p x fields a.shared now one two) (one_units two_units : List Range)
      (halves : AreHalves (drop 1 (numbers a.supply)) (numbers one_units) (numbers two_units))
      (stand : CodeStand)
      (stands : stand_in stand ≡ waiting (moved (GoOn Past) (frames_in (stand_in a.stand))))
      (log : List CodeStamped)
      (notes : map entry_of log ≡ map entry_of a.log.items
      ++ noted a.keeps (record { stamp = a.clock + 1; task = a.task; number = number }))
      (nothing : List Range) (no_units : numbers nothing ≡ []) (one_task two_task : Path)
      (one_path : one_task ≡ a.task ++ left_turn ∷ [])
      (two_path : two_task ≡ a.task ++ right_turn ∷ []) where
    abbrev after : TimedPart
    after = part_with a.task stand now nothing (a.clock + 1) a.keeps log a.given

    abbrev first : TimedPart
    first = begun_of one_task one one_units (a.clock + 1) a.keeps

    abbrev second : TimedPart
    second = begun_of two_task two two_units (a.clock + 1) a.keeps

    out : AreLent p one_frame two_frame one_proc two_proc made.all made.out.shares.left
        made.out.shares.right
    out = made.out.lent one_proc two_proc one_callee two_callee

    stand_now : stand_in stand ≡ waiting kept
    stand_now = stands ∙ ap (λ z. waiting (moved (GoOn Past) (frames_in z))) s.stand

    split-held : (common_of now).held ≡ before.held
    split-held = made.out.right_out.held ∙ made.out.left_out.held
        ∙ ap (λ (z : Common). z.held) made.opens

    cells_out : IsUnion opened.heap (heap_of now.heap ∷ heap_of one.shared.heap
        ∷ heap_of two.shared.heap ∷ [])
    cells_out = subst (λ (z : Common). IsUnion z.heap (heap_of now.heap
        ∷ heap_of one.shared.heap ∷ heap_of two.shared.heap ∷ [])) made.opens
        (taken-out (heap_of made.all.heap) (heap_of one.shared.heap) (heap_of made.out.less.heap)
        (heap_of two.shared.heap) (heap_of now.heap) made.out.left_out.heap
        made.out.right_out.heap)

    slots_out : IsUnion opened.store (store_of now.store ∷ store_of one.shared.store
        ∷ store_of two.shared.store ∷ [])
    slots_out = subst (λ (z : Common). IsUnion z.store (store_of now.store
        ∷ store_of one.shared.store ∷ store_of two.shared.store ∷ [])) made.opens
        (taken-out (store_of made.all.store) (store_of one.shared.store)
        (store_of made.out.less.store)
        (store_of two.shared.store) (store_of now.store) made.out.left_out.store
        made.out.right_out.store)

    -- the part with all that its children have
    abbrev all : Part
    all = record after.part { heap = opened.heap; store = opened.store }

    holders_now : (part_common all).held ≡ opened.held
    holders_now = (λ i. λ r. cond (is_some (split-held i r)) (Some a.task) None)
        ∙ ap (λ (z : Common). z.held) (part-common a)

    all_common : part_common all ≡ opened
    all_common = λ i. record {
      heap = opened.heap;
      store = opened.store;
      held = holders_now i;
    }

    abbrev holds_of : Shared → ResId → Bool
    holds_of begun r = is_some (held_of begun.held r)

    abbrev no_resource : ResId → Bool
    no_resource r = false

    nobody : (begun : Shared) → (common_of begun).held ≡ (λ r. None)
        → holds_of begun ≡ no_resource
    nobody begun h = λ i. λ r. is_some (h i r)

    pub split-forks : Forks p (own_event a number) (part_of a) after first second
    split-forks = record {
      all = all;
      frames = old;
      kept = kept;
      left_frames = one_frame ∷ [];
      right_frames = two_frame ∷ [];
      fork = (s.fixed, s.below, s.place, s.one, s.two, s.rest, refl);
      acts = record {
        own = refl;
        task = refl;
        from_is = s.stand;
        to_is = stand_now;
        steps = subst (λ z. TaskStep p (own_event a number) (part_common (part_of a).part)
            (runs old) z (waits kept (runs (one_frame ∷ [])) (runs (two_frame ∷ []))))
            (sym all_common)
            (subst (λ z. TaskStep p (own_event a number) z (runs old) opened
            (waits kept (runs (one_frame ∷ [])) (runs (two_frame ∷ []))))
            (sym (part-common a)) s.does);
        slots = λ slot h. command-there p formed before.store s.fixed
            (fork s.place s.one s.two) s.rest (fork-frames p formed a of number x s).0 refl slot h;
      };
      children = record {
        task = refl;
        stand = refl;
        holds = refl;
        heap = cells_out;
        store = slots_out;
        left_one = record { task = one_path; holds = nobody one.shared made.out.left_out.none };
        right_one = record { task = two_path; holds = nobody two.shared made.out.right_out.none };
      };
      left_begins = record {
        stand = ap running made.out.left_stack;
        clock = refl;
        keeps = refl;
        log = refl;
        given = refl;
      };
      right_begins = record {
        stand = ap running made.out.right_stack;
        clock = refl;
        keeps = refl;
        log = refl;
        given = refl;
      };
      spends = subst (λ z. NextTakes (own_event a number) (next (runs old)) (has z)
          (lent (has (numbers one_units)) (has (numbers two_units)))) (sym units) (
            drop 1 (numbers a.supply),
            (refl, refl),
            (λ i. lent (has (halves.first i)) (has (halves.second i))),
          );
      none_left = no_units;
      notes = record { keeps = refl; given = refl; clock_is = omega arith; log_is = notes };
    }

    -- what each child has
    one_just : HasJust p one_frame one_proc opened.store (store_of one.shared.store)
    one_just = subst (λ (z : Store). HasJust p one_frame one_proc opened.store z)
        (sym made.out.left_out.is_share)
        (subst (λ (z : Common). HasJust p one_frame one_proc z.store
        (store_of made.out.shares.left.store)) made.opens out.one_just)

    two_just : HasJust p two_frame two_proc opened.store (store_of two.shared.store)
    two_just = subst (λ (z : Store). HasJust p two_frame two_proc opened.store z)
        (sym made.out.right_out.is_share)
        (subst (λ (z : Common). HasJust p two_frame two_proc z.store
        (store_of made.out.shares.right.store)) made.opens out.two_just)

    one_cells : out.one_foot.part ≡ heap_of one.shared.heap
    one_cells = cells-same (heap_of made.all.heap) made.out.shares.left.at one.shared.heap
        out.one_foot.part out.one_foot.foot.rest out.one_foot.foot.splits out.one_foot.at
        made.out.left_out.at
        (λ l v e. splits-has_left l v made.out.left_out.heap e)

    two_cells : out.two_foot.part ≡ heap_of two.shared.heap
    two_cells = cells-same (heap_of made.all.heap) made.out.shares.right.at two.shared.heap
        out.two_foot.part out.two_foot.foot.rest out.two_foot.foot.splits out.two_foot.at
        made.out.right_out.at
        (λ l v e. splits-has_right l v made.out.left_out.heap
        (splits-has_left l v made.out.right_out.heap e))

    share-of : (frame : Frame) (g : Procedure) (kid : Part) (at : List ℕ) (share : Store)
        → procedure_at p frame.fixed.procedure ≡ Some g
        → HasJust p frame g opened.store kid.store → kid.store ≡ share
        → (foot : IsFootprint g.pre.level (seen_by frame share) (heap_of made.all.heap) at)
        → foot.part ≡ kid.heap → IsShareOf p frame kid
    share-of frame g kid at share there just is foot cells = record {
      procedure = g;
      there = there;
      variables = just.variables;
      precondition = subst (λ (z : Heap). Sat g.pre.level
          (evaluate frame.fixed.slots kid.store) (λ n. nil) z) cells
          (subst (λ (z : Store). Sat g.pre.level (value (seen_by frame z)) (λ n. nil) foot.part)
          (sym is) foot.foot.sat);
    }

    split-lends : Lends p (own_event a number) (part_of a) after first second
    split-lends = record {
      forks = split-forks;
      left = one_frame;
      right = two_frame;
      left_runs = ap running made.out.left_stack;
      right_runs = ap running made.out.right_stack;
      left_exactly = share-of one_frame one_proc first.part made.out.shares.left.at
          (store_of made.out.shares.left.store) one_there one_just made.out.left_out.is_share
          out.one_foot one_cells;
      right_exactly = share-of two_frame two_proc second.part made.out.shares.right.at
          (store_of made.out.shares.right.store) two_there two_just made.out.right_out.is_share
          out.two_foot two_cells;
    }

    split-kept : Keeps after
    split-kept = forked-parent p (own_event a number) (part_of a) after first second split-forks
        a.kept

    split-left_kept : Keeps first
    split-left_kept = forked-left p (own_event a number) (part_of a) after first second
        split-forks a.kept

    split-right_kept : Keeps second
    split-right_kept = forked-right p (own_event a number) (part_of a) after first second
        split-forks a.kept

    -- all three are the program's
    split-left_of : IsOf p first.part
    split-left_of = fork-left_of p formed a of number x s opened.store first.part one_just
        (ap running made.out.left_stack) (nobody one.shared made.out.left_out.none)

    split-right_of : IsOf p second.part
    split-right_of = fork-right_of p formed a of number x s opened.store second.part two_just
        (ap running made.out.right_stack) (nobody two.shared made.out.right_out.none)

    split-of : IsOf p after.part
    split-of = record {
      stands = subst (StandIsOf p (store_of now.store)) (sym stand_now) (
        opened.store,
        sub-there opened.store (store_of now.store) slots_out.0 slots_out.1,
        (
          goes-frame p before.store opened.store s.fixed
              (command (fork s.place s.one s.two) ∷ s.rest) s.rest
              (fork-grows p formed a of number x s)
              (sites-rest (fork s.place s.one s.two) s.rest) refl
              (fork-frames p formed a of number x s).0,
          frames-grow p (without s.fixed.room before.store) (without s.fixed.room opened.store)
              s.below (λ slot. grows-cond (in_room s.fixed.room slot) (before.store slot)
              (opened.store slot) (fork-grows p formed a of number x s slot))
              (fork-frames p formed a of number x s).1,
        ),
      );
      inside = λ r. ap (λ z. times_held p r (frames_in z)) stand_now
          ∙ sym (ap (λ z. times_held p r (frames_in z)) s.stand) ∙ of.is.inside r
          ∙ ap (λ (k : ResId → Option Path). cond (is_some (k r)) 1 0) (sym split-held);
      order = subst (λ z. AreInOrder p (frames_in z)) (sym stand_now)
          (order-on p s.fixed (command (fork s.place s.one s.two) ∷ s.rest) s.rest s.below refl
          (fork-order p formed a of number x s));
    }

    -- cells have the fields of the program
    split-wide : (count : ℕ) → fields ≡ count → HasWidth count a.shared.heap
        → HasWidth count one.shared.heap × HasWidth count two.shared.heap
        × HasWidth count now.heap
    split-wide count e w =
        let all_wide = made.width count e w in (
          λ l v h. all_wide l v (splits-has_left l v made.out.left_out.cells h),
          λ l v h. all_wide l v (splits-has_right l v made.out.left_out.cells
              (splits-has_left l v made.out.right_out.cells h)),
          λ l v h. all_wide l v (splits-has_right l v made.out.left_out.cells
              (splits-has_right l v made.out.right_out.cells h)),
        )

    pub split-made : fields ≡ length p.fields
        → Made p (own_event a number) a now one two after first second
    split-made e =
        let wide = split-wide (length p.fields) e of.wide in
        record {
          lends = split-lends;
          kept = split-kept;
          left_kept = split-left_kept;
          right_kept = split-right_kept;
          held = split-held;
          of = split-of;
          left_of = split-left_of;
          right_of = split-right_of;
          left_wide = wide.0;
          right_wide = wide.1;
          wide = wide.2;
        }
