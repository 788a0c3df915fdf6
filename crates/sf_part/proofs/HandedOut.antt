-- A task that has set the resources up has returned, and gave their contents up.
-- Names: `hands-LAW` of what goes out, `settled-LAW` of the part.
use Rattle.std.specs.Prelude.{◌≡◌, ◌==◌, ◌&&◌, ◌+◌, ◌<◌, ◌≤◌, ℕ, Bool, true, false, cond, ltb, List, [], ◌∷◌, drop, length, Option, Some, None, Contains, is_some, nat_eq, Result, Ok, Err, IfOk, OnErr}
use Rattle.std.specs.List.{AllByRecursion, concat, slice_get}
use Rattle.std.specs.Set.{is_member}
use Rattle.std.proofs.Common.{true≢false, sym, ap, ap₂, ◌∙◌, refl, subst, inl, inr, arith}
use Rattle.std.proofs.lemmas.Bool.{cases_lt}
use Rattle.std.proofs.lemmas.Bool.Decides.{nat_tests}
use Rattle.std.proofs.lemmas.List.{length-map}
use Rattle.std.proofs.lemmas.Option.{slice_get_cases}
use Rattle.sf_base.proofs.Elements.{contains-cons, contains-rest}
use Rattle.sf_base.proofs.MapSplits.{empty-holds, empty_map, map-same, splits-at_left, splits-empty_right, splits-lacks_both}
use Rattle.sf_base.proofs.Options.{is_some-false}
use Rattle.sf_base.proofs.StoreSplits.{resource-same}
use Rattle.sf_base.specs.declared.ids.ProcId.{ProcId}
use Rattle.sf_base.specs.declared.ids.ResId.{ResId}
use Rattle.sf_base.specs.declared.ids.Var.TheVariants.{Own, Shared}
use Rattle.sf_base.specs.declared.value.Value.{Value}
use Rattle.sf_base.specs.HeapStore.{Apart, Heap, Slot, Store, own, shared}
use Rattle.std.specs.Option.{option_or}
use Rattle.sf_calls.specs.Conditions.{Enters}
use Rattle.sf_calls.specs.FirstBreach.{Conditions}
use Rattle.sf_core.specs.Checked.Machine.InOrder.{exits, regions, throughout}
use Rattle.sf_core.specs.Machine.Config.{Item, command, leave, Frame, Room, in_room, runs, Path, Common, IsCalled}
use Rattle.sf_core.specs.Machine.Next.{next}
use Rattle.sf_core.specs.Machine.Step.{close_room, free_all_if, returned}
use Rattle.sf_core.specs.Machine.Supplies.{has, NextTakes}
use Rattle.sf_core.specs.Machine.Whole.{Part, Content, running, numbers}
use Rattle.sf_core.specs.Program.Formed.{IsFormed, variable_count}
use Rattle.sf_core.specs.Program.Init.{sets_up}
use Rattle.sf_core.specs.Program.Syntax.{Program}
use Rattle.sf_core.proofs.HeadsWithin.{calls-within, regions-within, sites-within}
use Rattle.sf_foot.specs.declared.found.Found.{Found}
use Rattle.sf_foot.specs.Starting.{HasWidth}
use Rattle.sf_frame.specs.Checked.Frames.{moved}
use Rattle.sf_frame.specs.Checked.Nexts.{frames_with}
use Rattle.sf_frame.specs.Commons.{common_of}
use Rattle.sf_frame.specs.Checked.Effects.{IsSameCommon}
use Rattle.sf_frame.specs.declared.shared.Shared.{Shared as CodeShared}
use Rattle.sf_frame.specs.declared.frame.Room.{Room as CodeRoom}
use Rattle.sf_frame.specs.declared.stack.Change.TheVariants.{Return}
use Rattle.sf_part.specs.Checked.Handing.{Hands, HasNoneFrom, HasVariables, timed_of}
use Rattle.sf_part.specs.Checked.Setup.{IsSettled, ReturnsFrom}
use Rattle.sf_part.specs.Checked.Standing.{Runs}
use Rattle.sf_part.specs.Checked.Stepping.{own_event}
use Rattle.sf_part.specs.Contents.{IsContentIn, content_of}
use Rattle.sf_part.specs.declared.content.Content.{Content as CodeContent}
use Rattle.sf_part.specs.declared.part.Part.{Part as CodePart}
use Rattle.sf_part.specs.Given.{GivesEach, IsContentOf}
use Rattle.sf_part.specs.Checked.KeepsIsProp.{AreOwn}
use Rattle.sf_part.specs.Keeps.{IsUnmade}
use Rattle.sf_part.specs.Leaving.{HasNoContents, IsAtInit}
use Rattle.sf_part.specs.Of.{AreInOrder, FrameIsOf, FramesAreOf, HasEntered, HasNothing, IsAbove, IsOf, StandIsOf, frames_in, inside, without}
use Rattle.sf_part.specs.PartView.{IsPartOf, part_of}
use Rattle.sf_part.specs.Stands.{stand_in}
use Rattle.sf_part.specs.Steps.{HandsOut, IsSettling, common_of as part_common}
use Rattle.sf_part.specs.Timed.{TimedContent, TimedPart}
use Rattle.sf_part.proofs.Entrance.{made-stands}
use Rattle.sf_part.proofs.Held.{times-regions}
use Rattle.sf_part.proofs.Made.{part-common, same-held, takes-first}
use Rattle.sf_part.proofs.Owned.{room-there}
use Rattle.sf_part.proofs.Spared.{Spares, Stays, exits-inside, spare-frames}
use Rattle.sf_part.proofs.Supplies.{one_if}
use Rattle.sf_part.proofs.Unheld.{free-unheld}

-- What goes out
-- the same of a part with such cells and slots
abbrev pub with_ : Part → Heap → Store → Part
with_ a heap store = record a { heap = heap; store = store }

pub hands-out : (a : Part) (heap : Heap) (store : Store) (ks : List TimedContent) (rest : Heap)
    (left : Store) → Hands heap store ks rest left
    → HandsOut (with_ a heap store) ks (with_ a rest left)
hands-out a heap store [] rest left (e, f) = λ i. with_ a (e i) (f i)
hands-out a heap store (k ∷ ks) rest left (less, fewer, c, d, more) = (
  with_ a less fewer,
  record { task = refl; stand = refl; holds = refl; supply = refl; heap = c; store = d },
  hands-out a less fewer ks rest left more,
)

pub hands-in : (a : Part) (ks : List TimedContent) (rest : Part) → HandsOut a ks rest
    → Hands a.heap a.store ks rest.heap rest.store
hands-in a [] rest e = (ap (λ (z : Part). z.heap) e, ap (λ (z : Part). z.store) e)
hands-in a (k ∷ ks) rest (less, h, more) =
    (less.heap, less.store, h.heap, h.store, hands-in less ks rest more)

-- a content has no slot but those of resources
pub content-own : (p : Program) (k : Content) → IsContentOf p k → (e i : ℕ) → k.store
    (own e i) ≡ None
content-own p k of e i = is_some-false (k.store (own e i)) (of.variables (own e i))

-- so it goes out of what is left once a room has vanished
pub hands-closed : (p : Program) (room : Room) (heap : Heap) (store : Store)
    (ks : List TimedContent) (rest : Heap) (left : Store)
    → AllByRecursion (λ (k : TimedContent). IsContentOf p k.content) ks
    → Hands heap store ks rest left
    → Hands heap (without room store) ks rest (without room left)
hands-closed p room heap store [] rest left of (e, f) = (e, λ i. without room (f i))
hands-closed p room heap store (k ∷ ks) rest left of (less, fewer, c, d, more) = (
  less,
  without room fewer,
  c,
  record {
    apart = λ slot. apart (in_room room slot) (fewer slot) (k.content.store slot) (d.apart slot);
    is = λ slot. ap (cond (in_room room slot) None) (d.is slot)
        ∙ both (in_room room slot) (fewer slot) (k.content.store slot) (lacks slot);
  },
  hands-closed p room less fewer ks rest left of.1 more,
)
  where
    apart : (b : Bool) (x y : Option Value) → Apart x y → Apart (cond b None x) y
    apart true x y h = tt
    apart false x y h = h

    both : (b : Bool) (x y : Option Value) → (b ≡ true → y ≡ None)
        → cond b None (option_or x y) ≡ option_or (cond b None x) y
    both true x y h = sym (h refl)
    both false x y h = refl

    lacks : (slot : Slot) → in_room room slot ≡ true → k.content.store slot ≡ None
    lacks (own e i) h = content-own p k.content of.0 e i
    lacks (shared r i) h = absurd (true≢false (sym h))

-- and other slots stay
pub hands-stay : (p : Program) (heap : Heap) (store : Store) (ks : List TimedContent) (rest : Heap)
    (left : Store) → AllByRecursion (λ (k : TimedContent). IsContentOf p k.content) ks
    → Hands heap store ks rest left → (e i : ℕ) → left (own e i) ≡ store (own e i)
hands-stay p heap store [] rest left of (x, f) e i = ap (λ (z : Store). z (own e i)) f
hands-stay p heap store (k ∷ ks) rest left of (less, fewer, c, d, more) e i =
    hands-stay p less fewer ks rest left of.1 more e i
    ∙ sym (splits-at_left (own e i) d (content-own p k.content of.0 e i))

-- what isn't there stays so
pub hands-lack : (heap : Heap) (store : Store) (ks : List TimedContent) (rest : Heap) (left : Store)
    → Hands heap store ks rest left → ((l : ℕ) → heap l ≡ None → rest l ≡ None)
    × ((slot : Slot) → store slot ≡ None → left slot ≡ None)
hands-lack heap store [] rest left (e, f) =
    (λ l h. ap (λ (z : Heap). z l) e ∙ h, λ slot h. ap (λ (z : Store). z slot) f ∙ h)
hands-lack heap store (k ∷ ks) rest left (less, fewer, c, d, more) =
    let (x, y) = hands-lack less fewer ks rest left more in (
      λ l h. x l (splits-lacks_both l c h).0,
      λ slot h. y slot (splits-lacks_both slot d h).0,
    )

-- nothing was found before, so there is nothing to hand out where nothing is found
pub hands-none : (p : Program) (a : CodePart) (found : Found) → found.parts.items ≡ []
    → HasNoneFrom p 0 a.shared found → HasNoContents p (part_of a).part
hands-none p a found e none ks rest from len out each =
    none (common_of a.shared).heap empty_map rest.heap (common_of a.shared).store rest.store ks
    (splits-empty_right empty-holds)
    (λ l t. absurd (true≢false (sym (subst (λ z. is_member nat_eq (concat z) l ≡ true) e t))))
    (λ slot v f. f)
    (hands-in (part_of a).part ks rest out) from (omega arith) each

-- What is there once the contents are out and the room has vanished
pub record Rest (a : Common) (ks : List TimedContent) (room : Room) (b : Common) : Type 0 where
  pub left : Store
  pub hands : Hands a.heap a.store ks b.heap left
  pub store : b.store ≡ without room left
  pub held : b.held ≡ (λ q. None)

pub hands-rest : (a mid b : Common) (ks : List TimedContent) (room : Room)
    → Hands a.heap a.store ks mid.heap mid.store
    → IsSameCommon b (free_all_if true (close_room room mid)) → Rest a ks room b
hands-rest a mid b ks room hands same = record {
  left = mid.store;
  hands = subst (λ z. Hands a.heap a.store ks z mid.store) (sym
      (map-same b.heap mid.heap same.heap))
      hands;
  store = λ i. λ slot. same.store slot i;
  held = λ i. λ q. same.held q i;
}

-- a number stays unmade
pub hands-unmade : (a b : Common) (ks : List TimedContent) (room : Room) (n : ℕ)
    → Rest a ks room b → IsUnmade a.heap a.store n → IsUnmade b.heap b.store n
hands-unmade a b ks room n rest m =
    let (x, y) = hands-lack a.heap a.store ks b.heap rest.left rest.hands in
    record {
      positive = m.positive;
      heap = ap is_some (x n (is_some-false (a.heap n) m.heap));
      store = λ i. ap is_some (ap (λ (z : Store). z (own n i)) rest.store
          ∙ gone (in_room room (own n i)) (rest.left (own n i))
          (y (own n i) (is_some-false (a.store (own n i)) (m.store i))));
    }
  where
    gone : (c : Bool) (o : Option Value) → o ≡ None → cond c None o ≡ None
    gone true o e = refl
    gone false o e = e

-- nobody holds anything
pub hands-held : (task : Path) (after : CodeShared) → (common_of after).held ≡ (λ q. None)
    → AreOwn after.held task
hands-held task after none r holder e =
    absurd (let k : None ≡ Some holder =
    sym (ap (λ (f : ResId → Option Path). f (record { 0 = r })) none) ∙ e in cc)

-- The part
-- what isn't to be left has no exit
pub exits-none : (r : ResId) (todo : List Item) → (Contains (inside todo) r → ⊥) → exits r todo ≡ 0
exits-none r [] h = refl
exits-none r (command c ∷ todo) h = exits-none r todo h
exits-none r (leave q ∷ todo) h =
    go (q.0 == r.0) refl (exits-none r todo (λ m. h (contains-rest q (inside todo) r m)))
  where
    go : (b : Bool) → q.0 == r.0 ≡ b → exits r todo ≡ 0 → one_if (q.0 == r.0) + exits r todo ≡ 0
    go true e more = absurd (h ((contains-cons q (inside todo) r).1 (inl (resource-same q r e))))
    go false e more =
        let zero : one_if (q.0 == r.0) ≡ 0 = ap one_if e in
        omega arith

-- the slots of all resources
abbrev pub GoneAll : Slot → Type 0
GoneAll slot = (r : ResId) × (i : ℕ) × (slot ≡ shared r i)

-- a variable's resource is one of the program's
known : (p : Program) (r : ResId) (i : ℕ) → i < variable_count (slice_get p.resources r.0)
    → r.0 < length p.resources
known p r i l = elim (slice_get_cases p.resources r.0).1 [
  | inl h ↦ h.1
  | inr h ↦ absurd (let none : variable_count (slice_get p.resources r.0) ≡ 0 =
      ap variable_count h.1 in omega arith)
]

-- below the frame that sets the resources up there is one that has nothing of them
below-frame : (p : Program) (formed : IsFormed p) (f : ProcId) → sets_up p f ≡ true
    → (below : List Frame) → IsAbove p f below
    → (g : Frame) × HasNothing p g × (below ≡ g ∷ [])
below-frame p formed f init [] e = absurd (true≢false (sym init ∙ e))
below-frame p formed f init (g ∷ below) (inr h) = (g, h.1, ap (λ z. g ∷ z) h.2)
below-frame p formed f init (g ∷ below) (inl (h, there, (site, m, (out, (d, k, e))))) =
    let command = sites-within p h [] h.body
    (formed.procedures (g.fixed.procedure).0 h there).body site m in
    absurd (true≢false (sym init ∙ ap (sets_up p) (sym e)
    ∙ (calls-within p h site.command command d k).no_init))

-- it is inside of no region of another resource
below-other : (p : Program) (formed : IsFormed p) (r : ResId) → length p.resources ≤ r.0
    → (g : Frame) → HasEntered p g → regions p r (g ∷ []) ≡ 0
below-other p formed r l g h =
    let none : throughout p r g.fixed ≡ 0 = off (sets_up p g.fixed.procedure)
    (ltb r.0 (length p.resources)) (grind (arith, nat_tests)) in
    let exit = exits-none r g.todo (λ m. entered (h.regions r m)) in
    omega arith
  where
    off : (x y : Bool) → y ≡ false → cond {A = ℕ} (x && y) 1 0 ≡ 0
    off true true e = absurd (true≢false e)
    off true false e = refl
    off false y e = refl

    entered : Enters p r g.fixed.procedure → ⊥
    entered (b, there, (site, m, k)) =
        let command = sites-within p b [] b.body
        (formed.procedures (g.fixed.procedure).0 b there).body site m in
        let within = regions-within p b site.command command r k in
        absurd (omega arith)

-- none of its variables is one of a resource
below-spares : (p : Program) (formed : IsFormed p) (conditions : Conditions p) (store : Store)
    (g : Frame) → HasNothing p g → FrameIsOf p store g
    → ((r : ResId) → r.0 < length p.resources → exits r g.todo ≡ 0) → Spares p GoneAll g
below-spares p formed conditions store g nothing of zero h (Own n) v
    (r, i, e) = nothing.names n r i e
below-spares p formed conditions store g nothing of zero h (Shared q j) v gone = elim v.1 [
  | inl free ↦ free-unheld p formed conditions q j g.fixed.procedure (nothing.holds q) free
  | inr k ↦ elim k [
    | inl m ↦ exits-inside q g.todo (zero q (known p q j v.0)) m
    | inr m ↦ nothing.holds q (inr (m, known p q j v.0))
  ]
]

-- such contents are those of the program
contents-in : (p : Program) (cs : List CodeContent)
    → AllByRecursion (λ (k : TimedContent). IsContentOf p k.content) (timed_of cs)
    → AllByRecursion (λ (k : CodeContent). HasWidth (length p.fields) k.heap) cs
    → AllByRecursion (λ (k : CodeContent). IsContentIn p k) cs
contents-in p [] of wide = tt
contents-in p (k ∷ cs) of wide = (
  record {
    resource = (of.0).resource;
    there = (of.0).there;
    variables = (of.0).variables;
    wide = wide.0;
  },
  contents-in p cs of.1 wide.1,
)

called : (path : Path) (g : Frame) → IsCalled path (g ∷ [])
called [] g = tt
called (turn ∷ path) g = tt

module _ (p : Program) (formed : IsFormed p) (conditions : Conditions p) (a : CodePart)
    (of : IsPartOf p a) (room : CodeRoom) (s : ReturnsFrom a room)
    (init : sets_up p (s.fixed).procedure ≡ true) where
  abbrev frames : List Frame
  frames = frames_with s.fixed [] s.below

  frames_are : FramesAreOf p (common_of a.shared).store frames
  frames_are = subst (StandIsOf p (common_of a.shared).store) s.stand of.is.stands

  order_is : AreInOrder p frames
  order_is = subst (λ z. AreInOrder p (frames_in z)) s.stand of.is.order

  times : (r : ResId) → regions p r frames ≡ one_if ((part_of a).part.holds r)
  times r = sym (ap (λ z. regions p r (frames_in z)) s.stand)
      ∙ sym (times-regions p r (frames_in (part_of a).part.stand)) ∙ of.is.inside r

  most : (b : Bool) → one_if b ≤ 1
  most true = omega arith
  most false = omega arith

  once : (r : ResId) → r.0 < length p.resources → throughout p r s.fixed ≡ 1
  once r l =
      let under : ltb r.0 (length p.resources) ≡ true = grind (arith, nat_tests) in
      ap₂ (λ x y. cond {A = ℕ} (x && y) 1 0) init under

  -- it has the variables of all resources
  pub settled-variables : HasVariables p 0 (common_of a.shared).store
  settled-variables r i low l =
      ap (λ z. is_some ((common_of a.shared).store z)) (sym ((frames_are.0).names r i))
      ∙ (frames_are.0).variables (Shared r i) (l, inr (inr init))

  holds-true : (b : Bool) → 1 ≤ one_if b → b ≡ true
  holds-true true h = refl
  holds-true false h = absurd (omega arith)

  holds : (r : ResId) → r.0 < length p.resources → (part_of a).part.holds r ≡ true
  holds r l = holds-true ((part_of a).part.holds r)
      (let t = times r in let o = once r l in omega arith)

  below_is : (g : Frame) × HasNothing p g × (s.below ≡ g ∷ [])
  below_is = below-frame p formed (s.fixed).procedure init s.below order_is.1

  below_order : AreInOrder p ((below_is.0) ∷ [])
  below_order = subst (AreInOrder p) below_is.2 order_is.2

  left : (r : ResId) → regions p r s.below ≡ 0
  left r = elim (cases_lt r.0 (length p.resources)) [
    | inl l ↦
        let t = times r in
        let o = once r l in
        let m = most ((part_of a).part.holds r) in
        omega arith
    | inr l ↦ ap (regions p r) below_is.2
        ∙ below-other p formed r l below_is.0 below_order.0
  ]

  module _ (b : CodePart) (number : ℕ) (contents : List CodeContent)
      (units : numbers a.supply ≡ number ∷ drop 1 (numbers a.supply))
      (made : IsSettled p number room contents a b) where
    now : stand_in b.stand ≡ running s.below
    now = made.stand ∙ ap (λ z. running (moved Return (frames_in z))) s.stand

    abbrev closed : Store
    closed = without (s.fixed).room (common_of a.shared).store

    -- the part after the return, with all contents
    abbrev all : Part
    all = with_ (part_of b).part (common_of a.shared).heap closed

    store_is : without (s.fixed).room made.left ≡ (common_of b.shared).store
    store_is = ap (λ z. without z made.left) s.room_is ∙ sym made.store

    out : HandsOut all (timed_of contents) (part_of b).part
    out = subst (λ z. HandsOut all (timed_of contents)
        (with_ (part_of b).part (common_of b.shared).heap z)) store_is
        (hands-out (part_of b).part (common_of a.shared).heap closed (timed_of contents)
        (common_of b.shared).heap (without (s.fixed).room made.left)
        (hands-closed p (s.fixed).room (common_of a.shared).heap (common_of a.shared).store
        (timed_of contents) (common_of b.shared).heap made.left made.exactly made.hands))

    held_is : (part_common all).held
        ≡ (returned p s.fixed (part_common (part_of a).part)).held
    held_is = ap (λ (z : Common). z.held) (part-common b) ∙ made.held
        ∙ (λ i. λ r. cond (sym init i) None ((part_common (part_of a).part).held r))

    common_is : part_common all ≡ returned p s.fixed (part_common (part_of a).part)
    common_is = same-held (common_of a.shared).heap closed held_is

    takes : NextTakes (own_event a number) (next (runs frames)) (has (numbers a.supply))
        (has (numbers b.supply))
    takes = takes-first (own_event a number) (next (runs frames)) a b units made.supply
        (numbers b.supply, (refl, refl), refl)

    pub settled-gives : GivesEach p (own_event a number) (part_of a) (timed_of contents) (part_of b)
    settled-gives = record {
      settles = record {
        all = all;
        frames = frames;
        kept = s.below;
        settling = init;
        holds = holds;
        acts = record {
          own = refl;
          task = made.task;
          from_is = s.stand;
          to_is = now;
          steps = (
            subst (IsCalled a.task) (sym below_is.2) (called a.task below_is.0),
            common_is,
            refl,
          );
          slots = λ slot h. elim h [
            | inl x ↦ absurd x
            | inr w ↦ room-there p (common_of a.shared).store
                (record { fixed = s.fixed; todo = [] }) frames_are.0 slot w
          ];
        };
        in_order = made.in_order;
        each = length-map contents content_of ∙ made.each;
        out = out;
        spends = takes;
        notes = record {
          keeps = made.keeps;
          given = made.given;
          clock_is = let c = made.clock in omega arith;
          log_is = made.log;
        };
        stamps = made.stamps;
      };
      exactly = made.exactly;
    }

    stays : Stays GoneAll closed (common_of b.shared).store
    stays (shared r i) n h = absurd (n (r, i, refl))
    stays (own e i) n h =
        sym (ap (λ z. is_some (cond (in_room (s.fixed).room (own e i)) None z))
        (sym (hands-stay p (common_of a.shared).heap (common_of a.shared).store (timed_of contents)
        (common_of b.shared).heap made.left made.exactly made.hands e i))
        ∙ ap (λ (z : Store). is_some (z (own e i))) store_is) ∙ h

    below_are : FramesAreOf p closed (below_is.0 ∷ [])
    below_are = subst (FramesAreOf p closed) below_is.2 frames_are.1

    frames-after : FramesAreOf p (common_of b.shared).store s.below
    frames-after = subst (FramesAreOf p (common_of b.shared).store) (sym below_is.2)
        (spare-frames p GoneAll (λ slot g. g) closed (common_of b.shared).store (below_is.0 ∷ [])
        stays (
          below-spares p formed conditions closed below_is.0 below_is.1 below_are.0
              (λ r l. let z = ap (regions p r) (sym below_is.2) ∙ left r in omega arith),
          tt,
        ) below_are)

    pub settled-of : IsPartOf p b
    settled-of = record {
      is = record {
        stands = subst (StandIsOf p (common_of b.shared).store) (sym now) frames-after;
        inside = λ q. times-regions p q (frames_in (part_of b).part.stand)
            ∙ ap (λ z. regions p q (frames_in z)) now ∙ left q
            ∙ sym (ap (λ (f : ResId → Option Path). one_if (is_some (f q))) made.held);
        order = subst (λ z. AreInOrder p (frames_in z)) (sym now) order_is.2;
      };
      wide = (made.width (length p.fields) of.wide).0;
      blank = made.blank ∙ of.blank;
    }

    pub settled-contents : AllByRecursion (λ (k : CodeContent). IsContentIn p k) contents
    settled-contents = contents-in p contents made.exactly (made.width (length p.fields) of.wide).1

-- the frame from which the task returns sets the resources up
pub settled-init : (p : Program) (a : CodePart) (room : CodeRoom) → IsAtInit p (part_of a).part
    → (s : ReturnsFrom a room) → sets_up p (s.fixed).procedure ≡ true
settled-init p a room (frames, stand, h) s =
    let same : running frames ≡ running (frames_with s.fixed [] s.below) = sym stand ∙ s.stand in
    let one : frames ≡ frames_with s.fixed [] s.below = cc in
    subst (λ z. IsSettling p (next (runs z))) one h

pub settled-runs : (a : CodePart) (room : CodeRoom) → ReturnsFrom a room → Runs a.stand
settled-runs a room s = made-stands a.stand (record { fixed = s.fixed; todo = [] }) s.below s.stand

-- a fact about what came well follows from another
pub if-ok : {T E : Type 0} {P Q : T → Type 0} (r : Result T E) → IfOk r P → ((x : T) → P x → Q x)
    → IfOk r Q
if-ok (Ok x) h f = f x h
if-ok (Err e) h f = tt

-- so does one that holds of what went wrong too
pub either-of : {T E Q : Type 0} {P : T → Type 0} (r : Result T E) → IfOk r P
    → ((x : T) → P x → Q) → OnErr r Q → Q
either-of (Ok x) h f g = f x h
either-of (Err e) h f g = g

-- a part that stays is still the program's
pub unsettled-of : {T E : Type 0} (p : Program) (a b : CodePart) → IsPartOf p a → (r : Result T E)
    → OnErr r (part_of b ≡ part_of a) → OnErr r (b.shared.heap ≡ a.shared.heap)
    → b.blank ≡ a.blank → OnErr r (IsPartOf p b)
unsettled-of p a b of (Ok x) same cells blank = tt
unsettled-of p a b of (Err e) same cells blank = record {
  is = subst (λ (z : TimedPart). IsOf p z.part) (sym same) of.is;
  wide = subst (HasWidth (length p.fields)) (sym cells) of.wide;
  blank = blank ∙ of.blank;
}
