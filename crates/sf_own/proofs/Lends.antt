-- A safe part at a fork can lend each child just its share.
-- Names: `lends-LAW`; the lemma of the law has the name of its function.
use Rattle.std.specs.Prelude.{◌≡◌, ◌≢◌, ◌<◌, ◌/◌, ◌++◌, ℕ, suc, false, Contains, List, [], ◌∷◌, length, map, take, drop, Some, None}
use Rattle.std.proofs.Common.{sym, ap, ap₂, ◌∙◌, refl, subst, inl, inr}
use Rattle.sf_base.proofs.Elements.{contains-cons}
use Rattle.sf_base.proofs.Options.{is_some-false}
use Rattle.sf_base.specs.declared.limits.TheConstants.{TURNS}
use Rattle.sf_base.specs.declared.path.Turn.{Turn}
use Rattle.sf_base.specs.declared.path.Turn.TheVariants.{Left as left, Right as right}
use Rattle.sf_base.specs.declared.ids.Var.{Var}
use Rattle.sf_base.specs.declared.place.Place.{Place}
use Rattle.sf_base.specs.declared.value.Value.TheVariants.{Nil as nil}
use Rattle.sf_base.specs.HeapStore.{Slot, own}
use Rattle.sf_core.specs.declared.command.Expr.{Expr}
use Rattle.sf_core.specs.declared.command.Expr.TheVariants.{Var as Variable, Nil, Int}
use Rattle.sf_core.specs.Machine.Config.{Item, command, items, Fixed, Frame, runs}
use Rattle.sf_core.specs.Machine.Enabled.{ReadsAll, ReadsExpr, variable}
use Rattle.sf_core.specs.Machine.Next.{next}
use Rattle.sf_core.specs.Machine.Step.{Event, procedure_at, room_count, room_for}
use Rattle.sf_core.specs.Machine.Supplies.{NextTakes, has, lent}
use Rattle.sf_core.specs.Machine.Whole.{Part, Range, numbers, running, waiting}
use Rattle.sf_core.specs.Program.Syntax.{Call, fork, Procedure, Program}
use Rattle.sf_own.proofs.Lending.{Lending, lend, lend-has, lent_known, opened_own, sums-cells, sums-slots}
use Rattle.sf_own.proofs.Shares.{call-there, fork-within, share-of}
use Rattle.sf_part.specs.Checked.Lemmas.Shapes.{next-shape}
use Rattle.sf_own.proofs.Standing.{frame_with, running-safe}
use Rattle.sf_own.specs.Checked.Accepted.{IsAccepted}
use Rattle.sf_own.specs.Checked.LawsOfNeeds.{MayLend, SharesAreThere}
use Rattle.sf_own.specs.Checked.Safe.{IsSafe, own_of}
use Rattle.sf_part.specs.Keeps.{Keeps}
use Rattle.sf_part.specs.Lent.{Lends}
use Rattle.sf_part.specs.Of.{FrameIsOf, IsOf, StandIsOf}
use Rattle.sf_part.specs.Steps.{Forks, HasSlots}
use Rattle.sf_part.specs.Timed.{TimedPart, noted}
use Rattle.sf_safe.specs.Checked.Contract.{Known}
use Rattle.sf_safe.specs.Checked.Invariant.{Running}
use Rattle.sf_safe.specs.Checked.Own.{Own, HasAll, HasExpr, HasSlot}

-- numbers, each as a range of its own
abbrev pub singles : List ℕ → List Range
singles us = map (λ u. record { first = u; count = 1 }) us

singles-numbers : (us : List ℕ) → numbers (singles us) ≡ us
singles-numbers [] = refl
singles-numbers (u ∷ us) = ap (λ z. u ∷ z) (singles-numbers us)

-- a list with something in it
first-of : (us : List ℕ) → us ≢ [] → (u : ℕ) × (rest : List ℕ) × (us ≡ u ∷ rest)
first-of [] n = absurd (n refl)
first-of (u ∷ us) n = (u, us, refl)

-- a slot that arguments read is owned
reads-expr : (w : Own) (slots : Var → Slot) (slot : Slot) (e : Expr) → HasExpr w slots e
    → ReadsExpr slots e (variable slot) → HasSlot w slot
reads-expr w slots slot (Variable x) o r =
    let same : slot ≡ slots x.var = cc in subst (HasSlot w) (sym same) o
reads-expr w slots slot Nil o r = absurd r
reads-expr w slots slot (Int i) o r = absurd r

reads-all : (w : Own) (slots : Var → Slot) (slot : Slot) (es : List Expr) → HasAll w slots es
    → ReadsAll slots es (variable slot) → HasSlot w slot
reads-all w slots slot [] o r = absurd r
reads-all w slots slot (e ∷ es) o r = elim r [
  | inl k ↦ reads-expr w slots slot e o.0 k
  | inr k ↦ reads-all w slots slot es o.1 k
]

module _ (p : Program) (accepted : IsAccepted p) (owed : Known) (a : TimedPart) (keeps : Keeps a)
    (of : IsOf p a.part) (s : IsSafe p owed a.part) (f : Fixed) (below : List Frame)
    (place : Place) (c d : Call) (rest : List Item)
    (stand : a.part.stand ≡ running (frame_with f (command (fork place c d) ∷ rest) ∷ below))
    (turns : length a.part.task < TURNS) (number : ℕ) (units : List ℕ)
    (supply : numbers a.part.supply ≡ number ∷ units) where
  abbrev frame : Frame
  frame = frame_with f (command (fork place c d) ∷ rest)

  frame_of : FrameIsOf p a.part.store frame
  frame_of = (subst (StandIsOf p a.part.store) stand of.stands).0

  left_there : (g : Procedure) × (procedure_at p c.callee ≡ Some g)
  left_there =
      let k = fork-within p accepted.formed a.part.store f place c d rest frame_of in
      call-there p k.0 c k.1

  right_there : (h : Procedure) × (procedure_at p d.callee ≡ Some h)
  right_there =
      let k = fork-within p accepted.formed a.part.store f place c d rest frame_of in
      call-there p k.0 d k.2

  abbrev g : Procedure
  g = left_there.0

  abbrev h : Procedure
  h = right_there.0

  fresh : (index : ℕ) → a.part.store (own number index) ≡ None
  fresh index = is_some-false (a.part.store (own number index)) ((keeps.unmade number
      (subst (λ us. Contains us number) (sym supply)
      ((contains-cons number units number).1 (inl refl)))).store index)

  run : Running p 1 owed (frame ∷ below) (own_of a.part)
  run = running-safe p owed a.part (frame ∷ below) s stand 1

  abbrev left_known : Known
  left_known = lent_known a.part f c g (room_for g number 0)

  abbrev right_known : Known
  right_known = lent_known a.part f d h (room_for h number (room_count g))

  abbrev kept_frames : List Frame
  kept_frames = frame_with f rest ∷ below

  abbrev left_frames : List Frame
  left_frames = frame_with left_known.fixed (items g.body) ∷ []

  abbrev right_frames : List Frame
  right_frames = frame_with right_known.fixed (items h.body) ∷ []

  lending : Lending p 0 owed left_known right_known kept_frames
      (opened_own a.part f number c d g h)
  lending = lend p owed a.part number fresh f below place c d rest g h left_there.1 right_there.1 0
      run

  abbrev event : Event
  event = record { task = a.part.task; number = number; at = 0; fields = λ field. nil }

  abbrev all : Part
  all = record a.part {
    stand = waiting kept_frames;
    store = (opened_own a.part f number c d g h).slots;
  }

  -- a child that runs those frames, with what it is lent and those units
  abbrev child : Turn → List Frame → Own → List ℕ → TimedPart
  child turn frames share given = record {
    part = record {
      task = a.part.task ++ turn ∷ [];
      stand = running frames;
      heap = share.cells;
      store = share.slots;
      holds = λ r. false;
      supply = singles given;
    };
    clock = suc a.clock;
    keeps = a.keeps;
    log = [];
    given = length (numbers (singles given));
  }

  abbrev one : TimedPart
  one = child left left_frames lending.one (take (length units / 2) units)

  abbrev two : TimedPart
  two = child right right_frames lending.two (drop (length units / 2) units)

  abbrev after : TimedPart
  after = record {
    part = record a.part {
      stand = waiting kept_frames;
      heap = lending.kept.cells;
      store = lending.kept.slots;
      supply = [];
    };
    clock = suc a.clock;
    keeps = a.keeps;
    log = a.log ++ noted a.keeps
        (record { stamp = suc a.clock; task = a.part.task; number = number });
    given = a.given;
  }

  slots : HasSlots a.part (next (runs (frame ∷ below)))
  slots slot r =
      let owned = lend-has p owed a.part number fresh f below place c d rest g h left_there.1
      right_there.1 0 run in
      elim r [
        | inl k ↦ elim k [
          | inl i ↦ reads-all (own_of a.part) f.slots slot c.values owned.0 i
          | inr i ↦ reads-all (own_of a.part) f.slots slot d.values owned.1 i
        ]
        | inr k ↦ absurd k
      ]

  spends : NextTakes event (next (runs (frame ∷ below))) (has (numbers a.part.supply))
      (lent (has (numbers one.part.supply)) (has (numbers two.part.supply)))
  spends =
      subst (λ us. NextTakes event (next (runs (frame ∷ below))) (has us)
      (lent (has (numbers one.part.supply)) (has (numbers two.part.supply)))) (sym supply) (
        units,
        (refl, refl),
        ap₂ (λ i j. lent (has i) (has j)) (singles-numbers (take (length units / 2) units))
            (singles-numbers (drop (length units / 2) units)),
      )

  forks : Forks p event a after one two
  forks = record {
    all = all;
    frames = frame ∷ below;
    kept = kept_frames;
    left_frames = left_frames;
    right_frames = right_frames;
    fork = (f, below, place, c, d, rest, refl);
    acts = record {
      own = refl;
      task = refl;
      from_is = stand;
      to_is = refl;
      steps = (turns, g, h, left_there.1, right_there.1, refl, refl);
      slots = slots;
    };
    children = record {
      task = refl;
      stand = refl;
      holds = refl;
      heap = sums-cells lending.parts;
      store = sums-slots lending.parts;
      left_one = record { task = refl; holds = refl };
      right_one = record { task = refl; holds = refl };
    };
    left_begins = record { stand = refl; clock = refl; keeps = refl; log = refl; given = refl };
    right_begins = record { stand = refl; clock = refl; keeps = refl; log = refl; given = refl };
    spends = spends;
    none_left = refl;
    notes = record { keeps = refl; given = refl; clock_is = refl; log_is = refl };
  }

  lends : Lends p event a after one two
  lends = record {
    forks = forks;
    left = frame_with left_known.fixed (items g.body);
    right = frame_with right_known.fixed (items h.body);
    left_runs = refl;
    right_runs = refl;
    left_exactly = share-of p accepted.formed left_known g.body lending.one one.part lending.first;
    right_exactly = share-of p accepted.formed right_known h.body lending.two two.part
        lending.second;
  }

  pub lends-there : MayLend p a
  lends-there = record { event = event; after = after; one = one; two = two; lends = lends }

pub shares_are_there : SharesAreThere
unfolding SharesAreThere
shares_are_there p accepted owed a frames keeps of s stand (f, below, place, c, d, rest, is) turns
    unit =
    let first = first-of (numbers a.part.supply) unit in
    let shape = next-shape frames f below (fork place c d) rest is in
    lends-there p accepted owed a keeps of s f below place c d rest (stand ∙ ap running shape) turns
    first.0 first.1 first.2
