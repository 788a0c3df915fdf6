-- The return of the procedure that sets the resources up keeps a part safe, where it leaves what is
-- just theirs; and it has that.
-- Names: `settle-LAW`; the lemmas of the laws have the names of their functions.
use Rattle.std.specs.Prelude.{◌≡◌, ◌<◌, ◌&&◌, ℕ, suc, Bool, true, false, cond, ltb, length, List, [], ◌∷◌, Option, Some, None}
use Rattle.std.proofs.Common.{true≢false, sym, ap, ap₂, ◌∙◌, refl, subst, arith}
use Rattle.std.proofs.lemmas.Bool.Decides.{nat_tests}
use Rattle.sf_base.proofs.MapSplits.{map-same, splits-assoc_right, splits-by_test, splits-comm, splits-lacks_both, splits-lacks_right}
use Rattle.sf_base.proofs.Options.{cond-some}
use Rattle.sf_base.specs.declared.ids.ResId.{ResId}
use Rattle.sf_base.specs.HeapStore.{Splits, Store}
use Rattle.sf_core.proofs.Inits.{sets_up-is}
use Rattle.sf_core.specs.Machine.Config.{Item, command, leave, Fixed, Frame, in_room, runs}
use Rattle.sf_core.specs.Machine.Next.{returns, frame_next, next}
use Rattle.sf_core.specs.Machine.Step.{Event, TaskStep, Goes}
use Rattle.sf_core.specs.Machine.Whole.{Part, holders, running, stand_of}
use Rattle.sf_core.specs.Program.Init.{is_init, sets_up}
use Rattle.sf_core.specs.Program.Syntax.{Program}
use Rattle.sf_own.proofs.Handing.{IsRest, hand-out, hand-rest}
use Rattle.sf_own.proofs.Standing.{frame_with, running-safe}
use Rattle.sf_own.proofs.Tokens.{held-none}
use Rattle.sf_own.proofs.Unions.{tokens-none}
use Rattle.sf_own.specs.Checked.Accepted.{IsAccepted}
use Rattle.sf_own.specs.Checked.Laws.{SettlingKeepsSafe}
use Rattle.sf_own.specs.Checked.LawsOfNeeds.{AllContentsAreThere}
use Rattle.sf_own.specs.Checked.Safe.{HoldsWithin, IsSafe, own_of}
use Rattle.sf_part.specs.Checked.LawsOfGiving.{GivenContentsAreOne}
use Rattle.sf_part.specs.Given.{GivesEach}
use Rattle.sf_part.specs.Steps.{IsSettling, common_of}
use Rattle.sf_part.specs.Timed.{TimedContent, TimedPart}
use Rattle.sf_safe.specs.Checked.Contract.{Ended, Known, Returned, given_back}
use Rattle.sf_safe.specs.Checked.Fewer.{fewer, fewer-callers}
use Rattle.sf_safe.specs.Checked.Invariant.{known, Callers, Resources, Running}
use Rattle.sf_safe.specs.Checked.LawsOfShares.{InitLeavesShares}
use Rattle.sf_safe.specs.Checked.Own.{Own, Parts, nothing, without_room}
use Rattle.sf_safe.specs.Checked.Owns.{own-same, parts-comm, parts-nothing, parts-without_room}
use Rattle.sf_safe.specs.Checked.Rooms.{owned-room}

-- the frames that return next, from a procedure that sets the resources up
pub record SetsUp (p : Program) (frames : List Frame) : Type 0 where
  pub fixed : Fixed
  pub below : List Frame
  pub is : frames ≡ frame_with fixed [] ∷ below
  pub sets : sets_up p fixed.procedure ≡ true

pub settle-shape : (p : Program) (frames : List Frame) → IsSettling p (next (runs frames))
    → SetsUp p frames
settle-shape p [] h = absurd h
settle-shape p (f ∷ below) h = go f.todo refl h
  where
    go : (todo : List Item) → f.todo ≡ todo → IsSettling p (frame_next f.fixed below f.todo)
        → SetsUp p (f ∷ below)
    go [] i k = record {
      fixed = f.fixed;
      below = below;
      is = λ j. record { fixed = f.fixed; todo = i j } ∷ below;
      sets = subst (λ z. IsSettling p (frame_next f.fixed below z)) i k;
    }
    go (command c ∷ todo) i k =
        absurd (subst (λ z. IsSettling p (frame_next f.fixed below z)) i k)
    go (leave r ∷ todo) i k =
        absurd (subst (λ z. IsSettling p (frame_next f.fixed below z)) i k)

-- a frame above others goes on with what it keeps once all that the one above it had is given up
settle-callers : (p : Program) (n : ℕ) (k : Known) (below : List Frame) (owed : Known) (w : Own)
    → Returned p k nothing → Callers p (suc n) k below owed w → Running p n owed below w
settle-callers p n k [] owed w back c =
    subst (Returned p owed) (sym c.1) (subst (λ z. Returned p z nothing) c.0 back)
settle-callers p n k (g ∷ below) owed w back (v, c) = (
  v,
  record {
    left = c.left;
    right = c.right;
    parts = c.parts;
    first = fewer p n (known g v) g.todo c.left
        (c.first nothing c.left back (parts-comm (parts-nothing c.left)));
    second = fewer-callers p n (known g v) below owed c.right c.second;
  },
)

-- what a frame that returns so leaves: the shares of all resources, beside what its callers keep
module _ (p : Program) (accepted : IsAccepted p) (law : InitLeavesShares) (n : ℕ) (owed : Known)
    (f : Fixed) (below : List Frame) (sets : sets_up p f.procedure ≡ true) (w : Own)
    (run : Running p (suc n) owed (frame_with f [] ∷ below) w) where
  abbrev k : Known
  k = known (frame_with f []) run.0

  abbrev mine : Own
  mine = (run.1).left

  abbrev pub kept : Own
  kept = (run.1).right

  ended : Ended p k mine
  ended = (run.1).first

  init : is_init ended.procedure ≡ true
  init = sym (sets_up-is p f.procedure ended.procedure ended.owns.frame.there) ∙ sets

  abbrev pub settle_shares : Own
  settle_shares = without_room f.room mine

  pub settle-free : Resources p (λ r. None) 0 p.resources settle_shares
  unfolding InitLeavesShares
  settle-free = law p accepted.formed k mine ended init

  pub settle-parts : Parts (without_room f.room w) settle_shares kept
  settle-parts = parts-without_room f.room
      (λ slot h. let a = owned-room p k ended.procedure mine ended.owns slot h in
      splits-lacks_right slot a.0 (run.1).parts.slots a.1) (run.1).parts

  pub settle-running : Running p n owed below kept
  settle-running = settle-callers p n k below owed kept
      (record {
        full = mine;
        ended = ended;
        is = sym (ap (λ b. given_back b f.room mine) init);
      }) (run.1).second

  -- the callers have no token
  pub settle-tokens : ((r : ResId) (x : Unit {0}) → w.tokens r ≡ Some x → r.0 < length p.resources)
      → kept.tokens ≡ (λ r. None)
  settle-tokens within = map-same kept.tokens (λ r. None) (λ r. go r (mine.tokens r) refl)
    where
      none-in : (r : ResId) → ltb r.0 (length p.resources) ≡ false → (o : Option (Unit {0}))
          → w.tokens r ≡ o → w.tokens r ≡ None
      none-in r out None e = e
      none-in r out (Some x) e = absurd (past r.0 (length p.resources) (within r x e) out)
        where
          past : (r n : ℕ) → r < n → ltb r n ≡ false → ⊥
          past r n l e = grind (arith, nat_tests)

      tests : (r : ResId) (b : Bool) → ltb r.0 (length p.resources) ≡ b → mine.tokens r ≡ None
          → b ≡ false
      tests r false i e = refl
      tests r true i e =
          let has : mine.tokens r ≡ Some tt = ended.owns.tokens r
          ∙ ap₂ (λ a b. cond {A = Option (Unit {0})} (a && b) (Some tt) None) init i in
          let k : Some tt ≡ None = sym has ∙ e in absurd (cc)

      go : (r : ResId) (o : Option (Unit {0})) → mine.tokens r ≡ o → kept.tokens r ≡ None
      go r (Some x) e = splits-lacks_right r x (run.1).parts.tokens e
      go r None e = (splits-lacks_both r (run.1).parts.tokens
          (none-in r (tests r (ltb r.0 (length p.resources)) refl e) (w.tokens r) refl)).1

  -- the slots of the frame are there too
  pub settle-slots : (others : Store) × Splits w.slots others settle_shares.slots
  settle-slots =
      let m = splits-assoc_right (splits-comm (splits-by_test (in_room f.room) mine.slots))
      (run.1).parts.slots in
      (_, splits-comm m.1)

-- a token is of a resource that is held
token-within : (p : Program) (a : Part) → HoldsWithin p a → (r : ResId) (x : Unit {0})
    → (own_of a).tokens r ≡ Some x → r.0 < length p.resources
token-within p a within r x e = within r (cond-some (a.holds r) tt x e)

module _ (p : Program) (accepted : IsAccepted p) (law : GivenContentsAreOne)
    (leaves_shares : InitLeavesShares) (owed : Known) (ev : Event) (before : TimedPart)
    (contents : List TimedContent) (after : TimedPart) (g : GivesEach p ev before contents after)
    (s : IsSafe p owed before.part) (up : SetsUp p g.settles.frames) where
  abbrev all : Part
  all = g.settles.all

  abbrev f : Fixed
  f = up.fixed

  steps : Goes p ev (common_of before.part) (returns f up.below) (common_of all)
      (runs g.settles.kept)
  steps = subst (λ z. TaskStep p ev (common_of before.part) (runs z) (common_of all)
      (runs g.settles.kept)) up.is g.settles.acts.steps

  run : (n : ℕ) → Running p (suc n) owed (frame_with f [] ∷ up.below) (own_of before.part)
  run n = running-safe p owed before.part (frame_with f [] ∷ up.below) s
      (g.settles.acts.from_is ∙ ap running up.is) (suc n)

  -- nothing is held then
  none-held : all.holds ≡ (λ r. false)
  none-held = λ i r. held-none (all.holds r) all.task
      (ap (λ z. z.held r) steps.1 ∙ ap (λ b. cond b None (holders before.part r)) up.sets) i

  module _ (n : ℕ) where
    abbrev rest : Own
    rest = kept p accepted leaves_shares n owed f up.below up.sets (own_of before.part) (run n)

    abbrev shares : Own
    shares = settle_shares p accepted leaves_shares n owed f up.below up.sets (own_of before.part)
        (run n)

    parts : Parts (without_room f.room (own_of before.part)) shares rest
    parts = settle-parts p accepted leaves_shares n owed f up.below up.sets (own_of before.part)
        (run n)

    left : IsRest all after.part rest.cells rest.slots
    left = hand-rest p accepted law 0 p.resources contents all after.part shares rest.cells
        rest.slots g.settles.in_order g.settles.each g.settles.out g.exactly
        (settle-free p accepted leaves_shares n owed f up.below up.sets (own_of before.part)
        (run n))
        (record {
          cells = subst (λ z. Splits z rest.cells shares.cells) (sym (ap (λ z. z.heap) steps.1))
              (splits-comm parts.cells);
          slots = subst (λ z. Splits z rest.slots shares.slots) (sym (ap (λ z. z.store) steps.1))
              (splits-comm parts.slots);
        })

    kept-is : rest ≡ own_of after.part
    kept-is = own-same rest (own_of after.part) (sym left.cells) (sym left.slots)
        (settle-tokens p accepted leaves_shares n owed f up.below up.sets (own_of before.part)
        (run n) (token-within p before.part s.within)
        ∙ sym (tokens-none after.part (left.holds ∙ none-held)))

    settle-safe_for : Running p n owed up.below (own_of after.part)
    settle-safe_for = subst (Running p n owed up.below) kept-is
        (settle-running p accepted leaves_shares n owed f up.below up.sets (own_of before.part)
        (run n))

  within : HoldsWithin p after.part
  within r e = absurd (true≢false (sym e ∙ ap (λ (h : ResId → Bool). h r)
      ((left 0).holds ∙ none-held)))

  pub settle-safe : IsSafe p owed after.part
  settle-safe = record {
    within = within;
    frames = up.below;
    runs = (left 0).stand ∙ g.settles.acts.to_is ∙ ap stand_of steps.2;
    safe = settle-safe_for;
  }

pub settling_keeps_safe : GivenContentsAreOne → InitLeavesShares → SettlingKeepsSafe
unfolding SettlingKeepsSafe
settling_keeps_safe law leaves_shares p accepted owed ev before contents after g s =
    settle-safe p accepted law leaves_shares owed ev before contents after g s
    (settle-shape p g.settles.frames g.settles.settling)

pub all_contents_are_there : InitLeavesShares → AllContentsAreThere
unfolding AllContentsAreThere
all_contents_are_there law p accepted owed a s (frames, stand, settling) lacks =
    let up = settle-shape p frames settling in
    let run = running-safe p owed a (frame_with up.fixed [] ∷ up.below) s
    (stand ∙ ap running up.is) 1 in
    let shares = settle_shares p accepted law 0 owed up.fixed up.below up.sets (own_of a) run in
    let parts = settle-parts p accepted law 0 owed up.fixed up.below up.sets (own_of a) run in
    let slots = settle-slots p accepted law 0 owed up.fixed up.below up.sets (own_of a) run in
    let hands = hand-out p 0 p.resources a shares
    (kept p accepted law 0 owed up.fixed up.below up.sets (own_of a) run).cells slots.0
    (settle-free p accepted law 0 owed up.fixed up.below up.sets (own_of a) run)
    (record { cells = splits-comm parts.cells; slots = slots.1 }) in
    lacks hands.contents hands.rest hands.from hands.each hands.out hands.exactly
