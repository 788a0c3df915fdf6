-- What a task was given and has used, over the events of tasks at its path, below it, and beside
-- it; and what a supply has at the path of a part.
-- Names: `counts-LAW` of counted lists, `supply-LAW` of supplies.
use Rattle.std.specs.Prelude.{◌≡◌, ◌+◌, ℕ, zero, suc, true, false, cond, List, [], ◌∷◌, ◌++◌, length, Some, None}
use Rattle.std.specs.Option.{option_map}
use Rattle.std.proofs.Common.{ap, ◌∙◌, refl}
use Rattle.std.proofs.lemmas.List.{append_assoc}
use Rattle.std.proofs.lemmas.Option.{same_Some}
use Rattle.sf_base.proofs.MapSplits.{splits-has_left}
use Rattle.sf_base.specs.declared.path.Turn.{Turn}
use Rattle.sf_base.specs.declared.path.Turn.TheVariants.{Left as left_turn, Right as right_turn}
use Rattle.sf_core.specs.Machine.Config.{Path, Config}
use Rattle.sf_core.specs.Machine.SpentSteps.{Spending, anew, is_at_or_above, spends}
use Rattle.sf_core.specs.Machine.Step.{Event}
use Rattle.sf_core.specs.Machine.Supplies.{Supply, has, lent, left_in, put_supply, supply_at, units as units_from}
use Rattle.sf_core.specs.Machine.Whole.{Part, numbers, running, waiting}
use Rattle.sf_core.specs.Program.Syntax.{Program}
use Rattle.sf_part.proofs.Leads.{supplied-focus}
use Rattle.sf_part.proofs.Shares.{share-lent, share-units}
use Rattle.sf_part.proofs.Trees.{entry-here}
use Rattle.sf_part.specs.Supplied.{share_in, share_of, Supplied}
use Rattle.sf_setup.proofs.Goes.{AreUnder, under-split}
use Rattle.sf_spend.specs.Counting.{CountedFrom}

-- Supplies
-- what a part has is in the tree at its path
supply-share : (before after : List Part) (a : Part) (tree : Supply)
    → Supplied (before ++ a ∷ after) tree
    → option_map share_of (supply_at a.task tree) ≡ Some (share_in a.stand (numbers a.supply))
supply-share before after a tree h =
    let (o, s, u) = supplied-focus tree before after a h in
    splits-has_left a.task (share_in a.stand (numbers a.supply)) s
    (entry-here a.task (share_in a.stand (numbers a.supply)))

-- that of one that runs has its units
pub supply-runs : (before after : List Part) (a : Part) (frames : _) (tree : Supply)
    → Supplied (before ++ a ∷ after) tree → a.stand ≡ running frames
    → supply_at a.task tree ≡ Some (has (numbers a.supply))
supply-runs before after a frames tree h e =
    share-units (supply_at a.task tree) (numbers a.supply)
    (supply-share before after a tree h ∙ ap (λ z. Some (share_in z (numbers a.supply))) e)

-- that of one that waits is lent out to two
pub supply-waits : (before after : List Part) (a : Part) (frames : _) (tree : Supply)
    → Supplied (before ++ a ∷ after) tree → a.stand ≡ waiting frames
    → (one : Supply) × (two : Supply) × (supply_at a.task tree ≡ Some (lent one two))
supply-waits before after a frames tree h e =
    share-lent (supply_at a.task tree)
    (supply-share before after a tree h ∙ ap (λ z. Some (share_in z (numbers a.supply))) e)

-- below units there is nothing
pub supply-none : (path : Path) (turn : Turn) (tree : Supply) (us : List ℕ)
    → supply_at path tree ≡ Some (has us) → supply_at (path ++ turn ∷ []) tree ≡ None
supply-none [] turn (has vs) us e = refl
supply-none [] turn (lent a b) us e =
    let h : lent a b ≡ has us = same_Some (lent a b) (has us) e in absurd (cc)
supply-none (also ∷ path) turn (has vs) us e = absurd (cc)
supply-none (left_turn ∷ path) turn (lent a b) us e = supply-none path turn a us e
supply-none (right_turn ∷ path) turn (lent a b) us e = supply-none path turn b us e

-- what is put at the left child or below it changes nothing at the right one
pub supply-beside : (path more : Path) (u tree : Supply)
    → supply_at (path ++ right_turn ∷ []) (put_supply (path ++ left_turn ∷ more) u tree)
    ≡ supply_at (path ++ right_turn ∷ []) tree
supply-beside [] more u (has us) = refl
supply-beside [] more u (lent a b) = refl
supply-beside (turn ∷ path) more u (has us) = refl
supply-beside (left_turn ∷ path) more u (lent a b) = supply-beside path more u a
supply-beside (right_turn ∷ path) more u (lent a b) = supply-beside path more u b

-- a child isn't at or above its parent, nor a right child above what is at or below the left one
pub child-below : (path : Path) (turn : Turn) → is_at_or_above (path ++ turn ∷ []) path ≡ false
child-below [] turn = refl
child-below (left_turn ∷ path) turn = child-below path turn
child-below (right_turn ∷ path) turn = child-below path turn

pub sibling-apart : (path more : Path)
    → is_at_or_above (path ++ right_turn ∷ []) (path ++ left_turn ∷ more) ≡ false
sibling-apart [] more = refl
sibling-apart (left_turn ∷ path) more = sibling-apart path more
sibling-apart (right_turn ∷ path) more = sibling-apart path more

-- so many units from a base on are so many
pub units-length : (base count : ℕ) → length (units_from base count) ≡ count
units-length base zero = refl
units-length base (suc count) = ap suc (units-length (suc base) count)

-- Counts
-- what the event of a task at or below the path leaves of what was given
spends-under : (path at : Path) (before after : Supply) (s : Spending)
    → is_at_or_above path at ≡ true → (spends path at before after s).given ≡ s.given
spends-under path at before after s e =
    ap (λ b. (cond b (record { given = s.given; used = s.used + 1 })
    (anew (supply_at path before) (supply_at path after) s)).given) e

-- and another, of a task that is there
spends-beside : (path at : Path) (before after own : Supply) (s : Spending)
    → is_at_or_above path at ≡ false → supply_at path before ≡ Some own
    → spends path at before after s ≡ s
spends-beside path at before after own s e there =
    ap (λ b. cond b (record { given = s.given; used = s.used + 1 })
    (anew (supply_at path before) (supply_at path after) s)) e
    ∙ ap (λ o. anew o (supply_at path after) s) there

-- and where it comes up
pub spends-anew : (path at : Path) (before after own : Supply) (s : Spending)
    → is_at_or_above path at ≡ false → supply_at path before ≡ None
    → supply_at path after ≡ Some own
    → (spends path at before after s).given ≡ length (left_in own)
spends-anew path at before after own s e none there =
    ap (λ b. (cond b (record { given = s.given; used = s.used + 1 })
    (anew (supply_at path before) (supply_at path after) s)).given) e
    ∙ (ap (λ o. (anew o (supply_at path after) s).given) none
    ∙ ap (λ o. (anew None o s).given) there)

module _ (p : Program) where
  -- events at the path or below it leave what the task was given
  pub counts-under : (path : Path) (c d : Config) (supply rest : Supply) (s last : Spending)
      (events : List Event) → AreUnder path events
      → CountedFrom p path c supply s events d rest last → last.given ≡ s.given
  counts-under path c d supply rest s last [] h (e, f, g) = ap (λ (z : Spending). z.given) g
  counts-under path c d supply rest s last (ev ∷ events) h (between, left, step, takes, more) =
      counts-under path between d left rest (spends path ev.task supply left s) last events h.1 more
      ∙ spends-under path ev.task supply left s h.0

  -- those at its left sibling, or below that, leave all of it
  pub counts-beside : (path : Path) (c d : Config) (supply rest own : Supply) (s last : Spending)
      (events : List Event) → AreUnder (path ++ left_turn ∷ []) events
      → supply_at (path ++ right_turn ∷ []) supply ≡ Some own
      → CountedFrom p (path ++ right_turn ∷ []) c supply s events d rest last → last ≡ s
  counts-beside path c d supply rest own s last [] h there (e, f, g) = g
  counts-beside path c d supply rest own s last (ev ∷ events) h there (between, left, step, takes, more) =
      let r = under-split (path ++ left_turn ∷ []) ev.task h.0 in
      let at : ev.task ≡ path ++ left_turn ∷ r.0 =
      r.1 ∙ append_assoc path (left_turn ∷ []) r.0 in
      let apart : is_at_or_above (path ++ right_turn ∷ []) ev.task ≡ false =
      ap (λ z. is_at_or_above (path ++ right_turn ∷ []) z) at ∙ sibling-apart path r.0 in
      let still : supply_at (path ++ right_turn ∷ []) left ≡ Some own =
      ap (λ z. supply_at (path ++ right_turn ∷ []) z) takes.rest
      ∙ (ap (λ z. supply_at (path ++ right_turn ∷ []) (put_supply z takes.kept supply)) at
      ∙ (supply-beside path r.0 takes.kept supply ∙ there)) in
      counts-beside path between d left rest own
      (spends (path ++ right_turn ∷ []) ev.task supply left s) last events h.1 still more
      ∙ spends-beside (path ++ right_turn ∷ []) ev.task supply left own s apart there
