-- Conjuncts to assume or to show, of which there may be none, in front of other things to do.
-- Names: `adding-LAW`, `taking-LAW`; `unless-LAW` of any item that is there only where there are conjuncts.
use Rattle.std.specs.Option.{unwrap_or, option_map}
use Rattle.std.proofs.Common.{◌≡◌, ℕ, Option, None, List, [], ◌∷◌, ◌++◌, get_or, refl, sym, ap, subst}
use Rattle.sf_base.proofs.HeapSplits.{star-empty_right, star-map_right}
use Rattle.sf_base.proofs.MapSplits.{empty-holds, empty_map, splits-empty_left}
use Rattle.sf_base.specs.declared.place.Place.{Place}
use Rattle.sf_base.specs.declared.value.Value.{Value}
use Rattle.sf_base.specs.declared.value.Value.TheVariants.{Nil as nil}
use Rattle.sf_base.specs.HeapStore.{Heap, IsEmpty, ◌⋆◌}
use Rattle.sf_core.specs.Assertions.Sat.{SatAll}
use Rattle.sf_core.specs.Program.Syntax.{Conjuncts, none, also, Program}
use Rattle.sf_rules.specs.Setting.{Setting}
use Rattle.sf_safe.specs.Checked.Local.{Local}
use Rattle.sf_sound.specs.Checked.Claims.{Does, with_cells}
use Rattle.sf_sound.specs.Checked.Suits.{Domain, TodoSuits}
use Rattle.sf_sym.specs.declared.term.Term.{Term}
use Rattle.sf_rules.specs.Checked.Lemmas.Forms.{showing-empty}
use Rattle.sf_sym.specs.Goal.{Item, run, add, take, gave, head, again, exit, return, end, adding, taking, unless_none}
use Rattle.sf_sym.specs.Holds.{term_value, AddsHold, IsBound, PendingHolds}
use Rattle.sf_sym.specs.Pending.{Pending}
use Rattle.sf_sym.specs.Shape.{IsBody, IsShowing}

-- existentials that have terms have their values
bound : (w : ℕ → Value) (bindings : List (Option Term))
    → IsBound w bindings (λ n. unwrap_or (option_map (term_value w) (get_or bindings n None)) nil)
bound w bindings n t e = ap (λ o. unwrap_or (option_map (term_value w) o) nil) e

-- TO ASSUME
pub adding-suits : (d : Setting) (D : Domain) (q : Place) (given : Pending) (rest : List Item) → TodoSuits d D rest
    → TodoSuits d D (adding q given ++ rest)
adding-suits d D q given rest s = go given.conjuncts
  where
    go : (cs : Conjuncts Term) → TodoSuits d D (unless_none cs (add q given) ++ rest)
    go none = s
    go (also c cs) = s

-- it is there, and the rest is done
pub adding-does : (p : Program) (n : ℕ) (w : ℕ → Value) (q : Place) (given : Pending) (rest : List Item) (l : Local)
    → Does p n w (adding q given ++ rest) l → Does p n w rest l
adding-does p n w q given rest l = go given.conjuncts
  where
    go : (cs : Conjuncts Term) → Does p n w (unless_none cs (add q given) ++ rest) l → Does p n w rest l
    go none x = x
    go (also c cs) x = x

-- TO SHOW
pub taking-suits : (d : Setting) (D : Domain) (q : Place) (want : Pending) (names : List (List ℕ)) (rest : List Item)
    → TodoSuits d D rest → TodoSuits d D (taking q want names ++ rest)
taking-suits d D q want names rest s = go want.conjuncts
  where
    go : (cs : Conjuncts Term) → TodoSuits d D (unless_none cs (take q want names) ++ rest)
    go none = s
    go (also c cs) = s

pub showing-holds : {P : Heap → Type 0} (w : ℕ → Value) (todo : List Item) (heap : Heap) → IsShowing todo → P heap
    → (P ⋆ AddsHold w todo) heap
showing-holds w todo heap i p = star-map_right (λ part e. showing-empty w todo part i e) (star-empty_right p)

-- a part is shown, and the rest is done without it
pub taking-does : (p : Program) (n : ℕ) (w : ℕ → Value) (q : Place) (want : Pending) (names : List (List ℕ))
    (rest : List Item) (l : Local) → Does p n w (taking q want names ++ rest) l
    → (PendingHolds w want ⋆ (λ kept. Does p n w rest (with_cells kept l))) l.cells
taking-does p n w q want names rest l = go want.conjuncts refl
  where
    go : (cs : Conjuncts Term) → want.conjuncts ≡ cs → Does p n w (unless_none cs (take q want names) ++ rest) l
        → (PendingHolds w want ⋆ (λ kept. Does p n w rest (with_cells kept l))) l.cells
    go none e x = record {
      left = empty_map;
      right = l.cells;
      splits = splits-empty_left empty-holds;
      first = (
        λ n. unwrap_or (option_map (term_value w) (get_or want.bindings n None)) nil,
        bound w want.bindings,
        subst (λ cs. SatAll cs (term_value w)
            (λ n. unwrap_or (option_map (term_value w) (get_or want.bindings n None)) nil) empty_map) (sym e)
            empty-holds,
      );
      second = x;
    }
    go (also c cs) e x = x

-- COMMANDS in front of other things to do commands assume nothing at once
pub body-empty : (w : ℕ → Value) (todo : List Item) (heap : Heap) → IsBody todo → IsEmpty heap → AddsHold w todo heap
body-empty w [] heap i e = absurd i
body-empty w (run c ∷ rest) heap i e = e
body-empty w (exit q r ∷ rest) heap i e = e
body-empty w (again q invariant ∷ rest) heap i e = e
body-empty w (return q post ∷ rest) heap i e = e
body-empty w (take q want names ∷ rest) heap i e = absurd i
body-empty w (gave q set removed ∷ rest) heap i e = absurd i
body-empty w (head q test invariant body ∷ rest) heap i e = absurd i
body-empty w (end q ∷ rest) heap i e = absurd i
body-empty w (add q given ∷ rest) heap i e = absurd i

pub body-holds : {P : Heap → Type 0} (w : ℕ → Value) (todo : List Item) (heap : Heap) → IsBody todo → P heap
    → (P ⋆ AddsHold w todo) heap
body-holds w todo heap i p = star-map_right (λ part e. body-empty w todo part i e) (star-empty_right p)
