-- What is owned splits like maps do: cells, slots and tokens apart.
-- Names: `parts-LAW` speaks of `Parts whole left right`, `has-LAW` of a slot that is owned.
use Rattle.std.specs.Prelude.{◌≡◌, ℕ, Bool, true, false, cond, List, [], ◌∷◌, ◌++◌, Option, Some, None, ◌-◌}
use Rattle.std.specs.Option.{option_or}
use Rattle.std.proofs.Common.{sym, ap, refl, subst}
use Rattle.sf_base.specs.HeapStore.{Map, Splits, Apart, Cell, Slot}
use Rattle.sf_base.specs.declared.value.Value.{Value}
use Rattle.sf_base.proofs.MapSplits.{empty-holds, splits-assoc_right, splits-cancel_left, splits-changed_left, splits-comm, splits-empty_right, splits-has_left, splits-of_empty_right}
use Rattle.sf_base.proofs.HeapSplits.{cell-change_left, cell-new_left}
use Rattle.sf_base.proofs.StoreSplits.{slot-change_left}
use Rattle.sf_base.proofs.HeapSums.{Splitting, Cut, Sums as SumsOf, ordered, sums-cut, sums-of_parts, sums-open, sums-order, sums-parts, sums-single}
use Rattle.sf_core.specs.Machine.Config.{Room, in_room, Common}
use Rattle.sf_core.specs.Machine.Step.{open_room, index_of}
use Rattle.sf_core.specs.Program.Syntax.{Program}
use Rattle.sf_safe.specs.Checked.Own.{Own, Parts, HasSlot, everything, new_slots, nothing, put_cell, put_slot, without_room}

-- what is owned is the same where its cells, slots and tokens are
pub own-same : (one two : Own) → one.cells ≡ two.cells → one.slots ≡ two.slots → one.tokens ≡ two.tokens
    → one ≡ two
own-same one two a b c = λ i. record { cells = a i; slots = b i; tokens = c i }

-- what is owned splits in two
abbrev pub owns : Splitting Own
owns = record {
  Parts = Parts;
  nothing = nothing;
  comm = λ p. record {
    cells = splits-comm p.cells;
    slots = splits-comm p.slots;
    tokens = splits-comm p.tokens;
  };
  assoc = λ p q.
      let a = splits-assoc_right p.cells q.cells in
      let b = splits-assoc_right p.slots q.slots in
      let c = splits-assoc_right p.tokens q.tokens in
      record {
        both = record { cells = _; slots = _; tokens = _ };
        inner = record { cells = a.0; slots = b.0; tokens = c.0 };
        outer = record { cells = a.1; slots = b.1; tokens = c.1 };
      };
  unit = λ w. record {
    cells = splits-empty_right empty-holds;
    slots = splits-empty_right empty-holds;
    tokens = splits-empty_right empty-holds;
  };
  of_unit = λ {w} {a} p. own-same w a (splits-of_empty_right empty-holds p.cells)
      (splits-of_empty_right empty-holds p.slots) (splits-of_empty_right empty-holds p.tokens);
  cancel = λ {w} {a} {b} {c} p q. own-same b c (splits-cancel_left p.cells q.cells)
      (splits-cancel_left p.slots q.slots) (splits-cancel_left p.tokens q.tokens);
}

-- the whole is the disjoint union of the parts of a list
abbrev pub Sums : Own → List Own → Type 0
Sums w us = SumsOf owns w us

-- the parts may be exchanged
pub parts-comm : {w u v : Own} → Parts w u v → Parts w v u
parts-comm p = owns.comm p

-- everything is itself and nothing
pub parts-nothing : (w : Own) → Parts w w nothing
parts-nothing w = owns.unit w

-- with nothing on the right the left part is the whole
pub parts-of_nothing : {w u : Own} → Parts w u nothing → w ≡ u
parts-of_nothing p = owns.of_unit p

-- (a b) c becomes a (b c)
abbrev pub and : Own → Own → Own
and u v = record {
  cells = λ a. option_or (u.cells a) (v.cells a);
  slots = λ a. option_or (u.slots a) (v.slots a);
  tokens = λ a. option_or (u.tokens a) (v.tokens a);
}

pub parts-right : {w ab a b c : Own} → Parts ab a b → Parts w ab c → Parts (and b c) b c × Parts w a (and b c)
parts-right p q =
    let a = splits-assoc_right p.cells q.cells in
    let b = splits-assoc_right p.slots q.slots in
    let c = splits-assoc_right p.tokens q.tokens in (
      record { cells = a.0; slots = b.0; tokens = c.0 },
      record { cells = a.1; slots = b.1; tokens = c.1 },
    )

-- a (b c) becomes (b a) c, the first two in that order
pub parts-left : {w bc a b c : Own} → Parts bc b c → Parts w a bc → Parts (and b a) a b × Parts w (and b a) c
parts-left p q = let m = parts-right (parts-comm p) (parts-comm q) in (parts-comm m.0, parts-comm m.1)

-- SUMS: the laws of lists of parts, of what is owned

pub order : (ns : List ℕ) (us : List Own) (w : Own) → Sums w us → Sums w (ordered nothing ns us)
order ns us w s = sums-order owns ns us w s

pub opened : {u w : Own} (us vs : List Own) → Sums w (u ∷ vs) → Sums u us → Sums w (us ++ vs)
opened us vs s t = sums-open owns us vs s t

pub two : {w u v : Own} → Parts w u v → Sums w (u ∷ v ∷ [])
two p = sums-of_parts owns p

pub pair : {w u v : Own} → Sums w (u ∷ v ∷ []) → Parts w u v
pair s = sums-parts owns s

pub single : (w : Own) → Sums w (w ∷ [])
single w = sums-single owns w

pub front : {w u x : Own} (us : List Own) → Parts w u x → Sums x us → Sums w (u ∷ us)
front {x = x} us p s = (x, p, s)

pub group : {w u v : Own} (us : List Own) → Sums w (u ∷ v ∷ us) → Cut owns w u v us
group us s = sums-cut owns us s

-- CHANGES of one part

-- a slot that the left part has is written there
pub parts-put_slot : {w u r : Own} (slot : Slot) (v : Value) → HasSlot u slot → Parts w u r
    → Parts (put_slot slot v w) (put_slot slot v u) r
parts-put_slot slot v h p = record {
  cells = p.cells;
  slots = slot-change_left slot h.0 (Some v) p.slots h.1;
  tokens = p.tokens;
}

-- a cell that the left part has is changed or removed there
pub parts-put_cell : {w u r : Own} (location : ℕ) (old : Cell) (c : Option Cell) → u.cells location ≡ Some old
    → Parts w u r → Parts (put_cell location c w) (put_cell location c u) r
parts-put_cell location old c h p = record {
  cells = cell-change_left location old c p.cells h;
  slots = p.slots;
  tokens = p.tokens;
}

-- a cell that is nowhere is made in the left part
pub parts-new_cell : {w u r : Own} (location : ℕ) (c : Option Cell) → w.cells location ≡ None → Parts w u r
    → Parts (put_cell location c w) (put_cell location c u) r
parts-new_cell location c h p = record {
  cells = cell-new_left location c p.cells h;
  slots = p.slots;
  tokens = p.tokens;
}

module _ {X : Type 0} where
  filled-apart : (b : Bool) (x y : Option X) → (b ≡ true → x ≡ None) → Apart x (cond b y None)
  filled-apart true x y e = subst (λ z. Apart z y) (sym (e refl)) tt
  filled-apart false None y e = tt
  filled-apart false (Some x) y e = tt

  filled-or : (b : Bool) (x y : Option X) → (b ≡ true → x ≡ None) → cond b y x ≡ option_or x (cond b y None)
  filled-or true x y e = ap (λ z. option_or z y) (sym (e refl))
  filled-or false None y e = refl
  filled-or false (Some x) y e = refl

module _ {K X : Type 0} where
  -- entries at keys where a map has nothing are a part of their own
  pub splits-filled : (map : Map K X) (test : K → Bool) (entry : K → Option X)
      → ((key : K) → test key ≡ true → map key ≡ None)
      → Splits (λ key. cond (test key) (entry key) (map key)) map (λ key. cond (test key) (entry key) None)
  splits-filled map test entry e = record {
    apart = λ key. filled-apart (test key) (map key) (entry key) (e key);
    is = λ key. filled-or (test key) (map key) (entry key) (e key);
  }

-- the slots of a room that come up are a part of their own
pub parts-open_room : (p : Program) (room : Room) (v : ℕ → Value) (s : Common)
    → ((slot : Slot) → in_room room slot ≡ true → s.store slot ≡ None)
    → Parts (everything p (open_room room v s)) (everything p s) (new_slots room v)
parts-open_room p room v s e = record {
  cells = splits-empty_right empty-holds;
  slots = splits-filled s.store (in_room room) (λ slot. Some (v (index_of slot - room.first))) e;
  tokens = splits-empty_right empty-holds;
}

-- slots that the right part lacks vanish in the left part
pub parts-without_room : {w u r : Own} (room : Room)
    → ((slot : Slot) → in_room room slot ≡ true → r.slots slot ≡ None) → Parts w u r
    → Parts (without_room room w) (without_room room u) r
parts-without_room room e p = record {
  cells = p.cells;
  slots = splits-changed_left (in_room room) None e p.slots;
  tokens = p.tokens;
}

-- a slot that a part has, the whole has
pub has-left : {w u r : Own} (slot : Slot) → Parts w u r → HasSlot u slot → HasSlot w slot
has-left slot p h = (h.0, splits-has_left slot h.0 p.slots h.1)
