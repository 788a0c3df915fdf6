-- What a call lends, as the callee begins with it, and what comes back.
-- Names: `own-LAW` of a callee's own variables, `begun-LAW` of its beginning, `back-LAW` of what comes back.
use Rattle.std.specs.Prelude.{◌≡◌, ℕ, zero, suc, Bool, true, false, cond, Option, Some, None, List, [], ◌∷◌, ◌==◌, ◌&&◌, ◌+◌, ◌-◌, ◌<◌, ◌≤◌, leb, length, ltb, map}
use Rattle.std.specs.List.{slice_get}
use Rattle.std.specs.Option.{unwrap_or}
use Rattle.std.proofs.Common.{sym, ap, ap₂, ◌∙◌, refl, subst, inl, inr, arith, true≢false}
use Rattle.std.proofs.lemmas.Bool.Decides.{nat_tests}
use Rattle.std.proofs.lemmas.List.{get_or_past, length-map}
use Rattle.std.proofs.lemmas.Option.{none-some, same_Some, slice_get_within}
use Rattle.sf_base.specs.declared.ids.ResId.{ResId}
use Rattle.sf_base.specs.declared.ids.ProcId.{ProcId}
use Rattle.sf_base.specs.declared.ids.Var.{Var}
use Rattle.sf_base.specs.declared.ids.Var.TheVariants.{Own as OwnVar, Shared}
use Rattle.sf_base.specs.declared.value.Value.{Value}
use Rattle.sf_base.specs.declared.value.Value.TheVariants.{Nil as nil}
use Rattle.sf_base.proofs.HeapSplits.{star-drop_right}
use Rattle.sf_base.specs.HeapStore.{Slot, own, shared}
use Rattle.sf_base.proofs.MapSplits.{empty-holds, splits-lacks_whole, splits-of_empty_right, splits-has_left, splits-has_right, splits-lacks_right, splits-which}
use Rattle.sf_calls.specs.Assigned.{MayChange}
use Rattle.sf_calls.specs.Conditions.{Free}
use Rattle.sf_calls.specs.Outside.{IsAmong}
use Rattle.sf_calls.specs.Reaches.{directly}
use Rattle.sf_calls.specs.Checked.Lemmas.Within.{level_within}
use Rattle.sf_core.specs.declared.command.Occurrence.{Occurrence}
use Rattle.sf_core.specs.Assertions.Occurs.{VarOccursIn}
use Rattle.sf_core.specs.Assertions.Sat.{Sat, value}
use Rattle.sf_core.specs.Machine.Config.{Room, evaluate, in_room}
use Rattle.sf_core.specs.Machine.Step.{arguments, own_slot, procedure_at, room_count, room_for, slots_of}
use Rattle.sf_core.specs.Program.Formed.{IsFormed, IsParameter}
use Rattle.sf_core.specs.Checked.GoodParts.{SatEach}
use Rattle.sf_core.specs.Program.Init.{is_init}
use Rattle.sf_core.specs.Program.Syntax.{Call, Procedure, Program}
use Rattle.sf_core.proofs.Inits.{owed_by-post}
use Rattle.sf_core.proofs.Assertions.Sat.{sat-same_variables}
use Rattle.sf_safe.specs.Checked.Own.{HasSlot, Own, Parts, new_slots, without_room}
use Rattle.sf_safe.specs.Checked.Contract.{Ended, Entered, IsVariableOf, Known, Returned, given_back, see, tokens_of, value_of}
use Rattle.sf_safe.specs.Checked.Local.{ComesBack, Fits, HasJustVars, Local, callee_value, own_value, value_in}
use Rattle.sf_safe.specs.Checked.Safe.{callee}
use Rattle.sf_safe.specs.Checked.Rooms.{room-index}
use Rattle.sf_safe.proofs.Views.{IsSeen}

-- OWN VARIABLES of a callee: a reference, or one of its room

data OwnOf (slots : Var → Slot) (refs : List Occurrence) (room : Room) (e : Var → Value) (args : ℕ → Value) (i : ℕ)
    : Type 0 where
  reference : (x : Occurrence) → slice_get refs i ≡ Some x → own_slot slots refs room i ≡ slots x.var
      → own_value e refs args i ≡ e x.var → OwnOf slots refs room e args i
  mine : (j : ℕ) → i ≡ length refs + j → own_slot slots refs room i ≡ own room.event (room.first + j)
      → own_value e refs args i ≡ args j → OwnOf slots refs room e args i

own-more : (slots : Var → Slot) (y : Occurrence) (refs : List Occurrence) (room : Room) (e : Var → Value)
    (args : ℕ → Value) (i : ℕ) → OwnOf slots refs room e args i → OwnOf slots (y ∷ refs) room e args (suc i)
own-more slots y refs room e args i (reference x a b c) = reference x a b c
own-more slots y refs room e args i (mine j a b c) = mine j (omega (arith, a)) b c

own-of : (slots : Var → Slot) (refs : List Occurrence) (room : Room) (e : Var → Value) (args : ℕ → Value) (i : ℕ)
    → OwnOf slots refs room e args i
own-of slots [] room e args i = mine i (omega arith) refl refl
own-of slots (y ∷ refs) room e args zero = reference y refl refl refl
own-of slots (y ∷ refs) room e args (suc i) =
    own-more slots y refs room e args i (own-of slots refs room e args i)

among-slice : (refs : List Occurrence) (x : Var) → IsAmong x refs
    → (i : ℕ) × (y : Occurrence) × (slice_get refs i ≡ Some y) × (y.var ≡ x)
among-slice [] x a = absurd a
among-slice (y ∷ refs) x (inl e) = (0, y, refl, e)
among-slice (y ∷ refs) x (inr a) = let m = among-slice refs x a in (suc m.0, m.1, m.2, m.3)

slice-among : (refs : List Occurrence) (i : ℕ) (y : Occurrence) → slice_get refs i ≡ Some y → IsAmong y.var refs
slice-among [] i y e = absurd (none-some y e)
slice-among (z ∷ refs) zero y e = inl (ap (λ (o : Occurrence). o.var) (same_Some z y e))
slice-among (z ∷ refs) (suc i) y e = inr (slice-among refs i y e)

room-own : (e first j count : ℕ) → j < count → (e == e) && (leb first (first + j) && ltb (first + j) (first + count)) ≡ true
room-own e first j count h = grind (arith, nat_tests)

index-back : (first j : ℕ) → first + j - first ≡ j
index-back first j = omega arith

own-injective : (d e i j : ℕ) → own d i ≡ own e j → i ≡ j
own-injective d e i j h = cc

own-variable : (i j : ℕ) → OwnVar i ≡ OwnVar j → i ≡ j
own-variable i j h = cc

shared-variable : (r q : ResId) (i j : ℕ) → shared r i ≡ shared q j → Shared r i ≡ Shared q j
shared-variable r q i j h = cc

not-true : (b : Bool) → (b ≡ true → ⊥) → b ≡ false
not-true true n = absurd (n refl)
not-true false n = refl

cond-not : (b : Bool) (x : Option Value) (v : Value) → cond b None x ≡ Some v → (b ≡ false) × (x ≡ Some v)
cond-not true x v e = absurd (none-some v e)
cond-not false x v e = (refl, e)

cond-yes : (b : Bool) (x : Option Value) (v : Value) → cond b x None ≡ Some v → b ≡ true
cond-yes true x v e = refl
cond-yes false x v e = absurd (none-some v e)

-- WHAT OCCURS in a contract is a variable of the frame

pub pre-variable : (p : Program) → IsFormed p → (f : ProcId) (g : Procedure) → procedure_at p f ≡ Some g → (x : Var)
    → VarOccursIn g.pre.level x → IsVariableOf p f g x
pre-variable p formed f g there (Shared r i) o = inl (tt, directly (g, there, inl o))
pre-variable p formed f g there (OwnVar i) o =
    let within = formed.procedures f.0 g there in
    let l : i < g.references + g.values =
    level_within p.fields (IsParameter p g) [] (OwnVar i) g.pre.level within.pre.annotation.within o in
    let m : g.references + g.values + g.locals ≤ length g.names = within.declared in
    omega (arith, l, m)

post-shared : (p : Program) (f : ProcId) (g : Procedure) → procedure_at p f ≡ Some g → (r : ResId) (i : ℕ)
    → VarOccursIn g.post.level (Shared r i) → Free p f (Shared r i)
post-shared p f g there r i o = (tt, directly (g, there, inr (inl o)))

post-own : (p : Program) → IsFormed p → (f : ProcId) (g : Procedure) → procedure_at p f ≡ Some g → (i : ℕ)
    → VarOccursIn g.post.level (OwnVar i) → i < g.references + g.values
post-own p formed f g there i o =
    level_within p.fields (IsParameter p g) [] (OwnVar i) g.post.level
    (formed.procedures f.0 g there).post.annotation.within o

module _ (p : Program) (formed : IsFormed p) (k : Known) (w : Own)
    (global : (r : ResId) (i : ℕ) → k.fixed.slots (Shared r i) ≡ shared r i) (c : Call) (g : Procedure)
    (there : procedure_at p c.callee ≡ Some g) (fits : Fits p c g) (event first : ℕ) where
  abbrev room : Room
  room = room_for g event first

  abbrev slots : Var → Slot
  slots = k.fixed.slots

  abbrev args : ℕ → Value
  args = arguments slots w.slots c

  abbrev begins : Known
  begins = callee k w c g room

  abbrev mine_slots : Var → Slot
  mine_slots = slots_of slots c room

  -- a variable of the callee
  abbrev IsMine : Var → Type 0
  IsMine = IsVariableOf p c.callee g

  -- a variable of a resource is one that is free in it, since it doesn't set the resources up
  mine-free : (r : ResId) (i : ℕ) → IsMine (Shared r i) → Free p c.callee (Shared r i)
  mine-free r i (inl free) = free
  mine-free r i (inr a) = absurd (true≢false (sym a.0 ∙ fits.no_init))

  -- nor has it a token
  no-tokens : (r : ResId) → tokens_of p g r ≡ None
  no-tokens r = ap (λ b. cond {A = Option (Unit {0})} (b && ltb r.0 (length p.resources)) (Some tt) None) fits.no_init

  enough : g.references + g.values + g.locals ≤ length g.names
  enough = (formed.procedures c.callee.0 g there).declared

  -- a reference is a variable of the callee
  reference-mine : (i : ℕ) (y : Occurrence) → slice_get c.references i ≡ Some y → IsMine (OwnVar i)
  reference-mine i y e =
      let l : i < length c.references = slice_get_within c.references i y e in
      let m = enough in
      let n = fits.references in
      omega (arith, l, m, n)

  reference-small : (i : ℕ) (y : Occurrence) → slice_get c.references i ≡ Some y → i < g.references
  reference-small i y e =
      let l : i < length c.references = slice_get_within c.references i y e in
      let n = fits.references in omega (arith, l, n)

  -- a reference is in its variable's slot
  reference-at : (i : ℕ) (y : Occurrence) → slice_get c.references i ≡ Some y
      → own_slot slots c.references room i ≡ slots y.var
  reference-at i y a = go (own-of slots c.references room (λ x. nil) args i)
    where
      go : OwnOf slots c.references room (λ x. nil) args i → own_slot slots c.references room i ≡ slots y.var
      go (reference z b f h) = f ∙ ap (λ (o : Occurrence). slots o.var) (same_Some z y (sym b ∙ a))
      go (mine j b f h) =
          let l : i < length c.references = slice_get_within c.references i y a in absurd (omega (arith, b, l))

  -- one of the room is numbered within it
  room-small : (i j : ℕ) → i ≡ length c.references + j → i < length g.names → j < room_count g
  room-small i j e l = let n = fits.references in omega (arith, e, l, n)

  new-has : (j : ℕ) → j < room_count g → (new_slots room args).slots (own event (first + j)) ≡ Some (args j)
  new-has j l =
      ap (λ b. cond b (Some (args (first + j - first))) None) (room-own event first j (room_count g) l)
      ∙ ap (λ z. Some (args z)) (index-back first j)

  -- what is lent is a reference's or a free variable of a resource
  lent-shared : (x : Var) → Free p c.callee x → (r : ResId) × (i : ℕ) × (x ≡ Shared r i)
  lent-shared (OwnVar i) free = absurd free.0
  lent-shared (Shared r i) free = (r, i, refl)

  module _ (lent : Local) (given : Own) (seen : IsSeen slots lent given)
      (variables : HasJustVars (MayChange p c) lent) where
    -- THE BEGINNING

    module _ (begun : Own) (q : Parts begun given (new_slots room args)) where
      -- each variable of the callee has in its slot the value that the caller gives it
      begun-is : (x : Var) → IsMine x
          → begun.slots (mine_slots x) ≡ Some (callee_value (value_in lent) c args x)
      begun-is (Shared r i) a =
          let v = variables.each (Shared r i) (inr (mine-free r i a)) in
          let slot = splits-has_left (slots (Shared r i)) v.0 q.slots (seen.each (Shared r i) v.0 v.1) in
          ap begun.slots (sym (global r i)) ∙ slot ∙ ap Some (sym (ap (λ z. unwrap_or z nil) v.1))
      begun-is (OwnVar i) l = go (own-of slots c.references room (value_in lent) args i)
        where
          go : OwnOf slots c.references room (value_in lent) args i
              → begun.slots (own_slot slots c.references room i)
              ≡ Some (own_value (value_in lent) c.references args i)
          go (reference y a b d) =
              let v = variables.each y.var (inl (slice-among c.references i y a)) in
              ap begun.slots b ∙ splits-has_left (slots y.var) v.0 q.slots (seen.each y.var v.0 v.1)
              ∙ ap Some (sym (d ∙ ap (λ z. unwrap_or z nil) v.1))
          go (mine j a b d) =
              ap begun.slots b
              ∙ splits-has_right (own event (first + j)) (args j) q.slots (new-has j (room-small i j a l))
              ∙ ap Some (sym d)

      begun-only : (s : Slot) (v : Value) → begun.slots s ≡ Some v → (x : Var) × IsMine x × (mine_slots x ≡ s)
      begun-only s v e = elim (splits-which s v q.slots e) [ inl i ↦ lent-one (seen.only s v i.0) | inr i ↦ new-one s i.0 ]
        where
          lent-one : (x : Var) × (lent.values x ≡ Some v) × (slots x ≡ s)
              → (x : Var) × IsMine x × (mine_slots x ≡ s)
          lent-one (x, h, is) = elim (variables.only x (v, h)) [
            | inl a ↦ reference-one (among-slice c.references x a)
            | inr free ↦
                let m = lent-shared x free in
                (Shared m.0 m.1, inl (subst (Free p c.callee) m.2 free), sym (global m.0 m.1) ∙ ap slots (sym m.2) ∙ is)
          ]
            where
              reference-one : (i : ℕ) × (y : Occurrence) × (slice_get c.references i ≡ Some y) × (y.var ≡ x)
                  → (x : Var) × IsMine x × (mine_slots x ≡ s)
              reference-one (i, y, a, d) = go (own-of slots c.references room (value_in lent) args i)
                where
                  go : OwnOf slots c.references room (value_in lent) args i
                      → (x : Var) × IsMine x × (mine_slots x ≡ s)
                  go (reference z b f h) =
                      let same = same_Some z y (sym b ∙ a) in
                      (OwnVar i, reference-mine i y a, f ∙ ap (λ (o : Occurrence). slots o.var) same ∙ ap slots d ∙ is)
                  go (mine j b f h) =
                      let l : i < length c.references = slice_get_within c.references i y a in
                      absurd (omega (arith, b, l))

          new-one : (s : Slot) → (new_slots room args).slots s ≡ Some v → (x : Var) × IsMine x × (mine_slots x ≡ s)
          new-one (shared r i) h = absurd (none-some v h)
          new-one (own d i) h =
              let b = cond-yes (in_room room (own d i)) (Some (args (i - first))) v h in
              let m = room-index d event i first (room_count g) g.references (length g.names) b refl in (
                OwnVar (g.references + (i - first)),
                m.2,
                go (g.references + (i - first))
                    (own-of slots c.references room (value_in lent) args (g.references + (i - first))) refl m.0 m.3,
              )
            where
              go : (n : ℕ) → OwnOf slots c.references room (value_in lent) args n → n ≡ g.references + (i - first)
                  → d ≡ event → first + (g.references + (i - first) - g.references) ≡ i
                  → own_slot slots c.references room n ≡ own d i
              go n (reference z b f h) e same back =
                  let l = reference-small n z b in absurd (omega (arith, e, l))
              go n (mine j b f h) e same back =
                  let m = fits.references in
                  let k : first + j ≡ i = omega (arith, e, b, m, back) in
                  f ∙ ap₂ own (sym same) k

      begun-mixed : (i : ℕ) (r : ResId) (j : ℕ) → Free p c.callee (Shared r j)
          → own_slot slots c.references room i ≡ shared r j → ⊥
      begun-mixed i r j free e = go (own-of slots c.references room (value_in lent) args i)
        where
          go : OwnOf slots c.references room (value_in lent) args i → ⊥
          go (reference y a f h) =
              let v = variables.each y.var (inl (slice-among c.references i y a)) in
              let u = variables.each (Shared r j) (inr free) in
              let same = seen.apart y.var (Shared r j) v.0 u.0 v.1 u.1 (sym f ∙ e ∙ sym (global r j)) in
              fits.not_free y.var (slice-among c.references i y a) (subst (Free p c.callee) (sym same) free)
          go (mine n a f h) = let z : own event (first + n) ≡ shared r j = sym f ∙ e in absurd (cc)

      begun-apart : (x y : Var) → IsMine x → IsMine y → mine_slots x ≡ mine_slots y → x ≡ y
      begun-apart (Shared r i) (Shared o j) a b e = shared-variable r o i j e
      begun-apart (OwnVar i) (Shared r j) a b e = absurd (begun-mixed i r j (mine-free r j b) e)
      begun-apart (Shared r j) (OwnVar i) a b e = absurd (begun-mixed i r j (mine-free r j a) (sym e))
      begun-apart (OwnVar i) (OwnVar j) a b e =
          go (own-of slots c.references room (value_in lent) args i) (own-of slots c.references room (value_in lent) args j)
        where
          -- a reference isn't in the room
          cross : (i j : ℕ) (y : Occurrence) (n : ℕ) → slice_get c.references i ≡ Some y
              → slots y.var ≡ own event (first + n) → n < room_count g → ⊥
          cross i j y n a f l =
              let v = variables.each y.var (inl (slice-among c.references i y a)) in
              let none = splits-lacks_right (slots y.var) v.0 q.slots (seen.each y.var v.0 v.1) in
              none-some (args n) (sym (ap (new_slots room args).slots (sym f) ∙ none) ∙ new-has n l)

          go : OwnOf slots c.references room (value_in lent) args i
              → OwnOf slots c.references room (value_in lent) args j → OwnVar i ≡ OwnVar j
          go (reference y a1 f h) (reference z a2 f2 h2) =
              let v = variables.each y.var (inl (slice-among c.references i y a1)) in
              let u = variables.each z.var (inl (slice-among c.references j z a2)) in
              let same = seen.apart y.var z.var v.0 u.0 v.1 u.1 (sym f ∙ e ∙ f2) in
              ap OwnVar (fits.different i j y z a1 a2 same)
          go (reference y a1 f h) (mine n a2 f2 h2) =
              absurd (cross i j y n a1 (sym f ∙ e ∙ f2) (room-small j n a2 b))
          go (mine n a1 f h) (reference z a2 f2 h2) =
              absurd (cross j i z n a2 (sym f2 ∙ sym e ∙ f) (room-small i n a1 a))
          go (mine n a1 f h) (mine m a2 f2 h2) =
              let same = own-injective event event (first + n) (first + m) (sym f ∙ e ∙ f2) in
              ap OwnVar (omega (arith, a1, a2, same))

      own-slots : (i : ℕ) → g.references ≤ i → i < length g.names
          → own_slot slots c.references room i ≡ own event (first + (i - g.references))
      own-slots i l m = go (own-of slots c.references room (value_in lent) args i)
        where
          go : OwnOf slots c.references room (value_in lent) args i
              → own_slot slots c.references room i ≡ own event (first + (i - g.references))
          go (reference y a f h) = let o = reference-small i y a in absurd (omega (arith, l, o))
          go (mine j a f h) =
              let o = fits.references in
              let same : j ≡ i - g.references = omega (arith, a, o) in
              f ∙ ap (λ z. own event (first + z)) same

      -- values and locals have the arguments, and nil after them
      own-argument : (j : ℕ) → own_value (value_in lent) c.references args (g.references + j) ≡ args j
      own-argument j = go (own-of slots c.references room (value_in lent) args (g.references + j))
        where
          go : OwnOf slots c.references room (value_in lent) args (g.references + j)
              → own_value (value_in lent) c.references args (g.references + j) ≡ args j
          go (reference y a f h) = let o = reference-small (g.references + j) y a in absurd (omega (arith, o))
          go (mine n a f h) =
              let o = fits.references in
              let same : n ≡ j = omega (arith, a, o) in h ∙ ap args same

      begun-value : (x : Var) → IsMine x → value_of begins begun x ≡ callee_value (value_in lent) c args x
      begun-value x a = ap (λ z. unwrap_or z nil) (begun-is x a)

      past-arguments : (j : ℕ) → g.values ≤ j → args j ≡ nil
      past-arguments j l =
          let n = fits.values in
          let m : length (map (evaluate slots w.slots) c.values) ≡ length c.values =
          length-map c.values (evaluate slots w.slots) in
          get_or_past (map (evaluate slots w.slots) c.values) j nil (omega (arith, l, n, m))

      -- the callee begins with what it is lent and its new slots
      pub begun-entered : ((r : ResId) → lent.tokens r ≡ None)
          → Sat g.pre.level (value (callee_value (value_in lent) c args)) (λ n. nil) lent.cells
          → Entered p begins begun
      begun-entered outside pre = record {
        procedure = g;
        owns = record {
          frame = record {
            there = there;
            count = refl;
            own_slots = own-slots;
            shared_slots = λ r i. refl;
            apart = begun-apart;
          };
          variables = record {
            each = λ x a. (callee_value (value_in lent) c args x, begun-is x a);
            only = begun-only;
          };
          tokens = λ r. splits-lacks_whole r q.tokens (ap (λ z. z r) seen.tokens ∙ outside r) refl
              ∙ sym (no-tokens r);
          values = λ i l. begun-value (OwnVar (g.references + i)) (value-mine i l) ∙ own-argument i;
        };
        locals = λ i l m. begun-value (OwnVar i) m ∙ local-nil i l;
        unset = λ r i a. absurd (true≢false (sym a.0 ∙ fits.no_init));
        pre = subst (Sat g.pre.level (see begins begun) (λ n. nil)) (sym cells)
            (sat-same_variables g.pre.level (callee_value (value_in lent) c args)
            (λ x. unwrap_or (begun.slots (mine_slots x)) nil) (λ n. nil) lent.cells
            (λ x o. sym (begun-value x (pre-variable p formed c.callee g there x o))) pre);
      }
        where
          value-mine : (i : ℕ) → i < g.values → g.references + i < length g.names
          value-mine i l = let m = enough in omega (arith, l, m)

          local-nil : (i : ℕ) → g.references + g.values ≤ i → own_value (value_in lent) c.references args i ≡ nil
          local-nil i l =
              let same : i ≡ g.references + (i - g.references) = omega (arith, l) in
              ap (own_value (value_in lent) c.references args) same ∙ own-argument (i - g.references)
              ∙ past-arguments (i - g.references) (omega (arith, l))

          cells : begun.cells ≡ lent.cells
          cells = splits-of_empty_right empty-holds q.cells ∙ seen.cells

    -- WHAT COMES BACK

    module _ (back : Own) (returned : Returned p begins back) where
      abbrev full : Own
      full = returned.full

      abbrev ended : Ended p begins full
      ended = returned.ended

      same-procedure : ended.procedure ≡ g
      same-procedure = same_Some ended.procedure g (sym ended.owns.frame.there ∙ there)

      -- the callee gives back what it has but its room
      back-all : back ≡ without_room room full
      back-all = returned.is ∙ ap (λ b. given_back b room full) (ap is_init same-procedure ∙ fits.no_init)

      mine-then : (x : Var) → IsMine x → IsVariableOf p c.callee ended.procedure x
      mine-then x a = subst (λ z. IsVariableOf p c.callee z x) (sym same-procedure) a

      mine-now : (x : Var) → IsVariableOf p c.callee ended.procedure x → IsMine x
      mine-now x a = subst (λ z. IsVariableOf p c.callee z x) same-procedure a

      -- the value of a variable that was lent, when it comes back
      abbrev kept-by : Option Value → Option Value → Option Value
      kept-by None now = None
      kept-by (Some v) now = now

      abbrev pub back_view : Local
      back_view = record {
        values = λ x. kept-by (lent.values x) (back.slots (slots x));
        cells = back.cells;
        tokens = back.tokens;
      }

      kept-lent : (o now : Option Value) (v : Value) → kept-by o now ≡ Some v → (u : Value) × (o ≡ Some u) × (now ≡ Some v)
      kept-lent None now v e = absurd (none-some v e)
      kept-lent (Some u) now v e = (u, refl, e)

      kept-now : (o now : Option Value) (u : Value) → o ≡ Some u → kept-by o now ≡ now
      kept-now None now u e = absurd (none-some u e)
      kept-now (Some v) now u e = refl

      view-now : (x : Var) → MayChange p c x → back_view.values x ≡ back.slots (slots x)
      view-now x m = let v = variables.each x m in kept-now (lent.values x) (back.slots (slots x)) v.0 v.1

      back-is : (s : Slot) → back.slots s ≡ cond (in_room room s) None (full.slots s)
      back-is s = ap (λ (z : Own). z.slots s) back-all

      -- no reference is in the callee's room
      not-in_room : (i : ℕ) (y : Occurrence) → slice_get c.references i ≡ Some y → in_room room (slots y.var) ≡ false
      not-in_room i y a = not-true (in_room room (slots y.var)) (λ h. go (slots y.var) refl h)
        where
          go : (s : Slot) → slots y.var ≡ s → in_room room s ≡ true → ⊥
          go (shared r n) e h = true≢false (sym h)
          go (own d n) e h =
              let m = room-index d event n first (room_count g) g.references (length g.names) h refl in
              let j = g.references + (n - first) in
              let mine_ : mine_slots (OwnVar j) ≡ own d n =
              ended.owns.frame.own_slots j (subst (λ z. z.references ≤ j) (sym same-procedure) m.1)
              (subst (λ z. j < length z.names) (sym same-procedure) m.2)
              ∙ ap₂ own (sym m.0) (ap (λ z. first + (j - z.references)) same-procedure ∙ m.3) in
              let same = ended.owns.frame.apart (OwnVar i) (OwnVar j) (mine-then (OwnVar i) (reference-mine i y a))
              (mine-then (OwnVar j) m.2) (reference-slot ∙ e ∙ sym mine_) in
              let l = reference-small i y a in
              let z = own-variable i j same in
              omega (arith, l, z)
            where
              reference-slot : own_slot slots c.references room i ≡ slots y.var
              reference-slot = reference-at i y a

      full-has : (x : Var) → IsMine x → HasSlot full (mine_slots x)
      full-has x a = ended.owns.variables.each x (mine-then x a)

      -- a slot of the callee's that isn't of its room comes back
      back-from : (sl : Slot) (v : Value) → full.slots sl ≡ Some v → in_room room sl ≡ false → back.slots sl ≡ Some v
      back-from sl v h i = back-is sl ∙ ap (λ b. cond b None (full.slots sl)) i ∙ h

      back-reference : (i : ℕ) (y : Occurrence) → slice_get c.references i ≡ Some y
          → back.slots (slots y.var) ≡ full.slots (mine_slots (OwnVar i))
      back-reference i y a =
          let v = full-has (OwnVar i) (reference-mine i y a) in
          let at = reference-at i y a in
          back-from (slots y.var) v.0 (ap full.slots (sym at) ∙ v.1) (not-in_room i y a) ∙ sym v.1

      back-shared : (r : ResId) (i : ℕ) → Free p c.callee (Shared r i)
          → back.slots (slots (Shared r i)) ≡ full.slots (shared r i)
      back-shared r i free =
          let v = full-has (Shared r i) (inl free) in
          ap back.slots (global r i) ∙ back-from (shared r i) v.0 v.1 refl ∙ sym v.1

      back-has : (x : Var) → MayChange p c x → HasSlot back (slots x)
      back-has x (inl a) =
          let m = among-slice c.references x a in
          let v = full-has (OwnVar m.0) (reference-mine m.0 m.1 m.2) in
          (v.0, ap (λ z. back.slots (slots z)) (sym m.3) ∙ back-reference m.0 m.1 m.2 ∙ v.1)
      back-has x (inr free) =
          let m = lent-shared x free in
          let free2 = subst (Free p c.callee) m.2 free in
          let v = full-has (Shared m.0 m.1) (inl free2) in
          (v.0, ap (λ z. back.slots (slots z)) m.2 ∙ back-shared m.0 m.1 free2 ∙ v.1)

      back-only : (sl : Slot) (v : Value) → back.slots sl ≡ Some v
          → (x : Var) × (back_view.values x ≡ Some v) × (slots x ≡ sl)
      back-only sl v e =
          let m = cond-not (in_room room sl) (full.slots sl) v (sym (back-is sl) ∙ e) in
          let y = ended.owns.variables.only sl v m.1 in
          go y.0 (mine-now y.0 y.1) y.2 m.0
        where
          found : (x : Var) → MayChange p c x → slots x ≡ sl
              → (x : Var) × (back_view.values x ≡ Some v) × (slots x ≡ sl)
          found x h is = (x, view-now x h ∙ ap back.slots is ∙ e, is)

          go : (y : Var) → IsMine y → mine_slots y ≡ sl → in_room room sl ≡ false
              → (x : Var) × (back_view.values x ≡ Some v) × (slots x ≡ sl)
          go (Shared r i) a is n = found (Shared r i) (inr (mine-free r i a)) (global r i ∙ is)
          go (OwnVar i) l is n = own-one (own-of slots c.references room (λ x. nil) args i)
            where
              own-one : OwnOf slots c.references room (λ x. nil) args i
                  → (x : Var) × (back_view.values x ≡ Some v) × (slots x ≡ sl)
              own-one (reference z b f h) = found z.var (inl (slice-among c.references i z b)) (sym f ∙ is)
              own-one (mine j b f h) =
                  let inside : in_room room sl ≡ true =
                  ap (in_room room) (sym is ∙ f) ∙ room-own event first j (room_count g) (room-small i j b l) in
                  absurd (true≢false (sym inside ∙ n))

      -- it is seen
      pub back-seen : IsSeen slots back_view back
      back-seen = record {
        cells = refl;
        tokens = refl;
        each = λ x v e. (kept-lent (lent.values x) (back.slots (slots x)) v e).2;
        only = back-only;
        apart = λ x y v u i j e.
            let a = kept-lent (lent.values x) (back.slots (slots x)) v i in
            let b = kept-lent (lent.values y) (back.slots (slots y)) u j in
            seen.apart x y a.0 b.0 a.1 b.1 e;
      }

      view-of : (x : Var) → MayChange p c x → value_in back_view x ≡ unwrap_or (back.slots (slots x)) nil
      view-of x m = ap (λ z. unwrap_or z nil) (view-now x m)

      -- the callee's variables have at its end the values that its caller sees
      back-value : (x : Var) → VarOccursIn g.post.level x
          → unwrap_or (full.slots (mine_slots x)) nil ≡ callee_value (value_in back_view) c args x
      back-value (Shared r i) o =
          let free = post-shared p c.callee g there r i o in
          ap (λ z. unwrap_or z nil) (sym (back-shared r i free)) ∙ sym (view-of (Shared r i) (inr free))
      back-value (OwnVar i) o = go (own-of slots c.references room (value_in back_view) args i)
        where
          small : i < g.references + g.values
          small = post-own p formed c.callee g there i o

          parameter : (j : ℕ) → j < g.values → value_of begins full (OwnVar (g.references + j)) ≡ args j
          parameter j l =
              subst (λ (z : Procedure). value_of begins full (OwnVar (z.references + j)) ≡ args j) same-procedure
              (ended.owns.values j (subst (λ (z : Procedure). j < z.values) (sym same-procedure) l))

          go : OwnOf slots c.references room (value_in back_view) args i
              → unwrap_or (full.slots (own_slot slots c.references room i)) nil
              ≡ own_value (value_in back_view) c.references args i
          go (reference y a f h) =
              ap (λ z. unwrap_or z nil) (sym (back-reference i y a))
              ∙ sym (h ∙ view-of y.var (inl (slice-among c.references i y a)))
          go (mine j a f h) =
              let n = fits.references in
              let l = small in
              let m : j < g.values = omega (arith, a, l, n) in
              let at : i ≡ g.references + j = omega (arith, a, n) in
              ap (λ z. value_of begins full (OwnVar z)) at ∙ parameter j m ∙ sym h

      -- and is what comes back from the call
      pub comes-back : ComesBack p c g args back_view
      comes-back = record {
        variables = record {
          each = λ x m. let v = back-has x m in (v.0, view-now x m ∙ v.1);
          only = λ x h.
              let a = kept-lent (lent.values x) (back.slots (slots x)) h.0 h.1 in variables.only x (a.0, a.1);
        };
        outside = λ r. ap (λ (z : Own). z.tokens r) back-all ∙ ended.owns.tokens r
            ∙ ap (λ (z : Procedure). tokens_of p z r) same-procedure ∙ no-tokens r;
        post = subst (Sat g.post.level (value (callee_value (value_in back_view) c args)) (λ n. nil))
            (sym (ap (λ (z : Own). z.cells) back-all))
            (sat-same_variables g.post.level (λ x. unwrap_or (full.slots (mine_slots x)) nil)
            (callee_value (value_in back_view) c args) (λ n. nil) full.cells back-value
            (subst (λ (z : Procedure). Sat z.post.level (see begins full) (λ n. nil) full.cells) same-procedure
            (star-drop_right (subst (λ z. SatEach z (see begins full) full.cells)
            (owed_by-post p ended.procedure (ap is_init same-procedure ∙ fits.no_init)) ended.posts))));
      }
