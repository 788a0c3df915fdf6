-- What a frame that has set the resources up owns at its end is the share of each of them, but for the slots of its room.
-- Names: `freed-WHAT`.
use Rattle.std.specs.Prelude.{◌≡◌, ℕ, suc, Bool, true, false, cond, List, [], ◌∷◌, Option, Some, None, ◌<◌, ◌≤◌, ◌+◌, ◌-◌, ◌==◌, ◌&&◌, leb, length, ltb, map}
use Rattle.std.specs.List.{slice_get}
use Rattle.std.specs.Option.{unwrap_or}
use Rattle.std.proofs.Common.{true≢false, sym, ap, ◌∙◌, refl, subst, inl, inr, arith}
use Rattle.std.proofs.lemmas.Bool.Decides.{nat_tests}
use Rattle.sf_base.specs.declared.ids.ResId.{ResId}
use Rattle.sf_base.specs.declared.ids.Var.{Var}
use Rattle.sf_base.specs.declared.ids.Var.TheVariants.{Own as OwnVar, Shared}
use Rattle.sf_base.specs.declared.value.Value.{Value}
use Rattle.sf_base.specs.declared.value.Value.TheVariants.{Nil as nil}
use Rattle.sf_base.specs.HeapStore.{Heap, Slot, Store, own, shared}
use Rattle.sf_base.proofs.MapSplits.{map-same, splits-lacks_both}
use Rattle.sf_base.proofs.HeapSplits.{at-self}
use Rattle.sf_base.proofs.Options.{some-none}
use Rattle.sf_calls.specs.Checked.Lemmas.InFile.{free_within}
use Rattle.sf_calls.specs.Checked.Lemmas.Within.{level_within}
use Rattle.sf_core.specs.Checked.GoodParts.{SatEach}
use Rattle.sf_core.specs.Machine.Config.{Path, evaluate, in_room}
use Rattle.sf_core.specs.Machine.Start.{Invariants, entry_slot}
use Rattle.sf_core.specs.Program.Formed.{IsFormed, IsOfResource, variable_count}
use Rattle.sf_core.specs.Program.Init.{IsBare, is_init}
use Rattle.sf_core.specs.Program.Syntax.{Procedure, Program, Resource}
use Rattle.sf_core.proofs.Assertions.Sat.{sat-same_variables}
use Rattle.sf_core.proofs.Inits.{owed_by-invariants}
use Rattle.sf_safe.specs.Checked.Own.{Own, Parts, nothing, without_room}
use Rattle.sf_safe.specs.Checked.Contract.{Ended, IsVariableOf, Known, see}
use Rattle.sf_safe.specs.Checked.Invariant.{Resources, ShareOf}
use Rattle.sf_safe.specs.Checked.LawsOfShares.{InitLeavesShares}
use Rattle.sf_safe.specs.Checked.Owns.{own-same, parts-of_nothing}
use Rattle.sf_safe.proofs.Settled.{HasVariable, from, rest_share, settled-resources}

-- shares without a token are none
pub resources-nothing : (p : Program) (held : ResId → Option Path) (m : ℕ) (rs : List Resource) (w : Own)
    → ((q : ResId) → w.tokens q ≡ None) → Resources p held m rs w → w ≡ nothing
resources-nothing p held m [] w none s = s
resources-nothing p held m (q ∷ rs) w none s =
    let right = resources-nothing p held (suc m) rs s.right (λ q. (splits-lacks_both q s.parts.tokens (none q)).1)
    s.second in
    parts-of_nothing (subst (λ z. Parts w s.left z) right s.parts) ∙ go (held (record { 0 = m })) s.first
  where
    go : (o : Option Path) → ShareOf p o (record { 0 = m }) s.left → s.left ≡ nothing
    go (Some path) f = f
    go None f =
        let one : s.left.tokens (record { 0 = m }) ≡ Some tt =
        ap (λ z. z (record { 0 = m })) f.tokens
        ∙ ap (λ b. cond {A = Option (Unit {0})} b (Some tt) None) (at-self m) in
        absurd (some-none tt (sym one ∙ (splits-lacks_both (record { 0 = m }) s.parts.tokens (none (record { 0 = m }))).0))

-- invariants that hold of the values of a frame's variables hold of those in the slots of resources
each-invariants : (p : Program) → IsFormed p → (store : Store) (slots : Var → Slot)
    → ((r : ResId) (i : ℕ) → slots (Shared r i) ≡ shared r i) → (m : ℕ) (rs : List Resource)
    → ((i : ℕ) (q : Resource) → slice_get rs i ≡ Some q → slice_get p.resources (m + i) ≡ Some q) → (h : Heap)
    → SatEach (map (λ (r : Resource). r.invariant.level) rs) (evaluate slots store) h → Invariants rs store h
each-invariants p formed store slots global m [] at h s = s
each-invariants p formed store slots global m (q ∷ rs) at h s = record {
  left = s.left;
  right = s.right;
  splits = s.splits;
  first = sat-same_variables q.invariant.level (λ x. unwrap_or (store (slots x)) nil)
      (λ x. unwrap_or (store (entry_slot x)) nil) (λ n. nil) s.left
      (λ x o. same x (level_within p.fields (IsOfResource (m + 0) (length q.variables)) [] x q.invariant.level
      (formed.resources (m + 0) q (at 0 q refl)).annotation.within o)) s.first;
  second = each-invariants p formed store slots global (suc m) rs
      (λ i o e. subst (λ z. slice_get p.resources z ≡ Some o) (plus-suc m i) (at (suc i) o e)) s.right s.second;
}
  where
    plus-suc : (n i : ℕ) → n + suc i ≡ suc n + i
    plus-suc n i = omega arith

    same : (x : Var) → IsOfResource (m + 0) (length q.variables) x
        → unwrap_or (store (slots x)) nil ≡ unwrap_or (store (entry_slot x)) nil
    same (OwnVar i) v = absurd v
    same (Shared r i) v = ap (λ z. unwrap_or (store z) nil) (global r i)

-- a variable that is counted is there
variable-is : (p : Program) (r : ResId) (i : ℕ) → i < variable_count (slice_get p.resources r.0) → HasVariable p r i
variable-is p r i l = go (slice_get p.resources r.0) refl l
  where
    go : (o : Option Resource) → slice_get p.resources r.0 ≡ o → i < variable_count o → HasVariable p r i
    go None e l = let z : i < 0 = l in absurd (omega (arith, z))
    go (Some q) e l = (q, e, l)

module _ (p : Program) (formed : IsFormed p) (k : Known) (w : Own) (e : Ended p k w)
    (init : is_init e.procedure ≡ true) where
  abbrev g : Procedure
  g = e.procedure

  bare : IsBare g
  bare = (formed.procedures k.fixed.procedure.0 g e.owns.frame.there).init init

  -- an own variable is in the room
  own-is : (j : ℕ) → j < length g.names → k.fixed.slots (OwnVar j) ≡ own k.fixed.room.event (k.fixed.room.first + j)
  own-is j l =
      let none : g.references ≡ 0 = bare.references in
      let low : g.references ≤ j = omega (arith, none) in
      let same : j - g.references ≡ j = omega (arith, none) in
      e.owns.frame.own_slots j low l ∙ ap (λ z. own k.fixed.room.event (k.fixed.room.first + z)) same

  room-has : (d first j count names refs : ℕ) → refs ≡ 0 → count ≡ names - refs → j < names
      → (d == d) && (leb first (first + j) && ltb (first + j) (first + count)) ≡ true
  room-has d first j count names refs none c l =
      let small : j < count = omega (arith, none, c, l) in
      grind (arith, nat_tests, small)

  own-in : (j : ℕ) → j < length g.names → in_room k.fixed.room (k.fixed.slots (OwnVar j)) ≡ true
  own-in j l = ap (in_room k.fixed.room) (own-is j l)
      ∙ room-has k.fixed.room.event k.fixed.room.first j k.fixed.room.count (length g.names) g.references
      bare.references e.owns.frame.count l

  freed-kept : (r : ResId) (i : ℕ) → HasVariable p r i → (v : Value) × (w.slots (shared r i) ≡ Some v)
  freed-kept r i (q, at, l) =
      let count : i < variable_count (slice_get p.resources r.0) = subst (λ z. i < variable_count z) (sym at) l in
      let v = e.owns.variables.each (Shared r i) (inr (init, count)) in
      (v.0, ap w.slots (sym (e.owns.frame.shared_slots r i)) ∙ v.1)

  freed-no_more : (r : ResId) (i : ℕ) (v : Value) → w.slots (shared r i) ≡ Some v → HasVariable p r i
  freed-no_more r i v h = let m = e.owns.variables.only (shared r i) v h in go m.0 m.1 m.2
    where
      within : (q : ResId) (j : ℕ) → IsVariableOf p k.fixed.procedure g (Shared q j)
          → j < variable_count (slice_get p.resources q.0)
      within q j (inl free) = free_within p k.fixed.procedure q j formed free
      within q j (inr a) = a.1

      go : (x : Var) → IsVariableOf p k.fixed.procedure g x → k.fixed.slots x ≡ shared r i → HasVariable p r i
      go (OwnVar j) l same =
          let z : own k.fixed.room.event (k.fixed.room.first + j) ≡ shared r i = sym (own-is j l) ∙ same in absurd (cc)
      go (Shared q j) a same =
          let z : shared q j ≡ shared r i = sym (e.owns.frame.shared_slots q j) ∙ same in
          let one : Shared q j ≡ Shared r i = cc in
          variable-is p r i (subst (λ x. Counted x) one (within q j a))
        where
          Counted : Var → Type 0
          Counted (OwnVar n) = ⊥
          Counted (Shared o n) = n < variable_count (slice_get p.resources o.0)

  -- no slot of another kind is left
  freed-own : (n i : ℕ) → cond (in_room k.fixed.room (own n i)) None (w.slots (own n i)) ≡ None
  freed-own n i = go (in_room k.fixed.room (own n i)) refl (w.slots (own n i)) refl
    where
      go : (b : Bool) → in_room k.fixed.room (own n i) ≡ b → (o : Option Value) → w.slots (own n i) ≡ o
          → cond b None o ≡ None
      go true j o h = refl
      go false j None h = refl
      go false j (Some v) h = let m = e.owns.variables.only (own n i) v h in other m.0 m.1 m.2
        where
          other : (x : Var) → IsVariableOf p k.fixed.procedure g x → k.fixed.slots x ≡ own n i → Some v ≡ None
          other (OwnVar y) l same =
              absurd (true≢false (sym (own-in y l) ∙ ap (in_room k.fixed.room) same ∙ j))
          other (Shared q y) a same =
              let z : shared q y ≡ own n i = sym (e.owns.frame.shared_slots q y) ∙ same in absurd (cc)

  from-zero : (r : ℕ) → leb 0 r ≡ true
  from-zero r = grind (arith, nat_tests)

  freed-slots : (y : Slot) → (without_room k.fixed.room w).slots y ≡ cond (from p formed w.slots freed-kept freed-no_more 0 y) (w.slots y) None
  freed-slots (own n i) = freed-own n i
  freed-slots (shared r i) = sym (ap (λ b. cond b (w.slots (shared r i)) None) (from-zero r.0))

  freed-is : without_room k.fixed.room w ≡ rest_share p formed w.slots freed-kept freed-no_more 0 w.cells
  freed-is = own-same (without_room k.fixed.room w) (rest_share p formed w.slots freed-kept freed-no_more 0 w.cells) refl
      (map-same (without_room k.fixed.room w).slots
      (rest_share p formed w.slots freed-kept freed-no_more 0 w.cells).slots freed-slots)
      (map-same w.tokens (rest_share p formed w.slots freed-kept freed-no_more 0 w.cells).tokens
      (λ r. e.owns.tokens r ∙ ap (λ b. cond {A = Option (Unit {0})} (b && ltb r.0 (length p.resources)) (Some tt) None)
      (init ∙ sym (from-zero r.0))))

  zero-plus : (n : ℕ) → n ≡ 0 + n
  zero-plus n = omega arith

  freed-invariants : Invariants p.resources w.slots w.cells
  freed-invariants = each-invariants p formed w.slots k.fixed.slots e.owns.frame.shared_slots 0 p.resources
      (λ i q h. subst (λ z. slice_get p.resources z ≡ Some q) (zero-plus i) h) w.cells
      (subst (λ z. SatEach z (see k w) w.cells) (owed_by-invariants p g init) e.posts)

  -- the shares of all of them
  pub freed-resources : Resources p (λ r. None) 0 p.resources (without_room k.fixed.room w)
  freed-resources = subst (Resources p (λ r. None) 0 p.resources) (sym freed-is)
      (settled-resources p formed w.slots freed-kept freed-no_more 0 p.resources w.cells (zero-plus (length p.resources))
      (λ i q h. subst (λ z. slice_get p.resources z ≡ Some q) (zero-plus i) h) freed-invariants)

pub init_leaves_shares : InitLeavesShares
unfolding InitLeavesShares
init_leaves_shares = freed-resources
