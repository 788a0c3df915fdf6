-- The variables of a frame, by the slots that the code lists.
-- Names: `among-LAW` of lists of slots, `named-LAW` of the variables of a frame, `just-LAW` of
-- stores that have just these.
use Rattle.std.specs.Prelude.{◌≡◌, ◌↔◌, ◌⊎◌, ◌||◌, ◌+◌, ◌<◌, ℕ, zero, suc, Bool, true, false, List, [], ◌∷◌, ◌++◌, cond, get_or, length, take, Some, None, Option, Contains, is_some}
use Rattle.std.specs.List.{slice_get}
use Rattle.std.proofs.Common.{true≢false, sym, ap, ◌∙◌, refl, subst, inl, inr, arith}
use Rattle.std.proofs.lemmas.Bool.{cases_lt}
use Rattle.std.proofs.lemmas.List.{take_more}
use Rattle.std.proofs.lemmas.List.Elements.{Contains-append_cases, Contains-append_left, Contains-append_right}
use Rattle.std.proofs.lemmas.Option.{get_or_from_slice_get, same_Some, slice_get_cases, slice_get_within}
use Rattle.sf_base.proofs.Elements.{contains-nil, contains-single, contains-single_of}
use Rattle.sf_base.proofs.Options.{is_some-false}
use Rattle.sf_base.proofs.MapSplits.{map-same}
use Rattle.sf_base.proofs.StoreSplits.{slot-same, slot-self}
use Rattle.sf_base.specs.declared.ids.ProcId.{ProcId}
use Rattle.sf_base.specs.declared.ids.Var.{Var}
use Rattle.sf_base.specs.declared.ids.Var.TheVariants.{Own, Shared}
use Rattle.sf_base.specs.declared.value.Value.{Value}
use Rattle.sf_base.specs.HeapStore.{Apart, Slot, Store, same_slot}
use Rattle.sf_calls.specs.Changes.{free_in}
use Rattle.sf_calls.specs.Checked.Lemmas.InFile.{free_within}
use Rattle.sf_calls.specs.Conditions.{Free}
use Rattle.sf_calls.specs.Sets.{AreSetsOf, Sets}
use Rattle.sf_core.specs.Machine.Config.{Frame}
use Rattle.sf_core.specs.Program.Formed.{IsFormed}
use Rattle.sf_core.specs.Program.Init.{sets_up}
use Rattle.sf_core.specs.Program.Syntax.{Procedure, Program}
use Rattle.sf_frame.specs.declared.spot.Spot.{Spot}
use Rattle.sf_frame.specs.Spots.{slot_of}
use Rattle.sf_frame.specs.Stores.{is_among}
use Rattle.sf_part.specs.Checked.Children.{HasJust, HasVariablesOf, IsFirstOf, IsOwnSlot, IsSlotOf, NoneInBoth}
use Rattle.sf_part.specs.Lent.{IsNamed}
use Rattle.sf_part.specs.Of.{IsVariable}
use Rattle.sf_part.proofs.Giving.{given-same}
use Rattle.sf_part.proofs.Lending.{test-same}

-- one of two tests is true
or-cases : (a b : Bool) → a || b ≡ true → (a ≡ true) ⊎ (b ≡ true)
or-cases true b h = inl refl
or-cases false b h = inr h

or-first : (a b : Bool) → a ≡ true → a || b ≡ true
or-first true b h = refl
or-first false b h = absurd (true≢false (sym h))

or-second : (a b : Bool) → b ≡ true → a || b ≡ true
or-second true b h = refl
or-second false b h = h

-- a slot among those with one more behind them
pub among-snoc : (xs : List Spot) (x : Spot) (slot : Slot) → (is_among (xs ++ x ∷ []) slot ≡ true)
    ↔ (is_among xs slot ≡ true) ⊎ (slot ≡ slot_of x)
among-snoc [] x slot = (
  λ h. elim (or-cases (same_slot slot (slot_of x)) false h) [
    | inl t ↦ inr (slot-same (slot_of x) slot t)
    | inr n ↦ inl n
  ],
  λ h. elim h [
    | inl n ↦ or-second (same_slot slot (slot_of x)) false n
    | inr e ↦ or-first (same_slot slot (slot_of x)) false
        (subst (λ z. same_slot z (slot_of x) ≡ true) (sym e) (slot-self (slot_of x)))
  ],
)
among-snoc (y ∷ xs) x slot =
    let more = among-snoc xs x slot in
    let here = same_slot slot (slot_of y) in (
      λ h. elim (or-cases here (is_among (xs ++ x ∷ []) slot) h) [
        | inl t ↦ inl (or-first here (is_among xs slot) t)
        | inr k ↦ elim (more.0 k) [
          | inl m ↦ inl (or-second here (is_among xs slot) m)
          | inr e ↦ inr e
        ]
      ],
      λ h. elim h [
        | inl k ↦ elim (or-cases here (is_among xs slot) k) [
          | inl t ↦ or-first here (is_among (xs ++ x ∷ []) slot) t
          | inr m ↦ or-second here (is_among (xs ++ x ∷ []) slot) (more.1 (inl m))
        ]
        | inr e ↦ or-second here (is_among (xs ++ x ∷ []) slot) (more.1 (inr e))
      ],
    )

-- one own variable more
pub among-own : (f : Frame) (i : ℕ) (xs : List Spot) (x : Spot)
    → slot_of x ≡ f.fixed.slots (Own i)
    → ((slot : Slot) → (is_among xs slot ≡ true) ↔ IsOwnSlot f i slot) → (slot : Slot)
    → (is_among (xs ++ x ∷ []) slot ≡ true) ↔ IsOwnSlot f (i + 1) slot
among-own f i xs x is before slot =
    let both = among-snoc xs x slot in (
      λ h. elim (both.0 h) [
        | inl m ↦
            let (n, l, e) = (before slot).0 m in (n, omega arith, e)
        | inr e ↦ (i, omega arith, e ∙ is)
      ],
      λ (n, l, e). both.1 (elim (cases_lt n i) [
        | inl less ↦ inl ((before slot).1 (n, less, e))
        | inr most ↦
            let same : n ≡ i = omega arith in
            inr (e ∙ ap (λ m. f.fixed.slots (Own m)) same ∙ sym is)
      ]),
    )

-- one variable more of a list
pub among-listed : (f : Frame) (ys : List Var) (y : Var) (first xs : List Spot) (x : Spot)
    → slot_of x ≡ f.fixed.slots y
    → ((slot : Slot) → (is_among xs slot ≡ true)
    ↔ (is_among first slot ≡ true) ⊎ IsSlotOf f ys slot)
    → (slot : Slot) → (is_among (xs ++ x ∷ []) slot ≡ true)
    ↔ (is_among first slot ≡ true) ⊎ IsSlotOf f (ys ++ y ∷ []) slot
among-listed f ys y first xs x is before slot =
    let both = among-snoc xs x slot in (
      λ h. elim (both.0 h) [
        | inl m ↦ elim ((before slot).0 m) [
          | inl k ↦ inl k
          | inr (z, c, e) ↦ inr (z, Contains-append_left ys (y ∷ []) z c, e)
        ]
        | inr e ↦ inr (
          y,
          Contains-append_right ys (y ∷ []) y (contains-single_of y y refl),
          e ∙ is,
        )
      ],
      λ h. both.1 (elim h [
        | inl k ↦ inl ((before slot).1 (inl k))
        | inr (z, c, e) ↦ elim (Contains-append_cases ys (y ∷ []) z c) [
          | inl d ↦ inl ((before slot).1 (inr (z, d, e)))
          | inr d ↦ inr (e ∙ ap f.fixed.slots (sym (contains-single y z d)) ∙ sym is)
        ]
      ]),
    )

-- one more of a list, in the turn of a loop
pub among-turn : (f : Frame) (ys : List Var) (i : ℕ) (d : Var) → i < length ys
    → (first xs : List Spot) (x : Spot) → slot_of x ≡ f.fixed.slots (get_or ys i d)
    → ((slot : Slot) → (is_among xs slot ≡ true)
    ↔ (is_among first slot ≡ true) ⊎ IsSlotOf f (take i ys) slot)
    → (slot : Slot) → (is_among (xs ++ x ∷ []) slot ≡ true)
    ↔ (is_among first slot ≡ true) ⊎ IsSlotOf f (take (i + 1) ys) slot
among-turn f ys i d l first xs x is before slot =
    subst (λ z. (is_among (xs ++ x ∷ []) slot ≡ true)
    ↔ (is_among first slot ≡ true) ⊎ IsSlotOf f z slot) (sym (take_more ys i d l))
    (among-listed f (take i ys) (get_or ys i d) first xs x is before slot)

-- the slot of an element is among them
among-at : (xs : List Spot) (i : ℕ) (d : Spot) → i < length xs
    → is_among xs (slot_of (get_or xs i d)) ≡ true
among-at [] i d l = absurd (omega arith)
among-at (x ∷ xs) zero d l =
    or-first (same_slot (slot_of x) (slot_of x)) (is_among xs (slot_of x)) (slot-self (slot_of x))
among-at (x ∷ xs) (suc i) d l =
    or-second (same_slot (slot_of (get_or xs i d)) (slot_of x))
    (is_among xs (slot_of (get_or xs i d))) (among-at xs i d (omega arith))

-- one of them is there
pub among-some : (store : Store) (xs : List Spot) (i : ℕ) (d : Spot) → i < length xs
    → (o : Option Value) → o ≡ store (slot_of (get_or xs i d)) → is_some o ≡ true
    → (slot : Slot) × (is_among xs slot ≡ true) × (is_some (store slot) ≡ true)
among-some store xs i d l o e is =
    (slot_of (get_or xs i d), among-at xs i d l, sym (ap is_some e) ∙ is)

-- none of the first ones is there, nor is the next
pub among-none : (store : Store) (xs : List Spot) (i : ℕ) (d : Spot) → i < length xs
    → (o : Option Value) → o ≡ store (slot_of (get_or xs i d)) → is_some o ≡ false
    → ((slot : Slot) → is_among (take i xs) slot ≡ true → is_some (store slot) ≡ false)
    → (slot : Slot) → is_among (take (i + 1) xs) slot ≡ true → is_some (store slot) ≡ false
among-none store xs i d l o e is before slot h =
    elim ((among-snoc (take i xs) (get_or xs i d) slot).0
    (subst (λ z. is_among z slot ≡ true) (take_more xs i d l) h)) [
      | inl m ↦ before slot m
      | inr same ↦ ap (λ z. is_some (store z)) same ∙ sym (ap is_some e) ∙ is
    ]

-- what is free in a procedure stands in the list
pub named-free : (p : Program) (sets : Sets) (callee : ProcId) (g : Procedure) → AreSetsOf p sets
    → slice_get p.procedures callee.0 ≡ Some g
    → (x : Var) → Contains (free_in sets callee) x ↔ Free p callee x
named-free p sets callee g are there x = elim (slice_get_cases sets.free callee.0).1 [
  | inl k ↦ subst (λ z. Contains z x ↔ Free p callee x)
      (sym (get_or_from_slice_get sets.free callee.0 k.0 [] k.2))
      ((are.free.is callee k.0 k.2).members x)
  | inr k ↦
      let within = slice_get_within p.procedures callee.0 g there in
      let each = are.free.each in
      absurd (omega (arith, k.0))
]

module _ (p : Program) (formed : IsFormed p) (callee : ProcId) (f : Frame) (g : Procedure)
    (first : IsFirstOf p callee f g) where
  -- the variables of a first frame are its own ones and those that are free in its procedure
  pub named-first : (free : List Var) → ((x : Var) → Contains free x ↔ Free p callee x)
      → (slot : Slot)
      → (IsOwnSlot f (length g.names) slot ⊎ IsSlotOf f free slot) ↔ IsNamed p f g slot
  named-first free are slot = (
    λ h. elim h [
      | inl (n, l, e) ↦ (Own n, l, e)
      | inr (x, c, e) ↦ to x ((are x).0 c) e
    ],
    λ (x, v, e). from x v e,
  )
    where
      to : (x : Var) → Free p callee x → slot ≡ f.fixed.slots x → IsNamed p f g slot
      to (Own n) h e = absurd h.0
      to (Shared r i) h e = (
        Shared r i,
        (
          free_within p callee r i formed h,
          inl (subst (λ z. Free p z (Shared r i)) (sym first.callee_is) h),
        ),
        e,
      )

      from : (x : Var) → IsVariable p f g x → slot ≡ f.fixed.slots x
          → IsOwnSlot f (length g.names) slot ⊎ IsSlotOf f free slot
      from (Own n) v e = inl (n, v, e)
      from (Shared r i) v e = elim v.1 [
        | inl h ↦ inr (
          Shared r i,
          (are (Shared r i)).1 (subst (λ z. Free p z (Shared r i)) first.callee_is h),
          e,
        )
        | inr k ↦ elim k [
          | inl m ↦ absurd (contains-nil r (subst (λ z. Contains z r) first.outside m))
          | inr m ↦ absurd (true≢false (sym m ∙ ap (sets_up p) first.callee_is ∙ first.no_init))
        ]
      ]

-- so it is of the procedure that is there
pub first-as : (p : Program) (callee : ProcId) (f : Frame) (g h : Procedure)
    → IsFirstOf p callee f g → slice_get p.procedures callee.0 ≡ Some h → IsFirstOf p callee f h
first-as p callee f g h first there = record {
  there = there;
  callee_is = first.callee_is;
  names = first.names;
  outside = first.outside;
  no_init = first.no_init;
}

-- and of its variables
pub there-as : (p : Program) (callee : ProcId) (f : Frame) (g h : Procedure) (store : Store)
    → IsFirstOf p callee f g → slice_get p.procedures callee.0 ≡ Some h
    → HasVariablesOf p f g store → HasVariablesOf p f h store
there-as p callee f g h store first there =
    subst (λ z. HasVariablesOf p f z store) (same_Some g h (sym first.there ∙ there))

-- as the code lists them
pub named-listed : (p : Program) (formed : IsFormed p) (callee : ProcId) (f : Frame)
    (g : Procedure) → IsFirstOf p callee f g → (sets : Sets) → AreSetsOf p sets → (count : ℕ)
    → count ≡ length g.names → (free : List Var) → free ≡ free_in sets callee
    → (own spots : List Spot)
    → ((slot : Slot) → (is_among own slot ≡ true) ↔ IsOwnSlot f count slot)
    → ((slot : Slot) → (is_among spots slot ≡ true)
    ↔ (is_among own slot ≡ true) ⊎ IsSlotOf f free slot)
    → (slot : Slot) → (is_among spots slot ≡ true) ↔ IsNamed p f g slot
named-listed p formed callee f g first sets are count many free listed own spots h k slot =
    let all = named-first p formed callee f g first (free_in sets callee)
    (named-free p sets callee g are first.there) slot in (
      λ m. all.0 (elim ((k slot).0 m) [
        | inl o ↦ inl (subst (λ n. IsOwnSlot f n slot) many ((h slot).0 o))
        | inr o ↦ inr (subst (λ z. IsSlotOf f z slot) listed o)
      ]),
      λ n. (k slot).1 (elim (all.1 n) [
        | inl o ↦ inl ((h slot).1 (subst (λ n. IsOwnSlot f n slot) (sym many) o))
        | inr o ↦ inr (subst (λ z. IsSlotOf f z slot) (sym listed) o)
      ]),
    )

-- there is one store with just the variables of a frame
pub just-one : (p : Program) (f : Frame) (g : Procedure) (whole one other : Store)
    → HasJust p f g whole one → HasJust p f g whole other → one ≡ other
just-one p f g whole one other h k = map-same one other (λ slot.
    given-same (one slot) (other slot) (whole slot)
    (test-same (is_some (one slot)) (is_some (other slot)) _ (h.variables slot) (k.variables slot))
    (h.values slot) (k.values slot))

-- two that are there aren't apart
pub just-both : (o q : Option Value) → is_some o ≡ true → is_some q ≡ true → Apart o q → ⊥
just-both None q h k a = true≢false (sym h)
just-both (Some v) None h k a = true≢false (sym k)
just-both (Some v) (Some w) h k a = a

-- a copy of just those slots
module _ (p : Program) (f : Frame) (g : Procedure) (whole part : Store) (spots : List Spot)
    (named : (slot : Slot) → (is_among spots slot ≡ true) ↔ IsNamed p f g slot)
    (copy : (slot : Slot) → part slot ≡ cond (is_among spots slot) (whole slot) None) where
  pub just-copy : HasVariablesOf p f g whole → HasJust p f g whole part
  just-copy there = record {
    variables = λ slot. (
      λ h. (named slot).0 (only (is_among spots slot) (whole slot)
          (sym (ap is_some (copy slot)) ∙ h)),
      λ n. back slot n,
    );
    values = λ slot v e. value (is_among spots slot) (whole slot) v (sym (copy slot) ∙ e);
  }
    where
      only : (b : Bool) (o : Option Value) → is_some (cond b o None) ≡ true → b ≡ true
      only true o h = refl
      only false o h = absurd (true≢false (sym h))

      value : (b : Bool) (o : Option Value) (v : Value) → cond b o None ≡ Some v → o ≡ Some v
      value true o v h = h
      value false o v h = absurd (let k : None ≡ Some v = h in cc)

      back : (slot : Slot) → IsNamed p f g slot → is_some (part slot) ≡ true
      back slot n =
          let (x, v, e) = n in
          ap is_some (copy slot)
          ∙ ap (λ b. is_some (cond b (whole slot) None)) ((named slot).1 n)
          ∙ ap (λ z. is_some (whole z)) e ∙ there x v

  pub just-beside : (taken : Store)
      → ((slot : Slot) → is_among spots slot ≡ true → is_some (taken slot) ≡ false)
      → NoneInBoth taken part
  just-beside taken lacks slot =
      subst (Apart (taken slot)) (sym (copy slot)) (go (is_among spots slot) (lacks slot))
    where
      apart-none : (o : Option Value) → Apart o None
      apart-none None = tt
      apart-none (Some v) = tt

      go : (b : Bool) → (b ≡ true → is_some (taken slot) ≡ false)
          → Apart (taken slot) (cond b (whole slot) None)
      go false h = apart-none (taken slot)
      go true h = subst (λ z. Apart z (whole slot)) (sym (is_some-false (taken slot) (h refl))) tt

-- a slot that is taken is in no store with just the variables beside
pub just-taken : (p : Program) (f : Frame) (g : Procedure) (whole part taken : Store)
    (spots : List Spot) → ((slot : Slot) → (is_among spots slot ≡ true) ↔ IsNamed p f g slot)
    → (slot : Slot) → is_among spots slot ≡ true → is_some (taken slot) ≡ true
    → HasJust p f g whole part → NoneInBoth taken part → ⊥
just-taken p f g whole part taken spots named slot among is just apart =
    just-both (taken slot) (part slot) is
    ((just.variables slot).1 ((named slot).0 among)) (apart slot)
