-- A task that has left the region of a resource, and gave its content up.
-- Names: `exit-LAW`.
use Rattle.std.specs.Prelude.{◌≡◌, ◌≢◌, ◌==◌, ◌<◌, ◌≤◌, ℕ, Bool, true, false, cond, ltb, IsTrue, ◌↔◌, List, [], ◌∷◌, drop, length, Option, Some, None, is_some}
use Rattle.std.specs.FinMap.{get}
use Rattle.std.specs.List.{slice_get}
use Rattle.std.proofs.Common.{true≢false, sym, ap, ◌∙◌, refl, subst, inl, inr, arith}
use Rattle.std.proofs.lemmas.Bool.Decides.{nat_tests}
use Rattle.std.proofs.lemmas.Option.{slice_get_cases}
use Rattle.sf_base.proofs.Bools.{and-left, and-right}
use Rattle.sf_base.proofs.Elements.{contains-cons, contains-rest}
use Rattle.sf_base.proofs.HeapSplits.{at-self}
use Rattle.sf_base.proofs.MapSplits.{map-same, splits-at_left, splits-comm, splits-has_left, splits-has_right}
use Rattle.sf_base.proofs.Options.{is_some-false, is_some-map}
use Rattle.sf_base.proofs.StoreSplits.{resource-same}
use Rattle.sf_base.specs.declared.ids.ResId.{ResId}
use Rattle.sf_base.specs.declared.ids.Var.{Var}
use Rattle.sf_base.specs.declared.ids.Var.TheVariants.{Own, Shared}
use Rattle.sf_base.specs.declared.value.Value.{Value}
use Rattle.sf_base.specs.declared.value.Value.TheVariants.{Nil as nil}
use Rattle.sf_base.specs.HeapStore.{Heap, Slot, Store, own, shared}
use Rattle.sf_calls.specs.Conditions.{Enters}
use Rattle.sf_calls.specs.FirstBreach.{Conditions}
use Rattle.sf_core.specs.Assertions.Sat.{Sat, value}
use Rattle.sf_core.specs.Checked.Machine.InOrder.{regions}
use Rattle.sf_core.specs.Machine.Config.{Item, command, leave, Fixed, Frame, runs, Path, Common, evaluate}
use Rattle.sf_core.specs.Machine.Next.{leaves, next}
use Rattle.sf_core.specs.Machine.Start.{entry_slot}
use Rattle.sf_core.specs.Machine.Step.{set_holder}
use Rattle.sf_core.specs.Machine.Supplies.{has, NextTakes}
use Rattle.sf_core.specs.Machine.Whole.{Part, running, numbers}
use Rattle.sf_core.specs.Program.Formed.{IsFormed, variable_count}
use Rattle.sf_core.specs.Program.Syntax.{Program, Resource}
use Rattle.sf_core.proofs.HeadsWithin.{regions-within, sites-within}
use Rattle.sf_foot.specs.Starting.{HasWidth}
use Rattle.sf_frame.specs.Checked.Frames.{moved}
use Rattle.sf_frame.specs.Checked.Nexts.{frames_with}
use Rattle.sf_frame.specs.Commons.{common_of}
use Rattle.sf_frame.specs.declared.frame.Way.TheVariants.{Past}
use Rattle.sf_frame.specs.declared.stack.Change.TheVariants.{GoOn}
use Rattle.sf_heap.specs.Cells.{cell_of}
use Rattle.sf_part.specs.Checked.Giving.{IsGivenUp}
use Rattle.sf_part.specs.Checked.Lemmas.Shapes.{leave-shape}
use Rattle.sf_part.specs.Checked.Sharing.{HasNoShare, IsOwnOf, IsShare, seen_in}
use Rattle.sf_part.specs.Checked.Stepping.{own_event}
use Rattle.sf_part.specs.Contents.{IsContentIn, content_of}
use Rattle.sf_part.specs.declared.content.Content.{Content as CodeContent}
use Rattle.sf_part.specs.declared.part.Part.{Part as CodePart}
use Rattle.sf_part.specs.declared.share.Share.{Share}
use Rattle.sf_part.specs.Given.{Gives, is_variable_of}
use Rattle.sf_part.specs.Leaving.{HasNoContent, IsAtExit}
use Rattle.sf_part.specs.Of.{AreInOrder, FramesAreOf, IsVariable, StandIsOf, frames_in, inside}
use Rattle.sf_part.specs.PartView.{IsPartOf, part_of}
use Rattle.sf_part.specs.Stands.{stand_in}
use Rattle.sf_part.specs.Steps.{Exits, HasInHand, common_of as part_common}
use Rattle.sf_part.proofs.Giving.{given-same}
use Rattle.sf_part.proofs.Held.{times-regions}
use Rattle.sf_part.proofs.Made.{in-hand, part-common, same-held, takes-first}
use Rattle.sf_part.proofs.Orders.{order-leave}
use Rattle.sf_part.proofs.Spared.{GoneOf, Stays, spare-frames, spare-left}
use Rattle.sf_part.proofs.Supplies.{one_if}

-- the frames of a task at an exit
pub record AtExit (a : CodePart) (r : ResId) : Type 0 where
  pub fixed : Fixed
  pub rest : List Item
  pub below : List Frame
  pub stand : stand_in a.stand ≡ running (frames_with fixed (leave r ∷ rest) below)

pub exit-at : (a : CodePart) (r : ResId) → IsAtExit (part_of a).part r → AtExit a r
exit-at a r (frames, stand, (f, below, rest, is)) = record {
  fixed = f;
  rest = rest;
  below = below;
  stand = stand ∙ ap running (leave-shape frames f below r rest is);
}

-- there is one exit
pub exit-one : (a : CodePart) (r q : ResId) → IsAtExit (part_of a).part r
    → IsAtExit (part_of a).part q → r ≡ q
exit-one a r q h k =
    let one = exit-at a r h in
    let two = exit-at a q k in
    let same : running (frames_with one.fixed (leave r ∷ one.rest) one.below)
    ≡ running (frames_with two.fixed (leave q ∷ two.rest) two.below) = sym one.stand ∙ two.stand in
    let frames : frames_with one.fixed (leave r ∷ one.rest) one.below
    ≡ frames_with two.fixed (leave q ∷ two.rest) two.below = cc in
    let todo : leave r ∷ one.rest ≡ leave q ∷ two.rest =
    ap (λ (z : List Frame). first_todo z) frames in
    cc
  where
    first_todo : List Frame → List Item
    first_todo [] = []
    first_todo (f ∷ fs) = f.todo

-- two options of which the same is told
pub same-there : {X Y : Type 0} (o : Option X) (q : Option Y) (P : Type 0) → (o ≢ None) ↔ P
    → IsTrue (is_some q) ↔ P → is_some o ≡ is_some q
same-there None None P h k = refl
same-there None (Some y) P h k = absurd (h.1 (k.0 refl) refl)
same-there (Some x) None P h k = sym (k.1 (h.0 (λ e. cc)))
same-there (Some x) (Some y) P h k = refl

module _ (p : Program) (formed : IsFormed p) (a : CodePart) (of : IsPartOf p a) (r : ResId)
    (s : AtExit a r) where
  abbrev frames : List Frame
  frames = frames_with s.fixed (leave r ∷ s.rest) s.below

  abbrev kept : List Frame
  kept = frames_with s.fixed s.rest s.below

  frames_are : FramesAreOf p (common_of a.shared).store frames
  frames_are = subst (StandIsOf p (common_of a.shared).store) s.stand of.is.stands

  order_is : AreInOrder p frames
  order_is = subst (λ z. AreInOrder p (frames_in z)) s.stand of.is.order

  -- the body of its procedure has that region
  pub exit-entered : Enters p r s.fixed.procedure
  exit-entered = (order_is.0).regions r ((contains-cons r (inside s.rest) r).1 (inl refl))

  pub exit-known : r.0 < length p.resources
  exit-known =
      let (h, there, (site, m, k)) = exit-entered in
      regions-within p h site.command
      (sites-within p h [] h.body (formed.procedures (s.fixed.procedure).0 h there).body site m) r k

  pub exit-there : (resource : Resource) × (slice_get p.resources r.0 ≡ Some resource)
  exit-there = elim (slice_get_cases p.resources r.0).1 [
    | inl h ↦ (h.0, h.2)
    | inr h ↦ absurd (let known = exit-known in omega arith)
  ]

  -- it is inside of one region of it
  times : regions p r frames ≡ one_if ((part_of a).part.holds r)
  times = sym (ap (λ z. regions p r (frames_in z)) s.stand)
      ∙ sym (times-regions p r (frames_in (part_of a).part.stand)) ∙ of.is.inside r

  here : one_if (r.0 == r.0) ≡ 1
  here = ap one_if (at-self r.0)

  most : (b : Bool) → one_if b ≤ 1
  most true = omega arith
  most false = omega arith

  pub exit-left : regions p r kept ≡ 0
  exit-left =
      let t = times in
      let o = here in
      let m = most ((part_of a).part.holds r) in
      omega arith

  holds-true : (b : Bool) → 1 ≤ one_if b → b ≡ true
  holds-true true h = refl
  holds-true false h = absurd (omega arith)

  pub exit-holds : (part_of a).part.holds r ≡ true
  exit-holds = holds-true ((part_of a).part.holds r) (let t = times in let o = here in omega arith)

  -- After the exit
  module _ (conditions : Conditions p) (b : CodePart) (k : CodeContent) (number : ℕ) (share : Share)
      (is : IsShare p r a.shared share)
      (units : numbers a.supply ≡ number ∷ drop 1 (numbers a.supply))
      (made : IsGivenUp number r share k a b) where
    now : stand_in b.stand ≡ running kept
    now = made.stand ∙ ap (λ z. running (moved (GoOn Past) (frames_in z))) s.stand

    -- the part after the exit, with the content in hand
    abbrev both : Part
    both = record (part_of b).part {
      heap = (common_of a.shared).heap;
      store = (common_of a.shared).store;
    }

    hand : HasInHand (part_of b).part (content_of k).content both
    hand = in-hand (part_of b).part (content_of k).content (common_of a.shared).heap
        (common_of a.shared).store made.heap made.store

    held : (part_common (part_of a).part).held r ≡ Some a.task
    held = ap (λ z. cond z (Some a.task) None) exit-holds

    holders-after : (part_common both).held ≡ (set_holder r None (part_common
        (part_of a).part)).held
    holders-after = ap (λ (z : Common). z.held) (part-common b) ∙ made.held
        ∙ (λ i. λ q. cond (q.0 == r.0) None
        (ap (λ (z : Common). z.held q) (sym (part-common a)) i))

    common-after : part_common both ≡ set_holder r None (part_common (part_of a).part)
    common-after = same-held (common_of a.shared).heap (common_of a.shared).store holders-after

    takes : NextTakes (own_event a number) (next (runs frames)) (has (numbers a.supply))
        (has (numbers b.supply))
    takes = takes-first (own_event a number) (next (runs frames)) a b units made.supply
        (numbers b.supply, (refl, refl), refl)

    -- it is an exit
    exits-is : Exits p (own_event a number) (part_of a) (content_of k) (part_of b)
    exits-is = record {
      both = both;
      hand = hand;
      frames = frames;
      kept = kept;
      exit = (
        s.fixed,
        s.below,
        s.rest,
        ap (λ z. leaves s.fixed s.below z s.rest) (sym made.resource),
      );
      acts = record {
        own = refl;
        task = made.task;
        from_is = s.stand;
        to_is = now;
        steps = (held, common-after, refl);
        slots = λ slot h. elim h [ inl x ↦ absurd x | inr x ↦ absurd x ];
      };
      spends = takes;
      notes = record {
        keeps = made.keeps;
        given = made.given;
        clock_is = let c = made.clock in omega arith;
        log_is = made.log;
      };
      stamp = made.stamp;
    }

    -- The content is just the resource's
    of_resource : (q : ResId) (i : ℕ) → is_variable_of r (length is.resource.variables)
        (shared q i) ≡ true
        → (q ≡ r) × (i < length is.resource.variables)
    of_resource q i e =
        let low : q.0 == r.0 ≡ true = and-left (q.0 == r.0) _ e in
        let high : ltb i (length is.resource.variables) ≡ true = and-right (q.0 == r.0) _ e in
        (resource-same q r low, grind (arith, nat_tests))

    variable-there : (q : ResId) (i : ℕ)
        → is_variable_of r (length is.resource.variables) (shared q i) ≡ true
        → is_some ((common_of a.shared).store (shared q i)) ≡ true
    variable-there q i e =
        let (same, few) = of_resource q i e in
        let within : i < variable_count (slice_get p.resources r.0) =
        subst (λ z. i < variable_count z) (sym is.there) few in
        ap (λ (z : ResId). is_some ((common_of a.shared).store (shared z i))) same
        ∙ ap (λ z. is_some ((common_of a.shared).store z)) (sym ((frames_are.0).names r i))
        ∙ (frames_are.0).variables (Shared r i)
        (within, inr (inl ((contains-cons r (inside s.rest) r).1 (inl refl))))

    own-there : (slot : Slot)
        → is_some (cond (is_variable_of r (length is.resource.variables) slot)
        ((common_of a.shared).store slot) None) ≡ is_variable_of r
        (length is.resource.variables) slot
    own-there (own e i) = refl
    own-there (shared q i) =
        go (is_variable_of r (length is.resource.variables) (shared q i)) (variable-there q i)
      where
        go : (c : Bool) → (c ≡ true → is_some ((common_of a.shared).store (shared q i)) ≡ true)
            → is_some (cond c ((common_of a.shared).store (shared q i)) None) ≡ c
        go false h = refl
        go true h = h refl

    slots-are : (slot : Slot) → is_some ((content_of k).content.store slot)
        ≡ is_variable_of r (length is.resource.variables) slot
    slots-are slot =
        ap (λ (z : Store). is_some (z slot)) made.is_share
        ∙ ap is_some (is.variables slot)
        ∙ ap (λ z. is_some (cond (is_variable_of r (variable_count z) slot)
        ((common_of a.shared).store slot) None)) is.there
        ∙ own-there slot

    variables : (slot : Slot) → is_some ((content_of k).content.store slot)
        ≡ is_variable_of k.resource (length is.resource.variables) slot
    variables slot = slots-are slot
        ∙ ap (λ z. is_variable_of z (length is.resource.variables) slot) (sym made.resource)

    resource-there : slice_get p.resources k.resource.0 ≡ Some is.resource
    resource-there = ap (λ (z : ResId). slice_get p.resources z.0) made.resource ∙ is.there

    cells-are : is.foot.part ≡ (content_of k).content.heap
    cells-are = map-same is.foot.part (content_of k).content.heap (λ location.
        given-same (is.foot.part location) ((content_of k).content.heap location)
        ((common_of a.shared).heap location)
        (same-there (is.foot.part location) (get k.heap location) _ (is.foot.at location)
        (made.at location) ∙ sym (is_some-map cell_of (get k.heap location)))
        (λ v e. splits-has_left location v is.foot.foot.splits e)
        (λ v e. splits-has_right location v made.heap e))

    invariant : Sat is.resource.invariant.level (evaluate entry_slot (content_of k).content.store)
        (λ n. nil) (content_of k).content.heap
    invariant = subst (λ (z : Heap). Sat is.resource.invariant.level
        (evaluate entry_slot (content_of k).content.store) (λ n. nil) z) cells-are
        (subst (λ (z : Store). Sat is.resource.invariant.level (value (seen_in z)) (λ n. nil)
        is.foot.part) (sym made.is_share) is.foot.foot.sat)

    pub exit-gives : Gives p (own_event a number) (part_of a) (content_of k) (part_of b)
    exit-gives = record {
      exits = exits-is;
      exactly = record {
        resource = is.resource;
        there = resource-there;
        variables = variables;
        invariant = invariant;
      };
    }

    pub exit-content : HasWidth (length p.fields) k.heap → IsContentIn p k
    exit-content wide = record {
      resource = is.resource;
      there = resource-there;
      variables = variables;
      wide = wide;
    }

    -- The part is still the program's
    back : (x : Var) → IsVariable p (record { fixed = s.fixed; todo = s.rest })
        (frames_are.0).procedure x
        → IsVariable p (record { fixed = s.fixed; todo = leave r ∷ s.rest })
        (frames_are.0).procedure x
    back (Own n) v = v
    back (Shared q i) v = (
      v.0,
      elim v.1 [
        | inl free ↦ inl free
        | inr h ↦ elim h [
          | inl m ↦ inr (inl (contains-rest r (inside s.rest) q m))
          | inr m ↦ inr (inr m)
        ]
      ],
    )

    kept_are : FramesAreOf p (common_of a.shared).store kept
    kept_are = (
      record {
        procedure = (frames_are.0).procedure;
        there = (frames_are.0).there;
        todo = (frames_are.0).todo;
        names = (frames_are.0).names;
        variables = λ x v. (frames_are.0).variables x (back x v);
        room = (frames_are.0).room;
      },
      frames_are.1,
    )

    stays : Stays (GoneOf r) (common_of a.shared).store (common_of b.shared).store
    stays slot not_gone h =
        ap is_some (sym (splits-at_left slot made.store (lacks slot not_gone))) ∙ h
      where
        lacks : (slot : Slot) → (GoneOf r slot → ⊥) → (content_of k).content.store slot ≡ None
        lacks (own e i) n = is_some-false ((content_of k).content.store (own e i)) (slots-are
            (own e i))
        lacks (shared q i) n =
            go (is_variable_of r (length is.resource.variables) (shared q i)) refl
          where
            go : (c : Bool) → is_variable_of r (length is.resource.variables) (shared q i) ≡ c
                → (content_of k).content.store (shared q i) ≡ None
            go false e = is_some-false ((content_of k).content.store (shared q i))
                (slots-are (shared q i) ∙ e)
            go true e =
                let (same, few) = of_resource q i e in
                absurd (n (i, ap (λ z. shared z i) same))

    frames-after : FramesAreOf p (common_of b.shared).store kept
    frames-after = spare-frames p (GoneOf r) (λ slot g. (r, g.0, g.1)) (common_of a.shared).store
        (common_of b.shared).store kept stays
        (spare-left p formed conditions r exit-known (common_of a.shared).store
        (record { fixed = s.fixed; todo = s.rest }) s.below exit-entered exit-left
        (order-leave p s.fixed r s.rest s.below order_is) kept_are) kept_are

    inside-after : (q : ResId) → regions p q kept ≡ one_if ((part_of b).part.holds q)
    inside-after q =
        let before : regions p q frames ≡ one_if ((part_of a).part.holds q) =
        sym (ap (λ z. regions p q (frames_in z)) s.stand)
        ∙ sym (times-regions p q (frames_in (part_of a).part.stand)) ∙ of.is.inside q in
        let held = ap (λ (f : ResId → Option Path). one_if (is_some (f q))) made.held in
        go (q.0 == r.0) refl (r.0 == q.0) refl before held
      where
        go : (x : Bool) → q.0 == r.0 ≡ x → (y : Bool) → r.0 == q.0 ≡ y
            → regions p q frames ≡ one_if ((part_of a).part.holds q)
            → one_if ((part_of b).part.holds q)
            ≡ one_if (is_some (cond (q.0 == r.0) None ((common_of a.shared).held q)))
            → regions p q kept ≡ one_if ((part_of b).part.holds q)
        go true e true i before held =
            let left : regions p q kept ≡ 0 =
            ap (λ z. regions p z kept) (resource-same q r e) ∙ exit-left in
            let then_ : one_if (is_some (cond (q.0 == r.0) None
            ((common_of a.shared).held q))) ≡ 0 =
            ap (λ z. one_if (is_some (cond z None ((common_of a.shared).held q)))) e in
            omega arith
        go false e false i before held =
            let one : one_if (r.0 == q.0) ≡ 0 = ap one_if i in
            let then_ : one_if (is_some (cond (q.0 == r.0) None ((common_of a.shared).held q)))
            ≡ one_if ((part_of a).part.holds q) =
            ap (λ z. one_if (is_some (cond z None ((common_of a.shared).held q)))) e in
            omega arith
        go true e false i before held = absurd (grind (arith, nat_tests))
        go false e true i before held = absurd (grind (arith, nat_tests))

    pub exit-of : HasWidth (length p.fields) b.shared.heap → IsPartOf p b
    exit-of wide = record {
      is = record {
        stands = subst (StandIsOf p (common_of b.shared).store) (sym now) frames-after;
        inside = λ q. times-regions p q (frames_in (part_of b).part.stand)
            ∙ ap (λ z. regions p q (frames_in z)) now ∙ inside-after q;
        order = subst (λ z. AreInOrder p (frames_in z)) (sym now)
            (order-leave p s.fixed r s.rest s.below order_is);
      };
      wide = wide;
      blank = made.blank ∙ of.blank;
    }

-- where the invariant has no footprint there is nothing to give up
pub exit-none : (p : Program) (a : CodePart) (r : ResId) → HasNoShare p r (common_of a.shared)
    → HasNoContent p (part_of a).part r
exit-none p a r none k less same inhand of =
    none of.resource k.store there own k.heap (record {
      rest = less.heap;
      splits = splits-comm inhand.heap;
      sat = of.invariant;
    })
  where
    there : slice_get p.resources r.0 ≡ Some of.resource
    there = ap (λ (z : ResId). slice_get p.resources z.0) (sym same) ∙ of.there

    go : (o w : Option Value) (c : Bool) → is_some o ≡ c → ((v : Value) → o ≡ Some v → w ≡ Some v)
        → o ≡ cond c w None
    go None w true e h = absurd (true≢false (sym e))
    go None w false e h = refl
    go (Some v) w true e h = sym (h v refl)
    go (Some v) w false e h = absurd (true≢false e)

    own : IsOwnOf p r (part_of a).part.store k.store
    own slot =
        go (k.store slot) ((part_of a).part.store slot)
        (is_variable_of r (variable_count (slice_get p.resources r.0)) slot)
        (of.variables slot
        ∙ ap (λ z. is_variable_of z (length of.resource.variables) slot) same
        ∙ ap (λ z. is_variable_of r (variable_count z) slot) (sym there))
        (λ v e. splits-has_right slot v inhand.store e)
