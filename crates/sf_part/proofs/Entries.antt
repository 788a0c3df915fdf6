-- The entry of a region with the content of its resource in hand, and that it leaves the part the
-- program's.
-- Names: `enter-LAW`.
use Rattle.std.specs.Prelude.{◌≡◌, ◌⊎◌, ◌==◌, ◌&&◌, ◌<◌, ℕ, true, ltb, List, [], ◌∷◌, ◌++◌, length, Option, Some, None, Contains, is_some}
use Rattle.std.specs.List.{slice_get}
use Rattle.std.proofs.Common.{true≢false, sym, ap, ap₂, ◌∙◌, refl, subst, inl, inr, arith}
use Rattle.std.proofs.lemmas.Bool.Decides.{nat_tests}
use Rattle.sf_base.proofs.Elements.{contains-cons, contains-single}
use Rattle.sf_base.proofs.HeapSplits.{at-self}
use Rattle.sf_base.proofs.MapSplits.{splits-has_left, splits-has_right}
use Rattle.sf_base.specs.declared.ids.ResId.{ResId}
use Rattle.sf_base.specs.declared.ids.Var.{Var}
use Rattle.sf_base.specs.declared.ids.Var.TheVariants.{Own, Shared}
use Rattle.sf_base.specs.declared.place.Place.{Place}
use Rattle.sf_base.specs.declared.value.Value.{Value}
use Rattle.sf_base.specs.HeapStore.{Slot, Splits, Store, shared}
use Rattle.sf_core.specs.declared.assertion.Test.{Test}
use Rattle.sf_core.specs.declared.command.Expr.{Expr}
use Rattle.sf_core.specs.declared.command.Occurrence.{Occurrence}
use Rattle.sf_core.specs.Machine.Config.{Item, command, leave, items, in_room, Fixed, Frame}
use Rattle.sf_core.specs.Machine.Enabled.{variable, Reads, Writes}
use Rattle.sf_core.specs.Machine.Next.{does, next}
use Rattle.sf_core.specs.Program.Formed.{IsFormed, variable_count}
use Rattle.sf_core.specs.Program.Heads.{head_regions, occurrences_at, sites}
use Rattle.sf_core.specs.Program.Syntax.{Block, with, Program}
use Rattle.sf_frame.specs.Checked.Nexts.{frames_with}
use Rattle.sf_part.specs.Contents.{IsContentIn, content_of}
use Rattle.sf_part.specs.declared.content.Content.{Content}
use Rattle.sf_part.specs.Of.{FramesAreOf, IsVariable, inside, without}
use Rattle.sf_part.proofs.Occur.{OccursIn, reads-occur}
use Rattle.sf_part.proofs.Owned.{Grows, frames-grow, grows-cond, variable-near}
use Rattle.sf_part.proofs.Sites.{inside-items, sites-enter, sites-first}

-- with the content's slots beside it, the part has those of the region's resource
module _ (p : Program) (formed : IsFormed p) (before after : Store) (k : Content)
    (content : IsContentIn p k)
    (slots : Splits after before (content_of k).content.store) where
  grows : Grows before after
  grows slot h = there (before slot) refl
    where
      there : (o : Option Value) → before slot ≡ o → is_some (after slot) ≡ true
      there None e = absurd (true≢false (sym h ∙ ap is_some e))
      there (Some v) e = ap is_some (splits-has_left slot v slots e)

  -- the variables of the resource
  of_resource : (i : ℕ) → i < variable_count (slice_get p.resources k.resource.0)
      → is_some (after (shared k.resource i)) ≡ true
  of_resource i l = there ((content_of k).content.store (shared k.resource i)) refl
    where
      few : i < length content.resource.variables
      few = subst (λ z. i < variable_count z) content.there l

      here : is_some ((content_of k).content.store (shared k.resource i)) ≡ true
      here = content.variables (shared k.resource i)
          ∙ (let low : (k.resource.0 == k.resource.0) ≡ true = at-self k.resource.0 in
          let high : ltb i (length content.resource.variables) ≡ true = grind (arith, nat_tests) in
          ap₂ (λ a b. a && b) low high)

      there : (o : Option Value) → (content_of k).content.store (shared k.resource i) ≡ o
          → is_some (after (shared k.resource i)) ≡ true
      there None e = absurd (true≢false (sym here ∙ ap is_some e))
      there (Some v) e = ap is_some (splits-has_right (shared k.resource i) v slots e)

  module _ (f : Fixed) (place : Place) (test : Test Expr) (body : Block) (rest : List Item)
      (below : List Frame)
      (of : FramesAreOf p before (frames_with f (command (with place k.resource test body) ∷ rest)
      below)) where
    abbrev now : Frame
    now = record { fixed = f; todo = command (with place k.resource test body) ∷ rest }

    abbrev then_ : Frame
    then_ = record { fixed = f; todo = items body ++ (leave k.resource ∷ rest) }

    here : Contains (sites [] (of.0).procedure.body)
        (record { entered = inside rest; command = with place k.resource test body })
    here = (of.0).todo (record { entered = inside rest; command = with place k.resource test body })
        (sites-first (with place k.resource test body) rest)

    -- a variable that the condition evaluates is there
    occurs-there : (x : Occurrence) → Contains (occurrences_at (with place k.resource test body)) x
        → is_some (after (f.slots x.var)) ≡ true
    occurs-there x h =
        elim (variable-near p formed f (with place k.resource test body) rest (of.0).procedure
        (of.0).there here x h) [
          | inl v ↦ grows (f.slots x.var) ((of.0).variables x.var v)
          | inr n ↦ near n
        ]
      where
        near : ((r : ResId) × (i : ℕ) × (x.var ≡ Shared r i)
            × Contains (head_regions (with place k.resource test body)) r
            × (i < variable_count (slice_get p.resources r.0)))
            → is_some (after (f.slots x.var)) ≡ true
        near (r, i, is, entered, l) =
            let same : k.resource ≡ r = contains-single k.resource r entered in
            let few : i < variable_count (slice_get p.resources k.resource.0) =
            subst (λ (z : ResId). i < variable_count (slice_get p.resources z.0)) (sym same) l in
            ap (λ z. is_some (after z)) (ap f.slots is ∙ (of.0).names r i
            ∙ ap (λ z. shared z i) (sym same))
            ∙ of_resource i few

    -- so is each slot that is read or written next
    pub enter-slots : (slot : Slot)
        → Reads after (does f below (with place k.resource test body) rest) (variable slot)
        ⊎ Writes after (does f below (with place k.resource test body) rest) (variable slot)
        → (v : Value) × (after slot ≡ Some v)
    enter-slots slot (inr w) = absurd w
    enter-slots slot (inl r) =
        let o : OccursIn f.slots (occurrences_at (with place k.resource test body)) slot =
        reads-occur f.slots after slot (with place k.resource test body) r in
        value (after slot) (ap (λ z. is_some (after z)) o.is ∙ occurs-there o.x o.here)
      where
        value : (o : Option Value) → is_some o ≡ true → (v : Value) × (o ≡ Some v)
        value None h = absurd (true≢false (sym h))
        value (Some v) h = (v, refl)

    -- the variables of the frame inside of the region are there
    variables : (x : Var) → IsVariable p then_ (of.0).procedure x
        → is_some (after (f.slots x)) ≡ true
    variables (Own n) v = grows (f.slots (Own n)) ((of.0).variables (Own n) v)
    variables (Shared r i) v = elim v.1 [
      | inl free ↦ grows (f.slots (Shared r i)) ((of.0).variables (Shared r i) (v.0, inl free))
      | inr h ↦ elim h [
        | inl m ↦ elim ((contains-cons k.resource (inside rest) r).0
            (subst (λ z. Contains z r) (inside-items body (leave k.resource ∷ rest)) m)) [
              | inl e ↦
                  let few : i < variable_count (slice_get p.resources k.resource.0) =
                  subst (λ (z : ResId). i < variable_count (slice_get p.resources z.0)) (sym e)
                  v.0 in
                  ap (λ z. is_some (after z)) ((of.0).names r i ∙ ap (λ z. shared z i) (sym e))
                  ∙ of_resource i few
              | inr n ↦ grows (f.slots (Shared r i)) ((of.0).variables (Shared r i) (
                v.0,
                inr (inl n),
              ))
            ]
        | inr m ↦ grows (f.slots (Shared r i)) ((of.0).variables (Shared r i) (v.0, inr (inr m)))
      ]
    ]

    -- the frames are the program's
    pub enter-frames : FramesAreOf p after (then_ ∷ below)
    enter-frames = (
      record {
        procedure = (of.0).procedure;
        there = (of.0).there;
        todo = λ s h. (of.0).todo s (sites-enter place k.resource test body rest s h);
        names = (of.0).names;
        variables = variables;
        room = λ slot i. grows slot ((of.0).room slot i);
      },
      frames-grow p (without f.room before) (without f.room after) below
          (λ slot. grows-cond (in_room f.room slot) (before slot) (after slot) (grows slot)) of.1,
    )
