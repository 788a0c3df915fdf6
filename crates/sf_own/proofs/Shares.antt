-- What a frame begins with is just its share; and the calls of a fork fit.
-- Names: `share-LAW` of a share, `fork-LAW` of a fork that stands in a body.
use Rattle.std.specs.Prelude.{◌≡◌, true, false, Contains, List, [], ◌∷◌, Option, Some, None, is_some}
use Rattle.std.proofs.Common.{sym, ap, ◌∙◌, refl, inl, inr}
use Rattle.sf_base.proofs.Elements.{contains-cons, contains-nil}
use Rattle.sf_base.specs.declared.ids.ResId.{ResId}
use Rattle.sf_base.specs.declared.ids.Var.{Var}
use Rattle.sf_base.specs.declared.ids.Var.TheVariants.{Own as OwnVar, Shared}
use Rattle.sf_base.specs.declared.place.Place.{Place}
use Rattle.sf_base.specs.HeapStore.{Slot, Store}
use Rattle.sf_calls.specs.Checked.Lemmas.InFile.{free_within}
use Rattle.sf_core.proofs.HeadsWithin.{sites-within}
use Rattle.sf_core.proofs.Inits.{sets_up-is}
use Rattle.sf_core.specs.Machine.Config.{Item, command, items, Fixed, Frame}
use Rattle.sf_core.specs.Machine.Step.{procedure_at}
use Rattle.sf_core.specs.Machine.Whole.{Part}
use Rattle.sf_core.specs.Program.Formed.{CallWithin, HasCounts, IsFormed}
use Rattle.sf_core.specs.Program.Heads.{Site}
use Rattle.sf_core.specs.Program.Init.{is_init}
use Rattle.sf_core.specs.Program.Syntax.{Block, done, then, Call, fork, Procedure, Program}
use Rattle.sf_own.proofs.Contents.{there-is}
use Rattle.sf_own.proofs.Exits.{part_with}
use Rattle.sf_own.proofs.Standing.{frame_with}
use Rattle.sf_part.specs.Lent.{IsNamed, IsShareOf}
use Rattle.sf_part.specs.Of.{FrameIsOf, IsVariable, inside}
use Rattle.sf_safe.specs.Checked.Contract.{Entered, IsVariableOf, Known}
use Rattle.sf_safe.specs.Checked.Own.{Own}

-- a body that is still to do is inside of no region
outside-items : (b : Block) (r : ResId) → Contains (inside (items b)) r → ⊥
outside-items done r k = contains-nil r k
outside-items (then c b) r k = outside-items b r k

module _ (p : Program) (formed : IsFormed p) (k : Known) (b : Block) (g : Procedure)
    (there : procedure_at p k.fixed.procedure ≡ Some g) where
  abbrev frame : Frame
  frame = frame_with k.fixed (items b)

  variable-to : (x : Var) → IsVariableOf p k.fixed.procedure g x → IsVariable p frame g x
  variable-to (OwnVar n) l = l
  variable-to (Shared r i) (inl free) = (free_within p k.fixed.procedure r i formed free, inl free)
  variable-to (Shared r i) (inr a) =
      (a.1, inr (inr (sets_up-is p k.fixed.procedure g there ∙ a.0)))

  variable-from : (x : Var) → IsVariable p frame g x → IsVariableOf p k.fixed.procedure g x
  variable-from (OwnVar n) l = l
  variable-from (Shared r i) (l, inl free) = inl free
  variable-from (Shared r i) (l, inr (inl c)) = absurd (outside-items b r c)
  variable-from (Shared r i) (l, inr (inr e)) =
      inr (sym (sets_up-is p k.fixed.procedure g there) ∙ e, l)

-- what a frame begins with is its share
pub share-of : (p : Program) → IsFormed p → (k : Known) (b : Block) (w : Own) (a : Part)
    → Entered p k w → IsShareOf p (frame_with k.fixed (items b)) (part_with a w)
share-of p formed k b w a e = record {
  procedure = e.procedure;
  there = e.owns.frame.there;
  variables = λ slot. (there slot, back slot);
  precondition = e.pre;
}
  where
    there : (slot : Slot) → is_some (w.slots slot) ≡ true
        → IsNamed p (frame_with k.fixed (items b)) e.procedure slot
    there slot h =
        let v = there-is (w.slots slot) h in
        let x = e.owns.variables.only slot v.0 v.1 in
        (x.0, variable-to p formed k b e.procedure e.owns.frame.there x.0 x.1, sym x.2)

    back : (slot : Slot) → IsNamed p (frame_with k.fixed (items b)) e.procedure slot
        → is_some (w.slots slot) ≡ true
    back slot (x, v, same) =
        let has = e.owns.variables.each x
        (variable-from p formed k b e.procedure e.owns.frame.there x v) in
        ap (λ z. is_some (w.slots z)) same ∙ ap is_some has.1

-- the two calls of a fork in a body fit: neither names the procedure that sets the resources up
pub fork-within : (p : Program) → IsFormed p → (store : Store) (f : Fixed) (place : Place)
    (c d : Call) (rest : List Item)
    → FrameIsOf p store (frame_with f (command (fork place c d) ∷ rest))
    → (g : Procedure) × CallWithin p g c × CallWithin p g d
fork-within p formed store f place c d rest of =
    let here : Site = record { entered = inside rest; command = fork place c d } in
    let within = sites-within p of.procedure [] of.procedure.body
    (formed.procedures f.procedure.0 of.procedure of.there).body here
    (of.todo here ((contains-cons here _ here).1 (inl refl))) in
    (of.procedure, within.0, within.1)

-- the callee isn't that procedure
pub call-plain : (p : Program) (g h : Procedure) (c : Call) → CallWithin p g c
    → procedure_at p c.callee ≡ Some h → is_init h ≡ false
call-plain p g h c within there = sym (sets_up-is p c.callee h there) ∙ within.no_init

counts-there : (o : Option Procedure) (c : Call) → HasCounts o c → (h : Procedure) × (o ≡ Some h)
counts-there None c k = absurd k
counts-there (Some h) c k = (h, refl)

-- and it is there
pub call-there : (p : Program) (g : Procedure) (c : Call) → CallWithin p g c
    → (h : Procedure) × (procedure_at p c.callee ≡ Some h)
call-there p g c within = counts-there (procedure_at p c.callee) c within.callee
