-- What a program's numbers name is in it: procedures that are called, resources that are entered, variables.
-- Ordinary: by the cases of commands and assertions.
use Rattle.std.proofs.Common.{◌≡◌, ◌<◌, ℕ, List, [], length, Option, Some, None, slice_get, inl, inr, refl, subst}
use Rattle.std.proofs.lemmas.List.Elements.{Contains-append_cases}
use Rattle.std.proofs.lemmas.Option.{slice_get_within}
use Rattle.sf_base.proofs.Members.{contains-flat_map_from}
use Rattle.sf_base.specs.declared.ids.ProcId.{ProcId}
use Rattle.sf_base.specs.declared.ids.ResId.{ResId}
use Rattle.sf_base.specs.declared.ids.Var.{Var}
use Rattle.sf_core.specs.declared.assertion.Scope.{Scope}
use Rattle.sf_core.specs.declared.command.Expr.{Expr}
use Rattle.sf_core.specs.Assertions.Occurs.{VarOccursIn}
use Rattle.sf_core.specs.Program.Formed.{IsInBody, LevelWithin, HasCounts, CallWithin, BlockWithin}
use Rattle.sf_core.specs.Program.Heads.{call_occurrences, head_calls, head_occurrences, occurrences_at}
use Rattle.sf_core.specs.Program.Syntax.{Level, Call, Block, Procedure, Program}
use Rattle.sf_core.proofs.HeadsWithin.{call-within, calls-within, head-within, level-within, regions-within, sites-within}
use Rattle.sf_core.proofs.Occurrences.{level-is}
use Rattle.sf_calls.specs.Outside.{OccursOutside, CallsIn, EntersIn}
use Rattle.sf_calls.specs.Checked.Lemmas.Sites.{among_at}

there : (o : Option Procedure) (c : Call) → HasCounts o c → (h : Procedure) × (o ≡ Some h)
there None c h = absurd h
there (Some g) c h = (g, refl)

-- a call that fits is of a procedure that is there
pub callee_within : (p : Program) (f : Procedure) (c : Call) → CallWithin p f c
    → c.callee.0 < length p.procedures
callee_within p f c w =
    let is = there (slice_get p.procedures c.callee.0) c w.callee in
    slice_get_within p.procedures c.callee.0 is.0 is.1

-- and so is each call of a body
pub callees_within : (p : Program) (f : Procedure) (but : Option ResId) (g : ProcId) (b : Block)
    → BlockWithin p f b → CallsIn but g b → g.0 < length p.procedures
callees_within p f but g b w (s, m, (out, (d, k, e))) =
    subst (λ (h : ProcId). h.0 < length p.procedures) e
    (callee_within p f d (calls-within p f s.command (sites-within p f [] b w s m) d k))

-- each region is of a resource that is there
pub entered_within : (p : Program) (f : Procedure) (r : ResId) (b : Block) → BlockWithin p f b
    → EntersIn r b → r.0 < length p.resources
entered_within p f r b w (s, m, k) = regions-within p f s.command (sites-within p f [] b w s m) r k

-- what occurs in a level may be read there
pub level_within : (fields : List (List ℕ)) (V : Var → Type 0) (made : List Scope) (x : Var)
    (a : Level Expr)
    → LevelWithin fields V made a → VarOccursIn a x → V x
level_within fields V made x a w (y, e, o) = subst V e (level-within fields V made a w y ((level-is y a).1 o))

-- and what occurs in a body
pub block_within : (p : Program) (f : Procedure) (x : Var) (b : Block) → BlockWithin p f b
    → OccursOutside x b → IsInBody p f x
block_within p f x b w (s, m, (out, a)) =
    let within = sites-within p f [] b w s m in
    let y = among_at x (occurrences_at s.command) a in
    subst (IsInBody p f) y.2 (elim (Contains-append_cases (head_occurrences s.command) _ y.0 y.1) [
      | inl k ↦ head-within p f s.command within y.0 k
      | inr k ↦
          let d = contains-flat_map_from call_occurrences (head_calls s.command) y.0 k in
          call-within p f d.0 (calls-within p f s.command within d.0 d.1) y.0 d.2
    ])
