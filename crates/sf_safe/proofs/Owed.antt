-- What the return of a frame owes: each assertion of it speaks of the frame's variables alone.
-- Names: `WHAT-variable` says whose what occurs is, `each-LAW` speaks of a list of assertions.
use Rattle.std.specs.Prelude.{◌≡◌, ℕ, zero, suc, Bool, true, false, ◌+◌, ◌<◌, ◌≤◌, List, [], ◌∷◌, Some, length, map}
use Rattle.std.specs.List.{slice_get}
use Rattle.std.proofs.Common.{sym, ap, ◌∙◌, refl, subst, inl, inr, arith}
use Rattle.std.proofs.lemmas.Option.{none-some, same_Some}
use Rattle.sf_base.specs.declared.ids.ProcId.{ProcId}
use Rattle.sf_base.specs.declared.ids.Var.{Var}
use Rattle.sf_base.specs.declared.ids.Var.TheVariants.{Own as OwnVar, Shared}
use Rattle.sf_base.specs.declared.value.Value.{Value}
use Rattle.sf_base.specs.declared.value.Value.TheVariants.{Nil as nil}
use Rattle.sf_base.specs.HeapStore.{Heap}
use Rattle.sf_calls.specs.Reaches.{directly}
use Rattle.sf_calls.specs.Checked.Lemmas.Within.{level_within}
use Rattle.sf_core.specs.declared.command.Expr.{Expr}
use Rattle.sf_core.specs.Assertions.Occurs.{VarOccursIn}
use Rattle.sf_core.specs.Assertions.Sat.{Sat}
use Rattle.sf_core.specs.Checked.GoodParts.{SatEach}
use Rattle.sf_core.specs.Machine.Good.{owed_by}
use Rattle.sf_core.specs.Machine.Step.{procedure_at}
use Rattle.sf_core.specs.Program.Formed.{IsFormed, IsOfResource, IsParameter, variable_count}
use Rattle.sf_core.specs.Program.Init.{is_init}
use Rattle.sf_core.specs.Program.Syntax.{Level, Procedure, Program, Resource}
use Rattle.sf_core.proofs.Inits.{owed_by-invariants, owed_by-post}
use Rattle.sf_safe.specs.Checked.Contract.{IsVariableOf}

-- each of the assertions becomes another meaning of it
pub each-map : (all : List (Level Expr)) (one two : Expr → Value)
    → ((i : ℕ) (a : Level Expr) → slice_get all i ≡ Some a → (h : Heap) → Sat a one (λ n. nil) h
    → Sat a two (λ n. nil) h)
    → (h : Heap) → SatEach all one h → SatEach all two h
each-map [] one two f h s = s
each-map (a ∷ all) one two f h s = record {
  left = s.left;
  right = s.right;
  splits = s.splits;
  first = f 0 a refl s.left s.first;
  second = each-map all one two (λ i b e. f (suc i) b e) s.right s.second;
}

-- what occurs in a postcondition is a variable of the frame
pub post-variable : (p : Program) → IsFormed p → (f : ProcId) (g : Procedure) → procedure_at p f ≡ Some g
    → (x : Var)
    → VarOccursIn g.post.level x → IsVariableOf p f g x
post-variable p formed f g there (Shared r i) o = inl (tt, directly (g, there, inr (inl o)))
post-variable p formed f g there (OwnVar i) o =
    let within = formed.procedures f.0 g there in
    let l : i < g.references + g.values =
    level_within p.fields (IsParameter p g) [] (OwnVar i) g.post.level within.post.annotation.within o in
    let m : g.references + g.values + g.locals ≤ length g.names = within.declared in
    omega (arith, l, m)

-- an invariant in the list of all of them is that of a resource
pub invariant-at : (rs : List Resource) (i : ℕ) (a : Level Expr)
    → slice_get (map (λ (r : Resource). r.invariant.level) rs) i ≡ Some a
    → (q : Resource) × (slice_get rs i ≡ Some q) × (q.invariant.level ≡ a)
invariant-at [] i a e = absurd (none-some a e)
invariant-at (q ∷ rs) zero a e = (q, refl, same_Some q.invariant.level a e)
invariant-at (q ∷ rs) (suc i) a e = invariant-at rs i a e

-- what occurs in an assertion that a return owes is a variable of the frame
pub owed-variable : (p : Program) → IsFormed p → (f : ProcId) (g : Procedure) → procedure_at p f ≡ Some g
    → (i : ℕ) (a : Level Expr) → slice_get (owed_by p g) i ≡ Some a → (x : Var) → VarOccursIn a x
    → IsVariableOf p f g x
owed-variable p formed f g there i a e x o = go (is_init g) refl
  where
    post : (i : ℕ) → slice_get (g.post.level ∷ []) i ≡ Some a → IsVariableOf p f g x
    post zero e = post-variable p formed f g there x
        (subst (λ z. VarOccursIn z x) (sym (same_Some g.post.level a e)) o)
    post (suc i) e = absurd (none-some a e)

    shared_ : is_init g ≡ true → (q : Resource) → slice_get p.resources i ≡ Some q → (y : Var)
        → IsOfResource i (length q.variables) y → IsVariableOf p f g y
    shared_ n q at (OwnVar j) h = absurd h
    shared_ n q at (Shared r j) h =
        let here : j < variable_count (slice_get p.resources i) = subst (λ z. j < variable_count z) (sym at) h.1 in
        inr (n, subst (λ k. j < variable_count (slice_get p.resources k)) (sym h.0) here)

    go : (b : Bool) → is_init g ≡ b → IsVariableOf p f g x
    go false n = post i (sym (ap (λ z. slice_get z i) (owed_by-post p g n)) ∙ e)
    go true n =
        let m = invariant-at p.resources i a (sym (ap (λ z. slice_get z i) (owed_by-invariants p g n)) ∙ e) in
        shared_ n m.0 m.1 x
        (level_within p.fields (IsOfResource i (length (m.0).variables)) [] x (m.0).invariant.level
        (formed.resources i m.0 m.1).annotation.within (subst (λ z. VarOccursIn z x) (sym m.2) o))
