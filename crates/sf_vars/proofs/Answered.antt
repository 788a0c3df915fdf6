-- Each program has an answer: what it breaks a condition by is there and has a name, and the search over its
-- sets finds none or the first.
use Rattle.std.proofs.Common.{◌≡◌, ◌⊎◌, ◌<◌, ℕ, List, [], ◌∷◌, Option, Some, None, Contains, slice_get, get_or, refl, inl, inr, subst, arith}
use Rattle.std.specs.List.{flat_map}
use Rattle.std.proofs.lemmas.List.Elements.{Contains-append_left}
use Rattle.std.proofs.lemmas.Option.{slice_get-get_or, slice_get_cases}
use Rattle.sf_base.proofs.Elements.{contains-cons}
use Rattle.sf_base.specs.declared.ids.ProcId.{ProcId}
use Rattle.sf_base.specs.declared.ids.Var.{Var}
use Rattle.sf_base.specs.declared.ids.Var.TheVariants.{Own, Shared}
use Rattle.sf_core.specs.declared.command.Occurrence.{Occurrence}
use Rattle.sf_core.specs.Program.Formed.{IsFormed, IsInBody, CallWithin, CommandWithin, variable_count}
use Rattle.sf_core.specs.Program.Heads.{Site, expr_occurrences}
use Rattle.sf_core.specs.Program.Syntax.{Call, Procedure, Program, Resource}
use Rattle.sf_core.proofs.HeadsWithin.{call-within, calls-within, forks-calls, head-within, regions-within, sites-within}
use Rattle.sf_calls.specs.declared.breach.Breach.{Breach}
use Rattle.sf_calls.specs.declared.breach.Breach.TheVariants.{NotHeld, Reentered, SameReference, ReferenceIsFree, ParallelShares}
use Rattle.sf_calls.specs.Assigned.{MayChange}
use Rattle.sf_calls.specs.Breaks.{BreaksAt, Breaks, IsAgain}
use Rattle.sf_calls.specs.FirstBreach.{Conditions, FirstBreach}
use Rattle.sf_calls.specs.Sets.{Sets, AreSetsOf}
use Rattle.sf_calls.specs.Checked.Lemmas.Broken.{first_broken}
use Rattle.sf_calls.specs.Checked.Lemmas.Least.{takes_within}
use Rattle.sf_calls.specs.Checked.Lemmas.SetsThere.{sets_there}
use Rattle.sf_vars.specs.declared.fault.VarFault.{VarFault}
use Rattle.sf_vars.specs.Faults.{IsVariableName, IsBreachName, IsFirstFault, told_by}
use Rattle.sf_vars.specs.Checked.Laws.{EachProgramHasAnAnswer}
use Rattle.sf_vars.specs.Checked.Search.{in_procedures, IsVariableIn, IsBreachIn}
use Rattle.sf_vars.proofs.Fits.{free_in_body}
use Rattle.sf_calls.specs.Checked.Lemmas.Sites.{among_at}
use Rattle.sf_vars.proofs.Meets.{meets_program}

-- what a call may change may be named where it is made
changed_in : (p : Program) (h : Procedure) (c : Call) (x : Var) → IsFormed p → CallWithin p h c
    → MayChange p c x → IsInBody p h x
changed_in p h c x formed w (inl a) =
    let y = among_at x c.references a in
    subst (IsInBody p h) y.2
    (call-within p h c w y.0 (Contains-append_left c.references (flat_map expr_occurrences c.values) y.0 y.1))
changed_in p h c x formed w (inr f) = free_in_body p h c.callee x formed f

again_there : (x : Occurrence) (xs : List Occurrence) → IsAgain x xs → Contains xs x
again_there x [] h = absurd h
again_there x (y ∷ ys) (inl h) = (contains-cons y ys x).1 (inr h.1)
again_there x (y ∷ ys) (inr h) = (contains-cons y ys x).1 (inr (again_there x ys h))

-- what a command breaks a condition by may be named in the procedure, or is a resource of the file
breaks_in : (p : Program) (f : ProcId) (h : Procedure) (s : Site) → IsFormed p
    → slice_get p.procedures f.0 ≡ Some h → CommandWithin p h s.command → (b : Breach) → BreaksAt p f b s
    → IsBreachIn p f b
breaks_in p f h s formed at w (NotHeld place x) (u, inl (inl c)) =
    (h, at, head-within p h s.command w (record { var = x; place = place }) c)
breaks_in p f h s formed at w (NotHeld place x) (u, inl (inr (d, k, c))) =
    (h, at, call-within p h d (calls-within p h s.command w d k) (record { var = x; place = place }) c)
breaks_in p f h s formed at w (NotHeld place x) (u, inr (d, k, (e, free))) =
    (h, at, free_in_body p h d.callee x formed free)
breaks_in p f h s formed at w (Reentered place r) (u, inl (e, c)) = regions-within p h s.command w r c
breaks_in p f h s formed at w (Reentered place r) (u, inr (d, k, (e, t))) = takes_within p formed d.callee r t
breaks_in p f h s formed at w (SameReference place x) (d, k, g) =
    let y : Occurrence = record { var = x; place = place } in (
      h,
      at,
      call-within p h d (calls-within p h s.command w d k) y
          (Contains-append_left d.references _ y (again_there y d.references g)),
    )
breaks_in p f h s formed at w (ReferenceIsFree place x) (d, k, (c, free)) =
    let y : Occurrence = record { var = x; place = place } in
    (h, at, call-within p h d (calls-within p h s.command w d k) y (Contains-append_left d.references _ y c))
breaks_in p f h s formed at w (ParallelShares place x) (e, k, is, inl t) =
    let d = (forks-calls s.command e k).0 in
    (h, at, changed_in p h e.0 x formed (calls-within p h s.command w e.0 d) t.0)
breaks_in p f h s formed at w (ParallelShares place x) (e, k, is, inr t) =
    let d = (forks-calls s.command e k).1 in
    (h, at, changed_in p h e.1 x formed (calls-within p h s.command w e.1 d) t.0)

-- what comes first may be named
pub first_in : (p : Program) (f : ProcId) (b : Breach) → IsFormed p → FirstBreach p (Some (f, b))
    → IsBreachIn p f b
first_in p f b formed first = there ((first_broken p formed).found f b first)
  where
    there : Breaks p f b → IsBreachIn p f b
    there (h, at, (s, m, k)) =
        breaks_in p f h s formed at
        (sites-within p h [] h.body (formed.procedures f.0 h at).body s m) b k

-- a variable that the procedure may name has a name
variable_named : (p : Program) (f : ProcId) (x : Var) → IsVariableIn p f x
    → (name : List ℕ) × IsVariableName p f x name
variable_named p f (Own n) (h, at, below) =
    (get_or h.names n [], (h, at, slice_get-get_or h.names n [] below))
variable_named p f (Shared r i) (h, at, below) = of_resource (slice_get p.resources r.0) refl below
  where
    of_resource : (o : Option Resource) → slice_get p.resources r.0 ≡ o → i < variable_count o
        → (name : List ℕ) × IsVariableName p f (Shared r i) name
    of_resource None e b = absurd (omega (arith, b))
    of_resource (Some q) e b = (get_or q.variables i [], (q, e, slice_get-get_or q.variables i [] b))

-- and so has what a breach is by
breach_named : (p : Program) (f : ProcId) (b : Breach) → IsBreachIn p f b
    → (name : List ℕ) × IsBreachName p f b name
breach_named p f (NotHeld place x) h = variable_named p f x h
breach_named p f (Reentered place r) below = elim (slice_get_cases p.resources r.0).1 [
  | inl q ↦ (q.0.name, (q.0, q.2, refl))
  | inr none ↦ absurd (omega (arith, below, none.0))
]
breach_named p f (SameReference place x) h = variable_named p f x h
breach_named p f (ReferenceIsFree place x) h = variable_named p f x h
breach_named p f (ParallelShares place x) h = variable_named p f x h

-- a fault that tells what the search finds is the first one
pub found_told : (p : Program) (sets : Sets) (f : ProcId) (b : Breach) (fault : VarFault) → IsFormed p
    → AreSetsOf p sets
    → Some (f, b) ≡ in_procedures sets 0 p.procedures
    → (name : List ℕ) × IsBreachName p f b name × (fault ≡ told_by b name) → IsFirstFault p fault
found_told p sets f b fault formed are e (name, named, told) = record {
  procedure = f;
  breach = b;
  name = name;
  first = meets_program p sets formed are (Some (f, b)) e;
  named = named;
  told = told;
}

-- what is found first is the answer
answered : (p : Program) (o : Option (ProcId × Breach)) → IsFormed p → FirstBreach p o
    → Conditions p ⊎ ((fault : VarFault) × IsFirstFault p fault)
answered p None formed first = inl first
answered p (Some (f, b)) formed first =
    let named = breach_named p f b (first_in p f b formed first) in
    inr (
      told_by b named.0,
      record {
        procedure = f;
        breach = b;
        name = named.0;
        first = first;
        named = named.1;
        told = refl;
      },
    )

pub program_answered : EachProgramHasAnAnswer
program_answered p formed =
    let sets = sets_there p formed in
    answered p (in_procedures sets.0 0 p.procedures) formed
    (meets_program p sets.0 formed sets.1 (in_procedures sets.0 0 p.procedures) refl)
