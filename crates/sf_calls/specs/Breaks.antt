-- Breaks: where a program breaks a condition on variables, and by what, whatever else it breaks.
-- After the variable conditions of Berdine, Calcagno and O'Hearn, "Smallfoot" (2005). A breach that is
-- anywhere in the text is one; which of them comes first is FirstBreach's.
use Rattle.std.specs.Prelude.{◌≡◌, ◌⊎◌, List, [], ◌∷◌, ◌++◌, Contains}
use Rattle.sf_base.specs.declared.ids.ProcId.{ProcId}
use Rattle.sf_core.specs.declared.command.Occurrence.{Occurrence}
use Rattle.sf_core.specs.Program.Heads.{Site, sites, head_forks, head_occurrences, head_regions, call_occurrences}
use Rattle.sf_core.specs.Program.Places.{place_of}
use Rattle.sf_core.specs.Program.Syntax.{Call, Command, Program}
use Rattle.sf_calls.specs.declared.breach.Breach.{Breach}
use Rattle.sf_calls.specs.declared.breach.Breach.TheVariants.{NotHeld, Reentered, SameReference, ReferenceIsFree, ParallelShares}
use Rattle.sf_calls.specs.Around.{IsHeld, IsUnheld, Shares}
use Rattle.sf_calls.specs.Conditions.{Takes, Free, Has}
use Rattle.sf_calls.specs.Outside.{Makes}

-- it occurs in the command itself, or in one of its calls
abbrev pub OccursAt : Occurrence → Command → Type 0
OccursAt x c = Contains (head_occurrences c) x ⊎ Makes c (λ d. Contains (call_occurrences d) x)

-- the references have that one after another of its variable
abbrev pub IsAgain : Occurrence → List Occurrence → Type 0
IsAgain x [] = ⊥
IsAgain x (y ∷ ys) = ((y.var ≡ x.var) × Contains ys x) ⊎ IsAgain x ys

-- the command breaks that condition where it is, in the body of f
abbrev pub BreaksAt : Program → ProcId → Breach → Site → Type 0
-- a variable of a resource that isn't held is there, or is free in what is called there. The condition of
-- a region is inside it
BreaksAt p f (NotHeld place x) s =
    IsUnheld p f (head_regions s.command ++ s.entered) x
    × (OccursAt (record { var = x; place = place }) s.command
    ⊎ Makes s.command (λ d. (d.place ≡ place) × Free p d.callee x))
-- a resource that is held is entered there, or taken by what is called there
BreaksAt p f (Reentered place r) s =
    IsHeld p f s.entered r
    × (((place_of s.command ≡ place) × Contains (head_regions s.command) r)
    ⊎ Makes s.command (λ d. (d.place ≡ place) × Takes p d.callee r))
-- a call has that variable there as a reference, and before it too
BreaksAt p f (SameReference place x) s =
    Makes s.command (λ d. IsAgain (record { var = x; place = place }) d.references)
-- a call has that variable there as a reference, and it is free in what is called
BreaksAt p f (ReferenceIsFree place x) s =
    Makes s.command (λ d. Contains d.references (record { var = x; place = place }) × Free p d.callee x)
-- of two parallel calls, the first of which is there, one may change the variable, and the other uses it
BreaksAt p f (ParallelShares place x) s =
    (e : Call × Call) × Contains (head_forks s.command) e × (e.0.place ≡ place) × Shares p e.0 e.1 x

-- Breaks: a command of the procedure breaks that condition, wherever it is
abbrev pub Breaks : Program → ProcId → Breach → Type 0
Breaks p f b = Has p (λ h. (s : Site) × Contains (sites [] h.body) s × BreaksAt p f b s) f
