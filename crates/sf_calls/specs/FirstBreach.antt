-- FirstBreach: what the conditions on variables ask of a program, in order, and the first that is broken.
-- After the variable conditions of Berdine, Calcagno and O'Hearn, "Smallfoot" (2005). Procedures come in
-- file order, commands in text order, each before those inside it. At one command the kinds come in the
-- order in which Breach lists them, within a kind the text's order, and what the text doesn't name in file
-- order. That it is a breach at all, Breaks says without any order.
use Rattle.std.specs.Prelude.{ℕ, suc, List, [], ◌∷◌, ◌++◌, map, Option, None}
use Rattle.std.specs.List.{flat_map}
use Rattle.sf_base.specs.declared.ids.ProcId.{ProcId}
use Rattle.sf_base.specs.declared.ids.ResId.{ResId}
use Rattle.sf_base.specs.declared.ids.Var.{Var}
use Rattle.sf_base.specs.declared.ids.Var.TheVariants.{Shared}
use Rattle.sf_base.specs.declared.place.Place.{Place}
use Rattle.sf_core.specs.declared.command.Occurrence.{Occurrence}
use Rattle.sf_core.specs.Program.Heads.{Site, sites, head_calls, head_forks, head_occurrences, head_regions, call_occurrences}
use Rattle.sf_core.specs.Program.Places.{place_of}
use Rattle.sf_core.specs.Program.Syntax.{Call, Command, Procedure, Resource, Program}
use Rattle.sf_calls.specs.declared.breach.Breach.{Breach}
use Rattle.sf_calls.specs.declared.breach.Breach.TheVariants.{NotHeld, Reentered, SameReference, ReferenceIsFree, ParallelShares}
use Rattle.sf_calls.specs.Around.{IsHeld, IsUnheld, Shares}
use Rattle.sf_calls.specs.Conditions.{Takes, Free}
use Rattle.sf_calls.specs.First.{IsFirst}
use Rattle.sf_calls.specs.Outside.{IsAmong}

-- the resources, in file order, from that number on
abbrev pub resources_from : ℕ → List Resource → List ResId
resources_from k [] = []
resources_from k (r ∷ rs) = record { 0 = k } ∷ resources_from (suc k) rs

-- the variables of a resource, in file order, from that number on
abbrev pub shared_from : ResId → ℕ → List (List ℕ) → List Var
shared_from r i [] = []
shared_from r i (name ∷ names) = Shared r i ∷ shared_from r (suc i) names

-- the variables of the resources, in file order, from that number on
abbrev pub variables_from : ℕ → List Resource → List Var
variables_from k [] = []
variables_from k (r ∷ rs) = shared_from (record { 0 = k }) 0 r.variables ++ variables_from (suc k) rs

-- one question that the conditions ask of a command
pub data Question : Type 0 where
  -- is the variable there held
  occurs : Occurrence → Question
  -- is it held, where it is free in what is called
  frees : Call → Var → Question
  -- is the resource free that is entered there
  enters : Place → ResId → Question
  -- is it free, where what is called takes it
  takes : Call → ResId → Question
  -- is it another variable than those before it
  repeats : (before : List Occurrence) → Occurrence → Question
  -- is it not free in what is called
  passes : Call → Occurrence → Question
  -- do the two calls leave it alone, or both only read it
  shares : (left right : Call) → Var → Question

-- what is broken where the answer is no
abbrev pub breach_of : Question → Breach
breach_of (occurs x) = NotHeld x.place x.var
breach_of (frees c x) = NotHeld c.place x
breach_of (enters place r) = Reentered place r
breach_of (takes c r) = Reentered c.place r
breach_of (repeats before x) = SameReference x.place x.var
breach_of (passes c x) = ReferenceIsFree x.place x.var
breach_of (shares c d x) = ParallelShares c.place x

-- the answer is no at that command of f's body; what it uses is inside it, where it is a region
abbrev pub IsBroken : Program → ProcId → Site → Question → Type 0
IsBroken p f s (occurs x) = IsUnheld p f (head_regions s.command ++ s.entered) x.var
IsBroken p f s (frees c x) = Free p c.callee x × IsUnheld p f (head_regions s.command ++ s.entered) x
IsBroken p f s (enters place r) = IsHeld p f s.entered r
IsBroken p f s (takes c r) = Takes p c.callee r × IsHeld p f s.entered r
IsBroken p f s (repeats before x) = IsAmong x.var before
IsBroken p f s (passes c x) = Free p c.callee x.var
IsBroken p f s (shares c d x) = Shares p c d x

-- whether what a call uses is held: what is free in what it calls, at its name, and then what occurs in it
abbrev pub call_uses : Program → Call → List Question
call_uses p c = map (frees c) (variables_from 0 p.resources) ++ map occurs (call_occurrences c)

-- whether what it takes is held
abbrev pub call_takes : Program → Call → List Question
call_takes p c = map (takes c) (resources_from 0 p.resources)

-- each reference, with those before it
abbrev pub repeats_after : (before : List Occurrence) → List Occurrence → List Question
repeats_after before [] = []
repeats_after before (x ∷ xs) = repeats before x ∷ repeats_after (before ++ x ∷ []) xs

-- what two parallel calls may share: what occurs in them, and then the others
abbrev pub fork_shares : Program → (left right : Call) → List Question
fork_shares p c d =
    map (λ x. shares c d x.var) (call_occurrences c)
    ++ (map (λ x. shares c d x.var) (call_occurrences d) ++ map (shares c d) (variables_from 0 p.resources))

-- the questions of each kind about a command itself
abbrev pub uses_questions : Program → Command → List Question
uses_questions p c = map occurs (head_occurrences c) ++ flat_map (call_uses p) (head_calls c)

abbrev pub enters_questions : Program → Command → List Question
enters_questions p c = map (enters (place_of c)) (head_regions c) ++ flat_map (call_takes p) (head_calls c)

abbrev pub repeats_questions : Command → List Question
repeats_questions c = flat_map (λ d. repeats_after [] d.references) (head_calls c)

abbrev pub passes_questions : Command → List Question
passes_questions c = flat_map (λ d. map (passes d) d.references) (head_calls c)

abbrev pub shares_questions : Program → Command → List Question
shares_questions p c = flat_map (λ e. fork_shares p e.0 e.1) (head_forks c)

-- all of them, the kinds in their order
abbrev pub head_questions : Program → Command → List Question
head_questions p c =
    uses_questions p c
    ++ (enters_questions p c ++ (repeats_questions c ++ (passes_questions c ++ shares_questions p c)))

-- the questions about the commands at those sites
abbrev pub site_questions : Program → List Site → List (Site × Question)
site_questions p ss = flat_map (λ s. map (λ q. (s, q)) (head_questions p s.command)) ss

-- the questions about procedures, each with its number, the next one having that number
abbrev pub questions_from : Program → ℕ → List Procedure → List (ProcId × (Site × Question))
questions_from p k [] = []
questions_from p k (h ∷ hs) =
    map (λ q. (record { 0 = k }, q)) (site_questions p (sites [] h.body)) ++ questions_from p (suc k) hs

-- the answer is no, and what that breaks
abbrev pub IsNo : Program → ProcId × (Site × Question) → Type 0
IsNo p e = IsBroken p e.0 e.1.0 e.1.1

abbrev pub told : ProcId × (Site × Question) → ProcId × Breach
told e = (e.0, breach_of e.1.1)

-- FirstBreach: the procedure and its breach that come first; None where no condition is broken
abbrev pub FirstBreach : Program → Option (ProcId × Breach) → Type 0
FirstBreach p r = IsFirst (IsNo p) told (questions_from p 0 p.procedures) r

-- Conditions: none is broken
abbrev pub Conditions : Program → Type 0
Conditions p = FirstBreach p None
