-- Starts and why there is none: footprints one after the other, each in what the earlier ones left.
-- O'Hearn (2007); Brookes (2007): the state at the start of a program with resources.
use Rattle.std.specs.Prelude.{◌≡◌, ◌≢◌, ◌⊎◌, ◌≤◌, ℕ, zero, suc, ◌+◌, ◌++◌, Bool, cond, nat_eq, None, Some, Result, List, [], ◌∷◌, codes, drop, length, map, slice_get, take, IfErr, IfOk, MatchResult}
use Rattle.std.specs.FinMap.{get}
use Rattle.std.specs.List.{concat}
use Rattle.std.specs.Set.{is_member}
use Rattle.sf_base.specs.declared.ids.ProcId.{ProcId}
use Rattle.sf_base.specs.declared.ids.Var.{Var}
use Rattle.sf_base.specs.declared.value.Value.{Value}
use Rattle.sf_base.specs.HeapStore.{Heap}
use Rattle.sf_core.specs.Program.Syntax.{Assertion, Procedure, Program, Resource}
use Rattle.sf_heap.specs.Cells.{Cells, heap_of}
use Rattle.sf_foot.specs.declared.start.Start.{Start}
use Rattle.sf_foot.specs.declared.vars.Vars.{Vars}
use Rattle.sf_foot.specs.Footprint.{HasNoFootprint, IsFootprint}
use Rattle.sf_foot.specs.Starting.{IsFirstUnit, StartsWith, assertions_of}
use Rattle.sf_foot.specs.Variables.{value_of}
use Rattle.sf_state.specs.declared.fault.StartFault.{StartFault}
use Rattle.sf_state.specs.declared.fault.StartFault.TheVariants as fault
use Rattle.sf_lines.specs.Lines.{Text}
use Rattle.sf_state.specs.Names.{format_of}
use Rattle.sf_state.specs.Refused.{name_at}
use Rattle.sf_state.specs.Stated.{Gives, given_by, is_fresh, text_refusal}

-- these values as those of the variables of each resource, in file order
abbrev pub by_resource : List Resource → List Value → List (List Value)
by_resource [] values = []
by_resource (r ∷ rs) values = take (length r.variables) values ∷ by_resource rs (drop (length r.variables) values)

-- the text isn't refused, and gives these cells and these values: in canonical order first those of
-- the entry's references and values, and then those of each resource's variables
pub record GivesState (p : Program) (g : Procedure) (text : Text) (vars : Vars) (heap : Cells) : Type 0 where
  pub accepted : text_refusal (format_of p g) text ≡ None
  pub values : List Value
  pub gives : Gives (format_of p g) text values (get heap)
  pub own : vars.own.items ≡ take (g.references + g.values) values
  pub shared : map (λ vs. vs.items) vars.shared.items ≡ by_resource p.resources (drop (g.references + g.values) values)

-- whether the state that the text gives is fresh: the program's procedure `init` sets up the resources
abbrev pub gives_fresh : Program → Procedure → Text → Bool
gives_fresh p g text = is_fresh (format_of p g) (given_by (format_of p g) text)

-- what a refusal calls the assertion of that number
abbrev pub assertion_name : Program → ℕ → Text
assertion_name p zero = codes "pre"
assertion_name p (suc k) = codes "resource " ++ name_at (map (λ r. r.name) p.resources) k

-- the heap without its cells at those locations
abbrev pub without : List ℕ → Heap → Heap
without locations heap location = cond (is_member nat_eq locations location) None (heap location)

-- the assertions have these footprints, each in what the earlier ones left of the heap
abbrev pub HaveFootprints : (Var → Value) → Heap → List Assertion → List (List ℕ) → Type 0
HaveFootprints vars heap [] parts = parts ≡ []
HaveFootprints vars heap (a ∷ more) [] = ⊥
HaveFootprints vars heap (a ∷ more) (ls ∷ parts) =
    IsFootprint a.level vars heap ls × HaveFootprints vars (without ls heap) more parts

-- the assertion of that number is the first that has none in what the earlier ones left
pub record IsUnmet (vars : Var → Value) (heap : Heap) (assertions : List Assertion) (number : ℕ) : Type 0 where
  pub parts : List (List ℕ)
  pub earlier : HaveFootprints vars heap (take number assertions) parts
  pub assertion : Assertion
  pub there : slice_get assertions number ≡ Some assertion
  pub none : HasNoFootprint assertion.level vars (without (concat parts) heap)

-- all have one, and that is the least location of a cell that they leave
pub record IsLeftOver (vars : Var → Value) (heap : Heap) (assertions : List Assertion) (location : ℕ) : Type 0 where
  pub parts : List (List ℕ)
  pub all : HaveFootprints vars heap assertions parts
  pub there : without (concat parts) heap location ≢ None
  pub least : (l : ℕ) → without (concat parts) heap l ≢ None → location ≤ l

-- the text gives these variables and cells, with which the procedure starts, fresh or not; these
-- are its parts and its first unit
pub record IsStartText (p : Program) (f : ProcId) (g : Procedure) (text : Text) (vars : Vars) (heap : Cells)
    (parts : List (List ℕ)) (unit : ℕ) (fresh : Bool) : Type 0 where
  pub state : GivesState p g text vars heap
  pub is_fresh : fresh ≡ gives_fresh p g text
  pub starts : StartsWith p f fresh vars heap parts
  pub first_unit : IsFirstUnit vars heap unit

-- the text gives variables and cells with which the procedure doesn't start, for that reason
pub record IsNoStart (p : Program) (g : Procedure) (text : Text) (reason : (Var → Value) → Heap → Type 0)
    : Type 0 where
  pub vars : Vars
  pub heap : Cells
  pub state : GivesState p g text vars heap
  pub why : reason (value_of vars) (heap_of heap)

-- why a text is no start: it is refused, or else an assertion is unmet, or else a cell is left over
pub data IsStartFault (p : Program) (g : Procedure) (text : Text) (f : StartFault) : Type 0 where
  refused : text_refusal (format_of p g) text ≡ Some f → IsStartFault p g text f
  unmet : (number : ℕ) → f ≡ fault.Unmet (assertion_name p number)
      → IsNoStart p g text (λ vars heap. IsUnmet vars heap (assertions_of p g (gives_fresh p g text)) number)
      → IsStartFault p g text f
  left_over : (location : ℕ) → f ≡ fault.LeftOver location
      → IsNoStart p g text (λ vars heap. IsLeftOver vars heap (assertions_of p g (gives_fresh p g text)) location)
      → IsStartFault p g text f

-- the call answers a start exactly where the text is one, and that it is none, for the one reason,
-- exactly where it is none for that; instead of either it may run out of memory
pub record DecidesStart (p : Program) (f : ProcId) (g : Procedure) (text : Text) (result : Result Start StartFault)
    : Type 0 where
  pub started : IfOk result (λ s. IsStartText p f g text s.vars s.heap s.parts.items s.unit s.fresh)
  pub refused : IfErr result (λ e. (e ≡ fault.OutOfMemory) ⊎ IsStartFault p g text e)
  pub only_started : (vars : Vars) (heap : Cells) (parts : List (List ℕ)) (unit : ℕ) (fresh : Bool)
      → IsStartText p f g text vars heap parts unit fresh → IfErr result (λ e. e ≡ fault.OutOfMemory)
  pub only_refused : (e : StartFault) → IsStartFault p g text e
      → MatchResult result (λ s. ⊥) (λ own. (own ≡ e) ⊎ (own ≡ fault.OutOfMemory))
