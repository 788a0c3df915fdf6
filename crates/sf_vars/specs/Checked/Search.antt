-- Search: the first breach of the conditions on variables as a search that computes, over the sets of
-- each procedure and a flag for each resource that is held.
-- Ordinary: a linear search of the questions of FirstBreach, in their order. What is free in a procedure,
-- or taken by it, is looked at as its set.
use Rattle.std.specs.Prelude.{ℕ, suc, Bool, true, false, cond, not, ◌&&◌, ◌||◌, ◌<◌, List, [], ◌∷◌, ◌++◌, Option, Some, None, slice_index_or, slice_set, length, replicate, AllPairs, ◌≡◌, slice_get}
use Rattle.std.specs.List.{list_any}
use Rattle.std.specs.Option.{option_or, option_map}
use Rattle.sf_base.specs.declared.ids.ProcId.{ProcId}
use Rattle.sf_base.specs.declared.ids.ResId.{ResId}
use Rattle.sf_base.specs.declared.ids.Var.{Var}
use Rattle.sf_base.specs.declared.ids.Var.TheVariants.{Own, Shared}
use Rattle.sf_base.specs.declared.limits.TheConstants.{RESOURCES}
use Rattle.sf_base.specs.declared.place.Place.{Place}
use Rattle.sf_core.specs.declared.command.Occurrence.{Occurrence}
use Rattle.sf_core.specs.Program.Heads.{call_occurrences, head_calls, head_forks, head_occurrences, head_regions}
use Rattle.sf_core.specs.Program.Places.{place_of}
use Rattle.sf_core.specs.Program.Syntax.{Call, Command, assign, look_up, mutate, new, dispose, if, while, call, fork, with, Block, done, then, Procedure, Program}
use Rattle.sf_core.specs.Program.Formed.{IsInBody}
use Rattle.sf_calls.specs.declared.breach.Breach.{Breach}
use Rattle.sf_calls.specs.declared.breach.Breach.TheVariants.{NotHeld, Reentered, SameReference, ReferenceIsFree, ParallelShares}
use Rattle.sf_calls.specs.Sets.{Sets, IsEarlier}
use Rattle.sf_base.specs.Variables.{same_var}
use Rattle.sf_calls.specs.Checked.Tests.{in_references, in_values}

-- what is found where the test is true
abbrev pub found : {A : Type 0} → Bool → A → Option A
found b x = cond b (Some x) None

-- what is found first in the order of the list
abbrev pub search_in : {A X : Type 0} → (X → Option A) → List X → Option A
search_in f [] = None
search_in f (x ∷ xs) = option_or (f x) (search_in f xs)

-- the resource is visited
abbrev pub has : List Bool → ResId → Bool
has held r = slice_index_or held r.0 false

-- the resource is visited too
abbrev pub with_one : List Bool → ResId → List Bool
with_one held r = slice_set held r.0 true

-- those resources are visited too
abbrev pub with_all : List Bool → List ResId → List Bool
with_all held [] = held
with_all held (r ∷ rs) = with_all (with_one held r) rs

-- it is a variable of a resource that is not visited
abbrev pub lacks : List Bool → Var → Bool
lacks held (Own n) = false
lacks held (Shared r i) = not (has held r)

-- the variable is one of the list
abbrev pub is_in : List Var → Var → Bool
is_in xs x = list_any (λ y. same_var y x) xs

-- what the procedure takes
abbrev pub takes_of : Sets → ProcId → List ResId
takes_of sets g = slice_index_or sets.takes g.0 []

-- what it holds
abbrev pub holds_of : Sets → ProcId → List ResId
holds_of sets g = slice_index_or sets.holds g.0 []

-- what is free in it
abbrev pub free_of : Sets → ProcId → List Var
free_of sets g = slice_index_or sets.free g.0 []

-- an occurrence of a variable that is not held
abbrev pub at_occurrence : List Bool → Occurrence → Option Breach
at_occurrence held x = found (lacks held x.var) (NotHeld x.place x.var)

-- the first of those occurrences
abbrev pub unheld : List Bool → List Occurrence → Option Breach
unheld held xs = search_in (at_occurrence held) xs

-- of those variables the first that is not held, reported at that place
abbrev pub free_unheld : List Bool → Place → List Var → Option Breach
free_unheld held place xs = search_in (λ x. found (lacks held x) (NotHeld place x)) xs

-- a call whose procedure has a variable free that is not held, at its name; then what occurs in it
abbrev pub unheld_in_call : Sets → List Bool → Call → Option Breach
unheld_in_call sets held c =
    option_or (free_unheld held c.place (free_of sets c.callee)) (unheld held (call_occurrences c))

-- of those resources the first that is held, reported at that place
abbrev pub taken_held : List Bool → Place → List ResId → Option Breach
taken_held held place rs = search_in (λ r. found (has held r) (Reentered place r)) rs

-- a call whose procedure takes a resource that is held
abbrev pub reenters_by_call : Sets → List Bool → Call → Option Breach
reenters_by_call sets held c = taken_held held c.place (takes_of sets c.callee)

-- a reference that names what one before it does
abbrev pub repeats : (before : List Occurrence) → List Occurrence → Option Breach
repeats before [] = None
repeats before (x ∷ xs) =
    option_or (found (in_references x.var before) (SameReference x.place x.var))
    (repeats (before ++ x ∷ []) xs)

-- a reference that is free in the procedure that is called
abbrev pub passes_free : Sets → Call → Option Breach
passes_free sets c =
    search_in (λ x. found (is_in (free_of sets c.callee) x.var) (ReferenceIsFree x.place x.var))
    c.references

-- what a call may change
abbrev pub may_change : Sets → Call → Var → Bool
may_change sets c x = in_references x c.references || is_in (free_of sets c.callee) x

-- what it uses
abbrev pub uses : Sets → Call → Var → Bool
uses sets c x = may_change sets c x || in_values x c.values

-- one of two parallel calls may change what the other uses
abbrev pub shares : Sets → (left right : Call) → Var → Bool
shares sets c d x = (may_change sets c x && uses sets d x) || (may_change sets d x && uses sets c x)

-- the two calls share the variable
abbrev pub shared_at : Sets → (left right : Call) → Var → Option Breach
shared_at sets c d x = found (shares sets c d x) (ParallelShares c.place x)

-- the first of those that they share
abbrev pub shared_among : Sets → (left right : Call) → List Occurrence → Option Breach
shared_among sets c d xs = search_in (λ x. shared_at sets c d x.var) xs

-- of those variables the first that is free in the procedure, reported at that place
abbrev pub also_free : Sets → Place → ProcId → List Var → Option Breach
also_free sets place g xs = search_in (λ x. found (is_in (free_of sets g) x) (ParallelShares place x)) xs

-- a variable is free in both
abbrev pub free_in_both : Sets → (left right : Call) → Option Breach
free_in_both sets c d = also_free sets c.place d.callee (free_of sets c.callee)

-- two calls that share
abbrev pub shares_in_fork : Sets → (left right : Call) → Option Breach
shares_in_fork sets c d =
    option_or (shared_among sets c d (call_occurrences c)) (
    option_or (shared_among sets c d (call_occurrences d)) (free_in_both sets c d))

-- the resources that are entered there and held
abbrev pub entered_held : List Bool → Place → List ResId → Option Breach
entered_held held place rs = search_in (λ r. found (has held r) (Reentered place r)) rs

-- the last three kinds
abbrev pub in_arguments : Sets → List Call → List (Call × Call) → Option Breach
in_arguments sets cs forks =
    option_or (search_in (λ d. repeats [] d.references) cs) (
    option_or (search_in (passes_free sets) cs) (search_in (λ e. shares_in_fork sets e.0 e.1) forks))

-- what calls break, given the two that are parallel
abbrev pub in_calls : Sets → List Bool → List Call → List (Call × Call) → Option Breach
in_calls sets held cs forks =
    option_or (search_in (unheld_in_call sets held) cs) (
    option_or (search_in (reenters_by_call sets held) cs) (in_arguments sets cs forks))

-- in a command itself: what is used there, inside its region if it is one; then the other kinds
abbrev pub in_head : Sets → List Bool → Command → Option Breach
in_head sets held c =
    option_or
    (option_or (unheld (with_all held (head_regions c)) (head_occurrences c))
    (search_in (unheld_in_call sets (with_all held (head_regions c))) (head_calls c)))
    (option_or
    (option_or (entered_held held (place_of c) (head_regions c))
    (search_in (reenters_by_call sets held) (head_calls c)))
    (in_arguments sets (head_calls c) (head_forks c)))

-- in commands, in text order
abbrev mutual
  -- in a block: in a command, in those inside it, and then in those after it
  pub in_block : Sets → List Bool → Block → Option Breach
  in_block sets held done = None
  in_block sets held (then c b) =
      option_or (option_or (in_head sets held c) (in_inner sets held c)) (in_block sets held b)

  -- in the commands inside a command
  pub in_inner : Sets → List Bool → Command → Option Breach
  in_inner sets held (if q t c d) = option_or (in_block sets held c) (in_block sets held d)
  in_inner sets held (while q t i c) = in_block sets held c
  in_inner sets held (with q r t c) = in_block sets (with_one held r) c
  in_inner sets held _ = None

-- in a command, and then in those inside it
abbrev pub in_command : Sets → List Bool → Command → Option Breach
in_command sets held c = option_or (in_head sets held c) (in_inner sets held c)

-- no resource is visited
abbrev pub none_held : List Bool
none_held = replicate RESOURCES false

-- a procedure, which holds its own resources
abbrev pub in_procedure : Sets → ProcId → Procedure → Option Breach
in_procedure sets f h = in_block sets (with_all none_held (holds_of sets f)) h.body

-- the procedures in file order, the next one having that number
abbrev pub in_procedures : Sets → ℕ → List Procedure → Option (ProcId × Breach)
in_procedures sets k [] = None
in_procedures sets k (h ∷ hs) =
    option_or (option_map (λ b. (record { 0 = k }, b)) (in_procedure sets (record { 0 = k }) h))
    (in_procedures sets (suc k) hs)

-- the procedure has its sets, that of what is free in it in order
pub record HasSets (sets : Sets) (g : ProcId) : Type 0 where
  pub takes : g.0 < length sets.takes
  pub free : g.0 < length sets.free
  pub ordered : AllPairs IsEarlier (free_of sets g)

-- what is called has its sets, and what is entered its visit
abbrev mutual
  -- in a block
  pub BlockFits : Sets → Block → Type 0
  BlockFits sets done = Unit {0}
  BlockFits sets (then c b) = CommandFits sets c × BlockFits sets b

  -- in a command
  pub CommandFits : Sets → Command → Type 0
  CommandFits sets (assign q x e) = Unit {0}
  CommandFits sets (look_up q x e field) = Unit {0}
  CommandFits sets (mutate q e field d) = Unit {0}
  CommandFits sets (new q x) = Unit {0}
  CommandFits sets (dispose q e) = Unit {0}
  CommandFits sets (if q t c d) = BlockFits sets c × BlockFits sets d
  CommandFits sets (while q t i c) = BlockFits sets c
  CommandFits sets (call q c) = HasSets sets c.callee
  CommandFits sets (fork q c d) = HasSets sets c.callee × HasSets sets d.callee
  CommandFits sets (with q s t c) = (s.0 < RESOURCES) × BlockFits sets c

-- the procedure may name the variable
abbrev pub IsVariableIn : Program → ProcId → Var → Type 0
IsVariableIn p f x = (h : Procedure) × (slice_get p.procedures f.0 ≡ Some h) × IsInBody p h x

-- the procedure may name the variable, or there is the resource
abbrev pub IsBreachIn : Program → ProcId → Breach → Type 0
IsBreachIn p f (NotHeld place x) = IsVariableIn p f x
IsBreachIn p f (Reentered place r) = r.0 < length p.resources
IsBreachIn p f (SameReference place x) = IsVariableIn p f x
IsBreachIn p f (ReferenceIsFree place x) = IsVariableIn p f x
IsBreachIn p f (ParallelShares place x) = IsVariableIn p f x
