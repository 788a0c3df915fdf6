-- The form of what a goal has to do: in front of it more may be assumed, shown or run, other terms leave it as it is, and a
-- command is followed by commands up to an end.
-- Names: `WHAT-with` of other terms, `WHAT-form` of goals, `adding-assuming`, `taking-showing`, `body-LAW`, `showing-empty`.
use Rattle.std.specs.List.{AllByRecursion}
use Rattle.std.proofs.Common.{◌≡◌, ℕ, List, [], ◌∷◌, ◌++◌, map, sym, subst, inl, inr}
use Rattle.sf_base.specs.declared.place.Place.{Place}
use Rattle.sf_base.specs.declared.value.Value.{Value}
use Rattle.sf_base.specs.HeapStore.{Heap, IsEmpty}
use Rattle.sf_core.specs.declared.fields.Links.{Links}
use Rattle.sf_core.specs.Program.Syntax.{Block, done, then, Command, Conjuncts, none, also}
use Rattle.sf_rules.specs.Checked.LawsOfCommands.{before_command}
use Rattle.sf_sym.specs.declared.term.Term.{Term}
use Rattle.sf_sym.specs.Equalities.{item_with}
use Rattle.sf_sym.specs.Formed.{ItemFormed}
use Rattle.sf_sym.specs.Goal.{Item, run, add, take, gave, head, again, exit, return, end, Goal, adding, taking, to_run, unless_none}
use Rattle.sf_sym.specs.Holds.{AddsHold}
use Rattle.sf_sym.specs.Pending.{Pending}
use Rattle.sf_sym.specs.Shape.{HasForm, IsAssuming, IsBody, IsShowing}
use Rattle.sf_sym.specs.State.{State}

-- OTHER TERMS leave the form as it is
module _ (to : Term → Term) where
  pub body-with : (todo : List Item) → IsBody todo → IsBody (map (item_with to) todo)
  body-with [] b = b
  body-with (run c ∷ rest) b = body-with rest b
  body-with (exit q r ∷ rest) b = body-with rest b
  body-with (item ∷ rest) b = b

  pub assuming-with : (todo : List Item) → IsAssuming todo → IsAssuming (map (item_with to) todo)
  assuming-with [] b = b
  assuming-with (add q given ∷ rest) b = assuming-with rest b
  assuming-with (run c ∷ rest) b = body-with rest b
  assuming-with (exit q r ∷ rest) b = body-with rest b
  assuming-with (item ∷ rest) b = b

  pub showing-with : (todo : List Item) → IsShowing todo → IsShowing (map (item_with to) todo)
  showing-with [] b = b
  showing-with (take q want names ∷ rest) b = showing-with rest b
  showing-with (gave q set removed ∷ rest) b = assuming-with rest b
  showing-with (head q test invariant body ∷ rest) b = body-with rest b
  showing-with (item ∷ rest) b = b

  pub with-form : (goal child : Goal) → child.todo ≡ map (item_with to) goal.todo
      → (goal.state.taken ≡ [] → child.state.taken ≡ []) → HasForm goal → HasForm child
  with-form goal child is taken (inl i) =
      inl (subst IsAssuming (sym is) (assuming-with goal.todo i.0), taken i.1)
  with-form goal child is taken (inr i) = inr (subst IsShowing (sym is) (showing-with goal.todo i))

-- so does another state
pub same-form : (goal child : Goal) → child.todo ≡ goal.todo → (goal.state.taken ≡ [] → child.state.taken ≡ [])
    → HasForm goal → HasForm child
same-form goal child is taken (inl i) = inl (subst IsAssuming (sym is) i.0, taken i.1)
same-form goal child is taken (inr i) = inr (subst IsShowing (sym is) i)

-- IN FRONT of it more is assumed, shown or run
pub adding-assuming : (q : Place) (given : Pending) (rest : List Item) → IsAssuming rest
    → IsAssuming (adding q given ++ rest)
adding-assuming q given rest i = go given.conjuncts
  where
    go : (cs : Conjuncts Term) → IsAssuming (unless_none cs (add q given) ++ rest)
    go none = i
    go (also c cs) = i

pub taking-showing : (q : Place) (want : Pending) (names : List (List ℕ)) (rest : List Item) → IsShowing rest
    → IsShowing (taking q want names ++ rest)
taking-showing q want names rest i = go want.conjuncts
  where
    go : (cs : Conjuncts Term) → IsShowing (unless_none cs (take q want names) ++ rest)
    go none = i
    go (also c cs) = i

-- nothing is assumed at once where something is shown first
pub showing-empty : (w : ℕ → Value) (todo : List Item) (heap : Heap) → IsShowing todo → IsEmpty heap
    → AddsHold w todo heap
showing-empty w [] heap i e = absurd i
showing-empty w (take q want names ∷ rest) heap i e = e
showing-empty w (gave q set removed ∷ rest) heap i e = e
showing-empty w (head q test invariant body ∷ rest) heap i e = e
showing-empty w (end q ∷ rest) heap i e = e
showing-empty w (run c ∷ rest) heap i e = absurd i
showing-empty w (add q given ∷ rest) heap i e = absurd i
showing-empty w (exit q r ∷ rest) heap i e = absurd i
showing-empty w (again q invariant ∷ rest) heap i e = absurd i
showing-empty w (return q post ∷ rest) heap i e = absurd i

pub body-assuming : (todo : List Item) → IsBody todo → IsAssuming todo
body-assuming [] b = b
body-assuming (run c ∷ rest) b = b
body-assuming (exit q r ∷ rest) b = b
body-assuming (again q invariant ∷ rest) b = b
body-assuming (return q post ∷ rest) b = b
body-assuming (add q given ∷ rest) b = absurd b
body-assuming (take q want names ∷ rest) b = absurd b
body-assuming (gave q set removed ∷ rest) b = absurd b
body-assuming (head q test invariant body ∷ rest) b = absurd b
body-assuming (end q ∷ rest) b = absurd b

-- a block comes before it
pub body-run : (b : Block) (rest : List Item) → IsBody rest → IsBody (to_run b ++ rest)
body-run done rest i = i
body-run (then c b) rest i = body-run b rest i

-- a command is followed by commands up to an end, and nothing is handed over
pub form-command : (s : State) (c : Command) (rest : List Item) → HasForm (before_command s c rest)
    → IsBody rest × (s.taken ≡ [])
form-command s c rest (inl f) = f
form-command s c rest (inr f) = absurd f

-- commands have no conjuncts
pub items-formed_run : (links : Links) (b : Block) (rest : List Item) → AllByRecursion (ItemFormed links) rest
    → AllByRecursion (ItemFormed links) (to_run b ++ rest)
items-formed_run links done rest f = f
items-formed_run links (then c b) rest f = (tt, items-formed_run links b rest f)
