-- How the code compares the fields of a wanted cell: it notes what existentials are to stand for, and sets it at the end.
-- Ordinary: a list of changes that are made one after the other.
use Rattle.std.specs.Prelude.{◌≡◌, ℕ, ◌==◌, cond, Option, Some, None, List, [], ◌∷◌, IfNone, IfSome, set}
use Rattle.sf_sym.specs.declared.term.Term.{Term}
use Rattle.sf_sym.specs.Pending.{Given, pending_of}
use Rattle.sf_sym.specs.State.{State}
use Rattle.sf_consume.specs.declared.fit.Fitting.{Fitting}
use Rattle.sf_consume.specs.Subtract.{Fit, Step, Want, stepped}

-- what existentials stand for after these changes
abbrev pub after_changes : List (ℕ × Term) → List (Option Term) → List (Option Term)
after_changes [] bindings = bindings
after_changes (x ∷ xs) bindings = after_changes xs (set bindings x.0 (Some x.1))

-- the last of these changes of that number, or what was there before
abbrev pub latest : List (ℕ × Term) → ℕ → Option Term → Option Term
latest [] n before = before
latest (x ∷ xs) n before = latest xs n (cond (x.0 == n) (Some x.1) before)

-- how far the fields fit, by what the code keeps of it
abbrev pub fit_of : List (Option Term) → Fitting → Fit
fit_of bindings f = record {
  next_sym = f.next_sym;
  fields = f.fields;
  bindings = after_changes f.changes.items bindings;
}

-- the same with the term of a field
abbrev pub link_of : List (Option Term) → Fitting × Term → Fit × Term
link_of bindings r = (fit_of bindings r.0, r.1)

-- the same with the root of a cell
abbrev pub fitting_of : List (Option Term) → Term × Fitting → Term × Fit
fitting_of bindings r = (r.0, fit_of bindings r.1)

-- the subtraction under way, by its state and what is wanted
abbrev pub want_of : State → Given → Want
want_of s want = record {
  state = s;
  bindings = (pending_of want).bindings;
  conjuncts = (pending_of want).conjuncts;
}

-- how the code answers by a step, of a state and what is wanted of it, before and after
pub record AnswersBy {X : Type 0} (step : Step) (before after : State) (want still : Given) (answer : Option X)
    : Type 0 where
  -- where it is done, what is left is the step's
  pub done : IfSome answer (λ _. stepped step (want_of before want) ≡ Some (want_of after still))
  -- it isn't exactly where the step leaves nothing, and then nothing has changed
  pub none : IfNone answer (stepped step (want_of before want) ≡ None)
  pub kept : IfNone answer (after ≡ before)
  pub kept_want : IfNone answer (still ≡ want)
