-- Callee: the terms that a callee's variables have, before a call and after it.
-- Berdine, Calcagno, O'Hearn, "Smallfoot" (2005): references stand for the caller's variables, and
-- values are kept.
use Rattle.std.specs.Prelude.{ℕ, zero, suc, List, [], ◌∷◌, map}
use Rattle.sf_base.specs.declared.ids.Var.{Var}
use Rattle.sf_base.specs.declared.ids.Var.TheVariants.{Own, Shared}
use Rattle.sf_core.specs.declared.command.Expr.{Expr}
use Rattle.sf_core.specs.declared.command.Expr.TheVariants.{Var as Variable, Nil as ENil, Int as EInt}
use Rattle.sf_core.specs.declared.command.Occurrence.{Occurrence}
use Rattle.sf_core.specs.Program.Syntax.{Call}
use Rattle.sf_sym.specs.declared.term.Term.{Term}
use Rattle.sf_sym.specs.declared.term.Term.TheVariants.{Nil, Int}
use Rattle.sf_sym.specs.State.{State, term, term_at}
use Rattle.sf_sym.specs.Variables.{set_vars}

-- the term of the callee's own variable of that number: that of the caller's variable for a
-- reference, and those of the values after them
abbrev pub own_term : (Var → Term) → List Occurrence → List Term → ℕ → Term
own_term caller [] [] i = Nil
own_term caller [] (t ∷ ts) zero = t
own_term caller [] (t ∷ ts) (suc i) = own_term caller [] ts i
own_term caller (x ∷ xs) ts zero = caller x.var
own_term caller (x ∷ xs) ts (suc i) = own_term caller xs ts i

-- the term of the callee's variable, where the caller's variables have these and the values those
abbrev pub callee_term : (Var → Term) → Call → List Term → Var → Term
callee_term caller c ts (Own i) = own_term caller c.references ts i
callee_term caller c ts (Shared r i) = caller (Shared r i)

-- the term of an expression, by the terms of variables
abbrev pub term_by : (Var → Term) → Expr → Term
term_by f (Variable x) = f x.var
term_by f ENil = Nil
term_by f (EInt i) = Int i

-- the terms of the callee's variables before the call, and after it, where what it may change has
-- these terms; the values keep their old ones
abbrev pub term_before : State → Call → Expr → Term
term_before s c = term_by (callee_term (term_at s.vars) c (map (term s.vars) c.values))

abbrev pub term_after : State → List (Var × Term) → Call → Expr → Term
term_after s set c =
    term_by (callee_term (term_at (set_vars set s.vars)) c (map (term s.vars) c.values))
