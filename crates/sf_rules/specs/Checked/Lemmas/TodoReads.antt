-- What there is to do reads the same variables with other terms, and with more in front that is assumed or shown.
-- Names: `WHAT-reads` of what is in front of the rest.
use Rattle.std.proofs.Common.{ℕ, Bool, List, [], ◌∷◌, ◌++◌, map}
use Rattle.sf_base.specs.declared.ids.Var.{Var}
use Rattle.sf_base.specs.declared.place.Place.{Place}
use Rattle.sf_core.specs.Program.Syntax.{Assertion, Block, done, then, Conjuncts, none, also, Program}
use Rattle.sf_rules.specs.Resources.{variables_of}
use Rattle.sf_rules.specs.HasVariables.{BlockReadsIn, TodoReadsIn, without_those}
use Rattle.sf_rules.specs.Words.{pending_assertion, to_take_each}
use Rattle.sf_core.specs.declared.command.Expr.{Expr}
use Rattle.sf_sym.specs.declared.term.Term.{Term}
use Rattle.sf_sym.specs.Equalities.{item_with}
use Rattle.sf_sym.specs.Goal.{Item, run, add, take, gave, head, again, exit, return, end, adding, taking, to_run, unless_none}
use Rattle.sf_sym.specs.Pending.{Pending}

module _ (p : Program) where
  -- with other terms
  pub with-reads : (to : Term → Term) (todo : List Item) (among : Var → Bool) → TodoReadsIn p among todo
      → TodoReadsIn p among (map (item_with to) todo)
  with-reads to [] among h = tt
  with-reads to (run c ∷ rest) among h = (h.0, with-reads to rest among h.1)
  with-reads to (add q given ∷ rest) among h = with-reads to rest among h
  with-reads to (take q want names ∷ rest) among h = with-reads to rest among h
  with-reads to (gave q set removed ∷ rest) among h = with-reads to rest (without_those removed among) h
  with-reads to (head q test invariant body ∷ rest) among h = (h.0, with-reads to rest among h.1)
  with-reads to (again q invariant ∷ rest) among h = tt
  with-reads to (exit q r ∷ rest) among h = with-reads to rest (without_those (variables_of p r) among) h
  with-reads to (return q owed ∷ rest) among h = tt
  with-reads to (end q ∷ rest) among h = tt

  module _ (among : Var → Bool) (q : Place) (rest : List Item) (h : TodoReadsIn p among rest) where
    -- with conjuncts to assume in front
    pub adding-reads : (given : Pending) → TodoReadsIn p among (adding q given ++ rest)
    adding-reads given = go given.conjuncts
      where
        go : (cs : Conjuncts Term) → TodoReadsIn p among (unless_none cs (add q given) ++ rest)
        go none = h
        go (also c cs) = h

    -- with conjuncts to show in front
    pub taking-reads : (want : Pending) (names : List (List ℕ)) → TodoReadsIn p among (taking q want names ++ rest)
    taking-reads want names = go want.conjuncts
      where
        go : (cs : Conjuncts Term) → TodoReadsIn p among (unless_none cs (take q want names) ++ rest)
        go none = h
        go (also c cs) = h

  -- with assertions to show, one after the other, and then the end
  pub each-reads : (among : Var → Bool) (q : Place) (to : Expr → Term) (owed : List Assertion)
      → TodoReadsIn p among (to_take_each q to owed (end q ∷ []))
  each-reads among q to [] = tt
  each-reads among q to (a ∷ owed) =
      taking-reads among q (to_take_each q to owed (end q ∷ [])) (each-reads among q to owed)
      (pending_assertion to a) a.names

  -- with the commands of a block in front
  pub run-reads : (among : Var → Bool) (b : Block) (rest : List Item) → BlockReadsIn p among b
      → TodoReadsIn p among rest → TodoReadsIn p among (to_run b ++ rest)
  run-reads among done rest b h = h
  run-reads among (then c cs) rest b h = (b.0, run-reads among cs rest b.1 h)
