-- What the text of a failure says is wanted: what the first thing to do asks for.
-- Berdine, Calcagno, O'Hearn, "Symbolic Execution with Separation Logic" (2005), section 5: what is
-- left to show.
use Rattle.std.specs.Prelude.{◌++◌, cond, get_or, Option, Some, None, List, [], ◌∷◌, codes}
use Rattle.std.specs.Option.{option_and_then, option_map, option_or}
use Rattle.sf_base.specs.declared.ids.FieldId.{FieldId}
use Rattle.sf_consume.specs.Misfit.{first_misfit}
use Rattle.sf_consume.specs.Subtract.{first_fit, four}
use Rattle.sf_core.specs.declared.assertion.Operand.{Operand}
use Rattle.sf_core.specs.declared.assertion.Operand.TheVariants.{Known, Exists}
use Rattle.sf_core.specs.declared.assertion.Test.{Test}
use Rattle.sf_core.specs.declared.assertion.Test.TheVariants.{True, Equal, Differ}
use Rattle.sf_core.specs.declared.command.Expr.{Expr}
use Rattle.sf_core.specs.Program.Syntax.{Command, Conjunct, Program, choose, dispose, holds, look_up, mutate, none, also, points, segment, doubly, tree, Conjuncts}
use Rattle.sf_sym.specs.declared.atom.Atom.{Atom}
use Rattle.sf_sym.specs.declared.atom.Atom.TheVariants.{Points, Ls, Tree, Dll}
use Rattle.sf_sym.specs.declared.atom.Numbered.{Numbered}
use Rattle.sf_sym.specs.declared.term.Term.{Term}
use Rattle.sf_sym.specs.Cells.{fields_at}
use Rattle.sf_sym.specs.Decided.{term_of}
use Rattle.sf_sym.specs.Fields.{field_term}
use Rattle.sf_sym.specs.Goal.{Item, run, take}
use Rattle.sf_sym.specs.State.{State, term}
use Rattle.sf_sym.specs.Tests.{same_term}
use Rattle.sf_proof.specs.ProofText.{Text, term_text}
use Rattle.sf_sym.specs.declared.stuck.Stuck.{Stuck}
use Rattle.sf_sym.specs.declared.stuck.Stuck.TheVariants.{NotEqual}
use Rattle.sf_report.specs.declared.wanted.Bound.{Bound}
use Rattle.sf_report.specs.Names.{field_text}
use Rattle.sf_report.specs.Pieces.{cell_text, double_text, segment_text, tree_text}

-- what existentials stand for, and their names
pub record Scope : Type 0 where
  pub bindings : List (Option Term)
  pub names : List Text

-- the same of the code
abbrev pub scope_of : Bound → Scope
scope_of bound = record { bindings = bound.terms.now; names = bound.names.now }

-- the term, or else the name of an existential that has none
abbrev pub bound_text : Option Term → (name : Text) → Text
bound_text None name = name
bound_text (Some t) name = term_text t

-- an operand
abbrev pub operand_text : Scope → Operand Term → Text
operand_text at (Known t) = term_text t
operand_text at (Exists n) = bound_text (get_or at.bindings n None) (get_or at.names n [])

-- a test
abbrev pub test_text : Scope → Test (Operand Term) → Text
test_text at True = codes "true"
test_text at (Equal x y) = operand_text at x ++ codes " == " ++ operand_text at y
test_text at (Differ x y) = operand_text at x ++ codes " != " ++ operand_text at y

-- a wanted field of a cell
abbrev pub wanted_text : Program → Scope → FieldId × Operand Term → Text
wanted_text p at f = field_text p f.0 ++ codes ":" ++ operand_text at f.1

-- a conjunct; of a choice its test
abbrev pub conjunct_text : Program → Scope → Conjunct Term → Text
conjunct_text p at (holds q test) = test_text at test
conjunct_text p at (points q x fields) = cell_text (wanted_text p at) (operand_text at x) fields
conjunct_text p at (segment q next x y) = segment_text (operand_text at x) (operand_text at y)
conjunct_text p at (doubly q next back x b l y) =
    double_text (operand_text at x) (operand_text at b) (operand_text at l) (operand_text at y)
conjunct_text p at (tree q left right x) = tree_text (operand_text at x)
conjunct_text p at (choose q test this that) = test_text at test

-- the fields of the first cell at a term
abbrev pub first_cell : List Numbered → Term → Option (List (FieldId × Term))
first_cell [] t = None
first_cell (a ∷ more) t = option_or (fields_at a.atom t) (first_cell more t)

-- what is there, where it is known
abbrev pub there_text : Option Term → Text
there_text None = codes "?"
there_text (Some t) = term_text t

-- what meets in the first field of a wanted cell that doesn't fit the first cell there, or else
-- another text
abbrev pub misfit_text : Option (Option Term × Term) → Text → Text
misfit_text None text = text
misfit_text (Some m) text = there_text m.0 ++ codes " == " ++ term_text m.1

-- what meets in the first field that doesn't fit, if there is a cell and one doesn't
abbrev pub misfit_at : State → List (Option Term) → Operand Term → List (FieldId × Operand Term)
    → Option (Option Term × Term)
misfit_at s bindings x fields =
    option_and_then (λ cell. first_misfit (first_fit s cell bindings) fields)
    (option_and_then (first_cell s.atoms) (term_of bindings x))

-- what stands before a doubly linked segment that is at the term
abbrev pub before_at : Atom → Term → Option Term
before_at (Points v fields) t = None
before_at (Ls v u) t = None
before_at (Tree v) t = None
before_at (Dll v p l u) t = cond (same_term v t) (Some p) None

-- what stands before the first doubly linked segment at a term
abbrev pub first_before : List Numbered → Term → Option Term
first_before [] t = None
first_before (a ∷ more) t = option_or (before_at a.atom t) (first_before more t)

-- what stands before a wanted doubly linked segment, and what is to: where the first cell at its root leads back to,
-- which may not be known, or else what stands before the first segment there
abbrev pub met_before : State → (back : FieldId) → (v p : Term) → Option (Option Term × Term)
met_before s back v p =
    option_or (option_map (λ fields. (field_term fields back, p)) (first_cell s.atoms v))
    (option_map (λ q. (Some q, p)) (first_before s.atoms v))

-- two terms that should be one for a doubly linked segment: where it ends where it begins, what stands before it and
-- its last cell; else what stands before it and what is to
abbrev pub misfit_of_double : State → (back : FieldId) → Term × Term × Term × Term → Option (Option Term × Term)
misfit_of_double s back d = cond (same_term d.0 d.3) (Some (Some d.1, d.2)) (met_before s back d.0 d.1)

abbrev pub double_misfit : State → List (Option Term) → (back : FieldId) → (x b l y : Operand Term)
    → Option (Option Term × Term)
double_misfit s bindings back x b l y = option_and_then (misfit_of_double s back) (four bindings x b l y)

-- what the first conjunct wants: where two terms should be one in a cell or a doubly linked segment, these two; else
-- the conjunct
abbrev pub at_conjunct : Program → Stuck → State → Scope → Conjunct Term → Text
at_conjunct p NotEqual s at (points q x fields) =
    misfit_text (misfit_at s at.bindings x fields) (conjunct_text p at (points q x fields))
at_conjunct p NotEqual s at (doubly q next back x b l y) =
    misfit_text (double_misfit s at.bindings back x b l y) (conjunct_text p at (doubly q next back x b l y))
at_conjunct p kind s at c = conjunct_text p at c

-- the expression at whose value a command wants a cell
abbrev pub address : Command → Option Expr
address (look_up p x e f) = Some e
address (mutate p e f d) = Some e
address (dispose p e) = Some e
address _ = None

-- a wanted cell, or the empty heap where none is wanted
abbrev pub address_text : State → Option Expr → Text
address_text s None = codes "emp"
address_text s (Some e) = codes "cell " ++ term_text (term s.vars e)

-- what the first of the conjuncts wants
abbrev pub first_text : Program → Stuck → State → Scope → Conjuncts Term → Text
first_text p kind s at none = codes "emp"
first_text p kind s at (also c cs) = at_conjunct p kind s at c

-- what the first thing to do wants
abbrev pub want_text : Program → Stuck → State → List Item → Text
want_text p kind s (run c ∷ todo) = address_text s (address c)
want_text p kind s (take q want names ∷ todo) =
    first_text p kind s (record { bindings = want.bindings; names = names }) want.conjuncts
want_text p kind s _ = codes "emp"
