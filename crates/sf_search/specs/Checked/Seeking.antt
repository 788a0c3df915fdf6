-- What is looked for at a term: a cell, a segment, a tree, a doubly linked segment from either end, or a segment of
-- which all terms are known.
-- Ordinary: one case a form.
use Rattle.std.specs.Prelude.{Option}
use Rattle.std.specs.Option.{option_map}
use Rattle.sf_consume.specs.Subtract.{is_same_shape}
use Rattle.sf_search.specs.Strategy.{double_at, last_at, segment_at, tree_at, which}
use Rattle.sf_sym.specs.declared.atom.Atom.{Atom}
use Rattle.sf_sym.specs.declared.atom.Atom.TheVariants.{Ls, Dll}
use Rattle.sf_sym.specs.declared.atom.Kind.{Kind}
use Rattle.sf_sym.specs.declared.atom.Kind.TheVariants as kind
use Rattle.sf_sym.specs.declared.term.Term.{Term}
use Rattle.sf_sym.specs.declared.term.Term.TheVariants.{Nil}
use Rattle.sf_sym.specs.Cells.{fields_at}

-- where an atom leads that is what is sought there: a segment to its end, and all others to nil
abbrev pub sought_at : Kind → Term → Atom → Option Term
sought_at kind.Cell t x = option_map (λ f. Nil) (fields_at x t)
sought_at kind.Segment t x = segment_at t x
sought_at kind.Tree t x = option_map (λ y. Nil) (tree_at t x)
sought_at (kind.SegmentTo u) t x = option_map (λ y. Nil) (which (λ y. is_same_shape y (Ls t u)) x)
sought_at kind.Double t x = option_map (λ y. y.2) (double_at t x)
sought_at kind.DoubleLast t x = option_map (λ y. y.1) (last_at t x)
sought_at (kind.DoubleTo q m w) t x = option_map (λ y. Nil) (which (λ y. is_same_shape y (Dll t q m w)) x)
