-- Kinds: what an atom is at a term.
-- Berdine, Calcagno, O'Hearn, "Symbolic Execution with Separation Logic" (2005), section 4.
use Rattle.std.specs.Prelude.{Bool, false, ◌&&◌}
use Rattle.sf_sym.specs.declared.atom.Atom.{Atom}
use Rattle.sf_sym.specs.declared.atom.Atom.TheVariants.{Points, Ls, Tree, Dll}
use Rattle.sf_sym.specs.declared.atom.Kind.{Kind}
use Rattle.sf_sym.specs.declared.atom.Kind.TheVariants.{Cell, Segment, SegmentTo, Tree as Wood, Double, DoubleLast, DoubleTo}
use Rattle.sf_sym.specs.declared.term.Term.{Term}
use Rattle.sf_sym.specs.Tests.{same_term}

-- an atom is of that kind at the term: a cell there, a segment from there, one up to a certain
-- end, or a tree there; a doubly linked segment from there, one of which the last cell is there, or one from
-- there of which all else is certain
abbrev pub is_kind : Kind → Term → Atom → Bool
is_kind Cell t (Points v fields) = same_term v t
is_kind Cell t (Ls v w) = false
is_kind Cell t (Tree v) = false
is_kind Cell t (Dll v p l u) = false
is_kind Segment t (Points v fields) = false
is_kind Segment t (Ls v w) = same_term v t
is_kind Segment t (Tree v) = false
is_kind Segment t (Dll v p l u) = false
is_kind (SegmentTo u) t (Points v fields) = false
is_kind (SegmentTo u) t (Ls v w) = same_term v t && same_term w u
is_kind (SegmentTo u) t (Tree v) = false
is_kind (SegmentTo w) t (Dll v p l u) = false
is_kind Wood t (Points v fields) = false
is_kind Wood t (Ls v w) = false
is_kind Wood t (Tree v) = same_term v t
is_kind Wood t (Dll v p l u) = false
is_kind Double t (Points v fields) = false
is_kind Double t (Ls v w) = false
is_kind Double t (Tree v) = false
is_kind Double t (Dll v p l u) = same_term v t
is_kind DoubleLast t (Points v fields) = false
is_kind DoubleLast t (Ls v w) = false
is_kind DoubleLast t (Tree v) = false
is_kind DoubleLast t (Dll v p l u) = same_term l t
is_kind (DoubleTo q m w) t (Points v fields) = false
is_kind (DoubleTo q m w) t (Ls v x) = false
is_kind (DoubleTo q m w) t (Tree v) = false
is_kind (DoubleTo q m w) t (Dll v p l u) = same_term v t && (same_term p q && (same_term l m && same_term u w))
