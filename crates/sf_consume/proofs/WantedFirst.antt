-- The first conjunct that is wanted, by its parts.
-- Names: `KIND-is` of a conjunct of that kind.
use Rattle.std.proofs.Common.{◌≡◌, List, Some, ap}
use Rattle.std.proofs.lemmas.Option.{same_Some}
use Rattle.sf_base.specs.declared.ids.FieldId.{FieldId}
use Rattle.sf_base.specs.declared.place.Place.{Place}
use Rattle.sf_core.specs.declared.assertion.Operand.{Operand}
use Rattle.sf_core.specs.declared.assertion.Test.TheVariants.{True, Equal, Differ}
use Rattle.sf_core.specs.Program.Syntax.{Conjunct, holds, points, segment, doubly, tree, choose}
use Rattle.sf_consume.specs.declared.wanted.WantedDouble.{WantedDouble}
use Rattle.sf_consume.specs.declared.wanted.WantedList.{WantedList}
use Rattle.sf_consume.specs.declared.wanted.WantedTree.{WantedTree}
use Rattle.sf_consume.specs.Subtract.{equality, inequality, wanted_cell, wanted_double, wanted_list, wanted_tree}
use Rattle.sf_sym.specs.declared.term.Term.{Term}

-- an equality, and an inequality
pub equality-is : (c : Conjunct Term) (e : Operand Term × Operand Term) → equality c ≡ Some e
    → (q : Place) × (c ≡ holds q (Equal e.0 e.1))
equality-is (holds q True) e i = absurd (cc)
equality-is (holds q (Equal x y)) e i =
    (q, ap (λ z. holds q (Equal z.0 z.1)) (same_Some (x, y) e i))
equality-is (holds q (Differ x y)) e i = absurd (cc)
equality-is (points q x fs) e i = absurd (cc)
equality-is (segment q next x y) e i = absurd (cc)
equality-is (doubly q next back x b l y) e i = absurd (cc)
equality-is (tree q left right x) e i = absurd (cc)
equality-is (choose q t this that) e i = absurd (cc)

pub inequality-is : (c : Conjunct Term) (e : Operand Term × Operand Term) → inequality c ≡ Some e
    → (q : Place) × (c ≡ holds q (Differ e.0 e.1))
inequality-is (holds q True) e i = absurd (cc)
inequality-is (holds q (Equal x y)) e i = absurd (cc)
inequality-is (holds q (Differ x y)) e i =
    (q, ap (λ z. holds q (Differ z.0 z.1)) (same_Some (x, y) e i))
inequality-is (points q x fs) e i = absurd (cc)
inequality-is (segment q next x y) e i = absurd (cc)
inequality-is (doubly q next back x b l y) e i = absurd (cc)
inequality-is (tree q left right x) e i = absurd (cc)
inequality-is (choose q t this that) e i = absurd (cc)

-- a cell
pub cell-is : (c : Conjunct Term) (r : Operand Term × List (FieldId × Operand Term)) → wanted_cell c ≡ Some r
    → (q : Place) × (c ≡ points q r.0 r.1)
cell-is (holds q t) r e = absurd (cc)
cell-is (points q x fs) r e = (q, ap (λ z. points q z.0 z.1) (same_Some (x, fs) r e))
cell-is (segment q next x y) r e = absurd (cc)
cell-is (doubly q next back x b l y) r e = absurd (cc)
cell-is (tree q left right x) r e = absurd (cc)
cell-is (choose q t this that) r e = absurd (cc)

-- a segment
pub list-is : (c : Conjunct Term) (k : WantedList) → wanted_list c ≡ Some k
    → c ≡ segment k.place k.next k.from k.to
list-is (holds q t) k e = absurd (cc)
list-is (points q x fs) k e = absurd (cc)
list-is (segment q next x y) k e =
    ap (λ z. segment z.place z.next z.from z.to)
    (same_Some (record { place = q; next = next; from = x; to = y }) k e)
list-is (doubly q next back x b l y) k e = absurd (cc)
list-is (tree q left right x) k e = absurd (cc)
list-is (choose q t this that) k e = absurd (cc)

-- a tree
pub tree-is : (c : Conjunct Term) (k : WantedTree) → wanted_tree c ≡ Some k
    → c ≡ tree k.place k.left k.right k.root
tree-is (holds q t) k e = absurd (cc)
tree-is (points q x fs) k e = absurd (cc)
tree-is (segment q next x y) k e = absurd (cc)
tree-is (doubly q next back x b l y) k e = absurd (cc)
tree-is (tree q left right x) k e =
    ap (λ z. tree z.place z.left z.right z.root)
    (same_Some (record { place = q; left = left; right = right; root = x }) k e)
tree-is (choose q t this that) k e = absurd (cc)

-- a doubly linked segment
pub double-is : (c : Conjunct Term) (k : WantedDouble) → wanted_double c ≡ Some k
    → c ≡ doubly k.place k.next k.back k.from k.before k.last k.to
double-is (holds q t) k e = absurd (cc)
double-is (points q x fs) k e = absurd (cc)
double-is (segment q next x y) k e = absurd (cc)
double-is (doubly q next back x b l y) k e =
    ap (λ z. doubly z.place z.next z.back z.from z.before z.last z.to)
    (same_Some (record { place = q; next = next; back = back; from = x; before = b; last = l; to = y }) k e)
double-is (tree q left right x) k e = absurd (cc)
double-is (choose q t this that) k e = absurd (cc)
