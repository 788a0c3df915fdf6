-- Drop: an empty segment or tree has no cell.
use Rattle.std.proofs.Common.{◌≡◌, ℕ, Bool, true, false, cond, [], ◌∷◌, Option, Some, None, refl, ap, arith}
use Rattle.std.proofs.lemmas.Option.{option_and_then_some}
use Rattle.sf_base.proofs.Bools.{and-left}
use Rattle.sf_base.proofs.HeapSplits.{star-drop_left, star-map_left}
use Rattle.sf_base.specs.declared.ids.FieldId.{FieldId}
use Rattle.sf_base.specs.declared.value.Value.{Value}
use Rattle.sf_base.specs.declared.value.Value.TheVariants.{Nil as nil}
use Rattle.sf_base.specs.HeapStore.{Heap, IsEmpty}
use Rattle.sf_core.proofs.Assertions.DoubleSegments.{dseg-empty}
use Rattle.sf_core.proofs.Assertions.Segments.{seg-empty}
use Rattle.sf_core.proofs.Assertions.Trees.{tree-from_nil}
use Rattle.sf_core.specs.declared.fields.Links.{Links}
use Rattle.sf_sym.specs.Checked.Lemmas.Keeping.{before-same, kept-one}
use Rattle.sf_sym.specs.Known.{is_nothing}
use Rattle.sf_normal.specs.Checked.Laws.{DropKeepsGoals}
use Rattle.sf_sym.specs.Checked.Lemmas.AtomLists.{atoms-out, without-all}
use Rattle.sf_sym.specs.Below.{AllInAtom, IsBelow}
use Rattle.sf_sym.specs.Cells.{atom_at, without}
use Rattle.sf_sym.specs.declared.atom.Atom.{Atom}
use Rattle.sf_sym.specs.declared.atom.Atom.TheVariants.{Points, Ls, Tree, Dll}
use Rattle.sf_sym.specs.declared.term.Term.TheVariants.{Nil}
use Rattle.sf_sym.specs.Goal.{at_state}
use Rattle.sf_sym.specs.Holds.{term_value, DsegAlong, SegAlong, TreeAlong, AtomHolds}
use Rattle.sf_sym.specs.Checked.Laws.{HoldsAsBefore, KeptWith}
use Rattle.sf_sym.specs.Checked.Lemmas.{same_term_is}
use Rattle.sf_sym.specs.Tests.{same_term}

seg_along-empty : (next : Option FieldId) (from to : Value) (heap : Heap) → from ≡ to
    → SegAlong next from to heap → IsEmpty heap
seg_along-empty None from to heap e s = absurd s
seg_along-empty (Some next) from to heap e s = seg-empty e s

-- a doubly linked one has its last cell before it then
pub dseg_along-empty : (next back : Option FieldId) (from before last to : Value) (heap : Heap) → from ≡ to
    → DsegAlong next back from before last to heap → (before ≡ last) × IsEmpty heap
dseg_along-empty None back from before last to heap e s = absurd s
dseg_along-empty (Some next) None from before last to heap e s = absurd s
dseg_along-empty (Some next) (Some back) from before last to heap e s = dseg-empty e s

tree_along-empty : (left right : Option FieldId) (root : Value) (heap : Heap) → root ≡ nil
    → TreeAlong left right root heap → IsEmpty heap
tree_along-empty None right root heap e s = absurd s
tree_along-empty (Some left) None root heap e s = absurd s
tree_along-empty (Some left) (Some right) root heap e s = tree-from_nil e s

-- an atom that is nothing has no cell
pub nothing-empty : (w : ℕ → Value) (links : Links) (x : Atom) (heap : Heap) → is_nothing x ≡ true
    → AtomHolds w links x heap → IsEmpty heap
nothing-empty w links (Points t fields) heap i s = absurd (cc)
nothing-empty w links (Ls t u) heap i s =
    seg_along-empty links.tl (term_value w t) (term_value w u) heap (ap (term_value w) (same_term_is t u i)) s
nothing-empty w links (Tree t) heap i s =
    tree_along-empty links.l links.r (term_value w t) heap (ap (term_value w) (same_term_is t Nil i)) s
nothing-empty w links (Dll v p l u) heap i s =
    (dseg_along-empty links.tl links.pv (term_value w v) (term_value w p) (term_value w l) (term_value w u) heap
    (ap (term_value w) (same_term_is v u (and-left (same_term v u) (same_term p l) i))) s).1

pub drop_keeps_goals : DropKeepsGoals
unfolding DropKeepsGoals
drop_keeps_goals a goal left shape row =
    option_and_then_some
    (λ x. cond (is_nothing x)
    (Some (at_state goal (record goal.state { atoms = without goal.state.atoms a }) ∷ [])) None)
    (atom_at goal.state.atoms a) left row
    (λ x at e. go x at (is_nothing x) refl e)
  where
    go : (x : Atom) → atom_at goal.state.atoms a ≡ Some x → (b : Bool) → is_nothing x ≡ b
        →
        cond b (Some (at_state goal (record goal.state { atoms = without goal.state.atoms a }) ∷ [])) None
        ≡ Some left
        → KeptWith goal left HoldsAsBefore
    go x at true i e = kept-one HoldsAsBefore goal (at_state goal (record goal.state { atoms = without goal.state.atoms a }))
        left e (record {
          below = record {
            state = record {
              vars = shape.below.state.vars;
              apart = shape.below.state.apart;
              atoms = without-all (AllInAtom (IsBelow goal.state.next_sym)) goal.state.atoms a shape.below.state.atoms;
              taken = shape.below.state.taken;
            };
            todo = shape.below.todo;
          };
          symbols = omega arith;
          links = refl;
          formed = λ f. f;
        })
        (λ w e free taken h. before-same w goal (record goal.state { atoms = without goal.state.atoms a }) e
        free taken (record {
          vars = h.vars;
          apart = h.apart;
          disjoint = h.disjoint;
          there = star-map_left
              (λ part d. star-drop_left
              (star-map_left (λ whole s. nothing-empty w goal.state.links x whole i s)
              (atoms-out w goal.state.links goal.state.atoms a x part at d))) h.there;
          gone = h.gone;
        }))
    go x at false i e = absurd (cc)
