-- The laws of heaps and assertions: each from the lemmas of its subject.
-- Names: each lemma has the name of the law's function.
use Rattle.std.proofs.Common.{refl, sym}
use Rattle.sf_base.specs.declared.value.Value.TheVariants.{Nil as nil}
use Rattle.sf_base.proofs.HeapSplits.{one-there}
use Rattle.sf_base.proofs.MapSplits.{splits-assoc_left, splits-assoc_right, splits-cancel_left, splits-comm}
use Rattle.sf_core.proofs.Assertions.Determined.{determined-learns, determined-precise, order-fixes}
use Rattle.sf_core.proofs.Assertions.Orders.{order-first}
use Rattle.sf_core.proofs.Assertions.Sat.{sat-finite, sat-same_variables}
use Rattle.sf_core.proofs.Assertions.Segments.{seg-append, seg-no_end, seg-precise}
use Rattle.sf_core.proofs.Assertions.DoubleSegments.{dseg-append, dseg-empty, dseg-last, dseg-no_end, dseg-precise, dseg-snoc}
use Rattle.sf_core.proofs.Assertions.Trees.{tree-acyclic, tree-finite, tree-precise, tree-unshared}
use Rattle.sf_core.specs.Assertions.Sat.{empty, value}
use Rattle.sf_core.specs.Checked.Assertions.Laws.{AnyReadyConjunctMayComeFirst, DeterminedHasOneFootprint, DoublyLinkedSegmentEndsInItsLastCell, DoublyLinkedSegmentGrowsAtItsEnd, DoublyLinkedSegmentHasNoCellAtItsEnd, DoublyLinkedSegmentMayBeEmpty, DoublyLinkedSegmentsCompose, EachExistentialBecomesKnown, OrderedConjunctsArePrecise, PointsToHasExactlyOneCell, SatSpeaksOfOccurringVariables, SatisfyingHeapsAreFinite, SegmentHasNoCellAtItsEnd, SegmentsAndTreesArePrecise, SegmentsCompose, TreeIsFiniteAndAcyclic, TreeSharesNothing, UnionCancels, UnionIsAssociative, UnionIsCommutative}

pub union_of_heaps_is_commutative : UnionIsCommutative
unfolding UnionIsCommutative
union_of_heaps_is_commutative heap one two s = splits-comm s

pub union_of_heaps_is_associative : UnionIsAssociative
unfolding UnionIsAssociative
union_of_heaps_is_associative heap one two three = (
  λ s. let t = splits-assoc_right s.1 s.2 in (_, t.0, t.1),
  λ s. let t = splits-assoc_left s.1 s.2 in (_, t.0, t.1),
)

pub union_of_heaps_cancels : UnionCancels
unfolding UnionCancels
union_of_heaps_cancels heap one two three s t = splits-cancel_left s t

pub points_to_has_exactly_one_cell : PointsToHasExactlyOneCell
unfolding PointsToHasExactlyOneCell
points_to_has_exactly_one_cell place root fields vars some heap d = (d.0, d.2, λ other. one-there d.3 other)

pub segment_has_no_cell_at_its_end : SegmentHasNoCellAtItsEnd
unfolding SegmentHasNoCellAtItsEnd
segment_has_no_cell_at_its_end place next from to vars some heap location d e = seg-no_end location e d

pub segments_compose : SegmentsCompose
unfolding SegmentsCompose
segments_compose next from middle to heap one two s n d e = seg-append n s d e

pub doubly_linked_segment_has_no_cell_at_its_end : DoublyLinkedSegmentHasNoCellAtItsEnd
unfolding DoublyLinkedSegmentHasNoCellAtItsEnd
doubly_linked_segment_has_no_cell_at_its_end next back from before last to heap location d e =
    dseg-no_end location e d

pub doubly_linked_segment_may_be_empty : DoublyLinkedSegmentMayBeEmpty
unfolding DoublyLinkedSegmentMayBeEmpty
doubly_linked_segment_may_be_empty next back from before last heap =
    (λ d. dseg-empty refl d, λ e. empty refl e.0 e.1)

pub doubly_linked_segments_compose : DoublyLinkedSegmentsCompose
unfolding DoublyLinkedSegmentsCompose
doubly_linked_segments_compose next back from before middle far last to heap one two s n d e =
    dseg-append n s d e

pub doubly_linked_segment_ends_in_its_last_cell : DoublyLinkedSegmentEndsInItsLastCell
unfolding DoublyLinkedSegmentEndsInItsLastCell
doubly_linked_segment_ends_in_its_last_cell next back from before last to heap n d =
    let l = dseg-last n d in (l.location, l.here, l.one, l.rest, l.is, l.cell, l.splits, l.next_to, l.front)

pub doubly_linked_segment_grows_at_its_end : DoublyLinkedSegmentGrowsAtItsEnd
unfolding DoublyLinkedSegmentGrowsAtItsEnd
doubly_linked_segment_grows_at_its_end next back from before to heap rest one location here n i s o e d =
    dseg-snoc location here n i s d o refl e

pub tree_is_finite_and_acyclic : TreeIsFiniteAndAcyclic
unfolding TreeIsFiniteAndAcyclic
tree_is_finite_and_acyclic place left right root vars some heap d = (tree-finite d, tree-acyclic d)

pub tree_shares_nothing : TreeSharesNothing
unfolding TreeSharesNothing
tree_shares_nothing place left right root vars some heap d = tree-unshared d

pub satisfying_heaps_are_finite : SatisfyingHeapsAreFinite
unfolding SatisfyingHeapsAreFinite
satisfying_heaps_are_finite assertion vars some heap d = sat-finite (value vars) assertion some heap d

pub segments_and_trees_are_precise : SegmentsAndTreesArePrecise
unfolding SegmentsAndTreesArePrecise
segments_and_trees_are_precise = (seg-precise, dseg-precise, tree-precise)

pub sat_speaks_of_occurring_variables : SatSpeaksOfOccurringVariables
unfolding SatSpeaksOfOccurringVariables
sat_speaks_of_occurring_variables a before after some heap e = (
  sat-same_variables a before after some heap e,
  sat-same_variables a after before some heap (λ x i. sym (e x i)),
)

pub determined_has_one_footprint : DeterminedHasOneFootprint
unfolding DeterminedHasOneFootprint
determined_has_one_footprint a vars some o = determined-precise a (value vars) some o

pub ordered_conjuncts_are_precise : OrderedConjunctsArePrecise
unfolding OrderedConjunctsArePrecise
ordered_conjuncts_are_precise known cs vars here there heap one two other another o a m n d e =
    order-fixes (value vars) known cs here there heap one two other another o a m n d e

pub each_existential_becomes_known : EachExistentialBecomesKnown
unfolding EachExistentialBecomesKnown
each_existential_becomes_known made cs o n i = determined-learns (λ e. nil) cs o n i

pub any_ready_conjunct_may_come_first : AnyReadyConjunctMayComeFirst
unfolding AnyReadyConjunctMayComeFirst
any_ready_conjunct_may_come_first known cs rest c l k o = order-first known cs o c rest l k
