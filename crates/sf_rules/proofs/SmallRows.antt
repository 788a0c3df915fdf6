-- The examples of rules: the table as a function computes each.
use Rattle.std.proofs.Common.{◌≡◌, Some, None, List, refl}
use Rattle.sf_rules.proofs.RuleLaws.{none_leaves}
use Rattle.sf_rules.specs.Checked.Lemmas.RowRules.{row-leaves}
use Rattle.sf_rules.specs.Checked.Rows.Whole.{row}
use Rattle.sf_rules.specs.Rules.{HasNoRule, Leaves}
use Rattle.sf_rules.specs.Setting.{Setting}
use Rattle.sf_sym.specs.declared.tag.Tag.{Tag}
use Rattle.sf_sym.specs.Goal.{Goal}
use Rattle.sf_rules.specs.Checked.Examples.{NoCellIsAtNil, NumbersDontRunOut, EmptyListsGo, ListsFromNilAreEmpty, SplitReplacesTheGreater, UnrolledPartsHaveACell, AssignedVariablesHaveTheTerm, LookedUpFieldsAreKnown, MutatedFieldsHaveTheTerm, NewCellsAreFresh, DisposedCellsGo, DecidedBranchesAreLeft}
use Rattle.sf_rules.specs.Checked.ExamplesOfBodies.{CallsLeaveThreeItems, ForksLeaveFiveItems, GivenIsGone, RegionsBeginWithTheInvariant, RegionsEndWithTheInvariant, LoopsBeginWithTheInvariant, LoopsGoOnceAround, LoopsGiveNoTerms, BodiesEndWithTheInvariant, ReturnsShowThePostcondition, NothingIsLeftAtTheEnd}
use Rattle.sf_rules.specs.Checked.ExamplesOfInit.{HoldersBeginWithThePrecondition, InitBeginsWithNil, InitShowsEachInvariant}
use Rattle.sf_rules.specs.Checked.ExamplesOfDoubles.{EmptyDoublesGo, DoublesThatAreEmptyHaveOneEnd, UnrolledDoublesHaveACell, DoublesHaveALastCell, AddedDoublesNameTheirEnds, EmptyDoublesNeedNothing, ExactDoublesAreHandedOver, HeadGoesOnBothWays, JoinGoesOnBothWays}
use Rattle.sf_rules.specs.Checked.ExamplesOfConjuncts.{ChoicesAreNotAdded, AddedCellsNameTheirFields, AddedTestsAreKnown, ChosenBranchesTakeTheirPlace, BoundExistentialsHaveTheTerm, OneTermIsTheSame, KnownTermsAreApart, WantedCellsAreHandedOver, EmptyPartsNeedNothing, ExactPartsAreHandedOver, HeadGoesOn, JoinGoesOn, NodeGoesOn}

-- what the function leaves is left by a rule, and where it leaves nothing there is none
yes : {d : Setting} {g : Goal} {tag : Tag} {left : List Goal} → row d g tag ≡ Some left → Leaves d g tag left
yes {d} {g} {tag} {left} e = row-leaves d g tag left e

no : {d : Setting} {g : Goal} {tag : Tag} → row d g tag ≡ None → HasNoRule d g tag
no {d} {g} {tag} e = none_leaves d g tag e

pub no_cell_is_at_nil : NoCellIsAtNil
unfolding NoCellIsAtNil
no_cell_is_at_nil d = (yes refl, no refl)

pub empty_lists_go : EmptyListsGo
unfolding EmptyListsGo
empty_lists_go d = (yes refl, no refl)

pub lists_from_nil_are_empty : ListsFromNilAreEmpty
unfolding ListsFromNilAreEmpty
lists_from_nil_are_empty d = (yes refl, no refl, no refl)

pub split_replaces_the_greater : SplitReplacesTheGreater
unfolding SplitReplacesTheGreater
split_replaces_the_greater d = (yes refl, no refl, no refl, no refl)

pub unrolled_parts_have_a_cell : UnrolledPartsHaveACell
unfolding UnrolledPartsHaveACell
unrolled_parts_have_a_cell d = (yes refl, yes refl, no refl, no refl, no refl, no refl)

pub assigned_variables_have_the_term : AssignedVariablesHaveTheTerm
unfolding AssignedVariablesHaveTheTerm
assigned_variables_have_the_term d = yes refl

pub looked_up_fields_are_known : LookedUpFieldsAreKnown
unfolding LookedUpFieldsAreKnown
looked_up_fields_are_known d = (yes refl, yes refl, no refl, no refl)

pub mutated_fields_have_the_term : MutatedFieldsHaveTheTerm
unfolding MutatedFieldsHaveTheTerm
mutated_fields_have_the_term d = (yes refl, no refl)

pub new_cells_are_fresh : NewCellsAreFresh
unfolding NewCellsAreFresh
new_cells_are_fresh d = yes refl

pub disposed_cells_go : DisposedCellsGo
unfolding DisposedCellsGo
disposed_cells_go d = (yes refl, no refl, no refl)

pub decided_branches_are_left : DecidedBranchesAreLeft
unfolding DecidedBranchesAreLeft
decided_branches_are_left d = ((yes refl, no refl), (yes refl, no refl), no refl, no refl)

pub calls_leave_three_items : CallsLeaveThreeItems
unfolding CallsLeaveThreeItems
calls_leave_three_items = (yes refl, yes refl, no refl)

pub forks_leave_five_items : ForksLeaveFiveItems
unfolding ForksLeaveFiveItems
forks_leave_five_items = (yes refl, no refl, no refl)

pub given_is_gone : GivenIsGone
unfolding GivenIsGone
given_is_gone d = yes refl

pub regions_begin_with_the_invariant : RegionsBeginWithTheInvariant
unfolding RegionsBeginWithTheInvariant
regions_begin_with_the_invariant = (yes refl, no refl)

pub regions_end_with_the_invariant : RegionsEndWithTheInvariant
unfolding RegionsEndWithTheInvariant
regions_end_with_the_invariant = (yes refl, no refl)

pub loops_begin_with_the_invariant : LoopsBeginWithTheInvariant
unfolding LoopsBeginWithTheInvariant
loops_begin_with_the_invariant = yes refl

pub loops_go_once_around : LoopsGoOnceAround
unfolding LoopsGoOnceAround
loops_go_once_around = yes refl

pub loops_give_no_terms : LoopsGiveNoTerms
unfolding LoopsGiveNoTerms
loops_give_no_terms = yes refl

pub bodies_end_with_the_invariant : BodiesEndWithTheInvariant
unfolding BodiesEndWithTheInvariant
bodies_end_with_the_invariant = yes refl

pub returns_show_the_postcondition : ReturnsShowThePostcondition
unfolding ReturnsShowThePostcondition
returns_show_the_postcondition = yes refl

pub init_begins_with_nil : InitBeginsWithNil
unfolding InitBeginsWithNil
init_begins_with_nil = refl

pub holders_begin_with_the_precondition : HoldersBeginWithThePrecondition
unfolding HoldersBeginWithThePrecondition
holders_begin_with_the_precondition = refl

pub init_shows_each_invariant : InitShowsEachInvariant
unfolding InitShowsEachInvariant
init_shows_each_invariant = yes refl

pub nothing_is_left_at_the_end : NothingIsLeftAtTheEnd
unfolding NothingIsLeftAtTheEnd
nothing_is_left_at_the_end d = (yes refl, no refl)

pub added_cells_name_their_fields : AddedCellsNameTheirFields
unfolding AddedCellsNameTheirFields
added_cells_name_their_fields d = (yes refl, yes refl)

pub added_tests_are_known : AddedTestsAreKnown
unfolding AddedTestsAreKnown
added_tests_are_known d = (yes refl, yes refl, yes refl)

pub chosen_branches_take_their_place : ChosenBranchesTakeTheirPlace
unfolding ChosenBranchesTakeTheirPlace
chosen_branches_take_their_place d = (yes refl, yes refl, yes refl, yes refl, no refl)

pub bound_existentials_have_the_term : BoundExistentialsHaveTheTerm
unfolding BoundExistentialsHaveTheTerm
bound_existentials_have_the_term d = (yes refl, yes refl, no refl, no refl)

pub one_term_is_the_same : OneTermIsTheSame
unfolding OneTermIsTheSame
one_term_is_the_same d = (yes refl, no refl)

pub known_terms_are_apart : KnownTermsAreApart
unfolding KnownTermsAreApart
known_terms_are_apart d = (yes refl, no refl)

pub wanted_cells_are_handed_over : WantedCellsAreHandedOver
unfolding WantedCellsAreHandedOver
wanted_cells_are_handed_over d = (yes refl, yes refl, no refl, no refl, no refl, yes refl, no refl)

pub empty_parts_need_nothing : EmptyPartsNeedNothing
unfolding EmptyPartsNeedNothing
empty_parts_need_nothing d = (yes refl, yes refl, no refl, no refl)

pub exact_parts_are_handed_over : ExactPartsAreHandedOver
unfolding ExactPartsAreHandedOver
exact_parts_are_handed_over d = (yes refl, yes refl, no refl, no refl)

pub head_goes_on : HeadGoesOn
unfolding HeadGoesOn
head_goes_on d = (yes refl, yes refl, no refl, no refl)

pub join_goes_on : JoinGoesOn
unfolding JoinGoesOn
join_goes_on d = (yes refl, no refl, no refl)

pub node_goes_on : NodeGoesOn
unfolding NodeGoesOn
node_goes_on d = (yes refl, no refl)

pub empty_doubles_go : EmptyDoublesGo
unfolding EmptyDoublesGo
empty_doubles_go d = (yes refl, no refl, no refl)

pub doubles_that_are_empty_have_one_end : DoublesThatAreEmptyHaveOneEnd
unfolding DoublesThatAreEmptyHaveOneEnd
doubles_that_are_empty_have_one_end d = (yes refl, yes refl, no refl, no refl)

pub unrolled_doubles_have_a_cell : UnrolledDoublesHaveACell
unfolding UnrolledDoublesHaveACell
unrolled_doubles_have_a_cell d = (yes refl, no refl, no refl, no refl)

pub doubles_have_a_last_cell : DoublesHaveALastCell
unfolding DoublesHaveALastCell
doubles_have_a_last_cell d = (yes refl, no refl, no refl, no refl, no refl)

pub added_doubles_name_their_ends : AddedDoublesNameTheirEnds
unfolding AddedDoublesNameTheirEnds
added_doubles_name_their_ends d = (yes refl, yes refl)

pub empty_doubles_need_nothing : EmptyDoublesNeedNothing
unfolding EmptyDoublesNeedNothing
empty_doubles_need_nothing d = (yes refl, no refl, no refl)

pub exact_doubles_are_handed_over : ExactDoublesAreHandedOver
unfolding ExactDoublesAreHandedOver
exact_doubles_are_handed_over d = (yes refl, no refl, no refl, no refl, no refl, no refl, no refl, no refl, no refl)

pub head_goes_on_both_ways : HeadGoesOnBothWays
unfolding HeadGoesOnBothWays
head_goes_on_both_ways d = (yes refl, yes refl, no refl, no refl, no refl, no refl)

pub join_goes_on_both_ways : JoinGoesOnBothWays
unfolding JoinGoesOnBothWays
join_goes_on_both_ways d = (yes refl, no refl, no refl, no refl, no refl)

pub choices_are_not_added : ChoicesAreNotAdded
unfolding ChoicesAreNotAdded
choices_are_not_added d = no refl

pub numbers_dont_run_out : NumbersDontRunOut
unfolding NumbersDontRunOut
numbers_dont_run_out d = (no refl, no refl)
