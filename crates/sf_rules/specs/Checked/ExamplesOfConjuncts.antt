-- Examples of the rules of what is assumed and of what is to be shown on small goals.
-- The goals are in the manner of Berdine, Calcagno, O'Hearn, "Symbolic Execution with Separation
-- Logic" (2005), section 5.
use Rattle.std.specs.Prelude.{◌∷◌, Option, Some, None, codes, []}
use Rattle.sf_core.specs.declared.assertion.Operand.TheVariants.{Known, Exists}
use Rattle.sf_core.specs.declared.assertion.Test.TheVariants.{Equal, Differ}
use Rattle.sf_core.specs.Checked.Assertions.Examples.{place, tl, l, r}
use Rattle.sf_core.specs.Program.Syntax.{Conjunct, Conjuncts, none, also, holds, points, segment, tree, choose, Level, level}
use Rattle.sf_sym.specs.declared.atom.Atom.{Atom}
use Rattle.sf_sym.specs.declared.atom.Atom.TheVariants.{Points, Ls, Tree}
use Rattle.sf_sym.specs.declared.tag.Tag.TheVariants as t
use Rattle.sf_sym.specs.declared.term.Term.{Term}
use Rattle.sf_sym.specs.declared.term.Term.TheVariants.{Nil, Sym}
use Rattle.sf_sym.specs.Checked.Examples.{state_with}
use Rattle.sf_sym.specs.Goal.{add, take, Goal}
use Rattle.sf_sym.specs.State.{State}
use Rattle.sf_rules.specs.Checked.Examples.{ends, goal_at, numbered, only}
use Rattle.sf_rules.specs.Rules.{HasNoRule, Leaves}
use Rattle.sf_rules.specs.Setting.{Setting}

-- to assume these conjuncts first, where the existential of number 0 has that term, if any
abbrev pub assuming : State → Conjuncts Term → Option Term → Goal
assuming s cs binding =
    goal_at s (add place (record { conjuncts = cs; bindings = binding ∷ [] }) ∷ ends)

-- to show them first
abbrev pub showing : State → Conjuncts Term → Option Term → Goal
showing s cs binding =
    goal_at s
    (take place (record { conjuncts = cs; bindings = binding ∷ [] }) (codes "u" ∷ []) ∷ ends)

-- nothing more to assume or to show
abbrev pub all_done : State → Goal
all_done s = goal_at s ends

-- a cell with the existential in its field tl, and a list from that to nil
abbrev pub cell_and_list : Conjuncts Term
cell_and_list =
    also (points place (Known (Sym 0)) ((tl, Exists 0) ∷ []))
    (also (segment place tl (Exists 0) (Known Nil)) none)

-- the list alone
abbrev pub list_of_it : Conjuncts Term
list_of_it = also (segment place tl (Exists 0) (Known Nil)) none

-- add: the cell is there, its field has a fresh symbol, and that is the existential's term from
-- then on, as the list has it that is assumed next
unfoldable pub AddedCellsNameTheirFields : Type 0
AddedCellsNameTheirFields = (d : Setting)
    → (Leaves d (assuming (state_with []) cell_and_list None) t.Add
    (assuming (record (state_with []) {
      apart = (Sym 0, Nil) ∷ (Sym 0, Nil) ∷ [];
      atoms = numbered 2 (Points (Sym 0) ((tl, Sym 2) ∷ [])) ∷ [];
      next_sym = 3;
      next_atom = 3;
    }) list_of_it (Some (Sym 2)) ∷ []))
    × (Leaves d (assuming (state_with []) list_of_it (Some (Sym 1))) t.Add
    (all_done (record (state_with []) { atoms = numbered 2 (Ls (Sym 1) Nil) ∷ []; next_atom = 3 })
    ∷ []))

-- add: a tree, an equality, by which s1 is nil everywhere, and an inequality
unfoldable pub AddedTestsAreKnown : Type 0
AddedTestsAreKnown = (d : Setting)
    → (Leaves d (assuming (state_with []) (also (tree place l r (Known (Sym 1))) none) None) t.Add
    (all_done (record (state_with []) { atoms = numbered 2 (Tree (Sym 1)) ∷ []; next_atom = 3 })
    ∷ []))
    × (Leaves d (assuming (state_with (only (Ls (Sym 0) (Sym 1))))
    (also (holds place (Equal (Known (Sym 1)) (Known Nil))) none) None) t.Add
    (all_done (state_with (only (Ls (Sym 0) Nil))) ∷ []))
    × (Leaves d
    (assuming (state_with [])
    (also (holds place (Differ (Known (Sym 1)) (Known (Sym 0)))) none) None) t.Add
    (all_done (record (state_with []) { apart = (Sym 0, Nil) ∷ (Sym 1, Sym 0) ∷ [] }) ∷ []))

-- a level of that one conjunct
abbrev pub one_level : Conjunct Term → Level Term
one_level c = level (record { first = 0; count = 0 }) (also c none)

-- if (s0 TEST nil) ls(s1,nil) else tree(s1), which stands before another cell
abbrev pub choice : (is : Conjunct Term) → Conjuncts Term
choice c = also c (also (points place (Known (Sym 0)) []) none)

abbrev pub where_differs : Conjunct Term
where_differs =
    choose place (Differ (Known (Sym 0)) (Known Nil))
    (one_level (segment place tl (Known (Sym 1)) (Known Nil)))
    (one_level (tree place l r (Known (Sym 1))))

abbrev pub where_same : Conjunct Term
where_same =
    choose place (Equal (Known (Sym 0)) (Known Nil))
    (one_level (segment place tl (Known (Sym 1)) (Known Nil)))
    (one_level (tree place l r (Known (Sym 1))))

-- add: a choice isn't assumed before its test is decided
unfoldable pub ChoicesAreNotAdded : Type 0
ChoicesAreNotAdded = (d : Setting)
    → HasNoRule d (assuming (state_with []) (choice where_differs) None) t.Add

-- then, else: the branch takes the place of the choice, in what is assumed and in what is to be
-- shown
unfoldable pub ChosenBranchesTakeTheirPlace : Type 0
ChosenBranchesTakeTheirPlace = (d : Setting)
    → (Leaves d (assuming (state_with []) (choice where_differs) None) t.Then
    (assuming (state_with []) (choice (segment place tl (Known (Sym 1)) (Known Nil))) None ∷ []))
    × (Leaves d (assuming (state_with []) (choice where_same) None) t.Else
    (assuming (state_with []) (choice (tree place l r (Known (Sym 1)))) None ∷ []))
    × (Leaves d (showing (state_with []) (choice where_differs) None) t.Then
    (showing (state_with []) (choice (segment place tl (Known (Sym 1)) (Known Nil))) None ∷ []))
    × (Leaves d (showing (state_with []) (choice where_same) None) t.Else
    (showing (state_with []) (choice (tree place l r (Known (Sym 1)))) None ∷ []))
    × (HasNoRule d (showing (state_with []) (choice where_same) None) t.Then)

-- bind: u == s1, where u has no term, or turned round. Then it has that one, and the list is still
-- wanted. Where u has a term there is no such rule, nor where the other side has none
unfoldable pub BoundExistentialsHaveTheTerm : Type 0
BoundExistentialsHaveTheTerm = (d : Setting)
    → (Leaves d (showing (state_with [])
    (also (holds place (Equal (Exists 0) (Known (Sym 1)))) list_of_it) None) t.Bind
    (showing (state_with []) list_of_it (Some (Sym 1)) ∷ []))
    × (Leaves d (showing (state_with [])
    (also (holds place (Equal (Known (Sym 1)) (Exists 0))) list_of_it) None) t.Bind
    (showing (state_with []) list_of_it (Some (Sym 1)) ∷ []))
    × (HasNoRule d (showing (state_with [])
    (also (holds place (Equal (Exists 0) (Known (Sym 1)))) list_of_it) (Some Nil)) t.Bind)
    × (HasNoRule d
    (showing (state_with []) (also (holds place (Equal (Exists 0) (Exists 0))) list_of_it) None)
    t.Bind)

-- same: u == s1, where u is s1, is shown; where it is s0, there is no such rule
unfoldable pub OneTermIsTheSame : Type 0
OneTermIsTheSame = (d : Setting)
    → (Leaves d
    (showing (state_with []) (also (holds place (Equal (Exists 0) (Known (Sym 1)))) none)
    (Some (Sym 1))) t.Same
    (all_done (state_with []) ∷ []))
    × (HasNoRule d
    (showing (state_with []) (also (holds place (Equal (Exists 0) (Known (Sym 1)))) none)
    (Some (Sym 0))) t.Same)

-- apart: s0 != nil is known, s1 != nil isn't
unfoldable pub KnownTermsAreApart : Type 0
KnownTermsAreApart = (d : Setting)
    → (Leaves d
    (showing (state_with []) (also (holds place (Differ (Known (Sym 0)) (Known Nil))) none) None)
    t.Apart
    (all_done (state_with []) ∷ []))
    × (HasNoRule d
    (showing (state_with []) (also (holds place (Differ (Known (Sym 1)) (Known Nil))) none) None)
    t.Apart)

-- the state in which that atom was handed over
abbrev pub handed_over : Atom → State
handed_over x = record (state_with []) { taken = only x }

-- s0|->tl:s1
abbrev pub cell_to_s1 : Atom
cell_to_s1 = Points (Sym 0) ((tl, Sym 1) ∷ [])

-- s0|->tl:s1,l:nil
abbrev pub cell_of_two : Atom
cell_of_two = Points (Sym 0) ((tl, Sym 1) ∷ (l, Nil) ∷ [])

-- a cell with the existential in its field tl, and that term in its field l
abbrev pub two_fields : Term → Conjuncts Term
two_fields u = also (points place (Known (Sym 0)) ((tl, Exists 0) ∷ (l, Known u) ∷ [])) none

-- cell: the cell at s0 is handed over, and its field is what the existential stands for, a fresh
-- symbol where it isn't known; the list is still wanted. A cell whose field has another term than
-- the wanted one isn't handed over, nor one whose field isn't known, nor one at another term. Of two
-- fields each has to fit
unfoldable pub WantedCellsAreHandedOver : Type 0
WantedCellsAreHandedOver = (d : Setting)
    → (Leaves d (showing (state_with (only cell_to_s1)) cell_and_list None) (t.Cell 1)
    (showing (handed_over cell_to_s1) list_of_it (Some (Sym 1)) ∷ []))
    × (Leaves d (showing (state_with (only (Points (Sym 0) []))) cell_and_list None) (t.Cell 1)
    (showing (record (handed_over (Points (Sym 0) ((tl, Sym 2) ∷ []))) { next_sym = 3 }) list_of_it
    (Some (Sym 2)) ∷ []))
    × (HasNoRule d (showing (state_with (only cell_to_s1)) cell_and_list (Some Nil)) (t.Cell 1))
    × (HasNoRule d (showing (state_with (only (Points (Sym 0) []))) cell_and_list (Some Nil))
    (t.Cell 1))
    × (HasNoRule d (showing (state_with (only (Points (Sym 1) []))) cell_and_list None) (t.Cell 1))
    × (Leaves d (showing (state_with (only cell_of_two)) (two_fields Nil) None) (t.Cell 1)
    (all_done (handed_over cell_of_two) ∷ []))
    × (HasNoRule d (showing (state_with (only cell_of_two)) (two_fields (Sym 1)) None) (t.Cell 1))

-- to show a list from one term to another
abbrev pub wants_list : State → (u v : Term) → Goal
wants_list s u v = showing s (also (segment place tl (Known u) (Known v)) none) None

-- to show a tree
abbrev pub wants_tree : State → Term → Goal
wants_tree s u = showing s (also (tree place l r (Known u)) none) None

-- empty: a list from a term to itself and the tree of nil need nothing
unfoldable pub EmptyPartsNeedNothing : Type 0
EmptyPartsNeedNothing = (d : Setting)
    → (Leaves d (wants_list (state_with []) (Sym 1) (Sym 1)) t.Empty
    (all_done (state_with []) ∷ []))
    × (Leaves d (wants_tree (state_with []) Nil) t.Empty
    (all_done (state_with []) ∷ []))
    × (HasNoRule d (wants_list (state_with []) (Sym 1) Nil) t.Empty)
    × (HasNoRule d (wants_tree (state_with []) (Sym 1)) t.Empty)

-- exact: a list and a tree that are wanted just so are handed over; a list up to s1 isn't one up to
-- nil
unfoldable pub ExactPartsAreHandedOver : Type 0
ExactPartsAreHandedOver = (d : Setting)
    → (Leaves d (wants_list (state_with (only (Ls (Sym 0) Nil))) (Sym 0) Nil) (t.Exact 1)
    (all_done (handed_over (Ls (Sym 0) Nil)) ∷ []))
    × (Leaves d (wants_tree (state_with (only (Tree (Sym 0)))) (Sym 0)) (t.Exact 1)
    (all_done (handed_over (Tree (Sym 0))) ∷ []))
    × (HasNoRule d (wants_list (state_with (only (Ls (Sym 0) (Sym 1)))) (Sym 0) Nil) (t.Exact 1))
    × (HasNoRule d (wants_tree (state_with (only (Tree (Sym 0)))) (Sym 1)) (t.Exact 1))

-- head: of a wanted list up to nil the first cell is handed over, and a list from its link on, a
-- fresh symbol where it isn't known, is still wanted; a list up to s1 may be empty, and one from s0
-- doesn't begin with a cell at s1
unfoldable pub HeadGoesOn : Type 0
HeadGoesOn = (d : Setting)
    → (Leaves d (wants_list (state_with (only cell_to_s1)) (Sym 0) Nil) (t.Head 1)
    (wants_list (handed_over cell_to_s1) (Sym 1) Nil ∷ []))
    × (Leaves d (wants_list (state_with (only (Points (Sym 0) []))) (Sym 0) Nil) (t.Head 1)
    (wants_list (record (handed_over (Points (Sym 0) ((tl, Sym 2) ∷ []))) { next_sym = 3 })
    (Sym 2) Nil ∷ []))
    × (HasNoRule d (wants_list (state_with (only cell_to_s1)) (Sym 0) (Sym 1)) (t.Head 1))
    × (HasNoRule d (wants_list (state_with (only (Points (Sym 1) []))) (Sym 0) Nil) (t.Head 1))

-- join: of a wanted list up to nil the first segment is handed over, and the rest is still wanted;
-- where the wanted end may lie inside that segment there is no such rule, nor where the segment
-- begins elsewhere
unfoldable pub JoinGoesOn : Type 0
JoinGoesOn = (d : Setting)
    → (Leaves d (wants_list (state_with (only (Ls (Sym 0) (Sym 1)))) (Sym 0) Nil) (t.Join 1)
    (wants_list (handed_over (Ls (Sym 0) (Sym 1))) (Sym 1) Nil ∷ []))
    × (HasNoRule d (wants_list (state_with (only (Ls (Sym 0) Nil))) (Sym 0) (Sym 1)) (t.Join 1))
    × (HasNoRule d (wants_list (state_with (only (Ls (Sym 1) (Sym 0)))) (Sym 0) Nil) (t.Join 1))

-- node: of a wanted tree the cell is handed over, a field of it that isn't known having a fresh
-- symbol, and the trees of its two links are still wanted. A tree at s0 doesn't begin with a cell
-- at s1
unfoldable pub NodeGoesOn : Type 0
NodeGoesOn = (d : Setting)
    → (Leaves d (wants_tree (state_with (only (Points (Sym 0) ((l, Sym 1) ∷ [])))) (Sym 0))
    (t.Node 1)
    (showing (record (handed_over (Points (Sym 0) ((l, Sym 1) ∷ (r, Sym 2) ∷ []))) { next_sym = 3 })
    (also (tree place l r (Known (Sym 1))) (also (tree place l r (Known (Sym 2))) none)) None ∷ []))
    × (HasNoRule d (wants_tree (state_with (only (Points (Sym 1) []))) (Sym 0)) (t.Node 1))
