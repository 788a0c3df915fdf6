use Rattle.std.proofs.Common.{◌≡◌, ◌+◌, ◌*◌, ◌-◌, ◌∷◌, List, map, length}
use Rattle.sf_ast.specs.Surface.{Conjunct}
use Rattle.sf_ast.specs.View.{conjuncts, conjunct_of}
use Rattle.sf_parse.specs.Grammar.{conjunct, assertion}
use Rattle.sf_parse.specs.Checked.Machine as m
use Rattle.sf_parse.specs.Checked.Machine.{Predicted, verdict}
use Rattle.sf_parse.specs.Nearest.{ConjunctNearest, AssertionNearest}
use Rattle.sf_parse.specs.Nesting.{ConjunctWithin, AssertionWithin}
use Rattle.sf_parse.specs.Leaf.{leaves}
use Rattle.sf_parse.specs.Checked.Parser.{last_of, Ends}
use Rattle.sf_parse.proofs.assertion.+assertion.Given as goal

abbrev pub decreases-assertion : goal.decreases-assertion
decreases-assertion l = 5 * l.depth

abbrev pub decreases-branches : goal.decreases-branches
decreases-branches l = 5 * l.depth + 1

abbrev pub decreases-choice : goal.decreases-choice
decreases-choice l = 5 * l.depth + 2

abbrev pub decreases-more_conjuncts : goal.decreases-more_conjuncts
decreases-more_conjuncts l = 5 * l.depth - 1

abbrev pub decreases-conjunct : goal.decreases-conjunct
decreases-conjunct l = 5 * l.depth - 2

abbrev pub invariant-more_conjuncts-loop-after : goal.invariant-more_conjuncts-loop-after
invariant-more_conjuncts-loop-after l = record {
  spelled : (c : Conjunct) → conjunct c (leaves l.tokens) ≡ assertion (conjuncts c (map conjunct_of l.found.items)) (leaves l.rest);
  nearest : (c : Conjunct) → ConjunctNearest c → Ends c (leaves l.tokens) → AssertionNearest (conjuncts c (map conjunct_of l.found.items));
  within : (c : Conjunct) → ConjunctWithin c 0 l.depth (leaves l.tokens) → AssertionWithin (conjuncts c (map conjunct_of l.found.items)) 0 l.depth (leaves l.rest);
  ended : (c : Conjunct) → Ends c (leaves l.tokens) → Ends (last_of (conjuncts c (map conjunct_of l.found.items))) (leaves l.rest);
  taken : (st : List Predicted) → verdict 0 (leaves l.tokens) (m.more_conjuncts l.depth ∷ st) ≡ verdict 0 (leaves l.rest) (m.more_conjuncts l.depth ∷ st);
}

abbrev pub decreases-more_conjuncts-loop-after : goal.decreases-more_conjuncts-loop-after
decreases-more_conjuncts-loop-after l = length l.rest
