-- A tree is within the limit where it is no deeper, and where it has no more tokens than are free of the limit; and with no
-- token free, what is within the limit is no deeper.
use Rattle.std.proofs.Common.{◌≤◌, ◌<◌, ◌+◌, ◌-◌, ℕ, zero, suc, List, [], ◌∷◌, length, Option, Some, None, max, arith}
use Rattle.std.proofs.lemmas.Bool.Decides.{nat_tests}
use Rattle.std.proofs.Math.Nat.{max-le}
use Rattle.sf_base.proofs.Numbers.{max-left, max-right}
use Rattle.sf_base.specs.declared.limits.TheConstants.{NESTING}
use Rattle.sf_ast.specs.Depth.{conjunct_depth, assertion_depth, annotation_depth, maybe_depth, command_depth, commands_depth, invariant_depth, invariants_depth, item_depth, items_depth}
use Rattle.sf_ast.specs.Surface as s
use Rattle.sf_parse.specs.Leaf.{Leaf}
use Rattle.sf_parse.specs.Leaf as k
use Rattle.sf_parse.specs.Grammar as g
use Rattle.sf_parse.specs.Nesting.{HasLevel, ConjunctWithin, AssertionWithin, RestWithin, NoteWithin, MaybeWithin, CommandWithin, CommandsWithin, ItemWithin, ItemsWithin}
use Rattle.sf_parse.proofs.Grammar.CommandsLonger.{command_longer, commands_longer, maybe_names_longer, maybe_annotation_longer, locals_longer, parameters_longer, item_longer}
use Rattle.sf_parse.proofs.Grammar.Longer.{test_longer, if_test_longer, conjunct_longer, assertion_longer}
use Rattle.sf_parse.proofs.Machine.HasLevel.{level_in, some_level}

-- so many tokens are free of the limit, or it is no deeper than d
pub data Fits (n left d depth : ℕ) : Type 0 where
  free : left ≤ n → Fits n left d depth
  shallow : depth ≤ d → Fits n left d depth

-- so is a part of it
part : {n left d depth : ℕ} (less e under : ℕ) → Fits n left d depth → less ≤ left → (depth ≤ d → under ≤ e) → Fits n less e under
part less e under (free h) le f = free (omega arith)
part less e under (shallow h) le f = shallow (f h)

level : {n left d : ℕ} (depth : ℕ) → Fits n left d (1 + depth) → HasLevel n left d
level {n} {left} {d} depth (free h) = level_in n left d h
level {n} {left} {d} depth (shallow h) = some_level n left d (omega arith)

behind_star : (c : s.Conjunct) (a : s.Assertion) (n d : ℕ) (r : List Leaf) → Fits n (length (g.assertion (s.star c a) r)) d (assertion_depth (s.star c a)) → Fits n (length (g.assertion a r)) d (assertion_depth a)
behind_star c a n d r h = part _ d (assertion_depth a) h (omega (arith, conjunct_longer c (k.Star ∷ g.assertion a r))) (λ e. max-right (1 + conjunct_depth c) _ d e)

mutual
  conjunct_fits : (c : s.Conjunct) (n d : ℕ) (r : List Leaf) → Fits n (length (g.conjunct c r)) (d - 1) (conjunct_depth c) → ConjunctWithin c n d r
  conjunct_fits (s.group a) n d r h = assertion_fits a n (d - 1) (k.CloseRound ∷ r) (part _ (d - 1) (assertion_depth a) h (omega arith) (λ e. e))
  conjunct_fits (s.choose p round b x y) n d r h =
      let test = if_test_longer round b (k.Then ∷ g.assertion x (k.Else ∷ g.assertion y r)) in (
        assertion_fits x n (d - 1) (k.Else ∷ g.assertion y r) (part _ (d - 1) (assertion_depth x) h (omega (arith, test)) (λ e. max-left _ (assertion_depth y) (d - 1) e)),
        assertion_fits y n (d - 1) r (part _ (d - 1) (assertion_depth y) h (omega (arith, test, assertion_longer x (k.Else ∷ g.assertion y r))) (λ e. max-right (assertion_depth x) _ (d - 1) e)),
      )
  conjunct_fits _ n d r h = tt

  assertion_fits : (a : s.Assertion) (n d : ℕ) (r : List Leaf) → Fits n (length (g.assertion a r)) d (assertion_depth a) → AssertionWithin a n d r
  assertion_fits (s.only c) n d r h = (level (conjunct_depth c) h, conjunct_fits c n d r (part _ (d - 1) (conjunct_depth c) h (omega arith) (λ e. omega arith)))
  assertion_fits (s.star c a) n d r h =
      let first = part (length (g.conjunct c (k.Star ∷ g.assertion a r))) d (1 + conjunct_depth c) h (omega arith) (λ e. max-left _ (assertion_depth a) d e) in
      (level (conjunct_depth c) first, conjunct_fits c n d (k.Star ∷ g.assertion a r) (part _ (d - 1) (conjunct_depth c) first (omega arith) (λ e. omega arith)), rest_fits a n d r (behind_star c a n d r h))

  rest_fits : (a : s.Assertion) (n d : ℕ) (r : List Leaf) → Fits n (length (g.assertion a r)) d (assertion_depth a) → RestWithin a n d r
  rest_fits (s.only c) n d r h = conjunct_fits c n d r (part _ (d - 1) (conjunct_depth c) h (omega arith) (λ e. omega arith))
  rest_fits (s.star c a) n d r h =
      let first = part (length (g.conjunct c (k.Star ∷ g.assertion a r))) d (1 + conjunct_depth c) h (omega arith) (λ e. max-left _ (assertion_depth a) d e) in
      (conjunct_fits c n d (k.Star ∷ g.assertion a r) (part _ (d - 1) (conjunct_depth c) first (omega arith) (λ e. omega arith)), rest_fits a n d r (behind_star c a n d r h))

annotation_fits : (x : s.Note) (n : ℕ) (r : List Leaf) → Fits n (length (g.annotation x r)) NESTING (annotation_depth x) → NoteWithin x n r
annotation_fits s.blank n r h = tt
annotation_fits (s.filled a) n r h = assertion_fits a n NESTING (k.CloseSquare ∷ r) (part _ NESTING (assertion_depth a) h (omega arith) (λ e. e))

maybe_fits : (x : Option s.Note) (n : ℕ) (r : List Leaf) → Fits n (length (g.maybe_annotation x r)) NESTING (maybe_depth x) → MaybeWithin x n r
maybe_fits None n r h = tt
maybe_fits (Some x) n r h = annotation_fits x n r h

-- a command's levels, and those of the invariants in it
abbrev FitBoth : (n left d depth below : ℕ) → Type 0
FitBoth n left d depth below = Fits n left d depth × Fits n left NESTING below

mutual
  command_fits : (c : s.Command) (n d : ℕ) (r : List Leaf) → FitBoth n (length (g.command c r)) d (command_depth c) (invariant_depth c) → CommandWithin c n d r
  command_fits (s.if_alone p b c) n d r h =
      let test = test_longer g.expr b (k.CloseRound ∷ g.command c r) in
      (level (command_depth c) h.0, command_fits c n (d - 1) r (part _ (d - 1) (command_depth c) h.0 (omega (arith, test)) (λ e. omega arith), part _ NESTING (invariant_depth c) h.1 (omega (arith, test)) (λ e. e)))
  command_fits (s.if p b c x) n d r h =
      let test = test_longer g.expr b (k.CloseRound ∷ g.command c (k.Else ∷ g.command x r)) in
      let below : (e : 1 + max (command_depth c) (command_depth x) ≤ d) → max (command_depth c) (command_depth x) ≤ d - 1 = λ e. omega arith in
      let longer = command_longer c (k.Else ∷ g.command x r) in (
        level (max (command_depth c) (command_depth x)) h.0,
        command_fits c n (d - 1) (k.Else ∷ g.command x r) (
          part _ (d - 1) (command_depth c) h.0 (omega (arith, test)) (λ e. max-left _ (command_depth x) (d - 1) (below e)),
          part _ NESTING (invariant_depth c) h.1 (omega (arith, test)) (λ e. max-left _ (invariant_depth x) NESTING e),
        ),
        command_fits x n (d - 1) r (
          part _ (d - 1) (command_depth x) h.0 (omega (arith, test, longer)) (λ e. max-right (command_depth c) _ (d - 1) (below e)),
          part _ NESTING (invariant_depth x) h.1 (omega (arith, test, longer)) (λ e. max-right (invariant_depth c) _ NESTING e),
        ),
      )
  command_fits (s.while p b x c) n d r h =
      let test = test_longer g.expr b (k.CloseRound ∷ g.maybe_annotation x (g.command c r)) in
      let longer = maybe_annotation_longer x (g.command c r) in (
        level (command_depth c) h.0,
        maybe_fits x n (g.command c r) (part _ NESTING (maybe_depth x) h.1 (omega (arith, test)) (λ e. max-left _ (invariant_depth c) NESTING e)),
        command_fits c n (d - 1) r (
          part _ (d - 1) (command_depth c) h.0 (omega (arith, test, longer)) (λ e. omega arith),
          part _ NESTING (invariant_depth c) h.1 (omega (arith, test, longer)) (λ e. max-right (maybe_depth x) _ NESTING e),
        ),
      )
  command_fits (s.with p x b c) n d r h =
      let test = test_longer g.expr b (k.CloseRound ∷ g.command c r) in
      (level (command_depth c) h.0, command_fits c n (d - 1) r (part _ (d - 1) (command_depth c) h.0 (omega (arith, test)) (λ e. omega arith), part _ NESTING (invariant_depth c) h.1 (omega (arith, test)) (λ e. e)))
  command_fits (s.block p cs q) n d r h =
      (level (commands_depth cs) h.0, commands_fits cs n (d - 1) (k.CloseBrace q ∷ r) (part _ (d - 1) (commands_depth cs) h.0 (omega arith) (λ e. omega arith), part _ NESTING (invariants_depth cs) h.1 (omega arith) (λ e. e)))
  command_fits (s.assign x a) n d r h = level 0 h.0
  command_fits _ n d r h = level 0 h.0

  commands_fits : (cs : s.Commands) (n d : ℕ) (r : List Leaf) → FitBoth n (length (g.commands cs r)) d (commands_depth cs) (invariants_depth cs) → CommandsWithin cs n d r
  commands_fits s.done n d r h = tt
  commands_fits (s.then c cs) n d r h =
      let longer = command_longer c (g.commands cs r) in (
        command_fits c n d (g.commands cs r) (part _ d (command_depth c) h.0 (omega arith) (λ e. max-left _ (commands_depth cs) d e), part _ NESTING (invariant_depth c) h.1 (omega arith) (λ e. max-left _ (invariants_depth cs) NESTING e)),
        commands_fits cs n d r (part _ d (commands_depth cs) h.0 (omega (arith, longer)) (λ e. max-right (command_depth c) _ d e), part _ NESTING (invariants_depth cs) h.1 (omega (arith, longer)) (λ e. max-right (invariant_depth c) _ NESTING e)),
      )

item_fits : (i : s.Item) (n : ℕ) (r : List Leaf) → Fits n (length (g.item i r)) NESTING (item_depth i) → ItemWithin i n r
item_fits (s.fields ns) n r h = tt
item_fits (s.resource x) n r h =
    annotation_fits x.invariant n r (part _ NESTING (annotation_depth x.invariant) h (omega (arith, maybe_names_longer x.variables (k.CloseRound ∷ g.annotation x.invariant r))) (λ e. e))
item_fits (s.procedure f) n r h =
    let close = k.CloseBrace f.closes ∷ g.maybe_annotation f.post r in
    let opening = k.OpenBrace f.opens ∷ g.locals f.locals (g.commands f.body close) in
    let first = parameters_longer f.parameters (k.CloseRound ∷ g.maybe_annotation f.pre opening) in
    let second = maybe_annotation_longer f.pre opening in
    let third = locals_longer f.locals (g.commands f.body close) in
    let body = max (commands_depth f.body) (invariants_depth f.body) in
    let notes = max (maybe_depth f.pre) (maybe_depth f.post) in (
      maybe_fits f.pre n opening (part _ NESTING (maybe_depth f.pre) h (omega (arith, first)) (λ e. max-left _ (maybe_depth f.post) NESTING (max-right body _ NESTING e))),
      commands_fits f.body n NESTING close (
        part _ NESTING (commands_depth f.body) h (omega (arith, first, second, third)) (λ e. max-left _ (invariants_depth f.body) NESTING (max-left _ notes NESTING e)),
        part _ NESTING (invariants_depth f.body) h (omega (arith, first, second, third)) (λ e. max-right (commands_depth f.body) _ NESTING (max-left _ notes NESTING e)),
      ),
      maybe_fits f.post n r (part _ NESTING (maybe_depth f.post) h (omega (arith, first, second, third, commands_longer f.body close)) (λ e. max-right (maybe_depth f.pre) _ NESTING (max-right body _ NESTING e))),
    )

items_fit : (is : List s.Item) (n : ℕ) (r : List Leaf) → Fits n (length (g.items is r)) NESTING (items_depth is) → ItemsWithin is n r
items_fit [] n r h = tt
items_fit (i ∷ is) n r h = (
  item_fits i n (g.items is r) (part _ NESTING (item_depth i) h (omega arith) (λ e. max-left _ (items_depth is) NESTING e)),
  items_fit is n r (part _ NESTING (items_depth is) h (omega (arith, item_longer i (g.items is r))) (λ e. max-right (item_depth i) _ NESTING e)),
)

-- what is no deeper than the limit is within it
pub items_within : (is : List s.Item) (r : List Leaf) → items_depth is ≤ NESTING → ItemsWithin is 0 r
items_within is r h = items_fit is 0 r (shallow h)

-- so is what is wholly free of it
pub items_free : (is : List s.Item) (n : ℕ) (r : List Leaf) → length (g.items is r) ≤ n → ItemsWithin is n r
items_free is n r h = items_fit is n r (free h)

-- where no token is free, what has a level has some
some_levels : (left d : ℕ) → 0 < left → HasLevel 0 left d → 0 < d
some_levels left zero some h = absurd (grind (arith, nat_tests))
some_levels left (suc d) some h = omega arith

mutual
  conjunct_shallow : (c : s.Conjunct) (d : ℕ) (r : List Leaf) → ConjunctWithin c 0 d r → conjunct_depth c ≤ d - 1
  conjunct_shallow (s.group a) d r w = assertion_shallow a (d - 1) (k.CloseRound ∷ r) w
  conjunct_shallow (s.choose p round b x y) d r w = max-le (assertion_shallow x (d - 1) (k.Else ∷ g.assertion y r) w.0) (assertion_shallow y (d - 1) r w.1)
  conjunct_shallow _ d r w = omega arith

  assertion_shallow : (a : s.Assertion) (d : ℕ) (r : List Leaf) → AssertionWithin a 0 d r → assertion_depth a ≤ d
  assertion_shallow (s.only c) d r w = omega (arith, conjunct_shallow c d r w.1, some_levels _ d (omega (arith, conjunct_longer c r)) w.0)
  assertion_shallow (s.star c a) d r w =
      let some = some_levels _ d (omega (arith, conjunct_longer c (k.Star ∷ g.assertion a r))) w.0 in
      max-le (omega (arith, conjunct_shallow c d (k.Star ∷ g.assertion a r) w.1, some)) (rest_shallow a d r w.2 some)

  rest_shallow : (a : s.Assertion) (d : ℕ) (r : List Leaf) → RestWithin a 0 d r → 0 < d → assertion_depth a ≤ d
  rest_shallow (s.only c) d r w some = omega (arith, conjunct_shallow c d r w)
  rest_shallow (s.star c a) d r w some = max-le (omega (arith, conjunct_shallow c d (k.Star ∷ g.assertion a r) w.0)) (rest_shallow a d r w.1 some)

annotation_shallow : (x : s.Note) (r : List Leaf) → NoteWithin x 0 r → annotation_depth x ≤ NESTING
annotation_shallow s.blank r w = omega arith
annotation_shallow (s.filled a) r w = assertion_shallow a NESTING (k.CloseSquare ∷ r) w

maybe_shallow : (x : Option s.Note) (r : List Leaf) → MaybeWithin x 0 r → maybe_depth x ≤ NESTING
maybe_shallow None r w = omega arith
maybe_shallow (Some x) r w = annotation_shallow x r w

-- a command that has a level has some
has_some : (c : s.Command) (d : ℕ) (r : List Leaf) → HasLevel 0 (length (g.command c r)) d → 0 < d
has_some c d r h = some_levels _ d (omega (arith, command_longer c r)) h

mutual
  command_shallow : (c : s.Command) (d : ℕ) (r : List Leaf) → CommandWithin c 0 d r → command_depth c ≤ d
  command_shallow (s.if_alone p b c) d r w = omega (arith, command_shallow c (d - 1) r w.1, has_some (s.if_alone p b c) d r w.0)
  command_shallow (s.if p b c x) d r w =
      let both : max (command_depth c) (command_depth x) ≤ d - 1 = max-le (command_shallow c (d - 1) (k.Else ∷ g.command x r) w.1) (command_shallow x (d - 1) r w.2) in
      omega (arith, both, has_some (s.if p b c x) d r w.0)
  command_shallow (s.while p b x c) d r w = omega (arith, command_shallow c (d - 1) r w.2, has_some (s.while p b x c) d r w.0)
  command_shallow (s.with p x b c) d r w = omega (arith, command_shallow c (d - 1) r w.1, has_some (s.with p x b c) d r w.0)
  command_shallow (s.block p cs q) d r w = omega (arith, commands_shallow cs (d - 1) (k.CloseBrace q ∷ r) w.1, has_some (s.block p cs q) d r w.0)
  command_shallow (s.assign x a) d r w = has_some (s.assign x a) d r w
  command_shallow c d r w = has_some c d r w

  commands_shallow : (cs : s.Commands) (d : ℕ) (r : List Leaf) → CommandsWithin cs 0 d r → commands_depth cs ≤ d
  commands_shallow s.done d r w = omega arith
  commands_shallow (s.then c cs) d r w = max-le (command_shallow c d (g.commands cs r) w.0) (commands_shallow cs d r w.1)

mutual
  invariant_shallow : (c : s.Command) (d : ℕ) (r : List Leaf) → CommandWithin c 0 d r → invariant_depth c ≤ NESTING
  invariant_shallow (s.if_alone p b c) d r w = invariant_shallow c (d - 1) r w.1
  invariant_shallow (s.if p b c x) d r w = max-le (invariant_shallow c (d - 1) (k.Else ∷ g.command x r) w.1) (invariant_shallow x (d - 1) r w.2)
  invariant_shallow (s.while p b x c) d r w = max-le (maybe_shallow x (g.command c r) w.1) (invariant_shallow c (d - 1) r w.2)
  invariant_shallow (s.with p x b c) d r w = invariant_shallow c (d - 1) r w.1
  invariant_shallow (s.block p cs q) d r w = invariants_shallow cs (d - 1) (k.CloseBrace q ∷ r) w.1
  invariant_shallow _ d r w = omega arith

  invariants_shallow : (cs : s.Commands) (d : ℕ) (r : List Leaf) → CommandsWithin cs 0 d r → invariants_depth cs ≤ NESTING
  invariants_shallow s.done d r w = omega arith
  invariants_shallow (s.then c cs) d r w = max-le (invariant_shallow c d (g.commands cs r) w.0) (invariants_shallow cs d r w.1)

item_shallow : (i : s.Item) (r : List Leaf) → ItemWithin i 0 r → item_depth i ≤ NESTING
item_shallow (s.fields ns) r w = omega arith
item_shallow (s.resource x) r w = annotation_shallow x.invariant r w
item_shallow (s.procedure f) r w = max-le (max-le (commands_shallow f.body NESTING _ w.1) (invariants_shallow f.body NESTING _ w.1)) (max-le (maybe_shallow f.pre _ w.0) (maybe_shallow f.post r w.2))

-- where no token is free of the limit, what is within it is no deeper
pub items_shallow : (is : List s.Item) (r : List Leaf) → ItemsWithin is 0 r → items_depth is ≤ NESTING
items_shallow [] r w = omega arith
items_shallow (i ∷ is) r w = max-le (item_shallow i (g.items is r) w.0) (items_shallow is r w.1)
