-- How deep commands and assertions are nested, where so many of the last tokens are free of the limit.
-- Ordinary: the height of a syntax tree, as in Aho, Sethi, Ullman, "Compilers" (1986), chapter 2.
use Rattle.std.specs.Prelude.{◌≡◌, ℕ, zero, suc, ◌-◌, Bool, true, nat_le, List, [], ◌∷◌, length, Option, Some, None}
use Rattle.sf_base.specs.declared.limits.TheConstants.{NESTING}
use Rattle.sf_ast.specs.Surface as s
use Rattle.sf_parse.specs.Leaf.{Leaf}
use Rattle.sf_parse.specs.Leaf as k
use Rattle.sf_parse.specs.Grammar.{conjunct, assertion, maybe_annotation, command, commands, items, locals}

-- one of d levels is left for what begins with so many tokens left; what begins with at most n tokens left needs none
abbrev pub has_level : (n left d : ℕ) → Bool
has_level n left zero = nat_le left n
has_level n left (suc d) = true

-- there is a level for it
abbrev pub HasLevel : (n left d : ℕ) → Type 0
HasLevel n left d = has_level n left d ≡ true

abbrev mutual
  -- the assertions in a conjunct have at most d - 1 levels
  pub ConjunctWithin : s.Conjunct → (n d : ℕ) → List Leaf → Type 0
  ConjunctWithin (s.group a) n d r = AssertionWithin a n (d - 1) (k.CloseRound ∷ r)
  ConjunctWithin (s.choose p round b x y) n d r = AssertionWithin x n (d - 1) (k.Else ∷ assertion y r) × AssertionWithin y n (d - 1) r
  ConjunctWithin _ n d r = Unit {0}

  -- an assertion has at most d levels, its own the first, where it begins with more than n tokens left
  pub AssertionWithin : s.Assertion → (n d : ℕ) → List Leaf → Type 0
  AssertionWithin (s.only c) n d r = HasLevel n (length (conjunct c r)) d × ConjunctWithin c n d r
  AssertionWithin (s.star c a) n d r = HasLevel n (length (conjunct c (k.Star ∷ assertion a r))) d × ConjunctWithin c n d (k.Star ∷ assertion a r) × RestWithin a n d r

  -- so has what comes after a `*`, which begins no assertion
  pub RestWithin : s.Assertion → (n d : ℕ) → List Leaf → Type 0
  RestWithin (s.only c) n d r = ConjunctWithin c n d r
  RestWithin (s.star c a) n d r = ConjunctWithin c n d (k.Star ∷ assertion a r) × RestWithin a n d r

-- the assertion of a note has a level of its own
abbrev pub NoteWithin : s.Note → (n : ℕ) → List Leaf → Type 0
NoteWithin s.blank n r = Unit {0}
NoteWithin (s.filled a) n r = AssertionWithin a n NESTING (k.CloseSquare ∷ r)

-- so has that of a note that may be left out
abbrev pub MaybeWithin : Option s.Note → (n : ℕ) → List Leaf → Type 0
MaybeWithin None n r = Unit {0}
MaybeWithin (Some x) n r = NoteWithin x n r

abbrev mutual
  -- a command has at most d levels, its own the first, where it begins with more than n tokens left
  pub CommandWithin : s.Command → (n d : ℕ) → List Leaf → Type 0
  CommandWithin (s.if_alone p b c) n d r = HasLevel n (length (command (s.if_alone p b c) r)) d × CommandWithin c n (d - 1) r
  CommandWithin (s.if p b c e) n d r = HasLevel n (length (command (s.if p b c e) r)) d × CommandWithin c n (d - 1) (k.Else ∷ command e r) × CommandWithin e n (d - 1) r
  CommandWithin (s.while p b x c) n d r = HasLevel n (length (command (s.while p b x c) r)) d × MaybeWithin x n (command c r) × CommandWithin c n (d - 1) r
  CommandWithin (s.with p x b c) n d r = HasLevel n (length (command (s.with p x b c) r)) d × CommandWithin c n (d - 1) r
  CommandWithin (s.block p cs q) n d r = HasLevel n (length (command (s.block p cs q) r)) d × CommandsWithin cs n (d - 1) (k.CloseBrace q ∷ r)
  CommandWithin c n d r = HasLevel n (length (command c r)) d

  -- so has each of these commands
  pub CommandsWithin : s.Commands → (n d : ℕ) → List Leaf → Type 0
  CommandsWithin s.done n d r = Unit {0}
  CommandsWithin (s.then c cs) n d r = CommandWithin c n d (commands cs r) × CommandsWithin cs n d r

-- the notes and the body of an item, whose commands have the first level
abbrev pub ItemWithin : s.Item → (n : ℕ) → List Leaf → Type 0
ItemWithin (s.fields ns) n r = Unit {0}
ItemWithin (s.resource x) n r = NoteWithin x.invariant n r
ItemWithin (s.procedure f) n r =
    MaybeWithin f.pre n (k.OpenBrace f.opens ∷ locals f.locals (commands f.body (k.CloseBrace f.closes ∷ maybe_annotation f.post r)))
    × CommandsWithin f.body n NESTING (k.CloseBrace f.closes ∷ maybe_annotation f.post r)
    × MaybeWithin f.post n r

-- those of all items
abbrev pub ItemsWithin : List s.Item → (n : ℕ) → List Leaf → Type 0
ItemsWithin [] n r = Unit {0}
ItemsWithin (i ∷ is) n r = ItemWithin i n (items is r) × ItemsWithin is n r
