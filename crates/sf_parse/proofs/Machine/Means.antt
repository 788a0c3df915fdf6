-- What a stack stands for: the tokens that each thing owed spells, one after the other.
use Rattle.std.proofs.Common.{◌≡◌, ℕ, suc, List, [], ◌∷◌, ◌++◌, length, Bool, true, false, Option, ◌⊎◌}
use Rattle.sf_base.specs.declared.limits.TheConstants.{NESTING}
use Rattle.sf_ast.specs.declared.assertion.SurfaceField.{SurfaceField}
use Rattle.sf_ast.specs.declared.word.SurfaceExpr.{SurfaceExpr}
use Rattle.sf_ast.specs.declared.word.SurfaceOperand.{SurfaceOperand}
use Rattle.sf_ast.specs.declared.word.SurfaceTest.{SurfaceTest}
use Rattle.sf_ast.specs.declared.word.Word.{Word}
use Rattle.sf_ast.specs.Surface as s
use Rattle.sf_parse.specs.Leaf.{Leaf}
use Rattle.sf_parse.specs.Leaf as k
use Rattle.sf_parse.specs.Grammar as g
use Rattle.sf_parse.specs.Checked.Heads.{IsFlat}
use Rattle.sf_parse.specs.Checked.Machine as m
use Rattle.sf_parse.specs.Checked.Machine.{Predicted, terminal_leaf}
use Rattle.sf_parse.specs.Nearest.{NotElse, Follows, ConjunctNearest, AssertionNearest, MaybeNearest, CommandNearest, CommandsNearest, ItemNearest, IsNearest}
use Rattle.sf_parse.specs.Nesting.{ConjunctWithin, AssertionWithin, RestWithin, MaybeWithin, CommandWithin, CommandsWithin, ItemWithin, ItemsWithin}
use Rattle.sf_parse.specs.Checked.Parser.{NotStar, Ends}

-- what one thing owed spells, with the tokens after it
abbrev pub Spells : ℕ → Predicted → List Leaf → List Leaf → Type 0
Spells n (m.exact u) ts r = (x : Word) × (ts ≡ terminal_leaf u x ∷ r)
Spells n m.expression ts r = (x : SurfaceExpr) × (ts ≡ g.expr x ∷ r)
Spells n m.operand ts r = (x : SurfaceOperand) × (ts ≡ g.operand x ∷ r)
Spells n m.equality ts r = (ts ≡ k.EqualEqual ∷ r) ⊎ (ts ≡ k.NotEqual ∷ r)
Spells n m.test ts r = (b : SurfaceTest SurfaceExpr) × (ts ≡ g.test g.expr b r)
Spells n m.operand_test ts r = (b : SurfaceTest SurfaceOperand) × (ts ≡ g.test g.operand b r)
Spells n m.if_test ts r = (round : Bool) × (b : SurfaceTest SurfaceOperand) × (ts ≡ g.bracketed round (g.test g.operand b) r)
Spells n m.more_names ts r = (xs : List Word) × (ts ≡ g.more_names xs r)
Spells n m.maybe_names ts r = (xs : List Word) × (ts ≡ g.maybe_names xs r)
Spells n m.maybe_values ts r = (ts ≡ r) ⊎ ((xs : List Word) × (ts ≡ k.Semicolon ∷ g.maybe_names xs r))
Spells n m.maybe_arguments ts r = (a : s.Arguments) × (ts ≡ g.arguments a r)
Spells n (m.rest b) ts r = ((xs : List SurfaceExpr) × (ts ≡ g.more_exprs xs r)) ⊎ ((b ≡ true) × (ns : List Word) × (xs : List SurfaceExpr) × (ts ≡ g.more_names ns (k.Semicolon ∷ g.maybe_exprs xs r)))
Spells n (m.next b) ts r = ((x : SurfaceExpr) × (xs : List SurfaceExpr) × (ts ≡ g.expr x ∷ g.more_exprs xs r)) ⊎ ((b ≡ true) × (y : Word) × (ns : List Word) × (xs : List SurfaceExpr) × (ts ≡ k.Name y ∷ g.more_names ns (k.Semicolon ∷ g.maybe_exprs xs r)))
Spells n m.maybe_expressions ts r = (xs : List SurfaceExpr) × (ts ≡ g.maybe_exprs xs r)
Spells n m.more_expressions ts r = (xs : List SurfaceExpr) × (ts ≡ g.more_exprs xs r)
Spells n m.relation ts r = ((x : SurfaceOperand) × (ts ≡ k.EqualEqual ∷ g.operand x ∷ r)) ⊎ ((x : SurfaceOperand) × (ts ≡ k.NotEqual ∷ g.operand x ∷ r)) ⊎ ((fs : List SurfaceField) × (ts ≡ k.PointsTo ∷ g.maybe_fields fs r))
Spells n m.maybe_fields ts r = (fs : List SurfaceField) × (ts ≡ g.maybe_fields fs r)
Spells n m.more_fields ts r = (fs : List SurfaceField) × (ts ≡ g.more_fields fs r)
Spells n (m.conjunct d) ts r = (c : s.Conjunct) × (ts ≡ g.conjunct c r) × ConjunctWithin c n d r × Ends c r × ConjunctNearest c
Spells n (m.more_conjuncts d) ts r = (NotStar ts × (ts ≡ r)) ⊎ ((a : s.Assertion) × (ts ≡ k.Star ∷ g.assertion a r) × RestWithin a n d r × NotStar r × AssertionNearest a)
Spells n (m.assertion d) ts r = (a : s.Assertion) × (ts ≡ g.assertion a r) × AssertionWithin a n d r × NotStar r × AssertionNearest a
Spells n m.maybe_assertion ts r = (ts ≡ r) ⊎ ((a : s.Assertion) × (ts ≡ g.assertion a r) × AssertionWithin a n NESTING r × NotStar r × AssertionNearest a)
Spells n m.maybe_annotation ts r = (x : Option s.Note) × (ts ≡ g.maybe_annotation x r) × MaybeWithin x n r × MaybeNearest x
Spells n m.named ts r = (x : Word) → (c : s.Command) × IsFlat c × (k.Name x ∷ ts ≡ g.command c r)
Spells n m.assigned ts r = (x : Word) → (c : s.Command) × IsFlat c × (k.Name x ∷ k.Equals ∷ ts ≡ g.command c r)
Spells n m.look_up_or_end ts r = (ts ≡ k.Semicolon ∷ r) ⊎ ((f : Word) × (ts ≡ k.Arrow ∷ k.Name f ∷ k.Semicolon ∷ r))
Spells n m.after_call ts r = (ts ≡ k.Semicolon ∷ r) ⊎ ((x : s.Call) × (ts ≡ k.Bars ∷ g.call x (k.Semicolon ∷ r)))
Spells n m.disposed ts r = (round : Bool) × (x : SurfaceExpr) × (ts ≡ g.bracketed round (λ q. g.expr x ∷ q) (k.Semicolon ∷ r))
Spells n (m.command d) ts r = (c : s.Command) × (ts ≡ g.command c r) × CommandWithin c n d r × Follows c r × CommandNearest c
Spells n (m.commands d) ts r = (cs : s.Commands) × (ts ≡ g.commands cs r) × CommandsWithin cs n d r × CommandsNearest cs
Spells n (m.branch d) ts r = ((c : s.Command) × (ts ≡ k.Else ∷ g.command c r) × CommandWithin c n d r × Follows c r × CommandNearest c) ⊎ (NotElse ts × (ts ≡ r))
Spells n m.locals ts r = (nss : List s.Names) × (ts ≡ g.locals nss r)
Spells n m.item_named ts r = (x : Word) → (i : s.Item) × (k.Name x ∷ ts ≡ g.item i r) × ItemWithin i n r × ItemNearest i
Spells n m.items ts r = (is : List s.Item) × (ts ≡ g.items is r) × ItemsWithin is n r × IsNearest is

-- what a stack spells
abbrev pub Means : ℕ → List Predicted → List Leaf → Type 0
Means n [] ts = ts ≡ []
Means n (s ∷ st) ts = (r : List Leaf) × Spells n s ts r × Means n st r

-- what is chosen at one token spells the tokens after it; where that is to do without, this holds
abbrev pub MeansChosen : ℕ → m.Choice → (free : Bool) → List Predicted → (without : Type 0) → List Leaf → Type 0
MeansChosen n (m.take ss) true st w ts = Means n (ss ++ st) ts
MeansChosen n (m.take ss) false st w ts = ⊥
MeansChosen n m.skip free st w ts = w
MeansChosen n m.refuse free st w ts = ⊥

-- the whole stack does so
abbrev pub MeansNext : ℕ → List Predicted → Leaf → List Leaf → Type 0
MeansNext n [] t ts = ⊥
MeansNext n (s ∷ st) t ts = MeansChosen n (m.choice s t) (m.is_free s n (suc (length ts))) st (MeansNext n st t ts) ts
