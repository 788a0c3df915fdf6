-- What may still come, as a stack of what is owed.
-- A law, `the_verdict_is_exact`, says that its verdict is the grammar's.
-- Ordinary: predictive parsing with a stack, as in Aho, Sethi, Ullman, "Compilers" (1986), section 4.4.
use Rattle.std.specs.Prelude.{ℕ, zero, suc, ◌-◌, ◌++◌, List, [], ◌∷◌, length, Bool, true, false, Option, Some, None}
use Rattle.sf_base.specs.declared.limits.TheConstants.{NESTING}
use Rattle.sf_ast.specs.declared.word.SurfaceExpr.TheVariants as e
use Rattle.sf_ast.specs.declared.word.SurfaceOperand.TheVariants as v
use Rattle.sf_ast.specs.declared.word.Word.{Word}
use Rattle.sf_parse.specs.Leaf.{Leaf}
use Rattle.sf_parse.specs.Leaf as k
use Rattle.sf_parse.specs.Checked.Predicates.{Predicate, predicate_of}
use Rattle.sf_parse.specs.Nesting.{has_level}

-- a token that is owed as it is
pub data Terminal : Type 0 where
  a_name : Terminal
  an_arrow : Terminal
  equals : Terminal
  semicolon : Terminal
  open_round : Terminal
  close_round : Terminal
  open_square : Terminal
  close_square : Terminal
  open_brace : Terminal
  close_brace : Terminal
  a_colon : Terminal
  a_comma : Terminal
  then_word : Terminal
  else_word : Terminal
  when_word : Terminal

-- what may be owed
pub data Predicted : Type 0 where
  exact : Terminal → Predicted
  -- an expression, an operand, `==` or `!=`; a test over expressions, over operands, and one that may occur in `( )`
  expression : Predicted
  operand : Predicted
  equality : Predicted
  test : Predicted
  operand_test : Predicted
  if_test : Predicted
  -- names after a first one; names or none; a `;` and names, or none
  more_names : Predicted
  maybe_names : Predicted
  maybe_values : Predicted
  -- what comes after the `(` of a call; after an expression there, where all so far are names or not; after a comma there
  maybe_arguments : Predicted
  rest : Bool → Predicted
  next : Bool → Predicted
  maybe_expressions : Predicted
  more_expressions : Predicted
  -- what comes after a conjunct's first operand; fields or none; fields after a first one
  relation : Predicted
  maybe_fields : Predicted
  more_fields : Predicted
  -- a conjunct; more of them after a `*`; an assertion of at most d levels; one or none in square brackets; a note or none
  conjunct : ℕ → Predicted
  more_conjuncts : ℕ → Predicted
  assertion : ℕ → Predicted
  maybe_assertion : Predicted
  maybe_annotation : Predicted
  -- what comes after the name that begins a command; after its `=`; after the expression there; after a call; after `dispose`
  named : Predicted
  assigned : Predicted
  look_up_or_end : Predicted
  after_call : Predicted
  disposed : Predicted
  -- a command of at most d levels; as many as come; the `else` of an `if`
  command : ℕ → Predicted
  commands : ℕ → Predicted
  branch : ℕ → Predicted
  -- the `local`s; what comes after the name that begins an item; as many items as come
  locals : Predicted
  item_named : Predicted
  items : Predicted

-- what comes after the first operand of a predicate, where it has so many more
abbrev pub more_operands_predicted : ℕ → List Predicted
more_operands_predicted zero = exact close_round ∷ []
more_operands_predicted (suc n) = exact a_comma ∷ operand ∷ more_operands_predicted n

-- what comes after the word of a predicate that has so many operands: none, `( E )`, `( E , F )`
abbrev pub operands_predicted : ℕ → List Predicted
operands_predicted zero = []
operands_predicted (suc n) = exact open_round ∷ operand ∷ more_operands_predicted n

-- what comes after the test of a conjunct's `if`, whose branches have at most d levels
abbrev pub branches_predicted : ℕ → List Predicted
branches_predicted d = exact then_word ∷ assertion d ∷ exact else_word ∷ assertion d ∷ []

-- what comes after that `if`
abbrev pub choice_predicted : ℕ → List Predicted
choice_predicted d = if_test ∷ branches_predicted d

-- what comes after the arrow of a mutation
abbrev pub mutated_predicted : List Predicted
mutated_predicted = exact a_name ∷ exact equals ∷ expression ∷ exact semicolon ∷ []

-- what comes after the `||` of a fork
abbrev pub forked_predicted : List Predicted
forked_predicted = exact a_name ∷ exact open_round ∷ maybe_arguments ∷ exact close_round ∷ exact semicolon ∷ []

-- what comes after the `if` of a command that has d levels
abbrev pub if_predicted : ℕ → List Predicted
if_predicted d = exact open_round ∷ test ∷ exact close_round ∷ command (d - 1) ∷ branch (d - 1) ∷ []

-- what comes after its `while`
abbrev pub while_predicted : ℕ → List Predicted
while_predicted d = exact open_round ∷ test ∷ exact close_round ∷ maybe_annotation ∷ command (d - 1) ∷ []

-- what comes after its `with`
abbrev pub with_predicted : ℕ → List Predicted
with_predicted d = exact a_name ∷ exact when_word ∷ exact open_round ∷ test ∷ exact close_round ∷ command (d - 1) ∷ []

-- what comes after the `(` of a procedure
abbrev pub procedure_predicted : List Predicted
procedure_predicted = maybe_names ∷ maybe_values ∷ exact close_round ∷ maybe_annotation ∷ exact open_brace ∷ locals ∷ commands NESTING ∷ exact close_brace ∷ maybe_annotation ∷ []

-- what comes after the word `resource`
abbrev pub resource_predicted : List Predicted
resource_predicted = exact a_name ∷ exact open_round ∷ maybe_names ∷ exact close_round ∷ exact open_square ∷ maybe_assertion ∷ exact close_square ∷ []

-- at one token: take it and owe that instead, do without, or neither
pub data Choice : Type 0 where
  take : List Predicted → Choice
  skip : Choice
  refuse : Choice

-- it takes the token
abbrev pub takes : Choice → Bool
takes (take ss) = true
takes _ = false

-- after what is owed by it this is
abbrev pub followed : Choice → List Predicted → Choice
followed (take ss) st = take (ss ++ st)
followed skip st = skip
followed refuse st = refuse

-- what need not come is done without
abbrev pub or_skip : Choice → Choice
or_skip (take ss) = take ss
or_skip skip = skip
or_skip refuse = skip

-- the leaf of an exact token, where it has that text
abbrev pub terminal_leaf : Terminal → Word → Leaf
terminal_leaf a_name w = k.Name w
terminal_leaf an_arrow w = k.Arrow
terminal_leaf equals w = k.Equals
terminal_leaf semicolon w = k.Semicolon
terminal_leaf open_round w = k.OpenRound
terminal_leaf close_round w = k.CloseRound
terminal_leaf open_square w = k.OpenSquare
terminal_leaf close_square w = k.CloseSquare
terminal_leaf open_brace w = k.OpenBrace w.place
terminal_leaf close_brace w = k.CloseBrace w.place
terminal_leaf a_colon w = k.Colon
terminal_leaf a_comma w = k.Comma
terminal_leaf then_word w = k.Then
terminal_leaf else_word w = k.Else
terminal_leaf when_word w = k.When

-- that token alone
abbrev pub on_exact : Terminal → Leaf → Choice
on_exact a_name (k.Operand (v.Known (e.Name _))) = take []
on_exact an_arrow k.Arrow = take []
on_exact equals k.Equals = take []
on_exact semicolon k.Semicolon = take []
on_exact open_round k.OpenRound = take []
on_exact close_round k.CloseRound = take []
on_exact open_square k.OpenSquare = take []
on_exact close_square k.CloseSquare = take []
on_exact open_brace (k.OpenBrace _) = take []
on_exact close_brace (k.CloseBrace _) = take []
on_exact a_colon k.Colon = take []
on_exact a_comma k.Comma = take []
on_exact then_word k.Then = take []
on_exact else_word k.Else = take []
on_exact when_word k.When = take []
on_exact u t = refuse

-- a token that is an expression, and what is owed after it
abbrev pub on_expression : Leaf → List Predicted → Choice
on_expression (k.Operand (v.Known _)) ss = take ss
on_expression t ss = refuse

-- a token that is an operand, and what is owed after it
abbrev pub on_operand : Leaf → List Predicted → Choice
on_operand (k.Operand _) ss = take ss
on_operand t ss = refuse

-- a test over operands
abbrev pub on_operand_test : Leaf → Choice
on_operand_test (k.True _) = take []
on_operand_test t = on_operand t (equality ∷ operand ∷ [])

-- an expression after a comma in a call
abbrev pub on_next : Bool → Leaf → Choice
on_next b (k.Operand (v.Known (e.Name _))) = take (rest b ∷ [])
on_next b t = on_expression t (rest false ∷ [])

-- a predicate, if there is one of that word
abbrev pub on_predicate : Option Predicate → Choice
on_predicate (Some p) = take (operands_predicted p.count)
on_predicate None = refuse

-- a conjunct
abbrev pub on_conjunct : ℕ → Leaf → Choice
on_conjunct d k.OpenRound = take (assertion (d - 1) ∷ exact close_round ∷ [])
on_conjunct d (k.If _) = take (choice_predicted (d - 1))
on_conjunct d (k.Operand _) = take (relation ∷ [])
on_conjunct d t = on_predicate (predicate_of t)

-- a command
abbrev pub on_command : ℕ → Leaf → Choice
on_command d (k.Operand (v.Known (e.Name _))) = take (named ∷ [])
on_command d (k.Dispose _) = take (disposed ∷ [])
on_command d (k.If _) = take (if_predicted d)
on_command d (k.While _) = take (while_predicted d)
on_command d (k.With _) = take (with_predicted d)
on_command d (k.OpenBrace _) = take (commands (d - 1) ∷ exact close_brace ∷ [])
on_command d t = on_expression t (exact an_arrow ∷ mutated_predicted)

-- what comes of one thing that is owed at one token
abbrev pub choice : Predicted → Leaf → Choice
choice (exact u) t = on_exact u t
choice expression t = on_expression t []
choice operand t = on_operand t []
-- `==` or `!=`
choice equality k.EqualEqual = take []
choice equality k.NotEqual = take []
choice equality t = refuse
-- a test over expressions
choice test (k.True _) = take []
choice test t = on_expression t (equality ∷ expression ∷ [])
choice operand_test t = on_operand_test t
-- a test after the `if` of an assertion
choice if_test k.OpenRound = take (operand_test ∷ exact close_round ∷ [])
choice if_test t = on_operand_test t
-- names after a first one
choice more_names k.Comma = take (exact a_name ∷ more_names ∷ [])
choice more_names t = skip
-- names, or none
choice maybe_names (k.Operand (v.Known (e.Name _))) = take (more_names ∷ [])
choice maybe_names t = skip
-- value parameters after a `;`, or none
choice maybe_values k.Semicolon = take (maybe_names ∷ [])
choice maybe_values t = skip
-- what comes after the `(` of a call
choice maybe_arguments k.Semicolon = take (maybe_expressions ∷ [])
choice maybe_arguments t = or_skip (on_next true t)
-- what comes after an expression in a call
choice (rest b) k.Comma = take (next b ∷ [])
choice (rest true) k.Semicolon = take (maybe_expressions ∷ [])
choice (rest b) t = skip
choice (next b) t = on_next b t
-- expressions, or none
choice maybe_expressions t = or_skip (on_expression t (more_expressions ∷ []))
-- expressions after a first one
choice more_expressions k.Comma = take (expression ∷ more_expressions ∷ [])
choice more_expressions t = skip
-- what comes after the first operand of a conjunct
choice relation k.EqualEqual = take (operand ∷ [])
choice relation k.NotEqual = take (operand ∷ [])
choice relation k.PointsTo = take (maybe_fields ∷ [])
choice relation t = refuse
-- fields, or none
choice maybe_fields (k.Operand (v.Known (e.Name _))) = take (exact a_colon ∷ operand ∷ more_fields ∷ [])
choice maybe_fields t = skip
-- fields after a first one
choice more_fields k.Comma = take (exact a_name ∷ exact a_colon ∷ operand ∷ more_fields ∷ [])
choice more_fields t = skip
choice (conjunct d) t = on_conjunct d t
-- conjuncts after a first one
choice (more_conjuncts d) k.Star = take (conjunct d ∷ more_conjuncts d ∷ [])
choice (more_conjuncts d) t = skip
choice (assertion d) t = followed (on_conjunct d t) (more_conjuncts d ∷ [])
choice maybe_assertion t = or_skip (followed (on_conjunct NESTING t) (more_conjuncts NESTING ∷ []))
-- a note, or none
choice maybe_annotation k.OpenSquare = take (maybe_assertion ∷ exact close_square ∷ [])
choice maybe_annotation t = skip
-- what comes after the name that begins a command
choice named k.Equals = take (assigned ∷ [])
choice named k.Arrow = take mutated_predicted
choice named k.OpenRound = take (maybe_arguments ∷ exact close_round ∷ after_call ∷ [])
choice named t = refuse
-- what comes after the `=` there
choice assigned k.New = take (exact open_round ∷ exact close_round ∷ exact semicolon ∷ [])
choice assigned t = on_expression t (look_up_or_end ∷ [])
-- what comes after the expression there
choice look_up_or_end k.Semicolon = take []
choice look_up_or_end k.Arrow = take (exact a_name ∷ exact semicolon ∷ [])
choice look_up_or_end t = refuse
-- what comes after a call
choice after_call k.Semicolon = take []
choice after_call k.Bars = take forked_predicted
choice after_call t = refuse
-- what comes after `dispose`
choice disposed k.OpenRound = take (expression ∷ exact close_round ∷ exact semicolon ∷ [])
choice disposed t = on_expression t (exact semicolon ∷ [])
choice (command d) t = on_command d t
choice (commands d) t = or_skip (followed (on_command d t) (commands d ∷ []))
-- the `else` of an `if`, or none
choice (branch d) k.Else = take (command d ∷ [])
choice (branch d) t = skip
-- the `local`s of a body
choice locals k.Local = take (exact a_name ∷ more_names ∷ exact semicolon ∷ locals ∷ [])
choice locals t = skip
-- what comes after the name that begins an item
choice item_named k.Comma = take (exact a_name ∷ more_names ∷ exact semicolon ∷ [])
choice item_named k.Semicolon = take []
choice item_named k.OpenRound = take procedure_predicted
choice item_named t = refuse
-- items
choice items (k.Operand (v.Known (e.Name _))) = take (item_named ∷ items ∷ [])
choice items (k.Resource _) = take (resource_predicted ++ items ∷ [])
choice items t = refuse

-- how many levels are left for it; what takes none has one
abbrev pub levels_of : Predicted → ℕ
levels_of (command d) = d
levels_of (commands d) = d
levels_of (assertion d) = d
levels_of _ = suc zero

-- there is one for what begins with so many tokens left, where n are free of the limit
abbrev pub is_free : Predicted → (n left : ℕ) → Bool
is_free s n left = has_level n left (levels_of s)

-- what comes of a stack at one token: that thing takes it, and this is owed then; or none does
pub data Next : Type 0 where
  goes : Predicted → List Predicted → Next
  bad : Next

-- what comes of a choice
abbrev pub chosen : Choice → Predicted → List Predicted → Next → Next
chosen (take ss) s st without = goes s (ss ++ st)
chosen skip s st without = without
chosen refuse s st without = bad

-- the topmost that takes the token takes it
abbrev pub step : List Predicted → Leaf → Next
step [] t = bad
step (s ∷ st) t = chosen (choice s t) s st (step st t)

-- whether it need not come at the end of the file
abbrev pub is_optional : Predicted → Bool
is_optional more_names = true
is_optional maybe_names = true
is_optional maybe_values = true
is_optional maybe_arguments = true
is_optional (rest b) = true
is_optional maybe_expressions = true
is_optional more_expressions = true
is_optional maybe_fields = true
is_optional more_fields = true
is_optional (more_conjuncts d) = true
is_optional maybe_assertion = true
is_optional maybe_annotation = true
is_optional (commands d) = true
is_optional (branch d) = true
is_optional locals = true
is_optional items = true
is_optional _ = false

-- both are true
abbrev pub both : Bool → Bool → Bool
both true b = b
both false b = false

-- whether the file may end
abbrev pub may_end : List Predicted → Bool
may_end [] = true
may_end (s ∷ st) = both (is_optional s) (may_end st)

-- the verdict, with how many tokens are left at the fault
pub data Verdict : Type 0 where
  accepted : Verdict
  unexpected : ℕ → Verdict
  too_deep : ℕ → Verdict

-- the verdict at the end of the file
abbrev pub at_end : Bool → Verdict
at_end true = accepted
at_end false = unexpected 0

-- a verdict, if there is a level for it
abbrev pub leveled : Bool → (left : ℕ) → Verdict → Verdict
leveled true left v = v
leveled false left v = too_deep left

-- the verdict after one token
abbrev pub after : (n left : ℕ) → (List Predicted → Verdict) → Next → Verdict
after n left f (goes s st) = leveled (is_free s n left) left (f st)
after n left f bad = unexpected left

-- the verdict over tokens where that is owed
abbrev pub verdict : ℕ → List Leaf → List Predicted → Verdict
verdict n [] st = at_end (may_end st)
verdict n (t ∷ ts) st = after n (suc (length ts)) (λ s. verdict n ts s) (step st t)
