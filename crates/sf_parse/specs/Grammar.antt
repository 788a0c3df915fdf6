-- The grammar: for each tree the leaves of its tokens, and then those of what follows it. One case a production.
-- The language is that of Berdine, Calcagno and O'Hearn, "Smallfoot" (2005), in this project's own profile.
use Rattle.std.specs.Prelude.{Bool, true, false, List, [], ◌∷◌, Option, Some, None}
use Rattle.sf_ast.specs.declared.assertion.SurfaceField.{SurfaceField}
use Rattle.sf_ast.specs.declared.word.SurfaceExpr.{SurfaceExpr}
use Rattle.sf_ast.specs.declared.word.SurfaceOperand.{SurfaceOperand}
use Rattle.sf_ast.specs.declared.word.SurfaceTest.{SurfaceTest}
use Rattle.sf_ast.specs.declared.word.SurfaceTest.TheVariants as t
use Rattle.sf_ast.specs.declared.word.Word.{Word}
use Rattle.sf_ast.specs.Surface as s
use Rattle.sf_parse.specs.Leaf.{Leaf}
use Rattle.sf_parse.specs.Leaf as k

-- { "," name }
abbrev pub more_names : List Word → List Leaf → List Leaf
more_names [] r = r
more_names (x ∷ xs) r = k.Comma ∷ k.Name x ∷ more_names xs r

-- names = name { "," name }
abbrev pub names : s.Names → List Leaf → List Leaf
names ns r = k.Name ns.first ∷ more_names ns.more r

-- [ names ]
abbrev pub maybe_names : List Word → List Leaf → List Leaf
maybe_names [] r = r
maybe_names (x ∷ xs) r = k.Name x ∷ more_names xs r

-- params = [ names ] [ ";" [ names ] ]
abbrev pub parameters : s.Parameters → List Leaf → List Leaf
parameters (s.only_values xs) r = maybe_names xs r
parameters (s.references_and_values xs ys) r = maybe_names xs (k.Semicolon ∷ maybe_names ys r)

-- expr = name | "nil" | "NULL" | number, one token each
abbrev pub expr : SurfaceExpr → Leaf
expr x = k.Expr x

-- { "," expr }
abbrev pub more_exprs : List SurfaceExpr → List Leaf → List Leaf
more_exprs [] r = r
more_exprs (x ∷ xs) r = k.Comma ∷ expr x ∷ more_exprs xs r

-- [ exprs ], where exprs = expr { "," expr }
abbrev pub maybe_exprs : List SurfaceExpr → List Leaf → List Leaf
maybe_exprs [] r = r
maybe_exprs (x ∷ xs) r = expr x ∷ more_exprs xs r

-- [ exprs ] [ ";" [ exprs ] ], where what comes before a `;` are names
abbrev pub arguments : s.Arguments → List Leaf → List Leaf
arguments (s.values xs) r = maybe_exprs xs r
arguments (s.both ns xs) r = maybe_names ns (k.Semicolon ∷ maybe_exprs xs r)

-- call = name "(" arguments ")"
abbrev pub call : s.Call → List Leaf → List Leaf
call c r = k.Name c.name ∷ k.OpenRound ∷ arguments c.arguments (k.CloseRound ∷ r)

-- aexpr = expr | existential, one token each
abbrev pub operand : SurfaceOperand → Leaf
operand x = k.Operand x

-- test = "true" | expr "==" expr | expr "!=" expr, over expressions or over operands
abbrev pub test : {E : Type 0} → (E → Leaf) → SurfaceTest E → List Leaf → List Leaf
test side (t.True p) r = k.True p ∷ r
test side (t.Equal x y) r = side x ∷ k.EqualEqual ∷ side y ∷ r
test side (t.Differ x y) r = side x ∷ k.NotEqual ∷ side y ∷ r

-- name ":" aexpr
abbrev pub field : SurfaceField → List Leaf → List Leaf
field f r = k.Name f.name ∷ k.Colon ∷ operand f.value ∷ r

-- { "," name ":" aexpr }
abbrev pub more_fields : List SurfaceField → List Leaf → List Leaf
more_fields [] r = r
more_fields (f ∷ fs) r = k.Comma ∷ field f (more_fields fs r)

-- [ name ":" aexpr { "," name ":" aexpr } ]
abbrev pub maybe_fields : List SurfaceField → List Leaf → List Leaf
maybe_fields [] r = r
maybe_fields (f ∷ fs) r = field f (more_fields fs r)

-- inner, or "(" inner ")"
abbrev pub bracketed : (round : Bool) → (List Leaf → List Leaf) → List Leaf → List Leaf
bracketed false inner r = inner r
bracketed true inner r = k.OpenRound ∷ inner (k.CloseRound ∷ r)

abbrev mutual
  -- simple = "emp" | "(" assertion ")" | "if" ( "(" atest ")" | atest ) "then" assertion "else" assertion
  --        | aexpr "==" aexpr | aexpr "!=" aexpr | aexpr "|->" [ name ":" aexpr { "," name ":" aexpr } ]
  --        | ( "ls" | "lseg" ) "(" aexpr "," aexpr ")" | "list" "(" aexpr ")" | "tree" "(" aexpr ")"
  --        | "dll" "(" aexpr "," aexpr "," aexpr "," aexpr ")"
  pub conjunct : s.Conjunct → List Leaf → List Leaf
  conjunct (s.emp p) r = k.Emp p ∷ r
  conjunct (s.group a) r = k.OpenRound ∷ assertion a (k.CloseRound ∷ r)
  conjunct (s.choose p round b x y) r = k.If p ∷ bracketed round (test operand b) (k.Then ∷ assertion x (k.Else ∷ assertion y r))
  conjunct (s.equal x y) r = operand x ∷ k.EqualEqual ∷ operand y ∷ r
  conjunct (s.differ x y) r = operand x ∷ k.NotEqual ∷ operand y ∷ r
  conjunct (s.points x fs) r = operand x ∷ k.PointsTo ∷ maybe_fields fs r
  conjunct (s.ls p long x y) r = k.Ls p long ∷ k.OpenRound ∷ operand x ∷ k.Comma ∷ operand y ∷ k.CloseRound ∷ r
  conjunct (s.list p x) r = k.List p ∷ k.OpenRound ∷ operand x ∷ k.CloseRound ∷ r
  conjunct (s.dll p x b l y) r =
      k.Dll p ∷ k.OpenRound ∷ operand x ∷ k.Comma ∷ operand b ∷ k.Comma ∷ operand l ∷ k.Comma ∷ operand y
      ∷ k.CloseRound ∷ r
  conjunct (s.tree p x) r = k.Tree p ∷ k.OpenRound ∷ operand x ∷ k.CloseRound ∷ r

  -- assertion = simple { "*" simple }
  pub assertion : s.Assertion → List Leaf → List Leaf
  assertion (s.only c) r = conjunct c r
  assertion (s.star c a) r = conjunct c (k.Star ∷ assertion a r)

-- note = "[" [ assertion ] "]"
abbrev pub annotation : s.Note → List Leaf → List Leaf
annotation s.blank r = k.OpenSquare ∷ k.CloseSquare ∷ r
annotation (s.filled a) r = k.OpenSquare ∷ assertion a (k.CloseSquare ∷ r)

-- [ note ]
abbrev pub maybe_annotation : Option s.Note → List Leaf → List Leaf
maybe_annotation None r = r
maybe_annotation (Some n) r = annotation n r

abbrev mutual
  -- command = name "=" expr ";" | name "=" expr "->" name ";" | name "=" "new" "(" ")" ";"
  --         | expr "->" name "=" expr ";" | "dispose" ( "(" expr ")" | expr ) ";"
  --         | "if" "(" test ")" command [ "else" command ] | "while" "(" test ")" [ note ] command
  --         | "with" name "when" "(" test ")" command | call [ "||" call ] ";" | "{" { command } "}"
  pub command : s.Command → List Leaf → List Leaf
  command (s.assign x a) r = k.Name x ∷ k.Equals ∷ expr a ∷ k.Semicolon ∷ r
  command (s.look_up x a f) r = k.Name x ∷ k.Equals ∷ expr a ∷ k.Arrow ∷ k.Name f ∷ k.Semicolon ∷ r
  command (s.new x) r = k.Name x ∷ k.Equals ∷ k.New ∷ k.OpenRound ∷ k.CloseRound ∷ k.Semicolon ∷ r
  command (s.mutate a f b) r = expr a ∷ k.Arrow ∷ k.Name f ∷ k.Equals ∷ expr b ∷ k.Semicolon ∷ r
  command (s.dispose p round a) r = k.Dispose p ∷ bracketed round (λ q. expr a ∷ q) (k.Semicolon ∷ r)
  command (s.if_alone p b c) r = k.If p ∷ k.OpenRound ∷ test expr b (k.CloseRound ∷ command c r)
  command (s.if p b c d) r = k.If p ∷ k.OpenRound ∷ test expr b (k.CloseRound ∷ command c (k.Else ∷ command d r))
  command (s.while p b n c) r = k.While p ∷ k.OpenRound ∷ test expr b (k.CloseRound ∷ maybe_annotation n (command c r))
  command (s.with p x b c) r = k.With p ∷ k.Name x ∷ k.When ∷ k.OpenRound ∷ test expr b (k.CloseRound ∷ command c r)
  command (s.call c) r = call c (k.Semicolon ∷ r)
  command (s.fork c d) r = call c (k.Bars ∷ call d (k.Semicolon ∷ r))
  command (s.block p cs q) r = k.OpenBrace p ∷ commands cs (k.CloseBrace q ∷ r)

  -- { command }
  pub commands : s.Commands → List Leaf → List Leaf
  commands s.done r = r
  commands (s.then c cs) r = command c (commands cs r)

-- { "local" names ";" }
abbrev pub locals : List s.Names → List Leaf → List Leaf
locals [] r = r
locals (ns ∷ nss) r = k.Local ∷ names ns (k.Semicolon ∷ locals nss r)

-- resource = "resource" name "(" [ names ] ")" "[" [ assertion ] "]"
abbrev pub resource : s.Resource → List Leaf → List Leaf
resource x r = k.Resource x.place ∷ k.Name x.name ∷ k.OpenRound ∷ maybe_names x.variables (k.CloseRound ∷ annotation x.invariant r)

-- procedure = name "(" params ")" [ note ] "{" { "local" names ";" } { command } "}" [ note ]
abbrev pub procedure : s.Procedure → List Leaf → List Leaf
procedure f r =
    k.Name f.name ∷ k.OpenRound
    ∷ parameters f.parameters (k.CloseRound ∷ maybe_annotation f.pre (k.OpenBrace f.opens ∷ locals f.locals (commands f.body (k.CloseBrace f.closes ∷ maybe_annotation f.post r))))

-- item = fields | resource | procedure, where fields = name { "," name } ";"
abbrev pub item : s.Item → List Leaf → List Leaf
item (s.fields ns) r = names ns (k.Semicolon ∷ r)
item (s.resource x) r = resource x r
item (s.procedure f) r = procedure f r

-- file = { item } end
abbrev pub items : List s.Item → List Leaf → List Leaf
items [] r = r
items (i ∷ is) r = item i (items is r)
