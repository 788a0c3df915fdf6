-- The names that a tree declares are names where those among the leaves of its spelling are.
use Rattle.std.proofs.Common.{◌≡◌, ℕ, true, List, [], ◌∷◌, refl}
use Rattle.std.specs.List.{AllByRecursion}
use Rattle.sf_ast.specs.declared.word.Word.{Word}
use Rattle.sf_ast.specs.Surface as s
use Rattle.sf_base.proofs.Elements.{all_by-append}
use Rattle.sf_elab.specs.Names.Declarations.{field_words, procedures_in, references_of, resources_in, values_of}
use Rattle.sf_elab.specs.Names.Texts.{text}
use Rattle.sf_lex.specs.Whole.{is_name}
use Rattle.sf_parse.specs.Grammar as g
use Rattle.sf_parse.specs.Leaf.{Leaf}
use Rattle.sf_parse.specs.Leaf as k
use Rattle.sf_running_tests.proofs.NamesBehind.{annotation-behind, commands-behind, locals-behind, maybe_annotation-behind}
use Rattle.sf_running_tests.proofs.NamesOfTokens.{FitsName}

-- the word is a name
abbrev pub IsNamed : List ℕ → Word → Type 0
IsNamed bytes w = is_name (text bytes w) ≡ true

-- so are the name of a resource and those of its variables
pub record IsNamedResource (bytes : List ℕ) (r : s.Resource) : Type 0 where
  pub name : IsNamed bytes r.name
  pub variables : AllByRecursion (IsNamed bytes) r.variables

-- and the name of a procedure and those of its parameters
pub record IsNamedProcedure (bytes : List ℕ) (f : s.Procedure) : Type 0 where
  pub name : IsNamed bytes f.name
  pub references : AllByRecursion (IsNamed bytes) (references_of f.parameters)
  pub values : AllByRecursion (IsNamed bytes) (values_of f.parameters)

-- and all those of a file's items
pub record AreNamedItems (bytes : List ℕ) (is : List s.Item) : Type 0 where
  pub fields : AllByRecursion (IsNamed bytes) (field_words is)
  pub resources : AllByRecursion (IsNamedResource bytes) (resources_in is)
  pub procedures : AllByRecursion (IsNamedProcedure bytes) (procedures_in is)

-- the words are names, and so is what is a name's behind them
record AreNamed (bytes : List ℕ) (ws : List Word) (r : List Leaf) : Type 0 where
  words : AllByRecursion (IsNamed bytes) ws
  behind : AllByRecursion (FitsName bytes) r

more_names-named : (bytes : List ℕ) (ws : List Word) (r : List Leaf) → AllByRecursion (FitsName bytes) (g.more_names ws r) → AreNamed bytes ws r
more_names-named bytes [] r h = record { words = tt; behind = h }
more_names-named bytes (w ∷ ws) r h =
    let more = more_names-named bytes ws r h.1.1 in
    record { words = (h.1.0.named w refl, more.words); behind = more.behind }

names-named : (bytes : List ℕ) (w : Word) (ws : List Word) (r : List Leaf) → AllByRecursion (FitsName bytes) (k.Name w ∷ g.more_names ws r) → AreNamed bytes (w ∷ ws) r
names-named bytes w ws r h =
    let more = more_names-named bytes ws r h.1 in
    record { words = (h.0.named w refl, more.words); behind = more.behind }

maybe_names-named : (bytes : List ℕ) (ws : List Word) (r : List Leaf) → AllByRecursion (FitsName bytes) (g.maybe_names ws r) → AreNamed bytes ws r
maybe_names-named bytes [] r h = record { words = tt; behind = h }
maybe_names-named bytes (w ∷ ws) r h = names-named bytes w ws r h

-- the same of parameters
record AreNamedParameters (bytes : List ℕ) (ps : s.Parameters) (r : List Leaf) : Type 0 where
  references : AllByRecursion (IsNamed bytes) (references_of ps)
  values : AllByRecursion (IsNamed bytes) (values_of ps)
  behind : AllByRecursion (FitsName bytes) r

parameters-named : (bytes : List ℕ) (ps : s.Parameters) (r : List Leaf) → AllByRecursion (FitsName bytes) (g.parameters ps r) → AreNamedParameters bytes ps r
parameters-named bytes (s.only_values ws) r h =
    let values = maybe_names-named bytes ws r h in
    record { references = tt; values = values.words; behind = values.behind }
parameters-named bytes (s.references_and_values rs ws) r h =
    let references = maybe_names-named bytes rs (k.Semicolon ∷ g.maybe_names ws r) h in
    let values = maybe_names-named bytes ws r references.behind.1 in
    record { references = references.words; values = values.words; behind = values.behind }

-- the names of a file's items
pub items-named : (bytes : List ℕ) (is : List s.Item) → AllByRecursion (FitsName bytes) (g.items is []) → AreNamedItems bytes is
items-named bytes [] h = record { fields = tt; resources = tt; procedures = tt }
items-named bytes (s.fields ns ∷ is) h =
    let here = names-named bytes ns.first ns.more (k.Semicolon ∷ g.items is []) h in
    let more = items-named bytes is here.behind.1 in
    record {
      fields = all_by-append (IsNamed bytes) (ns.first ∷ ns.more) (field_words is) here.words more.fields;
      resources = more.resources;
      procedures = more.procedures;
    }
items-named bytes (s.resource x ∷ is) h =
    let here = maybe_names-named bytes x.variables (k.CloseRound ∷ g.annotation x.invariant (g.items is [])) h.1.1.1 in
    let more = items-named bytes is (annotation-behind (FitsName bytes) x.invariant (g.items is []) here.behind.1) in
    record {
      fields = more.fields;
      resources = (record { name = h.1.0.named x.name refl; variables = here.words }, more.resources);
      procedures = more.procedures;
    }
items-named bytes (s.procedure f ∷ is) h =
    let after : List Leaf = g.maybe_annotation f.post (g.items is []) in
    let body : List Leaf = g.commands f.body (k.CloseBrace f.closes ∷ after) in
    let locals : List Leaf = g.locals f.locals body in
    let here = parameters-named bytes f.parameters (k.CloseRound ∷ g.maybe_annotation f.pre (k.OpenBrace f.opens ∷ locals)) h.1.1 in
    let opened = maybe_annotation-behind (FitsName bytes) f.pre (k.OpenBrace f.opens ∷ locals) here.behind.1 in
    let begun = locals-behind (FitsName bytes) f.locals body opened.1 in
    let closed = commands-behind (FitsName bytes) f.body (k.CloseBrace f.closes ∷ after) begun in
    let more = items-named bytes is (maybe_annotation-behind (FitsName bytes) f.post (g.items is []) closed.1) in
    record {
      fields = more.fields;
      resources = more.resources;
      procedures = (record { name = h.0.named f.name refl; references = here.references; values = here.values }, more.procedures);
    }
