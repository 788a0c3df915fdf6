-- The own variables of a procedure: what its names stand for in its pre and post and in its body, and how the body begins.
use Rattle.std.proofs.Common.{◌≡◌, ◌≤◌, ◌<◌, ◌+◌, ℕ, Bool, true, false, cond, List, [], ◌∷◌, ◌++◌, map, length, refl, arith}
use Rattle.std.proofs.lemmas.List.{length-map, length-append}
use Rattle.std.specs.List.{filter}
use Rattle.sf_ast.specs.declared.word.Word.{Word}
use Rattle.sf_ast.specs.Surface.{Procedure}
use Rattle.sf_base.specs.declared.ids.Var.{Var}
use Rattle.sf_base.specs.declared.ids.Var.TheVariants.{Own}
use Rattle.sf_base.specs.declared.place.Place.{Place}
use Rattle.sf_core.specs.declared.command.Expr.TheVariants.{Var as Variable}
use Rattle.sf_core.specs.Program.Formed.{IsInBody, IsSettable, BlockWithin}
use Rattle.sf_core.specs.Program.Syntax as c
use Rattle.sf_core.specs.Program.View.{block}
use Rattle.sf_elab.specs.Names.Declarations.{references_of, values_of, numbered}
use Rattle.sf_elab.specs.Bodies.Procedures.{local_words, is_primed, parameters_of, parameter_count, declared_count, body_values, body_variables, own_names, own_at, first_assignments}
use Rattle.sf_elab.specs.Names.Table.{Table, declare}
use Rattle.sf_elab.specs.Names.Texts.{text}
use Rattle.sf_elab.proofs.Names.TableLaws.{Finds, finds_none, finds_declared, finds_numbered}

-- how many primed locals there are
abbrev pub primed_count : List ℕ → Procedure → ℕ
primed_count bytes f = length (filter (is_primed bytes f) (values_of f.parameters))

pub declared_many : (bytes : List ℕ) (f : Procedure) → length (map (text bytes) (references_of f.parameters) ++ map (text bytes) (values_of f.parameters) ++ map (text bytes) (local_words f.locals)) ≡ declared_count f
declared_many bytes f =
    let references : List (List ℕ) = map (text bytes) (references_of f.parameters) in
    let values : List (List ℕ) = map (text bytes) (values_of f.parameters) in
    omega (
      arith,
      length-append (references ++ values) (map (text bytes) (local_words f.locals)),
      length-append references values,
      length-map (references_of f.parameters) (text bytes),
      length-map (values_of f.parameters) (text bytes),
      length-map (local_words f.locals) (text bytes),
    )

pub names_many : (bytes : List ℕ) (f : Procedure) → length (own_names bytes f) ≡ declared_count f + primed_count bytes f
names_many bytes f =
    let primed = filter (is_primed bytes f) (values_of f.parameters) in
    let declared = map (text bytes) (references_of f.parameters) ++ map (text bytes) (values_of f.parameters) ++ map (text bytes) (local_words f.locals) in
    omega (arith, length-append declared (map (λ w. text bytes w ++ 39 ∷ []) primed), declared_many bytes f, length-map primed (λ w. text bytes w ++ 39 ∷ []))

-- what pre and post see
pub finds_parameters : (P : List ℕ → Var → Type 0) (bytes : List ℕ) (f : Procedure) → ((name : List ℕ) (i : ℕ) → i < parameter_count f → P name (Own i)) → Finds P (parameters_of bytes f)
finds_parameters P bytes f p =
    finds_numbered P bytes Own (length (references_of f.parameters)) (values_of f.parameters) (numbered bytes Own 0 (references_of f.parameters) []) (λ name i l m. p name i m)
    (finds_numbered P bytes Own 0 (references_of f.parameters) [] (λ name i l m. p name i (omega arith)) (finds_none P))

-- values as the body sees them
finds_values : (P : List ℕ → Var → Type 0) (bytes : List ℕ) (primed : Word → Bool) (k p : ℕ) (ws : List Word) (t : Table Var)
    → ((w : Word) (i : ℕ) → primed w ≡ false → k ≤ i → i < k + length ws → P (text bytes w) (Own i))
    → ((name : List ℕ) (i : ℕ) → p ≤ i → i < p + length (filter primed ws) → P name (Own i))
    → Finds P t → Finds P (body_values bytes primed k p ws t)
finds_values P bytes primed k p [] t plain local f = f
finds_values P bytes primed k p (w ∷ ws) t plain local f =
    go (primed w) refl local (λ q u m g. finds_values P bytes primed (k + 1) q ws u (λ v i e a b. plain v i e (omega arith) (omega arith)) m g)
  where
    go : (b : Bool) → primed w ≡ b → ((name : List ℕ) (i : ℕ) → p ≤ i → i < p + length (cond b (w ∷ filter primed ws) (filter primed ws)) → P name (Own i))
        → ((q : ℕ) (u : Table Var) → ((name : List ℕ) (i : ℕ) → q ≤ i → i < q + length (filter primed ws) → P name (Own i)) → Finds P u → Finds P (body_values bytes primed (k + 1) q ws u))
        → Finds P (cond b (body_values bytes primed (k + 1) (p + 1) ws (declare (text bytes w) (Own p) t)) (body_values bytes primed (k + 1) p ws (declare (text bytes w) (Own k) t)))
    go true e m rest =
        rest (p + 1) (declare (text bytes w) (Own p) t) (λ name i a b. m name i (omega arith) (omega arith)) (finds_declared P (text bytes w) (Own p) t (m (text bytes w) p (omega arith) (omega arith)) f)
    go false e m rest =
        rest p (declare (text bytes w) (Own k) t) m (finds_declared P (text bytes w) (Own k) t (plain w k e (omega arith) (omega arith)) f)

-- what the body sees: a value that is not primed stands for itself
pub finds_body : (P : List ℕ → Var → Type 0) (bytes : List ℕ) (f : Procedure)
    → ((name : List ℕ) (i : ℕ) → i < length (references_of f.parameters) → P name (Own i))
    → ((w : Word) (i : ℕ) → is_primed bytes f w ≡ false → i < parameter_count f → P (text bytes w) (Own i))
    → ((name : List ℕ) (i : ℕ) → parameter_count f ≤ i → i < declared_count f + primed_count bytes f → P name (Own i))
    → Finds P (body_variables bytes f)
finds_body P bytes f references plain locals =
    let first : Table Var = numbered bytes Own 0 (references_of f.parameters) [] in
    let second : Table Var = body_values bytes (is_primed bytes f) (length (references_of f.parameters)) (declared_count f) (values_of f.parameters) first in
    finds_numbered P bytes Own (parameter_count f) (local_words f.locals) second (λ name i l m. locals name i l (omega arith))
    (finds_values P bytes (is_primed bytes f) (length (references_of f.parameters)) (declared_count f) (values_of f.parameters) first
    (λ w i e l m. plain w i e m) (λ name i l m. locals name i (omega arith) m)
    (finds_numbered P bytes Own 0 (references_of f.parameters) [] (λ name i l m. references name i (omega arith)) (finds_none P)))

-- how the body begins
pub first_within : (p : c.Program) (g : c.Procedure) (primed : Word → Bool) (at : Place) (k q : ℕ) (ws : List Word)
    → ((i : ℕ) → k ≤ i → i < k + length ws → IsInBody p g (Own i)) → ((i : ℕ) → q ≤ i → i < q + length (filter primed ws) → IsSettable p g (Own i))
    → BlockWithin p g (block (first_assignments primed at k q ws))
first_within p g primed at k q [] read set = tt
first_within p g primed at k q (w ∷ ws) read set =
    go (primed w) set (λ r m. first_within p g primed at (k + 1) r ws (λ i a b. read i (omega arith) (omega arith)) m)
  where
    go : (b : Bool) → ((i : ℕ) → q ≤ i → i < q + length (cond b (w ∷ filter primed ws) (filter primed ws)) → IsSettable p g (Own i))
        → ((r : ℕ) → ((i : ℕ) → r ≤ i → i < r + length (filter primed ws) → IsSettable p g (Own i)) → BlockWithin p g (block (first_assignments primed at (k + 1) r ws)))
        → BlockWithin p g (block (cond b (c.assign at (own_at at q) (Variable (own_at at k)) ∷ first_assignments primed at (k + 1) (q + 1) ws) (first_assignments primed at (k + 1) q ws)))
    go true m rest = ((m q (omega arith) (omega arith), read k (omega arith) (omega arith)), rest (q + 1) (λ i a b. m i (omega arith) (omega arith)))
    go false m rest = rest q m
