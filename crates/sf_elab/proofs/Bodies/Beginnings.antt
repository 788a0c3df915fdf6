-- How a body begins: values declared one after the other, and what the body sees.
use Rattle.std.proofs.Common.{◌≡◌, ℕ, ◌+◌, Bool, true, false, cond, List, [], ◌∷◌, ◌++◌, map, length, drop, refl, sym, ◌∙◌, ap, append_assoc, arith}
use Rattle.std.proofs.lemmas.List.{length-append, length-map}
use Rattle.std.specs.List.{filter}
use Rattle.sf_ast.specs.declared.word.Word.{Word}
use Rattle.sf_ast.specs.Surface.{Procedure}
use Rattle.sf_base.specs.declared.ids.Var.{Var}
use Rattle.sf_base.specs.declared.ids.Var.TheVariants.{Own}
use Rattle.sf_base.specs.declared.limits.TheConstants.{OWN_VARIABLES}
use Rattle.sf_base.specs.declared.place.Place.{Place}
use Rattle.sf_core.specs.declared.command.Expr.TheVariants.{Var as Variable}
use Rattle.sf_core.specs.Program.Syntax as c
use Rattle.sf_elab.specs.Names.Declarations.{references_of, values_of, numbered, numbered_faults}
use Rattle.sf_elab.specs.Bodies.Procedures.{local_words, is_primed, parameters_of, parameter_count, declared_count, body_values, body_variables, own_names, own_at, first_assignments, local_faults}
use Rattle.sf_elab.specs.Names.Table.{Table, declare}
use Rattle.sf_elab.specs.Names.Texts.{text}

-- a name with a prime
abbrev pub prime : List ℕ → Word → List ℕ
prime bytes w = text bytes w ++ 39 ∷ []

-- one value, and those after it
values_one : (bytes : List ℕ) (primed : Word → Bool) (k p q : ℕ) (w : Word) (ws : List Word) (t : Table Var) → q ≡ p + length (filter primed (w ∷ []))
    → body_values bytes primed (k + 1) q ws (body_values bytes primed k p (w ∷ []) t) ≡ body_values bytes primed k p (w ∷ ws) t
values_one bytes primed k p q w ws t h = go (primed w) h
  where
    go : (b : Bool) → q ≡ p + length (cond b (w ∷ []) [])
        → body_values bytes primed (k + 1) q ws (cond b (declare (text bytes w) (Own p) t) (declare (text bytes w) (Own k) t))
        ≡ cond b (body_values bytes primed (k + 1) (p + 1) ws (declare (text bytes w) (Own p) t)) (body_values bytes primed (k + 1) p ws (declare (text bytes w) (Own k) t))
    go true e = ap (λ n. body_values bytes primed (k + 1) n ws (declare (text bytes w) (Own p) t)) e
    go false e = let same : q ≡ p = omega arith in ap (λ n. body_values bytes primed (k + 1) n ws (declare (text bytes w) (Own k) t)) same

first_one : (primed : Word → Bool) (at : Place) (k p q : ℕ) (w : Word) (ws : List Word) → q ≡ p + length (filter primed (w ∷ []))
    → first_assignments primed at k p (w ∷ []) ++ first_assignments primed at (k + 1) q ws ≡ first_assignments primed at k p (w ∷ ws)
first_one primed at k p q w ws h = go (primed w) h
  where
    one : List c.Command
    one = c.assign at (own_at at p) (Variable (own_at at k)) ∷ []

    go : (b : Bool) → q ≡ p + length (cond b (w ∷ []) [])
        → cond b one [] ++ first_assignments primed at (k + 1) q ws
        ≡ cond b (c.assign at (own_at at p) (Variable (own_at at k)) ∷ first_assignments primed at (k + 1) (p + 1) ws) (first_assignments primed at (k + 1) p ws)
    go true e = ap (λ n. one ++ first_assignments primed at (k + 1) n ws) e
    go false e = let same : q ≡ p = omega arith in ap (λ n. first_assignments primed at (k + 1) n ws) same

names_one : (bytes : List ℕ) (primed : Word → Bool) (w : Word) (ws : List Word) → map (prime bytes) (filter primed (w ∷ [])) ++ map (prime bytes) (filter primed ws) ≡ map (prime bytes) (filter primed (w ∷ ws))
names_one bytes primed w ws = go (primed w)
  where
    go : (b : Bool) → map (prime bytes) (cond b (w ∷ []) []) ++ map (prime bytes) (filter primed ws) ≡ map (prime bytes) (cond b (w ∷ filter primed ws) (filter primed ws))
    go true = refl
    go false = refl

module _ (bytes : List ℕ) (primed : Word → Bool) (ws : List Word) (i : ℕ) (w : Word) (next : drop i ws ≡ w ∷ drop (i + 1) ws)
    (before now : List Word) (names more : List (List ℕ)) (declared : now ≡ before ++ w ∷ []) (named : more ≡ names ++ map (prime bytes) (filter primed (w ∷ []))) where
  one_more : length now ≡ length before + 1
  one_more = ap length declared ∙ length-append before (w ∷ [])

  names_more : length more ≡ length names + length (filter primed (w ∷ []))
  names_more = ap length named ∙ length-append names (map (prime bytes) (filter primed (w ∷ []))) ∙ ap (λ n. length names + n) (length-map (filter primed (w ∷ [])) (prime bytes))

  -- what the body sees
  pub values_more : (t u : Table Var) → u ≡ body_values bytes primed (length before) (length names) (w ∷ []) t
      → body_values bytes primed (length now) (length more) (drop (i + 1) ws) u ≡ body_values bytes primed (length before) (length names) (drop i ws) t
  values_more t u e = let one = one_more in let all = values_one bytes primed (length before) (length names) (length more) w (drop (i + 1) ws) t names_more in cc

  -- how it begins
  pub first_more : (at : Place) (cs ds : List c.Command) → ds ≡ cs ++ first_assignments primed at (length before) (length names) (w ∷ [])
      → ds ++ first_assignments primed at (length now) (length more) (drop (i + 1) ws) ≡ cs ++ first_assignments primed at (length before) (length names) (drop i ws)
  first_more at cs ds e =
      ap (λ bs. bs ++ first_assignments primed at (length now) (length more) (drop (i + 1) ws)) e ∙ append_assoc cs (first_assignments primed at (length before) (length names) (w ∷ [])) _
      ∙ ap (λ bs. cs ++ bs) (let one = one_more in let all = first_one primed at (length before) (length names) (length more) w (drop (i + 1) ws) names_more in cc)

  -- the names
  pub primed_more : more ++ map (prime bytes) (filter primed (drop (i + 1) ws)) ≡ names ++ map (prime bytes) (filter primed (drop i ws))
  primed_more =
      ap (λ ns. ns ++ map (prime bytes) (filter primed (drop (i + 1) ws))) named
      ∙ append_assoc names (map (prime bytes) (filter primed (w ∷ []))) (map (prime bytes) (filter primed (drop (i + 1) ws)))
      ∙ ap (λ ns. names ++ ns) (names_one bytes primed w (drop (i + 1) ws))
      ∙ ap (λ vs. names ++ map (prime bytes) (filter primed vs)) (sym next)

  -- what is declared
  pub declared_more : now ++ drop (i + 1) ws ≡ before ++ drop i ws
  declared_more = ap (λ vs. vs ++ drop (i + 1) ws) declared ∙ append_assoc before (w ∷ []) (drop (i + 1) ws) ∙ ap (λ vs. before ++ vs) (sym next)

-- what the body sees, once references, values and locals are declared
pub body_sees_all : (bytes : List ℕ) (f : Procedure) (primed : Word → Bool) (references values locals first second : List Word) (names : List (List ℕ)) (t u v : Table Var) → ((w : Word) → primed w ≡ is_primed bytes f w)
    → references ≡ references_of f.parameters → values ≡ values_of f.parameters → locals ≡ local_words f.locals → length names ≡ declared_count f
    → first ≡ references → t ≡ numbered bytes Own 0 references [] → second ≡ first ++ values → u ≡ body_values bytes primed (length first) (length names) values t → v ≡ numbered bytes Own (length second) locals u
    → v ≡ body_variables bytes f
body_sees_all bytes f primed references values locals first second names t u v same r w l n a h b j k =
    let all : primed ≡ is_primed bytes f = λ i x. same x i in
    let one : length first ≡ length (references_of f.parameters) = ap length (a ∙ r) in
    let two : length second ≡ parameter_count f = ap length b ∙ length-append first values ∙ ap (λ m. m + length values) one ∙ ap (λ ws. length (references_of f.parameters) + length ws) w in
    cc

-- the names of all own variables, once those of parameters and locals are there
pub names_are_all : (bytes : List ℕ) (f : Procedure) (primed : Word → Bool) (values : List Word) (before now : List (List ℕ)) → ((w : Word) → primed w ≡ is_primed bytes f w) → values ≡ values_of f.parameters
    → before ≡ map (text bytes) (references_of f.parameters) ++ map (text bytes) (values_of f.parameters) ++ map (text bytes) (local_words f.locals)
    → now ≡ before ++ map (prime bytes) (filter primed values) → now ≡ own_names bytes f
names_are_all bytes f primed values before now same w b n =
    let all : primed ≡ is_primed bytes f = λ i x. same x i in
    cc

-- how the body begins, once its values are declared
pub first_are_all : (bytes : List ℕ) (f : Procedure) (primed : Word → Bool) (at : Place) (references values first : List Word) (names : List (List ℕ)) (before now : List c.Command) → ((w : Word) → primed w ≡ is_primed bytes f w)
    → references ≡ references_of f.parameters → values ≡ values_of f.parameters → length names ≡ declared_count f → first ≡ references → before ≡ [] → now ≡ before ++ first_assignments primed at (length first) (length names) values
    → now ≡ first_assignments (is_primed bytes f) at (length (references_of f.parameters)) (declared_count f) (values_of f.parameters)
first_are_all bytes f primed at references values first names before now same r w n a b e =
    let all : primed ≡ is_primed bytes f = λ i x. same x i in
    let one : length first ≡ length (references_of f.parameters) = ap length (a ∙ r) in
    cc

-- what is wrong with locals that are declared after the parameters
pub local_faults_are : (bytes : List ℕ) (f : Procedure) (words locals : List Word) (own : Table Var) → words ≡ references_of f.parameters ++ values_of f.parameters → locals ≡ local_words f.locals → own ≡ parameters_of bytes f
    → numbered_faults bytes OWN_VARIABLES Own (length words) locals own ≡ local_faults bytes f
local_faults_are bytes f words locals own w l o =
    let count : length words ≡ parameter_count f = ap length w ∙ length-append (references_of f.parameters) (values_of f.parameters) in
    cc
