-- The predicates: how the reader reads one, and that what the machine owes after its word spells the rest of it. Nothing here
-- is said of one of them.
use Rattle.std.proofs.Common.{◌≡◌, ℕ, zero, suc, List, [], ◌∷◌, ◌++◌, Option, Some, None, true, refl, ap, sym, ◌∙◌}
use Rattle.sf_ast.specs.declared.word.SurfaceOperand.{SurfaceOperand}
use Rattle.sf_ast.specs.declared.word.SurfaceOperand.TheVariants as v
use Rattle.sf_ast.specs.Surface as s
use Rattle.sf_parse.specs.Leaf.{Leaf}
use Rattle.sf_parse.specs.Leaf as k
use Rattle.sf_parse.specs.Grammar as g
use Rattle.sf_parse.specs.Checked.Heads.{IsFlatConjunct}
use Rattle.sf_parse.specs.Checked.Machine.{Predicted, on_predicate, operands_predicted, more_operands_predicted}
use Rattle.sf_parse.specs.Checked.Predicates.{Operands, with_operands, Predicate, predicate_of}
use Rattle.sf_parse.proofs.Machine.Complete.{a_place, a_word}
use Rattle.sf_parse.proofs.Machine.Means.{Means, MeansChosen}

-- what comes after the next token
abbrev pub behind : List Leaf → List Leaf
behind [] = []
behind (t ∷ ts) = ts

abbrev pub operand_in : Leaf → SurfaceOperand
operand_in (k.Operand x) = x
operand_in _ = v.Existential a_word

abbrev first_operand : List Leaf → SurfaceOperand
first_operand [] = v.Existential a_word
first_operand (t ∷ ts) = operand_in t

-- so many operands, each after a `(` or a `,`
abbrev operands_in : (n : ℕ) → List Leaf → Operands n
operands_in zero ts = tt
operands_in (suc n) ts = (first_operand (behind ts), operands_in n (behind (behind ts)))

-- what comes after them, and after a `)` where there are any
abbrev after_more : ℕ → List Leaf → List Leaf
after_more zero ts = behind ts
after_more (suc n) ts = after_more n (behind (behind ts))

abbrev after_operands : ℕ → List Leaf → List Leaf
after_operands zero ts = ts
after_operands (suc n) ts = after_more (suc n) ts

abbrev read_predicate : Option Predicate → List Leaf → s.Conjunct × List Leaf
read_predicate (Some p) ts = (with_operands p.count p.conjunct (operands_in p.count ts), after_operands p.count ts)
read_predicate None ts = (s.emp a_place, ts)

-- a predicate, and what comes after it
abbrev pub predicate : List Leaf → s.Conjunct × List Leaf
predicate (t ∷ ts) = read_predicate (predicate_of t) ts
predicate [] = (s.emp a_place, [])

-- how operands are spelled
abbrev more_operands : (n : ℕ) → Operands n → List Leaf → List Leaf
more_operands zero xs r = k.CloseRound ∷ r
more_operands (suc n) xs r = k.Comma ∷ g.operand xs.0 ∷ more_operands n xs.1 r

abbrev operands : (n : ℕ) → Operands n → List Leaf → List Leaf
operands zero xs r = r
operands (suc n) xs r = k.OpenRound ∷ g.operand xs.0 ∷ more_operands n xs.1 r

-- what is owed for them spells them
record OperandsBack (n c : ℕ) (spelled : Operands c → List Leaf → List Leaf) (st : List Predicted) (ts : List Leaf) : Type 0 where
  given : Operands c
  rest : List Leaf
  spells : ts ≡ spelled given rest
  more : Means n st rest

more_operands_back : (n c : ℕ) (st : List Predicted) (ts : List Leaf) → Means n (more_operands_predicted c ++ st) ts → OperandsBack n c (more_operands c) st ts
more_operands_back n zero st ts (r, a, more) = record { given = tt; rest = r; spells = a.1; more = more }
more_operands_back n (suc c) st ts (r1, a, (r2, x, more)) =
    let o = more_operands_back n c st r2 more in
    record { given = (x.0, o.given); rest = o.rest; spells = a.1 ∙ ap (λ z. k.Comma ∷ z) (x.1 ∙ ap (λ z. g.operand x.0 ∷ z) o.spells); more = o.more }

operands_back : (n c : ℕ) (st : List Predicted) (ts : List Leaf) → Means n (operands_predicted c ++ st) ts → OperandsBack n c (operands c) st ts
operands_back n zero st ts more = record { given = tt; rest = ts; spells = refl; more = more }
operands_back n (suc c) st ts (r1, a, (r2, x, more)) =
    let o = more_operands_back n c st r2 more in
    record { given = (x.0, o.given); rest = o.rest; spells = a.1 ∙ ap (λ z. k.OpenRound ∷ z) (x.1 ∙ ap (λ z. g.operand x.0 ∷ z) o.spells); more = o.more }

-- the grammar spells a predicate so, and it has no assertion in it
abbrev IsSpelled : Leaf → Option Predicate → Type 0
IsSpelled t (Some p) = (xs : Operands p.count) (r : List Leaf) → (g.conjunct (with_operands p.count p.conjunct xs) r ≡ t ∷ operands p.count xs r) × IsFlatConjunct (with_operands p.count p.conjunct xs)
IsSpelled t None = (xs : Unit {0}) (r : List Leaf) → (r ≡ r) × Unit {0}

is_spelled : (t : Leaf) → IsSpelled t (predicate_of t)
is_spelled (k.Emp p) = λ xs r. (refl, tt)
is_spelled _ = λ xs r. (refl, tt)

-- a predicate's first token
pub record PredicateBack (n : ℕ) (u : Leaf) (st : List Predicted) (ts : List Leaf) : Type 0 where
  pub conjunct : s.Conjunct
  pub rest : List Leaf
  pub spells : u ∷ ts ≡ g.conjunct conjunct rest
  pub flat : IsFlatConjunct conjunct
  pub more : Means n st rest

pub predicate_back : (n : ℕ) (u : Leaf) (st : List Predicted) (w : Type 0) (ts : List Leaf) → MeansChosen n (on_predicate (predicate_of u)) true st w ts → PredicateBack n u st ts
predicate_back n u st w ts q = go (predicate_of u) (is_spelled u) q
  where
    go : (o : Option Predicate) → IsSpelled u o → MeansChosen n (on_predicate o) true st w ts → PredicateBack n u st ts
    go (Some p) is q =
        let o = operands_back n p.count st ts q in
        let whole = is o.given o.rest in
        record { conjunct = with_operands p.count p.conjunct o.given; rest = o.rest; spells = ap (λ z. u ∷ z) o.spells ∙ sym whole.0; flat = whole.1; more = o.more }
    go None is q = absurd q
