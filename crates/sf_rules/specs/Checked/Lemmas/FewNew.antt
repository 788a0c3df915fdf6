-- Conjuncts that are formed need few new symbols: an operand is one existential at most, and a cell has no more fields than
-- a program.
-- Names: `few-LAW`.
use Rattle.std.proofs.Common.{ℕ, ◌<◌, ◌≤◌, List, [], ◌∷◌, length, arith}
use Rattle.sf_base.specs.declared.ids.FieldId.{FieldId}
use Rattle.sf_base.specs.declared.limits.TheConstants.{FIELDS}
use Rattle.sf_consume.specs.Subtract.{new_symbols}
use Rattle.sf_core.specs.declared.assertion.Operand.{Operand}
use Rattle.sf_core.specs.declared.assertion.Operand.TheVariants.{Known, Exists}
use Rattle.sf_core.specs.declared.fields.Links.{Links}
use Rattle.sf_core.specs.Program.Syntax.{holds, points, segment, doubly, tree, choose, Conjuncts, none, also}
use Rattle.sf_produce.specs.Add.{operands}
use Rattle.sf_rules.specs.declared.few.TheConstants.{TOO_MANY}
use Rattle.sf_sym.specs.declared.term.Term.{Term}
use Rattle.sf_sym.specs.Formed.{AllFormed}
use Rattle.sf_sym.specs.Pending.{existentials_in, one_if_existential}

pub few-one : (x : Operand Term) → one_if_existential x ≤ 1
few-one (Known t) = omega arith
few-one (Exists n) = omega arith

pub few-existentials : (fs : List (FieldId × Operand Term)) → existentials_in fs ≤ length fs
few-existentials [] = omega arith
few-existentials (f ∷ fs) =
    let rest = few-existentials fs in let one = few-one f.1 in omega (arith, rest, one)

-- those to assume, and those to show
pub few-operands : (links : Links) (count : ℕ) (cs : Conjuncts Term) → AllFormed links count cs
    → operands cs < TOO_MANY
few-operands links count none f = omega arith
few-operands links count (also (holds q t) cs) f = omega arith
few-operands links count (also (points q x fs) cs) f =
    let l : length fs ≤ FIELDS = f.0.2 in omega (arith, l, few-one x, few-existentials fs)
few-operands links count (also (segment q next x y) cs) f = omega arith
few-operands links count (also (doubly q next back x b l y) cs) f = omega arith
few-operands links count (also (tree q left right x) cs) f = omega arith
few-operands links count (also (choose q t this that) cs) f = omega arith

pub few-new_symbols : (links : Links) (count : ℕ) (cs : Conjuncts Term) → AllFormed links count cs
    → new_symbols cs < TOO_MANY
few-new_symbols links count none f = omega arith
few-new_symbols links count (also (holds q t) cs) f = omega arith
few-new_symbols links count (also (points q x fs) cs) f =
    let l : length fs ≤ FIELDS = f.0.2 in omega (arith, l, few-existentials fs)
few-new_symbols links count (also (segment q next x y) cs) f = omega arith
few-new_symbols links count (also (doubly q next back x b l y) cs) f = omega arith
few-new_symbols links count (also (tree q left right x) cs) f = omega arith
few-new_symbols links count (also (choose q t this that) cs) f = omega arith
