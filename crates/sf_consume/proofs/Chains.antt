-- From the first row to the last: an assertion, one row after another, nothing that is wanted.
-- Names: the laws have the names of the functions whose contracts they are.
use Rattle.std.proofs.Common.{◌≡◌, ℕ, List, Option, Some, None, get_or, replicate, refl, sym, ap, ◌∙◌, subst, arith}
use Rattle.std.proofs.lemmas.Option.{none-some}
use Rattle.sf_base.proofs.Lists.{replicate-default}
use Rattle.sf_base.proofs.MapSplits.{empty_map, empty-holds, splits-assoc_left, splits-assoc_right, splits-empty_right, union}
use Rattle.sf_base.specs.declared.ids.Var.{Var}
use Rattle.sf_base.specs.declared.value.Value.{Value}
use Rattle.sf_base.specs.declared.value.Value.TheVariants.{Nil as nil}
use Rattle.sf_base.specs.HeapStore.{Heap}
use Rattle.sf_core.proofs.Assertions.Sat.{sat-agree}
use Rattle.sf_core.specs.Assertions.Occurs.{OccursIn}
use Rattle.sf_core.specs.Assertions.Sat.{SatAll, operand}
use Rattle.sf_core.specs.declared.assertion.Operand.{Operand}
use Rattle.sf_core.specs.declared.assertion.Operand.TheVariants.{Known, Exists}
use Rattle.sf_core.specs.declared.assertion.Scope.{Scope}
use Rattle.sf_core.specs.declared.command.Expr.{Expr}
use Rattle.sf_core.specs.Program.Syntax.{Conjuncts, level}
use Rattle.sf_consume.proofs.CellLaws.{cell_keeps_wants, node_keeps_wants}
use Rattle.sf_consume.proofs.PartLaws.{exact_keeps_wants}
use Rattle.sf_consume.proofs.PureLaws.{apart_keeps_wants, bind_keeps_wants, empty_keeps_wants, same_keeps_wants}
use Rattle.sf_consume.proofs.SegmentLaws.{head_keeps_wants, join_keeps_wants}
use Rattle.sf_consume.specs.Checked.Laws.{HandsOver, Subtracts, AssertionIsShown, AssertionIsWanted, BindKeepsWants, SameKeepsWants, ApartKeepsWants, CellKeepsWants, EmptyKeepsWants, ExactKeepsWants, HeadKeepsWants, JoinKeepsWants, NodeKeepsWants, NothingIsWanted, SubtractionKeepsWants, SubtractionsChain}
use Rattle.sf_consume.specs.Subtract.{Want}
use Rattle.sf_sym.specs.declared.tag.Tag.TheVariants as tags
use Rattle.sf_sym.specs.declared.term.Term.{Term}
use Rattle.sf_sym.specs.Holds.{term_value, IsBound}
use Rattle.sf_sym.specs.Checked.Lemmas.OtherTerms.{conjuncts-with}
use Rattle.sf_sym.specs.State.{term}

-- where no existential has a term, any values will do
none-bound : (w some : ℕ → Value) (count : ℕ) → IsBound w (replicate count None) some
none-bound w some count n t e = absurd (none-some t (sym (replicate-default None count n) ∙ e))

pub assertion_is_wanted : AssertionIsWanted
unfolding AssertionIsWanted
assertion_is_wanted w outside s count made cs heap =
    let same = conjuncts-with (term s.vars) (term_value w) cs in (
      λ (some, outer, sat). (
        some,
        outer,
        record { bound = none-bound w some count; satisfied = subst (λ z. z) (sym (same some heap)) sat },
      ),
      λ (some, outer, wanted). (some, outer, subst (λ z. z) (same some heap) wanted.satisfied),
    )

-- two parts one after the other are one part
hands-both : (one two three : Want) → Subtracts one two → Subtracts two three → (w : ℕ → Value)
    (e : Var → Option Value) (free taken : Heap) (p : HandsOver w one two e free taken)
    → HandsOver p.values two three e p.rest p.gone → HandsOver w one three e free taken
hands-both one two three first second w e free taken p q =
    let parts = splits-assoc_left q.splits p.splits in
    record {
      part = union p.part q.part;
      rest = q.rest;
      gone = q.gone;
      splits = parts.1;
      joins = (splits-assoc_right p.joins q.joins).1;
      values = q.values;
      same = λ m i. q.same m (let more = first.symbols in omega arith) ∙ p.same m i;
      holds = q.holds;
      wants = λ some more whole splits wanted.
          let cut = splits-assoc_right parts.0 splits in
          p.wants some (union q.part more) whole cut.1 (q.wants some more (union q.part more) cut.0 wanted);
    }

pub subtractions_chain : SubtractionsChain
unfolding SubtractionsChain
subtractions_chain one two three first second = record {
  formed = second.formed;
  symbols = let a = first.symbols in let b = second.symbols in omega arith;
  links = second.links ∙ first.links;
  hands = λ w e free taken h.
      let p = first.hands w e free taken h in
      hands-both one two three first second w e free taken p (second.hands p.values e p.rest p.gone p.holds);
}

pub nothing_is_wanted : NothingIsWanted
unfolding NothingIsWanted
nothing_is_wanted w some want heap e = (
  λ d. (d.bound, subst (λ cs. SatAll cs (term_value w) some heap) e d.satisfied),
  λ (bound, empty). record {
    bound = bound;
    satisfied = subst (λ cs. SatAll cs (term_value w) some heap) (sym e) empty;
  },
)

-- values of the existentials that have a term, and any others
abbrev bound_value : (ℕ → Value) → Option Term → Value
bound_value w (Some t) = term_value w t
bound_value w None = nil

value-bound : (w : ℕ → Value) (bindings : List (Option Term))
    → IsBound w bindings (λ n. bound_value w (get_or bindings n None))
value-bound w bindings n t e = ap (bound_value w) e

pub assertion_is_shown : AssertionIsShown
unfolding AssertionIsShown
assertion_is_shown s count made cs last closed subtracts over w outside e free taken h =
    let p = subtracts.hands w e free taken h in
    let val = λ (x : Expr). term_value w (term s.vars x) in
    let all : (some : ℕ → Value) → IsBound p.values last.bindings some → SatAll cs val some p.part =
    λ some bound. subst (λ z. z) (conjuncts-with (term s.vars) (term_value w) cs some p.part)
    (p.wants some empty_map p.part (splits-empty_right empty-holds) (record {
      bound = bound;
      satisfied = subst (λ ds. SatAll ds (term_value p.values) some empty_map) (sym over) empty-holds;
    })).satisfied in
    let some = λ (n : ℕ). bound_value p.values (get_or last.bindings n None) in
    record {
      hands = p;
      bound = all;
      satisfied = sat-agree (level made cs) val val some outside p.part (same val some outside made cs closed)
          (some, (λ n o. refl), all some (value-bound p.values last.bindings));
    }
  where
    same : (val : Expr → Value) (some outside : ℕ → Value) (made : Scope) (cs : Conjuncts Expr)
        → ((n : ℕ) → OccursIn (level made cs) (Exists n) → ⊥) → (x : Operand Expr) → OccursIn (level made cs) x
        → operand val some x ≡ operand val outside x
    same val some outside made cs closed (Known y) o = refl
    same val some outside made cs closed (Exists n) o = absurd (closed n o)

pub subtraction_keeps_wants : SubtractionKeepsWants
unfolding SubtractionKeepsWants BindKeepsWants SameKeepsWants ApartKeepsWants CellKeepsWants EmptyKeepsWants ExactKeepsWants HeadKeepsWants JoinKeepsWants NodeKeepsWants
subtraction_keeps_wants tags.Bind want after formed row = bind_keeps_wants want after formed row
subtraction_keeps_wants tags.Same want after formed row = same_keeps_wants want after formed row
subtraction_keeps_wants tags.Apart want after formed row = apart_keeps_wants want after formed row
subtraction_keeps_wants (tags.Cell a) want after formed row = cell_keeps_wants a want after formed row
subtraction_keeps_wants tags.Empty want after formed row = empty_keeps_wants want after formed row
subtraction_keeps_wants (tags.Exact a) want after formed row = exact_keeps_wants a want after formed row
subtraction_keeps_wants (tags.Head a) want after formed row = head_keeps_wants a want after formed row
subtraction_keeps_wants (tags.Join a) want after formed row = join_keeps_wants a want after formed row
subtraction_keeps_wants (tags.Node a) want after formed row = node_keeps_wants a want after formed row
subtraction_keeps_wants (tags.Procedure f) want after formed row = absurd (cc)
subtraction_keeps_wants tags.Absurd want after formed row = absurd (cc)
subtraction_keeps_wants (tags.Drop a) want after formed row = absurd (cc)
subtraction_keeps_wants (tags.Force a) want after formed row = absurd (cc)
subtraction_keeps_wants (tags.Split t u) want after formed row = absurd (cc)
subtraction_keeps_wants (tags.Unroll a) want after formed row = absurd (cc)
subtraction_keeps_wants (tags.Back a) want after formed row = absurd (cc)
subtraction_keeps_wants tags.Assign want after formed row = absurd (cc)
subtraction_keeps_wants (tags.Look a) want after formed row = absurd (cc)
subtraction_keeps_wants (tags.Mutate a) want after formed row = absurd (cc)
subtraction_keeps_wants tags.New want after formed row = absurd (cc)
subtraction_keeps_wants (tags.Dispose a) want after formed row = absurd (cc)
subtraction_keeps_wants tags.Then want after formed row = absurd (cc)
subtraction_keeps_wants tags.Else want after formed row = absurd (cc)
subtraction_keeps_wants tags.Loop want after formed row = absurd (cc)
subtraction_keeps_wants tags.Around want after formed row = absurd (cc)
subtraction_keeps_wants tags.Again want after formed row = absurd (cc)
subtraction_keeps_wants tags.Call want after formed row = absurd (cc)
subtraction_keeps_wants tags.Fork want after formed row = absurd (cc)
subtraction_keeps_wants tags.Enter want after formed row = absurd (cc)
subtraction_keeps_wants tags.Exit want after formed row = absurd (cc)
subtraction_keeps_wants tags.Return want after formed row = absurd (cc)
subtraction_keeps_wants tags.Give want after formed row = absurd (cc)
subtraction_keeps_wants tags.End want after formed row = absurd (cc)
subtraction_keeps_wants tags.Add want after formed row = absurd (cc)
