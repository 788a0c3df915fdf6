-- What the shape of a program's goals says of what is in front, and where a search comes to goals of that shape.
-- Names: `front-fits`, `ready-of`; the laws have the names of the functions whose contracts they are.
use Rattle.std.specs.List.{AllByRecursion, slice_get}
use Rattle.std.proofs.Common.{◌≡◌, ◌-◌, ◌^◌, ◌<◌, ◌&&◌, true, is_some, List, [], ◌∷◌, length, sym, ap₂, subst, arith}
use Rattle.std.proofs.lemmas.Bool.{le-leb}
use Rattle.sf_calls.specs.Changes.{changes_in}
use Rattle.sf_calls.specs.Checked.Laws.{ConditionsFromTruncation}
use Rattle.sf_consume.specs.Subtract.{new_symbols}
use Rattle.sf_core.specs.declared.fields.Links.{Links}
use Rattle.sf_core.specs.Program.ProgramView.{program_of}
use Rattle.sf_core.specs.Program.Syntax.{Command, assign, look_up, mutate, new, dispose, if, while, call, fork, with}
use Rattle.sf_produce.specs.Add.{operands}
use Rattle.sf_rules.specs.Checked.LawsOfSettings.{ArrangedHasSetting}
use Rattle.sf_rules.specs.Checked.LawsOfShape.{FirstGoalsAreSmall, GoalsAreShaped}
use Rattle.sf_rules.specs.Checked.Lemmas.FewNew.{few-new_symbols, few-operands}
use Rattle.sf_rules.specs.declared.few.TheConstants.{TOO_MANY}
use Rattle.sf_rules.specs.Rules.{has_numbers}
use Rattle.sf_rules.specs.Setting.{Setting}
use Rattle.sf_rules.specs.Shape.{CommandFits, HasLinks, IsShaped, TodoFits, WholeFits}
use Rattle.sf_search.specs.Checked.ShapeLaws.{ArrangedIsSetUp, GoalsHaveShape}
use Rattle.sf_sym.specs.Below.{AreBelow}
use Rattle.sf_sym.specs.declared.atom.Numbered.{Numbered}
use Rattle.sf_sym.specs.Formed.{ItemFormed, are_some}
use Rattle.sf_sym.specs.Goal.{Item, run, add, take, gave, head, again, exit, return, end, Goal}
use Rattle.sf_sym.specs.Numbers.{AreRising, numbers}

-- WHAT IS IN FRONT there is something to do, and it needs few new symbols
abbrev pub FrontFits : Setting → List Item → Type 0
FrontFits d [] = ⊥
FrontFits d (run c ∷ rest) = CommandFits d c
FrontFits d (add p given ∷ rest) =
    (are_some given.conjuncts ≡ true) × (operands given.conjuncts < TOO_MANY)
FrontFits d (take p want names ∷ rest) = new_symbols want.conjuncts < TOO_MANY
FrontFits d (gave p set removed ∷ rest) = Unit {0}
FrontFits d (head p test invariant body ∷ rest) = length (changes_in d.sets body) < TOO_MANY
FrontFits d (again p invariant ∷ rest) = Unit {0}
FrontFits d (exit p r ∷ rest) = is_some (slice_get d.program.resources r.0) ≡ true
FrontFits d (return p post ∷ rest) = Unit {0}
FrontFits d (end p ∷ rest) = Unit {0}

front-fits : (d : Setting) (links : Links) (todo : List Item) → AllByRecursion (ItemFormed links) todo
    → TodoFits d todo → FrontFits d todo
front-fits d links [] f t = t
front-fits d links (run c ∷ rest) f t = command c t.0
  where
    command : (c : Command) → WholeFits d c → CommandFits d c
    command (assign p x e) w = tt
    command (look_up p x e field) w = tt
    command (mutate p e field v) w = tt
    command (new p x) w = tt
    command (dispose p e) w = tt
    command (if p t this that) w = tt
    command (while p t invariant body) w = tt
    command (call p c) w = w
    command (fork p c e) w = w
    command (with p r t body) w = w.0
front-fits d links (add p given ∷ rest) f t =
    (f.0.2, few-operands links (length given.bindings) given.conjuncts f.0.0)
front-fits d links (take p want names ∷ rest) f t =
    few-new_symbols links (length want.bindings) want.conjuncts f.0
front-fits d links (gave p set removed ∷ rest) f t = tt
front-fits d links (head p test invariant body ∷ rest) f t = t.1
front-fits d links (again p invariant ∷ rest) f t = tt
front-fits d links (exit p r ∷ rest) f t = t.0
front-fits d links (return p post ∷ rest) f t = tt
front-fits d links (end p ∷ rest) f t = tt

-- what the strategy rests on, where numbers suffice
pub record IsReady (d : Setting) (goal : Goal) : Type 0 where
  pub rising : AreRising (numbers goal.state.atoms)
  pub below : AreBelow goal
  pub links : AllByRecursion (λ (a : Numbered). HasLinks goal.state.links a.atom) goal.state.atoms
  pub numbers : has_numbers goal.state ≡ true
  pub front : FrontFits d goal.todo

pub ready-of : (d : Setting) (goal : Goal) → IsShaped d goal → has_numbers goal.state ≡ true → IsReady d goal
ready-of d goal h numbers = record {
  rising = h.state.rising;
  below = h.shape.below;
  links = subst (λ links. AllByRecursion (λ (a : Numbered). HasLinks links a.atom) goal.state.atoms)
      (sym h.state.links) h.state.atoms;
  numbers = numbers;
  front = front-fits d goal.state.links goal.todo h.shape.formed h.todo;
}

-- THE LAWS
pub goals_have_shape : GoalsAreShaped → FirstGoalsAreSmall → GoalsHaveShape
unfolding GoalsAreShaped FirstGoalsAreSmall GoalsHaveShape
goals_have_shape shaped small d up f g there tags goal after within =
    let k = shaped d up f g there tags goal after in
    let first = small d up f g there in (
      k.shaped,
      ap₂ ◌&&◌ (le-leb goal.state.next_sym (2 ^ 32 - TOO_MANY) (omega (arith, k.symbols, first.0, within)))
          (le-leb goal.state.next_atom (2 ^ 32 - TOO_MANY) (omega (arith, k.atoms, first.1, within))),
    )

pub arranged_is_set_up : ConditionsFromTruncation → ArrangedHasSetting → ArrangedIsSetUp
unfolding ArrangedIsSetUp ArrangedHasSetting
arranged_is_set_up kept has in_order a ordering = record {
  formed = a.program.formed;
  conditions = kept (program_of a.program) a.conditions;
  setting = has in_order a ordering;
}
