-- That a program which tags prove is accepted.
-- Names: `proved-WHAT`.
use Rattle.std.specs.Prelude.{List, [], ◌∷◌, map, Contains}
use Rattle.std.proofs.Common.{inl, inr, subst}
use Rattle.sf_base.proofs.Elements.{contains-cons, contains-nil}
use Rattle.sf_calls.specs.Checked.Laws.{ConditionsFromTruncation, SetsFromTruncation}
use Rattle.sf_check.specs.Proven.{Proven}
use Rattle.sf_core.specs.Assertions.Determined.{Determined}
use Rattle.sf_core.specs.Program.ProgramView.{program_of}
use Rattle.sf_core.specs.Program.Syntax.{Assertion}
use Rattle.sf_core.specs.Program.View.{assertion_of}
use Rattle.sf_precise.specs.Annotations.{AreOrdersOf, annotations_in}
use Rattle.sf_precise.specs.declared.arranged.Arranged.{Arranged}
use Rattle.sf_precise.specs.Checked.Laws.{OrderedIsDetermined, OrdersFromTruncation}
use Rattle.sf_rules.specs.Setting.{setting_of}
use Rattle.sf_own.specs.Checked.Accepted.{IsAccepted}
use Rattle.sf_sound.specs.Checked.Bodies.{ProvedBodiesAreSafe}
use Rattle.sf_sym.specs.declared.tag.Tag.{Tag}

-- annotations that have an order are determined
proved-determined : OrderedIsDetermined → (notes orders : List Assertion) → AreOrdersOf notes orders
    → (a : Assertion) → Contains notes a → Determined a.level
proved-determined law [] orders are a among = absurd (contains-nil a among)
proved-determined law (note ∷ notes) [] are a among = absurd are
proved-determined law (note ∷ notes) (order ∷ orders) are a among =
    elim ((contains-cons note notes a).0 among) [
      | inl e ↦ subst (λ (b : Assertion). Determined b.level) e
          (law note.level order.level ((are.0).level)).0
      | inr later ↦ proved-determined law notes orders are.1 a later
    ]

-- so what the code has arranged is accepted, if tags prove it
pub proved-accepted : ProvedBodiesAreSafe → ConditionsFromTruncation → SetsFromTruncation
    → OrdersFromTruncation → OrderedIsDetermined → (a : Arranged) (tags : List Tag) → Proven a tags
    → IsAccepted (program_of a.program)
unfolding ProvedBodiesAreSafe
proved-accepted safe conditions sets orders determined a tags (in_order, ordering, proves) =
    let kept = conditions (program_of a.program) a.conditions in
    let all = proved-determined determined (annotations_in (program_of a.program))
    (map (λ o. assertion_of o.assertion) a.orders.items) (orders _ _ a.ordered) in
    record {
      formed = a.program.formed;
      conditions = kept;
      determined = all;
      bodies = safe (setting_of in_order a) tags a.program.formed kept
          (sets (program_of a.program) a.calls a.sets) all ordering proves;
    }
