use Rattle.std.proofs.Common.{◌≡◌, ◌∷◌, ◌+◌, ◌∙◌, Bool, drop, get_or, map, add-one, drop-cons}
use Rattle.sf_ast.specs.declared.word.Word.{Word}
use Rattle.sf_core.specs.Program.View.{command_of}
use Rattle.sf_elab.specs.Names.Table.{has}
use Rattle.sf_elab.specs.Names.Texts.{text}
use Rattle.sf_elab.proofs.Bodies.Beginnings.{values_more, first_more, primed_more, declared_more}
use Rattle.sf_elab.proofs.procedures.declare_values.Goals as goal

pub loop-word-preserved : goal.loop-word-preserved
loop-word-preserved c =
    let bytes = c.args.bytes.now in
    let primed : Word → Bool = λ w. has (text bytes w) c.args.set.now in
    let ws = c.args.words.now in
    let i = c.loop-word.word-index in
    let none : Word = record { start = 0; end = 0; place = record { line = 0; column = 0 } } in
    let w : Word = get_or ws i none in
    let next : drop i ws ≡ w ∷ drop (i + 1) ws = rw (add-one) (drop-cons ws i none c.loop-word-test.true) in
    let old = c.loop-word.body in
    let new = c.declare_value.new.body in
    let step = c.in_ok-declare_value.ensures in
    record {
      declared = declared_more bytes primed ws i w next old.declared new.declared old.names new.names step.declared step.names ∙ c.loop-word.invariant.declared;
      own = values_more bytes primed ws i w next old.declared new.declared old.names new.names step.declared step.names old.own new.own step.own ∙ c.loop-word.invariant.own;
      names = primed_more bytes primed ws i w next old.declared new.declared old.names new.names step.declared step.names ∙ c.loop-word.invariant.names;
      first = first_more bytes primed ws i w next old.declared new.declared old.names new.names step.declared step.names c.args.at (map command_of old.first.items) (map command_of new.first.items) step.first ∙ c.loop-word.invariant.first;
    }
