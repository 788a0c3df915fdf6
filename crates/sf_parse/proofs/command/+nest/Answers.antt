use Rattle.std.proofs.Common.{◌≡◌, List, [], ◌∷◌, ◌++◌, ◌∙◌, map, ap, sym, subst}
use Rattle.std.proofs.lemmas.List.{map_push}
use Rattle.sf_ast.specs.View.{command_of, commands}
use Rattle.sf_parse.specs.Leaf.{Leaf, leaves}
use Rattle.sf_parse.specs.Grammar as g
use Rattle.sf_parse.specs.Grammar.{expr}
use Rattle.sf_parse.specs.Checked.Machine as m
use Rattle.sf_parse.specs.Nesting.{CommandsWithin}
use Rattle.sf_parse.proofs.Grammar.CommandsLonger.{fewer_behind_command}
use Rattle.sf_parse.proofs.Parser.Levels.{if_within, if_nearest, another_command, commands_push, within_push, nearest_push}
use Rattle.sf_parse.proofs.command.+nest.Goals as goal

pub commands-loop-alloc-smaller : goal.commands-loop-alloc-smaller
commands-loop-alloc-smaller t c = fewer_behind_command (command_of c.in_ok-one.one) c.loop-alloc.rest.now c.in_ok-one.after.now c.in_ok-one.ensures.spelled

pub commands-loop-alloc-preserved : goal.commands-loop-alloc-preserved
commands-loop-alloc-preserved t c =
    let cs = map command_of c.loop-alloc.found.items in
    let x = command_of c.in_ok-one.one in
    let r = leaves c.in_ok-one.after.now in
    let e : map command_of c.add.new.found.items ≡ cs ++ x ∷ [] = rw c.in_ok-add.ensures (map_push _ c.loop-alloc.found.items c.in_ok-one.one) in
    record {
      spelled = rw e (c.loop-alloc.invariant.spelled ∙ ap (λ (z : List Leaf). g.commands (commands cs) z) c.in_ok-one.ensures.spelled ∙ sym (commands_push cs x r));
      within = rw e (within_push cs x c.args.depth r (subst (λ (z : List Leaf). CommandsWithin (commands cs) 0 c.args.depth z) c.in_ok-one.ensures.spelled c.loop-alloc.invariant.within) c.in_ok-one.ensures.within);
      nearest = rw e (nearest_push cs x c.loop-alloc.invariant.nearest c.in_ok-one.ensures.nearest);
      taken = λ st.
          c.loop-alloc.invariant.taken st ∙ another_command c.args.depth c.loop-alloc.rest.now st (sym c.begins_command.ensures ∙ c.loop-alloc-test.true) ∙ c.in_ok-one.ensures.taken (m.commands c.args.depth ∷ st);
    }

pub if_command-returns-clause-nearest : goal.if_command-returns-clause-nearest
if_command-returns-clause-nearest t c =
    rw c.in_ok-if_node.ensures (
    if_nearest c.args.place c.in_ok-condition.condition (command_of c.in_ok-then.then) (command_of c.in_ok-otherwise.otherwise) (leaves c.in_ok-then.rest.now) (leaves c.in-Some.after.now)
    c.in-Some.ensures.spelled c.in_ok-then.ensures.nearest c.in_ok-then.ensures.follows c.in_ok-otherwise.ensures.nearest)

pub if_command-returns-clause-within : goal.if_command-returns-clause-within
if_command-returns-clause-within t c =
    rw c.in_ok-if_node.ensures (
    if_within c.args.place c.in_ok-condition.condition (command_of c.in_ok-then.then) (command_of c.in_ok-otherwise.otherwise) c.args.depth (leaves c.in_ok-then.rest.now) (leaves c.in-Some.after.now) (leaves c.in_ok-otherwise.after.now)
    c.requires c.in-Some.ensures.spelled c.in_ok-otherwise.ensures.spelled c.in_ok-then.ensures.within c.in_ok-otherwise.ensures.within)
