-- Each row of the table is a rule.
-- Names: `TAG-rule` of the row of that tag.
use Rattle.std.proofs.Common.{◌≡◌, inl, inr, ℕ, ◌+◌, ◌&&◌, ◌||◌, not, Bool, true, false, length, length-append, nat_lt, Option, Some, None, List, [], ◌∷◌, ◌++◌, refl, sym, ap, ◌∙◌, subst}
use Rattle.std.specs.Prelude.{set}
use Rattle.std.specs.List.{slice_get}
use Rattle.std.specs.Option.{option_and_then, option_map}
use Rattle.std.proofs.lemmas.Bool.Decides.{Decides-ltb}
use Rattle.std.proofs.lemmas.Option.{cond_some, none-some, option_and_then_some, same_Some}
use Rattle.sf_base.specs.declared.ids.FieldId.{FieldId}
use Rattle.sf_base.specs.declared.place.Place.{Place}
use Rattle.sf_calls.specs.Changes.{changed}
use Rattle.sf_consume.specs.Subtract.{Fit, Want, apart_step, bind_step, binding, both, cell_step, double_joined, empty_step, exact_step, exact_there, fit_fields, fit_known, fitting, four, handed_cell, head_step, is_same_shape, join_step, joined, link, node_step, one_binding, removed, same_step, unbound, wanted_shape}
use Rattle.sf_consume.specs.Wants.{still_wanted}
use Rattle.sf_core.specs.declared.assertion.Operand.{Operand}
use Rattle.sf_core.specs.declared.assertion.Operand.TheVariants.{Known}
use Rattle.sf_core.specs.declared.assertion.Test.TheVariants.{True, Equal, Differ}
use Rattle.sf_core.specs.Program.Syntax.{Conjunct, Conjuncts, also, holds, points, segment, doubly, tree, choose, assign, look_up, mutate, new, dispose, if, while, call, fork, with}
use Rattle.sf_normal.specs.Knowledge.{absurd_row, back_one, back_row, drop_row, force_row, split_row, unroll_row, unroll_one, unrolled_double, unrolled_last, unrolled_segment, unrolled_tree}
use Rattle.sf_produce.specs.Add.{met, met_fields}
use Rattle.sf_rules.specs.declared.few.TheConstants.{TOO_MANY}
use Rattle.sf_rules.specs.Checked.Lemmas.FreshVariables.{fresh-length}
use Rattle.sf_rules.specs.Checked.Lemmas.RowParts.{and-both, not-true, cond-then, mapped, tests-apart, forced-spans, is-nothing, shape-same, shape-wanted, cell-atom, both-terms, four-wanted, known-is, link-field, fit-fits, met-meets, states-then, fields-meet, unbound-is, first-left, first-one}
use Rattle.sf_rules.specs.Checked.Lemmas.RuleRows.{fields-same, fit}
use Rattle.sf_rules.specs.Rules.{has_numbers, Leaves, Rule, Goes, command_goes, assumed_goes, shown_goes, Meets, has, met_first, MeetsAll, all_met, one_met, FieldIs, known, missing, Fits, all_fit, fits_known, fits_new, Wanted, needed, needed_to_assume, needed_to_show, next_at, assume, assume_rest, show, show_rest, ◌⊢◌}
use Rattle.sf_rules.specs.Checked.Rows.Add.{assume_row}
use Rattle.sf_rules.specs.Checked.Rows.Branches.{branch_row, chosen}
use Rattle.sf_rules.specs.Checked.Rows.Calls.{call_row, called, fork_row, forked, give_row}
use Rattle.sf_rules.specs.Checked.Rows.Commands.{assign_row, dispose_row, look_row, looked, mutate_row, new_row}
use Rattle.sf_rules.specs.Checked.Rows.Ends.{end_row, is_empty, return_row}
use Rattle.sf_rules.specs.Checked.Rows.Front.{at_add, at_again, at_command, at_end, at_exit, at_gave, at_head, at_return, at_take}
use Rattle.sf_rules.specs.Checked.Rows.Loops.{again_row, around_row, loop_row}
use Rattle.sf_rules.specs.Checked.Rows.Regions.{enter_row, entered, exit_row}
use Rattle.sf_rules.specs.Checked.Rows.Take.{subtract_row}
use Rattle.sf_rules.specs.Checked.Rows.Whole.{row, row_of}
use Rattle.sf_rules.specs.Rules as rule
use Rattle.sf_rules.specs.Rules.{IsElsewhere}
use Rattle.sf_rules.specs.Setting.{Setting}
use Rattle.sf_sym.specs.Below.{is_below}
use Rattle.sf_sym.specs.Cells.{atom_at, cell_at, handed, state_after_write, with_atom, with_cell, without}
use Rattle.sf_sym.specs.Checked.Lemmas.{same_term_is}
use Rattle.sf_sym.specs.Decided.{command_test, is_decided, term_of, test_of_terms}
use Rattle.sf_sym.specs.declared.atom.Atom.{Atom}
use Rattle.sf_sym.specs.declared.atom.Atom.TheVariants.{Points, Ls, Tree, Dll}
use Rattle.sf_sym.specs.declared.atom.Numbered.{Numbered}
use Rattle.sf_sym.specs.declared.tag.Tag.{Tag}
use Rattle.sf_sym.specs.declared.tag.Tag.TheVariants as tag
use Rattle.sf_sym.specs.declared.term.Term.{Term}
use Rattle.sf_sym.specs.declared.term.Term.TheVariants.{Nil}
use Rattle.sf_sym.specs.Equalities.{assumed_apart, assumed_equal}
use Rattle.sf_sym.specs.Fields.{field_term}
use Rattle.sf_sym.specs.Goal.{Goal, Item, one_goal, run, add, take, gave, head, again, exit, return, end, adding, taking}
use Rattle.sf_sym.specs.Known.{forced_pair, is_nothing}
use Rattle.sf_sym.specs.Pending.{existentials_in, one_if_existential}
use Rattle.sf_sym.specs.State.{State, term}
use Rattle.sf_sym.specs.Tests.{allocated, differs, is_absurd, is_constant, same_term}
use Rattle.sf_sym.specs.Variables.{fresh_for, set_var}

-- the rule that leaves these goals, where others are the same
leaves : {d : Setting} {s : State} {todo : List Item} {tag : Tag} (made left : List Goal)
    → made ≡ left
    → Rule d s todo tag made → Rule d s todo tag left
leaves {d} {s} {todo} {tag} made left e r = subst (Rule d s todo tag) e r

-- what a tag needs isn't too much
abbrev IsFew : ℕ → Type 0
IsFew n = nat_lt n TOO_MANY ≡ true

module _ (d : Setting) (s : State) (left : List Goal) where
  -- WHAT IS KNOWN
  absurd-rule : (todo : List Item) → absurd_row (s ⊢ todo) ≡ Some left
      → Rule d s todo tag.Absurd left
  absurd-rule todo e = let b = cond_some (is_absurd s) [] left e in
      leaves [] left b.1 (rule.absurd_state b.0)

  drop-rule : (todo : List Item) (a : ℕ) → drop_row (s ⊢ todo) a ≡ Some left
      → Rule d s todo (tag.Drop a) left
  drop-rule todo a e = option_and_then_some _ (atom_at s.atoms a) left e (λ x there k.
      let b = cond_some (is_nothing x) _ left k in
      leaves _ left b.1 (rule.drop there (is-nothing x b.0)))

  force-rule : (todo : List Item) (a : ℕ) → force_row (s ⊢ todo) a ≡ Some left
      → Rule d s todo (tag.Force a) left
  force-rule todo a e =
      mapped (λ (v : Term × Term). assumed_equal v.0 v.1 (s ⊢ todo) ∷ [])
      (option_and_then (forced_pair s a) (atom_at s.atoms a)) left e (λ v there k.
      option_and_then_some (forced_pair s a) (atom_at s.atoms a) v there (λ x at is.
      elim (forced-spans s a x v is) [
        | inl f ↦ leaves _ left k (rule.force at f.0 (tests-apart v.0 v.1 f.1) f.2)
        | inr f ↦ leaves _ left k (rule.force_ends (at ∙ ap Some f.1) (tests-apart v.0 v.1 f.2))
      ]))

  split-rule : (todo : List Item) (t u : Term) → split_row (s ⊢ todo) t u ≡ Some left
      → Rule d s todo (tag.Split t u) left
  split-rule todo t u e =
      let b =
      cond_some
      (not (same_term t u) && (is_below s.next_sym t && is_below s.next_sym u)) _ left e in
      let both = and-both (not (same_term t u)) _ b.0 in
      let below = and-both (is_below s.next_sym t) _ both.1 in
      leaves _ left b.1
      (rule.split (tests-apart t u (not-true (same_term t u) both.0)) below.0 below.1)

  list-links : (todo : List Item) (a : ℕ) (t u : Term) → atom_at s.atoms a ≡ Some (Ls t u)
      → differs s t u ≡ true
      → (o : Option FieldId) → s.links.tl ≡ o
      → option_map (λ z. (z ⊢ todo) ∷ [])
      (unrolled_segment o t u (record s { atoms = without s.atoms a })) ≡ Some left
      → Rule d s todo (tag.Unroll a) left
  list-links todo a t u there differ None at k = absurd (cc)
  list-links todo a t u there differ (Some next) at k =
      leaves _ left (same_Some _ left k) (rule.unroll_list there differ at)

  -- an unrolling that needs two links, where the goal that it leaves goes by them
  two-links : (unrolled : Option FieldId → Option FieldId → Option State) → ((q : Option FieldId) → unrolled None q ≡ None)
      → ((one : FieldId) → unrolled (Some one) None ≡ None) → (todo : List Item) (tag : Tag) (o q : Option FieldId)
      →
      ((one two : FieldId) → o ≡ Some one → q ≡ Some two
      → option_map (λ z. (z ⊢ todo) ∷ []) (unrolled (Some one) (Some two)) ≡ Some left → Rule d s todo tag left)
      → option_map (λ z. (z ⊢ todo) ∷ []) (unrolled o q) ≡ Some left → Rule d s todo tag left
  two-links unrolled no_one no_two todo tag None q then k =
      absurd (none-some left (sym (ap (option_map (λ z. (z ⊢ todo) ∷ [])) (no_one q)) ∙ k))
  two-links unrolled no_one no_two todo tag (Some one) None then k =
      absurd (none-some left (sym (ap (option_map (λ z. (z ⊢ todo) ∷ [])) (no_two one)) ∙ k))
  two-links unrolled no_one no_two todo tag (Some one) (Some two) then k = then one two refl refl k

  unroll-rule : (todo : List Item) (a : ℕ) → unroll_row (s ⊢ todo) a ≡ Some left
      → Rule d s todo (tag.Unroll a) left
  unroll-rule todo a e = option_and_then_some _ (atom_at s.atoms a) left e go
    where
      go : (x : Atom) → atom_at s.atoms a ≡ Some x → unroll_one (s ⊢ todo) a x ≡ Some left
          → Rule d s todo (tag.Unroll a) left
      go (Points t fs) there k = absurd (cc)
      go (Ls t u) there k =
          let b = cond-then (differs s t u) _ left k in
          list-links todo a t u there b.0 s.links.tl refl b.1
      go (Tree t) there k =
          let b = cond-then (differs s t Nil) _ left k in
          two-links (λ o q. unrolled_tree o q t (record s { atoms = without s.atoms a })) (λ q. refl) (λ one. refl) todo
          (tag.Unroll a) s.links.l s.links.r
          (λ one two l r z. leaves _ left (same_Some _ left z) (rule.unroll_tree there b.0 l r)) b.1
      go (Dll t p l u) there k =
          let b = cond-then (differs s t u) _ left k in
          two-links (λ o q. unrolled_double o q t p l u (record s { atoms = without s.atoms a })) (λ q. refl)
          (λ one. refl) todo (tag.Unroll a) s.links.tl s.links.pv
          (λ next back tl pv z. leaves _ left (same_Some _ left z) (rule.unroll_double there b.0 tl pv)) b.1

  back-rule : (todo : List Item) (a : ℕ) → back_row (s ⊢ todo) a ≡ Some left
      → Rule d s todo (tag.Back a) left
  back-rule todo a e = option_and_then_some _ (atom_at s.atoms a) left e go
    where
      go : (x : Atom) → atom_at s.atoms a ≡ Some x → back_one (s ⊢ todo) a x ≡ Some left
          → Rule d s todo (tag.Back a) left
      go (Points t fs) there k = absurd (cc)
      go (Ls t u) there k = absurd (cc)
      go (Tree t) there k = absurd (cc)
      go (Dll t p l u) there k =
          let b = cond-then (differs s t u) _ left k in
          two-links (λ o q. unrolled_last o q t p l u (record s { atoms = without s.atoms a })) (λ q. refl)
          (λ one. refl) todo (tag.Back a) s.links.tl s.links.pv
          (λ next back tl pv z. leaves _ left (same_Some _ left z) (rule.back there b.0 tl pv)) b.1

  -- COMMANDS
  assign-rule : (todo : List Item) → at_command (assign_row s) todo ≡ Some left
      → Rule d s todo tag.Assign left
  assign-rule (run (assign p x e) ∷ rest) k = leaves _ left (same_Some _ left k) rule.assign
  assign-rule _ k = absurd (cc)

  look-rule : (todo : List Item) (a : ℕ) → at_command (look_row a s) todo ≡ Some left
      → Rule d s todo (tag.Look a) left
  look-rule (run (look_up p x e f) ∷ rest) a k =
      option_and_then_some _ (cell_at s.atoms a (term s.vars e)) left k (λ fs found j.
      go fs found (cell-atom s.atoms a _ fs found) (field_term fs f) refl j)
    where
      go : (fs : List (FieldId × Term)) → cell_at s.atoms a (term s.vars e) ≡ Some fs
          → atom_at s.atoms a ≡ Some (Points (term s.vars e) fs) → (o : Option Term)
          → field_term fs f ≡ o
          → option_and_then (λ after. one_goal after rest) (looked s (term s.vars e) f a x.var o)
          ≡ Some left
          → Rule d s (run (look_up p x e f) ∷ rest) (tag.Look a) left
      go fs found there (Some t) at j =
          leaves _ left
          (ap (λ xs. (record s { atoms = xs; vars = set_var x.var t s.vars } ⊢ rest) ∷ [])
          (fields-same s.atoms a (term s.vars e) fs there) ∙ same_Some _ left j)
          (rule.look there (known at))
      go fs found there None at j =
          leaves _ left (same_Some _ left (rw found at j)) (rule.look there (missing at))
  look-rule _ a k = absurd (cc)

  mutate-rule : (todo : List Item) (a : ℕ) → at_command (mutate_row a s) todo ≡ Some left
      → Rule d s todo (tag.Mutate a) left
  mutate-rule (run (mutate p e f v) ∷ rest) a k =
      option_and_then_some _ (state_after_write s (term s.vars e) f (term s.vars v) a) left k
      (λ after at j.
      mapped _ (cell_at s.atoms a (term s.vars e)) after at (λ fs found is.
      leaves _ left (ap (λ z. (z ⊢ rest) ∷ []) is ∙ same_Some _ left j)
      (rule.mutate (cell-atom s.atoms a _ fs found))))
  mutate-rule _ a k = absurd (cc)

  new-rule : (todo : List Item) → at_command (new_row s) todo ≡ Some left
      → Rule d s todo tag.New left
  new-rule (run (new p x) ∷ rest) k = leaves _ left (same_Some _ left k) rule.new
  new-rule _ k = absurd (cc)

  dispose-rule : (todo : List Item) (a : ℕ) → at_command (dispose_row a s) todo ≡ Some left
      → Rule d s todo (tag.Dispose a) left
  dispose-rule (run (dispose p e) ∷ rest) a k =
      option_and_then_some _ (cell_at s.atoms a (term s.vars e)) left k (λ fs found j.
      leaves _ left (same_Some _ left j) (rule.dispose (cell-atom s.atoms a _ fs found)))
  dispose-rule _ a k = absurd (cc)

  -- CHOICES
  module _ (so : Bool) (step : Tag)
      (make : (choice : Item) (branch rest : List Item) → Goes so s choice branch
      → Rule d s (choice ∷ rest) step ((s ⊢ branch ++ rest) ∷ [])) where
    assumed-choice : (p : Place) (cs : Conjuncts Term) (terms : List (Option Term))
        (rest : List Item)
        → option_and_then (λ z. one_goal s (adding p z ++ rest))
        (chosen so s (record { conjuncts = cs; bindings = terms }) cs) ≡ Some left
        → Rule d s (assume p cs terms ∷ rest) step left
    assumed-choice p (also (choose q t this that) cs) terms rest k =
        option_and_then_some _
        (chosen so s (record { conjuncts = also (choose q t this that) cs; bindings = terms })
        (also (choose q t this that) cs)) left k (λ z at j.
        option_and_then_some _ (test_of_terms terms t) z at (λ test are i.
        let b = cond_some (is_decided so s test) _ z i in
        leaves _ left (ap (λ y. (s ⊢ adding p y ++ rest) ∷ []) b.1 ∙ same_Some _ left j)
        (make _ _ rest (assumed_goes are b.0))))
    assumed-choice p _ terms rest k = absurd (cc)

    shown-choice : (p : Place) (cs : Conjuncts Term) (terms : List (Option Term))
        (names : List (List ℕ)) (rest : List Item)
        → option_and_then (λ z. one_goal s (taking p z names ++ rest))
        (chosen so s (record { conjuncts = cs; bindings = terms }) cs) ≡ Some left
        → Rule d s (show p cs terms names ∷ rest) step left
    shown-choice p (also (choose q t this that) cs) terms names rest k =
        option_and_then_some _
        (chosen so s (record { conjuncts = also (choose q t this that) cs; bindings = terms })
        (also (choose q t this that) cs)) left k (λ z at j.
        option_and_then_some _ (test_of_terms terms t) z at (λ test are i.
        let b = cond_some (is_decided so s test) _ z i in
        leaves _ left (ap (λ y. (s ⊢ taking p y names ++ rest) ∷ []) b.1 ∙ same_Some _ left j)
        (make _ _ rest (shown_goes are b.0))))
    shown-choice p _ terms names rest k = absurd (cc)

    choice-rule : (todo : List Item) → branch_row so s todo ≡ Some left → Rule d s todo step left
    choice-rule (run (if p t this that) ∷ rest) k =
        let b = cond-then (is_decided so s (command_test (term s.vars) t)) _ left k in
        leaves _ left (same_Some _ left b.1) (make _ _ rest (command_goes b.0))
    choice-rule (add p given ∷ rest) k = assumed-choice p given.conjuncts given.bindings rest k
    choice-rule (take p want names ∷ rest) k =
        shown-choice p want.conjuncts want.bindings names rest k
    choice-rule _ k = absurd (cc)

  -- LOOPS
  loop-rule : (todo : List Item) → at_command (loop_row d s) todo ≡ Some left
      → Rule d s todo tag.Loop left
  loop-rule (run (while p t invariant body) ∷ rest) k = leaves _ left (same_Some _ left k) rule.loop
  loop-rule _ k = absurd (cc)

  around-rule : (todo : List Item) → at_head (around_row d s) todo ≡ Some left
      → Rule d s todo tag.Around left × IsFew (needed d s tag.Around todo)
  around-rule (head p t invariant body ∷ rest) k =
      let b = cond_some _ _ left k in (leaves _ left b.1 rule.around, b.0)
  around-rule _ k = absurd (cc)

  again-rule : (todo : List Item) → at_again (again_row d s) todo ≡ Some left
      → Rule d s todo tag.Again left
  again-rule (again p invariant ∷ rest) k = leaves _ left (same_Some _ left k) rule.again
  again-rule _ k = absurd (cc)

  -- CALLS
  call-rule : (todo : List Item) → at_command (call_row d s) todo ≡ Some left
      → Rule d s todo tag.Call left × IsFew (needed d s tag.Call todo)
  call-rule (run (call p c) ∷ rest) k =
      option_and_then_some (called d s p c rest) (slice_get d.program.procedures c.callee.0) left k
      (λ g there j.
      let b =
      cond_some
      (nat_lt (length (fresh_for s.next_sym (changed d.sets c))) TOO_MANY) _ left j in (
        leaves _ left b.1 (rule.call there),
        subst (λ z. IsFew z) (fresh-length s.next_sym (changed d.sets c)) b.0,
      ))
  call-rule _ k = absurd (cc)

  fork-rule : (todo : List Item) → at_command (fork_row d s) todo ≡ Some left
      → Rule d s todo tag.Fork left × IsFew (needed d s tag.Fork todo)
  fork-rule (run (fork p c e) ∷ rest) k =
      option_and_then_some _ (slice_get d.program.procedures c.callee.0) left k (λ g there j.
      option_and_then_some (forked d s p c e rest g)
      (slice_get d.program.procedures e.callee.0) left j (λ h also_there i.
      let xs = fresh_for s.next_sym (changed d.sets c) in
      let ys = fresh_for (s.next_sym + length xs) (changed d.sets e) in
      let b = cond_some (nat_lt (length (xs ++ ys)) TOO_MANY) _ left i in
      let one : length xs ≡ length (changed d.sets c) =
      fresh-length s.next_sym (changed d.sets c) in
      let two : length ys ≡ length (changed d.sets e) =
      fresh-length (s.next_sym + length xs) (changed d.sets e) in
      let all : length (xs ++ ys) ≡ length (changed d.sets c) + length (changed d.sets e) =
      length-append xs ys ∙ ap (λ z. z + length ys) one
      ∙ ap (λ z. length (changed d.sets c) + z) two in
      (leaves _ left b.1 (rule.fork there also_there), subst (λ z. IsFew z) all b.0)))
  fork-rule _ k = absurd (cc)

  -- REGIONS
  enter-rule : (todo : List Item) → at_command (enter_row d s) todo ≡ Some left
      → Rule d s todo tag.Enter left × IsFew (needed d s tag.Enter todo)
  enter-rule (run (with p r t body) ∷ rest) k =
      option_and_then_some (entered d s p r t body rest) (slice_get d.program.resources r.0) left k
      (λ of there j.
      let b = cond_some _ _ left j in
      (leaves _ left b.1 (rule.enter there), rw there b.0))
  enter-rule _ k = absurd (cc)

  exit-rule : (todo : List Item) → at_exit (exit_row d s) todo ≡ Some left
      → Rule d s todo tag.Exit left
  exit-rule (exit p r ∷ rest) k =
      option_and_then_some _ (slice_get d.program.resources r.0) left k (λ of there j.
      leaves _ left (same_Some _ left j) (rule.exit there))
  exit-rule _ k = absurd (cc)

  -- ENDS
  return-rule : (todo : List Item) → at_return (return_row s) todo ≡ Some left
      → Rule d s todo tag.Return left
  return-rule (return p owed ∷ rest) k = leaves _ left (same_Some _ left k) rule.return
  return-rule _ k = absurd (cc)

  give-rule : (todo : List Item) → at_gave (give_row s) todo ≡ Some left
      → Rule d s todo tag.Give left
  give-rule (gave p terms gone ∷ rest) k = leaves _ left (same_Some _ left k) rule.give
  give-rule _ k = absurd (cc)

  end-rule : (todo : List Item) → at_end (end_row s) todo ≡ Some left → Rule d s todo tag.End left
  end-rule (end p ∷ rest) k =
      let b = cond_some (is_empty s.atoms) [] left k in
      leaves [] left b.1 (rule.end (none-left s.atoms b.0))
    where
      none-left : (xs : List Numbered) → is_empty xs ≡ true → xs ≡ []
      none-left [] e = refl
      none-left (x ∷ xs) e = absurd (cc)
  end-rule _ k = absurd (cc)

  -- WHAT IS ASSUMED
  -- two operands that are met in turn, and the state after them
  met-both : (terms : List (Option Term)) (x y : Operand Term)
      → (let one = met s terms x in
      let two = met one.state one.bindings y in
      Meets s.next_sym terms x one.term one.state.next_sym one.bindings
      × Meets one.state.next_sym one.bindings y two.term two.state.next_sym two.bindings
      × (next_at two.state.next_sym s ≡ two.state))
  met-both terms x y =
      let one = met s terms x in
      let two = met one.state one.bindings y in
      let first = met-meets s terms x in
      let second = met-meets one.state one.bindings y in
      (first.0, second.0, states-then s one.state two.state first.1 second.1)

  -- what is known of them then, by a rule that says so
  both-added : (p : Place) (cs : Conjuncts Term) (terms : List (Option Term)) (rest : List Item) (x y : Operand Term)
      (item : Item) (told : Term → Term → Goal → Goal)
      →
      ((t u : Term) (n m : ℕ) (between ends : List (Option Term)) → Meets s.next_sym terms x t n between
      → Meets n between y u m ends
      → Rule d s (item ∷ rest) tag.Add (told t u (next_at m s ⊢ assume_rest p cs ends ++ rest) ∷ []))
      → (let one = met s terms x in
      let two = met one.state one.bindings y in
      Some (told one.term two.term (two.state ⊢ assume_rest p cs two.bindings ++ rest) ∷ []) ≡ Some left)
      → Rule d s (item ∷ rest) tag.Add left
  both-added p cs terms rest x y item told by k =
      let one = met s terms x in
      let two = met one.state one.bindings y in
      let are = met-both terms x y in
      leaves _ left
      (ap (λ z. told one.term two.term (z ⊢ assume_rest p cs two.bindings ++ rest) ∷ []) are.2 ∙ same_Some _ left k)
      (by one.term two.term one.state.next_sym two.state.next_sym one.bindings two.bindings are.0 are.1)

  add-conjuncts : (p : Place) (cs : Conjuncts Term) (terms : List (Option Term)) (rest : List Item)
      → assume_row s p (record { conjuncts = cs; bindings = terms }) rest ≡ Some left
      → Rule d s (assume p cs terms ∷ rest) tag.Add left × IsFew (needed_to_assume cs)
  add-conjuncts p (also (holds q True) cs) terms rest k =
      (leaves _ left (same_Some _ left k) rule.add_true, refl)
  add-conjuncts p (also (holds q (Equal x y)) cs) terms rest k =
      (both-added p cs terms rest x y _ assumed_equal (λ t u n m between ends one two. rule.add_equal one two) k, refl)
  add-conjuncts p (also (holds q (Differ x y)) cs) terms rest k =
      (both-added p cs terms rest x y _ assumed_apart (λ t u n m between ends one two. rule.add_differ one two) k, refl)
  add-conjuncts p (also (points q x fs) cs) terms rest k =
      let one = met s terms x in
      let root = met-meets s terms x in
      let last = met_fields one.state one.bindings fs [] in
      let all = fields-meet one.state one.bindings fs [] in
      let state = states-then s one.state last.state root.1 all.1 in
      let b = cond-then (nat_lt (one_if_existential x + existentials_in fs) TOO_MANY) _ left k in (
        leaves _ left
            (ap (λ z. (with_cell z one.term last.fields ⊢ assume_rest p cs last.bindings ++ rest)
            ∷ []) state
            ∙ same_Some _ left b.1) (rule.add_cell root.0 all.0),
        b.0,
      )
  add-conjuncts p (also (segment q next x y) cs) terms rest k =
      let one = met s terms x in
      let two = met one.state one.bindings y in
      let are = met-both terms x y in (
        leaves _ left
            (ap (λ z. (with_atom (Ls one.term two.term) z ⊢ assume_rest p cs two.bindings ++ rest)
            ∷ []) are.2
            ∙ same_Some _ left k) (rule.add_list are.0 are.1),
        refl,
      )
  add-conjuncts p (also (doubly q next back x b l y) cs) terms rest k =
      let one = met s terms x in
      let two = met one.state one.bindings b in
      let three = met two.state two.bindings l in
      let four = met three.state three.bindings y in
      let first = met-both terms x b in
      let second = met-meets two.state two.bindings l in
      let third = met-meets three.state three.bindings y in
      let state = states-then s two.state four.state first.2
      (states-then two.state three.state four.state second.1 third.1) in (
        leaves _ left
            (ap (λ z. (with_atom (Dll one.term two.term three.term four.term) z
            ⊢ assume_rest p cs four.bindings ++ rest) ∷ []) state
            ∙ same_Some _ left k) (rule.add_double first.0 first.1 second.0 third.0),
        refl,
      )
  add-conjuncts p (also (tree q l r x) cs) terms rest k =
      let one = met s terms x in
      let root = met-meets s terms x in (
        leaves _ left
            (ap (λ z. (with_atom (Tree one.term) z ⊢ assume_rest p cs one.bindings ++ rest) ∷ [])
            root.1
            ∙ same_Some _ left k) (rule.add_tree root.0),
        refl,
      )
  add-conjuncts p _ terms rest k = absurd (cc)

  add-rule : (todo : List Item) → at_add (assume_row s) todo ≡ Some left
      → Rule d s todo tag.Add left × IsFew (needed d s tag.Add todo)
  add-rule (add p given ∷ rest) k = add-conjuncts p given.conjuncts given.bindings rest k
  add-rule _ k = absurd (cc)

  -- WHAT IS TO BE SHOWN
  -- one goal is left
  one-left : (p : Place) (names : List (List ℕ)) (rest : List Item) (step : Option Want)
      → option_and_then (λ w. one_goal w.state (taking p (still_wanted w) names ++ rest)) step
      ≡ Some left
      → (P : Type 0)
      → ((w : Want) → step ≡ Some w
      → (w.state ⊢ taking p (still_wanted w) names ++ rest) ∷ [] ≡ left → P) → P
  one-left p names rest step k P then =
      option_and_then_some _ step left k (λ w at j. then w at (same_Some _ left j))

  -- the goal that is left, by another way to write what is left of the subtraction
  left-as : (p : Place) (names : List (List ℕ)) (rest : List Item) (v w : Want) → v ≡ w
      → (w.state ⊢ taking p (still_wanted w) names ++ rest) ∷ [] ≡ left
      → (v.state ⊢ taking p (still_wanted v) names ++ rest) ∷ [] ≡ left
  left-as p names rest v w e is =
      ap (λ z. (z.state ⊢ taking p (still_wanted z) names ++ rest) ∷ []) e ∙ is

  -- the rows of subtraction at that tag, for these conjuncts
  abbrev Shown : Tag → Type 0
  Shown step =
      (p : Place) (cs : Conjuncts Term) (terms : List (Option Term)) (names : List (List ℕ))
      (rest : List Item)
      → subtract_row step s p (record { conjuncts = cs; bindings = terms }) names rest ≡ Some left
      → Rule d s (show p cs terms names ∷ rest) step left

  bind-pair : (p q : Place) (x y : Operand Term) (cs : Conjuncts Term) (terms : List (Option Term))
      (names : List (List ℕ))
      (rest : List Item) (b : ℕ × Term) → binding terms x y ≡ Some b
      → Rule d s (show p (also (holds q (Equal x y)) cs) terms names ∷ rest) tag.Bind
      ((s ⊢ show_rest p cs (set terms b.0 (Some b.1)) names ++ rest) ∷ [])
  bind-pair p q x y cs terms names rest b e =
      elim (first-one (one_binding terms x y) (one_binding terms y x) b e) [
        | inl here ↦ option_and_then_some _ (unbound terms x) b here (λ n at j.
            mapped _ (term_of terms y) b j (λ t other is.
            let u = unbound-is terms x n at in
            subst (λ z.
            Rule d s (show p (also (holds q (Equal x y)) cs) terms names ∷ rest) tag.Bind
            ((s ⊢ show_rest p cs (set terms z.0 (Some z.1)) names ++ rest) ∷ [])) is
            (subst (λ z.
            Rule d s (show p (also (holds q (Equal z y)) cs) terms names ∷ rest) tag.Bind
            ((s ⊢ show_rest p cs (set terms n (Some t)) names ++ rest) ∷ [])) (sym u.0)
            (rule.bind u.1 other))))
        | inr there ↦ option_and_then_some _ (unbound terms y) b there (λ n at j.
            mapped _ (term_of terms x) b j (λ t other is.
            let u = unbound-is terms y n at in
            subst (λ z.
            Rule d s (show p (also (holds q (Equal x y)) cs) terms names ∷ rest) tag.Bind
            ((s ⊢ show_rest p cs (set terms z.0 (Some z.1)) names ++ rest) ∷ [])) is
            (subst (λ z.
            Rule d s (show p (also (holds q (Equal x z)) cs) terms names ∷ rest) tag.Bind
            ((s ⊢ show_rest p cs (set terms n (Some t)) names ++ rest) ∷ [])) (sym u.0)
            (rule.bind_too other u.1))))
      ]

  bind-conjuncts : Shown tag.Bind
  bind-conjuncts p (also (holds q (Equal x y)) cs) terms names rest k =
      one-left p names rest (bind_step s terms (holds q (Equal x y)) cs) k _ (λ w step is.
      mapped _ (binding terms x y) w step (λ b at made.
      leaves _ left (left-as p names rest _ w made is)
      (bind-pair p q x y cs terms names rest b at)))
  bind-conjuncts p (also (points q x ws) cs) terms names rest k =
      let few = cond-then (nat_lt (existentials_in ws) TOO_MANY) None left k in absurd (cc few.1)
  bind-conjuncts p _ terms names rest k = absurd (cc)

  same-conjuncts : Shown tag.Same
  same-conjuncts p (also (holds q (Equal x y)) cs) terms names rest k =
      one-left p names rest (same_step s terms (holds q (Equal x y)) cs) k _ (λ w step is.
      option_and_then_some _ (both terms x y) w step (λ e at j.
      let are = both-terms terms x y e at in
      let b = cond_some (same_term e.0 e.1) (removed s terms cs) w j in
      leaves _ left (left-as p names rest _ w b.1 is)
      (rule.same are.0 (are.1 ∙ ap Some (sym (same_term_is e.0 e.1 b.0))))))
  same-conjuncts p (also (points q x ws) cs) terms names rest k =
      let few = cond-then (nat_lt (existentials_in ws) TOO_MANY) None left k in absurd (cc few.1)
  same-conjuncts p _ terms names rest k = absurd (cc)

  apart-conjuncts : Shown tag.Apart
  apart-conjuncts p (also (holds q (Differ x y)) cs) terms names rest k =
      one-left p names rest (apart_step s terms (holds q (Differ x y)) cs) k _ (λ w step is.
      option_and_then_some _ (both terms x y) w step (λ e at j.
      let are = both-terms terms x y e at in
      let b = cond_some (differs s e.0 e.1) (removed s terms cs) w j in
      leaves _ left (left-as p names rest _ w b.1 is) (rule.apart are.0 are.1 b.0)))
  apart-conjuncts p (also (points q x ws) cs) terms names rest k =
      let few = cond-then (nat_lt (existentials_in ws) TOO_MANY) None left k in absurd (cc few.1)
  apart-conjuncts p _ terms names rest k = absurd (cc)

  cell-conjuncts : (p : Place) (cs : Conjuncts Term) (terms : List (Option Term))
      (names : List (List ℕ)) (rest : List Item)
      (a : ℕ)
      → subtract_row (tag.Cell a) s p (record { conjuncts = cs; bindings = terms }) names rest
      ≡ Some left
      → Rule d s (show p cs terms names ∷ rest) (tag.Cell a) left × IsFew (needed_to_show cs)
  cell-conjuncts p (also (points q x ws) cs) terms names rest a k =
      let few = cond-then (nat_lt (existentials_in ws) TOO_MANY) _ left k in (
        one-left p names rest (cell_step a s terms (points q x ws) cs) few.1 _ (λ w step is.
            mapped _ (fitting a s terms (x, ws)) w step (λ fitted at made.
            option_and_then_some _ (term_of terms x) fitted at (λ t is_root j.
            option_and_then_some _ (cell_at s.atoms a t) fitted j (λ fs found i.
            mapped _ (fit_fields (fit s.next_sym fs terms) ws) fitted i (λ to fits pair.
            leaves _ left
            (ap (λ (r : Term × Fit).
            (handed_cell s r.0 a r.1 ⊢ show_rest p cs r.1.bindings names ++ rest) ∷ []) pair
            ∙ left-as p names rest _ w made is)
            (rule.cell is_root (cell-atom s.atoms a t fs found)
            (fit-fits s.next_sym fs terms ws to fits))))))),
        few.0,
      )
  cell-conjuncts p _ terms names rest a k = absurd (cc)

  -- a wanted segment or tree is nothing
  empty-shape : (p : Place) (c : Conjunct Term) (cs : Conjuncts Term) (terms : List (Option Term))
      (names : List (List ℕ)) (rest : List Item)
      → option_and_then (λ w. one_goal w.state (taking p (still_wanted w) names ++ rest))
      (empty_step s terms c cs) ≡ Some left
      → Rule d s (show p (also c cs) terms names ∷ rest) tag.Empty left
  empty-shape p c cs terms names rest k =
      one-left p names rest (empty_step s terms c cs) k _ (λ w step is.
      option_and_then_some _ (wanted_shape terms c) w step (λ z at j.
      let b = cond_some (is_nothing z) (removed s terms cs) w j in
      leaves _ left (left-as p names rest _ w b.1 is)
      (rule.empty (shape-wanted terms c z at) (is-nothing z b.0))))

  empty-conjuncts : Shown tag.Empty
  empty-conjuncts p (also (segment q next x y) cs) terms names rest k =
      empty-shape p (segment q next x y) cs terms names rest k
  empty-conjuncts p (also (doubly q next back x b l y) cs) terms names rest k =
      empty-shape p (doubly q next back x b l y) cs terms names rest k
  empty-conjuncts p (also (tree q l r x) cs) terms names rest k =
      empty-shape p (tree q l r x) cs terms names rest k
  empty-conjuncts p (also (points q x ws) cs) terms names rest k =
      let few = cond-then (nat_lt (existentials_in ws) TOO_MANY) None left k in absurd (cc few.1)
  empty-conjuncts p _ terms names rest k = absurd (cc)

  -- a wanted segment or tree is that atom
  exact-shape : (p : Place) (c : Conjunct Term) (cs : Conjuncts Term) (terms : List (Option Term))
      (names : List (List ℕ)) (rest : List Item) (a : ℕ)
      → option_and_then (λ w. one_goal w.state (taking p (still_wanted w) names ++ rest))
      (exact_step a s terms c cs) ≡ Some left
      → Rule d s (show p (also c cs) terms names ∷ rest) (tag.Exact a) left
  exact-shape p c cs terms names rest a k =
      one-left p names rest (exact_step a s terms c cs) k _ (λ w step is.
      option_and_then_some (exact_there a s terms cs) (wanted_shape terms c) w step (λ z at j.
      option_and_then_some _ (atom_at s.atoms a) w j (λ x there i.
      let b = cond_some (is_same_shape x z) (removed (handed s a x) terms cs) w i in
      leaves _ left (left-as p names rest _ w b.1 is)
      (rule.exact (subst (Wanted terms c) (sym (shape-same x z b.0)) (shape-wanted terms c z at)) there))))

  exact-conjuncts : (a : ℕ) → Shown (tag.Exact a)
  exact-conjuncts a p (also (segment q next x y) cs) terms names rest k =
      exact-shape p (segment q next x y) cs terms names rest a k
  exact-conjuncts a p (also (doubly q next back x b l y) cs) terms names rest k =
      exact-shape p (doubly q next back x b l y) cs terms names rest a k
  exact-conjuncts a p (also (tree q l r x) cs) terms names rest k =
      exact-shape p (tree q l r x) cs terms names rest a k
  exact-conjuncts a p (also (points q x ws) cs) terms names rest k =
      let few = cond-then (nat_lt (existentials_in ws) TOO_MANY) None left k in absurd (cc few.1)
  exact-conjuncts a p _ terms names rest k = absurd (cc)

  head-conjuncts : (a : ℕ) → Shown (tag.Head a)
  head-conjuncts a p (also (segment q next x y) cs) terms names rest k =
      one-left p names rest (head_step a s terms (segment q next x y) cs) k _ (λ w step is.
      option_and_then_some _ (both terms x y) w (first-left _ w step) (λ e at j.
      let ends = both-terms terms x y e at in
      let differ = cond-then (differs s e.0 e.1) _ w j in
      mapped _ (cell_at s.atoms a e.0) w differ.1 (λ fs found made.
      leaves _ left (left-as p names rest _ w made is)
      (rule.head ends.0 ends.1
      (cell-atom s.atoms a e.0 fs found) differ.0 (link-field s.next_sym fs next terms).0))))
  head-conjuncts a p (also (doubly q next back x b l y) cs) terms names rest k =
      one-left p names rest (head_step a s terms (doubly q next back x b l y) cs) k _ (λ w step is.
      option_and_then_some _ (four terms x b l y) w step (λ e at j.
      let differ = cond-then (differs s e.0 e.3) _ w j in
      mapped _ _ w differ.1 (λ r found made.
      option_and_then_some _ (cell_at s.atoms a e.0) r found (λ fs here i.
      mapped _ (fit_known (fit s.next_sym fs terms) (field_term fs back) e.1) r i (λ f same made_so.
      let known = known-is (fit s.next_sym fs terms) f (field_term fs back) e.1 same in
      let linked : link (fit s.next_sym fs terms) next ≡ r = ap (λ z. link z next) known.1 ∙ made_so in
      leaves _ left
      (ap (λ (z : Fit × Term). (handed_cell s e.0 a z.0 ⊢ show_rest p
      (also (doubly q next back (Known z.1) (Known e.0) (Known e.2) (Known e.3)) cs) terms names ++ rest)
      ∷ []) linked
      ∙ left-as p names rest _ w made is)
      (rule.head_double (four-wanted terms q next back x b l y e at) (cell-atom s.atoms a e.0 fs here)
      differ.0 known.0 (link-field s.next_sym fs next terms).0))))))
  head-conjuncts a p (also (points q x ws) cs) terms names rest k =
      let few = cond-then (nat_lt (existentials_in ws) TOO_MANY) None left k in absurd (cc few.1)
  head-conjuncts a p _ terms names rest k = absurd (cc)

  join-atom : (p q : Place) (names : List (List ℕ)) (terms : List (Option Term)) (rest : List Item)
      (next : FieldId)
      (x y : Operand Term) (t u v : Term) (cs : Conjuncts Term) (a : ℕ) (z : Atom)
      → term_of terms x ≡ Some t → term_of terms y ≡ Some u → atom_at s.atoms a ≡ Some z
      → joined s a t u z ≡ Some v
      → Rule d s (show p (also (segment q next x y) cs) terms names ∷ rest) (tag.Join a)
      ((handed s a z ⊢ show_rest p (also (segment q next (Known v) (Known u)) cs) terms names
      ++ rest) ∷ [])
  join-atom p q names terms rest next x y t u v cs a (Ls r w) one two there e =
      let b = cond_some (same_term r t && (is_constant u || allocated s u (Some a))) w v e in
      let c = and-both (same_term r t) _ b.0 in
      let from : r ≡ t = same_term_is r t c.0 in
      let to : w ≡ v = b.1 in
      let is : Ls t v ≡ Ls r w = cc in
      leaves _ _
      (ap (λ z.
      (handed s a z ⊢ show_rest p (also (segment q next (Known v) (Known u)) cs) terms names
      ++ rest) ∷ []) is)
      (rule.join one two (there ∙ ap Some (sym is)) c.1)
  join-atom p q names terms rest next x y t u v cs a _ one two there e = absurd (cc)

  double_join-atom : (p q : Place) (names : List (List ℕ)) (terms : List (Option Term))
      (rest : List Item) (next back : FieldId)
      (x b l y : Operand Term) (e : Term × Term × Term × Term) (v : Term × Term)
      (cs : Conjuncts Term) (a : ℕ) (z : Atom)
      → Wanted terms (doubly q next back x b l y) (Dll e.0 e.1 e.2 e.3) → atom_at s.atoms a ≡ Some z
      → double_joined s a e.0 e.1 e.3 z ≡ Some v
      → Rule d s (show p (also (doubly q next back x b l y) cs) terms names ∷ rest) (tag.Join a)
      ((handed s a z ⊢ show_rest p
      (also (doubly q next back (Known v.0) (Known v.1) (Known e.2) (Known e.3)) cs) terms names
      ++ rest) ∷ [])
  double_join-atom p q names terms rest next back x b l y e v cs a (Dll t r m w) wanted there k =
      let c = cond_some _ (w, m) v k in
      let one = and-both (same_term t e.0) _ c.0 in
      let two = and-both (same_term r e.1) _ one.1 in
      let from : t ≡ e.0 = same_term_is t e.0 one.0 in
      let before : r ≡ e.1 = same_term_is r e.1 two.0 in
      let to : w ≡ v.0 = ap (λ (z : Term × Term). z.0) c.1 in
      let last : m ≡ v.1 = ap (λ (z : Term × Term). z.1) c.1 in
      let is : Dll e.0 e.1 v.1 v.0 ≡ Dll t r m w = cc in
      leaves _ _
      (ap (λ z.
      (handed s a z ⊢ show_rest p
      (also (doubly q next back (Known v.0) (Known v.1) (Known e.2) (Known e.3)) cs) terms names
      ++ rest) ∷ []) is)
      (rule.join_double wanted (there ∙ ap Some (sym is)) two.1)
  double_join-atom p q names terms rest next back x b l y e v cs a _ wanted there k = absurd (cc)

  join-conjuncts : (a : ℕ) → Shown (tag.Join a)
  join-conjuncts a p (also (segment q next x y) cs) terms names rest k =
      one-left p names rest (join_step a s terms (segment q next x y) cs) k _ (λ w step is.
      option_and_then_some _ (both terms x y) w (first-left _ w step) (λ e at j.
      let ends = both-terms terms x y e at in
      option_and_then_some _ (atom_at s.atoms a) w j (λ z there i.
      mapped _ (joined s a e.0 e.1 z) w i (λ v goes made.
      leaves _ left (left-as p names rest _ w made is)
      (join-atom p q names terms rest next x y e.0 e.1 v cs a z ends.0 ends.1 there goes)))))
  join-conjuncts a p (also (doubly q next back x b l y) cs) terms names rest k =
      one-left p names rest (join_step a s terms (doubly q next back x b l y) cs) k _ (λ w step is.
      option_and_then_some _ (four terms x b l y) w step (λ e at j.
      option_and_then_some _ (atom_at s.atoms a) w j (λ z there i.
      mapped _ (double_joined s a e.0 e.1 e.3 z) w i (λ v goes made.
      leaves _ left (left-as p names rest _ w made is)
      (double_join-atom p q names terms rest next back x b l y e v cs a z
      (four-wanted terms q next back x b l y e at) there goes)))))
  join-conjuncts a p (also (points q x ws) cs) terms names rest k =
      let few = cond-then (nat_lt (existentials_in ws) TOO_MANY) None left k in absurd (cc few.1)
  join-conjuncts a p _ terms names rest k = absurd (cc)

  node-conjuncts : (a : ℕ) → Shown (tag.Node a)
  node-conjuncts a p (also (tree q l r x) cs) terms names rest k =
      one-left p names rest (node_step a s terms (tree q l r x) cs) k _ (λ w step is.
      option_and_then_some _ (term_of terms x) w step (λ t one j.
      mapped _ (cell_at s.atoms a t) w j (λ fs found made.
      let first = link (fit s.next_sym fs terms) l in
      leaves _ left (left-as p names rest _ w made is)
      (rule.node one (cell-atom s.atoms a t fs found) (link-field s.next_sym fs l terms).0
      (link-field first.0.next_sym first.0.fields r first.0.bindings).0))))
  node-conjuncts a p (also (points q x ws) cs) terms names rest k =
      let few = cond-then (nat_lt (existentials_in ws) TOO_MANY) None left k in absurd (cc few.1)
  node-conjuncts a p _ terms names rest k = absurd (cc)

  -- at what is in front
  shown-rule : (step : Tag) → Shown step → (todo : List Item)
      → at_take (subtract_row step s) todo ≡ Some left
      → Rule d s todo step left
  shown-rule step all (take p want names ∷ rest) k = all p want.conjuncts want.bindings names rest k
  shown-rule step all _ k = absurd (cc)

  cell-rule : (todo : List Item) (a : ℕ) → at_take (subtract_row (tag.Cell a) s) todo ≡ Some left
      → Rule d s todo (tag.Cell a) left × IsFew (needed d s (tag.Cell a) todo)
  cell-rule (take p want names ∷ rest) a k =
      cell-conjuncts p want.conjuncts want.bindings names rest a k
  cell-rule _ a k = absurd (cc)

pub row-rule : (d : Setting) (s : State) (todo : List Item) (step : Tag) (left : List Goal)
    → row_of d (s ⊢ todo) step ≡ Some left → Rule d s todo step left × IsFew (needed d s step todo)
row-rule d s todo (tag.Procedure f) left e = absurd (cc)
row-rule d s todo tag.Absurd left e = (absurd-rule d s left todo e, refl)
row-rule d s todo (tag.Drop a) left e = (drop-rule d s left todo a e, refl)
row-rule d s todo (tag.Force a) left e = (force-rule d s left todo a e, refl)
row-rule d s todo (tag.Split t u) left e = (split-rule d s left todo t u e, refl)
row-rule d s todo (tag.Unroll a) left e = (unroll-rule d s left todo a e, refl)
row-rule d s todo (tag.Back a) left e = (back-rule d s left todo a e, refl)
row-rule d s todo tag.Assign left e = (assign-rule d s left todo e, refl)
row-rule d s todo (tag.Look a) left e = (look-rule d s left todo a e, refl)
row-rule d s todo (tag.Mutate a) left e = (mutate-rule d s left todo a e, refl)
row-rule d s todo tag.New left e = (new-rule d s left todo e, refl)
row-rule d s todo (tag.Dispose a) left e = (dispose-rule d s left todo a e, refl)
row-rule d s todo tag.Then left e =
    (choice-rule d s left true tag.Then (λ choice branch rest goes. rule.then goes) todo e, refl)
row-rule d s todo tag.Else left e =
    (choice-rule d s left false tag.Else (λ choice branch rest goes. rule.else goes) todo e, refl)
row-rule d s todo tag.Loop left e = (loop-rule d s left todo e, refl)
row-rule d s todo tag.Around left e = around-rule d s left todo e
row-rule d s todo tag.Again left e = (again-rule d s left todo e, refl)
row-rule d s todo tag.Call left e = call-rule d s left todo e
row-rule d s todo tag.Fork left e = fork-rule d s left todo e
row-rule d s todo tag.Enter left e = enter-rule d s left todo e
row-rule d s todo tag.Exit left e = (exit-rule d s left todo e, refl)
row-rule d s todo tag.Return left e = (return-rule d s left todo e, refl)
row-rule d s todo tag.Give left e = (give-rule d s left todo e, refl)
row-rule d s todo tag.End left e = (end-rule d s left todo e, refl)
row-rule d s todo tag.Add left e = add-rule d s left todo e
row-rule d s todo tag.Bind left e =
    (shown-rule d s left tag.Bind (bind-conjuncts d s left) todo e, refl)
row-rule d s todo tag.Same left e =
    (shown-rule d s left tag.Same (same-conjuncts d s left) todo e, refl)
row-rule d s todo tag.Apart left e =
    (shown-rule d s left tag.Apart (apart-conjuncts d s left) todo e, refl)
row-rule d s todo (tag.Cell a) left e = cell-rule d s left todo a e
row-rule d s todo tag.Empty left e =
    (shown-rule d s left tag.Empty (empty-conjuncts d s left) todo e, refl)
row-rule d s todo (tag.Exact a) left e =
    (shown-rule d s left (tag.Exact a) (exact-conjuncts d s left a) todo e, refl)
row-rule d s todo (tag.Head a) left e =
    (shown-rule d s left (tag.Head a) (head-conjuncts d s left a) todo e, refl)
row-rule d s todo (tag.Join a) left e =
    (shown-rule d s left (tag.Join a) (join-conjuncts d s left a) todo e, refl)
row-rule d s todo (tag.Node a) left e =
    (shown-rule d s left (tag.Node a) (node-conjuncts d s left a) todo e, refl)

pub row-leaves : (d : Setting) (g : Goal) (step : Tag) (left : List Goal) → row d g step ≡ Some left
    → Leaves d g step left
row-leaves d g step left e =
    let b = cond-then (has_numbers g.state) _ left e in
    let r = row-rule d g.state g.todo step left b.1 in
    record {
      rule = r.0;
      numbers = b.0;
      few = (Decides-ltb (needed d g.state step g.todo) TOO_MANY).0 r.1;
    }
