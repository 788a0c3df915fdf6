-- What the rows of calls leave, by what the code puts before what is left to do.
use Rattle.std.proofs.Common.{◌≡◌, ◌⊎◌, ℕ, suc, ◌+◌, ◌<◌, ◌≤◌, true, false, cond, nat_lt, List, [], ◌∷◌, ◌++◌, get_or, length, IfSome, Option, Some, None, inl, inr, refl, sym, ap, ◌∙◌, arith}
use Rattle.std.specs.List.{slice_get}
use Rattle.std.specs.Option.{option_and_then}
use Rattle.std.proofs.lemmas.Bool.Decides.{nat_tests}
use Rattle.std.proofs.lemmas.List.{length-append}
use Rattle.std.proofs.lemmas.Option.{slice_get_cases}
use Rattle.sf_base.proofs.Options.{some-holds}
use Rattle.sf_base.specs.declared.ids.ProcId.{ProcId}
use Rattle.sf_base.specs.declared.ids.Var.{Var}
use Rattle.sf_base.specs.declared.place.Place.{Place}
use Rattle.sf_core.specs.declared.command.Call.{Call as CodeCall}
use Rattle.sf_core.specs.declared.command.Command.{Call as CallOne, Fork}
use Rattle.sf_core.specs.declared.command.Command.TheVariants.{rolls-Call, rolls-Fork}
use Rattle.sf_core.specs.declared.command.Command.TheFolds.{fold-roll-Command}
use Rattle.sf_core.specs.Program.Syntax.{Assertion, Call, Command, call, fork, Procedure}
use Rattle.sf_core.specs.Program.ProgramView.{program_of}
use Rattle.sf_core.specs.Program.View.{call_of, command_of, command_step}
use Rattle.sf_calls.specs.Changes.{changed}
use Rattle.sf_calls.specs.Sets.{Sets}
use Rattle.sf_precise.specs.declared.arranged.Arranged.{Arranged}
use Rattle.sf_precise.specs.Order.{IsOrderOf, IsOrdering}
use Rattle.sf_sym.specs.declared.term.Term.{Term}
use Rattle.sf_sym.specs.Goal.{Goal, Item, gave, one_goal, run}
use Rattle.sf_sym.specs.State.{State, with_symbols}
use Rattle.sf_sym.specs.Variables.{fresh_for}
use Rattle.sf_rules.specs.declared.few.TheConstants.{TOO_MANY}
use Rattle.sf_rules.specs.Checked.Few.{if_few}
use Rattle.sf_rules.specs.Checked.Rows.Calls.{call_row, called, called_with, fork_row, forked, forked_with}
use Rattle.sf_rules.specs.Callee.{term_after, term_before}
use Rattle.sf_rules.specs.Checked.Rows.Front.{at_command}
use Rattle.sf_rules.specs.Setting.{Setting, setting_of}
use Rattle.sf_rules.specs.Words.{to_add, to_take}

-- as many terms as variables
pub length_fresh : (n : ℕ) (xs : List Var) → length (fresh_for n xs) ≡ length xs
length_fresh n [] = refl
length_fresh n (x ∷ xs) = ap suc (length_fresh (suc n) xs)

module _ (n : ℕ) (xs ys zs : List Var) (len : ℕ) (e : ys ≡ xs) (l : len ≡ length ys) where
  -- too many variables
  pub fresh_many : TOO_MANY ≤ len → nat_lt (length (fresh_for n xs)) TOO_MANY ≡ false
  fresh_many many =
      let all : length (fresh_for n xs) ≡ len = length_fresh n xs ∙ ap length (sym e) ∙ sym l in
      grind (arith, nat_tests)

  -- few
  pub fresh_few : (set : List (Var × Term)) → len < TOO_MANY → set ≡ fresh_for n zs → zs ≡ ys
      → (set ≡ fresh_for n xs) × (length set < TOO_MANY)
  fresh_few set few is same =
      let all : length set ≡ len = ap length is ∙ length_fresh n zs ∙ ap length same ∙ sym l in
      (is ∙ ap (fresh_for n) (same ∙ e), grind (arith, nat_tests))

-- too many variables of two calls together
pub both_many : (n : ℕ) (xs ys : List Var) → TOO_MANY ≤ length xs + length ys
    → nat_lt (length (fresh_for n xs ++ fresh_for (n + length (fresh_for n xs)) ys)) TOO_MANY ≡ false
both_many n xs ys many =
    let first = fresh_for n xs in
    let second = fresh_for (n + length first) ys in
    let sum : length (first ++ second) ≡ length first + length second = length-append first second in
    let one : length first ≡ length xs = length_fresh n xs in
    let two : length second ≡ length ys = length_fresh (n + length first) ys in
    let all : TOO_MANY ≤ length (first ++ second) = omega (arith, many, sum, one, two) in
    grind (arith, nat_tests)

-- few of two calls
pub both_few : (n m : ℕ) (xs ys vs ws us ts : List Var) (first second : List (Var × Term))
    → first ≡ fresh_for n us → us ≡ vs → vs ≡ xs → m ≡ n + length vs → second ≡ fresh_for m ts → ts ≡ ws → ws ≡ ys
    → length vs + length ws < TOO_MANY
    → (first ≡ fresh_for n xs) × (second ≡ fresh_for (n + length first) ys) × (length first + length second < TOO_MANY)
both_few n m xs ys vs ws us ts first second i a b e j f h few =
    let one : length first ≡ length vs = ap length i ∙ length_fresh n us ∙ ap length a in
    let two : length second ≡ length ws = ap length j ∙ length_fresh m ts ∙ ap length f in
    let from : m ≡ n + length first = e ∙ ap (λ k. n + k) (sym one) in (
      i ∙ ap (fresh_for n) (a ∙ b),
      j ∙ (λ k. fresh_for (from k) ((f ∙ h) k)),
      omega (arith, few, one, two),
    )

-- the contract of a procedure, in order
pub contract_is : (d : Setting) (a : Arranged) (f : ProcId) (pre post : Assertion) → IsOrdering d.ordered
    → d ≡ setting_of d.ordered a → f.0 < length (program_of a.program).procedures
    → IfSome (slice_get (program_of a.program).procedures f.0) (λ h. IsOrderOf h.pre pre)
    → IfSome (slice_get (program_of a.program).procedures f.0) (λ h. IsOrderOf h.post post)
    → (g : Procedure) × (slice_get d.program.procedures f.0 ≡ Some g) × (pre ≡ d.ordered g.pre)
    × (post ≡ d.ordered g.post)
contract_is d a f pre post ordering e below first last =
    go (slice_get_cases (program_of a.program).procedures f.0).1
  where
    go : ((x : Procedure) × (f.0 < length (program_of a.program).procedures) × (slice_get (program_of a.program).procedures f.0 ≡ Some x)
        × (get_or (program_of a.program).procedures f.0 x ≡ x))
        ⊎ ((length (program_of a.program).procedures ≤ f.0) × (slice_get (program_of a.program).procedures f.0 ≡ None))
        → (g : Procedure) × (slice_get d.program.procedures f.0 ≡ Some g) × (pre ≡ d.ordered g.pre)
        × (post ≡ d.ordered g.post)
    go (inl k) = (
      k.0,
      ap (λ (z : Setting). slice_get z.program.procedures f.0) e ∙ k.2,
      sym (ordering.ordered k.0.pre pre (some-holds (λ h. IsOrderOf h.pre pre) (slice_get (program_of a.program).procedures f.0)
          k.0 k.2 first)),
      sym (ordering.ordered k.0.post post (some-holds (λ h. IsOrderOf h.post post) (slice_get (program_of a.program).procedures f.0)
          k.0 k.2 last)),
    )
    go (inr k) = absurd (omega (arith, k.0, below))

-- how calls are read
pub call_view : (p : Place) (c : CodeCall) → command_of (CallOne p c) ≡ call p (call_of c)
call_view p c = ap command_of (sym (rolls-Call p c)) ∙ fold-roll-Command Command command_step _

pub fork_view : (p : Place) (c e : CodeCall) → command_of (Fork p c e) ≡ fork p (call_of c) (call_of e)
fork_view p c e = ap command_of (sym (rolls-Fork p c e)) ∙ fold-roll-Command Command command_step _

-- few symbols are needed
pub are_few : (n : ℕ) (left : Option (List Goal)) → n < TOO_MANY → left ≡ if_few n left
are_few n left few =
    let less : nat_lt n TOO_MANY ≡ true = grind (arith, nat_tests) in
    sym (ap (λ b. cond b left None) less)

-- too many are
pub are_many : (n : ℕ) (left : Option (List Goal)) → nat_lt n TOO_MANY ≡ false → None ≡ if_few n left
are_many n left many = sym (ap (λ b. cond b left None) many)

module _ (sets : Sets) (s : State) (p : Place) (c : Call) (rest : List Item) where
  -- what is to do after a call, where it may set these
  abbrev after : List (Var × Term) → Assertion → List Item
  after set post = gave p set [] ∷ (to_add p (term_after s set c) post ++ rest)

  abbrev made : List (Var × Term) → (pre post : Assertion) → Option (List Goal)
  made set pre post =
      one_goal (with_symbols (length set) s) (to_take c.place (term_before s c) pre ++ after set post)

  pub called_left : (set : List (Var × Term)) (pre post : Assertion) (now : State) (mid todo : List Item)
      → set ≡ fresh_for s.next_sym (changed sets c) → length set < TOO_MANY → mid ≡ after set post
      → todo ≡ to_take c.place (term_before s c) pre ++ mid → now ≡ with_symbols (length set) s
      → Some (record { state = now; todo = todo } ∷ []) ≡ called_with sets s p c pre post rest
  called_left set pre post now mid todo e few m t n =
      let due : todo ≡ to_take c.place (term_before s c) pre ++ after set post =
      t ∙ ap (λ ys. to_take c.place (term_before s c) pre ++ ys) m in
      (λ i. Some (record { state = n i; todo = due i } ∷ []))
      ∙ are_few (length set) (made set pre post) few
      ∙ ap (λ xs. if_few (length xs) (made xs pre post)) e

  pub called_many : nat_lt (length (fresh_for s.next_sym (changed sets c))) TOO_MANY ≡ false → (pre post : Assertion)
      → None ≡ called_with sets s p c pre post rest
  called_many many pre post =
      are_many (length (fresh_for s.next_sym (changed sets c))) (made (fresh_for s.next_sym (changed sets c)) pre post)
      many

module _ (sets : Sets) (s : State) (p : Place) (c e : Call) (rest : List Item) where
  -- what is to do after both calls, where they may set these
  abbrev after_both : (first second : List (Var × Term)) → (post post_too : Assertion) → List Item
  after_both first second post post_too =
      gave p (first ++ second) [] ∷ (to_add p (term_after s first c) post
      ++ (to_add p (term_after s second e) post_too ++ rest))

  module _ (pre post pre_too post_too : Assertion) where
    abbrev both : (first second : List (Var × Term)) → Option (List Goal)
    both first second =
        one_goal (with_symbols (length (first ++ second)) s)
        (to_take c.place (term_before s c) pre ++ (to_take e.place (term_before s e) pre_too
        ++ after_both first second post post_too))

    abbrev few_both : (first second : List (Var × Term)) → Option (List Goal)
    few_both first second = if_few (length (first ++ second)) (both first second)

    abbrev pub then_second : List (Var × Term) → List (Var × Term)
    then_second first = fresh_for (s.next_sym + length first) (changed sets e)

    pub forked_left : (first second : List (Var × Term)) (count : ℕ) (now : State) (mid three todo : List Item)
        → first ≡ fresh_for s.next_sym (changed sets c) → second ≡ then_second first
        → length first + length second < TOO_MANY → count ≡ length first + length second
        → mid ≡ after_both first second post post_too → three ≡ to_take e.place (term_before s e) pre_too ++ mid
        → todo ≡ to_take c.place (term_before s c) pre ++ three → now ≡ with_symbols count s
        → Some (record { state = now; todo = todo } ∷ []) ≡ forked_with sets s p c e pre post pre_too post_too rest
    forked_left first second count now mid three todo is is_too few k m h t n =
        let sum : length (first ++ second) ≡ length first + length second = length-append first second in
        let few_too : length (first ++ second) < TOO_MANY = omega (arith, few, sum) in
        let due : todo ≡ to_take c.place (term_before s c) pre ++ (to_take e.place (term_before s e) pre_too
        ++ after_both first second post post_too) =
        t ∙ ap (λ ys. to_take c.place (term_before s c) pre ++ ys)
        (h ∙ ap (λ ys. to_take e.place (term_before s e) pre_too ++ ys) m) in
        let state : now ≡ with_symbols (length (first ++ second)) s = n ∙ ap (λ x. with_symbols x s) (k ∙ sym sum) in
        (λ i. Some (record { state = state i; todo = due i } ∷ []))
        ∙ are_few (length (first ++ second)) (both first second) few_too
        ∙ ap (few_both first) is_too ∙ ap (λ xs. few_both xs (then_second xs)) is

    pub forked_many : nat_lt (length (fresh_for s.next_sym (changed sets c)
        ++ then_second (fresh_for s.next_sym (changed sets c)))) TOO_MANY ≡ false
        → None ≡ forked_with sets s p c e pre post pre_too post_too rest
    forked_many many =
        let first = fresh_for s.next_sym (changed sets c) in
        are_many (length (first ++ then_second first)) (both first (then_second first)) many

module _ (d : Setting) (s : State) (p : Place) (rest items : List Item) where
  -- the row of a call, by what its callee is
  pub call_at : (c : Call) (x : Option (List Goal)) (pre post : Assertion) (g : Procedure) (sets : Sets)
      → items ≡ run (call p c) ∷ rest → slice_get d.program.procedures c.callee.0 ≡ Some g → pre ≡ d.ordered g.pre
      → post ≡ d.ordered g.post → d.sets ≡ sets → x ≡ called_with sets s p c pre post rest
      → x ≡ at_command (call_row d s) items
  call_at c x pre post g sets i there a o is e =
      e ∙ ap (λ z. called_with z s p c pre post rest) (sym is)
      ∙ (λ j. called_with d.sets s p c (a j) (o j) rest)
      ∙ sym (ap (option_and_then (called d s p c rest)) there) ∙ sym (ap (at_command (call_row d s)) i)

  pub call_absent : (c : Call) → items ≡ run (call p c) ∷ rest
      → slice_get d.program.procedures c.callee.0 ≡ None → None ≡ at_command (call_row d s) items
  call_absent c i there =
      sym (ap (option_and_then (called d s p c rest)) there) ∙ sym (ap (at_command (call_row d s)) i)

  module _ (c e : Call) (i : items ≡ run (fork p c e) ∷ rest) where
    abbrev second_callee : Procedure → Option (List Goal)
    second_callee g = option_and_then (forked d s p c e rest g) (slice_get d.program.procedures e.callee.0)

    pub fork_at : (x : Option (List Goal)) (pre post pre_too post_too : Assertion) (g h : Procedure) (sets : Sets)
        → slice_get d.program.procedures c.callee.0 ≡ Some g → pre ≡ d.ordered g.pre → post ≡ d.ordered g.post
        → slice_get d.program.procedures e.callee.0 ≡ Some h → pre_too ≡ d.ordered h.pre
        → post_too ≡ d.ordered h.post → d.sets ≡ sets
        → x ≡ forked_with sets s p c e pre post pre_too post_too rest → x ≡ at_command (fork_row d s) items
    fork_at x pre post pre_too post_too g h sets there a o there_too b u is f =
        f ∙ ap (λ z. forked_with z s p c e pre post pre_too post_too rest) (sym is)
        ∙ (λ j. forked_with d.sets s p c e (a j) (o j) (b j) (u j) rest)
        ∙ sym (ap (option_and_then (forked d s p c e rest g)) there_too)
        ∙ sym (ap (option_and_then second_callee) there) ∙ sym (ap (at_command (fork_row d s)) i)

    pub fork_absent : slice_get d.program.procedures c.callee.0 ≡ None → None ≡ at_command (fork_row d s) items
    fork_absent there = sym (ap (option_and_then second_callee) there) ∙ sym (ap (at_command (fork_row d s)) i)

    pub fork_absent_too : (g : Procedure) → slice_get d.program.procedures c.callee.0 ≡ Some g
        → slice_get d.program.procedures e.callee.0 ≡ None → None ≡ at_command (fork_row d s) items
    fork_absent_too g there there_too =
        sym (ap (option_and_then (forked d s p c e rest g)) there_too)
        ∙ sym (ap (option_and_then second_callee) there) ∙ sym (ap (at_command (fork_row d s)) i)
