-- What comes of what a frame has still to do fits the room for it.
-- Names: `fits_LAW` speaks of all entries, `room_LAW` of the first one.
use Rattle.std.specs.Prelude.{◌≡◌, ℕ, ◌+◌, ◌*◌, ◌≤◌, ◌<◌, List, [], ◌∷◌, ◌++◌, length, max}
use Rattle.std.specs.List.{slice_get}
use Rattle.std.proofs.Common.{Bor, sym, ap, ◌∙◌, subst, inl, inr, arith, length-append}
use Rattle.std.proofs.lemmas.Bool.{cases_lt}
use Rattle.std.proofs.lemmas.Option.{slice_get_within}
use Rattle.sf_base.proofs.Lookup.{get-push_before, get-push_last}
use Rattle.sf_base.specs.declared.ids.ResId.{ResId}
use Rattle.sf_core.specs.declared.command.Command.{Command as CodeCommand}
use Rattle.sf_core.specs.Machine.Config.{Item, command, items, leave}
use Rattle.sf_core.specs.Program.Syntax.{Command, assign, look_up, mutate, new, dispose, if, while, call, fork, with}
use Rattle.sf_core.specs.Program.Formed.{block_depth, command_depth}
use Rattle.sf_core.specs.Program.View.{block_of, command_of}
use Rattle.sf_frame.specs.declared.frame.Way.{Way}
use Rattle.sf_frame.specs.declared.todo.Todo.{Todo}
use Rattle.sf_frame.specs.declared.todo.Todo.TheVariants.{Commands, Leave}
use Rattle.sf_frame.specs.Frames.{block_items, items_of, todo_of}
use Rattle.sf_frame.specs.Checked.Frames.{goes_on}
use Rattle.sf_frame.specs.Checked.Todos.{Fits, weight}
use Rattle.sf_frame.proofs.Entries.{items_block}
use Rattle.sf_frame.proofs.Stacks.{todo_snoc}

-- where one comes above the others, the others still fit
pub fits_front : (cap : ℕ) (xs : List Todo) (x : Todo) → Fits cap (xs ++ x ∷ []) → Fits cap xs
fits_front cap xs x h i y e = h i y (get-push_before xs x i (slice_get_within xs i y e) ∙ e)

-- and so does it
pub fits_last : (cap : ℕ) (xs : List Todo) (x : Todo) → Fits cap (xs ++ x ∷ [])
    → length xs + weight x ≤ cap
fits_last cap xs x h = h (length xs) x (get-push_last xs x)

-- one that fits above the others
pub fits_snoc : (cap : ℕ) (xs : List Todo) (x : Todo) → Fits cap xs → length xs + weight x ≤ cap
    → Fits cap (xs ++ x ∷ [])
fits_snoc cap xs x h l i y e = elim (cases_lt i (length xs)) [
  | inl b ↦ h i y (sym (get-push_before xs x i b) ∙ e)
  | inr m ↦
      let within : i < length (xs ++ x ∷ []) = slice_get_within (xs ++ x ∷ []) i y e in
      let last : i ≡ length xs = omega (arith, m, within, length-append xs (x ∷ [])) in
      let same : y ≡ x = cc (sym (ap (slice_get (xs ++ x ∷ [])) last) ∙ e, get-push_last xs x) in
      omega (arith, l, last, ap weight same)
]

-- no entries fit
pub fits_none : (cap : ℕ) → Fits cap []
fits_none cap i y e = absurd (cc)

-- one that was put on top fits, and so do the others
pub fits_put : (cap more : ℕ) (old next : List Todo) (x : Todo) → next ≡ old ++ x ∷ [] → more ≡ cap
    → Fits cap old
    → length old + weight x ≤ cap → Fits more next
fits_put cap more old next x e s h l =
    subst (λ k. Fits k next) (sym s) (subst (Fits cap) (sym e) (fits_snoc cap old x h l))

-- what is left where one was taken from the top, which is that one
pub fits_taken : (cap less : ℕ) (old next : List Todo) (x y : Todo) → old ≡ next ++ x ∷ [] → x ≡ y
    → less ≡ cap
    → Fits cap old → Fits less next × (length next + weight y ≤ less)
fits_taken cap less old next x y e is s h =
    let all : Fits less (next ++ x ∷ []) = subst (λ k. Fits k (next ++ x ∷ [])) (sym s)
    (subst (Fits cap) e h) in (
      fits_front less next x all,
      subst (λ z. length next + weight z ≤ less) is
          (fits_last less next x all),
    )

-- a command is nested at least once
pub command_deep : (c : Command) → 1 ≤ command_depth c
command_deep (assign q x e) = omega arith
command_deep (look_up q x e field) = omega arith
command_deep (mutate q e field d) = omega arith
command_deep (new q x) = omega arith
command_deep (dispose q e) = omega arith
command_deep (if q t c d) = omega arith
command_deep (while q t a c) = omega arith
command_deep (call q c) = omega arith
command_deep (fork q c d) = omega arith
command_deep (with q r t c) = omega arith

-- so there is room for the entry of a block that has a command
pub room_block : (n cap : ℕ) (block rest : List CodeCommand) (c : CodeCommand) → block ≡ c ∷ rest
    → n + 2 * block_depth (block_of block) ≤ cap
    → (n < cap) × (n + 2 * max (command_depth (command_of c)) (block_depth (block_of rest)) ≤ cap)
room_block n cap block rest c e l =
    let all : n + 2 * max (command_depth (command_of c)) (block_depth (block_of rest)) ≤ cap =
    subst (λ z. n + 2 * block_depth (block_of z) ≤ cap) e l in
    (omega (arith, all, command_deep (command_of c)), all)

-- the entries whose top one was put there
pub todo_put : (old next : List Todo) (x : Todo) (block : List CodeCommand) → next ≡ old ++ x ∷ []
    → items_of x ≡ block_items block → todo_of next ≡ block_items block ++ todo_of old
todo_put old next x block e is =
    ap todo_of e ∙ todo_snoc old x ∙ ap (λ (z : List Item). z ++ todo_of old) is

-- how a frame goes on whose top entry is taken
pub goes_leave : (way : Way) (old next : List Todo) (r : ResId) (x : Todo) → old ≡ next ++ x ∷ []
    → x ≡ Leave r
    → goes_on way (todo_of old) ≡ todo_of next
goes_leave way old next r x e is =
    ap (λ z. goes_on way (todo_of z)) e ∙ ap (goes_on way) (todo_snoc next x)
    ∙ ap (λ z. goes_on way (items_of z ++ todo_of next)) is

pub goes_first : (way is : Way) (old next : List Todo) (x : Todo) (c : Bor CodeCommand)
    (rest : Bor (List CodeCommand))
    → way ≡ is → old ≡ next ++ x ∷ [] → x ≡ Commands c rest
    → goes_on way (todo_of old) ≡ goes_on is (command (command_of c.now) ∷
    (block_items rest.now ++ todo_of next))
goes_first way is old next x c rest w e h =
    ap (λ z. goes_on way (todo_of z)) e ∙ ap (goes_on way) (todo_snoc next x)
    ∙ ap (λ z. goes_on way (items_of z ++ todo_of next)) h
    ∙ ap (λ z. goes_on z (command (command_of c.now) ∷ (block_items rest.now ++ todo_of next))) w

-- a block that comes before the rest
pub items_before : (all mid rest : List Item) (cs block : List CodeCommand)
    → all ≡ block_items cs ++ mid
    → cs ≡ block → mid ≡ rest → all ≡ items (block_of block) ++ rest
items_before all mid rest cs block e s h =
    e ∙ (λ i. block_items (s i) ++ h i) ∙ ap (λ (z : List Item). z ++ rest) (items_block block)

-- the command that comes again, and the region that is to be left
pub items_again : (old next : List Todo) (c : Bor CodeCommand) (rest : Bor (List CodeCommand))
    (is : Command)
    → next ≡ old ++ Commands c rest ∷ [] → command_of c.now ≡ is
    → todo_of next ≡ command is ∷ (block_items rest.now ++ todo_of old)
items_again old next c rest is e h =
    ap todo_of e ∙ todo_snoc old (Commands c rest)
    ∙ ap (λ z. command z ∷ (block_items rest.now ++ todo_of old)) h

pub items_leave : (old next : List Todo) (r : ResId) (rest : List Item) → next ≡ old ++ Leave r ∷ []
    → todo_of old ≡ rest → todo_of next ≡ leave r ∷ rest
items_leave old next r rest e h = ap todo_of e ∙ todo_snoc old (Leave r)
    ∙ ap (λ (z : List Item). leave r ∷ z) h
