-- What an event takes from a tree of supplies, and what that leaves at each path.
-- Names: `kept-LAW` of what is left of the supply of the event's task, `put-LAW` of the tree with
-- another supply at a path, `above-LAW` of the task or of one above it, `beside-LAW` of any other.
use Rattle.std.specs.Prelude.{◌≡◌, ◌⊎◌, ℕ, suc, ◌/◌, true, false, List, [], ◌∷◌, length, take, drop, Some}
use Rattle.std.proofs.Common.{sym, ap, ◌∙◌, refl, subst, inl, inr, arith, true≢false}
use Rattle.std.proofs.lemmas.List.{length-append, take-append-drop}
use Rattle.sf_base.proofs.Options.{some-none, some-once}
use Rattle.sf_base.specs.declared.path.Turn.{Turn}
use Rattle.sf_base.specs.declared.path.Turn.TheVariants.{Left as left, Right as right}
use Rattle.sf_core.specs.Machine.Config.{Path, Config, Task}
use Rattle.sf_core.specs.Machine.Next.{Next, does, leaves, returns, joins, nothing, next}
use Rattle.sf_core.specs.Machine.SpentSteps.{is_at_or_above}
use Rattle.sf_core.specs.Machine.Step.{Event}
use Rattle.sf_core.specs.Machine.Supplies.{Supply, has, lent, left_in, supply_at, put_supply, TakesNext, CommandTakes, NextTakes, Takes}
use Rattle.sf_core.specs.Program.Syntax.{Command, new, fork}

-- what is left of a supply after an event, by what comes next and the units after the event's
abbrev pub kept_command : Command → List ℕ → Supply
kept_command (fork place c d) rest =
    lent (has (take (length rest / 2) rest)) (has (drop (length rest / 2) rest))
kept_command _ rest = has rest

abbrev pub kept_next : Next → List ℕ → Supply
kept_next (does f below c more) rest = kept_command c rest
kept_next (leaves f below r more) rest = has rest
kept_next (returns f below) rest = has rest
kept_next (joins frames one two) rest = has rest
kept_next nothing rest = has rest

kept-command : (ev : Event) (c : Command) (own kept : Supply) → CommandTakes ev c own kept
    → (rest : List ℕ) × TakesNext ev.number (left_in own) rest × (kept ≡ kept_command c rest)
kept-command ev (fork place c d) own kept h = h
kept-command ev (new place x) own kept h = (h.0, h.1, h.2)
kept-command ev c own kept h = h

pub kept-next : (ev : Event) (what : Next) (own kept : Supply) → NextTakes ev what own kept
    → (rest : List ℕ) × TakesNext ev.number (left_in own) rest × (kept ≡ kept_next what rest)
kept-next ev (does f below c more) own kept h = kept-command ev c own kept h
kept-next ev (leaves f below r more) own kept h = h
kept-next ev (returns f below) own kept h = h
kept-next ev (joins frames one two) own kept h = h
kept-next ev nothing own kept h = absurd h

-- all that is left is the units after the event's
left-command : (c : Command) (rest : List ℕ) → left_in (kept_command c rest) ≡ rest
left-command (fork place c d) rest = take-append-drop (length rest / 2) rest
left-command c rest = refl

left-next : (what : Next) (rest : List ℕ) → left_in (kept_next what rest) ≡ rest
left-next (does f below c more) rest = left-command c rest
left-next (leaves f below r more) rest = refl
left-next (returns f below) rest = refl
left-next (joins frames one two) rest = refl
left-next nothing rest = refl

next-one : (number : ℕ) (us rest : List ℕ) → TakesNext number us rest
    → length us ≡ suc (length rest)
next-one number [] rest h = absurd h
next-one number (u ∷ us) rest h = ap (λ z. suc (length z)) (sym h.1)

next-rest : (number : ℕ) (us rest other : List ℕ) → TakesNext number us rest
    → TakesNext number us other → rest ≡ other
next-rest number [] rest other h k = absurd h
next-rest number (u ∷ us) rest other h k = h.1 ∙ sym k.1

-- one unit less is left
pub kept-length : (ev : Event) (what : Next) (own kept : Supply) → NextTakes ev what own kept
    → length (left_in own) ≡ suc (length (left_in kept))
kept-length ev what own kept h =
    let (rest, takes, is) = kept-next ev what own kept h in
    next-one ev.number (left_in own) rest takes
    ∙ ap (λ z. suc (length z)) (sym (ap left_in is ∙ left-next what rest))

-- what is left is one thing
pub kept-one : (ev : Event) (what : Next) (own kept other : Supply) → NextTakes ev what own kept
    → NextTakes ev what own other → kept ≡ other
kept-one ev what own kept other h k =
    let (rest, takes, is) = kept-next ev what own kept h in
    let (more, takes_more, is_more) = kept-next ev what own other k in
    is ∙ (ap (kept_next what) (next-rest ev.number (left_in own) rest more takes takes_more)
    ∙ sym is_more)

pub takes-one : (ev : Event) (c : Config) (before after other : Supply) → Takes ev c before after
    → Takes ev c before other → after ≡ other
takes-one ev c before after other h k =
    let task : k.task ≡ h.task = some-once _ k.task h.task k.there h.there in
    let own : k.own ≡ h.own = some-once _ k.own h.own k.is h.is in
    let same = kept-one ev (next h.task) h.own h.kept k.kept h.takes
    (subst (λ (z : Task × Supply). NextTakes ev (next z.0) z.1 k.kept)
    (λ i. (task i, own i)) k.takes) in
    h.rest ∙ (ap (λ z. put_supply ev.task z before) same ∙ sym k.rest)

-- The tree with another supply at a path
pub put-here : (at : Path) (kept tree own : Supply) → supply_at at tree ≡ Some own
    → supply_at at (put_supply at kept tree) ≡ Some kept
put-here [] kept tree own is = refl
put-here (left ∷ at) kept (has us) own is = absurd (some-none own (sym is))
put-here (right ∷ at) kept (has us) own is = absurd (some-none own (sym is))
put-here (left ∷ at) kept (lent one two) own is = put-here at kept one own is
put-here (right ∷ at) kept (lent one two) own is = put-here at kept two own is

put-length : (at : Path) (kept tree own : Supply) → supply_at at tree ≡ Some own
    → length (left_in own) ≡ suc (length (left_in kept))
    → length (left_in tree) ≡ suc (length (left_in (put_supply at kept tree)))
put-length [] kept tree own is h = ap (λ z. length (left_in z)) (some-once _ tree own refl is) ∙ h
put-length (left ∷ at) kept (has us) own is h = absurd (some-none own (sym is))
put-length (right ∷ at) kept (has us) own is h = absurd (some-none own (sym is))
put-length (left ∷ at) kept (lent one two) own is h =
    let more = put-length at kept one own is h in
    let a = length-append (left_in one) (left_in two) in
    let b = length-append (left_in (put_supply at kept one)) (left_in two) in omega arith
put-length (right ∷ at) kept (lent one two) own is h =
    let more = put-length at kept two own is h in
    let a = length-append (left_in one) (left_in two) in
    let b = length-append (left_in one) (left_in (put_supply at kept two)) in omega arith

-- The task of the event, or one above it
-- it is there
pub above-there : (path at : Path) (tree own : Supply) → is_at_or_above path at ≡ true
    → supply_at at tree ≡ Some own → (u : Supply) × (supply_at path tree ≡ Some u)
above-there [] at tree own h is = (tree, refl)
above-there (turn ∷ path) [] tree own h is = absurd (true≢false (sym h))
above-there (left ∷ path) (left ∷ at) (has us) own h is = absurd (some-none own (sym is))
above-there (right ∷ path) (right ∷ at) (has us) own h is = absurd (some-none own (sym is))
above-there (left ∷ path) (left ∷ at) (lent one two) own h is = above-there path at one own h is
above-there (right ∷ path) (right ∷ at) (lent one two) own h is = above-there path at two own h is
above-there (left ∷ path) (right ∷ at) tree own h is = absurd (true≢false (sym h))
above-there (right ∷ path) (left ∷ at) tree own h is = absurd (true≢false (sym h))

-- and has one unit less after the event, with its descendants
pub above-length : (path at : Path) (kept tree own v : Supply) → is_at_or_above path at ≡ true
    → supply_at at tree ≡ Some own → length (left_in own) ≡ suc (length (left_in kept))
    → supply_at path (put_supply at kept tree) ≡ Some v
    → (u : Supply) × (supply_at path tree ≡ Some u)
    × (length (left_in u) ≡ suc (length (left_in v)))
above-length [] at kept tree own v h is less e = (
  tree,
  refl,
  put-length at kept tree own is less
      ∙ ap (λ z. suc (length (left_in z))) (some-once _ (put_supply at kept tree) v refl e),
)
above-length (turn ∷ path) [] kept tree own v h is less e = absurd (true≢false (sym h))
above-length (left ∷ path) (left ∷ at) kept (has us) own v h is less e =
    absurd (some-none own (sym is))
above-length (right ∷ path) (right ∷ at) kept (has us) own v h is less e =
    absurd (some-none own (sym is))
above-length (left ∷ path) (left ∷ at) kept (lent one two) own v h is less e =
    above-length path at kept one own v h is less e
above-length (right ∷ path) (right ∷ at) kept (lent one two) own v h is less e =
    above-length path at kept two own v h is less e
above-length (left ∷ path) (right ∷ at) kept tree own v h is less e =
    absurd (true≢false (sym h))
above-length (right ∷ path) (left ∷ at) kept tree own v h is less e =
    absurd (true≢false (sym h))

-- Any other task
-- it is left alone, or is below the event's task
pub beside-is : (path at : Path) (kept tree own : Supply) → is_at_or_above path at ≡ false
    → supply_at at tree ≡ Some own
    → (supply_at path (put_supply at kept tree) ≡ supply_at path tree)
    ⊎ ((turn : Turn) × (more : Path) × (supply_at path tree ≡ supply_at (turn ∷ more) own)
    × (supply_at path (put_supply at kept tree) ≡ supply_at (turn ∷ more) kept))
beside-is [] at kept tree own h is = absurd (true≢false h)
beside-is (turn ∷ path) [] kept tree own h is =
    inr (turn, path, ap (supply_at (turn ∷ path)) (some-once _ tree own refl is), refl)
beside-is (left ∷ path) (left ∷ at) kept (has us) own h is = absurd (some-none own (sym is))
beside-is (right ∷ path) (right ∷ at) kept (has us) own h is = absurd (some-none own (sym is))
beside-is (left ∷ path) (left ∷ at) kept (lent one two) own h is =
    beside-is path at kept one own h is
beside-is (right ∷ path) (right ∷ at) kept (lent one two) own h is =
    beside-is path at kept two own h is
beside-is (left ∷ path) (right ∷ at) kept (has us) own h is = absurd (some-none own (sym is))
beside-is (right ∷ path) (left ∷ at) kept (has us) own h is = absurd (some-none own (sym is))
beside-is (left ∷ path) (right ∷ at) kept (lent one two) own h is = inl refl
beside-is (right ∷ path) (left ∷ at) kept (lent one two) own h is = inl refl
