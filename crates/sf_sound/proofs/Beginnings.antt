-- The first goal of a procedure holds wherever its frame may begin, and suits it; so where it claims what is to do,
-- the body is safe.
-- Names: `own-LAW` of the procedure's own variables, `first-LAW` of its first goal, `body-safe`.
use Rattle.std.specs.List.{AllByRecursion}
use Rattle.std.specs.Prelude.{◌⊎◌, ◌<◌, ◌≤◌, ◌+◌, ◌-◌, ◌&&◌, Contains, flat_map, is_some, length, not, slice_get, get_or}
use Rattle.std.specs.Option.{unwrap_or, option_map}
use Rattle.std.proofs.Common.{◌≡◌, ℕ, suc, Bool, true, false, Option, Some, None, List, [], ◌∷◌, ◌++◌, All, cond, map, refl, sym, ap, ◌∙◌, subst, subst₂, inl, inr, arith}
use Rattle.std.proofs.lemmas.List.Elements.{All-contains, Contains-append_cases}
use Rattle.std.proofs.lemmas.Option.{slice_get-get_or, slice_get_within}
use Rattle.sf_base.proofs.Elements.{all_by-append, contains-cons, contains-nil}
use Rattle.sf_base.proofs.HeapSplits.{star-map, star-map_left, star-of}
use Rattle.sf_base.proofs.MapSplits.{empty-holds, empty_map, splits-empty_left, splits-empty_right}
use Rattle.sf_base.proofs.Members.{contains-flat_map, contains-flat_map_from}
use Rattle.sf_base.specs.declared.ids.ProcId.{ProcId}
use Rattle.sf_base.specs.declared.ids.ResId.{ResId}
use Rattle.sf_base.specs.declared.ids.Var.{Var}
use Rattle.sf_base.specs.declared.ids.Var.TheVariants.{Own, Shared}
use Rattle.sf_base.specs.declared.value.Value.{Value}
use Rattle.sf_base.specs.declared.value.Value.TheVariants.{Nil as nil}
use Rattle.sf_base.specs.HeapStore.{Cell, Heap}
use Rattle.sf_calls.specs.declared.breach.Breach.TheVariants.{NotHeld}
use Rattle.sf_calls.specs.Around.{IsHeld}
use Rattle.sf_calls.specs.Assigned.{MayChange}
use Rattle.sf_calls.specs.Breaks.{OccursAt}
use Rattle.sf_calls.specs.Conditions.{Free, FreeIn, IsShared}
use Rattle.sf_calls.specs.Checked.Lemmas.Sites.{among_at}
use Rattle.sf_calls.specs.Outside.{IsAmong}
use Rattle.sf_calls.specs.Reaches.{directly, through}
use Rattle.sf_core.proofs.Inits.{sets_up-is}
use Rattle.sf_core.specs.Assertions.Sat.{Sat, value}
use Rattle.sf_core.specs.Checked.GoodParts.{SatEach}
use Rattle.sf_core.specs.declared.command.Expr.{Expr}
use Rattle.sf_core.specs.declared.command.Expr.TheVariants.{Var as Variable, Nil as ENil, Int as EInt}
use Rattle.sf_core.specs.declared.command.Occurrence.{Occurrence}
use Rattle.sf_core.specs.Machine.Config.{items}
use Rattle.sf_core.specs.Machine.HasThroughout.{HasThroughout}
use Rattle.sf_core.specs.Machine.Step.{procedure_at}
use Rattle.sf_core.specs.Program.Formed.{BlockWithin, CommandWithin, ExprWithin, IsOfResource, IsSettable, variable_count}
use Rattle.sf_core.specs.Program.Heads.{call_occurrences, head_calls, head_occurrences, head_regions, occurrences_at}
use Rattle.sf_core.specs.Program.Init.{is_init}
use Rattle.sf_core.specs.Program.Syntax.{Assertion, Block, done, then, Call, Command, assign, look_up, mutate, new, dispose, if, while, call, fork, with, Procedure, Program, Resource}
use Rattle.sf_precise.specs.Annotations.{owed}
use Rattle.sf_rules.specs.Resources.{variables_from, variables_of}
use Rattle.sf_rules.specs.Setting.{Setting}
use Rattle.sf_rules.specs.Checked.Lemmas.Forms.{body-run}
use Rattle.sf_rules.specs.Words.{pending_assertion}
use Rattle.sf_safe.specs.Checked.Contract.{IsVariableOf, SetsVariableUp, tokens_of}
use Rattle.sf_safe.specs.Checked.Lemmas.{local-weaken}
use Rattle.sf_safe.specs.Checked.Local.{Begins, Ends, Local, look, value_in}
use Rattle.sf_safe.specs.Checked.LocalSafe.{LocalSafe}
use Rattle.sf_sound.proofs.Annotated.{HaveValues, usable-assumed}
use Rattle.sf_sound.proofs.Bodies.{HasScope, IsSane, annotation-post, annotation-pre, annotation-resource, block-suits, calls-no_region, entered-decides, free-there, is_entered, not-entered}
use Rattle.sf_sound.proofs.Keeping.{BlockTouches, CommandTouches, Keeping, Kept, Touches, has-some, keep, left-tokens_items, left-variables_items, left_tokens, left_variables, nothing_gone, nothing_lost, of-decides, of-is, some-has, touches-items}
use Rattle.sf_sound.proofs.Regions.{contains-of, of-contains}
use Rattle.sf_sound.proofs.Standing.{body-does, items-none, owed-run, steps-run, suits-run}
use Rattle.sf_sound.proofs.States.{nil-vars, renewed, renewed-vars, state-fresh, state-nil, terms-values}
use Rattle.sf_sound.proofs.Words.{adding-does, adding-suits, body-holds}
use Rattle.sf_sym.specs.Checked.Lemmas.Adding.{adding-holds}
use Rattle.sf_sound.specs.Checked.Claims.{SatisfiesEach}
use Rattle.sf_rules.specs.Checked.Lemmas.FirstVariables.{nils-all, own-listed, symbols-all, symbols-order}
use Rattle.sf_rules.specs.First.{first_goal, first_state_of, links_of, nils, own_vars, symbols, with_held}
use Rattle.sf_sound.specs.Checked.Suits.{Claim, Domain, HasDomain, IsListed, IsPassed, IsPlain, Suits, is_of}
use Rattle.sf_sym.specs.Below.{AreBelow, IsBelow}
use Rattle.sf_sym.specs.declared.term.Term.{Term}
use Rattle.sf_sym.specs.declared.term.Term.TheVariants.{Nil, Sym}
use Rattle.sf_sym.specs.Goal.{Item, return, to_run}
use Rattle.sf_sym.specs.Holds.{term_value, Agrees, AtomsHold, Differ}
use Rattle.sf_sym.specs.HoldsIn.{HoldsIn}
use Rattle.sf_sym.specs.Checked.Lemmas.Below.{below-symbol}
use Rattle.sf_sym.specs.Pending.{Pending}
use Rattle.sf_sym.specs.Ready.{is_listed}
use Rattle.sf_sym.specs.Variables.{AreInOrder}
use Rattle.sf_sym.specs.State.{State, first_state, term}

-- WHAT A BODY SETS it is one that it may set, or a resource's
references-settable : (p : Program) (g : Procedure) (refs : List Occurrence) (x : Var)
    → ((y : Occurrence) → Contains refs y → IsSettable p g y.var) → IsAmong x refs → IsSettable p g x
references-settable p g [] x h a = absurd a
references-settable p g (y ∷ ys) x h (inl e) =
    subst (IsSettable p g) e (h y ((contains-cons y ys y).1 (inl refl)))
references-settable p g (y ∷ ys) x h (inr a) =
    references-settable p g ys x (λ z i. h z ((contains-cons y ys z).1 (inr i))) a

changed-settable : (p : Program) (g : Procedure) (c : Call) (x : Var) → All (λ y. IsSettable p g y.var) c.references
    → MayChange p c x → IsSettable p g x ⊎ IsShared x
changed-settable p g c x w (inl a) =
    inl (references-settable p g c.references x
    (λ y i. All-contains (λ (y : Occurrence). IsSettable p g y.var) c.references y w i) a)
changed-settable p g c x w (inr free) = inr free.0

mutual
  command-settable : (p : Program) (g : Procedure) (c : Command) (x : Var) → CommandWithin p g c
      → CommandTouches p c x → IsSettable p g x ⊎ IsShared x
  command-settable p g (assign q y e) x w t = inl (subst (IsSettable p g) t w.0)
  command-settable p g (look_up q y e field) x w t = inl (subst (IsSettable p g) t w.0)
  command-settable p g (mutate q e field v) x w t = absurd t
  command-settable p g (new q y) x w t = inl (subst (IsSettable p g) t w)
  command-settable p g (dispose q e) x w t = absurd t
  command-settable p g (if q test this that) x w (inl t) = block-settable p g this x w.1 t
  command-settable p g (if q test this that) x w (inr t) = block-settable p g that x w.2 t
  command-settable p g (while q test invariant body) x w t = block-settable p g body x w.2 t
  command-settable p g (call q c) x w t = changed-settable p g c x w.references t
  command-settable p g (fork q c e) x w (inl t) = changed-settable p g c x w.0.references t
  command-settable p g (fork q c e) x w (inr t) = changed-settable p g e x w.1.references t
  command-settable p g (with q r test body) x w t = block-settable p g body x w.2 t

  block-settable : (p : Program) (g : Procedure) (b : Block) (x : Var) → BlockWithin p g b → BlockTouches p b x
      → IsSettable p g x ⊎ IsShared x
  block-settable p g done x w t = absurd t
  block-settable p g (then c b) x w (inl t) = command-settable p g c x w.0 t
  block-settable p g (then c b) x w (inr t) = block-settable p g b x w.1 t

-- an assertion that may stand where fewer variables are there
plain-more : (V W : Var → Type 0) (a : Assertion) → ((x : Var) → V x → W x) → IsPlain V a → IsPlain W a
plain-more V W a h u = record { variables = λ x o. h x (u.variables x o); closed = u.closed }

-- WHAT IS FREE IS HELD what occurs at a command occurs in it itself, or in one of its calls
occurs-at : (c : Command) (y : Occurrence) → Contains (occurrences_at c) y → OccursAt y c
occurs-at c y k = elim (Contains-append_cases (head_occurrences c) _ y k) [
  | inl h ↦ inl h
  | inr h ↦ inr (contains-flat_map_from call_occurrences (head_calls c) y h)
]

module _ (d : Setting) (sane : IsSane d) (f : ProcId) (r : ResId) (i : ℕ) (n : HasThroughout d.program f r → ⊥) where
  -- what the contract doesn't hold, and no region around enters, isn't held
  unheld : (entered : List ResId) → (Contains entered r → ⊥) → IsHeld d.program f entered r → ⊥
  unheld entered out (inl h) = n h
  unheld entered out (inr c) = out c

  free-not_held : FreeIn d.program f (Shared r i) → ⊥
  free-not_held (directly (h, there, inl o)) =
      n (inl (record { procedure = h; there = there; variable = i; occurs = inl o }))
  free-not_held (directly (h, there, inr (inl o))) =
      n (inl (record { procedure = h; there = there; variable = i; occurs = inr o }))
  free-not_held (directly (h, there, inr (inr (s, m, (out, a))))) =
      let y = among_at (Shared r i) (occurrences_at s.command) a in
      sane.unbroken f h there s m (NotHeld y.0.place (Shared r i)) (
        unheld (head_regions s.command ++ s.entered) out,
        inl (subst (λ (z : Occurrence). OccursAt z s.command) (λ j. record { var = y.2 j; place = y.0.place })
            (occurs-at s.command y.0 y.1)),
      )
  free-not_held (through g (h, there, (s, m, (out, (k, at, e)))) free) =
      sane.unbroken f h there s m (NotHeld k.place (Shared r i)) (
        unheld (head_regions s.command ++ s.entered)
            (λ c. elim (Contains-append_cases (head_regions s.command) s.entered r c) [
              | inl j ↦ calls-no_region s.command k r at j
              | inr j ↦ out j
            ]),
        inr (k, at, (refl, subst (λ z. Free d.program z (Shared r i)) (sym e) (tt, free))),
      )

-- a resource that has a variable of that number is there
counted-there : (rs : List Resource) (k i : ℕ) → i < variable_count (slice_get rs k) → k < length rs
counted-there rs k i h = go (slice_get rs k) refl h
  where
    go : (o : Option Resource) → slice_get rs k ≡ o → i < variable_count o → k < length rs
    go None e h = absurd (omega (arith, h))
    go (Some r) e h = slice_get_within rs k r e

-- what may be there at most once is the same where both are there or neither is
unit-same : (o q : Option (Unit {0})) → is_some o ≡ is_some q → o ≡ q
unit-same None None e = refl
unit-same None (Some v) e = absurd (cc)
unit-same (Some u) None e = absurd (cc)
unit-same (Some u) (Some v) e = refl

module _ (d : Setting) (sane : IsSane d) (f : ProcId) (g : Procedure)
    (there : procedure_at d.program f ≡ Some g) where
  abbrev p : Program
  p = d.program

  abbrev n0 : ℕ
  n0 = g.references + g.values

  abbrev s0 : State
  s0 = first_state (links_of p) (own_vars g) n0

  abbrev xs : List Var
  xs = flat_map (variables_of d.program) (get_or d.sets.holds f.0 [])

  abbrev first : State
  first = first_state_of d f g

  enough : n0 ≤ length g.names
  enough = let w = (sane.formed.procedures f.0 g there).declared in omega (arith, w)

  -- the resources that are held
  abbrev held_list : List ResId
  held_list = get_or d.sets.holds f.0 []

  held-list : slice_get d.sets.holds f.0 ≡ Some held_list
  held-list = slice_get-get_or d.sets.holds f.0 []
      (subst (λ k. f.0 < k) (sym sane.sets.holds.each) (slice_get_within p.procedures f.0 g there))

  -- a variable of a resource that is held
  held-variable : (r : ResId) (i : ℕ) → Contains held_list r → i < variable_count (slice_get p.resources r.0)
      → Contains xs (Shared r i)
  held-variable r i c l =
      contains-flat_map (variables_of p) held_list r (Shared r i) c (named (slice_get p.resources r.0) refl l)
    where
      named : (o : Option Resource) → slice_get p.resources r.0 ≡ o → i < variable_count (slice_get p.resources r.0)
          → Contains (unwrap_or (option_map (λ (of : Resource). variables_from r 0 of.variables)
          (slice_get p.resources r.0)) [])
          (Shared r i)
      named None e l = absurd (let m : i < 0 = subst (λ z. i < variable_count z) e l in omega (arith, m))
      named (Some of) e l =
          subst (λ z. Contains (unwrap_or (option_map (λ (of : Resource). variables_from r 0 of.variables) z) [])
          (Shared r i)) (sym e)
          (of-contains r of.variables (Shared r i) (of-is r (length of.variables) (Shared r i)
          (refl, subst (λ z. i < variable_count z) e l)))

  -- one that is free is one of these
  free-held : (r : ResId) (i : ℕ) → Free p f (Shared r i) → Contains xs (Shared r i)
  free-held r i free = held-variable r i (go (is_entered held_list r) refl) (free-there d sane r i f free.1)
    where
      go : (b : Bool) → is_entered held_list r ≡ b → Contains held_list r
      go true e = (entered-decides held_list r).0 e
      go false e = absurd (free-not_held d sane f r i
          (λ h. not-entered held_list r e (((sane.sets.holds.is f held_list held-list).members r).1 h)) free.1)

  -- and so is one that it sets up
  set_up-held : (r : ResId) (i : ℕ) → SetsVariableUp p g r i → Contains xs (Shared r i)
  set_up-held r i (init, l) =
      held-variable r i
      (((sane.sets.holds.is f held_list held-list).members r).1
      (inr (sets_up-is p f g there ∙ init, counted-there p.resources r.0 i l))) l

  -- all of these are variables of the program's resources
  held-of : (x : Var) → Contains xs x
      → (q : ResId) × (of : Resource) × (slice_get p.resources q.0 ≡ Some of)
      × IsOfResource q.0 (length of.variables) x
  held-of x c =
      let q = contains-flat_map_from (variables_of p) held_list x c in
      let r = go q.0 (slice_get p.resources q.0.0) refl q.2 in (q.0, r.0, r.1, r.2)
    where
      go : (q : ResId) (o : Option Resource) → slice_get p.resources q.0 ≡ o
          → Contains (unwrap_or (option_map (λ (of : Resource). variables_from q 0 of.variables)
          (slice_get p.resources q.0)) []) x
          → (of : Resource) × (slice_get p.resources q.0 ≡ Some of) × IsOfResource q.0 (length of.variables) x
      go q o e c = there-of q o e (subst (λ z. Contains (unwrap_or (option_map (λ (of : Resource).
          variables_from q 0 of.variables) z) []) x) e c)
        where
          there-of : (q : ResId) (o : Option Resource) → slice_get p.resources q.0 ≡ o
              → Contains (unwrap_or (option_map (λ (of : Resource). variables_from q 0 of.variables) o) []) x
              → (of : Resource) × (slice_get p.resources q.0 ≡ Some of) × IsOfResource q.0 (length of.variables) x
          there-of q None e c = absurd (contains-nil x c)
          there-of q (Some of) e c =
              (of, e, of-decides q (length of.variables) x (contains-of q of.variables x c))

  module _ (l : Local) (values : ℕ → Value) (b : Begins p f g values l) where
    abbrev D : Domain
    D = record { has = λ x. is_some (l.values x); holds = λ r. is_some (l.tokens r) }

    has : HasDomain D l
    has = record { variables = λ x. refl; tokens = λ r. refl }

    scope : HasScope d sane f g there [] D
    scope x (inl i) = has-some l x (b.owns.variables.each x i)
    scope x (inr (r, i, e)) = absurd (contains-nil r i)

    in-scope : (x : Var) → IsPassed d f g x → D.has x ≡ true
    in-scope (Own i) h = has-some l (Own i) (b.owns.variables.each (Own i) (let e = enough in omega (arith, h, e)))
    in-scope (Shared r i) h = has-some l (Shared r i) (b.owns.variables.each (Shared r i) (inl h))

    -- the variables that the state knows before those of resources come up
    abbrev own_domain : Domain
    own_domain = record { has = λ x. is_listed (own_vars g) x; holds = λ r. false }

    below : AreBelow (record { state = s0; todo = [] })
    below = record {
      state = record {
        vars = all_by-append (λ (v : Var × Term). IsBelow n0 v.1) (symbols 0 n0) (nils n0 (length g.names - n0))
            (symbols-all (λ (v : Var × Term). IsBelow n0 v.1) 0 n0
            (λ i a c. below-symbol n0 i (omega (arith, c))))
            (nils-all (λ (v : Var × Term). IsBelow n0 v.1) n0 (length g.names - n0) (λ i a c. refl));
        apart = tt;
        atoms = tt;
        taken = tt;
      };
      todo = tt;
    }

    order : AreInOrder s0.vars
    order = subst (λ k. AreInOrder (symbols 0 n0 ++ nils k (length g.names - n0)))
        (let e : 0 + n0 ≡ n0 = omega arith in e) (symbols-order 0 n0 (length g.names - n0))

    known : (x : Var) → D.has x ≡ true → (is_listed (own_vars g) x ≡ true) ⊎ Contains xs x
    known x e = go x (b.owns.variables.only x (some-has l x e))
      where
        go : (x : Var) → IsVariableOf p f g x → (is_listed (own_vars g) x ≡ true) ⊎ Contains xs x
        go (Own i) h = inl (subst (λ k. is_listed (symbols 0 n0 ++ nils k (length g.names - n0)) (Own i) ≡ true)
            (let e : 0 + n0 ≡ n0 = omega arith in e)
            (own-listed 0 n0 (length g.names - n0) i (omega arith) (let m = enough in omega (arith, h, m))))
        go (Shared r i) (inl free) = inr (free-held r i free)
        go (Shared r i) (inr set) = inr (set_up-held r i set)

    state : IsListed D first
    state = go (is_init g)
      where
        go : (sets_up : Bool) → IsListed D (with_held sets_up xs s0)
        go true = state-nil own_domain D s0 xs (λ x e. e) known
        go false = state-fresh own_domain D s0 xs (λ x e. e) known

    -- where it sets the resources up, their variables are nil
    unset : is_init g ≡ true → (x : Var) → Contains xs x → value_in l x ≡ nil
    unset init x c = let q = held-of x c in go x q.0 q.1 q.2 q.3
      where
        go : (x : Var) (q : ResId) (of : Resource) → slice_get p.resources q.0 ≡ Some of
            → IsOfResource q.0 (length of.variables) x → value_in l x ≡ nil
        go (Own n) q of e i = absurd i
        go (Shared r j) q of e i =
            b.unset r j (
              init,
              subst (λ k. j < variable_count (slice_get p.resources k)) (sym i.0)
                  (subst (λ z. j < variable_count z) (sym e) i.1),
            )

    -- values of the symbols: those of the parameters
    abbrev w0 : ℕ → Value
    w0 i = value_in l (Own i)

    agrees : (x : Var) (t : Term) → value_in l x ≡ term_value w0 t → Agrees w0 l.values (x, t)
    agrees x t e v i = sym (ap (λ o. unwrap_or o nil) i) ∙ e

    held-before : HoldsIn w0 (record { state = s0; todo = [] }) l.values empty_map empty_map
    held-before = record {
      vars = all_by-append (Agrees w0 l.values) (symbols 0 n0) (nils n0 (length g.names - n0))
          (symbols-all (Agrees w0 l.values) 0 n0 (λ i a c. agrees (Own i) (Sym i) refl))
          (nils-all (Agrees w0 l.values) n0 (length g.names - n0)
          (λ i a c. agrees (Own i) Nil (b.locals i a (let m = enough in omega (arith, c, m)))));
      apart = tt;
      disjoint = (splits-empty_right {X = Cell} {map = empty_map} empty-holds).apart;
      there = star-of (splits-empty_left empty-holds) empty-holds empty-holds;
      gone = empty-holds;
    }

    -- and those of the variables of resources, where they have symbols
    valued : (sets_up : Bool) → is_init g ≡ sets_up
        → (w : ℕ → Value) × AllByRecursion (Agrees w l.values) (with_held sets_up xs s0).vars
    valued true e = (w0, nil-vars s0 xs w0 l order held-before.vars (unset e))
    valued false e = (
      renewed s0 [] below order xs w0 l l empty_map empty_map held-before (λ x i. refl),
      renewed-vars s0 [] below order xs w0 l l empty_map empty_map held-before (λ x i. refl),
    )

    abbrev w : ℕ → Value
    w = (valued (is_init g) refl).0

    vars : AllByRecursion (Agrees w l.values) first.vars
    vars = (valued (is_init g) refl).1

    abbrev to : Expr → Term
    to = term first.vars

    -- what its return owes, in order
    abbrev due : List Assertion
    due = map d.ordered (owed p g)

    abbrev ending : List Item
    ending = return g.end due ∷ []

    abbrev pre : Pending
    pre = pending_assertion to (d.ordered g.pre)

    seen : HaveValues (IsPassed d f g) w to (value_in l)
    seen e i = terms-values d D first state w l has vars e (more e i)
      where
        more : (e : Expr) → ExprWithin (IsPassed d f g) e → ExprWithin (λ x. D.has x ≡ true) e
        more (Variable x) i = in-scope x.var i
        more ENil i = tt
        more (EInt k) i = tt

    -- nothing else is known
    known-apart : (sets_up : Bool) → AllByRecursion (Differ w) (with_held sets_up xs s0).apart
    known-apart true = tt
    known-apart false = tt

    known-atoms : (sets_up : Bool)
        → AtomsHold w (with_held sets_up xs s0).links (with_held sets_up xs s0).atoms empty_map
    known-atoms true = empty-holds
    known-atoms false = empty-holds

    known-taken : (sets_up : Bool)
        → AtomsHold w (with_held sets_up xs s0).links (with_held sets_up xs s0).taken empty_map
    known-taken true = empty-holds
    known-taken false = empty-holds

    first-holds : HoldsIn w (first_goal d f g) l.values l.cells empty_map
    first-holds = record {
      vars = vars;
      apart = known-apart (is_init g);
      disjoint = (splits-empty_right {map = l.cells} empty-holds).apart;
      there = star-of (splits-empty_left empty-holds) (known-atoms (is_init g))
          (adding-holds w g.place pre (to_run g.body ++ ending) l.cells
          (body-holds w (to_run g.body ++ ending) l.cells (body-run g.body ending tt)
          (usable-assumed d (IsPassed d f g) g.pre (annotation-pre d sane f g there) w to (value_in l) l.cells seen
          b.pre)));
      gone = known-taken (is_init g);
    }

    -- what is owed speaks of what the frame has
    of-scope : is_init g ≡ true → (r : ResId) (of : Resource) → slice_get p.resources r.0 ≡ Some of → (x : Var)
        → is_of r (length of.variables) x ≡ true → D.has x ≡ true
    of-scope init r of e x i = go x (of-decides r (length of.variables) x i)
      where
        go : (x : Var) → IsOfResource r.0 (length of.variables) x → D.has x ≡ true
        go (Own n) i = absurd i
        go (Shared q j) i =
            has-some l (Shared q j) (b.owns.variables.each (Shared q j) (inr (
              init,
              subst (λ k. j < variable_count (slice_get p.resources k)) (sym i.0)
                  (subst (λ z. j < variable_count z) (sym e) i.1),
            )))

    invariants-plain : (rs : List Resource)
        → ((i : ℕ) (of : Resource) → slice_get rs i ≡ Some of → IsPlain (λ x. D.has x ≡ true) (d.ordered of.invariant))
        → AllByRecursion (IsPlain (λ x. D.has x ≡ true)) (map d.ordered (map (λ (r : Resource). r.invariant) rs))
    invariants-plain [] h = tt
    invariants-plain (r ∷ rs) h = (h 0 r refl, invariants-plain rs (λ i of e. h (suc i) of e))

    due-plain : (sets_up : Bool) → is_init g ≡ sets_up
        → AllByRecursion (IsPlain (λ x. D.has x ≡ true))
        (map d.ordered (cond sets_up (map (λ (r : Resource). r.invariant) p.resources) (g.post ∷ [])))
    due-plain true init =
        invariants-plain p.resources (λ i of e.
        let r : ResId = record { 0 = i } in
        plain-more (λ x. is_of r (length of.variables) x ≡ true) (λ x. D.has x ≡ true) (d.ordered of.invariant)
        (of-scope init r of e) (annotation-resource d sane r of e).plain)
    due-plain false init = (
      plain-more (IsPassed d f g) (λ x. D.has x ≡ true) (d.ordered g.post) in-scope
          (annotation-post d sane f g there).plain,
      tt,
    )

    first-suits : Suits d D (first_goal d f g)
    first-suits = record {
      listed = state;
      todo = adding-suits d D g.place pre (to_run g.body ++ ending)
          (suits-run d D g.body ending
          (block-suits d sane f g there [] D g.body (λ t i. i) (sane.formed.procedures f.0 g there).body scope)
          (due-plain (is_init g) refl));
    }

    -- where the first goal claims what is to do, the body is safe
    runs : Claim d (first_goal d f g) → (n : ℕ) → LocalSafe p n (SatisfiesEach due) (items g.body) l
    runs claim n =
        subst (λ ss. LocalSafe p n (SatisfiesEach due) ss l) (items-none g.body)
        (subst₂ (λ e ss. LocalSafe p n e ss l) (owed-run g.body ending) (steps-run g.body ending)
        (body-does p n w (to_run g.body ++ ending) l (body-run g.body ending tt)
        (adding-does p n w g.place pre (to_run g.body ++ ending) l
        (claim n w D l empty_map first-suits has first-holds))))

    abbrev A : Var → Type 0
    A x = BlockTouches p g.body x

    -- what is kept at the end is what a frame has that ends
    invariants-met : (see : Var → Value) (rs : List Resource)
        → ((i : ℕ) (of : Resource) → slice_get rs i ≡ Some of → (heap : Heap)
        → Sat (d.ordered of.invariant).level (value see) (λ n. nil) heap
        → Sat of.invariant.level (value see) (λ n. nil) heap)
        → (heap : Heap)
        → SatEach (map (λ (a : Assertion). a.level) (map d.ordered (map (λ (r : Resource). r.invariant) rs))) (value see) heap
        → SatEach (map (λ (r : Resource). r.invariant.level) rs) (value see) heap
    invariants-met see [] h heap sat = sat
    invariants-met see (r ∷ rs) h heap sat =
        star-map (λ part s. h 0 r refl part s)
        (λ rest s. invariants-met see rs (λ i of e. h (suc i) of e) rest s) sat

    due-met : (sets_up : Bool) (m : Local)
        → SatEach (map (λ (a : Assertion). a.level)
        (map d.ordered (cond sets_up (map (λ (r : Resource). r.invariant) p.resources) (g.post ∷ [])))) (look m) m.cells
        → SatEach (cond sets_up (map (λ (r : Resource). r.invariant.level) p.resources) (g.post.level ∷ [])) (look m)
        m.cells
    due-met true m sat =
        invariants-met (value_in m) p.resources
        (λ i of e heap s. ((annotation-resource d sane (record { 0 = i }) of e).means (value_in m) heap).1 s) m.cells sat
    due-met false m sat =
        star-map_left (λ part s. ((annotation-post d sane f g there).means (value_in m) part).1 s) sat

    ends : (m : Local) → SatisfiesEach due m
        → Kept A (left_variables p (items g.body)) (left_tokens (items g.body)) l m → Ends p f values m
    ends m holds kept = record {
      procedure = g;
      there = there;
      owns = record {
        variables = record {
          each = λ x i. some-has m x (same x ∙ has-some l x (b.owns.variables.each x i));
          only = λ x h. b.owns.variables.only x (some-has l x (sym (same x) ∙ has-some m x h));
        };
        tokens = λ r. unit-same (m.tokens r) (tokens_of p g r)
            (kept.tokens r ∙ ap (λ z. not (z r) && is_some (l.tokens r)) lost ∙ ap is_some (b.owns.tokens r));
        parameters = λ i h.
            ap (λ o. unwrap_or o nil)
            (kept.same (Own (g.references + i)) (ap (λ z. z (Own (g.references + i))) none) (λ t. unwritten i h t))
            ∙ b.owns.parameters i h;
      };
      posts = due-met (is_init g) m holds;
    }
      where
        none : left_variables p (items g.body) ≡ nothing_gone
        none = ap (left_variables p) (sym (items-none g.body)) ∙ left-variables_items p g.body []

        lost : left_tokens (items g.body) ≡ nothing_lost
        lost = ap left_tokens (sym (items-none g.body)) ∙ left-tokens_items g.body []

        same : (x : Var) → is_some (m.values x) ≡ is_some (l.values x)
        same x = kept.domain x ∙ ap (λ z. not (z x) && is_some (l.values x)) none

        unwritten : (i : ℕ) → i < g.values → BlockTouches p g.body (Own (g.references + i)) → ⊥
        unwritten i h t =
            elim (block-settable p g g.body (Own (g.references + i)) (sane.formed.procedures f.0 g there).body t) [
              | inl s ↦ (let k = s.1 (omega (arith, h)) in omega (arith, k))
              | inr s ↦ s
            ]

    pub body-safe : Claim d (first_goal d f g) → (n : ℕ) → LocalSafe p n (Ends p f values) (items g.body) l
    body-safe claim n =
        local-weaken p n (Keeping p A (SatisfiesEach due) (items g.body) l) (Ends p f values)
        (items g.body) l
        (λ m (e, k). ends m e k) (keep p A n (SatisfiesEach due) (items g.body) l touches (runs claim n))
      where
        touches : (x : Var) → Touches p (items g.body) x → BlockTouches p g.body x
        touches x t = elim (touches-items p g.body [] x (subst (λ ss. Touches p ss x) (sym (items-none g.body)) t)) [
          | inl y ↦ y
          | inr y ↦ absurd y
        ]
