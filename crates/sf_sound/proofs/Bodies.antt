-- Bodies of a well-formed program that meets the conditions on variables suit the frames that run them.
-- Names: `has-LAW` of the variables that a frame has at a command, `annotation-LAW`, `block-suits`.
use Rattle.std.specs.Bool.{Decides}
use Rattle.std.specs.List.{flat_map, list_any}
use Rattle.std.specs.Prelude.{◌⊎◌, ◌<◌, ◌==◌, Contains, length, map, slice_get}
use Rattle.std.proofs.Common.{◌≡◌, ℕ, zero, suc, Bool, true, false, Option, Some, None, List, [], ◌∷◌, ◌++◌, refl, sym, ap, subst, inl, inr, arith}
use Rattle.std.proofs.lemmas.Bool.{or_left, or_right}
use Rattle.std.proofs.lemmas.List.Elements.{Contains-append_cases, Contains-append_left, Contains-append_right}
use Rattle.std.proofs.lemmas.Option.{none-some, same_Some, slice_get-get_or, slice_get_within}
use Rattle.sf_base.proofs.Elements.{contains-cons, contains-decides, contains-nil, contains-single_of}
use Rattle.sf_base.proofs.Members.{contains-flat_map, contains-map, contains-map_from}
use Rattle.sf_base.proofs.Variables.{resource-decides}
use Rattle.sf_base.specs.declared.ids.ProcId.{ProcId}
use Rattle.sf_base.specs.declared.ids.ResId.{ResId}
use Rattle.sf_base.specs.declared.ids.Var.{Var}
use Rattle.sf_base.specs.declared.ids.Var.TheVariants.{Own, Shared}
use Rattle.sf_calls.specs.Assigned.{MayChange}
use Rattle.sf_calls.specs.Changes.{changed, free_in}
use Rattle.sf_calls.specs.Conditions.{FreeIn, Mentions}
use Rattle.sf_calls.specs.Checked.Laws.{ChangesAreAssigned}
use Rattle.sf_calls.specs.Checked.Lemmas.Sites.{among_at, among_of}
use Rattle.sf_calls.specs.Checked.Lemmas.Within.{block_within, level_within}
use Rattle.sf_calls.specs.Reaches.{directly, through}
use Rattle.sf_calls.specs.Sets.{AreSetsOf}
use Rattle.sf_core.proofs.HeadsWithin.{call-within, calls-within, head-within}
use Rattle.sf_core.proofs.Occurrences.{level-is}
use Rattle.sf_core.specs.Assertions.Occurs.{VarOccursIn}
use Rattle.sf_core.specs.declared.assertion.Test.{Test}
use Rattle.sf_core.specs.declared.assertion.Test.TheVariants.{True, Equal, Differ}
use Rattle.sf_core.specs.declared.command.Expr.{Expr}
use Rattle.sf_core.specs.declared.command.Expr.TheVariants.{Var as Variable, Nil, Int}
use Rattle.sf_core.specs.declared.command.Occurrence.{Occurrence}
use Rattle.sf_core.specs.Machine.Step.{procedure_at}
use Rattle.sf_core.specs.Program.Formed.{AssertionWithin, BlockWithin, CallWithin, CommandWithin, HasCounts, IsFormed, IsInBody, IsOfResource, IsParameter, ProcedureWithin, variable_count}
use Rattle.sf_core.specs.Program.Heads.{Site, call_occurrences, expr_occurrences, head_calls, head_invariants, head_occurrences, head_regions, inner_sites, level_occurrences, occurrences_at, sites, test_occurrences}
use Rattle.sf_core.specs.Program.Syntax.{Assertion, Block, done, then, Call, Command, assign, look_up, mutate, new, dispose, if, while, call, fork, with, Procedure, Program, Resource}
use Rattle.sf_precise.specs.Annotations.{annotations_in, loops_in, notes_of}
use Rattle.sf_precise.specs.Checked.Laws.{OrderKeepsForm, OrderKeepsMeaning, OrderedIsDetermined}
use Rattle.sf_precise.specs.Order.{IsOrderOf}
use Rattle.sf_rules.specs.Setting.{Setting}
use Rattle.sf_safe.specs.Checked.Contract.{IsVariableOf}
use Rattle.sf_safe.specs.Checked.Unbroken.{Unbroken, unbroken-apart, unbroken-fits}
use Rattle.sf_sound.proofs.Keeping.{of-is, size}
use Rattle.sf_sound.proofs.Orders.{usable-of}
use Rattle.sf_sound.specs.Checked.Suits.{BlockSuits, CallSuits, CommandSuits, Domain, IsPassed, IsUsable, Reads, ReadsAll, ReadsTest, ResourceSuits, is_of, with_resource}

-- what is known of a program and of how its annotations are put in order
pub record IsSane (d : Setting) : Type 0 where
  pub formed : IsFormed d.program
  pub sets : AreSetsOf d.program d.sets
  pub unbroken : (f : ProcId) (g : Procedure) → procedure_at d.program f ≡ Some g → (s : Site)
      → Contains (sites [] g.body) s → Unbroken d.program f s
  pub ordered : (a : Assertion) → Contains (annotations_in d.program) a → IsOrderOf a (d.ordered a)
  pub changes : ChangesAreAssigned
  pub meaning : OrderKeepsMeaning
  pub determined : OrderedIsDetermined
  pub form : OrderKeepsForm

-- whether a resource is among those that are entered
abbrev pub is_entered : List ResId → ResId → Bool
is_entered entered r = list_any (λ q. q.0 == r.0) entered

pub entered-decides : (entered : List ResId) (r : ResId) → Decides (is_entered entered r) (Contains entered r)
entered-decides entered r = contains-decides (λ q t. q.0 == t.0) resource-decides entered r

pub not-entered : (entered : List ResId) (r : ResId) → is_entered entered r ≡ false → Contains entered r → ⊥
not-entered entered r e c = let i = (entered-decides entered r).1 c in absurd (cc)

-- a command that makes a call is no region
pub calls-no_region : (c : Command) (k : Call) (r : ResId) → Contains (head_calls c) k
    → Contains (head_regions c) r → ⊥
calls-no_region (with q s t b) k r i j = contains-nil k i
calls-no_region _ k r i j = contains-nil r j

-- a number below the length of a list has something there
none-in : {X : Type 0} (xs : List X) (i : ℕ) → i < length xs → slice_get xs i ≡ None → ⊥
none-in [] i l e = absurd (omega (arith, l))
none-in (x ∷ xs) zero l e = absurd (none-some x (sym e))
none-in (x ∷ xs) (suc i) l e = none-in xs i (omega (arith, l)) e

-- what has a number in a list is in it
slice-contains : {X : Type 0} (xs : List X) (i : ℕ) (x : X) → slice_get xs i ≡ Some x → Contains xs x
slice-contains [] i x e = absurd (none-some x e)
slice-contains (y ∷ ys) zero x e = (contains-cons y ys x).1 (inl (same_Some y x e))
slice-contains (y ∷ ys) (suc i) x e = (contains-cons y ys x).1 (inr (slice-contains ys i x e))

-- there is a procedure
procedure-there : (o : Option Procedure) (c : Call) → HasCounts o c → (h : Procedure) × (o ≡ Some h)
procedure-there None c h = absurd h
procedure-there (Some g) c h = (g, refl)

module _ (d : Setting) (sane : IsSane d) where
  abbrev p : Program
  p = d.program

  -- a resource's variable that is free in a procedure is there
  pub free-there : (r : ResId) (i : ℕ) (f : ProcId) → FreeIn p f (Shared r i) → i < size p r
  free-there r i f (directly (h, there, inl o)) =
      level_within p.fields (IsParameter p h) [] (Shared r i) h.pre.level
      (sane.formed.procedures f.0 h there).pre.annotation.within o
  free-there r i f (directly (h, there, inr (inl o))) =
      level_within p.fields (IsParameter p h) [] (Shared r i) h.post.level
      (sane.formed.procedures f.0 h there).post.annotation.within
      o
  free-there r i f (directly (h, there, inr (inr o))) =
      block_within p h (Shared r i) h.body (sane.formed.procedures f.0 h there).body o
  free-there r i f (through g c m) = free-there r i g m

  -- the annotations of the program
  procedure-notes : (f : ProcId) (g : Procedure) → procedure_at p f ≡ Some g → (a : Assertion)
      → Contains (notes_of g) a
      → Contains (annotations_in p) a
  procedure-notes f g there a i =
      Contains-append_right (map (λ (r : Resource). r.invariant) p.resources) (flat_map notes_of p.procedures) a
      (contains-flat_map notes_of p.procedures g a (slice-contains p.procedures f.0 g there) i)

  resource-notes : (r : ResId) (of : Resource) → slice_get p.resources r.0 ≡ Some of
      → Contains (annotations_in p) of.invariant
  resource-notes r of there =
      Contains-append_left (map (λ (r : Resource). r.invariant) p.resources)
      (flat_map notes_of p.procedures) of.invariant
      (contains-map (λ (r : Resource). r.invariant) p.resources of (slice-contains p.resources r.0 of there))

  -- an invariant of a resource
  pub annotation-resource : (r : ResId) (of : Resource) → slice_get p.resources r.0 ≡ Some of
      → IsUsable d (λ x. is_of r (length of.variables) x ≡ true) of.invariant
  annotation-resource r of there =
      let within = sane.formed.resources r.0 of there in
      let order = sane.ordered of.invariant (resource-notes r of there) in
      usable-of sane.meaning sane.determined d (λ x. is_of r (length of.variables) x ≡ true)
      (IsOfResource r.0 (length of.variables)) of.invariant order
      (sane.form.resource p r.0 (length of.variables) of.invariant (d.ordered of.invariant) order within)
      (λ x o. of-is r (length of.variables) x
      (level_within p.fields (IsOfResource r.0 (length of.variables)) [] x of.invariant.level within.annotation.within o))

  module _ (f : ProcId) (g : Procedure) (there : procedure_at p f ≡ Some g) where
    within : ProcedureWithin p g
    within = sane.formed.procedures f.0 g there

    -- what a contract mentions is passed
    passed : (a : Assertion) → AssertionWithin p.fields (IsParameter p g) a
        → ((x : Var) → VarOccursIn a.level x → Mentions p x f) → (x : Var) → VarOccursIn a.level x → IsPassed d f g x
    passed a w mentions (Own i) o = level_within p.fields (IsParameter p g) [] (Own i) a.level w.annotation.within o
    passed a w mentions (Shared r i) o = (tt, directly (mentions (Shared r i) o))

    pub annotation-pre : IsUsable d (IsPassed d f g) g.pre
    annotation-pre =
        let order = sane.ordered g.pre (procedure-notes f g there g.pre
        ((contains-cons g.pre (loops_in g.body ++ g.post ∷ []) g.pre).1 (inl refl))) in
        usable-of sane.meaning sane.determined d (IsPassed d f g) (IsParameter p g) g.pre order
        (sane.form.contract p g g.pre (d.ordered g.pre) order within.pre)
        (passed g.pre within.pre (λ x o. (g, there, inl o)))

    pub annotation-post : IsUsable d (IsPassed d f g) g.post
    annotation-post =
        let order = sane.ordered g.post (procedure-notes f g there g.post
        ((contains-cons g.pre (loops_in g.body ++ g.post ∷ []) g.post).1
        (inr (Contains-append_right (loops_in g.body) (g.post ∷ []) g.post
        (contains-single_of g.post g.post refl))))) in
        usable-of sane.meaning sane.determined d (IsPassed d f g) (IsParameter p g) g.post order
        (sane.form.contract p g g.post (d.ordered g.post) order within.post)
        (passed g.post within.post (λ x o. (g, there, inr (inl o))))

  module _ (f : ProcId) (g : Procedure) (there : procedure_at p f ≡ Some g) where
    -- what a frame has inside regions of those resources
    abbrev InScope : List ResId → Var → Type 0
    InScope entered x = IsVariableOf p f g x ⊎ ((r : ResId) × Contains entered r × (is_of r (size p r) x ≡ true))

    abbrev pub HasScope : List ResId → Domain → Type 0
    HasScope entered D = (x : Var) → InScope entered x → D.has x ≡ true

    module _ (entered : List ResId) (c : Command)
        (here : Contains (sites [] g.body) (record { entered = entered; command = c }))
        (w : CommandWithin p g c) where
      abbrev s : Site
      s = record { entered = entered; command = c }

      -- a variable that occurs in the command
      has-occurs : (D : Domain) → HasScope (head_regions c ++ entered) D → (y : Occurrence)
          → Contains (occurrences_at c) y → IsInBody p g y.var → D.has y.var ≡ true
      has-occurs D scope y o i = go y.var refl i
        where
          go : (x : Var) → y.var ≡ x → IsInBody p g x → D.has x ≡ true
          go (Own k) e i = scope (Own k) (inl i)
          go (Shared r k) e i = by (is_entered (head_regions c ++ entered) r) refl
            where
              by : (b : Bool) → is_entered (head_regions c ++ entered) r ≡ b → D.has (Shared r k) ≡ true
              by true m =
                  scope (Shared r k)
                  (inr (
                    r,
                    (entered-decides (head_regions c ++ entered) r).0 m,
                    of-is r (size p r) (Shared r k) (refl, i),
                  ))
              by false m =
                  scope (Shared r k)
                  (inl (inl (
                    tt,
                    directly (
                      g,
                      there,
                      inr (inr (
                        s,
                        here,
                        (not-entered (head_regions c ++ entered) r m, among_of (Shared r k) (occurrences_at c) y o e),
                      )),
                    ),
                  )))

      -- one that a call may change
      has-changed : (D : Domain) → HasScope entered D → (k : Call) → Contains (head_calls c) k → CallWithin p g k
          → (x : Var) → MayChange p k x → D.has x ≡ true
      has-changed D scope k m cw x (inl a) =
          let y = among_at x k.references a in
          subst (λ z. D.has z ≡ true) y.2
          (has-occurs D (λ z i. scope z (out z i)) y.0 (in-call y.0 (Contains-append_left k.references _ y.0 y.1))
          (call-within p g k cw y.0 (Contains-append_left k.references _ y.0 y.1)))
        where
          in-call : (y : Occurrence) → Contains (call_occurrences k) y → Contains (occurrences_at c) y
          in-call y i =
              Contains-append_right (head_occurrences c) (flat_map call_occurrences (head_calls c)) y
              (contains-flat_map call_occurrences (head_calls c) k y m i)

          out : (z : Var) → InScope (head_regions c ++ entered) z → InScope entered z
          out z (inl i) = inl i
          out z (inr (r, i, e)) = inr (
            r,
            elim (Contains-append_cases (head_regions c) entered r i) [
              | inl h ↦ absurd (calls-no_region c k r m h)
              | inr h ↦ h
            ],
            e,
          )
      has-changed D scope k m cw (Own i) (inr free) = absurd free.0
      has-changed D scope k m cw (Shared r i) (inr free) = by (is_entered entered r) refl
        where
          by : (b : Bool) → is_entered entered r ≡ b → D.has (Shared r i) ≡ true
          by true e =
              scope (Shared r i)
              (inr (
                r,
                (entered-decides entered r).0 e,
                of-is r (size p r) (Shared r i) (refl, free-there r i k.callee free.1),
              ))
          by false e =
              scope (Shared r i)
              (inl (inl (
                tt,
                through k.callee
                    (g, there, (s, here, (not-entered entered r e, (k, m, refl)))) free.1,
              )))

      -- what an expression, a test and values read
      reads-expr : (D : Domain) → (e : Expr) → ((y : Occurrence) → Contains (expr_occurrences e) y
          → D.has y.var ≡ true)
          → Reads D e
      reads-expr D (Variable y) h = h y (contains-single_of y y refl)
      reads-expr D Nil h = tt
      reads-expr D (Int i) h = tt

      reads-test : (D : Domain) → (t : Test Expr)
          → ((y : Occurrence) → Contains (test_occurrences expr_occurrences t) y → D.has y.var ≡ true) → ReadsTest D t
      reads-test D True h = tt
      reads-test D (Equal x y) h = (
        reads-expr D x (λ o i. h o (Contains-append_left (expr_occurrences x) (expr_occurrences y) o i)),
        reads-expr D y (λ o i. h o (Contains-append_right (expr_occurrences x) (expr_occurrences y) o i)),
      )
      reads-test D (Differ x y) h = (
        reads-expr D x (λ o i. h o (Contains-append_left (expr_occurrences x) (expr_occurrences y) o i)),
        reads-expr D y (λ o i. h o (Contains-append_right (expr_occurrences x) (expr_occurrences y) o i)),
      )

      reads-all : (D : Domain) → (es : List Expr)
          → ((y : Occurrence) → Contains (flat_map expr_occurrences es) y → D.has y.var ≡ true) → ReadsAll D es
      reads-all D [] h = tt
      reads-all D (e ∷ es) h = (
        reads-expr D e
            (λ y i. h y (Contains-append_left (expr_occurrences e) (flat_map expr_occurrences es) y i)),
        reads-all D es
            (λ y i. h y (Contains-append_right (expr_occurrences e) (flat_map expr_occurrences es) y i)),
      )

      -- what occurs in the command itself
      has-head : (D : Domain) → HasScope (head_regions c ++ entered) D → (y : Occurrence)
          → Contains (head_occurrences c) y → D.has y.var ≡ true
      has-head D scope y i =
          has-occurs D scope y (Contains-append_left (head_occurrences c) _ y i) (head-within p g c w y i)

      -- a call of it
      call-suits : (D : Domain) → HasScope entered D → (k : Call) → Contains (head_calls c) k → CallSuits d D k
      call-suits D scope k m =
          let cw = calls-within p g c w k m in
          let h = procedure-there (procedure_at p k.callee) k cw.callee in
          record {
            callee = h.0;
            there = h.1;
            fits = unbroken-fits p f s g h.0 k (sane.unbroken f g there s here) m cw h.1;
            lent = has-changed D scope k m cw;
            reads = reads-all D k.values (λ y i.
                let called = Contains-append_right k.references (flat_map expr_occurrences k.values) y i in
                has-occurs D (λ z j. scope z (out z j)) y
                (Contains-append_right (head_occurrences c) (flat_map call_occurrences (head_calls c)) y
                (contains-flat_map call_occurrences (head_calls c) k y m called)) (call-within p g k cw y called));
            pre = annotation-pre k.callee h.0 h.1;
            post = annotation-post k.callee h.0 h.1;
            lends = λ x.
                let l = slice_get_within p.procedures k.callee.0 h.0 h.1 in (changed-may x l, may-changed x l);
          }
        where
          out : (z : Var) → InScope (head_regions c ++ entered) z → InScope entered z
          out z (inl i) = inl i
          out z (inr (r, i, e)) = inr (
            r,
            elim (Contains-append_cases (head_regions c) entered r i) [
              | inl h ↦ absurd (calls-no_region c k r m h)
              | inr h ↦ h
            ],
            e,
          )

          -- the list of what is free in the callee
          free-list : k.callee.0 < length p.procedures
              → slice_get d.sets.free k.callee.0 ≡ Some (free_in d.sets k.callee)
          free-list l = slice_get-get_or d.sets.free k.callee.0 []
              (subst (λ n. k.callee.0 < n) (sym sane.sets.free.each) l)

          may-changed : (x : Var) → k.callee.0 < length p.procedures → MayChange p k x → Contains (changed d.sets k) x
          may-changed x l (inl a) =
              let y = among_at x k.references a in
              Contains-append_left (map (λ (o : Occurrence). o.var) k.references) (free_in d.sets k.callee) x
              (subst (λ z. Contains (map (λ (o : Occurrence). o.var) k.references) z) y.2
              (contains-map (λ (o : Occurrence). o.var) k.references y.0 y.1))
          may-changed x l (inr free) =
              Contains-append_right (map (λ (o : Occurrence). o.var) k.references) (free_in d.sets k.callee) x
              (((sane.sets.free.is k.callee (free_in d.sets k.callee) (free-list l)).members x).1 free)

          changed-may : (x : Var) → k.callee.0 < length p.procedures → Contains (changed d.sets k) x → MayChange p k x
          changed-may x l i =
              elim (Contains-append_cases (map (λ (o : Occurrence). o.var) k.references)
              (free_in d.sets k.callee) x i) [
                | inl j ↦
                    let y = contains-map_from (λ (o : Occurrence). o.var) k.references x j in
                    inl (among_of x k.references y.0 y.1 y.2)
                | inr j ↦
                    inr (((sane.sets.free.is k.callee (free_in d.sets k.callee) (free-list l)).members x).0 j)
              ]

    -- a resource of the program
    resource-there : (r : ResId) → r.0 < length p.resources → ResourceSuits d r
    resource-there r l = go (slice_get p.resources r.0) refl
      where
        go : (o : Option Resource) → slice_get p.resources r.0 ≡ o → ResourceSuits d r
        go None e = absurd (none-in p.resources r.0 l e)
        go (Some of) e = record { resource = of; there = e; invariant = annotation-resource r of e }

    -- scopes of a region's body
    scope-inside : (entered : List ResId) (D : Domain) (r : ResId) (of : Resource)
        → slice_get p.resources r.0 ≡ Some of
        → HasScope entered D → HasScope (r ∷ entered) (with_resource r (length of.variables) D)
    scope-inside entered D r of e scope x (inl i) = or_right (is_of r (length of.variables) x) (D.has x) (scope x
        (inl i))
    scope-inside entered D r of e scope x (inr (q, i, o)) = elim ((contains-cons r entered q).0 i) [
      | inl same ↦
          or_left (is_of r (length of.variables) x) (D.has x)
          (subst (λ k. is_of r k x ≡ true) (ap variable_count e) (subst (λ z. is_of z (size p z) x ≡ true)
          (sym same) o))
      | inr j ↦ or_right (is_of r (length of.variables) x) (D.has x) (scope x (inr (q, j, o)))
    ]

    -- commands inside regions of those resources suit a frame that has what they need
    mutual
      pub block-suits : (entered : List ResId) (D : Domain) (b : Block)
          → ((t : Site) → Contains (sites entered b) t → Contains (sites [] g.body) t) → BlockWithin p g b
          → HasScope entered D → BlockSuits d D b
      block-suits entered D done inside w scope = tt
      block-suits entered D (then c b) inside w scope =
          let here : Site = record { entered = entered; command = c } in
          let rest = inner_sites entered c ++ sites entered b in (
            command-suits entered D c (inside here ((contains-cons here rest here).1 (inl refl)))
                (λ t i. inside t ((contains-cons here rest t).1
                (inr (Contains-append_left (inner_sites entered c) (sites entered b) t i)))) w.0 scope,
            block-suits entered D b
                (λ t i. inside t ((contains-cons here rest t).1
                (inr (Contains-append_right (inner_sites entered c) (sites entered b) t i)))) w.1 scope,
          )

      command-suits : (entered : List ResId) (D : Domain) (c : Command)
          → Contains (sites [] g.body) (record { entered = entered; command = c })
          → ((t : Site) → Contains (inner_sites entered c) t → Contains (sites [] g.body) t) → CommandWithin p g c
          → HasScope entered D → CommandSuits d D c
      command-suits entered D (assign q x e) here inside w scope =
          let c = assign q x e in
          let has = has-head entered c here w D scope in (
            has x ((contains-cons x (expr_occurrences e) x).1 (inl refl)),
            reads-expr entered c here w D e (λ y i. has y ((contains-cons x (expr_occurrences e) y).1 (inr i))),
          )
      command-suits entered D (look_up q x e field) here inside w scope =
          let c = look_up q x e field in
          let has = has-head entered c here w D scope in (
            has x ((contains-cons x (expr_occurrences e) x).1 (inl refl)),
            reads-expr entered c here w D e (λ y i. has y ((contains-cons x (expr_occurrences e) y).1 (inr i))),
          )
      command-suits entered D (mutate q e field v) here inside w scope =
          let c = mutate q e field v in
          let has = has-head entered c here w D scope in (
            reads-expr entered c here w D e
                (λ y i. has y (Contains-append_left (expr_occurrences e) (expr_occurrences v) y i)),
            reads-expr entered c here w D v
                (λ y i. has y (Contains-append_right (expr_occurrences e) (expr_occurrences v) y i)),
          )
      command-suits entered D (new q x) here inside w scope =
          has-head entered (new q x) here w D scope x (contains-single_of x x refl)
      command-suits entered D (dispose q e) here inside w scope =
          let c = dispose q e in
          reads-expr entered c here w D e (has-head entered c here w D scope)
      command-suits entered D (if q test this that) here inside w scope =
          let c = if q test this that in (
            reads-test entered c here w D test (has-head entered c here w D scope),
            block-suits entered D this
                (λ t i. inside t (Contains-append_left (sites entered this) (sites entered that) t i)) w.1 scope,
            block-suits entered D that
                (λ t i. inside t (Contains-append_right (sites entered this) (sites entered that) t i)) w.2 scope,
          )
      command-suits entered D (while q test invariant body) here inside w scope =
          let c = while q test invariant body in
          let has = has-head entered c here w D scope in
          let order = sane.ordered invariant (procedure-notes f g there invariant
          ((contains-cons g.pre (loops_in g.body ++ g.post ∷ []) invariant).1
          (inr (Contains-append_left (loops_in g.body) (g.post ∷ []) invariant
          (contains-flat_map (λ (t : Site). head_invariants t.command) (sites [] g.body)
          (record { entered = entered; command = c }) invariant here
          (contains-single_of invariant invariant refl)))))) in (
            reads-test entered c here w D test (λ y i. has y
                (Contains-append_left (test_occurrences expr_occurrences test)
                (level_occurrences invariant.level) y i)),
            usable-of sane.meaning sane.determined d (λ x. D.has x ≡ true) (IsInBody p g) invariant order
                (sane.form.loop p g invariant (d.ordered invariant) order w.1)
                (λ x (y, e, o). subst (λ z. D.has z ≡ true) e (has y
                (Contains-append_right (test_occurrences expr_occurrences test) (level_occurrences invariant.level) y
                ((level-is y invariant.level).1 o)))),
            (λ x a. ((sane.changes p d.sets body sane.sets (g, w.2)).members x).1 a),
            block-suits entered D body inside w.2 scope,
          )
      command-suits entered D (call q c) here inside w scope =
          call-suits entered (call q c) here w D scope c (contains-single_of c c refl)
      command-suits entered D (fork q c e) here inside w scope =
          let it = fork q c e in (
            call-suits entered it here w D scope c ((contains-cons c (e ∷ []) c).1 (inl refl)),
            call-suits entered it here w D scope e
                ((contains-cons c (e ∷ []) e).1 (inr (contains-single_of e e refl))),
            (λ x i j. unbroken-apart p f entered q c e
                (sane.unbroken f g there (record { entered = entered; command = it }) here) x i (inl j)),
          )
      command-suits entered D (with q r test body) here inside w scope =
          let c = with q r test body in
          let of = resource-there r w.0 in (
            of,
            λ lacks.
                let scope_inside = scope-inside entered D r of.resource of.there scope in (
                  reads-test entered c here w (with_resource r (length of.resource.variables) D) test
                      (has-head entered c here w (with_resource r (length of.resource.variables) D) scope_inside),
                  block-suits (r ∷ entered) (with_resource r
                      (length of.resource.variables) D) body inside w.2 scope_inside,
                ),
          )
