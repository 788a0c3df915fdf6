-- A first goal has the variables that its procedure's body reads: own ones from the start, those of resources that are
-- held throughout too, and the others in their regions, since no condition on variables is broken.
-- Names: `LIST-LAW` of the variables of a list, `WHAT-reads` of what is read at a place of the body.
use Rattle.std.specs.List.{AllByRecursion, Contains, flat_map, list_any, slice_get}
use Rattle.std.specs.Option.{option_map, unwrap_or}
use Rattle.std.proofs.Common.{◌≡◌, ◌↔◌, ℕ, suc, ◌+◌, ◌-◌, ◌<◌, ◌≤◌, Bool, true, false, ◌||◌, get_or, map, Option, Some, None, List, [], ◌∷◌, ◌++◌, length, refl, sym, ap, ◌∙◌, subst, inl, inr, arith}
use Rattle.std.proofs.lemmas.Bool.{or_cases, or_left, or_right}
use Rattle.std.proofs.lemmas.List.Elements.{Contains-append_left, Contains-append_right}
use Rattle.std.proofs.lemmas.Option.{slice_get-get_or, slice_get_within}
use Rattle.sf_base.proofs.Elements.{all_by-append, contains-cons, contains-decides, contains-nil, contains-single_of}
use Rattle.sf_base.proofs.Members.{contains-flat_map, contains-flat_map_from}
use Rattle.sf_base.proofs.Variables.{same_var-decides}
use Rattle.sf_base.specs.declared.ids.ProcId.{ProcId}
use Rattle.sf_base.specs.declared.ids.ResId.{ResId}
use Rattle.sf_base.specs.declared.ids.Var.{Var}
use Rattle.sf_base.specs.declared.ids.Var.TheVariants.{Own, Shared}
use Rattle.sf_base.specs.Variables.{same_var}
use Rattle.sf_calls.specs.Around.{IsHeld, IsUnheld}
use Rattle.sf_calls.specs.Breaks.{Breaks, OccursAt}
use Rattle.sf_calls.specs.Checked.Laws.{FirstBreachIsBroken}
use Rattle.sf_calls.specs.declared.breach.Breach.{Breach}
use Rattle.sf_calls.specs.declared.breach.Breach.TheVariants.{NotHeld, Reentered}
use Rattle.sf_calls.specs.FirstBreach.{shared_from}
use Rattle.sf_core.proofs.HeadsWithin.{call-within, calls-within, head-within}
use Rattle.sf_core.specs.declared.assertion.Test.{Test}
use Rattle.sf_core.specs.declared.assertion.Test.TheVariants.{True, Equal, Differ}
use Rattle.sf_core.specs.declared.command.Expr.{Expr}
use Rattle.sf_core.specs.declared.command.Expr.TheVariants.{Var as Variable, Nil, Int}
use Rattle.sf_core.specs.declared.command.Occurrence.{Occurrence}
use Rattle.sf_core.specs.Machine.HasThroughout.{HasThroughout}
use Rattle.sf_core.specs.Program.Formed.{BlockWithin, CommandWithin, IsInBody, ProcedureWithin, variable_count}
use Rattle.sf_core.specs.Program.Heads.{Site, call_occurrences, expr_occurrences, head_calls, head_occurrences, head_regions, inner_sites, level_occurrences, sites, test_occurrences}
use Rattle.sf_core.specs.Program.Places.{place_of}
use Rattle.sf_core.specs.Program.Syntax.{Block, done, then, Call, Command, assign, look_up, mutate, new, dispose, if, while, call, fork, with, Procedure, Program, Resource}
use Rattle.sf_core.specs.Program.Init.{is_init}
use Rattle.sf_precise.specs.Annotations.{owed}
use Rattle.sf_rules.proofs.KeptVariables.{fresh-listed}
use Rattle.sf_rules.proofs.Universe.{shared-has}
use Rattle.sf_rules.specs.Checked.LawsOfShape.{IsSetUp}
use Rattle.sf_rules.specs.Checked.Lemmas.FirstVariables.{nils-all, own-listed, symbols-all}
use Rattle.sf_rules.specs.Checked.Lemmas.TodoReads.{adding-reads, run-reads}
use Rattle.sf_rules.specs.Checked.Lemmas.VariableTerms.{all-listed, all-listed_here}
use Rattle.sf_rules.specs.First.{first_goal, links_of, nil_for, nils, own_vars, symbols, with_held}
use Rattle.sf_rules.specs.HasVariables.{BlockReadsIn, HasNone, HasVariables, WholeReadsIn, with_those}
use Rattle.sf_rules.specs.Resources.{variables_from, variables_of}
use Rattle.sf_rules.specs.Setting.{Setting}
use Rattle.sf_sym.specs.declared.term.Term.{Term}
use Rattle.sf_sym.specs.Goal.{Item, return, to_run}
use Rattle.sf_sym.specs.Ready.{IsIn, IsTestIn, is_listed}
use Rattle.sf_sym.specs.State.{first_state}
use Rattle.sf_sym.specs.Variables.{fresh_for, set_vars}

-- THE VARIABLES OF A RESOURCE
-- each is one of it
from-shared : (r : ResId) (from : ℕ) (names : List (List ℕ)) (x : Var) → Contains (variables_from r from names) x
    → (i : ℕ) × (Shared r i ≡ x)
from-shared r from [] x c = absurd (contains-nil x c)
from-shared r from (n ∷ ns) x c = elim ((contains-cons (Shared r from) (variables_from r (suc from) ns) x).0 c) [
  | inl e ↦ (from, e)
  | inr k ↦ from-shared r (suc from) ns x k
]

same-from : (r : ResId) (names : List (List ℕ)) (from : ℕ) → shared_from r from names ≡ variables_from r from names
same-from r [] from = refl
same-from r (n ∷ ns) from = ap (λ xs. Shared r from ∷ xs) (same-from r ns (suc from))

module _ (p : Program) (r : ResId) where
  of : Option Resource → List Var
  of o = unwrap_or (option_map (λ (of : Resource). variables_from r 0 of.variables) o) []

  of-shared : (x : Var) → Contains (variables_of p r) x → (i : ℕ) × (Shared r i ≡ x)
  unfolding of
  of-shared x c = go (slice_get p.resources r.0) c
    where
      go : (o : Option Resource) → Contains (of o) x → (i : ℕ) × (Shared r i ≡ x)
      go None c = absurd (contains-nil x c)
      go (Some g) c = from-shared r 0 g.variables x c

  -- and each of it is among them
  of-has : (i : ℕ) → i < variable_count (slice_get p.resources r.0) → Contains (variables_of p r) (Shared r i)
  unfolding of
  of-has i l = go (slice_get p.resources r.0) l
    where
      go : (o : Option Resource) → i < variable_count o → Contains (of o) (Shared r i)
      go None l = absurd (omega (arith, l))
      go (Some g) l = subst (λ k. Contains (variables_from r 0 g.variables) (Shared r k))
          (let e : 0 + i ≡ i = omega arith in e)
          (subst (λ xs. Contains xs (Shared r (0 + i))) (same-from r g.variables 0) (shared-has r g.variables 0 i l))

-- whether a variable is in a list
among-has : (xs : List Var) (x : Var) → Contains xs x → list_any (λ y. same_var y x) xs ≡ true
among-has xs x c = (contains-decides same_var same_var-decides xs x).1 c

among-of : (xs : List Var) (x : Var) → list_any (λ y. same_var y x) xs ≡ true → Contains xs x
among-of xs x e = (contains-decides same_var same_var-decides xs x).0 e

-- WHAT IS THERE in regions of these resources: own variables, and just those of resources that are held
record Covers (p : Program) (f : ProcId) (g : Procedure) (entered : List ResId) (among : Var → Bool) : Type 0 where
  own : (i : ℕ) → i < length g.names → among (Own i) ≡ true
  held : (r : ResId) (i : ℕ) → IsHeld p f entered r → i < variable_count (slice_get p.resources r.0)
      → among (Shared r i) ≡ true
  only : (r : ResId) (i : ℕ) → among (Shared r i) ≡ true → IsHeld p f entered r

-- inside one more region
covers-inside : (p : Program) (f : ProcId) (g : Procedure) (entered : List ResId) (among : Var → Bool) (r : ResId)
    → Covers p f g entered among → Covers p f g (r ∷ entered) (with_those (variables_of p r) among)
covers-inside p f g entered among r k = record {
  own = λ i l. or_right (list_any (λ y. same_var y (Own i)) xs) (among (Own i)) (k.own i l);
  held = λ q i h l. elim h [
    | inl through ↦ or_right (list_any (λ y. same_var y (Shared q i)) xs) (among (Shared q i))
        (k.held q i (inl through) l)
    | inr c ↦ elim ((contains-cons r entered q).0 c) [
      | inl e ↦ or_left (list_any (λ y. same_var y (Shared q i)) xs) (among (Shared q i))
          (among-has xs (Shared q i) (subst (λ z. Contains xs (Shared z i)) e
          (of-has p r i (subst (λ (z : ResId). i < variable_count (slice_get p.resources z.0)) (sym e) l))))
      | inr there ↦ or_right (list_any (λ y. same_var y (Shared q i)) xs) (among (Shared q i))
          (k.held q i (inr there) l)
    ]
  ];
  only = λ q i e. elim (or_cases (list_any (λ y. same_var y (Shared q i)) xs) (among (Shared q i)) e) [
    | inl here ↦
        let m = of-shared p r (Shared q i) (among-of xs (Shared q i) here) in
        let same : r ≡ q = cc in inr ((contains-cons r entered q).1 (inl same))
    | inr there ↦ elim (k.only q i there) [
      | inl through ↦ inl through
      | inr c ↦ inr ((contains-cons r entered q).1 (inr c))
    ]
  ];
}
  where
    xs : List Var
    xs = variables_of p r

-- WHAT OCCURS is read
module _ (among : Var → Bool) where
  abbrev AreIn : List Occurrence → Type 0
  AreIn ys = (y : Occurrence) → Contains ys y → among y.var ≡ true

  left-in : (xs ys : List Occurrence) → AreIn (xs ++ ys) → AreIn xs
  left-in xs ys h y c = h y (Contains-append_left xs ys y c)

  right-in : (xs ys : List Occurrence) → AreIn (xs ++ ys) → AreIn ys
  right-in xs ys h y c = h y (Contains-append_right xs ys y c)

  expr-reads : (e : Expr) → AreIn (expr_occurrences e) → IsIn among e
  expr-reads (Variable x) h = h x (contains-single_of x x refl)
  expr-reads Nil h = tt
  expr-reads (Int i) h = tt

  test-reads : (t : Test Expr) → AreIn (test_occurrences expr_occurrences t) → IsTestIn among t
  test-reads True h = tt
  test-reads (Equal x y) h = (
    expr-reads x (left-in (expr_occurrences x) (expr_occurrences y) h),
    expr-reads y (right-in (expr_occurrences x) (expr_occurrences y) h),
  )
  test-reads (Differ x y) h = (
    expr-reads x (left-in (expr_occurrences x) (expr_occurrences y) h),
    expr-reads y (right-in (expr_occurrences x) (expr_occurrences y) h),
  )

  values-read : (es : List Expr) → AreIn (flat_map expr_occurrences es) → AllByRecursion (IsIn among) es
  values-read [] h = tt
  values-read (e ∷ es) h = (
    expr-reads e (left-in (expr_occurrences e) (flat_map expr_occurrences es) h),
    values-read es (right-in (expr_occurrences e) (flat_map expr_occurrences es) h),
  )

  call-reads : (c : Call) → AreIn (call_occurrences c) → AllByRecursion (IsIn among) c.values
  call-reads c h = values-read c.values (right-in c.references (flat_map expr_occurrences c.values) h)

-- THE COMMANDS OF A BODY, which break no condition on variables
module _ (p : Program) (f : ProcId) (g : Procedure) (there : slice_get p.procedures f.0 ≡ Some g)
    (unbroken : (b : Breach) → Breaks p f b → ⊥) where
  module _ (entered : List ResId) (c : Command)
      (here : Contains (sites [] g.body) (record { entered = entered; command = c })) (within : CommandWithin p g c) where
    -- what occurs in the command is there, where what is around the command is
    occurs-in : (among : Var → Bool) → Covers p f g (head_regions c ++ entered) among → (y : Occurrence)
        → OccursAt y c → IsInBody p g y.var → among y.var ≡ true
    occurs-in among k y o w = go y.var refl w
      where
        go : (x : Var) → y.var ≡ x → IsInBody p g x → among x ≡ true
        go (Own i) e w = k.own i w
        go (Shared r i) e w = by (among (Shared r i)) refl
          where
            by : (b : Bool) → among (Shared r i) ≡ b → b ≡ true
            by true m = refl
            by false m = absurd (unbroken (NotHeld y.place y.var) (
              g,
              there,
              (
                record { entered = entered; command = c },
                here,
                (
                  subst (IsUnheld p f (head_regions c ++ entered)) (sym e)
                      (λ h. let t : among (Shared r i) ≡ true = k.held r i h w in absurd (cc)),
                  inl o,
                ),
              ),
            ))

    head-in : (among : Var → Bool) → Covers p f g (head_regions c ++ entered) among
        → AreIn among (head_occurrences c)
    head-in among k y o = occurs-in among k y (inl o) (head-within p g c within y o)

    call-in : (among : Var → Bool) → Covers p f g (head_regions c ++ entered) among → (d : Call)
        → Contains (head_calls c) d → AreIn among (call_occurrences d)
    call-in among k d m y o =
        occurs-in among k y (inr (d, m, o)) (call-within p g d (calls-within p g c within d m) y o)

    -- none of a resource that is entered there is there before
    none-before : (among : Var → Bool) → Covers p f g entered among → (r : ResId) → Contains (head_regions c) r
        → HasNone (variables_of p r) among
    none-before among k r m = all (variables_of p r) (λ x i. i)
      where
        all : (xs : List Var) → ((x : Var) → Contains xs x → Contains (variables_of p r) x) → HasNone xs among
        all [] h = tt
        all (x ∷ xs) h = (
          go (among x) refl,
          all xs (λ y i. h y ((contains-cons x xs y).1 (inr i))),
        )
          where
            go : (b : Bool) → among x ≡ b → b ≡ false
            go false e = refl
            go true e =
                let o = of-shared p r x (h x ((contains-cons x xs x).1 (inl refl))) in
                let held = k.only r o.0 (ap among o.1 ∙ e) in
                absurd (unbroken (Reentered (place_of c) r)
                (g, there, (record { entered = entered; command = c }, here, (held, inl (refl, m)))))

  mutual
    block-reads : (entered : List ResId) (among : Var → Bool) → Covers p f g entered among → (b : Block)
        → BlockWithin p g b → ((s : Site) → Contains (sites entered b) s → Contains (sites [] g.body) s)
        → BlockReadsIn p among b
    block-reads entered among k done w h = tt
    block-reads entered among k (then c b) w h =
        let here : Site = record { entered = entered; command = c } in
        let others = inner_sites entered c ++ sites entered b in (
          command-reads entered among k c w.0 (h here ((contains-cons here others here).1 (inl refl)))
              (λ s i. h s ((contains-cons here others s).1
              (inr (Contains-append_left (inner_sites entered c) (sites entered b) s i)))),
          block-reads entered among k b w.1 (λ s i. h s ((contains-cons here others s).1
              (inr (Contains-append_right (inner_sites entered c) (sites entered b) s i)))),
        )

    command-reads : (entered : List ResId) (among : Var → Bool) → Covers p f g entered among → (c : Command)
        → CommandWithin p g c → Contains (sites [] g.body) (record { entered = entered; command = c })
        → ((s : Site) → Contains (inner_sites entered c) s → Contains (sites [] g.body) s)
        → WholeReadsIn p among c
    command-reads entered among k (assign q x e) w here h =
        let o = head-in entered (assign q x e) here w among k in
        expr-reads among e (right-in among (x ∷ []) (expr_occurrences e) o)
    command-reads entered among k (look_up q x e field) w here h =
        let o = head-in entered (look_up q x e field) here w among k in
        expr-reads among e (right-in among (x ∷ []) (expr_occurrences e) o)
    command-reads entered among k (mutate q e field v) w here h =
        let o = head-in entered (mutate q e field v) here w among k in (
          expr-reads among e (left-in among (expr_occurrences e) (expr_occurrences v) o),
          expr-reads among v (right-in among (expr_occurrences e) (expr_occurrences v) o),
        )
    command-reads entered among k (new q x) w here h = tt
    command-reads entered among k (dispose q e) w here h =
        expr-reads among e (head-in entered (dispose q e) here w among k)
    command-reads entered among k (if q test this that) w here h = (
      test-reads among test (head-in entered (if q test this that) here w among k),
      block-reads entered among k this w.1 (λ s i. h s (Contains-append_left (sites entered this) (sites entered that) s i)),
      block-reads entered among k that w.2 (λ s i. h s (Contains-append_right (sites entered this) (sites entered that) s i)),
    )
    command-reads entered among k (while q test invariant body) w here h = (
      test-reads among test (left-in among (test_occurrences expr_occurrences test) (level_occurrences invariant.level)
          (head-in entered (while q test invariant body) here w among k)),
      block-reads entered among k body w.2 h,
    )
    command-reads entered among k (call q c) w here h =
        call-reads among c (call-in entered (call q c) here w among k c ((contains-cons c [] c).1 (inl refl)))
    command-reads entered among k (fork q c d) w here h = (
      call-reads among c (call-in entered (fork q c d) here w among k c ((contains-cons c (d ∷ []) c).1 (inl refl))),
      call-reads among d (call-in entered (fork q c d) here w among k d
          ((contains-cons c (d ∷ []) d).1 (inr ((contains-cons d [] d).1 (inl refl))))),
    )
    command-reads entered among k (with q r test body) w here h =
        let inside = with_those (variables_of p r) among in
        let m = covers-inside p f g entered among r k in (
          none-before entered (with q r test body) here w among k r ((contains-cons r [] r).1 (inl refl)),
          test-reads inside test (head-in entered (with q r test body) here w inside m),
          block-reads (r ∷ entered) inside m body w.2 h,
        )

-- THE FIRST GOAL
-- it is one of the procedure's own
abbrev IsOwn : Var → Type 0
IsOwn (Own n) = Unit {0}
IsOwn (Shared r i) = ⊥

-- own variables alone have terms before those of resources come up
own-only : (vars : List (Var × Term)) → AllByRecursion (λ (v : Var × Term). IsOwn v.0) vars → (r : ResId) (i : ℕ)
    → is_listed vars (Shared r i) ≡ false
own-only [] h r i = refl
own-only (v ∷ vs) h r i = go (own-only vs h.1 r i) v.0 h.0
  where
    go : is_listed vs (Shared r i) ≡ false → (x : Var) → IsOwn x
        → (same_var x (Shared r i) || is_listed vs (Shared r i)) ≡ false
    go e (Own n) o = e
    go e (Shared q j) o = absurd o

-- variables that are nil have terms
nil-listed : (xs : List Var) (x : Var) → is_listed (nil_for xs) x ≡ list_any (λ y. same_var y x) xs
nil-listed [] x = refl
nil-listed (y ∷ ys) x = ap (λ b. same_var y x || b) (nil-listed ys x)

-- all of these have terms
set-listed_all : (set vars : List (Var × Term)) (xs : List Var) (x : Var)
    → is_listed set x ≡ list_any (λ y. same_var y x) xs → with_those xs (is_listed vars) x ≡ true
    → is_listed (set_vars set vars) x ≡ true
set-listed_all set vars xs x is e = elim (or_cases (list_any (λ y. same_var y x) xs) (is_listed vars x) e) [
  | inl here ↦ all-listed_here set vars x (is ∙ here)
  | inr there ↦ all-listed set vars x there
]

module _ (d : Setting) (up : IsSetUp d) (breaches : FirstBreachIsBroken) (f : ProcId) (g : Procedure)
    (there : slice_get d.program.procedures f.0 ≡ Some g) where
  abbrev p : Program
  p = d.program

  within : ProcedureWithin p g
  within = up.formed.procedures f.0 g there

  held_list : List ResId
  held_list = get_or d.sets.holds f.0 []

  abbrev xs : List Var
  xs = flat_map (variables_of p) (get_or d.sets.holds f.0 [])

  abbrev first_among : Var → Bool
  first_among = with_those xs (is_listed (own_vars g))

  -- the list has just what is held throughout
  members : (r : ResId) → Contains (get_or d.sets.holds f.0 []) r ↔ HasThroughout p f r
  members = (up.setting.sets.holds.is f (get_or d.sets.holds f.0 [])
      (slice_get-get_or d.sets.holds f.0 []
      (subst (λ n. f.0 < n) (sym up.setting.sets.holds.each) (slice_get_within p.procedures f.0 g there)))).members

  own-there : (i : ℕ) → i < length g.names → is_listed (own_vars g) (Own i) ≡ true
  own-there i l =
      let n0 = g.references + g.values in
      let enough : n0 ≤ length g.names = let m = within.declared in omega (arith, m) in
      subst (λ k. is_listed (symbols 0 n0 ++ nils k (length g.names - n0)) (Own i) ≡ true)
      (let e : 0 + n0 ≡ n0 = omega arith in e)
      (own-listed 0 n0 (length g.names - n0) i (omega arith) (omega (arith, l, enough)))

  no-shared : (r : ResId) (i : ℕ) → is_listed (own_vars g) (Shared r i) ≡ false
  no-shared r i =
      let n0 = g.references + g.values in
      own-only (own_vars g) (all_by-append (λ (v : Var × Term). IsOwn v.0) (symbols 0 n0)
      (nils n0 (length g.names - n0)) (symbols-all (λ (v : Var × Term). IsOwn v.0) 0 n0 (λ i a b. tt))
      (nils-all (λ (v : Var × Term). IsOwn v.0) n0 (length g.names - n0) (λ i a b. tt))) r i

  first-covers : Covers p f g [] first_among
  first-covers = record {
    own = λ i l. or_right (list_any (λ y. same_var y (Own i)) xs) (is_listed (own_vars g) (Own i)) (own-there i l);
    held = λ r i h l. elim h [
      | inl through ↦ or_left (list_any (λ y. same_var y (Shared r i)) xs) (is_listed (own_vars g) (Shared r i))
          (among-has xs (Shared r i) (contains-flat_map (variables_of p) (get_or d.sets.holds f.0 []) r (Shared r i)
          ((members r).1 through) (of-has p r i l)))
      | inr c ↦ absurd (contains-nil r c)
    ];
    only = λ r i e. elim (or_cases (list_any (λ y. same_var y (Shared r i)) xs) (is_listed (own_vars g) (Shared r i)) e) [
      | inl here ↦
          let q = contains-flat_map_from (variables_of p) (get_or d.sets.holds f.0 []) (Shared r i)
          (among-of xs (Shared r i) here) in
          let m = of-shared p q.0 (Shared r i) q.2 in
          let same : q.0 ≡ r = cc in
          inl (subst (HasThroughout p f) same ((members q.0).0 q.1))
      | inr listed ↦ let no = no-shared r i in absurd (cc)
    ];
  }

  -- the first goal has its variables
  pub first-variables : HasVariables p (first_goal d f g)
  first-variables = record {
    among = first_among;
    listed = λ x e. listed (is_init g) x e;
    reads = adding-reads p first_among g.place (to_run g.body ++ last)
        (run-reads p first_among g.body last
        (block-reads p f g there (λ b. (breaches p up.formed).kept up.conditions f b) [] first_among first-covers g.body
        within.body (λ s i. i)) tt) _;
  }
    where
      last : List Item
      last = return g.end (map d.ordered (owed p g)) ∷ []

      listed : (sets_up : Bool) (x : Var) → first_among x ≡ true
          → is_listed (with_held sets_up xs
          (first_state (links_of p) (own_vars g) (g.references + g.values))).vars x ≡ true
      listed true x e = set-listed_all (nil_for xs) (own_vars g) xs x (nil-listed xs x) e
      listed false x e = set-listed_all (fresh_for (g.references + g.values) xs) (own_vars g) xs x
          (fresh-listed (g.references + g.values) xs x) e
