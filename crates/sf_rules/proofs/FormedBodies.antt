-- Bodies of a well-formed program that breaks no condition on variables fit: few variables change at once.
-- Names: `free-LAW` of what is free in a procedure, `WHAT-few` of how many there are, `COMMAND-fits`, `block-fits`.
use Rattle.std.specs.List.{Contains, IsDistinct, slice_get, sum_by}
use Rattle.std.specs.Option.{unwrap_or}
use Rattle.std.proofs.Common.{◌≡◌, ℕ, zero, suc, ◌+◌, ◌<◌, ◌≤◌, is_some, Option, Some, None, List, [], ◌∷◌, ◌++◌, length, map, refl, sym, ap, ◌∙◌, subst, arith, inl, inr, length-append}
use Rattle.std.proofs.lemmas.List.{length-map}
use Rattle.std.proofs.lemmas.List.Elements.{All-contains, Contains-append_cases, Contains-append_left, Contains-append_right}
use Rattle.std.proofs.lemmas.List.Sums.{sum_by-cons}
use Rattle.std.proofs.lemmas.Option.{none-some, same_Some, unwrap_or-slice_get}
use Rattle.sf_base.proofs.Elements.{contains-cons, contains-nil, contains-single}
use Rattle.sf_base.specs.declared.ids.ProcId.{ProcId}
use Rattle.sf_base.specs.declared.ids.ResId.{ResId}
use Rattle.sf_base.specs.declared.ids.Var.{Var}
use Rattle.sf_base.specs.declared.ids.Var.TheVariants.{Own, Shared}
use Rattle.sf_base.specs.declared.limits.TheConstants.{OWN_VARIABLES, RESOURCE_VARIABLES}
use Rattle.sf_base.specs.declared.place.Place.{Place}
use Rattle.sf_base.specs.Variables.{same_var}
use Rattle.sf_calls.specs.Assigned.{Assigned, MayChange}
use Rattle.sf_calls.specs.Changes.{changed, changes_in, free_in}
use Rattle.sf_calls.specs.Conditions.{Free, FreeIn}
use Rattle.sf_calls.specs.Checked.Laws.{ChangesAreAssigned}
use Rattle.sf_calls.specs.Checked.Lemmas.Sites.{among_at}
use Rattle.sf_calls.specs.Checked.Lemmas.Within.{block_within, level_within}
use Rattle.sf_calls.specs.Reaches.{directly, through}
use Rattle.sf_calls.specs.Sets.{AreSetsOf}
use Rattle.sf_core.proofs.HeadsWithin.{calls-within, settable-readable, sites-within}
use Rattle.sf_core.specs.declared.command.Occurrence.{Occurrence}
use Rattle.sf_core.specs.Program.Formed.{AssertionWithin, BlockWithin, CallWithin, CommandWithin, HasCounts, IsFormed, IsInBody, IsParameter, IsSettable, ProcedureWithin, variable_count}
use Rattle.sf_core.specs.Program.Heads.{Site, head_forks, head_sets, inner_sites, sites}
use Rattle.sf_core.specs.Program.Syntax.{Assertion, Block, done, then, Call, Command, assign, look_up, mutate, new, dispose, if, while, call, fork, with, Procedure, Program, Resource}
use Rattle.sf_rules.specs.declared.few.TheConstants.{TOO_MANY}
use Rattle.sf_rules.specs.Setting.{Setting}
use Rattle.sf_rules.proofs.Universe.{IsInReach, distinct-append, distinct-ordered, few-in_reach}
use Rattle.sf_rules.specs.Shape.{AnnotationFits, BlockFits, CommandFits, IsThere, WholeFits}

-- the variables of all resources
abbrev variables_in : List Resource → ℕ
variables_in rs = sum_by (λ (r : Resource). length r.variables) rs

-- one resource has no more variables than all
pub resource-few : (rs : List Resource) (k : ℕ) (r : Resource) → slice_get rs k ≡ Some r
    → length r.variables ≤ variables_in rs
resource-few [] k r e = absurd (none-some r e)
resource-few (x ∷ xs) zero r e =
    let sum = sum_by-cons (λ (r : Resource). length r.variables) x xs in
    let same = ap (λ (z : Resource). length z.variables) (same_Some x r e) in
    omega (arith, sum, same)
resource-few (x ∷ xs) (suc k) r e =
    let sum = sum_by-cons (λ (r : Resource). length r.variables) x xs in
    let rest = resource-few xs k r e in
    omega (arith, sum, rest)

-- a number below the length of a list has something there
none-in : {X : Type 0} (xs : List X) (i : ℕ) → i < length xs → slice_get xs i ≡ None → ⊥
none-in [] i l e = absurd (omega (arith, l))
none-in (x ∷ xs) zero l e = absurd (none-some x (sym e))
none-in (x ∷ xs) (suc i) l e = none-in xs i (omega (arith, l)) e

-- a command that sets a variable may read it
sets-within : (p : Program) (g : Procedure) (c : Command) → CommandWithin p g c → (y : Occurrence)
    → Contains (head_sets c) y → IsInBody p g y.var
sets-within p g (assign q x e) w y k =
    subst (λ (z : Occurrence). IsInBody p g z.var) (contains-single x y k) (settable-readable p g x.var w.0)
sets-within p g (look_up q x e field) w y k =
    subst (λ (z : Occurrence). IsInBody p g z.var) (contains-single x y k) (settable-readable p g x.var w.0)
sets-within p g (new q x) w y k =
    subst (λ (z : Occurrence). IsInBody p g z.var) (contains-single x y k) (settable-readable p g x.var w)
sets-within p g (mutate q e field v) w y k = absurd (contains-nil y k)
sets-within p g (dispose q e) w y k = absurd (contains-nil y k)
sets-within p g (if q t this that) w y k = absurd (contains-nil y k)
sets-within p g (while q t invariant body) w y k = absurd (contains-nil y k)
sets-within p g (call q c) w y k = absurd (contains-nil y k)
sets-within p g (fork q c e) w y k = absurd (contains-nil y k)
sets-within p g (with q r t body) w y k = absurd (contains-nil y k)

-- what a body may read is in reach
body-reach : (p : Program) (g : Procedure) (x : Var) → IsInBody p g x → IsInReach p (length g.names) x
body-reach p g (Own n) w = w
body-reach p g (Shared r i) w = w

module _ (d : Setting) (formed : IsFormed d.program) (sets : AreSetsOf d.program d.sets) where
  abbrev p : Program
  p = d.program

  -- WHAT IS FREE IN A PROCEDURE
  free-there : (r : ResId) (i : ℕ) (f : ProcId) → FreeIn p f (Shared r i)
      → i < variable_count (slice_get p.resources r.0)
  free-there r i f (directly (h, there, inl o)) =
      level_within p.fields (IsParameter p h) [] (Shared r i) h.pre.level
      (formed.procedures f.0 h there).pre.annotation.within o
  free-there r i f (directly (h, there, inr (inl o))) =
      level_within p.fields (IsParameter p h) [] (Shared r i) h.post.level
      (formed.procedures f.0 h there).post.annotation.within o
  free-there r i f (directly (h, there, inr (inr o))) =
      block_within p h (Shared r i) h.body (formed.procedures f.0 h there).body o
  free-there r i f (through g c m) = free-there r i g m

  free-reach : (own : ℕ) (f : ProcId) (x : Var) → Free p f x → IsInReach p own x
  free-reach own f (Own n) e = absurd e.0
  free-reach own f (Shared r i) e = free-there r i f e.1

  free-list : (f : ProcId) (o : Option (List Var)) → slice_get d.sets.free f.0 ≡ o → unwrap_or o [] ≡ free_in d.sets f
  free-list f o e = ap (λ (z : Option (List Var)). unwrap_or z []) (sym e) ∙ unwrap_or-slice_get d.sets.free f.0 []

  free-distinct : (f : ProcId) → IsDistinct same_var (free_in d.sets f)
  free-distinct f = go (slice_get d.sets.free f.0) refl
    where
      go : (o : Option (List Var)) → slice_get d.sets.free f.0 ≡ o → IsDistinct same_var (free_in d.sets f)
      go None e = subst (IsDistinct same_var) (free-list f None e)
          (distinct-ordered [] (λ i j x l b. absurd (omega (arith, b))))
      go (Some xs) e =
          subst (IsDistinct same_var) (free-list f (Some xs) e) (distinct-ordered xs (sets.free.is f xs e).ordered)

  free-member : (f : ProcId) (x : Var) → Contains (free_in d.sets f) x → Free p f x
  free-member f x c = go (slice_get d.sets.free f.0) refl
    where
      go : (o : Option (List Var)) → slice_get d.sets.free f.0 ≡ o → Free p f x
      go None e = absurd (contains-nil x (subst (λ xs. Contains xs x) (sym (free-list f None e)) c))
      go (Some xs) e = ((sets.free.is f xs e).members x).0 (subst (λ xs. Contains xs x) (sym (free-list f (Some xs) e)) c)

  free-few : (f : ProcId) → length (free_in d.sets f) ≤ RESOURCE_VARIABLES
  free-few f =
      let few = few-in_reach p 0 (free_in d.sets f) (free-distinct f) (λ x c. free-reach 0 f x (free-member f x c)) in
      omega (arith, few, formed.variables)

  -- what is free in two procedures that share nothing
  abbrev pub AreApart : ProcId → ProcId → Type 0
  AreApart f h = (x : Var) → Free p f x → Free p h x → ⊥

  free_two-few : (f h : ProcId) → AreApart f h
      → length (free_in d.sets f) + length (free_in d.sets h) ≤ RESOURCE_VARIABLES
  free_two-few f h apart =
      let one = free_in d.sets f in
      let two = free_in d.sets h in
      let few = few-in_reach p 0 (one ++ two)
      (distinct-append one two (free-distinct f) (free-distinct h)
      (λ x c k. apart x (free-member f x c) (free-member h x k)))
      (λ x c. elim (Contains-append_cases one two x c) [
        | inl here ↦ free-reach 0 f x (free-member f x here)
        | inr there ↦ free-reach 0 h x (free-member h x there)
      ]) in
      let both = length-append one two in
      omega (arith, few, both, formed.variables)

  -- WHAT A CALL MAY CHANGE
  changed-length : (c : Call) → length (changed d.sets c) ≡ length c.references + length (free_in d.sets c.callee)
  changed-length c =
      length-append (map (λ (x : Occurrence). x.var) c.references) (free_in d.sets c.callee)
      ∙ ap (λ n. n + length (free_in d.sets c.callee)) (length-map c.references (λ (x : Occurrence). x.var))

  call-there : (g : Procedure) (c : Call) → CallWithin p g c
      → IsThere d c × (length c.references ≤ OWN_VARIABLES)
  call-there g c w = go (slice_get p.procedures c.callee.0) refl w.callee
    where
      go : (o : Option Procedure) → slice_get p.procedures c.callee.0 ≡ o → HasCounts o c
          → IsThere d c × (length c.references ≤ OWN_VARIABLES)
      go None e h = absurd h
      go (Some callee) e h =
          let declared = (formed.procedures c.callee.0 callee e).declared_count in
          (ap is_some e, omega (arith, declared, h.0))

  call-fits : (g : Procedure) (q : Place) (c : Call) → CallWithin p g c → CommandFits d (call q c)
  call-fits g q c w =
      let m = call-there g c w in
      (m.0, omega (arith, changed-length c, m.1, free-few c.callee))

  fork-fits : (g : Procedure) (q : Place) (c e : Call) → CallWithin p g c → CallWithin p g e
      → AreApart c.callee e.callee → CommandFits d (fork q c e)
  fork-fits g q c e w v apart =
      let m = call-there g c w in
      let k = call-there g e v in
      (m.0, k.0, omega (arith, changed-length c, changed-length e, m.1, k.1, free_two-few c.callee e.callee apart))

  -- WHAT A LOOP MAY CHANGE
  may_change-reach : (g : Procedure) (c : Call) (x : Var) → CallWithin p g c → MayChange p c x
      → IsInReach p (length g.names) x
  may_change-reach g c x w (inl a) =
      let m = among_at x c.references a in
      subst (IsInReach p (length g.names)) m.2
      (body-reach p g m.0.var (settable-readable p g m.0.var
      (All-contains (λ (y : Occurrence). IsSettable p g y.var) c.references m.0 w.references m.1)))
  may_change-reach g c x w (inr f) = free-reach (length g.names) c.callee x f

  assigned-reach : (g : Procedure) (b : Block) (x : Var) → BlockWithin p g b → Assigned p b x
      → IsInReach p (length g.names) x
  assigned-reach g b x w (s, k, inl a) =
      let m = among_at x (head_sets s.command) a in
      subst (IsInReach p (length g.names)) m.2
      (body-reach p g m.0.var (sets-within p g s.command (sites-within p g [] b w s k) m.0 m.1))
  assigned-reach g b x w (s, k, inr (c, i, may)) =
      may_change-reach g c x (calls-within p g s.command (sites-within p g [] b w s k) c i) may

  changes-few : ChangesAreAssigned → (g : Procedure) → ProcedureWithin p g → (b : Block) → BlockWithin p g b
      → length (changes_in d.sets b) < TOO_MANY
  changes-few assigned g within b w =
      let set = assigned p d.sets b sets (g, w) in
      let few = few-in_reach p (length g.names) (changes_in d.sets b)
      (distinct-ordered (changes_in d.sets b) set.ordered)
      (λ x c. assigned-reach g b x w ((set.members x).0 c)) in
      omega (arith, few, formed.variables, within.declared_count, within.primed)

  -- COMMANDS
  module _ (assigned : ChangesAreAssigned) (g : Procedure) (within : ProcedureWithin p g)
      (invariant-fits : (a : Assertion) → AssertionWithin p.fields (IsInBody p g) a → AnnotationFits d a) where
    -- what is free in the calls of a fork, at each of these commands, is apart
    abbrev pub ForksApart : List Site → Type 0
    ForksApart ss = (s : Site) → Contains ss s → (e : Call × Call) → Contains (head_forks s.command) e
        → AreApart e.0.callee e.1.callee

    apart-left : (xs ys : List Site) → ForksApart (xs ++ ys) → ForksApart xs
    apart-left xs ys h s c = h s (Contains-append_left xs ys s c)

    apart-right : (xs ys : List Site) → ForksApart (xs ++ ys) → ForksApart ys
    apart-right xs ys h s c = h s (Contains-append_right xs ys s c)

    mutual
      pub block-fits : (entered : List ResId) (b : Block) → BlockWithin p g b → ForksApart (sites entered b)
          → BlockFits d b
      block-fits entered done w h = tt
      block-fits entered (then c b) w h =
          let here : Site = record { entered = entered; command = c } in
          let others = inner_sites entered c ++ sites entered b in
          let later : ForksApart others = λ s k. h s ((contains-cons here others s).1 (inr k)) in (
            command-fits entered c w.0 (h here ((contains-cons here others here).1 (inl refl)))
                (apart-left (inner_sites entered c) (sites entered b) later),
            block-fits entered b w.1 (apart-right (inner_sites entered c) (sites entered b) later),
          )

      command-fits : (entered : List ResId) (c : Command) → CommandWithin p g c
          → ((e : Call × Call) → Contains (head_forks c) e → AreApart e.0.callee e.1.callee)
          → ForksApart (inner_sites entered c) → WholeFits d c
      command-fits entered (assign q x e) w a h = tt
      command-fits entered (look_up q x e field) w a h = tt
      command-fits entered (mutate q e field v) w a h = tt
      command-fits entered (new q x) w a h = tt
      command-fits entered (dispose q e) w a h = tt
      command-fits entered (if q t this that) w a h = (
        block-fits entered this w.1 (apart-left (sites entered this) (sites entered that) h),
        block-fits entered that w.2 (apart-right (sites entered this) (sites entered that) h),
      )
      command-fits entered (while q t invariant body) w a h =
          (invariant-fits invariant w.1, changes-few assigned g within body w.2, block-fits entered body w.2 h)
      command-fits entered (call q c) w a h = call-fits g q c w
      command-fits entered (fork q c e) w a h =
          fork-fits g q c e w.0 w.1 (a (c, e) ((contains-cons (c, e) [] (c, e)).1 (inl refl)))
      command-fits entered (with q r t body) w a h =
          (region (slice_get p.resources r.0) refl w.0, block-fits (r ∷ entered) body w.2 h)
        where
          region : (o : Option Resource) → slice_get p.resources r.0 ≡ o → r.0 < length p.resources
              → CommandFits d (with q r t body)
          region None e l = absurd (none-in p.resources r.0 l e)
          region (Some of) e l =
              (of, e, let few = resource-few p.resources r.0 of e in omega (arith, few, formed.variables))
