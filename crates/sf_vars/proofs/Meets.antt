-- The search finds the first breach.
-- Names: `meets_PART` says that what the search finds in PART is what comes first there.
use Rattle.std.proofs.Common.{◌≡◌, ◌≢◌, ◌⊎◌, ◌<◌, ◌+◌, ℕ, suc, Bool, true, false, List, [], ◌∷◌, ◌++◌, length, map, get_or, replicate, slice_get, Option, Some, None, Contains, All, refl, sym, ap, inl, inr, ◌∙◌, subst, arith}
use Rattle.std.specs.Bool.{Decides}
use Rattle.std.specs.List.{flat_map}
use Rattle.std.specs.Option.{option_or, option_map}
use Rattle.std.proofs.lemmas.Bool.Decides.{Decides-or, Decides-and, Decides-not, Decides-like, eqb_tells, leb_tells}
use Rattle.std.proofs.lemmas.List.{length-set, get_or-set_same, get_or-set_other, length-replicate, get_or-replicate, get_or_past}
use Rattle.std.proofs.lemmas.List.Elements.{Contains-append_cases, Contains-append_left, Contains-append_right, All-head, All-tail}
use Rattle.std.proofs.lemmas.List.Elements.{Contains-get_or}
use Rattle.std.proofs.lemmas.Grind.{flat_map-append}
use Rattle.std.proofs.lemmas.Option.{slice_get_within}
use Rattle.sf_base.proofs.Elements.{contains-nil, contains-single, contains-single_of, contains-cons}
use Rattle.sf_base.proofs.Members.{contains-map}
use Rattle.sf_base.proofs.Options.{option_or-assoc}
use Rattle.sf_base.specs.declared.ids.ProcId.{ProcId}
use Rattle.sf_base.specs.declared.ids.ResId.{ResId}
use Rattle.sf_base.specs.declared.ids.Var.{Var}
use Rattle.sf_base.specs.declared.ids.Var.TheVariants.{Own, Shared}
use Rattle.sf_base.specs.declared.limits.TheConstants.{RESOURCES}
use Rattle.sf_base.specs.Variables.{same_var}
use Rattle.sf_base.proofs.Variables.{same_var-decides}
use Rattle.sf_core.specs.declared.command.Expr.{Expr}
use Rattle.sf_core.specs.declared.command.Expr.TheVariants.{Var as Variable, Nil, Int}
use Rattle.sf_core.specs.declared.command.Occurrence.{Occurrence}
use Rattle.sf_core.specs.Program.Formed.{IsFormed, CommandWithin, BlockWithin}
use Rattle.sf_core.specs.Program.Heads.{Site, sites, inner_sites, head_calls, head_forks, head_occurrences, head_regions, call_occurrences, expr_occurrences}
use Rattle.sf_core.specs.Program.Places.{place_of}
use Rattle.sf_core.specs.Machine.HasThroughout.{HasThroughout}
use Rattle.sf_core.specs.Program.Syntax.{Call, Command, assign, look_up, mutate, new, dispose, if, while, call, fork, with, Block, done, then, Procedure, Program}
use Rattle.sf_core.proofs.HeadsWithin.{calls-within, forks-calls, regions-within}
use Rattle.sf_calls.specs.declared.breach.Breach.{Breach}
use Rattle.sf_calls.specs.declared.breach.Breach.TheVariants.{NotHeld, Reentered, SameReference, ReferenceIsFree, ParallelShares}
use Rattle.sf_calls.specs.Conditions.{Takes, Free}
use Rattle.sf_calls.specs.First.{IsFirst}
use Rattle.sf_calls.specs.Assigned.{MayChange}
use Rattle.sf_calls.specs.Around.{IsHeld, IsUnheld, Uses, Shares}
use Rattle.sf_calls.specs.FirstBreach.{resources_from, variables_from, Question, occurs, frees, enters, takes, repeats as again, passes, shares as share, breach_of, IsBroken, call_uses, call_takes, repeats_after, fork_shares, uses_questions, enters_questions, repeats_questions, passes_questions, head_questions, site_questions, questions_from, IsNo, told, FirstBreach}
use Rattle.sf_calls.specs.Outside.{IsAmong, OccursInValues}
use Rattle.sf_calls.specs.Sets.{Sets, AreSetsOf, IsResSet, IsEarlier, IsEarlierResource}
use Rattle.sf_calls.specs.Checked.Tests.{in_references, in_values}
use Rattle.sf_calls.specs.Checked.Lemmas.Decided.{resource, in_references_is, in_values_is}
use Rattle.sf_calls.specs.Checked.Lemmas.Firsts.{none-of}
use Rattle.sf_calls.specs.Checked.Lemmas.Gathered.{earlier_trans, not_earlier}
use Rattle.sf_calls.specs.Checked.Lemmas.InFile.{resource_apart, resources_ordered, resources_there, variables_ordered, free_there}
use Rattle.sf_calls.specs.Checked.Lemmas.InOrder.{ordered_pairs}
use Rattle.sf_calls.specs.Checked.Lemmas.Least.{takes_within}
use Rattle.sf_calls.specs.Checked.Lemmas.Searches.{proc}
use Rattle.sf_calls.specs.Checked.Lemmas.Sites.{among_at}
use Rattle.sf_vars.specs.Checked.Search.{found, has, with_one, with_all, none_held, lacks, is_in, takes_of, holds_of, free_of, unheld, free_unheld, unheld_in_call, reenters_by_call, repeats, passes_free, may_change, uses, shares, shared_among, free_in_both, shares_in_fork, entered_held, in_head, in_block, in_inner, in_procedure, in_procedures}
use Rattle.sf_vars.proofs.Firsts.{first-append, first-flat_map, first-map, first-search, first-same, first-set}
use Rattle.sf_calls.specs.Checked.Lemmas.Within.{callee_within}
use Rattle.sf_vars.proofs.Fits.{free_set, takes_set, holds_set, held_fit}

-- where one is in a program, and the visited tell what is held there
record Stands (p : Program) (f : ProcId) (entered : List ResId) (sets : Sets) (held : List Bool)
    : Type 0 where
  formed : IsFormed p
  are : AreSetsOf p sets
  size : length held ≡ RESOURCES
  is : (r : ResId) → Decides (has held r) (IsHeld p f entered r)

-- a test by a list
pub is_in_is : (xs : List Var) (x : Var) → Decides (is_in xs x) (Contains xs x)
is_in_is [] x = (λ e. absurd (cc), λ c. absurd (contains-nil x c))
is_in_is (y ∷ ys) x =
    Decides-like (is_in (y ∷ ys) x) to from
    (Decides-or (same_var y x) (is_in ys x) (same_var-decides y x) (is_in_is ys x))
  where
    to : (y ≡ x) ⊎ Contains ys x → Contains (y ∷ ys) x
    to (inl e) = Contains-append_left (y ∷ []) ys x (contains-single_of y x e)
    to (inr c) = Contains-append_right (y ∷ []) ys x c

    from : Contains (y ∷ ys) x → (y ≡ x) ⊎ Contains ys x
    from c =
        elim (Contains-append_cases (y ∷ []) ys x c) [ inl k ↦ inl (contains-single y x k) | inr k ↦ inr k ]

unheld_is : (p : Program) (f : ProcId) (es : List ResId) (sets : Sets) (held : List Bool)
    → Stands p f es sets held → (x : Var) → Decides (lacks held x) (IsUnheld p f es x)
unheld_is p f es sets held s (Own n) = (λ e. absurd (cc), λ u. absurd u)
unheld_is p f es sets held s (Shared r i) = Decides-not (has held r) (s.is r)

-- what comes first at a site
abbrev First : Program → ProcId → Site → List Question → Option Breach → Type 0
First p f s = IsFirst (IsBroken p f s) breach_of

abbrev inside : Site → List ResId
inside s = head_regions s.command ++ s.entered

meets_unheld : (p : Program) (f : ProcId) (s : Site) (sets : Sets) (held : List Bool)
    → Stands p f (inside s) sets held → (xs : List Occurrence) → First p f s (map occurs xs) (unheld held xs)
meets_unheld p f s sets held st xs =
    first-map (IsBroken p f s) breach_of occurs xs (unheld held xs)
    (first-search (λ x. IsUnheld p f (inside s) x.var) (λ x. NotHeld x.place x.var) (λ x. lacks held x.var) xs
    (λ x c. unheld_is p f (inside s) sets held st x.var))

-- earlier variables are not later ones
earlier_apart : (x y : Var) → IsEarlier x y → IsEarlier y x → ⊥
earlier_apart x y h k = not_earlier x (earlier_trans x y x h k)

meets_call : (p : Program) (f : ProcId) (s : Site) (sets : Sets) (held : List Bool)
    → Stands p f (inside s) sets held → (c : Call) → c.callee.0 < length p.procedures
    → First p f s (call_uses p c) (unheld_in_call sets held c)
meets_call p f s sets held st c below =
    let free = free_set p sets c.callee st.are below in
    first-append (IsBroken p f s) breach_of (map (frees c) (variables_from 0 p.resources)) _
    (free_unheld held c.place (free_of sets c.callee)) (unheld held (call_occurrences c))
    (first-map (IsBroken p f s) breach_of (frees c) (variables_from 0 p.resources) _
    (first-set IsEarlier (Free p c.callee) (IsUnheld p f (inside s)) (NotHeld c.place) (lacks held)
    (variables_from 0 p.resources) (free_of sets c.callee) earlier_apart
    (unheld_is p f (inside s) sets held st) (variables_ordered 0 p.resources)
    (ordered_pairs IsEarlier (free_of sets c.callee) free.ordered) free.members
    (λ x h. free_there p c.callee x st.formed h)))
    (λ n. meets_unheld p f s sets held st (call_occurrences c))

meets_takes : (p : Program) (f : ProcId) (s : Site) (sets : Sets) (held : List Bool)
    → Stands p f s.entered sets held → (c : Call) → c.callee.0 < length p.procedures
    → First p f s (call_takes p c) (reenters_by_call sets held c)
meets_takes p f s sets held st c below =
    let taken = takes_set p sets c.callee st.are below in
    first-map (IsBroken p f s) breach_of (takes c) (resources_from 0 p.resources) _
    (first-set IsEarlierResource (Takes p c.callee) (IsHeld p f s.entered) (Reentered c.place) (has held)
    (resources_from 0 p.resources) (takes_of sets c.callee) resource_apart st.is
    (resources_ordered 0 p.resources)
    (ordered_pairs IsEarlierResource (takes_of sets c.callee) taken.ordered) taken.members
    (λ r t. resources_there 0 p.resources r (omega arith)
    (let there : r.0 < length p.resources = takes_within p st.formed c.callee r t in
    omega arith)))

meets_repeats : (p : Program) (f : ProcId) (s : Site) (before xs : List Occurrence)
    → First p f s (repeats_after before xs) (repeats before xs)
meets_repeats p f s before [] = tt
meets_repeats p f s before (x ∷ xs) =
    first-append (IsBroken p f s) breach_of (again before x ∷ []) (repeats_after (before ++ x ∷ []) xs)
    (found (in_references x.var before) (SameReference x.place x.var)) (repeats (before ++ x ∷ []) xs)
    (one (in_references x.var before) (in_references_is x.var before))
    (λ n. meets_repeats p f s (before ++ x ∷ []) xs)
  where
    one : (b : Bool) → Decides b (IsAmong x.var before)
        → First p f s (again before x ∷ []) (found b (SameReference x.place x.var))
    one true d = inl (d.0 refl, refl)
    one false d = ((λ h. absurd (let e : false ≡ true = d.1 h in cc)), tt)

free_is : (p : Program) (sets : Sets) (g : ProcId) → AreSetsOf p sets → g.0 < length p.procedures
    → (x : Var) → Decides (is_in (free_of sets g) x) (Free p g x)
free_is p sets g are below x =
    let m = (free_set p sets g are below).members x in
    Decides-like (is_in (free_of sets g) x) m.0 m.1 (is_in_is (free_of sets g) x)

meets_passes : (p : Program) (f : ProcId) (s : Site) (sets : Sets) → AreSetsOf p sets → (c : Call)
    → c.callee.0 < length p.procedures → First p f s (map (passes c) c.references) (passes_free sets c)
meets_passes p f s sets are c below =
    first-map (IsBroken p f s) breach_of (passes c) c.references (passes_free sets c)
    (first-search (λ x. Free p c.callee x.var) (λ x. ReferenceIsFree x.place x.var)
    (λ x. is_in (free_of sets c.callee) x.var) c.references
    (λ x k. free_is p sets c.callee are below x.var))

may_is : (p : Program) (sets : Sets) → AreSetsOf p sets → (c : Call) → c.callee.0 < length p.procedures
    → (x : Var) → Decides (may_change sets c x) (MayChange p c x)
may_is p sets are c w x =
    Decides-or (in_references x c.references) (is_in (free_of sets c.callee) x)
    (in_references_is x c.references) (free_is p sets c.callee are w x)

uses_is : (p : Program) (sets : Sets) → AreSetsOf p sets → (c : Call) → c.callee.0 < length p.procedures
    → (x : Var) → Decides (uses sets c x) (Uses p c x)
uses_is p sets are c w x =
    Decides-or (may_change sets c x) (in_values x c.values) (may_is p sets are c w x)
    (in_values_is x c.values)

shares_is : (p : Program) (sets : Sets) → AreSetsOf p sets → (c d : Call) → c.callee.0 < length p.procedures
    → d.callee.0 < length p.procedures → (x : Var) → Decides (shares sets c d x) (Shares p c d x)
shares_is p sets are c d w v x =
    Decides-or _ _ (Decides-and _ _ (may_is p sets are c w x) (uses_is p sets are d v x))
    (Decides-and _ _ (may_is p sets are d v x) (uses_is p sets are c w x))

value_there : (x : Var) (es : List Expr) → OccursInValues x es
    → (y : Occurrence) × Contains (flat_map expr_occurrences es) y × (y.var ≡ x)
value_there x [] h = absurd h
value_there x (Variable z ∷ es) (inl e) =
    (z, (contains-cons z (flat_map expr_occurrences es) z).1 (inl refl), e)
value_there x (Nil ∷ es) (inl e) = absurd e
value_there x (Int i ∷ es) (inl e) = absurd e
value_there x (e ∷ es) (inr h) =
    let r = value_there x es h in
    (r.0, Contains-append_right (expr_occurrences e) (flat_map expr_occurrences es) r.0 r.1, r.2)

-- a variable that a call uses, and that does not occur in it, is free in its procedure
used_free : (p : Program) (c : Call) (x : Var)
    → ((y : Occurrence) → Contains (call_occurrences c) y → y.var ≡ x → ⊥) → Uses p c x → Free p c.callee x
used_free p c x out (inl (inl k)) =
    let r = among_at x c.references k in
    absurd (out r.0 (Contains-append_left c.references (flat_map expr_occurrences c.values) r.0 r.1) r.2)
used_free p c x out (inl (inr k)) = k
used_free p c x out (inr k) =
    let r = value_there x c.values k in
    absurd (out r.0 (Contains-append_right c.references (flat_map expr_occurrences c.values) r.0 r.1) r.2)

meets_shares : (p : Program) (f : ProcId) (s : Site) (sets : Sets) → IsFormed p → AreSetsOf p sets
    → (c d : Call) → c.callee.0 < length p.procedures → d.callee.0 < length p.procedures
    → First p f s (fork_shares p c d) (shares_in_fork sets c d)
meets_shares p f s sets formed are c d c_there d_there =
    first-append (IsBroken p f s) breach_of (map (λ x. share c d x.var) (call_occurrences c)) _
    (shared_among sets c d (call_occurrences c)) _ (named (call_occurrences c))
    (λ n. first-append (IsBroken p f s) breach_of (map (λ x. share c d x.var) (call_occurrences d)) _
    (shared_among sets c d (call_occurrences d)) (free_in_both sets c d) (named (call_occurrences d))
    (λ m. first-map (IsBroken p f s) breach_of (share c d) (variables_from 0 p.resources)
    (free_in_both sets c d)
    (first-same (λ x. Free p c.callee x × Free p d.callee x) (Shares p c d) (ParallelShares c.place)
    (variables_from 0 p.resources) (free_in_both sets c d) (λ x h. inl (inr h.0, inl (inr h.1)))
    (λ x h. both x (out (call_occurrences c) n x h) (out (call_occurrences d) m x h) h) others)))
  where
    named : (xs : List Occurrence)
        → First p f s (map (λ x. share c d x.var) xs) (shared_among sets c d xs)
    named xs =
        first-map (IsBroken p f s) breach_of (λ x. share c d x.var) xs (shared_among sets c d xs)
        (first-search (λ x. Shares p c d x.var) (λ x. ParallelShares c.place x.var)
        (λ x. shares sets c d x.var) xs (λ x k. shares_is p sets are c d c_there d_there x.var))

    out : (xs : List Occurrence) → First p f s (map (λ x. share c d x.var) xs) None → (x : Var)
        → Shares p c d x → (y : Occurrence) → Contains xs y → y.var ≡ x → ⊥
    out xs n x h y k e =
        none-of (IsBroken p f s) breach_of (map (λ x. share c d x.var) xs) n (share c d y.var)
        (contains-map (λ x. share c d x.var) xs y k) (subst (Shares p c d) (sym e) h)

    both : (x : Var) → ((y : Occurrence) → Contains (call_occurrences c) y → y.var ≡ x → ⊥)
        → ((y : Occurrence) → Contains (call_occurrences d) y → y.var ≡ x → ⊥) → Shares p c d x
        → Free p c.callee x × Free p d.callee x
    both x no_c no_d (inl h) = (used_free p c x no_c (inl h.0), used_free p d x no_d h.1)
    both x no_c no_d (inr h) = (used_free p c x no_c h.1, used_free p d x no_d (inl h.0))

    others : IsFirst (λ x. Free p c.callee x × Free p d.callee x) (ParallelShares c.place)
        (variables_from 0 p.resources) (free_in_both sets c d)
    others =
        let free = free_set p sets c.callee are c_there in
        first-set IsEarlier (Free p c.callee) (Free p d.callee) (ParallelShares c.place)
        (is_in (free_of sets d.callee)) (variables_from 0 p.resources) (free_of sets c.callee) earlier_apart
        (free_is p sets d.callee are d_there) (variables_ordered 0 p.resources)
        (ordered_pairs IsEarlier (free_of sets c.callee) free.ordered) free.members
        (λ x h. free_there p c.callee x formed h)

-- one more visit
has_one : (held : List Bool) (s r : ResId) → s.0 < length held
    → Decides (has (with_one held s) r) ((s ≡ r) ⊎ (has held r ≡ true))
has_one held s r below = elim (eqb_tells s.0 r.0) [ inl e ↦ here (ap resource e.1) | inr e ↦ there e.1 ]
  where
    here : s ≡ r → Decides (has (with_one held s) r) ((s ≡ r) ⊎ (has held r ≡ true))
    here e = (
      (λ t. inl e),
      (λ t. subst (λ (q : ResId). has (with_one held s) q ≡ true) e
          (get_or-set_same held s.0 true false below)),
    )

    there : s.0 ≢ r.0 → Decides (has (with_one held s) r) ((s ≡ r) ⊎ (has held r ≡ true))
    there other =
        let same : has (with_one held s) r ≡ has held r = get_or-set_other held s.0 r.0 true false
        (λ e. other (sym e)) in (
          (λ t. inr (sym same ∙ t)),
          (λ t. elim t [
            | inl e ↦ absurd (other (ap (λ (q : ResId). q.0) e))
            | inr k ↦ same ∙ k
          ]),
        )

-- more visits
length_all : (held : List Bool) (rs : List ResId) → length (with_all held rs) ≡ length held
length_all held [] = refl
length_all held (r ∷ rs) = length_all (with_one held r) rs ∙ length-set held r.0 true

has_all : (held : List Bool) (rs : List ResId) (r : ResId) → All (λ q. q.0 < length held) rs
    → Decides (has (with_all held rs) r) (Contains rs r ⊎ (has held r ≡ true))
has_all held [] r fit = (λ e. inr e, λ h. elim h [ inl c ↦ absurd (contains-nil r c) | inr e ↦ e ])
has_all held (q ∷ qs) r fit =
    Decides-like (has (with_all held (q ∷ qs)) r) to from (has_all (with_one held q) qs r rest)
  where
    one : Decides (has (with_one held q) r) ((q ≡ r) ⊎ (has held r ≡ true))
    one = has_one held q r (All-head (λ (t : ResId). t.0 < length held) q qs fit)

    rest : All (λ t. t.0 < length (with_one held q)) qs
    rest k d below =
        subst (λ (n : ℕ). (get_or qs k d).0 < n) (sym (length-set held q.0 true))
        (All-tail (λ (t : ResId). t.0 < length held) q qs fit k d below)

    to : Contains qs r ⊎ (has (with_one held q) r ≡ true) → Contains (q ∷ qs) r ⊎ (has held r ≡ true)
    to (inl c) = inl (Contains-append_right (q ∷ []) qs r c)
    to (inr e) =
        elim (one.0 e) [
          | inl k ↦ inl (Contains-append_left (q ∷ []) qs r (contains-single_of q r k))
          | inr k ↦ inr k
        ]

    from : Contains (q ∷ qs) r ⊎ (has held r ≡ true) → Contains qs r ⊎ (has (with_one held q) r ≡ true)
    from (inl c) =
        elim (Contains-append_cases (q ∷ []) qs r c) [
          | inl k ↦ inr (one.1 (inl (contains-single q r k)))
          | inr k ↦ inl k
        ]
    from (inr e) = inr (one.1 (inr e))

no_visit : (n k : ℕ) → get_or (replicate n false) k false ≡ false
no_visit n k =
    elim (leb_tells n k) [
      | inl l ↦ get_or_past (replicate n false) k false (omega (arith, l.1, length-replicate n false))
      | inr l ↦ get_or-replicate n k false false l.1
    ]

-- inside more regions their resources are held too
stands_inside : (p : Program) (f : ProcId) (es rs : List ResId) (sets : Sets) (held : List Bool)
    → ((r : ResId) → Contains rs r → r.0 < length p.resources) → Stands p f es sets held
    → Stands p f (rs ++ es) sets (with_all held rs)
stands_inside p f es rs sets held there s = record {
  formed = s.formed;
  are = s.are;
  size = length_all held rs ∙ s.size;
  is = λ r. Decides-like (has (with_all held rs) r) (to r) (from r) (has_all held rs r fit);
}
  where
    fit : All (λ q. q.0 < length held) rs
    fit k d below =
        let less : (get_or rs k d).0 < length p.resources =
        there (get_or rs k d) (Contains-get_or rs k d below) in
        omega (arith, less, s.formed.resource_count, s.size)

    to : (r : ResId) → Contains rs r ⊎ (has held r ≡ true) → IsHeld p f (rs ++ es) r
    to r (inl c) = inr (Contains-append_left rs es r c)
    to r (inr t) =
        elim ((s.is r).0 t) [ inl k ↦ inl k | inr k ↦ inr (Contains-append_right rs es r k) ]

    from : (r : ResId) → IsHeld p f (rs ++ es) r → Contains rs r ⊎ (has held r ≡ true)
    from r (inl k) = inr ((s.is r).1 (inl k))
    from r (inr c) =
        elim (Contains-append_cases rs es r c) [ inl k ↦ inl k | inr k ↦ inr ((s.is r).1 (inr k)) ]

meets_head : (p : Program) (f : ProcId) (s : Site) (sets : Sets) (held : List Bool) (h : Procedure)
    → Stands p f s.entered sets held → CommandWithin p h s.command
    → First p f s (head_questions p s.command) (in_head sets held s.command)
meets_head p f s sets held h st w =
    first-append (IsBroken p f s) breach_of (uses_questions p s.command) _ _ _
    (first-append (IsBroken p f s) breach_of (map occurs (head_occurrences s.command)) _
    (unheld more (head_occurrences s.command)) _
    (meets_unheld p f s sets more st_more (head_occurrences s.command))
    (λ n. first-flat_map (IsBroken p f s) breach_of (call_uses p) (unheld_in_call sets more)
    (head_calls s.command) (λ d k. meets_call p f s sets more st_more d (there d k))))
    (λ n. first-append (IsBroken p f s) breach_of (enters_questions p s.command) _ _ _
    (first-append (IsBroken p f s) breach_of
    (map (enters (place_of s.command)) (head_regions s.command)) _
    (entered_held held (place_of s.command) (head_regions s.command)) _
    (first-map (IsBroken p f s) breach_of (enters (place_of s.command)) (head_regions s.command) _
    (first-search (IsHeld p f s.entered) (Reentered (place_of s.command)) (has held)
    (head_regions s.command) (λ r k. st.is r)))
    (λ n. first-flat_map (IsBroken p f s) breach_of (call_takes p) (reenters_by_call sets held)
    (head_calls s.command) (λ d k. meets_takes p f s sets held st d (there d k))))
    (λ n. first-append (IsBroken p f s) breach_of (repeats_questions s.command) _ _ _
    (first-flat_map (IsBroken p f s) breach_of (λ d. repeats_after [] d.references)
    (λ d. repeats [] d.references) (head_calls s.command) (λ d k. meets_repeats p f s [] d.references))
    (λ n. first-append (IsBroken p f s) breach_of (passes_questions s.command) _ _ _
    (first-flat_map (IsBroken p f s) breach_of (λ d. map (passes d) d.references) (passes_free sets)
    (head_calls s.command) (λ d k. meets_passes p f s sets st.are d (there d k)))
    (λ n. first-flat_map (IsBroken p f s) breach_of (λ e. fork_shares p e.0 e.1)
    (λ e. shares_in_fork sets e.0 e.1) (head_forks s.command)
    (λ e k. let two = forks-calls s.command e k in
    meets_shares p f s sets st.formed st.are e.0 e.1 (there e.0 two.0) (there e.1 two.1))))))
  where
    more : List Bool
    more = with_all held (head_regions s.command)

    st_more : Stands p f (inside s) sets more
    st_more =
        stands_inside p f s.entered (head_regions s.command) sets held (regions-within p h s.command w) st

    there : (d : Call) → Contains (head_calls s.command) d → d.callee.0 < length p.procedures
    there d k = callee_within p h d (calls-within p h s.command w d k)

-- the questions about commands, in their order
abbrev pub FirstOf : Program → ProcId → List Site → Option Breach → Type 0
FirstOf p f ss = IsFirst (λ e. IsBroken p f e.0 e.1) (λ e. breach_of e.1) (site_questions p ss)

meets_append : (p : Program) (f : ProcId) (ss ts : List Site) (o q : Option Breach) → FirstOf p f ss o
    → FirstOf p f ts q → FirstOf p f (ss ++ ts) (option_or o q)
meets_append p f ss ts o q h k =
    subst (λ (xs : List (Site × Question)). IsFirst (λ e. IsBroken p f e.0 e.1) (λ e. breach_of e.1) xs
    (option_or o q))
    (sym (flat_map-append (λ s. map (λ r. (s, r)) (head_questions p s.command)) ss ts))
    (first-append (λ e. IsBroken p f e.0 e.1) (λ e. breach_of e.1) (site_questions p ss)
    (site_questions p ts) o q h (λ n. k))

mutual
  meets_block : (p : Program) (f : ProcId) (es : List ResId) (sets : Sets) (held : List Bool) (h : Procedure)
      → Stands p f es sets held → (b : Block) → BlockWithin p h b
      → FirstOf p f (sites es b) (in_block sets held b)
  meets_block p f es sets held h st done w = tt
  meets_block p f es sets held h st (then c b) w =
      let s : Site = record { entered = es; command = c } in
      subst (FirstOf p f (sites es (then c b)))
      (sym (option_or-assoc (in_head sets held c) (in_inner sets held c) (in_block sets held b)))
      (first-append (λ e. IsBroken p f e.0 e.1) (λ e. breach_of e.1)
      (map (λ r. (s, r)) (head_questions p c)) _ (in_head sets held c) _
      (first-map (λ e. IsBroken p f e.0 e.1) (λ e. breach_of e.1) (λ r. (s, r)) (head_questions p c) _
      (meets_head p f s sets held h st w.0))
      (λ n. meets_append p f (inner_sites es c) (sites es b) (in_inner sets held c) (in_block sets held b)
      (meets_inner p f es sets held h st c w.0) (meets_block p f es sets held h st b w.1)))

  meets_inner : (p : Program) (f : ProcId) (es : List ResId) (sets : Sets) (held : List Bool) (h : Procedure)
      → Stands p f es sets held → (c : Command) → CommandWithin p h c
      → FirstOf p f (inner_sites es c) (in_inner sets held c)
  meets_inner p f es sets held h st (if q t c d) w =
      meets_append p f (sites es c) (sites es d) (in_block sets held c) (in_block sets held d)
      (meets_block p f es sets held h st c w.1) (meets_block p f es sets held h st d w.2)
  meets_inner p f es sets held h st (while q t i c) w = meets_block p f es sets held h st c w.2
  meets_inner p f es sets held h st (with q r t c) w =
      meets_block p f (r ∷ es) sets (with_one held r) h
      (stands_inside p f es (r ∷ []) sets held
      (λ s k. subst (λ (z : ResId). z.0 < length p.resources) (contains-single r s k) w.0) st) c w.2
  meets_inner p f es sets held h st (assign q x e) w = tt
  meets_inner p f es sets held h st (look_up q x e field) w = tt
  meets_inner p f es sets held h st (mutate q e field d) w = tt
  meets_inner p f es sets held h st (new q x) w = tt
  meets_inner p f es sets held h st (dispose q e) w = tt
  meets_inner p f es sets held h st (call q c) w = tt
  meets_inner p f es sets held h st (fork q c d) w = tt

-- at first what the procedure holds is held, and nothing else
stands_first : (p : Program) (sets : Sets) (k : ℕ) → IsFormed p → AreSetsOf p sets → k < length p.procedures
    → Stands p (proc k) [] sets (with_all none_held (holds_of sets (proc k)))
stands_first p sets k formed are below = record {
  formed = formed;
  are = are;
  size = length_all none_held (holds_of sets (proc k)) ∙ length-replicate RESOURCES false;
  is =
      λ r. Decides-like (has (with_all none_held (holds_of sets (proc k))) r) (to r) (from r)
      (has_all none_held (holds_of sets (proc k)) r fit);
}
  where
    set : IsResSet (HasThroughout p (proc k)) (holds_of sets (proc k))
    set = holds_set p sets (proc k) are below

    fit : All (λ q. q.0 < length none_held) (holds_of sets (proc k))
    fit =
        subst (λ (n : ℕ). All (λ q. q.0 < n) (holds_of sets (proc k)))
        (sym (length-replicate RESOURCES false)) (held_fit p sets (proc k) formed are below)

    to : (r : ResId) → Contains (holds_of sets (proc k)) r ⊎ (has none_held r ≡ true)
        → IsHeld p (proc k) [] r
    to r (inl c) = inl ((set.members r).0 c)
    to r (inr e) =
        absurd (let no : has none_held r ≡ false = no_visit RESOURCES r.0 in
        let f : true ≡ false = sym e ∙ no in cc)

    from : (r : ResId) → IsHeld p (proc k) [] r
        → Contains (holds_of sets (proc k)) r ⊎ (has none_held r ≡ true)
    from r (inl b) = inl ((set.members r).1 b)
    from r (inr c) = absurd (contains-nil r c)

meets_procedures : (p : Program) (sets : Sets) → IsFormed p → AreSetsOf p sets
    → (k : ℕ) (hs : List Procedure) → ((i : ℕ) → slice_get hs i ≡ slice_get p.procedures (k + i))
    → IsFirst (IsNo p) told (questions_from p k hs) (in_procedures sets k hs)
meets_procedures p sets formed are k [] same = tt
meets_procedures p sets formed are k (h ∷ hs) same =
    first-append (IsNo p) told (map (λ q. (proc k, q)) (site_questions p (sites [] h.body))) _
    (option_map (λ b. (proc k, b)) (in_procedure sets (proc k) h)) (in_procedures sets (suc k) hs)
    (first-map (IsNo p) told (λ q. (proc k, q)) (site_questions p (sites [] h.body)) _
    (numbered (site_questions p (sites [] h.body)) (in_procedure sets (proc k) h)
    (meets_block p (proc k) [] sets (with_all none_held (holds_of sets (proc k))) h
    (stands_first p sets k formed are (slice_get_within p.procedures k h there)) h.body
    (formed.procedures k h there).body)))
    (λ n. meets_procedures p sets formed are (suc k) hs
    (λ i. same (suc i) ∙ ap (slice_get p.procedures) (let e : k + suc i ≡ suc k + i = omega arith in
    e)))
  where
    there : slice_get p.procedures k ≡ Some h
    there = ap (slice_get p.procedures) (let e : k ≡ k + 0 = omega arith in e) ∙ sym (same 0)

    -- what is found is told with the procedure's number
    numbered : (xs : List (Site × Question)) (o : Option Breach)
        → IsFirst (λ e. IsBroken p (proc k) e.0 e.1) (λ e. breach_of e.1) xs o
        → IsFirst {A = ProcId × Breach} (λ e. IsBroken p (proc k) e.0 e.1) (λ e. (proc k, breach_of e.1)) xs
        (option_map (λ b. (proc k, b)) o)
    numbered [] None m = tt
    numbered [] (Some b) m = absurd m
    numbered (x ∷ xs) None m = (m.0, numbered xs None m.1)
    numbered (x ∷ xs) (Some b) (inl m) = inl (m.0, ap (λ (c : Breach). (proc k, c)) m.1)
    numbered (x ∷ xs) (Some b) (inr m) = inr (m.0, numbered xs (Some b) m.1)

-- what the search finds in a whole program is its first breach
pub meets_program : (p : Program) (sets : Sets) → IsFormed p → AreSetsOf p sets
    → (o : Option (ProcId × Breach)) → o ≡ in_procedures sets 0 p.procedures → FirstBreach p o
meets_program p sets formed are o e =
    subst (FirstBreach p) (sym e)
    (meets_procedures p sets formed are 0 p.procedures
    (λ i. ap (slice_get p.procedures) (let same : i ≡ 0 + i = omega arith in same)))
