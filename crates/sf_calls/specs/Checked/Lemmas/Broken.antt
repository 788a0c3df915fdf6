-- What comes first is broken, and nothing comes first exactly where nothing is broken: the questions are
-- about all that may be broken, and about nothing else.
-- Names: `KIND_break` says that a question of that kind whose answer is no is a breach.
use Rattle.std.proofs.Common.{◌≡◌, ◌⊎◌, ◌<◌, ◌+◌, ℕ, zero, suc, List, [], ◌∷◌, ◌++◌, length, map, slice_get, Some, Contains, refl, sym, ap, inl, inr, ◌∙◌, subst, arith}
use Rattle.std.proofs.lemmas.List.Elements.{Contains-append_cases, Contains-append_left, Contains-append_right}
use Rattle.std.proofs.lemmas.Option.{none-some, same_Some}
use Rattle.sf_base.proofs.Elements.{contains-nil, contains-cons}
use Rattle.sf_base.proofs.Members.{contains-map, contains-map_from, contains-flat_map, contains-flat_map_from}
use Rattle.sf_base.specs.declared.ids.ProcId.{ProcId}
use Rattle.sf_base.specs.declared.ids.Var.{Var}
use Rattle.sf_base.specs.declared.place.Place.{Place}
use Rattle.sf_core.specs.declared.command.Occurrence.{Occurrence}
use Rattle.sf_core.specs.Program.Formed.{IsFormed}
use Rattle.sf_core.specs.Program.Heads.{Site, sites, head_calls, head_forks, head_occurrences, head_regions, call_occurrences}
use Rattle.sf_core.specs.Program.Places.{place_of}
use Rattle.sf_core.specs.Program.Syntax.{Call, Procedure, Program}
use Rattle.sf_calls.specs.declared.breach.Breach.{Breach}
use Rattle.sf_calls.specs.declared.breach.Breach.TheVariants.{NotHeld, Reentered, SameReference, ReferenceIsFree, ParallelShares}
use Rattle.sf_calls.specs.Breaks.{IsAgain, BreaksAt, Breaks}
use Rattle.sf_calls.specs.Around.{Shares}
use Rattle.sf_calls.specs.FirstBreach.{resources_from, variables_from, Question, occurs, frees, enters, takes, repeats, passes, shares, breach_of, IsBroken, IsNo, told, call_uses, call_takes, repeats_after, fork_shares, uses_questions, enters_questions, repeats_questions, passes_questions, shares_questions, head_questions, site_questions, questions_from}
use Rattle.sf_calls.specs.Checked.Laws.{FirstBreachIsBroken}
use Rattle.sf_calls.specs.Outside.{IsAmong}
use Rattle.sf_calls.specs.Checked.Lemmas.Firsts.{first-found, none-of, of-none}
use Rattle.sf_calls.specs.Checked.Lemmas.InFile.{free_there, resources_there}
use Rattle.sf_calls.specs.Checked.Lemmas.Least.{takes_within}
use Rattle.sf_calls.specs.Checked.Lemmas.Searches.{proc}

-- one more reference was passed
pub among-push_cases : (x : Var) (ys : List Occurrence) (y : Occurrence) → IsAmong x (ys ++ y ∷ [])
    → IsAmong x ys ⊎ (y.var ≡ x)
among-push_cases x [] y (inl e) = inr e
among-push_cases x [] y (inr h) = absurd h
among-push_cases x (z ∷ zs) y (inl e) = inl (inl e)
among-push_cases x (z ∷ zs) y (inr h) = elim (among-push_cases x zs y h) [ inl k ↦ inl (inr k) | inr e ↦ inr e ]

pub among-push : (x : Var) (ys : List Occurrence) (y : Occurrence) → IsAmong x ys ⊎ (y.var ≡ x)
    → IsAmong x (ys ++ y ∷ [])
among-push x [] y (inl h) = absurd h
among-push x [] y (inr e) = inl e
among-push x (z ∷ zs) y (inl (inl e)) = inl e
among-push x (z ∷ zs) y (inl (inr h)) = inr (among-push x zs y (inl h))
among-push x (z ∷ zs) y (inr e) = inr (among-push x zs y (inr e))

-- a question about a site whose answer is no is a breach there
abbrev pub Tells : Program → ProcId → Site → Question → Type 0
Tells p f s q = IsBroken p f s q → BreaksAt p f (breach_of q) s

uses_break : (p : Program) (f : ProcId) (s : Site) (q : Question)
    → Contains (uses_questions p s.command) q → Tells p f s q
uses_break p f s q c =
    elim (Contains-append_cases (map occurs (head_occurrences s.command)) _ q c) [
      | inl k ↦
          let x = contains-map_from occurs (head_occurrences s.command) q k in
          subst (Tells p f s) x.2 (λ u. (u, inl (inl x.1)))
      | inr k ↦
          let d = contains-flat_map_from (call_uses p) (head_calls s.command) q k in
          of_call d.0 d.1 d.2
    ]
  where
    of_call : (d : Call) → Contains (head_calls s.command) d → Contains (call_uses p d) q
        → Tells p f s q
    of_call d m k =
        elim (Contains-append_cases (map (frees d) (variables_from 0 p.resources)) _ q k) [
          | inl l ↦
              let x = contains-map_from (frees d) (variables_from 0 p.resources) q l in
              subst (Tells p f s) x.2 (λ h. (h.1, inr (d, m, (refl, h.0))))
          | inr l ↦
              let x = contains-map_from occurs (call_occurrences d) q l in
              subst (Tells p f s) x.2 (λ u. (u, inl (inr (d, m, x.1))))
        ]

enters_break : (p : Program) (f : ProcId) (s : Site) (q : Question)
    → Contains (enters_questions p s.command) q → Tells p f s q
enters_break p f s q c =
    elim (Contains-append_cases (map (enters (place_of s.command)) (head_regions s.command)) _ q c) [
      | inl k ↦
          let r = contains-map_from (enters (place_of s.command)) (head_regions s.command) q k in
          subst (Tells p f s) r.2 (λ h. (h, inl (refl, r.1)))
      | inr k ↦
          let d = contains-flat_map_from (call_takes p)
          (head_calls s.command) q k in
          let r = contains-map_from (takes d.0) (resources_from 0 p.resources) q d.2 in
          subst (Tells p f s) r.2 (λ h. (h.1, inr (d.0, d.1, (refl, h.0))))
    ]

-- a reference that comes after another of its variable is asked about, with those before it
again_from : (before xs : List Occurrence) (q : Question) → Contains (repeats_after before xs) q
    → (x : Occurrence) × (ys : List Occurrence) × (repeats ys x ≡ q)
    × (IsAmong x.var ys → (IsAmong x.var before × Contains xs x) ⊎ IsAgain x xs)
again_from before [] q c = absurd (contains-nil q c)
again_from before (y ∷ ys) q c = elim ((contains-cons (repeats before y) _ q).0 c) [
  | inl e ↦ (y, before, e, λ h. inl (h, (contains-cons y ys y).1 (inl refl)))
  | inr k ↦
      let r = again_from (before ++ y ∷ []) ys q k in
      (r.0, r.1, r.2, λ h. one_more r.0 (r.3 h))
]
  where
    one_more : (x : Occurrence) → (IsAmong x.var (before ++ y ∷ []) × Contains ys x) ⊎ IsAgain x ys
        → (IsAmong x.var before × Contains (y ∷ ys) x) ⊎ IsAgain x (y ∷ ys)
    one_more x (inl h) = elim (among-push_cases x.var before y h.0) [
      | inl k ↦ inl (k, (contains-cons y ys x).1 (inr h.1))
      | inr e ↦ inr (inl (e, h.1))
    ]
    one_more x (inr h) = inr (inr h)

again_later : (before xs : List Occurrence) (x : Occurrence) → IsAmong x.var before → Contains xs x
    → (ys : List Occurrence) × Contains (repeats_after before xs) (repeats ys x) × IsAmong x.var ys
again_later before [] x h c = absurd (contains-nil x c)
again_later before (y ∷ ys) x h c = elim ((contains-cons y ys x).0 c) [
  | inl e ↦
      (before, (contains-cons (repeats before y) _ (repeats before x)).1 (inl (ap (repeats before) e)), h)
  | inr k ↦
      let r = again_later (before ++ y ∷ []) ys x (among-push x.var before y (inl h)) k in
      (r.0, (contains-cons (repeats before y) _ (repeats r.0 x)).1 (inr r.1), r.2)
]

again_to : (before xs : List Occurrence) (x : Occurrence) → IsAgain x xs
    → (ys : List Occurrence) × Contains (repeats_after before xs) (repeats ys x) × IsAmong x.var ys
again_to before [] x h = absurd h
again_to before (y ∷ ys) x (inl h) =
    let r = again_later (before ++ y ∷ []) ys x (among-push x.var before y (inr h.0)) h.1 in
    (r.0, (contains-cons (repeats before y) _ (repeats r.0 x)).1 (inr r.1), r.2)
again_to before (y ∷ ys) x (inr h) =
    let r = again_to (before ++ y ∷ []) ys x h in
    (r.0, (contains-cons (repeats before y) _ (repeats r.0 x)).1 (inr r.1), r.2)

repeats_break : (p : Program) (f : ProcId) (s : Site) (q : Question)
    → Contains (repeats_questions s.command) q → Tells p f s q
repeats_break p f s q c =
    let d = contains-flat_map_from (λ d. repeats_after [] d.references) (head_calls s.command) q c in
    let x = again_from [] d.0.references q d.2 in
    subst (Tells p f s) x.2
    (λ h. (d.0, d.1, elim (x.3 h) [ inl k ↦ absurd k.0 | inr k ↦ k ]))

passes_break : (p : Program) (f : ProcId) (s : Site) (q : Question)
    → Contains (passes_questions s.command) q → Tells p f s q
passes_break p f s q c =
    let d = contains-flat_map_from (λ d. map (passes d) d.references) (head_calls s.command) q c in
    let x = contains-map_from (passes d.0) d.0.references q d.2 in
    subst (Tells p f s) x.2 (λ h. (d.0, d.1, (x.1, h)))

shares_break : (p : Program) (f : ProcId) (s : Site) (q : Question)
    → Contains (shares_questions p s.command) q → Tells p f s q
shares_break p f s q c =
    let e = contains-flat_map_from (λ e. fork_shares p e.0 e.1) (head_forks s.command) q c in
    of_fork e.0 e.1 e.2
  where
    of_fork : (e : Call × Call) → Contains (head_forks s.command) e
        → Contains (fork_shares p e.0 e.1) q → Tells p f s q
    of_fork e m k =
        elim (Contains-append_cases (map (λ x. shares e.0 e.1 x.var) (call_occurrences e.0)) _ q k) [
          | inl l ↦
              let x = contains-map_from (λ x. shares e.0 e.1 x.var) (call_occurrences e.0) q l in
              subst (Tells p f s) x.2 (λ h. (e, m, refl, h))
          | inr l ↦
              elim (Contains-append_cases (map (λ x. shares e.0 e.1 x.var) (call_occurrences e.1)) _ q l) [
                | inl n ↦
                    let x = contains-map_from (λ x. shares e.0 e.1 x.var) (call_occurrences e.1) q n in
                    subst (Tells p f s) x.2 (λ h. (e, m, refl, h))
                | inr n ↦
                    let x = contains-map_from (shares e.0 e.1) (variables_from 0 p.resources) q n in
                    subst (Tells p f s) x.2 (λ h. (e, m, refl, h))
              ]
        ]

pub asked_break : (p : Program) (f : ProcId) (s : Site) (q : Question)
    → Contains (head_questions p s.command) q → Tells p f s q
asked_break p f s q c =
    elim (Contains-append_cases (uses_questions p s.command) _ q c) [
      | inl k ↦ uses_break p f s q k
      | inr k ↦ elim (Contains-append_cases (enters_questions p s.command) _ q k) [
        | inl l ↦ enters_break p f s q l
        | inr l ↦ elim (Contains-append_cases (repeats_questions s.command) _ q l) [
          | inl m ↦ repeats_break p f s q m
          | inr m ↦ elim (Contains-append_cases (passes_questions s.command) _ q m) [
            | inl n ↦ passes_break p f s q n
            | inr n ↦ shares_break p f s q n
          ]
        ]
      ]
    ]

-- the question about a site whose answer is that breach
abbrev pub IsAskedAt : Program → ProcId → Site → Breach → Type 0
IsAskedAt p f s b =
    (q : Question) × Contains (head_questions p s.command) q × IsBroken p f s q × (b ≡ breach_of q)

-- a variable that two calls share occurs in one of them, or is free in one of them
shared_there : (p : Program) → IsFormed p → (c d : Call) (x : Var) → Shares p c d x
    → Contains (fork_shares p c d) (shares c d x)
shared_there p formed c d x h = elim h [
  | inl k ↦ elim k.0 [
    | inl a ↦ Contains-append_left _ _ (shares c d x) (named c (shares c d) x a)
    | inr f ↦ in_the_file (free_there p c.callee x formed f)
  ]
  | inr k ↦ elim k.0 [
    | inl a ↦
        Contains-append_right (map (λ x. shares c d x.var) (call_occurrences c)) _ (shares c d x)
        (Contains-append_left _ _ (shares c d x) (named d (shares c d) x a))
    | inr f ↦ in_the_file (free_there p d.callee x formed f)
  ]
]
  where
    at : (g : Var → Question) (xs ys : List Occurrence) (x : Var) → IsAmong x xs
        → Contains (map (λ y. g y.var) (xs ++ ys)) (g x)
    at g [] ys x a = absurd a
    at g (y ∷ xs) ys x (inl e) = (contains-cons (g y.var) _ (g x)).1 (inl (ap g e))
    at g (y ∷ xs) ys x (inr a) = (contains-cons (g y.var) _ (g x)).1 (inr (at g xs ys x a))

    named : (e : Call) (g : Var → Question) (x : Var) → IsAmong x e.references
        → Contains (map (λ y. g y.var) (call_occurrences e)) (g x)
    named e g x a = at g e.references _ x a

    in_the_file : Contains (variables_from 0 p.resources) x
        → Contains (fork_shares p c d) (shares c d x)
    in_the_file k =
        Contains-append_right (map (λ x. shares c d x.var) (call_occurrences c)) _ (shares c d x)
        (Contains-append_right (map (λ x. shares c d x.var) (call_occurrences d)) _ (shares c d x)
        (contains-map (shares c d) (variables_from 0 p.resources) x k))

-- each part of the questions about a site
of_uses : (p : Program) (s : Site) (q : Question)
    → Contains (uses_questions p s.command) q → Contains (head_questions p s.command) q
of_uses p s q c = Contains-append_left _ _ q c

of_enters : (p : Program) (s : Site) (q : Question)
    → Contains (enters_questions p s.command) q → Contains (head_questions p s.command) q
of_enters p s q c =
    Contains-append_right (uses_questions p s.command) _ q
    (Contains-append_left _ _ q c)

after_enters : (p : Program) (s : Site) (q : Question)
    → Contains (repeats_questions s.command
    ++ (passes_questions s.command ++ shares_questions p s.command)) q
    → Contains (head_questions p s.command) q
after_enters p s q c =
    Contains-append_right (uses_questions p s.command) _ q
    (Contains-append_right (enters_questions p s.command) _ q c)

pub break_asked : (p : Program) → IsFormed p → (f : ProcId) (s : Site) (b : Breach) → BreaksAt p f b s
    → IsAskedAt p f s b
break_asked p formed f s (NotHeld place x) (u, inl (inl c)) =
    let y : Occurrence = record { var = x; place = place } in (
      occurs y,
      of_uses p s (occurs y)
          (Contains-append_left _ _ (occurs y)
          (contains-map occurs (head_occurrences s.command) y c)),
      u,
      refl,
    )
break_asked p formed f s (NotHeld place x) (u, inl (inr (d, m, c))) =
    let y : Occurrence = record { var = x; place = place } in (
      occurs y,
      of_uses p s (occurs y)
          (Contains-append_right (map occurs (head_occurrences s.command)) _ (occurs y)
          (contains-flat_map (call_uses p) (head_calls s.command) d (occurs y) m
          (Contains-append_right (map (frees d) (variables_from 0 p.resources)) _ (occurs y)
          (contains-map occurs (call_occurrences d) y c)))),
      u,
      refl,
    )
break_asked p formed f s (NotHeld place x) (u, inr (d, m, (e, free))) = (
  frees d x,
  of_uses p s (frees d x)
      (Contains-append_right (map occurs (head_occurrences s.command)) _ (frees d x)
      (contains-flat_map (call_uses p) (head_calls s.command) d (frees d x) m
      (Contains-append_left _ _ (frees d x)
      (contains-map (frees d) (variables_from 0 p.resources) x
      (free_there p d.callee x formed free))))),
  (free, u),
  ap (λ (k : Place). NotHeld k x) (sym e),
)
break_asked p formed f s (Reentered place r) (h, inl (e, c)) = (
  enters (place_of s.command) r,
  of_enters p s (enters (place_of s.command) r)
      (Contains-append_left _ _ (enters (place_of s.command) r)
      (contains-map (enters (place_of s.command)) (head_regions s.command) r c)),
  h,
  ap (λ (k : Place). Reentered k r) (sym e),
)
break_asked p formed f s (Reentered place r) (h, inr (d, m, (e, t))) = (
  takes d r,
  of_enters p s (takes d r)
      (Contains-append_right (map (enters (place_of s.command)) (head_regions s.command)) _
      (takes d r)
      (contains-flat_map (call_takes p) (head_calls s.command)
      d (takes d r) m
      (contains-map (takes d) (resources_from 0 p.resources) r
      (resources_there 0 p.resources r (omega arith)
      (let below : r.0 < length p.resources = takes_within p formed d.callee r t in
      omega arith))))),
  (t, h),
  ap (λ (k : Place). Reentered k r) (sym e),
)
break_asked p formed f s (SameReference place x) (d, m, g) =
    let y : Occurrence = record { var = x; place = place } in
    let a = again_to [] d.references y g in (
      repeats a.0 y,
      after_enters p s (repeats a.0 y)
          (Contains-append_left _ _ (repeats a.0 y)
          (contains-flat_map (λ d. repeats_after [] d.references) (head_calls s.command) d (repeats a.0 y) m
          a.1)),
      a.2,
      refl,
    )
break_asked p formed f s (ReferenceIsFree place x) (d, m, (c, free)) =
    let y : Occurrence = record { var = x; place = place } in (
      passes d y,
      after_enters p s (passes d y)
          (Contains-append_right (repeats_questions s.command) _ (passes d y)
          (Contains-append_left _ _ (passes d y)
          (contains-flat_map (λ d. map (passes d) d.references) (head_calls s.command) d (passes d y) m
          (contains-map (passes d) d.references y c)))),
      free,
      refl,
    )
break_asked p formed f s (ParallelShares place x) (e, m, is, h) = (
  shares e.0 e.1 x,
  after_enters p s (shares e.0 e.1 x)
      (Contains-append_right (repeats_questions s.command) _ (shares e.0 e.1 x)
      (Contains-append_right (passes_questions s.command) _ (shares e.0 e.1 x)
      (contains-flat_map (λ e. fork_shares p e.0 e.1) (head_forks s.command) e (shares e.0 e.1 x)
      m (shared_there p formed e.0 e.1 x h)))),
  h,
  ap (λ (k : Place). ParallelShares k x) (sym is),
)

-- a question about a procedure is one about a site of its body
abbrev IsOfBody : Program → Procedure → Site × Question → Type 0
IsOfBody p h e = Contains (sites [] h.body) e.0 × Contains (head_questions p e.0.command) e.1

-- the questions about a site, with it
abbrev at_site : Program → Site → List (Site × Question)
at_site p s = map (λ q. (s, q)) (head_questions p s.command)

pub asked_from : (p : Program) (k : ℕ) (hs : List Procedure) (e : ProcId × (Site × Question))
    → Contains (questions_from p k hs) e
    → (i : ℕ) × (h : Procedure) × (slice_get hs i ≡ Some h) × (proc (k + i) ≡ e.0) × IsOfBody p h e.1
asked_from p k [] e c = absurd (contains-nil e c)
asked_from p k (h ∷ hs) e c =
    elim (Contains-append_cases (map (λ q. (proc k, q)) (site_questions p (sites [] h.body))) _ e c) [
      | inl m ↦
          let q = contains-map_from (λ q. (proc k, q)) (site_questions p (sites [] h.body)) e m in
          let s = contains-flat_map_from (at_site p) (sites [] h.body) q.0 q.1 in
          let r = contains-map_from (λ r. (s.0, r)) (head_questions p s.0.command) q.0 s.2 in (
            0,
            h,
            refl,
            ap proc (let same : k + 0 ≡ k = omega arith in same)
                ∙ ap (λ (t : ProcId × (Site × Question)). t.0) q.2,
            subst (IsOfBody p h) (r.2 ∙ ap (λ (t : ProcId × (Site × Question)). t.1) q.2) (s.1, r.1),
          )
      | inr m ↦
          let r = asked_from p (suc k) hs e m in (
            suc r.0,
            r.1,
            r.2,
            ap proc (let same : k + suc r.0 ≡ suc k + r.0 = omega arith in same) ∙ r.3,
            r.4,
          )
    ]

asked_there : (p : Program) (k : ℕ) (hs : List Procedure) (i : ℕ) (h : Procedure) (e : Site × Question)
    → slice_get hs i ≡ Some h → IsOfBody p h e → Contains (questions_from p k hs) (proc (k + i), e)
asked_there p k [] i h e at o = absurd (none-some h at)
asked_there p k (g ∷ gs) zero h e at o =
    let same : proc k ≡ proc (k + 0) = ap proc (let z : k ≡ k + 0 = omega arith in z) in
    subst (λ (f : ProcId). Contains (questions_from p k (g ∷ gs)) (f, e)) same
    (Contains-append_left _ _ (proc k, e)
    (contains-map (λ q. (proc k, q)) (site_questions p (sites [] g.body)) e
    (here (subst (λ (t : Procedure). IsOfBody p t e) (sym (same_Some g h at)) o))))
  where
    here : IsOfBody p g e → Contains (site_questions p (sites [] g.body)) e
    here b =
        contains-flat_map (at_site p) (sites [] g.body) e.0 e b.0
        (contains-map (λ q. (e.0, q)) (head_questions p e.0.command) e.1 b.1)
asked_there p k (g ∷ gs) (suc i) h e at o =
    let same : proc (suc k + i) ≡ proc (k + suc i) =
    ap proc (let z : suc k + i ≡ k + suc i = omega arith in z) in
    subst (λ (f : ProcId). Contains (questions_from p k (g ∷ gs)) (f, e)) same
    (Contains-append_right (map (λ q. (proc k, q)) (site_questions p (sites [] g.body))) _
    (proc (suc k + i), e) (asked_there p (suc k) gs i h e at o))

-- a question of a program whose answer is no is a breach of it, and each breach is one
no_breaks : (p : Program) (e : ProcId × (Site × Question)) → Contains (questions_from p 0 p.procedures) e
    → IsNo p e → Breaks p e.0 (breach_of e.1.1)
no_breaks p e c h =
    let a = asked_from p 0 p.procedures e c in
    let at : proc a.0 ≡ e.0 = ap proc (let same : a.0 ≡ 0 + a.0 = omega arith in same) ∙ a.3 in (
      a.1,
      ap (λ (f : ProcId). slice_get p.procedures f.0) (sym at) ∙ a.2,
      (e.1.0, a.4.0, asked_break p e.0 e.1.0 e.1.1 a.4.1 h),
    )

breaks_asked : (p : Program) → IsFormed p → (f : ProcId) (b : Breach) → Breaks p f b
    → (e : ProcId × (Site × Question)) × Contains (questions_from p 0 p.procedures) e × IsNo p e
    × ((f, b) ≡ told e)
breaks_asked p formed f b (h, at, (s, m, k)) =
    let q = break_asked p formed f s b k in
    let same : proc (0 + f.0) ≡ f = ap proc (let e : 0 + f.0 ≡ f.0 = omega arith in e) in (
      (f, (s, q.0)),
      subst (λ (g : ProcId). Contains (questions_from p 0 p.procedures) (g, (s, q.0))) same
          (asked_there p 0 p.procedures f.0 h (s, q.0) at (m, q.1)),
      q.2,
      ap (λ (c : Breach). (f, c)) q.3,
    )

pub first_broken : FirstBreachIsBroken
first_broken p formed = record {
  found = λ f b h. found f b (first-found (IsNo p) told questions (f, b) h);
  kept = λ n f b h.
      let a = breaks_asked p formed f b h in none-of (IsNo p) told questions n a.0 a.1 a.2;
  unbroken = λ n. of-none (IsNo p) told questions (λ e c k. n e.0 (breach_of e.1.1) (no_breaks p e c k));
}
  where
    questions : List (ProcId × (Site × Question))
    questions = questions_from p 0 p.procedures

    found : (f : ProcId) (b : Breach)
        → (e : ProcId × (Site × Question)) × Contains questions e × IsNo p e × ((f, b) ≡ told e)
        → Breaks p f b
    found f b (e, c, k, is) =
        subst (λ (t : ProcId × Breach). Breaks p t.0 t.1) (sym is) (no_breaks p e c k)
