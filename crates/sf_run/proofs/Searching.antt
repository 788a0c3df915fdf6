-- A search along calls for a parallel call: what one site, all sites of a body and the whole search give.
-- Names: `fork_WHAT` of parallel calls, `sites_WHAT` of the sites of a body, `search_WHAT` of the search.
use Rattle.std.specs.Prelude.{◌≡◌, ◌⊎◌, ℕ, suc, ◌+◌, ◌<◌, ◌≤◌, drop, get_or, map, replicate, Bool, true, false, List, [], ◌∷◌, ◌++◌, length, Some, None, slice_get, Contains}
use Rattle.std.proofs.Common.{true≢false, sym, ◌∙◌, refl, subst, inl, inr, arith}
use Rattle.std.proofs.lemmas.List.Elements.{Contains-append_cases, Contains-append_left, Contains-push}
use Rattle.std.proofs.lemmas.Option.{slice_get_within, get_or_from_slice_get, same_Some}
use Rattle.sf_base.proofs.Elements.{contains-cons, contains-nil, contains-replicate, contains-rest, contains-single}
use Rattle.sf_base.proofs.Lists.{drop-map_all, drop-map_more}
use Rattle.sf_base.proofs.Members.{contains-flat_map, contains-map}
use Rattle.sf_base.specs.declared.ids.ProcId.{ProcId}
use Rattle.sf_core.specs.declared.walk.Site.{Site as CodeSite}
use Rattle.sf_core.specs.Program.Formed.{ProcedureWithin}
use Rattle.sf_core.specs.Program.Sites.{site_of}
use Rattle.sf_core.specs.Program.View.{command_of}
use Rattle.sf_core.specs.Program.Heads.{Site, sites, head_forks}
use Rattle.sf_core.specs.Program.Syntax.{Call, Command, assign, look_up, mutate, new, dispose, if, while, call, fork, with, Procedure, Program}
use Rattle.sf_calls.specs.Conditions.{Calls}
use Rattle.sf_calls.specs.Checked.Tests.{callees_of, callees_in}
use Rattle.sf_calls.specs.Checked.Visited.{IsVisited, VisitsMore}
use Rattle.sf_calls.specs.Checked.Lemmas.Decided.{callees_in_are}
use Rattle.sf_calls.specs.Checked.Lemmas.Searches.{visited_none, visited_both}
use Rattle.sf_calls.specs.Checked.Lemmas.Within.{callees_within}
use Rattle.sf_calls.specs.Reaches.{directly, through}
use Rattle.sf_calls.specs.Outside.{CallsIn}
use Rattle.sf_run.specs.Checked.Searches.{IsFork, HasFork, VisitsOrForks}
use Rattle.sf_run.specs.Sequential.{ForksIn, Forks, ReachesFork, IsSequential}

-- a parallel call has its two calls
pub fork_has : (c : Command) → IsFork c → (e : Call × Call) × Contains (head_forks c) e
fork_has (fork place c d) h = ((c, d), (contains-cons (c, d) [] (c, d)).1 (inl refl))
fork_has (assign place x e) h = absurd h
fork_has (look_up place x e field) h = absurd h
fork_has (mutate place e field v) h = absurd h
fork_has (new place x) h = absurd h
fork_has (dispose place e) h = absurd h
fork_has (if place test this that) h = absurd h
fork_has (while place test kept body) h = absurd h
fork_has (call place c) h = absurd h
fork_has (with place r test body) h = absurd h

fork_of : (c : Command) (e : Call × Call) → Contains (head_forks c) e → IsFork c
fork_of (fork place c d) e h = tt
fork_of (assign place x v) e h = contains-nil e h
fork_of (look_up place x v field) e h = contains-nil e h
fork_of (mutate place w field v) e h = contains-nil e h
fork_of (new place x) e h = contains-nil e h
fork_of (dispose place v) e h = contains-nil e h
fork_of (if place test this that) e h = contains-nil e h
fork_of (while place test kept body) e h = contains-nil e h
fork_of (call place c) e h = contains-nil e h
fork_of (with place r test body) e h = contains-nil e h

-- one of the sites has a parallel call where one of them is one
fork_at : (ss : List Site) → HasFork ss
    → (s : Site) × Contains ss s × ((e : Call × Call) × Contains (head_forks s.command) e)
fork_at [] h = absurd h
fork_at (s ∷ ss) (inl h) = (s, (contains-cons s ss s).1 (inl refl), fork_has s.command h)
fork_at (s ∷ ss) (inr h) = let k = fork_at ss h in (k.0, contains-rest s ss k.0 k.1, k.2)

fork_from : (ss : List Site) (s : Site) (e : Call × Call) → Contains ss s → Contains (head_forks s.command) e
    → HasFork ss
fork_from [] s e m h = absurd (contains-nil s m)
fork_from (t ∷ ss) s e m h = elim ((contains-cons t ss s).0 m) [
  | inl i ↦ inl (subst (λ (z : Site). IsFork z.command) (sym i) (fork_of s.command e h))
  | inr k ↦ inr (fork_from ss s e k h)
]

-- no sites
pub sites_none : (visited : List Bool) (queue : List ProcId) → VisitsOrForks false [] visited queue visited queue
sites_none visited queue = (λ h. h, visited_none visited queue)

-- one site more in front, that is no parallel call
pub sites_more : (forks : Bool) (s : Site) (ss : List Site) (a : List Bool) (q : List ProcId) (b : List Bool)
    (r : List ProcId) (c : List Bool) (t : List ProcId) → (IsFork s.command → ⊥)
    → VisitsMore (callees_of s.command) a q b r → VisitsOrForks forks ss b r c t
    → VisitsOrForks forks (s ∷ ss) a q c t
sites_more true s ss a q b r c t n m h = inr h
sites_more false s ss a q b r c t n m h = (
  λ f. elim f [ inl i ↦ n i | inr k ↦ h.0 k ],
  visited_both (callees_of s.command) (callees_in None ss) a q b r c t m h.1,
)

-- a site of the code that is passed, which is no parallel call
pub sites_passed : (xs : List CodeSite) (k : ℕ) (x : CodeSite) → k < length xs → x ≡ get_or xs k x
    → (forks : Bool) (a : List Bool) (q : List ProcId) (b : List Bool) (r : List ProcId) (c : List Bool)
    (t : List ProcId) → (IsFork (command_of x.command.now) → ⊥)
    → VisitsMore (callees_of (command_of x.command.now)) a q b r
    → VisitsOrForks forks (drop (k + 1) (map site_of xs)) b r c t
    → VisitsOrForks forks (drop k (map site_of xs)) a q c t
sites_passed xs k x l e forks a q b r c t n m h =
    let next : k + 1 ≡ suc k = omega arith in
    subst (λ z. VisitsOrForks forks z a q c t) (sym (drop-map_more site_of xs k x l e))
    (sites_more forks (site_of x) (drop (suc k) (map site_of xs)) a q b r c t n m
    (subst (λ z. VisitsOrForks forks (drop z (map site_of xs)) b r c t) next h))

-- one that is a parallel call
pub sites_forks : (xs : List CodeSite) (k : ℕ) (x : CodeSite) → k < length xs → x ≡ get_or xs k x
    → IsFork (command_of x.command.now) → HasFork (drop k (map site_of xs))
sites_forks xs k x l e h = subst HasFork (sym (drop-map_more site_of xs k x l e)) (inl h)

-- all are passed
pub sites_all : (xs : List CodeSite) (k : ℕ) → length xs ≤ k → (visited : List Bool) (queue : List ProcId)
    → VisitsOrForks false (drop k (map site_of xs)) visited queue visited queue
sites_all xs k l visited queue =
    subst (λ z. VisitsOrForks false z visited queue visited queue) (sym (drop-map_all site_of xs k l))
    (sites_none visited queue)

-- what one of them calls is called at them
pub sites_call : (xs : List CodeSite) (k : ℕ) (x : CodeSite) (g : ProcId) → k < length xs → x ≡ get_or xs k x
    → Contains (callees_of (command_of x.command.now)) g → Contains (callees_in None (map site_of xs)) g
sites_call xs k x g l e h =
    contains-flat_map _ (map site_of xs) (site_of x) g (contains-map site_of xs x (k, l, sym e)) h

-- what a body calls is there
pub sites_within : (p : Program) (h : Procedure) (g : ProcId) → ProcedureWithin p h
    → Contains (callees_in None (sites [] h.body)) g → g.0 < length p.procedures
sites_within p h g w c = callees_within p h None g h.body w.body ((callees_in_are None g h.body).0 c)

-- where none is visited none is
pub none_visited : (n : ℕ) (g : ProcId) → IsVisited (replicate n false) g → ⊥
none_visited n g v = true≢false (contains-replicate n false true (
  g.0,
  slice_get_within (replicate n false) g.0 true v,
  get_or_from_slice_get (replicate n false) g.0 true true v,
))

-- what the search has done so far: a parallel call that is reached from a visited procedure is reached from f; and
-- what is visited is still queued, or has no parallel call, and all that it calls is visited
pub record IsSearch (p : Program) (f : ProcId) (visited : List Bool) (queue : List ProcId) : Type 0 where
  pub size : length visited ≡ length p.procedures
  pub first : IsVisited visited f
  pub sound : (g : ProcId) → IsVisited visited g → ReachesFork p g → ReachesFork p f
  pub known : (g : ProcId) → Contains queue g → IsVisited visited g
  pub closed : (g : ProcId) → IsVisited visited g
      → Contains queue g ⊎ ((Forks p g → ⊥) × ((h : ProcId) → Calls p None g h → IsVisited visited h))

-- at its start f alone is visited
pub search_starts : (p : Program) (f : ProcId) (before visited : List Bool) (queue longer : List ProcId)
    → length before ≡ length p.procedures → ((g : ProcId) → IsVisited before g → ⊥) → queue ≡ []
    → VisitsMore (f ∷ []) before queue visited longer → IsSearch p f visited longer
search_starts p f before visited queue longer size none empty m = record {
  size = m.size ∙ size;
  first = m.all f ((contains-cons f [] f).1 (inl refl));
  sound = λ g v r. subst (ReachesFork p) (sym (is_f g v).0) r;
  known = λ g c. elim (m.known g c) [
    | inl k ↦ absurd (contains-nil g (subst (λ (z : List ProcId). Contains z g) empty k))
    | inr v ↦ v
  ];
  closed = λ g v. inl (is_f g v).1;
}
  where
    is_f : (g : ProcId) → IsVisited visited g → (f ≡ g) × Contains longer g
    is_f g v = elim (m.only g v) [
      | inl b ↦ absurd (none g b)
      | inr k ↦ (contains-single f g k.0, k.1)
    ]

-- what is queued is a procedure
pub search_within : (p : Program) (f : ProcId) (visited : List Bool) (queue rest : List ProcId) (g : ProcId)
    → queue ≡ rest ++ g ∷ [] → IsSearch p f visited queue → g.0 < length p.procedures
search_within p f visited queue rest g e s =
    let here : IsVisited visited g = s.known g (subst (λ (z : List ProcId). Contains z g) (sym e) (Contains-push rest g)) in
    let below : g.0 < length visited = slice_get_within visited g.0 true here in
    omega (arith, below, s.size)

-- one procedure is looked at that has no parallel call
pub search_goes_on : (p : Program) (f : ProcId) (visited : List Bool) (queue rest : List ProcId) (g : ProcId)
    (h : Procedure) (after : List Bool) (longer : List ProcId) → queue ≡ rest ++ g ∷ []
    → slice_get p.procedures g.0 ≡ Some h → IsSearch p f visited queue
    → VisitsOrForks false (sites [] h.body) visited rest after longer → IsSearch p f after longer
search_goes_on p f visited queue rest g h after longer e there s (none, m) = record {
  size = m.size ∙ s.size;
  first = m.kept f s.first;
  sound = λ k v r. elim (m.only k v) [
    | inl b ↦ s.sound k b r
    | inr b ↦ s.sound g here (through k (h, there, (callees_in_are None k h.body).0 b.0) r)
  ];
  known = λ k c. elim (m.known k c) [
    | inl b ↦ m.kept k (s.known k (subst (λ (z : List ProcId). Contains z k) (sym e)
        (Contains-append_left rest (g ∷ []) k b)))
    | inr v ↦ v
  ];
  closed = λ k v. elim (m.only k v) [
    | inl b ↦ elim (s.closed k b) [
      | inl c ↦ elim (Contains-append_cases rest (g ∷ []) k (subst (λ (z : List ProcId). Contains z k) e c)) [
        | inl d ↦ inl (m.queued k d)
        | inr d ↦ inr (looked k (contains-single g k d))
      ]
      | inr c ↦ inr (c.0, λ j calls. m.kept j (c.1 j calls))
    ]
    | inr b ↦ inl b.1
  ];
}
  where
    here : IsVisited visited g
    here = s.known g (subst (λ (z : List ProcId). Contains z g) (sym e) (Contains-push rest g))

    same : (k : Procedure) → slice_get p.procedures g.0 ≡ Some k → k ≡ h
    same k i = same_Some k h (sym i ∙ there)

    looked : (k : ProcId) → g ≡ k
        → (Forks p k → ⊥) × ((j : ProcId) → Calls p None k j → IsVisited after j)
    looked k i = subst (λ z. (Forks p z → ⊥) × ((j : ProcId) → Calls p None z j → IsVisited after j)) i (
      λ forks.
          let in_h = subst (λ (z : Procedure). ForksIn z.body) (same forks.0 forks.1) forks.2 in
          none (fork_from (sites [] h.body) in_h.0 (in_h.2).0 in_h.1 (in_h.2).1),
      λ j calls. m.all j ((callees_in_are None j h.body).1
          (subst (λ (z : Procedure). CallsIn None j z.body) (same calls.0 calls.1) calls.2)),
    )

-- one that has one
pub search_forks : (p : Program) (f : ProcId) (visited : List Bool) (queue rest : List ProcId) (g : ProcId)
    (h : Procedure) → queue ≡ rest ++ g ∷ [] → slice_get p.procedures g.0 ≡ Some h
    → IsSearch p f visited queue → HasFork (sites [] h.body) → IsSequential p f → ⊥
search_forks p f visited queue rest g h e there s has n =
    let here : IsVisited visited g = s.known g (subst (λ (z : List ProcId). Contains z g) (sym e) (Contains-push rest g)) in
    n (s.sound g here (directly (h, there, fork_at (sites [] h.body) has)))

-- with an empty queue no parallel call is reached
search_none : (p : Program) (f : ProcId) (visited : List Bool) → IsSearch p f visited [] → (g : ProcId)
    → IsVisited visited g → ReachesFork p g → ⊥
search_none p f visited s g v (directly forks) = elim (s.closed g v) [
  | inl c ↦ contains-nil g c
  | inr c ↦ c.0 forks
]
search_none p f visited s g v (through h calls rest) = elim (s.closed g v) [
  | inl c ↦ contains-nil g c
  | inr c ↦ search_none p f visited s h (c.1 h calls) rest
]

pub search_ends : (p : Program) (f : ProcId) (visited : List Bool) (queue : List ProcId) → length queue ≡ 0
    → IsSearch p f visited queue → IsSequential p f
search_ends p f visited [] e s = search_none p f visited s f s.first
search_ends p f visited (g ∷ queue) e s = absurd (omega (arith, e))
