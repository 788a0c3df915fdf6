-- A search backwards along calls: what one visit, many visited and a whole search give.
use Rattle.std.proofs.Common.{◌≡◌, ◌≢◌, cond, get_or, length-append, ◌⊎◌, ◌↔◌, ◌<◌, ◌≤◌, ◌+◌, ℕ, Bool, true, false, not, List, [], ◌∷◌, ◌++◌, length, Some, slice_get, Vec, Contains, All, refl, sym, ap, inl, inr, ◌∙◌, subst, arith}
use Rattle.std.proofs.lemmas.List.Elements.{Contains-append_cases, Contains-append_left, Contains-append_right, Contains-push, Contains-push_cases, Contains-get_or}
use Rattle.std.proofs.Math.ListN.{set, length-set}
use Rattle.std.proofs.lemmas.List.Quantifiers.{all_pairs_push}
use Rattle.std.proofs.lemmas.List.Sums.{sum_by-set}
use Rattle.std.proofs.lemmas.Option.{slice_get-get_or, slice_get_read, slice_get_within, same_Some}
use Rattle.std.proofs.lemmas.Bool.Decides.{eqb_tells}
use Rattle.std.specs.declared.alloc.Global.{Global}
use Rattle.sf_base.proofs.Lookup.{get-set_same, get-set_other}
use Rattle.sf_base.specs.declared.ids.ProcId.{ProcId}
use Rattle.sf_calls.specs.Reaches.{Reaches, directly, through}
use Rattle.sf_calls.specs.Checked.Visited.{IsVisited, IsCaller, VisitsMore, unvisited}

-- nothing is visited for none
pub visited_none : (visited : List Bool) (queue : List ProcId) → VisitsMore [] visited queue visited queue
visited_none visited queue = record {
  size = refl;
  kept = λ f m. m;
  all = λ f c. absurd (nothing f c);
  only = λ f m. inl m;
  queued = λ f c. c;
  known = λ f c. inl c;
  once = λ m o. o;
  spent = refl;
}
  where
    nothing : (f : ProcId) → Contains [] f → ⊥
    nothing f c = omega (arith, c.1)

-- one after the other
pub visited_both : (fs gs : List ProcId) (a : List Bool) (q : List ProcId) (b : List Bool) (r : List ProcId)
    (c : List Bool) (s : List ProcId)
    → VisitsMore fs a q b r → VisitsMore gs b r c s → VisitsMore (fs ++ gs) a q c s
visited_both fs gs a q b r c s m n = record {
  size = n.size ∙ m.size;
  kept = λ f h. n.kept f (m.kept f h);
  all = λ f h. elim (Contains-append_cases fs gs f h) [ inl x ↦ n.kept f (m.all f x) | inr y ↦ n.all f y ];
  only = λ f h. elim (n.only f h) [
    | inl x ↦
        elim (m.only f x) [ inl y ↦ inl y | inr y ↦ inr (Contains-append_left fs gs f y.0, n.queued f y.1) ]
    | inr x ↦ inr (Contains-append_right fs gs f x.0, x.1)
  ];
  queued = λ f h. n.queued f (m.queued f h);
  known = λ f h. elim (n.known f h) [
    | inl x ↦ elim (m.known f x) [ inl y ↦ inl y | inr y ↦ inr (n.kept f y) ]
    | inr x ↦ inr x
  ];
  once =
      λ visited o. n.once (λ f c. elim (m.known f c) [ inl x ↦ m.kept f (visited f x) | inr x ↦ x ])
      (m.once visited o);
  spent = n.spent ∙ m.spent;
}

-- what a search has done so far: it visited only what reaches there, and each caller of a visited
-- procedure that is not queued is visited
pub record IsSearch (direct : List Bool) (callers : List (Vec ProcId Global)) (visited : List Bool)
    (queue : List ProcId) : Type 0 where
  pub size : length visited ≡ length callers
  pub sound : (f : ProcId) → IsVisited visited f → Reaches (IsVisited direct) (IsCaller callers) f
  pub first : (f : ProcId) → IsVisited direct f → IsVisited visited f
  pub known : (f : ProcId) → Contains queue f → IsVisited visited f
  pub closed : (f g : ProcId) → IsCaller callers f g → IsVisited visited g
      → IsVisited visited f ⊎ Contains queue g

pub search_starts : (direct : List Bool) (callers : List (Vec ProcId Global)) (queue : List ProcId)
    → length direct ≡ length callers
    → ((f : ProcId) → Contains queue f ↔ IsVisited direct f) → IsSearch direct callers direct queue
search_starts direct callers queue e q = record {
  size = e;
  sound = λ f m. directly m;
  first = λ f m. m;
  known = λ f c. (q f).0 c;
  closed = λ f g c m. inr ((q g).1 m);
}

-- g is taken off the queue, and its callers are visited
pub search_goes_on : (direct : List Bool) (callers : List (Vec ProcId Global)) (visited : List Bool)
    (queue : List ProcId) (g : ProcId) (fs : Vec ProcId Global) (after : List Bool) (longer : List ProcId)
    → slice_get callers g.0 ≡ Some fs → VisitsMore fs.items visited queue after longer
    → IsSearch direct callers visited (queue ++ g ∷ []) → IsSearch direct callers after longer
search_goes_on direct callers visited queue g fs after longer here more s = record {
  size = more.size ∙ s.size;
  sound = λ f m. elim (more.only f m) [
    | inl x ↦ s.sound f x
    | inr x ↦ through g (fs, here, x.0) (s.sound g (s.known g (Contains-push queue g)))
  ];
  first = λ f m. more.kept f (s.first f m);
  known =
      λ f c. elim
      (more.known f c) [
        | inl x ↦ more.kept f (s.known f (Contains-append_left queue (g ∷ []) f x))
        | inr x ↦ x
      ];
  closed = λ f h c m. elim (more.only h m) [
    | inl x ↦ elim (s.closed f h c x) [
      | inl y ↦ inl (more.kept f y)
      | inr y ↦ elim (Contains-push_cases queue g h y) [
        | inl z ↦ inr (more.queued h z)
        | inr z ↦ inl (more.all f (same_callers f h z c))
      ]
    ]
    | inr x ↦ inr x.1
  ];
}
  where
    same_callers : (f h : ProcId) → g ≡ h → IsCaller callers f h → Contains fs.items f
    same_callers f h e c =
        let both : Some fs ≡ Some c.0 = sym here ∙ ap (λ (k : ProcId). slice_get callers k.0) e ∙ c.1 in
        let one : c.0 ≡ fs = cc in
        subst (λ (v : Vec ProcId Global). Contains v.items f) one c.2

-- with an empty queue all that reaches there is visited
pub search_ends : (direct : List Bool) (callers : List (Vec ProcId Global)) (visited : List Bool)
    (queue : List ProcId)
    → length queue ≡ 0 → IsSearch direct callers visited queue
    → (f : ProcId) → Reaches (IsVisited direct) (IsCaller callers) f → IsVisited visited f
search_ends direct callers visited queue empty s f (directly d) = s.first f d
search_ends direct callers visited queue empty s f (through g c rest) =
    elim (s.closed f g c (search_ends direct callers visited queue empty s g rest)) [
      | inl x ↦ x
      | inr x ↦ absurd (let none : x.0 < length queue = x.1 in omega arith)
    ]

-- what is queued is a procedure
pub queued_within : (direct : List Bool) (callers : List (Vec ProcId Global)) (visited : List Bool)
    (queue rest : List ProcId) (g : ProcId)
    → queue ≡ rest ++ g ∷ [] → IsSearch direct callers visited queue → g.0 < length callers
queued_within direct callers visited queue rest g e s =
    let here : IsVisited visited g = s.known g (rw e (Contains-push rest g)) in
    let below : g.0 < length visited = slice_get_within visited g.0 true here in
    omega (arith, below, s.size)

-- and its callers are
pub callers_within : (direct : List Bool) (callers : List (Vec ProcId Global)) (visited : List Bool)
    (queue : List ProcId) (g : ProcId) (fs : Vec ProcId Global)
    → ((f h : ProcId) → IsCaller callers f h → f.0 < length callers) → slice_get callers g.0 ≡ Some fs
    → IsSearch direct callers visited queue → All (λ f. f.0 < length visited) fs.items
callers_within direct callers visited queue g fs within here s k d below =
    let caller : (get_or fs.items k d).0 < length callers = within (get_or fs.items k d) g
    (fs, here, Contains-get_or fs.items k d below) in
    omega (arith, caller, s.size)

-- a procedure by its number
abbrev pub proc : ℕ → ProcId
proc n = record { 0 = n }

pub one_of : (f g : ProcId) → f.0 ≡ g.0 → Contains (f ∷ []) g
one_of f g e = let same : f ≡ g = ap proc e in (0, omega arith, same)

pub only_one : (f g : ProcId) → Contains (f ∷ []) g → f ≡ g
only_one f g c =
    elim (Contains-push_cases [] f g c) [
      | inl x ↦ absurd (let none : x.0 < 0 = x.1 in omega arith)
      | inr x ↦ x
    ]

pub unvisited-set : (visited : List Bool) (i : ℕ) (b : Bool) → i < length visited → b ≡ get_or visited i b
    → b ≡ false → unvisited (set visited i true) + 1 ≡ unvisited visited
unvisited-set visited i b h e not_yet =
    let was : get_or visited i b ≡ false = sym e ∙ not_yet in
    let all = sum_by-set (λ (m : Bool). cond (not m) 1 0) visited i true b h in
    omega (arith, rw was at all)

-- a procedure that was not visited is visited and queued
pub visit_new : (visited : List Bool) (queue : List ProcId) (f : ProcId) (b : Bool) → f.0 < length visited
    → b ≡ get_or visited f.0 b → b ≡ false
    → VisitsMore (f ∷ []) visited queue (set visited f.0 true) (queue ++ f ∷ [])
visit_new visited queue f b h e not_yet = record {
  size = length-set _ _ _;
  kept = kept;
  all = λ g c. now g (only_one f g c);
  only = λ g m. elim (eqb_tells g.0 f.0) [
    | inl x ↦ inr (one_of f g (sym x.1), Contains-append_right queue (f ∷ []) g (one_of f g (sym x.1)))
    | inr x ↦ inl (sym (get-set_other visited f.0 g.0 true x.1) ∙ m)
  ];
  queued = λ g c. Contains-append_left queue (f ∷ []) g c;
  known = λ g c. elim (Contains-push_cases queue f g c) [ inl x ↦ inl x | inr x ↦ inr (now g x) ];
  once =
      λ had o. all_pairs_push (λ g h. g ≢ h) queue f o
      (λ k d below e. not_yet_visited (subst (IsVisited visited) e
      (had (get_or queue k d) (Contains-get_or queue k d below))));
  spent =
      let less : unvisited (set visited f.0 true) + 1 ≡ unvisited visited =
      unvisited-set visited f.0 b h e not_yet in
      omega (arith, less, length-append queue (f ∷ []));
}
  where
    now : (g : ProcId) → f ≡ g → IsVisited (set visited f.0 true) g
    now g same =
        subst (λ (k : ProcId). IsVisited (set visited f.0 true) k) same (get-set_same visited f.0 true h)

    not_yet_visited : IsVisited visited f → ⊥
    not_yet_visited m =
        let here : slice_get visited f.0 ≡ Some b = slice_get_read visited (length visited) f.0 b refl h e in
        let both : true ≡ false = same_Some true b (sym m ∙ here) ∙ not_yet in
        cc

    kept : (g : ProcId) → IsVisited visited g → IsVisited (set visited f.0 true) g
    kept g m = elim (eqb_tells g.0 f.0) [
      | inl x ↦ now g (ap proc (sym x.1))
      | inr x ↦ get-set_other visited f.0 g.0 true x.1 ∙ m
    ]

-- a procedure that was visited stays so
pub visit_old : (visited : List Bool) (queue : List ProcId) (f : ProcId) (b : Bool) → f.0 < length visited
    → b ≡ get_or visited f.0 b → b ≡ true
    → VisitsMore (f ∷ []) visited queue visited queue
visit_old visited queue f b h e was = record {
  size = refl;
  kept = λ g m. m;
  all = λ g c. subst (λ (k : ProcId). IsVisited visited k) (only_one f g c) is;
  only = λ g m. inl m;
  queued = λ g c. c;
  known = λ g c. inl c;
  once = λ visited o. o;
  spent = refl;
}
  where
    is : IsVisited visited f
    is = slice_get_read visited (length visited) f.0 b refl h e ∙ ap Some was

-- the visited procedures below i
abbrev pub IsFound : List Bool → List ProcId → ℕ → Type 0
IsFound visited found i = (f : ProcId) → Contains found f ↔ ((f.0 < i) × IsVisited visited f)

pub found_one : (visited : List Bool) (found : List ProcId) (i : ℕ) → i < length visited
    → get_or visited i false ≡ true → IsFound visited found i
    → IsFound visited (found ++ proc i ∷ []) (i + 1)
found_one visited found i h e is f = (to, from)
  where
    here : IsVisited visited (proc i)
    here = slice_get-get_or visited i false h ∙ ap Some e

    to : Contains (found ++ proc i ∷ []) f → (f.0 < i + 1) × IsVisited visited f
    to c = elim (Contains-push_cases found (proc i) f c) [
      | inl x ↦ (let old : f.0 < i = ((is f).0 x).0 in omega arith, ((is f).0 x).1)
      | inr x ↦ (
        let eq : i ≡ f.0 = ap (λ (k : ProcId). k.0) x in
            omega arith,
        subst (λ (k : ProcId). IsVisited visited k) x here,
      )
    ]

    from : (f.0 < i + 1) × IsVisited visited f → Contains (found ++ proc i ∷ []) f
    from m = elim (eqb_tells f.0 i) [
      | inl x ↦ Contains-append_right found (proc i ∷ []) f (one_of (proc i) f (sym x.1))
      | inr x ↦
          Contains-append_left found (proc i ∷ []) f ((is f).1 (
            let below : f.0 < i + 1 = m.0 in
                let other : f.0 ≢ i = x.1 in omega arith,
            m.1,
          ))
    ]

pub found_none : (visited : List Bool) (found : List ProcId) (i : ℕ) → i < length visited
    → get_or visited i false ≡ false → IsFound visited found i → IsFound visited found (i + 1)
found_none visited found i h e is f =
    (λ c. (let old : f.0 < i = ((is f).0 c).0 in omega arith, ((is f).0 c).1), from)
  where
    not_here : f.0 ≡ i → IsVisited visited f → ⊥
    not_here same m =
        let here : slice_get visited f.0 ≡ Some false = ap (slice_get visited) same
        ∙ slice_get-get_or visited i false h ∙ ap Some e in
        let one : true ≡ false = same_Some true false (sym m ∙ here) in
        cc

    from : (f.0 < i + 1) × IsVisited visited f → Contains found f
    from m = elim (eqb_tells f.0 i) [
      | inl x ↦ absurd (not_here x.1 m.1)
      | inr x ↦ (is f).1 (let below : f.0 < i + 1 = m.0 in let other : f.0 ≢ i = x.1 in omega arith, m.1)
    ]

-- all were looked at
pub found_all : (visited : List Bool) (found : List ProcId) (i : ℕ) → length visited ≤ i
    → IsFound visited found i → (f : ProcId) → Contains found f ↔ IsVisited visited f
found_all visited found i past is f = (
  λ c. ((is f).0 c).1,
  λ m. (is f).1 (
    let below : f.0 < length visited = slice_get_within visited f.0
        true m in omega arith,
    m,
  ),
)
