-- Nothing comes earlier than the first breach: the procedures before its own have none, nor have the commands
-- before its own, and at its own command the questions come in the order of the kinds.
-- Names: `LIST-from` says where in a list of that form the first one is.
use Rattle.std.proofs.Common.{◌≡◌, ◌⊎◌, ◌<◌, ◌≤◌, ◌+◌, ℕ, zero, suc, List, [], ◌∷◌, ◌++◌, map, slice_get, Option, Some, None, Contains, refl, sym, ap, inl, inr, ◌∙◌, subst, arith}
use Rattle.std.specs.List.{flat_map}
use Rattle.std.proofs.lemmas.List.Elements.{Contains-append_cases}
use Rattle.std.proofs.lemmas.Option.{none-some, same_Some}
use Rattle.sf_base.proofs.Elements.{contains-nil, contains-cons}
use Rattle.sf_base.proofs.Members.{contains-map_from, contains-flat_map_from}
use Rattle.sf_base.specs.declared.ids.ProcId.{ProcId}
use Rattle.sf_core.specs.declared.command.Occurrence.{Occurrence}
use Rattle.sf_core.specs.Program.Formed.{IsFormed}
use Rattle.sf_core.specs.Program.Heads.{Site, sites, head_calls, head_forks, head_occurrences, head_regions, call_occurrences}
use Rattle.sf_core.specs.Program.Places.{place_of}
use Rattle.sf_core.specs.Program.Syntax.{Command, Procedure, Program}
use Rattle.sf_calls.specs.declared.breach.Breach.{Breach}
use Rattle.sf_calls.specs.Breaks.{BreaksAt}
use Rattle.sf_calls.specs.First.{IsFirst}
use Rattle.sf_calls.specs.FirstBreach.{Question, occurs, frees, enters, takes, repeats, passes, shares, breach_of, IsBroken, IsNo, told, resources_from, variables_from, call_uses, call_takes, repeats_after, fork_shares, uses_questions, enters_questions, repeats_questions, passes_questions, shares_questions, head_questions, site_questions, questions_from}
use Rattle.sf_calls.specs.Checked.Lemmas.Broken.{asked_break, break_asked}
use Rattle.sf_calls.specs.Checked.Lemmas.Firsts.{first-found, none-of}
use Rattle.sf_calls.specs.Checked.Lemmas.InOrder.{Ordered, ordered_append}
use Rattle.sf_calls.specs.Checked.Lemmas.Searches.{proc}
use Rattle.sf_vars.specs.Earlier.{kind_of, IsEarlierBreach, IsLocated, Located}
use Rattle.sf_vars.specs.Checked.Laws.{NothingComesEarlier}
use Rattle.sf_vars.proofs.Meets.{FirstOf}

append-from : {A X : Type 0} (P : X → Type 0) (f : X → A) (xs ys : List X) (a : A)
    → IsFirst P f (xs ++ ys) (Some a)
    → IsFirst P f xs (Some a) ⊎ (IsFirst P f xs None × IsFirst P f ys (Some a))
append-from P f [] ys a h = inr (tt, h)
append-from P f (x ∷ xs) ys a (inl h) = inl (inl h)
append-from P f (x ∷ xs) ys a (inr h) = elim (append-from P f xs ys a h.1) [
  | inl k ↦ inl (inr (h.0, k))
  | inr k ↦ inr ((h.0, k.0), k.1)
]

map-from : {A X Y : Type 0} (P : Y → Type 0) (f : Y → A) (g : X → Y) (xs : List X) (o : Option A)
    → IsFirst P f (map g xs) o → IsFirst (λ x. P (g x)) (λ x. f (g x)) xs o
map-from P f g [] o h = h
map-from P f g (x ∷ xs) None h = (h.0, map-from P f g xs None h.1)
map-from P f g (x ∷ xs) (Some a) (inl h) = inl h
map-from P f g (x ∷ xs) (Some a) (inr h) = inr (h.0, map-from P f g xs (Some a) h.1)

flat_map-from : {A X Y : Type 0} (P : Y → Type 0) (f : Y → A) (g : X → List Y) (xs : List X) (a : A)
    → IsFirst P f (flat_map g xs) (Some a)
    → (i : ℕ) × (x : X) × (slice_get xs i ≡ Some x) × IsFirst P f (g x) (Some a)
    × ((j : ℕ) (y : X) → slice_get xs j ≡ Some y → j < i → IsFirst P f (g y) None)
flat_map-from P f g [] a h = absurd h
flat_map-from {A} {X} {Y} P f g (x ∷ xs) a h = elim (append-from P f (g x) (flat_map g xs) a h) [
  | inl k ↦ (0, x, refl, k, λ j y at l. absurd (omega (arith, l)))
  | inr k ↦
      let r = flat_map-from P f g xs a k.1 in
      (suc r.0, r.1, r.2, r.3, λ j y at l. before r.0 k.0 r.4 j y at l)
]
  where
    before : (i : ℕ) → IsFirst P f (g x) None
        → ((j : ℕ) (y : X) → slice_get xs j ≡ Some y → j < i → IsFirst P f (g y) None)
        → (j : ℕ) (y : X) → slice_get (x ∷ xs) j ≡ Some y → j < suc i → IsFirst P f (g y) None
    before i n rest zero y at l = subst (λ (z : X). IsFirst P f (g z) None) (same_Some x y at) n
    before i n rest (suc j) y at l = rest j y at (omega (arith, l))

-- what is found is told with the number of the procedure
numbered-from : {X : Type 0} (P : X → Type 0) (g : X → Breach) (f : ProcId) (xs : List X) (e : ProcId × Breach)
    → IsFirst {A = ProcId × Breach} P (λ x. (f, g x)) xs (Some e) → (f ≡ e.0) × IsFirst P g xs (Some e.1)
numbered-from P g f [] e h = absurd h
numbered-from P g f (x ∷ xs) e (inl h) = (
  sym (ap (λ (t : ProcId × Breach). t.0) h.1),
  inl (h.0, ap (λ (t : ProcId × Breach). t.1) h.1),
)
numbered-from P g f (x ∷ xs) e (inr h) = let r = numbered-from P g f xs e h.1 in (r.0, inr (h.0, r.1))

numbered-none : {X : Type 0} (P : X → Type 0) (g : X → Breach) (f : ProcId) (xs : List X)
    → IsFirst {A = ProcId × Breach} P (λ x. (f, g x)) xs None → IsFirst P g xs None
numbered-none P g f [] h = tt
numbered-none P g f (x ∷ xs) h = (h.0, numbered-none P g f xs h.1)

-- the first is in some procedure, and those before it have none
procedures-from : (p : Program) (k : ℕ) (hs : List Procedure) (e : ProcId × Breach)
    → IsFirst (IsNo p) told (questions_from p k hs) (Some e)
    → (i : ℕ) × (h : Procedure) × (slice_get hs i ≡ Some h) × (proc (k + i) ≡ e.0)
    × FirstOf p e.0 (sites [] h.body) (Some e.1)
    × ((j : ℕ) (g : Procedure) → slice_get hs j ≡ Some g → j < i
    → FirstOf p (proc (k + j)) (sites [] g.body) None)
procedures-from p k [] e h = absurd h
procedures-from p k (g ∷ gs) e h =
    elim (append-from (IsNo p) told (map (λ q. (proc k, q)) here) (questions_from p (suc k) gs) e h) [
      | inl m ↦
          let r = numbered-from (λ q. IsBroken p (proc k) q.0 q.1) (λ q. breach_of q.1) (proc k) here e
          (map-from (IsNo p) told (λ q. (proc k, q)) here (Some e) m) in (
            0,
            g,
            refl,
            ap proc (let z : k + 0 ≡ k = omega arith in z) ∙ r.0,
            subst (λ (f : ProcId). FirstOf p f (sites [] g.body) (Some e.1)) r.0 r.1,
            λ j q at l. absurd (omega (arith, l)),
          )
      | inr m ↦
          let r = procedures-from p (suc k) gs e m.1 in (
            suc r.0,
            r.1,
            r.2,
            ap proc (let z : k + suc r.0 ≡ suc k + r.0 = omega arith in z) ∙ r.3,
            r.4,
            λ j q at l. before r.0 m.0 r.5 j q at l,
          )
    ]
  where
    here : List (Site × Question)
    here = site_questions p (sites [] g.body)

    before : (i : ℕ) → IsFirst (IsNo p) told (map (λ q. (proc k, q)) here) None
        → ((j : ℕ) (q : Procedure) → slice_get gs j ≡ Some q → j < i
        → FirstOf p (proc (suc k + j)) (sites [] q.body) None)
        → (j : ℕ) (q : Procedure) → slice_get (g ∷ gs) j ≡ Some q → j < suc i
        → FirstOf p (proc (k + j)) (sites [] q.body) None
    before i n rest zero q at l =
        let z : k ≡ k + 0 = omega arith in
        subst (λ (m : ℕ). FirstOf p (proc m) (sites [] q.body) None) z
        (subst (λ (t : Procedure). FirstOf p (proc k) (sites [] t.body) None) (same_Some g q at)
        (numbered-none (λ q. IsBroken p (proc k) q.0 q.1) (λ q. breach_of q.1) (proc k) here
        (map-from (IsNo p) told (λ q. (proc k, q)) here None n)))
    before i n rest (suc j) q at l =
        let z : suc k + j ≡ k + suc j = omega arith in
        subst (λ (m : ℕ). FirstOf p (proc m) (sites [] q.body) None) z (rest j q at (omega (arith, l)))

-- the questions of a command, by kind
abbrev kind : Question → ℕ
kind q = kind_of (breach_of q)

abbrev Later : Question → Question → Type 0
Later q r = kind q ≤ kind r

-- all of these are of kinds between those
abbrev Kinds : (low high : ℕ) → List Question → Type 0
Kinds low high qs = (q : Question) → Contains qs q → (low ≤ kind q) × (kind q ≤ high)

kinds-map : {X : Type 0} (n : ℕ) (g : X → Question) → ((x : X) → kind (g x) ≡ n) → (xs : List X)
    → Kinds n n (map g xs)
kinds-map n g same xs q c =
    let x = contains-map_from g xs q c in
    let is : kind q ≡ n = ap kind (sym x.2) ∙ same x.0 in
    (omega (arith, is), omega (arith, is))

kinds-append : (low high : ℕ) (xs ys : List Question) → Kinds low high xs → Kinds low high ys
    → Kinds low high (xs ++ ys)
kinds-append low high xs ys h k q c = elim (Contains-append_cases xs ys q c) [ inl m ↦ h q m | inr m ↦ k q m ]

kinds-flat_map : {X : Type 0} (low high : ℕ) (g : X → List Question) → ((x : X) → Kinds low high (g x))
    → (xs : List X) → Kinds low high (flat_map g xs)
kinds-flat_map low high g each xs q c =
    let x = contains-flat_map_from g xs q c in each x.0 q x.2

kinds-repeats : (before xs : List Occurrence) → Kinds 32 32 (repeats_after before xs)
kinds-repeats before [] q c = absurd (contains-nil q c)
kinds-repeats before (x ∷ xs) q c = elim ((contains-cons (repeats before x) _ q).0 c) [
  | inl e ↦
      let is : kind q ≡ 32 = ap kind (sym e) in (omega (arith, is), omega (arith, is))
  | inr k ↦ kinds-repeats (before ++ x ∷ []) xs q k
]

kinds-more : (low high down up : ℕ) (qs : List Question) → down ≤ low → high ≤ up → Kinds low high qs
    → Kinds down up qs
kinds-more low high down up qs d u h q c =
    let k = h q c in (let l : low ≤ kind q = k.0 in omega (arith, d, l), let l : kind q ≤ high = k.1 in omega (arith, u, l))

ordered-kind : (n : ℕ) (qs : List Question) → Kinds n n qs → Ordered Later qs
ordered-kind n [] h = tt
ordered-kind n (q ∷ qs) h = (
  λ r c. let first = h q ((contains-cons q qs q).1 (inl refl)) in
      let other = h r ((contains-cons q qs r).1 (inr c)) in
      let up : kind q ≤ n = first.1 in
      let down : n ≤ kind r = other.0 in
      omega (arith, up, down),
  ordered-kind n qs (λ r c. h r ((contains-cons q qs r).1 (inr c))),
)

-- a list of one kind before one of later kinds
ordered-kinds : (n high : ℕ) (xs ys : List Question) → Kinds n n xs → Kinds (suc n) high ys → Ordered Later ys
    → Ordered Later (xs ++ ys)
ordered-kinds n high xs ys h k o =
    ordered_append Later xs ys (ordered-kind n xs h) o
    (λ q r c d. let up : kind q ≤ n = (h q c).1 in let down : suc n ≤ kind r = (k r d).0 in
    omega (arith, up, down))

ordered-questions : (p : Program) (c : Command) → Ordered Later (head_questions p c)
ordered-questions p c =
    ordered-kinds 30 34 (uses_questions p c) _ uses_kinds
    (kinds-append 31 34 (enters_questions p c) _ (wide 31 (enters_questions p c) (omega arith) (omega arith) enters_kinds)
    (kinds-append 31 34 (repeats_questions c) _ (wide 32 (repeats_questions c) (omega arith) (omega arith) repeats_kinds)
    (kinds-append 31 34 (passes_questions c) _ (wide 33 (passes_questions c) (omega arith) (omega arith) passes_kinds)
    (wide 34 (shares_questions p c) (omega arith) (omega arith) shares_kinds))))
    (ordered-kinds 31 34 (enters_questions p c) _ enters_kinds
    (kinds-append 32 34 (repeats_questions c) _ (kinds-more 32 32 32 34 (repeats_questions c) (omega arith) (omega arith) repeats_kinds)
    (kinds-append 32 34 (passes_questions c) _ (kinds-more 33 33 32 34 (passes_questions c) (omega arith) (omega arith) passes_kinds)
    (kinds-more 34 34 32 34 (shares_questions p c) (omega arith) (omega arith) shares_kinds)))
    (ordered-kinds 32 34 (repeats_questions c) _ repeats_kinds
    (kinds-append 33 34 (passes_questions c) _ (kinds-more 33 33 33 34 (passes_questions c) (omega arith) (omega arith) passes_kinds)
    (kinds-more 34 34 33 34 (shares_questions p c) (omega arith) (omega arith) shares_kinds))
    (ordered-kinds 33 34 (passes_questions c) (shares_questions p c) passes_kinds shares_kinds
    (ordered-kind 34 (shares_questions p c) shares_kinds))))
  where
    wide : (n : ℕ) (qs : List Question) → 31 ≤ n → n ≤ 34 → Kinds n n qs → Kinds 31 34 qs
    wide n qs d u h = kinds-more n n 31 34 qs d u h

    uses_kinds : Kinds 30 30 (uses_questions p c)
    uses_kinds =
        kinds-append 30 30 (map occurs (head_occurrences c)) _
        (kinds-map 30 occurs (λ x. refl) (head_occurrences c))
        (kinds-flat_map 30 30 (call_uses p) (λ d.
        kinds-append 30 30 (map (frees d) (variables_from 0 p.resources)) _
        (kinds-map 30 (frees d) (λ x. refl) (variables_from 0 p.resources))
        (kinds-map 30 occurs (λ x. refl) (call_occurrences d))) (head_calls c))

    enters_kinds : Kinds 31 31 (enters_questions p c)
    enters_kinds =
        kinds-append 31 31 (map (enters (place_of c)) (head_regions c)) _
        (kinds-map 31 (enters (place_of c)) (λ r. refl) (head_regions c))
        (kinds-flat_map 31 31 (call_takes p)
        (λ d. kinds-map 31 (takes d) (λ r. refl) (resources_from 0 p.resources)) (head_calls c))

    repeats_kinds : Kinds 32 32 (repeats_questions c)
    repeats_kinds =
        kinds-flat_map 32 32 (λ d. repeats_after [] d.references) (λ d. kinds-repeats [] d.references)
        (head_calls c)

    passes_kinds : Kinds 33 33 (passes_questions c)
    passes_kinds =
        kinds-flat_map 33 33 (λ d. map (passes d) d.references)
        (λ d. kinds-map 33 (passes d) (λ x. refl) d.references) (head_calls c)

    shares_kinds : Kinds 34 34 (shares_questions p c)
    shares_kinds =
        kinds-flat_map 34 34 (λ e. fork_shares p e.0 e.1) (λ e.
        kinds-append 34 34 (map (λ x. shares e.0 e.1 x.var) (call_occurrences e.0)) _
        (kinds-map 34 (λ x. shares e.0 e.1 x.var) (λ x. refl) (call_occurrences e.0))
        (kinds-append 34 34 (map (λ x. shares e.0 e.1 x.var) (call_occurrences e.1)) _
        (kinds-map 34 (λ x. shares e.0 e.1 x.var) (λ x. refl) (call_occurrences e.1))
        (kinds-map 34 (shares e.0 e.1) (λ x. refl) (variables_from 0 p.resources)))) (head_forks c)

-- the first of an ordered list is before whatever else is so
first-least : {A X : Type 0} (B : X → X → Type 0) (P : X → Type 0) (f : X → A) (xs : List X) (a : A)
    → Ordered B xs → IsFirst P f xs (Some a)
    → (x : X) × (a ≡ f x) × ((y : X) → Contains xs y → P y → (x ≡ y) ⊎ B x y)
first-least B P f [] a o h = absurd h
first-least B P f (x ∷ xs) a o (inl h) = (
  x,
  h.1,
  λ y c k. elim ((contains-cons x xs y).0 c) [ inl e ↦ inl e | inr m ↦ inr (o.0 y m) ],
)
first-least {A} {X} B P f (x ∷ xs) a o (inr h) = let r = first-least B P f xs a o.1 h.1 in (
  r.0,
  r.1,
  λ y c k. elim ((contains-cons x xs y).0 c) [
    | inl e ↦ absurd (h.0 (subst P (sym e) k))
    | inr m ↦ r.2 y m k
  ],
)

-- where nothing comes first at a site nothing is broken there
nothing_at : (p : Program) → IsFormed p → (f : ProcId) (s : Site) (b : Breach)
    → IsFirst (IsBroken p f s) breach_of (head_questions p s.command) None → BreaksAt p f b s → ⊥
nothing_at p formed f s b n k =
    let q = break_asked p formed f s b k in
    none-of (IsBroken p f s) breach_of (head_questions p s.command) n q.0 q.1 q.2

abbrev at_site : Program → Site → List (Site × Question)
at_site p s = map (λ q. (s, q)) (head_questions p s.command)

nothing_in : (p : Program) → IsFormed p → (f : ProcId) (ss : List Site) → FirstOf p f ss None → (k : ℕ)
    (s : Site) (b : Breach)
    → slice_get ss k ≡ Some s → BreaksAt p f b s → ⊥
nothing_in p formed f [] n k s b at broken = none-some s at
nothing_in p formed f (t ∷ ts) n zero s b at broken =
    nothing_at p formed f t b
    (map-from (λ e. IsBroken p f e.0 e.1) (λ e. breach_of e.1) (λ q. (t, q)) (head_questions p t.command) None
    (left (at_site p t) (site_questions p ts) n))
    (subst (BreaksAt p f b) (sym (same_Some t s at)) broken)
  where
    left : (xs ys : List (Site × Question))
        → IsFirst (λ e. IsBroken p f e.0 e.1) (λ e. breach_of e.1) (xs ++ ys) None
        → IsFirst (λ e. IsBroken p f e.0 e.1) (λ e. breach_of e.1) xs None
    left [] ys h = tt
    left (x ∷ xs) ys h = (h.0, left xs ys h.1)
nothing_in p formed f (t ∷ ts) n (suc k) s b at broken =
    nothing_in p formed f ts (right (at_site p t) (site_questions p ts) n) k s b at broken
  where
    right : (xs ys : List (Site × Question))
        → IsFirst (λ e. IsBroken p f e.0 e.1) (λ e. breach_of e.1) (xs ++ ys) None
        → IsFirst (λ e. IsBroken p f e.0 e.1) (λ e. breach_of e.1) ys None
    right [] ys h = h
    right (x ∷ xs) ys h = right xs ys h.1

pub nothing_earlier : NothingComesEarlier
nothing_earlier p f b formed first = (
  at.0,
  record { body = r.1; there = there; site = at.1; at = at.2; breaks = breaks },
  never,
)
  where
    r : (i : ℕ) × (h : Procedure) × (slice_get p.procedures i ≡ Some h) × (proc (0 + i) ≡ f)
        × FirstOf p f (sites [] h.body) (Some b)
        × ((j : ℕ) (g : Procedure) → slice_get p.procedures j ≡ Some g → j < i
        → FirstOf p (proc (0 + j)) (sites [] g.body) None)
    r = procedures-from p 0 p.procedures (f, b) first

    number : r.0 ≡ f.0
    number = let e : 0 + r.0 ≡ f.0 = ap (λ (g : ProcId). g.0) r.3 in omega (arith, e)

    there : slice_get p.procedures f.0 ≡ Some r.1
    there = ap (slice_get p.procedures) (sym number) ∙ r.2

    at : (i : ℕ) × (s : Site) × (slice_get (sites [] r.1.body) i ≡ Some s)
        × IsFirst (λ e. IsBroken p f e.0 e.1) (λ e. breach_of e.1) (at_site p s) (Some b)
        × ((j : ℕ) (t : Site) → slice_get (sites [] r.1.body) j ≡ Some t → j < i
        → IsFirst (λ e. IsBroken p f e.0 e.1) (λ e. breach_of e.1) (at_site p t) None)
    at =
        flat_map-from (λ e. IsBroken p f e.0 e.1) (λ e. breach_of e.1) (at_site p) (sites [] r.1.body) b r.4

    here : IsFirst (IsBroken p f at.1) breach_of (head_questions p at.1.command) (Some b)
    here =
        map-from (λ e. IsBroken p f e.0 e.1) (λ e. breach_of e.1) (λ q. (at.1, q))
        (head_questions p at.1.command) (Some b) at.3

    breaks : BreaksAt p f b at.1
    breaks =
        let q = first-found (IsBroken p f at.1) breach_of (head_questions p at.1.command) b here in
        subst (λ (c : Breach). BreaksAt p f c at.1) (sym q.3) (asked_break p f at.1 q.0 q.1 q.2)

    -- what is at the first one's command is of no earlier kind
    same_command : (c : Breach) → BreaksAt p f c at.1 → kind_of c < kind_of b → ⊥
    same_command c k less =
        let least = first-least Later (IsBroken p f at.1) breach_of (head_questions p at.1.command) b
        (ordered-questions p at.1.command) here in
        let q = break_asked p formed f at.1 c k in
        let first_kind : kind_of b ≡ kind least.0 = ap kind_of least.1 in
        let other_kind : kind_of c ≡ kind q.0 = ap kind_of q.3 in
        elim (least.2 q.0 q.1 q.2) [
          | inl e ↦ let one : kind least.0 ≡ kind q.0 = ap kind e in omega (arith, less, first_kind, other_kind, one)
          | inr l ↦ omega (arith, less, first_kind, other_kind, l)
        ]

    -- one in the first one's procedure
    same_procedure : (d : Located) → IsLocated p d → d.procedure ≡ f
        → (d.command < at.0) ⊎ ((d.command ≡ at.0) × (kind_of d.breach < kind_of b)) → ⊥
    same_procedure d l e (inl less) =
        let body : l.body ≡ r.1 = same_Some l.body r.1
        (sym l.there ∙ ap (λ (g : ProcId). slice_get p.procedures g.0) e ∙ there) in
        let place : slice_get (sites [] r.1.body) d.command
        ≡ Some l.site = ap (λ (h : Procedure). slice_get (sites [] h.body) d.command) (sym body) ∙ l.at in
        nothing_at p formed f l.site d.breach
        (map-from (λ e. IsBroken p f e.0 e.1) (λ e. breach_of e.1) (λ q. (l.site, q))
        (head_questions p l.site.command) None (at.4 d.command l.site place less))
        (subst (λ (g : ProcId). BreaksAt p g d.breach l.site) e l.breaks)
    same_procedure d l e (inr (same, less)) =
        let body : l.body ≡ r.1 = same_Some l.body r.1
        (sym l.there ∙ ap (λ (g : ProcId). slice_get p.procedures g.0) e ∙ there) in
        let place : slice_get (sites [] r.1.body) at.0
        ≡ Some l.site = ap (slice_get (sites [] r.1.body)) (sym same)
        ∙ ap (λ (h : Procedure). slice_get (sites [] h.body) d.command) (sym body) ∙ l.at in
        let site : l.site ≡ at.1 = same_Some l.site at.1 (sym place ∙ at.2) in
        same_command d.breach
        (subst (BreaksAt p f d.breach) site
        (subst (λ (g : ProcId). BreaksAt p g d.breach l.site) e l.breaks)) less

    never : (d : Located) → IsLocated p d
        → IsEarlierBreach d (record { procedure = f; command = at.0; breach = b }) → ⊥
    never d l (inl less) =
        let e : proc (0 + d.procedure.0) ≡ d.procedure =
        ap proc (let z : 0 + d.procedure.0 ≡ d.procedure.0 = omega arith in z) in
        nothing_in p formed d.procedure (sites [] l.body.body)
        (subst (λ (g : ProcId). FirstOf p g (sites [] l.body.body) None) e
        (r.5 d.procedure.0 l.body l.there (omega (arith, less, number)))) d.command l.site d.breach l.at
        l.breaks
    never d l (inr (same, h)) = same_procedure d l same h
