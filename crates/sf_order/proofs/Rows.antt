-- Marks, what commands may enter, and the pairs that come of both.
-- Names: `marks-LAW` of marks, `site-LAW` of the commands of all bodies, `row-LAW` of a row, `pairs-LAW` of pairs.
use Rattle.std.specs.Prelude.{◌≡◌, ◌⊎◌, ◌↔◌, ℕ, ◌+◌, ◌<◌, ◌≤◌, Bool, true, false, List, [], ◌∷◌, ◌++◌, All, AllPairs, Contains, Some, get_or, length, slice_get}
use Rattle.std.specs.List.{flat_map}
use Rattle.std.proofs.Common.{sym, ap, ap₂, ◌∙◌, subst, inl, inr, arith}
use Rattle.std.proofs.lemmas.List.Elements.{All-contains, All-contains_itself, Contains-append_cases, Contains-append_left, Contains-append_right, Contains-push, Contains-push_cases}
use Rattle.std.proofs.lemmas.List.Quantifiers.{all_pairs_push}
use Rattle.std.proofs.lemmas.Option.{same_Some, slice_get-get_or, slice_get_within, get_or_from_slice_get}
use Rattle.sf_base.proofs.Elements.{contains-cons, contains-nil}
use Rattle.sf_base.proofs.Members.{contains-flat_map, contains-flat_map_from}
use Rattle.sf_base.specs.declared.ids.ProcId.{ProcId}
use Rattle.sf_base.specs.declared.ids.ResId.{ResId}
use Rattle.sf_core.proofs.HeadsWithin.{calls-within, regions-within, sites-within}
use Rattle.sf_core.specs.Program.Formed.{BlockWithin, CommandWithin, IsFormed}
use Rattle.sf_core.specs.Program.Heads.{Site, head_calls, head_regions, inner_sites, sites}
use Rattle.sf_core.specs.Program.Syntax.{Call, Command, assign, look_up, mutate, new, dispose, if, while, call, fork, with, Block, done, then, Procedure, Program}
use Rattle.sf_calls.specs.Conditions.{Takes}
use Rattle.sf_calls.specs.Sets.{AreSetsOf, Sets}
use Rattle.sf_calls.specs.Checked.Lemmas.Decided.{resource}
use Rattle.sf_calls.specs.Checked.Lemmas.Least.{takes_within}
use Rattle.sf_calls.specs.Checked.Lemmas.Within.{callee_within}
use Rattle.sf_order.specs.Answers.{AreBelow}
use Rattle.sf_order.specs.Nests.{ArePairsOf, IsEarlierPair, MayEnter, Nests}
use Rattle.sf_order.specs.Checked.Rows.{AreCallees, IsEnteredIn, IsMarked, IsRowOf, Marks, all_sites, entered_by, entered_within, taken_by}
use Rattle.sf_order.proofs.Places.{same-or_not}

-- marks of some, and then of others
pub marks-two : (a b c : List Bool) (xs ys : List ResId) → Marks a b xs → Marks b c ys → Marks a c (xs ++ ys)
marks-two a b c xs ys h k = record { size = k.size ∙ h.size; marked = λ q. (to q, from q) }
  where
    to : (q : ResId) → IsMarked c q → IsMarked a q ⊎ Contains (xs ++ ys) q
    to q m = elim ((k.marked q).0 m) [
      | inl n ↦ elim ((h.marked q).0 n) [
        | inl o ↦ inl o
        | inr o ↦ inr (Contains-append_left xs ys q o)
      ]
      | inr n ↦ inr (Contains-append_right xs ys q n)
    ]

    from : (q : ResId) → IsMarked a q ⊎ Contains (xs ++ ys) q → IsMarked c q
    from q (inl m) = (k.marked q).1 (inl ((h.marked q).1 (inl m)))
    from q (inr m) = elim (Contains-append_cases xs ys q m) [
      | inl n ↦ (k.marked q).1 (inl ((h.marked q).1 (inr n)))
      | inr n ↦ (k.marked q).1 (inr n)
    ]

-- what holds of the elements of two lists holds of those of each
pub all-left : (P : ResId → Type 0) (xs ys : List ResId) → All P (xs ++ ys) → All P xs
all-left P xs ys h = λ k d l.
    All-contains P (xs ++ ys) (get_or xs k d) h (Contains-append_left xs ys (get_or xs k d) (All-contains_itself xs k d l))

pub all-right : (P : ResId → Type 0) (xs ys : List ResId) → All P (xs ++ ys) → All P ys
all-right P xs ys h = λ k d l.
    All-contains P (xs ++ ys) (get_or ys k d) h (Contains-append_right xs ys (get_or ys k d) (All-contains_itself ys k d l))

-- an element of a list is at a place of it
at-place : {A : Type 0} (xs : List A) (x : A) → Contains xs x → (k : ℕ) × (slice_get xs k ≡ Some x)
at-place xs x c = (c.0, slice_get-get_or xs c.0 x c.1 ∙ ap Some c.2)

from-place : {A : Type 0} (xs : List A) (x : A) (k : ℕ) → slice_get xs k ≡ Some x → Contains xs x
from-place xs x k e = (k, slice_get_within xs k x e, get_or_from_slice_get xs k x x e)

-- whether one is marked
pub marked-here : (row : List Bool) (q : ℕ) → q < length row → get_or row q false ≡ true → IsMarked row (resource q)
marked-here row q l e = slice_get-get_or row q false l ∙ ap Some e

pub marked-not : (row : List Bool) (q : ℕ) → q < length row → get_or row q false ≡ false
    → IsMarked row (resource q) → ⊥
marked-not row q l e m =
    let here : slice_get row q ≡ Some false = slice_get-get_or row q false l ∙ ap Some e in
    let one : true ≡ false = same_Some true false (sym m ∙ here) in
    absurd (cc)

module _ (p : Program) (formed : IsFormed p) where
  mutual
    -- the regions around commands are of resources that are there
    block-around : (h : Procedure) (es : List ResId) (b : Block) → BlockWithin p h b
        → ((r : ResId) → Contains es r → r.0 < length p.resources) → (s : Site) → Contains (sites es b) s
        → (r : ResId) → Contains s.entered r → r.0 < length p.resources
    block-around h es done w k s m = absurd (contains-nil s m)
    block-around h es (then c b) w k s m =
        let first : Site = record { entered = es; command = c } in
        elim ((contains-cons first (inner_sites es c ++ sites es b) s).0 m) [
          | inl e ↦ λ r i. k r (subst (λ (t : Site). Contains t.entered r) (sym e) i)
          | inr n ↦ elim (Contains-append_cases (inner_sites es c) (sites es b) s n) [
            | inl i ↦ command-around h es c w.0 k s i
            | inr i ↦ block-around h es b w.1 k s i
          ]
        ]

    command-around : (h : Procedure) (es : List ResId) (c : Command) → CommandWithin p h c
        → ((r : ResId) → Contains es r → r.0 < length p.resources) → (s : Site) → Contains (inner_sites es c) s
        → (r : ResId) → Contains s.entered r → r.0 < length p.resources
    command-around h es (assign q x e) w k s m = absurd (contains-nil s m)
    command-around h es (look_up q x e field) w k s m = absurd (contains-nil s m)
    command-around h es (mutate q e field d) w k s m = absurd (contains-nil s m)
    command-around h es (new q x) w k s m = absurd (contains-nil s m)
    command-around h es (dispose q e) w k s m = absurd (contains-nil s m)
    command-around h es (if q t c d) w k s m = elim (Contains-append_cases (sites es c) (sites es d) s m) [
      | inl i ↦ block-around h es c w.1 k s i
      | inr i ↦ block-around h es d w.2 k s i
    ]
    command-around h es (while q t i c) w k s m = block-around h es c w.2 k s m
    command-around h es (call q c) w k s m = absurd (contains-nil s m)
    command-around h es (fork q c d) w k s m = absurd (contains-nil s m)
    command-around h es (with q z t c) w k s m = block-around h (z ∷ es) c w.2 more s m
      where
        more : (r : ResId) → Contains (z ∷ es) r → r.0 < length p.resources
        more r i = elim ((contains-cons z es r).0 i) [
          | inl e ↦ subst (λ (t : ResId). t.0 < length p.resources) e w.0
          | inr n ↦ k r n
        ]

  -- a command of some body, with its procedure
  pub record IsOfBody (s : Site) : Type 0 where
    pub place : ℕ
    pub procedure : Procedure
    pub at : slice_get p.procedures place ≡ Some procedure
    pub inside : Contains (sites [] procedure.body) s
    pub within : CommandWithin p procedure s.command

  pub site-of_body : (s : Site) → Contains (all_sites p) s → IsOfBody s
  site-of_body s c =
      let h = contains-flat_map_from (λ (h : Procedure). sites [] h.body) p.procedures s c in
      let k = at-place p.procedures h.0 h.1 in
      record {
        place = k.0;
        procedure = h.0;
        at = k.1;
        inside = h.2;
        within = sites-within p h.0 [] (h.0).body (formed.procedures k.0 h.0 k.1).body s h.2;
      }

  pub site-around : (s : Site) → Contains (all_sites p) s → (r : ResId) → Contains s.entered r
      → r.0 < length p.resources
  site-around s c =
      let b = site-of_body s c in
      block-around b.procedure [] (b.procedure).body (formed.procedures b.place b.procedure b.at).body
      (λ r i. absurd (contains-nil r i)) s b.inside

  -- what is nested is what some command may enter
  pub nests-entered : (r q : ResId) → IsEnteredIn p (all_sites p) r q ↔ Nests p r q
  nests-entered r q = (to, from)
    where
      to : IsEnteredIn p (all_sites p) r q → Nests p r q
      to (s, c, e, m) =
          let b = site-of_body s c in
          (record { 0 = b.place }, (b.procedure, b.at, (s, b.inside, (e, m))))

      from : Nests p r q → IsEnteredIn p (all_sites p) r q
      from (f, (h, at, (s, m, (e, enters)))) = (
        s,
        contains-flat_map (λ (g : Procedure). sites [] g.body) p.procedures h s
            (from-place p.procedures h f.0 at) m,
        e,
        enters,
      )

  pub nests-within : (r q : ResId) → Nests p r q → r.0 < length p.resources
  nests-within r q n = let i = (nests-entered r q).1 n in site-around i.0 i.1 r i.2

  -- what a command may enter is there
  may_enter-within : (h : Procedure) (command : Command) → CommandWithin p h command → (q : ResId)
      → MayEnter p command q → q.0 < length p.resources
  may_enter-within h command w q (inl r) = regions-within p h command w q r
  may_enter-within h command w q (inr (d, m, t)) = takes_within p formed d.callee q t

  pub nests-second : (r q : ResId) → Nests p r q → q.0 < length p.resources
  nests-second r q n =
      let i = (nests-entered r q).1 n in
      let b = site-of_body i.0 i.1 in
      may_enter-within b.procedure (i.0).command b.within q i.3

  -- the pairs are of resources that are there
  pub pairs-below : (pairs : List (ResId × ResId)) → ArePairsOf p pairs → AreBelow (length p.resources) pairs
  pairs-below pairs are = λ k d l.
      let e : ResId × ResId = get_or pairs k d in
      let n : Nests p e.0 e.1 = (are.members e).0 (All-contains_itself pairs k d l) in
      (nests-within e.0 e.1 n, nests-second e.0 e.1 n)

  module _ (c : Sets) (sets : AreSetsOf p c) where
    -- the lists say what procedures take
    taken-is : (f : ProcId) → f.0 < length p.procedures → (q : ResId) → Contains (taken_by c f) q ↔ Takes p f q
    taken-is f l q =
        let within : f.0 < length c.takes = omega (arith, l, (sets.takes).each) in
        ((sets.takes).is f (taken_by c f) (slice_get-get_or c.takes f.0 [] within)).members q

    -- the callees of a command of some body are there
    callees-there : (h : Procedure) (command : Command) → CommandWithin p h command → (d : Call)
        → Contains (head_calls command) d → d.callee.0 < length p.procedures
    callees-there h command w d m = callee_within p h d (calls-within p h command w d m)

    pub site-callees : (s : Site) → Contains (all_sites p) s → AreCallees c s.command
    site-callees s m = λ k d l.
        let b = site-of_body s m in
        let there = callees-there b.procedure s.command b.within (get_or (head_calls s.command) k d)
        (All-contains_itself (head_calls s.command) k d l) in
        omega (arith, there, (sets.takes).each)

    -- and what it may enter by the lists is what it may enter
    pub entered-is : (h : Procedure) (command : Command) → CommandWithin p h command → (q : ResId)
        → Contains (entered_by c command) q ↔ MayEnter p command q
    entered-is h command w q = (to, from)
      where
        to : Contains (entered_by c command) q → MayEnter p command q
        to m = elim
            (Contains-append_cases (head_regions command)
            (flat_map (λ (d : Call). taken_by c d.callee) (head_calls command)) q m) [
              | inl r ↦ inl r
              | inr r ↦
                  let d = contains-flat_map_from (λ (d : Call). taken_by c d.callee) (head_calls command) q r in
                  inr (d.0, d.1, (taken-is (d.0).callee (callees-there h command w d.0 d.1) q).0 d.2)
            ]

        from : MayEnter p command q → Contains (entered_by c command) q
        from (inl r) =
            Contains-append_left (head_regions command)
            (flat_map (λ (d : Call). taken_by c d.callee) (head_calls command)) q r
        from (inr (d, m, t)) =
            Contains-append_right (head_regions command)
            (flat_map (λ (e : Call). taken_by c e.callee) (head_calls command)) q
            (contains-flat_map (λ (e : Call). taken_by c e.callee) (head_calls command) d q m
            ((taken-is d.callee (callees-there h command w d m) q).1 t))

    -- it is a resource that is there
    pub site-entered : (s : Site) → Contains (all_sites p) s → entered_within (length p.resources) c s.command
    site-entered s m = λ k d l.
        let b = site-of_body s m in
        let q : ResId = get_or (entered_by c s.command) k d in
        may_enter-within b.procedure s.command b.within q
        ((entered-is b.procedure s.command b.within q).0 (All-contains_itself (entered_by c s.command) k d l))

    module _ (r : ResId) (before : List Site) (s : Site) (there : Contains (all_sites p) s) (row : List Bool)
        (old : (q : ResId) → IsMarked row q ↔ IsEnteredIn p before r q) where
      more : (q : ResId) → IsEnteredIn p before r q → IsEnteredIn p (before ++ s ∷ []) r q
      more q (t, m, e, n) = (t, Contains-append_left before (s ∷ []) t m, e, n)

      -- one more command, inside a region of r
      pub row-marked : (now : List Bool) → Contains s.entered r → Marks row now (entered_by c s.command)
          → (q : ResId) → IsMarked now q ↔ IsEnteredIn p (before ++ s ∷ []) r q
      row-marked now inside k q = (to, from)
        where
          b : IsOfBody s
          b = site-of_body s there

          to : IsMarked now q → IsEnteredIn p (before ++ s ∷ []) r q
          to m = elim ((k.marked q).0 m) [
            | inl n ↦ more q ((old q).0 n)
            | inr n ↦ (s, Contains-push before s, inside, (entered-is b.procedure s.command b.within q).0 n)
          ]

          from : IsEnteredIn p (before ++ s ∷ []) r q → IsMarked now q
          from (t, m, e, enters) = elim (Contains-push_cases before s t m) [
            | inl n ↦ (k.marked q).1 (inl ((old q).1 (t, n, e, enters)))
            | inr i ↦ (k.marked q).1 (inr ((entered-is b.procedure s.command b.within q).1
                (subst (λ (u : Site). MayEnter p u.command q) (sym i) enters)))
          ]

      -- and one that isn't
      pub row-skipped : (Contains s.entered r → ⊥) → (q : ResId)
          → IsMarked row q ↔ IsEnteredIn p (before ++ s ∷ []) r q
      row-skipped outside q = (λ m. more q ((old q).0 m), from)
        where
          from : IsEnteredIn p (before ++ s ∷ []) r q → IsMarked row q
          from (t, m, e, enters) = elim (Contains-push_cases before s t m) [
            | inl n ↦ (old q).1 (t, n, e, enters)
            | inr i ↦ absurd (outside (subst (λ (u : Site). Contains u.entered r) (sym i) e))
          ]

  -- the pairs of one more resource
  pub pairs-more : (k : ℕ) (row : List Bool) (before after : List (ResId × ResId)) → IsRowOf p (resource k) row
      → ((e : ResId × ResId) → Contains before e ↔ ((e.0.0 < k) × Nests p e.0 e.1))
      → ((e : ResId × ResId) → Contains after e ↔ (Contains before e ⊎ ((e.0 ≡ resource k) × IsMarked row e.1)))
      → (e : ResId × ResId) → Contains after e ↔ ((e.0.0 < k + 1) × Nests p e.0 e.1)
  pairs-more k row before after is old added e = (to, from)
    where
      nests : IsMarked row e.1 ↔ Nests p (resource k) e.1
      nests = (
        λ m. (nests-entered (resource k) e.1).0 ((is.marked e.1).0 m),
        λ n. (is.marked e.1).1 ((nests-entered (resource k) e.1).1 n),
      )

      to : Contains after e → (e.0.0 < k + 1) × Nests p e.0 e.1
      to c = elim ((added e).0 c) [
        | inl m ↦ let h = (old e).0 m in (let l : e.0.0 < k = h.0 in omega arith, h.1)
        | inr m ↦ (
          let same : e.0.0 ≡ k = ap (λ (z : ResId). z.0) m.0 in omega arith,
          subst (λ (z : ResId). Nests p z e.1) (sym m.0) (nests.0 m.1),
        )
      ]

      from : (e.0.0 < k + 1) × Nests p e.0 e.1 → Contains after e
      from h = elim (same-or_not e.0 (resource k)) [
        | inl same ↦ (added e).1 (inr (same, nests.1 (subst (λ (z : ResId). Nests p z e.1) same h.1)))
        | inr other ↦ (added e).1 (inl ((old e).1 (let l : e.0.0 < k + 1 = h.0 in omega arith, h.1)))
      ]

  -- all of them
  pub pairs-all : (k : ℕ) (pairs : List (ResId × ResId)) → length p.resources ≤ k → AllPairs IsEarlierPair pairs
      → ((e : ResId × ResId) → Contains pairs e ↔ ((e.0.0 < k) × Nests p e.0 e.1)) → ArePairsOf p pairs
  pairs-all k pairs all ordered is = record {
    ordered = ordered;
    members = λ e. (
      λ c. ((is e).0 c).1,
      λ n. (is e).1 (let l : e.0.0 < length p.resources = nests-within e.0 e.1 n in omega arith, n),
    );
  }

-- the pairs of one resource, one after the other
module _ (r : ResId) (row : List Bool) (first : List (ResId × ResId)) (before : All (λ e. e.0.0 < r.0) first) where
  -- those so far
  abbrev pub AreSoFar : ℕ → List (ResId × ResId) → Type 0
  AreSoFar q pairs = (e : ResId × ResId) → Contains pairs e
      ↔ (Contains first e ⊎ ((e.0 ≡ r) × IsMarked row e.1 × (e.1.0 < q)))

  pub pairs-pushed : (q : ℕ) (pairs : List (ResId × ResId)) → q < length row → get_or row q false ≡ true
      → AreSoFar q pairs → AreSoFar (q + 1) (pairs ++ (r, resource q) ∷ [])
  pairs-pushed q pairs l is old e = (to, from)
    where
      to : Contains (pairs ++ (r, resource q) ∷ []) e
          → Contains first e ⊎ ((e.0 ≡ r) × IsMarked row e.1 × (e.1.0 < q + 1))
      to c = elim (Contains-push_cases pairs (r, resource q) e c) [
        | inl m ↦ elim ((old e).0 m) [
          | inl o ↦ inl o
          | inr o ↦ inr (o.0, o.1, let few : e.1.0 < q = o.2 in omega arith)
        ]
        | inr i ↦
            let same : e.1.0 ≡ q = ap (λ (t : ResId × ResId). t.1.0) (sym i) in
            inr (
              ap (λ (t : ResId × ResId). t.0) (sym i),
              subst (λ (t : ResId × ResId). IsMarked row t.1) i (marked-here row q l is),
              omega arith,
            )
      ]

      from : Contains first e ⊎ ((e.0 ≡ r) × IsMarked row e.1 × (e.1.0 < q + 1))
          → Contains (pairs ++ (r, resource q) ∷ []) e
      from (inl o) = Contains-append_left pairs ((r, resource q) ∷ []) e ((old e).1 (inl o))
      from (inr o) = elim (same-or_not e.1 (resource q)) [
        | inl same ↦
            let i : (let t : ResId × ResId = (r, resource q) in t) ≡ e =
            sym (ap₂ (λ (a b : ResId). let t : ResId × ResId = (a, b) in t) o.0 same) in
            subst (Contains (pairs ++ (r, resource q) ∷ [])) i (Contains-push pairs (r, resource q))
        | inr other ↦
            Contains-append_left pairs ((r, resource q) ∷ []) e
            ((old e).1 (inr (o.0, o.1, let few : e.1.0 < q + 1 = o.2 in omega arith)))
      ]

  pub pairs-passed : (q : ℕ) (pairs : List (ResId × ResId)) → q < length row → get_or row q false ≡ false
      → AreSoFar q pairs → AreSoFar (q + 1) pairs
  pairs-passed q pairs l is old e = (to, from)
    where
      to : Contains pairs e → Contains first e ⊎ ((e.0 ≡ r) × IsMarked row e.1 × (e.1.0 < q + 1))
      to c = elim ((old e).0 c) [
        | inl o ↦ inl o
        | inr o ↦ inr (o.0, o.1, let few : e.1.0 < q = o.2 in omega arith)
      ]

      from : Contains first e ⊎ ((e.0 ≡ r) × IsMarked row e.1 × (e.1.0 < q + 1)) → Contains pairs e
      from (inl o) = (old e).1 (inl o)
      from (inr o) = elim (same-or_not e.1 (resource q)) [
        | inl same ↦ absurd (marked-not row q l is (subst (IsMarked row) same o.1))
        | inr other ↦ (old e).1 (inr (o.0, o.1, let few : e.1.0 < q + 1 = o.2 in omega arith))
      ]

  pub pairs-ordered : (q : ℕ) (pairs : List (ResId × ResId)) → AllPairs IsEarlierPair pairs → AreSoFar q pairs
      → AllPairs IsEarlierPair (pairs ++ (r, resource q) ∷ [])
  pairs-ordered q pairs ordered is =
      all_pairs_push IsEarlierPair pairs (r, resource q) ordered
      (λ k d l. at (get_or pairs k d) ((is (get_or pairs k d)).0 (All-contains_itself pairs k d l)))
    where
      at : (e : ResId × ResId) → Contains first e ⊎ ((e.0 ≡ r) × IsMarked row e.1 × (e.1.0 < q))
          → IsEarlierPair e (r, resource q)
      at e (inl o) = inl (All-contains (λ (t : ResId × ResId). t.0.0 < r.0) first e before o)
      at e (inr o) = inr (o.0, o.2)

  pub pairs-complete : (q : ℕ) (pairs : List (ResId × ResId)) → length row ≤ q → AreSoFar q pairs
      → (e : ResId × ResId) → Contains pairs e ↔ (Contains first e ⊎ ((e.0 ≡ r) × IsMarked row e.1))
  pairs-complete q pairs past is e = (to, from)
    where
      to : Contains pairs e → Contains first e ⊎ ((e.0 ≡ r) × IsMarked row e.1)
      to c = elim ((is e).0 c) [ inl o ↦ inl o | inr o ↦ inr (o.0, o.1) ]

      from : Contains first e ⊎ ((e.0 ≡ r) × IsMarked row e.1) → Contains pairs e
      from (inl o) = (is e).1 (inl o)
      from (inr o) =
          (is e).1 (inr (
            o.0,
            o.1,
            let few : e.1.0 < length row = slice_get_within row e.1.0 true o.1 in
                omega arith,
          ))
