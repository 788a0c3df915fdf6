-- One more job is added to the work.
use Rattle.std.proofs.Common.{◌≡◌, ◌≢◌, ◌⊎◌, ℕ, zero, suc, ◌+◌, ◌-◌, ◌*◌, ◌<◌, ◌≤◌, ◌==◌, Bool, true, false, not, ◌&&◌, ◌||◌, cond, List, [], ◌∷◌, ◌++◌, length, map, take, get_or, replicate, count_by, Option, is_some, add-one, slice_get, slice_index_or, Some, Contains, length-append, refl, sym, ap, ap₂, ◌∙◌, subst, inl, inr, arith}
use Rattle.std.specs.List.{list_any}
use Rattle.std.specs.BTreeMap.{is_at}
use Rattle.std.specs.Ordering.{nat_cmp}
use Rattle.std.proofs.lemmas.Bool.{cases_lt}
use Rattle.std.proofs.lemmas.Bool.Decides.{eqb_tells, nat_tests}
use Rattle.std.proofs.lemmas.List.{append-nil, get_or-map, get_or_append_left, get_or_past, get_or_push, length-map}
use Rattle.std.proofs.lemmas.List.Elements.{Contains-append_cases}
use Rattle.std.proofs.lemmas.Option.{slice_get_within}
use Rattle.sf_base.proofs.Sums.{either}
use Rattle.sf_base.proofs.Lookup.{get-push_cases}
use Rattle.sf_base.proofs.Counts.{count-absent, count-none, count-below, count-replicate}
use Rattle.sf_base.proofs.Elements.{contains-replicate}
use Rattle.sf_base.proofs.Numbers.{one-not_zero}
use Rattle.sf_precise.specs.declared.work.Work.{Work}
use Rattle.sf_core.specs.declared.command.Expr.{Expr}
use Rattle.sf_core.specs.Program.Syntax.{Conjunct}
use Rattle.sf_precise.specs.Checked.Waits.{Job, job_of, jobs_of, need_of, rests_on, unknown_among, waits_for}
use Rattle.sf_precise.specs.Checked.Work.{AddsJob, AddsWaits, IsWork, is_ready, is_served, none_taken, row}

ready-before : (a b t s z e : Bool) → a ≡ b → t ≡ false → s ≡ false → e ≡ false
    → ((a && not t) || (z && e)) ≡ (b && not s)
ready-before a b t s z e p q r f = grind (arith, nat_tests)

ready-now : (a b t s z e : Bool) → a ≡ false → b ≡ z → s ≡ false → e ≡ true
    → ((a && not t) || (z && e)) ≡ (b && not s)
ready-now a b t s z e p q r f = grind (arith, nat_tests)

ready-never : (a b t s z e : Bool) → a ≡ false → b ≡ false → e ≡ false
    → ((a && not t) || (z && e)) ≡ (b && not s)
ready-never a b t s z e p q f = grind (arith, nat_tests)

-- a number is put into the set of those that are ready
pub ready-insert : (was : Bool) (n l k i : ℕ) → n ≡ 0 → k ≡ l
    → cond (is_at (nat_cmp k) i) true was ≡ (was || ((n == 0) && (i == l)))
ready-insert was n l k i e f = grind (arith, nat_tests)

pub ready-as_was : (was : Bool) (n l i : ℕ) → n ≢ 0 → was ≡ (was || ((n == 0) && (i == l)))
ready-as_was was n l i e = grind (arith, nat_tests)

-- what is added to a count where a number is the one that is counted, and elsewhere
counted-one : (a b l i : ℕ) → l ≡ i → a + b * cond (l == i) 1 0 ≡ a + b
counted-one a b l i e =
    let t : (l == i) ≡ true = grind (arith, nat_tests) in ap (λ (c : Bool). a + b * cond c 1 0) t ∙ omega arith

counted-other : (a b l i : ℕ) → l ≢ i → a + b * cond (l == i) 1 0 ≡ a
counted-other a b l i n =
    let t : (l == i) ≡ false = grind (arith, nat_tests) in ap (λ (c : Bool). a + b * cond c 1 0) t ∙ omega arith

pub adds-job : (j : Job) (u w : Work) → w.lacking.items ≡ u.lacking.items ++ j.need ∷ []
    → AddsWaits (length u.lacking.items) j.waits u.waiting w.waiting
    → ((i : ℕ) → is_ready w i ≡ (is_ready u i || ((j.need == 0) && (i == length u.lacking.items))))
    → AddsJob j u w
adds-job j u w lack waits ready jobs known unknown is = record {
  size =
      ap length lack ∙ length-append u.lacking.items (j.need ∷ []) ∙ ap (λ (n : ℕ). n + 1) is.size
      ∙ sym (length-append jobs (j ∷ []));
  flags = length-map (jobs ++ j ∷ []) (λ (k : Job). false);
  lacking = lacking;
  rows = rows;
  gone = gone;
  within = within;
  ready = ready_now;
  served = λ i t h. absurd (let c : true ≡ false = sym t ∙ untaken (jobs ++ j ∷ []) i h in cc);
}
  where
    untaken : (js : List Job) (i : ℕ) → i < length js → slice_index_or (none_taken js) i true ≡ false
    untaken js i h = get_or-map (λ (k : Job). false) js i j true h

    longer : length (jobs ++ j ∷ []) ≡ length jobs + 1
    longer = length-append jobs (j ∷ [])

    old : (i : ℕ) → i < length jobs → slice_index_or w.lacking.items i 1 ≡ slice_index_or u.lacking.items i 1
    old i h =
        ap (λ (xs : List ℕ). slice_index_or xs i 1) lack
        ∙ get_or_append_left u.lacking.items (j.need ∷ []) 1 i (omega (arith, is.size))

    new : slice_index_or w.lacking.items (length jobs) 1 ≡ j.need
    new =
        ap (λ (xs : List ℕ). slice_index_or xs (length jobs) 1) lack
        ∙ get_or_push u.lacking.items j.need 1 (length jobs) is.size

    lacking : (i : ℕ) (k : Job) → slice_get (jobs ++ j ∷ []) i ≡ Some k
        → slice_index_or w.lacking.items i 1 ≡ k.need - count_by known k.waits
    lacking i k here = either (get-push_cases jobs j i k here)
        (λ h. old i (slice_get_within jobs i k h) ∙ is.lacking i k h)
        (λ h. subst (λ (z : Job). slice_index_or w.lacking.items i 1 ≡ z.need - count_by known z.waits) h.1
        (let none = count-none known j.waits unknown in
        let now : slice_index_or w.lacking.items i 1
        ≡ j.need = ap (λ (n : ℕ). slice_index_or w.lacking.items n 1) h.0 ∙ new in omega arith))

    row_now : (n : ℕ)
        → row w.waiting n ≡ row u.waiting n ++ replicate (count_by (λ m. m == n) j.waits) (length jobs)
    row_now n =
        waits.rows n
        ∙ ap (λ (l : ℕ). row u.waiting n ++ replicate (count_by (λ m. m == n) j.waits) l) is.size

    rows : (n : ℕ) → known n ≡ false → (i : ℕ) (k : Job) → slice_get (jobs ++ j ∷ []) i ≡ Some k
        → count_by (λ q. q == i) (row w.waiting n) ≡ count_by (λ m. m == n) k.waits
    rows n f i k here =
        ap (λ (xs : List ℕ). count_by (λ q. q == i) xs) (row_now n)
        ∙ count-replicate (row u.waiting n) (count_by (λ m. m == n) j.waits) (length jobs) i
        ∙ either (get-push_cases jobs j i k here) first last
      where
        first : slice_get jobs i ≡ Some k
            → count_by (λ q. q == i) (row u.waiting n) + count_by (λ m. m == n) j.waits * cond
            (length jobs == i) 1 0 ≡ count_by (λ m. m == n) k.waits
        first h =
            counted-other (count_by (λ q. q == i) (row u.waiting n)) (count_by (λ m. m == n) j.waits) (length jobs) i
            (let b = slice_get_within jobs i k h in omega arith)
            ∙ is.rows n f i k h

        last : (i ≡ length jobs) × (j ≡ k)
            → count_by (λ q. q == i) (row u.waiting n) + count_by (λ m. m == n) j.waits * cond
            (length jobs == i) 1 0 ≡ count_by (λ m. m == n) k.waits
        last h =
            counted-one (count_by (λ q. q == i) (row u.waiting n)) (count_by (λ m. m == n) j.waits) (length jobs) i
            (sym h.0)
            ∙ (let none = count-below i (row u.waiting n)
            (λ q c. let b : q < length jobs = is.within n q c in let e = h.0 in omega arith) in
            let same : count_by (λ m. m == n) j.waits ≡ count_by (λ m. m == n) k.waits =
            ap (λ (z : Job). count_by (λ m. m == n) z.waits) h.1 in
            omega arith)

    gone : (n : ℕ) → known n ≡ true → row w.waiting n ≡ []
    gone n t =
        row_now n
        ∙ ap (λ (c : ℕ). row u.waiting n ++ replicate c (length jobs))
        (count-absent known n t j.waits unknown)
        ∙ append-nil (row u.waiting n) ∙ is.gone n t

    within : (n i : ℕ) → Contains (row w.waiting n) i → i < length (jobs ++ j ∷ [])
    within n i c =
        either
        (Contains-append_cases (row u.waiting n)
        (replicate (count_by (λ m. m == n) j.waits) (length jobs)) i
        (subst (λ (xs : List ℕ). Contains xs i) (row_now n) c))
        (λ h. let b : i < length jobs = is.within n i h in omega (arith, longer))
        (λ h. let e = contains-replicate (count_by (λ m. m == n) j.waits) (length jobs) i h in
        omega (arith, longer))

    ready_now : (i : ℕ)
        → is_ready w i ≡ (is_served w i && not (slice_index_or (none_taken (jobs ++ j ∷ [])) i true))
    ready_now i =
        ready i ∙ ap (λ (b : Bool). b || ((j.need == 0) && (i == length u.lacking.items))) (is.ready i)
        ∙ go (cases_lt i (length jobs)) (eqb_tells i (length u.lacking.items))
      where
        go : (i < length jobs) ⊎ (length jobs ≤ i)
            → (((i == length u.lacking.items) ≡ true) × (i ≡ length u.lacking.items))
            ⊎ (((i == length u.lacking.items) ≡ false) × (i ≢ length u.lacking.items))
            → ((is_served u i && not (slice_index_or (none_taken jobs) i true))
            || ((j.need == 0) && (i == length u.lacking.items)))
            ≡ (is_served w i && not (slice_index_or (none_taken (jobs ++ j ∷ [])) i true))
        go (inl h) (inl e) = absurd (let s = is.size in let t = e.1 in omega arith)
        go (inl h) (inr e) =
            ready-before (is_served u i) (is_served w i) (slice_index_or (none_taken jobs) i true)
            (slice_index_or (none_taken (jobs ++ j ∷ [])) i true) (j.need == 0)
            (i == length u.lacking.items)
            (ap (λ (n : ℕ). n == 0) (sym (old i h))) (untaken jobs i h)
            (untaken (jobs ++ j ∷ []) i (omega (arith, longer))) e.0
        go (inr h) (inl e) =
            ready-now (is_served u i) (is_served w i) (slice_index_or (none_taken jobs) i true)
            (slice_index_or (none_taken (jobs ++ j ∷ [])) i true) (j.need == 0)
            (i == length u.lacking.items)
            (one-not_zero (slice_index_or u.lacking.items i 1)
            (get_or_past u.lacking.items i 1 (let t = e.1 in omega arith)))
            (ap (λ (n : ℕ). slice_index_or w.lacking.items n 1 == 0) (e.1 ∙ is.size)
            ∙ ap (λ (n : ℕ). n == 0) new)
            (untaken (jobs ++ j ∷ []) i (let t = e.1 in let s = is.size in omega (arith, longer))) e.0
        go (inr h) (inr e) =
            ready-never (is_served u i) (is_served w i) (slice_index_or (none_taken jobs) i true)
            (slice_index_or (none_taken (jobs ++ j ∷ [])) i true) (j.need == 0)
            (i == length u.lacking.items)
            (one-not_zero (slice_index_or u.lacking.items i 1)
            (get_or_past u.lacking.items i 1 (omega (arith, is.size))))
            (one-not_zero (slice_index_or w.lacking.items i 1)
            (get_or_past w.lacking.items i 1
            (let l = ap length lack ∙ length-append u.lacking.items (j.need ∷ []) in let s = is.size in
            let t = e.1 in omega arith)))
            e.0

-- the same, where the number of the job is told otherwise
pub adds-job_at : (j : Job) (u w : Work) (l : ℕ) → l ≡ length u.lacking.items
    → w.lacking.items ≡ u.lacking.items ++ j.need ∷ [] → AddsWaits l j.waits u.waiting w.waiting
    → ((i : ℕ) → is_ready w i ≡ (is_ready u i || ((j.need == 0) && (i == l)))) → AddsJob j u w
adds-job_at j u w l e lack waits ready =
    adds-job j u w lack (subst (λ (k : ℕ). AddsWaits k j.waits u.waiting w.waiting) e waits)
    (subst (λ (k : ℕ). (i : ℕ) → is_ready w i ≡ (is_ready u i || ((j.need == 0) && (i == k)))) e ready)

-- none of what is waited for is known at first
waits-unknown : (start : ℕ → Bool) (xs : List ℕ) → list_any start (unknown_among start xs) ≡ false
waits-unknown start [] = refl
waits-unknown start (x ∷ xs) = go (start x) refl (waits-unknown start xs)
  where
    go : (b : Bool) → start x ≡ b → list_any start (unknown_among start xs) ≡ false
        → list_any start (cond (not b) (x ∷ unknown_among start xs) (unknown_among start xs)) ≡ false
    go true e rest = rest
    go false e rest = ap (λ (b : Bool). b || list_any start (unknown_among start xs)) e ∙ rest

-- the jobs of one more conjunct
jobs-more : {A B : Type 0} (f : A → Conjunct Expr) (start : ℕ → Bool) (cs : List A) (os : List (Option B))
    (i : ℕ) (d : A) (e : Option B)
    → i < length cs → length os ≡ length cs
    → jobs_of start (map f (take (i + 1) cs)) (map is_some (take (i + 1) os))
    ≡ jobs_of start (map f (take i cs)) (map is_some (take i os))
    ++ job_of start (f (get_or cs i d)) (is_some (get_or os i e)) ∷ []
jobs-more f start [] os i d e h s = absurd (let none : i < 0 = h in omega arith)
jobs-more f start (c ∷ cs) [] i d e h s = absurd (let none : 0 ≡ suc (length cs) = s in omega arith)
jobs-more f start (c ∷ cs) (o ∷ os) zero d e h s = refl
jobs-more f start (c ∷ cs) (o ∷ os) (suc i) d e h s =
    let below : suc i < suc (length cs) = h in
    let size : suc (length os) ≡ suc (length cs) = s in
    rw add-one
    (ap (λ (js : List Job). job_of start (f c) (is_some o) ∷ js)
    (rw add-one at (jobs-more f start cs os i d e (omega arith) (omega arith))))

-- the work of one more conjunct
pub begin-more : {A B : Type 0} (f : A → Conjunct Expr) (start : ℕ → Bool) (cs : List A)
    (os : List (Option B)) (i : ℕ) (d : A) (e : Option B)
    → i < length cs → length os ≡ length cs
    → (need : ℕ) (waits : List ℕ) → need ≡ need_of start (f (get_or cs i d)) (is_some (get_or os i e))
    → waits ≡ waits_for start (f (get_or cs i d)) → (u w : Work)
    → AddsJob (record { need = need; waits = waits }) u w
    → IsWork (jobs_of start (map f (take i cs)) (map is_some (take i os))) start
    (none_taken (jobs_of start (map f (take i cs)) (map is_some (take i os)))) u
    → IsWork (jobs_of start (map f (take (i + 1) cs)) (map is_some (take (i + 1) os))) start
    (none_taken (jobs_of start (map f (take (i + 1) cs)) (map is_some (take (i + 1) os)))) w
begin-more f start cs os i d e h s need waits n t u w adds is =
    subst (λ (js : List Job). IsWork js start (none_taken js) w)
    (ap (λ (j : Job). jobs_of start (map f (take i cs)) (map is_some (take i os)) ++ j ∷ []) same
    ∙ sym (jobs-more f start cs os i d e h s))
    (adds (jobs_of start (map f (take i cs)) (map is_some (take i os))) start
    (ap (list_any start) t ∙ waits-unknown start (rests_on (f (get_or cs i d)))) is)
  where
    same : record { need = need; waits = waits } ≡ job_of start (f (get_or cs i d)) (is_some (get_or os i e))
    same = let two : Job = record { need = need; waits = waits } in cc

-- the same, where the elements are read
pub begin-more_read : {A B : Type 0} (f : A → Conjunct Expr) (start : ℕ → Bool) (cs : List A)
    (os : List (Option B)) (i : ℕ) (x : A) (o : Option B)
    → i < length cs → length os ≡ length cs → x ≡ get_or cs i x → o ≡ get_or os i o
    → (b : Bool) → b ≡ is_some o → (need : ℕ) (waits : List ℕ) → need ≡ need_of start (f x) b
    → waits ≡ waits_for start (f x) → (u w : Work) → AddsJob (record { need = need; waits = waits }) u w
    → IsWork (jobs_of start (map f (take i cs)) (map is_some (take i os))) start
    (none_taken (jobs_of start (map f (take i cs)) (map is_some (take i os)))) u
    → IsWork (jobs_of start (map f (take (i + 1) cs)) (map is_some (take (i + 1) os))) start
    (none_taken (jobs_of start (map f (take (i + 1) cs)) (map is_some (take (i + 1) os)))) w
begin-more_read f start cs os i x o h s p q b t need waits n m u w adds is =
    begin-more f start cs os i x o h s need waits
    (n ∙ ap₂ (λ y c. need_of start (f y) c) p (t ∙ ap is_some q)) (m ∙ ap (λ y. waits_for start (f y)) p) u
    w adds is
