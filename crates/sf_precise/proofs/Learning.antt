-- What the work on jobs is once existentials became known.
-- Names: `learns-LAW` speaks of existentials that become known, `with-LAW` of what is known with some
-- more of them.
use Rattle.std.proofs.Common.{◌≡◌, ℕ, ◌+◌, ◌-◌, ◌<◌, ◌≤◌, ◌==◌, Bool, true, false, not, ◌&&◌, ◌||◌, cond, List, [], ◌∷◌, ◌++◌, length, count_by, slice_get, slice_index_or, Option, Some, None, Vec, All, Contains, get_or, take, zero, suc, add-one, append_assoc, refl, sym, ap, ◌∙◌, subst, arith}
use Rattle.std.specs.List.{list_any}
use Rattle.std.specs.Ordering.{nat_cmp}
use Rattle.std.specs.BTreeMap.{BTreeMap, get, is_at, Updates}
use Rattle.std.specs.declared.alloc.Global.{Global}
use Rattle.std.proofs.lemmas.Bool.Decides.{nat_tests}
use Rattle.std.proofs.Math.Bool.{or_assoc, or-false}
use Rattle.std.proofs.lemmas.List.Elements.{All-contains_itself}
use Rattle.std.proofs.lemmas.List.Folds.{list_any-append}
use Rattle.std.proofs.lemmas.List.Sums.{sum_by-cons}
use Rattle.std.proofs.lemmas.Bool.{cases_lt, or_parts}
use Rattle.std.proofs.lemmas.List.{append-nil, get_or_past}
use Rattle.std.proofs.lemmas.Option.{slice_get_within}
use Rattle.sf_base.proofs.Sums.{either}
use Rattle.sf_base.proofs.Numbers.{at-is, one-not_zero}
use Rattle.sf_base.proofs.Elements.{contains-unless}
use Rattle.sf_base.specs.declared.ids.FieldId.{FieldId}
use Rattle.sf_core.specs.declared.assertion.Operand.{Operand}
use Rattle.sf_core.specs.declared.command.Expr.{Expr}
use Rattle.sf_precise.specs.declared.work.Work.{Work}
use Rattle.sf_precise.specs.Checked.Outer.{existential, field_existentials}
use Rattle.sf_precise.specs.Checked.Waits.{Job}
use Rattle.sf_precise.specs.Checked.Work.{IsWork, Learns, Serves, WaitsWithin, is_ready, is_served, items_or_none, known_with, row, work_left}

-- work is the same where the same is known
pub work-same : (jobs : List Job) (known more : ℕ → Bool) (taken : List Bool) (w : Work)
    → ((n : ℕ) → known n ≡ more n) → IsWork jobs known taken w → IsWork jobs more taken w
work-same jobs known more taken w same is =
    subst (λ (k : ℕ → Bool). IsWork jobs k taken w) (λ i n. same n i) is

with-none : (known : ℕ → Bool) (n : ℕ) → known n ≡ known_with [] known n
with-none known n = sym (or-false (known n))

with-both : (ns ms : List ℕ) (known : ℕ → Bool) (n : ℕ)
    → known_with ms (known_with ns known) n ≡ known_with (ns ++ ms) known n
with-both ns ms known n =
    or_assoc (known n) (list_any (λ m. m == n) ns) (list_any (λ m. m == n) ms)
    ∙ ap (λ (b : Bool). known n || b) (sym (list_any-append (λ m. m == n) ns ms))

-- nothing becomes known
pub learns-none : (w : Work) → Learns [] w w
learns-none w = record {
  work = λ jobs known taken is. work-same jobs known (known_with [] known) taken w (with-none known) is;
  within = λ h. h;
  left = omega arith;
}

-- some become known, and then others
pub learns-both : (ns ms : List ℕ) (u v w : Work) → Learns ns u v → Learns ms v w → Learns (ns ++ ms) u w
learns-both ns ms u v w a b = record {
  work =
      λ jobs known taken is. work-same jobs (known_with ms (known_with ns known))
      (known_with (ns ++ ms) known) taken w (with-both ns ms known)
      (b.work jobs (known_with ns known) taken (a.work jobs known taken is));
  within = λ h. b.within (a.within h);
  left =
      let one : work_left v ≤ work_left u = a.left in
      let two : work_left w ≤ work_left v = b.left in omega arith;
}

-- the row of an existential is taken out
pub row-removed : (before after : BTreeMap ℕ (Vec ℕ Global)) (n : ℕ) → Updates nat_cmp before after n None
    → (q : ℕ) → row after q ≡ cond (n == q) [] (row before q)
row-removed before after n u q =
    ap items_or_none (u.0 q) ∙ go (is_at (nat_cmp n) q) (get nat_cmp before q)
    ∙ ap (λ (b : Bool). cond b [] (row before q)) (at-is n q)
  where
    go : (b : Bool) (o : Option (Vec ℕ Global)) → items_or_none (cond b None o) ≡ cond b [] (items_or_none o)
    go true o = refl
    go false o = refl

with-one : (known : ℕ → Bool) (n m : ℕ) → known_with (n ∷ []) known m ≡ (known m || (n == m))
with-one known n m = ap (λ (b : Bool). known m || b) (or-false (n == m))

-- where n was known already, nothing changes
with-old : (known : ℕ → Bool) (n : ℕ) → known n ≡ true → (m : ℕ) → known m ≡ known_with (n ∷ []) known m
with-old known n e m = grind (arith, nat_tests, with-one known n m)

one-more : (known : ℕ → Bool) (n x : ℕ) → known n ≡ false
    → cond (known_with (n ∷ []) known x) 1 0 ≡ cond (known x) 1 0 + cond (x == n) 1 0
one-more known n x e = grind (arith, nat_tests, with-one known n x)

-- as many more of these are known as are n
with-count : (known : ℕ → Bool) (n : ℕ) → known n ≡ false → (ms : List ℕ)
    → count_by (known_with (n ∷ []) known) ms ≡ count_by known ms + count_by (λ m. m == n) ms
with-count known n e [] = refl
with-count known n e (x ∷ xs) =
    let a = sum_by-cons (λ y. cond (known_with (n ∷ []) known y) 1 0) x xs in
    let b = sum_by-cons (λ y. cond (known y) 1 0) x xs in
    let c = sum_by-cons (λ y. cond (y == n) 1 0) x xs in
    let d = with-count known n e xs in
    let f = one-more known n x e in
    omega arith

at-less : (a b c d e : ℕ) → a ≡ b - c → b ≡ d - e → a ≡ d - (e + c)
at-less a b c d e p q = omega arith

ready-step : (was is taken : Bool) → (was ≡ true → is ≡ true) → (taken ≡ true → was ≡ true)
    → ((was && not taken) || (is && not was)) ≡ (is && not taken)
ready-step true true t m h = or-false (not t)
ready-step true false t m h = absurd (let e : false ≡ true = m refl in cc)
ready-step false is true m h = absurd (let e : false ≡ true = h refl in cc)
ready-step false true false m h = refl
ready-step false false false m h = refl

ready-past : (was is taken : Bool) → was ≡ false → is ≡ false
    → ((was && not taken) || (is && not was)) ≡ (is && not taken)
ready-past true is taken e f = absurd (let x : true ≡ false = e in cc)
ready-past false true taken e f = absurd (let x : true ≡ false = f in cc)
ready-past false false taken e f = refl

-- the work with other rows
abbrev pub with_rows : Work → BTreeMap ℕ (Vec ℕ Global) → Work
with_rows w rows = record w { waiting = rows }

zero-test : (a b : ℕ) → (a == 0) ≡ true → b ≤ a → (b == 0) ≡ true
zero-test a b e h = grind (arith, nat_tests)

-- what was served stays so
served-stays : (xs : List ℕ) (v w : Work) (i : ℕ) → Serves xs v w → is_served v i ≡ true
    → is_served w i ≡ true
served-stays xs v w i s e = either (cases_lt i (length v.lacking.items))
    (λ h. let step : slice_index_or w.lacking.items i 1 ≡ slice_index_or v.lacking.items i 1 - count_by
    (λ k. k == i) xs = s.lacking i h in zero-test (slice_index_or v.lacking.items i 1)
    (slice_index_or w.lacking.items i 1) e (omega arith))
    (λ h. absurd (let a : true ≡ false = sym e ∙ one-not_zero (slice_index_or v.lacking.items i 1)
    (get_or_past v.lacking.items i 1 h) in cc))

-- those in a row are jobs
pub row-within : (n : ℕ) (u : Work) (xs : List ℕ) → WaitsWithin u → row u.waiting n ≡ xs
    → All (λ i. i < length u.lacking.items) xs
row-within n u xs h e =
    λ k d b. h n (slice_index_or xs k d)
    (subst (λ (ys : List ℕ). Contains ys (slice_index_or xs k d)) (sym e)
    (All-contains_itself xs k d b))

-- whoever waits is still one of the jobs once a row was served
served-within : (n : ℕ) (u : Work) (rest : BTreeMap ℕ (Vec ℕ Global)) (xs : List ℕ) (w : Work)
    → Updates nat_cmp u.waiting rest n None → Serves xs (with_rows u rest) w → WaitsWithin u → WaitsWithin w
served-within n u rest xs w gone s h q i c =
    let kept : row w.waiting q ≡ cond (n == q) [] (row u.waiting q) = s.waiting q
    ∙ row-removed u.waiting rest n gone q in
    subst (λ (m : ℕ). i < m) (sym s.size)
    (h q i (contains-unless (n == q) (row u.waiting q) i (rw kept at c)))

-- the jobs of the row of n are served, and it is taken out
pub work-served : (jobs : List Job) (known : ℕ → Bool) (taken : List Bool) (n : ℕ) (u : Work)
    (rest : BTreeMap ℕ (Vec ℕ Global)) (w : Work)
    → ((q : ℕ) → row rest q ≡ cond (n == q) [] (row u.waiting q))
    → Serves (row u.waiting n) (with_rows u rest) w
    → IsWork jobs known taken u → IsWork jobs (known_with (n ∷ []) known) taken w
work-served jobs known taken n u rest w rows s is = record {
  size = s.size ∙ is.size;
  flags = is.flags;
  lacking = lacking;
  rows =
      λ q f i j here. let k = or_parts (known q) (n == q) (sym (with-one known n q) ∙ f) in
      rw (kept q k.1) (is.rows q k.0 i j here);
  gone = λ q t. s.waiting q ∙ rows q ∙ gone q (n == q) refl (sym (with-one known n q) ∙ t);
  within =
      λ q i c. is.within q i
      (contains-unless (n == q) (row u.waiting q) i (rw (s.waiting q ∙ rows q) at c));
  ready = λ i. s.ready i ∙ ap (λ (b : Bool). b || (is_served w i && not (is_served u i))) (is.ready i)
      ∙ ready i;
  served = λ i t h. served-stays (row u.waiting n) (with_rows u rest) w i s (is.served i t h);
}
  where
    kept : (q : ℕ) → (n == q) ≡ false → row w.waiting q ≡ row u.waiting q
    kept q e = s.waiting q ∙ rows q ∙ ap (λ (b : Bool). cond b [] (row u.waiting q)) e

    gone : (q : ℕ) (b : Bool) → (n == q) ≡ b → (known q || b) ≡ true → cond b [] (row u.waiting q) ≡ []
    gone q true e t = refl
    gone q false e t = is.gone q (sym (or-false (known q)) ∙ t)

    ready : (i : ℕ)
        → ((is_served u i && not (slice_index_or taken i true)) || (is_served w i && not (is_served u i)))
        ≡ (is_served w i && not (slice_index_or taken i true))
    ready i = either (cases_lt i (length jobs))
        (λ h. ready-step (is_served u i) (is_served w i) (slice_index_or taken i true)
        (served-stays (row u.waiting n) (with_rows u rest) w i s) (λ t. is.served i t h))
        (λ h. ready-past (is_served u i) (is_served w i) (slice_index_or taken i true)
        (one-not_zero (slice_index_or u.lacking.items i 1)
        (get_or_past u.lacking.items i 1 (omega (arith, is.size))))
        (one-not_zero (slice_index_or w.lacking.items i 1)
        (get_or_past w.lacking.items i 1 (omega (arith, is.size, s.size)))))

    lacking : (i : ℕ) (j : Job) → slice_get jobs i ≡ Some j
        → slice_index_or w.lacking.items i 1 ≡ j.need - count_by (known_with (n ∷ []) known) j.waits
    lacking i j here =
        let below : i < length jobs = slice_get_within jobs i j here in
        let step : slice_index_or w.lacking.items i 1 ≡ slice_index_or u.lacking.items i 1 - count_by
        (λ k. k == i) (row u.waiting n) = s.lacking i (omega (arith, is.size)) in
        let was : slice_index_or u.lacking.items i 1
        ≡ j.need - count_by known j.waits = is.lacking i j here in
        go (known n) refl below step was
      where
        go : (b : Bool) → known n ≡ b → i < length jobs
            → slice_index_or w.lacking.items i 1 ≡ slice_index_or u.lacking.items i 1 - count_by
            (λ k. k == i) (row u.waiting n)
            → slice_index_or u.lacking.items i 1 ≡ j.need - count_by known j.waits
            → slice_index_or w.lacking.items i 1 ≡ j.need - count_by (known_with (n ∷ []) known) j.waits
        go true e below step was =
            let none : count_by (λ k. k == i) (row u.waiting n)
            ≡ 0 = ap (λ (xs : List ℕ). count_by (λ k. k == i) xs) (is.gone n e) in
            let same : count_by known j.waits ≡ count_by (known_with (n ∷ []) known) j.waits = ap
            (λ (k : ℕ → Bool). count_by k j.waits) (λ x m. with-old known n e m x) in
            omega arith
        go false e below step was =
            let some : count_by (λ k. k == i) (row u.waiting n)
            ≡ count_by (λ m. m == n) j.waits = is.rows n e i j here in
            let more : count_by (known_with (n ∷ []) known) j.waits
            ≡ count_by known j.waits + count_by (λ m. m == n) j.waits = with-count known n e j.waits in
            omega arith

-- an existential becomes known, those that wait for it being served
pub learns-one : (n : ℕ) (u : Work) (rest : BTreeMap ℕ (Vec ℕ Global)) (xs : List ℕ) (w : Work)
    → Updates nat_cmp u.waiting rest n None → row u.waiting n ≡ xs
    → Serves xs (with_rows u rest) w → Learns (n ∷ []) u w
learns-one n u rest xs w gone here s = record {
  work =
      λ jobs known taken is. work-served jobs known taken n u rest w (row-removed u.waiting rest n gone)
      (subst (λ (ys : List ℕ). Serves ys (with_rows u rest) w) (sym here) s) is;
  within = λ h. served-within n u rest xs w gone s h;
  left = s.left;
}

-- nobody is served
pub serves-none : (w : Work) → Serves [] w w
serves-none w = record {
  size = refl;
  lacking = λ i h. omega arith;
  ready = λ i. sym (never (is_ready w i) (is_served w i));
  waiting = λ n. refl;
  left = omega arith;
}
  where
    never : (a b : Bool) → (a || (b && not b)) ≡ a
    never true b = refl
    never false true = refl
    never false false = refl

-- nobody waits for the existential
pub learns-unwaited : (n : ℕ) (u : Work) (rest : BTreeMap ℕ (Vec ℕ Global))
    → Updates nat_cmp u.waiting rest n None → get nat_cmp u.waiting n ≡ None
    → Learns (n ∷ []) u (with_rows u rest)
learns-unwaited n u rest gone absent =
    learns-one n u rest [] (with_rows u rest) gone (ap items_or_none absent)
    (serves-none (with_rows u rest))

-- the existentials among one more of the fields
pub fields-more : (fs : List (FieldId × Operand Expr)) (i : ℕ) (d : FieldId × Operand Expr) → i < length fs
    → field_existentials (take (i + 1) fs) ≡ field_existentials (take i fs) ++ existential (get_or fs i d).1
fields-more [] i d h = absurd (let none : i < 0 = h in omega arith)
fields-more (f ∷ fs) zero d h = append-nil (existential f.1)
fields-more (f ∷ fs) (suc i) d h =
    let below : suc i < suc (length fs) = h in
    rw add-one
    (ap (λ (xs : List ℕ). existential f.1 ++ xs) (rw add-one at (fields-more fs i d (omega arith)))
    ∙ sym
    (append_assoc (existential f.1) (field_existentials (take i fs)) (existential (get_or fs i d).1)))

-- one more of the fields
pub learns-more : (fs : List (FieldId × Operand Expr)) (i : ℕ) (d : FieldId × Operand Expr) (u v w : Work)
    → i < length fs
    → Learns (field_existentials (take i fs)) u v → Learns (existential (get_or fs i d).1) v w
    → Learns (field_existentials (take (i + 1) fs)) u w
learns-more fs i d u v w h a b =
    rw (fields-more fs i d h)
    (learns-both (field_existentials (take i fs)) (existential (get_or fs i d).1) u v w a b)
