-- Taking conjuncts one after the other: what holds on the way, and what the end says.
-- Names: `left-LAW` speaks of those that are not taken, `step-LAW` of one that is taken, `end-LAW` of
-- the end.
use Rattle.std.proofs.Common.{◌≡◌, ◌≢◌, ◌⊎◌, ℕ, zero, suc, ◌<◌, ◌≤◌, ◌==◌, Bool, true, false, not, ◌&&◌, ◌||◌, cond, List, [], ◌∷◌, ◌++◌, length, map, set, slice_get, slice_index_or, Option, Some, None, is_some, append_assoc, refl, sym, ap, ap₂, ◌∙◌, subst, inl, inr, arith}
use Rattle.std.specs.List.{AllZip, list_any}
use Rattle.std.specs.Option.{IsSome, option_map}
use Rattle.std.specs.Ordering.{nat_cmp}
use Rattle.std.specs.BTreeMap.{is_at}
use Rattle.std.specs.BTreeSet.{BTreeSet, Updates, IsLowerBound, contains}
use Rattle.std.proofs.lemmas.Bool.{cases_lt, eqb-true, eq-eqb, ne_eqb}
use Rattle.std.proofs.lemmas.Bool.Decides.{eqb_tells}
use Rattle.std.proofs.lemmas.List.{append-nil, get_or-set_other, get_or-set_same, get_or_past, length-map, length-set, map-append}
use Rattle.std.proofs.lemmas.List.Folds.{list_any-append}
use Rattle.std.proofs.lemmas.Option.{slice_get_cases, slice_get_within, slice_get-map, slice_get_read, same_Some}
use Rattle.std.proofs.lemmas.Slice.Zip.{AllZip-long}
use Rattle.std.proofs.Math.Bool.{or-false}
use Rattle.sf_core.specs.declared.command.Expr.{Expr}
use Rattle.sf_base.proofs.Sums.{either}
use Rattle.sf_base.proofs.Numbers.{one-not_zero, at-self, at-other, gt-false}
use Rattle.sf_base.proofs.Zips.{zip-at}
use Rattle.sf_base.proofs.Lookup.{get-set_other}
use Rattle.sf_base.proofs.Bools.{and-not_parts}
use Rattle.sf_core.specs.declared.assertion.Operand.{Operand}
use Rattle.sf_core.specs.declared.assertion.Operand.TheVariants.{Known, Exists}
use Rattle.sf_core.specs.declared.assertion.Test.TheVariants.{True, Equal, Differ}
use Rattle.sf_base.specs.declared.ids.FieldId.{FieldId}
use Rattle.sf_core.specs.Assertions.Determined.{CanBeTaken, is_existential, is_in_fields, is_learned}
use Rattle.sf_core.specs.Program.Syntax.{Conjunct, holds, points, segment, doubly, tree, choose, Conjuncts, none}
use Rattle.sf_core.specs.Program.View.{conjuncts}
use Rattle.sf_precise.specs.declared.work.Work.{Work}
use Rattle.sf_precise.specs.Order.{IsFirstReady, IsOrder, IsOrderWithin}
use Rattle.sf_precise.specs.Checked.Outer.{existential, field_existentials}
use Rattle.sf_precise.specs.Checked.Prepared.{IsPrepared}
use Rattle.sf_precise.specs.Taken.{IsAmong, IsFirstNeverTaken, Takes, known_by, place_at}
use Rattle.sf_precise.specs.Checked.Waits.{Job, job_of, jobs_of, learned_from}
use Rattle.sf_precise.specs.Checked.Work.{IsFirstLacking, IsWork, Learns, WaitsWithin, is_ready, is_served, known_with, none_taken}
use Rattle.sf_precise.specs.Checked.Lemmas.Agree.{first-leaves}
use Rattle.sf_precise.specs.Checked.Lemmas.Greedy.{within-learned}
use Rattle.sf_precise.proofs.Learning.{work-same}
use Rattle.sf_precise.specs.Checked.Lemmas.NeverTaken.{known-then_one, stuck-first, takes-more, takes-one, then_one}
use Rattle.sf_precise.specs.Checked.Lemmas.Ready.{job-ready, prepared-within, ready-job}

-- those that are not taken
abbrev pub left : {X : Type 0} → List Bool → List X → List X
left [] xs = []
left (m ∷ ms) [] = []
left (true ∷ ms) (x ∷ xs) = left ms xs
left (false ∷ ms) (x ∷ xs) = x ∷ left ms xs

-- nothing is taken
left-none : {X : Type 0} (js : List Job) (xs : List X) → length js ≡ length xs → left (none_taken js) xs ≡ xs
left-none [] [] e = refl
left-none [] (x ∷ xs) e = absurd (let c : 0 ≡ suc (length xs) = e in omega arith)
left-none (j ∷ js) [] e = absurd (let c : suc (length js) ≡ 0 = e in omega arith)
left-none (j ∷ js) (x ∷ xs) e =
    ap (λ ys. x ∷ ys) (left-none js xs (let c : suc (length js) ≡ suc (length xs) = e in omega arith))

-- all are taken
left-all : {X : Type 0} (flags : List Bool) (xs : List X) → ((k : ℕ) → slice_index_or flags k true ≡ true)
    → left flags xs ≡ []
left-all [] xs a = refl
left-all (m ∷ ms) [] a = refl
left-all (true ∷ ms) (x ∷ xs) a = left-all ms xs (λ k. a (suc k))
left-all (false ∷ ms) (x ∷ xs) a = absurd (let c : false ≡ true = a 0 in cc)

-- all before the one of that number are taken
left-first : {X : Type 0} (flags : List Bool) (xs : List X) (i : ℕ) (x : X) → slice_get xs i ≡ Some x
    → slice_index_or flags i true ≡ false → ((k : ℕ) → k < i → slice_index_or flags k true ≡ true)
    → (others : List X) × (left flags xs ≡ x ∷ others)
left-first [] xs i x e m a = absurd (let c : true ≡ false = m in cc)
left-first (m ∷ ms) [] i x e n a = absurd (let c : None ≡ Some x = e in cc)
left-first (true ∷ ms) (y ∷ ys) zero x e n a = absurd (let c : true ≡ false = n in cc)
left-first (false ∷ ms) (y ∷ ys) zero x e n a =
    (left ms ys, let same : y ≡ x = same_Some y x e in ap (λ z. z ∷ left ms ys) same)
left-first (true ∷ ms) (y ∷ ys) (suc i) x e n a = left-first ms ys i x e n (λ k h. a (suc k) (omega arith))
left-first (false ∷ ms) (y ∷ ys) (suc i) x e n a = absurd (let c : false ≡ true = a 0 (omega arith) in cc)

-- one that is left has a number that is not taken
among-left : (flags : List Bool) (xs : List (Conjunct Expr)) (d : Conjunct Expr)
    → IsAmong (conjuncts (left flags xs)) d
    → (k : ℕ) × (slice_index_or flags k true ≡ false) × (slice_get xs k ≡ Some d)
among-left [] xs d i = absurd i
among-left (m ∷ ms) [] d i = absurd i
among-left (true ∷ ms) (x ∷ xs) d i = let j = among-left ms xs d i in (suc j.0, j.1, j.2)
among-left (false ∷ ms) (x ∷ xs) d (inl e) = (0, refl, ap Some e)
among-left (false ∷ ms) (x ∷ xs) d (inr i) = let j = among-left ms xs d i in (suc j.0, j.1, j.2)

-- the first that is ready, where those before it are taken or not ready
first-left : (known : ℕ → Bool) (flags : List Bool) (xs : List (Conjunct Expr)) (i : ℕ) (x : Conjunct Expr)
    → slice_get xs i ≡ Some x → slice_index_or flags i true ≡ false → CanBeTaken known x
    → ((k : ℕ) → k < i → slice_index_or flags k true ≡ false → (y : Conjunct Expr) → slice_get xs k ≡ Some y
    → CanBeTaken known y → ⊥)
    → IsFirstReady known (conjuncts (left flags xs)) x (conjuncts (left (set flags i true) xs))
first-left known [] xs i x e m f n = absurd (let c : true ≡ false = m in cc)
first-left known (m ∷ ms) [] i x e u f n = absurd (let c : None ≡ Some x = e in cc)
first-left known (true ∷ ms) (y ∷ ys) zero x e u f n = absurd (let c : true ≡ false = u in cc)
first-left known (false ∷ ms) (y ∷ ys) zero x e u f n =
    let same : y ≡ x = same_Some y x e in inl (subst (CanBeTaken known) (sym same) f, same, refl)
first-left known (true ∷ ms) (y ∷ ys) (suc i) x e u f n =
    first-left known ms ys i x e u f (λ k h. n (suc k) (omega arith))
first-left known (false ∷ ms) (y ∷ ys) (suc i) x e u f n =
    inr (
      n 0 (omega arith) refl y refl,
      (
        conjuncts (left (set ms i true) ys),
        first-left known ms ys i x e u
            f (λ k h. n (suc k) (omega arith)),
        refl,
      ),
    )

jobs-length : (start : ℕ → Bool) (xs : List (Conjunct Expr)) (os : List Bool) → length os ≡ length xs
    → length (jobs_of start xs os) ≡ length xs
jobs-length start [] os e = refl
jobs-length start (x ∷ xs) [] e = absurd (let c : 0 ≡ suc (length xs) = e in omega arith)
jobs-length start (x ∷ xs) (o ∷ os) e =
    ap suc (jobs-length start xs os (let c : suc (length os) ≡ suc (length xs) = e in omega arith))

jobs-at : (start : ℕ → Bool) (xs : List (Conjunct Expr)) (os : List Bool) (i : ℕ) (x : Conjunct Expr)
    (o : Bool)
    → slice_get xs i ≡ Some x → slice_get os i ≡ Some o
    → slice_get (jobs_of start xs os) i ≡ Some (job_of start x o)
jobs-at start [] os i x o e f = absurd (let c : None ≡ Some x = e in cc)
jobs-at start (y ∷ ys) [] i x o e f = absurd (let c : None ≡ Some o = f in cc)
jobs-at start (y ∷ ys) (p ∷ ps) zero x o e f =
    let a : y ≡ x = same_Some y x e in
    let b : p ≡ o = same_Some p o f in ap₂ (λ z q. Some (job_of start z q)) a b
jobs-at start (y ∷ ys) (p ∷ ps) (suc i) x o e f = jobs-at start ys ps i x o e f

-- what becomes known, as a list and as a test
existential-is : (x : Operand Expr) (n : ℕ) → list_any (λ m. m == n) (existential x) ≡ is_existential n x
existential-is (Known e) n = refl
existential-is (Exists m) n = or-false (m == n)

fields-is : (fs : List (FieldId × Operand Expr)) (n : ℕ)
    → list_any (λ m. m == n) (field_existentials fs) ≡ is_in_fields n fs
fields-is [] n = refl
fields-is (f ∷ fs) n =
    list_any-append (λ m. m == n) (existential f.1) (field_existentials fs)
    ∙ ap₂ ◌||◌ (existential-is f.1 n) (fields-is fs n)

learned-is : (c : Conjunct Expr) (n : ℕ) → list_any (λ m. m == n) (learned_from c) ≡ is_learned c n
learned-is (holds p True) n = refl
learned-is (holds p (Equal x y)) n =
    list_any-append (λ m. m == n) (existential x) (existential y)
    ∙ ap₂ ◌||◌ (existential-is x n) (existential-is y n)
learned-is (holds p (Differ x y)) n = refl
learned-is (points p x fs) n = fields-is fs n
learned-is (segment p next x y) n = refl
learned-is (doubly p next back x b z y) n = refl
learned-is (tree p l r x) n = refl
learned-is (choose p t this that) n = refl

-- the ready one of least number is taken off
pub record Pops (i : ℕ) (before : Work) (ready : BTreeSet ℕ) : Type 0 where
  pub was : is_ready before i ≡ true
  pub gone : Updates nat_cmp before.ready ready i false
  pub least : IsLowerBound nat_cmp before.ready i

module _ {A : Type 0} (f : A → Conjunct Expr) (start : ℕ → Bool) (cs : List A) (given : List (Option A)) where
  abbrev jobs : List Job
  jobs = jobs_of start (map f cs) (map is_some given)

  -- the conjuncts were looked at
  abbrev pub ArePrepared : Type 0
  ArePrepared = AllZip (λ c o. IsPrepared (f c) (option_map f o)) cs given

  -- what holds while conjuncts are taken
  pub record Progress (w : Work) (parts : List (Option A)) (taken : List A) : Type 0 where
    pub flags : List Bool
    pub done : Conjuncts Expr
    pub work : IsWork jobs (known_by done start) flags w
    pub takes : Takes start (conjuncts (map f cs)) done (conjuncts (left flags (map f cs)))
    pub goes_on : (os : List (Conjunct Expr))
        → IsOrder (known_by done start) (conjuncts (left flags (map f cs))) (conjuncts os)
        → IsOrder start (conjuncts (map f cs)) (conjuncts (map f taken ++ os))
    pub rest : (i : ℕ) → slice_index_or flags i true ≡ false → slice_get parts i ≡ slice_get given i
    pub size : length parts ≡ length cs

  sizes : ArePrepared → length jobs ≡ length cs
  sizes p =
      jobs-length start (map f cs) (map is_some given)
      (length-map given is_some ∙ AllZip-long (λ c o. IsPrepared (f c) (option_map f o)) cs given p
      ∙ sym (length-map cs f))
      ∙ length-map cs f

  -- at first nothing is taken
  pub progress-starts : (w : Work) → ArePrepared → IsWork jobs start (none_taken jobs) w → Progress w given []
  progress-starts w p is = record {
    flags = none_taken jobs;
    done = none;
    work = is;
    takes = ap conjuncts (sym all);
    goes_on =
        λ os o. subst (λ (xs : List (Conjunct Expr)). IsOrder start (conjuncts xs) (conjuncts os)) all o;
    rest = λ i e. refl;
    size = AllZip-long (λ c o. IsPrepared (f c) (option_map f o)) cs given p;
  }
    where
      all : left (none_taken jobs) (map f cs) ≡ map f cs
      all = left-none jobs (map f cs) (sizes p ∙ sym (length-map cs f))

  -- what is at a number
  pub record At (i : ℕ) : Type 0 where
    pub conjunct : A
    pub part : Option A
    pub here : slice_get cs i ≡ Some conjunct
    pub there : slice_get given i ≡ Some part

  some-at : (i : ℕ) → ArePrepared → i < length cs → At i
  some-at i p h = go (slice_get_cases cs i).1 (slice_get_cases given i).1
    where
      go : ((x : A) × (i < length cs) × (slice_get cs i ≡ Some x) × (slice_index_or cs i x ≡ x))
          ⊎ ((length cs ≤ i) × (slice_get cs i ≡ None))
          → ((x : Option A) × (i < length given) × (slice_get given i ≡ Some x)
          × (slice_index_or given i x ≡ x)) ⊎ ((length given ≤ i) × (slice_get given i ≡ None))
          → At i
      go (inl a) (inl b) = record { conjunct = a.0; part = b.0; here = a.2; there = b.2 }
      go (inr a) b = absurd (let c = a.0 in omega arith)
      go (inl a) (inr b) =
          absurd
          (let c = b.0 in let s = AllZip-long (λ c o. IsPrepared (f c) (option_map f o)) cs given p in
          omega arith)

  job-at : (i : ℕ) (a : At i)
      → slice_get jobs i ≡ Some (job_of start (f a.conjunct) (is_some (option_map f a.part)))
  job-at i a =
      jobs-at start (map f cs) (map is_some given) i (f a.conjunct) (is_some (option_map f a.part))
      (slice_get-map f cs i ∙ ap (option_map f) a.here)
      (slice_get-map is_some given i ∙ ap (option_map is_some) a.there ∙ ap Some (sym (same a.part)))
    where
      same : (o : Option A) → is_some (option_map f o) ≡ is_some o
      same None = refl
      same (Some x) = refl

  prepared-at : (i : ℕ) → ArePrepared → (a : At i) → IsPrepared (f a.conjunct) (option_map f a.part)
  prepared-at i p a =
      zip-at (λ c o. IsPrepared (f c) (option_map f o)) cs given i a.conjunct a.part p a.here a.there

  -- what is served can be taken, and what can be taken is served
  served-taken : (i : ℕ) (w : Work) (parts : List (Option A)) (taken : List A) → ArePrepared
      → (g : Progress w parts taken) (a : At i) → is_served w i ≡ true
      → CanBeTaken (known_by g.done start) (f a.conjunct)
  served-taken i w parts taken p g a e =
      let zero_left : slice_index_or w.lacking.items i 1
      ≡ 0 = eqb-true (slice_index_or w.lacking.items i 1) 0 e in
      let lacks = g.work.lacking i (job_of start (f a.conjunct) (is_some (option_map f a.part)))
      (job-at i a) in
      job-ready start (known_by g.done start) (takes-more start g.done) (f a.conjunct) (option_map f a.part)
      (prepared-at i p a) (omega arith)

  taken-served : (i : ℕ) (w : Work) (parts : List (Option A)) (taken : List A) → ArePrepared
      → (g : Progress w parts taken) (a : At i) → CanBeTaken (known_by g.done start) (f a.conjunct)
      → is_served w i ≡ true
  taken-served i w parts taken p g a k =
      let lacks = g.work.lacking i (job_of start (f a.conjunct) (is_some (option_map f a.part)))
      (job-at i a) in
      let enough = ready-job start (known_by g.done start) (f a.conjunct) (option_map f a.part)
      (prepared-at i p a) k in
      eq-eqb (slice_index_or w.lacking.items i 1) 0 (omega arith)

  -- what is not ready, and not taken yet, cannot be taken
  unready : (k : ℕ) (w : Work) (parts : List (Option A)) (taken : List A) → ArePrepared
      → (g : Progress w parts taken) → slice_index_or g.flags k true ≡ false → is_ready w k ≡ false
      → (y : Conjunct Expr) → slice_get (map f cs) k ≡ Some y → CanBeTaken (known_by g.done start) y → ⊥
  unready k w parts taken p g m e y here c =
      let within : k < length (map f cs) = slice_get_within (map f cs) k y here in
      let a = some-at k p (omega (arith, length-map cs f)) in
      let same : f a.conjunct
      ≡ y = same_Some (f a.conjunct) y (sym (slice_get-map f cs k ∙ ap (option_map f) a.here) ∙ here) in
      let served = taken-served k w parts taken p g a
      (subst (CanBeTaken (known_by g.done start)) (sym same) c) in
      let is = g.work.ready k in
      absurd (let t : true ≡ false = sym (ap₂ (λ x z. x && not z) served m) ∙ sym is ∙ e in cc)

  abbrev pub with_ready : Work → BTreeSet ℕ → Work
  with_ready w ready = record w { ready = ready }

  -- the number that is taken off is of a conjunct that can be taken, and no earlier one can
  pub popped-within : (i : ℕ) (w : Work) (ready : BTreeSet ℕ) (parts : List (Option A)) (taken : List A)
      → ArePrepared → Progress w parts taken → Pops i w ready → i < length cs
  popped-within i w ready parts taken p g o =
      let both = and-not_parts (is_served w i) (slice_index_or g.flags i true)
      (sym (g.work.ready i) ∙ o.was) in
      either (cases_lt i (length w.lacking.items))
      (λ h. let s = g.work.size in omega (arith, sizes p))
      (λ h. absurd (let c : true ≡ false = sym both.0 ∙ one-not_zero (slice_index_or w.lacking.items i 1)
      (get_or_past w.lacking.items i 1 h) in cc))

  popped-work : (i : ℕ) (w : Work) (ready : BTreeSet ℕ) (parts : List (Option A)) (taken : List A)
      → ArePrepared → (g : Progress w parts taken) → Pops i w ready
      → IsWork jobs (known_by g.done start) (set g.flags i true) (with_ready w ready)
  popped-work i w ready parts taken p g o = record {
    size = g.work.size;
    flags = length-set g.flags i true ∙ g.work.flags;
    lacking = g.work.lacking;
    rows = g.work.rows;
    gone = g.work.gone;
    within = g.work.within;
    ready = ready_now;
    served = served_now;
  }
    where
      within : i < length g.flags
      within =
          let h = popped-within i w ready parts taken p g o in
          let m = g.work.flags in omega (arith, sizes p)

      served : is_served w i ≡ true
      served =
          (and-not_parts (is_served w i) (slice_index_or g.flags i true) (sym (g.work.ready i) ∙ o.was)).0

      ready_now : (k : ℕ)
          → is_ready (with_ready w ready) k
          ≡ (is_served w k && not (slice_index_or (set g.flags i true) k true))
      ready_now k = o.gone.0 k ∙ go (eqb_tells i k)
        where
          go : (((i == k) ≡ true) × (i ≡ k)) ⊎ (((i == k) ≡ false) × (i ≢ k))
              → cond (is_at (nat_cmp i) k) false (is_ready w k)
              ≡ (is_served w k && not (slice_index_or (set g.flags i true) k true))
          go (inl e) =
              ap (λ (n : ℕ). cond (is_at (nat_cmp i) n) false (is_ready w n)) (sym e.1)
              ∙ ap (λ (b : Bool). cond b false (is_ready w i)) (at-self i)
              ∙ sym (ap (λ (n : ℕ). is_served w n && not (slice_index_or (set g.flags i true) n true))
              (sym e.1) ∙ ap₂ (λ (a b : Bool). a && not b) served
              (get_or-set_same g.flags i true true within))
          go (inr e) =
              ap (λ (b : Bool). cond b false (is_ready w k)) (at-other i k e.1) ∙ g.work.ready k
              ∙ ap (λ (b : Bool). is_served w k && not b)
              (sym (get_or-set_other g.flags i k true true (λ s. e.1 (sym s))))

      served_now : (k : ℕ) → slice_index_or (set g.flags i true) k true ≡ true → k < length jobs
          → is_served w k ≡ true
      served_now k t h = go (eqb_tells i k)
        where
          go : (((i == k) ≡ true) × (i ≡ k)) ⊎ (((i == k) ≡ false) × (i ≢ k)) → is_served w k ≡ true
          go (inl e) = ap (is_served w) (sym e.1) ∙ served
          go (inr e) = g.work.served k (sym (get_or-set_other g.flags i k true true (λ s. e.1 (sym s))) ∙ t) h

  -- the part that is at the number is there
  popped-some : (i : ℕ) (w : Work) (ready : BTreeSet ℕ) (parts : List (Option A)) (taken : List A)
      → ArePrepared → (g : Progress w parts taken) → Pops i w ready → (a : At i)
      → slice_get parts i ≡ Some a.part
  popped-some i w ready parts taken p g o a =
      g.rest i
      (and-not_parts (is_served w i) (slice_index_or g.flags i true) (sym (g.work.ready i) ∙ o.was)).1
      ∙ a.there

  popped-taken : (i : ℕ) (w : Work) (ready : BTreeSet ℕ) (parts : List (Option A)) (taken : List A)
      → ArePrepared → (g : Progress w parts taken) → Pops i w ready → (a : At i)
      → CanBeTaken (known_by g.done start) (f a.conjunct)
  popped-taken i w ready parts taken p g o a =
      served-taken i w parts taken p g a
      (and-not_parts (is_served w i) (slice_index_or g.flags i true) (sym (g.work.ready i) ∙ o.was)).0

  pub popped-there : (i : ℕ) (w : Work) (ready : BTreeSet ℕ) (parts : List (Option A)) (taken : List A)
      → ArePrepared → Progress w parts taken → Pops i w ready → slice_get parts i ≡ Some None → ⊥
  popped-there i w ready parts taken p g o e =
      let a = some-at i p (popped-within i w ready parts taken p g o) in
      let none : a.part
      ≡ None = same_Some a.part None (sym (popped-some i w ready parts taken p g o a) ∙ e) in
      never a.conjunct a.part none (prepared-at i p a) (popped-taken i w ready parts taken p g o a)
    where
      never : (c : A) (q : Option A) → q ≡ None → IsPrepared (f c) (option_map f q)
          → CanBeTaken (known_by g.done start) (f c) → ⊥
      never c q n r k =
          (subst (λ (z : Option A). IsPrepared (f c) (option_map f z)) n r) (known_by g.done start) k

  -- one is taken
  pub step : (i : ℕ) (w : Work) (ready : BTreeSet ℕ) (parts : List (Option A)) (taken : List A)
      → ArePrepared → Progress w parts taken → Pops i w ready → (c : A) → slice_get parts i ≡ Some (Some c)
      → (after : Work) → Learns (learned_from (f c)) (with_ready w ready) after
      → (others : List (Option A)) → length others ≡ length parts
      → ((k : ℕ) → k ≢ i → slice_get others k ≡ slice_get parts k)
      → Progress after others (taken ++ c ∷ [])
  step i w ready parts taken p g o c here after learns others size same = record {
    flags = set g.flags i true;
    done = then_one g.done (f a.conjunct);
    work =
        work-same jobs (known_with (learned_from (f c)) (known_by g.done start))
        (known_by (then_one g.done (f a.conjunct)) start) (set g.flags i true) after known_now
        (learns.work jobs (known_by g.done start) (set g.flags i true)
        (popped-work i w ready parts taken p g o));
    takes =
        takes-one start (conjuncts (map f cs)) g.done (conjuncts (left g.flags (map f cs))) (f a.conjunct)
        (conjuncts (left (set g.flags i true) (map f cs))) g.takes
        (first-leaves (known_by g.done start) (conjuncts (left g.flags (map f cs))) (f a.conjunct)
        (conjuncts (left (set g.flags i true) (map f cs))) first).0 ready_at;
    goes_on = goes_on;
    rest = rest;
    size = size ∙ g.size;
  }
    where
      a : At i
      a = some-at i p (popped-within i w ready parts taken p g o)

      is : a.part ≡ Some c
      is = same_Some a.part (Some c) (sym (popped-some i w ready parts taken p g o a) ∙ here)

      ready_at : CanBeTaken (known_by g.done start) (f a.conjunct)
      ready_at = popped-taken i w ready parts taken p g o a

      unvisited : slice_index_or g.flags i true ≡ false
      unvisited =
          (and-not_parts (is_served w i) (slice_index_or g.flags i true) (sym (g.work.ready i) ∙ o.was)).1

      within : IsOrderWithin (known_by g.done start) (f a.conjunct) (f c)
      within =
          prepared-within (known_by g.done start) (f a.conjunct) (f c)
          (subst (λ (z : Option A). IsPrepared (f a.conjunct) (option_map f z)) is (prepared-at i p a))
          ready_at

      first : IsFirstReady (known_by g.done start) (conjuncts (left g.flags (map f cs))) (f a.conjunct)
          (conjuncts (left (set g.flags i true) (map f cs)))
      first =
          first-left (known_by g.done start) g.flags (map f cs) i (f a.conjunct)
          (slice_get-map f cs i ∙ ap (option_map f) a.here) unvisited ready_at
          (λ k h m y e. unready k w parts taken p g m (before k h) y e)
        where
          before : (k : ℕ) → k < i → is_ready w k ≡ false
          before k h = go (is_ready w k) refl
            where
              go : (b : Bool) → is_ready w k ≡ b → is_ready w k ≡ false
              go true e = absurd (gt-false i k (o.least k e) h)
              go false e = e

      known_now : (n : ℕ)
          → known_with (learned_from (f c)) (known_by g.done start) n
          ≡ known_by (then_one g.done (f a.conjunct)) start n
      known_now n =
          ap (λ (b : Bool). known_by g.done start n || b)
          (learned-is (f c) n ∙ within-learned (known_by g.done start) (f a.conjunct) (f c) n within)
          ∙ ap (λ (k : ℕ → Bool). k n) (sym (known-then_one start g.done (f a.conjunct)))

      goes_on : (os : List (Conjunct Expr))
          → IsOrder (known_by (then_one g.done (f a.conjunct)) start)
          (conjuncts (left (set g.flags i true) (map f cs))) (conjuncts os)
          → IsOrder start (conjuncts (map f cs)) (conjuncts (map f (taken ++ c ∷ []) ++ os))
      goes_on os more =
          subst (λ (xs : List (Conjunct Expr)). IsOrder start (conjuncts (map f cs)) (conjuncts xs))
          (sym (ap (λ (xs : List (Conjunct Expr)). xs ++ os) (map-append f taken (c ∷ []))
          ∙ append_assoc (map f taken) (f c ∷ []) os))
          (g.goes_on (f c ∷ os) (
            f a.conjunct,
            conjuncts (left (set g.flags i true) (map f cs)),
            first,
            within,
            subst
                (λ (k : ℕ → Bool). IsOrder k (conjuncts (left (set g.flags i true) (map f cs)))
                (conjuncts os)) (known-then_one start g.done (f a.conjunct)) more,
          ))

      rest : (k : ℕ) → slice_index_or (set g.flags i true) k true ≡ false
          → slice_get others k ≡ slice_get given k
      rest k m = go (eqb_tells k i)
        where
          go : (((k == i) ≡ true) × (k ≡ i)) ⊎ (((k == i) ≡ false) × (k ≢ i))
              → slice_get others k ≡ slice_get given k
          go (inl e) = absurd (let h = popped-within i w ready parts taken p g o in let l = g.work.flags in
              let t : true ≡ false = sym (get_or-set_same g.flags i true true (omega (arith, sizes p)))
              ∙ ap (λ (n : ℕ). slice_index_or (set g.flags i true) n true) (sym e.1) ∙ m in
              cc)
          go (inr e) = same k e.1 ∙ g.rest k (sym (get_or-set_other g.flags i k true true e.1) ∙ m)

  all-flags : (w : Work) (parts : List (Option A)) (taken : List A) → (g : Progress w parts taken)
      → ((k : ℕ) → is_ready w k ≡ false) → (k : ℕ) → is_served w k ≡ true
      → slice_index_or g.flags k true ≡ true
  all-flags w parts taken g empty k s = go (slice_index_or g.flags k true) refl
    where
      go : (b : Bool) → slice_index_or g.flags k true ≡ b → slice_index_or g.flags k true ≡ true
      go true e = e
      go false e =
          absurd (let c : true ≡ false = sym (ap₂ (λ (x y : Bool). x && not y) s e) ∙ sym (g.work.ready k)
          ∙ empty k in cc)

  -- nothing is ready and nothing is lacking: they are in order
  pub end-order : (w : Work) (parts : List (Option A)) (taken : List A) → ArePrepared
      → Progress w parts taken → ((k : ℕ) → is_ready w k ≡ false) → IsFirstLacking w.lacking.items None
      → IsOrder start (conjuncts (map f cs)) (conjuncts (map f taken))
  end-order w parts taken p g empty none_lacks =
      subst (λ (xs : List (Conjunct Expr)). IsOrder start (conjuncts (map f cs)) (conjuncts xs))
      (append-nil (map f taken)) (g.goes_on [] (ap conjuncts (left-all g.flags (map f cs) flags)))
    where
      flags : (k : ℕ) → slice_index_or g.flags k true ≡ true
      flags k = either (cases_lt k (length w.lacking.items))
          (λ h. all-flags w parts taken g empty k
          (eq-eqb (slice_index_or w.lacking.items k 1) 0 (none_lacks k h)))
          (λ h. get_or_past g.flags k true (let s = g.work.size in let m = g.work.flags in omega arith))

  -- nothing is ready and something is lacking: the first conjunct that lacks something is the first
  -- that is never taken
  pub end-stuck : (w : Work) (parts : List (Option A)) (taken : List A) → ArePrepared
      → Progress w parts taken → ((k : ℕ) → is_ready w k ≡ false) → (i : ℕ) (c : A)
      → slice_get cs i ≡ Some c → IsFirstLacking w.lacking.items (Some i)
      → IsFirstNeverTaken start (conjuncts (map f cs)) (conjuncts (map f cs)) (place_at (f c))
  end-stuck w parts taken p g empty i c here lacks =
      stuck-first start (conjuncts (map f cs)) g.done (f c) (conjuncts first.0)
      (subst (λ (xs : List (Conjunct Expr)). Takes start (conjuncts (map f cs)) g.done (conjuncts xs))
      first.1 g.takes)
      (λ d a k. let j = among-left g.flags (map f cs) d
      (subst (λ (xs : List (Conjunct Expr)). IsAmong (conjuncts xs) d) (sym first.1) a) in
      unready j.0 w parts taken p g j.1 (empty j.0) d j.2 k)
    where
      unvisited : slice_index_or g.flags i true ≡ false
      unvisited = go (slice_index_or g.flags i true) refl
        where
          go : (b : Bool) → slice_index_or g.flags i true ≡ b → slice_index_or g.flags i true ≡ false
          go true e =
              absurd (let h = lacks.0 in let s = g.work.size in
              let t : true ≡ false = sym (g.work.served i e (omega arith))
              ∙ ne_eqb (slice_index_or w.lacking.items i 1) 0 lacks.1 in cc)
          go false e = e

      first : (others : List (Conjunct Expr)) × (left g.flags (map f cs) ≡ f c ∷ others)
      first = left-first g.flags (map f cs) i (f c) (slice_get-map f cs i ∙ ap (option_map f) here) unvisited
          (λ k h. all-flags w parts taken g empty k
          (eq-eqb (slice_index_or w.lacking.items k 1) 0 (lacks.2 k h)))

module _ {A : Type 0} (f : A → Conjunct Expr) (start : ℕ → Bool) (cs : List A) (given : List (Option A)) where
  read-at : (parts : List (Option A)) (i : ℕ) (read part : Option A) → i < length parts
      → read ≡ slice_index_or parts i read → read ≡ part → slice_get parts i ≡ Some part
  read-at parts i read part h e is = slice_get_read parts (length parts) i read refl h e ∙ ap Some is

  -- one is read, taken and put after those that are taken
  pub step-read : (i : ℕ) (w : Work) (ready : BTreeSet ℕ) (parts : List (Option A)) (taken : List A)
      → ArePrepared f start cs given → Progress f start cs given w parts taken → Pops i w ready
      → (read : Option A) → read ≡ slice_index_or parts i read → (c : A) → read ≡ Some c → (after : Work)
      → Learns (learned_from (f c)) (record w { ready = ready }) after
      → (v : Option A) (longer : List A) → longer ≡ taken ++ c ∷ []
      → Progress f start cs given after (set parts i v) longer
  step-read i w ready parts taken p g o read e c is after learns v longer l =
      subst (λ (xs : List A). Progress f start cs given after (set parts i v) xs) (sym l)
      (step f start cs given i w ready parts taken p g o c
      (read-at parts i read (Some c) (let h = popped-within f start cs given i w ready parts taken p g
      o in
      let s = g.size in omega arith) e is) after learns (set parts i v) (length-set parts i v) other)
    where
      other : (k : ℕ) → k ≢ i → slice_get (set parts i v) k ≡ slice_get parts k
      other k n = get-set_other parts i k v n

  -- none cannot be read
  pub none-read : (i : ℕ) (w : Work) (ready : BTreeSet ℕ) (parts : List (Option A)) (taken : List A)
      → ArePrepared f start cs given → Progress f start cs given w parts taken → Pops i w ready
      → (read : Option A) → read ≡ slice_index_or parts i read → read ≡ None → ⊥
  none-read i w ready parts taken p g o read e is =
      popped-there f start cs given i w ready parts taken p g o
      (read-at parts i read None (let h = popped-within f start cs given i w ready parts taken p g o in
      let s = g.size in omega arith) e is)

  -- whoever waits is one of the jobs
  pub progress-within : (w : Work) (parts : List (Option A)) (taken : List A)
      → Progress f start cs given w parts taken → WaitsWithin w
  progress-within w parts taken g n i c = subst (λ (m : ℕ). i < m) (sym g.work.size) (g.work.within n i c)

  -- the numbers at which something may be lacking are those of the conjuncts
  pub lacking-within : (w : Work) (parts : List (Option A)) (taken : List A) → ArePrepared f start cs given
      → Progress f start cs given w parts taken → (i : ℕ) → i < length w.lacking.items → i < length cs
  lacking-within w parts taken p g i h =
      let s = g.work.size in let l = sizes f start cs given p in omega arith

-- an empty set has nothing
pub empty-has_none : (s : BTreeSet ℕ) (r : Option ℕ) → r ≡ None → (0 < length s.keys → IsSome r) → (k : ℕ)
    → contains nat_cmp s k ≡ false
empty-has_none s r e some k = go s.keys refl
  where
    go : (keys : List ℕ) → s.keys ≡ keys → contains nat_cmp s k ≡ false
    go [] f = ap (λ (xs : List ℕ). list_any (is_at (nat_cmp k)) xs) f
    go (x ∷ xs) f = absurd (let h : 0 < length s.keys = rw f (omega arith) in never r e (some h))
      where
        never : (q : Option ℕ) → q ≡ None → IsSome q → ⊥
        never None n i = absurd (let c : false ≡ true = i in cc)
        never (Some y) n i = absurd (let c : Some y ≡ None = n in cc)
