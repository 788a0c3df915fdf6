-- What an event of a task leaves of the stamps and the logs, whatever its kind: what it needs is
-- which parts stay, which are made and which are no more.
-- Names: `turn-LAW`.
use Rattle.std.specs.Prelude.{◌≡◌, ◌≢◌, ◌⊎◌, ◌+◌, ◌<◌, ◌≤◌, ℕ, suc, true, false, List, [], ◌∷◌, ◌++◌, map, length, Option, Some, Contains}
use Rattle.std.specs.List.{sum_by}
use Rattle.std.proofs.Common.{sym, ap, ◌∙◌, refl, subst, inl, inr, ⊎_elim, arith, true≢false}
use Rattle.std.proofs.lemmas.List.{map-append, length-append}
use Rattle.std.proofs.lemmas.List.Elements.{Contains-push_cases}
use Rattle.std.proofs.lemmas.List.Sums.{sum_by-append, sum_by-cons}
use mathlib.Core.Option.{some}
use lib.ListN.{get_elem?}
use Rattle.sf_base.specs.declared.ids.ResId.{ResId}
use Rattle.sf_base.specs.declared.path.Turn.{Turn}
use Rattle.sf_base.specs.declared.path.Turn.TheVariants.{Left as left, Right as right}
use Rattle.sf_core.specs.Machine.Config.{Path}
use Rattle.sf_core.specs.Machine.Whole.{numbers}
use Rattle.sf_part.specs.declared.content.Content.{Content}
use Rattle.sf_part.specs.Keeps.{IsWaiting}
use Rattle.sf_part.specs.Timed.{Stamped, TimedPart}
use Rattle.sf_region.proofs.Lists.{has-first, has-later, has-none}
use Rattle.sf_region.specs.Marks.{joining, Mark}
use Rattle.sf_region.specs.Stamps.{Touches, IsChild, Tied, Rising, entry_of, units_of, Stamps}

rising-push : (marks : List Mark) (n : Mark) → Rising marks
    → ((m : Mark) → Contains marks m → Tied m n → m.stamp < n.stamp) → Rising (marks ++ n ∷ [])
rising-push [] n up last = ((λ k h t. absurd (has-none k h)), tt)
rising-push (m ∷ marks) n up last = (
  λ k h t. ⊎_elim (λ i. up.0 k i t)
      (λ (e : n ≡ k). subst (λ (z : Mark). m.stamp < z.stamp) e
      (last m (has-first m marks) (subst (λ (z : Mark). Tied m z) (sym e) t)))
      (Contains-push_cases marks n k h),
  rising-push marks n up.1 (λ k h t. last k (has-later m k marks h) t),
)

-- whether two paths are one
pub path-or : (one other : Path) → (one ≡ other) ⊎ (one ≢ other)
path-or [] [] = inl refl
path-or [] (u ∷ other) = inr (λ e. absurd (let l = ap length e in omega arith))
path-or (t ∷ one) [] = inr (λ e. absurd (let l = ap length e in omega arith))
path-or (t ∷ one) (u ∷ other) = ⊎_elim
    (λ first. ⊎_elim (λ more. inl (λ i. first i ∷ more i))
    (λ ne. inr (λ e. ne (let same : one ≡ other = cc in same))) (path-or one other))
    (λ ne. inr (λ e. ne (let same : t ≡ u = cc in same))) (turn-or t u)
  where
    turn-or : (t u : Turn) → (t ≡ u) ⊎ (t ≢ u)
    turn-or left left = inl refl
    turn-or right right = inl refl
    turn-or left right = inr (λ e. absurd (cc))
    turn-or right left = inr (λ e. absurd (cc))

-- the last of a list is no matter to those before it
before-last : {A : Type 0} (xs ys : List A) (x y : A) → xs ++ x ∷ [] ≡ ys ++ y ∷ [] → xs ≡ ys
before-last [] [] x y e = refl
before-last [] (z ∷ ys) x y e =
    let l = ap length e in let k = length-append ys (y ∷ []) in absurd (omega arith)
before-last (z ∷ xs) [] x y e =
    let l = ap length e in let k = length-append xs (x ∷ []) in absurd (omega arith)
before-last {A} (z ∷ xs) (w ∷ ys) x y e =
    let first : z ≡ w = cc in
    let tail : xs ++ x ∷ [] ≡ ys ++ y ∷ [] = cc in
    let same = before-last xs ys x y tail in λ i. first i ∷ same i

-- a child has one parent, and isn't its own
pub child-one : (one other child : Path) → IsChild one child → IsChild other child → one ≡ other
child-one one other child (t, e) (u, f) = before-last one other t u (sym e ∙ f)

pub child-other : (path : Path) → IsChild path path → ⊥
child-other path (t, e) =
    let l = ap length e in let k = length-append path (t ∷ []) in absurd (omega arith)

-- a part of another task, which stays
pub record Still (gs : List TimedPart) (a q : TimedPart) : Type 0 where
  pub there : Contains gs q
  pub apart : q.part.task ≢ a.part.task
  pub childless : IsChild a.part.task q.part.task → ⊥

-- the part of a child that was made
pub record Made (gs : List TimedPart) (a b q : TimedPart) : Type 0 where
  pub child : IsChild a.part.task q.part.task
  pub clock : q.clock ≡ b.clock
  pub keeps : q.keeps ≡ b.keeps
  pub runs : IsWaiting q.part.stand → ⊥
  pub free : (r : ResId) → q.part.holds r ≡ false
  pub new : (o : TimedPart) → Contains gs o → o.part.task ≢ q.part.task

-- there was a part of a child at that path, which is no more
pub record Gone (gs : List TimedPart) (a b : TimedPart) (path : Path) : Type 0 where
  pub child : IsChild a.part.task path
  pub part : TimedPart
  pub there : Contains gs part
  pub task : part.part.task ≡ path
  pub early : part.clock < b.clock

-- Turns: one part becomes another, beside those that stay, those that are made and those that go
pub record Turns (gs hs : List TimedPart) (a b : TimedPart) : Type 0 where
  pub was : Contains gs a
  pub now : Contains hs b
  pub task : b.part.task ≡ a.part.task
  pub later : a.clock < b.clock
  pub keeps : b.keeps ≡ a.keeps
  pub idle : IsWaiting b.part.stand → numbers b.part.supply ≡ []
  pub after : (q : TimedPart) → Contains hs q → (b ≡ q) ⊎ (Still gs a q ⊎ Made gs a b q)
  pub before : (path : Path) → ((q : TimedPart) → Contains hs q → q.part.task ≡ path → ⊥)
      → ((q : TimedPart) → Contains gs q → q.part.task ≡ path → ⊥) ⊎ Gone gs a b path

module _ (first : TimedPart) (marks : List Mark) (gs hs : List TimedPart) (a b : TimedPart)
    (m : Mark) (contents now : List (Option Content)) (st : Stamps first marks gs contents)
    (turns : Turns gs hs a b) (own : m.event.task ≡ a.part.task) (stamp : m.stamp ≡ b.clock) where
  abbrev t : Path
  t = a.part.task

  abbrev n : ℕ
  n = m.stamp

  -- the task's path has the event's stamp from then on
  reign-of : {u : Path} → (u ≡ t) ⊎ (u ≢ t) → ℕ → ℕ
  reign-of (inl e) old = n
  reign-of (inr ne) old = old

  abbrev reign : Path → ℕ
  reign u = reign-of (path-or u t) (st.reign u)

  reign-here : (u : Path) → u ≡ t → reign u ≡ n
  unfolding reign-of
  reign-here u e = go (path-or u t)
    where
      go : (x : (u ≡ t) ⊎ (u ≢ t)) → reign-of x (st.reign u) ≡ n
      go (inl same) = refl
      go (inr ne) = absurd (ne e)

  reign-other : (u : Path) → u ≢ t → reign u ≡ st.reign u
  unfolding reign-of
  reign-other u ne = go (path-or u t)
    where
      go : (x : (u ≡ t) ⊎ (u ≢ t)) → reign-of x (st.reign u) ≡ st.reign u
      go (inl e) = absurd (ne e)
      go (inr far) = refl

  reign-below : st.reign t < n
  reign-below = let h = st.over a turns.was in let k = turns.later in omega arith

  reign-up : (u : Path) → st.reign u ≤ reign u
  reign-up u = ⊎_elim
      (λ e. let h = reign-here u e in let k : st.reign u ≡ st.reign t = ap st.reign e in
      let l = reign-below in omega arith)
      (λ e. let h = reign-other u e in omega arith) (path-or u t)

  -- an earlier event whose order counts has a smaller stamp
  turn-tied : ((m.kind ≡ joining) → (k : Mark) → Contains marks k
      → IsChild m.event.task k.event.task → k.stamp < n)
      → ((k : Mark) (r : ResId) → Contains marks k → Touches r k.kind → Touches r m.kind
      → k.stamp < n)
      → (k : Mark) → Contains marks k → Tied k m → k.stamp < n
  turn-tied joined touch k h (inl e) =
      let x = st.ruled k h in let y : st.reign k.event.task ≡ st.reign t = ap st.reign (e ∙ own) in
      let z = reign-below in omega arith
  turn-tied joined touch k h (inr (inl (r, x, y))) = touch k r h x y
  turn-tied joined touch k h (inr (inr (inl (f, (turn, e))))) =
      let x = st.ruled k h in
      let y = st.elders k.event.task a turns.was (turn, sym own ∙ e) in
      let z = turns.later in omega arith
  turn-tied joined touch k h (inr (inr (inr (j, e)))) = joined j k h e

  -- no event at a path is later than the clock of the part there
  turn-over : (q : TimedPart) → Contains hs q → reign q.part.task ≤ q.clock
  turn-over q h = ⊎_elim
      (λ (e : b ≡ q). let x : b.clock ≡ q.clock = ap (λ (z : TimedPart). z.clock) e in
      let y = reign-here q.part.task (ap (λ (z : TimedPart). z.part.task) (sym e) ∙ turns.task) in
      omega arith)
      (λ s. ⊎_elim
      (λ (i : Still gs a q). let x = st.over q i.there in
      let y = reign-other q.part.task i.apart in omega arith)
      (λ (i : Made gs a b q).
      let c = i.clock in
      let x = st.gone t q.part.task i.child (λ o j e. i.new o j e) in
      let l = reign-below in
      let y = reign-other q.part.task
      (λ e. child-other t (subst (λ z. IsChild t z) e i.child)) in omega arith) s)
      (turns.after q h)

  -- what there was where there is nothing now
  turn-gone : (path child : Path) → IsChild path child
      → ((q : TimedPart) → Contains hs q → q.part.task ≡ child → ⊥) → reign child ≤ reign path
  turn-gone path child c none =
      let apart : child ≢ t = λ e. none b turns.now (turns.task ∙ sym e) in
      let y = reign-other child apart in
      let z = reign-up path in
      ⊎_elim (λ gone. let x = st.gone path child c gone in omega arith)
      (λ (g : Gone gs a b child).
      let x = st.over g.part g.there in
      let e = g.early in
      let k : st.reign g.part.part.task ≡ st.reign child = ap st.reign g.task in
      let w = reign-here path (child-one path t child c g.child) in omega arith)
      (turns.before child none)

  -- what there is below a path
  turn-elders : (path : Path) (q : TimedPart) → Contains hs q → IsChild path q.part.task
      → reign path ≤ q.clock
  turn-elders path q h c = ⊎_elim
      (λ (e : b ≡ q).
      let x : b.clock ≡ q.clock = ap (λ (z : TimedPart). z.clock) e in
      let c' : IsChild path t = (
        c.0,
        sym (ap (λ (z : TimedPart). z.part.task) (sym e) ∙ turns.task) ∙ c.1,
      ) in
      let y = st.elders path a turns.was c' in
      let l = turns.later in
      ⊎_elim (λ (f : path ≡ t). let w = reign-here path f in omega arith)
      (λ f. let w = reign-other path f in omega arith) (path-or path t))
      (λ s. ⊎_elim
      (λ (i : Still gs a q). let x = st.elders path q i.there c in
      ⊎_elim (λ (f : path ≡ t). absurd (i.childless
      (subst (λ (z : Path). IsChild z q.part.task) f c)))
      (λ f. let w = reign-other path f in omega arith) (path-or path t))
      (λ (i : Made gs a b q).
      let x = i.clock in
      let w = reign-here path (child-one path t q.part.task c i.child) in omega arith) s)
      (turns.after q h)

  pub turn-more : ((m.kind ≡ joining) → (k : Mark) → Contains marks k
      → IsChild m.event.task k.event.task → k.stamp < n)
      → ((k : Mark) (r : ResId) → Contains marks k → Touches r k.kind → Touches r m.kind
      → k.stamp < n)
      → ((k : Mark) (r : ResId) → Contains marks k → Touches r k.kind → b.part.holds r ≡ true
      → k.stamp ≤ n)
      → ((r : ResId) (q : TimedPart) → Still gs a q → Touches r m.kind → q.part.holds r ≡ true
      → ⊥)
      → ((k : Mark) (r : ResId) (x : Content) → Contains (marks ++ m ∷ []) k → Touches r k.kind
      → get_elem? now r.0 ≡ some (Some x) → k.stamp ≤ x.stamp)
      → (n ≤ suc (first.clock + length marks))
      → ((r : ℕ) (x : Content) → get_elem? now r ≡ some (Some x)
      → (x.stamp ≤ first.clock + length marks) ⊎ (x.stamp ≡ n))
      → sum_by units_of gs ≡ suc (sum_by units_of hs)
      → (first.keeps ≡ true → (weigh : Stamped → ℕ)
      → sum_by (λ (q : TimedPart). sum_by weigh q.log) hs
      ≡ sum_by (λ (q : TimedPart). sum_by weigh q.log) gs + weigh (entry_of m))
      → Stamps first (marks ++ m ∷ []) hs now
  turn-more joined touch inside sole free most high units logs =
      let len : length (marks ++ m ∷ []) ≡ length marks + 1 = length-append marks (m ∷ []) in
      record {
        logs = λ k weigh.
            let x = st.logs k weigh in let y = logs k weigh in
            let z : sum_by weigh (map entry_of (marks ++ m ∷ []))
            ≡ sum_by weigh (map entry_of marks ++ entry_of m ∷ []) =
            ap (sum_by weigh) (map-append entry_of marks (m ∷ [])) in
            let w = sum_by-append weigh (map entry_of marks) (entry_of m ∷ []) in
            let v = sum_by-cons weigh (entry_of m) [] in omega arith;
        late = λ k h. ⊎_elim (λ i. st.late k i)
            (λ (e : m ≡ k). let x : n ≡ k.stamp = ap (λ (z : Mark). z.stamp) e in
            let y = st.old a turns.was in let l = turns.later in omega arith)
            (Contains-push_cases marks m k h);
        rising = rising-push marks m st.rising (turn-tied joined touch);
        clocks = λ q h. ⊎_elim
            (λ (e : b ≡ q). let x : b.clock ≡ q.clock = ap (λ (z : TimedPart). z.clock) e in
            omega arith)
            (λ s. ⊎_elim
            (λ (i : Still gs a q). let x = st.clocks q i.there in omega arith)
            (λ (i : Made gs a b q). let x = i.clock in omega arith) s)
            (turns.after q h);
        stamps = λ r x e. ⊎_elim (λ y. omega arith) (λ y. omega arith) (high r x e);
        supply = let x = st.supply in omega arith;
        idle = λ q h w. ⊎_elim
            (λ (e : b ≡ q). subst
            (λ (z : TimedPart). IsWaiting z.part.stand → numbers z.part.supply ≡ []) e turns.idle w)
            (λ s. ⊎_elim
            (λ (i : Still gs a q). st.idle q i.there w)
            (λ (i : Made gs a b q). absurd (i.runs w)) s)
            (turns.after q h);
        reign = reign;
        ruled = λ k h. ⊎_elim
            (λ i. let x = st.ruled k i in let y = reign-up k.event.task in omega arith)
            (λ (e : m ≡ k). let x : n ≡ k.stamp = ap (λ (z : Mark). z.stamp) e in
            let y = reign-here k.event.task (ap (λ (z : Mark). z.event.task) (sym e) ∙ own) in
            omega arith) (Contains-push_cases marks m k h);
        over = turn-over;
        gone = turn-gone;
        elders = turn-elders;
        old = λ q h.
            let y = st.old a turns.was in let l = turns.later in
            ⊎_elim
            (λ (e : b ≡ q). let x : b.clock ≡ q.clock = ap (λ (z : TimedPart). z.clock) e in
            omega arith)
            (λ s. ⊎_elim
            (λ (i : Still gs a q). st.old q i.there)
            (λ (i : Made gs a b q). let x = i.clock in omega arith) s)
            (turns.after q h);
        free = free;
        held = λ k r q h x c there. ⊎_elim
            (λ (e : b ≡ q). let y : b.clock ≡ q.clock = ap (λ (z : TimedPart). z.clock) e in
            ⊎_elim (λ i. let z = inside k r i x (ap (λ (w : TimedPart). w.part.holds r) e ∙ there)
            in
            omega arith)
            (λ (f : m ≡ k). let z : n ≡ k.stamp = ap (λ (w : Mark). w.stamp) f in omega arith)
            (Contains-push_cases marks m k h))
            (λ s. ⊎_elim
            (λ (i : Still gs a q). ⊎_elim (λ j. st.held k r q j x i.there there)
            (λ (f : m ≡ k). absurd (sole r q i
            (subst (λ (w : Mark). Touches r w.kind) (sym f) x) there))
            (Contains-push_cases marks m k h))
            (λ (i : Made gs a b q). absurd (true≢false (sym there ∙ i.free r))) s)
            (turns.after q c);
        keeps = λ q h.
            let y = turns.keeps ∙ st.keeps a turns.was in
            ⊎_elim
            (λ (e : b ≡ q). ap (λ (z : TimedPart). z.keeps) (sym e) ∙ y)
            (λ s. ⊎_elim
            (λ (i : Still gs a q). st.keeps q i.there)
            (λ (i : Made gs a b q). i.keeps ∙ y) s)
            (turns.after q h);
      }

-- what was left stays later than the entries and exits where one event more touches no resource
pub free-more : {first : TimedPart} {marks : List Mark} {gs : List TimedPart}
    {contents : List (Option Content)} (m : Mark) → Stamps first marks gs contents
    → ((r : ResId) → Touches r m.kind → ⊥) → (k : Mark) (r : ResId) (c : Content)
    → Contains (marks ++ m ∷ []) k → Touches r k.kind → get_elem? contents r.0 ≡ some (Some c)
    → k.stamp ≤ c.stamp
free-more {marks = marks} m st none k r c h t there = ⊎_elim (λ old. st.free k r c old t there)
    (λ (f : m ≡ k). absurd (none r (subst (λ (z : Mark). Touches r z.kind) (sym f) t)))
    (Contains-push_cases marks m k h)

-- The parts of a table in another order
pub stamps-same : (first : TimedPart) (marks : List Mark) (gs hs : List TimedPart)
    (contents : List (Option Content)) → Stamps first marks gs contents
    → ((f : TimedPart → ℕ) → sum_by f hs ≡ sum_by f gs)
    → ((q : TimedPart) → Contains hs q → Contains gs q)
    → ((q : TimedPart) → Contains gs q → Contains hs q) → Stamps first marks hs contents
stamps-same first marks gs hs contents st sums back there = record {
  logs = λ k weigh. sums (λ (q : TimedPart). sum_by weigh q.log) ∙ st.logs k weigh;
  late = st.late;
  rising = st.rising;
  clocks = λ q h. st.clocks q (back q h);
  stamps = st.stamps;
  supply = ap (λ z. length marks + z) (sums units_of) ∙ st.supply;
  idle = λ q h w. st.idle q (back q h) w;
  reign = st.reign;
  ruled = st.ruled;
  over = λ q h. st.over q (back q h);
  gone = λ path child c none. st.gone path child c (λ q h e. none q (there q h) e);
  elders = λ path q h c. st.elders path q (back q h) c;
  old = λ q h. st.old q (back q h);
  free = st.free;
  held = λ k r q h x c i. st.held k r q h x (back q c) i;
  keeps = λ q h. st.keeps q (back q h);
}
