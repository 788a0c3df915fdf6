-- A fork, which leaves the parts of two children beside their parent's, and the join that takes them
-- in.
-- Names: `fork-LAW`, `join-LAW`.
use Rattle.std.specs.Prelude.{◌≡◌, ◌≢◌, ◌⊎◌, ◌+◌, ◌<◌, ℕ, suc, true, List, [], ◌∷◌, ◌++◌, length, Option, Contains}
use Rattle.std.specs.List.{sum_by}
use Rattle.std.proofs.Common.{sym, ap, ◌∙◌, subst, inl, inr, ⊎_elim, arith, append_assoc}
use Rattle.std.proofs.lemmas.List.{map-append, length-append}
use Rattle.std.proofs.lemmas.List.Sums.{sum_by-append}
use Rattle.std.proofs.lemmas.Option.{same_Some}
use Rattle.sf_base.specs.declared.ids.ResId.{ResId}
use Rattle.sf_base.specs.declared.path.Turn.{Turn}
use Rattle.sf_base.specs.declared.path.Turn.TheVariants.{Left as left, Right as right}
use Rattle.sf_core.specs.Machine.Config.{Frame, Path, runs, waits, Config, task_at}
use Rattle.sf_core.specs.Machine.Next.{next}
use Rattle.sf_core.specs.Machine.Step.{Step}
use Rattle.sf_core.specs.Machine.Whole.{numbers, waiting}
use Rattle.sf_core.specs.Machine.Supplies.{has, lent}
use Rattle.sf_part.specs.Checked.Laws.{ForksAreSteps, JoinsAreSteps, Leads}
use Rattle.sf_part.specs.Checked.LawsOfWhole.{WaitingPartsWait}
use Rattle.sf_part.specs.declared.content.Content.{Content}
use Rattle.sf_part.specs.Keeps.{IsWaiting}
use Rattle.sf_part.specs.Steps.{Begins, Forks, IsChild as IsChildPart, Joins}
use Rattle.sf_part.specs.Timed.{Stamped, TimedPart}
use Rattle.sf_region.specs.Checked.PartLaws.{PartLaws}
use Rattle.sf_region.proofs.Insides.{fork-inside, join-inside}
use Rattle.sf_region.proofs.Lists.{has-focus, has-middle, has-unfocus, sum-focus}
use Rattle.sf_region.proofs.Runs.{history-more}
use Rattle.sf_region.proofs.Told.{Told, alone, childless, kind-on, noted-sum, whole-at}
use Rattle.sf_region.proofs.Units.{takes-unit}
use Rattle.sf_region.proofs.Turns.{Gone, Made, Turns, child-other, free-more, path-or, turn-more}
use Rattle.sf_region.specs.declared.views.Begun.{Begun}
use Rattle.sf_region.specs.Marks.{forking, joining, Mark, IsKind}
use Rattle.sf_region.specs.Rule.{untimed, present}
use Rattle.sf_region.specs.Stamps.{Touches, IsChild, entry_of, units_of}
use Rattle.sf_region.specs.Waits.{BeganAt, first_of, opening_parts, program_in}

-- three in a list
module _ {A : Type 0} (before more : List A) (x y z : A) where
  pub three : (q : A) → Contains (before ++ x ∷ y ∷ z ∷ more) q
      → (x ≡ q) ⊎ ((y ≡ q) ⊎ ((z ≡ q) ⊎ Contains (before ++ more) q))
  three q h = ⊎_elim (λ e. inl e)
      (λ i. ⊎_elim (λ e. inr (inl e))
      (λ j. ⊎_elim (λ e. inr (inr (inl e))) (λ k. inr (inr (inr k)))
      (has-focus before more z q j))
      (has-focus before (z ∷ more) y q i))
      (has-focus before (y ∷ z ∷ more) x q h)

  pub beside-three : (q : A) → Contains (before ++ more) q → Contains (before ++ x ∷ y ∷ z ∷ more) q
  beside-three q h = has-unfocus before (y ∷ z ∷ more) x q
      (has-unfocus before (z ∷ more) y q (has-unfocus before more z q h))

  pub second-three : Contains (before ++ x ∷ y ∷ z ∷ more) y
  second-three = has-unfocus before (y ∷ z ∷ more) x y (has-middle before (z ∷ more) y)

  pub third-three : Contains (before ++ x ∷ y ∷ z ∷ more) z
  third-three = has-unfocus before (y ∷ z ∷ more) x z
      (has-unfocus before (z ∷ more) y z (has-middle before more z))

  pub sum-three : (f : A → ℕ) → sum_by f (before ++ x ∷ y ∷ z ∷ more)
      ≡ f x + (f y + (f z + sum_by f (before ++ more)))
  sum-three f =
      let a = sum-focus f before (y ∷ z ∷ more) x in
      let b = sum-focus f before (z ∷ more) y in
      let c = sum-focus f before more z in omega arith

-- neither touches a region
fork-untouched : (m : Mark) → m.kind ≡ forking → (r : ResId) → Touches r m.kind → ⊥
fork-untouched m kind r t = subst (λ z. Touches r z) kind t

join-untouched : (m : Mark) → m.kind ≡ joining → (r : ResId) → Touches r m.kind → ⊥
join-untouched m kind r t = subst (λ z. Touches r z) kind t

module _ (laws : PartLaws) (b : Begun) (marks : List Mark) (m : Mark) (before more : List TimedPart)
    (x y one two : TimedPart) (contents : List (Option Content))
    (told : Told b marks (before ++ x ∷ more) contents) (kind : m.kind ≡ forking)
    (stamp : m.stamp ≡ y.clock) (e : Forks (program_in b) m.event x y one two) where
  abbrev gs : List TimedPart
  gs = before ++ x ∷ more

  abbrev hs : List TimedPart
  hs = before ++ y ∷ one ∷ two ∷ more

  fork-task : y.part.task ≡ x.part.task
  fork-task = sym e.children.task ∙ e.acts.task

  pub fork-child : (turn : Turn) (q : TimedPart) → q.part.task ≡ y.part.task ++ turn ∷ []
      → IsChild x.part.task q.part.task
  fork-child turn q c = (turn, c ∙ ap (λ z. z ++ turn ∷ []) fork-task)

  -- nothing was there where a child is
  pub fork-new : (path : Path) → IsChild x.part.task path → (o : TimedPart) → Contains gs o
      → o.part.task ≢ path
  fork-new path c o h f = ⊎_elim
      (λ (i : x ≡ o). child-other x.part.task (subst (λ z. IsChild x.part.task z)
      (sym f ∙ ap (λ (z : TimedPart). z.part.task) (sym i)) c))
      (λ i. childless laws b marks m before more x y contents told e.frames e.acts.from_is o i
      (subst (λ z. IsChild x.part.task z) (sym f) c))
      (has-focus before more x o h)

  -- a child is made by the fork
  fork-made : (turn : Turn) (frames : List Frame) (q : TimedPart) → IsChildPart y.part turn q.part
      → Begins y frames q → Made gs x y q
  fork-made turn frames q child begins = record {
    child = fork-child turn q child.task;
    clock = begins.clock;
    keeps = begins.keeps;
    runs = λ w. absurd (subst IsWaiting begins.stand w);
    free = λ r. ap (λ z. z r) child.holds;
    new = fork-new q.part.task (fork-child turn q child.task);
  }

  fork-turns : Turns gs hs x y
  fork-turns = record {
    was = has-middle before more x;
    now = has-middle before (one ∷ two ∷ more) y;
    task = fork-task;
    later = let n = e.notes.clock_is in omega arith;
    keeps = e.notes.keeps;
    idle = λ w. e.none_left;
    after = λ q h. ⊎_elim (λ i. inl i)
        (λ i. ⊎_elim
        (λ (f : one ≡ q). inr (inr (subst (λ (z : TimedPart). Made gs x y z) f
        (fork-made left e.left_frames one e.children.left_one e.left_begins))))
        (λ j. ⊎_elim
        (λ (f : two ≡ q). inr (inr (subst (λ (z : TimedPart). Made gs x y z) f
        (fork-made right e.right_frames two e.children.right_one e.right_begins))))
        (λ k. inr (inl (record {
          there = has-unfocus before more x q k;
          apart = alone laws b marks m before more x y contents told q k;
          childless = childless laws b marks m before more x y contents told e.frames e.acts.from_is q k;
        }))) j) i)
        (three before more y one two q h);
    before = λ path none. inl (λ q h f. ⊎_elim
        (λ (i : x ≡ q). none y (has-middle before (one ∷ two ∷ more) y)
        (fork-task ∙ (ap (λ (z : TimedPart). z.part.task) i ∙ f)))
        (λ i. none q (beside-three before more y one two q i) f) (has-focus before more x q h));
  }

  fork-units : sum_by units_of gs ≡ suc (sum_by units_of hs)
  fork-units =
      let i = sum-focus units_of before more x in
      let j = sum-three before more y one two units_of in
      let u = takes-unit m.event (next (runs e.frames)) (has (numbers x.part.supply))
      (lent (has (numbers one.part.supply)) (has (numbers two.part.supply))) e.spends in
      let l = length-append (numbers one.part.supply) (numbers two.part.supply) in
      let z : units_of y ≡ 0 = ap length e.none_left in omega arith

  fork-logs : (first_of b).keeps ≡ true → (weigh : Stamped → ℕ)
      → sum_by (λ (q : TimedPart). sum_by weigh q.log) hs
      ≡ sum_by (λ (q : TimedPart). sum_by weigh q.log) gs + weigh (entry_of m)
  fork-logs on weigh =
      let i = sum-focus (λ (q : TimedPart). sum_by weigh q.log) before more x in
      let j = sum-three before more y one two (λ (q : TimedPart). sum_by weigh q.log) in
      let u : sum_by weigh one.log ≡ 0 = ap (sum_by weigh) e.left_begins.log in
      let v : sum_by weigh two.log ≡ 0 = ap (sum_by weigh) e.right_begins.log in
      let n = noted-sum weigh x.log y.log x.keeps
      (record { stamp = y.clock; task = m.event.task; number = m.event.number }) (entry_of m)
      (told.stamps.keeps x (has-middle before more x) ∙ on) e.notes.log_is
      (λ i. record { stamp = sym stamp i; task = m.event.task; number = m.event.number }) in
      omega arith

  pub fork-told : Told b (marks ++ m ∷ []) hs contents
  unfolding ForksAreSteps
  fork-told =
      let st = told.stamps in
      let none = fork-untouched m kind in
      let n = e.notes.clock_is in
      let inside = fork-inside (program_in b) m.event x y one two e in
      record {
        exactly = told.exactly;
        start = told.start;
        history = λ c began. history-more (program_in b) (opening_parts b) c marks m (untimed gs)
            (untimed hs) (present contents) (present contents) (told.history c began)
            (subst (λ z. Leads (program_in b) (m.event ∷ []) (told.history c began).config z
            (untimed hs) (present contents))
            (sym (map-append (λ (a : TimedPart). a.part) before (x ∷ more)))
            (subst (λ z. Leads (program_in b) (m.event ∷ []) (told.history c began).config
            (untimed before ++ x.part ∷ untimed more) z (present contents))
            (sym (map-append (λ (a : TimedPart). a.part) before (y ∷ one ∷ two ∷ more)))
            (laws.forks (program_in b) m.event x y one two (untimed before) (untimed more)
            (present contents) (told.history c began).config e
            (whole-at laws b marks m before more x y contents told c began))))
            (kind-on laws b marks m before more x y contents told e.frames e.acts.own e.acts.from_is
            (subst (λ z. IsKind (program_in b) z (next (runs e.frames))) (sym kind) e.fork) c
            began);
        stamps = turn-more (first_of b) marks gs hs x y m contents contents st fork-turns
            e.acts.own stamp (λ j. absurd (let f : forking ≡ joining = sym kind ∙ j in cc))
            (λ k r h t u. absurd (none r u))
            (λ k r h t there. let z = st.held k r x h t (has-middle before more x)
            (sym (inside.1 r) ∙ there) in omega arith)
            (λ r q s t there. none r t)
            (free-more m st none)
            (let z = st.clocks x (has-middle before more x) in omega arith)
            (λ r c there. inl (st.stamps r c there)) fork-units fork-logs;
      }

module _ (laws : PartLaws) (b : Begun) (marks : List Mark) (m : Mark) (before more : List TimedPart)
    (x one two y : TimedPart) (contents : List (Option Content))
    (told : Told b marks (before ++ x ∷ one ∷ two ∷ more) contents) (kind : m.kind ≡ joining)
    (stamp : m.stamp ≡ y.clock) (e : Joins (program_in b) m.event x one two y) where
  abbrev olds : List TimedPart
  olds = before ++ x ∷ one ∷ two ∷ more

  abbrev news : List TimedPart
  news = before ++ y ∷ more

  join-task : y.part.task ≡ x.part.task
  join-task = e.acts.task ∙ e.children.task

  join-stand : x.part.stand ≡ waiting e.frames
  join-stand = sym e.children.stand ∙ e.acts.from_is

  -- the other parts are of other tasks than the two children
  told-left : Told b marks ((before ++ x ∷ []) ++ one ∷ two ∷ more) contents
  told-left = subst (λ z. Told b marks z contents)
      (sym (append_assoc before (x ∷ []) (one ∷ two ∷ more))) told

  left-alone : (q : TimedPart) → Contains (before ++ more) q → q.part.task ≢ one.part.task
  left-alone q h = alone laws b marks m (before ++ x ∷ []) (two ∷ more) one y contents told-left q
      (subst (λ z. Contains z q) (sym (append_assoc before (x ∷ []) (two ∷ more)))
      (has-unfocus before (two ∷ more) x q (has-unfocus before more two q h)))

  told-right : Told b marks ((before ++ x ∷ one ∷ []) ++ two ∷ more) contents
  told-right = subst (λ z. Told b marks z contents)
      (sym (append_assoc before (x ∷ one ∷ []) (two ∷ more))) told

  right-alone : (q : TimedPart) → Contains (before ++ more) q → q.part.task ≢ two.part.task
  right-alone q h = alone laws b marks m (before ++ x ∷ one ∷ []) more two y contents told-right q
      (subst (λ z. Contains z q) (sym (append_assoc before (x ∷ one ∷ []) more))
      (has-unfocus before (one ∷ more) x q (has-unfocus before more one q h)))

  join-alone : (q : TimedPart) → Contains (before ++ more) q → q.part.task ≢ x.part.task
  join-alone q h = alone laws b marks m before (one ∷ two ∷ more) x y contents told q
      (has-unfocus before (two ∷ more) one q (has-unfocus before more two q h))

  -- a child of the task is one of the two
  join-child : (path : Path) → IsChild x.part.task path
      → (path ≡ one.part.task) ⊎ (path ≡ two.part.task)
  join-child path (left, c) = inl (c ∙ sym e.children.left_one.task)
  join-child path (right, c) = inr (c ∙ sym e.children.right_one.task)

  join-gone : (path : Path)
      → ((q : TimedPart) → Contains news q → q.part.task ≡ path → ⊥)
      → ((q : TimedPart) → Contains olds q → q.part.task ≡ path → ⊥) ⊎ Gone olds x y path
  join-gone path none = ⊎_elim
      (λ (f : one.part.task ≡ path). inr (record {
        child = (left, sym f ∙ e.children.left_one.task);
        part = one;
        there = second-three before more x one two;
        task = f;
        early = let n = e.notes.clock_is in omega arith;
      }))
      (λ apart. ⊎_elim
      (λ (f : two.part.task ≡ path). inr (record {
        child = (right, sym f ∙ e.children.right_one.task);
        part = two;
        there = third-three before more x one two;
        task = f;
        early = let n = e.notes.clock_is in omega arith;
      }))
      (λ far. inl (λ q h f. ⊎_elim
      (λ (i : x ≡ q). none y (has-middle before more y)
      (join-task ∙ (ap (λ (z : TimedPart). z.part.task) i ∙ f)))
      (λ j. ⊎_elim (λ (i : one ≡ q). apart (ap (λ (z : TimedPart). z.part.task) i ∙ f))
      (λ k. ⊎_elim (λ (i : two ≡ q). far (ap (λ (z : TimedPart). z.part.task) i ∙ f))
      (λ i. none q (has-unfocus before more y q i) f) k) j)
      (three before more x one two q h)))
      (path-or two.part.task path))
      (path-or one.part.task path)

  join-turns : Turns olds news x y
  join-turns = record {
    was = has-middle before (one ∷ two ∷ more) x;
    now = has-middle before more y;
    task = join-task;
    later = let n = e.notes.clock_is in omega arith;
    keeps = e.notes.keeps;
    idle = λ w. absurd (subst IsWaiting e.acts.to_is w);
    after = λ q h. ⊎_elim (λ i. inl i)
        (λ k. inr (inl (record {
          there = beside-three before more x one two q k;
          apart = join-alone q k;
          childless = λ c. ⊎_elim (λ f. left-alone q k f) (λ f. right-alone q k f)
              (join-child q.part.task c);
        })))
        (has-focus before more y q h);
    before = join-gone;
  }

  join-units : sum_by units_of olds ≡ suc (sum_by units_of news)
  join-units =
      let i = sum-three before more x one two units_of in
      let j = sum-focus units_of before more y in
      let u = takes-unit m.event (next (waits e.frames (runs []) (runs [])))
      (lent (has (numbers one.part.supply)) (has (numbers two.part.supply)))
      (has (numbers y.part.supply)) e.spends in
      let l = length-append (numbers one.part.supply) (numbers two.part.supply) in
      let z : units_of x ≡ 0 = ap length (told.stamps.idle x
      (has-middle before (one ∷ two ∷ more) x) (subst IsWaiting (sym join-stand) tt)) in
      omega arith

  join-logs : (first_of b).keeps ≡ true → (weigh : Stamped → ℕ)
      → sum_by (λ (q : TimedPart). sum_by weigh q.log) news
      ≡ sum_by (λ (q : TimedPart). sum_by weigh q.log) olds + weigh (entry_of m)
  join-logs on weigh =
      let i = sum-three before more x one two (λ (q : TimedPart). sum_by weigh q.log) in
      let j = sum-focus (λ (q : TimedPart). sum_by weigh q.log) before more y in
      let u = sum_by-append weigh x.log (one.log ++ two.log) in
      let v = sum_by-append weigh one.log two.log in
      let n = noted-sum weigh (x.log ++ (one.log ++ two.log)) y.log x.keeps
      (record { stamp = y.clock; task = m.event.task; number = m.event.number }) (entry_of m)
      (told.stamps.keeps x (has-middle before (one ∷ two ∷ more) x) ∙ on) e.notes.log_is
      (λ i. record { stamp = sym stamp i; task = m.event.task; number = m.event.number }) in
      omega arith

  -- the task waits, so its next step is the join
  join-kind : (c : Config) (began : BeganAt b c) (d : Config)
      (s : Step (program_in b) m.event (told.history c began).config d)
      → IsKind (program_in b) m.kind (next s.from)
  unfolding WaitingPartsWait
  join-kind c began d s =
      let h = told.history c began in
      let (p, q, there) = laws.wait (untimed before) (untimed (one ∷ two ∷ more)) x.part
      (present contents) h.config e.frames
      (whole-at laws b marks m before (one ∷ two ∷ more) x y contents told c began) join-stand in
      let from : s.from ≡ waits e.frames p q = same_Some s.from (waits e.frames p q)
      (sym s.there ∙ (ap (λ z. task_at z h.config.tasks) (e.acts.own ∙ e.children.task) ∙ there))
      in
      subst (λ z. IsKind (program_in b) z (next s.from)) (sym kind)
      (e.frames, p, q, ap next from)

  join-early : (k : Mark) → Contains marks k → IsChild m.event.task k.event.task
      → k.stamp < m.stamp
  join-early k h c =
      let st = told.stamps in
      let n = e.notes.clock_is in
      let x' = st.ruled k h in
      let c' : IsChild x.part.task k.event.task = subst (λ (z : Path). IsChild z k.event.task)
      (e.acts.own ∙ e.children.task) c in
      ⊎_elim
      (λ (f : k.event.task ≡ one.part.task).
      let o = st.over one (second-three before more x one two) in
      let g : st.reign k.event.task ≡ st.reign one.part.task = ap st.reign f in omega arith)
      (λ (f : k.event.task ≡ two.part.task).
      let o = st.over two (third-three before more x one two) in
      let g : st.reign k.event.task ≡ st.reign two.part.task = ap st.reign f in omega arith)
      (join-child k.event.task c')

  pub join-told : Told b (marks ++ m ∷ []) news contents
  unfolding JoinsAreSteps
  join-told =
      let st = told.stamps in
      let none = join-untouched m kind in
      let n = e.notes.clock_is in
      let mine = has-middle before (one ∷ two ∷ more) x in
      let inside = join-inside (program_in b) m.event x one two y e in
      record {
        exactly = told.exactly;
        start = told.start;
        history = λ c began. history-more (program_in b) (opening_parts b) c marks m (untimed olds)
            (untimed news) (present contents) (present contents) (told.history c began)
            (subst (λ z. Leads (program_in b) (m.event ∷ []) (told.history c began).config z
            (untimed news) (present contents))
            (sym (map-append (λ (a : TimedPart). a.part) before (x ∷ one ∷ two ∷ more)))
            (subst (λ z. Leads (program_in b) (m.event ∷ []) (told.history c began).config
            (untimed before ++ x.part ∷ one.part ∷ two.part ∷ untimed more) z (present contents))
            (sym (map-append (λ (a : TimedPart). a.part) before (y ∷ more)))
            (laws.joins (program_in b) m.event x one two y (untimed before) (untimed more)
            (present contents) (told.history c began).config e
            (whole-at laws b marks m before (one ∷ two ∷ more) x y contents told c began))))
            (join-kind c began);
        stamps = turn-more (first_of b) marks olds news x y m contents contents st join-turns
            (e.acts.own ∙ e.children.task) stamp (λ j. join-early)
            (λ k r h t u. absurd (none r u))
            (λ k r h t there. let z = st.held k r x h t mine (sym (inside.1 r) ∙ there) in
            omega arith)
            (λ r q s t there. none r t)
            (free-more m st none)
            (let z = st.clocks x mine in
            let u = st.clocks one (second-three before more x one two) in
            let v = st.clocks two (third-three before more x one two) in omega arith)
            (λ r c there. inl (st.stamps r c there)) join-units join-logs;
      }
