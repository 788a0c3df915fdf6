-- One event of a seat's task, and what it leaves of the history, the stamps and the contents.
-- Names: `act-LAW` of one event, `advance-LAW` of several, `KIND-LAW` of one kind.
use Rattle.std.specs.Prelude.{◌≡◌, ◌≢◌, ◌⊎◌, ◌<◌, ◌≤◌, ℕ, suc, List, [], ◌∷◌, ◌++◌, length, Option, Some, None, Contains}
use Rattle.std.proofs.Common.{set, sym, ap, ◌∙◌, refl, subst, inl, inr, ⊎_elim, arith, append_assoc, append-nil}
use Rattle.std.proofs.lemmas.List.Elements.{Contains-push_cases}
use mathlib.Core.Logic.{dite}
use mathlib.Core.Option.{some}
use native.Mathlib.Decide.{ℕ_discrete}
use lib.ListN.{get_elem?}
use Rattle.atomic_table.proofs.Lists.{set_here, set_else}
use Rattle.sf_base.specs.declared.ids.ResId.{ResId}
use Rattle.sf_core.specs.Machine.Config.{runs}
use Rattle.sf_core.specs.Machine.Next.{next}
use Rattle.sf_core.specs.Machine.Whole.{Whole, numbers, running}
use Rattle.sf_core.specs.Machine.Supplies.{has}
use Rattle.sf_part.specs.Checked.Laws.{EntriesAreSteps, ExitsAreSteps, Leads}
use Rattle.sf_part.specs.declared.content.Content.{Content}
use Rattle.sf_part.specs.Contents.{content_of}
use Rattle.sf_part.specs.Given.{Gives}
use Rattle.sf_part.specs.Steps.{Enters, Exits}
use Rattle.sf_part.specs.Timed.{TimedPart}
use Rattle.sf_region.specs.Checked.PartLaws.{PartLaws}
use Rattle.sf_region.proofs.Insides.{private-inside, entry-inside, exit-inside, fork-inside, join-inside, private-tidy, entry-tidy, exit-tidy, fork-tidy, join-tidy}
use Rattle.sf_region.proofs.Lists.{cut, in_range, has-first, has-middle, present-with, present-without}
use Rattle.sf_region.proofs.Single.{single-more}
use Rattle.sf_region.proofs.Units.{takes-unit}
use Rattle.sf_region.specs.declared.views.Begun.{Begun}
use Rattle.sf_region.specs.Holdings.{Holding, taken, with_hand, entered, Does, Act, Advance}
use Rattle.sf_region.specs.Marks.{Kind, private, entry, exit, forking, joining, Mark, IsKind}
use Rattle.sf_region.specs.Rule.{IsExactly, IsTidy, untimed, present}
use Rattle.sf_region.specs.Stamps.{Touches, entry_of}
use Rattle.sf_region.specs.Waits.{first_of, program_in}
use Rattle.sf_region.proofs.Told.{LeadsOn, Out, Told, alone, around, childless, history-on, kind-on, not-both, not-held, noted-sum, placed, private-told, some-not, some-same, whole-at}
use Rattle.sf_region.proofs.Children.{fork-told, join-told}

-- the entry of a region, with the content in hand
module _ (laws : PartLaws) (b : Begun) (marks : List Mark) (m : Mark) (before more : List TimedPart) (x y : TimedPart)
    (base : List (Option Content)) (k : Content)
    (told : Told b marks (before ++ x ∷ more) (set base k.resource.0 (Some k)))
    (none_there : get_elem? base k.resource.0 ≡ some None)
    (kind : m.kind ≡ entry k.resource) (stamp : m.stamp ≡ y.clock)
    (e : Enters (program_in b) m.event x (content_of k) y) where
  abbrev q : ResId
  q = k.resource

  abbrev with_k : List (Option Content)
  with_k = set base q.0 (Some k)

  there-k : get_elem? with_k q.0 ≡ some (Some k)
  there-k = set_here base q.0 (Some k) (in_range base q.0 None none_there)

  elsewhere : (r : ℕ) → r ≢ q.0 → get_elem? with_k r ≡ get_elem? base r
  elsewhere r ne = set_else base q.0 r (Some k) ne

  not-there : (r : ℕ) (c : Content) → get_elem? base r ≡ some (Some c) → r ≢ q.0
  not-there r c h same = some-not c (sym h ∙ (ap (get_elem? base) same ∙ none_there))

  same-kind : (r : ResId) → Touches r m.kind → q ≡ r
  same-kind r t = subst (λ z. Touches r z) kind t

  entry-leads : LeadsOn laws b marks m before more x y with_k told base
  unfolding EntriesAreSteps
  entry-leads c began =
      let cc' = cut base q.0 None none_there in
      let h = told.history c began in
      let w = whole-at laws b marks m before more x y with_k told c began in
      subst (λ z. Leads (program_in b) (m.event ∷ []) h.config
      (untimed before ++ x.part ∷ untimed more) (untimed before ++ y.part ∷ untimed more) z)
      (sym (present-without base q.0 cc'))
      (laws.entries (program_in b) m.event x y (content_of k) (untimed before) (untimed more)
      (present cc'.before) (present cc'.after) h.config e
      (subst (λ z. Whole (untimed before ++ x.part ∷ untimed more) z h.config)
      (present-with base q.0 k cc') w))

  pub entry-told : Told b (marks ++ m ∷ []) (before ++ y ∷ more) base
  entry-told =
      let st = told.stamps in
      let clock = e.notes.clock_is in
      let i = entry-inside (program_in b) m.event x y (content_of k) e in
      let stand : x.part.stand ≡ running e.frames = sym e.hand.stand ∙ e.acts.from_is in
      let own : m.event.task ≡ x.part.task = e.acts.own ∙ e.hand.task in
      let task : y.part.task ≡ x.part.task = e.acts.task ∙ e.hand.task in
      let top = st.stamps q.0 k there-k in
      let mine = st.clocks x (has-middle before more x) in
      let low : (z : Mark) (r : ResId) → Contains marks z → Touches r z.kind → q ≡ r
      → z.stamp ≤ k.stamp = λ z r h t s. st.free z q k h (subst (λ u. Touches u z.kind) (sym s) t)
      there-k in
      record {
        exactly = λ r c h. told.exactly r c (elsewhere r (not-there r c h) ∙ h);
        start = told.start;
        history = history-on laws b marks m before more x y with_k told base entry-leads
            (kind-on laws b marks m before more x y with_k told e.frames own stand
            (subst (λ z. IsKind (program_in b) z (next (runs e.frames))) (sym kind) e.entry));
        stamps = single-more (first_of b) marks before more x y m with_k base st own task stamp
            (omega arith) e.kept e.acts.to_is (alone laws b marks m before more x y with_k told)
            (childless laws b marks m before more x y with_k told e.frames stand) e.notes.keeps
            (λ j. absurd (let f : entry q ≡ joining = sym kind ∙ j in cc))
            (λ z r h t u. let l = low z r h t (same-kind r u) in omega arith)
            (λ z r h t inside. dite (ℕ_discrete r.0 q.0)
            (λ s. let l = low z r h t (λ j. record { 0 = sym s j }) in omega arith)
            (λ ne. let l = st.held z r x h t (has-middle before more x) (sym (i.3 r ne) ∙ inside) in
            omega arith))
            (λ r o h t inside. not-held laws b marks m before more x y with_k told k q.0 there-k o h
            (ap o.part.holds (same-kind r t) ∙ inside))
            (λ z r c h t there. ⊎_elim
            (λ old. st.free z r c old t (elsewhere r.0 (not-there r.0 c there) ∙ there))
            (λ (f : m ≡ z). absurd (not-there r.0 c there (ap (λ (u : ResId). u.0)
            (sym (same-kind r (subst (λ (u : Mark). Touches r u.kind) (sym f) t))))))
            (Contains-push_cases marks m z h))
            (omega arith)
            (λ r c there. inl (st.stamps r c (elsewhere r (not-there r c there) ∙ there)))
            (takes-unit m.event (next (runs e.frames)) (has (numbers x.part.supply))
            (has (numbers y.part.supply)) e.spends)
            (λ on weigh. noted-sum weigh x.log y.log x.keeps
            (record { stamp = y.clock; task = m.event.task; number = m.event.number }) (entry_of m)
            (st.keeps x (has-middle before more x) ∙ on) e.notes.log_is
            (λ j. record { stamp = sym stamp j; task = m.event.task; number = m.event.number }));
      }

-- the exit from a region, which leaves the content in hand
module _ (laws : PartLaws) (b : Begun) (marks : List Mark) (m : Mark) (before more : List TimedPart) (x y : TimedPart)
    (base : List (Option Content)) (k : Content)
    (told : Told b marks (before ++ x ∷ more) base)
    (none_there : get_elem? base k.resource.0 ≡ some None)
    (kind : m.kind ≡ exit k.resource) (stamp : m.stamp ≡ y.clock)
    (is_in : Rattle.sf_part.specs.Contents.IsContentIn (program_in b) k)
    (gives : Gives (program_in b) m.event x (content_of k) y) where
  abbrev s : ResId
  s = k.resource

  abbrev e : Exits (program_in b) m.event x (content_of k) y
  e = gives.exits

  abbrev put : List (Option Content)
  put = set base s.0 (Some k)

  there-put : get_elem? put s.0 ≡ some (Some k)
  there-put = set_here base s.0 (Some k) (in_range base s.0 None none_there)

  elsewhere' : (r : ℕ) → r ≢ s.0 → get_elem? put r ≡ get_elem? base r
  elsewhere' r ne = set_else base s.0 r (Some k) ne

  -- what is there now is the new one or was there
  which : (r : ℕ) (c : Content) → get_elem? put r ≡ some (Some c)
      → ((r ≡ s.0) × (k ≡ c)) ⊎ ((r ≢ s.0) × (get_elem? base r ≡ some (Some c)))
  which r c h = dite (ℕ_discrete r s.0)
      (λ f. inl (f, some-same k c (sym there-put ∙ (ap (get_elem? put) (sym f) ∙ h))))
      (λ ne. inr (ne, sym (elsewhere' r ne) ∙ h))

  same-kind' : (r : ResId) → Touches r m.kind → s ≡ r
  same-kind' r t = subst (λ z. Touches r z) kind t

  exit-leads : LeadsOn laws b marks m before more x y base told put
  unfolding ExitsAreSteps
  exit-leads c began =
      let cc' = cut base s.0 None none_there in
      let h = told.history c began in
      let w = whole-at laws b marks m before more x y base told c began in
      subst (λ z. Leads (program_in b) (m.event ∷ []) h.config
      (untimed before ++ x.part ∷ untimed more) (untimed before ++ y.part ∷ untimed more) z)
      (sym (present-with base s.0 k cc'))
      (laws.exits (program_in b) m.event x y (content_of k) (untimed before) (untimed more)
      (present cc'.before) (present cc'.after) h.config e
      (subst (λ z. Whole (untimed before ++ x.part ∷ untimed more) z h.config)
      (present-without base s.0 cc') w))

  pub exit-told : Told b (marks ++ m ∷ []) (before ++ y ∷ more) put
  exit-told =
      let st = told.stamps in
      let clock = e.notes.clock_is in
      let i = exit-inside (program_in b) m.event x y (content_of k) e in
      let stand = e.acts.from_is in
      let task : y.part.task ≡ x.part.task = sym e.hand.task ∙ e.acts.task in
      let mine = st.clocks x (has-middle before more x) in
      let new = e.stamp in
      let low : (z : Mark) (r : ResId) → Contains marks z → Touches r z.kind → s ≡ r
      → z.stamp ≤ x.clock = λ z r h t f. st.held z r x h t (has-middle before more x)
      (ap x.part.holds (sym f) ∙ i.1) in
      record {
        exactly = λ r c h. ⊎_elim
            (λ (f : (r ≡ s.0) × (k ≡ c)). subst (λ (z : Content). IsExactly (program_in b) r z) f.1
            (record { number = sym f.0; is_in = is_in; exactly = gives.exactly }))
            (λ f. told.exactly r c f.1) (which r c h);
        start = told.start;
        history = history-on laws b marks m before more x y base told put exit-leads
            (kind-on laws b marks m before more x y base told e.frames e.acts.own stand
            (subst (λ z. IsKind (program_in b) z (next (runs e.frames))) (sym kind) e.exit));
        stamps = single-more (first_of b) marks before more x y m base put st e.acts.own task stamp
            (omega arith) e.kept (sym e.hand.stand ∙ e.acts.to_is)
            (alone laws b marks m before more x y base told)
            (childless laws b marks m before more x y base told e.frames stand) e.notes.keeps
            (λ j. absurd (let f : exit s ≡ joining = sym kind ∙ j in cc))
            (λ z r h t u. let l = low z r h t (same-kind' r u) in omega arith)
            (λ z r h t inside. dite (ℕ_discrete r.0 s.0)
            (λ f. let same : r ≡ s = λ j. record { 0 = f j } in
            absurd (Rattle.std.proofs.Common.true≢false
            (sym inside ∙ (ap y.part.holds same ∙ i.2))))
            (λ ne. let l = st.held z r x h t (has-middle before more x) (sym (i.3 r ne) ∙ inside) in
            omega arith))
            (λ r o h t inside. not-both laws b marks m before more x y base told r o h inside
            (ap x.part.holds (sym (same-kind' r t)) ∙ i.1))
            (λ z r c h t there. ⊎_elim
            (λ (f : (r.0 ≡ s.0) × (k ≡ c)). let g : k.stamp ≡ c.stamp = ap (λ (u : Content).
            u.stamp) f.1 in
            ⊎_elim (λ old. let l = low z r old t (λ j. record { 0 = sym f.0 j }) in omega arith)
            (λ (g' : m ≡ z). let l : m.stamp ≡ z.stamp = ap (λ (u : Mark). u.stamp) g' in omega
            arith)
            (Contains-push_cases marks m z h))
            (λ f. ⊎_elim (λ old. st.free z r c old t f.1)
            (λ (g : m ≡ z). absurd (f.0 (ap (λ (u : ResId). u.0)
            (sym (same-kind' r (subst (λ (u : Mark). Touches r u.kind) (sym g) t))))))
            (Contains-push_cases marks m z h)) (which r.0 c there))
            (omega arith)
            (λ r c there. ⊎_elim
            (λ (f : (r ≡ s.0) × (k ≡ c)). let g : k.stamp ≡ c.stamp = ap (λ (u : Content).
            u.stamp) f.1 in
            inr (omega arith))
            (λ f. inl (st.stamps r c f.1)) (which r c there))
            (takes-unit m.event (next (runs e.frames)) (has (numbers x.part.supply))
            (has (numbers e.both.supply)) e.spends ∙ ap (λ z. suc (length (numbers z))) e.hand.supply)
            (λ on weigh. noted-sum weigh x.log y.log x.keeps
            (record { stamp = y.clock; task = m.event.task; number = m.event.number }) (entry_of m)
            (st.keeps x (has-middle before more x) ∙ on) e.notes.log_is
            (λ j. record { stamp = sym stamp j; task = m.event.task; number = m.event.number }));
      }

-- one event of a holding
module _ (laws : PartLaws) (b : Begun) (before after : List TimedPart) (base : List (Option Content)) where
  pub record Stays (marks : List Mark) (a c : Holding) : Type 0 where
    pub told : Told b marks (around before c after) (placed c.hand base)
    pub taken_is : taken c ≡ taken a
    pub tidy : IsTidy c.part
    pub later : c.part.part.task ≡ a.part.part.task

  pub act-stays : (marks : List Mark) (m : Mark) (a c : Holding)
      → Told b marks (around before a after) (placed a.hand base) → Out base (taken a)
      → IsTidy a.part → Act (program_in b) a m c
      → Stays (marks ++ m ∷ []) a c × (m.event.task ≡ a.part.part.task)
      × (a.part.clock < c.part.clock)
  act-stays marks m a c told out tidy (stamp, does) = go m.kind refl does
    where
      go : (kind : Kind) → m.kind ≡ kind → Does (program_in b) a kind m.event c
          → Stays (marks ++ m ∷ []) a c × (m.event.task ≡ a.part.part.task)
          × (a.part.clock < c.part.clock)
      go private kind (hand, kids, e) =
          let i = private-inside (program_in b) m.event a.part c.part e in
          let clock = e.notes.clock_is in (
            record {
              told = subst (λ (z : List TimedPart × Option Content).
                  Told b (marks ++ m ∷ []) (before ++ c.part ∷ (z.0 ++ after)) (placed z.1 base))
                  (λ j. (sym kids j, sym hand j))
                  (private-told laws b marks m before (a.kids ++ after) a.part c.part
                  (placed a.hand base) told kind stamp e);
              taken_is = λ j. with_hand (hand j) (i.0 j);
              tidy = private-tidy (program_in b) m.event a.part c.part e tidy;
              later = e.acts.task;
            },
            e.acts.own,
            omega arith,
          )
      go (entry r) kind (k, in_hand, of, hand, kids, e) =
          let i = entry-inside (program_in b) m.event a.part c.part (content_of k) e in
          let clock = e.notes.clock_is in
          let none_there = out k.resource.0 (subst (λ z. Contains z k.resource.0)
          (ap (λ z. with_hand z (entered a.part.part.stand)) (sym in_hand))
          (has-first k.resource.0 (entered a.part.part.stand))) in (
            record {
              told = subst (λ (z : List TimedPart × Option Content).
                  Told b (marks ++ m ∷ []) (before ++ c.part ∷ (z.0 ++ after)) (placed z.1 base))
                  (λ j. (sym kids j, sym hand j))
                  (entry-told laws b marks m before (a.kids ++ after) a.part c.part base k
                  (subst (λ z. Told b marks (around before a after) (placed z base)) in_hand told)
                  none_there (kind ∙ ap entry (sym of)) stamp e);
              taken_is = (λ j. with_hand (hand j) (i.0 j))
                  ∙ ap (λ z. with_hand z (entered a.part.part.stand)) (sym in_hand);
              tidy = entry-tidy (program_in b) m.event a.part c.part (content_of k) e tidy;
              later = e.acts.task ∙ e.hand.task;
            },
            e.acts.own ∙ e.hand.task,
            omega arith,
          )
      go (exit r) kind (k, empty, hand, of, kids, is_in, gives) =
          let e = gives.exits in
          let i = exit-inside (program_in b) m.event a.part c.part (content_of k) e in
          let clock = e.notes.clock_is in
          let none_there = out k.resource.0 (subst (λ z. Contains z k.resource.0)
          ((λ j. with_hand (sym empty j) (sym i.0 j)))
          (has-first k.resource.0 (entered c.part.part.stand))) in (
            record {
              told = subst (λ (z : List TimedPart × Option Content).
                  Told b (marks ++ m ∷ []) (before ++ c.part ∷ (z.0 ++ after)) (placed z.1 base))
                  (λ j. (sym kids j, sym hand j))
                  (exit-told laws b marks m before (a.kids ++ after) a.part c.part base k
                  (subst (λ z. Told b marks (around before a after) (placed z base)) empty told)
                  none_there (kind ∙ ap exit (sym of)) stamp is_in gives);
              taken_is = (λ j. with_hand (hand j) (entered c.part.part.stand))
                  ∙ (sym i.0 ∙ ap (λ z. with_hand z (entered a.part.part.stand)) (sym empty));
              tidy = exit-tidy (program_in b) m.event a.part c.part (content_of k) e tidy;
              later = sym e.hand.task ∙ e.acts.task;
            },
            e.acts.own,
            omega arith,
          )
      go forking kind (one, two, hand, none, kids, e) =
          let i = fork-inside (program_in b) m.event a.part c.part one two e in
          let clock = e.notes.clock_is in (
            record {
              told = subst (λ (z : List TimedPart × Option Content).
                  Told b (marks ++ m ∷ []) (before ++ c.part ∷ (z.0 ++ after)) (placed z.1 base))
                  (λ j. (sym kids j, sym hand j))
                  (fork-told laws b marks m before after a.part c.part one two (placed a.hand base)
                  (subst (λ (z : List TimedPart). Told b marks (before ++ a.part ∷ (z ++ after))
                  (placed a.hand base)) none told) kind stamp e);
              taken_is = λ j. with_hand (hand j) (i.0 j);
              tidy = fork-tidy (program_in b) m.event a.part c.part one two e tidy;
              later = sym e.children.task ∙ e.acts.task;
            },
            e.acts.own,
            omega arith,
          )
      go joining kind (one, two, hand, kids, none, e) =
          let i = join-inside (program_in b) m.event a.part one two c.part e in
          let clock = e.notes.clock_is in (
            record {
              told = subst (λ (z : List TimedPart × Option Content).
                  Told b (marks ++ m ∷ []) (before ++ c.part ∷ (z.0 ++ after)) (placed z.1 base))
                  (λ j. (sym none j, sym hand j))
                  (join-told laws b marks m before after a.part one two c.part (placed a.hand base)
                  (subst (λ (z : List TimedPart). Told b marks (before ++ a.part ∷ (z ++ after))
                  (placed a.hand base)) kids told) kind stamp e);
              taken_is = λ j. with_hand (hand j) (i.0 j);
              tidy = join-tidy (program_in b) m.event a.part one two c.part e tidy;
              later = e.acts.task ∙ e.children.task;
            },
            e.acts.own ∙ e.children.task,
            omega arith,
          )

  pub advance-stays : (marks more : List Mark) (a c : Holding)
      → Told b marks (around before a after) (placed a.hand base) → Out base (taken a)
      → IsTidy a.part → Advance (program_in b) a more c → Stays (marks ++ more) a c
  advance-stays marks [] a c told out tidy e =
      subst (λ z. Stays z a c) (sym (append-nil marks))
      (subst (λ z. Stays marks a z) (sym e)
      (record { told = told; taken_is = refl; tidy = tidy; later = refl }))
  advance-stays marks (m ∷ more) a c told out tidy (between, act, rest) =
      let (s, own, clock) = act-stays marks m a between told out tidy act in
      let t = advance-stays (marks ++ m ∷ []) more between c s.told
      (subst (Out base) (sym s.taken_is) out) s.tidy rest in
      let u : Stays (marks ++ m ∷ more) between c =
      subst (λ z. Stays z between c) (append_assoc marks (m ∷ []) more) t in
      record {
        told = u.told;
        taken_is = u.taken_is ∙ s.taken_is;
        tidy = u.tidy;
        later = u.later ∙ s.later;
      }
