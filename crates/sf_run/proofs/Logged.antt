-- The log of a run: what its table tells comes after what has led to where that begins.
-- Names: `kind-LAW` of what an event of a kind does; `act-LAW` of the act of a mark; the lemma of the law has the name
-- of its function.
use Rattle.std.specs.Prelude.{◌≡◌, ◌++◌, List, [], ◌∷◌, map, Contains}
use Rattle.std.proofs.Common.{sym, ap, ◌∙◌, refl, subst, inl, inr, arith}
use Rattle.std.proofs.lemmas.List.Sorted.{IsPermutation-cons, IsPermutation-refl, IsPermutation-trans}
use Rattle.std.proofs.lemmas.List.Sums.{sum_by-append}
use Rattle.sf_base.proofs.Elements.{contains-cons, contains-nil}
use Rattle.sf_base.specs.declared.ids.ResId.{ResId}
use Rattle.sf_core.specs.Machine.Config.{Config}
use Rattle.sf_core.specs.Machine.Next.{Next, next}
use Rattle.sf_core.specs.Machine.Step.{Event}
use Rattle.sf_core.specs.Program.Syntax.{Program}
use Rattle.sf_region.specs.Marks.{Kind, private, entry, exit, forking, joining, IsKind, Makes, Mark, events_of}
use Rattle.sf_region.specs.Stamps.{Rising as MarksRise, Tied, Touches as KindTouches, entry_of as mark_entry}
use Rattle.sf_run.specs.Checked.LawsOfLogs.{TablesGoOnWithLogs}
use Rattle.sf_trace.specs.Checked.Laws.{EqualWeightsPermute, LogsCompose, ParallelCallsFork, PrivateActsMeetNobody, RegionsTouchOne}
use Rattle.sf_trace.specs.Logs.{FreesAll, IsLogOf, Precedes, Timed, entry_of}
use Rattle.sf_trace.specs.Trace.{Forks, Joins, Touches}

-- what an event of that kind does: it touches the resources that its kind says, makes and joins children as its
-- kind says, and doesn't set the resources up
record DoesAs (p : Program) (kind : Kind) (what : Next) : Type 0 where
  touches : (r : ResId) → Touches what r → KindTouches r kind
  forks : Forks what → kind ≡ forking
  joins : Joins what → kind ≡ joining
  frees : FreesAll p what → ⊥

module _ (private_acts : PrivateActsMeetNobody) (region_acts : RegionsTouchOne) (fork_acts : ParallelCallsFork)
    (p : Program) where
  kind-does : (kind : Kind) (what : Next) → IsKind p kind what → DoesAs p kind what
  unfolding PrivateActsMeetNobody RegionsTouchOne ParallelCallsFork
  kind-does private what k =
      let h = private_acts p what k in record {
        touches = λ r t. h.0 r t;
        forks = λ t. absurd ((h.1).forks t);
        joins = λ t. absurd ((h.1).joins t);
        frees = (h.1).frees;
      }
  kind-does (entry q) what k =
      let h = region_acts p what q (inl k) in record {
        touches = λ r t. (h.0 r).0 t;
        forks = λ t. absurd ((h.1).forks t);
        joins = λ t. absurd ((h.1).joins t);
        frees = (h.1).frees;
      }
  kind-does (exit q) what k =
      let h = region_acts p what q (inr k) in record {
        touches = λ r t. (h.0 r).0 t;
        forks = λ t. absurd ((h.1).forks t);
        joins = λ t. absurd ((h.1).joins t);
        frees = (h.1).frees;
      }
  kind-does forking what k =
      let h = fork_acts p what k in record {
        touches = λ r t. absurd (h.1 r t);
        forks = λ t. refl;
        joins = λ t. absurd (h.2 t);
        frees = h.3;
      }
  kind-does joining what (frames, one, two, is) =
      subst (DoesAs p joining) (sym is) (record {
        touches = λ r t. t;
        forks = λ t. absurd t;
        joins = λ t. refl;
        frees = λ t. t;
      })

  -- an act is that of a mark
  record IsActOf (m : Mark) (x : Timed) : Type 0 where
    event : x.act.event ≡ m.event
    stamp : x.stamp ≡ m.stamp
    does_as : DoesAs p m.kind x.act.what

  -- so what counts of two acts counts of their marks
  act-tied : (m n : Mark) (x y : Timed) → IsActOf m x → IsActOf n y → Precedes p x.act y.act → Tied m n
  act-tied m n x y a b (inl (inl same)) =
      inl (ap (λ (z : Event). z.task) (sym a.event) ∙ (same ∙ ap (λ (z : Event). z.task) b.event))
  act-tied m n x y a b (inl (inr (inl h))) =
      inr (inl (h.0, (a.does_as).touches h.0 h.1, (b.does_as).touches h.0 h.2))
  act-tied m n x y a b (inl (inr (inr (inl h)))) =
      let child = h.1 in
      inr (inr (inl (
        (a.does_as).forks h.0,
        (
          child.0,
          ap (λ (z : Event). z.task) (sym b.event)
              ∙ (child.1 ∙ ap (λ (z : Event). z.task ++ child.0 ∷ []) a.event),
        ),
      )))
  act-tied m n x y a b (inl (inr (inr (inr h)))) =
      let child = h.1 in
      inr (inr (inr (
        (b.does_as).joins h.0,
        (
          child.0,
          ap (λ (z : Event). z.task) (sym a.event)
              ∙ (child.1 ∙ ap (λ (z : Event). z.task ++ child.0 ∷ []) b.event),
        ),
      )))
  act-tied m n x y a b (inr (inl f)) = absurd ((a.does_as).frees f)
  act-tied m n x y a b (inr (inr f)) = absurd ((b.does_as).frees f)

  -- the log of a list of marks
  record IsMarksLog (marks : List Mark) (c d : Config) : Type 0 where
    is : IsLogOf p c (events_of marks) d (map mark_entry marks)
    of : (x : Timed) → Contains is.timed x → (m : Mark) × Contains marks m × IsActOf m x

  marks-log : (marks : List Mark) (c d : Config) → Makes p c marks d → MarksRise marks
      → IsMarksLog marks c d
  marks-log [] c d same rise = record {
    is = record { timed = []; are = refl; traces = same; entries = IsPermutation-refl []; rising = tt };
    of = λ x h. absurd (contains-nil x h);
  }
  marks-log (m ∷ marks) c d (between, s, kind, makes) rise =
      let rest = marks-log marks between d makes rise.1 in
      let x : Timed = record { act = record { event = m.event; what = next s.from }; stamp = m.stamp } in
      let here : IsActOf m x = record {
        event = refl;
        stamp = refl;
        does_as = kind-does m.kind (next s.from) kind;
      } in
      record {
        is = record {
          timed = x ∷ rest.is.timed;
          are = ap (λ z. m.event ∷ z) rest.is.are;
          traces = (between, s, refl, rest.is.traces);
          entries = IsPermutation-cons (mark_entry m)
              (map entry_of rest.is.timed) (map mark_entry marks) rest.is.entries;
          rising = (
            (λ y h counts.
                let n = rest.of y h in
                let less = rise.0 n.0 n.1 (act-tied m n.0 x y here n.2 counts) in
                let same = (n.2).stamp in omega (arith, less, same)),
            rest.is.rising,
          );
        };
        of = λ y h. elim ((contains-cons x rest.is.timed y).0 h) [
          | inl e ↦ (m, (contains-cons m marks m).1 (inl refl), subst (IsActOf m) e here)
          | inr later ↦
              let n = rest.of y later in
              (n.0, (contains-cons m marks n.0).1 (inr n.1), n.2)
        ];
      }

pub tables_go_on_with_logs : LogsCompose → PrivateActsMeetNobody → RegionsTouchOne → ParallelCallsFork
    → EqualWeightsPermute → TablesGoOnWithLogs
unfolding TablesGoOnWithLogs LogsCompose EqualWeightsPermute
tables_go_on_with_logs compose private_acts region_acts fork_acts equal_weights p events marks c d e log all
    clock one makes rise late weighs =
    let two = marks-log private_acts region_acts fork_acts p marks d e makes rise in
    let both = compose p events (events_of marks) c d e log (map mark_entry marks) one.is two.is (λ x y h k counts.
    let early = one.early x h in
    let n = two.of y k in
    let after = late n.0 n.1 in
    let same = (n.2).stamp in omega (arith, early, after, same)) in
    record {
      timed = both.timed;
      are = both.are;
      traces = both.traces;
      entries = IsPermutation-trans (map entry_of both.timed) (log ++ map mark_entry marks) all both.entries
          (equal_weights (log ++ map mark_entry marks) all (λ weigh.
          let w = weighs weigh in
          let s = sum_by-append weigh log (map mark_entry marks) in omega (arith, w, s)));
      rising = both.rising;
    }
