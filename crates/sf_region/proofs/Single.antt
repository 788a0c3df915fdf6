-- Stamps and logs after an event of a task that runs, which is neither a fork nor a join.
-- Names: `single-LAW`.
use Rattle.std.specs.Prelude.{◌≡◌, ◌⊎◌, ◌+◌, ◌<◌, ◌≤◌, ℕ, suc, true, List, [], ◌∷◌, ◌++◌, length, Option, Some, Contains}
use Rattle.std.specs.List.{sum_by}
use Rattle.std.proofs.Common.{sym, ap, ◌∙◌, subst, inl, inr, ⊎_elim, arith}
use mathlib.Core.Option.{some}
use lib.ListN.{get_elem?}
use Rattle.sf_base.specs.declared.ids.ResId.{ResId}
use Rattle.sf_core.specs.Machine.Config.{Frame}
use Rattle.sf_core.specs.Machine.Whole.{running}
use Rattle.sf_part.specs.declared.content.Content.{Content}
use Rattle.sf_part.specs.Keeps.{IsWaiting}
use Rattle.sf_part.specs.Timed.{Stamped, TimedPart}
use Rattle.sf_region.proofs.Lists.{has-middle, has-focus, has-unfocus, sum-focus}
use Rattle.sf_region.proofs.Turns.{Still, Turns, turn-more}
use Rattle.sf_region.specs.Marks.{joining, Mark}
use Rattle.sf_region.specs.Stamps.{Touches, IsChild, entry_of, units_of, Stamps}

module _ (first : TimedPart) (marks : List Mark) (before after : List TimedPart) (a b : TimedPart)
    (m : Mark) (contents now : List (Option Content))
    (st : Stamps first marks (before ++ a ∷ after) contents)
    (own : m.event.task ≡ a.part.task) (task : b.part.task ≡ a.part.task)
    (stamp : m.stamp ≡ b.clock) (later : a.clock < b.clock) (frames : List Frame)
    (stand : b.part.stand ≡ running frames)
    (alone : (q : TimedPart) → Contains (before ++ after) q → q.part.task ≡ a.part.task → ⊥)
    (childless : (q : TimedPart) → Contains (before ++ after) q
    → IsChild a.part.task q.part.task → ⊥) (keeps : b.keeps ≡ a.keeps) where
  single-turns : Turns (before ++ a ∷ after) (before ++ b ∷ after) a b
  single-turns = record {
    was = has-middle before after a;
    now = has-middle before after b;
    task = task;
    later = later;
    keeps = keeps;
    idle = λ w. absurd (subst IsWaiting stand w);
    after = λ q h. ⊎_elim (λ e. inl e)
        (λ i. inr (inl (record {
          there = has-unfocus before after a q i;
          apart = alone q i;
          childless = childless q i;
        }))) (has-focus before after b q h);
    before = λ path none. inl (λ q h e. ⊎_elim
        (λ (i : a ≡ q). none b (has-middle before after b)
        (task ∙ (ap (λ (z : TimedPart). z.part.task) i ∙ e)))
        (λ i. none q (has-unfocus before after b q i) e) (has-focus before after a q h));
  }

  -- what stays is one of the others
  single-other : (q : TimedPart) → Still (before ++ a ∷ after) a q → Contains (before ++ after) q
  single-other q s = ⊎_elim
      (λ (e : a ≡ q). absurd (s.apart (ap (λ (z : TimedPart). z.part.task) (sym e)))) (λ i. i)
      (has-focus before after a q s.there)

  pub single-more : ((m.kind ≡ joining) → ⊥)
      → ((k : Mark) (r : ResId) → Contains marks k → Touches r k.kind → Touches r m.kind
      → k.stamp < m.stamp)
      → ((k : Mark) (r : ResId) → Contains marks k → Touches r k.kind → b.part.holds r ≡ true
      → k.stamp ≤ m.stamp)
      → ((r : ResId) (q : TimedPart) → Contains (before ++ after) q → Touches r m.kind
      → q.part.holds r ≡ true → ⊥)
      → ((k : Mark) (r : ResId) (x : Content) → Contains (marks ++ m ∷ []) k → Touches r k.kind
      → get_elem? now r.0 ≡ some (Some x) → k.stamp ≤ x.stamp)
      → (m.stamp ≤ suc (first.clock + length marks))
      → ((r : ℕ) (x : Content) → get_elem? now r ≡ some (Some x)
      → (x.stamp ≤ first.clock + length marks) ⊎ (x.stamp ≡ m.stamp))
      → units_of a ≡ suc (units_of b)
      → (first.keeps ≡ true → (weigh : Stamped → ℕ)
      → sum_by weigh b.log ≡ sum_by weigh a.log + weigh (entry_of m))
      → Stamps first (marks ++ m ∷ []) (before ++ b ∷ after) now
  single-more no_join touch inside sole free most high units logs = turn-more first marks
      (before ++ a ∷ after) (before ++ b ∷ after) a b m contents now st single-turns own stamp
      (λ j. absurd (no_join j)) touch inside
      (λ r q s t there. sole r q (single-other q s) t there) free most high
      (let i = sum-focus units_of before after a in
      let j = sum-focus units_of before after b in omega arith)
      (λ k weigh.
      let y = logs k weigh in
      let i = sum-focus (λ (q : TimedPart). sum_by weigh q.log) before after a in
      let j = sum-focus (λ (q : TimedPart). sum_by weigh q.log) before after b in omega arith)
