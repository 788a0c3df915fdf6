-- The laws of numbered lists, under the names of their functions in src/laws.rt.
use Rattle.std.specs.Prelude.{◌≡◌, ℕ, zero, suc, List, [], ◌∷◌, ◌++◌, length}
use Rattle.std.proofs.Common.{sym, ap, refl, subst, arith}
use Rattle.sf_base.proofs.Options.{some-once}
use Rattle.sf_core.specs.Machine.Config.{Path, Config}
use Rattle.sf_core.specs.Machine.SpentSteps.{Spending, spends}
use Rattle.sf_core.specs.Machine.Step.{Event}
use Rattle.sf_core.specs.Machine.Supplies.{Supply, has, left_in, units}
use Rattle.sf_core.specs.Program.Syntax.{Program}
use Rattle.sf_spend.specs.Counting.{CountedFrom, IsBalanced, IsDividedAs}
use Rattle.sf_spend.specs.Checked.Laws.{CountedListsAreNumbered, CountsAreUnique, CountsBeginAnew, CountsCompose, CountsDivide, CountsStayBalanced, NumberedListsAreCounted, SpendingListsAreCounted, SpentTasksHaveSpentSteps, StartsAreDivided, SuppliesStayDivided, IsSoFar}
use Rattle.sf_spend.proofs.Balance.{balanced-list, divided-list}
use Rattle.sf_spend.proofs.Counts.{counts-anew, counts-join, counts-numbered, counts-one, counts-part, counts-spending, numbered-counts, spending-counts}

pub numbered_lists_are_counted : NumberedListsAreCounted
unfolding NumberedListsAreCounted
numbered_lists_are_counted p path c d supply rest s events n =
    counts-numbered p path events c d supply rest s n

pub counted_lists_are_numbered : CountedListsAreNumbered
unfolding CountedListsAreNumbered
counted_lists_are_numbered p path c d supply rest s last events h = (
  numbered-counts p path events c d supply rest s last h,
  spending-counts p path events c d supply rest s last h,
)

pub spending_lists_are_counted : SpendingListsAreCounted
unfolding SpendingListsAreCounted
spending_lists_are_counted p path c d supply s last events h =
    counts-spending p path events c d supply s last h

pub counts_are_unique : CountsAreUnique
unfolding CountsAreUnique
counts_are_unique p path c d e supply rest other s last also events h k =
    counts-one p path events c d e supply rest other s last also h k

pub counts_compose : CountsCompose
unfolding CountsCompose
counts_compose p path c d e supply between rest s middle last events more h k =
    counts-join p path events more c d e supply between rest s middle last h k

pub counts_divide : CountsDivide
unfolding CountsDivide
counts_divide p path c e supply rest s last events more h =
    counts-part p path events more c e supply rest s last h

pub supplies_stay_divided : SuppliesStayDivided
unfolding SuppliesStayDivided
supplies_stay_divided p c d supply rest events n h = divided-list p events c d supply rest n h

pub starts_are_divided : StartsAreDivided
unfolding StartsAreDivided
starts_are_divided p f store heap c us s =
    subst (λ (z : Config). IsDividedAs z.tasks (has us)) (sym s.is) tt

pub counts_stay_balanced : CountsStayBalanced
unfolding CountsStayBalanced
counts_stay_balanced p path c d supply rest s last events n divided h =
    balanced-list p path events c d supply rest s last n divided h

pub counts_begin_anew : CountsBeginAnew
unfolding CountsBeginAnew
counts_begin_anew p path c d supply rest own s last other events h none is =
    counts-anew p path events c d supply rest own s last other h none is

-- as many units as there are
units-length : (base count : ℕ) → length (units base count) ≡ count
units-length base zero = refl
units-length base (suc count) = ap suc (units-length (suc base) count)

-- at the start of a run nothing is used, and only the entry's task is there
start-balanced : (path : Path) (base count : ℕ)
    → IsBalanced path (has (units base count)) (record { given = count; used = 0 })
start-balanced [] base count own is =
    let same = ap (λ z. length (left_in z)) (some-once _ (has (units base count)) own refl is) in
    let all = units-length base count in omega arith
start-balanced (turn ∷ path) base count own is = absurd (cc)

-- what the entry's task was given stays
entry-given : (p : Program) (events : List Event) (c d : Config) (supply rest : Supply)
    (s last : Spending) → CountedFrom p [] c supply s events d rest last → last.given ≡ s.given
entry-given p [] c d supply rest s last (at, left, count) = ap (λ (z : Spending). z.given) count
entry-given p (ev ∷ events) c d supply rest s last (m, l, step, takes, more) =
    entry-given p events m d l rest (spends [] ev.task supply l s) last more

pub spent_tasks_have_spent_steps : SpentTasksHaveSpentSteps
unfolding SpentTasksHaveSpentSteps
spent_tasks_have_spent_steps p start c d base count used path supply before events task divided
    numbered spent there going alone =
    let first : Spending = record { given = count; used = 0 } in
    let (s, counted) = counts-numbered p path before start c (has (units base count)) supply first
    numbered in
    let so_far : IsSoFar count path supply s = record {
      balanced = balanced-list p path before start c (has (units base count)) supply first s counted
          divided (start-balanced path base count);
      entry = λ e. entry-given p before start c (has (units base count)) supply first s
          (subst (λ z. CountedFrom p z start (has (units base count)) first before c supply s) e
          counted);
    } in
    let last : Spending = record { given = used; used = used } in
    let (rest, more) = counts-spending p path events c d supply s last (spent s so_far) in
    record {
      events = before ++ events;
      config = d;
      run = spending-counts p path (before ++ events) start d (has (units base count)) rest first
          last
          (counts-join p path before events start c d (has (units base count)) supply rest first s
          last counted more);
      task = task;
      there = there;
      going = going;
      alone = alone;
    }
