-- The laws of parts, and of what tasks have used, on which the table stands, together.
-- Ordinary: each as sf_part and sf_spend state it.
use Rattle.sf_part.specs.Checked.Laws.{EntriesAreSteps, ExitsAreSteps, ForksAreSteps, JoinsAreSteps, PartsInAnyOrder, PrivateEventsAreSteps}
use Rattle.sf_part.specs.Checked.LawsOfWhole.{ChildrenAreApart, ConditionsAreSeenAlike, ContentsAreApart, PartsHold, RunningEntriesAreAlone, RunningPartsRun, WaitingPartsWait}
use Rattle.sf_spend.specs.Checked.Laws.{CountedListsAreNumbered, CountsAreUnique, CountsBeginAnew, CountsDivide, CountsStayBalanced, NumberedListsAreCounted, SpendingListsAreCounted}

-- PartLaws: what is known of parts and of the wholes that they belong to, and of what tasks were
-- given and have used in numbered lists of events
pub record PartLaws : Type 0 where
  pub order : PartsInAnyOrder
  pub privates : PrivateEventsAreSteps
  pub entries : EntriesAreSteps
  pub exits : ExitsAreSteps
  pub forks : ForksAreSteps
  pub joins : JoinsAreSteps
  pub run : RunningPartsRun
  pub wait : WaitingPartsWait
  pub alone : RunningEntriesAreAlone
  pub hold : PartsHold
  pub seen : ConditionsAreSeenAlike
  pub contents : ContentsAreApart
  pub children : ChildrenAreApart
  pub counted : NumberedListsAreCounted
  pub numbered : CountedListsAreNumbered
  pub spent : SpendingListsAreCounted
  pub once : CountsAreUnique
  pub divided : CountsDivide
  pub balanced : CountsStayBalanced
  pub anew : CountsBeginAnew
