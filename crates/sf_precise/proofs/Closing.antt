-- The laws of the crate, under the names of their functions in src/laws.rt.
use Rattle.sf_precise.specs.Checked.Lemmas.OrdersExist.{determined-order, determined-or_place, notes-or_place}
use Rattle.sf_precise.specs.Checked.Laws.{DeterminedHasOrder, NeverTakenIsUndetermined, OrderIsUnique, OrderKeepsForm, OrderKeepsMeaning, OrderedIsDetermined, OrderingExists, OrdersFromTruncation, InOrderIsDetermined, TakenFixExistentials, UndeterminedHasPlace, UndeterminedAnnotationsHavePlace}
use Rattle.sf_precise.specs.Checked.Lemmas.Branches.{never-undetermined, ordered-determined, ordered-stands}
use Rattle.std.specs.Prelude.{false}
use Rattle.sf_precise.proofs.OrderForms.{assertion-within}
use Rattle.sf_precise.specs.Checked.Lemmas.OrderMeaning.{level-one, level-sat, sat-level, stands-determined}
use Rattle.sf_core.specs.Assertions.Sat.{value}
use Rattle.sf_core.specs.Program.Formed.{IsInBody, IsOfResource, IsParameter}
use Rattle.sf_precise.specs.Checked.Lemmas.Picked.{ordering-exists}
use Rattle.sf_precise.proofs.OrdersHad.{orders-had}
use Rattle.sf_precise.proofs.TakenFixes.{takes-agree}

pub determined_has_order : DeterminedHasOrder
determined_has_order = λ a d. determined-order a d

pub never_taken_is_undetermined : NeverTakenIsUndetermined
never_taken_is_undetermined = λ a p n d. never-undetermined a p n d

pub order_is_unique : OrderIsUnique
order_is_unique = λ a o u i j. level-one (λ n. false) a o u i j

pub order_keeps_meaning : OrderKeepsMeaning
order_keeps_meaning =
    λ a o vars some heap i. (
      λ d. level-sat (value vars) (λ n. false) a o some heap i d,
      λ d. sat-level (value vars)
          (λ n. false) a o some heap i d,
    )

pub order_keeps_form : OrderKeepsForm
order_keeps_form = record {
  contract = λ p f a o i w. assertion-within p.fields (IsParameter p f) (λ n. false) a o i.names i.level w;
  loop = λ p f a o i w. assertion-within p.fields (IsInBody p f) (λ n. false) a o i.names i.level w;
  resource = λ p number count a o i w. assertion-within p.fields (IsOfResource number count) (λ n. false) a o
      i.names i.level w;
}

pub ordered_is_determined : OrderedIsDetermined
ordered_is_determined = λ a o i. (ordered-determined a o i, ordered-stands a o i)

pub orders_from_truncation : OrdersFromTruncation
orders_from_truncation = orders-had

pub in_order_is_determined : InOrderIsDetermined
in_order_is_determined = λ o i. stands-determined o i

pub taken_fix_existentials : TakenFixExistentials
taken_fix_existentials =
    λ known cs taken rest vars here there heap one two other another t a m n d e. takes-agree
    (value vars) known cs taken rest here there heap one two other another t a m n d e

pub undetermined_has_place : UndeterminedHasPlace
undetermined_has_place = λ a. determined-or_place a

pub undetermined_annotations_have_place : UndeterminedAnnotationsHavePlace
undetermined_annotations_have_place = notes-or_place

pub ordering_exists : OrderingExists
ordering_exists = ordering-exists
