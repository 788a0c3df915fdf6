-- From what the parts of the reading say to its contract.
use Rattle.std.proofs.Common.{◌≡◌, ◌⊎◌, ◌∙◌, List, [], Option, Some, None, Result, MatchResult, inl, inr, refl, subst, sym, false}
use Rattle.std.specs.Option.{ok_or}
use Rattle.std.specs.List.{list_any}
use Rattle.clap.specs.Words.{fault_of, subcommand_of}
use Rattle.sf_words.proofs.Program.{agrees}
use Rattle.sf_words.proofs.Sorts.{Tidy}
use Rattle.sf_words.specs.Checked.Forms.{program_form}
use Rattle.sf_words.specs.Checked.Found.{met_order}
use Rattle.sf_words.specs.Checked.Screen.{has_bundle}
use Rattle.sf_words.specs.Words.{Text, is_blank, order_of}
use Rattle.sf_words.specs.WordsOf.{order_as, order_in}
use Rattle.sf_words.specs.declared.order.Order.{Order as CodeOrder}
use Rattle.sf_words.specs.declared.order.WordFault.{WordFault}
use Rattle.sf_words.specs.declared.order.WordFault.TheVariants.{OutOfMemory, Usage}

abbrev pub Answers : List Text → Result CodeOrder WordFault → Type 0
Answers words r = MatchResult r (λ order. order_of words ≡ Some (order_as order)) (λ fault. (fault ≡ OutOfMemory) ⊎ ((fault ≡ Usage) × (order_of words ≡ None)))

module _ (words : List Text) (full : false ≡ list_any is_blank words) (single : false ≡ has_bundle words) where
  tidy : Tidy words
  tidy = record { full = sym full; single = sym single }

  -- what was found is the order
  pub answer-met : (o : Option CodeOrder) (r : Result CodeOrder WordFault) → r ≡ ok_or o Usage → fault_of program_form words ≡ []
      → order_in o ≡ met_order (subcommand_of program_form words) → Answers words r
  answer-met o r is none met = subst (Answers words) (sym is) (go o (met ∙ (agrees words tidy).met none))
    where
      go : (x : Option CodeOrder) → order_in x ≡ order_of words → Answers words (ok_or x Usage)
      go None e = inr (refl, sym e)
      go (Some x) e = sym e

  -- what was refused is none
  pub answer-refused : (fault : WordFault) → (fault ≡ OutOfMemory) ⊎ ((fault ≡ Usage) × (fault_of program_form words ≡ [] → ⊥))
      → (fault ≡ OutOfMemory) ⊎ ((fault ≡ Usage) × (order_of words ≡ None))
  answer-refused fault (inl e) = inl e
  answer-refused fault (inr p) = inr (p.0, (agrees words tidy).refused p.1)
