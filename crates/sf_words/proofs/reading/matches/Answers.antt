use Rattle.std.proofs.Common.{◌≡◌, ◌∙◌, ◌⊎◌, [], true, ap, inl, inr, refl, subst, sym}
use Rattle.clap.specs.Faults.{is_simple_and_free}
use Rattle.clap.specs.Kinds.{HasKind, IsAmong, Kinds}
use Rattle.clap.specs.Simple.{is_simple}
use Rattle.clap.specs.Words.{App, fault_of, kind_of, subcommand_of}
use Rattle.clap.specs.declared.error.kind.ErrorKind.{ErrorKind}
use Rattle.clap.specs.declared.error.kind.ErrorKind.TheVariants as kind
use Rattle.sf_words.specs.Checked.Forms.{program_form}
use Rattle.sf_words.specs.Checked.Found.{fault_as}
use Rattle.sf_words.specs.WordsOf.{words_of}
use Rattle.sf_words.specs.declared.order.WordFault.{WordFault}
use Rattle.sf_words.specs.declared.order.WordFault.TheVariants.{OutOfMemory, Usage}
use Rattle.sf_words.proofs.reading.matches.Goals as goal

simple : is_simple program_form ≡ true
simple = refl

free : is_simple_and_free program_form ≡ true
free = refl

-- what a kind of error is told as
told : (k : ErrorKind) (kinds : Kinds) → (k ≡ kind.OutOfMemory) ⊎ IsAmong k kinds
    → (fault_as k ≡ OutOfMemory) ⊎ ((fault_as k ≡ Usage) × (kinds ≡ [] → ⊥))
told k kinds (inl e) = inl (ap fault_as e)
told k kinds (inr among) = go (fault_as k) refl
  where
    go : (f : WordFault) → fault_as k ≡ f → (fault_as k ≡ OutOfMemory) ⊎ ((fault_as k ≡ Usage) × (kinds ≡ [] → ⊥))
    go OutOfMemory e = inl e
    go Usage e = inr (e, λ none. subst (IsAmong k) none among)

pub returns-in-Ok-clause-met : goal.returns-in-Ok-clause-met
returns-in-Ok-clause-met c =
    let is = c.in_ok-command.ensures in
    (c.in-Ok.ensures.matches (ap is_simple is ∙ simple)).1
    ∙ ap (λ (a : App). subcommand_of a (words_of c.args.words.now)) is

pub returns-in-Ok-clause-fits : goal.returns-in-Ok-clause-fits
returns-in-Ok-clause-fits c =
    let is = c.in_ok-command.ensures in
    sym (ap (λ (a : App). fault_of a (words_of c.args.words.now)) is)
    ∙ c.in-Ok.ensures.kinds (ap is_simple_and_free is ∙ free)

pub returns-in-Err-clause-fault : goal.returns-in-Err-clause-fault
returns-in-Err-clause-fault c =
    let is = c.in_ok-command.ensures in
    let has = subst (λ (k : Kinds). HasKind k c.in-Err.error) (ap (λ (a : App). fault_of a (words_of c.args.words.now)) is)
    (c.in-Err.ensures.kinds (ap is_simple_and_free is ∙ free)) in
    let said : c.fault.result ≡ fault_as (kind_of c.in-Err.error) = c.fault.ensures ∙ ap fault_as c.kind.ensures in
    subst (λ (f : WordFault). (f ≡ OutOfMemory)
    ⊎ ((f ≡ Usage) × (fault_of program_form (words_of c.args.words.now) ≡ [] → ⊥))) (sym said)
    (told (kind_of c.in-Err.error) (fault_of program_form (words_of c.args.words.now)) has)
