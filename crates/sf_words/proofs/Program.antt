-- The words as a whole: the first is a command's, or the reader of command lines refuses them.
use Rattle.std.proofs.Common.{◌≡◌, ◌∙◌, ◌++◌, ℕ, Bool, true, false, List, [], ◌∷◌, Option, Some, None, ap, ap₂, append_assoc, append-nil, codes, cond, inl, inr, refl, subst, sym}
use Rattle.std.specs.List.{fold, list_any}
use Rattle.std.specs.Option.{is_some}
use Rattle.std.specs.Prelude.{option_and_then}
use Rattle.std.specs.Str.{bytes_eq}
use Rattle.clap.proofs.FaultLemmas.{stopped_fault}
use Rattle.clap.specs.Faults.{check_fault, defaults_fault, entered_fault, level_fault, settle_fault, turn_fault, walk_fault}
use Rattle.clap.specs.Kinds.{Kinds, or_else}
use Rattle.clap.specs.Simple.{entered, names_of, new_shape}
use Rattle.clap.specs.Walk.{Names, Walk, finished, nothing_held, rows_after, settled, walk, walk_from, walked}
use Rattle.clap.specs.Words.{App, Row, Shape, built, fault_of, subcommand_of}
use Rattle.clap.specs.declared.error.kind.ErrorKind.{ErrorKind}
use Rattle.clap.specs.declared.error.kind.ErrorKind.TheVariants as kind
use Rattle.sf_base.proofs.Equality.{bytes_eq-same}
use Rattle.sf_words.proofs.Levels.{level-claims}
use Rattle.sf_words.proofs.Rules.{level, rules}
use Rattle.sf_words.proofs.Sorts.{Tidy, plain-dashes, plain-long, plain-short, tidy-rest, tidy-sort}
use Rattle.sf_words.proofs.Walks.{Claims}
use Rattle.sf_words.specs.Checked.Forms.{operands_id, program_form, silent, values_at}
use Rattle.sf_words.specs.Checked.Found.{met_order, order_found}
use Rattle.sf_words.specs.Words.{Given, Order, Text, begins_with_hyphen, dashes, demo_given, demo_of, given, is_among, is_blank, journal_given, journal_of, no_options, order_of, order_of_command, ranking_given, ranking_of, recheck_given, recheck_of, replay_given, replay_of, run_given, run_of, run_options, steps_of, values_of, verify_given, verify_of, verify_options, waits_of, witness_given, witness_of, workers_of}

-- the program once it is built
abbrev top : Shape
top = record (silent (new_shape (codes "smallfoot"))) { is_leaf = false; is_built = true }

abbrev program : App
program = record {
  top = top;
  subs = level (codes "verify") verify_options ∷ level (codes "recheck") no_options ∷ level (codes "run") run_options ∷ level (codes "demo") no_options
      ∷ level (codes "order") no_options ∷ level (codes "replay") no_options
      ∷ level (codes "witness") no_options ∷ level (codes "journal") run_options ∷ [];
}

built-is : built program_form ≡ program
built-is = refl

abbrev names : Names
names = names_of program

abbrev start : Walk
start = walk_from nothing_held

abbrev stopped_at : Text → List Text → Walk
stopped_at name words = record start { stopped = Some (name, words) }

-- ---- a command was met: the words after it are its own

stays : (name : Text) (before words : List Text) → fold (walked [] names) (stopped_at name before) words ≡ stopped_at name (before ++ words)
unfolding walked
stays name before [] = ap (stopped_at name) (sym (append-nil before))
stays name before (word ∷ words) = stays name (before ++ word ∷ []) words ∙ ap (stopped_at name) (append_assoc before (word ∷ []) words)

-- the faults by where the walk came to
abbrev faults_at : Kinds → Walk → Kinds
faults_at kinds w = or_else kinds
    (or_else (entered_fault program w.stopped) (or_else (settle_fault [] false w.held)
    (or_else (defaults_fault (settled [] w.held).rows []) (check_fault top (finished [] w.held) (is_some (entered program w.stopped))))))

abbrev faults : List Text → Kinds
faults words = faults_at (walk_fault top names start words) (walk [] names nothing_held words)

faults-are : (words : List Text) → fault_of program_form words ≡ faults words
faults-are words = refl

abbrev met : List Text → Option (Text × List Row)
met words = entered program (walk [] names nothing_held words).stopped

met-is : (words : List Text) → subcommand_of program_form words ≡ met words
met-is words = refl

or_else-nil : (k : Kinds) → or_else k [] ≡ k
or_else-nil [] = refl
or_else-nil (k ∷ ks) = refl

module _ (w name : Text) (words : List Text) (turn : turn_fault top names start w ≡ []) (to : walked [] names start w ≡ stopped_at name []) where
  walk-is : walk [] names nothing_held (w ∷ words) ≡ stopped_at name words
  walk-is = ap (λ (x : Walk). fold (walked [] names) x words) to ∙ stays name [] words

  none-before : walk_fault top names start (w ∷ words) ≡ []
  unfolding walk_fault
  none-before = ap₂ (λ (k : Kinds) (x : Walk). or_else k (walk_fault top names x words)) turn to ∙ stopped_fault top names start (name, []) words

  entered-fault : fault_of program_form (w ∷ words) ≡ faults_at [] (stopped_at name words)
  entered-fault = ap₂ faults_at none-before walk-is

  entered-met : subcommand_of program_form (w ∷ words) ≡ entered program (Some (name, words))
  entered-met = ap (λ (x : Walk). entered program x.stopped) walk-is

-- ---- from what was found to the order

pub record Agrees (words : List Text) : Type 0 where
  pub met : fault_of program_form words ≡ [] → met_order (subcommand_of program_form words) ≡ order_of words
  pub refused : (fault_of program_form words ≡ [] → ⊥) → order_of words ≡ None

abbrev Fits : List Text → Given → List Row → Type 0
Fits options g rows = (values_at operands_id rows ≡ g.operands) × ((n : Text) → is_among options n ≡ true → values_at n rows ≡ values_of n g.settings)

module _ (name : Text) (options : List Text) (words : List Text) (make : Given → Option Order)
    (found : (g : Given) (rows : List Row) → Fits options g rows → order_found name rows ≡ make g) where
  finish-met : (o : Option Given) (kinds : Kinds) (rows : List Row) → Claims options o kinds [] rows → kinds ≡ [] → order_found name rows ≡ option_and_then make o
  finish-met None kinds rows h none = absurd (h none)
  finish-met (Some g) kinds rows h none = found g rows (h.1, h.2)

  finish-refused : (o : Option Given) (kinds : Kinds) (rows : List Row) → Claims options o kinds [] rows → (kinds ≡ [] → ⊥) → option_and_then make o ≡ None
  finish-refused None kinds rows h some = refl
  finish-refused (Some g) kinds rows h some = absurd (some h.0)

ordered : (w : Text) (words : List Text) → list_any is_blank (w ∷ words) ≡ false → order_of (w ∷ words) ≡ order_of_command w words
ordered w words full = ap (λ (b : Bool). cond b None (order_of_command w words)) full

module _ (name : Text) (options : List Text) (apart : is_among options operands_id ≡ false) (make : Given → Option Order) (words : List Text)
    (found : (g : Given) (rows : List Row) → Fits options g rows → order_found name rows ≡ make g)
    (fault : fault_of program_form (name ∷ words) ≡ level_fault (level name options) [] nothing_held words false [])
    (met_at : subcommand_of program_form (name ∷ words) ≡ Some (name, rows_after (rules options) [] words))
    (orders : order_of_command name words ≡ option_and_then make (given options None words)) (full : list_any is_blank (name ∷ words) ≡ false) (tidy : Tidy words) where
  command-agrees : Agrees (name ∷ words)
  command-agrees =
      let o = given options None words in
      let kinds = level_fault (level name options) [] nothing_held words false [] in
      let rows = rows_after (rules options) [] words in
      let claims = level-claims name options apart words tidy in
      let order : order_of (name ∷ words) ≡ option_and_then make o = ordered name words full ∙ orders in
      record {
        met = λ none. ap met_order met_at ∙ finish-met name options words make found o kinds rows claims (sym fault ∙ none) ∙ sym order;
        refused = λ some. order ∙ finish-refused name options words make found o kinds rows claims (λ none. some (fault ∙ none));
      }

-- ---- the commands

-- what the words after a command's name are found to be, where that name is met
module _ (name : Text) (options : List Text) (apart : is_among options operands_id ≡ false) (make : Given → Option Order) (words : List Text)
    (found : (g : Given) (rows : List Row) → Fits options g rows → order_found name rows ≡ make g)
    (turn : turn_fault top names start name ≡ []) (to : walked [] names start name ≡ stopped_at name [])
    (enters : faults_at [] (stopped_at name words) ≡ or_else (level_fault (level name options) [] nothing_held words false []) [])
    (met_at : entered program (Some (name, words)) ≡ Some (name, rows_after (rules options) [] words))
    (orders : order_of_command name words ≡ option_and_then make (given options None words)) (plain : bytes_eq name dashes ≡ false) (t : Tidy (name ∷ words)) where
  named-agrees : Agrees (name ∷ words)
  named-agrees = command-agrees name options apart make words found
      (entered-fault name name words turn to ∙ enters ∙ or_else-nil (level_fault (level name options) [] nothing_held words false []))
      (entered-met name name words turn to ∙ met_at) orders t.full (tidy-rest name words plain t)

-- the order of a command with steps and waits, by what stands under its names in the rows
run-fits : (of : List Text → Option ℕ → Option ℕ → Option Order) (g : Given) (rows : List Row) → Fits run_options g rows
    → of (values_at operands_id rows) (steps_of (values_at (codes "steps") rows)) (waits_of (values_at (codes "waits") rows))
    ≡ of g.operands (steps_of (values_of (codes "steps") g.settings)) (waits_of (values_of (codes "waits") g.settings))
run-fits of g rows fits =
    ap₂ (λ (x y : List Text). of x (steps_of y) (waits_of (values_at (codes "waits") rows))) fits.0 (fits.1 (codes "steps") refl)
    ∙ ap (λ (x : List Text). of g.operands (steps_of (values_of (codes "steps") g.settings)) (waits_of x)) (fits.1 (codes "waits") refl)

verify-agrees : (words : List Text) → Tidy (codes "verify" ∷ words) → Agrees (codes "verify" ∷ words)
unfolding walked defaults_fault
verify-agrees words = named-agrees (codes "verify") verify_options refl verify_given words
    (λ g rows fits. ap₂ (λ (x y : List Text). verify_of x (workers_of y)) fits.0 (fits.1 (codes "workers") refl)) refl refl refl refl refl refl

recheck-agrees : (words : List Text) → Tidy (codes "recheck" ∷ words) → Agrees (codes "recheck" ∷ words)
unfolding walked defaults_fault
recheck-agrees words = named-agrees (codes "recheck") no_options refl recheck_given words (λ g rows fits. ap recheck_of fits.0) refl refl refl refl refl refl

run-agrees : (words : List Text) → Tidy (codes "run" ∷ words) → Agrees (codes "run" ∷ words)
unfolding walked defaults_fault
run-agrees words = named-agrees (codes "run") run_options refl run_given words (run-fits run_of) refl refl refl refl refl refl

demo-agrees : (words : List Text) → Tidy (codes "demo" ∷ words) → Agrees (codes "demo" ∷ words)
unfolding walked defaults_fault
demo-agrees words = named-agrees (codes "demo") no_options refl demo_given words (λ g rows fits. ap demo_of fits.0) refl refl refl refl refl refl

order-agrees : (words : List Text) → Tidy (codes "order" ∷ words) → Agrees (codes "order" ∷ words)
unfolding walked defaults_fault
order-agrees words = named-agrees (codes "order") no_options refl ranking_given words (λ g rows fits. ap ranking_of fits.0) refl refl refl refl refl refl

replay-agrees : (words : List Text) → Tidy (codes "replay" ∷ words) → Agrees (codes "replay" ∷ words)
unfolding walked defaults_fault
replay-agrees words = named-agrees (codes "replay") no_options refl replay_given words (λ g rows fits. ap replay_of fits.0) refl refl refl refl refl refl

witness-agrees : (words : List Text) → Tidy (codes "witness" ∷ words) → Agrees (codes "witness" ∷ words)
unfolding walked defaults_fault
witness-agrees words = named-agrees (codes "witness") no_options refl witness_given words (λ g rows fits. ap witness_of fits.0) refl refl refl refl refl refl

journal-agrees : (words : List Text) → Tidy (codes "journal" ∷ words) → Agrees (codes "journal" ∷ words)
unfolding walked defaults_fault
journal-agrees words = named-agrees (codes "journal") run_options refl journal_given words (run-fits journal_of) refl refl refl refl refl refl

-- ---- another word

cons-nil : (k : ErrorKind) (ks : Kinds) → k ∷ ks ≡ [] → ⊥
cons-nil k ks e = cc

-- faults that begin with one
begin : (k : ErrorKind) (ks : Kinds) (words : List Text) → fault_of program_form words ≡ k ∷ ks → fault_of program_form words ≡ [] → ⊥
begin k ks words e none = cons-nil k ks (sym e ∙ none)

dashes-fault : (words : List Text) → fault_of program_form (dashes ∷ words) ≡ [] → ⊥
unfolding walked walk_fault defaults_fault
dashes-fault [] = begin kind.MissingSubcommand [] (dashes ∷ []) refl
dashes-fault (x ∷ xs) = begin kind.UnknownArgument (kind.InvalidSubcommand ∷ []) (dashes ∷ x ∷ xs) refl

flag-fault : (x : ℕ) (xs : Text) (words : List Text) → fault_of program_form ((45 ∷ 45 ∷ x ∷ xs) ∷ words) ≡ [] → ⊥
unfolding walk_fault
flag-fault x xs words = begin kind.UnknownArgument [] ((45 ∷ 45 ∷ x ∷ xs) ∷ words) refl

module _ (w : Text) (words : List Text) (no_verify : bytes_eq (codes "verify") w ≡ false) (no_recheck : bytes_eq (codes "recheck") w ≡ false)
    (no_run : bytes_eq (codes "run") w ≡ false) (no_demo : bytes_eq (codes "demo") w ≡ false)
    (no_order : bytes_eq (codes "order") w ≡ false) (no_replay : bytes_eq (codes "replay") w ≡ false)
    (no_witness : bytes_eq (codes "witness") w ≡ false) (no_journal : bytes_eq (codes "journal") w ≡ false) where
  word-turn : begins_with_hyphen w ≡ false → turn_fault top names start w ≡ kind.UnknownArgument ∷ kind.InvalidSubcommand ∷ []
  word-turn e = rw (no_verify, no_recheck, no_run, no_demo, no_order, no_replay, no_witness, no_journal, plain-dashes w e, plain-long w e, plain-short w e) refl

  word-fault : begins_with_hyphen w ≡ false → fault_of program_form (w ∷ words) ≡ [] → ⊥
  unfolding walk_fault
  word-fault e = begin kind.UnknownArgument (kind.InvalidSubcommand ∷ []) (w ∷ words)
      (ap (λ (k : Kinds). faults_at (or_else k (walk_fault top names (walked [] names start w) words)) (walk [] names nothing_held (w ∷ words))) (word-turn e))

  other-fault : Tidy (w ∷ words) → fault_of program_form (w ∷ words) ≡ [] → ⊥
  other-fault t = elim (tidy-sort w words t) [
    | inl e ↦ subst (λ (x : Text). fault_of program_form (x ∷ words) ≡ [] → ⊥) (sym e) (dashes-fault words)
    | inr rest ↦ elim rest [
      | inl flag ↦ subst (λ (x : Text). fault_of program_form (x ∷ words) ≡ [] → ⊥) (sym flag.2) (flag-fault flag.0 flag.1 words)
      | inr e ↦ word-fault e
    ]
  ]

  other-order : order_of_command w words ≡ None
  other-order = rw (no_verify, no_recheck, no_run, no_demo, no_order, no_replay, no_witness, no_journal) refl

  other-agrees : Tidy (w ∷ words) → Agrees (w ∷ words)
  other-agrees t = record {
    met = λ none. absurd (other-fault t none);
    refused = λ some. ordered w words t.full ∙ other-order;
  }

nothing-agrees : Agrees []
unfolding walked walk_fault defaults_fault
nothing-agrees = record {
  met = λ none. absurd (cons-nil kind.MissingSubcommand [] none);
  refused = λ some. refl;
}

-- what is found in tidy words is what they are
pub agrees : (words : List Text) → Tidy words → Agrees words
agrees [] t = nothing-agrees
agrees (w ∷ words) t =
    go (bytes_eq (codes "verify") w) refl (bytes_eq (codes "recheck") w) refl (bytes_eq (codes "run") w) refl (bytes_eq (codes "demo") w) refl
    (bytes_eq (codes "order") w) refl (bytes_eq (codes "replay") w) refl
    (bytes_eq (codes "witness") w) refl (bytes_eq (codes "journal") w) refl
  where
    named : (name : Text) → bytes_eq name w ≡ true → (Tidy (name ∷ words) → Agrees (name ∷ words)) → Agrees (w ∷ words)
    named name e h = subst (λ (x : Text). Tidy (x ∷ words) → Agrees (x ∷ words)) (bytes_eq-same name w e) h t

    go : (a : Bool) → bytes_eq (codes "verify") w ≡ a → (b : Bool) → bytes_eq (codes "recheck") w ≡ b → (d : Bool) → bytes_eq (codes "run") w ≡ d
        → (f : Bool) → bytes_eq (codes "demo") w ≡ f → (g : Bool) → bytes_eq (codes "order") w ≡ g
        → (h : Bool) → bytes_eq (codes "replay") w ≡ h → (k : Bool) → bytes_eq (codes "witness") w ≡ k
        → (j : Bool) → bytes_eq (codes "journal") w ≡ j → Agrees (w ∷ words)
    go true e b e₂ d e₃ f e₄ g e₅ h e₆ k e₇ j e₈ = named (codes "verify") e (verify-agrees words)
    go false e true e₂ d e₃ f e₄ g e₅ h e₆ k e₇ j e₈ = named (codes "recheck") e₂ (recheck-agrees words)
    go false e false e₂ true e₃ f e₄ g e₅ h e₆ k e₇ j e₈ = named (codes "run") e₃ (run-agrees words)
    go false e false e₂ false e₃ true e₄ g e₅ h e₆ k e₇ j e₈ = named (codes "demo") e₄ (demo-agrees words)
    go false e false e₂ false e₃ false e₄ true e₅ h e₆ k e₇ j e₈ = named (codes "order") e₅ (order-agrees words)
    go false e false e₂ false e₃ false e₄ false e₅ true e₆ k e₇ j e₈ = named (codes "replay") e₆ (replay-agrees words)
    go false e false e₂ false e₃ false e₄ false e₅ false e₆ true e₇ j e₈ = named (codes "witness") e₇ (witness-agrees words)
    go false e false e₂ false e₃ false e₄ false e₅ false e₆ false e₇ true e₈ = named (codes "journal") e₈ (journal-agrees words)
    go false e false e₂ false e₃ false e₄ false e₅ false e₆ false e₇ false e₈ = other-agrees w words e e₂ e₃ e₄ e₅ e₆ e₇ e₈ t
