use Rattle.std.proofs.Common.{◌≡◌, ◌∙◌, ℕ, Bool, true, false, List, Option, ap, ap₂, codes, refl, sym}
use Rattle.std.specs.Borrow.{Bor}
use Rattle.std.specs.Option.{option_map}
use Rattle.std.specs.Str.{bytes_eq}
use Rattle.clap.proofs.WalkLemmas.{raw_values-rows}
use Rattle.clap.specs.Words.{found_of, matched_of, raw_values, rows_of}
use Rattle.clap.specs.declared.parser.matches.Found.{Found}
use Rattle.sf_base.proofs.Equality.{bytes_eq-same}
use Rattle.sf_words.proofs.Rows.{texts-rows}
use Rattle.sf_words.specs.Checked.Forms.{operands_id, values_at}
use Rattle.sf_words.specs.Checked.Found.{order_found, texts_under}
use Rattle.sf_words.specs.Words.{Order, Text, demo_of, journal_of, ranking_of, recheck_of, replay_of, run_of, steps_of, verify_of, waits_of, witness_of, workers_of}
use Rattle.sf_words.specs.WordsOf.{words_of}
use Rattle.sf_words.proofs.given.order.Goals as goal

-- what stands under a name
stands : (found : Found) (id : Text) (s : Option (Bor (List (Bor Text)))) → option_map (λ (t : Bor (List (Bor Text))). words_of t.now) s ≡ option_map raw_values (matched_of found id)
    → texts_under s ≡ values_at id (rows_of found)
stands found id s got = texts-rows id (rows_of found) s _ got (raw_values-rows found id)

-- the order of a command that has operands alone, by what it was made of
by-operands : (of : List Text → Option Order) (name w : Text) (found : Found) (o : Option Order) (x : Option (Bor (List (Bor Text))))
    → o ≡ of (texts_under x) → option_map (λ (t : Bor (List (Bor Text))). words_of t.now) x ≡ option_map raw_values (matched_of found operands_id)
    → order_found w (rows_of found) ≡ of (values_at operands_id (rows_of found)) → name ≡ w → o ≡ order_found name (rows_of found)
by-operands of name w found o x made operands same is =
    made ∙ ap of (stands found operands_id x operands) ∙ sym same ∙ sym (ap (λ (n : Text). order_found n (rows_of found)) is)

-- that of one with steps and waits too
by-limits : (of : List Text → Option ℕ → Option ℕ → Option Order) (name w : Text) (found : Found) (o : Option Order) (x y z : Option (Bor (List (Bor Text))))
    → o ≡ of (texts_under x) (steps_of (texts_under y)) (waits_of (texts_under z))
    → option_map (λ (t : Bor (List (Bor Text))). words_of t.now) x ≡ option_map raw_values (matched_of found operands_id)
    → option_map (λ (t : Bor (List (Bor Text))). words_of t.now) y ≡ option_map raw_values (matched_of found (codes "steps"))
    → option_map (λ (t : Bor (List (Bor Text))). words_of t.now) z ≡ option_map raw_values (matched_of found (codes "waits"))
    → order_found w (rows_of found) ≡ of (values_at operands_id (rows_of found)) (steps_of (values_at (codes "steps") (rows_of found))) (waits_of (values_at (codes "waits") (rows_of found)))
    → name ≡ w → o ≡ order_found name (rows_of found)
by-limits of name w found o x y z made operands steps waits same is =
    made ∙ ap₂ (λ (a b : List Text). of a (steps_of b) (waits_of (texts_under z))) (stands found operands_id x operands) (stands found (codes "steps") y steps)
    ∙ ap (λ (a : List Text). of (values_at operands_id (rows_of found)) (steps_of (values_at (codes "steps") (rows_of found))) (waits_of a)) (stands found (codes "waits") z waits)
    ∙ sym same ∙ sym (ap (λ (n : Text). order_found n (rows_of found)) is)

pub returns-in-verify : goal.returns-in-verify
returns-in-verify c =
    let found = found_of c.args.matches.now in
    let operands = stands found operands_id c.get_strs-operands.result c.get_strs-operands.ensures in
    let workers = stands found (codes "workers") c.get_strs.result c.get_strs.ensures in
    c.verify.ensures ∙ ap₂ (λ (x y : List Text). verify_of x (workers_of y)) operands workers ∙ sym (ap (λ (n : Text). order_found n (rows_of found)) c.in-verify.is)

pub returns-in-recheck : goal.returns-in-recheck
returns-in-recheck c = by-operands recheck_of c.args.name.now (codes "recheck") (found_of c.args.matches.now) _ _ c.recheck.ensures c.get_strs-operands.ensures refl c.in-recheck.is

pub returns-in-run : goal.returns-in-run
returns-in-run c = by-limits run_of c.args.name.now (codes "run") (found_of c.args.matches.now) _ _ _ _
    c.run.ensures c.get_strs-operands.ensures c.get_strs-in-run.ensures c.get_strs-in-run-2.ensures refl c.in-run.is

pub returns-in-demo : goal.returns-in-demo
returns-in-demo c = by-operands demo_of c.args.name.now (codes "demo") (found_of c.args.matches.now) _ _ c.demo.ensures c.get_strs-operands.ensures refl c.in-demo.is

pub returns-in-order : goal.returns-in-order
returns-in-order c = by-operands ranking_of c.args.name.now (codes "order") (found_of c.args.matches.now) _ _ c.ranking.ensures c.get_strs-operands.ensures refl c.in-order.is

pub returns-in-replay : goal.returns-in-replay
returns-in-replay c = by-operands replay_of c.args.name.now (codes "replay") (found_of c.args.matches.now) _ _ c.replay.ensures c.get_strs-operands.ensures refl c.in-replay.is

pub returns-in-witness : goal.returns-in-witness
returns-in-witness c = by-operands witness_of c.args.name.now (codes "witness") (found_of c.args.matches.now) _ _ c.witness.ensures c.get_strs-operands.ensures refl c.in-witness.is

pub returns-in-journal : goal.returns-in-journal
returns-in-journal c = by-limits journal_of c.args.name.now (codes "journal") (found_of c.args.matches.now) _ _ _ _
    c.journal.ensures c.get_strs-operands.ensures c.get_strs-in-journal.ensures c.get_strs-in-journal-2.ensures refl c.in-journal.is

-- a name that isn't the word
other : (w name : Text) → (name ≡ w → ⊥) → bytes_eq w name ≡ false
other w name n = go (bytes_eq w name) refl
  where
    go : (b : Bool) → bytes_eq w name ≡ b → bytes_eq w name ≡ false
    go true e = absurd (n (sym (bytes_eq-same w name e)))
    go false e = e

pub returns-in_default : goal.returns-in_default
returns-in_default c =
    let name = c.args.name.now in
    rw (
      other (codes "verify") name c.in_default.not-verify,
      other (codes "recheck") name c.in_default.not-recheck,
      other (codes "run") name c.in_default.not-run,
      other (codes "demo") name c.in_default.not-demo,
      other (codes "order") name c.in_default.not-order,
      other (codes "replay") name c.in_default.not-replay,
      other (codes "witness") name c.in_default.not-witness,
      other (codes "journal") name c.in_default.not-journal,
    ) refl
