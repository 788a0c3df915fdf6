-- What stands under a name in matches, as the code gets it and as a row.
use Rattle.std.proofs.Common.{◌≡◌, ◌∙◌, List, [], Option, Some, None, ap, refl}
use Rattle.std.specs.Borrow.{Bor}
use Rattle.std.specs.Option.{option_map, unwrap_or}
use Rattle.clap.specs.Walk.{all_of}
use Rattle.clap.specs.Words.{Row}
use Rattle.sf_words.specs.Checked.Forms.{values_at}
use Rattle.sf_words.specs.Checked.Found.{texts_under}
use Rattle.sf_words.specs.Words.{Text}
use Rattle.sf_words.specs.WordsOf.{words_of}

pub texts-rows : (id : Text) (rows : List Row) (s : Option (Bor (List (Bor Text)))) (o : Option (List Text))
    → option_map (λ (t : Bor (List (Bor Text))). words_of t.now) s ≡ o → o ≡ all_of id rows → texts_under s ≡ values_at id rows
texts-rows id rows s o got is = go s ∙ ap (λ (x : Option (List Text)). unwrap_or x []) (got ∙ is)
  where
    go : (t : Option (Bor (List (Bor Text)))) → texts_under t ≡ unwrap_or (option_map (λ (x : Bor (List (Bor Text))). words_of x.now) t) []
    go None = refl
    go (Some t) = refl
