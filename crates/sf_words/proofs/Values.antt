-- What stands under each name once values were added under one.
use Rattle.std.proofs.Common.{◌≡◌, ◌∙◌, Bool, true, false, List, [], ◌∷◌, ◌++◌, Some, None, ap, cond, refl, sym, true≢false}
use Rattle.std.specs.List.{find}
use Rattle.std.specs.Option.{option_map, unwrap_or}
use Rattle.std.specs.Str.{bytes_eq}
use Rattle.clap.specs.Walk.{more_values, with_values}
use Rattle.clap.specs.Words.{Row}
use Rattle.clap.specs.declared.builder.value_parser.Reading.{Reading}
use Rattle.clap.specs.declared.parser.matches.ValueSource.{ValueSource}
use Rattle.sf_base.proofs.Equality.{bytes_eq-same, bytes_eq-self}
use Rattle.sf_words.specs.Checked.Forms.{values_at}
use Rattle.sf_words.specs.Words.{Text}

module _ (id other : Text) (how : Reading) (s : ValueSource) (vs : List Text) where
  abbrev added : List Row → List Row
  added rows = with_values id how s vs rows

  abbrev rest_at : List Row → List Text
  rest_at rows = unwrap_or (option_map (λ (r : Row). r.values) (find (λ (r : Row). bytes_eq r.id other) rows)) []

  same-test : (x : Text) → bytes_eq x id ≡ true → bytes_eq x other ≡ bytes_eq id other
  same-test x e = ap (λ (t : Text). bytes_eq t other) (bytes_eq-same x id e)

  pub values-added : (rows : List Row) → values_at other (added rows) ≡ cond (bytes_eq id other) (values_at other rows ++ vs) (values_at other rows)
  values-added [] = go (bytes_eq id other)
    where
      go : (b : Bool) → unwrap_or (option_map (λ (r : Row). r.values) (cond b (Some (record {
        id = id;
        values = vs;
        count = None;
        source = Some s;
        reading = how;
      })) None)) [] ≡ cond b ([] ++ vs) []
      go true = refl
      go false = refl
  values-added (r ∷ rs) = go (bytes_eq r.id id) refl (values-added rs)
    where
      hit : (b : Bool) → bytes_eq r.id other ≡ b → bytes_eq id other ≡ b → values_at other (more_values s vs r ++ rs) ≡ cond (bytes_eq id other) (values_at other (r ∷ rs) ++ vs) (values_at other (r ∷ rs))
      hit true e f = rw (e, f) refl
      hit false e f = rw (e, f) refl

      miss : (b : Bool) → bytes_eq r.id other ≡ b → bytes_eq r.id id ≡ false → values_at other (added rs) ≡ cond (bytes_eq id other) (values_at other rs ++ vs) (values_at other rs)
          → values_at other (r ∷ added rs) ≡ cond (bytes_eq id other) (values_at other (r ∷ rs) ++ vs) (values_at other (r ∷ rs))
      miss false e f below = rw e below
      miss true e f below = rw (e, apart e f) refl
        where
          no : (t : Bool) → bytes_eq id other ≡ t → bytes_eq r.id other ≡ true → bytes_eq r.id id ≡ false → t ≡ false
          no false g e f = refl
          no true g e f =
              let one : r.id ≡ other = bytes_eq-same r.id other e in
              let two : id ≡ other = bytes_eq-same id other g in
              let three : r.id ≡ id = one ∙ sym two in
              let four : bytes_eq r.id id ≡ true = ap (λ (t : Text). bytes_eq t id) three ∙ bytes_eq-self id in
              absurd (true≢false (sym four ∙ f))

          apart : bytes_eq r.id other ≡ true → bytes_eq r.id id ≡ false → bytes_eq id other ≡ false
          apart e f = no (bytes_eq id other) refl e f

      go : (t : Bool) → bytes_eq r.id id ≡ t → values_at other (added rs) ≡ cond (bytes_eq id other) (values_at other rs ++ vs) (values_at other rs)
          → values_at other (added (r ∷ rs)) ≡ cond (bytes_eq id other) (values_at other (r ∷ rs) ++ vs) (values_at other (r ∷ rs))
      go true e below = rw e (hit (bytes_eq r.id other) refl (sym (same-test r.id e)))
      go false e below = rw e (miss (bytes_eq r.id other) refl e below)
