-- What is written is read back: the locations and values of written texts.
use Rattle.std.proofs.Common.{◌≡◌, ◌<◌, ◌^◌, ℕ, [], ◌∷◌, true, Some, None, refl, arith}
use Rattle.std.proofs.lemmas.Bool.Decides.{nat_tests}
use Rattle.std.specs.Fmt.{signed_decimal}
use Rattle.sf_base.specs.declared.value.Value.{Value}
use Rattle.sf_base.specs.declared.value.Value.TheVariants.{Nil as nil, Int as int, Loc as loc}
use Rattle.sf_lines.specs.Checked.Lemmas.Tokens.{BeginsOtherwise, decimal-back, decimal-plain, otherwise-apart, signed-back, signed-other, signed-plain}
use Rattle.sf_lines.specs.Checked.Lemmas.Written.{IsPlain}
use Rattle.sf_lines.specs.Lines.{Text}
use Rattle.sf_state.specs.Checked.Written.{IsWritable}
use Rattle.sf_state.specs.Refused.{cell_name}
use Rattle.sf_state.specs.StateText.{value_text}
use Rattle.sf_state.specs.Values.{is_location, location_from, value_from}

location-small : (n : ℕ) → is_location n ≡ true → n < 2 ^ 64
location-small n h = grind (arith, nat_tests)

-- a location is read back
pub location-back : (n : ℕ) → is_location n ≡ true → location_from (cell_name n) ≡ Some n
location-back n h = decimal-back is_location n (location-small n h) h

pub location-plain : (n : ℕ) → is_location n ≡ true → IsPlain (cell_name n)
location-plain n h = record { some = refl; visible = (decimal-plain n (location-small n h)).visible }

pub value-plain : (v : Value) → IsWritable v → IsPlain (value_text v)
value-plain nil h = record { some = refl; visible = refl }
value-plain (loc n) h = location-plain n h
value-plain (int i) h = signed-plain i h

-- what begins otherwise is no location
location-none : (text : Text) → BeginsOtherwise 64 text → location_from text ≡ None
location-none text b = rw (b.is, b.other) refl

-- a value is read back
pub value-back : (v : Value) → IsWritable v → value_from (value_text v) ≡ Some v
value-back nil h = refl
value-back (loc n) h = rw (location-back n h) refl
value-back (int i) h =
    rw (
      otherwise-apart 110 (signed_decimal i) (105 ∷ 108 ∷ []) (signed-other i 110 h refl refl),
      otherwise-apart 78 (signed_decimal i) (85 ∷ 76 ∷ 76 ∷ []) (signed-other i 78 h refl refl),
      location-none (signed_decimal i) (signed-other i 64 h refl refl),
      signed-back i h,
    ) refl
