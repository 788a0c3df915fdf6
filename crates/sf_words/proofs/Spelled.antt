-- Words for each order: the options first, in one word each, then `--` and the operands.
use Rattle.std.proofs.Common.{◌≡◌, ◌∙◌, ◌<◌, ◌≤◌, ◌==◌, ◌+◌, ◌*◌, ◌/◌, ◌%◌, ◌^◌, ◌&&◌, ◌||◌, ◌++◌, ℕ, Bool, true, false, zero, suc, [], ◌∷◌, Option, Some, None, ap, ap₂, arith, codes, cond, length, refl}
use Rattle.std.specs.Char.{digit_value, is_ascii_digit}
use Rattle.std.specs.List.{list_all}
use Rattle.std.specs.Prelude.{nat_le, option_map}
use Rattle.std.specs.Str.Parse.{digits_value}
use Rattle.std.proofs.lemmas.Bool.Decides.{nat_tests}
use Rattle.std.proofs.lemmas.Int.Digits.{digits_value_push}
use Rattle.std.proofs.lemmas.List.{length-append}
use Rattle.std.proofs.lemmas.List.Folds.{list_all-append}
use Rattle.sf_base.specs.declared.limits.TheConstants.{DEMO, STEPS, WAITS, WORKERS}
use Rattle.sf_words.specs.Checked.Laws.{EachOrderIsSpelled}
use Rattle.sf_words.specs.Words.{Text, dashes, demo, is_blank, journal, journal_of, number_of, order_of, ranking, recheck, replay, run, run_of, verify, witness}

-- ---- a numeral for each number

-- a text of so many digits that writes the number
record Numeral (width n : ℕ) : Type 0 where
  text : Text
  wide : length text ≡ width
  digits : list_all is_ascii_digit text ≡ true
  value : digits_value 10 text ≡ n

digit-of : (d : ℕ) → d < 10 → (is_ascii_digit (48 + d) ≡ true) × (digit_value (48 + d) ≡ d)
digit-of d lt = (grind (arith, nat_tests), grind (arith, nat_tests))

numeral : (width n : ℕ) → n < 10 ^ width → Numeral width n
numeral zero n lt = record { text = []; wide = refl; digits = refl; value = omega arith }
numeral (suc w) n lt =
    let front = numeral w (n / 10) (omega arith) in
    let last = digit-of (n % 10) (omega arith) in
    record {
      text = front.text ++ (48 + n % 10) ∷ [];
      wide = length-append front.text ((48 + n % 10) ∷ []) ∙ ap (λ (k : ℕ). k + 1) front.wide ∙ omega arith;
      digits = list_all-append is_ascii_digit front.text ((48 + n % 10) ∷ []) ∙ ap₂ (λ (a b : Bool). a && (b && true)) front.digits last.0;
      value = digits_value_push 10 front.text (48 + n % 10) ∙ ap₂ (λ (a b : ℕ). a * 10 + b) front.value last.1 ∙ omega arith;
    }

at-least : (m n : ℕ) → m ≤ n → nat_le m n ≡ true
at-least m n h = grind (arith, nat_tests)

numeral-number : (most n : ℕ) (t : Numeral 15 n) → 1 ≤ n → n ≤ most → number_of most t.text ≡ Some n
numeral-number most n t some few =
    let v = digits_value 10 t.text in
    ap₂ (λ (l : ℕ) (d : Bool). cond ((nat_le 1 l && (nat_le l 19 && d)) && (nat_le 1 v && nat_le v most)) (Some v) None) t.wide t.digits
    ∙ ap (λ (x : ℕ). cond (nat_le 1 x && nat_le x most) (Some x) None) t.value
    ∙ ap₂ (λ (a b : Bool). cond (a && b) (Some n) None) (at-least 1 n some) (at-least n most few)

long-full : (t : Text) → length t ≡ 15 → is_blank t ≡ false
long-full [] e = absurd (omega arith)
long-full (a ∷ []) e = absurd (omega arith)
long-full (a ∷ b ∷ rest) e = go (45 == a)
  where
    go : (x : Bool) → (x && false) ≡ false
    go true = refl
    go false = refl

-- ---- words for each order

spelled-verify : (file : Text) (k : ℕ) (t : Numeral 15 k) → is_blank file ≡ false → 1 ≤ k → k ≤ WORKERS
    → order_of (codes "verify" ∷ (codes "--workers=" ++ t.text) ∷ dashes ∷ file ∷ []) ≡ Some (verify file k)
spelled-verify file k t e some few =
    ap₂ (λ (b : Bool) (o : Option ℕ). cond (b || false) None (option_map (λ n. verify file n) o)) e (numeral-number WORKERS k t some few)

spelled-recheck : (file proof : Text) → is_blank file ≡ false → is_blank proof ≡ false
    → order_of (codes "recheck" ∷ dashes ∷ file ∷ proof ∷ []) ≡ Some (recheck file proof)
spelled-recheck file proof e f = ap₂ (λ (a b : Bool). cond (a || (b || false)) None (Some (recheck file proof))) e f

spelled-run : (file entry state : Text) (n k : ℕ) (s : Numeral 15 n) (t : Numeral 15 k) → is_blank file ≡ false → is_blank entry ≡ false → is_blank state ≡ false
    → 1 ≤ n → n ≤ STEPS → 1 ≤ k → k ≤ WAITS
    → order_of (codes "run" ∷ (codes "--steps=" ++ s.text) ∷ (codes "--waits=" ++ t.text) ∷ dashes ∷ file ∷ entry ∷ state ∷ []) ≡ Some (run file entry state n k)
spelled-run file entry state n k s t e f g some few some_waits few_waits =
    ap₂ (λ (a b : Bool). cond (a || (b || (is_blank state || false))) None (run_of (file ∷ entry ∷ state ∷ []) (number_of STEPS s.text) (number_of WAITS t.text))) e f
    ∙ ap (λ (d : Bool). cond (d || false) None (run_of (file ∷ entry ∷ state ∷ []) (number_of STEPS s.text) (number_of WAITS t.text))) g
    ∙ ap₂ (λ (x y : Option ℕ). run_of (file ∷ entry ∷ state ∷ []) x y) (numeral-number STEPS n s some few) (numeral-number WAITS k t some_waits few_waits)

spelled-demo : (n : ℕ) (t : Numeral 15 n) → 1 ≤ n → n ≤ DEMO → order_of (codes "demo" ∷ dashes ∷ t.text ∷ []) ≡ Some (demo n)
spelled-demo n t some few =
    ap₂ (λ (b : Bool) (o : Option ℕ). cond (b || false) None (option_map (λ x. demo x) o)) (long-full t.text t.wide) (numeral-number DEMO n t some few)

spelled-ranking : (file : Text) → is_blank file ≡ false
    → order_of (codes "order" ∷ dashes ∷ file ∷ []) ≡ Some (ranking file)
spelled-ranking file e = ap (λ (a : Bool). cond (a || false) None (Some (ranking file))) e

spelled-replay : (file entry state schedule : Text) → is_blank file ≡ false → is_blank entry ≡ false → is_blank state ≡ false → is_blank schedule ≡ false
    → order_of (codes "replay" ∷ dashes ∷ file ∷ entry ∷ state ∷ schedule ∷ []) ≡ Some (replay file entry state schedule)
spelled-replay file entry state schedule e f g h =
    ap₂ (λ (a b : Bool). cond (a || (b || (is_blank state || (is_blank schedule || false)))) None (Some (replay file entry state schedule))) e f
    ∙ ap₂ (λ (a b : Bool). cond (a || (b || false)) None (Some (replay file entry state schedule))) g h

spelled-witness : (file : Text) → is_blank file ≡ false
    → order_of (codes "witness" ∷ dashes ∷ file ∷ []) ≡ Some (witness file)
spelled-witness file e = ap (λ (a : Bool). cond (a || false) None (Some (witness file))) e

spelled-journal : (file entry state : Text) (n k : ℕ) (s : Numeral 15 n) (t : Numeral 15 k) → is_blank file ≡ false → is_blank entry ≡ false → is_blank state ≡ false
    → 1 ≤ n → n ≤ STEPS → 1 ≤ k → k ≤ WAITS
    → order_of (codes "journal" ∷ (codes "--steps=" ++ s.text) ∷ (codes "--waits=" ++ t.text) ∷ dashes ∷ file ∷ entry ∷ state ∷ []) ≡ Some (journal file entry state n k)
spelled-journal file entry state n k s t e f g some few some_waits few_waits =
    ap₂ (λ (a b : Bool). cond (a || (b || (is_blank state || false))) None (journal_of (file ∷ entry ∷ state ∷ []) (number_of STEPS s.text) (number_of WAITS t.text))) e f
    ∙ ap (λ (d : Bool). cond (d || false) None (journal_of (file ∷ entry ∷ state ∷ []) (number_of STEPS s.text) (number_of WAITS t.text))) g
    ∙ ap₂ (λ (x y : Option ℕ). journal_of (file ∷ entry ∷ state ∷ []) x y) (numeral-number STEPS n s some few) (numeral-number WAITS k t some_waits few_waits)

pub each_order_is_spelled : EachOrderIsSpelled
each_order_is_spelled (verify file k) m =
    let t = numeral 15 k (omega (arith, m.1.1)) in
    (codes "verify" ∷ (codes "--workers=" ++ t.text) ∷ dashes ∷ file ∷ [], spelled-verify file k t m.0 m.1.0 m.1.1)
each_order_is_spelled (recheck file proof) m = (codes "recheck" ∷ dashes ∷ file ∷ proof ∷ [], spelled-recheck file proof m.0.0 m.0.1)
each_order_is_spelled (run file entry state n k) m =
    let s = numeral 15 n (omega (arith, m.1.1)) in
    let t = numeral 15 k (omega (arith, m.1.3)) in (
      codes "run" ∷ (codes "--steps=" ++ s.text) ∷ (codes "--waits=" ++ t.text) ∷ dashes ∷ file ∷ entry ∷ state ∷ [],
      spelled-run file entry state n k s t m.0.0 m.0.1 m.0.2 m.1.0 m.1.1 m.1.2 m.1.3,
    )
each_order_is_spelled (demo n) m =
    let t = numeral 15 n (omega (arith, m.1.1)) in
    (codes "demo" ∷ dashes ∷ t.text ∷ [], spelled-demo n t m.1.0 m.1.1)
each_order_is_spelled (ranking file) m = (codes "order" ∷ dashes ∷ file ∷ [], spelled-ranking file m.0)
each_order_is_spelled (replay file entry state schedule) m =
    (codes "replay" ∷ dashes ∷ file ∷ entry ∷ state ∷ schedule ∷ [], spelled-replay file entry state schedule m.0.0 m.0.1 m.0.2 m.0.3)
each_order_is_spelled (witness file) m = (codes "witness" ∷ dashes ∷ file ∷ [], spelled-witness file m.0)
each_order_is_spelled (journal file entry state n k) m =
    let s = numeral 15 n (omega (arith, m.1.1)) in
    let t = numeral 15 k (omega (arith, m.1.3)) in (
      codes "journal" ∷ (codes "--steps=" ++ s.text) ∷ (codes "--waits=" ++ t.text) ∷ dashes ∷ file ∷ entry ∷ state ∷ [],
      spelled-journal file entry state n k s t m.0.0 m.0.1 m.0.2 m.1.0 m.1.1 m.1.2 m.1.3,
    )
