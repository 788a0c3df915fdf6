-- A token of the kind of names is a name, and so are the names among the leaves of a file's tokens.
use Rattle.std.proofs.Common.{◌≡◌, ℕ, ◌==◌, Bool, true, false, cond, Option, Some, None, List, [], ◌∷◌, length, refl, sym, ap, ◌∙◌, subst, arith, ℤ}
use Rattle.std.proofs.lemmas.Bool.Decides.{nat_tests}
use Rattle.std.specs.List.{AllByRecursion, list_all}
use Rattle.sf_ast.specs.declared.word.Word.{Word}
use Rattle.sf_elab.specs.Names.Texts.{text}
use Rattle.sf_lex.specs.declared.token.Kind.{Kind}
use Rattle.sf_lex.specs.declared.token.Kind.TheVariants as k
use Rattle.sf_lex.specs.declared.token.Token.{Token}
use Rattle.sf_lex.specs.Checked.Laws.{AreTheirTexts, IsItsText, text_at}
use Rattle.sf_lex.specs.Lexeme.{is_letter, is_number, is_some_of, is_word_byte, kind_of, symbol_kind, word_kind}
use Rattle.sf_lex.specs.Piece.{is_long_word}
use Rattle.sf_lex.specs.Whole.{is_name}
use Rattle.sf_parse.specs.Leaf.{Leaf, Name, kind, leaf, leaf_of, leaves, word_of}

-- no symbol is a name
symbol_no_name : (bs : List ℕ) → symbol_kind bs ≡ Some k.Name → ⊥
symbol_no_name [] e = absurd cc
symbol_no_name (b ∷ []) e = grind arith
symbol_no_name (b ∷ c ∷ []) e = grind arith
symbol_no_name (b ∷ c ∷ d ∷ []) e = grind arith
symbol_no_name (b ∷ c ∷ d ∷ x ∷ bs) e = absurd cc

-- a word that isn't reserved
record IsWord (letter word : Bool) (w : Kind) : Type 0 where
  begins : letter ≡ true
  goes_on : word ≡ true
  is : w ≡ k.Name

-- of the four kinds of texts only a word is a name
name-chosen : (letter word underscore existential digits : Bool) (w : Kind) (s : Option Kind) → (s ≡ Some k.Name → ⊥)
    → cond letter (cond word (Some w) None) (cond underscore (cond existential (Some k.Existential) None) (cond digits (Some k.Number) s)) ≡ Some k.Name
    → IsWord letter word w
name-chosen true true underscore existential digits w s h e = record { begins = refl; goes_on = refl; is = cc }
name-chosen true false underscore existential digits w s h e = absurd cc
name-chosen false word true true digits w s h e = absurd cc
name-chosen false word true false digits w s h e = absurd cc
name-chosen false word false existential true w s h e = absurd cc
name-chosen false word false existential false w s h e = absurd (h e)

-- a text of that kind that isn't too long is a name
name-named : (bs : List ℕ) → kind_of bs ≡ Some k.Name → is_long_word k.Name (length bs) ≡ false → is_name bs ≡ true
name-named [] e short = absurd cc
name-named (b ∷ bs) e short =
    let word = name-chosen (is_letter b) (list_all is_word_byte bs) (b == 95) (is_some_of is_word_byte bs) (is_number (b ∷ bs)) (word_kind (b ∷ bs)) (symbol_kind (b ∷ bs)) (symbol_no_name (b ∷ bs)) e in
    rw (word.begins, word.goes_on, word.is) (grind (arith, nat_tests))

-- the leaf of a token has its kind
kind_of_leaf : (u : Kind) (value : ℤ) (w : Word) → kind (leaf_of u value w) ≡ u
kind_of_leaf k.Name value w = refl
kind_of_leaf _ value w = refl

-- where the leaf is a name's, its text is a name
pub record FitsName (bytes : List ℕ) (l : Leaf) : Type 0 where
  pub named : (w : Word) → l ≡ Name w → is_name (text bytes w) ≡ true

leaf-fits : (bytes : List ℕ) (t : Token) → IsItsText bytes t → FitsName bytes (leaf t)
leaf-fits bytes t h = record { named = named }
  where
    named : (w : Word) → leaf t ≡ Name w → is_name (text bytes w) ≡ true
    named w e =
        let of_names : t.kind ≡ k.Name = sym (kind_of_leaf t.kind t.value (word_of t)) ∙ ap kind e in
        let same : Name (word_of t) ≡ Name w = sym (ap (λ (z : Kind). leaf_of z t.value (word_of t)) of_names) ∙ e in
        let word : word_of t ≡ w = cc in
        let short : is_long_word k.Name (length (text_at bytes t)) ≡ false = subst (λ (z : Kind). is_long_word z (length (text_at bytes t)) ≡ false) of_names h.short in
        subst (λ (v : Word). is_name (text bytes v) ≡ true) word (name-named (text_at bytes t) (h.kind ∙ ap Some of_names) short)

pub leaves-fit : (bytes : List ℕ) (before : ℕ) (ts : List Token) → AreTheirTexts bytes before ts → AllByRecursion (FitsName bytes) (leaves ts)
leaves-fit bytes before [] h = tt
leaves-fit bytes before (t ∷ ts) h = (leaf-fits bytes t h.0, leaves-fit bytes t.end ts h.2)
