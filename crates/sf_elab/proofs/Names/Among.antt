-- Which names are among words, word by word.
use Rattle.std.proofs.Common.{◌≡◌, ℕ, ◌+◌, ◌<◌, ◌||◌, Bool, true, List, [], ◌∷◌, length, get_or, drop, sym, ◌∙◌, ap, add-one, drop-cons}
use Rattle.std.proofs.lemmas.Bool.{or_left, or_right}
use Rattle.std.proofs.Math.Bool.{or_assoc}
use Rattle.std.specs.List.{AllByRecursion}
use Rattle.std.specs.Str.{bytes_eq}
use Rattle.sf_base.proofs.Equality.{bytes_eq-self}
use Rattle.sf_ast.specs.declared.word.Word.{Word}
use Rattle.sf_elab.specs.Bodies.Procedures.{is_among}
use Rattle.sf_elab.specs.Names.Table.{Table, has, declare}
use Rattle.sf_elab.specs.Names.Texts.{text}
use Rattle.sf_elab.proofs.Names.TableLaws.{has_declared}

-- one more word was declared
pub among_more : (bytes : List ℕ) (ws : List Word) (i : ℕ) (t u : Table (Unit {0})) (d : Word) → i < length ws → u ≡ declare (text bytes (get_or ws i d)) tt t → (name : List ℕ) (r : Bool)
    → (has name t || is_among bytes (drop i ws) name) ≡ r → (has name u || is_among bytes (drop (i + 1) ws) name) ≡ r
among_more bytes ws i t u d within e name r h =
    let w : Word = get_or ws i d in
    let next : drop i ws ≡ w ∷ drop (i + 1) ws = rw (add-one) (drop-cons ws i d within) in
    let more : has name u ≡ (has name t || bytes_eq name (text bytes w)) = ap (has name) e ∙ has_declared name (text bytes w) tt t in
    ap (λ b. b || is_among bytes (drop (i + 1) ws) name) more ∙ or_assoc (has name t) (bytes_eq name (text bytes w)) (is_among bytes (drop (i + 1) ws) name)
    ∙ ap (λ vs. has name t || is_among bytes vs name) (sym next) ∙ h

-- the text of one of those words is among them
pub among_them : (bytes : List ℕ) (ws all : List Word) → AllByRecursion (λ w. is_among bytes all (text bytes w) ≡ true) ws → (v : Word) → AllByRecursion (λ w. is_among bytes (v ∷ all) (text bytes w) ≡ true) ws
among_them bytes [] all h v = tt
among_them bytes (w ∷ ws) all h v = (or_right (bytes_eq (text bytes w) (text bytes v)) (is_among bytes all (text bytes w)) h.0, among_them bytes ws all h.1 v)

pub each_among : (bytes : List ℕ) (ws : List Word) → AllByRecursion (λ w. is_among bytes ws (text bytes w) ≡ true) ws
each_among bytes [] = tt
each_among bytes (w ∷ ws) = (or_left (bytes_eq (text bytes w) (text bytes w)) (is_among bytes ws (text bytes w)) (bytes_eq-self (text bytes w)), among_them bytes ws ws (each_among bytes ws) w)
