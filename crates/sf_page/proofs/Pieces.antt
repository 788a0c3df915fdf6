-- What is written of pieces stays so, whatever piece is appended.
use Rattle.std.proofs.Common.{◌≡◌, List, [], ◌∷◌, ◌++◌, refl, sym, ◌∙◌, ap, append_assoc, append-nil}
use Rattle.std.proofs.Math.Logic.{∥∥₁_map}
use Rattle.sf_page.specs.declared.fixed.Fixed.TheVariants.{Head, Script, Style}
use Rattle.sf_page.specs.declared.markup.Class.{Class}
use Rattle.sf_page.specs.declared.markup.Element.{Element}
use Rattle.sf_page.specs.declared.markup.Number.{Number}
use Rattle.sf_page.specs.Escaped.{escaped}
use Rattle.sf_page.specs.Fixed.{fixed_text}
use Rattle.sf_page.specs.Markup.{Bytes, closing_text, opening_text}
use Rattle.sf_page.specs.Written.{IsPage, IsWritten, Piece, always, closing, opening, piece_text, shown, written}

-- pieces with one more are written with it behind them
written-snoc : (ps : List Piece) (p : Piece) → written (ps ++ p ∷ []) ≡ written ps ++ piece_text p
written-snoc [] p = append-nil (piece_text p)
written-snoc (q ∷ ps) p =
    ap (λ bytes. piece_text q ++ bytes) (written-snoc ps p) ∙ sym (append_assoc (piece_text q) (written ps) (piece_text p))

-- bytes that are pieces, with one more
more : (bytes : Bytes) (p : Piece) → IsWritten bytes → IsWritten (bytes ++ piece_text p)
more bytes p w =
    (w.0 ++ p ∷ [], ap (λ front. front ++ piece_text p) w.1 ∙ sym (written-snoc w.0 p))

-- the same, where no more is known than that there are such pieces
more_known : (bytes : Bytes) (p : Piece) → ∥ IsWritten bytes ∥₁ → ∥ IsWritten (bytes ++ piece_text p) ∥₁
more_known bytes p w =
    ∥∥₁_map w (more bytes p)

-- nothing is no pieces
pub written_nothing : ∥ IsWritten [] ∥₁
written_nothing = ∣ ([], refl) ∣₁

-- with a tag that opens an element
pub written_opening : (bytes : Bytes) (e : Element) (c : Class) (ns : List Number) → ∥ IsWritten bytes ∥₁
    → ∥ IsWritten (bytes ++ opening_text e c ns) ∥₁
written_opening bytes e c ns = more_known bytes (opening e c ns)

-- with a tag that closes an element
pub written_closing : (bytes : Bytes) (e : Element) → ∥ IsWritten bytes ∥₁
    → ∥ IsWritten (bytes ++ closing_text e) ∥₁
written_closing bytes e = more_known bytes (closing e)

-- with a text
pub written_shown : (bytes : Bytes) (t : Bytes) → ∥ IsWritten bytes ∥₁ → ∥ IsWritten (bytes ++ escaped t) ∥₁
written_shown bytes t = more_known bytes (shown t)

-- a body of pieces between what is the same in each page is a page
pub page_written : (title body bytes head style script : Bytes) → head ≡ fixed_text Head
    → style ≡ fixed_text Style → script ≡ fixed_text Script
    → bytes ≡ head ++ (escaped title ++ (style ++ (body ++ script)))
    → ∥ IsWritten body ∥₁ → ∥ IsPage title bytes ∥₁
page_written title body bytes head style script h s t e w =
    ∥∥₁_map w (λ (known : IsWritten body). (
      known.0,
      e ∙ ap (λ x. x ++ (escaped title ++ (style ++ (body ++ script)))) h
          ∙ ap (λ x. fixed_text Head ++ (escaped title ++ (x ++ (body ++ script)))) s
          ∙ ap (λ x. fixed_text Head ++ (escaped title ++ (fixed_text Style ++ (body ++ x)))) t
          ∙ ap (λ x. fixed_text Head ++ (escaped title ++ (fixed_text Style ++ x)))
          (ap (λ front. front ++ fixed_text Script) known.1 ∙ sym (written-snoc known.0 (always Script))),
    ))
