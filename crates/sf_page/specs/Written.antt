-- Written: what the bytes of a page are made of.
-- Ordinary: text is kept apart from markup by its type, as in typed templates.
use Rattle.std.specs.Prelude.{◌≡◌, List, [], ◌∷◌, ◌++◌}
use Rattle.sf_page.specs.declared.fixed.Fixed.{Fixed}
use Rattle.sf_page.specs.declared.fixed.Fixed.TheVariants.{Head, Script, Style}
use Rattle.sf_page.specs.declared.markup.Class.{Class}
use Rattle.sf_page.specs.declared.markup.Element.{Element}
use Rattle.sf_page.specs.declared.markup.Number.{Number}
use Rattle.sf_page.specs.Escaped.{escaped}
use Rattle.sf_page.specs.Fixed.{fixed_text}
use Rattle.sf_page.specs.Markup.{Bytes, closing_text, opening_text}

-- a piece of a page: one that is the same in each, a tag that opens an element, a tag that closes one, or a text
pub data Piece : Type 0 where
  always : Fixed → Piece
  opening : Element → Class → List Number → Piece
  closing : Element → Piece
  shown : (text : Bytes) → Piece

-- how a piece is written: a text escaped
abbrev pub piece_text : Piece → Bytes
piece_text (always f) = fixed_text f
piece_text (opening e c ns) = opening_text e c ns
piece_text (closing e) = closing_text e
piece_text (shown t) = escaped t

-- how pieces are written, one after the other
abbrev pub written : List Piece → Bytes
written [] = []
written (p ∷ ps) = piece_text p ++ written ps

-- the pieces of a page of that title: its body between what is the same in each
abbrev pub page_pieces : (title : Bytes) (body : List Piece) → List Piece
page_pieces title body = always Head ∷ shown title ∷ always Style ∷ (body ++ always Script ∷ [])

-- bytes that are a page of that title
abbrev pub IsPage : (title : Bytes) → Bytes → Type 0
IsPage title bytes = (body : List Piece) × (bytes ≡ written (page_pieces title body))

-- bytes that are pieces of a page
abbrev pub IsWritten : Bytes → Type 0
IsWritten bytes = (pieces : List Piece) × (bytes ≡ written pieces)
