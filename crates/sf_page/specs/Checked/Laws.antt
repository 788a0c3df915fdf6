-- Laws of escaped text and of pages, in words of their own.
-- Ordinary: what is escaped has no markup, so the tags of a page are those that the page was given.
use Rattle.std.specs.Prelude.{◌≡◌, ◌==◌, ◌||◌, ℕ, Bool, true, false, cond, not, List, [], ◌∷◌, ◌++◌, map}
use Rattle.std.specs.List.{list_any}
use Rattle.sf_page.specs.Escaped.{escaped}
use Rattle.sf_page.specs.Markup.{Bytes}
use Rattle.sf_page.specs.Written.{Piece, always, opening, closing, shown, written}

-- whether a byte can be markup or end an attribute: `<`, `>`, `"` or `'`
abbrev pub is_markup : (byte : ℕ) → Bool
is_markup b = (b == 60) || (b == 62) || (b == 34) || (b == 39)

-- an escaped text has no byte that can be markup
abbrev pub EscapedHasNoMarkup : Type 0
EscapedHasNoMarkup = (text : Bytes) → list_any is_markup (escaped text) ≡ false

-- a byte that opens a tag, and nothing in place of any other
abbrev pub tag_byte : (byte : ℕ) → Bytes
tag_byte b = cond (b == 60) (b ∷ []) []

-- the bytes that are in tags, each from a `<` up to the next `>`, where a tag is open at first or isn't
abbrev pub in_tags : (inside : Bool) → Bytes → Bytes
in_tags inside [] = []
in_tags true (b ∷ bs) = b ∷ in_tags (not (b == 62)) bs
in_tags false (b ∷ bs) = tag_byte b ++ in_tags (b == 60) bs

-- a piece without its text
abbrev pub blank : Piece → Piece
blank (always f) = always f
blank (opening e c ns) = opening e c ns
blank (closing e) = closing e
blank (shown t) = shown []

-- whatever texts a page shows, its tags are the same
abbrev pub TagsAreTheSame : Type 0
TagsAreTheSame = (pieces : List Piece) → in_tags false (written pieces) ≡ in_tags false (written (map blank pieces))
