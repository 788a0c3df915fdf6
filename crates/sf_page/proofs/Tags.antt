-- The tags of a page are those of its pieces, whatever texts it shows.
use Rattle.std.proofs.Common.{◌≡◌, ◌==◌, ◌∙◌, ◌+◌, ◌%◌, ◌/◌, ℕ, suc, zero, Bool, true, false, not, cond, codes, List, [], ◌∷◌, ◌++◌, map, refl, sym, ap, subst, append_assoc, arith, if◌then◌else◌}
use Rattle.std.specs.Prelude.{◌||◌, decimal, nat_lt}
use Rattle.std.specs.Fmt.{digit_glyph, digits, digits_onto}
use Rattle.std.specs.List.{list_any}
use Rattle.std.proofs.lemmas.Bool.Decides.{nat_tests}
use Rattle.std.proofs.lemmas.List.Folds.{list_any-append}
use Rattle.sf_page.proofs.Escaping.{escaped_has_no_markup}
use Rattle.sf_page.specs.Checked.Laws.{TagsAreTheSame, blank, in_tags, is_markup, tag_byte}
use Rattle.sf_page.specs.Escaped.{escaped}
use Rattle.sf_page.specs.Fixed.{fixed_text}
use Rattle.sf_page.specs.Markup.{Bytes, class_text, closing_text, element_text, number_after, number_before, number_text, numbers_text, opening_text}
use Rattle.sf_page.specs.Written.{Piece, always, closing, opening, piece_text, shown, written}
use Rattle.sf_page.specs.declared.fixed.Fixed.{Fixed}
use Rattle.sf_page.specs.declared.fixed.Fixed.TheVariants.{Head, Script, Style}
use Rattle.sf_page.specs.declared.markup.Attribute.{Attribute}
use Rattle.sf_page.specs.declared.markup.Attribute.TheVariants.{Bend, Depth, Frame, FromColumn, FromLine, Gone, Height, IdLine, IdStep, Last, MoveX, MoveY, ToEndColumn, ToEndLine, ToLine, ToStep, Whose, Width, X, Y}
use Rattle.sf_page.specs.declared.markup.Class.{Class}
use Rattle.sf_page.specs.declared.markup.Class.TheVariants.{Arrow, At, Bad, Bar, Beside, Caption, Cell, Content, Dashed, Doing, Fails, Field, Figure, Fine, Group, Heap, Helps, Kind, Line, Loose, Marked, Name, Note, Owner, Owners, Pointers, Row, Rule, Said, Scene, Source, Step, Steps, Summary, Tag, Task, Tasks, Term, Title, Top, Tracks, Unknown, Value, Values, Verdict, View, Wanted, Words}
use Rattle.sf_page.specs.declared.markup.Element.{Element}
use Rattle.sf_page.specs.declared.markup.Element.TheVariants.{A, Code, Div, G, H1, H2, H3, Label, Li, Ol, P, Path, Rect, Section, Span, Svg}
use Rattle.sf_page.specs.declared.markup.Number.{Number}

-- ---- where a reader is behind bytes

-- whether it is in a tag, where it was or wasn't before
abbrev after : (inside : Bool) → Bytes → Bool
after inside [] = inside
after true (b ∷ bs) = after (not (b == 62)) bs
after false (b ∷ bs) = after (b == 60) bs

-- behind bytes one after the other
after-append : (inside : Bool) (xs ys : Bytes) → after inside (xs ++ ys) ≡ after (after inside xs) ys
after-append true [] ys = refl
after-append false [] ys = refl
after-append true (b ∷ xs) ys = after-append (not (b == 62)) xs ys
after-append false (b ∷ xs) ys = after-append (b == 60) xs ys

-- what is in tags of bytes one after the other
in_tags-append : (inside : Bool) (xs ys : Bytes)
    → in_tags inside (xs ++ ys) ≡ in_tags inside xs ++ in_tags (after inside xs) ys
in_tags-append true [] ys = refl
in_tags-append false [] ys = refl
in_tags-append true (b ∷ xs) ys = ap (λ bytes. b ∷ bytes) (in_tags-append (not (b == 62)) xs ys)
in_tags-append false (b ∷ xs) ys =
    ap (λ bytes. tag_byte b ++ bytes) (in_tags-append (b == 60) xs ys)
    ∙ sym (append_assoc (tag_byte b) (in_tags (b == 60) xs) (in_tags (after (b == 60) xs) ys))

-- two tests of which neither holds
or-parts : (a b : Bool) → (a || b) ≡ false → (a ≡ false) × (b ≡ false)
or-parts true b h = absurd (true_false h)
  where
    true_false : true ≡ false → ⊥
    true_false e = cc
or-parts false b h = (refl, h)

-- ---- bytes without a `>` stay in a tag

-- whether a byte ends a tag
abbrev is_end : (byte : ℕ) → Bool
is_end b = b == 62

-- they do
stays-inside : (xs : Bytes) → list_any is_end xs ≡ false → after true xs ≡ true
stays-inside [] h = refl
stays-inside (b ∷ xs) h =
    let parts = or-parts (is_end b) (list_any is_end xs) h in
    subst (λ (t : Bool). after (not t) xs ≡ true) (sym parts.0) (stays-inside xs parts.1)

-- more of them behind an open tag leave it open
opens-more : (xs ys : Bytes) → after false xs ≡ true → list_any is_end ys ≡ false → after false (xs ++ ys) ≡ true
opens-more xs ys h k = after-append false xs ys ∙ ap (λ inside. after inside ys) h ∙ stays-inside ys k

-- a `>` closes it
closes : (xs : Bytes) → after false xs ≡ true → after false (xs ++ codes ">") ≡ false
closes xs h = after-append false xs (codes ">") ∙ ap (λ inside. after inside (codes ">")) h

-- no name of an element has one
element-no_end : (e : Element) → list_any is_end (element_text e) ≡ false
element-no_end Div = refl
element-no_end Span = refl
element-no_end A = refl
element-no_end Section = refl
element-no_end Ol = refl
element-no_end Li = refl
element-no_end H1 = refl
element-no_end H2 = refl
element-no_end H3 = refl
element-no_end P = refl
element-no_end Code = refl
element-no_end Svg = refl
element-no_end G = refl
element-no_end Rect = refl
element-no_end Label = refl
element-no_end Path = refl

-- nor has one of a class
class-no_end : (c : Class) → list_any is_end (class_text c) ≡ false
class-no_end Top = refl
class-no_end Title = refl
class-no_end Summary = refl
class-no_end Note = refl
class-no_end Source = refl
class-no_end Line = refl
class-no_end Marked = refl
class-no_end Row = refl
class-no_end Words = refl
class-no_end Said = refl
class-no_end Tracks = refl
class-no_end Fine = refl
class-no_end Bad = refl
class-no_end Unknown = refl
class-no_end Verdict = refl
class-no_end Steps = refl
class-no_end Step = refl
class-no_end Fails = refl
class-no_end Tag = refl
class-no_end Rule = refl
class-no_end View = refl
class-no_end Scene = refl
class-no_end Group = refl
class-no_end Caption = refl
class-no_end Values = refl
class-no_end Value = refl
class-no_end Name = refl
class-no_end Term = refl
class-no_end Wanted = refl
class-no_end Helps = refl
class-no_end Beside = refl
class-no_end Tasks = refl
class-no_end Task = refl
class-no_end Doing = refl
class-no_end Owners = refl
class-no_end Owner = refl
class-no_end Heap = refl
class-no_end Figure = refl
class-no_end Cell = refl
class-no_end Dashed = refl
class-no_end Bar = refl
class-no_end At = refl
class-no_end Kind = refl
class-no_end Field = refl
class-no_end Content = refl
class-no_end Pointers = refl
class-no_end Arrow = refl
class-no_end Loose = refl

-- nor what stands before a number
before-no_end : (a : Attribute) → list_any is_end (number_before a) ≡ false
before-no_end X = refl
before-no_end Y = refl
before-no_end Width = refl
before-no_end Height = refl
before-no_end Frame = refl
before-no_end MoveX = refl
before-no_end MoveY = refl
before-no_end Bend = refl
before-no_end Last = refl
before-no_end IdLine = refl
before-no_end ToLine = refl
before-no_end IdStep = refl
before-no_end ToStep = refl
before-no_end Depth = refl
before-no_end FromLine = refl
before-no_end FromColumn = refl
before-no_end ToEndLine = refl
before-no_end ToEndColumn = refl
before-no_end Whose = refl
before-no_end Gone = refl

-- nor what stands behind it
behind-no_end : (a : Attribute) → list_any is_end (number_after a) ≡ false
behind-no_end X = refl
behind-no_end Y = refl
behind-no_end Width = refl
behind-no_end Height = refl
behind-no_end Frame = refl
behind-no_end MoveX = refl
behind-no_end MoveY = refl
behind-no_end Bend = refl
behind-no_end Last = refl
behind-no_end IdLine = refl
behind-no_end ToLine = refl
behind-no_end IdStep = refl
behind-no_end ToStep = refl
behind-no_end Depth = refl
behind-no_end FromLine = refl
behind-no_end FromColumn = refl
behind-no_end ToEndLine = refl
behind-no_end ToEndColumn = refl
behind-no_end Whose = refl
behind-no_end Gone = refl

-- a digit is none
glyph-no_end : (d : ℕ) → is_end (digit_glyph false d) ≡ false
glyph-no_end d = by_test (nat_lt d 10) refl
  where
    by_test : (t : Bool) → nat_lt d 10 ≡ t → is_end (if t then 48 + d else (if false then 55 + d else 87 + d)) ≡ false
    by_test true e = grind (arith, nat_tests)
    by_test false e = grind (arith, nat_tests)

-- nor has either of two texts that have none
pick : (t : Bool) (xs ys : Bytes) → list_any is_end xs ≡ false → list_any is_end ys ≡ false
    → list_any is_end (if t then xs else ys) ≡ false
pick true xs ys h k = h
pick false xs ys h k = k

-- so digits have none
onto-no_end : (k n : ℕ) (acc : Bytes) → list_any is_end acc ≡ false
    → list_any is_end (digits_onto k 10 false n acc) ≡ false
onto-no_end zero n acc h = h
onto-no_end (suc k) n acc h =
    pick (n / 10 == 0) (digit_glyph false (n % 10) ∷ acc)
    (digits_onto k 10 false (n / 10) (digit_glyph false (n % 10) ∷ acc)) more
    (onto-no_end k (n / 10) (digit_glyph false (n % 10) ∷ acc) more)
  where
    more : list_any is_end (digit_glyph false (n % 10) ∷ acc) ≡ false
    more = ap (λ t. t || list_any is_end acc) (glyph-no_end (n % 10)) ∙ h

-- nor has a number
decimal-no_end : (n : ℕ) → list_any is_end (decimal n) ≡ false
unfolding digits
decimal-no_end n = onto-no_end 64 n [] refl

-- nor has a text of two parts that have none
append-no_end : (xs ys : Bytes) → list_any is_end xs ≡ false → list_any is_end ys ≡ false
    → list_any is_end (xs ++ ys) ≡ false
append-no_end xs ys h k =
    list_any-append is_end xs ys ∙ ap (λ t. t || list_any is_end ys) h ∙ k

-- nor have attributes
numbers-no_end : (ns : List Number) → list_any is_end (numbers_text ns) ≡ false
numbers-no_end [] = refl
numbers-no_end (n ∷ ns) =
    append-no_end (number_text n) (numbers_text ns)
    (append-no_end (number_before n.attribute ++ decimal n.value) (number_after n.attribute)
    (append-no_end (number_before n.attribute) (decimal n.value) (before-no_end n.attribute) (decimal-no_end n.value))
    (behind-no_end n.attribute))
    (numbers-no_end ns)

-- ---- each piece ends outside of tags

-- what is the same in each page
fixed-closed : (f : Fixed) → after false (fixed_text f) ≡ false
fixed-closed Head = refl
fixed-closed Style = refl
fixed-closed Script = refl

-- a tag that opens an element
opening-closed : (e : Element) (c : Class) (ns : List Number) → after false (opening_text e c ns) ≡ false
opening-closed e c ns =
    let one = codes "<" ++ element_text e in
    let two = one ++ codes " class=\"" in
    let three = two ++ class_text c in
    let four = three ++ codes "\"" in
    closes (four ++ numbers_text ns)
    (opens-more four (numbers_text ns)
    (opens-more three (codes "\"")
    (opens-more two (class_text c)
    (opens-more one (codes " class=\"") (opens-more (codes "<") (element_text e) refl (element-no_end e)) refl)
    (class-no_end c))
    refl)
    (numbers-no_end ns))

-- a tag that closes one
closing-closed : (e : Element) → after false (closing_text e) ≡ false
closing-closed e =
    closes (codes "</" ++ element_text e) (opens-more (codes "</") (element_text e) refl (element-no_end e))

-- a text without markup, of which nothing is in tags
stays-outside : (xs : Bytes) → list_any is_markup xs ≡ false → (after false xs ≡ false) × (in_tags false xs ≡ [])
stays-outside [] h = (refl, refl)
stays-outside (b ∷ xs) h =
    let parts = or-parts (is_markup b) (list_any is_markup xs) h in
    let three = or-parts ((b == 60) || (b == 62) || (b == 34)) (b == 39) parts.0 in
    let two = or-parts ((b == 60) || (b == 62)) (b == 34) three.0 in
    let none = (or-parts (b == 60) (b == 62) two.0).0 in
    let rest = stays-outside xs parts.1 in (
      subst (λ (t : Bool). after t xs ≡ false) (sym none) rest.0,
      subst (λ (t : Bool). cond t (b ∷ []) [] ++ in_tags t xs ≡ []) (sym none) rest.1,
    )

-- each
piece-closed : (p : Piece) → after false (piece_text p) ≡ false
piece-closed (always f) = fixed-closed f
piece-closed (opening e c ns) = opening-closed e c ns
piece-closed (closing e) = closing-closed e
piece-closed (shown t) = (stays-outside (escaped t) (escaped_has_no_markup t)).0

-- ---- the tags of a page

-- those of a piece are the same without its text
piece-same : (p : Piece) → in_tags false (piece_text p) ≡ in_tags false (piece_text (blank p))
piece-same (always f) = refl
piece-same (opening e c ns) = refl
piece-same (closing e) = refl
piece-same (shown t) = (stays-outside (escaped t) (escaped_has_no_markup t)).1

-- those of a page are those of its pieces
written-tags : (p : Piece) (ps : List Piece)
    → in_tags false (written (p ∷ ps)) ≡ in_tags false (piece_text p) ++ in_tags false (written ps)
written-tags p ps =
    in_tags-append false (piece_text p) (written ps)
    ∙ ap (λ inside. in_tags false (piece_text p) ++ in_tags inside (written ps)) (piece-closed p)

-- so they are the same without its texts
pub tags_are_the_same : TagsAreTheSame
tags_are_the_same [] = refl
tags_are_the_same (p ∷ ps) =
    written-tags p ps
    ∙ ap (λ tags. tags ++ in_tags false (written ps)) (piece-same p)
    ∙ ap (λ tags. in_tags false (piece_text (blank p)) ++ tags) (tags_are_the_same ps)
    ∙ sym (written-tags (blank p) (map blank ps))
