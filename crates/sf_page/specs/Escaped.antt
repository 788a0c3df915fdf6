-- Escaped: how a text stands in a page, so that a browser shows it and reads no markup in it.
-- The five entities of HTML, "HTML Standard", section 13.1.4 (character references).
use Rattle.std.specs.Prelude.{ℕ, List, [], ◌∷◌, ◌++◌, ◌==◌, codes, cond}

-- a byte as it stands in a page: `&`, `<`, `>`, `"` and `'` as entities, any other as itself
abbrev pub escaped_byte : (byte : ℕ) → List ℕ
escaped_byte b = cond (b == 38) (codes "&amp;") (cond (b == 60) (codes "&lt;") (cond (b == 62) (codes "&gt;")
    (cond (b == 34) (codes "&quot;") (cond (b == 39) (codes "&#39;") (b ∷ [])))))

-- a text as it stands in a page
abbrev pub escaped : (text : List ℕ) → List ℕ
escaped [] = []
escaped (b ∷ bs) = escaped_byte b ++ escaped bs
