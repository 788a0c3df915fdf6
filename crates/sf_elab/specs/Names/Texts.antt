-- What the words of a file's tree say.
-- Ordinary: a word is a span of the bytes.
use Rattle.std.specs.Prelude.{ℕ, List}
use Rattle.std.specs.List.{slice_range}
use Rattle.sf_ast.specs.declared.word.Word.{Word}

-- the text of a word
abbrev pub text : List ℕ → Word → List ℕ
text bytes w = slice_range bytes w.start w.end
