-- DemoText: what `demo` says of the file that it has made, once that is proved.
-- Ordinary: a text of three numbers.
use Rattle.std.specs.Prelude.{ℕ, Bool, true, false, List, ◌++◌, codes, decimal, length}
use Rattle.std.specs.List.{count_by}
use Rattle.sf_gen.specs.Made.{made_text}
use Rattle.sf_sym.specs.declared.tag.Tag.{Tag}
use Rattle.sf_sym.specs.declared.tag.Tag.TheVariants.{Procedure}
use Rattle.sf_words.specs.Words.{Text}

-- a tag is a step of a proof, unless it only begins a procedure
abbrev pub is_step : Tag → Bool
is_step (Procedure f) = false
is_step _ = true

-- how many procedures were asked for, and how many made
abbrev pub count_text : (procedures : ℕ) → Text
count_text n = (codes "demo " ++ decimal n) ++ (codes ": " ++ decimal n)

-- the same, and of how many bytes
abbrev pub size_text : (procedures bytes : ℕ) → Text
size_text n bytes = count_text n ++ (codes " procedures, " ++ decimal bytes)

-- how many steps their proof has
abbrev pub steps_text : (steps : ℕ) → Text
steps_text steps = (codes " bytes, " ++ decimal steps) ++ codes " tags\n"

-- how many procedures were made, how many bytes their file has, and how many steps these tags are
abbrev pub demo_text : (procedures : ℕ) → List Tag → Text
demo_text n tags = size_text n (length (made_text n)) ++ steps_text (count_by is_step tags)
