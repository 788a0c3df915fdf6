-- Own: whether atoms have their cells at symbols of their own, by what was seen before.
-- Ordinary: a list without repeats, read from the front.
use Rattle.std.specs.Prelude.{ℕ, ◌==◌, Bool, true, false, ◌&&◌, ◌||◌, not, List, [], ◌∷◌}
use Rattle.sf_sym.specs.declared.term.Term.{Term}
use Rattle.sf_sym.specs.declared.term.Term.TheVariants.{Nil, Int, Sym}

-- the term is a symbol that wasn't seen
abbrev pub is_new : (ℕ → Bool) → Term → Bool
is_new seen Nil = false
is_new seen (Int i) = false
is_new seen (Sym n) = not (seen n)

-- what was seen, and the term if it is a symbol
abbrev pub seeing : Term → (ℕ → Bool) → ℕ → Bool
seeing Nil seen n = seen n
seeing (Int i) seen n = seen n
seeing (Sym m) seen n = m == n || seen n

-- the terms are symbols that weren't seen, each once
abbrev pub are_new : (ℕ → Bool) → List Term → Bool
are_new seen [] = true
are_new seen (t ∷ ts) = is_new seen t && are_new (seeing t seen) ts
