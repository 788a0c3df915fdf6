-- Each existential of what an assertion elaborates to is made by a level around it.
use Rattle.std.proofs.Common.{◌≡◌, ◌≤◌, ◌<◌, ◌+◌, ◌-◌, ◌&&◌, ℕ, true, nat_le, nat_lt, List, [], ◌∷◌, ◌++◌, length, Option, Some, None, is_some, refl, ◌∙◌, ap, subst, arith}
use Rattle.std.proofs.lemmas.Bool.{or_right, or_left}
use Rattle.std.proofs.lemmas.Bool.Decides.{nat_tests}
use Rattle.std.proofs.lemmas.Option.{slice_get_within}
use Rattle.std.specs.List.{AllByRecursion}
use Rattle.sf_base.proofs.Options.{some-once}
use Rattle.sf_ast.specs.declared.word.Word.{Word}
use Rattle.sf_core.specs.declared.assertion.Scope.{Scope}
use Rattle.sf_core.specs.Program.Formed.{is_made}
use Rattle.sf_elab.specs.declared.levels.Levels.{Levels}
use Rattle.sf_elab.specs.Annotations.Existentials.{opened, made_by}
use Rattle.sf_elab.specs.Annotations.Flat.{Flats, words_in}
use Rattle.sf_elab.specs.Bodies.Procedures.{is_among}
use Rattle.sf_elab.specs.Names.Table.{Table, find, has}
use Rattle.sf_elab.specs.Names.Texts.{text}
use Rattle.sf_elab.proofs.Annotations.Scopes.{met_in_reach, met_kept, met_new}
use Rattle.sf_elab.proofs.Names.Among.{each_among}
use Rattle.sf_elab.proofs.Names.TableLaws.{Finds}

-- each existential in reach is made by one of those levels
abbrev pub AreMade : List Scope → Table ℕ → Type 0
AreMade made reach = Finds (λ name n. is_made made n ≡ true) reach

-- each of those words is an existential in reach
abbrev pub AreReached : List ℕ → Table ℕ → List Word → Type 0
AreReached bytes reach ws = AllByRecursion (λ w. has (text bytes w) reach ≡ true) ws

pub reached_both : (bytes : List ℕ) (reach : Table ℕ) (xs ys : List Word) → AreReached bytes reach (xs ++ ys) → AreReached bytes reach xs × AreReached bytes reach ys
reached_both bytes reach [] ys h = (tt, h)
reached_both bytes reach (x ∷ xs) ys h = let rest = reached_both bytes reach xs ys h.1 in ((h.0, rest.0), rest.1)

-- all existentials of a level are in reach from its beginning
pub level_reached : (bytes : List ℕ) (l : Levels) (a : Flats) → AreReached bytes (Levels.reach (opened bytes l a)) (words_in a)
level_reached bytes l a = go (words_in a) (each_among bytes (words_in a))
  where
    go : (ws : List Word) → AllByRecursion (λ w. is_among bytes (words_in a) (text bytes w) ≡ true) ws → AreReached bytes (Levels.reach (opened bytes l a)) ws
    go [] h = tt
    go (w ∷ ws) h = (met_in_reach bytes l (words_in a) (text bytes w) ∙ or_right (has (text bytes w) l.reach) (is_among bytes (words_in a) (text bytes w)) h.0, go ws h.1)

made_here : (first last n : ℕ) (made : List Scope) → first ≤ n → n < last → is_made (record { first = first; count = last - first } ∷ made) n ≡ true
made_here first last n made h i =
    let here : (nat_le first n && nat_lt n (first + (last - first))) ≡ true = grind (arith, nat_tests) in
    or_left (nat_le first n && nat_lt n (first + (last - first))) (is_made made n) here

-- what a level has in reach is made by it, or by a level around it
pub level_made : (bytes : List ℕ) (l : Levels) (a : Flats) (made : List Scope) → AreMade made l.reach → AreMade (made_by bytes l a ∷ made) (Levels.reach (opened bytes l a))
level_made bytes l a made h name n e = go (find name l.reach) refl
  where
    here : Scope
    here = made_by bytes l a

    go : (o : Option ℕ) → find name l.reach ≡ o → is_made (here ∷ made) n ≡ true
    go (Some m) q =
        let same : m ≡ n = some-once (find name (Levels.reach (opened bytes l a))) m n (met_kept bytes l (words_in a) name m q) e in
        or_right (nat_le here.first n && nat_lt n (here.first + here.count)) (is_made made n) (subst (λ k. is_made made k ≡ true) same (h name m q))
    go None q =
        let new = met_new bytes l (words_in a) name n (ap is_some q) e in
        made_here (length l.names) (length (Levels.names (opened bytes l a))) n made new.0 (slice_get_within (Levels.names (opened bytes l a)) n name new.1)
