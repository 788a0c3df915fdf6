-- Levels are scopes: what is in reach inside one, and which numbers are new.
use Rattle.std.proofs.Common.{◌≡◌, inl, inr, ◌≤◌, ◌||◌, ℕ, Bool, true, false, cond, List, [], ◌∷◌, ◌++◌, length, slice_get, take, Option, Some, None, is_some, sym, ◌∙◌, refl, ap, arith}
use Rattle.std.proofs.lemmas.List.{append-nil, append_assoc, length-append}
use Rattle.std.proofs.Math.Bool.{or-false, or_assoc}
use Rattle.std.proofs.Math.Seq.{take-append_seam}
use Rattle.std.specs.Str.{bytes_eq}
use Rattle.sf_base.proofs.Lookup.{get-middle}
use Rattle.sf_base.proofs.Options.{some-once}
use Rattle.sf_ast.specs.declared.word.Word.{Word}
use Rattle.sf_elab.specs.declared.levels.Levels.{Levels}
use Rattle.sf_elab.specs.Annotations.Existentials.{meet, meet_all, opened, taking, names_after, names_after_all, names_after_level}
use Rattle.sf_elab.specs.Annotations.Flat.{words_in}
use Rattle.sf_elab.specs.Annotations.Flat as f
use Rattle.sf_elab.specs.Checked.Laws.{LevelsAreScopes}
use Rattle.sf_elab.specs.Bodies.Procedures.{is_among}
use Rattle.sf_elab.specs.Names.Table.{Table, find, has}
use Rattle.sf_elab.specs.Names.Texts.{text}
use Rattle.sf_elab.proofs.Names.TableLaws.{found_declared, found_still, has_declared}

-- what is in reach once those are met
pub met_in_reach : (bytes : List ℕ) (l : Levels) (ws : List Word) (name : List ℕ) → has name (Levels.reach (meet_all bytes l ws)) ≡ (has name l.reach || is_among bytes ws name)
met_in_reach bytes l [] name = sym (or-false (has name l.reach))
met_in_reach bytes l (w ∷ ws) name =
    met_in_reach bytes (meet bytes l w) ws name ∙ ap (λ b. b || is_among bytes ws name) (has_declared name (text bytes w) (length l.names) l.reach)
    ∙ or_assoc (has name l.reach) (bytes_eq name (text bytes w)) (is_among bytes ws name)

pub met_kept : (bytes : List ℕ) (l : Levels) (ws : List Word) (name : List ℕ) (n : ℕ) → find name l.reach ≡ Some n → find name (Levels.reach (meet_all bytes l ws)) ≡ Some n
met_kept bytes l [] name n h = h
met_kept bytes l (w ∷ ws) name n h = met_kept bytes (meet bytes l w) ws name n (found_still name (text bytes w) (length l.names) l.reach n h)

-- a list that has others after it
abbrev pub IsGrown : {X : Type 0} → (old new : List X) → Type 0
IsGrown {X} old new = (more : List X) × (new ≡ old ++ more)

grown_none : {X : Type 0} (xs : List X) → IsGrown xs xs
grown_none xs = ([], sym (append-nil xs))

grown_if : {X : Type 0} (t : Bool) (xs : List X) (x : X) → IsGrown xs (cond t xs (xs ++ x ∷ []))
grown_if true xs x = grown_none xs
grown_if false xs x = (x ∷ [], refl)

grown_twice : {X : Type 0} (a b c : List X) → IsGrown a b → IsGrown b c → IsGrown a c
grown_twice {X} a b c g h = (g.0 ++ h.0, h.1 ∙ ap (λ (x : List X). x ++ h.0) g.1 ∙ append_assoc a g.0 h.0)

-- meeting existentials adds to what is in reach, and to all names
reach_grown : (bytes : List ℕ) (l : Levels) (ws : List Word) → IsGrown l.reach (Levels.reach (meet_all bytes l ws))
reach_grown bytes l [] = grown_none l.reach
reach_grown bytes l (w ∷ ws) = grown_twice l.reach _ _ (grown_if (has (text bytes w) l.reach) l.reach (text bytes w, length l.names)) (reach_grown bytes (meet bytes l w) ws)

pub all_grown : (bytes : List ℕ) (l : Levels) (ws : List Word) → IsGrown l.names (Levels.names (meet_all bytes l ws))
all_grown bytes l [] = grown_none l.names
all_grown bytes l (w ∷ ws) = grown_twice l.names _ _ (grown_if (has (text bytes w) l.reach) l.names (text bytes w)) (all_grown bytes (meet bytes l w) ws)

-- a level that is left has in reach what was there before it was entered
pub level_left : (bytes : List ℕ) (l m n : Levels) (a : f.Flats) (outside : ℕ) (r : Table ℕ) → m ≡ opened bytes l a → n ≡ taking m (names_after_all bytes m a) → outside ≡ length l.reach → r ≡ take outside n.reach
    → record { reach = r; names = n.names } ≡ taking l (names_after_level bytes l a)
level_left bytes l m n a outside r p q k e =
    let grown = reach_grown bytes l (words_in a) in
    let inside : n.reach ≡ l.reach ++ grown.0 = ap (λ (o : Levels). o.reach) (q ∙ ap (λ (o : Levels). taking o (names_after_all bytes o a)) p) ∙ grown.1 in
    let back : r ≡ l.reach = e ∙ ap (λ i. take i n.reach) k ∙ ap (take (length l.reach)) inside ∙ take-append_seam l.reach grown.0 in
    let names : n.names ≡ names_after_level bytes l a = ap (λ (o : Levels). o.names) q ∙ ap (λ (o : Levels). names_after_all bytes o a) p in
    λ i. record { reach = back i; names = names i }

mutual
  conjunct_grown : (bytes : List ℕ) (l : Levels) (d : f.Flat) → IsGrown l.names (names_after bytes l d)
  conjunct_grown bytes l (f.choose p t a b) =
      let m : Levels = taking l (names_after_level bytes l a) in
      grown_twice l.names m.names _ (grown_twice l.names _ m.names (all_grown bytes l (words_in a)) (level_grown bytes (opened bytes l a) a))
      (grown_twice m.names _ _ (all_grown bytes m (words_in b)) (level_grown bytes (opened bytes m b) b))
  conjunct_grown bytes l _ = grown_none l.names

  level_grown : (bytes : List ℕ) (l : Levels) (a : f.Flats) → IsGrown l.names (names_after_all bytes l a)
  level_grown bytes l f.none = grown_none l.names
  level_grown bytes l (f.also d ds) = grown_twice l.names _ _ (conjunct_grown bytes l d) (level_grown bytes (taking l (names_after bytes l d)) ds)

-- the place of a name that was made, and that name there
abbrev IsNew : Levels → Levels → List ℕ → ℕ → Type 0
IsNew old new name n = (length old.names ≤ n) × (slice_get new.names n ≡ Some name)

new_here : (bytes : List ℕ) (l : Levels) (w : Word) (ws : List Word) (name : List ℕ) (n : ℕ) → has name l.reach ≡ false → name ≡ text bytes w → n ≡ length l.names → IsNew l (meet_all bytes l (w ∷ ws)) name n
new_here bytes l w ws name n h e q =
    let lacks : has (text bytes w) l.reach ≡ false = ap (λ m. has m l.reach) (sym e) ∙ h in
    let one : Levels.names (meet bytes l w) ≡ l.names ++ text bytes w ∷ [] = rw lacks refl in
    let more = all_grown bytes (meet bytes l w) ws in
    let all : Levels.names (meet_all bytes l (w ∷ ws)) ≡ (l.names ++ text bytes w ∷ []) ++ more.0 = more.1 ∙ ap (λ x. x ++ more.0) one in
    (omega arith, ap (λ x. slice_get x n) all ∙ ap (λ k. slice_get ((l.names ++ text bytes w ∷ []) ++ more.0) k) q ∙ get-middle l.names more.0 (text bytes w) ∙ ap Some (sym e))

pub met_new : (bytes : List ℕ) (l : Levels) (ws : List Word) (name : List ℕ) (n : ℕ) → has name l.reach ≡ false → find name (Levels.reach (meet_all bytes l ws)) ≡ Some n → IsNew l (meet_all bytes l ws) name n
met_new bytes l [] name n h f = let there : has name l.reach ≡ true = ap is_some f in absurd cc
met_new bytes l (w ∷ ws) name n h f = go (find name (Levels.reach (meet bytes l w))) refl (λ e. met_new bytes (meet bytes l w) ws name n e f)
  where
    go : (o : Option ℕ) → find name (Levels.reach (meet bytes l w)) ≡ o → (has name (Levels.reach (meet bytes l w)) ≡ false → IsNew (meet bytes l w) (meet_all bytes l (w ∷ ws)) name n) → IsNew l (meet_all bytes l (w ∷ ws)) name n
    go None e later =
        let rest = later (ap is_some e) in
        let grown = grown_if (has (text bytes w) l.reach) l.names (text bytes w) in
        (omega (arith, rest.0, ap length grown.1, length-append l.names grown.0), rest.1)
    go (Some v) e later =
        let same : v ≡ n = some-once (find name (Levels.reach (meet_all bytes l (w ∷ ws)))) v n (met_kept bytes (meet bytes l w) ws name v e) f in
        elim (found_declared name (text bytes w) (length l.names) l.reach v e) [
          | inl before ↦ let there : has name l.reach ≡ true = ap is_some before in absurd cc
          | inr new ↦ new_here bytes l w ws name n h new.0 (sym same ∙ sym new.1)
        ]

pub levels_are_scopes : LevelsAreScopes
levels_are_scopes = record {
  in_reach = λ bytes l a name. met_in_reach bytes l (words_in a) name;
  kept = λ bytes l a name n h. met_kept bytes l (words_in a) name n h;
  new = λ bytes l a name n h f. met_new bytes l (words_in a) name n h f;
  taken = λ bytes l a. level_grown bytes (opened bytes l a) a;
}
