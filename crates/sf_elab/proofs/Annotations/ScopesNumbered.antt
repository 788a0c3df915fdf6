-- The scopes of what an assertion elaborates to number its existentials without gaps, in text order. So no
-- existential is made by two of them.
use Rattle.std.specs.Prelude.{min, max, nat_lt}
use Rattle.std.proofs.Common.{◌≡◌, ◌≤◌, ◌+◌, ℕ, false, List, [], ◌∷◌, length, refl, sym, ap, subst, arith}
use Rattle.std.proofs.lemmas.Bool.Decides.{nat_tests}
use Rattle.std.proofs.lemmas.List.Elements.{All-nil, All-cons}
use Rattle.std.proofs.lemmas.List.{length-append}
use Rattle.std.proofs.lemmas.List.Sums.{sum_by-cons}
use Rattle.std.specs.List.{All, AllByRecursion, IsDistinct, sum_by}
use Rattle.sf_core.specs.declared.assertion.Scope.{Scope}
use Rattle.sf_core.specs.Assertions.Scopes.{overlap}
use Rattle.sf_core.specs.Program.Formed.{level_scopes, conjuncts_scopes, conjunct_scopes}
use Rattle.sf_core.specs.Program.View.{conjuncts}
use Rattle.sf_elab.specs.declared.levels.Levels.{Levels}
use Rattle.sf_elab.specs.Annotations.Assertions.{conjunct_of, conjuncts_of, level_of}
use Rattle.sf_elab.specs.Annotations.Existentials.{no_levels, opened, made_by, taking, names_after, names_after_all, names_after_level}
use Rattle.sf_elab.specs.Annotations.Flat.{words_in}
use Rattle.sf_elab.specs.Annotations.Flat as f
use Rattle.sf_elab.specs.Names.InEnv.{Env}
use Rattle.sf_elab.proofs.Annotations.Scopes.{all_grown}

-- the scopes number existentials from there on, without gaps or overlaps
abbrev AreNumbered : ℕ → List Scope → Type 0
AreNumbered from [] = Unit {0}
AreNumbered from (s ∷ ss) = (s.first ≡ from) × AreNumbered (from + s.count) ss

-- and up to that number
abbrev pub Counts : ℕ → List Scope → ℕ → Type 0
Counts from scopes to = AreNumbered from scopes × (from + sum_by (λ (s : Scope). s.count) scopes ≡ to)

counts_more : (from upto to : ℕ) (scope : Scope) (rest : List Scope) → scope.first ≡ from → from + scope.count ≡ upto → Counts upto rest to → Counts from (scope ∷ rest) to
counts_more from upto to scope rest e q h =
    let total : from + sum_by (λ (s : Scope). s.count) (scope ∷ rest) ≡ to = omega (arith, sum_by-cons (λ (s : Scope). s.count) scope rest, h.1, q) in
    ((e, subst (λ n. AreNumbered n rest) (sym q) h.0), total)

level_counts : (bytes : List ℕ) (l : Levels) (a : f.Flats) (inside : List Scope) (to : ℕ) → Counts (length (Levels.names (opened bytes l a))) inside to → Counts (length l.names) (made_by bytes l a ∷ inside) to
level_counts bytes l a inside to h =
    let grown = all_grown bytes l (words_in a) in
    counts_more (length l.names) (length (Levels.names (opened bytes l a))) to (made_by bytes l a) inside refl (omega (arith, ap length grown.1, length-append l.names grown.0)) h

mutual
  counts_one : (i : Env) (l : Levels) (d : f.Flat) (rest : List Scope) (to : ℕ) → Counts (length (names_after i.bytes l d)) rest to → Counts (length l.names) (conjunct_scopes (conjunct_of i l d) rest) to
  counts_one i l (f.choose p t a b) rest to h =
      let m : Levels = taking l (names_after_level i.bytes l a) in
      level_counts i.bytes l a _ to (counts_all i (opened i.bytes l a) a _ to (level_counts i.bytes m b _ to (counts_all i (opened i.bytes m b) b rest to h)))
  counts_one i l _ rest to h = h

  counts_all : (i : Env) (l : Levels) (a : f.Flats) (rest : List Scope) (to : ℕ) → Counts (length (names_after_all i.bytes l a)) rest to → Counts (length l.names) (conjuncts_scopes (conjuncts (conjuncts_of i l a)) rest) to
  counts_all i l f.none rest to h = h
  counts_all i l (f.also d ds) rest to h = counts_one i l d _ to (counts_all i (taking l (names_after i.bytes l d)) ds rest to h)

-- a whole assertion's scopes number all that it has names for
pub level_numbered : (i : Env) (a : f.Flats) → Counts 0 (level_scopes (level_of i no_levels a) []) (length (names_after_level i.bytes no_levels a))
level_numbered i a =
    let to : ℕ = length (names_after_level i.bytes no_levels a) in
    level_counts i.bytes no_levels a _ to (counts_all i (opened i.bytes no_levels a) a [] to (tt, omega arith))

-- a scope that ends where another begins, or before it, does not overlap it
no_overlap : (a b c d : ℕ) → a + b ≤ c → nat_lt (max a c) (min (a + b) (c + d)) ≡ false
no_overlap a b c d h = grind (arith, nat_tests)

apart_from : (s : Scope) (from : ℕ) (ss : List Scope) → s.first + s.count ≤ from → AreNumbered from ss
    → AllByRecursion (λ t. overlap s t ≡ false) ss
apart_from s from [] h n = tt
apart_from s from (t ∷ ts) h n = (
  no_overlap s.first s.count t.first t.count (omega arith),
  apart_from s (from + t.count) ts (omega arith) n.1,
)

-- numbered scopes make no existential twice
pub numbered_disjoint : (from : ℕ) (ss : List Scope) → AreNumbered from ss → IsDistinct overlap ss
unfolding IsDistinct
numbered_disjoint from [] n = tt
numbered_disjoint from (s ∷ ss) n = (
  apart_from s (from + s.count) ss (omega arith) n.1,
  numbered_disjoint (from + s.count) ss n.1,
)

-- and none beyond their counts
pub numbered_below : (from to : ℕ) (ss : List Scope) → Counts from ss to
    → All (λ (s : Scope). s.first + s.count ≤ to) ss
numbered_below from to [] n = All-nil (λ (s : Scope). s.first + s.count ≤ to)
numbered_below from to (s ∷ ss) n =
    let total = sum_by-cons (λ (s : Scope). s.count) s ss in
    All-cons (λ (s : Scope). s.first + s.count ≤ to) s ss (omega (arith, total, n.1, n.0.0))
    (numbered_below (from + s.count) to ss (n.0.1, omega (arith, total, n.1)))
