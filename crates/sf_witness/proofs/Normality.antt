-- Atoms have their cells at symbols of their own exactly where, read from the front, each symbol is new.
-- Names: `new-LAW` of terms that are new; `normal_LAW`.
use Rattle.std.proofs.Common.{◌≡◌, ℕ, ◌==◌, Bool, true, false, ◌&&◌, ◌||◌, not, List, [], ◌∷◌, ◌++◌, refl, sym, ap, ◌∙◌}
use Rattle.std.specs.BTreeMap.{is_at}
use Rattle.std.specs.BTreeSet.{BTreeSet, IsEmpty, contains}
use Rattle.std.specs.List.{AllByRecursion, IsDistinct, list_all, list_any}
use Rattle.std.specs.Ordering.{nat_cmp}
use Rattle.std.proofs.lemmas.List.{append-nil}
use Rattle.std.proofs.lemmas.Grind.{flat_map-append}
use Rattle.sf_base.proofs.Bools.{and-left, and-right}
use Rattle.sf_sym.specs.declared.atom.Numbered.{Numbered}
use Rattle.sf_sym.specs.declared.term.Term.{Term}
use Rattle.sf_sym.specs.declared.term.Term.TheVariants.{Nil, Int, Sym}
use Rattle.sf_sym.specs.State.{State}
use Rattle.sf_sym.specs.Tests.{is_absurd, is_constant, parts, same_term}
use Rattle.sf_witness.specs.Checked.Own.{are_new, is_new, seeing}
use Rattle.sf_witness.specs.Normal.{Normal, all_roots, is_open, roots}

and-both : (a b : Bool) → a ≡ true → b ≡ true → a && b ≡ true
and-both true b e f = f
and-both false b e f = absurd (cc)

-- a term that is new after another is new before, and isn't that one
later : (seen : ℕ → Bool) (t u : Term) → is_new seen t ≡ true → is_new (seeing t seen) u ≡ true
    → (is_new seen u ≡ true) × (same_term t u ≡ false)
later seen Nil u e f = absurd (cc)
later seen (Int i) u e f = absurd (cc)
later seen (Sym n) Nil e f = absurd (cc)
later seen (Sym n) (Int j) e f = absurd (cc)
later seen (Sym n) (Sym m) e f = go (n == m) (seen m) f
  where
    go : (a b : Bool) → not (a || b) ≡ true → (not b ≡ true) × (a ≡ false)
    go true b h = absurd (cc)
    go false b h = (h, refl)

-- and the other way round
after : (seen : ℕ → Bool) (t u : Term) → is_new seen t ≡ true → is_new seen u ≡ true → same_term t u ≡ false
    → is_new (seeing t seen) u ≡ true
after seen Nil u e f d = absurd (cc)
after seen (Int i) u e f d = absurd (cc)
after seen (Sym n) Nil e f d = absurd (cc)
after seen (Sym n) (Int j) e f d = absurd (cc)
after seen (Sym n) (Sym m) e f d = go (n == m) (seen m) f d
  where
    go : (a b : Bool) → not b ≡ true → a ≡ false → not (a || b) ≡ true
    go true b h d = absurd (cc)
    go false b h d = h

all-later : (seen : ℕ → Bool) (t : Term) (ts : List Term) → is_new seen t ≡ true
    → AllByRecursion (λ u. is_new (seeing t seen) u ≡ true) ts
    → AllByRecursion (λ u. is_new seen u ≡ true) ts × AllByRecursion (λ u. same_term t u ≡ false) ts
all-later seen t [] e a = (tt, tt)
all-later seen t (u ∷ us) e a =
    let here = later seen t u e a.0 in
    let rest = all-later seen t us e a.1 in
    ((here.0, rest.0), (here.1, rest.1))

all-after : (seen : ℕ → Bool) (t : Term) (ts : List Term) → is_new seen t ≡ true
    → AllByRecursion (λ u. is_new seen u ≡ true) ts → AllByRecursion (λ u. same_term t u ≡ false) ts
    → AllByRecursion (λ u. is_new (seeing t seen) u ≡ true) ts
all-after seen t [] e a d = tt
all-after seen t (u ∷ us) e a d = (after seen t u e a.0 d.0, all-after seen t us e a.1 d.1)

-- terms that are new, each once
pub new-parts : (seen : ℕ → Bool) (ts : List Term) → are_new seen ts ≡ true
    → AllByRecursion (λ u. is_new seen u ≡ true) ts × IsDistinct same_term ts
unfolding IsDistinct
new-parts seen [] e = (tt, tt)
new-parts seen (t ∷ ts) e =
    let here : is_new seen t ≡ true = and-left (is_new seen t) (are_new (seeing t seen) ts) e in
    let rest = new-parts (seeing t seen) ts (and-right (is_new seen t) (are_new (seeing t seen) ts) e) in
    let both = all-later seen t ts here rest.0 in
    ((here, both.0), (both.1, rest.1))

pub new-whole : (seen : ℕ → Bool) (ts : List Term) → AllByRecursion (λ u. is_new seen u ≡ true) ts
    → IsDistinct same_term ts → are_new seen ts ≡ true
unfolding IsDistinct
new-whole seen [] a d = refl
new-whole seen (t ∷ ts) a d =
    and-both (is_new seen t) (are_new (seeing t seen) ts) a.0
    (new-whole (seeing t seen) ts (all-after seen t ts a.0 a.1 d.0) d.1)

-- where nothing was seen, a symbol is new
symbol-new : (t : Term) → is_constant t ≡ false → is_new (λ n. false) t ≡ true
symbol-new Nil e = absurd (cc)
symbol-new (Int i) e = absurd (cc)
symbol-new (Sym n) e = refl

new-symbol : (t : Term) → is_new (λ n. false) t ≡ true → is_constant t ≡ false
new-symbol Nil e = absurd (cc)
new-symbol (Int i) e = absurd (cc)
new-symbol (Sym n) e = refl

symbols-new : (ts : List Term) → AllByRecursion (λ t. is_constant t ≡ false) ts
    → AllByRecursion (λ t. is_new (λ n. false) t ≡ true) ts
symbols-new [] a = tt
symbols-new (t ∷ ts) a = (symbol-new t a.0, symbols-new ts a.1)

new-symbols : (ts : List Term) → AllByRecursion (λ t. is_new (λ n. false) t ≡ true) ts
    → AllByRecursion (λ t. is_constant t ≡ false) ts
new-symbols [] a = tt
new-symbols (t ∷ ts) a = (new-symbol t a.0, new-symbols ts a.1)

-- the roots of all parts
pub roots-parts : (s : State) → all_roots (parts s) ≡ all_roots s.atoms ++ all_roots s.taken
roots-parts s = flat_map-append (λ a. roots a.atom) s.atoms s.taken

-- a test of all parts is one of the two lists
all-parts : (p : Numbered → Bool) (xs ys : List Numbered) → list_all p xs && list_all p ys ≡ list_all p (xs ++ ys)
all-parts p [] ys = refl
all-parts p (x ∷ xs) ys = go (p x) (all-parts p xs ys)
  where
    go : (b : Bool) → list_all p xs && list_all p ys ≡ list_all p (xs ++ ys)
        → (b && list_all p xs) && list_all p ys ≡ b && list_all p (xs ++ ys)
    go true e = e
    go false e = refl

pub open_parts : (s : State) → list_all (λ a. is_open a.atom) s.atoms && list_all (λ a. is_open a.atom) s.taken
    ≡ list_all (λ a. is_open a.atom) (parts s)
open_parts s = all-parts (λ a. is_open a.atom) s.atoms s.taken

-- a state that isn't absurd, whose roots are new, and whose atoms don't end there is normal
pub normal_is : (s : State) → are_new (λ n. false) (all_roots s.atoms ++ all_roots s.taken) ≡ true
    → list_all (λ a. is_open a.atom) (parts s) ≡ true → is_absurd s ≡ false → Normal s
normal_is s e ends p =
    let both = new-parts (λ n. false) (all_roots (parts s)) (ap (are_new (λ n. false)) (roots-parts s) ∙ e) in
    record { possible = p; symbols = new-symbols (all_roots (parts s)) both.0; own = both.1; ends = ends }

-- a normal state's roots are new
pub normal_has : (s : State) → Normal s → are_new (λ n. false) (all_roots s.atoms ++ all_roots s.taken) ≡ true
normal_has s n =
    sym (ap (are_new (λ n. false)) (roots-parts s))
    ∙ new-whole (λ n. false) (all_roots (parts s)) (symbols-new (all_roots (parts s)) n.symbols) n.own

-- its atoms don't end there
pub normal_open : (s : State) → Normal s → list_all (λ a. is_open a.atom) (parts s) ≡ true
normal_open s n = n.ends

-- an empty set has seen nothing
none-seen : (seen : BTreeSet ℕ) → IsEmpty seen → contains nat_cmp seen ≡ (λ n. false)
none-seen seen e = λ i n. ap (list_any (is_at (nat_cmp n))) e i

-- as the code finds it, at the first list
pub not-new : (seen : BTreeSet ℕ) (s : State) (next : ℕ → Bool) {atoms : List Numbered} {b : Bool} → IsEmpty seen
    → atoms ≡ s.atoms → b ≡ false
    → ((later : List Term) → are_new (contains nat_cmp seen) (all_roots atoms ++ later) ≡ (b && are_new next later))
    → false ≡ are_new (λ n. false) (all_roots s.atoms ++ all_roots s.taken)
not-new seen s next {atoms} {b} empty same e h =
    sym (ap (λ (k : ℕ → Bool). are_new k (all_roots s.atoms ++ all_roots s.taken)) (sym (none-seen seen empty))
    ∙ ap (λ xs. are_new (contains nat_cmp seen) (all_roots xs ++ all_roots s.taken)) (sym same)
    ∙ h (all_roots s.taken) ∙ ap (λ c. c && are_new next (all_roots s.taken)) e)

-- and at both
pub all-new : (seen : BTreeSet ℕ) (s : State) (next last : ℕ → Bool) {atoms taken : List Numbered} {b own : Bool}
    → IsEmpty seen → atoms ≡ s.atoms → taken ≡ s.taken → b ≡ true
    → ((later : List Term) → are_new (contains nat_cmp seen) (all_roots atoms ++ later) ≡ (b && are_new next later))
    → ((later : List Term) → are_new next (all_roots taken ++ later) ≡ (own && are_new last later))
    → own ≡ are_new (λ n. false) (all_roots s.atoms ++ all_roots s.taken)
all-new seen s next last {atoms} {taken} {b} {own} empty same also e h g =
    sym (ap (λ (k : ℕ → Bool). are_new k (all_roots s.atoms ++ all_roots s.taken)) (sym (none-seen seen empty))
    ∙ ap (λ xs. are_new (contains nat_cmp seen) (all_roots xs ++ all_roots s.taken)) (sym same)
    ∙ h (all_roots s.taken) ∙ ap (λ c. c && are_new next (all_roots s.taken)) e
    ∙ ap (λ xs. are_new next (all_roots xs)) (sym also)
    ∙ ap (are_new next) (sym (append-nil (all_roots taken))) ∙ g [] ∙ and-true own)
  where
    and-true : (c : Bool) → c && true ≡ c
    and-true true = refl
    and-true false = refl
