-- Taken: sequences in which conjuncts are taken, and the conjuncts that no such sequence ever takes.
-- This project's own notion, beside Determined.
use Rattle.std.specs.Prelude.{◌≡◌, ◌⊎◌, ℕ, Bool, false}
use Rattle.sf_base.specs.declared.place.Place.{Place}
use Rattle.sf_core.specs.Assertions.Determined.{CanBeTaken, Leaves, known_after}
use Rattle.sf_precise.specs.declared.fault.OrderFault.{OrderFault}
use Rattle.sf_precise.specs.declared.fault.OrderFault.TheVariants.{Undetermined, OutOfMemory}
use Rattle.sf_core.specs.Program.Syntax.{Conjunct, holds, points, segment, doubly, tree, choose, Level, level, Conjuncts, none, also}

-- the place of a conjunct's first token
abbrev pub place_at : {E : Type 0} → Conjunct E → Place
place_at (holds p t) = p
place_at (points p x fs) = p
place_at (segment p next x y) = p
place_at (doubly p next back x b z y) = p
place_at (tree p left right x) = p
place_at (choose p t this that) = p

-- the conjunct is one of these
abbrev pub IsAmong : {E : Type 0} → Conjuncts E → Conjunct E → Type 0
IsAmong none c = ⊥
IsAmong (also d ds) c = (d ≡ c) ⊎ IsAmong ds c

-- of these conjuncts those can be taken one after the other, each being ready when it comes; the rest is left
abbrev pub Takes : {E : Type 0} → (ℕ → Bool) → (cs taken rest : Conjuncts E) → Type 0
Takes known cs none rest = cs ≡ rest
Takes known cs (also c taken) rest =
    (others : Conjuncts _) × Leaves cs c others × CanBeTaken known c
    × Takes (known_after c known) others taken rest

-- what is known once these are taken
abbrev pub known_by : {E : Type 0} → (taken : Conjuncts E) → (ℕ → Bool) → ℕ → Bool
known_by none known = known
known_by (also c taken) known = known_by taken (known_after c known)

-- no sequence of takings ever takes the conjunct: whatever is taken, it is left
abbrev pub IsNeverTaken : {E : Type 0} → (ℕ → Bool) → Conjuncts E → Conjunct E → Type 0
IsNeverTaken {E} known cs c = (taken rest : Conjuncts E) → Takes known cs taken rest → IsAmong rest c

-- of all the conjuncts, the first of these that is never taken is there
abbrev pub IsFirstNeverTaken : {E : Type 0} → (ℕ → Bool) → (all cs : Conjuncts E) → Place → Type 0
IsFirstNeverTaken known all none p = ⊥
IsFirstNeverTaken known all (also c cs) p =
    (IsNeverTaken known all c × (place_at c ≡ p))
    ⊎ ((IsNeverTaken known all c → ⊥) × IsFirstNeverTaken known all cs p)

-- the first conjunct of a level, in text order, that is never taken from what is known inside it is there
abbrev pub NeverTakenFrom : {E : Type 0} → (ℕ → Bool) → Level E → Place → Type 0
NeverTakenFrom known (level made cs) p = IsFirstNeverTaken known cs cs p

-- the first one that is never taken from the variables alone is there
abbrev pub NeverTakenAt : {E : Type 0} → Level E → Place → Type 0
NeverTakenAt a p = NeverTakenFrom (λ n. false) a p

-- what holds of the place, where the fault names one
abbrev pub IfUndetermined : OrderFault → (Place → Type 0) → Type 0
IfUndetermined (Undetermined p) P = P p
IfUndetermined OutOfMemory P = Unit {0}
