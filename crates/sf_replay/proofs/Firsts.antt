-- What is found in what is known of the next steps.
-- Names: `absent-LAW` of tasks at absent cells, `race-LAW` of pairs that conflict, `bad-LAW` of both.
use Rattle.std.specs.Prelude.{◌≡◌, ◌≢◌, ℕ, true, List, [], ◌∷◌, ◌++◌, Option, Some, None, MatchOption, length}
use Rattle.std.proofs.Common.{sym, ◌∙◌, refl, subst, inl, inr, append-nil, arith}
use Rattle.sf_base.specs.declared.ids.Thing.{Thing as CodeThing}
use Rattle.sf_base.specs.declared.value.Value.{Value}
use Rattle.sf_core.specs.declared.command.Expr.{Expr}
use Rattle.sf_core.specs.Machine.Bad.{Bad, IsAtNoCell, Races, TouchesAbsent, TouchesNoCell}
use Rattle.sf_core.specs.Machine.Config.{Path, Common, Config, evaluate}
use Rattle.sf_core.specs.Machine.Enabled.{Thing}
use Rattle.sf_core.specs.Machine.Next.{Next, does, leaves, returns, joins, nothing, next}
use Rattle.sf_core.specs.Program.Syntax.{Command, assign, look_up, mutate, new, dispose, if, while, call, fork, with}
use Rattle.sf_base.specs.HeapStore.{Heap}
use Rattle.sf_machine.specs.Absent.{IsAtAbsent, root_in, root_of}
use Rattle.sf_machine.specs.Accessing.{thing_of}
use Rattle.sf_machine.specs.Paths.{paths_of}
use Rattle.sf_replay.specs.Checked.Going.{IsBadAt}
use Rattle.sf_replay.specs.Checked.Looks.{AreLooks, IsLook, Seen, absent_in, absent_or, found_in, found_or, meeting, partner_in, partner_or, race_in, race_or}
use Rattle.sf_replay.specs.FirstBad.{Conflicts, PairBefore}
use Rattle.sf_replay.specs.Order.{path_before, thing_before}
use Rattle.sf_replay.proofs.Meetings.{IsLeast, meets-found}
use Rattle.sf_replay.proofs.PathOrder.{IsBeforeAll, IsIn, Rises, before-either, before-in, before-once, before-self, paths-all, paths-rise}

-- what is known of all tasks, once none is left
pub looks-end : (c : Config) (ps left : List Path) (ls : List Seen) → length left ≡ 0
    → ((more : List Seen) → AreLooks c left more → AreLooks c ps (ls ++ more)) → AreLooks c ps ls
looks-end c ps [] ls e f = subst (AreLooks c ps) (append-nil ls) (f [] tt)
looks-end c ps (p ∷ left) ls e f = absurd (omega (arith, e))

-- a command that finds no cell looks for one at some value
root-in : (see : Expr → Value) (heap : Heap) (c : Command) → TouchesNoCell see heap c
    → (v : Value) × (root_in see c ≡ Some v)
root-in see heap (assign place x e) h = absurd h
root-in see heap (look_up place x e g) h = (see e, refl)
root-in see heap (mutate place e g v) h = (see e, refl)
root-in see heap (new place x) h = absurd h
root-in see heap (dispose place e) h = (see e, refl)
root-in see heap (if place test this that) h = absurd h
root-in see heap (while place test kept body) h = absurd h
root-in see heap (call place c) h = absurd h
root-in see heap (fork place c d) h = absurd h
root-in see heap (with place r test body) h = absurd h

root-of : (s : Common) (n : Next) → IsAtNoCell s n → (v : Value) × (root_of s n ≡ Some v)
root-of s (does f below c rest) h = root-in (evaluate f.slots s.store) s.heap c h
root-of s (leaves f below r rest) h = absurd h
root-of s (returns f below) h = absurd h
root-of s (joins frames one two) h = absurd h
root-of s nothing h = absurd h

-- what touches an absent cell does so at some value
pub touches-at : (c : Config) → (t : TouchesAbsent c) → (v : Value) × IsAtAbsent c t.path v
touches-at c t =
    let k = root-of c.common (next t.task) t.absent in
    (k.0, record { task = t.task; enabled = t.enabled; absent = t.absent; is = k.1 })

-- and the other way round
pub absent-touches : (c : Config) (path : Path) (v : Value) → IsAtAbsent c path v → TouchesAbsent c
absent-touches c path v a = record { path = path; task = a.task; enabled = a.enabled; absent = a.absent }

-- two different tasks that conflict race
pub conflicts-race : (c : Config) (path other : Path) (t : Thing) → path ≢ other → Conflicts c path other t → Races c
conflicts-race c path other t n k = elim k.conflict [
  | inl h ↦ record {
    path = path;
    task = k.task;
    enabled = k.enabled;
    other_path = other;
    other = k.other_task;
    other_enabled = k.other_enabled;
    different = n;
    thing = t;
    writes = h.0;
    meets = h.1;
  }
  | inr h ↦ record {
    path = other;
    task = k.other_task;
    enabled = k.other_enabled;
    other_path = path;
    other = k.task;
    other_enabled = k.enabled;
    different = λ e. n (sym e);
    thing = t;
    writes = h.0;
    meets = h.1;
  }
]

-- a race is a conflict of two tasks, whichever comes first
pub race-forth : (c : Config) → (r : Races c) → Conflicts c r.path r.other_path r.thing
race-forth c r = record {
  task = r.task;
  enabled = r.enabled;
  other_task = r.other;
  other_enabled = r.other_enabled;
  conflict = inl (r.writes, r.meets);
}

pub race-back : (c : Config) → (r : Races c) → Conflicts c r.other_path r.path r.thing
race-back c r = record {
  task = r.other;
  enabled = r.other_enabled;
  other_task = r.task;
  other_enabled = r.enabled;
  conflict = inr (r.writes, r.meets);
}

-- ---- absent cells

-- none of the tasks at these paths is at an absent cell
abbrev NoneAbsent : Config → List Path → Type 0
NoneAbsent c ps = (q : Path) (v : Value) → IsIn ps q → IsAtAbsent c q v → ⊥

-- the task at that path is the first of these at an absent cell
abbrev FirstAbsent : Config → List Path → Path × Value → Type 0
FirstAbsent c ps a = IsAtAbsent c a.0 a.1 × IsIn ps a.0
    × ((q : Path) (v : Value) → IsIn ps q → IsAtAbsent c q v → path_before q a.0 ≡ true → ⊥)

absent-head : (c : Config) (p : Path) (ps : List Path) (l : Seen) (o : Option Value) (found : Option (Path × Value))
    → l.path ≡ p → MatchOption o ((v : Value) → IsAtAbsent c p v → ⊥) (IsAtAbsent c p) → IsBeforeAll p ps
    → MatchOption found (NoneAbsent c ps) (FirstAbsent c ps)
    → MatchOption (absent_or l.path o found) (NoneAbsent c (p ∷ ps)) (FirstAbsent c (p ∷ ps))
absent-head c p ps l None None e a b m = λ q v i k. elim i [
  | inl f ↦ a v (subst (λ (z : Path). IsAtAbsent c z v) f k)
  | inr j ↦ m q v j k
]
absent-head c p ps l None (Some x) e a b m = (
  m.0,
  inr m.1,
  λ q v i k before. elim i [
    | inl f ↦ a v (subst (λ (z : Path). IsAtAbsent c z v) f k)
    | inr j ↦ m.2 q v j k before
  ],
)
absent-head c p ps l (Some v) found e a b m = (
  subst (λ (z : Path). IsAtAbsent c z v) (sym e) a,
  inl e,
  λ q w i k before. elim i [
    | inl f ↦ before-self p (subst (λ (z : Path). path_before z p ≡ true) f
        (subst (λ (z : Path). path_before q z ≡ true) e before))
    | inr j ↦ before-once p q (before-in p q ps b j) (subst (λ (z : Path). path_before q z ≡ true) e before)
  ],
)

absent-all : (c : Config) (ps : List Path) (ls : List Seen) → AreLooks c ps ls → Rises ps
    → MatchOption (absent_in ls) (NoneAbsent c ps) (FirstAbsent c ps)
absent-all c [] [] a r = λ q v i k. i
absent-all c [] (l ∷ ls) a r = absurd a
absent-all c (p ∷ ps) [] a r = absurd a
absent-all c (p ∷ ps) (l ∷ ls) a r = absent-head c p ps l l.absent (absent_in ls) a.0.path_is a.0.absent r.0
    (absent-all c ps ls a.1 r.1)

-- ---- races

-- the task at the path conflicts with none of those at the others
abbrev NoPartner : Config → Path → List Path → Type 0
NoPartner c p qs = (q : Path) (t : Thing) → IsIn qs q → Conflicts c p q t → ⊥

-- the first of those with which it conflicts, and the first thing on which it does
abbrev FirstPartner : Config → Path → List Path → Path × CodeThing → Type 0
FirstPartner c p qs a = IsIn qs a.0 × Conflicts c p a.0 (thing_of a.1)
    × ((t : Thing) → Conflicts c p a.0 t → thing_before t (thing_of a.1) ≡ true → ⊥)
    × ((q : Path) (t : Thing) → IsIn qs q → Conflicts c p q t → path_before q a.0 ≡ true → ⊥)

partner-head : (c : Config) (p q : Path) (qs : List Path) (m : Seen) (o : Option CodeThing)
    (found : Option (Path × CodeThing)) → m.path ≡ q → IsLeast o (Conflicts c p q) → IsBeforeAll q qs
    → MatchOption found (NoPartner c p qs) (FirstPartner c p qs)
    → MatchOption (partner_or m.path o found) (NoPartner c p (q ∷ qs)) (FirstPartner c p (q ∷ qs))
partner-head c p q qs m None None e a b k = λ z t i j. elim i [
  | inl f ↦ a t (subst (λ (y : Path). Conflicts c p y t) f j)
  | inr h ↦ k z t h j
]
partner-head c p q qs m None (Some x) e a b k = (
  inr k.0,
  k.1,
  k.2,
  λ z t i j before. elim i [
    | inl f ↦ a t (subst (λ (y : Path). Conflicts c p y t) f j)
    | inr h ↦ k.3 z t h j before
  ],
)
partner-head c p q qs m (Some x) found e a b k = (
  inl e,
  subst (λ (y : Path). Conflicts c p y (thing_of x)) (sym e) a.0,
  λ t j before. a.1 t (subst (λ (y : Path). Conflicts c p y t) e j) before,
  λ z t i j before. elim i [
    | inl f ↦ before-self q (subst (λ (y : Path). path_before y q ≡ true) f
        (subst (λ (y : Path). path_before z y ≡ true) e before))
    | inr h ↦ before-once q z (before-in q z qs b h) (subst (λ (y : Path). path_before z y ≡ true) e before)
  ],
)

partner-all : (c : Config) (p : Path) (l : Seen) (qs : List Path) (ms : List Seen) → IsLook c p l → AreLooks c qs ms
    → Rises qs → MatchOption (partner_in l ms) (NoPartner c p qs) (FirstPartner c p qs)
partner-all c p l [] [] k a r = λ q t i j. i
partner-all c p l [] (m ∷ ms) k a r = absurd a
partner-all c p l (q ∷ qs) [] k a r = absurd a
partner-all c p l (q ∷ qs) (m ∷ ms) k a r = partner-head c p q qs m (meeting l m) (partner_in l ms) a.0.path_is
    (meets-found c p q l m k a.0) r.0 (partner-all c p l qs ms k a.1 r.1)

-- no two of the tasks at these paths conflict
abbrev NoRace : Config → List Path → Type 0
NoRace c ps = (p q : Path) (t : Thing) → IsIn ps p → IsIn ps q → path_before p q ≡ true → Conflicts c p q t → ⊥

-- the first two that do, and the first thing on which they do
abbrev FirstRace : Config → List Path → Path × Path × CodeThing → Type 0
FirstRace c ps a = IsIn ps a.0 × (path_before a.0 a.1 ≡ true) × Conflicts c a.0 a.1 (thing_of a.2)
    × ((t : Thing) → Conflicts c a.0 a.1 t → thing_before t (thing_of a.2) ≡ true → ⊥)
    × ((p q : Path) (t : Thing) → IsIn ps p → IsIn ps q → path_before p q ≡ true → Conflicts c p q t
    → PairBefore p q a.0 a.1 → ⊥)

-- of two paths of a list that rises, of which one comes before the other, the second isn't its first
later-in : (p q x : Path) (ps : List Path) → IsBeforeAll x ps → IsIn (x ∷ ps) p → IsIn (x ∷ ps) q
    → path_before p q ≡ true → IsIn ps q
later-in p q x ps b (inl e) (inl f) h = absurd (before-self x (subst (λ (z : Path). path_before z x ≡ true) e
    (subst (λ (z : Path). path_before p z ≡ true) f h)))
later-in p q x ps b (inr i) (inl f) h =
    absurd (before-once x p (before-in x p ps b i) (subst (λ (z : Path). path_before p z ≡ true) f h))
later-in p q x ps b i (inr j) h = j

race-head : (c : Config) (p : Path) (ps : List Path) (l : Seen) (o : Option (Path × CodeThing))
    (found : Option (Path × Path × CodeThing)) → l.path ≡ p → IsBeforeAll p ps
    → MatchOption o (NoPartner c p ps) (FirstPartner c p ps) → MatchOption found (NoRace c ps) (FirstRace c ps)
    → MatchOption (race_or l.path o found) (NoRace c (p ∷ ps)) (FirstRace c (p ∷ ps))
race-head c p ps l None None e b k m = λ x y t i j h w. let later = later-in x y p ps b i j h in elim i [
  | inl f ↦ k y t later (subst (λ (z : Path). Conflicts c z y t) f w)
  | inr g ↦ m x y t g later h w
]
race-head c p ps l None (Some r) e b k m = (
  inr m.0,
  m.1,
  m.2,
  m.3,
  λ x y t i j h w before. let later = later-in x y p ps b i j h in elim i [
    | inl f ↦ k y t later (subst (λ (z : Path). Conflicts c z y t) f w)
    | inr g ↦ m.4 x y t g later h w before
  ],
)
race-head c p ps l (Some a) found e b k m = (
  inl e,
  subst (λ (z : Path). path_before z a.0 ≡ true) (sym e) (before-in p a.0 ps b k.0),
  subst (λ (z : Path). Conflicts c z a.0 (thing_of a.1)) (sym e) k.1,
  λ t w before. k.2 t (subst (λ (z : Path). Conflicts c z a.0 t) e w) before,
  λ x y t i j h w before. let later = later-in x y p ps b i j h in elim before [
    | inl first ↦ elim i [
      | inl f ↦ before-self p (subst (λ (z : Path). path_before z p ≡ true) f
          (subst (λ (z : Path). path_before x z ≡ true) e first))
      | inr g ↦ before-once p x (before-in p x ps b g) (subst (λ (z : Path). path_before x z ≡ true) e first)
    ]
    | inr second ↦ k.3 y t later
        (subst (λ (z : Path). Conflicts c z y t) (second.0 ∙ e) w) second.1
  ],
)

race-all : (c : Config) (ps : List Path) (ls : List Seen) → AreLooks c ps ls → Rises ps
    → MatchOption (race_in ls) (NoRace c ps) (FirstRace c ps)
race-all c [] [] a r = λ p q t i j h k. i
race-all c [] (l ∷ ls) a r = absurd a
race-all c (p ∷ ps) [] a r = absurd a
race-all c (p ∷ ps) (l ∷ ls) a r = race-head c p ps l (partner_in l ls) (race_in ls) a.0.path_is r.0
    (partner-all c p l ps ls a.0 a.1 r.1) (race-all c ps ls a.1 r.1)

-- ---- both

-- where nothing is found, nothing is bad
none-bad : (c : Config) → NoneAbsent c (paths_of c.tasks) → NoRace c (paths_of c.tasks) → Bad c → ⊥
none-bad c a r (inl t) =
    let k = touches-at c t in
    a t.path k.0 (paths-all t.path c.tasks t.task t.enabled.there) k.1
none-bad c a r (inr k) = elim (before-either k.path k.other_path) [
  | inl e ↦ k.different e
  | inr h ↦ elim h [
    | inl b ↦ r k.path k.other_path k.thing (paths-all k.path c.tasks k.task k.enabled.there)
        (paths-all k.other_path c.tasks k.other k.other_enabled.there) b (race-forth c k)
    | inr b ↦ r k.other_path k.path k.thing (paths-all k.other_path c.tasks k.other k.other_enabled.there)
        (paths-all k.path c.tasks k.task k.enabled.there) b (race-back c k)
  ]
]

bad-found : (c : Config) (number : ℕ) (o : Option (Path × Value)) (r : Option (Path × Path × CodeThing))
    → MatchOption o (NoneAbsent c (paths_of c.tasks)) (FirstAbsent c (paths_of c.tasks))
    → MatchOption r (NoRace c (paths_of c.tasks)) (FirstRace c (paths_of c.tasks))
    → MatchOption (found_or number o r) (Bad c → ⊥) (IsBadAt number c)
bad-found c number (Some a) r m n = (
  refl,
  record {
    absent = m.0;
    first = λ q v k before. m.2 q v (paths-all q c.tasks k.task k.enabled.there) k before;
  },
)
bad-found c number None (Some r) m n = (
  refl,
  record {
    none_absent = λ q v k. m q v (paths-all q c.tasks k.task k.enabled.there) k;
    ordered = n.1;
    conflicts = n.2;
    first = λ p q t h k before. n.4 p q t (paths-all p c.tasks k.task k.enabled.there)
        (paths-all q c.tasks k.other_task k.other_enabled.there) h k before;
    least = n.3;
  },
)
bad-found c number None None m n = none-bad c m n

-- what is found in what is known of all tasks is what is bad, and the first of it
pub bad-first : (c : Config) (number : ℕ) (looks : List Seen) → AreLooks c (paths_of c.tasks) looks
    → MatchOption (found_in number looks) (Bad c → ⊥) (IsBadAt number c)
bad-first c number looks a = bad-found c number (absent_in looks) (race_in looks)
    (absent-all c (paths_of c.tasks) looks a (paths-rise c.tasks)) (race-all c (paths_of c.tasks) looks a (paths-rise c.tasks))
