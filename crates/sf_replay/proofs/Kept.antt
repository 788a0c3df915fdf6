-- That nothing is bad after an event, by what was known of the next steps before it.
-- Names: `among-LAW` of what was known, `still-LAW` of what is.
use Rattle.std.specs.Prelude.{◌≡◌, ◌⊎◌, ℕ, List, [], ◌∷◌, Option, Some, None, MatchOption}
use Rattle.std.proofs.Common.{sym, ◌∙◌, refl, subst, inl, inr}
use Rattle.sf_base.proofs.Options.{some-none}
use Rattle.sf_base.specs.declared.ids.Thing.{Thing as CodeThing}
use Rattle.sf_base.specs.declared.value.Value.{Value}
use Rattle.sf_core.specs.Machine.Bad.{Bad, Races, TouchesAbsent}
use Rattle.sf_core.specs.Machine.Config.{Path, Config}
use Rattle.sf_core.specs.Machine.Enabled.{Thing}
use Rattle.sf_machine.specs.Absent.{IsAtAbsent}
use Rattle.sf_machine.specs.Paths.{paths_of}
use Rattle.sf_replay.specs.Checked.Going.{IsBadAt}
use Rattle.sf_replay.specs.Checked.Keeping.{AreStillFine, IsAmong, MeetsNone}
use Rattle.sf_replay.specs.Checked.Looks.{AreLooks, IsLook, Seen, found_in, meeting}
use Rattle.sf_replay.specs.declared.found.Found.{Found}
use Rattle.sf_replay.specs.FirstBad.{Conflicts}
use Rattle.sf_replay.proofs.Firsts.{absent-touches, bad-first, conflicts-race, race-back, race-forth, touches-at}
use Rattle.sf_replay.proofs.Meetings.{IsLeast, meets-found, meets-from, meets-to}
use Rattle.sf_replay.proofs.PathOrder.{IsIn, paths-all}

-- what was known of some task is known of that task
among-look : (c : Config) (ps : List Path) (ls : List Seen) (l : Seen) → AreLooks c ps ls → IsAmong ls l
    → IsLook c l.path l
among-look c [] [] l a i = absurd i
among-look c [] (m ∷ ms) l a i = absurd a
among-look c (p ∷ ps) [] l a i = absurd a
among-look c (p ∷ ps) (m ∷ ms) l a (inl e) =
    subst (λ (z : Seen). IsLook c z.path z) (sym e) (subst (λ (z : Path). IsLook c z m) (sym a.0.path_is) a.0)
among-look c (p ∷ ps) (m ∷ ms) l a (inr i) = among-look c ps ms l a.1 i

-- what is known of a task is known
among-path : (c : Config) (ps : List Path) (ls : List Seen) (p : Path) → AreLooks c ps ls → IsIn ps p
    → (l : Seen) × IsAmong ls l × IsLook c p l
among-path c [] [] p a i = absurd i
among-path c [] (m ∷ ms) p a i = absurd a
among-path c (q ∷ ps) [] p a i = absurd a
among-path c (q ∷ ps) (m ∷ ms) p a (inl e) = (m, inl refl, subst (λ (z : Path). IsLook c z m) (sym e) a.0)
among-path c (q ∷ ps) (m ∷ ms) p a (inr i) =
    let k = among-path c ps ms p a.1 i in (k.0, inr k.1, k.2)

-- one of these was there before, or is fine
still-one : (before all ls : List Seen) (l : Seen) → AreStillFine before all ls → IsAmong ls l
    → IsAmong before l ⊎ ((l.absent ≡ None) × MeetsNone l all)
still-one before all [] l s i = absurd i
still-one before all (m ∷ ms) l s (inl e) =
    subst (λ (z : Seen). IsAmong before z ⊎ ((z.absent ≡ None) × MeetsNone z all)) (sym e) s.0
still-one before all (m ∷ ms) l s (inr i) = still-one before all ms l s.1 i

-- one that conflicts with none doesn't with another
still-apart : (l m : Seen) (all : List Seen) → MeetsNone l all → IsAmong all m
    → (m.path ≡ l.path) ⊎ (meeting l m ≡ None)
still-apart l m [] n i = absurd i
still-apart l m (x ∷ xs) n (inl e) =
    subst (λ (z : Seen). (z.path ≡ l.path) ⊎ (meeting l z ≡ None)) (sym e) n.0
still-apart l m (x ∷ xs) n (inr i) = still-apart l m xs n.1 i

-- where nothing is found of two steps, they don't conflict
still-none : (c : Config) (p q : Path) (l m : Seen) (t : Thing) → IsLook c p l → IsLook c q m → (p ≡ q → ⊥)
    → (m.path ≡ l.path) ⊎ (meeting l m ≡ None) → Conflicts c p q t → ⊥
still-none c p q l m t a b n (inl e) k = n (sym a.path_is ∙ sym e ∙ b.path_is)
still-none c p q l m t a b n (inr e) k =
    subst (λ (o : Option CodeThing). IsLeast o (Conflicts c p q)) e (meets-found c p q l m a b) t k

module _ (c d : Config) (before now : List Seen) (was : AreLooks c (paths_of c.tasks) before)
    (are : AreLooks d (paths_of d.tasks) now) (fine : Bad c → ⊥) (still : AreStillFine before now now) where
  -- what was known before of a task
  still-before : (p : Path) (l : Seen) → IsLook d p l → IsAmong before l → IsLook c p l
  still-before p l a i = subst (λ (z : Path). IsLook c z l) a.path_is (among-look c (paths_of c.tasks) before l was i)

  absent-some : (o : Option Value) (P : Value → Type 0) (v : Value)
      → MatchOption o ((w : Value) → P w → ⊥) P → P v → (w : Value) × (o ≡ Some w)
  absent-some None P v m h = absurd (m v h)
  absent-some (Some w) P v m h = (w, refl)

  still-touches : TouchesAbsent d → ⊥
  still-touches t =
      let at = touches-at d t in
      let k = among-path d (paths_of d.tasks) now t.path are (paths-all t.path d.tasks t.task t.enabled.there) in
      let found = absent-some k.0.absent (IsAtAbsent d t.path) at.0 k.2.absent at.1 in
      elim (still-one before now now k.0 still k.1) [
        | inr f ↦ some-none found.0 (sym found.1 ∙ f.0)
        | inl i ↦
            let l = still-before t.path k.0 k.2 i in
            fine (inl (absent-touches c t.path found.0
            (subst (λ (o : Option Value). MatchOption o ((w : Value) → IsAtAbsent c t.path w → ⊥) (IsAtAbsent c t.path))
            found.1 l.absent)))
      ]

  -- two tasks that conflict did so before
  still-conflicts : (p q : Path) (t : Thing) (l m : Seen) → IsLook d p l → IsLook d q m → IsAmong now l → IsAmong now m
      → (p ≡ q → ⊥) → Conflicts d p q t → Conflicts d q p t → ⊥
  still-conflicts p q t l m a b i j n k back = elim (still-one before now now l still i) [
    | inr f ↦ still-none d p q l m t a b n (still-apart l m now f.1 j) k
    | inl x ↦ elim (still-one before now now m still j) [
      | inr f ↦ still-none d q p m l t b a (λ e. n (sym e)) (still-apart m l now f.1 i) back
      | inl y ↦ fine (inr (conflicts-race c p q t n
          (meets-to c p q l m t (still-before p l a x) (still-before q m b y) (meets-from d p q l m t a b k))))
    ]
  ]

  still-races : Races d → ⊥
  still-races r =
      let one = among-path d (paths_of d.tasks) now r.path are (paths-all r.path d.tasks r.task r.enabled.there) in
      let two = among-path d (paths_of d.tasks) now r.other_path are
      (paths-all r.other_path d.tasks r.other r.other_enabled.there) in
      still-conflicts r.path r.other_path r.thing one.0 two.0 one.2 two.2 one.1 two.1 r.different (race-forth d r)
      (race-back d r)

  still-fine : Bad d → ⊥
  still-fine (inl t) = still-touches t
  still-fine (inr r) = still-races r

-- what is found after an event
pub found-after : (c d : Config) (before now : List Seen) → AreLooks c (paths_of c.tasks) before
    → AreLooks d (paths_of d.tasks) now → (Bad c → ⊥) → (number : ℕ) (o : Option Found)
    → (o ≡ found_in number now) ⊎ ((o ≡ None) × AreStillFine before now now)
    → MatchOption o (Bad d → ⊥) (IsBadAt number d)
found-after c d before now was are fine number o (inl e) =
    subst (λ (z : Option Found). MatchOption z (Bad d → ⊥) (IsBadAt number d)) (sym e) (bad-first d number now are)
found-after c d before now was are fine number o (inr k) =
    subst (λ (z : Option Found). MatchOption z (Bad d → ⊥) (IsBadAt number d)) (sym k.0)
    (still-fine c d before now was are fine k.1)
