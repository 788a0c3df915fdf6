-- Where a sequence of takings stops, what is left is never taken, and all else is.
-- Names: `takes-LAW` speaks of sequences of takings, `stuck-LAW` of one that stops.
use Rattle.std.specs.Prelude.{◌≡◌, ◌⊎◌, ℕ, Bool, true}
use Rattle.std.proofs.Common.{sym, ap, ◌∙◌, refl, subst, inl, inr}
use Rattle.std.proofs.lemmas.Bool.{or_cases, or_right}
use Rattle.sf_base.specs.declared.place.Place.{Place}
use Rattle.sf_base.proofs.Sums.{either}
use Rattle.sf_core.proofs.Assertions.Orders.{KnowsMore, more-taken, taken-more}
use Rattle.sf_core.specs.Assertions.Determined.{CanBeTaken, HasOrder, Leaves, all_taken, is_learned, known_after, take}
use Rattle.sf_core.specs.Program.Syntax.{Conjunct, Conjuncts, none, also}
use Rattle.sf_precise.specs.Taken.{IsAmong, IsFirstNeverTaken, IsNeverTaken, Takes, known_by, place_at}

module _ {E : Type 0} where
  -- one more at the end
  abbrev pub then_one : Conjuncts E → Conjunct E → Conjuncts E
  then_one none c = also c none
  then_one (also d ds) c = also d (then_one ds c)

  pub known-then_one : (known : ℕ → Bool) (taken : Conjuncts E) (c : Conjunct E)
      → known_by (then_one taken c) known ≡ known_after c (known_by taken known)
  known-then_one known none c = refl
  known-then_one known (also d ds) c = known-then_one (known_after d known) ds c

  -- one more is taken
  pub takes-one : (known : ℕ → Bool) (cs taken rest : Conjuncts E) (c : Conjunct E) (others : Conjuncts E)
      → Takes known cs taken rest → Leaves rest c others → CanBeTaken (known_by taken known) c
      → Takes known cs (then_one taken c) others
  takes-one known cs none rest c others t l f = (others, subst (λ z. Leaves z c others) (sym t) l, f, refl)
  takes-one known cs (also d ds) rest c others t l f =
      (t.0, t.1, t.2, takes-one (known_after d known) t.0 ds rest c others t.3 l f)

  pub takes-more : (known : ℕ → Bool) (taken : Conjuncts E) → KnowsMore known (known_by taken known)
  takes-more known none n e = e
  takes-more known (also c cs) n e = takes-more (known_after c known) cs n (more-taken c known n e)

  leaves-among : (cs : Conjuncts E) (c : Conjunct E) (rest : Conjuncts E) (d : Conjunct E)
      → Leaves cs c rest → IsAmong cs d → (c ≡ d) ⊎ IsAmong rest d
  leaves-among none c rest d l i = absurd l
  leaves-among (also b bs) c rest d (inl l) (inl i) = inl (sym l.0 ∙ i)
  leaves-among (also b bs) c rest d (inl l) (inr i) = inr (subst (λ z. IsAmong z d) l.1 i)
  leaves-among (also b bs) c rest d (inr l) (inl i) = inr (subst (λ z. IsAmong z d) (sym l.2) (inl i))
  leaves-among (also b bs) c rest d (inr l) (inr i) =
      either (leaves-among bs c l.0 d l.1 i) (λ e. inl e)
      (λ j. inr (subst (λ z. IsAmong z d) (sym l.2) (inr j)))

  -- what is taken is one of them
  pub leaves-is : (cs : Conjuncts E) (c : Conjunct E) (rest : Conjuncts E) → Leaves cs c rest → IsAmong cs c
  leaves-is none c rest l = absurd l
  leaves-is (also b bs) c rest (inl l) = inl l.0
  leaves-is (also b bs) c rest (inr l) = inr (leaves-is bs c l.0 l.1)

  -- each of them may be the one that is taken
  pub among-leaves : (cs : Conjuncts E) (c : Conjunct E) → IsAmong cs c
      → (rest : Conjuncts E) × Leaves cs c rest
  among-leaves none c i = absurd i
  among-leaves (also b bs) c (inl i) = (bs, inl (i, refl))
  among-leaves (also b bs) c (inr i) = let l = among-leaves bs c i in (also b l.0, inr (l.0, l.1, refl))

  pub leaves-within : (cs : Conjuncts E) (c : Conjunct E) (rest : Conjuncts E) (d : Conjunct E)
      → Leaves cs c rest → IsAmong rest d → IsAmong cs d
  leaves-within none c rest d l i = absurd l
  leaves-within (also b bs) c rest d (inl l) i = inr (subst (λ z. IsAmong z d) (sym l.1) i)
  leaves-within (also b bs) c rest d (inr l) i =
      either (subst (λ z. IsAmong z d) l.2 i) (λ e. inl e) (λ j. inr (leaves-within bs c l.0 d l.1 j))

  -- each of the conjuncts was taken, from less than is known in the end, or is left
  pub taken-or_left : (known : ℕ → Bool) (cs taken rest : Conjuncts E) (d : Conjunct E)
      → Takes known cs taken rest → IsAmong cs d
      → (CanBeTaken (known_by taken known) d × KnowsMore (is_learned d) (known_by taken known))
      ⊎ IsAmong rest d
  taken-or_left known cs none rest d t i = inr (subst (λ z. IsAmong z d) t i)
  taken-or_left known cs (also c taken) rest d t i = either (leaves-among cs c t.0 d t.1 i)
      (λ e. inl (
        taken-more known (known_by taken (known_after c known)) d (subst (CanBeTaken known) e t.2)
            (λ n k. takes-more (known_after c known) taken n (more-taken c known n k)),
        λ n k. takes-more (known_after c known) taken n
            (or_right (known n) (is_learned c n) (subst (λ z. is_learned z n ≡ true) (sym e) k)),
      ))
      (λ j. taken-or_left (known_after c known) t.0 taken rest d t.3 j)

  -- what is left where a sequence stops is left by every sequence
  stuck-stays : (known final : ℕ → Bool) (all left : Conjuncts E)
      → ((d : Conjunct E) → IsAmong all d → (CanBeTaken final d × KnowsMore (is_learned d) final)
      ⊎ IsAmong left d)
      → ((d : Conjunct E) → IsAmong left d → CanBeTaken final d → ⊥)
      → (now : ℕ → Bool) (cs taken rest : Conjuncts E) → KnowsMore now final
      → ((d : Conjunct E) → IsAmong cs d → IsAmong all d)
      → (c : Conjunct E) → IsAmong left c → IsAmong cs c → Takes now cs taken rest → IsAmong rest c
  stuck-stays known final all left which stuck now cs none rest m w c l i t = subst (λ z. IsAmong z c) t i
  stuck-stays known final all left which stuck now cs (also d taken) rest m w c l i t =
      let ready = taken-more now final d t.2 m in
      either (leaves-among cs d t.0 c t.1 i)
      (λ e. absurd (stuck c l (subst (CanBeTaken final) e ready)))
      (λ j. either (which d (w d (leaves-is cs d t.0 t.1)))
      (λ k. stuck-stays known final all left which stuck (known_after d now) t.0 taken rest
      (λ n e. either (or_cases (now n) (is_learned d n) e) (m n) (k.1 n))
      (λ b h. w b (leaves-within cs d t.0 b t.1 h)) c l j t.3)
      (λ k. absurd (stuck d k ready)))

  -- the conjuncts left are of those in text order, the others having been taken
  abbrev pub AreOf : (Conjunct E → Type 0) → (left cs : Conjuncts E) → Type 0
  AreOf P left none = left ≡ none
  AreOf P left (also c cs) =
      (P c × AreOf P left cs) ⊎ ((others : Conjuncts E) × (left ≡ also c others) × AreOf P others cs)

  of-all : (P : Conjunct E → Type 0) (cs : Conjuncts E) → AreOf P cs cs
  of-all P none = refl
  of-all P (also c cs) = inr (cs, refl, of-all P cs)

  of-cases : (d : Conjunct E) (ds : Conjuncts E) (c : Conjunct E) (rest : Conjuncts E)
      → Leaves (also d ds) c rest
      → ((d ≡ c) × (ds ≡ rest)) ⊎ ((others : Conjuncts E) × Leaves ds c others × (rest ≡ also d others))
  of-cases d ds c rest l = l

  of-leaves : (P : Conjunct E → Type 0) (cs left : Conjuncts E) (c : Conjunct E) (rest : Conjuncts E)
      → AreOf P left cs → Leaves left c rest → P c → AreOf P rest cs
  of-leaves P none left c rest a l p = absurd (subst (λ z. Leaves z c rest) a l)
  of-leaves P (also d ds) left c rest (inl a) l p = inl (a.0, of-leaves P ds left c rest a.1 l p)
  of-leaves P (also d ds) left c rest (inr a) l p =
      either (of-cases d a.0 c rest (subst (λ z. Leaves z c rest) a.1 l))
      (λ m. inl (subst P (sym m.0) p, subst (λ z. AreOf P z ds) m.1 a.2))
      (λ m. inr (m.0, m.2, of-leaves P ds a.0 c m.0 a.2 m.1 p))

  takes-of : (P : Conjunct E → Type 0) (all : Conjuncts E) (known : ℕ → Bool) (cs taken rest : Conjuncts E)
      → ((d : Conjunct E) → CanBeTaken (known_by taken known) d → P d) → AreOf P cs all
      → Takes known cs taken rest → AreOf P rest all
  takes-of P all known cs none rest p a t = subst (λ z. AreOf P z all) t a
  takes-of P all known cs (also c taken) rest p a t =
      takes-of P all (known_after c known) t.0 taken rest p
      (of-leaves P all cs c t.0 a t.1 (p c (taken-more known (known_by taken (known_after c known)) c t.2
      (λ n k. takes-more (known_after c known) taken n (more-taken c known n k)))))
      t.3

  -- the first that is left, in text order, is the first that is never taken
  stuck-walk : (P : Conjunct E → Type 0) (known : ℕ → Bool) (all cs left : Conjuncts E) (c : Conjunct E)
      (others : Conjuncts E)
      → ((d : Conjunct E) → P d → IsNeverTaken known all d → ⊥)
      → left ≡ also c others → IsNeverTaken known all c → AreOf P left cs
      → IsFirstNeverTaken known all cs (place_at c)
  stuck-walk P known all none left c others p e n a = absurd (let x : also c others ≡ none = sym e ∙ a in cc)
  stuck-walk P known all (also d ds) left c others p e n (inl a) =
      inr (p d a.0, stuck-walk P known all ds left c others p e n a.1)
  stuck-walk P known all (also d ds) left c others p e n (inr a) =
      let both : also c others ≡ also d a.0 = sym e ∙ a.1 in
      let same : c ≡ d = cc in
      inl (subst (IsNeverTaken known all) same n, ap place_at (sym same))

  -- a sequence stops with a conjunct left: it is the first that is never taken
  pub stuck-first : (known : ℕ → Bool) (cs taken : Conjuncts E) (c : Conjunct E) (others : Conjuncts E)
      → Takes known cs taken (also c others)
      → ((d : Conjunct E) → IsAmong (also c others) d → CanBeTaken (known_by taken known) d → ⊥)
      → IsFirstNeverTaken known cs cs (place_at c)
  stuck-first known cs taken c others t stuck =
      stuck-walk (CanBeTaken (known_by taken known)) known cs cs (also c others) c others
      (λ d k n. stuck d (n taken (also c others) t) k) refl never
      (takes-of (CanBeTaken (known_by taken known)) cs known cs taken (also c others) (λ d k. k)
      (of-all (CanBeTaken (known_by taken known)) cs) t)
    where
      never : IsNeverTaken known cs c
      never more rest u =
          stuck-stays known (known_by taken known) cs (also c others)
          (λ d i. taken-or_left known cs taken (also c others) d t i) stuck known cs more rest
          (takes-more known taken) (λ d i. i) c (inl refl)
          (first-among known cs taken (also c others) c t (inl refl)) u
        where
          first-among : (now : ℕ → Bool) (ds some rest : Conjuncts E) (d : Conjunct E)
              → Takes now ds some rest → IsAmong rest d → IsAmong ds d
          first-among now ds none rest d t i = subst (λ z. IsAmong z d) (sym t) i
          first-among now ds (also b some) rest d t i =
              leaves-within ds b t.0 d t.1 (first-among (known_after b now) t.0 some rest d t.3 i)

  -- conjuncts that have an order can all be taken
  order-takes : (known : ℕ → Bool) (cs : Conjuncts E) → HasOrder known cs
      → (taken : Conjuncts E) × Takes known cs taken none
  order-takes known cs (all_taken i) = (none, i)
  order-takes known cs (take c rest l f o) =
      let more = order-takes (known_after c known) rest o in (also c more.0, (rest, l, f, more.1))

  -- where one is never taken they have no order
  pub never-no_order : (known : ℕ → Bool) (all cs : Conjuncts E) (p : Place)
      → IsFirstNeverTaken known all cs p → HasOrder known all → ⊥
  never-no_order known all none p n o = n
  never-no_order known all (also c cs) p (inl n) o = let t = order-takes known all o in n.0 t.0 none t.1
  never-no_order known all (also c cs) p (inr n) o = never-no_order known all cs p n.1 o
