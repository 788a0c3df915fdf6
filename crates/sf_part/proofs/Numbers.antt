-- Numbers of events: those of different parts differ, and what an event makes is new.
-- Names: `events-LAW`, `cells-LAW`.
use Rattle.std.specs.Prelude.{◌≡◌, ℕ, ◌+◌, List, [], ◌∷◌, ◌++◌, None, Contains}
use Rattle.std.proofs.Common.{sym, ap, ◌∙◌, subst, inl, inr, arith}
use Rattle.sf_base.proofs.Elements.{contains-cons}
use Rattle.sf_core.specs.Checked.Machine.Laws.{HasNumber, Makes}
use Rattle.sf_core.specs.Machine.Config.{runs, Config}
use Rattle.sf_core.specs.Machine.Enabled.{cell}
use Rattle.sf_core.specs.Machine.Next.{next}
use Rattle.sf_core.specs.Machine.Step.{Event}
use Rattle.sf_core.specs.Machine.Supplies.{has}
use Rattle.sf_core.specs.Machine.Whole.{Part, Content, numbers, supplies, Whole}
use Rattle.sf_core.specs.Program.Syntax.{Program}
use Rattle.sf_part.specs.Steps.{Private, Privates}
use Rattle.sf_part.specs.Timed.{TimedPart}
use Rattle.sf_part.proofs.Beside.{spent-number, spent-one, takes-at, takes-one}
use Rattle.sf_part.proofs.Order.{whole-focus}
use Rattle.sf_part.proofs.Supplies.{count-append, count-contains, times}

-- the numbers of private events are units of the part
events-units : (p : Program) (events : List Event) (a b : TimedPart) → Privates p a events b
    → (n : ℕ)
    → HasNumber events n → Contains (numbers a.part.supply) n
events-units p [] a b e n h = absurd h
events-units p (ev ∷ events) a b (m, e, es) n h =
    let units = takes-one ev (next (runs e.frames)) (numbers a.part.supply) (numbers m.part.supply)
    e.spends in
    subst (λ z. Contains z n) (sym units) ((contains-cons ev.number (numbers m.part.supply) n).1
    (elim h [
      | inl k ↦ inl (sym k)
      | inr k ↦ inr (events-units p events m b es n k)
    ]))

-- how often a number is in the supplies of two lists of parts
count-parts : (n : ℕ) (one two : List Part)
    → times n (supplies (one ++ two)) ≡ times n (supplies one) + times n (supplies two)
count-parts n [] two = omega arith
count-parts n (a ∷ one) two =
    let h = count-parts n one two in
    let s = count-append n (numbers a.supply) (supplies (one ++ two)) in
    let t = count-append n (numbers a.supply) (supplies one) in
    omega arith

-- private events of two parts never have one number
pub events-differ : (p : Program) (events others : List Event) (a b f g : TimedPart)
    (before between after : List Part)
    (contents : List Content) (c : Config) → Privates p a events b → Privates p f others g
    → Whole (before ++ a.part ∷ (between ++ f.part ∷ after)) contents c → (n : ℕ)
    → HasNumber events n
    → HasNumber others n → ⊥
events-differ p events others a b f g before between after contents c e h w n i j =
    let one = count-contains n (numbers a.part.supply) (events-units p events a b e n i) in
    let two = count-contains n (numbers f.part.supply) (events-units p others f g h n j) in
    let q = count-parts n before (a.part ∷ (between ++ f.part ∷ after)) in
    let r = count-append n (numbers a.part.supply) (supplies (between ++ f.part ∷ after)) in
    let s = count-parts n between (f.part ∷ after) in
    let t = count-append n (numbers f.part.supply) (supplies after) in
    let most = w.once n in
    absurd (omega arith)

-- what an event makes is absent from the whole heap
pub cells-absent : (p : Program) (ev : Event) (a b : TimedPart) (before after : List Part)
    (contents : List Content)
    (c : Config) → (e : Private p ev a b) → Whole (before ++ a.part ∷ after) contents c
    → (location : ℕ)
    → Makes p ev (next (runs e.frames)) (cell location) → c.common.heap location ≡ None
cells-absent p ev a b before after contents c e w location m =
    let first = whole-focus before after a.part contents c w in
    let units = takes-one ev (next (runs e.frames)) (numbers a.part.supply) (numbers b.part.supply)
    e.spends in
    let spent = spent-one ev a.part b.part (before ++ after) units in
    let number = spent-number ev (a.part ∷ before ++ after) (b.part ∷ before ++ after) c spent
    first.unused in
    ap c.common.heap (takes-at p ev (next (runs e.frames)) (has (numbers a.part.supply))
    (has (numbers b.part.supply))
    e.spends location m) ∙ number.heap
