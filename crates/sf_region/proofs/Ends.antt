-- From what a step tells to what a call says.
-- Names: `try-LAW` of a try, `leave-LAW` of a content put back, `taken-LAW` of what a seat has
-- taken.
use Rattle.std.specs.Prelude.{◌≡◌, ◌≢◌, ◌==◌, ◌+◌, ℕ, cond, true, List, [], ◌∷◌, Some, None, IfSome, IsSome}
use Rattle.std.proofs.Common.{sym, ap, ◌∙◌, refl, subst, arith}
use mathlib.Core.Option.{none}
use Rattle.atomic_table.specs.Seated.{TableId}
use Rattle.atomic_table.specs.Table.{Me, step, rest}
use Rattle.sf_base.specs.declared.ids.ResId.{ResId}
use Rattle.sf_base.specs.declared.path.Turn.{Turn}
use Rattle.sf_core.specs.Machine.Whole.{Stand}
use Rattle.sf_core.specs.Program.Syntax.{Program}
use Rattle.sf_part.specs.declared.content.Content.{Content}
use Rattle.sf_part.specs.declared.part.Part.{Part}
use Rattle.sf_part.specs.Contents.{content_of}
use Rattle.sf_part.specs.PartView.{part_of}
use Rattle.sf_region.proofs.Insides.{private-inside, entry-inside, exit-inside, fork-inside, join-inside}
use Rattle.sf_region.specs.declared.entry.Entry.{Entry}
use Rattle.sf_region.specs.declared.entry.Entry.TheVariants.{Entered}
use Rattle.sf_region.specs.declared.views.View.{View}
use Rattle.sf_region.specs.Calls.{IsNear, MayEnd, MayLeave, MaySplit, Tells}
use Rattle.sf_region.specs.Holdings.{Holding, taken, with_hand, entered, Does, Act, Advance}
use Rattle.sf_region.specs.Marks.{Kind, private, entry, exit, forking, joining, Mark}
use Rattle.sf_region.specs.Plays.{IsFor, IsThere, Known, giving, hollow, lost, moved, tries, won}
use Rattle.sf_region.specs.Rule.{Slot, holding}

-- what a seat has taken stays
act-taken : (p : Program) (a c : Holding) (m : Mark) → Act p a m c → taken c ≡ taken a
act-taken p a c m (stamp, does) = go m.kind does
  where
    go : (kind : Kind) → Does p a kind m.event c → taken c ≡ taken a
    go private (hand, kids, e) =
        λ i. with_hand (hand i) ((private-inside p m.event a.part c.part e).0 i)
    go (entry r) (k, in_hand, of, hand, kids, e) =
        (λ i. with_hand (hand i) ((entry-inside p m.event a.part c.part (content_of k) e).0 i))
        ∙ ap (λ z. with_hand z (entered a.part.part.stand)) (sym in_hand)
    go (exit r) (k, empty, hand, of, kids, is_in, gives) =
        (λ i. with_hand (hand i) (entered c.part.part.stand))
        ∙ (sym (exit-inside p m.event a.part c.part (content_of k) gives.exits).0
        ∙ ap (λ z. with_hand z (entered a.part.part.stand)) (sym empty))
    go forking (one, two, hand, before, kids, e) =
        λ i. with_hand (hand i) ((fork-inside p m.event a.part c.part one two e).0 i)
    go joining (one, two, hand, kids, after, e) =
        λ i. with_hand (hand i) ((join-inside p m.event a.part one two c.part e).0 i)

pub advance-taken : (p : Program) (a c : Holding) (marks : List Mark) → Advance p a marks c
    → taken c ≡ taken a
advance-taken p a c [] e = ap taken e
advance-taken p a c (x ∷ marks) (m, act, more) =
    advance-taken p m c marks more ∙ act-taken p a m x act

abbrev top : List (ℕ × Slot) → Slot
top [] = None
top (x ∷ xs) = x.1

-- the slots of a seat, by the part as it now is
pub taken-now : (p : Program) (t : TableId) (z : TableId × View) (a : Part) (m : Me Slot View)
    → (t, m.0) ≡ z → m.1 ≡ hollow (taken (holding m.0)) → IsNear p z.1 a
    → m.1 ≡ hollow (taken (holding (moved a [] m.0)))
taken-now p t z a m e deep near = deep ∙ ap hollow (sym (advance-taken p (holding m.0)
    (holding (moved a [] m.0)) near.0
    (subst (λ (y : TableId × View). Advance p (holding y.1) near.0 (holding (moved a [] y.1)))
    (sym e) near.1)))

pub taken-given : (p : Program) (t : TableId) (z : TableId × View) (a : Part) (r : ResId)
    (k : Content) (m : Me Slot View) → (t, m.0) ≡ z → m.1 ≡ hollow (taken (holding m.0))
    → MayLeave p z.1 a r k → m.1 ≡ (r.0, None) ∷ hollow (entered (part_of a).part.stand)
taken-given p t z a r k m e deep may = deep ∙ (ap hollow (sym (advance-taken p (holding m.0)
    (holding (giving k a m.0)) may.near.0
    (subst (λ (y : TableId × View). Advance p (holding y.1) may.near.0 (holding (giving k a y.1)))
    (sym e) may.near.1)))
    ∙ ap (λ (q : ResId). (q.0, None) ∷ hollow (entered (part_of a).part.stand)) may.resource)

pub rest-there : {x : ℕ × Slot} {xs l : List (ℕ × Slot)} → l ≡ x ∷ xs → l ≡ x ∷ rest l
rest-there {x} {xs} {l} e = e ∙ ap (λ k. x ∷ rest k) (sym e)

pub count-is : {a b c d e f : ℕ} → a ≡ d → b ≡ e → c ≡ f
    → cond (a == b) c 0 ≡ cond (d == e) f 0
count-is p q r = λ i. cond ((p i) == (q i)) (r i) 0

-- what the slot gives is what was tied to the word
module _ (a : Part) (slots : ℕ) (r : ResId) (m n l : Me Slot View) (found : ℕ)
    (t : tries a (step slots (r.0 + 1) 0 1 none) m found n) (got : Slot) where
  pub try-told : (found ≡ 0 → (k : Content) × (n ≡ (won k (moved a [] m.0), (r.0, Some k) ∷ m.1))
      × IsFor m.0.begun (part_of a) r k × Known (won k (moved a [] m.0)))
      × (found ≢ 0 → (n ≡ (lost r (moved a [] m.0), m.1)) × IsThere m.0.begun (part_of a)
      × Known (lost r (moved a [] m.0)))
  try-told = t r (omega arith)

  pub try-slot : found ≡ 0 → (z : Slot) × (n.1 ≡ (r.0, z) ∷ rest n.1)
  try-slot hit = let w = try-told.0 hit in (
    Some w.0,
    ap (λ (k : Me Slot View). k.1) w.1
        ∙ ap (λ (k : Me Slot View). (r.0, Some w.0) ∷ rest k.1) (sym w.1),
  )

  pub try-got : (hit : found ≡ 0) → n.1 ≡ (r.0, got) ∷ rest n.1 → got ≡ Some (try-told.0 hit).0
  try-got hit e = ap top (sym e ∙ ap (λ (k : Me Slot View). k.1) (try-told.0 hit).1)

  pub try-some : (hit : found ≡ 0) → n.1 ≡ (r.0, got) ∷ rest n.1 → IsSome got
  try-some hit e = subst (λ z. IsSome z) (sym (try-got hit e)) refl

  pub try-view : (hit : found ≡ 0) → l ≡ (n.0, (r.0, None) ∷ rest n.1)
      → l.0 ≡ won (try-told.0 hit).0 (moved a [] m.0)
  try-view hit f = ap (λ (k : Me Slot View). k.0) f ∙ ap (λ (k : Me Slot View). k.0) (try-told.0
      hit).1

  pub try-entered : (hit : found ≡ 0) → n.1 ≡ (r.0, got) ∷ rest n.1
      → l ≡ (n.0, (r.0, None) ∷ rest n.1) → (answer : Entry) → IfSome got (λ k. answer ≡ Entered k)
      → Tells a r m.0 l.0 answer
  try-entered hit e f answer is =
      let k = (try-told.0 hit).0 in
      let same : answer ≡ Entered k =
      subst (λ (z : Slot). IfSome z (λ k. answer ≡ Entered k)) (try-got hit e) is in
      subst (Tells a r m.0 l.0) (sym same) (try-view hit f, (try-told.0 hit).2)

  pub try-invariant : (hit : found ≡ 0) → l ≡ (n.0, (r.0, None) ∷ rest n.1) → m.0.live ≡ true
      → m.1 ≡ hollow (taken (holding (moved a [] m.0)))
      → (l.0.live ≡ true) × (l.1 ≡ hollow (taken (holding l.0))) × Known l.0
  try-invariant hit f live deep =
      let w = try-told.0 hit in let view = try-view hit f in
      let more : rest n.1 ≡ m.1 = ap (λ (k : Me Slot View). rest k.1) w.1 in (
        ap (λ (v : View). v.live) view ∙ live,
        ap (λ (k : Me Slot View). k.1) f ∙ (ap (λ xs. (r.0, None) ∷ xs) (more ∙ deep)
            ∙ (ap (λ (q : ResId). (q.0, None) ∷ hollow (entered (part_of a).part.stand))
            (sym w.2.resource)
            ∙ ap (λ (v : View). hollow (taken (holding v))) (sym view))),
        subst Known (sym view) w.3,
      )

  pub try-missed : (miss : found ≢ 0) → n.0 ≡ lost r (moved a [] m.0)
  try-missed miss = ap (λ (k : Me Slot View). k.0) (try-told.1 miss).0

  pub try-still : (miss : found ≢ 0) → m.0.live ≡ true
      → m.1 ≡ hollow (taken (holding (moved a [] m.0)))
      → (n.0.live ≡ true) × (n.1 ≡ hollow (taken (holding n.0))) × Known n.0
  try-still miss live deep = let w = (try-told.1 miss).0 in (
    ap (λ (k : Me Slot View). k.0.live) w ∙ live,
    ap (λ (k : Me Slot View). k.1) w
        ∙ (deep ∙ ap (λ (k : Me Slot View). hollow (taken (holding k.0))) (sym w)),
    subst Known (sym (try-missed miss)) (try-told.1 miss).2,
  )

-- the children of a fork are inside of no region
module _ (p : Program) (v : View) (a one two : Part) (may : MaySplit p v a one two) where
  pub split-left : entered (part_of one).part.stand ≡ []
  split-left = (fork-inside p may.event (part_of may.before) (part_of a) (part_of one)
      (part_of two) may.forks).2

  pub split-right : entered (part_of two).part.stand ≡ []
  split-right = (fork-inside p may.event (part_of may.before) (part_of a) (part_of one)
      (part_of two) may.forks).3

-- the slots of a seat stay at a fork
pub taken-split : (p : Program) (t : TableId) (z : TableId × View) (a one two : Part)
    (m : Me Slot View) → (t, m.0) ≡ z → m.1 ≡ hollow (taken (holding m.0))
    → MaySplit p z.1 a one two → m.1 ≡ hollow (entered (part_of a).part.stand)
taken-split p t z a one two m e deep may = taken-now p t z may.before m e deep may.near
    ∙ ap hollow (sym (fork-inside p may.event (part_of may.before) (part_of a) (part_of one)
    (part_of two) may.forks).0)

-- a child that has ended has nothing
pub taken-ended : (p : Program) (t : TableId) (z : TableId × View) (v : View) (turn : Turn)
    (a : Part) (m : Me Slot View) → (t, m.0) ≡ z → m.1 ≡ hollow (taken (holding m.0))
    → MayEnd p v turn z.1 a → m.1 ≡ []
taken-ended p t z v turn a m e deep may = taken-now p t z a m e deep may.near
    ∙ ap (λ (s : Stand). hollow (entered s)) may.ended
