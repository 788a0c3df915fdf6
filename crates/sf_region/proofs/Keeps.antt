-- Steps keep the rule: a seat's task goes on, a word is won, a word is freed, a table begins, a
-- place without a part comes.
-- Names: `settles`, `wins`, `frees`, `begins`, `admits` are the kinds of step; `parts-LAW` speaks
-- of
-- the parts in views.
use Rattle.std.specs.Prelude.{◌≡◌, ◌≢◌, ◌==◌, ◌+◌, ◌<◌, ◌≤◌, ℕ, zero, suc, cond, Bool, true, false, List, [], ◌∷◌, ◌++◌, map, length, slice_index, Option, Some, None, Contains}
use Rattle.std.proofs.Common.{set, sym, ap, ◌∙◌, refl, subst, ⊎_elim, arith, append-nil, true≢false, eq-eqb, ne_eqb, length-set, set-set, get_or-set_same, get_or-set_other}
use Rattle.std.proofs.lemmas.Grind.{flat_map-append}
use Rattle.std.proofs.lemmas.List.Sums.{sum_by-cons}
use Rattle.std.proofs.lemmas.Option.{none-some, same_Some}
use mathlib.Core.Logic.{dite}
use mathlib.Core.Option.{some, some-injective, some-ne-none}
use native.Mathlib.Decide.{ℕ_discrete}
use lib.ListN.{get_elem?}
use Rattle.atomic_table.proofs.Lists.{at_longer, at_map, at_set, at_snoc, set_again, set_else, set_here}
use Rattle.atomic_table.specs.Table.{State, opening}
use Rattle.sf_base.specs.declared.ids.ResId.{ResId}
use Rattle.sf_core.specs.Machine.Config.{Config}
use Rattle.sf_core.specs.Machine.Whole.{numbers}
use Rattle.sf_part.proofs.Supplies.{contains-count, count-contains}
use Rattle.sf_part.specs.declared.content.Content.{Content}
use Rattle.sf_part.specs.Keeps.{IsWaiting}
use Rattle.sf_part.specs.PartView.{part_of}
use Rattle.sf_part.specs.Timed.{TimedPart}
use Rattle.sf_region.specs.Checked.PartLaws.{PartLaws}
use Rattle.sf_region.proofs.Events.{Stays, advance-stays}
use Rattle.sf_region.proofs.Granted.{advance-granted, granted-first}
use Rattle.sf_region.proofs.Told.{Told, placed, Out, around}
use Rattle.sf_region.proofs.Insides.{times-cons, one_if}
use Rattle.sf_region.proofs.Lists.{Cut, cut, in_range, has-cases, has-first, has-later, has-none}
use Rattle.sf_region.specs.declared.views.Begun.{Begun}
use Rattle.sf_region.specs.declared.views.View.{View}
use Rattle.sf_region.specs.Drained.{Grants}
use Rattle.sf_region.specs.Holdings.{group, taken, with_hand, entered, Advance}
use Rattle.sf_region.specs.Marks.{Mark, History}
use Rattle.sf_region.specs.Plays.{won}
use Rattle.sf_region.specs.Rule.{Slot, holding, live_group, group_of, parts_in, untimed, present, times, Fits, Rule, MayBegin, opening_view}
use Rattle.sf_region.specs.Stamps.{Stamps}
use Rattle.sf_region.specs.Waits.{first_of, opening_parts, program_in}

-- The parts in views
pub live-group : (v : View) → v.live ≡ true → group_of v ≡ group (holding v)
live-group v e = ap (λ z. live_group z (group (holding v))) e

parts-middle : (before after : List View) (v : View) → v.live ≡ true
    → parts_in (before ++ v ∷ after) ≡ around (parts_in before) (holding v) (parts_in after)
parts-middle before after v e = flat_map-append group_of before (v ∷ after)
    ∙ ap (λ z. parts_in before ++ (z ++ parts_in after)) (live-group v e)

pub parts-at : (views : List View) (id : ℕ) (v : View) (c : Cut views id v) → v.live ≡ true
    → parts_in views ≡ around (parts_in c.before) (holding v) (parts_in c.after)
parts-at views id v c e = ap parts_in c.is ∙ parts-middle c.before c.after v e

pub parts-set : (views : List View) (id : ℕ) (v w : View) (c : Cut views id v) → w.live ≡ true
    → parts_in (set views id w) ≡ around (parts_in c.before) (holding w) (parts_in c.after)
parts-set views id v w c e = ap parts_in (c.sets w) ∙ parts-middle c.before c.after w e

-- a view of the same parts leaves them all
pub parts-same : (views : List View) (id : ℕ) (v w : View) → get_elem? views id ≡ some v
    → group_of w ≡ group_of v → parts_in (set views id w) ≡ parts_in views
parts-same views id v w at e =
    let c = cut views id v at in
    ap parts_in (c.sets w) ∙ (flat_map-append group_of c.before (w ∷ c.after)
    ∙ (ap (λ z. parts_in c.before ++ (z ++ parts_in c.after)) e
    ∙ (sym (flat_map-append group_of c.before (v ∷ c.after)) ∙ ap parts_in (sym c.is))))

-- Contents in hand
abbrev pub cleared : Option Content → List (Option Content) → List (Option Content)
cleared None cs = cs
cleared (Some k) cs = set cs k.resource.0 None

abbrev InHand : Option Content → List (Option Content) → Type 0
InHand h cs = (k : Content) → h ≡ Some k → get_elem? cs k.resource.0 ≡ some (Some k)

placed-cleared : (h : Option Content) (cs : List (Option Content)) → InHand h cs
    → placed h (cleared h cs) ≡ cs
placed-cleared None cs e = refl
placed-cleared (Some k) cs e = set-set cs k.resource.0 None (Some k)
    ∙ set_again cs k.resource.0 (Some k) (e k refl)

cleared-out : (h : Option Content) (ns : List ℕ) (cs : List (Option Content)) → InHand h cs
    → Out cs ns → Out (cleared h cs) (with_hand h ns)
cleared-out None ns cs e out r h = out r h
cleared-out (Some k) ns cs e out r h = dite (ℕ_discrete r k.resource.0)
    (λ f. ap (get_elem? (set cs k.resource.0 None)) f
    ∙ set_here cs k.resource.0 None (in_range cs k.resource.0 (Some k) (e k refl)))
    (λ ne. set_else cs k.resource.0 r None ne
    ∙ ⊎_elim (λ f. absurd (ne (sym f))) (λ i. out r i) (has-cases k.resource.0 r ns h))

cleared-else : (h : Option Content) (ns : List ℕ) (cs : List (Option Content)) (r : ℕ)
    → (Contains (with_hand h ns) r → ⊥) → get_elem? (cleared h cs) r ≡ get_elem? cs r
cleared-else None ns cs r off = refl
cleared-else (Some k) ns cs r off = set_else cs k.resource.0 r None
    (λ e. off (subst (λ z. Contains (k.resource.0 ∷ ns) z) (sym e) (has-first k.resource.0 ns)))

placed-else : (h : Option Content) (ns : List ℕ) (cs : List (Option Content)) (r : ℕ)
    → (Contains (with_hand h ns) r → ⊥) → get_elem? (placed h cs) r ≡ get_elem? cs r
placed-else None ns cs r off = refl
placed-else (Some k) ns cs r off = set_else cs k.resource.0 r (Some k)
    (λ e. off (subst (λ z. Contains (k.resource.0 ∷ ns) z) (sym e) (has-first k.resource.0 ns)))

length-cleared : (h : Option Content) (cs : List (Option Content)) → length (cleared h cs) ≡
    length cs
length-cleared None cs = refl
length-cleared (Some k) cs = length-set cs k.resource.0 None

length-placed : (h : Option Content) (cs : List (Option Content)) → length (placed h cs) ≡ length cs
length-placed None cs = refl
length-placed (Some k) cs = length-set cs k.resource.0 (Some k)

pub deeper : (h : Option Content) (ns : List ℕ) (r : ℕ) → Contains ns r → Contains (with_hand h
    ns) r
deeper None ns r i = i
deeper (Some k) ns r i = has-later k.resource.0 r ns i

pub in-hand : (h : Option Content) (ns : List ℕ) (k : Content) → h ≡ Some k
    → Contains (with_hand h ns) k.resource.0
in-hand h ns k e = subst (λ z. Contains (with_hand z ns) k.resource.0) (sym e)
    (has-first k.resource.0 ns)

le-one : (b : Bool) → one_if b ≤ 1
le-one true = omega arith
le-one false = omega arith

-- what a seat has taken is taken once
once : (h : Option Content) (a : TimedPart) (cs : List (Option Content)) → InHand h cs
    → Out cs (entered a.part.stand)
    → Rattle.sf_region.specs.Rule.IsTidy a → (r : ResId)
    → times r.0 (with_hand h (entered a.part.stand)) ≤ 1
once None a cs e out tidy r = let x = tidy r in let y = le-one (a.part.holds r) in omega arith
once (Some k) a cs e out tidy r =
    let ns = entered a.part.stand in
    let x = tidy r in let y = le-one (a.part.holds r) in
    let z = times-cons r.0 k.resource.0 ns in
    dite (ℕ_discrete k.resource.0 r.0)
    (λ f. let u : one_if (k.resource.0 == r.0) ≡ 1 = ap one_if (eq-eqb k.resource.0 r.0 f) in
    dite (ℕ_discrete (times r.0 ns) 0) (λ g. omega arith)
    (λ ne. let i = contains-count r.0 ns (omega arith) in
    absurd (none-some k (sym (some-injective (Some k) None (sym (e k refl)
    ∙ (ap (get_elem? cs) f ∙ out r.0 i)))))))
    (λ ne. let u : one_if (k.resource.0 == r.0) ≡ 0 = ap one_if (ne_eqb k.resource.0 r.0 ne) in
    omega arith)

-- the state with another view
abbrev pub viewed : State Slot View → ℕ → View → State Slot View
viewed s id w = record { words = s.words; homes = s.homes; views = set s.views id w }

abbrev pub told-of : {about : Begun} {marks : List Mark} {s : State Slot View}
    → (r : Rule about marks s) → Told about marks (parts_in s.views) r.contents
told-of r = record { exactly = r.exactly; start = r.start; history = r.history; stamps = r.stamps }

-- a seat's task goes on
module _ (laws : PartLaws) (about : Begun) (s : State Slot View) (id : ℕ) (v w : View) (es ms : List Mark)
    (r : Rule about ms s) (at : get_elem? s.views id ≡ some v) (vl : v.live ≡ true)
    (wl : w.live ≡ true) (same : w.begun ≡ v.begun)
    (adv : Advance (program_in about) (holding v) es (holding w)) where
  fits : Fits about r.contents r.owner s.words id v
  fits = r.each id v at vl

  abbrev cs : Cut s.views id v
  cs = cut s.views id v at

  abbrev base : List (Option Content)
  base = cleared v.hand r.contents

  abbrev now : List (Option Content)
  now = placed w.hand base

  out : Out base (taken (holding v))
  out = cleared-out v.hand (entered (part_of v.part).part.stand) r.contents fits.in_hand fits.inside

  stays : Stays laws about (parts_in cs.before) (parts_in cs.after) base (ms ++ es) (holding v)
      (holding w)
  stays = advance-stays laws about (parts_in cs.before) (parts_in cs.after) base ms es (holding v)
      (holding w)
      (subst (λ z. Told about ms (around (parts_in cs.before) (holding v) (parts_in cs.after)) z)
      (sym (placed-cleared v.hand r.contents fits.in_hand))
      (subst (λ z. Told about ms z r.contents) (parts-at s.views id v cs vl) (told-of r)))
      out fits.tidy adv

  granted : Grants about (ms ++ es) (around (parts_in cs.before) (holding w) (parts_in cs.after))
  granted = advance-granted laws about (parts_in cs.before) (parts_in cs.after) base ms es
      (holding v) (holding w)
      (subst (λ z. Told about ms (around (parts_in cs.before) (holding v) (parts_in cs.after)) z)
      (sym (placed-cleared v.hand r.contents fits.in_hand))
      (subst (λ z. Told about ms z r.contents) (parts-at s.views id v cs vl) (told-of r)))
      out fits.tidy adv (subst (Grants about ms) (parts-at s.views id v cs vl) r.grants)

  told : Told about (ms ++ es) (parts_in (set s.views id w)) now
  told = subst (λ z. Told about (ms ++ es) z now) (sym (parts-set s.views id v w cs wl)) stays.told

  elsewhere : (q : ℕ) → (Contains (taken (holding v)) q → ⊥)
      → get_elem? now q ≡ get_elem? r.contents q
  elsewhere q off = placed-else w.hand (entered (part_of w.part).part.stand) base q
      (λ h. off (subst (λ z. Contains z q) stays.taken_is h))
      ∙ cleared-else v.hand (entered (part_of v.part).part.stand) r.contents q off

  long : length now ≡ length r.contents
  long = length-placed w.hand base ∙ length-cleared v.hand r.contents

  out-w : Out base (taken (holding w))
  out-w q h = out q (subst (λ z. Contains z q) stays.taken_is h)

  hand-there : (k : Content) → w.hand ≡ Some k → get_elem? now k.resource.0 ≡ some (Some k)
  hand-there k e = subst (λ h. get_elem? (placed h base) k.resource.0 ≡ some (Some k)) (sym e)
      (set_here base k.resource.0 (Some k) (in_range base k.resource.0 None
      (out-w k.resource.0 (in-hand w.hand (entered (part_of w.part).part.stand) k e))))

  inside-none : (q : ℕ) → Contains (entered (part_of w.part).part.stand) q
      → get_elem? now q ≡ some None
  inside-none q h = go w.hand refl
    where
      ns : List ℕ
      ns = entered (part_of w.part).part.stand

      go : (x : Option Content) → w.hand ≡ x → get_elem? now q ≡ some None
      go None e = ap (λ z. get_elem? (placed z base) q) e ∙ out-w q (deeper w.hand ns q h)
      go (Some k) e = dite (ℕ_discrete q k.resource.0)
          (λ f.
          let one = once v.hand (part_of v.part) r.contents fits.in_hand fits.inside fits.tidy
          k.resource in
          let two : times k.resource.0 (with_hand (Some k) ns)
          ≡ times k.resource.0 (taken (holding v)) =
          ap (times k.resource.0) ((λ j. with_hand (sym e j) ns) ∙ stays.taken_is) in
          let three = times-cons k.resource.0 k.resource.0 ns in
          let four : one_if (k.resource.0 == k.resource.0) ≡ 1 =
          ap one_if (eq-eqb k.resource.0 k.resource.0 refl) in
          let five = count-contains k.resource.0 ns (subst (Contains ns) f h) in
          absurd (omega arith))
          (λ ne. ap (λ z. get_elem? (placed z base) q) e
          ∙ (set_else base k.resource.0 q (Some k) ne ∙ out-w q (deeper w.hand ns q h)))

  mine : Fits about now r.owner s.words id w
  mine = record {
    begun = same ∙ fits.begun;
    in_hand = hand-there;
    has = λ q h.
        let t = fits.has q (subst (λ z. Contains z q) stays.taken_is h) in
        let l = long in (omega arith, t.1, t.2);
    inside = inside-none;
    tidy = stays.tidy;
  }

  others : (j : ℕ) (u : View) → j ≢ id → get_elem? s.views j ≡ some u → u.live ≡ true
      → Fits about now r.owner s.words j u
  others j u ne e ul =
      let f = r.each j u e ul in
      let ns : List ℕ = entered (part_of u.part).part.stand in
      let far : (q : ℕ) → Contains (taken (holding u)) q → Contains (taken (holding v)) q → ⊥ =
      λ q x y. ne (sym (f.has q x).2 ∙ (fits.has q y).2) in record {
        begun = f.begun;
        in_hand = λ k h. elsewhere k.resource.0 (far k.resource.0 (in-hand u.hand ns k h))
            ∙ f.in_hand k h;
        has = λ q h. let t = f.has q h in let l = long in (omega arith, t.1, t.2);
        inside = λ q h. elsewhere q (far q (deeper u.hand ns q h)) ∙ f.inside q h;
        tidy = f.tidy;
      }

  pub settles : Rule about (ms ++ es) (viewed s id w)
  settles = record {
    contents = now;
    owner = r.owner;
    wide = r.wide;
    even = long ∙ r.even;
    rests = r.rests;
    free = λ q less zero_word.
        let f = r.free q less zero_word in
        (f.0, f.1, elsewhere q (λ h. (fits.has q h).1 zero_word) ∙ f.2);
    kept = λ k less ne.
        let t = r.kept k less ne in dite (ℕ_discrete (r.owner k) id)
        (λ here.
        let is : t.0 ≡ v = some-injective t.0 v (sym t.1 ∙ (ap (get_elem? s.views) here ∙ at)) in (
          w,
          ap (get_elem? (set s.views id w)) here ∙ set_here s.views id w (in_range s.views id v at),
          wl,
          subst (λ z. Contains z k) (sym stays.taken_is)
              (subst (λ (z : View). Contains (taken (holding z)) k) is t.3),
        ))
        (λ other. (t.0, set_else s.views id (r.owner k) w other ∙ t.1, t.2, t.3));
    each = λ j u e ul. ⊎_elim
        (λ (x : (j ≡ id) × (w ≡ u)). subst
        (λ (y : ℕ × View). Fits about now r.owner s.words y.0 y.1) (λ i. (sym x.0 i, x.1 i)) mine)
        (λ (x : (j ≢ id) × (get_elem? s.views j ≡ some u)). others j u x.0 x.1 ul)
        (at_set s.views id j w u e);
    exactly = told.exactly;
    start = told.start;
    history = told.history;
    stamps = told.stamps;
    grants = subst (Grants about (ms ++ es)) (sym (parts-set s.views id v w cs wl)) granted;
    limit = r.limit;
  }

slot-else : (ws : List ℕ) (i j n : ℕ) → j ≢ i → slice_index (set ws i n) j ≡ slice_index ws j
slot-else ws i j n ne = get_or-set_other ws i j n 0 ne

abbrev pub taken_state : State Slot View → ℕ → ℕ → View → State Slot View
taken_state s r id w = record {
  words = set s.words (suc r) 1;
  homes = set s.homes r none';
  views = set s.views id w;
}
  where
    none' : mathlib.Core.Option.Option Slot
    none' = mathlib.Core.Option.none

-- a free word is won, and its content comes to hand
module _ (about : Begun) (s : State Slot View) (id : ℕ) (v : View) (ms : List Mark)
    (q : Rule about ms s) (at : get_elem? s.views id ≡ some v) (vl : v.live ≡ true)
    (empty : v.hand ≡ None) (r : ℕ) (less : r < length s.homes)
    (is_free : slice_index s.words (suc r) ≡ 0) where
  abbrev content : Content
  content = (q.free r less is_free).0

  abbrev ours : View
  ours = won content v

  number : content.resource.0 ≡ r
  number = (q.exactly r content (q.free r less is_free).2).number

  abbrev owner : ℕ → ℕ
  owner k = cond (k == r) id (q.owner k)

  owner-self : owner r ≡ id
  owner-self = ap (λ z. cond z id (q.owner r)) (eq-eqb r r refl)

  owner-other : (k : ℕ) → k ≢ r → owner k ≡ q.owner k
  owner-other k ne = ap (λ z. cond z id (q.owner k)) (ne_eqb k r ne)

  abbrev words : List ℕ
  words = set s.words (suc r) 1

  word-self : slice_index words (suc r) ≡ 1
  word-self = get_or-set_same s.words (suc r) 1 0 (let w = q.wide in omega arith)

  word-other : (k : ℕ) → k ≢ r → slice_index words (suc k) ≡ slice_index s.words (suc k)
  word-other k ne = slot-else s.words (suc r) (suc k) 1 (λ e. ne (omega arith))

  has-still : (j : ℕ) (u : View) → get_elem? s.views j ≡ some u → u.live ≡ true → (k : ℕ)
      → Contains (taken (holding u)) k
      → (k < length q.contents) × (slice_index words (suc k) ≢ 0) × (owner k ≡ j)
  has-still j u e ul k h =
      let t = (q.each j u e ul).has k h in
      let ne : k ≢ r = λ f. t.1 (ap (λ z. slice_index s.words (suc z)) f ∙ is_free) in
      (t.0, (λ z. t.1 (sym (word-other k ne) ∙ z)), owner-other k ne ∙ t.2)

  still : (j : ℕ) (u : View) → get_elem? s.views j ≡ some u → u.live ≡ true
      → Fits about q.contents owner words j u
  still j u e ul = let f = q.each j u e ul in record {
    begun = f.begun;
    in_hand = f.in_hand;
    has = has-still j u e ul;
    inside = f.inside;
    tidy = f.tidy;
  }

  own : Fits about q.contents owner words id ours
  own = let f = q.each id v at vl in record {
    begun = f.begun;
    in_hand = λ k e.
        let same : content ≡ k = same_Some content k e in
        subst (λ (z : Content). get_elem? q.contents z.resource.0 ≡ some (Some z)) same
        (ap (get_elem? q.contents) number ∙ (q.free r less is_free).2);
    has = λ k h. ⊎_elim
        (λ (e : content.resource.0 ≡ k).
        let f : k ≡ r = sym e ∙ number in
        let word : slice_index words (suc k) ≡ 1 = ap (λ z. slice_index words (suc z)) f ∙
        word-self in
        (let x = q.even in omega arith, (λ z. absurd (omega arith)), ap owner f ∙ owner-self))
        (λ i. has-still id v at vl k (deeper v.hand (entered (part_of v.part).part.stand) k i))
        (has-cases content.resource.0 k (entered (part_of v.part).part.stand) h);
    inside = f.inside;
    tidy = f.tidy;
  }

  pub wins : Rule about ms (taken_state s r id ours)
  wins = record {
    contents = q.contents;
    owner = owner;
    wide =
        let w = q.wide in let l = length-set s.words (suc r) 1 in
        let m : length (set s.homes r mathlib.Core.Option.none) ≡ length s.homes =
        length-set s.homes r mathlib.Core.Option.none in omega arith;
    even = q.even ∙ sym (length-set s.homes r mathlib.Core.Option.none);
    rests = slot-else s.words (suc r) 0 1 (λ e. absurd (omega arith)) ∙ q.rests;
    free = λ k within zero_word.
        let m : length (set s.homes r mathlib.Core.Option.none) ≡ length s.homes =
        length-set s.homes r mathlib.Core.Option.none in
        let ne : k ≢ r = λ f.
        let x : slice_index words (suc k) ≡ 1 = ap (λ z. slice_index words (suc z)) f ∙ word-self in
        absurd (omega arith) in
        let f = q.free k (omega arith) (sym (word-other k ne) ∙ zero_word) in
        (f.0, set_else s.homes r k mathlib.Core.Option.none ne ∙ f.1, f.2);
    kept = λ k within taken_word.
        let m : length (set s.homes r mathlib.Core.Option.none) ≡ length s.homes =
        length-set s.homes r mathlib.Core.Option.none in
        let here : get_elem? (set s.views id ours) id ≡ some ours =
        set_here s.views id ours (in_range s.views id v at) in
        let ns : List ℕ = entered (part_of v.part).part.stand in
        dite (ℕ_discrete k r)
        (λ f. (
          ours,
          ap (λ z. get_elem? (set s.views id ours) (owner z)) f
              ∙ (ap (get_elem? (set s.views id ours)) owner-self ∙ here),
          vl,
          subst (λ z. Contains (content.resource.0 ∷ ns) z) (number ∙ sym f)
              (has-first content.resource.0 ns),
        ))
        (λ ne.
        let t = q.kept k (omega arith) (λ z. taken_word (word-other k ne ∙ z)) in
        dite (ℕ_discrete (q.owner k) id)
        (λ mine.
        let is : t.0 ≡ v = some-injective t.0 v (sym t.1 ∙ (ap (get_elem? s.views) mine ∙ at)) in
        let i : Contains (taken (holding v)) k =
        subst (λ (z : View). Contains (taken (holding z)) k) is t.3 in (
          ours,
          ap (get_elem? (set s.views id ours)) (owner-other k ne ∙ mine) ∙ here,
          vl,
          has-later content.resource.0 k ns (subst (λ z. Contains (with_hand z ns) k) empty i),
        ))
        (λ far. (
          t.0,
          ap (get_elem? (set s.views id ours)) (owner-other k ne)
              ∙ (set_else s.views id (q.owner k) ours far ∙ t.1),
          t.2,
          t.3,
        )));
    each = λ j u e ul. ⊎_elim
        (λ (x : (j ≡ id) × (ours ≡ u)). subst
        (λ (y : ℕ × View). Fits about q.contents owner words y.0 y.1) (λ i. (sym x.0 i, x.1 i)) own)
        (λ (x : (j ≢ id) × (get_elem? s.views j ≡ some u)). still j u x.1 ul)
        (at_set s.views id j ours u e);
    exactly = q.exactly;
    start = q.start;
    history = λ c began. subst
        (λ z. History (program_in about) (opening_parts about) c ms (untimed z) (present
        q.contents))
        (sym (parts-same s.views id v ours at refl)) (q.history c began);
    stamps = subst (λ z. Stamps (first_of about) ms z q.contents)
        (sym (parts-same s.views id v ours at refl)) q.stamps;
    grants = subst (Grants about ms) (sym (parts-same s.views id v ours at refl)) q.grants;
    limit = q.limit;
  }

abbrev pub freed_state : State Slot View → Content → ℕ → View → State Slot View
freed_state s k id w = record {
  words = set s.words (suc k.resource.0) 0;
  homes = set s.homes k.resource.0 (some (Some k));
  views = set s.views id w;
}

-- a word is freed, and the content in hand is at home
module _ (about : Begun) (s : State Slot View) (id : ℕ) (v w : View) (ms : List Mark)
    (q : Rule about ms s) (at : get_elem? s.views id ≡ some v) (vl : v.live ≡ true) (k : Content)
    (hand : v.hand ≡ Some k) (wl : w.live ≡ true) (wh : w.hand ≡ None) (wp : w.part ≡ v.part)
    (wk : w.kids ≡ v.kids) (wb : w.begun ≡ v.begun) where
  abbrev r : ℕ
  r = k.resource.0

  old-fits : Fits about q.contents q.owner s.words id v
  old-fits = q.each id v at vl

  abbrev ns' : View → List ℕ
  ns' u = entered (part_of u.part).part.stand

  has-r : Contains (taken (holding v)) r
  has-r = in-hand v.hand (ns' v) k hand

  abbrev freed : List ℕ
  freed = set s.words (suc r) 0

  freed-self : slice_index freed (suc r) ≡ 0
  freed-self = get_or-set_same s.words (suc r) 0 0
      (let a = q.wide in let b = q.even in let t = (old-fits.has r has-r).0 in omega arith)

  freed-other : (j : ℕ) → j ≢ r → slice_index freed (suc j) ≡ slice_index s.words (suc j)
  freed-other j ne = slot-else s.words (suc r) (suc j) 0 (λ e. ne (omega arith))

  still-has : (j n : ℕ) → n ≢ r
      → (n < length q.contents) × (slice_index s.words (suc n) ≢ 0) × (q.owner n ≡ j)
      → (n < length q.contents) × (slice_index freed (suc n) ≢ 0) × (q.owner n ≡ j)
  still-has j n ne t = (t.0, (λ z. t.1 (sym (freed-other n ne) ∙ z)), t.2)

  others-fit : (j : ℕ) (u : View) → j ≢ id → get_elem? s.views j ≡ some u → u.live ≡ true
      → Fits about q.contents q.owner freed j u
  others-fit j u ne e ul = let f = q.each j u e ul in record {
    begun = f.begun;
    in_hand = f.in_hand;
    has = λ n h. still-has j n (λ same. ne (sym (f.has n h).2
        ∙ (ap q.owner same ∙ (old-fits.has r has-r).2))) (f.has n h);
    inside = f.inside;
    tidy = f.tidy;
  }

  -- what the part is inside of isn't the content's
  away : (n : ℕ) → Contains (ns' v) n → n ≢ r
  away n h same = none-some k (sym (some-injective (Some k) None (sym (old-fits.in_hand k hand)
      ∙ (ap (get_elem? q.contents) (sym same) ∙ old-fits.inside n h))))

  part-is : part_of w.part ≡ part_of v.part
  part-is = ap part_of wp

  inner : (n : ℕ) → Contains (ns' w) n → Contains (ns' v) n
  inner n h = subst (λ (z : TimedPart). Contains (entered z.part.stand) n) part-is h

  own-fits : Fits about q.contents q.owner freed id w
  own-fits = record {
    begun = wb ∙ old-fits.begun;
    in_hand = λ c e. absurd (none-some c (sym wh ∙ e));
    has = λ n h.
        let i = inner n (subst (λ z. Contains (with_hand z (ns' w)) n) wh h) in
        still-has id n (away n i) (old-fits.has n (deeper v.hand (ns' v) n i));
    inside = λ n h. old-fits.inside n (inner n h);
    tidy = subst Rattle.sf_region.specs.Rule.IsTidy (sym part-is) old-fits.tidy;
  }

  groups-kept : parts_in (set s.views id w) ≡ parts_in s.views
  groups-kept = parts-same s.views id v w at (live-group w wl
      ∙ ((λ i. part_of (wp i) ∷ map part_of (wk i)) ∙ sym (live-group v vl)))

  pub frees : Rule about ms (freed_state s k id w)
  frees = record {
    contents = q.contents;
    owner = q.owner;
    wide =
        let a = q.wide in let l = length-set s.words (suc r) 0 in
        let m = length-set s.homes r (some (Some k)) in omega arith;
    even = q.even ∙ sym (length-set s.homes r (some (Some k)));
    rests = slot-else s.words (suc r) 0 0 (λ e. absurd (omega arith)) ∙ q.rests;
    free = λ n within zero_word. dite (ℕ_discrete n r)
        (λ same. (
          k,
          ap (get_elem? (set s.homes r (some (Some k)))) same ∙ set_here s.homes r (some (Some k))
              (let e = q.even in let t = (old-fits.has r has-r).0 in omega arith),
          ap (get_elem? q.contents) same ∙ old-fits.in_hand k hand,
        ))
        (λ ne.
        let m = length-set s.homes r (some (Some k)) in
        let f = q.free n (omega arith) (sym (freed-other n ne) ∙ zero_word) in
        (f.0, set_else s.homes r n (some (Some k)) ne ∙ f.1, f.2));
    kept = λ n within taken_word.
        let m = length-set s.homes r (some (Some k)) in
        let ne : n ≢ r = λ same. taken_word (ap (λ z. slice_index freed (suc z)) same ∙
        freed-self) in
        let t = q.kept n (omega arith) (λ z. taken_word (freed-other n ne ∙ z)) in
        dite (ℕ_discrete (q.owner n) id)
        (λ mine.
        let is : t.0 ≡ v = some-injective t.0 v (sym t.1 ∙ (ap (get_elem? s.views) mine ∙ at)) in
        let i : Contains (with_hand v.hand (ns' v)) n =
        subst (λ (z : View). Contains (taken (holding z)) n) is t.3 in
        let j : Contains (ns' v) n = ⊎_elim (λ e. absurd (ne (sym e))) (λ x. x)
        (has-cases r n (ns' v) (subst (λ z. Contains (with_hand z (ns' v)) n) hand i)) in (
          w,
          ap (get_elem? (set s.views id w)) mine ∙ set_here s.views id w (in_range s.views id v at),
          wl,
          deeper w.hand (ns' w) n
              (subst (λ (z : TimedPart). Contains (entered z.part.stand) n) (sym part-is) j),
        ))
        (λ far. (t.0, set_else s.views id (q.owner n) w far ∙ t.1, t.2, t.3));
    each = λ j u e ul. ⊎_elim
        (λ (x : (j ≡ id) × (w ≡ u)). subst
        (λ (y : ℕ × View). Fits about q.contents q.owner freed y.0 y.1) (λ i. (sym x.0 i, x.1 i))
        own-fits)
        (λ (x : (j ≢ id) × (get_elem? s.views j ≡ some u)). others-fit j u x.0 x.1 ul)
        (at_set s.views id j w u e);
    exactly = q.exactly;
    start = q.start;
    history = λ c began. subst
        (λ z. History (program_in about) (opening_parts about) c ms (untimed z) (present
        q.contents))
        (sym groups-kept) (q.history c began);
    stamps = subst (λ z. Stamps (first_of about) ms z q.contents) (sym groups-kept) q.stamps;
    grants = subst (Grants about ms) (sym groups-kept) q.grants;
    limit = q.limit;
  }

-- a place without a part comes
pub admits : (about : Begun) (ms : List Mark) (s : State Slot View) (w : View) → w.live ≡ false
    → Rule about ms s
    → Rule about ms (record { words = s.words; homes = s.homes; views = s.views ++ w ∷ [] })
admits about ms s w off q =
    let same : parts_in (s.views ++ w ∷ []) ≡ parts_in s.views =
    flat_map-append group_of s.views (w ∷ [])
    ∙ (ap (λ z. parts_in s.views ++ (live_group z (group (holding w)) ++ [])) off
    ∙ append-nil (parts_in s.views)) in
    record {
      contents = q.contents;
      owner = q.owner;
      wide = q.wide;
      even = q.even;
      rests = q.rests;
      free = q.free;
      kept = λ r less ne.
          let t = q.kept r less ne in (
            t.0,
            at_longer s.views (w ∷ []) (q.owner r) t.0 t.1,
            t.2,
            t.3,
          );
      each = λ j u e ul. ⊎_elim (λ (old : get_elem? s.views j ≡ some u). q.each j u old ul)
          (λ (new : w ≡ u). absurd (true≢false (sym ul ∙ ap (λ (z : View). z.live) (sym new) ∙
          off)))
          (at_snoc s.views w u j e);
      exactly = q.exactly;
      start = q.start;
      history = λ c began. subst
          (λ z. History (program_in about) (opening_parts about) c ms (untimed z) (present
          q.contents))
          (sym same) (q.history c began);
      stamps = subst (λ z. Stamps (first_of about) ms z q.contents) (sym same) q.stamps;
      grants = subst (Grants about ms) (sym same) q.grants;
      limit = q.limit;
    }

-- A table begins
todo-outside : (p : Rattle.sf_core.specs.Program.Syntax.Program)
    (todo : List Rattle.sf_core.specs.Machine.Config.Item)
    → ((r : ResId) → Rattle.sf_part.specs.Of.times_left r todo ≡ 0)
    → Rattle.sf_part.specs.Of.inside todo ≡ []
todo-outside p [] h = refl
todo-outside p (Rattle.sf_core.specs.Machine.Config.command c ∷ todo) h = todo-outside p todo h
todo-outside p (Rattle.sf_core.specs.Machine.Config.leave q ∷ todo) h =
    let x = h q in
    let y : one_if (q.0 == q.0) ≡ 1 = ap one_if (eq-eqb q.0 q.0 refl) in
    absurd (omega arith)

-- a part of the program that holds nothing is inside of no region
outside : (p : Rattle.sf_core.specs.Program.Syntax.Program)
    (frames : List Rattle.sf_core.specs.Machine.Config.Frame)
    → ((r : ResId) → Rattle.sf_part.specs.Of.times_held p r frames ≡ 0)
    → Rattle.sf_region.specs.Holdings.inside_of frames ≡ []
outside p [] h = refl
outside p (f ∷ frames) h =
    let a = todo-outside p f.todo (λ r. let x = h r in omega arith) in
    let b = outside p frames (λ r. let x = h r in omega arith) in
    λ i. map (λ (r : ResId). r.0) (a i) ++ b i

present-all : (contents : List Content)
    → present (map Some contents) ≡ Rattle.sf_region.specs.Waits.contents_in contents
present-all [] = refl
present-all (k ∷ contents) =
    ap (λ z. (Rattle.sf_part.specs.Contents.content_of k).content ∷ z) (present-all contents)

some-at : (contents : List Content) (r : ℕ) (k : Content)
    → get_elem? (map Some contents) r ≡ some (Some k) → get_elem? contents r ≡ some k
some-at [] r k e = absurd (some-ne-none (Some k) (sym e))
some-at (x ∷ contents) zero k e = ap some (same_Some x k (some-injective (Some x) (Some k) e))
some-at (x ∷ contents) (suc r) k e = some-at contents r k e

there-at : {A : Type 0} (l : List A) (r : ℕ) → r < length l → (a : A) × (get_elem? l r ≡ some a)
there-at [] r less = absurd (omega arith)
there-at (x ∷ l) zero less = (x, refl)
there-at (x ∷ l) (suc r) less = there-at l r (omega arith)

length-mapped : {A B : Type 0} (f : A → B) (l : List A) → length (map f l) ≡ length l
length-mapped f [] = refl
length-mapped f (x ∷ l) = ap suc (length-mapped f l)

only : (a q : TimedPart) → Contains (a ∷ []) q → a ≡ q
only a q h = ⊎_elim (λ e. e) (λ k. absurd (has-none q k)) (has-cases a q [] h)

first-stamps : (a : TimedPart) (contents : List (Option Content))
    → (IsWaiting a.part.stand → numbers a.part.supply ≡ [])
    → ((r : ℕ) (k : Content) → get_elem? contents r ≡ some (Some k) → k.stamp ≤ a.clock)
    → Stamps a [] (a ∷ []) contents
first-stamps a contents waits early = record {
  logs = λ k weigh.
      let x = sum_by-cons (λ (q : TimedPart). Rattle.std.specs.List.sum_by weigh q.log) a [] in
      omega arith;
  late = λ m h. absurd (has-none m h);
  rising = tt;
  clocks = λ q h. let e : a.clock ≡ q.clock = ap (λ (z : TimedPart). z.clock) (only a q h) in
      omega arith;
  stamps = λ r k e. let x = early r k e in omega arith;
  supply = let x = sum_by-cons Rattle.sf_region.specs.Stamps.units_of a [] in omega arith;
  idle = λ q h w. subst (λ (z : TimedPart). IsWaiting z.part.stand → numbers z.part.supply ≡ [])
      (only a q h) waits w;
  reign = λ path. 0;
  ruled = λ m h. absurd (has-none m h);
  over = λ q h. omega arith;
  gone = λ path child c none. omega arith;
  elders = λ path q h c. omega arith;
  old = λ q h. let e : a.clock ≡ q.clock = ap (λ (z : TimedPart). z.clock) (only a q h) in omega
      arith;
  free = λ m r k h. absurd (has-none m h);
  held = λ m r q h. absurd (has-none m h);
  keeps = λ q h. ap (λ (z : TimedPart). z.keeps) (sym (only a q h));
}

-- a part with which a table begins is inside of no region
pub enters-none : (about : Begun) → MayBegin about → entered (first_of about).part.stand ≡ []
enters-none about may = outside (program_in about)
    (Rattle.sf_part.specs.Of.frames_in (first_of about).part.stand)
    (λ r. may.of.is.inside r ∙ ap one_if (may.idle r))

pub begins : (about : Begun) (ws : List ℕ) (slots : List Slot) → MayBegin about
    → (first_of about).clock + Rattle.sf_region.specs.Stamps.units_of (first_of about)
    ≤ Rattle.sf_base.specs.declared.limits.TheConstants.STEPS
    → slots ≡ map Some about.contents → length ws ≡ suc (length about.contents)
    → ((i : ℕ) → slice_index ws i ≡ 0)
    → Rule about [] (opening ws slots (opening_view about))
begins about ws slots may limit full long zeros =
    subst (λ z. Rule about [] (opening ws z (opening_view about))) (sym full) record {
      contents = map Some about.contents;
      owner = λ r. 0;
      wide = long ∙ sym (ap suc even);
      even = length-mapped Some about.contents ∙ sym even;
      rests = zeros 0;
      free = λ r less z.
          let e = even in
          let y = there-at about.contents r (omega arith) in (
            y.0,
            at_map some (map Some about.contents) r (Some y.0)
                (at_map Some about.contents r y.0 y.1),
            at_map Some about.contents r y.0 y.1,
          );
      kept = λ r less ne. absurd (ne (zeros (suc r)));
      each = one;
      exactly = λ r k e. may.exactly r k (some-at about.contents r k e);
      start = may.whole;
      history = λ c began. Rattle.sf_region.proofs.Runs.history-none (program_in about) c
          (opening_parts about) (present (map Some about.contents))
          (subst (λ z. Rattle.sf_core.specs.Machine.Whole.Whole (opening_parts about) z c)
          (sym (present-all about.contents)) began);
      stamps = first-stamps (first_of about) (map Some about.contents) about.part.kept.waiting
          (λ r k e. may.early r k (some-at about.contents r k e));
      grants = granted-first about;
      limit = limit;
    }
  where
    even : length (map some (map Some about.contents)) ≡ length about.contents
    even = length-mapped some (map Some about.contents) ∙ length-mapped Some about.contents

    none-entered : entered (first_of about).part.stand ≡ []
    none-entered = enters-none about may

    one : (id : ℕ) (v : View) → get_elem? (opening_view about ∷ []) id ≡ some v → v.live ≡ true
        → Fits about (map Some about.contents) (λ r. 0) ws id v
    one zero v e live = subst
        (λ (z : View). Fits about (map Some about.contents) (λ r. 0) ws 0 z)
        (some-injective (opening_view about) v e) record {
          begun = refl;
          in_hand = λ k h. absurd (none-some k h);
          has = λ r h. absurd (has-none r (subst (λ z. Contains z r) none-entered h));
          inside = λ r h. absurd (has-none r (subst (λ z. Contains z r) none-entered h));
          tidy = λ r.
              let x : times r.0 (entered (first_of about).part.stand) ≡ times r.0 [] =
              ap (times r.0) none-entered in omega arith;
        }
    one (suc id) v e live = absurd (some-ne-none v (sym e))
