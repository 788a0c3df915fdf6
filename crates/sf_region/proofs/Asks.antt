-- What each step on a word asks: that the rule holds after it, and what its caller is told.
-- Names: `KIND-at` of that kind of step, `KIND-seat` of a seat.
use Rattle.std.specs.Prelude.{◌≡◌, ◌≢◌, ◌+◌, ◌<◌, ◌≤◌, ℕ, zero, suc, max, Bool, true, false, List, [], ◌∷◌, ◌++◌, map, length, slice_index, Some, None}
use Rattle.std.proofs.Common.{set, sym, ap, ◌∙◌, refl, subst, ⊎_elim, arith, true≢false, set-set, eq-eqb, ne_eqb, eqb}
use Rattle.std.proofs.lemmas.List.{map-append}
use Rattle.std.proofs.lemmas.Option.{none-some, same_Some}
use mathlib.Core.Logic.{dite}
use mathlib.Core.Option.{none, some, some-injective, some-ne-none}
use native.Mathlib.Decide.{ℕ_discrete}
use lib.ListN.{get_elem?}
use prog.Atomic.{either}
use Rattle.atomic_table.proofs.Lists.{at_snoc, set_again, set_else, set_here}
use Rattle.atomic_table.specs.Table.{State, Me, takes, keeps, gives, step, Allows, Enters, Joins, Splits, put_back, opening}
use Rattle.sf_base.specs.declared.ids.ResId.{ResId}
use Rattle.sf_base.specs.declared.path.Turn.TheVariants.{Left as left_turn, Right as right_turn}
use Rattle.sf_base.specs.declared.limits.TheConstants.{STEPS}
use Rattle.sf_core.specs.Machine.Config.{Config}
use Rattle.sf_core.specs.Machine.SpentWaits.{MayMiss}
use Rattle.sf_core.specs.Machine.Whole.{Whole, numbers}
use Rattle.sf_part.specs.Checked.LawsOfWhole.{ChildrenAreApart, ContentsAreApart}
use Rattle.sf_part.specs.declared.content.Content.{Content}
use Rattle.sf_part.specs.declared.part.Part.{Part}
use Rattle.sf_part.specs.Contents.{content_of}
use Rattle.sf_part.specs.Entry.{AreApart}
use Rattle.sf_part.specs.Guards.{IsAtRegion}
use Rattle.sf_part.specs.PartView.{part_of}
use Rattle.sf_part.specs.Steps.{IsChild}
use Rattle.sf_part.specs.Timed.{TimedPart}
use Rattle.sf_region.specs.Checked.PartLaws.{PartLaws}
use Rattle.sf_region.proofs.Keeps.{admits, begins, frees, freed_state, parts-at, settles, taken_state, viewed, wins}
use Rattle.sf_region.proofs.Children.{second-three, sum-three, third-three}
use Rattle.sf_region.proofs.Seats.{joins, splits}
use Rattle.sf_region.proofs.Lists.{cut, has-middle, in_range, present-append, sum-focus}
use Rattle.sf_region.proofs.Waits.{Hands, NotTrue, ReadsThere, advance-push, advance-tasks, each-set, all-hands, all-wait, empty-hand, false-missed, focused, knows, left-waits, lost-waits, moved-waits, no-event, places-none, taken-missed, won-waits}
use Rattle.sf_region.specs.declared.views.Begun.{Begun}
use Rattle.sf_region.specs.declared.views.View.{View}
use Rattle.sf_region.proofs.Seeing.{reads-false, reads-there}
use Rattle.sf_region.specs.Calls.{IsNear, MaySplit}
use Rattle.sf_region.specs.Checked.PutBack.{IsPutBack}
use Rattle.sf_region.specs.Checked.Spent.{spent_view}
use Rattle.sf_region.specs.Holdings.{Holding, Advance, entered}
use Rattle.sf_region.specs.Marks.{forking, Mark, Arrives, History}
use Rattle.sf_region.specs.Plays.{aimed, seen, AreSeparate, Known, IsFor, Lives, buries, child, dead, first_kid, giving, joined, leaves, left, looks, lost, moved, notes, other_kids, parent, tries, with_kids, won}
use Rattle.sf_region.specs.Rule.{Slot, holding, untimed, parts_in, present, Rule, CanTry, Waits, Law, MayBegin, opening_view, newcomer}
use Rattle.sf_region.specs.Stamps.{Stamps, units_of}
use Rattle.sf_region.specs.Waits.{BeganAt, first_of, opening_parts, program_in}

pub same-word : (ws : List ℕ) (i : ℕ) → i < length ws → set ws i (slice_index ws i) ≡ ws
same-word [] i less = refl
same-word (w ∷ ws) zero less = refl
same-word (w ∷ ws) (suc i) less = ap (λ z. w ∷ z) (same-word ws i (omega arith))

-- a load of word 0 by a seat that goes on as it is keeps the rule: what it tells is shown of where it holds
pub loads : (about : Begun) (slots id : ℕ) (me : Me Slot View) (tells : ℕ → Me Slot View → Type 0)
    → ((s : State Slot View) → Law about s → get_elem? s.views id ≡ some me.0
    → tells (slice_index s.words 0) me)
    → Allows (Law about) slots id me 0 (λ n. n) tells
loads about slots id me tells told s law wide at small = (
  me.0,
  keeps,
  tt,
  subst (λ (st : State Slot View). Law about st) (λ i. record {
    words = sym (same-word s.words 0 (let z = law.rule.wide in omega arith)) i;
    homes = s.homes;
    views = sym (set_again s.views id me.0 at) i;
  }) law,
  told s law at,
)

-- What the rule says of one seat
module _ (laws : PartLaws) (about : Begun) (marks : List Mark) (s : State Slot View) (q : Rule about marks s) (id : ℕ)
    (v : View) (at : get_elem? s.views id ≡ some v) (live : v.live ≡ true) where
  abbrev mine : TimedPart
  mine = part_of v.part

  parts-are : parts_in s.views ≡ parts_in (cut s.views id v at).before
      ++ mine ∷ ((holding v).kids ++ parts_in (cut s.views id v at).after)
  parts-are = parts-at s.views id v (cut s.views id v at) live

  pub lives : Lives v.begun mine q.contents
  lives = subst (λ (z : Begun). Lives z mine q.contents) (sym (q.each id v at live).begun) record {
    marks = marks;
    before = parts_in (cut s.views id v at).before;
    after = (holding v).kids ++ parts_in (cut s.views id v at).after;
    history = λ c began. subst (λ z. History (program_in about) (opening_parts about) c marks
        (untimed z) (present q.contents)) parts-are (q.history c began);
    stamps = subst (λ z. Stamps (first_of about) marks z q.contents) parts-are q.stamps;
  }

  pub room-for : (r : ℕ) (k : Content) → get_elem? q.contents r ≡ some (Some k)
      → max mine.clock k.stamp + units_of mine ≤ STEPS
  room-for r k e =
      let before = parts_in (cut s.views id v at).before in
      let after = (holding v).kids ++ parts_in (cut s.views id v at).after in
      let st = subst (λ z. Stamps (first_of about) marks z q.contents) parts-are q.stamps in
      let a = st.clocks mine (has-middle before after mine) in
      let b = st.stamps r k e in
      let c = st.supply in
      let d = sum-focus units_of before after mine in
      let f = q.limit in omega arith

  pub apart-from : (r : ℕ) (k : Content) → get_elem? q.contents r ≡ some (Some k)
      → AreApart mine.part (content_of k).content
  unfolding ContentsAreApart
  apart-from r k e =
      let h = q.history q.start.0 q.start.1 in
      let c = cut q.contents r (Some k) e in
      let before = untimed (parts_in (cut s.views id v at).before) in
      let after = untimed ((holding v).kids ++ parts_in (cut s.views id v at).after) in
      let w = subst (λ z. Whole (before ++ mine.part ∷ after) z h.config)
      (ap present c.is ∙ present-append c.before (Some k ∷ c.after))
      (focused laws s.views (present q.contents) h.config h.whole id v at live) in
      let x = laws.contents before after mine.part (present c.before) (present c.after)
      (content_of k).content h.config w in
      record { heap = x.0.1.heap.apart; store = x.0.1.store.apart; units = x.1 }

-- a try at a resource: the word was free, and is taken from then on, or it was found taken
pub tries-word : PartLaws → (about : Begun) (slots id : ℕ) (me : Me Slot View) (a : Part) (r : ResId)
    (more : List Mark)
    → r.0 < slots → me.0.live ≡ true → IsAtRegion (part_of a).part r
    → (part_of a).part.holds r ≡ false → numbers (part_of a).part.supply ≢ []
    → Advance (program_in about) (holding me.0) more (holding (moved a [] me.0))
    → Allows (Law about) slots id me (suc r.0) (λ n. either (eqb n 0) 1 n)
    (tries a (step slots (suc r.0) 0 1 none) me)
tries-word laws b slots id me a r more less live stands idle unit adv s law wide at small =
    let v : View = me.0 in
    let mv : View = moved a [] v in
    let x : ℕ = slice_index s.words (suc r.0) in
    let ms : List Mark = law.marks ++ more in
    let q : Rule b ms (viewed s id mv) =
    settles laws b s id v mv more law.marks law.rule at live live refl adv in
    let here : get_elem? (set s.views id mv) id ≡ some mv =
    set_here s.views id mv (in_range s.views id v at) in
    let own = advance-tasks (program_in b) (holding v) (holding mv) more adv in
    let waited : Waits b law.marks v = law.waits id v at live in
    dite (ℕ_discrete x 0)
    (λ hit.
    let f = q.free r.0 (omega arith) hit in
    let k : Content = f.0 in
    let w : View = won k mv in
    let exact = q.exactly r.0 k f.2 in
    let is : k.resource ≡ r = λ i. record { 0 = exact.number i } in
    let won-it : Rule b ms (taken_state (viewed s id mv) r.0 id w) =
    wins b (viewed s id mv) id mv ms q here live refl r.0 (omega arith) hit in
    let now : State Slot View = record {
      words = set s.words (suc r.0) (either (eqb x 0) 1 x);
      homes = set s.homes r.0 none;
      views = set s.views id w;
    } in
    let at-k : CanTry (part_of a).part k.resource =
    subst (λ z. CanTry (part_of a).part z) (sym is) (stands, unit) in
    let hands : Hands w = λ l y e.
    let same : k ≡ y = same_Some k y e in (
      subst (λ (z : Content). CanTry (part_of a).part z.resource) same at-k,
      ap (λ (z : Content). z.resource) same,
    ) in
    let lawful : Law b now = record {
      marks = ms;
      rule = subst (λ (st : State Slot View). Rule b ms st) (λ i. record {
        words = set s.words (suc r.0) (either (sym (eq-eqb x 0 hit) i) 1 x);
        homes = set s.homes r.0 none;
        views = set-set s.views id mv w i;
      }) won-it;
      hands = λ j u y e l h. all-hands laws b s law id v at live more own w hands j u e l y h;
      waits = all-wait laws b s law id v at live more own w
          (λ _. won-waits b law.marks v a more waited k adv at-k);
    } in
    let known : Known w =
    knows b now lawful id w (set_here s.views id w (in_range s.views id v at)) live in
    let there = lives laws b ms (viewed s id mv) q id mv here live in (
      w,
      takes r.0 (Some k),
      f.1,
      lawful,
      λ p e.
          let same : r ≡ p = λ i. record {
            0 = (let z : r.0 ≡ p.0 = (omega arith) in z) i;
          } in (
            (λ _. (
              k,
              ap (λ (z : ResId). (w, (z.0, Some k) ∷ me.1)) same,
              subst (λ (z : ResId). IsFor v.begun (part_of a) z k) same record {
                resource = is;
                exactly = subst (λ (z : Begun).
                    Rattle.sf_region.specs.Rule.IsExactly (program_in z) r.0 k) (sym
                    (law.rule.each id v at live).begun) exact;
                apart = apart-from laws b ms (viewed s id mv) q id mv here live r.0 k f.2;
                room = room-for laws b ms (viewed s id mv) q id mv here live r.0 k f.2;
                there = (q.contents, there, ap (get_elem? q.contents) exact.number ∙ f.2);
              },
              known,
            )),
            (λ no. absurd (no hit)),
          ),
    ))
    (λ miss.
    let w : View = lost r mv in
    let lost-it : Rule b ms (viewed s id w) =
    settles laws b s id v w more law.marks law.rule at live live refl adv in
    let now : State Slot View = record {
      words = set s.words (suc r.0) (either (eqb x 0) 1 x);
      homes = s.homes;
      views = set s.views id w;
    } in
    let missed : (c : Config) → BeganAt b c
    → (y : Arrives (program_in b) (opening_parts b) c ms)
    × MayMiss y.config (part_of a).part.task r =
    taken-missed laws b ms (viewed s id mv) q
    (λ j u e. all-hands laws b s law id v at live more own mv (empty-hand mv refl) j u e)
    id mv here live r stands refl idle (omega arith) miss in
    let lawful : Law b now = record {
      marks = ms;
      rule = subst (λ (ws : List ℕ). Rule b ms
          (record { words = ws; homes = s.homes; views = set s.views id w }))
          (sym (ap (λ (t : Bool). set s.words (suc r.0) (either t 1 x)) (ne_eqb x 0 miss)
          ∙ same-word s.words (suc r.0) (let a = law.rule.wide in omega arith))) lost-it;
      hands = λ j u y e l h. all-hands laws b s law id v at live more own w (empty-hand w refl) j u e l
          y h;
      waits = all-wait laws b s law id v at live more own w
          (λ _. lost-waits b law.marks v a more waited r adv (stands, unit) missed);
    } in
    let known : Known w =
    knows b now lawful id w (set_here s.views id w (in_range s.views id v at)) live in (
      w,
      keeps,
      tt,
      lawful,
      λ p e.
          let same : r ≡ p = λ i. record {
            0 = (let z : r.0 ≡ p.0 = (omega arith) in z) i;
          } in (
            (λ hit. absurd (miss hit)),
            (λ _. (
              ap (λ (z : ResId). (lost z mv, me.1)) same,
              (q.contents, lives laws b ms (viewed s id mv) q id mv here live),
              subst (λ (z : ResId). Known (lost z mv)) same known,
            )),
          ),
    ))

-- a content was put back, and its word is freed
pub leaves-word : PartLaws → (about : Begun) (slots id : ℕ) (me : Me Slot View) (a : Part) (k : Content)
    (rs : List (ℕ × Slot)) (more : List Mark)
    → me.0.live ≡ true → me.1 ≡ (k.resource.0, Some k) ∷ rs
    → Advance (program_in about) (holding me.0) more (holding (giving k a me.0))
    → (a.clock ≡ me.0.part.clock
    → ReadsThere (part_of a).part k × NotTrue (part_of a).part k)
    → Allows (Law about) slots id me (suc k.resource.0) (λ _. 0) (λ _ n. leaves a me n)
leaves-word laws b slots id me a k rs more live deep adv refused s law wide at small =
    let v : View = me.0 in
    let mv : View = giving k a v in
    let w : View = left a v in
    let r : ℕ = k.resource.0 in
    let ms : List Mark = law.marks ++ more in
    let q : Rule b ms (viewed s id mv) =
    settles laws b s id v mv more law.marks law.rule at live live refl adv in
    let here : get_elem? (set s.views id mv) id ≡ some mv =
    set_here s.views id mv (in_range s.views id v at) in
    let freed : Rule b ms (freed_state (viewed s id mv) k id w) =
    frees b (viewed s id mv) id mv w ms q here live k refl live refl refl refl refl in
    let own = advance-tasks (program_in b) (holding v) (holding mv) more adv in
    let now : State Slot View = record {
      words = set s.words (suc r) 0;
      homes = put_back s.homes me.1;
      views = set s.views id w;
    } in
    let same : a.clock ≡ v.part.clock → (v.missed ≡ k.resource)
    × CanTry (part_of a).part k.resource
    × ((c : Config) → BeganAt b c → (y : Arrives (program_in b) (opening_parts b) c ms)
    × MayMiss y.config (part_of a).part.task k.resource) = λ clock.
    let still = (no-event (program_in b) (holding v) (holding mv) more adv clock).1 in
    let stood = law.hands id v k at live (ap (λ (z : Holding). z.hand) (sym still)) in
    let stands : CanTry (part_of a).part k.resource =
    subst (λ (z : TimedPart). CanTry z.part k.resource)
    (ap (λ (z : Holding). z.part) (sym still)) stood.0 in
    let hands-mv : Hands mv = λ l y e.
    let f : k ≡ y = same_Some k y e in (
      subst (λ (z : Content). CanTry (part_of a).part z.resource) f stands,
      stood.1 ∙ ap (λ (z : Content). z.resource) f,
    ) in (
      stood.1,
      stands,
      false-missed laws b ms (viewed s id mv) q
          (λ j u e. all-hands laws b s law id v at live more own mv hands-mv j u e)
          id mv here live k.resource stands.0 k refl refl (refused clock).0 (refused clock).1,
    ) in
    let lawful : Law b now = record {
      marks = ms;
      rule = subst (λ (st : State Slot View). Rule b ms st) (λ i. record {
        words = set s.words (suc r) 0;
        homes = put_back s.homes (sym deep i);
        views = set-set s.views id mv w i;
      }) freed;
      hands = λ j u y e l h. all-hands laws b s law id v at live more own w (empty-hand w refl) j u e l
          y h;
      waits = all-wait laws b s law id v at live more own w
          (λ _. left-waits b law.marks v a more (law.waits id v at live) k adv same);
    } in (
      w,
      gives,
      tt,
      lawful,
      (
        refl,
        (
          Rule.contents freed,
          lives laws b ms (freed_state (viewed s id mv) k id w) freed id w
              (set_here (set s.views id mv) id w (in_range (set s.views id mv) id mv here)) live,
        ),
        knows b now lawful id w (set_here s.views id w (in_range s.views id v at)) live,
      ),
    )

-- a load of word 0, at which the part as it now is comes into the view
pub notes-word : PartLaws → (about : Begun) (slots id : ℕ) (me : Me Slot View) (a : Part) (kids : List Part)
    (more : List Mark) → me.0.live ≡ true
    → Advance (program_in about) (holding me.0) more (holding (moved a kids me.0))
    → Allows (Law about) slots id me 0 (λ n. n) (λ _ n. notes a kids me n)
notes-word laws b slots id me a kids more live adv s law wide at small =
    let v : View = me.0 in
    let w : View = moved a kids v in
    let ms : List Mark = law.marks ++ more in
    let q : Rule b ms (viewed s id w) =
    settles laws b s id v w more law.marks law.rule at live live refl adv in
    let own = advance-tasks (program_in b) (holding v) (holding w) more adv in
    let here = set_here s.views id w (in_range s.views id v at) in
    let now : State Slot View = record {
      words = set s.words 0 (slice_index s.words 0);
      homes = s.homes;
      views = set s.views id w;
    } in
    let lawful : Law b now = record {
      marks = ms;
      rule = subst (λ (ws : List ℕ). Rule b ms
          (record { words = ws; homes = s.homes; views = set s.views id w }))
          (sym (same-word s.words 0 (let z = law.rule.wide in omega arith))) q;
      hands = λ j u y e l h. all-hands laws b s law id v at live more own w (empty-hand w refl) j u e l
          y h;
      waits = all-wait laws b s law id v at live more own w
          (λ _. moved-waits b law.marks v a more (law.waits id v at live) kids adv);
    } in (
      w,
      keeps,
      tt,
      lawful,
      (
        refl,
        (q.contents, lives laws b ms (viewed s id w) q id w here live),
        knows b now lawful id w
            here live,
      ),
    )

-- a load of word 0, at which a seat learns that the parts in its view have nothing in common
module _ (laws : PartLaws) (about : Begun) (marks : List Mark) (s : State Slot View) (q : Rule about marks s) (id : ℕ)
    (v : View) (at : get_elem? s.views id ≡ some v) (live : v.live ≡ true) (one two : Part)
    (kids : v.kids ≡ one ∷ two ∷ []) where
  abbrev pub three-parts : List TimedPart
  three-parts = parts_in (cut s.views id v at).before
      ++ part_of v.part ∷ part_of one ∷ part_of two ∷ parts_in (cut s.views id v at).after

  pub three-are : parts_in s.views ≡ three-parts
  three-are = parts-at s.views id v (cut s.views id v at) live
      ∙ ap (λ (z : List Part). parts_in (cut s.views id v at).before
      ++ part_of v.part ∷ (map part_of z ++ parts_in (cut s.views id v at).after)) kids

  pub separate : IsChild (part_of v.part).part left_turn (part_of one).part
      → IsChild (part_of v.part).part right_turn (part_of two).part
      → AreSeparate (part_of v.part) (part_of one) (part_of two)
  unfolding ChildrenAreApart
  separate l r =
      let front = parts_in (cut s.views id v at).before in
      let back = parts_in (cut s.views id v at).after in
      let h = q.history q.start.0 q.start.1 in
      let w : Whole (untimed front ++ (part_of v.part).part ∷ (part_of one).part
      ∷ (part_of two).part ∷ untimed back) (present q.contents) h.config =
      subst (λ z. Whole z (present q.contents) h.config)
      (ap untimed three-are ∙ map-append (λ (a : TimedPart). a.part) front
      (part_of v.part ∷ part_of one ∷ part_of two ∷ back)) h.whole in
      let (all, children, units, unmade) = laws.children (untimed front) (untimed back)
      (part_of v.part).part (part_of one).part (part_of two).part (present q.contents) h.config w
      l r in
      let st = subst (λ z. Stamps (first_of about) marks z q.contents) three-are q.stamps in
      let own = has-middle front (part_of one ∷ part_of two ∷ back) (part_of v.part) in
      let second = second-three front back (part_of v.part) (part_of one) (part_of two) in
      let third = third-three front back (part_of v.part) (part_of one) (part_of two) in record {
        all = all;
        children = children;
        units = units;
        unmade = unmade;
        left_keeps = st.keeps (part_of one) second ∙ sym (st.keeps (part_of v.part) own);
        right_keeps = st.keeps (part_of two) third ∙ sym (st.keeps (part_of v.part) own);
        time =
            let a = st.clocks (part_of v.part) own in
            let b = st.clocks (part_of one) second in
            let c = st.clocks (part_of two) third in
            let d = st.supply in
            let e = sum-three front back (part_of v.part) (part_of one) (part_of two) units_of in
            let f = q.limit in omega arith;
      }

pub looks-word : PartLaws → (about : Begun) (slots id : ℕ) (me : Me Slot View) → me.0.live ≡ true
    → Allows (Law about) slots id me 0 (λ n. n) (λ _ n. looks me n)
looks-word laws b slots id me live = loads b slots id me (λ _ n. looks me n) (λ s law at. (
  refl,
  λ one two kids l r. separate laws b law.marks s law.rule id me.0 at live one two kids l r,
))

-- the seat of the first child is split off
pub splits-seat : PartLaws → (about : Begun) (id : ℕ) (v : View) (k : Part) (ks : List Part)
    → v.live ≡ true → v.kids ≡ k ∷ ks → entered (part_of k).part.stand ≡ []
    → Splits (Law about) id v (parent v) (child v)
splits-seat laws b id v k ks live kids out s law at =
    let w : View = with_kids ks v in
    let u : View = newcomer k v.begun in
    subst (λ (z : View × View). Law b (record {
      words = s.words;
      homes = s.homes;
      views = set s.views id z.0 ++ z.1 ∷ [];
    }))
    (λ i. (
      with_kids (other_kids (sym kids i)) v,
      newcomer (first_kid v.part (sym kids i)) v.begun,
    ))
    (record {
      marks = law.marks;
      rule = splits laws b law.marks s id v k ks law.rule at live kids out;
      hands = λ j x c e l h. ⊎_elim
          (λ old. each-set Hands s.views id w (λ l c h. law.hands id v c at l h)
          (λ j x ne e l c h. law.hands j x c e l h) j x old l c h)
          (λ (new : u ≡ x). subst Hands new (empty-hand u refl) l c h)
          (at_snoc (set s.views id w) u x j e);
      waits = λ j x e l. ⊎_elim
          (λ old. each-set (λ (z : View). z.live ≡ true → Waits b law.marks z) s.views id w
          (λ l. let k = law.waits id v at l in record { places = k.places; stood = k.stood })
          (λ j x ne e l. law.waits j x e l) j x old l)
          (λ (new : u ≡ x). subst (λ (z : View). Waits b law.marks z) new (record {
            places = places-none b law.marks (part_of u.part).part.task u.missed;
            stood = λ h. absurd (omega arith);
          }))
          (at_snoc (set s.views id w) u x j e);
    })

-- the seat of a task that has ended is joined to another
pub joins-seat : PartLaws → (about : Begun) (id : ℕ) (v : View) (other : ℕ) (u : View) → v.live ≡ true
    → u.live ≡ true → u.kids ≡ [] → u.hand ≡ None → entered (part_of u.part).part.stand ≡ []
    → Joins (Law about) id v other u (joined v u) spent_view
joins-seat laws b id v other u live lives kids hand out s law at apart there =
    let w : View = joined v u in
    let old : get_elem? s.views other ≡ some u =
    sym (set_else s.views id other w apart) ∙ there in record {
      marks = law.marks;
      rule = joins laws b law.marks s id other v u spent_view law.rule at live apart old lives kids hand
          out refl;
      hands = λ j x c e l h. each-set Hands (set s.views id w) other spent_view
          (λ l. absurd (true≢false (sym l)))
          (λ j x ne e. each-set Hands s.views id w (λ l c h. law.hands id v c at l h)
          (λ j x ne e l c h. law.hands j x c e l h) j x e) j x e l c h;
      waits = λ j x e l. each-set (λ (z : View). z.live ≡ true → Waits b law.marks z)
          (set s.views id w) other spent_view (λ l. absurd (true≢false (sym l)))
          (λ j x ne e. each-set (λ (z : View). z.live ≡ true → Waits b law.marks z) s.views id w
          (λ l. let k = law.waits id v at l in record { places = k.places; stood = k.stood })
          (λ j x ne e l. law.waits j x e l) j x e) j x e l;
    }

-- a place with no part comes
pub buries-word : (about : Begun) (slots : ℕ) (v : View)
    → Enters (Law about) slots 0 (λ n w. buries v (w, []))
buries-word b slots v s law wide small = (
  dead v,
  record {
    marks = law.marks;
    rule = admits b law.marks s (dead v) refl law.rule;
    hands = λ j u k e live h. ⊎_elim (λ old. law.hands j u k old live h)
        (λ (new : dead v ≡ u). absurd (true≢false (sym live ∙ ap (λ (z : View). z.live) (sym new))))
        (at_snoc s.views (dead v) u j e);
    waits = λ j u e live. ⊎_elim (λ old. law.waits j u old live)
        (λ (new : dead v ≡ u). absurd (true≢false (sym live ∙ ap (λ (z : View). z.live) (sym new))))
        (at_snoc s.views (dead v) u j e);
  },
  refl,
)

-- a table with all words free and all contents at home
pub opens : (about : Begun) (ws : List ℕ) (slots : List Slot) → MayBegin about
    → (first_of about).clock + units_of (first_of about) ≤ STEPS
    → slots ≡ map Some about.contents → length ws ≡ suc (length about.contents)
    → ((i : ℕ) → slice_index ws i ≡ 0) → Law about (opening ws slots (opening_view about))
opens b ws slots may limit full long zeros = record {
  marks = [];
  rule = begins b ws slots may limit full long zeros;
  hands = λ j u k e live h. absurd (none-some k
      (ap (λ (z : View). z.hand) (one-view j u e) ∙ h));
  waits = λ j u e live. subst (λ (z : View). Waits b [] z) (one-view j u e) record {
    places = places-none b [] (part_of b.part).part.task (record { 0 = 0 });
    stood = λ h. absurd (omega arith);
  };
}
  where
    one-view : (j : ℕ) (u : View) → get_elem? (opening_view b ∷ []) j ≡ some u → opening_view b ≡ u
    one-view zero u e = some-injective (opening_view b) u e
    one-view (suc j) u e = absurd (some-ne-none u (sym e))

-- The same for the part that the call names
pub tries-at : PartLaws → (about : Begun) (slots id : ℕ) (me : Me Slot View) (a : Part) (parts : List Part)
    (r : ResId) (k : ℕ) → k ≡ suc r.0 → parts ≡ a ∷ []
    → r.0 < slots → me.0.live ≡ true → IsAtRegion (part_of a).part r
    → (part_of a).part.holds r ≡ false → numbers (part_of a).part.supply ≢ []
    → IsNear (program_in about) me.0 a
    → Allows (Law about) slots id me k (λ n. either (eqb n 0) 1 n)
    (λ n m. aimed parts (λ a kids. tries a (step slots k 0 1 none) me n m))
tries-at laws b slots id me a parts r k word aim less live stands outside unit near =
    subst (λ (z : ℕ × List Part). Allows (Law b) slots id me z.0 (λ n. either (eqb n 0) 1 n)
    (λ n m. aimed z.1 (λ a kids. tries a (step slots z.0 0 1 none) me n m)))
    (λ i. (sym word i, sym aim i))
    (tries-word laws b slots id me a r near.0 less live stands outside unit near.1)

pub leaves-at : PartLaws → (about : Begun) (slots id : ℕ) (me : Me Slot View) (a : Part) (parts : List Part)
    (r : ResId) (k : ℕ) → k ≡ suc r.0 → parts ≡ a ∷ [] → me.0.live ≡ true
    → IsPutBack (program_in about) me a r
    → Allows (Law about) slots id me k (λ _. 0) (λ _ n. aimed parts (λ a kids. leaves a me n))
leaves-at laws b slots id me a parts r k word aim live h =
    let c : Content = h.content in
    let at-c : k ≡ suc c.resource.0 = word ∙ ap (λ (z : ResId). suc z.0) (sym h.may.resource) in
    subst (λ (z : ℕ × List Part). Allows (Law b) slots id me z.0 (λ _. 0)
    (λ _ n. aimed z.1 (λ a kids. leaves a me n)))
    (λ i. (sym at-c i, sym aim i))
    (leaves-word laws b slots id me a c h.more h.may.near.0 live
    (h.deep ∙ ap (λ (z : ResId). (z.0, Some c) ∷ h.more) (sym h.may.resource)) h.may.near.1
    (λ e. (
      reads-there (program_in b) b.program.formed a c (h.may.refused e),
      reads-false (program_in b) a c (h.may.refused e),
    )))

pub notes-at : PartLaws → (about : Begun) (slots id : ℕ) (me : Me Slot View) (a : Part) (parts : List Part)
    → parts ≡ a ∷ [] → me.0.live ≡ true → IsNear (program_in about) me.0 a
    → Allows (Law about) slots id me 0 (λ n. n) (λ _ n. aimed parts (λ a kids. notes a kids me n))
notes-at laws b slots id me a parts aim live near =
    subst (λ z. Allows (Law b) slots id me 0 (λ n. n)
    (λ _ n. aimed z (λ a kids. notes a kids me n))) (sym aim)
    (notes-word laws b slots id me a [] near.0 live near.1)

pub forks-at : PartLaws → (about : Begun) (slots id : ℕ) (me : Me Slot View) (a one two : Part)
    (parts : List Part) → parts ≡ a ∷ one ∷ two ∷ [] → me.0.live ≡ true
    → MaySplit (program_in about) me.0 a one two
    → Allows (Law about) slots id me 0 (λ n. n) (λ _ n. aimed parts (λ a kids. notes a kids me n))
forks-at laws b slots id me a one two parts aim live h =
    let m : Mark = record { event = h.event; kind = forking; stamp = a.clock } in
    subst (λ z. Allows (Law b) slots id me 0 (λ n. n)
    (λ _ n. aimed z (λ a kids. notes a kids me n))) (sym aim)
    (notes-word laws b slots id me a (one ∷ two ∷ []) (h.near.0 ++ m ∷ []) live
    (advance-push (program_in b) (holding me.0) (holding (moved h.before [] me.0))
    (holding (moved a (one ∷ two ∷ []) me.0)) h.near.0 m h.near.1
    (refl, (part_of one, part_of two, refl, refl, refl, h.forks))))

pub buries-at : (about : Begun) (slots : ℕ) (v : View) (views : List View) → views ≡ v ∷ []
    → Enters (Law about) slots 0 (λ n w. seen views (λ u. buries u (w, [])))
buries-at b slots v views sight =
    subst (λ z. Enters (Law b) slots 0 (λ n w. seen z (λ u. buries u (w, [])))) (sym sight)
    (buries-word b slots v)
