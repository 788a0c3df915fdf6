-- Steps keep the rule: a seat is split, and a seat is joined to another.
-- Names: `moved-LAW` of one part that stands elsewhere in the list; `splits` and `joins` are the
-- kinds of step.
use Rattle.std.specs.Prelude.{◌≡◌, ◌≢◌, ℕ, zero, suc, true, false, List, [], ◌∷◌, ◌++◌, map, Option, None, Contains}
use Rattle.std.specs.List.{sum_by}
use Rattle.std.proofs.Common.{set, sym, ap, ◌∙◌, refl, subst, ⊎_elim, arith, append_assoc, append-nil, true≢false}
use Rattle.std.proofs.lemmas.Grind.{flat_map-append}
use Rattle.std.proofs.lemmas.List.{map-append}
use Rattle.std.proofs.lemmas.Option.{none-some}
use mathlib.Core.Logic.{dite}
use mathlib.Core.Option.{some, some-injective}
use native.Mathlib.Decide.{ℕ_discrete}
use lib.ListN.{get_elem?}
use Rattle.atomic_table.proofs.Lists.{at_longer, at_set, at_snoc, set_else, set_here}
use Rattle.atomic_table.specs.Table.{State}
use Rattle.sf_core.specs.Machine.Whole.{Part as WholePart, Whole}
use Rattle.sf_part.proofs.Leads.{supplied-focus, supplied-unfocus}
use Rattle.sf_part.specs.Checked.Laws.{PartsInAnyOrder}
use Rattle.sf_part.specs.declared.content.Content.{Content}
use Rattle.sf_part.specs.declared.part.Part.{Part}
use Rattle.sf_part.specs.PartView.{part_of}
use Rattle.sf_part.specs.Supplied.{Supplied}
use Rattle.sf_part.specs.Timed.{TimedPart}
use Rattle.sf_region.specs.Checked.PartLaws.{PartLaws}
use Rattle.sf_region.proofs.Insides.{outside-tidy}
use Rattle.sf_region.proofs.Granted.{granted-among}
use Rattle.sf_region.proofs.Keeps.{parts-at, parts-set, told-of}
use Rattle.sf_region.proofs.Lists.{Cut, cut, has-focus, has-middle, has-none, has-unfocus, in_range, sum-focus}
use Rattle.sf_region.proofs.Told.{Told}
use Rattle.sf_region.proofs.Turns.{stamps-same}
use Rattle.sf_region.specs.declared.views.Begun.{Begun}
use Rattle.sf_region.specs.declared.views.View.{View}
use Rattle.sf_region.specs.Drained.{Grants}
use Rattle.sf_region.specs.Holdings.{group, taken, with_hand, entered}
use Rattle.sf_region.specs.Marks.{Mark}
use Rattle.sf_region.specs.Plays.{joined, with_kids}
use Rattle.sf_region.specs.Rule.{Slot, holding, live_group, group_of, parts_in, untimed, present, Fits, Rule, newcomer}
use Rattle.sf_region.specs.Waits.{first_of}

-- One part stands elsewhere in the list
module _ (laws : PartLaws) (before after front back : List TimedPart) (q : TimedPart)
    (same : before ++ after ≡ front ++ back) where
  abbrev olds : List TimedPart
  olds = before ++ q ∷ after

  abbrev news : List TimedPart
  news = front ++ q ∷ back

  rests-same : untimed before ++ untimed after ≡ untimed front ++ untimed back
  rests-same = sym (map-append (λ (a : TimedPart). a.part) before after) ∙ (ap untimed same
      ∙ map-append (λ (a : TimedPart). a.part) front back)

  -- what holds of the parts in any order holds of them still
  moved-parts : (P : List WholePart → Type 0)
      → ((xs ys : List WholePart) (a : WholePart) → P (xs ++ a ∷ ys) → P (a ∷ xs ++ ys))
      → ((xs ys : List WholePart) (a : WholePart) → P (a ∷ xs ++ ys) → P (xs ++ a ∷ ys))
      → P (untimed olds) → P (untimed news)
  moved-parts P focus unfocus h = subst P
      (sym (map-append (λ (a : TimedPart). a.part) front (q ∷ back)))
      (unfocus (untimed front) (untimed back) q.part
      (subst (λ z. P (q.part ∷ z)) rests-same
      (focus (untimed before) (untimed after) q.part
      (subst P (map-append (λ (a : TimedPart). a.part) before (q ∷ after)) h))))

  moved-there : (x : TimedPart) → Contains olds x → Contains news x
  moved-there x h = ⊎_elim
      (λ e. subst (λ (z : TimedPart). Contains news z) e (has-middle front back q))
      (λ i. has-unfocus front back q x (subst (λ z. Contains z x) same i))
      (has-focus before after q x h)

  pub moved-back : (x : TimedPart) → Contains news x → Contains olds x
  moved-back x h = ⊎_elim
      (λ e. subst (λ (z : TimedPart). Contains olds z) e (has-middle before after q))
      (λ i. has-unfocus before after q x (subst (λ z. Contains z x) (sym same) i))
      (has-focus front back q x h)

  moved-sum : (f : TimedPart → ℕ) → sum_by f news ≡ sum_by f olds
  moved-sum f =
      let i = sum-focus f before after q in
      let j = sum-focus f front back q in
      let k = ap (sum_by f) same in omega arith

  pub moved-told : (b : Begun) (marks : List Mark) (contents : List (Option Content))
      → Told b marks olds contents → Told b marks news contents
  unfolding PartsInAnyOrder
  moved-told b marks contents told = record {
    exactly = told.exactly;
    start = told.start;
    history = λ c began. let h = told.history c began in record {
      config = h.config;
      makes = h.makes;
      whole = moved-parts (λ z. Whole z (present contents) h.config)
          (λ xs ys a w. (laws.order xs ys a (present contents) h.config).0 w)
          (λ xs ys a w. (laws.order xs ys a (present contents) h.config).1 w) h.whole;
      numbered = λ s k. let (t, n, m) = h.numbered s k in (
        t,
        n,
        moved-parts (λ z. Supplied z t) (λ xs ys a w. supplied-focus t xs ys a w)
            (λ xs ys a w. supplied-unfocus t xs ys a w) m,
      );
    };
    stamps = stamps-same (first_of b) marks olds news contents told.stamps moved-sum moved-back
        moved-there;
  }

-- a part that is inside of no region, in a view with nothing in hand, has taken nothing
none-taken : (u : View) → u.hand ≡ None → entered (part_of u.part).part.stand ≡ []
    → taken (holding u) ≡ []
none-taken u hand out = λ i. with_hand (hand i) (out i)

-- The seat of the first child is split off
module _ (laws : PartLaws) (about : Begun) (ms : List Mark) (s : State Slot View) (id : ℕ) (v : View) (k : Part)
    (ks : List Part) (q : Rule about ms s) (at : get_elem? s.views id ≡ some v)
    (live : v.live ≡ true) (kids : v.kids ≡ k ∷ ks)
    (out : entered (part_of k).part.stand ≡ []) where
  abbrev w : View
  w = with_kids ks v

  abbrev u : View
  u = newcomer k v.begun

  abbrev cs : Cut s.views id v
  cs = cut s.views id v at

  abbrev front : List TimedPart
  front = parts_in cs.before

  abbrev back : List TimedPart
  back = parts_in cs.after

  abbrev views : List View
  views = set s.views id w ++ u ∷ []

  split-before : parts_in s.views
      ≡ (front ++ part_of v.part ∷ []) ++ part_of k ∷ (map part_of ks ++ back)
  split-before = parts-at s.views id v cs live
      ∙ (ap (λ (z : List Part). front ++ part_of v.part ∷ (map part_of z ++ back)) kids
      ∙ sym (append_assoc front (part_of v.part ∷ [])
      (part_of k ∷ (map part_of ks ++ back))))

  split-after : parts_in views
      ≡ (front ++ part_of v.part ∷ (map part_of ks ++ back)) ++ part_of k ∷ []
  split-after = flat_map-append group_of (set s.views id w) (u ∷ [])
      ∙ ap (λ z. z ++ part_of k ∷ []) (parts-set s.views id v w cs live)

  split-told : Told about ms (parts_in views) q.contents
  split-told = subst (λ z. Told about ms z q.contents) (sym split-after)
      (moved-told laws (front ++ part_of v.part ∷ []) (map part_of ks ++ back)
      (front ++ part_of v.part ∷ (map part_of ks ++ back)) [] (part_of k)
      (append_assoc front (part_of v.part ∷ []) (map part_of ks ++ back)
      ∙ sym (append-nil (front ++ part_of v.part ∷ (map part_of ks ++ back))))
      about ms q.contents
      (subst (λ z. Told about ms z q.contents) split-before (told-of q)))

  split-granted : Grants about ms (parts_in views)
  split-granted = subst (Grants about ms) (sym split-after) (granted-among about ms
      ((front ++ part_of v.part ∷ []) ++ part_of k ∷ (map part_of ks ++ back))
      ((front ++ part_of v.part ∷ (map part_of ks ++ back)) ++ part_of k ∷ [])
      (subst (Grants about ms) split-before q.grants)
      (λ x h. moved-back laws (front ++ part_of v.part ∷ []) (map part_of ks ++ back)
      (front ++ part_of v.part ∷ (map part_of ks ++ back)) [] (part_of k)
      (append_assoc front (part_of v.part ∷ []) (map part_of ks ++ back)
      ∙ sym (append-nil (front ++ part_of v.part ∷ (map part_of ks ++ back)))) x h))

  mine : Fits about q.contents q.owner s.words id v
  mine = q.each id v at live

  -- the parent's seat has what it had
  split-parent : Fits about q.contents q.owner s.words id w
  split-parent = record {
    begun = mine.begun;
    in_hand = mine.in_hand;
    has = mine.has;
    inside = mine.inside;
    tidy = mine.tidy;
  }

  -- the child's has nothing
  split-child : (j : ℕ) → Fits about q.contents q.owner s.words j u
  split-child j = record {
    begun = mine.begun;
    in_hand = λ c e. absurd (none-some c e);
    has = λ r h. absurd (has-none r (subst (λ z. Contains z r) out h));
    inside = λ r h. absurd (has-none r (subst (λ z. Contains z r) out h));
    tidy = outside-tidy (part_of k) out;
  }

  pub splits : Rule about ms (record { words = s.words; homes = s.homes; views = views })
  splits = record {
    contents = q.contents;
    owner = q.owner;
    wide = q.wide;
    even = q.even;
    rests = q.rests;
    free = q.free;
    kept = λ r less ne.
        let t = q.kept r less ne in dite (ℕ_discrete (q.owner r) id)
        (λ here.
        let is : t.0 ≡ v = some-injective t.0 v (sym t.1 ∙ (ap (get_elem? s.views) here ∙ at)) in (
          w,
          at_longer (set s.views id w) (u ∷ []) (q.owner r) w
              (ap (get_elem? (set s.views id w)) here
              ∙ set_here s.views id w (in_range s.views id v at)),
          live,
          subst (λ (z : View). Contains (taken (holding z)) r) is t.3,
        ))
        (λ other. (
          t.0,
          at_longer (set s.views id w) (u ∷ []) (q.owner r) t.0
              (set_else s.views id (q.owner r) w other ∙ t.1),
          t.2,
          t.3,
        ));
    each = λ j x e l. ⊎_elim
        (λ old. ⊎_elim
        (λ (y : (j ≡ id) × (w ≡ x)). subst
        (λ (z : ℕ × View). Fits about q.contents q.owner s.words z.0 z.1)
        (λ i. (sym y.0 i, y.1 i)) split-parent)
        (λ (y : (j ≢ id) × (get_elem? s.views j ≡ some x)). q.each j x y.1 l)
        (at_set s.views id j w x old))
        (λ (new : u ≡ x). subst (λ (z : View). Fits about q.contents q.owner s.words j z) new
        (split-child j))
        (at_snoc (set s.views id w) u x j e);
    exactly = q.exactly;
    start = q.start;
    history = split-told.history;
    stamps = split-told.stamps;
    grants = split-granted;
    limit = q.limit;
  }

-- two places of a list are set in either order
set-either : {A : Type 0} (l : List A) (i j : ℕ) (a b : A) → j ≢ i
    → set (set l i a) j b ≡ set (set l j b) i a
set-either [] i j a b ne = refl
set-either (x ∷ l) zero zero a b ne = absurd (ne refl)
set-either (x ∷ l) zero (suc j) a b ne = refl
set-either (x ∷ l) (suc i) zero a b ne = refl
set-either (x ∷ l) (suc i) (suc j) a b ne = ap (λ z. x ∷ z)
    (set-either l i j a b (λ e. ne (ap suc e)))

-- The seat of a task that has ended is joined to another
module _ (laws : PartLaws) (about : Begun) (ms : List Mark) (s : State Slot View) (id other : ℕ) (v u spent : View)
    (q : Rule about ms s) (at : get_elem? s.views id ≡ some v) (live : v.live ≡ true)
    (apart : other ≢ id) (there : get_elem? s.views other ≡ some u) (lives : u.live ≡ true)
    (kids : u.kids ≡ []) (hand : u.hand ≡ None)
    (out : entered (part_of u.part).part.stand ≡ []) (over : spent.live ≡ false) where
  abbrev both : View
  both = joined v u

  abbrev gone : List View
  gone = set s.views other spent

  still : get_elem? gone id ≡ some v
  still = set_else s.views other id spent (λ e. apart (sym e)) ∙ at

  abbrev cut-u : Cut s.views other u
  cut-u = cut s.views other u there

  abbrev cut-v : Cut gone id v
  cut-v = cut gone id v still

  abbrev front-u : List TimedPart
  front-u = parts_in cut-u.before

  abbrev back-u : List TimedPart
  back-u = parts_in cut-u.after

  abbrev front-v : List TimedPart
  front-v = parts_in cut-v.before

  abbrev back-v : List TimedPart
  back-v = parts_in cut-v.after

  abbrev kids-v : List TimedPart
  kids-v = map part_of v.kids

  join-before : parts_in s.views ≡ front-u ++ part_of u.part ∷ back-u
  join-before = parts-at s.views other u cut-u lives
      ∙ ap (λ (z : List Part). front-u ++ part_of u.part ∷ (map part_of z ++ back-u)) kids

  join-between : parts_in gone ≡ front-u ++ back-u
  join-between = ap parts_in (cut-u.sets spent)
      ∙ (flat_map-append group_of cut-u.before (spent ∷ cut-u.after)
      ∙ ap (λ z. front-u ++ (live_group z (group (holding spent)) ++ back-u)) over)

  join-rest : front-u ++ back-u ≡ (front-v ++ part_of v.part ∷ kids-v) ++ back-v
  join-rest = sym join-between ∙ (parts-at gone id v cut-v live
      ∙ sym (append_assoc front-v (part_of v.part ∷ kids-v) back-v))

  join-after : parts_in (set gone id both)
      ≡ (front-v ++ part_of v.part ∷ kids-v) ++ part_of u.part ∷ back-v
  join-after = parts-set gone id v both cut-v live
      ∙ (ap (λ z. front-v ++ part_of v.part ∷ (z ++ back-v))
      (map-append part_of v.kids (u.part ∷ []))
      ∙ (ap (λ z. front-v ++ part_of v.part ∷ z)
      (append_assoc kids-v (part_of u.part ∷ []) back-v)
      ∙ sym (append_assoc front-v (part_of v.part ∷ kids-v) (part_of u.part ∷ back-v))))

  join-told : Told about ms (parts_in (set (set s.views id both) other spent)) q.contents
  join-told = subst (λ z. Told about ms (parts_in z) q.contents)
      (sym (set-either s.views id other both spent apart))
      (subst (λ z. Told about ms z q.contents) (sym join-after)
      (moved-told laws front-u back-u (front-v ++ part_of v.part ∷ kids-v) back-v (part_of u.part)
      join-rest about ms q.contents
      (subst (λ z. Told about ms z q.contents) join-before (told-of q))))

  join-granted : Grants about ms (parts_in (set (set s.views id both) other spent))
  join-granted = subst (λ z. Grants about ms (parts_in z))
      (sym (set-either s.views id other both spent apart))
      (subst (Grants about ms) (sym join-after) (granted-among about ms
      (front-u ++ part_of u.part ∷ back-u)
      ((front-v ++ part_of v.part ∷ kids-v) ++ part_of u.part ∷ back-v)
      (subst (Grants about ms) join-before q.grants)
      (λ x h. moved-back laws front-u back-u (front-v ++ part_of v.part ∷ kids-v) back-v
      (part_of u.part) join-rest x h)))

  join-fits : Fits about q.contents q.owner s.words id both
  join-fits = let f = q.each id v at live in record {
    begun = f.begun;
    in_hand = f.in_hand;
    has = f.has;
    inside = f.inside;
    tidy = f.tidy;
  }

  pub joins : Rule about ms
      (record { words = s.words; homes = s.homes; views = set (set s.views id both) other spent })
  joins = record {
    contents = q.contents;
    owner = q.owner;
    wide = q.wide;
    even = q.even;
    rests = q.rests;
    free = q.free;
    kept = λ r less ne.
        let t = q.kept r less ne in
        let far : q.owner r ≢ other = λ e.
        let is : t.0 ≡ u = some-injective t.0 u (sym t.1 ∙ (ap (get_elem? s.views) e ∙ there)) in
        has-none r (subst (λ z. Contains z r) (none-taken u hand out)
        (subst (λ (z : View). Contains (taken (holding z)) r) is t.3)) in
        dite (ℕ_discrete (q.owner r) id)
        (λ here.
        let is : t.0 ≡ v = some-injective t.0 v (sym t.1 ∙ (ap (get_elem? s.views) here ∙ at)) in (
          both,
          set_else (set s.views id both) other (q.owner r) spent far
              ∙ (ap (get_elem? (set s.views id both)) here
              ∙ set_here s.views id both (in_range s.views id v at)),
          live,
          subst (λ (z : View). Contains (taken (holding z)) r) is t.3,
        ))
        (λ ne'. (
          t.0,
          set_else (set s.views id both) other (q.owner r) spent far
              ∙ (set_else s.views id (q.owner r) both ne' ∙ t.1),
          t.2,
          t.3,
        ));
    each = λ j x e l. ⊎_elim
        (λ (y : (j ≡ other) × (spent ≡ x)). absurd (true≢false
        (sym l ∙ (ap (λ (z : View). z.live) (sym y.1) ∙ over))))
        (λ (y : (j ≢ other) × (get_elem? (set s.views id both) j ≡ some x)). ⊎_elim
        (λ (z : (j ≡ id) × (both ≡ x)). subst
        (λ (k : ℕ × View). Fits about q.contents q.owner s.words k.0 k.1)
        (λ i. (sym z.0 i, z.1 i)) join-fits)
        (λ (z : (j ≢ id) × (get_elem? s.views j ≡ some x)). q.each j x z.1 l)
        (at_set s.views id j both x y.1))
        (at_set (set s.views id both) other j spent x e);
    exactly = q.exactly;
    start = q.start;
    history = join-told.history;
    stamps = join-told.stamps;
    grants = join-granted;
    limit = q.limit;
  }
