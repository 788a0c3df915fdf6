-- What the list of events says that tasks were given is what their parts say.
-- Names: `shares-LAW` of a tree of supplies and the parts that have its units, `granted-LAW` of
-- what parts say, `KIND-granted` of an event of that kind.
use Rattle.std.specs.Prelude.{◌≡◌, ◌⊎◌, ℕ, ◌+◌, Bool, true, false, cond, List, [], ◌∷◌, ◌++◌, map, length, Option, Some, None, Contains}
use Rattle.std.specs.Option.{option_map}
use Rattle.std.proofs.Common.{sym, ap, ◌∙◌, refl, subst, inl, inr, ⊎_elim, append_assoc}
use Rattle.std.proofs.lemmas.List.{map-append}
use Rattle.std.proofs.lemmas.Option.{none-some, same_Some}
use Rattle.sf_base.specs.declared.path.Turn.{Turn}
use Rattle.sf_base.specs.declared.path.Turn.TheVariants.{Left as left_turn, Right as right_turn}
use Rattle.sf_base.specs.HeapStore.{Map}
use Rattle.sf_core.specs.Machine.Config.{Frame, Path, Config}
use Rattle.sf_core.specs.Machine.SpentSteps.{is_at_or_above, Spending, SpendingFrom, anew, spends}
use Rattle.sf_core.specs.Machine.Supplies.{Supply, has, lent, left_in, supply_at}
use Rattle.sf_core.specs.Machine.Whole.{running, Part as WholePart, numbers, same_path, IsUnion}
use Rattle.sf_core.specs.Program.Syntax.{Program}
use Rattle.sf_part.proofs.Trees.{entry-here, path-same}
use Rattle.sf_part.specs.declared.content.Content.{Content}
use Rattle.sf_part.specs.Steps.{Begins, Forks, IsChild as IsChildPart, Joins}
use Rattle.sf_part.specs.Supplied.{units, lent_out, share_of, shares, share_in, own_share, Supplied}
use Rattle.sf_part.specs.Timed.{TimedPart}
use Rattle.sf_region.specs.Checked.PartLaws.{PartLaws}
use Rattle.sf_region.proofs.Children.{beside-three, fork-child, fork-new, three}
use Rattle.sf_region.proofs.Events.{act-stays}
use Rattle.sf_region.proofs.Lists.{has-cases, has-first, has-focus, has-later, has-none, has-unfocus}
use Rattle.sf_region.proofs.Runs.{union-has}
use Rattle.sf_region.proofs.Told.{Out, Told, around, has-map, placed}
use Rattle.sf_region.specs.declared.views.Begun.{Begun}
use Rattle.sf_region.specs.Drained.{MayHaveSpent, Grants}
use Rattle.sf_region.specs.Holdings.{Holding, Does, Act, Advance, taken}
use Rattle.sf_region.specs.Marks.{Kind, private, entry, exit, forking, joining, Mark, events_of}
use Rattle.sf_region.specs.Rule.{IsTidy, untimed}
use Rattle.sf_region.specs.Stamps.{IsChild}
use Rattle.sf_region.specs.Waits.{BeganAt, first_of, opening_parts, program_in}
use Rattle.sf_spend.specs.Checked.Laws.{CountedListsAreNumbered, CountsAreUnique, CountsBeginAnew, CountsDivide, NumberedListsAreCounted, SpendingListsAreCounted}
use Rattle.sf_spend.specs.Counting.{CountedFrom}

-- Supplies and parts
mapped-some : {A B : Type 0} (f : A → B) (o : Option A) (y : B) → option_map f o ≡ Some y
    → (x : A) × (o ≡ Some x) × (f x ≡ y)
mapped-some f None y e = absurd (none-some y e)
mapped-some f (Some x) y e = (x, refl, same_Some (f x) y e)

mapped-none : {A B : Type 0} (f : A → B) (o : Option A) → option_map f o ≡ None → o ≡ None
mapped-none f None e = refl
mapped-none f (Some x) e = absurd (none-some (f x) (sym e))

-- where none of the maps has something, their union has nothing
pub union-none : {A K X : Type 0} (f : A → Map K X) (xs : List A) (w : Map K X) (key : K)
    → IsUnion w (map f xs) → ((a : A) → Contains xs a → f a key ≡ None) → w key ≡ None
union-none f [] w key u none = u.none key
union-none f (x ∷ xs) w key (others, s, u) none =
    let first = none x (has-first x xs) in
    let rest = union-none f xs others key u (λ a h. none a (has-later x a xs h)) in
    s.is key ∙ (λ i. Rattle.std.specs.Option.option_or (first i) (rest i))

-- the supply of a part's task
pub shares-there : (parts : List WholePart) (tree : Supply) (a : WholePart) → Supplied parts tree
    → Contains parts a → (u : Supply) × (supply_at a.task tree ≡ Some u)
    × (share_of u ≡ share_in a.stand (numbers a.supply))
shares-there parts tree a h c = mapped-some share_of (supply_at a.task tree)
    (share_in a.stand (numbers a.supply))
    (union-has own_share parts (shares tree) a a.task (share_in a.stand (numbers a.supply)) h c
    (entry-here a.task (share_in a.stand (numbers a.supply))))

-- where there is no part there is no supply
shares-none : (parts : List WholePart) (tree : Supply) (path : Path) → Supplied parts tree
    → ((a : WholePart) → Contains parts a → a.task ≡ path → ⊥) → supply_at path tree ≡ None
shares-none parts tree path h none = mapped-none share_of (supply_at path tree)
    (union-none own_share parts (shares tree) path h
    (λ a c. go a (none a c) (same_path path a.task) refl))
  where
    go : (a : WholePart) → (a.task ≡ path → ⊥) → (b : Bool) → same_path path a.task ≡ b
        → own_share a path ≡ None
    go a apart true e = absurd (apart (sym (path-same a.task path e)))
    go a apart false e =
        ap (λ z. cond z (Some (share_in a.stand (numbers a.supply))) None) e

-- what a task that runs has, and one that waits
pub shares-running : (u : Supply) (us : List ℕ) → share_of u ≡ units us → u ≡ has us
shares-running (has vs) us e = let same : vs ≡ us = cc in ap has same
shares-running (lent one two) us e = absurd (cc)

pub shares-waiting : (u : Supply) → share_of u ≡ lent_out
    → (one : Supply) × (two : Supply) × (u ≡ lent one two)
shares-waiting (has us) e = absurd (cc)
shares-waiting (lent one two) e = (one, two, refl)

-- One event
module _ (path at : Path) (before after : Supply) (s : Spending) where
  -- a task that was there has been given what it had been
  spends-there : (u : Supply) → supply_at path before ≡ Some u
      → (spends path at before after s).given ≡ s.given
  spends-there u is = ap (λ z. (cond (is_at_or_above path at)
      (record { given = s.given; used = s.used + 1 })
      (anew z (supply_at path after) s)).given) is ∙ go (is_at_or_above path at)
      (supply_at path after)
    where
      go : (b : Bool) (o : Option Supply)
          → (cond b (record { given = s.given; used = s.used + 1 }) (anew (Some u) o s)).given
          ≡ s.given
      go true o = refl
      go false None = refl
      go false (Some v) = refl

  -- one that came up was given all that it has, if that is what was said before
  spends-new : (u : Supply) → supply_at path before ≡ None → supply_at path after ≡ Some u
      → s.given ≡ length (left_in u)
      → (spends path at before after s).given ≡ length (left_in u)
  spends-new u was is e = (λ i. (cond (is_at_or_above path at)
      (record { given = s.given; used = s.used + 1 }) (anew (was i) (is i) s)).given)
      ∙ go (is_at_or_above path at)
    where
      go : (b : Bool)
          → (cond b (record { given = s.given; used = s.used + 1 }) (anew None (Some u) s)).given
          ≡ length (left_in u)
      go true = e
      go false = refl

-- a part of a task that had one, with what that said
pub record Was (olds : List TimedPart) (q : TimedPart) : Type 0 where
  pub part : TimedPart
  pub there : Contains olds part
  pub task : part.part.task ≡ q.part.task
  pub given : part.given ≡ q.given

-- a part of a task that had none, with all that it was given
pub record IsNew (olds : List TimedPart) (q : TimedPart) : Type 0 where
  pub none : (o : TimedPart) → Contains olds o → o.part.task ≡ q.part.task → ⊥
  pub frames : List Frame
  pub stand : q.part.stand ≡ running frames
  pub given : q.given ≡ length (numbers q.part.supply)

-- each is a timed one's
untimed-has : (parts : List TimedPart) (a : WholePart) → Contains (untimed parts) a
    → (o : TimedPart) × Contains parts o × (o.part ≡ a)
untimed-has [] a h = absurd (has-none a h)
untimed-has (x ∷ parts) a h = ⊎_elim (λ (e : x.part ≡ a). (x, has-first x parts, e))
    (λ k. let (o, there, is) = untimed-has parts a k in (o, has-later x o parts there, is))
    (has-cases x.part a (untimed parts) h)

-- one event more
module _ (laws : PartLaws) (b : Begun) (marks : List Mark) (m : Mark) (olds news : List TimedPart)
    (contents now : List (Option Content)) (told : Told b marks olds contents)
    (next : Told b (marks ++ m ∷ []) news now) (old : Grants b marks olds)
    (c : Config) (began : BeganAt b c) (supply : Supply)
    (supplied : Supplied (opening_parts b) supply) (s last : Spending) (d : Config)
    (q : TimedPart) (begins : MayHaveSpent (first_of b) q.part.task s)
    (spent : SpendingFrom (program_in b) q.part.task c supply s (events_of (marks ++ m ∷ [])) d
    last) where
  abbrev p : Program
  p = program_in b

  abbrev path : Path
  path = q.part.task

  -- the list with all that it leaves
  more-all : (rest : Supply)
      × CountedFrom p path c supply s (events_of (marks ++ m ∷ [])) d rest last
  unfolding SpendingListsAreCounted
  more-all = laws.spent p path c d supply s last (events_of (marks ++ m ∷ [])) spent

  abbrev rest : Supply
  rest = more-all.0

  -- up to its last event, and from there
  more-split : (e : Config) × (between : Supply) × (middle : Spending)
      × CountedFrom p path c supply s (events_of marks) e between middle
      × CountedFrom p path e between middle (m.event ∷ []) d rest last
  unfolding CountsDivide
  more-split = laws.divided p path c d supply rest s last (events_of marks) (m.event ∷ [])
      (subst (λ z. CountedFrom p path c supply s z d rest last)
      (map-append (λ (x : Mark). x.event) marks (m ∷ [])) more-all.1)

  abbrev between : Supply
  between = more-split.1

  abbrev middle : Spending
  middle = more-split.2

  -- the units of the parts before it, and after it
  more-before : Supplied (untimed olds) between
  unfolding NumberedListsAreCounted CountsAreUnique
  more-before =
      let h = told.history c began in
      let (r, n, u) = h.numbered supply supplied in
      let (l, k) = laws.counted p path c h.config supply r s (events_of marks) n in
      let same = laws.once p path c more-split.0 h.config supply between r s middle l
      (events_of marks) more-split.3 k in
      subst (Supplied (untimed olds)) (sym same.1) u

  more-after : Supplied (untimed news) rest
  unfolding NumberedListsAreCounted CountsAreUnique
  more-after =
      let h = next.history c began in
      let (r, n, u) = h.numbered supply supplied in
      let (l, k) = laws.counted p path c h.config supply r s (events_of (marks ++ m ∷ [])) n in
      let same = laws.once p path c d h.config supply rest r s last l
      (events_of (marks ++ m ∷ [])) more-all.1 k in
      subst (Supplied (untimed news)) (sym same.1) u

  -- what was given before the last event
  more-was : (o : TimedPart) → Contains olds o → o.part.task ≡ path → middle.given ≡ o.given
  unfolding CountedListsAreNumbered
  more-was o there same = old.given c began supply supplied s middle more-split.0 o there
      (subst (λ z. MayHaveSpent (first_of b) z s) (sym same) begins)
      (subst (λ z. SpendingFrom p z c supply s (events_of marks) more-split.0 middle) (sym same)
      (laws.numbered p path c more-split.0 supply between s middle (events_of marks)
      more-split.3).1)

  pub more-given : Contains news q → Was olds q ⊎ IsNew olds q → last.given ≡ q.given
  unfolding CountsBeginAnew
  more-given h (inl w) =
      let (n, l, step, takes, (at, left, count)) = more-split.4 in
      let (u, is, share) = shares-there (untimed olds) between w.part.part more-before
      (has-map (λ (a : TimedPart). a.part) olds w.part w.there) in
      ap (λ (z : Spending). z.given) count
      ∙ (spends-there path m.event.task between l middle u
      (ap (λ z. supply_at z between) (sym w.task) ∙ is)
      ∙ (more-was w.part w.there w.task ∙ w.given))
  more-given h (inr new) =
      let none : supply_at path between ≡ None = shares-none (untimed olds) between path more-before
      (λ a k same. let (o, there, is) = untimed-has olds a k in
      new.none o there (ap (λ (z : WholePart). z.task) is ∙ same)) in
      let (u, is, share) = shares-there (untimed news) rest q.part more-after
      (has-map (λ (a : TimedPart). a.part) news q h) in
      let all : u ≡ has (numbers q.part.supply) = shares-running u (numbers q.part.supply)
      (share ∙ ap (λ z. share_in z (numbers q.part.supply)) new.stand) in
      let said : Spending = record { given = length (left_in u); used = 0 } in
      let (n, l, step, takes, (at, left, count)) = laws.anew p path more-split.0 d between rest u
      middle last said (m.event ∷ []) more-split.4 none is in
      ap (λ (z : Spending). z.given) count
      ∙ (spends-new path m.event.task between l said u none
      (ap (supply_at path) (sym left) ∙ is) refl
      ∙ (ap (λ z. length (left_in z)) all ∙ sym new.given))

pub granted-more : PartLaws → (b : Begun) (marks : List Mark) (m : Mark)
    (olds news : List TimedPart) (contents now : List (Option Content)) → Told b marks olds contents
    → Told b (marks ++ m ∷ []) news now → Grants b marks olds
    → ((q : TimedPart) → Contains news q → Was olds q ⊎ IsNew olds q)
    → Grants b (marks ++ m ∷ []) news
granted-more laws b marks m olds news contents now told next old each = record {
  given = λ c began supply supplied s last d q h begins spent. more-given laws b marks m olds news
      contents now told next old c began supply supplied s last d q begins spent h (each q h);
}

-- fewer parts, or the same in another order
pub granted-among : (b : Begun) (marks : List Mark) (olds news : List TimedPart)
    → Grants b marks olds → ((q : TimedPart) → Contains news q → Contains olds q) → Grants b marks news
granted-among b marks olds news old among = record {
  given = λ c began supply supplied s last d q h begins spent.
      old.given c began supply supplied s last d q (among q h) begins spent;
}

-- a table begins: there is one part, and it says what its task was given
pub granted-first : (b : Begun) → Grants b [] (first_of b ∷ [])
granted-first b = record {
  given = λ c began supply supplied s last d q h begins spent.
      let one : first_of b ≡ q = ⊎_elim (λ e. e) (λ k. absurd (has-none q k))
      (has-cases (first_of b) q [] h) in
      ap (λ (z : Spending). z.given) spent.1
      ∙ (begins.given (ap (λ (z : TimedPart). z.part.task) (sym one))
      ∙ ap (λ (z : TimedPart). z.given) one);
}

-- Events of a seat's task, kind by kind
module _ (laws : PartLaws) (b : Begun) (before after : List TimedPart)
    (base : List (Option Content)) (marks : List Mark) (m : Mark) (a c : Holding)
    (told : Told b marks (around before a after) (placed a.hand base))
    (next : Told b (marks ++ m ∷ []) (around before c after) (placed c.hand base))
    (old : Grants b marks (around before a after)) where
  abbrev olds : List TimedPart
  olds = around before a after

  -- one that stays
  still : (q : TimedPart) → Contains olds q → Was olds q
  still q h = record { part = q; there = h; task = refl; given = refl }

  -- the task's own, which says what it said
  own : c.part.part.task ≡ a.part.part.task → c.part.given ≡ a.part.given → (q : TimedPart)
      → c.part ≡ q → Was olds q
  own task given q e = record {
    part = a.part;
    there = Rattle.sf_region.proofs.Lists.has-middle before (a.kids ++ after) a.part;
    task = sym task ∙ ap (λ (z : TimedPart). z.part.task) e;
    given = sym given ∙ ap (λ (z : TimedPart). z.given) e;
  }

  -- an event of one part
  alone-granted : c.kids ≡ a.kids → c.part.part.task ≡ a.part.part.task
      → c.part.given ≡ a.part.given → (q : TimedPart) → Contains (around before c after) q
      → Was olds q ⊎ IsNew olds q
  alone-granted kids task given q h = ⊎_elim (λ e. inl (own task given q e))
      (λ k. inl (still q (has-unfocus before (a.kids ++ after) a.part q
      (subst (λ z. Contains (before ++ (z ++ after)) q) kids k))))
      (has-focus before (c.kids ++ after) c.part q h)

  fork-granted : m.kind ≡ forking → m.stamp ≡ c.part.clock → (one two : TimedPart)
      → a.kids ≡ [] → c.kids ≡ one ∷ two ∷ []
      → Forks (program_in b) m.event a.part c.part one two → (q : TimedPart)
      → Contains (around before c after) q → Was olds q ⊎ IsNew olds q
  fork-granted kind stamp one two none kids e q h =
      let told_alone : Told b marks (before ++ a.part ∷ after) (placed a.hand base) =
      subst (λ (z : List TimedPart). Told b marks (before ++ a.part ∷ (z ++ after))
      (placed a.hand base)) none told in
      let task : c.part.part.task ≡ a.part.part.task = sym e.children.task ∙ e.acts.task in
      let new : (path : Path) → IsChild a.part.part.task path → (o : TimedPart) → Contains olds o
      → o.part.task ≡ path → ⊥ = λ path child o k. fork-new laws b marks m before after a.part
      c.part one two (placed a.hand base) told_alone kind stamp e path child o
      (subst (λ (z : List TimedPart). Contains (before ++ a.part ∷ (z ++ after)) o) none k) in
      let newly : (turn : Turn) (frames : List Frame) (o : TimedPart)
      → IsChildPart c.part.part turn o.part → Begins c.part frames o → IsNew olds o =
      λ turn frames o child begins. record {
        none = new o.part.task (fork-child laws b marks m before after a.part c.part one two
            (placed a.hand base) told_alone kind stamp e turn o child.task);
        frames = frames;
        stand = begins.stand;
        given = begins.given;
      } in
      ⊎_elim (λ f. inl (own task e.notes.given q f))
      (λ i. ⊎_elim
      (λ (f : one ≡ q). inr (subst (λ (z : TimedPart). IsNew olds z) f
      (newly left_turn e.left_frames one e.children.left_one e.left_begins)))
      (λ j. ⊎_elim
      (λ (f : two ≡ q). inr (subst (λ (z : TimedPart). IsNew olds z) f
      (newly right_turn e.right_frames two e.children.right_one e.right_begins)))
      (λ k. inl (still q (subst
      (λ (z : List TimedPart). Contains (before ++ a.part ∷ (z ++ after)) q)
      (sym none) (has-unfocus before after a.part q k)))) j) i)
      (three before after c.part one two q
      (subst (λ (z : List TimedPart). Contains (before ++ c.part ∷ (z ++ after)) q) kids h))

  join-granted : (one two : TimedPart) → a.kids ≡ one ∷ two ∷ [] → c.kids ≡ []
      → Joins (program_in b) m.event a.part one two c.part → (q : TimedPart)
      → Contains (around before c after) q → Was olds q ⊎ IsNew olds q
  join-granted one two kids none e q h = ⊎_elim
      (λ f. inl (own (e.acts.task ∙ e.children.task) e.notes.given q f))
      (λ k. inl (still q (subst
      (λ (z : List TimedPart). Contains (before ++ a.part ∷ (z ++ after)) q)
      (sym kids) (beside-three before after a.part one two q k))))
      (has-focus before after c.part q
      (subst (λ (z : List TimedPart). Contains (before ++ c.part ∷ (z ++ after)) q) none h))

  act-granted : Act (program_in b) a m c → Grants b (marks ++ m ∷ []) (around before c after)
  act-granted (stamp, does) = granted-more laws b marks m olds (around before c after)
      (placed a.hand base) (placed c.hand base) told next old (go m.kind refl does)
    where
      go : (kind : Kind) → m.kind ≡ kind → Does (program_in b) a kind m.event c → (q : TimedPart)
          → Contains (around before c after) q → Was olds q ⊎ IsNew olds q
      go private kind (hand, kids, e) = alone-granted kids e.acts.task e.notes.given
      go (entry r) kind (k, in_hand, of, hand, kids, e) =
          alone-granted kids (e.acts.task ∙ e.hand.task) e.notes.given
      go (exit r) kind (k, empty, hand, of, kids, is_in, gives) = let e = gives.exits in
          alone-granted kids (sym e.hand.task ∙ e.acts.task) e.notes.given
      go forking kind (one, two, hand, none, kids, e) =
          fork-granted kind stamp one two none kids e
      go joining kind (one, two, hand, kids, none, e) = join-granted one two kids none e

-- one event after the other
pub advance-granted : PartLaws → (b : Begun) (before after : List TimedPart)
    (base : List (Option Content)) (marks more : List Mark) (a c : Holding)
    → Told b marks (around before a after) (placed a.hand base) → Out base (taken a)
    → IsTidy a.part → Advance (program_in b) a more c → Grants b marks (around before a after)
    → Grants b (marks ++ more) (around before c after)
advance-granted laws b before after base marks [] a c told out tidy e old =
    subst (λ z. Grants b z (around before c after))
    (sym (Rattle.std.proofs.Common.append-nil marks))
    (subst (λ (z : Holding). Grants b marks (around before z after)) (sym e) old)
advance-granted laws b before after base marks (m ∷ more) a c told out tidy (between, act, rest)
    old =
    let (s, own, clock) = act-stays laws b before after base marks m a between told out tidy act in
    subst (λ z. Grants b z (around before c after)) (append_assoc marks (m ∷ []) more)
    (advance-granted laws b before after base (marks ++ m ∷ []) more between c s.told
    (subst (Out base) (sym s.taken_is) out) s.tidy rest
    (act-granted laws b before after base marks m a between told s.told old act))
