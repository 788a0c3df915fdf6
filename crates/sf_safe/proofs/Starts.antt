-- A start is owned: the entry's frame has its own variables and cells, and the resources have theirs; or the frame that
-- sets them up has these variables, and all tokens.
-- Names: `start-WHAT` of both, `settled-WHAT`, `fresh-WHAT` and `init-WHAT` of the one or the other.
use Rattle.std.specs.Prelude.{◌≡◌, ◌≢◌, ℕ, suc, Bool, true, false, cond, List, [], ◌∷◌, Option, Some, None, ◌==◌, ◌<◌, ◌≤◌, ◌+◌, ◌-◌, ◌&&◌, leb, length, ltb}
use Rattle.std.specs.List.{slice_get}
use Rattle.std.specs.Option.{option_or, unwrap_or}
use Rattle.std.proofs.Common.{true≢false, sym, ap, ap₂, ◌∙◌, refl, subst, inl, inr, arith}
use Rattle.std.proofs.lemmas.Bool.Decides.{nat_tests}
use Rattle.std.proofs.lemmas.Option.{same_Some}
use Rattle.sf_base.specs.declared.ids.ProcId.{ProcId}
use Rattle.sf_base.specs.declared.ids.ResId.{ResId}
use Rattle.sf_base.specs.declared.ids.Var.{Var}
use Rattle.sf_base.specs.declared.ids.Var.TheVariants.{Own as OwnVar, Shared}
use Rattle.sf_base.specs.declared.value.Value.{Value}
use Rattle.sf_base.specs.declared.value.Value.TheVariants.{Nil as nil}
use Rattle.sf_base.specs.HeapStore.{Apart, Heap, IsEmpty, Slot, Store, own, shared}
use Rattle.sf_base.proofs.MapSplits.{empty-holds, only, splits-empty_left, splits-empty_right}
use Rattle.sf_calls.specs.Conditions.{Free}
use Rattle.sf_calls.specs.FirstBreach.{Conditions}
use Rattle.sf_calls.specs.Checked.Lemmas.InFile.{free_within}
use Rattle.sf_calls.specs.Checked.Lemmas.Within.{level_within}
use Rattle.sf_core.specs.declared.command.Expr.{Expr}
use Rattle.sf_core.specs.Assertions.Occurs.{VarOccursIn}
use Rattle.sf_core.specs.Assertions.Sat.{Sat}
use Rattle.sf_core.specs.Machine.Config.{Config, evaluate, items}
use Rattle.sf_core.specs.Machine.Start.{Beginning, BeginsWith, MeetsPre, Start, entry_frame, entry_slot, first_count, first_holders, fresh, init_frame, init_slot, initial_config, settled}
use Rattle.sf_core.specs.Program.Formed.{IsFormed, IsParameter, variable_count}
use Rattle.sf_core.specs.Program.Init.{HasNoConjunct, IsBare, is_init, sets_up}
use Rattle.sf_core.specs.Program.Syntax.{Level, level, none, also, Procedure, Program, Resource}
use Rattle.sf_core.proofs.Assertions.Sat.{sat-same_variables}
use Rattle.sf_core.proofs.Inits.{sets_up-is}
use Rattle.sf_safe.specs.Checked.Own.{Own, Parts, everything, nothing}
use Rattle.sf_safe.specs.Checked.Contract.{Known, Entered, IsFrameOf, IsVariableOf, Returned, given_back}
use Rattle.sf_safe.specs.Checked.Invariant.{IsMadeBefore, IsOwned, Resources, ShareOf}
use Rattle.sf_safe.specs.Checked.Law.{BodiesAreSafe}
use Rattle.sf_safe.specs.Checked.Safe.{Safe}
use Rattle.sf_safe.specs.Checked.Owns.{parts-comm, parts-nothing, parts-of_nothing}
use Rattle.sf_safe.proofs.Settled.{HasVariable, rest_share, settled-resources}
use Rattle.sf_safe.proofs.Unheld.{unheld-is_not_free}

less-is : (i n : ℕ) → i < n → ltb i n ≡ true
less-is i n l = grind (arith, nat_tests)

is-less : (i n : ℕ) → ltb i n ≡ true → i < n
is-less i n e = grind (arith, nat_tests)

not-less : (i n : ℕ) → ltb i n ≡ false → n ≤ i
not-less i n e = grind (arith, nat_tests)

own-back : (references i : ℕ) → references ≤ i → i ≡ references + (i - references)
own-back r i l = omega (arith, l)

cond-in : (b : Bool) (x : Option Value) (v : Value) → cond b x None ≡ Some v → (b ≡ true) × (x ≡ Some v)
cond-in true x v d = (refl, d)
cond-in false x v d = absurd (cc)

cond-none : (b : Bool) → None ≡ cond {A = Option Value} b None None
cond-none true = refl
cond-none false = refl

-- the two ways of a test make up the whole
both-apart : (b : Bool) (x : Option Value) → Apart (cond b x None) (cond b None x)
both-apart true None = tt
both-apart true (Some v) = tt
both-apart false x = tt

both-or : (b : Bool) (x : Option Value) → x ≡ option_or (cond b x None) (cond b None x)
both-or true None = refl
both-or true (Some v) = refl
both-or false x = refl

-- a bare contract holds of no cells
sat-bare : (a : Level Expr) (see : Expr → Value) (h : Heap) → HasNoConjunct a → IsEmpty h → Sat a see (λ n. nil) h
sat-bare (level made none) see h bare e = (λ n. nil, λ n i. refl, e)
sat-bare (level made (also c cs)) see h bare e = absurd bare

module _ (p : Program) (formed : IsFormed p) (conditions : Conditions p) (f : ProcId) (store : Store) (heap : Heap)
    (c : Config) (s : Start p f store heap c) where
  abbrev g : Procedure
  g = s.procedure

  -- the entry's frame, with the values that its value parameters have
  abbrev pub entry : Known
  entry = record {
    fixed = (entry_frame f g).fixed;
    values = λ i. unwrap_or (store (own 0 (g.references + i))) nil;
  }

  -- it doesn't set the resources up
  pub entry-plain : sets_up p entry.fixed.procedure ≡ false
  entry-plain = sets_up-is p f g s.there ∙ s.no_init

  -- the slot is one of the entry's
  abbrev is_entry : Slot → Bool
  is_entry (own event i) = ltb i (length g.names)
  is_entry (shared r i) = false

  -- what the entry's frame owns, with the cells of that heap
  abbrev entry_share : Heap → Own
  entry_share h = record { cells = h; slots = only is_entry store; tokens = λ r. None }

  -- the entry's variables are among the first
  first-more : (b : Beginning) (i : ℕ) → i < length g.names → i < first_count b g
  first-more settled i l = l
  first-more (fresh n h) i l = omega (arith, l)

  -- none of a resource is free in the entry
  start-not_free : (r : ResId) (i : ℕ) → Free p f (Shared r i) → ⊥
  start-not_free r i = unheld-is_not_free p f r i formed conditions (s.holds_none r)

  start-not_shared : (r : ResId) (i : ℕ) → IsVariableOf p f g (Shared r i) → ⊥
  start-not_shared r i (inl a) = start-not_free r i a
  start-not_shared r i (inr a) = true≢false (sym a.0 ∙ s.no_init)

  start-apart : (x y : Var) → IsVariableOf p f g x → IsVariableOf p f g y → entry_slot x ≡ entry_slot y
      → x ≡ y
  start-apart (OwnVar i) (OwnVar j) a b e = cc
  start-apart (OwnVar i) (Shared q j) a b e = absurd (start-not_shared q j b)
  start-apart (Shared r i) y a b e = absurd (start-not_shared r i a)

  start-frame : IsFrameOf p entry.fixed g
  start-frame = record {
    there = s.there;
    count = refl;
    own_slots = λ i l m. ap (own 0) (own-back g.references i l);
    shared_slots = λ r i. refl;
    apart = start-apart;
  }

  entry-has : (h : Heap) (i : ℕ) → i < length g.names → (entry_share h).slots (own 0 i) ≡ store (own 0 i)
  entry-has h i l = ap (λ b. cond b (store (own 0 i)) None) (less-is i (length g.names) l)

  start-each : (h : Heap) (x : Var) → IsVariableOf p f g x
      → (v : Value) × ((entry_share h).slots (entry_slot x) ≡ Some v)
  start-each h (OwnVar i) l =
      let k = s.kept (own 0 i) (refl, first-more s.beginning i l) in
      (k.0, entry-has h i l ∙ k.1)
  start-each h (Shared r i) a = absurd (start-not_shared r i a)

  start-only : (h : Heap) (slot : Slot) (v : Value) → (entry_share h).slots slot ≡ Some v
      → (x : Var) × IsVariableOf p f g x × (entry_slot x ≡ slot)
  start-only h (own e i) v a =
      let b = cond-in (ltb i (length g.names)) (store (own e i)) v a in
      let m = s.no_more (own e i) v b.1 in
      (OwnVar i, is-less i (length g.names) b.0, ap (λ z. own z i) (sym m.0))
  start-only h (shared r i) v a = absurd (cc)

  -- what its precondition mentions is its own
  pre-own : (i : ℕ) → VarOccursIn g.pre.level (OwnVar i) → i < length g.names
  pre-own i o =
      let within = formed.procedures f.0 g s.there in
      let l : i < g.references + g.values =
      level_within p.fields (IsParameter p g) [] (OwnVar i) g.pre.level within.pre.annotation.within o in
      let m : g.references + g.values + g.locals ≤ length g.names = within.declared in
      omega (arith, l, m)

  -- its precondition speaks of its own variables alone
  start-pre : (h : Heap) → MeetsPre g store h
      → Sat g.pre.level (evaluate entry_slot (entry_share h).slots) (λ n. nil) h
  start-pre h =
      sat-same_variables g.pre.level (λ x. unwrap_or (store (entry_slot x)) nil)
      (λ x. unwrap_or ((entry_share h).slots (entry_slot x)) nil) (λ n. nil) h (λ x o. go x o)
    where
      go : (x : Var) → VarOccursIn g.pre.level x
          → unwrap_or (store (entry_slot x)) nil ≡ unwrap_or ((entry_share h).slots (entry_slot x)) nil
      go (OwnVar i) o = ap (λ z. unwrap_or z nil) (sym (entry-has h i (pre-own i o)))
      go (Shared r i) o =
          absurd (s.holds_none r (inl (record { procedure = g; there = s.there; variable = i; occurs = inl o })))

  start-entered : (h : Heap) → MeetsPre g store h → Entered p entry (entry_share h)
  start-entered h pre = record {
    procedure = g;
    owns = record {
      frame = start-frame;
      variables = record { each = start-each h; only = start-only h };
      tokens = λ r. sym (ap (λ b. cond {A = Option (Unit {0})} (b && ltb r.0 (length p.resources)) (Some tt) None)
          s.no_init);
      values = λ i l. ap (λ z. unwrap_or z nil) (entry-has h (g.references + i) (small i l));
    };
    locals = λ i l m. ap (λ z. unwrap_or z nil)
        (entry-has h i m ∙ s.locals i l (first-more s.beginning i m));
    unset = λ r i a. absurd (true≢false (sym a.0 ∙ s.no_init));
    pre = start-pre h pre;
  }
    where
      small : (i : ℕ) → i < g.values → g.references + i < length g.names
      small i l =
          let m : g.references + g.values + g.locals ≤ length g.names = (formed.procedures f.0 g s.there).declared in
          omega (arith, l, m)

  zero-used : (e : ℕ) → e ≡ 0 → e == 0 ≡ true
  zero-used e i = grind (arith, nat_tests, i)

  start-made : (slot : Slot) → store slot ≢ None → IsMadeBefore (initial_config s.beginning p f g store heap) slot
  start-made (shared r i) n = tt
  start-made (own e i) n = go (store (own e i)) refl
    where
      go : (v : Option Value) → store (own e i) ≡ v
          → IsMadeBefore (initial_config s.beginning p f g store heap) (own e i)
      go None j = absurd (n j)
      go (Some v) j = zero-used e (s.no_more (own e i) v j).0

  -- SETTLED
  module _ (is : s.beginning ≡ settled) (w : BeginsWith settled p g store heap) where
    abbrev free_share : Own
    free_share = rest_share p formed store (λ r i h. s.kept (shared r i) h) (λ r i v e. s.no_more (shared r i) v e) 0
        w.right

    from-zero : (r : ℕ) → leb 0 r ≡ true
    from-zero r = grind (arith, nat_tests)

    token-zero : (r n : ℕ) → leb 0 r && ltb r n ≡ ltb r n
    token-zero r n = ap (λ b. b && ltb r n) (from-zero r)

    -- there is no other slot of number 0
    no-other : (e i : ℕ) (v : Value) → store (own e i) ≡ Some v → i < length g.names
    no-other e i v h = subst (λ b. i < first_count b g) is (s.no_more (own e i) v h).1

    own-whole : (e i : ℕ) → store (own e i) ≡ cond (ltb i (length g.names)) (store (own e i)) None
    own-whole e i = go (store (own e i)) refl
      where
        go : (o : Option Value) → store (own e i) ≡ o → o ≡ cond (ltb i (length g.names)) o None
        go None h = cond-none (ltb i (length g.names))
        go (Some v) h = sym (ap (λ b. cond b (Some v) None) (less-is i (length g.names) (no-other e i v h)))

    settled-slots : (y : Slot) → Apart (only is_entry store y) (free_share.slots y)
    settled-slots (own e i) = go (only is_entry store (own e i))
      where
        go : (x : Option Value) → Apart x None
        go None = tt
        go (Some x) = tt
    settled-slots (shared r i) = tt

    settled-or : (y : Slot) → store y ≡ option_or (only is_entry store y) (free_share.slots y)
    settled-or (own e i) = own-whole e i ∙ go (only is_entry store (own e i))
      where
        go : (x : Option Value) → x ≡ option_or x None
        go None = refl
        go (Some x) = refl
    settled-or (shared r i) = sym (ap (λ b. cond b (store (shared r i)) None) (from-zero r.0))

    settled-parts : Parts (everything p (initial_config settled p f g store heap).common) (entry_share w.left) free_share
    settled-parts = record {
      cells = w.splits;
      slots = record { apart = settled-slots; is = settled-or };
      tokens = record {
        apart = λ r. tt;
        is = λ r. ap (λ b. cond {A = Option (Unit {0})} b (Some tt) None) (sym (token-zero r.0 (length p.resources)));
      };
    }

    zero-plus : (n : ℕ) → n ≡ 0 + n
    zero-plus n = omega arith

    settled-owned : BodiesAreSafe p → (n : ℕ) → IsOwned p n entry (initial_config settled p f g store heap)
    settled-owned bodies n = record {
      tasks = entry_share w.left;
      free = free_share;
      parts = settled-parts;
      tree = (
        entry.values,
        record {
          left = entry_share w.left;
          right = nothing;
          parts = parts-nothing (entry_share w.left);
          first = bodies entry g s.there n (entry_share w.left) (start-entered w.left w.first);
          second = (refl, refl);
        },
      );
      resources = settled-resources p formed store (λ r i h. s.kept (shared r i) h)
          (λ r i v e. s.no_more (shared r i) v e) 0 p.resources w.right (zero-plus (length p.resources))
          (λ i q e. subst (λ z. slice_get p.resources z ≡ Some q) (zero-plus i) e) w.second;
      made = λ slot h. subst (λ b. IsMadeBefore (initial_config b p f g store heap) slot) is (start-made slot h);
      stays = tt;
      plain = entry-plain;
    }

  -- FRESH
  module _ (m : ProcId) (h : Procedure) (is : s.beginning ≡ fresh m h) (w : BeginsWith (fresh m h) p g store heap) where
    -- its procedure has no parameter and no contract
    bare : IsBare h
    bare = (formed.procedures m.0 h w.0).init w.1

    -- its frame, with no values
    abbrev init_known : Known
    init_known = record { fixed = (init_frame m h (length g.names)).fixed; values = λ i. nil }

    -- what it owns: all that isn't the entry's, and no cells
    abbrev init_share : Own
    init_share = record {
      cells = λ a. None;
      slots = λ y. cond (is_entry y) None (store y);
      tokens = λ r. cond (ltb r.0 (length p.resources)) (Some tt) None;
    }

    past-entry : (i : ℕ) → ltb (length g.names + i) (length g.names) ≡ false
    past-entry i = grind (arith, nat_tests)

    rest-has : (i : ℕ) → init_share.slots (own 0 (length g.names + i)) ≡ store (own 0 (length g.names + i))
    rest-has i = ap (λ b. cond b None (store (own 0 (length g.names + i)))) (past-entry i)

    init-own : (i : ℕ) → i < length h.names → length g.names + i < first_count s.beginning g
    init-own i l = subst (λ b. length g.names + i < first_count b g) (sym is) (omega (arith, l))

    own-same_number : (a i j : ℕ) → own 0 (a + i) ≡ own 0 (a + j) → i ≡ j
    own-same_number a i j e = let z : a + i ≡ a + j = cc in omega (arith, z)

    init-apart : (x y : Var) → IsVariableOf p m h x → IsVariableOf p m h y
        → init_slot (length g.names) x ≡ init_slot (length g.names) y → x ≡ y
    init-apart (OwnVar i) (OwnVar j) a b e = ap OwnVar (own-same_number (length g.names) i j e)
    init-apart (OwnVar i) (Shared q j) a b e = absurd (cc)
    init-apart (Shared r i) (OwnVar j) a b e = absurd (cc)
    init-apart (Shared r i) (Shared q j) a b e = cc

    own-at : (i : ℕ) → own 0 (length g.names + i) ≡ own 0 (length g.names + (i - h.references))
    own-at i =
        let none : h.references ≡ 0 = bare.references in
        let same : i ≡ i - h.references = omega (arith, none) in
        ap (λ z. own 0 (length g.names + z)) same

    init-frame : IsFrameOf p init_known.fixed h
    init-frame = record {
      there = w.0;
      count = refl;
      own_slots = λ i l n. own-at i;
      shared_slots = λ r i. refl;
      apart = init-apart;
    }

    -- a variable of a resource is there
    shared-is : (r : ResId) (i : ℕ) → i < variable_count (slice_get p.resources r.0) → HasVariable p r i
    shared-is r i l = go (slice_get p.resources r.0) refl l
      where
        go : (o : Option Resource) → slice_get p.resources r.0 ≡ o → i < variable_count o → HasVariable p r i
        go None e l = let z : i < 0 = l in absurd (omega (arith, z))
        go (Some q) e l = (q, e, l)

    shared-in : (r : ResId) (i : ℕ) → IsVariableOf p m h (Shared r i) → HasVariable p r i
    shared-in r i (inl a) = shared-is r i (free_within p m r i formed a)
    shared-in r i (inr a) = shared-is r i a.1

    init-each : (x : Var) → IsVariableOf p m h x
        → (v : Value) × (init_share.slots (init_slot (length g.names) x) ≡ Some v)
    init-each (OwnVar i) l =
        let k = s.kept (own 0 (length g.names + i)) (refl, init-own i l) in (k.0, rest-has i ∙ k.1)
    init-each (Shared r i) a = s.kept (shared r i) (shared-in r i a)

    init-only : (slot : Slot) (v : Value) → init_share.slots slot ≡ Some v
        → (x : Var) × IsVariableOf p m h x × (init_slot (length g.names) x ≡ slot)
    init-only (own e i) v a = go (ltb i (length g.names)) refl a
      where
        go : (b : Bool) → ltb i (length g.names) ≡ b → cond b None (store (own e i)) ≡ Some v
            → (x : Var) × IsVariableOf p m h x × (init_slot (length g.names) x ≡ own e i)
        go true j a = absurd (cc)
        go false j a =
            let k = s.no_more (own e i) v a in
            let l : length g.names ≤ i = not-less i (length g.names) j in
            let n : i < length g.names + length h.names = subst (λ b. i < first_count b g) is k.1 in
            let below : i - length g.names < length h.names = omega (arith, l, n) in
            let same : length g.names + (i - length g.names) ≡ i = omega (arith, l) in
            (OwnVar (i - length g.names), below, ap₂ own (sym k.0) same)
    init-only (shared r i) v a =
        let k = s.no_more (shared r i) v a in
        let count : length (k.0).variables ≡ variable_count (slice_get p.resources r.0) =
        ap variable_count (sym k.1) in
        (Shared r i, inr (w.1, subst (λ z. i < z) count k.2), refl)

    -- all of it is nil
    init-nil : (i : ℕ) → i < length h.names → store (own 0 (length g.names + i)) ≡ Some nil
    init-nil i l =
        let e : g.references + g.values + g.locals ≤ length g.names = (formed.procedures f.0 g s.there).declared in
        s.locals (length g.names + i) (omega (arith, e)) (init-own i l)

    shared-nil : (r : ResId) (i : ℕ) → unwrap_or (store (shared r i)) nil ≡ nil
    shared-nil r i = go (store (shared r i)) refl
      where
        go : (o : Option Value) → store (shared r i) ≡ o → unwrap_or o nil ≡ nil
        go None e = refl
        go (Some v) e = w.2 r i v e

    init-entered : Entered p init_known init_share
    init-entered = record {
      procedure = h;
      owns = record {
        frame = init-frame;
        variables = record { each = init-each; only = init-only };
        tokens = λ r. sym (ap (λ b. cond {A = Option (Unit {0})} (b && ltb r.0 (length p.resources)) (Some tt) None)
            w.1);
        values = λ i l. let none : h.values ≡ 0 = bare.values in absurd (omega (arith, l, none));
      };
      locals = λ i l n. ap (λ z. unwrap_or z nil) (rest-has i ∙ init-nil i n);
      unset = λ r i a. shared-nil r i;
      pre = sat-bare h.pre.level _ (λ a. None) bare.pre empty-holds;
    }

    -- what it gives back to the entry is nothing
    gives-nothing : (back : Own) → Returned p init_known back → back ≡ nothing
    gives-nothing back r =
        let same : h ≡ r.ended.procedure = same_Some h r.ended.procedure (sym w.0 ∙ r.ended.owns.frame.there) in
        r.is ∙ ap (λ b. given_back b init_known.fixed.room r.full)
        (ap is_init (sym same) ∙ w.1)

    fresh-parts : Parts (everything p (initial_config (fresh m h) p f g store heap).common) init_share (entry_share heap)
    fresh-parts = parts-comm (record {
      cells = splits-empty_right empty-holds;
      slots = record { apart = λ y. both-apart (is_entry y) (store y); is = λ y. both-or (is_entry y) (store y) };
      tokens = splits-empty_left (record { none = λ r. refl });
    })

    -- every resource is held
    all-held : (k : ℕ) (rs : List Resource) → length p.resources ≡ k + length rs
        → Resources p (first_holders (fresh m h) p) k rs nothing
    all-held k [] e = refl
    all-held k (q ∷ rs) e = record {
      left = nothing;
      right = nothing;
      parts = parts-nothing nothing;
      first = subst (λ b. ShareOf p (cond b (Some []) None) (record { 0 = k }) nothing)
          (sym (less-is k (length p.resources) (omega (arith, e)))) refl;
      second = all-held (suc k) rs (omega (arith, e));
    }

    fresh-owned : BodiesAreSafe p → (n : ℕ) → IsOwned p n entry (initial_config (fresh m h) p f g store heap)
    fresh-owned bodies n = record {
      tasks = everything p (initial_config (fresh m h) p f g store heap).common;
      free = nothing;
      parts = parts-nothing _;
      tree = (
        init_known.values,
        record {
          left = init_share;
          right = entry_share heap;
          parts = fresh-parts;
          first = bodies init_known h w.0 n init_share init-entered;
          second = (
            entry.values,
            record {
              left = entry_share heap;
              right = nothing;
              parts = parts-nothing (entry_share heap);
              first = λ back after r q.
                  let same : after ≡ entry_share heap =
                  parts-of_nothing (parts-comm (subst (λ z. Parts after z (entry_share heap)) (gives-nothing back r) q)) in
                  subst (Safe p n entry (items g.body)) (sym same)
                  (bodies entry g s.there n (entry_share heap) (start-entered heap w.3));
              second = (refl, refl);
            },
          );
        },
      );
      resources = all-held 0 p.resources (zero-plus (length p.resources));
      made = λ slot e. subst (λ b. IsMadeBefore (initial_config b p f g store heap) slot) is (start-made slot e);
      stays = tt;
      plain = entry-plain;
    }
      where
        zero-plus : (n : ℕ) → n ≡ 0 + n
        zero-plus n = omega arith

  -- a start is owned, whatever number of events its tasks are to be safe for
  pub start-owned : BodiesAreSafe p → (n : ℕ) → IsOwned p n entry c
  start-owned bodies n = subst (IsOwned p n entry) (sym s.is) (go s.beginning refl s.begins)
    where
      go : (b : Beginning) → s.beginning ≡ b → BeginsWith b p g store heap
          → IsOwned p n entry (initial_config s.beginning p f g store heap)
      go settled e w = subst (λ z. IsOwned p n entry (initial_config z p f g store heap)) (sym e)
          (settled-owned e w bodies n)
      go (fresh m h) e w = subst (λ z. IsOwned p n entry (initial_config z p f g store heap)) (sym e)
          (fresh-owned m h e w bodies n)
