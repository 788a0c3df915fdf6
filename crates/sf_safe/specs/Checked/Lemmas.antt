-- Lemmas for the crates above: what is safe seen from inside is so for fewer events, with a weaker end, with more
-- to do after its end, and beside a part that it leaves alone.
-- The rules of consequence and of sequences, and the frame rule: Reynolds (2002), O'Hearn (2007).
use Rattle.std.specs.Prelude.{◌≡◌, ℕ, zero, suc, List, [], ◌∷◌, ◌++◌, Option, Some, None, get_or, map}
use Rattle.std.specs.Option.{unwrap_or}
use Rattle.std.proofs.Common.{sym, ap, ap₂, ◌∙◌, refl, subst}
use Rattle.std.proofs.lemmas.List.{append_assoc}
use Rattle.sf_base.specs.declared.ids.Var.{Var}
use Rattle.sf_base.specs.declared.value.Value.{Value}
use Rattle.sf_base.specs.declared.value.Value.TheVariants.{Nil as nil, Loc as loc}
use Rattle.sf_base.specs.HeapStore.{Cell, put_field}
use Rattle.sf_base.specs.Variables.{same_var}
use Rattle.sf_base.proofs.HeapSplits.{cell-change_left, cell-new_left}
use Rattle.sf_base.proofs.MapSplits.{splits-assoc_right, splits-comm, splits-has_left, splits-lacks_both, splits-lacks_right, splits-put_left, union}
use Rattle.sf_base.proofs.Variables.{same_var-decides}
use Rattle.sf_core.specs.declared.assertion.Test.{Test}
use Rattle.sf_core.specs.declared.assertion.Test.TheVariants.{True, Equal, Differ}
use Rattle.sf_core.specs.declared.command.Expr.{Expr}
use Rattle.sf_core.specs.declared.command.Expr.TheVariants.{Var as Variable, Nil, Int}
use Rattle.sf_core.specs.Assertions.Sat.{IsTrueOf}
use Rattle.sf_core.specs.Machine.Config.{Item, command, items, leave}
use Rattle.sf_core.specs.Program.Syntax.{Call, assign, look_up, mutate, new, dispose, if, while, call, fork, with, Procedure, Program}
use Rattle.sf_safe.specs.Checked.Local.{ComesBack, HasIn, HasInAll, HasInTest, HasVar, Lends, Local, LocalParts, arguments_in, look, put_local, put_variable}
use Rattle.sf_safe.specs.Checked.LocalSafe.{HasCell, LocalCalls, LocalForks, LocalSafe}

module _ (p : Program) where
  -- a call after which the frame goes on in one way, where that way comes to another
  pub calls-weaker : {l : Local} {c : Call} {g : Procedure} {A B : Local → Type 0} (a : LocalCalls p l c g A)
      → ((back after : Local) → ComesBack p c g (arguments_in l c) back → LocalParts after back a.kept
      → A after → B after)
      → LocalCalls p l c g B
  calls-weaker a go = record {
    fits = a.fits;
    lent = a.lent;
    kept = a.kept;
    parts = a.parts;
    lends = a.lends;
    goes_on = λ back after b q. go back after b q (a.goes_on back after b q);
  }

  -- the same of two calls
  pub forks-weaker : {l : Local} {c d : Call} {g h : Procedure} {A B : Local → Type 0}
      (a : LocalForks p l c d g h A)
      → ((one two back after : Local) → ComesBack p c g (arguments_in l c) one
      → ComesBack p d h (arguments_in l d) two → LocalParts back one two → LocalParts after back a.kept
      → A after → B after)
      → LocalForks p l c d g h B
  forks-weaker a go = record {
    fits_left = a.fits_left;
    fits_right = a.fits_right;
    lent = a.lent;
    left = a.left;
    right = a.right;
    kept = a.kept;
    parts = a.parts;
    apart = a.apart;
    lends_left = a.lends_left;
    lends_right = a.lends_right;
    goes_on = λ one two back after b o both q.
        go one two back after b o both q (a.goes_on one two back after b o both q);
  }

  -- what is safe for more events is so for fewer
  pub local-fewer : (n : ℕ) (End : Local → Type 0) (todo : List Item) (l : Local)
      → LocalSafe p (suc n) End todo l → LocalSafe p n End todo l
  local-fewer zero End todo l s = tt
  local-fewer (suc n) End [] l s = s
  local-fewer (suc n) End (command (assign place x e) ∷ rest) l s = (s.0, s.1, local-fewer n End rest _ s.2)
  local-fewer (suc n) End (command (look_up place x e field) ∷ rest) l s =
      (s.0, s.1, local-fewer n End rest _ s.2)
  local-fewer (suc n) End (command (mutate place e field v) ∷ rest) l s =
      (s.0, s.1, local-fewer n End rest _ s.2)
  local-fewer (suc n) End (command (new place x) ∷ rest) l s =
      (s.0, λ a c i e. local-fewer n End rest _ (s.1 a c i e))
  local-fewer (suc n) End (command (dispose place e) ∷ rest) l s = (s.0, local-fewer n End rest _ s.1)
  local-fewer (suc n) End (command (if place test this that) ∷ rest) l s = record {
    reads = s.reads;
    this = λ t. local-fewer n End (items this ++ rest) l (s.this t);
    that = λ t. local-fewer n End (items that ++ rest) l (s.that t);
  }
  local-fewer (suc n) End (command (while place test kept body) ∷ rest) l s = record {
    reads = s.reads;
    this = λ t. local-fewer n End (items body ++ (command (while place test kept body) ∷ rest)) l (s.this t);
    that = λ t. local-fewer n End rest l (s.that t);
  }
  local-fewer (suc n) End (command (call place c) ∷ rest) l s =
      (s.0, λ g i. calls-weaker (s.1 g i) (λ back after b q. local-fewer n End rest after))
  local-fewer (suc n) End (command (fork place c d) ∷ rest) l s = (
    s.0,
    s.1,
    λ g h i j. forks-weaker (s.2 g h i j) (λ one two back after x y q r. local-fewer n End rest after),
  )
  local-fewer (suc n) End (command (with place r test body) ∷ rest) l s = record {
    there = s.there;
    reads = s.reads;
    goes_on = λ share both f q t. local-fewer n End _ both (s.goes_on share both f q t);
  }
  local-fewer (suc n) End (leave r ∷ rest) l s = record {
    share = s.share;
    kept = s.kept;
    parts = s.parts;
    free = s.free;
    goes_on = local-fewer n End rest s.kept s.goes_on;
  }

  -- what is safe up to an end from which the rest is safe is safe with the rest
  pub local-append : (n : ℕ) (Mid End : Local → Type 0) (todo rest : List Item) (l : Local)
      → ((m : Local) → Mid m → LocalSafe p n End rest m) → LocalSafe p n Mid todo l
      → LocalSafe p n End (todo ++ rest) l
  local-append zero Mid End todo rest l h s = tt
  local-append (suc n) Mid End [] rest l h s = h l s
  local-append (suc n) Mid End (command (assign place x e) ∷ todo) rest l h s =
      (s.0, s.1, local-append n Mid End todo rest _ (λ m i. local-fewer n End rest m (h m i)) s.2)
  local-append (suc n) Mid End (command (look_up place x e field) ∷ todo) rest l h s =
      (s.0, s.1, local-append n Mid End todo rest _ (λ m i. local-fewer n End rest m (h m i)) s.2)
  local-append (suc n) Mid End (command (mutate place e field v) ∷ todo) rest l h s =
      (s.0, s.1, local-append n Mid End todo rest _ (λ m i. local-fewer n End rest m (h m i)) s.2)
  local-append (suc n) Mid End (command (new place x) ∷ todo) rest l h s =
      (s.0, λ a c i e. local-append n Mid End todo rest _ (λ m i. local-fewer n End rest m (h m i)) (s.1 a c i e))
  local-append (suc n) Mid End (command (dispose place e) ∷ todo) rest l h s =
      (s.0, local-append n Mid End todo rest _ (λ m i. local-fewer n End rest m (h m i)) s.1)
  local-append (suc n) Mid End (command (if place test this that) ∷ todo) rest l h s = record {
    reads = s.reads;
    this = λ t. subst (λ z. LocalSafe p n End z l) (append_assoc (items this) todo rest)
        (local-append n Mid End (items this ++ todo) rest l (λ m i. local-fewer n End rest m (h m i)) (s.this t));
    that = λ t. subst (λ z. LocalSafe p n End z l) (append_assoc (items that) todo rest)
        (local-append n Mid End (items that ++ todo) rest l (λ m i. local-fewer n End rest m (h m i)) (s.that t));
  }
  local-append (suc n) Mid End (command (while place test kept body) ∷ todo) rest l h s = record {
    reads = s.reads;
    this = λ t. subst (λ z. LocalSafe p n End z l)
        (append_assoc (items body) (command (while place test kept body) ∷ todo) rest)
        (local-append n Mid End (items body ++ (command (while place test kept body) ∷ todo)) rest l
        (λ m i. local-fewer n End rest m (h m i)) (s.this t));
    that = λ t. local-append n Mid End todo rest l (λ m i. local-fewer n End rest m (h m i)) (s.that t);
  }
  local-append (suc n) Mid End (command (call place c) ∷ todo) rest l h s = (
    s.0,
    λ g i. calls-weaker (s.1 g i) (λ back after b q.
        local-append n Mid End todo rest after (λ m i. local-fewer n End rest m (h m i))),
  )
  local-append (suc n) Mid End (command (fork place c d) ∷ todo) rest l h s = (
    s.0,
    s.1,
    λ g o i j. forks-weaker (s.2 g o i j) (λ one two back after x y q r.
        local-append n Mid End todo rest after (λ m i. local-fewer n End rest m (h m i))),
  )
  local-append (suc n) Mid End (command (with place r test body) ∷ todo) rest l h s = record {
    there = s.there;
    reads = s.reads;
    goes_on = λ share both f q t. subst (λ z. LocalSafe p n End z both)
        (append_assoc (items body) (leave r ∷ todo) rest)
        (local-append n Mid End (items body ++ (leave r ∷ todo)) rest both
        (λ m i. local-fewer n End rest m (h m i)) (s.goes_on share both f q t));
  }
  local-append (suc n) Mid End (leave r ∷ todo) rest l h s = record {
    share = s.share;
    kept = s.kept;
    parts = s.parts;
    free = s.free;
    goes_on = local-append n Mid End todo rest s.kept (λ m i. local-fewer n End rest m (h m i)) s.goes_on;
  }

  append-none : (todo : List Item) → todo ++ [] ≡ todo
  append-none [] = refl
  append-none (i ∷ todo) = ap (λ z. i ∷ z) (append-none todo)

  local-done : (n : ℕ) (Mid End : Local → Type 0) → ((m : Local) → Mid m → End m) → (m : Local) → Mid m
      → LocalSafe p n End [] m
  local-done zero Mid End h m i = tt
  local-done (suc n) Mid End h m i = h m i

  -- the end may be weaker
  pub local-weaken : (n : ℕ) (Mid End : Local → Type 0) (todo : List Item) (l : Local)
      → ((m : Local) → Mid m → End m) → LocalSafe p n Mid todo l → LocalSafe p n End todo l
  local-weaken n Mid End todo l h s = subst (λ z. LocalSafe p n End z l) (append-none todo)
      (local-append n Mid End todo [] l (local-done n Mid End h) s)

-- THE PARTS of what a frame has

-- two parts together
abbrev pub local-and : Local → Local → Local
local-and u v = record {
  values = union u.values v.values;
  cells = union u.cells v.cells;
  tokens = union u.tokens v.tokens;
}

-- the parts may be exchanged
pub local-comm : {w u v : Local} → LocalParts w u v → LocalParts w v u
local-comm q = record {
  values = splits-comm q.values;
  cells = splits-comm q.cells;
  tokens = splits-comm q.tokens;
}

-- (a b) c becomes a (b c)
pub local-right : {w ab a b c : Local} → LocalParts ab a b → LocalParts w ab c
    → LocalParts (local-and b c) b c × LocalParts w a (local-and b c)
local-right p q =
    let x = splits-assoc_right p.values q.values in
    let y = splits-assoc_right p.cells q.cells in
    let z = splits-assoc_right p.tokens q.tokens in (
      record { values = x.0; cells = y.0; tokens = z.0 },
      record { values = x.1; cells = y.1; tokens = z.1 },
    )

-- a (b c) becomes (b a) c, the first two in that order
pub local-left : {w bc a b c : Local} → LocalParts bc b c → LocalParts w a bc
    → LocalParts (local-and b a) a b × LocalParts w (local-and b a) c
local-left p q = let m = local-right (local-comm p) (local-comm q) in (local-comm m.0, local-comm m.1)

-- A PART in the whole
module _ (whole l extra : Local) (q : LocalParts whole l extra) where
  part-has : (x : Var) → HasVar l x → HasVar whole x
  part-has x h = (h.0, splits-has_left x h.0 q.values h.1)

  part-in : (e : Expr) → HasIn l e → HasIn whole e
  part-in (Variable x) h = part-has x.var h
  part-in Nil h = tt
  part-in (Int i) h = tt

  part-test : (test : Test Expr) → HasInTest l test → HasInTest whole test
  part-test True h = tt
  part-test (Equal x y) h = (part-in x h.0, part-in y h.1)
  part-test (Differ x y) h = (part-in x h.0, part-in y h.1)

  part-all : (es : List Expr) → HasInAll l es → HasInAll whole es
  part-all [] h = tt
  part-all (e ∷ es) h = (part-in e h.0, part-all es h.1)

  part-look : (e : Expr) → HasIn l e → look whole e ≡ look l e
  part-look (Variable x) h = ap (λ z. unwrap_or z nil) (splits-has_left x.var h.0 q.values h.1 ∙ sym h.1)
  part-look Nil h = refl
  part-look (Int i) h = refl

  part-true : (test : Test Expr) → HasInTest l test → IsTrueOf (look whole) test ≡ IsTrueOf (look l) test
  part-true True h = refl
  part-true (Equal x y) h = ap₂ (λ a b. a ≡ b) (part-look x h.0) (part-look y h.1)
  part-true (Differ x y) h = ap₂ (λ a b. a ≡ b → ⊥) (part-look x h.0) (part-look y h.1)

  part-values : (es : List Expr) → HasInAll l es → map (look whole) es ≡ map (look l) es
  part-values [] h = refl
  part-values (e ∷ es) h = ap₂ (λ a b. a ∷ b) (part-look e h.0) (part-values es h.1)

  part-arguments : (c : Call) → HasInAll l c.values → arguments_in whole c ≡ arguments_in l c
  part-arguments c h = ap (λ vs. λ i. get_or vs i nil) (part-values c.values h)

  abbrev part-cell : (e : Expr) → HasCell l e → HasCell whole e
  part-cell e at = record {
    location = at.location;
    cell = at.cell;
    reads = part-in e at.reads;
    finds = record {
      is = part-look e at.reads ∙ at.finds.is;
      there = splits-has_left at.location at.cell q.cells at.finds.there;
    };
  }

  part-put : (x : Var) (v : Value) → HasVar l x → LocalParts (put_variable x v whole) (put_variable x v l) extra
  part-put x v h = record {
    values = splits-put_left (λ y. same_var y x) x (Some v) (λ y t. (same_var-decides y x).0 t)
        (splits-lacks_right x h.0 q.values h.1) q.values;
    cells = q.cells;
    tokens = q.tokens;
  }

  part-put_cell : (location : ℕ) (old : Cell) (c : Option Cell) → l.cells location ≡ Some old
      → LocalParts (put_local location c whole) (put_local location c l) extra
  part-put_cell location old c h = record {
    values = q.values;
    cells = cell-change_left location old c q.cells h;
    tokens = q.tokens;
  }

  part-new : (location : ℕ) (c : Option Cell) → whole.cells location ≡ None
      → LocalParts (put_local location c whole) (put_local location c l) extra
  part-new location c h = record {
    values = q.values;
    cells = cell-new_left location c q.cells h;
    tokens = q.tokens;
  }

-- what holds of a part beside that other part
pub record Beside (End : Local → Type 0) (extra whole : Local) : Type 0 where
  pub part : Local
  pub parts : LocalParts whole part extra
  pub holds : End part

module _ (p : Program) where
  -- the frame rule: what is safe is so beside any other part, which stays as it is
  pub local-frame : (n : ℕ) (End : Local → Type 0) (todo : List Item) (l whole extra : Local)
      → LocalParts whole l extra → LocalSafe p n End todo l → LocalSafe p n (Beside End extra) todo whole
  local-frame zero End todo l whole extra q s = tt
  local-frame (suc n) End [] l whole extra q s = record { part = l; parts = q; holds = s }
  local-frame (suc n) End (command (assign place x e) ∷ rest) l whole extra q s = (
    part-has whole l extra q x.var s.0,
    part-in whole l extra q e s.1,
    subst (λ v. LocalSafe p n (Beside End extra) rest (put_variable x.var v whole))
        (sym (part-look whole l extra q e s.1))
        (local-frame n End rest (put_variable x.var (look l e) l) (put_variable x.var (look l e) whole) extra
        (part-put whole l extra q x.var (look l e) s.0) s.2),
  )
  local-frame (suc n) End (command (look_up place x e field) ∷ rest) l whole extra q s = (
    part-has whole l extra q x.var s.0,
    part-cell whole l extra q e s.1,
    local-frame n End rest (put_variable x.var (s.1.cell field.0) l)
        (put_variable x.var (s.1.cell field.0) whole) extra
        (part-put whole l extra q x.var (s.1.cell field.0) s.0) s.2,
  )
  local-frame (suc n) End (command (mutate place e field v) ∷ rest) l whole extra q s =
      let at = s.1 in
      let c = Some (put_field at.cell field.0 (look l v)) in (
        part-in whole l extra q v s.0,
        part-cell whole l extra q e at,
        subst (λ z. LocalSafe p n (Beside End extra) rest
            (put_local at.location (Some (put_field at.cell field.0 z)) whole))
            (sym (part-look whole l extra q v s.0))
            (local-frame n End rest (put_local at.location c l) (put_local at.location c whole) extra
            (part-put_cell whole l extra q at.location at.cell c at.finds.there) s.2),
      )
  local-frame (suc n) End (command (new place x) ∷ rest) l whole extra q s = (
    part-has whole l extra q x.var s.0,
    λ location cell i e.
        local-frame n End rest (put_variable x.var (loc location) (put_local location (Some cell) l))
        (put_variable x.var (loc location) (put_local location (Some cell) whole)) extra
        (part-put (put_local location (Some cell) whole) (put_local location (Some cell) l) extra
        (part-new whole l extra q location (Some cell) e) x.var (loc location) s.0)
        (s.1 location cell i (splits-lacks_both location q.cells e).0),
  )
  local-frame (suc n) End (command (dispose place e) ∷ rest) l whole extra q s = (
    part-cell whole l extra q e s.0,
    local-frame n End rest (put_local s.0.location None l) (put_local s.0.location None whole) extra
        (part-put_cell whole l extra q s.0.location s.0.cell None s.0.finds.there) s.1,
  )
  local-frame (suc n) End (command (if place test this that) ∷ rest) l whole extra q s =
      let same = part-true whole l extra q test s.reads in record {
        reads = part-test whole l extra q test s.reads;
        this = λ t. local-frame n End (items this ++ rest) l whole extra q (s.this (subst (λ z. z) same t));
        that = λ t. local-frame n End (items that ++ rest) l whole extra q
            (s.that (λ i. t (subst (λ z. z) (sym same) i)));
      }
  local-frame (suc n) End (command (while place test kept body) ∷ rest) l whole extra q s =
      let same = part-true whole l extra q test s.reads in record {
        reads = part-test whole l extra q test s.reads;
        this = λ t. local-frame n End (items body ++ (command (while place test kept body) ∷ rest)) l whole extra q
            (s.this (subst (λ z. z) same t));
        that = λ t. local-frame n End rest l whole extra q (s.that (λ i. t (subst (λ z. z) (sym same) i)));
      }
  local-frame (suc n) End (command (call place c) ∷ rest) l whole extra q s = (
    part-all whole l extra q c.values s.0,
    λ g i.
        let a = s.1 g i in
        let m = local-right a.parts q in
        let args = part-arguments whole l extra q c s.0 in
        record {
          fits = a.fits;
          lent = a.lent;
          kept = local-and a.kept extra;
          parts = m.1;
          lends = subst (λ z. Lends p c g z a.lent) (sym args) a.lends;
          goes_on = λ back after b r.
              let o = local-left m.0 r in
              local-frame n End rest (local-and a.kept back) after extra o.1
              (a.goes_on back (local-and a.kept back) (subst (λ z. ComesBack p c g z back) args b) o.0);
        },
  )
  local-frame (suc n) End (command (fork place c d) ∷ rest) l whole extra q s = (
    part-all whole l extra q c.values s.0,
    part-all whole l extra q d.values s.1,
    λ g h i j.
        let a = s.2 g h i j in
        let m = local-right a.parts q in
        let args = part-arguments whole l extra q c s.0 in
        let args2 = part-arguments whole l extra q d s.1 in
        record {
          fits_left = a.fits_left;
          fits_right = a.fits_right;
          lent = a.lent;
          left = a.left;
          right = a.right;
          kept = local-and a.kept extra;
          parts = m.1;
          apart = a.apart;
          lends_left = subst (λ z. Lends p c g z a.left) (sym args) a.lends_left;
          lends_right = subst (λ z. Lends p d h z a.right) (sym args2) a.lends_right;
          goes_on = λ one two back after x y r1 r.
              let o = local-left m.0 r in
              local-frame n End rest (local-and a.kept back) after extra o.1
              (a.goes_on one two back (local-and a.kept back) (subst (λ z. ComesBack p c g z one) args x)
              (subst (λ z. ComesBack p d h z two) args2 y) r1 o.0);
        },
  )
  local-frame (suc n) End (command (with place r test body) ∷ rest) l whole extra q s = record {
    there = s.there;
    reads = λ share both f r.
        let m = local-right q r in
        let o = local-left (local-comm m.0) m.1 in
        part-test both (local-and share l) extra o.1 test (s.reads share (local-and share l) f o.0);
    goes_on = λ share both f r t.
        let m = local-right q r in
        let o = local-left (local-comm m.0) m.1 in
        let same = part-true both (local-and share l) extra o.1 test
        (s.reads share (local-and share l) f o.0) in
        local-frame n End _ (local-and share l) both extra o.1
        (s.goes_on share (local-and share l) f o.0 (subst (λ z. z) same t));
  }
  local-frame (suc n) End (leave r ∷ rest) l whole extra q s =
      let m = local-right s.parts q in record {
        share = s.share;
        kept = local-and s.kept extra;
        parts = m.1;
        free = s.free;
        goes_on = local-frame n End rest s.kept (local-and s.kept extra) extra m.0 s.goes_on;
      }
