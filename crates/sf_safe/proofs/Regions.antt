-- Entries and exits of regions keep what is owned.
-- Names: `resources-LAW` speaks of the shares of the resources; else the event's.
use Rattle.std.specs.Prelude.{◌≡◌, ℕ, suc, Bool, true, false, cond, List, [], ◌∷◌, Option, Some, None, ◌==◌, ◌<◌, ◌≤◌, ◌+◌, length}
use Rattle.std.proofs.Common.{sym, ap, refl, subst, arith}
use Rattle.std.proofs.lemmas.Bool.Decides.{nat_tests}
use Rattle.std.proofs.lemmas.Option.{slice_get_within}
use Rattle.sf_base.specs.declared.ids.ResId.{ResId}
use Rattle.sf_base.specs.declared.place.Place.{Place}
use Rattle.sf_core.specs.declared.assertion.Test.{Test}
use Rattle.sf_core.specs.declared.command.Expr.{Expr}
use Rattle.sf_core.specs.Machine.Config.{Item, command, leave, Frame, Task, Path, Common}
use Rattle.sf_core.specs.Machine.Step.{Event, Does, set_holder, task_with}
use Rattle.sf_core.specs.Program.Syntax.{Block, with, Program, Resource}
use Rattle.sf_safe.specs.Checked.Own.{Own, Parts, everything, nothing}
use Rattle.sf_safe.specs.Checked.Contract.{Known, FreeShare}
use Rattle.sf_safe.specs.Checked.Safe.{Safe}
use Rattle.sf_safe.specs.Checked.Invariant.{known, Running, Tree, ShareOf, Resources}
use Rattle.sf_safe.specs.Checked.LawsOfShares.{After}
use Rattle.sf_safe.specs.Checked.Owns.{Sums, group, opened, order, parts-comm, parts-nothing, parts-of_nothing, parts-right, two}
use Rattle.sf_safe.specs.Checked.Seen.{seen-test}
use Rattle.sf_safe.proofs.Shuffles.{after-entry}
use Rattle.sf_safe.specs.Checked.Fewer.{fewer-callers}

-- who holds the resources when one of them changes hands
abbrev pub now : (ResId → Option Path) → ResId → Option Path → ResId → Option Path
now held r holder = λ q. cond (q.0 == r.0) holder (held q)

later : (m r : ℕ) → r < m → m == r ≡ false
later m r h = grind (arith, nat_tests)

equal : (m r : ℕ) → m == r ≡ true → m ≡ r
equal m r h = grind (arith, nat_tests)

further : (m r : ℕ) → m ≤ r → m == r ≡ false → suc m ≤ r
further m r h e = grind (arith, nat_tests)

module _ (p : Program) where
  -- the shares of resources with greater numbers stay
  pub resources-others : (held : ResId → Option Path) (r : ResId) (holder : Option Path) (m : ℕ) (rs : List Resource)
      (w : Own) → r.0 < m → Resources p held m rs w → Resources p (now held r holder) m rs w
  resources-others held r holder m [] w h s = s
  resources-others held r holder m (q ∷ rs) w h s = record {
    left = s.left;
    right = s.right;
    parts = s.parts;
    first = subst (λ z. ShareOf p z (record { 0 = m }) s.left)
        (sym (ap (λ b. cond b holder (held (record { 0 = m }))) (later m r.0 h))) s.first;
    second = resources-others held r holder (suc m) rs s.right (omega (arith, h)) s.second;
  }

  -- the share of one free resource, taken out
  pub record Taken (held : ResId → Option Path) (r : ResId) (path : Path) (m : ℕ) (rs : List Resource) (w : Own)
      : Type 0 where
    pub share : Own
    pub rest : Own
    pub parts : Parts w share rest
    pub free : FreeShare p r share
    pub others : Resources p (now held r (Some path)) m rs rest

  pub resources-take : (held : ResId → Option Path) (r : ResId) (path : Path) (m : ℕ) (rs : List Resource) (w : Own)
      → m ≤ r.0 → r.0 < m + length rs → held r ≡ None → Resources p held m rs w → Taken held r path m rs w
  resources-take held r path m [] w l h e s = absurd (omega (arith, l, h))
  resources-take held r path m (q ∷ rs) w l h e s =
      go (m == r.0) refl (λ a. resources-take held r path (suc m) rs s.right a (omega (arith, h)) e s.second)
    where
      go : (b : Bool) → m == r.0 ≡ b → (suc m ≤ r.0 → Taken held r path (suc m) rs s.right)
          → Taken held r path m (q ∷ rs) w
      go true i ih =
          let same : record { 0 = m } ≡ r = λ j. record { 0 = equal m r.0 i j } in
          let mine = subst (λ z. ShareOf p (held z) z s.left) same s.first in
          record {
            share = s.left;
            rest = s.right;
            parts = s.parts;
            free = subst (λ z. ShareOf p z r s.left) e mine;
            others = record {
              left = nothing;
              right = s.right;
              parts = parts-comm (parts-nothing s.right);
              first = subst (λ z. ShareOf p z (record { 0 = m }) nothing)
                  (sym (ap (λ b. cond b (Some path) (held (record { 0 = m }))) i)) refl;
              second = resources-others held r (Some path) (suc m) rs s.right
                  (let a = equal m r.0 i in omega (arith, a)) s.second;
            };
          }
      go false i ih =
          let t = ih (further m r.0 l i) in
          let a = parts-right t.parts (parts-comm s.parts) in
          record {
            share = t.share;
            rest = _;
            parts = a.1;
            free = t.free;
            others = record {
              left = s.left;
              right = t.rest;
              parts = parts-comm a.0;
              first = subst (λ z. ShareOf p z (record { 0 = m }) s.left)
                  (sym (ap (λ b. cond b (Some path) (held (record { 0 = m }))) i)) s.first;
              second = t.others;
            };
          }

  -- the share of one resource, given back
  pub resources-give : (held : ResId → Option Path) (r : ResId) (path : Path) (m : ℕ) (rs : List Resource)
      (w i e : Own) → m ≤ r.0 → r.0 < m + length rs → held r ≡ Some path → FreeShare p r i → Parts w i e
      → Resources p held m rs e → Resources p (now held r None) m rs w
  resources-give held r path m [] w i e l h d free q s = absurd (omega (arith, l, h))
  resources-give held r path m (o ∷ rs) w i e l h d free q s =
      go (m == r.0) refl
      (λ a x y. resources-give held r path (suc m) rs x i s.right a (omega (arith, h)) d free y s.second)
    where
      go : (b : Bool) → m == r.0 ≡ b
          → (suc m ≤ r.0 → (x : Own) → Parts x i s.right → Resources p (now held r None) (suc m) rs x)
          → Resources p (now held r None) m (o ∷ rs) w
      go true j ih =
          let same : record { 0 = m } ≡ r = λ k. record { 0 = equal m r.0 j k } in
          let none = subst (λ z. ShareOf p z r s.left) d (subst (λ z. ShareOf p (held z) z s.left) same s.first) in
          let rest : e ≡ s.right = parts-of_nothing (parts-comm (subst (λ z. Parts e z s.right) none s.parts)) in
          record {
            left = i;
            right = s.right;
            parts = subst (Parts w i) rest q;
            first = subst (λ z. ShareOf p z (record { 0 = m }) i)
                (sym (ap (λ b. cond b None (held (record { 0 = m }))) j)) (subst (λ z. FreeShare p z i) (sym same) free);
            second = resources-others held r None (suc m) rs s.right (let a = equal m r.0 j in omega (arith, a)) s.second;
          }
      go false j ih =
          let x = parts-right s.parts (parts-comm q) in
          record {
            left = s.left;
            right = _;
            parts = x.1;
            first = subst (λ z. ShareOf p z (record { 0 = m }) s.left)
                (sym (ap (λ b. cond b None (held (record { 0 = m }))) j)) s.first;
            second = ih (further m r.0 l j) _ (parts-comm x.0);
          }

module _ (p : Program) (n : ℕ) (owed : Known) (f : Frame) (below : List Frame) (s t : Common) (task : Task)
    (u q e : Own) (sums : Sums (everything p s) (u ∷ q ∷ e ∷ []))
    (running : Running p (suc n) owed (f ∷ below) u) (free : Resources p s.held 0 p.resources e) where
  -- an entry: the share of the free resource comes to the frame
  pub entered : (ev : Event) (place : Place) (r : ResId) (test : Test Expr) (body : Block) (rest : List Item)
      → f.todo ≡ command (with place r test body) ∷ rest
      → Does p ev s f.fixed below (with place r test body) rest t task → After p n owed t task q
  entered ev place r test body rest i d =
      let v = running.0 in
      let k = running.1 in
      let safe = subst (λ z. Safe p (suc n) (known f v) z k.left) i k.first in
      let taken = resources-take p s.held r ev.task 0 p.resources e (omega arith)
      (let l : r.0 < length p.resources = safe.there in omega (arith, l)) d.0 free in
      let all = opened (k.left ∷ k.right ∷ []) (q ∷ e ∷ []) sums (two k.parts) in
      let all2 = order (2 ∷ 2 ∷ 2 ∷ 0 ∷ []) (taken.share ∷ taken.rest ∷ k.left ∷ k.right ∷ q ∷ []) (everything p s)
      (opened (taken.share ∷ taken.rest ∷ []) (k.left ∷ k.right ∷ q ∷ [])
      (order (3 ∷ []) (k.left ∷ k.right ∷ q ∷ e ∷ []) (everything p s) all) (two taken.parts)) in
      let z = after-entry (everything p s) k.left k.right q taken.share taken.rest all2 in
      let both = opened (z.frame ∷ k.right ∷ []) (q ∷ taken.rest ∷ []) z.sums (two z.split) in
      let reads = safe.reads taken.share z.frame taken.free z.back in
      let true_ = subst (λ y. y) (seen-test f.fixed.slots (everything p s) z.frame both.0 both.1 test reads) d.1 in
      record {
        part = z.stack;
        free = taken.rest;
        sums = subst (λ y. Sums (everything p y) (z.stack ∷ q ∷ taken.rest ∷ [])) (sym d.2) z.sums;
        tree = subst (λ y. Tree p n owed y z.stack) (sym d.3) (
          v,
          record {
            left = z.frame;
            right = k.right;
            parts = z.split;
            first = safe.goes_on taken.share z.frame taken.free z.back true_;
            second = fewer-callers p n (known f v) below owed k.right k.second;
          },
        );
        resources = subst (λ y. Resources p y.held 0 p.resources taken.rest) (sym d.2) taken.others;
      }

  -- an exit: the frame gives the resource its share back
  pub exited : (path : Path) (r : ResId) (rest : List Item) → f.todo ≡ leave r ∷ rest → s.held r ≡ Some path
      → t ≡ set_holder r None s → task ≡ task_with f.fixed rest below → After p n owed t task q
  exited path r rest i h d j =
      let v = running.0 in
      let k = running.1 in
      let safe = subst (λ z. Safe p (suc n) (known f v) z k.left) i k.first in
      let all = opened (safe.share ∷ safe.kept ∷ []) (k.right ∷ q ∷ e ∷ [])
      (opened (k.left ∷ k.right ∷ []) (q ∷ e ∷ []) sums (two k.parts)) (two safe.parts) in
      let freed = group (safe.kept ∷ k.right ∷ q ∷ [])
      (order (0 ∷ 3 ∷ []) (safe.share ∷ safe.kept ∷ k.right ∷ q ∷ e ∷ []) (everything p s) all) in
      let stack = group (q ∷ freed.both ∷ [])
      (order (1 ∷ 1 ∷ 1 ∷ []) (freed.both ∷ safe.kept ∷ k.right ∷ q ∷ []) (everything p s) freed.sums) in
      record {
        part = stack.both;
        free = freed.both;
        sums = subst (λ y. Sums (everything p y) (stack.both ∷ q ∷ freed.both ∷ [])) (sym d) stack.sums;
        tree = subst (λ y. Tree p n owed y stack.both) (sym j) (
          v,
          record {
            left = safe.kept;
            right = k.right;
            parts = stack.parts;
            first = safe.goes_on;
            second = fewer-callers p n (known f v) below owed k.right k.second;
          },
        );
        resources = subst (λ y. Resources p y.held 0 p.resources freed.both) (sym d)
            (resources-give p s.held r path 0 p.resources freed.both safe.share e (omega arith)
            (let l : r.0 < length p.resources = slice_get_within p.resources r.0 safe.free.resource safe.free.there in
            omega (arith, l)) h safe.free freed.parts free);
      }
