-- The tree of tasks: what is safe for more events is so for fewer, and one task with its share.
-- Names: `fewer-tree`, `focus`.
use Rattle.std.specs.Prelude.{◌≡◌, ℕ, suc, List, [], ◌∷◌, Some}
use Rattle.std.proofs.Common.{sym, subst}
use Rattle.std.proofs.lemmas.Option.{same_Some}
use Rattle.sf_base.specs.declared.path.Turn.TheVariants.{Left as left, Right as right}
use Rattle.sf_core.specs.Machine.Config.{Frame, Task, runs, waits, Path, task_at, put_task}
use Rattle.sf_core.specs.Program.Syntax.{Program}
use Rattle.sf_safe.specs.Checked.Own.{Own, Parts, nothing}
use Rattle.sf_safe.specs.Checked.Contract.{Known}
use Rattle.sf_safe.specs.Checked.Fewer.{fewer-running, fewer-waiting}
use Rattle.sf_safe.specs.Checked.Invariant.{Waiting, Tree}
use Rattle.sf_safe.specs.Checked.Owns.{and, parts-comm, parts-left, parts-nothing, parts-of_nothing, parts-right}

module _ (p : Program) where
  -- the tree of a task that waits, of its own share and those of its children
  waiting-tree : (n : ℕ) (owed : Known) (frames : List Frame) (one two : Task) (g h : Known)
      {w stack both this that : Own}
      → Parts w stack both → Parts both this that → Waiting p n owed frames g h stack → Tree p n g one this
      → Tree p n h two that → Tree p n owed (waits frames one two) w
  waiting-tree n owed frames one two g h parts apart s x y = (
    g,
    h,
    record {
      left = _;
      right = _;
      parts = parts;
      first = s;
      second = record { left = _; right = _; parts = apart; first = x; second = y };
    },
  )

  pub fewer-tree : (n : ℕ) (owed : Known) (t : Task) (w : Own) → Tree p (suc n) owed t w → Tree p n owed t w
  fewer-tree n owed (runs frames) w s = fewer-running p n owed frames w s
  fewer-tree n owed (waits frames one two) w (g, h, k) =
      waiting-tree n owed frames one two g h k.parts k.second.parts (fewer-waiting p n owed frames g h k.left k.first)
      (fewer-tree n g one _ k.second.first) (fewer-tree n h two _ k.second.second)

  -- one task of the tree, with its share, and the way back to a tree for one event less
  pub record Focus (n : ℕ) (owed : Known) (path : Path) (t u : Task) (w : Own) : Type 0 where
    pub owes : Known
    pub part : Own
    pub rest : Own
    pub parts : Parts w part rest
    pub here : Tree p (suc n) owes u part
    pub back : (u' : Task) (part' w' : Own) → Tree p n owes u' part' → Parts w' part' rest
        → Tree p n owed (put_task path u' t) w'

  -- a task of one child has its share beside what the other child and the waiting frames have
  beside : {n : ℕ} {owed g : Known} {path turns : Path} {child t u : Task} {w stack both this that : Own}
      → Parts w stack both → Parts both this that → Focus n g path child u this
      → ((u' : Task) (this' both' w' : Own) → Tree p n g (put_task path u' child) this'
      → Parts both' this' that → Parts w' stack both' → Tree p n owed (put_task turns u' t) w')
      → Focus n owed turns t u w
  beside {stack = stack} {that = that} parts apart f back =
      let m = parts-right f.parts apart in
      let c = parts-right m.1 (parts-comm parts) in
      record {
        owes = f.owes;
        part = f.part;
        rest = and (and f.rest that) stack;
        parts = c.1;
        here = f.here;
        back = λ u' part' w' t q.
            let x = parts-left c.0 q in
            let y = parts-left m.0 x.0 in
            back u' _ _ w' (f.back u' part' _ t y.0) y.1 (parts-comm x.1);
      }

  pub focus : (n : ℕ) (owed : Known) (path : Path) (t u : Task) (w : Own) → task_at path t ≡ Some u
      → Tree p (suc n) owed t w → Focus n owed path t u w
  focus n owed [] t u w e s = record {
    owes = owed;
    part = w;
    rest = nothing;
    parts = parts-nothing w;
    here = subst (λ z. Tree p (suc n) owed z w) (same_Some t u e) s;
    back = λ u' part' w' h q. subst (Tree p n owed u') (sym (parts-of_nothing q)) h;
  }
  focus n owed (left ∷ path) (runs frames) u w e s = absurd (cc)
  focus n owed (right ∷ path) (runs frames) u w e s = absurd (cc)
  focus n owed (left ∷ path) (waits frames one two) u w e (g, h, k) =
      beside k.parts k.second.parts (focus n g path one u k.second.left e k.second.first)
      (λ u' this both w' t q s. waiting-tree n owed frames (put_task path u' one) two g h s q
      (fewer-waiting p n owed frames g h k.left k.first) t (fewer-tree n h two _ k.second.second))
  focus n owed (right ∷ path) (waits frames one two) u w e (g, h, k) =
      beside k.parts (parts-comm k.second.parts) (focus n h path two u k.second.right e k.second.second)
      (λ u' this both w' t q s. waiting-tree n owed frames one (put_task path u' two) g h s (parts-comm q)
      (fewer-waiting p n owed frames g h k.left k.first) (fewer-tree n g one _ k.second.first) t)
