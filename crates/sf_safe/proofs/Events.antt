-- One event of one task, on all that there is: its share u, the other tasks' shares r, the free resources' e.
-- Names: the event's.
use Rattle.std.specs.Prelude.{◌≡◌, ℕ, suc, List, [], ◌∷◌}
use Rattle.std.proofs.Common.{sym, subst}
use Rattle.sf_core.specs.Machine.Config.{Item, Frame, Task, Common}
use Rattle.sf_core.specs.Program.Syntax.{Program}
use Rattle.sf_safe.specs.Checked.Own.{Own, Parts, everything}
use Rattle.sf_safe.specs.Checked.Contract.{Known}
use Rattle.sf_safe.specs.Checked.Safe.{Safe}
use Rattle.sf_safe.specs.Checked.Invariant.{known, Running, Tree, Resources}
use Rattle.sf_safe.specs.Checked.LawsOfShares.{After}
use Rattle.sf_safe.proofs.Commands.{Moved}
use Rattle.sf_safe.specs.Checked.Owns.{Sums, front, group, opened, two}
use Rattle.sf_safe.specs.Checked.Fewer.{fewer-callers}

module _ (p : Program) where
  -- an event of the innermost frame alone leaves its callers' shares, and the resources, as they are
  pub alone : (n : ℕ) (owed : Known) (f : Frame) (below : List Frame) (todo : List Item) (s t : Common) (task : Task)
      (u r e : Own) → f.todo ≡ todo → Sums (everything p s) (u ∷ r ∷ e ∷ [])
      → Running p (suc n) owed (f ∷ below) u → Resources p s.held 0 p.resources e
      → ((values : ℕ → _) (share rest : Own) → Parts (everything p s) share rest
      → Safe p (suc n) (known f values) todo share → Moved p n (known f values) below s t task rest)
      → After p n owed t task r
  alone n owed f below todo s t task u r e i a (v, k) free moves =
      let b = opened (k.left ∷ k.right ∷ []) (r ∷ e ∷ []) a (two k.parts) in
      let m = moves v k.left b.0 b.1 (subst (λ z. Safe p (suc n) (known f v) z k.left) i k.first) in
      let g = group (r ∷ e ∷ []) (front (k.right ∷ r ∷ e ∷ []) m.parts b.2) in
      record {
        part = g.both;
        free = e;
        sums = g.sums;
        tree = subst (λ z. Tree p n owed z g.both) (sym m.is) (
          v,
          record {
            left = m.part;
            right = k.right;
            parts = g.parts;
            first = m.safe;
            second = fewer-callers p n (known f v) below owed k.right k.second;
          },
        );
        resources = subst (λ z. Resources p z 0 p.resources e) (sym m.held) free;
      }
