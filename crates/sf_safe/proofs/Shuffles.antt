-- The regroupings of the parts of a whole that events make, over plain variables.
-- Names: after-EVENT, with the parts as they are after it.
use Rattle.std.specs.Prelude.{[], ◌∷◌}
use Rattle.sf_safe.specs.Checked.Own.{Own, Parts}
use Rattle.sf_safe.specs.Checked.Owns.{Sums, group, order}

-- after a return or a join: what comes back, g, joins the frame's part v, beside the lower frames' q
pub record AfterBack (w g v q r e : Own) : Type 0 where
  pub frame : Own
  pub stack : Own
  pub back : Parts frame g v
  pub split : Parts stack frame q
  pub sums : Sums w (stack ∷ r ∷ e ∷ [])

pub after-back : (w g v q r e : Own) → Sums w (g ∷ v ∷ q ∷ r ∷ e ∷ []) → AfterBack w g v q r e
after-back w g v q r e s =
    let a = group (q ∷ r ∷ e ∷ []) s in
    let b = group (r ∷ e ∷ []) a.sums in
    record { frame = a.both; stack = b.both; back = a.parts; split = b.parts; sums = b.sums }

-- after a call: new slots m, what the callee is given u, what its caller keeps v, the lower frames' q; the caller's
-- share and theirs are grouped as after a return, and the callee's stands on them
pub record AfterCall (w m u v q r e : Own) : Type 0 where
  pub callee : Own
  pub entered : Parts callee u m
  pub below : AfterBack w v q callee r e

pub after-call : (w m u v q r e : Own) → Sums w (m ∷ u ∷ v ∷ q ∷ r ∷ e ∷ []) → AfterCall w m u v q r e
after-call w m u v q r e s =
    let a = group (v ∷ q ∷ r ∷ e ∷ []) (order (1 ∷ []) (m ∷ u ∷ v ∷ q ∷ r ∷ e ∷ []) w s) in
    let b = order (1 ∷ 1 ∷ []) (a.both ∷ v ∷ q ∷ r ∷ e ∷ []) w a.sums in
    record { callee = a.both; entered = a.parts; below = after-back w v q a.both r e b }

-- after a fork: new slots m of the left and l of the right child, what they are given, a and b, what their
-- parent keeps v, the lower frames' q; the two children's shares are grouped as a callee's
pub record AfterFork (w l m a b v q r e : Own) : Type 0 where
  pub first : Own
  pub second : Own
  pub first_entered : Parts first a m
  pub second_entered : Parts second b l
  pub children : AfterCall w second first v q r e

pub after-fork : (w l m a b v q r e : Own) → Sums w (l ∷ m ∷ a ∷ b ∷ v ∷ q ∷ r ∷ e ∷ [])
    → AfterFork w l m a b v q r e
after-fork w l m a b v q r e s =
    let x = group (b ∷ l ∷ v ∷ q ∷ r ∷ e ∷ [])
    (order (2 ∷ 1 ∷ 1 ∷ []) (l ∷ m ∷ a ∷ b ∷ v ∷ q ∷ r ∷ e ∷ []) w s) in
    let y = group (x.both ∷ v ∷ q ∷ r ∷ e ∷ [])
    (order (1 ∷ 1 ∷ []) (x.both ∷ b ∷ l ∷ v ∷ q ∷ r ∷ e ∷ []) w x.sums) in
    record {
      first = x.both;
      second = y.both;
      first_entered = x.parts;
      second_entered = y.parts;
      children = after-call w y.both x.both v q r e y.sums;
    }

-- after an entry: the share i of a resource comes to the frame's part v as what comes back does, and d is left to
-- the free ones
pub after-entry : (w v q r i d : Own) → Sums w (v ∷ q ∷ r ∷ i ∷ d ∷ []) → AfterBack w v i q r d
after-entry w v q r i d s = after-back w v i q r d (order (0 ∷ 2 ∷ []) (v ∷ q ∷ r ∷ i ∷ d ∷ []) w s)
