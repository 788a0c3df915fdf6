-- From one step to what events lead to, and parts in another order.
-- Names: `leads-LAW`; `order-LAW` speaks of what holds of parts in any order, `supplied-LAW` of
-- their units.
use Rattle.std.specs.Prelude.{List, [], ◌∷◌, ◌++◌}
use Rattle.std.proofs.Common.{refl, subst}
use Rattle.sf_core.specs.Machine.Config.{Config}
use Rattle.sf_core.specs.Machine.Numbered.{NumberedFrom}
use Rattle.sf_core.specs.Machine.Step.{Event, Step}
use Rattle.sf_core.specs.Machine.Supplies.{Supply, Takes}
use Rattle.sf_core.specs.Machine.Whole.{Part, Content, Whole}
use Rattle.sf_core.specs.Program.Syntax.{Program}
use Rattle.sf_core.proofs.Machine.Runs.{reach-join}
use Rattle.sf_part.specs.Checked.Laws.{Leads}
use Rattle.sf_part.specs.Supplied.{own_share, shares, Supplied}
use Rattle.sf_part.proofs.Unions.{union-focus_all, union-unfocus_all}

-- one step, with what its event takes
pub record Single (p : Program) (ev : Event) (c : Config) (olds news : List Part)
    (contents : List Content) : Type 0 where
  pub config : Config
  pub step : Step p ev c config
  pub whole : Whole news contents config
  pub takes : (s : Supply) → Supplied olds s → (t : Supply) × Takes ev c s t × Supplied news t

pub leads-none : (p : Program) (c : Config) (parts : List Part) (contents : List Content)
    → Whole parts contents c
    → Leads p [] c parts parts contents
leads-none p c parts contents w =
    record { config = c; reaches = refl; whole = w; numbered = λ s h. (s, (refl, refl), h) }

pub leads-one : (p : Program) (ev : Event) (c : Config) (olds news : List Part)
    (contents : List Content)
    → Single p ev c olds news contents → Leads p (ev ∷ []) c olds news contents
leads-one p ev c olds news contents x = record {
  config = x.config;
  reaches = (x.config, x.step, refl);
  whole = x.whole;
  numbered = λ s h. let (t, k, m) = x.takes s h in (t, (x.config, t, x.step, k, (refl, refl)), m);
}

numbered-join : (p : Program) (events more : List Event) (c d f : Config) (s t u : Supply)
    → NumberedFrom p c s events d t → NumberedFrom p d t more f u
    → NumberedFrom p c s (events ++ more) f u
numbered-join p [] more c d f s t u (e, h) n =
    subst (λ z. NumberedFrom p z s more f u) e (subst (λ z. NumberedFrom p d z more f u) h n)
numbered-join p (ev ∷ events) more c d f s t u (m, r, step, takes, rest) n =
    (m, r, step, takes, numbered-join p events more m d f r t u rest n)

pub leads-compose : (p : Program) (events more : List Event) (c : Config)
    (olds between news : List Part)
    (contents others : List Content) → (l : Leads p events c olds between contents)
    → Leads p more l.config between news others → Leads p (events ++ more) c olds news others
leads-compose p events more c olds between news contents others l m = record {
  config = m.config;
  reaches = reach-join p events more c l.config m.config l.reaches m.reaches;
  whole = m.whole;
  numbered = λ s h.
      let (t, n, k) = l.numbered s h in
      let (u, q, r) = m.numbered t k in
      (u, numbered-join p events more c l.config m.config s t u n q, r);
}

-- the same with the parts in another order
pub leads-along : (p : Program) (events : List Event) (c : Config)
    (olds more news others : List Part)
    (contents also : List Content) → ((s : Supply) → Supplied more s → Supplied olds s)
    → ((s : Supply) → Supplied news s → Supplied others s)
    → ((d : Config) → Whole news contents d → Whole others also d)
    → Leads p events c olds news contents
    → Leads p events c more others also
leads-along p events c olds more news others contents also f g h l = record {
  config = l.config;
  reaches = l.reaches;
  whole = h l.config l.whole;
  numbered = λ s k. let (t, n, m) = l.numbered s (f s k) in (t, n, g t m);
}

-- What holds of parts in any order
module _ (P : List Part → Type 0)
    (focus : (before after : List Part) (a : Part) → P (before ++ a ∷ after)
    → P (a ∷ before ++ after))
    (unfocus : (before after : List Part) (a : Part) → P (a ∷ before ++ after)
    → P (before ++ a ∷ after))
    (before after : List Part) where
  -- three parts in the middle may come first
  pub order-three : (x y z : Part) → P (before ++ x ∷ y ∷ z ∷ after)
      → P (x ∷ y ∷ z ∷ before ++ after)
  order-three x y z h =
      let a : P (x ∷ before ++ y ∷ z ∷ after) = focus before (y ∷ z ∷ after) x h in
      let b : P (y ∷ x ∷ before ++ z ∷ after) = focus (x ∷ before) (z ∷ after) y a in
      let c : P (z ∷ y ∷ x ∷ before ++ after) = focus (y ∷ x ∷ before) after z b in
      let d : P (y ∷ z ∷ x ∷ before ++ after) = focus (z ∷ []) (x ∷ before ++ after) y c in
      let e : P (x ∷ y ∷ z ∷ before ++ after) = focus (y ∷ z ∷ []) (before ++ after) x d in
      e

  -- and the way back
  pub order-three_back : (x y z : Part) → P (x ∷ y ∷ z ∷ before ++ after)
      → P (before ++ x ∷ y ∷ z ∷ after)
  order-three_back x y z e =
      let d : P (y ∷ z ∷ x ∷ before ++ after) = unfocus (y ∷ z ∷ []) (before ++ after) x e in
      let c : P (z ∷ y ∷ x ∷ before ++ after) = unfocus (z ∷ []) (x ∷ before ++ after) y d in
      let b : P (y ∷ x ∷ before ++ z ∷ after) = unfocus (y ∷ x ∷ before) after z c in
      let a : P (x ∷ before ++ y ∷ z ∷ after) = unfocus (x ∷ before) (z ∷ after) y b in
      unfocus before (y ∷ z ∷ after) x a

-- the units of parts in another order
pub supplied-focus : (s : Supply) (before after : List Part) (a : Part)
    → Supplied (before ++ a ∷ after) s
    → Supplied (a ∷ before ++ after) s
supplied-focus s before after a h = union-focus_all own_share before a after (shares s) h

pub supplied-unfocus : (s : Supply) (before after : List Part) (a : Part)
    → Supplied (a ∷ before ++ after) s
    → Supplied (before ++ a ∷ after) s
supplied-unfocus s before after a h = union-unfocus_all own_share before a after (shares s) h
