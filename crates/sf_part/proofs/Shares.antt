-- The tree of supplies as a tree of what the tasks have, and what an event takes of it.
-- Names: `share-LAW` speaks of one task, `supply-LAW` of the tree as one with labels, `shares-LAW`
-- of what parts have.
use Rattle.std.specs.Prelude.{◌≡◌, ℕ, List, [], ◌∷◌, ◌++◌, map, Option, Some, None}
use Rattle.std.specs.Option.{option_map}
use Rattle.std.proofs.Common.{sym, ap, ◌∙◌, refl, subst}
use Rattle.std.proofs.lemmas.Option.{same_Some}
use Rattle.sf_base.proofs.MapSplits.{map-same, splits-has_left, splits-has_right}
use Rattle.sf_base.specs.declared.path.Turn.TheVariants.{Left as left, Right as right}
use Rattle.sf_base.specs.HeapStore.{Map}
use Rattle.sf_core.specs.Machine.Config.{Frame, runs, waits, Path, Config, task_at}
use Rattle.sf_core.specs.Machine.Next.{next}
use Rattle.sf_core.specs.Machine.Step.{Event}
use Rattle.sf_core.specs.Machine.Supplies.{Supply, has, lent, supply_at, put_supply, NextTakes, Takes}
use Rattle.sf_core.specs.Machine.Whole.{running, waiting, Part, numbers, IsUnion}
use Rattle.sf_part.specs.Supplied.{Share, units, lent_out, share_of, shares, share_in, own_share, Supplied}
use Rattle.sf_part.proofs.Trees.{Tree, leaf, node, at, put, labels, entry, entry-here, trees-leaf, trees-node, trees-back}

-- a task that has units has just these
pub share-units : (o : Option Supply) (us : List ℕ) → option_map share_of o ≡ Some (units us)
    → o ≡ Some (has us)
share-units None us e = absurd (cc)
share-units (Some (has vs)) us e =
    let h : units vs ≡ units us = same_Some (units vs) (units us) e in
    let k : vs ≡ us = cc in
    ap (λ z. Some (has z)) k
share-units (Some (lent one two)) us e =
    let h : lent_out ≡ units us = same_Some lent_out (units us) e in absurd (cc)

-- a task that has lent its units has lent them to two
pub share-lent : (o : Option Supply) → option_map share_of o ≡ Some lent_out
    → (one : Supply) × (two : Supply) × (o ≡ Some (lent one two))
share-lent None e = absurd (cc)
share-lent (Some (has us)) e =
    let h : units us ≡ lent_out = same_Some (units us) lent_out e in absurd (cc)
share-lent (Some (lent one two)) e = (one, two, refl)

-- what the supply at a path has below it
pub supply_at-child : (path : Path) (tree one two : Supply) → supply_at path tree ≡ Some (lent one two)
    → (supply_at (path ++ left ∷ []) tree ≡ Some one)
    × (supply_at (path ++ right ∷ []) tree ≡ Some two)
supply_at-child [] (has us) one two e = absurd (cc)
supply_at-child [] (lent a b) one two e =
    let h : lent a b ≡ lent one two = same_Some (lent a b) (lent one two) e in
    let k : a ≡ one = cc in
    let l : b ≡ two = cc in
    (ap Some k, ap Some l)
supply_at-child (turn ∷ path) (has us) one two e = absurd (cc)
supply_at-child (left ∷ path) (lent a b) one two e = supply_at-child path a one two e
supply_at-child (right ∷ path) (lent a b) one two e = supply_at-child path b one two e

-- the tree of what the tasks have
abbrev tree_of : Supply → Tree Share
tree_of (has us) = leaf (units us)
tree_of (lent one two) = node lent_out (tree_of one) (tree_of two)

supply-at : (path : Path) (t u : Supply) → supply_at path t ≡ Some u
    → at path (tree_of t) ≡ Some (tree_of u)
supply-at [] t u e = ap (λ z. Some (tree_of z)) (same_Some t u e)
supply-at (turn ∷ path) (has us) u e = absurd (cc)
supply-at (left ∷ path) (lent a b) u e = supply-at path a u e
supply-at (right ∷ path) (lent a b) u e = supply-at path b u e

supply-put : (path : Path) (u t : Supply) → tree_of (put_supply path u t) ≡ put path (tree_of u)
    (tree_of t)
supply-put [] u t = refl
supply-put (left ∷ path) u (has us) = refl
supply-put (right ∷ path) u (has us) = refl
supply-put (left ∷ path) u (lent a b) = ap (λ z. node lent_out z (tree_of b)) (supply-put path u a)
supply-put (right ∷ path) u (lent a b) = ap (λ z. node lent_out (tree_of a) z) (supply-put path u b)

supply-shares : (t : Supply) (path : Path) → shares t path ≡ labels (tree_of t) path
supply-shares (has us) [] = refl
supply-shares (lent a b) [] = refl
supply-shares (has us) (left ∷ path) = refl
supply-shares (has us) (right ∷ path) = refl
supply-shares (lent a b) (left ∷ path) = supply-shares a path
supply-shares (lent a b) (right ∷ path) = supply-shares b path

-- the shares of a tree are its labels
shares-are : (t : Supply) → shares t ≡ labels (tree_of t)
shares-are t = map-same (shares t) (labels (tree_of t)) (supply-shares t)

-- the shares after a supply is put are the labels after its tree is
shares-put : (path : Path) (u t : Supply) → shares (put_supply path u t) ≡ labels
    (put path (tree_of u) (tree_of t))
shares-put path u t = shares-are (put_supply path u t) ∙ ap labels (supply-put path u t)

-- what a part that runs has at its path, and what one that waits has
own-units : (b : Part) (path : Path) (frames : List Frame) → b.task ≡ path
    → b.stand ≡ running frames
    → own_share b ≡ entry path (units (numbers b.supply))
own-units b path frames e h =
    ap (λ z. entry z (share_in b.stand (numbers b.supply))) e
    ∙ ap (λ z. entry path (share_in z (numbers b.supply))) h

own-lent : (b : Part) (path : Path) (frames : List Frame) → b.task ≡ path → b.stand ≡ waiting frames
    → own_share b ≡ entry path lent_out
own-lent b path frames e h =
    ap (λ z. entry z (share_in b.stand (numbers b.supply))) e
    ∙ ap (λ z. entry path (share_in z (numbers b.supply))) h

-- the event of a part that goes on running takes its number from the tree of supplies
pub shares-run : (ev : Event) (c : Config) (a b : Part) (others : List Part)
    (frames kept : List Frame)
    → ev.task ≡ a.task → task_at ev.task c.tasks ≡ Some (runs frames)
    → NextTakes ev (next (runs frames)) (has (numbers a.supply)) (has (numbers b.supply))
    → a.stand ≡ running frames
    → b.task ≡ a.task → b.stand ≡ running kept → (s : Supply) → Supplied (a ∷ others) s
    → (t : Supply) × Takes ev c s t × Supplied (b ∷ others) t
shares-run ev c a b others frames kept own there takes sa bt bs s w =
    let more = map own_share others in
    let path = a.task in
    let u : IsUnion (shares s) (entry path (units (numbers a.supply)) ∷ more) =
    subst (λ z. IsUnion (shares s) (z ∷ more)) (own-units a path frames refl sa) w in
    let is : supply_at path s ≡ Some (has (numbers a.supply)) =
    share-units (supply_at path s) (numbers a.supply)
    (splits-has_left path (units (numbers a.supply)) u.1
    (entry-here path (units (numbers a.supply)))) in
    let v = trees-leaf (tree_of s) path (units (numbers a.supply)) (units (numbers b.supply)) more
    (subst (λ z. IsUnion z (entry path (units (numbers a.supply)) ∷ more)) (shares-are s) u)
    (supply-at path s (has (numbers a.supply)) is) in (
      put_supply path (has (numbers b.supply)) s,
      record {
        task = runs frames;
        there = there;
        own = has (numbers a.supply);
        kept = has (numbers b.supply);
        is = subst (λ z. supply_at z s ≡ Some (has (numbers a.supply))) (sym own) is;
        takes = takes;
        rest = ap (λ z. put_supply z (has (numbers b.supply)) s) (sym own);
      },
      subst (λ z. IsUnion (shares (put_supply path (has (numbers b.supply)) s)) (z ∷ more))
          (sym (own-units b path kept bt bs))
          (subst (λ z. IsUnion z (entry path (units (numbers b.supply)) ∷ more))
          (sym (shares-put path (has (numbers b.supply)) s)) v),
    )

-- so does the event of a part that comes to wait for two others
pub shares-fork : (ev : Event) (c : Config) (a b one two : Part) (others : List Part)
    (frames kept ones twos : List Frame) → ev.task ≡ a.task
    → task_at ev.task c.tasks ≡ Some (runs frames)
    → NextTakes ev (next (runs frames)) (has (numbers a.supply))
    (lent (has (numbers one.supply)) (has (numbers two.supply))) → a.stand ≡ running frames
    → b.task ≡ a.task
    → b.stand ≡ waiting kept → one.task ≡ a.task ++ left ∷ [] → one.stand ≡ running ones
    → two.task ≡ a.task ++ right ∷ [] → two.stand ≡ running twos → (s : Supply)
    → Supplied (a ∷ others) s
    → (t : Supply) × Takes ev c s t × Supplied (b ∷ one ∷ two ∷ others) t
shares-fork ev c a b one two others frames kept ones twos own there takes sa bt bs ot os tt ts s w =
    let more = map own_share others in
    let path = a.task in
    let after = lent (has (numbers one.supply)) (has (numbers two.supply)) in
    let u : IsUnion (shares s) (entry path (units (numbers a.supply)) ∷ more) =
    subst (λ z. IsUnion (shares s) (z ∷ more)) (own-units a path frames refl sa) w in
    let is : supply_at path s ≡ Some (has (numbers a.supply)) =
    share-units (supply_at path s) (numbers a.supply)
    (splits-has_left path (units (numbers a.supply)) u.1
    (entry-here path (units (numbers a.supply)))) in
    let v = trees-node (tree_of s) path (units (numbers a.supply)) lent_out
    (units (numbers one.supply))
    (units (numbers two.supply)) more
    (subst (λ z. IsUnion z (entry path (units (numbers a.supply)) ∷ more)) (shares-are s) u)
    (supply-at path s (has (numbers a.supply)) is) in
    let x : IsUnion (shares (put_supply path after s)) (entry path lent_out
    ∷ entry (path ++ left ∷ []) (units (numbers one.supply))
    ∷ entry (path ++ right ∷ []) (units (numbers two.supply))
    ∷ more) = subst (λ z. IsUnion z (entry path lent_out
    ∷ entry (path ++ left ∷ []) (units (numbers one.supply))
    ∷ entry (path ++ right ∷ []) (units (numbers two.supply)) ∷ more))
    (sym (shares-put path after s)) v in (
      put_supply path after s,
      record {
        task = runs frames;
        there = there;
        own = has (numbers a.supply);
        kept = after;
        is = subst (λ z. supply_at z s ≡ Some (has (numbers a.supply))) (sym own) is;
        takes = takes;
        rest = ap (λ z. put_supply z after s) (sym own);
      },
      subst (λ z. IsUnion (shares (put_supply path after s))
          (z ∷ own_share one ∷ own_share two ∷ more))
          (sym (own-lent b path kept bt bs))
          (subst (λ z. IsUnion (shares (put_supply path after s))
          (entry path lent_out ∷ z ∷ own_share two ∷ more))
          (sym (own-units one (path ++ left ∷ []) ones ot os))
          (subst (λ z. IsUnion (shares (put_supply path after s)) (entry path lent_out
          ∷ entry (path ++ left ∷ []) (units (numbers one.supply)) ∷ z ∷ more))
          (sym (own-units two (path ++ right ∷ []) twos tt ts)) x)),
    )

-- where a task has lent its units to two that have these, so it is in the tree
supply-lent : (path : Path) (us vs : List ℕ) (more : List (Map Path Share)) (s : Supply)
    → IsUnion (shares s) (entry path lent_out ∷ entry (path ++ left ∷ []) (units us)
    ∷ entry (path ++ right ∷ []) (units vs) ∷ more)
    → supply_at path s ≡ Some (lent (has us) (has vs))
supply-lent path us vs more s (x, f, (y, g, (z, h, m))) =
    let pl = path ++ left ∷ [] in
    let pr = path ++ right ∷ [] in
    let (l, r, is) = share-lent (supply_at path s)
    (splits-has_left path lent_out f (entry-here path lent_out)) in
    let below = supply_at-child path s l r is in
    let first : supply_at pl s ≡ Some (has us) = share-units (supply_at pl s) us
    (splits-has_right pl (units us) f (splits-has_left pl (units us) g (entry-here pl (units us))))
    in
    let second : supply_at pr s ≡ Some (has vs) = share-units (supply_at pr s) vs
    (splits-has_right pr (units vs) f
    (splits-has_right pr (units vs) g (splits-has_left pr (units vs) h (entry-here pr (units vs)))))
    in
    let left_is : l ≡ has us = same_Some l (has us) (sym below.0 ∙ first) in
    let right_is : r ≡ has vs = same_Some r (has vs) (sym below.1 ∙ second) in
    is ∙ ap (λ q. Some (lent q r)) left_is ∙ ap (λ q. Some (lent (has us) q)) right_is

-- and that of a part that waited for two others which have ended
pub shares-join : (ev : Event) (c : Config) (a one two b : Part) (others : List Part)
    (frames kept : List Frame)
    → ev.task ≡ a.task → task_at ev.task c.tasks ≡ Some (waits frames (runs []) (runs []))
    → NextTakes ev (next (waits frames (runs []) (runs [])))
    (lent (has (numbers one.supply)) (has (numbers two.supply))) (has (numbers b.supply))
    → a.stand ≡ waiting frames
    → one.task ≡ a.task ++ left ∷ [] → one.stand ≡ running [] → two.task ≡ a.task ++ right ∷ []
    → two.stand ≡ running [] → b.task ≡ a.task → b.stand ≡ running kept → (s : Supply)
    → Supplied (a ∷ one ∷ two ∷ others) s → (t : Supply) × Takes ev c s t × Supplied (b ∷ others) t
shares-join ev c a one two b others frames kept own there takes sa ot os tt ts bt bs s w =
    let more = map own_share others in
    let path = a.task in
    let pl = path ++ left ∷ [] in
    let pr = path ++ right ∷ [] in
    let ones = units (numbers one.supply) in
    let twos = units (numbers two.supply) in
    let both = lent (has (numbers one.supply)) (has (numbers two.supply)) in
    let u : IsUnion (shares s) (entry path lent_out ∷ entry pl ones ∷ entry pr twos ∷ more) =
    subst (λ z. IsUnion (shares s) (z ∷ entry pl ones ∷ entry pr twos ∷ more))
    (own-lent a path frames refl sa)
    (subst (λ z. IsUnion (shares s) (own_share a ∷ z ∷ entry pr twos ∷ more))
    (own-units one pl [] ot os)
    (subst (λ z. IsUnion (shares s) (own_share a ∷ own_share one ∷ z ∷ more))
    (own-units two pr [] tt ts) w)) in
    let is = supply-lent path (numbers one.supply) (numbers two.supply) more s u in
    let v = trees-back (tree_of s) path lent_out (units (numbers b.supply)) ones twos more
    (subst (λ z. IsUnion z (entry path lent_out ∷ entry pl ones ∷ entry pr twos ∷ more))
    (shares-are s) u)
    (supply-at path s both is) in (
      put_supply path (has (numbers b.supply)) s,
      record {
        task = waits frames (runs []) (runs []);
        there = there;
        own = both;
        kept = has (numbers b.supply);
        is = subst (λ z. supply_at z s ≡ Some both) (sym own) is;
        takes = takes;
        rest = ap (λ z. put_supply z (has (numbers b.supply)) s) (sym own);
      },
      subst (λ z. IsUnion (shares (put_supply path (has (numbers b.supply)) s)) (z ∷ more))
          (sym (own-units b path kept bt bs))
          (subst (λ z. IsUnion z (entry path (units (numbers b.supply)) ∷ more))
          (sym (shares-put path (has (numbers b.supply)) s)) v),
    )
