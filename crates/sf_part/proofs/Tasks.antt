-- The tree of tasks as a tree of how they stand, and what a step of one of them makes of it.
-- Names: `stand-LAW` speaks of one task, `tree-LAW` of the tree as one with labels, `tasks-LAW` of
-- the tasks of parts.
use Rattle.std.specs.Prelude.{◌≡◌, List, [], ◌∷◌, ◌++◌, Option, Some, None}
use Rattle.std.specs.Option.{option_map}
use Rattle.std.proofs.Common.{sym, ap, ◌∙◌, refl, subst}
use Rattle.std.proofs.lemmas.Option.{same_Some}
use Rattle.sf_base.proofs.MapSplits.{map-same, splits-has_left, splits-has_right}
use Rattle.sf_base.specs.declared.path.Turn.TheVariants.{Left as left, Right as right}
use Rattle.sf_base.specs.HeapStore.{Map}
use Rattle.sf_core.specs.Machine.Config.{Frame, Task, runs, waits, Path, task_at, put_task}
use Rattle.sf_core.specs.Machine.Whole.{Stand, running, waiting, Part, stand_of, stands, own_stand, IsUnion}
use Rattle.sf_part.proofs.Trees.{Tree, leaf, node, at, put, labels, entry, entry-here, trees-leaf, trees-node, trees-back}

-- a task that stands running its frames runs them
stand-runs : (o : Option Task) (frames : List Frame) → option_map stand_of o ≡ Some (running frames)
    → o ≡ Some (runs frames)
stand-runs None frames e = absurd (cc)
stand-runs (Some (runs fs)) frames e =
    let h : running fs ≡ running frames = same_Some (running fs) (running frames) e in
    let k : fs ≡ frames = cc in
    ap (λ z. Some (runs z)) k
stand-runs (Some (waits fs one two)) frames e =
    let h : waiting fs ≡ running frames = same_Some (waiting fs) (running frames) e in absurd (cc)

-- a task that stands waiting waits for some children
pub stand-waits : (o : Option Task) (frames : List Frame)
    → option_map stand_of o ≡ Some (waiting frames)
    → (one : Task) × (two : Task) × (o ≡ Some (waits frames one two))
stand-waits None frames e = absurd (cc)
stand-waits (Some (runs fs)) frames e =
    let h : running fs ≡ waiting frames = same_Some (running fs) (waiting frames) e in absurd (cc)
stand-waits (Some (waits fs one two)) frames e =
    let h : waiting fs ≡ waiting frames = same_Some (waiting fs) (waiting frames) e in
    let k : fs ≡ frames = cc in
    (one, two, ap (λ z. Some (waits z one two)) k)

-- what the task at a path has below it
task_at-child : (path : Path) (tree : Task) (frames : List Frame) (one two : Task)
    → task_at path tree ≡ Some (waits frames one two)
    → (task_at (path ++ left ∷ []) tree ≡ Some one) × (task_at (path ++ right ∷ []) tree ≡ Some two)
task_at-child [] (runs fs) frames one two e = absurd (cc)
task_at-child [] (waits fs a b) frames one two e =
    let h : waits fs a b ≡ waits frames one two = same_Some (waits fs a b) (waits frames one two) e
    in
    let k : a ≡ one = cc in
    let l : b ≡ two = cc in
    (ap Some k, ap Some l)
task_at-child (left ∷ path) (runs fs) frames one two e = absurd (cc)
task_at-child (right ∷ path) (runs fs) frames one two e = absurd (cc)
task_at-child (left ∷ path) (waits fs a b) frames one two e = task_at-child path a frames one two e
task_at-child (right ∷ path) (waits fs a b) frames one two e = task_at-child path b frames one two e

-- the tree of how the tasks stand
abbrev tree_of : Task → Tree Stand
tree_of (runs frames) = leaf (running frames)
tree_of (waits frames one two) = node (waiting frames) (tree_of one) (tree_of two)

tree-at : (path : Path) (t u : Task) → task_at path t ≡ Some u
    → at path (tree_of t) ≡ Some (tree_of u)
tree-at [] t u e = ap (λ z. Some (tree_of z)) (same_Some t u e)
tree-at (left ∷ path) (runs fs) u e = absurd (cc)
tree-at (right ∷ path) (runs fs) u e = absurd (cc)
tree-at (left ∷ path) (waits fs a b) u e = tree-at path a u e
tree-at (right ∷ path) (waits fs a b) u e = tree-at path b u e

tree-put : (path : Path) (u t : Task) → tree_of (put_task path u t) ≡ put path (tree_of u)
    (tree_of t)
tree-put [] u t = refl
tree-put (left ∷ path) u (runs fs) = refl
tree-put (right ∷ path) u (runs fs) = refl
tree-put (left ∷ path) u (waits fs a b) = ap (λ z. node (waiting fs) z (tree_of b))
    (tree-put path u a)
tree-put (right ∷ path) u (waits fs a b) = ap (λ z. node (waiting fs) (tree_of a) z)
    (tree-put path u b)

tree-stands : (t : Task) (path : Path) → stands t path ≡ labels (tree_of t) path
tree-stands (runs fs) [] = refl
tree-stands (waits fs a b) [] = refl
tree-stands (runs fs) (left ∷ path) = refl
tree-stands (runs fs) (right ∷ path) = refl
tree-stands (waits fs a b) (left ∷ path) = tree-stands a path
tree-stands (waits fs a b) (right ∷ path) = tree-stands b path

-- the stands of a tree are its labels
stands-are : (t : Task) → stands t ≡ labels (tree_of t)
stands-are t = map-same (stands t) (labels (tree_of t)) (tree-stands t)

-- the stands after a task is put are the labels after its tree is
stands-put : (path : Path) (u t : Task) → stands (put_task path u t) ≡ labels
    (put path (tree_of u) (tree_of t))
stands-put path u t = stands-are (put_task path u t) ∙ ap labels (tree-put path u t)

-- what a part has at its path is an entry
own-is : (b : Part) (path : Path) (stand : Stand) → b.task ≡ path → b.stand ≡ stand
    → own_stand b ≡ entry path stand
own-is b path stand e h = ap (λ z. entry z b.stand) e ∙ ap (entry path) h

-- a part's task that runs is in the tree
pub tasks-runs : (tree : Task) (a : Part) (more : List (Map Path Stand)) (frames : List Frame)
    → IsUnion (stands tree) (own_stand a ∷ more) → a.stand ≡ running frames
    → task_at a.task tree ≡ Some (runs frames)
tasks-runs tree a more frames (x, s, u) e =
    stand-runs (task_at a.task tree) frames
    (splits-has_left a.task a.stand s (entry-here a.task a.stand) ∙ ap Some e)

-- a part's task that runs goes on running
pub tasks-run : (tree : Task) (a b : Part) (more : List (Map Path Stand)) (frames kept : List Frame)
    → IsUnion (stands tree) (own_stand a ∷ more) → a.stand ≡ running frames → b.task ≡ a.task
    → b.stand ≡ running kept
    → IsUnion (stands (put_task a.task (runs kept) tree)) (own_stand b ∷ more)
tasks-run tree a b more frames kept w e task stand =
    let there = tree-at a.task tree (runs frames) (tasks-runs tree a more frames w e) in
    let u : IsUnion (labels (tree_of tree)) (entry a.task (running frames) ∷ more) =
    subst (λ z. IsUnion z (entry a.task (running frames) ∷ more)) (stands-are tree)
    (subst (λ z. IsUnion (stands tree) (entry a.task z ∷ more)) e w) in
    subst (λ z. IsUnion (stands (put_task a.task (runs kept) tree)) (z ∷ more))
    (sym (own-is b a.task (running kept) task stand))
    (subst (λ z. IsUnion z (entry a.task (running kept) ∷ more))
    (sym (stands-put a.task (runs kept) tree))
    (trees-leaf (tree_of tree) a.task (running frames) (running kept) more u there))

-- the same of the task of an event, which is the part's: it is in the tree, and may go on running
pub own-task : {path : Path} (tree : Task) (a : Part) (more : List (Map Path Stand)) (frames : List Frame)
    → path ≡ a.task → IsUnion (stands tree) (own_stand a ∷ more) → a.stand ≡ running frames
    → (task_at path tree ≡ Some (runs frames))
    × ((b : Part) (kept : List Frame) → b.task ≡ a.task → b.stand ≡ running kept
    → IsUnion (stands (put_task path (runs kept) tree)) (own_stand b ∷ more))
own-task tree a more frames own w e = (
  subst (λ z. task_at z tree ≡ Some (runs frames)) (sym own) (tasks-runs tree a more frames w e),
  λ b kept task stand. subst
      (λ z. IsUnion (stands (put_task z (runs kept) tree)) (own_stand b ∷ more)) (sym own)
      (tasks-run tree a b more frames kept w e task stand),
)

-- a part's task that runs comes to wait for those of two others
pub tasks-fork : (tree : Task) (a b one two : Part) (more : List (Map Path Stand))
    (frames kept ones twos : List Frame)
    → IsUnion (stands tree) (own_stand a ∷ more) → a.stand ≡ running frames → b.task ≡ a.task
    → b.stand ≡ waiting kept
    → one.task ≡ a.task ++ left ∷ [] → one.stand ≡ running ones → two.task ≡ a.task ++ right ∷ []
    → two.stand ≡ running twos
    → IsUnion (stands (put_task a.task (waits kept (runs ones) (runs twos)) tree))
    (own_stand b ∷ own_stand one ∷ own_stand two ∷ more)
tasks-fork tree a b one two more frames kept ones twos w e bt bs ot os tt ts =
    let there = tree-at a.task tree (runs frames) (tasks-runs tree a more frames w e) in
    let after = stands (put_task a.task (waits kept (runs ones) (runs twos)) tree) in
    let u : IsUnion (labels (tree_of tree)) (entry a.task (running frames) ∷ more) =
    subst (λ z. IsUnion z (entry a.task (running frames) ∷ more)) (stands-are tree)
    (subst (λ z. IsUnion (stands tree) (entry a.task z ∷ more)) e w) in
    let v : IsUnion after (entry a.task (waiting kept) ∷ entry (a.task ++ left ∷ []) (running ones)
    ∷ entry (a.task ++ right ∷ []) (running twos) ∷ more) =
    subst (λ z. IsUnion z (entry a.task (waiting kept) ∷ entry (a.task ++ left ∷ []) (running ones)
    ∷ entry (a.task ++ right ∷ []) (running twos) ∷ more))
    (sym (stands-put a.task (waits kept (runs ones) (runs twos)) tree))
    (trees-node (tree_of tree) a.task (running frames) (waiting kept) (running ones) (running twos)
    more u there) in
    subst (λ z. IsUnion after (z ∷ own_stand one ∷ own_stand two ∷ more))
    (sym (own-is b a.task (waiting kept) bt bs))
    (subst (λ z. IsUnion after (entry a.task (waiting kept) ∷ z ∷ own_stand two ∷ more))
    (sym (own-is one (a.task ++ left ∷ []) (running ones) ot os))
    (subst (λ z. IsUnion after (entry a.task (waiting kept)
    ∷ entry (a.task ++ left ∷ []) (running ones) ∷ z ∷ more))
    (sym (own-is two (a.task ++ right ∷ []) (running twos) tt ts)) v))

-- a task that waits for two that have ended
pub tasks-ended : (tree : Task) (a one two : Part) (more : List (Map Path Stand))
    (frames : List Frame)
    → IsUnion (stands tree) (own_stand a ∷ own_stand one ∷ own_stand two ∷ more)
    → a.stand ≡ waiting frames
    → one.task ≡ a.task ++ left ∷ [] → one.stand ≡ running [] → two.task ≡ a.task ++ right ∷ []
    → two.stand ≡ running [] → task_at a.task tree ≡ Some (waits frames (runs []) (runs []))
tasks-ended tree a one two more frames (x, s, (y, t, (z, u, v))) e ot os tt ts =
    let (l, r, is) = stand-waits (task_at a.task tree) frames
    (splits-has_left a.task a.stand s (entry-here a.task a.stand) ∙ ap Some e) in
    let below = task_at-child a.task tree frames l r is in
    let first : task_at one.task tree ≡ Some (runs []) = stand-runs (task_at one.task tree) []
    (splits-has_right one.task one.stand s
    (splits-has_left one.task one.stand t (entry-here one.task one.stand)) ∙ ap Some os) in
    let second : task_at two.task tree ≡ Some (runs []) = stand-runs (task_at two.task tree) []
    (splits-has_right two.task two.stand s (splits-has_right two.task two.stand t
    (splits-has_left two.task two.stand u (entry-here two.task two.stand))) ∙ ap Some ts) in
    let left_is : l ≡ runs [] = same_Some l (runs [])
    (sym below.0 ∙ sym (ap (λ q. task_at q tree) ot) ∙ first) in
    let right_is : r ≡ runs [] = same_Some r (runs [])
    (sym below.1 ∙ sym (ap (λ q. task_at q tree) tt) ∙ second) in
    is ∙ ap (λ q. Some (waits frames q r)) left_is
    ∙ ap (λ q. Some (waits frames (runs []) q)) right_is

-- a part's task that waits for those of two others comes to run
pub tasks-join : (tree : Task) (a one two b : Part) (more : List (Map Path Stand))
    (frames kept : List Frame)
    → IsUnion (stands tree) (own_stand a ∷ own_stand one ∷ own_stand two ∷ more)
    → a.stand ≡ waiting frames
    → one.task ≡ a.task ++ left ∷ [] → one.stand ≡ running [] → two.task ≡ a.task ++ right ∷ []
    → two.stand ≡ running [] → b.task ≡ a.task → b.stand ≡ running kept
    → IsUnion (stands (put_task a.task (runs kept) tree)) (own_stand b ∷ more)
tasks-join tree a one two b more frames kept w e ot os tt ts bt bs =
    let there = tree-at a.task tree (waits frames (runs []) (runs []))
    (tasks-ended tree a one two more frames w e ot os tt ts) in
    let u : IsUnion (labels (tree_of tree)) (entry a.task (waiting frames)
    ∷ entry (a.task ++ left ∷ []) (running [])
    ∷ entry (a.task ++ right ∷ []) (running []) ∷ more) =
    subst (λ z. IsUnion z (entry a.task (waiting frames) ∷ entry (a.task ++ left ∷ []) (running [])
    ∷ entry (a.task ++ right ∷ []) (running []) ∷ more)) (stands-are tree)
    (subst (λ z. IsUnion (stands tree) (entry a.task z ∷ entry (a.task ++ left ∷ []) (running [])
    ∷ entry (a.task ++ right ∷ []) (running []) ∷ more)) e
    (subst (λ z. IsUnion (stands tree) (own_stand a ∷ z ∷ entry (a.task ++ right ∷ []) (running [])
    ∷ more))
    (own-is one (a.task ++ left ∷ []) (running []) ot os)
    (subst (λ z. IsUnion (stands tree) (own_stand a ∷ own_stand one ∷ z ∷ more))
    (own-is two (a.task ++ right ∷ []) (running []) tt ts) w))) in
    subst (λ z. IsUnion (stands (put_task a.task (runs kept) tree)) (z ∷ more))
    (sym (own-is b a.task (running kept) bt bs))
    (subst (λ z. IsUnion z (entry a.task (running kept) ∷ more))
    (sym (stands-put a.task (runs kept) tree))
    (trees-back (tree_of tree) a.task (waiting frames) (running kept) (running []) (running []) more
    u there))
