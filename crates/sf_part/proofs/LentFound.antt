-- The shares of the two children of a fork, found one beside the other.
-- Names: `lent-LAW`.
use Rattle.std.specs.Prelude.{◌≡◌, ◌≢◌, ◌+◌, ◌<◌, ℕ, true, false, List, [], ◌∷◌, ◌++◌, All, get_or, length, Option, Some, None, Ok, Contains, nat_eq, reverse, unwrap_or}
use Rattle.std.specs.List.{IsDistinct, concat, slice_get}
use Rattle.std.specs.Set.{is_member}
use Rattle.std.proofs.Common.{sym, ap, ◌∙◌, refl, subst, arith}
use Rattle.std.proofs.lemmas.Bool.{false≢true}
use Rattle.std.proofs.lemmas.List.{append-nil, reverse-append, reverse-reverse}
use Rattle.std.proofs.lemmas.List.Elements.{All-contains_itself, Contains-append_left, Contains-append_right}
use Rattle.sf_base.specs.declared.ids.ProcId.{ProcId}
use Rattle.sf_base.specs.declared.ids.ResId.{ResId}
use Rattle.sf_base.specs.declared.ids.Var.{Var}
use Rattle.sf_base.specs.declared.ids.Var.TheVariants.{Own, Shared}
use Rattle.sf_base.specs.declared.value.Value.{Value}
use Rattle.sf_base.specs.declared.value.Value.TheVariants.{Nil as nil}
use Rattle.sf_base.specs.HeapStore.{Apart, Cell, Heap, Slot, Store, shared}
use Rattle.sf_calls.specs.Checked.Lemmas.Within.{level_within}
use Rattle.sf_core.specs.Assertions.Determined.{Determined}
use Rattle.sf_core.specs.Assertions.Occurs.{VarOccursIn}
use Rattle.sf_core.specs.Assertions.Sat.{Sat, value}
use Rattle.sf_core.specs.Machine.Config.{Frame}
use Rattle.sf_core.specs.Program.Formed.{IsFormed, IsParameter, ProcedureWithin, variable_count}
use Rattle.sf_core.specs.Program.Syntax.{Assertion, Procedure, Program}
use Rattle.sf_core.proofs.Assertions.Determined.{determined-precise}
use Rattle.sf_core.proofs.Assertions.Sat.{sat-same_variables}
use Rattle.sf_foot.specs.declared.found.Found.{Found}
use Rattle.sf_foot.specs.Found.{FindsNext}
use Rattle.sf_frame.specs.Commons.{common_of}
use Rattle.sf_frame.specs.declared.shared.Shared.{Shared as CodeShared}
use Rattle.sf_frame.specs.declared.store.Store.{Store as CodeStore}
use Rattle.sf_frame.specs.Stores.{store_of}
use Rattle.sf_heap.specs.Cells.{HasCell, heap_of}
use Rattle.sf_precise.specs.Checked.Laws.{OrderKeepsMeaning, OrderedIsDetermined}
use Rattle.sf_precise.specs.Order.{IsOrderOf}
use Rattle.sf_part.specs.Checked.Children.{AreLent, HasJust, HasNoneLent, HasNoNextLent, IsFirstOf, IsNextLent, NoneInBoth, seen_by}
use Rattle.sf_part.proofs.Handed.{distinct-apart, last-same, member-decides}
use Rattle.sf_part.proofs.Named.{just-one}

-- What is found next
module _ (keeps : OrderKeepsMeaning) (decides : OrderedIsDetermined) (p : Program)
    (formed : IsFormed p) (callee : ProcId) (f : Frame) (g : Procedure)
    (first : IsFirstOf p callee f g) (s : CodeShared) (taken : Store) (old new : Found)
    (store : CodeStore) (o : Assertion) (ord : IsOrderOf g.pre o) (known : Var → Value)
    (own_known : (n : ℕ) → n < length g.names
    → known (Own n) ≡ seen_by f (store_of store) (Own n))
    (shared_known : (r : ResId) (i : ℕ) → i < variable_count (slice_get p.resources r.0)
    → known (Shared r i) ≡ unwrap_or (store_of store (shared r i)) nil)
    (just : HasJust p f g (common_of s).store (store_of store))
    (beside : NoneInBoth taken (store_of store)) where
  within : ProcedureWithin p g
  within = formed.procedures callee.0 g first.there

  -- the values of the variables that occur in the precondition
  agree : (x : Var) → VarOccursIn g.pre.level x → known x ≡ seen_by f (store_of store) x
  agree (Own n) m = own_known n
      (let few : n < g.references + g.values =
      level_within p.fields (IsParameter p g) [] (Own n) g.pre.level within.pre.annotation.within m
      in let many = within.declared in omega arith)
  agree (Shared r i) m = shared_known r i
      (level_within p.fields (IsParameter p g) [] (Shared r i) g.pre.level
      within.pre.annotation.within m)
      ∙ ap (λ z. unwrap_or (store_of store z) nil) (sym (first.names r i))

  decided : Determined g.pre.level
  decided = (decides g.pre.level o.level ord.level).0

  to-seen : (heap : Heap) → Sat o.level (value known) (λ n. nil) heap
      → Sat g.pre.level (value (seen_by f (store_of store))) (λ n. nil) heap
  to-seen heap h = sat-same_variables g.pre.level known (seen_by f (store_of store)) (λ n. nil) heap
      agree ((keeps g.pre.level o.level known (λ n. nil) heap ord.level).1 h)

  from-seen : (heap : Heap)
      → Sat g.pre.level (value (seen_by f (store_of store))) (λ n. nil) heap
      → Sat o.level (value known) (λ n. nil) heap
  from-seen heap h = (keeps g.pre.level o.level known (λ n. nil) heap ord.level).0
      (sat-same_variables g.pre.level (seen_by f (store_of store)) known (λ n. nil) heap
      (λ x m. sym (agree x m)) h)

  pub lent-next : FindsNext o.level known s.heap old new (Ok true)
      → IsNextLent p f g s taken old new store
  lent-next h = record {
    determined = decided;
    just = just;
    beside = beside;
    at = h.1;
    parts = h.2;
    apart = h.0;
    foot =
        let found = h.3 in
        record {
          part = found.part;
          foot = record {
            rest = found.foot.rest;
            splits = found.foot.splits;
            sat = to-seen found.part found.foot.sat;
          };
          at = found.at;
        };
  }

  pub lent-not_next : FindsNext o.level known s.heap old new (Ok false)
      → HasNoNextLent p f g s taken old
  lent-not_next h part mine apart piece foot lacks =
      let same : store_of store ≡ part =
      just-one p f g (common_of s).store (store_of store) part just mine in
      h.1 (λ heap one two other another x y i j.
      determined-precise g.pre.level (value (seen_by f (store_of store))) (λ n. nil) decided heap
      one two other another x y (to-seen one i) (to-seen two j))
      piece (record {
        rest = foot.rest;
        splits = foot.splits;
        sat = from-seen piece
            (subst (λ (z : Store). Sat g.pre.level (value (seen_by f z)) (λ n. nil) piece)
            (sym same) foot.sat);
      }) lacks

-- what comes before the last of a list is one
pub front-same : {A : Type 0} (xs ys : List A) (x y : A) → xs ++ x ∷ [] ≡ ys ++ y ∷ [] → xs ≡ ys
front-same xs ys x y e =
    let f : x ∷ reverse xs ≡ y ∷ reverse ys =
    sym (reverse-append xs (x ∷ [])) ∙ ap reverse e ∙ reverse-append ys (y ∷ []) in
    let g : reverse xs ≡ reverse ys = cc in
    sym (reverse-reverse xs) ∙ ap reverse g ∙ reverse-reverse ys

-- Two shares, of which the second was found beside the first
module _ (p : Program) (f h : Frame) (g k : Procedure) (s : CodeShared) (nothing : Store)
    (none one_found : Found) (one : CodeStore) (empty : none.parts.items ≡ [])
    (first : IsNextLent p f g s nothing none one_found one) where
  one-parts : one_found.parts.items ≡ first.at ∷ []
  one-parts = first.parts ∙ ap (λ z. z ++ first.at ∷ []) empty

  one-all : concat one_found.parts.items ≡ first.at
  one-all = ap concat one-parts ∙ append-nil first.at

  -- nothing else is the first one, and nothing beside it the second
  pub lent-no_second : HasNoNextLent p h k s (store_of one) one_found
      → HasNoneLent p f h g k (common_of s)
  lent-no_second lacking a b cells others ja jb apart fa fb disjoint =
      let same : store_of one ≡ a =
      just-one p f g (common_of s).store (store_of one) a first.just ja in
      let part : first.foot.part ≡ cells =
      determined-precise g.pre.level (value (seen_by f a)) (λ n. nil) first.determined
      (heap_of s.heap) first.foot.part cells first.foot.foot.rest fa.rest first.foot.foot.splits
      fa.splits
      (subst (λ (z : Store). Sat g.pre.level (value (seen_by f z)) (λ n. nil) first.foot.part) same
      first.foot.foot.sat) fa.sat in
      lacking b jb (subst (λ (z : Store). NoneInBoth z b) (sym same) apart) others fb (λ l m.
      lacks (cells l) (others l)
      (λ e. (first.foot.at l).1 (subst (λ z. Contains z l) one-all
      ((member-decides (concat one_found.parts.items) l).0 m)) (ap (λ (z : Heap). z l) part ∙ e))
      (disjoint l))
    where
      lacks : (x y : Option Cell) → x ≢ None → Apart x y → y ≡ None
      lacks None y n a = absurd (n refl)
      lacks (Some v) None n a = refl
      lacks (Some v) (Some w) n a = absurd a

  module _ (two_found : Found) (two : CodeStore)
      (second : IsNextLent p h k s (store_of one) one_found two_found two) where
    pub lent-parts : two_found.parts.items ≡ (first.at ∷ []) ++ second.at ∷ []
    lent-parts = second.parts ∙ ap (λ z. z ++ second.at ∷ []) one-parts

    both-all : concat two_found.parts.items ≡ first.at ++ second.at
    both-all = ap concat lent-parts ∙ ap (λ z. first.at ++ z) (append-nil second.at)

    there : (at : List ℕ) → ((l : ℕ) → Contains at l → Contains (first.at ++ second.at) l)
        → All (HasCell s.heap) at
    there at sub d e l =
        let here = All-contains_itself at d e l in
        second.apart.there (get_or at d e)
        ((member-decides (concat two_found.parts.items) (get_or at d e)).1
        (subst (λ z. Contains z (get_or at d e)) (sym both-all) (sub (get_or at d e) here)))

    lent-found : AreLent p f h g k s (record { store = one; at = first.at })
        (record { store = two; at = second.at })
    lent-found = record {
      one_just = first.just;
      two_just = second.just;
      slots = second.beside;
      one_cells = there first.at (λ l c. Contains-append_left first.at second.at l c);
      two_cells = there second.at (λ l c. Contains-append_right first.at second.at l c);
      cells = λ l c d. distinct-apart first.at second.at l
          (subst (IsDistinct nat_eq) both-all second.apart.distinct) c d;
      one_foot = first.foot;
      two_foot = second.foot;
    }

    -- as they come off the list, the last one first
    pub lent-shares : (rest front : List (List ℕ)) (left_at right_at : List ℕ)
        → two_found.parts.items ≡ rest ++ right_at ∷ [] → rest ≡ front ++ left_at ∷ []
        → AreLent p f h g k s (record { store = one; at = left_at })
        (record { store = two; at = right_at })
    lent-shares rest front left_at right_at e d =
        let last : second.at ≡ right_at =
        last-same (first.at ∷ []) rest second.at right_at (sym lent-parts ∙ e) in
        let before : first.at ∷ [] ≡ rest =
        front-same (first.at ∷ []) rest second.at right_at (sym lent-parts ∙ e) in
        let one_at : first.at ≡ left_at =
        last-same [] front first.at left_at (before ∙ d) in
        subst (λ z. AreLent p f h g k s (record { store = one; at = z })
        (record { store = two; at = right_at })) one_at
        (subst (λ z. AreLent p f h g k s (record { store = one; at = first.at })
        (record { store = two; at = z })) last lent-found)

-- where there is no first one, there are no two
pub lent-no_first : (p : Program) (f h : Frame) (g k : Procedure) (s : CodeShared)
    (nothing : Store) (none : Found) → none.parts.items ≡ [] → ((slot : Slot) → nothing slot ≡ None)
    → HasNoNextLent p f g s nothing none → HasNoneLent p f h g k (common_of s)
lent-no_first p f h g k s nothing none empty lacks lacking a b cells others ja jb apart fa fb
    disjoint =
    lacking a ja (λ slot. subst (λ z. Apart z (a slot)) (sym (lacks slot)) tt) cells fa (λ l m.
    absurd (false≢true (let e : is_member nat_eq (concat none.parts.items) l ≡ false =
    ap (λ z. is_member nat_eq (concat z) l) empty in sym e ∙ m)))
