-- Where an arranged program keeps the orders of each procedure's annotations.
-- Names: `start-WHAT` speaks of where they start, `end-WHAT` of where they end, `pre-WHAT` and `post-WHAT`
-- of the orders there.
use Rattle.std.specs.List.{flat_map}
use Rattle.std.proofs.Common.{◌≡◌, ◌∙◌, ◌<◌, ◌≤◌, ◌+◌, ◌-◌, ℕ, suc, true, false, cond, List, [], ◌∷◌, ◌++◌, length, get_or, map, take, slice_get, Some, IfSome, sym, ap, subst, arith}
use Rattle.sf_base.proofs.Options.{some-holds}
use Rattle.sf_base.specs.declared.ids.ProcId.{ProcId}
use Rattle.sf_core.proofs.Inits.{sets_up-is}
use Rattle.sf_core.specs.Program.Init.{sets_up}
use Rattle.std.proofs.lemmas.List.{get_or_read, length-map}
use Rattle.sf_core.specs.declared.ordered.Ordered.{Ordered}
use Rattle.sf_core.specs.Program.Syntax.{Assertion, Procedure, Program}
use Rattle.sf_core.specs.Program.View.{assertion_of, procedure_of, resource_of}
use Rattle.sf_core.specs.Program.ProgramView.{program_of}
use Rattle.sf_precise.specs.declared.arranged.Arranged.{Arranged}
use Rattle.sf_precise.specs.Annotations.{AreOrdersOf, annotations_in, notes_of, owed}
use Rattle.sf_precise.specs.Order.{IsOrderOf}
use Rattle.sf_precise.proofs.Starts.{end-positive, if-some, length-starts, order-there, order-within, post-at, pre-at}

-- each procedure has a start, and the start after it
pub start-more : (a : Arranged) (f : ℕ) → f < length a.program.procedures.items → f + 1 < length a.starts.items
start-more a f below =
    omega (
      arith,
      below,
      ap length a.started,
      length-starts (length a.program.resources.items) (map procedure_of a.program.procedures.items),
      length-map a.program.procedures.items procedure_of,
    )

-- a start as it is read
pub start-read : (a : Arranged) (f start : ℕ) → f < length a.program.procedures.items
    → start ≡ get_or a.starts.items f start → start ≡ get_or a.starts.items f 0
start-read a f start below is =
    let more = start-more a f below in get_or_read a.starts.items f start (omega (arith, more)) is 0

-- an end as it is read
pub end-read : (a : Arranged) (f end : ℕ) → f < length a.program.procedures.items
    → end ≡ get_or a.starts.items (f + 1) end → end ≡ get_or a.starts.items (suc f) 0
end-read a f end below is =
    get_or_read a.starts.items (f + 1) end (start-more a f below) is 0
    ∙ ap (λ n. get_or a.starts.items n 0) (let e : f + 1 ≡ suc f = omega arith in e)

-- an end as it is read is no start of all
pub end-read_positive : (a : Arranged) (f end : ℕ) → f < length a.program.procedures.items
    → end ≡ get_or a.starts.items (f + 1) end → 1 ≤ end
end-read_positive a f end below is =
    end-positive _ a.starts.items (map procedure_of a.program.procedures.items) f end a.started
    (end-read a f end below is) (rw length-map below)

-- the assertion of an order
abbrev taken : Ordered → Assertion
taken o = assertion_of o.assertion

module _ (a : Arranged) (f : ℕ) (below : f < length a.program.procedures.items)
    (orders : AreOrdersOf (annotations_in (program_of a.program)) (map taken a.orders.items)) where
  pre-noted : (start : ℕ) → start ≡ get_or a.starts.items f start → (h : Procedure)
      → slice_get (program_of a.program).procedures f ≡ Some h
      → slice_get (annotations_in (program_of a.program)) start ≡ Some h.pre
  pre-noted start is =
      pre-at (program_of a.program) _ a.starts.items f start (length-map a.program.resources.items resource_of)
      a.started (start-read a f start below is)

  post-noted : (end : ℕ) → end ≡ get_or a.starts.items (f + 1) end → (h : Procedure)
      → slice_get (program_of a.program).procedures f ≡ Some h
      → slice_get (annotations_in (program_of a.program)) (end - 1) ≡ Some h.post
  post-noted end is =
      post-at (program_of a.program) _ a.starts.items f end (length-map a.program.resources.items resource_of)
      a.started (end-read a f end below is)

  -- the order of a pre
  pub pre-within : (start : ℕ) → start ≡ get_or a.starts.items f start → start < length a.orders.items
  pre-within start is =
      order-within taken (annotations_in (program_of a.program)) a.orders.items (program_of a.program).procedures
      f start (λ h. h.pre) orders (pre-noted start is) (rw length-map below)

  pub pre-there : (start : ℕ) → start ≡ get_or a.starts.items f start → (o : Ordered)
      → o ≡ get_or a.orders.items start o
      → IfSome (slice_get (program_of a.program).procedures f) (λ h. IsOrderOf h.pre (taken o))
  pre-there start is =
      order-there taken (annotations_in (program_of a.program)) a.orders.items (program_of a.program).procedures
      f start (λ h. h.pre) orders (pre-noted start is)

  -- the order of a post
  pub post-within : (end : ℕ) → end ≡ get_or a.starts.items (f + 1) end → end - 1 < length a.orders.items
  post-within end is =
      order-within taken (annotations_in (program_of a.program)) a.orders.items (program_of a.program).procedures
      f (end - 1) (λ h. h.post) orders (post-noted end is) (rw length-map below)

  pub post-there : (end : ℕ) → end ≡ get_or a.starts.items (f + 1) end → (o : Ordered)
      → o ≡ get_or a.orders.items (end - 1) o
      → IfSome (slice_get (program_of a.program).procedures f) (λ h. IsOrderOf h.post (taken o))
  post-there end is =
      order-there taken (annotations_in (program_of a.program)) a.orders.items (program_of a.program).procedures
      f (end - 1) (λ h. h.post) orders (post-noted end is)

-- the orders of the first of annotations
first-orders : (xs ys : List Assertion) (orders : List Ordered) → AreOrdersOf (xs ++ ys) (map taken orders)
    → AreOrdersOf xs (map taken (take (length xs) orders))
first-orders [] ys orders z = tt
first-orders (x ∷ xs) ys [] z = absurd z
first-orders (x ∷ xs) ys (o ∷ orders) z = (z.0, first-orders xs ys orders z.1)

module _ (a : Arranged)
    (orders : AreOrdersOf (annotations_in (program_of a.program)) (map taken a.orders.items)) where
  -- those of the invariants are there
  pub invariants-there : (n : ℕ) → n ≡ length a.program.resources.items
      → AreOrdersOf (map (λ r. r.invariant) (program_of a.program).resources) (map taken (take n a.orders.items))
  invariants-there n e =
      let p = program_of a.program in
      let same : length (map (λ r. r.invariant) p.resources) ≡ n = length-map p.resources (λ r. r.invariant)
      ∙ length-map a.program.resources.items resource_of ∙ sym e in
      subst (λ k. AreOrdersOf (map (λ r. r.invariant) p.resources) (map taken (take k a.orders.items))) same
      (first-orders (map (λ r. r.invariant) p.resources) (flat_map notes_of p.procedures) a.orders.items orders)

-- what the return of a procedure owes, by whether it sets the resources up
module _ (p : Program) (f : ProcId) where
  pub owed-invariants : (orders : List Assertion) → sets_up p f ≡ true
      → AreOrdersOf (map (λ r. r.invariant) p.resources) orders
      → IfSome (slice_get p.procedures f.0) (λ h. AreOrdersOf (owed p h) orders)
  owed-invariants orders e z =
      if-some (λ h. AreOrdersOf (owed p h) orders) (slice_get p.procedures f.0)
      (λ h i. subst (λ b. AreOrdersOf (cond b (map (λ r. r.invariant) p.resources) (h.post ∷ [])) orders)
      (sym e ∙ sets_up-is p f h i) z)

  pub owed-post : (o : Assertion) → sets_up p f ≡ false
      → IfSome (slice_get p.procedures f.0) (λ h. IsOrderOf h.post o)
      → IfSome (slice_get p.procedures f.0) (λ h. AreOrdersOf (owed p h) (o ∷ []))
  owed-post o e z =
      if-some (λ h. AreOrdersOf (owed p h) (o ∷ [])) (slice_get p.procedures f.0)
      (λ h i. subst (λ b. AreOrdersOf (cond b (map (λ r. r.invariant) p.resources) (h.post ∷ [])) (o ∷ []))
      (sym e ∙ sets_up-is p f h i)
      (some-holds (λ h. IsOrderOf h.post o) (slice_get p.procedures f.0) h i z, tt))
