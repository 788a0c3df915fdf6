-- Callers as lists against the calls of the program.
use Rattle.std.proofs.Common.{◌≡◌, ◌≢◌, ◌⊎◌, ◌↔◌, ◌<◌, ◌≤◌, ◌+◌, ℕ, zero, suc, true, false, List, [], ◌∷◌, ◌++◌, length, get_or, Option, Some, None, slice_get, Vec, Contains, All, refl, sym, ap, inl, inr, ◌∙◌, subst, arith}
use Rattle.std.proofs.Math.ListN.{set}
use Rattle.std.specs.List.{AllZip}
use Rattle.std.proofs.lemmas.Bool.Decides.{eqb_tells}
use Rattle.std.proofs.lemmas.List.Elements.{Contains-append_left, Contains-push, Contains-push_cases, Contains-get_or}
use Rattle.std.proofs.lemmas.Option.{slice_get_read, slice_get_within, get_or_from_slice_get, same_Some, none-some}
use Rattle.std.proofs.lemmas.Bool.{or_parts}
use Rattle.std.specs.declared.alloc.Global.{Global}
use Rattle.sf_base.proofs.Elements.{contains-nil}
use Rattle.sf_base.proofs.Lookup.{get-set_same, get-set_other}
use Rattle.sf_base.specs.declared.ids.ProcId.{ProcId}
use Rattle.sf_base.specs.declared.ids.ResId.{ResId}
use Rattle.sf_core.specs.Program.Formed.{IsFormed}
use Rattle.sf_core.specs.Program.Heads.{sites}
use Rattle.sf_core.specs.Program.Syntax.{Procedure, Program}
use Rattle.sf_calls.specs.Conditions.{Calls}
use Rattle.sf_calls.specs.declared.summary.Summary.{Summary}
use Rattle.sf_calls.specs.Checked.Listed.{is_entered}
use Rattle.sf_calls.specs.Checked.Visited.{IsCaller, AreCallers}
use Rattle.sf_calls.specs.Checked.Summaries.{IsSummaryOf, AreSummaries, has_calls_inside, left_out_has_calls_inside}
use Rattle.sf_calls.specs.Outside.{CallsIn}
use Rattle.sf_calls.specs.Checked.Tests.{callees_in}
use Rattle.sf_calls.specs.Checked.Lemmas.Decided.{callees_in_are, entered_is}
use Rattle.sf_calls.specs.Checked.Lemmas.Listing.{calls_anyway}
use Rattle.sf_calls.specs.Checked.Lemmas.Searches.{proc}
use Rattle.sf_calls.specs.Checked.Lemmas.Within.{callees_within}

-- empty rows have no caller
pub no_caller : (rows : List (Vec ProcId Global)) → All (λ v. v.items ≡ []) rows → (f g : ProcId)
    → IsCaller rows f g → ⊥
no_caller rows empty f g (fs, here, c) =
    let below : g.0 < length rows = slice_get_within rows g.0 fs here in
    let none : fs.items ≡ [] = ap (λ (v : Vec ProcId Global). v.items)
    (sym (get_or_from_slice_get rows g.0 fs fs here)) ∙ empty g.0 fs below in
    contains-nil f (subst (λ (xs : List ProcId). Contains xs f) none c)

-- a caller is added to one row
pub caller_pushed : (callers : List (Vec ProcId Global)) (f g : ProcId) (row v : Vec ProcId Global)
    → g.0 < length callers → row ≡ get_or callers g.0 row → v.items ≡ row.items ++ f ∷ []
    → (h k : ProcId) → IsCaller (set callers g.0 v) h k ↔ (IsCaller callers h k ⊎ ((h ≡ f) × (k ≡ g)))
caller_pushed callers f g row v below is pushed h k = (to, from)
  where
    here : slice_get callers g.0 ≡ Some row
    here = slice_get_read callers (length callers) g.0 row refl below is

    to : IsCaller (set callers g.0 v) h k → IsCaller callers h k ⊎ ((h ≡ f) × (k ≡ g))
    to (fs, at, c) = elim (eqb_tells k.0 g.0) [
      | inl e ↦
          let same : v
          ≡ fs = same_Some v fs
          (sym (get-set_same callers g.0 v below) ∙ ap (slice_get (set callers g.0 v)) (sym e.1)
          ∙ at) in
          let in_v : Contains v.items h = subst (λ (w : Vec ProcId Global). Contains w.items h)
          (sym same) c in
          elim (Contains-push_cases row.items f h (subst (λ (xs : List ProcId). Contains xs h) pushed in_v)) [
            | inl x ↦ inl (row, ap (slice_get callers) e.1 ∙ here, x)
            | inr x ↦ inr (sym x, ap proc e.1)
          ]
      | inr e ↦ inl (fs, sym (get-set_other callers g.0 k.0 v e.1) ∙ at, c)
    ]

    from : IsCaller callers h k ⊎ ((h ≡ f) × (k ≡ g)) → IsCaller (set callers g.0 v) h k
    from (inl (fs, at, c)) = elim (eqb_tells k.0 g.0) [
      | inl e ↦
          let same : fs ≡ row = same_Some fs row (sym at ∙ ap (slice_get callers) e.1 ∙ here) in
          let in_row : Contains row.items h =
          subst (λ (w : Vec ProcId Global). Contains w.items h) same c in (
            v,
            ap (slice_get (set callers g.0 v)) e.1 ∙ get-set_same callers g.0 v below,
            rw pushed
                (Contains-append_left row.items (f ∷ []) h in_row),
          )
      | inr e ↦ (fs, get-set_other callers g.0 k.0 v e.1 ∙ at, c)
    ]
    from (inr (e, e')) = (
      v,
      ap (λ (j : ProcId). slice_get (set callers g.0 v) j.0) e'
          ∙ get-set_same callers g.0 v below,
      rw pushed
          (subst (λ (j : ProcId). Contains (row.items ++ f ∷ []) j) (sym e) (Contains-push row.items f)),
    )

-- a list of callees grows by one
pub callers_more : (f : ProcId) (gs : List ProcId) (g : ProcId) (before now after : List (Vec ProcId Global))
    → ((h k : ProcId) → IsCaller now h k ↔ (IsCaller before h k ⊎ ((h ≡ f) × Contains gs k)))
    → ((h k : ProcId) → IsCaller after h k ↔ (IsCaller now h k ⊎ ((h ≡ f) × (k ≡ g))))
    → (h k : ProcId) → IsCaller after h k ↔ (IsCaller before h k ⊎ ((h ≡ f) × Contains (gs ++ g ∷ []) k))
callers_more f gs g before now after first next h k = (to, from)
  where
    to : IsCaller after h k → IsCaller before h k ⊎ ((h ≡ f) × Contains (gs ++ g ∷ []) k)
    to c = elim ((next h k).0 c) [
      | inl x ↦
          elim ((first h k).0 x) [
            | inl y ↦ inl y
            | inr y ↦ inr (y.0, Contains-append_left gs (g ∷ []) k y.1)
          ]
      | inr x ↦ inr (x.0, subst (λ (j : ProcId). Contains (gs ++ g ∷ []) j) (sym x.1) (Contains-push gs g))
    ]

    from : IsCaller before h k ⊎ ((h ≡ f) × Contains (gs ++ g ∷ []) k) → IsCaller after h k
    from (inl x) = (next h k).1 (inl ((first h k).1 (inl x)))
    from (inr (e, c)) = elim (Contains-push_cases gs g k c) [
      | inl y ↦ (next h k).1 (inl ((first h k).1 (inr (e, y))))
      | inr y ↦ (next h k).1 (inr (e, sym y))
    ]

-- no procedure was looked at
pub calls_none : (p : Program) (but : Option ResId) (rows : List (Vec ProcId Global))
    → ((f g : ProcId) → IsCaller rows f g → ⊥) → (f g : ProcId)
    → IsCaller rows f g ↔ ((f.0 < 0) × Calls p but f g)
calls_none p but rows none f g =
    (λ c. absurd (none f g c), λ h. absurd (let below : f.0 < 0 = h.0 in omega arith))

-- one more procedure was looked at
pub calls_more : (p : Program) (but : Option ResId) (i : ℕ) (h : Procedure) (callees : List ProcId)
    (before after : List (Vec ProcId Global))
    → slice_get p.procedures i ≡ Some h → callees ≡ callees_in but (sites [] h.body)
    → ((f g : ProcId) → IsCaller before f g ↔ ((f.0 < i) × Calls p but f g))
    → ((f g : ProcId) → IsCaller after f g ↔ (IsCaller before f g ⊎ ((f ≡ proc i) × Contains callees g)))
    → (f g : ProcId) → IsCaller after f g ↔ ((f.0 < i + 1) × Calls p but f g)
calls_more p but i h callees before after at are first next f g = (to, from)
  where
    to : IsCaller after f g → (f.0 < i + 1) × Calls p but f g
    to c = elim ((next f g).0 c) [
      | inl x ↦ (let below : f.0 < i = ((first f g).0 x).0 in omega arith, ((first f g).0 x).1)
      | inr x ↦
          let here : f.0 ≡ i = ap (λ (k : ProcId). k.0) x.0 in (
            omega arith,
            (
              h,
              ap (slice_get p.procedures) here
                  ∙ at,
              (callees_in_are but g h.body).0 (subst (λ (xs : List ProcId). Contains xs g) are x.1),
            ),
          )
    ]

    from : (f.0 < i + 1) × Calls p but f g → IsCaller after f g
    from (below, (k, there, calls)) = elim (eqb_tells f.0 i) [
      | inl e ↦
          let same : k ≡ h = same_Some k h (sym there ∙ ap (slice_get p.procedures) e.1 ∙ at) in
          (next f g).1
          (inr (
            ap proc e.1,
            subst (λ (xs : List ProcId). Contains xs g) (sym are)
                ((callees_in_are but g h.body).1
                (subst (λ (j : Procedure). CallsIn but g j.body) same calls)),
          ))
      | inr e ↦
          (next f g).1 (inl ((first f g).1 (let other : f.0 ≢ i = e.1 in omega arith, (k, there, calls))))
    ]

-- all procedures were looked at
pub calls_all : (p : Program) (but : Option ResId) (i : ℕ) (rows : List (Vec ProcId Global))
    → length p.procedures ≤ i
    → ((f g : ProcId) → IsCaller rows f g ↔ ((f.0 < i) × Calls p but f g)) → (f g : ProcId)
    → IsCaller rows f g ↔ Calls p but f g
calls_all p but i rows past are f g = (
  λ c. ((are f g).0 c).1,
  λ h. (are f g).1 (
    let below : f.0 < length p.procedures = slice_get_within p.procedures f.0 h.0 h.1 in
        omega arith,
    h,
  ),
)

-- each callee is there
pub callees_there : (p : Program) (but : Option ResId) (i : ℕ) (h : Procedure) (callees : List ProcId)
    → IsFormed p → slice_get p.procedures i ≡ Some h → callees ≡ callees_in but (sites [] h.body)
    → All (λ g. g.0 < length p.procedures) callees
callees_there p but i h callees formed at are k d below =
    let g : ProcId = get_or callees k d in
    let has : Contains (callees_in but (sites [] h.body)) g = subst (λ (xs : List ProcId). Contains xs g) are
    (Contains-get_or callees k d below) in
    callees_within p h but g h.body (formed.procedures i h at).body ((callees_in_are but g h.body).0 has)

-- no callee was added
pub callers_first : (f : ProcId) (rows : List (Vec ProcId Global)) → (h k : ProcId)
    → IsCaller rows h k ↔ (IsCaller rows h k ⊎ ((h ≡ f) × Contains [] k))
callers_first f rows h k = (λ c. inl c, from)
  where
    from : IsCaller rows h k ⊎ ((h ≡ f) × Contains [] k) → IsCaller rows h k
    from (inl x) = x
    from (inr x) = absurd (contains-nil k x.1)

-- a caller is there already
pub caller_there : (callers : List (Vec ProcId Global)) (f g : ProcId) (row : Vec ProcId Global)
    → g.0 < length callers → row ≡ get_or callers g.0 row → Contains row.items f
    → (h k : ProcId) → IsCaller callers h k ↔ (IsCaller callers h k ⊎ ((h ≡ f) × (k ≡ g)))
caller_there callers f g row below is has h k = (λ c. inl c, from)
  where
    from : IsCaller callers h k ⊎ ((h ≡ f) × (k ≡ g)) → IsCaller callers h k
    from (inl c) = c
    from (inr (e, e')) = (
      row,
      ap (λ (j : ProcId). slice_get callers j.0) e'
          ∙ slice_get_read callers (length callers) g.0 row refl below is,
      subst (Contains row.items)
          (sym e) has,
    )

-- a call outside the regions of what is left out is a call
calls_plain : (p : Program) (but : Option ResId) (f g : ProcId) → Calls p but f g → Calls p None f g
calls_plain p None f g c = c
calls_plain p (Some r) f g c = (c.0, c.1, calls_anyway r g c.0.body c.2)

-- where no call is inside a region of r, each is outside
without_calls : (r : ResId) (hs : List Procedure) (ts : List Summary) → AllZip IsSummaryOf hs ts
    → has_calls_inside r ts ≡ false → (k : ℕ) (h : Procedure) → slice_get hs k ≡ Some h → (g : ProcId)
    → CallsIn None g h.body → CallsIn (Some r) g h.body
without_calls r [] ts z e k h at g c = absurd (none-some h at)
without_calls r (j ∷ hs) [] z e k h at g c = absurd z
without_calls r (j ∷ hs) (t ∷ ts) z e zero h at g c =
    let here : is_entered r t.with_calls.items
    ≡ false = (or_parts (is_entered r t.with_calls.items) (has_calls_inside r ts) e).0 in
    let apart : Contains t.with_calls.items r → ⊥ = λ m. let yes : is_entered r t.with_calls.items
    ≡ true = (entered_is r t.with_calls.items).1 m in let f : true ≡ false = sym yes ∙ here in cc in
    let same : j ≡ h = same_Some j h at in
    subst (λ (i : Procedure). CallsIn (Some r) g i.body) same
    (z.0.with_calls r apart g (subst (λ (i : Procedure). CallsIn None g i.body) (sym same) c))
without_calls r (j ∷ hs) (t ∷ ts) z e (suc k) h at g c =
    without_calls r hs ts z.1 (or_parts (is_entered r t.with_calls.items) (has_calls_inside r ts) e).1 k h
    at g c

plain_calls : (p : Program) (but : Option ResId) (ts : List Summary) → AreSummaries p ts
    → left_out_has_calls_inside but ts ≡ false → (f g : ProcId) → Calls p None f g → Calls p but f g
plain_calls p None ts z e f g c = c
plain_calls p (Some r) ts z e f g c = (c.0, c.1, without_calls r p.procedures ts z e f.0 c.0 c.1 g c.2)

-- the callers are the same where no call is inside a region
pub callers_kept : (p : Program) (but last : Option ResId) (ts : List Summary)
    (callers : List (Vec ProcId Global))
    → AreSummaries p ts → left_out_has_calls_inside but ts ≡ false
    → left_out_has_calls_inside last ts ≡ false → AreCallers p last callers → AreCallers p but callers
callers_kept p but last ts callers z e e' are = record {
  size = are.size;
  are = λ f g. (
    λ c. plain_calls p but ts z e f g (calls_plain p last f g ((are.are f g).0 c)),
    λ c. (are.are f g).1 (plain_calls p last ts z e' f g (calls_plain p but f g c)),
  );
}
