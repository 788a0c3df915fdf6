-- A text is a start, or is none for one reason.
-- Names: `precise-LAW` for assertions; `start-LAW`, `fault-LAW`; `decides-CASE` for the answer of the call.
use Rattle.std.proofs.Common.{◌≡◌, ◌⊎◌, ℕ, Bool, true, false, cond, List, [], ◌∷◌, Some, Contains, Ok, Err, Result, map, slice_get, sym, ap, ◌∙◌, subst, subst₂, inl, inr}
use Rattle.std.specs.List.{AllZip, flat_map}
use Rattle.std.specs.Result.{IfErr, IfOk}
use Rattle.std.proofs.lemmas.List.Elements.{Contains-append_left, Contains-append_right}
use Rattle.std.proofs.lemmas.Option.{none-some, same_Some}
use Rattle.sf_base.specs.declared.ids.ProcId.{ProcId}
use Rattle.sf_base.specs.declared.ids.Var.{Var}
use Rattle.sf_base.specs.declared.value.Value.{Value}
use Rattle.sf_base.specs.HeapStore.{Heap}
use Rattle.sf_base.proofs.Elements.{contains-cons, contains-nil}
use Rattle.sf_base.proofs.Members.{contains-flat_map}
use Rattle.sf_core.specs.Checked.Assertions.Laws.{DeterminedHasOneFootprint}
use Rattle.sf_core.specs.Program.Syntax.{Assertion, Procedure, Program, Resource}
use Rattle.sf_heap.specs.Cells.{Cells, heap_of}
use Rattle.sf_foot.specs.declared.start.Start.{Start}
use Rattle.sf_foot.specs.declared.vars.Vars.{Vars}
use Rattle.sf_foot.specs.Starting.{IsFirstUnit, StartsWith, assertions_of}
use Rattle.sf_foot.specs.Variables.{value_of}
use Rattle.sf_precise.specs.Annotations.{AreOrdersOf, annotations_in, notes_of}
use Rattle.sf_precise.specs.Checked.Laws.{OrderedIsDetermined}
use Rattle.sf_precise.specs.Order.{IsOrderOf}
use Rattle.sf_state.specs.declared.fault.StartFault.{StartFault}
use Rattle.sf_state.specs.declared.fault.StartFault.TheVariants as fault
use Rattle.sf_state.specs.Checked.Beginning.{Begins, IsBeginFault}
use Rattle.sf_lines.specs.Lines.{Text}
use Rattle.sf_state.specs.Names.{format_of}
use Rattle.sf_state.specs.Stated.{text_refusal}
use Rattle.sf_state.specs.Starts.{DecidesStart, GivesState, HaveFootprints, IsLeftOver, IsNoStart, IsStartFault, IsStartText, IsUnmet, assertion_name, gives_fresh, refused, unmet, left_over}
use Rattle.sf_state.proofs.Beginning.{begin-leaves_none}
use Rattle.sf_state.proofs.Mentions.{contains-at}
use Rattle.sf_state.proofs.NextFound.{ordered-precise}
use Rattle.sf_state.proofs.StateOnce.{state-once}
use Rattle.sf_state.proofs.Turns.{ArePrecise, left_over-empty, left_over-once, turns-from_parts, unmet-not_all, unmet-once}

-- each of the first has one that it is related to
related : {A B : Type 0} (R : A → B → Type 0) (xs : List A) (ys : List B) (x : A) → AllZip R xs ys → Contains xs x
    → (y : B) × R x y
related R [] ys x z c = absurd (contains-nil x c)
related R (w ∷ xs) [] x z c = absurd z
related {A} R (w ∷ xs) (y ∷ ys) x z c = elim ((contains-cons w xs x).0 c) [
  | inl e ↦ (y, subst (λ (v : A). R v y) e z.0)
  | inr d ↦ related R xs ys x z.1 d
]

-- the assertions of a start are annotations of the program, and so precise
pub precise-notes : (p : Program) (f : ProcId) (g : Procedure) (is_fresh : Bool) (a : Assertion)
    → slice_get p.procedures f.0 ≡ Some g → Contains (assertions_of p g is_fresh) a → Contains (annotations_in p) a
precise-notes p f g is_fresh a there c =
    elim ((contains-cons g.pre (cond is_fresh [] (map (λ (r : Resource). r.invariant) p.resources)) a).0 c) [
      | inl e ↦ Contains-append_right (map (λ (r : Resource). r.invariant) p.resources) (flat_map notes_of p.procedures) a
          (contains-flat_map notes_of p.procedures g a (contains-at p.procedures f.0 g there)
          ((contains-cons g.pre _ a).1 (inl e)))
      | inr d ↦ others is_fresh d
    ]
  where
    others : (b : Bool) → Contains (cond b [] (map (λ (r : Resource). r.invariant) p.resources)) a
        → Contains (annotations_in p) a
    others true d = absurd (contains-nil a d)
    others false d =
        Contains-append_left (map (λ (r : Resource). r.invariant) p.resources) (flat_map notes_of p.procedures) a d

pub precise-all : (p : Program) (f : ProcId) (g : Procedure) (is_fresh : Bool) (orders : List Assertion)
    (vars : Var → Value) → OrderedIsDetermined → DeterminedHasOneFootprint → AreOrdersOf (annotations_in p) orders
    → slice_get p.procedures f.0 ≡ Some g → ArePrecise vars (assertions_of p g is_fresh)
precise-all p f g is_fresh orders vars determined one ordered there a c =
    let o = related IsOrderOf (annotations_in p) orders a ordered (precise-notes p f g is_fresh a there c) in
    ordered-precise determined one a o.0 vars o.1

-- the footprints of a start are those in turn
pub start-turns : (p : Program) (f : ProcId) (g : Procedure) (is_fresh : Bool) (vars : Vars) (heap : Cells)
    (parts : List (List ℕ)) → slice_get p.procedures f.0 ≡ Some g → StartsWith p f is_fresh vars heap parts
    → HaveFootprints (value_of vars) (heap_of heap) (assertions_of p g is_fresh) parts
start-turns p f g is_fresh vars heap parts there s =
    subst (λ (h : Procedure). HaveFootprints (value_of vars) (heap_of heap) (assertions_of p h is_fresh) parts)
    (same_Some s.procedure g (sym s.there ∙ there))
    (turns-from_parts (value_of vars) (heap_of heap) (assertions_of p s.procedure is_fresh) parts s.footprints s.union.0)

-- those of a text's start are those of the assertions of such a text
text-turns : (p : Program) (f : ProcId) (g : Procedure) (text : Text) (vars : Vars) (heap : Cells)
    (parts : List (List ℕ)) (unit : ℕ) (is_fresh : Bool) → slice_get p.procedures f.0 ≡ Some g
    → IsStartText p f g text vars heap parts unit is_fresh
    → HaveFootprints (value_of vars) (heap_of heap) (assertions_of p g (gives_fresh p g text)) parts
text-turns p f g text vars heap parts unit is_fresh there s =
    subst (λ b. HaveFootprints (value_of vars) (heap_of heap) (assertions_of p g b) parts) s.is_fresh
    (start-turns p f g is_fresh vars heap parts there s.starts)

-- a reason that holds of the state of a text holds of the one state that it gives
same-state : (p : Program) (g : Procedure) (text : Text) (vars : Vars) (heap : Cells)
    (reason : (Var → Value) → Heap → Type 0) → GivesState p g text vars heap → IsNoStart p g text reason
    → reason (value_of vars) (heap_of heap)
same-state p g text vars heap reason state out =
    let same = state-once p g text out.vars vars out.heap heap out.state state in
    subst (λ (v : Var → Value). reason v (heap_of heap)) same.0
    (subst (λ (h : Cells). reason (value_of out.vars) (heap_of h)) same.1 out.why)

-- a start has no fault
pub start-no_fault : (p : Program) (f : ProcId) (g : Procedure) (text : Text) (vars : Vars) (heap : Cells)
    (parts : List (List ℕ)) (unit : ℕ) (is_fresh : Bool) (e : StartFault)
    → ((v : Var → Value) → ArePrecise v (assertions_of p g (gives_fresh p g text)))
    → slice_get p.procedures f.0 ≡ Some g → IsStartText p f g text vars heap parts unit is_fresh
    → IsStartFault p g text e → ⊥
start-no_fault p f g text vars heap parts unit is_fresh e precise there s (refused r) =
    none-some e (sym s.state.accepted ∙ r)
start-no_fault p f g text vars heap parts unit is_fresh e precise there s (unmet n is out) =
    let notes = assertions_of p g (gives_fresh p g text) in
    unmet-not_all (value_of vars) (heap_of heap) notes n parts (precise (value_of vars))
    (same-state p g text vars heap (λ v h. IsUnmet v h notes n) s.state out)
    (text-turns p f g text vars heap parts unit is_fresh there s)
start-no_fault p f g text vars heap parts unit is_fresh e precise there s (left_over l is out) =
    let notes = assertions_of p g (gives_fresh p g text) in
    left_over-empty (value_of vars) (heap_of heap) notes l parts (precise (value_of vars))
    (same-state p g text vars heap (λ v h. IsLeftOver v h notes l) s.state out)
    (text-turns p f g text vars heap parts unit is_fresh there s)
    (begin-leaves_none p f vars heap parts is_fresh s.starts)

-- a text has one fault at most
pub fault-once : (p : Program) (g : Procedure) (text : Text) (d e : StartFault)
    → ((v : Var → Value) → ArePrecise v (assertions_of p g (gives_fresh p g text))) → IsStartFault p g text d → IsStartFault p g text e
    → d ≡ e
fault-once p g text d e precise (refused r) (refused q) = same_Some d e (sym r ∙ q)
fault-once p g text d e precise (refused r) (unmet n is out) = absurd (none-some d (sym out.state.accepted ∙ r))
fault-once p g text d e precise (refused r) (left_over l is out) = absurd (none-some d (sym out.state.accepted ∙ r))
fault-once p g text d e precise (unmet n is out) (refused q) = absurd (none-some e (sym out.state.accepted ∙ q))
fault-once p g text d e precise (left_over l is out) (refused q) = absurd (none-some e (sym out.state.accepted ∙ q))
fault-once p g text d e precise (unmet n is out) (unmet m was other) =
    is ∙ ap (λ k. fault.Unmet (assertion_name p k))
    (unmet-once (value_of other.vars) (heap_of other.heap) (assertions_of p g (gives_fresh p g text)) n m (precise (value_of other.vars))
    (same-state p g text other.vars other.heap (λ v h. IsUnmet v h (assertions_of p g (gives_fresh p g text)) n) other.state out) other.why)
    ∙ sym was
fault-once p g text d e precise (unmet n is out) (left_over l was other) =
    absurd (unmet-not_all (value_of other.vars) (heap_of other.heap) (assertions_of p g (gives_fresh p g text)) n other.why.parts
    (precise (value_of other.vars))
    (same-state p g text other.vars other.heap (λ v h. IsUnmet v h (assertions_of p g (gives_fresh p g text)) n) other.state out)
    other.why.all)
fault-once p g text d e precise (left_over l is out) (unmet m was other) =
    absurd (unmet-not_all (value_of out.vars) (heap_of out.heap) (assertions_of p g (gives_fresh p g text)) m out.why.parts
    (precise (value_of out.vars))
    (same-state p g text out.vars out.heap (λ v h. IsUnmet v h (assertions_of p g (gives_fresh p g text)) m) out.state other)
    out.why.all)
fault-once p g text d e precise (left_over l is out) (left_over k was other) =
    is ∙ ap fault.LeftOver
    (left_over-once (value_of other.vars) (heap_of other.heap) (assertions_of p g (gives_fresh p g text)) l k (precise (value_of other.vars))
    (same-state p g text other.vars other.heap (λ v h. IsLeftOver v h (assertions_of p g (gives_fresh p g text)) l) other.state out)
    other.why)
    ∙ sym was

-- why variables and cells are no start is why the text that gives them is none
begin-fault : (p : Program) (g : Procedure) (text : Text) (vars : Vars) (heap : Cells) (e : StartFault)
    → GivesState p g text vars heap → IsBeginFault p g (gives_fresh p g text) (value_of vars) (heap_of heap) e
    → IsStartFault p g text e
begin-fault p g text vars heap e state (inl u) =
    unmet u.0 u.1 (record { vars = vars; heap = heap; state = state; why = u.2 })
begin-fault p g text vars heap e state (inr l) =
    left_over l.0 l.1 (record { vars = vars; heap = heap; state = state; why = l.2 })

-- what is answered is the only answer
decides : (p : Program) (f : ProcId) (g : Procedure) (text : Text) (result : Result Start StartFault)
    → ((v : Var → Value) → ArePrecise v (assertions_of p g (gives_fresh p g text)))
    → slice_get p.procedures f.0 ≡ Some g
    → IfOk result (λ s. IsStartText p f g text s.vars s.heap s.parts.items s.unit s.fresh)
    → IfErr result (λ e. (e ≡ fault.OutOfMemory) ⊎ IsStartFault p g text e) → DecidesStart p f g text result
decides p f g text (Ok s) precise there ok err = record {
  started = ok;
  refused = err;
  only_started = λ vars heap parts unit is_fresh t. tt;
  only_refused = λ e out. start-no_fault p f g text s.vars s.heap s.parts.items s.unit s.fresh e precise there ok out;
}
decides p f g text (Err d) precise there ok err = record {
  started = ok;
  refused = err;
  only_started = λ vars heap parts unit is_fresh t. elim err [
    | inl o ↦ o
    | inr out ↦ absurd (start-no_fault p f g text vars heap parts unit is_fresh d precise there t out)
  ];
  only_refused = λ e out. elim err [
    | inl o ↦ inr o
    | inr own ↦ inl (fault-once p g text d e precise own out)
  ];
}

-- memory ran out
pub decides-out : (p : Program) (f : ProcId) (g : Procedure) (text : Text) (e : StartFault)
    → ((v : Var → Value) → ArePrecise v (assertions_of p g (gives_fresh p g text)))
    → slice_get p.procedures f.0 ≡ Some g → e ≡ fault.OutOfMemory → DecidesStart p f g text (Err e)
decides-out p f g text e precise there o = decides p f g text (Err e) precise there tt (inl o)

-- the text is refused
pub decides-refused : (p : Program) (f : ProcId) (g : Procedure) (text : Text) (e : StartFault)
    → ((v : Var → Value) → ArePrecise v (assertions_of p g (gives_fresh p g text)))
    → slice_get p.procedures f.0 ≡ Some g
    → (e ≡ fault.OutOfMemory) ⊎ (text_refusal (format_of p g) text ≡ Some e)
    → DecidesStart p f g text (Err e)
decides-refused p f g text e precise there r = decides p f g text (Err e) precise there tt (elim r [
  | inl o ↦ inl o
  | inr q ↦ inr (refused q)
])

-- it gives a state
pub decides-state : (p : Program) (f : ProcId) (g : Procedure) (text : Text) (is_fresh : Bool) (vars : Vars)
    (heap : Cells) (result : Result Start StartFault)
    → ((v : Var → Value) → ArePrecise v (assertions_of p g (gives_fresh p g text)))
    → slice_get p.procedures f.0 ≡ Some g → GivesState p g text vars heap → is_fresh ≡ gives_fresh p g text
    → Begins p f g is_fresh vars heap result → DecidesStart p f g text result
decides-state p f g text is_fresh vars heap (Ok s) precise there state kind b =
    decides p f g text (Ok s) precise there (record {
      state = subst₂ (GivesState p g text) (sym b.0) (sym b.1) state;
      is_fresh = b.4 ∙ kind;
      starts = subst (λ k. StartsWith p f k s.vars s.heap s.parts.items) (sym b.4)
          (subst₂ (λ v h. StartsWith p f is_fresh v h s.parts.items) (sym b.0) (sym b.1) b.2);
      first_unit = subst₂ (λ v h. IsFirstUnit v h s.unit) (sym b.0) (sym b.1) b.3;
    }) tt
decides-state p f g text is_fresh vars heap (Err e) precise there state kind b =
    decides p f g text (Err e) precise there tt (elim b [
      | inl o ↦ inl o
      | inr fault ↦ inr (begin-fault p g text vars heap e state
          (subst (λ k. IsBeginFault p g k (value_of vars) (heap_of heap) e) kind fault))
    ])
