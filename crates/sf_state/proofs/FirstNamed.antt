-- Which procedure has a name first, and whether it holds a resource.
-- Names: `named-LAW`, `holds-LAW`, `entry-LAW`.
use Rattle.std.proofs.Common.{◌≡◌, ◌<◌, ◌≤◌, ◌⊎◌, ◌==◌, ℕ, true, false, List, [], ◌∷◌, Some, Option, length, map, refl, ap, sym, ◌∙◌, subst, arith, inl, inr, Result, None, Bool, zero, suc, slice_get, ◌||◌, is_some}
use Rattle.std.specs.Prelude.{IfErr, IfOk}
use Rattle.std.proofs.lemmas.Bool.{cases_lt, eqb-true, false≢true, or_right}
use Rattle.std.proofs.lemmas.Simd.{map-map}
use Rattle.sf_base.specs.Results.{Decides}
use Rattle.sf_base.specs.declared.ids.ProcId.{ProcId}
use Rattle.sf_base.specs.declared.ids.ResId.{ResId}
use Rattle.sf_base.proofs.Decisions.{decides}
use Rattle.sf_base.proofs.Elements.{contains-cons, contains-nil}
use Rattle.sf_calls.specs.Sets.{IsResSet}
use Rattle.sf_core.specs.Machine.HasThroughout.{HasThroughout}
use Rattle.sf_core.specs.declared.program.Proc.{Proc}
use Rattle.sf_core.specs.Program.Named.{IsFirstNamed}
use Rattle.sf_core.specs.Program.Syntax.{Procedure, Program}
use Rattle.sf_core.specs.Program.View.{procedure_of}
use Rattle.sf_state.specs.declared.fault.StartFault.{StartFault}
use Rattle.sf_state.specs.declared.fault.StartFault.TheVariants as fault
use Rattle.sf_state.specs.Entering.{HoldsNone, IsEntry, IsEntryFault, procedure_names}
use Rattle.sf_lines.specs.Lines.{Text}
use Rattle.std.specs.List.{list_any}
use Rattle.std.specs.Str.{bytes_eq}
use Rattle.std.proofs.lemmas.Option.{same_Some}
use Rattle.sf_base.proofs.Equality.{bytes_eq-other, bytes_eq-same, bytes_eq-self}
use Rattle.sf_core.specs.Program.Init.{IsInitAmong, init_name, is_init, sets_up}

-- the names of the code's procedures are those of the definitions'
pub named-view : (procedures : List Proc) (name : Text) (o : Option ℕ)
    → IsFirstNamed (map (λ f. f.name) procedures) name o
    → IsFirstNamed (map (λ g. g.name) (map procedure_of procedures)) name o
named-view procedures name o h = subst (λ ns. IsFirstNamed ns name o)
    (sym (map-map (λ (g : Procedure). g.name) procedure_of procedures)) h

-- one number at most has a name first
pub named-once : (names : List Text) (name : Text) (j k : ℕ) → IsFirstNamed names name (Some j)
    → IsFirstNamed names name (Some k) → j ≡ k
named-once names name j k a b = go (cases_lt j k)
  where
    go : ((j < k) ⊎ (k ≤ j)) → j ≡ k
    go (inl h) = absurd (b.1 j h a.0)
    go (inr h) = and (cases_lt k j)
      where
        and : ((k < j) ⊎ (j ≤ k)) → j ≡ k
        and (inl g) = absurd (a.1 k g b.0)
        and (inr g) = omega arith

-- a name is one of these, or none of them
pub first-named : (names : List Text) (name : Text) → ((k : ℕ) × IsFirstNamed names name (Some k))
    ⊎ IsFirstNamed names name None
first-named [] name = inr (λ k e. absurd (cc))
first-named (n ∷ names) name = go (bytes_eq n name) refl (first-named names name)
  where
    go : (b : Bool) → bytes_eq n name ≡ b
        → ((k : ℕ) × IsFirstNamed names name (Some k)) ⊎ IsFirstNamed names name None
        → ((k : ℕ) × IsFirstNamed (n ∷ names) name (Some k)) ⊎ IsFirstNamed (n ∷ names) name None
    go true e rest = inl (0, (ap Some (bytes_eq-same n name e), λ j h. absurd (omega (arith, h))))
    go false e (inl f) = inl (suc f.0, (f.1.0, later))
      where
        later : (j : ℕ) → j < suc f.0 → slice_get (n ∷ names) j ≡ Some name → ⊥
        later zero h s = bytes_eq-other n name e (same_Some n name s)
        later (suc j) h s = f.1.1 j (omega (arith, h)) s
    go false e (inr out) = inr none
      where
        none : (k : ℕ) → slice_get (n ∷ names) k ≡ Some name → ⊥
        none zero s = bytes_eq-other n name e (same_Some n name s)
        none (suc k) s = out k s

-- where a procedure sets the resources up, one has its name
pub some-named : (gs : List Procedure) → list_any is_init gs ≡ true
    → IsFirstNamed (map (λ g. g.name) gs) init_name None → ⊥
some-named [] has none = false≢true has
some-named (g ∷ gs) has none = go (is_init g) refl (λ e later. some-named gs e later)
  where
    go : (b : Bool) → is_init g ≡ b
        → (list_any is_init gs ≡ true → IsFirstNamed (map (λ g. g.name) gs) init_name None → ⊥) → ⊥
    go true e rest = none 0 (ap Some (bytes_eq-same g.name init_name e))
    go false e rest = rest (sym (ap (λ b. b || list_any is_init gs) e) ∙ has) (λ k. none (suc k))

-- where a name is that of one, one sets the resources up
one-named : (gs : List Procedure) (k : ℕ) → slice_get (map (λ g. g.name) gs) k ≡ Some init_name
    → list_any is_init gs ≡ true
one-named [] k e = absurd cc
one-named (g ∷ gs) zero e =
    let same : g.name ≡ init_name = same_Some g.name init_name e in
    ap (λ b. b || list_any is_init gs) (ap (λ n. bytes_eq n init_name) same ∙ bytes_eq-self init_name)
one-named (g ∷ gs) (suc k) e = or_right (is_init g) (list_any is_init gs) (one-named gs k e)

-- the code knows whether one does
pub code-has_init : (procedures : List Proc) (init : Option ProcId) → IsInitAmong (map (λ f. f.name) procedures) init
    → is_some init ≡ list_any is_init (map procedure_of procedures)
code-has_init procedures (Some n) named =
    sym (one-named (map procedure_of procedures) n.0 (named-view procedures init_name (Some n.0) named).0)
code-has_init procedures None named = go (list_any is_init (map procedure_of procedures)) refl
  where
    go : (b : Bool) → list_any is_init (map procedure_of procedures) ≡ b
        → false ≡ list_any is_init (map procedure_of procedures)
    go false e = sym e
    go true e = absurd (some-named (map procedure_of procedures) e (named-view procedures init_name None named))

-- nothing in the set is held
pub holds-none : (p : Program) (f : ProcId) (xs : List ResId) → IsResSet (HasThroughout p f) xs → (length xs == 0) ≡ true
    → HoldsNone p f
holds-none p f [] s e = λ r h. contains-nil r ((s.members r).1 h)
holds-none p f (x ∷ xs) s e = let z : length (x ∷ xs) ≡ 0 = eqb-true (length (x ∷ xs)) 0 e in absurd (omega arith)

-- or something is
pub holds-one : (p : Program) (f : ProcId) (xs : List ResId) → IsResSet (HasThroughout p f) xs → (length xs == 0) ≡ false
    → (r : ResId) × HasThroughout p f r
holds-one p f [] s e = absurd cc
holds-one p f (x ∷ xs) s e = (x, (s.members x).0 ((contains-cons x xs x).1 (inl refl)))

pub entries-one : (p : Program) (name : Text) (f g : ProcId) → IsEntry p name f → IsEntry p name g → f ≡ g
entries-one p name f g a b =
    let e : f.0 ≡ g.0 = named-once (procedure_names p) name f.0 g.0 a.named b.named in
    λ i. record { 0 = e i }

pub faults-one : (p : Program) (name : Text) (e f : StartFault) → IsEntryFault p name e → IsEntryFault p name f → e ≡ f
faults-one p name (fault.Unknown m) (fault.Unknown n) a b = ap fault.Unknown (a.0 ∙ sym b.0)
faults-one p name (fault.FreeEntry m) (fault.FreeEntry n) a b = ap fault.FreeEntry (a.0 ∙ sym b.0)
faults-one p name (fault.Unknown m) (fault.FreeEntry n) a b = absurd (a.1 b.1.procedure.0 b.1.named.0)
faults-one p name (fault.FreeEntry m) (fault.Unknown n) a b = absurd (b.1 a.1.procedure.0 a.1.named.0)
faults-one p name (fault.BadLine n) f a b = absurd a
faults-one p name (fault.Twice n) f a b = absurd a
faults-one p name (fault.Missing n) f a b = absurd a
faults-one p name (fault.Unmet n) f a b = absurd a
faults-one p name (fault.LeftOver n) f a b = absurd a
faults-one p name fault.TooLong f a b = absurd a
faults-one p name fault.OutOfMemory f a b = absurd a
faults-one p name e (fault.BadLine n) a b = absurd b
faults-one p name e (fault.Twice n) a b = absurd b
faults-one p name e (fault.Missing n) a b = absurd b
faults-one p name e (fault.Unmet n) a b = absurd b
faults-one p name e (fault.LeftOver n) a b = absurd b
faults-one p name e fault.TooLong a b = absurd b
faults-one p name e fault.OutOfMemory a b = absurd b

pub never-both : (p : Program) (name : Text) (f : ProcId) (e : StartFault) → IsEntry p name f → IsEntryFault p name e → ⊥
never-both p name f (fault.Unknown n) a b = b.1 f.0 a.named.0
never-both p name f (fault.FreeEntry n) a b =
    let e : b.1.procedure.0 ≡ f.0 =
    named-once (procedure_names p) name b.1.procedure.0 f.0 b.1.named a.named in
    let same : b.1.procedure ≡ f = λ i. record { 0 = e i } in
    elim b.1.holds [
      | inl h ↦ a.free h.0 (subst (λ g. HasThroughout p g h.0) same h.1)
      | inr h ↦ false≢true (sym a.other ∙ ap (sets_up p) (sym same) ∙ h)
    ]
never-both p name f (fault.BadLine n) a b = b
never-both p name f (fault.Twice n) a b = b
never-both p name f (fault.Missing n) a b = b
never-both p name f (fault.Unmet n) a b = b
never-both p name f (fault.LeftOver n) a b = b
never-both p name f fault.TooLong a b = b
never-both p name f fault.OutOfMemory a b = b

-- a name is an entry, or has one fault
pub entry-decides : (p : Program) (name : Text) (result : Result ProcId StartFault) → IfOk result (IsEntry p name)
    → IfErr result (λ e. (e ≡ fault.OutOfMemory) ⊎ IsEntryFault p name e)
    → Decides result (λ f. f) (IsEntry p name) (IsEntryFault p name) fault.OutOfMemory
entry-decides p name result found refused =
    decides result (λ f. f) (IsEntry p name) (IsEntryFault p name) fault.OutOfMemory
    (entries-one p name) (faults-one p name) (never-both p name) found refused
