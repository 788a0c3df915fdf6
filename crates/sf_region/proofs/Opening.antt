-- That a table may begin with what a run begins with whose resources are set up already.
-- Names: `at-LAW` of an element of a list; `begins-LAW`.
use Rattle.std.specs.Prelude.{◌≡◌, ◌+◌, ◌<◌, ℕ, zero, suc, false, List, [], ◌∷◌, length, map}
use Rattle.std.specs.List.{AllByRecursion}
use Rattle.std.proofs.Common.{sym, ap, ◌∙◌, refl, subst, arith}
use Rattle.std.proofs.lemmas.List.{length-map}
use Rattle.std.proofs.lemmas.Option.{same_Some}
use mathlib.Core.Option.{some}
use lib.ListN.{get_elem?}
use Rattle.sf_base.specs.declared.ids.ProcId.{ProcId}
use Rattle.sf_base.specs.declared.ids.ResId.{ResId}
use Rattle.sf_core.specs.declared.program.Program.{Program as CodeProgram}
use Rattle.sf_core.specs.Machine.Start.{Beginning, settled, fresh}
use Rattle.sf_core.specs.Program.ProgramView.{program_of}
use Rattle.sf_core.specs.Program.Syntax.{Program}
use Rattle.sf_foot.specs.declared.vars.Vars.{Vars}
use Rattle.sf_foot.specs.Starting.{IsBeginning, StartsWith, store_of}
use Rattle.sf_heap.specs.Cells.{Cells, heap_of}
use Rattle.sf_core.specs.Machine.Whole.{Whole}
use Rattle.sf_part.specs.Checked.Laws.{FirstPartsAreWhole}
use Rattle.sf_part.specs.Contents.{IsContentIn, content_of}
use Rattle.sf_part.specs.declared.content.Content.{Content}
use Rattle.sf_part.specs.declared.part.Part.{Part}
use Rattle.sf_part.specs.First.{First, first_count, first_holds}
use Rattle.sf_part.specs.Given.{IsContentOf}
use Rattle.sf_part.specs.PartView.{IsPartOf, part_of}
use Rattle.sf_part.specs.Starts.{Starts}
use Rattle.sf_part.specs.Steps.{AreFrom}
use Rattle.sf_part.specs.Timed.{TimedContent, contents_of}
use Rattle.sf_region.specs.Keys.{begun_with}
use Rattle.sf_region.specs.Rule.{MayBegin}
use Rattle.sf_region.specs.Waits.{BeganAt, contents_in}

-- an element's place is within the list
in_range : {A : Type 0} (xs : List A) (i : ℕ) (x : A) → get_elem? xs i ≡ some x → i < length xs
in_range [] i x e = absurd (cc)
in_range (y ∷ xs) zero x e = omega arith
in_range (y ∷ xs) (suc i) x e = let l = in_range xs i x e in omega (arith, l)

-- what is so of all is so of each
at-all : {A : Type 0} (P : A → Type 0) (xs : List A) (i : ℕ) (x : A) → AllByRecursion P xs
    → get_elem? xs i ≡ some x → P x
at-all P [] i x h e = absurd (let l = in_range [] i x e in omega arith)
at-all P (y ∷ xs) zero x h e = subst P (cc) h.0
at-all P (y ∷ xs) (suc i) x h e = at-all P xs i x h.1 e

at-number : (n : ℕ) (ks : List Content) (i : ℕ) (k : Content) → AreFrom n (map content_of ks)
    → get_elem? ks i ≡ some k → k.resource.0 ≡ n + i
at-number n [] i k h e = absurd (let l = in_range [] i k e in omega arith)
at-number n (y ∷ ks) zero k h e =
    let same : y ≡ k = cc in
    let here = ap (λ (z : Content). z.resource.0) same in
    let first = h.0 in omega arith
at-number n (y ∷ ks) (suc i) k h e = let l = at-number (suc n) ks i k h.1 e in omega arith

at-stamp : (ks : List Content) (i : ℕ) (k : Content)
    → AllByRecursion (λ (z : TimedContent). z.stamp ≡ 0) (map content_of ks)
    → get_elem? ks i ≡ some k → k.stamp ≡ 0
at-stamp [] i k h e = absurd (let l = in_range [] i k e in omega arith)
at-stamp (y ∷ ks) zero k h e =
    let same : y ≡ k = cc in sym (ap (λ (z : Content). z.stamp) same) ∙ h.0
at-stamp (y ∷ ks) (suc i) k h e = at-stamp ks i k h.1 e

begins-contents : (ks : List Content) → contents_of (map content_of ks) ≡ contents_in ks
begins-contents [] = refl
begins-contents (k ∷ ks) = ap (λ z. (content_of k).content ∷ z) (begins-contents ks)

begins-settled : (p : Program) (b : Beginning) → IsBeginning p false b → b ≡ settled
begins-settled p settled k = refl
begins-settled p (fresh n h) k = absurd k

module _ (law : FirstPartsAreWhole) (q : CodeProgram) (f : ProcId) (vars : Vars) (heap : Cells) (parts : List (List ℕ))
    (base count : ℕ) (a : Part) (ks : List Content)
    (with_ : StartsWith (program_of q) f false vars heap parts)
    (starts : Starts (program_of q) f false vars heap base count (part_of a) (map content_of ks))
  where
    abbrev p : Program
    p = program_of q

    is-settled : starts.beginning ≡ settled
    is-settled = begins-settled p starts.beginning starts.kind

    same-beginning : starts.beginning ≡ with_.beginning
    same-beginning = is-settled ∙ sym (begins-settled p with_.beginning with_.kind)

    same-procedure : starts.procedure ≡ with_.procedure
    same-procedure = same_Some starts.procedure with_.procedure (sym starts.there ∙ with_.there)

    theirs : First p f with_.starts.procedure with_.starts.beginning
        (store_of with_.beginning with_.procedure vars) (heap_of heap) base count (part_of a)
        (map content_of ks)
    theirs =
        subst (λ z. First p f z with_.starts.beginning
        (store_of with_.beginning with_.procedure vars) (heap_of heap) base count (part_of a)
        (map content_of ks))
        (same_Some starts.procedure with_.starts.procedure (sym starts.there ∙ with_.starts.there))
        (subst (λ z. First p f starts.procedure z (store_of with_.beginning with_.procedure vars)
        (heap_of heap) base count (part_of a) (map content_of ks))
        (same-beginning ∙ sym with_.begins)
        (subst (λ z. First p f starts.procedure starts.beginning z (heap_of heap) base count
        (part_of a) (map content_of ks))
        (λ i. store_of (same-beginning i) (same-procedure i) vars) starts.is))

    begins-whole : BeganAt (begun_with q a ks) with_.config
    unfolding FirstPartsAreWhole
    begins-whole =
        subst (λ z. Whole ((part_of a).part ∷ []) z with_.config)
        (begins-contents ks)
        (law p f (store_of with_.beginning with_.procedure vars) (heap_of heap) with_.config
        base count (part_of a) (map content_of ks) with_.starts theirs).0

    pub holds-none : (r : ResId) → (part_of a).part.holds r ≡ false
    holds-none r = ap (λ z. z r) starts.is.holds ∙ ap (λ z. first_holds z p r) is-settled

    pub may-begin : IsPartOf p a
        → AllByRecursion (λ k. IsContentOf p (content_of k).content) ks
        → AllByRecursion (λ k. IsContentIn p k) ks → MayBegin (begun_with q a ks)
    may-begin of exactly is_in = record {
      of = of;
      idle = holds-none;
      each = sym (length-map ks content_of) ∙ (starts.is.each
          ∙ ap (λ z. first_count z p) is-settled);
      exactly = λ r k at. record {
        number = let n = at-number 0 ks r k starts.is.in_order at in omega arith;
        is_in = at-all (λ z. IsContentIn p z) ks r k is_in at;
        exactly = at-all (λ z. IsContentOf p (content_of z).content) ks r k exactly at;
      };
      early = λ r k at. let s = at-stamp ks r k starts.is.stamps at in omega arith;
      whole = (with_.config, begins-whole);
    }
