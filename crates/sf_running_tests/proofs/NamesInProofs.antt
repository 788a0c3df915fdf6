-- In a program that a file is, each procedure is the first of its name, so what is written of tags is read back as these.
use Rattle.std.proofs.Common.{◌≡◌, ℕ, zero, suc, true, false, List, [], ◌∷◌, map, slice_get, Some, sym, ap, ◌∙◌, subst, arith}
use Rattle.std.proofs.lemmas.Bool.{false_from_ne_true}
use Rattle.std.proofs.lemmas.Slice.Eq.{bytes_eq-Decides}
use Rattle.std.specs.List.{AllByRecursion, position_or_len}
use Rattle.std.specs.Str.{bytes_eq}
use Rattle.sf_base.specs.declared.ids.ProcId.{ProcId}
use Rattle.sf_core.specs.Program.Named.{name_in, name_of}
use Rattle.sf_core.specs.Program.Syntax.{Procedure, Program}
use Rattle.sf_lex.specs.Whole.{is_name}
use Rattle.sf_proof.specs.Checked.Laws.{AreWritable, IsFirstOfItsName, IsWritable, WrittenTagsReadBack}
use Rattle.sf_proof.specs.Words.{procedure_named}
use Rattle.sf_state.specs.Checked.Written.{HasNames}
use Rattle.sf_sym.specs.declared.tag.Tag.{Tag}
use Rattle.sf_sym.specs.declared.tag.Tag.TheVariants.{Procedure as begin}
use Rattle.sf_running_tests.specs.Checked.Laws.{IsTagOf, ProgramsThatAreReadHaveNames, WrittenProofsOfFilesReadBack}

-- the name of what is at a place
name-at : {A : Type 0} (name : A → List ℕ) (xs : List A) (k : ℕ) (x : A) → slice_get xs k ≡ Some x
    → slice_get (map name xs) k ≡ Some (name x)
name-at name [] k x e = absurd cc
name-at name (y ∷ xs) zero x e = let same : y ≡ x = cc in ap (λ z. Some (name z)) same
name-at name (y ∷ xs) (suc k) x e = name-at name xs k x e

-- where names differ, the first that has the name of what is at a place is at that place
first-named : {A : Type 0} (name : A → List ℕ) (xs : List A) (k : ℕ) (x : A) → slice_get xs k ≡ Some x
    → ((i j : ℕ) (n : List ℕ) → slice_get (map name xs) i ≡ Some n → slice_get (map name xs) j ≡ Some n → i ≡ j)
    → position_or_len (λ y. bytes_eq (name y) (name x)) xs ≡ k
first-named name [] k x e d = absurd cc
first-named name (y ∷ xs) zero x e d =
    let same : y ≡ x = cc in
    let here : bytes_eq (name y) (name x) ≡ true = (bytes_eq-Decides (name y) (name x)).1 (ap name same) in
    rw here
first-named name (y ∷ xs) (suc k) x e d =
    let apart : bytes_eq (name y) (name x) ≡ false = false_from_ne_true _ (λ same.
    let zero_suc : 0 ≡ suc k = d 0 (suc k) (name x) (ap Some ((bytes_eq-Decides (name y) (name x)).0 same))
    (name-at name xs k x e) in omega arith) in
    let rest : position_or_len (λ z. bytes_eq (name z) (name x)) xs ≡ k =
    first-named name xs k x e (λ i j n f g. let s : suc i ≡ suc j = d (suc i) (suc j) n f g in omega arith) in
    rw (apart, rest) (omega arith)

first_of_its_name : (p : Program) (f : ProcId) (g : Procedure) → HasNames p → slice_get p.procedures f.0 ≡ Some g
    → IsFirstOfItsName p f
first_of_its_name p f g h e =
    let same : g.name ≡ name_of p f = sym (ap name_in e) in
    let place : position_or_len (λ (y : Procedure). bytes_eq y.name g.name) p.procedures ≡ f.0 =
    first-named (λ (y : Procedure). y.name) p.procedures f.0 g e h.procedures.differ in
    let numbered : ℕ → ProcId = λ n. record { 0 = n } in
    let own : procedure_named p g.name ≡ f = ap numbered place in
    record {
      name = subst (λ (n : List ℕ). is_name n ≡ true) same
          (h.procedures.named f.0 g.name (name-at (λ (y : Procedure). y.name) p.procedures f.0 g e));
      first = subst (λ (n : List ℕ). procedure_named p n ≡ f) same own;
    }

writable : (p : Program) → HasNames p → (tag : Tag) → IsTagOf p tag → IsWritable p tag
writable p h (begin f) (g, e) = first_of_its_name p f g h e
writable p h tag w = w

all_writable : (p : Program) → HasNames p → (tags : List Tag) → AllByRecursion (IsTagOf p) tags → AreWritable p tags
all_writable p h [] w = tt
all_writable p h (tag ∷ tags) w = (writable p h tag w.0, all_writable p h tags w.1)

pub written_proofs_of_files_read_back : ProgramsThatAreReadHaveNames → WrittenTagsReadBack → WrittenProofsOfFilesReadBack
unfolding ProgramsThatAreReadHaveNames WrittenTagsReadBack WrittenProofsOfFilesReadBack
written_proofs_of_files_read_back named back bytes ts tree p tags read file e w short =
    back p tags (all_writable p (named bytes ts tree p read file e) tags w) short
