-- Tags prove a program exactly where, taken in turn, they lead to a stand where all is proved.
-- Names: finishes-proves, proves-finishes, and what leads there.
use Rattle.std.proofs.Common.{◌≡◌, ℕ, zero, suc, ◌≤◌, true, Some, List, [], ◌∷◌, ◌++◌, length, drop, refl, sym, ap, ap₂, ◌∙◌, subst, append_assoc, arith}
use Rattle.std.specs.List.{slice_get}
use Rattle.std.proofs.Math.Seq.{drop-cons}
use Rattle.std.proofs.lemmas.List.{drop_all}
use Rattle.std.proofs.lemmas.Option.{get_or_from_slice_get, slice_get_within}
use Rattle.sf_core.specs.Program.Syntax.{Procedure}
use Rattle.sf_sym.specs.declared.tag.Tag.{Tag}
use Rattle.sf_sym.specs.declared.tag.Tag.TheVariants.{Procedure as Begin}
use Rattle.sf_sym.specs.Goal.{Goal}
use Rattle.sf_rules.specs.Checked.Lemmas.RowRules.{row-leaves}
use Rattle.sf_rules.specs.Checked.Lemmas.RuleRows.{leaves-row}
use Rattle.sf_rules.specs.First.{first_goal}
use Rattle.sf_rules.specs.Proving.{Proof, by, Proofs, no_more, and, preorder, preorders, ProvesFrom, Proves}
use Rattle.sf_rules.specs.Setting.{Setting}
use Rattle.sf_check.specs.Checked.Taken.{after}
use Rattle.sf_check.specs.Stand.{Stand, start, is_finished}
use Rattle.sf_check.proofs.Taking.{begin-taken, begin-takes, child-taken, child-takes, after-first, after-next, finished-parts, finished-from}
use Rattle.sf_rules.specs.Checked.Lemmas.{proofs-split, proof-one, proofs-none}

-- the tags are taken from that stand, and then all is proved
abbrev pub Finishes : Setting → Stand → List Tag → Type 0
Finishes d s tags = (t : Stand) × (after d s tags ≡ Some t) × (is_finished d t ≡ true)

mutual
  -- the tags of a proof close its goal
  proof-closes : (d : Setting) (f : ℕ) (g : Goal) (q : Proof d g) (hs : List Goal) (us : List Tag)
      → after d (record { begun = f; goals = g ∷ hs }) (preorder q ++ us)
      ≡ after d (record { begun = f; goals = hs }) us
  proof-closes d f g (by t left r qs) hs us =
      after-next d (record { begun = f; goals = g ∷ hs }) t (preorders qs ++ us)
      (record { begun = f; goals = left ++ hs }) (child-takes d f g hs t left (leaves-row d g t left r))
      ∙ proofs-close d f left qs hs us

  -- those of proofs of goals close them
  proofs-close : (d : Setting) (f : ℕ) (gs : List Goal) (qs : Proofs d gs) (hs : List Goal) (us : List Tag)
      → after d (record { begun = f; goals = gs ++ hs }) (preorders qs ++ us)
      ≡ after d (record { begun = f; goals = hs }) us
  proofs-close d f gs (no_more e) hs us = ap (λ zs. after d (record { begun = f; goals = zs ++ hs }) us) e
  proofs-close d f gs (and g others e q qs) hs us =
      ap₂ (λ (zs : List Goal) (ts : List Tag). after d (record { begun = f; goals = zs ++ hs }) ts) e
      (append_assoc (preorder q) (preorders qs) us)
      ∙ (proof-closes d f g q (others ++ hs) (preorders qs ++ us) ∙ proofs-close d f others qs hs us)

-- the procedures from one on begin with it
dropped : (xs : List Procedure) (f : ℕ) (x : Procedure) → slice_get xs f ≡ Some x
    → drop f xs ≡ x ∷ drop (suc f) xs
dropped xs f x e =
    drop-cons xs f x (slice_get_within xs f x e)
    ∙ ap (λ z. z ∷ drop (suc f) xs) (get_or_from_slice_get xs f x x e)

-- and what they begin with is it
there : (xs ys : List Procedure) (f : ℕ) (x : Procedure) → drop f xs ≡ x ∷ ys
    → (slice_get xs f ≡ Some x) × (drop (suc f) xs ≡ ys)
there [] ys zero x e = absurd (cc)
there [] ys (suc f) x e = absurd (cc)
there (y ∷ xs) ys zero x e = (cc, cc)
there (y ∷ xs) ys (suc f) x e = there xs ys f x e

-- none are left past their end
past : (xs : List Procedure) (f : ℕ) → drop f xs ≡ [] → length xs ≤ f
past [] f e = omega arith
past (x ∷ xs) zero e = absurd (cc)
past (x ∷ xs) (suc f) e = let h = past xs f e in omega (arith, h)

-- tags that prove procedures are taken
from-finishes : (d : Setting) (f : ℕ) (xs : List Procedure) (tags : List Tag)
    → drop f d.program.procedures ≡ xs → ProvesFrom d f xs tags
    → Finishes d (record { begun = f; goals = [] }) tags
from-finishes d f [] tags e p = (
  record { begun = f; goals = [] },
  ap (after d (record { begun = f; goals = [] })) p,
  finished-from d f (past d.program.procedures f e),
)
from-finishes d f (x ∷ xs) tags e p =
    let here = there d.program.procedures xs f x e in
    let rest = from-finishes d (suc f) xs p.1 here.1 p.3 in
    let first = first_goal d (record { 0 = f }) x in (
      rest.0,
      ap (after d (record { begun = f; goals = [] })) p.2
          ∙ (after-next d (record { begun = f; goals = [] }) (Begin (record { 0 = f })) (preorder p.0 ++ p.1)
          (record { begun = suc f; goals = first ∷ [] }) (begin-takes d f x here.0)
          ∙ (proof-closes d (suc f) first p.0 [] p.1 ∙ rest.1)),
      rest.2,
    )

-- tags that prove the program are taken, and then all is proved
pub proves-finishes : (d : Setting) (tags : List Tag) → Proves d tags → Finishes d start tags
proves-finishes d tags p = from-finishes d 0 d.program.procedures tags refl p

-- what the tags to come are: those of proofs of the open goals, and those that prove the procedures that are left
record Parted (d : Setting) (f : ℕ) (gs : List Goal) (tags : List Tag) : Type 0 where
  proofs : Proofs d gs
  rest : List Tag
  is : tags ≡ preorders proofs ++ rest
  others : ProvesFrom d f (drop f d.program.procedures) rest

-- tags that are taken until all is proved are so
parted : (d : Setting) (tags : List Tag) (f : ℕ) (gs : List Goal)
    → Finishes d (record { begun = f; goals = gs }) tags → Parted d f gs tags
parted d [] f gs h =
    let same : record { begun = f; goals = gs } ≡ h.0 = cc in
    let done = finished-parts d (record { begun = f; goals = gs })
    (subst (λ s. is_finished d s ≡ true) (sym same) h.2) in
    record {
      proofs = no_more done.0;
      rest = [];
      is = refl;
      others = subst (λ xs. ProvesFrom d f xs []) (sym (drop_all f d.program.procedures done.1)) refl;
    }
parted d (tag ∷ tags) f [] h =
    let one = after-first d (record { begun = f; goals = [] }) tag tags h.0 h.1 in
    let now = begin-taken d f tag one.0 one.1 in
    let first = first_goal d (record { 0 = f }) now.0 in
    let k = parted d tags (suc f) (first ∷ [])
    (subst (λ s. Finishes d s tags) (sym now.3) (h.0, one.2, h.2)) in
    let proof = proof-one d first (first ∷ []) refl k.proofs in
    record {
      proofs = no_more refl;
      rest = tag ∷ tags;
      is = refl;
      others = subst (λ xs. ProvesFrom d f xs (tag ∷ tags)) (sym (dropped d.program.procedures f now.0 now.1)) (
        proof.0,
        k.rest,
        ap₂ (λ (t : Tag) (ts : List Tag). t ∷ ts) now.2 (k.is ∙ ap (λ ts. ts ++ k.rest) proof.1),
        k.others,
      );
    }
parted d (tag ∷ tags) f (g ∷ gs) h =
    let one = after-first d (record { begun = f; goals = g ∷ gs }) tag tags h.0 h.1 in
    let now = child-taken d f g gs tag one.0 one.1 in
    let k = parted d tags f (now.0 ++ gs) (subst (λ s. Finishes d s tags) now.2 (h.0, one.2, h.2)) in
    let parts = proofs-split d now.0 gs k.proofs in
    record {
      proofs = and g gs refl (by tag now.0 (row-leaves d g tag now.0 now.1) parts.0) parts.1;
      rest = k.rest;
      is = ap (λ ts. tag ∷ ts) (k.is ∙ ap (λ ts. ts ++ k.rest) parts.2);
      others = k.others;
    }

-- tags that are taken until all is proved prove the program
pub finishes-proves : (d : Setting) (tags : List Tag) → Finishes d start tags → Proves d tags
finishes-proves d tags h =
    let k = parted d tags 0 [] h in
    let none = proofs-none d [] refl k.proofs in
    subst (Proves d) (sym (k.is ∙ ap (λ us. us ++ k.rest) none)) k.others
