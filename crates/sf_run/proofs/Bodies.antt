-- What is to do of a procedure's body: what a command leaves to do is of the body too.
-- Names: `WHAT-of_body`.
use Rattle.std.specs.Prelude.{◌≡◌, List, [], ◌++◌, Contains}
use Rattle.std.proofs.Common.{refl, subst, inl, inr}
use Rattle.std.proofs.lemmas.List.{append-nil}
use Rattle.std.proofs.lemmas.List.Elements.{Contains-append_left, Contains-append_right}
use Rattle.sf_base.proofs.Elements.{contains-cons, contains-rest}
use Rattle.sf_base.specs.declared.ids.ResId.{ResId}
use Rattle.sf_core.specs.Machine.Config.{Item, items}
use Rattle.sf_core.specs.Program.Heads.{Site, sites, inner_sites}
use Rattle.sf_core.specs.Program.Syntax.{Command, Block, done, then}
use Rattle.sf_run.specs.Checked.Lone.{inside, IsOfBody}

-- a command is at its site, and so is what is inside it
pub site-here : (around : List ResId) (c : Command)
    → Contains (sites around (then c done)) (record { entered = around; command = c })
site-here around c = (contains-cons _ (inner_sites around c ++ []) _).1 (inl refl)

pub site-inner : (around : List ResId) (c : Command) (s : Site) → Contains (inner_sites around c) s
    → Contains (sites around (then c done)) s
site-inner around c s h =
    contains-rest _ (inner_sites around c ++ []) s (Contains-append_left (inner_sites around c) [] s h)

-- what is at the first command of a block is in the block
site-first : (around : List ResId) (c : Command) (b : Block) (s : Site)
    → Contains (sites around (then c done)) s → Contains (sites around (then c b)) s
site-first around c b s h = elim ((contains-cons _ (inner_sites around c ++ []) s).0 h) [
  | inl e ↦ (contains-cons _ (inner_sites around c ++ sites around b) s).1 (inl e)
  | inr k ↦ contains-rest _ (inner_sites around c ++ sites around b) s
      (Contains-append_left (inner_sites around c) (sites around b) s
      (subst (λ z. Contains z s) (append-nil (inner_sites around c)) k))
]

-- and so is what is at the others
site-others : (around : List ResId) (c : Command) (b : Block) (s : Site)
    → Contains (sites around b) s → Contains (sites around (then c b)) s
site-others around c b s h = contains-rest _ (inner_sites around c ++ sites around b) s
    (Contains-append_right (inner_sites around c) (sites around b) s h)

-- a block leaves no region
inside-block : (b : Block) (rest : List Item) → inside (items b ++ rest) ≡ inside rest
inside-block done rest = refl
inside-block (then c b) rest = inside-block b rest

-- a block of the body before what is to do
pub block-of_body : (body b : Block) (rest : List Item)
    → ((s : Site) → Contains (sites (inside rest) b) s → Contains (sites [] body) s) → IsOfBody body rest
    → IsOfBody body (items b ++ rest)
block-of_body body done rest h r = r
block-of_body body (then c b) rest h r = (
  λ s m. h s (site-first (inside rest) c b s
      (subst (λ z. Contains (sites z (then c done)) s) (inside-block b rest) m)),
  block-of_body body b rest (λ s m. h s (site-others (inside rest) c b s m)) r,
)

-- the whole body
pub whole-of_body : (body : Block) → IsOfBody body (items body)
whole-of_body body =
    subst (IsOfBody body) (append-nil (items body)) (block-of_body body body [] (λ s m. m) tt)
