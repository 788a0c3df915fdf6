-- The commands that are still to be done, with the regions around them, and what an event makes of
-- them.
-- Names: `inside-LAW` of the regions, `sites-LAW` of the commands.
use Rattle.std.specs.Prelude.{◌≡◌, ◌⊎◌, List, [], ◌∷◌, ◌++◌, Contains}
use Rattle.std.proofs.Common.{sym, ap, ◌∙◌, refl, subst, inl, inr, append_assoc}
use Rattle.std.proofs.lemmas.List.Elements.{Contains-append_cases, Contains-append_left, Contains-append_right}
use Rattle.sf_base.proofs.Elements.{contains-cons, contains-nil, contains-rest}
use Rattle.sf_base.specs.declared.ids.ResId.{ResId}
use Rattle.sf_base.specs.declared.place.Place.{Place}
use Rattle.sf_core.specs.declared.assertion.Test.{Test}
use Rattle.sf_core.specs.declared.command.Expr.{Expr}
use Rattle.sf_core.specs.Machine.Config.{Item, command, leave, items}
use Rattle.sf_core.specs.Program.Heads.{Site, sites, inner_sites}
use Rattle.sf_core.specs.Program.Syntax.{Block, done, then, Command, with}
use Rattle.sf_core.proofs.Machine.Decided.{resource-or_not}
use Rattle.sf_part.specs.Of.{inside, sites_in}

-- a block leaves no regions
pub inside-items : (b : Block) (rest : List Item) → inside (items b ++ rest) ≡ inside rest
inside-items done rest = refl
inside-items (then c b) rest = inside-items b rest

-- the commands of a block before others
pub sites-items : (b : Block) (rest : List Item)
    → sites_in (items b ++ rest) ≡ sites (inside rest) b ++ sites_in rest
sites-items done rest = refl
sites-items (then c b) rest =
    let here = inside-items b rest in
    (λ i. record { entered = here i; command = c }
    ∷ (inner_sites (here i) c ++ sites-items b rest i))
    ∙ ap (λ z. record { entered = inside rest; command = c } ∷ z)
    (sym (append_assoc (inner_sites (inside rest) c) (sites (inside rest) b) (sites_in rest)))

-- those of a block alone
pub inside-block : (b : Block) → inside (items b) ≡ []
inside-block done = refl
inside-block (then c b) = inside-block b

pub sites-block : (b : Block) → sites_in (items b) ≡ sites [] b
sites-block done = refl
sites-block (then c b) =
    (λ i. record { entered = inside-block b i; command = c }
    ∷ (inner_sites (inside-block b i) c ++ sites-block b i))

-- what is still to be done stands in what was
abbrev pub StandIn : (now before : List Item) → Type 0
StandIn now before = (s : Site) → Contains (sites_in now) s → Contains (sites_in before) s

-- what comes after a command
pub sites-rest : (c : Command) (rest : List Item) → StandIn rest (command c ∷ rest)
sites-rest c rest s h = contains-rest (record { entered = inside rest; command = c })
    (inner_sites (inside rest) c ++ sites_in rest) s
    (Contains-append_right (inner_sites (inside rest) c) (sites_in rest) s h)

-- a block inside of the command, before what comes after it
pub sites-inner : (c : Command) (b : Block) (rest : List Item)
    → ((s : Site) → Contains (sites (inside rest) b) s → Contains (inner_sites (inside rest) c) s)
    → StandIn (items b ++ rest) (command c ∷ rest)
sites-inner c b rest inner s h =
    elim (Contains-append_cases (sites (inside rest) b) (sites_in rest) s
    (subst (λ z. Contains z s) (sites-items b rest) h)) [
      | inl k ↦ contains-rest (record { entered = inside rest; command = c })
          (inner_sites (inside rest) c ++ sites_in rest) s
          (Contains-append_left (inner_sites (inside rest) c) (sites_in rest) s (inner s k))
      | inr k ↦ sites-rest c rest s k
    ]

-- such a block, before the command itself
pub sites-again : (c : Command) (b : Block) (rest : List Item)
    → ((s : Site) → Contains (sites (inside rest) b) s → Contains (inner_sites (inside rest) c) s)
    → StandIn (items b ++ command c ∷ rest) (command c ∷ rest)
sites-again c b rest inner s h =
    elim (Contains-append_cases (sites (inside rest) b) (sites_in (command c ∷ rest)) s
    (subst (λ z. Contains z s) (sites-items b (command c ∷ rest)) h)) [
      | inl k ↦ contains-rest (record { entered = inside rest; command = c })
          (inner_sites (inside rest) c ++ sites_in rest) s
          (Contains-append_left (inner_sites (inside rest) c) (sites_in rest) s (inner s k))
      | inr k ↦ k
    ]

-- the command that comes next stands there
pub sites-first : (c : Command) (rest : List Item)
    → Contains (sites_in (command c ∷ rest)) (record { entered = inside rest; command = c })
sites-first c rest = (contains-cons (record { entered = inside rest; command = c })
    (inner_sites (inside rest) c ++ sites_in rest) (record {
      entered = inside rest;
      command = c;
    })).1 (inl refl)

-- a resource is among those or it isn't
pub among_or_not : (rs : List ResId) (r : ResId) → Contains rs r ⊎ (Contains rs r → ⊥)
among_or_not [] r = inr (contains-nil r)
among_or_not (q ∷ rs) r = elim (resource-or_not r q) [
  | inl e ↦ inl ((contains-cons q rs r).1 (inl (sym e)))
  | inr n ↦ elim (among_or_not rs r) [
    | inl h ↦ inl (contains-rest q rs r h)
    | inr h ↦ inr (λ k. elim ((contains-cons q rs r).0 k) [ inl e ↦ n (sym e) | inr l ↦ h l ])
  ]
]

-- the body of a region, before its exit
pub sites-enter : (place : Place) (r : ResId) (test : Test Expr) (body : Block) (rest : List Item)
    → StandIn (items body ++ (leave r ∷ rest)) (command (with place r test body) ∷ rest)
sites-enter place r test body rest s h =
    elim (Contains-append_cases (sites (r ∷ inside rest) body) (sites_in rest) s
    (subst (λ z. Contains z s) (sites-items body (leave r ∷ rest)) h)) [
      | inl k ↦ contains-rest (record { entered = inside rest; command = with place r test body })
          (sites (r ∷ inside rest) body ++ sites_in rest) s
          (Contains-append_left (sites (r ∷ inside rest) body) (sites_in rest) s k)
      | inr k ↦ sites-rest (with place r test body) rest s k
    ]
