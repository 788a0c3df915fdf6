-- What commands touch is assigned somewhere among them.
-- Names: `WHAT-assigned`.
use Rattle.std.specs.Prelude.{◌⊎◌, List, [], ◌∷◌, ◌++◌, Contains}
use Rattle.std.proofs.Common.{refl, inl, inr}
use Rattle.std.proofs.lemmas.List.Elements.{Contains-append_left, Contains-append_right}
use Rattle.sf_base.proofs.Elements.{contains-cons, contains-single_of}
use Rattle.sf_base.specs.declared.ids.ResId.{ResId}
use Rattle.sf_base.specs.declared.ids.Var.{Var}
use Rattle.sf_calls.specs.Assigned.{Assigned, MayChange}
use Rattle.sf_calls.specs.Outside.{IsAmong, Makes}
use Rattle.sf_core.specs.Program.Heads.{Site, head_sets, inner_sites, sites}
use Rattle.sf_core.specs.Program.Syntax.{Block, done, then, Command, assign, look_up, mutate, new, dispose, if, while, call, fork, with, Program}
use Rattle.sf_sound.proofs.Keeping.{BlockTouches, CommandTouches}

module _ (p : Program) (x : Var) where
  -- the command itself sets it, or makes a call that may change it
  abbrev AssignedAt : Site → Type 0
  AssignedAt s = IsAmong x (head_sets s.command) ⊎ Makes s.command (λ d. MayChange p d x)

  abbrev AssignedIn : List Site → Type 0
  AssignedIn ss = (s : Site) × Contains ss s × AssignedAt s

  in-left : (ss rest : List Site) → AssignedIn ss → AssignedIn (ss ++ rest)
  in-left ss rest (s, c, a) = (s, Contains-append_left ss rest s c, a)

  in-right : (ss rest : List Site) → AssignedIn rest → AssignedIn (ss ++ rest)
  in-right ss rest (s, c, a) = (s, Contains-append_right ss rest s c, a)

  mutual
    command-assigned : (entered : List ResId) (c : Command) → CommandTouches p c x
        → AssignedAt (record { entered = entered; command = c }) ⊎ AssignedIn (inner_sites entered c)
    command-assigned entered (assign q y e) t = inl (inl (inl t))
    command-assigned entered (look_up q y e field) t = inl (inl (inl t))
    command-assigned entered (mutate q e field v) t = absurd t
    command-assigned entered (new q y) t = inl (inl (inl t))
    command-assigned entered (dispose q e) t = absurd t
    command-assigned entered (if q test this that) (inl t) =
        inr (in-left (sites entered this) (sites entered that) (block-in entered this t))
    command-assigned entered (if q test this that) (inr t) =
        inr (in-right (sites entered this) (sites entered that) (block-in entered that t))
    command-assigned entered (while q test invariant body) t = inr (block-in entered body t)
    command-assigned entered (call q c) t = inl (inr (c, contains-single_of c c refl, t))
    command-assigned entered (fork q c d) (inl t) = inl (inr (c, (contains-cons c (d ∷ []) c).1 (inl refl), t))
    command-assigned entered (fork q c d) (inr t) =
        inl (inr (d, (contains-cons c (d ∷ []) d).1 (inr (contains-single_of d d refl)), t))
    command-assigned entered (with q r test body) t = inr (block-in (r ∷ entered) body t)

    block-in : (entered : List ResId) (b : Block) → BlockTouches p b x → AssignedIn (sites entered b)
    block-in entered done t = absurd t
    block-in entered (then c b) (inl t) =
        let here : Site = record { entered = entered; command = c } in
        let rest = inner_sites entered c ++ sites entered b in
        elim (command-assigned entered c t) [
          | inl a ↦ (here, (contains-cons here rest here).1 (inl refl), a)
          | inr i ↦
              let m = in-left (inner_sites entered c) (sites entered b) i in
              (m.0, (contains-cons here rest m.0).1 (inr m.1), m.2)
        ]
    block-in entered (then c b) (inr t) =
        let here : Site = record { entered = entered; command = c } in
        let rest = inner_sites entered c ++ sites entered b in
        let m = in-right (inner_sites entered c) (sites entered b) (block-in entered b t) in
        (m.0, (contains-cons here rest m.0).1 (inr m.1), m.2)

-- what a block touches is assigned in it
pub block-assigned : (p : Program) (b : Block) (x : Var) → BlockTouches p b x → Assigned p b x
block-assigned p b x t = block-in p x [] b t
