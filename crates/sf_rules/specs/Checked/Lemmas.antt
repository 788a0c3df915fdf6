-- Lemmas on proofs, rows and levels that the proofs of the crates above cite. Each states what it says;
-- none is a definition.
-- Ordinary: proofs are finite trees, and those of a list of goals are those of its parts.
pub mod CommandChildren
pub mod Existentials
pub mod FewNew
pub mod FirstVariables
pub mod Forms
pub mod FreshVariables
pub mod RowParts
pub mod RowRules
pub mod RuleRows
pub mod StateChildren
pub mod Subtracting
pub mod TodoReads
pub mod VariableTerms
use Rattle.std.proofs.Common.{◌≡◌, ℕ, Bool, true, false, cond, nat_lt, Option, Some, None, List, [], ◌∷◌, ◌++◌, map, refl, sym, ap, ◌∙◌, subst, append_assoc}
use Rattle.sf_core.specs.declared.assertion.Conjunct.TheFolds.{fold_out-Level}
use Rattle.sf_core.specs.declared.assertion.Level.{Level as CodeLevel, out-Level}
use Rattle.sf_core.specs.declared.command.Expr.{Expr}
use Rattle.sf_core.specs.Program.Syntax.{Conjunct, Level, level}
use Rattle.sf_core.specs.Program.View.{conjunct_of, conjuncts, level_of, conjunct_step, level_step}
use Rattle.sf_sym.specs.declared.tag.Tag.{Tag}
use Rattle.sf_sym.specs.Goal.{Goal}
use Rattle.sf_rules.specs.declared.few.TheConstants.{TOO_MANY}
use Rattle.sf_rules.specs.Checked.Few.{if_few}
use Rattle.sf_rules.specs.Proving.{Proof, Proofs, no_more, and, preorder, preorders}
use Rattle.sf_rules.specs.Setting.{Setting}

-- proofs of equal lists of goals have the same tags
proofs-same : (d : Setting) (gs hs : List Goal) → gs ≡ hs → (ps : Proofs d gs)
    → (qs : Proofs d hs) × (preorders qs ≡ preorders ps)
proofs-same d gs hs e ps = subst (λ zs. (qs : Proofs d zs) × (preorders qs ≡ preorders ps)) e (ps, refl)

-- the same of one goal
proof-same : (d : Setting) (g h : Goal) → g ≡ h → (p : Proof d g) → (q : Proof d h) × (preorder q ≡ preorder p)
proof-same d g h e p = subst (λ z. (q : Proof d z) × (preorder q ≡ preorder p)) e (p, refl)

-- proofs of no goals have no tags
pub proofs-none : (d : Setting) (gs : List Goal) → gs ≡ [] → (ps : Proofs d gs) → preorders ps ≡ []
proofs-none d gs n (no_more e) = refl
proofs-none d gs n (and goal others e p ps) = absurd (cc)

joined : (ts us vs ws : List Tag) → us ≡ vs ++ ws → ts ++ us ≡ (ts ++ vs) ++ ws
joined ts us vs ws e = ap (λ zs. ts ++ zs) e ∙ sym (append_assoc ts vs ws)

-- proofs of two lists of goals one after the other are proofs of each
pub proofs-split : (d : Setting) (gs hs : List Goal) (ps : Proofs d (gs ++ hs))
    → (qs : Proofs d gs) × (rs : Proofs d hs) × (preorders ps ≡ preorders qs ++ preorders rs)
proofs-split d [] hs ps = (no_more refl, ps, refl)
proofs-split d (g ∷ gs) hs (no_more e) = absurd (cc)
proofs-split d (g ∷ gs) hs (and goal others e p ps) =
    let same : others ≡ gs ++ hs = cc in
    let head : g ∷ gs ≡ goal ∷ gs = cc in
    let moved = proofs-same d others (gs ++ hs) same ps in
    let parts = proofs-split d gs hs moved.0 in
    let tags : preorders ps ≡ preorders parts.0 ++ preorders parts.1 = cc in (
      and goal gs head p parts.0,
      parts.1,
      joined (preorder p) (preorders ps) (preorders parts.0) (preorders parts.1) tags,
    )

-- nothing after tags leaves them as they are
append_nothing : (ts us : List Tag) → us ≡ [] → ts ++ us ≡ ts
append_nothing [] us e = e
append_nothing (t ∷ ts) us e = ap (λ vs. t ∷ vs) (append_nothing ts us e)

-- a proof of the one goal of a list
pub proof-one : (d : Setting) (g : Goal) (gs : List Goal) → gs ≡ g ∷ [] → (ps : Proofs d gs)
    → (p : Proof d g) × (preorders ps ≡ preorder p)
proof-one d g gs e (no_more n) = absurd (cc)
proof-one d g gs e (and goal others k p ps) =
    let same : goal ≡ g = cc in
    let none : others ≡ [] = cc in
    let moved = proof-same d goal g same p in
    let alone = append_nothing (preorder p) (preorders ps) (proofs-none d others none ps) in
    (moved.0, cc)

-- a level of the code is its scope and its conjuncts
pub level_of-out : (l : CodeLevel Expr)
    → level_of {E = Expr} l
    ≡ level (out-Level Expr l).made (conjuncts (map conjunct_of (out-Level Expr l).conjuncts.items))
level_of-out l = fold_out-Level Expr (Conjunct Expr) (Level Expr) conjunct_step level_step l

-- a row that needs few new symbols
pub few-left : (count : ℕ) (o : Option (List Goal)) (left : List Goal) → if_few count o ≡ Some left → o ≡ Some left
few-left count o left e = go (nat_lt count TOO_MANY) e
  where
    go : (b : Bool) → cond b o None ≡ Some left → o ≡ Some left
    go true e = e
    go false e = absurd (cc)
