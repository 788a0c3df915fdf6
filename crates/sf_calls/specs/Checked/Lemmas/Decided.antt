-- Each test decides its relation.
use Rattle.std.proofs.Common.{◌≡◌, ◌↔◌, ℕ, ◌==◌, List, [], ◌∷◌, Option, Some, None, Contains, refl, subst}
use Rattle.std.specs.Bool.{Decides}
use Rattle.std.proofs.lemmas.Bool.Decides.{Decides-or, Decides-not}
use Rattle.sf_base.proofs.Bools.{decides-false}
use Rattle.sf_base.proofs.Elements.{contains-cond, contains-cons, contains-nil}
use Rattle.sf_base.proofs.Members.{contains-map, contains-map_from}
use Rattle.sf_base.specs.declared.ids.ProcId.{ProcId}
use Rattle.sf_base.specs.declared.ids.ResId.{ResId}
use Rattle.sf_base.specs.declared.ids.Var.{Var}
use Rattle.sf_core.specs.declared.command.Expr.{Expr}
use Rattle.sf_core.specs.declared.command.Expr.TheVariants.{Var as Variable, Nil, Int}
use Rattle.sf_core.specs.declared.command.Occurrence.{Occurrence}
use Rattle.sf_core.specs.Program.Heads.{head_calls, sites}
use Rattle.sf_core.specs.Program.Syntax.{Block, Command}
use Rattle.sf_calls.specs.Outside.{IsOutside, OccursInExpr, IsAmong, OccursInValues, CallsIn, Makes}
use Rattle.sf_calls.specs.Checked.Listed.{is_entered}
use Rattle.sf_base.proofs.Variables.{resource-decides, same_var-decides}
use Rattle.sf_calls.specs.Checked.Tests.{is_outside, in_expr, in_references, in_values, callees_in, callees_of}
use Rattle.sf_calls.specs.Checked.Lemmas.Sites.{listed_somewhere}

abbrev pub resource : ℕ → ResId
resource n = record { 0 = n }

pub entered_is : (r : ResId) (es : List ResId) → Decides (is_entered r es) (Contains es r)
entered_is r [] = (λ e. absurd (cc), λ c. absurd (contains-nil r c))
entered_is r (q ∷ qs) =
    let both = Decides-or (q.0 == r.0) (is_entered r qs) (resource-decides q r) (entered_is r qs) in
    (λ e. (contains-cons q qs r).1 (both.0 e), λ c. both.1 ((contains-cons q qs r).0 c))

pub outside_is : (but : Option ResId) (es : List ResId) → Decides (is_outside but es) (IsOutside but es)
outside_is None es = (λ e. tt, λ h. refl)
outside_is (Some r) es = Decides-not (is_entered r es) (entered_is r es)

pub in_expr_is : (x : Var) (e : Expr) → Decides (in_expr x e) (OccursInExpr x e)
in_expr_is x (Variable y) = same_var-decides y.var x
in_expr_is x Nil = decides-false
in_expr_is x (Int i) = decides-false

pub in_references_is : (x : Var) (ys : List Occurrence) → Decides (in_references x ys) (IsAmong x ys)
in_references_is x [] = decides-false
in_references_is x (y ∷ ys) = Decides-or _ _ (same_var-decides y.var x) (in_references_is x ys)

pub in_values_is : (x : Var) (es : List Expr) → Decides (in_values x es) (OccursInValues x es)
in_values_is x [] = decides-false
in_values_is x (e ∷ es) = Decides-or _ _ (in_expr_is x e) (in_values_is x es)

-- the callees of a command
callees_of_are : (g : ProcId) (c : Command) → Contains (callees_of c) g ↔ Makes c (λ d. d.callee ≡ g)
callees_of_are g c = (
  contains-map_from (λ d. d.callee) (head_calls c) g,
  λ m. subst (Contains (callees_of c)) m.2 (contains-map (λ d. d.callee) (head_calls c) m.0 m.1),
)

pub callees_in_are : (but : Option ResId) (g : ProcId) (b : Block)
    → Contains (callees_in but (sites [] b)) g ↔ CallsIn but g b
callees_in_are but g =
    listed_somewhere _ _ g
    (λ s. contains-cond _ _ g _ _ (outside_is but s.entered) (callees_of_are g s.command))
