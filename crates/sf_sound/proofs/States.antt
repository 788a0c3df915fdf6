-- States in which each variable of a frame has a term: what expressions stand for, and variables that get fresh symbols.
-- Names: `terms-values`, `state-fresh`, `renewed-PART` of a state in which variables get fresh symbols.
use Rattle.sf_rules.specs.First.{nil_for, with_nil}
use Rattle.std.specs.List.{AllByRecursion}
use Rattle.std.specs.Prelude.{◌⊎◌, false, Contains}
use Rattle.std.specs.Option.{unwrap_or}
use Rattle.std.proofs.Common.{◌≡◌, ℕ, Bool, true, Some, List, refl, sym, ap, ◌∙◌, inl, inr}
use Rattle.sf_base.specs.declared.ids.Var.{Var}
use Rattle.sf_base.specs.declared.value.Value.{Value}
use Rattle.sf_base.specs.declared.value.Value.TheVariants.{Nil as nil}
use Rattle.sf_base.specs.HeapStore.{Heap}
use Rattle.sf_core.specs.declared.command.Expr.TheVariants.{Var as Variable, Nil, Int}
use Rattle.sf_rules.specs.Setting.{Setting}
use Rattle.sf_safe.specs.Checked.Local.{Local, value_in}
use Rattle.sf_sound.proofs.Annotated.{HaveValues}
use Rattle.sf_sound.proofs.FreshTerms.{agrees-fewer, fresh-listed, fresh-same, fresh-values, fresh_values, put-agrees, put-here, put-other, nil-listed, nil-values}
use Rattle.sf_rules.specs.Checked.Lemmas.VariableTerms.{all-listed, all-listed_here}
use Rattle.sf_sound.specs.Checked.Claims.{put_values}
use Rattle.sf_sound.specs.Checked.Suits.{Domain, HasDomain, IsListed}
use Rattle.sf_sym.specs.Below.{AreBelow, IsBelow}
use Rattle.sf_sym.specs.Goal.{Item}
use Rattle.sf_sym.specs.Holds.{Agrees, AtomsHold, Differ}
use Rattle.sf_sym.specs.HoldsIn.{HoldsIn}
use Rattle.sf_sym.specs.Checked.Lemmas.Below.{pairs-weaker}
use Rattle.sf_sym.specs.Checked.Lemmas.FreshGoals.{agree, atoms-stay, vars-stay}
use Rattle.sf_sym.specs.Checked.Lemmas.KnownValues.{known-value}
use Rattle.sf_sym.specs.Checked.Lemmas.OtherValues.{Same, pairs-other_values}
use Rattle.sf_sym.specs.Ready.{is_listed}
use Rattle.sf_sym.specs.State.{State, term}
use Rattle.sf_sym.specs.Variables.{AreInOrder, fresh_for, with_fresh}

-- where its variables agree with a frame's, expressions have the values that the frame sees
pub terms-values : (d : Setting) (D : Domain) (s : State) → IsListed D s → (w : ℕ → Value) (l : Local)
    → HasDomain D l → AllByRecursion (Agrees w l.values) s.vars
    → HaveValues (λ x. D.has x ≡ true) w (term s.vars) (value_in l)
terms-values d D s t w l h a (Variable x) i =
    known-value w l.values s.vars a (Variable x) (t x.var i) (h.variables x.var ∙ i)
terms-values d D s t w l h a Nil i = refl
terms-values d D s t w l h a (Int k) i = refl

-- variables get fresh symbols
pub state-fresh : (D E : Domain) (s : State) (xs : List Var) → IsListed D s
    → ((x : Var) → E.has x ≡ true → (D.has x ≡ true) ⊎ Contains xs x) → IsListed E (with_fresh xs s)
state-fresh D E s xs t within x e = elim (within x e) [
  | inl h ↦ all-listed (fresh_for s.next_sym xs) s.vars x (t x h)
  | inr c ↦ all-listed_here (fresh_for s.next_sym xs) s.vars x (fresh-listed s.next_sym xs x c)
]

-- variables are nil
pub state-nil : (D E : Domain) (s : State) (xs : List Var) → IsListed D s
    → ((x : Var) → E.has x ≡ true → (D.has x ≡ true) ⊎ Contains xs x) → IsListed E (with_nil xs s)
state-nil D E s xs t within x e = elim (within x e) [
  | inl h ↦ all-listed (nil_for xs) s.vars x (t x h)
  | inr c ↦ all-listed_here (nil_for xs) s.vars x (nil-listed xs x c)
]

-- of a frame in which they are
pub nil-vars : (s : State) (xs : List Var) (w : ℕ → Value) (l : Local) → AreInOrder s.vars
    → AllByRecursion (Agrees w l.values) s.vars → ((x : Var) → Contains xs x → value_in l x ≡ nil)
    → AllByRecursion (Agrees w l.values) (with_nil xs s).vars
nil-vars s xs w l order agrees unset =
    agrees-fewer w (put_values w (nil_for xs) l).values l.values (with_nil xs s).vars fewer
    (put-agrees w (nil_for xs) s.vars l order agrees)
  where
    fewer : (x : Var) (v : Value) → l.values x ≡ Some v → (put_values w (nil_for xs) l).values x ≡ Some v
    fewer x v e = go (is_listed (nil_for xs) x) refl
      where
        go : (b : Bool) → is_listed (nil_for xs) x ≡ b → (put_values w (nil_for xs) l).values x ≡ Some v
        go true i =
            put-here w (value_in l) (nil_for xs) l x (nil-values w (value_in l) xs unset) i
            ∙ ap (λ o. Some (unwrap_or o nil)) e
        go false i = put-other w (nil_for xs) l x i ∙ e

-- a goal in which variables get fresh symbols, of a frame whose other variables have the values that they had
module _ (s : State) (todo : List Item) (below : AreBelow (record { state = s; todo = todo }))
    (order : AreInOrder s.vars)
    (xs : List Var) (w : ℕ → Value) (l m : Local) (free taken : Heap)
    (h : HoldsIn w (record { state = s; todo = todo }) l.values free taken)
    (same : (x : Var) → (Contains xs x → ⊥) → m.values x ≡ l.values x) where
  abbrev pub renewed : ℕ → Value
  renewed = fresh_values s.next_sym xs (value_in m) w

  pub renewed-vars : AllByRecursion (Agrees renewed m.values) (with_fresh xs s).vars
  renewed-vars =
      agrees-fewer renewed (put_values renewed (fresh_for s.next_sym xs) l).values m.values
      (with_fresh xs s).vars fewer
      (put-agrees renewed (fresh_for s.next_sym xs) s.vars l order
      (vars-stay w renewed (record { state = s; todo = todo }) below (fresh-same s.next_sym xs
      (value_in m) w) l.values
      free taken h))
    where
      fewer : (x : Var) (v : Value) → m.values x ≡ Some v
          → (put_values renewed (fresh_for s.next_sym xs) l).values x ≡ Some v
      fewer x v e = go (is_listed (fresh_for s.next_sym xs) x) refl
        where
          go : (b : Bool) → is_listed (fresh_for s.next_sym xs) x ≡ b
              → (put_values renewed (fresh_for s.next_sym xs) l).values x ≡ Some v
          go true i =
              put-here renewed (value_in m) (fresh_for s.next_sym xs) l x
              (fresh-values s.next_sym xs (value_in m) w) i
              ∙ ap (λ o. Some (unwrap_or o nil)) e
          go false i =
              put-other renewed (fresh_for s.next_sym xs) l x i
              ∙ sym (same x (λ c. absurd (let j = fresh-listed s.next_sym xs x c in cc))) ∙ e

  pub renewed-apart : AllByRecursion (Differ renewed) s.apart
  renewed-apart =
      pairs-other_values w renewed s.apart
      (pairs-weaker (IsBelow s.next_sym) (Same w renewed)
      (agree w renewed (record { state = s; todo = todo }) below (fresh-same s.next_sym xs
      (value_in m) w) l.values free
      taken h) s.apart below.state.apart) h.apart

  pub renewed-atoms : (part : Heap) → AtomsHold w s.links s.atoms part → AtomsHold renewed s.links s.atoms part
  renewed-atoms part a =
      atoms-stay w renewed (record { state = s; todo = todo }) below (fresh-same s.next_sym xs
      (value_in m) w) l.values free
      taken h part a
