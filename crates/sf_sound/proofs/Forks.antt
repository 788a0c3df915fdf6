-- What goals with two parallel calls in front claim: two parts are lent, one for each, and with whatever comes back
-- the rest is done.
-- Names: `fork-claims`.
use Rattle.std.specs.List.{AllByRecursion}
use Rattle.std.specs.Prelude.{◌||◌, length, Contains}
use Rattle.std.specs.Option.{option_or, unwrap_or}
use Rattle.std.proofs.Common.{◌≡◌, ℕ, zero, suc, ◌+◌, Bool, true, false, cond, Option, Some, None, List, [], ◌∷◌, ◌++◌, refl, sym, ap, ◌∙◌, subst, subst₂, inl, inr}
use Rattle.std.proofs.lemmas.List.Elements.{Contains-append_cases, Contains-append_left, Contains-append_right}
use Rattle.std.proofs.lemmas.Option.{same_Some}
use Rattle.sf_base.proofs.HeapSplits.{star-drop_right, star-of}
use Rattle.sf_base.proofs.MapSplits.{apart-none, changed, empty-holds, empty_map, only, splits-assoc_left, splits-by_test, splits-cancel_left, splits-empty_left, splits-has_left, splits-has_right, splits-lacks_whole, union}
use Rattle.sf_base.specs.declared.ids.Var.{Var}
use Rattle.sf_base.specs.declared.place.Place.{Place}
use Rattle.sf_base.specs.declared.value.Value.{Value}
use Rattle.sf_base.specs.declared.value.Value.TheVariants.{Nil as nil}
use Rattle.sf_base.specs.HeapStore.{Apart, Heap, Map, Splits, ◌⋆◌}
use Rattle.sf_calls.specs.Assigned.{MayChange}
use Rattle.sf_calls.specs.Changes.{changed as changed_by}
use Rattle.sf_core.specs.Machine.Step.{procedure_at}
use Rattle.sf_core.specs.Program.Syntax.{Call, Procedure, fork}
use Rattle.sf_rules.specs.Checked.LawsOfCommands.{before_command}
use Rattle.sf_rules.specs.Checked.Lemmas.Forms.{adding-assuming, body-assuming, form-command, taking-showing}
use Rattle.sf_rules.specs.Callee.{term_after, term_before}
use Rattle.sf_rules.specs.Setting.{Setting}
use Rattle.sf_rules.specs.Words.{pending_assertion, to_add, to_take}
use Rattle.sf_safe.specs.Checked.Local.{ComesBack, HasVar, Local, LocalParts, arguments_in, callee_value, value_in}
use Rattle.sf_safe.specs.Checked.LocalSafe.{LocalForks, LocalSafe}
use Rattle.sf_sound.proofs.Annotated.{HaveValues, usable-assumed}
use Rattle.sf_sound.proofs.CalleeTerms.{callee-values, is_lent, lent-changes, lent-lends, lent-pre, lent_part, set-value, values-known}
use Rattle.sf_sound.proofs.Calls.{domain-all, holds-with, returned}
use Rattle.sf_sound.proofs.FreshTerms.{fresh-append, fresh-listed, fresh-names, fresh-same, fresh-values, fresh_values}
use Rattle.sf_sound.proofs.Keeping.{just-none}
use Rattle.sf_sound.proofs.Standing.{body-does}
use Rattle.sf_sound.proofs.Words.{adding-does, adding-suits, body-holds, showing-holds, taking-does, taking-suits}
use Rattle.sf_sym.specs.Checked.Lemmas.Adding.{adding-holds}
use Rattle.sf_sound.specs.Checked.Claims.{Does, Owed, put_values, steps, with_cells}
use Rattle.sf_sound.specs.Checked.Suits.{CallSuits, Claim, Domain, HasDomain, IsListed, IsPassed, Suits}
use Rattle.sf_sym.specs.declared.term.Term.{Term}
use Rattle.sf_sym.specs.Goal.{Item, gave, Goal}
use Rattle.sf_sym.specs.Holds.{term_value, PendingHolds}
use Rattle.sf_sym.specs.HoldsIn.{HoldsIn}
use Rattle.sf_sym.specs.Pending.{Pending}
use Rattle.sf_sym.specs.State.{State, term, term_at, with_symbols}
use Rattle.sf_sym.specs.Variables.{fresh_for, set_vars}
use Rattle.sf_sym.specs.Shape.{HasShape, IsBody, IsShowing}

either-apart : {X : Type 0} (a b : Bool) (x : Option X) → (a ≡ true → b ≡ true → ⊥)
    → Apart (cond a x None) (cond b x None)
either-apart true true x n = absurd (n refl refl)
either-apart true false x n = apart-none x
either-apart false b x n = tt

either-is : {X : Type 0} (a b : Bool) (x : Option X) → (a ≡ true → b ≡ true → ⊥)
    → cond (a || b) x None ≡ option_or (cond a x None) (cond b x None)
either-is true true x n = absurd (n refl refl)
either-is true false None n = refl
either-is true false (Some y) n = refl
either-is false b x n = refl

-- what has one property or the other, where nothing has both
splits-either : {K X : Type 0} (one two : K → Bool) (map : Map K X)
    → ((key : K) → one key ≡ true → two key ≡ true → ⊥)
    → Splits (only (λ key. one key || two key) map) (only one map) (only two map)
splits-either one two map never = record {
  apart = λ key. either-apart (one key) (two key) (map key) (never key);
  is = λ key. either-is (one key) (two key) (map key) (never key);
}

-- what holds of all of two lists holds of all of each
all-first : {X : Type 0} (P : X → Type 0) (xs ys : List X) → AllByRecursion P (xs ++ ys) → AllByRecursion P xs
all-first P [] ys a = tt
all-first P (x ∷ xs) ys a = (a.0, all-first P xs ys a.1)

all-second : {X : Type 0} (P : X → Type 0) (xs ys : List X) → AllByRecursion P (xs ++ ys) → AllByRecursion P ys
all-second P [] ys a = a
all-second P (x ∷ xs) ys a = all-second P xs ys a.1

module _ (d : Setting) (s : State) (q : Place) (c e : Call) (rest : List Item) where
  abbrev xs : List Var
  xs = changed_by d.sets c

  abbrev ys : List Var
  ys = changed_by d.sets e

  abbrev first : List (Var × Term)
  first = fresh_for s.next_sym xs

  abbrev second : List (Var × Term)
  second = fresh_for (s.next_sym + length first) ys

  abbrev set : List (Var × Term)
  set = first ++ second

  set-is : set ≡ fresh_for s.next_sym (xs ++ ys)
  set-is = fresh-append s.next_sym xs ys

  -- what is still to do once the callees are there
  abbrev behind : (g h : Procedure) → List Item
  behind g h = to_add q (term_after s first c) (d.ordered g.post)
      ++ (to_add q (term_after s second e) (d.ordered h.post) ++ rest)

  -- and once the first is there
  abbrev between : (g h : Procedure) → List Item
  between g h = to_take e.place (term_before s e) (d.ordered h.pre) ++ (gave q set [] ∷ behind g h)

  abbrev pub forking : (g h : Procedure) → Goal
  forking g h = record {
    state = with_symbols (length set) s;
    todo = to_take c.place (term_before s c) (d.ordered g.pre) ++ between g h;
  }

  module _ (shape : HasShape (before_command s (fork q c e) rest)) (D : Domain)
      (gs : Suits d D (before_command s (fork q c e) rest)) where
    abbrev one : CallSuits d D c
    one = gs.todo.0.0

    abbrev two : CallSuits d D e
    two = gs.todo.0.1

    abbrev g : Procedure
    g = one.callee

    abbrev h : Procedure
    h = two.callee

    abbrev t : IsListed D s
    t = gs.listed

    abbrev pre : Pending
    pre = pending_assertion (term_before s c) (d.ordered g.pre)

    abbrev other_pre : Pending
    other_pre = pending_assertion (term_before s e) (d.ordered h.pre)

    abbrev post : Pending
    post = pending_assertion (term_after s first c) (d.ordered g.post)

    abbrev other_post : Pending
    other_post = pending_assertion (term_after s second e) (d.ordered h.post)

    abbrev names : List (List ℕ)
    names = (d.ordered g.pre).names

    abbrev other_names : List (List ℕ)
    other_names = (d.ordered h.pre).names

    form : IsBody rest
    form = (form-command s (fork q c e) rest shape.form).0

    showing : IsShowing (forking g h).todo
    showing = taking-showing c.place pre names (between g h)
        (taking-showing e.place other_pre other_names (gave q set [] ∷ behind g h)
        (adding-assuming q post (to_add q (term_after s second e) (d.ordered h.post) ++ rest)
        (adding-assuming q other_post rest (body-assuming rest form))))

    lent-has : (x : Var) → Contains (xs ++ ys) x → D.has x ≡ true
    lent-has x i = elim (Contains-append_cases xs ys x i) [
      | inl j ↦ one.lent x ((one.lends x).0 j)
      | inr j ↦ two.lent x ((two.lends x).0 j)
    ]

    forking-suits : Suits d D (forking g h)
    forking-suits = record {
      listed = t;
      todo = taking-suits d D c.place pre names (between g h)
          (taking-suits d D e.place other_pre other_names (gave q set [] ∷ behind g h) (
            subst (λ ss. AllByRecursion (λ (x : Var × Term). D.has x.0 ≡ true) ss) (sym set-is)
                (fresh-names (λ x. D.has x ≡ true) s.next_sym (xs ++ ys) lent-has),
            tt,
            adding-suits d D q post (to_add q (term_after s second e) (d.ordered h.post) ++ rest)
                (adding-suits d D q other_post rest gs.todo.1),
          ));
    }

    -- what is left to do when both preconditions are shown
    abbrev Left : ℕ → (ℕ → Value) → Local → Type 0
    Left n v l = Does d.program n v (gave q set [] ∷ behind g h) l

    module _ (claim : Claim d (forking g h)) (n : ℕ) (l : Local) (taken : Heap) (has : HasDomain D l) where
      -- with some values of the symbols: two parts are shown, and the rest is done without them
      abbrev Shown : (v : ℕ → Value) → Type 0
      Shown v = (PendingHolds v pre ⋆ (PendingHolds v other_pre ⋆ (λ kept. Left n v (with_cells kept l)))) l.cells

      shown : (v : ℕ → Value) → HoldsIn v (before_command s (fork q c e) rest) l.values l.cells taken → Shown v
      shown v k =
          let m = taking-does d.program n v c.place pre names (between g h) l
          (claim n v D l taken forking-suits has (record {
            vars = k.vars;
            apart = k.apart;
            disjoint = k.disjoint;
            there = showing-holds v (forking g h).todo l.cells showing (star-drop_right k.there);
            gone = k.gone;
          })) in
          let o = taking-does d.program n v e.place other_pre other_names (gave q set [] ∷ behind g h)
          (with_cells m.right l) m.second in
          record { left = m.left; right = m.right; splits = m.splits; first = m.first; second = o }

      abbrev either : Var → Bool
      either x = is_lent d c x || is_lent d e x

      never : (x : Var) → is_lent d c x ≡ true → is_lent d e x ≡ true → ⊥
      never x i j = gs.todo.0.2 x (lent-changes d D c one x i) (lent-changes d D e two x j)

      module _ (w : ℕ → Value) (k : HoldsIn w (before_command s (fork q c e) rest) l.values l.cells taken) where
        abbrev now : Shown w
        now = shown w k

        abbrev kept : Local
        kept = record { values = changed either None l.values; cells = now.second.right; tokens = l.tokens }

        goes_on : (back_one back_two back after : Local)
            → ComesBack d.program c g (arguments_in l c) back_one
            → ComesBack d.program e h (arguments_in l e) back_two → LocalParts back back_one back_two
            → LocalParts after back kept → LocalSafe d.program n (Owed rest) (steps rest) after
        goes_on back_one back_two back after b o both parts =
            let v = fresh_values s.next_sym (xs ++ ys) (value_in back) w in
            let kv = holds-with w v (before_command s (fork q c e) rest) l.values l.cells taken shape.below
            (fresh-same s.next_sym (xs ++ ys) (value_in back) w) k in
            let then = shown v kv in
            let same_left : then.left ≡ now.left =
            one.pre.precise (callee_value (value_in l) c (arguments_in l c)) l.cells then.left now.left then.right
            now.right then.splits now.splits (lent-pre d D c one s t v l has kv.vars then.left then.first)
            (lent-pre d D c one s t w l has k.vars now.left now.first) in
            let same_others : then.right ≡ now.right =
            splits-cancel_left (subst (λ z. Splits l.cells z then.right) same_left then.splits) now.splits in
            let further : Splits now.right then.second.left then.second.right =
            subst (λ z. Splits z then.second.left then.second.right) same_others then.second.splits in
            let same_right : then.second.left ≡ now.second.left =
            two.pre.precise (callee_value (value_in l) e (arguments_in l e)) now.right then.second.left now.second.left
            then.second.right now.second.right further now.second.splits
            (lent-pre d D e two s t v l has kv.vars then.second.left then.second.first)
            (lent-pre d D e two s t w l has k.vars now.second.left now.second.first) in
            let same_kept : then.second.right ≡ now.second.right =
            splits-cancel_left (subst (λ z. Splits now.right z then.second.right) same_right further) now.second.splits in
            let values = subst (λ ss. AllByRecursion (λ (x : Var × Term). term_value v x.1 ≡ value_in back x.0) ss)
            (sym set-is) (fresh-values s.next_sym (xs ++ ys) (value_in back) w) in
            let P : Var × Term → Type 0 = λ x. term_value v x.1 ≡ value_in back x.0 in
            let known = values-known d D s t v l has kv.vars in
            let after_one : HaveValues (IsPassed d c.callee g) v (term_after s first c)
            (callee_value (value_in back_one) c (arguments_in l c)) =
            callee-values d v (term s.vars) l (term_at (set_vars first s.vars)) (value_in back_one) c g
            (λ x m.
            let x_has = b.variables.each x m in
            set-value v (value_in back) first s.vars l x shape.vars kv.vars (all-first P first second values)
            (fresh-listed s.next_sym xs x ((one.lends x).1 m))
            ∙ ap (λ z. unwrap_or z nil) (splits-has_left x x_has.0 both.values x_has.1 ∙ sym x_has.1))
            (known c.values one.reads) in
            let after_two : HaveValues (IsPassed d e.callee h) v (term_after s second e)
            (callee_value (value_in back_two) e (arguments_in l e)) =
            callee-values d v (term s.vars) l (term_at (set_vars second s.vars)) (value_in back_two) e h
            (λ x m.
            let x_has = o.variables.each x m in
            set-value v (value_in back) second s.vars l x shape.vars kv.vars (all-second P first second values)
            (fresh-listed (s.next_sym + length first) ys x ((two.lends x).1 m))
            ∙ ap (λ z. unwrap_or z nil) (splits-has_right x x_has.0 both.values x_has.1 ∙ sym x_has.1))
            (known e.values two.reads) in
            let does = then.second.second back.cells after.cells
            (adding-holds v q post (to_add q (term_after s second e) (d.ordered h.post) ++ rest) back.cells
            (star-of both.cells
            (usable-assumed d (IsPassed d c.callee g) g.post one.post v (term_after s first c)
            (callee_value (value_in back_one) c (arguments_in l c)) back_one.cells after_one b.post)
            (adding-holds v q other_post rest back_two.cells
            (body-holds v rest back_two.cells form
            (usable-assumed d (IsPassed d e.callee h) h.post two.post v (term_after s second e)
            (callee_value (value_in back_two) e (arguments_in l e)) back_two.cells after_two o.post)))))
            (subst (λ z. Splits after.cells back.cells z) (sym same_kept) parts.cells) in
            let frame : Local = with_cells after.cells (put_values v set (with_cells then.second.right l)) in
            let frame_is : frame ≡ after =
            ap (λ ss. with_cells after.cells (put_values v ss (with_cells then.second.right l))) set-is
            ∙ returned s.next_sym (xs ++ ys) w l back kept after then.second.right parts there others refl
            (λ r. splits-lacks_whole r both.tokens (b.outside r) (o.outside r)) in
            subst (λ z. LocalSafe d.program n (Owed rest) (steps rest) z) frame_is
            (body-does d.program n v rest frame form
            (adding-does d.program n v q other_post rest frame
            (adding-does d.program n v q post (to_add q (term_after s second e)
            (d.ordered h.post) ++ rest) frame does)))
          where
            there : (x : Var) → Contains (xs ++ ys) x → HasVar back x
            there x i = elim (Contains-append_cases xs ys x i) [
              | inl j ↦
                  let m = b.variables.each x ((one.lends x).0 j) in
                  (m.0, splits-has_left x m.0 both.values m.1)
              | inr j ↦
                  let m = o.variables.each x ((two.lends x).0 j) in
                  (m.0, splits-has_right x m.0 both.values m.1)
            ]

            others : (x : Var) → (Contains (xs ++ ys) x → ⊥)
                → (back.values x ≡ None) × (kept.values x ≡ l.values x)
            others x i = (
              splits-lacks_whole x both.values
                  (just-none (MayChange d.program c) back_one b.variables x (λ m. out_one ((one.lends x).1 m)))
                  (just-none (MayChange d.program e) back_two o.variables x (λ m. out_two ((two.lends x).1 m))),
              not-lent (is_lent d c x) refl (is_lent d e x) refl,
            )
              where
                out_one : Contains xs x → ⊥
                out_one j = i (Contains-append_left xs ys x j)

                out_two : Contains ys x → ⊥
                out_two j = i (Contains-append_right xs ys x j)

                not-lent : (y : Bool) → is_lent d c x ≡ y → (z : Bool) → is_lent d e x ≡ z
                    → cond (is_lent d c x || is_lent d e x) None (l.values x) ≡ l.values x
                not-lent true j z m = absurd (out_one ((one.lends x).1 (lent-changes d D c one x j)))
                not-lent false j true m = absurd (out_two ((two.lends x).1 (lent-changes d D e two x m)))
                not-lent false j false m = ap (λ y. cond (y || is_lent d e x) None (l.values x)) j
                    ∙ ap (λ z. cond z None (l.values x)) m

        forks : LocalForks d.program l c e g h (LocalSafe d.program n (Owed rest) (steps rest))
        forks =
            let cells = splits-assoc_left now.second.splits now.splits in
            record {
              fits_left = one.fits;
              fits_right = two.fits;
              lent = record { values = only either l.values; cells = union now.left now.second.left; tokens = empty_map };
              left = lent_part d D c one l now.left;
              right = lent_part d D e two l now.second.left;
              kept = kept;
              parts = record {
                values = splits-by_test either l.values;
                cells = cells.1;
                tokens = splits-empty_left empty-holds;
              };
              apart = record {
                values = splits-either (is_lent d c) (is_lent d e) l.values never;
                cells = cells.0;
                tokens = splits-empty_left empty-holds;
              };
              lends_left = lent-lends d D c one l now.left has
                  (lent-pre d D c one s t w l has k.vars now.left now.first);
              lends_right = lent-lends d D e two l now.second.left has
                  (lent-pre d D e two s t w l has k.vars now.second.left now.second.first);
              goes_on = goes_on;
            }

  pub fork-claims : HasShape (before_command s (fork q c e) rest) → (g h : Procedure) → procedure_at d.program c.callee ≡ Some g
      → procedure_at d.program e.callee ≡ Some h → Claim d (forking g h)
      → Claim d (before_command s (fork q c e) rest)
  fork-claims shape g h there also_there claim zero w D l taken gs has holds = tt
  fork-claims shape g h there also_there claim (suc n) w D l taken gs has holds =
      let one = gs.todo.0.0 in
      let two = gs.todo.0.1 in
      let same : g ≡ one.callee = same_Some g one.callee (sym there ∙ one.there) in
      let also_same : h ≡ two.callee = same_Some h two.callee (sym also_there ∙ two.there) in (
        domain-all D l has c.values one.reads,
        domain-all D l has e.values two.reads,
        λ f k i j.
            subst₂ (λ y z. LocalForks d.program l c e y z (LocalSafe d.program n (Owed rest) (steps rest)))
            (same_Some one.callee f (sym one.there ∙ i)) (same_Some two.callee k (sym two.there ∙ j))
            (forks shape D gs (subst₂ (λ y z. Claim d (forking y z)) same also_same claim) n l taken has w holds),
      )
