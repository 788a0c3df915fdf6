-- What goals with a call in front claim: a part is lent that satisfies the precondition, and with whatever comes back
-- the rest is done. The part is the same for all values of the fresh symbols, since a precondition picks out one
-- part.
-- Names: `call-claims`, `returned` of the frame after the call.
use Rattle.std.specs.Prelude.{length, Contains}
use Rattle.std.specs.Option.{unwrap_or}
use Rattle.std.proofs.Common.{◌≡◌, ℕ, zero, suc, Bool, true, false, cond, Option, Some, None, List, [], ◌∷◌, ◌++◌, refl, sym, ap, ◌∙◌, subst}
use Rattle.std.proofs.lemmas.Option.{same_Some}
use Rattle.sf_base.proofs.HeapSplits.{star-drop_right}
use Rattle.sf_base.proofs.MapSplits.{changed, empty-holds, map-same, splits-at_right, splits-by_test, splits-cancel_left, splits-empty_left, splits-has_left}
use Rattle.sf_base.specs.declared.ids.ResId.{ResId}
use Rattle.sf_base.specs.declared.ids.Var.{Var}
use Rattle.sf_base.specs.declared.place.Place.{Place}
use Rattle.sf_base.specs.declared.value.Value.{Value}
use Rattle.sf_base.specs.declared.value.Value.TheVariants.{Nil as nil}
use Rattle.sf_base.specs.HeapStore.{Heap, Splits, ◌⋆◌}
use Rattle.sf_calls.specs.Assigned.{MayChange}
use Rattle.sf_calls.specs.Changes.{changed as changed_by}
use Rattle.sf_core.specs.declared.command.Expr.{Expr}
use Rattle.sf_core.specs.Machine.Step.{procedure_at}
use Rattle.sf_core.specs.Program.Syntax.{Call, Procedure, call}
use Rattle.sf_rules.specs.Checked.LawsOfCommands.{before_command}
use Rattle.sf_rules.specs.Checked.Lemmas.Forms.{adding-assuming, body-assuming, form-command, taking-showing}
use Rattle.sf_rules.specs.Callee.{term_after, term_before}
use Rattle.sf_rules.specs.Setting.{Setting}
use Rattle.sf_rules.specs.Words.{pending_assertion, to_add, to_take}
use Rattle.sf_safe.specs.Checked.Local.{ComesBack, HasInAll, HasVar, Local, LocalParts, arguments_in, callee_value, value_in}
use Rattle.sf_safe.specs.Checked.LocalSafe.{LocalCalls, LocalSafe}
use Rattle.sf_sound.proofs.Annotated.{HaveValues, usable-assumed}
use Rattle.sf_sound.proofs.CalleeTerms.{callee-values, is_lent, lent-changes, lent-lends, lent-pre, lent_part, set-value, values-known}
use Rattle.sf_sound.proofs.FreshTerms.{fresh-contains, fresh-listed, fresh-names, fresh-same, fresh-values, fresh_values, put-here, put-other, put-tokens}
use Rattle.sf_sound.proofs.Keeping.{just-none}
use Rattle.sf_sound.proofs.Standing.{body-does, domain-in}
use Rattle.sf_sound.proofs.Words.{adding-does, adding-suits, body-holds, showing-holds, taking-does, taking-suits}
use Rattle.sf_sym.specs.Checked.Lemmas.Adding.{adding-holds}
use Rattle.sf_sound.specs.Checked.Claims.{Does, Owed, put_values, steps, with_cells}
use Rattle.sf_sound.specs.Checked.Suits.{CallSuits, Claim, Domain, HasDomain, IsListed, IsPassed, ReadsAll, Suits}
use Rattle.sf_sym.specs.Below.{AreBelow, SameBelow}
use Rattle.sf_sym.specs.declared.term.Term.{Term}
use Rattle.sf_sym.specs.Goal.{Item, gave, Goal}
use Rattle.sf_sym.specs.Holds.{PendingHolds}
use Rattle.sf_sym.specs.HoldsIn.{HoldsIn}
use Rattle.sf_sym.specs.Checked.Laws.{OtherSymbolsAreFree}
use Rattle.sf_sym.specs.Checked.Lemmas.TwoHeaps.{other_symbols_are_free}
use Rattle.sf_sym.specs.Pending.{Pending}
use Rattle.sf_sym.specs.Ready.{is_listed}
use Rattle.sf_sym.specs.State.{State, term, term_at, with_symbols}
use Rattle.sf_sym.specs.Variables.{fresh_for, set_vars}
use Rattle.sf_sym.specs.Shape.{HasShape, IsBody, IsShowing}

-- values that are read
pub domain-all : (D : Domain) (l : Local) → HasDomain D l → (es : List Expr) → ReadsAll D es → HasInAll l es
domain-all D l h [] r = tt
domain-all D l h (e ∷ es) r = (domain-in D l h e r.0, domain-all D l h es r.1)

-- a goal that holds does so with other values of symbols that it doesn't speak of
pub holds-with : (w v : ℕ → Value) (goal : Goal) (e : Var → Option Value) (free taken : Heap)
    → AreBelow goal → SameBelow goal.state.next_sym v w → HoldsIn w goal e free taken
    → HoldsIn v goal e free taken
unfolding OtherSymbolsAreFree
holds-with w v goal e free taken b s h = other_symbols_are_free v w goal e free taken b s h

-- the frame after calls: what was lent has come back, with the values that the fresh symbols have
pub returned : (n : ℕ) (xs : List Var) (w : ℕ → Value) (l back kept after : Local) (cells : Heap)
    → LocalParts after back kept
    → ((x : Var) → Contains xs x → HasVar back x)
    → ((x : Var) → (Contains xs x → ⊥) → (back.values x ≡ None) × (kept.values x ≡ l.values x))
    → kept.tokens ≡ l.tokens → ((r : ResId) → back.tokens r ≡ None)
    → with_cells after.cells (put_values (fresh_values n xs (value_in back) w) (fresh_for n xs) (with_cells cells l))
    ≡ after
returned n xs w l back kept after cells parts there others tokens none = λ i. record {
  values = λ x. value x (is_listed (fresh_for n xs) x) refl i;
  cells = after.cells;
  tokens = token i;
}
  where
    v : ℕ → Value
    v = fresh_values n xs (value_in back) w

    value : (x : Var) (b : Bool) → is_listed (fresh_for n xs) x ≡ b
        → (put_values v (fresh_for n xs) (with_cells cells l)).values x ≡ after.values x
    value x true e =
        let h = there x (fresh-contains n xs x e) in
        put-here v (value_in back) (fresh_for n xs) (with_cells cells l) x (fresh-values n xs (value_in back) w) e
        ∙ ap (λ o. Some (unwrap_or o nil)) h.1 ∙ sym (splits-has_left x h.0 parts.values h.1)
    value x false e =
        let m = others x (λ c. absurd (let i = fresh-listed n xs x c in cc)) in
        put-other v (fresh_for n xs) (with_cells cells l) x e ∙ sym m.1 ∙ sym (splits-at_right x parts.values m.0)

    token : (put_values v (fresh_for n xs) (with_cells cells l)).tokens ≡ after.tokens
    token = put-tokens v (fresh_for n xs) (with_cells cells l) ∙ sym tokens
        ∙ sym (map-same after.tokens kept.tokens (λ r. splits-at_right r parts.tokens (none r)))

module _ (d : Setting) (s : State) (q : Place) (c : Call) (rest : List Item) where
  abbrev xs : List Var
  xs = changed_by d.sets c

  abbrev set : List (Var × Term)
  set = fresh_for s.next_sym xs

  -- what is still to do once the callee is there
  abbrev behind : Procedure → List Item
  behind g = to_add q (term_after s set c) (d.ordered g.post) ++ rest

  abbrev pub calling : Procedure → Goal
  calling g = record {
    state = with_symbols (length set) s;
    todo = to_take c.place (term_before s c) (d.ordered g.pre) ++ (gave q set [] ∷ behind g);
  }

  module _ (shape : HasShape (before_command s (call q c) rest)) (D : Domain)
      (gs : Suits d D (before_command s (call q c) rest)) where
    abbrev u : CallSuits d D c
    u = gs.todo.0

    abbrev t : IsListed D s
    t = gs.listed

    abbrev pre : Pending
    pre = pending_assertion (term_before s c) (d.ordered u.callee.pre)

    abbrev post : Pending
    post = pending_assertion (term_after s set c) (d.ordered u.callee.post)

    abbrev names : List (List ℕ)
    names = (d.ordered u.callee.pre).names

    form : IsBody rest
    form = (form-command s (call q c) rest shape.form).0

    showing : IsShowing (calling u.callee).todo
    showing = taking-showing c.place pre names (gave q set [] ∷ behind u.callee)
        (adding-assuming q post rest (body-assuming rest form))

    calling-suits : Suits d D (calling u.callee)
    calling-suits = record {
      listed = t;
      todo = taking-suits d D c.place pre names (gave q set [] ∷ behind u.callee) (
        fresh-names (λ x. D.has x ≡ true) s.next_sym xs (λ x i. u.lent x ((u.lends x).0 i)),
        tt,
        adding-suits d D q post rest gs.todo.1,
      );
    }

    module _ (claim : Claim d (calling u.callee)) (n : ℕ) (l : Local) (taken : Heap) (has : HasDomain D l) where
      -- with some values of the symbols: a part is shown, and the rest is done without it
      shown : (v : ℕ → Value) → HoldsIn v (before_command s (call q c) rest) l.values l.cells taken
          → (PendingHolds v pre ⋆ (λ kept. Does d.program n v (gave q set [] ∷ behind u.callee) (with_cells kept l)))
          l.cells
      shown v h =
          taking-does d.program n v c.place pre names (gave q set [] ∷ behind u.callee) l
          (claim n v D l taken calling-suits has (record {
            vars = h.vars;
            apart = h.apart;
            disjoint = h.disjoint;
            there = showing-holds v (calling u.callee).todo l.cells showing (star-drop_right h.there);
            gone = h.gone;
          }))

      module _ (w : ℕ → Value) (h : HoldsIn w (before_command s (call q c) rest) l.values l.cells taken) where
        abbrev first : (PendingHolds w pre
            ⋆ (λ kept. Does d.program n w (gave q set [] ∷ behind u.callee) (with_cells kept l))) l.cells
        first = shown w h

        abbrev kept : Local
        kept = record { values = changed (is_lent d c) None l.values; cells = first.right; tokens = l.tokens }

        goes_on : (back after : Local) → ComesBack d.program c u.callee (arguments_in l c) back
            → LocalParts after back kept → LocalSafe d.program n (Owed rest) (steps rest) after
        goes_on back after b parts =
            let v = fresh_values s.next_sym xs (value_in back) w in
            let hv = holds-with w v (before_command s (call q c) rest) l.values l.cells taken shape.below
            (fresh-same s.next_sym xs (value_in back) w) h in
            let second = shown v hv in
            let same_part : second.left ≡ first.left =
            u.pre.precise (callee_value (value_in l) c (arguments_in l c)) l.cells second.left first.left second.right
            first.right second.splits first.splits (lent-pre d D c u s t v l has hv.vars second.left second.first)
            (lent-pre d D c u s t w l has h.vars first.left first.first) in
            let same_rest : second.right ≡ first.right =
            splits-cancel_left (subst (λ z. Splits l.cells z second.right) same_part second.splits) first.splits in
            let values : HaveValues (IsPassed d c.callee u.callee) v (term_after s set c)
            (callee_value (value_in back) c (arguments_in l c)) =
            callee-values d v (term s.vars) l (term_at (set_vars set s.vars)) (value_in back) c u.callee
            (λ x m. set-value v (value_in back) set s.vars l x shape.vars hv.vars
            (fresh-values s.next_sym xs (value_in back) w) (fresh-listed s.next_sym xs x ((u.lends x).1 m)))
            (values-known d D s t v l has hv.vars c.values u.reads) in
            let does = second.second back.cells after.cells
            (adding-holds v q post rest back.cells
            (body-holds v rest back.cells form
            (usable-assumed d (IsPassed d c.callee u.callee) u.callee.post u.post v (term_after s set c)
            (callee_value (value_in back) c (arguments_in l c)) back.cells values b.post)))
            (subst (λ z. Splits after.cells back.cells z) (sym same_rest) parts.cells) in
            subst (λ z. LocalSafe d.program n (Owed rest) (steps rest) z)
            (returned s.next_sym xs w l back kept after second.right parts
            (λ x i. b.variables.each x ((u.lends x).0 i))
            (λ x i. (
              just-none (MayChange d.program c) back b.variables x (λ m. i ((u.lends x).1 m)),
              not-lent x i (is_lent d c x) refl,
            )) refl b.outside)
            (body-does d.program n v rest (with_cells after.cells (put_values v set (with_cells second.right l))) form
            (adding-does d.program n v q post rest
            (with_cells after.cells (put_values v set (with_cells second.right l))) does))
          where
            not-lent : (x : Var) → (Contains xs x → ⊥) → (b : Bool) → is_lent d c x ≡ b
                → cond (is_lent d c x) None (l.values x) ≡ l.values x
            not-lent x i true e = absurd (i ((u.lends x).1 (lent-changes d D c u x e)))
            not-lent x i false e = ap (λ b. cond b None (l.values x)) e

        calls : LocalCalls d.program l c u.callee (LocalSafe d.program n (Owed rest) (steps rest))
        calls = record {
          fits = u.fits;
          lent = lent_part d D c u l first.left;
          kept = kept;
          parts = record {
            values = splits-by_test (is_lent d c) l.values;
            cells = first.splits;
            tokens = splits-empty_left empty-holds;
          };
          lends = lent-lends d D c u l first.left has (lent-pre d D c u s t w l has h.vars first.left first.first);
          goes_on = goes_on;
        }

  pub call-claims : HasShape (before_command s (call q c) rest) → (g : Procedure)
      → procedure_at d.program c.callee ≡ Some g → Claim d (calling g)
      → Claim d (before_command s (call q c) rest)
  call-claims shape g there claim zero w D l taken gs has holds = tt
  call-claims shape g there claim (suc n) w D l taken gs has holds =
      let callee = gs.todo.0 in
      let same : g ≡ callee.callee = same_Some g callee.callee (sym there ∙ callee.there) in (
        domain-all D l has c.values callee.reads,
        λ f i.
            subst (λ z. LocalCalls d.program l c z (LocalSafe d.program n (Owed rest) (steps rest)))
            (same_Some callee.callee f (sym callee.there ∙ i))
            (calls shape D gs (subst (λ z. Claim d (calling z)) same claim) n l taken has w holds),
      )
