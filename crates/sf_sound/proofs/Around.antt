-- What a goal at the head of a loop claims: given the invariant back, the loop runs for any number of events.
-- Names: `around-claims`. The one induction on the number of events is here.
use Rattle.std.specs.List.{AllByRecursion, filter}
use Rattle.std.specs.Prelude.{◌⊎◌, is_some, not, Contains}
use Rattle.std.specs.Option.{unwrap_or}
use Rattle.std.proofs.Common.{◌≡◌, ℕ, zero, suc, Bool, true, false, ◌&&◌, List, [], ◌∷◌, ◌++◌, refl, sym, ap, ◌∙◌, subst, subst₂, inl, inr}
use Rattle.sf_base.proofs.Elements.{contains-cons, contains-cons_if_first, contains-cons_if_rest, contains-nil}
use Rattle.sf_base.proofs.HeapSplits.{star-drop_right, star-of}
use Rattle.sf_base.proofs.MapSplits.{empty-holds, empty_map, splits-comm, splits-empty_left, splits-empty_right, splits-of_empty_right}
use Rattle.sf_base.proofs.Options.{is_some-false}
use Rattle.sf_base.specs.declared.ids.Var.{Var}
use Rattle.sf_base.specs.declared.place.Place.{Place}
use Rattle.sf_base.specs.declared.value.Value.{Value}
use Rattle.sf_base.specs.declared.value.Value.TheVariants.{Nil as nil}
use Rattle.sf_base.specs.HeapStore.{Heap, Splits}
use Rattle.sf_calls.specs.Changes.{changes_in}
use Rattle.sf_core.specs.Assertions.Sat.{IsTrueOf, Sat, value}
use Rattle.sf_core.specs.declared.assertion.Test.{Test}
use Rattle.sf_core.specs.declared.assertion.Test.TheVariants.{True, Equal, Differ as Unequal}
use Rattle.sf_core.specs.declared.command.Expr.{Expr}
use Rattle.sf_core.specs.declared.command.Expr.TheVariants.{Nil as ENil}
use Rattle.sf_core.specs.Machine.Config.{Item as Step, command, items}
use Rattle.sf_core.specs.Program.Syntax.{Assertion, Block, while}
use Rattle.sf_rules.specs.Checked.Rows.Loops.{after_loop, body_once}
use Rattle.sf_rules.specs.Rules.{unknown_in}
use Rattle.sf_rules.specs.Setting.{Setting}
use Rattle.sf_rules.specs.Checked.Lemmas.Forms.{body-run}
use Rattle.sf_rules.specs.Words.{negation, pending_assertion, to_add, to_add_test}
use Rattle.sf_safe.specs.Checked.Lemmas.{Beside, local-append, local-frame}
use Rattle.sf_safe.specs.Checked.Local.{Local, look, value_in}
use Rattle.sf_safe.specs.Checked.LocalSafe.{LocalSafe}
use Rattle.sf_sound.proofs.Annotated.{HaveValues, usable-assumed}
use Rattle.sf_sound.proofs.Assigned.{block-assigned}
use Rattle.sf_sound.proofs.Keeping.{BlockTouches, Keeping, Kept, Touches, keep, left-tokens_items, left-variables_items, left_tokens, left_variables, nothing_gone, nothing_lost, touches-items}
use Rattle.sf_sound.proofs.Standing.{body-does, domain-test, items-none, owed-run, steps-run, suits-run}
use Rattle.sf_sound.proofs.States.{renewed, renewed-apart, renewed-atoms, renewed-vars, state-fresh, terms-values}
use Rattle.sf_sound.proofs.Tests.{negation-true, pending_test, test-holds, test-within}
use Rattle.sf_sound.proofs.Words.{adding-does, adding-suits, body-holds}
use Rattle.sf_sym.specs.Checked.Lemmas.Adding.{adding-holds}
use Rattle.sf_sound.specs.Checked.Claims.{Owed, Satisfies, steps, with_cells}
use Rattle.sf_sound.specs.Checked.Suits.{Claim, Domain, HasDomain, IsListed, ReadsTest, Suits}
use Rattle.sf_sym.specs.declared.term.Term.{Term}
use Rattle.sf_sym.specs.Goal.{Item, head, again, Goal, to_run}
use Rattle.sf_sym.specs.Holds.{AddsHold, Agrees, Differ}
use Rattle.sf_sym.specs.HoldsIn.{HoldsIn}
use Rattle.sf_sym.specs.Ready.{is_listed}
use Rattle.sf_sym.specs.State.{State, term}
use Rattle.sf_sym.specs.Variables.{with_fresh}
use Rattle.sf_sym.specs.Shape.{HasShape, IsBody}

-- what passes a test is among those that do
filter-contains : {X : Type 0} (p : X → Bool) (xs : List X) (x : X) → Contains xs x → p x ≡ true
    → Contains (filter p xs) x
filter-contains p [] x c e = absurd (contains-nil x c)
filter-contains p (y ∷ ys) x c e = elim ((contains-cons y ys x).0 c) [
  | inl same ↦ contains-cons_if_first (p y) y x (filter p ys) (ap p same ∙ e) same
  | inr i ↦ contains-cons_if_rest (p y) y x (filter p ys) (filter-contains p ys x i e)
]

-- just these cells, beside whatever else a frame has
abbrev only_cells : Heap → Local
only_cells heap = record { values = empty_map; cells = heap; tokens = empty_map }

module _ (d : Setting) (s : State) (q : Place) (t : Test Expr) (invariant : Assertion) (body : Block)
    (rest : List Item)
  where
    abbrev goal : Goal
    goal = record { state = s; todo = head q t invariant body ∷ rest }

    abbrev changes : List Var
    changes = changes_in d.sets body

    -- those that have a term, which get fresh symbols
    abbrev unknown : List Var
    unknown = unknown_in d s body

    abbrev now : State
    now = with_fresh unknown s

    abbrev to : Expr → Term
    to = term now.vars

    abbrev loops : List Step
    loops = command (while q t invariant body) ∷ steps rest

    module _ (once : Claim d (body_once d now q t invariant body)) (after : Claim d
        (after_loop d now q t invariant rest))
        (shape : HasShape goal) (D : Domain) (u : Suits d D goal) (w : ℕ → Value) (l : Local) (taken : Heap)
        (has : HasDomain D l) (h : HoldsIn w goal l.values l.cells taken) where
      abbrev V : Var → Type 0
      V x = D.has x ≡ true

      fresh : IsListed D now
      fresh = state-fresh D D s unknown u.listed (λ x e. inl e)

      form : IsBody rest
      form = elim shape.form [ inl f ↦ absurd f.0 | inr f ↦ f ]

      -- the goals that are left suit the frame
      once-suits : Suits d D (body_once d now q t invariant body)
      once-suits = record {
        listed = fresh;
        todo = adding-suits d D q (pending_assertion to (d.ordered invariant)) _
            (adding-suits d D q (pending_test q to t) (to_run body ++ (again q invariant ∷ []))
            (suits-run d D body (again q invariant ∷ []) u.todo.0.3 u.todo.0.1));
      }

      after-suits : Suits d D (after_loop d now q t invariant rest)
      after-suits = record {
        listed = fresh;
        todo = adding-suits d D q (pending_assertion to (d.ordered invariant)) _
            (adding-suits d D q (pending_test q to (negation ENil t)) rest u.todo.1);
      }

      -- a frame at the head: it has the invariant beside the cells that were kept, and the variables that the body
      -- doesn't change have their values still
      record AtHead (m : Local) : Type 0 where
        domain : HasDomain D m
        same : (x : Var) → (Contains changes x → ⊥) → m.values x ≡ l.values x
        part : Heap
        splits : Splits m.cells part l.cells
        holds : Satisfies invariant (with_cells part m)

      module _ (m : Local) (at : AtHead m) where
        -- what isn't made unknown has its value still: of the frame's variables the body doesn't change it, and the
        -- frame has no others
        stays : (x : Var) → (Contains unknown x → ⊥) → m.values x ≡ l.values x
        stays x out = go (D.has x) refl
          where
            go : (b : Bool) → D.has x ≡ b → m.values x ≡ l.values x
            go true e = at.same x (λ c. out (filter-contains (is_listed s.vars) changes x c (u.listed x e)))
            go false e =
                is_some-false (m.values x) (at.domain.variables x ∙ e)
                ∙ sym (is_some-false (l.values x) (has.variables x ∙ e))

        abbrev v : ℕ → Value
        v = renewed s goal.todo shape.below shape.vars unknown w l m l.cells taken h stays

        vars : AllByRecursion (Agrees v m.values) now.vars
        vars = renewed-vars s goal.todo shape.below shape.vars unknown w l m l.cells taken h stays

        apart : AllByRecursion (Differ v) s.apart
        apart = renewed-apart s goal.todo shape.below shape.vars unknown w l m l.cells taken h stays

        values : HaveValues V v to (value_in m)
        values = terms-values d D now fresh v m at.domain vars

        -- the invariant and a test that is true are assumed
        assumed : (b : Test Expr) (todo : List Item) → ReadsTest D b → IsTrueOf (look m) b → IsBody todo
            → AddsHold v (to_add q to (d.ordered invariant) ++ (to_add_test q to b ++ todo)) at.part
        assumed b todo reads true_ i =
            adding-holds v q (pending_assertion to (d.ordered invariant)) (to_add_test q to b ++ todo) at.part
            (star-of (splits-empty_right empty-holds)
            (usable-assumed d V invariant u.todo.0.1 v to (value_in m) at.part values at.holds)
            (adding-holds v q (pending_test q to b) todo empty_map
            (body-holds v todo empty_map i
            (test-holds v V q to (value_in m) b empty_map values (test-within D b reads) true_ empty-holds))))

        -- the body runs once, from the invariant alone
        runs-once : (n : ℕ) → IsTrueOf (look m) t
            → LocalSafe d.program n (Satisfies invariant) (items body) (with_cells at.part m)
        runs-once n true_ =
            let ending = again q invariant ∷ [] in
            let does = once n v D (with_cells at.part m) empty_map once-suits
            (record { variables = at.domain.variables; tokens = at.domain.tokens })
            (record {
              vars = vars;
              apart = apart;
              disjoint = (splits-empty_right {map = at.part} empty-holds).apart;
              there = star-of (splits-empty_left empty-holds) empty-holds
                  (assumed t (to_run body ++ ending) u.todo.0.0 true_ (body-run body ending tt));
              gone = empty-holds;
            }) in
            subst (λ ss. LocalSafe d.program n (Satisfies invariant) ss (with_cells at.part m)) (items-none body)
            (subst₂ (λ e ss. LocalSafe d.program n e ss (with_cells at.part m)) (owed-run body ending)
            (steps-run body ending)
            (body-does d.program n v (to_run body ++ ending) (with_cells at.part m) (body-run body ending tt)
            (adding-does d.program n v q (pending_test q to t) (to_run body ++ ending) (with_cells at.part m)
            (adding-does d.program n v q (pending_assertion to (d.ordered invariant))
            (to_add_test q to t ++ (to_run body ++ ending)) (with_cells at.part m) does))))

        -- what comes after it is done
        goes-on : (n : ℕ) → IsTrueOf (look m) (negation ENil t) → LocalSafe d.program n (Owed rest) (steps rest) m
        goes-on n true_ =
            body-does d.program n v rest m form
            (adding-does d.program n v q (pending_test q to (negation ENil t)) rest m
            (adding-does d.program n v q (pending_assertion to (d.ordered invariant))
            (to_add_test q to (negation ENil t) ++ rest) m
            (after n v D m empty_map after-suits at.domain (record {
              vars = vars;
              apart = apart;
              disjoint = (splits-empty_right {map = m.cells} empty-holds).apart;
              there = star-of (splits-comm at.splits)
                  (renewed-atoms s goal.todo shape.below shape.vars unknown w l m l.cells taken h stays l.cells
                  (star-drop_right h.there))
                  (assumed (negation ENil t) rest (negated t u.todo.0.0) true_ form);
              gone = empty-holds;
            }))))
          where
            negated : (b : Test Expr) → ReadsTest D b → ReadsTest D (negation ENil b)
            negated True r = (tt, tt)
            negated (Equal x y) r = r
            negated (Unequal x y) r = r

      -- a frame that has run the body is at the head again
      module _ (m : Local) (at : AtHead m) (k : Local)
          (b : Beside (Keeping d.program (λ x. Contains changes x) (Satisfies invariant) (items body)
          (with_cells at.part m)) (only_cells l.cells) k) where
        abbrev kept : Kept (λ x. Contains changes x) (left_variables d.program (items body)) (left_tokens
            (items body))
            (with_cells at.part m) b.part
        kept = b.holds.1

        as_part : k.values ≡ b.part.values
        as_part = splits-of_empty_right empty-holds b.parts.values

        as_part-at : (x : Var) → k.values x ≡ b.part.values x
        as_part-at x = ap (λ z. z x) as_part

        none : left_variables d.program (items body) ≡ nothing_gone
        none = ap (left_variables d.program) (sym (items-none body)) ∙ left-variables_items d.program body []

        lost : left_tokens (items body) ≡ nothing_lost
        lost = ap left_tokens (sym (items-none body)) ∙ left-tokens_items body []

        back : AtHead k
        back = record {
          domain = record {
            variables = λ x. ap is_some (as_part-at x) ∙ kept.domain x
                ∙ ap (λ g. not (g x) && is_some (m.values x)) none ∙ at.domain.variables x;
            tokens = λ r. ap (λ z. is_some (z r)) (splits-of_empty_right empty-holds b.parts.tokens) ∙ kept.tokens r
                ∙ ap (λ g. not (g r) && is_some (m.tokens r)) lost ∙ at.domain.tokens r;
          };
          same = λ x n. as_part-at x ∙ kept.same x (ap (λ g. g x) none) n ∙ at.same x n;
          part = b.part.cells;
          splits = b.parts.cells;
          holds = subst (λ vs. Sat invariant.level (value (λ x. unwrap_or (vs x) nil)) (λ n. nil) b.part.cells)
              (sym as_part) b.holds.0;
        }

      -- so the loop runs for any number of events
      runs : (n : ℕ) (m : Local) → AtHead m → LocalSafe d.program n (Owed rest) loops m
      runs zero m at = tt
      runs (suc n) m at = record {
        reads = domain-test D m at.domain t u.todo.0.0;
        this = λ true_.
            let A : Var → Type 0 = λ x. Contains changes x in
            local-append d.program n
            (Beside (Keeping d.program A (Satisfies invariant) (items body) (with_cells at.part m))
            (only_cells l.cells))
            (Owed rest) (items body) loops m (λ k b. runs n k (back m at k b))
            (local-frame d.program n
            (Keeping d.program A (Satisfies invariant) (items body) (with_cells at.part m)) (items body)
            (with_cells at.part m) m (only_cells l.cells)
            (record {
              values = splits-empty_right empty-holds;
              cells = at.splits;
              tokens = splits-empty_right empty-holds;
            })
            (keep d.program A n (Satisfies invariant) (items body) (with_cells at.part m) touches
            (runs-once m at n true_)));
        that = λ false_. goes-on m at n (negation-true (value_in m) t false_);
      }
        where
          touches : (x : Var) → Touches d.program (items body) x → Contains changes x
          touches x i = u.todo.0.2 x (block-assigned d.program body x (within (touches-items d.program body [] x
              (subst (λ ss. Touches d.program ss x) (sym (items-none body)) i))))
            where
              within : BlockTouches d.program body x ⊎ ⊥ → BlockTouches d.program body x
              within (inl y) = y
              within (inr y) = absurd y

    pub around-claims : HasShape goal → Claim d (body_once d now q t invariant body)
        → Claim d (after_loop d now q t invariant rest)
        → Claim d goal
    around-claims shape once after n w D l taken u has h = λ part whole holds splits.
        runs once after shape D u w l taken has h n (with_cells whole l) (record {
          domain = record { variables = has.variables; tokens = has.tokens };
          same = λ x i. refl;
          part = part;
          splits = splits;
          holds = holds;
        })
