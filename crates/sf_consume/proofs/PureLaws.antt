-- Bind, same, apart, empty: what is wanted of no heap.
-- Names: `ROW_keeps_wants` is the law of that row.
use Rattle.std.specs.Option.{option_and_then, option_map}
use Rattle.std.specs.Prelude.{◌⊎◌}
use Rattle.std.proofs.Common.{◌≡◌, ℕ, ◌<◌, Bool, true, ◌&&◌, cond, List, Option, Some, None, length, set, refl, sym, ap, ◌∙◌, subst, inl, inr}
use Rattle.std.proofs.lemmas.Option.{cond_some, option_and_then_some, same_Some}
use Rattle.sf_base.proofs.Bools.{and-left, and-right}
use Rattle.sf_base.proofs.MapSplits.{empty_map, empty-holds}
use Rattle.sf_base.proofs.Options.{option_map-some}
use Rattle.sf_base.specs.declared.ids.Var.{Var}
use Rattle.sf_base.specs.declared.place.Place.{Place}
use Rattle.sf_base.specs.declared.value.Value.{Value}
use Rattle.sf_base.specs.HeapStore.{Heap}
use Rattle.sf_core.specs.Assertions.Occurs.{OccursInOne}
use Rattle.sf_core.specs.Assertions.Sat.{SatOne, empty, end, leaf, operand}
use Rattle.sf_core.specs.declared.assertion.Operand.{Operand}
use Rattle.sf_core.specs.declared.assertion.Test.TheVariants.{Equal}
use Rattle.sf_core.specs.Program.Syntax.{Conjunct, holds, points, segment, doubly, tree, choose, Conjuncts, also}
use Rattle.sf_consume.proofs.Bindings.{Binds, binds-either}
use Rattle.sf_consume.proofs.DoubleTerms.{double-sat, four-are}
use Rattle.sf_consume.proofs.Handing.{both-are, by_first, formed-rest, nothing_handed, wanting_first}
use Rattle.sf_consume.proofs.WantedFirst.{equality-is, inequality-is}
use Rattle.sf_consume.specs.Checked.Laws.{alone, Subtracts, BindKeepsWants, SameKeepsWants, ApartKeepsWants, EmptyKeepsWants}
use Rattle.sf_consume.specs.Subtract.{Want, bind_step, same_step, apart_step, empty_step, binding, both, equality, four, inequality, removed, removed_if, wanted_shape}
use Rattle.sf_consume.specs.Wants.{IsFormed}
use Rattle.sf_sym.specs.Checked.Lemmas.Bindings.{operand-below, operand-is, set-all, set-here, set-keeps, set-length}
use Rattle.sf_sym.specs.Formed.{IsCounted, OneFormed, AllFormed}
use Rattle.sf_sym.specs.Checked.Lemmas.{same_term_is}
use Rattle.sf_sym.specs.Checked.Lemmas.Decided.{differ-in}
use Rattle.sf_sym.specs.Below.{IsBelow}
use Rattle.sf_sym.specs.Decided.{term_of}
use Rattle.sf_sym.specs.declared.atom.Atom.{Atom}
use Rattle.sf_sym.specs.declared.atom.Atom.TheVariants.{Ls, Tree, Dll}
use Rattle.sf_sym.specs.declared.term.Term.{Term}
use Rattle.sf_sym.specs.declared.term.Term.TheVariants.{Nil}
use Rattle.sf_sym.specs.Holds.{term_value, IsBound}
use Rattle.sf_sym.specs.HoldsIn.{HoldsIn}
use Rattle.sf_sym.specs.Known.{is_nothing}
use Rattle.sf_sym.specs.State.{State}
use Rattle.sf_sym.specs.Tests.{differs, same_term}

-- a row that removes a conjunct where something is so
removed-where : (b : Bool) (s : State) (bindings : List (Option Term)) (c : Conjunct Term) (cs : Conjuncts Term)
    (after : Want)
    → IsFormed (wanting_first s bindings c cs)
    → cond b (Some (removed s bindings cs)) None ≡ Some after
    →
    (b ≡ true
    → (w some : ℕ → Value) (f : Var → Option Value) (free taken : Heap) → HoldsIn w (alone s) f free taken
    → IsBound w bindings some → SatOne c (term_value w) some empty_map)
    → Subtracts (wanting_first s bindings c cs) after
removed-where b s bindings c cs after formed row one =
    let (so, same) = cond_some b (removed s bindings cs) after row in
    subst (Subtracts (wanting_first s bindings c cs)) same
    (nothing_handed s bindings bindings c cs formed (formed-rest s bindings c cs formed)
    (λ w some f free taken h bound. (bound, one so w some f free taken h bound)))

-- the two sides of an equality have the value of one term
same-one : (bindings : List (Option Term)) (x y : Operand Term) (e : Term × Term)
    → both bindings x y ≡ Some e → same_term e.0 e.1 ≡ true → (w some : ℕ → Value) → IsBound w bindings some
    → operand (term_value w) some x ≡ operand (term_value w) some y
same-one bindings x y e found same w some bound =
    let (one, two) = both-are bindings x y e found in
    operand-is w some bindings x e.0 bound one ∙ ap (term_value w) (same_term_is e.0 e.1 same)
    ∙ sym (operand-is w some bindings y e.1 bound two)

pub same_keeps_wants : SameKeepsWants
unfolding SameKeepsWants
same_keeps_wants = by_first same_step (λ s bindings c cs after formed row.
    option_and_then_some (removed_if same_term s bindings cs)
    (option_and_then (λ e. both bindings e.0 e.1) (equality c)) after row
    (λ e found left. option_and_then_some (λ e. both bindings e.0 e.1) (equality c) e found
    (λ sides wanted terms. let (q, is) = equality-is c sides wanted in
    removed-where (same_term e.0 e.1) s bindings c cs after formed left
    (λ same w some f free taken h bound. subst (λ d. SatOne d (term_value w) some empty_map) (sym is)
    (empty-holds, same-one bindings sides.0 sides.1 e terms same w some bound)))))

pub apart_keeps_wants : ApartKeepsWants
unfolding ApartKeepsWants
apart_keeps_wants = by_first apart_step (λ s bindings c cs after formed row.
    option_and_then_some (removed_if (differs s) s bindings cs)
    (option_and_then (λ e. both bindings e.0 e.1) (inequality c)) after row
    (λ e found left. option_and_then_some (λ e. both bindings e.0 e.1) (inequality c) e found
    (λ sides wanted terms. let (q, is) = inequality-is c sides wanted in
    let (one, two) = both-are bindings sides.0 sides.1 e terms in
    removed-where (differs s e.0 e.1) s bindings c cs after formed left
    (λ differ w some f free taken h bound. subst (λ d. SatOne d (term_value w) some empty_map) (sym is) (
      empty-holds,
      λ i. differ-in w (alone s) f free taken h e.0 e.1 differ
          (sym (operand-is w some bindings sides.0 e.0 bound one) ∙ i
          ∙ operand-is w some bindings sides.1 e.1 bound two),
    )))))

-- one side of an equality is an existential, which gets the term of the other side
bind-one : (s : State) (bindings : List (Option Term)) (c : Conjunct Term) (cs : Conjuncts Term) (x y : Operand Term)
    (n : ℕ) (t : Term)
    → IsFormed (wanting_first s bindings c cs) → OccursInOne c x → OccursInOne c y
    → (OneFormed s.links (length bindings) c → IsCounted (length bindings) x)
    → Binds bindings x y n t
    →
    ((w some : ℕ → Value) → operand (term_value w) some x ≡ operand (term_value w) some y
    → SatOne c (term_value w) some empty_map)
    → Subtracts (wanting_first s bindings c cs) (removed s (set bindings n (Some t)) cs)
bind-one s bindings c cs x y n t formed at_x at_y counted binds sat =
    let within : n < length bindings =
    subst (IsCounted (length bindings)) binds.is (counted formed.conjuncts.0) in
    nothing_handed s bindings (set bindings n (Some t)) c cs formed
    (record {
      state = formed.state;
      terms = record {
        conjuncts = λ u o. formed.terms.conjuncts u (inr o);
        bindings = set-all bindings n t (IsBelow s.next_sym) within
            (operand-below s.next_sym bindings (also c cs) y t formed.terms (inl at_y) binds.term)
            formed.terms.bindings;
      };
      conjuncts = subst (λ k. AllFormed s.links k cs) (sym (set-length bindings n t)) formed.conjuncts.1;
    })
    (λ w some f free taken h bound.
    let old : IsBound w bindings some = λ m u e. bound m u (set-keeps bindings n t binds.free m u e) in (
      old,
      sat w some
          (ap (operand (term_value w) some) binds.is ∙ bound n t (set-here bindings n t within)
          ∙ sym (operand-is w some bindings y t old binds.term)),
    ))

pub bind_keeps_wants : BindKeepsWants
unfolding BindKeepsWants
bind_keeps_wants = by_first bind_step (λ s bindings c cs after formed row.
    option_and_then_some
    (λ e. option_map (λ b. removed s (set bindings b.0 (Some b.1)) cs) (binding bindings e.0 e.1)) (equality c) after row
    (λ sides wanted left. let (q, is) = equality-is c sides wanted in
    go s bindings c cs after sides.0 sides.1 q is formed (binding bindings sides.0 sides.1) refl left))
  where
    go : (s : State) (bindings : List (Option Term)) (c : Conjunct Term) (cs : Conjuncts Term) (after : Want)
        (x y : Operand Term) (q : Place) → c ≡ holds q (Equal x y) → IsFormed (wanting_first s bindings c cs)
        → (o : Option (ℕ × Term)) → binding bindings x y ≡ o
        → option_map (λ b. removed s (set bindings b.0 (Some b.1)) cs) o ≡ Some after
        → Subtracts (wanting_first s bindings c cs) after
    go s bindings c cs after x y q is formed None i e = absurd (cc)
    go s bindings c cs after x y q is formed (Some b) i e =
        subst (Subtracts (wanting_first s bindings c cs)) (same_Some _ after e)
        (subst (λ d. IsFormed (wanting_first s bindings d cs)
        → Subtracts (wanting_first s bindings d cs) (removed s (set bindings b.0 (Some b.1)) cs)) (sym is)
        (λ formed. either formed (binds-either bindings x y b i)) formed)
      where
        either : IsFormed (wanting_first s bindings (holds q (Equal x y)) cs)
            → Binds bindings x y b.0 b.1 ⊎ Binds bindings y x b.0 b.1
            → Subtracts (wanting_first s bindings (holds q (Equal x y)) cs)
            (removed s (set bindings b.0 (Some b.1)) cs)
        either formed (inl binds) =
            bind-one s bindings (holds q (Equal x y)) cs x y b.0 b.1 formed (inl refl) (inr refl) (λ k. k.0) binds
            (λ w some same. (empty-holds, same))
        either formed (inr binds) =
            bind-one s bindings (holds q (Equal x y)) cs y x b.0 b.1 formed (inr refl) (inl refl) (λ k. k.1) binds
            (λ w some same. (empty-holds, sym same))

-- a wanted segment or tree that is nothing holds on nothing
nothing-sat : (bindings : List (Option Term)) (c : Conjunct Term) (x : Atom)
    → wanted_shape bindings c ≡ Some x → is_nothing x ≡ true → (w some : ℕ → Value)
    → IsBound w bindings some → SatOne c (term_value w) some empty_map
nothing-sat bindings (holds q t) x i n w some bound = absurd (cc)
nothing-sat bindings (points q y fs) x i n w some bound = absurd (cc)
nothing-sat bindings (segment q next y z) x i n w some bound =
    let (e, found, is) = option_map-some (λ (e : Term × Term). Ls e.0 e.1) (both bindings y z) x i in
    end (same-one bindings y z e found (ap is_nothing (sym is) ∙ n) w some bound) empty-holds
nothing-sat bindings (doubly q next back y b l z) x i n w some bound =
    let (d, found, is) = option_map-some (λ (d : Term × Term × Term × Term). Dll d.0 d.1 d.2 d.3)
    (four bindings y b l z) x i in
    let so : same_term d.0 d.3 && same_term d.1 d.2 ≡ true = ap is_nothing (sym is) ∙ n in
    double-sat w some bindings q next back y b l z d empty_map bound (four-are bindings y b l z d found)
    (empty (ap (term_value w) (same_term_is d.0 d.3 (and-left (same_term d.0 d.3) (same_term d.1 d.2) so)))
    (ap (term_value w) (same_term_is d.1 d.2 (and-right (same_term d.0 d.3) (same_term d.1 d.2) so))) empty-holds)
nothing-sat bindings (tree q left right y) x i n w some bound =
    let (t, found, is) = option_map-some Tree (term_of bindings y) x i in
    leaf (operand-is w some bindings y t bound found
    ∙ ap (term_value w) (same_term_is t Nil (ap is_nothing (sym is) ∙ n))) empty-holds
nothing-sat bindings (choose q t this that) x i n w some bound = absurd (cc)

pub empty_keeps_wants : EmptyKeepsWants
unfolding EmptyKeepsWants
empty_keeps_wants = by_first empty_step (λ s bindings c cs after formed row.
    option_and_then_some (λ x. cond (is_nothing x) (Some (removed s bindings cs)) None) (wanted_shape bindings c)
    after row
    (λ x shape left. removed-where (is_nothing x) s bindings c cs after formed left
    (λ nothing w some f free taken h bound. nothing-sat bindings c x shape nothing w some bound)))
