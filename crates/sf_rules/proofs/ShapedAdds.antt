-- The row of what is assumed keeps the shape of goals: add.
-- Names: `WHAT-meets` of operands that are met, `added-keeps` by what is in front, `add-keeps`.
use Rattle.std.specs.List.{AllByRecursion}
use Rattle.std.specs.Option.{option_map}
use Rattle.std.proofs.Common.{◌≡◌, ℕ, ◌+◌, ◌≤◌, get_or, Option, Some, None, List, [], ◌∷◌, ◌++◌, length, refl, sym, ◌∙◌, subst, arith, inl, inr}
use Rattle.std.proofs.lemmas.Option.{same_Some}
use Rattle.sf_base.specs.declared.ids.FieldId.{FieldId}
use Rattle.sf_base.specs.declared.limits.TheConstants.{FIELDS}
use Rattle.sf_base.specs.declared.place.Place.{Place}
use Rattle.sf_core.specs.Assertions.Occurs.{OccursInAll, OccursInOne}
use Rattle.sf_core.specs.declared.assertion.Operand.{Operand}
use Rattle.sf_core.specs.declared.assertion.Operand.TheVariants.{Known, Exists}
use Rattle.sf_core.specs.declared.assertion.Test.TheVariants.{True, Equal, Differ}
use Rattle.sf_core.specs.Program.Syntax.{Conjunct, holds, points, segment, doubly, tree, choose, Conjuncts, none, also}
use Rattle.sf_produce.specs.Add.{add_first, add_row, added, goal_after, met, met_both, met_existential, met_fields, met_four}
use Rattle.sf_rules.specs.Checked.Lemmas.FewNew.{few-existentials, few-one}
use Rattle.sf_rules.specs.First.{links_of}
use Rattle.sf_rules.specs.Setting.{Setting}
use Rattle.sf_rules.proofs.Fitting.{adding-below, adding-fits}
use Rattle.sf_rules.proofs.FittingStates.{StateShaped, atom-shaped, cell-shaped, symbols-shaped}
use Rattle.sf_rules.proofs.OperandsBelow.{Bound, OperandBelow, OperandsBelow, bound-more, bound-set, operand-one, operands-fields}
use Rattle.sf_rules.proofs.ShapedGoals.{AllKeep, Keeps, Rises, apart-keeps, equal-keeps, goal-shaped, one-keeps, rises-none, state-shaped}
use Rattle.sf_rules.proofs.Fits.{ConjunctFits, ConjunctsFit, IsFitting, ItemsFit}
use Rattle.sf_sym.specs.Below.{AllInItem, AllPaired, IsBelow}
use Rattle.sf_sym.specs.Cells.{with_atom, with_cell}
use Rattle.sf_sym.specs.declared.atom.Atom.TheVariants.{Ls, Tree, Dll}
use Rattle.sf_sym.specs.declared.term.Term.{Term}
use Rattle.sf_sym.specs.declared.term.Term.TheVariants.{Sym}
use Rattle.sf_sym.specs.Equalities.{assumed_apart, assumed_equal}
use Rattle.sf_sym.specs.Fields.{put_term}
use Rattle.sf_sym.specs.Goal.{Item, add, Goal, adding}
use Rattle.sf_sym.specs.Checked.Lemmas.Below.{below-more, below-symbol, items-weaker, paired-weaker, put-all}
use Rattle.sf_sym.specs.Pending.{Pending, existentials_in, one_if_existential}
use Rattle.sf_sym.specs.State.{State}

-- OPERANDS THAT ARE MET
-- a state after operands were met, which may have made so many symbols, and what existentials stand for then
pub record Meets (d : Setting) (s : State) (count : ℕ) (s2 : State) (bindings : List (Option Term)) : Type 0 where
  pub shaped : StateShaped d s2
  pub bound : Bound s2.next_sym bindings
  pub kept : s.next_sym ≤ s2.next_sym
  pub symbols : s2.next_sym ≤ s.next_sym + count
  pub atoms : s2.next_atom ≡ s.next_atom

module _ (d : Setting) where
  existential-meets : (s : State) (bindings : List (Option Term)) (n : ℕ) → StateShaped d s → Bound s.next_sym bindings
      → (o : Option Term) → get_or bindings n None ≡ o
      → Meets d s 1 (met_existential s bindings n o).state (met_existential s bindings n o).bindings
      × IsBelow (met_existential s bindings n o).state.next_sym (met_existential s bindings n o).term
  existential-meets s bindings n h b (Some t) e = (
    record { shaped = h; bound = b; kept = omega arith; symbols = omega arith; atoms = refl },
    b n t e,
  )
  existential-meets s bindings n h b None e =
      let fresh = below-symbol (s.next_sym + 1) s.next_sym (omega arith) in (
        record {
          shaped = symbols-shaped d s h 1;
          bound = bound-set (s.next_sym + 1) bindings n (Sym s.next_sym)
              (bound-more s.next_sym (s.next_sym + 1) bindings (omega arith) b) fresh;
          kept = omega arith;
          symbols = omega arith;
          atoms = refl;
        },
        fresh,
      )

  met-meets : (n : ℕ) (s : State) (bindings : List (Option Term)) (x : Operand Term) → StateShaped d s
      → Bound s.next_sym bindings → n ≤ s.next_sym → OperandBelow n x
      → Meets d s (one_if_existential x) (met s bindings x).state (met s bindings x).bindings
      × IsBelow (met s bindings x).state.next_sym (met s bindings x).term
  met-meets n s bindings (Known t) h b l o = (
    record { shaped = h; bound = b; kept = omega arith; symbols = omega arith; atoms = refl },
    below-more n s.next_sym l t o,
  )
  met-meets n s bindings (Exists m) h b l o = existential-meets s bindings m h b (get_or bindings m None) refl

  both-meet : (n : ℕ) (s : State) (bindings : List (Option Term)) (x y : Operand Term) → StateShaped d s
      → Bound s.next_sym bindings → n ≤ s.next_sym → OperandBelow n x → OperandBelow n y
      → Meets d s (one_if_existential x + one_if_existential y) (met_both s bindings x y).state
      (met_both s bindings x y).bindings
      × IsBelow (met_both s bindings x y).state.next_sym (met_both s bindings x y).one
      × IsBelow (met_both s bindings x y).state.next_sym (met_both s bindings x y).two
  both-meet n s bindings x y h b l o p =
      let first = met s bindings x in
      let one = met-meets n s bindings x h b l o in
      let two = met-meets n first.state first.bindings y one.0.shaped one.0.bound (omega (arith, one.0.kept)) p in (
        record {
          shaped = two.0.shaped;
          bound = two.0.bound;
          kept = omega (arith, one.0.kept, two.0.kept);
          symbols = omega (arith, one.0.symbols, two.0.symbols);
          atoms = two.0.atoms ∙ one.0.atoms;
        },
        below-more first.state.next_sym (met first.state first.bindings y).state.next_sym two.0.kept first.term one.1,
        two.1,
      )

  -- the terms of four operands that are met
  abbrev FourBelow : ℕ → State → List (Option Term) → (x b l y : Operand Term) → Type 0
  FourBelow k s bindings x b l y =
      let m = met_four s bindings x b l y in
      IsBelow k m.from × IsBelow k m.before × IsBelow k m.last × IsBelow k m.to

  four-meet : (n : ℕ) (s : State) (bindings : List (Option Term)) (x b l y : Operand Term) → StateShaped d s
      → Bound s.next_sym bindings → n ≤ s.next_sym → OperandBelow n x → OperandBelow n b → OperandBelow n l
      → OperandBelow n y
      → Meets d s 4 (met_four s bindings x b l y).state (met_four s bindings x b l y).bindings
      × FourBelow (met_four s bindings x b l y).state.next_sym s bindings x b l y
  four-meet n s bindings x b l y h w k o p q r =
      let first = met_both s bindings x b in
      let second = met_both first.state first.bindings l y in
      let one = both-meet n s bindings x b h w k o p in
      let two = both-meet n first.state first.bindings l y one.0.shaped one.0.bound (omega (arith, k, one.0.kept)) q r in
      let later = below-more first.state.next_sym second.state.next_sym two.0.kept in (
        record {
          shaped = two.0.shaped;
          bound = two.0.bound;
          kept = omega (arith, one.0.kept, two.0.kept);
          symbols =
              let a = few-one x in
              let c = few-one b in
              let e = few-one l in
              let f = few-one y in
              omega (arith, one.0.symbols, two.0.symbols, a, c, e, f);
          atoms = two.0.atoms ∙ one.0.atoms;
        },
        (later first.one one.1, later first.two one.2, two.1, two.2),
      )

  fields-meet : (n : ℕ) (s : State) (bindings : List (Option Term)) (fs : List (FieldId × Operand Term))
      (made : List (FieldId × Term)) → StateShaped d s → Bound s.next_sym bindings → n ≤ s.next_sym
      → OperandsBelow n fs → AllPaired (IsBelow s.next_sym) made
      → Meets d s (existentials_in fs) (met_fields s bindings fs made).state (met_fields s bindings fs made).bindings
      × AllPaired (IsBelow (met_fields s bindings fs made).state.next_sym) (met_fields s bindings fs made).fields
  fields-meet n s bindings [] made h b l o m = (
    record { shaped = h; bound = b; kept = omega arith; symbols = omega arith; atoms = refl },
    m,
  )
  fields-meet n s bindings (f ∷ fs) made h b l o m =
      let first = met s bindings f.1 in
      let one = met-meets n s bindings f.1 h b l o.0 in
      let more = put-all (IsBelow first.state.next_sym) f.0 first.term made one.1
      (paired-weaker (IsBelow s.next_sym) (IsBelow first.state.next_sym)
      (below-more s.next_sym first.state.next_sym one.0.kept) made m) in
      let rest = fields-meet n first.state first.bindings fs (put_term f.0 first.term made) one.0.shaped one.0.bound
      (omega (arith, one.0.kept)) o.1 more in (
        record {
          shaped = rest.0.shaped;
          bound = rest.0.bound;
          kept = omega (arith, one.0.kept, rest.0.kept);
          symbols = omega (arith, one.0.symbols, rest.0.symbols);
          atoms = rest.0.atoms ∙ one.0.atoms;
        },
        rest.1,
      )

-- WHAT IS ASSUMED
-- what is to be assumed first, and then
pub record Assuming (d : Setting) (s : State) (bindings : List (Option Term)) (c : Conjunct Term)
    (cs : Conjuncts Term) (rest : List Item) : Type 0 where
  pub shaped : StateShaped d s
  pub bound : Bound s.next_sym bindings
  pub first : (t : Term) → OccursInOne c (Known t) → IsBelow s.next_sym t
  pub others : (t : Term) → OccursInAll cs (Known t) → IsBelow s.next_sym t
  pub fits : ConjunctFits (links_of d.program) c
  pub others_fit : ConjunctsFit (links_of d.program) cs
  pub rest_below : AllByRecursion (AllInItem (IsBelow s.next_sym)) rest
  pub rest_fits : ItemsFit d rest

module _ (d : Setting) (s : State) (p : Place) (bindings : List (Option Term)) (cs : Conjuncts Term)
    (rest : List Item) where
  -- the goal with the others still to be assumed
  after-shaped : (c : Conjunct Term) → Assuming d s bindings c cs rest → (s2 : State)
      (bindings2 : List (Option Term)) → StateShaped d s2 → Bound s2.next_sym bindings2
      → s.next_sym ≤ s2.next_sym → IsFitting d (goal_after s2 p cs bindings2 rest)
  after-shaped c a s2 bindings2 h b l =
      let given : Pending = record { conjuncts = cs; bindings = bindings2 } in
      goal-shaped d s2 (adding p given ++ rest) h
      (adding-below (IsBelow s2.next_sym) p given rest
      (record { conjuncts = λ t o. below-more s.next_sym s2.next_sym l t (a.others t o); bindings = b })
      (items-weaker (IsBelow s.next_sym) (IsBelow s2.next_sym) (below-more s.next_sym s2.next_sym l) rest a.rest_below))
      (adding-fits d p given rest a.others_fit a.rest_fits)

  -- in that state
  after-keeps : (c : Conjunct Term) → Assuming d s bindings c cs rest → (s2 : State)
      (bindings2 : List (Option Term)) → StateShaped d s2 → Bound s2.next_sym bindings2 → Rises s s2
      → Keeps d s (goal_after s2 p cs bindings2 rest)
  after-keeps c a s2 bindings2 h b r =
      record { shaped = after-shaped c a s2 bindings2 h b r.kept; symbols = r.symbols; atoms = r.atoms }

  -- two sides that are met
  sides-meet : (x y : Operand Term) (c : Conjunct Term) → Assuming d s bindings c cs rest
      → ((t : Term) → Known t ≡ x → OccursInOne c (Known t)) → ((t : Term) → Known t ≡ y → OccursInOne c (Known t))
      → Meets d s (one_if_existential x + one_if_existential y) (met_both s bindings x y).state
      (met_both s bindings x y).bindings
      × IsBelow (met_both s bindings x y).state.next_sym (met_both s bindings x y).one
      × IsBelow (met_both s bindings x y).state.next_sym (met_both s bindings x y).two
  sides-meet x y c a i j =
      both-meet d s.next_sym s bindings x y a.shaped a.bound (omega arith)
      (operand-one s.next_sym x (λ t e. a.first t (i t e))) (operand-one s.next_sym y (λ t e. a.first t (j t e)))

  meets-rise : (k : ℕ) (s2 : State) (bindings2 : List (Option Term)) → Meets d s k s2 bindings2 → k ≤ 1000 → (s3 : State)
      → s3.next_sym ≡ s2.next_sym → s3.next_atom ≤ s2.next_atom + 1 → Rises s s3
  meets-rise k s2 bindings2 m l s3 e f = record {
    kept = omega (arith, m.kept, e);
    symbols = omega (arith, m.symbols, e);
    atoms = omega (arith, m.atoms, f);
  }

  sides-few : (x y : Operand Term) → one_if_existential x + one_if_existential y ≤ 1000
  sides-few x y = let one = few-one x in let two = few-one y in omega (arith, one, two)

  -- something is known of two sides that are met
  sides-keep : (x y : Operand Term) (c : Conjunct Term) → Assuming d s bindings c cs rest
      → ((t : Term) → Known t ≡ x → OccursInOne c (Known t)) → ((t : Term) → Known t ≡ y → OccursInOne c (Known t))
      → (known : (t u : Term) → Goal → Goal)
      →
      ((t u : Term) (goal : Goal) → IsFitting d goal → (before : State) → IsBelow goal.state.next_sym t
      → IsBelow goal.state.next_sym u → Rises before goal.state → Keeps d before (known t u goal))
      → (child : Goal) → (let m = met_both s bindings x y in
      Some (known m.one m.two (goal_after m.state p cs m.bindings rest)) ≡ Some child) → Keeps d s child
  sides-keep x y c a i j known keeps child e =
      let m = met_both s bindings x y in
      let k = sides-meet x y c a i j in
      subst (Keeps d s) (same_Some _ child e)
      (keeps m.one m.two (goal_after m.state p cs m.bindings rest)
      (after-shaped c a m.state m.bindings k.0.shaped k.0.bound k.0.kept) s k.1 k.2
      (meets-rise (one_if_existential x + one_if_existential y) m.state m.bindings k.0 (sides-few x y) m.state refl
      (omega arith)))

  added-keeps : (c : Conjunct Term) (child : Goal) → Assuming d s bindings c cs rest
      → added s p bindings c cs rest ≡ Some child → Keeps d s child
  added-keeps (holds q True) child a e =
      subst (Keeps d s) (same_Some _ child e)
      (after-keeps (holds q True) a s bindings a.shaped a.bound (rises-none s s refl refl))
  added-keeps (holds q (Equal x y)) child a e =
      sides-keep x y (holds q (Equal x y)) a (λ t i. inl i) (λ t i. inr i) assumed_equal (equal-keeps d) child e
  added-keeps (holds q (Differ x y)) child a e =
      sides-keep x y (holds q (Differ x y)) a (λ t i. inl i) (λ t i. inr i) assumed_apart (apart-keeps d) child e
  added-keeps (points q x fs) child a e =
      let c = points q x fs in
      let root = met s bindings x in
      let m = met_fields root.state root.bindings fs [] in
      let one = met-meets d s.next_sym s bindings x a.shaped a.bound (omega arith)
      (operand-one s.next_sym x (λ t i. a.first t (inl i))) in
      let two = fields-meet d s.next_sym root.state root.bindings fs [] one.0.shaped one.0.bound
      (omega (arith, one.0.kept)) (operands-fields s.next_sym fs (λ t o. a.first t (inr o))) tt in
      let few = few-existentials fs in
      let only = few-one x in
      let fit : length fs ≤ FIELDS = a.fits in
      subst (Keeps d s) (same_Some _ child e)
      (after-keeps c a (with_cell m.state root.term m.fields) m.bindings
      (cell-shaped d m.state two.0.shaped root.term m.fields
      (below-more root.state.next_sym m.state.next_sym two.0.kept root.term one.1) two.1) two.0.bound
      (record {
        kept = omega (arith, one.0.kept, two.0.kept);
        symbols = omega (arith, one.0.symbols, two.0.symbols, few, only, fit);
        atoms = omega (arith, one.0.atoms, two.0.atoms);
      }))
  added-keeps (segment q next x y) child a e =
      let c = segment q next x y in
      let m = met_both s bindings x y in
      let k = sides-meet x y c a (λ t i. inl i) (λ t i. inr i) in
      subst (Keeps d s) (same_Some _ child e)
      (after-keeps c a (with_atom (Ls m.one m.two) m.state) m.bindings
      (atom-shaped d m.state k.0.shaped (Ls m.one m.two) (k.1, k.2) a.fits) k.0.bound
      (meets-rise (one_if_existential x + one_if_existential y) m.state m.bindings k.0 (sides-few x y)
      (with_atom (Ls m.one m.two) m.state) refl (omega arith)))
  added-keeps (doubly q next back x b l y) child a e =
      let c = doubly q next back x b l y in
      let m = met_four s bindings x b l y in
      let k = four-meet d s.next_sym s bindings x b l y a.shaped a.bound (omega arith)
      (operand-one s.next_sym x (λ t i. a.first t (inl i)))
      (operand-one s.next_sym b (λ t i. a.first t (inr (inl i))))
      (operand-one s.next_sym l (λ t i. a.first t (inr (inr (inl i)))))
      (operand-one s.next_sym y (λ t i. a.first t (inr (inr (inr i))))) in
      let x2 = Dll m.from m.before m.last m.to in
      subst (Keeps d s) (same_Some _ child e)
      (after-keeps c a (with_atom x2 m.state) m.bindings (atom-shaped d m.state k.0.shaped x2 k.1 a.fits) k.0.bound
      (meets-rise 4 m.state m.bindings k.0 (omega arith) (with_atom x2 m.state) refl (omega arith)))
  added-keeps (tree q l r x) child a e =
      let c = tree q l r x in
      let m = met s bindings x in
      let k = met-meets d s.next_sym s bindings x a.shaped a.bound (omega arith)
      (operand-one s.next_sym x (λ t i. a.first t i)) in
      let only = few-one x in
      subst (Keeps d s) (same_Some _ child e)
      (after-keeps c a (with_atom (Tree m.term) m.state) m.bindings
      (atom-shaped d m.state k.0.shaped (Tree m.term) k.1 a.fits) k.0.bound
      (meets-rise (one_if_existential x) m.state m.bindings k.0 (omega (arith, only))
      (with_atom (Tree m.term) m.state) refl (omega arith)))
  added-keeps (choose q t this that) child a e = absurd (cc)

-- the goal before, by what there is to assume
assuming : (d : Setting) (s : State) (p : Place) (given : Pending) (c : Conjunct Term) (cs : Conjuncts Term)
    (rest : List Item) → IsFitting d (record { state = s; todo = add p given ∷ rest }) → given.conjuncts ≡ also c cs
    → Assuming d s given.bindings c cs rest
assuming d s p given c cs rest h e =
    let b = h.below.todo.0 in
    let fits = subst (ConjunctsFit (links_of d.program)) e h.todo.1 in
    record {
      shaped = state-shaped d (record { state = s; todo = add p given ∷ rest }) h;
      bound = b.bindings;
      first = λ t o. b.conjuncts t (subst (λ z. OccursInAll z (Known t)) (sym e) (inl o));
      others = λ t o. b.conjuncts t (subst (λ z. OccursInAll z (Known t)) (sym e) (inr o));
      fits = fits.0;
      others_fit = fits.1;
      rest_below = h.below.todo.1;
      rest_fits = h.todo.2;
    }

module _ (d : Setting) (s : State) (p : Place) (given : Pending) (rest : List Item) (left : List Goal)
    (h : IsFitting d (record { state = s; todo = add p given ∷ rest })) where
  pub add-keeps : add_row s p given rest ≡ Some left → AllKeep d s left
  add-keeps row = first given.conjuncts refl row
    where
      go : (m : Option Goal) → ((child : Goal) → m ≡ Some child → Keeps d s child)
          → option_map (λ (g : Goal). g ∷ []) m ≡ Some left → AllKeep d s left
      go None k e = absurd (cc)
      go (Some child) k e = one-keeps d s child left e (k child refl)

      first : (cs : Conjuncts Term) → given.conjuncts ≡ cs
          → option_map (λ (g : Goal). g ∷ []) (add_first s p given.bindings cs rest) ≡ Some left → AllKeep d s left
      first none i e = absurd (cc)
      first (also c cs) i e =
          go (added s p given.bindings c cs rest) (λ child j.
          added-keeps d s p given.bindings cs rest c child (assuming d s p given c cs rest h i) j) e
