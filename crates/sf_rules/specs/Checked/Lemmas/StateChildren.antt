-- What the goals that the rows on states leave have of the goal before: variables and fields are in order, each variable
-- that had a term has one, nothing more was handed over, and what is to do has the same form and reads the same variables.
-- Names: `ROW-stays` of that row, `WHAT-stay` of what it makes, `WHAT-form` of the form of what is to do.
use Rattle.std.specs.List.{AllByRecursion}
use Rattle.std.specs.Option.{option_and_then, option_map}
use Rattle.std.specs.Prelude.{◌&&◌, not}
use Rattle.std.proofs.Common.{◌≡◌, ℕ, ◌+◌, Bool, true, false, cond, get_or, map, Option, Some, None, List, [], ◌∷◌, ◌++◌, refl, sym, ap, ◌∙◌, subst, inl, inr}
use Rattle.std.proofs.lemmas.Option.{same_Some}
use Rattle.sf_base.proofs.Elements.{all_by-append}
use Rattle.sf_base.specs.declared.ids.FieldId.{FieldId}
use Rattle.sf_base.specs.declared.ids.Var.{Var}
use Rattle.sf_base.specs.declared.ids.Var.{Var}
use Rattle.sf_base.specs.declared.place.Place.{Place}
use Rattle.sf_core.specs.declared.assertion.Operand.{Operand}
use Rattle.sf_core.specs.declared.assertion.Operand.TheVariants.{Known, Exists}
use Rattle.sf_core.specs.declared.assertion.Test.TheVariants.{True, Equal, Differ}
use Rattle.sf_core.specs.declared.fields.Links.{Links}
use Rattle.sf_core.specs.Program.Syntax.{Conjunct, holds, points, segment, doubly, tree, choose, Conjuncts, none, also, Program}
use Rattle.sf_normal.specs.Knowledge.{absurd_row, back_one, back_row, drop_row, force_row, split_row, unroll_row, unrolled, unrolled_double, unrolled_last, unrolled_segment, unrolled_tree}
use Rattle.sf_produce.specs.Add.{add_first, add_row, added, goal_after, met, met_both, met_existential, met_fields, met_four}
use Rattle.sf_rules.specs.HasVariables.{TodoReadsIn}
use Rattle.sf_rules.specs.Checked.Rows.Branches.{branch_row, chosen}
use Rattle.sf_rules.specs.Checked.Lemmas.CommandChildren.{IsOrdered}
use Rattle.sf_rules.specs.Checked.Lemmas.Forms.{adding-assuming, same-form, with-form}
use Rattle.sf_rules.specs.Checked.Lemmas.TodoReads.{adding-reads, with-reads}
use Rattle.sf_rules.specs.Checked.Lemmas.VariableTerms.{map-listed, map-order}
use Rattle.sf_sym.specs.Cells.{atom_at, with_atom, with_cell, without}
use Rattle.sf_sym.specs.declared.atom.Atom.{Atom}
use Rattle.sf_sym.specs.declared.atom.Atom.TheVariants.{Points, Ls, Tree, Dll}
use Rattle.sf_sym.specs.declared.atom.Numbered.{Numbered}
use Rattle.sf_sym.specs.declared.term.Term.{Term}
use Rattle.sf_sym.specs.declared.term.Term.TheVariants.{Sym}
use Rattle.sf_sym.specs.Equalities.{assumed_apart, assumed_equal, atom_with, numbered_with, put_for, state_with, which_goes, with_one}
use Rattle.sf_sym.specs.Fields.{AreAfter, AreOrdered, put_term}
use Rattle.sf_sym.specs.Goal.{Item, add, Goal, adding, one_goal}
use Rattle.sf_sym.specs.Known.{ends, forced_pair, is_nothing}
use Rattle.sf_sym.specs.Checked.Lemmas.Updates.{put-order}
use Rattle.sf_sym.specs.Checked.Lemmas.AtomLists.{without-all}
use Rattle.sf_sym.specs.Pending.{Pending}
use Rattle.sf_sym.specs.Ready.{HasOrder, is_listed}
use Rattle.sf_sym.specs.Variables.{AreInOrder}
use Rattle.sf_sym.specs.Shape.{HasForm, IsAssuming}
use Rattle.sf_sym.specs.State.{State, with_symbols}
use Rattle.sf_sym.specs.Tests.{differs, is_absurd, same_term}

-- what a state has of another one
pub record StateStays (s s2 : State) : Type 0 where
  pub ordered : IsOrdered s2
  pub listed : (x : Var) → is_listed s.vars x ≡ true → is_listed s2.vars x ≡ true
  pub taken : s.taken ≡ [] → s2.taken ≡ []

-- it has all of itself
self-stay : (s : State) → IsOrdered s → StateStays s s
self-stay s o = record { ordered = o; listed = λ x e. e; taken = λ e. e }

-- more of its atoms
abbrev Ordered : List Numbered → Type 0
Ordered atoms = AllByRecursion (λ (a : Numbered). HasOrder a.atom) atoms

one-more : (atoms : List Numbered) (a : Numbered) → Ordered atoms → HasOrder a.atom → Ordered (atoms ++ a ∷ [])
one-more atoms a o h = all_by-append (λ (a : Numbered). HasOrder a.atom) atoms (a ∷ []) o (h, tt)

-- TERMS ARE REPLACED
fields-order : (to : Term → Term) (fs : List (FieldId × Term)) → AreOrdered fs
    → AreOrdered (map (λ f. (f.0, to f.1)) fs)
fields-order to [] o = tt
fields-order to (f ∷ fs) o = (after f.0.0 fs o.0, fields-order to fs o.1)
  where
    after : (n : ℕ) (fs : List (FieldId × Term)) → AreAfter n fs → AreAfter n (map (λ f. (f.0, to f.1)) fs)
    after n [] a = tt
    after n (g ∷ gs) a = (a.0, after n gs a.1)

atoms-order : (to : Term → Term) (atoms : List Numbered) → Ordered atoms → Ordered (map (numbered_with to) atoms)
atoms-order to [] o = tt
atoms-order to (a ∷ atoms) o = (one a.atom o.0, atoms-order to atoms o.1)
  where
    one : (a : Atom) → HasOrder a → HasOrder (atom_with to a)
    one (Points t fields) o = fields-order to fields o
    one (Ls t u) o = tt
    one (Tree t) o = tt
    one (Dll t p l u) o = tt

replaced-stay : (to : Term → Term) (s : State) → IsOrdered s → StateStays s (state_with to s)
replaced-stay to s o = record {
  ordered = record { vars = map-order to s.vars o.vars; fields = atoms-order to s.atoms o.fields };
  listed = λ x e. map-listed to s.vars x ∙ e;
  taken = λ e. ap (map (numbered_with to)) e;
}

pub equal-stay : (t u : Term) (goal : Goal) (s : State) → StateStays s goal.state
    → StateStays s (assumed_equal t u goal).state
equal-stay t u goal s st = go (same_term t u)
  where
    one : (o : Option (ℕ × Term)) → StateStays s (with_one o goal).state
    one None = record {
      ordered = record { vars = st.ordered.vars; fields = st.ordered.fields };
      listed = st.listed;
      taken = st.taken;
    }
    one (Some r) =
        let m = replaced-stay (put_for r.0 r.1) goal.state st.ordered in
        record {
          ordered = m.ordered;
          listed = λ x e. m.listed x (st.listed x e);
          taken = λ e. m.taken (st.taken e);
        }

    go : (b : Bool) → StateStays s (cond b goal (with_one (which_goes t u) goal)).state
    go true = st
    go false = one (which_goes t u)

pub apart-stay : (t u : Term) (goal : Goal) (s : State) → StateStays s goal.state
    → StateStays s (assumed_apart t u goal).state
apart-stay t u goal s st = record {
  ordered = record { vars = st.ordered.vars; fields = st.ordered.fields };
  listed = st.listed;
  taken = st.taken;
}

-- WHAT IS TO DO a goal that is left has of the goal before its state's lists, and its form
pub record GoalStays (goal child : Goal) : Type 0 where
  pub state : StateStays goal.state child.state
  pub form : HasForm goal → HasForm child
  pub reads : (p : Program) (among : Var → Bool) → TodoReadsIn p among goal.todo → TodoReadsIn p among child.todo

-- where terms are replaced
equal-form : (t u : Term) (goal : Goal) → HasForm goal → HasForm (assumed_equal t u goal)
equal-form t u goal f = go (same_term t u)
  where
    one : (o : Option (ℕ × Term)) → HasForm (with_one o goal)
    one None = f
    one (Some r) =
        with-form (put_for r.0 r.1) goal (with_one (Some r) goal) refl (λ e. ap (map (numbered_with (put_for r.0 r.1))) e) f

    go : (b : Bool) → HasForm (cond b goal (with_one (which_goes t u) goal))
    go true = f
    go false = one (which_goes t u)

equal-reads : (t u : Term) (goal : Goal) (p : Program) (among : Var → Bool) → TodoReadsIn p among goal.todo
    → TodoReadsIn p among (assumed_equal t u goal).todo
equal-reads t u goal p among r = go (same_term t u)
  where
    one : (o : Option (ℕ × Term)) → TodoReadsIn p among (with_one o goal).todo
    one None = r
    one (Some m) = with-reads p (put_for m.0 m.1) goal.todo among r

    go : (b : Bool) → TodoReadsIn p among (cond b goal (with_one (which_goes t u) goal)).todo
    go true = r
    go false = one (which_goes t u)

equal_goal-stays : (t u : Term) (goal : Goal) → IsOrdered goal.state → GoalStays goal (assumed_equal t u goal)
equal_goal-stays t u goal o = record {
  state = equal-stay t u goal goal.state (self-stay goal.state o);
  form = equal-form t u goal;
  reads = equal-reads t u goal;
}

apart_goal-stays : (t u : Term) (goal : Goal) → IsOrdered goal.state → GoalStays goal (assumed_apart t u goal)
apart_goal-stays t u goal o = record {
  state = apart-stay t u goal goal.state (self-stay goal.state o);
  form = λ f. f;
  reads = λ p among r. r;
}

-- THE ROWS ON WHAT IS KNOWN
abbrev pub AllStay : Goal → List Goal → Type 0
AllStay goal left = AllByRecursion (GoalStays goal) left

one-stays : (goal child : Goal) (left : List Goal) → Some (child ∷ []) ≡ Some left → GoalStays goal child
    → AllStay goal left
one-stays goal child left e h = subst (AllStay goal) (same_Some (child ∷ []) left e) (h, tt)

pub absurd-stays : (goal : Goal) (left : List Goal) → absurd_row goal ≡ Some left → AllStay goal left
absurd-stays goal left row = go (is_absurd goal.state) row
  where
    go : (b : Bool) → cond b (Some []) None ≡ Some left → AllStay goal left
    go true e = subst (AllStay goal) (same_Some [] left e) tt
    go false e = absurd (cc)

pub drop-stays : (goal : Goal) (left : List Goal) (a : ℕ) → IsOrdered goal.state → drop_row goal a ≡ Some left
    → AllStay goal left
drop-stays goal left a o row = go (atom_at goal.state.atoms a) row
  where
    step : (b : Bool) → cond b (Some (record goal {
      state = record goal.state { atoms = without goal.state.atoms a };
    } ∷ [])) None
        ≡ Some left → AllStay goal left
    step true e = one-stays goal _ left e (record {
      state = record {
        ordered = record { vars = o.vars; fields = without-all HasOrder goal.state.atoms a o.fields };
        listed = λ x i. i;
        taken = λ i. i;
      };
      form = λ f. f;
      reads = λ p among r. r;
    })
    step false e = absurd (cc)

    go : (x : Option Atom)
        → option_and_then (λ x. cond (is_nothing x)
        (Some (record goal { state = record goal.state { atoms = without goal.state.atoms a } } ∷ [])) None) x ≡ Some
        left
        → AllStay goal left
    go None e = absurd (cc)
    go (Some x) e = step (is_nothing x) e

pub force-stays : (goal : Goal) (left : List Goal) (a : ℕ) → IsOrdered goal.state → force_row goal a ≡ Some left
    → AllStay goal left
force-stays goal left a o row = go (option_and_then (forced_pair goal.state a) (atom_at goal.state.atoms a)) row
  where
    go : (x : Option (Term × Term)) → option_map (λ e. assumed_equal e.0 e.1 goal ∷ []) x ≡ Some left
        → AllStay goal left
    go None e = absurd (cc)
    go (Some v) e = one-stays goal (assumed_equal v.0 v.1 goal) left e (equal_goal-stays v.0 v.1 goal o)

pub split-stays : (goal : Goal) (left : List Goal) (t u : Term) → IsOrdered goal.state
    → split_row goal t u ≡ Some left
    → AllStay goal left
split-stays goal left t u o row = go (not (same_term t u) && _) row
  where
    go : (b : Bool) → cond b (Some (assumed_equal t u goal ∷ assumed_apart t u goal ∷ [])) None ≡ Some left
        → AllStay goal left
    go true e = subst (AllStay goal) (same_Some (assumed_equal t u goal ∷ assumed_apart t u goal ∷ []) left e)
        (equal_goal-stays t u goal o, (apart_goal-stays t u goal o, tt))
    go false e = absurd (cc)

-- one more atom, or more symbols
atom-stay : (s s1 : State) (x : Atom) → HasOrder x → StateStays s s1 → StateStays s (with_atom x s1)
atom-stay s s1 x h st = record {
  ordered = record { vars = st.ordered.vars; fields = one-more s1.atoms _ st.ordered.fields h };
  listed = st.listed;
  taken = st.taken;
}

symbols-stay : (s s1 : State) (k : ℕ) → StateStays s s1 → StateStays s (with_symbols k s1)
symbols-stay s s1 k st = record {
  ordered = record { vars = st.ordered.vars; fields = st.ordered.fields };
  listed = st.listed;
  taken = st.taken;
}

new-stay : (s s1 : State) (t : Term) (fields : List (FieldId × Term)) → AreOrdered fields → StateStays s s1
    → StateStays s (with_cell s1 t fields)
new-stay s s1 t fields h st = record {
  ordered = record { vars = st.ordered.vars; fields = one-more s1.atoms _ st.ordered.fields h };
  listed = st.listed;
  taken = st.taken;
}

-- the two fields of a cell of a doubly linked segment are in order
double-order : (next back : FieldId) (t u : Term) → AreOrdered (put_term next t (put_term back u []))
double-order next back t u = put-order next t (put_term back u []) (put-order back u [] tt)

unrolled-stay : (links : Links) (x : Atom) (s s2 : State) → IsOrdered s → unrolled links x s ≡ Some s2
    → StateStays s s2
unrolled-stay links (Points t fields) s s2 o e = absurd (cc)
unrolled-stay links (Ls t u) s s2 o e = go links.tl e
  where
    go : (next : Option FieldId) → unrolled_segment next t u s ≡ Some s2 → StateStays s s2
    go None e = absurd (cc)
    go (Some next) e = subst (StateStays s)
        (same_Some (with_atom (Ls (Sym s.next_sym) u) (with_cell (with_symbols 1 s) t
        ((next, Sym s.next_sym) ∷ []))) s2 e)
        (atom-stay s _ (Ls (Sym s.next_sym) u) tt
        (new-stay s (with_symbols 1 s) t ((next, Sym s.next_sym) ∷ []) (tt, tt) (symbols-stay s s 1 (self-stay s o))))
unrolled-stay links (Tree t) s s2 o e = go links.l links.r e
  where
    go : (left right : Option FieldId) → unrolled_tree left right t s ≡ Some s2 → StateStays s s2
    go None right e = absurd (cc)
    go (Some left) None e = absurd (cc)
    go (Some left) (Some right) e =
        let one = Sym s.next_sym in
        let two = Sym (s.next_sym + 1) in
        let fields = put_term left one (put_term right two []) in
        subst (StateStays s)
        (same_Some (with_atom (Tree two) (with_atom (Tree one) (with_cell (with_symbols 2 s) t fields))) s2 e)
        (atom-stay s _ (Tree two) tt (atom-stay s _ (Tree one) tt
        (new-stay s (with_symbols 2 s) t fields (put-order left one (put_term right two [])
        (put-order right two [] tt))
        (symbols-stay s s 2 (self-stay s o)))))
unrolled-stay links (Dll t p l u) s s2 o e = go links.tl links.pv e
  where
    go : (next back : Option FieldId) → unrolled_double next back t p l u s ≡ Some s2 → StateStays s s2
    go None back e = absurd (cc)
    go (Some next) None e = absurd (cc)
    go (Some next) (Some back) e =
        let rest = Sym s.next_sym in
        let fields = put_term next rest (put_term back p []) in
        subst (StateStays s)
        (same_Some (with_atom (Dll rest t l u) (with_cell (with_symbols 1 s) t fields)) s2 e)
        (atom-stay s _ (Dll rest t l u) tt
        (new-stay s (with_symbols 1 s) t fields (double-order next back rest p) (symbols-stay s s 1 (self-stay s o))))

-- from behind
last-stay : (next back : Option FieldId) (t p l u : Term) (s s2 : State) → IsOrdered s
    → unrolled_last next back t p l u s ≡ Some s2 → StateStays s s2
last-stay None back t p l u s s2 o e = absurd (cc)
last-stay (Some next) None t p l u s s2 o e = absurd (cc)
last-stay (Some next) (Some back) t p l u s s2 o e =
    let before = Sym s.next_sym in
    let fields = put_term next u (put_term back before []) in
    let rest = with_atom (Dll t p before l) (with_symbols 1 s) in
    subst (StateStays s) (same_Some (with_cell rest l fields) s2 e)
    (new-stay s rest l fields (double-order next back u before)
    (atom-stay s (with_symbols 1 s) (Dll t p before l) tt (symbols-stay s s 1 (self-stay s o))))

pub unroll-stays : (goal : Goal) (left : List Goal) (a : ℕ) → IsOrdered goal.state → unroll_row goal a ≡ Some left
    → AllStay goal left
unroll-stays goal left a o row = go (atom_at goal.state.atoms a) row
  where
    made : (x : Atom) (m : Option State) → unrolled goal.state.links x
        (record goal.state { atoms = without goal.state.atoms a }) ≡ m
        → option_map (λ s. record goal { state = s } ∷ []) m ≡ Some left → AllStay goal left
    made x None i e = absurd (cc)
    made x (Some s) i e =
        let st = unrolled-stay goal.state.links x (record goal.state { atoms = without goal.state.atoms a }) s
        (record { vars = o.vars; fields = without-all HasOrder goal.state.atoms a o.fields }) i in
        one-stays goal (record goal { state = s }) left e (record {
          state = record { ordered = st.ordered; listed = st.listed; taken = st.taken };
          form = same-form goal (record goal { state = s }) refl st.taken;
          reads = λ p among r. r;
        })

    step : (x : Atom) (e : Term × Term) (b : Bool)
        → cond b (option_map (λ s. record goal { state = s } ∷ []) (unrolled goal.state.links x
        (record goal.state { atoms = without goal.state.atoms a }))) None ≡ Some left
        → AllStay goal left
    step x e true i = made x (unrolled goal.state.links x
        (record goal.state { atoms = without goal.state.atoms a })) refl i
    step x e false i = absurd (cc)

    both : (x : Atom) (m : Option (Term × Term))
        → option_and_then (λ e. cond (differs goal.state e.0 e.1)
        (option_map (λ s. record goal { state = s } ∷ []) (unrolled goal.state.links x
        (record goal.state { atoms = without goal.state.atoms a }))) None) m ≡ Some left
        → AllStay goal left
    both x None i = absurd (cc)
    both x (Some e) i = step x e (differs goal.state e.0 e.1) i

    go : (m : Option Atom)
        → option_and_then (λ x. option_and_then (λ e. cond (differs goal.state e.0 e.1)
        (option_map (λ s. record goal { state = s } ∷ []) (unrolled goal.state.links x
        (record goal.state { atoms = without goal.state.atoms a }))) None) (ends x)) m ≡ Some left
        → AllStay goal left
    go None i = absurd (cc)
    go (Some x) i = both x (ends x) i

pub back-stays : (goal : Goal) (left : List Goal) (a : ℕ) → IsOrdered goal.state → back_row goal a ≡ Some left
    → AllStay goal left
back-stays goal left a o row = go (atom_at goal.state.atoms a) row
  where
    made : (t p l u : Term) (m : Option State)
        → unrolled_last goal.state.links.tl goal.state.links.pv t p l u
        (record goal.state { atoms = without goal.state.atoms a }) ≡ m
        → option_map (λ s. record goal { state = s } ∷ []) m ≡ Some left → AllStay goal left
    made t p l u None i e = absurd (cc)
    made t p l u (Some s) i e =
        let st = last-stay goal.state.links.tl goal.state.links.pv t p l u
        (record goal.state { atoms = without goal.state.atoms a }) s
        (record { vars = o.vars; fields = without-all HasOrder goal.state.atoms a o.fields }) i in
        one-stays goal (record goal { state = s }) left e (record {
          state = record { ordered = st.ordered; listed = st.listed; taken = st.taken };
          form = same-form goal (record goal { state = s }) refl st.taken;
          reads = λ p among r. r;
        })

    step : (t p l u : Term) (b : Bool)
        → cond b (option_map (λ s. record goal { state = s } ∷ []) (unrolled_last goal.state.links.tl
        goal.state.links.pv t p l u (record goal.state { atoms = without goal.state.atoms a }))) None ≡ Some left
        → AllStay goal left
    step t p l u true i = made t p l u (unrolled_last goal.state.links.tl goal.state.links.pv t p l u
        (record goal.state { atoms = without goal.state.atoms a })) refl i
    step t p l u false i = absurd (cc)

    go : (m : Option Atom) → option_and_then (back_one goal a) m ≡ Some left → AllStay goal left
    go None i = absurd (cc)
    go (Some (Points t fields)) i = absurd (cc)
    go (Some (Ls t u)) i = absurd (cc)
    go (Some (Tree t)) i = absurd (cc)
    go (Some (Dll t p l u)) i = step t p l u (differs goal.state t u) i

-- WHAT IS ASSUMED another state has the same lists
pub record SameLists (s s2 : State) : Type 0 where
  pub vars : s2.vars ≡ s.vars
  pub atoms : s2.atoms ≡ s.atoms
  pub taken : s2.taken ≡ s.taken

same-then : (one two three : State) → SameLists one two → SameLists two three → SameLists one three
same-then one two three a b = record {
  vars = b.vars ∙ a.vars;
  atoms = b.atoms ∙ a.atoms;
  taken = b.taken ∙ a.taken;
}

same-stay : (s s2 : State) → IsOrdered s → SameLists s s2 → StateStays s s2
same-stay s s2 o m = record {
  ordered = record { vars = subst AreInOrder (sym m.vars) o.vars; fields = subst Ordered (sym m.atoms) o.fields };
  listed = λ x e. subst (λ vs. is_listed vs x ≡ true) (sym m.vars) e;
  taken = λ e. m.taken ∙ e;
}

met-same : (s : State) (bindings : List (Option Term)) (x : Operand Term) → SameLists s (met s bindings x).state
met-same s bindings (Known t) = record { vars = refl; atoms = refl; taken = refl }
met-same s bindings (Exists n) = go (get_or bindings n None)
  where
    go : (o : Option Term) → SameLists s (met_existential s bindings n o).state
    go None = record { vars = refl; atoms = refl; taken = refl }
    go (Some t) = record { vars = refl; atoms = refl; taken = refl }

both-same : (s : State) (bindings : List (Option Term)) (x y : Operand Term)
    → SameLists s (met_both s bindings x y).state
both-same s bindings x y =
    let first = met s bindings x in
    same-then s first.state (met first.state first.bindings y).state (met-same s bindings x)
    (met-same first.state first.bindings y)

four-same : (s : State) (bindings : List (Option Term)) (x b l y : Operand Term)
    → SameLists s (met_four s bindings x b l y).state
four-same s bindings x b l y =
    let first = met_both s bindings x b in
    same-then s first.state (met_both first.state first.bindings l y).state (both-same s bindings x b)
    (both-same first.state first.bindings l y)

fields-same : (s : State) (bindings : List (Option Term)) (fs : List (FieldId
    × Operand Term)) (made : List (FieldId × Term))
    → AreOrdered made
    → SameLists s (met_fields s bindings fs made).state × AreOrdered (met_fields s bindings fs made).fields
fields-same s bindings [] made o = (record { vars = refl; atoms = refl; taken = refl }, o)
fields-same s bindings (f ∷ fs) made o =
    let m = met s bindings f.1 in
    let r = fields-same m.state m.bindings fs (put_term f.0 m.term made) (put-order f.0 m.term made o) in (
      same-then s m.state (met_fields m.state m.bindings fs (put_term f.0 m.term made)).state
          (met-same s bindings f.1) r.0,
      r.1,
    )

-- one more atom in a state with the same lists
more-stay : (s s2 s3 : State) (a : Numbered) → IsOrdered s → SameLists s s2 → HasOrder a.atom → s3.vars ≡ s2.vars
    → s3.atoms ≡ s2.atoms ++ a ∷ [] → s3.taken ≡ s2.taken → StateStays s s3
more-stay s s2 s3 a o m h vars atoms taken =
    let st = same-stay s s2 o m in
    record {
      ordered = record {
        vars = subst AreInOrder (sym vars) st.ordered.vars;
        fields = subst Ordered (sym atoms) (one-more s2.atoms a st.ordered.fields h);
      };
      listed = λ x e. subst (λ vs. is_listed vs x ≡ true) (sym vars) (st.listed x e);
      taken = λ e. taken ∙ st.taken e;
    }

-- the goal that is left, where what comes after is assumed or run, and nothing was handed over
record AddStays (s : State) (rest : List Item) (child : Goal) : Type 0 where
  pub state : StateStays s child.state
  pub form : IsAssuming rest → s.taken ≡ [] → HasForm child
  pub reads : (p : Program) (among : Var → Bool) → TodoReadsIn p among rest → TodoReadsIn p among child.todo

-- the goal with the others still to be assumed
after-form : (s s2 : State) (p : Place) (cs : Conjuncts Term) (bindings : List (Option Term)) (rest : List Item)
    → (s.taken ≡ [] → s2.taken ≡ []) → IsAssuming rest → s.taken ≡ [] → HasForm (goal_after s2 p cs bindings rest)
after-form s s2 p cs bindings rest t i e =
    inl (adding-assuming p (record { conjuncts = cs; bindings = bindings }) rest i, t e)

after-reads : (s2 : State) (p : Place) (cs : Conjuncts Term) (bindings : List (Option Term)) (rest : List Item)
    (program : Program) (among : Var → Bool) → TodoReadsIn program among rest
    → TodoReadsIn program among (goal_after s2 p cs bindings rest).todo
after-reads s2 p cs bindings rest program among r =
    adding-reads program among p rest r (record { conjuncts = cs; bindings = bindings })

added-stays : (s : State) (p : Place) (bindings : List (Option Term)) (c : Conjunct Term) (cs : Conjuncts Term)
    (rest : List Item) (child : Goal) → IsOrdered s → added s p bindings c cs rest ≡ Some child
    → AddStays s rest child
added-stays s p bindings (holds q True) cs rest child o e = subst (AddStays s rest) (same_Some _ child e)
    (record {
      state = self-stay s o;
      form = after-form s s p cs bindings rest (λ e. e);
      reads = after-reads s p cs bindings rest;
    })
added-stays s p bindings (holds q (Equal x y)) cs rest child o e =
    let m = met_both s bindings x y in
    let st = same-stay s m.state o (both-same s bindings x y) in
    subst (AddStays s rest) (same_Some _ child e) (record {
      state = equal-stay m.one m.two (goal_after m.state p cs m.bindings rest) s st;
      form = λ i t. equal-form m.one m.two (goal_after m.state p cs m.bindings rest)
          (after-form s m.state p cs m.bindings rest st.taken i t);
      reads = λ program among r. equal-reads m.one m.two (goal_after m.state p cs m.bindings rest) program among
          (after-reads m.state p cs m.bindings rest program among r);
    })
added-stays s p bindings (holds q (Differ x y)) cs rest child o e =
    let m = met_both s bindings x y in
    let st = same-stay s m.state o (both-same s bindings x y) in
    subst (AddStays s rest) (same_Some _ child e) (record {
      state = apart-stay m.one m.two (goal_after m.state p cs m.bindings rest) s st;
      form = after-form s m.state p cs m.bindings rest st.taken;
      reads = after-reads m.state p cs m.bindings rest;
    })
added-stays s p bindings (points q x fs) cs rest child o e =
    let root = met s bindings x in
    let m = met_fields root.state root.bindings fs [] in
    let r = fields-same root.state root.bindings fs [] tt in
    let st = more-stay s m.state (with_cell m.state root.term m.fields) _ o
    (same-then s root.state m.state (met-same s bindings x) r.0) r.1 refl refl refl in
    subst (AddStays s rest) (same_Some _ child e) (record {
      state = st;
      form = after-form s (with_cell m.state root.term m.fields) p cs m.bindings rest st.taken;
      reads = after-reads (with_cell m.state root.term m.fields) p cs m.bindings rest;
    })
added-stays s p bindings (segment q next x y) cs rest child o e =
    let m = met_both s bindings x y in
    let st = more-stay s m.state (with_atom (Ls m.one m.two) m.state) _ o (both-same s bindings x y) tt refl refl
    refl in
    subst (AddStays s rest) (same_Some _ child e) (record {
      state = st;
      form = after-form s (with_atom (Ls m.one m.two) m.state) p cs m.bindings rest st.taken;
      reads = after-reads (with_atom (Ls m.one m.two) m.state) p cs m.bindings rest;
    })
added-stays s p bindings (doubly q next back x b l y) cs rest child o e =
    let m = met_four s bindings x b l y in
    let a = Dll m.from m.before m.last m.to in
    let st = more-stay s m.state (with_atom a m.state) _ o (four-same s bindings x b l y) tt refl refl refl in
    subst (AddStays s rest) (same_Some _ child e) (record {
      state = st;
      form = after-form s (with_atom a m.state) p cs m.bindings rest st.taken;
      reads = after-reads (with_atom a m.state) p cs m.bindings rest;
    })
added-stays s p bindings (tree q left right x) cs rest child o e =
    let m = met s bindings x in
    let st = more-stay s m.state (with_atom (Tree m.term) m.state) _ o (met-same s bindings x) tt refl refl refl in
    subst (AddStays s rest) (same_Some _ child e) (record {
      state = st;
      form = after-form s (with_atom (Tree m.term) m.state) p cs m.bindings rest st.taken;
      reads = after-reads (with_atom (Tree m.term) m.state) p cs m.bindings rest;
    })
added-stays s p bindings (choose q t this that) cs rest child o e = absurd (cc)

-- a goal with these conjuncts to assume first
abbrev pub assumes : State → Place → Pending → List Item → Goal
assumes s p given rest = record { state = s; todo = add p given ∷ rest }

pub add-stays : (s : State) (p : Place) (given : Pending) (rest : List Item) (left : List Goal) → IsOrdered s
    → add_row s p given rest ≡ Some left → AllStay (assumes s p given rest) left
add-stays s p given rest left o row = first given.conjuncts row
  where
    stays : (child : Goal) → AddStays s rest child → GoalStays (assumes s p given rest) child
    stays child h = record {
      state = h.state;
      form = λ f. elim f [ inl i ↦ h.form i.0 i.1 | inr i ↦ absurd i ];
      reads = h.reads;
    }

    go : (m : Option Goal) → ((child : Goal) → m ≡ Some child → AddStays s rest child)
        → option_map (λ (g : Goal). g ∷ []) m ≡ Some left → AllStay (assumes s p given rest) left
    go None h e = absurd (cc)
    go (Some child) h e = one-stays (assumes s p given rest) child left e (stays child (h child refl))

    first : (cs : Conjuncts Term)
        → option_map (λ (g : Goal). g ∷ []) (add_first s p given.bindings cs rest) ≡ Some left
        → AllStay (assumes s p given rest) left
    first none e = absurd (cc)
    first (also c cs) e =
        go (added s p given.bindings c cs rest) (λ child i. added-stays s p given.bindings c cs rest child o i) e

-- a choice leaves the state
pub choice-stays : (so : Bool) (s : State) (p : Place) (given : Pending) (rest : List Item) (left : List Goal)
    → IsOrdered s → branch_row so s (add p given ∷ rest) ≡ Some left → AllStay (assumes s p given rest) left
choice-stays so s p given rest left o row = go (chosen so s given given.conjuncts) row
  where
    go : (m : Option Pending) → option_and_then (λ z. one_goal s (adding p z ++ rest)) m ≡ Some left
        → AllStay (assumes s p given rest) left
    go None e = absurd (cc)
    go (Some z) e = one-stays (assumes s p given rest) (record { state = s; todo = adding p z ++ rest }) left e (record {
      state = self-stay s o;
      form = λ f. elim f [ inl i ↦ inl (adding-assuming p z rest i.0, i.1) | inr i ↦ absurd i ];
      reads = λ program among r. adding-reads program among p rest r z;
    })
