-- The laws of commands: the goal that is left holds after the event.
-- Names: `COMMAND_follows_event` is the law of that command's row.
use Rattle.std.specs.List.{AllByRecursion}
use Rattle.std.specs.Option.{option_map, option_and_then}
use Rattle.std.proofs.Common.{◌≡◌, ℕ, ◌+◌, ◌==◌, Bool, true, false, cond, Option, Some, None, List, [], ◌∷◌, refl, sym, ap, ◌∙◌, subst, inl, inr, arith}
use Rattle.std.proofs.lemmas.Option.{same_Some}
use Rattle.sf_base.proofs.HeapSplits.{cell-change_left, cell-new_left, one-in, one-put, one-put_cell, one-remove_cell, one-single, star-drop_right, star-empty_right, star-map_right, star-of}
use Rattle.sf_base.proofs.MapSplits.{empty-is, splits-lacks_whole, splits-of_empty_left, splits-union}
use Rattle.sf_base.specs.declared.ids.FieldId.{FieldId}
use Rattle.sf_base.specs.declared.ids.Var.{Var}
use Rattle.sf_base.specs.declared.place.Place.{Place}
use Rattle.sf_base.specs.declared.value.Value.{Value}
use Rattle.sf_base.specs.declared.value.Value.TheVariants.{Loc as loc}
use Rattle.sf_base.specs.HeapStore.{Cell, Heap, IsEmpty, IsOne, Splits, put_field, ◌⋆◌}
use Rattle.sf_core.specs.Assertions.Sat.{HasFields}
use Rattle.sf_core.specs.declared.command.Expr.{Expr}
use Rattle.sf_core.specs.declared.command.Occurrence.{Occurrence}
use Rattle.sf_core.specs.Machine.Step.{Finds}
use Rattle.sf_core.specs.Program.Syntax.{Command, assign, look_up, mutate, new, dispose}
use Rattle.sf_rules.specs.Checked.LawsOfCommands.{Executed, FindsCell, before_command, heap_with, AssignFollowsEvent, LookFollowsEvent, MutateFollowsEvent, NewFollowsEvent, DisposeFollowsEvent}
use Rattle.sf_rules.specs.Checked.Rows.Commands.{looked}
use Rattle.sf_rules.specs.Rules.{with_var}
use Rattle.sf_sym.specs.Checked.Lemmas.AtomLists.{at-all, at-cell, atoms-in_place, atoms-one_more, atoms-out, with_fields-all, without-all}
use Rattle.sf_sym.specs.Checked.Lemmas.Below.{below-symbol, paired-weaker, pairs-weaker, put-all}
use Rattle.sf_sym.specs.Checked.Lemmas.CellFields.{field-all, field-value, put-known, put-written}
use Rattle.sf_sym.specs.Checked.Lemmas.FreshGoals.{agree, apart-stays, atoms-stay, later, later-apart, later-taken, later-todo, later-vars, later-atoms, more-below, others-stay, taken-stay, vars-stay}
use Rattle.sf_sym.specs.Checked.Lemmas.FreshValues.{value-below, value-here, with_value}
use Rattle.sf_sym.specs.Checked.Lemmas.KnownValues.{known-value, set-agrees, set-all, term-all}
use Rattle.sf_sym.specs.Checked.Lemmas.OtherValues.{Same, fields-other_values, pairs-other_values}
use Rattle.sf_sym.specs.Below.{AllInAtom, AllInAtoms, AllPaired, AreBelow, IsBelow, SameBelow}
use Rattle.sf_sym.specs.Cells.{atom_at, cell_at, with_cell, with_fields, without}
use Rattle.sf_sym.specs.declared.atom.Atom.TheVariants.{Points}
use Rattle.sf_sym.specs.declared.atom.Numbered.{Numbered}
use Rattle.sf_sym.specs.declared.term.Term.{Term}
use Rattle.sf_sym.specs.declared.term.Term.TheVariants.{Sym}
use Rattle.sf_sym.specs.Fields.{AreOrdered, field_term, put_term}
use Rattle.sf_sym.specs.Goal.{Item, run, add, take, gave, head, again, exit, return, end, Goal, one_goal}
use Rattle.sf_sym.specs.Holds.{term_value, AtomsHold, AddsHold}
use Rattle.sf_sym.specs.HoldsIn.{HoldsIn}
use Rattle.sf_sym.specs.Checked.Laws.{Follows, HoldsStill}
use Rattle.sf_sym.specs.Ready.{HasOrder, HasValue, IsIn, is_listed, value_at, with_variable}
use Rattle.sf_sym.specs.Shape.{HasShape, IsBody}
use Rattle.sf_sym.specs.State.{State, term, with_symbols}
use Rattle.sf_sym.specs.Variables.{AreInOrder, set_var}

-- commands assume nothing, so no heap is needed for it
body-empty : (w : ℕ → Value) (items : List Item) (heap : Heap) → IsBody items → IsEmpty heap → AddsHold w items heap
body-empty w [] heap b e = absurd b
body-empty w (run c ∷ items) heap b e = e
body-empty w (add p given ∷ items) heap b e = absurd b
body-empty w (take p want names ∷ items) heap b e = absurd b
body-empty w (gave p set removed ∷ items) heap b e = absurd b
body-empty w (head p test invariant body ∷ items) heap b e = absurd b
body-empty w (again p invariant ∷ items) heap b e = e
body-empty w (exit p r ∷ items) heap b e = e
body-empty w (return p post ∷ items) heap b e = e
body-empty w (end p ∷ items) heap b e = absurd b

pub beside-none : {P : Heap → Type 0} (w : ℕ → Value) (items : List Item) (heap : Heap) → IsBody items
    → P heap → (P ⋆ AddsHold w items) heap
beside-none w items heap b p = star-map_right (λ part d. body-empty w items part b d) (star-empty_right p)

-- a command is followed by commands up to an end, and nothing is handed over
pub command-form : (s : State) (c : Command) (rest : List Item) → HasShape (before_command s c rest)
    → IsBody rest × (s.taken ≡ [])
command-form s c rest shape = elim shape.form [ inl f ↦ f | inr f ↦ absurd f ]

pub executed-one : (goal child : Goal) (left : List Goal)
    (After : (w : ℕ → Value) (e : Var → Option Value) (free taken : Heap) → Goal → Type 0)
    → Some (child ∷ []) ≡ Some left → Follows goal child
    → ((w : ℕ → Value) (e : Var → Option Value) (free taken : Heap) → HoldsIn w goal e free taken
    → After w e free taken child) → Executed goal left After
executed-one goal child left After e follows holds =
    subst (λ all. Executed goal all After) (same_Some (child ∷ []) left e) (record {
      follow = (follows, tt);
      after = λ w e free taken h. inl (holds w e free taken h);
    })

-- the cell of a number at a root, and its part of what is there
record Out (w : ℕ → Value) (s : State) (e : Var → Option Value) (free : Heap) (a : ℕ) (root : Expr)
    (fields : List (FieldId × Term)) : Type 0 where
  location : ℕ
  here : Cell
  part : Heap
  others : Heap
  is : term_value w (term s.vars root) ≡ loc location
  splits : Splits free part others
  one : IsOne location here part
  has : HasFields (term_value w) fields here
  beside : AtomsHold w s.links (without s.atoms a) others
  there : free location ≡ Some here
  finds : IsIn (is_listed s.vars) root → HasValue e root → Finds (value_at e) free root location here

cell-out : (w : ℕ → Value) (s : State) (c : Command) (rest : List Item) (e : Var → Option Value)
    (free taken : Heap) (a : ℕ) (root : Expr) (fields : List (FieldId × Term))
    → HoldsIn w (before_command s c rest) e free taken → cell_at s.atoms a (term s.vars root) ≡ Some fields
    → Out w s e free a root fields
cell-out w s c rest e free taken a root fields h is_there =
    let t = term s.vars root in
    let o = atoms-out w s.links s.atoms a (Points t fields) free (at-cell s.atoms a t fields is_there)
    (star-drop_right h.there) in
    let (location, here, is, one, has) = o.first in
    let there = one-in one o.splits in
    record {
      location = location;
      here = here;
      part = o.left;
      others = o.right;
      is = is;
      splits = o.splits;
      one = one;
      has = has;
      beside = o.second;
      there = there;
      finds = λ listed known. record { is = sym (known-value w e s.vars h.vars root listed known) ∙ is; there = there };
    }

-- the event finds that cell, so what is said of what it finds is said of this one
found-cell : {w : ℕ → Value} {s : State} {e : Var → Option Value} {free : Heap} {a : ℕ} {root : Expr}
    {fields : List (FieldId × Term)} {Then : ℕ → Cell → Type 0} (o : Out w s e free a root fields)
    → IsIn (is_listed s.vars) root → HasValue e root → Then o.location o.here → FindsCell e free root Then
found-cell o listed known then =
    record { location = o.location; cell = o.here; finds = o.finds listed known; follows = then }

-- Of a command whose goal has the same symbols after it
module _ (s : State) (c : Command) (rest : List Item) where
  -- with other variables and atoms, of terms that are below the next symbol
  command-follows : (vars : List (Var × Term)) (atoms : List Numbered) → AreBelow (before_command s c rest)
      → AllPaired (IsBelow s.next_sym) vars → AllInAtoms (IsBelow s.next_sym) atoms
      → Follows (before_command s c rest) (record { state = record s { vars = vars; atoms = atoms }; todo = rest })
  command-follows vars atoms below vars_below atoms_below = record {
    below = record {
      state = record {
        vars = vars_below;
        apart = below.state.apart;
        atoms = atoms_below;
        taken = below.state.taken;
      };
      todo = below.todo.1;
    };
    symbols = omega arith;
    links = refl;
    formed = λ f. f.1;
  }

  module _ (w : ℕ → Value) (e : Var → Option Value) (free taken : Heap) (after : IsBody rest)
      (h : HoldsIn w (before_command s c rest) e free taken) where
    -- once a variable is set
    set-holds : (x : Var) (v : Value) (t : Term) → AreInOrder s.vars → v ≡ term_value w t
        → HoldsStill w (before_command s c rest) (with_variable x v e) free taken
        (record { state = with_var x t s; todo = rest })
    set-holds x v t order is = record {
      values = w;
      same = λ m d. refl;
      holds = record {
        vars = set-agrees w e x v s.vars t is h.vars;
        apart = h.apart;
        disjoint = h.disjoint;
        there = beside-none w rest free after (star-drop_right h.there);
        gone = h.gone;
      };
    }

    -- once a cell that is there becomes another, or is gone
    change-holds : (location : ℕ) (here : Cell) (cell : Option Cell) (atoms : List Numbered)
        → free location ≡ Some here → AtomsHold w s.links atoms (heap_with location cell free)
        → HoldsStill w (before_command s c rest) e (heap_with location cell free) taken
        (record { state = record s { atoms = atoms }; todo = rest })
    change-holds location here cell atoms there hold = record {
      values = w;
      same = λ m d. refl;
      holds = record {
        vars = h.vars;
        apart = h.apart;
        disjoint = (cell-change_left location here cell (splits-union h.disjoint) there).apart;
        there = beside-none w rest (heap_with location cell free) after hold;
        gone = h.gone;
      };
    }

-- the terms of expressions are below the next symbol
term-below : (n : ℕ) (vars : List (Var × Term)) → AllPaired (IsBelow n) vars → (x : Expr)
    → IsBelow n (term vars x)
term-below n vars b x = term-all (IsBelow n) refl (λ i. refl) vars b x

-- the cell of that number has its fields in order
cell-order : (atoms : List Numbered) (a : ℕ) (t : Term) (fields : List (FieldId × Term))
    → AllByRecursion (λ (x : Numbered). HasOrder x.atom) atoms → atom_at atoms a ≡ Some (Points t fields)
    → AreOrdered fields
cell-order [] a t fields o e = absurd (cc)
cell-order (x ∷ xs) a t fields o e = go (x.number == a) e (λ i. cell-order xs a t fields o.1 i)
  where
    go : (b : Bool) → cond b (Some x.atom) (atom_at xs a) ≡ Some (Points t fields)
        → (atom_at xs a ≡ Some (Points t fields) → AreOrdered fields) → AreOrdered fields
    go true i r = let same : x.atom ≡ Points t fields = cc in subst HasOrder same o.0
    go false i r = r i

-- ASSIGN

pub assign_follows_event : AssignFollowsEvent
unfolding AssignFollowsEvent
assign_follows_event s rest left p x value shape row =
    let c = assign p x value in
    let b = shape.below in
    let t = term s.vars value in
    executed-one (before_command s c rest) (record { state = with_var x.var t s; todo = rest }) left _ row
    (command-follows s c rest (set_var x.var t s.vars) s.atoms b
    (set-all (IsBelow s.next_sym) x.var t s.vars (term-below s.next_sym s.vars b.state.vars value) b.state.vars)
    b.state.atoms)
    (λ w e free taken h known.
    set-holds s c rest w e free taken (command-form s c rest shape).0 h x.var (value_at e value) t shape.vars
    (sym (known-value w e s.vars h.vars value shape.reads known)))

-- DISPOSE

pub dispose_follows_event : DisposeFollowsEvent
unfolding DisposeFollowsEvent
dispose_follows_event s rest left p root a shape row = go (cell_at s.atoms a (term s.vars root)) refl row
  where
    go : (o : Option (List (FieldId × Term))) → cell_at s.atoms a (term s.vars root) ≡ o
        → option_and_then (λ fields. one_goal (record s { atoms = without s.atoms a }) rest) o ≡ Some left
        → Executed (before_command s (dispose p root) rest) left
        (λ w e free taken child. HasValue e root → FindsCell e free root
        (λ location cell. HoldsStill w (before_command s (dispose p root) rest) e
        (heap_with location None free) taken child))
    go None found e = absurd (cc)
    go (Some fields) found e =
        let c = dispose p root in
        let b = shape.below in
        let atoms = without s.atoms a in
        executed-one (before_command s c rest) (record { state = record s { atoms = atoms }; todo = rest }) left _ e
        (command-follows s c rest s.vars atoms b b.state.vars
        (without-all (AllInAtom (IsBelow s.next_sym)) s.atoms a b.state.atoms))
        (λ w e free taken h known.
        let o = cell-out w s c rest e free taken a root fields h found in
        let after = cell-change_left o.location o.here None o.splits o.one.here in
        let gone = splits-of_empty_left (one-remove_cell o.one) after in
        found-cell o shape.reads known
        (change-holds s c rest w e free taken (command-form s c rest shape).0 h o.location o.here None atoms o.there
        (subst (AtomsHold w s.links atoms) (sym gone) o.beside)))

-- MUTATE

pub mutate_follows_event : MutateFollowsEvent
unfolding MutateFollowsEvent
mutate_follows_event s rest left p root field value a shape row =
    go (cell_at s.atoms a (term s.vars root)) refl row
  where
    go : (o : Option (List (FieldId × Term))) → cell_at s.atoms a (term s.vars root) ≡ o
        →
        option_and_then (λ after. one_goal after rest)
        (option_map (λ fields. record s {
          atoms = with_fields s.atoms a (term s.vars root) (put_term field (term s.vars value) fields);
        }) o)
        ≡ Some left
        → Executed (before_command s (mutate p root field value) rest) left
        (λ w e free taken child. HasValue e root → HasValue e value → FindsCell e free root
        (λ location cell. HoldsStill w (before_command s (mutate p root field value) rest) e
        (heap_with location (Some (put_field cell field.0 (value_at e value))) free) taken child))
    go None found e = absurd (cc)
    go (Some fields) found e =
        let c = mutate p root field value in
        let b = shape.below in
        let t = term s.vars root in
        let u = term s.vars value in
        let at = at-cell s.atoms a t fields found in
        let old = at-all (AllInAtom (IsBelow s.next_sym)) s.atoms a (Points t fields) at b.state.atoms in
        let atoms = with_fields s.atoms a t (put_term field u fields) in
        executed-one (before_command s c rest) (record { state = record s { atoms = atoms }; todo = rest }) left _ e
        (command-follows s c rest s.vars atoms b b.state.vars
        (with_fields-all (AllInAtom (IsBelow s.next_sym)) s.atoms a t (put_term field u fields) b.state.atoms (
          old.0,
          put-all (IsBelow s.next_sym) field u fields (term-below s.next_sym s.vars b.state.vars value) old.1,
        )))
        (λ w e free taken h known also_known.
        let o = cell-out w s c rest e free taken a root fields h found in
        let is = known-value w e s.vars h.vars value shape.reads.1 also_known in
        let cell : Cell = put_field o.here field.0 (value_at e value) in
        let fits = subst (λ z. HasFields (term_value w) (put_term field u fields) (put_field o.here field.0 z)) is
        (put-written (term_value w) field u fields o.here o.has) in
        found-cell o shape.reads.0 known
        (change-holds s c rest w e free taken (command-form s c rest shape).0 h o.location o.here (Some cell) atoms o.there
        (atoms-in_place w s.links s.atoms a (Points t fields) t (put_term field u fields)
        (heap_with o.location (Some cell) free) at
        (star-of (cell-change_left o.location o.here (Some cell) o.splits o.one.here)
        (o.location, cell, o.is, one-put_cell cell o.one, fits) o.beside))))

-- NEW

pub new_follows_event : NewFollowsEvent
unfolding NewFollowsEvent
new_follows_event s rest left p x shape row =
    let goal = before_command s (new p x) rest in
    let b = shape.below in
    let n = s.next_sym in
    let fresh = below-symbol (n + 1) n (omega arith) in
    executed-one goal
    (record { state = with_cell (with_var x.var (Sym n) (with_symbols 1 s)) (Sym n) []; todo = rest }) left _ row
    (record {
      below = record {
        state = record {
          vars = set-all (IsBelow (n + 1)) x.var (Sym n) s.vars fresh (later-vars goal b 1);
          apart = later-apart goal b 1 (Sym n) fresh;
          atoms = more-below (n + 1) s.atoms _ (later-atoms goal b 1) (fresh, tt);
          taken = later-taken goal b 1;
        };
        todo = (later-todo goal b 1).1;
      };
      symbols = omega arith;
      links = refl;
      formed = λ f. f.1;
    })
    (λ w e free taken h location cell free_lacks.
    let none : IsEmpty taken = subst (λ atoms. AtomsHold w s.links atoms taken)
    (command-form s (new p x) rest shape).1 h.gone in
    let taken_lacks : taken location ≡ None = ap (λ m. m location) (empty-is none) in
    let v = with_value n (loc location) w in
    let same : SameBelow n v w = λ m i. value-below n (loc location) w m i in
    let is : v n ≡ loc location = value-here n (loc location) w in
    record {
      values = v;
      same = same;
      holds = record {
        vars = set-agrees v e x.var (loc location) s.vars (Sym n) (sym is)
            (vars-stay w v goal b same e free taken h);
        apart = apart-stays w v goal b same e free taken h (Sym n) location is;
        disjoint = (cell-new_left location (Some cell) (splits-union h.disjoint)
            (splits-lacks_whole location (splits-union h.disjoint) free_lacks taken_lacks)).apart;
        there = beside-none v rest (heap_with location (Some cell) free) (command-form s (new p x) rest shape).0
            (atoms-one_more v s.links s.atoms _ (heap_with location (Some cell) free)
            (star-of (one-put location cell free free_lacks)
            (location, cell, is, one-single location cell, tt)
            (atoms-stay w v goal b same e free taken h free (star-drop_right h.there))));
        gone = taken-stay w v goal b same e free taken h;
      };
    })

-- LOOK

-- what the law says of the goals that are left
abbrev Looks : State → List Item → Place → Occurrence → Expr → FieldId → List Goal → Type 0
Looks s rest p x root field left = Executed (before_command s (look_up p x root field) rest) left
    (λ w e free taken child. HasValue e root → FindsCell e free root
    (λ location cell. HoldsStill w (before_command s (look_up p x root field) rest)
    (with_variable x.var (cell field.0) e) free taken child))

-- a field that is known
look-known : (s : State) (rest : List Item) (left : List Goal) (p : Place) (x : Occurrence) (root : Expr)
    (field : FieldId) (a : ℕ)
    → HasShape (before_command s (look_up p x root field) rest)
    → (fields : List (FieldId × Term)) → cell_at s.atoms a (term s.vars root) ≡ Some fields
    → (u : Term) → field_term fields field ≡ Some u
    → one_goal (with_var x.var u s) rest ≡ Some left → Looks s rest p x root field left
look-known s rest left p x root field a shape fields found u is e =
    let c = look_up p x root field in
    let b = shape.below in
    let t = term s.vars root in
    let old = at-all (AllInAtom (IsBelow s.next_sym)) s.atoms a (Points t fields) (at-cell s.atoms a t fields found)
    b.state.atoms in
    executed-one (before_command s c rest) (record { state = with_var x.var u s; todo = rest }) left _ e
    (command-follows s c rest (set_var x.var u s.vars) s.atoms b
    (set-all (IsBelow s.next_sym) x.var u s.vars (field-all (IsBelow s.next_sym) fields field u is old.1)
    b.state.vars)
    b.state.atoms)
    (λ w e free taken h known.
    let o = cell-out w s c rest e free taken a root fields h found in
    found-cell o shape.reads known
    (set-holds s c rest w e free taken (command-form s c rest shape).0 h x.var (o.here field.0) u shape.vars
    (field-value (term_value w) fields field u o.here is o.has)))

-- a field that isn't known gets a fresh symbol first
look-fresh : (s : State) (rest : List Item) (left : List Goal) (p : Place) (x : Occurrence) (root : Expr)
    (field : FieldId) (a : ℕ)
    → HasShape (before_command s (look_up p x root field) rest)
    → (fields : List (FieldId × Term)) → cell_at s.atoms a (term s.vars root) ≡ Some fields
    → one_goal (with_var x.var (Sym s.next_sym) (with_symbols 1 (record s {
      atoms = with_fields s.atoms a (term s.vars root) (put_term field (Sym s.next_sym) fields);
    }))) rest ≡ Some left → Looks s rest p x root field left
look-fresh s rest left p x root field a shape fields found e =
    let goal = before_command s (look_up p x root field) rest in
    let b = shape.below in
    let n = s.next_sym in
    let t = term s.vars root in
    let put = put_term field (Sym n) fields in
    let at = at-cell s.atoms a t fields found in
    let old = at-all (AllInAtom (IsBelow n)) s.atoms a (Points t fields) at b.state.atoms in
    let fresh = below-symbol (n + 1) n (omega arith) in
    executed-one goal
    (record {
      state = with_var x.var (Sym n) (with_symbols 1 (record s { atoms = with_fields s.atoms a t put }));
      todo = rest;
    }) left _ e
    (record {
      below = record {
        state = record {
          vars = set-all (IsBelow (n + 1)) x.var (Sym n) s.vars fresh (later-vars goal b 1);
          apart = pairs-weaker (IsBelow n) (IsBelow (n + 1)) (later goal b 1) s.apart b.state.apart;
          atoms = with_fields-all (AllInAtom (IsBelow (n + 1))) s.atoms a t put (later-atoms goal b 1) (
            later goal b 1 t old.0,
            put-all (IsBelow (n + 1)) field (Sym n) fields fresh
                (paired-weaker (IsBelow n) (IsBelow (n + 1)) (later goal b 1) fields old.1),
          );
          taken = later-taken goal b 1;
        };
        todo = (later-todo goal b 1).1;
      };
      symbols = omega arith;
      links = refl;
      formed = λ f. f.1;
    })
    (λ w e free taken h known.
    let o = cell-out w s (look_up p x root field) rest e free taken a root fields h found in
    let y = o.here field.0 in
    let v = with_value n y w in
    let same : SameBelow n v w = λ m i. value-below n y w m i in
    let is : v n ≡ y = value-here n y w in
    let stays = agree w v goal b same e free taken h in
    found-cell o shape.reads known
    (record {
      values = v;
      same = same;
      holds = record {
        vars = set-agrees v e x.var y s.vars (Sym n) (sym is)
            (vars-stay w v goal b same e free taken h);
        apart = pairs-other_values w v s.apart
            (pairs-weaker (IsBelow n) (Same w v) stays s.apart b.state.apart) h.apart;
        disjoint = h.disjoint;
        there = beside-none v rest free (command-form s (look_up p x root field) rest shape).0
            (atoms-in_place v s.links s.atoms a (Points t fields) t put free at
            (star-of o.splits (
              o.location,
              o.here,
              sym (stays t old.0) ∙ o.is,
              o.one,
              put-known (term_value v) field (Sym n) fields o.here (sym is)
                  (fields-other_values w v fields o.here
                  (paired-weaker (IsBelow n) (Same w v) stays fields old.1) o.has),
            )
            (others-stay w v goal b same e free taken h a o.others o.beside)));
        gone = taken-stay w v goal b same e free taken h;
      };
    }))

pub look_follows_event : LookFollowsEvent
unfolding LookFollowsEvent
look_follows_event s rest left p x root field a shape row = go (cell_at s.atoms a (term s.vars root)) refl row
  where
    step : (fields : List (FieldId × Term)) → cell_at s.atoms a (term s.vars root) ≡ Some fields
        → (o : Option Term) → field_term fields field ≡ o
        →
        option_and_then (λ after. one_goal after rest) (looked s (term s.vars root) field a x.var o)
        ≡ Some left
        → Looks s rest p x root field left
    step fields found (Some u) is e = look-known s rest left p x root field a shape fields found u is e
    step fields found None is e =
        look-fresh s rest left p x root field a shape fields found
        (subst (λ (o : Option (List (FieldId × Term))).
        option_and_then (λ after. one_goal after rest)
        (option_map (with_var x.var (Sym s.next_sym)) (option_map (λ fs. record (with_symbols 1 s) {
          atoms = with_fields s.atoms a (term s.vars root) (put_term field (Sym s.next_sym) fs);
        }) o))
        ≡ Some left) found e)

    go : (o : Option (List (FieldId × Term))) → cell_at s.atoms a (term s.vars root) ≡ o
        →
        option_and_then (λ fields. option_and_then (λ after. one_goal after rest)
        (looked s (term s.vars root) field a x.var (field_term fields field))) o
        ≡ Some left
        → Looks s rest p x root field left
    go None found e = absurd (cc)
    go (Some fields) found e = step fields found (field_term fields field) refl e
