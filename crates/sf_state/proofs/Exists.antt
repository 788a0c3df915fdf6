-- Each text is a start of a procedure that holds no resource, or is refused.
-- Names: `start-LAW`, `start_exists`.
use Rattle.std.proofs.Common.{◌≡◌, ◌⊎◌, ℕ, Bool, true, false, nat_eq, is_some, List, Option, Some, None, Contains, slice_get, refl, sym, ap, ◌∙◌, inl, inr, arith}
use Rattle.std.specs.FinMap.{contains_key, empty, get}
use Rattle.std.specs.List.{concat}
use Rattle.std.specs.Option.{option_map}
use Rattle.std.specs.Set.{is_member}
use Rattle.std.proofs.lemmas.Bool.{false≢true}
use Rattle.std.proofs.lemmas.List.Elements.{All-contains}
use Rattle.sf_base.specs.declared.ids.ProcId.{ProcId}
use Rattle.sf_base.specs.declared.ids.Var.{Var}
use Rattle.sf_base.specs.declared.value.Value.{Value}
use Rattle.sf_base.proofs.Bools.{bool-same}
use Rattle.sf_base.proofs.Options.{is_some-false, is_some-map}
use Rattle.sf_core.specs.Assertions.Determined.{Determined}
use Rattle.sf_core.specs.Program.Formed.{IsFormed}
use Rattle.sf_core.specs.Program.Init.{sets_up}
use Rattle.sf_core.specs.Program.Syntax.{Assertion, Procedure, Program}
use Rattle.sf_heap.specs.Cells.{Cells, cell_of, heap_of}
use Rattle.sf_foot.specs.declared.vars.Vars.{Vars}
use Rattle.sf_foot.specs.Checked.Laws.{FootprintIsDecided, HasFootprintOrNone}
use Rattle.sf_foot.specs.Starting.{StartsWith, assertions_of}
use Rattle.sf_foot.specs.Variables.{value_of}
use Rattle.sf_lines.specs.Lines.{Text}
use Rattle.sf_precise.specs.Annotations.{annotations_in}
use Rattle.sf_precise.specs.Checked.Laws.{DeterminedHasOrder, OrderKeepsMeaning, OrderedIsDetermined}
use Rattle.sf_state.specs.declared.fault.StartFault.{StartFault}
use Rattle.sf_state.specs.declared.fault.StartFault.TheVariants as fault
use Rattle.sf_state.specs.Entering.{HoldsNone}
use Rattle.sf_state.specs.Checked.Laws.{StartExists}
use Rattle.sf_state.specs.Names.{format_of}
use Rattle.sf_state.specs.Stated.{text_refusal}
use Rattle.sf_state.specs.Starts.{GivesState, HaveFootprints, IsStartFault, IsStartText, IsUnmet, assertion_name, gives_fresh, left_over, refused, unmet, without}
use Rattle.sf_state.proofs.Beginning.{begin-starts}
use Rattle.sf_state.proofs.FootDecided.{footprint-decided}
use Rattle.sf_state.proofs.Deciding.{precise-notes}
use Rattle.sf_state.proofs.StateShape.{state-bounds, state-fits, state-fresh, state-width}
use Rattle.sf_state.proofs.Without.{member-decides, without-other}
use Rattle.sf_state.proofs.StateExists.{state-exists}
use Rattle.sf_state.proofs.TurnsDecided.{AllDistinct, turns-decided, turns-distinct, turns-left, turns-parts, turns-there}
use Rattle.sf_state.proofs.UnitExists.{unit-exists}

-- Variables and cells of a procedure that holds no resource
module _ (p : Program) (f : ProcId) (g : Procedure) (text : Text) (vars : Vars) (heap : Cells) (formed : IsFormed p)
    (there : slice_get p.procedures f.0 ≡ Some g) (free : HoldsNone p f) (other : sets_up p f ≡ false)
    (state : GivesState p g text vars heap) where
  -- the assertions of a start by this text
  abbrev notes : List Assertion
  notes = assertions_of p g (gives_fresh p g text)

  -- footprints in turn that leave nothing make a start
  start-made : (ps : List (List ℕ)) → HaveFootprints (value_of vars) (heap_of heap) notes ps → AllDistinct ps
      → ((l : ℕ) → without (concat ps) (heap_of heap) l ≡ None) → StartsWith p f (gives_fresh p g text) vars heap ps
  start-made ps turns d empty =
      let enough = (formed.procedures f.0 g there).declared in
      begin-starts p f g (gives_fresh p g text) vars heap ps there (omega (arith, enough)) free other
      (state-fresh p g text vars heap (omega (arith, enough)) state)
      (state-fits p g text vars heap (omega (arith, enough)) state) (state-width p g text vars heap state)
      (turns-parts (value_of vars) (heap_of heap) notes ps turns)
      (turns-distinct (value_of vars) (heap_of heap) notes ps turns d)
      (λ l. bool-same (contains_key heap l) (is_member nat_eq (concat ps) l) (to l (is_member nat_eq (concat ps) l) refl)
      (λ m. from l m (contains_key heap l) refl))
    where
      to : (l : ℕ) (b : Bool) → is_member nat_eq (concat ps) l ≡ b → contains_key heap l ≡ true
          → is_member nat_eq (concat ps) l ≡ true
      to l true m h = m
      to l false m h = absurd (false≢true (sym (ap is_some (sym (without-other (concat ps) (heap_of heap) l m) ∙ empty l))
          ∙ is_some-map cell_of (get heap l) ∙ h))

      from : (l : ℕ) → is_member nat_eq (concat ps) l ≡ true → (b : Bool) → contains_key heap l ≡ b
          → contains_key heap l ≡ true
      from l m true h = h
      from l m false h = absurd (turns-there (value_of vars) (heap_of heap) notes ps turns l
          ((member-decides (concat ps) l).0 m) (ap (option_map cell_of) (is_some-false (get heap l) h)))

  -- they start, or one of the two reasons holds
  start-decided : ((a : Assertion) → Contains notes a → (h : Cells) → HasFootprintOrNone a.level (value_of vars) (heap_of h))
      → ((parts : List (List ℕ)) × (unit : ℕ) × IsStartText p f g text vars heap parts unit (gives_fresh p g text))
      ⊎ ((e : StartFault) × IsStartFault p g text e)
  start-decided tell = go (turns-decided (value_of vars) notes heap tell)
    where
      go : ((ps : List (List ℕ)) × HaveFootprints (value_of vars) (heap_of heap) notes ps × AllDistinct ps)
          ⊎ ((k : ℕ) × IsUnmet (value_of vars) (heap_of heap) notes k)
          → ((parts : List (List ℕ)) × (unit : ℕ) × IsStartText p f g text vars heap parts unit (gives_fresh p g text))
          ⊎ ((e : StartFault) × IsStartFault p g text e)
      go (inr u) = inr (
        fault.Unmet (assertion_name p u.0),
        unmet u.0 refl (record { vars = vars; heap = heap; state = state; why = u.1 }),
      )
      go (inl t) = elim (turns-left heap (concat t.0)) [
        | inl l ↦ inr (
          fault.LeftOver l.0,
          left_over l.0 refl (record {
            vars = vars;
            heap = heap;
            state = state;
            why = record { parts = t.0; all = t.1; there = l.1; least = l.2 };
          }),
        )
        | inr empty ↦
            let unit = unit-exists vars heap (state-bounds p g text vars heap state) in
            inl (
              t.0,
              unit.0,
              record {
                state = state;
                is_fresh = refl;
                starts = start-made t.0 t.1 t.2 empty;
                first_unit = unit.1;
              },
            )
      ]

pub start_exists : DeterminedHasOrder → OrderedIsDetermined → OrderKeepsMeaning → FootprintIsDecided → StartExists
unfolding StartExists
start_exists orders ordered keeps decided p f g text formed determined there free other =
    go (text_refusal (format_of p g) text) refl
  where
    tell : (vars : Var → Value) (a : Assertion) → Contains (assertions_of p g (gives_fresh p g text)) a → (h : Cells)
        → HasFootprintOrNone a.level vars (heap_of h)
    tell vars a c h = footprint-decided orders ordered keeps decided a.level vars h
        (All-contains (λ (b : Assertion). Determined b.level) (annotations_in p) a determined
        (precise-notes p f g (gives_fresh p g text) a there c))

    go : (o : Option StartFault) → text_refusal (format_of p g) text ≡ o
        → ((vars : Vars) × (heap : Cells) × (parts : List (List ℕ)) × (unit : ℕ) × (is_fresh : Bool)
        × IsStartText p f g text vars heap parts unit is_fresh) ⊎ ((e : StartFault) × IsStartFault p g text e)
    go (Some e) r = inr (e, refused r)
    go None r =
        let s = state-exists p f g text formed there r in
        elim (start-decided p f g text s.0 s.1 formed there free other s.2 (tell (value_of s.0))) [
          | inl t ↦ inl (s.0, s.1, t.0, t.1, gives_fresh p g text, t.2)
          | inr e ↦ inr e
        ]
