-- What is written of variables and cells is read back as these.
-- Names: `returned-LAW`, and the law.
use Rattle.std.proofs.Common.{◌≡◌, ◌<◌, ◌+◌, ◌++◌, ℕ, zero, suc, Bool, true, false, is_some, List, [], ◌∷◌, Option, Some, None, Contains, length, map, take, drop, slice_get, refl, sym, ap, ap₂, ◌∙◌, subst, arith, inl, Vec, Global, codes}
use Rattle.std.proofs.Math.Seq.{take-append_seam}
use Rattle.std.specs.FinMap.{contains_key, entries, get, keys, len, len-entries}
use Rattle.std.specs.List.{AllPairs, flat_map}
use Rattle.std.specs.List.Sorted.{IsStrictlyIncreasing}
use Rattle.std.proofs.lemmas.Bool.{false≢true}
use Rattle.std.proofs.lemmas.List.{length-append, length-map, length-take-le}
use Rattle.std.proofs.lemmas.List.Kept.{AllPairs-from_increasing}
use Rattle.std.proofs.lemmas.List.Elements.{All-contains}
use Rattle.sf_base.specs.declared.ids.ProcId.{ProcId}
use Rattle.sf_base.specs.declared.value.Value.{Value}
use Rattle.sf_base.proofs.Elements.{contains-cons, contains-rest, pairs-head, pairs-tail}
use Rattle.sf_base.proofs.Lists.{cons-parts}
use Rattle.sf_base.proofs.Numbers.{eqb-less}
use Rattle.sf_base.proofs.Options.{is_some-false}
use Rattle.sf_core.specs.Program.Formed.{IsFormed}
use Rattle.sf_core.specs.Program.Syntax.{Procedure, Program, Resource}
use Rattle.sf_heap.specs.Cells.{AreAt, Cells, FieldValues}
use Rattle.sf_foot.specs.declared.vars.Vars.{Vars}
use Rattle.sf_lines.specs.Lines.{Text}
use Rattle.sf_state.specs.Finishing.{values_of}
use Rattle.sf_state.specs.Checked.Laws.{ReadsBack, WrittenStatesReadBack}
use Rattle.sf_state.specs.Names.{format_of, has_init, names_of, names_of_resource, parameters, qualified}
use Rattle.sf_state.specs.Stated.{Gives, text_refusal}
use Rattle.sf_state.specs.Starts.{GivesState, by_resource}
use Rattle.sf_state.specs.StateText.{state_text, values_or_none}
use Rattle.sf_state.specs.Checked.Written.{AreWritable, HasNames, IsWritable}
use Rattle.sf_state.proofs.Back.{AreWritten, finished-back, text-back}
use Rattle.sf_state.proofs.WrittenLines.{AreCells, EachWritable, IsCell}
use Rattle.sf_state.proofs.Naming.{placed-fields, placed-names}
use Rattle.sf_state.proofs.Once.{finish-keys}
use Rattle.sf_heap.specs.Checked.Lemmas.Rising.{rising-keys, rising-same}

-- each of values that can be written can be, past their end too
returned-each : (values : List Value) → ((v : Value) → Contains values v → IsWritable v) → EachWritable values
returned-each [] h k = tt
returned-each (v ∷ values) h zero = h v ((contains-cons v values v).1 (inl refl))
returned-each (v ∷ values) h (suc k) = returned-each values (λ w c. h w (contains-rest v values w c)) k

-- what is after a first part
drop-seam : (xs ys : List Value) → drop (length xs) (xs ++ ys) ≡ ys
drop-seam [] ys = refl
drop-seam (x ∷ xs) ys = drop-seam xs ys

-- the values of resources' variables are as many as their names, and are theirs again
returned-shared : (rs : List Resource) (shared : List (Vec Value Global))
    → map (λ vs. length vs.items) shared ≡ map (λ r. length r.variables) rs
    → (length (flat_map (λ vs. vs.items) shared) ≡ length (flat_map names_of_resource rs))
    × (map (λ vs. vs.items) shared ≡ by_resource rs (flat_map (λ vs. vs.items) shared))
returned-shared [] [] e = (refl, refl)
returned-shared [] (vs ∷ shared) e = absurd cc
returned-shared (r ∷ rs) [] e = absurd cc
returned-shared (r ∷ rs) (vs ∷ shared) e =
    let parts = cons-parts (length vs.items) (length r.variables) (map (λ ws. length ws.items) shared)
    (map (λ q. length q.variables) rs) e in
    let more = returned-shared rs shared parts.1 in
    let size : length vs.items ≡ length r.variables = parts.0 in
    let named : length (names_of_resource r) ≡ length r.variables = length-map r.variables (qualified r.name) in (
      length-append vs.items (flat_map (λ ws. ws.items) shared)
          ∙ ap₂ ◌+◌ (size ∙ sym named) more.0
          ∙ sym (length-append (names_of_resource r) (flat_map names_of_resource rs)),
      ap₂ ◌∷◌ (sym (ap (λ n. take n (vs.items ++ flat_map (λ ws. ws.items) shared)) (sym size)
          ∙ take-append_seam vs.items (flat_map (λ ws. ws.items) shared)))
          (more.1 ∙ ap (by_resource rs) (sym (ap (λ n. drop n (vs.items ++ flat_map (λ ws. ws.items) shared)) (sym size)
          ∙ drop-seam vs.items (flat_map (λ ws. ws.items) shared)))),
    )

-- Variables and cells that can be written
module _ (p : Program) (f : ProcId) (g : Procedure) (vars : Vars) (heap : Cells) (formed : IsFormed p)
    (names : HasNames p) (there : slice_get p.procedures f.0 ≡ Some g) (w : AreWritable p g vars heap) where
  returned-size : length (values_of vars) ≡ length (names_of p g)
  returned-size =
      let shared = returned-shared p.resources vars.shared.items w.shared in
      let declared = (formed.procedures f.0 g there).declared in
      let own : length (parameters g) ≡ g.references + g.values =
      length-take-le (g.references + g.values) g.names (omega (arith, declared)) in
      length-append vars.own.items (flat_map (λ vs. vs.items) vars.shared.items)
      ∙ ap₂ ◌+◌ (w.own ∙ sym own) shared.0
      ∙ sym (length-append (parameters g) (flat_map names_of_resource p.resources))

  returned-cell : (l : ℕ) → contains_key heap l ≡ true → IsCell p.fields (names_of p g) (get heap) l
  returned-cell l h = go (get heap l) refl
    where
      go : (o : Option FieldValues) → get heap l ≡ o → IsCell p.fields (names_of p g) (get heap) l
      go None e = absurd (false≢true (sym (ap is_some e) ∙ h))
      go (Some values) e =
          let c = w.cells l values e in
          let same : values_or_none (get heap l) ≡ values = ap values_or_none e in
          record {
            location = c.location;
            there = e ∙ ap Some (sym same);
            size = ap length same ∙ c.size;
            each = subst EachWritable (sym same) (returned-each values c.each);
          }

  returned-cells : (ls : List ℕ) → AllPairs (λ a b. a < b) ls → ((l : ℕ) → Contains ls l → contains_key heap l ≡ true)
      → AreCells p.fields (names_of p g) (get heap) ls
  returned-cells [] r all = tt
  returned-cells (l ∷ ls) r all = (
    returned-cell l (all l ((contains-cons l ls l).1 (inl refl))),
    (λ q c. eqb-less l q (All-contains (λ b. l < b) ls q (pairs-head (λ a b. a < b) l ls r) c)),
    returned-cells ls (pairs-tail (λ a b. a < b) l ls r) (λ q c. all q (contains-rest l ls q c)),
  )

  returned-written : (ls : List ℕ) → IsStrictlyIncreasing ls → AreAt ls heap
      → AreWritten p.fields (names_of p g) (get heap) (values_of vars) ls
  returned-written ls rises at = record {
    fields_placed = placed-fields p names;
    names_placed = placed-names p f.0 g names there;
    size = returned-size;
    each = returned-each (values_of vars) w.values;
    at = returned-cells ls (AllPairs-from_increasing ls rises) (λ l c. (at l).1 c);
    out = λ l gone. is_some-false (get heap l) (absent l gone (contains_key heap l) refl);
    few = let same : length ls ≡ length (keys heap) = ap length (rising-same ls (keys heap) rises (rising-keys heap)
        (λ l. (λ c. (finish-keys heap l).0 ((at l).1 c), λ c. (at l).0 ((finish-keys heap l).1 c)))) in
        let size : length (keys heap) ≡ len heap =
        length-map (entries heap) (λ (e : ℕ × FieldValues). e.0) ∙ sym (len-entries heap) in
        omega (arith, same, size, w.few);
  }
    where
      absent : (l : ℕ) → (Contains ls l → ⊥) → (b : Bool) → contains_key heap l ≡ b → contains_key heap l ≡ false
      absent l gone false e = e
      absent l gone true e = absurd (gone ((at l).0 e))

  returned-state : (text : Text) → (text_refusal (format_of p g) text ≡ None)
      × Gives (format_of p g) text (values_of vars) (get heap) → GivesState p g text vars heap
  returned-state text t = record {
    accepted = t.0;
    values = values_of vars;
    gives = t.1;
    own = sym (ap (λ n. take n (values_of vars)) (sym w.own)
        ∙ take-append_seam vars.own.items (flat_map (λ vs. vs.items) vars.shared.items));
    shared = (returned-shared p.resources vars.shared.items w.shared).1
        ∙ ap (by_resource p.resources) (sym (ap (λ n. drop n (values_of vars)) (sym w.own)
        ∙ drop-seam vars.own.items (flat_map (λ vs. vs.items) vars.shared.items)));
  }

pub written_states_read_back : WrittenStatesReadBack
unfolding WrittenStatesReadBack
written_states_read_back p f g vars heap text formed names there w finish =
    let written = returned-written p f g vars heap formed names there w finish.locations finish.rising finish.all in
    subst (ReadsBack p g vars heap) (sym finish.is) (record {
      alone = λ short. returned-state p f g vars heap formed names there w
          (state_text p.fields (names_of p g) (values_of vars) (get heap) finish.locations)
          (text-back p.fields (names_of p g) (get heap) (length (parameters g)) (has_init p) (values_of vars) finish.locations written short);
      after_finished = λ short. returned-state p f g vars heap formed names there w
          (codes "finished\n" ++ state_text p.fields (names_of p g) (values_of vars) (get heap) finish.locations)
          (finished-back p.fields (names_of p g) (get heap) (length (parameters g)) (has_init p) (values_of vars) finish.locations written short);
    })
