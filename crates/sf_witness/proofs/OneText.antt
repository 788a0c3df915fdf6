-- Each goal has exactly one text of its witness.
-- Names: `each_goal_has_a_text`, `each_goal_has_one_text`.
use Rattle.std.proofs.Common.{◌≡◌, ◌↔◌, ◌++◌, Bool, true, false, codes, refl, sym, ap, ◌∙◌, inl, inr}
use Rattle.std.specs.FinMap.{keys}
use Rattle.std.specs.List.{flat_map, list_all}
use Rattle.sf_base.specs.declared.ids.ProcId.{ProcId}
use Rattle.sf_core.specs.Program.Syntax.{Program}
use Rattle.sf_foot.specs.Checked.Laws.{FootprintIsDecided}
use Rattle.sf_proof.specs.ProofText.{Text}
use Rattle.sf_sym.specs.declared.stuck.Stuck.{Stuck}
use Rattle.sf_sym.specs.Goal.{Goal}
use Rattle.sf_sym.specs.State.{State}
use Rattle.sf_sym.specs.Tests.{is_absurd, parts}
use Rattle.sf_witness.specs.Checked.Laws.{EachGoalHasAText, EachGoalHasOneText}
use Rattle.sf_witness.specs.Checked.Own.{are_new}
use Rattle.sf_witness.specs.Normal.{Normal, all_roots, is_open}
use Rattle.sf_witness.specs.Wanted.{WantHolds, whole_heap}
use Rattle.sf_witness.specs.WitnessState.{values}
use Rattle.sf_witness.specs.WitnessText.{IsTextOfWitness, WitnessText, cell_line, first_line, has_none, has_witness, value_line, want_line}
use Rattle.sf_witness.proofs.Decided.{IsDecided, want-decided}
use Rattle.sf_witness.proofs.Finite.{cells-heap, cells_of_atoms}
use Rattle.sf_witness.proofs.Normality.{normal_has, normal_is}
use Rattle.sf_heap.specs.Checked.Lemmas.Rising.{keys-at, rising-keys, rising-same}
use Rattle.sf_witness.proofs.Texts.{heap-at}

-- a state is normal or not
normal-decided : (s : State) → IsDecided (Normal s)
normal-decided s =
    go (are_new (λ n. false) (all_roots s.atoms ++ all_roots s.taken)) refl (list_all (λ a. is_open a.atom) (parts s)) refl
    (is_absurd s) refl
  where
    go : (a : Bool) → are_new (λ n. false) (all_roots s.atoms ++ all_roots s.taken) ≡ a → (o : Bool)
        → list_all (λ a. is_open a.atom) (parts s) ≡ o → (b : Bool) → is_absurd s ≡ b → IsDecided (Normal s)
    go false e o g b f = inr (λ n. let k : false ≡ true = sym e ∙ normal_has s n in absurd (cc))
    go true e false g b f = inr (λ n. let k : false ≡ true = sym g ∙ n.ends in absurd (cc))
    go true e true g true f = inr (λ n. let k : true ≡ false = sym f ∙ n.possible in absurd (cc))
    go true e true g false f = inl (normal_is s e g f)

-- the answer to whether it fails
says : {P : Type 0} → IsDecided P → (fails : Bool) × ((fails ≡ false) ↔ P)
says (inl p) = (false, (λ e. p, λ q. refl))
says (inr n) = (true, (λ e. absurd (cc), λ p. absurd (n p)))

module _ (p : Program) (f : ProcId) (goal : Goal) (kind : Stuck) where
  -- the text of a normal state's witness
  text-of : FootprintIsDecided → (text : Text) × IsTextOfWitness p f goal kind text
  text-of decided = go (says (want-decided decided goal kind))
    where
      go : (fails : Bool) × ((fails ≡ false) ↔ WantHolds goal kind)
          → (text : Text) × IsTextOfWitness p f goal kind text
      go w = (
        flat_map (value_line p f) (values goal.state.vars)
            ++ flat_map (cell_line p.fields (whole_heap goal.state))
            (keys (cells_of_atoms goal.state.links (parts goal.state))) ++ want_line w.0,
        record {
          locations = keys (cells_of_atoms goal.state.links (parts goal.state));
          rising = rising-keys (cells_of_atoms goal.state.links (parts goal.state));
          all = heap-at (cells_of_atoms goal.state.links (parts goal.state)) (whole_heap goal.state)
              (keys (cells_of_atoms goal.state.links (parts goal.state)))
              (keys-at (cells_of_atoms goal.state.links (parts goal.state)))
              (cells-heap goal.state.links (parts goal.state));
          fails = w.0;
          want = w.1;
          is = refl;
        },
      )

  -- two answers to whether it fails are one
  fails-one : (a b : Bool) → ((a ≡ false) ↔ WantHolds goal kind) → ((b ≡ false) ↔ WantHolds goal kind) → a ≡ b
  fails-one true true d e = refl
  fails-one true false d e = let k : true ≡ false = d.1 (e.0 refl) in absurd (cc)
  fails-one false true d e = let k : true ≡ false = e.1 (d.0 refl) in absurd (cc)
  fails-one false false d e = refl

  -- so are two texts of the witness
  text-one : (text other : Text) → IsTextOfWitness p f goal kind text → IsTextOfWitness p f goal kind other
      → text ≡ other
  text-one text other a b =
      a.is ∙ (λ i. flat_map (value_line p f) (values goal.state.vars)
      ++ flat_map (cell_line p.fields (whole_heap goal.state)) (locations i) ++ want_line (fails i))
      ∙ sym b.is
    where
      locations : a.locations ≡ b.locations
      locations = rising-same a.locations b.locations a.rising b.rising
          (λ l. (λ c. (b.all l).0 ((a.all l).1 c), λ c. (a.all l).0 ((b.all l).1 c)))

      fails : a.fails ≡ b.fails
      fails = fails-one a.fails b.fails a.want b.want

pub each_goal_has_a_text : FootprintIsDecided → EachGoalHasAText
unfolding EachGoalHasAText
each_goal_has_a_text decided p f goal kind = go (normal-decided goal.state)
  where
    go : IsDecided (Normal goal.state) → (text : Text) × WitnessText p f goal kind text
    go (inl n) =
        let w = text-of p f goal kind decided in
        (first_line p f goal kind ++ w.0, has_witness w.0 n w.1 refl)
    go (inr n) = (first_line p f goal kind ++ codes "no witness\n", has_none n refl)

pub each_goal_has_one_text : EachGoalHasOneText
unfolding EachGoalHasOneText
each_goal_has_one_text p f goal kind text other (has_witness rest n a e) (has_witness also m b g) =
    e ∙ ap (λ (t : Text). first_line p f goal kind ++ t) (text-one p f goal kind rest also a b) ∙ sym g
each_goal_has_one_text p f goal kind text other (has_witness rest n a e) (has_none m g) = absurd (m n)
each_goal_has_one_text p f goal kind text other (has_none n e) (has_witness also m b g) = absurd (n m)
each_goal_has_one_text p f goal kind text other (has_none n e) (has_none m g) = e ∙ sym g
