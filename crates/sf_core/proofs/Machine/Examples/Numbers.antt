-- The examples of numbers, of the depth of forks, and of rooms.
-- Names: each example has the name of its function; `adds-WHAT` speaks of the numbers used.
use Rattle.std.specs.Prelude.{◌≡◌, ◌≢◌, ℕ, ◌==◌, ◌<◌, true, false, [], Some, None, length, cond, ◌&&◌, ◌≤◌}
use Rattle.std.proofs.Common.{true≢false, sym, ap, ◌∙◌, refl, subst, inl, inr, arith}
use Rattle.sf_base.specs.declared.value.Value.TheVariants.{Loc as loc}
use Rattle.sf_core.specs.Machine.Config.{Task, Common, Config, task_at, put_task, adds}
use Rattle.sf_core.specs.Program.Syntax.{Program}
use Rattle.std.proofs.lemmas.Bool.{cond-true}
use Rattle.sf_base.proofs.HeapSplits.{at-other, at-self}
use Rattle.sf_core.specs.Machine.Step.{Event, TaskStep, Step}
use Rattle.sf_core.specs.Checked.Machine.Examples.{set, skip, event, forking, setting_twice, twice_start, UsedNumbersStayUsed, DeepForksDoNotStep, LessDeepForksStep, HasNewRoom, RoomsAreNotGivenTwice}
use Rattle.sf_core.proofs.Machine.Determinism.{step-unique}
use Rattle.sf_core.proofs.Machine.Examples.Runs.{to}
use Rattle.sf_core.proofs.Machine.Progress.{step-stopped}

-- the number is used, and so it is not new
pub used_numbers_stay_used : UsedNumbersStayUsed
unfolding UsedNumbersStayUsed
used_numbers_stay_used k c d again s (inl e) r =
    true≢false (ap (λ f. f 1) (sym s.used) ∙ ap c.used (sym e) ∙ r.fresh)
used_numbers_stay_used k c d again s (inr e) r =
    true≢false (ap (λ f. f 0) (sym s.used) ∙ ap c.used (sym e) ∙ r.fresh)

-- the path is too deep
pub deep_forks_do_not_step : DeepForksDoNotStep
unfolding DeepForksDoNotStep
deep_forks_do_not_step p ev c d f one two rest below e there s =
    let deep : 63 ≤ length ev.task = omega arith in
    step-stopped p ev c d _ there (inl deep) s

-- both procedures are there, and the path is short enough
pub less_deep_forks_step : LessDeepForksStep
unfolding LessDeepForksStep
less_deep_forks_step ev c e there fresh =
    let short : length ev.task < 63 = omega arith in
    (_, to forking ev c _ _ _ fresh there (short, skip, skip, refl, refl, refl, refl))

-- a step that a task's event makes leads there
step-to : (p : Program) (ev : Event) (c d : Config) (t : Common) (from u : Task) → Step p ev c d
    → task_at ev.task c.tasks ≡ Some from → TaskStep p ev c.common from t u
    → d ≡ record { common = t; used = adds ev.number c.used; tasks = put_task ev.task u c.tasks }
step-to p ev c d t from u s e h = step-unique p ev c d _ s (to p ev c t from u s.fresh e h)

-- the first call's room is closed, and the second one's number is new
pub rooms_are_not_given_twice : RoomsAreNotGivenTwice
unfolding RoomsAreNotGivenTwice
rooms_are_not_given_twice k number d (c1, s1, (c2, s2, (c3, s3, (c4, s4, e)))) =
    let q1 = step-to setting_twice (event [] 1) (twice_start k) c1 _ _ _ s1 refl (set, refl, refl, refl) in
    let q2 = step-to setting_twice (event [] 2) _ c2 _ _ _
    (subst (λ z. Step setting_twice (event [] 2) z c2) q1 s2) refl
    (1, k, record { is = refl; there = refl }, refl, refl) in
    let q3 = step-to setting_twice (event [] 3) _ c3 _ _ _
    (subst (λ z. Step setting_twice (event [] 3) z c3) q2 s3) refl (tt, refl, refl) in
    let last = subst (λ z. Step setting_twice (event [] number) z c4) q3 s4 in
    let q4 = step-to setting_twice (event [] number) _ c4 _ _ _ last refl (set, refl, refl, refl) in
    let fresh : adds 3 (adds 2 (adds 1 (λ n. n == 0))) number ≡ false = last.fresh in
    let new : number ≢ 1 = differs number fresh in
    subst (HasNewRoom number) (sym (e ∙ q4)) (record {
      new = new;
      gone = ap (λ b. cond (b && true) (Some (loc 1)) None) (at-other number 1 (λ f. new (sym f)));
      there = cond-true (number == number && true) (Some (loc 1)) _ (ap (λ b. b && true) (at-self number));
    })
  where
    differs : (n : ℕ) → adds 3 (adds 2 (adds 1 (λ m. m == 0))) n ≡ false → n ≢ 1
    differs n f e = true≢false (ap (adds 3 (adds 2 (adds 1 (λ m. m == 0)))) (sym e) ∙ f)
