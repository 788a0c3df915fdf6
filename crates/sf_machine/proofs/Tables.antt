-- The numbers that are used where a run begins, and the configuration there.
-- Names: `used_first`, `begins_as`.
use Rattle.std.specs.Prelude.{◌≡◌, ℕ, ◌==◌, Bool, true, false, cond, []}
use Rattle.std.specs.List.{list_any}
use Rattle.std.specs.Ordering.{nat_cmp, is_eq}
use Rattle.std.specs.BTreeMap.{is_at}
use Rattle.std.specs.BTreeSet.{BTreeSet, contains}
use Rattle.std.specs.Cmp.{nat_eq_equiv}
use Rattle.std.proofs.Common.{ap, ◌∙◌, refl}
use Rattle.sf_base.proofs.Numbers.{at-is}
use Rattle.sf_base.specs.declared.ids.ProcId.{ProcId}
use Rattle.sf_core.specs.Machine.Config.{runs}
use Rattle.sf_core.specs.Machine.Start.{Beginning, first_frames, initial_config}
use Rattle.sf_core.specs.Program.Syntax.{Procedure, Program}
use Rattle.sf_foot.specs.declared.vars.Vars.{Vars}
use Rattle.sf_foot.specs.Starting.{store_of}
use Rattle.sf_heap.specs.Cells.{Cells, heap_of}
use Rattle.sf_frame.specs.Commons.{common_of}
use Rattle.sf_machine.specs.declared.config.Config.{Config as CodeConfig}
use Rattle.sf_machine.specs.Configs.{config_of}

-- the first number that is used
pub used_first : (old new : BTreeSet ℕ) → old.keys ≡ []
    → ((q : ℕ) → contains nat_cmp new q ≡ cond (is_eq (nat_cmp 0 q)) true (contains nat_cmp old q)) → (n : ℕ)
    → contains nat_cmp new n ≡ (n == 0)
used_first old new e h n =
    let none : contains nat_cmp old n ≡ false = ap (λ ks. list_any (is_at (nat_cmp n)) ks) e in
    h n ∙ (λ k. cond ((at-is 0 n ∙ nat_eq_equiv.symm 0 n) k) true (none k)) ∙ chosen (n == 0)
  where
    chosen : (b : Bool) → cond b true false ≡ b
    chosen true = refl
    chosen false = refl

-- a configuration of these parts is the one in which a procedure starts
pub begins_as : (p : Program) (f : ProcId) (g : Procedure) (b : Beginning) (vars : Vars) (heap : Cells)
    (c : CodeConfig)
    → common_of c.common ≡ (initial_config b p f g (store_of b g vars) (heap_of heap)).common
    → ((n : ℕ) → contains nat_cmp c.used n ≡ (n == 0))
    → (config_of c).tasks ≡ runs (first_frames b f g)
    → config_of c ≡ initial_config b p f g (store_of b g vars) (heap_of heap)
begins_as p f g b vars heap c s u t = λ i. record {
  common = s i;
  used = λ n. u n i;
  tasks = t i;
}
