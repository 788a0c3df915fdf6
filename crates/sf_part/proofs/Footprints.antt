-- Footprints of assertions in order are those of the assertions themselves.
-- Names: `foot-LAW`.
use Rattle.std.specs.Prelude.{◌≡◌, ℕ, List}
use Rattle.std.proofs.Common.{sym, subst}
use Rattle.sf_base.specs.declared.ids.Var.{Var}
use Rattle.sf_base.specs.declared.value.Value.{Value}
use Rattle.sf_base.specs.declared.value.Value.TheVariants.{Nil as nil}
use Rattle.sf_base.specs.HeapStore.{Heap}
use Rattle.sf_core.specs.Assertions.Sat.{Sat, value}
use Rattle.sf_core.specs.Program.Syntax.{Assertion}
use Rattle.sf_foot.specs.Footprint.{HasNoFootprint, IsFootprint}
use Rattle.sf_precise.specs.Checked.Laws.{OrderKeepsMeaning}
use Rattle.sf_precise.specs.Order.{IsOrderOf}

module _ (keeps : OrderKeepsMeaning) (a o : Assertion) (ord : IsOrderOf a o)
    (known vars : Var → Value) (same : (x : Var) → known x ≡ vars x) (heap : Heap) where
  values : known ≡ vars
  values = λ i x. same x i

  pub foot-found : (ls : List ℕ) → IsFootprint o.level known heap ls
      → IsFootprint a.level vars heap ls
  foot-found ls f = subst (λ z. IsFootprint a.level z heap ls) values (record {
    part = f.part;
    foot = record {
      rest = f.foot.rest;
      splits = f.foot.splits;
      sat = (keeps a.level o.level known (λ n. nil) f.part ord.level).1 f.foot.sat;
    };
    at = f.at;
  })

  pub foot-none : HasNoFootprint o.level known heap → HasNoFootprint a.level vars heap
  foot-none none part f = none part (record {
    rest = f.rest;
    splits = f.splits;
    sat = (keeps a.level o.level known (λ n. nil) part ord.level).0
        (subst (λ z. Sat a.level (value z) (λ n. nil) part) (sym values) f.sat);
  })
