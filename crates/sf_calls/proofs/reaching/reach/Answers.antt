use Rattle.sf_calls.proofs.reaching.reach.Goals as goal

pub takes_sets-requires : goal.takes_sets-requires
takes_sets-requires c =
    record {
      summaries = rw c.deref.ensures.value c.in_ok-summaries.ensures;
      keys = rw c.deref-2.ensures.value c.in_ok-resources.ensures;
    }

pub holds_sets-requires : goal.holds_sets-requires
holds_sets-requires c =
    record {
      summaries = rw c.deref-3.ensures.value c.in_ok-summaries.ensures;
      keys = rw c.deref-4.ensures.value c.in_ok-resources.ensures;
    }

pub free_sets-requires : goal.free_sets-requires
free_sets-requires c =
    record {
      summaries = rw c.deref-5.ensures.value c.in_ok-summaries.ensures;
      keys = rw c.deref-6.ensures.value c.in_ok-variables.ensures;
    }
