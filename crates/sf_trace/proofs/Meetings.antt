-- What each event of a part has to do with others.
-- Names: `KIND-WHAT`; the lemmas of the laws have the names of their functions.
use Rattle.std.specs.Prelude.{◌≡◌, ◌↔◌}
use Rattle.std.proofs.Common.{true≢false, sym, ◌∙◌, subst, inl, inr}
use Rattle.sf_base.specs.declared.ids.ResId.{ResId}
use Rattle.sf_core.specs.Machine.Next.{Next, does, leaves, returns, joins, nothing}
use Rattle.sf_core.specs.Program.Syntax.{Command, assign, look_up, mutate, new, dispose, if, while, call, fork, with, Program}
use Rattle.sf_part.specs.Steps.{IsEntry, IsExit, IsLocal, IsPrivate}
use Rattle.sf_trace.specs.Checked.Laws.{MeetsNoChild, ParallelCallsFork, PrivateActsMeetNobody, RegionsTouchOne, SettlingFreesAll}
use Rattle.sf_trace.specs.Logs.{FreesAll}
use Rattle.sf_trace.specs.Trace.{Forks, IsParallel, IsRegion, Joins, Touches}

local-region : (c : Command) (r : ResId) → IsLocal c → IsRegion c r → ⊥
local-region (assign place x e) r l t = t
local-region (look_up place x e field) r l t = t
local-region (mutate place e field v) r l t = t
local-region (new place x) r l t = t
local-region (dispose place e) r l t = t
local-region (if place test this that) r l t = t
local-region (while place test kept body) r l t = t
local-region (call place c) r l t = t
local-region (fork place c d) r l t = t
local-region (with place q test body) r l t = l

local-parallel : (c : Command) → IsLocal c → IsParallel c → ⊥
local-parallel (assign place x e) l t = t
local-parallel (look_up place x e field) l t = t
local-parallel (mutate place e field v) l t = t
local-parallel (new place x) l t = t
local-parallel (dispose place e) l t = t
local-parallel (if place test this that) l t = t
local-parallel (while place test kept body) l t = t
local-parallel (call place c) l t = t
local-parallel (fork place c d) l t = l
local-parallel (with place q test body) l t = t

private-touches : (p : Program) (what : Next) (r : ResId) → IsPrivate p what → Touches what r → ⊥
private-touches p (does f below c rest) r k t = local-region c r k t
private-touches p (leaves f below q rest) r k t = k
private-touches p (returns f below) r k t = t
private-touches p (joins frames one two) r k t = t
private-touches p nothing r k t = t

private-meets : (p : Program) (what : Next) → IsPrivate p what → MeetsNoChild p what
private-meets p (does f below c rest) k = record {
  forks = local-parallel c k;
  joins = λ t. t;
  frees = λ t. t;
}
private-meets p (leaves f below q rest) k = absurd k
private-meets p (returns f below) k = record {
  forks = λ t. t;
  joins = λ t. t;
  frees = λ t. true≢false (sym t ∙ k);
}
private-meets p (joins frames one two) k = absurd k
private-meets p nothing k = absurd k

pub private_acts_meet_nobody : PrivateActsMeetNobody
unfolding PrivateActsMeetNobody
private_acts_meet_nobody p what k = ((λ r t. private-touches p what r k t), private-meets p what k)

entry-touches : (p : Program) (what : Next) (r : ResId) → IsEntry what r
    → ((q : ResId) → Touches what q ↔ (r ≡ q)) × MeetsNoChild p what
entry-touches p what r (f, below, place, test, body, rest, is) =
    subst (λ z. ((q : ResId) → Touches z q ↔ (r ≡ q)) × MeetsNoChild p z) (sym is)
    ((λ q. ((λ t. t), (λ t. t))), record { forks = λ t. t; joins = λ t. t; frees = λ t. t })

exit-touches : (p : Program) (what : Next) (r : ResId) → IsExit what r
    → ((q : ResId) → Touches what q ↔ (r ≡ q)) × MeetsNoChild p what
exit-touches p what r (f, below, rest, is) =
    subst (λ z. ((q : ResId) → Touches z q ↔ (r ≡ q)) × MeetsNoChild p z) (sym is)
    ((λ q. ((λ t. t), (λ t. t))), record { forks = λ t. t; joins = λ t. t; frees = λ t. t })

pub regions_touch_one : RegionsTouchOne
unfolding RegionsTouchOne
regions_touch_one p what r (inl k) = entry-touches p what r k
regions_touch_one p what r (inr k) = exit-touches p what r k

pub parallel_calls_fork : ParallelCallsFork
unfolding ParallelCallsFork
parallel_calls_fork p what (f, below, place, c, d, rest, is) =
    subst (λ z. Forks z × ((r : ResId) → Touches z r → ⊥) × (Joins z → ⊥) × (FreesAll p z → ⊥))
    (sym is) (tt, (λ r t. t), (λ t. t), (λ t. t))

pub settling_frees_all : SettlingFreesAll
unfolding SettlingFreesAll
settling_frees_all p (does f below c rest) = ((λ t. t), (λ t. t))
settling_frees_all p (leaves f below q rest) = ((λ t. t), (λ t. t))
settling_frees_all p (returns f below) = ((λ t. t), (λ t. t))
settling_frees_all p (joins frames one two) = ((λ t. t), (λ t. t))
settling_frees_all p nothing = ((λ t. t), (λ t. t))
