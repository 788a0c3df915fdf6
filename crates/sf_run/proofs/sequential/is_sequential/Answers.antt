use Rattle.std.proofs.Common.{◌≡◌, ◌∙◌, ◌<◌, List, [], Bool, Contains, None, length, map, false, true≢false, ap, refl, sym, subst, arith}
use Rattle.std.proofs.lemmas.Grind.{common_steps}
use Rattle.std.proofs.lemmas.List.{length-map}
use Rattle.sf_calls.specs.Checked.Tests.{callees_in}
use Rattle.sf_calls.specs.Checked.Visited.{IsVisited}
use Rattle.sf_core.specs.Program.Heads.{Site, sites}
use Rattle.sf_core.specs.Program.ProgramView.{program_of}
use Rattle.sf_core.specs.Program.Sites.{site_of}
use Rattle.sf_core.specs.Program.View.{block_of, procedure_of}
use Rattle.sf_run.specs.Checked.Searches.{HasFork, VisitsOrForks}
use Rattle.sf_run.proofs.Searching.{none_visited, search_ends, search_forks, search_goes_on, search_starts, search_within, sites_within}
use Rattle.sf_run.proofs.sequential.is_sequential.Goals as goal

pub loop-g-init : goal.loop-g-init
loop-g-init c =
    let n : c.len.result ≡ length c.args.p.now.procedures.items = grind (arith, common_steps) in
    search_starts (program_of c.args.p.now) c.args.f c.in_ok-visited.visited.items c.visit.new.visited.items
    c.new-queue.result.items c.visit.new.queue.items
    (c.in_ok-visited.ensures.size ∙ n ∙ sym (length-map c.args.p.now.procedures.items procedure_of))
    (λ g v. none_visited c.len.result g
    (subst (λ (z : List Bool). IsVisited z g) c.in_ok-visited.ensures.items v)) c.new-queue.ensures.items
    c.in_ok-visit.ensures

pub proc-requires : goal.proc-requires
proc-requires c =
    let below = search_within (program_of c.args.p.now) c.args.f c.loop-g.visited.items c.loop-g.queue.items
    c.pop.new.self.items c.in-Some.g c.in-Some.ensures.items c.loop-g.invariant in
    omega (arith, below, length-map c.args.p.now.procedures.items procedure_of)

pub visit_callees-requires : goal.visit_callees-requires
visit_callees-requires c =
    let are = ap (map site_of) c.deref-in-Some.ensures.value ∙ c.in_ok-body.ensures
    ∙ ap (λ xs. sites [] (block_of xs)) c.deref.ensures.value in
    λ g h. subst (λ n. g.0 < n) (sym c.loop-g.invariant.size)
    (sites_within (program_of c.args.p.now) (procedure_of c.proc.result.now) g
    (c.args.p.now.formed.procedures _ _ c.proc.ensures.meaning)
    (subst (λ (z : List Site). Contains (callees_in None z) g) are h))

pub returns-then-branch : goal.returns-then-branch
returns-then-branch c =
    let are = ap (map site_of) c.deref-in-Some.ensures.value ∙ c.in_ok-body.ensures
    ∙ ap (λ xs. sites [] (block_of xs)) c.deref.ensures.value in (
      λ e. absurd (true≢false (sym e)),
      λ n. absurd (search_forks (program_of c.args.p.now) c.args.f c.loop-g.visited.items c.loop-g.queue.items
          c.pop.new.self.items c.in-Some.g (procedure_of c.proc.result.now) c.in-Some.ensures.items
          c.proc.ensures.meaning c.loop-g.invariant
          (subst HasFork are (rw c.if-branch.true at c.in_ok-visit_callees.ensures)) n),
    )

pub loop-g-preserved : goal.loop-g-preserved
loop-g-preserved c =
    let are = ap (map site_of) c.deref-in-Some.ensures.value ∙ c.in_ok-body.ensures
    ∙ ap (λ xs. sites [] (block_of xs)) c.deref.ensures.value in
    search_goes_on (program_of c.args.p.now) c.args.f c.loop-g.visited.items c.loop-g.queue.items
    c.pop.new.self.items c.in-Some.g (procedure_of c.proc.result.now) c.visit_callees.new.visited.items
    c.visit_callees.new.queue.items c.in-Some.ensures.items c.proc.ensures.meaning c.loop-g.invariant
    (subst (λ (z : List Site). VisitsOrForks false z c.loop-g.visited.items c.pop.new.self.items
    c.visit_callees.new.visited.items c.visit_callees.new.queue.items) are
    (rw c.if-branch.false at c.in_ok-visit_callees.ensures))

pub returns : goal.returns
returns c = (
  λ e. search_ends (program_of c.args.p.now) c.args.f c.loop-g.visited.items c.loop-g.queue.items
      (omega (arith, c.in_default.ensures.cases)) c.loop-g.invariant,
  λ n. refl,
)
