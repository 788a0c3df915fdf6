use Rattle.std.proofs.Common.{◌≡◌, ◌-◌, ◌∙◌, ℕ, nat_eq, true, List, Contains, arith, length, replicate, subst, sym, ap}
use Rattle.std.specs.FinMap.{contains_key}
use Rattle.std.specs.List.{IsDistinct, concat}
use Rattle.std.proofs.lemmas.Bool.Decides.{Decides-eqb}
use Rattle.std.proofs.lemmas.Grind.{common_steps}
use Rattle.std.proofs.lemmas.List.{length-map}
use Rattle.std.proofs.lemmas.Map.Made.{is_member-Decides}
use Rattle.sf_base.specs.declared.value.Value.TheVariants.{Nil as nil}
use Rattle.sf_calls.specs.Checked.Lemmas.OneBreach.{conditions_had}
use Rattle.sf_core.specs.Program.ProgramView.{program_of}
use Rattle.sf_core.specs.Program.View.{resource_of}
use Rattle.sf_safe.proofs.Unheld.{unheld-is_not_free}
use Rattle.sf_part.specs.Checked.Parting.{ArePartedOff}
use Rattle.sf_part.specs.declared.stand.Stand.TheVariants.{Runs}
use Rattle.sf_part.specs.Parts.{part_with}
use Rattle.sf_part.proofs.Begun.{First, begun-few, begun-first}
use Rattle.sf_part.proofs.Parting.{concat-has, distinct-parts}
use Rattle.sf_part.proofs.part.Part.first.Goals.{After-new-3}
use Rattle.sf_part.proofs.part.Part.first.Goals as goal

pub part_contents-requires-clause-few : goal.part_contents-requires-clause-few
part_contents-requires-clause-few c =
    let s = c.requires.starts in
    let most = begun-few (program_of c.args.p.now.program) s.procedure c.args.start.fresh
    s.beginning c.args.start.vars c.args.start.heap c.args.start.parts.items s.kind s.footprints in
    let same = ap length c.deref.ensures.value in
    omega (arith, most, same, length-map c.args.p.now.program.resources.items resource_of)

pub part_contents-requires-clause-apart : goal.part_contents-requires-clause-apart
part_contents-requires-clause-apart c =
    distinct-parts c.deref.result.now (subst (λ (ps : List (List ℕ)). IsDistinct nat_eq (concat ps))
    (sym c.deref.ensures.value) c.requires.starts.union.0)

pub part_contents-requires-clause-there : goal.part_contents-requires-clause-there
part_contents-requires-clause-there c = λ j l h.
    let inside = subst (λ (ps : List (List ℕ)). Contains (concat ps) l) c.deref.ensures.value
    (concat-has c.deref.result.now j l h) in
    subst (λ z. contains_key z l ≡ true) (sym c.in_ok-shared.ensures.heap)
    (c.requires.starts.union.1 l
    ∙ (is_member-Decides Decides-eqb (concat c.args.start.parts.items) l).1 inside)

-- the part and the contents are the first
first : (c : After-new-3)
    → First (program_of c.args.p.now.program) c.args.f c.args.start.fresh c.args.start.vars
    c.args.start.heap c.args.start.unit c.args.steps c.part_contents.new.shared
    c.in_ok-contents.contents.items (part_with c.entry.result (Runs c.in_ok-stack.stack)
    c.part_contents.new.shared c.in_ok-supply.supply 0 c.args.keep c.new-3.result.items
    c.args.steps)
first c =
    let p = program_of c.args.p.now.program in
    let s = c.requires.starts in
    begun-first p c.args.p.now.program.formed c.args.f c.args.start.fresh c.args.start.vars
    c.args.start.heap c.args.start.parts.items s
    (λ r i. unheld-is_not_free p c.args.f r i c.args.p.now.program.formed
    (conditions_had p c.args.p.now.conditions) (s.starts.holds_none r)) c.in_ok-shared.shared
    c.part_contents.new.shared c.in_ok-contents.contents.items c.in_ok-shared.ensures.heap
    (c.in_ok-shared.ensures.common s.procedure s.beginning s.there s.kind)
    (subst (λ ps. ArePartedOff p.resources ps (length ps - 1) c.in_ok-shared.shared
    c.in_ok-contents.contents.items c.part_contents.new.shared) c.deref.ensures.value
    c.in_ok-contents.ensures)
    c.in_ok-stack.stack c.args.keep c.args.start.unit c.args.steps
    (c.in_ok-stack.ensures s.procedure s.beginning s.there s.kind) c.args.start.above
    c.requires.most c.entry.result c.entry.ensures c.in_ok-supply.supply c.in_ok-supply.ensures
    c.new-3.result.items c.new-3.ensures.items

pub invariant_of-part : goal.invariant_of-part
invariant_of-part c =
    let made = first (goal.at.invariant_of-part c).After-new-3 in
    record { kept = made.kept; own = made.own }

pub returns-clause-starts : goal.returns-clause-starts
returns-clause-starts c =
    let made = first (goal.at.returns-clause-starts c).After-new-3 in made.starts

pub returns-clause-of : goal.returns-clause-of
returns-clause-of c =
    let made = first (goal.at.returns-clause-of c).After-new-3 in
    let fields : c.len.result ≡ length c.args.p.now.program.fields.items =
    grind (arith, common_steps) in
    record {
      is = made.of;
      wide = made.wide;
      blank = c.in_ok-blank.ensures ∙ ap (λ n. replicate n nil) fields;
    }

pub returns-clause-contents : goal.returns-clause-contents
returns-clause-contents c =
    let made = first (goal.at.returns-clause-contents c).After-new-3 in made.contents_in

pub returns-clause-exactly : goal.returns-clause-exactly
returns-clause-exactly c =
    let made = first (goal.at.returns-clause-exactly c).After-new-3 in made.exactly
