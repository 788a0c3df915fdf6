use Rattle.std.proofs.Common.{◌≢◌, map, length, sym, ap, ◌∙◌, arith, length-set}
use Rattle.std.proofs.lemmas.List.{get_or-set_other}
use Rattle.sf_core.specs.Program.Syntax.{level}
use Rattle.sf_core.specs.Program.View.{conjunct_of, conjuncts}
use Rattle.sf_sym.specs.Equalities.{put_for}
use Rattle.sf_sym.specs.Mapped.{conjunct_with, level_with}
use Rattle.sf_sym.proofs.Conjuncts.{conjuncts_with-map, level_of-out, level_of-roll}
use Rattle.sf_sym.proofs.InPlace.{vec-whole, viewed_next}
use Rattle.sf_sym.proofs.replace.Replacement.+replaced.Goals as goal

pub in_conjuncts-loop-i-preserved : goal.in_conjuncts-loop-i-preserved
in_conjuncts-loop-i-preserved t c = record {
  unvisited = (
    length-set c.loop-i.cs c.loop-i.i c.in_conjunct.new.c ∙ c.loop-i.invariant.unvisited.0,
    λ k d le. let other : k ≢ c.loop-i.i = omega arith in
        rw get_or-set_other (c.loop-i.invariant.unvisited.1 k d (omega arith)),
  );
  replaced =
      viewed_next conjunct_of (conjunct_with (put_for c.args.self.symbol c.args.self.by)) c.args.cs.now
      c.loop-i.cs c.loop-i.i c.index-cs-i.result c.in_conjunct.new.c (omega arith)
      c.loop-i.invariant.unvisited.0 c.loop-i.invariant.replaced c.in_conjunct.ensures;
}

pub in_level-returns : goal.in_level-returns
in_level-returns t c =
    let made = c.args.level.now.made in
    let to = put_for c.args.self.symbol c.args.self.by in
    level_of-roll _
    ∙ ap (λ cs. level made (conjuncts (map conjunct_of cs)))
    (vec-whole c.args.level.now.conjuncts c.in_conjuncts.new.cs
    (omega (arith, c.in_conjuncts.auto.cs, ap length c.deref_mut.ensures.value)))
    ∙ ap (λ cs. level made (conjuncts cs)) (c.in_conjuncts.ensures
    ∙ ap (λ cs. map (conjunct_with to) (map conjunct_of cs)) c.deref_mut.ensures.value)
    ∙ ap (level made) (conjuncts_with-map to (map conjunct_of c.args.level.now.conjuncts.items))
    ∙ ap (level_with to) (sym (level_of-out c.args.level.now))
