use Rattle.std.proofs.Common.{◌∷◌, [], ◌∙◌, ap, subst, sym}
use Rattle.sf_core.specs.Machine.Config.{Config}
use Rattle.sf_core.specs.Machine.Whole.{Whole}
use Rattle.sf_core.specs.Program.Syntax.{Program}
use Rattle.sf_part.specs.declared.part.Part.{Part}
use Rattle.sf_part.specs.PartView.{part_of}
use Rattle.sf_region.specs.Rule.{IsExactly}
use Rattle.sf_region.specs.Waits.{contents_in}
use Rattle.sf_run.proofs.Playing.{present-all}
use Rattle.sf_run.proofs.running.close.Goals as goal

pub finish-requires-clause-all : goal.finish-requires-clause-all
finish-requires-clause-all c = record {
  each = c.close-part.ensures.each;
  exactly = λ r k at. subst (λ (z : Program). IsExactly z r k) c.requires.program
      ((c.close-part.ensures.finished).exactly r k at);
}

pub finish-requires-clause-whole : goal.finish-requires-clause-whole
finish-requires-clause-whole c =
    let h = (c.close-part.ensures.finished).history (c.requires.began).0 (c.requires.began).1 in
    subst (λ (z : Part). (x : Config) × Whole ((part_of z).part ∷ [])
    (contents_in c.close-part.result.1.items) x) (sym c.close-part.ensures.part) (
      h.config,
      subst (λ z. Whole ((part_of c.args.task.1).part ∷ []) z h.config)
          (present-all c.close-part.result.1.items) h.whole,
    )

pub returns-clause-closed : goal.returns-clause-closed
returns-clause-closed c = record {
  contents = c.close-part.result.1.items;
  finished = c.close-part.ensures.finished;
  ends = λ w whole. c.in_ok-finish.ensures.ends w
      (subst (λ (z : Part). Whole ((part_of z).part ∷ [])
      (contents_in c.close-part.result.1.items) w) (sym c.close-part.ensures.part) whole);
  logged = c.in_ok-finish.ensures.log ∙ ap (λ (z : Part). (part_of z).log) c.close-part.ensures.part;
}
