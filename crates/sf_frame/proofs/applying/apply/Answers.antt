use Rattle.sf_frame.proofs.applying.apply.Goals as goal

pub returns-in-Edits-clause-width : goal.returns-in-Edits-clause-width
returns-in-Edits-clause-width c = λ count e w. c.edit.ensures.width count w
