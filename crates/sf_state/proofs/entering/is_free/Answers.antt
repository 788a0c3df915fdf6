use Rattle.std.proofs.Common.{◌∙◌, inl, inr, sym, true≢false}
use Rattle.sf_state.proofs.entering.is_free.Goals as goal

pub returns-then-is_init : goal.returns-then-is_init
returns-then-is_init c = record {
  yes = λ e. absurd (true≢false (sym e));
  no = λ e. inr (sym c.is_init.ensures ∙ c.if-is_init.true);
}

pub returns : goal.returns
returns c = record {
  yes = λ e. (c.holds_none.ensures.free e, sym c.is_init.ensures ∙ c.if-is_init.false);
  no = λ e. inl (c.holds_none.ensures.held e);
}
