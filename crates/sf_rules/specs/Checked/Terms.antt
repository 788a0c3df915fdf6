-- How the code's sources of terms are read.
-- Ordinary: one case a case.
use Rattle.sf_core.specs.declared.command.Expr.{Expr}
use Rattle.sf_core.specs.Program.View.{call_of}
use Rattle.sf_rules.specs.declared.words.Terms.{Terms}
use Rattle.sf_rules.specs.declared.words.Terms.TheVariants.{Of, OfCallee}
use Rattle.sf_rules.specs.Callee.{callee_term, term_by}
use Rattle.sf_sym.specs.declared.term.Term.{Term}
use Rattle.sf_sym.specs.State.{term, term_at}

-- the term of an expression
abbrev pub terms_of : Terms → Expr → Term
terms_of (Of vars) = term vars.now
terms_of (OfCallee vars call values) = term_by (callee_term (term_at vars.now) (call_of call.now) values.now)
