use Rattle.std.proofs.Common.{◌∙◌, inr, Some, None}
use Rattle.sf_state.proofs.FirstNamed.{named-view}
use Rattle.sf_state.proofs.entering.find_entry.Goals as goal

pub returns-then-is_free-clause-found : goal.returns-then-is_free-clause-found
returns-then-is_free-clause-found c =
    let free = c.is_free.ensures.yes c.if-is_free.true in
    record {
      named = named-view c.args.p.now.program.procedures.items c.args.name.now (Some c.in-Some.f.0)
          c.in-Some.ensures.first;
      free = free.0;
      other = free.1;
    }

pub returns-in_ok-name-in-Some-clause-refused : goal.returns-in_ok-name-in-Some-clause-refused
returns-in_ok-name-in-Some-clause-refused c = inr (
  c.in_ok-name-in-Some.ensures ∙ c.as_bytes.ensures.value,
  record {
    procedure = c.in-Some.f;
    named = named-view c.args.p.now.program.procedures.items c.args.name.now (Some c.in-Some.f.0)
        c.in-Some.ensures.first;
    holds = c.is_free.ensures.no c.if-is_free.false;
  },
)

pub returns-in_ok-name-in-None-clause-refused : goal.returns-in_ok-name-in-None-clause-refused
returns-in_ok-name-in-None-clause-refused c = inr (
  c.in_ok-name-in-None.ensures ∙ c.as_bytes-in-None.ensures.value,
  named-view c.args.p.now.program.procedures.items c.args.name.now None c.in-None.ensures.first,
)
