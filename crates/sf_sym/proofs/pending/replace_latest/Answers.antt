use Rattle.std.proofs.Common.{arith}
use Rattle.sf_sym.proofs.AboveSymbols.{put-latest, put-others}
use Rattle.sf_sym.proofs.pending.replace_latest.Goals as goal

pub returns-then-latest-bindings : goal.returns-then-latest-bindings
returns-then-latest-bindings c =
    put-latest c.args.r.symbol c.args.r.by c.args.r.symbol c.args.latest c.args.bindings.now c.in_binding.new.binding
    (omega arith) c.requires
    c.in_binding.ensures

pub returns-else-latest-bindings : goal.returns-else-latest-bindings
returns-else-latest-bindings c =
    put-others c.args.r.symbol c.args.r.by c.args.r.symbol c.args.latest c.args.bindings.now (omega arith)
    c.if-latest-bindings.false c.requires
