use Rattle.std.proofs.Common.{arith}
use Rattle.sf_cli.proofs.Replies.{fetched-ok}
use Rattle.sf_cli.proofs.reply.fetch_up_to.Goals as goal

pub returns-clause-fetched : goal.returns-clause-fetched
returns-clause-fetched g c =
    fetched-ok c.args.limit _ (omega arith) (g.S.Shelf.files c.args.shelf.now) c.args.name.now _ c.fetch.new.out.items c.new-bytes.ensures.items c.in_ok-fetch.ensures.told
