use Rattle.sf_rules.proofs.Firsts.{field_is}
use Rattle.sf_rules.proofs.start.links_of.Goals as goal

pub returns : goal.returns
returns c = λ i. record {
  tl = field_is c.args.p.now.fields.items _ c.args.p.now.links.tl c.args.p.now.linked.next i;
  pv = field_is c.args.p.now.fields.items _ c.args.p.now.links.pv c.args.p.now.linked.back i;
  l = field_is c.args.p.now.fields.items _ c.args.p.now.links.l c.args.p.now.linked.left i;
  r = field_is c.args.p.now.fields.items _ c.args.p.now.links.r c.args.p.now.linked.right i;
}
