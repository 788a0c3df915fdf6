use Rattle.std.proofs.Common.{◌++◌, ◌∷◌, [], sym, subst}
use Rattle.std.proofs.lemmas.List.{nil_from_length}
use Rattle.sf_sym.specs.Checked.Sets.{AreSame}
use Rattle.sf_sym.proofs.PairSets.{all-put, one-put, same-more}
use Rattle.sf_sym.proofs.pairs.set_of.Goals as goal

pub loop-p-preserved : goal.loop-p-preserved
loop-p-preserved c =
    let list = c.args.list.now in
    let keys = c.loop-p.set.keys in
    let p = c.in-Some.p.now in
    let rest = c.in-Some.rest.now in
    let was = subst (λ xs. AreSame list (keys ++ xs)) c.in-Some.ensures.cases.0 c.loop-p.invariant in
    subst (λ ks. AreSame list (ks ++ rest)) (sym c.in_ok-insert.ensures.keys)
    (one-put p.0 p.1 list keys rest was)

pub returns : goal.returns
returns c =
    let list = c.args.list.now in
    let keys = c.loop-p.set.keys in
    let left = c.loop-p.left.now in
    let none = nil_from_length left c.in_default.ensures.cases in
    let all = all-put list keys left none c.loop-p.invariant in
    subst (AreSame (list ++ c.args.pair ∷ [])) (sym c.in_ok-insert-2.ensures.keys)
    (same-more c.args.pair.0 c.args.pair.1 list keys all)
