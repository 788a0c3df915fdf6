use Rattle.std.proofs.Common.{◌++◌, map, sym, ap, ap₂, ◌∙◌, subst}
use Rattle.std.proofs.lemmas.List.{append-nil}
use Rattle.sf_sym.specs.Checked.Empties.{empties}
use Rattle.sf_sym.specs.Equalities.{numbered_with, put_for}
use Rattle.sf_sym.specs.Numbers.{AreRising, numbers}
use Rattle.sf_sym.proofs.EmptyNumbers.{empty-next, rising-front, rising-next}
use Rattle.sf_sym.proofs.Making.{no_more}
use Rattle.sf_sym.proofs.atoms.Atoms.empty_with.Goals as goal

pub loop-a-init : goal.loop-a-init
loop-a-init c =
    let to = numbered_with (put_for c.args.r.symbol c.args.r.by) in
    let none = c.new-empty.ensures.empty in
    record {
      done = ap₂ (λ ks xs. ks ++ empties (map to xs)) none c.as_slice-left.ensures;
      rising = subst (λ ks. AreRising (ks ++ numbers c.as_slice-left.result.now)) (sym none)
          (subst (λ xs. AreRising (numbers xs)) (sym c.as_slice-left.ensures) c.requires);
    }

pub note-requires : goal.note-requires
note-requires c =
    let a = c.in-Some.a.now in
    let rising = subst (λ xs. AreRising (c.loop-a.empty.keys ++ numbers xs)) c.in-Some.ensures.cases.0 c.loop-a.invariant.rising in
    rising-front c.loop-a.empty.keys c.row_with.result.number a.number (numbers c.in-Some.rest.now)
    (ap (λ r. r.number) c.row_with.ensures) rising

pub loop-a-preserved : goal.loop-a-preserved
loop-a-preserved c =
    let to = numbered_with (put_for c.args.r.symbol c.args.r.by) in
    let a = c.in-Some.a.now in
    let rest = c.in-Some.rest.now in
    let ks = c.loop-a.empty.keys in
    let row = c.row_with.result in
    let told = c.in_ok-note.ensures.ok in
    let cases = c.in-Some.ensures.cases.0 in
    record {
      done = ap (λ zs. zs ++ empties (map to rest)) told
          ∙ empty-next ks row (to a) (map to rest) c.row_with.ensures
          ∙ ap (λ xs. ks ++ empties (map to xs)) (sym cases) ∙ c.loop-a.invariant.done;
      rising = subst (λ zs. AreRising (zs ++ numbers rest)) (sym told)
          (rising-next ks row a.number (numbers rest) (ap (λ r. r.number) c.row_with.ensures)
          (subst (λ xs. AreRising (ks ++ numbers xs)) cases c.loop-a.invariant.rising));
    }

pub returns : goal.returns
returns c =
    let to = numbered_with (put_for c.args.r.symbol c.args.r.by) in
    let none = no_more c.loop-a.left.now c.in_default.ensures.cases in
    sym (append-nil c.loop-a.empty.keys) ∙ ap (λ xs. c.loop-a.empty.keys ++ empties (map to xs)) (sym none)
    ∙ c.loop-a.invariant.done
