use Rattle.std.proofs.Common.{◌≡◌, ◌++◌, [], ◌∷◌, sym, ap, ◌∙◌, subst, true}
use Rattle.sf_core.specs.declared.assertion.Operand.{Operand}
use Rattle.sf_sym.specs.declared.term.Term.{Term}
use Rattle.sf_sym.specs.Decided.{term_of}
use Rattle.sf_witness.specs.Checked.Meeting.{HasValue, IsConsistent, Meets, Met, Refutes, found}
use Rattle.sf_witness.proofs.Equations.{consistent-new, meets-found, meets-new, refutes-found}
use Rattle.sf_witness.proofs.meeting.meet.Goals as goal

pub returns-in-Some-found-clause-yes : goal.returns-in-Some-found-clause-yes
returns-in-Some-found-clause-yes c e =
    let met = ap (λ m. found m c.in-Exists.n) c.deref.ensures.value in
    subst (λ (x : Operand Term). Meets c.args.bindings.now c.args.met.now.items c.args.met.now.items
    (λ some. HasValue c.args.v some x)) (sym c.in-Exists.is)
    (meets-found c.args.bindings.now c.args.met.now.items c.in-Exists.n c.in-Some-found.u c.args.v
    (sym met ∙ sym c.found.ensures ∙ c.in-Some-found.is) (c.is_same-in-Some-found.ensures.0 e))

pub returns-in-Some-found-clause-no : goal.returns-in-Some-found-clause-no
returns-in-Some-found-clause-no c e =
    let met = ap (λ m. found m c.in-Exists.n) c.deref.ensures.value in
    subst (λ (x : Operand Term). Refutes c.args.bindings.now c.args.met.now.items
    (λ some. HasValue c.args.v some x)) (sym c.in-Exists.is)
    (refutes-found c.args.bindings.now c.args.met.now.items c.in-Exists.n c.in-Some-found.u c.args.v
    (sym met ∙ sym c.found.ensures ∙ c.in-Some-found.is)
    (λ same. let b : c.is_same-in-Some-found.result ≡ true = c.is_same-in-Some-found.ensures.1 same in absurd (cc)))

pub returns-clause-consistent : goal.returns-clause-consistent
returns-clause-consistent c =
    subst (IsConsistent c.args.bindings.now) (sym c.in_ok-push.ensures.items)
    (consistent-new c.args.bindings.now c.args.met.now.items c.in-Exists.n c.args.v
    (sym (c.in_default.ensures ∙ ap (term_of c.args.bindings.now) c.in-Exists.is))
    (sym (c.in_default-found.ensures ∙ ap (λ m. found m c.in-Exists.n) c.deref.ensures.value)) c.requires)

pub returns-clause-yes : goal.returns-clause-yes
returns-clause-yes c e =
    subst (λ (m : Met). Meets c.args.bindings.now c.args.met.now.items m (λ some. HasValue c.args.v some c.args.x.now))
    (sym c.in_ok-push.ensures.items)
    (subst (λ (x : Operand Term). Meets c.args.bindings.now c.args.met.now.items (c.args.met.now.items ++ (c.in-Exists.n, c.args.v) ∷ [])
    (λ some. HasValue c.args.v some x)) (sym c.in-Exists.is)
    (meets-new c.args.bindings.now c.args.met.now.items c.in-Exists.n c.args.v))
