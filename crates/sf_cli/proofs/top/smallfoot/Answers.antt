use Rattle.std.proofs.Common.{◌∙◌, ℕ, arith, inl, subst, sym}
use Rattle.sf_cli.proofs.Accepted.{accepted-names, accepted-reply, accepting-said}
use Rattle.sf_cli.proofs.Complete.{complete-reply, complete-status}
use Rattle.sf_cli.proofs.Endings.{ended-reply}
use Rattle.sf_cli.specs.Answer.{Accepted, IsAnswering, IsSaid}
use Rattle.sf_cli.specs.SoundFile.{IsAccepting}
use Rattle.sf_words.specs.Words.{order_of}
use Rattle.sf_words.specs.WordsOf.{words_of}
use Rattle.sf_cli.proofs.top.smallfoot.Goals as goal

pub returns-in-Ok-clause-accepted : goal.returns-in-Ok-clause-accepted
returns-in-Ok-clause-accepted g c = λ asks accepting.
    let small : IsSaid c.tell.result = accepting-said c.tell.result accepting in
    let whole = c.tell.ensures.whole small in (
      c.in-Ok.said.text.items,
      whole.1,
      subst (λ (n : ℕ). Accepted (g.S.Shelf.files c.args.shelf.now) (words_of c.args.words.now) c.in-Ok.said.text.items n)
          (sym whole.0)
          (accepted-reply c.accepted_files_are_sound.ensures c.accepted_proofs_are_sound.ensures
          c.accepted_runs_are_sound.ensures (g.S.Shelf.files c.args.shelf.now) (g.S.Shelf.faults c.args.shelf.now)
          (g.S.Shelf.faults c.respond.new.shelf) (words_of c.args.words.now) c.in-Ok.said.text.items
          c.in-Ok.said.status asks (subst IsAccepting whole.0 accepting) c.in-Ok.ensures.said),
    )

pub returns-in-Ok-clause-ended : goal.returns-in-Ok-clause-ended
returns-in-Ok-clause-ended g c = λ zero.
    let small : IsSaid c.tell.result = inl (inl (omega (arith, zero))) in
    let whole = c.tell.ensures.whole small in (
      c.in-Ok.said.text.items,
      whole.1,
      ended-reply c.finished_runs_have_ended.ensures c.journals_reach_their_ends.ensures (g.S.Shelf.files c.args.shelf.now)
          (g.S.Shelf.faults c.args.shelf.now) (g.S.Shelf.faults c.respond.new.shelf) (order_of (words_of c.args.words.now))
          c.in-Ok.said.text.items c.in-Ok.said.status (sym whole.0 ∙ zero) c.in-Ok.ensures.said,
    )

pub returns-in-Ok-clause-complete : goal.returns-in-Ok-clause-complete
returns-in-Ok-clause-complete g c = λ shelf sink.
    let small : IsAnswering c.in-Ok.said.status =
    complete-reply (g.S.Shelf.files c.args.shelf.now) (g.S.Shelf.faults c.args.shelf.now)
    (g.S.Shelf.faults c.respond.new.shelf) (order_of (words_of c.args.words.now)) c.in-Ok.said.text.items
    c.in-Ok.said.status c.in-Ok.ensures.said shelf in
    complete-status c.tell.result c.in-Ok.said.status (λ below. (c.tell.ensures.whole below).0) small
    (λ e. sink (c.tell.ensures.failed e)) c.tell.ensures.last

pub returns-in-Ok-clause-quiet : goal.returns-in-Ok-clause-quiet
returns-in-Ok-clause-quiet g c = λ less.
    let whole = c.tell.ensures.whole (inl less) in
    c.in-Ok.ensures.quiet (subst IsAnswering whole.0 less)

pub returns-in-Ok-clause-sound : goal.returns-in-Ok-clause-sound
returns-in-Ok-clause-sound g c = λ asks accepting.
    let small : IsSaid c.tell.result = accepting-said c.tell.result accepting in
    let whole = c.tell.ensures.whole small in
    accepted-names (g.S.Shelf.files c.args.shelf.now) (words_of c.args.words.now) c.in-Ok.said.text.items
    c.in-Ok.said.status
    (accepted-reply c.accepted_files_are_sound.ensures c.accepted_proofs_are_sound.ensures
    c.accepted_runs_are_sound.ensures (g.S.Shelf.files c.args.shelf.now) (g.S.Shelf.faults c.args.shelf.now)
    (g.S.Shelf.faults c.respond.new.shelf) (words_of c.args.words.now) c.in-Ok.said.text.items
    c.in-Ok.said.status asks (subst IsAccepting whole.0 accepting) c.in-Ok.ensures.said)
