use Rattle.std.proofs.Common.{◌∙◌, length, subst, sym}
use Rattle.sf_part.specs.Checked.Stepping.{own_event}
use Rattle.sf_part.specs.Of.{IsOf}
use Rattle.sf_part.specs.PartView.{part_of}
use Rattle.sf_part.specs.Steps.{Joins}
use Rattle.sf_part.specs.Timed.{TimedPart}
use Rattle.sf_part.proofs.Joined.{made-joins, made-whole, may-still, same-log}
use Rattle.sf_part.proofs.part.Part.join.Goals as goal

pub returns-in-Ok-joined-clause-ok : goal.returns-in-Ok-joined-clause-ok
returns-in-Ok-joined-clause-ok c =
    let a = c.args.self.now in
    let items = c.reserve.new.self.items in
    let may = may-still a (part_of c.args.left) (part_of c.args.right) items
    c.reserve.ensures.items c.requires in
    let made = c.in-Ok-joined.ensures.ok in (
      own_event a made.0,
      λ p. subst (λ (z : TimedPart). Joins p (own_event a made.0) z (part_of c.args.left)
          (part_of c.args.right) (part_of c.joined-2.new.self))
          (same-log a items c.reserve.ensures.items)
          (made-joins _ c.args.left c.args.right c.joined-2.new.self made.0 may made.1 p),
    )

pub returns-in-Ok-joined-clause-of : goal.returns-in-Ok-joined-clause-of
returns-in-Ok-joined-clause-of c = λ p of l r goes.
    let may = may-still c.args.self.now (part_of c.args.left) (part_of c.args.right)
    c.reserve.new.self.items c.reserve.ensures.items c.requires in
    let made = c.in-Ok-joined.ensures.ok in
    made-whole _ c.args.left c.args.right c.joined-2.new.self made.0 may made.1 p
    (record { is = of.is; wide = of.wide; blank = of.blank }) goes
    (c.in-Ok-joined.ensures.width (length p.fields) of.wide l.wide r.wide)
    c.in-Ok-joined.ensures.blank

pub returns-clause-of : goal.returns-clause-of
returns-clause-of c = λ p of l r goes. record {
  is = subst (λ (z : TimedPart). IsOf p z.part) (sym c.in-Err-joined.ensures.err) of.is;
  wide = c.in-Err-joined.ensures.width (length p.fields) of.wide l.wide r.wide;
  blank = c.in-Err-joined.ensures.blank ∙ of.blank;
}
