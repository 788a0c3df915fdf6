use Rattle.std.proofs.Common.{◌≡◌, length, ap, sym, subst, ◌∙◌, map, arith}
use Rattle.std.specs.List.{refill}
use Rattle.sf_sym.specs.Equalities.{put_for}
use Rattle.sf_sym.specs.Fields.{AreOrdered}
use Rattle.sf_sym.proofs.InPlace.{ordered-map}
use Rattle.sf_sym.proofs.PutTerms.{refill-whole}
use Rattle.sf_sym.proofs.fields.FieldTerms.replace.Goals as goal

whole : (c : goal.After-self-1)
    → refill (length c.self.inside.items.items) c.self.inside.items.items c.in_fields.new.fields
    ≡ map (λ f. (f.0, put_for c.args.r.symbol c.args.r.by f.1)) c.self.inside.items.items
whole c =
    refill-whole c.self.inside.items.items c.in_fields.new.fields
    (omega (arith, c.in_fields.auto.fields, ap length c.as_mut_slice.ensures.value))
    ∙ c.in_fields.ensures
    ∙ ap (map (λ f. (f.0, put_for c.args.r.symbol c.args.r.by f.1))) c.as_mut_slice.ensures.value

pub invariant_of-self : goal.invariant_of-self
invariant_of-self c =
    subst AreOrdered (sym (whole c))
    (ordered-map (put_for c.args.r.symbol c.args.r.by) c.self.inside.items.items c.self.invariant)

pub returns : goal.returns
returns c = whole c ∙ ap (map (λ f. (f.0, put_for c.args.r.symbol c.args.r.by f.1))) c.self.view_is
