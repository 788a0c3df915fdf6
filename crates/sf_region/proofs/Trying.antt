-- What a task keeps where it stands at a region, and where it leaves one.
-- Names: `placed`, `ready`: what it keeps then.
use Rattle.std.specs.Prelude.{◌≡◌, ◌≢◌, ◌<◌, false, [], length}
use Rattle.std.proofs.Common.{sym, ap, ◌∙◌, subst}
use Rattle.atomic_table.specs.Seated.{TableId}
use Rattle.sf_base.specs.declared.ids.ResId.{ResId}
use Rattle.sf_calls.specs.FirstBreach.{Conditions}
use Rattle.sf_core.specs.Machine.Whole.{numbers}
use Rattle.sf_core.specs.Program.Formed.{IsFormed}
use Rattle.sf_core.specs.Program.Syntax.{Program}
use Rattle.sf_part.specs.declared.content.Content.{Content}
use Rattle.sf_part.specs.declared.local.Local.TheVariants.{AtRegion}
use Rattle.sf_part.specs.declared.part.Part.{Part}
use Rattle.sf_part.specs.Answers.{Answers}
use Rattle.sf_part.specs.Checked.LawsOfWhole.{RegionsAreOutside}
use Rattle.sf_part.specs.Contents.{content_of}
use Rattle.sf_part.specs.Given.{IsContentOf}
use Rattle.sf_part.specs.Guards.{IsAtRegion}
use Rattle.sf_part.specs.PartView.{IsPartOf, part_of}
use Rattle.sf_region.specs.declared.views.View.{View}
use Rattle.sf_region.specs.Checked.Seated.{IsSeated}
use Rattle.sf_region.specs.Plays.{IsFor}
use Rattle.sf_region.specs.Waits.{program_in}
use Rattle.sf_region.proofs.Seating.{at-region, seated-of, seated-same}

-- the view and the part of a task with room in its log, and what its caller saw before
pub record IsPlaced (p : Program) (s : (TableId × View) × Part) (v : View) (a : Part) : Type 0 where
  pub here : program_in v.begun ≡ p
  pub back : part_of a ≡ part_of s.1
  pub of : IsPartOf p a
  pub seated : IsSeated v a

pub placed : (p : Program) (s : (TableId × View) × Part) (seat : TableId × View) (part a : Part)
    → (seat, part) ≡ s → IsSeated seat.1 part → program_in s.0.1.begun ≡ p
    → part_of a ≡ part_of part → (IsPartOf p part → IsPartOf p a) → IsPlaced p s seat.1 a
placed p s seat part a view h same room of =
    let here : program_in seat.1.begun ≡ p =
    ap (λ (z : (TableId × View) × Part). program_in z.0.1.begun) view ∙ same in
    let is : IsPartOf p a = of (seated-of p seat.1 part here h) in record {
      here = here;
      back = room ∙ ap (λ (z : (TableId × View) × Part). part_of z.1) view;
      of = is;
      seated = seated-same p seat.1 part here h a room is;
    }

-- it stands at a region, which it isn't inside of, with a unit
pub record IsReady (p : Program) (a : Part) (r : ResId) : Type 0 where
  pub stands : IsAtRegion (part_of a).part r
  pub below : r.0 < length p.resources
  pub outside : (part_of a).part.holds r ≡ false
  pub unit : numbers (part_of a).part.supply ≢ []

pub ready : RegionsAreOutside → (p : Program) → IsFormed p → Conditions p
    → (s : (TableId × View) × Part) (v : View) (a : Part) (r : ResId) → IsPlaced p s v a
    → Answers p (part_of s.1) (AtRegion r) → numbers (part_of s.1).part.supply ≢ []
    → IsReady p a r
unfolding RegionsAreOutside
ready law p formed kept s v a r h region unit =
    let stands : IsAtRegion (part_of a).part r =
    at-region p (part_of a) r (subst (λ z. Answers p z (AtRegion r)) (sym h.back) region) in
    let out = law p (part_of a).part r formed kept (h.of).is stands in record {
      stands = stands;
      below = out.0;
      outside = out.1;
      unit = subst (λ z. numbers z.part.supply ≢ []) (sym h.back) unit;
    }

-- the content that was got is just the resource's of the program
pub got-exactly : (p : Program) (v : View) (a : Part) (r : ResId) (k : Content)
    → program_in v.begun ≡ p → IsFor v.begun (part_of a) r k
    → IsContentOf p (content_of k).content
got-exactly p v a r k here got =
    subst (λ z. IsContentOf z (content_of k).content) here (got.exactly).exactly
