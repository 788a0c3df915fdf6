use Rattle.std.proofs.Common.{◌≡◌, ◌∙◌, List, Option, Some, None, ap, ap₂, sym}
use Rattle.std.specs.Prelude.{option_map}
use Rattle.std.proofs.lemmas.Option.{same_Some}
use Rattle.clap.specs.Walk.{Row}
use Rattle.clap.specs.Words.{found_of, rows_of}
use Rattle.sf_words.specs.Checked.Found.{met_order}
use Rattle.sf_words.specs.Words.{Text}
use Rattle.sf_words.proofs.reading.met.Goals as goal

-- what has that name and these rows
both : {B : Type 0} (f : B → Text) (g : B → List Row) (s : Option B) (a : Text) (b : List Row)
    → option_map f s ≡ Some a
    → option_map (λ (p : Text × List Row). p.1) (option_map (λ x. let p : Text × List Row = (f x, g x) in p) s) ≡ Some b
    → option_map (λ x. let p : Text × List Row = (f x, g x) in p) s ≡ Some (a, b)
both f g None a b e h = absurd (cc)
both f g (Some x) a b e h =
    let i : f x ≡ a = same_Some (f x) a e in
    let j : g x ≡ b = same_Some (g x) b h in
    ap₂ (λ (s : Text) (t : List Row). Some (s, t)) i j

pub returns-in-Some : goal.returns-in-Some
returns-in-Some c =
    c.order.ensures
    ∙ sym
    (ap met_order (both _ _ _ c.in-Some.name.now (rows_of (found_of c.in-Some.inner.now))
    (sym c.in-Some.ensures.name) (sym c.in-Some.ensures.rows)))
