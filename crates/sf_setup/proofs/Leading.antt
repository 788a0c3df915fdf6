-- The events of a task that goes on alone are steps of every whole that its part belongs to.
-- Names: `leads-LAW`; the lemma of the law has the name of its function.
use Rattle.std.specs.Prelude.{List, [], ◌∷◌, ◌++◌}
use Rattle.std.proofs.Common.{sym, refl, subst}
use Rattle.std.proofs.lemmas.List.{append_assoc}
use Rattle.sf_core.specs.Machine.Config.{Config}
use Rattle.sf_core.specs.Machine.Step.{Event}
use Rattle.sf_core.specs.Machine.Whole.{Part, Content, Whole}
use Rattle.sf_core.specs.Program.Syntax.{Program}
use Rattle.sf_part.specs.Checked.Laws.{ForksAreSteps, JoinsAreSteps, Leads, LeadsCompose, PrivateEventsAreSteps}
use Rattle.sf_part.specs.Timed.{TimedPart}
use Rattle.sf_setup.specs.Checked.Laws.{EventsAloneAreSteps}
use Rattle.sf_setup.specs.Going.{GoesBy, stays, steps, forks}

-- the part before others may stand at the end of those before them
pub leads-shift : (p : Program) (events : List Event) (c : Config) (before after : List Part)
    (x a b : Part) (contents : List Content)
    → Leads p events c ((before ++ x ∷ []) ++ a ∷ after) ((before ++ x ∷ []) ++ b ∷ after) contents
    → Leads p events c (before ++ x ∷ a ∷ after) (before ++ x ∷ b ∷ after) contents
leads-shift p events c before after x a b contents l =
    subst (λ z. Leads p events c z (before ++ x ∷ b ∷ after) contents)
    (append_assoc before (x ∷ []) (a ∷ after))
    (subst (λ z. Leads p events c ((before ++ x ∷ []) ++ a ∷ after) z contents)
    (append_assoc before (x ∷ []) (b ∷ after)) l)

pub whole-shift : (before after : List Part) (x : Part) (contents : List Content) (c : Config)
    → Whole (before ++ x ∷ after) contents c → Whole ((before ++ x ∷ []) ++ after) contents c
whole-shift before after x contents c w =
    subst (λ z. Whole z contents c) (sym (append_assoc before (x ∷ []) after)) w

-- so may two
pub leads-shift_two : (p : Program) (events : List Event) (c : Config) (before after : List Part)
    (x y a b : Part) (contents : List Content)
    → Leads p events c (((before ++ x ∷ []) ++ y ∷ []) ++ a ∷ after)
    (((before ++ x ∷ []) ++ y ∷ []) ++ b ∷ after) contents
    → Leads p events c (before ++ x ∷ y ∷ a ∷ after) (before ++ x ∷ y ∷ b ∷ after) contents
leads-shift_two p events c before after x y a b contents l =
    let m = leads-shift p events c (before ++ x ∷ []) after y a b contents l in
    subst (λ z. Leads p events c z (before ++ x ∷ y ∷ b ∷ after) contents)
    (append_assoc before (x ∷ []) (y ∷ a ∷ after))
    (subst (λ z. Leads p events c ((before ++ x ∷ []) ++ y ∷ a ∷ after) z contents)
    (append_assoc before (x ∷ []) (y ∷ b ∷ after)) m)

pub whole-shift_two : (before after : List Part) (x y : Part) (contents : List Content) (c : Config)
    → Whole (before ++ x ∷ y ∷ after) contents c
    → Whole (((before ++ x ∷ []) ++ y ∷ []) ++ after) contents c
whole-shift_two before after x y contents c w =
    whole-shift (before ++ x ∷ []) after y contents c
    (whole-shift before (y ∷ after) x contents c w)

module _ (private_law : PrivateEventsAreSteps) (fork_law : ForksAreSteps) (join_law : JoinsAreSteps)
    (compose : LeadsCompose) (p : Program) (contents : List Content) where
  pub leads-alone : (a b : TimedPart) (events : List Event) (before after : List Part) (c : Config)
      → GoesBy p a events b → Whole (before ++ a.part ∷ after) contents c
      → Leads p events c (before ++ a.part ∷ after) (before ++ b.part ∷ after) contents
  unfolding PrivateEventsAreSteps ForksAreSteps JoinsAreSteps LeadsCompose
  leads-alone a b events before after c (stays none same) w =
      subst (λ z. Leads p z c (before ++ a.part ∷ after) (before ++ b.part ∷ after) contents)
      (sym none) (private_law p [] a b before after contents c same w)
  leads-alone a d all before after c (steps b events event go keeps of e is) w =
      let l = leads-alone a b events before after c go w in
      let m = private_law p (event ∷ []) b d before after contents l.config (d, e, refl) l.whole in
      subst (λ z. Leads p z c (before ++ a.part ∷ after) (before ++ d.part ∷ after) contents)
      (sym is)
      (compose p events (event ∷ []) c (before ++ a.part ∷ after) (before ++ b.part ∷ after)
      (before ++ d.part ∷ after) contents contents l m)
  leads-alone a d all before after c (forks b waits one two left right events first second event later go keeps of e go_left go_right j is) w =
      let olds = before ++ a.part ∷ after in
      let news = before ++ d.part ∷ after in
      let l = leads-alone a b events before after c go w in
      let f = fork_law p event b waits one two before after contents l.config e.forks l.whole in
      let left_on = leads-shift p first f.config before (two.part ∷ after) waits.part one.part
      left.part contents
      (leads-alone one left first (before ++ waits.part ∷ []) (two.part ∷ after) f.config go_left
      (whole-shift before (one.part ∷ two.part ∷ after) waits.part contents f.config f.whole)) in
      let right_on = leads-shift_two p second left_on.config before after waits.part left.part
      two.part right.part contents
      (leads-alone two right second ((before ++ waits.part ∷ []) ++ left.part ∷ []) after
      left_on.config go_right
      (whole-shift_two before (two.part ∷ after) waits.part left.part contents left_on.config
      left_on.whole)) in
      let k = join_law p later waits left right d before after contents right_on.config j
      right_on.whole in
      let four = compose p second (later ∷ []) left_on.config
      (before ++ waits.part ∷ left.part ∷ two.part ∷ after)
      (before ++ waits.part ∷ left.part ∷ right.part ∷ after) news contents contents right_on k in
      let three = compose p first (second ++ later ∷ []) f.config
      (before ++ waits.part ∷ one.part ∷ two.part ∷ after)
      (before ++ waits.part ∷ left.part ∷ two.part ∷ after) news contents contents left_on four in
      let two_on = compose p (event ∷ []) (first ++ (second ++ later ∷ [])) l.config
      (before ++ b.part ∷ after) (before ++ waits.part ∷ one.part ∷ two.part ∷ after) news contents
      contents f three in
      subst (λ z. Leads p z c olds news contents) (sym is)
      (compose p events (event ∷ (first ++ (second ++ later ∷ []))) c olds
      (before ++ b.part ∷ after) news contents contents l two_on)

pub events_alone_are_steps : PrivateEventsAreSteps → ForksAreSteps → JoinsAreSteps → LeadsCompose
    → EventsAloneAreSteps
unfolding EventsAloneAreSteps
events_alone_are_steps private_law fork_law join_law compose p a b events before after contents c go w =
    leads-alone private_law fork_law join_law compose p contents a b events before after c go w
