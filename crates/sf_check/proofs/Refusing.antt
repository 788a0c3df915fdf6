-- Tags lead to a stand where all is proved, or are refused, and at one tag and for one reason.
-- Names: `stop-LAW` speaks of a tag that isn't taken, `refused-LAW` of a refusal.
use Rattle.std.proofs.Common.{◌≡◌, ◌⊎◌, inl, inr, ℕ, Bool, true, false, Option, Some, None, List, [], ◌∷◌, ◌++◌, length, refl, sym, ap, ap₂, ◌∙◌, subst, append-nil, append_assoc}
use Rattle.sf_base.proofs.Options.{some-none, some-once}
use Rattle.sf_sym.specs.declared.tag.Tag.{Tag}
use Rattle.sf_rules.specs.Setting.{Setting}
use Rattle.sf_check.specs.declared.refusal.Refusal.{Refusal}
use Rattle.sf_check.specs.declared.refusal.Refusal.TheVariants.{NotARule, Unfinished, Leftover}
use Rattle.sf_check.specs.Refusal.{Refused, StopsAt, EndsOpen}
use Rattle.sf_check.specs.Checked.Taken.{taken, after}
use Rattle.sf_check.specs.Stand.{Stand, start, is_finished}
use Rattle.sf_check.proofs.Finishing.{Finishes}
use Rattle.sf_check.proofs.Taking.{after-all, after-append, after-next, after-stop, all-after, none-taken, taken-none}

-- a refusal of these tags
abbrev pub IsRefused : Setting → List Tag → Type 0
IsRefused d tags = (n : ℕ) × (why : Refusal) × Refused d tags n why

-- tags that are taken so far are taken to the end, or refused
walk : (d : Setting) (tags before : List Tag) (s : Stand) → after d start before ≡ Some s
    → Finishes d start (before ++ tags) ⊎ IsRefused d (before ++ tags)
walk d [] before s e =
    subst (λ ts. Finishes d start ts ⊎ IsRefused d ts) (sym (append-nil before)) (ended (is_finished d s) refl)
  where
    ended : (b : Bool) → is_finished d s ≡ b → Finishes d start before ⊎ IsRefused d before
    ended true i = inl (s, e, i)
    ended false i =
        inr (length before, Unfinished, record { stand = s; counted = refl; taken_all = after-all d start before s e; is = i })
walk d (tag ∷ tags) before s e =
    go (taken d s tag) refl (λ t i. walk d tags (before ++ tag ∷ []) t
    (after-append d before start (tag ∷ []) s e ∙ after-next d s tag [] t i))
  where
    stops : (b : Bool) → is_finished d s ≡ b → taken d s tag ≡ None
        → StopsAt d (before ++ tag ∷ tags) (length before) b
    stops b i none = record {
      before = before;
      tag = tag;
      rest = tags;
      stand = s;
      are = refl;
      counted = refl;
      taken_before = after-all d start before s e;
      not_taken = taken-none d s tag none;
      is = i;
    }

    stopped : taken d s tag ≡ None → (b : Bool) → is_finished d s ≡ b → IsRefused d (before ++ tag ∷ tags)
    stopped none true i = (length before, Leftover, stops true i none)
    stopped none false i = (length before, NotARule, stops false i none)

    go : (o : Option Stand) → taken d s tag ≡ o
        → ((t : Stand) → taken d s tag ≡ Some t
        → Finishes d start ((before ++ tag ∷ []) ++ tags) ⊎ IsRefused d ((before ++ tag ∷ []) ++ tags))
        → Finishes d start (before ++ tag ∷ tags) ⊎ IsRefused d (before ++ tag ∷ tags)
    go None i others = inr (stopped i (is_finished d s) refl)
    go (Some t) i others =
        subst (λ ts. Finishes d start ts ⊎ IsRefused d ts) (append_assoc before (tag ∷ []) tags) (others t i)

-- tags lead to a stand where all is proved, or are refused
pub finishes-or_refused : (d : Setting) (tags : List Tag) → Finishes d start tags ⊎ IsRefused d tags
finishes-or_refused d tags = walk d tags [] start refl

-- past a tag that isn't taken there is no stand
pub stop-none : (d : Setting) (tags : List Tag) (n : ℕ) (b : Bool) → StopsAt d tags n b
    → after d start tags ≡ None
stop-none d tags n b s =
    ap (after d start) s.are ∙ after-stop d s.before start s.tag s.rest s.stand
    (all-after d start s.before s.stand s.taken_before) (none-taken d s.stand s.tag s.not_taken)

-- tags that lead to a stand where all is proved are not refused
pub refused-never : (d : Setting) (tags : List Tag) (n : ℕ) (why : Refusal) → Finishes d start tags
    → Refused d tags n why → ⊥
refused-never d tags n NotARule h r = some-none h.0 (sym h.1 ∙ stop-none d tags n false r)
refused-never d tags n Leftover h r = some-none h.0 (sym h.1 ∙ stop-none d tags n true r)
refused-never d tags n Unfinished h r =
    let same : h.0 ≡ r.stand = some-once (after d start tags) h.0 r.stand h.1
    (all-after d start tags r.stand r.taken_all) in
    let is : is_finished d h.0 ≡ false = ap (is_finished d) same ∙ r.is in
    absurd (both (is_finished d h.0) h.2 is)
  where
    both : (b : Bool) → b ≡ true → b ≡ false → ⊥
    both b e f = cc

-- of two beginnings of one list of tags, each with a tag after it, both are the same, or one is longer by that tag
-- at least
abbrev Longer : (short : List Tag) → Tag → (long : List Tag) → Type 0
Longer short tag long = (more : List Tag) × (long ≡ short ++ tag ∷ more)

beginnings : (a b : List Tag) (x y : Tag) (r s : List Tag) → a ++ x ∷ r ≡ b ++ y ∷ s
    → ((a ≡ b) × (x ≡ y)) ⊎ Longer a x b ⊎ Longer b y a
beginnings [] [] x y r s e = inl (refl, cc)
beginnings [] (z ∷ b) x y r s e = let same : z ≡ x = cc in inr (inl (b, ap (λ t. t ∷ b) same))
beginnings (z ∷ a) [] x y r s e = let same : z ≡ y = cc in inr (inr (a, ap (λ t. t ∷ a) same))
beginnings (z ∷ a) (w ∷ b) x y r s e =
    let first : z ≡ w = cc in
    let tails : a ++ x ∷ r ≡ b ++ y ∷ s = cc in
    longer first (beginnings a b x y r s tails)
  where
    longer : z ≡ w → ((a ≡ b) × (x ≡ y)) ⊎ Longer a x b ⊎ Longer b y a
        → ((z ∷ a ≡ w ∷ b) × (x ≡ y)) ⊎ Longer (z ∷ a) x (w ∷ b) ⊎ Longer (w ∷ b) y (z ∷ a)
    longer i (inl k) = inl (ap₂ (λ (t : Tag) (ts : List Tag). t ∷ ts) i k.0, k.1)
    longer i (inr (inl k)) = inr (inl (k.0, ap₂ (λ (t : Tag) (ts : List Tag). t ∷ ts) (sym i) k.1))
    longer i (inr (inr k)) = inr (inr (k.0, ap₂ (λ (t : Tag) (ts : List Tag). t ∷ ts) i k.1))

-- no tags are taken past one that isn't
stop-first : (d : Setting) (before long : List Tag) (tag : Tag) (s t : Stand)
    → after d start before ≡ Some s → taken d s tag ≡ None → Longer before tag long
    → after d start long ≡ Some t → ⊥
stop-first d before long tag s t e none k f =
    some-none t (sym f ∙ (ap (after d start) k.1 ∙ after-stop d before start tag k.0 s e none))

-- tags stop at one tag, and there all is proved or isn't
stop-once : (d : Setting) (tags : List Tag) (n m : ℕ) (b c : Bool) → StopsAt d tags n b → StopsAt d tags m c
    → (n ≡ m) × (b ≡ c)
stop-once d tags n m b c s t =
    go (beginnings s.before t.before s.tag t.tag s.rest t.rest (sym s.are ∙ t.are))
  where
    go : ((s.before ≡ t.before) × (s.tag ≡ t.tag)) ⊎ Longer s.before s.tag t.before
        ⊎ Longer t.before t.tag s.before
        → (n ≡ m) × (b ≡ c)
    go (inl k) =
        let same : s.stand ≡ t.stand = some-once (after d start t.before) s.stand t.stand
        (sym (ap (after d start) k.0) ∙ all-after d start s.before s.stand s.taken_before)
        (all-after d start t.before t.stand t.taken_before) in (
          sym s.counted ∙ (ap length k.0 ∙ t.counted),
          sym s.is ∙ (ap (is_finished d) same ∙ t.is),
        )
    go (inr (inl k)) =
        absurd (stop-first d s.before t.before s.tag s.stand t.stand
        (all-after d start s.before s.stand s.taken_before) (none-taken d s.stand s.tag s.not_taken) k
        (all-after d start t.before t.stand t.taken_before))
    go (inr (inr k)) =
        absurd (stop-first d t.before s.before t.tag t.stand s.stand
        (all-after d start t.before t.stand t.taken_before) (none-taken d t.stand t.tag t.not_taken) k
        (all-after d start s.before s.stand s.taken_before))

-- tags that stop don't end with what is open
stop-not_ends : (d : Setting) (tags : List Tag) (n m : ℕ) (b : Bool) → StopsAt d tags n b → EndsOpen d tags m → ⊥
stop-not_ends d tags n m b s t = some-none t.stand (sym (all-after d start tags t.stand t.taken_all) ∙ stop-none d tags n b s)

-- tags are refused at one number, for one reason
pub refused-once : (d : Setting) (tags : List Tag) (n m : ℕ) (why other : Refusal) → Refused d tags n why
    → Refused d tags m other → (n ≡ m) × (why ≡ other)
refused-once d tags n m NotARule NotARule r q = ((stop-once d tags n m false false r q).0, refl)
refused-once d tags n m NotARule Unfinished r q = absurd (stop-not_ends d tags n m false r q)
refused-once d tags n m NotARule Leftover r q =
    let k = stop-once d tags n m false true r q in let e : false ≡ true = k.1 in absurd (cc)
refused-once d tags n m Unfinished NotARule r q = absurd (stop-not_ends d tags m n false q r)
refused-once d tags n m Unfinished Unfinished r q = (sym r.counted ∙ q.counted, refl)
refused-once d tags n m Unfinished Leftover r q = absurd (stop-not_ends d tags m n true q r)
refused-once d tags n m Leftover NotARule r q =
    let k = stop-once d tags n m true false r q in let e : true ≡ false = k.1 in absurd (cc)
refused-once d tags n m Leftover Unfinished r q = absurd (stop-not_ends d tags n m true r q)
refused-once d tags n m Leftover Leftover r q = ((stop-once d tags n m true true r q).0, refl)
