-- A check that has come to a tag: what it tells of all the tags where the tag can't be taken, where it is, and where
-- there is none.
-- Names: `tag-LAW` speaks of a tag at which the check is, `end-LAW` of the end.
use Rattle.std.proofs.Common.{◌≡◌, ℕ, suc, ◌+◌, ◌<◌, ◌≤◌, Bool, true, false, Some, None, List, [], ◌∷◌, length, take, drop, get_or, refl, sym, ap, ◌∙◌}
use Rattle.std.proofs.Math.Seq.{split_at}
use Rattle.std.proofs.lemmas.List.{length-take-le, take_all, take_more}
use Rattle.std.proofs.lemmas.Option.{slice_get_past}
use Rattle.std.proofs.Common.{arith}
use Rattle.sf_sym.specs.declared.tag.Tag.{Tag}
use Rattle.sf_rules.specs.Proving.{Proves}
use Rattle.sf_rules.specs.Setting.{Setting}
use Rattle.sf_check.specs.Refusal.{StopsAt, EndsOpen}
use Rattle.sf_check.specs.Checked.Taken.{begin, taken_at, taken, after}
use Rattle.sf_check.specs.Stand.{Stand, start, is_finished}
use Rattle.sf_check.proofs.Finishing.{finishes-proves}
use Rattle.sf_check.proofs.Taking.{after-all, after-append, after-next, finished-parts, taken-none}

-- where all is proved no tag is taken
pub finished-none : (d : Setting) (s : Stand) (tag : Tag) → is_finished d s ≡ true → taken d s tag ≡ None
finished-none d s tag e =
    let done = finished-parts d s e in
    ap (λ gs. taken_at d s.begun gs tag) done.0
    ∙ ap (λ o. begin d s.begun o tag) (slice_get_past d.program.procedures s.begun done.1)

-- a tag that isn't taken is where the tags stop
pub tag-stops : (d : Setting) (tags : List Tag) (i : ℕ) (s : Stand) (z : Tag) (b : Bool) → i < length tags
    → after d start (take i tags) ≡ Some s → taken d s (get_or tags i z) ≡ None → is_finished d s ≡ b
    → StopsAt d tags i b
tag-stops d tags i s z b h e none is = record {
  before = take i tags;
  tag = get_or tags i z;
  rest = drop (suc i) tags;
  stand = s;
  are = split_at tags i z h;
  counted = length-take-le i tags (omega arith);
  taken_before = after-all d start (take i tags) s e;
  not_taken = taken-none d s (get_or tags i z) none;
  is = is;
}

-- a tag that is taken leads on
pub tag-leads : (d : Setting) (tags : List Tag) (i : ℕ) (s t : Stand) (z : Tag) → i < length tags
    → after d start (take i tags) ≡ Some s → taken d s (get_or tags i z) ≡ Some t
    → after d start (take (i + 1) tags) ≡ Some t
tag-leads d tags i s t z h e k =
    ap (after d start) (take_more tags i z h)
    ∙ (after-append d (take i tags) start (get_or tags i z ∷ []) s e ∙ after-next d s (get_or tags i z) [] t k)

-- past the last tag they have led to where the check is
pub end-led : (d : Setting) (tags : List Tag) (i : ℕ) (s : Stand) → length tags ≤ i
    → after d start (take i tags) ≡ Some s → after d start tags ≡ Some s
end-led d tags i s h e = ap (after d start) (sym (take_all i tags h)) ∙ e

-- if all is proved there, they prove the program
pub end-proves : (d : Setting) (tags : List Tag) (i : ℕ) (s : Stand) → length tags ≤ i
    → after d start (take i tags) ≡ Some s → is_finished d s ≡ true → Proves d tags
end-proves d tags i s h e is = finishes-proves d tags (s, end-led d tags i s h e, is)

-- if not, they end with what is open
pub end-open : (d : Setting) (tags : List Tag) (i : ℕ) (s : Stand) → length tags ≤ i
    → after d start (take i tags) ≡ Some s → is_finished d s ≡ false → EndsOpen d tags (length tags)
end-open d tags i s h e is = record {
  stand = s;
  counted = refl;
  taken_all = after-all d start tags s (end-led d tags i s h e);
  is = is;
}
