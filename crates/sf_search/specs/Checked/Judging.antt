-- Verdicts, procedure by procedure: what was judged so far, and what a search adds to it.
-- Names: `judged_LAW` of what was judged so far.
use Rattle.std.proofs.Common.{◌≡◌, ℕ, zero, suc, ◌+◌, ◌∙◌, ◌-◌, ◌<◌, ◌≤◌, Bool, true, false, cond, nat_lt, Option, Some, None, IfSome, List, [], ◌∷◌, ◌++◌, length, drop, inl, inr, refl, sym, ap, subst, append_assoc, arith}
use Rattle.std.proofs.lemmas.Bool.{cases_lt, ltb-false, ltb-true}
use Rattle.std.proofs.lemmas.List.{append-nil, length-map}
use Rattle.std.proofs.lemmas.Option.{same_Some}
use Rattle.std.specs.List.{slice_get}
use Rattle.sf_base.specs.declared.limits.TheConstants.{FILE_TAGS}
use Rattle.sf_core.specs.Program.Syntax.{Procedure}
use Rattle.sf_core.specs.Program.View.{procedure_of}
use Rattle.sf_precise.specs.declared.arranged.Arranged.{Arranged}
use Rattle.sf_rules.specs.Setting.{Setting, setting_of}
use Rattle.sf_search.specs.declared.verdicts.SearchFault.{SearchFault}
use Rattle.sf_search.specs.declared.verdicts.SearchFault.TheVariants.{Stuck as Halted, TooLarge, OutOfMemory}
use Rattle.sf_sym.specs.declared.stuck.Stuck.{Stuck}
use Rattle.sf_search.specs.Ends.{EndsAs, FailsAs, FailsFor, cause_of, failure}
use Rattle.sf_rules.specs.First.{first_goal}
use Rattle.sf_search.specs.Judge.{Judge, JudgedAfter, JudgeFrom, Outcome, Search, Verdict, fails, large, proof, proved, stuck, stuck_at, too_large, with_prefix}
use Rattle.sf_sym.specs.declared.tag.Tag.{Tag}
use Rattle.sf_sym.specs.declared.tag.Tag.TheVariants as t
use Rattle.sf_sym.specs.Goal.{Goal, goal_of}

prefix-append : (xs ys : List Tag) (v : Verdict) → with_prefix (xs ++ ys) v ≡ with_prefix xs (with_prefix ys v)
prefix-append xs ys (proof zs) = ap proof (append_assoc xs ys zs)
prefix-append xs ys (fails f why) = refl

-- what was judged so far: the verdict on the rest, with the tags so far before its own, is the verdict on the program
abbrev pub Judged : Setting → (spent k : ℕ) → List Tag → Type 0
Judged d spent k tags =
    (v : Verdict) → JudgeFrom d spent k (drop k d.program.procedures) v → Judge d (with_prefix tags v)

module _ (d : Setting) (spent k : ℕ) (tags : List Tag) (x : Procedure)
    (there : drop k d.program.procedures ≡ x ∷ drop (suc k) d.program.procedures) (judged : Judged d spent k tags)
  where
    -- what a search comes to is the verdict
    judged-by : (found : List Tag) (o : Outcome) (v : Verdict) → Search d (first_goal d (record { 0 = k }) x) found o
        → JudgedAfter (λ n. JudgeFrom d n (suc k) (drop (suc k) d.program.procedures)) spent k found o v
        → Judge d (with_prefix tags v)
    judged-by found o v s a =
        judged v (subst (λ xs. JudgeFrom d spent k xs v) (sym there) (found, o, s, a))

    judged-on : (found : List Tag) → Search d (first_goal d (record { 0 = k }) x) found proved
        → spent + length found ≤ FILE_TAGS
        → Judged d (spent + length found) (suc k) (tags ++ (t.Procedure (record { 0 = k }) ∷ found))
    judged-on found s l =
        λ v j. subst (Judge d) (sym (prefix-append tags (t.Procedure (record { 0 = k }) ∷ found) v))
        (judged-by found proved (with_prefix (t.Procedure (record { 0 = k }) ∷ found) v) s (inl (l, (v, j, refl))))

    pub judged_next : (found : List Tag) (spent2 next : ℕ) (after : List Tag)
        → Search d (first_goal d (record { 0 = k }) x) found proved → spent2 ≡ spent + length found → next ≡ suc k
        → after ≡ tags ++ (t.Procedure (record { 0 = k }) ∷ found) → spent2 ≤ FILE_TAGS → Judged d spent2 next after
    judged_next found spent2 next after s e n a l =
        subst (λ m. Judged d m next after) (sym e)
        (subst (λ m. Judged d (spent + length found) m after) (sym n)
        (subst (Judged d (spent + length found) (suc k)) (sym a)
        (judged-on found s (subst (λ m. m ≤ FILE_TAGS) e l))))

    -- with more tags than a file may have
    pub judged_over : (found : List Tag) (o : Outcome) → Search d (first_goal d (record { 0 = k }) x) found o
        → FILE_TAGS < spent + length found → Judge d (fails (record { 0 = k }) too_large)
    judged_over found o s l = judged-by found o (fails (record { 0 = k }) too_large) s (inr (l, refl))

    pub judged_stuck : (found : List Tag) (g : Goal) (kind : Stuck)
        → Search d (first_goal d (record { 0 = k }) x) found (stuck g kind) → spent + length found ≤ FILE_TAGS
        → Judge d (fails (record { 0 = k }) (stuck_at g kind (length found)))
    judged_stuck found g kind s l =
        judged-by found (stuck g kind) (fails (record { 0 = k }) (stuck_at g kind (length found))) s (inl (l, refl))

    -- whatever was spent
    pub judged_large : (found : List Tag) → Search d (first_goal d (record { 0 = k }) x) found large
        → Judge d (fails (record { 0 = k }) too_large)
    judged_large found s = elim (cases_lt FILE_TAGS (spent + length found)) [
      | inl over ↦ judged_over found large s over
      | inr fits ↦ judged-by found large (fails (record { 0 = k }) too_large) s (inl (fits, refl))
    ]

    -- a search that found no proof
    pub judged_fault : (e : SearchFault) → spent ≤ FILE_TAGS → EndsAs d (first_goal d (record { 0 = k }) x) e
        → FailsAs d (failure spent (record { 0 = k }) e)
    judged_fault (Halted goal kind before) l w = go (nat_lt (FILE_TAGS - spent) before) refl
      where
        go : (b : Bool) → nat_lt (FILE_TAGS - spent) before ≡ b
            → FailsFor d (record { 0 = k }) (cause_of (cond b TooLarge (Halted goal kind before)))
        go true i =
            judged_over w.0 (stuck (goal_of goal) kind) w.2
            (omega (arith, ltb-true (FILE_TAGS - spent) before i, w.1, l))
        go false i =
            subst (λ m. Judge d (fails (record { 0 = k }) (stuck_at (goal_of goal) kind m))) w.1
            (judged_stuck w.0 (goal_of goal) kind w.2
            (omega (arith, ltb-false (FILE_TAGS - spent) before i, w.1, l)))
    judged_fault TooLarge l w = judged_large w.0 w.1
    judged_fault OutOfMemory l w = tt

-- with no procedure left
pub judged_all : (d : Setting) (spent k : ℕ) (tags : List Tag) → drop k d.program.procedures ≡ []
    → Judged d spent k tags → Judge d (proof tags)
judged_all d spent k tags e judged =
    subst (λ ts. Judge d (proof ts)) (append-nil tags)
    (judged (proof []) (subst (λ xs. JudgeFrom d spent k xs (proof [])) (sym e) refl))

-- the procedures of a setting are those of the program that the code has arranged
pub setting_length : (d : Setting) (a : Arranged) → d ≡ setting_of d.ordered a
    → length d.program.procedures ≡ length a.program.procedures.items
setting_length d a e =
    ap (λ (s : Setting). length s.program.procedures) e ∙ length-map a.program.procedures.items procedure_of

-- the procedure of that number
pub at_index : {X : Type 0} (xs : List X) (i : ℕ) → i < length xs
    → (x : X) × (slice_get xs i ≡ Some x) × (drop i xs ≡ x ∷ drop (suc i) xs)
at_index [] i l = absurd (omega (arith, l))
at_index (x ∷ xs) zero l = (x, refl, refl)
at_index (x ∷ xs) (suc i) l = at_index xs i (omega (arith, l))

-- what is said of the value that may be there, where it is known which one is
pub some_at : {X : Type 0} (P : X → Type 0) (o : Option X) (x : X) → o ≡ Some x → IfSome o P → P x
some_at P None x e h = absurd (cc)
some_at P (Some y) x e h = subst P (same_Some y x e) h
