-- Lines that were read, and events that were taken from them.
-- Names: `reading-WHAT` of what is kept, `seek-WHAT` of the line `schedule`.
use Rattle.std.specs.Prelude.{◌≡◌, ◌+◌, ℕ, zero, suc, Bool, true, false, List, [], ◌∷◌, ◌++◌, Option, Some, None, Result, Ok, Err, OnOk, cond, drop, length, unwrap_or}
use Rattle.std.specs.List.{All}
use Rattle.std.specs.Option.{option_or}
use Rattle.std.proofs.Common.{sym, ap, ◌∙◌, refl, subst, add-one, append_assoc, append-nil}
use Rattle.std.proofs.lemmas.List.{length-append}
use Rattle.std.proofs.lemmas.List.Elements.{All-push}
use Rattle.sf_lines.specs.Lines.{Text, lines, words}
use Rattle.sf_replay.specs.Checked.Taking.{IsCut, IsWide, IsWideSaid, Reading, Seeking, Taken}
use Rattle.sf_replay.specs.declared.schedule.Said.{Said}
use Rattle.sf_replay.specs.declared.schedule.Said.TheVariants.{Nothing, Bad, Happens}
use Rattle.sf_replay.specs.declared.schedule.Scheduled.{Scheduled}
use Rattle.sf_replay.specs.declared.schedule.ScheduleFault.{ScheduleFault}
use Rattle.sf_replay.specs.ScheduleText.{count_with, event_in, events_from, is_schedule, line_refusal, refusal_from, said, schedule_line, skipped}

pub reading-start : (fields : List Text) (before : ℕ) (all : List Text) → Reading fields before before all all []
reading-start fields before all = record { events = refl; refusal = refl }

count-said : (taken : List Scheduled) (line : ℕ) (s : Said)
    → count_with (length taken) s ≡ length (taken ++ event_in line s)
count-said taken line Nothing = ap length (sym (append-nil taken))
count-said taken line Bad = ap length (sym (append-nil taken))
count-said taken line (Happens event) =
    sym (length-append taken (event_in line (Happens event)) ∙ add-one (length taken))

pub reading-more : (fields : List Text) (first before number : ℕ) (all more : List Text) (line : Text)
    (taken new : List Scheduled) → number ≡ before + 1 → Reading fields first before all (line ∷ more) taken
    → line_refusal number (length taken) (said fields (words line)) ≡ None
    → new ≡ taken ++ event_in number (said fields (words line)) → Reading fields first number all more new
reading-more fields first before number all more line taken new e r none is =
    let n : number ≡ suc before = e ∙ add-one before in
    let s = said fields (words line) in
    record {
      events = r.events
          ∙ ap (λ (k : ℕ). taken ++ (event_in k s ++ events_from fields k more)) (sym n)
          ∙ sym (append_assoc taken (event_in number s) (events_from fields number more))
          ∙ ap (λ (z : List Scheduled). z ++ events_from fields number more) (sym is);
      refusal = r.refusal
          ∙ ap (λ (k : ℕ). option_or (line_refusal k (length taken) s)
          (refusal_from fields k (count_with (length taken) s) more)) (sym n)
          ∙ ap (λ (o : Option ScheduleFault). option_or o (refusal_from fields number (count_with (length taken) s) more)) none
          ∙ ap (λ (k : ℕ). refusal_from fields number k more)
          (count-said taken number s ∙ ap length (sym is));
    }

pub reading-refused : (fields : List Text) (first before number : ℕ) (all more : List Text) (line : Text)
    (taken : List Scheduled) (f : ScheduleFault) → number ≡ before + 1
    → Reading fields first before all (line ∷ more) taken
    → line_refusal number (length taken) (said fields (words line)) ≡ Some f → refusal_from fields first 0 all ≡ Some f
reading-refused fields first before number all more line taken f e r some =
    let n : number ≡ suc before = e ∙ add-one before in
    let s = said fields (words line) in
    r.refusal
    ∙ ap (λ (k : ℕ). option_or (line_refusal k (length taken) s)
    (refusal_from fields k (count_with (length taken) s) more)) (sym n)
    ∙ ap (λ (o : Option ScheduleFault). option_or o (refusal_from fields number (count_with (length taken) s) more)) some

pub reading-end : (fields : List Text) (first before : ℕ) (all left : List Text) (taken : List Scheduled) → left ≡ []
    → Reading fields first before all left taken
    → (refusal_from fields first 0 all ≡ None) × (taken ≡ events_from fields first all)
reading-end fields first before all left taken e r = (
  r.refusal ∙ ap (λ (z : List Text). refusal_from fields before (length taken) z) e,
  sym (r.events ∙ ap (λ (z : List Text). taken ++ events_from fields before z) e ∙ append-nil taken),
)

drop-suc : {A : Type 0} (k : ℕ) (xs : List A) → drop (suc k) xs ≡ drop 1 (drop k xs)
drop-suc zero xs = refl
drop-suc (suc k) [] = refl
drop-suc (suc k) (x ∷ xs) = drop-suc k xs

drop-next : {A : Type 0} (k : ℕ) (xs more : List A) (x : A) → x ∷ more ≡ drop k xs → more ≡ drop (k + 1) xs
drop-next k xs more x e = ap (drop 1) e ∙ sym (drop-suc k xs) ∙ ap (λ n. drop n xs) (sym (add-one k))

pub seek-start : (text : Text) → Seeking text 0 (lines text)
seek-start text = record { rest = refl; same = refl }

pub seek-more : (text line : Text) (more : List Text) (k : ℕ) → Seeking text k (line ∷ more)
    → is_schedule line ≡ false → Seeking text (k + 1) more
seek-more text line more k s e = record {
  rest = drop-next k (lines text) more line s.rest;
  same = s.same ∙ ap (λ (b : Bool). cond b (Some (suc k)) (schedule_line (suc k) more)) e
      ∙ ap (λ n. schedule_line n more) (sym (add-one k));
}

pub seek-found : (text line : Text) (more : List Text) (k : ℕ) → Seeking text k (line ∷ more)
    → is_schedule line ≡ true → IsCut text (k + 1) more
seek-found text line more k s e =
    let at : schedule_line 0 (lines text) ≡ Some (suc k) =
    s.same ∙ ap (λ (b : Bool). cond b (Some (suc k)) (schedule_line (suc k) more)) e in
    let n : k + 1 ≡ skipped text = add-one k ∙ sym (ap (λ (o : Option ℕ). unwrap_or o 0) at) in
    record {
      number = n;
      rest = drop-next k (lines text) more line s.rest ∙ ap (λ m. drop m (lines text)) n;
    }

pub seek-none : (text : Text) (left : List Text) (k : ℕ) → left ≡ [] → Seeking text k left
    → IsCut text 0 (lines text)
seek-none text left k e s =
    let at : schedule_line 0 (lines text) ≡ None = s.same ∙ ap (λ (z : List Text). schedule_line k z) e in
    let n : 0 ≡ skipped text = sym (ap (λ (o : Option ℕ). unwrap_or o 0) at) in
    record { number = n; rest = ap (λ m. drop m (lines text)) n }

-- a line that is taken keeps what is taken wide
pub wide-more : (count line : ℕ) (old new : List Scheduled) (s : Said) → IsWideSaid count s
    → new ≡ old ++ event_in line s → All (IsWide count) old → All (IsWide count) new
wide-more count line old new Nothing w e a =
    subst (All (IsWide count)) (sym e) (subst (All (IsWide count)) (sym (append-nil old)) a)
wide-more count line old new Bad w e a =
    subst (All (IsWide count)) (sym e) (subst (All (IsWide count)) (sym (append-nil old)) a)
wide-more count line old new (Happens event) w e a = subst (All (IsWide count)) (sym e)
    (All-push (IsWide count) old (record { event = event; line = line }) a w)

pub wide-taken : (count line : ℕ) (r : Result (Unit {0}) ScheduleFault) (old new : List Scheduled) (s : Said)
    → IsWideSaid count s → Taken line r old new s → OnOk r (All (IsWide count) old → All (IsWide count) new)
wide-taken count line (Ok u) old new s w t = λ a. wide-more count line old new s w t.1 a
wide-taken count line (Err f) old new s w t = tt

-- the same of lines that begin with that one
pub read-more : (fields : List Text) (first before : ℕ) (all left more : List Text) (line : Text)
    (taken new : List Scheduled) → left ≡ line ∷ more → Reading fields first before all left taken
    → line_refusal (before + 1) (length taken) (said fields (words line)) ≡ None
    → new ≡ taken ++ event_in (before + 1) (said fields (words line))
    → Reading fields first (before + 1) all more new
read-more fields first before all left more line taken new e r none is =
    reading-more fields first before (before + 1) all more line taken new refl
    (subst (λ (z : List Text). Reading fields first before all z taken) e r) none is

pub seek-next : (text line : Text) (left more : List Text) (k : ℕ) → left ≡ line ∷ more → Seeking text k left
    → is_schedule line ≡ false → Seeking text (k + 1) more
seek-next text line left more k e s f = seek-more text line more k (subst (Seeking text k) e s) f

pub seek-cut : (text line : Text) (left more : List Text) (k : ℕ) → left ≡ line ∷ more → Seeking text k left
    → is_schedule line ≡ true → IsCut text (k + 1) more
seek-cut text line left more k e s f = seek-found text line more k (subst (Seeking text k) e s) f
