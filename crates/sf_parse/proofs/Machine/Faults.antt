-- The fault of a file's tokens is what the machine's verdict says, and the other way round.
use Rattle.std.proofs.Common.{◌≡◌, ◌≤◌, ◌<◌, ◌-◌, ℕ, zero, suc, List, [], ◌∷◌, ◌++◌, length, Bool, true, false, ◌⊎◌, inl, inr, refl, sym, ap, subst, ◌∙◌, arith, append_assoc, length-append}
use Rattle.std.proofs.Math.Nat.{eq-or-lt_of_le}
use Rattle.std.proofs.Math.Seq.{get_or-append_seam}
use Rattle.std.proofs.lemmas.List.{append-nil, map-append, length-map}
use Rattle.sf_base.proofs.Lists.{cons-same}
use Rattle.sf_base.specs.declared.place.Place.{Place}
use Rattle.sf_ast.specs.Surface.{Item}
use Rattle.sf_lex.specs.declared.token.Token.{Token}
use Rattle.sf_parse.specs.declared.fault.ParseFault.{ParseFault}
use Rattle.sf_parse.specs.declared.fault.ParseFault.TheVariants.{Unexpected, TooDeep, OutOfMemory}
use Rattle.sf_parse.specs.Checked.Faults.{no_token, token_left, place_left, Says}
use Rattle.sf_parse.specs.Grammar.{items}
use Rattle.sf_parse.specs.Checked.Laws.{verdict_of, Spelled}
use Rattle.sf_parse.specs.Checked.Machine as m
use Rattle.sf_parse.specs.Checked.Machine.{Predicted, levels_of, Verdict, accepted, unexpected, too_deep, at_end, may_end, verdict}
use Rattle.sf_parse.specs.Nearest.{IsNearest}
use Rattle.sf_parse.specs.Nesting.{ItemsWithin}
use Rattle.sf_parse.specs.Leaf.{Leaf, leaf, leaves}
use Rattle.sf_parse.specs.Parsing.{IsFile, CanBegin, CanBeginAny, IsUnexpected, IsTooDeep, IsFault}
use Rattle.sf_parse.proofs.Grammar.Depths.{items_shallow, items_within}
use Rattle.sf_parse.proofs.Machine.Exactly.{fault_of, fault_le}
use Rattle.sf_parse.proofs.Machine.HasLevel.{level_more}
use Rattle.sf_parse.proofs.Machine.Happens.{Happens, takes, exceeds, refuses, happens, on_takes, on_exceeds, on_refuses}
use Rattle.sf_parse.proofs.Machine.Law.{exact, file_accepted, accepted_file, refused}

-- the more tokens are free of the limit, the more is accepted
pub accepted_more : (n p : ℕ) (ts : List Leaf) (st : List Predicted) → n ≤ p → verdict n ts st ≡ accepted → verdict p ts st ≡ accepted
accepted_more n p [] st h e = e
accepted_more n p (t ∷ ts) st h e = go (happens n (suc (length ts)) st t) (λ st2. accepted_more n p ts st2 h)
  where
    go : Happens n (suc (length ts)) st t → ((st2 : List Predicted) → verdict n ts st2 ≡ accepted → verdict p ts st2 ≡ accepted) → verdict p (t ∷ ts) st ≡ accepted
    go (takes s st2 is f) more = on_takes p ts st st2 t s is (level_more n p (suc (length ts)) (levels_of s) h f) ∙ more st2 (sym (on_takes n ts st st2 t s is f) ∙ e)
    go (exceeds s st2 is f) more = absurd (cc (on_exceeds n ts st st2 t s is f, e))
    go (refuses is) more = absurd (cc (on_refuses n ts st t is, e))

-- a file that is within the limit but for n tokens is so but for more
within_more : (n p : ℕ) (ts : List Leaf) (tree : List Item) → n ≤ p → ts ≡ items tree [] → IsNearest tree → ItemsWithin tree n [] → (other : List Item) × (ts ≡ items other []) × ItemsWithin other p [] × IsNearest other
within_more n p ts tree h is near w = accepted_file p ts (accepted_more n p ts (m.items ∷ []) h (file_accepted n ts tree is near w))

-- what can begin longer can begin so
begins_shorter : (front : List Leaf) (t : Leaf) (more : List Leaf) → CanBegin (front ++ t ∷ more) → CanBegin (front ++ t ∷ [])
begins_shorter front t more q =
    let is : (front ++ t ∷ []) ++ (more ++ q.back) ≡ items q.tree [] = append_assoc front (t ∷ []) (more ++ q.back) ∙ sym (append_assoc front (t ∷ more) q.back) ∙ q.spells in
    let f = within_more (length q.back) (length (more ++ q.back)) ((front ++ t ∷ []) ++ (more ++ q.back)) q.tree (omega (arith, length-append more q.back)) is q.nearest q.within in
    record { back = more ++ q.back; tree = f.0; spells = f.1; nearest = f.3; within = f.2 }

begins_any : (front : List Leaf) → CanBegin front → CanBeginAny front
begins_any front q = record { back = q.back; tree = q.tree; spells = q.spells; nearest = q.nearest }

-- two splits of one list: the first comes earlier, they are the same, or the second does
pub data Splits {A : Type 0} (f : List A) (x : A) (b g : List A) (y : A) (c : List A) : Type 0 where
  earlier : (more : List A) → g ≡ f ++ x ∷ more → b ≡ more ++ y ∷ c → Splits f x b g y c
  same : f ≡ g → x ≡ y → b ≡ c → Splits f x b g y c
  later : (more : List A) → f ≡ g ++ y ∷ more → c ≡ more ++ x ∷ b → Splits f x b g y c

under : {A : Type 0} (z w : A) (f : List A) (x : A) (b g : List A) (y : A) (c : List A) → z ≡ w → Splits f x b g y c → Splits (z ∷ f) x b (w ∷ g) y c
under z w f x b g y c e (earlier more h i) = earlier more (cons-same w z g (f ++ x ∷ more) (sym e) h) i
under z w f x b g y c e (same h i j) = same (cons-same z w f g e h) i j
under z w f x b g y c e (later more h i) = later more (cons-same z w f (g ++ y ∷ more) e h) i

splits : {A : Type 0} (f : List A) (x : A) (b g : List A) (y : A) (c : List A) → f ++ x ∷ b ≡ g ++ y ∷ c → Splits f x b g y c
splits [] x b [] y c e = let i : x ≡ y = cc in let j : b ≡ c = cc in same refl i j
splits [] x b (w ∷ g) y c e = let i : w ≡ x = cc in let j : b ≡ g ++ y ∷ c = cc in earlier g (cons-same w x g g i refl) j
splits (z ∷ f) x b [] y c e = let i : z ≡ y = cc in let j : c ≡ f ++ x ∷ b = cc in later f (cons-same z y f f i refl) j
splits (z ∷ f) x b (w ∷ g) y c e = let i : z ≡ w = cc in let j : f ++ x ∷ b ≡ g ++ y ∷ c = cc in under z w f x b g y c i (splits f x b g y c j)

-- the split of a list with so many left after it
record Split {A : Type 0} (xs : List A) (n : ℕ) : Type 0 where
  front : List A
  one : A
  back : List A
  is : xs ≡ front ++ one ∷ back
  left : length back ≡ n

split_behind : {A : Type 0} (x : A) (xs : List A) (n : ℕ) → Split xs n → Split (x ∷ xs) n
split_behind {A} x xs n s = record { front = x ∷ s.front; one = s.one; back = s.back; is = ap (λ (z : List A). x ∷ z) s.is; left = s.left }

split_at : {A : Type 0} (xs : List A) (n : ℕ) → n < length xs → Split xs n
split_at [] n h = absurd (omega arith)
split_at (x ∷ xs) n h = let le : n ≤ length xs = omega arith in go (eq-or-lt_of_le le) (split_at xs n)
  where
    go : (n ≡ length xs) ⊎ (n < length xs) → (n < length xs → Split xs n) → Split (x ∷ xs) n
    go (inl a) f = record { front = []; one = x; back = xs; is = refl; left = sym a }
    go (inr a) f = split_behind x xs n (f a)

-- the token there
pub token_there : (front : List Token) (t : Token) (back : List Token) → token_left (front ++ t ∷ back) (suc (length back)) ≡ t
token_there front t back =
    let n : length (front ++ t ∷ back) - suc (length back) ≡ length front = omega (arith, length-append front (t ∷ back)) in
    rw n (get_or-append_seam front t back no_token)

-- the leaves on either side of a token
kinds_split : (ts front : List Token) (t : Token) (back : List Token) → ts ≡ front ++ t ∷ back → leaves ts ≡ leaves front ++ leaf t ∷ leaves back
kinds_split ts front t back is = ap leaves is ∙ map-append leaf front (t ∷ back)

never_zero : (ts : List Leaf) (st : List Predicted) → verdict 0 ts st ≡ too_deep 0 → ⊥
never_zero [] st h = end (may_end st) h
  where
    end : (b : Bool) → at_end b ≡ too_deep 0 → ⊥
    end true h = cc
    end false h = cc
never_zero (t ∷ ts) st h = go (happens 0 (suc (length ts)) st t) (never_zero ts)
  where
    go : Happens 0 (suc (length ts)) st t → ((st : List Predicted) → verdict 0 ts st ≡ too_deep 0 → ⊥) → ⊥
    go (takes s st2 is f) more = more st2 (sym (on_takes 0 ts st st2 t s is f) ∙ h)
    go (exceeds s st2 is f) more = let q : suc (length ts) ≡ 0 = cc (on_exceeds 0 ts st st2 t s is f, h) in omega arith
    go (refuses is) more = cc (on_refuses 0 ts st t is, h)

-- what the machine does with a file's tokens
pub data Halt (ks : List Leaf) : Type 0 where
  whole : verdict_of ks ≡ accepted → Halt ks
  ends : verdict_of ks ≡ unexpected 0 → Halt ks
  here : (front : List Leaf) (t : Leaf) (back : List Leaf) (b : Bool) → ks ≡ front ++ t ∷ back → verdict_of ks ≡ fault_of b (suc (length back)) → Halt ks

halt_here : (ks : List Leaf) (n : ℕ) (b : Bool) → verdict_of ks ≡ fault_of b (suc n) → Halt ks
halt_here ks n b e =
    let s = split_at ks n (fault_le ks (m.items ∷ []) b (suc n) e) in
    here s.front s.one s.back b s.is (e ∙ ap (λ i. fault_of b (suc i)) (sym s.left))

halt : (ks : List Leaf) → Halt ks
halt ks = go (verdict_of ks) refl
  where
    go : (v : Verdict) → verdict_of ks ≡ v → Halt ks
    go accepted e = whole e
    go (unexpected zero) e = ends e
    go (unexpected (suc n)) e = halt_here ks n true e
    go (too_deep zero) e = absurd (never_zero ks (m.items ∷ []) e)
    go (too_deep (suc n)) e = halt_here ks n false e

-- the tokens before a fault begin a file
begins_before : (ks front : List Leaf) (t : Leaf) (back : List Leaf) (b : Bool) → ks ≡ front ++ t ∷ back → verdict_of ks ≡ fault_of b (suc (length back)) → CanBegin front
begins_before ks front t back true is e = ((exact ks).wrong front t back is e).0
begins_before ks front t back false is e = ((exact ks).deeper front t back is e).0

-- and with the next token they begin none
begins_no_further : (ks front : List Leaf) (t : Leaf) (back : List Leaf) (b : Bool) (more : List Leaf) → ks ≡ front ++ t ∷ back → verdict_of ks ≡ fault_of b (suc (length back)) → CanBegin (front ++ t ∷ more) → ⊥
begins_no_further ks front t back b more is e q =
    refused (length q.back) front t back (more ++ q.back) b (inr (omega (arith, length-append more q.back))) (ap verdict_of (sym is) ∙ e) q.tree
    (append_assoc front (t ∷ []) (more ++ q.back) ∙ sym (append_assoc front (t ∷ more) q.back) ∙ q.spells) q.nearest q.within

-- accepted tokens begin a file
begins_whole : (ks : List Leaf) → verdict_of ks ≡ accepted → CanBegin ks
begins_whole ks e =
    let f = accepted_file 0 ks e in record { back = []; tree = f.0; spells = append-nil ks ∙ f.1; nearest = f.3; within = f.2 }

-- the machine stops at a token with which the tokens before it no longer begin a file
fails_there : (ks front : List Leaf) (t : Leaf) (back : List Leaf) → ks ≡ front ++ t ∷ back → CanBegin front → (CanBegin (front ++ t ∷ []) → ⊥) → (b : Bool) × (verdict_of ks ≡ fault_of b (suc (length back)))
fails_there ks front t back is can none = go (halt ks)
  where
    compared : (f : List Leaf) (x : Leaf) (c : List Leaf) (b : Bool) → ks ≡ f ++ x ∷ c → verdict_of ks ≡ fault_of b (suc (length c)) → Splits f x c front t back → (b : Bool) × (verdict_of ks ≡ fault_of b (suc (length back)))
    compared f x c b own e (earlier more h i) = absurd (begins_no_further ks f x c b more own e (subst CanBegin h can))
    compared f x c b own e (same h i j) = (b, e ∙ ap (λ (z : List Leaf). fault_of b (suc (length z))) j)
    compared f x c b own e (later more h i) = absurd (none (begins_shorter front t more (subst CanBegin h (begins_before ks f x c b own e))))

    go : Halt ks → (b : Bool) × (verdict_of ks ≡ fault_of b (suc (length back)))
    go (whole e) = absurd (none (begins_shorter front t back (subst CanBegin is (begins_whole ks e))))
    go (ends e) = absurd (none (begins_shorter front t back (subst CanBegin is ((exact ks).ends e).0)))
    go (here f x c b own e) = compared f x c b own e (splits f x c front t back (sym own ∙ is))

-- and at the end, where they only begin one
fails_at_end : (ks : List Leaf) → CanBegin ks → (Spelled ks → ⊥) → verdict_of ks ≡ unexpected 0
fails_at_end ks can none = go (halt ks)
  where
    go : Halt ks → verdict_of ks ≡ unexpected 0
    go (whole e) = absurd (none ((exact ks).accepts e))
    go (ends e) = e
    go (here f x c b own e) = absurd (begins_no_further ks f x c b c own e (subst CanBegin own can))

-- a file is spelled
spelled : (ts : List Token) (tree : List Item) → IsFile ts tree → Spelled (leaves ts)
spelled ts tree f = record { tree = tree; spells = f.spells; nearest = f.nearest; within = items_within tree [] f.shallow }

place_there : (ts front : List Token) (t : Token) (back : List Token) (n : ℕ) → ts ≡ front ++ t ∷ back → length back ≡ n → (token_left ts (suc n)).place ≡ t.place
place_there ts front t back n is left = rw (is, ← left) (ap (λ (x : Token). x.place) (token_there front t back))

unexpected_is : (end : Place) (ts : List Token) (p : Place) (n : ℕ) → verdict_of (leaves ts) ≡ unexpected n → p ≡ place_left end ts n → IsFault end ts (Unexpected p)
unexpected_is end ts p zero e at =
    let q = (exact (leaves ts)).ends e in
    inr (record { there = at; begins = q.0; no_file = λ tree f. q.1 (spelled ts tree f) })
unexpected_is end ts p (suc n) e at =
    let le : suc n ≤ length (leaves ts) = fault_le (leaves ts) (m.items ∷ []) true (suc n) e in
    let s = split_at ts n (omega (arith, length-map ts leaf)) in
    let v : verdict_of (leaves ts) ≡ unexpected (suc (length (leaves s.back))) = e ∙ ap (λ (i : ℕ). unexpected (suc i)) (sym (length-map s.back leaf ∙ s.left)) in
    let q = (exact (leaves ts)).wrong (leaves s.front) (leaf s.one) (leaves s.back) (kinds_split ts s.front s.one s.back s.is) v in
    inl (record { front = s.front; token = s.one; back = s.back; split = s.is; there = at ∙ place_there ts s.front s.one s.back n s.is s.left; begins = q.0; no_further = q.1 })

too_deep_is : (end : Place) (ts : List Token) (p : Place) (n : ℕ) → verdict_of (leaves ts) ≡ too_deep n → p ≡ place_left end ts n → IsFault end ts (TooDeep p)
too_deep_is end ts p zero e at = absurd (never_zero (leaves ts) (m.items ∷ []) e)
too_deep_is end ts p (suc n) e at =
    let le : suc n ≤ length (leaves ts) = fault_le (leaves ts) (m.items ∷ []) false (suc n) e in
    let s = split_at ts n (omega (arith, length-map ts leaf)) in
    let v : verdict_of (leaves ts) ≡ too_deep (suc (length (leaves s.back))) = e ∙ ap (λ (i : ℕ). too_deep (suc i)) (sym (length-map s.back leaf ∙ s.left)) in
    let q = (exact (leaves ts)).deeper (leaves s.front) (leaf s.one) (leaves s.back) (kinds_split ts s.front s.one s.back s.is) v in
    record { front = s.front; token = s.one; back = s.back; split = s.is; there = at ∙ place_there ts s.front s.one s.back n s.is s.left; begins = q.0; begins_deeper = q.1; no_further = q.2 }

-- what the verdict says is the fault
pub says_fault : (end : Place) (ts : List Token) (f : ParseFault) → Says end ts f (verdict_of (leaves ts)) → IsFault end ts f
says_fault end ts (Unexpected p) h = unexpected_is end ts p h.0 h.1 h.2
says_fault end ts (TooDeep p) h = too_deep_is end ts p h.0 h.1 h.2
says_fault end ts OutOfMemory h = absurd h

unexpected_says : (end : Place) (ts : List Token) (p : Place) → IsUnexpected ts p → Says end ts (Unexpected p) (verdict_of (leaves ts))
unexpected_says end ts p q =
    let is = kinds_split ts q.front q.token q.back q.split in
    let s = fails_there (leaves ts) (leaves q.front) (leaf q.token) (leaves q.back) is q.begins (λ c. q.no_further (begins_any (leaves q.front ++ leaf q.token ∷ []) c)) in
    go is s.0 s.1
  where
    go : leaves ts ≡ leaves q.front ++ leaf q.token ∷ leaves q.back → (b : Bool) → verdict_of (leaves ts) ≡ fault_of b (suc (length (leaves q.back))) → Says end ts (Unexpected p) (verdict_of (leaves ts))
    go is true e = (suc (length (leaves q.back)), e, q.there ∙ sym (place_there ts q.front q.token q.back (length (leaves q.back)) q.split (sym (length-map q.back leaf))))
    go is false e = absurd (q.no_further ((exact (leaves ts)).deeper (leaves q.front) (leaf q.token) (leaves q.back) is e).1)

too_deep_says : (end : Place) (ts : List Token) (p : Place) → IsTooDeep ts p → Says end ts (TooDeep p) (verdict_of (leaves ts))
too_deep_says end ts p q =
    let is = kinds_split ts q.front q.token q.back q.split in
    let s = fails_there (leaves ts) (leaves q.front) (leaf q.token) (leaves q.back) is q.begins q.no_further in
    go is s.0 s.1
  where
    go : leaves ts ≡ leaves q.front ++ leaf q.token ∷ leaves q.back → (b : Bool) → verdict_of (leaves ts) ≡ fault_of b (suc (length (leaves q.back))) → Says end ts (TooDeep p) (verdict_of (leaves ts))
    go is true e = absurd (((exact (leaves ts)).wrong (leaves q.front) (leaf q.token) (leaves q.back) is e).1 q.begins_deeper)
    go is false e = (suc (length (leaves q.back)), e, q.there ∙ sym (place_there ts q.front q.token q.back (length (leaves q.back)) q.split (sym (length-map q.back leaf))))

-- and the fault is what the verdict says
pub fault_says : (end : Place) (ts : List Token) (f : ParseFault) → IsFault end ts f → Says end ts f (verdict_of (leaves ts))
fault_says end ts (Unexpected p) h = elim h [
  | inl q ↦ unexpected_says end ts p q
  | inr q ↦ (0, fails_at_end (leaves ts) q.begins (λ f. q.no_file f.tree (record { spells = f.spells; nearest = f.nearest; shallow = items_shallow f.tree [] f.within })), q.there)
]
fault_says end ts (TooDeep p) h = too_deep_says end ts p h
fault_says end ts OutOfMemory h = absurd h

-- a fault is one alone
says_once : (end : Place) (ts : List Token) (v : Verdict) (f g : ParseFault) → Says end ts f v → Says end ts g v → f ≡ g
says_once end ts v (Unexpected p) (Unexpected q) h i = let n : h.0 ≡ i.0 = cc (h.1, i.1) in ap Unexpected (h.2 ∙ ap (place_left end ts) n ∙ sym i.2)
says_once end ts v (TooDeep p) (TooDeep q) h i = let n : h.0 ≡ i.0 = cc (h.1, i.1) in ap TooDeep (h.2 ∙ ap (place_left end ts) n ∙ sym i.2)
says_once end ts v (Unexpected p) (TooDeep q) h i = absurd (cc (h.1, i.1))
says_once end ts v (TooDeep p) (Unexpected q) h i = absurd (cc (h.1, i.1))
says_once end ts v OutOfMemory g h i = absurd h
says_once end ts v f OutOfMemory h i = absurd i

pub faults_once : (end : Place) (ts : List Token) (f g : ParseFault) → IsFault end ts f → IsFault end ts g → f ≡ g
faults_once end ts f g h i = says_once end ts (verdict_of (leaves ts)) f g (fault_says end ts f h) (fault_says end ts g i)

accepted_says_none : (end : Place) (ts : List Token) (v : Verdict) (f : ParseFault) → v ≡ accepted → Says end ts f v → ⊥
accepted_says_none end ts v (Unexpected p) e h = cc (e, h.1)
accepted_says_none end ts v (TooDeep p) e h = cc (e, h.1)
accepted_says_none end ts v OutOfMemory e h = h

-- a file has no fault
pub files_without_fault : (end : Place) (ts : List Token) (tree : List Item) (f : ParseFault) → IsFile ts tree → IsFault end ts f → ⊥
files_without_fault end ts tree f file h =
    accepted_says_none end ts (verdict_of (leaves ts)) f ((exact (leaves ts)).file (spelled ts tree file)) (fault_says end ts f h)

-- tokens are a file, or have a fault
pub file_or_fault : (end : Place) (ts : List Token) → ((tree : List Item) × IsFile ts tree) ⊎ ((f : ParseFault) × IsFault end ts f)
file_or_fault end ts = go (verdict_of (leaves ts)) refl
  where
    go : (v : Verdict) → verdict_of (leaves ts) ≡ v → ((tree : List Item) × IsFile ts tree) ⊎ ((f : ParseFault) × IsFault end ts f)
    go accepted e = let f = (exact (leaves ts)).accepts e in inl (f.tree, record { spells = f.spells; nearest = f.nearest; shallow = items_shallow f.tree [] f.within })
    go (unexpected n) e = inr (Unexpected (place_left end ts n), says_fault end ts (Unexpected (place_left end ts n)) (n, e, refl))
    go (too_deep n) e = inr (TooDeep (place_left end ts n), says_fault end ts (TooDeep (place_left end ts n)) (n, e, refl))
