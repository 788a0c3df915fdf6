-- Rows of visited: what a procedure's own text tells, and what its calls add.
use Rattle.std.proofs.Common.{◌≡◌, ◌⊎◌, ◌↔◌, ◌==◌, ◌||◌, ◌<◌, ◌≤◌, ◌+◌, ℕ, zero, suc, Bool, true, false, List, [], ◌∷◌, ◌++◌, length, get_or, map, take, Option, None, Some, slice_get, Vec, Contains, All, AllPairs, refl, sym, ap, inl, inr, ◌∙◌, subst, arith}
use Rattle.std.specs.Bool.{Decides}
use Rattle.std.specs.List.{AllZip}
use Rattle.std.specs.Str.{bytes_eq}
use Rattle.std.proofs.lemmas.Bool.Decides.{Decides-or, Decides-like}
use Rattle.std.proofs.lemmas.List.{length-map, take_all, take_more}
use Rattle.std.proofs.lemmas.List.Elements.{Contains-append_left, Contains-append_right, Contains-append_cases, All-nil, All-cons, All-head, All-tail}
use Rattle.std.proofs.lemmas.Option.{slice_get_within, slice_get_read, get_or_from_slice_get, same_Some, none-some}
use Rattle.std.proofs.lemmas.Slice.Zip.{AllZip-long, all_zipped_more}
use Rattle.std.specs.declared.alloc.Global.{Global}
use Rattle.sf_base.proofs.Elements.{contains-nil, contains-single, contains-single_of, contains-cons, contains-cons_if, contains-cons_if_first, contains-cons_if_rest, all-cons_if, pairs-cons_if, pairs-head, pairs-tail}
use Rattle.sf_base.proofs.Lookup.{get-true}
use Rattle.sf_base.proofs.Lists.{map-more}
use Rattle.sf_base.proofs.Zips.{zip-right}
use Rattle.sf_base.proofs.Bools.{bool-same}
use Rattle.sf_base.specs.declared.ids.ProcId.{ProcId}
use Rattle.sf_base.specs.declared.ids.ResId.{ResId}
use Rattle.sf_base.specs.declared.ids.Var.{Var}
use Rattle.sf_base.specs.declared.ids.Var.TheVariants.{Own, Shared}
use Rattle.sf_core.proofs.Inits.{sets_up-is}
use Rattle.sf_core.specs.declared.program.Proc.{Proc}
use Rattle.sf_core.specs.declared.program.Program.{Program as CodeProgram}
use Rattle.sf_core.specs.Machine.HasThroughout.{HasThroughout}
use Rattle.sf_core.specs.Program.Init.{init_name, is_init, sets_up}
use Rattle.sf_core.specs.Program.Named.{name_in}
use Rattle.sf_core.specs.Assertions.Occurs.{VarOccursIn}
use Rattle.sf_core.specs.Program.Syntax.{Procedure, Program}
use Rattle.sf_core.specs.Program.ProgramView.{program_of}
use Rattle.sf_core.specs.Program.View.{procedure_of, resource_of}
use Rattle.sf_calls.specs.declared.summary.Summary.{Summary}
use Rattle.sf_calls.specs.Conditions.{Calls, Enters, Mentions, IsShared}
use Rattle.sf_calls.specs.Reaches.{Reaches, directly, through}
use Rattle.sf_calls.specs.Checked.Visited.{IsVisited, IsCaller, AreCallers, IsRow, AreRows, chosen}
use Rattle.sf_calls.specs.Checked.Summaries.{IsSummaryOf, AreSummaries, speaks_of, has}
use Rattle.sf_calls.specs.Checked.Listed.{is_entered}
use Rattle.sf_calls.specs.Outside.{EntersIn, OccursOutside}
use Rattle.sf_calls.specs.Sets.{IsEarlier, IsEarlierResource, IsSetOf, IsResSet, IsFamily}
use Rattle.sf_base.specs.Variables.{same_var}
use Rattle.sf_base.proofs.Variables.{resource-decides, same_var-decides}
use Rattle.sf_calls.specs.Checked.Lemmas.Decided.{entered_is}

-- a test of each entry visited the procedures that have what it decides
zip_visited : {B : Type 0} (R : Procedure → B → Type 0) (t : B → Bool) (P : Procedure → Type 0)
    → ((h : Procedure) (y : B) → R h y → Decides (t y) (P h)) → (hs : List Procedure) (ys : List B)
    → AllZip R hs ys → (k : ℕ)
    → (slice_get (map t ys) k ≡ Some true) ↔ ((h : Procedure) × (slice_get hs k ≡ Some h) × P h)
zip_visited R t P d [] [] z k = (λ e. absurd (none-some true e), λ h. absurd (none-some h.0 h.1))
zip_visited R t P d [] (y ∷ ys) z k = absurd z
zip_visited R t P d (h ∷ hs) [] z k = absurd z
zip_visited R t P d (h ∷ hs) (y ∷ ys) z zero = (
  λ e. (h, refl, (d h y z.0).0 (same_Some (t y) true e)),
  λ s. ap Some ((d h y z.0).1 (subst P (sym (same_Some h s.0 s.1)) s.2)),
)
zip_visited R t P d (h ∷ hs) (y ∷ ys) z (suc k) = zip_visited R t P d hs ys z.1 k

-- all entries were looked at
zip_row : {B : Type 0} (R : Procedure → B → Type 0) (t : B → Bool) (P : Procedure → Type 0)
    → ((h : Procedure) (y : B) → R h y → Decides (t y) (P h)) → (hs : List Proc) (ys : List B)
    → AllZip R (map procedure_of hs) ys
    → (i : ℕ) (visited : List Bool) → length ys ≤ i → visited ≡ map t (take i ys)
    → IsRow (length hs) (λ f. (h : Procedure) × (slice_get (map procedure_of hs) f.0 ≡ Some h) × P h)
    visited
zip_row R t P d hs ys z i visited past e =
    let all : visited ≡ map t ys = e ∙ ap (map t) (take_all i ys past) in
    rw all
    (record {
      size = length-map ys t ∙ AllZip-long R (map procedure_of hs) ys z
          ∙ length-map hs procedure_of;
      visited = λ f. zip_visited R t P d (map procedure_of hs) ys z f.0;
    })

-- the same row by another description
pub row_same : (n : ℕ) (P Q : ProcId → Type 0) (row : List Bool) → ((f : ProcId) → P f → Q f)
    → ((f : ProcId) → Q f → P f) → IsRow n P row → IsRow n Q row
row_same n P Q row to from r =
    record {
      size = r.size;
      visited = λ f. (λ m. to f ((r.visited f).0 m), λ q. (r.visited f).1 (from f q));
    }

pub has_is : (x : Var) (xs : List Var) → Decides (has x xs) (Contains xs x)
has_is x [] = (λ e. absurd (cc), λ c. absurd (contains-nil x c))
has_is x (y ∷ ys) =
    let both = Decides-or (same_var y x) (has x ys) (same_var-decides y x) (has_is x ys) in
    (λ e. (contains-cons y ys x).1 (both.0 e), λ c. both.1 ((contains-cons y ys x).0 c))

-- a variable of the resource is there
unfoldable pub Speaks : ResId → List Var → Type 0
Speaks r xs = (i : ℕ) × Contains xs (Shared r i)

pub speaks_is : (r : ResId) (xs : List Var) → Decides (speaks_of r xs) (Speaks r xs)
unfolding Speaks
speaks_is r [] = (λ e. absurd (cc), λ s. absurd (contains-nil (Shared r s.0) s.1))
speaks_is r (Own n ∷ xs) = Decides-like (speaks_of r xs) to from (speaks_is r xs)
  where
    to : Speaks r xs → Speaks r (Own n ∷ xs)
    to s = (s.0, (contains-cons (Own n) xs (Shared r s.0)).1 (inr s.1))

    from : Speaks r (Own n ∷ xs) → Speaks r xs
    from s = elim ((contains-cons (Own n) xs (Shared r s.0)).0 s.1) [ inl e ↦ absurd (cc) | inr c ↦ (s.0, c) ]
speaks_is r (Shared q j ∷ xs) =
    Decides-like ((q.0 == r.0) || speaks_of r xs) to from
    (Decides-or (q.0 == r.0) (speaks_of r xs) (resource-decides q r) (speaks_is r xs))
  where
    to : (q ≡ r) ⊎ Speaks r xs → Speaks r (Shared q j ∷ xs)
    to (inl e) = (j, (contains-cons (Shared q j) xs (Shared r j)).1 (inl (ap (λ (k : ResId). Shared k j) e)))
    to (inr s) = (s.0, (contains-cons (Shared q j) xs (Shared r s.0)).1 (inr s.1))

    from : Speaks r (Shared q j ∷ xs) → (q ≡ r) ⊎ Speaks r xs
    from s =
        elim ((contains-cons (Shared q j) xs (Shared r s.0)).0 s.1) [
          | inl e ↦ inl (let same : q ≡ r = cc in same)
          | inr c ↦ inr (s.0, c)
        ]

-- a procedure that sets the resources up is there
sets_up-there : (p : Program) (f : ProcId) → sets_up p f ≡ true
    → (h : Procedure) × (slice_get p.procedures f.0 ≡ Some h)
sets_up-there p f s = go (slice_get p.procedures f.0) refl
  where
    go : (o : Option Procedure) → slice_get p.procedures f.0 ≡ o
        → (h : Procedure) × (slice_get p.procedures f.0 ≡ Some h)
    go None e = absurd (let no : false ≡ true = sym (ap (λ (o : Option Procedure). bytes_eq (name_in o) init_name) e) ∙ s in cc)
    go (Some h) e = (h, e)

-- the procedure sets the resources up, or its contract mentions this one
abbrev HoldsIt : ResId → Procedure → Type 0
HoldsIt r h = (is_init h ≡ true)
    ⊎ ((i : ℕ) × (VarOccursIn h.pre.level (Shared r i) ⊎ VarOccursIn h.post.level (Shared r i)))

-- who enters a resource, who mentions a variable, and who holds a resource
pub entering_row : (p : Program) (r : ResId) (hs : List Proc) (summaries : List Summary) (i : ℕ)
    (visited : List Bool)
    → map procedure_of hs ≡ p.procedures → AreSummaries p summaries
    → length summaries ≤ i → visited ≡ map (λ t. is_entered r t.entered.items) (take i summaries)
    → IsRow (length hs) (Enters p r) visited
entering_row p r hs summaries i visited same z past e =
    row_same (length hs) _ (Enters p r) visited
    (λ f s. (s.0, ap (λ (k : List Procedure). slice_get k f.0) (sym same) ∙ s.1, s.2))
    (λ f s. (s.0, ap (λ (k : List Procedure). slice_get k f.0) same ∙ s.1, s.2))
    (zip_row IsSummaryOf (λ t. is_entered r t.entered.items) (λ h. EntersIn r h.body)
    (λ h t w. Decides-like (is_entered r t.entered.items) (w.entered r).0 (w.entered r).1
    (entered_is r t.entered.items)) hs summaries (rw same z) i visited past e)

pub mentioning_row : (p : Program) (x : Var) (hs : List Proc) (summaries : List Summary) (i : ℕ)
    (visited : List Bool)
    → map procedure_of hs ≡ p.procedures → AreSummaries p summaries → IsShared x
    → length summaries ≤ i → visited ≡ map (λ t. has x t.mentioned) (take i summaries)
    → IsRow (length hs) (Mentions p x) visited
mentioning_row p x hs summaries i visited same z shared past e =
    row_same (length hs) _ (Mentions p x) visited
    (λ f s. (s.0, ap (λ (k : List Procedure). slice_get k f.0) (sym same) ∙ s.1, s.2))
    (λ f s. (s.0, ap (λ (k : List Procedure). slice_get k f.0) same ∙ s.1, s.2))
    (zip_row IsSummaryOf (λ t. has x t.mentioned)
    (λ h. VarOccursIn h.pre.level x ⊎ (VarOccursIn h.post.level x ⊎ OccursOutside x h.body))
    (λ h t w. Decides-like (has x t.mentioned) (λ c. ((w.mentioned.members x).0 c).1)
    (λ m. (w.mentioned.members x).1 (shared, m)) (has_is x t.mentioned)) hs summaries
    (rw same z) i visited past e)

pub holding_row : (p : Program) (r : ResId) (hs : List Proc) (summaries : List Summary) (i : ℕ)
    (visited : List Bool)
    → map procedure_of hs ≡ p.procedures → AreSummaries p summaries → r.0 < length p.resources
    → length summaries ≤ i → visited ≡ map (λ t. t.sets_up || speaks_of r t.in_contract) (take i summaries)
    → IsRow (length hs) (λ f. HasThroughout p f r) visited
unfolding Speaks
holding_row p r hs summaries i visited same z inside past e =
    row_same (length hs) (λ f. (h : Procedure) × (slice_get (map procedure_of hs) f.0 ≡ Some h) × HoldsIt r h)
    (λ f. HasThroughout p f r) visited to from
    (zip_row IsSummaryOf (λ t. t.sets_up || speaks_of r t.in_contract) (HoldsIt r) tells hs summaries (rw same z) i visited
    past e)
  where
    tells : (h : Procedure) (t : Summary) → IsSummaryOf h t
        → Decides (t.sets_up || speaks_of r t.in_contract) (HoldsIt r h)
    tells h t w =
        Decides-or t.sets_up (speaks_of r t.in_contract) (λ s. sym w.sets_up ∙ s, λ s. w.sets_up ∙ s)
        (Decides-like (speaks_of r t.in_contract)
        (λ s. (s.0, ((w.in_contract.members (Shared r s.0)).0 s.1).1))
        (λ m. (m.0, (w.in_contract.members (Shared r m.0)).1 (tt, m.1))) (speaks_is r t.in_contract))

    to : (f : ProcId) → (h : Procedure) × (slice_get (map procedure_of hs) f.0 ≡ Some h) × HoldsIt r h
        → HasThroughout p f r
    to f (h, at, inl s) = inr (sets_up-is p f h (ap (λ (k : List Procedure). slice_get k f.0) (sym same) ∙ at) ∙ s, inside)
    to f (h, at, inr m) = inl (record {
      procedure = h;
      there = ap (λ (k : List Procedure). slice_get k f.0) (sym same) ∙ at;
      variable = m.0;
      occurs = m.1;
    })

    from : (f : ProcId) → HasThroughout p f r
        → (h : Procedure) × (slice_get (map procedure_of hs) f.0 ≡ Some h) × HoldsIt r h
    from f (inl b) = (
      b.procedure,
      ap (λ (k : List Procedure). slice_get k f.0) same ∙ b.there,
      inr (b.variable, b.occurs),
    )
    from f (inr s) =
        let h = sets_up-there p f s.0 in
        (h.0, ap (λ (k : List Procedure). slice_get k f.0) same ∙ h.1, inl (sym (sets_up-is p f h.0 h.1) ∙ s.0))

-- the least set rests on its two rules alone
pub reaches_along : {A : Type 0} (D D' : A → Type 0) (E E' : A → A → Type 0) → ((a : A) → D a → D' a)
    → ((a b : A) → E a b → E' a b) → (a : A) → Reaches D E a → Reaches D' E' a
reaches_along D D' E E' d e a (directly h) = directly (d a h)
reaches_along D D' E E' d e a (through b s h) = through b (e a b s) (reaches_along D D' E E' d e b h)

-- what holds where something is had directly, whoever has it, holds if anyone has it
pub reaches_within : {A : Type 0} (D : A → Type 0) (E : A → A → Type 0) (Q : Type 0) → ((a : A) → D a → Q)
    → (a : A) → Reaches D E a → Q
reaches_within D E Q d a (directly h) = d a h
reaches_within D E Q d a (through b s h) = reaches_within D E Q d b h

-- a search from a row, along the calls, gives the row of the least set
pub leading_row : (p : Program) (but : Option ResId) (n : ℕ) (D : ProcId → Type 0)
    (direct visited : List Bool) (callers : List (Vec ProcId Global))
    → AreCallers p but callers → IsRow n D direct → length callers ≡ n → length visited ≡ length callers
    → ((f : ProcId) → IsVisited visited f ↔ Reaches (IsVisited direct) (IsCaller callers) f)
    → IsRow n (λ f. Reaches D (Calls p but) f) visited
leading_row p but n D direct visited callers calls row size length_is is = record {
  size = length_is ∙ size;
  visited = λ f. (
    λ m. reaches_along (IsVisited direct) D (IsCaller callers) (Calls p but) (λ g h. (row.visited g).0 h)
        (λ g h c. (calls.are g h).0 c) f ((is f).0 m),
    λ l. (is f).1
        (reaches_along D (IsVisited direct) (Calls p but) (IsCaller callers) (λ g h. (row.visited g).1 h)
        (λ g h c. (calls.are g h).1 c) f l),
  );
}

-- each caller is there
pub callers_there : (p : Program) (but : Option ResId) (callers : List (Vec ProcId Global))
    → AreCallers p but callers → (f g : ProcId) → IsCaller callers f g → f.0 < length callers
callers_there p but callers calls f g c =
    let call = (calls.are f g).0 c in
    rw calls.size (slice_get_within p.procedures f.0 call.0 call.1)

chosen_step : {A : Type 0} (n : ℕ) (P : ProcId → A → Type 0) (k : A) (ks : List A) (row : Vec Bool Global)
    (rows : List (Vec Bool Global)) (f : ProcId)
    → IsRow n (λ g. P g k) row.items → (x : A)
    → (Contains (chosen f.0 ks rows) x ↔ (Contains ks x × P f x))
    → Contains (chosen f.0 (k ∷ ks) (row ∷ rows)) x ↔ (Contains (k ∷ ks) x × P f x)
chosen_step n P k ks row rows f here x rest = (to, from)
  where
    to : Contains (chosen f.0 (k ∷ ks) (row ∷ rows)) x → Contains (k ∷ ks) x × P f x
    to c = elim (contains-cons_if (get_or row.items f.0 false) k x (chosen f.0 ks rows) c) [
      | inl h ↦ (
        Contains-append_left (k ∷ []) ks x (contains-single_of k x h.1),
        subst (P f) h.1
            ((here.visited f).0 (get-true row.items f.0 h.0)),
      )
      | inr h ↦ let more = rest.0 h in (Contains-append_right (k ∷ []) ks x more.0, more.1)
    ]

    from : Contains (k ∷ ks) x × P f x → Contains (chosen f.0 (k ∷ ks) (row ∷ rows)) x
    from (c, h) = elim (Contains-append_cases (k ∷ []) ks x c) [
      | inl y ↦ let same = contains-single k x y in
          contains-cons_if_first (get_or row.items f.0 false) k x (chosen f.0 ks rows)
          (get_or_from_slice_get row.items f.0 true false
          ((here.visited f).1 (subst (P f) (sym same) h))) same
      | inr y ↦ contains-cons_if_rest (get_or row.items f.0 false) k x (chosen f.0 ks rows) (rest.1 (y, h))
    ]

-- the keys in whose rows f is visited are those that f has
pub chosen_members : {A : Type 0} (n : ℕ) (P : ProcId → A → Type 0) (keys : List A)
    (rows : List (Vec Bool Global)) (f : ProcId)
    → AreRows n P keys rows → (x : A) → Contains (chosen f.0 keys rows) x ↔ (Contains keys x × P f x)
chosen_members n P [] [] f z x = (λ c. absurd (contains-nil x c), λ h. absurd (contains-nil x h.0))
chosen_members n P [] (row ∷ rows) f z x = absurd z
chosen_members n P (k ∷ ks) [] f z x = absurd z
chosen_members n P (k ∷ ks) (row ∷ rows) f z x =
    chosen_step n P k ks row rows f z.0 x (chosen_members n P ks rows f z.1 x)

chosen_all : {A : Type 0} (Q : A → Type 0) (f : ℕ) (keys : List A) (rows : List (Vec Bool Global))
    → All Q keys → All Q (chosen f keys rows)
chosen_all Q f [] rows h = All-nil Q
chosen_all Q f (k ∷ ks) [] h = All-nil Q
chosen_all Q f (k ∷ ks) (row ∷ rows) h =
    all-cons_if (get_or row.items f false) Q k (chosen f ks rows) (All-head Q k ks h)
    (chosen_all Q f ks rows (All-tail Q k ks h))

-- and in the same order
pub chosen_ordered : {A : Type 0} (B : A → A → Type 0) (f : ℕ) (keys : List A)
    (rows : List (Vec Bool Global))
    → AllPairs B keys → AllPairs B (chosen f keys rows)
chosen_ordered B f [] rows h = h
chosen_ordered B f (k ∷ ks) [] h = λ i j d less below. absurd (omega (arith, below))
chosen_ordered B f (k ∷ ks) (row ∷ rows) h =
    pairs-cons_if (get_or row.items f false) B k (chosen f ks rows)
    (chosen_all (B k) f ks rows (pairs-head B k ks h))
    (chosen_ordered B f ks rows (pairs-tail B k ks h))

-- so they are the set
pub chosen_set : {A : Type 0} (B : A → A → Type 0) (n : ℕ) (P : ProcId → A → Type 0) (Q S : A → Type 0)
    (keys : List A) (rows : List (Vec Bool Global)) (f : ProcId)
    → IsSetOf B Q keys → AreRows n P keys rows → ((x : A) → S x → Q x × P f x)
    → ((x : A) → Q x → P f x → S x) → IsSetOf B S (chosen f.0 keys rows)
chosen_set B n P Q S keys rows f s z apart both = record {
  ordered = chosen_ordered B f.0 keys rows s.ordered;
  members = λ x. (
    λ c. let h = (chosen_members n P keys rows f z x).0 c in both x ((s.members x).0 h.0) h.1,
    λ h. (chosen_members n P keys rows f z x).1 ((s.members x).1 (apart x h).0, (apart x h).1),
  );
}

-- the sets of all procedures
pub family_of : {A : Type 0} (B : A → A → Type 0) (n m : ℕ) (P S : ProcId → A → Type 0) (Q : A → Type 0)
    (keys : List A) (rows : List (Vec Bool Global)) (sets : List (List A))
    → IsSetOf B Q keys → AreRows n P keys rows → ((f : ProcId) (x : A) → S f x → Q x × P f x)
    → ((f : ProcId) (x : A) → Q x → P f x → S f x)
    → length sets ≡ m → ((f : ℕ) (xs : List A) → slice_get sets f ≡ Some xs → xs ≡ chosen f keys rows)
    → IsFamily (IsSetOf B) S m sets
family_of {A} B n m P S Q keys rows sets s z apart both e each = record {
  each = e;
  is =
      λ f xs at. subst (IsSetOf B (S f)) (sym (each f.0 xs at))
      (chosen_set B n P Q (S f) keys rows f s z (apart f) (both f));
}

-- rows are as many as their keys, and as long as there are procedures
rows_fit : {A : Type 0} (n : ℕ) (P : ProcId → A → Type 0) (keys : List A)
    (rows : List (Vec Bool Global))
    → AreRows n P keys rows → (length rows ≡ length keys) × All (λ row. n ≤ length row.items) rows
rows_fit n P [] [] z = (refl, All-nil (λ (row : Vec Bool Global). n ≤ length row.items))
rows_fit n P [] (row ∷ rows) z = absurd z
rows_fit n P (k ∷ ks) [] z = absurd z
rows_fit n P (k ∷ ks) (row ∷ rows) z =
    let rest = rows_fit n P ks rows z.1 in (
      ap suc rest.0,
      All-cons (λ (r : Vec Bool Global). n ≤ length r.items) row rows
          (let e = z.0.size in omega (arith, e)) rest.1,
    )

-- the same of rows as they are read, and of a count of procedures
pub rows_read : {A : Type 0} (n m : ℕ) (P : ProcId → A → Type 0) (keys : List A)
    (rows read : List (Vec Bool Global))
    → AreRows n P keys rows → read ≡ rows → m ≡ n
    → (length read ≡ length keys) × All (λ row. m ≤ length row.items) read
rows_read n m P keys rows read z e size =
    let fit = rows_fit n P keys rows z in (ap length e ∙ fit.0, rw (e, size) fit.1)

-- a set of resources for each procedure, where only resources of the program are had
pub resource_sets : (p : CodeProgram) (P : ProcId → ResId → Type 0)
    → ((f : ProcId) (r : ResId) → P f r → r.0 < length (program_of p).resources)
    → (keys : List ResId) (rows read : List (Vec Bool Global)) (count : ℕ)
    → IsSetOf IsEarlierResource (λ r. r.0 < length p.resources.items) keys
    → AreRows (length p.procedures.items) P keys rows → read ≡ rows → count ≡ length p.procedures.items
    → (sets : List (List ResId)) → length sets ≡ count
    → ((f : ℕ) (rs : List ResId) → slice_get sets f ≡ Some rs → rs ≡ chosen f keys read)
    → IsFamily IsResSet P (length (program_of p).procedures) sets
resource_sets p P within keys rows read count s z e all sets size each =
    family_of IsEarlierResource (length p.procedures.items) (length (program_of p).procedures) P P
    (λ (r : ResId). r.0 < length p.resources.items) keys read sets s (rw e z)
    (λ f r h. (rw (← length-map p.resources.items resource_of) (within f r h), h)) (λ f r q h. h)
    (size ∙ all ∙ sym (length-map p.procedures.items procedure_of)) each

-- the row of one more key
pub rows_more : {A : Type 0} (n : ℕ) (P : ProcId → A → Type 0) (keys : List A) (i : ℕ) (d : A)
    (rows more : List (Vec Bool Global)) (row : Vec Bool Global)
    → i < length keys → AreRows n P (take i keys) rows → IsRow n (λ f. P f (get_or keys i d)) row.items
    → more ≡ rows ++ row ∷ [] → AreRows n P (take (i + 1) keys) more
rows_more n P keys i d rows more row below so_far next e =
    rw (e, take_more keys i d below)
    (all_zipped_more (λ x (r : Vec Bool Global). IsRow n (λ f. P f x) r.items) (take i keys) rows
    (get_or keys i d) row so_far next)

-- the text of one more procedure
pub summaries_more : (xs ys : List Proc) (i : ℕ) (h : Proc) (summaries more : List Summary) (t : Summary)
    → ys ≡ xs → i < length ys → h ≡ get_or ys i h
    → AllZip IsSummaryOf (map procedure_of (take i xs)) summaries → IsSummaryOf (procedure_of h) t
    → more ≡ summaries ++ t ∷ []
    → AllZip IsSummaryOf (map procedure_of (take (i + 1) xs)) more
summaries_more xs ys i h summaries more t e below is so_far next longer =
    rw (
      longer,
      ← map-more procedure_of xs ys i h (map procedure_of (take i xs))
          (procedure_of h) e below is refl refl,
    )
    (all_zipped_more IsSummaryOf (map procedure_of (take i xs)) summaries
    (procedure_of h) t so_far next)

-- the variables of a text are in order
pub summary_ordered : (p : Program) (summaries : List Summary) (i : ℕ) (t : Summary)
    → AreSummaries p summaries → i < length summaries → t ≡ get_or summaries i t
    → AllPairs IsEarlier t.mentioned
summary_ordered p summaries i t z below is =
    (zip-right IsSummaryOf p.procedures summaries z i t
    (slice_get_read summaries (length summaries) i t refl below is)).1.mentioned.ordered

-- a test for a member is that one
pub has_same : (b : Bool) (x : Var) (xs : List Var) → ((b ≡ true) ↔ Contains xs x) → b ≡ has x xs
has_same b x xs h = bool-same b (has x xs) (λ e. (has_is x xs).1 (h.0 e)) (λ e. h.1 ((has_is x xs).0 e))
