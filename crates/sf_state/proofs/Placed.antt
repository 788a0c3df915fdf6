-- The cells and values of a text where they go.
-- Names: `placing-LAW` for cells; `by_resource-LAW` for values.
use Rattle.std.proofs.Common.{◌≡◌, ◌≢◌, ◌⊎◌, ◌<◌, ◌+◌, ℕ, zero, suc, true, false, cond, nat_cmp, List, [], ◌∷◌, ◌++◌, Option, Some, None, Contains, length, map, take, drop, get_or, is_some, refl, sym, ap, ◌∙◌, subst, inl, inr, arith, append_assoc, Vec, Global}
use Rattle.std.specs.BTreeMap.{BTreeMap, btree_map_len, get, is_at}
use Rattle.std.specs.FinMap as fin
use Rattle.std.specs.Map.{lookup}
use Rattle.std.specs.Option.{option_or}
use Rattle.std.specs.Ordering.{eq_by_cmp}
use Rattle.std.proofs.lemmas.Bool.{cases_eq, false≢true}
use Rattle.std.proofs.lemmas.Cmp.{nat_cmp_total}
use Rattle.std.proofs.lemmas.List.Elements.{Contains-append_cases, Contains-append_left, Contains-append_right}
use Rattle.std.proofs.lemmas.List.{map-append}
use Rattle.sf_base.specs.declared.value.Value.{Value}
use Rattle.sf_base.proofs.Elements.{contains-nil, contains-single, contains-single_of}
use Rattle.sf_base.proofs.Lists.{drop-map_more}
use Rattle.sf_base.proofs.Numbers.{at-self, at-other}
use Rattle.sf_core.specs.declared.program.Resource.{Resource as CodeResource}
use Rattle.sf_core.specs.Program.View.{resource_of}
use Rattle.sf_heap.specs.Cells.{Cells, FieldValues}
use Rattle.sf_state.specs.Checked.Placing.{Placing}
use Rattle.sf_state.specs.Refused.{name_at}
use Rattle.sf_state.specs.Starts.{by_resource}

-- no cell is placed yet
pub placing-none : (all : BTreeMap ℕ FieldValues) (heap : Cells) (at : List ℕ) → heap ≡ fin.empty → at ≡ []
    → Placing all all heap at
placing-none all heap at e f = record {
  either = λ l. sym (ap (λ o. option_or o (get nat_cmp all l)) (none l));
  apart = λ l h. absurd (false≢true (sym (ap is_some (none l)) ∙ h));
  placed = λ l. (
    (λ h. absurd (false≢true (sym (ap is_some (none l)) ∙ h))),
    (λ c. absurd (contains-nil l (subst (λ xs. Contains xs l) f c))),
  );
}
  where
    none : (l : ℕ) → fin.get heap l ≡ None
    none l = ap (λ m. fin.get m l) e ∙ fin.get-empty nat_cmp l

-- one more is
pub placing-more : (all left after : BTreeMap ℕ FieldValues) (heap new : Cells) (at more : List ℕ) (k : ℕ)
    (cell : FieldValues) → Placing all left heap at → get nat_cmp left k ≡ Some cell
    → ((q : ℕ) → get nat_cmp after q ≡ cond (is_at (nat_cmp k) q) None (get nat_cmp left q))
    → new ≡ fin.insert heap k cell → more ≡ at ++ k ∷ [] → Placing all after new more
placing-more all left after heap new at more k cell p here gone e f = record {
  either = λ l. either l (cases_eq l k);
  apart = λ l. apart l (cases_eq l k);
  placed = λ l. (to l (cases_eq l k), λ c. from l (Contains-append_cases at (k ∷ []) l (subst (λ xs. Contains xs l) f c)));
}
  where
    at_new : (l : ℕ) → fin.get new l ≡ cond (eq_by_cmp nat_cmp l k) (Some cell) (fin.get heap l)
    at_new l = ap (λ h. fin.get h l) e ∙ fin.get-insert nat_cmp_total heap k cell l

    new-same : (l : ℕ) → l ≡ k → fin.get new l ≡ Some cell
    new-same l s = at_new l ∙ ap (λ b. cond b (Some cell) (fin.get heap l))
        (ap (λ q. is_at (nat_cmp l) q) (sym s) ∙ at-self l)

    new-other : (l : ℕ) → l ≢ k → fin.get new l ≡ fin.get heap l
    new-other l n = at_new l ∙ ap (λ b. cond b (Some cell) (fin.get heap l)) (at-other l k n)

    after-same : (l : ℕ) → l ≡ k → get nat_cmp after l ≡ None
    after-same l s = gone l ∙ ap (λ b. cond b None (get nat_cmp left l)) (ap (is_at (nat_cmp k)) s ∙ at-self k)

    after-other : (l : ℕ) → l ≢ k → get nat_cmp after l ≡ get nat_cmp left l
    after-other l n = gone l ∙ ap (λ b. cond b None (get nat_cmp left l)) (at-other k l (λ s. n (sym s)))

    absent : (o : Option FieldValues) → fin.get heap k ≡ o → o ≡ None
    absent None g = refl
    absent (Some x) g = absurd (none-some_cell (sym (p.apart k (ap is_some g)) ∙ here))
      where
        none-some_cell : None ≡ Some cell → ⊥
        none-some_cell h = cc

    either : (l : ℕ) → (l ≡ k) ⊎ (l ≢ k) → get nat_cmp all l ≡ option_or (fin.get new l) (get nat_cmp after l)
    either l (inl s) = ap (get nat_cmp all) s ∙ p.either k
        ∙ ap (λ o. option_or o (get nat_cmp left k)) (absent (fin.get heap k) refl) ∙ here
        ∙ sym (ap (λ o. option_or o (get nat_cmp after l)) (new-same l s))
    either l (inr n) = p.either l ∙ ap (option_or (fin.get heap l)) (sym (after-other l n))
        ∙ ap (λ o. option_or o (get nat_cmp after l)) (sym (new-other l n))

    apart : (l : ℕ) → (l ≡ k) ⊎ (l ≢ k) → fin.contains_key new l ≡ true → get nat_cmp after l ≡ None
    apart l (inl s) h = after-same l s
    apart l (inr n) h = after-other l n ∙ p.apart l (ap is_some (sym (new-other l n)) ∙ h)

    to : (l : ℕ) → (l ≡ k) ⊎ (l ≢ k) → fin.contains_key new l ≡ true → Contains more l
    to l (inl s) h = subst (λ xs. Contains xs l) (sym f)
        (Contains-append_right at (k ∷ []) l (contains-single_of k l (sym s)))
    to l (inr n) h = subst (λ xs. Contains xs l) (sym f)
        (Contains-append_left at (k ∷ []) l ((p.placed l).0 (ap is_some (sym (new-other l n)) ∙ h)))

    from : (l : ℕ) → Contains at l ⊎ Contains (k ∷ []) l → fin.contains_key new l ≡ true
    from l (inl c) = go (cases_eq l k)
      where
        go : (l ≡ k) ⊎ (l ≢ k) → fin.contains_key new l ≡ true
        go (inl s) = ap is_some (new-same l s)
        go (inr n) = ap is_some (new-other l n) ∙ (p.placed l).1 c
    from l (inr c) = ap is_some (new-same l (sym (contains-single k l c)))

-- where none is left, all are placed
pub placing-all : (all left : BTreeMap ℕ FieldValues) (heap : Cells) (at : List ℕ) → Placing all left heap at
    → (0 < btree_map_len left → false ≡ true) → (l : ℕ) → fin.get heap l ≡ get nat_cmp all l
placing-all all left heap at p none l =
    sym (p.either l ∙ ap (option_or (fin.get heap l)) (gone left.entries refl) ∙ or-none (fin.get heap l))
  where
    gone : (es : List (ℕ × FieldValues)) → left.entries ≡ es → get nat_cmp left l ≡ None
    gone [] e = ap (lookup (is_at (nat_cmp l))) e
    gone (x ∷ xs) e = absurd (false≢true (none (let n = ap length e in omega (arith, n))))

    or-none : (o : Option FieldValues) → option_or o None ≡ o
    or-none None = refl
    or-none (Some x) = refl

-- the name of a resource of the code
pub resource-name : (resources : List CodeResource) (k : ℕ) (r : CodeResource) → k < length resources
    → r ≡ get_or resources k r → r.name ≡ name_at (map (λ h. h.name) (map resource_of resources)) k
resource-name [] k r h e = absurd (omega (arith, h))
resource-name (x ∷ xs) zero r h e = ap (λ (y : CodeResource). y.name) e
resource-name (x ∷ xs) (suc k) r h e = resource-name xs k r (omega (arith, h)) e

-- one more resource has its values
pub by_resource-more : (resources : List CodeResource) (i : ℕ) (r : CodeResource)
    (done new : List (Vec Value Global)) (here : Vec Value Global) (left more : List Value)
    (whole : List (List Value)) → i < length resources → r ≡ get_or resources i r → new ≡ done ++ here ∷ []
    → here.items ≡ take (length r.variables.items) left → more ≡ drop (length r.variables.items) left
    → map (λ vs. vs.items) done ++ by_resource (drop i (map resource_of resources)) left ≡ whole
    → map (λ vs. vs.items) new ++ by_resource (drop (i + 1) (map resource_of resources)) more ≡ whole
by_resource-more resources i r done new here left more whole h e n first rest w =
    ap (λ xs. map (λ (vs : Vec Value Global). vs.items) xs ++ by_resource (drop (i + 1) (map resource_of resources)) more) n
    ∙ ap (λ ls. ls ++ by_resource (drop (i + 1) (map resource_of resources)) more)
    (map-append (λ (vs : Vec Value Global). vs.items) done (here ∷ []))
    ∙ append_assoc (map (λ vs. vs.items) done) (here.items ∷ []) (by_resource (drop (i + 1) (map resource_of resources)) more)
    ∙ ap (λ (ls : List (List Value)). map (λ (vs : Vec Value Global). vs.items) done ++ ls)
    (ap (λ vs. vs ∷ by_resource (drop (i + 1) (map resource_of resources)) more) first
    ∙ ap (λ vs. take (length r.variables.items) left ∷ by_resource (drop (i + 1) (map resource_of resources)) vs) rest
    ∙ sym (ap (λ rs. by_resource rs left) (drop-map_more resource_of resources i r h e ∙ next)))
    ∙ w
  where
    next : resource_of r ∷ drop (suc i) (map resource_of resources)
        ≡ resource_of r ∷ drop (i + 1) (map resource_of resources)
    next = ap (λ k. resource_of r ∷ drop k (map resource_of resources)) (let one : suc i ≡ i + 1 = omega arith in one)
