-- What the lists of a text have: variables outside the regions of their resources, regions, and regions
-- with a call inside.
use Rattle.std.proofs.Common.{◌≡◌, ◌⊎◌, ◌↔◌, Bool, true, false, cond, List, [], ◌∷◌, ◌++◌, None, Some, Contains, refl, sym, ap, inl, inr, ◌∙◌, subst}
use Rattle.std.specs.Bool.{Decides}
use Rattle.std.proofs.lemmas.List.Elements.{Contains-append_left, Contains-append_right, Contains-append_cases}
use Rattle.sf_base.proofs.Elements.{contains-nil, contains-single, contains-single_of}
use Rattle.sf_base.proofs.Members.{contains-flat_map}
use Rattle.sf_base.specs.declared.ids.ProcId.{ProcId}
use Rattle.sf_base.specs.declared.ids.ResId.{ResId}
use Rattle.sf_base.specs.declared.ids.Var.{Var}
use Rattle.sf_base.specs.declared.ids.Var.TheVariants.{Own, Shared}
use Rattle.sf_core.specs.declared.command.Expr.{Expr}
use Rattle.sf_core.specs.declared.command.Occurrence.{Occurrence}
use Rattle.sf_core.specs.Assertions.Occurs.{VarOccursIn}
use Rattle.sf_core.specs.Program.Heads.{Site, head_calls, head_regions, level_occurrences, occurrences_at, sites}
use Rattle.sf_core.specs.Program.Init.{is_init}
use Rattle.sf_core.specs.Program.Syntax.{Block, Call, Level, Procedure}
use Rattle.sf_core.proofs.Occurrences.{level-is}
use Rattle.sf_calls.specs.Checked.Listed.{is_entered, kept, kept_of, shared_in_levels, shared_at, shared_in, any_call, entered_in, with_calls_in}
use Rattle.sf_calls.specs.Conditions.{IsShared}
use Rattle.sf_calls.specs.Outside.{owner, IsAmong, IsOutside, OccursOutside, CallsIn, EntersIn}
use Rattle.sf_calls.specs.declared.summary.Summary.{Summary}
use Rattle.sf_calls.specs.Checked.Summaries.{IsSummaryOf}
use Rattle.sf_calls.specs.Sets.{IsEarlier, IsVarSet}
use Rattle.sf_calls.specs.Checked.Lemmas.Decided.{entered_is}
use Rattle.sf_calls.specs.Checked.Lemmas.InOrder.{set_same}
use Rattle.sf_calls.specs.Checked.Lemmas.Sites.{among_at, among_of, listed_somewhere}

-- a variable of a resource that is not entered
abbrev IsKept : List ResId → Var → Type 0
IsKept es x = IsShared x × IsOutside (owner x) es

-- the list has x exactly where x is kept and is there
abbrev Lists : List ResId → Var → List Var → Type 0 → Type 0
Lists es x xs P = Contains xs x ↔ (IsKept es x × P)

-- what is kept of one variable
kept_if : (b : Bool) (r : ResId) (es : List ResId) (i : _) (x : Var) → Decides b (Contains es r)
    → Lists es x (cond b [] (Shared r i ∷ [])) (Shared r i ≡ x)
kept_if true r es i x d = (
  λ c. absurd (contains-nil x c),
  λ h. absurd ((subst (IsKept es) (sym h.1) h.0).1 (d.0 refl)),
)
kept_if false r es i x d = (
  λ c. let e = contains-single (Shared r i) x c in
      (subst (IsKept es) e (tt, λ k. let f : false ≡ true = d.1 k in absurd (cc)), e),
  λ h. contains-single_of (Shared r i) x h.1,
)

lists_one : (es : List ResId) (x y : Var) → Lists es x (kept es y) (y ≡ x)
lists_one es x (Own n) = (λ c. absurd (contains-nil x c), λ h. absurd (subst IsShared (sym h.1) h.0.0))
lists_one es x (Shared r i) = kept_if (is_entered r es) r es i x (entered_is r es)

-- what is kept of occurrences
lists_more : (es : List ResId) (x : Var) (y : Occurrence) (ys : List Occurrence)
    → Lists es x (kept es y.var) (y.var ≡ x) → Lists es x (kept_of es ys) (IsAmong x ys)
    → Lists es x (kept_of es (y ∷ ys)) (IsAmong x (y ∷ ys))
lists_more es x y ys one rest = (to, from)
  where
    to : Contains (kept_of es (y ∷ ys)) x → IsKept es x × IsAmong x (y ∷ ys)
    to c =
        elim (Contains-append_cases (kept es y.var) (kept_of es ys) x c) [
          | inl a ↦ ((one.0 a).0, inl (one.0 a).1)
          | inr a ↦ ((rest.0 a).0, inr (rest.0 a).1)
        ]

    from : IsKept es x × IsAmong x (y ∷ ys) → Contains (kept_of es (y ∷ ys)) x
    from (k, inl e) = Contains-append_left (kept es y.var) (kept_of es ys) x (one.1 (k, e))
    from (k, inr a) = Contains-append_right (kept es y.var) (kept_of es ys) x (rest.1 (k, a))

lists_among : (es : List ResId) (x : Var) (ys : List Occurrence) → Lists es x (kept_of es ys) (IsAmong x ys)
lists_among es x [] = (λ c. absurd (contains-nil x c), λ h. absurd h.1)
lists_among es x (y ∷ ys) = lists_more es x y ys (lists_one es x y.var) (lists_among es x ys)

-- outside all regions, each variable of a resource is kept
outside_none : (x : Var) → IsOutside (owner x) []
outside_none (Own n) = tt
outside_none (Shared r i) = contains-nil r

-- a variable occurs in one of two levels where it is among what is listed of them
occurs_is : (a b : Level Expr) (x : Var)
    → IsAmong x (level_occurrences a ++ level_occurrences b) ↔ (VarOccursIn a x ⊎ VarOccursIn b x)
occurs_is a b x = (to, from)
  where
    to : IsAmong x (level_occurrences a ++ level_occurrences b) → VarOccursIn a x ⊎ VarOccursIn b x
    to h =
        let y = among_at x (level_occurrences a ++ level_occurrences b) h in
        elim (Contains-append_cases (level_occurrences a) (level_occurrences b) y.0 y.1) [
          | inl k ↦ inl (y.0, y.2, (level-is y.0 a).0 k)
          | inr k ↦ inr (y.0, y.2, (level-is y.0 b).0 k)
        ]

    from : VarOccursIn a x ⊎ VarOccursIn b x → IsAmong x (level_occurrences a ++ level_occurrences b)
    from (inl (y, e, o)) =
        among_of x _ y (Contains-append_left (level_occurrences a) (level_occurrences b) y ((level-is y a).1 o)) e
    from (inr (y, e, o)) =
        among_of x _ y (Contains-append_right (level_occurrences a) (level_occurrences b) y ((level-is y b).1 o)) e

-- the variables of a pre and a post
pub in_contract_are : (a b : Level Expr) (x : Var)
    → Contains (shared_in_levels a b) x ↔ (IsShared x × (VarOccursIn a x ⊎ VarOccursIn b x))
in_contract_are a b x =
    let all = lists_among [] x (level_occurrences a ++ level_occurrences b) in (
      λ c. ((all.0 c).0.0, (occurs_is a b x).0 (all.0 c).1),
      λ h. all.1 ((h.0, outside_none x), (occurs_is a b x).1 h.1),
    )

-- what is listed at a site
shared_here : (x : Var) (s : Site)
    → Contains (shared_at s) x ↔ (IsShared x
    × (IsOutside (owner x) (head_regions s.command ++ s.entered) × IsAmong x (occurrences_at s.command)))
shared_here x s =
    let here = lists_among (head_regions s.command ++ s.entered) x (occurrences_at s.command) in (
      λ c. ((here.0 c).0.0, ((here.0 c).0.1, (here.0 c).1)),
      λ h. here.1 ((h.0, h.1.0), h.1.1),
    )

-- the variables of a body
body_are : (x : Var) (b : Block) → Contains (shared_in (sites [] b)) x ↔ (IsShared x × OccursOutside x b)
body_are x b =
    let all = listed_somewhere shared_at _ x (shared_here x) b in (
      λ c. let h = all.0 c in (h.2.0, (h.0, h.1, h.2.1)),
      λ h. all.1 (h.1.0, h.1.1, (h.0, h.1.2)),
    )

-- and of all three
pub mentioned_are : (a b : Level Expr) (c : Block) (x : Var)
    → Contains (shared_in_levels a b ++ shared_in (sites [] c)) x ↔
    (IsShared x × (VarOccursIn a x ⊎ (VarOccursIn b x ⊎ OccursOutside x c)))
mentioned_are a b c x = (to, from)
  where
    to : Contains (shared_in_levels a b ++ shared_in (sites [] c)) x
        → IsShared x × (VarOccursIn a x ⊎ (VarOccursIn b x ⊎ OccursOutside x c))
    to k = elim (Contains-append_cases (shared_in_levels a b) (shared_in (sites [] c)) x k) [
      | inl h ↦
          let m = (in_contract_are a b x).0 h in
          (m.0, elim m.1 [ inl o ↦ inl o | inr o ↦ inr (inl o) ])
      | inr h ↦ let m = (body_are x c).0 h in (m.0, inr (inr m.1))
    ]

    from : IsShared x × (VarOccursIn a x ⊎ (VarOccursIn b x ⊎ OccursOutside x c))
        → Contains (shared_in_levels a b ++ shared_in (sites [] c)) x
    from (k, inl o) = Contains-append_left _ (shared_in (sites [] c)) x ((in_contract_are a b x).1 (k, inl o))
    from (k, inr (inl o)) =
        Contains-append_left _ (shared_in (sites [] c)) x ((in_contract_are a b x).1 (k, inr o))
    from (k, inr (inr o)) = Contains-append_right (shared_in_levels a b) _ x ((body_are x c).1 (k, o))

-- the regions of commands
pub entered_are : (r : ResId) (b : Block) → Contains (entered_in (sites [] b)) r ↔ EntersIn r b
entered_are r = listed_somewhere _ _ r (λ s. (λ c. c, λ c. c))

-- who calls has a call
any_call_is : (cs : List Call) (c : Call) → Contains cs c → any_call cs ≡ true
any_call_is [] c k = absurd (contains-nil c k)
any_call_is (d ∷ cs) c k = refl

around_call : (b : Bool) (rs : List ResId) (r : ResId) → b ≡ true → Contains rs r
    → Contains (cond b rs []) r
around_call true rs r e c = c
around_call false rs r e c = absurd (cc)

-- where no call is inside a region of r, each is outside
calls_outside : (r : ResId) (g : ProcId) (b : Block) → (Contains (with_calls_in (sites [] b)) r → ⊥)
    → CallsIn None g b → CallsIn (Some r) g b
calls_outside r g b n (s, m, (out, (d, k, e))) = (
  s,
  m,
  (
    λ c. n (contains-flat_map (λ t. cond (any_call (head_calls t.command)) t.entered []) (sites [] b) s r m
        (around_call (any_call (head_calls s.command)) s.entered r (any_call_is (head_calls s.command) d k) c)),
    (d, k, e),
  ),
)

-- a call outside the regions of r is a call
pub calls_anyway : (r : ResId) (g : ProcId) (b : Block) → CallsIn (Some r) g b → CallsIn None g b
calls_anyway r g b (s, m, h) = (s, m, (tt, h.1))

-- what was listed of a text is what is there
pub summary_is : (h : Procedure) (t : Summary) (in_contract mentioned : List Var) → t.sets_up ≡ is_init h
    → in_contract ≡ shared_in_levels h.pre.level h.post.level
    → mentioned ≡ in_contract ++ shared_in (sites [] h.body)
    → IsVarSet (Contains in_contract) t.in_contract → IsVarSet (Contains mentioned) t.mentioned
    → t.entered.items ≡ entered_in (sites [] h.body) → t.with_calls.items ≡ with_calls_in (sites [] h.body)
    → IsSummaryOf h t
summary_is h t in_contract mentioned sets_up s m are all entered with_calls = record {
  sets_up = sets_up;
  in_contract =
      of_list s are (in_contract_are h.pre.level h.post.level);
  mentioned =
      of_list (m ∙ ap (λ (xs : List Var). xs ++ shared_in (sites [] h.body)) s) all
      (mentioned_are h.pre.level h.post.level h.body);
  entered =
      λ r. (
        λ c. (entered_are r h.body).0 (subst (λ (xs : List ResId). Contains xs r) entered c),
        λ e. subst
            (λ (xs : List ResId). Contains xs r) (sym entered) ((entered_are r h.body).1 e),
      );
  with_calls =
      λ r n g c. calls_outside r g h.body
      (λ k. n (subst (λ (xs : List ResId). Contains xs r) (sym with_calls) k)) c;
}
  where
    of_list : {xs ys all : List Var} {P : Var → Type 0} → xs ≡ ys → IsVarSet (Contains xs) all
        → ((x : Var) → Contains ys x ↔ P x) → IsVarSet P all
    of_list {xs} {ys} {all} {P} e set is =
        set_same IsEarlier (Contains xs) P all set
        (λ x c. (is x).0 (subst (λ (zs : List Var). Contains zs x) e c))
        (λ x p. subst (λ (zs : List Var). Contains zs x) (sym e) ((is x).1 p))
