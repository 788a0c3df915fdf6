-- Two cells that are cleared in parallel: the program keeps what the theorem asks, tags prove it, and it is sound.
use Rattle.sf_core.specs.Program.Init.{is_init}
use Rattle.std.specs.Prelude.{◌≡◌, ◌≢◌, ◌≤◌, ◌<◌, ◌+◌, ◌⊎◌, ◌++◌, ℕ, List, [], ◌∷◌, Contains, false, Some, slice_get}
use Rattle.std.specs.List.{All}
use Rattle.std.proofs.Common.{refl, sym, ap, arith, inl, inr, ◌∙◌}
use Rattle.std.proofs.lemmas.Option.{none-some}
use Rattle.std.proofs.lemmas.List.Elements.{All-cons, All-nil}
use Rattle.sf_base.proofs.Elements.{contains-nil}
use Rattle.sf_base.specs.declared.ids.FieldId.{FieldId}
use Rattle.sf_base.specs.declared.ids.ProcId.{ProcId}
use Rattle.sf_base.specs.declared.ids.ResId.{ResId}
use Rattle.sf_base.specs.declared.ids.Var.{Var}
use Rattle.sf_base.specs.declared.ids.Var.TheVariants.{Own, Shared}
use Rattle.sf_calls.specs.Around.{Shares}
use Rattle.sf_calls.specs.Conditions.{Enters, Free, Mentions, Takes}
use Rattle.sf_calls.specs.FirstBreach.{Conditions}
use Rattle.sf_calls.specs.Checked.Lemmas.Sites.{at_one}
use Rattle.sf_calls.specs.Outside.{EntersIn, IsAmong, IsOutside, OccursOutside, owner}
use Rattle.sf_calls.specs.Sets.{AreSetsOf, IsEarlier, IsEarlierResource, Sets}
use Rattle.sf_core.specs.Assertions.Determined.{Determined, plain, take, all_taken}
use Rattle.sf_core.specs.Assertions.Occurs.{VarOccursIn}
use Rattle.sf_core.specs.declared.assertion.Operand.{Operand}
use Rattle.sf_core.specs.declared.assertion.Operand.TheVariants.{Known}
use Rattle.sf_core.specs.declared.command.Expr.{Expr}
use Rattle.sf_core.specs.declared.command.Expr.TheVariants.{Nil, Var as Variable}
use Rattle.sf_core.specs.declared.command.Occurrence.{Occurrence}
use Rattle.sf_core.specs.Machine.HasThroughout.{HasThroughout}
use Rattle.sf_core.specs.Program.Formed.{AssertionWithin, CallWithin, ExprWithin, FieldsWithin, IsFormed, IsInBody, IsParameter, OperandWithin, ProcedureWithin}
use Rattle.sf_core.specs.Program.Heads.{Site, head_regions, occurrences_at, sites}
use Rattle.sf_core.specs.Program.Syntax.{Assertion, Procedure}
use Rattle.sf_precise.specs.Annotations.{annotations_in}
use Rattle.sf_precise.specs.Checked.Laws.{OrderingExists}
use Rattle.sf_precise.specs.Order.{IsOrderOf, IsOrdering}
use Rattle.sf_rules.specs.Setting.{IsSettingOf, Setting}
use Rattle.sf_sym.specs.declared.tag.Tag.TheVariants as t
use Rattle.sf_sound.proofs.AsWritten.{IsAsWritten, procedure-proved}
use Rattle.sf_sound.proofs.Races.{example-is-sound}
use Rattle.sf_sound.proofs.SmallPrograms.{alone, everywhere, no_scope, none-named, of-two, set-nothing, set-of_each, bare-formed, by_value-unshared, small-within}
use Rattle.sf_sound.specs.Checked.Examples.{PairIsSound, at_both, at_x, clear, clears, clears_both, hd, pair, pair_tags, place, x, y}
use Rattle.sf_rules.specs.Proving.{Proves}
use Rattle.sf_sound.specs.Proofs.{ProofsAreSound}

-- no region is entered
enters-none : (r : ResId) (f : ProcId) → Enters pair r f → ⊥
enters-none r f (h, e, w) =
    of-two (λ (g : Procedure). EntersIn r g.body → ⊥) clears clears_both
    (λ w. none (at_one P (sites [] clears.body) w)) (λ w. none (at_one P (sites [] clears_both.body) w)) f.0 h e w
  where
    P : Site → Type 0
    P s = Contains (head_regions s.command) r

    none : Contains [] r ⊎ ⊥ → ⊥
    none (inl k) = contains-nil r k
    none (inr n) = n

takes-none : (f : ProcId) (r : ResId) → Takes pair f r → ⊥
takes-none f r = everywhere (enters-none r) f

-- no variable of a resource occurs
module _ (r : ResId) (i : ℕ) where
  not-own : (n : ℕ) → Own n ≡ Shared r i → ⊥
  not-own n e = absurd (cc)

  not-here : (n : ℕ) (at : Occurrence) → at.var ≡ Shared r i
      → Known (Variable at) ≡ Known (Variable (record { var = Own n; place = place })) → ⊥
  not-here n at e k =
      let j : at ≡ record { var = Own n; place = place } = cc in
      not-own n (sym (ap (λ (z : Occurrence). z.var) j) ∙ e)

  not-nil : (at : Occurrence) → Known (Variable at) ≡ Known Nil → ⊥
  not-nil at k = absurd (cc)

  at_x-none : VarOccursIn (at_x []).level (Shared r i) → ⊥
  at_x-none (at, e, (inl (inl k), o)) = not-here 0 at e k
  at_x-none (at, e, (inl (inr k), o)) = k
  at_x-none (at, e, (inr k, o)) = k

  nil_x-none : VarOccursIn (at_x ((hd, Known Nil) ∷ [])).level (Shared r i) → ⊥
  nil_x-none (at, e, (inl (inl k), o)) = not-here 0 at e k
  nil_x-none (at, e, (inl (inr (inl k)), o)) = not-nil at k
  nil_x-none (at, e, (inl (inr (inr k)), o)) = k
  nil_x-none (at, e, (inr k, o)) = k

  both-none : VarOccursIn (at_both []).level (Shared r i) → ⊥
  both-none (at, e, (inl (inl k), o)) = not-here 0 at e k
  both-none (at, e, (inl (inr k), o)) = k
  both-none (at, e, (inr (inl (inl k)), o)) = not-here 1 at e k
  both-none (at, e, (inr (inl (inr k)), o)) = k
  both-none (at, e, (inr (inr k), o)) = k

  nil_both-none : VarOccursIn (at_both ((hd, Known Nil) ∷ [])).level (Shared r i) → ⊥
  nil_both-none (at, e, (inl (inl k), o)) = not-here 0 at e k
  nil_both-none (at, e, (inl (inr (inl k)), o)) = not-nil at k
  nil_both-none (at, e, (inl (inr (inr k)), o)) = k
  nil_both-none (at, e, (inr (inl (inl k)), o)) = not-here 1 at e k
  nil_both-none (at, e, (inr (inl (inr (inl k))), o)) = not-nil at k
  nil_both-none (at, e, (inr (inl (inr (inr k))), o)) = k
  nil_both-none (at, e, (inr (inr k), o)) = k

  abbrev Occurs : Site → Type 0
  Occurs s = IsOutside (owner (Shared r i)) (head_regions s.command ++ s.entered)
      × IsAmong (Shared r i) (occurrences_at s.command)

  x-outside : OccursOutside (Shared r i) clears.body → ⊥
  x-outside w = elim (at_one Occurs (sites [] clears.body) w) [
    | inl (out, inl e) ↦ not-own 0 e
    | inl (out, inr n) ↦ n
    | inr n ↦ n
  ]

  both-outside : OccursOutside (Shared r i) clears_both.body → ⊥
  both-outside w = elim (at_one Occurs (sites [] clears_both.body) w) [
    | inl (out, inl e) ↦ not-own 0 e
    | inl (out, inr (inl e)) ↦ not-own 1 e
    | inl (out, inr (inr n)) ↦ n
    | inr n ↦ n
  ]

  mentions-none : (f : ProcId) → Mentions pair (Shared r i) f → ⊥
  mentions-none f (h, e, m) =
      of-two (λ (g : Procedure). VarOccursIn g.pre.level (Shared r i)
      ⊎ (VarOccursIn g.post.level (Shared r i) ⊎ OccursOutside (Shared r i) g.body) → ⊥) clears clears_both
      (λ w. elim w [ inl a ↦ at_x-none a | inr (inl a) ↦ nil_x-none a | inr (inr a) ↦ x-outside a ])
      (λ w. elim w [ inl a ↦ both-none a | inr (inl a) ↦ nil_both-none a | inr (inr a) ↦ both-outside a ])
      f.0 h e m

holds-none : (f : ProcId) (r : ResId) → HasThroughout pair f r → ⊥
holds-none f r (inr s) = absurd (let less = s.1 in omega (arith, less))
holds-none f r (inl h) =
    of-two (λ (g : Procedure). VarOccursIn g.pre.level (Shared r h.variable)
    ⊎ VarOccursIn g.post.level (Shared r h.variable) → ⊥) clears clears_both
    (λ w. elim w [ inl a ↦ at_x-none r h.variable a | inr a ↦ nil_x-none r h.variable a ])
    (λ w. elim w [ inl a ↦ both-none r h.variable a | inr a ↦ nil_both-none r h.variable a ])
    f.0 h.procedure h.there h.occurs

free-none : (f : ProcId) (z : Var) → Free pair f z → ⊥
free-none f (Own n) w = w.0
free-none f (Shared r i) w = everywhere (mentions-none r i) f w.1

-- so the sets are empty
abbrev empty_sets : Sets
empty_sets = record { takes = [] ∷ [] ∷ []; holds = [] ∷ [] ∷ []; free = [] ∷ [] ∷ [] }

are-sets : AreSetsOf pair empty_sets
are-sets = record {
  takes = set-of_each IsEarlierResource (Takes pair) 2 []
      (λ f l. set-nothing IsEarlierResource (Takes pair f) (takes-none f));
  holds = set-of_each IsEarlierResource (HasThroughout pair) 2 []
      (λ f l. set-nothing IsEarlierResource (HasThroughout pair f) (holds-none f));
  free = set-of_each IsEarlier (Free pair) 2 [] (λ f l. set-nothing IsEarlier (Free pair f) (free-none f));
}

-- the conditions on variables
unshared : (e d : Expr) (n : ℕ) → Shares pair (clear e) (clear d) (Own n) → ⊥
unshared e d n = by_value-unshared pair (clear e) (clear d) refl refl n

conditions : Conditions pair
conditions = ((λ b. b), ((λ b. b), ((λ b. b), (unshared x y 0, (unshared x y 1, tt)))))

-- it is formed
module _ (f : Procedure) where
  within-x : (fields : List (FieldId × Operand Expr)) → 0 < f.references + f.values
      → FieldsWithin pair.fields (OperandWithin (IsParameter pair f) (no_scope ∷ [])) fields
      → AssertionWithin pair.fields (IsParameter pair f) (at_x fields)
  within-x fields lt w =
      let nesting : 1 ≤ 64 = omega arith in
      record {
        annotation = record { within = ((lt, w), tt); disjoint = alone; depth = nesting };
        named = none-named;
        names = refl;
      }

  within-both : (fields : List (FieldId × Operand Expr)) → 1 < f.references + f.values
      → FieldsWithin pair.fields (OperandWithin (IsParameter pair f) (no_scope ∷ [])) fields
      → AssertionWithin pair.fields (IsParameter pair f) (at_both fields)
  within-both fields lt w =
      let nesting : 1 ≤ 64 = omega arith in
      let less : 0 < f.references + f.values = omega (arith, lt) in
      record {
        annotation = record {
          within = ((less, w), ((lt, w), tt));
          disjoint = alone;
          depth = nesting;
        };
        named = none-named;
        names = refl;
      }

none-after : All (λ (g : FieldId × Operand Expr). g.0.0 ≢ 0) []
none-after k g l = let e : ⊥ = omega arith in absurd e

clears-within : ProcedureWithin pair clears
clears-within =
    let first : 0 < 1 = omega arith in
    small-within pair clears refl refl refl refl refl (within-x clears [] first tt)
    (within-x clears ((hd, Known Nil) ∷ []) first (first, tt, none-after, tt)) ((first, first, tt), tt)

call-within : (e : Expr) → ExprWithin (IsInBody pair clears_both) e → CallWithin pair clears_both (clear e)
call-within e w = record {
  callee = (refl, refl);
  no_init = refl;
  references = All-nil _;
  values = All-cons (ExprWithin (IsInBody pair clears_both)) e [] w (All-nil _);
}

both-within : ProcedureWithin pair clears_both
both-within =
    let first : 0 < 2 = omega arith in
    let second : 1 < 2 = omega arith in
    let field : 0 < 1 = omega arith in
    small-within pair clears_both refl refl refl refl refl (within-both clears_both [] second tt)
    (within-both clears_both ((hd, Known Nil) ∷ []) second (field, tt, none-after, tt))
    ((call-within x first, call-within y second), tt)

others : (k : ℕ) (g : Procedure) → slice_get pair.procedures k ≡ Some g → is_init g ≡ false
others = of-two (λ g. is_init g ≡ false) clears clears_both refl refl

formed : IsFormed pair
formed =
    bare-formed pair refl (of-two (ProcedureWithin pair) clears clears_both clears-within both-within) refl refl others

-- its annotations are determined, and are in order as they stand
abbrev nil : List (FieldId × Operand Expr)
nil = (hd, Known Nil) ∷ []

determined-x : (fields : List (FieldId × Operand Expr)) → Determined (at_x fields).level
determined-x fields = take _ _ (inl (refl, refl)) (plain tt) (all_taken refl)

determined-both : (fields : List (FieldId × Operand Expr)) → Determined (at_both fields).level
determined-both fields =
    take _ _ (inl (refl, refl)) (plain tt) (take _ _ (inl (refl, refl)) (plain tt) (all_taken refl))

determined : All (λ (a : Assertion). Determined a.level) (annotations_in pair)
determined =
    All-cons D (at_x []) (at_x nil ∷ at_both [] ∷ at_both nil ∷ []) (determined-x [])
    (All-cons D (at_x nil) (at_both [] ∷ at_both nil ∷ []) (determined-x nil)
    (All-cons D (at_both []) (at_both nil ∷ []) (determined-both [])
    (All-cons D (at_both nil) [] (determined-both nil) (All-nil D))))
  where
    D : Assertion → Type 0
    D a = Determined a.level

order-x : (fields : List (FieldId × Operand Expr)) → IsOrderOf (at_x fields) (at_x fields)
order-x fields = record {
  names = refl;
  level = (_, refl, (_, _, inl (plain tt, refl, refl), refl, refl));
}

order-both : (fields : List (FieldId × Operand Expr)) → IsOrderOf (at_both fields) (at_both fields)
order-both fields = record {
  names = refl;
  level = (_, refl, (_, _, inl (plain tt, refl, refl), refl, (_, _, inl (plain tt, refl, refl), refl, refl)));
}

-- its proof
module _ (in_order : Assertion → Assertion) (ordering : IsOrdering in_order) where
  abbrev own_setting : Setting
  own_setting = record { program = pair; sets = empty_sets; ordered = in_order }

  -- the annotations are in order as they stand
  x-same : (fields : List (FieldId × Operand Expr)) → in_order (at_x fields) ≡ at_x fields
  x-same fields = ordering.ordered (at_x fields) (at_x fields) (order-x fields)

  both-same : (fields : List (FieldId × Operand Expr)) → in_order (at_both fields) ≡ at_both fields
  both-same fields = ordering.ordered (at_both fields) (at_both fields) (order-both fields)

  as-written : IsAsWritten own_setting
  as-written = record {
    procedures = of-two (λ (g : Procedure). (in_order g.pre ≡ g.pre) × (in_order g.post ≡ g.post)) clears clears_both
        (x-same [], x-same nil) (both-same [], both-same nil);
    resources = λ k r e. absurd (none-some r e);
  }

  proves : Proves own_setting pair_tags
  proves =
      procedure-proved own_setting as-written 0 clears (clears_both ∷ [])
      (t.Add ∷ t.Mutate 1 ∷ t.Return ∷ t.Cell 1 ∷ t.End ∷ []) _ refl refl refl
      (procedure-proved own_setting as-written 1 clears_both []
      (t.Add ∷ t.Add ∷ t.Fork ∷ t.Cell 1 ∷ t.Cell 2 ∷ t.Give ∷ t.Add ∷ t.Add ∷ t.Return ∷ t.Cell 3 ∷ t.Cell 4
      ∷ t.End ∷ []) [] refl refl refl refl)

  is-own : IsSettingOf pair own_setting
  is-own = record { program = refl; sets = are-sets; ordering = ordering }

pub pair_is_sound : ProofsAreSound → OrderingExists → PairIsSound
pair_is_sound law exists =
    example-is-sound law exists pair pair_tags formed conditions determined own_setting is-own proves
