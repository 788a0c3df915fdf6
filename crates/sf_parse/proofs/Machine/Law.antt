-- The machine's verdict is exactly that of the grammar.
use Rattle.std.proofs.Common.{◌≡◌, ◌<◌, ℕ, suc, List, [], ◌∷◌, ◌++◌, length, Bool, true, false, ◌⊎◌, inl, inr, refl, sym, ap, subst, ◌∙◌, arith, append_assoc, length-append}
use Rattle.std.proofs.lemmas.List.{append-nil}
use Rattle.sf_ast.specs.Surface.{Item}
use Rattle.sf_parse.specs.Leaf.{Leaf}
use Rattle.sf_parse.specs.Grammar.{items}
use Rattle.sf_parse.specs.Checked.Laws.{TheVerdictIsExact}
use Rattle.sf_parse.specs.Checked.Machine as m
use Rattle.sf_parse.specs.Checked.Machine.{Predicted, accepted, unexpected, too_deep, at_end, may_end, both, is_optional, verdict}
use Rattle.sf_parse.specs.Nearest.{IsNearest}
use Rattle.sf_parse.specs.Nesting.{ItemsWithin}
use Rattle.sf_parse.specs.Parsing.{CanBegin}
use Rattle.sf_parse.proofs.Grammar.Depths.{items_free}
use Rattle.sf_parse.proofs.Machine.Complete.{skipped}
use Rattle.sf_parse.proofs.Machine.Exactly.{GoesOn, fault_of, viable, stuck, deep_any}
use Rattle.sf_parse.proofs.Machine.ForthFiles.{items_go}
use Rattle.sf_parse.proofs.Machine.Means.{Spells, Means}
use Rattle.sf_parse.proofs.Machine.Happens.{Happens, takes, exceeds, refuses, happens, on_takes, on_exceeds, on_refuses}
use Rattle.sf_parse.proofs.Machine.OwedBack.{step_back, next_means}

-- a file, from what the stack with which the machine begins spells
file_of : (n : ℕ) (ts : List Leaf) → Means n (m.items ∷ []) ts → (tree : List Item) × (ts ≡ items tree []) × ItemsWithin tree n [] × IsNearest tree
file_of n ts q = (q.1.0, subst (λ z. ts ≡ items q.1.0 z) q.2 q.1.1, subst (λ z. ItemsWithin q.1.0 n z) q.2 q.1.2, q.1.3)

can_begin : (front : List Leaf) → GoesOn (m.items ∷ []) front → CanBegin front
can_begin front q =
    let f = file_of (length q.0) (front ++ q.0) (q.1 (length q.0) (omega arith)) in
    record { back = q.0; tree = f.0; spells = f.1; nearest = f.3; within = f.2 }

pub file_accepted : (n : ℕ) (ts : List Leaf) (tree : List Item) → ts ≡ items tree [] → IsNearest tree → ItemsWithin tree n [] → verdict n ts (m.items ∷ []) ≡ accepted
file_accepted n ts tree is near w = ap (λ z. verdict n z (m.items ∷ [])) is ∙ items_go n tree near w

pub refused : (n : ℕ) (front : List Leaf) (t : Leaf) (back other : List Leaf) (b : Bool) → (b ≡ true) ⊎ (n < suc (length other)) → verdict 0 (front ++ t ∷ back) (m.items ∷ []) ≡ fault_of b (suc (length back))
    → (tree : List Item) → (front ++ t ∷ []) ++ other ≡ items tree [] → IsNearest tree → ItemsWithin tree n [] → ⊥
refused n front t back other b z e tree is near w =
    stuck front t back other (m.items ∷ []) b n z e (file_accepted n (front ++ t ∷ other) tree (sym (append_assoc front (t ∷ []) other) ∙ is) near w)

-- what need not come is spelled by nothing
optional_spells : (n : ℕ) (o : Predicted) → is_optional o ≡ true → Spells n o [] []
optional_spells n (m.branch d) h = inr (tt, refl)
optional_spells n o h = skipped n o [] tt h

both_left : (a b : Bool) → both a b ≡ true → a ≡ true
both_left true b h = refl
both_left false b h = absurd cc

both_right : (a b : Bool) → both a b ≡ true → b ≡ true
both_right true b h = h
both_right false b h = absurd cc

-- so is a stack at which the file may end
ended : (n : ℕ) (st : List Predicted) → may_end st ≡ true → Means n st []
ended n [] h = refl
ended n (o ∷ st) h = ([], optional_spells n o (both_left (is_optional o) (may_end st) h), ended n st (both_right (is_optional o) (may_end st) h))

at_end_accepted : (b : Bool) → at_end b ≡ accepted → b ≡ true
at_end_accepted true h = refl
at_end_accepted false h = absurd cc

-- what is accepted is spelled
accepted_means : (n : ℕ) (ts : List Leaf) (st : List Predicted) → verdict n ts st ≡ accepted → Means n st ts
accepted_means n [] st h = ended n st (at_end_accepted (may_end st) h)
accepted_means n (t ∷ ts) st h = go (happens n (suc (length ts)) st t) (accepted_means n ts)
  where
    go : Happens n (suc (length ts)) st t → ((st2 : List Predicted) → verdict n ts st2 ≡ accepted → Means n st2 ts) → Means n st (t ∷ ts)
    go (takes s st2 e f) more = step_back n st t ts (next_means n st t ts s st2 e f (more st2 (sym (on_takes n ts st st2 t s e f) ∙ h)))
    go (exceeds s st2 e f) more = absurd (cc (on_exceeds n ts st st2 t s e f, h))
    go (refuses e) more = absurd (cc (on_refuses n ts st t e, h))

-- what is accepted is a file
pub accepted_file : (n : ℕ) (ts : List Leaf) → verdict n ts (m.items ∷ []) ≡ accepted → (tree : List Item) × (ts ≡ items tree []) × ItemsWithin tree n [] × IsNearest tree
accepted_file n ts e = file_of n ts (accepted_means n ts (m.items ∷ []) e)

pub exact : TheVerdictIsExact
exact ts = record {
  file = λ f. file_accepted 0 ts f.tree f.spells f.nearest f.within;
  accepts = λ e. let f = accepted_file 0 ts e in record { tree = f.0; spells = f.1; nearest = f.3; within = f.2 };
  wrong = λ front t back is e.
      let v : verdict 0 (front ++ t ∷ back) (m.items ∷ []) ≡ unexpected (suc (length back)) = subst (λ z. verdict 0 z (m.items ∷ []) ≡ unexpected (suc (length back))) is e in
      (can_begin front (viable front (t ∷ back) (m.items ∷ []) true v), λ q. refused (length (items q.tree [])) front t back q.back true (inl refl) v q.tree q.spells q.nearest (items_free q.tree (length (items q.tree [])) [] (omega arith)));
  ends = λ e.
      let v : verdict 0 (ts ++ []) (m.items ∷ []) ≡ unexpected 0 = subst (λ z. verdict 0 z (m.items ∷ []) ≡ unexpected 0) (sym (append-nil ts)) e in
      (can_begin ts (viable ts [] (m.items ∷ []) true v), λ f. let g : verdict 0 ts (m.items ∷ []) ≡ accepted = file_accepted 0 ts f.tree f.spells f.nearest f.within in let h : unexpected 0 ≡ accepted = sym e ∙ g in cc);
  deeper = λ front t back is e.
      let v : verdict 0 (front ++ t ∷ back) (m.items ∷ []) ≡ too_deep (suc (length back)) = subst (λ z. verdict 0 z (m.items ∷ []) ≡ too_deep (suc (length back))) is e in
      let d = deep_any front t back (m.items ∷ []) v in
      let n : ℕ = length ((front ++ t ∷ []) ++ d.0) in
      let f = file_of n (front ++ t ∷ d.0) (d.1 n (omega (arith, length-append front (t ∷ []), length-append (front ++ t ∷ []) d.0))) in (
        can_begin front (viable front (t ∷ back) (m.items ∷ []) false v),
        record { back = d.0; tree = f.0; spells = append_assoc front (t ∷ []) d.0 ∙ f.1; nearest = f.3 },
        λ q. refused (length q.back) front t back q.back false (inr (omega arith)) v q.tree q.spells q.nearest q.within,
      );
}
