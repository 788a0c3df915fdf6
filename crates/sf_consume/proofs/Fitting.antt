-- How the fields of a cell are compared: each symbol that comes up has the value of its field.
-- Names: `link-LAW` of a field that may be fresh, `fit-LAW` of those that are wanted.
use Rattle.std.specs.List.{AllByRecursion}
use Rattle.std.specs.Option.{option_and_then}
use Rattle.std.proofs.Common.{◌≡◌, ℕ, ◌+◌, ◌<◌, ◌≤◌, List, [], ◌∷◌, Option, Some, None, get_or, length, refl, sym, ap, ◌∙◌, subst, arith}
use Rattle.std.proofs.lemmas.Option.{cond_some, same_Some}
use Rattle.sf_base.specs.declared.ids.FieldId.{FieldId}
use Rattle.sf_base.specs.declared.value.Value.{Value}
use Rattle.sf_base.specs.HeapStore.{Cell}
use Rattle.sf_core.specs.Assertions.Sat.{HasFields, operand}
use Rattle.sf_core.specs.declared.assertion.Operand.{Operand}
use Rattle.sf_core.specs.declared.assertion.Operand.TheVariants.{Known, Exists}
use Rattle.sf_consume.specs.Subtract.{Fit, fit_existential, fit_field, fit_fields, fit_known, fit_new, link, linked}
use Rattle.sf_sym.specs.Checked.Lemmas.Bindings.{operand-is, set-all, set-here, set-keeps, set-length}
use Rattle.sf_sym.specs.Formed.{IsCounted}
use Rattle.sf_sym.specs.Checked.Lemmas.{same_term_is}
use Rattle.sf_sym.specs.Checked.Lemmas.Below.{below-more, below-symbol, below-value, paired-weaker, put-all}
use Rattle.sf_sym.specs.Checked.Lemmas.CellFields.{field-all, field-value, put-known}
use Rattle.sf_sym.specs.Checked.Lemmas.FreshValues.{value-below, value-here, with_value}
use Rattle.sf_sym.specs.Checked.Lemmas.OtherValues.{Same, fields-other_values}
use Rattle.sf_sym.specs.Below.{AllPaired, IsBelow, SameBelow}
use Rattle.sf_sym.specs.Decided.{term_of}
use Rattle.sf_sym.specs.declared.term.Term.{Term}
use Rattle.sf_sym.specs.declared.term.Term.TheVariants.{Sym}
use Rattle.sf_sym.specs.Fields.{field_term}
use Rattle.sf_sym.specs.Holds.{term_value, IsBound}
use Rattle.sf_sym.specs.Tests.{same_term}

-- Fresh fields values with which the fields of a cell are as a fit has them by then, and one of its
-- fields is that term
pub record Valued (v : ℕ → Value) (here : Cell) (f after : Fit) (field : FieldId) (t : Term) : Type 0 where
  pub values : ℕ → Value
  pub same : SameBelow f.next_sym values v
  pub has : HasFields (term_value values) after.fields here
  pub value : here field.0 ≡ term_value values t

-- a fit comes to be another by a link
pub record Linked (f : Fit) (field : FieldId) (l : Fit × Term) : Type 0 where
  pub symbols : f.next_sym ≤ l.0.next_sym
  pub bindings : l.0.bindings ≡ f.bindings
  pub fields : AllPaired (IsBelow l.0.next_sym) l.0.fields
  pub term : IsBelow l.0.next_sym l.1
  pub values : (v : ℕ → Value) (here : Cell) → HasFields (term_value v) f.fields here
      → Valued v here f l.0 field l.1

pub link-is : (f : Fit) (field : FieldId) → AllPaired (IsBelow f.next_sym) f.fields
    → Linked f field (link f field)
link-is f field below = go (field_term f.fields field) refl
  where
    go : (o : Option Term) → field_term f.fields field ≡ o → Linked f field (linked f field o)
    go (Some t) e = record {
      symbols = omega arith;
      bindings = refl;
      fields = below;
      term = field-all (IsBelow f.next_sym) f.fields field t e below;
      values = λ v here has. record {
        values = v;
        same = λ m i. refl;
        has = has;
        value = field-value (term_value v) f.fields field t here e has;
      };
    }
    go None e =
        let n = f.next_sym in
        let fresh = below-symbol (n + 1) n (omega arith) in
        record {
          symbols = omega arith;
          bindings = refl;
          fields = put-all (IsBelow (n + 1)) field (Sym n) f.fields fresh
              (paired-weaker (IsBelow n) (IsBelow (n + 1)) (below-more n (n + 1) (omega arith)) f.fields below);
          term = fresh;
          values = λ v here has.
              let x = here field.0 in
              let values = with_value n x v in
              let same : SameBelow n values v = λ m i. value-below n x v m i in
              let is : x ≡ values n = sym (value-here n x v) in
              record {
                values = values;
                same = same;
                has = put-known (term_value values) field (Sym n) f.fields here is
                    (fields-other_values v values f.fields here
                    (paired-weaker (IsBelow n) (Same v values) (below-value n values v same) f.fields below) has);
                value = is;
              };
        }

-- Wanted fields
-- a fit speaks of symbols below its next one only
pub record FitBelow (f : Fit) : Type 0 where
  pub fields : AllPaired (IsBelow f.next_sym) f.fields
  pub bindings : (n : ℕ) (t : Term) → get_or f.bindings n None ≡ Some t → IsBelow f.next_sym t

-- a fit comes to be another: symbols and bindings are never fewer
pub record Grows (f after : Fit) : Type 0 where
  pub symbols : f.next_sym ≤ after.next_sym
  pub length : length after.bindings ≡ length f.bindings
  pub keeps : (n : ℕ) (t : Term) → get_or f.bindings n None ≡ Some t → get_or after.bindings n None ≡ Some t
  pub below : FitBelow after

-- one wanted field fits, and has a term then
pub record FieldFits (f after : Fit) (field : FieldId) (x : Operand Term) : Type 0 where
  pub grows : Grows f after
  pub term : Term
  pub is : term_of after.bindings x ≡ Some term
  pub below : IsBelow after.next_sym term
  pub values : (v : ℕ → Value) (here : Cell) → HasFields (term_value v) f.fields here
      → Valued v here f after field term

-- a wanted field that has a term: the cell has it there, and nothing changes
pub known-is : (f after : Fit) (field : FieldId) (u : Term) → fit_known f (field_term f.fields field) u ≡ Some after
    → (f ≡ after) × (field_term f.fields field ≡ Some u)
known-is f after field u e = go (field_term f.fields field) refl e
  where
    go : (o : Option Term) → field_term f.fields field ≡ o → fit_known f o u ≡ Some after
        → (f ≡ after) × (field_term f.fields field ≡ Some u)
    go None i e = absurd (cc)
    go (Some t) i e =
        let (so, same) = cond_some (same_term t u) f after e in
        (same, i ∙ ap Some (same_term_is t u so))

known-fits : (f after : Fit) (field : FieldId) (x : Operand Term) (u : Term) → FitBelow f
    → term_of f.bindings x ≡ Some u → fit_known f (field_term f.fields field) u ≡ Some after
    → FieldFits f after field x
known-fits f after field x u below is e =
    let (same, at) = known-is f after field u e in
    subst (λ z. FieldFits f z field x) same (record {
      grows = record { symbols = omega arith; length = refl; keeps = λ n t e. e; below = below };
      term = u;
      is = is;
      below = field-all (IsBelow f.next_sym) f.fields field u at below.fields;
      values = λ v here has. record {
        values = v;
        same = λ m i. refl;
        has = has;
        value = field-value (term_value v) f.fields field u here at has;
      };
    })

-- a wanted field that is an existential without a term
new-fits : (f : Fit) (field : FieldId) (n : ℕ) → FitBelow f → n < length f.bindings
    → get_or f.bindings n None ≡ None → FieldFits f (fit_new f field n) field (Exists n)
new-fits f field n below within free =
    let l = link f field in
    let k = link-is f field below.fields in
    let same = k.bindings in
    let here : n < length l.0.bindings = subst (λ b. n < length b) (sym same) within in
    let none : get_or l.0.bindings n None ≡ None = ap (λ b. get_or b n None) same ∙ free in
    record {
      grows = record {
        symbols = k.symbols;
        length = set-length l.0.bindings n l.1 ∙ ap (λ b. length b) same;
        keeps = λ m t e. set-keeps l.0.bindings n l.1 none m t (ap (λ b. get_or b m None) same ∙ e);
        below = record {
          fields = k.fields;
          bindings = set-all l.0.bindings n l.1 (IsBelow l.0.next_sym) here k.term
              (λ m t e. below-more f.next_sym l.0.next_sym k.symbols t
              (below.bindings m t (ap (λ b. get_or b m None) (sym same) ∙ e)));
        };
      };
      term = l.1;
      is = set-here l.0.bindings n l.1 here;
      below = k.term;
      values = λ v here has. let d = k.values v here has in record {
        values = d.values;
        same = d.same;
        has = d.has;
        value = d.value;
      };
    }

-- any wanted field
pub fit-one : (f after : Fit) (field : FieldId) (x : Operand Term) → FitBelow f
    → IsCounted (length f.bindings) x → fit_field f (field, x) ≡ Some after → FieldFits f after field x
fit-one f after field (Known u) below counted e = known-fits f after field (Known u) u below refl e
fit-one f after field (Exists n) below counted e = go (get_or f.bindings n None) refl e
  where
    go : (o : Option Term) → get_or f.bindings n None ≡ o → fit_existential f field n o ≡ Some after
        → FieldFits f after field (Exists n)
    go (Some u) i e = known-fits f after field (Exists n) u below i e
    go None i e =
        subst (λ z. FieldFits f z field (Exists n)) (same_Some (fit_new f field n) after e)
        (new-fits f field n below counted i)

-- values with which the fields of a cell are as a fit has them by then, and those that are wanted
-- are as they should be
pub record Fitted (v : ℕ → Value) (here : Cell) (f after : Fit) (ws : List (FieldId × Operand Term)) : Type 0 where
  pub values : ℕ → Value
  pub same : SameBelow f.next_sym values v
  pub has : HasFields (term_value values) after.fields here
  pub wanted : (some : ℕ → Value) → IsBound values after.bindings some
      → HasFields (operand (term_value values) some) ws here

-- all the wanted fields fit
pub record FieldsFit (f after : Fit) (ws : List (FieldId × Operand Term)) : Type 0 where
  pub grows : Grows f after
  pub values : (v : ℕ → Value) (here : Cell) → HasFields (term_value v) f.fields here → Fitted v here f after ws

-- an operand that has a term has it still
term-keeps : (f after : Fit) (x : Operand Term) (t : Term) → Grows f after → term_of f.bindings x ≡ Some t
    → term_of after.bindings x ≡ Some t
term-keeps f after (Known u) t grows e = e
term-keeps f after (Exists n) t grows e = grows.keeps n t e

-- one after the other
grows-both : (f mid after : Fit) → Grows f mid → Grows mid after → Grows f after
grows-both f mid after one two = record {
  symbols = let a = one.symbols in let b = two.symbols in omega arith;
  length = two.length ∙ one.length;
  keeps = λ n t e. two.keeps n t (one.keeps n t e);
  below = two.below;
}

-- a field and the others
fit-both : (f mid after : Fit) (field : FieldId) (x : Operand Term) (ws : List (FieldId × Operand Term))
    → FieldFits f mid field x → FieldsFit mid after ws → FieldsFit f after ((field, x) ∷ ws)
fit-both f mid after field x ws one others = record {
  grows = grows-both f mid after one.grows others.grows;
  values = λ v here has.
      let d = one.values v here has in
      let r = others.values d.values here d.has in
      record {
        values = r.values;
        same = λ m i. r.same m (let more = one.grows.symbols in omega arith) ∙ d.same m i;
        has = r.has;
        wanted = λ some bound. (
          d.value ∙ below-value mid.next_sym r.values d.values r.same one.term one.below
              ∙ sym (operand-is r.values some after.bindings x one.term bound
              (term-keeps mid after x one.term others.grows one.is)),
          r.wanted some bound,
        );
      };
}

pub fit-all : (f after : Fit) (ws : List (FieldId × Operand Term)) → FitBelow f
    → AllByRecursion (λ (w : FieldId × Operand Term). IsCounted (length f.bindings) w.1) ws
    → fit_fields f ws ≡ Some after → FieldsFit f after ws
fit-all f after [] below counted e =
    subst (λ z. FieldsFit f z []) (same_Some f after e) (record {
      grows = record { symbols = omega arith; length = refl; keeps = λ n t e. e; below = below };
      values = λ v here has. record {
        values = v;
        same = λ m i. refl;
        has = has;
        wanted = λ some bound. tt;
      };
    })
fit-all f after (w ∷ ws) below counted e =
    go (fit_field f w) refl e (λ mid others counted rest. fit-all mid after ws others counted rest)
  where
    go : (o : Option Fit) → fit_field f w ≡ o → option_and_then (λ mid. fit_fields mid ws) o ≡ Some after
        →
        ((mid : Fit) → FitBelow mid
        → AllByRecursion (λ (z : FieldId × Operand Term). IsCounted (length mid.bindings) z.1) ws
        → fit_fields mid ws ≡ Some after → FieldsFit mid after ws)
        → FieldsFit f after (w ∷ ws)
    go None i e others = absurd (cc)
    go (Some mid) i e others =
        let one = fit-one f mid w.0 w.1 below counted.0 i in
        fit-both f mid after w.0 w.1 ws one
        (others mid one.grows.below
        (subst (λ k. AllByRecursion (λ (z : FieldId × Operand Term). IsCounted k z.1) ws) (sym one.grows.length)
        counted.1) e)
