-- What an assertion without faults elaborates to mentions only what may be named there.
use Rattle.std.proofs.Common.{◌≡◌, ◌≤◌, ℕ, not, List, [], ◌∷◌, length, ◌++◌, Option, Some, None, refl, sym, subst, arith}
use Rattle.sf_base.proofs.Options.{unwrap-some}
use Rattle.sf_ast.specs.Depth as d
use Rattle.sf_ast.specs.Surface as s
use Rattle.sf_base.specs.declared.ids.FieldId.{FieldId}
use Rattle.sf_base.specs.declared.ids.Var.{Var}
use Rattle.sf_base.specs.declared.limits.TheConstants.{NESTING}
use Rattle.sf_base.specs.declared.place.Place.{Place}
use Rattle.sf_core.specs.declared.assertion.Scope.{Scope}
use Rattle.sf_core.specs.Program.Formed.{level_scopes, ConjunctWithin, ConjunctsWithin, AssertionWithin}
use Rattle.sf_core.specs.Program.Named.{IsFirstNamed}
use Rattle.sf_core.specs.Program.View.{conjuncts}
use Rattle.sf_elab.specs.declared.fault.Fault.TheVariants.{Missing}
use Rattle.sf_elab.specs.declared.fault.Link.{Link}
use Rattle.sf_elab.specs.declared.fault.Link.TheVariants.{Next, Back, Left, Right}
use Rattle.sf_elab.specs.declared.levels.Levels.{Levels}
use Rattle.sf_elab.specs.Annotations.Assertions.{operand_faults, values_faults, link_of, has_link, segment_faults, doubly_faults, four_faults, tree_faults, conjunct_of, conjuncts_of, level_of, conjunct_faults, level_faults, annotation_of, annotation_faults, maybe_of, maybe_faults}
use Rattle.sf_elab.specs.Annotations.Existentials.{no_levels, opened, made_by, taking, names_after, names_after_level}
use Rattle.sf_elab.specs.Annotations.Flat.{words_in_operand, words_in_fields, words_in_flat, words_in}
use Rattle.sf_elab.specs.Annotations.Flat as f
use Rattle.sf_elab.specs.Files.Faults.{where_, link_name}
use Rattle.sf_elab.specs.Names.InEnv.{Env, test_faults}
use Rattle.sf_elab.specs.Names.Table.{find}
use Rattle.sf_elab.proofs.Annotations.Depths.{level_no_deeper}
use Rattle.sf_elab.proofs.Annotations.ExistentialsMade.{AreMade, AreReached, reached_both, level_reached, level_made}
use Rattle.sf_elab.proofs.Names.NamedFields.{first_named}
use Rattle.sf_elab.proofs.Names.NoFaults.{none_both, none_three, there}
use Rattle.sf_elab.proofs.Annotations.ScopesNumbered.{level_numbered, numbered_below, numbered_disjoint}
use Rattle.sf_elab.proofs.Names.TableLaws.{finds_none}
use Rattle.sf_elab.proofs.Names.VariablesWithin.{Sees, operand_within, operand_test_within, values_within}

-- the field that a predicate follows is the first of its name
link_named : {fields : List (List ℕ)} {V : Var → Type 0} {i : Env} → Sees fields V i → (k : Link) (p : Place) → where_ (not (has_link i k)) (Missing p k) ≡ [] → IsFirstNamed fields (link_name k) (Some (link_of i k).0)
link_named {fields} {V} {i} see k p h =
    let found = there (find (link_name k) i.declared.fields) (Missing p k) h in
    let is : link_of i k ≡ found.0 = unwrap-some (find (link_name k) i.declared.fields) found.0 (record { 0 = 0 }) found.1 in
    subst (λ (f : FieldId). IsFirstNamed fields (link_name k) (Some f.0)) (sym is) (first_named fields i.declared.fields (link_name k) found.0 see.named found.1)

mutual
  conjunct_within : {fields : List (List ℕ)} {V : Var → Type 0} {i : Env} → Sees fields V i → (made : List Scope) (l : Levels) → AreMade made l.reach → (x : f.Flat) → AreReached i.bytes l.reach (words_in_flat x) → conjunct_faults i x ≡ []
      → ConjunctWithin fields V made (conjunct_of i l x)
  conjunct_within see made l m (f.holds p t) r h = operand_test_within see made l m t r h
  conjunct_within {i = i} see made l m (f.points p x fs) r h =
      let both = none_both (operand_faults i x) (values_faults i [] fs) h in
      let words = reached_both i.bytes l.reach (words_in_operand x) (words_in_fields fs) r in
      (operand_within see made l m x words.0 both.0, values_within see made l m [] fs words.1 both.1)
  conjunct_within {i = i} see made l m (f.segment p x y) r h =
      let all = none_three (segment_faults i p) (operand_faults i x) (operand_faults i y) h in
      let words = reached_both i.bytes l.reach (words_in_operand x) (words_in_operand y) r in
      (link_named see Next p all.0, operand_within see made l m x words.0 all.1, operand_within see made l m y words.1 all.2)
  conjunct_within {i = i} see made l m (f.doubly p x b e y) r h =
      let both = none_both (doubly_faults i p) (four_faults i x b e y) h in
      let links = none_both (where_ (not (has_link i Next)) (Missing p Next)) (where_ (not (has_link i Back)) (Missing p Back)) both.0 in
      let first = none_both (operand_faults i x) (operand_faults i b ++ (operand_faults i e ++ operand_faults i y)) both.1 in
      let second = none_both (operand_faults i b) (operand_faults i e ++ operand_faults i y) first.1 in
      let third = none_both (operand_faults i e) (operand_faults i y) second.1 in
      let one = reached_both i.bytes l.reach (words_in_operand x) (words_in_operand b ++ (words_in_operand e ++ words_in_operand y)) r in
      let two = reached_both i.bytes l.reach (words_in_operand b) (words_in_operand e ++ words_in_operand y) one.1 in
      let three = reached_both i.bytes l.reach (words_in_operand e) (words_in_operand y) two.1 in (
        link_named see Next p links.0,
        link_named see Back p links.1,
        operand_within see made l m x one.0 first.0,
        operand_within see made l m b two.0 second.0,
        operand_within see made l m e three.0 third.0,
        operand_within see made l m y three.1 third.1,
      )
  conjunct_within {i = i} see made l m (f.tree p x) r h =
      let both = none_both (tree_faults i p) (operand_faults i x) h in
      let links = none_both (where_ (not (has_link i Left)) (Missing p Left)) (where_ (not (has_link i Right)) (Missing p Right)) both.0 in
      (link_named see Left p links.0, link_named see Right p links.1, operand_within see made l m x r both.1)
  conjunct_within {i = i} see made l m (f.choose p t a b) r h =
      let all = none_three (test_faults (operand_faults i) t) (level_faults i a) (level_faults i b) h in
      let n : Levels = taking l (names_after_level i.bytes l a) in (
        operand_test_within see made l m t r all.0,
        conjuncts_within see (made_by i.bytes l a ∷ made) (opened i.bytes l a) (level_made i.bytes l a made m) a (level_reached i.bytes l a) all.1,
        conjuncts_within see (made_by i.bytes n b ∷ made) (opened i.bytes n b) (level_made i.bytes n b made m) b (level_reached i.bytes n b) all.2,
      )

  conjuncts_within : {fields : List (List ℕ)} {V : Var → Type 0} {i : Env} → Sees fields V i → (made : List Scope) (l : Levels) → AreMade made l.reach → (a : f.Flats) → AreReached i.bytes l.reach (words_in a) → level_faults i a ≡ []
      → ConjunctsWithin fields V made (conjuncts (conjuncts_of i l a))
  conjuncts_within see made l m f.none r h = tt
  conjuncts_within {i = i} see made l m (f.also x xs) r h =
      let both = none_both (conjunct_faults i x) (level_faults i xs) h in
      let words = reached_both i.bytes l.reach (words_in_flat x) (words_in xs) r in
      (conjunct_within see made l m x words.0 both.0, conjuncts_within see made (taking l (names_after i.bytes l x)) m xs words.1 both.1)

-- the scope of an assertion that makes nothing
abbrev no_scope : List Scope
no_scope = record { first = 0; count = 0 } ∷ []

-- a whole assertion is in order
pub annotation_within : {fields : List (List ℕ)} {V : Var → Type 0} {i : Env} → Sees fields V i → (n : s.Note) → annotation_faults i n ≡ [] → d.annotation_depth n ≤ NESTING → AssertionWithin fields V (annotation_of i n)
annotation_within see s.blank h k = record {
  annotation = record { within = tt; disjoint = numbered_disjoint 0 no_scope (refl, tt); depth = omega arith };
  named = numbered_below 0 0 no_scope ((refl, tt), refl);
  names = refl;
}
annotation_within {fields} {V} {i} see (s.filled a) h k = record {
  annotation = record {
    within = conjuncts_within see (made_by i.bytes no_levels level ∷ []) (opened i.bytes no_levels level) (level_made i.bytes no_levels level [] (finds_none _)) level (level_reached i.bytes no_levels level) h;
    disjoint = numbered_disjoint 0 scopes (level_numbered i level).0;
    depth = omega (arith, level_no_deeper i no_levels a);
  };
  named = numbered_below 0 (length (names_after_level i.bytes no_levels level)) scopes (level_numbered i level);
  names = omega (arith, (level_numbered i level).1);
}
  where
    level : f.Flats
    level = f.level_in a

    scopes : List Scope
    scopes = level_scopes (level_of i no_levels level) []

-- and so is one that may be left out
pub maybe_within : {fields : List (List ℕ)} {V : Var → Type 0} {i : Env} → Sees fields V i → (n : Option s.Note) → maybe_faults i n ≡ [] → d.maybe_depth n ≤ NESTING → AssertionWithin fields V (maybe_of i n)
maybe_within see None h k = annotation_within see s.blank refl (omega arith)
maybe_within see (Some n) h k = annotation_within see n h k
