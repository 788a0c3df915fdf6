-- The fields of a file: each name stands for the first field of that name.
use Rattle.std.proofs.Common.{◌≡◌, ◌<◌, ◌+◌, ℕ, Bool, true, false, cond, List, [], ◌∷◌, ◌++◌, map, length, slice_get, codes, Option, Some, None, refl, sym, ◌∙◌, ap, subst, arith}
use Rattle.std.proofs.lemmas.Option.{slice_get_within}
use Rattle.std.proofs.lemmas.List.{append_assoc, length-append, append-nil}
use Rattle.std.specs.Option.{option_map, option_or}
use Rattle.std.specs.Str.{bytes_eq}
use Rattle.sf_base.proofs.Lookup.{get-push_before, get-push_last, get-push_other}
use Rattle.sf_base.proofs.Equality.{bytes_eq-same, bytes_eq-other}
use Rattle.sf_ast.specs.declared.word.Word.{Word}
use Rattle.sf_base.specs.declared.ids.FieldId.{FieldId}
use Rattle.sf_core.specs.Program.Named.{IsFirstNamed}
use Rattle.sf_elab.specs.Names.Declarations.{numbered, usual_fields, nth_field, field_table, field_names}
use Rattle.sf_elab.specs.Names.Table.{Table, find, declare}
use Rattle.sf_elab.specs.Names.Texts.{text}
use Rattle.sf_elab.proofs.Names.TableLaws.{find_declared}

-- each name stands for the first of those of that name, and for none where there is none
abbrev pub AreNamed : List (List ℕ) → Table FieldId → Type 0
AreNamed names t = (name : List ℕ) → IsFirstNamed names name (option_map (λ (f : FieldId). f.0) (find name t))

-- one that is there is found as before
first_found : (names : List (List ℕ)) (n name : List ℕ) (k : ℕ) → IsFirstNamed names name (Some k) → IsFirstNamed (names ++ n ∷ []) name (Some k)
first_found names n name k h =
    let within : k < length names = slice_get_within names k name h.0 in
    (get-push_before names n k within ∙ h.0, λ j below e. h.1 j below (sym (get-push_before names n j (omega arith)) ∙ e))

-- a new one is the last
last_found : (names : List (List ℕ)) (n : List ℕ) → IsFirstNamed names n None → IsFirstNamed (names ++ n ∷ []) n (Some (length names))
last_found names n h = (get-push_last names n, λ j below e. h j (sym (get-push_before names n j below) ∙ e))

-- the number of what was found
abbrev number_found : Option FieldId → Option ℕ
number_found o = option_map (λ (f : FieldId). f.0) o

-- one more is declared
declared_named : (names : List (List ℕ)) (n : List ℕ) (f : FieldId) (t : Table FieldId) → f.0 ≡ length names → AreNamed names t → AreNamed (names ++ n ∷ []) (declare n f t)
declared_named names n f t q h name =
    subst (λ (o : Option FieldId). IsFirstNamed (names ++ n ∷ []) name (number_found o)) (sym (find_declared name n f t)) (go (find name t) (bytes_eq name n) refl (h name))
  where
    go : (o : Option FieldId) (b : Bool) → bytes_eq name n ≡ b → IsFirstNamed names name (number_found o) → IsFirstNamed (names ++ n ∷ []) name (number_found (option_or o (cond b (Some f) None)))
    go (Some g) b e k = first_found names n name g.0 k
    go None true e k =
        let same : name ≡ n = bytes_eq-same name n e in
        let last : IsFirstNamed (names ++ n ∷ []) n (Some (length names)) = last_found names n (subst (λ m. IsFirstNamed names m None) same k) in
        rw (same, q) last
    go None false e k = λ i there. k i (get-push_other names n name i there (λ same. bytes_eq-other name n e (sym same)))

none_named : AreNamed [] []
none_named name = λ k e. absurd cc

numbered_named : (bytes : List ℕ) (names : List (List ℕ)) (ws : List Word) (k : ℕ) (t : Table FieldId) → k ≡ length names → AreNamed names t → AreNamed (names ++ map (text bytes) ws) (numbered bytes nth_field k ws t)
numbered_named bytes names [] k t q h = subst (λ ns. AreNamed ns t) (sym (append-nil names)) h
numbered_named bytes names (w ∷ ws) k t q h =
    let more : k + 1 ≡ length (names ++ text bytes w ∷ []) = omega (arith, length-append names (text bytes w ∷ [])) in
    subst (λ ns. AreNamed ns (numbered bytes nth_field (k + 1) ws (declare (text bytes w) (nth_field k) t))) (append_assoc names (text bytes w ∷ []) (map (text bytes) ws))
    (numbered_named bytes (names ++ text bytes w ∷ []) ws (k + 1) (declare (text bytes w) (nth_field k) t) more (declared_named names (text bytes w) (nth_field k) t q h))

usual_named : AreNamed (field_names [] []) usual_fields
usual_named =
    declared_named (codes "hd" ∷ codes "tl" ∷ codes "l" ∷ []) (codes "r") (nth_field 3) (declare (codes "l") (nth_field 2) (declare (codes "tl") (nth_field 1) (declare (codes "hd") (nth_field 0) []))) refl
    (declared_named (codes "hd" ∷ codes "tl" ∷ []) (codes "l") (nth_field 2) (declare (codes "tl") (nth_field 1) (declare (codes "hd") (nth_field 0) [])) refl
    (declared_named (codes "hd" ∷ []) (codes "tl") (nth_field 1) (declare (codes "hd") (nth_field 0) []) refl (declared_named [] (codes "hd") (nth_field 0) [] refl none_named)))

-- each name stands for the first field of that name
pub fields_named : (bytes : List ℕ) (ws : List Word) → AreNamed (field_names bytes ws) (field_table bytes ws)
fields_named bytes [] = usual_named
fields_named bytes (w ∷ ws) = numbered_named bytes [] (w ∷ ws) 0 [] refl none_named

-- what was found is the first of its name
pub first_named : (names : List (List ℕ)) (t : Table FieldId) (name : List ℕ) (f : FieldId) → AreNamed names t → find name t ≡ Some f → IsFirstNamed names name (Some f.0)
first_named names t name f h e = subst (λ (o : Option FieldId). IsFirstNamed names name (number_found o)) e (h name)

pub field_there : (names : List (List ℕ)) (t : Table FieldId) (name : List ℕ) (f : FieldId) → AreNamed names t → find name t ≡ Some f → f.0 < length names
field_there names t name f h e = slice_get_within names f.0 name (first_named names t name f h e).0

-- fields of two names are two
pub fields_apart : (names : List (List ℕ)) (t : Table FieldId) (m n : List ℕ) (f g : FieldId) → AreNamed names t → find m t ≡ Some f → find n t ≡ Some g → f.0 ≡ g.0 → m ≡ n
fields_apart names t m n f g h p q e =
    let one : slice_get names f.0 ≡ Some m = (first_named names t m f h p).0 in
    let two : slice_get names f.0 ≡ Some n = ap (slice_get names) e ∙ (first_named names t n g h q).0 in
    let both : Some m ≡ Some n = sym one ∙ two in
    cc
