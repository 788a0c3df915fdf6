-- A value parameter is primed exactly where a command of the body sets its name or passes it as a reference.
use Rattle.std.proofs.Common.{◌≡◌, inl, inr, Bool, true, Contains, refl, sym, subst}
use Rattle.std.proofs.lemmas.List.Elements.{Contains-append_cases, Contains-append_left, Contains-append_right}
use Rattle.std.proofs.lemmas.List.Folds.{Any-from_list_any, list_any-from_Any}
use Rattle.std.proofs.lemmas.Slice.Eq.{bytes_eq-Decides}
use Rattle.std.specs.Str.{bytes_eq}
use Rattle.sf_base.proofs.Elements.{contains-nil, contains-single, contains-single_of}
use Rattle.sf_base.proofs.Sums.{either}
use Rattle.sf_ast.specs.declared.word.Word.{Word}
use Rattle.sf_ast.specs.Surface.{Command, assign, look_up, new, mutate, dispose, if_alone, if, while, with, call, fork, block, Commands, done, then}
use Rattle.sf_elab.specs.Bodies.Commands.{references_in, set_in, set_in_all}
use Rattle.sf_elab.specs.Checked.Laws.{IsPartOf, IsPartOfAll, PrimedValuesAreSet, Sets}
use Rattle.sf_elab.specs.Bodies.Procedures.{is_primed}
use Rattle.sf_elab.specs.Names.Texts.{text}

mutual
  -- a word that was collected is set by a part of the command
  setter : (c : Command) (w : Word) → Contains (set_in c) w → (d : Command) × IsPartOf d c × Sets d w
  setter (assign x e) w h = (assign x e, refl, contains-single x w h)
  setter (look_up x e f) w h = (look_up x e f, refl, contains-single x w h)
  setter (new x) w h = (new x, refl, contains-single x w h)
  setter (mutate e f v) w h = absurd (contains-nil w h)
  setter (dispose p k e) w h = absurd (contains-nil w h)
  setter (if_alone p t c) w h = let part = setter c w h in (part.0, inr part.1, part.2)
  setter (if p t c b) w h =
      either (Contains-append_cases (set_in c) (set_in b) w h)
      (λ k. let part = setter c w k in (part.0, inr (inl part.1), part.2))
      (λ k. let part = setter b w k in (part.0, inr (inr part.1), part.2))
  setter (while p t n c) w h = let part = setter c w h in (part.0, inr part.1, part.2)
  setter (with p r t c) w h = let part = setter c w h in (part.0, inr part.1, part.2)
  setter (call one) w h = (call one, refl, h)
  setter (fork one other) w h =
      (fork one other, refl, Contains-append_cases (references_in one.arguments) (references_in other.arguments) w h)
  setter (block p cs q) w h = let part = setter_in cs w h in (part.0, inr part.1, part.2)

  setter_in : (cs : Commands) (w : Word) → Contains (set_in_all cs) w
      → (d : Command) × IsPartOfAll d cs × Sets d w
  setter_in done w h = absurd (contains-nil w h)
  setter_in (then c cs) w h =
      either (Contains-append_cases (set_in c) (set_in_all cs) w h)
      (λ k. let part = setter c w k in (part.0, inl part.1, part.2))
      (λ k. let part = setter_in cs w k in (part.0, inr part.1, part.2))

mutual
  -- what a part of the command sets was collected
  collected : (c : Command) (w : Word) (d : Command) → IsPartOf d c → Sets d w → Contains (set_in c) w
  collected (assign x e) w d i s = contains-single_of x w (subst (λ z. Sets z w) i s)
  collected (look_up x e f) w d i s = contains-single_of x w (subst (λ z. Sets z w) i s)
  collected (new x) w d i s = contains-single_of x w (subst (λ z. Sets z w) i s)
  collected (mutate e f v) w d i s = absurd (subst (λ z. Sets z w) i s)
  collected (dispose p k e) w d i s = absurd (subst (λ z. Sets z w) i s)
  collected (if_alone p t c) w d (inl i) s = absurd (subst (λ z. Sets z w) i s)
  collected (if_alone p t c) w d (inr i) s = collected c w d i s
  collected (if p t c b) w d (inl i) s = absurd (subst (λ z. Sets z w) i s)
  collected (if p t c b) w d (inr (inl i)) s =
      Contains-append_left (set_in c) (set_in b) w (collected c w d i s)
  collected (if p t c b) w d (inr (inr i)) s =
      Contains-append_right (set_in c) (set_in b) w (collected b w d i s)
  collected (while p t n c) w d (inl i) s = absurd (subst (λ z. Sets z w) i s)
  collected (while p t n c) w d (inr i) s = collected c w d i s
  collected (with p r t c) w d (inl i) s = absurd (subst (λ z. Sets z w) i s)
  collected (with p r t c) w d (inr i) s = collected c w d i s
  collected (call one) w d i s = subst (λ z. Sets z w) i s
  collected (fork one other) w d i s =
      either (subst (λ z. Sets z w) i s)
      (λ k. Contains-append_left (references_in one.arguments) (references_in other.arguments) w k)
      (λ k. Contains-append_right (references_in one.arguments) (references_in other.arguments) w k)
  collected (block p cs q) w d (inl i) s = absurd (subst (λ z. Sets z w) i s)
  collected (block p cs q) w d (inr i) s = collected_in cs w d i s

  collected_in : (cs : Commands) (w : Word) (d : Command) → IsPartOfAll d cs → Sets d w
      → Contains (set_in_all cs) w
  collected_in done w d i s = absurd i
  collected_in (then c cs) w d (inl i) s =
      Contains-append_left (set_in c) (set_in_all cs) w (collected c w d i s)
  collected_in (then c cs) w d (inr i) s =
      Contains-append_right (set_in c) (set_in_all cs) w (collected_in cs w d i s)

pub primed_values_are_set : PrimedValuesAreSet
primed_values_are_set bytes f w = (there, back)
  where
    test : Word → Bool
    test v = bytes_eq (text bytes w) (text bytes v)

    there : is_primed bytes f w ≡ true
        → (v : Word) × (d : Command) × IsPartOfAll d f.body × Sets d v × (text bytes v ≡ text bytes w)
    there h =
        let some = Any-from_list_any test (set_in_all f.body) h in
        let part = setter_in f.body some.1 (some.0, some.2, some.3) in
        (some.1, part.0, part.1, part.2, sym ((bytes_eq-Decides (text bytes w) (text bytes some.1)).0 some.4))

    back : (v : Word) × (d : Command) × IsPartOfAll d f.body × Sets d v × (text bytes v ≡ text bytes w)
        → is_primed bytes f w ≡ true
    back h =
        let place = collected_in f.body h.0 h.1 h.2 h.3 in
        list_any-from_Any test (set_in_all f.body) (
          place.0,
          h.0,
          place.1,
          place.2,
          (bytes_eq-Decides (text bytes w) (text bytes h.0)).1 (sym h.4),
        )
