-- Written tags are read back.
use Rattle.std.proofs.Common.{◌≡◌, ◌<◌, ◌+◌, ◌^◌, ◌++◌, ℕ, zero, suc, List, [], ◌∷◌, length, true, false, cond, Some, None, refl, ap, sym, ◌∙◌, arith, subst, append_assoc, codes, decimal, slice_get}
use Rattle.std.specs.List.{list_all, range_with_len}
use Rattle.std.specs.Option.{option_and_then, option_map, option_zip}
use Rattle.std.specs.Str.{bytes_eq}
use Rattle.sf_base.specs.declared.ids.ProcId.{ProcId}
use Rattle.sf_lines.specs.Checked.Lemmas.Tokens.{decimal-plain, name-plain}
use Rattle.sf_lines.specs.Checked.Lemmas.Written.{IsPlain, all-append, is_inline, lines-before, plain-inline, words-before, words-plain}
use Rattle.sf_lines.specs.Lines.{lines, words}
use Rattle.sf_core.specs.Program.Named.{name_of}
use Rattle.sf_core.specs.Program.Syntax.{Program}
use Rattle.sf_sym.specs.declared.tag.Tag.{Tag}
use Rattle.sf_sym.specs.declared.tag.Tag.TheVariants as t
use Rattle.sf_sym.specs.declared.term.Term.{Term}
use Rattle.sf_proof.specs.declared.entry.Entry.TheVariants.{Nothing, Says, Bad}
use Rattle.sf_proof.specs.Checked.Laws.{AreWritable, IsFirstOfItsName, IsTermOfCode, IsWritable, WrittenTagsReadBack}
use Rattle.sf_proof.specs.ProofText.{Text, atom_text, lines_of, procedure_text, proof_text, split_text, tag_text, term_text}
use Rattle.sf_proof.specs.Reading.{entry, entry_after, entry_of, numbers_from, numbers_in, tags_from, tags_in}
use Rattle.sf_proof.specs.Words.{natural_of, procedure_named, split_by, tag_alone, tag_of_procedure, tag_with, tag_with_atom, tag_with_two, term_of}
use Rattle.sf_proof.proofs.Spelling.{natural-decimal, term-back, term-plain}

-- a written line: nothing in it ends a line, and it says the tag
record IsWritten (p : Program) (line : Text) (tag : Tag) : Type 0 where
  inline : list_all is_inline line ≡ true
  says : entry_after p (words line) ≡ Says tag

-- a word and an atom's number
written-atom : (p : Program) (w : Text) (make : ℕ → Tag) (a : ℕ) → IsPlain w → bytes_eq w (codes "procedure") ≡ false
    → ((n : ℕ) → tag_with_atom w n ≡ Some (make n)) → a < 2 ^ 32 → IsWritten p (atom_text w a) (make a)
written-atom p w make a plain other is h =
    let wide : a < 2 ^ 64 = omega arith in
    let spelled : words (atom_text w a) ≡ w ∷ decimal a ∷ [] =
    ap words (append_assoc w (codes " ") (decimal a)) ∙ words-before w (decimal a) plain
    ∙ ap (λ ws. w ∷ ws) (words-plain (decimal a) (decimal-plain a wide)) in
    let with : tag_with p w (decimal a) ≡ Some (make a) =
    ap (λ b. cond b (tag_of_procedure p (decimal a)) (option_and_then (tag_with_atom w) (natural_of (decimal a))))
    other
    ∙ ap (option_and_then (tag_with_atom w)) (natural-decimal a h) ∙ is a in
    record {
      inline = all-append is_inline (w ++ codes " ") (decimal a) (all-append is_inline w (codes " ") (plain-inline w plain) refl)
          (plain-inline (decimal a) (decimal-plain a wide));
      says = ap (entry_after p) spelled ∙ ap entry_of with;
    }

written-split : (p : Program) (x y : Term) → IsTermOfCode x → IsTermOfCode y
    → IsWritten p (split_text x y) (t.Split x y)
written-split p x y h k =
    let one = term-plain x h in
    let two = term-plain y k in
    let second : words (term_text x ++ codes " " ++ term_text y) ≡ term_text x ∷ term_text y ∷ [] =
    ap words (append_assoc (term_text x) (codes " ") (term_text y)) ∙ words-before (term_text x) (term_text y) one
    ∙ ap (λ ws. term_text x ∷ ws) (words-plain (term_text y) two) in
    let whole : split_text x y ≡ codes "split" ++ 32 ∷ (term_text x ++ codes " " ++ term_text y) =
    ap (λ l. l ++ term_text y) (append_assoc (codes "split ") (term_text x) (codes " "))
    ∙ append_assoc (codes "split ") (term_text x ++ codes " ") (term_text y) in
    let spelled : words (split_text x y) ≡ codes "split" ∷ term_text x ∷ term_text y ∷ [] =
    ap words whole ∙ words-before (codes "split") (term_text x ++ codes " " ++ term_text y)
    (record { some = refl; visible = refl }) ∙ ap (λ ws. codes "split" ∷ ws) second in
    let with : tag_with_two (codes "split") (term_text x) (term_text y) ≡ Some (t.Split x y) =
    ap (λ a. option_map split_by (option_zip a (term_of (term_text y)))) (term-back x h)
    ∙ ap (λ b. option_map split_by (option_zip (Some x) b)) (term-back y k) in
    record {
      inline = all-append is_inline (codes "split " ++ term_text x ++ codes " ") (term_text y)
          (all-append is_inline (codes "split " ++ term_text x) (codes " ")
          (all-append is_inline (codes "split ") (term_text x) refl (plain-inline (term_text x) one)) refl)
          (plain-inline (term_text y) two);
      says = ap (entry_after p) spelled ∙ ap entry_of with;
    }

written-procedure : (p : Program) (f : ProcId) → IsFirstOfItsName p f
    → IsWritten p (procedure_text p f) (t.Procedure f)
written-procedure p f h =
    let name : Text = name_of p f in
    let plain : IsPlain (name_of p f) = name-plain (name_of p f) h.name in
    let spelled : words (procedure_text p f) ≡ codes "procedure" ∷ name_of p f ∷ [] =
    words-before (codes "procedure") (name_of p f) (record { some = refl; visible = refl })
    ∙ ap (λ ws. codes "procedure" ∷ ws) (words-plain (name_of p f) plain) in
    let with : tag_of_procedure p (name_of p f) ≡ Some (t.Procedure f) =
    ap (λ b. cond b (Some (t.Procedure (procedure_named p (name_of p f)))) None) h.name
    ∙ ap (λ g. Some (t.Procedure g)) h.first in
    record {
      inline = all-append is_inline (codes "procedure ") (name_of p f) refl (plain-inline (name_of p f) plain);
      says = ap (entry_after p) spelled ∙ ap entry_of with;
    }

-- each tag as it is written
written : (p : Program) (tag : Tag) → IsWritable p tag → IsWritten p (tag_text p tag) tag
unfolding tag_alone tag_with_atom
written p (t.Procedure f) h = written-procedure p f h
written p (t.Split x y) h = written-split p x y h.0 h.1
written p (t.Drop a) h = written-atom p (codes "drop") (λ n. t.Drop n) a (record { some = refl; visible = refl }) refl
    (λ n. refl) h
written p (t.Force a) h = written-atom p (codes "force") (λ n. t.Force n) a (record { some = refl; visible = refl })
    refl (λ n. refl) h
written p (t.Unroll a) h = written-atom p (codes "unroll") (λ n. t.Unroll n) a
    (record { some = refl; visible = refl }) refl (λ n. refl) h
written p (t.Back a) h = written-atom p (codes "back") (λ n. t.Back n) a (record { some = refl; visible = refl }) refl
    (λ n. refl) h
written p (t.Look a) h = written-atom p (codes "look") (λ n. t.Look n) a (record { some = refl; visible = refl }) refl
    (λ n. refl) h
written p (t.Mutate a) h = written-atom p (codes "mutate") (λ n. t.Mutate n) a
    (record { some = refl; visible = refl }) refl (λ n. refl) h
written p (t.Dispose a) h = written-atom p (codes "dispose") (λ n. t.Dispose n) a
    (record { some = refl; visible = refl }) refl (λ n. refl) h
written p (t.Cell a) h = written-atom p (codes "cell") (λ n. t.Cell n) a (record { some = refl; visible = refl }) refl
    (λ n. refl) h
written p (t.Exact a) h = written-atom p (codes "exact") (λ n. t.Exact n) a (record { some = refl; visible = refl })
    refl (λ n. refl) h
written p (t.Head a) h = written-atom p (codes "head") (λ n. t.Head n) a (record { some = refl; visible = refl }) refl
    (λ n. refl) h
written p (t.Join a) h = written-atom p (codes "join") (λ n. t.Join n) a (record { some = refl; visible = refl }) refl
    (λ n. refl) h
written p (t.Node a) h = written-atom p (codes "node") (λ n. t.Node n) a (record { some = refl; visible = refl }) refl
    (λ n. refl) h
written p t.Absurd h = record { inline = refl; says = refl }
written p t.Assign h = record { inline = refl; says = refl }
written p t.New h = record { inline = refl; says = refl }
written p t.Then h = record { inline = refl; says = refl }
written p t.Else h = record { inline = refl; says = refl }
written p t.Loop h = record { inline = refl; says = refl }
written p t.Around h = record { inline = refl; says = refl }
written p t.Again h = record { inline = refl; says = refl }
written p t.Call h = record { inline = refl; says = refl }
written p t.Fork h = record { inline = refl; says = refl }
written p t.Enter h = record { inline = refl; says = refl }
written p t.Exit h = record { inline = refl; says = refl }
written p t.Return h = record { inline = refl; says = refl }
written p t.Give h = record { inline = refl; says = refl }
written p t.End h = record { inline = refl; says = refl }
written p t.Add h = record { inline = refl; says = refl }
written p t.Bind h = record { inline = refl; says = refl }
written p t.Same h = record { inline = refl; says = refl }
written p t.Apart h = record { inline = refl; says = refl }
written p t.Empty h = record { inline = refl; says = refl }

-- the lines of written tags are these tags, before an empty last line
record AreWritten (p : Program) (k : ℕ) (tags : List Tag) (ls : List Text) : Type 0 where
  tags_there : tags_from p (suc k) ls ≡ tags
  numbers : numbers_from p (suc k) ls ≡ range_with_len (suc (suc k)) (length tags)
  in_order : (j : ℕ) (line : Text) → slice_get ls j ≡ Some line → entry p (suc (k + j)) line ≡ Bad → ⊥

none-written : (p : Program) (k : ℕ) → AreWritten p k [] (lines [])
none-written p k = record { tags_there = refl; numbers = refl; in_order = at }
  where
    at : (j : ℕ) (line : Text) → slice_get (lines []) j ≡ Some line → entry_after p (words line) ≡ Bad → ⊥
    at zero line there bad = let same : line ≡ [] = cc there in let wrong : Nothing ≡ Bad =
        subst (λ l. entry_after p (words l) ≡ Bad) same bad in absurd cc
    at (suc j) line there bad = absurd (cc there)

one-written : (p : Program) (k : ℕ) (tag : Tag) (tags : List Tag) (line : Text) (ls : List Text)
    → IsWritten p line tag → AreWritten p (suc k) tags ls → AreWritten p k (tag ∷ tags) (line ∷ ls)
one-written p k tag tags line ls w rest = record {
  tags_there = ap (λ e. tags_in e ++ tags_from p (suc (suc k)) ls) w.says ∙ ap (λ ts. tag ∷ ts) rest.tags_there;
  numbers = ap (λ e. numbers_in (suc (suc k)) e ++ numbers_from p (suc (suc k)) ls) w.says
      ∙ ap (λ ns. suc (suc k) ∷ ns) (rest.numbers ∙ ap (λ a. range_with_len a (length tags)) next);
  in_order = at;
}
  where
    next : suc (suc (suc k)) ≡ suc (suc k) + 1
    next = omega arith

    at : (j : ℕ) (l : Text) → slice_get (line ∷ ls) j ≡ Some l → entry_after p (words l) ≡ Bad → ⊥
    at zero l there bad =
        let same : l ≡ line = cc there in
        let wrong : Says tag ≡ Bad = sym w.says ∙ subst (λ x. entry_after p (words x) ≡ Bad) same bad in
        absurd cc
    at (suc j) l there bad = rest.in_order j l there bad

all-written : (p : Program) (k : ℕ) (tags : List Tag) → AreWritable p tags
    → AreWritten p k tags (lines (lines_of p tags))
all-written p k [] h = none-written p k
all-written p k (tag ∷ tags) h =
    let w : IsWritten p (tag_text p tag) tag = written p tag h.0 in
    let cut : lines (lines_of p (tag ∷ tags)) ≡ tag_text p tag ∷ lines (lines_of p tags) =
    ap lines (append_assoc (tag_text p tag) (codes "\n") (lines_of p tags))
    ∙ lines-before (tag_text p tag) (lines_of p tags) w.inline in
    subst (AreWritten p k (tag ∷ tags)) (sym cut)
    (one-written p k tag tags (tag_text p tag) (lines (lines_of p tags)) w (all-written p (suc k) tags h.1))

pub written_tags_read_back : WrittenTagsReadBack
unfolding WrittenTagsReadBack
written_tags_read_back p tags each short =
    let at : AreWritten p 0 tags (lines (lines_of p tags)) = all-written p 0 tags each in
    let cut : lines (proof_text p tags) ≡ codes "accepted" ∷ lines (lines_of p tags) =
    lines-before (codes "accepted") (lines_of p tags) refl in
    record {
      short = short;
      none_bad = λ k b. whole k b.line (subst (λ ls. slice_get ls k ≡ Some b.line) cut b.there) b.bad;
      tags = sym (ap (tags_from p 0) cut ∙ at.tags_there);
      numbers = sym (ap (numbers_from p 0) cut ∙ at.numbers);
    }
  where
    whole : (k : ℕ) (line : Text) → slice_get (codes "accepted" ∷ lines (lines_of p tags)) k ≡ Some line
        → entry p k line ≡ Bad → ⊥
    whole zero line there bad =
        let same : line ≡ codes "accepted" = cc there in
        let wrong : Nothing ≡ Bad = subst (λ l. entry p 0 l ≡ Bad) same bad in
        absurd cc
    whole (suc j) line there bad = (all-written p 0 tags each).in_order j line there bad
