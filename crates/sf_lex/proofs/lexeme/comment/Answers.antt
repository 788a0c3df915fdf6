use Rattle.std.proofs.Common.{◌≡◌, ◌≤◌, ◌-◌, drop, length, sym, ap, ◌∙◌, refl, length-drop, rules}
use Rattle.sf_lex.specs.Checked.Lexing.{close_length}
use Rattle.sf_lex.proofs.CommentLexemes.{comment_stands, comment_open, close_within}
use Rattle.sf_lex.proofs.lexeme.comment.Goals as goal

pub overflow_add-result : goal.overflow_add-result
overflow_add-result c =
    let within : c.in-Some.length ≤ length (drop 2 c.args.bytes.now) =
    close_within (drop 2 c.args.bytes.now) c.in-Some.length (ap close_length (sym c.from_index.ensures) ∙ sym c.close_length.ensures ∙ c.in-Some.is) in
    let left : length (drop 2 c.args.bytes.now) ≡ length c.args.bytes.now - 2 = length-drop 2 c.args.bytes.now in
    search rules

pub returns-in-Some : goal.returns-in-Some
returns-in-Some c =
    comment_stands c.args.bytes.now c.in-Some.length c.requires (ap close_length (sym c.from_index.ensures) ∙ sym c.close_length.ensures ∙ c.in-Some.is)

pub returns-in-None : goal.returns-in-None
returns-in-None c = (refl, comment_open c.args.bytes.now c.requires (ap close_length (sym c.from_index.ensures) ∙ sym c.close_length.ensures ∙ c.in-None.is))
