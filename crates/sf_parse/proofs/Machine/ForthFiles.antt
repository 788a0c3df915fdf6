-- What the grammar has, the machine accepts: commands, items and files.
use Rattle.std.proofs.Common.{◌≡◌, ℕ, List, [], ◌∷◌, ◌-◌, true, false, refl, ◌∙◌}
use Rattle.sf_base.specs.declared.limits.TheConstants.{NESTING}
use Rattle.sf_base.specs.declared.place.Place.{Place}
use Rattle.sf_ast.specs.declared.word.SurfaceExpr.TheVariants as e
use Rattle.sf_ast.specs.declared.word.Word.{Word}
use Rattle.sf_ast.specs.Surface as s
use Rattle.sf_parse.specs.Leaf.{Leaf}
use Rattle.sf_parse.specs.Leaf as k
use Rattle.sf_parse.specs.Grammar as g
use Rattle.sf_parse.specs.Checked.Machine as m
use Rattle.sf_parse.specs.Checked.Machine.{Predicted, verdict}
use Rattle.sf_parse.specs.Nearest.{NotElse, Follows, NoteNearest, CommandNearest, CommandsNearest, ItemNearest, IsNearest}
use Rattle.sf_parse.specs.Nesting.{NoteWithin, CommandWithin, CommandsWithin, ItemWithin, ItemsWithin}
use Rattle.sf_parse.proofs.Machine.Back.{follows_else}
use Rattle.sf_parse.proofs.Machine.Forth.{test_goes, more_names_go, maybe_names_go, parameters_go, arguments_go, annotation_goes, maybe_annotation_goes}

pub follows_any : (c : s.Command) (r : List Leaf) → NotElse r → Follows c r
follows_any (s.if_alone p b c) r h = h
follows_any (s.if p b c d) r h = follows_any d r h
follows_any (s.while p b x c) r h = follows_any c r h
follows_any (s.with p x b c) r h = follows_any c r h
follows_any _ r h = tt

no_else_front : (c : s.Command) (r : List Leaf) → NotElse (g.command c r)
no_else_front (s.new x) r = tt
no_else_front _ r = tt

pub no_else_fronts : (cs : s.Commands) (r : List Leaf) → NotElse r → NotElse (g.commands cs r)
no_else_fronts s.done r h = h
no_else_fronts (s.then c cs) r h = no_else_front c (g.commands cs r)

-- a command begins no note
no_annotation : (n : ℕ) (c : s.Command) (r : List Leaf) (st : List Predicted) → verdict n (g.command c r) (m.maybe_annotation ∷ st) ≡ verdict n (g.command c r) st
no_annotation n (s.new x) r st = refl
no_annotation n _ r st = refl

-- the first of several commands
one_of_many : (n : ℕ) (c : s.Command) (d : ℕ) (r : List Leaf) (st : List Predicted) → verdict n (g.command c r) (m.commands d ∷ st) ≡ verdict n (g.command c r) (m.command d ∷ m.commands d ∷ st)
one_of_many n (s.mutate (e.Name x) f b) d r st = refl
one_of_many n (s.mutate _ f b) d r st = refl
one_of_many n _ d r st = refl

no_branch : (n : ℕ) (d : ℕ) (r : List Leaf) (st : List Predicted) → NotElse r → verdict n r (m.branch d ∷ st) ≡ verdict n r st
no_branch n d [] st h = refl
no_branch n d (k.Else ∷ r) st h = absurd h
no_branch n d (_ ∷ r) st h = refl

mutual
  command_goes : (n : ℕ) (c : s.Command) (d : ℕ) (r : List Leaf) (st : List Predicted) → CommandNearest c → CommandWithin c n d r → Follows c r → verdict n (g.command c r) (m.command d ∷ st) ≡ verdict n r st
  command_goes n (s.mutate (e.Name x) y b) d r st near w f = rw w refl
  command_goes n (s.mutate _ y b) d r st near w f = rw w refl
  command_goes n (s.dispose p true a) d r st near w f = rw w refl
  command_goes n (s.dispose p false a) d r st near w f = rw w refl
  command_goes n (s.if_alone p b c) d r st near w f =
      rw w.0 (test_goes n b (k.CloseRound ∷ g.command c r) (m.exact m.close_round ∷ m.command (d - 1) ∷ m.branch (d - 1) ∷ st)
      ∙ command_goes n c (d - 1) r (m.branch (d - 1) ∷ st) near w.1 (follows_any c r f) ∙ no_branch n (d - 1) r st f)
  command_goes n (s.if p b c x) d r st near w f =
      rw w.0 (test_goes n b (k.CloseRound ∷ g.command c (k.Else ∷ g.command x r)) (m.exact m.close_round ∷ m.command (d - 1) ∷ m.branch (d - 1) ∷ st)
      ∙ command_goes n c (d - 1) (k.Else ∷ g.command x r) (m.branch (d - 1) ∷ st) near.0 w.1 (follows_else c [] (g.command x r) near.2) ∙ command_goes n x (d - 1) r st near.1 w.2 f)
  command_goes n (s.while p b x c) d r st near w f =
      rw w.0 (test_goes n b (k.CloseRound ∷ g.maybe_annotation x (g.command c r)) (m.exact m.close_round ∷ m.maybe_annotation ∷ m.command (d - 1) ∷ st)
      ∙ maybe_annotation_goes n x (g.command c r) (m.command (d - 1) ∷ st) near.0 w.1 (no_annotation n c r (m.command (d - 1) ∷ st)) ∙ command_goes n c (d - 1) r st near.1 w.2 f)
  command_goes n (s.with p x b c) d r st near w f =
      rw w.0 (test_goes n b (k.CloseRound ∷ g.command c r) (m.exact m.close_round ∷ m.command (d - 1) ∷ st) ∙ command_goes n c (d - 1) r st near w.1 f)
  command_goes n (s.call c) d r st near w f = rw w (arguments_go n c.arguments (k.Semicolon ∷ r) (m.after_call ∷ st))
  command_goes n (s.fork c x) d r st near w f =
      rw w (arguments_go n c.arguments (k.Bars ∷ g.call x (k.Semicolon ∷ r)) (m.after_call ∷ st) ∙ arguments_go n x.arguments (k.Semicolon ∷ r) (m.exact m.semicolon ∷ st))
  command_goes n (s.block p cs o) d r st near w f = rw w.0 (commands_go n cs (d - 1) (k.CloseBrace o ∷ r) (m.exact m.close_brace ∷ st) near w.1 tt ∙ refl)
  command_goes n _ d r st near w f = rw w refl

  commands_go : (n : ℕ) (cs : s.Commands) (d : ℕ) (r : List Leaf) (st : List Predicted) → CommandsNearest cs → CommandsWithin cs n d r → NotElse r → verdict n (g.commands cs r) (m.commands d ∷ st) ≡ verdict n r (m.commands d ∷ st)
  commands_go n s.done d r st near w h = refl
  commands_go n (s.then c cs) d r st near w h =
      one_of_many n c d (g.commands cs r) st ∙ command_goes n c d (g.commands cs r) (m.commands d ∷ st) near.0 w.0 (follows_any c (g.commands cs r) (no_else_fronts cs r h)) ∙ commands_go n cs d r st near.1 w.1 h

-- a body after its `local`s
no_locals : (n : ℕ) (cs : s.Commands) (p : Place) (r : List Leaf) (st : List Predicted) → verdict n (g.commands cs (k.CloseBrace p ∷ r)) (m.locals ∷ st) ≡ verdict n (g.commands cs (k.CloseBrace p ∷ r)) st
no_locals n s.done p r st = refl
no_locals n (s.then (s.new x) cs) p r st = refl
no_locals n (s.then _ cs) p r st = refl

locals_go : (n : ℕ) (ls : List s.Names) (cs : s.Commands) (p : Place) (r : List Leaf) (st : List Predicted) → verdict n (g.locals ls (g.commands cs (k.CloseBrace p ∷ r))) (m.locals ∷ st) ≡ verdict n (g.commands cs (k.CloseBrace p ∷ r)) st
locals_go n [] cs p r st = no_locals n cs p r st
locals_go n (x ∷ ls) cs p r st =
    more_names_go n x.more (k.Semicolon ∷ g.locals ls (g.commands cs (k.CloseBrace p ∷ r))) (m.exact m.semicolon ∷ m.locals ∷ st) refl ∙ locals_go n ls cs p r st

-- an item begins no note
no_annotation_items : (n : ℕ) (is : List s.Item) (st : List Predicted) → verdict n (g.items is []) (m.maybe_annotation ∷ st) ≡ verdict n (g.items is []) st
no_annotation_items n [] st = refl
no_annotation_items n (s.fields x ∷ is) st = refl
no_annotation_items n (_ ∷ is) st = refl

fields_go : (n : ℕ) (xs : List Word) (r : List Leaf) (st : List Predicted) → verdict n (g.more_names xs (k.Semicolon ∷ r)) (m.item_named ∷ st) ≡ verdict n r st
fields_go n [] r st = refl
fields_go n (x ∷ xs) r st = more_names_go n xs (k.Semicolon ∷ r) (m.exact m.semicolon ∷ st) refl

resource_goes : (n : ℕ) (x : s.Resource) (r : List Leaf) (st : List Predicted) → NoteNearest x.invariant → NoteWithin x.invariant n r → verdict n (g.resource x r) (m.items ∷ st) ≡ verdict n r (m.items ∷ st)
resource_goes n x r st near w =
    maybe_names_go n x.variables (k.CloseRound ∷ g.annotation x.invariant r) (m.exact m.close_round ∷ m.exact m.open_square ∷ m.maybe_assertion ∷ m.exact m.close_square ∷ m.items ∷ st) refl refl
    ∙ annotation_goes n x.invariant r (m.items ∷ st) near w

procedure_goes : (n : ℕ) (f : s.Procedure) (r : List Leaf) (st : List Predicted) → ItemNearest (s.procedure f) → ItemWithin (s.procedure f) n r → verdict n r (m.maybe_annotation ∷ m.items ∷ st) ≡ verdict n r (m.items ∷ st) → verdict n (g.procedure f r) (m.items ∷ st) ≡ verdict n r (m.items ∷ st)
procedure_goes n f r st near w h =
    parameters_go n f.parameters (g.maybe_annotation f.pre (k.OpenBrace f.opens ∷ g.locals f.locals (g.commands f.body (k.CloseBrace f.closes ∷ g.maybe_annotation f.post r))))
    (m.maybe_annotation ∷ m.exact m.open_brace ∷ m.locals ∷ m.commands NESTING ∷ m.exact m.close_brace ∷ m.maybe_annotation ∷ m.items ∷ st)
    ∙ maybe_annotation_goes n f.pre (k.OpenBrace f.opens ∷ g.locals f.locals (g.commands f.body (k.CloseBrace f.closes ∷ g.maybe_annotation f.post r)))
    (m.exact m.open_brace ∷ m.locals ∷ m.commands NESTING ∷ m.exact m.close_brace ∷ m.maybe_annotation ∷ m.items ∷ st) near.0 w.0 refl
    ∙ locals_go n f.locals f.body f.closes (g.maybe_annotation f.post r) (m.commands NESTING ∷ m.exact m.close_brace ∷ m.maybe_annotation ∷ m.items ∷ st)
    ∙ commands_go n f.body NESTING (k.CloseBrace f.closes ∷ g.maybe_annotation f.post r) (m.exact m.close_brace ∷ m.maybe_annotation ∷ m.items ∷ st) near.1 w.1 tt
    ∙ maybe_annotation_goes n f.post r (m.items ∷ st) near.2 w.2 h

-- a file is accepted
pub items_go : (n : ℕ) (is : List s.Item) → IsNearest is → ItemsWithin is n [] → verdict n (g.items is []) (m.items ∷ []) ≡ m.accepted
items_go n [] near w = refl
items_go n (s.fields x ∷ is) near w = fields_go n x.more (g.items is []) (m.items ∷ []) ∙ items_go n is near.1 w.1
items_go n (s.resource x ∷ is) near w = resource_goes n x (g.items is []) [] near.0 w.0 ∙ items_go n is near.1 w.1
items_go n (s.procedure f ∷ is) near w = procedure_goes n f (g.items is []) [] near.0 w.0 (no_annotation_items n is (m.items ∷ [])) ∙ items_go n is near.1 w.1
