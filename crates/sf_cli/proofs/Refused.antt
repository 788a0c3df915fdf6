-- Why a file is refused, from the faults of the layers.
-- Names: refused-*, determined-*.
use Rattle.std.proofs.Common.{◌≡◌, ◌≢◌, ◌⊎◌, inl, inr, Some, List, [], ◌∷◌, refl, sym, ap, ◌∙◌, subst}
use Rattle.std.proofs.lemmas.List.Elements.{All-nil, All-cons}
use Rattle.std.specs.declared.result.Result.{Result}
use Rattle.std.specs.declared.result.Result.TheVariants.{Ok, Err}
use Rattle.std.specs.List.{All}
use Rattle.std.specs.Prelude.{IfErr}
use Rattle.std.specs.Result.{IsErrAnd}
use Rattle.sf_ast.specs.Surface.{Item}
use Rattle.sf_base.specs.declared.place.Place.{Place}
use Rattle.sf_calls.specs.FirstBreach.{Conditions}
use Rattle.sf_core.specs.Assertions.Determined.{Determined}
use Rattle.sf_core.specs.Program.Syntax.{Program, Assertion}
use Rattle.sf_elab.specs.declared.fault.NameFault.{NameFault}
use Rattle.sf_elab.specs.declared.fault.NameFault.TheVariants as n
use Rattle.sf_elab.specs.Files.Elaborated.{FirstFault}
use Rattle.sf_lex.specs.declared.fault.LexFault.{LexFault}
use Rattle.sf_lex.specs.declared.fault.LexFault.TheVariants as l
use Rattle.sf_lex.specs.declared.token.Token.{Token}
use Rattle.sf_lex.specs.Reading.{AreTokens, IsFault as IsTokenFault, end_place}
use Rattle.sf_parse.specs.declared.fault.ParseFault.{ParseFault}
use Rattle.sf_parse.specs.declared.fault.ParseFault.TheVariants as g
use Rattle.sf_parse.specs.Parsing.{IsFile, IsFault as IsGrammarFault}
use Rattle.sf_precise.specs.declared.fault.OrderFault.{OrderFault}
use Rattle.sf_precise.specs.declared.fault.OrderFault.TheVariants as o
use Rattle.sf_precise.specs.Checked.Laws.{OrderedIsDetermined}
use Rattle.sf_precise.specs.Annotations.{annotations_in, IsFirstPlace, NeverTakenIn, AreOrdersOf}
use Rattle.sf_precise.specs.Taken.{IfUndetermined}
use Rattle.sf_vars.specs.declared.fault.VarFault.{VarFault}
use Rattle.sf_vars.specs.declared.fault.VarFault.TheVariants as v
use Rattle.sf_vars.specs.Faults.{IsFirstFault}
use Rattle.sf_proof.specs.declared.fault.ProofFault.{ProofFault as TextFault}
use Rattle.sf_proof.specs.declared.fault.ProofFault.TheVariants as f
use Rattle.sf_proof.specs.Reading.{IsFault as IsTextFault}
use Rattle.sf_cli.specs.declared.rejection.Rejection.TheVariants.{OutOfMemory as Unknown}
use Rattle.sf_cli.specs.Rechecked.{ProofFault, in_text}
use Rattle.sf_cli.specs.Rejections.{of_text}
use Rattle.sf_cli.specs.declared.refusal.Refusal.{Refusal}
use Rattle.sf_cli.specs.declared.refusal.Refusal.TheVariants.{OutOfMemory}
use Rattle.sf_cli.specs.FileFault.{ReadFault, in_tokens, in_grammar, in_names, ProgramFault, in_variables, in_order}
use Rattle.sf_cli.specs.Refusals.{of_tokens, of_grammar, of_names, of_variables, of_order}
use Rattle.sf_words.specs.Words.{Text}

-- an answer that is that refusal
pub refused-by : {X E : Type 0} {none : E} (r : Result X E) (P : E → Type 0) (s : E) → IsErrAnd r (λ e. e ≡ s)
    → (s ≢ none → P s) → IfErr r (λ e. e ≢ none → P e)
refused-by (Ok x) P s h f = tt
refused-by (Err e) P s h f = λ m. subst P (sym h) (f (λ z. m (h ∙ z)))

-- what holds of every refusal holds of this one
pub refused-mapped : {X : Type 0} (r : Result X Refusal) (P Q : Refusal → Type 0) → ((e : Refusal) → P e → Q e) → IfErr r (λ e. e ≢ OutOfMemory → P e) → IfErr r (λ e. e ≢ OutOfMemory → Q e)
refused-mapped (Ok x) P Q f h = tt
refused-mapped (Err e) P Q f h = λ m. f e (h m)

-- for its tokens
pub refused-tokens : (bytes : Text) (e : LexFault) → (e ≡ l.OutOfMemory) ⊎ IsTokenFault bytes e → of_tokens e ≢ OutOfMemory → ReadFault bytes (of_tokens e)
refused-tokens bytes e (inl m) k = absurd (k (ap of_tokens m))
refused-tokens bytes e (inr h) k = in_tokens e h refl

-- by the grammar
pub refused-grammar : (bytes : Text) (end : Place) (ts : List Token) (e : ParseFault) → AreTokens bytes ts → end ≡ end_place bytes → (e ≡ g.OutOfMemory) ⊎ IsGrammarFault end ts e → of_grammar e ≢ OutOfMemory
    → ReadFault bytes (of_grammar e)
refused-grammar bytes end ts e t at (inl m) k = absurd (k (ap of_grammar m))
refused-grammar bytes end ts e t at (inr h) k = in_grammar ts e t (subst (λ (z : Place). IsGrammarFault z ts e) at h) refl

-- for a name
pub refused-names : (bytes : Text) (ts : List Token) (tree : List Item) (e : NameFault) → AreTokens bytes ts → IsFile ts tree → (e ≡ n.OutOfMemory) ⊎ FirstFault bytes tree e
    → of_names e ≢ OutOfMemory → ReadFault bytes (of_names e)
refused-names bytes ts tree e t f (inl m) k = absurd (k (ap of_names m))
refused-names bytes ts tree e t f (inr h) k = in_names ts tree e t f h refl

-- for a condition on variables
pub refused-variables : (p : Program) (e : VarFault) → (e ≢ v.OutOfMemory → IsFirstFault p e) → of_variables e ≢ OutOfMemory → ProgramFault p (of_variables e)
refused-variables p e h k = in_variables e (h (λ m. k (ap of_variables m))) refl

-- for an annotation that isn't determined
pub refused-order : (p : Program) (e : OrderFault) → Conditions p → IfUndetermined e (λ q. IsFirstPlace (NeverTakenIn (annotations_in p)) (Some q)) → of_order e ≢ OutOfMemory → ProgramFault p (of_order e)
refused-order p (o.Undetermined q) c h k = in_order q c h refl
refused-order p o.OutOfMemory c h k = absurd (k refl)

-- annotations that have orders are determined
pub determined-all : OrderedIsDetermined → (notes orders : List Assertion) → AreOrdersOf notes orders → All (λ a. Determined a.level) notes
determined-all law [] [] h = All-nil (λ a. Determined a.level)
determined-all law [] (u ∷ us) h = absurd h
determined-all law (a ∷ rest) [] h = absurd h
determined-all law (a ∷ rest) (u ∷ us) h = All-cons (λ x. Determined x.level) a rest (law a.level u.level h.0.level).0 (determined-all law rest us h.1)

-- the text of a proof, for a fault of the text
pub refused-text : (p : Program) (proof : Text) (e : TextFault) → (e ≡ f.OutOfMemory) ⊎ IsTextFault p proof e
    → of_text e ≢ Unknown → ProofFault p proof (of_text e)
refused-text p proof e (inl m) k = absurd (k (ap of_text m))
refused-text p proof e (inr h) k = in_text e h refl
