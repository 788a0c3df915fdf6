-- Searches and stacks of goals.
-- Names: `leads-LAW` of what a search has chosen so far.
use Rattle.std.proofs.Common.{◌≡◌, Option, Some, None, IfSome, List, [], ◌∷◌, ◌++◌, length, map, refl, sym, ap, subst, append_assoc, arith}
use Rattle.std.proofs.lemmas.List.{append-nil, reverse-append}
use Rattle.sf_rules.specs.Checked.Children.{stack_of}
use Rattle.sf_rules.specs.Checked.Lemmas.RowRules.{row-leaves}
use Rattle.sf_rules.specs.Checked.Rows.Whole.{row}
use Rattle.sf_rules.specs.Setting.{Setting}
use Rattle.sf_search.specs.declared.choices.choice.Choice.TheVariants.{Takes as takes}
use Rattle.sf_search.specs.Judge.{Chosen, Outcome}
use Rattle.sf_search.specs.Strategy.{strategy}
use Rattle.sf_sym.specs.declared.tag.Tag.{Tag}
use Rattle.sf_sym.specs.declared.goal.Goal.{Goal as CodeGoal}
use Rattle.sf_sym.specs.Goal.{Goal, goal_of}

-- what a search has chosen so far: whatever it chooses from here on, it chose from there
abbrev pub Leads : Setting → (from to : List Goal) → List Tag → Type 0
Leads d from to tags = (rest : List Tag) (o : Outcome) → Chosen d to rest o → Chosen d from (tags ++ rest) o

pub leads_on : (d : Setting) (from gs : List Goal) (g : Goal) (tags : List Tag) (tag : Tag) (left : List Goal)
    → Leads d from (g ∷ gs) tags → strategy g ≡ takes tag → row d g tag ≡ Some left
    → Leads d from (left ++ gs) (tags ++ tag ∷ [])
leads_on d from gs g tags tag left l c r =
    λ rest o h. subst (λ ts. Chosen d from ts o) (sym (append_assoc tags (tag ∷ []) rest))
    (l (tag ∷ rest) o (c, left, row-leaves d g tag left r, h))

pub leads_end : (d : Setting) (from gs : List Goal) (tags : List Tag) (o : Outcome) → Leads d from gs tags
    → Chosen d gs [] o → Chosen d from tags o
leads_end d from gs tags o l h = subst (λ ts. Chosen d from ts o) (append-nil tags) (l [] o h)

-- one more goal on a stack
pub stack_push : (xs : List CodeGoal) (g : CodeGoal) → stack_of (xs ++ g ∷ []) ≡ goal_of g ∷ stack_of xs
stack_push xs g = ap (map goal_of) (reverse-append xs (g ∷ []))

-- none
pub no_goals : (xs : List CodeGoal) → length xs ≡ 0 → stack_of xs ≡ []
no_goals [] e = refl
no_goals (x ∷ xs) e = absurd (omega (arith, e))

-- what is so of a thing that may be there
pub some_weaker : {X : Type 0} (P Q : X → Type 0) (o : Option X) → ((x : X) → P x → Q x) → IfSome o P → IfSome o Q
some_weaker P Q None h k = tt
some_weaker P Q (Some x) h k = h x k
