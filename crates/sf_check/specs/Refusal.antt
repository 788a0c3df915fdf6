-- Refused: why tags don't prove a program, and at which of them that shows.
-- This project's own notion: the first tag that a proof can't go on with, or the end where a proof can't end.
use Rattle.std.specs.Prelude.{◌≡◌, ℕ, Bool, true, false, List, ◌∷◌, ◌++◌, length}
use Rattle.sf_sym.specs.declared.tag.Tag.{Tag}
use Rattle.sf_rules.specs.Setting.{Setting}
use Rattle.sf_check.specs.declared.refusal.CheckFault.{CheckFault}
use Rattle.sf_check.specs.declared.refusal.CheckFault.TheVariants.{Refused as IsRefused, OutOfMemory}
use Rattle.sf_check.specs.declared.refusal.Refusal.{Refusal}
use Rattle.sf_check.specs.declared.refusal.Refusal.TheVariants.{NotARule, Unfinished, Leftover}
use Rattle.sf_check.specs.Stand.{Stand, Takes, TakesAll, is_finished, start}

-- the tags before that of this number are taken, and this one isn't, where all is proved or where it isn't
pub record StopsAt (d : Setting) (tags : List Tag) (number : ℕ) (finished : Bool) : Type 0 where
  pub before : List Tag
  pub tag : Tag
  pub rest : List Tag
  pub stand : Stand
  pub are : tags ≡ before ++ tag ∷ rest
  pub counted : length before ≡ number
  pub taken_before : TakesAll d start before stand
  pub not_taken : (next : Stand) → ¬ Takes d stand tag next
  pub is : is_finished d stand ≡ finished

-- all the tags, of which there are so many, are taken, and not all is proved
pub record EndsOpen (d : Setting) (tags : List Tag) (number : ℕ) : Type 0 where
  pub stand : Stand
  pub counted : length tags ≡ number
  pub taken_all : TakesAll d start tags stand
  pub is : is_finished d stand ≡ false

-- Refused: the tags are refused at that number, counted from 0, for that reason
abbrev pub Refused : Setting → List Tag → (number : ℕ) → Refusal → Type 0
Refused d tags number NotARule = StopsAt d tags number false
Refused d tags number Unfinished = EndsOpen d tags number
Refused d tags number Leftover = StopsAt d tags number true

-- what holds of the number and the reason, where the fault is a refusal
abbrev pub IfRefused : CheckFault → (ℕ → Refusal → Type 0) → Type 0
IfRefused (IsRefused number why) P = P number why
IfRefused OutOfMemory P = Unit {0}
