-- What bytes that were fetched of a file tell of it, where there is a limit on how many it may
-- have.
-- Ordinary: one byte more than the limit is asked for, so that a file that is too long is seen to
-- be.
use Rattle.std.specs.Prelude.{◌≡◌, ℕ, ◌<◌, ◌⊎◌, Option, length}
use Rattle.sf_io.specs.Shelf.{Files}
use Rattle.sf_cli.specs.SoundFile.{MayHave}
use Rattle.sf_words.specs.Words.{Text}

-- all of the file, or more than it may have of one that has more
abbrev pub IsUpTo : (limit : ℕ) (file out : Text) → Type 0
IsUpTo limit file out = (out ≡ file) ⊎ ((limit < length out) × (limit < length file))

-- a file of that name is there, which may have these bytes, and this is what is fetched of it
pub record Fetched (limit : ℕ) (told : Option Files) (name out : Text) : Type 0 where
  pub bytes : Text
  pub may_have : MayHave told name bytes
  pub is : IsUpTo limit bytes out
