-- What parts of a line say together.
-- Names: `both-LAW`.
use Rattle.std.proofs.Common.{◌≡◌, [], refl, ap, sym, append_assoc, append-nil}
use Rattle.sf_state.specs.declared.fields.Fields.{Fields}
use Rattle.sf_state.specs.declared.fields.Fields.TheVariants.{Bad, Unknown, Are}
use Rattle.sf_state.specs.Says.{both}

-- nothing before is nothing more
pub both-first : (a : Fields) → both (Are []) a ≡ a
both-first Bad = refl
both-first (Unknown n) = refl
both-first (Are xs) = refl

-- nor after
pub both-last : (a : Fields) → both a (Are []) ≡ a
both-last Bad = refl
both-last (Unknown n) = refl
both-last (Are xs) = ap Are (append-nil xs)

-- either pair may be put together first
pub both-both : (a b c : Fields) → both a (both b c) ≡ both (both a b) c
both-both Bad b c = refl
both-both (Unknown n) Bad c = refl
both-both (Unknown n) (Unknown m) Bad = refl
both-both (Unknown n) (Unknown m) (Unknown k) = refl
both-both (Unknown n) (Unknown m) (Are zs) = refl
both-both (Unknown n) (Are ys) Bad = refl
both-both (Unknown n) (Are ys) (Unknown k) = refl
both-both (Unknown n) (Are ys) (Are zs) = refl
both-both (Are xs) Bad c = refl
both-both (Are xs) (Unknown m) Bad = refl
both-both (Are xs) (Unknown m) (Unknown k) = refl
both-both (Are xs) (Unknown m) (Are zs) = refl
both-both (Are xs) (Are ys) Bad = refl
both-both (Are xs) (Are ys) (Unknown k) = refl
both-both (Are xs) (Are ys) (Are zs) = ap Are (sym (append_assoc xs ys zs))

-- the same, for tactics
pub ruleset fold = (both-first, both-last, both-both)
