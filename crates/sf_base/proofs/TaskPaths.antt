-- What keeps a path padded as it grows.
-- Names: `drop-LAW`, of what is dropped from the array of turns.
use Rattle.std.proofs.Common.{◌≡◌, ◌<◌, ◌+◌, ◌-◌, ℕ, List, drop, replicate, arith}
use Rattle.std.proofs.Math.ListN.{set}
use Rattle.std.proofs.lemmas.List.{drop-set-lt, drop-drop, drop-replicate}
use Rattle.sf_base.specs.declared.limits.TheConstants.{TURNS}
use Rattle.sf_base.specs.declared.path.Turn.{Turn}
use Rattle.sf_base.specs.declared.path.Turn.TheVariants.{Left}

-- a list whose end is `Left` keeps such an end where its first element of it is written over
pub drop-set-replicate : (ts : List Turn) (n : ℕ) (turn : Turn) →
    drop n ts ≡ replicate (TURNS - n) Left → drop (n + 1) (set ts n turn) ≡ replicate (TURNS - (n + 1)) Left
drop-set-replicate ts n turn rest =
    let below : n < n + 1 = omega arith in
    let left : TURNS - n - 1 ≡ TURNS - (n + 1) = omega arith in
    rw (
      drop-set-lt (n + 1) ts n turn below,
      ← drop-drop 1 n ts,
      rest,
      drop-replicate 1
          (TURNS - n) Left,
      left,
    )
