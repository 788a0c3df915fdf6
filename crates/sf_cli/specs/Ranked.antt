-- Ranked: what is said of a program whose resources are ranked.
-- Ordered resources: Coffman, Elphick and Shoshani, "System Deadlocks" (1971).
use Rattle.std.specs.Prelude.{◌≡◌, ℕ, ◌++◌, List, [], ◌∷◌, codes, decimal, length}
use Rattle.std.specs.List.{flat_map}
use Rattle.sf_base.specs.declared.ids.ResId.{ResId}
use Rattle.sf_core.specs.Program.Syntax.{Program}
use Rattle.sf_order.specs.Cycles.{IsFirstCycle}
use Rattle.sf_order.specs.Nests.{Nests}
use Rattle.sf_order.specs.Rank.{AreByRank, IsRanking, rank_in}
use Rattle.sf_cli.specs.Ran.{resource_name}
use Rattle.sf_words.specs.Words.{Text}

-- the line of a resource: its rank and its name
abbrev pub rank_line : Program → List ℕ → ResId → Text
rank_line p ranks r = decimal (rank_in ranks r) ++ codes " " ++ resource_name p r ++ codes "\n"

-- the line `order`, and one for each of these resources
abbrev pub ranks_text : Program → List ℕ → List ResId → Text
ranks_text p ranks rs = codes "order\n" ++ flat_map (rank_line p ranks) rs

-- a resource of a cycle
abbrev pub cycle_word : Program → ResId → Text
cycle_word p r = codes " " ++ resource_name p r

-- the first one again
abbrev pub again : Program → List ResId → Text
again p [] = []
again p (x ∷ xs) = cycle_word p x

-- the line of a cycle: its resources, and the first one again
abbrev pub cycle_text : Program → List ResId → Text
cycle_text p xs = codes "cycle:" ++ flat_map (cycle_word p) xs ++ again p xs ++ codes "\n"

-- the answer to a program with which nothing is wrong: its resources by rank; or the first cycle, where there is one
pub data RankingAnswer (p : Program) (text : Text) (status : ℕ) : Type 0 where
  ranked : (ranks : List ℕ) (rs : List ResId) → IsRanking (Nests p) (length p.resources) ranks
      → AreByRank (length p.resources) ranks rs → text ≡ ranks_text p ranks rs → status ≡ 0
      → RankingAnswer p text status
  in_cycle : (xs : List ResId) → IsFirstCycle (Nests p) xs → text ≡ cycle_text p xs → status ≡ 12
      → RankingAnswer p text status
