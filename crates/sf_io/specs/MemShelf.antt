-- What a shelf in memory keeps.
-- A stand-in whose content is given: Meszaros, xUnit test patterns, 2007.
use Rattle.std.specs.Prelude.{◌≡◌, ℕ, List, if◌then◌else◌, Some}
use Rattle.std.specs.BTreeMap.{get_by_text}
use Rattle.std.specs.Option.{option_map}
use Rattle.std.specs.Str.{bytes_eq}
use Rattle.sf_io.specs.FaultPlan.{Plan}
use Rattle.sf_io.specs.Shelf.{Files}
use Rattle.sf_io.specs.declared.mem_shelf.MemShelf.{MemShelf}
use Rattle.sf_io.specs.declared.mem_shelf.Request.{Request}

-- the bytes under each name
abbrev pub files_of : MemShelf → Files
files_of shelf name = option_map (λ bytes. bytes.items) (get_by_text shelf.files name)

-- the names whose fetches failed, once for each time
abbrev pub failed_of : MemShelf → List (List ℕ)
failed_of shelf = shelf.failed.items

-- the calls made, and which of them are to fail
abbrev pub plan_of : MemShelf → Plan
plan_of shelf = shelf.plan

-- what each fetch asked for, in order
abbrev pub requests_of : MemShelf → List Request
requests_of shelf = shelf.requests.items

-- these files, with these bytes under that name
abbrev pub with_file : Files → List ℕ → List ℕ → Files
with_file files name bytes other = if bytes_eq name other then Some bytes else files other

-- the same names have failed, the same calls are to fail, and the same were made
pub record SameCalls (old new : MemShelf) : Type 0 where
  pub failed : failed_of new ≡ failed_of old
  pub plan : plan_of new ≡ plan_of old
  pub requests : requests_of new ≡ requests_of old
