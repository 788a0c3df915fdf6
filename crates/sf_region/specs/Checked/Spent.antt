-- The view of a seat that was joined to another: it lives no more, and stands for nothing.
-- Ordinary: no cells, no variables, an empty program.
use Rattle.std.specs.Prelude.{◌≡◌, ℕ, ◌<◌, ◌≤◌, ◌^◌, true, false, [], None}
use Rattle.std.specs.BTreeMap.{BTreeMap}
use Rattle.std.specs.declared.alloc.Global.{Global}
use Rattle.std.specs.declared.cmp.Ordering.TheVariants.{Equal}
use Rattle.std.specs.declared.collections.btree_map.BTreeMap.TheView.{view}
use Rattle.std.specs.declared.vec.Vec.{Vec}
use Rattle.std.specs.FinMap as map
use Rattle.std.proofs.Common.{refl, sym, arith, true≢false}
use Rattle.sf_base.proofs.Elements.{contains-nil}
use Rattle.std.proofs.lemmas.Option.{none-some}
use base.Fml.{ftrue}
use denote.RawPtr.{null_ptr}
use Rattle.sf_core.specs.declared.program.Program.{Program}
use Rattle.sf_core.specs.Program.Formed.{IsFormed}
use Rattle.sf_core.specs.Program.Init.{IsInitAmong}
use Rattle.sf_core.specs.Program.Links.{AreLinks}
use Rattle.sf_core.specs.Program.View.{program_with}
use Rattle.sf_frame.specs.Checked.Spots.{KeysFit}
use Rattle.sf_frame.specs.declared.shared.Shared.{Shared}
use Rattle.sf_part.specs.Checked.KeepsIsProp.{AreOwn}
use Rattle.sf_part.specs.declared.part.Part.{Part}
use Rattle.sf_part.specs.declared.stand.Stand.TheVariants.{Over}
use Rattle.sf_part.specs.Keeps.{Keeps}
use Rattle.sf_part.specs.Parts.{part_with}
use Rattle.sf_region.specs.declared.views.View.{View}

-- where memory comes from
abbrev global : Global
global = record { memory = record { seal = tt } }

-- nothing takes no room
pub none_is : (◌≡◌ {A = ℕ} 0 0) × (0 ≤ 0)
none_is = (refl, (omega arith))

-- and nothing fits
pub none_fits : 0 < 2 ^ 63
none_fits = omega arith

-- an empty vector
abbrev no_vec : {T : Type 0} → Vec T Global
no_vec = record {
  ptr = null_ptr;
  len = 0;
  cap = 0;
  alloc = global;
  items = [];
  ok = none_is;
  small = none_fits;
}

-- an empty map, whatever its keys and their order
abbrev no_map : {K X : Type 0} → BTreeMap K X
no_map {K} {X} = view K X Global (record { cmp = λ x y. Equal }) (record { eq = λ x y. true })
    (record { partial_cmp = λ x y. None }) (record { dealloc_token = λ a b c. ftrue })
    (record { tree = record { root = None; len = 0; alloc = global } })

-- the indices of no slots fit
pub all_fit : KeysFit no_map
all_fit e i h = absurd (true≢false (sym h))

-- what tasks share, where there is nothing
abbrev no_shared : Shared
no_shared = record {
  heap = map.empty;
  store = record { values = no_map; fit = all_fit };
  held = no_map;
  alloc = global;
}

-- what a part of nothing keeps
pub no_kept : Keeps (part_with [] Over no_shared [] 0 false [] 0)
no_kept = record {
  once = λ number. omega arith;
  unmade = λ number h. absurd (contains-nil number h);
  waiting = λ h. absurd h;
  time = record { logged = tt; within = omega arith; unlogged = λ _. refl };
}

-- it holds nothing
pub no_own : AreOwn no_map []
no_own r holder e = absurd (none-some holder e)

-- the part of a task without frames
abbrev nobody : Part
nobody = record {
  task = [];
  stand = Over;
  shared = no_shared;
  supply = [];
  clock = 0;
  keeps = false;
  log = no_vec;
  given = 0;
  blank = [];
  kept = no_kept;
  own = no_own;
}

-- nothing is well-formed
pub no_formed : IsFormed (program_with [] [] [])
no_formed = record {
  procedures = λ k f e. absurd (none-some f e);
  resources = λ k r e. absurd (none-some r e);
  procedure_count = omega arith;
  resource_count = omega arith;
  field_count = omega arith;
  variables = omega arith;
  one_init = λ j k f g e h i l. absurd (none-some f e);
}

-- it has no links
pub no_links : AreLinks [] (record { tl = None; pv = None; l = None; r = None })
no_links = record {
  next = λ k e. none-some _ e;
  back = λ k e. none-some _ e;
  left = λ k e. none-some _ e;
  right = λ k e. none-some _ e;
}

-- and no procedure that sets resources up
pub no_init : IsInitAmong [] None
no_init k e = none-some _ e

-- a program without procedures
abbrev no_program : Program
no_program = record {
  fields = no_vec;
  resources = no_vec;
  procedures = no_vec;
  links = record { tl = None; pv = None; l = None; r = None };
  init = None;
  formed = no_formed;
  linked = no_links;
  set_up = no_init;
}

-- the view
abbrev pub spent_view : View
spent_view = record {
  live = false;
  hand = None;
  part = nobody;
  kids = [];
  missed = record { 0 = 0 };
  misses = 0;
  begun = record { program = no_program; part = nobody; contents = [] };
}
