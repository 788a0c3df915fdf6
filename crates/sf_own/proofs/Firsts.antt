-- The part with which a procedure starts is safe.
-- Names: `first-LAW`; the lemma of the law has the name of its function.
use Rattle.std.specs.Prelude.{◌≡◌, ◌<◌, ◌≤◌, ◌+◌, ℕ, suc, Bool, true, false, cond, ltb, length, List, [], ◌∷◌, map, Option, Some, None}
use Rattle.std.specs.List.{AllByRecursion}
use Rattle.std.proofs.Common.{true≢false, sym, ap, ◌∙◌, refl, subst, arith}
use Rattle.std.proofs.lemmas.Bool.Decides.{nat_tests}
use Rattle.sf_base.proofs.MapSplits.{map-same, splits-lacks_both, splits-lacks_left, splits-of_empty_right}
use Rattle.sf_base.specs.declared.ids.ProcId.{ProcId}
use Rattle.sf_base.specs.declared.ids.ResId.{ResId}
use Rattle.sf_base.specs.HeapStore.{Heap, Store}
use Rattle.sf_core.specs.Machine.Config.{Config, Frame}
use Rattle.sf_core.specs.Machine.Start.{Beginning, Start, first_frames, first_holders, fresh, initial_config, settled}
use Rattle.sf_core.specs.Machine.Whole.{Content, IsUnion}
use Rattle.sf_core.specs.Program.Syntax.{Procedure, Program, Resource}
use Rattle.sf_own.proofs.Handing.{IsRest, hand-rest, hand-token, hand-union}
use Rattle.sf_own.proofs.Unions.{tokens-none}
use Rattle.sf_own.proofs.Worlds.{less-is}
use Rattle.sf_own.specs.Checked.Accepted.{IsAccepted}
use Rattle.sf_own.specs.Checked.Laws.{FirstPartsAreSafe}
use Rattle.sf_own.specs.Checked.Safe.{HoldsWithin, IsSafe, own_of}
use Rattle.sf_part.specs.Checked.LawsOfGiving.{GivenContentsAreOne}
use Rattle.sf_part.specs.First.{First, first_count, first_holds}
use Rattle.sf_part.specs.Given.{IsContentOf}
use Rattle.sf_part.specs.Timed.{TimedContent, TimedPart, contents_of}
use Rattle.sf_safe.specs.Checked.Contract.{Known}
use Rattle.sf_safe.specs.Checked.Invariant.{IsOwned, Resources, Running, ShareOf}
use Rattle.sf_safe.specs.Checked.LawsOfShares.{ReachedIsOwned, entry_of}
use Rattle.sf_safe.specs.Checked.Own.{Own, Parts, everything, nothing}
use Rattle.sf_safe.specs.Checked.Owns.{own-same, parts-of_nothing}

is-less : (i n : ℕ) → ltb i n ≡ true → i < n
is-less i n e = grind (arith, nat_tests)

zero-least : (n : ℕ) → 0 ≤ n
zero-least n = omega arith

zero-plus : (n : ℕ) → n ≡ 0 + n
zero-plus n = omega arith

none-left : (contents : List TimedContent) → length contents ≡ 0 → contents ≡ []
none-left [] e = refl
none-left (k ∷ contents) e = absurd (omega (arith, e))

-- where the entry's task holds all resources none has a share
fresh-none : (p : Program) (n : ProcId) (h : Procedure) (m : ℕ) (rs : List Resource) (w : Own)
    → m + length rs ≡ length p.resources
    → Resources p (first_holders (fresh n h) p) m rs w → w ≡ nothing
fresh-none p n h m [] w e s = s
fresh-none p n h m (q ∷ rs) w e s =
    let right = fresh-none p n h (suc m) rs s.right (omega (arith, e)) s.second in
    let here : s.left ≡ nothing =
    subst (λ b. ShareOf p (cond b (Some []) None) (record { 0 = m }) s.left)
    (less-is m (length p.resources) (omega (arith, e))) s.first in
    parts-of_nothing (subst (λ z. Parts w s.left z) right s.parts) ∙ here

module _ (p : Program) (accepted : IsAccepted p) (given : GivenContentsAreOne)
    (reached : ReachedIsOwned) (f : ProcId) (store : Store) (heap : Heap) (c : Config)
    (base count : ℕ) (a : TimedPart) (contents : List TimedContent) (s : Start p f store heap c)
    (first : First p f s.procedure s.beginning store heap base count a contents)
    (exactly : AllByRecursion (λ (k : TimedContent). IsContentOf p k.content) contents) where
  abbrev entry : Known
  entry = entry_of f s.procedure store

  begun : (n : ℕ) → IsOwned p n entry (initial_config s.beginning p f s.procedure store heap)
  unfolding ReachedIsOwned
  begun n = subst (IsOwned p n entry) s.is
      (reached p accepted.formed accepted.conditions accepted.bodies f store heap c c [] s refl n)

  abbrev frames : List Frame
  frames = first_frames s.beginning f s.procedure

  within : (b : Beginning) → s.beginning ≡ b → HoldsWithin p a.part
  within settled i r e = absurd (true≢false (sym e
      ∙ ap (λ h. h r) (first.holds ∙ ap (λ z. first_holds z p) i)))
  within (fresh n h) i r e = is-less r.0 (length p.resources)
      (sym (ap (λ z. z r) (first.holds ∙ ap (λ z. first_holds z p) i)) ∙ e)

  -- what the part has is the share of its task
  module _ (n : ℕ) where
    abbrev o : IsOwned p n entry (initial_config s.beginning p f s.procedure store heap)
    o = begun n

    abbrev mine : Own
    mine = o.tasks

    -- settled: the contents are the shares of the resources
    settled-free : s.beginning ≡ settled → Resources p (λ r. None) 0 p.resources o.free
    settled-free i = subst (λ b. Resources p (first_holders b p) 0 p.resources o.free) i o.resources

    settled-rest : s.beginning ≡ settled
        → IsRest (record a.part { heap = heap; store = store }) a.part mine.cells mine.slots
    settled-rest i = hand-rest p accepted given 0 p.resources contents
        (record a.part { heap = heap; store = store }) a.part o.free mine.cells mine.slots
        first.in_order (first.each ∙ ap (λ b. first_count b p) i)
        (hand-union a.part contents heap first.heap_is.0 store first.store_is.0 first.heap_is.1
        first.store_is.1 first.heap_is.2 first.store_is.2)
        exactly (settled-free i) (record { cells = o.parts.cells; slots = o.parts.slots })

    settled-tokens : s.beginning ≡ settled → mine.tokens ≡ (λ r. None)
    settled-tokens i = map-same mine.tokens (λ r. None)
        (λ r. go r (ltb r.0 (length p.resources)) refl)
      where
        go : (r : ResId) (b : Bool) → ltb r.0 (length p.resources) ≡ b → mine.tokens r ≡ None
        go r true j = splits-lacks_left r tt o.parts.tokens
            (hand-token p 0 p.resources o.free r (settled-free i) (zero-least r.0)
            (subst (λ m. r.0 < m) (zero-plus (length p.resources))
            (is-less r.0 (length p.resources) j)))
        go r false j = (splits-lacks_both r o.parts.tokens
            (ap (λ b. cond {A = Option (Unit {0})} b (Some tt) None) j)).0

    settled-is : s.beginning ≡ settled → mine ≡ own_of a.part
    settled-is i =
        let rest = settled-rest i in
        own-same mine (own_of a.part) (sym rest.cells) (sym rest.slots)
        (settled-tokens i
        ∙ sym (tokens-none a.part (first.holds ∙ ap (λ b. first_holds b p) i)))

    -- fresh: the part has everything
    fresh-is : (m : ProcId) (h : Procedure) → s.beginning ≡ fresh m h → mine ≡ own_of a.part
    fresh-is m h i =
        let none = none-left contents (first.each ∙ ap (λ b. first_count b p) i) in
        let free = fresh-none p m h 0 p.resources o.free (sym (zero-plus (length p.resources)))
        (subst (λ b. Resources p (first_holders b p) 0 p.resources o.free) i o.resources) in
        let begins = initial_config s.beginning p f s.procedure store heap in
        let all = parts-of_nothing
        (subst (Parts (everything p begins.common) mine) free o.parts) in
        let heaps = splits-of_empty_right
        (subst (λ (ks : List TimedContent). IsUnion first.heap_is.0
        (map (λ (k : Content). k.heap) (contents_of ks))) none first.heap_is.2) first.heap_is.1 in
        let stores = splits-of_empty_right
        (subst (λ (ks : List TimedContent). IsUnion first.store_is.0
        (map (λ (k : Content). k.store) (contents_of ks))) none first.store_is.2)
        first.store_is.1 in
        own-same mine (own_of a.part) (sym (ap (λ z. z.cells) all) ∙ heaps)
        (sym (ap (λ z. z.slots) all) ∙ stores)
        (sym (ap (λ z. z.tokens) all)
        ∙ ap (λ (h : ResId → Bool). λ r. cond {A = Option (Unit {0})} (h r) (Some tt) None)
        (sym (first.holds ∙ ap (λ b. first_holds b p) i)))

    first-share : (b : Beginning) → s.beginning ≡ b → mine ≡ own_of a.part
    first-share settled i = settled-is i
    first-share (fresh m h) i = fresh-is m h i

    first-running : Running p n entry frames (own_of a.part)
    first-running = subst (Running p n entry frames) (first-share s.beginning refl) o.tree

  pub first-safe : IsSafe p entry a.part
  first-safe = record {
    within = within s.beginning refl;
    frames = frames;
    runs = first.stand;
    safe = first-running;
  }

pub first_parts_are_safe : GivenContentsAreOne → ReachedIsOwned → FirstPartsAreSafe
unfolding FirstPartsAreSafe
first_parts_are_safe given reached p accepted f store heap c base count a contents s first exactly =
    first-safe p accepted given reached f store heap c base count a contents s first exactly
