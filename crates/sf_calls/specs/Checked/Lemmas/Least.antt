-- What the least sets contain: only what is there, and no more than any closed family.
use Rattle.std.proofs.Common.{◌≡◌, ◌<◌, ℕ, IsTrue, List, [], length, Option, Some, None, slice_get, inl, inr, refl, arith}
use Rattle.std.proofs.lemmas.Option.{slice_get_within}
use Rattle.sf_base.specs.declared.ids.ProcId.{ProcId}
use Rattle.sf_base.specs.declared.ids.ResId.{ResId}
use Rattle.sf_base.specs.declared.ids.Var.{Var}
use Rattle.sf_base.specs.declared.ids.Var.TheVariants.{Own, Shared}
use Rattle.sf_core.specs.Program.Formed.{IsFormed, IsParameter, variable_count}
use Rattle.sf_core.specs.Machine.HasThroughout.{HasThroughout}
use Rattle.sf_core.specs.Program.Syntax.{Program, Resource}
use Rattle.sf_calls.specs.Conditions.{Calls, Mentions, Enters, Takes, FreeIn, Free}
use Rattle.sf_calls.specs.Checked.Laws.{TakesIsLeast, FreeIsLeast}
use Rattle.sf_calls.specs.Reaches.{Reaches, directly, through}
use Rattle.sf_calls.specs.Outside.{owner}
use Rattle.sf_calls.specs.Checked.Gathers.{IsUpTo}
use Rattle.sf_calls.specs.Checked.Lemmas.Rows.{reaches_within}
use Rattle.sf_calls.specs.Checked.Lemmas.Within.{entered_within, level_within, block_within}

-- what is taken is there
pub takes_within : (p : Program) → IsFormed p → (f : ProcId) (r : ResId) → Takes p f r
    → r.0 < length p.resources
takes_within p formed f r t = reaches_within (Enters p r) (Calls p None) (r.0 < length p.resources) here f t
  where
    here : (g : ProcId) → Enters p r g → r.0 < length p.resources
    here g e = entered_within p e.0 r e.0.body (formed.procedures g.0 e.0 e.1).body e.2

there : (rs : List Resource) (k i : ℕ) → i < variable_count (slice_get rs k) → k < length rs
there rs k i h = go (slice_get rs k) refl h
  where
    go : (o : Option Resource) → slice_get rs k ≡ o → i < variable_count o → k < length rs
    go None e h = absurd (omega (arith, h))
    go (Some r) e h = slice_get_within rs k r e

-- what is held is there
pub holds_within : (p : Program) → IsFormed p → (f : ProcId) (r : ResId) → HasThroughout p f r
    → r.0 < length p.resources
holds_within p formed f r (inr s) = s.1
holds_within p formed f r (inl b) =
    let w = formed.procedures f.0 b.procedure b.there in
    there p.resources r.0 b.variable (elim b.occurs [
      | inl x ↦
          level_within p.fields (IsParameter p b.procedure) [] (Shared r b.variable) b.procedure.pre.level
          w.pre.annotation.within x
      | inr x ↦
          level_within p.fields (IsParameter p b.procedure) [] (Shared r b.variable) b.procedure.post.level
          w.post.annotation.within x
    ])

-- a mentioned variable is the resource's
mentioned : (p : Program) → IsFormed p → (r : ResId) (i : ℕ) (g : ProcId) → Mentions p (Shared r i) g
    → i < variable_count (slice_get p.resources r.0)
mentioned p formed r i g (h, at, inl x) =
    level_within p.fields (IsParameter p h) [] (Shared r i) h.pre.level
    (formed.procedures g.0 h at).pre.annotation.within x
mentioned p formed r i g (h, at, inr (inl x)) =
    level_within p.fields (IsParameter p h) [] (Shared r i) h.post.level
    (formed.procedures g.0 h at).post.annotation.within x
mentioned p formed r i g (h, at, inr (inr x)) =
    block_within p h (Shared r i) h.body (formed.procedures g.0 h at).body x

-- what is free is there
pub free_apart : (p : Program) → IsFormed p → (f : ProcId) (x : Var) → Free p f x
    → IsUpTo (λ k. variable_count (slice_get p.resources k)) (length p.resources) 0 x × FreeIn p f x
free_apart p formed f (Own n) h = absurd h.0
free_apart p formed f (Shared r i) h =
    let below = reaches_within (Mentions p (Shared r i)) (Calls p (Some r))
    (i < variable_count (slice_get p.resources r.0)) (mentioned p formed r i) f h.1 in
    (inl (there p.resources r.0 i below, below), h.1)

-- and every variable that is there is shared
pub free_both : (p : Program) (f : ProcId) (x : Var)
    → IsUpTo (λ k. variable_count (slice_get p.resources k)) (length p.resources) 0 x → FreeIn p f x
    → Free p f x
free_both p f (Own n) h l = absurd h
free_both p f (Shared r i) h l = (tt, l)

-- the set of one resource, or variable, is contained in what its rules keep
pub reaches_least : {A : Type 0} (D : A → Type 0) (E : A → A → Type 0) (T : A → Type 0)
    → ((a : A) → D a → T a) → ((a b : A) → E a b → T b → T a) → (a : A) → Reaches D E a → T a
reaches_least D E T d e a (directly h) = d a h
reaches_least D E T d e a (through b s h) = e a b s (reaches_least D E T d e b h)

pub takes_least : TakesIsLeast
takes_least = record {
  closed = λ p. record { enters = λ f r h. directly h; calls = λ f g r s t. through g s t };
  least =
      λ p T c f r t. reaches_least (Enters p r) (Calls p None) (λ g. IsTrue (T g r)) (λ g h. c.enters g r h)
      (λ g h s t. c.calls g h r s t) f t;
}

pub free_least : FreeIsLeast
free_least = record {
  closed = λ p. record { mentions = λ f x s h. (s, directly h); calls = λ f g x s c t. (s, through g c t.1) };
  least =
      λ p T c f x t. reaches_least (Mentions p x) (Calls p (owner x)) (λ g. IsTrue (T g x))
      (λ g h. c.mentions g x t.0 h) (λ g h s r. c.calls g h x t.0 s r) f t.1;
}
