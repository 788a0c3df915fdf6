-- Which existentials a scope makes: those of its numbers; and whether two scopes make one existential both.
-- The usual scope of a quantifier, over numbers in place of names.
use Rattle.std.specs.Prelude.{ℕ, ◌+◌, Bool, ◌&&◌, nat_le, nat_lt, max, min}
use Rattle.sf_core.specs.declared.assertion.Scope.{Scope}

-- the existential is made by that scope
abbrev pub is_made_by : Scope → ℕ → Bool
is_made_by made n = nat_le made.first n && nat_lt n (made.first + made.count)

-- an existential is made by both scopes: the later beginning is before the earlier end
abbrev pub overlap : Scope → Scope → Bool
overlap s t = nat_lt (max s.first t.first) (min (s.first + s.count) (t.first + t.count))
