-- Where the machine stops, the tokens before can go on, and with the next one they can't.
use Rattle.std.proofs.Common.{◌≡◌, ◌≤◌, ◌<◌, ℕ, suc, List, [], ◌∷◌, ◌++◌, length, Bool, true, false, ◌⊎◌, inl, inr, sym, ap, ◌∙◌, arith, length-append}
use Rattle.sf_parse.specs.Leaf.{Leaf}
use Rattle.sf_parse.specs.Checked.Machine.{Predicted, levels_of, Verdict, accepted, unexpected, too_deep, at_end, may_end, verdict}
use Rattle.sf_parse.proofs.Machine.Complete.{completion}
use Rattle.sf_parse.proofs.Machine.HasLevel.{level_frees, level_over, level_in}
use Rattle.sf_parse.proofs.Machine.Happens.{Happens, takes, exceeds, refuses, happens, on_takes, on_exceeds, on_refuses}
use Rattle.sf_parse.proofs.Machine.Means.{Means}
use Rattle.sf_parse.proofs.Machine.OwedBack.{step_back, next_means}

-- what is wrong, with so many tokens left
abbrev pub fault_of : Bool → ℕ → Verdict
fault_of true i = unexpected i
fault_of false i = too_deep i

not_fault : (b c : Bool) (i l : ℕ) → i < l → fault_of b l ≡ fault_of c i → ⊥
not_fault true true i l h e = let f : l ≡ i = cc in omega arith
not_fault false false i l h e = let f : l ≡ i = cc in omega arith
not_fault _ _ i l h e = cc

at_end_fault : (c b : Bool) (i : ℕ) → at_end c ≡ fault_of b i → i ≡ 0
at_end_fault true true i e = absurd cc
at_end_fault true false i e = absurd cc
at_end_fault false true i e = cc
at_end_fault false false i e = absurd cc

fault_at : (b c : Bool) (i l : ℕ) → fault_of b l ≡ fault_of c i → i ≡ l
fault_at true true i l e = cc
fault_at false false i l e = cc
fault_at _ _ i l e = absurd cc

pub fault_le : (ts : List Leaf) (st : List Predicted) (b : Bool) (i : ℕ) → verdict 0 ts st ≡ fault_of b i → i ≤ length ts
fault_le [] st b i e = let h = at_end_fault (may_end st) b i e in omega arith
fault_le (t ∷ ts) st b i e = go (happens 0 (suc (length ts)) st t) (fault_le ts)
  where
    go : Happens 0 (suc (length ts)) st t → ((st : List Predicted) (b : Bool) (i : ℕ) → verdict 0 ts st ≡ fault_of b i → i ≤ length ts) → i ≤ suc (length ts)
    go (takes s st2 is h) more = let q = more st2 b i (sym (on_takes 0 ts st st2 t s is h) ∙ e) in omega arith
    go (exceeds s st2 is h) more = let q = fault_at false b i (suc (length ts)) (sym (on_exceeds 0 ts st st2 t s is h) ∙ e) in omega arith
    go (refuses is) more = let q = fault_at true b i (suc (length ts)) (sym (on_refuses 0 ts st t is) ∙ e) in omega arith

-- some tokens complete this front
abbrev pub GoesOn : List Predicted → List Leaf → Type 0
GoesOn st front = (other : List Leaf) × ((n : ℕ) → length other ≤ n → Means n st (front ++ other))

long : (front back : List Leaf) → length back < suc (length (front ++ back))
long front back = omega (arith, length-append front back)

-- the front can go on
pub viable : (front back : List Leaf) (st : List Predicted) (b : Bool) → verdict 0 (front ++ back) st ≡ fault_of b (length back) → GoesOn st front
viable [] back st b e = let c = completion st in (c.tokens, λ n h. c.means n h)
viable (t ∷ front) back st b e = go (happens 0 (suc (length (front ++ back))) st t) (λ st2 h. viable front back st2 b h)
  where
    go : Happens 0 (suc (length (front ++ back))) st t → ((st2 : List Predicted) → verdict 0 (front ++ back) st2 ≡ fault_of b (length back) → GoesOn st2 front) → GoesOn st (t ∷ front)
    go (takes s st2 is f) more =
        let q = more st2 (sym (on_takes 0 (front ++ back) st st2 t s is f) ∙ e) in
        (q.0, λ n h. step_back n st t (front ++ q.0) (next_means n st t (front ++ q.0) s st2 is (level_frees n (length (front ++ back)) (suc (length (front ++ q.0))) (levels_of s) f) (q.1 n h)))
    go (exceeds s st2 is f) more = absurd (not_fault false b (length back) (suc (length (front ++ back))) (long front back) (sym (on_exceeds 0 (front ++ back) st st2 t s is f) ∙ e))
    go (refuses is) more = absurd (not_fault true b (length back) (suc (length (front ++ back))) (long front back) (sym (on_refuses 0 (front ++ back) st t is) ∙ e))

-- with the next token it can't, where that token is held to the limit
stuck_here : (t : Leaf) (back other : List Leaf) (st : List Predicted) (b : Bool) (n : ℕ) → (b ≡ true) ⊎ (n < suc (length other)) → verdict 0 (t ∷ back) st ≡ fault_of b (suc (length back)) → verdict n (t ∷ other) st ≡ accepted → ⊥
stuck_here t back other st b n z e h = go (happens 0 (suc (length back)) st t) z
  where
    go : Happens 0 (suc (length back)) st t → (b ≡ true) ⊎ (n < suc (length other)) → ⊥
    go (takes s st2 is f) z = let q = fault_le back st2 b (suc (length back)) (sym (on_takes 0 back st st2 t s is f) ∙ e) in omega arith
    go (exceeds s st2 is f) (inl z) =
        let g : too_deep (suc (length back)) ≡ unexpected (suc (length back)) = sym (on_exceeds 0 back st st2 t s is f) ∙ e ∙ ap (λ (c : Bool). fault_of c (suc (length back))) z in cc
    go (exceeds s st2 is f) (inr z) = let g : too_deep (suc (length other)) ≡ accepted = sym (on_exceeds n other st st2 t s is (level_over n (length back) (suc (length other)) (levels_of s) f z)) ∙ h in cc
    go (refuses is) z = let g : unexpected (suc (length other)) ≡ accepted = sym (on_refuses n other st t is) ∙ h in cc

pub stuck : (front : List Leaf) (t : Leaf) (back other : List Leaf) (st : List Predicted) (b : Bool) (n : ℕ) → (b ≡ true) ⊎ (n < suc (length other))
    → verdict 0 (front ++ t ∷ back) st ≡ fault_of b (suc (length back)) → verdict n (front ++ t ∷ other) st ≡ accepted → ⊥
stuck [] t back other st b n z e h = stuck_here t back other st b n z e h
stuck (t0 ∷ front) t back other st b n z e h = go (happens 0 (suc (length (front ++ t ∷ back))) st t0) (λ st2 e2 h2. stuck front t back other st2 b n z e2 h2)
  where
    go : Happens 0 (suc (length (front ++ t ∷ back))) st t0 → ((st2 : List Predicted) → verdict 0 (front ++ t ∷ back) st2 ≡ fault_of b (suc (length back)) → verdict n (front ++ t ∷ other) st2 ≡ accepted → ⊥) → ⊥
    go (takes s st2 is f) more =
        let free = level_frees n (length (front ++ t ∷ back)) (suc (length (front ++ t ∷ other))) (levels_of s) f in
        more st2 (sym (on_takes 0 (front ++ t ∷ back) st st2 t0 s is f) ∙ e) (sym (on_takes n (front ++ t ∷ other) st st2 t0 s is free) ∙ h)
    go (exceeds s st2 is f) more = not_fault false b (suc (length back)) (suc (length (front ++ t ∷ back))) (long front (t ∷ back)) (sym (on_exceeds 0 (front ++ t ∷ back) st st2 t0 s is f) ∙ e)
    go (refuses is) more = not_fault true b (suc (length back)) (suc (length (front ++ t ∷ back))) (long front (t ∷ back)) (sym (on_refuses 0 (front ++ t ∷ back) st t0 is) ∙ e)

-- some tokens complete this front and the next token, where depth is free from that token on
abbrev GoesDeeper : List Predicted → List Leaf → Leaf → Type 0
GoesDeeper st front t = (other : List Leaf) × ((n : ℕ) → suc (length other) ≤ n → Means n st (front ++ t ∷ other))

-- a token that is only too deep goes on there
deep_here : (t : Leaf) (back : List Leaf) (st : List Predicted) → verdict 0 (t ∷ back) st ≡ too_deep (suc (length back)) → GoesDeeper st [] t
deep_here t back st e = go (happens 0 (suc (length back)) st t)
  where
    go : Happens 0 (suc (length back)) st t → GoesDeeper st [] t
    go (takes s st2 is f) = let q = fault_le back st2 false (suc (length back)) (sym (on_takes 0 back st st2 t s is f) ∙ e) in absurd (omega arith)
    go (exceeds s st2 is f) =
        let c = completion st2 in
        (c.tokens, λ n h. step_back n st t c.tokens (next_means n st t c.tokens s st2 is (level_in n (suc (length c.tokens)) (levels_of s) h) (c.means n (omega arith))))
    go (refuses is) = let g : unexpected (suc (length back)) ≡ too_deep (suc (length back)) = sym (on_refuses 0 back st t is) ∙ e in absurd cc

pub deep_any : (front : List Leaf) (t : Leaf) (back : List Leaf) (st : List Predicted) → verdict 0 (front ++ t ∷ back) st ≡ too_deep (suc (length back)) → GoesDeeper st front t
deep_any [] t back st e = deep_here t back st e
deep_any (t0 ∷ front) t back st e = go (happens 0 (suc (length (front ++ t ∷ back))) st t0) (λ st2 h. deep_any front t back st2 h)
  where
    go : Happens 0 (suc (length (front ++ t ∷ back))) st t0 → ((st2 : List Predicted) → verdict 0 (front ++ t ∷ back) st2 ≡ too_deep (suc (length back)) → GoesDeeper st2 front t) → GoesDeeper st (t0 ∷ front) t
    go (takes s st2 is f) more =
        let q = more st2 (sym (on_takes 0 (front ++ t ∷ back) st st2 t0 s is f) ∙ e) in
        (q.0, λ n h. step_back n st t0 (front ++ t ∷ q.0) (next_means n st t0 (front ++ t ∷ q.0) s st2 is (level_frees n (length (front ++ t ∷ back)) (suc (length (front ++ t ∷ q.0))) (levels_of s) f) (q.1 n h)))
    go (exceeds s st2 is f) more = absurd (not_fault false false (suc (length back)) (suc (length (front ++ t ∷ back))) (long front (t ∷ back)) (sym (on_exceeds 0 (front ++ t ∷ back) st st2 t0 s is f) ∙ e))
    go (refuses is) more = absurd (not_fault true false (suc (length back)) (suc (length (front ++ t ∷ back))) (long front (t ∷ back)) (sym (on_refuses 0 (front ++ t ∷ back) st t0 is) ∙ e))
