-- What the machine may do at one token, and the verdict then.
use Rattle.std.proofs.Common.{◌≡◌, ℕ, suc, List, ◌∷◌, length, Bool, true, false, refl}
use Rattle.sf_parse.specs.Leaf.{Leaf}
use Rattle.sf_parse.specs.Checked.Machine.{Predicted, Next, goes, bad, is_free, step, unexpected, too_deep, verdict}

-- the three things that the machine may do at a token with so many left, where n are free
pub data Happens (n left : ℕ) (st : List Predicted) (t : Leaf) : Type 0 where
  takes : (s : Predicted) (st2 : List Predicted) → step st t ≡ goes s st2 → is_free s n left ≡ true → Happens n left st t
  exceeds : (s : Predicted) (st2 : List Predicted) → step st t ≡ goes s st2 → is_free s n left ≡ false → Happens n left st t
  refuses : step st t ≡ bad → Happens n left st t

by_level : (n left : ℕ) (st : List Predicted) (t : Leaf) (s : Predicted) (st2 : List Predicted) → step st t ≡ goes s st2 → (b : Bool) → is_free s n left ≡ b → Happens n left st t
by_level n left st t s st2 e true h = takes s st2 e h
by_level n left st t s st2 e false h = exceeds s st2 e h

pub happens : (n left : ℕ) (st : List Predicted) (t : Leaf) → Happens n left st t
happens n left st t = go (step st t) refl
  where
    go : (x : Next) → step st t ≡ x → Happens n left st t
    go (goes s st2) e = by_level n left st t s st2 e (is_free s n left) refl
    go bad e = refuses e

-- and the verdict then
pub on_takes : (n : ℕ) (ts : List Leaf) (st st2 : List Predicted) (t : Leaf) (s : Predicted) → step st t ≡ goes s st2 → is_free s n (suc (length ts)) ≡ true → verdict n (t ∷ ts) st ≡ verdict n ts st2
on_takes n ts st st2 t s e h = rw (e, h) refl

pub on_exceeds : (n : ℕ) (ts : List Leaf) (st st2 : List Predicted) (t : Leaf) (s : Predicted) → step st t ≡ goes s st2 → is_free s n (suc (length ts)) ≡ false → verdict n (t ∷ ts) st ≡ too_deep (suc (length ts))
on_exceeds n ts st st2 t s e h = rw (e, h) refl

pub on_refuses : (n : ℕ) (ts : List Leaf) (st : List Predicted) (t : Leaf) → step st t ≡ bad → verdict n (t ∷ ts) st ≡ unexpected (suc (length ts))
on_refuses n ts st t e = rw e refl
