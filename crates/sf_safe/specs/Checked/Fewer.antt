-- What is safe for more events is so for fewer: frames, the callers below them, and those that wait at a fork.
-- Step-indexed safety: Vafeiadis, "Concurrent Separation Logic and Operational Semantics" (2011).
use Rattle.std.specs.Prelude.{ℕ, zero, suc, List, [], ◌∷◌, ◌++◌}
use Rattle.sf_core.specs.Machine.Config.{Item, command, leave, items, Frame}
use Rattle.sf_core.specs.Program.Syntax.{assign, look_up, mutate, new, dispose, if, while, call, fork, with, Program}
use Rattle.sf_safe.specs.Checked.Own.{Own}
use Rattle.sf_safe.specs.Checked.Contract.{Known}
use Rattle.sf_safe.specs.Checked.Safe.{Safe}
use Rattle.sf_safe.specs.Checked.Invariant.{known, Callers, Running, Waiting}

module _ (p : Program) where
  -- a frame that is safe for more events is so for fewer
  pub fewer : (n : ℕ) (k : Known) (todo : List Item) (w : Own) → Safe p (suc n) k todo w → Safe p n k todo w
  fewer zero k todo w s = tt
  fewer (suc n) k [] w s = s
  fewer (suc n) k (command (assign place x e) ∷ rest) w s = (s.0, s.1, fewer n k rest _ s.2)
  fewer (suc n) k (command (look_up place x e field) ∷ rest) w s = (s.0, s.1, fewer n k rest _ s.2)
  fewer (suc n) k (command (mutate place e field v) ∷ rest) w s = (s.0, s.1, fewer n k rest _ s.2)
  fewer (suc n) k (command (new place x) ∷ rest) w s = (s.0, λ a c i e. fewer n k rest _ (s.1 a c i e))
  fewer (suc n) k (command (dispose place e) ∷ rest) w s = (s.0, fewer n k rest _ s.1)
  fewer (suc n) k (command (if place test this that) ∷ rest) w s = record {
    reads = s.reads;
    this = λ t. fewer n k (items this ++ rest) w (s.this t);
    that = λ t. fewer n k (items that ++ rest) w (s.that t);
  }
  fewer (suc n) k (command (while place test kept body) ∷ rest) w s = record {
    reads = s.reads;
    this = λ t. fewer n k (items body ++ (command (while place test kept body) ∷ rest)) w (s.this t);
    that = λ t. fewer n k rest w (s.that t);
  }
  fewer (suc n) k (command (call place c) ∷ rest) w s = (
    s.0,
    λ g i. let a = s.1 g i in record {
      given = a.given;
      kept = a.kept;
      parts = a.parts;
      enters = a.enters;
      goes_on = λ event back after e q. fewer n k rest after (a.goes_on event back after e q);
    },
  )
  fewer (suc n) k (command (fork place c d) ∷ rest) w s = (
    s.0,
    s.1,
    λ g h i j. let a = s.2 g h i j in record {
      given = a.given;
      left = a.left;
      right = a.right;
      kept = a.kept;
      parts = a.parts;
      apart = a.apart;
      enters_left = a.enters_left;
      enters_right = a.enters_right;
      goes_on = λ event one two back after x y q r.
          fewer n k rest after (a.goes_on event one two back after x y q r);
    },
  )
  fewer (suc n) k (command (with place r test body) ∷ rest) w s = record {
    there = s.there;
    reads = s.reads;
    goes_on = λ share both f q t. fewer n k _ both (s.goes_on share both f q t);
  }
  fewer (suc n) k (leave r ∷ rest) w s = record {
    share = s.share;
    kept = s.kept;
    parts = s.parts;
    free = s.free;
    goes_on = fewer n k rest s.kept s.goes_on;
  }

  pub fewer-callers : (n : ℕ) (k : Known) (below : List Frame) (owed : Known) (w : Own)
      → Callers p (suc n) k below owed w → Callers p n k below owed w
  fewer-callers n k [] owed w s = s
  fewer-callers n k (f ∷ below) owed w (v, s) = (
    v,
    record {
      left = s.left;
      right = s.right;
      parts = s.parts;
      first = λ back after r q. fewer n (known f v) f.todo after (s.first back after r q);
      second = fewer-callers n (known f v) below owed s.right s.second;
    },
  )

  pub fewer-running : (n : ℕ) (owed : Known) (frames : List Frame) (w : Own) → Running p (suc n) owed frames w
      → Running p n owed frames w
  fewer-running n owed [] w s = s
  fewer-running n owed (f ∷ below) w (v, s) = (
    v,
    record {
      left = s.left;
      right = s.right;
      parts = s.parts;
      first = fewer n (known f v) f.todo s.left s.first;
      second = fewer-callers n (known f v) below owed s.right s.second;
    },
  )

  pub fewer-waiting : (n : ℕ) (owed : Known) (frames : List Frame) (g h : Known) (w : Own)
      → Waiting p (suc n) owed frames g h w → Waiting p n owed frames g h w
  fewer-waiting n owed [] g h w s = s
  fewer-waiting n owed (f ∷ below) g h w (v, s) = (
    v,
    record {
      left = s.left;
      right = s.right;
      parts = s.parts;
      first = λ one two back after x y i j. fewer n (known f v) f.todo after (s.first one two back after x y i j);
      second = fewer-callers n (known f v) below owed s.right s.second;
    },
  )
