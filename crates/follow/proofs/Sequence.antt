-- Calls one after the other: what two lists of them end with, and `then`.
-- Assumes nothing.
use mathlib.Core.Path.{◌≡◌, refl, sym}
use mathlib.Core.Bool.{Bool, true, false, cond}
use mathlib.Core.List.{List, [], ◌∷◌, ◌++◌, append-nil}
use borrow.Author.Tests.{eq-eqb, ne_eqb, eqb-true, eqb-false}
use lib.Dec.{eqb}
use Rattle.rule.specs.Calls.{Call, number}
use Rattle.rule.specs.State.{State, call, from}
use Rattle.follow.specs.Follow.{result, then}

-- ---- the number that ends them
pub result-past : (v : State) (cs ds : List Call) → result v cs ≡ 0 → result v (cs ++ ds)
    ≡ result (from v cs) ds
result-past v [] ds e = refl
result-past v (c ∷ cs) ds e = go (eqb (number v.voice c) 0) refl (result-past (call v c) cs ds) e
  where
    go : (b : Bool) → eqb (number v.voice c) 0 ≡ b
        → (result (call v c) cs ≡ 0 → result (call v c) (cs ++ ds) ≡ result (from (call v c) cs) ds)
        → cond b (result (call v c) cs) (number v.voice c) ≡ 0
        → cond b (result (call v c) (cs ++ ds)) (number v.voice c) ≡ result (from (call v c) cs) ds
    go true i f e = f e
    go false i f e = absurd (eqb-false (number v.voice c) 0 i e)

-- one call
pub result-one : (v : State) (c : Call) → number v.voice c ≡ result v (c ∷ [])
result-one v c = go (eqb (number v.voice c) 0) refl
  where
    go : (b : Bool) → eqb (number v.voice c) 0 ≡ b → number v.voice c ≡ cond b 0 (number v.voice c)
    go true i = eqb-true (number v.voice c) 0 i
    go false i = refl

-- ---- the calls f, then the calls g
module _ (f g : State → List Call) (v : State) where
  pub then-past : result v (f v) ≡ 0 → f v ++ g (from v (f v)) ≡ then f g v
  unfolding then
  then-past e = rw (eq-eqb (result v (f v)) 0 e)

  pub then-stops : (result v (f v) ≡ 0 → ⊥) → f v ≡ then f g v
  unfolding then
  then-stops h = rw (ne_eqb (result v (f v)) 0 h) (sym (append-nil (f v)))
