-- The numbers that calls return: 24 first, then each call's own; a mix's are 9 and 10.
use mathlib.Core.Path.{◌≡◌, refl, sym, ◌∙◌}
use mathlib.Core.Logic.{◌↔◌}
use mathlib.Core.List.{List, [], ◌∷◌}
use Prim.Native.Nat.{ℕ, ◌≤◌, ◌<◌}
use native.Mathlib.Omega.{arith}
use native.Mathlib.Decide.{dec_lt}
use lib.Dec.{T}
use lib.IntN.{ℤ}
use Rattle.refusal.specs.Limits.{refusal}
use Rattle.refusal.specs.Returned.{Kept, none, numbered}
use Rattle.refusal.proofs.Returned.{returned, past, kept-is}
use Rattle.rule.specs.Calls.{block, loss, pluck, prepare, instant, commit, withdraw}
use Rattle.rule.specs.Calls as C
use Rattle.rule.specs.State.{State}
use Rattle.rule.specs.Refusals.{BlockReturns}
use Rattle.rule.proofs.Refusals as Rule
use Rattle.instrument.specs.Strings.{Own, opens, calls, store, load, on, mix, Strings, string_limit}
use Rattle.instrument.specs.Strings.{own_limits, number}

-- each call's numbers are above 0 and differ from 24 and from each other
differ : (v : State) (k : ℕ) (a : Own) → T (numbered (string_limit k ∷ own_limits v a))
differ v k (opens o) = tt
differ v k (calls (block xs n)) = tt
differ v k (calls (loss G)) = tt
differ v k (calls (pluck a n z)) = tt
differ v k (calls (prepare i to)) = tt
differ v k (calls (instant to)) = tt
differ v k (calls commit) = tt
differ v k (calls withdraw) = tt
differ v k (store old) = tt
differ v k (load bytes) = tt

pub above : (s : Strings) (k : ℕ) (a : Own) → (number s (on k a) ≡ 24) ↔ (5 < k)
unfolding number
above s k a =
    let ls = own_limits (s k) a in
    let r = (returned (string_limit k ∷ ls) (differ (s k) k a)).refused [] ls (string_limit k) refl in
    (λ e. go (r.0 e).1 (dec_lt 5 k), λ h. r.1 (none, λ p. omega (arith, p.most)))
  where
    go : (Kept (string_limit k) → ⊥) → Dec (5 < k) → 5 < k
    go f (yes h) = h
    go f (no g) = absurd (f (record { least = omega arith; most = omega (arith, g) }))

pub own_number : (k : ℕ) → k ≤ 5 → (s : Strings) (a : Own)
    → number s (on k a) ≡ refusal (own_limits (s k) a)
unfolding number
own_number k h s a =
    sym (past (string_limit k) (own_limits (s k) a)
    (kept-is (string_limit k) (record { least = omega arith; most = h })) refl)

pub within : (s : Strings) (k : ℕ) (a : Own) (n : ℕ) → (n ≡ 24 → ⊥)
    → (number s (on k a) ≡ n) ↔ ((k ≤ 5) × (refusal (own_limits (s k) a) ≡ n))
within s k a n f = (λ e. go e (dec_lt 5 k), λ p. own_number k p.0 s a ∙ p.1)
  where
    go : number s (on k a) ≡ n → Dec (5 < k) → (k ≤ 5) × (refusal (own_limits (s k) a) ≡ n)
    go e (yes h) = absurd (f (sym e ∙ (above s k a).1 h))
    go e (no g) =
        let l : k ≤ 5 = omega (arith, g) in
        (l, sym (own_number k l s a) ∙ e)

pub mixing : (s : Strings) (xs : List ℤ) (n : ℕ) → BlockReturns xs n (number s (mix xs n))
unfolding number C.number
mixing s xs n = (Rule.refuses).blocks (s 0).voice xs n
