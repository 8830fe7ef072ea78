-- The last value of a response above a threshold: what was found among the values so far, and with more of
-- them, one for each sample that is fed. Assumes nothing.
use mathlib.Core.Path.{◌≡◌, refl, sym}
use mathlib.Core.Bool.{Bool, true, false, cond}
use mathlib.Core.List.{List, ◌∷◌}
use Prim.Native.Nat.{ℕ, zero, suc, ◌+◌}
use native.Mathlib.Omega.{arith}
use borrow.Author.Tests.{ne_eqb}
use lib.Dec.{ltb, eqb}
use lib.IntN.{ℤ, nat_abs}
use Rattle.thiran.specs.Answers.{taps}
use Rattle.thiran.specs.declared.formula.Coefficients.{Coefficients}
use Rattle.allpass.specs.Allpass.{inner, next, inners}
use Rattle.allpass.specs.Length.{last_above}
use Rattle.allpass.specs.Stored.{stored, held, Fed}
use Rattle.allpass.specs.declared.State.{State}
use Rattle.allpass.proofs.Stored.{length-held, first_next, fed-held}

-- what is found of n values, among which it was `last`, and of the values ws that follow them
abbrev pub found : ℕ → ℕ → ℕ → List ℤ → ℕ
found t n last ws = cond (eqb (last_above t ws) 0) last (n + last_above t ws)

-- of the value at index n: what `later` returns
abbrev pub found_at : ℕ → ℕ → ℕ → ℤ → ℕ
found_at t n last w = cond (ltb t (nat_abs w)) (n + 1) last

pub found_all : (t : ℕ) (ws : List ℤ) → found t 0 0 ws ≡ last_above t ws
found_all t ws = go (last_above t ws)
  where
    go : (x : ℕ) → cond (eqb x 0) 0 (0 + x) ≡ x
    go zero = refl
    go (suc x) = rw (ne_eqb (suc x) 0 (λ z. omega arith)) (omega arith)

found-more : (t n last : ℕ) (w : ℤ) (ws : List ℤ)
    → found t n last (w ∷ ws) ≡ found t (n + 1) (found_at t n last w) ws
unfolding last_above
found-more t n last w ws = go (last_above t ws) (ltb t (nat_abs w))
  where
    go : (x : ℕ) (b : Bool)
        → cond (eqb (cond (eqb x 0) (cond b 1 0) (suc x)) 0) last (n + cond (eqb x 0) (cond b 1 0) (suc x))
        ≡ cond (eqb x 0) (cond b (n + 1) last) (n + 1 + x)
    go zero true = omega arith
    go zero false = refl
    go (suc x) b =
        rw (ne_eqb (suc x) 0 (λ z. omega arith), ne_eqb (suc (suc x)) 0 (λ z. omega arith)) (omega arith)

-- one sample of the eliminator: its w is the first number of the state s that it makes
pub found-next : (t n last : ℕ) {N : ℕ} {c : Coefficients} {v : State} {f : ℤ} (fs : List ℤ) (s : State)
    → Fed N c v f → s ≡ stored (next (taps N c) (held N v) f)
    → found t (n + 1) (found_at t n last s.v1) (inners (taps N c) (held N s) fs)
    ≡ found t n last (inners (taps N c) (held N v) (f ∷ fs))
found-next t n last {N} {c} {v} {f} fs s h e =
    let A = taps N c in
    let u = held N v in
    rw (e, fed-held h, first_next A u f (omega (arith, length-held N v h.most, h.least)))
    (sym (found-more t n last (inner A u f) (inners A (next A u f) fs)))
