-- A block's number, an input of zeros, what a refused call leaves, and what an accepted block does.
-- Assumes nothing.
use mathlib.Core.Path.{◌≡◌, sym, ap, ◌∙◌}
use mathlib.Core.List.{List}
use Prim.Native.Nat.{ℕ, ◌≤◌, ◌<◌}
use native.Mathlib.Omega.{arith}
use borrow.Author.Tests.{eq-eqb, ne_eqb}
use lib.IntN.{ℤ, pos}
use lib.ListN.{length, replicate}
use Rattle.integer.specs.Rounding.{M}
use Rattle.samples.specs.Samples.{loudest}
use Rattle.samples.proofs.Samples.{silence}
use Rattle.rule.specs.Voice.{Voice}
use Rattle.rule.specs.Calls.{Call, block, number, done}
use Rattle.rule.specs.State.{block_after, block_out, put}
use Rattle.rule.proofs.Refusals.{refuses, quiet, unquiet}
use Rattle.voice.specs.declared.Head.{Head}
use Rattle.voice.specs.Struct.{voice_of, state_of}
use Rattle.voice.specs.Valid.{Valid}
use Rattle.voice.specs.Called.{On, lent}
use Rattle.voice.proofs.Called.{call-refused, call-accepted}

-- ---- a block's number
module _ (v : Voice) (xs : List ℤ) (n : ℕ) where
  pub differ : (length xs ≡ n → ⊥) → 9 ≡ number v (block xs n)
  differ f = sym ((refuses.blocks v xs n).differ.1 f)

  module _ (e : length xs ≡ n) where
    pub too_loud : M < loudest xs → 10 ≡ number v (block xs n)
    too_loud h = sym ((refuses.blocks v xs n).input.1 (e, λ w. omega (arith, unquiet w)))

    pub plays : loudest xs ≤ M → 0 ≡ number v (block xs n)
    plays h = sym ((refuses.blocks v xs n).accepted.1 (e, quiet xs h))

-- ---- an input of zeros: that of a block in which nothing comes in
pub zeros : (xs : List ℤ) (n : ℕ) → length xs ≡ n → loudest xs ≤ 0 → replicate n (pos 0) ≡ xs
zeros xs n e h =
    let z : loudest xs ≡ 0 = omega arith in
    ap (λ (k : ℕ). replicate k (pos 0)) (sym e) ∙ sym (silence xs z)

-- ---- a refused call
module _ (h : Head) (l : List ℤ) (c : Call) where
  pub refused-on : {k : ℕ} → Valid h l → k ≡ number (voice_of h) c → (k ≡ 0 → ⊥)
      → On h l c (record { refusal = k; head = h }) l
  refused-on g e f = record {
    number = e;
    state = sym (call-refused (state_of h l) c (λ z. f (e ∙ z)));
    valid = g;
  }

  pub refused-lent : {k : ℕ} → k ≡ number (voice_of h) c → (k ≡ 0 → ⊥) → (before : List ℤ) → before
      ≡ lent h l c before
  refused-lent e f before = rw (ne_eqb (number (voice_of h) c) 0 (λ z. f (e ∙ z)))

-- ---- an accepted block
module _ (h : Head) (l xs : List ℤ) (n : ℕ) (e : 0 ≡ number (voice_of h) (block xs n)) where
  pub block_on : (r : Head) (k : List ℤ) → Valid r k → state_of r k ≡ block_after (state_of h l) xs
      → On h l (block xs n) (record { refusal = 0; head = r }) k
  unfolding done
  block_on r k g i = record {
    number = e;
    state = i ∙ sym (call-accepted (state_of h l) (block xs n) (sym e));
    valid = g;
  }

  pub block-lent : (out before : List ℤ) → out ≡ block_out (state_of h l) xs → out
      ≡ lent h l (block xs n) before
  unfolding put done
  block-lent out before i = rw (eq-eqb (number (voice_of h) (block xs n)) 0 (sym e)) i
