-- Every voice with its line that calls reach is within document 01's limits.
-- Assumes nothing.
use mathlib.Core.Path.{◌≡◌, refl}
use mathlib.Core.Bool.{Bool, true, false, cond}
use mathlib.Core.List.{List, [], ◌∷◌}
use Prim.Native.Nat.{ℕ, zero, suc, ◌-◌}
use native.Mathlib.Omega.{arith}
use lib.Dec.{eqb}
use lib.IntN.{ℤ}
use lib.ListN.{take, length-take}
use borrow.Author.Tests.{eqb-true}
use Rattle.integer.specs.Rounding.{M}
use Rattle.allpass.specs.Bounds.{Within, none, more}
use Rattle.allpass.proofs.Bounds.{rest-within}
use Rattle.rule.specs.Voice.{Voice}
use Rattle.rule.specs.Calls.{Call, Opening, number, inputs}
use Rattle.rule.specs.State.{State, back, step, block_after, told, call, silence, fresh, from}
use Rattle.rule.specs.Valid.{Samples, Whole}
use Rattle.rule.proofs.Read.{get_d_within}
use Rattle.rule.proofs.Line.{length-silence}
use Rattle.rule.proofs.Filters.{written-within}
use Rattle.rule.proofs.Voices.{stepped-valid, done-valid}
use Rattle.rule.proofs.Opened.{opened-valid}

pub same-state : {v u : Voice} {l k : List ℤ} → v ≡ u → l ≡ k
    → ◌≡◌ {A = State} (record { voice = v; line = l }) (record { voice = u; line = k })
same-state e i = cc

-- a line of samples is read so
pub back-samples : {l : List ℤ} → Within M l → Samples (back l)
back-samples h k = get_d_within (k - 1) h

pub take_within : {B : ℕ} {l : List ℤ} (n : ℕ) → Within B l → Within B (take n l)
take_within zero h = none
take_within (suc n) none = none
take_within (suc n) (more p h) = more p (take_within n h)

pub step-whole : (v : State) (x : ℤ) → Whole v → Whole (step v x)
unfolding step
step-whole v x h = record {
  voice = stepped-valid v.voice (back v.line) (back-samples h.within) h.voice;
  many = omega (arith, length-take 2111 v.line, h.many);
  within = more (written-within v.voice (back v.line) x) (take_within 2111 h.within);
}

pub block-whole : (xs : List ℤ) (v : State) → Whole v → Whole (block_after v xs)
block-whole [] v h = h
block-whole (x ∷ xs) v h = block-whole xs (step v x) (step-whole v x h)

pub told-whole : (v : State) (c : Call) → number v.voice c ≡ 0 → Whole v → Whole (told v c)
told-whole v c e h =
    let voice = done-valid v.voice (back v.line) c e (back-samples h.within) h.voice in
    record { voice = voice; many = h.many; within = h.within }

pub call-whole : (v : State) (c : Call) → Whole v → Whole (call v c)
unfolding call
call-whole v c h = go (eqb (number v.voice c) 0) refl
  where
    go : (b : Bool) → eqb (number v.voice c) 0 ≡ b → Whole (cond b (block_after (told v c) (inputs c)) v)
    go true e = block-whole (inputs c) (told v c) (told-whole v c (eqb-true (number v.voice c) 0 e) h)
    go false e = h

pub fresh-whole : (o : Opening) → Whole (fresh o)
unfolding silence
fresh-whole o =
    record { voice = opened-valid o; many = length-silence; within = rest-within 2112 }

pub from-whole : (cs : List Call) (v : State) → Whole v → Whole (from v cs)
from-whole [] v h = h
from-whole (c ∷ cs) v h = from-whole cs (call v c) (call-whole v c h)
