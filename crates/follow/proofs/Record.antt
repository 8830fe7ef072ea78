-- A record on a head and a line: its wait, and then what it sets, where it sets something.
-- Assumes nothing.
use mathlib.Core.Path.{◌≡◌, refl, sym, ap, subst, ◌∙◌}
use mathlib.Core.List.{List, []}
use Prim.Native.Nat.{ℕ}
use lib.IntN.{ℤ, pos}
use lib.ListN.{replicate}
use Rattle.rule.specs.Calls.{Call}
use Rattle.rule.specs.State.{block_after, block_out, puts}
use Rattle.voice.specs.declared.Head.{Head}
use Rattle.voice.specs.Called.{Answer}
use Rattle.voice.specs.Struct.{state_of}
use Rattle.voice.specs.Valid.{Valid}
use Rattle.follow.specs.Follow.{value, wait_calls, act_calls, record_calls}
use Rattle.follow.specs.Does.{Does}
use Rattle.follow.proofs.Following.{does-none, does-then}
use Rattle.follow.proofs.Waits.{wait-does, record-puts}

-- no call
pub does-still : {h : Head} {l : List ℤ} {cs : List Call} → cs ≡ [] → Valid h l
    → Does h l cs (record { refusal = 0; head = h }) l
does-still {h} {l} e w =
    subst (λ (cs : List Call). Does h l cs (record { refusal = 0; head = h }) l) (sym e) (does-none w)

-- an accepted answer, by its head alone
pub does_as : {h : Head} {l : List ℤ} {cs : List Call} {a : Answer} {k : List ℤ} {g : Head} → Does h l cs a k
    → a.refusal ≡ 0 → g ≡ a.head → Does h l cs (record { refusal = 0; head = g }) k
does_as {k} d z e = record {
  number = sym z ∙ d.number;
  state = ap (λ (x : Head). state_of x k) e ∙ d.state;
  valid = subst (λ (x : Head). Valid x k) (sym e) d.valid;
}

-- a wait of n samples was rendered on the head h and the line l, which became g and k
module _ (r : List ℕ) (h : Head) (l : List ℤ) {n : ℕ} (e : n ≡ value r 0) where
  pub record-heard : {ys : List ℤ} → ys ≡ block_out (state_of h l) (replicate n (pos 0))
      → ys ≡ puts (state_of h l) (record_calls r (state_of h l))
  record-heard i =
      i
      ∙ ap (λ (m : ℕ). block_out (state_of h l) (replicate m (pos 0))) e
      ∙ sym (record-puts r (state_of h l))

  pub record-acts : (g : Head) (k : List ℤ) → state_of g k ≡ block_after (state_of h l) (replicate n (pos 0))
      → Valid g k → {a : Answer} → Does g k (act_calls r (state_of g k)) a k
      → Does h l (record_calls r (state_of h l)) a k
  unfolding record_calls
  record-acts g k i w {a} d =
      does-then (wait_calls r) (act_calls r) h l (record { refusal = 0; head = g }) k
      (wait-does r h l g k (ap (λ (m : ℕ). replicate m (pos 0)) e) i w) refl a k d
