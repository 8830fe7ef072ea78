-- Silence: a quiet voice that gets blocks of zeros puts out zeros alone once it has faded.
-- Assumes nothing.
use mathlib.Core.Path.{◌≡◌, refl, ap, ◌∙◌}
use mathlib.Core.Bool.{Bool, true, false, cond}
use mathlib.Core.List.{List, [], ◌∷◌, ◌++◌}
use Prim.Native.Nat.{ℕ, ◌+◌, ◌*◌, ◌-◌, ◌≤◌, ◌<◌}
use native.Mathlib.Omega.{arith}
use native.Mathlib.Decide.{dec_lt}
use lib.Dec.{eqb, lit≤}
use lib.IntN.{ℤ, pos}
use lib.ListN.{length, get_or, replicate, get_or-append, length-replicate}
use lib.Seq.{get_or-append-add}
use Rattle.integer.specs.Rounding.{M}
use Rattle.thiran.specs.Coefficients.{norm}
use Rattle.thiran.proofs.Small.{norm-below}
use Rattle.allpass.specs.Bounds.{none, more}
use Rattle.rule.specs.Voice.{Tuning, A}
use Rattle.rule.specs.Calls.{Call, block, Opening, number, done}
use Rattle.rule.specs.State.{State, block_after, block_out, call, put, fresh, from, puts}
use Rattle.rule.specs.Valid.{Whole}
use Rattle.rule.specs.Silence.{Quiet, Zeros, end, before, fading, SilentFrom, tuned, Silence}
use Rattle.rule.proofs.States.{take_within, fresh-whole, from-whole}
use Rattle.rule.proofs.Puts.{length-out, puts-append}
use Rattle.rule.proofs.Loop.{all_old}
use Rattle.allpass.proofs.Bounds.{append-within}
use Rattle.rule.proofs.Fading.{Fading, zeros-out, zeros-after}

-- a voice within B has B turns before it
starts : (t : Tuning) (B : ℕ) (v : State) → v.voice.tuning ≡ t → Whole v → Quiet B v
    → Fading t B (fading B t) v
starts t B v e w q = record {
  b = B;
  j = 0;
  small = omega arith;
  place = omega arith;
  left = omega arith;
  whole = w;
  tuning = e;
  idle = q.idle;
  over = q.over;
  graded =
      let line = take_within v.voice.tuning.L q.line in
      all_old (append-within line (append-within q.state (more q.last none)));
}

module _ (t : Tuning) (B : ℕ) (n : norm (A t) * B < 65536) (m : B ≤ M) where
  -- what zs puts out of any voice that fades
  abbrev Fades : List Call → Type 0
  Fades zs = (k : ℕ) (v : State) → Fading t B k v → (i : ℕ) → k ≤ i → get_or (puts v zs) i (pos 0) ≡ pos 0

  -- an accepted block of zeros, and the calls after it
  module _ (b : ℕ) (v : State) where
    abbrev ys : List ℤ
    ys = block_out v (replicate b (pos 0))

    abbrev u : State
    u = block_after v (replicate b (pos 0))

    zeros-first : (zs : List Call) {k : ℕ} → Fading t B k v → Fades zs → (i : ℕ) → k ≤ i
        → get_or (ys ++ puts u zs) i (pos 0) ≡ pos 0
    zeros-first zs {k} f rest i l = go (dec_lt i (length ys))
      where
        go : Dec (i < length ys) → get_or (ys ++ puts u zs) i (pos 0) ≡ pos 0
        go (yes p) = get_or-append ys (puts u zs) (pos 0) i p ∙ zeros-out t B n m b v f i l
        go (no p) =
            let many : length ys ≡ b = length-out v (replicate b (pos 0)) ∙ length-replicate b (pos 0) in
            let j : i ≡ length ys + (i - b) = omega arith in
            ap (λ (x : ℕ). get_or (ys ++ puts u zs) x (pos 0)) j
            ∙ get_or-append-add ys (puts u zs) (i - b) (pos 0)
            ∙ rest (k - b) u (zeros-after t B n m b v f) (i - b) (omega arith)

  -- accepted or not
  zeros-call : (b e : ℕ) (zs : List Call) → Fades zs → Fades (block (replicate b (pos 0)) e ∷ zs)
  unfolding put call done
  zeros-call b e zs rest k v f i l = go (eqb (number v.voice (block (replicate b (pos 0)) e)) 0)
    where
      go : (a : Bool) → get_or (cond a (ys b v) [] ++ puts (cond a (u b v) v) zs) i (pos 0) ≡ pos 0
      go true = zeros-first b v zs f rest i l
      go false = rest k v f i l

  zeros-puts : {zs : List Call} → Zeros zs → Fades zs
  zeros-puts end k v f i l = refl
  zeros-puts (before b e {zs} h) k v f i l =
      zeros-call b e zs (λ k v f i l. zeros-puts h k v f i l) k v f i l

-- ---- lists of calls
module _ (o : Opening) (cs zs : List Call) where
  abbrev left : State
  left = from (fresh o) cs

  whole : Whole left
  whole = from-whole cs (fresh o) (fresh-whole o)

  falls : (B : ℕ) → B ≤ M → norm (A (tuned o cs)) * B < 65536 → Quiet B left → Zeros zs
      → SilentFrom (fading B (tuned o cs)) o cs zs
  falls B m n q z i l =
      let p = puts (fresh o) cs in
      let j = i - length p in
      let e : i ≡ length p + j = omega arith in
      let t = tuned o cs in
      ap (λ (ys : List ℤ). get_or ys i (pos 0)) (puts-append (fresh o) cs zs)
      ∙ ap (λ (x : ℕ). get_or (p ++ puts left zs) x (pos 0)) e
      ∙ get_or-append-add p (puts left zs) j (pos 0)
      ∙ zeros-puts t B n m z (fading B t) left (starts t B left refl whole q) j (omega arith)

  light_2 : norm (A (tuned o cs)) * 2 < 65536
  light_2 = let t = tuned o cs in omega (arith, norm-below t.N t.d whole.voice.fit.takes)

  pub silence : Silence o cs zs
  silence = record { falls = falls; within_2 = falls 2 (lit≤ tt) light_2 }
