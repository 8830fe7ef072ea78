-- The line of 2,112 samples, newest first: what stands where in it.
-- Assumes nothing.
use mathlib.Core.Path.{◌≡◌, refl, sym, ap, ◌∙◌}
use mathlib.Core.List.{List, [], ◌∷◌, ◌++◌, reverse, reverse_aux, reverse-append}
use Prim.Native.Nat.{ℕ, zero, suc, ◌+◌, ◌-◌, ◌≤◌, ◌<◌}
use native.Mathlib.Omega.{arith}
use native.Mathlib.Decide.{dec_lt}
use lib.IntN.{ℤ, pos}
use lib.ListN.{length, take, get_or, replicate, length-replicate, length-reverse, get_or-append}
use lib.Seq.{take-take, take_all, get_or-take, get_or-append-add}
use Rattle.rule.specs.History.{read}
use Rattle.rule.specs.State.{back, silence}
use Rattle.rule.specs.Demands.{newest}
use Rattle.rule.proofs.Read.{read-before, read_at}

-- ---- a list turned round
turned_high : (l r : List ℤ) (k : ℕ) → get_or (reverse_aux l r) (length l + k) (pos 0) ≡ get_or r k (pos 0)
turned_high [] r k = let e : 0 + k ≡ k = omega arith in ap (λ (i : ℕ). get_or r i (pos 0)) e
turned_high (x ∷ l) r k =
    let e : suc (length l) + k ≡ length l + suc k = omega arith in
    ap (λ (i : ℕ). get_or (reverse_aux l (x ∷ r)) i (pos 0)) e ∙ turned_high l (x ∷ r) (suc k)

turned_low : (l r : List ℤ) (i : ℕ) → i < length l
    → get_or (reverse_aux l r) i (pos 0) ≡ get_or l (length l - suc i) (pos 0)
turned_low [] r i h = absurd (omega arith)
turned_low (x ∷ l) r i h = go (dec_lt i (length l)) (turned_low l (x ∷ r) i)
  where
    go : Dec (i < length l)
        → (i < length l → get_or (reverse_aux l (x ∷ r)) i (pos 0) ≡ get_or l (length l - suc i) (pos 0))
        → get_or (reverse_aux l (x ∷ r)) i (pos 0) ≡ get_or (x ∷ l) (suc (length l) - suc i) (pos 0)
    go (yes p) ih =
        let e : suc (length l - suc i) ≡ suc (length l) - suc i = omega arith in
        ih p ∙ ap (λ (k : ℕ). get_or (x ∷ l) k (pos 0)) e
    go (no p) ih =
        let e : i ≡ length l + 0 = omega arith in
        let f : 0 ≡ suc (length l) - suc i = omega arith in
        ap (λ (k : ℕ). get_or (reverse_aux l (x ∷ r)) k (pos 0)) e
        ∙ turned_high l (x ∷ r) 0
        ∙ ap (λ (k : ℕ). get_or (x ∷ l) k (pos 0)) f

-- ---- the newest samples
pub length-silence : length silence ≡ 2112
unfolding silence
length-silence = length-replicate 2112 (pos 0)

pub newest-none : newest [] ≡ silence
unfolding newest
newest-none = take_all 2112 silence (omega (arith, length-silence))

pub newest_snoc : (s : List ℤ) (x : ℤ) → x ∷ take 2111 (newest s) ≡ newest (s ++ (x ∷ []))
unfolding newest
newest_snoc s x = rw (reverse-append s (x ∷ []), take-take 2111 2112 (reverse s ++ silence) (omega arith))

zeros : (n i : ℕ) → get_or (replicate n (pos 0)) i (pos 0) ≡ pos 0
zeros zero i = refl
zeros (suc n) zero = refl
zeros (suc n) (suc i) = zeros n i

silent : (i : ℕ) → get_or silence i (pos 0) ≡ pos 0
unfolding silence
silent i = zeros 2112 i

pub back_is : (s : List ℤ) (k : ℕ) → 1 ≤ k → k ≤ 2112 → back (newest s) k ≡ read s (length s) k
unfolding newest
back_is s k l h =
    get_or-take 2112 (reverse s ++ silence) (k - 1) (pos 0) (omega arith) ∙ go (dec_lt (length s) k)
  where
    go : Dec (length s < k) → get_or (reverse s ++ silence) (k - 1) (pos 0) ≡ read s (length s) k
    go (yes p) =
        let i : k - 1 ≡ length (reverse s) + (k - 1 - length s) = omega (arith, length-reverse s) in
        ap (λ (j : ℕ). get_or (reverse s ++ silence) j (pos 0)) i
        ∙ get_or-append-add (reverse s) silence (k - 1 - length s) (pos 0)
        ∙ silent (k - 1 - length s)
        ∙ sym (read-before s (length s) k p)
    go (no p) =
        let i : length s - suc (k - 1) ≡ length s - k = omega arith in
        get_or-append (reverse s) silence (pos 0) (k - 1) (omega (arith, length-reverse s))
        ∙ turned_low s [] (k - 1) (omega arith)
        ∙ ap (λ (j : ℕ). get_or s j (pos 0)) i
        ∙ sym (read_at s (length s) k (omega arith))
