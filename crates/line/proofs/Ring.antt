-- Laws of the ring: its length, what stands k steps back, what a store makes of it, and the fresh line.
-- Assumes nothing.
use mathlib.Core.Path.{◌≡◌, sym, ap, ◌∙◌}
use mathlib.Core.List.{List, [], ◌∷◌, ◌++◌, append_assoc, append-nil, reverse, reverse-append, reverse-cons}
use Prim.Native.Nat.{ℕ, suc, ◌+◌, ◌-◌, ◌%◌, ◌≤◌, ◌<◌}
use native.Mathlib.Omega.{arith}
use native.Mathlib.Decide.{dec_le, dec_lt}
use lib.IntN.{ℤ, pos}
use lib.ListN.{length, take, drop, get_or, set, replicate, drop_of_length-le, length-set, get_or-append}
use lib.ListN.{length-append, length-take, length-drop, length-reverse, length-replicate, get_or-replicate}
use lib.Seq.{split_at, append_snoc, get_or_at, ext_get_or, get_or-append-add, get_or-take, get_or-drop}
use lib.Seq.{take_all, take_at, drop-cons, take-suc-set, drop-set-lt}
use Rattle.line.specs.Ring.{ring}

-- ---- a list turned round
-- cut around index j
turned : (l : List ℤ) (j : ℕ) → j < length l
    → reverse l ≡ reverse (drop (suc j) l) ++ get_or l j (pos 0) ∷ reverse (take j l)
turned l j h =
    let x = get_or l j (pos 0) in
    let d = drop (suc j) l in
    ap reverse (split_at l j (pos 0) h)
    ∙ reverse-append (take j l) (x ∷ d)
    ∙ ap (λ (r : List ℤ). r ++ reverse (take j l)) (reverse-cons x d)
    ∙ append_snoc (reverse d) x (reverse (take j l))

get_d_reverse : (l : List ℤ) (j k : ℕ) → suc (j + k) ≡ length l → get_or (reverse l) k (pos 0) ≡ get_or l j (pos 0)
get_d_reverse l j k e =
    let d = drop (suc j) l in
    let n : length (reverse d) ≡ k = simp (length-reverse, length-drop) (omega arith) in
    ap (λ (r : List ℤ). get_or r k (pos 0)) (turned l j (omega arith))
    ∙ get_or_at (reverse d) (get_or l j (pos 0)) (reverse (take j l)) (pos 0) k n

reverse-zeros : (n : ℕ) → reverse (replicate n (pos 0)) ≡ replicate n (pos 0)
reverse-zeros n =
    let z = replicate n (pos 0) in
    ext_get_or (pos 0) (reverse z) z (length-reverse z) (λ i h.
    let k : i < n = omega (arith, length-reverse z, length-replicate n (pos 0)) in
    get_d_reverse z (n - suc i) i (omega (arith, length-replicate n (pos 0)))
    ∙ get_or-replicate n (n - suc i) (pos 0) (pos 0) (omega arith)
    ∙ sym (get_or-replicate n i (pos 0) (pos 0) k))

-- ---- the ring of a line of any length
module _ (l : List ℤ) where
  ring-end : (n : ℕ) → length l ≡ n → ring 0 l ≡ ring n l
  unfolding ring
  ring-end n long =
      rw (take_all n l (omega arith), drop_of_length-le l {i = n} (omega arith), append-nil (reverse l))

  ring-set : (at n : ℕ) (x : ℤ) → at ≤ n → length l ≡ suc n
      → ring (suc at) (set l at x) ≡ x ∷ take n (ring at l)
  unfolding ring
  ring-set at n x h long =
      let r = reverse (take at l) in
      let d = drop (suc at) l in
      let y = get_or l at (pos 0) in
      let k : length (r ++ reverse d) ≡ n =
      simp (length-append, length-reverse, length-take, length-drop) (omega arith) in
      rw (
        take-suc-set l at x (omega arith),
        drop-set-lt (suc at) l at x (omega arith),
        reverse-append (take at l) (x ∷ []),
        drop-cons l at (pos 0) (omega arith),
        reverse-cons y d,
        ← append_assoc r (reverse d) (y ∷ []),
        take_at (r ++ reverse d) (y ∷ []) n k,
      )

-- ---- the ring of the line
pub ring-silent : ring 0 (replicate 2112 (pos 0)) ≡ replicate 2112 (pos 0)
unfolding ring
ring-silent = reverse-zeros 2112

module _ (l : List ℤ) (at : ℕ) (long : length l ≡ 2112) where
  -- what was written since the ring last went round stands before `at`, and the rest from it on
  newer : (p k : ℕ) → at < 2112 → suc (p + k) ≡ at → get_or (ring at l) k (pos 0) ≡ get_or l p (pos 0)
  unfolding ring
  newer p k h e =
      let t = take at l in
      let n : length t ≡ at = simp length-take (omega arith) in
      get_or-append (reverse t) (reverse (drop at l)) (pos 0) k (omega (arith, length-reverse t))
      ∙ get_d_reverse t p k (omega arith)
      ∙ get_or-take at l p (pos 0) (omega arith)

  older : (p k : ℕ) → at ≤ p → at ≤ k → suc (p + k) ≡ at + 2112
      → get_or (ring at l) k (pos 0) ≡ get_or l p (pos 0)
  unfolding ring
  older p k h a e =
      let t = take at l in
      let n : length (reverse t) ≡ at = simp (length-reverse, length-take) (omega arith) in
      let i : k ≡ length (reverse t) + (k - at) = omega arith in
      let j : at + (p - at) ≡ p = omega arith in
      ap (λ (m : ℕ). get_or (reverse t ++ reverse (drop at l)) m (pos 0)) i
      ∙ get_or-append-add (reverse t) (reverse (drop at l)) (k - at) (pos 0)
      ∙ get_d_reverse (drop at l) (p - at) (k - at) (omega (arith, length-drop at l))
      ∙ get_or-drop at l (p - at) (pos 0)
      ∙ ap (λ (m : ℕ). get_or l m (pos 0)) j

  pub ring-read : (k p : ℕ) → at < 2112 → 1 ≤ k → k ≤ 2112 → p ≡ (at + 2112 - k) % 2112
      → get_or (ring at l) (k - 1) (pos 0) ≡ get_or l p (pos 0)
  ring-read k p h a b e = go (dec_le k at)
    where
      go : Dec (k ≤ at) → get_or (ring at l) (k - 1) (pos 0) ≡ get_or l p (pos 0)
      go (yes g) = newer p (k - 1) h (omega arith)
      go (no g) = older p (k - 1) (omega arith) (omega arith) (omega arith)

  ring-next : (next : ℕ) → at < 2112 → next ≡ (at + 1) % 2112 → ring next l ≡ ring (suc at) l
  ring-next next h e = go (dec_lt (suc at) 2112)
    where
      go : Dec (suc at < 2112) → ring next l ≡ ring (suc at) l
      go (yes g) = let i : next ≡ suc at = omega arith in ap (λ (n : ℕ). ring n l) i
      go (no g) =
          let i : next ≡ 0 = omega arith in
          let j : 2112 ≡ suc at = omega arith in
          ap (λ (n : ℕ). ring n l) i ∙ ring-end l 2112 long ∙ ap (λ (n : ℕ). ring n l) j

pub ring_write : (l : List ℤ) (at : ℕ) → length l ≡ 2112
    → (next : ℕ) (x : ℤ) → at < 2112 → next ≡ (at + 1) % 2112
    → ring next (set l at x) ≡ x ∷ take 2111 (ring at l)
ring_write l at long next x h e =
    ring-next (set l at x) at (length-set l at x ∙ long) next h e ∙ ring-set l at 2111 x (omega arith) long
