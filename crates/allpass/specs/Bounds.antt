-- What a filter of any order keeps within, and how two of its states come together under the same inputs.
-- Statements alone: proofs/Bounds.antt and proofs/Contraction.antt prove them. Assumes nothing.
use Rattle.std.specs.Prelude.{◌≡◌, List, [], ◌∷◌, ℕ, zero, suc, ◌+◌, ◌*◌, ◌-◌, ◌/◌, ◌^◌, ◌≤◌, ℤ, nat_abs, ◌+ℤ◌, ◌-ℤ◌, ◌*ℤ◌, length}
use Rattle.integer.specs.Rounding.{clip, M}
use Rattle.integer.specs.Cut.{R}
use Rattle.thiran.specs.Coefficients.{norm}
use Rattle.allpass.specs.Allpass.{rest, inner, next, out, run}

-- each number of v is of magnitude at most B
pub data Within (B : ℕ) : List ℤ → Type 0 where
  none : Within B []
  more : {x : ℤ} {v : List ℤ} → nat_abs x ≤ B → Within B v → Within B (x ∷ v)

-- v and u are as long as each other, and at most D apart at each place
pub data Close (D : ℕ) : List ℤ → List ℤ → Type 0 where
  none : Close D [] []
  more : {x y : ℤ} {v u : List ℤ} → nat_abs (x -ℤ y) ≤ D → Close D v u → Close D (x ∷ v) (y ∷ u)

-- half of D, upward
abbrev pub half : ℕ → ℕ
half D = (D + 1) / 2

-- n·D/65,536, upward: what coefficients whose magnitudes add up to n leave of D,
abbrev pub share : ℕ → ℕ → ℕ
share n D = (n * D + 65535) / 65536

-- "the least whole number not below" it,
pub record Upward (n D : ℕ) : Type 0 where
  pub above : n * D ≤ 65536 * share n D
  pub least : (x : ℕ) → n * D ≤ 65536 * x → share n D ≤ x

-- and k times over
abbrev pub shares : ℕ → ℕ → ℕ → ℕ
shares n D zero = D
shares n D (suc k) = share n (shares n D k)

-- b(0) = 2M, and b(k + 1) is the share of b(k): how far a state at rest and one within 2M can be apart after k times
-- as many samples as the order
unfoldable pub distance : ℕ → ℕ → ℕ
distance n k = shares n (2 * M) k

-- the output adds one number of the state and one R: b(k) + b(k + 1), the own figure of coefficients that add up to n
unfoldable pub own_figure : ℕ → ℕ → ℕ
own_figure n k = distance n k + distance n (suc k)

-- of coefficients A whose magnitudes add up to at most 65,536
pub record Contracts (A : List ℤ) : Type 0 where
  -- states D apart are the share of D apart after as many samples as the order, and k shares after k times as many
  pub state :
      (k : ℕ) (fs : List ℤ) {v u : List ℤ} {D : ℕ} → length v * k ≤ length fs → Close D v u
      → Close (shares (norm A) D k) (run A v fs) (run A u fs)
  -- and their outputs are at most D and the share of D apart
  pub output : {v u : List ℤ} (f : ℤ) {D : ℕ} → Close D v u
      → nat_abs (out A v f -ℤ out A u f) ≤ D + share (norm A) D
  -- so the outputs from rest and from a state u within 2M are the own figure apart, over the same inputs
  pub figure : (N : ℕ) (u fs : List ℤ) (f : ℤ) → length u ≡ N → Within (2 * M) u
      → nat_abs (out A (run A (rest N) fs) f -ℤ out A (run A u fs) f) ≤ own_figure (norm A) (length fs / N)

-- of coefficients A whose magnitudes add up to at most 32,768
pub record Bounded (A : List ℤ) : Type 0 where
  -- "With f a sample, |w| never passes 2M"
  pub within : {v : List ℤ} (f : ℤ) → Within (2 * M) v → nat_abs f ≤ M → nat_abs (inner A v f) ≤ 2 * M
  -- states D apart are half of D apart after as many samples as the filter has an order
  pub halved :
      (fs : List ℤ) {v u : List ℤ} {D : ℕ} → length v ≤ length fs → Close D v u
      → Close (half D) (run A v fs) (run A u fs)
  -- and their outputs are at most D and half of D apart
  pub output : {v u : List ℤ} (f : ℤ) {D : ℕ} → Close D v u → nat_abs (out A v f -ℤ out A u f) ≤ D + half D
  -- 2^(24 − k) after k times as many samples as the order, which is 1 from k = 24 on
  pub converged :
      (k : ℕ) (fs v u : List ℤ) → length v * k ≤ length fs → Close (2 ^ 24) v u
      → Close (2 ^ (24 - k)) (run A v fs) (run A u fs)

-- document 01's own lines at order 1,
pub record Order1 (a1 v1 f : ℤ) : Type 0 where
  pub w : inner (a1 ∷ []) (v1 ∷ []) f ≡ f -ℤ R (a1 *ℤ v1)
  pub output : out (a1 ∷ []) (v1 ∷ []) f ≡ clip (v1 +ℤ R (a1 *ℤ inner (a1 ∷ []) (v1 ∷ []) f))
  pub state : next (a1 ∷ []) (v1 ∷ []) f ≡ inner (a1 ∷ []) (v1 ∷ []) f ∷ []

-- at order 2,
pub record Order2 (a1 a2 v1 v2 f : ℤ) : Type 0 where
  pub w : inner (a1 ∷ a2 ∷ []) (v1 ∷ v2 ∷ []) f ≡ f -ℤ R (a1 *ℤ v1 +ℤ a2 *ℤ v2)
  pub output :
      out (a1 ∷ a2 ∷ []) (v1 ∷ v2 ∷ []) f
      ≡ clip (v2 +ℤ R (a2 *ℤ inner (a1 ∷ a2 ∷ []) (v1 ∷ v2 ∷ []) f +ℤ a1 *ℤ v1))
  pub state : next (a1 ∷ a2 ∷ []) (v1 ∷ v2 ∷ []) f ≡ inner (a1 ∷ a2 ∷ []) (v1 ∷ v2 ∷ []) f ∷ v1 ∷ []

-- and document 02's at order 3 (L5): "A3·v3 joins the sum inside R in w, and it puts out clip(v3 + R(A3·w +
-- A2·v1 + A1·v2))"
pub record Order3 (a1 a2 a3 v1 v2 v3 f : ℤ) : Type 0 where
  pub w :
      inner (a1 ∷ a2 ∷ a3 ∷ []) (v1 ∷ v2 ∷ v3 ∷ []) f ≡ f -ℤ R (a1 *ℤ v1 +ℤ a2 *ℤ v2 +ℤ a3 *ℤ v3)
  pub output :
      out (a1 ∷ a2 ∷ a3 ∷ []) (v1 ∷ v2 ∷ v3 ∷ []) f
      ≡ clip (v3 +ℤ R (a3 *ℤ inner (a1 ∷ a2 ∷ a3 ∷ []) (v1 ∷ v2 ∷ v3 ∷ []) f +ℤ a2 *ℤ v1 +ℤ a1 *ℤ v2))
  pub state :
      next (a1 ∷ a2 ∷ a3 ∷ []) (v1 ∷ v2 ∷ v3 ∷ []) f
      ≡ inner (a1 ∷ a2 ∷ a3 ∷ []) (v1 ∷ v2 ∷ v3 ∷ []) f ∷ v1 ∷ v2 ∷ []
