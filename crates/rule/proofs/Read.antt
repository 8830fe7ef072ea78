-- How the samples written are read: more of them do not alter what an earlier step read.
-- Assumes nothing.
use mathlib.Core.Path.{◌≡◌, refl, sym, ap, ◌∙◌}
use mathlib.Core.Bool.{Bool, true, false, cond}
use mathlib.Core.List.{List, [], ◌∷◌, ◌++◌}
use Prim.Native.Nat.{ℕ, zero, suc, ◌+◌, ◌-◌, ◌≤◌, ◌<◌}
use native.Mathlib.Omega.{arith}
use native.Mathlib.Decide.{dec_lt}
use lib.IntN.{ℤ, pos, nat_abs}
use lib.ListN.{length, get_or, length-append, get_or-append}
use lib.Dec.{leb}
use borrow.Author.Tests.{le-leb, lt-leb}
use Rattle.allpass.specs.Bounds.{Within, none, more}
use Rattle.rule.specs.Calls.{window}
use Rattle.rule.specs.History.{read}

-- ---- a single sample
pub read-before : (s : List ℤ) (m L : ℕ) → m < L → read s m L ≡ pos 0
unfolding read
read-before s m L h = rw (lt-leb L m h)

pub read_at : (s : List ℤ) (m L : ℕ) → L ≤ m → read s m L ≡ get_or s (m - L) (pos 0)
unfolding read
read_at s m L h = rw (le-leb L m h)

pub read-append : (s u : List ℤ) (m L : ℕ) → m ≤ length s → 1 ≤ L → read (s ++ u) m L ≡ read s m L
read-append s u m L h k = go (dec_lt m L)
  where
    go : Dec (m < L) → read (s ++ u) m L ≡ read s m L
    go (yes p) = read-before (s ++ u) m L p ∙ sym (read-before s m L p)
    go (no p) =
        read_at (s ++ u) m L (omega arith)
        ∙ get_or-append s u (pos 0) (m - L) (omega arith)
        ∙ sym (read_at s m L (omega arith))

-- s(m − (L + a)) is s((m − a) − L)
pub read-less : (s : List ℤ) (m L a : ℕ) → a ≤ m → read s m (L + a) ≡ read s (m - a) L
read-less s m L a h = go (dec_lt m (L + a))
  where
    go : Dec (m < L + a) → read s m (L + a) ≡ read s (m - a) L
    go (yes p) = read-before s m (L + a) p ∙ sym (read-before s (m - a) L (omega arith))
    go (no p) =
        let e : m - (L + a) ≡ m - a - L = omega arith in
        read_at s m (L + a) (omega arith)
        ∙ ap (λ (i : ℕ). get_or s i (pos 0)) e
        ∙ sym (read_at s (m - a) L (omega arith))

-- what was written k steps ago is a step later k + 1 steps ago
pub read_step : (s : List ℤ) (x : ℤ) (k j : ℕ) → 1 ≤ k → j ≡ suc k
    → read (s ++ (x ∷ [])) (length (s ++ (x ∷ []))) j ≡ read s (length s) k
read_step s x k j h e =
    let s' = s ++ (x ∷ []) in
    let n : length s' ≡ suc (length s) = length-append s (x ∷ []) ∙ omega arith in
    let l : length s' - 1 ≡ length s = omega arith in
    let e' : j ≡ k + 1 = omega arith in
    ap (λ (i : ℕ). read s' (length s') i) e'
    ∙ read-less s' (length s') k 1 (omega arith)
    ∙ ap (λ (i : ℕ). read s' i k) l
    ∙ read-append s (x ∷ []) (length s) k (omega arith) h

-- ---- windows
pub length-window : (r : ℕ → ℤ) (L a : ℕ) → length (window r L a) ≡ a
length-window r L zero = refl
length-window r L (suc a) = ap suc (length-window r L a)

pub window_grows : (r r' : ℕ → ℤ) (L a : ℕ) → 1 ≤ L → ((k j : ℕ) → 1 ≤ k → j ≡ suc k → r' j ≡ r k)
    → window r' L (suc a) ≡ window r L a ++ (r L ∷ [])
window_grows r r' L zero h e = ap (λ (x : ℤ). x ∷ []) (e L (L + 1) h (omega arith))
window_grows r r' L (suc a) h e =
    ap (λ (x : ℤ). x ∷ window r' L (suc a)) (e (L + suc a) (L + suc (suc a)) (omega arith) (omega arith))
    ∙ ap (λ (l : List ℤ). r (L + suc a) ∷ l) (window_grows r r' L a h e)

pub window-within : {B : ℕ} (r : ℕ → ℤ) (L a : ℕ) → ((k : ℕ) → nat_abs (r k) ≤ B) → Within B (window r L a)
window-within r L zero h = none
window-within r L (suc a) h = more (h (L + suc a)) (window-within r L a h)

-- ---- sizes
pub get_d_within : {B : ℕ} {s : List ℤ} (i : ℕ) → Within B s → nat_abs (get_or s i (pos 0)) ≤ B
get_d_within i none = omega arith
get_d_within zero (more p h) = p
get_d_within (suc i) (more p h) = get_d_within i h

pub read-within : {B : ℕ} {s : List ℤ} (m L : ℕ) → Within B s → nat_abs (read s m L) ≤ B
unfolding read
read-within {B} {s} m L h = go (leb L m)
  where
    go : (b : Bool) → nat_abs (cond b (get_or s (m - L) (pos 0)) (pos 0)) ≤ B
    go true = get_d_within (m - L) h
    go false = omega arith
