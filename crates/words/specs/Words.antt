-- What a blank is, where a byte first stands, and where the first word of a text stands.
use Rattle.std.specs.Prelude.{◌≡◌, Bool, true, false, ◌||◌, List, ℕ, ◌≤◌, ◌<◌, nat_eq, length, slice_index}

-- a space or a tab
abbrev pub blank : ℕ → Bool
blank b = nat_eq b 32 || nat_eq b 9

-- r bytes of s stand before the first that is b, or all of them where none is
pub record Before (b : ℕ) (s : List ℕ) (r : ℕ) : Type 0 where
  pub within : r ≤ length s
  pub none : (k : ℕ) → k < r → slice_index s k ≡ b → ⊥
  pub here : r < length s → slice_index s r ≡ b

-- s starts with r blanks, and no more
pub record Starts (s : List ℕ) (r : ℕ) : Type 0 where
  pub within : r ≤ length s
  pub blanks : (k : ℕ) → k < r → blank (slice_index s k) ≡ true
  pub here : r < length s → blank (slice_index s r) ≡ false

-- no blank stands in s from start up to r, and one stands at r, unless s ends there
pub record Stops (s : List ℕ) (start r : ℕ) : Type 0 where
  pub order : start ≤ r
  pub within : r ≤ length s
  pub letters : (k : ℕ) → start ≤ k → k < r → blank (slice_index s k) ≡ false
  pub here : r < length s → blank (slice_index s r) ≡ true

-- the first word of s is its bytes from start up to end; it is empty only where s has no word
pub record FirstWord (s : List ℕ) (start end : ℕ) : Type 0 where
  pub starts : Starts s start
  pub stops : Stops s start end
  pub some : start < length s → start < end
