-- The six strings that a host's rows are, 27 words and a line for each; what the calls on them require and
-- hand on; and what a call returns and leaves, as crate instrument has it (document 02, L11).
use Rattle.std.specs.Prelude.{◌≡◌, List, [], ℕ, ◌≤◌, ◌<◌, ℤ, length, get_or, Result, Ok, Err}
use Rattle.refusal.specs.declared.Refusal.{Refusal}
use Rattle.refusal.specs.Numbers.{number_of}
use Rattle.voice.specs.Struct.{state_of}
use Rattle.voice.specs.Valid.{Fit, Valid}
use Rattle.packed.specs.Words.{head_of}
use Rattle.instrument.specs.Strings.{Own, Play, on, Strings, silent, number, play}

-- string k is the voice of row k
abbrev pub strings_of : List (List ℕ) → List (List ℤ) → Strings
strings_of hs ls k = state_of (head_of (get_or hs k [])) (get_or ls k [])

-- ---- the invariant
-- six rows of words, each the head of a voice
pub record Heads (hs : List (List ℕ)) : Type 0 where
  pub six : length hs ≡ 6
  pub fit : (k : ℕ) → k ≤ 5 → Fit (head_of (get_or hs k []))

-- six rows of words and six lines, each two a voice
pub record Voices (hs : List (List ℕ)) (ls : List (List ℤ)) : Type 0 where
  pub heads : length hs ≡ 6
  pub lines : length ls ≡ 6
  pub valid : (k : ℕ) → k ≤ 5 → Valid (head_of (get_or hs k [])) (get_or ls k [])

-- the row of string k, or 24: "24 string number above 5"
abbrev pub RowOf : ℕ → Result ℕ Refusal → Type 0
RowOf k (Ok i) = (i ≡ k) × (k ≤ 5)
RowOf k (Err r) = (number_of r ≡ 24) × (5 < k)

-- ---- what a call returns and leaves
-- a call that neither reads nor writes a line: it returned n and left the words gs, on whatever lines
pub record Called (hs : List (List ℕ)) (k : ℕ) (a : Own) (n : ℕ) (gs : List (List ℕ)) : Type 0 where
  pub number : (ls : List (List ℤ)) → n ≡ number (strings_of hs ls) (on k a)
  pub states : (ls : List (List ℤ)) (j : ℕ) → j ≤ 5 → strings_of gs ls j ≡ play (strings_of hs ls) (on k a) j
  pub voices : (ls : List (List ℤ)) → Voices hs ls → Voices gs ls

-- a call p that returned n and left the words gs and the lines ks
pub record Played (hs : List (List ℕ)) (ls : List (List ℤ)) (p : Play) (n : ℕ) (gs : List (List ℕ))
    (ks : List (List ℤ)) : Type 0 where
  pub number : n ≡ number (strings_of hs ls) p
  pub states : (j : ℕ) → j ≤ 5 → strings_of gs ks j ≡ play (strings_of hs ls) p j
  pub voices : Voices gs ks

-- what a reset leaves: six strings, each Open's refusal voice
pub record Resets (gs : List (List ℕ)) (ks : List (List ℤ)) : Type 0 where
  pub states : (j : ℕ) → j ≤ 5 → strings_of gs ks j ≡ silent j
  pub voices : Voices gs ks
