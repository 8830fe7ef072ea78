-- What the parts of the mix leave: one string's row that has rendered an input, and all six. Definitions
-- alone.
use Rattle.std.specs.Prelude.{◌≡◌, List, ℕ, ◌≤◌, ℤ}
use Rattle.rule.specs.State.{block_after, block_out}
use Rattle.voice.specs.Struct.{state_of}
use Rattle.voice.specs.Valid.{Valid}
use Rattle.packed.specs.Words.{head_of}
use Rattle.instrument.specs.Strings.{mixed}
use Rattle.strings.specs.Rows.{strings_of, Voices}
use Rattle.mix.specs.Sums.{plus, sums}

-- the words us and the line m are what the input xs leaves of the words ws and the line l
pub record After (ws : List ℕ) (l xs : List ℤ) (us : List ℕ) (m : List ℤ) : Type 0 where
  pub state : state_of (head_of us) m ≡ block_after (state_of (head_of ws) l) xs
  pub valid : Valid (head_of us) m

-- and ys is what it put out
pub record Rendered (ws : List ℕ) (l xs : List ℤ) (us : List ℕ) (m ys : List ℤ) : Type 0 where
  pub after : After ws l xs us m
  pub out : ys ≡ block_out (state_of (head_of ws) l) xs

-- and the sums, which were before, have it added
pub record Adds (ws : List ℕ) (l xs before : List ℤ) (us : List ℕ) (m ys : List ℤ) : Type 0 where
  pub after : After ws l xs us m
  pub added : ys ≡ plus before (block_out (state_of (head_of ws) l) xs)

-- the rows gs and ks are what the input xs leaves of the rows hs and ls
pub record Afters (hs : List (List ℕ)) (ls : List (List ℤ)) (xs : List ℤ) (gs : List (List ℕ))
    (ks : List (List ℤ)) : Type 0 where
  pub states : (j : ℕ) → j ≤ 5 → strings_of gs ks j ≡ block_after (strings_of hs ls j) xs
  pub voices : Voices gs ks

-- and ys the sums of what the six put out
pub record SumsUp (hs : List (List ℕ)) (ls : List (List ℤ)) (xs : List ℤ) (gs : List (List ℕ))
    (ks : List (List ℤ)) (ys : List ℤ) : Type 0 where
  pub after : Afters hs ls xs gs ks
  pub out : ys ≡ sums 6 (strings_of hs ls) xs

-- and ys their mix
pub record Mixes (hs : List (List ℕ)) (ls : List (List ℤ)) (xs : List ℤ) (gs : List (List ℕ))
    (ks : List (List ℤ)) (ys : List ℤ) : Type 0 where
  pub after : Afters hs ls xs gs ks
  pub out : ys ≡ mixed (strings_of hs ls) xs
