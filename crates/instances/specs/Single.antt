-- One sample with the greatest loss, the effective length where nothing is above the threshold, a recording that is
-- read, and what a voice puts out written as one. Statements alone: proofs/Single.antt proves them.
use Rattle.std.specs.Prelude.{◌≡◌, List, [], ◌∷◌, ◌++◌, ℕ, ℤ, pos, negsuc, ◌+ℤ◌, ◌*ℤ◌, get_or, take, replicate}
use Rattle.integer.specs.Rounding.{clip}
use Rattle.integer.specs.Cut.{cut}
use Rattle.allpass.specs.Length.{effective_length}
use Rattle.riff.specs.Held.{samples_of}
use Rattle.rule.specs.Calls.{Opening, Call, block, number, opened}
use Rattle.rule.specs.History.{History, step, after}
use Rattle.rule.specs.State.{fresh, puts}
use Rattle.rule.specs.Demands.{Sample}
use Rattle.wav.specs.Written.{written, left}
use Rattle.wav.specs.Recorded.{recorded, filled}

-- ---- G 65,535: step 3, with the input −7, after y(1) = 0 and y(2) = M
abbrev pub o : Opening
o = record { N = 1; L = 1; d = 4096; G = 65535; Na = 0 }

abbrev pub cs : List Call
cs = block (pos 8388607 ∷ pos 8388606 ∷ pos 5 ∷ []) 3 ∷ []

abbrev pub h : History
h = after o cs

abbrev pub x : ℤ
x = negsuc 6

pub record GreatestLoss : Type 0 where
  pub sample : Sample h x
  pub last : get_or h.y 2 (pos 0) ≡ pos 8388607
  pub output : get_or (step h x).y 3 (pos 0) ≡ pos 8388606
  pub written : get_or (step h x).s 3 (pos 0) ≡ pos 8388471
  -- so says the rule
  pub by_rule : pos 8388471 ≡ clip (negsuc 6 +ℤ cut (pos 65535 *ℤ (pos 8388606 +ℤ pos 8388607)) 131072)

-- ---- "Order 1, d 6,144, threshold 1,000,000: 0", where w starts with 1,000,000, and one below it
pub record Lengths : Type 0 where
  pub none_above : effective_length 1 6144 1000000 ≡ record { refusal = 0; length = 0 }
  pub one_above : effective_length 1 6144 999999 ≡ record { refusal = 0; length = 1 }

-- ---- a file of 44,100 samples a second that holds −17,298 and −8,388,608, and one of a single sample, with a pad
abbrev pub even : List ℕ
even =
    82 ∷ 73 ∷ 70 ∷ 70 ∷ 42 ∷ 0 ∷ 0 ∷ 0 ∷ 87 ∷ 65 ∷ 86 ∷ 69 ∷ 102 ∷ 109 ∷ 116 ∷ 32 ∷ 16 ∷ 0 ∷ 0 ∷ 0 ∷ 1 ∷ 0 ∷ 1
    ∷ 0 ∷ 68 ∷ 172 ∷ 0 ∷ 0 ∷ 204 ∷ 4 ∷ 2 ∷ 0 ∷ 3 ∷ 0 ∷ 24 ∷ 0 ∷ 100 ∷ 97 ∷ 116 ∷ 97 ∷ 6 ∷ 0 ∷ 0 ∷ 0 ∷ 110 ∷ 188
    ∷ 255 ∷ 0 ∷ 0 ∷ 128 ∷ []

abbrev pub odd : List ℕ
odd =
    82 ∷ 73 ∷ 70 ∷ 70 ∷ 40 ∷ 0 ∷ 0 ∷ 0 ∷ 87 ∷ 65 ∷ 86 ∷ 69 ∷ 102 ∷ 109 ∷ 116 ∷ 32 ∷ 16 ∷ 0 ∷ 0 ∷ 0 ∷ 1 ∷ 0 ∷ 1
    ∷ 0 ∷ 68 ∷ 172 ∷ 0 ∷ 0 ∷ 204 ∷ 4 ∷ 2 ∷ 0 ∷ 3 ∷ 0 ∷ 24 ∷ 0 ∷ 100 ∷ 97 ∷ 116 ∷ 97 ∷ 3 ∷ 0 ∷ 0 ∷ 0 ∷ 110 ∷ 188
    ∷ 255 ∷ 0 ∷ []

abbrev pub lent : List ℤ
lent = pos 77 ∷ pos 77 ∷ pos 77 ∷ []

abbrev pub quiet : Opening
quiet = record { N = 1; L = 1; d = 4096; G = 0; Na = 0 }

pub record Read : Type 0 where
  pub returned : recorded even 3 ≡ record { refusal = 0; rate = 44100; count = 2 }
  pub samples : filled even lent ≡ negsuc 17297 ∷ negsuc 8388606 ∷ pos 77 ∷ []
  pub padded : recorded odd 3 ≡ record { refusal = 0; rate = 44100; count = 1 }
  pub padded_samples : filled odd lent ≡ negsuc 17297 ∷ pos 77 ∷ pos 77 ∷ []
  -- "A stored −8,388,608 reads as −M", and no block refuses what is read by 10
  pub lowest : get_or (samples_of even) 1 (pos 0) ≡ negsuc 8388606
  pub block_input : number (opened quiet) (block (samples_of even) 2) ≡ 10 → ⊥
  -- no room for two
  pub short : recorded even 1 ≡ record { refusal = 18; rate = 0; count = 0 }

-- ---- what a list puts out, 0, 0 and 1,000, written at 8,000 samples a second into 55 bytes
abbrev pub list : List Call
list = block (pos 1000 ∷ pos 0 ∷ pos 0 ∷ []) 3 ∷ []

abbrev pub heard : List ℤ
heard = pos 0 ∷ pos 0 ∷ pos 1000 ∷ []

abbrev pub bytes : List ℕ
bytes =
    82 ∷ 73 ∷ 70 ∷ 70 ∷ 46 ∷ 0 ∷ 0 ∷ 0 ∷ 87 ∷ 65 ∷ 86 ∷ 69 ∷ 102 ∷ 109 ∷ 116 ∷ 32 ∷ 16 ∷ 0 ∷ 0 ∷ 0 ∷ 1 ∷ 0 ∷ 1
    ∷ 0 ∷ 64 ∷ 31 ∷ 0 ∷ 0 ∷ 192 ∷ 93 ∷ 0 ∷ 0 ∷ 3 ∷ 0 ∷ 24 ∷ 0 ∷ 100 ∷ 97 ∷ 116 ∷ 97 ∷ 9 ∷ 0 ∷ 0 ∷ 0 ∷ 0 ∷ 0 ∷ 0
    ∷ 0 ∷ 0 ∷ 0 ∷ 232 ∷ 3 ∷ 0 ∷ 0 ∷ []

pub record Leaves : Type 0 where
  pub samples : puts (fresh quiet) list ≡ heard
  pub recording : left 8000 (puts (fresh quiet) list) (replicate 55 9) ≡ bytes ++ (9 ∷ [])
  pub never_10 : (written 8000 (puts (fresh quiet) list) 55).refusal ≡ 10 → ⊥
  -- "Reading a written file gives the samples and rate back"
  pub back :
      let s = take (written 8000 heard 55).count (left 8000 heard (replicate 55 9)) in
      (recorded s 4 ≡ record { refusal = 0; rate = 8000; count = 3 })
      × (filled s (replicate 4 (pos 77)) ≡ pos 0 ∷ pos 0 ∷ pos 1000 ∷ pos 77 ∷ [])
