-- Calls on an instrument in numbers: refusals in their order, and mixes sample by sample. Document 02, L11.
-- A statement alone: proofs/Rows.antt computes it.
use Rattle.std.specs.Prelude.{◌≡◌, List, [], ◌∷◌, ℕ, ℤ, pos, negsuc}
use Rattle.rule.specs.Voice.{tuning}
use Rattle.rule.specs.Calls.{Opening, loss, pluck, instant, commit}
use Rattle.instrument.specs.Strings.{opens, calls, store, load, Play, on, mix, Strings, silent, plays}
use Rattle.instrument.specs.Strings.{numbers, out, counted, lent}

abbrev pub order : ℕ → Opening
order N = record { N = N; L = 2; d = 4096; G = 0; Na = 3 }

-- string 6 is refused by 24 whatever else is wrong; a mix by 9 ahead of 10
abbrev pub wrong : List Play
wrong =
    on 6 (opens (order 0))
    ∷ on 5 (opens (order 0))
    ∷ on 6 (calls (loss 65536))
    ∷ on 0 (calls (loss 65536))
    ∷ on 6 (calls (pluck 256 0 0))
    ∷ on 1 (calls (pluck 256 0 0))
    ∷ on 6 (calls commit)
    ∷ on 2 (calls commit)
    ∷ on 6 (store [])
    ∷ on 3 (store [])
    ∷ on 6 (load [])
    ∷ on 4 (load [])
    ∷ mix (pos 8388608 ∷ []) 2
    ∷ mix (negsuc 8388607 ∷ []) 1
    ∷ on 6 (opens (order 1))
    ∷ on 5 (opens (order 1))
    ∷ mix [] 0
    ∷ []

-- each string is a delay of two samples, as Open's refusal voice is, which order 0 leaves on string 4 too;
-- but string 5 is one of three
abbrev pub opened : Strings
opened = plays silent (on 5 (opens (order 1)) ∷ on 4 (opens (order 1)) ∷ on 4 (opens (order 0)) ∷ [])

pub record Rows : Type 0 where
  pub refused : numbers silent wrong
      ≡ 24 ∷ 1 ∷ 24 ∷ 4 ∷ 24 ∷ 7 ∷ 24 ∷ 21 ∷ 24 ∷ 18 ∷ 24 ∷ 22 ∷ 9 ∷ 10 ∷ 24 ∷ 0 ∷ 0 ∷ []
  -- "the clipped sum of the six"
  pub first : out silent (mix (pos 1000000 ∷ pos 5 ∷ pos 0 ∷ pos 0 ∷ []) 4)
      ≡ pos 0 ∷ pos 0 ∷ pos 6000000 ∷ pos 30 ∷ []
  pub clips : out silent (mix (pos 2000000 ∷ negsuc 1999999 ∷ pos 0 ∷ pos 0 ∷ []) 4)
      ≡ pos 0 ∷ pos 0 ∷ pos 8388607 ∷ negsuc 8388606 ∷ []
  pub one_later : out opened (mix (pos 1000000 ∷ pos 0 ∷ pos 0 ∷ pos 0 ∷ []) 4)
      ≡ pos 0 ∷ pos 0 ∷ pos 5000000 ∷ pos 1000000 ∷ []
  -- "counts and lengths 0"
  pub counts : (counted opened 5 (calls (instant (tuning 1 1 4096))) ≡ 3)
      × (counted opened 6 (calls (instant (tuning 1 1 4096))) ≡ 0)
  pub lengths : (counted silent 0 (store (9 ∷ 9 ∷ [])) ≡ 1) × (counted silent 6 (store (9 ∷ 9 ∷ [])) ≡ 0)
  pub slices : (lent silent 0 (9 ∷ 9 ∷ []) ≡ 0 ∷ 9 ∷ []) × (lent silent 6 (9 ∷ 9 ∷ []) ≡ 9 ∷ 9 ∷ [])
