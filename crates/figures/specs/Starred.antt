-- "Those with * form the table to be proved": checked figures of document 01, one fact about the definitions.
-- proofs/Starred.antt proves it by computation. Assumes nothing.
use Rattle.std.specs.Prelude.{◌≡◌, List, [], ◌∷◌, ℕ, zero, suc, ℤ, pos, negsuc, replicate}
use Rattle.thiran.specs.Coefficients.{coefficients}
use Rattle.allpass.specs.Allpass.{rest, next, out}
use Rattle.allpass.specs.Length.{effective_length}
use Rattle.noise.specs.Noise as Noise
use Rattle.pitch.specs.Pitch.{pitch}
use Rattle.rule.specs.Calls.{block}
use Rattle.rule.specs.State.{fresh, puts}

-- the outputs of a filter over the inputs fs
abbrev pub outputs : List ℤ → List ℤ → List ℤ → List ℤ
outputs A v [] = []
outputs A v (f ∷ fs) = out A v f ∷ outputs A (next A v f) fs

-- n draws on a noise state
abbrev pub draws : ℕ → ℕ → List ℤ
draws zero z = []
draws (suc n) z = Noise.value (Noise.next z) ∷ draws n (Noise.next z)

pub record Starred : Type 0 where
  -- "d 2,049: A1 21,831. 4,096: 0. 6,144: −13,107. 2,979: 10,347"
  pub d2049 : coefficients 1 2049 ≡ pos 21831 ∷ []
  pub d4096 : coefficients 1 4096 ≡ pos 0 ∷ []
  pub d6144 : coefficients 1 6144 ≡ negsuc 13106 ∷ []
  pub d2979 : coefficients 1 2979 ≡ pos 10347 ∷ []
  -- "Order 2, d 6,145: 26,199 and −1,872. 10,240: −18,725 and 3,121. 8,192: 0 and 0"
  pub d6145 : coefficients 2 6145 ≡ pos 26199 ∷ negsuc 1871 ∷ []
  pub d10240 : coefficients 2 10240 ≡ negsuc 18724 ∷ pos 3121 ∷ []
  pub d8192 : coefficients 2 8192 ≡ pos 0 ∷ pos 0 ∷ []
  -- "Order 1, d 6,144, inputs 1,000, 0, 0, 0": "becomes −199, 961, 192, 38" (document 02, L7)
  pub allpass :
      outputs (coefficients 1 6144) (rest 1) (pos 1000 ∷ pos 0 ∷ pos 0 ∷ pos 0 ∷ [])
      ≡ negsuc 198 ∷ pos 961 ∷ pos 192 ∷ pos 38 ∷ []
  -- "L 3, d 4,096, G 32,768, input 1,000 then zeros: 0, 0, 0, 0, 1000, 0, 0, 0, 250, 250": of order 1, which
  -- alone takes this d, and Na 0, since nothing changes
  pub loop :
      puts (fresh (record { N = 1; L = 3; d = 4096; G = 32768; Na = 0 }))
      (block (pos 1000 ∷ replicate 9 (pos 0)) 10 ∷ [])
      ≡ pos 0 ∷ pos 0 ∷ pos 0 ∷ pos 0 ∷ pos 1000 ∷ pos 0 ∷ pos 0 ∷ pos 0 ∷ pos 250 ∷ pos 250 ∷ []
  -- "Seed 0 draws −17,298, −14,512, 20,940"
  pub draw : draws 3 0 ≡ negsuc 17297 ∷ negsuc 14511 ∷ pos 20940 ∷ []
  -- "Rate 44,100, note 69: order 1 gives 99 and 2,979; order 2 gives 98 and 7,075"
  pub note1 : pitch 1 44100 69 ≡ record { refusal = 0; length = 99; delay = 2979 }
  pub note2 : pitch 2 44100 69 ≡ record { refusal = 0; length = 98; delay = 7075 }
  -- "Order 2, d 9,159, threshold 1,000": "that figure becomes 4" (document 02, L4)
  pub length : effective_length 2 9159 1000 ≡ record { refusal = 0; length = 4 }
