-- The heads and the lines between the calls of the chain, their rings, and that they are within their limits.
use mathlib.Core.Path.{◌≡◌, refl, ap}
use mathlib.Core.List.{List, [], ◌∷◌}
use Prim.Native.Nat.{ℕ, ◌≤◌, ◌<◌, ◌*◌}
use native.Mathlib.Omega.{arith}
use lib.IntN.{ℤ, pos, negsuc, nat_abs}
use lib.ListN.{replicate}
use Rattle.integer.specs.Rounding.{M, floor, nearest}
use Rattle.refusal.specs.Orders.{Takes}
use Rattle.thiran.specs.Formula.{factor, a}
use Rattle.thiran.specs.Coefficients.{coefficient, coefficients}
use Rattle.thiran.specs.Answers.{padded}
use Rattle.allpass.specs.Stored.{stored}
use Rattle.allpass.specs.Bounds.{Within, none, more}
use Rattle.allpass.proofs.Bounds.{rest-within}
use Rattle.line.specs.Ring.{ring}
use Rattle.line.proofs.Ring.{ring-silent}
use Rattle.voice.specs.declared.Filter.{Filter}
use Rattle.voice.specs.declared.Head.{Head}
use Rattle.voice.specs.Struct.{voice_of, state_of}
use Rattle.voice.specs.Valid.{Tuned, Fit}
use Rattle.instances.specs.Chain.{filter, head, line}

abbrev pub zeros : ℕ → List ℤ
zeros n = replicate n (pos 0)

-- ---- the heads and the lines between
abbrev pub h₀ : Head
h₀ = head (filter 4096 (pos 0) (pos 0)) 65535 (pos 0) 0

abbrev pub hₐ : Head
hₐ = head (filter 4096 (pos 0) (pos 1000000)) 65535 (pos 0) 2

abbrev pub h₁ : Head
h₁ = head (filter 4096 (pos 0) (negsuc 499999)) 65535 (pos 1000000) 3

abbrev pub h₂ : Head
h₂ = head (filter 4096 (pos 0) (negsuc 499999)) 60000 (pos 1000000) 3

abbrev pub h₃ : Head
h₃ = head (filter 2049 (pos 21831) (negsuc 499999)) 60000 (pos 1000000) 3

abbrev pub lₐ : List ℤ
lₐ = pos 1000000 ∷ negsuc 499999 ∷ zeros 2110

abbrev pub l₁ : List ℤ
l₁ = pos 1000000 ∷ negsuc 499999 ∷ pos 499992 ∷ zeros 2109

-- newest first
abbrev pub rₐ : List ℤ
rₐ = negsuc 499999 ∷ pos 1000000 ∷ zeros 2110

abbrev pub r₁ : List ℤ
r₁ = pos 499992 ∷ negsuc 499999 ∷ pos 1000000 ∷ zeros 2109

abbrev pub r₄ : List ℤ
r₄ = pos 330522 ∷ pos 499992 ∷ negsuc 499999 ∷ pos 1000000 ∷ zeros 2108

pub ringₐ : ring 2 lₐ ≡ rₐ
unfolding ring
ringₐ = refl

pub ring₁ : ring 3 l₁ ≡ r₁
unfolding ring
ring₁ = refl

pub ring₄ : ring 4 line ≡ r₄
unfolding ring
ring₄ = refl

-- the state of a head whose ring is known
pub at : (h : Head) (l : List ℤ) {k : List ℤ} → ring h.at l ≡ k → state_of h l ≡ record { voice = voice_of h; line = k }
at h l e = ap (λ (k : List ℤ). record { voice = voice_of h; line = k }) e

-- ---- they are within their limits
pub low-fit : (v : ℤ) → nat_abs v ≤ 2 * M → Tuned (filter 4096 (pos 0) v)
unfolding floor nearest factor a coefficient coefficients padded stored
low-fit v h = record {
  takes = record { least = omega arith; most = omega arith; low = omega arith; high = omega arith };
  short = omega arith;
  long = omega arith;
  coefficients_are = refl;
  past = refl;
  within = more h none;
}

pub high-fit : (v : ℤ) → nat_abs v ≤ 2 * M → Tuned (filter 2049 (pos 21831) v)
unfolding floor nearest factor a coefficient coefficients padded stored
high-fit v h = record {
  takes = record { least = omega arith; most = omega arith; low = omega arith; high = omega arith };
  short = omega arith;
  long = omega arith;
  coefficients_are = refl;
  past = refl;
  within = more h none;
}

pub fits : {f : Filter} {G : ℕ} {y : ℤ} {i : ℕ} → Tuned f → G ≤ 65535 → nat_abs y ≤ M → i < 2112
    → Fit (head f G y i)
fits k g y i = record {
  filter = k;
  loss = g;
  advance = omega arith;
  last = y;
  waiting = tt;
  pluck = record {
    amplitude = omega arith;
    left = omega arith;
    noise = omega arith;
    none_left = λ e. (refl, refl);
  };
  at = i;
}

pub inₐ : Within M (ring 2 lₐ)
inₐ =
    rw ringₐ
    (more {x = negsuc 499999} (omega arith) (more {x = pos 1000000} (omega arith) (rest-within 2110)))

pub in₁ : Within M (ring 3 l₁)
in₁ =
    rw ring₁
    (more {x = pos 499992} (omega arith)
    (more {x = negsuc 499999} (omega arith) (more {x = pos 1000000} (omega arith) (rest-within 2109))))

pub in₄ : Within M (ring 4 line)
in₄ =
    rw ring₄
    (more {x = pos 330522} (omega arith)
    (more {x = pos 499992} (omega arith)
    (more {x = negsuc 499999} (omega arith) (more {x = pos 1000000} (omega arith) (rest-within 2108)))))

pub in₀ : Within M (ring 0 (zeros 2112))
in₀ = rw ring-silent (rest-within 2112)
