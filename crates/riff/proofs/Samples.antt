-- What each three bytes of a file's data read as.
-- Assumes nothing.
use mathlib.Core.Path.{◌≡◌, ap, ◌∙◌}
use mathlib.Core.List.{List, map}
use Prim.Native.Nat.{ℕ, ◌+◌, ◌*◌, ◌<◌}
use lib.IntN.{ℤ, pos}
use lib.ListN.{get_or, take, drop, get_or-map}
use lib.Seq.{drop-drop}
use Rattle.integer.specs.Rounding.{clip}
use Rattle.octets.specs.Octets.{number, signed, half, loaded}
use Rattle.octets.proofs.Lists.{loaded_at}

-- what n samples of the file s read as
abbrev pub all : List ℕ → ℕ → List ℤ
all s n = map clip (loaded 3 n (drop 44 s))

-- sample i of n
pub sample-at : (s : List ℕ) (n i : ℕ) → i < n
    → get_or (map clip (loaded 3 n (drop 44 s))) i (pos 0)
    ≡ clip (signed (half 3) (number (take 3 (drop (44 + 3 * i) s))))
unfolding clip
sample-at s n i h =
    get_or-map clip (loaded 3 n (drop 44 s)) i (pos 0)
    ∙ ap clip (loaded_at 3 n (drop 44 s) i h)
    ∙ ap (λ (l : List ℕ). clip (signed (half 3) (number (take 3 l)))) (drop-drop (3 * i) 44 s)
