-- The places of the 27 words, by words that all differ: a definition that read another place would not give
-- this head.
use mathlib.Core.Path.{◌≡◌, refl}
use mathlib.Core.List.{[], ◌∷◌}
use lib.IntN.{pos, negsuc}
use Rattle.voice.specs.declared.Kind.TheVariants.{Announced}
use Rattle.voice.specs.declared.Waiting.TheVariants.{Prepared}
use Rattle.packed.specs.Words.{head_of}

places : head_of (
    11 ∷ 12 ∷ 13 ∷ 2147483652 ∷ 2147483653 ∷ 2147483654 ∷ 2147483647 ∷ 2147483646 ∷ 2147483645
    ∷ 14 ∷ 15 ∷ 2147483657 ∷ 1
    ∷ 21 ∷ 22 ∷ 23 ∷ 2147483672 ∷ 2147483673 ∷ 2147483674 ∷ 2147483637 ∷ 2147483636 ∷ 2147483635
    ∷ 31 ∷ 32 ∷ 33 ∷ 34 ∷ 35 ∷ [])
    ≡ record {
      filter = record {
        tuning = record { order = 11; length = 12; delay = 13 };
        coefficients = record { a1 = pos 4; a2 = pos 5; a3 = pos 6 };
        state = record { v1 = negsuc 0; v2 = negsuc 1; v3 = negsuc 2 };
      };
      loss = 14;
      advance = 15;
      last = record { n = pos 9 };
      waiting = Prepared Announced (record {
        tuning = record { order = 21; length = 22; delay = 23 };
        coefficients = record { a1 = pos 24; a2 = pos 25; a3 = pos 26 };
        state = record { v1 = negsuc 10; v2 = negsuc 11; v3 = negsuc 12 };
      }) 31;
      pluck = record { amplitude = 32; left = 33; noise = 34 };
      at = 35;
    }
unfolding head_of
places = refl
