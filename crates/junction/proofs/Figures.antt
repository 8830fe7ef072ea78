-- The figure at the step at which it is put out, and after later ones.
--
use mathlib.Core.Path.{◌≡◌, sym, ◌∙◌}
use mathlib.Core.List.{List, [], ◌∷◌, ◌++◌}
use Prim.Native.Nat.{ℕ, ◌+◌, ◌-◌, ◌≤◌, ◌<◌}
use native.Mathlib.Omega.{arith}
use lib.IntN.{ℤ, pos}
use lib.ListN.{length, drop, get_or-append}
use lib.Seq.{take_at, get_or_at, take-append-le}
use Rattle.integer.specs.Rounding.{M}
use Rattle.refusal.specs.Limits.{Between}
use Rattle.allpass.specs.Allpass.{rest, out, run}
use Rattle.allpass.specs.Bounds.{Within}
use Rattle.junction.specs.Junction.{Side, A}
use Rattle.junction.specs.History.{new}
use Rattle.junction.specs.Click.{Figure}
use Rattle.junction.proofs.Filters.{late-near, late-same}

module _ (s : Side) (d Na c m : ℕ) (due : c + Na ≤ m) (xs ys : List ℤ) (x y : ℤ) where
  new-here : length xs ≡ m → new s d (xs ++ (x ∷ [])) m ≡ out (A s d) (run (A s d) (rest 1) xs) x
  unfolding new
  new-here e = rw (take_at xs (x ∷ []) m e, get_or_at xs x [] (pos 0) m e)

  pub figure-here : Between 2049 d 6143 → length xs ≡ m → length ys ≡ m → Within M xs
      → y ≡ out (A s d) (run (A s d) (rest 1) (drop c xs)) x
      → Figure (ys ++ (y ∷ [])) (xs ++ (x ∷ [])) s d Na c (c + Na) m
  figure-here b e i h q =
      let k : length xs - c ≡ Na + (m - (c + Na)) = omega arith in
      record {
        near = rw (get_or_at ys y [] (pos 0) m i, new-here e, q) (rw k at (late-near s d c xs x b h));
        same =
            λ z. get_or_at ys y [] (pos 0) m i
            ∙ q
            ∙ late-same s d c xs x
            (λ j l. sym (get_or-append xs (x ∷ []) (pos 0) j (omega arith)) ∙ z j l)
            ∙ sym (new-here e);
      }

  new-on : m < length xs → new s d (xs ++ (x ∷ [])) m ≡ new s d xs m
  unfolding new
  new-on l = rw (take-append-le m xs (x ∷ []) (omega arith), get_or-append xs (x ∷ []) (pos 0) m l)

  pub figure-on : m < length xs → m < length ys → Figure ys xs s d Na c (c + Na) m
      → Figure (ys ++ (y ∷ [])) (xs ++ (x ∷ [])) s d Na c (c + Na) m
  figure-on l k f = record {
    near = rw (get_or-append ys (y ∷ []) (pos 0) m k, new-on l) f.near;
    same =
        λ z. get_or-append ys (y ∷ []) (pos 0) m k
        ∙ f.same (λ j p. sym (get_or-append xs (x ∷ []) (pos 0) j (omega arith)) ∙ z j p)
        ∙ sym (new-on l);
  }
