-- The header of a score: what it is refused by, and what the run is by that.
-- Assumes nothing.
use mathlib.Core.Path.{◌≡◌, refl, sym, ap, ◌∙◌}
use mathlib.Core.List.{List, []}
use Prim.Native.Nat.{ℕ, ◌≤◌, ◌<◌}
use native.Mathlib.Omega.{arith}
use borrow.Author.Tests.{eq-eqb, ne_eqb}
use lib.IntN.{ℤ}
use lib.ListN.{length, drop}
use Rattle.refusal.specs.Limits.{Limit, refusal}
use Rattle.refusal.proofs.Returned.{here, past, kept-is, is-met}
use Rattle.rule.specs.Calls.{open_limits}
use Rattle.rule.specs.State.{fresh}
use Rattle.score.specs.Played.{Played}
use Rattle.score.specs.Run.{ends, opening, header_limits, run}
use Rattle.score.specs.Played.{PlaysAll, Runs}
use Rattle.score.proofs.Playing.{plays_as}

module _ (s : List ℕ) where
  whole : Limit
  whole = record { number = 14; low = 8; value = length s; high = length s }

  pub header-cut : length s < 8 → 14 ≡ refusal (header_limits s)
  unfolding whole
  header-cut h = sym (here whole (open_limits (opening s)) (is-met whole (λ k. omega (arith, k.least))))

  pub header-whole : 8 ≤ length s → {n : ℕ} → n ≡ refusal (open_limits (opening s)) → n
      ≡ refusal (header_limits s)
  unfolding whole
  header-whole h e =
      past whole (open_limits (opening s)) (kept-is whole (record { least = h; most = omega arith })) e

  pub run-refused : (out : List ℤ) {n : ℕ} → n ≡ refusal (header_limits s) → (n ≡ 0 → ⊥)
      → Runs s out (record { refusal = n; place = 0; written = 0 }) out
  unfolding run
  run-refused out {n} e f =
      let i : run s (length out) ≡ ends n 0 []
      = rw (ne_eqb (refusal (header_limits s)) 0 (λ z. f (e ∙ z))) (ap (λ (m : ℕ). ends m 0 []) (sym e)) in
      plays_as (fresh (opening s)) out [] i refl refl

  pub run-played : (out : List ℤ) (r : Played) (after : List ℤ) → refusal (header_limits s) ≡ 0
      → PlaysAll (drop 8 s) (fresh (opening s)) out r after → Runs s out r after
  unfolding run
  run-played out r after e p = rw (eq-eqb (refusal (header_limits s)) 0 e) p
