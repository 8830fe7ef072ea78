-- The end of a score alone: by its header, or by its records.
use mathlib.Core.Path.{◌≡◌, refl, ◌∙◌}
use mathlib.Core.List.{List}
use Prim.Native.Nat.{ℕ}
use borrow.Author.Tests.{eq-eqb, ne_eqb}
use lib.ListN.{drop}
use Rattle.refusal.specs.Limits.{refusal}
use Rattle.score.specs.Run.{opening, header_limits}
use Rattle.outline.specs.Outline.{opened, run}
use Rattle.outline.specs.Struct.{RunEnd, EndsAs, PlaysAll}

module _ (s : List ℕ) where
  pub run-refused : {n : ℕ} → n ≡ refusal (header_limits s) → (n ≡ 0 → ⊥) → EndsAs (run s) (record { refusal = n; place = 0 })
  unfolding run
  run-refused {n} e f =
      rw (ne_eqb (refusal (header_limits s)) 0 (λ z. f (e ∙ z))) (record { number = e; place = refl })

  pub run-plays : (e : RunEnd) → refusal (header_limits s) ≡ 0
      → PlaysAll (opening s).N (opening s).Na (opened s) (drop 8 s) e → EndsAs (run s) e
  unfolding run
  run-plays e h p = rw (eq-eqb (refusal (header_limits s)) 0 h) p
