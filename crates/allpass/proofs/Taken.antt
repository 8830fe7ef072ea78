-- An order N and a delay d that it takes: the coefficients in the struct are fit for the filter, and what
-- `effective_length` returns then and otherwise. Assumes nothing.
use mathlib.Core.Path.{◌≡◌, sym, ap, ◌∙◌}
use Prim.Native.Nat.{ℕ, ◌≤◌}
use borrow.Author.Tests.{eq-eqb, ne_eqb}
use Rattle.std.specs.Prelude.{Result, Err}
use Rattle.refusal.specs.declared.Refusal.{Refusal}
use Rattle.refusal.specs.Limits.{refusal}
use Rattle.refusal.specs.Numbers.{number_of}
use Rattle.refusal.proofs.Numbers.{refused-above}
use Rattle.refusal.specs.Orders.{Takes}
use Rattle.thiran.specs.Coefficients.{coefficients, norm}
use Rattle.thiran.specs.Answers.{limits, padded, taps}
use Rattle.thiran.specs.declared.formula.Coefficients.{Coefficients}
use Rattle.thiran.proofs.Lists.{length-coefficients}
use Rattle.thiran.proofs.Refusals.{takes_0}
use Rattle.thiran.proofs.Small.{norm-coefficients}
use Rattle.allpass.specs.Length.{response, last_above, effective_length, measured}
use Rattle.allpass.proofs.Stored.{taps-padded}

module _ (N d : ℕ) (t : Takes N d) (c : Coefficients) (e : c ≡ padded (coefficients N d)) where
  pub taken-taps : taps N c ≡ coefficients N d
  taken-taps =
      let A = coefficients N d in
      ap (λ (c : Coefficients). taps N c) e ∙ taps-padded N A (length-coefficients N d) t.most

  pub taken-small : norm (taps N c) ≤ 32768
  taken-small = rw taken-taps (norm-coefficients N d t)

module _ (N d threshold : ℕ) where
  pub length-refused : (refusal (limits N d) ≡ 0 → ⊥)
      → effective_length N d threshold ≡ record { refusal = refusal (limits N d); length = 0 }
  unfolding effective_length
  length-refused f = rw (ne_eqb (refusal (limits N d)) 0 f)

  pub length_taken : Takes N d
      → effective_length N d threshold
      ≡ record { refusal = 0; length = last_above threshold (response (coefficients N d) N) }
  unfolding effective_length
  length_taken t = rw (eq-eqb (refusal (limits N d)) 0 (takes_0 N d t))

  pub measured-err : {x : Result ℕ Refusal} (r : Refusal) → x ≡ Err r → number_of r ≡ refusal (limits N d)
      → measured x ≡ effective_length N d threshold
  measured-err r i e =
      rw i (ap (λ (n : ℕ). record { refusal = n; length = 0 }) e ∙ sym (length-refused (λ z. refused-above r (e ∙ z))))
