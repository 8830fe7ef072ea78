-- Two tests, and one more after them: what they give together, where each passes or not.
use mathlib.Core.Path.{◌≡◌, sym, ◌∙◌}
use mathlib.Core.List.{[], ◌∷◌}
use Prim.Native.Nat.{ℕ}
use lib.Dec.{T}
use Rattle.refusal.specs.declared.Refusal.{Refusal}
use Rattle.refusal.specs.Limits.{Limit, refusal}
use Rattle.refusal.specs.Numbers.{number_of}
use Rattle.refusal.specs.Returned.{numbered}
use Rattle.refusal.proofs.Numbers.{refused-above}
use Rattle.refusal.proofs.Passed.{stops, passes}

module _ (a b c : Limit) where
  pub first-refuses : (r : Refusal) → number_of r ≡ refusal (a ∷ []) → number_of r ≡ refusal (a ∷ b ∷ c ∷ [])
  first-refuses r e = e ∙ sym (stops (a ∷ []) (b ∷ c ∷ []) (λ z. refused-above r (e ∙ z)))

  module _ (t : T (numbered (a ∷ []))) (z : 0 ≡ refusal (a ∷ [])) where
    pub second-refuses : (r : Refusal) → number_of r ≡ refusal (b ∷ []) → number_of r ≡ refusal (a ∷ b ∷ c ∷ [])
    second-refuses r e =
        e ∙ sym (stops (b ∷ []) (c ∷ []) (λ z. refused-above r (e ∙ z)))
        ∙ sym (passes (a ∷ []) (b ∷ c ∷ []) t (sym z))

    pub third : (u : T (numbered (b ∷ []))) → 0 ≡ refusal (b ∷ []) → {n : ℕ} → n ≡ refusal (c ∷ [])
        → n ≡ refusal (a ∷ b ∷ c ∷ [])
    third u y e =
        e ∙ sym (passes (b ∷ []) (c ∷ []) u (sym y))
        ∙ sym (passes (a ∷ []) (b ∷ c ∷ []) t (sym z))
