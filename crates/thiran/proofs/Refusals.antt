-- Demand 1 of the routine `coefficients`: each number's condition, 0 for just what is taken, and the answers.
-- Assumes nothing.
use mathlib.Core.Path.{◌≡◌, sym, ap, ◌∙◌}
use Rattle.std.specs.Prelude.{Ok, Err}
use Prim.Native.Nat.{ℕ}
use borrow.Author.Tests.{eq-eqb, ne_eqb}
use lib.IntN.{pos}
use lib.ListN.{get_or}
use Rattle.refusal.specs.Limits.{refusal}
use Rattle.refusal.specs.Orders.{Takes, order, delay}
use Rattle.refusal.specs.Returned.{Returned, Kept, AllKept, none, more}
use Rattle.refusal.proofs.Returned.{returned}
use Rattle.thiran.specs.Coefficients.{coefficients}
use Rattle.refusal.specs.declared.Refusal.{Refusal}
use Rattle.refusal.specs.Numbers.{number_of}
use Rattle.refusal.proofs.Numbers.{refused-above}
use Rattle.thiran.specs.Answers.{limits, design, designed}

module _ (N d : ℕ) where
  pub refusals : Returned (limits N d)
  refusals = returned (limits N d) tt

  pub takes : refusal (limits N d) ≡ 0 → Takes N d
  takes e = taken (refusals.accepted.0 e)
    where
      taken : AllKept (limits N d) → Takes N d
      taken (more o (more p none)) =
          record { least = o.least; most = o.most; low = p.least; high = p.most }

  pub takes_0 : Takes N d → refusal (limits N d) ≡ 0
  takes_0 t =
      let o : Kept (order N) = record { least = t.least; most = t.most } in
      let p : Kept (delay N d) = record { least = t.low; most = t.high } in
      refusals.accepted.1 (more o (more p none))

  pub design-refused : (refusal (limits N d) ≡ 0 → ⊥)
      → design N d ≡ record { refusal = refusal (limits N d); a1 = pos 0; a2 = pos 0; a3 = pos 0 }
  unfolding design
  design-refused f = rw (ne_eqb (refusal (limits N d)) 0 f)

  pub designed-err : (r : Refusal) → number_of r ≡ refusal (limits N d) → designed (Err r) ≡ design N d
  designed-err r e =
      ap (λ (n : ℕ). record { refusal = n; a1 = pos 0; a2 = pos 0; a3 = pos 0 }) e
      ∙ sym (design-refused (λ z. refused-above r (e ∙ z)))

  pub design-taken : Takes N d
      → design N d
      ≡ record {
        refusal = 0;
        a1 = get_or (coefficients N d) 0 (pos 0);
        a2 = get_or (coefficients N d) 1 (pos 0);
        a3 = get_or (coefficients N d) 2 (pos 0);
      }
  unfolding design
  design-taken t = rw (eq-eqb (refusal (limits N d)) 0 (takes_0 t))
