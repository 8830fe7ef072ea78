-- The number of a record, and what reading it gives by that number.
-- Assumes nothing.
use mathlib.Core.Path.{◌≡◌, refl, sym, ap, ◌∙◌}
use mathlib.Core.List.{List, [], ◌∷◌}
use Prim.Native.Nat.{ℕ, ◌≤◌, ◌<◌}
use native.Mathlib.Omega.{arith}
use borrow.Author.Tests.{eq-eqb, ne_eqb}
use lib.ListN.{length, drop, replicate}
use Rattle.refusal.specs.Returned.{Returned}
use Rattle.refusal.proofs.Returned.{here, past, kept-is, is-met, returned}
use Rattle.record.specs.Record.{bytes, map_of, ill_formed, whole, formed}
use Rattle.record.specs.Record.{record_limits, record_number, read, fields, rest}

-- demand 1 of reading a record: 14, then 15, each where its condition holds and no earlier one does
pub record-returned : (s : List ℕ) → Returned (record_limits s)
record-returned s = returned (record_limits s) tt

module _ (s : List ℕ) where
  pub cut_short : length s < bytes (map_of s) → 14 ≡ record_number s
  unfolding record_number
  cut_short h =
      sym (here (whole s) (formed (map_of s) ∷ []) (is-met (whole s) (λ k. omega (arith, k.least))))

  module _ (h : bytes (map_of s) ≤ length s) where
    pub bad_map : (ill_formed (map_of s) ≡ 0 → ⊥) → 15 ≡ record_number s
    unfolding record_number
    bad_map f =
        past (whole s) (formed (map_of s) ∷ []) (kept-is (whole s) (record { least = h; most = omega arith }))
        (sym (here (formed (map_of s)) [] (is-met (formed (map_of s)) (λ k. f (omega (arith, k.most))))))

    pub good_map : ill_formed (map_of s) ≡ 0 → 0 ≡ record_number s
    unfolding record_number
    good_map e =
        past (whole s) (formed (map_of s) ∷ []) (kept-is (whole s) (record { least = h; most = omega arith }))
        (past (formed (map_of s)) [] (kept-is (formed (map_of s))
        (record { least = omega arith; most = omega (arith, e) })) refl)

  module _ {n : ℕ} (e : n ≡ record_number s) where
    pub refused-fields : (n ≡ 0 → ⊥) → n ∷ replicate 8 0 ≡ fields s
    unfolding fields
    refused-fields f = rw (ne_eqb (record_number s) 0 (λ z. f (e ∙ z))) (ap (λ (k : ℕ). k ∷ replicate 8 0) e)

    pub refused-rest : (n ≡ 0 → ⊥) → s ≡ rest s
    unfolding rest
    refused-rest f = rw (ne_eqb (record_number s) 0 (λ z. f (e ∙ z)))

  module _ (e : 0 ≡ record_number s) where
    pub taken-fields : 0 ∷ read s ≡ fields s
    unfolding fields
    taken-fields = rw (eq-eqb (record_number s) 0 (sym e)) (ap (λ (k : ℕ). k ∷ read s) e)

    pub taken-rest : drop (bytes (map_of s)) s ≡ rest s
    unfolding rest
    taken-rest = rw (eq-eqb (record_number s) 0 (sym e))
