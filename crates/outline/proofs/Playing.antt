-- A run by its outline between two records: what is left of it ends as the whole does.
use mathlib.Core.Path.{◌≡◌, refl, sym, ap, ◌∙◌}
use mathlib.Core.List.{List, []}
use Prim.Native.Nat.{ℕ, zero, suc, ◌+◌, ◌≤◌, ◌<◌}
use native.Mathlib.Omega.{arith}
use borrow.Author.Tests.{eq-eqb, ne_eqb}
use lib.ListN.{length, length-drop}
use Rattle.record.specs.Record.{bytes, map_of, record_number, fields, rest}
use Rattle.record.proofs.Reading.{taken-rest}
use Rattle.score.specs.Run.{Outcome, ends, joined}
use Rattle.outline.specs.Outline.{Outline, from, result, record_calls, played, records}
use Rattle.outline.specs.Struct.{PlaysAll}

-- a record that is read takes a byte at least
pub shorter : (t : List ℕ) → 0 < length t → record_number t ≡ 0 → length (rest t) < length t
shorter t h e = rw (← taken-rest t (sym e)) (omega (arith, length-drop (bytes (map_of t)) t))

module _ (N Na : ℕ) where
  no_record : (n : ℕ) (o : Outline) (t : List ℕ) (k : ℕ) → length t ≡ 0 → records N Na n o t k ≡ ends 0 k []
  unfolding records
  no_record zero o t k e = refl
  no_record (suc n) o t k e = rw (eq-eqb (length t) 0 e)

  module _ (n : ℕ) (o : Outline) (t : List ℕ) (k : ℕ) (h : 0 < length t) where
    abbrev later : Outcome
    later = records N Na n (from Na o (record_calls N Na (fields t) o)) (rest t) (k + 1)

    bad_record : (record_number t ≡ 0 → ⊥) → records N Na (suc n) o t k ≡ ends (record_number t) k []
    unfolding records played
    bad_record f = rw (ne_eqb (length t) 0 (λ z. omega arith), ne_eqb (record_number t) 0 f)

    module _ (e : record_number t ≡ 0) where
      stop-record : (result Na o (record_calls N Na (fields t) o) ≡ 0 → ⊥)
          → records N Na (suc n) o t k
          ≡ ends (result Na o (record_calls N Na (fields t) o)) k (record_calls N Na (fields t) o)
      unfolding records played
      stop-record f =
          rw (
            ne_eqb (length t) 0 (λ z. omega arith),
            eq-eqb (record_number t) 0 e,
            ne_eqb (result Na o (record_calls N Na (fields t) o)) 0 f,
          )

      next-record : result Na o (record_calls N Na (fields t) o) ≡ 0
          → records N Na (suc n) o t k ≡ joined (record_calls N Na (fields t) o) later
      unfolding records played
      next-record i =
          rw (
            ne_eqb (length t) 0 (λ z. omega arith),
            eq-eqb (record_number t) 0 e,
            eq-eqb (result Na o (record_calls N Na (fields t) o)) 0 i,
          )

  -- the records in the bytes s on the outline u: left are the bytes t on the outline o, from index k on
  pub record Playing (s : List ℕ) (u o : Outline) (t : List ℕ) (k : ℕ) : Type 0 where
    pub most : ℕ
    pub enough : length t ≤ most
    pub number : (records N Na most o t k).number ≡ (records N Na (length s) u s 0).number
    pub place : (records N Na most o t k).place ≡ (records N Na (length s) u s 0).place
    pub few : k + length t ≤ length s

  pub begun : (s : List ℕ) (u : Outline) → Playing s u u s 0
  begun s u = record { most = length s; enough = omega arith; number = refl; place = refl; few = omega arith }

  module _ (s : List ℕ) (u o : Outline) (t : List ℕ) (k : ℕ) (p : Playing s u o t k) where
    -- the run ends with n here
    ended : {n : ℕ} → (records N Na p.most o t k).number ≡ n → (records N Na p.most o t k).place ≡ k
        → PlaysAll N Na u s (record { refusal = n; place = k })
    ended e i = record { number = sym e ∙ p.number; place = sym i ∙ p.place }

    pub all-played : length t ≤ 0 → PlaysAll N Na u s (record { refusal = 0; place = k })
    all-played h =
        let e = no_record p.most o t k (omega arith) in
        ended (ap (λ (x : Outcome). x.number) e) (ap (λ (x : Outcome). x.place) e)

    module _ (h : 0 < length t) where
      some_left : (n : ℕ) → p.most ≡ n → 0 < n
      some_left n e = omega (arith, e, p.enough, h)

      pub refused : {n : ℕ} → n ≡ record_number t → (n ≡ 0 → ⊥) → PlaysAll N Na u s (record { refusal = n; place = k })
      refused {n} e f = go p.most refl
        where
          go : (m : ℕ) → p.most ≡ m → PlaysAll N Na u s (record { refusal = n; place = k })
          go zero i = absurd (omega (arith, some_left zero i))
          go (suc m) i =
              let q = ap (λ (x : ℕ). records N Na x o t k) i ∙ bad_record m o t k h (λ z. f (e ∙ z)) in
              ended (ap (λ (x : Outcome). x.number) q ∙ sym e) (ap (λ (x : Outcome). x.place) q)

      module _ (e : record_number t ≡ 0) where
        pub stopped : {n : ℕ} → n ≡ result Na o (record_calls N Na (fields t) o) → (n ≡ 0 → ⊥)
            → PlaysAll N Na u s (record { refusal = n; place = k })
        stopped {n} r f = go p.most refl
          where
            go : (m : ℕ) → p.most ≡ m → PlaysAll N Na u s (record { refusal = n; place = k })
            go zero i = absurd (omega (arith, some_left zero i))
            go (suc m) i =
                let q = ap (λ (x : ℕ). records N Na x o t k) i ∙ stop-record m o t k h e (λ z. f (r ∙ z)) in
                ended (ap (λ (x : Outcome). x.number) q ∙ sym r) (ap (λ (x : Outcome). x.place) q)

        pub goes_on : result Na o (record_calls N Na (fields t) o) ≡ 0 → {w : Outline}
            → w ≡ from Na o (record_calls N Na (fields t) o) → Playing s u w (rest t) (k + 1)
        goes_on r {w} j = go p.most refl
          where
            go : (m : ℕ) → p.most ≡ m → Playing s u w (rest t) (k + 1)
            go zero i = absurd (omega (arith, some_left zero i))
            go (suc m) i =
                let q = ap (λ (x : ℕ). records N Na x o t k) i ∙ next-record m o t k h e r in
                let z = ap (λ (x : Outline). records N Na m x (rest t) (k + 1)) j in
                let l = shorter t h e in
                record {
                  most = m;
                  enough = omega (arith, l, i, p.enough);
                  number = ap (λ (x : Outcome). x.number) z ∙ sym (ap (λ (x : Outcome). x.number) q) ∙ p.number;
                  place = ap (λ (x : Outcome). x.place) z ∙ sym (ap (λ (x : Outcome). x.place) q) ∙ p.place;
                  few = omega (arith, l, p.few);
                }
