-- What `read_record` returns: the definitions' counts of bits are document 01's single bits.
-- Assumes nothing.
use mathlib.Core.Path.{◌≡◌, refl, sym, ap, subst, ◌∙◌}
use mathlib.Core.Logic.{◌↔◌}
use mathlib.Core.List.{List, [], ◌∷◌}
use Prim.Native.Nat.{ℕ, zero, suc, ◌+◌, ◌≤◌, ◌<◌}
use native.Mathlib.Omega.{arith}
use native.Mathlib.Decide.{ℕ_discrete, dec_lt}
use lib.ListN.{length, get_or, drop, replicate}
use Rattle.refusal.specs.Limits.{Between}
use Rattle.refusal.proofs.Tests.{refused, accepted}
use Rattle.record.specs.Record.{bit, before, bytes, map_of, without, ill_formed, whole, formed}
use Rattle.record.specs.Record.{field, record_number, read, fields, rest}
use Rattle.record.specs.Returns.{Stands, IllFormed, count, seed, instant, field_bytes}
use Rattle.record.specs.Returns.{Field, Accepted, Reads, Returns}
use Rattle.record.proofs.Reading.{refused-fields, refused-rest, taken-fields, taken-rest}

-- ---- bits
low : (b : ℕ) → b < 2 → (b ≡ 1 → ⊥) → b ≡ 0
low zero h f = refl
low (suc zero) h f = absurd (f refl)
low (suc (suc b)) h f = absurd (omega arith)

without-none : (b c : ℕ) → (c ≡ 0 → b ≡ 0) → without b c ≡ 0
without-none b zero f = f refl
without-none b (suc c) f = refl

without_all : (b : ℕ) {c : ℕ} → c ≡ 0 → without b c ≡ b
without_all b e = rw e refl

module _ (m : ℕ) where
  pub down : (k : ℕ) → (Stands m k → ⊥) → bit m k ≡ 0
  down k f = low (bit m k) (omega arith) f

  -- ---- 15
  abbrev plucks : ℕ
  plucks = without (bit m 5 + bit m 6) (bit m 4)

  abbrev changes : ℕ
  changes = without (bit m 7) (bit m 1 + bit m 2)

  pub well : (IllFormed m → ⊥) → ill_formed m ≡ 0
  well f =
      let p : plucks ≡ 0 = without-none (bit m 5 + bit m 6) (bit m 4) (λ z.
      let none : Stands m 4 → ⊥ = λ s. omega (arith, z, s) in
      omega (arith, down 5 (λ s. f (count s none)), down 6 (λ s. f (seed s none)))) in
      let c : changes ≡ 0 = without-none (bit m 7) (bit m 1 + bit m 2) (λ z.
      down 7 (λ s. f (instant s (λ u. omega (arith, z, u)) (λ u. omega (arith, z, u))))) in
      omega (arith, p, c)

  pub ill : IllFormed m → ill_formed m ≡ 0 → ⊥
  ill (count s f) e = omega (arith, e, s, without_all (bit m 5 + bit m 6) (down 4 f))
  ill (seed s f) e = omega (arith, e, s, without_all (bit m 5 + bit m 6) (down 4 f))
  ill (instant s f g) e =
      let z : bit m 1 + bit m 2 ≡ 0 = omega (arith, down 1 f, down 2 g) in
      omega (arith, e, s, without_all (bit m 7) z)

  -- which bit stands ill, where one does
  pluck-ill : Dec (Stands m 4) → Dec (Stands m 5) → Dec (Stands m 6) → (plucks ≡ 0 → ⊥) → IllFormed m
  pluck-ill (no a) (yes b) c f = count b a
  pluck-ill (no a) (no b) (yes c) f = seed c a
  pluck-ill (no a) (no b) (no c) f =
      absurd (f (without-none (bit m 5 + bit m 6) (bit m 4) (λ z. omega (arith, down 5 b, down 6 c))))
  pluck-ill (yes a) b c f =
      absurd (f (without-none (bit m 5 + bit m 6) (bit m 4) (λ z. absurd (omega (arith, z, a)))))

  change-ill : Dec (Stands m 1) → Dec (Stands m 2) → Dec (Stands m 7) → (changes ≡ 0 → ⊥) → IllFormed m
  change-ill (no a) (no b) (yes c) f = instant c a b
  change-ill (no a) (no b) (no c) f =
      absurd (f (without-none (bit m 7) (bit m 1 + bit m 2) (λ z. down 7 c)))
  change-ill (yes a) b c f =
      absurd (f (without-none (bit m 7) (bit m 1 + bit m 2) (λ z. absurd (omega (arith, z, a)))))
  change-ill (no a) (yes b) c f =
      absurd (f (without-none (bit m 7) (bit m 1 + bit m 2) (λ z. absurd (omega (arith, z, b)))))

  pub stands : (k : ℕ) → Dec (Stands m k)
  stands k = ℕ_discrete (bit m k) 1

  pub found : (ill_formed m ≡ 0 → ⊥) → IllFormed m
  found f = go (ℕ_discrete plucks 0)
    where
      go : Dec (plucks ≡ 0) → IllFormed m
      go (no p) = pluck-ill (stands 4) (stands 5) (stands 6) p
      go (yes p) = change-ill (stands 1) (stands 2) (stands 7) (λ c. f (omega (arith, p, c)))

  -- ---- the bytes of a record
  pub bytes_are : bytes m ≡ 1 + field_bytes m
  bytes_are = omega arith

-- ---- a field
field_is : (s : List ℕ) (m k at : ℕ) → m ≡ map_of s → before m k ≡ at → Field s m k at (field s k)
unfolding field
field_is s m k at e i = record {
  stands = λ z. rw (← e, z, i);
  absent = λ f. rw (← e, down m k f);
}

-- ---- the number, and by it what is left
module _ (m : ℕ) (t : List ℕ) where
  abbrev s : List ℕ
  s = m ∷ t

  abbrev n : ℕ
  n = record_number s

  number_is : n ≡ get_or (fields s) 0 0
  unfolding fields
  number_is = refl

  -- a statement about n is one about the first number that is left
  of-n : {A : Type 0} (j : ℕ) → (n ≡ j) ↔ A → (get_or (fields s) 0 0 ≡ j) ↔ A
  of-n j i = (λ e. i.0 (number_is ∙ e), λ a. sym number_is ∙ i.1 a)

  enough : 1 + field_bytes m ≤ length s → Between (bytes m) (length s) (length s)
  enough h = record { least = omega (arith, h, bytes_are m); most = omega arith }

  cut : (n ≡ 14) ↔ (length s < 1 + field_bytes m)
  unfolding record_number
  cut =
      let i = refused [] (whole s) (formed m ∷ []) tt in (
        λ e. go (dec_lt (length s) (1 + field_bytes m)) (i.0 e),
        λ l. i.1 (λ b. omega (arith, b.least, bytes_are m)),
      )
    where
      go : Dec (length s < 1 + field_bytes m) → (Between (bytes m) (length s) (length s) → ⊥)
          → length s < 1 + field_bytes m
      go (yes l) f = l
      go (no l) f = absurd (f (enough (omega arith)))

  ill-is : (n ≡ 15) ↔ ((1 + field_bytes m ≤ length s) × IllFormed m)
  unfolding record_number
  ill-is =
      let i = refused (whole s ∷ []) (formed m) [] tt in (
        λ e.
            let p = i.0 e in (
              omega (arith, p.0.least, bytes_are m),
              found m (λ z. p.1 (record { least = omega arith; most = omega (arith, z) })),
            ),
        λ p. i.1 (enough p.0, λ b. ill m p.1 (omega (arith, b.most))),
      )

  whole_is : (n ≡ 0) ↔ ((1 + field_bytes m ≤ length s) × (IllFormed m → ⊥))
  unfolding record_number
  whole_is =
      let i = accepted (whole s) (formed m ∷ []) tt in (
        λ e.
            let p = i.0 e in
            (omega (arith, p.0.least, bytes_are m), λ z. ill m z (omega (arith, p.1.most))),
        λ p. i.1 (enough p.0, record { least = omega arith; most = omega (arith, well m p.1) }),
      )

  taken : n ≡ 0 → Accepted m t (0 ∷ read s) (drop (bytes m) s)
  taken e = record {
    many = refl;
    map = refl;
    wait = field_is s m 0 _ refl refl;
    L = field_is s m 1 _ refl (omega arith);
    d = field_is s m 2 _ refl (omega arith);
    G = field_is s m 3 _ refl (omega arith);
    amplitude = field_is s m 4 _ refl (omega arith);
    count = field_is s m 5 _ refl (omega arith);
    seed = field_is s m 6 _ refl (omega arith);
    tail = ap (λ (k : ℕ). drop k s) (bytes_are m);
  }

  reads : Reads m t (fields s) (rest s)
  reads = record {
    cut = of-n 14 cut;
    ill = of-n 15 ill-is;
    whole = of-n 0 whole_is;
    accepted = λ e.
        let z = sym (number_is ∙ e) in
        subst (λ (f : List ℕ). Accepted m t f (rest s)) (taken-fields s z)
        (subst (λ (r : List ℕ). Accepted m t (0 ∷ read s) r) (taken-rest s z) (taken (sym z)));
    refused = λ f.
        let g : n ≡ 0 → ⊥ = λ z. f (sym number_is ∙ z) in (
          sym (refused-fields s refl g) ∙ ap (λ (k : ℕ). k ∷ replicate 8 0) number_is,
          sym (refused-rest s refl g),
        );
  }

pub returns : Returns
unfolding record_number fields rest
returns = record { empty = (refl, refl); reads = reads }
