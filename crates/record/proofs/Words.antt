-- specs/Words.antt: each field of a record is 16 bits of a word that is gathered from its bytes.
-- Assumes nothing.
use mathlib.Core.Path.{◌≡◌, sym, ap, ◌∙◌}
use mathlib.Core.List.{List, ◌∷◌}
use Prim.Native.Nat.{ℕ, zero, suc, ◌+◌, ◌*◌, ◌/◌, ◌%◌, ◌^◌, ◌-◌, ◌≤◌, ◌<◌}
use native.Mathlib.Nat.{div-div-eq-div-mul}
use native.Mathlib.Omega.{arith}
use lib.Pow.{pow-add}
use Rattle.octets.specs.Octets.{gathered}
use Rattle.octets.specs.Theorems.{Bytes}
use Rattle.octets.proofs.Gathers.{cut}
use Rattle.record.specs.Record.{bit, before, word, map_of, present, field, read, record_number, fields}
use Rattle.record.proofs.Reading.{taken-fields}
use Rattle.record.specs.Words.{from, cut_field, cuts, cut_from, cuts_from, Words}

-- ---- where a field stands in its word
-- the word begins at the field or before it, and reaches past it
record Stands (map k : ℕ) : Type 0 where
  pub low : from map k ≤ before map k
  pub high : before map k - from map k ≤ 6

stands : (map k : ℕ) → k < 7 → Stands map k
stands map zero h = record { low = omega arith; high = omega arith }
stands map (suc zero) h = record { low = omega arith; high = omega arith }
stands map (suc (suc zero)) h = record { low = omega arith; high = omega arith }
stands map (suc (suc (suc zero))) h = record { low = omega arith; high = omega arith }
stands map (suc (suc (suc (suc zero)))) h = record { low = omega arith; high = omega arith }
stands map (suc (suc (suc (suc (suc zero))))) h = record { low = omega arith; high = omega arith }
stands map (suc (suc (suc (suc (suc (suc zero)))))) h = record { low = omega arith; high = omega arith }
stands map (suc (suc (suc (suc (suc (suc (suc k))))))) h = absurd (omega arith)

-- ---- what is cut, from its parts
-- x is what is left at field k of a word w that begins at the place p
abbrev pub Left : ℕ → ℕ → ℕ → ℕ → ℕ → Type 0
Left w p m k x = x ≡ w / 2 ^ (8 * (before m k - p))

pub left-first : (w m : ℕ) → Left w 1 m 0 w
left-first w m = omega arith

pub left_fifth : (w m : ℕ) → Left w (before m 4) m 4 w
left_fifth w m =
    let z : 0 ≡ before m 4 - before m 4 = omega arith in
    let e : w ≡ w / 2 ^ (8 * 0) = omega arith in
    e ∙ ap (λ (j : ℕ). w / 2 ^ (8 * j)) z

pub left-next : (w p m k : ℕ) {x y : ℕ} → p ≤ before m k → Left w p m k x
    → y ≡ x / 2 ^ (8 * (2 * bit m k)) → Left w p m (suc k) y
left-next w p m k h l e =
    let j = before m k - p in
    let i = 2 * bit m k in
    let q : 8 * j + 8 * i ≡ 8 * (before m (suc k) - p) = omega (arith, h) in
    e ∙ ap (λ (x : ℕ). x / 2 ^ (8 * i)) l ∙ div-div-eq-div-mul w (2 ^ (8 * j)) (2 ^ (8 * i))
    ∙ ap (λ (n : ℕ). w / n) (sym (pow-add 2 (8 * j) (8 * i)) ∙ ap (λ (n : ℕ). 2 ^ n) q)

pub placed : (w p m k : ℕ) {x r : ℕ} → Left w p m k x → r ≡ present (bit m k) (x % 65536) → r ≡ cut_from m w p k
placed w p m k l r = r ∙ ap (λ (x : ℕ). present (bit m k) (x % 65536)) l

pub absent : (w p m k : ℕ) → bit m k ≡ 0 → 0 ≡ cut_from m w p k
absent w p m k z = rw z

-- of the words of a slice these are its cuts
pub cuts-of : (s : List ℕ) {m w v : ℕ} → m ≡ map_of s → w ≡ gathered s 1 → v ≡ gathered s (before m 4)
    → cuts_from m w v ≡ cuts s
unfolding cut_field
cuts-of s {m} {w} {v} e f g = rw (g, f, e)

-- ---- each field is 16 bits of its word
module _ (s : List ℕ) (b : Bytes s) where
  pub same : (k : ℕ) → k < 7 → cut_field s k ≡ field s k
  unfolding cut_field field
  same k h =
      let m = map_of s in
      let i = stands m k h in
      let e : from m k + (before m k - from m k) ≡ before m k = omega (arith, i.low) in
      ap (present (bit m k))
      (cut s b (from m k) (before m k - from m k) i.high ∙ ap (word s) e)

  pub all : cuts s ≡ read s
  all =
      let e0 = same 0 (omega arith) in
      let e1 = same 1 (omega arith) in
      let e2 = same 2 (omega arith) in
      let e3 = same 3 (omega arith) in
      let e4 = same 4 (omega arith) in
      let e5 = same 5 (omega arith) in
      let e6 = same 6 (omega arith) in
      cc

  -- so what is cut is what the definition reads
  pub cut-fields : 0 ≡ record_number s → 0 ∷ cuts s ≡ fields s
  cut-fields e = ap (λ (l : List ℕ). 0 ∷ l) all ∙ taken-fields s e

pub words : Words
words s b = record { within = λ k h. (stands (map_of s) k h).high; same = same s b; all = all s b }
