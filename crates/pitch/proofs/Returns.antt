-- What `note` returns: T, L and d by the paper's conditions are those of the definitions, and no others.
-- Assumes nothing.
use mathlib.Core.Path.{◌≡◌, sym, ap, subst, ◌∙◌}
use mathlib.Core.Logic.{◌↔◌}
use mathlib.Core.List.{[], ◌∷◌}
use Prim.Native.Nat.{ℕ, zero, suc, ◌+◌, ◌*◌, ◌-◌, ◌^◌, ◌≤◌, ◌<◌}
use native.Mathlib.Omega.{arith}
use native.Mathlib.Nat.{mul-le-mul, pow-zero, pow-suc}
use native.Mathlib.Decide.{ℕ_discrete, dec_lt}
use borrow.Author.Tests.{eq-eqb, ne_eqb}
use lib.IntN.{ℤ, pos, ◌*ℤ◌}
use lib.ListN.{get_or}
use Rattle.integer.specs.Rounding.{Nearest}
use Rattle.integer.specs.Parts.{up, dn}
use Rattle.integer.proofs.View.{+v, *v, onev, Zs}
use Rattle.integer.proofs.Rounding.{nearest-only}
use Rattle.refusal.specs.Limits.{Between, refusal}
use Rattle.refusal.specs.Orders.{order}
use Rattle.refusal.proofs.Tests.{refused, accepted}
use Rattle.refusal.proofs.Ranges.{ordered}
use Rattle.pitch.specs.Pitch.{octave, o, k, period, split_l, split_d, rate, note, note_length, limits}
use Rattle.pitch.specs.Pitch.{pitch}
use Rattle.pitch.specs.Returns.{Period, Sounds, Long, Notes, Returns}
use Rattle.pitch.specs.Pitch.{Pitch}
use Rattle.pitch.proofs.Theorems.{twelfth, placed, divisor_least, rounded}
use Rattle.pitch.proofs.Lengths.{long-is, splits, splits-only}

-- ---- T
-- a power of a number no lower is no lower
base_mono : (n : ℕ) {a b : ℕ} → a ≤ b → a ^ n ≤ b ^ n
base_mono zero {a} {b} h = rw (pow-zero a, pow-zero b) (omega arith)
base_mono (suc n) {a} {b} h = rw (pow-suc a n, pow-suc b n) (mul-le-mul (base_mono n h) h)

-- two entries for one place are equal
same_entry : (p s t : ℕ) → (2 * s - 1) ^ 12 < p → p < (2 * t + 1) ^ 12 → s ≤ t
same_entry p s t h g = go (dec_lt t s)
  where
    go : Dec (t < s) → s ≤ t
    go (yes l) =
        let i : 2 * t + 1 ≤ 2 * s - 1 = omega arith in
        absurd (omega (arith, base_mono 12 i))
    go (no l) = omega arith

module _ (fs m : ℕ) where
  abbrev T : ℤ
  T = period fs m

  period-is : Period fs m T
  period-is =
      let w = twelfth (k m) (placed m).below in
      record {
        o = o m;
        k = k m;
        t = get_or octave (k m) 0;
        place = (placed m).split;
        below = (placed m).below;
        low = w.low;
        high = w.high;
        nearest = rounded fs m;
      }

  period-only : {U : ℤ} → Period fs m U → U ≡ T
  unfolding period
  period-only {U} p =
      let P = pos 12 *ℤ p.o in
      let Q = pos 12 *ℤ o m in
      let e = placed m in
      let oo : p.o ≡ o m = omega (
        Zs,
        p.place,
        e.split,
        p.below,
        e.below,
        *v (pos 12) p.o,
        *v (pos 12) (o m),
        +v P (pos p.k),
        +v Q (pos (k m)),
      ) in
      let kk : p.k ≡ k m = omega (
        Zs,
        p.place,
        e.split,
        p.below,
        e.below,
        *v (pos 12) p.o,
        *v (pos 12) (o m),
        +v P (pos p.k),
        +v Q (pos (k m)),
        oo,
      ) in
      let w = twelfth (k m) e.below in
      let t0 = get_or octave (k m) 0 in
      let low : (2 * p.t - 1) ^ 12 < 2 ^ (300 + k m) = rw (← kk) p.low in
      let high : 2 ^ (300 + k m) < (2 * p.t + 1) ^ 12 = rw (← kk) p.high in
      let le : p.t ≤ t0 = same_entry (2 ^ (300 + k m)) p.t t0 low w.high in
      let ge : t0 ≤ p.t = same_entry (2 ^ (300 + k m)) t0 p.t w.low high in
      let tt' : p.t ≡ t0 = omega arith in
      let n : Nearest (pos (fs * 2 ^ 36 * 2 ^ dn (o m))) (440 * t0 * 2 ^ up (o m)) U
      = rw (← oo, ← tt') p.nearest in
      nearest-only _ _ U (omega (arith, divisor_least m (up (o m)))) n

  -- ---- L and d
  module _ (N : ℕ) (h : Between 1 N 3) where
    abbrev split : ℤ
    split = split_l N T

    pub sounds : Sounds N fs m split (up (split_d N T))
    sounds = record { T = T; period = period-is; splits = splits N T h }

    pub sounds-only : (L : ℤ) (d : ℕ) → Sounds N fs m L d → (L ≡ split) × (d ≡ up (split_d N T))
    sounds-only L d s = splits-only N T h L d (rw (← period-only s.period) s.splits)

-- ---- the number
module _ (N fs m : ℕ) where
  abbrev n : ℕ
  n = refusal (limits N fs m)

  abbrev L : ℤ
  L = split_l N (period fs m)

  taken : n ≡ 0
      → pitch N fs m ≡ record { refusal = 0; length = up L; delay = up (split_d N (period fs m)) }
  unfolding pitch
  taken e = rw (eq-eqb n 0 e)

  turned : (n ≡ 0 → ⊥) → pitch N fs m ≡ record { refusal = n; length = 0; delay = 0 }
  unfolding pitch
  turned f = rw (ne_eqb n 0 f)

  number_is : n ≡ (pitch N fs m).refusal
  number_is = go (ℕ_discrete n 0)
    where
      go : Dec (n ≡ 0) → n ≡ (pitch N fs m).refusal
      go (yes e) = e ∙ sym (ap (λ (r : Pitch). r.refusal) (taken e))
      go (no f) = sym (ap (λ (r : Pitch). r.refusal) (turned f))

  -- a statement about n is one about what is returned
  told : {A : Type 0} (j : ℕ) → (n ≡ j) ↔ A → ((pitch N fs m).refusal ≡ j) ↔ A
  told j i = (λ e. i.0 (number_is ∙ e), λ a. sym number_is ∙ i.1 a)

  thirteen :
      (n ≡ 13)
      ↔ (Between 1 N 3 × (Between 8000 fs 192000 × (Between 0 m 127
      × ((L : ℤ) (d : ℕ) → Sounds N fs m L d → Long L → ⊥))))
  thirteen =
      let i = refused (order N ∷ rate fs ∷ note m ∷ []) (note_length L) [] tt in (
        λ e. let p = i.0 e in (
          p.0,
          (
            p.1.0,
            (
              p.1.1.0,
              λ K d s l.
                  p.1.1.1 ((long-is L).1 (subst Long (sounds-only fs m N p.0 K d s).0 l)),
            ),
          ),
        ),
        λ p. i.1 (
          p.0,
          (
            p.1.0,
            (
              p.1.1.0,
              λ b.
                  p.1.1.1 L _ (sounds fs m N p.0) ((long-is L).0 b),
            ),
          ),
        ),
      )

  zeroth :
      (n ≡ 0)
      ↔ (Between 1 N 3 × (Between 8000 fs 192000 × (Between 0 m 127
      × ((L : ℤ) (d : ℕ) → Sounds N fs m L d → Long L))))
  zeroth =
      let i = accepted (order N) (rate fs ∷ note m ∷ note_length L ∷ []) tt in (
        λ e. let p = i.0 e in (
          p.0,
          (
            p.1.0,
            (
              p.1.1.0,
              λ K d s.
                  subst Long (sym (sounds-only fs m N p.0 K d s).0) ((long-is L).0 p.1.1.1),
            ),
          ),
        ),
        λ p. i.1 (p.0, (p.1.0, (p.1.1.0, (long-is L).1 (p.1.1.1 L _ (sounds fs m N p.0))))),
      )

  refused-is : ((pitch N fs m).refusal ≡ 0 → ⊥) → ((pitch N fs m).length ≡ 0) × ((pitch N fs m).delay ≡ 0)
  refused-is f =
      let e = turned (λ z. f (sym number_is ∙ z)) in
      (ap (λ (r : Pitch). r.length) e, ap (λ (r : Pitch). r.delay) e)

  given : (pitch N fs m).refusal ≡ 0 → Sounds N fs m (pos (pitch N fs m).length) (pitch N fs m).delay
  given e =
      let p = zeroth.0 (number_is ∙ e) in
      let s = sounds fs m N p.0 in
      let l = p.1.1.1 L _ s in
      let u : L ≡ pos (up L) = omega (Zs, onev L, l.least) in
      rw (taken (number_is ∙ e)) (subst (λ (z : ℤ). Sounds N fs m z (up (split_d N (period fs m)))) u s)

  notes : Notes N fs m (pitch N fs m)
  notes = record {
    order = told 1 (refused [] (order N) (rate fs ∷ note m ∷ note_length L ∷ []) tt);
    rate = told 11 (refused (order N ∷ []) (rate fs) (note m ∷ note_length L ∷ []) tt);
    note = told 12 (refused (order N ∷ rate fs ∷ []) (note m) (note_length L ∷ []) tt);
    length = told 13 thirteen;
    accepted = told 0 zeroth;
    refused = refused-is;
    given = given;
  }

pub returns : Returns
returns = record {
  notes = notes;
  some = λ N fs m h. record { L = split_l N (period fs m); d = _; sounds = sounds fs m N h };
  only = λ N fs m L K d e s u.
      let h = ordered s.splits.range in
      let p = sounds-only fs m N h L d s in
      let q = sounds-only fs m N h K e u in
      (p.0 ∙ sym q.0, p.1 ∙ sym q.1);
}
