-- What the split of a delay returns, and with that all of specs/Returns.antt.
use Rattle.std.proofs.Common.{◌≡◌, ℕ, Bool, false, not, ◌↔◌, ℤ, pos, ◌*ℤ◌, sym, ap, ◌∙◌, subst, eq-eqb, ne_eqb}
use native.Mathlib.Decide.{ℕ_discrete}
use lib.Ieee.{Float}
use Rattle.integer.specs.Parts.{up}
use Rattle.integer.proofs.View.{Zs, onev}
use Rattle.integer.proofs.Rounding.{nearest-is, nearest-only}
use Rattle.refusal.specs.Limits.{Between, met}
use Rattle.refusal.specs.Orders as orders
use Rattle.refusal.proofs.Ranges.{ordered}
use Rattle.pitch.specs.Pitch.{Pitch}
use Rattle.pitch.specs.Pitch.{split_l, split_d, note_length}
use Rattle.pitch.specs.Returns.{Long}
use Rattle.pitch.proofs.Lengths.{long-is, splits, splits-only}
use Rattle.floats.specs.Worth.{finite, unit, above}
use Rattle.floats.specs.Delay.{period, number, split}
use Rattle.floats.specs.Returns.{NotFinite, Delayed, Delays, Returns}
use Rattle.floats.proofs.Whole.{unit-pos}
use Rattle.floats.proofs.Numbers.{met-is, order-first, order-second, order-third, order-none}
use Rattle.floats.proofs.Returns.{not-finite-is, samples, losses}

-- ---- L and d
module _ (N : ℕ) (x : Float) where
  abbrev T : ℤ
  T = period x

  abbrev L : ℤ
  L = split_l N T

  module _ (h : Between 1 N 3) where
    delayed : Delayed N x L (up (split_d N T))
    delayed = record {
      T = T;
      nearest = nearest-is (above x *ℤ pos 4096) (unit x) (unit-pos x);
      splits = splits N T h;
    }

    delayed_only : (K : ℤ) (d : ℕ) → Delayed N x K d → (K ≡ L) × (d ≡ up (split_d N T))
    delayed_only K d s =
        splits-only N T h K d
        (rw (← nearest-only (above x *ℤ pos 4096) (unit x) s.T (unit-pos x) s.nearest) s.splits)

  long : (met (note_length L) ≡ false) ↔ Long L
  long = let m = met-is (note_length L) in (λ e. (long-is L).0 (m.0 e), λ l. m.1 ((long-is L).1 l))

  -- the three tests
  abbrev a : Bool
  a = met (orders.order N)

  abbrev b : Bool
  b = not (finite x)

  abbrev o : Bool
  o = met (note_length L)

  ordering : (a ≡ false) ↔ Between 1 N 3
  ordering = met-is (orders.order N)

  abbrev n : ℕ
  n = number N x

  thirteen :
      (n ≡ 13)
      ↔ (Between 1 N 3 × ((NotFinite x → ⊥) × ((L : ℤ) (d : ℕ) → Delayed N x L d → Long L → ⊥)))
  thirteen =
      let i = order-third a b o ordering (not-finite-is x) long in (
        λ e. let p = i.0 e in
            (p.0, (p.1.0, λ K d s l. p.1.1 (subst Long (delayed_only p.0 K d s).0 l))),
        λ p. i.1 (p.0, (p.1.0, λ l. p.1.1 L (up (split_d N T)) (delayed p.0) l)),
      )

  zeroth :
      (n ≡ 0) ↔ (Between 1 N 3 × ((NotFinite x → ⊥) × ((L : ℤ) (d : ℕ) → Delayed N x L d → Long L)))
  zeroth =
      let i = order-none a b o ordering (not-finite-is x) long in (
        λ e. let p = i.0 e in
            (p.0, (p.1.0, λ K d s. subst Long (sym (delayed_only p.0 K d s).0) p.1.1)),
        λ p. i.1 (p.0, (p.1.0, p.1.1 L (up (split_d N T)) (delayed p.0))),
      )

  -- ---- what is returned
  taken : n ≡ 0 → split N x ≡ record { refusal = 0; length = up L; delay = up (split_d N T) }
  unfolding split
  taken e = rw (eq-eqb n 0 e)

  turned : (n ≡ 0 → ⊥) → split N x ≡ record { refusal = n; length = 0; delay = 0 }
  unfolding split
  turned f = rw (ne_eqb n 0 f)

  number_is : n ≡ (split N x).refusal
  number_is = go (ℕ_discrete n 0)
    where
      go : Dec (n ≡ 0) → n ≡ (split N x).refusal
      go (yes e) = e ∙ sym (ap (λ (r : Pitch). r.refusal) (taken e))
      go (no f) = sym (ap (λ (r : Pitch). r.refusal) (turned f))

  told : {A : Type 0} (j : ℕ) → (n ≡ j) ↔ A → ((split N x).refusal ≡ j) ↔ A
  told j i = (λ e. i.0 (number_is ∙ e), λ a. sym number_is ∙ i.1 a)

  given : (split N x).refusal ≡ 0 → Delayed N x (pos (split N x).length) (split N x).delay
  given e =
      let p = zeroth.0 (number_is ∙ e) in
      let s = delayed p.0 in
      let l = p.1.1 L (up (split_d N T)) s in
      let u : L ≡ pos (up L) = omega (Zs, onev L, l.least) in
      rw (taken (number_is ∙ e)) (subst (λ (z : ℤ). Delayed N x z (up (split_d N T))) u s)

  refused-is : ((split N x).refusal ≡ 0 → ⊥) → ((split N x).length ≡ 0) × ((split N x).delay ≡ 0)
  refused-is f =
      let e = turned (λ z. f (sym number_is ∙ z)) in
      (ap (λ (r : Pitch). r.length) e, ap (λ (r : Pitch). r.delay) e)

  delays : Delays N x (split N x)
  delays = record {
    order = told 1 (order-first a b o ordering);
    not_finite = told 26 (order-second a b o ordering (not-finite-is x));
    length = told 13 thirteen;
    accepted = told 0 zeroth;
    refused = refused-is;
    given = given;
  }

pub returns : Returns
returns = record {
  samples = samples;
  losses = losses;
  delays = delays;
  only = λ N x L K d e s u.
      let h = ordered s.splits.range in
      let p = delayed_only N x h L d s in
      let q = delayed_only N x h K e u in
      (p.0 ∙ sym q.0, p.1 ∙ sym q.1);
}
