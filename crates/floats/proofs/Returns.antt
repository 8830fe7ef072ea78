-- What the conversions of samples and losses return (specs/Returns.antt).
use Rattle.std.proofs.Common.{◌≡◌, ℕ, ◌+◌, ◌*◌, ◌^◌, ◌≤◌, min, Bool, true, false, cond, not, ◌||◌, T, ltb, ◌↔◌, ℤ, pos, negsuc, ◌*ℤ◌, nat_abs, sym, refl, ap, ◌∙◌, true≢false, arith, ltb-false, le-ltb}
use mathlib.Core.Bool.{false≢true}
use lib.Ieee.{Float, nan, inf, fin, up}
use Rattle.integer.specs.Parts as parts
use Rattle.integer.specs.Rounding.{M, nearest, clip}
use Rattle.integer.proofs.View.{Zs, *v, negv, onev}
use Rattle.integer.proofs.Rounding.{nearest-is, clip_abs}
use Rattle.floats.specs.Sample.{Sample}
use Rattle.floats.specs.Loss.{Loss}
use Rattle.floats.specs.Worth.{finite, size, unit, above}
use Rattle.floats.specs.Sample.{enters, refused}
use Rattle.floats.specs.Loss.{outside, gain, loss}
use Rattle.floats.specs.Returns.{NotFinite, not_a_number, infinite, Inside, Samples, Losses}
use Rattle.floats.proofs.Whole.{unit-pos}
use Rattle.floats.proofs.Numbers.{code, first, second, neither}
use Rattle.floats.proofs.Times.{times, nearest_times}

pub not-finite-is : (x : Float) → (not (finite x) ≡ true) ↔ NotFinite x
not-finite-is nan = (λ e. not_a_number, λ f. refl)
not-finite-is (inf s) = (λ e. infinite, λ f. refl)
not-finite-is (fin s m e) = (λ p. absurd (false≢true p), λ f. absurd (worth f))
  where
    worth : {y : Float} → NotFinite y → T (not (finite y))
    worth not_a_number = tt
    worth infinite = tt

-- ---- samples
pub sides : (x : Float) → parts.up (above x) + parts.dn (above x) ≡ size x
sides nan = refl
sides (inf s) = refl
sides (fin false m e) = omega arith
sides (fin true m e) = omega (arith, negv (pos (m * up e)))

between_is : (x : Float) → (ltb (unit x) (size x) ≡ false) ↔ Inside (negsuc 0) x (pos 1)
between_is x =
    let l = *v (negsuc 0) (pos (unit x)) in
    let h = *v (pos 1) (pos (unit x)) in (
      λ e. record {
        least = omega (Zs, ltb-false (unit x) (size x) e, sides x, l, h);
        most = omega (Zs, ltb-false (unit x) (size x) e, sides x, l, h);
      },
      λ i. le-ltb (unit x) (size x) (omega (Zs, sides x, onev (above x), l, h, i.least, i.most)),
    )

sample-of : (b o : Bool) (n : ℤ)
    → let s : Sample = record { refusal = 0; n = n } in
    let r : Sample = cond b (refused 26) (cond o (refused 27) s) in
    (r.refusal ≡ code b o)
    × (((code b o ≡ 0 → ⊥) → r.n ≡ pos 0) × (code b o ≡ 0 → r.n ≡ n))
sample-of true o n = (refl, (λ f. refl, λ e. absurd (omega arith)))
sample-of false true n = (refl, (λ f. refl, λ e. absurd (omega arith)))
sample-of false false n = (refl, (λ f. absurd (f refl), λ e. refl))

module _ (x : Float) where
  abbrev A : ℤ
  A = nearest (above x *ℤ pos (2 ^ 23)) (unit x)

  abbrev b : Bool
  b = not (finite x)

  abbrev o : Bool
  o = ltb (unit x) (size x)

  -- the sample is the nearest number, clipped
  clipped : code b o ≡ 0 → (enters x).n ≡ clip A
  unfolding enters
  clipped = (sample-of b o (clip A)).1.1

  pub enters-small : nat_abs (enters x).n ≤ M
  unfolding enters
  enters-small = go b o
    where
      go : (b o : Bool)
          → let s : Sample = record { refusal = 0; n = clip A } in
          nat_abs (cond b (refused 26) (cond o (refused 27) s)).n ≤ M
      go true o = omega arith
      go false true = omega arith
      go false false = clip_abs A

  pub samples : Samples x (enters x)
  unfolding enters
  samples =
      let s = sample-of b o (clip A) in
      record {
        not_finite = rw s.0 (first b o (not-finite-is x));
        outside = rw s.0 (second b o (not-finite-is x) (between_is x));
        accepted = rw s.0 (neither b o (not-finite-is x) (between_is x));
        refused = λ f. s.1.0 (λ e. f (s.0 ∙ e));
        given = λ e. record {
          A = A;
          nearest = nearest-is (above x *ℤ pos (2 ^ 23)) (unit x) (unit-pos x);
          clipped = clipped (sym s.0 ∙ e);
        };
      }

-- ---- losses
range-is : (x : Float) → (outside x ≡ false) ↔ Inside (pos 0) x (pos 1)
range-is x =
    let l = *v (pos 0) (pos (unit x)) in
    let h = *v (pos 1) (pos (unit x)) in (
      λ e. let p = or-false (ltb 0 (parts.dn (above x))) (ltb (unit x) (size x)) e in
          let d = ltb-false 0 (parts.dn (above x)) p.0 in
          let u = ltb-false (unit x) (size x) p.1 in
          record { least = omega (Zs, d, u, sides x, l, h); most = omega (Zs, d, u, sides x, l, h) },
      λ i. rw (
        le-ltb 0 (parts.dn (above x)) (omega (Zs, onev (above x), l, i.least)),
        le-ltb (unit x) (size x) (omega (Zs, sides x, onev (above x), l, h, i.least, i.most)),
      ),
    )
  where
    or-false : (a b : Bool) → a || b ≡ false → (a ≡ false) × (b ≡ false)
    or-false true b e = absurd (true≢false e)
    or-false false b e = (refl, e)

loss-of : (b o : Bool) (g : ℕ)
    → let s : Loss = record { refusal = 0; g = g } in
    let r : Loss = cond b (record { refusal = 26; g = 0 }) (cond o (record { refusal = 27; g = 0 }) s) in
    (r.refusal ≡ code b o)
    × (((code b o ≡ 0 → ⊥) → r.g ≡ 0) × (code b o ≡ 0 → r.g ≡ g))
loss-of true o g = (refl, (λ f. refl, λ e. absurd (omega arith)))
loss-of false true g = (refl, (λ f. refl, λ e. absurd (omega arith)))
loss-of false false g = (refl, (λ f. absurd (f refl), λ e. refl))

pub losses : (x : Float) → Losses x (loss x)
unfolding loss
losses x =
    let b = not (finite x) in
    let o = outside x in
    let s = loss-of b o (gain x) in
    record {
      not_finite = rw s.0 (first b o (not-finite-is x));
      outside = rw s.0 (second b o (not-finite-is x) (range-is x));
      accepted = rw s.0 (neither b o (not-finite-is x) (range-is x));
      refused = λ f. s.1.0 (λ e. f (s.0 ∙ e));
      given = λ e.
          let n = sym s.0 ∙ e in
          let i = ((neither b o (not-finite-is x) (range-is x)).0 n).1 in
          let up_is : above x ≡ pos (size x)
          = omega (Zs, sides x, onev (above x), *v (pos 0) (pos (unit x)), i.least) in
          record {
            A = times x 65536;
            nearest =
                rw (← nearest_times x 65536 up_is) (nearest-is (above x *ℤ pos 65536) (unit x) (unit-pos x));
            most = s.1.1 n ∙ ap (λ (z : ℤ). min (parts.up z) 65535) (nearest_times x 65536 up_is);
          };
    }
