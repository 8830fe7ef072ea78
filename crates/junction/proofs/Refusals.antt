-- Each number of a call under its condition, and under no other; what a refused call leaves.
--
use mathlib.Core.Path.{◌≡◌, refl}
use mathlib.Core.Logic.{◌↔◌}
use mathlib.Core.List.{[], ◌∷◌}
use mathlib.Core.Option.{Option, none, some}
use Prim.Native.Nat.{ℕ, ◌+◌, ◌<◌}
use native.Mathlib.Omega.{arith}
use native.Mathlib.Decide.{dec_lt}
use lib.IntN.{ℤ}
use borrow.Author.Tests.{eq-eqb, ne_eqb, lt-ltb, le-ltb}
use Rattle.integer.specs.Rounding.{M}
use Rattle.refusal.specs.Limits.{Between, refusal}
use Rattle.refusal.proofs.Tests.{refused, accepted}
use Rattle.samples.specs.Samples.{loudest}
use Rattle.junction.specs.Junction.{Two, Move, Junction}
use Rattle.junction.specs.Calls.{Opening, move, sample, area_outside, area_limit, delay_limit, advance_limit, waitings, move_limit, sample_limit}
use Rattle.junction.specs.Calls.{open_limits, number, open_junction, call, put}
use Rattle.junction.specs.Refusals.{Areas, OpenReturns, MoveReturns, Quiet, SampleReturns, Refuses}

-- ---- conditions that are no limits of a number in the paper
none-waits : (w : Option Move) → Between 0 (waitings w) 0 ↔ (w ≡ none)
none-waits none = (λ b. refl, λ e. record { least = omega arith; most = omega arith })
none-waits (some w) =
    (λ b. absurd (omega (arith, b.most)), λ e. let z : ◌≡◌ {A = ℕ} 0 1 = cc in absurd (omega arith))

area-inside : (n : ℕ) → (area_outside n ≡ 0) ↔ Between 1 n 65535
area-inside n = go (dec_lt n 1) (dec_lt 65535 n)
  where
    go : Dec (n < 1) → Dec (65535 < n) → (area_outside n ≡ 0) ↔ Between 1 n 65535
    go (yes l) k = rw (lt-ltb n 1 l) (λ e. absurd (omega arith), λ b. absurd (omega (arith, b.least)))
    go (no l) (yes k) =
        rw (le-ltb n 1 (omega arith), lt-ltb 65535 n k)
        (λ e. absurd (omega arith), λ b. absurd (omega (arith, b.most)))
    go (no l) (no k) =
        rw (le-ltb n 1 (omega arith), le-ltb 65535 n (omega arith))
        (λ e. record { least = omega arith; most = omega arith }, λ b. refl)

areas_inside : (left right : ℕ) → Between 0 (area_outside left + area_outside right) 0 ↔ Areas left right
areas_inside left right =
    let l = area-inside left in
    let r = area-inside right in (
      λ b. (l.0 (omega (arith, b.most)), r.0 (omega (arith, b.most))),
      λ a. record { least = omega arith; most = omega (arith, l.1 a.0, r.1 a.1) },
    )

quiet : (x : Two ℤ) → Between 0 (loudest (x.a ∷ x.b ∷ [])) M ↔ Quiet x
quiet x = (
  λ b. (omega (arith, b.most), omega (arith, b.most)),
  λ q. record { least = omega arith; most = omega (arith, q.0, q.1) },
)

-- ---- the numbers
opens : (o : Opening) → OpenReturns o.left o.right o.d o.Na (refusal (open_limits o))
opens o =
    let a = area_limit o.left o.right in
    let d = delay_limit o.d in
    let n = advance_limit o.Na in
    let w = areas_inside o.left o.right in
    let first = refused [] a (d ∷ n ∷ []) tt in
    let second = refused (a ∷ []) d (n ∷ []) tt in
    let third = refused (a ∷ d ∷ []) n [] tt in
    let zero = accepted a (d ∷ n ∷ []) tt in
    record {
      area = (λ e p. first.0 e (w.1 p), λ f. first.1 (λ b. f (w.0 b)));
      delay = (
        λ e. let p = second.0 e in (w.0 p.0, p.1),
        λ p. second.1 (w.1 p.0, p.1),
      );
      advance = (
        λ e. let p = third.0 e in (w.0 p.0, p.1),
        λ p. third.1 (w.1 p.0, p.1),
      );
      accepted = (
        λ e. let p = zero.0 e in (w.0 p.0, p.1),
        λ p. zero.1 (w.1 p.0, p.1),
      );
    }

moves : (j : Junction) (d : ℕ) → MoveReturns j d (number j (move d))
unfolding number
moves j d =
    let i = move_limit j.waiting in
    let w = none-waits j.waiting in
    let six = refused (delay_limit d ∷ []) i [] tt in
    let zero = accepted (delay_limit d) (i ∷ []) tt in
    record {
      delay = refused [] (delay_limit d) (i ∷ []) tt;
      waits = (
        λ e. let p = six.0 e in (p.0, λ k. p.1 (w.1 k)),
        λ p. six.1 (p.0, λ b. p.1 (w.0 b)),
      );
      accepted = (
        λ e. let p = zero.0 e in (p.0, w.0 p.1),
        λ p. zero.1 (p.0, w.1 p.1),
      );
    }

samples : (j : Junction) (x : Two ℤ) → SampleReturns x (number j (sample x))
unfolding number
samples j x =
    let q = quiet x in
    let ten = refused [] (sample_limit x) [] tt in
    let zero = accepted (sample_limit x) [] tt in
    record {
      input = (λ e p. ten.0 e (q.1 p), λ f. ten.1 (λ b. f (q.0 b)));
      accepted = (λ e. q.0 (zero.0 e), λ p. zero.1 (q.1 p));
    }

pub refuses : Refuses
unfolding open_junction call put
refuses = record {
  opens = opens;
  moves = moves;
  samples = samples;
  resting =
      λ o e. rw (eq-eqb (refusal (open_limits o)) 0 e)
      (record { reflects = refl; delay = refl; advance = refl; states = refl; last = refl; waiting = refl });
  resting_refused =
      λ o f. rw (ne_eqb (refusal (open_limits o)) 0 f)
      (record { reflects = refl; delay = refl; advance = refl; states = refl; last = refl; waiting = refl });
  unchanged = λ j c f. rw (ne_eqb (number j c) 0 f) (refl, refl);
}
