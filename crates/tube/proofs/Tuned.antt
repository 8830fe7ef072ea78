-- The two filters of a junction, by what their structs hold: what they can take, and what they are after it.
use mathlib.Core.Path.{◌≡◌, refl, ap, ◌∙◌}
use mathlib.Core.List.{[], ◌∷◌}
use Prim.Native.Nat.{ℕ, ◌*◌, ◌^◌, ◌≤◌}
use native.Mathlib.Omega.{arith}
use lib.IntN.{ℤ, pos, nat_abs}
use Rattle.integer.specs.Rounding.{M}
use Rattle.refusal.specs.Orders.{Takes}
use Rattle.thiran.specs.Coefficients.{coefficients, norm}
use Rattle.thiran.specs.Answers.{padded}
use Rattle.thiran.proofs.Theorems.{theorem}
use Rattle.allpass.specs.Allpass.{inner, next}
use Rattle.allpass.specs.Bounds.{Within, none, more}
use Rattle.allpass.specs.Stored.{stored, Fed}
use Rattle.allpass.proofs.Bounds.{next-within, head-within}
use Rattle.junction.specs.Junction.{from_left, from_right, next_states}
use Rattle.junction.proofs.Filters.{delay-takes}
use Rattle.tube.specs.declared.filters.Filter.{Filter}
use Rattle.tube.specs.declared.filters.Filters.{Filters}
use Rattle.tube.specs.declared.filters.Pair.{Pair}
use Rattle.tube.specs.Struct.{pair_of, states_of, next_of, next_filters}
use Rattle.tube.specs.Valid.{Tuned, Tunes, Samples, Feeds, FeedsBoth}

-- ---- one filter
pub fed : {f : Filter} {x : ℤ} → Feeds f x
    → Fed 1 (record { a1 = f.a1; a2 = pos 0; a3 = pos 0 }) (record { v1 = f.v1; v2 = pos 0; v3 = pos 0 }) x
fed h = record {
  least = omega arith;
  most = omega arith;
  taps_small = omega (arith, h.small);
  state_within = more h.within none;
  sample = h.sample;
}

-- the number that its state becomes
pub next_one : (a v x : ℤ) → next (a ∷ []) (v ∷ []) x ≡ inner (a ∷ []) (v ∷ []) x ∷ []
unfolding next
next_one a v x = refl

pub stored_one : (a v x : ℤ) → (stored (next (a ∷ []) (v ∷ []) x)).v1 ≡ inner (a ∷ []) (v ∷ []) x
unfolding stored next
stored_one a v x = refl

pub inner-small : {f : Filter} (x : ℤ) → Feeds f x → nat_abs (inner (f.a1 ∷ []) (f.v1 ∷ []) x) ≤ 2 * M
inner-small {f} x h =
    let a = f.a1 ∷ [] in
    let n : norm a ≤ 32768 = omega (arith, h.small) in
    let w : Within (2 * M) (f.v1 ∷ []) = more h.within none in
    head-within (inner a (f.v1 ∷ []) x) (rw (next_one f.a1 f.v1 x) at (next-within a n x w h.sample))

-- the coefficient of a delay
pub one-coefficient : (d : ℕ) → (padded (coefficients 1 d)).a1 ∷ [] ≡ coefficients 1 d
unfolding padded coefficients
one-coefficient d = refl

tuned_feeds : {d : ℕ} {f : Filter} {x : ℤ} → Takes 1 d → Tuned d f → nat_abs x ≤ M → Feeds f x
tuned_feeds {d} {f} t h k =
    let e : nat_abs f.a1 ≡ norm (coefficients 1 d)
    = let i : nat_abs f.a1 ≡ norm (f.a1 ∷ []) = omega arith in i ∙ ap norm h.coefficient in
    record { small = omega (arith, (theorem 1 d t).small); within = h.within; sample = k }

next-tuned : {d : ℕ} {f : Filter} (x : ℤ) → Tuned d f → Feeds f x → Tuned d (next_of f x)
next-tuned x h g = record { coefficient = h.coefficient; within = inner-small x g }

-- ---- both
pub feeds : {d : ℕ} {f : Filters} {x : Pair} → Tunes d f → Samples x → FeedsBoth f x
feeds h s = (
  tuned_feeds (delay-takes from_left h.delay) h.a s.a,
  tuned_feeds (delay-takes from_right h.delay) h.b s.b,
)

pub next_tunes : {d : ℕ} {f : Filters} {x : Pair} → Tunes d f → Samples x → Tunes d (next_filters f x)
next_tunes {x = x} h s =
    let g = feeds h s in
    record {
      delay = h.delay;
      a = next-tuned x.a.n h.a g.0;
      b = next-tuned x.b.n h.b g.1;
    }

pub next-states : {d : ℕ} {f : Filters} (x : Pair) → Tunes d f
    → states_of (next_filters f x) ≡ next_states d (states_of f) (pair_of x)
next-states {f = f} x h =
    rw (
      ← h.a.coefficient,
      ← h.b.coefficient,
      next_one f.a.a1 f.a.v1 x.a.n,
      next_one f.b.a1 f.b.v1 x.b.n,
    )

-- ---- sizes, for the words of a filter
tuned-small : {d : ℕ} {f : Filter} → Takes 1 d → Tuned d f → (nat_abs f.a1 ≤ 2 ^ 24) × (nat_abs f.v1 ≤ 2 ^ 24)
tuned-small {d} {f} t h =
    let g : Feeds f (pos 0) = tuned_feeds t h (omega arith) in
    (omega (arith, g.small), omega (arith, h.within))

pub a_small : {d : ℕ} {f : Filters} → Tunes d f → (nat_abs f.a.a1 ≤ 2 ^ 24) × (nat_abs f.a.v1 ≤ 2 ^ 24)
a_small h = tuned-small (delay-takes from_left h.delay) h.a

pub b-small : {d : ℕ} {f : Filters} → Tunes d f → (nat_abs f.b.a1 ≤ 2 ^ 24) × (nat_abs f.b.v1 ≤ 2 ^ 24)
b-small h = tuned-small (delay-takes from_right h.delay) h.b
