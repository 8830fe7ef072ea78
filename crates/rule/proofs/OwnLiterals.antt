-- The own figure in literals: of every delay, by what the coefficients of an order add up to at most, and of single
-- ones, by what theirs do.
use mathlib.Core.Path.{◌≡◌, subst}
use mathlib.Core.List.{List}
use Prim.Native.Nat.{ℕ, ◌+◌, ◌*◌, ◌-◌, ◌/◌, ◌≤◌, ◌<◌}
use native.Mathlib.Omega.{arith}
use native.Mathlib.Nat.{le_trans, le-div_iff_mul-le}
use lib.Dec.{lit≤}
use lib.IntN.{pos, nat_abs, ◌-ℤ◌}
use lib.ListN.{get_or}
use Rattle.integer.specs.Rounding.{nearest, floor}
use Rattle.thiran.specs.Formula.{factor, a}
use Rattle.thiran.specs.Coefficients.{coefficient, coefficients, norm}
use Rattle.thiran.proofs.Small.{largest, norm_largest, norm-most}
use Rattle.allpass.specs.Bounds.{distance, own_figure}
use Rattle.rule.specs.Voice.{A}
use Rattle.rule.specs.Calls.{Call, Opening}
use Rattle.rule.specs.History.{steps, fresh, after, new}
use Rattle.rule.specs.State.{puts}
use Rattle.rule.specs.State as S
use Rattle.rule.specs.Demands.{Rules}
use Rattle.rule.specs.Literals.{Differs}
use Rattle.rule.specs.OwnLiterals.{DiffersIn, OwnLiterals}
use Rattle.rule.proofs.OwnFigure.{own_laws}
use Rattle.rule.proofs.Sound.{after_sound}
use Rattle.rule.proofs.Place.{begins}
use Rattle.rule.proofs.Click.{own_click}

module _ (o : Opening) (cs : List Call) where
  -- coefficients that add up to n or less, and K times as many samples as the order or more
  pub reaches : (n K : ℕ) → n ≤ 65536
      → (pre post : List Call) (c : Call) (m : ℕ) (k : Rules m (fresh o) cs pre c post) → m < steps (after o cs)
      → norm (A k.t) ≤ n → K ≤ (k.a + (m - k.e)) / k.t.N
      → nat_abs (get_or (puts (S.fresh o) cs) m (pos 0) -ℤ new k.t (after o cs).s m) ≤ own_figure n K
  reaches n K q pre post c m k short l reached =
      let at = (k.a + (m - k.e)) / k.t.N in
      le_trans
      (own_click o cs pre post c k.t k.a k.e m k.split k.change k.until k.since short).near
      (le_trans (own_laws.rises (norm (A k.t)) n at l) (own_laws.falls n at K q reached))

  -- K times N is reached by the advance and j samples
  turned : (N Na j K a e m M : ℕ) → 0 < N → K * N ≤ Na + j → M ≡ N → a ≡ Na → e + j ≤ m
      → K ≤ (a + (m - e)) / M
  turned N Na j K a e m M positive h order advance late =
      rw order ((le-div_iff_mul-le {k = N} {x = K} {y = a + (m - e)} positive).1 (omega arith))

  any_delay : (N Na j K : ℕ) → largest N ≤ 65536 → 0 < N → K * N ≤ Na + j
      → Differs o cs N Na j (own_figure (largest N) K)
  any_delay N Na j K q positive h pre post c m k short order advance late =
      let f = (begins (after o pre) (after_sound o pre) k.change k.since).fit in
      reaches (largest N) K q pre post c m k short
      (subst (λ (i : ℕ). norm (A k.t) ≤ largest i) order (norm_largest k.t.N k.t.d f.takes))
      (turned N Na j K k.a k.e m k.t.N positive h order advance late)

  some-delays : (n N low high Na j K : ℕ) → n ≤ 65536 → 0 < N → K * N ≤ Na + j
      → ((d : ℕ) → low ≤ d → d ≤ high → norm (coefficients N d) ≤ n)
      → DiffersIn o cs N low high Na j (own_figure n K)
  some-delays n N low high Na j K q positive h l pre post c m k short order from to advance late =
      reaches n K q pre post c m k short (rw order (l k.t.d from to))
      (turned N Na j K k.a k.e m k.t.N positive h order advance late)

  one-delay : (n N d Na j K : ℕ) → n ≤ 65536 → 0 < N → K * N ≤ Na + j → norm (coefficients N d) ≤ n
      → DiffersIn o cs N d d Na j (own_figure n K)
  one-delay n N d Na j K q positive h l =
      some-delays n N d d Na j K q positive h (λ e g g'. let i : d ≡ e = omega arith in rw i at l)

  pub own_literals : OwnLiterals o cs
  unfolding own_figure distance coefficients coefficient nearest floor a factor
  own_literals = record {
    order_1_na_16 = any_delay 1 16 0 16 (lit≤ tt) (omega arith) (omega arith);
    order_2_na_42 = any_delay 2 42 0 21 (lit≤ tt) (omega arith) (omega arith);
    order_3_after_69 = any_delay 3 69 0 23 (lit≤ tt) (omega arith) (omega arith);
    order_3_na_64 = any_delay 3 64 0 21 (lit≤ tt) (omega arith) (omega arith);
    order_3_na_64_after_5 = any_delay 3 64 5 23 (lit≤ tt) (omega arith) (omega arith);
    order_3_most_na_64 =
        some-delays 29127 3 10388 14336 64 0 21 (lit≤ tt) (omega arith) (omega arith) norm-most;
    c4 = one-delay 3674 3 12540 18 0 6 (lit≤ tt) (omega arith) (omega arith) (lit≤ tt);
    e4 = one-delay 16774 3 13465 39 0 13 (lit≤ tt) (omega arith) (omega arith) (lit≤ tt);
    a4 = one-delay 16820 3 11171 39 0 13 (lit≤ tt) (omega arith) (omega arith) (lit≤ tt);
    whole_1 = one-delay 0 1 4096 1 0 1 (lit≤ tt) (omega arith) (omega arith) (lit≤ tt);
    whole_2 = one-delay 0 2 8192 2 0 1 (lit≤ tt) (omega arith) (omega arith) (lit≤ tt);
    whole_3 = one-delay 0 3 12288 3 0 1 (lit≤ tt) (omega arith) (omega arith) (lit≤ tt);
  }
