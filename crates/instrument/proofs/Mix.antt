-- The mix differs from the ideal mix by at most the sum of the figures: `MixFigure`.
use mathlib.Core.Path.{◌≡◌, refl, sym, ap, ◌∙◌}
use mathlib.Core.List.{List, [], ◌∷◌, ◌++◌, append-nil}
use Prim.Native.Nat.{ℕ, zero, suc, ◌+◌, ◌≤◌, ◌<◌}
use native.Mathlib.Omega.{arith}
use lib.IntN.{ℤ, pos, nat_abs, ◌-ℤ◌}
use lib.ListN.{length, get_or, length-append}
use Rattle.integer.proofs.View.{near, -v}
use Rattle.integer.proofs.Ring.{add-near}
use Rattle.integer.proofs.Rounding.{clip-near}
use Rattle.refusal.specs.Limits.{refusal}
use Rattle.rule.specs.Calls.{Call, block, Opening}
use Rattle.rule.specs.History.{steps, after}
use Rattle.rule.specs.State.{State, put, fresh, from, puts}
use Rattle.rule.specs.Click.{Figure}
use Rattle.rule.proofs.Puts.{length-out, puts-append}
use Rattle.rule.proofs.Agreement.{agrees}
use Rattle.rule.proofs.Click.{click}
use Rattle.instrument.specs.Strings.{Play, silent, number, mix_limits, plays, total}
use Rattle.instrument.specs.Mix.{put_in, Retuned, at, line, from_rest, Member, apart, retunes, zeros}
use Rattle.instrument.specs.Mix.{ideal, adds, sum, MixFigure}
use Rattle.instrument.proofs.Shared.{shared}
use Rattle.instrument.proofs.Sums.{put-block, as_long, sums}

-- ---- sums
pub total-near : (f g : ℕ → ℤ) (b : ℕ → ℕ) (n : ℕ) → ((k : ℕ) → k < n → nat_abs (f k -ℤ g k) ≤ b k)
    → nat_abs (total f n -ℤ total g n) ≤ sum b n
total-near f g b zero h = omega arith
total-near f g b (suc n) h =
    add-near (total f n) (total g n) (f n) (g n) (total-near f g b n (λ k l. h k (omega arith)))
    (h n (omega arith))

zero-apart : (x y : ℤ) → x ≡ y → nat_abs (x -ℤ y) ≤ 0
zero-apart x y e = rw e (near (y -ℤ y) (omega (arith, -v y y)))

-- ---- a string's own step
get_d_past : (u w : List ℤ) (i : ℕ) → get_or (u ++ w) (length u + i) (pos 0) ≡ get_or w i (pos 0)
get_d_past [] w i =
    let e : 0 + i ≡ i = omega arith in
    ap (λ (j : ℕ). get_or w j (pos 0)) e
get_d_past (x ∷ u) w i =
    let e : suc (length u) + i ≡ suc (length u + i) = omega arith in
    ap (λ (j : ℕ). get_or (x ∷ (u ++ w)) j (pos 0)) e ∙ get_d_past u w i

module _ (o : Opening) (cs : List Call) (xs : List ℤ) (n i : ℕ) (ok : refusal (mix_limits xs n) ≡ 0) where
  abbrev all : List Call
  all = cs ++ block xs n ∷ []

  parted : puts (fresh o) all ≡ puts (fresh o) cs ++ put (from (fresh o) cs) (block xs n)
  parted =
      puts-append (fresh o) cs (block xs n ∷ [])
      ∙ ap (λ (ys : List ℤ). puts (fresh o) cs ++ ys) (append-nil (put (from (fresh o) cs) (block xs n)))

  sample : get_or (puts (fresh o) all) (steps (after o cs) + i) (pos 0)
      ≡ get_or (put (from (fresh o) cs) (block xs n)) i (pos 0)
  sample =
      rw (parted, ← (agrees o cs).count)
      (get_d_past (puts (fresh o) cs) (put (from (fresh o) cs) (block xs n)) i)

  early : i < length xs → steps (after o cs) + i < steps (after o all)
  early h =
      let p : length (put (from (fresh o) cs) (block xs n)) ≡ length xs
      = ap length (put-block (from (fresh o) cs) xs n ok) ∙ length-out (from (fresh o) cs) xs in
      omega (
        arith,
        p,
        (agrees o cs).count,
        (agrees o all).count,
        ap length parted,
        length-append (puts (fresh o) cs) (put (from (fresh o) cs) (block xs n)),
      )

-- ---- the figures
module _ (ps : List Play) (xs : List ℤ) (n i : ℕ) (h : i < length xs)
    (ok : refusal (mix_limits xs n) ≡ 0) where
  abbrev own : ℕ → ℤ
  own k = get_or (put (plays silent ps k) (block xs n)) i (pos 0)

  figured : {k : ℕ} (r : Retuned ps xs n i k)
      → Figure (puts (fresh r.o) (r.cs ++ block xs n ∷ [])) (line r) r.rule.t r.rule.a
      r.rule.e (at r)
  figured r =
      let u = r.rule in
      click r.o (r.cs ++ block xs n ∷ []) r.pre r.post r.c u.t u.a u.e (at r)
      u.split u.change u.until u.since (early r.o r.cs xs n i ok h)

  own-sample : (k : ℕ) → k ≤ 5 → (r : Retuned ps xs n i k)
      → get_or (puts (fresh r.o) (r.cs ++ block xs n ∷ [])) (at r) (pos 0) ≡ own k
  own-sample k l r =
      sample r.o r.cs xs n i ok
      ∙ ap (λ (v : State). get_or (put v (block xs n)) i (pos 0))
      (sym (shared.state k ps r.o r.cs l r.share))

  pub member : (k : ℕ) → k ≤ 5 → (m : Member ps xs n i k) → nat_abs (own k -ℤ ideal (own k) m) ≤ adds m
  member k l apart = zero-apart (own k) (own k) refl
  member k l (retunes r) = rw (← own-sample k l r) (figured r).near
  member k l (zeros r z) = zero-apart (own k) (from_rest r) (sym (own-sample k l r) ∙ (figured r).same z)

pub mix-figure : MixFigure
unfolding number
mix-figure ps xs n i K h e =
    let own : ℕ → ℤ = put_in (plays silent ps) xs n i in
    let g : ℕ → ℤ = λ k. ideal (own k) (K k) in
    let l : i < length xs = rw (as_long (plays silent ps) xs n e) h in
    rw (sums.sample (plays silent ps) xs n i h e)
    (clip-near (total own 6) (total g 6) (sum (λ k. adds (K k)) 6)
    (total-near own g (λ k. adds (K k)) 6 (λ k m. member ps xs n i l e k (omega arith) (K k))))
