-- What the tests of the code find out is what the definition of loading asks, and what is laid and built is the voice.
use mathlib.Core.Path.{◌≡◌, refl, sym, ap, subst, ◌∙◌}
use mathlib.Core.Logic.{◌⊎◌, inl, inr}
use mathlib.Core.List.{List, [], ◌∷◌, reverse}
use Prim.Native.Nat.{ℕ, zero, suc, ◌+◌, ◌*◌, ◌/◌, ◌%◌, ◌≤◌, ◌<◌}
use native.Mathlib.Omega.{arith}
use lib.IntN.{ℤ, pos, nat_abs}
use lib.ListN.{length, get_or}
use lib.Seq.{ext_get_or}
use Rattle.refusal.specs.Limits.{refusal}
use Rattle.refusal.specs.Orders.{order, delay}
use Rattle.refusal.proofs.Tests.{accepted}
use Rattle.rule.specs.Tests.{long, lossy, early}
use Rattle.allpass.specs.Bounds.{Within, none, more}
use Rattle.line.specs.Ring.{ring}
use Rattle.rule.specs.Calls.{open_limits}
use Rattle.rule.specs.State.{State, fresh}
use Rattle.rule.proofs.Read.{get_d_within}
use Rattle.form.specs.Numbers.{Numbers, state_of as state_of_numbers}
use Rattle.form.specs.Parts.{value, held_in}
use Rattle.form.specs.Loads.{loads, panel, shown}
use Rattle.form.specs.Refusals.{form_size, InLimits}
use Rattle.form.proofs.Refusals.{refuses}
use Rattle.form.proofs.Theorems as Theorems
use Rattle.form.proofs.Limits.{turned_within}
use Rattle.voice.specs.Struct.{state_of, voice_of}
use Rattle.voice.specs.declared.Head.{Head}
use Rattle.load.specs.declared.words.Offsets.{Offsets}
use Rattle.load.specs.declared.words.Words.{Words}
use Rattle.load.specs.Words.{read, Placed, numbers_of, HeadIn, LineIn}
use Rattle.load.specs.Loaded.{Builds, Loads}
use Rattle.load.proofs.Found.{found-read, not_there}

-- ---- lists
pub all-within : {B : ℕ} (xs : List ℤ) → ((k : ℕ) → k < length xs → nat_abs (get_or xs k (pos 0)) ≤ B) → Within B xs
all-within [] f = none
all-within (x ∷ xs) f = more {x = x} (f 0 (omega arith)) (all-within xs (λ k h. f (suc k) (omega arith)))

-- ---- numbers in their limits
pub head-limits : (w : Words) (i : Numbers) → numbers_of w i.line ≡ i → InLimits i → HeadIn w
head-limits w i e h =
    let g : InLimits (numbers_of w i.line) = subst (λ (j : Numbers). InLimits j) (sym e) h in
    record {
      filter = g.filter;
      loss = g.loss;
      advance = g.advance;
      last = g.last;
      change = g.change;
      pluck = record { amplitude = g.amplitude; left = g.left; over = g.over };
    }

pub limits-head : (w : Words) (i : Numbers) → numbers_of w i.line ≡ i → HeadIn w → Within 8388607 i.line
    → InLimits i
limits-head w i e h l =
    let g : InLimits (numbers_of w i.line) = record {
      filter = h.filter;
      loss = h.loss;
      advance = h.advance;
      last = h.last;
      change = h.change;
      amplitude = h.pluck.amplitude;
      left = h.pluck.left;
      over = h.pluck.over;
      line = l;
    } in
    subst (λ (j : Numbers). InLimits j) e g

module _ (s : List ℕ) (m : ℕ) (map : m ≡ get_or s 0 0) (p : Offsets) (at : Placed m p) where
  pub form-end : p.end ≡ form_size (get_or s 0 0)
  form-end = rw (← map) at.end

  -- the line's part, where it is there
  pub line-room : length s ≡ p.end → m / 128 % 2 ≡ 1 → p.line + 8448 ≤ length s
  line-room e b = omega (arith, at.whole)

  pub line_at : (k : ℕ) → k < 2112 → get_or (held_in s).line k (pos 0) ≡ value (read s (p.line + 4 * k) (m / 128 % 2) 0)
  line_at k h =
      (refuses.reads s).line k h
      ∙ ap value (found-read s 7 k (p.line + 4 * k) (m / 128 % 2) 0 (rw (← map) (omega (arith, at.line))) (rw map))

  pub line-limits : Within 8388607 (held_in s).line → m / 128 % 2 ≡ 1 → LineIn s p.line
  line-limits l b k h =
      let e = line_at k h ∙ ap (λ (t : ℕ). value (read s (p.line + 4 * k) t 0)) b in
      rw (← e) (get_d_within k l)

  pub limits-line : (m / 128 % 2 ≡ 1 → LineIn s p.line) → Within 8388607 (held_in s).line
  limits-line f = all-within (held_in s).line (λ k h. go k (omega (arith, h, (refuses.reads s).many)) (bit (m / 128 % 2) refl))
    where
      bit : (t : ℕ) → t ≡ m / 128 % 2 → (t ≡ 1) ⊎ (t ≡ 1 → ⊥)
      bit zero e = inr (λ i. omega (arith, i))
      bit (suc zero) e = inl refl
      bit (suc (suc t)) e = inr (λ i. omega (arith, i))

      go : (k : ℕ) → k < 2112 → (m / 128 % 2 ≡ 1) ⊎ (m / 128 % 2 ≡ 1 → ⊥)
          → nat_abs (get_or (held_in s).line k (pos 0)) ≤ 8388607
      go k h (inl b) =
          let e = line_at k h ∙ ap (λ (t : ℕ). value (read s (p.line + 4 * k) t 0)) b in
          rw e (f b k h)
      go k h (inr b) =
          let e = line_at k h ∙ ap value (sym (not_there s (p.line + 4 * k) (m / 128 % 2) 0 b)) in
          rw e (omega arith)

  -- ---- the number
  pub by_22 : (length s ≡ p.end → ⊥) → 22 ≡ (loads s).refusal
  by_22 f = sym ((refuses.loading s).missing.1 (λ e. f (e ∙ sym form-end)))

  pub by_23 : length s ≡ p.end → (InLimits (held_in s) → ⊥) → 23 ≡ (loads s).refusal
  by_23 e f = sym ((refuses.loading s).outside.1 (e ∙ form-end, f))

  pub by_0 : length s ≡ p.end → InLimits (held_in s) → 0 ≡ (loads s).refusal
  by_0 e h = sym ((refuses.loading s).accepted.1 (e ∙ form-end, h))

  pub passed : 0 ≡ (loads s).refusal → (length s ≡ p.end) × InLimits (held_in s)
  passed e = let h = (refuses.loading s).accepted.0 (sym e) in (h.0 ∙ sym form-end, h.1)

-- ---- Open's refusal voice
pub no-opening : refusal (open_limits (record { N = 0; L = 0; d = 0; G = 0; Na = 0 })) ≡ 0 → ⊥
no-opening e =
    let h = (accepted (order 0) (long 0 ∷ delay 0 0 ∷ lossy 0 ∷ early 0 ∷ []) tt).0 e in
    omega (arith, h.0.least)

pub nothing-loaded : (s : List ℕ) (n : ℕ) (v : State) → n ≡ (loads s).refusal → (n ≡ 0 → ⊥)
    → v ≡ fresh (record { N = 0; L = 0; d = 0; G = 0; Na = 0 }) → v ≡ (loads s).state
nothing-loaded s n v e f h =
    h
    ∙ Theorems.refused_opens (record { N = 0; L = 0; d = 0; G = 0; Na = 0 }) no-opening
    ∙ sym (refuses.nothing s (λ z. f (e ∙ z)))

-- ---- the voice
first-place : (l : List ℤ) → ring 0 l ≡ reverse l
unfolding ring
first-place l = refl

pub voice-loaded : (s : List ℕ) (w : Words) (h : Head) (l : List ℤ) → 0 ≡ (loads s).refusal → Builds w h
    → numbers_of w (held_in s).line ≡ held_in s → InLimits (held_in s) → l ≡ (held_in s).line
    → Loads s (record { refusal = 0; head = h }) l
voice-loaded s w h l e b n i q =
    let ring-is : ring h.at l ≡ reverse (held_in s).line = rw (b.place, q) (first-place (held_in s).line) in
    let same : state_of h l ≡ state_of_numbers (held_in s)
    = made (b.voice (held_in s).line ∙ ap (λ (j : Numbers). (state_of_numbers j).voice) n) ring-is in
    record {
      number = e;
      state = same ∙ sym (refuses.loaded s (sym e));
      valid = record { fit = b.fit; line = rw ring-is (turned_within i.line) };
    }
  where
    made : voice_of h ≡ (state_of_numbers (held_in s)).voice → ring h.at l ≡ reverse (held_in s).line
        → state_of h l ≡ state_of_numbers (held_in s)
    made a r = rw (a, r)

pub laid-all : (s : List ℕ) (l : List ℤ) → length l ≡ 2112
    → ((k : ℕ) → k < 2112 → get_or l k (pos 0) ≡ get_or (held_in s).line k (pos 0)) → l ≡ (held_in s).line
laid-all s l n f =
    ext_get_or (pos 0) l (held_in s).line (n ∙ sym (refuses.reads s).many) (λ k h. f k (omega arith))

-- ---- the panel
pub panel-number : (s : List ℕ) → (panel s).refusal ≡ (loads s).refusal
unfolding panel
panel-number s = refl

pub panel-shows : (s : List ℕ) → 0 ≡ (loads s).refusal
    → panel s ≡ shown 0 (held_in s).tuning.L (held_in s).tuning.d (held_in s).G
unfolding panel
panel-shows s e = rw (refuses.loaded s (sym e), ← e)
