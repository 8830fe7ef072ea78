-- L9 of the routines: what the two lists put out is what `perform` leaves of them, and what a caller hears.
-- Assumes nothing.
use mathlib.Core.Path.{◌≡◌, refl, sym, ap, ap₂, ◌∙◌}
use mathlib.Core.List.{List, ◌∷◌, ◌++◌, append_assoc}
use Prim.Native.Nat.{ℕ, suc, ◌+◌, ◌<◌}
use native.Mathlib.Omega.{arith}
use lib.IntN.{ℤ}
use lib.ListN.{length, take, drop, length-append}
use lib.Seq.{take-append-le, drop-append-le}
use Rattle.refusal.specs.Limits.{refusal}
use Rattle.samples.specs.Samples.{over}
use Rattle.rule.specs.Calls.{Call, announce, instant, Opening, number, open_limits}
use Rattle.rule.specs.State.{State, fresh, puts, numbers}
use Rattle.rule.specs.Live.{without, announcing, living}
use Rattle.rule.proofs.Numbers.{each-length}
use Rattle.rule.proofs.Live.{lives}
use Rattle.list.specs.Performed.{Performed}
use Rattle.list.specs.Performed.{performed, output_after, numbers_after}
use Rattle.list.specs.Live.{Run, Equals, Chains}

abbrev returned : Opening → ℕ → Performed
returned o n = record { refusal = 0; opening = refusal (open_limits o); written = n }

-- ---- numbers, with what they leave untouched behind them
without-append : (k : ℕ) (n t : List ℕ) → k < length n → without k (n ++ t) ≡ without k n ++ t
without-append k n t h =
    ap₂ (λ (a b : List ℕ). a ++ b) (take-append-le k n t (omega arith)) (drop-append-le (suc k) n t h)
    ∙ sym (append_assoc (take k n) (drop (suc k) n) t)

without-over : (k l : ℕ) (n m places : List ℕ) → k < length n → l < length m → length n ≡ length m
    → without k n ≡ without l m
    → without k (over n places) ≡ without l (over m places)
without-over k l n m places h i e w =
    without-append k n (drop (length n) places) h
    ∙ ap₂ (λ (a : List ℕ) (j : ℕ). a ++ drop j places) w e
    ∙ sym (without-append l m (drop (length m) places) i)

many : (v : State) (cs : List Call) → length (numbers v cs) ≡ length cs
many = each-length numbers (λ v c. number v.voice c) (λ v. refl) (λ v c cs. refl)

module _ (o : Opening) (before : List ℤ) (places : List ℕ) where
  -- what a run returns and leaves, by its calls alone
  module _ (cs : List Call) (ws : List ℕ) (xs : List ℤ) (r : Performed) (ys : List ℤ) (ns : List ℕ)
      (k : Run o before places cs ws xs r ys ns) where
    output : ys ≡ over (puts (fresh o) cs) before
    unfolding output_after
    output = k.performs.output ∙ rw (k.room, k.encoded)

    value : r ≡ returned o (length (puts (fresh o) cs))
    unfolding performed
    value = k.performs.value ∙ rw (k.room, k.encoded)

    codes : ns ≡ over (numbers (fresh o) cs) places
    unfolding numbers_after
    codes = k.performs.codes ∙ rw (k.room, k.encoded)

  pub equals : Equals o before places
  equals pre to mid post h ws vs xs zs r q ys us ns ms k l =
      let cs = announcing o pre to mid post in
      let ds = living o pre to mid post in
      let e = lives o pre to mid h post in
      let all = suc (length pre + (length mid + length post)) in
      let i : length (numbers (fresh o) cs) ≡ all
      = many (fresh o) cs
      ∙ length-append pre (announce to ∷ (mid ++ post))
      ∙ omega (arith, length-append mid post) in
      let j : length (numbers (fresh o) ds) ≡ all
      = many (fresh o) ds
      ∙ length-append pre (mid ++ instant to ∷ post)
      ∙ omega (arith, length-append mid (instant to ∷ post)) in
      record {
        outputs =
            output cs ws xs r ys ns k
            ∙ ap (λ (p : List ℤ). over p before) e.outputs
            ∙ sym (output ds vs zs q us ms l);
        values =
            value cs ws xs r ys ns k
            ∙ ap (λ (p : List ℤ). returned o (length p)) e.outputs
            ∙ sym (value ds vs zs q us ms l);
        codes =
            ap (without (length pre)) (codes cs ws xs r ys ns k)
            ∙ without-over (length pre) (length (pre ++ mid)) (numbers (fresh o) cs) (numbers (fresh o) ds)
            places (omega arith) (omega (arith, length-append pre mid)) (i ∙ sym j) e.codes
            ∙ ap (without (length (pre ++ mid))) (sym (codes ds vs zs q us ms l));
      }

pub chains : (o : Opening) → Chains o
chains o pre to mid post h ns ms ks js ys us g f k l c d =
    let e = lives o pre to mid h post in
    record {
      samples = c.samples ∙ e.outputs ∙ sym d.samples;
      voices = c.state ∙ e.state ∙ sym d.state;
      codes =
          ap (without (length pre)) c.codes
          ∙ e.codes
          ∙ ap (without (length (pre ++ mid))) (sym d.codes);
      runs =
          ap (without (length pre)) c.runs
          ∙ e.runs
          ∙ ap (without (length (pre ++ mid))) (sym d.runs);
    }
