-- An event on rows: by 24 and by the float's own number nothing is left changed; else the call's row is.
use mathlib.Core.Path.{◌≡◌, refl, sym, ap, ◌∙◌}
use mathlib.Core.Bool.{Bool, cond}
use mathlib.Core.List.{List, [], ◌∷◌}
use Prim.Native.Nat.{ℕ, ◌≤◌, ◌<◌}
use native.Mathlib.Decide.{dec_lt}
use native.Mathlib.Omega.{arith}
use borrow.Author.Tests.{lt-ltb, le-ltb, eq-eqb, ne_eqb}
use lib.IntN.{ℤ}
use Rattle.refusal.specs.Limits.{Limit, refusal}
use Rattle.refusal.proofs.Returned.{here, past, kept-is, is-met}
use Rattle.rule.specs.Calls.{Call}
use Rattle.instrument.specs.Strings.{Strings, string_limit, on, calls, play}
use Rattle.instrument.specs.Strings as S
use Rattle.strings.specs.Rows.{strings_of, Called}
use Rattle.events.specs.declared.Event.{Event}
use Rattle.events.specs.Events.{call_of, float_number, number, leaves, Handled}

-- ---- the definitions, by which test is met
module _ (s : Strings) (k : ℕ) (e : Event) where
  pub number-above : 5 < k → 24 ≡ number s k e
  unfolding number
  number-above h = rw (lt-ltb 5 k h)

  pub leaves-above : 5 < k → (j : ℕ) → s j ≡ leaves s k e j
  unfolding leaves
  leaves-above h j = rw (lt-ltb 5 k h)

  pub number_float : k ≤ 5 → (float_number (s k) e ≡ 0 → ⊥) → float_number (s k) e ≡ number s k e
  unfolding number
  number_float h f = rw (le-ltb 5 k h, ne_eqb (float_number (s k) e) 0 f)

  pub leaves_float : k ≤ 5 → (float_number (s k) e ≡ 0 → ⊥) → (j : ℕ) → s j ≡ leaves s k e j
  unfolding leaves
  leaves_float h f j =
      let w = play s (on k (calls (call_of (s k) e))) j in
      rw (le-ltb 5 k h) (sym (ap (λ (b : Bool). cond b w (s j)) (ne_eqb (float_number (s k) e) 0 f)))

  pub number-call : k ≤ 5 → float_number (s k) e ≡ 0 → S.number s (on k (calls (call_of (s k) e))) ≡ number s k e
  unfolding number
  number-call h z = rw (le-ltb 5 k h, eq-eqb (float_number (s k) e) 0 z)

  pub leaves-call : k ≤ 5 → float_number (s k) e ≡ 0
      → (j : ℕ) → play s (on k (calls (call_of (s k) e))) j ≡ leaves s k e j
  unfolding leaves
  leaves-call h z j = rw (le-ltb 5 k h, eq-eqb (float_number (s k) e) 0 z)

-- ---- on rows
module _ {hs : List (List ℕ)} (k : ℕ) (e : Event) where
  above : 5 < k → Handled hs k e 24 hs
  above h = record {
    number = λ ls. number-above (strings_of hs ls) k e h;
    states = λ ls j l. leaves-above (strings_of hs ls) k e h j;
    voices = λ ls v. v;
  }

  -- by the test of the string alone
  pub above_tested : {n : ℕ} → n ≡ refusal (string_limit k ∷ []) → (n ≡ 0 → ⊥) → Handled hs k e n hs
  above_tested {n} i f = go (dec_lt 5 k)
    where
      l : Limit
      l = string_limit k

      go : Dec (5 < k) → Handled hs k e n hs
      go (yes h) = rw (i ∙ here l [] (is-met l (λ p. omega (arith, p.most)))) (above h)
      go (no h) =
          absurd (f (i ∙ sym (past l [] (kept-is l (record { least = omega arith; most = omega arith })) refl)))

  module _ (h : k ≤ 5) where
    pub refused : {n : ℕ} → ((ls : List (List ℤ)) → float_number (strings_of hs ls k) e ≡ n) → (n ≡ 0 → ⊥)
        → Handled hs k e n hs
    refused i f = record {
      number = λ ls. sym (i ls) ∙ number_float (strings_of hs ls) k e h (λ z. f (sym (i ls) ∙ z));
      states = λ ls j l. leaves_float (strings_of hs ls) k e h (λ z. f (sym (i ls) ∙ z)) j;
      voices = λ ls v. v;
    }

    pub done : {n : ℕ} {gs : List (List ℕ)} (c : Call)
        → ((ls : List (List ℤ)) → float_number (strings_of hs ls k) e ≡ 0)
        → ((ls : List (List ℤ)) → call_of (strings_of hs ls k) e ≡ c) → Called hs k (calls c) n gs
        → Handled hs k e n gs
    done {n} {gs} c z i r = record {
      number = λ ls.
          (rw (← i ls) at (r.number ls)) ∙ number-call (strings_of hs ls) k e h (z ls);
      states = λ ls j l.
          (rw (← i ls) at (r.states ls j l)) ∙ leaves-call (strings_of hs ls) k e h (z ls) j;
      voices = r.voices;
    }
