-- A run that ends, by its outline: the calls of its records, each accepted.
-- Assumes nothing.
use mathlib.Core.Path.{◌≡◌, refl, ap}
use mathlib.Core.Bool.{Bool, true, false, cond}
use mathlib.Core.List.{List, [], ◌∷◌, ◌++◌}
use Prim.Native.Nat.{ℕ, zero, suc, ◌+◌}
use native.Mathlib.Omega.{arith}
use borrow.Author.Tests.{eqb-true, eqb-false}
use lib.Dec.{eqb}
use lib.ListN.{length}
use Rattle.octets.specs.Theorems.{Bytes}
use Rattle.rule.specs.Calls.{Call}
use Rattle.record.specs.Record.{record_number, fields, rest}
use Rattle.score.specs.Run.{Outcome, ends, joined}
use Rattle.outline.specs.Outline.{Outline, from, result, record_calls, played, records}
use Rattle.timeline.specs.Events.{records_in}
use Rattle.timeline.specs.Ends.{Ends, done, next}
use Rattle.timeline.proofs.Sound.{AllSound, none, more, sound_fields, rest-bytes}

module _ (N Na : ℕ) where
  -- the calls of the records rs
  abbrev pub listed : Outline → List (List ℕ) → List Call
  listed o [] = []
  listed o (r ∷ rs) = record_calls N Na r o ++ listed (from Na o (record_calls N Na r o)) rs

  -- x is what comes of the records rs, which stand in the bytes s
  pub record Went (s : List ℕ) (x : Outcome) (o : Outline) (rs : List (List ℕ)) (k : ℕ) : Type 0 where
    pub calls : x.calls ≡ listed o rs
    pub place : x.place ≡ k + length rs
    pub ends : Ends N Na o rs
    pub sound : Bytes s → AllSound rs

  pub went : (n : ℕ) (o : Outline) (s : List ℕ) (k : ℕ) → (records N Na n o s k).number ≡ 0
      → Went s (records N Na n o s k) o (records_in n s) k
  unfolding records records_in played
  went zero o s k e = record { calls = refl; place = omega arith; ends = done; sound = λ _. none }
  went (suc n) o s k e = go (eqb (length s) 0) (went n (from Na o cs) (rest s) (k + 1)) e
    where
      cs : List Call
      cs = record_calls N Na (fields s) o

      later : Outcome
      later = records N Na n (from Na o cs) (rest s) (k + 1)

      rs : List (List ℕ)
      rs = records_in n (rest s)

      at : (b : Bool) → eqb (record_number s) 0 ≡ b → (c : Bool) → eqb (result Na o cs) 0 ≡ c
          → (later.number ≡ 0 → Went (rest s) later (from Na o cs) rs (k + 1))
          → (cond b (cond c (joined cs later) (ends (result Na o cs) k cs)) (ends (record_number s) k [])).number ≡ 0
          → Went s (cond b (cond c (joined cs later) (ends (result Na o cs) k cs)) (ends (record_number s) k [])) o
          (fields s ∷ rs) k
      at true p true q f e =
          let w = f e in
          let z = eqb-true (record_number s) 0 p in
          record {
            calls = ap (λ (ds : List Call). cs ++ ds) w.calls;
            place = omega (arith, w.place);
            ends = next (eqb-true (result Na o cs) 0 q) w.ends;
            sound = λ h. more (sound_fields s h z) (w.sound (rest-bytes s h z));
          }
      at true p false q f e = absurd (eqb-false (result Na o cs) 0 q e)
      at false p c q f e = absurd (eqb-false (record_number s) 0 p e)

      go : (b : Bool) → (later.number ≡ 0 → Went (rest s) later (from Na o cs) rs (k + 1))
          → (cond b (ends 0 k []) (played (record_number s) k Na o cs later)).number ≡ 0
          → Went s (cond b (ends 0 k []) (played (record_number s) k Na o cs later)) o (cond b [] (fields s ∷ rs)) k
      go true f e = record { calls = refl; place = omega arith; ends = done; sound = λ _. none }
      go false f e = at (eqb (record_number s) 0) refl (eqb (result Na o cs) 0) refl f e
