-- What an event does, in its own score and in a merge; and the steps of what a list of records does.
-- Assumes nothing.
use mathlib.Core.Path.{◌≡◌, refl, ap, ap₂, ◌∙◌}
use mathlib.Core.Bool.{cond}
use mathlib.Core.List.{List, [], ◌∷◌, ◌++◌}
use Prim.Native.Nat.{ℕ, zero, suc, ◌+◌, ◌-◌, min}
use native.Mathlib.Omega.{arith}
use lib.Dec.{eqb, eqb-suc-zero}
use Rattle.rule.specs.Voice.{Tuning, tuning}
use Rattle.rule.specs.Calls.{Call, loss, pluck}
use Rattle.record.specs.Record.{present}
use Rattle.follow.specs.Follow.{value, stands, absent, count_of}
use Rattle.outline.specs.Outline.{Outline, passed, from, record_calls, loss_calls, changing, change_calls, pluck_calls}
use Rattle.timeline.specs.Events.{Event, event, events}
use Rattle.timeline.specs.Merged.{merge_record, merged_from}
use Rattle.timeline.specs.Timed.{Timed, timed}
use Rattle.timeline.specs.Order.{at, Ready}
use Rattle.timeline.specs.Order as Order
use Rattle.timeline.proofs.Order.{merged-wait}
use Rattle.timeline.proofs.Spread.{stamp, spread}
use Rattle.timeline.proofs.Acts.{all, accepts, all_deeds, record-timed, waiting}
use Rattle.timeline.specs.Ends.{Ends, done, next}
use Rattle.timeline.proofs.Listing.{listed}
use Rattle.timeline.proofs.Bits.{map-bits}

-- its loss, its change to the L and d that its own score would have used, and its pluck
abbrev pub doings : ℕ → Event → List Call
doings N e =
    cond (absent e.own 3) [] (loss (value e.own 3) ∷ [])
    ++ (cond (eqb (stands e.own 1 + stands e.own 2) 0) [] (changing e.own (tuning N e.L e.d) ∷ [])
    ++ cond (absent e.own 4) [] (pluck (value e.own 4) (count_of e.own) (value e.own 6) ∷ []))

-- ---- the merged record does the same
change-part : (x : ℕ) {c : ℕ} (f : Tuning → Call) (N u v L d : ℕ) → c ≡ min x 1
    → cond (eqb (c + c) 0) [] (f (tuning N (cond (eqb c 0) u (present c L)) (cond (eqb c 0) v (present c d))) ∷ [])
    ≡ cond (eqb x 0) [] (f (tuning N L d) ∷ [])
change-part zero {c} f N u v L d e = let z : c ≡ 0 = omega arith in rw z refl
change-part (suc x) {c} f N u v L d e = let z : c ≡ 1 = omega arith in rw (z, eqb-suc-zero x) refl

pluck-part : (p : ℕ) (a n z : ℕ)
    → cond (eqb p 0) [] (pluck a (cond (eqb p 0) 100 (present p n)) z ∷ [])
    ≡ cond (eqb p 0) [] (pluck a n z ∷ [])
pluck-part zero a n z = refl
pluck-part (suc p) a n z = rw (eqb-suc-zero p) refl

module _ (N w : ℕ) (e : Event) (o : Outline) where
  pub merged-loss : loss_calls (merge_record w e) o ≡ cond (absent e.own 3) [] (loss (value e.own 3) ∷ [])
  unfolding merge_record
  merged-loss = let b = map-bits w e.own in rw b.b3 refl

  pub merged-change : change_calls N (merge_record w e) o
      ≡ cond (eqb (stands e.own 1 + stands e.own 2) 0) [] (changing e.own (tuning N e.L e.d) ∷ [])
  unfolding merge_record
  merged-change =
      let b = map-bits w e.own in
      rw (b.b1, b.b2, b.b7)
      (change-part (stands e.own 1 + stands e.own 2) (changing e.own) N o.L o.d e.L e.d refl)

  pub merged-pluck : pluck_calls (merge_record w e) o
      ≡ cond (absent e.own 4) [] (pluck (value e.own 4) (count_of e.own) (value e.own 6) ∷ [])
  unfolding merge_record
  merged-pluck =
      let b = map-bits w e.own in
      rw (b.b4, b.b5) (pluck-part (stands e.own 4) (value e.own 4) (count_of e.own) (value e.own 6))

  pub merged_doings : all N (merge_record w e) o ≡ doings N e
  merged_doings =
      ap₂ (λ (x y : List Call). x ++ y) merged-loss
      (ap₂ (λ (x y : List Call). x ++ y) merged-change merged-pluck)

-- ---- the steps
module _ (N Na : ℕ) where
  one-timed : (n : ℕ) (r : List ℕ) (o : Outline) (ds : List Call) (e : Event) → n + value r 0 ≡ at e
      → record_calls N Na r o ≡ waiting (value r 0) ∷ all N r (passed (value r 0) o)
      → all N r (passed (value r 0) o) ≡ doings N e
      → timed n (record_calls N Na r o ++ ds) ≡ stamp (at e) (doings N e) ++ timed (at e) ds
  one-timed n r o ds e i j k =
      ap (λ (cs : List Call). timed n (cs ++ ds)) j
      ∙ record-timed n (value r 0) ds (all_deeds N r (passed (value r 0) o))
      ∙ ap₂ (λ (t : ℕ) (cs : List Call). stamp t cs ++ timed t ds) i k

  pub own-timed : (n : ℕ) {o : Outline} {rs : List (List ℕ)} → Ends N Na o rs
      → timed n (listed N Na o rs) ≡ spread (doings N) (events N Na n o rs)
  unfolding events
  own-timed n done = refl
  own-timed n (next {o} {r} {rs} z s) =
      one-timed n r o (listed N Na (from Na o (record_calls N Na r o)) rs) (event n r o) refl (accepts N Na r o z).calls refl
      ∙ ap (λ (ts : List Timed). stamp (n + value r 0) (doings N (event n r o)) ++ ts) (own-timed (n + value r 0) s)

  pub merged-timed : (n : ℕ) (o : Outline) {es : List Event} → Ready n es → Ends N Na o (merged_from n es)
      → timed n (listed N Na o (merged_from n es)) ≡ spread (doings N) es
  unfolding merged_from
  merged-timed n o Order.done s = refl
  merged-timed n o (Order.next {e = e} {es = es} l k y) (next z s) =
      let r = merge_record (at e - n) e in
      let u = from Na o (record_calls N Na r o) in
      let i : n + (at e - n) ≡ at e = omega arith in
      one-timed n r o (listed N Na u (merged_from (at e) es)) e
      (ap (λ (w : ℕ). n + w) (merged-wait (at e - n) e) ∙ i) (accepts N Na r o z).calls
      (merged_doings N (at e - n) e (passed (value r 0) o))
      ∙ ap (λ (ts : List Timed). stamp (at e) (doings N e) ++ ts) (merged-timed (at e) u y s)
