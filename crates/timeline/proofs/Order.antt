-- Events in order, and their merge: a merged wait never exceeds the record's own.
-- Assumes nothing.
use mathlib.Core.Path.{◌≡◌, refl}
use mathlib.Core.Bool.{Bool, true, false, cond}
use mathlib.Core.List.{List, [], ◌∷◌}
use Prim.Native.Nat.{ℕ, ◌+◌, ◌-◌, ◌≤◌}
use native.Mathlib.Omega.{arith}
use borrow.Author.Tests.{leb-true, leb-false}
use lib.Dec.{leb}
use Rattle.follow.specs.Follow.{value}
use Rattle.score.specs.Run.{opening}
use Rattle.outline.specs.Outline.{Outline, from, record_calls, opened}
use Rattle.timeline.specs.Merge.{merge}
use Rattle.timeline.specs.Events.{Event, event, events, events_of, list_of}
use Rattle.timeline.specs.Order.{at, wait, Ready, done, next}
use Rattle.timeline.specs.Merged.{merge_record, merged_from, merged_records, both}
use Rattle.timeline.specs.Theorems.{Shorter, none, more, WaitsLess}

pub events-ready : (N Na m : ℕ) (o : Outline) (rs : List (List ℕ)) → Ready m (events N Na m o rs)
unfolding events
events-ready N Na m o [] = done
events-ready N Na m o (r ∷ rs) =
    next {p = m} {e = event m r o} (omega arith) (omega arith)
    (events-ready N Na (m + value r 0) (from Na o (record_calls N Na r o)) rs)

-- ---- the merge is in order too
module _ (e : Event) (es : List Event) (f : (fs : List Event) → Ready (at e) fs → Ready (at e) (merge at es fs)) where
  placed_ready : (fs : List Event) {p : ℕ} → p ≤ at e → at e ≤ p + wait e → Ready p fs
      → Ready p (merge at (e ∷ es) fs)
  placed_ready [] l k t = next {e = e} l k (f [] done)
  placed_ready (g ∷ gs) {p} l k (next u v t) = go (leb (at e) (at g)) refl (λ x y z. placed_ready gs x y z)
    where
      go : (b : Bool) → leb (at e) (at g) ≡ b
          → (at g ≤ at e → at e ≤ at g + wait e → Ready (at g) gs → Ready (at g) (merge at (e ∷ es) gs))
          → Ready p (cond b (e ∷ merge at es (g ∷ gs)) (g ∷ merge at (e ∷ es) gs))
      go true h i =
          let j = leb-true (at e) (at g) h in
          next {e = e} l k (f (g ∷ gs) (next {e = g} j (omega arith) t))
      go false h i =
          let j = leb-false (at e) (at g) h in
          next {e = g} u v (i (omega arith) (omega arith) t)

pub ready-merge : (es fs : List Event) {p : ℕ} → Ready p es → Ready p fs → Ready p (merge at es fs)
ready-merge [] fs s t = t
ready-merge (e ∷ es) fs (next l k s) t = placed_ready e es (λ gs u. ready-merge es gs s u) fs l k t

-- ---- so that a merged wait is the shorter one
pub merged-wait : (w : ℕ) (e : Event) → value (merge_record w e) 0 ≡ w
unfolding merge_record
merged-wait w e = refl

ready_shorter : {p : ℕ} {es : List Event} → Ready p es → Shorter (merged_from p es) es
unfolding merged_from
ready_shorter done = none
ready_shorter {p} (next {e = e} l k s) =
    more {r = merge_record (e.moment - p) e} {e = e} (omega (arith, merged-wait (e.moment - p) e)) (ready_shorter s)

pub both-ready : (a b : List ℕ) → Ready 0 (both a b)
unfolding events_of
both-ready a b =
    ready-merge (events_of a) (events_of b)
    (events-ready (opening a).N (opening a).Na 0 (opened a) (list_of a))
    (events-ready (opening b).N (opening b).Na 0 (opened b) (list_of b))

pub waits-less : (a b : List ℕ) → WaitsLess a b
unfolding merged_records
waits-less a b = ready_shorter (both-ready a b)
