-- How long a list of records lasts, and a merge: as long as the longer.
-- Assumes nothing.
use mathlib.Core.Path.{◌≡◌, refl, ap, ◌∙◌}
use mathlib.Core.Bool.{Bool, true, false, cond}
use mathlib.Core.List.{List, [], ◌∷◌, ◌++◌}
use Prim.Native.Nat.{ℕ, ◌+◌, ◌-◌, ◌≤◌, max}
use native.Mathlib.Omega.{arith}
use borrow.Author.Tests.{leb-true, leb-false}
use lib.Dec.{leb}
use lib.IntN.{pos}
use lib.ListN.{length-replicate}
use Rattle.rule.specs.Calls.{Call}
use Rattle.follow.specs.Follow.{value}
use Rattle.outline.specs.Outline.{Outline, passed, from, record_calls}
use Rattle.timeline.specs.Merge.{merge}
use Rattle.timeline.specs.Events.{Event, events}
use Rattle.timeline.specs.Merged.{merge_record, merged_from}
use Rattle.timeline.specs.Timed.{lasts}
use Rattle.timeline.specs.Order.{at, wait, Ready}
use Rattle.timeline.proofs.Order.{merged-wait}
use Rattle.timeline.specs.Order as Order
use Rattle.timeline.proofs.Acts.{all, accepts, all_deeds, Deed, loses, plucks, prepares, changes, Deeds, none, more, waiting}
use Rattle.timeline.specs.Ends.{Ends, done, next}
use Rattle.timeline.proofs.Listing.{listed}

-- ---- the last moment
abbrev pub finish : ℕ → List Event → ℕ
finish p [] = p
finish p (e ∷ es) = finish (at e) es

finish_after : {p : ℕ} {es : List Event} → Ready p es → p ≤ finish p es
finish_after Order.done = omega arith
finish_after (Order.next l k r) = omega (arith, finish_after r)

module _ (e : Event) (es : List Event) (r : Ready (at e) es)
    (f : (fs : List Event) → Ready (at e) fs
    → finish (at e) (merge at es fs) ≡ max (finish (at e) es) (finish (at e) fs)) where
  placed_finish : (fs : List Event) {p : ℕ} → p ≤ at e → Ready p fs
      → finish p (merge at (e ∷ es) fs) ≡ max (finish (at e) es) (finish p fs)
  placed_finish [] l t = omega (arith, f [] Order.done, finish_after r)
  placed_finish (g ∷ gs) {p} l (Order.next u v t) = go (leb (at e) (at g)) refl (λ k. placed_finish gs k t)
    where
      go : (b : Bool) → leb (at e) (at g) ≡ b
          → (at g ≤ at e → finish (at g) (merge at (e ∷ es) gs) ≡ max (finish (at e) es) (finish (at g) gs))
          → finish p (cond b (e ∷ merge at es (g ∷ gs)) (g ∷ merge at (e ∷ es) gs))
          ≡ max (finish (at e) es) (finish (at g) gs)
      go true h i =
          let j = leb-true (at e) (at g) h in
          f (g ∷ gs) (Order.next {e = g} j (omega arith) t)
      go false h i = let j = leb-false (at e) (at g) h in i (omega arith)

pub finish_merge : (es fs : List Event) {p : ℕ} → Ready p es → Ready p fs
    → finish p (merge at es fs) ≡ max (finish p es) (finish p fs)
finish_merge [] fs s t = omega (arith, finish_after t)
finish_merge (e ∷ es) fs (Order.next l k s) t = placed_finish e es s (λ gs u. finish_merge es gs s u) fs l t

-- ---- of calls
deed_lasts : (n : ℕ) {c : Call} (cs : List Call) → Deed c → lasts n (c ∷ cs) ≡ lasts n cs
deed_lasts n cs loses = let z : n + 0 ≡ n = omega arith in ap (λ (m : ℕ). lasts m cs) z
deed_lasts n cs plucks = let z : n + 0 ≡ n = omega arith in ap (λ (m : ℕ). lasts m cs) z
deed_lasts n cs prepares = let z : n + 0 ≡ n = omega arith in ap (λ (m : ℕ). lasts m cs) z
deed_lasts n cs changes = let z : n + 0 ≡ n = omega arith in ap (λ (m : ℕ). lasts m cs) z

deeds_last : (n : ℕ) {cs : List Call} (ds : List Call) → Deeds cs → lasts n (cs ++ ds) ≡ lasts n ds
deeds_last n ds none = refl
deeds_last n ds (more {cs = cs} d s) = deed_lasts n (cs ++ ds) d ∙ deeds_last n ds s

module _ (n₀ na : ℕ) where
  one-lasts : (n : ℕ) (r : List ℕ) (o : Outline) (ds : List Call)
      → record_calls n₀ na r o ≡ waiting (value r 0) ∷ all n₀ r (passed (value r 0) o)
      → lasts n (record_calls n₀ na r o ++ ds) ≡ lasts (n + value r 0) ds
  one-lasts n r o ds e =
      ap (λ (cs : List Call). lasts n (cs ++ ds)) e
      ∙ ap (λ (w : ℕ). lasts (n + w) (all n₀ r (passed (value r 0) o) ++ ds)) (length-replicate (value r 0) (pos 0))
      ∙ deeds_last (n + value r 0) ds (all_deeds n₀ r (passed (value r 0) o))

  pub own-lasts : (n : ℕ) {o : Outline} {rs : List (List ℕ)} → Ends n₀ na o rs
      → lasts n (listed n₀ na o rs) ≡ finish n (events n₀ na n o rs)
  unfolding events
  own-lasts n done = refl
  own-lasts n (next {o} {r} {rs} z s) =
      one-lasts n r o (listed n₀ na (from na o (record_calls n₀ na r o)) rs) (accepts n₀ na r o z).calls
      ∙ own-lasts (n + value r 0) s

  pub merged-lasts : (n : ℕ) (o : Outline) {es : List Event} → Ready n es → Ends n₀ na o (merged_from n es)
      → lasts n (listed n₀ na o (merged_from n es)) ≡ finish n es
  unfolding merged_from
  merged-lasts n o Order.done s = refl
  merged-lasts n o (Order.next {e = e} {es = es} l k y) (next z s) =
      let r = merge_record (at e - n) e in
      let u = from na o (record_calls n₀ na r o) in
      let i : n + value r 0 ≡ at e = omega (arith, merged-wait (at e - n) e) in
      one-lasts n r o (listed n₀ na u (merged_from (at e) es)) (accepts n₀ na r o z).calls
      ∙ ap (λ (m : ℕ). lasts m (listed n₀ na u (merged_from (at e) es))) i
      ∙ merged-lasts (at e) u y s
