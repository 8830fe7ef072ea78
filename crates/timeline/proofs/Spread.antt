-- What events do at their moments; of a merge it is the merge of what both do.
-- Assumes nothing.
use mathlib.Core.Path.{◌≡◌, refl, sym, ap, ◌∙◌}
use mathlib.Core.Bool.{Bool, true, false, cond}
use mathlib.Core.List.{List, [], ◌∷◌, ◌++◌}
use Prim.Native.Nat.{ℕ, suc, ◌≤◌, ◌<◌}
use native.Mathlib.Omega.{arith}
use borrow.Author.Tests.{leb-true, leb-false, le-leb, lt-leb}
use lib.Dec.{leb}
use Rattle.rule.specs.Calls.{Call}
use Rattle.timeline.specs.Merge.{merge}
use Rattle.timeline.specs.Events.{Event}
use Rattle.timeline.specs.Timed.{Timed}
use Rattle.timeline.specs.Order.{at, Ready, done, next}

abbrev pub step : Timed → ℕ
step t = t.step

-- calls that are no steps, all before step n
abbrev pub stamp : ℕ → List Call → List Timed
stamp n [] = []
stamp n (c ∷ cs) = record { step = n; call = c } ∷ stamp n cs

pub stamp_append : (n : ℕ) (cs ds : List Call) → stamp n (cs ++ ds) ≡ stamp n cs ++ stamp n ds
stamp_append n [] ds = refl
stamp_append n (c ∷ cs) ds = ap (λ (ts : List Timed). record { step = n; call = c } ∷ ts) (stamp_append n cs ds)

-- all from the step m on
pub data From (m : ℕ) : List Timed → Type 0 where
  none : From m []
  more : {t : Timed} {ts : List Timed} → m ≤ step t → From m ts → From m (t ∷ ts)

from_stamp : {m n : ℕ} (cs : List Call) {ts : List Timed} → m ≤ n → From m ts → From m (stamp n cs ++ ts)
from_stamp [] l f = f
from_stamp (c ∷ cs) l f = more l (from_stamp cs l f)

-- ---- calls of one moment, in a merge
merge_none : (ts : List Timed) → merge step ts [] ≡ ts
merge_none [] = refl
merge_none (t ∷ ts) = ap (λ (us : List Timed). t ∷ us) (merge_none ts)

first_stamp : (n : ℕ) (cs : List Call) (ts : List Timed) {us : List Timed} → From n us
    → merge step (stamp n cs ++ ts) us ≡ stamp n cs ++ merge step ts us
first_stamp n [] ts f = refl
first_stamp n (c ∷ cs) ts none = ap (λ (vs : List Timed). record { step = n; call = c } ∷ vs) (first_stamp n cs ts none)
first_stamp n (c ∷ cs) ts (more {t = u} l f) =
    rw (le-leb n (step u) l) (ap (λ (vs : List Timed). record { step = n; call = c } ∷ vs) (first_stamp n cs ts (more l f)))

second_past : (n : ℕ) (t : Timed) (ts : List Timed) → n < step t → (cs : List Call) (us : List Timed)
    → merge step (t ∷ ts) (stamp n cs ++ us) ≡ stamp n cs ++ merge step (t ∷ ts) us
second_past n t ts l [] us = refl
second_past n t ts l (c ∷ cs) us =
    rw (lt-leb (step t) n l) (ap (λ (vs : List Timed). record { step = n; call = c } ∷ vs) (second_past n t ts l cs us))

second_stamp : (n : ℕ) (cs : List Call) {ts : List Timed} (us : List Timed) → From (suc n) ts
    → merge step ts (stamp n cs ++ us) ≡ stamp n cs ++ merge step ts us
second_stamp n cs us none = refl
second_stamp n cs us (more {t = t} {ts = ts} l f) = second_past n t ts l cs us

module _ (doings : Event → List Call) where
  -- what each event does, at its moment
  abbrev pub spread : List Event → List Timed
  spread [] = []
  spread (e ∷ es) = stamp (at e) (doings e) ++ spread es

  from_spread : {m p : ℕ} {es : List Event} → m ≤ p → Ready p es → From m (spread es)
  from_spread l done = none
  from_spread {m} {p} l (next {e = e} k u r) = let j : m ≤ at e = omega arith in from_stamp (doings e) j (from_spread j r)

  module _ (e : Event) (es : List Event) (r : Ready (at e) es)
      (f : (fs : List Event) → Ready (at e) fs → spread (merge at es fs) ≡ merge step (spread es) (spread fs)) where
    placed_spread : (fs : List Event) {p : ℕ} → p ≤ at e → Ready p fs
        → spread (merge at (e ∷ es) fs) ≡ merge step (spread (e ∷ es)) (spread fs)
    placed_spread [] l t =
        ap (λ (ts : List Timed). stamp (at e) (doings e) ++ ts) (f [] done)
        ∙ sym (first_stamp (at e) (doings e) (spread es) none)
    placed_spread (g ∷ gs) l (next u v t) = go (leb (at e) (at g)) refl (λ k. placed_spread gs k t)
      where
        go : (b : Bool) → leb (at e) (at g) ≡ b
            → (at g ≤ at e → spread (merge at (e ∷ es) gs) ≡ merge step (spread (e ∷ es)) (spread gs))
            → spread (cond b (e ∷ merge at es (g ∷ gs)) (g ∷ merge at (e ∷ es) gs))
            ≡ merge step (spread (e ∷ es)) (spread (g ∷ gs))
        go true h i =
            let j = leb-true (at e) (at g) h in
            let k : Ready (at e) (g ∷ gs) = next {e = g} j (omega arith) t in
            ap (λ (ts : List Timed). stamp (at e) (doings e) ++ ts) (f (g ∷ gs) k)
            ∙ sym (first_stamp (at e) (doings e) (spread es) (from_spread (omega arith) k))
        go false h i =
            let j = leb-false (at e) (at g) h in
            ap (λ (ts : List Timed). stamp (at g) (doings g) ++ ts) (i (omega arith))
            ∙ sym (second_stamp (at g) (doings g) (spread gs) (from_stamp (doings e) j (from_spread j r)))

  pub spread_merge : (es fs : List Event) {p : ℕ} → Ready p es → Ready p fs
      → spread (merge at es fs) ≡ merge step (spread es) (spread fs)
  spread_merge [] fs s t = refl
  spread_merge (e ∷ es) fs (next l k s) t = placed_spread e es s (λ gs u. spread_merge es gs s u) fs l t
