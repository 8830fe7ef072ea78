-- Tests that turn a call down or let it pass, before other tests.
-- Assumes nothing.
use mathlib.Core.Path.{◌≡◌, refl, sym}
use mathlib.Core.Bool.{Bool, true, false, cond}
use mathlib.Core.List.{List, [], ◌∷◌, ◌++◌}
use lib.Dec.{T}
use Rattle.refusal.specs.Limits.{Limit, outside, refusal}
use Rattle.refusal.specs.Returned.{Kept, AllKept, none, more, numbered}
use Rattle.refusal.proofs.Returned.{past, kept-is, passed}

-- ---- a list of tests before another
pub stops : (ls ms : List Limit) → (refusal ls ≡ 0 → ⊥) → refusal (ls ++ ms) ≡ refusal ls
stops [] ms f = absurd (f refl)
stops (l ∷ ls) ms f = go (outside l.value l.low l.high) (stops ls ms) f
  where
    go : (b : Bool) → ((refusal ls ≡ 0 → ⊥) → refusal (ls ++ ms) ≡ refusal ls)
        → (cond b l.number (refusal ls) ≡ 0 → ⊥)
        → cond b l.number (refusal (ls ++ ms)) ≡ cond b l.number (refusal ls)
    go true i f = refl
    go false i f = i f

kept_passes : {ls : List Limit} (ms : List Limit) → AllKept ls → refusal (ls ++ ms) ≡ refusal ms
kept_passes ms none = refl
kept_passes ms (more {l} {ls} k ks) = sym (past l (ls ++ ms) (kept-is l k) (sym (kept_passes ms ks)))

pub passes : (ls ms : List Limit) → T (numbered ls) → refusal ls ≡ 0 → refusal (ls ++ ms) ≡ refusal ms
passes ls ms t e = kept_passes ms (passed ls t e)

-- ---- what passes
pub first-kept : {l : Limit} {ls : List Limit} → AllKept (l ∷ ls) → Kept l
first-kept (more k ks) = k

pub rest-kept : {l : Limit} {ls : List Limit} → AllKept (l ∷ ls) → AllKept ls
rest-kept (more k ks) = ks
