-- The part of a score after the record at a place, by its length.
use mathlib.Core.Path.{◌≡◌, sym, ap, ◌∙◌}
use mathlib.Core.Bool.{Bool, true, false, cond}
use mathlib.Core.List.{List}
use Prim.Native.Nat.{ℕ, ◌+◌, ◌-◌, ◌≤◌}
use native.Mathlib.Omega.{arith}
use lib.Dec.{eqb}
use lib.ListN.{length, drop, length-drop, drop_of_length-le}
use lib.Seq.{drop-drop}
use native.Mathlib.Decide.{dec_le}
use Rattle.record.specs.Record.{bytes, map_of, record_number, rest}

-- a part that reaches to the end starts where its length says
pub dropped : (n : ℕ) (s : List ℕ) → drop (length s - length (drop n s)) s ≡ drop n s
dropped n s = go (dec_le n (length s))
  where
    go : Dec (n ≤ length s) → drop (length s - length (drop n s)) s ≡ drop n s
    go (yes h) =
        let e : length s - length (drop n s) ≡ n = omega (arith, length-drop n s) in
        ap (λ (k : ℕ). drop k s) e
    go (no h) =
        let e : length s - length (drop n s) ≡ length s = omega (arith, length-drop n s) in
        ap (λ (k : ℕ). drop k s) e
        ∙ drop_of_length-le s {i = length s} (omega arith)
        ∙ sym (drop_of_length-le s {i = n} (omega arith))

-- where the rest of what starts at a place starts
start : (b : Bool) (at n : ℕ) (s : List ℕ) → cond b (drop n (drop at s)) (drop at s) ≡ drop (at + cond b n 0) s
start true at n s = drop-drop n at s
start false at n s = let z : at ≡ at + 0 = omega arith in ap (λ (k : ℕ). drop k s) z

rest-start : (s : List ℕ) (at : ℕ)
    → rest (drop at s) ≡ drop (at + cond (eqb (record_number (drop at s)) 0) (bytes (map_of (drop at s))) 0) s
unfolding rest
rest-start s at = start (eqb (record_number (drop at s)) 0) at (bytes (map_of (drop at s))) s

pub shorter : (s : List ℕ) (at : ℕ) → length (rest (drop at s)) ≤ length s
shorter s at =
    rw (rest-start s at)
    (omega (arith, length-drop (at + cond (eqb (record_number (drop at s)) 0) (bytes (map_of (drop at s))) 0) s))

pub tail_at : (s : List ℕ) (at : ℕ) → at ≤ length s
    → drop (length s - length (rest (drop at s))) s ≡ rest (drop at s)
tail_at s at h =
    rw (rest-start s at) (dropped (at + cond (eqb (record_number (drop at s)) 0) (bytes (map_of (drop at s))) 0) s)
