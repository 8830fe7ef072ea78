-- A record that is followed: its samples over the output, and the run that ends with it or goes on.
-- Assumes nothing.
use mathlib.Core.Path.{◌≡◌, sym, ap, ◌∙◌}
use mathlib.Core.List.{List, ◌++◌, append_assoc}
use Prim.Native.Nat.{ℕ, ◌+◌, ◌-◌, ◌≤◌, ◌<◌}
use native.Mathlib.Omega.{arith}
use borrow.Rule.Slice.PartMut.{put_mid}
use lib.IntN.{ℤ, pos}
use lib.ListN.{length, take, drop, replicate, length-drop, length-append, length-replicate}
use lib.Seq.{length-take-le, drop-drop, drop-append_seam, take-append_seam}
use Rattle.refusal.specs.Limits.{refusal}
use Rattle.rule.specs.Calls.{Call}
use Rattle.rule.specs.State.{State, from, puts}
use Rattle.record.specs.Record.{map_of, bytes, fields, rest}
use Rattle.follow.specs.Follow.{value, result, record_calls}
use Rattle.score.specs.Run.{ends, joined, play_limits, records, all_records}
use Rattle.samples.specs.Samples.{over}
use Rattle.score.specs.Played.{Plays}
use Rattle.record.proofs.Reading.{taken-rest}
use Rattle.rule.proofs.Puts.{from-append, puts-append}
use Rattle.rule.proofs.Puts.{length-out}
use Rattle.follow.proofs.Waits.{record-puts}
use Rattle.score.proofs.Playing.{Playing, has_room, later, opens, played-stops, played-all, plays_as}

pub over-length : (ys out : List ℤ) → length ys ≤ length out → length (over ys out) ≡ length out
over-length ys out h = rw length-append (omega (arith, length-drop (length ys) out))

pub part_length : (d : ℕ) {w : ℕ} (out : List ℤ) → d + w ≤ length out
    → length (take (d + w - d) (drop d out)) ≡ w
part_length d {w} out h =
    let e : d + w - d ≡ w = omega arith in
    rw e (length-take-le w (drop d out) (omega (arith, length-drop d out)))

-- samples that are put after others over an output
pub over-more : (xs ys out : List ℤ) (d : ℕ) {e : ℕ} → d ≡ length xs → e ≡ d + length ys
    → put_mid d (e - d) (over xs out) ys ≡ over (xs ++ ys) out
over-more xs ys out d {e} i j =
    let k : e - d ≡ length ys = omega arith in
    rw (k, i, take-append_seam xs (drop (length xs) out), drop-append_seam xs (drop (length xs) out))
    (rw (drop-drop (length ys) (length xs) out, length-append xs ys, append_assoc xs ys))

module _ (s : List ℕ) (u : State) (out : List ℤ) (v : State) (t : List ℕ) (k done : ℕ) (now : List ℤ)
    (p : Playing s u out v t k done now) (h : 0 < length t)
    (z : refusal (play_limits t (length out - done)) ≡ 0) (ys : List ℤ)
    (i : ys ≡ puts v (record_calls (fields t) v)) where
  abbrev cs : List Call
  cs = record_calls (fields t) v

  pub wait-long : length ys ≡ value (fields t) 0
  wait-long =
      ap length (i ∙ record-puts (fields t) v)
      ∙ length-out v (replicate (value (fields t) 0) (pos 0))
      ∙ length-replicate (value (fields t) 0) (pos 0)

  more : puts u p.calls ++ ys ≡ puts u (p.calls ++ cs)
  more =
      ap (λ (l : List ℤ). puts u p.calls ++ l) (i ∙ ap (λ (w : State). puts w cs) (sym p.state))
      ∙ sym (puts-append u p.calls cs)

  module _ {e : ℕ} (j : e ≡ done + value (fields t) 0) where
    more-count : e ≡ length (puts u (p.calls ++ cs))
    more-count = rw (← more, length-append) (omega (arith, wait-long, p.count))

    more-output : put_mid done (e - done) now ys ≡ over (puts u (p.calls ++ cs)) out
    more-output =
        rw (p.output, ← more)
        (over-more (puts u p.calls) ys out done p.count (omega (arith, wait-long)))

    within : e ≤ length out
    within = omega (arith, (has_room t (length out - done) z).1, p.within)

    pub still-long : length (put_mid done (e - done) now ys) ≡ length out
    still-long = rw more-output (over-length (puts u (p.calls ++ cs)) out
        (omega (arith, within, more-count)))

    pub stopped : {n : ℕ} → n ≡ result v cs → (n ≡ 0 → ⊥)
        → Plays (all_records u s (length out)) u out (record { refusal = n; place = k; written = e })
        (put_mid done (e - done) now ys)
    stopped {n} r f =
        plays_as u out (p.calls ++ cs)
        (sym (opens s u out v t k done now p h (played-stops v cs k (later s u out v t k done now p h) z
        (λ q. f (r ∙ q))))
        ∙ ap (λ (m : ℕ). ends m k (p.calls ++ cs)) (sym r)) more-count more-output

    -- it takes a byte at least
    pub shorter : length (rest t) < length t
    shorter =
        rw (← taken-rest t (sym (has_room t (length out - done) z).0))
        (omega (arith, length-drop (bytes (map_of t)) t))

    pub goes_on : result v cs ≡ 0 → {w : State} → w ≡ from v cs
        → Playing s u out w (rest t) (k + 1) e (put_mid done (e - done) now ys)
    goes_on r {w} q = record {
      most = p.most - 1;
      enough = omega (arith, shorter, p.enough);
      calls = p.calls ++ cs;
      left =
          let o = later s u out v t k done now p h in
          let room : length out - e ≡ length out - done - value (fields t) 0 = omega arith in
          ap (λ (x : State). joined (p.calls ++ cs) (records (p.most - 1) x (rest t) (length out - e)
          (k + 1))) q
          ∙ ap (λ (n : ℕ). joined (p.calls ++ cs) (records (p.most - 1) (from v cs) (rest t) n (k + 1)))
          room
          ∙ ap (λ (l : List Call). ends o.number o.place l) (append_assoc p.calls cs o.calls)
          ∙ opens s u out v t k done now p h (played-all v cs k o z r);
      state = from-append u p.calls cs ∙ ap (λ (x : State). from x cs) p.state ∙ sym q;
      few = omega (arith, shorter, p.few);
      count = more-count;
      within = within;
      output = more-output;
    }
