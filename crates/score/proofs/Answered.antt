-- Some end is always met, so that a run returns what its end says, and nothing else: demand 1 of a score.
-- Assumes nothing.
use mathlib.Core.Path.{◌≡◌, sym, subst, subst₃, ◌∙◌}
use mathlib.Core.Logic.{◌⊎◌, inl, inr, ⊎_elim}
use mathlib.Core.List.{List}
use Prim.Native.Nat.{ℕ, zero, suc, ◌+◌, ◌-◌, ◌≤◌, ◌<◌}
use native.Mathlib.Omega.{arith}
use lib.IntN.{ℤ}
use lib.ListN.{length, get_or, drop}
use lib.Seq.{get_or-drop}
use Rattle.rule.specs.State.{State}
use Rattle.record.specs.Record.{bit, map_of, before, word, present, field}
use Rattle.score.specs.Played.{Played}
use Rattle.score.specs.Played.{Runs}
use Rattle.score.specs.Reached.{size, waited, Reached, first, later}
use Rattle.score.specs.Ends.{HeaderRefused, RecordRefused, LossRefused, ChangeRefused, PluckRefused}
use Rattle.score.specs.Ends.{cut, order, long, delay, loss, advance, ill_formed, full, loss_outside}
use Rattle.score.specs.Ends.{waits}
use Rattle.score.specs.Ends.{amplitude, count}
use Rattle.score.specs.Ends.{Ends, unopened, record_refused, lossless, unchanged, unplucked, success}
use Rattle.score.specs.Ends.{Answered}
use Rattle.score.proofs.Decided.{at_most, opens-or, readable_or, loss-or, change-or, pluck-or}
use Rattle.score.proofs.Standing.{standing}
use Rattle.score.proofs.Ending.{Returns, ending}

module _ (s : List ℕ) (out : List ℤ) where
  abbrev Ended : Type 0
  Ended = (n k w : ℕ) × Ends s (length out) n k w

  -- a run that stands before a record ends there, or stands before the next
  turn : {k : ℕ} {v : State} {left at : ℕ} → Reached s (length out) k v left at → at < length s
      → ((u : State) × Reached s (length out) (k + 1) u (left - field (drop at s) 0) (at + size (drop at s)))
      ⊎ Ended
  turn {k} {v} {left} {at} g h =
      let t = drop at s in
      ⊎_elim
      (λ q. ⊎_elim
      (λ l. ⊎_elim
      (λ c. ⊎_elim (λ p. inl (p.0, later g q l.1 c.1 p.1))
      (λ e. inr (_, k, _, unplucked g h q l.1 c.1 e.1)) (pluck-or t c.0))
      (λ e. inr (_, k, _, unchanged g h q l.1 e.1)) (change-or t l.0))
      (λ e. inr (_, k, _, lossless g h q e.1)) (loss-or t (waited t v)))
      (λ e. inr (_, k, _, record_refused g h e.1)) (readable_or t left)

  -- each record takes a byte at least
  ends_so : (fuel : ℕ) {k : ℕ} {v : State} {left at : ℕ} → Reached s (length out) k v left at
      → length s ≤ at + fuel → Ended
  ends_so zero {k} {at = at} g h =
      (0, k, _, success g (omega (arith, (standing s out g).within)))
  ends_so (suc fuel) {k} {left = left} {at} g h =
      ⊎_elim
      (λ l. ⊎_elim
      (λ n.
      ends_so fuel {k = k + 1} {v = n.0} {left = left - field (drop at s) 0} {at = at + size (drop at s)}
      n.1 (omega arith))
      (λ e. e) (turn g (omega arith)))
      (λ f. (0, k, _, success g (omega (arith, (standing s out g).within)))) (at_most (suc at) (length s))

  pub ended : Ended
  ended =
      ⊎_elim (λ o. ends_so (length s) (first o) (omega arith)) (λ e. (e.0, 0, 0, unopened e.1))
      (opens-or s)

-- ---- the numbers of each part
module _ (s : List ℕ) (octets : (i : ℕ) → get_or s i 0 < 256) where
  small : (at k : ℕ) → get_or (drop at s) k 0 < 256
  small at k = rw (get_or-drop at s k 0) (octets (at + k))

  field-small : (at k : ℕ) → field (drop at s) k ≤ 65535
  unfolding field
  field-small at k = go (bit (map_of (drop at s)) k) (before (map_of (drop at s)) k)
    where
      go : (b p : ℕ) → present b (word (drop at s) p) ≤ 65535
      go zero p = omega arith
      go (suc b) p = omega (arith, small at p, small at (p + 1))

  abbrev Possible : ℕ → Type 0
  Possible n = (n ≡ 4 → ⊥) × (9 ≤ n → n ≤ 13 → ⊥) × (n ≤ 16)

  header_possible : {n : ℕ} → HeaderRefused s n → Possible n
  header_possible (cut h) = omega arith
  header_possible (order h f) = omega arith
  header_possible (long h a f) = omega arith
  header_possible (delay h a b f) = omega arith
  header_possible (loss h a b d f) = absurd (f (record {
    least = omega arith;
    most = omega (arith, octets 6, octets 7);
  }))
  header_possible (advance h a b d g f) = omega arith

  part_possible : {t : List ℕ} {left n : ℕ} → RecordRefused t left n → Possible n
  part_possible (cut h) = omega arith
  part_possible (ill_formed h i) = omega arith
  part_possible (full h f i) = omega arith

  change_possible : {t : List ℕ} {v : State} {n : ℕ} → ChangeRefused t v n → Possible n
  change_possible (long a f) = omega arith
  change_possible (delay a l f) = omega arith
  change_possible (waits a l k f) = omega arith

  pluck_possible : {t : List ℕ} {n : ℕ} → PluckRefused t n → Possible n
  pluck_possible (amplitude e f) = omega arith
  pluck_possible (count e a g f) = omega arith

  loss_possible : (at : ℕ) {n : ℕ} → LossRefused (drop at s) n → Possible n
  loss_possible at (loss_outside e f) =
      absurd (f (record { least = omega arith; most = field-small at 3 }))

  possible : {places n k w : ℕ} → Ends s places n k w → Possible n
  possible (unopened e) = header_possible e
  possible (record_refused g h e) = part_possible e
  possible (lossless {at = at} g h q e) = loss_possible at e
  possible (unchanged g h q l e) = change_possible e
  possible (unplucked g h q l c e) = pluck_possible e
  possible (success g e) = omega arith

-- ---- demand 1 of a run
module _ (s : List ℕ) (out : List ℤ) (r : Played) (after : List ℤ) (p : Runs s out r after) where
  agrees : {n k w : ℕ} → Returns s out n k w → (r.refusal ≡ n) × (r.place ≡ k) × (r.written ≡ w)
  agrees e = (
    p.number ∙ sym e.runs.number,
    p.place ∙ sym e.runs.place,
    p.count ∙ sym e.runs.count,
  )

  met : Ends s (length out) r.refusal r.place r.written
  met =
      let e = ended s out in
      let a = agrees (ending s out e.3) in
      subst₃ (λ (n k w : ℕ). Ends s (length out) n k w) (sym a.0) (sym a.1) (sym a.2) e.3

  pub answered : Answered s (length out) r
  answered = record {
    ends = λ n k w. (
      λ a. subst₃ (λ (n k w : ℕ). Ends s (length out) n k w) a.0 a.1 a.2 met,
      λ e. agrees (ending s out e),
    );
    never = λ octets n e. subst (λ (n : ℕ). Possible s octets n) e (possible s octets met);
  }
