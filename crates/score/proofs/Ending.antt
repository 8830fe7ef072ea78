-- Each way in which a run can end, as specs/Ends.antt has them, is how the run ends.
-- Assumes nothing.
use mathlib.Core.Path.{◌≡◌, refl, sym, ap, subst}
use mathlib.Core.List.{List, [], ◌∷◌}
use Prim.Native.Nat.{ℕ, ◌+◌, ◌-◌, ◌≤◌, ◌<◌}
use native.Mathlib.Omega.{arith}
use native.Mathlib.Nat.{lt_irrefl, lt_of_lt_of_le}
use lib.IntN.{ℤ}
use lib.ListN.{length, drop, length-drop}
use Rattle.refusal.specs.Limits.{refusal}
use Rattle.refusal.specs.Returned.{Kept, none, more}
use Rattle.rule.specs.State.{State, fresh, puts}
use Rattle.rule.proofs.Refusals.{refuses}
use Rattle.record.specs.Record.{map_of, field, fields, whole, formed}
use Rattle.record.proofs.Reading.{good_map, taken-fields}
use Rattle.record.proofs.Returns.{well, ill, bytes_are}
use Rattle.follow.specs.Follow.{value, wait_calls, loss_calls, change_calls, pluck_calls, then, act_calls}
use Rattle.follow.specs.Follow.{record_calls}
use Rattle.follow.proofs.Waits.{wait-taken}
use Rattle.score.specs.Run.{opening, fits, play_limits, header_limits, all_records}
use Rattle.score.specs.Played.{Plays, Runs}
use Rattle.score.specs.Reached.{HeaderOpens, size, Readable, waited, SetsLoss, MakesChange}
use Rattle.score.specs.Ends.{HeaderRefused, cut, order, long, delay, loss, advance}
use Rattle.score.specs.Ends.{RecordRefused, ill_formed, full, LossRefused, ChangeRefused}
use Rattle.score.specs.Ends.{PluckRefused}
use Rattle.score.specs.Ends.{Ends, unopened, record_refused, lossless, unchanged, unplucked, success}
use Rattle.score.proofs.Playing.{play-returned, all-played, refused}
use Rattle.score.proofs.Header.{header-cut, header-whole, run-refused, run-played}
use Rattle.score.proofs.Turns.{stopped}
use Rattle.score.proofs.Parts.{Yields, r, first_then, first_ends, sets_loss, loss-refused}
use Rattle.score.proofs.Parts.{makes_change}
use Rattle.score.proofs.Parts.{change-refused, pluck-refused}
use Rattle.score.proofs.Standing.{Standing, standing, good, wait-is, kept_whole, kept-formed, room}
use Rattle.score.proofs.Standing.{some_left, passes, waited-whole, standing_whole}

-- the run of s over out returns n, k and w
pub record Returns (s : List ℕ) (out : List ℤ) (n k w : ℕ) : Type 0 where
  pub after : List ℤ
  pub runs : Runs s out (record { refusal = n; place = k; written = w }) after

-- ---- the header
pub opens-voice : (s : List ℕ) → HeaderOpens s → refusal (header_limits s) ≡ 0
opens-voice s o =
    sym (header-whole s o.whole
    (sym ((refuses.opens (opening s)).accepted.1 (o.order, (o.long, (o.delay, (o.loss, o.advance)))))))

header-number : (s : List ℕ) {n : ℕ} → HeaderRefused s n → (n ≡ refusal (header_limits s)) × (n ≡ 0 → ⊥)
header-number s (cut h) = (header-cut s h, λ z. omega arith)
header-number s (order h f) =
    (header-whole s h (sym ((refuses.opens (opening s)).order.1 f)), λ z. omega arith)
header-number s (long h a f) =
    (header-whole s h (sym ((refuses.opens (opening s)).long.1 (a, f))), λ z. omega arith)
header-number s (delay h a b f) =
    (header-whole s h (sym ((refuses.opens (opening s)).delay.1 (a, (b, f)))), λ z. omega arith)
header-number s (loss h a b d f) =
    (header-whole s h (sym ((refuses.opens (opening s)).loss.1 (a, (b, (d, f))))), λ z. omega arith)
header-number s (advance h a b d g f) =
    (header-whole s h (sym ((refuses.opens (opening s)).advance.1 (a, (b, (d, (g, f)))))), λ z. omega arith)

-- ---- a record
module _ {s : List ℕ} {out : List ℤ} {k : ℕ} {v : State} {left at : ℕ} (g : Standing s out k v left at) where
  abbrev t : List ℕ
  t = drop at s

  returns : {n w : ℕ} (after : List ℤ)
      → Plays (all_records (fresh (opening s)) (drop 8 s) (length out)) (fresh (opening s)) out
      (record { refusal = n; place = k; written = w }) after
      → Returns s out n k w
  returns after p = record { after = after; runs = run-played s out _ after (opens-voice s g.opens) p }

  pub at-end : at ≡ length s → Returns s out 0 k (length out - left)
  at-end e =
      returns g.now
      (all-played (drop 8 s) (fresh (opening s)) out v t k (length out - left) g.now g.playing
      (omega (arith, length-drop at s)))

  -- "14, 15 and 16 come before any sample of the record"
  not-whole : length t < size t → Kept (whole t) → ⊥
  not-whole h a =
      let l = subst (λ (n : ℕ). n ≤ length t) (bytes_are (map_of t)) a.least in
      lt_irrefl (length t) (lt_of_lt_of_le h l)

  number_is : {n : ℕ} → RecordRefused (drop at s) left n
      → (n ≡ refusal (play_limits (drop at s) left)) × (n ≡ 0 → ⊥)
  number_is (cut h) = (
    sym (((play-returned t left).refused [] (formed (map_of t) ∷ fits (fields t) left ∷ []) (whole t) refl).1
        (none, λ a. not-whole h a)),
    λ z. omega arith,
  )
  number_is (ill_formed h i) = (
    sym (((play-returned t left).refused (whole t ∷ []) (fits (fields t) left ∷ []) (formed (map_of t)) refl).1 (
      more (kept_whole t h) none,
      λ a. ill (map_of t) i (omega (arith, a.most)),
    )),
    λ z. omega arith,
  )
  number_is (full h f i) = (
    sym (((play-returned t left).refused (whole t ∷ formed (map_of t) ∷ []) [] (fits (fields t) left) refl).1 (
      more (kept_whole t h) (more (kept-formed t f) none),
      λ a. omega (
        arith,
        a.most,
        ap (λ (l : List ℕ). value l 0)
            (sym (taken-fields t (good_map t (kept_whole t h).least (well (map_of t) f)))),
      ),
    )),
    λ z. omega arith,
  )

  pub before-samples : at < length s → {n : ℕ} → RecordRefused (drop at s) left n
      → Returns s out n k (length out - left)
  before-samples h e =
      returns g.now
      (refused (drop 8 s) (fresh (opening s)) out v t k (length out - left) g.now g.playing
      (omega (arith, length-drop at s)) (rw (room g) (number_is e).0) (number_is e).1)

  -- "the others come after its wait"
  module _ (q : Readable (drop at s) left) where
    after-wait : {n : ℕ} {u : State} → Yields v (record_calls (fields (drop at s)) v) n u → (n ≡ 0 → ⊥)
        → Returns s out n k (length out - (left - field (drop at s) 0))
    after-wait y f =
        let e : length out - left + value (fields t) 0 ≡ length out - (left - field t 0)
        = omega (arith, wait-is t q, q.fits, g.few) in
        returns _
        (stopped (drop 8 s) (fresh (opening s)) out v t k (length out - left) g.now g.playing
        (some_left g q) (passes g q) (puts v (record_calls (fields t) v)) refl (sym e) (sym y.number) f)

    acts : {n : ℕ} {u : State} → Yields (waited t v) (act_calls (r t) (waited t v)) n u
        → Yields v (record_calls (fields (drop at s)) v) n u
    unfolding record_calls
    acts y =
        rw (← taken-fields t (good t q))
        (first_then (wait_calls (r t)) (act_calls (r t))
        (record { number = wait-taken (r t) v; state = refl }) y)

    pub by_loss : {n : ℕ} → LossRefused (drop at s) n
        → Returns s out n k (length out - (left - field (drop at s) 0))
    unfolding act_calls
    by_loss e =
        let y = loss-refused t (waited t v) e in
        after-wait
        (acts (first_ends (loss_calls (r t)) (then (change_calls (r t)) (pluck_calls (r t))) y.0 y.1))
        y.1

    module _ {a : State} (l : SetsLoss (drop at s) (waited (drop at s) v) a) where
      lossy : {n : ℕ} {u : State} → Yields a (then (change_calls (r t)) (pluck_calls (r t)) a) n u
          → Yields v (record_calls (fields (drop at s)) v) n u
      unfolding act_calls
      lossy y =
          acts (first_then (loss_calls (r t)) (then (change_calls (r t)) (pluck_calls (r t))) (sets_loss t l) y)

      pub by_change : {n : ℕ} → ChangeRefused (drop at s) a n
          → Returns s out n k (length out - (left - field (drop at s) 0))
      by_change e =
          let y = change-refused t (waited-whole t (standing_whole g) l) e in
          after-wait (lossy (first_ends (change_calls (r t)) (pluck_calls (r t)) y.1 y.2)) y.2

      pub by_pluck : {b : State} {n : ℕ} → MakesChange (drop at s) a b → PluckRefused (drop at s) n
          → Returns s out n k (length out - (left - field (drop at s) 0))
      by_pluck {b} c e =
          let y = pluck-refused t b e in
          after-wait (lossy (first_then (change_calls (r t)) (pluck_calls (r t)) (makes_change t (waited-whole t (standing_whole g) l) c)
          y.1))
          y.2

-- ---- every end
pub ending : (s : List ℕ) (out : List ℤ) {n k w : ℕ} → Ends s (length out) n k w → Returns s out n k w
ending s out (unopened e) = let h = header-number s e in
    record { after = out; runs = run-refused s out h.0 h.1 }
ending s out (record_refused g h e) = before-samples (standing s out g) h e
ending s out (lossless g h q e) = by_loss (standing s out g) q e
ending s out (unchanged g h q l e) = by_change (standing s out g) q l e
ending s out (unplucked g h q l c e) = by_pluck (standing s out g) q l c e
ending s out (success g e) = at-end (standing s out g) e
