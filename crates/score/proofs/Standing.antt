-- A record that is reached is one that the run stands before: what was played, and what is left of the run.
-- Assumes nothing.
use mathlib.Core.Path.{◌≡◌, refl, sym, ap, subst, ◌∙◌}
use mathlib.Core.List.{List}
use Prim.Native.Nat.{ℕ, ◌+◌, ◌-◌, ◌≤◌, ◌<◌}
use native.Mathlib.Omega.{arith}
use native.Mathlib.Nat.{le_refl, le_of_eq}
use lib.IntN.{ℤ}
use lib.ListN.{length, drop, length-drop}
use lib.Seq.{drop-drop}
use Rattle.refusal.specs.Limits.{refusal}
use Rattle.refusal.specs.Returned.{Kept, none, more}
use Rattle.rule.specs.State.{State, fresh, puts}
use Rattle.rule.specs.Valid.{Whole}
use Rattle.rule.proofs.States.{call-whole, fresh-whole, from-whole}
use Rattle.record.specs.Record.{map_of, field, fields, rest, record_number, whole, formed}
use Rattle.record.specs.Returns.{IllFormed}
use Rattle.record.proofs.Reading.{good_map, taken-fields, taken-rest}
use Rattle.record.proofs.Returns.{well, bytes_are}
use Rattle.follow.specs.Follow.{value, loss_calls, change_calls, pluck_calls, wait_calls, then}
use Rattle.follow.specs.Follow.{act_calls, record_calls}
use Rattle.follow.proofs.Waits.{wait-taken}
use Rattle.score.specs.Run.{opening, play_limits}
use Rattle.score.specs.Reached.{HeaderOpens, size, Readable, waited, SetsLoss, as_it_was, set, MakesChange}
use Rattle.score.specs.Reached.{MakesPluck, Reached, first, later}
use Rattle.score.proofs.Playing.{Playing, begun, play-returned}
use Rattle.score.proofs.Turns.{goes_on}
use Rattle.score.proofs.Parts.{Yields, r, first_then, sets_loss, makes_change, makes_pluck}

module _ (t : List ℕ) where
  pub kept_whole : size t ≤ length t → Kept (whole t)
  kept_whole h = record {
    least = subst (λ (n : ℕ). n ≤ length t) (sym (bytes_are (map_of t))) h;
    most = le_refl (length t);
  }

  pub kept-formed : (IllFormed (map_of t) → ⊥) → Kept (formed (map_of t))
  kept-formed f = record { least = omega arith; most = le_of_eq (well (map_of t) f) }

  -- once its wait is over and its loss is set
  pub waited-whole : {v u : State} → Whole v → SetsLoss t (waited t v) u → Whole u
  waited-whole {v} g (as_it_was e i) = rw i (call-whole v _ g)
  waited-whole {v} g (set e b i) = rw i (call-whole (waited t v) _ (call-whole v _ g))

  module _ {left : ℕ} (a : Readable t left) where
    pub good : 0 ≡ record_number t
    good = good_map t (kept_whole a.whole).least (well (map_of t) a.formed)

    pub wait-is : value (fields t) 0 ≡ field t 0
    wait-is = ap (λ (l : List ℕ). value l 0) (sym (taken-fields t good))

    pub readable : refusal (play_limits t left) ≡ 0
    readable = (play-returned t left).accepted.1
        (more (kept_whole a.whole) (more (kept-formed a.formed)
        (more (record { least = omega arith; most = omega (arith, wait-is, a.fits) }) none)))

    -- what it does is what its calls do
    module _ {v x y u : State} (g : Whole v) (l : SetsLoss t (waited t v) x) (c : MakesChange t x y)
        (p : MakesPluck t y u) where
      pub followed : Yields v (record_calls (fields t) v) 0 u
      unfolding record_calls act_calls
      followed =
          let rest_of =
          first_then (change_calls (r t)) (pluck_calls (r t)) (makes_change t (waited-whole g l) c) (makes_pluck t p) in
          let acts = first_then (loss_calls (r t)) (then (change_calls (r t)) (pluck_calls (r t)))
          (sets_loss t l) rest_of in
          rw (← taken-fields t good)
          (first_then (wait_calls (r t)) (act_calls (r t))
          (record { number = wait-taken (r t) v; state = refl }) acts)

-- ---- the run stands before record k, on the voice v, with the places left, at a byte
pub record Standing (s : List ℕ) (out : List ℤ) (k : ℕ) (v : State) (left at : ℕ) : Type 0 where
  pub opens : HeaderOpens s
  pub few : left ≤ length out
  pub within : at ≤ length s
  pub now : List ℤ
  pub playing : Playing (drop 8 s) (fresh (opening s)) out v (drop at s) k (length out - left) now

module _ {s : List ℕ} {out : List ℤ} {k : ℕ} {v : State} {left at : ℕ} (g : Standing s out k v left at) where
  abbrev t : List ℕ
  t = drop at s

  abbrev done : ℕ
  done = length out - left

  pub room : length out - (length out - left) ≡ left
  room = omega (arith, g.few)

  module _ (q : Readable (drop at s) left) where
    pub some_left : 0 < length (drop at s)
    some_left = omega (arith, q.whole)

    pub passes : refusal (play_limits (drop at s) (length out - (length out - left))) ≡ 0
    passes = rw room (readable t q)

    -- it goes on to the next record
    pub onward : {u : State} → Yields v (record_calls (fields (drop at s)) v) 0 u
        → Standing s out (k + 1) u (left - field (drop at s) 0) (at + size (drop at s))
    onward {u} y =
        let e : done + value (fields t) 0 ≡ length out - (left - field t 0)
        = omega (arith, wait-is t q, q.fits, g.few) in
        let tail : rest t ≡ drop (at + size t) s
        = sym (taken-rest t (good t q)) ∙ ap (λ (n : ℕ). drop n t) (bytes_are (map_of t))
        ∙ drop-drop (size t) at s in
        let next = goes_on (drop 8 s) (fresh (opening s)) out v t k done g.now g.playing
        some_left passes
        (puts v (record_calls (fields t) v)) refl (sym e) y.number (sym y.state) in
        record {
          opens = g.opens;
          few = omega (arith, g.few);
          within = omega (arith, q.whole, length-drop at s, g.within);
          now = _;
          playing = rw tail at next;
        }

pub standing_whole : {s : List ℕ} {out : List ℤ} {k : ℕ} {v : State} {left at : ℕ} → Standing s out k v left at
    → Whole v
standing_whole {s} g =
    let p = g.playing in
    subst (λ (u : State). Whole u) p.state
    (from-whole p.calls (fresh (opening s)) (fresh-whole (opening s)))

pub standing : (s : List ℕ) (out : List ℤ) {k : ℕ} {v : State} {left at : ℕ}
    → Reached s (length out) k v left at → Standing s out k v left at
standing s out (first o) =
    let e : 0 ≡ length out - length out = omega arith in
    record {
      opens = o;
      few = omega arith;
      within = o.whole;
      now = out;
      playing =
          subst (λ (n : ℕ). Playing (drop 8 s) (fresh (opening s)) out (fresh (opening s)) (drop 8 s) 0 n out) e
          (begun (drop 8 s) (fresh (opening s)) out);
    }
standing s out (later {at = at} g q l c p) =
    onward (standing s out g) q (followed (drop at s) q (standing_whole (standing s out g)) l c p)
