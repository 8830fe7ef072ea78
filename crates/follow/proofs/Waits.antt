-- A record's wait is an accepted block of zeros, and nothing else of the record puts out a sample.
-- Assumes nothing.
use mathlib.Core.Path.{◌≡◌, refl, sym, ap, ◌∙◌}
use mathlib.Core.Bool.{Bool, true, false, cond}
use mathlib.Core.List.{List, [], ◌∷◌, ◌++◌, append-nil}
use Prim.Native.Nat.{ℕ, zero, suc, ◌+◌, ◌≤◌}
use native.Mathlib.Omega.{arith}
use borrow.Author.Tests.{eq-eqb}
use lib.Dec.{eqb}
use lib.IntN.{ℤ, pos}
use lib.ListN.{replicate, length-replicate}
use Rattle.integer.specs.Rounding.{M}
use Rattle.samples.specs.Samples.{loudest}
use Rattle.rule.specs.Calls.{Call, block, announce, instant, number, done, inputs}
use Rattle.rule.specs.State.{State, block_after, block_out, call, put, puts, from}
use Rattle.rule.proofs.Refusals.{refuses, quiet}
use Rattle.rule.proofs.Puts.{put-none}
use Rattle.voice.specs.declared.Head.{Head}
use Rattle.voice.specs.Struct.{state_of}
use Rattle.voice.specs.Valid.{Valid}
use Rattle.voice.proofs.Called.{call-accepted}
use Rattle.follow.specs.Follow.{value, stands, absent, wait_calls}
use Rattle.follow.specs.Follow.{loss_calls, change, change_calls, pluck_calls}
use Rattle.follow.specs.Follow.{change_to, result, then, act_calls, record_calls}
use Rattle.follow.specs.Does.{Does}
use Rattle.rule.proofs.Puts.{puts-append}
use Rattle.follow.proofs.Sequence.{result-one, then-past}

-- ---- calls without steps
pub data Still : List Call → Type 0 where
  none : Still []
  more : {c : Call} {cs : List Call} → inputs c ≡ [] → Still cs → Still (c ∷ cs)

pub puts-still : (v : State) {cs : List Call} → Still cs → puts v cs ≡ []
puts-still v none = refl
puts-still v (more {c} e s) = rw (put-none v c e) (puts-still (call v c) s)

still-append : {cs ds : List Call} → Still cs → Still ds → Still (cs ++ ds)
still-append none t = t
still-append (more e s) t = more e (still-append s t)

still-cond : (b : Bool) {cs ds : List Call} → Still cs → Still ds → Still (cond b cs ds)
still-cond true s t = s
still-cond false s t = t

still-then : (f g : State → List Call) → ((v : State) → Still (f v)) → ((v : State) → Still (g v))
    → (v : State)
    → Still (then f g v)
unfolding then
still-then f g s t v =
    still-append (s v) (still-cond (eqb (result v (f v)) 0) (t (from v (f v))) none)

change-still : (r : List ℕ) (v : State) → inputs (change r v) ≡ []
change-still r v = go (absent r 7)
  where
    go : (b : Bool) → inputs (cond b (announce (change_to r v)) (instant (change_to r v))) ≡ []
    go true = refl
    go false = refl

acts-still : (r : List ℕ) (v : State) → Still (act_calls r v)
unfolding act_calls
acts-still r v =
    still-then (loss_calls r) (then (change_calls r) (pluck_calls r))
    (λ w. still-cond (absent r 3) none (more refl none))
    (still-then (change_calls r) (pluck_calls r)
    (λ w. still-cond (eqb (stands r 1 + stands r 2) 0) none (more (change-still r w) none))
    (λ w. still-cond (absent r 4) none (more refl none)))
    v

-- ---- the wait
pub zeros-quiet : (n : ℕ) → loudest (replicate n (pos 0)) ≤ M
zeros-quiet zero = omega arith
zeros-quiet (suc n) = omega (arith, zeros-quiet n)

module _ (v : State) (n : ℕ) where
  zeros : List ℤ
  zeros = replicate n (pos 0)

  accepted : number v.voice (block zeros n) ≡ 0
  unfolding zeros
  accepted =
      (refuses.blocks v.voice zeros n).accepted.1
      (length-replicate n (pos 0), quiet zeros (zeros-quiet n))

  pub wait-from : call v (block (replicate n (pos 0)) n) ≡ block_after v (replicate n (pos 0))
  unfolding zeros done
  wait-from = call-accepted v (block zeros n) accepted

  pub wait-puts : put v (block (replicate n (pos 0)) n) ≡ block_out v (replicate n (pos 0))
  unfolding zeros put done
  wait-puts = rw (eq-eqb (number v.voice (block zeros n)) 0 accepted)

pub wait-taken : (r : List ℕ) (v : State) → result v (wait_calls r v) ≡ 0
unfolding zeros
wait-taken r v = sym (result-one v (block (replicate (value r 0) (pos 0)) (value r 0)))
    ∙ accepted v (value r 0)

-- what a record puts out
pub record-puts : (r : List ℕ) (v : State) → puts v (record_calls r v)
    ≡ block_out v (replicate (value r 0) (pos 0))
unfolding record_calls
record-puts r v =
    let w = from v (wait_calls r v) in
    ap (λ (cs : List Call). puts v cs) (sym (then-past (wait_calls r) (act_calls r) v (wait-taken r v)))
    ∙ puts-append v (wait_calls r v) (act_calls r w)
    ∙ ap (λ (ys : List ℤ). puts v (wait_calls r v) ++ ys) (puts-still w (acts-still r w))
    ∙ append-nil (puts v (wait_calls r v))
    ∙ append-nil (put v (block (replicate (value r 0) (pos 0)) (value r 0)))
    ∙ wait-puts v (value r 0)

-- a wait that was rendered over zeros
pub wait-does : (r : List ℕ) (h : Head) (l : List ℤ) (g : Head) (k : List ℤ) {xs : List ℤ}
    → xs ≡ replicate (value r 0) (pos 0) → state_of g k ≡ block_after (state_of h l) xs → Valid g k
    → Does h l (wait_calls r (state_of h l)) (record { refusal = 0; head = g }) k
wait-does r h l g k e i w = record {
  number = sym (wait-taken r (state_of h l));
  state =
      i
      ∙ ap (λ (ys : List ℤ). block_after (state_of h l) ys) e
      ∙ sym (wait-from (state_of h l) (value r 0));
  valid = w;
}
