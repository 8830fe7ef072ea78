-- Calls one after the other on an outline, and the parts of a record: its wait, loss, change and pluck.
use mathlib.Core.Path.{◌≡◌, refl, sym, ap, ◌∙◌}
use mathlib.Core.Bool.{Bool, true, false, cond}
use mathlib.Core.List.{List, [], ◌∷◌, ◌++◌, append-nil}
use Prim.Native.Nat.{ℕ, ◌+◌}
use native.Mathlib.Omega.{arith}
use borrow.Author.Tests.{eq-eqb, ne_eqb, eqb-true, eqb-false}
use lib.Dec.{eqb}
use lib.IntN.{pos}
use lib.ListN.{replicate, length-replicate}
use Rattle.refusal.specs.Limits.{refusal}
use Rattle.refusal.proofs.Tests.{accepted}
use Rattle.rule.specs.Tests.{matched, loud}
use Rattle.rule.specs.Voice.{Tuning, tuning}
use Rattle.rule.specs.Calls.{Call, block, loss, pluck, announce, instant}
use Rattle.follow.specs.Follow.{value, stands, absent, count_of}
use Rattle.follow.proofs.Waits.{zeros-quiet}
use Rattle.outline.specs.Outline.{Outline, passed, change_tests, number, told, call, from, result}
use Rattle.outline.specs.Outline.{then, wait_calls, loss_calls, length_to, delay_to, changing, change_calls}
use Rattle.outline.specs.Outline.{pluck_calls, act_calls, record_calls}

-- ---- calls one after the other
module _ (Na : ℕ) where
  pub result-past : (o : Outline) (cs ds : List Call) → result Na o cs ≡ 0
      → result Na o (cs ++ ds) ≡ result Na (from Na o cs) ds
  result-past o [] ds e = refl
  result-past o (c ∷ cs) ds e = go (eqb (number o c) 0) refl (result-past (call Na o c) cs ds) e
    where
      go : (b : Bool) → eqb (number o c) 0 ≡ b
          → (result Na (call Na o c) cs ≡ 0
          → result Na (call Na o c) (cs ++ ds) ≡ result Na (from Na (call Na o c) cs) ds)
          → cond b (result Na (call Na o c) cs) (number o c) ≡ 0
          → cond b (result Na (call Na o c) (cs ++ ds)) (number o c) ≡ result Na (from Na (call Na o c) cs) ds
      go true i f e = f e
      go false i f e = absurd (eqb-false (number o c) 0 i e)

  from-append : (o : Outline) (cs ds : List Call) → from Na o (cs ++ ds) ≡ from Na (from Na o cs) ds
  from-append o [] ds = refl
  from-append o (c ∷ cs) ds = from-append (call Na o c) cs ds

  -- f and then g: g is reached if and only if f is accepted
  module _ (f g : Outline → List Call) (o : Outline) where
    pub then-stops : (result Na o (f o) ≡ 0 → ⊥) → result Na o (then Na f g o) ≡ result Na o (f o)
    unfolding then
    then-stops e =
        rw (ne_eqb (result Na o (f o)) 0 e) (ap (λ (cs : List Call). result Na o cs) (append-nil (f o)))

    module _ (e : result Na o (f o) ≡ 0) where
      pub then-calls : then Na f g o ≡ f o ++ g (from Na o (f o))
      unfolding then
      then-calls = rw (eq-eqb (result Na o (f o)) 0 e) refl

      pub then-goes : result Na o (then Na f g o) ≡ result Na (from Na o (f o)) (g (from Na o (f o)))
      then-goes =
          ap (λ (cs : List Call). result Na o cs) then-calls ∙ result-past o (f o) (g (from Na o (f o))) e

      pub then-from : from Na o (then Na f g o) ≡ from Na (from Na o (f o)) (g (from Na o (f o)))
      then-from =
          ap (λ (cs : List Call). from Na o cs) then-calls ∙ from-append o (f o) (g (from Na o (f o)))

  -- both were accepted
  pub record Both (f g : Outline → List Call) (o : Outline) : Type 0 where
    pub calls : then Na f g o ≡ f o ++ g (from Na o (f o))
    pub first : result Na o (f o) ≡ 0
    pub second : result Na (from Na o (f o)) (g (from Na o (f o))) ≡ 0

  pub both : (f g : Outline → List Call) (o : Outline) → result Na o (then Na f g o) ≡ 0 → Both f g o
  both f g o e = go (eqb (result Na o (f o)) 0) refl
    where
      go : (b : Bool) → eqb (result Na o (f o)) 0 ≡ b → Both f g o
      go true i =
          let z = eqb-true (result Na o (f o)) 0 i in
          record { calls = then-calls f g o z; first = z; second = sym (then-goes f g o z) ∙ e }
      go false i =
          let n = eqb-false (result Na o (f o)) 0 i in
          absurd (n (sym (then-stops f g o n) ∙ e))

-- the number of one call alone
pub single : {n : ℕ} → cond (eqb n 0) 0 n ≡ n
single {n} = go (eqb n 0) refl
  where
    go : (b : Bool) → eqb n 0 ≡ b → cond b 0 n ≡ n
    go true i = sym (eqb-true n 0 i)
    go false i = refl

-- ---- the wait, and the loss
pub wait-accepted : (o : Outline) (w : ℕ) → number o (block (replicate w (pos 0)) w) ≡ 0
unfolding number
wait-accepted o w =
    let zs = replicate w (pos 0) in
    let l = length-replicate w (pos 0) in
    (accepted (matched zs w) (loud zs ∷ []) tt).1
    (record { least = omega arith; most = omega arith }, record { least = omega arith; most = zeros-quiet w })

pub wait_passes : (Na : ℕ) (o : Outline) (w : ℕ) → call Na o (block (replicate w (pos 0)) w) ≡ passed w o
unfolding call
wait_passes Na o w =
    rw (eq-eqb (number o (block (replicate w (pos 0)) w)) 0 (wait-accepted o w), length-replicate w (pos 0))

-- a call that leaves the outline as it is, accepted or not
pub call_keeps : (Na : ℕ) (o : Outline) (c : Call) → told Na o c ≡ o → call Na o c ≡ o
unfolding call
call_keeps Na o c e = go (eqb (number o c) 0)
  where
    go : (b : Bool) → cond b (told Na o c) o ≡ o
    go true = e
    go false = refl

one_keeps : (Na : ℕ) (o : Outline) (c : Call) → told Na o c ≡ o → (b : Bool)
    → from Na o (cond b [] (c ∷ [])) ≡ o
one_keeps Na o c e true = refl
one_keeps Na o c e false = call_keeps Na o c e

pub loss_keeps : (Na : ℕ) (o : Outline) (r : List ℕ) → from Na o (loss_calls r o) ≡ o
loss_keeps Na o r = one_keeps Na o (loss (value r 3)) refl (absent r 3)

pub pluck_keeps : (Na : ℕ) (o : Outline) (r : List ℕ) → from Na o (pluck_calls r o) ≡ o
pluck_keeps Na o r = one_keeps Na o (pluck (value r 4) (count_of r) (value r 6)) refl (absent r 4)

-- ---- the change
pub change-number : (b : Bool) (o : Outline) (to : Tuning)
    → number o (cond b (announce to) (instant to)) ≡ refusal (change_tests o to)
unfolding number
change-number true o to = refl
change-number false o to = refl

module _ (N Na : ℕ) (r : List ℕ) (o : Outline) where
  abbrev to : Tuning
  to = tuning N (length_to r o) (delay_to r o)

  pub no_change : stands r 1 + stands r 2 ≡ 0 → change_calls N r o ≡ []
  no_change e = rw (eq-eqb (stands r 1 + stands r 2) 0 e) refl

  module _ (f : stands r 1 + stands r 2 ≡ 0 → ⊥) where
    one-change : change_calls N r o ≡ changing r to ∷ []
    one-change = rw (ne_eqb (stands r 1 + stands r 2) 0 f) refl

    pub change-result : result Na o (change_calls N r o) ≡ refusal (change_tests o to)
    change-result =
        ap (λ (cs : List Call). result Na o cs) one-change ∙ single ∙ change-number (absent r 7) o to

    pub change-from : refusal (change_tests o to) ≡ 0 → from Na o (change_calls N r o) ≡ told Na o (changing r to)
    unfolding call
    change-from e =
        ap (λ (cs : List Call). from Na o cs) one-change
        ∙ rw (eq-eqb (number o (changing r to)) 0 (change-number (absent r 7) o to ∙ e)) refl

-- ---- what a record sets after its wait: the number of the first part that is refused
module _ (N Na : ℕ) (r : List ℕ) (o : Outline) where
  abbrev later : Outline → List Call
  later = then Na (change_calls N r) (pluck_calls r)

  pub act_loss : (result Na o (loss_calls r o) ≡ 0 → ⊥) → result Na o (act_calls N Na r o) ≡ result Na o (loss_calls r o)
  unfolding act_calls
  act_loss f = then-stops Na (loss_calls r) later o f

  module _ (e : result Na o (loss_calls r o) ≡ 0) where
    past-loss : result Na o (act_calls N Na r o) ≡ result Na o (later o)
    unfolding act_calls
    past-loss = then-goes Na (loss_calls r) later o e ∙ rw (loss_keeps Na o r) refl

    pub act_change : (result Na o (change_calls N r o) ≡ 0 → ⊥)
        → result Na o (act_calls N Na r o) ≡ result Na o (change_calls N r o)
    act_change f = past-loss ∙ then-stops Na (change_calls N r) (pluck_calls r) o f

    module _ (i : result Na o (change_calls N r o) ≡ 0) where
      abbrev u : Outline
      u = from Na o (change_calls N r o)

      pub act_pluck : result Na o (act_calls N Na r o) ≡ result Na u (pluck_calls r u)
      act_pluck = past-loss ∙ then-goes Na (change_calls N r) (pluck_calls r) o i

      pub act_from : from Na o (act_calls N Na r o) ≡ u
      unfolding act_calls
      act_from =
          then-from Na (loss_calls r) later o e
          ∙ rw (loss_keeps Na o r) (then-from Na (change_calls N r) (pluck_calls r) o i ∙ pluck_keeps Na u r)

-- ---- a whole record
module _ (N Na : ℕ) (r : List ℕ) (o : Outline) where
  waited : result Na o (wait_calls r o) ≡ 0
  waited = rw (wait-accepted o (value r 0)) refl

  pub record-result : result Na o (record_calls N Na r o)
      ≡ result Na (passed (value r 0) o) (act_calls N Na r (passed (value r 0) o))
  unfolding record_calls
  record-result =
      then-goes Na (wait_calls r) (act_calls N Na r) o waited
      ∙ ap (λ (u : Outline). result Na u (act_calls N Na r u)) (wait_passes Na o (value r 0))

  pub record-from : from Na o (record_calls N Na r o)
      ≡ from Na (passed (value r 0) o) (act_calls N Na r (passed (value r 0) o))
  unfolding record_calls
  record-from =
      then-from Na (wait_calls r) (act_calls N Na r) o waited
      ∙ ap (λ (u : Outline). from Na u (act_calls N Na r u)) (wait_passes Na o (value r 0))
