-- What a merged record can end with: 0, or 6 where the advance is above 0.
-- Assumes nothing.
use mathlib.Core.Path.{◌≡◌, refl, sym, ap, subst, ◌∙◌}
use mathlib.Core.Bool.{Bool, true, false, cond}
use mathlib.Core.List.{List, [], ◌∷◌, ◌++◌, append-nil}
use mathlib.Core.Option.{Option, none, some}
use Prim.Native.Nat.{ℕ, zero, suc, ◌+◌, ◌<◌}
use native.Mathlib.Omega.{arith}
use native.Mathlib.Decide.{ℕ_discrete}
use borrow.Author.Tests.{eq-eqb, ne_eqb, eqb-true, eqb-false}
use lib.Dec.{eqb}
use lib.ListN.{length}
use Rattle.refusal.specs.Limits.{Limit, refusal}
use Rattle.refusal.specs.Orders.{order, delay}
use Rattle.refusal.proofs.Tests.{In, accepted, refused}
use Rattle.rule.specs.Tests.{long}
use Rattle.rule.specs.Voice.{Tuning, tuning}
use Rattle.rule.specs.Calls.{Call, block, loss, pluck, prepare, instant, commit, withdraw}
use Rattle.follow.specs.Follow.{value, stands, absent, count_of}
use Rattle.outline.specs.Outline.{Outline, Ahead, tick, passed, waits, change_tests, number, told, call, from}
use Rattle.outline.specs.Outline.{result, then, wait_calls, loss_calls, changing, change_calls, pluck_calls}
use Rattle.outline.specs.Outline.{act_calls, record_calls}
use Rattle.outline.proofs.Calls.{single, change-number, result-past, wait-accepted}
use Rattle.timeline.specs.Events.{Event, event, events}
use Rattle.timeline.specs.Merged.{merge_record}
use Rattle.timeline.specs.Theorems.{Possible, plays}
use Rattle.timeline.specs.Theorems as Theorems
use Rattle.timeline.proofs.Acts.{accepts}
use Rattle.timeline.specs.Ends.{Ends, done, next}
use Rattle.timeline.proofs.Doings.{merged-loss, merged-change, merged-pluck}
use Rattle.timeline.proofs.Fine.{All}
use Rattle.timeline.proofs.Fine as Fine

-- ---- where the advance is 0 nothing ever waits
module _ (Na : ℕ) where
  abbrev pub Idle : Outline → Type 0
  Idle o = Na ≡ 0 → o.ahead ≡ none

  tick-idle : (o : Outline) → Idle o → Idle (tick o)
  unfolding tick
  tick-idle o f e = rw (f e) refl

  passed-idle : (n : ℕ) (o : Outline) → Idle o → Idle (passed n o)
  passed-idle zero o f = f
  passed-idle (suc n) o f = passed-idle n (tick o) (tick-idle o f)

  told-idle : (o : Outline) (c : Call) → Idle o → Idle (told Na o c)
  told-idle o (block xs n) f = passed-idle (length xs) o f
  told-idle o (loss G) f = f
  told-idle o (pluck a n z) f = f
  told-idle o (prepare k to) f = λ e. rw (eq-eqb 0 Na (sym e)) refl
  told-idle o (instant to) f = λ e. refl
  told-idle o commit f = f
  told-idle o withdraw f = f

  call-idle : (o : Outline) (c : Call) → Idle o → Idle (call Na o c)
  unfolding call
  call-idle o c f = go (eqb (number o c) 0)
    where
      go : (b : Bool) → Idle (cond b (told Na o c) o)
      go true = told-idle o c f
      go false = f

  pub from-idle : (o : Outline) (cs : List Call) → Idle o → Idle (from Na o cs)
  from-idle o [] f = f
  from-idle o (c ∷ cs) f = from-idle (call Na o c) cs (call-idle o c f)

  -- ---- calls one after the other
  then_possible : (f g : Outline → List Call) (o : Outline) → Possible Na (result Na o (f o))
      → Possible Na (result Na (from Na o (f o)) (g (from Na o (f o)))) → Possible Na (result Na o (then Na f g o))
  unfolding then
  then_possible f g o p q = go (eqb (result Na o (f o)) 0) refl
    where
      later : List Call
      later = g (from Na o (f o))

      go : (b : Bool) → eqb (result Na o (f o)) 0 ≡ b → Possible Na (result Na o (f o ++ cond b later []))
      go true i =
          subst (λ (n : ℕ). Possible Na n) (sym (result-past Na o (f o) later (eqb-true (result Na o (f o)) 0 i))) q
      go false i = subst (λ (cs : List Call). Possible Na (result Na o cs)) (sym (append-nil (f o))) p

  zero_possible : {n : ℕ} → n ≡ 0 → Possible Na n
  zero_possible e = rw e plays

  -- ---- a loss and a pluck are accepted on every voice, or on none
  loss_any : (r : List ℕ) (o u : Outline) → result Na o (loss_calls r o) ≡ result Na u (loss_calls r u)
  unfolding number
  loss_any r o u = go (absent r 3)
    where
      go : (b : Bool) → result Na o (cond b [] (loss (value r 3) ∷ [])) ≡ result Na u (cond b [] (loss (value r 3) ∷ []))
      go true = refl
      go false = refl

  pluck_any : (r : List ℕ) (o u : Outline) → result Na o (pluck_calls r o) ≡ result Na u (pluck_calls r u)
  unfolding number
  pluck_any r o u = go (absent r 4)
    where
      go : (b : Bool)
          → result Na o (cond b [] (pluck (value r 4) (count_of r) (value r 6) ∷ []))
          ≡ result Na u (cond b [] (pluck (value r 4) (count_of r) (value r 6) ∷ []))
      go true = refl
      go false = refl

-- ---- a change that is within its limits is accepted unless one waits
module _ (Na : ℕ) where
  pub record Within (to : Tuning) : Type 0 where
    pub order_in : In (order to.N)
    pub long_in : In (long to.L)
    pub delay_in : In (delay to.N to.d)

  change_possible : (o : Outline) (to : Tuning) → Idle Na o → Within to → Possible Na (refusal (change_tests o to))
  change_possible o to f w = go o.ahead refl
    where
      go : (a : Option Ahead) → o.ahead ≡ a → Possible Na (refusal (change_tests o to))
      go none e =
          zero_possible Na
          ((accepted (order to.N) (long to.L ∷ delay to.N to.d
          ∷ record { number = 6; low = 0; value = waits o.ahead; high = 0 } ∷ []) tt).1
          (w.order_in, (w.long_in, (w.delay_in, rw e (record { least = omega arith; most = omega arith })))))
      go (some a) e = six (ℕ_discrete Na 0)
        where
          six : Dec (Na ≡ 0) → Possible Na (refusal (change_tests o to))
          six (yes z) = let i = f z in let j : ◌≡◌ {A = ℕ} 0 1 = cc in absurd (omega arith)
          six (no z) =
              let l : Limit = record { number = 6; low = 0; value = waits o.ahead; high = 0 } in
              let m : refusal (change_tests o to) ≡ 6
              = (refused (order to.N ∷ long to.L ∷ delay to.N to.d ∷ []) l [] tt).1
              (w.order_in, (w.long_in, (w.delay_in, λ k. let j = k.most in let x = ap waits e in omega (arith, j, x)))) in
              subst (λ (n : ℕ). Possible Na n) (sym m) (Theorems.waits (omega arith))

  first_possible : {n : ℕ} → Possible Na n → Possible Na (cond (eqb n 0) 0 n)
  first_possible {n} p = go (eqb n 0)
    where
      go : (b : Bool) → Possible Na (cond b 0 n)
      go true = plays
      go false = p

-- ---- an event whose record was accepted in its own score
pub record Took (N Na : ℕ) (e : Event) : Type 0 where
  pub loss-taken : (o : Outline) → result Na o (loss_calls e.own o) ≡ 0
  pub change-taken : 0 < stands e.own 1 + stands e.own 2 → Within Na (tuning N e.L e.d)
  pub pluck-taken : (o : Outline) → result Na o (pluck_calls e.own o) ≡ 0

change-within : (N Na : ℕ) (r : List ℕ) (o : Outline) (to : Tuning)
    → result Na o (cond (eqb (stands r 1 + stands r 2) 0) [] (changing r to ∷ [])) ≡ 0
    → 0 < stands r 1 + stands r 2 → Within Na to
change-within N Na r o to e l =
    let i = rw (ne_eqb (stands r 1 + stands r 2) 0 (λ z. omega arith)) at e in
    let n = sym (change-number (absent r 7) o to) ∙ sym single ∙ i in
    let a = (accepted (order to.N) (long to.L ∷ delay to.N to.d
    ∷ record { number = 6; low = 0; value = waits o.ahead; high = 0 } ∷ []) tt).0 n in
    record { order_in = a.0; long_in = a.1.0; delay_in = a.1.1.0 }

pub events-took : (N Na m : ℕ) {o : Outline} {rs : List (List ℕ)} → Ends N Na o rs
    → All (Took N Na) (events N Na m o rs)
unfolding events
events-took N Na m done = Fine.none
events-took N Na m (next {o} {r} z s) =
    let p = accepts N Na r o z in
    let u = passed (value r 0) o in
    let v = from Na u (change_calls N r u) in
    Fine.more {e = event m r o}
    (record {
      loss-taken = λ x. loss_any Na r x u ∙ p.loss-taken;
      change-taken = change-within N Na r u (tuning N (event m r o).L (event m r o).d) p.change;
      pluck-taken = λ x. pluck_any Na r x v ∙ p.pluck-taken;
    })
    (events-took N Na (m + value r 0) s)

-- ---- in a merge it is refused by 6 alone
module _ (N Na w : ℕ) (e : Event) (t : Took N Na e) where
  abbrev r : List ℕ
  r = merge_record w e

  wait-zero : (o : Outline) → result Na o (wait_calls r o) ≡ 0
  wait-zero o = rw (wait-accepted o (value r 0)) refl

  loss-zero : (o : Outline) → result Na o (loss_calls r o) ≡ 0
  loss-zero o = ap (λ (cs : List Call). result Na o cs) (merged-loss N w e o) ∙ t.loss-taken o

  pluck-zero : (o : Outline) → result Na o (pluck_calls r o) ≡ 0
  pluck-zero o = ap (λ (cs : List Call). result Na o cs) (merged-pluck N w e o) ∙ t.pluck-taken o

  change-six : (o : Outline) → Idle Na o → Possible Na (result Na o (change_calls N r o))
  change-six o f =
      subst (λ (cs : List Call). Possible Na (result Na o cs)) (sym (merged-change N w e o))
      (go (eqb (stands e.own 1 + stands e.own 2) 0) refl)
    where
      to : Tuning
      to = tuning N e.L e.d

      go : (b : Bool) → eqb (stands e.own 1 + stands e.own 2) 0 ≡ b
          → Possible Na (result Na o (cond b [] (changing e.own to ∷ [])))
      go true i = plays
      go false i =
          let n = eqb-false (stands e.own 1 + stands e.own 2) 0 i in
          first_possible Na
          (subst (λ (k : ℕ). Possible Na k) (sym (change-number (absent e.own 7) o to))
          (change_possible Na o to f (t.change-taken (omega arith))))

  pub merged-six : (o : Outline) → Idle Na o → Possible Na (result Na o (record_calls N Na r o))
  unfolding record_calls act_calls
  merged-six o f =
      let u = from Na o (wait_calls r o) in
      let v = from Na u (loss_calls r u) in
      let x = from Na v (change_calls N r v) in
      let i = from-idle Na o (wait_calls r o) f in
      let j = from-idle Na u (loss_calls r u) i in
      then_possible Na (wait_calls r) (then Na (loss_calls r) (then Na (change_calls N r) (pluck_calls r))) o
      (zero_possible Na (wait-zero o))
      (then_possible Na (loss_calls r) (then Na (change_calls N r) (pluck_calls r)) u (zero_possible Na (loss-zero u))
      (then_possible Na (change_calls N r) (pluck_calls r) v (change-six v j) (zero_possible Na (pluck-zero x))))
