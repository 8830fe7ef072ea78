-- The parts of a record as specs/Reached.antt and specs/Ends.antt have them are the calls that the record
-- makes: the number that ends each part, and the voice that it leaves. Assumes nothing.
use mathlib.Core.Path.{◌≡◌, refl, sym, ap, subst, ◌∙◌}
use mathlib.Core.Bool.{cond}
use mathlib.Core.List.{List, [], ◌∷◌}
use Prim.Native.Nat.{ℕ, ◌+◌}
use native.Mathlib.Omega.{arith}
use borrow.Author.Tests.{eq-eqb, ne_eqb}
use lib.Dec.{eqb}
use Rattle.refusal.specs.Limits.{Between}
use Rattle.refusal.specs.Orders.{orders}
use Rattle.rule.specs.Calls.{Call, loss, pluck, announce, instant, number}
use Rattle.rule.specs.Voice as Waiting
use Rattle.rule.specs.Valid.{Whole}
use Rattle.rule.specs.Voice.{Tuning}
use Rattle.rule.specs.State.{State, call, from}
use Rattle.rule.specs.Refusals.{ChangeReturns}
use Rattle.rule.proofs.Refusals.{refuses}
use Rattle.record.specs.Record.{bit, map_of, field, read}
use Rattle.record.proofs.Returns.{down, stands}
use Rattle.follow.specs.Follow.{loss_calls, change, change_calls, count_of}
use Rattle.follow.specs.Follow.{pluck_calls, result, then}
use Rattle.rule.proofs.Puts.{from-append}
use Rattle.follow.proofs.Sequence.{result-past, result-one, then-past, then-stops}
use Rattle.score.specs.Reached.{Has, SetsLoss, as_it_was, set, Given, present, absent}
use Rattle.score.specs.Reached.{AsksChange, Manner, announced, instantly, keeping, MakesChange}
use Rattle.score.specs.Reached.{no_change, changed}
use Rattle.score.specs.Reached.{MakesPluck, no_pluck, plucked}
use Rattle.score.specs.Ends.{LossRefused, loss_outside, ChangeRefused, long, delay, waits}
use Rattle.score.specs.Ends.{PluckRefused, amplitude, count}

-- the calls cs on v end with the number n, and leave u
pub record Yields (v : State) (cs : List Call) (n : ℕ) (u : State) : Type 0 where
  pub number : result v cs ≡ n
  pub state : from v cs ≡ u

-- ---- none, one, and some after others
nothing : (v : State) → Yields v [] 0 v
nothing v = record { number = refl; state = refl }

one : (v : State) (c : Call) {n : ℕ} {u : State} → number v.voice c ≡ n → u ≡ call v c
    → Yields v (c ∷ []) n u
one v c e i = record { number = sym (result-one v c) ∙ e; state = sym i }

pub first_then : (f g : State → List Call) {v a u : State} {n : ℕ} → Yields v (f v) 0 a → Yields a (g a) n u
    → Yields v (then f g v) n u
first_then f g {v} {n = n} y z =
    let e = then-past f g v y.number in
    record {
      number =
          ap (λ (cs : List Call). result v cs) (sym e)
          ∙ result-past v (f v) (g (from v (f v))) y.number
          ∙ ap (λ (w : State). result w (g w)) y.state
          ∙ z.number;
      state =
          ap (λ (cs : List Call). from v cs) (sym e)
          ∙ from-append v (f v) (g (from v (f v)))
          ∙ ap (λ (w : State). from w (g w)) y.state
          ∙ z.state;
    }

pub first_ends : (f g : State → List Call) {v u : State} {n : ℕ} → Yields v (f v) n u → (n ≡ 0 → ⊥)
    → Yields v (then f g v) n u
first_ends f g {v} y h =
    let e = then-stops f g v (λ z. h (sym y.number ∙ z)) in
    record {
      number = ap (λ (cs : List Call). result v cs) (sym e) ∙ y.number;
      state = ap (λ (cs : List Call). from v cs) (sym e) ∙ y.state;
    }

-- a call where some bits stand, else none
module _ (v : State) (k : ℕ) (c : Call) where
  left_out : {u : State} → k ≡ 0 → u ≡ v → Yields v (cond (eqb k 0) [] (c ∷ [])) 0 u
  left_out e i =
      rw (eq-eqb k 0 e) (subst (λ (w : State). Yields v [] 0 w) (sym i) (nothing v))

  made : {n : ℕ} {u : State} → (k ≡ 0 → ⊥) → number v.voice c ≡ n → u ≡ call v c
      → Yields v (cond (eqb k 0) [] (c ∷ [])) n u
  made h e i = rw (ne_eqb k 0 h) (one v c e i)

-- ---- of the record in the bytes t, as reading it gives it
module _ (t : List ℕ) where
  abbrev pub r : List ℕ
  r = 0 ∷ read t

  chosen : (k : ℕ) (y : ℕ) {x : ℕ} → Given t k y x → x ≡ cond (eqb (bit (map_of t) k) 0) y (field t k)
  chosen k y (present e i) = rw (ne_eqb (bit (map_of t) k) 0 (λ z. omega arith)) i
  chosen k y (absent e i) = rw (eq-eqb (bit (map_of t) k) 0 (down (map_of t) k e)) i

  pub sets_loss : {v u : State} → SetsLoss t v u → Yields v (loss_calls r v) 0 u
  sets_loss {v} (as_it_was e i) = left_out v (bit (map_of t) 3) (loss (field t 3)) (down (map_of t) 3 e) i
  sets_loss {v} (set e b i) =
      made v (bit (map_of t) 3) (loss (field t 3)) (λ z. omega arith)
      ((refuses.losses v.voice (field t 3)).accepted.1 b) i

  pub loss-refused : {n : ℕ} (v : State) → LossRefused t n
      → Yields v (loss_calls r v) n (call v (loss (field t 3))) × (n ≡ 0 → ⊥)
  loss-refused v (loss_outside e f) = (
    made v (bit (map_of t) 3) (loss (field t 3)) (λ z. omega arith)
        ((refuses.losses v.voice (field t 3)).loss.1 f) refl,
    λ z. omega arith,
  )

  -- a change to L and d, of either kind: its number is the same
  abbrev either : ℕ
  either = bit (map_of t) 1 + bit (map_of t) 2

  module _ (v : State) {L d : ℕ} (a : AsksChange t v L d) where
    change-is : {c : Call} → Manner t (keeping v L d) c → c ≡ change r v
    change-is (announced e i) =
        i ∙ rw (
          eq-eqb (bit (map_of t) 7) 0 (down (map_of t) 7 e),
          ← chosen 1 v.voice.tuning.L a.long,
          ← chosen 2 v.voice.tuning.d a.delay,
        )
    change-is (instantly e i) =
        i ∙ rw (
          ne_eqb (bit (map_of t) 7) 0 (λ z. omega arith),
          ← chosen 1 v.voice.tuning.L a.long,
          ← chosen 2 v.voice.tuning.d a.delay,
        )

    makes : {c : Call} {n : ℕ} {u : State} → Manner t (keeping v L d) c → number v.voice c ≡ n
        → u ≡ call v c → Yields v (change_calls r v) n u
    makes {c} {n} {u} k e i =
        let z = change-is k in
        made v either (change r v) (λ o. a.some (λ z. omega arith) (λ z. omega arith))
        (ap (λ (x : Call). number v.voice x) (sym z) ∙ e) (i ∙ ap (λ (x : Call). call v x) z)

  returns : (v : State) (to : Tuning) {c : Call} → Manner t to c
      → ChangeReturns v.voice to.N to.L to.d (number v.voice c)
  returns v to (announced e i) = rw i (refuses.prepares v.voice Waiting.announced to)
  returns v to (instantly e i) = rw i (refuses.instants v.voice to)

  -- the order in force is one that a change may name
  ordered : {v : State} → Whole v → Between 1 v.voice.tuning.N orders
  ordered w = let a = w.voice.fit.takes in record { least = a.least; most = a.most }

  pub makes_change : {v u : State} → Whole v → MakesChange t v u → Yields v (change_calls r v) 0 u
  makes_change {v} g (no_change e f i) =
      left_out v either (change r v) (omega (arith, down (map_of t) 1 e, down (map_of t) 2 f)) i
  makes_change {v} g (changed {L} {d} a l k w o i) =
      makes v a o ((returns v (keeping v L d) o).accepted.1 (ordered g, (l, (k, w)))) i

  pub manner : (to : Tuning) → (c : Call) × Manner t to c
  manner to = go (stands (map_of t) 7)
    where
      go : Dec (Has t 7) → (c : Call) × Manner t to c
      go (no e) = (announce to, announced e refl)
      go (yes e) = (instant to, instantly e refl)

  pub change-refused : {n : ℕ} {v : State} → Whole v → ChangeRefused t v n
      → (u : State) × Yields v (change_calls r v) n u × (n ≡ 0 → ⊥)
  change-refused {v = v} g (long {L} {d} a f) =
      let k = manner (keeping v L d) in
      (call v k.0, makes v a k.1 ((returns v (keeping v L d) k.1).long.1 (ordered g, f)) refl, λ z. omega arith)
  change-refused {v = v} g (delay {L} {d} a l f) =
      let k = manner (keeping v L d) in
      (call v k.0, makes v a k.1 ((returns v (keeping v L d) k.1).delay.1 (ordered g, (l, f))) refl, λ z. omega arith)
  change-refused {v = v} g (waits {L} {d} a l e f) =
      let k = manner (keeping v L d) in
      (call v k.0, makes v a k.1 ((returns v (keeping v L d) k.1).waits.1 (ordered g, (l, (e, f)))) refl, λ z. omega arith)

  -- a pluck
  module _ (v : State) {n : ℕ} (e : Has t 4) (g : Given t 5 100 n) where
    plucks : {m : ℕ} {u : State} → number v.voice (pluck (field t 4) n (field t 6)) ≡ m
        → u ≡ call v (pluck (field t 4) n (field t 6)) → Yields v (pluck_calls r v) m u
    plucks p i =
        made v (bit (map_of t) 4) (pluck (field t 4) (count_of r) (field t 6)) (λ z. omega arith)
        (rw (← chosen 5 100 g) p) (rw (← chosen 5 100 g) i)

  pub makes_pluck : {v u : State} → MakesPluck t v u → Yields v (pluck_calls r v) 0 u
  makes_pluck {v} (no_pluck e i) =
      left_out v (bit (map_of t) 4) (pluck (field t 4) (count_of r) (field t 6)) (down (map_of t) 4 e) i
  makes_pluck {v} (plucked {n} e a g k i) =
      plucks v e g ((refuses.plucks v.voice (field t 4) n (field t 6)).accepted.1 (a, k)) i

  pub pluck-refused : {n : ℕ} (v : State) → PluckRefused t n
      → (u : State) × Yields v (pluck_calls r v) n u × (n ≡ 0 → ⊥)
  pluck-refused v (amplitude e f) =
      let n = count_of r in (
        call v (pluck (field t 4) n (field t 6)),
        made v (bit (map_of t) 4) (pluck (field t 4) n (field t 6)) (λ z. omega arith)
            ((refuses.plucks v.voice (field t 4) n (field t 6)).amplitude.1 f) refl,
        λ z. omega arith,
      )
  pluck-refused v (count {n} e a g f) = (
    call v (pluck (field t 4) n (field t 6)),
    plucks v e g ((refuses.plucks v.voice (field t 4) n (field t 6)).count.1 (a, f)) refl,
    λ z. omega arith,
  )
