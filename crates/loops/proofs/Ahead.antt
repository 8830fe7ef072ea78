-- What the eliminator of a change that waits takes of the line: it can, and that is its next state.
-- Nothing is asked where nothing waits. Assumes nothing.
use mathlib.Core.Path.{◌≡◌, sym, subst}
use mathlib.Core.List.{List}
use Prim.Native.Nat.{ℕ, ◌+◌, ◌-◌, ◌%◌, ◌≤◌, ◌<◌}
use native.Mathlib.Omega.{arith}
use lib.IntN.{ℤ, pos, nat_abs}
use lib.ListN.{length, get_or}
use Rattle.integer.specs.Rounding.{M}
use Rattle.thiran.specs.Answers.{taps}
use Rattle.allpass.specs.Allpass.{next}
use Rattle.allpass.specs.declared.State.{State}
use Rattle.allpass.specs.Stored.{held, stored, Fed}
use Rattle.line.specs.Ring.{ring, Apart}
use Rattle.rule.specs.State.{back}
use Rattle.voice.specs.declared.Filter.{Filter}
use Rattle.voice.specs.declared.Waiting.{Waiting}
use Rattle.voice.specs.declared.Waiting.TheVariants.{Idle, Prepared}
use Rattle.voice.specs.declared.Head.{Head}
use Rattle.voice.specs.Valid.{Tuned, Valid}
use Rattle.step.specs.Sample.{Moved}
use Rattle.step.proofs.Filters.{tuned-fed}
use Rattle.loops.specs.declared.Led.{Led}
use Rattle.loops.specs.Carried.{anew_of, ran_of, Leads}
use Rattle.loops.proofs.Leading.{on_of, alone, Moves}
use Rattle.loops.proofs.Taking.{from_on, taken-small, taken-moved}

-- an eliminator that is tuned takes the sample at its place of the line
module _ (h : Head) (p : Led) (e : Filter) {n far : ℕ} {l : List ℤ}
    (t : Tuned (anew_of e.tuning.order e p.next)) (v : Valid (ran_of h p.ran) l) (long : length l ≡ 2112)
    (place : far ≡ (h.at + 2112 - e.tuning.length) % 2112) (apart : Apart h.at e.tuning.length n)
    (i : p.ran.done < n) {g : ℤ} (q : g ≡ get_or l (far + p.ran.done) (pos 0)) where
  there : far + p.ran.done ≡ ((h.at + p.ran.done) % 2112 + 2112 - e.tuning.length) % 2112
  there =
      from_on h.at e.tuning.length far n p.ran.done apart.0 apart.1 i place t.short t.long

  ahead_small : nat_abs g ≤ M
  ahead_small = taken-small l ((h.at + p.ran.done) % 2112) long v.fit.at t there q v.line

  ahead-moved : {u : State}
      → u ≡ stored (next (taps e.tuning.order e.coefficients) (held e.tuning.order p.next) g)
      → Moved (anew_of e.tuning.order e p.next)
      (back (ring ((h.at + p.ran.done) % 2112) l) e.tuning.length) (anew_of e.tuning.order e u)
  ahead-moved j = taken-moved l ((h.at + p.ran.done) % 2112) long v.fit.at t there q ahead_small j

tuned_as : {d e : Filter} (u : State) → d ≡ e → Tuned (anew_of d.tuning.order d u)
    → Tuned (anew_of e.tuning.order e u)
tuned_as u q t = subst (λ (f : Filter). Tuned (anew_of f.tuning.order f u)) q t

-- where a change waits; K is 0 where none does
pub feeds : (W : Waiting) (h : Head) (p : Led) (K n : ℕ) (e : Filter) {far : ℕ} {l : List ℤ} {g : ℤ}
    → Leads W K e n h.advance → Valid (on_of W h p) l → length l ≡ 2112
    → far ≡ (h.at + 2112 - e.tuning.length) % 2112 → Apart h.at e.tuning.length n
    → p.ran.done < n → g ≡ get_or l (far + p.ran.done) (pos 0)
    → 1 ≤ K → Fed K e.coefficients p.next g
feeds Idle h p K n e l v b f a i q o = absurd (omega (arith, l))
feeds (Prepared k d t) h p K n e {g = g} l v b f a i q o =
    let r = tuned_as p.next l.1 v.fit.waiting.tuned in
    let s = ahead_small h p e r (alone (Prepared k d t) h p v) b f a i q in
    subst (λ (K : ℕ). Fed K e.coefficients p.next g) (sym l.0) (tuned-fed r s)

pub moves : (W : Waiting) (h : Head) (p : Led) (K n : ℕ) (e : Filter) (u : State) {far : ℕ} {l : List ℤ} {g : ℤ}
    → Leads W K e n h.advance → Valid (on_of W h p) l → length l ≡ 2112
    → far ≡ (h.at + 2112 - e.tuning.length) % 2112 → Apart h.at e.tuning.length n
    → p.ran.done < n → g ≡ get_or l (far + p.ran.done) (pos 0)
    → (1 ≤ K → u ≡ stored (next (taps K e.coefficients) (held K p.next) g)) → Moves W h p l u
moves Idle h p K n e u l v b f a i q j = tt
moves (Prepared k d t) h p K n e u {l = m} {g = g} l v b f a i q j =
    let r = tuned_as p.next l.1 v.fit.waiting.tuned in
    let at = (h.at + p.ran.done) % 2112 in
    let one = r.takes.least in
    let made = subst
    (λ (K : ℕ). 1 ≤ K → u ≡ stored (next (taps K e.coefficients) (held K p.next) g)) l.0 j in
    subst
    (λ (f : Filter). Moved (anew_of f.tuning.order f p.next) (back (ring at m) f.tuning.length)
    (anew_of f.tuning.order f u))
    (sym l.1)
    (ahead-moved h p e r (alone (Prepared k d t) h p v) b f a i q (made one))
