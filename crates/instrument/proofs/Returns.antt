-- The number of each call, and what a call leaves: `Returns`, `Leaves`.
use mathlib.Core.Path.{◌≡◌, sym, ap, subst, ◌∙◌}
use mathlib.Core.Bool.{Bool, cond}
use mathlib.Core.List.{List, []}
use Prim.Native.Nat.{ℕ, ◌≤◌, ◌<◌}
use lib.IntN.{ℤ}
use lib.ListN.{length}
use borrow.Author.Tests.{eq-eqb, ne_eqb, lt-ltb}
use Rattle.refusal.specs.Limits.{refusal}
use Rattle.rule.specs.Calls.{block, loss, pluck, prepare, instant, commit, withdraw}
use Rattle.rule.specs.Calls as C
use Rattle.rule.specs.Refusals.{OpenReturns, ChangeReturns, CommitReturns, WithdrawReturns, LossReturns}
use Rattle.rule.specs.Refusals.{PluckReturns}
use Rattle.rule.proofs.Refusals as Rule
use Rattle.form.specs.Parts.{held_in}
use Rattle.form.specs.Loads.{load_number, loads, store_number, left}
use Rattle.form.specs.Refusals.{LoadReturns, StoreReturns}
use Rattle.form.proofs.Refusals as Form
use Rattle.form.proofs.Theorems as Trip
use Rattle.instrument.specs.Strings.{Own, opens, calls, store, load, on, mix, Strings}
use Rattle.instrument.specs.Strings.{own_limits, mix_limits, number, play, out, own_count, counted, lent}
use Rattle.instrument.specs.Strings.{mix_into}
use Rattle.instrument.specs.Returns.{Returns, Leaves}
use Rattle.instrument.proofs.Numbers.{above, own_number, within, mixing}
use Rattle.instrument.proofs.Apart.{nothing, quiet, itself, out-itself, count-itself, lent-itself}

-- what is said of a call's own number is said of the number that comes back
itself_as : (P : ℕ → Type 0) (s : Strings) (k : ℕ) (a : Own) → k ≤ 5 → P (refusal (own_limits (s k) a))
    → P (number s (on k a))
itself_as P s k a h p = subst P (sym (own_number k h s a)) p

pub returns : Returns
unfolding C.number store_number loads load_number
returns = record {
  above = above;
  within = within;
  opening = λ s k o h.
      itself_as (OpenReturns o.N o.L o.d o.G o.Na) s k (opens o) h ((Rule.refuses).opens o);
  preparing = λ s k i to h.
      itself_as (ChangeReturns (s k).voice to.N to.L to.d) s k (calls (prepare i to)) h
      ((Rule.refuses).prepares (s k).voice i to);
  retuning = λ s k to h.
      itself_as (ChangeReturns (s k).voice to.N to.L to.d) s k (calls (instant to)) h
      ((Rule.refuses).instants (s k).voice to);
  committing = λ s k h.
      itself_as (CommitReturns (s k).voice) s k (calls commit) h ((Rule.refuses).commits (s k).voice);
  withdrawing = λ s k h.
      itself_as (WithdrawReturns (s k).voice) s k (calls withdraw) h ((Rule.refuses).withdraws (s k).voice);
  losing = λ s k G h. itself_as (LossReturns G) s k (calls (loss G)) h ((Rule.refuses).losses (s k).voice G);
  plucking = λ s k a n z h.
      itself_as (PluckReturns a n) s k (calls (pluck a n z)) h ((Rule.refuses).plucks (s k).voice a n z);
  storing = λ s k old h.
      itself_as (StoreReturns (s k) old) s k (store old) h ((Form.refuses).storing (s k) old);
  loading = λ s k bytes h.
      itself_as (LoadReturns bytes (held_in bytes)) s k (load bytes) h ((Form.refuses).loading bytes);
  mixing = mixing;
}

-- ---- what a call leaves
uncounted : (s : Strings) (k : ℕ) (a : Own) → 5 < k → counted s k a ≡ 0
unfolding counted
uncounted s k a h = ap (λ (b : Bool). cond b 0 (own_count (s k) a)) (lt-ltb 5 k h)

untouched : (s : Strings) (k : ℕ) (old : List ℕ) → 5 < k → lent s k old ≡ old
unfolding lent
untouched s k old h = ap (λ (b : Bool). cond b old (left (s k) old)) (lt-ltb 5 k h)

unmixed : (s : Strings) (xs : List ℤ) (n : ℕ) → (number s (mix xs n) ≡ 0 → ⊥)
    → ((k : ℕ) → play s (mix xs n) k ≡ s k) × (out s (mix xs n) ≡ [])
unfolding number C.number play out
unmixed s xs n f =
    (λ k. ((Rule.refuses).unchanged (s k) (block xs n) f).0, rw (ne_eqb (refusal (mix_limits xs n)) 0 f))

unwritten : (s : Strings) (xs old : List ℤ) → (number s (mix xs (length old)) ≡ 0 → ⊥)
    → mix_into s xs old ≡ old
unfolding mix_into
unwritten s xs old f = rw (ne_eqb (number s (mix xs (length old))) 0 f)

written : (s : Strings) (xs old : List ℤ) → number s (mix xs (length old)) ≡ 0
    → mix_into s xs old ≡ out s (mix xs (length old))
unfolding mix_into
written s xs old e = rw (eq-eqb (number s (mix xs (length old))) 0 e)

pub leaves : Leaves
leaves = record {
  nothing = nothing;
  silent = quiet;
  uncounted = uncounted;
  untouched = untouched;
  unmixed = unmixed;
  unwritten = unwritten;
  written = written;
  itself = λ s k a h. (itself k h s a, out-itself k h s a, count-itself k h s a);
  bytes = λ s k old h. lent-itself k h s old;
  unopened = λ s k o h f. itself k h s (opens o) ∙ Trip.refused_opens o f;
  unloaded = λ s k bytes h f. itself k h s (load bytes) ∙ Trip.nothing bytes f;
}
