-- Demand 1, call by call: each number under its condition, and under no other.
-- Assumes nothing.
use mathlib.Core.Path.{◌≡◌, refl}
use mathlib.Core.Logic.{◌↔◌}
use mathlib.Core.List.{List, [], ◌∷◌}
use mathlib.Core.Option.{Option, none, some}
use Prim.Native.Nat.{ℕ, ◌≤◌, ◌<◌}
use native.Mathlib.Omega.{arith}
use native.Mathlib.Decide.{dec_lt}
use lib.IntN.{ℤ}
use lib.ListN.{length}
use borrow.Author.Tests.{eq-eqb, ne_eqb}
use Rattle.integer.specs.Rounding.{M}
use Rattle.refusal.specs.Limits.{Between, refusal}
use Rattle.refusal.specs.Orders.{order, delay}
use Rattle.refusal.proofs.Tests.{refused, accepted}
use Rattle.samples.specs.Samples.{loudest}
use Rattle.allpass.specs.Bounds.{Within, none, more}
use Rattle.rule.specs.Voice.{Tuning, Kind, announced, asked, Waiting, Voice}
use Rattle.rule.specs.Tests.{long, lossy, early, waitings, idle, askings, asks, asking, takings, ready}
use Rattle.rule.specs.Tests.{strong, lasting, matched, loud}
use Rattle.rule.specs.Calls.{block, loss, pluck, instant, commit, withdraw, Opening, open_limits}
use Rattle.rule.specs.Calls.{change_limits}
use Rattle.rule.specs.Calls.{number, opened, resting, count}
use Rattle.rule.specs.State.{call, put}
use Rattle.rule.specs.Refusals.{OpenReturns, ChangeReturns, BlockReturns, Resting, Refuses}
use Rattle.rule.specs.Refusals.{Asked, Any, CommitReturns, WithdrawReturns}

-- ---- conditions that are no limits of a number in the paper
none-waits : (w : Option Waiting) → Between 0 (waitings w) 0 ↔ (w ≡ none)
none-waits none = (λ b. refl, λ e. record { least = omega arith; most = omega arith })
none-waits (some w) =
    (λ b. absurd (omega (arith, b.most)), λ e. let z : ◌≡◌ {A = ℕ} 0 1 = cc in absurd (omega arith))

pub quiet : (xs : List ℤ) → loudest xs ≤ M → Within M xs
quiet [] h = none
quiet (x ∷ xs) h = more {x = x} (omega arith) (quiet xs (omega arith))

pub unquiet : {xs : List ℤ} → Within M xs → loudest xs ≤ M
unquiet none = omega arith
unquiet (more p h) = omega (arith, unquiet h)

same_length : (xs : List ℤ) (n : ℕ) → Between n (length xs) n ↔ (length xs ≡ n)
same_length xs n =
    (λ b. omega (arith, b.least, b.most), λ e. record { least = omega arith; most = omega arith })

within-M : (xs : List ℤ) → Between 0 (loudest xs) M ↔ Within M xs
within-M xs = (λ b. quiet xs b.most, λ h. record { least = omega arith; most = unquiet h })

-- ---- the numbers
opens : (o : Opening) → OpenReturns o.N o.L o.d o.G o.Na (refusal (open_limits o))
opens o =
    let n = order o.N in
    let l = long o.L in
    let d = delay o.N o.d in
    let g = lossy o.G in
    let a = early o.Na in
    record {
      order = refused [] n (l ∷ d ∷ g ∷ a ∷ []) tt;
      long = refused (n ∷ []) l (d ∷ g ∷ a ∷ []) tt;
      delay = refused (n ∷ l ∷ []) d (g ∷ a ∷ []) tt;
      loss = refused (n ∷ l ∷ d ∷ []) g (a ∷ []) tt;
      advance = refused (n ∷ l ∷ d ∷ g ∷ []) a [] tt;
      accepted = accepted n (l ∷ d ∷ g ∷ a ∷ []) tt;
    }

changes : (v : Voice) (to : Tuning) → ChangeReturns v to.N to.L to.d (refusal (change_limits v to))
changes v to =
    let n = order to.N in
    let l = long to.L in
    let k = delay to.N to.d in
    let i = idle v.waiting in
    let w = none-waits v.waiting in
    let six = refused (n ∷ l ∷ k ∷ []) i [] tt in
    let zero = accepted n (l ∷ k ∷ i ∷ []) tt in
    record {
      order = refused [] n (l ∷ k ∷ i ∷ []) tt;
      long = refused (n ∷ []) l (k ∷ i ∷ []) tt;
      delay = refused (n ∷ l ∷ []) k (i ∷ []) tt;
      waits = (
        λ e. let p = six.0 e in (p.0, (p.1.0, (p.1.1.0, λ z. p.1.1.1 (w.1 z)))),
        λ p. six.1 (p.0, (p.1.0, (p.1.1.0, λ z. p.1.1.1 (w.0 z)))),
      );
      accepted = (
        λ e. let p = zero.0 e in (p.0, (p.1.0, (p.1.1.0, w.0 p.1.1.1))),
        λ p. zero.1 (p.0, (p.1.0, (p.1.1.0, w.1 p.1.1.1))),
      );
    }

-- L3: a change that was asked for waits if and only if the test of 21 lets it pass
was_asked : (v : Voice) (o : Option Waiting) → v.waiting ≡ o → Between 1 (asks o) 1 → Asked v Any
was_asked v none p b = absurd (omega (arith, b.least))
was_asked v (some w) p b = go w.kind refl b
  where
    go : (k : Kind) → w.kind ≡ k → Between 1 (askings k) 1 → Asked v Any
    go announced e b = absurd (omega (arith, b.least))
    go asked e b = record { w = w; held = p; kind = e; taken = tt }

passes : {P : ℕ → Type 0} (v : Voice) → Asked v P → Between 1 (asks v.waiting) 1
passes v k = rw (k.held, k.kind) (record { least = omega arith; most = omega arith })

took : {P : ℕ → Type 0} (v : Voice) (k : Asked v P) → takings v.waiting ≡ k.w.taken
took v k = rw k.held

with_taken : {P : ℕ → Type 0} (v : Voice) (k : Asked v Any) → P k.w.taken → Asked v P
with_taken v k p = record { w = k.w; held = k.held; kind = k.kind; taken = p }

any : {P : ℕ → Type 0} (v : Voice) → Asked v P → Asked v Any
any v k = record { w = k.w; held = k.held; kind = k.kind; taken = tt }

commits : (v : Voice) → CommitReturns v (number v commit)
unfolding number
commits v =
    let a = asking v.waiting in
    let b = ready v.Na v.waiting in
    let one = refused [] a (b ∷ []) tt in
    let twenty = refused (a ∷ []) b [] tt in
    let zero = accepted a (b ∷ []) tt in
    let was = was_asked v v.waiting refl in
    record {
      nothing = (λ e k. one.0 e (passes v k), λ f. one.1 (λ b. f (was b)));
      before = (
        λ e.
            let p = twenty.0 e in
            let k = was p.0 in
            with_taken v k (less k p.1),
        λ k. twenty.1 (passes v k, λ b. omega (arith, b.least, took v k, k.taken)),
      );
      accepted = (
        λ e.
            let p = zero.0 e in
            let k = was p.0 in
            with_taken v k (omega (arith, p.1.least, took v k)),
        λ k. zero.1 (passes v k, record { least = omega (arith, took v k, k.taken); most = omega arith }),
      );
    }
  where
    less : (k : Asked v Any) → (Between v.Na (takings v.waiting) (takings v.waiting) → ⊥)
        → k.w.taken < v.Na
    less k f = go (dec_lt k.w.taken v.Na)
      where
        go : Dec (k.w.taken < v.Na) → k.w.taken < v.Na
        go (yes l) = l
        go (no l) = absurd (f (record { least = omega (arith, took v k); most = omega arith }))

withdraws : (v : Voice) → WithdrawReturns v (number v withdraw)
unfolding number
withdraws v =
    let one = refused [] (asking v.waiting) [] tt in
    let zero = accepted (asking v.waiting) [] tt in
    let was = was_asked v v.waiting refl in
    record {
      nothing = (λ e k. one.0 e (passes v k), λ f. one.1 (λ b. f (was b)));
      accepted = (λ e. was (zero.0 e), λ k. zero.1 (passes v k));
    }

blocks : (v : Voice) (xs : List ℤ) (n : ℕ) → BlockReturns xs n (number v (block xs n))
unfolding number
blocks v xs n =
    let l = matched xs n in
    let k = loud xs in
    let s = same_length xs n in
    let w = within-M xs in
    let nine = refused [] l (k ∷ []) tt in
    let ten = refused (l ∷ []) k [] tt in
    let zero = accepted l (k ∷ []) tt in
    record {
      differ = (λ e z. nine.0 e (s.1 z), λ f. nine.1 (λ b. f (s.0 b)));
      input = (
        λ e. let p = ten.0 e in (s.0 p.0, λ z. p.1 (w.1 z)),
        λ p. ten.1 (s.1 p.0, λ z. p.1 (w.0 z)),
      );
      accepted =
          (λ e. let p = zero.0 e in (s.0 p.0, w.0 p.1), λ p. zero.1 (s.1 p.0, w.1 p.1));
    }

-- ---- what Open returns
rests : (N L d G Na : ℕ) → Resting N L d G Na (resting (record { N = N; L = L; d = d }) G Na)
rests N L d G Na =
    record {
      tuning = refl;
      loss = refl;
      advance = refl;
      state = refl;
      last = refl;
      waiting = refl;
      pluck = refl;
    }

pub refuses : Refuses
unfolding number opened call put count
refuses = record {
  opens = opens;
  prepares = λ v k to. changes v to;
  instants = changes;
  commits = commits;
  withdraws = withdraws;
  losses = λ v G. record { loss = refused [] (lossy G) [] tt; accepted = accepted (lossy G) [] tt };
  plucks = λ v a k z. record {
    amplitude = refused [] (strong a) (lasting k ∷ []) tt;
    count = refused (strong a ∷ []) (lasting k) [] tt;
    accepted = accepted (strong a) (lasting k ∷ []) tt;
  };
  blocks = blocks;
  resting = λ o e. rw (eq-eqb (refusal (open_limits o)) 0 e) (rests o.N o.L o.d o.G o.Na);
  resting_refused = λ o f. rw (ne_eqb (refusal (open_limits o)) 0 f) (rests 1 1 4096 0 0);
  unchanged = λ v c f. let e = ne_eqb (number v.voice c) 0 f in (rw e, rw e);
  uncounted = λ v r to f. rw (ne_eqb (number v (instant to)) 0 f);
}
