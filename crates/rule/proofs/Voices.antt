-- Every voice that calls reach is within document 01's limits: steps and accepted calls keep it so.
-- Assumes nothing.
use mathlib.Core.Path.{◌≡◌, refl, sym, subst, ◌∙◌}
use mathlib.Core.List.{List}
use mathlib.Core.Option.{Option, none, some}
use Prim.Native.Nat.{ℕ, ◌<◌}
use native.Mathlib.Omega.{arith}
use native.Mathlib.Decide.{dec_lt, ℕ_discrete}
use lib.IntN.{ℤ}
use borrow.Author.Tests.{le-leb, lt-leb}
use Rattle.rule.specs.Voice.{Tuning, Kind, announced, asked, Waiting, Pluck, Voice, fed, spent, heard}
use Rattle.rule.specs.Voice.{stepped}
use Rattle.rule.specs.Calls.{Call, block, loss, pluck, prepare, instant, commit, withdraw}
use Rattle.rule.specs.Calls.{number, start, done}
use Rattle.rule.specs.Valid.{Tunable, Filled, Coming, Plucked, Valid, Samples}
use Rattle.rule.specs.Keeps.{InForce, Retuned}
use Rattle.rule.proofs.Refusals.{refuses}
use Rattle.rule.proofs.Read.{window-within}
use Rattle.rule.proofs.Filters.{rest-filled, next-filled, run-filled, output-within}
use Rattle.rule.proofs.Keeps.{none-some, same_some, keeps, announced-asked}
use Rattle.rule.proofs.Accepted.{accepted-fit}
use Rattle.rule.proofs.Steps.{stepped_keeps, Goes, idle, holds, switches, goes}

-- ---- a voice that differs in what a change touches
tuned-valid : {v u : Voice} {t : Tuning} {q : List ℤ} {o : Option Waiting} → Retuned v u → InForce u t q o
    → Valid v → Tunable t → Filled t.N q → ((w : Waiting) → o ≡ some w → Coming v.Na w)
    → Valid u
tuned-valid r k h f g c = record {
  fit = rw k.tuning f;
  loss = rw r.loss h.loss;
  advance = rw r.advance h.advance;
  state = rw (k.tuning, k.state) g;
  last = rw r.last h.last;
  waiting = λ w p. rw r.advance (c w (sym k.waiting ∙ p));
  pluck = rw r.pluck h.pluck;
}

one_coming : {Na : ℕ} {u : Waiting} → Coming Na u → (w : Waiting) → some u ≡ some w → Coming Na w
one_coming {Na} c w p = subst (Coming Na) (same_some p) c

none_coming : {Na : ℕ} (w : Waiting) → none ≡ some w → Coming Na w
none_coming w p = absurd (none-some p)

-- ---- a step
pub spent-plucked : (p : Pluck) → Plucked p → Plucked (spent p)
unfolding spent
spent-plucked p h = go (dec_lt 1 p.left)
  where
    go : Dec (1 < p.left) → Plucked (spent p)
    go (yes l) =
        rw (lt-leb p.left 1 l)
        (record { amplitude = h.amplitude; left = omega (arith, h.left); over = λ i. absurd (omega arith) })
    go (no l) =
        rw (le-leb p.left 1 (omega arith))
        (record { amplitude = omega arith; left = omega arith; over = λ i. refl })

heard-valid : (v : Voice) (r : ℕ → ℤ) → Samples r → Valid v → Valid (heard v r)
heard-valid v r s h = record {
  fit = h.fit;
  loss = h.loss;
  advance = h.advance;
  state = next-filled v.tuning v.state (r v.tuning.L) h.fit h.state (s v.tuning.L);
  last = output-within v r;
  waiting = λ w p. absurd (none-some p);
  pluck = spent-plucked v.pluck h.pluck;
}

pub stepped-valid : (v : Voice) (r : ℕ → ℤ) → Samples r → Valid v → Valid (stepped v r)
stepped-valid v r s h = go (goes v r)
  where
    g : Valid (heard v r)
    g = heard-valid v r s h

    fed-filled : (w : Waiting) → Coming v.Na w → Filled w.tuning.N (fed v.Na w r).state
    fed-filled w c =
        next-filled w.tuning w.state (r w.tuning.L) c.fit c.state (s w.tuning.L)

    go : Goes v r (stepped v r) → Valid (stepped v r)
    go (idle p k) = tuned-valid (stepped_keeps v r) k g g.fit g.state none_coming
    go (holds w p f k) =
        let c = h.waiting w p in
        let d : Coming v.Na (fed v.Na w r)
        = record {
          fit = c.fit;
          counted = omega arith;
          early = λ e. omega (arith, f e);
          state = fed-filled w c;
        } in
        tuned-valid (stepped_keeps v r) k g g.fit g.state (one_coming d)
    go (switches w p e l k) =
        let c = h.waiting w p in
        tuned-valid (stepped_keeps v r) k g c.fit (fed-filled w c) none_coming

-- ---- a call
pub done-valid : (v : Voice) (r : ℕ → ℤ) (c : Call) → number v c ≡ 0 → Samples r → Valid v
    → Valid (done v r c)
unfolding done
done-valid v r (block xs n) e s h = h
done-valid v r (loss G) e s h = record {
  fit = h.fit;
  loss = ((refuses.losses v G).accepted.0 e).most;
  advance = h.advance;
  state = h.state;
  last = h.last;
  waiting = h.waiting;
  pluck = h.pluck;
}
done-valid v r (pluck a n z) e s h =
    let p = (refuses.plucks v a n z).accepted.0 e in
    record {
      fit = h.fit;
      loss = h.loss;
      advance = h.advance;
      state = h.state;
      last = h.last;
      waiting = h.waiting;
      pluck = record {
        amplitude = p.0.most;
        left = p.1.most;
        over = λ i. absurd (omega (arith, p.1.least));
      };
    }
done-valid v r (prepare k to) e s h = go k (ℕ_discrete v.Na 0)
  where
    f : Tunable to
    f = accepted-fit to (refuses.prepares v k to) e

    begins : (k : Kind) → (k ≡ announced → 0 < v.Na) → Coming v.Na (start k to)
    begins k l = record { fit = f; counted = omega arith; early = l; state = rest-filled to }

    go : (k : Kind) → Dec (v.Na ≡ 0) → Valid (done v r (prepare k to))
    go announced (yes i) =
        tuned-valid ((keeps v r).prepare_rest announced to) ((keeps v r).announce_now to i) h f
        (rest-filled to) none_coming
    go announced (no i) =
        tuned-valid ((keeps v r).prepare_rest announced to) ((keeps v r).announce_waits to (omega arith)) h
        h.fit h.state (one_coming (begins announced (λ e. omega arith)))
    go asked i =
        tuned-valid ((keeps v r).prepare_rest asked to) ((keeps v r).ask_waits to) h h.fit h.state
        (one_coming (begins asked (λ e. absurd (announced-asked e refl))))
done-valid v r (instant to) e s h =
    let f = accepted-fit to (refuses.instants v to) e in
    tuned-valid ((keeps v r).instant_rest to) ((keeps v r).instant_now to) h f
    (run-filled to _ f (rest-filled to) (window-within r to.L v.Na s)) none_coming
done-valid v r commit e s h =
    let k = (refuses.commits v).accepted.0 e in
    let c = h.waiting k.w k.held in
    tuned-valid (keeps v r).commit_rest ((keeps v r).commit_now k.w k.held) h c.fit c.state
    none_coming
done-valid v r withdraw e s h =
    tuned-valid (keeps v r).withdraw_rest (keeps v r).withdraw_drops h h.fit h.state none_coming
