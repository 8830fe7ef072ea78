-- What each accepted call changes of a voice, and that it keeps the rest.
-- Assumes nothing.
use mathlib.Core.Path.{◌≡◌, refl, sym, ◌∙◌}
use mathlib.Core.Bool.{Bool, true, false, cond}
use mathlib.Core.List.{List}
use mathlib.Core.Option.{Option, none, some}
use Prim.Native.Nat.{ℕ}
use native.Mathlib.Omega.{arith}
use native.Mathlib.Decide.{ℕ_discrete}
use borrow.Author.Tests.{eq-eqb, ne_eqb}
use lib.Dec.{eqb}
use lib.IntN.{ℤ}
use lib.ListN.{length}
use Rattle.rule.specs.Voice.{Tuning, Kind, announced, asked, Waiting, Voice, tuned, commits, settled}
use Rattle.rule.specs.Calls.{prepare, commit, instant, number, window, start, done, count}
use Rattle.rule.specs.Keeps.{Retuned, Keeps}
use Rattle.rule.proofs.Read.{length-window}

pub none-some : {w : Waiting} → none ≡ some w → ⊥
none-some e = let z : ◌≡◌ {A = ℕ} 0 1 = cc in omega arith

pub same_some : {w u : Waiting} → some w ≡ some u → w ≡ u
same_some e = cc

-- whichever way a change goes, it leaves all else
pub either_keeps : (b : Bool) (v : Voice) (t t' : Tuning) (q q' : List ℤ) (o o' : Option Waiting)
    → Retuned v (cond b (tuned v t q o) (tuned v t' q' o'))
either_keeps true v t t' q q' o o' = record { loss = refl; advance = refl; last = refl; pluck = refl }
either_keeps false v t t' q q' o o' = record { loss = refl; advance = refl; last = refl; pluck = refl }

commit_keeps : (v : Voice) (r : ℕ → ℤ) (o : Option Waiting) → v.waiting ≡ o → Retuned v (done v r commit)
unfolding done
commit_keeps v r none p = rw p (record { loss = refl; advance = refl; last = refl; pluck = refl })
commit_keeps v r (some w) p = rw p (record { loss = refl; advance = refl; last = refl; pluck = refl })

pub keeps : (v : Voice) (r : ℕ → ℤ) → Keeps v r
unfolding done count settled
keeps v r = record {
  steps_alone = λ xs n. refl;
  set_loss = λ G. refl;
  set_pluck = λ a n z. refl;
  announce_waits =
      λ to h. rw (ne_eqb 0 v.Na (λ e. omega arith))
      (record { tuning = refl; state = refl; waiting = refl });
  announce_now =
      λ to e. rw (eq-eqb 0 v.Na (sym e)) (record { tuning = refl; state = refl; waiting = refl });
  ask_waits = λ to. record { tuning = refl; state = refl; waiting = refl };
  prepare_rest = λ k to. either_keeps (commits k 0 v.Na) v _ _ _ _ _ _;
  commit_now = λ w p. rw p (record { tuning = refl; state = refl; waiting = refl });
  commit_rest = commit_keeps v r v.waiting refl;
  withdraw_drops = record { tuning = refl; state = refl; waiting = refl };
  withdraw_rest = record { loss = refl; advance = refl; last = refl; pluck = refl };
  instant_rest = λ to. record { loss = refl; advance = refl; last = refl; pluck = refl };
  instant_now = λ to. record { tuning = refl; state = refl; waiting = refl };
  counted =
      λ to e.
      let ran : count v r (instant to) ≡ length (window r to.L v.Na)
      = rw (eq-eqb (number v (instant to)) 0 e) refl in
      (ran, ran ∙ length-window r to.L v.Na);
}

-- what waits after an announced change or an ask is its eliminator at rest
pub prepared-waits : (v : Voice) (r : ℕ → ℤ) (k : Kind) (to : Tuning) {w : Waiting}
    → (done v r (prepare k to)).waiting ≡ some w
    → start k to ≡ w
prepared-waits v r asked to p = same_some (sym ((keeps v r).ask_waits to).waiting ∙ p)
prepared-waits v r announced to {w} p = go (ℕ_discrete v.Na 0)
  where
    go : Dec (v.Na ≡ 0) → start announced to ≡ w
    go (yes e) = absurd (none-some (sym ((keeps v r).announce_now to e).waiting ∙ p))
    go (no f) = same_some (sym ((keeps v r).announce_waits to (omega arith)).waiting ∙ p)

pub announced-asked : {k : Kind} → k ≡ announced → k ≡ asked → ⊥
announced-asked e i = let z : ◌≡◌ {A = ℕ} 0 1 = cc in omega arith
