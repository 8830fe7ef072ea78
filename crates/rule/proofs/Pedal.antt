-- L3: a commit after an ask and calls that do not end it.
-- Assumes nothing.
use mathlib.Core.Path.{◌≡◌, refl, sym, subst, ◌∙◌}
use mathlib.Core.List.{List, ◌∷◌, ◌++◌}
use mathlib.Core.Option.{some}
use Prim.Native.Nat.{ℕ, ◌-◌, min}
use native.Mathlib.Omega.{arith}
use Rattle.rule.specs.Voice.{Tuning, Waiting}
use Rattle.rule.specs.Calls.{Call, ask, commit, withdraw, Opening, number}
use Rattle.rule.specs.History.{History, steps, call, after}
use Rattle.rule.specs.Refusals.{Asked}
use Rattle.rule.specs.Click.{Change, committing}
use Rattle.rule.specs.Demands.{Kept}
use Rattle.rule.specs.Asked.{between, Pedal, Pedals}
use Rattle.rule.proofs.Refusals.{refuses}
use Rattle.rule.proofs.Keeps.{same_some}
use Rattle.rule.proofs.Walk.{after-split}
use Rattle.rule.proofs.Sound.{Runs, after_sound}
use Rattle.rule.proofs.Stands.{Stands, stands-ask, stands-kept}

module _ (o : Opening) (pre mid : List Call) (to : Tuning) where
  abbrev h : History
  h = after o pre

  abbrev now : History
  now = after o (pre ++ ask to ∷ mid)

  module _ (z : number h.voice (ask to) ≡ 0) (k : Kept (call h (ask to)) mid) where
    stands : Stands to (steps h) now
    stands =
        rw (after-split o pre mid (ask to) refl)
        (stands-kept to (steps h) mid (call h (ask to)) k (stands-ask h to z))

    runs : Runs now stands.w
    runs = (after_sound o (pre ++ ask to ∷ mid)).waiting stands.w stands.held

    -- as many were taken as were put out, counted up to Na
    taken : stands.w.taken ≡ min (between o pre mid to) now.voice.Na
    taken = rw stands.began at runs.taken

    -- what is known of an ask that waits is known of this one
    same : {P : ℕ → Type 0} → Asked now.voice P → P stands.w.taken
    same {P} a = subst (λ (w : Waiting). P w.taken) (same_some (sym a.held ∙ stands.held)) a.taken

    this : {P : ℕ → Type 0} → P stands.w.taken → Asked now.voice P
    this p = record { w = stands.w; held = stands.held; kind = stands.kind; taken = p }

    pub pedal : Pedal o pre mid to
    pedal =
        let r = refuses.commits now.voice in
        record {
          early = (
            λ e. omega (arith, same (r.before.0 e), taken),
            λ l. r.before.1 (this (omega (arith, taken))),
          );
          accepted = (
            λ e. omega (arith, same (r.accepted.0 e), taken),
            λ l. r.accepted.1 (this (omega (arith, taken))),
          );
          withdrawable = (refuses.withdraws now.voice).accepted.1 (this tt);
          change = λ e.
              subst (λ (t : Tuning). Change now commit t (between o pre mid to) (steps now)) stands.tuning
              (subst (λ (b : ℕ). Change now commit stands.w.tuning (steps now - b) (steps now))
              stands.began (committing e stands.held));
        }

pub pedals : (o : Opening) (pre mid : List Call) (to : Tuning) → Pedals o pre mid to
pedals = pedal
