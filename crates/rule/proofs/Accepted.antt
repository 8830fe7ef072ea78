-- What is known of a voice where a change is accepted.
-- Assumes nothing.
use mathlib.Core.Path.{◌≡◌, sym, ap, ◌∙◌}
use mathlib.Core.Option.{some}
use Prim.Native.Nat.{ℕ}
use Rattle.refusal.specs.Orders.{Takes}
use Rattle.rule.specs.Voice.{Tuning, announced, Waiting, Voice}
use Rattle.rule.specs.Valid.{Tunable}
use Rattle.rule.specs.Refusals.{ChangeReturns, Asked}
use Rattle.rule.proofs.Keeps.{none-some, same_some, announced-asked}

-- an accepted change's tuning is fit
pub accepted-fit : {v : Voice} (to : Tuning) {n : ℕ} → ChangeReturns v to.N to.L to.d n → n ≡ 0
    → Tunable to
accepted-fit to r e =
    let p = r.accepted.0 e in
    let takes : Takes to.N to.d
    = record { least = p.0.least; most = p.0.most; low = p.1.1.0.least; high = p.1.1.0.most } in
    record { takes = takes; short = p.1.0.least; long = p.1.0.most }

-- none is accepted while one waits
pub not_while : {v : Voice} {w : Waiting} (to : Tuning) {n : ℕ} → ChangeReturns v to.N to.L to.d n
    → n ≡ 0 → v.waiting ≡ some w → ⊥
not_while to r e p = none-some (sym (r.accepted.0 e).1.1.1 ∙ p)

-- and an announced change is none that was asked for
pub not-announced : {v : Voice} {w : Waiting} {P : ℕ → Type 0} → Asked v P → v.waiting ≡ some w
    → w.kind ≡ announced → ⊥
not-announced k p e = announced-asked e (ap (λ (u : Waiting). u.kind) (same_some (sym p ∙ k.held)) ∙ k.kind)
