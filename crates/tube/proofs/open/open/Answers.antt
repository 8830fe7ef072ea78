-- `tube::open::open` meets its contract: a junction at rest, the one asked for or the refused one.
use mathlib.Core.Path.{◌≡◌, sym, ap, ◌∙◌}
use native.Mathlib.Omega.{arith}
use Prim.Native.Nat.{ℕ}
use Rattle.refusal.specs.Limits.{Between, refusal}
use Rattle.refusal.specs.Numbers.{code_of}
use Rattle.refusal.proofs.Numbers.{refused-above}
use Rattle.junction.specs.Calls.{Opening, open_limits}
use Rattle.junction.specs.Refusals.{Areas}
use Rattle.junction.proofs.Refusals.{refuses}
use Rattle.junction.proofs.Outputs.{reflects}
use Rattle.tube.proofs.Junctions.{open_refused, open_accepted}
use Rattle.tube.proofs.open.open.Goals as goal

abbrev asked : ℕ → ℕ → ℕ → ℕ → Opening
asked left right d Na = record { left = left; right = right; d = d; Na = Na }

abbrev Within : Opening → Type 0
Within o = Areas o.left o.right × (Between 2049 o.d 6143 × Between 0 o.Na 64)

within : (o : Opening) → refusal (open_limits o) ≡ 0 → Within o
within o e = (refuses.opens o).accepted.0 e

pub reflection-requires : goal.reflection-requires
reflection-requires c =
    let a = c.args in
    (within (asked a.left a.right a.d a.advance) (sym c.refused-answer.ensures ∙ ap code_of c.in-Ok.is)).0

pub resting-junction-requires : goal.resting-junction-requires
resting-junction-requires c =
    let a = c.args in
    let o = asked a.left a.right a.d a.advance in
    let w = within o (sym c.refused-answer.ensures ∙ ap code_of c.in-Ok.is) in
    record {
      small = rw c.reflection.ensures (reflects.small o.left o.right w.0);
      delay = w.1.0;
      advance_small = w.1.1.most;
    }

pub resting-junction-requires-in-Err : goal.resting-junction-requires-in-Err
resting-junction-requires-in-Err c =
    let a = reflects.small 1 1 (record { least = omega arith; most = omega arith }, record { least = omega arith; most = omega arith }) in
    record {
      small = rw c.reflection-in-Err.ensures a;
      delay = record { least = omega arith; most = omega arith };
      advance_small = omega arith;
    }

pub returns-in-Ok : goal.returns-in-Ok
returns-in-Ok c =
    let a = c.args in
    let e = c.resting-junction.ensures in
    let k = rw c.reflection.ensures at e.1 in
    let z = sym c.refused-answer.ensures ∙ ap code_of c.in-Ok.is in
    (rw (c.in-Ok.is, k) (open_accepted (asked a.left a.right a.d a.advance) z), e.0)

pub returns-in-Err : goal.returns-in-Err
returns-in-Err c =
    let a = c.args in
    let o = asked a.left a.right a.d a.advance in
    let e = c.resting-junction-in-Err.ensures in
    let k = rw c.reflection-in-Err.ensures at e.1 in
    let n = code_of c.refused-answer.result in
    let above : n ≡ 0 → ⊥ = λ z. refused-above c.in-Err.field-0 (sym (ap code_of c.in-Err.is) ∙ z) in
    (rw k (open_refused o n c.refused-answer.ensures above), e.0)
