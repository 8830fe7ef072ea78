-- `outline::change` meets its contract: no change, one that is refused, and one that is accepted.
use Rattle.std.proofs.Common.{rules}
use Rattle.std.specs.Prelude.{Err}
use mathlib.Core.Path.{◌≡◌, refl, ap, ap₂, ◌∙◌}
use Prim.Native.Nat.{ℕ, ◌+◌}
use Rattle.outline.specs.Struct.{outline_of, after_change}
use Rattle.outline.proofs.Parts.{refused, accepted}
use Rattle.outline.proofs.change.Goals as goal

-- the bits of L and d
stand : {m n i j : ℕ} → m ≡ i → n ≡ j → m + n ≡ i + j
stand e i = ap₂ (λ (m n : ℕ). m + n) e i

pub returns-in_err-change_refused : goal.returns-in_err-change_refused
returns-in_err-change_refused c =
    let s = c.args in
    let i : c.from_residual.result ≡ Err c.in_err-change_refused.field-0.0 = search rules in
    rw i (refused s.order s.advance s.r.now (outline_of s.c) c.change_target-to.result c.change_target-to.ensures
    (λ z. c.if-bit-eq0.false (stand c.bit.ensures c.bit-2.ensures ∙ z)) c.in_err-change_refused.ensures)

pub returns : goal.returns
returns c =
    let s = c.args in
    let x = c.change_target-to.result in
    accepted s.order s.advance s.r.now (outline_of s.c) x c.change_target-to.ensures
    (λ z. c.if-bit-eq0.false (stand c.bit.ensures c.bit-2.ensures ∙ z)) c.in_ok-change_refused.ensures
    c.after_change.result refl
    (c.after_change.ensures
    ∙ ap (λ (i : ℕ). after_change s.advance (outline_of s.c) x.length x.delay i) c.bit-3.ensures)
