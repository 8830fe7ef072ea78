-- `score::refused` meets its contract: what the record was refused by, or 16, or none.
-- Assumes nothing.
use Rattle.std.proofs.Common.{rules}
use Rattle.std.specs.Prelude.{Err}
use mathlib.Core.Path.{◌≡◌, refl, sym, ap, ◌∙◌}
use mathlib.Core.List.{List, [], ◌∷◌}
use Prim.Native.Nat.{ℕ}
use native.Mathlib.Omega.{arith}
use Rattle.refusal.proofs.Numbers.{refused-above}
use Rattle.refusal.proofs.Returned.{here, past, kept-is, is-met}
use Rattle.refusal.proofs.Passed.{stops, passes}
use Rattle.record.specs.Record.{record_limits, record_number, fields}
use Rattle.follow.specs.Follow.{value}
use Rattle.score.specs.Run.{fits}
use Rattle.score.proofs.refused.Goals as goal

pub returns-in_err-unread : goal.returns-in_err-unread
unfolding record_number
returns-in_err-unread c =
    let r = c.in_err-unread.field-0.0 in
    let i : c.from_residual.result ≡ Err r = search rules in
    rw i (λ s e.
    let n = c.in_err-unread.ensures s e in
    n ∙ sym (stops (record_limits s) (fits (fields s) c.args.room ∷ []) (λ z. refused-above r (n ∙ z))))

pub returns-then-room-r : goal.returns-then-room-r
unfolding record_number
returns-then-room-r c =
    λ s e.
    let l = fits (fields s) c.args.room in
    let o = is-met l (λ k. omega (arith, k.most, c.if-room-r.true, ap (λ (xs : List ℕ). value xs 0) e)) in
    sym (passes (record_limits s) (l ∷ []) tt (sym (c.in_ok-unread.ensures s e)) ∙ here l [] o)

pub returns : goal.returns
unfolding record_number
returns c =
    λ s e.
    let l = fits (fields s) c.args.room in
    let o = kept-is l (record {
      least = omega arith;
      most = omega (arith, c.if-room-r.false, ap (λ (xs : List ℕ). value xs 0) e);
    }) in
    past l [] o refl ∙ sym (passes (record_limits s) (l ∷ []) tt (sym (c.in_ok-unread.ensures s e)))
