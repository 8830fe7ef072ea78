-- `follow::parts` meets its contract: three parts, one after the other.
-- Assumes nothing.
use Rattle.std.proofs.Common.{rules}
use Rattle.std.specs.Prelude.{Err}
use mathlib.Core.Path.{◌≡◌, refl}
use Rattle.refusal.proofs.Numbers.{refused-above}
use Rattle.follow.specs.Follow.{loss_calls, change_calls, pluck_calls, then, act_calls}
use Rattle.follow.proofs.Following.{does-stops, does-then}
use Rattle.follow.proofs.parts.Goals as goal

pub returns-in_err-head : goal.returns-in_err-head
unfolding act_calls
returns-in_err-head c =
    let l = c.args.line.now in
    let h = c.args.head.now in
    let r = c.args.r.now in
    let n = c.in_err-head.field-0.0 in
    let i : c.from_residual.result ≡ Err n = search rules in
    rw i (does-stops (loss_calls r) (then (change_calls r) (pluck_calls r)) h l _ l
    (c.in_err-head.ensures l c.requires) (refused-above n))

pub returns-in_err-head-2 : goal.returns-in_err-head-2
unfolding act_calls
returns-in_err-head-2 c =
    let l = c.args.line.now in
    let r = c.args.r.now in
    let n = c.in_err-head-2.field-0.0 in
    let i : c.from_residual-in_err-head-2.result ≡ Err n = search rules in
    rw i (does-then (loss_calls r) (then (change_calls r) (pluck_calls r)) c.args.head.now l _ l
    (c.in_ok-head.ensures l c.requires) refl _ l
    (does-stops (change_calls r) (pluck_calls r) c.in_ok-head.field-0 l _ l c.in_err-head-2.ensures (refused-above n)))

pub returns-in_err-head-3 : goal.returns-in_err-head-3
unfolding act_calls
returns-in_err-head-3 c =
    let l = c.args.line.now in
    let r = c.args.r.now in
    let n = c.in_err-head-3.field-0.0 in
    let i : c.from_residual-in_err-head-3.result ≡ Err n = search rules in
    rw i (does-then (loss_calls r) (then (change_calls r) (pluck_calls r)) c.args.head.now l _ l
    (c.in_ok-head.ensures l c.requires) refl _ l
    (does-then (change_calls r) (pluck_calls r) c.in_ok-head.field-0 l _ l c.in_ok-head-2.ensures refl _ l
    (c.in_err-head-3.ensures l c.in_ok-head-2.ensures.valid)))

pub returns : goal.returns
unfolding act_calls
returns c =
    let l = c.args.line.now in
    let r = c.args.r.now in
    does-then (loss_calls r) (then (change_calls r) (pluck_calls r)) c.args.head.now l _ l
    (c.in_ok-head.ensures l c.requires) refl _ l
    (does-then (change_calls r) (pluck_calls r) c.in_ok-head.field-0 l _ l c.in_ok-head-2.ensures refl _ l
    (c.in_ok-head-3.ensures l c.in_ok-head-2.ensures.valid))
