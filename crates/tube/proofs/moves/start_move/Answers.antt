-- `tube::moves::start_move` meets its contract: eliminators at rest, settled.
use mathlib.Core.Path.{◌≡◌, refl, sym, ◌∙◌}
use mathlib.Core.Bool.{true, false}
use mathlib.Core.List.{[], ◌∷◌}
use Rattle.std.proofs.Common.{rules}
use Rattle.std.specs.Prelude.{Option, Some, None, Err}
use Rattle.std.specs.Option.{is_some}
use Rattle.refusal.specs.Limits.{refusal}
use Rattle.refusal.specs.Numbers.{number_of}
use Rattle.refusal.proofs.Numbers.{refused-above}
use Rattle.refusal.proofs.Passed.{stops, passes}
use Rattle.junction.specs.Calls.{move, accept, nothing, delay_limit, move_limit}
use Rattle.junction.specs.Calls as Rule
use Rattle.tube.specs.declared.Move.{Move}
use Rattle.tube.specs.Struct.{junction_of, waiting_of}
use Rattle.tube.proofs.Junctions.{answer-refused, answer-accepted}
use Rattle.tube.proofs.moves.start_move.Goals as goal

waits : (w : Option Move) → is_some w ≡ true → 6 ≡ refusal (move_limit (waiting_of w) ∷ [])
waits None e = cc
waits (Some m) e = refl

idle : (w : Option Move) → is_some w ≡ false → refusal (move_limit (waiting_of w) ∷ []) ≡ 0
idle None e = refl
idle (Some m) e = cc

pub returns-in_err-within : goal.returns-in_err-within
unfolding Rule.number
returns-in_err-within c =
    let j = c.args.j in
    let d = c.args.d in
    let r = c.in_err-within.field-0.0 in
    let i : c.from_residual.result ≡ Err r = search rules in
    let e : number_of r ≡ refusal (delay_limit d ∷ []) = search rules in
    let rest = move_limit (waiting_of j.waiting) ∷ [] in
    let n = e ∙ sym (stops (delay_limit d ∷ []) rest (λ z. refused-above r (e ∙ z))) in
    rw i (answer-refused (junction_of j) (move d) (number_of r) n (refused-above r), tt)

pub returns-then-is_some : goal.returns-then-is_some
unfolding Rule.number
returns-then-is_some c =
    let j = c.args.j in
    let d = c.args.d in
    let z : 0 ≡ refusal (delay_limit d ∷ []) = search rules in
    let w = waits j.waiting (sym c.is_some.ensures ∙ c.if-is_some.true) in
    let n = w ∙ sym (passes (delay_limit d ∷ []) (move_limit (waiting_of j.waiting) ∷ []) tt (sym z)) in
    (answer-refused (junction_of j) (move d) 6 n (λ e. cc), tt)

pub returns : goal.returns
unfolding Rule.number accept
returns c =
    let j = c.args.j in
    let d = c.args.d in
    let z : 0 ≡ refusal (delay_limit d ∷ []) = search rules in
    let w = idle j.waiting (sym c.is_some.ensures ∙ c.if-is_some.false) in
    let n = passes (delay_limit d ∷ []) (move_limit (waiting_of j.waiting) ∷ []) tt (sym z) ∙ w in (
      answer-accepted (junction_of j) (move d) nothing (junction_of c.settle.result) n refl
          (rw c.at_rest.ensures.1 at c.settle.ensures.0),
      c.settle.ensures.1,
    )
