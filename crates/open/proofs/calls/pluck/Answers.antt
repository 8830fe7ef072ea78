-- `open::calls::pluck` meets its contract: two tests, and a head with another pluck, which has a step left.
-- Assumes nothing.
use mathlib.Core.Path.{◌≡◌, refl, sym, ◌∙◌}
use mathlib.Core.List.{List, [], ◌∷◌}
use Prim.Native.Nat.{ℕ}
use native.Mathlib.Omega.{arith}
use Rattle.std.proofs.Common.{rules}
use Rattle.std.specs.Prelude.{Ok, Err}
use Rattle.refusal.specs.Limits.{Limit, refusal}
use Rattle.refusal.specs.declared.Refusal.{Refusal}
use Rattle.refusal.specs.Numbers.{number_of}
use Rattle.refusal.proofs.Numbers.{refused-above}
use Rattle.rule.specs.Calls.{Call, pluck, number, done}
use Rattle.rule.specs.Tests.{strong, lasting}
use Rattle.voice.specs.declared.Pluck.{Pluck}
use Rattle.refusal.proofs.Returned.{passed}
use Rattle.refusal.proofs.Passed.{stops, passes, first-kept, rest-kept}
use Rattle.voice.proofs.Called.{called-err, called, fit_as}
use Rattle.open.proofs.calls.pluck.Goals as goal

abbrev asked : Pluck → Call
asked p = pluck p.amplitude p.left p.noise

abbrev tests : Pluck → List Limit
tests p = strong p.amplitude ∷ lasting p.left ∷ []

module _ (p : Pluck) where
  refused-first : (r : Refusal) → number_of r ≡ refusal (strong p.amplitude ∷ []) → number_of r ≡ refusal (tests p)
  refused-first r e =
      e ∙ sym (stops (strong p.amplitude ∷ []) (lasting p.left ∷ []) (λ z. refused-above r (e ∙ z)))

  second : {n : ℕ} → 0 ≡ refusal (strong p.amplitude ∷ []) → n ≡ refusal (lasting p.left ∷ [])
      → n ≡ refusal (tests p)
  second z e = e ∙ sym (passes (strong p.amplitude ∷ []) (lasting p.left ∷ []) tt (sym z))

pub returns-in_err-within : goal.returns-in_err-within
unfolding number
returns-in_err-within c =
    let p = c.args.pluck in
    let r = c.in_err-within.field-0.0 in
    let i : c.from_residual.result ≡ Err r = search rules in
    let e : number_of r ≡ refusal (strong p.amplitude ∷ []) = search rules in
    called-err c.args.head (asked p) r c.requires i (refused-first p r e)

pub returns-in_err-within-2 : goal.returns-in_err-within-2
unfolding number
returns-in_err-within-2 c =
    let p = c.args.pluck in
    let r = c.in_err-within-2.field-0.0 in
    let i : c.from_residual-in_err-within-2.result ≡ Err r = search rules in
    let z : 0 ≡ refusal (strong p.amplitude ∷ []) = search rules in
    let e : number_of r ≡ refusal (lasting p.left ∷ []) = search rules in
    called-err c.args.head (asked p) r c.requires i (second p z e)

pub returns : goal.returns
unfolding number done
returns c =
    let p = c.args.pluck in
    let k = c.requires in
    let z : 0 ≡ refusal (strong p.amplitude ∷ []) = search rules in
    let y : 0 ≡ refusal (lasting p.left ∷ []) = search rules in
    let e = second p z y in
    let kept = passed (tests p) tt (sym e) in
    let count = first-kept (rest-kept kept) in
    called c.args.head (asked p) _ refl e refl refl
    (fit_as k k.filter k.loss k.waiting (record {
      amplitude = (first-kept kept).most;
      left = count.most;
      noise = search rules;
      none_left = λ z. absurd (omega arith);
    }))
    (λ q. refl)
