-- `wav::reading::readable` meets its contract: by the three tests, one after the other.
use Rattle.std.proofs.Common.{◌≡◌, [], ◌∷◌, ap, ◌∙◌, Err, rules}
use Rattle.refusal.specs.Limits.{refusal}
use Rattle.refusal.specs.Numbers.{number_of, code_of}
use Rattle.riff.specs.Held.{rate_of, count_of}
use Rattle.wav.specs.Written.{rated, roomy}
use Rattle.wav.specs.Recorded.{formed, reading_number}
use Rattle.wav.proofs.Chains.{first-refuses, second-refuses, third}
use Rattle.wav.proofs.reading.readable.Goals as goal

pub returns-in_err-formed : goal.returns-in_err-formed
unfolding reading_number
returns-in_err-formed c =
    let s = c.args.file.now in
    let n = count_of s in
    let r = c.in_err-formed.field-0.0 in
    let i : c.from_residual.result ≡ Err r = search rules in
    let e : number_of r ≡ refusal (formed s ∷ []) = search rules in
    ap code_of i ∙ first-refuses (formed s) (rated (rate_of s)) (roomy n n c.args.room) r e

pub returns-in_err-rated : goal.returns-in_err-rated
unfolding reading_number
returns-in_err-rated c =
    let s = c.args.file.now in
    let n = count_of s in
    let r = c.in_err-rated.field-0.0 in
    let i : c.from_residual-in_err-rated.result ≡ Err r = search rules in
    let z : 0 ≡ refusal (formed s ∷ []) = search rules in
    let e : number_of r ≡ refusal (rated (rate_of s) ∷ []) = search rules in
    ap code_of i ∙ second-refuses (formed s) (rated (rate_of s)) (roomy n n c.args.room) tt z r e

pub returns : goal.returns
unfolding reading_number
returns c =
    let s = c.args.file.now in
    let n = count_of s in
    let z : 0 ≡ refusal (formed s ∷ []) = search rules in
    let y : 0 ≡ refusal (rated (rate_of s) ∷ []) = search rules in
    let e : code_of c.roomy.result ≡ refusal (roomy n n c.args.room ∷ []) = search rules in
    third (formed s) (rated (rate_of s)) (roomy n n c.args.room) tt z tt y e
