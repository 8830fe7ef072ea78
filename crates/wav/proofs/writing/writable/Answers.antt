-- `wav::writing::writable` meets its contract: by the three tests, one after the other.
use Rattle.std.proofs.Common.{◌≡◌, [], ◌∷◌, length, ap, ◌∙◌, Err, rules}
use Rattle.refusal.specs.Limits.{refusal}
use Rattle.refusal.specs.Numbers.{number_of, code_of}
use Rattle.rule.specs.Tests.{loud}
use Rattle.riff.specs.Format.{file_size}
use Rattle.wav.specs.Written.{rated, roomy, write_number}
use Rattle.wav.proofs.Chains.{first-refuses, second-refuses, third}
use Rattle.wav.proofs.writing.writable.Goals as goal

pub returns-in_err-rated : goal.returns-in_err-rated
unfolding write_number
returns-in_err-rated c =
    let xs = c.args.samples.now in
    let n = length xs in
    let r = c.in_err-rated.field-0.0 in
    let i : c.from_residual.result ≡ Err r = search rules in
    let e : number_of r ≡ refusal (rated c.args.rate ∷ []) = search rules in
    ap code_of i ∙ first-refuses (rated c.args.rate) (roomy n (file_size n) c.args.room) (loud xs) r e

pub returns-in_err-roomy : goal.returns-in_err-roomy
unfolding write_number
returns-in_err-roomy c =
    let xs = c.args.samples.now in
    let n = length xs in
    let r = c.in_err-roomy.field-0.0 in
    let i : c.from_residual-in_err-roomy.result ≡ Err r = search rules in
    let z : 0 ≡ refusal (rated c.args.rate ∷ []) = search rules in
    let e : number_of r ≡ refusal (roomy n (file_size n) c.args.room ∷ []) = search rules in
    ap code_of i ∙ second-refuses (rated c.args.rate) (roomy n (file_size n) c.args.room) (loud xs) tt z r e

pub returns : goal.returns
unfolding write_number
returns c =
    let xs = c.args.samples.now in
    let n = length xs in
    let z : 0 ≡ refusal (rated c.args.rate ∷ []) = search rules in
    let y : 0 ≡ refusal (roomy n (file_size n) c.args.room ∷ []) = search rules in
    let e : code_of c.within.result ≡ refusal (loud xs ∷ []) = search rules in
    third (rated c.args.rate) (roomy n (file_size n) c.args.room) (loud xs) tt z tt y e
