-- `wav::write` meets its contract: by its tests.
use Rattle.std.proofs.Common.{rules, ◌≡◌, sym, ◌∙◌, length, Err}
use Rattle.refusal.specs.Numbers.{number_of}
use Rattle.rule.proofs.Refusals.{unquiet}
use Rattle.refusal.proofs.Numbers.{refused-above}
use Rattle.wav.specs.Written.{write_number}
use Rattle.wav.proofs.Refusals.{writes}
use Rattle.wav.proofs.Results.{write_done, write_refused, left-done, left-refused}
use Rattle.wav.proofs.write.Goals as goal

pub returns-in_err-writable-clause-value : goal.returns-in_err-writable-clause-value
returns-in_err-writable-clause-value c =
    let a = c.args in
    let r = c.in_err-writable.field-0.0 in
    let i : c.from_residual.result ≡ Err r = search rules in
    let e : number_of r ≡ write_number a.rate a.samples.now (length a.file.now) = search rules in
    rw (i, e) (sym (write_refused a.rate a.samples.now (length a.file.now) (λ z. refused-above r (e ∙ z))))

pub returns-in_err-writable-clause-file_after : goal.returns-in_err-writable-clause-file_after
returns-in_err-writable-clause-file_after c =
    let a = c.args in
    let r = c.in_err-writable.field-0.0 in
    let e : number_of r ≡ write_number a.rate a.samples.now (length a.file.now) = search rules in
    sym (left-refused a.rate a.samples.now a.file.now (λ z. refused-above r (e ∙ z)))

pub fill-requires : goal.fill-requires
fill-requires c =
    let a = c.args in
    let z : 0 ≡ write_number a.rate a.samples.now (length a.file.now) = search rules in
    let p = (writes a.rate a.samples.now (length a.file.now)).accepted.0 (sym z) in
    (p.1.0.long, unquiet p.1.1)

pub returns-clause-value : goal.returns-clause-value
returns-clause-value c =
    let a = c.args in
    let z : 0 ≡ write_number a.rate a.samples.now (length a.file.now) = search rules in
    rw c.file_size.ensures (sym (write_done a.rate a.samples.now (length a.file.now) (sym z)))

pub returns-clause-file_after : goal.returns-clause-file_after
returns-clause-file_after c =
    let a = c.args in
    let z : 0 ≡ write_number a.rate a.samples.now (length a.file.now) = search rules in
    c.fill.ensures ∙ sym (left-done a.rate a.samples.now a.file.now (sym z))
