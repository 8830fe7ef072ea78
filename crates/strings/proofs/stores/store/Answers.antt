-- `strings::stores::store` meets its contract: 24, length 0 and bytes untouched, or the store of the row.
use Rattle.std.proofs.Common.{rules, ◌≡◌, ◌<◌}
use mathlib.Core.Path.{◌∙◌}
use Rattle.std.specs.Prelude.{Ok}
use Rattle.refusal.specs.Numbers.{code_of, beside}
use Rattle.form.specs.Loads.{store_number}
use Rattle.instrument.specs.Strings as I
use Rattle.strings.specs.Rows.{strings_of, RowOf}
use Rattle.strings.proofs.Rows.{number-above, none-counted, none_lent, number-row, count-row, lent-row}
use Rattle.strings.proofs.stores.store.Goals as goal

pub returns-in_err-from : goal.returns-in_err-from
returns-in_err-from c =
    let s = c.args in
    let v = strings_of s.heads.now s.lines.now in
    let old = s.bytes.now in
    let e : code_of c.from_residual.result ≡ 24 = search rules in
    let z : beside c.from_residual.result ≡ 0 = search rules in
    let h : 5 < s.string = search rules in
    record {
      value = e ∙ number-above v s.string (I.store old) h;
      length = z ∙ none-counted v s.string (I.store old) h;
      bytes_after = none_lent v s.string old h;
    }

pub returns : goal.returns
unfolding store_number
returns c =
    let s = c.args in
    let v = strings_of s.heads.now s.lines.now in
    let old = s.bytes.now in
    let h : RowOf s.string (Ok c.in_ok-from.from) = search rules in
    let r = c.store.ensures in
    record {
      value = r.number ∙ number-row v (I.store old) h;
      length = r.long ∙ count-row v (I.store old) h;
      bytes_after = r.slice ∙ lent-row v old h;
    }
