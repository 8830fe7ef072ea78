-- `strings::changes::instant` meets its contract: 24 and the count 0, or the call on the row.
use Rattle.std.proofs.Common.{rules, ◌≡◌, ◌<◌}
use mathlib.Core.Path.{◌∙◌}
use Rattle.std.specs.Prelude.{Ok}
use Rattle.refusal.specs.Numbers.{code_of, beside}
use Rattle.rule.specs.Calls as C
use Rattle.rule.specs.Calls.{instant}
use Rattle.voice.specs.Struct.{tuning_of}
use Rattle.instrument.specs.Strings.{calls}
use Rattle.strings.specs.Rows.{strings_of, RowOf}
use Rattle.strings.proofs.Rows.{played_above, played-still, none-counted, count-row}
use Rattle.strings.proofs.changes.instant.Goals as goal

pub returns-in_err-k : goal.returns-in_err-k
returns-in_err-k c =
    let s = c.args in
    let e : code_of c.from_residual.result ≡ 24 = search rules in
    let z : beside c.from_residual.result ≡ 0 = search rules in
    let h : 5 < s.string = search rules in
    record {
      played = played_above c.requires e h;
      count = z ∙ none-counted (strings_of s.heads.now s.lines.now) s.string (calls (instant (tuning_of s.to))) h;
    }

pub returns : goal.returns
unfolding C.number
returns c =
    let s = c.args in
    let a = calls (instant (tuning_of s.to)) in
    let h : RowOf s.string (Ok c.in_ok-k.k) = search rules in
    let r = c.instant.ensures in
    record {
      played = played-still a _ c.requires h r.on.number r.on.state r.on.valid;
      count = r.count ∙ count-row (strings_of s.heads.now s.lines.now) a h;
    }
