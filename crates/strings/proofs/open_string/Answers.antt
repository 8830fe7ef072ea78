-- `strings::open_string` meets its contract: 24, or Open on the row.
use Rattle.std.proofs.Common.{rules, ◌≡◌, ◌<◌}
use Rattle.std.specs.Prelude.{Ok}
use Rattle.refusal.specs.Numbers.{code_of}
use Rattle.instrument.specs.Strings.{opens}
use Rattle.open.specs.Opened.{opening_of}
use Rattle.strings.specs.Rows.{RowOf}
use Rattle.strings.proofs.Rows.{played_above, played}
use Rattle.strings.proofs.open_string.Goals as goal

pub returns-in_err-k : goal.returns-in_err-k
returns-in_err-k c =
    let e : code_of c.from_residual.result ≡ 24 = search rules in
    let h : 5 < c.args.string = search rules in
    played_above c.requires e h

pub returns : goal.returns
returns c =
    let h : RowOf c.args.string (Ok c.in_ok-k.k) = search rules in
    let r = c.open_voice.ensures in
    played (opens (opening_of c.args.opening)) _ c.requires h _ r.number r.state r.valid
