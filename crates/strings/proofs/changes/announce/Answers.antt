-- `strings::changes::announce` meets its contract: 24, or the call on the row.
use Rattle.std.proofs.Common.{rules, ◌≡◌, ◌<◌}
use Rattle.refusal.specs.Numbers.{code_of}
use Rattle.strings.proofs.Rows.{called_above}
use Rattle.strings.proofs.changes.announce.Goals as goal

pub returns-in_err-heads : goal.returns-in_err-heads
returns-in_err-heads c =
    let e : code_of c.from_residual.result ≡ 24 = search rules in
    let h : 5 < c.args.string = search rules in
    called_above e h
