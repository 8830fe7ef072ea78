-- `list::one::call` meets its contract: an instant change has its count, and no other call has one.
-- Assumes nothing.
use mathlib.Core.Path.{◌≡◌, refl}
use Rattle.std.proofs.Common.{rules}
use Rattle.std.specs.Prelude.{Ok, Err}
use Rattle.rule.specs.Calls.{count}
use Rattle.list.proofs.Calling.{Uncounted, uncounted, makes-none, makes}
use Rattle.list.proofs.one.call.Goals.{After-branch-answer}
use Rattle.list.proofs.one.call.Goals.{in-Loss, in-Pluck, in-Announce, in-Ask, in-Commit, in-Withdraw}
use Rattle.list.proofs.one.call.Goals as goal

none : (c : After-branch-answer) → Uncounted c.args.head c.args.call c.match-call.answer
unfolding count
none c = elim c.match-call.branch [
  | in-Loss w ↦ uncounted w.in-Loss.is w.answer-is w.loss-answer.ensures (λ v q. refl)
  | in-Pluck w ↦ uncounted w.in-Pluck.is w.answer-is w.pluck-answer.ensures (λ v q. refl)
  | in-Announce w ↦ uncounted w.in-Announce.is w.answer-is w.announce-answer.ensures (λ v q. refl)
  | in-Ask w ↦ uncounted w.in-Ask.is w.answer-is w.ask-answer.ensures (λ v q. refl)
  | in-Commit w ↦ uncounted w.in-Commit.is w.answer-is w.commit-answer.ensures (λ v q. refl)
  | in-Withdraw w ↦ uncounted w.in-Withdraw.is w.answer-is w.withdraw-answer.ensures (λ v q. refl)
]

pub returns-in_err-answer : goal.returns-in_err-answer
returns-in_err-answer c =
    let r = c.in_err-answer.field-0.0 in
    let e : c.match-call.answer ≡ Err r = search rules in
    let i : c.from_residual.result ≡ Err r = search rules in
    makes-none c.requires.line r e i (none (goal.at.returns-in_err-answer c).After-branch-answer)

pub returns : goal.returns
returns c =
    let e : c.match-call.answer ≡ Ok c.in_ok-answer.field-0 = search rules in
    makes c.requires.line _ e (none (goal.at.returns c).After-branch-answer)
