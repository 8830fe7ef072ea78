-- `score::follow_all` meets its contract: the header, and then its records.
-- Assumes nothing.
use Rattle.std.proofs.Common.{rules}
use Rattle.std.specs.Prelude.{Err}
use mathlib.Core.Path.{◌≡◌, sym, ap, subst, ◌∙◌}
use mathlib.Core.List.{List}
use Prim.Native.Nat.{ℕ, ◌-◌}
use lib.ListN.{length, take, drop}
use Rattle.refusal.specs.Limits.{refusal}
use Rattle.refusal.specs.Numbers.{number_of, code_of}
use Rattle.refusal.proofs.Numbers.{refused-above}
use Rattle.rule.specs.Calls.{Opening, open_limits}
use Rattle.rule.specs.State.{State, fresh}
use Rattle.score.specs.Played.{Played}
use Rattle.score.specs.Run.{opening}
use Rattle.score.specs.Played.{PlaysAll}
use borrow.Author.Rules.{part_to_end}
use Rattle.score.proofs.Header.{header-cut, header-whole, run-refused, run-played}
use Rattle.score.proofs.follow_all.Goals as goal

pub returns-in_err-opening : goal.returns-in_err-opening
returns-in_err-opening c =
    let s = c.args.score.now in
    let r = c.in_err-opening.field-0.0 in
    let i : c.from_residual.result ≡ Err r = search rules in
    let cut = c.in_err-opening.ensures in
    rw (i, c.requires.0, c.requires.1) (run-refused s c.args.output.now (cut.1 ∙ header-cut s cut.0) (refused-above r))

pub returns-in_err-o : goal.returns-in_err-o
returns-in_err-o c =
    let s = c.args.score.now in
    let r = c.in_err-o.field-0.0 in
    let i : c.from_residual-in_err-o.result ≡ Err r = search rules in
    let read = c.in_ok-opening.ensures in
    let e : number_of r ≡ code_of c.open-o.result.answer = search rules in
    let n = header-whole s read.0
    (e ∙ c.open-o.ensures.number ∙ ap (λ (o : Opening). refusal (open_limits o)) read.1) in
    rw (i, c.requires.0, c.requires.1) (run-refused s c.args.output.now n (refused-above r))

pub returns : goal.returns
returns c =
    let s = c.args.score.now in
    let out = c.args.output.now in
    let read = c.in_ok-opening.ensures in
    let e : 0 ≡ code_of c.open-o.result.answer = search rules in
    let n = header-whole s read.0
    (e ∙ c.open-o.ensures.number ∙ ap (λ (o : Opening). refusal (open_limits o)) read.1) in
    let v = c.open-o.ensures.state ∙ ap (λ (o : Opening). fresh o) read.1 in
    let p = c.play.new.progress in
    let r : Played = record { refusal = code_of c.play.result; place = p.place; written = p.written } in
    let k = c.play.new.output in
    run-played s out r k (sym n)
    (subst (λ (t : List ℕ). PlaysAll t (fresh (opening s)) out r k) (part_to_end s 8)
    (subst (λ (v : State). PlaysAll (take (length s - 8) (drop 8 s)) v out r k) v c.play.ensures))
