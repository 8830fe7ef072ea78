-- `merge::walk::any_left` meets its contract.
use mathlib.Core.Path.{subst}
use native.Mathlib.Omega.{arith}
use borrow.Author.Tests.{ltb-true, ltb-false}
use lib.Dec.{T}
use lib.ListN.{length}
use Rattle.merge.proofs.walk.any_left.Goals as goal

pub returns-then-p-first : goal.returns-then-p-first
returns-then-p-first c =
    record {
      some = λ _ _. c.if-p-first.true;
      none = λ e. absurd (subst T e tt);
    }

pub returns : goal.returns
returns c =
    let l = c.if-p-first.false in
    let s = c.args in
    let at = s.p.second.at in
    let n = length s.second.now in
    record {
      some = λ e k. let h = ltb-true at n e in absurd (omega arith);
      none = λ e. (l, ltb-false at n e);
    }
