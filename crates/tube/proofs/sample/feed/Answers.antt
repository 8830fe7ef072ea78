-- `tube::sample::feed` meets its contract: what waits has taken one input more.
use mathlib.Core.Path.{◌≡◌}
use native.Mathlib.Omega.{arith}
use native.Mathlib.Numerals.{add-one}
use Rattle.std.proofs.Common.{rules}
use Rattle.std.specs.Prelude.{Some}
use Rattle.tube.specs.Valid.{Early}
use Rattle.tube.proofs.Tuned.{feeds, next_tunes, next-states}
use Rattle.tube.proofs.sample.feed.Goals.{In_ok-m}
use Rattle.tube.proofs.sample.feed.Goals as goal

module _ (c : In_ok-m) where
  is : c.args.w ≡ Some c.in_ok-m.m
  is = search rules

  waits : let m = c.in_ok-m.m in Early c.args.advance m.d m.taken m.filters
  waits = rw is at c.requires.1

pub feed_both-requires : goal.feed_both-requires
feed_both-requires c = feeds (waits (goal.at.feed_both-requires c).In_ok-m).filters c.requires.2

pub returns : goal.returns
returns c =
    let b = (goal.at.returns c).In_ok-m in
    let w = waits b in (
      rw (is b, c.feed_both.ensures, next-states c.args.x w.filters, add-one c.in_ok-m.m.taken),
      record {
        filters = rw c.feed_both.ensures (next_tunes w.filters c.requires.2);
        counted = omega (arith, w.early);
      },
    )
