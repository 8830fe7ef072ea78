-- `mix::parts::sum_strings` meets its contract: once the first string begins the sums, each of the others
-- is added.
use mathlib.Core.Path.{◌≡◌, refl, sym, ◌∙◌}
use mathlib.Core.List.{List}
use Prim.Native.Nat.{◌≤◌}
use native.Mathlib.Omega.{arith}
use borrow.Author.Rules.{rules}
use lib.IntN.{ℤ}
use lib.ListN.{length}
use Rattle.loops.specs.Fed.{fed_of}
use Rattle.loops.proofs.Fed.{length-fed}
use Rattle.instrument.specs.Strings.{Strings}
use Rattle.strings.specs.Rows.{strings_of}
use Rattle.mix.proofs.Strings.{Firsts, firsts_one, firsts_quiet, firsts_long, firsts_more, firsts_all}
use Rattle.mix.proofs.parts.sum_strings.Goals as goal
use Rattle.mix.proofs.parts.sum_strings.Lts as lts
use Rattle.mix.proofs.parts.sum_strings.Reads as reads
use Rattle.mix.proofs.parts.sum_strings.Tie as tie

pub render_string-requires : goal.render_string-requires
render_string-requires c =
    record {
      valid = (c.requires.voices.0.valid 0 (omega arith), c.requires.input_len.1);
      input_bound = c.requires.voices.1;
    }

-- at the loop: the strings before, their input, and what the first k of them left
module _ (p : (lts.At-loop tie.the-claims reads.Pre reads.Post goal.the-invariant-loop-k goal.the-decreases-loop-k tie.handed_clauses)) where
  abbrev before : Strings
  before = strings_of p.args.heads.now p.args.lines.now

  abbrev fed-in : List ℤ
  fed-in = fed_of p.args.fed 0 p.args.input.now

  firsts : Firsts before fed-in p.loop-k.k p.loop-k.heads p.loop-k.lines p.loop-k.sums
  firsts = p.loop-k.invariant before (firsts_one p.requires.voices.0 p.render_string.ensures)

  long : length p.args.input.now ≡ length p.loop-k.sums
  long = sym (firsts_long firsts ∙ length-fed p.args.fed 0 p.args.input.now)

pub add_string-requires : goal.add_string-requires
add_string-requires c =
    let p = c.before.before.before.before.before in
    let f = firsts p in
    let k : c.loop-k.k ≤ 5 = omega arith in
    record {
      valid = (f.voices.valid c.loop-k.k k, omega (arith, c.requires.input_len.0));
      input_len = (long p, c.requires.voices.1);
      sums_bound = firsts_quiet f k;
    }

pub loop-k-preserved : goal.loop-k-preserved
loop-k-preserved c = λ s f. firsts_more (c.loop-k.invariant s f) (omega arith) c.add_string.ensures

pub returns : goal.returns
returns c =
    let k : c.loop-k.k ≡ 6 = omega arith in
    firsts_all (firsts c.before) k
