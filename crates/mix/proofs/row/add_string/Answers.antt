-- `mix::row::add_string` meets its contract: what the string rendered is samples, as many as the sums.
use mathlib.Core.Path.{◌≡◌, ap, subst, sym, ◌∙◌}
use mathlib.Core.List.{List}
use Prim.Native.Nat.{◌≤◌}
use lib.IntN.{ℤ}
use lib.ListN.{length}
use Rattle.integer.specs.Rounding.{M}
use Rattle.samples.specs.Samples.{loudest}
use Rattle.rule.proofs.Puts.{length-out}
use Rattle.voice.specs.Struct.{state_of}
use Rattle.loops.specs.Fed.{fed_of}
use Rattle.loops.proofs.Fed.{length-fed}
use Rattle.packed.specs.Words.{head_of}
use Rattle.mix.proofs.Added.{out-quiet}
use Rattle.mix.proofs.row.add_string.Goals as goal

pub add-requires-clause-samples_len : goal.add-requires-clause-samples_len
add-requires-clause-samples_len c =
    let r = c.render_string in
    let v = state_of (head_of c.args.head.now) c.args.line.now in
    let xs = fed_of c.args.fed 0 c.args.input.now in
    let n : length r.new.output ≡ length c.args.sums.now
    = ap length r.ensures.out
    ∙ length-out v xs
    ∙ length-fed c.args.fed 0 c.args.input.now
    ∙ c.requires.input_len.0 in
    let q : loudest r.new.output ≤ M
    = subst (λ (l : List ℤ). loudest l ≤ M) (sym r.ensures.out) (out-quiet v xs) in
    (n, q)
