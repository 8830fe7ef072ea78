-- `merge::turn::wait_left` meets its contract.
use mathlib.Core.Path.{◌≡◌, ap, ◌∙◌}
use mathlib.Core.List.{List}
use Prim.Native.Nat.{ℕ, ◌-◌}
use native.Mathlib.Omega.{arith}
use borrow.Author.Rules.{part_to_end}
use Rattle.record.specs.Record.{fields}
use Rattle.follow.specs.Follow.{value}
use Rattle.merge.specs.Turn.{next}
use Rattle.merge.proofs.turn.wait_left.Goals as goal

-- the wait that was read
wait-is : (c : goal.After-struct_known-1)
    → let s = c.args in
    value c.read_record.new.fields 0 ≡ value (next s.score.now s.s) 0
wait-is c =
    let s = c.args in
    ap (λ (l : List ℕ). value l 0)
    (c.read_record.ensures.fields_after ∙ ap (λ (l : List ℕ). fields l) (part_to_end s.score.now s.s.at))

pub overflow_sub-result : goal.overflow_sub-result
overflow_sub-result c = omega (arith, wait-is c, c.requires.early)

pub returns : goal.returns
returns c = ap (λ (n : ℕ). n - c.args.s.since) (wait-is c)
