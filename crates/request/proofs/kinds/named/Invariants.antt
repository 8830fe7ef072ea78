-- `request::kinds::named` meets its contract: the word is the name of none of the kinds that the loop has passed, and
-- the rest is what is left of the table behind their rows.
use Rattle.std.proofs.Common.{◌≡◌, ℕ, ◌+◌, ◌≤◌}
use Rattle.words.specs.Pieces.{piece}
use Rattle.request.specs.Table.{table, name}
use Rattle.request.proofs.kinds.named.Given as goal

abbrev pub invariant-loop-kind : goal.invariant-loop-kind
invariant-loop-kind l = record {
  rows : (j : ℕ) → piece 10 j l.rest ≡ piece 10 (l.kind-index + j) table;
  none : (k : ℕ) → 1 ≤ k → k ≤ l.kind-index → l.w ≡ name table k → ⊥;
}
