-- The loop of `score::play`: what is known in it of a record, once its number is known, and once its wait is.
-- proofs/play/Invariants.antt has the invariant. Assumes nothing.
use mathlib.Core.Path.{◌≡◌, sym, ap, ◌∙◌}
use mathlib.Core.List.{List}
use Prim.Native.Nat.{ℕ, ◌+◌, ◌-◌, ◌≤◌, ◌<◌}
use native.Mathlib.Omega.{arith}
use borrow.Author.Tests.{eqb-false}
use lib.IntN.{ℤ}
use lib.ListN.{length, get_or}
use Rattle.refusal.specs.Limits.{refusal}
use Rattle.rule.specs.State.{State}
use Rattle.voice.specs.declared.Head.{Head}
use Rattle.voice.specs.Struct.{state_of}
use Rattle.record.specs.Record.{fields}
use Rattle.follow.specs.Follow.{value}
use Rattle.score.specs.Run.{play_limits}
use Rattle.score.proofs.Playing.{Playing, has_room}
use Rattle.score.proofs.play.Goals as goal
use Rattle.score.proofs.play.Lts as lts
use Rattle.score.proofs.play.Reads as reads
use Rattle.score.proofs.play.Tie as tie

-- ---- the places of the loop that the proofs speak of
abbrev pub Numbered : Type 0
Numbered =
    lts.After-refused tie.the-claims reads.Pre reads.Post goal.the-invariant-loop-t goal.the-decreases-loop-t
    tie.handed_clauses

abbrev pub Waits-read : Type 0
Waits-read =
    lts.Past-After-known_told tie.the-claims reads.Pre reads.Post goal.the-invariant-loop-t goal.the-decreases-loop-t
    tie.handed_clauses

abbrev pub Begun : Type 0
Begun =
    lts.After-begin tie.the-claims reads.Pre reads.Post goal.the-invariant-loop-t goal.the-decreases-loop-t
    tie.handed_clauses

abbrev pub Kept : Type 0
Kept =
    lts.After-after tie.the-claims reads.Pre reads.Post goal.the-invariant-loop-t goal.the-decreases-loop-t
    tie.handed_clauses

abbrev pub Rendered : Type 0
Rendered =
    lts.Joined2 tie.the-claims reads.Pre reads.Post goal.the-invariant-loop-t goal.the-decreases-loop-t
    tie.handed_clauses

-- ---- before a record, once its number is known
module _ (c : Numbered) where
  abbrev pub bytes : List ℕ
  bytes = c.args.records.now

  abbrev pub opened : State
  opened = state_of c.args.head c.args.line.now

  abbrev pub lent : List ℤ
  lent = c.args.output.now

  abbrev pub head : Head
  head = c.loop-t.head

  abbrev pub line : List ℤ
  line = c.loop-t.line

  abbrev pub voice : State
  voice = state_of head line

  abbrev pub left : List ℕ
  left = c.loop-t.t.now

  abbrev pub index : ℕ
  index = c.loop-t.progress.place

  abbrev pub done : ℕ
  done = c.loop-t.progress.written

  abbrev pub output : List ℤ
  output = c.loop-t.output

  pub playing : Playing bytes opened lent voice left index done output
  playing = c.loop-t.invariant.0

  pub some : 0 < length left
  some = omega (arith, eqb-false (length left) 0 (sym c.is_empty.ensures ∙ c.loop-t-test.true))

  pub read : c.read_record-rest.new.fields ≡ fields left
  read = c.read_record-rest.ensures.fields_after

  -- the samples that it waits, where it is read
  abbrev pub wait : ℕ
  wait = get_or c.read_record-rest.new.fields 2 0

  -- what it is refused by, n, as `score::refused` has it
  pub number_is : {n : ℕ}
      → ((s : List ℕ) → c.read_record-rest.new.fields ≡ fields s
      → n ≡ refusal (play_limits s (length output - done)))
      → n ≡ refusal (play_limits left (length lent - done))
  number_is f = f left read ∙ ap (λ (n : ℕ). refusal (play_limits left (n - done))) c.loop-t.invariant.2

-- ---- a record that is not refused
module _ (c : Waits-read) where
  abbrev pub numbered : Numbered
  numbered = c.before.before

  pub wait-is : wait numbered ≡ value (fields (left numbered)) 0
  wait-is = ap (λ (l : List ℕ). value l 0) (read numbered)

  pub taken : refusal (play_limits (left numbered) (length (lent numbered) - done numbered)) ≡ 0
  taken = sym (number_is numbered c.in_ok-refused.ensures)

  pub room : done numbered + wait numbered ≤ length (output numbered)
  room =
      let r = numbered in omega (
        arith,
        wait-is,
        (has_room (left r) (length (lent r) - done r) taken).1,
        (playing r).within,
        r.loop-t.invariant.2,
      )
