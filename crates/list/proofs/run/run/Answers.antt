-- `list::run::run` meets its contract: each turn makes the next call.
-- Assumes nothing.
use mathlib.Core.Path.{sym, ap, ◌∙◌}
use mathlib.Core.Bool.{Bool, cond}
use Prim.Native.Nat.{ℕ, ◌+◌}
use native.Mathlib.Omega.{arith}
use borrow.Author.Rules.{part_to_end}
use lib.ListN.{get_or, length-drop}
use Rattle.voice.specs.Struct.{state_of}
use Rattle.render.proofs.Joined.{back}
use Rattle.list.specs.Items.{outputs_of, Reads}
use Rattle.list.proofs.Running.{begun, out-long, nums_long, all-out, all-written, all-numbers}
use Rattle.list.proofs.Turn.{Next, next-call, some-item, made-next}
use Rattle.list.proofs.run.run.Goals.{After-unwrap-item, then-is_ok, else-is_ok}
use Rattle.list.proofs.run.run.Goals as goal

pub loop-words-init : goal.loop-words-init
loop-words-init c =
    let s = c.args in (
      begun s.words.now s.input.now s.output.now s.numbers.now (state_of s.head s.line.now) c.requires.1,
      c.requires.0,
    )

pub unwrap-item-requires : goal.unwrap-item-requires
unwrap-item-requires c =
    some-item c.loop-words.invariant.0 c.in-len4-up.len_at_least c.read.result c.read.ensures.none

-- the call that was read is the next one
next : (c : After-unwrap-item) → Next c.args.input.now c.args.output.now c.args.numbers.now c.loop-words.words.now
    c.loop-words.used c.loop-words.written c.loop-words.k c.unwrap-item.result
next c =
    let ws = c.loop-words.words.now in
    let e : Reads (get_or ws 0 0) (get_or ws 1 0) (get_or ws 2 0) (get_or ws 3 0) c.unwrap-item.result =
    rw c.unwrap-item.ensures at c.read.ensures.some in
    next-call c.loop-words.invariant.0 c.in-len4-up.len_at_least c.unwrap-item.result e

pub one-answer-requires : goal.one-answer-requires
one-answer-requires c =
    let l = c.loop-words in
    let xs = c.args.input.now in
    let n = next (goal.at.one-answer-requires c).After-unwrap-item in (
      l.invariant.1,
      rw (part_to_end xs l.used) (omega (arith, length-drop l.used xs, n.fits.input)),
      rw (part_to_end l.output l.written)
          (omega (arith, length-drop l.written l.output, out-long l.invariant.0, n.fits.output)),
    )

pub bounds-numbers-k : goal.bounds-numbers-k
bounds-numbers-k c =
    let n = next (goal.at.bounds-numbers-k c).After-unwrap-item in
    omega (arith, n.fits.place, nums_long c.loop-words.invariant.0)

pub loop-words-preserved : goal.loop-words-preserved
loop-words-preserved c =
    let n = next (goal.at.loop-words-preserved c).After-unwrap-item in
    let l = c.loop-words in
    let r = l.invariant.0 in
    let w = c.unwrap-item.result in
    let a = c.one-answer in
    let made = made-next r c.in-len4-up.len_at_least w n a.result a.ensures.on a.ensures.output_after
    (part_to_end c.args.input.now l.used) (part_to_end l.output l.written)
    (back l.written l.output a.new.output (omega (arith, r.written-within, out-long r)))
    (part_to_end l.words.now 4) c.inputs-used.ensures c.code.ensures in
    elim c.if-is_ok.branch [
      | then-is_ok j ↦
          let t = sym c.is_ok.ensures.value ∙ j.if-is_ok.true in
          made (outputs_of w) (sym (ap (λ (b : Bool). cond b (outputs_of w) 0) t))
          (j.written-is ∙ ap (λ (m : ℕ). l.written + m) j.outputs-written.ensures)
      | else-is_ok j ↦
          let t = sym c.is_ok.ensures.value ∙ j.if-is_ok.false in
          made 0 (sym (ap (λ (b : Bool). cond b (outputs_of w) 0) t)) (omega (arith, j.written-is))
    ]

pub returns : goal.returns
returns c =
    let r = c.loop-words.invariant.0 in
    let h = c.in_default.len_below in
    record { value = all-written r h; output_after = all-out r h; numbers_after = all-numbers r h }
