-- A record in the loop of `score::play`, once its wait was rendered: in one stretch, or in several.
-- Assumes nothing.
use mathlib.Core.Path.{◌≡◌, sym, ap, ap₂, subst, ◌∙◌}
use mathlib.Core.Bool.{false}
use mathlib.Core.List.{List}
use Prim.Native.Nat.{ℕ, ◌+◌, ◌-◌}
use native.Mathlib.Omega.{arith}
use borrow.Rule.Slice.PartMut.{put_mid}
use lib.IntN.{ℤ, pos}
use lib.ListN.{length, take, drop, replicate}
use Rattle.rule.specs.State.{block_after, block_out}
use Rattle.voice.specs.declared.Head.{Head}
use Rattle.voice.specs.Struct.{state_of}
use Rattle.voice.specs.Valid.{Valid}
use Rattle.loops.specs.Rendered.{Unfed, Went}
use Rattle.render.proofs.Unfed.{Stretched, stretched}
use Rattle.score.proofs.Turns.{part_length}
use Rattle.score.proofs.play.Goals.{then-n-wait, else-n-wait}
use Rattle.score.proofs.play.Answers.Loop.{Numbered, Waits-read, Begun, Kept, Rendered, numbered, head, line, voice, done, output, room}
use Rattle.score.proofs.play.Answers.Loop.{wait as samples-of}

-- ---- the first stretch
module _ (c : Begun) where
  abbrev pub wait : Waits-read
  wait = c.before.before.before

  abbrev pub place : Numbered
  place = numbered wait

  abbrev pub ends_at : ℕ
  ends_at = done place + samples-of place

  -- what is lent for the wait
  abbrev pub part : List ℤ
  part = take (ends_at - done place) (drop (done place) (output place))

  pub long : length part ≡ samples-of place
  long = part_length (done place) (output place) (room wait)

  abbrev pub first : List ℤ
  first = c.begin-p.new.buffer

module _ (c : Kept) where
  abbrev pub began : Begun
  began = c.before.before

  pub went : let p = place began in
      Went false (part began) (head p) (line p) (first began) c.after-head.result began.begin-p.new.line
      began.begin-p.result.ran.done
  went =
      let p = place began in
      let b = began.begin-p in
      subst
      (λ (k : Head). Went false (part began) (head p) (line p) (first began) k b.new.line b.result.ran.done)
      (sym c.after-head.ensures)
      b.ensures.went

  pub stretch : let p = place began in
      Stretched (done p) (ends_at began) (output p) (head p) (line p) (first began) c.after-head.result
      began.begin-p.new.line began.begin-p.result.ran.done
  stretch =
      let p = place began in
      let b = began.begin-p in
      stretched (done p) (ends_at began) (output p) (head p) (line p) (first began) c.after-head.result b.new.line
      b.result.ran.done (omega arith) (room (wait began)) went

-- ---- the whole wait
module _ (c : Rendered) where
  abbrev stretched_to : Begun
  stretched_to = began c.before

  abbrev pub at : Numbered
  at = place stretched_to

  abbrev silence : List ℤ
  silence = replicate (length (part stretched_to)) (pos 0)

  abbrev pub samples : List ℤ
  samples = block_out (voice at) silence

  abbrev Waits : Type 0
  Waits = (state_of c.if-n-wait.head c.if-n-wait.line ≡ block_after (voice at) silence)
      × Valid c.if-n-wait.head c.if-n-wait.line
      × (c.if-n-wait.output ≡ put_mid (done at) (ends_at stretched_to - done at) (output at) samples)

  waits : {g : Head} {k x : List ℤ} → Unfed (part stretched_to) (head at) (line at) x g k → c.if-n-wait.line ≡ k
      → c.if-n-wait.head ≡ g → c.if-n-wait.output ≡ put_mid (done at) (ends_at stretched_to - done at) (output at) x
      → Waits
  waits {g} {k} {x} u l h o = (
    ap₂ (λ (g : Head) (k : List ℤ). state_of g k) h l ∙ u.after,
    subst (λ (g : Head). Valid g c.if-n-wait.line) (sym h) (subst (λ (k : List ℤ). Valid g k) (sym l) u.valid),
    o ∙ ap (λ (x : List ℤ). put_mid (done at) (ends_at stretched_to - done at) (output at) x) u.out,
  )

  pub waited : Waits
  waited =
      let q = stretch c.before in
      elim c.if-n-wait.branch [
        | then-n-wait w ↦ waits (w.rest-head.ensures (part stretched_to) (head at) (line at) q.again) w.line-is w.head-is
            (w.output-is ∙ q.put w.rest-head.new.buffer)
        | else-n-wait w ↦ waits (q.all (omega (arith, w.if-n-wait.false))) w.line-is w.head-is w.output-is
      ]
