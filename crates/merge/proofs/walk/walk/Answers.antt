-- `merge::walk::walk` meets its contract: turn by turn, until no record is left.
use Rattle.std.specs.Prelude.{Result, Ok, Err}
use mathlib.Core.Path.{◌≡◌, subst}
use Rattle.refusal.specs.declared.Refusal.{Refusal}
use Rattle.outline.specs.declared.Course.{Course}
use mathlib.Core.Bool.{Bool}
use mathlib.Core.List.{List}
use Prim.Native.Nat.{ℕ}
use native.Mathlib.Omega.{arith}
use Rattle.outline.specs.Outline.{Outline}
use Rattle.outline.specs.Struct.{outline_of}
use Rattle.merge.specs.Left.{Took}
use Rattle.merge.specs.Walk.{all_of}
use Rattle.merge.proofs.Walking.{Walking, Coming, all_walked, refused, too_long, walks_on}
use Rattle.merge.proofs.walk.walk.Goals as goal
use Rattle.merge.proofs.walk.walk.Lts as lts
use Rattle.merge.proofs.walk.walk.Reads as reads
use Rattle.merge.proofs.walk.walk.Tie as tie

-- ---- once a turn is taken and followed
module _ (c : (lts.After-follow tie.the-claims reads.Pre reads.Post goal.the-invariant-loop-p goal.the-decreases-loop-p)) where
  abbrev N : ℕ
  N = c.args.order

  abbrev Na : ℕ
  Na = c.args.advance

  abbrev o : Outline
  o = outline_of c.args.start

  abbrev first : List ℕ
  first = c.args.first.now

  abbrev second : List ℕ
  second = c.args.second.now

  abbrev lent : List ℕ
  lent = c.args.out.now

  abbrev writes : Bool
  writes = c.args.writes

  abbrev rs : List (List ℕ)
  rs = all_of N Na o first second

  walking : Walking N Na o first second rs lent writes c.loop-p.p c.loop-p.c c.loop-p.done
      c.loop-p.out
  walking = c.loop-p.invariant

  took : Took N Na first second walking.left c.loop-p.p c.take_turn-p.result
      c.take_turn-p.new.q
  took = c.take_turn-p.ensures walking.left walking.on_way

  coming : (x : Result Course Refusal) → c.follow.result.course ≡ x
      → Coming N Na o first second rs lent writes walking took x
  coming x e =
      subst (λ (y : Result Course Refusal). Coming N Na o first second rs lent writes walking took y) e c.follow.ensures.comes

pub returns-in_default : goal.returns-in_default
returns-in_default c =
    let f = c.before.before in
    refused (N f) (Na f) (o f) (first f) (second f) (rs f) (lent f) (writes f) (walking f) (took f)
    c.in_default.field-0 (coming f (Err c.in_default.field-0) c.in_default.is)

pub returns-then-out-done : goal.returns-then-out-done
returns-then-out-done c =
    let f = c.before.before.before.before in
    too_long (N f) (Na f) (o f) (first f) (second f) (rs f) (lent f) (writes f) (walking f) (took f)
    c.size-n.ensures c.if-out-done.true

pub put_next-requires : goal.put_next-requires
put_next-requires c =
    let f = c.before.before.before.before.before.before in
    let w = walking f in
    let e = c.size-n.ensures in
    let l = c.if-out-done.false in
    ((took f).small, omega (arith, e, l, w.within, w.same))

pub loop-p-smaller : goal.loop-p-smaller
loop-p-smaller c = (took c.before.before.before.before.before.before.before.before.before).less

pub loop-p-preserved : goal.loop-p-preserved
loop-p-preserved c =
    let f = c.before.before.before.before.before.before.before.before.before in
    walks_on (N f) (Na f) (o f) (first f) (second f) (rs f) (lent f) (writes f) (walking f) (took f) c.in-Ok.next
    (coming f (Ok c.in-Ok.next) c.in-Ok.is) c.size-n.ensures c.if-out-done.false c.put_next.ensures

pub returns : goal.returns
returns c =
    let s = c.args in
    all_walked s.order s.advance (outline_of s.start) s.first.now s.second.now
    (all_of s.order s.advance (outline_of s.start) s.first.now s.second.now)
    s.out.now s.writes c.loop-p.invariant c.any_left.ensures c.loop-p-test.false
