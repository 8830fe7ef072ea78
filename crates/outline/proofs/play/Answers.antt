-- `outline::play` meets its contract: each turn reads a record and follows it.
use Rattle.std.proofs.Common.{rules}
use Rattle.std.specs.Prelude.{Result, Ok, Err, MatchResult}
use mathlib.Core.Path.{◌≡◌, sym, ap, subst, ◌∙◌}
use mathlib.Core.List.{List}
use Prim.Native.Nat.{ℕ, ◌+◌, ◌<◌}
use native.Mathlib.Omega.{arith}
use borrow.Author.Tests.{eqb-true, eqb-false}
use lib.ListN.{length}
use Rattle.refusal.specs.declared.Refusal.{Refusal}
use Rattle.refusal.specs.Numbers.{code_of}
use Rattle.refusal.proofs.Numbers.{refused-above}
use Rattle.record.specs.Record.{record_number, fields}
use Rattle.outline.specs.declared.Course.{Course}
use Rattle.outline.specs.declared.Stopped.{Stopped}
use Rattle.outline.specs.Outline.{Outline, result, from, record_calls}
use Rattle.outline.specs.Struct.{outline_of, Comes, Follows}
use Rattle.outline.proofs.Playing.{Playing, all-played, refused, stopped, goes_on, shorter}
use Rattle.outline.proofs.play.Goals as goal
use Rattle.outline.proofs.play.Lts as lts
use Rattle.outline.proofs.play.Reads as reads
use Rattle.outline.proofs.play.Tie as tie

abbrev Read : Type 0
Read =
    lts.After-unread tie.the-claims reads.Pre reads.Post goal.the-invariant-loop-t goal.the-decreases-loop-t
    tie.handed_clauses

abbrev Followed : Type 0
Followed =
    lts.After-follow tie.the-claims reads.Pre reads.Post goal.the-invariant-loop-t goal.the-decreases-loop-t
    tie.handed_clauses

-- ---- an answer at a place
module _ {A : Type 0} (k : ℕ) where
  refused-at : (x : Result A Refusal) {s : Stopped}
      → MatchResult x (λ y. ◌≡◌ {A = Result A Stopped} (Err s) (Ok y))
      (λ r. ◌≡◌ {A = Result A Stopped} (Err s) (Err (record { refusal = r; place = k })))
      → (x ≡ Err s.refusal) × (s.place ≡ k)
  refused-at (Ok y) e = search rules
  refused-at (Err r) e = search rules

  passed-at : (x : Result A Refusal) {y : A}
      → MatchResult x (λ z. ◌≡◌ {A = Result A Stopped} (Ok y) (Ok z))
      (λ r. ◌≡◌ {A = Result A Stopped} (Ok y) (Err (record { refusal = r; place = k })))
      → x ≡ Ok y
  passed-at (Ok z) e = search rules
  passed-at (Err r) e = search rules

-- ---- once a record is read
module _ (c : Read) where
  abbrev N : ℕ
  N = c.args.order

  abbrev Na : ℕ
  Na = c.args.advance

  abbrev bytes : List ℕ
  bytes = c.args.records.now

  abbrev start : Outline
  start = outline_of c.args.start

  abbrev now : Outline
  now = outline_of c.loop-t.c

  abbrev left : List ℕ
  left = c.loop-t.t.now

  abbrev index : ℕ
  index = c.loop-t.place

  playing : Playing N Na bytes start now left index
  playing = c.loop-t.invariant

  some : 0 < length left
  some = omega (arith, eqb-false (length left) 0 (sym c.is_empty.ensures ∙ c.loop-t-test.true))

  read : c.read_record-rest.new.fields ≡ fields left
  read = c.read_record-rest.ensures.fields_after

  number_is : code_of c.unread.result ≡ record_number left
  number_is = c.unread.ensures left read

-- ---- once it is followed
module _ (c : Followed) where
  abbrev place : Read
  place = c.before.before.before.before.before

  whole : record_number (left place) ≡ 0
  whole = sym (number_is place) ∙ ap (λ (x : Result _ Refusal). code_of x) (passed-at (index place) place.unread.result c.in_ok-at.ensures)

  follows : Follows (N place) (Na place) (now place) (fields (left place)) c.follow.result
  follows =
      subst (λ (l : List ℕ). Follows (N place) (Na place) (now place) l c.follow.result) (read place)
      c.follow.ensures

  -- by what its course is
  comes : (x : Result Course Refusal) → c.follow.result.course ≡ x
      → Comes (result (Na place) (now place) (record_calls (N place) (Na place) (fields (left place)) (now place)))
      (from (Na place) (now place) (record_calls (N place) (Na place) (fields (left place)) (now place))) x
  comes x e =
      let cs = record_calls (N place) (Na place) (fields (left place)) (now place) in
      subst (λ (y : Result Course Refusal). Comes (result (Na place) (now place) cs) (from (Na place) (now place) cs) y) e
      follows.comes

pub returns-in_err-at : goal.returns-in_err-at
returns-in_err-at c =
    let r = c.before.before.before.before.before in
    let k = c.in_err-at.field-0.0 in
    let i : c.from_residual.result ≡ Err k = search rules in
    let e = refused-at (index r) r.unread.result c.in_err-at.ensures in
    let n = ap (λ (x : Result _ Refusal). code_of x) (sym e.0) ∙ number_is r in
    rw (i, e.1) (refused (N r) (Na r) (bytes r) (start r) (now r) (left r) (index r) (playing r) (some r) n
    (refused-above k.refusal))

pub returns-in_err-c : goal.returns-in_err-c
returns-in_err-c c =
    let f = c.before.before.before.before.before in
    let r = place f in
    let k = c.in_err-c.field-0.0 in
    let i : c.from_residual-in_err-c.result ≡ Err k = search rules in
    let e = refused-at (index r) f.follow.result.course c.in_err-c.ensures in
    rw (i, e.1) (stopped (N r) (Na r) (bytes r) (start r) (now r) (left r) (index r) (playing r) (some r) (whole f)
    (comes f (Err k.refusal) e.0) (refused-above k.refusal))

pub loop-t-smaller : goal.loop-t-smaller
loop-t-smaller c =
    let f = c.before.before.before.before in
    let r = place f in
    subst (λ (l : List ℕ). length l < length (left r)) (sym r.read_record-rest.ensures.result_value)
    (shorter (left r) (some r) (whole f))

pub loop-t-preserved : goal.loop-t-preserved
loop-t-preserved c =
    let f = c.before.before.before.before in
    let r = place f in
    let h = comes f (Ok c.in_ok-c.c) (passed-at (index r) f.follow.result.course c.in_ok-c.ensures) in
    subst (λ (l : List ℕ). Playing (N r) (Na r) (bytes r) (start r) (outline_of c.in_ok-c.c) l (index r + 1))
    (sym r.read_record-rest.ensures.result_value)
    (goes_on (N r) (Na r) (bytes r) (start r) (now r) (left r) (index r) (playing r) (some r) (whole f)
    (sym h.0) h.1)

pub returns : goal.returns
returns c =
    let l = c.loop-t in
    let s = c.args in
    all-played s.order s.advance s.records.now (outline_of s.start) (outline_of l.c) l.t.now
    l.place l.invariant (omega (arith, eqb-true (length l.t.now) 0 (sym c.is_empty.ensures ∙ c.loop-t-test.false)))
