-- `merge::merge` meets its contract: 28, 29, 30, in that order, or the merge.
use Rattle.std.proofs.Common.{false, true, rules}
use Rattle.std.specs.Prelude.{Result, Ok, Err}
use mathlib.Core.Path.{◌≡◌, refl, sym, ap, subst, ◌∙◌}
use mathlib.Core.List.{List}
use Prim.Native.Nat.{ℕ, ◌≤◌}
use native.Mathlib.Omega.{arith}
use lib.ListN.{length, take}
use Rattle.refusal.specs.declared.Refusal.{Refusal}
use Rattle.octets.specs.Octets.{laid}
use Rattle.octets.specs.Theorems.{Bytes}
use Rattle.rule.specs.Calls.{Opening}
use Rattle.score.specs.Run.{opening}
use Rattle.outline.specs.Outline.{opened, in_force}
use Rattle.outline.specs.Struct.{outline_of}
use Rattle.timeline.specs.Merged.{merged_records}
use Rattle.timeline.specs.Theorems.{Plays}
use Rattle.timeline.proofs.Merging.{ended, eight}
use Rattle.merge.specs.Walk.{Walks}
use Rattle.merge.proofs.Answering.{not-alone, not-merged, plays, plays-not, short, header-same, first_stops, second_walk, walk_ready, walk_is}
use Rattle.merge.proofs.merge.Goals as goal
use Rattle.merge.proofs.merge.Lts as lts
use Rattle.merge.proofs.merge.Reads as reads
use Rattle.merge.proofs.merge.Tie as tie

-- ---- both scores end alone
module _ (c : (lts.Else3 tie.the-claims reads.Pre reads.Post tie.handed_clauses)) where
  abbrev a : List ℕ
  a = c.args.first.now

  abbrev b : List ℕ
  b = c.args.second.now

  abbrev lent : List ℕ
  lent = c.args.bytes.now

  ha : Bytes a
  ha k = omega (arith, c.shared_slice_known-1.given k)

  hb : Bytes b
  hb k = omega (arith, c.shared_slice_known-2-1.given k)

  one : take 8 a ≡ take 8 b
  one = c.same_header.ensures.same c.if-not-same_header.false

  pa : Plays a
  pa = plays a c.alone.result c.alone.ensures.number (sym c.is_err.ensures.value ∙ c.if-is_err.false)

  pb : Plays b
  pb = plays b c.alone-2.result c.alone-2.ensures.number (sym c.is_err-2.ensures.value ∙ c.if-is_err-2.false)

  long : 8 ≤ length a
  long = eight a pa.room (ended a pa.room pa.ends)

-- ---- what the header opens
module _ (c : (lts.After-opening_course tie.the-claims reads.Pre reads.Post tie.handed_clauses)) where
  abbrev e : lts.Else3 tie.the-claims reads.Pre reads.Post tie.handed_clauses
  e = c.before.before.before.before.before

  begins : outline_of c.opening_course-start.result ≡ opened (a e)
  begins = c.opening_course-start.ensures ∙ ap (λ (x : Opening). in_force x.L x.d) c.in_ok-o.ensures.1

  order-is : c.in_ok-o.o.tuning.order ≡ (opening (a e)).N
  order-is = ap (λ (x : Opening). x.N) c.in_ok-o.ensures.1

  advance-is : c.in_ok-o.o.advance ≡ (opening (a e)).Na
  advance-is = ap (λ (x : Opening). x.Na) c.in_ok-o.ensures.1

-- ---- the first walk, and the header
walked : (c : (lts.After-walk tie.the-claims reads.Pre reads.Post tie.handed_clauses))
    → let k = c.before.before in
    Walks (opening (a (e k))).N (opening (a (e k))).Na (opened (a (e k))) (merged_records (a (e k)) (b (e k))) (lent (e k)) false
    c.walk.result c.walk.new.out
walked c =
    let k = c.before.before in
    let f = e k in
    walk_is (a f) (b f) (ha f) (hb f) (one f) (pa f) (pb f) c.in_ok-o.o.tuning.order c.in_ok-o.o.advance
    c.opening_course-start.result (order-is k) (advance-is k) (begins k) c.walk.ensures

headed : (c : (lts.After-put_header tie.the-claims reads.Pre reads.Post tie.handed_clauses))
    → let f = e c.before.before.before.before.before.before.before.before in
    c.put_header.new.out ≡ laid (lent f) 0 (take 8 (a f))
headed c =
    let w = c.before.before.before.before.before.before in
    let f = e w.before.before in
    c.put_header.ensures ∙ ap (λ (x : List ℕ). laid x 0 (take 8 (a f))) ((walked w).silent refl)

pub returns-then-is_err : goal.returns-then-is_err
returns-then-is_err c =
    let s = c.args in
    not-alone s.first.now s.second.now s.bytes.now (c.same_header.ensures.same c.if-not-same_header.false)
    (λ x. plays-not s.first.now c.alone.result c.alone.ensures.number (sym c.is_err.ensures.value ∙ c.if-is_err.true) x.0)

pub returns-then-is_err-2 : goal.returns-then-is_err-2
returns-then-is_err-2 c =
    let s = c.args in
    not-alone s.first.now s.second.now s.bytes.now (c.same_header.ensures.same c.if-not-same_header.false)
    (λ x. plays-not s.second.now c.alone-2.result c.alone-2.ensures.number
    (sym c.is_err-2.ensures.value ∙ c.if-is_err-2.true) x.1)

pub returns-then-bytes-lt8 : goal.returns-then-bytes-lt8
returns-then-bytes-lt8 c =
    let e = c.before.before in
    let s = c.args in
    not-merged s.first.now s.second.now s.bytes.now (one e) (pa e, pb e)
    (short (a e) (b e) (ha e) (hb e) (one e) (pa e) (pb e) (length s.bytes.now) c.if-bytes-lt8.true)

pub returns-in_err-o : goal.returns-in_err-o
returns-in_err-o c =
    let l = c.in_err-o.ensures.0 in
    let k = long c.before.before.before.before.before.before in
    absurd (omega (arith, l, k))

pub walk-requires : goal.walk-requires
walk-requires c =
    let k = c.before.before in
    let f = e k in
    walk_ready (a f) (b f) (ha f) (hb f) (one f) (pa f) (pb f) c.in_ok-o.o.tuning.order c.in_ok-o.o.advance
    c.opening_course-start.result (order-is k) (advance-is k) (begins k) (length (lent f)) c.if-bytes-lt8.false

pub returns-in_err-walk : goal.returns-in_err-walk
returns-in_err-walk c =
    let w = c.before.before.before.before.before.before in
    let f = e w.before.before in
    let r = c.in_err-walk.field-0.0 in
    let i : c.from_residual-in_err-walk.result ≡ Err r = search rules in
    let v : Walks (opening (a f)).N (opening (a f)).Na (opened (a f)) (merged_records (a f) (b f)) (lent f) false (Err r) c.walk.new.out
    = subst (λ (x : Result ℕ Refusal). Walks (opening (a f)).N (opening (a f)).Na (opened (a f))
    (merged_records (a f) (b f)) (lent f) false x c.walk.new.out) c.in_err-walk.was (walked w) in
    rw i (first_stops (a f) (b f) (ha f) (hb f) (one f) (pa f) (pb f) (lent f) c.walk.new.out r v)

pub walk-requires-2 : goal.walk-requires-2
walk-requires-2 c =
    let p = c.before.before.before.before in
    let w = c.before.before.before.before.before.before.before.before.before.before in
    let k = w.before.before in
    let f = e k in
    let l = c.if-bytes-lt8.false in
    let h = header-same (a f) (b f) (ha f) (hb f) (one f) (pa f) (pb f) (lent f) l (headed p) in
    walk_ready (a f) (b f) (ha f) (hb f) (one f) (pa f) (pb f) c.in_ok-o.o.tuning.order c.in_ok-o.o.advance
    c.opening_course-start.result (order-is k) (advance-is k) (begins k) (length c.put_header.new.out) (omega (arith, h, l))

pub returns : goal.returns
returns c =
    let p = c.before.before.before.before.before.before.before in
    let w = c.before.before.before.before.before.before.before.before.before.before.before.before.before in
    let k = w.before.before in
    let f = e k in
    let v : Walks (opening (a f)).N (opening (a f)).Na (opened (a f)) (merged_records (a f) (b f)) (lent f) false
    (Ok c.in_ok-walk.field-0) c.walk.new.out
    = subst (λ (x : Result ℕ Refusal). Walks (opening (a f)).N (opening (a f)).Na (opened (a f))
    (merged_records (a f) (b f)) (lent f) false x c.walk.new.out) c.in_ok-walk.was (walked w) in
    second_walk (a f) (b f) (ha f) (hb f) (one f) (pa f) (pb f) (lent f) c.put_header.new.out c.walk-2.new.out
    c.walk-2.result v.walked.0 (headed p)
    (walk_is (a f) (b f) (ha f) (hb f) (one f) (pa f) (pb f) c.in_ok-o.o.tuning.order c.in_ok-o.o.advance
    c.opening_course-start.result (order-is k) (advance-is k) (begins k) c.walk-2.ensures)
