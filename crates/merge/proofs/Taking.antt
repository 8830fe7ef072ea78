-- A turn of a merge, in the code's structs.
use mathlib.Core.Path.{◌≡◌, sym, ap, subst, ◌∙◌}
use mathlib.Core.List.{List, ◌∷◌}
use Prim.Native.Nat.{ℕ, ◌+◌, ◌-◌, ◌≤◌, ◌<◌}
use native.Mathlib.Omega.{arith}
use lib.ListN.{length, get_or, drop, length-drop}
use Rattle.record.specs.Record.{record_number, fields, rest}
use Rattle.outline.specs.Struct.{outline_of}
use Rattle.outline.proofs.Playing.{shorter}
use Rattle.timeline.specs.Events.{Event, event}
use Rattle.timeline.specs.Merged.{merge_record}
use Rattle.merge.specs.declared.Side.{Side}
use Rattle.merge.specs.declared.Pair.{Pair}
use Rattle.merge.specs.Left.{LeftAt, OnWay, Took}
use Rattle.merge.specs.Turn.{next, wait_left, Next, Choosable, Steps, Later}
use Rattle.merge.proofs.Turns.{Whole, whole, early, first_turn, second_turn}

-- a record is left where the place is before the end
pub some_left : (s : List ℕ) (at : ℕ) → at < length s → 0 < length (drop at s)
some_left s at h = omega (arith, length-drop at s)

is-left : (s : List ℕ) (at : ℕ) → 0 < length (drop at s) → at < length s
is-left s at h = omega (arith, length-drop at s)

-- a bit map is a byte
map-small : (w : ℕ) (e : Event) → get_or (merge_record w e) 1 0 < 256
unfolding merge_record
map-small w e = omega arith

-- and a record takes a byte at least
step_less : (s : List ℕ) (at next : ℕ) → at < length s → record_number (drop at s) ≡ 0 → drop next s ≡ rest (drop at s)
    → length s - next < length s - at
step_less s at next k e i =
    omega (
      arith,
      shorter (drop at s) (some_left s at k) e,
      ap length i,
      length-drop at s,
      length-drop next s,
    )

module _ (N Na : ℕ) (first second : List ℕ) (p : Pair) {ls : List (List ℕ)} (h : LeftAt N Na first second p ls) where
  first-early : p.first.at < length first → Next first p.first
  first-early k = record {
    within = h.first_at;
    early =
        early N Na h.left.last_first p.first.since h.left.now h.left.holds_first
        (some_left first p.first.at k) h.left.since_first h.left.ready_first;
  }

  second-early : p.second.at < length second → Next second p.second
  second-early k = record {
    within = h.second_at;
    early =
        early N Na h.left.last_second p.second.since h.left.now h.left.holds_second
        (some_left second p.second.at k) h.left.since_second h.left.ready_second;
  }

  pub first-whole : p.first.at < length first → Whole N Na (outline_of p.first.course) (drop p.first.at first)
  first-whole k = whole N Na h.left.holds_first (some_left first p.first.at k)

  pub second-whole : p.second.at < length second
      → Whole N Na (outline_of p.second.course) (drop p.second.at second)
  second-whole k = whole N Na h.left.holds_second (some_left second p.second.at k)

  pub first_fits : {w : ℕ} → p.first.at < length first → w ≤ wait_left first p.first → p.first.since + w < 65536
  first_fits k l = omega (arith, (first-early k).early, (first-whole k).small)

  pub second_fits : {w : ℕ} → p.second.at < length second → w ≤ wait_left second p.second
      → p.second.since + w < 65536
  second_fits k l = omega (arith, (second-early k).early, (second-whole k).small)

  -- ---- the first score's record, and the second's
  pub took-first : {w : ℕ} (x y : Side) (q : List ℕ) → p.first.at < length first → w ≡ wait_left first p.first
      → (p.second.at < length second → w ≤ wait_left second p.second)
      → Steps N Na first p.first w x q → Later second p.second w y
      → Took N Na first second ls p (record { first = x; second = y }) q
  took-first {w} x y q k e l a b =
      let o = outline_of p.first.course in
      let u = outline_of p.second.course in
      let s = drop p.first.at first in
      let t = drop p.second.at second in
      let f = first_turn N Na o p.first.since s u p.second.since y.since t h.left
      (some_left first p.first.at k)
      (λ g. let z = l (is-left second p.second.at g) in omega (arith, z, e))
      (λ g. let z = b.since_is (is-left second p.second.at g) in omega (arith, z, e)) in
      record {
        rest_of = f.rest_of;
        is =
            f.is
            ∙ ap (λ (r : List ℕ). r ∷ f.rest_of)
            (ap (λ (n : ℕ). merge_record n (event f.moment (fields s) o)) (sym e) ∙ sym (a.record_is f.moment));
        left = record {
          first_at = a.within;
          second_at = omega (arith, b.at_is, h.second_at);
          left =
              rw (a.course_is (first-whole k).accepted, a.since_is, a.rest_is, b.course_is, b.at_is) f.left;
        };
        small = subst (λ (r : List ℕ). get_or r 1 0 < 256) (sym (a.record_is 0)) (map-small w (event 0 (fields s) o));
        less =
            omega (arith, b.at_is, step_less first p.first.at x.at k (first-whole k).number a.rest_is);
      }

  pub took-second : {w : ℕ} (x y : Side) (q : List ℕ) → p.second.at < length second
      → w ≡ wait_left second p.second → (p.first.at < length first → w < wait_left first p.first)
      → Later first p.first w x → Steps N Na second p.second w y q
      → Took N Na first second ls p (record { first = x; second = y }) q
  took-second {w} x y q k e l b a =
      let o = outline_of p.first.course in
      let u = outline_of p.second.course in
      let s = drop p.first.at first in
      let t = drop p.second.at second in
      let f = second_turn N Na o p.first.since x.since s u p.second.since t h.left
      (some_left second p.second.at k)
      (λ g. let z = l (is-left first p.first.at g) in omega (arith, z, e))
      (λ g. let z = b.since_is (is-left first p.first.at g) in omega (arith, z, e)) in
      record {
        rest_of = f.rest_of;
        is =
            f.is
            ∙ ap (λ (r : List ℕ). r ∷ f.rest_of)
            (ap (λ (n : ℕ). merge_record n (event f.moment (fields t) u)) (sym e) ∙ sym (a.record_is f.moment));
        left = record {
          first_at = omega (arith, b.at_is, h.first_at);
          second_at = a.within;
          left =
              rw (a.course_is (second-whole k).accepted, a.since_is, a.rest_is, b.course_is, b.at_is) f.left;
        };
        small = subst (λ (r : List ℕ). get_or r 1 0 < 256) (sym (a.record_is 0)) (map-small w (event 0 (fields t) u));
        less =
            omega (arith, b.at_is, step_less second p.second.at y.at k (second-whole k).number a.rest_is);
      }

pub choosable : (N Na : ℕ) (first second : List ℕ) (p : Pair) → OnWay N Na first second p → Choosable first second p
choosable N Na first second p h = record {
  some = h.some;
  first_next = first-early N Na first second p h.left;
  second_next = second-early N Na first second p h.left;
}
