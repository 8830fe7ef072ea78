-- `merge::turn::step` meets its contract: the record is read, followed, and written out.
use Rattle.std.specs.Prelude.{Result, Ok, Err}
use Rattle.std.specs.Result.{result_unwrap_or}
use mathlib.Core.Path.{◌≡◌, refl, ap, ap₂, subst, ◌∙◌}
use mathlib.Core.List.{List}
use Prim.Native.Nat.{ℕ, ◌+◌, ◌-◌}
use native.Mathlib.Omega.{arith}
use borrow.Author.Rules.{part_to_end}
use lib.ListN.{length, drop}
use Rattle.refusal.specs.declared.Refusal.{Refusal}
use Rattle.refusal.proofs.Numbers.{refused-above}
use Rattle.record.specs.Record.{fields, rest}
use Rattle.follow.specs.Follow.{value}
use Rattle.outline.specs.declared.Course.{Course}
use Rattle.outline.specs.Outline.{Outline}
use Rattle.outline.specs.Struct.{outline_of, Comes, Follows}
use Rattle.timeline.specs.Merged.{merge_record}
use Rattle.merge.specs.Turn.{next}
use Rattle.merge.proofs.Tail.{shorter, tail_at}
use Rattle.merge.proofs.turn.step.Goals as goal

-- the course of an accepted record, whatever stands for that of a refused one
accepted : {n : ℕ} {w : Outline} (x : Result Course Refusal) (d : Course) → Comes n w x → n ≡ 0
    → outline_of (result_unwrap_or x d) ≡ w
accepted (Ok c) d h e = h.1
accepted (Err r) d h e = absurd (refused-above r (h ∙ e))

pub overflow_sub-result : goal.overflow_sub-result
overflow_sub-result c =
    let s = c.args in
    let e = c.read_record-rest.ensures.result_value ∙ ap (λ (l : List ℕ). rest l) (part_to_end s.score.now s.s.at) in
    omega (arith, ap length e, shorter s.score.now s.s.at)

pub returns : goal.returns
returns c =
    let s = c.args in
    let score = s.score.now in
    let at = s.s.at in
    let o = outline_of s.s.course in
    let own = next score s.s in
    let read = c.read_record-rest.ensures.fields_after ∙ ap (λ (l : List ℕ). fields l) (part_to_end score at) in
    let e = c.read_record-rest.ensures.result_value ∙ ap (λ (l : List ℕ). rest l) (part_to_end score at) in
    let h = subst (λ (l : List ℕ). Follows s.order s.advance o l c.follow-e.result) read c.follow-e.ensures in
    record {
      record_is = λ m.
          c.merge_record.ensures (m + value own 0)
          ∙ ap (λ (l : List ℕ). merge_record s.wait (record {
            moment = m + value own 0;
            own = l;
            L = c.follow-e.result.span.length;
            d = c.follow-e.result.span.delay;
          })) read
          ∙ ap₂ (λ (L d : ℕ). merge_record s.wait (record { moment = m + value own 0; own = own; L = L; d = d }))
          h.asks.length_is h.asks.delay_is;
      within = omega arith;
      rest_is = ap (λ (l : List ℕ). drop (length score - length l) score) e ∙ tail_at score at c.requires;
      since_is = refl;
      course_is = λ z.
          ap (λ (d : Course). outline_of d) c.unwrap_or.ensures ∙ accepted c.follow-e.result.course s.s.course h.comes z;
    }
