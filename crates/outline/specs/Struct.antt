-- The outline that the code's struct stands for, and what the routines return. Definitions alone.
use Rattle.std.specs.Prelude.{◌≡◌, cond, List, ℕ, zero, suc, eqb, length, Result, Ok, Err}
use Rattle.std.proofs.Math.Option.{Option, none, some}
use Rattle.refusal.specs.declared.Refusal.{Refusal}
use Rattle.refusal.specs.Numbers.{number_of}
use Rattle.refusal.specs.Limits.{Between}
use Rattle.refusal.specs.Orders.{orders}
use Rattle.follow.specs.Follow.{value}
use Rattle.score.specs.Run.{Outcome}
use Rattle.outline.specs.declared.Span.{Span}
use Rattle.outline.specs.declared.Course.{Course}
use Rattle.outline.specs.declared.Effect.{Effect}
use Rattle.outline.specs.declared.Stopped.{Stopped}
use Rattle.outline.specs.Outline.{Ahead, Outline, in_force, passed, from, result, length_to, delay_to}
use Rattle.outline.specs.Outline.{change_calls, act_calls, record_calls, records}

abbrev pub ahead_of : ℕ → ℕ → ℕ → Option Ahead
ahead_of L d zero = none
ahead_of L d (suc n) = some (record { L = L; d = d; left = suc n })

unfoldable pub outline_of : Course → Outline
outline_of c = record {
  L = c.span.length;
  d = c.span.delay;
  ahead = ahead_of c.next.length c.next.delay c.left;
}

abbrev pub Order : ℕ → Type 0
Order N = Between 1 N orders

-- x is L and d to which the record r changes on the outline o
pub record Asks (o : Outline) (r : List ℕ) (x : Span) : Type 0 where
  pub length_is : x.length ≡ length_to r o
  pub delay_is : x.delay ≡ delay_to r o

-- the outline o after a change to L and d that is accepted: at once by the bit i, and where the advance is 0
abbrev pub after_change : ℕ → Outline → ℕ → ℕ → ℕ → Outline
after_change Na o L d i =
    cond (eqb i 0)
    (cond (eqb 0 Na) (in_force L d)
    (record { L = o.L; d = o.d; ahead = some (record { L = L; d = d; left = Na }) }))
    (in_force L d)

-- x is refused by n, or is the course that is the outline w where n is 0
abbrev pub Comes : ℕ → Outline → Result Course Refusal → Type 0
Comes n w (Ok c) = (0 ≡ n) × (outline_of c ≡ w)
Comes n w (Err r) = number_of r ≡ n

module _ (N Na : ℕ) (o : Outline) (r : List ℕ) where
  -- of the change of r alone
  abbrev pub Changes : Result Course Refusal → Type 0
  Changes = Comes (result Na o (change_calls N r o)) (from Na o (change_calls N r o))

  -- of what r sets after its wait
  abbrev pub Acts : Result Course Refusal → Type 0
  Acts = Comes (result Na o (act_calls N Na r o)) (from Na o (act_calls N Na r o))

  -- of the whole record: its L and d are those after its own wait
  pub record Follows (x : Effect) : Type 0 where
    pub comes : Comes (result Na o (record_calls N Na r o)) (from Na o (record_calls N Na r o)) x.course
    pub asks : Asks (passed (value r 0) o) r x.span

-- how a run ends: its number and its place
pub record RunEnd : Type 0 where
  pub refusal : ℕ
  pub place : ℕ

-- one that is not refused has the place behind its last record
abbrev pub ended : Result ℕ Stopped → RunEnd
ended (Ok n) = record { refusal = 0; place = n }
ended (Err s) = record { refusal = number_of s.refusal; place = s.place }

-- e is the end of the outcome x
pub record EndsAs (x : Outcome) (e : RunEnd) : Type 0 where
  pub number : e.refusal ≡ x.number
  pub place : e.place ≡ x.place

-- of the records in the bytes s
abbrev pub PlaysAll : ℕ → ℕ → Outline → List ℕ → RunEnd → Type 0
PlaysAll N Na o s e = EndsAs (records N Na (length s) o s 0) e
