-- What the parts of one turn of a merge need and return. Definitions alone.
use Rattle.std.specs.Prelude.{◌≡◌, List, ℕ, ◌+◌, ◌-◌, ◌≤◌, ◌<◌, length, drop}
use Rattle.record.specs.Record.{fields, rest}
use Rattle.follow.specs.Follow.{value}
use Rattle.outline.specs.Outline.{from, result, record_calls}
use Rattle.outline.specs.Struct.{outline_of}
use Rattle.timeline.specs.Events.{event}
use Rattle.timeline.specs.Merged.{merge_record}
use Rattle.merge.specs.declared.Choice.{Choice}
use Rattle.merge.specs.declared.Choice.TheVariants.{First, Second}
use Rattle.merge.specs.declared.Side.{Side}
use Rattle.merge.specs.declared.Pair.{Pair}

-- the next record of a score, and the samples that it still waits
abbrev pub next : List ℕ → Side → List ℕ
next score s = fields (drop s.at score)

abbrev pub wait_left : List ℕ → Side → ℕ
wait_left score s = value (next score s) 0 - s.since

pub record Next (score : List ℕ) (s : Side) : Type 0 where
  pub within : s.at ≤ length score
  pub early : s.since ≤ value (next score s) 0

module _ (first second : List ℕ) (p : Pair) where
  pub record Choosable : Type 0 where
    pub some : length second ≤ p.second.at → p.first.at < length first
    pub first_next : p.first.at < length first → Next first p.first
    pub second_next : p.second.at < length second → Next second p.second

  -- "At equal moments the first score's records come first"
  abbrev pub Chosen : Choice → Type 0
  Chosen (First wait) =
      (p.first.at < length first)
      × (wait ≡ wait_left first p.first)
      × (p.second.at < length second → wait ≤ wait_left second p.second)
  Chosen (Second wait) =
      (p.second.at < length second)
      × (wait ≡ wait_left second p.second)
      × (p.first.at < length first → wait < wait_left first p.first)

-- r is the score s behind its next record, whose merged record after a wait is q
pub record Steps (N Na : ℕ) (score : List ℕ) (s : Side) (wait : ℕ) (r : Side) (q : List ℕ) : Type 0 where
  pub record_is : (m : ℕ) → q ≡ merge_record wait (event m (next score s) (outline_of s.course))
  pub within : r.at ≤ length score
  pub rest_is : drop r.at score ≡ rest (drop s.at score)
  pub since_is : r.since ≡ 0
  pub course_is :
      let o = outline_of s.course in
      result Na o (record_calls N Na (next score s) o) ≡ 0
      → outline_of r.course ≡ from Na o (record_calls N Na (next score s) o)

-- r is the score s so many samples later
pub record Later (score : List ℕ) (s : Side) (wait : ℕ) (r : Side) : Type 0 where
  pub at_is : r.at ≡ s.at
  pub course_is : r.course ≡ s.course
  pub since_is : s.at < length score → r.since ≡ s.since + wait
