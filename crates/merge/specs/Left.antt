-- Two scores on the way through their merge: what is left of both, and the merged records that are to come.
-- Definitions alone.
use Rattle.std.specs.Prelude.{◌≡◌, List, [], ◌∷◌, ℕ, ◌+◌, ◌-◌, ◌≤◌, ◌<◌, length, get_or, drop}
use Rattle.record.specs.Record.{record_number, fields, rest}
use Rattle.follow.specs.Follow.{value}
use Rattle.outline.specs.Outline.{Outline, from, result, record_calls}
use Rattle.outline.specs.Struct.{outline_of}
use Rattle.timeline.specs.Merge.{merge}
use Rattle.timeline.specs.Events.{events}
use Rattle.timeline.specs.Order.{at, Ready}
use Rattle.timeline.specs.Merged.{merged_from}
use Rattle.merge.specs.declared.Pair.{Pair}

module _ (N Na : ℕ) where
  -- the bytes t hold the records rs, each of which is read and accepted, from the outline o on
  pub data Holds : Outline → List ℕ → List (List ℕ) → Type 0 where
    none : {o : Outline} {t : List ℕ} → length t ≡ 0 → Holds o t []
    more : {o : Outline} {t : List ℕ} {rs : List (List ℕ)} → 0 < length t → record_number t ≡ 0
        → value (fields t) 0 < 65536 → result Na o (record_calls N Na (fields t) o) ≡ 0
        → Holds (from Na o (record_calls N Na (fields t) o)) (rest t) rs → Holds o t (fields t ∷ rs)

  -- of the first score the bytes s are left on the outline o, x samples after its last record, of the second the
  -- bytes t on the outline u, y samples after its last; the merged records ls are to come. The moments are not in
  -- the code, which keeps x and y alone
  pub record Left (o : Outline) (x : ℕ) (s : List ℕ) (u : Outline) (y : ℕ) (t : List ℕ) (ls : List (List ℕ)) :
      Type 0 where
    pub now : ℕ
    pub last_first : ℕ
    pub last_second : ℕ
    pub rs : List (List ℕ)
    pub us : List (List ℕ)
    pub holds_first : Holds o s rs
    pub holds_second : Holds u t us
    pub since_first : 0 < length s → last_first + x ≡ now
    pub since_second : 0 < length t → last_second + y ≡ now
    pub ready_first : Ready now (events N Na last_first o rs)
    pub ready_second : Ready now (events N Na last_second u us)
    pub is : merged_from now (merge at (events N Na last_first o rs) (events N Na last_second u us)) ≡ ls

  module _ (first second : List ℕ) where
    pub record LeftAt (p : Pair) (ls : List (List ℕ)) : Type 0 where
      pub first_at : p.first.at ≤ length first
      pub second_at : p.second.at ≤ length second
      pub left : Left (outline_of p.first.course) p.first.since (drop p.first.at first)
          (outline_of p.second.course) p.second.since (drop p.second.at second) ls

    -- and a record of either is left
    pub record OnWay (p : Pair) : Type 0 where
      pub ls : List (List ℕ)
      pub left : LeftAt p ls
      pub some : length second ≤ p.second.at → p.first.at < length first

    -- how many bytes are left of both
    abbrev pub bytes_left : Pair → ℕ
    bytes_left p = length first - p.first.at + (length second - p.second.at)

    -- q was the first of ls, and the pair p behind it has the others to come
    pub record Took (ls : List (List ℕ)) (before p : Pair) (q : List ℕ) : Type 0 where
      pub rest_of : List (List ℕ)
      pub is : ls ≡ q ∷ rest_of
      pub left : LeftAt p rest_of
      pub small : get_or q 1 0 < 256
      pub less : bytes_left p < bytes_left before
