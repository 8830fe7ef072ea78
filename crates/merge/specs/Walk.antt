-- What the walk through both scores returns and leaves. Definitions alone.
use Rattle.std.specs.Prelude.{◌≡◌, Bool, true, false, List, ℕ, ◌+◌, ◌≤◌, ◌<◌, length, take, Result, Ok, Err}
use Rattle.refusal.specs.declared.Refusal.{Refusal}
use Rattle.refusal.specs.Limits.{refusal}
use Rattle.refusal.specs.Numbers.{number_of, code_of}
use Rattle.open.specs.declared.Opening.{Opening}
use Rattle.open.specs.Opened.{opening_of}
use Rattle.score.specs.Run.{opening, header_limits}
use Rattle.octets.specs.Octets.{laid}
use Rattle.outline.specs.Outline.{Outline}
use Rattle.outline.specs.declared.Course.{Course}
use Rattle.timeline.specs.Merge.{merge}
use Rattle.timeline.specs.Events.{events, list_of}
use Rattle.timeline.specs.Order.{at}
use Rattle.timeline.specs.Ends.{Ends}
use Rattle.timeline.specs.Merged.{merged_from, record_bytes, all_bytes}
use Rattle.merge.specs.declared.Side.{Side}
use Rattle.merge.specs.declared.Pair.{Pair}

-- "a missing byte being unlike any present one": two equal scores shorter than 8 bytes have one header
pub record SameHeader (a b : List ℕ) (r : Bool) : Type 0 where
  pub same : r ≡ true → take 8 a ≡ take 8 b
  pub differ : r ≡ false → take 8 a ≡ take 8 b → ⊥

pub record AnyLeft (first second : List ℕ) (p : Pair) (r : Bool) : Type 0 where
  pub some : r ≡ true → length second ≤ p.second.at → p.first.at < length first
  pub none : r ≡ false → (length first ≤ p.first.at) × (length second ≤ p.second.at)

-- the bytes of a record, put from a place on where the walk writes
pub record Puts (before : List ℕ) (at : ℕ) (q : List ℕ) (writes : Bool) (after : List ℕ) : Type 0 where
  pub wrote : writes ≡ true → after ≡ laid before at (record_bytes q)
  pub silent : writes ≡ false → after ≡ before
  pub same : length after ≡ length before

abbrev pub side : Course → Side
side c = record { at = 8; since = 0; course = c }

abbrev pub begin : Course → Pair
begin c = record { first = side c; second = side c }

-- the merged records of two scores that start on the outline o
abbrev pub all_of : ℕ → ℕ → Outline → List ℕ → List ℕ → List (List ℕ)
all_of N Na o s t = merged_from 0 (merge at (events N Na 0 o (list_of s)) (events N Na 0 o (list_of t)))

-- each of the records rs is accepted, and with a header they fit so many bytes
pub record Fitting (N Na : ℕ) (o : Outline) (rs : List (List ℕ)) (room : ℕ) : Type 0 where
  pub ends : Ends N Na o rs
  pub fits : 8 + length (all_bytes rs) ≤ room

-- the length that a merge returns: "length 0" where it is refused
abbrev pub length_of : Result ℕ Refusal → ℕ
length_of (Ok n) = n
length_of (Err r) = 0

-- what a walk returns of those records: their bytes behind the header, where the walk writes
abbrev pub Walked : ℕ → ℕ → Outline → List (List ℕ) → List ℕ → Result ℕ Refusal → Type 0
Walked N Na o rs before (Ok n) = Fitting N Na o rs (length before) × (n ≡ 8 + length (all_bytes rs))
Walked N Na o rs before (Err r) = (Fitting N Na o rs (length before) → ⊥) × (number_of r ≡ 30)

pub record Walks (N Na : ℕ) (o : Outline) (rs : List (List ℕ)) (before : List ℕ) (writes : Bool)
    (r : Result ℕ Refusal) (after : List ℕ) : Type 0 where
  pub walked : Walked N Na o rs before r
  pub silent : writes ≡ false → after ≡ before
  pub written : writes ≡ true → code_of r ≡ 0 → after ≡ laid before 8 (all_bytes rs)

-- what the header of a score opens: 14, then the numbers of Open
abbrev pub Opens : List ℕ → Result Opening Refusal → Type 0
Opens s (Ok o) = (0 ≡ refusal (header_limits s)) × (8 ≤ length s) × (opening_of o ≡ opening s)
Opens s (Err r) = number_of r ≡ refusal (header_limits s)
