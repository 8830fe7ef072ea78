-- The invariant of a voice in lent memory from outside: the limits of its head's parts, and each number of
-- its line a sample. proofs/Limits.antt proves `Voices`; `check` returns 1 if and only if it holds.
use Rattle.std.specs.Prelude.{◌↔◌, List, ℕ, ◌≤◌, ℤ, pos, nat_abs, get_or}
use Rattle.voice.specs.declared.Head.{Head}
use Rattle.voice.specs.Valid.{Valid}
use Rattle.packed.specs.Limits.{Limits}

abbrev pub Voices : Type 0
Voices = (h : Head) (l : List ℤ)
    → (Limits h × ((i : ℕ) → nat_abs (get_or l i (pos 0)) ≤ 8388607)) ↔ Valid h l
