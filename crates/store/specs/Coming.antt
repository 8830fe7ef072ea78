-- A waiting change of the code as the numbers of its stored part. Definitions alone.
use Rattle.std.specs.Prelude.{◌≡◌, List, [], ◌∷◌, map, reverse, ℕ, ◌*◌, ◌≤◌, ℤ}
use Rattle.integer.specs.Rounding.{M}
use Rattle.samples.specs.Samples.{loudest}
use Rattle.allpass.specs.Stored.{entries}
use Rattle.line.specs.Ring.{ring}
use Rattle.form.specs.Numbers.{kind_of as kind_number, numbers_of}
use Rattle.form.specs.Parts.{word, parts}
use Rattle.voice.specs.Struct.{kind_of, state_of}
use Rattle.voice.specs.declared.Waiting.{Waiting}
use Rattle.voice.specs.declared.Waiting.TheVariants.{Idle, Prepared}
use Rattle.voice.specs.declared.Head.{Head}
use Rattle.store.specs.declared.Words.{Words}
use Rattle.store.specs.Puts.{parts_of}

abbrev pub waiting_list : Waiting → List ℕ
waiting_list Idle = 0 ∷ 0 ∷ 0 ∷ 0 ∷ 0 ∷ 0 ∷ 0 ∷ 0 ∷ []
waiting_list (Prepared k e n) =
    kind_number (kind_of k)
    ∷ e.tuning.order
    ∷ e.tuning.length
    ∷ e.tuning.delay
    ∷ n
    ∷ map word (entries e.state)

-- the numbers of its state are within 2M
abbrev pub Quiet : Waiting → Type 0
Quiet Idle = Unit {0}
Quiet (Prepared k e n) = loudest (entries e.state) ≤ 2 * M

-- w are the numbers of the head h: with those of any line, the parts of the voice
abbrev pub WordsOf : Head → Words → Type 0
WordsOf h w =
    (l : List ℤ) → parts_of w (map word (reverse (ring h.at l))) ≡ parts (numbers_of (state_of h l))
