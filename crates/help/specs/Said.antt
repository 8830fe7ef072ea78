-- What a lent buffer holds after a call was said in it: its row of the table behind a text, in the answer to a
-- line that is wrong, and among the others. Definitions alone. Assumes nothing.
use Rattle.std.specs.Prelude.{cond, List, [], ◌∷◌, ◌++◌, ℕ, zero, suc, ◌-◌, eqb, take, drop}
use Rattle.words.specs.Words.{FirstWord}
use Rattle.words.specs.Pieces.{ascii}
use Rattle.print.specs.Printed.{Printed, Number, Each}
use Rattle.request.specs.Table.{table, row, Named}

-- a text, and then what the call takes
abbrev pub Said : List ℕ → ℕ → List ℕ → ℕ → List ℕ → ℕ → Type 0
Said text kind = Each Printed (text ∷ row table kind ∷ [])

-- `error`, the number of the line, and what the call takes
pub data Wrong (index kind : ℕ) (before : List ℕ) (at : ℕ) (after : List ℕ) (r : ℕ) : Type 0 where
  error : {c d : List ℕ} {k m : ℕ} → Printed (ascii "error") before at c k → Number index c k d m
      → Said (ascii " ") kind d m after r → Wrong index kind before at after r

-- the same of the line s: its first word, from a up to e, names the kind
pub data Error (s : List ℕ) (index : ℕ) (before : List ℕ) (at : ℕ) (after : List ℕ) (r : ℕ) : Type 0 where
  of : {a e kind : ℕ} → FirstWord s a e → Named table (take (e - a) (drop a s)) kind
      → Wrong index kind before at after r → Error s index before at after r

-- what stands before a call in a list of them
abbrev pub behind : ℕ → List ℕ
behind kind = cond (eqb kind 1) (ascii " ") (ascii "; ")

abbrev pub Listed : ℕ → List ℕ → ℕ → List ℕ → ℕ → Type 0
Listed kind = Said (behind kind) kind

-- calls one after the other
abbrev pub Rows : List ℕ → List ℕ → ℕ → List ℕ → ℕ → Type 0
Rows = Each Listed

-- the kinds from 1 to n
abbrev pub up_to : ℕ → List ℕ
up_to zero = []
up_to (suc n) = up_to n ++ suc n ∷ []
