-- What each call takes, as the console says it: the name that a line starts with is the first word of a row.
-- Definitions alone. Assumes nothing.
use Rattle.std.specs.Prelude.{◌≡◌, List, ◌++◌, ℕ, ◌-◌, ◌≤◌, ◌<◌}
use Rattle.words.specs.Pieces.{ascii, cut, piece}

-- a row for each kind, from 1 on; the last two are said of a name that no row has, and of a line that is too long
abbrev pub table : List ℕ
table =
    ascii "open takes N L D G NA\n"
    ++ ascii "loss takes G\n"
    ++ ascii "pluck takes A COUNT SEED\n"
    ++ ascii "announce takes N L D\n"
    ++ ascii "instant takes N L D\n"
    ++ ascii "ask takes N L D\n"
    ++ ascii "commit takes nothing\n"
    ++ ascii "withdraw takes nothing\n"
    ++ ascii "block takes OUT X1 X2 .. (at most 4096 each)\n"
    ++ ascii "coefficients takes N D\n"
    ++ ascii "length takes N D THRESHOLD\n"
    ++ ascii "note takes N RATE M\n"
    ++ ascii "draw takes STATE\n"
    ++ ascii "record takes B1 B2 ..\n"
    ++ ascii "run takes OUT B1 B2 .. (OUT at most 16384)\n"
    ++ ascii "state takes nothing\n"
    ++ ascii "line takes K (at most 2112)\n"
    ++ ascii "wavwrite takes RATE ROOM X1 X2 .. (ROOM at most 16384, X 4096)\n"
    ++ ascii "wavread takes ROOM B1 B2 .. (ROOM at most 4096)\n"
    ++ ascii "gather takes START B1 B2 ..\n"
    ++ ascii "least takes N D WANTED\n"
    ++ ascii "junction takes LEFT RIGHT D NA\n"
    ++ ascii "move takes D\n"
    ++ ascii "tube takes A B\n"
    ++ ascii "store takes ROOM (at most 16384)\n"
    ++ ascii "load takes B1 B2 ..\n"
    ++ ascii "panel takes B1 B2 ..\n"
    ++ ascii "merge takes ROOM B1 .. / C1 .. (ROOM at most 32768)\n"
    ++ ascii "string takes K CALL .. (a call of a voice but block)\n"
    ++ ascii "mix takes OUT X1 X2 .. (at most 4096 each)\n"
    ++ ascii "help takes nothing\n"
    ++ ascii "no call has this name: help lists them\n"
    ++ ascii "a line has at most 1048576 bytes\n"

abbrev pub row : List ℕ → ℕ → List ℕ
row t kind = piece 10 (kind - 1) t

abbrev pub name : List ℕ → ℕ → List ℕ
name t kind = cut 32 (row t kind)

-- the kind that a word names by the rows of t: the first whose name it is, and 32 where it is none of the first 31
pub record Named (t w : List ℕ) (kind : ℕ) : Type 0 where
  pub least : 1 ≤ kind
  pub most : kind ≤ 32
  pub here : kind < 32 → w ≡ name t kind
  pub none : (k : ℕ) → 1 ≤ k → k < kind → w ≡ name t k → ⊥
