-- Demand 3 and L9 of the routines, at literal words, bytes and structs, with all that the statements ask.
-- Statements alone: proofs/Routines.antt has them from the theorems of crates list and score.
use Rattle.std.specs.Prelude.{◌≡◌, true, List, [], ◌∷◌, ◌++◌, ℕ, ℤ, pos, negsuc, get_or, length, replicate}
use Rattle.thiran.specs.Coefficients.{norm}
use Rattle.allpass.specs.Bounds.{own_figure}
use Rattle.rule.specs.Voice.{Tuning, tuning, A}
use Rattle.rule.specs.Calls.{Opening, Call, block, pluck, announce}
use Rattle.rule.specs.History.{after, new}
use Rattle.rule.specs.State.{fresh, puts}
use Rattle.rule.specs.Click.{Figure}
use Rattle.rule.specs.OwnFigure.{OwnFigure}
use Rattle.list.specs.Performed.{Performed}
use Rattle.list.specs.Words.{calls, formed}
use Rattle.list.specs.Performed.{performed, output_after, numbers_after}
use Rattle.list.specs.Live.{Run, Equal}
use Rattle.rule.specs.Live.{announcing, living}
use Rattle.score.specs.Played.{Played}
use Rattle.score.specs.Run.{opening}
use Rattle.score.specs.Listed.{Listed}
use Rattle.instances.specs.Live.{two, loud, bass, between, zeros}

-- ---- `perform`: the click figure of what it leaves in the lent output
abbrev pub o : Opening
o = record { N = 2; L = 3; d = 8192; G = 60000; Na = 2 }

abbrev pub t : Tuning
t = tuning 2 2 9159

-- a block of 3, the change announced, blocks of 3 and 2
abbrev pub words : List ℕ
words = 0 ∷ 3 ∷ 3 ∷ 0 ∷ 3 ∷ 2 ∷ 2 ∷ 9159 ∷ 0 ∷ 3 ∷ 3 ∷ 0 ∷ 0 ∷ 2 ∷ 2 ∷ 0 ∷ []

abbrev pub input : List ℤ
input = pos 1000000 ∷ negsuc 1999999 ∷ pos 500000 ∷ replicate 5 (pos 0)

-- an output of a sample more than is put out, and four places for numbers
abbrev pub output : List ℤ
output = output_after o words input 4 (replicate 9 (pos 77))

pub record Performing : Type 0 where
  pub room : formed words (length input) 9 4 ≡ true
  pub left :
      output
      ≡ pos 0 ∷ pos 0 ∷ pos 0 ∷ pos 0 ∷ pos 0 ∷ negsuc 2028822 ∷ pos 197680 ∷ pos 52260 ∷ pos 77 ∷ []
  -- in force before step 5; at step 6
  pub figure : Figure output (after o (calls words input)).s t 2 5 6
  pub voice : get_or output 6 (pos 0) ≡ pos 197680
  pub filter : new t (after o (calls words input)).s 6 ≡ pos 198126
  -- by the change's own coefficients, which add up to 10,957
  pub own_figure_lem : OwnFigure 10957 output (after o (calls words input)).s t 2 5 6
  pub own_sum : norm (A t) ≡ 10957
  pub own_number : own_figure 10957 1 ≡ 3273961

-- ---- a score: a pluck, three samples, a change, five samples
abbrev pub bytes : List ℕ
bytes =
    2 ∷ 2 ∷ 3 ∷ 0 ∷ 0 ∷ 32 ∷ 96 ∷ 234 ∷ 48 ∷ 200 ∷ 0 ∷ 3 ∷ 0 ∷ 7 ∷ 3 ∷ 0 ∷ 2 ∷ 0 ∷ 199 ∷ 35 ∷ 1 ∷ 5 ∷ 0 ∷ []

abbrev pub lent : List ℤ
lent = replicate 9 (pos 77)

abbrev pub returned : Played
returned = record { refusal = 0; place = 3; written = 8 }

abbrev pub played : List ℤ
played =
    pos 0 ∷ pos 0 ∷ pos 0 ∷ pos 0 ∷ pos 0 ∷ negsuc 3438653 ∷ pos 3675566 ∷ pos 575971 ∷ pos 77 ∷ []

-- its calls
abbrev pub made : List Call
made =
    block [] 0 ∷ pluck 200 3 0 ∷ block (replicate 3 (pos 0)) 3 ∷ announce t ∷ block (replicate 5 (pos 0)) 5 ∷ []

pub record Playing : Type 0 where
  pub listed : Listed bytes lent returned played
  pub calls : listed.calls ≡ made
  -- in force before step 5; at step 7
  pub figure :
      Figure (puts (fresh (opening bytes)) made) (after (opening bytes) made).s t 2 5 7
  pub voice : get_or played 7 (pos 0) ≡ pos 575971
  pub filter : new t (after (opening bytes) made).s 7 ≡ pos 586486

-- ---- L9 of `perform`: the lists of specs/Live.antt, in words
-- a block, the change announced, a loss, a pluck, a block, a commit, a loss, two blocks
abbrev pub announced : List ℕ
announced =
    0 ∷ 3 ∷ 3 ∷ 0 ∷ 3 ∷ 3 ∷ 2 ∷ 13000 ∷ 1 ∷ 50000 ∷ 0 ∷ 0 ∷ 2 ∷ 100 ∷ 3 ∷ 7 ∷ 0 ∷ 1 ∷ 1 ∷ 0 ∷ 6 ∷ 0 ∷ 0 ∷ 0
    ∷ 1 ∷ 65536 ∷ 0 ∷ 0 ∷ 0 ∷ 1 ∷ 1 ∷ 0 ∷ 0 ∷ 4 ∷ 4 ∷ 0 ∷ []

-- the change instantly before the last block
abbrev pub instant : List ℕ
instant =
    0 ∷ 3 ∷ 3 ∷ 0 ∷ 1 ∷ 50000 ∷ 0 ∷ 0 ∷ 2 ∷ 100 ∷ 3 ∷ 7 ∷ 0 ∷ 1 ∷ 1 ∷ 0 ∷ 6 ∷ 0 ∷ 0 ∷ 0 ∷ 1 ∷ 65536 ∷ 0 ∷ 0
    ∷ 0 ∷ 1 ∷ 1 ∷ 0 ∷ 4 ∷ 3 ∷ 2 ∷ 13000 ∷ 0 ∷ 4 ∷ 4 ∷ 0 ∷ []

abbrev pub xs : List ℤ
xs =
    pos 1000000 ∷ negsuc 1999999 ∷ pos 500000 ∷ pos 0 ∷ negsuc 4 ∷ pos 0 ∷ pos 0 ∷ pos 0 ∷ pos 0 ∷ []

-- an output of a sample more than is put out, and a place more than there are calls
abbrev pub before : List ℤ
before = replicate 10 (pos 77)

abbrev pub places : List ℕ
places = replicate 10 99

-- what `perform` returns and leaves, with the words ws
abbrev pub value : List ℕ → Performed
value ws = performed two ws xs (length before) (length places)

abbrev pub out : List ℕ → List ℤ
out ws = output_after two ws xs (length places) before

abbrev pub codes : List ℕ → List ℕ
codes ws = numbers_after two ws xs (length before) places

pub record Equally : Type 0 where
  pub announces :
      Run two before places (announcing two loud bass between zeros) announced xs (value announced) (out announced)
      (codes announced)
  pub instantly :
      Run two before places (living two loud bass between zeros) instant xs (value instant) (out instant)
      (codes instant)
  pub equal :
      Equal (value announced) (value instant) (out announced) (out instant) (codes announced) (codes instant) 1 7
  pub samples :
      out instant
      ≡ pos 0 ∷ pos 0 ∷ pos 0 ∷ negsuc 46996 ∷ pos 1091785 ∷ pos 262431 ∷ negsuc 2087412 ∷ pos 531659
      ∷ negsuc 1953941 ∷ pos 77 ∷ []
  pub announced_codes : codes announced ≡ 0 ∷ 0 ∷ 0 ∷ 0 ∷ 0 ∷ 21 ∷ 4 ∷ 0 ∷ 0 ∷ 99 ∷ []
  pub instant_codes : codes instant ≡ 0 ∷ 0 ∷ 0 ∷ 0 ∷ 21 ∷ 4 ∷ 0 ∷ 0 ∷ 0 ∷ 99 ∷ []
