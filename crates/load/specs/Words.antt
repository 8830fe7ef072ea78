-- The numbers of a stored voice in the words of the code, and their limits without the line's. Definitions alone.
use Rattle.std.specs.Prelude.{◌≡◌, cond, List, ℕ, ◌+◌, ◌*◌, ◌/◌, ◌%◌, ◌≤◌, ◌<◌, eqb, ℤ, nat_abs, take, drop}
use Rattle.octets.specs.Octets.{number}
use Rattle.allpass.specs.declared.State.{State as Three}
use Rattle.rule.specs.Voice.{tuning, Pluck}
use Rattle.form.specs.Numbers.{Change, Numbers}
use Rattle.form.specs.Parts.{value}
use Rattle.form.specs.Refusals.{sizes, ahead, FilterIn, ChangeIn}
use Rattle.load.specs.declared.words.Offsets.{Offsets}
use Rattle.load.specs.declared.words.Change.{Change as ChangeWords}
use Rattle.load.specs.declared.words.Words.{Words}

-- the number of 32 bits that stands at a place where its part is there, else another
unfoldable pub read : List ℕ → ℕ → ℕ → ℕ → ℕ
read s at there other = cond (eqb there 1) (number (take 4 (drop at s))) other

-- where the parts start that a bit map m has, and whether each is there: 1 or 0
pub record Placed (m : ℕ) (p : Offsets) : Type 0 where
  pub loss : p.loss ≡ 1 + ahead sizes m 1
  pub advance : p.advance ≡ 1 + ahead sizes m 2
  pub last : p.last ≡ 1 + ahead sizes m 3
  pub state : p.state ≡ 1 + ahead sizes m 4
  pub change : p.change ≡ 1 + ahead sizes m 5
  pub pluck : p.pluck ≡ 1 + ahead sizes m 6
  pub line : p.line ≡ 1 + ahead sizes m 7
  pub end : p.end ≡ 1 + ahead sizes m 8
  pub whole : p.end ≡ p.line + 8448 * (m / 128 % 2)

-- the numbers of a waiting change that starts at a place
pub record ChangeRead (s : List ℕ) (at there : ℕ) (c : ChangeWords) : Type 0 where
  pub kind : c.kind ≡ read s at there 0
  pub order : c.tuning.order ≡ read s (at + 4) there 0
  pub length : c.tuning.length ≡ read s (at + 8) there 0
  pub delay : c.tuning.delay ≡ read s (at + 12) there 0
  pub taken : c.taken ≡ read s (at + 16) there 0
  pub v1 : c.state.a ≡ read s (at + 20) there 0
  pub v2 : c.state.b ≡ read s (at + 24) there 0
  pub v3 : c.state.c ≡ read s (at + 28) there 0

-- a state whose numbers stand in two's complement
abbrev pub three_of : ℕ → ℕ → ℕ → Three
three_of a b c = record { v1 = value a; v2 = value b; v3 = value c }

abbrev pub change_of : ChangeWords → Change
change_of c = record {
  kind = c.kind;
  tuning = tuning c.tuning.order c.tuning.length c.tuning.delay;
  taken = c.taken;
  state = three_of c.state.a c.state.b c.state.c;
}

-- the numbers of a voice: those of the words, and those of a line
abbrev pub numbers_of : Words → List ℤ → Numbers
numbers_of w l = record {
  tuning = tuning w.tuning.order w.tuning.length w.tuning.delay;
  G = w.loss;
  Na = w.advance;
  last = value w.last;
  state = three_of w.state.a w.state.b w.state.c;
  change = change_of w.change;
  pluck = record { amplitude = w.pluck.amplitude; left = w.pluck.left; noise = w.pluck.noise };
  line = l;
}

-- "samples taken (counted to Na, below it in kind 1)"
pub data TakenIn (Na : ℕ) (kind taken : ℕ) : Type 0 where
  announced : kind ≡ 1 → taken < Na → TakenIn Na kind taken
  asked : kind ≡ 2 → taken ≤ Na → TakenIn Na kind taken

-- a change of kind 1 or 2
pub record Comes (Na : ℕ) (c : ChangeWords) : Type 0 where
  pub taken : TakenIn Na c.kind c.taken
  pub filter : FilterIn (tuning c.tuning.order c.tuning.length c.tuning.delay) (three_of c.state.a c.state.b c.state.c)

-- every number of the line that starts at a place is a sample
abbrev pub LineIn : List ℕ → ℕ → Type 0
LineIn s at = (k : ℕ) → k < 2112 → nat_abs (value (read s (at + 4 * k) 1 0)) ≤ 8388607

-- "no steps left, is all zeros"
pub record PluckIn (p : Pluck) : Type 0 where
  pub amplitude : p.amplitude ≤ 255
  pub left : p.left ≤ 2048
  pub over : p.left ≡ 0 → (p.amplitude ≡ 0) × (p.noise ≡ 0)

-- all limits but the line's
pub record HeadIn (w : Words) : Type 0 where
  pub filter : FilterIn (tuning w.tuning.order w.tuning.length w.tuning.delay) (three_of w.state.a w.state.b w.state.c)
  pub loss : w.loss ≤ 65535
  pub advance : w.advance ≤ 64
  pub last : nat_abs (value w.last) ≤ 8388607
  pub change : ChangeIn w.advance (change_of w.change)
  pub pluck : PluckIn (record { amplitude = w.pluck.amplitude; left = w.pluck.left; noise = w.pluck.noise })
