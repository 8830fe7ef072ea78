-- Both filters of one junction, with every hypothesis met and a refused sample between: they do not differ at all
-- where the inputs before the move are 0, and by the figure where they are not.
-- Statements alone: proofs/Instance.antt has them from `Click`.
use Rattle.std.specs.Prelude.{◌≡◌, List, [], ◌∷◌, ◌≤◌, ℤ, pos, negsuc, nat_abs, ◌-ℤ◌, get_or}
use Rattle.junction.specs.Junction.{Side, Two, at}
use Rattle.junction.specs.Calls.{Opening, Call, move, sample}
use Rattle.junction.specs.History.{after, new}

abbrev pub two : ℤ → ℤ → Two ℤ
two a b = record { a = a; b = b }

abbrev pub o : Opening
o = record { left = 2; right = 1; d = 3000; Na = 2 }

-- the second is refused
abbrev pub post : List Call
post =
    sample (two (pos 1000) (negsuc 1999)) ∷ sample (two (pos 5) (negsuc 8388607)) ∷ sample (two (pos 7) (pos 9))
    ∷ sample (two (pos 5) (pos 6)) ∷ []

abbrev pub pre : ℤ → ℤ → List Call
pre a b = sample (two a b) ∷ []

-- one sample, then a move, in force from the fourth input on
abbrev pub cs : ℤ → ℤ → List Call
cs a b = sample (two a b) ∷ move 5000 ∷ post

pub record Instance : Type 0 where
  pub exactly : (s : Side)
      → get_or (at s (after o (cs (pos 0) (pos 0))).filters) 3 (pos 0)
      ≡ new s 5000 (at s (after o (cs (pos 0) (pos 0))).inputs) 3
  pub nearly : (s : Side)
      → nat_abs (get_or (at s (after o (cs (pos 300) (negsuc 400))).filters) 3 (pos 0)
      -ℤ new s 5000 (at s (after o (cs (pos 300) (negsuc 400))).inputs) 3) ≤ 6291456
