-- L9 of calls that a caller makes one after the other: the chain of specs/Chain.antt, which changes instantly,
-- and the same calls with the change announced a sample before. Their rings begin at different places.
-- A statement alone: proofs/Heard.antt has it from crate list's `chains`.
use Rattle.std.specs.Prelude.{◌≡◌, List, [], ◌∷◌, ◌++◌, ℤ, pos, negsuc, replicate}
use Rattle.rule.specs.Calls.{Call}
use Rattle.rule.specs.State.{fresh, puts, numbers, counts}
use Rattle.rule.specs.Live.{without, announcing, Ahead}
use Rattle.voice.specs.declared.Head.{Head}
use Rattle.voice.specs.Struct.{state_of}
use Rattle.list.specs.Chain.{Chained}
use Rattle.instances.specs.Chain as C
use Rattle.instances.specs.Chain.{o, t, pre, mid, post, filter, head}

abbrev pub announced : List Call
announced = announcing o pre t mid post

-- the head that they leave, with the next sample to go to place 0
abbrev pub end : Head
end = head (filter 2049 (pos 21831) (pos 666549)) 60000 (negsuc 277962) 0

abbrev pub line : List ℤ
line = replicate 2108 (pos 0) ++ (pos 1000000 ∷ negsuc 499999 ∷ pos 499992 ∷ pos 330522 ∷ [])

pub record Hearing : Type 0 where
  pub ahead : Ahead o pre t mid
  pub chained :
      Chained o announced (numbers (fresh o) announced) (counts (fresh o) announced) (puts (fresh o) announced) end
      line
  pub samples : puts (fresh o) announced ≡ C.samples
  pub voices : state_of end line ≡ state_of C.end C.line
  -- but for the change's own, called second here and fourth there
  pub codes : without 1 (numbers (fresh o) announced) ≡ 0 ∷ 0 ∷ 0 ∷ 0 ∷ []
  pub runs : without 1 (counts (fresh o) announced) ≡ 0 ∷ 0 ∷ 0 ∷ 0 ∷ []
