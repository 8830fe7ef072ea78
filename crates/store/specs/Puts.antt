-- The structs of `store` in the terms of crate form, and what its parts leave in the lent slice. Definitions
-- alone.
use Rattle.std.specs.Prelude.{◌≡◌, Bool, not, cond, List, [], ◌∷◌, map, reverse, ℕ, ◌+◌, length}
use Rattle.octets.specs.Octets.{laid}
use Rattle.rule.specs.State.{silence}
use Rattle.form.specs.Parts.{encoded, packed, word, same, chosen, refused_parts}
use Rattle.store.specs.declared.Words.{Words}
use Rattle.store.specs.declared.Bits.{Bits}

-- the bytes of a part, none where its bit does not stand
abbrev pub given : Bool → List ℕ → List ℕ
given on ns = cond on (encoded ns) []

-- the numbers ns stand in the slice from the place at on, where the bit stands, and the next place is r
pub record Puts (old new : List ℕ) (at : ℕ) (on : Bool) (ns : List ℕ) (r : ℕ) : Type 0 where
  pub there : new ≡ laid old at (given on ns)
  pub next : r ≡ at + length (given on ns)

-- the seven parts of a head, and with the line's numbers all eight
abbrev pub parts_of : Words → List ℕ → List (List ℕ)
parts_of w line =
    w.tuning ∷ (w.loss ∷ []) ∷ (w.advance ∷ []) ∷ (w.last ∷ []) ∷ w.state ∷ w.change ∷ w.pluck ∷ line ∷ []

abbrev pub flags_of : Bits → List Bool
flags_of b = b.tuning ∷ b.loss ∷ b.advance ∷ b.last ∷ b.state ∷ b.change ∷ b.pluck ∷ b.line ∷ []

-- the parts ps whose bit stands, from the place at on
pub record Packs (old new : List ℕ) (at : ℕ) (bs : List Bool) (ps : List (List ℕ)) (r : ℕ) : Type 0 where
  pub there : new ≡ laid old at (packed bs ps)
  pub next : r ≡ at + length (packed bs ps)

-- the bits of the parts that differ from those of Open's refusal voice, where sounds tells it of the line
abbrev pub Chooses : Words → Bool → Bits → Type 0
Chooses w sounds b =
    (ws : List ℕ) → sounds ≡ not (same ws (map word (reverse silence))) → flags_of b ≡ chosen (parts_of w ws) refused_parts
