-- The stored form byte by byte: "a bit map byte and then only the parts whose bit stands". Document 02, L10.
-- Definitions alone.
use Rattle.std.specs.Prelude.{Bool, true, false, not, cond, ◌&&◌, List, [], ◌∷◌, ◌++◌, map, ℕ, zero, suc, ◌+◌, ◌*◌, ◌/◌, ◌%◌, eqb, ℤ, length, take, drop, get_or}
use Rattle.octets.specs.Octets.{number, bytes, bits, half, signed}
use Rattle.allpass.specs.Stored.{entries}
use Rattle.allpass.specs.declared.State.{State as Three}
use Rattle.rule.specs.Voice.{tuning}
use Rattle.rule.specs.State.{State}
use Rattle.form.specs.Numbers.{Numbers, numbers_of, refused}

-- ---- "each number is 32 bits, low byte first"
unfoldable pub encoded : List ℕ → List ℕ
encoded [] = []
encoded (n ∷ ns) = bytes 4 n ++ encoded ns

-- the first k numbers of a list of bytes
unfoldable pub decoded : ℕ → List ℕ → List ℕ
decoded zero s = []
decoded (suc k) s = number (take 4 s) ∷ decoded k (drop 4 s)

-- those that can be below zero, in two's complement
abbrev pub word : ℤ → ℕ
word = bits 4

abbrev pub value : ℕ → ℤ
value = signed (half 4)

-- ---- the eight parts
unfoldable pub parts : Numbers → List (List ℕ)
parts i =
    let t = i.tuning in
    let c = i.change in
    let p = i.pluck in
    (t.N ∷ t.L ∷ t.d ∷ [])
    ∷ (i.G ∷ [])
    ∷ (i.Na ∷ [])
    ∷ (word i.last ∷ [])
    ∷ map word (entries i.state)
    ∷ (c.kind ∷ c.tuning.N ∷ c.tuning.L ∷ c.tuning.d ∷ c.taken ∷ map word (entries c.state))
    ∷ (p.amplitude ∷ p.left ∷ p.noise ∷ [])
    ∷ map word i.line
    ∷ []

-- and back: number k of part j
abbrev pub at : List (List ℕ) → ℕ → ℕ → ℕ
at ps j k = get_or (get_or ps j []) k 0

abbrev pub three : List (List ℕ) → ℕ → ℕ → Three
three ps j k =
    record { v1 = value (at ps j k); v2 = value (at ps j (k + 1)); v3 = value (at ps j (k + 2)) }

unfoldable pub numbers_in : List (List ℕ) → Numbers
numbers_in ps = record {
  tuning = tuning (at ps 0 0) (at ps 0 1) (at ps 0 2);
  G = at ps 1 0;
  Na = at ps 2 0;
  last = value (at ps 3 0);
  state = three ps 4 0;
  change = record {
    kind = at ps 5 0;
    tuning = tuning (at ps 5 1) (at ps 5 2) (at ps 5 3);
    taken = at ps 5 4;
    state = three ps 5 5;
  };
  pluck = record { amplitude = at ps 6 0; left = at ps 6 1; noise = at ps 6 2 };
  line = map value (get_or ps 7 []);
}

-- those of Open's refusal voice
unfoldable pub refused_parts : List (List ℕ)
refused_parts = parts (numbers_of refused)

-- ---- the bit map: "Bits follow that order, lowest first"
unfoldable pub map_byte : List Bool → ℕ
map_byte [] = 0
map_byte (b ∷ bs) = cond b 1 0 + 2 * map_byte bs

unfoldable pub flags : ℕ → ℕ → List Bool
flags zero m = []
flags (suc k) m = eqb (m % 2) 1 ∷ flags k (m / 2)

-- ---- "only the parts whose bit stands", and how many bytes they have
unfoldable pub packed : List Bool → List (List ℕ) → List ℕ
packed [] ps = []
packed (b ∷ bs) [] = []
packed (true ∷ bs) (p ∷ ps) = encoded p ++ packed bs ps
packed (false ∷ bs) (p ∷ ps) = packed bs ps

unfoldable pub size : List Bool → List (List ℕ) → ℕ
size [] ps = 0
size (b ∷ bs) [] = 0
size (true ∷ bs) (p ∷ ps) = 4 * length p + size bs ps
size (false ∷ bs) (p ∷ ps) = size bs ps

-- "A part is absent when it equals that of Open's refusal voice; one present all the same is taken up": those in
-- the bytes s where the bit stands, else those of us
unfoldable pub unpacked : List Bool → List (List ℕ) → List ℕ → List (List ℕ)
unpacked [] us s = []
unpacked (b ∷ bs) [] s = []
unpacked (true ∷ bs) (u ∷ us) s = decoded (length u) s ∷ unpacked bs us (drop (4 * length u) s)
unpacked (false ∷ bs) (u ∷ us) s = u ∷ unpacked bs us s

abbrev pub same : List ℕ → List ℕ → Bool
same [] [] = true
same [] (b ∷ t) = false
same (a ∷ s) [] = false
same (a ∷ s) (b ∷ t) = eqb a b && same s t

unfoldable pub chosen : List (List ℕ) → List (List ℕ) → List Bool
chosen [] us = []
chosen (p ∷ ps) [] = []
chosen (p ∷ ps) (u ∷ us) = not (same p u) ∷ chosen ps us

-- ---- a voice in bytes, and the numbers that bytes hold
abbrev pub form : List Bool → Numbers → List ℕ
form bs i = map_byte bs ∷ packed bs (parts i)

unfoldable pub stored : State → List ℕ
stored v = form (chosen (parts (numbers_of v)) refused_parts) (numbers_of v)

abbrev pub map_of : List ℕ → List Bool
map_of s = flags 8 (get_or s 0 0)

unfoldable pub held_in : List ℕ → Numbers
held_in s = numbers_in (unpacked (map_of s) refused_parts (drop 1 s))
