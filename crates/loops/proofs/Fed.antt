-- Laws of what comes in: a buffer with 0 from a place on is as long, and once its last sample is rendered it is
-- the buffer itself. Assumes nothing.
use mathlib.Core.Path.{◌≡◌, refl, sym, ap}
use mathlib.Core.Bool.{Bool, true, false}
use mathlib.Core.List.{List, [], ◌∷◌, ◌++◌}
use Prim.Native.Nat.{ℕ, zero, suc, ◌+◌, ◌≤◌, ◌<◌}
use native.Mathlib.Omega.{arith}
use native.Mathlib.Numerals.{add-one}
use lib.IntN.{ℤ, pos}
use lib.ListN.{length, take, drop, get_or, set, replicate}
use Rattle.loops.specs.Fed.{cleared, fed_of, input_of}

length-cleared : (i : ℕ) (b : List ℤ) → length (cleared i b) ≡ length b
length-cleared i [] = refl
length-cleared zero (x ∷ b) = ap suc (length-cleared zero b)
length-cleared (suc i) (x ∷ b) = ap suc (length-cleared i b)

pub length-fed : (fed : Bool) (i : ℕ) (b : List ℤ) → length (fed_of fed i b) ≡ length b
length-fed true i b = refl
length-fed false i b = length-cleared i b

pub as_long : (fed : Bool) (i : ℕ) (b xs : List ℤ) → length (fed_of fed i b) ≡ length (fed_of fed 0 xs)
    → length b ≡ length xs
as_long fed i b xs e = omega (arith, length-fed fed i b, length-fed fed 0 xs)

-- the sample that comes next
get_d_cleared : (i : ℕ) (b : List ℤ) → get_or (cleared i b) i (pos 0) ≡ pos 0
get_d_cleared i [] = refl
get_d_cleared zero (x ∷ b) = refl
get_d_cleared (suc i) (x ∷ b) = get_d_cleared i b

pub input-fed : (fed : Bool) (b : List ℤ) (i : ℕ) → input_of fed b i ≡ get_or (fed_of fed i b) i (pos 0)
input-fed true b i = refl
input-fed false b i = sym (get_d_cleared i b)

pub some_in : (fed : Bool) (b : List ℤ) (i : ℕ) → fed ≡ true → input_of fed b i ≡ get_or b i (pos 0)
some_in fed b i e = rw e

pub none_in : (fed : Bool) (b : List ℤ) (i : ℕ) → fed ≡ false → input_of fed b i ≡ pos 0
none_in fed b i e = rw e

-- its output is stored in its place
set-cleared : (i : ℕ) (b : List ℤ) (y : ℤ) → i < length b → cleared (suc i) (set b i y) ≡ set (cleared i b) i y
set-cleared i [] y h = absurd (omega arith)
set-cleared zero (x ∷ b) y h = refl
set-cleared (suc i) (x ∷ b) y h = ap (λ (l : List ℤ). x ∷ l) (set-cleared i b y (omega arith))

pub set-fed : (fed : Bool) (i : ℕ) (b : List ℤ) (y : ℤ) → i < length b
    → fed_of fed (i + 1) (set b i y) ≡ set (fed_of fed i b) i y
set-fed true i b y h = refl
set-fed false i b y h = rw add-one (set-cleared i b y h)

-- ---- the start and the end
pub cleared-zeros : (b : List ℤ) → cleared 0 b ≡ replicate (length b) (pos 0)
cleared-zeros [] = refl
cleared-zeros (x ∷ b) = ap (λ (l : List ℤ). pos 0 ∷ l) (cleared-zeros b)

all-cleared : (i : ℕ) (b : List ℤ) → length b ≤ i → cleared i b ≡ b
all-cleared i [] h = refl
all-cleared zero (x ∷ b) h = absurd (omega arith)
all-cleared (suc i) (x ∷ b) h = ap (λ (l : List ℤ). x ∷ l) (all-cleared i b (omega arith))

pub all-fed : (fed : Bool) (i : ℕ) (b : List ℤ) → length b ≤ i → fed_of fed i b ≡ b
all-fed true i b h = refl
all-fed false i b h = all-cleared i b h

-- ---- parts of a buffer
cleared-drop : (i : ℕ) (b : List ℤ) → drop i (cleared i b) ≡ cleared 0 (drop i b)
cleared-drop zero b = refl
cleared-drop (suc i) [] = refl
cleared-drop (suc i) (x ∷ b) = cleared-drop i b

pub fed-drop : (fed : Bool) (i : ℕ) (b : List ℤ) → drop i (fed_of fed i b) ≡ fed_of fed 0 (drop i b)
fed-drop true i b = refl
fed-drop false i b = cleared-drop i b

cleared_join : (i n m : ℕ) (b c : List ℤ) → i ≤ length b → m ≡ i + n
    → take i (cleared i b) ++ cleared n c ≡ cleared m (take i b ++ c)
cleared_join zero n m b c h e = let k : n ≡ m = omega arith in ap (λ (k : ℕ). cleared k c) k
cleared_join (suc i) n m [] c h e = absurd (omega arith)
cleared_join (suc i) n zero (x ∷ b) c h e = absurd (omega arith)
cleared_join (suc i) n (suc m) (x ∷ b) c h e =
    ap (λ (l : List ℤ). x ∷ l) (cleared_join i n m b c (omega arith) (omega arith))

pub fed_join : (fed : Bool) (i n : ℕ) (b c : List ℤ) → i ≤ length b
    → take i (fed_of fed i b) ++ fed_of fed n c ≡ fed_of fed (i + n) (take i b ++ c)
fed_join true i n b c h = refl
fed_join false i n b c h = cleared_join i n (i + n) b c h refl

cleared-append : (i : ℕ) (b c : List ℤ) → i ≤ length b → cleared i (b ++ c) ≡ cleared i b ++ cleared 0 c
cleared-append zero [] c h = refl
cleared-append (suc i) [] c h = absurd (omega arith)
cleared-append zero (x ∷ b) c h = ap (λ (l : List ℤ). pos 0 ∷ l) (cleared-append zero b c (omega arith))
cleared-append (suc i) (x ∷ b) c h = ap (λ (l : List ℤ). x ∷ l) (cleared-append i b c (omega arith))

pub fed-append : (fed : Bool) (i : ℕ) (b c : List ℤ) → i ≤ length b
    → fed_of fed i (b ++ c) ≡ fed_of fed i b ++ fed_of fed 0 c
fed-append true i b c h = refl
fed-append false i b c h = cleared-append i b c h

cleared-take : (i : ℕ) (b : List ℤ) → take i (cleared i b) ≡ take i b
cleared-take i [] = refl
cleared-take zero (x ∷ b) = refl
cleared-take (suc i) (x ∷ b) = ap (λ (l : List ℤ). x ∷ l) (cleared-take i b)

pub fed-take : (fed : Bool) (i : ℕ) (b : List ℤ) → take i (fed_of fed i b) ≡ take i b
fed-take true i b = refl
fed-take false i b = cleared-take i b
