-- The allpass filter of order N and its eliminator, document 01's "The allpass filter", over lists: the
-- coefficients A = A1, .. , AN and the state v = v1, .. , vN. Definitions alone. Assumes nothing.
use Rattle.std.specs.Prelude.{List, [], ◌∷◌, reverse, ℕ, ℤ, pos, ◌+ℤ◌, ◌-ℤ◌, ◌*ℤ◌, replicate}
use Rattle.integer.specs.Rounding.{clip}
use Rattle.integer.specs.Cut.{R}

-- A1·v1 + .. + AN·vN
abbrev pub dot : List ℤ → List ℤ → ℤ
dot [] v = pos 0
dot (a ∷ A) [] = pos 0
dot (a ∷ A) (x ∷ v) = a *ℤ x +ℤ dot A v

-- "The state is v1, v2, both 0 at rest"
abbrev pub rest : ℕ → List ℤ
rest N = replicate N (pos 0)

-- "w = f − R(A1·v1 + A2·v2)"
unfoldable pub inner : List ℤ → List ℤ → ℤ → ℤ
inner A v f = f -ℤ R (dot A v)

-- "Then v2 becomes v1 and v1 becomes w": w in front, and the last number dropped
abbrev pub shift : ℤ → List ℤ → List ℤ
shift w [] = []
shift w (x ∷ v) = w ∷ shift x v

unfoldable pub next : List ℤ → List ℤ → ℤ → List ℤ
next A v f = shift (inner A v f) v

-- vN, or x where the list is empty
abbrev pub final : ℤ → List ℤ → ℤ
final x [] = x
final x (y ∷ v) = final y v

-- "Order 1 puts out clip(v1 + R(A1·w)). Order 2 puts out clip(v2 + R(A2·w + A1·v1))":
-- clip(vN + R(AN·w + .. + A1·v(N−1))), where w, .. , v(N−1) is the next state
unfoldable pub out : List ℤ → List ℤ → ℤ → ℤ
out A v f = clip (final (pos 0) v +ℤ R (dot (reverse A) (next A v f)))

-- "The eliminator works out w and its state only": its state after the inputs fs, and each w on the way
abbrev pub run : List ℤ → List ℤ → List ℤ → List ℤ
run A v [] = v
run A v (f ∷ fs) = run A (next A v f) fs

abbrev pub inners : List ℤ → List ℤ → List ℤ → List ℤ
inners A v [] = []
inners A v (f ∷ fs) = inner A v f ∷ inners A (next A v f) fs
