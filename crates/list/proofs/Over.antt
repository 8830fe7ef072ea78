-- A slice whose front is written over: more written behind it, at once or one number at a time.
-- Assumes nothing.
use mathlib.Core.Path.{◌≡◌, refl, sym, ap, ap₂, ◌∙◌}
use mathlib.Core.List.{List, [], ◌∷◌, ◌++◌, append_assoc}
use Prim.Native.Nat.{ℕ, suc, ◌+◌, ◌≤◌, ◌<◌}
use native.Mathlib.Omega.{arith}
use lib.ListN.{length, take, drop, set, length-append, length-drop}
use lib.Seq.{take_at, drop_at, drop-drop, set_split}
use Rattle.samples.specs.Samples.{over}

module _ {X : Type 0} (w before now : List X) (e : now ≡ over w before) where
  front : take (length w) now ≡ w
  front = ap (λ (l : List X). take (length w) l) e ∙ take_at w (drop (length w) before) (length w) refl

  pub behind : drop (length w) now ≡ drop (length w) before
  behind = ap (λ (l : List X). drop (length w) l) e ∙ drop_at w (drop (length w) before) (length w) refl

  pub over-more : (p : List X) → take (length w) now ++ over p (drop (length w) now) ≡ over (w ++ p) before
  over-more p =
      ap₂ (λ (a b : List X). a ++ over p b) front behind
      ∙ ap (λ (l : List X). w ++ (p ++ l)) (drop-drop (length p) (length w) before)
      ∙ sym (append_assoc w p (drop (length w + length p) before))
      ∙ ap (λ (n : ℕ). (w ++ p) ++ drop n before) (sym (length-append w p))

  pub over-long : length w ≤ length before → length now ≡ length before
  over-long h =
      ap length e
      ∙ length-append w (drop (length w) before)
      ∙ omega (arith, length-drop (length w) before)

  pub over-set : (a : X) → length w < length now → set now (length w) a ≡ over (w ++ (a ∷ [])) before
  over-set a h =
      let i : length w + 1 ≡ suc (length w) = omega arith in
      set_split now (length w) a h
      ∙ ap (λ (n : ℕ). take (length w) now ++ (a ∷ drop n now)) (sym i)
      ∙ ap (λ (l : List X). take (length w) now ++ (a ∷ l)) (sym (drop-drop 1 (length w) now))
      ∙ over-more (a ∷ [])
