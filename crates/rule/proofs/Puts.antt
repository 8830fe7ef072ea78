-- What a call puts out: nothing where it takes no input, and of a block as many samples as it takes; and what
-- two lists of calls leave and put out, one after the other. Assumes nothing.
use mathlib.Core.Path.{◌≡◌, refl, sym, ap, ◌∙◌}
use mathlib.Core.Bool.{Bool, true, false, cond}
use mathlib.Core.List.{List, [], ◌∷◌, ◌++◌, append_assoc}
use Prim.Native.Nat.{suc}
use lib.Dec.{eqb}
use lib.IntN.{ℤ}
use lib.ListN.{length}
use Rattle.rule.specs.Calls.{Call, number, inputs}
use Rattle.rule.specs.State.{State, step, told, block_out, call, put, from, puts}

pub put-none : (v : State) (c : Call) → inputs c ≡ [] → put v c ≡ []
unfolding put
put-none v c e = go (eqb (number v.voice c) 0)
  where
    go : (b : Bool) → cond b (block_out (told v c) (inputs c)) [] ≡ []
    go true = ap (λ (xs : List ℤ). block_out (told v c) xs) e
    go false = refl

pub length-out : (v : State) (xs : List ℤ) → length (block_out v xs) ≡ length xs
length-out v [] = refl
length-out v (x ∷ xs) = ap suc (length-out (step v x) xs)

-- ---- calls one after the other
pub from-append : (v : State) (cs ds : List Call) → from v (cs ++ ds) ≡ from (from v cs) ds
from-append v [] ds = refl
from-append v (c ∷ cs) ds = from-append (call v c) cs ds

pub puts-append : (v : State) (cs ds : List Call) → puts v (cs ++ ds) ≡ puts v cs ++ puts (from v cs) ds
puts-append v [] ds = refl
puts-append v (c ∷ cs) ds =
    ap (λ (ys : List ℤ). put v c ++ ys) (puts-append (call v c) cs ds)
    ∙ sym (append_assoc (put v c) (puts (call v c) cs) (puts (from (call v c) cs) ds))
