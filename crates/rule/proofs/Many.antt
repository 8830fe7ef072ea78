-- How many samples a list of calls puts out is the list's own: no voice has a say in it.
-- Assumes nothing.
use mathlib.Core.Path.{◌≡◌, refl, sym, ap, ap₂, ◌∙◌}
use mathlib.Core.Bool.{Bool, true, false, cond}
use mathlib.Core.List.{List, [], ◌∷◌, ◌++◌}
use Prim.Native.Nat.{ℕ, ◌+◌}
use lib.Dec.{eqb}
use lib.ListN.{length, length-append}
use Rattle.rule.specs.Calls.{Call, block, loss, pluck, prepare, instant, commit, withdraw}
use Rattle.rule.specs.Calls.{number, done, inputs}
use Rattle.rule.specs.State.{State, block_out, call, put, puts}
use Rattle.rule.specs.Live.{AsMany}
use Rattle.rule.proofs.Puts.{put-none, length-out}

none-put : (c : Call) → inputs c ≡ [] → (v x : State) → length (put v c) ≡ length (put x c)
none-put c e v x = ap length (put-none v c e ∙ sym (put-none x c e))

put-many : (c : Call) (v x : State) → length (put v c) ≡ length (put x c)
unfolding put number done
put-many (block xs n) v x = go (eqb (number v.voice (block xs n)) 0)
  where
    go : (b : Bool) → length (cond b (block_out v xs) []) ≡ length (cond b (block_out x xs) [])
    go true = length-out v xs ∙ sym (length-out x xs)
    go false = refl
put-many (loss G) v x = none-put (loss G) refl v x
put-many (pluck a m s) v x = none-put (pluck a m s) refl v x
put-many (prepare i t) v x = none-put (prepare i t) refl v x
put-many (instant t) v x = none-put (instant t) refl v x
put-many commit v x = none-put commit refl v x
put-many withdraw v x = none-put withdraw refl v x

pub as_many : AsMany
as_many [] v x = refl
as_many (c ∷ cs) v x =
    length-append (put v c) (puts (call v c) cs)
    ∙ ap₂ (λ (m n : ℕ). m + n) (put-many c v x) (as_many cs (call v c) (call x c))
    ∙ sym (length-append (put x c) (puts (call x c) cs))
