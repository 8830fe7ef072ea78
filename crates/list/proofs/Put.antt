-- How many samples a call puts out: as many as a block lends where it is accepted, else none.
-- Assumes nothing.
use mathlib.Core.Path.{◌≡◌, refl, ap, ◌∙◌}
use mathlib.Core.Bool.{Bool, true, false, cond}
use mathlib.Core.List.{List, []}
use Prim.Native.Nat.{ℕ, zero}
use borrow.Author.Tests.{eqb-true}
use lib.Dec.{eqb}
use lib.IntN.{ℤ}
use lib.ListN.{length, take}
use Rattle.rule.specs.Voice.{Voice}
use Rattle.rule.specs.Calls as Rule
use Rattle.rule.specs.Calls.{block, number, inputs}
use Rattle.rule.specs.State.{State, told, block_out, put}
use Rattle.rule.proofs.Refusals.{refuses}
use Rattle.rule.proofs.Puts.{put-none, length-out}
use Rattle.list.specs.declared.words.Item.{Item}
use Rattle.list.specs.declared.words.Item.TheVariants.{Block, Call}
use Rattle.list.specs.Items.{item_of, made_of, outputs_of}
use Rattle.list.proofs.Calling.{still}

-- an accepted block's input and output are as long as each other
matched : (v : Voice) (xs : List ℤ) (n : ℕ) → number v (block xs n) ≡ 0 → length xs ≡ n
matched v xs n e = ((refuses.blocks v xs n).accepted.0 e).0

-- the number 0, or another, that a call returns decides
pub put-length : (v : State) (i : Item) (xs : List ℤ)
    → length (put v (item_of i xs)) ≡ cond (eqb (number v.voice (item_of i xs)) 0) (outputs_of i) 0
unfolding put
put-length v (Block a b) xs = go (eqb (number v.voice k) 0) refl
  where
    k : Rule.Call
    k = block (take a xs) b

    go : (t : Bool) → eqb (number v.voice k) 0 ≡ t
        → length (cond t (block_out (told v k) (inputs k)) []) ≡ cond t b 0
    go true e =
        length-out (told v k) (take a xs)
        ∙ matched v.voice (take a xs) b (eqb-true (number v.voice k) 0 e)
    go false e = refl
put-length v (Call c) xs =
    ap length (put-none v (made_of c) (still c)) ∙ none_lent (eqb (number v.voice (made_of c)) 0)
  where
    none_lent : (t : Bool) → zero ≡ cond t 0 0
    none_lent true = refl
    none_lent false = refl
