-- What a list of calls puts out is samples: each is clipped.
use mathlib.Core.Path.{◌≡◌, sym, ap, ◌∙◌}
use mathlib.Core.Bool.{Bool, true, false, cond}
use mathlib.Core.List.{List, [], ◌∷◌, ◌++◌}
use Prim.Native.Nat.{ℕ}
use lib.Dec.{eqb}
use lib.IntN.{ℤ}
use lib.ListN.{length, drop}
use Rattle.integer.specs.Rounding.{M}
use Rattle.allpass.specs.Bounds.{Within, none, more}
use Rattle.rule.specs.Calls.{Call, Opening, number, inputs}
use Rattle.rule.specs.State.{State, back, step, sounds, block_out, told, call, put, fresh, puts}
use Rattle.rule.proofs.Filters.{output-within}
use Rattle.riff.specs.Format.{file_size, file}
use Rattle.riff.proofs.Format.{file-length}
use Rattle.wav.specs.Written.{written, left}
use Rattle.wav.specs.Refusals.{Rated, Room}
use Rattle.wav.specs.Theorems.{Rendered}
use Rattle.wav.proofs.Results.{left-done}
use Rattle.wav.proofs.Results.{refuses as results}

block_within : (v : State) (xs : List ℤ) → Within M (block_out v xs)
unfolding sounds
block_within v [] = none
block_within v (x ∷ xs) = more (output-within v.voice (back v.line)) (block_within (step v x) xs)

put-within : (v : State) (c : Call) → Within M (put v c)
unfolding put
put-within v c = go (eqb (number v.voice c) 0)
  where
    go : (b : Bool) → Within M (cond b (block_out (told v c) (inputs c)) [])
    go true = block_within (told v c) (inputs c)
    go false = none

both-within : {xs ys : List ℤ} → Within M xs → Within M ys → Within M (xs ++ ys)
both-within none k = k
both-within (more p h) k = more p (both-within h k)

puts-within : (v : State) (cs : List Call) → Within M (puts v cs)
puts-within v [] = none
puts-within v (c ∷ cs) = both-within (put-within v c) (puts-within (call v c) cs)

never : (v : State) (cs : List Call) (fs room : ℕ) → (written fs (puts v cs) room).refusal ≡ 10 → ⊥
never v cs fs room e = ((results.writes fs (puts v cs) room).sample.0 e).1.1 (puts-within v cs)

leaves : (o : Opening) (cs : List Call) (fs : ℕ) (old : List ℕ) → Rated fs
    → Room (length (puts (fresh o) cs)) (file_size (length (puts (fresh o) cs))) (length old)
    → left fs (puts (fresh o) cs) old
    ≡ file fs (puts (fresh o) cs) ++ drop (length (file fs (puts (fresh o) cs))) old
unfolding written
leaves o cs fs old h k =
    let ys = puts (fresh o) cs in
    let z = (results.writes fs ys (length old)).accepted.1 (h, (k, puts-within (fresh o) cs)) in
    left-done fs ys old z ∙ ap (λ (n : ℕ). file fs ys ++ drop n old) (sym (file-length fs ys))

pub rendered : Rendered
rendered = record { within = puts-within; never_10 = never; leaves = leaves }
