-- Demand 1 of writing and reading, number by number: `WriteReturns` and `ReadReturns` of specs/Refusals.antt.
-- Assumes nothing.
use mathlib.Core.Path.{◌≡◌, refl}
use mathlib.Core.Bool.{Bool, true, false, cond}
use mathlib.Core.Logic.{◌↔◌}
use mathlib.Core.List.{List, [], ◌∷◌}
use Prim.Native.Nat.{ℕ, ◌+◌, ◌-◌}
use native.Mathlib.Omega.{arith}
use lib.IntN.{ℤ}
use lib.ListN.{length}
use Rattle.integer.specs.Rounding.{M}
use Rattle.allpass.specs.Bounds.{Within}
use Rattle.samples.specs.Samples.{loudest}
use Rattle.rule.specs.Tests.{loud}
use Rattle.refusal.specs.Limits.{Between}
use Rattle.refusal.proofs.Tests.{refused, accepted}
use Rattle.rule.proofs.Refusals.{quiet, unquiet}
use Rattle.riff.specs.Format.{file_size}
use Rattle.riff.specs.Held.{rate_of, count_of}
use Rattle.wav.specs.Written.{rated, roomy, write_number}
use Rattle.wav.specs.Recorded.{is_file, formed, reading_number}
use Rattle.wav.specs.Refusals.{Room, IsFile, WriteReturns, ReadReturns}
use Rattle.wav.proofs.Files.{outside_in, inside-out}

-- ---- conditions that are no limits of a number in the paper
room : (n needed r : ℕ) → Between 0 ((n - 1000000) + (needed - r)) 0 ↔ Room n needed r
room n needed r = (
  λ b. record { few = omega (arith, b.most); long = omega (arith, b.most) },
  λ f. record { least = omega arith; most = omega (arith, f.few, f.long) },
)

within : (xs : List ℤ) → Between 0 (loudest xs) M ↔ Within M xs
within xs = (λ b. quiet xs b.most, λ w. record { least = omega arith; most = unquiet w })

a-file : (s : List ℕ) → Between 0 (cond (is_file s) 0 1) 0 ↔ IsFile s
a-file s = (
  λ b. outside_in s (go (is_file s) b),
  λ f. rw (inside-out s f) (record { least = omega arith; most = omega arith }),
)
  where
    go : (t : Bool) → Between 0 (cond t 0 1) 0 → t ≡ true
    go true b = refl
    go false b = absurd (omega (arith, b.most))

-- ---- the numbers
pub writes : (fs : ℕ) (xs : List ℤ) (r : ℕ) → WriteReturns fs xs r (write_number fs xs r)
unfolding write_number
writes fs xs r =
    let n = length xs in
    let a = rated fs in
    let b = roomy n (file_size n) r in
    let c = loud xs in
    let i = room n (file_size n) r in
    let j = within xs in
    let eighteen = refused (a ∷ []) b (c ∷ []) tt in
    let ten = refused (a ∷ b ∷ []) c [] tt in
    let zero = accepted a (b ∷ c ∷ []) tt in
    record {
      rate = refused [] a (b ∷ c ∷ []) tt;
      room_for = (
        λ e. let p = eighteen.0 e in (p.0, λ f. p.1 (i.1 f)),
        λ p. eighteen.1 (p.0, λ f. p.1 (i.0 f)),
      );
      sample = (
        λ e. let p = ten.0 e in (p.0, (i.0 p.1.0, λ w. p.1.1 (j.1 w))),
        λ p. ten.1 (p.0, (i.1 p.1.0, λ w. p.1.1 (j.0 w))),
      );
      accepted = (
        λ e. let p = zero.0 e in (p.0, (i.0 p.1.0, j.0 p.1.1)),
        λ p. zero.1 (p.0, (i.1 p.1.0, j.1 p.1.1)),
      );
    }

pub reads : (s : List ℕ) (r : ℕ) → ReadReturns s r (reading_number s r)
unfolding reading_number
reads s r =
    let n = count_of s in
    let a = formed s in
    let b = rated (rate_of s) in
    let c = roomy n n r in
    let i = a-file s in
    let j = room n n r in
    let nineteen = refused [] a (b ∷ c ∷ []) tt in
    let seventeen = refused (a ∷ []) b (c ∷ []) tt in
    let eighteen = refused (a ∷ b ∷ []) c [] tt in
    let zero = accepted a (b ∷ c ∷ []) tt in
    record {
      form = (λ e f. nineteen.0 e (i.1 f), λ p. nineteen.1 (λ f. p (i.0 f)));
      rate = (
        λ e. let p = seventeen.0 e in (i.0 p.0, p.1),
        λ p. seventeen.1 (i.1 p.0, p.1),
      );
      room_for = (
        λ e. let p = eighteen.0 e in (i.0 p.0, (p.1.0, λ f. p.1.1 (j.1 f))),
        λ p. eighteen.1 (i.1 p.0, (p.1.0, λ f. p.1.1 (j.0 f))),
      );
      accepted = (
        λ e. let p = zero.0 e in (i.0 p.0, (p.1.0, j.0 p.1.1)),
        λ p. zero.1 (i.1 p.0, (p.1.0, j.1 p.1.1)),
      );
    }
