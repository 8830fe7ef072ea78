-- The single instances: by the theorems, and by computation.
use mathlib.Core.Path.{◌≡◌, refl, ap, ◌∙◌}
use mathlib.Core.List.{List, [], ◌∷◌, ◌++◌}
use Prim.Native.Nat.{ℕ}
use native.Mathlib.Omega.{arith}
use lib.IntN.{ℤ, pos}
use lib.ListN.{drop, length, replicate}
use Rattle.integer.specs.Rounding.{M, clip, floor, nearest}
use Rattle.integer.specs.Cut.{cut, R, Q}
use Rattle.thiran.specs.Formula.{a, factor}
use Rattle.thiran.specs.Coefficients.{coefficient, coefficients}
use Rattle.allpass.specs.Allpass.{inner, next, out}
use Rattle.allpass.specs.Bounds.{Within, none, more}
use Rattle.allpass.specs.Length.{response, last_above, effective_length}
use Rattle.octets.specs.Octets as Octets
use Rattle.riff.specs.Format.{file_size, header, file}
use Rattle.riff.specs.Held.{held_in, samples_of}
use Rattle.rule.specs.Voice.{noise, spent, output, written, settled, stepped}
use Rattle.rule.specs.Calls.{number, opened, done}
use Rattle.rule.specs.History.{read, step, call}
use Rattle.rule.specs.State as State
use Rattle.rule.specs.State.{fresh, puts}
use Rattle.rule.proofs.Sample.{sample}
use Rattle.wav.specs.Recorded.{is_file, reading_number, recorded, filled}
use Rattle.wav.specs.Refusals.{Rated, Room}
use Rattle.wav.proofs.Rendered.{rendered}
use Rattle.wav.proofs.Results.{refuses as results}
use Rattle.wav.proofs.Theorems.{round_trip, lowest, block_input}
use Rattle.instances.specs.Single.{o, cs, x, GreatestLoss, Lengths, even, Read, quiet, list, heard, bytes}
use Rattle.instances.specs.Single.{Leaves}

pub greatest-loss : GreatestLoss
unfolding
    floor nearest cut R Q clip factor a coefficient coefficients inner next out noise spent output written settled
    stepped number opened done read step call
greatest-loss = record {
  sample = sample o cs x;
  last = refl;
  output = refl;
  written = refl;
  by_rule = (sample o cs x).sample;
}

pub lengths : Lengths
unfolding floor nearest cut R clip factor a coefficient coefficients inner next out response last_above effective_length
lengths = record { none_above = refl; one_above = refl }

pub reads : Read
unfolding
    clip Octets.number Octets.bytes Octets.stored Octets.loaded header file held_in samples_of is_file reading_number
    recorded filled
reads = record {
  returned = refl;
  samples = refl;
  padded = refl;
  padded_samples = refl;
  lowest = lowest.lowest even 3 1 refl (omega arith) refl;
  block_input = block_input.never_10 even (opened quiet) 2;
  short = refl;
}

heard-is : puts (fresh quiet) list ≡ heard
unfolding
    floor nearest cut R Q clip factor a coefficient coefficients inner next out noise spent output written settled
    stepped number opened done State.step State.sounds State.call State.put State.silence
heard-is = refl

in_bytes : file 8000 heard ≡ bytes
unfolding Octets.number Octets.bytes Octets.stored header file
in_bytes = refl

within : Within M heard
within = more {x = pos 0} (omega arith) (more {x = pos 0} (omega arith) (more {x = pos 1000} (omega arith) none))

pub leaves : Leaves
leaves =
    let rated : Rated 8000 = record { least = omega arith; most = omega arith } in
    let heard-room : Room 3 (file_size 3) 55 = record { few = omega arith; long = omega arith } in
    let room : Room (length (puts (fresh quiet) list)) (file_size (length (puts (fresh quiet) list))) 55
    = rw heard-is heard-room in
    record {
      samples = heard-is;
      recording =
          rendered.leaves quiet list 8000 (replicate 55 9) rated room
          ∙ ap (λ (ys : List ℤ). file 8000 ys ++ drop (length (file 8000 ys)) (replicate 55 9)) heard-is
          ∙ ap (λ (s : List ℕ). s ++ drop (length s) (replicate 55 9)) in_bytes;
      never_10 = rendered.never_10 (fresh quiet) list 8000 55;
      back =
          round_trip.back 8000 heard (replicate 55 9) (replicate 4 (pos 77))
          ((results.writes 8000 heard 55).accepted.1 (rated, (heard-room, within)))
          (omega arith);
    }
