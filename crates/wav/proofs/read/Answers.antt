-- `wav::read` meets its contract: by its tests.
use Rattle.std.proofs.Common.{rules}
use Rattle.std.specs.Prelude.{Err}
use Rattle.refusal.specs.Numbers.{number_of}
use mathlib.Core.Path.{◌≡◌, sym, ap, ◌∙◌}
use mathlib.Core.List.{List, ◌++◌, map}
use Prim.Native.Nat.{ℕ, ◌≤◌}
use native.Mathlib.Omega.{arith}
use lib.IntN.{ℤ}
use lib.ListN.{length, take, drop}
use lib.Seq.{length-take-le}
use Rattle.integer.specs.Rounding.{clip}
use Rattle.octets.specs.Octets.{loaded}
use Rattle.riff.specs.Held.{rate_of, count_of, held_in, samples_of}
use Rattle.refusal.proofs.Numbers.{refused-above}
use Rattle.wav.specs.Recorded.{reading_number}
use Rattle.wav.specs.Refusals.{IsFile, Rated, Room}
use Rattle.wav.proofs.Files.{long-held}
use Rattle.wav.proofs.Refusals.{reads}
use Rattle.wav.proofs.Results.{read_done, read-refused, filled-done, filled-refused}
use Rattle.wav.proofs.read.Goals as goal

-- past the tests, where the file t holds n samples
module _ (t : List ℕ) (into : List ℤ) (n : ℕ) (z : reading_number t (length into) ≡ 0) (e : n ≡ count_of t) where
  met : IsFile t × (Rated (rate_of t) × Room (count_of t) (count_of t) (length into))
  met = (reads t (length into)).accepted.0 z

  -- the part of the slice that is filled
  fits : n ≤ length into
  fits = omega (arith, e, met.1.1.long)

  many : length (take n into) ≡ n
  many = length-take-le n into fits

pub returns-in_err-readable-clause-value : goal.returns-in_err-readable-clause-value
returns-in_err-readable-clause-value c =
    let s = c.args.file.now in
    let n = length c.args.samples.now in
    let r = c.in_err-readable.field-0.0 in
    let i : c.from_residual.result ≡ Err r = search rules in
    let e : number_of r ≡ reading_number s n = search rules in
    rw (i, e) (sym (read-refused s n (λ z. refused-above r (e ∙ z))))

pub returns-in_err-readable-clause-samples_after : goal.returns-in_err-readable-clause-samples_after
returns-in_err-readable-clause-samples_after c =
    let s = c.args.file.now in
    let r = c.in_err-readable.field-0.0 in
    let e : number_of r ≡ reading_number s (length c.args.samples.now) = search rules in
    sym (filled-refused s c.args.samples.now (λ z. refused-above r (e ∙ z)))

pub slice_bounds-load-end : goal.slice_bounds-load-end
slice_bounds-load-end c =
    let y : 0 ≡ reading_number c.args.file.now (length c.args.samples.now) = search rules in
    fits c.args.file.now c.args.samples.now _ (sym y) c.count_of-count.ensures.0

pub slice_bounds-load-end-2 : goal.slice_bounds-load-end-2
slice_bounds-load-end-2 c =
    let y : 0 ≡ reading_number c.args.file.now (length c.args.samples.now) = search rules in
    sym (many c.args.file.now c.args.samples.now _ (sym y) c.count_of-count.ensures.0)

pub load-requires : goal.load-requires
load-requires c =
    let y : 0 ≡ reading_number c.args.file.now (length c.args.samples.now) = search rules in
    let t = c.args.file.now in
    let into = c.args.samples.now in
    let n = c.count_of-count.ensures.0 in
    let z = sym y in
    omega (arith, many t into _ z n, n, long-held t (met t into _ z n).0)

pub returns-clause-value : goal.returns-clause-value
returns-clause-value c =
    let y : 0 ≡ reading_number c.args.file.now (length c.args.samples.now) = search rules in
    let t = c.args.file.now in
    let n = c.count_of-count.ensures.0 in
    rw (c.rate_of.ensures, n) (sym (read_done t (length c.args.samples.now) (sym y)))

pub returns-clause-samples_after : goal.returns-clause-samples_after
unfolding samples_of held_in
returns-clause-samples_after c =
    let y : 0 ≡ reading_number c.args.file.now (length c.args.samples.now) = search rules in
    let t = c.args.file.now in
    let into = c.args.samples.now in
    let n = c.count_of-count.ensures.0 in
    let z = sym y in
    let read : c.load.new.samples ≡ samples_of t =
    c.load.ensures ∙ ap (λ (m : ℕ). map clip (loaded 3 m (drop 44 t))) (many t into _ z n ∙ n) in
    rw read (ap (λ (m : ℕ). samples_of t ++ drop m into) n ∙ sym (filled-done t into z))
