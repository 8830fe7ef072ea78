-- `wav::reading::is_file` meets its contract: each part is as in a file, or one is not.
-- Assumes nothing.
use mathlib.Core.Path.{sym, ◌∙◌}
use native.Mathlib.Omega.{arith}
use Rattle.octets.specs.Theorems.{Bytes}
use Rattle.wav.specs.Recorded.{is_file}
use Rattle.wav.proofs.Flags.{clash, not_so, alike}
use Rattle.wav.proofs.Files.{parts, from_parts}
use Rattle.wav.proofs.reading.is_file.Goals as goal

pub returns-then-not-fitting : goal.returns-then-not-fitting
returns-then-not-fitting c =
    let s = c.args.file.now in
    not_so (is_file s)
    (λ e.
    let p = parts s e in
    clash c.if-not-fitting.true
    (c.fitting.ensures.1 (rw (c.rate_of-rate.ensures, c.count_of-count.ensures.0) (p.byte_rate, p.riff_size_fits))))

pub returns-then-file-file_size : goal.returns-then-file-file_size
returns-then-file-file_size c =
    let s = c.args.file.now in
    not_so (is_file s)
    (λ e. c.if-file-file_size.true ((parts s e).long ∙ sym (rw c.count_of-count.ensures.0 at c.file_size.ensures)))

pub returns-then-not-headed : goal.returns-then-not-headed
returns-then-not-headed c =
    let s = c.args.file.now in
    not_so (is_file s)
    (λ e.
    clash c.if-not-headed.true
    (c.headed.ensures.1 (rw (c.rate_of-rate.ensures, c.count_of-count.ensures.0) (parts s e).head)))

pub padded-requires : goal.padded-requires
padded-requires c = c.if-file-file_size.false ∙ c.file_size.ensures

pub returns : goal.returns
returns c =
    let s = c.args.file.now in
    let known : Bytes s = λ i. omega (arith, c.type_inv.file i) in
    let fits = c.fitting.ensures.0 c.if-not-fitting.false in
    let e = c.rate_of-rate.ensures in
    let i = c.count_of-count.ensures.0 in
    alike _ (is_file s)
    (λ t.
    from_parts s known
    (record {
      byte_rate = rw e at fits.0;
      riff_size_fits = rw i at fits.1;
      long = c.if-file-file_size.false ∙ rw i at c.file_size.ensures;
      head = rw (e, i) at (c.headed.ensures.0 c.if-not-headed.false);
      zeros = rw i at (c.padded.ensures.0 t);
    }))
    (λ t. c.padded.ensures.1 (rw i (parts s t).zeros))
