-- `mix::mix` meets its contract: each refusal leaves everything, an input of zeros is not read, and any
-- other is mixed in place of the copy.
use mathlib.Core.Path.{◌≡◌, sym, subst, ◌∙◌}
use mathlib.Core.Bool.{Bool, true}
use mathlib.Core.List.{List}
use Prim.Native.Nat.{◌≤◌}
use native.Mathlib.Omega.{arith}
use borrow.Author.Tests.{ltb-false, leb-true, leb-false}
use lib.Dec.{leb}
use lib.IntN.{ℤ}
use lib.ListN.{length}
use Rattle.integer.specs.Rounding.{M}
use Rattle.samples.specs.Samples.{loudest}
use Rattle.block.proofs.Blocks.{zeros}
use Rattle.strings.specs.Rows.{strings_of}
use Rattle.mix.specs.Rendered.{Mixes}
use Rattle.mix.proofs.Mixed.{differ, too_loud, refused, accepted}
use Rattle.mix.proofs.mix.Goals as goal

pub returns-then-input-output : goal.returns-then-input-output
returns-then-input-output c =
    let s = c.args in
    let xs = s.input.now in
    let e = differ (strings_of s.heads.now s.lines.now) xs (length s.output.now) c.if-input-output.true in
    let r = refused xs s.output.now c.requires e (λ z. omega arith) in
    record { played = r.0; output_after = r.1 }

pub returns-then-not-sounds : goal.returns-then-not-sounds
returns-then-not-sounds c =
    let s = c.args in
    let xs = s.input.now in
    let q = ltb-false 0 (loudest xs) (sym c.sounds.ensures ∙ c.if-not-sounds.true) in
    rw (← zeros xs (length s.output.now) c.if-input-output.false q) (record {
      played = c.play.ensures.played;
      output_after = c.play.ensures.output_after;
    })

pub returns-then-not-all_samples : goal.returns-then-not-all_samples
returns-then-not-all_samples c =
    let s = c.args in
    let xs = s.input.now in
    let q = leb-false (loudest xs) M (sym c.all_samples.ensures ∙ c.if-not-all_samples.true) in
    let e = too_loud (strings_of s.heads.now s.lines.now) xs (length s.output.now)
    c.if-input-output.false q in
    let r = refused xs s.output.now c.requires e (λ z. omega arith) in
    record { played = r.0; output_after = r.1 }

-- what is not refused is of samples alone
samples : (xs : List ℤ) {r : Bool} → r ≡ leb (loudest xs) M → r ≡ true → loudest xs ≤ M
samples xs e t = leb-true (loudest xs) M (sym e ∙ t)

pub through-requires : goal.through-requires
through-requires c =
    (c.requires, subst (λ (xs : List ℤ). loudest xs ≤ M) (sym c.copy.ensures) (samples c.args.input.now c.all_samples.ensures c.if-not-all_samples.false))

pub returns : goal.returns
returns c =
    let s = c.args in
    let k = c.through.new in
    let q = samples s.input.now c.all_samples.ensures c.if-not-all_samples.false in
    let a = accepted s.input.now s.output.now c.if-input-output.false q
    (subst (λ (xs : List ℤ). Mixes s.heads.now s.lines.now xs k.heads k.lines k.buffer)
    c.copy.ensures c.through.ensures) in
    record { played = a.0; output_after = a.1 }
