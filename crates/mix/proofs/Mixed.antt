-- A mix that is accepted, and one that is refused: what is returned, the strings afterwards and the lent
-- output.
use mathlib.Core.Path.{◌≡◌, sym, ◌∙◌}
use mathlib.Core.List.{List}
use Prim.Native.Nat.{ℕ, ◌≤◌, ◌<◌}
use native.Mathlib.Omega.{arith}
use lib.IntN.{ℤ}
use lib.ListN.{length}
use Rattle.integer.specs.Rounding.{M}
use Rattle.samples.specs.Samples.{loudest}
use Rattle.rule.specs.Calls.{block, done}
use Rattle.rule.proofs.Refusals.{quiet, unquiet}
use Rattle.voice.proofs.Called.{call-accepted}
use Rattle.block.proofs.Blocks.{plays}
use Rattle.instrument.specs.Strings.{mix, Strings, number, play, mix_into}
use Rattle.instrument.proofs.Returns.{returns, leaves}
use Rattle.instrument.proofs.Sums.{out-mix}
use Rattle.strings.specs.Rows.{strings_of, Voices, Played}
use Rattle.mix.specs.Rendered.{Mixes}

-- ---- the number
module _ (s : Strings) (xs : List ℤ) (n : ℕ) where
  pub differ : (length xs ≡ n → ⊥) → 9 ≡ number s (mix xs n)
  differ f = sym ((returns.mixing s xs n).differ.1 f)

  pub too_loud : length xs ≡ n → M < loudest xs → 10 ≡ number s (mix xs n)
  too_loud e h = sym ((returns.mixing s xs n).input.1 (e, λ w. omega (arith, unquiet w)))

  accepts : length xs ≡ n → loudest xs ≤ M → 0 ≡ number s (mix xs n)
  accepts e h = sym ((returns.mixing s xs n).accepted.1 (e, quiet xs h))

-- ---- what is left
module _ {hs : List (List ℕ)} {ls : List (List ℤ)} (xs old : List ℤ) where
  pub refused : {n : ℕ} → Voices hs ls → n ≡ number (strings_of hs ls) (mix xs (length old)) → (n ≡ 0 → ⊥)
      → Played hs ls (mix xs (length old)) n hs ls × (old ≡ mix_into (strings_of hs ls) xs old)
  refused {n} v e f =
      let s = strings_of hs ls in
      let g : number s (mix xs (length old)) ≡ 0 → ⊥ = λ z. f (e ∙ z) in (
        record {
          number = e;
          states = λ j l. sym ((leaves.unmixed s xs (length old) g).0 j);
          voices = v;
        },
        sym (leaves.unwritten s xs old g),
      )

  pub accepted : {gs : List (List ℕ)} {ks : List (List ℤ)} {ys : List ℤ} → length xs ≡ length old
      → loudest xs ≤ M
      → Mixes hs ls xs gs ks ys
      → Played hs ls (mix xs (length old)) 0 gs ks × (ys ≡ mix_into (strings_of hs ls) xs old)
  unfolding play done
  accepted e h m =
      let s = strings_of hs ls in
      let z = accepts s xs (length old) e h in (
        record {
          number = z;
          states = λ j l.
              m.after.states j l
              ∙ sym (call-accepted (s j) (block xs (length old))
              (sym (plays (s j).voice xs (length old) e h)));
          voices = m.after.voices;
        },
        m.out ∙ sym (out-mix s xs (length old) (sym z)) ∙ sym (leaves.written s xs old (sym z)),
      )
