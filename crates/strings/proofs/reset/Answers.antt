-- `strings::reset` meets its contract: the voice of a refused opening is in each row.
use mathlib.Core.Path.{◌≡◌, ap, ap₂, ◌∙◌}
use mathlib.Core.List.{List, []}
use Prim.Native.Nat.{ℕ}
use native.Mathlib.Omega.{arith}
use lib.IntN.{ℤ}
use lib.ListN.{replicate, length-replicate, get_or-replicate}
use Rattle.rule.specs.Calls.{Opening}
use Rattle.voice.specs.declared.Head.{Head}
use Rattle.voice.specs.Struct.{state_of}
use Rattle.rule.specs.State.{fresh}
use Rattle.voice.specs.Valid.{Valid}
use Rattle.open.specs.declared.Voice.{Voice}
use Rattle.packed.specs.Words.{head_of}
use Rattle.form.proofs.Theorems.{refused_opens}
use Rattle.strings.specs.Rows.{Resets}
use Rattle.strings.proofs.reset.Goals as goal

abbrev refusing : Opening
refusing = record { N = 0; L = 0; d = 0; G = 0; Na = 0 }

resets : (r : Voice) (w : List ℕ) → state_of r.head r.line ≡ fresh refusing → Valid r.head r.line
    → head_of w ≡ r.head → Resets (replicate 6 w) (replicate 6 r.line)
resets r w o v e = record {
  states = λ j h.
      ap₂ (λ (u : List ℕ) (l : List ℤ). state_of (head_of u) l) (get_or-replicate 6 j w [] (omega arith))
      (get_or-replicate 6 j r.line [] (omega arith))
      ∙ ap (λ (g : Head). state_of g r.line) e
      ∙ o
      ∙ refused_opens refusing (λ z. omega arith);
  voices = record {
    heads = length-replicate 6 w;
    lines = length-replicate 6 r.line;
    valid = λ j h.
        rw (get_or-replicate 6 j w [] (omega arith), get_or-replicate 6 j r.line [] (omega arith), e)
        v;
  };
}

pub returns : goal.returns
returns c =
    let v = c.refusal_voice-voice in
    resets v.result c.pack-head.result v.ensures.state v.ensures.valid c.pack-head.ensures
