-- `open::open` meets its contract: a resting voice, the one asked for or the refused one.
-- Assumes nothing.
use mathlib.Core.Path.{refl, sym, subst, ◌∙◌}
use Rattle.refusal.specs.Returned.{AllKept}
use Rattle.rule.specs.Calls.{open_limits}
use Rattle.refusal.proofs.Numbers.{ok-code, err-code}
use Rattle.refusal.proofs.Returned.{passed}
use Rattle.open.specs.declared.Opening.{Opening}
use Rattle.open.specs.Opened.{opening_of}
use Rattle.open.proofs.Resting.{opened-refused, opened-taken}
use Rattle.open.proofs.open.Goals.{then-is_ok, else-is_ok}
use Rattle.open.proofs.open.Goals as goal

abbrev Keeps : Opening → Type 0
Keeps o = AllKept (open_limits (opening_of o))

refused_voice : Keeps (record { tuning = record { order = 1; length = 1; delay = 4096 }; loss = 0; advance = 0 })
refused_voice = passed _ tt refl

pub fresh-requires : goal.fresh-requires
fresh-requires c =
    let x = c.refused-answer in
    elim c.if-is_ok.branch [
      | then-is_ok w ↦
          let z = ok-code x.result x.ensures (sym c.is_ok.ensures.value ∙ w.if-is_ok.true) in
          subst Keeps (sym w.kept-is) (passed (open_limits (opening_of c.args.o)) tt (sym z))
      | else-is_ok w ↦ subst Keeps (sym w.kept-is) refused_voice
    ]

pub returns : goal.returns
returns c =
    let x = c.refused-answer in
    let o = opening_of c.args.o in
    elim c.if-is_ok.branch [
      | then-is_ok w ↦
          let z = ok-code x.result x.ensures (sym c.is_ok.ensures.value ∙ w.if-is_ok.true) in
          let f = rw w.kept-is at c.fresh.ensures.line_value in
          record {
            number = x.ensures;
            state = rw (opened-taken o (sym z)) f;
            valid = c.fresh.ensures.valid;
          }
      | else-is_ok w ↦
          let f = rw w.kept-is at c.fresh.ensures.line_value in
          record {
            number = x.ensures;
            state = rw (opened-refused o (err-code x.result x.ensures (sym c.is_ok.ensures.value ∙ w.if-is_ok.false))) f;
            valid = c.fresh.ensures.valid;
          }
    ]
