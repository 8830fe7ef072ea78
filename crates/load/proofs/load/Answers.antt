-- `load::load` meets its contract: Open's refusal voice, or the voice that the bytes hold.
-- Assumes nothing.
use mathlib.Core.Path.{◌≡◌, refl, sym, ◌∙◌}
use Rattle.std.proofs.Common.{rules}
use Rattle.form.specs.Loads.{loads}
use Rattle.form.specs.Parts.{held_in}
use Rattle.voice.specs.Struct.{state_of}
use Rattle.load.proofs.Loading.{nothing-loaded, passed, line-room, line_at, head-limits, laid-all, voice-loaded}
use Rattle.refusal.proofs.Numbers.{not-err-code, is_err-code}
use Rattle.load.proofs.load.Goals as goal

pub returns-then-is_err : goal.returns-then-is_err
returns-then-is_err c =
    let s = c.args.s.now in
    let t = c.tested-answer in
    let v = c.refusal_voice-v in
    record {
      number = t.ensures;
      state =
          nothing-loaded s (loads s).refusal (state_of v.result.head v.result.line) refl
          (is_err-code t.result t.ensures (sym c.is_err.ensures.value ∙ c.if-is_err.true)) v.ensures.state;
      valid = v.ensures.valid;
    }

pub lay-requires : goal.lay-requires
lay-requires c =
    let s = c.args.s.now in
    let t = c.tested-answer in
    let m = c.map_of-m in
    let p = c.places in
    let z = not-err-code t.result t.ensures (sym c.is_err.ensures.value ∙ c.if-is_err.false) in
    line-room s m.result m.ensures.0 p.result p.ensures (passed s m.result m.ensures.0 p.result p.ensures z).0

pub head_of-requires : goal.head_of-requires
head_of-requires c =
    let s = c.args.s.now in
    let t = c.tested-answer in
    let m = c.map_of-m in
    let p = c.places in
    let z = not-err-code t.result t.ensures (sym c.is_err.ensures.value ∙ c.if-is_err.false) in
    head-limits c.words_of.result (held_in s) c.words_of.ensures (passed s m.result m.ensures.0 p.result p.ensures z).1

pub returns : goal.returns
returns c =
    let s = c.args.s.now in
    let t = c.tested-answer in
    let m = c.map_of-m in
    let p = c.places in
    let z = not-err-code t.result t.ensures (sym c.is_err.ensures.value ∙ c.if-is_err.false) in
    let h = passed s m.result m.ensures.0 p.result p.ensures z in
    rw (t.ensures ∙ sym z) (
    voice-loaded s c.words_of.result c.head_of.result c.lay.new.line z c.head_of.ensures
    c.words_of.ensures h.1
    (laid-all s c.lay.new.line c.lay.ensures.0
    (λ k n. c.lay.ensures.1 k n ∙ sym (line_at s m.result m.ensures.0 p.result p.ensures k n)))
    )
