-- `list::perform` meets its contract: the words are tested, then the calls are made on what Open returned.
-- Assumes nothing.
use mathlib.Core.Path.{sym, ◌∙◌}
use Rattle.voice.specs.Struct.{state_of}
use Rattle.refusal.specs.Numbers.{code_of}
use Rattle.open.specs.Opened.{opening_of}
use Rattle.list.proofs.Whole.{unformed, done}
use Rattle.list.proofs.perform.Goals as goal

pub returns-then-not-formed : goal.returns-then-not-formed
returns-then-not-formed c =
    let a = c.args in
    (unformed (opening_of a.opening) a.words.now a.input.now a.output.now a.numbers.now
    (sym c.formed.ensures ∙ c.if-not-formed.true))

pub returns : goal.returns
returns c =
    let a = c.args in
    let o = c.open-o in
    let e = o.ensures in
    let r = c.run-written in
    let f = r.ensures in
    let v = state_of o.result.voice.head o.result.voice.line in
    done (opening_of a.opening) a.words.now a.input.now a.output.now a.numbers.now
    (sym c.formed.ensures ∙ c.if-not-formed.false) v e.state (code_of o.result.answer) r.result
    r.new.output r.new.numbers e.number f.value f.output_after f.numbers_after
