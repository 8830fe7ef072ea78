-- `list::words::formed` meets its contract: a call is in form with those behind it just where all are.
-- Assumes nothing.
use mathlib.Core.Path.{sym, ap, ◌∙◌}
use mathlib.Core.List.{List}
use Prim.Native.Nat.{ℕ, ◌<◌}
use borrow.Author.Rules.{part_to_end}
use lib.ListN.{drop, get_or}
use Rattle.std.proofs.Common.{rules}
use Rattle.list.specs.Words.{last_kind, formed}
use Rattle.list.specs.Items.{Reads}
use Rattle.list.proofs.Form.{four, formed-known, formed-unknown, formed-end}
use Rattle.list.proofs.words.formed.Goals as goal

pub returns-in_default-read : goal.returns-in_default-read
returns-in_default-read c =
    let l = c.loop-words in
    let ws = l.words.now in
    let h : last_kind < get_or ws 0 0 = search rules in
    sym (formed-unknown _ _ _ _ (drop 4 ws) l.inputs l.outputs l.numbers h)
    ∙ ap (λ (s : List ℕ). formed s l.inputs l.outputs l.numbers) (sym (four ws c.in-len4-up.len_at_least))
    ∙ l.invariant

pub returns-then-not-fits : goal.returns-then-not-fits
returns-then-not-fits c =
    let l = c.loop-words in
    let ws = l.words.now in
    let e : Reads (get_or ws 0 0) (get_or ws 1 0) (get_or ws 2 0) (get_or ws 3 0) c.in-Some.item = search rules in
    let t = sym c.fits.ensures ∙ c.if-not-fits.true in
    sym (rw t at (formed-known (drop 4 ws) e l.inputs l.outputs l.numbers))
    ∙ ap (λ (s : List ℕ). formed s l.inputs l.outputs l.numbers) (sym (four ws c.in-len4-up.len_at_least))
    ∙ l.invariant

pub loop-words-preserved : goal.loop-words-preserved
loop-words-preserved c =
    let l = c.loop-words in
    let ws = l.words.now in
    let e : Reads (get_or ws 0 0) (get_or ws 1 0) (get_or ws 2 0) (get_or ws 3 0) c.in-Some.item = search rules in
    let t = sym c.fits.ensures ∙ c.if-not-fits.false in
    rw (c.inputs-inputs.ensures, c.outputs-outputs.ensures, part_to_end ws 4)
    (sym (rw t at (formed-known (drop 4 ws) e l.inputs l.outputs l.numbers))
    ∙ ap (λ (s : List ℕ). formed s l.inputs l.outputs l.numbers) (sym (four ws c.in-len4-up.len_at_least))
    ∙ l.invariant)

pub returns : goal.returns
returns c =
    let l = c.loop-words in
    c.is_empty.ensures
    ∙ sym (formed-end l.words.now l.inputs l.outputs l.numbers c.in_default.len_below)
    ∙ l.invariant
