-- `mix::row::render_string` meets its contract: the input copied and rendered in place, or zeros rendered.
use mathlib.Core.Path.{sym, ap, subst, ◌∙◌}
use mathlib.Core.Bool.{Bool}
use mathlib.Core.List.{List}
use Prim.Native.Nat.{ℕ, ◌≤◌}
use lib.IntN.{ℤ, pos}
use lib.ListN.{replicate}
use Rattle.integer.specs.Rounding.{M}
use Rattle.samples.specs.Samples.{loudest}
use Rattle.loops.specs.Fed.{fed_of}
use Rattle.loops.proofs.Fed.{cleared-zeros}
use Rattle.mix.specs.Rendered.{Rendered}
use Rattle.mix.proofs.row.render_string.Goals as goal

pub render_fed-requires : goal.render_fed-requires
render_fed-requires c = (
  c.requires.valid.0,
  subst (λ (xs : List ℤ). loudest xs ≤ M) (sym c.copy.ensures)
      (subst (λ (b : Bool). loudest (fed_of b 0 c.args.input.now) ≤ M) c.if-fed.true c.requires.input_bound),
)

pub returns-then-fed : goal.returns-then-fed
returns-then-fed c =
    let s = c.args in
    let r = c.render_fed in
    subst (λ (xs : List ℤ). Rendered s.head.now s.line.now xs r.new.head r.new.line
    r.new.buffer)
    (c.copy.ensures ∙ sym (ap (λ (b : Bool). fed_of b 0 s.input.now) c.if-fed.true))
    r.ensures

pub returns-else-fed : goal.returns-else-fed
returns-else-fed c =
    let s = c.args in
    let r = c.render_unfed in
    let xs = s.input.now in
    subst (λ (xs : List ℤ). Rendered s.head.now s.line.now xs r.new.head r.new.line
    r.new.buffer)
    (ap (λ (n : ℕ). replicate n (pos 0)) (sym c.requires.valid.1)
    ∙ sym (cleared-zeros xs)
    ∙ sym (ap (λ (b : Bool). fed_of b 0 xs) c.if-fed.false))
    r.ensures
