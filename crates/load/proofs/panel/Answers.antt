-- `load::panel` meets its contract: nothing is shown, or numbers of the voice that the bytes hold.
-- Assumes nothing.
use mathlib.Core.Path.{◌≡◌, sym, ap, ◌∙◌}
use Rattle.std.proofs.Common.{rules}
use Rattle.std.specs.Prelude.{Err}
use Rattle.refusal.specs.Numbers.{number_of}
use Rattle.refusal.proofs.Numbers.{refused-above}
use Rattle.form.specs.Loads.{Panel, loads}
use Rattle.form.specs.Numbers.{Numbers}
use Rattle.form.proofs.Theorems.{shows}
use Rattle.load.proofs.Loading.{panel-number, panel-shows}
use Rattle.load.proofs.panel.Goals as goal

pub returns-in_err-tested : goal.returns-in_err-tested
returns-in_err-tested c =
    let s = c.args.s.now in
    let r = c.in_err-tested.field-0.0 in
    let i : c.from_residual.result ≡ Err r = search rules in
    let n : number_of r ≡ (loads s).refusal = search rules in
    let e = shows.nothing s (λ z. refused-above r (n ∙ z)) in
    rw i (record {
      number = n ∙ sym (panel-number s);
      L = sym (ap (λ (p : Panel). p.L) e);
      d = sym (ap (λ (p : Panel). p.d) e);
      G = sym (ap (λ (p : Panel). p.G) e);
    })

pub returns : goal.returns
returns c =
    let s = c.args.s.now in
    let n = c.words_of-w.ensures in
    let z : 0 ≡ (loads s).refusal = search rules in
    let e = panel-shows s z in
    record {
      number = z ∙ sym (panel-number s);
      L = ap (λ (i : Numbers). i.tuning.L) n ∙ sym (ap (λ (p : Panel). p.L) e);
      d = ap (λ (i : Numbers). i.tuning.d) n ∙ sym (ap (λ (p : Panel). p.d) e);
      G = ap (λ (i : Numbers). i.G) n ∙ sym (ap (λ (p : Panel). p.G) e);
    }
