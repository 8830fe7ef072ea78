-- The calls of a run: what it wrote is what they put out, so that demand 3 holds of every score.
-- Assumes nothing.
use mathlib.Core.Path.{refl, sym, ap, ◌∙◌}
use mathlib.Core.List.{List}
use Prim.Native.Nat.{ℕ}
use lib.IntN.{ℤ}
use lib.ListN.{length, drop}
use lib.Seq.{take_at, drop_at}
use Rattle.rule.specs.State.{fresh, puts}
use Rattle.rule.proofs.Click.{click, own_click}
use Rattle.score.specs.Played.{Played}
use Rattle.score.specs.Run.{opening, run}
use Rattle.score.specs.Played.{Runs}
use Rattle.score.specs.Listed.{Listed}

pub listed : (s : List ℕ) (output : List ℤ) (r : Played) (after : List ℤ) → Runs s output r after
    → Listed s output r after
listed s output r after p =
    let cs = (run s (length output)).calls in
    let ys = puts (fresh (opening s)) cs in
    record {
      calls = cs;
      made = refl;
      samples = rw p.output_is (take_at ys (drop (length ys) output) r.written (sym p.count));
      untouched =
          rw p.output_is (drop_at ys (drop (length ys) output) r.written (sym p.count))
          ∙ ap (λ (n : ℕ). drop n output) (sym p.count);
      click = click (opening s) cs;
      own_click = own_click (opening s) cs;
    }
