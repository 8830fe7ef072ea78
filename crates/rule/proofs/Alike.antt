-- A voice within its limits reads at most 2,112 samples back, so readers that agree there do the same to it.
-- Assumes nothing.
use mathlib.Core.Path.{◌≡◌, refl, ap, ◌∙◌}
use mathlib.Core.Option.{Option, none, some}
use Prim.Native.Nat.{ℕ, zero, suc, ◌+◌, ◌≤◌}
use native.Mathlib.Omega.{arith}
use lib.IntN.{ℤ}
use Rattle.rule.specs.Voice.{Waiting, Voice, output, written, fed_too, settled, heard, stepped}
use Rattle.rule.specs.Calls.{Call, block, loss, pluck, prepare, instant, commit, withdraw}
use Rattle.rule.specs.Calls.{number, done, window}
use Rattle.rule.specs.Valid.{Valid}
use Rattle.rule.proofs.Refusals.{refuses}
use Rattle.rule.proofs.Accepted.{accepted-fit}

abbrev pub Alike : (ℕ → ℤ) → (ℕ → ℤ) → Type 0
Alike r q = (k : ℕ) → 1 ≤ k → k ≤ 2112 → r k ≡ q k

pub window-alike : (r q : ℕ → ℤ) (L a : ℕ) → Alike r q → L + a ≤ 2112 → window r L a ≡ window q L a
window-alike r q L zero e l = refl
window-alike r q L (suc a) e l = rw (e (L + suc a) (omega arith) l, window-alike r q L a e (omega arith))

module _ (v : Voice) (r q : ℕ → ℤ) (g : Valid v) (e : Alike r q) where
  read_alike : r v.tuning.L ≡ q v.tuning.L
  read_alike = e v.tuning.L g.fit.short (omega (arith, g.fit.long))

  pub output-alike : output v r ≡ output v q
  unfolding output
  output-alike = rw read_alike

  pub written-alike : (x : ℤ) → written v r x ≡ written v q x
  unfolding written
  written-alike x = rw output-alike

  heard-alike : heard v r ≡ heard v q
  heard-alike = rw (read_alike, output-alike)

  fed-alike : (o : Option Waiting) → v.waiting ≡ o → fed_too v.Na o r ≡ fed_too v.Na o q
  fed-alike none p = refl
  fed-alike (some w) p =
      let f = (g.waiting w p).fit in rw (e w.tuning.L f.short (omega (arith, f.long)))

  pub stepped-alike : stepped v r ≡ stepped v q
  unfolding stepped
  stepped-alike =
      ap (λ (u : Voice). settled u (fed_too v.Na v.waiting r)) heard-alike
      ∙ ap (λ (o : Option Waiting). settled (heard v q) o) (fed-alike v.waiting refl)

  pub done-alike : (c : Call) → number v c ≡ 0 → done v r c ≡ done v q c
  unfolding done
  done-alike (block xs n) z = refl
  done-alike (loss G) z = refl
  done-alike (pluck a n s) z = refl
  done-alike (prepare k to) z = refl
  done-alike commit z = refl
  done-alike withdraw z = refl
  done-alike (instant to) z =
      let f = accepted-fit to (refuses.instants v to) z in
      rw (window-alike r q to.L v.Na e (omega (arith, g.advance, f.long)))
