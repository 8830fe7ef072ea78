-- A voice that calls reach can be stored, and once loaded goes on as if never stopped.

use mathlib.Core.Path.{◌≡◌, refl, sym, ap, subst, ◌∙◌}
use mathlib.Core.Bool.{Bool, true, false, cond}
use mathlib.Core.List.{List, [], ◌∷◌, ◌++◌}
use mathlib.Core.Option.{Option, none, some}
use Prim.Native.Nat.{ℕ, ◌-◌, ◌^◌, ◌<◌}
use native.Mathlib.Omega.{arith}
use lib.Dec.{eqb, leb}
use lib.IntN.{ℤ}
use Rattle.noise.specs.Noise as Noise
use Rattle.rule.specs.Voice.{tuning, Waiting, Pluck, Voice, spent, silent, heard, fed_too, tuned, commits, settled, stepped}
use Rattle.rule.specs.Calls.{Call, block, loss, pluck, prepare, instant, commit, withdraw, Opening, number, count}
use Rattle.refusal.specs.Limits.{refusal}
use Rattle.rule.specs.Calls.{open_limits, resting, start, committed, done, opened, inputs}
use Rattle.rule.specs.State.{State, back, step, block_after, told, call, fresh, from, puts, numbers, counts}
use Rattle.rule.specs.Click.{ClickFigure}
use Rattle.rule.proofs.Puts.{from-append, puts-append}
use Rattle.rule.proofs.States.{from-whole, fresh-whole}
use Rattle.rule.proofs.Click.{click}
use Rattle.form.specs.Parts.{stored}
use Rattle.form.specs.Loads.{Loaded, loads}
use Rattle.form.specs.Theorems.{Storable, Seed, Seeds, Goes, Resumed}
use Rattle.form.proofs.Theorems as Trip

-- ---- the noise state stays a number of 32 bits
abbrev Low : Voice → Type 0
Low v = v.pluck.noise < 2 ^ 32

settled-pluck : (v : Voice) (o : Option Waiting) → (settled v o).pluck ≡ v.pluck
unfolding settled
settled-pluck v none = refl
settled-pluck v (some w) = go (commits w.kind w.taken v.Na)
  where
    go : (b : Bool) → (cond b (tuned v w.tuning w.state none) (tuned v v.tuning v.state (some w))).pluck
        ≡ v.pluck
    go true = refl
    go false = refl

next_low : (z : ℕ) → Noise.next z < 2 ^ 32
unfolding Noise.next
next_low z = omega arith

spent-low : (p : Pluck) → (spent p).noise < 2 ^ 32
unfolding spent
spent-low p = go (leb p.left 1)
  where
    go : (b : Bool)
        → (cond b silent (record { amplitude = p.amplitude; left = p.left - 1; noise = Noise.next p.noise })).noise
        < 2 ^ 32
    go true = omega arith
    go false = next_low p.noise

stepped-low : (v : Voice) (r : ℕ → ℤ) → Low (stepped v r)
unfolding stepped
stepped-low v r = rw (settled-pluck (heard v r) (fed_too v.Na v.waiting r)) (spent-low v.pluck)

committed-low : (v : Voice) (o : Option Waiting) → Low v → Low (committed v o)
committed-low v none h = h
committed-low v (some w) h = h

done-low : (v : Voice) (r : ℕ → ℤ) (c : Call) → Seed c → Low v → Low (done v r c)
unfolding done
done-low v r (block xs n) z h = h
done-low v r (loss G) z h = h
done-low v r (pluck a n s) z h = z
done-low v r (prepare k to) z h = rw (settled-pluck v (some (start k to))) h
done-low v r (instant to) z h = h
done-low v r commit z h = committed-low v v.waiting h
done-low v r withdraw z h = h

block-low : (xs : List ℤ) (v : State) → Low v.voice → Low (block_after v xs).voice
unfolding step
block-low [] v h = h
block-low (x ∷ xs) v h = block-low xs (step v x) (stepped-low v.voice (back v.line))

call-low : (v : State) (c : Call) → Seed c → Low v.voice → Low (call v c).voice
unfolding call
call-low v c z h = go (eqb (number v.voice c) 0)
  where
    go : (b : Bool) → Low (cond b (block_after (told v c) (inputs c)) v).voice
    go true = block-low (inputs c) (told v c) (done-low v.voice (back v.line) c z h)
    go false = h

from_low : (cs : List Call) (v : State) → Seeds cs → Low v.voice → Low (from v cs).voice
from_low [] v z h = h
from_low (c ∷ cs) v z h = from_low cs (call v c) z.1 (call-low v c z.0 h)

opened-low : (o : Opening) → Low (opened o)
unfolding opened
opened-low o = go (eqb (refusal (open_limits o)) 0)
  where
    go : (b : Bool) → Low (cond b (resting (tuning o.N o.L o.d) o.G o.Na) (resting (tuning 1 1 4096) 0 0))
    go true = omega arith
    go false = omega arith

reached : (o : Opening) (cs : List Call) → Seeds cs → Storable (from (fresh o) cs)
reached o cs z = record {
  whole = from-whole cs (fresh o) (fresh-whole o);
  noise = from_low cs (fresh o) z (opened-low o);
}

-- ---- calls one after the other
numbers-append : (v : State) (cs ds : List Call) → numbers v (cs ++ ds) ≡ numbers v cs ++ numbers (from v cs) ds
numbers-append v [] ds = refl
numbers-append v (c ∷ cs) ds = ap (λ (ns : List ℕ). number v.voice c ∷ ns) (numbers-append (call v c) cs ds)

counts-append : (v : State) (cs ds : List Call) → counts v (cs ++ ds) ≡ counts v cs ++ counts (from v cs) ds
counts-append v [] ds = refl
counts-append v (c ∷ cs) ds = ap (λ (ns : List ℕ). count v.voice (back v.line) c ∷ ns) (counts-append (call v c) cs ds)

pub goes_on : (o : Opening) (cs post : List Call) (v : State) → v ≡ from (fresh o) cs → Goes o cs post v
goes_on o cs post v e =
    let y : puts (fresh o) cs ++ puts v post ≡ puts (fresh o) (cs ++ post)
    = rw e (sym (puts-append (fresh o) cs post)) in
    record {
      state = rw e (sym (from-append (fresh o) cs post));
      codes = rw e (sym (numbers-append (fresh o) cs post));
      counted = rw e (sym (counts-append (fresh o) cs post));
      samples = y;
      click = subst (λ (ys : List ℤ). ClickFigure o (cs ++ post) ys) (sym y) (click o (cs ++ post));
    }

pub resumed : Resumed
resumed = record {
  reached = reached;
  goes = λ o cs post z.
      let v = from (fresh o) cs in
      goes_on o cs post (loads (stored v)).state (ap (λ (r : Loaded). r.state) (Trip.back v (reached o cs z)));
}
