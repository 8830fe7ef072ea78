-- The instances of specs/Instances.antt: by the theorems, and the bytes and samples by computation.
use mathlib.Core.Path.{◌≡◌, refl, sym, ap, subst, ◌∙◌}
use mathlib.Core.Bool.{true, false, true≢false}
use mathlib.Core.List.{List, [], ◌∷◌, ◌++◌}
use Prim.Native.Nat.{ℕ, zero, suc}
use native.Mathlib.Omega.{arith}
use lib.IntN.{ℤ, pos, negsuc}
use lib.ListN.{get_or, replicate}
use Rattle.integer.specs.Rounding.{floor, nearest, clip}
use Rattle.integer.specs.Cut.{cut, R, Q}
use Rattle.octets.specs.Octets as Octets
use Rattle.thiran.specs.Formula.{a, factor}
use Rattle.thiran.specs.Coefficients.{coefficient, coefficients}
use Rattle.allpass.specs.Allpass.{inner, next, out}
use Rattle.allpass.specs.Stored as Three
use Rattle.noise.specs.Noise as Noise
use Rattle.rule.specs.Voice.{output, written, settled, stepped, noise, spent}
use Rattle.rule.specs.Calls.{block, loss, pluck, ask, commit, number, done, opened}
use Rattle.rule.specs.State.{silence, step, sounds, call, put, puts}
use Rattle.rule.specs.History as History
use Rattle.rule.specs.Click.{Figure, committing}
use Rattle.rule.proofs.Ruling.{none-block}
use Rattle.form.specs.Parts.{encoded, parts, refused_parts, map_byte, packed, chosen, stored, held_in}
use Rattle.form.specs.Loads.{Loaded, loads, panel}
use Rattle.form.specs.Refusals.{InLimits}
use Rattle.form.specs.Theorems.{Storable, Goes}
use Rattle.form.specs.Instances.{o, t, cs, v, bytes, post, samples, Instances}
use Rattle.form.proofs.Theorems.{round_trip, shows}
use Rattle.form.proofs.Resumed.{resumed}
use Rattle.form.proofs.Refusals.{refuses}

bytes_are : stored v ≡ bytes
unfolding
    silence opened number done call settled Three.stored Octets.bytes encoded parts refused_parts map_byte packed chosen
    stored
bytes_are = refl

can : Storable v
can = resumed.reached o cs (omega arith, (tt, (tt, tt)))

all_there : (j : ℕ) → get_or (replicate 8 true) j true ≡ false → ⊥
all_there zero e = true≢false e
all_there (suc zero) e = true≢false e
all_there (suc (suc zero)) e = true≢false e
all_there (suc (suc (suc zero))) e = true≢false e
all_there (suc (suc (suc (suc zero)))) e = true≢false e
all_there (suc (suc (suc (suc (suc zero))))) e = true≢false e
all_there (suc (suc (suc (suc (suc (suc zero)))))) e = true≢false e
all_there (suc (suc (suc (suc (suc (suc (suc zero))))))) e = true≢false e
all_there (suc (suc (suc (suc (suc (suc (suc (suc j)))))))) e = true≢false e

goes_on : Goes o cs post (loads bytes).state
goes_on =
    subst (λ (s : List ℕ). Goes o cs post (loads s).state) bytes_are
    (resumed.goes o cs post (omega arith, (tt, (tt, tt))))

put-out : puts (loads bytes).state post ≡ samples
unfolding
    floor nearest cut R Q clip factor a coefficient coefficients inner next out Noise.next Noise.value noise spent
    output written settled stepped number done step sounds call put opened silence
put-out =
    ap (λ (r : Loaded). puts r.state post)
    (ap loads (sym bytes_are) ∙ round_trip.back v can)

figured : Figure samples (History.after o (cs ++ post)).s t 6 6 7
unfolding
    floor nearest cut R Q clip factor a coefficient coefficients inner next out Noise.next Noise.value noise spent
    output written settled stepped number opened done put call History.read History.step History.call
figured =
    subst (λ (ys : List ℤ). Figure ys (History.after o (cs ++ post)).s t 6 6 7) put-out
    (goes_on.click
    (pluck 200 100 7 ∷ loss 60000 ∷ ask t ∷ block (pos 1000 ∷ pos 0 ∷ pos 0 ∷ pos 0 ∷ pos 0 ∷ pos 0 ∷ []) 6 ∷ [])
    (block (pos 0 ∷ pos 0 ∷ []) 2 ∷ []) commit t 6 6 7 refl (committing refl refl) (none-block 7 _ _ _, tt)
    (omega arith) (omega arith))

new_is : History.new t (History.after o (cs ++ post)).s 7 ≡ negsuc 3252381
unfolding
    floor nearest cut R Q clip factor a coefficient coefficients inner next out Noise.next Noise.value noise spent
    output written settled stepped number opened done History.read History.step History.call History.new
new_is = refl

-- the loss stands at bytes 1 to 4
too_much : InLimits (held_in (2 ∷ 0 ∷ 0 ∷ 1 ∷ 0 ∷ [])) → ⊥
unfolding Octets.number
too_much h =
    let e : (held_in (2 ∷ 0 ∷ 0 ∷ 1 ∷ 0 ∷ [])).G ≡ 65536 = (refuses.reads (2 ∷ 0 ∷ 0 ∷ 1 ∷ 0 ∷ [])).G in
    omega (arith, h.loss, e)

pub instances : Instances
unfolding panel call number done opened settled
instances = record {
  stored_is = bytes_are;
  storable = can;
  back = ap loads (sym bytes_are) ∙ round_trip.back v can;
  needless = round_trip.needless v can (replicate 8 true) refl (λ j e. absurd (all_there j e));
  shows = ap panel (sym bytes_are) ∙ shows.shows v can;
  goes = goes_on;
  puts_out = put-out;
  figure = figured;
  new_filter = new_is;
  outside = (refuses.loading (2 ∷ 0 ∷ 0 ∷ 1 ∷ 0 ∷ [])).outside.1 (refl, too_much);
  too_long = (refuses.loading (2 ∷ 255 ∷ 255 ∷ 0 ∷ 0 ∷ 0 ∷ [])).missing.1 (λ e. absurd (omega (arith, e)));
}
