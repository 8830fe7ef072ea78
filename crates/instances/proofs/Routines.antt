-- The instances of the routines: by the theorems of crates list and score, the rest by computation.
use mathlib.Core.Path.{◌≡◌, refl, ap, subst, ◌∙◌}
use mathlib.Core.List.{List, [], ◌∷◌}
use Prim.Native.Nat.{ℕ}
use native.Mathlib.Omega.{arith}
use lib.IntN.{ℤ, pos, negsuc}
use lib.ListN.{replicate}
use Rattle.integer.specs.Rounding.{floor, nearest, clip}
use Rattle.integer.specs.Cut.{cut, R, Q}
use Rattle.thiran.specs.Formula.{factor, a}
use Rattle.thiran.specs.Coefficients.{coefficient, coefficients}
use Rattle.allpass.specs.Allpass.{inner, next, out}
use Rattle.allpass.specs.Bounds.{distance, own_figure}
use Rattle.noise.specs.Noise as Noise
use Rattle.record.specs.Record.{field, record_number, fields, rest}
use Rattle.rule.specs.Voice.{noise, spent, output, written, settled, stepped}
use Rattle.rule.specs.Calls.{Call, block, pluck, announce, number, opened, done}
use Rattle.rule.specs.History as History
use Rattle.rule.specs.History.{read, new}
use Rattle.rule.specs.State.{step, sounds, call, put, silence}
use Rattle.rule.specs.Click.{announcing, Click}
use Rattle.rule.proofs.Ruling.{none-block}
use Rattle.samples.specs.Samples.{over}
use Rattle.follow.specs.Follow.{then, act_calls, record_calls}
use Rattle.score.specs.Run.{opening, played, records, run}
use Rattle.score.specs.Played.{Runs}
use Rattle.score.proofs.Calls.{listed}
use Rattle.list.specs.Words.{calls, formed}
use Rattle.list.specs.Performed.{output_after, numbers_after}
use Rattle.list.specs.Live as ListLive
use Rattle.list.proofs.Clicks.{clicks, own_clicks}
use Rattle.list.proofs.Live.{equals}
use Rattle.rule.specs.Live as Live
use Rattle.instances.specs.Live.{two, loud, bass, between, zeros}
use Rattle.instances.proofs.Live.{live_instances}
use Rattle.instances.specs.Routines as Routines
use Rattle.instances.specs.Routines.{o, t, words, input, bytes, lent, returned, made, Performing, Playing}
use Rattle.instances.specs.Routines.{before, places, value, codes, Equally}

-- ---- `perform`
pub performing : Performing
unfolding
    floor nearest cut R Q clip factor a coefficient coefficients inner next out noise spent output written settled
    stepped number opened done read History.step History.call new step sounds call put silence calls formed
    output_after distance own_figure
performing = record {
  room = refl;
  left = refl;
  figure =
      clicks o words input 4 (replicate 9 (pos 77)) refl
      (block (pos 1000000 ∷ negsuc 1999999 ∷ pos 500000 ∷ []) 3 ∷ [])
      (block (replicate 3 (pos 0)) 3 ∷ block (replicate 2 (pos 0)) 2 ∷ []) (announce t) t 2 5 6 refl
      (announcing refl) (none-block 6 _ _ _, (none-block 6 _ _ _, tt)) (omega arith) (omega arith);
  voice = refl;
  filter = refl;
  own_figure_lem =
      own_clicks o words input 4 (replicate 9 (pos 77)) refl
      (block (pos 1000000 ∷ negsuc 1999999 ∷ pos 500000 ∷ []) 3 ∷ [])
      (block (replicate 3 (pos 0)) 3 ∷ block (replicate 2 (pos 0)) 2 ∷ []) (announce t) t 2 5 6 refl
      (announcing refl) (none-block 6 _ _ _, (none-block 6 _ _ _, tt)) (omega arith) (omega arith);
  own_sum = refl;
  own_number = refl;
}

-- ---- a score
runs : Runs bytes lent returned Routines.played
unfolding
    floor nearest cut R Q clip factor a coefficient coefficients inner next out Noise.next Noise.value
    noise spent output written settled stepped number opened done step sounds call put silence
    field record_number fields rest then act_calls record_calls played records run
runs = record { number = refl; place = refl; count = refl; output_is = refl }

made_are : (run bytes 9).calls ≡ made
unfolding
    floor nearest cut R Q clip factor a coefficient coefficients inner next out Noise.next Noise.value
    noise spent output written settled stepped number opened done step sounds call put silence
    field record_number fields rest then act_calls record_calls played records run
made_are = refl

pub playing : Playing
unfolding
    floor nearest cut R Q clip factor a coefficient coefficients inner next out Noise.next Noise.value
    noise spent output written settled stepped number opened done read History.step History.call new step sounds
    call put silence field record_number fields rest then act_calls record_calls played records run
playing =
    let l = listed bytes lent returned Routines.played runs in
    let e : l.calls ≡ made = l.made ∙ made_are in
    record {
      listed = l;
      calls = e;
      figure =
          subst (Click (opening bytes)) e l.click (block [] 0 ∷ pluck 200 3 0 ∷ block (replicate 3 (pos 0)) 3 ∷ [])
          (block (replicate 5 (pos 0)) 5 ∷ []) (announce t) t 2 5 7 refl (announcing refl)
          (none-block 7 _ _ _, tt) (omega arith) (omega arith);
      voice = refl;
      filter = refl;
    }

-- ---- L9 of `perform`
announces :
    ListLive.Run two before places (Live.announcing two loud bass between zeros) Routines.announced Routines.xs
    (value Routines.announced) (Routines.out Routines.announced) (codes Routines.announced)
unfolding calls formed
announces =
    record { encoded = refl; room = refl; performs = record { value = refl; output = refl; codes = refl } }

instantly :
    ListLive.Run two before places (Live.living two loud bass between zeros) Routines.instant Routines.xs
    (value Routines.instant) (Routines.out Routines.instant) (codes Routines.instant)
unfolding calls formed
instantly =
    record { encoded = refl; room = refl; performs = record { value = refl; output = refl; codes = refl } }

pub equally : Equally
unfolding output_after numbers_after calls formed
equally =
    let l = live_instances.orders in
    record {
      announces = announces;
      instantly = instantly;
      equal =
          equals two before places loud bass between zeros l.ahead Routines.announced Routines.instant
          Routines.xs Routines.xs (value Routines.announced) (value Routines.instant)
          (Routines.out Routines.announced) (Routines.out Routines.instant) (codes Routines.announced)
          (codes Routines.instant) announces instantly;
      samples = ap (λ (p : List ℤ). over p before) l.instantly.outputs;
      announced_codes = ap (λ (p : List ℕ). over p places) l.announced.codes;
      instant_codes = ap (λ (p : List ℕ). over p places) l.instantly.codes;
    }
