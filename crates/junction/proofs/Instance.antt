-- Both filters of one junction: the instance of specs/Instance.antt, from `Click`.
use mathlib.Core.Path.{◌≡◌, refl}
use mathlib.Core.List.{List, [], ◌∷◌}
use Prim.Native.Nat.{ℕ, zero, suc, ◌≤◌, ◌<◌}
use native.Mathlib.Omega.{arith}
use lib.IntN.{ℤ, pos, negsuc, nat_abs, ◌-ℤ◌}
use lib.ListN.{get_or}
use Rattle.rule.specs.Click.{figure}
use Rattle.junction.specs.Junction.{Side, from_left, from_right, Two, at, settle, step}
use Rattle.junction.specs.Calls.{Opening, Call, move, sample, number, open_junction, accept}
use Rattle.junction.specs.History.{History, call, after, new}
use Rattle.junction.specs.Click.{NoneBy}
use Rattle.junction.specs.Instance.{two, o, post, pre, cs, Instance}
use Rattle.junction.proofs.Click.{click}

no_move : {x : Two ℤ} {d : ℕ} → sample x ≡ move d → ⊥
no_move e = let z : ◌≡◌ {A = ℕ} 0 1 = cc in omega arith

none_by : (m : ℕ) (h : History) → NoneBy m h post
none_by m h =
    (λ d e. absurd (no_move e), (λ d e. absurd (no_move e), (λ d e. absurd (no_move e), (λ d e. absurd (no_move e), tt))))

inputs_are : (after o (cs (pos 0) (pos 0))).inputs
    ≡ record { a = pos 0 ∷ pos 1000 ∷ pos 7 ∷ pos 5 ∷ []; b = pos 0 ∷ negsuc 1999 ∷ pos 9 ∷ pos 6 ∷ [] }
unfolding call number open_junction accept step settle
inputs_are = refl

quiet : (s : Side) (i : ℕ) → i < 1 → get_or (at s (after o (cs (pos 0) (pos 0))).inputs) i (pos 0) ≡ pos 0
quiet from_left zero l = rw inputs_are
quiet from_right zero l = rw inputs_are
quiet s (suc i) l = absurd (omega arith)

exactly : (s : Side)
    → get_or (at s (after o (cs (pos 0) (pos 0))).filters) 3 (pos 0)
    ≡ new s 5000 (at s (after o (cs (pos 0) (pos 0))).inputs) 3
unfolding call number open_junction accept step settle
exactly s =
    (click o (cs (pos 0) (pos 0)) (pre (pos 0) (pos 0)) post 5000 3 s refl refl (none_by 3 (call (after o (pre (pos 0) (pos 0))) (move 5000))) (omega arith)
    (omega arith)).same (quiet s)

nearly : (s : Side)
    → nat_abs (get_or (at s (after o (cs (pos 300) (negsuc 400))).filters) 3 (pos 0)
    -ℤ new s 5000 (at s (after o (cs (pos 300) (negsuc 400))).inputs) 3) ≤ 6291456
unfolding call number open_junction accept step settle figure
nearly s =
    (click o (cs (pos 300) (negsuc 400)) (pre (pos 300) (negsuc 400)) post 5000 3 s refl refl (none_by 3 (call (after o (pre (pos 300) (negsuc 400))) (move 5000)))
    (omega arith) (omega arith)).near

pub instance : Instance
instance = record { exactly = exactly; nearly = nearly }
