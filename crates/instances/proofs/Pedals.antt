-- The instances of what waits and of L3: by crate rule's theorems, and what the lists give by computation.
use mathlib.Core.Path.{◌≡◌, refl, sym, ap, ◌∙◌}
use mathlib.Core.List.{List, [], ◌∷◌, ◌++◌}
use mathlib.Core.Option.{none, some}
use Prim.Native.Nat.{ℕ, ◌≤◌, ◌<◌}
use native.Mathlib.Omega.{arith}
use Rattle.integer.specs.Rounding.{clip, floor, nearest}
use Rattle.integer.specs.Cut.{cut, R, Q}
use Rattle.thiran.specs.Formula.{a, factor}
use Rattle.thiran.specs.Coefficients.{coefficient, coefficients}
use Rattle.allpass.specs.Allpass.{inner, next, out}
use Rattle.rule.specs.Voice.{announced, asked, noise, spent, output, written, settled, stepped}
use Rattle.rule.specs.Calls.{announce, ask, commit, number, count, opened, done}
use Rattle.rule.specs.History as History
use Rattle.rule.specs.History.{read, after}
use Rattle.rule.specs.State.{State, step, sounds, call, put, silence, fresh}
use Rattle.rule.specs.Valid.{Whole}
use Rattle.rule.specs.Demands.{Awaited, Pending, announcement, request}
use Rattle.rule.proofs.Keeps.{none-some, same_some, announced-asked}
use Rattle.rule.proofs.States.{fresh-whole, from-whole}
use Rattle.rule.proofs.Waits.{waits}
use Rattle.rule.proofs.Pedal.{pedals}
use Rattle.rule.proofs.Withdrawn.{withdraws}
use Rattle.rule.proofs.Itself.{commits-itself}
use Rattle.instances.specs.Pedals.{o, t, pre, two, three, Waiting, Pedalling, loud, between, zeros}
use Rattle.instances.specs.Pedals.{dropped, left, Withdrawing, start, mid, slid, retuned, Committing}
use Rattle.instances.specs.Live.{Gives}

-- 20 and 21 are refusals
not_20 : ◌≡◌ {A = ℕ} 20 0 → ⊥
not_20 e = omega arith

not_21 : ◌≡◌ {A = ℕ} 21 0 → ⊥
not_21 e = omega arith

-- the voice in which it took effect has nothing waiting
switched : Awaited (after o (pre ++ announce t ∷ three)).voice announced t → ⊥
unfolding
    read History.call History.step number opened done stepped settled output written Q noise spent coefficients
    coefficient a factor nearest floor cut R clip inner next out
switched k = none-some k.held

-- the one that waits was asked for
other : Awaited (after o (pre ++ ask t ∷ three)).voice announced t → ⊥
unfolding
    read History.call History.step number opened done stepped settled output written Q noise spent coefficients
    coefficient a factor nearest floor cut R clip inner next out
other k = announced-asked k.kind (ap (λ w. w.kind) (same_some (sym k.held)))

pub waiting : Waiting
unfolding
    read History.call History.step number opened done stepped settled output written Q noise spent coefficients
    coefficient a factor nearest floor cut R clip inner next out call step put sounds silence
waiting =
    let m : Pending o (pre ++ announce t ∷ two) announced t = announcement pre two refl refl (omega arith) in
    let r : Pending o (pre ++ ask t ∷ three) asked t
    = request pre three refl refl ((λ e z. not_20 z), ((λ e z. absurd e), tt)) in
    record {
      announced_waits = (waits o (pre ++ announce t ∷ two) announced t).1 m;
      announced_pending =
          (waits o (pre ++ announce t ∷ two) announced t).0
          (record { w = _; held = refl; kind = refl; tuning = refl });
      announced_over = λ p. switched ((waits o (pre ++ announce t ∷ three) announced t).1 p);
      announced_codes = refl;
      asked_waits = (waits o (pre ++ ask t ∷ three) asked t).1 r;
      asked_pending =
          (waits o (pre ++ ask t ∷ three) asked t).0 (record { w = _; held = refl; kind = refl; tuning = refl });
      asked_codes = refl;
      asked_alone = λ p. other ((waits o (pre ++ ask t ∷ three) announced t).1 p);
    }

pub pedalling : Pedalling
unfolding
    read History.call History.step number opened done stepped settled output written Q noise spent coefficients
    coefficient a factor nearest floor cut R clip inner next out
pedalling =
    let short : 2 < 3 = omega arith in
    let enough : 3 ≤ 3 = omega arith in
    let early = pedals o pre two t refl ((λ e z. not_20 z), ((λ e z. absurd e), tt)) in
    let late = pedals o pre three t refl ((λ e z. not_20 z), ((λ e z. absurd e), tt)) in
    let accepted = late.accepted.1 enough in
    record { early = early.early.1 short; accepted = accepted; change = late.change accepted }

pub withdrawing : Withdrawing
unfolding
    call step put sounds silence number count opened done stepped settled output written Q noise spent
    coefficients coefficient a factor nearest floor cut R clip inner next out
withdrawing =
    let w = withdraws o loud between zeros t refl (tt, (tt, (not_20, (tt, tt)))) in
    let y : Gives (fresh o) (loud ++ (between ++ zeros)) dropped (0 ∷ 0 ∷ 0 ∷ 21 ∷ 0 ∷ 0 ∷ [])
    (0 ∷ 0 ∷ 0 ∷ 0 ∷ 0 ∷ 0 ∷ []) left
    = record { outputs = refl; codes = refl; runs = refl; voice = refl } in
    record {
      withdrawn = w;
      with-ask = record {
        outputs = w.outputs ∙ y.outputs;
        codes = refl;
        runs = refl;
        voice = ap (λ (v : State). v.voice) w.state ∙ y.voice;
      };
      without-ask = y;
    }

whole : Whole start
whole = from-whole loud (fresh (record { N = 1; L = 3; d = 4500; G = 60000; Na = 2 })) (fresh-whole _)

pub committing : Committing
unfolding
    call step put sounds silence number count opened done stepped settled output written Q noise spent
    coefficients coefficient a factor nearest floor cut R clip inner next out
committing =
    let e = commits-itself start t mid whole refl (tt, (tt, (not_20, (tt, tt)))) refl zeros in
    let y : Gives start (announce t ∷ (mid ++ zeros)) slid (0 ∷ 0 ∷ 0 ∷ 21 ∷ 0 ∷ 0 ∷ [])
    (0 ∷ 0 ∷ 0 ∷ 0 ∷ 0 ∷ 0 ∷ []) retuned
    = record { outputs = refl; codes = refl; runs = refl; voice = refl } in
    record {
      itself = e;
      announced = y;
      asked-for = record {
        outputs = sym e.outputs ∙ y.outputs;
        codes = refl;
        runs = refl;
        voice = sym (ap (λ (v : State). v.voice) e.state) ∙ y.voice;
      };
    }
