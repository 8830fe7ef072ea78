-- What the answer is good for, of every opening and every list of calls. A statement alone: proofs/Keeps.antt proves
-- `Keeps` of all of them.
use Rattle.std.specs.Prelude.{◌≡◌, List, ℕ, ◌≤◌, ◌<◌, pos, nat_abs, ◌-ℤ◌, get_or}
use Rattle.rule.specs.Calls.{Call, Opening}
use Rattle.rule.specs.History.{steps, fresh, after, new}
use Rattle.rule.specs.State.{puts}
use Rattle.rule.specs.State as S
use Rattle.rule.specs.Demands.{Rules}
use Rattle.advance.specs.Least.{least_advance}

-- a change to the order N and the delay d whose eliminator took as many samples as `least` says, or more: each sample
-- from its first on, while it is in force, is at most `wanted` from the new filter's
abbrev pub Keeps : Opening → List Call → ℕ → ℕ → ℕ → Type 0
Keeps o cs N d wanted =
    (pre post : List Call) (c : Call) (m : ℕ) (k : Rules m (fresh o) cs pre c post)
    → m < steps (after o cs) → k.t.N ≡ N → k.t.d ≡ d
    → (least_advance N d wanted).refusal ≡ 0 → (least_advance N d wanted).na ≤ k.a
    → nat_abs (get_or (puts (S.fresh o) cs) m (pos 0) -ℤ new k.t (after o cs).s m) ≤ wanted
