-- The limits of the numbers of a stored voice, in one list: "23 a part outside its limits or not in this form".
-- Document 02, L10. Definitions alone.
use Rattle.std.specs.Prelude.{cond, List, [], ◌∷◌, ◌++◌, ℕ, zero, suc, ◌+◌, ◌*◌, eqb, nat_abs, drop}
use Rattle.integer.specs.Rounding.{M}
use Rattle.refusal.specs.Limits.{Limit}
use Rattle.refusal.specs.Orders.{order, delay}
use Rattle.samples.specs.Samples.{loudest}
use Rattle.allpass.specs.Stored.{entries}
use Rattle.allpass.specs.declared.State.{State as Three}
use Rattle.rule.specs.Voice.{Tuning, Pluck}
use Rattle.rule.specs.Tests.{long, lossy, early, strong, loud}
use Rattle.form.specs.Numbers.{Change, Numbers}

-- at most high; the number of a limit is not returned, but that one is not met
abbrev pub at_most : ℕ → ℕ → Limit
at_most high n = record { number = 23; low = 0; value = n; high = high }

-- a tuning, and "Each number of either state lies within −2M to 2M", "zero past the order"
abbrev pub filter_limits : Tuning → Three → List Limit
filter_limits t v =
    order t.N
    ∷ long t.L
    ∷ delay t.N t.d
    ∷ at_most (2 * M) (loudest (entries v))
    ∷ at_most 0 (loudest (drop t.N (entries v)))
    ∷ []

-- all the numbers beside the kind: 0 where each of them is
abbrev pub amount : Change → ℕ
amount c = c.tuning.N + c.tuning.L + c.tuning.d + c.taken + loudest (entries c.state)

-- by kind: "No change .. is all zeros"; "samples taken (counted to Na, below it in kind 1)"
abbrev pub change_limits : ℕ → ℕ → Change → List Limit
change_limits Na zero c = at_most 0 (amount c) ∷ []
change_limits Na (suc zero) c = at_most Na (suc c.taken) ∷ filter_limits c.tuning c.state
change_limits Na (suc (suc k)) c = at_most 0 k ∷ at_most Na c.taken ∷ filter_limits c.tuning c.state

-- "no steps left, is all zeros"
abbrev pub pluck_limits : Pluck → List Limit
pluck_limits p =
    strong p.amplitude
    ∷ at_most 2048 p.left
    ∷ at_most 0 (cond (eqb p.left 0) (p.amplitude + p.noise) 0)
    ∷ []

unfoldable pub limits : Numbers → List Limit
limits i =
    filter_limits i.tuning i.state
    ++ (lossy i.G ∷ early i.Na ∷ at_most M (nat_abs i.last) ∷ loud i.line ∷ [])
    ++ pluck_limits i.pluck
    ++ change_limits i.Na i.change.kind i.change
