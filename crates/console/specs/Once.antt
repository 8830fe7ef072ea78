-- The invariants of what the console keeps have one proof each at most, as a ghost field must.
use Rattle.std.specs.Prelude.{◌≡◌, refl, List, [], ◌∷◌, ℕ, ◌≤◌, ◌<◌, ℤ, nat_abs, Option, Some, None}
use mathlib.Core.Path.{ap, ◌∙◌}
use Rattle.std.specs.Coded.{×_prop, Unit-prop, le_prop}
use Rattle.std.proofs.Props.{props}
use Rattle.allpass.specs.Bounds.{Within, none, more}
use Rattle.voice.specs.declared.Head.{Head}
use Rattle.voice.specs.declared.Waiting.{Waiting}
use Rattle.voice.specs.declared.Waiting.TheVariants.{Idle, Prepared}
use Rattle.voice.specs.Valid.{Valid, Fit, Waiting-valid}
use Rattle.strings.specs.Rows.{Voices}
use Rattle.tube.specs.declared.Junction.{Junction}
use Rattle.tube.specs.declared.Move.{Move}
use Rattle.tube.specs.Valid.{Valid as Joined, Waits}

pub Within-prop : (m : ℕ) (xs : List ℤ) → IsProp (Within m xs)
Within-prop m [] none none = refl
Within-prop m (x ∷ xs) (more a p) (more b q) =
    ap (λ (c : nat_abs x ≤ m). more c p) (le_prop a b) ∙ ap (more b) (Within-prop m xs p q)

pub Waiting-prop : (advance : ℕ) (w : Waiting) → IsProp (Waiting-valid advance w)
Waiting-prop advance Idle = Unit-prop
Waiting-prop advance (Prepared k e n) = Prim.hlevel (props, Within-prop)

pub Valid-prop : (h : Head) (l : List ℤ) → IsProp (Valid h l)
Valid-prop h l = Prim.hlevel (props, Within-prop, Waiting-prop)

pub Waits-prop : (advance : ℕ) (w : Option Move) → IsProp (Waits advance w)
Waits-prop advance None = Unit-prop
Waits-prop advance (Some m) = Prim.hlevel props

pub Joined-prop : (j : Junction) → IsProp (Joined j)
Joined-prop j = Prim.hlevel (props, Waits-prop)

pub Voices-prop : (hs : List (List ℕ)) (ls : List (List ℤ)) → IsProp (Voices hs ls)
Voices-prop hs ls = Prim.hlevel (props, Valid-prop)
