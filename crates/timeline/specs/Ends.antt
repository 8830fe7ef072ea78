-- Records one after the other on an outline, each of which is accepted. Definitions alone.
use Rattle.std.specs.Prelude.{◌≡◌, List, [], ◌∷◌, ℕ}
use Rattle.outline.specs.Outline.{Outline, from, result, record_calls}

module _ (N Na : ℕ) where
  pub data Ends : Outline → List (List ℕ) → Type 0 where
    done : {o : Outline} → Ends o []
    next : {o : Outline} {r : List ℕ} {rs : List (List ℕ)} → result Na o (record_calls N Na r o) ≡ 0
        → Ends (from Na o (record_calls N Na r o)) rs → Ends o (r ∷ rs)
