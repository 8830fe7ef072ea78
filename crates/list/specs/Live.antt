-- L9 of the routines: a list that announces a change and one that makes it instantly Na samples later, by
-- `perform` in words, and call by call. proofs/Live.antt proves `Equals` and `Chains`. Assumes nothing.
use Rattle.std.specs.Prelude.{◌≡◌, true, List, ◌++◌, ℕ, ℤ, length}
use Rattle.rule.specs.Voice.{Tuning}
use Rattle.rule.specs.Calls.{Call, Opening}
use Rattle.rule.specs.Live.{without, announcing, living, Ahead}
use Rattle.voice.specs.declared.Head.{Head}
use Rattle.voice.specs.Struct.{state_of}
use Rattle.list.specs.Performed.{Performed}
use Rattle.list.specs.Words.{calls, formed}
use Rattle.list.specs.Performed.{Performs}
use Rattle.list.specs.Chain.{Chained}

-- ---- `perform`, by one opening, with one output and one slice of numbers lent
-- the words ws, with the input xs, are the calls cs, and there is room enough: it returns r, and leaves ys in
-- the lent output and ns in the lent numbers
module _ (o : Opening) (before : List ℤ) (places : List ℕ) where
  pub record Run (cs : List Call) (ws : List ℕ) (xs : List ℤ) (r : Performed) (ys : List ℤ) (ns : List ℕ)
      : Type 0 where
    pub encoded : calls ws xs ≡ cs
    pub room : formed ws (length xs) (length before) (length places) ≡ true
    pub performs : Performs o ws xs before places r ys ns

-- equal outputs, equal returned values, and equal numbers but for those at the places k and l
pub record Equal (r q : Performed) (ys us : List ℤ) (ns ms : List ℕ) (k l : ℕ) : Type 0 where
  pub outputs : ys ≡ us
  pub values : r ≡ q
  pub codes : without k ns ≡ without l ms

abbrev pub Equals : Opening → List ℤ → List ℕ → Type 0
Equals o before places =
    (pre : List Call) (to : Tuning) (mid post : List Call) → Ahead o pre to mid
    → (ws vs : List ℕ) (xs zs : List ℤ) (r q : Performed) (ys us : List ℤ) (ns ms : List ℕ)
    → Run o before places (announcing o pre to mid post) ws xs r ys ns
    → Run o before places (living o pre to mid post) vs zs q us ms
    → Equal r q ys us ns ms (length pre) (length (pre ++ mid))

-- ---- the calls, made one after the other by a caller
-- equal samples, equal voices, line and all, and equal numbers and counts but for those at the places i and n
pub record Heard (ys us : List ℤ) (g h : Head) (k l : List ℤ) (ns ms ks js : List ℕ) (i n : ℕ) : Type 0 where
  pub samples : ys ≡ us
  pub voices : state_of g k ≡ state_of h l
  pub codes : without i ns ≡ without n ms
  pub runs : without i ks ≡ without n js

abbrev pub Chains : Opening → Type 0
Chains o =
    (pre : List Call) (to : Tuning) (mid post : List Call) → Ahead o pre to mid
    → (ns ms ks js : List ℕ) (ys us : List ℤ) (g h : Head) (k l : List ℤ)
    → Chained o (announcing o pre to mid post) ns ks ys g k
    → Chained o (living o pre to mid post) ms js us h l
    → Heard ys us g h k l ns ms ks js (length pre) (length (pre ++ mid))
