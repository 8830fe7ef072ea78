-- The items of a list as the code holds them: which calls they are, and which words are read as one.
-- Definitions alone.
use Rattle.std.specs.Prelude.{◌≡◌, List, ℕ, ◌≤◌, ℤ, take}
use Rattle.rule.specs.Calls as Rule
use Rattle.rule.specs.Calls.{block, loss, pluck, announce, ask, instant, commit, withdraw}
use Rattle.voice.specs.Struct.{tuning_of}
use Rattle.list.specs.declared.words.Call.{Call}
use Rattle.list.specs.declared.words.Call.TheVariants as Made
use Rattle.list.specs.declared.words.Item.{Item}
use Rattle.list.specs.declared.words.Item.TheVariants as An
use Rattle.list.specs.Words.{called, last_kind, takes, lends}

abbrev pub made_of : Call → Rule.Call
made_of (Made.Loss g) = loss g
made_of (Made.Pluck p) = pluck p.amplitude p.left p.noise
made_of (Made.Announce t) = announce (tuning_of t)
made_of (Made.Instant t) = instant (tuning_of t)
made_of (Made.Ask t) = ask (tuning_of t)
made_of Made.Commit = commit
made_of Made.Withdraw = withdraw

-- where xs is what is left of the input
abbrev pub item_of : Item → List ℤ → Rule.Call
item_of (An.Block n m) xs = block (take n xs) m
item_of (An.Call c) xs = made_of c

-- how many samples it takes from the input, and how long an output it lends
abbrev pub inputs_of : Item → ℕ
inputs_of (An.Block n m) = n
inputs_of (An.Call c) = 0

abbrev pub outputs_of : Item → ℕ
outputs_of (An.Block n m) = m
outputs_of (An.Call c) = 0

-- the words of a kind and three numbers are the item i
pub record Reads (kind a b c : ℕ) (i : Item) : Type 0 where
  pub known : kind ≤ last_kind
  pub call : (xs : List ℤ) → item_of i xs ≡ called kind a b c xs
  pub inputs : inputs_of i ≡ takes kind a
  pub outputs : outputs_of i ≡ lends kind b
