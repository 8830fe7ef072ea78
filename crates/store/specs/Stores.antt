-- What `store` returns and leaves in the lent slice: document 02, L10. Definitions alone.
use Rattle.std.specs.Prelude.{◌≡◌, List, ℕ, length, Result}
use Rattle.refusal.specs.declared.Refusal.{Refusal}
use Rattle.refusal.specs.Numbers.{code_of, beside}
use Rattle.rule.specs.State.{State}
use Rattle.form.specs.Loads.{store_number, store_length, left}

-- what a store returns by number, and the length: 0 where it is refused
pub record Kept : Type 0 where
  pub refusal : ℕ
  pub length : ℕ

abbrev pub kept : Result ℕ Refusal → Kept
kept r = record { refusal = code_of r; length = beside r }

pub record Stores (v : State) (old new : List ℕ) (r : Kept) : Type 0 where
  pub number : r.refusal ≡ store_number v (length old)
  pub long : r.length ≡ store_length v (length old)
  pub slice : new ≡ left v old
