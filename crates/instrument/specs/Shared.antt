-- With the share (o, cs) a string is the voice that cs leave after o; and when there is a share. Document 02,
-- L11. Statements alone: proofs/Shared.antt proves `Shared`.
use Rattle.std.specs.Prelude.{◌≡◌, List, ◌++◌, ℕ, ◌≤◌}
use Rattle.std.proofs.Math.Option.{none, some}
use Rattle.rule.specs.Calls.{Call, Opening}
use Rattle.rule.specs.State.{fresh, from}
use Rattle.form.specs.Parts.{stored}
use Rattle.form.specs.Theorems.{Seeds}
use Rattle.instrument.specs.Strings.{Play, silent, plays}
use Rattle.instrument.specs.Share.{Share, loaded}

-- there is one
pub record Has (k : ℕ) (ps : List Play) : Type 0 where
  pub o : Opening
  pub cs : List Call
  pub share : Share k ps o cs

-- the voice that some of the calls cs leave after o is the one that the bytes store
pub record Resumes (bytes : List ℕ) (o : Opening) (cs : List Call) : Type 0 where
  pub pre : List Call
  pub post : List Call
  pub split : cs ≡ pre ++ post
  pub seeds : Seeds pre
  pub bytes_are : bytes ≡ stored (from (fresh o) pre)

pub record Shared : Type 0 where
  pub state : (k : ℕ) (ps : List Play) (o : Opening) (cs : List Call) → k ≤ 5 → Share k ps o cs
      → plays silent ps k ≡ from (fresh o) cs
  -- as long as no bytes are taken up, and again from the next Open or refused load on
  pub has : (k : ℕ) (ps : List Play) → loaded k ps ≡ none → Has k ps
  -- bytes that were taken up: only that of a voice that stores them, so other bytes have none
  pub only : (k : ℕ) (ps : List Play) (bytes : List ℕ) (o : Opening) (cs : List Call)
      → loaded k ps ≡ some bytes → Share k ps o cs → Resumes bytes o cs
