-- `jivaszte::jivaszte_merge` meets its contract: what the merge returned is in its result and in what is lent.
-- Assumes nothing.
use Rattle.std.proofs.Common.{◌≡◌, ℕ, Result, Ok, Err, refl}
use Rattle.std.specs.Result.{result_unwrap_or}
use Rattle.refusal.specs.declared.Refusal.{Refusal}
use Rattle.merge.specs.Walk.{length_of}
use Rattle.jivaszte.proofs.jivaszte_merge.Goals as goal

long : (x : Result ℕ Refusal) → result_unwrap_or x 0 ≡ length_of x
long (Ok n) = refl
long (Err r) = refl

pub returns : goal.returns
returns c = rw (c.code.ensures, c.unwrap_or.ensures, long c.merge-answer.result) c.merge-answer.ensures
