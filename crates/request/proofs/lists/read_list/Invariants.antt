-- `request::lists::read_list` meets its contract: what the words that were read spell stands at the front of the array.
use Rattle.std.proofs.Common.{take}
use Rattle.request.proofs.Words.{Behind}
use Rattle.request.proofs.lists.read_list.Given as goal

abbrev pub invariant-loop-count : goal.invariant-loop-count
invariant-loop-count g l = Behind g.T.Spelled.spells l.s (take l.count l.place-items) l.rest
