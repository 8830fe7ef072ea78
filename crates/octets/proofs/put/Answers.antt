-- `octets::put` meets its contract: what is left, laid from the next place on, makes the whole.
use Rattle.std.proofs.Common.{◌≡◌, ℕ, ◌+◌, ◌-◌, ◌/◌, ◌%◌, ◌≤◌, ◌<◌, List, [], ◌∷◌, length, refl, sym, ◌∙◌, arith}
use lib.ListN.{set}
use Rattle.octets.specs.Octets.{bytes, laid}
use Rattle.octets.proofs.Laws.{bytes-step, laid_nil, laid-append, set-laid}
use Rattle.octets.proofs.put.Goals as goal

-- one byte put, the rest still to be laid
turn : (d : List ℕ) (at width k n : ℕ) → k < width → at + k < length d
    → laid (set d (at + k) (n % 256)) (at + (k + 1)) (bytes (width - (k + 1)) (n / 256))
    ≡ laid d (at + k) (bytes (width - k) n)
turn d at width k n h l =
    let e : width - (k + 1) ≡ width - k - 1 = omega arith in
    let t : at + (k + 1) ≡ at + k + 1 = omega arith in
    rw (t, set-laid d (at + k) (n % 256) l, bytes-step (width - k) n (omega arith), e)
    (laid-append d (at + k) (n % 256 ∷ []) (omega arith) (bytes (width - k - 1) (n / 256)))

last : (d : List ℕ) (to k n : ℕ) → k ≤ 0 → laid d to (bytes k n) ≡ d
unfolding bytes
last d to k n h = let z : k ≡ 0 = omega arith in rw z (laid_nil d to)

pub loop-k-init : goal.loop-k-init
loop-k-init c =
    let a = c.args in
    let at : a.at + 0 ≡ a.at = omega arith in
    let width : a.width - 0 ≡ a.width = omega arith in
    rw (at, width) refl

pub loop-k-preserved : goal.loop-k-preserved
loop-k-preserved c =
    let l = c.loop-k in
    turn l.out c.args.at c.args.width l.k l.left (omega arith) (omega arith) ∙ l.invariant

pub returns : goal.returns
returns c =
    let l = c.loop-k in
    let a = c.args in
    sym (last l.out (a.at + l.k) (a.width - l.k) l.left (omega arith)) ∙ l.invariant
