-- What the number of a list of tests says of the values, in ≤: the first test that fails, or none.
-- Assumes nothing.
use mathlib.Core.Path.{◌≡◌, refl}
use mathlib.Core.Logic.{◌↔◌}
use mathlib.Core.List.{List, [], ◌∷◌, ◌++◌}
use lib.Dec.{T}
use Rattle.refusal.specs.Limits.{Between, Limit, refusal}
use Rattle.refusal.specs.Returned.{Kept, AllKept, none, more, numbered}
use Rattle.refusal.proofs.Returned.{returned}

-- the value of l is within its limits
abbrev pub In : Limit → Type 0
In l = Between l.low l.value l.high

-- those of the tests pre are, and that of l is not
abbrev pub First : List Limit → Limit → Type 0
First [] l = In l → ⊥
First (k ∷ pre) l = In k × First pre l

-- those of l and of ls are
abbrev pub All : Limit → List Limit → Type 0
All l [] = In l
All l (k ∷ ls) = In l × All k ls

within : {l : Limit} → Kept l → In l
within k = record { least = k.least; most = k.most }

kept : (l : Limit) → In l → Kept l
kept l b = record { least = b.least; most = b.most }

first : {pre : List Limit} (l : Limit) → AllKept pre → (Kept l → ⊥) → First pre l
first l none f = λ b. f (kept l b)
first l (more k ks) f = (within k, first l ks f)

unfirst : (pre : List Limit) (l : Limit) → First pre l → AllKept pre × (Kept l → ⊥)
unfirst [] l f = (none, λ k. f (within k))
unfirst (k ∷ pre) l f = let p = unfirst pre l f.1 in (more (kept k f.0) p.0, p.1)

all : {ls : List Limit} (l : Limit) → Kept l → AllKept ls → All l ls
all l k none = within k
all l k (more {l = l'} k' ks) = (within k, all l' k' ks)

unall : (l : Limit) (ls : List Limit) → All l ls → AllKept (l ∷ ls)
unall l [] p = more (kept l p) none
unall l (k ∷ ls) p = more (kept l p.0) (unall k ls p.1)

split : {l : Limit} {ls : List Limit} → AllKept (l ∷ ls) → Kept l × AllKept ls
split (more k ks) = (k, ks)

-- each number, and 0
pub refused : (pre : List Limit) (l : Limit) (post : List Limit) → T (numbered (pre ++ l ∷ post))
    → (refusal (pre ++ l ∷ post) ≡ l.number) ↔ First pre l
refused pre l post t =
    let r = (returned (pre ++ l ∷ post) t).refused pre post l refl in
    (λ e. let p = r.0 e in first l p.0 p.1, λ f. r.1 (unfirst pre l f))

pub accepted : (l : Limit) (ls : List Limit) → T (numbered (l ∷ ls)) → (refusal (l ∷ ls) ≡ 0) ↔ All l ls
accepted l ls t =
    let r = (returned (l ∷ ls) t).accepted in
    (λ e. let p = split (r.0 e) in all l p.0 p.1, λ p. r.1 (unall l ls p))
