-- At each step of a list no change has taken effect, or one is in force, and it is the only one.
-- Assumes nothing.
use mathlib.Core.Path.{◌≡◌, refl, sym, ap, ◌∙◌}
use mathlib.Core.List.{List, [], ◌∷◌, ◌++◌}
use mathlib.Core.Option.{Option, none, some}
use Prim.Native.Nat.{ℕ, ◌+◌, ◌-◌, ◌≤◌, ◌<◌}
use native.Mathlib.Omega.{arith}
use native.Mathlib.Decide.{dec_lt, ℕ_discrete}
use lib.IntN.{ℤ}
use Rattle.rule.specs.Voice.{Tuning, announced, asked}
use Rattle.rule.specs.Calls.{Call, block, loss, pluck, prepare, instant, commit, withdraw, Opening}
use Rattle.rule.specs.Calls.{number}
use Rattle.rule.specs.History.{History, steps, call, from, fresh}
use Rattle.rule.specs.Click.{Change, announcing, instantly, committing, NoneBy}
use Rattle.rule.specs.Demands.{Rules, Single}
use Rattle.rule.proofs.Refusals.{refuses}

-- ---- when a call takes effect, if it is an accepted change
abbrev when : History → Call → Option ℕ
when h (block xs n) = none
when h (loss G) = none
when h (pluck a n z) = none
when h (prepare announced to) = some (steps h + h.voice.Na)
when h (prepare asked to) = none
when h (instant to) = some (steps h)
when h commit = some (steps h)
when h withdraw = none

pub change : {h : History} {c : Call} {t : Tuning} {a e : ℕ} → Change h c t a e
    → (number h.voice c ≡ 0) × (when h c ≡ some e)
change (announcing z) = (z, refl)
change (instantly z) = (z, refl)
change (committing z p) = (z, refl)

-- the call c at h has taken effect as a change by step m, or has not
data Taken (m : ℕ) (h : History) (c : Call) : Type 0 where
  late : ((t : Tuning) (a e : ℕ) → Change h c t a e → m < e) → Taken m h c
  soon : (t : Tuning) (a e : ℕ) → Change h c t a e → e ≤ m → Taken m h c

unchanged : (h : History) (c : Call) {t : Tuning} {a e : ℕ} → when h c ≡ none → Change h c t a e → ⊥
unchanged h c p k = let q = (change k).1 in let z : ◌≡◌ {A = ℕ} 0 1 = cc in omega arith

pub none-block : (m : ℕ) (h : History) (xs : List ℤ) (n : ℕ) → (t : Tuning) (a e : ℕ)
    → Change h (block xs n) t a e → m < e
none-block m h xs n t a e k = absurd (unchanged h (block xs n) refl k)

-- an accepted call c that is a change before step e
record At (h : History) (c : Call) (e : ℕ) : Type 0 where
  pub t : Tuning
  pub a : ℕ
  pub change : Change h c t a e

changed : (m : ℕ) (h : History) (c : Call) (e : ℕ) → (number h.voice c ≡ 0 → At h c e) → Taken m h c
changed m h c e make = go (ℕ_discrete (number h.voice c) 0) (dec_lt m e)
  where
    go : Dec (number h.voice c ≡ 0) → Dec (m < e) → Taken m h c
    go (yes z) (yes l) =
        late (λ t' a' e' k. let i : e ≡ e' = cc ((change (make z).change).1, (change k).1) in omega arith)
    go (yes z) (no l) = let k = make z in soon k.t k.a e k.change (omega arith)
    go (no z) q = late (λ t' a' e' k. absurd (z (change k).0))

taken : (m : ℕ) (h : History) (c : Call) → Taken m h c
taken m h (block xs n) = late (none-block m h xs n)
taken m h (loss G) = late (λ t a e k. absurd (unchanged h (loss G) refl k))
taken m h (pluck i j s) = late (λ t a e k. absurd (unchanged h (pluck i j s) refl k))
taken m h (prepare announced to) =
    changed m h (prepare announced to) (steps h + h.voice.Na)
    (λ z. record { t = to; a = h.voice.Na; change = announcing z })
taken m h (prepare asked to) = late (λ t a e k. absurd (unchanged h (prepare asked to) refl k))
taken m h (instant to) =
    changed m h (instant to) (steps h)
    (λ z. record { t = to; a = h.voice.Na; change = instantly z })
taken m h commit =
    changed m h commit (steps h)
    (λ z.
    let k = (refuses.commits h.voice).accepted.0 z in
    record { t = k.w.tuning; a = steps h - h.began; change = committing z k.held })
taken m h withdraw = late (λ t a e k. absurd (unchanged h withdraw refl k))

-- ---- the change in force at step m
pub data Covered (m : ℕ) (h : History) (cs : List Call) : Type 0 where
  before : NoneBy m h cs → Covered m h cs
  ruled : (pre : List Call) (c : Call) (post : List Call) → Rules m h cs pre c post → Covered m h cs

pub covered : (m : ℕ) (h : History) (cs : List Call) → Covered m h cs
covered m h [] = before tt
covered m h (c ∷ cs) = go (taken m h c) (covered m (call h c) cs)
  where
    go : Taken m h c → Covered m (call h c) cs → Covered m h (c ∷ cs)
    go (late f) (before n) = before (f, n)
    go (soon t a e k l) (before n) =
        ruled [] c cs (record { t = t; a = a; e = e; split = refl; change = k; since = l; until = n })
    go q (ruled pre c' post k) =
        ruled (c ∷ pre) c' post
        (record {
          t = k.t;
          a = k.a;
          e = k.e;
          split = ap (λ (x : List Call). c ∷ x) k.split;
          change = k.change;
          since = k.since;
          until = k.until;
        })

-- a change among calls none of which takes effect by step m takes effect later
none-at : (m : ℕ) (h : History) (pre post : List Call) {c : Call} {t : Tuning} {a e : ℕ}
    → NoneBy m h (pre ++ c ∷ post)
    → Change (from h pre) c t a e → m < e
none-at m h [] post n k = n.0 _ _ _ k
none-at m h (d ∷ pre) post n k = none-at m (call h d) pre post n.1 k

-- so the first call c of two is no change in force, if a later one, c', took effect by then
first : (m : ℕ) (h : History) (pre post post' : List Call) (c c' d : Call) {t : Tuning} {a e : ℕ}
    → c ∷ post ≡ d ∷ pre ++ c' ∷ post'
    → NoneBy m (call h c) post
    → Change (from (call h d) pre) c' t a e
    → e ≤ m
    → ⊥
first m h pre post post' c c' d s n k l =
    let i : c ≡ d = cc in
    let j : post ≡ pre ++ c' ∷ post' = cc in
    omega (arith, none-at m (call h d) pre post' (rw (i, j) at n) k)

only : (m : ℕ) (h : History) (pre pre' post post' : List Call) (c c' : Call) {t t' : Tuning} {a a' e e' : ℕ}
    → pre ++ c ∷ post ≡ pre' ++ c' ∷ post'
    → Change (from h pre) c t a e
    → e ≤ m
    → NoneBy m (call (from h pre) c) post
    → Change (from h pre') c' t' a' e'
    → e' ≤ m
    → NoneBy m (call (from h pre') c') post'
    → pre ≡ pre'
only m h [] [] post post' c c' s k l n k' l' n' = refl
only m h [] (d ∷ pre) post post' c c' s k l n k' l' n' = absurd (first m h pre post post' c c' d s n k' l')
only m h (d ∷ pre) [] post post' c c' s k l n k' l' n' =
    absurd (first m h pre post' post c' c d (sym s) n' k l)
only m h (d ∷ pre) (d' ∷ pre') post post' c c' s k l n k' l' n' =
    let i : d' ≡ d = cc in
    let j : pre ++ c ∷ post ≡ pre' ++ c' ∷ post' = cc in
    let r = only m (call h d) pre pre' post post' c c' j k l n (rw i at k') l' (rw i at n') in
    cc

pub single : (o : Opening) (cs : List Call) (m : ℕ) → Single o cs m
single o cs m pre pre' post post' c c' k k' =
    only m (fresh o) pre pre' post post' c c' (sym k.split ∙ k'.split)
    k.change k.since k.until k'.change k'.since k'.until
