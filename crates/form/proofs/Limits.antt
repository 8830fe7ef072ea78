-- The one list of limits and the invariant of `rule`: each gives the other.

use mathlib.Core.Path.{◌≡◌, refl, sym, ap, subst, ◌∙◌}
use mathlib.Core.Bool.{Bool, true, false, cond}
use mathlib.Core.List.{List, [], ◌∷◌, ◌++◌, reverse, reverse-cons}
use mathlib.Core.Option.{Option, none, some}
use Prim.Native.Nat.{ℕ, zero, suc, ◌+◌, ◌*◌, ◌≤◌, ◌<◌}
use native.Mathlib.Omega.{arith}
use lib.Dec.{eqb}
use lib.IntN.{ℤ, nat_abs}
use lib.ListN.{length, drop, length-reverse}
use borrow.Author.Tests.{eqb-true, eq-eqb}
use Rattle.integer.specs.Rounding.{M}
use Rattle.refusal.specs.Limits.{Limit, met, refusal}
use Rattle.refusal.specs.Orders.{orders, most_loss, most_advance}
use Rattle.refusal.specs.Returned.{Kept, AllKept, none, more}
use Rattle.refusal.proofs.Returned.{here, past, is-kept, kept-is}
use Rattle.samples.specs.Samples.{loudest}
use Rattle.allpass.proofs.Bounds.{append-within}
use Rattle.allpass.specs.Bounds.{Within, none, more}
use Rattle.allpass.specs.Stored.{stored, entries, held}
use Rattle.allpass.specs.declared.State.{State as Three}
use Rattle.allpass.proofs.Stored.{length-held}
use Rattle.rule.specs.Voice.{Tuning, announced, asked, Kind, Waiting, Pluck, silent}
use Rattle.rule.specs.Tests.{lossy, early, loud}
use Rattle.rule.specs.State.{State}
use Rattle.rule.specs.Valid.{Tunable, Filled, Coming, Plucked, Whole}
use Rattle.rule.proofs.Keeps.{none-some}
use Rattle.rule.proofs.States.{take_within}
use Rattle.form.specs.Numbers.{Change, Numbers, kind_of, change_of, numbers_of, waits, waiting_of, state_of}
use Rattle.form.specs.Limits.{at_most, filter_limits, amount, change_limits, pluck_limits, limits}

-- ---- lists of limits
pub both : {ls ms : List Limit} → AllKept ls → AllKept ms → AllKept (ls ++ ms)
both none m = m
both (more k ks) m = more k (both ks m)

pub parted : (ls : List Limit) {ms : List Limit} → AllKept (ls ++ ms) → AllKept ls × AllKept ms
parted [] m = (none, m)
parted (l ∷ ls) (more k ks) = let p = parted ls ks in (more k p.0, p.1)

pub less : (k high n : ℕ) → n ≤ high → Kept (record { number = k; low = 0; value = n; high = high })
less k high n h = record { least = omega arith; most = h }

-- numbers above 0
abbrev Above : List Limit → Type 0
Above [] = Unit {0}
Above (l ∷ ls) = (0 < l.number) × Above ls

pub passed : (ls : List Limit) → Above ls → refusal ls ≡ 0 → AllKept ls
passed [] a e = none
passed (l ∷ ls) a e = go (met l) refl (passed ls a.1)
  where
    go : (b : Bool) → met l ≡ b → (refusal ls ≡ 0 → AllKept ls) → AllKept (l ∷ ls)
    go true i f = absurd (omega (arith, sym (here l ls i) ∙ e, a.0))
    go false i f = more (is-kept l i) (f (past l ls i refl ∙ e))

pub passes : {ls : List Limit} → AllKept ls → 0 ≡ refusal ls
passes none = refl
passes (more {l} {ls} k ks) = past l ls (kept-is l k) (passes ks)

coming_above : (Na k : ℕ) (c : Change) → Above (change_limits Na k c)
coming_above Na zero c = omega arith
coming_above Na (suc zero) c = omega arith
coming_above Na (suc (suc k)) c = omega arith

pub limits-above : (i : Numbers) → Above (limits i)
unfolding limits
limits-above i =
    let c = coming_above i.Na i.change.kind i.change in
    let n : (k : ℕ) → 0 < suc k = λ k. omega arith in
    (n 0, (n 1, (n 2, (n 22, (n 22, (n 3, (n 4, (n 22, (n 9, (n 6, (n 22, (n 22, c))))))))))))

-- ---- magnitudes
pub quiet : {B : ℕ} (xs : List ℤ) → loudest xs ≤ B → Within B xs
quiet [] h = none
quiet (x ∷ xs) h = more {x = x} (omega arith) (quiet xs (omega arith))

pub unquiet : {B : ℕ} {xs : List ℤ} → Within B xs → loudest xs ≤ B
unquiet none = omega arith
unquiet (more p h) = omega (arith, unquiet h)

pub turned_within : {B : ℕ} {xs : List ℤ} → Within B xs → Within B (reverse xs)
turned_within none = none
turned_within (more {x} {v = xs} p h) =
    rw (reverse-cons x xs) (append-within (turned_within h) (more p none))

-- ---- a filter
module _ (t : Tuning) (v : Three) where
  pub filter_tunes : AllKept (filter_limits t v) → Tunable t × Filled t.N (held t.N v)
  filter_tunes (more o (more l (more d (more w (more p none))))) = (
    record {
      takes = record { least = o.least; most = o.most; low = d.least; high = d.most };
      short = l.least;
      long = l.most;
    },
    record {
      many = length-held t.N v o.most;
      within = take_within t.N (quiet (entries v) w.most);
    },
  )

pub fits : {B : ℕ} {q : List ℤ} → length q ≤ orders → Within B q
    → (loudest (entries (stored q)) ≤ B) × (loudest (drop (length q) (entries (stored q))) ≤ 0)
unfolding stored
fits h none = (omega arith, omega arith)
fits h (more p none) = (omega arith, omega arith)
fits h (more p (more r none)) = (omega arith, omega arith)
fits h (more p (more r (more s none))) = (omega arith, omega arith)
fits h (more p (more r (more s (more u w)))) = absurd (omega arith)

pub filter-kept : (t : Tuning) (q : List ℤ) → Tunable t → Filled t.N q → AllKept (filter_limits t (stored q))
filter-kept t q f g =
    let k = f.takes in
    let n : length q ≤ orders = omega (arith, k.most, g.many) in
    let p = fits n g.within in
    let past : loudest (drop t.N (entries (stored q))) ≤ 0 = rw (← g.many) p.1 in
    more (record { least = k.least; most = k.most })
    (more (record { least = f.short; most = f.long })
    (more (record { least = k.low; most = k.high })
    (more (less 23 (2 * M) (loudest (entries (stored q))) p.0)
    (more (less 23 0 (loudest (drop t.N (entries (stored q)))) past) none))))

-- ---- a change
came : (Na : ℕ) (k : Kind) (c : Change) → c.taken ≤ Na → (k ≡ announced → c.taken < Na)
    → AllKept (filter_limits c.tuning c.state) → (w : Waiting) → some (waits k c) ≡ some w → Coming Na w
came Na k c n e f w i =
    let p = filter_tunes c.tuning c.state f in
    let j : waits k c ≡ w = cc in
    let g : Coming Na (waits k c) = record { fit = p.0; counted = n; early = e; state = p.1 } in
    subst (λ (u : Waiting). Coming Na u) j g

pub change_comes : (Na k : ℕ) (c : Change) → AllKept (change_limits Na k c)
    → (w : Waiting) → waiting_of k c ≡ some w → Coming Na w
change_comes Na zero c ks w e = absurd (none-some e)
change_comes Na (suc zero) c (more n f) w e =
    came Na announced c (omega (arith, n.most)) (λ i. n.most) f w e
change_comes Na (suc (suc k)) c (more z (more n f)) w e =
    came Na asked c n.most (λ i. absurd (unlike i)) f w e
  where
    unlike : asked ≡ announced → ⊥
    unlike i = let z : ◌≡◌ {A = ℕ} 0 1 = cc in omega arith

nothing_comes : loudest (entries (stored [])) ≤ 0
unfolding stored
nothing_comes = omega arith

pub coming_kept : (Na : ℕ) (o : Option Waiting) → ((w : Waiting) → o ≡ some w → Coming Na w)
    → AllKept (change_limits Na (change_of o).kind (change_of o))
coming_kept Na none f = more (less 23 0 (amount (change_of none)) (omega (arith, nothing_comes))) none
coming_kept Na (some w) f = by_kind w.kind refl
  where
    g : Coming Na w
    g = f w refl

    kept : AllKept (filter_limits w.tuning (stored w.state))
    kept = filter-kept w.tuning w.state g.fit g.state

    by_kind : (k : Kind) → w.kind ≡ k → AllKept (change_limits Na (kind_of k) (change_of (some w)))
    by_kind announced e = more (less 23 Na (suc w.taken) (g.early e)) kept
    by_kind asked e =
        more (less 23 0 0 (omega arith)) (more (less 23 Na w.taken g.counted) kept)

-- ---- a pluck
all-zero : {a l n : ℕ} → a ≡ 0 → l ≡ 0 → n ≡ 0
    → ◌≡◌ {A = Pluck} (record { amplitude = a; left = l; noise = n }) silent
all-zero a l n = cc

pub none_left : (p : Pluck) → p.left ≡ 0 → cond (eqb p.left 0) (p.amplitude + p.noise) 0 ≤ 0 → p ≡ silent
none_left p e h =
    let l : p.amplitude + p.noise ≤ 0 = rw (eq-eqb p.left 0 e) at h in
    let a : p.amplitude ≡ 0 = omega arith in
    let n : p.noise ≡ 0 = omega arith in
    all-zero a e n

pub pluck-plucks : (p : Pluck) → AllKept (pluck_limits p) → Plucked p
pluck-plucks p (more a (more l (more n none))) =
    record { amplitude = a.most; left = l.most; over = λ e. none_left p e n.most }

left-none : (p : Pluck) → Plucked p → cond (eqb p.left 0) (p.amplitude + p.noise) 0 ≤ 0
left-none p h = go (eqb p.left 0) refl
  where
    go : (b : Bool) → eqb p.left 0 ≡ b → cond b (p.amplitude + p.noise) 0 ≤ 0
    go true e =
        let s = h.over (eqb-true p.left 0 e) in
        omega (arith, ap (λ (q : Pluck). q.amplitude + q.noise) s)
    go false e = omega arith

pub pluck-kept : (p : Pluck) → Plucked p → AllKept (pluck_limits p)
pluck-kept p h =
    more (less 7 255 p.amplitude h.amplitude)
    (more (less 23 2048 p.left h.left)
    (more (less 23 0 (cond (eqb p.left 0) (p.amplitude + p.noise) 0) (left-none p h)) none))

-- ---- all of it
module _ (i : Numbers) where
  abbrev pub four : List Limit
  four = lossy i.G ∷ early i.Na ∷ at_most M (nat_abs i.last) ∷ loud i.line ∷ []

  pub four-parts : AllKept four → Kept (lossy i.G) × (Kept (early i.Na) × ((nat_abs i.last ≤ M) × (loudest i.line ≤ M)))
  four-parts (more g (more a (more y (more l none)))) = (g, (a, (y.most, l.most)))

  pub limits-whole : AllKept (limits i) → length i.line ≡ 2112 → Whole (state_of i)
  unfolding limits
  limits-whole ks n =
      let f = filter_limits i.tuning i.state in
      let u = pluck_limits i.pluck in
      let p = parted (f ++ four ++ u) ks in
      let q = parted (f ++ four) p.0 in
      let r = parted f q.0 in
      let t = filter_tunes i.tuning i.state r.0 in
      let (g, (a, (y, l))) = four-parts r.1 in
      record {
        voice = record {
          fit = t.0;
          loss = g.most;
          advance = a.most;
          state = t.1;
          last = y;
          waiting = change_comes i.Na i.change.kind i.change p.1;
          pluck = pluck-plucks i.pluck q.1;
        };
        many = length-reverse i.line ∙ n;
        within = turned_within (quiet i.line l);
      }

pub whole-limits : (v : State) → Whole v → AllKept (limits (numbers_of v))
unfolding limits
whole-limits v h =
    let u = v.voice in
    let k = h.voice in
    both (both (both (filter-kept u.tuning u.state k.fit k.state)
    (more (less 4 most_loss u.G k.loss)
    (more (less 5 most_advance u.Na k.advance)
    (more (less 23 M (nat_abs u.last) k.last)
    (more (less 10 M (loudest (reverse v.line)) (unquiet (turned_within h.within))) none)))))
    (pluck-kept u.pluck k.pluck))
    (coming_kept u.Na u.waiting k.waiting)
