-- specs/Refusals.antt: each number from outside.

use mathlib.Core.Path.{◌≡◌, refl, sym, ap, ◌∙◌}
use mathlib.Core.Bool.{Bool, true, false, cond}
use mathlib.Core.Logic.{◌↔◌}
use mathlib.Core.List.{List, [], ◌∷◌, ◌++◌, reverse, reverse-cons}
use Prim.Native.Nat.{ℕ, zero, suc, ◌+◌, ◌*◌, ◌-◌, ◌≤◌, ◌<◌}
use native.Mathlib.Omega.{arith}
use native.Mathlib.Decide.{dec_lt}
use lib.Dec.{eqb}
use lib.IntN.{ℤ, pos, negsuc, nat_abs}
use lib.ListN.{length, take, drop, get_or, length-reverse, get_or-append}
use lib.Seq.{take_at, drop_at, get_or_at}
use borrow.Author.Tests.{eqb-true, eqb-false, eq-eqb, ne_eqb}
use Rattle.integer.specs.Rounding.{M}
use Rattle.refusal.specs.Limits.{Between, Limit, refusal}
use Rattle.refusal.specs.Orders.{orders, lowest, highest, most_loss, most_advance, Takes}
use Rattle.refusal.specs.Ranges.{InRange}
use Rattle.refusal.specs.Returned.{Kept, AllKept, none, more}
use Rattle.refusal.proofs.Ranges.{in_range, ordered, delayed}
use Rattle.refusal.proofs.Tests as Tests
use Rattle.samples.specs.Samples.{loudest}
use Rattle.allpass.specs.Stored.{entries}
use Rattle.allpass.specs.declared.State.{State as Three}
use Rattle.rule.specs.Voice.{Tuning, Pluck}
use Rattle.rule.specs.State.{State, back}
use Rattle.form.specs.Numbers.{Change, Numbers, state_of, refused}
use Rattle.form.specs.Limits.{at_most, filter_limits, amount, change_limits, pluck_limits, limits}
use Rattle.form.specs.Parts.{stored, held_in}
use Rattle.form.specs.Loads.{length_limit, part_limit, load_number, loads, room_limit, store_number, store_length, left}
use Rattle.form.specs.Refusals.{form_size, FilterIn, AllZero, ChangeIn, none, announced, asked, InLimits}
use Rattle.form.specs.Refusals.{LoadReturns, StoreReturns, Refuses}
use Rattle.form.proofs.Limits.{both, parted, less, passed, passes, limits-above, quiet, unquiet, four, four-parts, none_left}
use Rattle.form.proofs.Places.{form-size, reads}
use Rattle.form.proofs.Theorems.{nothing}

-- ---- a filter
zero-only : (x : ℤ) → nat_abs x ≤ 0 → x ≡ pos 0
zero-only (pos zero) h = refl
zero-only (pos (suc n)) h = absurd (omega arith)
zero-only (negsuc n) h = absurd (omega arith)

silent-only : {x : ℤ} → x ≡ pos 0 → nat_abs x ≤ 0
silent-only e = rw e (omega arith)

past_two : (N : ℕ) (v : Three) → 1 ≤ N → loudest (drop N (entries v)) ≤ 0 → N ≤ 1 → v.v2 ≡ pos 0
past_two zero v l h n = absurd (omega arith)
past_two (suc zero) v l h n = zero-only v.v2 (omega arith)
past_two (suc (suc N)) v l h n = absurd (omega arith)

past_three : (N : ℕ) (v : Three) → 1 ≤ N → loudest (drop N (entries v)) ≤ 0 → N ≤ 2 → v.v3 ≡ pos 0
past_three zero v l h n = absurd (omega arith)
past_three (suc zero) v l h n = zero-only v.v3 (omega arith)
past_three (suc (suc zero)) v l h n = zero-only v.v3 (omega arith)
past_three (suc (suc (suc N))) v l h n = absurd (omega arith)

none-past : (N : ℕ) (v : Three) → 1 ≤ N → N ≤ 3 → (N ≤ 1 → v.v2 ≡ pos 0) → (N ≤ 2 → v.v3 ≡ pos 0)
    → loudest (drop N (entries v)) ≤ 0
none-past zero v l m f g = absurd (omega arith)
none-past (suc zero) v l m f g =
    omega (arith, silent-only (f (omega arith)), silent-only (g (omega arith)))
none-past (suc (suc zero)) v l m f g = omega (arith, silent-only (g (omega arith)))
none-past (suc (suc (suc zero))) v l m f g = omega arith
none-past (suc (suc (suc (suc N)))) v l m f g = absurd (omega arith)

module _ (t : Tuning) (v : Three) where
  filter_in_lem : AllKept (filter_limits t v) → FilterIn t v
  filter_in_lem (more o (more l (more d (more w (more p none))))) = record {
    tuned =
        in_range t.N t.d (record { least = o.least; most = o.most })
        (record { least = d.least; most = d.most });
    long = record { least = l.least; most = l.most };
    v1 = omega (arith, w.most);
    v2 = omega (arith, w.most);
    v3 = omega (arith, w.most);
    second = past_two t.N v o.least p.most;
    third = past_three t.N v o.least p.most;
  }

  in_filter : FilterIn t v → AllKept (filter_limits t v)
  in_filter f =
      let o = ordered f.tuned in
      let d = delayed f.tuned in
      more (record { least = o.least; most = o.most })
      (more (record { least = f.long.least; most = f.long.most })
      (more (record { least = d.least; most = d.most })
      (more (less 23 (2 * M) (loudest (entries v)) (omega arith))
      (more (less 23 0 (loudest (drop t.N (entries v)))
      (none-past t.N v o.least o.most f.second f.third)) none))))

-- ---- a change
same-three : (v : Three) {a b c : ℤ} → v.v1 ≡ a → v.v2 ≡ b → v.v3 ≡ c
    → v ≡ record { v1 = a; v2 = b; v3 = c }
same-three v a b c = rw (← a, ← b, ← c)

same-tuning : (t : Tuning) {N L d : ℕ} → t.N ≡ N → t.L ≡ L → t.d ≡ d → t ≡ record { N = N; L = L; d = d }
same-tuning t N L d = rw (← N, ← L, ← d)

zeros : (c : Change) → c.kind ≡ 0 → amount c ≤ 0 → AllZero c
zeros c e h =
    let t = c.tuning in
    let v = c.state in
    let N : t.N ≡ 0 = omega arith in
    let L : t.L ≡ 0 = omega arith in
    let d : t.d ≡ 0 = omega arith in
    record {
      kind = e;
      tuned = same-tuning t N L d;
      taken = omega arith;
      state =
          same-three v (zero-only v.v1 (omega arith)) (zero-only v.v2 (omega arith))
          (zero-only v.v3 (omega arith));
    }

nothing-there : (c : Change) → AllZero c → amount c ≤ 0
nothing-there c z = rw (z.tuned, z.taken, z.state) (omega arith)

change_in : (Na k : ℕ) (c : Change) → c.kind ≡ k → AllKept (change_limits Na k c) → ChangeIn Na c
change_in Na zero c e (more z none) = none (zeros c e z.most)
change_in Na (suc zero) c e (more n f) = announced e n.most (filter_in_lem c.tuning c.state f)
change_in Na (suc (suc k)) c e (more z (more n f)) =
    asked (omega (arith, z.most)) n.most (filter_in_lem c.tuning c.state f)

in_change : (Na : ℕ) (c : Change) → ChangeIn Na c → AllKept (change_limits Na c.kind c)
in_change Na c (none z) = rw z.kind (more (less 23 0 (amount c) (nothing-there c z)) none)
in_change Na c (announced e n f) =
    rw e (more (less 23 Na (suc c.taken) n) (in_filter c.tuning c.state f))
in_change Na c (asked e n f) =
    rw e
    (more (less 23 0 0 (omega arith)) (more (less 23 Na c.taken n) (in_filter c.tuning c.state f)))

-- ---- a pluck
pluck_in : (p : Pluck) → AllKept (pluck_limits p)
    → (p.amplitude ≤ 255) × ((p.left ≤ 2048) × (p.left ≡ 0 → (p.amplitude ≡ 0) × (p.noise ≡ 0)))
pluck_in p (more a (more l (more n none))) = (
  a.most,
  (
    l.most,
    λ e.
        let s = none_left p e n.most in
        (ap (λ (q : Pluck). q.amplitude) s, ap (λ (q : Pluck). q.noise) s),
  ),
)

spent_all : (p : Pluck) → (p.left ≡ 0 → (p.amplitude ≡ 0) × (p.noise ≡ 0))
    → cond (eqb p.left 0) (p.amplitude + p.noise) 0 ≤ 0
spent_all p f = go (eqb p.left 0) refl
  where
    go : (b : Bool) → eqb p.left 0 ≡ b → cond b (p.amplitude + p.noise) 0 ≤ 0
    go true e = omega (arith, f (eqb-true p.left 0 e))
    go false e = omega arith

-- ---- all limits
module _ (i : Numbers) where
  kept_in : AllKept (limits i) → InLimits i
  unfolding limits
  kept_in ks =
      let f = filter_limits i.tuning i.state in
      let u = pluck_limits i.pluck in
      let p = parted (f ++ four i ++ u) ks in
      let q = parted (f ++ four i) p.0 in
      let r = parted f q.0 in
      let (g, (a, (y, l))) = four-parts i r.1 in
      let (b, (n, o)) = pluck_in i.pluck q.1 in
      record {
        filter = filter_in_lem i.tuning i.state r.0;
        loss = g.most;
        advance = a.most;
        last = y;
        change = change_in i.Na i.change.kind i.change refl p.1;
        amplitude = b;
        left = n;
        over = o;
        line = quiet i.line l;
      }

  in_kept : InLimits i → AllKept (limits i)
  unfolding limits
  in_kept h =
      both (both (both (in_filter i.tuning i.state h.filter)
      (more (less 4 most_loss i.G h.loss)
      (more (less 5 most_advance i.Na h.advance)
      (more (less 23 M (nat_abs i.last) h.last)
      (more (less 10 M (loudest i.line) (unquiet h.line)) none)))))
      (more (less 7 255 i.pluck.amplitude h.amplitude)
      (more (less 23 2048 i.pluck.left h.left)
      (more (less 23 0 (cond (eqb i.pluck.left 0) (i.pluck.amplitude + i.pluck.noise) 0)
      (spent_all i.pluck h.over)) none))))
      (in_change i.Na i.change h.change)

  good_in : Between 0 (refusal (limits i)) 0 ↔ InLimits i
  good_in = (
    λ b. kept_in (passed (limits i) (limits-above i) (omega (arith, b.most))),
    λ h. record { least = omega arith; most = omega (arith, passes (in_kept h)) },
  )

-- ---- loading
module _ (s : List ℕ) where
  abbrev Whole-length : Type 0
  Whole-length = length s ≡ form_size (get_or s 0 0)

  abbrev Between-length : Type 0
  Between-length = Between (length_limit s).low (length s) (length_limit s).high

  long-is : Between-length → Whole-length
  long-is b = omega (arith, b.least, b.most, form-size s)

  is-long : Whole-length → Between-length
  is-long e = record { least = omega (arith, form-size s); most = omega (arith, form-size s) }

  loading : LoadReturns s (held_in s) (load_number s)
  unfolding load_number
  loading =
      let w = length_limit s in
      let g = part_limit (held_in s) in
      let first = Tests.refused [] w (g ∷ []) tt in
      let second = Tests.refused (w ∷ []) g [] tt in
      let all = Tests.accepted w (g ∷ []) tt in
      let i = good_in (held_in s) in
      record {
        missing = (λ e l. first.0 e (is-long l), λ f. first.1 (λ b. f (long-is b)));
        outside = (
          λ e. let p = second.0 e in (long-is p.0, λ h. p.1 (i.1 h)),
          λ p. second.1 (is-long p.0, λ b. p.1 (i.0 b)),
        );
        accepted = (
          λ e. let p = all.0 e in (long-is p.0, i.0 p.1),
          λ p. all.1 (is-long p.0, i.1 p.1),
        );
      }

number_is : (s : List ℕ) → (loads s).refusal ≡ load_number s
unfolding loads
number_is s = refl

loaded : (s : List ℕ) → (loads s).refusal ≡ 0 → (loads s).state ≡ state_of (held_in s)
unfolding loads
loaded s e = rw (eq-eqb (load_number s) 0 e)

-- ---- storing
module _ (v : State) (old : List ℕ) where
  storing : StoreReturns v old (store_number v (length old))
  unfolding store_number
  storing =
      let r = room_limit v (length old) in
      let one = Tests.refused [] r [] tt in
      let all = Tests.accepted r [] tt in
      record {
        short = (
          λ e. short (one.0 e),
          λ h. one.1 (λ b. absurd (omega (arith, b.most))),
        );
        accepted = (
          λ e. let b = all.0 e in omega (arith, b.most),
          λ h. all.1 (record { least = omega arith; most = omega arith }),
        );
      }
    where
      short : (Between 0 (length (stored v) - length old) 0 → ⊥) → length old < length (stored v)
      short f = go (dec_lt (length old) (length (stored v)))
        where
          go : Dec (length old < length (stored v)) → length old < length (stored v)
          go (yes h) = h
          go (no h) = absurd (f (record { least = omega arith; most = omega arith }))

  untouched : (store_number v (length old) ≡ 0 → ⊥) → (store_length v (length old) ≡ 0) × (left v old ≡ old)
  unfolding store_length left
  untouched f = let e = ne_eqb (store_number v (length old)) 0 f in (rw e, rw e)

  wrote : store_number v (length old) ≡ 0
      → let n = store_length v (length old) in
      (n ≡ length (stored v)) × (take n (left v old) ≡ stored v) × (drop n (left v old) ≡ drop n old)
  unfolding store_length left
  wrote z =
      let e = eq-eqb (store_number v (length old)) 0 z in
      let s = stored v in
      let r = drop (length s) old in
      (rw e, rw e (take_at s r (length s) refl), rw e (drop_at s r (length s) refl))

-- ---- the line
pub turned_at : (xs : List ℤ) (i : ℕ) → i < length xs
    → get_or (reverse xs) i (pos 0) ≡ get_or xs (length xs - suc i) (pos 0)
turned_at [] i h = absurd (omega arith)
turned_at (x ∷ xs) i h = rw (reverse-cons x xs) (go (dec_lt i (length xs)) (turned_at xs i))
  where
    go : Dec (i < length xs) → (i < length xs → get_or (reverse xs) i (pos 0) ≡ get_or xs (length xs - suc i) (pos 0))
        → get_or (reverse xs ++ (x ∷ [])) i (pos 0) ≡ get_or (x ∷ xs) (suc (length xs) - suc i) (pos 0)
    go (yes g) f =
        let e : suc (length xs) - suc i ≡ suc (length xs - suc i) = omega arith in
        get_or-append (reverse xs) (x ∷ []) (pos 0) i (omega (arith, length-reverse xs))
        ∙ f g
        ∙ ap (λ (k : ℕ). get_or (x ∷ xs) k (pos 0)) (sym e)
    go (no g) f =
        let e : suc (length xs) - suc i ≡ 0 = omega arith in
        get_or_at (reverse xs) x [] (pos 0) i (omega (arith, length-reverse xs))
        ∙ ap (λ (k : ℕ). get_or (x ∷ xs) k (pos 0)) (sym e)

oldest : (i : Numbers) → length i.line ≡ 2112 → (k : ℕ) → k < 2112
    → back (state_of i).line (2112 - k) ≡ get_or i.line k (pos 0)
oldest i n k h =
    let e : length i.line - suc (2112 - k - 1) ≡ k = omega arith in
    turned_at i.line (2112 - k - 1) (omega arith) ∙ ap (λ (j : ℕ). get_or i.line j (pos 0)) e

pub refuses : Refuses
refuses = record {
  reads = reads;
  loading = λ s. rw (number_is s) (loading s);
  loaded = loaded;
  nothing = nothing;
  oldest = oldest;
  storing = storing;
  untouched = untouched;
  wrote = wrote;
}
