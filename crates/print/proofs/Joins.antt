-- Texts printed one after the other are one text, as long as they are at most 64 bytes together.
use mathlib.Core.Path.{◌≡◌, refl, sym, ap, ◌∙◌}
use mathlib.Core.List.{List, [], ◌++◌, append_assoc}
use Prim.Native.Nat.{ℕ, ◌+◌, ◌≤◌, ◌<◌}
use native.Mathlib.Omega.{arith}
use native.Mathlib.Nat.{add_assoc, le_refl}
use lib.ListN.{length, take, drop, length-append}
use lib.Seq.{paste, paste-zero, take-length, take-paste, drop-paste, drop-drop, length-paste}
use Rattle.write.specs.Written.{Wrote}
use Rattle.write.proofs.Places.{wrote-long}
use Rattle.print.specs.Printed.{all, less, MadeRoom, left, made, Printed}

-- ---- the buffer
module _ (b : List ℕ) (a : ℕ) (t u : List ℕ) (h : a + (length t + length u) ≤ length b) where
  abbrev c : List ℕ
  c = paste b a t (length t)

  pastes : paste c (a + length t) u (length u) ≡ paste b a (t ++ u) (length (t ++ u))
  pastes =
      let i : a ≤ length b = omega arith in
      let front = take-paste b a t (length t) i (le_refl (length t)) in
      let back : drop (a + length t + length u) c ≡ drop (a + (length t + length u)) b =
      sym (drop-drop (length u) (a + length t) c)
      ∙ ap (drop (length u)) (drop-paste b a t (length t) i (le_refl (length t)))
      ∙ drop-drop (length u) (a + length t) b
      ∙ ap (λ (n : ℕ). drop n b) (add_assoc a (length t) (length u)) in
      rw (front, back, take-length t, take-length u, take-length (t ++ u), length-append t u)
      (ap (λ (l : List ℕ). l ++ drop (a + (length t + length u)) b) (append_assoc (take a b) t u))

  c-long : length c ≡ length b
  c-long = length-paste b a t (length t) (omega arith) (le_refl (length t))

-- ---- what is written
-- t and then u, where both fit
wrote-fits : {t u b c d : List ℕ} {a k r : ℕ} → a + (length t + length u) ≤ length b
    → Wrote t b a c k → Wrote u c k d r → Wrote (t ++ u) b a d r
wrote-fits {t} {u} {b} {c} {d} {a} {k} {r} h w v =
    let n = length-append t u in
    let p = w.fits (omega arith) in
    let l : length c ≡ length b = ap length p.1 ∙ c-long b a t u h in
    let q = v.fits (omega (arith, p.0, l)) in
    record {
      fits = λ g. (omega (arith, p.0, q.0, n), q.1 ∙ rw (p.0, p.1) (pastes b a t u h));
      full = λ g. absurd (omega (arith, n));
    }

-- and where there is no room at all
wrote_none : {t u b c d : List ℕ} {a k r : ℕ} → length b < a → Wrote t b a c k → Wrote u c k d r
    → Wrote (t ++ u) b a d r
wrote_none {t} {u} {b} {c} {d} {a} {k} {r} h w v =
    let p = w.full (omega arith) in
    let l : length c ≡ length b = ap length p.1 in
    let q = v.full (omega (arith, p.0, l)) in
    record { fits = λ g. absurd (omega arith); full = λ g. (q.0 ∙ p.0, q.1 ∙ p.1) }

-- ---- what is printed
-- nothing is printed where room is made
pub begun : {b : List ℕ} {at k : ℕ} → MadeRoom at k → Printed [] b at b k
begun {b} {at} {k} m = record {
  place = k;
  room = m;
  wrote = record { fits = λ g. (omega arith, paste-zero b k []); full = λ g. (refl, refl) };
}

pub printed : {t b c : List ℕ} {at k r : ℕ} → MadeRoom at k → Wrote t b k c r → Printed t b at c r
printed m w = record { place = _; room = m; wrote = w }

pub held : {t b c : List ℕ} {at r : ℕ} → Printed t b at c r → length c ≡ length b
held p = wrote-long p.wrote

pub joined : {t u b c d : List ℕ} {at k r : ℕ} → length b ≡ 4096 → length t + length u ≤ 64
    → Printed t b at c k → Wrote u c k d r → Printed (t ++ u) b at d r
joined {t} {u} {b} {c} {d} {at} {k} {r} e h p w = go p.room p.wrote
  where
    go : {a : ℕ} → MadeRoom at a → Wrote t b a c k → Printed (t ++ u) b at d r
    go (left l) v = printed (left l) (wrote-fits (omega arith) v w)
    go (made l all) v = printed (made l all) (wrote-fits (omega arith) v w)
    go (made l less) v = printed (made l less) (wrote_none (omega arith) v w)
