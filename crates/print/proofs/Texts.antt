-- What is printed of a number, with a sign or without, after a text: the two as one text.
use Rattle.std.proofs.Common.{◌≡◌, ℕ, zero, suc, ◌/◌, ◌%◌, ◌≤◌, ℤ, pos, List, [], ◌∷◌, ◌++◌, length, refl, sym, subst, ◌∙◌, append_assoc, length-append, arith}
use lib.IntN.{negsuc}
use Rattle.io.specs.Digits.{hex_digit_ascii, last_digits}
use Rattle.write.specs.Written as Written
use Rattle.write.specs.Written.{Wrote, Spelled}
use Rattle.print.specs.Printed.{MadeRoom, Printed, fewest, Spells, plain, minus, Number, Signed, Line}
use Rattle.print.specs.Printed.{Hex, Each, none, more}
use Rattle.print.proofs.Joins.{begun, held, joined}

digits_long : (k n : ℕ) → length (last_digits 10 k n) ≡ k
digits_long zero n = refl
digits_long (suc k) n =
    let front = digits_long k (n / 10) in
    omega (arith, front, length-append (last_digits 10 k (n / 10)) (hex_digit_ascii (n % 10) ∷ []))

-- a number after a text
module _ {t b c d : List ℕ} {at k r : ℕ} (e : length b ≡ 4096) (p : Printed t b at c k) where
  counted : {n : ℕ} → length t ≤ 40 → (s : Spelled n c k d r)
      → Printed (t ++ last_digits 10 s.places n) b at d r
  counted {n} h s = joined e (omega (arith, digits_long s.places n, s.most)) p s.wrote

-- with a sign: a text of at most 21 bytes
record Said (x : ℤ) (t b : List ℕ) (at : ℕ) (d : List ℕ) (r : ℕ) : Type 0 where
  text : List ℕ
  spells : Spells x text
  short : length text ≤ 21
  printed : Printed (t ++ text) b at d r

said : {t b c d : List ℕ} {at k r : ℕ} (x : ℤ) → length b ≡ 4096 → length t ≤ 20 → Printed t b at c k
    → Written.Signed x c k d r → Said x t b at d r
said {t} {b} {c} {d} {at} {k} {r} (pos n) e h p s = record {
  text = last_digits 10 s.places n;
  spells = plain (fewest s.fewest);
  short = omega (arith, digits_long s.places n, s.most);
  printed = counted e p (omega arith) s;
}
said {t} {b} {c} {d} {at} {k} {r} (negsuc n) e h p s =
    let w = s.number in
    let ds = last_digits 10 w.places (suc n) in
    let q : Printed (t ++ 45 ∷ []) b at s.between s.start = joined e (omega arith) p s.sign in
    record {
      text = 45 ∷ ds;
      spells = minus (fewest w.fewest);
      short = omega (arith, digits_long w.places (suc n), w.most);
      printed = subst (λ (l : List ℕ). Printed l b at d r) (append_assoc t (45 ∷ []) ds)
          (counted e q (omega (arith, length-append t (45 ∷ []))) w);
    }

-- ---- behind a blank, at the place after it, and on a line
pub numbered : {b c d : List ℕ} {at k j r n : ℕ} → length c ≡ 4096 → Printed (32 ∷ []) b at c k → k ≡ j
    → Spelled n c j d r → Number n b at d r
numbered {b} {c} {d} {at} {k} {j} {r} {n} e p here s =
    let q = subst (λ (i : ℕ). Printed (32 ∷ []) b at c i) here p in
    record {
      text = last_digits 10 s.places n;
      decimal = fewest s.fewest;
      printed = counted (sym (held p) ∙ e) q (omega arith) s;
    }

pub signed : {b c d : List ℕ} {at k j r : ℕ} (x : ℤ) → length c ≡ 4096 → Printed (32 ∷ []) b at c k → k ≡ j
    → Written.Signed x c j d r → Signed x b at d r
signed {b} {c} {d} {at} {k} {j} {r} x e p here s =
    let q = said x (sym (held p) ∙ e) (omega arith) (subst (λ (i : ℕ). Printed (32 ∷ []) b at c i) here p) s in
    record { text = q.text; spells = q.spells; printed = q.printed }

pub lined : {b c d : List ℕ} {at k j r : ℕ} (x : ℤ) → length b ≡ 4096 → MadeRoom at k
    → Written.Signed x b k c j → Wrote (10 ∷ []) c j d r → Line x b at d r
lined x e m s w =
    let q = said x e (omega arith) (begun m) s in
    record { text = q.text; spells = q.spells; printed = joined e (omega (arith, q.short)) q.printed w }

pub hexed : {b c d : List ℕ} {at k j r : ℕ} (n : ℕ) → length c ≡ 4096 → Printed (32 ∷ []) b at c k → k ≡ j
    → Wrote (hex_digit_ascii (n / 16) ∷ hex_digit_ascii (n % 16) ∷ []) c j d r → Hex n b at d r
hexed {b} {c} {d} {at} {k} {j} {r} n e p here w =
    joined (sym (held p) ∙ e) (omega arith) (subst (λ (i : ℕ). Printed (32 ∷ []) b at c i) here p) w

-- one more, after others
pub another : {X : Type 0} {One : X → List ℕ → ℕ → List ℕ → ℕ → Type 0} {xs : List X} {b c d : List ℕ}
    {at k r : ℕ} (x : X) → Each One xs b at c k → One x c k d r → Each One (xs ++ x ∷ []) b at d r
another x none p = more p none
another x (more q ps) p = more q (another x ps p)
