-- Pieces of a text by the place where a byte first stands, and `Bares`: a carriage return at the end goes.
use mathlib.Core.Path.{◌≡◌, refl, sym, ap, ◌∙◌}
use mathlib.Core.List.{List, [], ◌∷◌, ◌++◌}
use Prim.Native.Nat.{ℕ, zero, suc, ◌+◌, ◌-◌, ◌≤◌, ◌<◌}
use native.Mathlib.Omega.{arith}
use native.Mathlib.Numerals.{add-one}
use borrow.Author.Tests.{eq-eqb, ne_eqb}
use lib.ListN.{length, get_or, take, drop, length-append}
use lib.Seq.{take_at, get_or-append-add}
use Rattle.std.proofs.lemmas.List.{take_rest}
use Rattle.std.proofs.Common.{Bor, Option, Some, None}
use Rattle.std.specs.Option.{unwrap_or}
use Rattle.std.specs.Slice.{IsGetRangeResult}
use Rattle.words.specs.Words.{Before}
use Rattle.words.specs.Pieces.{cut, past, piece, bare, Bares, BareLines}

-- the first b of x ∷ s is behind x: it is the first of s
behind : {b x : ℕ} {s : List ℕ} {r : ℕ} → Before b (x ∷ s) (suc r) → Before b s r
behind {b} {x} {s} {r} h = record {
  within = omega (arith, h.within);
  none = λ k l. h.none (suc k) (omega arith);
  here = λ l. h.here (omega arith);
}

pub cut_at : (b : ℕ) (s : List ℕ) (r : ℕ) → Before b s r → take r s ≡ cut b s
unfolding cut
cut_at b [] zero h = refl
cut_at b [] (suc r) h = refl
cut_at b (x ∷ s) zero h = rw (eq-eqb x b (h.here (omega arith)))
cut_at b (x ∷ s) (suc r) h =
    rw (ne_eqb x b (h.none 0 (omega arith))) (ap (λ (l : List ℕ). x ∷ l) (cut_at b s r (behind h)))

pub past-at : (b : ℕ) (s : List ℕ) (r : ℕ) → Before b s r → drop (suc r) s ≡ past b s
unfolding past
past-at b [] zero h = refl
past-at b [] (suc r) h = refl
past-at b (x ∷ s) zero h = rw (eq-eqb x b (h.here (omega arith)))
past-at b (x ∷ s) (suc r) h = rw (ne_eqb x b (h.none 0 (omega arith))) (past-at b s r (behind h))

drop_all : (k : ℕ) (s : List ℕ) → length s ≤ k → drop k s ≡ []
drop_all zero [] h = refl
drop_all zero (x ∷ s) h = absurd (omega arith)
drop_all (suc k) [] h = refl
drop_all (suc k) (x ∷ s) h = drop_all k s (omega arith)

-- the part of s behind the first b, and nothing where there is none
pub part-past : (b : ℕ) (s : List ℕ) (r : ℕ) (o : Option (Bor (List ℕ))) (e : Bor (List ℕ)) → Before b s r
    → IsGetRangeResult s (r + 1) (length s) o → e.now ≡ [] → (unwrap_or o e).now ≡ past b s
part-past b s r (Some x) e h part nothing = part.0.2 ∙ rw (take_rest s (r + 1), add-one) (past-at b s r h)
part-past b s r None e h part nothing =
    let end : length s < r + 1 = grind (arith, part.0) in
    nothing ∙ sym (drop_all (suc r) s (omega arith)) ∙ past-at b s r h

-- ---- pieces
pub piece-first : (b n : ℕ) (s : List ℕ) → n ≤ 0 → cut b s ≡ piece b n s
unfolding piece
piece-first b zero s h = refl
piece-first b (suc n) s h = absurd (omega arith)

pub piece-less : (b n : ℕ) (s : List ℕ) → 0 < n → piece b (n - 1) (past b s) ≡ piece b n s
unfolding piece
piece-less b zero s h = absurd (omega arith)
piece-less b (suc n) s h = let e : suc n - 1 ≡ n = omega arith in rw e

-- ---- a line's end
pub bare-goes : (s : List ℕ) → get_or s (length s - 1) 0 ≡ 13 → bare s ≡ take (length s - 1) s
bare-goes s h = rw (eq-eqb _ 13 h)

pub bare-stays : (s : List ℕ) → (get_or s (length s - 1) 0 ≡ 13 → ⊥) → bare s ≡ s
bare-stays s h = rw (ne_eqb _ 13 h)

pub bare-empty : (s : List ℕ) → length s ≡ 0 → bare s ≡ s
bare-empty [] h = bare-stays [] (λ e. absurd (omega arith))
bare-empty (x ∷ s) h = absurd (omega arith)

long : (s : List ℕ) (b : ℕ) → length (s ++ b ∷ []) - 1 ≡ length s
long s b = omega (arith, length-append s (b ∷ []))

last : (s : List ℕ) (b : ℕ) → get_or (s ++ b ∷ []) (length (s ++ b ∷ []) - 1) 0 ≡ b
last s b =
    ap (λ (k : ℕ). get_or (s ++ b ∷ []) k 0) (long s b ∙ omega arith) ∙ get_or-append-add s (b ∷ []) 0 0

pub bares : Bares
bares = record {
  goes = λ s. bare-goes (s ++ 13 ∷ []) (last s 13) ∙ take_at s (13 ∷ []) _ (sym (long s 13));
  stays = λ s b h. bare-stays (s ++ b ∷ []) (λ e. h (sym (last s b) ∙ e));
  empty = bare-empty [] refl;
}

pub bare-lines : BareLines
bare-lines = record {
  last = bares.goes (97 ∷ 98 ∷ []);
  one_of_two = bares.goes (97 ∷ 13 ∷ []);
  alone = bares.goes [];
  inside = bares.stays (13 ∷ []) 97 (λ e. omega arith);
  line_feed = bares.stays (97 ∷ 13 ∷ []) 10 (λ e. omega arith);
  nothing = bares.empty;
}
