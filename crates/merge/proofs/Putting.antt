-- The bytes of a record, field by field.
use mathlib.Core.Path.{◌≡◌, refl, sym, ap, ◌∙◌}
use mathlib.Core.List.{List, [], ◌∷◌, ◌++◌}
use Prim.Native.Nat.{ℕ, zero, suc, ◌+◌, ◌*◌, ◌-◌, ◌/◌, ◌%◌, ◌^◌, ◌≤◌, ◌<◌}
use native.Mathlib.Numerals.{add-one}
use native.Mathlib.Omega.{arith}
use native.Mathlib.Nat.{pow-succ'}
use lib.Pow.{pow_mono}
use lib.ListN.{length, get_or, length-append}
use Rattle.octets.specs.Octets as Octets
use Rattle.octets.specs.Octets.{laid}
use Rattle.octets.proofs.Laws.{laid_nil, laid_next, laid-length, bytes-length}
use Rattle.record.specs.Record.{before, bytes}
use Rattle.follow.specs.Follow.{value, stands}
use Rattle.timeline.specs.Merged.{field_bytes, fields_from, record_bytes}

pub field-length : (b v : ℕ) → b ≤ 1 → length (field_bytes b v) ≡ 2 * b
field-length zero v h = refl
field-length (suc zero) v h = bytes-length 2 v
field-length (suc (suc b)) v h = absurd (omega arith)

-- as many bytes as the bit map says
fields-length : (r : List ℕ) (k n : ℕ) → before (get_or r 1 0) k + length (fields_from r k n) ≡ before (get_or r 1 0) (k + n)
fields-length r k zero = let z : k + 0 ≡ k = omega arith in rw z (omega arith)
fields-length r k (suc n) =
    let e : k + suc n ≡ suc k + n = omega arith in
    let i = fields-length r (suc k) n in
    rw e (omega (
      arith,
      i,
      length-append (field_bytes (stands r k) (value r k)) (fields_from r (suc k) n),
      field-length (stands r k) (value r k) (omega arith),
    ))

pub record-length : (r : List ℕ) → length (record_bytes r) ≡ bytes (get_or r 1 0)
unfolding record_bytes
record-length r = omega (arith, fields-length r 0 7)

-- ---- what is left to put: the fields from k on, from the place at on
pub record Putting (d : List ℕ) (start : ℕ) (r now : List ℕ) (at unit k : ℕ) : Type 0 where
  pub few : k ≤ 7
  pub same : length now ≡ length d
  pub above : 0 < unit
  pub power : unit ≡ 2 ^ k
  pub fits : at + length (fields_from r k (7 - k)) ≤ length d
  pub is : laid now at (fields_from r k (7 - k)) ≡ laid d start (fields_from r 0 7)

pub begun : (d : List ℕ) (start : ℕ) (r : List ℕ) → start + length (fields_from r 0 7) ≤ length d
    → Putting d start r d start 1 0
begun d start r h = record { few = omega arith; same = refl; above = omega arith; power = refl; fits = h; is = refl }

module _ (d : List ℕ) (start : ℕ) (r now : List ℕ) (at unit k : ℕ) (p : Putting d start r now at unit k) where
  pub all-put : 7 ≤ k → now ≡ laid d start (fields_from r 0 7)
  all-put h =
      let z : 7 - k ≡ 0 = omega arith in
      let e : laid now at (fields_from r k (7 - k)) ≡ now
      = ap (λ (n : ℕ). laid now at (fields_from r k n)) z ∙ laid_nil now at in
      sym e ∙ p.is

  module _ (h : k < 7) where
    abbrev f : List ℕ
    f = field_bytes (stands r k) (value r k)

    abbrev after : List ℕ
    after = fields_from r (suc k) (7 - suc k)

    one_more : fields_from r k (7 - k) ≡ f ++ after
    one_more = let e : 7 - k ≡ suc (7 - suc k) = omega arith in ap (λ (n : ℕ). fields_from r k n) e

    f_length : length f ≡ 2 * stands r k
    f_length = field-length (stands r k) (value r k) (omega arith)

    room : at + (length f + length after) ≤ length d
    room = omega (arith, p.fits, ap length one_more, length-append f after)

    pub unit-small : unit ≤ 64
    unit-small = let q : k ≤ 6 = omega arith in omega (arith, p.power, pow_mono q)

    pub bit_is : {b : ℕ} → b ≡ get_or r 1 0 / unit % 2 → b ≡ stands r k
    bit_is e = e ∙ ap (λ (n : ℕ). get_or r 1 0 / n % 2) p.power

    pub field_fits : {b : ℕ} → b ≡ get_or r 1 0 / unit % 2 → (b ≤ 1) × (at + 2 * b ≤ length now)
    field_fits e =
        let i = bit_is e in
        (omega (arith, e), omega (arith, i, room, f_length, p.same))

    pub goes_on : {b to : ℕ} {next : List ℕ} → b ≡ get_or r 1 0 / unit % 2 → next ≡ laid now at (field_bytes b (value r k))
        → to ≡ at + 2 * b → Putting d start r next to (unit * 2) (k + 1)
    goes_on {b} {to} {next} e i j =
        let b-is = bit_is e in
        let n-is : next ≡ laid now at f = i ∙ ap (λ (n : ℕ). laid now at (field_bytes n (value r k))) b-is in
        let q : to ≡ at + length f = omega (arith, j, b-is, f_length) in
        let l = room in
        let small : at + length f ≤ length now = omega (arith, l, p.same) in
        let e1 : k + 1 ≡ suc k = add-one k in
        record {
          few = omega arith;
          same = ap length n-is ∙ laid-length now at f small ∙ p.same;
          above = omega (arith, p.above);
          power = rw e1 (omega (arith, p.power, pow-succ' 2 k));
          fits = rw e1 (omega (arith, q, l));
          is =
              rw e1 (rw n-is (laid_next now at f small to after q
              ∙ ap (λ (x : List ℕ). laid now at x) (sym one_more) ∙ p.is));
        }

-- ---- with the bit map before them
pub put_map : (d : List ℕ) (start : ℕ) (r now : List ℕ) → start + bytes (get_or r 1 0) ≤ length d → get_or r 1 0 < 256
    → now ≡ laid d start (Octets.bytes 1 (get_or r 1 0))
    → (start + 1 + length (fields_from r 0 7) ≤ length now)
    × (length now ≡ length d)
    × (laid now (start + 1) (fields_from r 0 7) ≡ laid d start (record_bytes r))
unfolding record_bytes Octets.bytes
put_map d start r now h l e =
    let m = get_or r 1 0 in
    let z : m % 256 ≡ m = omega arith in
    let i : now ≡ laid d start (m ∷ []) = e ∙ ap (λ (n : ℕ). laid d start (n ∷ [])) z in
    let k = record-length r in
    let long = ap length i ∙ laid-length d start (m ∷ []) (omega (arith, h, k)) in (
      omega (arith, h, k, long),
      long,
      ap (λ (x : List ℕ). laid x (start + 1) (fields_from r 0 7)) i
          ∙ laid_next d start (m ∷ []) (omega (arith, h, k)) (start + 1) (fields_from r 0 7) refl,
    )
