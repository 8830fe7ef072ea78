-- A merge that does not play to its end, given output enough, ends with 6, and not where the advance is 0.
-- Assumes nothing.
use mathlib.Core.Path.{◌≡◌, refl, sym, ap, subst, ◌∙◌}
use mathlib.Core.Bool.{Bool, true, false, cond}
use mathlib.Core.List.{List, [], ◌∷◌, ◌++◌}
use Prim.Native.Nat.{ℕ, zero, suc, ◌+◌, ◌-◌, ◌≤◌, ◌<◌}
use native.Mathlib.Omega.{arith}
use borrow.Author.Tests.{eq-eqb, ne_eqb}
use lib.Dec.{eqb}
use lib.ListN.{length, get_or, take, drop, length-append}
use lib.Seq.{get_or-take, length-take-le}
use Rattle.octets.specs.Theorems.{Bytes}
use Rattle.refusal.specs.Limits.{refusal}
use Rattle.refusal.specs.Returned.{AllKept}
use Rattle.refusal.specs.Returned as Returned
use Rattle.refusal.proofs.Passed.{rest-kept}
use Rattle.refusal.proofs.Returned.{returned}
use Rattle.rule.specs.Calls.{Call, Opening, open_limits}
use Rattle.record.specs.Record.{record_number, fields, rest}
use Rattle.score.specs.Run.{Outcome, ends, joined, opening, header_limits}
use Rattle.score.specs.Run as Score
use Rattle.outline.specs.Outline.{Outline, result, from, record_calls, played, records, opened, run}
use Rattle.outline.proofs.Law.{law}
use Rattle.timeline.specs.Events.{Event, events_of}
use Rattle.timeline.specs.Merged.{merge_record, merged_from, both, merged_records, record_bytes, all_bytes, merge_of}
use Rattle.timeline.specs.Theorems.{Plays, Possible, plays, OnlySix}
use Rattle.timeline.specs.Order.{at}
use Rattle.timeline.proofs.Order.{both-ready}
use Rattle.timeline.proofs.ReadBack.{Written, number_back, fields_back, rest_back, many-bytes}
use Rattle.timeline.proofs.ReadBack as Back
use Rattle.timeline.proofs.Fine.{All, all-merge, written}
use Rattle.timeline.proofs.Fine as Fine
use Rattle.timeline.proofs.Merging.{N, Na, eight, ea, eb, fine, header_is, body_is}
use Rattle.timeline.proofs.Only.{Idle, from-idle, Took, events-took, merged-six}

-- ---- a list of records
module _ (n₀ na : ℕ) where
  data AllOnly : List (List ℕ) → Type 0 where
    none : AllOnly []
    more : {r : List ℕ} {rs : List (List ℕ)}
        → ((o : Outline) → Idle na o → Possible na (result na o (record_calls n₀ na r o)))
        → AllOnly rs → AllOnly (r ∷ rs)

  merged-only : (p : ℕ) {es : List Event} → All (Took n₀ na) es → AllOnly (merged_from p es)
  unfolding merged_from
  merged-only p Fine.none = none
  merged-only p (Fine.more {e = e} t ts) =
      more {r = merge_record (at e - p) e} (merged-six n₀ na (at e - p) e t) (merged-only (at e) ts)

  pub no-records : (n : ℕ) (o : Outline) (k : ℕ) → (records n₀ na n o [] k).number ≡ 0
  unfolding records
  no-records zero o k = refl
  no-records (suc n) o k = refl

  one-record : (n : ℕ) (o : Outline) (k : ℕ) (r t : List ℕ) → record_number (record_bytes r ++ t) ≡ 0
      → fields (record_bytes r ++ t) ≡ r → rest (record_bytes r ++ t) ≡ t → Idle na o
      → Possible na (result na o (record_calls n₀ na r o))
      → Possible na (records n₀ na n (from na o (record_calls n₀ na r o)) t (k + 1)).number
      → Possible na (records n₀ na (suc n) o (record_bytes r ++ t) k).number
  unfolding records played record_bytes
  one-record n o k r t e i j f p q =
      rw (ne_eqb (length (record_bytes r ++ t)) 0 (λ z. omega arith), e, i, j)
      (go (eqb (result na o cs) 0))
    where
      cs : List Call
      cs = record_calls n₀ na r o

      later : Outcome
      later = records n₀ na n (from na o cs) t (k + 1)

      go : (b : Bool) → Possible na (cond b (joined cs later) (ends (result na o cs) k cs)).number
      go true = q
      go false = p

  six : (n : ℕ) (o : Outline) (k : ℕ) {rs : List (List ℕ)} → length rs ≤ n → Written rs → AllOnly rs → Idle na o
      → Possible na (records n₀ na n o (all_bytes rs) k).number
  unfolding all_bytes
  six zero o k l Back.none none f = rw (no-records 0 o k) plays
  six (suc n) o k l Back.none none f = rw (no-records (suc n) o k) plays
  six zero o k l (Back.more s e w) (more p ps) f = absurd (omega arith)
  six (suc n) o k l (Back.more {r} {rs} s e w) (more p ps) f =
      let t = all_bytes rs in
      one-record n o k r t (number_back r t s) (fields_back r t s ∙ e) (rest_back r t s) f (p o f)
      (six n (from na o (record_calls n₀ na r o)) (k + 1) (omega arith) w ps
      (from-idle na o (record_calls n₀ na r o) f))

-- ---- the header
pub opening_of : (s t : List ℕ) → take 8 s ≡ take 8 t → opening s ≡ opening t
opening_of s t e =
    let g : (k : ℕ) → k < 8 → get_or s k 0 ≡ get_or t k 0
    = λ k l. sym (get_or-take 8 s k 0 l) ∙ ap (λ (x : List ℕ). get_or x k 0) e ∙ get_or-take 8 t k 0 l in
    let e0 = g 0 (omega arith) in
    let e1 = g 1 (omega arith) in
    let e2 = g 2 (omega arith) in
    let e3 = g 3 (omega arith) in
    let e4 = g 4 (omega arith) in
    let e5 = g 5 (omega arith) in
    let e6 = g 6 (omega arith) in
    let e7 = g 7 (omega arith) in
    cc

pub opens_as : (s t : List ℕ) → take 8 s ≡ take 8 t → 8 ≤ length s → refusal (header_limits t) ≡ 0
    → refusal (header_limits s) ≡ 0
opens_as s t e l h =
    (returned (header_limits s) tt).accepted.1
    (Returned.more (record { least = l; most = omega arith })
    (subst (λ (o : Opening). AllKept (open_limits o)) (sym (opening_of s t e))
    (rest-kept ((returned (header_limits t) tt).accepted.0 h))))

module _ (a b : List ℕ) (ha : Bytes a) (hb : Bytes b) (same : take 8 a ≡ take 8 b) (pa : Plays a) (pb : Plays b) where
  abbrev m : List ℕ
  m = merge_of a b

  abbrev t : List ℕ
  t = drop 8 m

  pub same-opening : opening m ≡ opening a
  same-opening = opening_of m a (header_is a b ha hb same pa pb)

  long : 8 ≤ length m
  unfolding merge_of
  long =
      omega (
        arith,
        length-append (take 8 a) (all_bytes (merged_records a b)),
        length-take-le 8 a (eight a pa.room (ea a b ha hb same pa pb)),
      )

  pub opens : refusal (header_limits m) ≡ 0
  opens = opens_as m a (header_is a b ha hb same pa pb) long (ea a b ha hb same pa pb).header

  took : All (Took (N m) (Na m)) (both a b)
  unfolding events_of
  took =
      let x = events-took (N a) (Na a) 0 (ea a b ha hb same pa pb).whole.ends in
      let y = events-took (N b) (Na b) 0 (eb a b ha hb same pa pb).whole.ends in
      all-merge (Took (N m) (Na m)) (events_of a) (events_of b)
      (subst (λ (o : Opening). All (Took o.N o.Na) (events_of a)) (sym same-opening) x)
      (subst (λ (o : Opening). All (Took o.N o.Na) (events_of b))
      (sym (same-opening ∙ opening_of a b same)) y)

  body : Possible (Na m) (records (N m) (Na m) (length t) (opened m) t 0).number
  unfolding merged_records
  body =
      let rs = merged_records a b in
      subst (λ (l : List ℕ). Possible (Na m) (records (N m) (Na m) (length l) (opened m) l 0).number)
      (sym (body_is a b ha hb same pa pb))
      (six (N m) (Na m) (length (all_bytes rs)) (opened m) 0 (many-bytes rs)
      (written (both-ready a b) (fine a b ha hb same pa pb)) (merged-only (N m) (Na m) 0 took) (λ e. refl))

  outlined : Possible (Na m) (run m).number
  unfolding run
  outlined = rw (eq-eqb (refusal (header_limits m)) 0 opens) body

  only : (room : ℕ) → ((Score.run m room).number ≡ 16 → ⊥) → Possible (Na a) (Score.run m room).number
  only room f =
      subst (λ (n : ℕ). Possible n (Score.run m room).number) (ap (λ (o : Opening). o.Na) same-opening)
      (subst (λ (x : Outcome). Possible (Na m) x.number) (sym ((law m room).not_16 f)) outlined)

pub only-six : OnlySix
only-six = only
