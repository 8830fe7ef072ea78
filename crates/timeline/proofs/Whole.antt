-- A merge plays to its end if and only if each merged record is accepted after those before it.
use mathlib.Core.Path.{◌≡◌, sym, subst, ◌∙◌}
use mathlib.Core.List.{List, ◌++◌}
use Prim.Native.Nat.{ℕ, zero, suc, ◌+◌, ◌≤◌}
use native.Mathlib.Omega.{arith}
use borrow.Author.Tests.{eq-eqb, ne_eqb}
use lib.ListN.{length, take}
use Rattle.octets.specs.Theorems.{Bytes}
use Rattle.refusal.specs.Limits.{refusal}
use Rattle.rule.specs.Calls.{Opening}
use Rattle.record.specs.Record.{record_number, fields, rest}
use Rattle.score.specs.Run.{opening, header_limits}
use Rattle.outline.specs.Outline.{Outline, in_force, from, result, record_calls, played, records, opened, run}
use Rattle.timeline.specs.Ends.{Ends, done, next}
use Rattle.timeline.specs.Merged.{merged_records, record_bytes, all_bytes, merge_of}
use Rattle.timeline.specs.Theorems.{Plays}
use Rattle.timeline.proofs.Order.{both-ready}
use Rattle.timeline.proofs.ReadBack.{Written, number_back, fields_back, rest_back, many-bytes}
use Rattle.timeline.proofs.ReadBack as Back
use Rattle.timeline.proofs.Fine.{written}
use Rattle.timeline.proofs.Merging.{N, Na, ended, fine, body_is, merging, alone}
use Rattle.timeline.proofs.Six.{no-records, opens, same-opening}

module _ (n na : ℕ) where
  -- ---- and a run over its bytes ends
  one-ends : (k l : ℕ) (o : Outline) (r t : List ℕ) → record_number (record_bytes r ++ t) ≡ 0
      → fields (record_bytes r ++ t) ≡ r → rest (record_bytes r ++ t) ≡ t → result na o (record_calls n na r o) ≡ 0
      → (records n na k (from na o (record_calls n na r o)) t (l + 1)).number ≡ 0
      → (records n na (suc k) o (record_bytes r ++ t) l).number ≡ 0
  unfolding records played record_bytes
  one-ends k l o r t e i j p q =
      rw (
        ne_eqb (length (record_bytes r ++ t)) 0 (λ z. omega arith),
        e,
        i,
        j,
        eq-eqb (result na o (record_calls n na r o)) 0 p,
      ) q

  run_ends : (k l : ℕ) (o : Outline) {rs : List (List ℕ)} → length rs ≤ k → Written rs → Ends n na o rs
      → (records n na k o (all_bytes rs) l).number ≡ 0
  unfolding all_bytes
  run_ends zero l o h Back.none done = no-records n na 0 o l
  run_ends (suc k) l o h Back.none done = no-records n na (suc k) o l
  run_ends zero l o h (Back.more s e w) (next z y) = absurd (omega arith)
  run_ends (suc k) l o h (Back.more {r} {rs} s e w) (next z y) =
      let t = all_bytes rs in
      one-ends k l o r t (number_back r t s) (fields_back r t s ∙ e) (rest_back r t s) z
      (run_ends k (l + 1) (from na o (record_calls n na r o)) (omega arith) w y)

module _ (a b : List ℕ) (ha : Bytes a) (hb : Bytes b) (same : take 8 a ≡ take 8 b) (pa : Plays a) (pb : Plays b) where
  abbrev m : List ℕ
  m = merge_of a b

  here : opening m ≡ opening a
  here = same-opening a b ha hb same pa pb

  pub ends-plays : Ends (N a) (Na a) (opened a) (merged_records a b) → Plays m
  unfolding run merged_records
  ends-plays h =
      let there : Ends (N m) (Na m) (opened m) (merged_records a b)
      = subst (λ (o : Opening). Ends o.N o.Na (in_force o.L o.d) (merged_records a b)) (sym here) h in
      (alone m).outlined.1
      (rw (eq-eqb (refusal (header_limits m)) 0 (opens a b ha hb same pa pb), body_is a b ha hb same pa pb)
      (run_ends (N m) (Na m) (length (all_bytes (merged_records a b))) 0 (opened m) (many-bytes (merged_records a b))
      (written (both-ready a b) (fine a b ha hb same pa pb)) there))

  pub plays-ends : Plays m → Ends (N a) (Na a) (opened a) (merged_records a b)
  plays-ends p =
      subst (λ (o : Opening). Ends o.N o.Na (in_force o.L o.d) (merged_records a b)) here
      (subst (λ (rs : List (List ℕ)). Ends (N m) (Na m) (opened m) rs) (merging a b ha hb same pa pb).0.read_back
      (ended m p.room p.ends).whole.ends)
