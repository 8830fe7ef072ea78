-- Two scores that end alone and have one header, at the start of their merge.
use mathlib.Core.Path.{◌≡◌, refl, sym, ap, subst}
use mathlib.Core.Bool.{Bool, true, false, cond}
use mathlib.Core.List.{List, [], ◌∷◌}
use Prim.Native.Nat.{ℕ, zero, suc, ◌+◌, ◌≤◌, ◌<◌}
use native.Mathlib.Omega.{arith}
use borrow.Author.Tests.{eqb-true, eqb-false}
use lib.Dec.{eqb}
use lib.ListN.{length, take, drop}
use Rattle.octets.specs.Theorems.{Bytes}
use Rattle.octets.proofs.Laws.{dropped-bytes}
use Rattle.refusal.specs.Limits.{refusal}
use Rattle.rule.specs.Calls.{Call, Opening}
use Rattle.record.specs.Record.{record_number, fields, rest}
use Rattle.score.specs.Run.{Outcome, ends, joined, opening, header_limits}
use Rattle.outline.specs.Outline.{Outline, in_force, from, result, record_calls, played, records, opened, run}
use Rattle.outline.specs.Struct.{outline_of}
use Rattle.outline.specs.declared.Course.{Course}
use Rattle.outline.proofs.Playing.{shorter}
use Rattle.timeline.specs.Events.{events, records_in, list_of, events_of}
use Rattle.timeline.specs.Merged.{merged_from, merged_records}
use Rattle.timeline.specs.Merge.{merge}
use Rattle.timeline.specs.Order.{at}
use Rattle.timeline.specs.Theorems.{Plays}
use Rattle.timeline.proofs.Order.{events-ready}
use Rattle.timeline.proofs.Sound.{sound_fields, rest-bytes}
use Rattle.timeline.proofs.Six.{opening_of}
use Rattle.timeline.proofs.Merging.{ended, eight, alone}
use Rattle.merge.specs.Left.{Holds, none, more, LeftAt}
use Rattle.merge.specs.Walk.{begin, all_of}

-- ---- the records of a score that ends
module _ (N Na : ℕ) where
  pub holds : (n : ℕ) (o : Outline) (s : List ℕ) (k : ℕ) → length s ≤ n → Bytes s → (records N Na n o s k).number ≡ 0
      → Holds N Na o s (records_in n s)
  unfolding records records_in played
  holds zero o s k l b e = none {o = o} {t = s} (omega arith)
  holds (suc n) o s k l b e =
      go (eqb (length s) 0) refl
      (λ h z. holds n (from Na o (record_calls N Na (fields s) o)) (rest s) (k + 1)
      (let x = shorter s h z in omega (arith, x, l)) (rest-bytes s b z)) e
    where
      cs : List Call
      cs = record_calls N Na (fields s) o

      later : Outcome
      later = records N Na n (from Na o cs) (rest s) (k + 1)

      rs : List (List ℕ)
      rs = records_in n (rest s)

      inner : (b' : Bool) → eqb (record_number s) 0 ≡ b' → (c : Bool) → eqb (result Na o cs) 0 ≡ c → 0 < length s
          → (0 < length s → record_number s ≡ 0 → later.number ≡ 0 → Holds N Na (from Na o cs) (rest s) rs)
          → (cond b' (cond c (joined cs later) (ends (result Na o cs) k cs)) (ends (record_number s) k [])).number ≡ 0
          → Holds N Na o s (fields s ∷ rs)
      inner true p true q h f e =
          let z = eqb-true (record_number s) 0 p in
          more h z ((sound_fields s b z).field 0 (omega arith)).small (eqb-true (result Na o cs) 0 q) (f h z e)
      inner true p false q h f e = absurd (eqb-false (result Na o cs) 0 q e)
      inner false p c q h f e = absurd (eqb-false (record_number s) 0 p e)

      go : (b' : Bool) → eqb (length s) 0 ≡ b'
          → (0 < length s → record_number s ≡ 0 → later.number ≡ 0 → Holds N Na (from Na o cs) (rest s) rs)
          → (cond b' (ends 0 k []) (played (record_number s) k Na o cs later)).number ≡ 0
          → Holds N Na o s (cond b' [] (fields s ∷ rs))
      go true p f e = none (eqb-true (length s) 0 p)
      go false p f e =
          let g = eqb-false (length s) 0 p in
          inner (eqb (record_number s) 0) refl (eqb (result Na o cs) 0) refl (omega arith) f e

pub all_hold : (s : List ℕ) → Bytes s → (run s).number ≡ 0
    → Holds (opening s).N (opening s).Na (opened s) (drop 8 s) (list_of s)
unfolding run
all_hold s b e = go (eqb (refusal (header_limits s)) 0) refl e
  where
    t : List ℕ
    t = drop 8 s

    all : Outcome
    all = records (opening s).N (opening s).Na (length t) (opened s) t 0

    go : (c : Bool) → eqb (refusal (header_limits s)) 0 ≡ c → (cond c all (ends (refusal (header_limits s)) 0 [])).number ≡ 0
        → Holds (opening s).N (opening s).Na (opened s) t (list_of s)
    go true p e =
        holds (opening s).N (opening s).Na (length t) (opened s) t 0 (omega arith) (dropped-bytes 8 s b) e
    go false p e = absurd (eqb-false (refusal (header_limits s)) 0 p e)

-- ---- both
module _ (a b : List ℕ) (ha : Bytes a) (hb : Bytes b) (same : take 8 a ≡ take 8 b) where
  pub all-is : all_of (opening a).N (opening a).Na (opened a) a b ≡ merged_records a b
  unfolding merged_records events_of
  all-is =
      ap (λ (o : Opening). merged_from 0 (merge at (events (opening a).N (opening a).Na 0 (opened a) (list_of a))
      (events o.N o.Na 0 (in_force o.L o.d) (list_of b)))) (opening_of a b same)

  module _ (pa : Plays a) (pb : Plays b) where
    second_holds : Holds (opening a).N (opening a).Na (opened a) (drop 8 b) (list_of b)
    second_holds =
        subst (λ (o : Opening). Holds o.N o.Na (in_force o.L o.d) (drop 8 b) (list_of b))
        (sym (opening_of a b same)) (all_hold b hb ((alone b).outlined.0 pb))

    pub starts : (c : Course) → outline_of c ≡ opened a
        → LeftAt (opening a).N (opening a).Na a b (begin c)
        (all_of (opening a).N (opening a).Na (outline_of c) a b)
    starts c e = record {
      first_at = eight a pa.room (ended a pa.room pa.ends);
      second_at = eight b pb.room (ended b pb.room pb.ends);
      left = rw e (record {
        now = 0;
        last_first = 0;
        last_second = 0;
        rs = list_of a;
        us = list_of b;
        holds_first = all_hold a ha ((alone a).outlined.0 pa);
        holds_second = second_holds;
        since_first = λ _. refl;
        since_second = λ _. refl;
        ready_first = events-ready (opening a).N (opening a).Na 0 (opened a) (list_of a);
        ready_second = events-ready (opening a).N (opening a).Na 0 (opened a) (list_of b);
        is = refl;
      });
    }
