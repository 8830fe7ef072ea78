-- Playing the merge of two scores: each loss, change and pluck at its original step, and no other.
-- Assumes nothing.
use mathlib.Core.Path.{◌≡◌, refl, sym, ap, ap₂, subst, ◌∙◌}
use mathlib.Core.Bool.{Bool, true, false, cond}
use mathlib.Core.List.{List, [], ◌∷◌}
use Prim.Native.Nat.{ℕ, suc, ◌+◌, ◌≤◌, max}
use native.Mathlib.Omega.{arith}
use borrow.Author.Tests.{eqb-true, eqb-false}
use lib.Dec.{eqb, leb}
use lib.ListN.{length, get_or, take, drop}
use lib.Seq.{get_or-take, take_at, drop_at, length-take-le}
use Rattle.octets.specs.Theorems.{Bytes}
use Rattle.octets.proofs.Laws.{dropped-bytes}
use Rattle.refusal.specs.Limits.{refusal}
use Rattle.refusal.proofs.Passed.{first-kept}
use Rattle.refusal.proofs.Returned.{returned}
use Rattle.rule.specs.Calls.{Call}
use Rattle.score.specs.Run.{Outcome, ends, opening, header_limits}
use Rattle.score.specs.Run as Score
use Rattle.outline.specs.Outline.{Outline, from, record_calls, records, opened, run, waits_of}
use Rattle.outline.proofs.Law.{law}
use Rattle.follow.specs.Follow.{value}
use Rattle.timeline.specs.Merge.{merge}
use Rattle.timeline.specs.Events.{Event, events, events_of, records_in, list_of}
use Rattle.timeline.specs.Merged.{merged_from, both, merged_records, all_bytes, merge_of}
use Rattle.timeline.specs.Timed.{Timed, timed, lasts}
use Rattle.timeline.specs.Theorems.{Plays, Alone, does, Merges, Played, Merging}
use Rattle.timeline.specs.Order.{at}
use Rattle.timeline.proofs.Order.{both-ready, events-ready}
use Rattle.timeline.proofs.Spread.{step, spread, spread_merge}
use Rattle.timeline.specs.Ends.{Ends}
use Rattle.timeline.proofs.Listing.{listed, Went, went}
use Rattle.timeline.proofs.Doings.{doings, own-timed, merged-timed}
use Rattle.timeline.proofs.Lasts.{finish_merge, own-lasts, merged-lasts}
use Rattle.timeline.proofs.ReadBack.{many-bytes, read_back}
use Rattle.timeline.proofs.Fine.{Fine, All, all-merge, written, events_fine}

-- ---- one score that ends
abbrev pub N : List ℕ → ℕ
N s = (opening s).N

abbrev pub Na : List ℕ → ℕ
Na s = (opening s).Na

pub record Ended (s : List ℕ) (room : ℕ) : Type 0 where
  pub header : refusal (header_limits s) ≡ 0
  pub whole : Went (N s) (Na s) (drop 8 s) (Score.run s room) (opened s) (list_of s) 0

pub ended : (s : List ℕ) (room : ℕ) → (Score.run s room).number ≡ 0 → Ended s room
unfolding run
ended s room e = go (eqb (refusal (header_limits s)) 0) refl same
  where
    same : Score.run s room ≡ run s
    same = (law s room).not_16 (λ z. omega (arith, e, z))

    t : List ℕ
    t = drop 8 s

    all : Outcome
    all = records (N s) (Na s) (length t) (opened s) t 0

    go : (b : Bool) → eqb (refusal (header_limits s)) 0 ≡ b
        → Score.run s room ≡ cond b all (ends (refusal (header_limits s)) 0 [])
        → Ended s room
    go true i j = record {
      header = eqb-true (refusal (header_limits s)) 0 i;
      whole =
          subst (λ (x : Outcome). Went (N s) (Na s) t x (opened s) (list_of s) 0) (sym j)
          (went (N s) (Na s) (length t) (opened s) t 0 (sym (ap (λ (x : Outcome). x.number) j) ∙ e));
    }
    go false i j =
        absurd (eqb-false (refusal (header_limits s)) 0 i (sym (ap (λ (x : Outcome). x.number) j) ∙ e))

module _ (s : List ℕ) (room : ℕ) (h : Ended s room) where
  pub own-does : does s room ≡ spread (doings (N s)) (events_of s)
  unfolding events_of
  own-does =
      ap (λ (cs : List Call). timed 0 cs) h.whole.calls ∙ own-timed (N s) (Na s) 0 h.whole.ends

  pub own_fine : Bytes s → All Fine (events_of s)
  unfolding events_of
  own_fine b = events_fine (N s) (Na s) 0 h.whole.ends (h.whole.sound (dropped-bytes 8 s b))

  pub eight : 8 ≤ length s
  eight = (first-kept ((returned (header_limits s) tt).accepted.0 h.header)).least

-- ---- how many
length-events : (N Na m : ℕ) (o : Outline) (rs : List (List ℕ)) → length (events N Na m o rs) ≡ length rs
unfolding events
length-events N Na m o [] = refl
length-events N Na m o (r ∷ rs) =
    ap suc (length-events N Na (m + value r 0) (from Na o (record_calls N Na r o)) rs)

length_merged : (m : ℕ) (es : List Event) → length (merged_from m es) ≡ length es
unfolding merged_from
length_merged m [] = refl
length_merged m (e ∷ es) = ap suc (length_merged (at e) es)

length_placed : (e : Event) (es fs : List Event)
    → ((gs : List Event) → length (merge at es gs) ≡ length es + length gs)
    → length (merge at (e ∷ es) fs) ≡ suc (length es) + length fs
length_placed e es [] f = omega (arith, f [])
length_placed e es (g ∷ gs) f = go (leb (at e) (at g)) (length_placed e es gs f)
  where
    go : (b : Bool) → length (merge at (e ∷ es) gs) ≡ suc (length es) + length gs
        → length (cond b (e ∷ merge at es (g ∷ gs)) (g ∷ merge at (e ∷ es) gs)) ≡ suc (length es) + length (g ∷ gs)
    go true i = omega (arith, f (g ∷ gs))
    go false i = omega (arith, i)

length-merge : (es fs : List Event) → length (merge at es fs) ≡ length es + length fs
length-merge [] fs = omega arith
length-merge (e ∷ es) fs = length_placed e es fs (length-merge es)

length_both : (a b : List ℕ) → length (merged_records a b) ≡ length (list_of a) + length (list_of b)
unfolding merged_records events_of
length_both a b =
    omega (
      arith,
      length_merged 0 (both a b),
      length-merge (events_of a) (events_of b),
      length-events (N a) (Na a) 0 (opened a) (list_of a),
      length-events (N b) (Na b) 0 (opened b) (list_of b),
    )

-- ---- two scores
module _ (a b : List ℕ) (ha : Bytes a) (hb : Bytes b) (same : take 8 a ≡ take 8 b) (pa : Plays a) (pb : Plays b) where
  pub ea : Ended a pa.room
  ea = ended a pa.room pa.ends

  pub eb : Ended b pb.room
  eb = ended b pb.room pb.ends

  abbrev m : List ℕ
  m = merge_of a b

  header-length : length (take 8 a) ≡ 8
  header-length = length-take-le 8 a (eight a pa.room ea)

  pub header_is : take 8 m ≡ take 8 a
  unfolding merge_of
  header_is = take_at (take 8 a) (all_bytes (merged_records a b)) 8 header-length

  pub body_is : drop 8 m ≡ all_bytes (merged_records a b)
  unfolding merge_of
  body_is = drop_at (take 8 a) (all_bytes (merged_records a b)) 8 header-length

  pub fine : All Fine (both a b)
  fine = all-merge Fine (events_of a) (events_of b) (own_fine a pa.room ea ha) (own_fine b pb.room eb hb)

  back : list_of m ≡ merged_records a b
  unfolding merged_records
  back =
      ap (λ (l : List ℕ). records_in (length l) l) body_is
      ∙ read_back (length (all_bytes (merged_records a b))) (many-bytes (merged_records a b)) (written (both-ready a b) fine)

  merges : Merges a b
  merges = record {
    header = header_is;
    read_back = back;
    many = ap length back ∙ length_both a b;
  }

  -- one order
  order-of : (s t : List ℕ) → take 8 s ≡ take 8 t → N s ≡ N t
  order-of s t e =
      sym (get_or-take 8 s 0 0 (omega arith)) ∙ ap (λ (l : List ℕ). get_or l 0 0) e ∙ get_or-take 8 t 0 0 (omega arith)

  merged-does : (room : ℕ) → Ended m room → does m room ≡ spread (doings (N a)) (both a b)
  unfolding merged_records
  merged-does room h =
      ap (λ (cs : List Call). timed 0 cs) h.whole.calls
      ∙ ap (λ (rs : List (List ℕ)). timed 0 (listed (N m) (Na m) (opened m) rs)) back
      ∙ merged-timed (N m) (Na m) 0 (opened m) (both-ready a b)
      (subst (λ (rs : List (List ℕ)). Ends (N m) (Na m) (opened m) rs) back h.whole.ends)
      ∙ ap (λ (n : ℕ). spread (doings n) (both a b)) (order-of m a header_is)

  plays : (room : ℕ) → (Score.run m room).number ≡ 0 → Played a b room
  unfolding events_of merged_records
  plays room e =
      let h = ended m room e in
      record {
        calls = λ i j x y.
            merged-does room h
            ∙ spread_merge (doings (N a)) (events_of a) (events_of b)
            (events-ready (N a) (Na a) 0 (opened a) (list_of a))
            (events-ready (N b) (Na b) 0 (opened b) (list_of b))
            ∙ ap₂ (λ (ts us : List Timed). merge step ts us) (sym (own-does a i (ended a i x)))
            (ap (λ (n : ℕ). spread (doings n) (events_of b)) (order-of a b same) ∙ sym (own-does b j (ended b j y)));
        long = λ i j x y.
            let v = ended a i x in
            let w = ended b j y in
            ap (λ (cs : List Call). lasts 0 cs) h.whole.calls
            ∙ ap (λ (rs : List (List ℕ)). lasts 0 (listed (N m) (Na m) (opened m) rs)) back
            ∙ merged-lasts (N m) (Na m) 0 (opened m) (both-ready a b)
            (subst (λ (rs : List (List ℕ)). Ends (N m) (Na m) (opened m) rs) back h.whole.ends)
            ∙ finish_merge (events_of a) (events_of b)
            (events-ready (N a) (Na a) 0 (opened a) (list_of a))
            (events-ready (N b) (Na b) 0 (opened b) (list_of b))
            ∙ sym (ap₂ (λ (p q : ℕ). max p q)
            (ap (λ (cs : List Call). lasts 0 cs) v.whole.calls ∙ own-lasts (N a) (Na a) 0 v.whole.ends)
            (ap (λ (cs : List Call). lasts 0 cs) w.whole.calls ∙ own-lasts (N b) (Na b) 0 w.whole.ends));
        count = λ i j x y.
            omega (
              arith,
              h.whole.place,
              ap length back,
              length_both a b,
              (ended a i x).whole.place,
              (ended b j y).whole.place,
            );
      }

pub merging : Merging
merging a b ha hb same pa pb = (merges a b ha hb same pa pb, plays a b ha hb same pa pb)

-- ---- a score that ends, without a sample
pub alone : (s : List ℕ) → Alone s
alone s =
    let t = drop 8 s in
    let told : (p : Plays s) → (run s).number ≡ 0
    = λ p. sym (ap (λ (x : Outcome). x.number) ((law s p.room).not_16 (λ z. omega (arith, p.ends, z)))) ∙ p.ends in
    record {
      outlined = (
        told,
        λ e. record {
          room = waits_of (length t) t;
          ends = ap (λ (x : Outcome). x.number) ((law s (waits_of (length t) t)).enough (omega arith)) ∙ e;
        },
      );
      anywhere = λ p room l. ap (λ (x : Outcome). x.number) ((law s room).enough l) ∙ told p;
    }
