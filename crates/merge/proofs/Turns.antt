-- One turn of a merge, in what is left of both scores: the merged record, and what is left then.
use mathlib.Core.Path.{◌≡◌, refl, sym, ap, ◌∙◌}
use mathlib.Core.List.{List, [], ◌∷◌}
use Prim.Native.Nat.{ℕ, ◌+◌, ◌-◌, ◌≤◌, ◌<◌}
use native.Mathlib.Omega.{arith}
use borrow.Author.Tests.{le-leb, lt-leb}
use lib.ListN.{length}
use Rattle.record.specs.Record.{record_number, fields, rest}
use Rattle.follow.specs.Follow.{value}
use Rattle.outline.specs.Outline.{Outline, from, result, record_calls}
use Rattle.timeline.specs.Merge.{merge}
use Rattle.timeline.specs.Events.{event, events}
use Rattle.timeline.specs.Order.{at, Ready}
use Rattle.timeline.specs.Order as Order
use Rattle.timeline.specs.Merged.{merge_record, merged_from}
use Rattle.timeline.proofs.Order.{events-ready}
use Rattle.merge.specs.Left.{Holds, none, more, Left}

module _ (N Na : ℕ) where
  -- ---- what is known of the next record of a score
  pub record Whole (o : Outline) (t : List ℕ) : Type 0 where
    pub number : record_number t ≡ 0
    pub small : value (fields t) 0 < 65536
    pub accepted : result Na o (record_calls N Na (fields t) o) ≡ 0

  pub whole : {o : Outline} {t : List ℕ} {rs : List (List ℕ)} → Holds N Na o t rs → 0 < length t → Whole o t
  whole (none e) h = absurd (omega arith)
  whole (more k n s a r) h = record { number = n; small = s; accepted = a }

  -- it is not late
  pub early : (m x p : ℕ) {o : Outline} {t : List ℕ} {rs : List (List ℕ)} → Holds N Na o t rs → 0 < length t
      → (0 < length t → m + x ≡ p) → Ready p (events N Na m o rs) → x ≤ value (fields t) 0
  unfolding events
  early m x p (none e) h i r = absurd (omega arith)
  early m x p (more k n s a hs) h i (Order.next l u r) = omega (arith, i h)

  -- ---- a turn of the first score
  module _ (o : Outline) (x : ℕ) (s : List ℕ) (u : Outline) (y z : ℕ) (t : List ℕ) where
    abbrev w : ℕ
    w = value (fields s) 0 - x

    pub record First (ls : List (List ℕ)) : Type 0 where
      pub moment : ℕ
      pub rest_of : List (List ℕ)
      pub is : ls ≡ merge_record w (event moment (fields s) o) ∷ rest_of
      pub left : Left N Na (from Na o (record_calls N Na (fields s) o)) 0 (rest s) u z t rest_of

    first_go : (p m n : ℕ) (rs us ls : List (List ℕ)) → Holds N Na o s rs → Holds N Na u t us
        → (0 < length s → m + x ≡ p) → (0 < length t → n + y ≡ p) → Ready p (events N Na m o rs)
        → Ready p (events N Na n u us)
        → merged_from p (merge at (events N Na m o rs) (events N Na n u us)) ≡ ls
        → 0 < length s → (0 < length t → w ≤ value (fields t) 0 - y) → (0 < length t → z ≡ y + w) → First ls
    unfolding events merged_from
    first_go p m n rs us ls (none e) hb sa sb ra rb i h l k = absurd (omega arith)
    first_go p m n rs us ls (more {rs = rs'} g a c d hs) (none e) sa sb (Order.next la ka ra) rb i h l k =
        let q = m + value (fields s) 0 in
        let v = from Na o (record_calls N Na (fields s) o) in
        let f : q - p ≡ w = omega (arith, sa h) in
        record {
          moment = m;
          rest_of = merged_from q (merge at (events N Na q v rs') []);
          is = sym i ∙ ap (λ (j : ℕ). merge_record j (event m (fields s) o) ∷ merged_from q (merge at (events N Na q v rs') [])) f;
          left = record {
            now = q;
            last_first = q;
            last_second = n;
            rs = rs';
            us = [];
            holds_first = hs;
            holds_second = none e;
            since_first = λ _. omega arith;
            since_second = λ j. absurd (omega arith);
            ready_first = events-ready N Na q v rs';
            ready_second = Order.done;
            is = refl;
          };
        }
    first_go p m n rs us ls (more {rs = rs'} g a c d hs) (more {rs = us'} gb ab cb db hb) sa sb (Order.next la ka ra)
        (Order.next lb kb rb) i h l k =
        let q = m + value (fields s) 0 in
        let v = from Na o (record_calls N Na (fields s) o) in
        let f : q - p ≡ w = omega (arith, sa h) in
        let fs = events N Na n u (fields t ∷ us') in
        let j : q ≤ n + value (fields t) 0 = omega (arith, sa h, sb gb, l gb) in
        let lists : merged_from p (event m (fields s) o ∷ merge at (events N Na q v rs') fs) ≡ ls
        = rw (le-leb q (n + value (fields t) 0) j) at i in
        record {
          moment = m;
          rest_of = merged_from q (merge at (events N Na q v rs') fs);
          is = sym lists ∙ ap (λ (j : ℕ). merge_record j (event m (fields s) o) ∷ merged_from q (merge at (events N Na q v rs') fs)) f;
          left = record {
            now = q;
            last_first = q;
            last_second = n;
            rs = rs';
            us = fields t ∷ us';
            holds_first = hs;
            holds_second = more gb ab cb db hb;
            since_first = λ _. omega arith;
            since_second = λ e. omega (arith, sa h, sb e, k e, la);
            ready_first = events-ready N Na q v rs';
            ready_second = Order.next {p = q} {e = event n (fields t) u} j (omega (arith, sa h, la)) rb;
            is = refl;
          };
        }

    pub first_turn : {ls : List (List ℕ)} → Left N Na o x s u y t ls → 0 < length s
        → (0 < length t → w ≤ value (fields t) 0 - y) → (0 < length t → z ≡ y + w) → First ls
    first_turn {ls} c h l k =
        first_go c.now c.last_first c.last_second c.rs c.us ls c.holds_first c.holds_second
        c.since_first c.since_second c.ready_first c.ready_second c.is h l k

  -- ---- a turn of the second score
  module _ (o : Outline) (x z : ℕ) (s : List ℕ) (u : Outline) (y : ℕ) (t : List ℕ) where
    abbrev w₂ : ℕ
    w₂ = value (fields t) 0 - y

    pub record Second (ls : List (List ℕ)) : Type 0 where
      pub moment : ℕ
      pub rest_of : List (List ℕ)
      pub is : ls ≡ merge_record w₂ (event moment (fields t) u) ∷ rest_of
      pub left : Left N Na o z s (from Na u (record_calls N Na (fields t) u)) 0 (rest t) rest_of

    second_go : (p m n : ℕ) (rs us ls : List (List ℕ)) → Holds N Na o s rs → Holds N Na u t us
        → (0 < length s → m + x ≡ p) → (0 < length t → n + y ≡ p) → Ready p (events N Na m o rs)
        → Ready p (events N Na n u us)
        → merged_from p (merge at (events N Na m o rs) (events N Na n u us)) ≡ ls
        → 0 < length t → (0 < length s → w₂ < value (fields s) 0 - x) → (0 < length s → z ≡ x + w₂) → Second ls
    unfolding events merged_from
    second_go p m n rs us ls ha (none e) sa sb ra rb i h l k = absurd (omega arith)
    second_go p m n rs us ls (none e) (more {rs = us'} g a c d hs) sa sb ra (Order.next lb kb rb) i h l k =
        let q = n + value (fields t) 0 in
        let v = from Na u (record_calls N Na (fields t) u) in
        let f : q - p ≡ w₂ = omega (arith, sb h) in
        record {
          moment = n;
          rest_of = merged_from q (events N Na q v us');
          is = sym i ∙ ap (λ (j : ℕ). merge_record j (event n (fields t) u) ∷ merged_from q (events N Na q v us')) f;
          left = record {
            now = q;
            last_first = m;
            last_second = q;
            rs = [];
            us = us';
            holds_first = none e;
            holds_second = hs;
            since_first = λ j. absurd (omega arith);
            since_second = λ _. omega arith;
            ready_first = Order.done;
            ready_second = events-ready N Na q v us';
            is = refl;
          };
        }
    second_go p m n rs us ls (more {rs = rs'} ga aa ca da ha) (more {rs = us'} g a c d hs) sa sb (Order.next la ka ra)
        (Order.next lb kb rb) i h l k =
        let q = n + value (fields t) 0 in
        let v = from Na u (record_calls N Na (fields t) u) in
        let f : q - p ≡ w₂ = omega (arith, sb h) in
        let es = events N Na m o (fields s ∷ rs') in
        let j : q < m + value (fields s) 0 = omega (arith, sa ga, sb h, l ga) in
        let lists : merged_from p (event n (fields t) u ∷ merge at es (events N Na q v us')) ≡ ls
        = rw (lt-leb (m + value (fields s) 0) q j) at i in
        record {
          moment = n;
          rest_of = merged_from q (merge at es (events N Na q v us'));
          is = sym lists ∙ ap (λ (j : ℕ). merge_record j (event n (fields t) u) ∷ merged_from q (merge at es (events N Na q v us'))) f;
          left = record {
            now = q;
            last_first = m;
            last_second = q;
            rs = fields s ∷ rs';
            us = us';
            holds_first = more ga aa ca da ha;
            holds_second = hs;
            since_first = λ e. omega (arith, sa e, sb h, k e, lb);
            since_second = λ _. omega arith;
            ready_first = Order.next {p = q} {e = event m (fields s) o} (omega (arith, j)) (omega (arith, sb h, lb)) ra;
            ready_second = events-ready N Na q v us';
            is = refl;
          };
        }

    pub second_turn : {ls : List (List ℕ)} → Left N Na o x s u y t ls → 0 < length t
        → (0 < length s → w₂ < value (fields s) 0 - x) → (0 < length s → z ≡ x + w₂) → Second ls
    second_turn {ls} c h l k =
        second_go c.now c.last_first c.last_second c.rs c.us ls c.holds_first c.holds_second
        c.since_first c.since_second c.ready_first c.ready_second c.is h l k
