-- The walk between two turns: what it has seen and put, and what is left.
use mathlib.Core.Path.{◌≡◌, refl, sym, ap, subst, ◌∙◌}
use mathlib.Core.Bool.{Bool, true, false}
use mathlib.Core.List.{List, [], ◌∷◌, ◌++◌}
use Prim.Native.Nat.{ℕ, ◌+◌, ◌-◌, ◌≤◌, ◌<◌}
use native.Mathlib.Omega.{arith}
use lib.ListN.{length, get_or, drop, length-append, length-drop}
use Rattle.std.specs.Prelude.{Result, Ok, Err}
use Rattle.refusal.specs.declared.Refusal.{Refusal}
use Rattle.refusal.specs.declared.Refusal.TheVariants.{Merge}
use Rattle.refusal.proofs.Numbers.{refused-above}
use Rattle.octets.specs.Octets.{laid}
use Rattle.octets.proofs.Laws.{laid_nil, laid_next}
use Rattle.record.specs.Record.{bytes}
use Rattle.outline.specs.Outline.{Outline, from, result, record_calls}
use Rattle.outline.specs.Struct.{outline_of, Comes}
use Rattle.outline.specs.declared.Course.{Course}
use Rattle.timeline.specs.Merge.{merge}
use Rattle.timeline.specs.Events.{events}
use Rattle.timeline.specs.Order.{at}
use Rattle.timeline.specs.Ends.{Ends, done, next}
use Rattle.timeline.specs.Merged.{merged_from, record_bytes, all_bytes}
use Rattle.merge.specs.declared.Pair.{Pair}
use Rattle.merge.specs.Left.{Holds, none, more, LeftAt, OnWay, Took}
use Rattle.merge.specs.Walk.{AnyLeft, Puts, begin, Fitting, Walks}
use Rattle.merge.proofs.Putting.{record-length}

-- ---- no record is left
module _ (N Na : ℕ) where
  end_go : (p m n : ℕ) (o u : Outline) (s t : List ℕ) (rs us ls : List (List ℕ)) → Holds N Na o s rs → Holds N Na u t us
      → merged_from p (merge at (events N Na m o rs) (events N Na n u us)) ≡ ls → length s ≡ 0 → length t ≡ 0 → ls ≡ []
  unfolding events merged_from
  end_go p m n o u s t rs us ls (none e) (none f) i h k = sym i
  end_go p m n o u s t rs us ls (more g a b c d) hb i h k = absurd (omega arith)
  end_go p m n o u s t rs us ls (none e) (more g a b c d) i h k = absurd (omega arith)

  pub at-end : {first second : List ℕ} {p : Pair} {ls : List (List ℕ)} → LeftAt N Na first second p ls
      → length first ≤ p.first.at → length second ≤ p.second.at → ls ≡ []
  at-end {first} {second} {p} {ls} h k l =
      let c = h.left in
      end_go c.now c.last_first c.last_second (outline_of p.first.course) (outline_of p.second.course)
      (drop p.first.at first) (drop p.second.at second) c.rs c.us ls c.holds_first c.holds_second c.is
      (omega (arith, length-drop p.first.at first)) (omega (arith, length-drop p.second.at second))

-- ---- a record before others
one-byte-list : (r : List ℕ) (rs : List (List ℕ)) → all_bytes (r ∷ rs) ≡ record_bytes r ++ all_bytes rs
unfolding all_bytes
one-byte-list r rs = refl

no_bytes : all_bytes [] ≡ []
unfolding all_bytes
no_bytes = refl

head-ends : (N Na : ℕ) {o : Outline} {r : List ℕ} {rs : List (List ℕ)} → Ends N Na o (r ∷ rs)
    → (result Na o (record_calls N Na r o) ≡ 0) × Ends N Na (from Na o (record_calls N Na r o)) rs
head-ends N Na (next z s) = (z, s)

module _ (N Na : ℕ) (o : Outline) (first second : List ℕ) (rs : List (List ℕ)) (before : List ℕ) (writes : Bool) where
  pub record Walking (p : Pair) (c : Course) (put : ℕ) (out : List ℕ) : Type 0 where
    pub left : List (List ℕ)
    pub on_way : LeftAt N Na first second p left
    pub ends-to : Ends N Na (outline_of c) left → Ends N Na o rs
    pub ends-from : Ends N Na o rs → Ends N Na (outline_of c) left
    pub long : put + length (all_bytes left) ≡ 8 + length (all_bytes rs)
    pub within : put ≤ length before
    pub same : length out ≡ length before
    pub silent : writes ≡ false → out ≡ before
    pub written : writes ≡ true → 8 + length (all_bytes rs) ≤ length before
        → laid out put (all_bytes left) ≡ laid before 8 (all_bytes rs)

  pub begun : (c : Course) → outline_of c ≡ o → LeftAt N Na first second (begin c) rs → 8 ≤ length before
      → Walking (begin c) c 8 before
  begun c e h l = record {
    left = rs;
    on_way = h;
    ends-to = λ x. subst (λ (u : Outline). Ends N Na u rs) e x;
    ends-from = λ x. subst (λ (u : Outline). Ends N Na u rs) (sym e) x;
    long = refl;
    within = l;
    same = refl;
    silent = λ _. refl;
    written = λ _ _. refl;
  }

  module _ {p : Pair} {c : Course} {put : ℕ} {out : List ℕ} (w : Walking p c put out) where
    pub on : {b : Bool} → AnyLeft first second p b → b ≡ true → OnWay N Na first second p
    on a e = record { ls = w.left; left = w.on_way; some = a.some e }

    pub all_walked : {b : Bool} → AnyLeft first second p b → b ≡ false
        → Walks N Na o rs before writes (Ok put) out
    all_walked a e =
        let q = a.none e in
        let z = at-end N Na w.on_way q.0 q.1 in
        let bytes-none = ap (λ (l : List (List ℕ)). all_bytes l) z ∙ no_bytes in
        let long : put ≡ 8 + length (all_bytes rs) = omega (arith, w.long, ap length bytes-none) in
        record {
          walked = (
            record {
              ends = w.ends-to (subst (λ (l : List (List ℕ)). Ends N Na (outline_of c) l) (sym z) done);
              fits = omega (arith, long, w.within);
            },
            long,
          );
          silent = w.silent;
          written = λ t _.
              sym (laid_nil out put) ∙ ap (λ (x : List ℕ). laid out put x) (sym bytes-none)
              ∙ w.written t (omega (arith, long, w.within));
        }

    -- it stops with 30
    stops : (Fitting N Na o rs (length before) → ⊥) → Walks N Na o rs before writes (Err Merge) out
    stops f = record {
      walked = (f, refl);
      silent = w.silent;
      written = λ _ e. absurd (omega arith);
    }

    module _ {p' : Pair} {q : List ℕ} (t : Took N Na first second w.left p p' q) where
      left_is : Ends N Na o rs
          → (result Na (outline_of c) (record_calls N Na q (outline_of c)) ≡ 0)
          × Ends N Na (from Na (outline_of c) (record_calls N Na q (outline_of c))) t.rest_of
      left_is x =
          head-ends N Na (subst (λ (l : List (List ℕ)). Ends N Na (outline_of c) l) t.is (w.ends-from x))

      bytes_are : all_bytes w.left ≡ record_bytes q ++ all_bytes t.rest_of
      bytes_are = ap (λ (l : List (List ℕ)). all_bytes l) t.is ∙ one-byte-list q t.rest_of

      long-is : put + (bytes (get_or q 1 0) + length (all_bytes t.rest_of)) ≡ 8 + length (all_bytes rs)
      long-is =
          omega (
            arith,
            w.long,
            ap length bytes_are,
            length-append (record_bytes q) (all_bytes t.rest_of),
            record-length q,
          )

      -- what it comes to as the next record
      abbrev pub Coming : Result Course Refusal → Type 0
      Coming =
          Comes (result Na (outline_of c) (record_calls N Na q (outline_of c)))
          (from Na (outline_of c) (record_calls N Na q (outline_of c)))

      pub refused : (r : Refusal) → Coming (Err r) → Walks N Na o rs before writes (Err Merge) out
      refused r h = stops (λ x. refused-above r (h ∙ (left_is x.ends).0))

      pub too_long : {n : ℕ} → n ≡ bytes (get_or q 1 0) → length out - put < n
          → Walks N Na o rs before writes (Err Merge) out
      too_long i l = stops (λ x. let y = x.fits in omega (arith, i, l, y, long-is, w.same, w.within))

      pub walks_on : (d : Course) → Coming (Ok d) → {n : ℕ} → n ≡ bytes (get_or q 1 0) → n ≤ length out - put
          → {after : List ℕ} → Puts out put q writes after → Walking p' d (put + n) after
      walks_on d e {n} i l {after} h =
          let r = record-length q in
          let k = e.1 in
          let fits : put + length (record_bytes q) ≤ length out = omega (arith, r, i, l, w.same, w.within) in
          record {
            left = t.rest_of;
            on_way = t.left;
            ends-to = λ x. w.ends-to
                (subst (λ (ls : List (List ℕ)). Ends N Na (outline_of c) ls) (sym t.is)
                (next (sym e.0) (subst (λ (u : Outline). Ends N Na u t.rest_of) k x)));
            ends-from = λ x. subst (λ (u : Outline). Ends N Na u t.rest_of) (sym k) (left_is x).1;
            long = omega (arith, long-is, i);
            within = omega (arith, fits, r, i, w.same);
            same = h.same ∙ w.same;
            silent = λ x. h.silent x ∙ w.silent x;
            written = λ x y.
                ap (λ (d : List ℕ). laid d (put + n) (all_bytes t.rest_of)) (h.wrote x)
                ∙ laid_next out put (record_bytes q) fits (put + n) (all_bytes t.rest_of) (omega (arith, r, i))
                ∙ ap (λ (d : List ℕ). laid out put d) (sym bytes_are) ∙ w.written x y;
          }
