-- A change waits if and only if an accepted announced one has not taken effect yet, or an accepted ask was
-- neither committed nor withdrawn; and it is that one. Assumes nothing.
use mathlib.Core.Path.{◌≡◌, refl, sym, ap, ap₂, subst, ◌∙◌}
use mathlib.Core.List.{List, [], ◌∷◌, ◌++◌, append-nil, append_assoc}
use mathlib.Core.Option.{some}
use Prim.Native.Nat.{ℕ}
use native.Mathlib.Omega.{arith}
use native.Mathlib.Decide.{ℕ_discrete}
use lib.IntN.{ℤ}
use Rattle.rule.specs.Voice.{Tuning, Kind, announced, asked, Waiting}
use Rattle.rule.specs.Calls.{Call, block, loss, pluck, announce, ask, prepare, instant, commit, withdraw}
use Rattle.rule.specs.Calls.{Opening, number, done, inputs, opened}
use Rattle.rule.specs.History.{History, steps, ago, step, told, call, from, fresh, after}
use Rattle.rule.specs.Demands.{Awaited, Ends, Kept, Pending, announcement, request, Waits}
use Rattle.rule.proofs.Refusals.{refuses}
use Rattle.rule.proofs.Keeps.{none-some, same_some, keeps, prepared-waits}
use Rattle.rule.proofs.Opened.{opened_rested}
use Rattle.rule.proofs.Walk.{through_keeps, from-append, after-split, call-accepted}
use Rattle.rule.proofs.Counts.{counts}
use Rattle.rule.proofs.Steps.{Goes, idle, holds, switches, step-began, step-goes}
use Rattle.rule.proofs.Sound.{call_sound, after_sound, advance}
use Rattle.rule.proofs.Stands.{Stands, stands-ask, stands-kept, Holds, still, gone}
use Rattle.rule.proofs.Stands.{holds_announce, holds_from}

-- ---- what waits after a call: what the call prepared, or what waited before and the call did not end
module _ (h : History) (c : Call) where
  data Comes (u : History) (w : Waiting) : Type 0 where
    anew : c ≡ prepare w.kind w.tuning → number h.voice c ≡ 0 → u.began ≡ steps h → Comes u w
    again : (x : Waiting) → h.voice.waiting ≡ some x → x.kind ≡ w.kind → x.tuning ≡ w.tuning
        → u.began ≡ h.began → (Ends c → number h.voice c ≡ 0 → ⊥) → Comes u w

  abbrev AllCome : History → Type 0
  AllCome u = (w : Waiting) → u.voice.waiting ≡ some w → Comes u w

  come_step : (u : History) (x : ℤ) → AllCome u → AllCome (step u x)
  come_step u x f w p = go (step-goes u x) (step-began u x)
    where
      on : (z : Waiting) → z.kind ≡ w.kind → z.tuning ≡ w.tuning → (step u x).began ≡ u.began
          → Comes u z → Comes (step u x) w
      on z κ τ b (anew e a s) = anew (e ∙ ap₂ prepare κ τ) a (b ∙ s)
      on z κ τ b (again y q k t s n) = again y q (k ∙ κ) (t ∙ τ) (b ∙ s) n

      go : Goes u.voice (ago u) (step u x).voice → (step u x).began ≡ u.began → Comes (step u x) w
      go (idle q k) b = absurd (none-some (sym k.waiting ∙ p))
      go (switches z q e l k) b = absurd (none-some (sym k.waiting ∙ p))
      go (holds z q l k) b =
          let i = same_some (sym k.waiting ∙ p) in
          on z (ap (λ (y : Waiting). y.kind) i) (ap (λ (y : Waiting). y.tuning) i) b (f z q)

come_told : (h : History) (c : Call) → number h.voice c ≡ 0 → AllCome h c (told h c)
unfolding done
come_told h (block xs n) z w p = again w p refl refl refl (λ k e. absurd k)
come_told h (loss G) z w p = again w p refl refl refl (λ k e. absurd k)
come_told h (pluck a n y) z w p = again w p refl refl refl (λ k e. absurd k)
come_told h (prepare k to) z w p =
    let i = prepared-waits h.voice (ago h) k to p in
    anew (ap (λ (y : Waiting). prepare y.kind y.tuning) i) z refl
come_told h (instant to) z w p = absurd (none-some p)
come_told h commit z w p =
    let k = (refuses.commits h.voice).accepted.0 z in
    absurd (none-some (sym ((keeps h.voice (ago h)).commit_now k.w k.held).waiting ∙ p))
come_told h withdraw z w p = absurd (none-some p)

come_call : (h : History) (c : Call) → AllCome h c (call h c)
come_call h c = go (ℕ_discrete (number h.voice c) 0)
  where
    go : Dec (number h.voice c ≡ 0) → AllCome h c (call h c)
    go (yes z) =
        rw (call-accepted h c z)
        (through_keeps (AllCome h c) (come_step h c) (inputs c) (told h c) (come_told h c z))
    go (no f) = rw ((counts h).refused_none c f) (λ w p. again w p refl refl refl (λ k. f))

-- ---- where what waits comes from in a list
kept_snoc : (cs : List Call) (h : History) (c : Call) → Kept h cs
    → (Ends c → number (from h cs).voice c ≡ 0 → ⊥) → Kept h (cs ++ (c ∷ []))
kept_snoc [] h c k f = (f, tt)
kept_snoc (b ∷ cs) h c k f = (k.0, kept_snoc cs (call h b) c k.1 f)

module _ (o : Opening) where
  record Origin (cs : List Call) (k : Kind) (t : Tuning) : Type 0 where
    pub pre : List Call
    pub post : List Call
    pub split : cs ≡ pre ++ prepare k t ∷ post
    pub accepted : number (after o pre).voice (prepare k t) ≡ 0
    pub began : (after o cs).began ≡ steps (after o pre)
    pub kept : Kept (call (after o pre) (prepare k t)) post

  abbrev Owned : List Call → Type 0
  Owned cs = (w : Waiting) → (after o cs).voice.waiting ≡ some w → Origin cs w.kind w.tuning

  own-call : (cs : List Call) (c : Call) → Owned cs → Owned (cs ++ (c ∷ []))
  own-call cs c own w p = go (come_call (after o cs) c w (ap (λ (h : History). h.voice.waiting) (sym next) ∙ p))
    where
      next : after o (cs ++ (c ∷ [])) ≡ call (after o cs) c
      next = from-append cs (c ∷ []) (fresh o)

      go : Comes (after o cs) c (call (after o cs) c) w → Origin (cs ++ (c ∷ [])) w.kind w.tuning
      go (anew e a b) = record {
        pre = cs;
        post = [];
        split = ap (λ (x : Call). cs ++ (x ∷ [])) e;
        accepted = rw e at a;
        began = ap (λ (h : History). h.began) next ∙ b;
        kept = tt;
      }
      go (again x q κ τ b f) =
          let i : Origin cs w.kind w.tuning = rw (κ, τ) at (own x q) in
          record {
            pre = i.pre;
            post = i.post ++ (c ∷ []);
            split =
                ap (λ (l : List Call). l ++ (c ∷ [])) i.split
                ∙ append_assoc i.pre (prepare w.kind w.tuning ∷ i.post) (c ∷ []);
            accepted = i.accepted;
            began = ap (λ (h : History). h.began) next ∙ b ∙ i.began;
            kept =
                kept_snoc i.post (call (after o i.pre) (prepare w.kind w.tuning)) c i.kept
                (rw (after-split o i.pre i.post (prepare w.kind w.tuning) i.split) at f);
          }

  own-all : (cs ds : List Call) → Owned ds → Owned (ds ++ cs)
  own-all [] ds own = subst Owned (sym (append-nil ds)) own
  own-all (c ∷ cs) ds own =
      subst Owned (append_assoc ds (c ∷ []) cs) (own-all cs (ds ++ (c ∷ [])) (own-call ds c own))

  owned : (cs : List Call) → Owned cs
  owned cs = own-all cs [] (λ w p. absurd (none-some (sym (opened_rested o).idle ∙ p)))

-- ---- for every opening and list
pending : (o : Opening) (cs : List Call) (k : Kind) (t : Tuning) (w : Waiting)
    → (after o cs).voice.waiting ≡ some w → w.kind ≡ k → Origin o cs k t → Pending o cs k t
pending o cs asked t w p κ i = request i.pre i.post i.split i.accepted i.kept
pending o cs announced t w p κ i =
    let g = after_sound o cs in
    let r = g.waiting w p in
    let e = (g.valid.waiting w p).early κ in
    let n = advance o cs ∙ sym (advance o i.pre) in
    announcement i.pre i.post i.split i.accepted
    (omega (arith, r.since, r.taken, e, i.began, n))

waiting : (o : Opening) (cs : List Call) {k : Kind} {t : Tuning} → Pending o cs k t
    → Awaited (after o cs).voice k t
waiting o cs (request pre post {to} s z k) =
    let h = after o pre in
    let i : Stands to (steps h) (after o cs)
    = rw (after-split o pre post (ask to) s)
    (stands-kept to (steps h) post (call h (ask to)) k (stands-ask h to z)) in
    record { w = i.w; held = i.held; kind = i.kind; tuning = i.tuning }
waiting o cs (announcement pre post {to} s z l) =
    let h = after o pre in
    go (rw (after-split o pre post (announce to) s)
    (holds_from to (steps h) h.voice.Na post (call h (announce to))
    (call_sound h (announce to) (after_sound o pre)) (holds_announce h to z)))
  where
    go : Holds to (steps (after o pre)) (after o pre).voice.Na (after o cs)
        → Awaited (after o cs).voice announced to
    go (gone e) = absurd (omega arith)
    go (still w p κ τ b n) = record { w = w; held = p; kind = κ; tuning = τ }

pub waits : (o : Opening) (cs : List Call) → Waits o cs
waits o cs k t = (
  λ a. pending o cs k t a.w a.held a.kind (rw (a.kind, a.tuning) at (owned o cs a.w a.held)),
  waiting o cs,
)
