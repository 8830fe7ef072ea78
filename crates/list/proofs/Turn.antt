-- The next call of a list that is performed: it fits what is left, and when it is made the list is
-- performed as far as behind it. Assumes nothing.
use mathlib.Core.Path.{◌≡◌, refl, sym, ap, ap₂, subst, ◌∙◌}
use mathlib.Core.Bool.{Bool, true, false, cond, ◌&&◌}
use mathlib.Core.List.{List, [], ◌∷◌, ◌++◌, append_assoc}
use Prim.Native.Nat.{ℕ, ◌+◌, ◌-◌, ◌≤◌, ◌<◌}
use native.Mathlib.Omega.{arith}
use lib.Dec.{eqb}
use lib.IntN.{ℤ}
use lib.ListN.{length, take, drop, set, get_or, length-append}
use lib.Seq.{drop-drop}
use Rattle.rule.specs.Calls.{Call, number}
use Rattle.rule.specs.State.{State, call, put, puts, numbers}
use Rattle.list.specs.declared.words.Item.{Item}
use borrow.Author.Tests.{ne_eqb}
use Rattle.std.specs.Prelude.{Option, None, Some, IsSome, IsNone, Result, Ok, Err, is_ok}
use Rattle.refusal.specs.declared.Refusal.{Refusal}
use Rattle.refusal.specs.Numbers.{number_of, code_of}
use Rattle.refusal.proofs.Numbers.{refused-above}
use Rattle.voice.specs.declared.Head.{Head}
use Rattle.voice.specs.Struct.{state_of}
use Rattle.voice.specs.Valid.{Valid}
use Rattle.voice.specs.Called.{On}
use Rattle.list.specs.Words.{last_kind, calls, fits, formed}
use Rattle.list.specs.Items.{item_of, inputs_of, outputs_of, Reads}
use Rattle.samples.specs.Samples.{over}
use Rattle.list.proofs.Form.{Fits, fits_are, and_left, and_right, calls-next, formed-next, formed-more, four, known-kind}
use Rattle.list.proofs.Over.{over-more, over-set}
use Rattle.list.proofs.Put.{put-length}
use Rattle.list.proofs.Running.{Running, nums_long}

-- what a call puts out is at most what it lends
pub at_most : (t : Bool) (n m : ℕ) → m ≡ cond t n 0 → m ≤ n
at_most true n m e = omega arith
at_most false n m e = omega arith

-- w is the next call
module _ {ws : List ℕ} {xs o : List ℤ} {p : List ℕ} {v : State}
    {out : List ℤ} {nums : List ℕ} {u : State} {kind a b c : ℕ} {left : List ℕ} {used written k : ℕ}
    (r : Running ws xs o p v out nums u (kind ∷ a ∷ b ∷ c ∷ left) used written k)
    (w : Item) (w-is : Reads kind a b c w) where
  abbrev next : Call
  next = item_of w (drop used xs)

  -- the calls behind it
  abbrev after : List Call
  after = calls left (drop (used + inputs_of w) xs)

  rest : calls (kind ∷ a ∷ b ∷ c ∷ left) (drop used xs) ≡ next ∷ after
  rest =
      calls-next left w-is (drop used xs)
      ∙ ap (λ (l : List ℤ). next ∷ calls left l) (drop-drop (inputs_of w) used xs)

  -- ---- it fits
  abbrev inputs : ℕ
  inputs = length xs - used

  abbrev outputs : ℕ
  outputs = length o - written

  abbrev places : ℕ
  places = length p - k

  whole : Bool
  whole = fits kind (inputs_of w) (outputs_of w) inputs outputs places

  behind : Bool
  behind = formed left (inputs - inputs_of w) (outputs - outputs_of w) (places - 1)

  both : (whole && behind) ≡ true
  unfolding whole behind
  both = sym (formed-next left w-is inputs outputs places) ∙ r.form

  pub fitting : Fits kind (inputs_of w) (outputs_of w) inputs outputs places
  unfolding whole
  fitting = fits_are _ _ _ _ _ _ (and_left whole behind both)

  -- ---- it is made, and writes over what is left of the output
  module _ {u' : State} {n z : ℕ} {out' : List ℤ}
      (returned : n ≡ number u.voice next) (left_as : u' ≡ call u next)
      (put_is : out' ≡ take written out ++ over (put u next) (drop written out))
      (z-is : z ≡ cond (eqb n 0) (outputs_of w) 0) where
    put-long : z ≡ length (put u next)
    put-long =
        z-is
        ∙ ap (λ (m : ℕ). cond (eqb m 0) (outputs_of w) 0) returned
        ∙ sym (put-length u w (drop used xs))

    few : z ≤ outputs_of w
    few = at_most (eqb n 0) (outputs_of w) z z-is

    in_form : formed left (length xs - (used + inputs_of w)) (length o - (written + z))
        (length p - (k + 1))
        ≡ true
    unfolding behind
    in_form =
        let i : length xs - (used + inputs_of w) ≡ inputs - inputs_of w = omega arith in
        let j : length p - (k + 1) ≡ places - 1 = omega arith in
        rw (i, j)
        (formed-more left (inputs - inputs_of w) (outputs - outputs_of w)
        (length o - (written + z)) (places - 1) (omega (arith, few)) (and_right whole behind both))

    abbrev outs : List ℤ
    outs = r.outs

    pub called-next : Running ws xs o p v out' (set nums k n) u' left (used + inputs_of w) (written + z)
        (k + 1)
    called-next = record {
      outs = outs ++ put u next;
      codes = r.codes ++ (n ∷ []);
      used_within = omega (arith, fitting.input);
      written_is = omega (arith, put-long, r.written_is, length-append outs (put u next));
      written-within = omega (arith, few, fitting.output);
      k-is = omega (arith, length-append r.codes (n ∷ []));
      k-within = omega (arith, fitting.place);
      form = in_form;
      out-is =
          put_is
          ∙ ap (λ (m : ℕ). take m out ++ over (put u next) (drop m out)) r.written_is
          ∙ over-more outs o out r.out-is (put u next);
      nums_is =
          ap (λ (m : ℕ). set nums m n) r.k-is
          ∙ over-set r.codes p nums r.nums_is n (omega (arith, nums_long r, fitting.place));
      out-all =
          append_assoc outs (put u next) (puts u' after)
          ∙ ap (λ (a : State). outs ++ (put u next ++ puts a after)) left_as
          ∙ ap (λ (cs : List Call). outs ++ puts u cs) (sym rest)
          ∙ r.out-all;
      nums_all =
          append_assoc r.codes (n ∷ []) (numbers u' after)
          ∙ ap₂ (λ (m : ℕ) (a : State). r.codes ++ (m ∷ numbers a after)) returned left_as
          ∙ ap (λ (cs : List Call). r.codes ++ numbers u cs) (sym rest)
          ∙ r.nums_all;
    }

-- ---- w is the next call, by the words that are left
pub record Next (xs o : List ℤ) (p rest : List ℕ) (used written k : ℕ) (w : Item) : Type 0 where
  pub reads : Reads (get_or rest 0 0) (get_or rest 1 0) (get_or rest 2 0) (get_or rest 3 0) w
  pub fits : Fits (get_or rest 0 0) (inputs_of w) (outputs_of w) (length xs - used) (length o - written) (length p - k)

module _ {ws : List ℕ} {xs o : List ℤ} {p : List ℕ} {v : State}
    {out : List ℤ} {nums : List ℕ} {u : State} {rest : List ℕ} {used written k : ℕ}
    (r : Running ws xs o p v out nums u rest used written k) (h : 4 ≤ length rest) where
  opened : Running ws xs o p v out nums u
      (get_or rest 0 0 ∷ get_or rest 1 0 ∷ get_or rest 2 0 ∷ get_or rest 3 0 ∷ drop 4 rest) used written k
  opened = subst (λ (l : List ℕ). Running ws xs o p v out nums u l used written k) (four rest h) r

  pub some-item : (x : Option Item) → (IsNone x → last_kind < get_or rest 0 0) → IsSome x
  some-item None f =
      absurd (omega (arith, f refl, known-kind _ _ _ _ (drop 4 rest) _ _ _ opened.form))
  some-item (Some i) f = refl

  pub next-call : (w : Item) → Reads (get_or rest 0 0) (get_or rest 1 0) (get_or rest 2 0) (get_or rest 3 0) w
      → Next xs o p rest used written k w
  next-call w e = record { reads = e; fits = fitting opened w e }

-- what a call that gave x put out
put-out : {A : Type 0} (x : Result A Refusal) (d : ℕ) → cond (is_ok x) d 0 ≡ cond (eqb (code_of x) 0) d 0
put-out (Ok x) d = refl
put-out (Err r) d = sym (ap (λ (t : Bool). cond t d 0) (ne_eqb (number_of r) 0 (refused-above r)))

-- it was made by a routine that was handed q, what is left of the input, and s, what is left of the output
module _ {ws : List ℕ} {xs o : List ℤ} {p : List ℕ} {v : State}
    {out : List ℤ} {nums : List ℕ} {h : Head} {l : List ℤ} {rest : List ℕ} {used written k : ℕ}
    (r : Running ws xs o p v out nums (state_of h l) rest used written k) (n4 : 4 ≤ length rest) where
  pub made-next : {A : Type 0} (w : Item) → Next xs o p rest used written k w → (x : Result A Refusal)
      → {g : Head} {m q s part out' : List ℤ} {left : List ℕ} {i n written' : ℕ}
      → On h l (item_of w q) (record { refusal = code_of x; head = g }) m
      → part ≡ over (put (state_of h l) (item_of w q)) s → q ≡ drop used xs → s ≡ drop written out
      → out' ≡ take written out ++ part → left ≡ drop 4 rest → i ≡ inputs_of w → n ≡ code_of x
      → (z : ℕ) → z ≡ cond (is_ok x) (outputs_of w) 0 → written' ≡ written + z
      → Running ws xs o p v out' (set nums k n) (state_of g m) left (used + i) written' (k + 1) × Valid g m
  made-next w e x {g} {m} {q} {s} {part} made over_it q-is s-is out-is left-is i-is n-is z z-is written-is =
      let f = subst (λ (y : List ℤ). On h l (item_of w y) (record { refusal = code_of x; head = g }) m) q-is made in
      let put_it =
      out-is
      ∙ ap (λ (y : List ℤ). take written out ++ y)
      (over_it ∙ ap₂ (λ (a b : List ℤ). over (put (state_of h l) (item_of w a)) b) q-is s-is) in
      rw (left-is, i-is, n-is, written-is)
      (called-next (opened r n4) w e.reads f.number f.state put_it (z-is ∙ put-out x (outputs_of w)), f.valid)
