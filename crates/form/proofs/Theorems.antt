-- specs/Theorems.antt: one list of limits, the round trip, and the panel.

use mathlib.Core.Path.{◌≡◌, refl, sym, ap, subst, ◌∙◌}
use mathlib.Core.Bool.{Bool, true, false, cond}
use mathlib.Core.List.{List, [], ◌∷◌, ◌++◌, map, reverse, reverse-reverse}
use mathlib.Core.Option.{none}
use Prim.Native.Nat.{ℕ, zero, suc, ◌+◌, ◌*◌, ◌^◌, ◌≤◌, ◌<◌}
use native.Mathlib.Omega.{arith}
use native.Mathlib.Decide.{ℕ_discrete}
use lib.Dec.{eqb}
use lib.IntN.{ℤ, pos, nat_abs}
use lib.ListN.{length, drop, get_or, length-map, length-reverse}
use borrow.Author.Tests.{eqb-true, eqb-false, eq-eqb, ne_eqb, le-ltb}
use Rattle.refusal.specs.Limits.{Limit, refusal}
use Rattle.refusal.specs.Returned.{Kept, AllKept, none, more, numbered}
use Rattle.refusal.proofs.Returned.{returned}
use Rattle.octets.specs.Theorems.{Bytes}
use Rattle.octets.proofs.Laws.{append-bytes, dropped-bytes}
use Rattle.rule.specs.Calls.{Opening, opened, open_limits, resting}
use Rattle.rule.specs.State.{State, silence, fresh}
use Rattle.rule.specs.Valid.{Whole}
use Rattle.rule.proofs.States.{fresh-whole}
use Rattle.form.specs.Numbers.{Numbers, numbers_of, state_of, refused}
use Rattle.form.specs.Limits.{limits}
use Rattle.form.specs.Parts.{parts, numbers_in, refused_parts, map_byte, flags, packed, size, unpacked, chosen}
use Rattle.form.specs.Parts.{form, stored, map_of, held_in, value}
use Rattle.form.specs.Loads.{length_limit, part_limit, load_number, Loaded, loads, Panel, shown, panel}
use Rattle.form.specs.Theorems.{Storable, OneList, RoundTrip, Shows}
use Rattle.form.proofs.Packing.{Shaped, Absent, flags-back, packed-length, unpacked-back, chosen-absent}
use Rattle.form.proofs.Packing.{absent-from, absent-length, flags-length, form-bytes, chosen_self, packed_self, unpacked_shaped, shaped_worded}
use Rattle.form.proofs.Packing.{shaped_length, shaped_at, size-most}
use Rattle.form.proofs.Limits.{whole-limits, limits-whole, limits-above, passed, passes}
use Rattle.form.proofs.Numbers.{state_back, numbers_back, parts_shaped, refused-line, refused-total}
use Rattle.form.proofs.Small.{small}
use Rattle.form.proofs.Back.{kept_back}

-- ---- Open's refusal voice
abbrev refusing : Opening
refusing = record { N = 0; L = 0; d = 0; G = 0; Na = 0 }

pub refused_opens : (o : Opening) → (refusal (open_limits o) ≡ 0 → ⊥) → fresh o ≡ refused
unfolding opened
refused_opens o f = rw (ne_eqb (refusal (open_limits o)) 0 f)

refused-whole : Whole refused
refused-whole = rw (refused_opens refusing (λ e. omega arith)) at (fresh-whole refusing)

pub refused-storable : Storable refused
refused-storable = record { whole = refused-whole; noise = omega arith }

-- ---- the eight parts of a voice
module _ (i : Numbers) (k : AllKept (limits i)) (z : i.pluck.noise < 2 ^ 32) (n : length i.line ≡ 2112) where
  pub shaped : Shaped (parts i) refused_parts
  shaped = parts_shaped i (small i k z) n

  -- with any bit map that leaves out nothing that counts
  module _ (bs : List Bool) (a : Absent bs (parts i) refused_parts) (e : length bs ≡ 8) where
    map-held : map_of (form bs i) ≡ bs
    map-held = ap (λ (m : ℕ). flags m (map_byte bs)) (sym e) ∙ flags-back bs

    pub held_back : held_in (form bs i) ≡ i
    unfolding held_in
    held_back =
        ap (λ (cs : List Bool). numbers_in (unpacked cs refused_parts (packed bs (parts i)))) map-held
        ∙ ap numbers_in (unpacked-back a shaped)
        ∙ numbers_back i (small i k z)

    pub form-long : length (form bs i) ≡ suc (size (map_of (form bs i)) refused_parts)
    form-long =
        ap suc (packed-length bs shaped)
        ∙ ap (λ (cs : List Bool). suc (size cs refused_parts)) (sym map-held)

    pub form_passes : load_number (form bs i) ≡ 0
    unfolding load_number
    form_passes =
        let s = form bs i in
        let g : refusal (limits (held_in s)) ≡ 0 = ap (λ (j : Numbers). refusal (limits j)) held_back ∙ sym (passes k) in
        let h : Kept (length_limit s) = record { least = omega (arith, form-long); most = omega (arith, form-long) } in
        let w : Kept (part_limit (held_in s)) = record { least = omega arith; most = omega arith } in
        sym (passes (more h (more w none)))

    pub form-loads : loads (form bs i) ≡ record { refusal = 0; state = state_of i }
    unfolding loads
    form-loads = rw (form_passes, held_back)

-- ---- a voice that can be stored
refused_eight : length refused_parts ≡ 8
unfolding refused_parts parts
refused_eight = refl

module _ (v : State) (h : Storable v) where
  kept : AllKept (limits (numbers_of v))
  kept = whole-limits v h.whole

  long : length (reverse v.line) ≡ 2112
  long = length-reverse v.line ∙ h.whole.many

  abbrev bits : List Bool
  bits = chosen (parts (numbers_of v)) refused_parts

  pub of-voice : Shaped (parts (numbers_of v)) refused_parts
  of-voice = shaped (numbers_of v) kept h.noise long

  left_out : Absent bits (parts (numbers_of v)) refused_parts
  left_out = chosen-absent of-voice

  pub eight : length bits ≡ 8
  eight = absent-length left_out ∙ refused_eight

  pub back : loads (stored v) ≡ record { refusal = 0; state = v }
  unfolding stored
  back =
      form-loads (numbers_of v) kept h.noise long bits left_out eight
      ∙ ap (λ (u : State). record { refusal = 0; state = u }) (state_back v h.whole)

  needless : (bs : List Bool) → length bs ≡ 8
      → ((j : ℕ) → get_or bs j true ≡ false → get_or (parts (numbers_of v)) j [] ≡ get_or refused_parts j [])
      → loads (form bs (numbers_of v)) ≡ record { refusal = 0; state = v }
  needless bs e f =
      form-loads (numbers_of v) kept h.noise long bs (absent-from bs of-voice (e ∙ sym refused_eight) f) e
      ∙ ap (λ (u : State). record { refusal = 0; state = u }) (state_back v h.whole)

  stored_bytes : Bytes (stored v)
  unfolding stored
  stored_bytes = form-bytes bits (parts (numbers_of v)) eight

  stored-long : length (stored v) ≤ 8529
  unfolding stored
  stored-long = omega (arith, packed-length bits of-voice, size-most bits refused_parts, refused-total)

pub shortest : stored refused ≡ 0 ∷ []
unfolding stored refused_parts
shortest = rw (chosen_self refused_parts, packed_self refused_parts)

-- ---- what bytes hold
refused_shaped : Shaped refused_parts refused_parts
unfolding refused_parts
refused_shaped = of-voice refused refused-storable

last-part : length (get_or refused_parts 7 []) ≡ 2112
unfolding refused_parts parts
last-part = refused-line

module _ (s : List ℕ) (b : Bytes s) where
  pub held_shaped : Shaped (unpacked (map_of s) refused_parts (drop 1 s)) refused_parts
  held_shaped =
      unpacked_shaped (map_of s) (drop 1 s) (flags-length 8 (get_or s 0 0) ∙ sym refused_eight)
      (shaped_worded refused_shaped) (dropped-bytes 1 s b)

  held-noise : (held_in s).pluck.noise < 2 ^ 32
  unfolding held_in numbers_in
  held-noise = shaped_at held_shaped 6 2

  held-long : length (held_in s).line ≡ 2112
  unfolding held_in numbers_in
  held-long =
      length-map (get_or (unpacked (map_of s) refused_parts (drop 1 s)) 7 []) value
      ∙ shaped_length held_shaped 7
      ∙ last-part

  passed-all : load_number s ≡ 0 → AllKept (limits (held_in s))
  unfolding load_number
  passed-all e = go ((returned (length_limit s ∷ part_limit (held_in s) ∷ []) tt).accepted.0 e)
    where
      go : AllKept (length_limit s ∷ part_limit (held_in s) ∷ []) → AllKept (limits (held_in s))
      go (more w (more g none)) =
          passed (limits (held_in s)) (limits-above (held_in s)) (omega (arith, g.most))

  pub valid : Storable (loads s).state
  unfolding loads
  valid = go (eqb (load_number s) 0) refl
    where
      go : (c : Bool) → eqb (load_number s) 0 ≡ c → Storable (cond c (state_of (held_in s)) refused)
      go true e = record {
        whole = limits-whole (held_in s) (passed-all (eqb-true (load_number s) 0 e)) held-long;
        noise = held-noise;
      }
      go false e = refused-storable

pub nothing : (s : List ℕ) → ((loads s).refusal ≡ 0 → ⊥) → (loads s).state ≡ refused
unfolding loads
nothing s f = rw (ne_eqb (load_number s) 0 f)

pub one_list : OneList
one_list = record {
  kept = whole-limits;
  whole = limits-whole;
  state_back = state_back;
  numbers_back = kept_back;
}

pub round_trip : RoundTrip
round_trip = record {
  back = back;
  alike = λ v u h g e.
      sym (ap (λ (r : Loaded). r.state) (back v h))
      ∙ ap (λ (s : List ℕ). (loads s).state) e
      ∙ ap (λ (r : Loaded). r.state) (back u g);
  valid = valid;
  nothing = nothing;
  refused_opens = refused_opens;
  in_bytes = stored_bytes;
  longest = stored-long;
  shortest = shortest;
  needless = needless;
}

-- ---- the panel
voice-shows : (v : State) → Storable v
    → panel (stored v) ≡ shown 0 v.voice.tuning.L v.voice.tuning.d v.voice.G
unfolding panel
voice-shows v h = rw (back v h)

pub shows : Shows
unfolding panel
shows = record {
  shows = voice-shows;
  alike = λ v u h g L d G. voice-shows v h ∙ rw (L, d, G) (sym (voice-shows u g));
  nothing = λ s f. rw (nothing s f);
}
