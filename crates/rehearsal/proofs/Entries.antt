-- A step written as a tick: an entry for each frame that it hears. Assumes nothing.
use Prim.Native.Nat.{ℕ, zero, suc, ◌+◌, ◌*◌, ◌-◌, ◌≤◌, ◌<◌}
use mathlib.Core.Path.{◌≡◌, refl, sym, ap, ap₂, ◌∙◌}
use mathlib.Core.Bool.{true}
use mathlib.Core.List.{List, [], ◌∷◌, ◌++◌, append_assoc, Memᴰ}
use mathlib.Core.Logic.{⊎_elim}
use native.Mathlib.Numerals.{add-one}
use native.Mathlib.Omega.{arith}
use lib.ListN.{length, take, drop, get_or, length-drop, length-append, length-take}
use lib.Seq.{drop-cons, take-suc, get_or-drop, drop-length}
use Rattle.laws.specs.Lists.{tab, joined}
use Rattle.laws.proofs.Numbers.{lt-or-ge, clash}
use Rattle.laws.proofs.Lists.{length-tab, get_or-tab, map-tab, every-index, mem-of-map, length-joined-le}
use Rattle.splice.specs.Bytes.{part}
use Rattle.splice.proofs.Laws.{take-pasted-through}
use Rattle.text.specs.Text.{Put}
use Rattle.trace.specs.Trace.{batch_at}
use Rattle.rehearsal.specs.Step.{tick_part, heard_at, heard_count, heard_number, heard_numbers, frame_by, is_sent, heard_frames, tick_with}
use Rattle.rehearsal.specs.Views.{slot_frame, sent_of, Kept, Playable, entry_of}
use Rattle.rehearsal.proofs.Steps.{heard-at-is, step-end-is}
use Rattle.rehearsal.proofs.Slots.{frame_here, size-here, size-later, sent-nothing}

-- ---- one entry: the used bytes of a slot

used-part : (slots : List ℕ) (at : ℕ) → at < length slots → part slots at (1 + get_or slots at 0) ≡ get_or slots at 0 ∷ part slots (at + 1) (get_or slots at 0)
used-part slots at h =
    let one : 1 + get_or slots at 0 ≡ suc (get_or slots at 0) = omega arith in
    ap₂ take one (drop-cons slots at 0 h)
    ∙ ap (λ (k : ℕ). get_or slots at 0 ∷ part slots k (get_or slots at 0)) (sym (add-one at))

module _ {steps : ℕ} {slots : List ℕ} (kept : Kept steps slots) (number : ℕ) where
  -- a frame that was sent is of an earlier step
  pub number-some : is_sent (sent_of steps slots) number ≡ true → number ≡ 0 → ⊥
  number-some h e = clash h (sent-nothing (sent_of steps slots) number 0 (ap (λ (n : ℕ). length (frame_by (sent_of steps slots) n)) (sym e)) refl)

  pub number-earlier : is_sent (sent_of steps slots) number ≡ true → number ≤ steps
  number-earlier h =
      ⊎_elim (λ later. absurd (clash h (sent-nothing (sent_of steps slots) number 0 (size-later steps slots number later) refl)))
      (λ earlier. earlier)
      (lt-or-ge steps number)

  pub frame-most : length (frame_by (sent_of steps slots) number) ≤ 71
  frame-most =
      ⊎_elim (λ later. omega (arith, size-later steps slots number later)) (λ earlier. most number earlier) (lt-or-ge steps number)
    where
      most : (number : ℕ) → number ≤ steps → length (frame_by (sent_of steps slots) number) ≤ 71
      most zero h = omega arith
      most (suc k) h = omega (arith, size-here kept (suc k) (λ e. omega arith) h, kept.sizes (suc k - 1) (omega arith))

  -- its length byte, and its bytes
  pub slot-entry : is_sent (sent_of steps slots) number ≡ true → (size : ℕ) → size ≡ length (frame_by (sent_of steps slots) number)
      → part slots (72 * (number - 1)) (1 + size) ≡ entry_of (frame_by (sent_of steps slots) number)
  unfolding slot_frame
  slot-entry h size e =
      let some = number-some h in
      let earlier = number-earlier h in
      let here : get_or slots (72 * (number - 1)) 0 ≡ length (frame_by (sent_of steps slots) number) = size-here kept number some earlier in
      ap (λ (n : ℕ). part slots (72 * (number - 1)) (1 + n)) (e ∙ sym here)
      ∙ used-part slots (72 * (number - 1)) (omega (arith, kept.room, kept.most, earlier, some))
      ∙ ap₂ ◌∷◌ here (sym (frame_here kept number some earlier))

-- ---- the entries of all frames that a step hears

module _ (sent : List (List ℕ)) (s : List ℕ) where
  frames-tab : heard_frames sent s ≡ tab (heard_count s) (λ i. frame_by sent (heard_number s i))
  unfolding heard_frames heard_numbers
  frames-tab = map-tab (frame_by sent) (heard_count s) (heard_number s)

  pub length-frames : length (heard_frames sent s) ≡ heard_count s
  length-frames = ap length frames-tab ∙ length-tab (heard_count s) (λ i. frame_by sent (heard_number s i))

  -- those from index i on
  pub entries_from : ℕ → List ℕ
  entries_from i = joined entry_of (drop i (heard_frames sent s))

  pub entries-turn : (i number : ℕ) → i < heard_count s → number ≡ heard_number s i → entries_from i ≡ entry_of (frame_by sent number) ++ entries_from (i + 1)
  unfolding joined entries_from
  entries-turn i number h e =
      let there : i < length (heard_frames sent s) = rw length-frames h in
      let this : get_or (heard_frames sent s) i [] ≡ frame_by sent number
      = ap (λ (l : List (List ℕ)). get_or l i []) frames-tab ∙ get_or-tab (heard_count s) (λ j. frame_by sent (heard_number s j)) i [] h ∙ ap (frame_by sent) (sym e) in
      ap (joined entry_of) (drop-cons (heard_frames sent s) i [] there)
      ∙ ap₂ (λ (f : List ℕ) (k : ℕ). entry_of f ++ joined entry_of (drop k (heard_frames sent s))) this (sym (add-one i))

  pub entries-all : joined entry_of (heard_frames sent s) ≡ entries_from 0
  unfolding entries_from
  entries-all = refl

  pub entries-end : (i : ℕ) → i ≡ heard_count s → entries_from i ≡ []
  unfolding entries_from joined
  entries-end i e =
      ap (λ (k : ℕ). joined entry_of (drop k (heard_frames sent s))) (e ∙ sym length-frames)
      ∙ ap (joined entry_of) (drop-length (heard_frames sent s))

  pub hears-each : Playable sent s → (i number : ℕ) → i < heard_count s → number ≡ heard_number s i → is_sent sent number ≡ true
  unfolding heard_numbers
  hears-each play i number h e =
      ap (is_sent sent) (e ∙ sym (get_or-tab (heard_count s) (heard_number s) i 0 h))
      ∙ every-index (is_sent sent) (tab (heard_count s) (heard_number s)) 0 play.hears i (rw length-tab h)

  count_at_lem : get_or s (1 + batch_at (drop 1 s)) 0 ≡ heard_count s
  unfolding heard_count heard_at tick_part
  count_at_lem = refl

  -- ---- the tick: the step's own bytes up to the count of the frames heard, which is the batch's, and then the entries

  pub tick-parts : Playable sent s → tick_with sent s ≡ part s 1 (heard_at s) ++ joined entry_of (heard_frames sent s)
  unfolding tick_with tick_part heard_at
  tick-parts play =
      let at : ℕ = batch_at (drop 1 s) in
      let inside : at < length (drop 1 s) = omega (arith, length-drop 1 s, play.whole, step-end-is s, heard-at-is s) in
      let one : 1 + at ≡ suc at = omega arith in
      let count : get_or (drop 1 s) at 0 ≡ length (heard_frames sent s) = get_or-drop 1 s at 0 ∙ count_at_lem ∙ sym length-frames in
      sym
      (ap (λ (n : ℕ). take n (drop 1 s) ++ joined entry_of (heard_frames sent s)) one
      ∙ ap (λ (l : List ℕ). l ++ joined entry_of (heard_frames sent s)) (take-suc (drop 1 s) at 0 inside)
      ∙ append_assoc (take at (drop 1 s)) (get_or (drop 1 s) at 0 ∷ []) (joined entry_of (heard_frames sent s))
      ∙ ap (λ (n : ℕ). take at (drop 1 s) ++ (n ∷ joined entry_of (heard_frames sent s))) count)

  -- how long it can be
  pub entries-most : ((number : ℕ) → length (frame_by sent number) ≤ 71) → ((i : ℕ) → get_or s i 0 < 256)
      → length (joined entry_of (heard_frames sent s)) ≤ 18360
  unfolding heard_frames heard_count
  entries-most short bytes =
      let most : length (joined entry_of (heard_frames sent s)) ≤ length (heard_frames sent s) * 72
      = length-joined-le entry_of (heard_frames sent s) 72 entry-most in
      omega (arith, most, length-frames, bytes (heard_at s))
    where
      entry-most : (f : List ℕ) → Memᴰ f (heard_frames sent s) → length (entry_of f) ≤ 72
      entry-most f m =
          let from = mem-of-map (frame_by sent) (heard_numbers s) m in
          omega (arith, short from.0, ap length from.2)

  pub tick-most : Playable sent s → ((number : ℕ) → length (frame_by sent number) ≤ 71) → ((i : ℕ) → get_or s i 0 < 256) → length (tick_with sent s) ≤ 18620
  tick-most play short bytes =
      let front : length (part s 1 (heard_at s)) ≤ heard_at s = rw length-take (omega arith) in
      rw (tick-parts play, length-append) (omega (arith, front, heard-at-is s, bytes 4, entries-most short bytes))

-- ---- a text at the start of a buffer, read back

pub put-read : {l m : List ℕ} {e : ℕ} {text : List ℕ} → length text ≤ length l → Put l 0 text m e → part m 0 e ≡ text
put-read {l} {m} {e} {text} h p = ap (take e) p.bytes ∙ take-pasted-through l 0 text (omega arith) e p.ends
