-- The slots of the frames sent: what they hold, and what a step leaves in them; and which steps can be called. Assumes nothing.
use Prim.Native.Nat.{ℕ, zero, suc, ◌+◌, ◌*◌, ◌-◌, ◌≤◌, ◌<◌}
use mathlib.Core.Path.{◌≡◌, refl, sym, ap, ap₂, ◌∙◌}
use mathlib.Core.Bool.{Bool, true, false}
use mathlib.Core.List.{List, [], ◌∷◌, ◌++◌}
use mathlib.Core.Logic.{⊎_elim}
use native.Mathlib.Nat.{add-zero}
use native.Mathlib.Numerals.{add-one}
use native.Mathlib.Omega.{arith}
use lib.Dec.{ltb, eqb}
use lib.ListN.{length, take, drop, get_or, set}
use lib.Seq.{get_or-drop, length-take-le, take-append_seam}
use borrow.Author.Tests.{lt-ltb, le-ltb, ltb-true, eq-eqb, ne_eqb, eqb-true}
use Rattle.laws.specs.Lists.{tab, every}
use Rattle.laws.proofs.Numbers.{lt-or-ge, and_intro, false-of-no, clash, not_of_false, not-of-true}
use Rattle.laws.proofs.Lists.{drop-take, length-tab, get_or-tab, get_or-tab-out, tab-ext, tab-suc, every-index, every-append-intro}
use Rattle.splice.specs.Bytes.{pasted, part}
use Rattle.splice.proofs.Laws.{set-pasted, length-pasted, length_part, take-pasted, drop-pasted, get_or-pasted-before, pasted-right}
use Rattle.model.specs.Question.{ask, first_no}
use Rattle.lemmas.proofs.Questions.{first-yes, other-yes}
use Rattle.rehearsal.specs.Step.{station_of, heard_count, heard_number, heard_numbers, step_end, frame_by, is_sent, step_number}
use Rattle.rehearsal.specs.Views.{slot_frame, sent_of, Kept, Playable, entry_of, with_frame}

-- ---- what the slots hold

-- before the first step
pub kept-none : (slots : List ℕ) → length slots ≡ 72000 → Kept 0 slots
kept-none slots e = record { room = e; most = omega arith; sizes = λ k h. absurd (omega arith) }

pub sent-none : (slots : List ℕ) → sent_of 0 slots ≡ []
unfolding sent_of tab
sent-none slots = refl

pub length-sent : (steps : ℕ) (slots : List ℕ) → length (sent_of steps slots) ≡ steps
unfolding sent_of
length-sent steps slots = length-tab steps (slot_frame slots)

module _ {steps : ℕ} {slots : List ℕ} (kept : Kept steps slots) where
  -- a frame is as long as its length byte says
  slot-length : (k : ℕ) → k < steps → length (slot_frame slots k) ≡ get_or slots (72 * k) 0
  unfolding slot_frame
  slot-length k h = length_part slots (72 * k + 1) (get_or slots (72 * k) 0) (omega (arith, kept.room, kept.most, kept.sizes k h))

  -- a number of a step, from 1
  pub frame_here : (number : ℕ) → (number ≡ 0 → ⊥) → number ≤ steps → frame_by (sent_of steps slots) number ≡ slot_frame slots (number - 1)
  unfolding sent_of
  frame_here zero some h = absurd (some refl)
  frame_here (suc k) some h = get_or-tab steps (slot_frame slots) k [] (omega arith) ∙ ap (slot_frame slots) (omega arith)

  pub size-here : (number : ℕ) → (number ≡ 0 → ⊥) → number ≤ steps → get_or slots (72 * (number - 1)) 0 ≡ length (frame_by (sent_of steps slots) number)
  size-here number some h = sym (ap length (frame_here number some h) ∙ slot-length (number - 1) (omega arith))

pub size-later : (steps : ℕ) (slots : List ℕ) (number : ℕ) → steps < number → 0 ≡ length (frame_by (sent_of steps slots) number)
unfolding sent_of
size-later steps slots zero h = refl
size-later steps slots (suc k) h = sym (ap length (get_or-tab-out steps (slot_frame slots) k [] (omega arith)))

-- ---- one frame more

-- the length byte stored, then the frame behind it
pub frame-kept : (slots : List ℕ) (step sent : ℕ) (outgoing : List ℕ) {after : List ℕ} → 72 * step < length slots → sent ≤ length outgoing
    → after ≡ pasted (set slots (72 * step) sent) (72 * step + 1) (take sent outgoing) → after ≡ with_frame slots step (take sent outgoing)
unfolding with_frame
frame-kept slots step sent outgoing h k e =
    e
    ∙ ap (λ (l : List ℕ). pasted l (72 * step + 1) (take sent outgoing)) (set-pasted slots (72 * step) sent h)
    ∙ pasted-right slots (72 * step) (sent ∷ []) (72 * step + 1) refl (take sent outgoing) (omega arith)
    ∙ ap (λ (n : ℕ). pasted slots (72 * step) (n ∷ take sent outgoing)) (sym (length-take-le sent outgoing k))

-- a part before what is pasted
pub part-before : (l : List ℕ) (at : ℕ) (s : List ℕ) (from n : ℕ) → at ≤ length l → from + n ≤ at → part (pasted l at s) from n ≡ part l from n
part-before l at s from n h k =
    sym (drop-take from n (pasted l at s)) ∙ ap (drop from) (take-pasted l at s h (from + n) k) ∙ drop-take from n l

module _ {step : ℕ} {slots : List ℕ} (kept : Kept step slots) (more : step < 1000) (frame : List ℕ) (fits : length frame ≤ 71) where
  inside : 72 * step ≤ length slots
  inside = omega (arith, kept.room)

  -- the slots before it are as they were
  byte-before : (k : ℕ) → k < step → get_or (with_frame slots step frame) (72 * k) 0 ≡ get_or slots (72 * k) 0
  unfolding with_frame
  byte-before k h = get_or-pasted-before slots (72 * step) (entry_of frame) inside (72 * k) (omega arith)

  slot-before : (k : ℕ) → k < step → slot_frame (with_frame slots step frame) k ≡ slot_frame slots k
  unfolding slot_frame with_frame
  slot-before k h =
      ap (λ (n : ℕ). part (pasted slots (72 * step) (entry_of frame)) (72 * k + 1) n) (byte-before k h)
      ∙ part-before slots (72 * step) (entry_of frame) (72 * k + 1) (get_or slots (72 * k) 0) inside (omega (arith, kept.sizes k h))

  byte-here : get_or (with_frame slots step frame) (72 * step) 0 ≡ length frame
  unfolding with_frame
  byte-here =
      ap (λ (i : ℕ). get_or (pasted slots (72 * step) (entry_of frame)) i 0) (sym (add-zero (72 * step)))
      ∙ sym (get_or-drop (72 * step) (pasted slots (72 * step) (entry_of frame)) 0 0)
      ∙ ap (λ (l : List ℕ). get_or l 0 0) (drop-pasted slots (72 * step) (entry_of frame) inside (72 * step) 0 (sym (add-zero (72 * step))) (omega arith))

  slot-here : slot_frame (with_frame slots step frame) step ≡ frame
  unfolding slot_frame with_frame
  slot-here =
      ap (λ (n : ℕ). part (pasted slots (72 * step) (entry_of frame)) (72 * step + 1) n) byte-here
      ∙ ap (take (length frame)) (drop-pasted slots (72 * step) (entry_of frame) inside (72 * step + 1) 1 refl (omega arith))
      ∙ take-append_seam frame (drop (72 * step + length (entry_of frame)) slots)

  -- so the frames sent are one more
  pub keeps-sent : sent_of (suc step) (with_frame slots step frame) ≡ sent_of step slots ++ (frame ∷ [])
  unfolding sent_of
  keeps-sent =
      tab-suc step (slot_frame (with_frame slots step frame))
      ∙ ap₂ (λ (a : List (List ℕ)) (f : List ℕ). a ++ (f ∷ []))
      (tab-ext step (slot_frame (with_frame slots step frame)) (slot_frame slots) slot-before)
      slot-here

  size-kept : (k : ℕ) → k < suc step → get_or (with_frame slots step frame) (72 * k) 0 ≤ 71
  size-kept k h =
      ⊎_elim (λ before. omega (arith, byte-before k before, kept.sizes k before))
      (λ here.
      let e : step ≡ k = omega arith in
      omega (arith, byte-here, ap (λ (i : ℕ). get_or (with_frame slots step frame) (72 * i) 0) e))
      (lt-or-ge k step)

  pub keeps-kept : Kept (suc step) (with_frame slots step frame)
  unfolding with_frame
  keeps-kept =
      record {
        room = length-pasted slots (72 * step) (entry_of frame) (omega (arith, kept.room)) ∙ kept.room;
        most = omega arith;
        sizes = size-kept;
      }

-- ---- the frames that a step hears, tried one by one

pub tried-none : (p : ℕ → Bool) (f : ℕ → ℕ) → every p (tab 0 f) ≡ true
unfolding every tab
tried-none p f = refl

pub tried-turn : (p : ℕ → Bool) (f : ℕ → ℕ) (i : ℕ) → every p (tab i f) ≡ true → p (f i) ≡ true → every p (tab (i + 1) f) ≡ true
unfolding every
tried-turn p f i h k = rw (add-one i, tab-suc i f) (every-append-intro p (tab i f) (f i ∷ []) h (and_intro k refl))

pub tried-fails : (p : ℕ → Bool) (f : ℕ → ℕ) (n i : ℕ) → i < n → p (f i) ≡ false → false ≡ every p (tab n f)
tried-fails p f n i h k =
    sym
    (false-of-no (every p (tab n f))
    (λ all. clash (sym (ap p (get_or-tab n f i 0 h)) ∙ every-index p (tab n f) 0 all i (rw length-tab h)) k))

pub sent-some : (sent : List (List ℕ)) (number size : ℕ) → size ≡ length (frame_by sent number) → (size ≡ 0 → ⊥) → is_sent sent number ≡ true
unfolding is_sent
sent-some sent number size e h = not_of_false (ne_eqb (length (frame_by sent number)) 0 (λ z. h (e ∙ z)))

pub sent-nothing : (sent : List (List ℕ)) (number size : ℕ) → size ≡ length (frame_by sent number) → size ≡ 0 → is_sent sent number ≡ false
unfolding is_sent
sent-nothing sent number size e h = not-of-true (eq-eqb (length (frame_by sent number)) 0 (sym e ∙ h))

pub heard-are : (p : ℕ → Bool) (s : List ℕ) (n : ℕ) → n ≡ heard_count s → every p (tab n (heard_number s)) ≡ every p (heard_numbers s)
unfolding heard_numbers
heard-are p s n e = ap (λ (k : ℕ). every p (tab k (heard_number s))) e

-- ---- a step, judged

module _ (n : ℕ) (sent : List (List ℕ)) (s : List ℕ) where
  pub step_cut : (end : ℕ) → end ≡ step_end s → (end ≡ length s → ⊥) → 5 ≡ step_number n sent s
  unfolding step_number first_no
  step_cut end e h = rw (ne_eqb (step_end s) (length s) (λ k. h (e ∙ k)))

  pub step-foreign : (end station : ℕ) → end ≡ step_end s → end ≡ length s → station ≡ station_of s → n ≤ station → 5 ≡ step_number n sent s
  unfolding step_number first_no
  step-foreign end station e h g k = rw (eq-eqb (step_end s) (length s) (sym e ∙ h), le-ltb (station_of s) n (omega arith))

  pub step-deaf : (end station : ℕ) → end ≡ step_end s → end ≡ length s → station ≡ station_of s → station < n
      → every (is_sent sent) (heard_numbers s) ≡ false → 5 ≡ step_number n sent s
  unfolding step_number first_no
  step-deaf end station e h g k q = rw (eq-eqb (step_end s) (length s) (sym e ∙ h), lt-ltb (station_of s) n (omega arith), q)

  pub step-good : (end station : ℕ) → end ≡ step_end s → end ≡ length s → station ≡ station_of s → station < n
      → every (is_sent sent) (heard_numbers s) ≡ true → 0 ≡ step_number n sent s
  unfolding step_number first_no
  step-good end station e h g k q = rw (eq-eqb (step_end s) (length s) (sym e ∙ h), lt-ltb (station_of s) n (omega arith), q)

  questions : step_number n sent s ≡ 0
      → first_no (ask (eqb (step_end s) (length s)) 5 ∷ ask (ltb (station_of s) n) 5 ∷ ask (every (is_sent sent) (heard_numbers s)) 5 ∷ []) ≡ 0
  unfolding step_number
  questions h = h

  -- what a step has that gets no number
  pub step-station : step_number n sent s ≡ 0 → station_of s < n
  step-station h =
      ltb-true (station_of s) n
      (first-yes (ltb (station_of s) n) 4 (ask (every (is_sent sent) (heard_numbers s)) 5 ∷ [])
      (other-yes (eqb (step_end s) (length s)) 4 (ask (ltb (station_of s) n) 5 ∷ ask (every (is_sent sent) (heard_numbers s)) 5 ∷ []) (questions h)))

  pub step-playable : step_number n sent s ≡ 0 → Playable sent s
  step-playable h =
      let second = other-yes (eqb (step_end s) (length s)) 4 (ask (ltb (station_of s) n) 5 ∷ ask (every (is_sent sent) (heard_numbers s)) 5 ∷ []) (questions h) in
      record {
        whole = eqb-true (step_end s) (length s) (first-yes (eqb (step_end s) (length s)) 4 (ask (ltb (station_of s) n) 5 ∷ ask (every (is_sent sent) (heard_numbers s)) 5 ∷ []) (questions h));
        hears = first-yes (every (is_sent sent) (heard_numbers s)) 4 [] (other-yes (ltb (station_of s) n) 4 (ask (every (is_sent sent) (heard_numbers s)) 5 ∷ []) second);
      }
