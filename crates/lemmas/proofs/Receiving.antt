-- What a tick and an observer's call do alike: the shelf opened, the bundle heard by whatever is asked, and what is delivered and kept.
-- Assumes nothing.
use Prim.Native.Nat.{ℕ, ◌+◌, ◌-◌, ◌*◌, ◌%◌, ◌≤◌, ◌<◌}
use native.Mathlib.Omega.{arith}
use native.Mathlib.Nat.{mod-eq_of_lt, zero-add}
use mathlib.Core.Path.{◌≡◌, sym, ap, subst, ◌∙◌}
use mathlib.Core.Logic.{◌⊎◌, inl, inr}
use mathlib.Core.Bool.{true}
use mathlib.Core.List.Memᴰ
use mathlib.Core.List.{List, [], ◌∷◌, ◌++◌, map, Memᴰ}
use mathlib.Core.Option.{some}
use lib.ListN.{length, take, drop, get_or, get_elem?, length-append}
use Rattle.laws.specs.Lists.{select, overlay}
use Rattle.laws.proofs.Lists.{mem-of-select}
use Rattle.laws.proofs.Sorted.{Sorted}
use Rattle.model.specs.Setup.{Setup, depth}
use Rattle.model.specs.Timestamp.{clock_step}
use Rattle.model.specs.Frame.{Frame, encode, decode}
use Rattle.model.specs.Order.{key_near}
use Rattle.model.specs.Holdback.{held_bytes, held, sound_holdback, encode_frames, encode_holdback}
use Rattle.model.specs.Question.{first_no}
use Rattle.model.specs.Judge.{Asking, Heard, judge, hear, hear_one, place_for}
use Rattle.model.specs.Tick.{holdback_size, opening_queue, due_before, due_now, overdue_in, opening_in, delivered_in, kept_in}
use Rattle.lemmas.proofs.Bounds.{Limits, FrameOk, QueueOk}
use Rattle.lemmas.proofs.Reading.{step-true}
use Rattle.lemmas.proofs.RoundTrip.{held-encode, held-holdback, length-holdback}
use Rattle.lemmas.proofs.Hearing.{by-verdict, by-queue, numbers_by, fold-queue, fold-verdicts, fold-length, all-length, all-front, all-verdict}
use Rattle.lemmas.proofs.Queue.{Places, opening-queue, queue-rest, queue-take, overdue-few, due-few, both-few, due-sorted, queue-sound, queue-bound, queue-room, QueueLeft, queue-left, left-later, left-ok, left-room, depth_small}

-- one entry, one step of the hearing: the queue stays sound
pub hearing-one :
    (s : Setup) (v : ℕ) (asking : Asking) (h : Heard) (bytes : List ℕ) → Limits s → v < s.modulus → Places s v asking
    → QueueOk s v s.modulus h.queue → QueueOk s v s.modulus (hear_one s v asking h bytes).queue
unfolding hear_one judge
hearing-one s v asking h bytes lim below places hg =
    let f = decode s.epsilon bytes in
    by-queue (QueueOk s v s.modulus) (first_no (asking h.queue bytes)) (place_for s v h.queue f) f h
    (λ e. queue-take s v h.queue f lim below hg (places h.queue bytes e)) hg

pub hearing-all :
    (s : Setup) (v : ℕ) (asking : Asking) (h : Heard) (entries : List (List ℕ)) → Limits s → v < s.modulus → Places s v asking
    → QueueOk s v s.modulus h.queue → QueueOk s v s.modulus (hear s v asking h entries).queue
unfolding hear
hearing-all s v asking h entries lim below places hg =
    fold-queue asking (hear_one s v asking) (QueueOk s v s.modulus) (λ x bytes p. hearing-one s v asking x bytes lim below places p) h entries hg

-- each entry's verdict is written behind those before it
pub hear-one-verdict : (s : Setup) (v : ℕ) (asking : Asking) (h : Heard) (bytes : List ℕ) → (hear_one s v asking h bytes).verdicts ≡ h.verdicts ++ (first_no (asking h.queue bytes) ∷ [])
unfolding hear_one judge
hear-one-verdict s v asking h bytes =
    by-verdict (first_no (asking h.queue bytes)) (place_for s v h.queue (decode s.epsilon bytes)) (decode s.epsilon bytes) h

-- the verdicts of the entries, without those before them
abbrev pub numbers_of : Setup → ℕ → Asking → Heard → List (List ℕ) → List ℕ
numbers_of s v asking h entries = numbers_by asking (hear_one s v asking) h entries

pub hear-verdicts : (s : Setup) (v : ℕ) (asking : Asking) (h : Heard) (entries : List (List ℕ)) → (hear s v asking h entries).verdicts ≡ h.verdicts ++ numbers_of s v asking h entries
unfolding hear
hear-verdicts s v asking h entries = fold-verdicts asking (hear_one s v asking) (hear-one-verdict s v asking) h entries

pub hear-length : (s : Setup) (v : ℕ) (asking : Asking) (h : Heard) (entries : List (List ℕ)) → length (hear s v asking h entries).verdicts ≡ length h.verdicts + length entries
unfolding hear
hear-length s v asking h entries = fold-length asking (hear_one s v asking) (hear-one-verdict s v asking) h entries

-- the step to the clock k later
pub step-later : (s : Setup) (v k : ℕ) → Limits s → v < s.modulus → k ≤ s.epsilon → clock_step s.modulus v ((v + k) % s.modulus) ≡ k
step-later s v k limits below few =
    ap (λ (r : ℕ). clock_step s.modulus r ((v + k) % s.modulus)) (sym (mod-eq_of_lt below))
    ∙ step-true s.modulus v k (omega (arith, few, limits.modulus-least, limits.epsilon-pos))

-- a call for v that has passed its questions, by the least due clock allowed and by what it asks of a frame
pub record Receiving (s : Setup) (v least : ℕ) (asking : Asking) : Type 0 where
  pub limits : Limits s
  pub below : v < s.modulus
  pub near : s.modulus + 1 ≤ least + s.epsilon
  pub places : Places s v asking

-- its shelf and its bundle
module _ (s : Setup) (v least : ℕ) (asking : Asking) (holdback : List ℕ) (entries : List (List ℕ)) where
  -- the queue as the call found it, or emptied
  abbrev pub receive_opened : List Frame
  receive_opened = opening_queue s v least holdback

  abbrev pub receive_heard : Heard
  receive_heard = hear s v asking (opening_in s v receive_opened) entries

  abbrev pub receive_delivered : List Frame
  receive_delivered = delivered_in s v (overdue_in s v receive_opened) receive_heard.queue

  abbrev pub receive_kept : List Frame
  receive_kept = kept_in s v receive_heard.queue

  -- the verdict buffer
  pub receive-length : length receive_heard.verdicts ≡ length entries
  unfolding hear
  receive-length = all-length asking (hear_one s v asking) (hear-one-verdict s v asking) (opening_in s v receive_opened).queue entries

  pub receive-front : (old : List ℕ) → take (length entries) (overlay receive_heard.verdicts old) ≡ receive_heard.verdicts
  unfolding hear
  receive-front = all-front asking (hear_one s v asking) (hear-one-verdict s v asking) (opening_in s v receive_opened).queue entries

  pub receive-verdict :
      (old : List ℕ) (k : ℕ) (entry : List ℕ) → get_elem? entries k ≡ some entry
      → get_or (overlay receive_heard.verdicts old) k 0 ≡ first_no (asking (hear s v asking (opening_in s v receive_opened) (take k entries)).queue entry)
  unfolding hear
  receive-verdict = all-verdict asking (hear_one s v asking) (hear-one-verdict s v asking) (opening_in s v receive_opened).queue entries

  module _ (receiving : Receiving s v least asking) where
    pub receive-opened : QueueOk s v least receive_opened
    receive-opened = opening-queue s v least holdback receiving.limits

    pub receive-heard : QueueOk s v s.modulus receive_heard.queue
    receive-heard =
        hearing-all s v asking (opening_in s v receive_opened) entries receiving.limits receiving.below receiving.places
        (queue-rest s v least receive_opened receive-opened)

    -- 02, 2.7: so hearing never fills it
    pub receive-bound : length receive_heard.queue ≤ s.n * (s.delta + 3 * s.epsilon - 1)
    receive-bound = queue-bound s v s.modulus receive_heard.queue receiving.limits receiving.below (omega arith) receive-heard

    pub receive-room : length receive_heard.queue < depth s.n s.epsilon s.delta
    receive-room = queue-room s v s.modulus receive_heard.queue receiving.limits receiving.below (omega arith) receive-heard

    -- what stays on the queue, at the call's own clock
    pub receive-kept : QueueLeft s v 0 receive_kept
    receive-kept = queue-left s v receive_heard.queue receive-heard

    -- and k clocks later
    pub receive-later : (k : ℕ) → k ≤ s.epsilon → QueueLeft s ((v + k) % s.modulus) k receive_kept
    receive-later k few =
        subst (λ (j : ℕ). QueueLeft s ((v + k) % s.modulus) j receive_kept) (zero-add k)
        (left-later s v 0 k receive_kept receiving.limits (omega (arith, few))
        (subst (λ (u : ℕ). QueueLeft s u 0 receive_kept) (sym (mod-eq_of_lt receiving.below)) receive-kept))

    pub receive-most : length receive_kept < depth s.n s.epsilon s.delta
    receive-most = left-room s v receive_kept receiving.limits receiving.below receive-kept

    -- the shelf that it leaves
    pub receive-held : held s.epsilon (encode_holdback (holdback_size s) receive_kept) ≡ receive_kept
    receive-held =
        held-holdback s.epsilon (holdback_size s) receive_kept (λ f m. (receive-kept.frames f m).sound.wide)
        (omega (arith, receive-most, depth_small s receiving.limits))

    pub receive-size : length (encode_holdback (holdback_size s) receive_kept) ≡ holdback_size s
    receive-size = length-holdback s receive_kept receiving.limits (λ f m. receive-kept.frames f m) (omega (arith, receive-most))

    -- is sound for every next clock 1 to ε ahead, each frame due after the call's own
    pub receive-sound : (k : ℕ) → k ≤ s.epsilon → sound_holdback s ((v + k) % s.modulus) (s.modulus + 1 - k) (encode_holdback (holdback_size s) receive_kept) ≡ true
    receive-sound k few =
        queue-sound s ((v + k) % s.modulus) (s.modulus + 1 - k) receive_kept receiving.limits (omega (arith, receive-most))
        (left-ok s ((v + k) % s.modulus) k receive_kept (receive-later k few))

    -- what it hands out
    pub receive-frames : (f : Frame) → Memᴰ f receive_delivered → FrameOk s f
    receive-frames f m = go (Memᴰ.append_cases (select (due_before s v) receive_opened) m)
      where
        go : Memᴰ f (select (due_before s v) receive_opened) ⊎ Memᴰ f (select (due_now s v) receive_heard.queue) → FrameOk s f
        go (inl e) = receive-opened.frames f (mem-of-select (due_before s v) receive_opened e).0
        go (inr e) = receive-heard.frames f (mem-of-select (due_now s v) receive_heard.queue e).0

    -- it is in order
    pub receive-sorted : Sorted (key_near s v) receive_delivered
    receive-sorted = due-sorted s v least receive_opened receive_heard.queue receive-opened receive-heard

    -- n(3ε − 2) frames at most
    pub receive-fewest : length receive_delivered ≤ s.n * (2 * s.epsilon - 2) + s.n * s.epsilon
    receive-fewest =
        omega (
          arith,
          length-append (select (due_before s v) receive_opened) (select (due_now s v) receive_heard.queue),
          overdue-few s v least receive_opened receiving.limits receiving.below receiving.near receive-opened,
          due-few s v receive_heard.queue receiving.limits receiving.below receive-heard,
        )

    -- so a hand-out always has room
    pub receive-few : length receive_delivered ≤ depth s.n s.epsilon s.delta
    receive-few = omega (arith, receive-fewest, both-few s)

    pub receive-small : length receive_delivered < 65536
    receive-small = omega (arith, receive-few, depth_small s receiving.limits)

    pub receive-bytes : (old : List ℕ) → held_bytes s.epsilon (overlay (encode_frames receive_delivered) old) ≡ map encode receive_delivered
    unfolding overlay
    receive-bytes old =
        held-encode s.epsilon receive_delivered (drop (length (encode_frames receive_delivered)) old) (λ f m. (receive-frames f m).sound.wide) receive-small
