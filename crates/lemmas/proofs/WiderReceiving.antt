-- 02, 2.10: what a tick and an observer's call do alike by a schedule: the shelf opened, the bundle heard by whatever is asked, and what is
-- delivered and kept. Assumes nothing.
use Prim.Native.Nat.{ℕ, ◌+◌, ◌-◌, ◌*◌, ◌≤◌, ◌<◌}
use native.Mathlib.Omega.{arith}
use mathlib.Core.Path.{◌≡◌}
use mathlib.Core.Logic.{◌⊎◌, inl, inr}
use mathlib.Core.List.Memᴰ
use mathlib.Core.List.{List, [], ◌∷◌, ◌++◌, map, Memᴰ}
use mathlib.Core.Option.{some}
use lib.ListN.{length, take, drop, get_or, get_elem?, length-append}
use Rattle.laws.specs.Lists.{select, overlay}
use Rattle.laws.proofs.Lists.{mem-of-select}
use Rattle.laws.proofs.Sorted.{Sorted}
use Rattle.model.specs.Setup.{depth_of}
use Rattle.model.specs.Frame.{Frame, encode}
use Rattle.model.specs.Question.{first_no}
use Rattle.model.specs.Holdback.{encode_frames, encode_holdback}
use Rattle.model.specs.Judge.{Asking, Heard}
use Rattle.model.specs.Tick.{holdback_size}
use Rattle.model.specs.Schedule.{Schedule, modulus_of, widest_of, own_limits}
use Rattle.model.specs.Wider.{wider_decode, wider_key_near, wider_held_bytes, wider_held, wider_opening_queue, wider_due_before, wider_due_now, wider_overdue, wider_opening, wider_delivered, wider_kept, wider_place, wider_judge, wider_hear_one, wider_hear}
use Rattle.lemmas.proofs.Hearing.{by-verdict, by-queue, fold-queue, all-length, all-front, all-verdict}
use Rattle.lemmas.proofs.Queue.{both-few}
use Rattle.lemmas.proofs.Schedules.{Good}
use Rattle.lemmas.proofs.WideFrames.{FrameWithin, wide-held-bytes, wide-holdback, length-wide-holdback}
use Rattle.lemmas.proofs.WiderQueue.{QueueAlong, LeftAlong, PlacesAlong, opening-along, rest-along, take-along, bound-along, room-along, overdue-few-along, due-few-along, due-sorted-along, left_along, depth-widest, left-room-along}

-- a call for v that has passed its questions, by the least due clock allowed and by what it asks of a frame
pub record ReceivingAlong (g : Schedule) (v least : ℕ) (asking : Asking) : Type 0 where
  pub good : Good g
  pub below : v < modulus_of g
  pub near : modulus_of g + 1 ≤ least + (own_limits g).epsilon
  pub places : PlacesAlong g v asking

-- each entry's verdict is written behind those before it
pub heard-verdict-along : (g : Schedule) (v : ℕ) (asking : Asking) (h : Heard) (bytes : List ℕ) → (wider_hear_one g v asking h bytes).verdicts ≡ h.verdicts ++ (first_no (asking h.queue bytes) ∷ [])
unfolding wider_hear_one wider_judge
heard-verdict-along g v asking h bytes =
    by-verdict (first_no (asking h.queue bytes)) (wider_place g v h.queue (wider_decode g bytes)) (wider_decode g bytes) h

-- its shelf and its bundle
module _ (g : Schedule) (v least : ℕ) (asking : Asking) (holdback : List ℕ) (entries : List (List ℕ)) where
  -- the queue as the call found it, or emptied
  abbrev pub opened_along : List Frame
  opened_along = wider_opening_queue g v least holdback

  abbrev pub heard_along : Heard
  heard_along = wider_hear g v asking (wider_opening g v opened_along) entries

  abbrev pub delivered_along : List Frame
  delivered_along = wider_delivered g v (wider_overdue g v opened_along) heard_along.queue

  abbrev pub kept_along : List Frame
  kept_along = wider_kept g v heard_along.queue

  -- the verdict buffer
  pub length-along : length heard_along.verdicts ≡ length entries
  unfolding wider_hear
  length-along = all-length asking (wider_hear_one g v asking) (heard-verdict-along g v asking) (wider_opening g v opened_along).queue entries

  pub front-along : (old : List ℕ) → take (length entries) (overlay heard_along.verdicts old) ≡ heard_along.verdicts
  unfolding wider_hear
  front-along = all-front asking (wider_hear_one g v asking) (heard-verdict-along g v asking) (wider_opening g v opened_along).queue entries

  pub verdict-along :
      (old : List ℕ) (k : ℕ) (entry : List ℕ) → get_elem? entries k ≡ some entry
      → get_or (overlay heard_along.verdicts old) k 0 ≡ first_no (asking (wider_hear g v asking (wider_opening g v opened_along) (take k entries)).queue entry)
  unfolding wider_hear
  verdict-along = all-verdict asking (wider_hear_one g v asking) (heard-verdict-along g v asking) (wider_opening g v opened_along).queue entries

  module _ (receiving : ReceivingAlong g v least asking) where
    pub queue-opened : QueueAlong g v least opened_along
    queue-opened = opening-along g receiving.good v least holdback

    -- one entry, one step of the hearing: the queue stays sound
    one-heard : (h : Heard) (bytes : List ℕ) → QueueAlong g v (modulus_of g) h.queue → QueueAlong g v (modulus_of g) (wider_hear_one g v asking h bytes).queue
    unfolding wider_hear_one wider_judge
    one-heard h bytes ok =
        by-queue (QueueAlong g v (modulus_of g)) (first_no (asking h.queue bytes)) (wider_place g v h.queue (wider_decode g bytes)) (wider_decode g bytes) h
        (λ e. take-along g receiving.good v h.queue (wider_decode g bytes) receiving.below ok (receiving.places h.queue bytes e)) ok

    pub queue-heard : QueueAlong g v (modulus_of g) heard_along.queue
    unfolding wider_hear
    queue-heard =
        fold-queue asking (wider_hear_one g v asking) (QueueAlong g v (modulus_of g)) one-heard (wider_opening g v opened_along) entries
        (rest-along g receiving.good v least opened_along queue-opened)

    -- 02, 2.7: so hearing never fills it, by the limits of v
    pub heard-bound : length heard_along.queue ≤ (own_limits g).n * ((own_limits g).delta + 3 * (own_limits g).epsilon - 1)
    heard-bound = bound-along g receiving.good v (modulus_of g) heard_along.queue receiving.below (omega arith) (omega arith) queue-heard

    pub heard-room : length heard_along.queue < depth_of (own_limits g)
    heard-room = room-along g receiving.good v (modulus_of g) heard_along.queue receiving.below (omega arith) (omega arith) queue-heard

    -- what stays on the queue
    pub queue-kept : LeftAlong g v kept_along
    queue-kept = left_along g receiving.good v heard_along.queue queue-heard

    pub kept-held : wider_held g (encode_holdback (holdback_size (widest_of g)) kept_along) ≡ kept_along
    kept-held = wide-holdback g kept_along (λ f m. (queue-kept.frames f m).wide) (holdback_size (widest_of g))

    pub kept-size : length (encode_holdback (holdback_size (widest_of g)) kept_along) ≡ holdback_size (widest_of g)
    kept-size =
        length-wide-holdback g (own_limits g) kept_along receiving.good queue-kept.frames
        (omega (arith, left-room-along g receiving.good v kept_along receiving.below queue-kept, depth-widest g receiving.good))

    -- what it hands out
    pub frames-delivered : (f : Frame) → Memᴰ f delivered_along → FrameWithin g (own_limits g) f
    frames-delivered f m = go (Memᴰ.append_cases (select (wider_due_before g v) opened_along) m)
      where
        go : Memᴰ f (select (wider_due_before g v) opened_along) ⊎ Memᴰ f (select (wider_due_now g v) heard_along.queue) → FrameWithin g (own_limits g) f
        go (inl e) = queue-opened.frames f (mem-of-select (wider_due_before g v) opened_along e).0
        go (inr e) = queue-heard.frames f (mem-of-select (wider_due_now g v) heard_along.queue e).0

    -- it is in order
    pub sorted-delivered : Sorted (wider_key_near g v) delivered_along
    sorted-delivered = due-sorted-along g receiving.good v least opened_along heard_along.queue queue-opened queue-heard

    -- n(3ε − 2) frames at most, by the limits of v
    pub fewest-delivered : length delivered_along ≤ (own_limits g).n * (2 * (own_limits g).epsilon - 2) + (own_limits g).n * (own_limits g).epsilon
    fewest-delivered =
        omega (
          arith,
          length-append (select (wider_due_before g v) opened_along) (select (wider_due_now g v) heard_along.queue),
          overdue-few-along g receiving.good v least opened_along receiving.below receiving.near queue-opened,
          due-few-along g receiving.good v heard_along.queue receiving.below queue-heard,
        )

    -- so a hand-out always has room
    pub few-delivered : length delivered_along ≤ depth_of (own_limits g)
    few-delivered = omega (arith, fewest-delivered, both-few (own_limits g))

    pub bytes-delivered : (old : List ℕ) → wider_held_bytes g (overlay (encode_frames delivered_along) old) ≡ map encode delivered_along
    unfolding overlay
    bytes-delivered old = wide-held-bytes g delivered_along (λ f m. (frames-delivered f m).wide) (drop (length (encode_frames delivered_along)) old)
