-- What an accepted call does on its node's board, a station's or an observer's, by its schedule.
-- Assumes nothing.
use Prim.Native.Nat.{ℕ, ◌-◌, ◌%◌}
use mathlib.Core.Path.{◌≡◌, sym, ap, ap₂, subst, ◌∙◌}
use mathlib.Core.Bool.{Bool, true, false}
use mathlib.Core.List.{List, ◌++◌, map, Memᴰ}
use lib.ListN.{length, drop, replicate}
use Rattle.laws.specs.Lists.{overlay, padded}
use Rattle.laws.proofs.Numbers.{cond-true}
use Rattle.laws.proofs.Sorted.{Sorted}
use Rattle.model.specs.Setup.{width}
use Rattle.model.specs.Timestamp.{clock_step, sound_clock, widened, count_own}
use Rattle.model.specs.Frame.{Frame, encode}
use Rattle.model.specs.Batch.{batch_entries}
use Rattle.model.specs.Holdback.{encode_frames, encode_holdback}
use Rattle.model.specs.Judge.{Heard}
use Rattle.model.specs.Tick.{Output, holdback_size}
use Rattle.model.specs.Observer.{Listened}
use Rattle.model.specs.Schedule.{Schedule, modulus_of, widest_of, own_limits}
use Rattle.model.specs.Wider.{frame_half, wider_key_near, wider_held_bytes, wider_opened, wider_heard, wider_new_stamp, wider_delivered_of, wider_kept_of, wider_acceptance}
use Rattle.model.specs.WiderCalls.{wider_last_sound, wider_observer_least, wider_observer_opened, wider_observer_heard, wider_observer_delivered, wider_observer_kept, wider_listened}
use Rattle.model.specs.Run.{Node, Call, input_of, listening_of, listened_output, output_of, node_after}
use Rattle.lemmas.proofs.Counts.{clock-steps}
use Rattle.lemmas.proofs.Schedules.{limits-good}
use Rattle.lemmas.proofs.WideFrames.{HasWidth, FrameWithin, wide-held-bytes}
use Rattle.lemmas.proofs.WiderQueue.{judged-along, observed-along}
use Rattle.lemmas.proofs.WiderReceiving.{ReceivingAlong, heard_along, delivered_along, kept_along, queue-kept, frames-delivered, sorted-delivered}
use Rattle.lemmas.proofs.WiderCall.{least-any, own-small, least-near-along}
use Rattle.lemmas.proofs.Positions.{QueuePlaced, placed-left}
use Rattle.theory.proofs.Outputs.{Ticked, Heeds, Shows, shows}
use Rattle.theory.proofs.Event.{after-clock}
use Rattle.theory.proofs.World.{asking_by, least_by, asking_at, least_at, Memory, Called}

-- what a call for u hears, delivers and keeps
abbrev heard_by : Bool → Schedule → ℕ → Node → Call → Heard
heard_by b l u found call = heard_along l u (least_by b l u found.tables) (asking_by b l u) found.holdback (batch_entries call.batch)

abbrev delivered_by : Bool → Schedule → ℕ → Node → Call → List Frame
delivered_by b l u found call = delivered_along l u (least_by b l u found.tables) (asking_by b l u) found.holdback (batch_entries call.batch)

abbrev kept_by : Bool → Schedule → ℕ → Node → Call → List Frame
kept_by b l u found call = kept_along l u (least_by b l u found.tables) (asking_by b l u) found.holdback (batch_entries call.batch)

-- its output says so
record Shown (b : Bool) (l : Schedule) (u : ℕ) (found : Node) (call : Call) (o : Output) : Type 0 where
  receiving : ReceivingAlong l u (least_by b l u found.tables) (asking_by b l u)
  verdicts-are : o.verdicts ≡ overlay (heard_by b l u found call).verdicts call.verdicts
  delivery-is : o.delivery ≡ overlay (encode_frames (delivered_by b l u found call)) call.delivery
  holdback-is : o.holdback ≡ encode_holdback (holdback_size (widest_of l)) (kept_by b l u found call)
  last-is : o.answer.tables.r ≡ u

-- with the clock of the call
shown-tick : (l : Schedule) (found : Node) (call : Call) (o : Output) → Ticked l (input_of found call) o → Shown false l call.clock found call o
unfolding wider_acceptance wider_delivered_of wider_kept_of wider_heard wider_opened wider_new_stamp count_own widened input_of
shown-tick l found call o t =
    record {
      receiving =
          record {
            good = t.good;
            below = t.clock-below;
            near = least-near-along l t.good call.clock found.tables;
            places = λ queue bytes e. (judged-along l t.good call.clock queue bytes e).0;
          };
      verdicts-are = ap (λ (x : Output). x.verdicts) t.is;
      delivery-is = ap (λ (x : Output). x.delivery) t.is;
      holdback-is = ap (λ (x : Output). x.holdback) t.is;
      last-is = ap (λ (x : Output). x.answer.tables.r) t.is;
    }

shown-listened :
    (l : Schedule) (found : Node) (call : Call) (h : Listened) → Heeds l (listening_of found call) h → Shown true l call.clock found call (listened_output found call h)
unfolding wider_listened wider_observer_delivered wider_observer_kept wider_observer_heard wider_observer_opened wider_observer_least wider_last_sound listening_of listened_output
shown-listened l found call h t =
    record {
      receiving =
          record {
            good = t.good;
            below = t.clock-below;
            near =
                least-any (modulus_of l) (own_limits l).epsilon (clock_step (modulus_of l) found.tables.r call.clock)
                (sound_clock (own_limits l).epsilon (modulus_of l) call.clock found.tables.r) (limits-good l t.good (modulus_of l)).epsilon-pos
                (own-small l t.good) (λ sound. (clock-steps (own_limits l).epsilon (modulus_of l) call.clock found.tables.r sound).1);
            places = λ queue bytes e. observed-along l t.good call.clock queue bytes e;
          };
      verdicts-are = ap (λ (x : Listened). x.verdicts) t.is;
      delivery-is = ap (λ (x : Listened). x.delivery) t.is;
      holdback-is = ap (λ (x : Listened). x.holdback) t.is;
      last-is = ap (λ (x : Listened). x.last) t.is;
    }

shown : (g l : Schedule) (node found : Node) (call : Call) {v : ℕ} → Called g l node found call v → Shown found.listens l (v % modulus_of l) found call (output_of node call)
shown g l node found call {v} c =
    subst (λ (u : ℕ). Shown found.listens l u found call (output_of node call)) c.clock-is
    (go found.listens (shows l node found call c.along-is c.found-is c.accepted))
  where
    go : (b : Bool) → Shows l found call b (output_of node call) → Shown b l call.clock found call (output_of node call)
    go true (h, is, t) = subst (Shown true l call.clock found call) (sym is) (shown-listened l found call h t)
    go false t = shown-tick l found call (output_of node call) t

-- the same at a node's call for v
abbrev pub heard_on : Schedule → ℕ → Node → Call → Heard
heard_on l v found call = heard_along l (v % modulus_of l) (least_at l v found) (asking_at l v found) found.holdback (batch_entries call.batch)

abbrev pub delivered_on : Schedule → ℕ → Node → Call → List Frame
delivered_on l v found call = delivered_along l (v % modulus_of l) (least_at l v found) (asking_at l v found) found.holdback (batch_entries call.batch)

abbrev pub kept_on : Schedule → ℕ → Node → Call → List Frame
kept_on l v found call = kept_along l (v % modulus_of l) (least_at l v found) (asking_at l v found) found.holdback (batch_entries call.batch)

module _ (g l : Schedule) (node found : Node) (call : Call) {v : ℕ} (c : Called g l node found call v) where
  pub receive-at : ReceivingAlong l (v % modulus_of l) (least_at l v found) (asking_at l v found)
  receive-at = (shown g l node found call c).receiving

  pub verdicts-here : (output_of node call).verdicts ≡ overlay (heard_on l v found call).verdicts call.verdicts
  verdicts-here = (shown g l node found call c).verdicts-are

  pub delivery-here : (output_of node call).delivery ≡ overlay (encode_frames (delivered_on l v found call)) call.delivery
  delivery-here = (shown g l node found call c).delivery-is

  pub holdback-here : (output_of node call).holdback ≡ encode_holdback (holdback_size (widest_of l)) (kept_on l v found call)
  holdback-here = (shown g l node found call c).holdback-is

  -- what it hands out
  pub delivers-ok : (f : Frame) → Memᴰ f (delivered_on l v found call) → FrameWithin l (own_limits l) f
  delivers-ok = frames-delivered l (v % modulus_of l) (least_at l v found) (asking_at l v found) found.holdback (batch_entries call.batch) receive-at

  pub delivers-sorted : Sorted (wider_key_near l (v % modulus_of l)) (delivered_on l v found call)
  delivers-sorted = sorted-delivered l (v % modulus_of l) (least_at l v found) (asking_at l v found) found.holdback (batch_entries call.batch) receive-at

  -- each frame is as wide in the yard as in the call
  pub delivers-half : (f : Frame) → Memᴰ f (delivered_on l v found call) → frame_half l f ≡ frame_half g f
  delivers-half f m = c.agrees.halves (length f.stamp.kn) (delivers-ok f m).wide

  pub delivers-wide : (f : Frame) → Memᴰ f (delivered_on l v found call) → HasWidth g f
  delivers-wide f m = (delivers-ok f m).wide ∙ ap width (delivers-half f m)

  pub delivers-bytes : wider_held_bytes g (output_of node call).delivery ≡ map encode (delivered_on l v found call)
  unfolding overlay
  delivers-bytes =
      ap (wider_held_bytes g) delivery-here
      ∙ wide-held-bytes g (delivered_on l v found call) delivers-wide (drop (length (encode_frames (delivered_on l v found call))) call.delivery)

  -- what it leaves
  abbrev pub padding : List ℕ
  padding = replicate (holdback_size (widest_of l) - length (encode_frames (kept_on l v found call))) 0

  pub leaves-bytes : (node_after node call.step (output_of node call)).holdback ≡ encode_frames (kept_on l v found call) ++ padding
  unfolding node_after encode_holdback padded
  leaves-bytes = cond-true (output_of node call).holdback node.holdback c.accepted ∙ holdback-here

  pub last-left : (node_after node call.step (output_of node call)).tables.r ≡ v % modulus_of l
  unfolding node_after
  last-left = (shown g l node found call c).last-is

  -- at its own clock
  unfoldable pub memory-left : Memory g (node_after node call.step (output_of node call))
  memory-left =
      record {
        r-is =
            last-left ∙ ap₂ (λ (x y : ℕ). x % y) (sym (after-clock c)) c.agrees.modulus;
        queue = kept_on l v found call;
        rest = padding;
        bytes = leaves-bytes;
        placed =
            subst (λ (x : ℕ). QueuePlaced g x (kept_on l v found call)) (sym (after-clock c))
            (placed-left g l v c.agrees (kept_on l v found call) receive-at.good
            (queue-kept l (v % modulus_of l) (least_at l v found) (asking_at l v found) found.holdback (batch_entries call.batch) receive-at));
      }
