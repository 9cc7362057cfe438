-- One accepted call of a station, by itself: its stamp and its frame, by its schedule and by the yard's.
-- Assumes nothing.
use Prim.Native.Nat.{ℕ, ◌+◌, ◌*◌, ◌%◌, ◌≤◌, ◌<◌}
use native.Mathlib.Omega.{arith}
use native.Mathlib.Nat.{mod-lt}
use mathlib.Core.Path.{◌≡◌, refl, sym, ap, ap₂, subst, ◌∙◌}
use mathlib.Core.Bool.{Bool, true, false}
use mathlib.Core.List.{List}
use lib.ListN.{length, take}
use Rattle.laws.specs.Lists.{overlay}
use Rattle.laws.proofs.Numbers.{clash, and_right}
use Rattle.laws.proofs.Lists.{take-overlay}
use Rattle.model.specs.Setup.{Setup, width}
use Rattle.model.specs.Timestamp.{Timestamp, trimmed, widened, count_own}
use Rattle.model.specs.Frame.{encode}
use Rattle.model.specs.Order.{reading_of}
use Rattle.model.specs.Codec.{frame_of, write_by}
use Rattle.model.specs.Tick.{Input, Output}
use Rattle.model.specs.Schedule.{Schedule, limits_at, modulus_of, own_limits}
use Rattle.model.specs.Wider.{wider_decode, wider_heard_stamp, wider_new_stamp, wider_sent, wider_acceptance}
use Rattle.model.specs.Run.{Node, Call, Done, input_of, output_of, done_of, node_after, moved_clock, is_event, sends, message_bytes, message_frame}
use Rattle.theory.specs.Demand3.{new_timestamp, written}
use Rattle.lemmas.proofs.Bounds.{Limits, Sound, FrameOk}
use Rattle.lemmas.proofs.Questions.{setup-to}
use Rattle.lemmas.proofs.Counts.{Left, trimmed-widened, trimmed-same}
use Rattle.lemmas.proofs.RoundTrip.{length-encode}
use Rattle.lemmas.proofs.Queue.{reading-true}
use Rattle.lemmas.proofs.Schedules.{Good as GoodSchedule, limits-good, limits-modulus}
use Rattle.lemmas.proofs.WideFrames.{HasWidth, has_width_lem, wide-decode}
use Rattle.lemmas.proofs.WiderTick.{new-left-along}
use Rattle.lemmas.proofs.Agreeing.{limits-half}
use Rattle.lemmas.proofs.Positions.{place_at}
use Rattle.theory.proofs.Readers.{written-to}
use Rattle.theory.proofs.Outputs.{Ticked, Shows, shows, found-listens}
use Rattle.theory.proofs.World.{event_frame, Tables, CallEvent, Called}

-- the node's clock is then v
pub done-clock : {g l : Schedule} {node found : Node} {call : Call} {v : ℕ} → Called g l node found call v → (done_of node call).clock ≡ v
unfolding done_of moved_clock
done-clock c = rw c.accepted (sym c.turn)

pub after-clock : {g l : Schedule} {node found : Node} {call : Call} {v : ℕ} → Called g l node found call v → (node_after node call.step (output_of node call)).clock ≡ v
unfolding node_after moved_clock
after-clock c = rw c.accepted (sym c.turn)

sends-send : (node : Node) (call : Call) → sends (done_of node call) ≡ true → call.send ≡ true
unfolding sends done_of
sends-send node call e = and_right (is_event (done_of node call)) call.send e

-- what a tick sends
sent-by : (l : Schedule) (i : Input) → i.send ≡ true → wider_sent l i ≡ encode (frame_of (own_limits l).epsilon i.own (wider_new_stamp l i) i.payload)
unfolding wider_sent
sent-by l i e = rw e refl

module _ (g l : Schedule) (node found : Node) (call : Call) {v : ℕ} (good : GoodSchedule g) (c : Called g l node found call v) (station : node.listens ≡ false) where
  -- a station's call is a tick
  pub ticks-at : Ticked l (input_of found call) (output_of node call)
  ticks-at = go found.listens (found-listens call node found c.found-is ∙ station) (shows l node found call c.along-is c.found-is c.accepted)
    where
      go : (b : Bool) → b ≡ false → Shows l found call b (output_of node call) → Ticked l (input_of found call) (output_of node call)
      go true e t = absurd (clash refl e)
      go false e t = t

  limits-own : Limits (own_limits l)
  limits-own = limits-good l ticks-at.good (modulus_of l)

  -- the limits of the call's clock are its own
  at_own : limits_at g (done_of node call).clock ≡ own_limits l
  at_own = ap (limits_at g) (done-clock c) ∙ sym c.agrees.own

  after-own : limits_at g (node_after node call.step (output_of node call)).clock ≡ own_limits l
  after-own = ap (limits_at g) (after-clock c) ∙ sym c.agrees.own

  abbrev stamp : Timestamp
  stamp = wider_new_stamp l (input_of found call)

  stamp-left : Left (own_limits l).n (own_limits l).epsilon stamp
  stamp-left = new-left-along l ticks-at.good (input_of found call)

  stamp-r : stamp.r ≡ v % modulus_of l
  unfolding wider_new_stamp count_own input_of
  stamp-r = c.clock-is

  -- the answer's tables
  tables-made : (output_of node call).answer.tables ≡ widened stamp
  unfolding wider_acceptance
  tables-made = ap (λ (o : Output). o.answer.tables) ticks-at.is

  tables-stamp : new_timestamp (limits_at g (done_of node call).clock) (done_of node call) ≡ widened stamp
  unfolding new_timestamp widened
  tables-stamp =
      let r-is : (done_of node call).clock % (limits_at g (done_of node call).clock).modulus ≡ stamp.r =
      ap (λ (s : Setup). (done_of node call).clock % s.modulus) at_own
      ∙ (ap₂ (λ (x y : ℕ). x % y) (done-clock c) (limits-modulus l ticks-at.good (modulus_of l)) ∙ sym stamp-r) in
      let made : (done_of node call).output.answer.tables ≡ widened stamp = unfold done_of in tables-made in
      λ i. record { r = r-is i; c = ap (λ (t : Timestamp). t.c) made i; kn = ap (λ (t : Timestamp). t.kn) made i }

  pub event-stamp : (event_frame g (done_of node call)).stamp ≡ wider_new_stamp l (input_of found call)
  unfolding event_frame frame_of
  event-stamp =
      (λ i. trimmed (at_own i).epsilon (tables-stamp i))
      ∙ trimmed-widened (own_limits l).epsilon stamp limits-own.epsilon-most stamp-left.sound.wide

  -- it is what hearing has come to, with the own event counted
  pub event-own : (event_frame g (done_of node call)).stamp ≡ count_own (limits_at g v).epsilon (v % modulus_of l) (wider_heard_stamp l (input_of found call))
  event-own =
      event-stamp
      ∙ unfold wider_new_stamp in (
      ap₂ (λ (s : Setup) (u : ℕ). count_own s.epsilon u (wider_heard_stamp l (input_of found call))) c.agrees.own
      (let e : (input_of found call).clock ≡ v % modulus_of l = unfold input_of in c.clock-is in e)
      )

  own_below : node.own < (own_limits l).n
  unfolding input_of
  own_below = subst (λ (o : ℕ). o < (own_limits l).n) (c.own_is station) ticks-at.own_below

  frame-own : FrameOk (own_limits l) (event_frame g (done_of node call))
  frame-own =
      let pos : 0 < modulus_of l = omega (arith, ticks-at.clock-below) in
      record {
        station-below = unfold event_frame frame_of done_of in own_below;
        r-below = omega (arith, ap (λ (t : Timestamp). t.r) event-stamp, stamp-r, mod-lt v pos, limits-modulus l ticks-at.good (modulus_of l));
        sound = subst (λ (t : Timestamp). Sound (own_limits l).n (own_limits l).epsilon t) (sym event-stamp) stamp-left.sound;
        short = unfold event_frame frame_of done_of in (let h : length call.payload ≤ 32 = unfold input_of in ticks-at.payload-short in h);
      }

  frame-ok : FrameOk (limits_at g (done_of node call).clock) (event_frame g (done_of node call))
  frame-ok = subst (λ (s : Setup). FrameOk s (event_frame g (done_of node call))) (sym at_own) frame-own

  -- the frame, with its stamp named
  event-frame : frame_of (own_limits l).epsilon call.own stamp call.payload ≡ event_frame g (done_of node call)
  unfolding event_frame frame_of done_of
  event-frame =
      let stamps : trimmed (own_limits l).epsilon stamp ≡ (event_frame g (done_of node call)).stamp =
      trimmed-same (own_limits l).epsilon stamp stamp-left.sound.wide ∙ sym event-stamp in
      λ i. record { station = c.own_is station i; stamp = stamps i; payload = call.payload }

  sent-frame : call.send ≡ true → wider_sent l (input_of found call) ≡ encode (event_frame g (done_of node call))
  sent-frame e =
      let send : (input_of found call).send ≡ true = unfold input_of in e in
      let frame : frame_of (own_limits l).epsilon (input_of found call).own stamp (input_of found call).payload ≡ event_frame g (done_of node call) = unfold input_of in event-frame in
      sent-by l (input_of found call) send ∙ ap encode frame

  event-bytes : sends (done_of node call) ≡ true → message_bytes (done_of node call) ≡ encode (event_frame g (done_of node call))
  event-bytes e =
      unfold message_bytes done_of wider_acceptance in (ap (λ (o : Output). take o.answer.sent o.outgoing) ticks-at.is)
      ∙ (take-overlay (wider_sent l (input_of found call)) (input_of found call).outgoing ∙ sent-frame (sends-send node call e))

  event-wide : HasWidth l (event_frame g (done_of node call))
  event-wide = (has_width_lem l (own_limits l).epsilon (event_frame g (done_of node call)) (limits-half l (modulus_of l)) frame-own.sound.wide).1

  event-message : sends (done_of node call) ≡ true → message_frame (done_of node call) ≡ event_frame g (done_of node call)
  event-message e =
      unfold message_frame done_of in (ap (λ (h : Schedule). wider_decode h (message_bytes (done_of node call))) c.along-is)
      ∙ (ap (wider_decode l) (event-bytes e) ∙ wide-decode l (event_frame g (done_of node call)) event-wide)

  -- the tables that it leaves
  pub leaves-tables :
      trimmed (limits_at g (node_after node call.step (output_of node call)).clock).epsilon (node_after node call.step (output_of node call)).tables
      ≡ wider_new_stamp l (input_of found call)
  leaves-tables =
      let made : (node_after node call.step (output_of node call)).tables ≡ widened stamp = unfold node_after in tables-made in
      (λ i. trimmed (after-own i).epsilon (made i))
      ∙ trimmed-widened (own_limits l).epsilon stamp limits-own.epsilon-most stamp-left.sound.wide

  pub tables-left : Tables g (node_after node call.step (output_of node call))
  tables-left =
      rw leaves-tables (subst (λ (s : Setup). Left s.n s.epsilon stamp) (sym after-own) stamp-left)

  outgoing-room : 39 + 2 * (own_limits l).epsilon ≤ length call.outgoing
  unfolding input_of
  outgoing-room = ticks-at.outgoing-room

  event-fits : length (encode (event_frame g (done_of node call))) ≤ length (done_of node call).call.outgoing
  unfolding width done_of
  event-fits = omega (arith, length-encode (event_frame g (done_of node call)), frame-own.short, frame-own.sound.wide, outgoing-room)

  written_is :
      written (limits_at g (done_of node call).clock) (done_of node call) ≡ write_by 0 (event_frame g (done_of node call)) call.outgoing
  unfolding written event_frame done_of
  written_is =
      written-to (limits_at g (done_of node call).clock) node.own (event_frame g (done_of node call)) call.outgoing
      (setup-to (limits_at g (done_of node call).clock) node.own (limits-good g good (done_of node call).clock) (subst (λ (s : Setup). node.own < s.n) (sym at_own) own_below))
      frame-ok event-fits

  sent-length : call.send ≡ true → (done_of node call).output.answer.sent ≡ length (encode (event_frame g (done_of node call)))
  sent-length e =
      unfold done_of wider_acceptance in (ap (λ (o : Output). o.answer.sent) ticks-at.is) ∙ ap length (sent-frame e)

  sent-outgoing : call.send ≡ true → (done_of node call).output.outgoing ≡ overlay (encode (event_frame g (done_of node call))) call.outgoing
  sent-outgoing e =
      unfold done_of wider_acceptance input_of in (ap (λ (o : Output). o.outgoing) ticks-at.is)
      ∙ ap (λ (x : List ℕ). overlay x call.outgoing) (sent-frame e)

  writer-made :
      sends (done_of node call) ≡ true
      → ((written (limits_at g (done_of node call).clock) (done_of node call)).number ≡ 0)
      × ((done_of node call).output.answer.sent ≡ (written (limits_at g (done_of node call).clock) (done_of node call)).size)
      × ((done_of node call).output.outgoing ≡ (written (limits_at g (done_of node call).clock) (done_of node call)).buffer)
  writer-made e =
      let send : call.send ≡ true = sends-send node call e in
      rw written_is (refl, sent-length send, sent-outgoing send)

  pub event-made : CallEvent g (done_of node call)
  event-made =
      record {
        frame = frame-ok;
        r-is = ap (λ (t : Timestamp). t.r) event-stamp ∙ (stamp-r ∙ ap₂ (λ (x y : ℕ). x % y) (sym (done-clock c)) c.agrees.modulus);
        bytes = event-bytes;
        message = event-message;
        fits = λ sent. event-fits;
        writer = writer-made;
      }

-- a call's frame reads at its true clock, where that is less than ε ahead of v and at most B − ε behind
pub event-reads :
    (g : Schedule) (v : ℕ) (m : Done) → GoodSchedule g → CallEvent g m → m.clock < v + (limits_at g v).epsilon → v + (limits_at g v).epsilon ≤ m.clock + modulus_of g
    → place_at g v (event_frame g m) ≡ modulus_of g + m.clock
event-reads g v m good event hi lo =
    let s : Setup = limits_at g v in
    let same : s.modulus ≡ modulus_of g = limits-modulus g good v in
    let reads : reading_of s (v % s.modulus) (event_frame g m) + v ≡ s.modulus + m.clock =
    reading-true s v m.clock (event_frame g m) (limits-good g good v) (event.r-is ∙ ap (λ (B : ℕ). m.clock % B) (sym same)) hi (omega arith) in
    ap (λ (B : ℕ). reading_of s (v % B) (event_frame g m) + v) (sym same) ∙ (reads ∙ ap (λ (B : ℕ). B + m.clock) same)
