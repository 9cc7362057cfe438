-- What an accepted call comes to by its schedule, whether its setup is a plain one or carries both pairs (02, 2.10).
-- Assumes nothing.
use Prim.Native.Nat.{ℕ, ◌+◌, ◌*◌, ◌≤◌, ◌<◌}
use native.Mathlib.Omega.{arith}
use mathlib.Core.Path.{◌≡◌, refl, sym, ap, subst, ◌∙◌}
use mathlib.Core.Bool.{Bool, true, false, cond}
use mathlib.Core.List.{◌++◌}
use mathlib.Core.Option.{Option, none, some}
use lib.ListN.{length}
use borrow.Author.Tests.{eqb-true}
use Rattle.model.specs.Setup.{Setup}
use Rattle.model.specs.Tick.{Input, Output, tick}
use Rattle.model.specs.Observer.{Listening, Listened, listen}
use Rattle.model.specs.Schedule.{Schedule, steady, widening, modulus_of, widest_of, Wider, wider_setup, change_near, same_pairs, along, own_limits}
use Rattle.model.specs.Wider.{wider_acceptance, tick_in}
use Rattle.model.specs.WiderCalls.{wider_listened, listen_in}
use Rattle.model.specs.Run.{Node, Call, input_of, listening_of, listened_output, is_accepted, lengthened, output_by, output_of, schedule_by, schedule_of}
use Rattle.theory.proofs.Steadily.{tick-steady, listen-steady}
use Rattle.lemmas.proofs.OneTick.{accepted-call}
use Rattle.lemmas.proofs.OneListening.{listen-accepted}
use Rattle.lemmas.proofs.Schedules.{Good, limits-n, limits-widest}
use Rattle.lemmas.proofs.WiderCall.{accepted-in, heeded-in, along-good, along-modulus}

-- a station's
pub record Ticked (l : Schedule) (i : Input) (o : Output) : Type 0 where
  pub good : Good l
  pub own_below : i.own < (own_limits l).n
  pub clock-below : i.clock < modulus_of l
  pub payload-short : length i.payload ≤ 32
  pub outgoing-room : 39 + 2 * (own_limits l).epsilon ≤ length i.outgoing
  pub is : o ≡ wider_acceptance l i

-- an observer's
pub record Heeds (l : Schedule) (i : Listening) (o : Listened) : Type 0 where
  pub good : Good l
  pub clock-below : i.clock < modulus_of l
  pub is : o ≡ wider_listened l i

-- n is the same for both pairs
along-n : (s : Setup) (w : Wider) (v : ℕ) → (widest_of (along s w v)).n ≡ s.n
unfolding along
along-n s w v = go (same_pairs s w)
  where
    go : (b : Bool) → (widest_of (cond b (steady s) (widening s (wider_setup s w) (change_near s.modulus v w)))).n ≡ s.n
    go true = refl
    go false = refl

ticked-plain : (i : Input) → (tick i).answer.number ≡ 0 → Ticked (steady i.setup) i (tick i)
ticked-plain i e =
    let a = accepted-call i e in
    record {
      good = a.limits;
      own_below = a.own_below;
      clock-below = a.clock-below;
      payload-short = a.payload-short;
      outgoing-room = a.outgoing-room;
      is = a.accepted ∙ sym (tick-steady i);
    }

ticked-both : (w : Wider) (i : Input) → (tick_in w i).answer.number ≡ 0 → Ticked (along i.setup w i.clock) i (tick_in w i)
ticked-both w i e =
    let a = accepted-in w i e in
    let l : Schedule = along i.setup w i.clock in
    let good : Good l = along-good i.setup w i.clock a.both in
    record {
      good = good;
      own_below = omega (arith, a.own_below, limits-n l good (modulus_of l), along-n i.setup w i.clock);
      clock-below = omega (arith, a.clock-below, along-modulus i.setup w i.clock);
      payload-short = a.payload-short;
      outgoing-room = omega (arith, a.outgoing-room, (limits-widest l good (modulus_of l)).0);
      is = a.accepted;
    }

heeds-plain : (i : Listening) → (listen i).number ≡ 0 → Heeds (steady i.setup) i (listen i)
heeds-plain i e =
    let a = listen-accepted i e in
    record { good = a.limits; clock-below = a.clock-below; is = a.accepted ∙ sym (listen-steady i) }

heeds-both : (w : Wider) (i : Listening) → (listen_in w i).number ≡ 0 → Heeds (along i.setup w i.clock) i (listen_in w i)
heeds-both w i e =
    let a = heeded-in w i e in
    record {
      good = along-good i.setup w i.clock a.both;
      clock-below = omega (arith, a.clock-below, along-modulus i.setup w i.clock);
      is = a.accepted;
    }

-- of a call in a list: what comes of it, as an observer's or as a station's
abbrev pub Shows : Schedule → Node → Call → Bool → Output → Type 0
Shows l found call true o = (h : Listened) × (o ≡ listened_output found call h) × Heeds l (listening_of found call) h
Shows l found call false o = Ticked l (input_of found call) o

shows-by :
    (w : Option Wider) (found : Node) (call : Call) → is_accepted (output_by w found call) ≡ true
    → Shows (schedule_by w call.setup call.clock) found call found.listens (output_by w found call)
unfolding is_accepted input_of listening_of listened_output
shows-by none found call = go found.listens
  where
    go :
        (b : Bool) → is_accepted (cond b (listened_output found call (listen (listening_of found call))) (tick (input_of found call))) ≡ true
        → Shows (steady call.setup) found call b (cond b (listened_output found call (listen (listening_of found call))) (tick (input_of found call)))
    go true acc = (listen (listening_of found call), refl, heeds-plain (listening_of found call) (eqb-true _ _ acc))
    go false acc = ticked-plain (input_of found call) (eqb-true _ _ acc)
shows-by (some w) found call = go found.listens
  where
    go :
        (b : Bool) → is_accepted (cond b (listened_output found call (listen_in w (listening_of found call))) (tick_in w (input_of found call))) ≡ true
        → Shows (along call.setup w call.clock) found call b (cond b (listened_output found call (listen_in w (listening_of found call))) (tick_in w (input_of found call)))
    go true acc = (listen_in w (listening_of found call), refl, heeds-both w (listening_of found call) (eqb-true _ _ acc))
    go false acc = ticked-both w (input_of found call) (eqb-true _ _ acc)

pub shows :
    (l : Schedule) (node found : Node) (call : Call) → schedule_of call ≡ l → lengthened call.spare node ≡ found → is_accepted (output_of node call) ≡ true
    → Shows l found call found.listens (output_of node call)
unfolding output_of schedule_of
shows l node found call along-is found-is acc =
    let e : output_of node call ≡ output_by call.wider found call = ap (λ (a : Node). output_by call.wider a call) found-is in
    subst (λ (o : Output). Shows l found call found.listens o) (sym e)
    (subst (λ (g : Schedule). Shows g found call found.listens (output_by call.wider found call)) along-is
    (shows-by call.wider found call (subst (λ (o : Output). is_accepted o ≡ true) e acc)))

-- what a call finds is its node, but for the shelf
pub found-listens : (call : Call) (node found : Node) → lengthened call.spare node ≡ found → found.listens ≡ node.listens
unfolding lengthened
found-listens call node found e = ap (λ (a : Node). a.listens) (sym e)

pub found-tables : (call : Call) (node found : Node) → lengthened call.spare node ≡ found → found.tables ≡ node.tables
unfolding lengthened
found-tables call node found e = ap (λ (a : Node). a.tables) (sym e)

pub found-holdback : (call : Call) (node found : Node) → lengthened call.spare node ≡ found → found.holdback ≡ node.holdback ++ call.spare
unfolding lengthened
found-holdback call node found e = ap (λ (a : Node). a.holdback) (sym e)
