-- 02, 2.10: the promises' due clock and order, in 02's words, are those of the tick; and by a steady schedule the promises are those with one pair of
-- limits, field by field.
-- Assumes nothing.
use Prim.Native.Nat.{ℕ}
use mathlib.Core.Path.{◌≡◌, refl, ap}
use mathlib.Core.List.{List, [], ◌∷◌, ◌++◌}
use Rattle.model.specs.Setup.{Setup}
use Rattle.model.specs.Timestamp.{sum}
use Rattle.model.specs.Frame.{Frame}
use Rattle.model.specs.Order.{counts_down, key_by, key, due}
use Rattle.model.specs.Holdback.{cut_frames, held_bytes}
use Rattle.model.specs.Schedule.{Schedule, steady, widening, old_due, due_along, compared_along}
use Rattle.model.specs.Wider.{frame_half, wider_decode, wider_end, counts_down_by, wider_key, wider_held_bytes}
use Rattle.model.specs.Run.{Done, message_frame}
use Rattle.theory.specs.Demand3.{due_clock, due_in, message_key, earlier, due_here, covered_frame, Promised}
use Rattle.theory.specs.Through.{due_of_sum, counts_of_sum, due_clock_along, due_in_along, message_key_along, earlier_along, due_here_along, covered_along, PromisedAlong}

-- ---- the due clock and the order

due-of-sum : (g : Schedule) (total : ℕ) → due_of_sum g total ≡ due_along g total
unfolding old_due
due-of-sum (steady s) total = refl
due-of-sum (widening before after change) total = refl

counts-of-sum : (g : Schedule) (total : ℕ) → counts_of_sum g total ≡ compared_along g total
unfolding old_due
counts-of-sum (steady s) total = refl
counts-of-sum (widening before after change) total = refl

pub due-clock : (g : Schedule) (m : Done) → due_clock_along g m ≡ due_along g (sum m.clock (message_frame m).stamp.c)
unfolding due_clock_along
due-clock g m = due-of-sum g (sum m.clock (message_frame m).stamp.c)

pub key-along : (g : Schedule) (m : Done) → message_key_along g m ≡ wider_key g m.clock (message_frame m)
unfolding message_key_along wider_key
key-along g m =
    let f : Frame = message_frame m in
    let total : ℕ = sum m.clock f.stamp.c in
    ap (λ (most : ℕ). total ∷ (counts_down_by most (frame_half g f) f.stamp ++ (f.station ∷ m.clock ∷ []))) (counts-of-sum g total)

-- ---- with one pair

pub along-steady : (s : Setup) (from : ℕ) (past : List Done) → Promised s from past → PromisedAlong (steady s) from past
unfolding due_clock due_in message_key earlier due_here covered_frame due_clock_along due_in_along message_key_along earlier_along due_here_along covered_along due key key_by counts_down counts_down_by cut_frames held_bytes wider_end wider_held_bytes wider_decode
along-steady s from past p =
    record { sending = p.sending; hearing = p.hearing; delivering = p.delivering; causality = p.causality }

pub steady-along : (s : Setup) (from : ℕ) (past : List Done) → PromisedAlong (steady s) from past → Promised s from past
unfolding due_clock due_in message_key earlier due_here covered_frame due_clock_along due_in_along message_key_along earlier_along due_here_along covered_along due key key_by counts_down counts_down_by cut_frames held_bytes wider_end wider_held_bytes wider_decode
steady-along s from past p =
    record { sending = p.sending; hearing = p.hearing; delivering = p.delivering; causality = p.causality }
