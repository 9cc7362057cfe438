-- Calls with both pairs of limits (02, 2.10), from memories of any kind, in the season of Through: V is 17, B 14.
use Rattle.std.specs.Prelude.{ℕ, ◌+◌, ◌-◌, ◌%◌, ◌/◌, Bool, true, false, List, [], ◌∷◌, ◌++◌, map, replicate}
use Rattle.std.proofs.Math.Option.{none, some}
use Rattle.laws.specs.Lists.{tab}
use Rattle.model.specs.Timestamp.{Timestamp}
use Rattle.model.specs.Frame.{Frame}
use Rattle.model.specs.Tick.{Input}
use Rattle.model.specs.Observer.{Listening}
use Rattle.model.specs.Schedule.{Wider}
use Rattle.model.specs.Run.{stale, Call, input_of, listening_of}
use Rattle.theory.specs.Changeover.{wider_for}
use Rattle.violations.specs.Stories.{calling_in, bytes_of}
use Rattle.violations.specs.Through.{season, holdback_with, member, listener, narrow_at, wide_at}

-- the wider pair of a call for a true clock, with the mark that is right there
abbrev pub pair_at : ℕ → Wider
pair_at v = wider_for season v

abbrev pub call_at : ℕ → Bool → List (List ℕ) → Call
call_at v send entries =
    calling_in season.before (some (pair_at v)) [] season.after 0 1 v send (65 ∷ []) entries (map (λ bytes. stale) entries)

-- a station's, with these tables and these bytes on its shelf, and an observer's
abbrev pub input_in : ℕ → Timestamp → List ℕ → Bool → List (List ℕ) → Input
input_in v tables frames send entries = input_of (member 0 (v - 1) tables (holdback_with season.after frames)) (call_at v send entries)

abbrev pub listening_in : ℕ → List ℕ → List (List ℕ) → Listening
listening_in v frames entries = listening_of (listener (v - 1) ((v - 1) % 14) (holdback_with season.after frames)) (call_at v false entries)

abbrev pub no_frames : List ℕ
no_frames = 0 ∷ 0 ∷ []

-- quiet calls for 14 and for 16, before V, and for 30, the last clock that both pairs are for, with tables that are replaced
abbrev pub quiet_at14 : Input
quiet_at14 = input_in 14 (narrow_at 13) no_frames false []

abbrev pub quiet_at16 : Input
quiet_at16 = input_in 16 (narrow_at 15) no_frames false []

abbrev pub replaced_at30 : Input
replaced_at30 = input_in 30 (record { r = 1; c = 9; kn = replicate 32 77 }) no_frames false []

-- a frame of each width, of clocks 16 and 17: the narrow one is due at 19, the wide one at 20
abbrev pub narrow_frame : List ℕ
narrow_frame = bytes_of 0 2 0 (1 ∷ 1 ∷ []) (67 ∷ [])

abbrev pub wide_frame : List ℕ
wide_frame = bytes_of 0 3 0 (1 ∷ 1 ∷ 1 ∷ 0 ∷ []) (69 ∷ [])

abbrev pub both_widths : List ℕ
both_widths = 2 ∷ 0 ∷ (narrow_frame ++ wide_frame)

-- calls for 19 and for 20, from the clock before, with both on the shelf, and one for 20 from 18: they are handed out one by one, or together
abbrev pub holds_both_at19 : Input
holds_both_at19 = input_in 19 (wide_at 18) both_widths true []

abbrev pub hands_both_at20 : Input
hands_both_at20 = input_in 20 (wide_at 18) both_widths true []

-- a call for 20 with the wide one twice on the shelf
abbrev pub twice_at20 : Input
twice_at20 = input_in 20 (wide_at 19) (2 ∷ 0 ∷ (wide_frame ++ wide_frame)) false []

abbrev pub twice_listening : Listening
twice_listening = listening_in 20 (2 ∷ 0 ∷ (wide_frame ++ wide_frame)) []

-- a call for 17 that hears a frame of 14, δ' + ε' behind, which was due at 15
abbrev pub late_at17 : Input
late_at17 = input_in 17 (narrow_at 16) no_frames false (bytes_of 0 0 0 (0 ∷ 1 ∷ []) [] ∷ [])

-- a call for 14, before V, with six frames on its shelf, two of them wide ones of 12 with c 1, none due before 14
abbrev pub ahead_at14 : Input
ahead_at14 = input_in 14 (narrow_at 13) (6 ∷ 0 ∷ (ahead 0 ++ (plain 0 13 ++ (ahead 1 ++ (plain 1 13 ++ (plain 0 0 ++ plain 1 0)))))) false []
  where
    ahead : ℕ → List ℕ
    ahead station = bytes_of station 12 1 (0 ∷ 0 ∷ 0 ∷ 1 ∷ []) []

    plain : ℕ → ℕ → List ℕ
    plain station r = bytes_of station r 0 (0 ∷ 1 ∷ []) []

-- wider pairs that no call is given: with no ε' at all, with an ε' that B is too small for, with V at B, and with a mark of 2
abbrev pub no_drift : Wider
no_drift = record { epsilon = 0; delta = 1; change = 3; marked = 0 }

abbrev pub long_drift : Wider
long_drift = record { epsilon = 3; delta = 1; change = 3; marked = 0 }

abbrev pub change_at_b : Wider
change_at_b = record { epsilon = 2; delta = 1; change = 14; marked = 0 }

abbrev pub marked_twice : Wider
marked_twice = record { epsilon = 2; delta = 1; change = 3; marked = 2 }

-- a call for 14 that has the new pair for its old one, and a pair with a shorter delay
abbrev pub new_at14 : Input
new_at14 =
    input_of (member 0 13 (wide_at 13) (holdback_with season.after no_frames)) (calling_in season.after none [] season.after 0 1 14 false [] [] [])

abbrev pub shorter_delay : Wider
shorter_delay = record { epsilon = 2; delta = 0; change = 3; marked = 0 }

-- a pair with the old ε and a longer delay: both widths are one
abbrev pub longer_delay : Wider
longer_delay = record { epsilon = 1; delta = 1; change = 3; marked = 0 }

-- a frame of neither width
abbrev pub odd_frame : Frame
odd_frame = record { station = 0; stamp = record { r = 3; c = 0; kn = 1 ∷ 1 ∷ 0 ∷ [] }; payload = [] }

-- a wide stamp that knows of the next clock
abbrev pub ahead_by_one : Timestamp
ahead_by_one = record { r = 6; c = 1; kn = 0 ∷ 0 ∷ 1 ∷ 1 ∷ replicate 28 255 }

-- a call for 20 that hears a wide frame of each station at 17 to 21: more than the old pair's shelf is for
abbrev pub packed_at20 : Input
packed_at20 = input_in 20 (wide_at 19) no_frames false (tab 10 (λ k. bytes_of (k / 5) ((17 + k % 5) % 14) 0 (0 ∷ 0 ∷ 1 ∷ 0 ∷ []) []))

abbrev pub packed_listening : Listening
packed_listening = listening_in 20 no_frames (tab 10 (λ k. bytes_of (k / 5) ((17 + k % 5) % 14) 0 (0 ∷ 0 ∷ 1 ∷ 0 ∷ []) []))
