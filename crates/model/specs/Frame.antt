-- 01, "Frame, bundle, shelf": the frame, its bytes, and what its bytes hold.
use Rattle.std.specs.Prelude.{ℕ, ◌+◌, ◌*◌, ◌/◌, ◌%◌, Bool, ◌&&◌, List, [], ◌∷◌, ◌++◌, leb, eqb, length, take, drop, get_or}
use Rattle.model.specs.Setup.{width, longest_payload}
use Rattle.model.specs.Timestamp.{Timestamp}

-- 01: a frame: station, stamp and ticket
pub record Frame : Type 0 where
  pub station : ℕ
  pub stamp : Timestamp
  -- 01: the ticket
  pub payload : List ℕ

-- 01: "two-byte numbers have the low byte first"
unfoldable pub two_bytes : ℕ → List ℕ
two_bytes x = x % 256 ∷ x / 256 ∷ []

-- the two-byte number at a position
unfoldable pub two_at : List ℕ → ℕ → ℕ
two_at s at = get_or s at 0 + 256 * get_or s (at + 1) 0

-- 01: a section stands "after its one-byte count"
unfoldable pub section : List ℕ → List ℕ
section s = length s ∷ s

-- 01: the second and the third section: "1 + 2ε (c, then counts from offset −ε up); 0 to 32 (ticket)"
abbrev pub later_sections : Frame → List ℕ
later_sections f = section (f.stamp.c ∷ f.stamp.kn) ++ section f.payload

-- 01: "A frame has three sections …: 3 (station, r in two bytes); 1 + 2ε (c, then counts from offset −ε up); 0 to 32 (ticket)"
unfoldable pub encode : Frame → List ℕ
encode f = section (f.station ∷ two_bytes f.stamp.r) ++ later_sections f

-- the counts of the second section, from offset −ε up
unfoldable pub counts_of : ℕ → List ℕ → List ℕ
counts_of epsilon s = take (width epsilon) (drop 6 s)

-- where the count of the third section stands
unfoldable pub payload_count_at : ℕ → ℕ
payload_count_at epsilon = 6 + width epsilon

-- where its counts say that a frame ends
unfoldable pub frame_end : ℕ → List ℕ → ℕ
frame_end epsilon s = payload_count_at epsilon + 1 + get_or s (payload_count_at epsilon) 0

-- the counts of the second and the third section are right, and nothing is left over
abbrev pub later_formed : ℕ → List ℕ → Bool
later_formed epsilon s =
    eqb (get_or s 4 0) (1 + width epsilon)
    && (leb (get_or s (payload_count_at epsilon) 0) longest_payload && eqb (length s) (frame_end epsilon s))

-- 01: "Are the three counts right, and is nothing left over?"
unfoldable pub well_formed : ℕ → List ℕ → Bool
well_formed epsilon s = eqb (get_or s 0 0) 3 && later_formed epsilon s

-- what a well-formed frame holds
unfoldable pub decode : ℕ → List ℕ → Frame
decode epsilon s =
    record {
      station = get_or s 1 0;
      stamp = record { r = two_at s 2; c = get_or s 5 0; kn = counts_of epsilon s };
      payload = drop (payload_count_at epsilon + 1) s;
    }
