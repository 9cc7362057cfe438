-- 01, "The checks, as questions": "in order; a no ends it".
use Rattle.std.specs.Prelude.{ℕ, Bool, ◌&&◌, cond, List, [], ◌∷◌, ltb}
use Rattle.model.specs.Setup.{Setup, in_limits, is_member}
use Rattle.model.specs.Timestamp.{sound_timestamp}
use Rattle.model.specs.Frame.{Frame, well_formed, decode}

-- a question: its answer, and its number
pub record Question : Type 0 where
  pub holds : Bool
  pub number : ℕ

-- what is asked, and the number of a no
abbrev pub ask : Bool → ℕ → Question
ask holds number = record { holds = holds; number = number }

-- the number of the first question that gets a no; 0 where none does
unfoldable pub first_no : List Question → ℕ
first_no [] = 0
first_no (q ∷ qs) = cond q.holds (first_no qs) q.number

-- 01, 1: "Is the setup in its limits?" The own number is one of these limits
unfoldable pub ask_setup : Setup → ℕ → Question
ask_setup s own = ask (in_limits s && is_member s own) 1

-- 01, 10: "Are the three counts right, and is nothing left over?"
unfoldable pub ask_form : Setup → List ℕ → Question
ask_form s bytes = ask (well_formed s.epsilon bytes) 10

-- 01, 11: "Is the station below n and r below B?"
unfoldable pub ask_range : Setup → Frame → Question
ask_range s f = ask (ltb f.station s.n && ltb f.stamp.r s.modulus) 11

-- 01, 12: "Is the stamp sound?"
unfoldable pub ask_stamp : Setup → Frame → Question
ask_stamp s f = ask (sound_timestamp s.n s.epsilon f.stamp) 12

-- 01: "frames that pass 10 to 12"
unfoldable pub frame_questions : Setup → List ℕ → List Question
frame_questions s bytes =
    ask_form s bytes ∷ ask_range s (decode s.epsilon bytes) ∷ ask_stamp s (decode s.epsilon bytes) ∷ []
