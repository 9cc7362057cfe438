-- 01, "The replay program": what it writes, as bytes. A name in quotes is the text of which a list has the ASCII codes.
use Rattle.std.specs.Prelude.{ℕ, ◌+◌, cond, List, [], ◌∷◌, ◌++◌, leb, eqb, length, take, drop}
use Rattle.laws.specs.Lists.{joined}
use Rattle.splice.specs.Bytes.{pasted}
use Rattle.text.specs.Text.{digits, space, newline, field}
use Rattle.model.specs.Setup.{Setup}
use Rattle.model.specs.Frame.{Frame, frame_end, decode}
use Rattle.model.specs.Comparison.{Reason, by_sum, by_count, by_station, by_r, by_nothing, compared}
use Rattle.model.specs.Holdback.{held}
use Rattle.model.specs.Tick.{Input, Output}

-- 01: "in hexadecimal, two lower-case digits a byte"
unfoldable pub hex_byte : ℕ → List ℕ
hex_byte x = digits 16 2 x

-- the words of the lines: "tick ", " mend ", " c ", " took ", " sent ", " gave ", "give ", "refused ", " sum", " count ", " station", " r", " -"
abbrev pub tick_word : List ℕ
tick_word = 116 ∷ 105 ∷ 99 ∷ 107 ∷ 32 ∷ []

abbrev pub mend_word : List ℕ
mend_word = 32 ∷ 109 ∷ 101 ∷ 110 ∷ 100 ∷ 32 ∷ []

abbrev pub c_word : List ℕ
c_word = 32 ∷ 99 ∷ 32 ∷ []

abbrev pub took_word : List ℕ
took_word = 32 ∷ 116 ∷ 111 ∷ 111 ∷ 107 ∷ 32 ∷ []

abbrev pub sent_word : List ℕ
sent_word = 32 ∷ 115 ∷ 101 ∷ 110 ∷ 116 ∷ 32 ∷ []

abbrev pub gave_word : List ℕ
gave_word = 32 ∷ 103 ∷ 97 ∷ 118 ∷ 101 ∷ 32 ∷ []

abbrev pub give_word : List ℕ
give_word = 103 ∷ 105 ∷ 118 ∷ 101 ∷ 32 ∷ []

abbrev pub refused_word : List ℕ
refused_word = 114 ∷ 101 ∷ 102 ∷ 117 ∷ 115 ∷ 101 ∷ 100 ∷ 32 ∷ []

abbrev pub sum_word : List ℕ
sum_word = 32 ∷ 115 ∷ 117 ∷ 109 ∷ []

abbrev pub count_word : List ℕ
count_word = 32 ∷ 99 ∷ 111 ∷ 117 ∷ 110 ∷ 116 ∷ 32 ∷ []

abbrev pub station_word : List ℕ
station_word = 32 ∷ 115 ∷ 116 ∷ 97 ∷ 116 ∷ 105 ∷ 111 ∷ 110 ∷ []

abbrev pub r_word : List ℕ
r_word = 32 ∷ 114 ∷ []

abbrev pub dash_word : List ℕ
dash_word = 32 ∷ 45 ∷ []

-- 01: "sent (1 or 0)", of the length of the outgoing frame
unfoldable pub flag : ℕ → ℕ
flag sent = cond (eqb sent 0) 0 1

-- three words, each with a number after it
unfoldable pub fields : List ℕ → ℕ → List ℕ → ℕ → List ℕ → ℕ → List ℕ
fields first x second y third z = field first x ++ (field second y ++ field third z)

-- 01: "A tick line has clock, mend, c, taken, sent (1 or 0), handed out"
unfoldable pub tick_line : ℕ → ℕ → ℕ → ℕ → ℕ → ℕ → List ℕ
tick_line clock repair c taken sent delivered =
    fields tick_word clock mend_word repair c_word c
    ++ (fields took_word taken sent_word (flag sent) gave_word delivered ++ newline)

-- 01: "the ticket in hexadecimal … (`-` if empty)"
unfoldable pub payload_text : List ℕ → List ℕ
payload_text payload = cond (eqb (length payload) 0) (45 ∷ []) (joined hex_byte payload)

-- 02, 2.4: "`sum`, `count` and its clock modulo B, `station`, `r`", each after a space; a dash where nothing decided
abbrev pub reason_text : Reason → List ℕ
reason_text by_sum = sum_word
reason_text (by_count clock) = field count_word clock
reason_text by_station = station_word
reason_text by_r = r_word
reason_text by_nothing = dash_word

-- the end of a give line: the reason, and the end of the line
unfoldable pub reason_tail : Reason → List ℕ
reason_tail reason = reason_text reason ++ newline

-- the payload, and the end of the line
unfoldable pub payload_tail : List ℕ → Reason → List ℕ
payload_tail payload reason = space ++ (payload_text payload ++ reason_tail reason)

-- 01: "a give line has station, r and the ticket". 02, 2.4: "Each give line ends, after a space, with the reason"
unfoldable pub give_text : ℕ → ℕ → List ℕ → Reason → List ℕ
give_text station r payload reason = field give_word station ++ (field space r ++ payload_tail payload reason)

unfoldable pub give_line : Reason → Frame → List ℕ
give_line reason f = give_text f.station f.stamp.r f.payload reason

-- the bytes of the frame that starts at a position of a delivery (01: hand-out)
unfoldable pub frame_bytes : ℕ → List ℕ → ℕ → List ℕ
frame_bytes epsilon s at = take (frame_end epsilon (drop at s)) (drop at s)

unfoldable pub frame_from : ℕ → List ℕ → ℕ → Frame
frame_from epsilon s at = decode epsilon (frame_bytes epsilon s at)

-- 02, 2.4: "the reason against the line before it in the same hand-out": the give line of a frame after that of another, with each r read near
-- the tick's clock
unfoldable pub give_after : Setup → ℕ → Frame → Frame → List ℕ
give_after s v last f = give_line (compared s v last f).reason f

-- the give lines of frames, after that of another
unfoldable pub gives_after : Setup → ℕ → Frame → List Frame → List ℕ
gives_after s v last [] = []
gives_after s v last (f ∷ rest) = give_after s v last f ++ gives_after s v f rest

-- of all frames of a hand-out: "the first of a hand-out with a dash"
unfoldable pub gives_of : Setup → ℕ → List Frame → List ℕ
gives_of s v [] = []
gives_of s v (f ∷ rest) = give_line by_nothing f ++ gives_after s v f rest

-- a give line for each frame of a delivery, in its order
unfoldable pub give_lines : Setup → ℕ → List ℕ → List ℕ
give_lines s v delivery = gives_of s v (held s.epsilon delivery)

-- the lines of a tick: the tick line, then the give lines
unfoldable pub tick_lines : ℕ → ℕ → ℕ → ℕ → ℕ → ℕ → Setup → List ℕ → List ℕ
tick_lines clock repair c taken sent delivered s delivery =
    tick_line clock repair c taken sent delivered ++ give_lines s clock delivery

-- the lines of an accepted call
unfoldable pub lines_of : Input → Output → List ℕ
lines_of i o =
    tick_lines i.clock o.answer.repair o.answer.tables.c o.answer.taken o.answer.sent o.answer.delivered
    i.setup o.delivery

-- 01: "On a refusal it prints `refused` and the number"
unfoldable pub refused_line : ℕ → List ℕ
refused_line number = field refused_word number ++ newline

-- a text put into a buffer at a position, where there is room for it; otherwise nothing is written
unfoldable pub text_written : List ℕ → ℕ → List ℕ → List ℕ
text_written buffer at text = cond (leb (at + length text) (length buffer)) (pasted buffer at text) buffer

-- and where it ends; 0 where there is no room
unfoldable pub text_end : List ℕ → ℕ → List ℕ → ℕ
text_end buffer at text = cond (leb (at + length text) (length buffer)) (at + length text) 0
