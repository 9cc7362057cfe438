-- 02, 2.10: what is asked of a frame by both pairs of limits.
-- Assumes nothing.
use Rattle.std.specs.Prelude.{ℕ, ◌+◌, ◌-◌, Bool, ◌&&◌, not, cond, List, [], ◌∷◌, leb, ltb, length, take}
use Rattle.model.specs.Timestamp.{counts_from, sum, at_most}
use Rattle.model.specs.Frame.{Frame}
use Rattle.model.specs.Question.{Question, ask}
use Rattle.model.specs.Holdback.{not_early_at, encode_frames}
use Rattle.model.specs.Judge.{Asking}
use Rattle.model.specs.Schedule.{Schedule, modulus_of, own_limits, due_along}
use Rattle.model.specs.Wider.{frame_half, wider_decode, wider_reading, wider_held, wider_questions, wider_observer_questions}
use Rattle.node.specs.Views.{LocatedBy}
use Rattle.node.specs.declared.verdict.Verdict.{Verdict}

-- 10 to 16. 02, 2.6: "not 15" of one that only listens
unfoldable pub questions_for : Bool → Schedule → ℕ → Asking
questions_for listens g v = cond listens (wider_observer_questions g v) (wider_questions g v)

-- 13, with r at a reading near v, which reads B: "Is r at most δ + ε behind v?", and 02: "a frame heard that is due before v gets 13"
abbrev pub not_late : Schedule → ℕ → Frame → Bool
not_late g reading f =
    leb (modulus_of g) (reading + ((own_limits g).delta + (own_limits g).epsilon)) && not (ltb (due_along g (sum reading f.stamp.c)) (modulus_of g))

-- 15, by the frame's own counts
abbrev pub few_counts : Schedule → ℕ → Frame → Bool
few_counts g reading f = at_most ((own_limits g).n - 1) (counts_from (frame_half g f) reading f.stamp.kn (modulus_of g))

-- 13 to 15
unfoldable pub time_questions : Bool → Schedule → ℕ → Frame → List Question
time_questions listens g reading f =
    ask (not_late g reading f) 13 ∷ ask (not_early_at (own_limits g) (own_limits g).modulus reading f) 14 ∷ cond listens [] (ask (few_counts g reading f) 15 ∷ [])

-- where frame `index` of a queue, or its end, starts
abbrev pub start_in : Schedule → List ℕ → ℕ → ℕ
start_in g buffer index = length (encode_frames (take index (wider_held g buffer)))

-- where the place of a taken frame stands, and the reading of its r near v
abbrev pub Located : Schedule → ℕ → List ℕ → List ℕ → Verdict → Type 0
Located g v buffer bytes r = LocatedBy (start_in g buffer) (wider_reading g v (wider_decode g bytes)) r
