-- The lines of any tick have room in 131,072 bytes: the give lines are at most 736, of at most 91 bytes. Assumes nothing.
use Prim.Native.Nat.{ℕ, ◌*◌, ◌-◌, ◌^◌, ◌≤◌, ◌<◌}
use native.Mathlib.Omega.{arith}
use native.Mathlib.Nat.{mul-le-mul_right}
use mathlib.Core.Path.{◌≡◌, refl, ap, ◌∙◌}
use mathlib.Core.Bool.{true}
use mathlib.Core.Logic.{⊎_elim}
use mathlib.Core.List.{List, [], ◌∷◌, Memᴰ}
use lib.ListN.{length, drop, length-append}
use Rattle.laws.specs.Lists.{every, overlay}
use Rattle.laws.proofs.Lists.{every_map, every-of-mem}
use Rattle.laws.proofs.Numbers.{eq-or-ne}
use Rattle.model.specs.Setup.{Setup}
use Rattle.model.specs.Frame.{Frame, encode}
use Rattle.model.specs.Holdback.{held, held_bytes, passes, encode_frames}
use Rattle.model.specs.Comparison.{Reason, by_sum, by_count, by_station, by_r, by_nothing, compared}
use Rattle.model.specs.Tick.{Input, Answer, delivered_of, tick}
use Rattle.lemmas.proofs.Bounds.{Limits, FrameOk}
use Rattle.lemmas.proofs.RoundTrip.{held-frames, passes-encode}
use Rattle.lemmas.proofs.Comparing.{clock-below}
use Rattle.lemmas.proofs.OneTick.{Accepted, accepted-call, delivery-is, delivered-frames, delivered-fewest, delivered-most, delivered-bytes}
use Rattle.trace.specs.Text.{count_word, payload_text, reason_text, give_line, give_after, gives_after, gives_of, give_lines, tick_line, tick_lines, lines_of}
use Rattle.text.proofs.Numerals.{digit_count-le, digit_count-most}
use Rattle.text.proofs.Putting.{length-field}
use Rattle.trace.proofs.Putting.{length-tick, length-give, length-hex, payload-empty, payload-hex}
use Rattle.playing.specs.Playing.{text_room}

payload-short : (payload : List ℕ) → length payload ≤ 32 → length (payload_text payload) ≤ 64
payload-short payload h =
    ⊎_elim (λ none. omega (arith, ap length (payload-empty payload none)))
    (λ some. omega (arith, ap length (payload-hex payload some), length-hex payload))
    (eq-or-ne (length payload) 0)

-- the words of a reason have at most 12 bytes
reason-short : (s : Setup) (v : ℕ) (f g : Frame) → Limits s → length (reason_text (compared s v f g).reason) ≤ 12
reason-short s v f g lim = go (compared s v f g).reason refl
  where
    go : (r : Reason) → (compared s v f g).reason ≡ r → length (reason_text r) ≤ 12
    go by_sum e = omega arith
    go (by_count k) e =
        omega (arith, length-field count_word k, digit_count-le 4 k (omega (arith, clock-below s v f g k lim e, lim.modulus-most)))
    go by_station e = omega arith
    go by_r e = omega arith
    go by_nothing e = omega arith

-- a give line has at most 91 bytes
give-short : (s : Setup) (f : Frame) (reason : Reason) → Limits s → FrameOk s f → length (reason_text reason) ≤ 12 → length (give_line reason f) ≤ 91
unfolding give_line
give-short s f reason lim ok h =
    omega (
      arith,
      length-give f.station f.stamp.r f.payload reason,
      digit_count-le 1 f.station (omega (arith, ok.station-below, lim.n-most)),
      digit_count-le 4 f.stamp.r (omega (arith, ok.r-below, lim.modulus-most)),
      payload-short f.payload ok.short,
    )

module _ (s : Setup) (v : ℕ) (lim : Limits s) where
  after-short : (last : Frame) (queue : List Frame) → ((f : Frame) → Memᴰ f queue → FrameOk s f) → length (gives_after s v last queue) ≤ 91 * length queue
  unfolding gives_after give_after
  after-short last [] ok = omega arith
  after-short last (f ∷ queue) ok =
      omega (
        arith,
        length-append (give_line (compared s v last f).reason f) (gives_after s v f queue),
        give-short s f (compared s v last f).reason lim (ok f (Memᴰ.head refl)) (reason-short s v last f lim),
        after-short f queue (λ g m. ok g (Memᴰ.tail m)),
      )

  all_short : (queue : List Frame) → ((f : Frame) → Memᴰ f queue → FrameOk s f) → length (gives_of s v queue) ≤ 91 * length queue
  unfolding gives_of
  all_short [] ok = omega arith
  all_short (f ∷ queue) ok =
      omega (
        arith,
        length-append (give_line by_nothing f) (gives_after s v f queue),
        give-short s f by_nothing lim (ok f (Memᴰ.head refl)) (omega arith),
        after-short f queue (λ g m. ok g (Memᴰ.tail m)),
      )

-- a hand-out has at most 736 frames: n(3ε − 2), with 16 for both
pub delivered-least : (i : Input) → Accepted i → length (delivered_of i) ≤ 736
delivered-least i a =
    let n : ℕ = i.setup.n in
    let epsilon : ℕ = i.setup.epsilon in
    omega (
      arith,
      delivered-fewest i a,
      mul-le-mul_right (2 * epsilon - 2) a.limits.n-most,
      mul-le-mul_right epsilon a.limits.n-most,
      a.limits.epsilon-most,
    )

delivered-are : (i : Input) → Accepted i → held i.setup.epsilon (tick i).delivery ≡ delivered_of i
unfolding overlay
delivered-are i a =
    ap (held i.setup.epsilon) (delivery-is i a)
    ∙ held-frames i.setup.epsilon (delivered_of i) (drop (length (encode_frames (delivered_of i))) i.delivery)
    (λ f m. (delivered-frames i a f m).sound.wide) (delivered-most i a)

gives-short : (i : Input) → Accepted i → length (give_lines i.setup i.clock (tick i).delivery) ≤ 66976
unfolding give_lines
gives-short i a =
    let lines = ap (λ (q : List Frame). length (gives_of i.setup i.clock q)) (delivered-are i a) in
    omega (
      arith,
      lines,
      all_short i.setup i.clock a.limits (delivered_of i) (λ f m. delivered-frames i a f m),
      delivered-least i a,
    )

-- figures of 64 bits
pub record Figured (clock : ℕ) (a : Answer) : Type 0 where
  pub clock-small : clock < 2 ^ 64
  pub repair-small : a.repair < 2 ^ 64
  pub c-small : a.tables.c < 2 ^ 64
  pub taken-small : a.taken < 2 ^ 64
  pub delivered-small : a.delivered < 2 ^ 64

pub lines_fit : (i : Input) → (tick i).answer.number ≡ 0 → Figured i.clock (tick i).answer → length (lines_of i (tick i)) ≤ text_room
unfolding lines_of tick_lines
lines_fit i e small =
    let a = (tick i).answer in
    let line = tick_line i.clock a.repair a.tables.c a.taken a.sent a.delivered in
    omega (
      arith,
      length-append line (give_lines i.setup i.clock (tick i).delivery),
      length-tick i.clock a.repair a.tables.c a.taken a.sent a.delivered,
      digit_count-most i.clock small.clock-small,
      digit_count-most a.repair small.repair-small,
      digit_count-most a.tables.c small.c-small,
      digit_count-most a.taken small.taken-small,
      digit_count-most a.delivered small.delivered-small,
      gives-short i (accepted-call i e),
    )

-- each frame of a hand-out passes 10 to 12
pub delivered-pass : (i : Input) → Accepted i → every (passes i.setup) (held_bytes i.setup.epsilon (tick i).delivery) ≡ true
delivered-pass i a =
    rw (delivered-bytes i a)
    (every_map (passes i.setup) encode (delivered_of i)
    ∙ every-of-mem (λ f. passes i.setup (encode f)) (delivered_of i) (λ f m. passes-encode i.setup f a.limits (delivered-frames i a f m)))
