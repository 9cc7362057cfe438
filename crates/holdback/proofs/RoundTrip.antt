-- What is written reads back the same, and what passes 10 to 12 is written back as it was, in the terms of this crate; the proofs are those of `lemmas`.
-- Assumes nothing.
use Rattle.std.proofs.Common.{◌≡◌, ℕ, ◌+◌, ◌-◌, ◌*◌, ◌/◌, ◌%◌, ◌<◌, ◌≤◌, Bool, true, ◌&&◌, ltb, leb, List, [], ◌∷◌, length, get_or, take, sym, arith, ltb-true, lt-ltb, eqb-true, leb-true}
use Rattle.laws.specs.Lists.{tab, placed_at}
use Rattle.laws.proofs.Numbers.{and_left, and_right}
use Rattle.laws.proofs.Lists.{tab-take, every-of-index}
use Rattle.model.specs.Setup.{Setup}
use Rattle.model.specs.Timestamp.{at_most, sound_timestamp}
use Rattle.model.specs.Frame.{two_bytes, two_at, encode, decode, well_formed}
use Rattle.model.specs.Question.{first_no, ask_form, ask_range, ask_stamp, frame_questions}
use Rattle.model.specs.Holdback.{passes}
use Rattle.lemmas.proofs.Questions.{first-yes, other-yes}
use Rattle.lemmas.proofs.Counts.{at-most-from}
use Rattle.lemmas.proofs.RoundTrip as trips

-- a list of bytes
abbrev pub Bytes : List ℕ → Type 0
Bytes s = (i : ℕ) → get_or s i 0 < 256

-- a well-formed frame is the one that the writer makes of its contents
pub encode-decode : (epsilon : ℕ) (s : List ℕ) → Bytes s → well_formed epsilon s ≡ true → encode (decode epsilon s) ≡ s
encode-decode epsilon s bytes h =
    trips.encode-decode epsilon s (every-of-index (λ b. ltb b 256) s 0 (λ i below. lt-ltb (get_or s i 0) 256 (bytes i))) h

-- the two-byte count at the front
pub front-two : (s : List ℕ) → Bytes s → 2 ≤ length s → take 2 s ≡ two_bytes (two_at s 0)
unfolding two_bytes two_at tab
front-two s bytes h =
    let low : get_or s 0 0 < 256 = bytes 0 in
    let r0 : (get_or s 0 0 + 256 * get_or s (0 + 1) 0) % 256 ≡ get_or s 0 0 = omega arith in
    let r1 : (get_or s 0 0 + 256 * get_or s (0 + 1) 0) / 256 ≡ get_or s (0 + 1) 0 = omega arith in
    rw (r0, r1) (sym (tab-take 2 s 0 h))

-- what 10 to 12 say of a frame
pub record Passing (s : Setup) (bytes : List ℕ) : Type 0 where
  pub well : well_formed s.epsilon bytes ≡ true
  pub station-below : (decode s.epsilon bytes).station < s.n
  pub r-below : (decode s.epsilon bytes).stamp.r < s.modulus
  pub close : (decode s.epsilon bytes).stamp.c ≤ s.epsilon - 1
  pub counts : (i : ℕ) → placed_at 0 (decode s.epsilon bytes).stamp.kn i ≤ s.n

pub passing : (s : Setup) (bytes : List ℕ) → passes s bytes ≡ true → Passing s bytes
unfolding passes frame_questions ask_form ask_range ask_stamp sound_timestamp
passing s bytes h =
    let f = decode s.epsilon bytes in
    let e : first_no (frame_questions s bytes) ≡ 0 = eqb-true (first_no (frame_questions s bytes)) 0 h in
    let range : Bool = ltb f.station s.n && ltb f.stamp.r s.modulus in
    let e₁ = other-yes (well_formed s.epsilon bytes) 9 (ask_range s f ∷ ask_stamp s f ∷ []) e in
    let e₂ = other-yes range 10 (ask_stamp s f ∷ []) e₁ in
    let q11 = first-yes range 10 (ask_stamp s f ∷ []) e₁ in
    let q12 = first-yes (sound_timestamp s.n s.epsilon f.stamp) 11 [] e₂ in
    record {
      well = first-yes (well_formed s.epsilon bytes) 9 (ask_range s f ∷ ask_stamp s f ∷ []) e;
      station-below = ltb-true f.station s.n (and_left (ltb f.station s.n) (ltb f.stamp.r s.modulus) q11);
      r-below = ltb-true f.stamp.r s.modulus (and_right (ltb f.station s.n) (ltb f.stamp.r s.modulus) q11);
      close = leb-true f.stamp.c (s.epsilon - 1) (and_left (leb f.stamp.c (s.epsilon - 1)) _ q12);
      counts = at-most-from s.n f.stamp.kn (and_left (at_most s.n f.stamp.kn) _ (and_right (leb f.stamp.c (s.epsilon - 1)) _ q12));
    }
