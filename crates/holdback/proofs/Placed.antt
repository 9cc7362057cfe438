-- Where the frames of a queue stand once one more is put in its place: those before it where they did, those behind it by its length further.
-- Assumes nothing.
use Rattle.std.proofs.Common.{◌≡◌, ℕ, zero, suc, ◌+◌, ◌<◌, ◌≤◌, true, List, [], ◌∷◌, ◌++◌, length, get_or, take, drop, sym, refl, ap, ◌∙◌, append_assoc, append-nil, not-suc-le-zero, arith, length-append, take-append-drop, take-suc, drop_at}
use mathlib.Core.List.{Memᴰ}
use lib.Seq.{take-length, split_at}
use Rattle.laws.specs.Lists.{joined, overlay, insert_at}
use Rattle.laws.proofs.Lists.{joined-append, joined-insert_at, length-insert_at, mem-get_or}
use Rattle.model.specs.Setup.{width}
use Rattle.model.specs.Frame.{Frame, two_bytes, two_at, encode, decode, well_formed, frame_end}
use Rattle.model.specs.Holdback.{held, encode_frames}
use Rattle.lemmas.proofs.RoundTrip.{frame-end, two-at-encode}
use Rattle.holdback.specs.Queue.{frame_start, end_of, frame_at, Spans}
use Rattle.holdback.proofs.RoundTrip.{Bytes, encode-decode}
use Rattle.holdback.proofs.Frames.{start-zero, start-suc}
use Rattle.holdback.proofs.Changes.{pieces, formed-frames, length-held}

-- frames as wide as the drift limit has them
abbrev pub Wide : ℕ → List Frame → Type 0
Wide epsilon queue = (f : Frame) → Memᴰ f queue → length f.stamp.kn ≡ width epsilon

-- ---- frames that are written

module _ (epsilon : ℕ) (queue : List Frame) (rest : List ℕ) (wide : Wide epsilon queue) where
  abbrev bytes : List ℕ
  bytes = encode_frames queue ++ rest

  written-end : (k : ℕ) → k < length queue → (d : Frame) → frame_start epsilon bytes k ≡ 2 + length (joined encode (take k queue))
      → frame_end epsilon (drop (frame_start epsilon bytes k) bytes) ≡ length (encode (get_or queue k d))
  unfolding encode_frames two_bytes joined
  written-end k h d e =
      let f : Frame = get_or queue k d in
      let x : List ℕ = joined encode (take k queue) in
      let y : List ℕ = joined encode (drop (suc k) queue) in
      let count : List ℕ = two_bytes (length queue) in
      let all : joined encode queue ≡ x ++ (encode f ++ y) =
      ap (joined encode) (split_at queue k d h) ∙ joined-append encode (take k queue) (f ∷ drop (suc k) queue) in
      let whole : bytes ≡ (count ++ x) ++ (encode f ++ (y ++ rest)) =
      ap (λ (l : List ℕ). (count ++ l) ++ rest) all
      ∙ append_assoc count (x ++ (encode f ++ y)) rest
      ∙ ap (λ (l : List ℕ). count ++ l) (append_assoc x (encode f ++ y) rest ∙ ap (λ (l : List ℕ). x ++ l) (append_assoc (encode f) y rest))
      ∙ sym (append_assoc count x (encode f ++ (y ++ rest))) in
      ap (λ (l : List ℕ). frame_end epsilon (drop (frame_start epsilon bytes k) l)) whole
      ∙ ap (frame_end epsilon) (drop_at (count ++ x) (encode f ++ (y ++ rest)) (frame_start epsilon bytes k) (length-append count x ∙ sym e))
      ∙ frame-end epsilon f (y ++ rest) (wide f (mem-get_or queue k d h))

  pub written_start : (k : ℕ) → k ≤ length queue → frame_start epsilon bytes k ≡ 2 + length (joined encode (take k queue))
  unfolding joined
  written_start zero h = start-zero epsilon bytes
  written_start (suc k) h =
      let d : Frame = frame_at epsilon bytes 0 in
      let f : Frame = get_or queue k d in
      let x : List ℕ = joined encode (take k queue) in
      let e : frame_start epsilon bytes k ≡ 2 + length x = written_start k (omega arith) in
      let more : length (joined encode (take (suc k) queue)) ≡ length x + length (encode f) =
      ap (λ (l : List Frame). length (joined encode l)) (take-suc queue k d h)
      ∙ ap length (joined-append encode (take k queue) (f ∷ []) ∙ ap (λ (l : List ℕ). x ++ l) (append-nil (encode f)))
      ∙ length-append x (encode f) in
      omega (arith, start-suc epsilon bytes k, written-end k h d e)

  -- all of them
  pub written-whole : frame_start epsilon bytes (length queue) ≡ length (encode_frames queue)
  unfolding encode_frames two_bytes
  written-whole =
      written_start (length queue) (omega arith) ∙ ap (λ (l : List Frame). 2 + length (joined encode l)) (take-length queue)
      ∙ (let e : 2 + length (joined encode queue) ≡ suc (suc (length (joined encode queue))) = omega arith in e)

-- ---- the first i of a list with one element more

module _ {A : Type 0} where
  take-insert-low : (p i : ℕ) (x : A) (l : List A) → i ≤ p → i ≤ length l → take i (insert_at p x l) ≡ take i l
  unfolding insert_at
  take-insert-low p zero x l h k = refl
  take-insert-low zero (suc i) x l h k = absurd (not-suc-le-zero h)
  take-insert-low (suc p) (suc i) x [] h k = absurd (not-suc-le-zero k)
  take-insert-low (suc p) (suc i) x (y ∷ l) h k = ap (λ (m : List A). y ∷ m) (take-insert-low p i x l (omega arith) (omega arith))

  take-insert-high : (p i : ℕ) (x : A) (l : List A) → p ≤ i → take (suc i) (insert_at p x l) ≡ insert_at p x (take i l)
  unfolding insert_at
  take-insert-high zero i x l h = refl
  take-insert-high (suc p) zero x l h = absurd (not-suc-le-zero h)
  take-insert-high (suc p) (suc i) x [] h = refl
  take-insert-high (suc p) (suc i) x (y ∷ l) h = ap (λ (m : List A). y ∷ m) (take-insert-high p i x l (omega arith))

pub length-joined-insert : (p : ℕ) (f : Frame) (l : List Frame) → length (joined encode (insert_at p f l)) ≡ length (joined encode l) + length (encode f)
length-joined-insert p f l =
    let x : List ℕ = joined encode (take p l) in
    let y : List ℕ = joined encode (drop p l) in
    let all : joined encode l ≡ x ++ y = ap (joined encode) (sym (take-append-drop p l)) ∙ joined-append encode (take p l) (drop p l) in
    ap length (joined-insert_at encode p f l)
    ∙ omega (arith, length-append x (encode f ++ y), length-append (encode f) y, ap length all, length-append x y)

-- ---- a queue with a frame put at its place

module _ {epsilon : ℕ} {s : List ℕ} {count stop index at : ℕ} (known : Spans epsilon s count stop index at) (clean : Bytes s)
    (frame : List ℕ) (frame-clean : Bytes frame) (well : well_formed epsilon frame ≡ true) where
  abbrev more : List Frame
  more = insert_at index (decode epsilon frame) (held epsilon s)

  module _ (wide : Wide epsilon more) (b : List ℕ) (placed : b ≡ overlay (encode_frames more) s) where
    start-old : (i : ℕ) → i ≤ count → frame_start epsilon s i ≡ 2 + length (joined encode (take i (held epsilon s)))
    start-old i h =
        (pieces epsilon s clean known.two (formed-frames epsilon s known.formed) i (omega (arith, known.count-is))).front

    start-new : (i : ℕ) → i ≤ count + 1 → frame_start epsilon b i ≡ 2 + length (joined encode (take i more))
    unfolding overlay
    start-new i h =
        ap (λ (l : List ℕ). frame_start epsilon l i) placed
        ∙ written_start epsilon more (drop (length (encode_frames more)) s) wide i
        (omega (arith, length-insert_at index (decode epsilon frame) (held epsilon s), length-held epsilon s, known.count-is))

    pub start-before : (i : ℕ) → i ≤ index → frame_start epsilon b i ≡ frame_start epsilon s i
    start-before i h =
        let few : i ≤ count = omega (arith, known.inside) in
        start-new i (omega arith)
        ∙ ap (λ (l : List Frame). 2 + length (joined encode l)) (take-insert-low index i (decode epsilon frame) (held epsilon s) h (omega (arith, length-held epsilon s, known.count-is)))
        ∙ sym (start-old i few)

    pub start-behind : (i : ℕ) → index ≤ i → i ≤ count → frame_start epsilon b (suc i) ≡ frame_start epsilon s i + length frame
    start-behind i h few =
        let f : Frame = decode epsilon frame in
        let some : List Frame = take i (held epsilon s) in
        let size : length (joined encode (take (suc i) more)) ≡ length (joined encode some) + length frame =
        ap (λ (l : List Frame). length (joined encode l)) (take-insert-high index i f (held epsilon s) h)
        ∙ length-joined-insert index f some
        ∙ ap (λ (l : List ℕ). length (joined encode some) + length l) (encode-decode epsilon frame frame-clean well) in
        omega (arith, start-new (suc i) (omega arith), start-old i few)

    count-behind : two_at b 0 ≡ suc count
    unfolding overlay
    count-behind =
        ap (λ (l : List ℕ). two_at l 0) placed
        ∙ two-at-encode more (drop (length (encode_frames more)) s)
        ∙ omega (arith, length-insert_at index (decode epsilon frame) (held epsilon s), length-held epsilon s, known.count-is)

    pub end-behind : end_of epsilon b ≡ stop + length frame
    end-behind =
        ap (frame_start epsilon b) count-behind
        ∙ start-behind count known.inside (omega arith)
        ∙ ap (λ (n : ℕ). n + length frame) (sym known.ends)
