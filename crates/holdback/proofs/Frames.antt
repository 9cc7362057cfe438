-- The frames of a queue by their index.
-- Assumes nothing.
use Rattle.std.proofs.Common.{◌≡◌, ℕ, zero, suc, ◌+◌, ◌-◌, ◌*◌, ◌<◌, ◌≤◌, Bool, true, false, List, [], ◌∷◌, ◌++◌, map, length, get_or, take, drop, sym, refl, ap, ◌∙◌, ap₂, inl, inr, append_assoc, append-nil, add-zero, suc-mul, zero-add, arith, length-drop, length-take, get_or-drop, get_or-take, take-take, drop-drop, take-add}
use lib.ListN.{get_or-eq_default}
use Rattle.laws.specs.Lists.{tab, leading, joined}
use Rattle.laws.proofs.Numbers.{lt-or-ge}
use Rattle.laws.proofs.Lists.{length-tab, get_or-tab, tab-ext, tab-suc, map-tab, take-tab, every-tab, leading_unique, joined-append}
use Rattle.model.specs.Setup.{width, longest_frame}
use Rattle.model.specs.Frame.{Frame, two_at, two_bytes, encode, counts_of, well_formed, payload_count_at, frame_end, decode}
use Rattle.model.specs.Holdback.{cut_frames, cut_by, held_bytes, held}
use Rattle.lemmas.proofs.RoundTrip.{formed-from}
use Rattle.lemmas.proofs.FrameWalk.{lent, lent_is}
use Rattle.holdback.specs.Queue.{frame_start, bytes_at, frame_at, counts_at}
use Rattle.holdback.proofs.RoundTrip.{Bytes, encode-decode, front-two}

pub start-zero : (epsilon : ℕ) (s : List ℕ) → frame_start epsilon s 0 ≡ 2
unfolding frame_start
start-zero epsilon s = refl

pub start-suc : (epsilon : ℕ) (s : List ℕ) (k : ℕ) → frame_start epsilon s (suc k) ≡ frame_start epsilon s k + frame_end epsilon (drop (frame_start epsilon s k) s)
unfolding frame_start
start-suc epsilon s k = refl

-- the frames from index j on
cut-tab : (epsilon : ℕ) (s : List ℕ) (k j : ℕ)
    → cut_frames epsilon k (drop (frame_start epsilon s j) s) ≡ tab k (λ i. bytes_at epsilon s (j + i))
unfolding cut_frames cut_by tab bytes_at
cut-tab epsilon s zero j = refl
cut-tab epsilon s (suc k) j =
    ap₂ ◌∷◌
    (ap (bytes_at epsilon s) (sym (add-zero j)))
    (ap (cut_frames epsilon k)
    (drop-drop (frame_end epsilon (drop (frame_start epsilon s j) s)) (frame_start epsilon s j) s
    ∙ ap (λ (n : ℕ). drop n s) (sym (start-suc epsilon s j)))
    ∙ cut-tab epsilon s k (suc j)
    ∙ tab-ext k (λ i. bytes_at epsilon s (suc j + i)) (λ i. bytes_at epsilon s (j + suc i))
    (λ i h. ap (bytes_at epsilon s) (omega arith)))

-- all frames
pub held_bytes-tab : (epsilon : ℕ) (s : List ℕ) → held_bytes epsilon s ≡ tab (two_at s 0) (bytes_at epsilon s)
unfolding held_bytes
held_bytes-tab epsilon s =
    ap (λ (n : ℕ). cut_frames epsilon (two_at s 0) (drop n s)) (sym (start-zero epsilon s))
    ∙ cut-tab epsilon s (two_at s 0) 0
    ∙ tab-ext (two_at s 0) (λ i. bytes_at epsilon s (0 + i)) (bytes_at epsilon s) (λ i h. ap (bytes_at epsilon s) (zero-add i))

pub held-tab : (epsilon : ℕ) (s : List ℕ) → held epsilon s ≡ tab (two_at s 0) (frame_at epsilon s)
unfolding held frame_at
held-tab epsilon s =
    ap (map (decode epsilon)) (held_bytes-tab epsilon s) ∙ map-tab (decode epsilon) (two_at s 0) (bytes_at epsilon s)

-- the first k frames have a property that frame k, if there is one, has not
pub leading-held : (p : Frame → Bool) (epsilon : ℕ) (s : List ℕ) (k : ℕ) → k ≤ two_at s 0 → ((i : ℕ) → i < k → p (frame_at epsilon s i) ≡ true) → (k < two_at s 0 → p (frame_at epsilon s k) ≡ false)
    → leading p (held epsilon s) ≡ k
leading-held p epsilon s k most ahead stops =
    let n : ℕ = two_at s 0 in
    let frame : ℕ → Frame = frame_at epsilon s in
    ap (leading p) (held-tab epsilon s)
    ∙ leading_unique p (tab n frame) k (frame 0) (rw (length-tab n frame) most)
    (rw (take-tab k n frame most) (every-tab p k frame ahead))
    (λ h. let l : k < n = rw (length-tab n frame) at h in ap p (get_or-tab n frame k (frame 0) l) ∙ stops l)

-- ---- where a frame ends

end-past : (epsilon : ℕ) (t : List ℕ) → payload_count_at epsilon < frame_end epsilon t
unfolding frame_end
end-past epsilon t = omega arith

-- a frame's own bytes end where it does
end_by_lem : (epsilon : ℕ) (a b : List ℕ) → get_or a (payload_count_at epsilon) 0 ≡ get_or b (payload_count_at epsilon) 0 → frame_end epsilon a ≡ frame_end epsilon b
unfolding frame_end
end_by_lem epsilon a b e = rw e

end-of-bytes : (epsilon : ℕ) (t : List ℕ) → frame_end epsilon (take (frame_end epsilon t) t) ≡ frame_end epsilon t
end-of-bytes epsilon t =
    end_by_lem epsilon (take (frame_end epsilon t) t) t (get_or-take (frame_end epsilon t) t (payload_count_at epsilon) 0 (end-past epsilon t))

-- well-formed bytes are as long as they say
formed-size : (epsilon : ℕ) (t : List ℕ) → well_formed epsilon t ≡ true → length t ≡ frame_end epsilon t
unfolding frame_end payload_count_at
formed-size epsilon t h = omega (arith, (formed-from epsilon t h).size)

-- and not longer than the longest
formed-longest : (epsilon : ℕ) (t : List ℕ) → well_formed epsilon t ≡ true → length t ≤ longest_frame epsilon
unfolding longest_frame
formed-longest epsilon t h = let o = formed-from epsilon t h in omega arith

-- their counts end within them
pub counts_end : (epsilon : ℕ) (t : List ℕ) → well_formed epsilon t ≡ true → payload_count_at epsilon ≤ length t
counts_end epsilon t h = omega (arith, formed-size epsilon t h, end-past epsilon t)

pub formed-inside : (epsilon : ℕ) (t : List ℕ) → well_formed epsilon (take (frame_end epsilon t) t) ≡ true → frame_end epsilon t ≤ length t
formed-inside epsilon t h =
    omega (arith, formed-size epsilon (take (frame_end epsilon t) t) h, end-of-bytes epsilon t, length-take (frame_end epsilon t) t)

-- a part of a front
inner-part : (k m n : ℕ) (l : List ℕ) → k + m ≤ n → take m (drop k (take n l)) ≡ take m (drop k l)
inner-part zero m n l h = take-take m n l (omega arith)
inner-part (suc k) m zero l h = absurd (omega arith)
inner-part (suc k) m (suc n) [] h = refl
inner-part (suc k) m (suc n) (x ∷ l) h = inner-part k m n l (omega arith)

-- frame k of s
module _ (epsilon : ℕ) (s : List ℕ) (k : ℕ) (ok : well_formed epsilon (bytes_at epsilon s k) ≡ true) where
  -- it ends within s
  pub start-inside : frame_start epsilon s (suc k) ≤ length s
  unfolding bytes_at
  start-inside =
      let rest : List ℕ = drop (frame_start epsilon s k) s in
      let i : frame_end epsilon rest ≤ length rest = formed-inside epsilon rest ok in
      let p : payload_count_at epsilon < frame_end epsilon rest = end-past epsilon rest in
      omega (arith, start-suc epsilon s k, length-drop (frame_start epsilon s k) s)

-- ---- the counts of a frame

-- those of a front that they end within
counts-front : (epsilon n : ℕ) (t : List ℕ) → payload_count_at epsilon ≤ n → counts_of epsilon (take n t) ≡ counts_of epsilon t
unfolding counts_of payload_count_at
counts-front epsilon n t h = inner-part _ (width epsilon) n t h

-- they are those of the decoded frame
pub counts-decoded : (epsilon : ℕ) (t : List ℕ) {kn : List ℕ} → kn ≡ counts_of epsilon t → kn ≡ (decode epsilon t).stamp.kn
unfolding decode
counts-decoded epsilon t e = e

-- those of frame k, from where it starts
pub counts-at : (epsilon : ℕ) (s : List ℕ) (k at : ℕ) → at ≡ frame_start epsilon s k → counts_at epsilon s at ≡ (frame_at epsilon s k).stamp.kn
unfolding frame_at bytes_at decode
counts-at epsilon s k at e =
    let rest : List ℕ = drop (frame_start epsilon s k) s in
    ap (counts_at epsilon s) e
    ∙ sym (counts-front epsilon (frame_end epsilon rest) rest (omega (arith, end-past epsilon rest)))

-- where there are 2ε of them, they end within the bytes
pub counts-inside : (epsilon : ℕ) (t : List ℕ) → 1 ≤ epsilon → 2 * epsilon ≤ length (counts_of epsilon t) → payload_count_at epsilon ≤ length t
unfolding counts_of payload_count_at width
counts-inside epsilon t h long = omega (arith, rw (length-take, length-drop) at long)

-- each of the first k frames is well-formed
abbrev pub FormedUpTo : ℕ → List ℕ → ℕ → Type 0
FormedUpTo epsilon s k = (i : ℕ) → i < k → well_formed epsilon (bytes_at epsilon s i) ≡ true

-- a frame is at most as long as the longest
start-longest : (epsilon : ℕ) (s : List ℕ) (k : ℕ) → well_formed epsilon (bytes_at epsilon s k) ≡ true
    → frame_start epsilon s (suc k) ≤ frame_start epsilon s k + longest_frame epsilon
unfolding bytes_at
start-longest epsilon s k ok =
    let rest : List ℕ = drop (frame_start epsilon s k) s in
    let own : List ℕ = take (frame_end epsilon rest) rest in
    omega (arith, start-suc epsilon s k, formed-size epsilon own ok, formed-longest epsilon own ok, end-of-bytes epsilon rest)

-- k frames are not longer than k of the longest
pub start-most : (epsilon : ℕ) (s : List ℕ) (k : ℕ) → FormedUpTo epsilon s k → frame_start epsilon s k ≤ 2 + k * longest_frame epsilon
start-most epsilon s zero ok = omega (arith, start-zero epsilon s)
start-most epsilon s (suc k) ok =
    let before-it = start-most epsilon s k (λ i l. ok i (omega arith)) in
    let this = start-longest epsilon s k (ok k (omega arith)) in
    omega (arith, suc-mul k (longest_frame epsilon))

pub bytes_drop : (n : ℕ) (s : List ℕ) → Bytes s → Bytes (drop n s)
bytes_drop n s b i = rw (get_or-drop n s i 0) (b (n + i))

pub bytes_take : (n : ℕ) (s : List ℕ) → Bytes s → Bytes (take n s)
bytes_take n s b i =
    elim (lt-or-ge i n) [
      | inl h ↦ rw (get_or-take n s i 0 h) (b i)
      | inr h ↦
          let k : length (take n s) ≤ i = omega (arith, length-take n s) in
          rw (get_or-eq_default (take n s) 0 {n = i} k) (omega arith)
    ]

-- the counts of a frame are bytes; they start where the payload's count would stand if there were none
pub counts-bytes : (epsilon : ℕ) (t : List ℕ) → Bytes t → Bytes (counts_of epsilon t)
unfolding counts_of payload_count_at width
counts-bytes epsilon t b = bytes_take (width epsilon) (drop (payload_count_at 0) t) (bytes_drop (payload_count_at 0) t b)

-- ---- the bytes up to frame k, as they are written

module _ (epsilon : ℕ) (s : List ℕ) (bytes : Bytes s) where
  encode-frame : (k : ℕ) → well_formed epsilon (bytes_at epsilon s k) ≡ true → encode (frame_at epsilon s k) ≡ bytes_at epsilon s k
  unfolding frame_at bytes_at
  encode-frame k ok =
      encode-decode epsilon (bytes_at epsilon s k)
      (bytes_take (frame_end epsilon (drop (frame_start epsilon s k) s)) (drop (frame_start epsilon s k) s) (bytes_drop (frame_start epsilon s k) s bytes)) ok

  joined_snoc : (k : ℕ) → joined encode (tab (suc k) (frame_at epsilon s)) ≡ joined encode (tab k (frame_at epsilon s)) ++ encode (frame_at epsilon s k)
  unfolding joined
  joined_snoc k =
      ap (joined encode) (tab-suc k (frame_at epsilon s))
      ∙ joined-append encode (tab k (frame_at epsilon s)) (frame_at epsilon s k ∷ [])
      ∙ ap (λ (l : List ℕ). joined encode (tab k (frame_at epsilon s)) ++ l) (append-nil (encode (frame_at epsilon s k)))

  pub take-start : (k : ℕ) → 2 ≤ length s → FormedUpTo epsilon s k
      → take (frame_start epsilon s k) s ≡ two_bytes (two_at s 0) ++ joined encode (tab k (frame_at epsilon s))
  unfolding frame_start joined tab bytes_at
  take-start zero h ok = front-two s bytes h ∙ sym (append-nil (two_bytes (two_at s 0)))
  take-start (suc k) h ok =
      let at : ℕ = frame_start epsilon s k in
      take-add at (frame_end epsilon (drop at s)) s
      ∙ ap₂ ◌++◌ (take-start k h (λ i l. ok i (omega arith))) (sym (encode-frame k (ok k (omega arith))))
      ∙ append_assoc (two_bytes (two_at s 0)) (joined encode (tab k (frame_at epsilon s))) (encode (frame_at epsilon s k))
      ∙ ap (λ (l : List ℕ). two_bytes (two_at s 0) ++ l) (sym (joined_snoc k))

pub start-within : (epsilon : ℕ) (s : List ℕ) (k : ℕ) → 2 ≤ length s → FormedUpTo epsilon s k → frame_start epsilon s k ≤ length s
start-within epsilon s zero h ok = rw (start-zero epsilon s) h
start-within epsilon s (suc k) h ok = start-inside epsilon s k (ok k (omega arith))

-- a frame's end is near its start, whatever its bytes are
pub end-small : (epsilon : ℕ) (t : List ℕ) → epsilon ≤ 16 → Bytes t → frame_end epsilon t < 512
unfolding frame_end payload_count_at width
end-small epsilon t h b = omega (arith, b (payload_count_at epsilon))

-- ---- where a frame stands, by the code's numbers

-- of what is lent from `at` on, the frame that ends at `next`
module _ (epsilon : ℕ) (b : List ℕ) (at next : ℕ) (e : next ≡ at + frame_end epsilon (drop at b)) where
  lent-end : frame_end epsilon (lent b at) ≡ next - at
  lent-end = let d : frame_end epsilon (drop at b) ≡ next - at = omega arith in ap (frame_end epsilon) (lent_is b at) ∙ d

  pub lent-ends : next ≤ length b → frame_end epsilon (lent b at) ≤ length (lent b at)
  lent-ends h = omega (arith, lent-end, ap length (lent_is b at), length-drop at b)

  pub lent-frame : take (frame_end epsilon (lent b at)) (lent b at) ≡ take (next - at) (drop at b)
  lent-frame = ap₂ take lent-end (lent_is b at)

-- where the frame at `at` ends
pub next_start : (epsilon : ℕ) (b : List ℕ) (k at size : ℕ) → at ≡ frame_start epsilon b k → size ≡ frame_end epsilon (lent b at)
    → at + size ≡ frame_start epsilon b (suc k)
next_start epsilon b k at size ea es =
    let e : size ≡ frame_end epsilon (drop at b) = es ∙ ap (frame_end epsilon) (lent_is b at) in
    ap₂ ◌+◌ ea (e ∙ ap (λ (n : ℕ). frame_end epsilon (drop n b)) ea) ∙ sym (start-suc epsilon b k)

-- its bytes
pub bytes-part : (epsilon : ℕ) (b : List ℕ) (k at next : ℕ) → at ≡ frame_start epsilon b k → next ≡ frame_start epsilon b (suc k)
    → take (next - at) (drop at b) ≡ bytes_at epsilon b k
unfolding bytes_at
bytes-part epsilon b k at next ea en =
    let size : next - at ≡ frame_end epsilon (drop (frame_start epsilon b k) b) = omega (arith, start-suc epsilon b k) in
    ap₂ (λ (n m : ℕ). take n (drop m b)) size ea
