-- What a frame behind the last does to the bytes of an engine's queue, and what emptying it does.
-- Assumes nothing.
use Prim.Native.Nat.{ℕ, ◌+◌, ◌-◌, ◌≤◌, ◌<◌}
use native.Mathlib.Omega.{arith}
use mathlib.Core.Path.{◌≡◌, refl, sym, ap, ap₂, subst, ◌∙◌}
use mathlib.Core.Bool.{true}
use mathlib.Core.Logic.{◌⊎◌, inl, inr}
use mathlib.Core.List.Memᴰ
use mathlib.Core.List.{List, [], ◌∷◌, ◌++◌, append_assoc, append-nil, Memᴰ}
use lib.ListN.{length, take, drop, replicate, length-append, length-drop}
use lib.Seq.{drop-drop, take_at}
use Rattle.laws.specs.Lists.{joined, overlay, padded}
use Rattle.laws.proofs.Lists.{joined-append, length-padded}
use Rattle.splice.specs.Bytes.{pasted}
use Rattle.splice.proofs.Laws.{pasted-pieces}
use Rattle.model.specs.Setup.{Setup}
use Rattle.model.specs.Frame.{Frame, two_bytes}
use Rattle.model.specs.Holdback.{encode_frames, encode_holdback}
use Rattle.model.specs.Long.{plainly, long_most, long_decode, long_encode, long_held, long_passes, long_encode_frames, long_encode_holdback, long_holdback_size}
use Rattle.lemmas.proofs.Bounds.{FrameOk}
use Rattle.lemmas.proofs.LongFrames.{long-fits, long-passes-formed, long-passes-decode, long-encode-decode}
use Rattle.holdback.proofs.RoundTrip.{Bytes}
use Rattle.longqueue.specs.Queue.{Extent}
use Rattle.longqueue.proofs.Extents.{bytes-test, encoded-length, size-two, extent-count, extent-frames, extent-split, made_held, made-extent}

two-long : (x y : ℕ) → length (two_bytes x) ≡ length (two_bytes y)
unfolding two_bytes
two-long x y = refl

module _ {s : Setup} {b : List ℕ} {count end : ℕ} (known : Extent s b count end) (pos : 1 ≤ s.epsilon) (frame : List ℕ) (clean : Bytes frame)
    (passed : long_passes s frame ≡ true) (room : count < long_most) where
  abbrev own : Frame
  own = long_decode s.epsilon frame

  abbrev old : List Frame
  old = long_held s.epsilon b

  abbrev new : List Frame
  new = old ++ (own ∷ [])

  own-bytes : long_encode own ≡ frame
  own-bytes = long-encode-decode s.epsilon frame (bytes-test frame clean) (long-passes-formed s frame passed)

  new_ok : (f : Frame) → Memᴰ f new → FrameOk (plainly s) f
  new_ok f m = go (Memᴰ.append_cases old m)
    where
      go : Memᴰ f old ⊎ Memᴰ f (own ∷ []) → FrameOk (plainly s) f
      go (inl h) = extent-frames known pos f h
      go (inr h) = rw (Memᴰ.eq_of_singleton h) (long-passes-decode s frame pos passed)

  new-count : length new ≡ count + 1
  new-count = length-append old (own ∷ []) ∙ ap (λ (n : ℕ). n + 1) (extent-count known)

  -- the frame's bytes behind the last, and the count one higher
  new-bytes : long_encode_frames new ≡ two_bytes (count + 1) ++ (joined long_encode old ++ frame)
  unfolding long_encode_frames joined
  new-bytes =
      ap₂ (λ (n : ℕ) (l : List ℕ). two_bytes n ++ l) new-count
      (joined-append long_encode old (own ∷ []) ∙ ap (λ (l : List ℕ). joined long_encode old ++ l) (append-nil (long_encode own) ∙ own-bytes))

  new-end : length (long_encode_frames new) ≡ end + length frame
  unfolding long_encode_frames joined
  new-end =
      encoded-length new
      ∙ omega (
        arith,
        ap length (joined-append long_encode old (own ∷ [])),
        length-append (joined long_encode old) (joined long_encode (own ∷ [])),
        ap length (append-nil (long_encode own)),
        ap length own-bytes,
        known.end_is,
        encoded-length old,
      )

  -- there is room
  pub append-room : end + length frame ≤ length b
  append-room = omega (arith, new-end, long-fits s new new_ok (omega (arith, new-count)), known.sized)

  module _ (a l : List ℕ) (put : a ≡ pasted b end frame) (counted : l ≡ pasted a 0 (two_bytes (count + 1))) where
    appended : l ≡ long_encode_frames new ++ drop (length frame) (drop end b)
    unfolding pasted long_encode_frames
    appended =
        let tail : List ℕ = drop (length frame) (drop end b) in
        let first : take end b ≡ long_encode_frames old =
        ap (take end) (extent-split known) ∙ take_at (long_encode_frames old) (drop end b) end (sym known.end_is) in
        let first-put : a ≡ two_bytes (length old) ++ (joined long_encode old ++ (frame ++ tail)) =
        put
        ∙ ap₂ (λ (x y : List ℕ). x ++ (frame ++ y)) first (sym (drop-drop (length frame) end b))
        ∙ append_assoc (two_bytes (length old)) (joined long_encode old) (frame ++ tail) in
        counted
        ∙ ap (λ (x : List ℕ). pasted x 0 (two_bytes (count + 1))) first-put
        ∙ pasted-pieces [] (two_bytes (length old)) (joined long_encode old ++ (frame ++ tail)) (two_bytes (count + 1)) 0 refl (two-long (count + 1) (length old))
        ∙ ap (λ (x : List ℕ). two_bytes (count + 1) ++ x) (sym (append_assoc (joined long_encode old) frame tail))
        ∙ sym (append_assoc (two_bytes (count + 1)) (joined long_encode old ++ frame) tail)
        ∙ ap (λ (x : List ℕ). x ++ tail) (sym new-bytes)

    pub append-bytes : l ≡ overlay (long_encode_frames new) b
    unfolding overlay
    append-bytes =
        appended
        ∙ ap (λ (x : List ℕ). long_encode_frames new ++ x) (drop-drop (length frame) end b ∙ ap (λ (n : ℕ). drop n b) (sym new-end))

    pub append-held : long_held s.epsilon l ≡ old ++ (own ∷ [])
    append-held = made_held s new (drop (length frame) (drop end b)) l appended new_ok

    pub append-extent : Extent s l (count + 1) (end + length frame)
    append-extent =
        let tail : List ℕ = drop (length frame) (drop end b) in
        let size : length l ≡ long_holdback_size s =
        omega (
          arith,
          ap length appended,
          length-append (long_encode_frames new) tail,
          new-end,
          length-drop (length frame) (drop end b),
          length-drop end b,
          append-room,
          known.sized,
        ) in
        rw (← new-count, ← new-end) (made-extent s new tail l appended new_ok size (omega (arith, new-count)))

-- ---- emptying

pub empty-extent : (s : Setup) (l : List ℕ) → l ≡ long_encode_holdback (long_holdback_size s) [] → Extent s l 0 2
unfolding long_encode_holdback padded joined
empty-extent s l e =
    let end : length (long_encode_frames []) ≡ 2 = omega (arith, encoded-length []) in
    let size : length l ≡ long_holdback_size s = ap length e ∙ length-padded (long_holdback_size s) (long_encode_frames []) (omega (arith, size-two s)) in
    subst (λ (n : ℕ). Extent s l 0 n) end
    (made-extent s [] (replicate (long_holdback_size s - length (long_encode_frames [])) 0) l e (λ f m. absurd (Memᴰ.not-nil m)) size (omega arith))

pub empty-held : (s : Setup) (l : List ℕ) → l ≡ long_encode_holdback (long_holdback_size s) [] → long_held s.epsilon l ≡ []
unfolding long_encode_holdback padded
empty-held s l e = made_held s [] (replicate (long_holdback_size s - length (long_encode_frames [])) 0) l e (λ f m. absurd (Memᴰ.not-nil m))

-- an empty queue is a station's empty one
pub empty-same : (n : ℕ) → encode_holdback n [] ≡ long_encode_holdback n []
unfolding encode_holdback long_encode_holdback encode_frames long_encode_frames joined
empty-same n = refl
