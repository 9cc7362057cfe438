-- What placing a frame and cutting off a prefix do to the bytes of a queue.
-- Assumes nothing.
use Rattle.std.proofs.Common.{◌≡◌, ℕ, suc, ◌+◌, ◌-◌, ◌≤◌, true, List, [], ◌∷◌, ◌++◌, length, take, drop, sym, refl, ap, ◌∙◌, ap₂, append_assoc, append-nil, zero-add, arith, length-append, length-drop, take-append-drop, drop_of_length-le, length-take-le, drop-drop, take_at, drop_at}
use native.Mathlib.Nat.{sub-zero}
use lib.ListN.{length-replicate}
use Rattle.laws.specs.Lists.{tab, every, joined, overlay, padded, insert_at}
use Rattle.laws.proofs.Lists.{length-tab, take-tab, joined-append, joined-halves, joined-insert_at, length-insert_at}
use Rattle.splice.specs.Bytes.{pasted, part, cleared, inserted, zeros}
use Rattle.splice.proofs.Laws.{pasted-pieces, inserted-pieces, pasted-right, pasted-left}
use Rattle.model.specs.Frame.{Frame, two_bytes, two_at, encode, well_formed}
use Rattle.model.specs.Holdback.{held_bytes, held, frames_by, encode_frames, encode_holdback}
use Rattle.holdback.specs.Queue.{frame_start, bytes_at, frame_at, Spans, Written}
use Rattle.holdback.proofs.RoundTrip.{Bytes}
use Rattle.holdback.proofs.Frames.{held_bytes-tab, held-tab, FormedUpTo, take-start, start-within}
use Rattle.holdback.proofs.Judging.{every-tab-at}

pub formed-frames : (epsilon : ℕ) (s : List ℕ) → every (well_formed epsilon) (held_bytes epsilon s) ≡ true → FormedUpTo epsilon s (two_at s 0)
formed-frames epsilon s h = every-tab-at (well_formed epsilon) (two_at s 0) (bytes_at epsilon s) (rw (held_bytes-tab epsilon s) at h)

pub length-held : (epsilon : ℕ) (s : List ℕ) → length (held epsilon s) ≡ two_at s 0
length-held epsilon s = ap length (held-tab epsilon s) ∙ length-tab (two_at s 0) (frame_at epsilon s)

-- the bytes of a queue: the count, the first k frames, the others, and what stands behind them
pub record Pieces (epsilon : ℕ) (s : List ℕ) (k : ℕ) : Type 0 where
  pub split : s ≡ two_bytes (two_at s 0) ++ (joined encode (take k (held epsilon s)) ++ (joined encode (drop k (held epsilon s)) ++ drop (frame_start epsilon s (two_at s 0)) s))
  pub front : frame_start epsilon s k ≡ 2 + length (joined encode (take k (held epsilon s)))
  pub back : frame_start epsilon s (two_at s 0) ≡ frame_start epsilon s k + length (joined encode (drop k (held epsilon s)))
  pub ends : frame_start epsilon s (two_at s 0) ≤ length s

module _ (epsilon : ℕ) (s : List ℕ) (bytes : Bytes s) (two : 2 ≤ length s) where
  start-length : (k : ℕ) → FormedUpTo epsilon s k → frame_start epsilon s k ≡ 2 + length (joined encode (tab k (frame_at epsilon s)))
  unfolding two_bytes
  start-length k ok =
      sym (length-take-le (frame_start epsilon s k) s (start-within epsilon s k two ok))
      ∙ ap length (take-start epsilon s bytes k two ok)
      ∙ length-append (two_bytes (two_at s 0)) (joined encode (tab k (frame_at epsilon s)))

  pub pieces : FormedUpTo epsilon s (two_at s 0) → (k : ℕ) → k ≤ two_at s 0 → Pieces epsilon s k
  pieces ok k h =
      let n : ℕ = two_at s 0 in
      let q : List Frame = held epsilon s in
      let end : ℕ = frame_start epsilon s n in
      let x : List ℕ = joined encode (take k q) in
      let y : List ℕ = joined encode (drop k q) in
      let all : joined encode (tab n (frame_at epsilon s)) ≡ x ++ y =
      ap (joined encode) (sym (held-tab epsilon s)) ∙ joined-halves encode k q in
      let some : tab k (frame_at epsilon s) ≡ take k q =
      sym (take-tab k n (frame_at epsilon s) h) ∙ ap (take k) (sym (held-tab epsilon s)) in
      let f : frame_start epsilon s k ≡ 2 + length x =
      start-length k (λ i l. ok i (omega arith)) ∙ ap (λ (l : List Frame). 2 + length (joined encode l)) some in
      let e : end ≡ 2 + length (x ++ y) = start-length n ok ∙ ap (λ (l : List ℕ). 2 + length l) all in
      record {
        split =
            sym (take-append-drop end s)
            ∙ ap (λ (l : List ℕ). l ++ drop end s) (take-start epsilon s bytes n two ok ∙ ap (λ (l : List ℕ). two_bytes n ++ l) all)
            ∙ append_assoc (two_bytes n) (x ++ y) (drop end s)
            ∙ ap (λ (l : List ℕ). two_bytes n ++ l) (append_assoc x y (drop end s));
        front = f;
        back = omega (arith, length-append x y);
        ends = start-within epsilon s n two ok;
      }

two-long : (x : ℕ) → ◌≡◌ {A = ℕ} 2 (0 + length (two_bytes x))
unfolding two_bytes
two-long x = refl

pasted-front : (d s : List ℕ) → pasted d 0 s ≡ s ++ drop (length s) d
unfolding pasted
pasted-front d s = rw (zero-add (length s))

-- ---- placing

-- src put in between x and y, and the count written anew
put-pieces : (c d x y rest src : List ℕ) (at end : ℕ) → length c ≡ length d → at ≡ length c + length x → end ≡ at + length y
    → pasted (inserted (c ++ (x ++ (y ++ rest))) end at src) 0 d ≡ d ++ (x ++ (src ++ (y ++ drop (length src) rest)))
put-pieces c d x y rest src at end same a e =
    ap (λ (l : List ℕ). pasted l 0 d)
    (ap (λ (l : List ℕ). inserted l end at src) (sym (append_assoc c x (y ++ rest)))
    ∙ inserted-pieces (c ++ x) y rest src end at (omega (arith, length-append c x)) e
    ∙ append_assoc c x (src ++ (y ++ drop (length src) rest)))
    ∙ pasted-pieces [] c (x ++ (src ++ (y ++ drop (length src) rest))) d 0 refl (sym same)

-- a frame put in before frame k of a queue, however its frames are written
pub put-frames :
    (bytes : Frame → List ℕ) (queue : List Frame) (k : ℕ) (f : Frame) (s rest : List ℕ) (at end : ℕ) → s ≡ frames_by bytes queue ++ rest
    → at ≡ 2 + length (joined bytes (take k queue)) → end ≡ at + length (joined bytes (drop k queue))
    → pasted (inserted s end at (bytes f)) 0 (two_bytes (length queue + 1)) ≡ overlay (frames_by bytes (insert_at k f queue)) s
unfolding overlay two_bytes
put-frames bytes queue k f s rest at end is front back =
    let n : ℕ = length queue in
    let x : List ℕ = joined bytes (take k queue) in
    let y : List ℕ = joined bytes (drop k queue) in
    let src : List ℕ = bytes f in
    let whole : s ≡ two_bytes n ++ (x ++ (y ++ rest)) =
    is
    ∙ ap (λ (r : List ℕ). (two_bytes n ++ r) ++ rest) (joined-halves bytes k queue)
    ∙ append_assoc (two_bytes n) (x ++ y) rest
    ∙ ap (λ (r : List ℕ). two_bytes n ++ r) (append_assoc x y rest) in
    let behind : drop end s ≡ rest =
    ap (drop end) (is ∙ ap (λ (r : List ℕ). (two_bytes n ++ r) ++ rest) (joined-halves bytes k queue))
    ∙ drop_at (two_bytes n ++ (x ++ y)) rest end (omega (arith, length-append x y)) in
    let new : frames_by bytes (insert_at k f queue) ≡ two_bytes (n + 1) ++ (x ++ (src ++ y)) =
    ap₂ (λ (m : ℕ) (r : List ℕ). two_bytes m ++ r) (length-insert_at k f queue ∙ omega arith) (joined-insert_at bytes k f queue) in
    let size : length (frames_by bytes (insert_at k f queue)) ≡ end + length src =
    ap length new ∙ omega (arith, length-append x (src ++ y), length-append src y) in
    ap (λ (r : List ℕ). pasted (inserted r end at src) 0 (two_bytes (n + 1))) whole
    ∙ put-pieces (two_bytes n) (two_bytes (n + 1)) x y rest src at end refl front back
    ∙ sym
    (ap₂ ◌++◌ new (ap (λ (m : ℕ). drop m s) size ∙ sym (drop-drop (length src) end s) ∙ ap (drop (length src)) behind)
    ∙ append_assoc (two_bytes (n + 1)) (x ++ (src ++ y)) (drop (length src) rest)
    ∙ ap (λ (r : List ℕ). two_bytes (n + 1) ++ r)
    (append_assoc x (src ++ y) (drop (length src) rest) ∙ ap (λ (r : List ℕ). x ++ r) (append_assoc src y (drop (length src) rest))))

module _ (epsilon : ℕ) (s : List ℕ) (k : ℕ) (p : Pieces epsilon s k) where
  abbrev q : List Frame
  q = held epsilon s

  abbrev first : List ℕ
  first = joined encode (take k q)

  abbrev others : List ℕ
  others = joined encode (drop k q)

  abbrev end : ℕ
  end = frame_start epsilon s (two_at s 0)

  -- a queue is its frames written, and what stands behind them
  whole : s ≡ encode_frames q ++ drop end s
  unfolding encode_frames
  whole =
      p.split
      ∙ sym
      (ap₂ (λ (n : ℕ) (r : List ℕ). (two_bytes n ++ r) ++ drop end s) (length-held epsilon s) (joined-halves encode k q)
      ∙ append_assoc (two_bytes (two_at s 0)) (first ++ others) (drop end s)
      ∙ ap (λ (r : List ℕ). two_bytes (two_at s 0) ++ r) (append_assoc first others (drop end s)))

  -- so it stays as it is where they are written over it
  pub written_over : s ≡ overlay (encode_frames q) s
  unfolding overlay encode_frames two_bytes
  written_over =
      let e : end ≡ suc (suc (length (joined encode q))) =
      omega (arith, p.front, p.back, ap length (joined-halves encode k q), length-append first others) in
      whole ∙ ap (λ (n : ℕ). encode_frames q ++ drop n s) e

-- ---- clearing what stands behind

behind-cleared : (new old : List ℕ) (at : ℕ) → length new ≡ at → at ≤ length old → cleared (overlay new old) at (length old) ≡ padded (length old) new
unfolding overlay padded
behind-cleared new old at e h =
    let free : List ℕ = zeros (length old - at) in
    let rest : List ℕ = drop (length new) old in
    let size : length free ≡ length rest = omega (arith, length-replicate {A = ℕ} (length old - at) 0, length-drop (length new) old) in
    ap (λ (r : List ℕ). pasted (new ++ r) at free) (sym (append-nil rest))
    ∙ pasted-pieces new rest [] free at e size
    ∙ ap (λ (r : List ℕ). new ++ r) (append-nil free)
    ∙ ap (λ (n : ℕ). new ++ zeros (length old - n)) (sym e)

-- ---- emptying

zeros-from : (n : ℕ) → 2 ≤ n → zeros n ≡ 0 ∷ 0 ∷ zeros (n - 2)
zeros-from n h = let e : n ≡ suc (suc (n - 2)) = omega arith in ap zeros e

pub all-cleared : (s : List ℕ) → cleared s 0 (length s) ≡ zeros (length s)
all-cleared s =
    let long : length s ≤ length (zeros (length s - 0)) = omega (arith, length-replicate {A = ℕ} (length s - 0) 0) in
    pasted-front s (zeros (length s - 0))
    ∙ ap₂ ◌++◌ (ap zeros (sub-zero (length s))) (drop_of_length-le s long)
    ∙ append-nil (zeros (length s))

pub cleared-empty : (s : List ℕ) → 2 ≤ length s → cleared s 0 (length s) ≡ encode_holdback (length s) []
unfolding encode_holdback encode_frames padded two_bytes joined
cleared-empty s h = all-cleared s ∙ zeros-from (length s) h

-- the frames of a buffer behind its count, and where they end
frames-behind : {queue : List Frame} {d : List ℕ} {count stop index at : ℕ} → Written queue d count stop index at → drop 2 d ≡ joined encode queue ++ drop stop d
unfolding overlay encode_frames two_bytes
frames-behind {queue} {d} w =
    ap (drop 2) w.front ∙ ap (λ (n : ℕ). joined encode queue ++ drop n d) (sym w.ends)

-- ---- frames that are written at the front of a buffer

module _ {queue : List Frame} {s : List ℕ} {count stop index at : ℕ} (w : Written queue s count stop index at) where
  abbrev leading-bytes : List ℕ
  leading-bytes = joined encode (take index queue)

  abbrev other-bytes : List ℕ
  other-bytes = joined encode (drop index queue)

  at-is : at ≡ 2 + length leading-bytes
  unfolding encode_frames two_bytes
  at-is = omega (arith, w.starts)

  stop_is : stop ≡ at + length other-bytes
  unfolding encode_frames two_bytes
  stop_is =
      omega (arith, w.ends, at-is, ap length (joined-halves encode index queue), length-append leading-bytes other-bytes)

  all_there : s ≡ encode_frames queue ++ drop stop s
  unfolding overlay
  all_there = w.front ∙ ap (λ (n : ℕ). encode_frames queue ++ drop n s) (sym w.ends)

  pub written_in : (2 ≤ at) × ((at ≤ stop) × (stop ≤ length s))
  written_in =
      (omega (arith, at-is), (omega (arith, stop_is), omega (arith, ap length all_there, length-append (encode_frames queue) (drop stop s), w.ends)))

  all_split : s ≡ two_bytes (length queue) ++ (leading-bytes ++ (other-bytes ++ drop stop s))
  unfolding encode_frames
  all_split =
      all_there
      ∙ ap (λ (r : List ℕ). (two_bytes (length queue) ++ r) ++ drop stop s) (joined-halves encode index queue)
      ∙ append_assoc (two_bytes (length queue)) (leading-bytes ++ other-bytes) (drop stop s)
      ∙ ap (λ (r : List ℕ). two_bytes (length queue) ++ r) (append_assoc leading-bytes other-bytes (drop stop s))

  -- a frame more
  pub frame-put : (f : Frame) (frame a l : List ℕ) → encode f ≡ frame → a ≡ inserted s stop at frame → l ≡ pasted a 0 (two_bytes (count + 1))
      → l ≡ overlay (encode_frames (insert_at index f queue)) s
  unfolding encode_frames
  frame-put f frame a l e moved count-is =
      count-is
      ∙ ap₂ (λ (r : List ℕ) (n : ℕ). pasted r 0 (two_bytes (n + 1))) (moved ∙ ap (inserted s stop at) (sym e)) w.count-is
      ∙ put-frames encode queue index f s (drop stop s) at stop all_there at-is stop_is

  -- the bytes of the first ones, and of the others
  first_part : take (at - 2) (drop 2 s) ≡ leading-bytes
  unfolding two_bytes
  first_part =
      ap (λ (l : List ℕ). take (at - 2) (drop 2 l)) all_split ∙ take_at leading-bytes (other-bytes ++ drop stop s) (at - 2) (omega (arith, at-is))

  other-part : take (stop - at) (drop at s) ≡ other-bytes
  unfolding two_bytes
  other-part =
      ap (λ (l : List ℕ). take (stop - at) (drop at l)) (all_split ∙ sym (append_assoc (two_bytes (length queue)) leading-bytes (other-bytes ++ drop stop s)))
      ∙ ap (take (stop - at)) (drop_at (two_bytes (length queue) ++ leading-bytes) (other-bytes ++ drop stop s) at (omega (arith, at-is)))
      ∙ take_at other-bytes (drop stop s) (stop - at) (omega (arith, stop_is))

  -- the first ones written to the delivery, behind the frames that it has
  pub frames-appended : {given : List Frame} {before stop' : ℕ} (d a l : List ℕ) → Written given d before stop' before stop'
      → a ≡ pasted d 0 (two_bytes (before + index)) → l ≡ pasted a stop' (take (at - 2) (drop 2 s))
      → l ≡ overlay (encode_frames (given ++ take index queue)) d
  unfolding overlay encode_frames
  frames-appended {given} {before} {stop'} d a l g count-is copied =
      let c : List ℕ = two_bytes (before + index) in
      let old : List ℕ = joined encode given in
      let two : length c ≡ 2 = omega (arith, two-long (before + index)) in
      let ends : stop' ≡ length (c ++ old) = omega (arith, g.ends, two-long (length given), length-append (two_bytes (length given)) old, length-append c old, two-long (before + index)) in
      let behind : drop 2 d ≡ old ++ drop stop' d = frames-behind g in
      let more : pasted d 0 c ≡ pasted d 0 (c ++ old) =
      pasted-front d c
      ∙ ap (λ (r : List ℕ). c ++ r) (ap (λ (m : ℕ). drop m d) two ∙ behind)
      ∙ sym (append_assoc c old (drop stop' d))
      ∙ ap (λ (m : ℕ). (c ++ old) ++ drop m d) ends
      ∙ sym (pasted-front d (c ++ old)) in
      let count-all : length (given ++ take index queue) ≡ before + index =
      length-append given (take index queue) ∙ ap₂ ◌+◌ (sym g.count-is) (length-take-le index queue (omega (arith, w.inside, w.count-is))) in
      let all : (c ++ old) ++ leading-bytes ≡ encode_frames (given ++ take index queue) =
      append_assoc c old leading-bytes ∙ sym (ap₂ (λ (m : ℕ) (r : List ℕ). two_bytes m ++ r) count-all (joined-append encode given (take index queue))) in
      copied
      ∙ ap₂ (λ (x y : List ℕ). pasted x stop' y) (count-is ∙ more) first_part
      ∙ pasted-right d 0 (c ++ old) stop' (ends ∙ sym (zero-add (length (c ++ old)))) leading-bytes (omega arith)
      ∙ pasted-front d ((c ++ old) ++ leading-bytes)
      ∙ ap (λ (r : List ℕ). r ++ drop (length r) d) all

  -- the others moved to the front
  pub frames-dropped : (a l : List ℕ) → a ≡ pasted s 2 (part s at (stop - at)) → l ≡ pasted a 0 (two_bytes (count - index))
      → l ≡ overlay (encode_frames (drop index queue)) s
  unfolding overlay encode_frames
  frames-dropped a l moved count-is =
      let left : length (drop index queue) ≡ count - index = length-drop index queue ∙ ap (λ (n : ℕ). n - index) (sym w.count-is) in
      let c : List ℕ = two_bytes (count - index) in
      count-is
      ∙ ap (λ (r : List ℕ). pasted r 0 c) (moved ∙ ap (pasted s 2) other-part)
      ∙ pasted-left s 0 c 2 (two-long (count - index)) other-bytes (omega (arith, written_in))
      ∙ pasted-front s (c ++ other-bytes)
      ∙ sym (ap (λ (n : ℕ). overlay (two_bytes n ++ other-bytes) s) left)

  -- where they then end
  left_end : length (encode_frames (drop index queue)) ≡ stop - (at - 2)
  unfolding encode_frames two_bytes
  left_end = omega (arith, at-is, stop_is)

  -- and zeros behind them
  pub frames-cut : (a l : List ℕ) → a ≡ overlay (encode_frames (drop index queue)) s → l ≡ cleared a (stop - (at - 2)) (length s)
      → l ≡ encode_holdback (length s) (drop index queue)
  unfolding encode_holdback
  frames-cut a l cut_out emptied =
      emptied
      ∙ ap (λ (r : List ℕ). cleared r (stop - (at - 2)) (length s)) cut_out
      ∙ behind-cleared (encode_frames (drop index queue)) s (stop - (at - 2)) left_end (omega (arith, written_in))

-- ---- a queue whose frames are well-formed is one

module _ {epsilon : ℕ} {s : List ℕ} {count stop index at : ℕ} (known : Spans epsilon s count stop index at) (bytes : Bytes s) where
  spans-pieces : Pieces epsilon s index
  spans-pieces =
      pieces epsilon s bytes known.two (formed-frames epsilon s known.formed) index (omega (arith, known.count-is, known.inside))

  starts-at : frame_start epsilon s index ≡ length (encode_frames (take index (held epsilon s)))
  unfolding encode_frames two_bytes
  starts-at = omega (arith, spans-pieces.front)

  ends_at : stop ≡ length (encode_frames (held epsilon s))
  unfolding encode_frames two_bytes
  ends_at =
      omega (
        arith,
        known.ends ∙ ap (frame_start epsilon s) known.count-is,
        spans-pieces.front,
        spans-pieces.back,
        ap length (joined-halves encode index (held epsilon s)),
        length-append (joined encode (take index (held epsilon s))) (joined encode (drop index (held epsilon s))),
      )

  pub spans-written : Written (held epsilon s) s count stop index at
  spans-written =
      record {
        front = written_over epsilon s index spans-pieces;
        count-is = known.count-is ∙ sym (length-held epsilon s);
        ends = ends_at;
        inside = known.inside;
        starts = known.starts ∙ starts-at;
      }

  pub located : (2 ≤ at) × ((at ≤ stop) × (stop ≤ length s))
  located = written_in spans-written
