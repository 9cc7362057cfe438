-- The laws of laying a frame down in a buffer: each section is pasted where the one before it ends. Assumes nothing.
use mathlib.Core.Path.{◌≡◌, refl, sym, ap, ◌∙◌, ap₂}
use mathlib.Core.List.{List, [], ◌∷◌, ◌++◌, append_assoc, append-nil}
use Prim.Native.Nat.{ℕ, suc, ◌+◌, ◌-◌, ◌*◌, ◌≤◌}
use native.Mathlib.Nat.{zero-add}
use native.Mathlib.Omega.{arith}
use lib.ListN.{length, take, drop, get_or, set, length-append, length-drop, drop_of_length-le}
use lib.Seq.{length-take-le, take_all, take-add, drop-drop}
use borrow.Rule.Slice.PartMut.{put_mid, mid_of}
use Rattle.laws.specs.Lists.{overlay, tab}
use Rattle.laws.proofs.Lists.{length-tab, tab-take, take-overlay}
use Rattle.model.specs.Setup.{width}
use Rattle.model.specs.Timestamp.{Timestamp, trimmed}
use Rattle.model.specs.Frame.{section, two_bytes, later_sections, encode}
use Rattle.model.specs.Codec.{frame_of}
use Rattle.lemmas.proofs.RoundTrip.{length-encode}
use Rattle.splice.specs.Bytes.{pasted}
use Rattle.splice.proofs.Laws.{pasted-right, set-pasted, length-pasted, two-stored}

-- at the front of a buffer
pub front : (s l : List ℕ) → pasted l 0 s ≡ overlay s l
unfolding pasted overlay
front s l = rw (zero-add (length s))

-- a count and one byte, then bytes
pub two_then : (l : List ℕ) (at a b : ℕ) (s : List ℕ) → at + 2 ≤ length l
    → pasted (set (set l at a) (at + 1) b) (at + 2) s ≡ pasted l at (a ∷ b ∷ s)
two_then l at a b s h =
    ap (λ (k : List ℕ). pasted k (at + 2) s) (two-stored l at a b h) ∙ pasted-right l at (a ∷ b ∷ []) (at + 2) refl s (omega arith)

pub node-laid : (l : List ℕ) (station r : ℕ) → 4 ≤ length l
    → pasted (set (set l 0 3) 1 station) 2 (two_bytes r) ≡ overlay (section (station ∷ two_bytes r)) l
unfolding section two_bytes
node-laid l station r h = two_then l 0 3 station (two_bytes r) (omega arith) ∙ front (3 ∷ station ∷ two_bytes r) l

pub stamp-laid : (l : List ℕ) (epsilon : ℕ) (t : Timestamp) → 6 ≤ length l → 2 * epsilon ≤ length t.kn
    → pasted (set (set l 4 (1 + 2 * epsilon)) 5 t.c) 6 (take (2 * epsilon) t.kn) ≡ pasted l 4 (section (t.c ∷ (trimmed epsilon t).kn))
unfolding section trimmed width
stamp-laid l epsilon t h w =
    let k : (trimmed epsilon t).kn ≡ take (2 * epsilon) t.kn = tab-take (2 * epsilon) t.kn 0 w in
    let n : suc (length (take (2 * epsilon) t.kn)) ≡ 1 + 2 * epsilon = omega (arith, length-take-le (2 * epsilon) t.kn w) in
    two_then l 4 (1 + 2 * epsilon) t.c (take (2 * epsilon) t.kn) (omega arith) ∙ rw (k, n)

-- a count, then bytes
pub payload-laid : (l s : List ℕ) → 1 ≤ length l → pasted (set l 0 (length s)) 1 s ≡ overlay (section s) l
unfolding section
payload-laid l s h =
    ap (λ (k : List ℕ). pasted k 1 s) (set-pasted l 0 (length s) h)
    ∙ pasted-right l 0 (length s ∷ []) 1 refl s (omega arith)
    ∙ front (length s ∷ s) l

-- what is lent on from an index, and comes back with bytes pasted into it
pub lent_laid : (l : List ℕ) (at k : ℕ) (s ys : List ℕ) → at ≤ length l → ys ≡ pasted (mid_of at (length l - at) l) k s
    → put_mid at (length l - at) l ys ≡ pasted l (at + k) s
unfolding pasted
lent_laid l at k s ys h e =
    let m : mid_of at (length l - at) l ≡ drop at l = take_all (length l - at) (drop at l) (simp length-drop (omega arith)) in
    let z : drop (length l - at) (drop at l) ≡ [] = drop_of_length-le (drop at l) {i = length l - at} (simp length-drop (omega arith)) in
    let n : at + (k + length s) ≡ at + k + length s = omega arith in
    rw (e, m, z, drop-drop (k + length s) at l, n, append-nil, take-add at k l) (sym (append_assoc (take at l) (take k (drop at l)) (s ++ drop (at + k + length s) l)))

-- a part behind the start, and one at the front of what is lent on from its end
pub two-laid : (l s p l2 ys : List ℕ) (i at : ℕ) → at ≡ i + length s → at ≤ length l
    → l2 ≡ pasted l i s → ys ≡ overlay p (mid_of at (length l2 - at) l2)
    → put_mid at (length l2 - at) l2 ys ≡ pasted l i (s ++ p)
two-laid l s p l2 ys i at b h e2 e3 =
    let same : length l2 ≡ length l = ap length e2 ∙ length-pasted l i s (omega arith) in
    let last : at + 0 ≡ at = omega arith in
    lent_laid l2 at 0 p ys (omega arith) (e3 ∙ sym (front p (mid_of at (length l2 - at) l2)))
    ∙ ap₂ (λ (k : List ℕ) (j : ℕ). pasted k j p) e2 last
    ∙ pasted-right l i s at b p (omega arith)

-- a part at the front, and one behind it
pub behind-laid : (l n s l1 l2 : List ℕ) (i : ℕ) → i ≡ length n → l1 ≡ overlay n l → l2 ≡ pasted l1 i s → l2 ≡ overlay (n ++ s) l
behind-laid l n s l1 l2 i a e1 e2 =
    e2 ∙ ap (λ (k : List ℕ). pasted k i s) (e1 ∙ sym (front n l)) ∙ pasted-right l 0 n i (omega arith) s (omega arith) ∙ front (n ++ s) l

-- the three sections
pub length-frame : (epsilon station : ℕ) (t : Timestamp) (payload : List ℕ)
    → length (encode (frame_of epsilon station t payload)) ≡ 7 + 2 * epsilon + length payload
unfolding frame_of trimmed width
length-frame epsilon station t payload =
    length-encode (frame_of epsilon station t payload) ∙ rw (length-tab (2 * epsilon) (λ i. get_or t.kn i 0))

pub later-laid : (l : List ℕ) (epsilon : ℕ) (t : Timestamp) (payload l2 ys : List ℕ) → 6 + 2 * epsilon ≤ length l
    → l2 ≡ pasted l 4 (section (t.c ∷ (trimmed epsilon t).kn))
    → ys ≡ overlay (section payload) (mid_of (6 + 2 * epsilon) (length l2 - (6 + 2 * epsilon)) l2)
    → put_mid (6 + 2 * epsilon) (length l2 - (6 + 2 * epsilon)) l2 ys ≡ pasted l 4 (later_sections (frame_of epsilon 0 t payload))
unfolding frame_of trimmed section width
later-laid l epsilon t payload l2 ys h e2 e3 =
    two-laid l (section (t.c ∷ (trimmed epsilon t).kn)) (section payload) l2 ys 4 (6 + 2 * epsilon)
    (omega (arith, length-tab (2 * epsilon) (λ i. get_or t.kn i 0))) h e2 e3

pub length-later : (epsilon station : ℕ) (t : Timestamp) (payload : List ℕ)
    → 4 + length (later_sections (frame_of epsilon station t payload)) ≡ 7 + 2 * epsilon + length payload
unfolding frame_of trimmed section width
length-later epsilon station t payload =
    omega (arith, length-append (tab (2 * epsilon) (λ i. get_or t.kn i 0)) (length payload ∷ payload), length-tab (2 * epsilon) (λ i. get_or t.kn i 0))

pub frame-laid : (l : List ℕ) (epsilon station : ℕ) (t : Timestamp) (payload l1 l2 : List ℕ)
    → l1 ≡ overlay (section (station ∷ two_bytes t.r)) l
    → l2 ≡ pasted l1 4 (later_sections (frame_of epsilon 0 t payload))
    → l2 ≡ overlay (encode (frame_of epsilon station t payload)) l
unfolding encode frame_of trimmed section two_bytes
frame-laid l epsilon station t payload l1 l2 e1 e2 =
    behind-laid l (section (station ∷ two_bytes t.r)) (later_sections (frame_of epsilon 0 t payload)) l1 l2 4 refl e1 e2

-- what stands at the front of bytes of its own, laid down whole at the front of others: it is all there, fits them, and stands there
pub record Whole (l s own : List ℕ) (size : ℕ) : Type 0 where
  pub there : size ≤ length own
  pub taken : size ≡ length (take size own)
  pub fits : 0 + length (take size own) ≤ length l
  pub laid : pasted l 0 (take size own) ≡ overlay s l

pub whole : (l s own₀ own : List ℕ) (size : ℕ) → size ≡ length s → own ≡ overlay s own₀ → length s ≤ length own → length s ≤ length l → Whole l s own size
whole l s own₀ own size a e h k =
    let there : size ≤ length own = omega arith in
    let taken : length (take size own) ≡ size = length-take-le size own there in
    record {
      there = there;
      taken = sym taken;
      fits = omega arith;
      laid = ap (λ (x : List ℕ). pasted l 0 x) (ap₂ (λ (n : ℕ) (x : List ℕ). take n x) a e ∙ take-overlay s own₀) ∙ front s l;
    }
